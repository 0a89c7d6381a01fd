use Rattle.meaning.specs.declared.value.Entry.TheVariants.{Bare}
use Rattle.safe_table.proofs.table.SafeTable.alloc.Given as goal

abbrev pub ghosts-draw : goal.ghosts-draw
ghosts-draw a = record { number = a.k; entry = Bare 0 }
