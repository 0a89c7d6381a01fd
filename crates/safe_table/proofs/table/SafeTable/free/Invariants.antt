use Rattle.meaning.specs.declared.value.Entry.TheVariants.{Bare}
use Rattle.safe_table.proofs.table.SafeTable.free.Given as goal

abbrev pub ghosts-end : goal.ghosts-end
ghosts-end a = record { number = a.id; entry = Bare 0 }
