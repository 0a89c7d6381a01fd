use Rattle.meaning.specs.declared.value.Entry.TheVariants.{Bare}
use Rattle.safe_table.proofs.table.SafeTable.look.Given as goal

abbrev pub ghosts-load_end : goal.ghosts-load_end
ghosts-load_end a = record { number = a.id; entry = Bare 0 }
