use Rattle.meaning.specs.declared.value.Entry.TheVariants.{Bare}
use Rattle.safe_table.proofs.table.SafeTable.get.Given as goal

abbrev pub ghosts-load_cell : goal.ghosts-load_cell
ghosts-load_cell a = record { number = a.a; entry = Bare 0 }
