use Rattle.safe_table.proofs.table.SafeTable.put.Given as goal

abbrev pub ghosts-swap_cell : goal.ghosts-swap_cell
ghosts-swap_cell a = record { number = a.a; entry = a._entry.now }
