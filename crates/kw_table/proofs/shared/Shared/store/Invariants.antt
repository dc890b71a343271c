use Rattle.kw_table.proofs.shared.Shared.store.Given as goal

abbrev pub ghosts-store_as : goal.ghosts-store_as
ghosts-store_as a = record { choice = a.choice }
