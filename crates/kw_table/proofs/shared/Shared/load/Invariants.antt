use Rattle.kw_table.proofs.shared.Shared.load.Given as goal

abbrev pub ghosts-load_as : goal.ghosts-load_as
ghosts-load_as a = record { choice = a.choice }
