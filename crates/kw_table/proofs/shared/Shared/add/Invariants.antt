use Rattle.kw_table.proofs.shared.Shared.add.Given as goal

abbrev pub ghosts-add_as : goal.ghosts-add_as
ghosts-add_as a = record { choice = a.choice }
