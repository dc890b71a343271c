use Rattle.kw_table.proofs.shared.Shared.unite.Given as goal

abbrev pub ghosts-unite_as : goal.ghosts-unite_as
ghosts-unite_as a = record { choice = a.choice }
