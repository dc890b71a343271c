use Rattle.kw_table.proofs.shared.Shared.exchange.Given as goal

abbrev pub ghosts-exchange_as : goal.ghosts-exchange_as
ghosts-exchange_as a = record { choice = a.choice }
