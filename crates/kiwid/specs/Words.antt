-- What the words of the command line ask for. A word is seen as its bytes.
use Rattle.std.specs.Prelude.{ℕ, List, [], ◌∷◌, Option, Some, None}
use Rattle.kw_command.specs.Words.{number_in}
use Rattle.kiwid.specs.declared.words.Asked.{Asked}
use Rattle.kiwid.specs.declared.words.TheConstants.{MOST_PORT, MOST_SEATS, MOST_SESSIONS}

-- these three numbers, where all are in range
abbrev pub asked : Option ℕ → Option ℕ → Option ℕ → Option Asked
asked (Some port) (Some seats) (Some sessions) = Some (record { port = port; seats = seats; sessions = sessions })
asked (Some port) (Some seats) None = None
asked (Some port) None sessions = None
asked None seats sessions = None

-- three words are a port, how many seats, and how many connections each serves; any others are bad
abbrev pub asked_by : List (List ℕ) → Option Asked
asked_by (port ∷ seats ∷ sessions ∷ []) = asked (number_in 1 MOST_PORT port) (number_in 1 MOST_SEATS seats) (number_in 1 MOST_SESSIONS sessions)
asked_by _ = None
