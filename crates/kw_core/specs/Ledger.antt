-- The ledger: what has become of each row and since when each seat is in a visit, as the laws of
-- rows have it (`kw_rows`), and where each scan began to wait. It is folded along with the events
-- beside the record, and no code reads it: laws about rows that come and go speak of it.
--
-- A row is taken by a seat that builds it (`Infant`), linked into the list (`Live`), unlinked
-- (`Dead`), and may be taken again. A seat that is in a visit may still read a row that was
-- unlinked after the visit began.
use Rattle.std.specs.Prelude.{ℕ, zero, suc, ◌+◌, ◌==◌, Bool, true, false, if◌then◌else◌, Option, Some, None, List, [], ◌∷◌}
use Rattle.kw_words.specs.declared.layout.Name.TheVariants.{Clock}
use Rattle.kw_words.specs.declared.state.State.TheVariants as state
use Rattle.kw_words.specs.Link.{link_word}
use Rattle.kw_words.specs.State.{state_word}
use Rattle.kw_rows.specs.Events.{rest_of}
use Rattle.kw_rows.specs.Ledger as kw_rows
use Rattle.kw_world.specs.declared.activity.Activity.{Activity}
use Rattle.kw_world.specs.declared.activity.draw.Draw.TheVariants as Draw
use Rattle.kw_world.specs.declared.activity.enter.Enter.TheVariants as Enter
use Rattle.kw_world.specs.declared.activity.rebalance.Rebalance.TheVariants as Rebalance
use Rattle.kw_world.specs.declared.activity.rebalance.replace.Replace.TheVariants as Replace
use Rattle.kw_world.specs.declared.activity.rebalance.seek.Seek.TheVariants as Seek
use Rattle.kw_world.specs.declared.local.Local.{Local}
use Rattle.kw_world.specs.declared.opening.Opening.{Opening}
use Rattle.kw_world.specs.SeekTransitions.{infant}
use Rattle.kw_world.specs.Sizes.{Sizes}
use Rattle.kw_world.specs.WriteTransitions.{unmarked_link}
use Rattle.kw_core.specs.Words.{Words, least_in, next_in}

pub record Ledger : Type 0 where
  -- the fates of the rows, where the visits that are on began, and where numbers were drawn
  pub rows : kw_rows.Ledger
  -- of a scan that waits, the position of the event that stored so
  pub waits : ℕ → ℕ

-- at an opening row 0 is in the list, and every other row is free
abbrev pub status_at_first : ℕ → kw_rows.Status
status_at_first zero = kw_rows.Live
status_at_first (suc q) = kw_rows.Free

-- the fate of a row at an opening: the range of row 0 has no end
abbrev pub fate_at_first : Opening → ℕ → kw_rows.Fate
fate_at_first o q = record { status = status_at_first q; taken = 0; born = 0; gone = 0; owner = 0; upper = None; clock = o.clock }

-- the ledger of an opening: no seat is in a visit, no number is drawn, and no scan has waited
abbrev pub ledger_at_first : Opening → Ledger
ledger_at_first o = record { rows = record { fates = fate_at_first o; visits = λ s. None; numbered = λ m. None }; waits = λ s. 0 }

-- the rows' part with the visit of one seat set
abbrev pub with_visit : kw_rows.Ledger → ℕ → Option ℕ → kw_rows.Ledger
with_visit g s since = record g { visits = λ t. if t == s then since else g.visits t }

-- where scans waited, with the place of one seat's set
abbrev pub with_wait : (ℕ → ℕ) → ℕ → ℕ → ℕ → ℕ
with_wait waits s now t = if t == s then now else waits t

-- Rows that come and go.

-- the rows' part with the fate of one row set
abbrev pub with_fate : kw_rows.Ledger → ℕ → kw_rows.Fate → kw_rows.Ledger
with_fate g x f = record g { fates = λ q. if q == x then f else g.fates q }

-- the row is taken by the seat s, by the event at this position
abbrev pub fate_taken : ℕ → ℕ → kw_rows.Fate → kw_rows.Fate
fate_taken s now f = record f { status = kw_rows.Infant; taken = now + 1; owner = s }

-- it is free again, given back or used again
abbrev pub fate_free : kw_rows.Fate → kw_rows.Fate
fate_free f = record f { status = kw_rows.Free }

-- the least key of this row, if there is one
abbrev pub least_of : Words → Option ℕ → Option ℕ
least_of v (Some q) = Some (least_in v q)
least_of v None = None

-- the row q is linked: its range ends where that of the next row begins
abbrev pub fate_live : Words → ℕ → ℕ → kw_rows.Fate → kw_rows.Fate
fate_live v now q f = record f { status = kw_rows.Live; born = now + 1; upper = least_of v (next_in v q); clock = v Clock }

-- it is unlinked by the seat s
abbrev pub fate_dead : ℕ → ℕ → kw_rows.Fate → kw_rows.Fate
fate_dead s now f = record f { status = kw_rows.Dead; gone = now; owner = s }

-- the row is one of these
abbrev pub is_among : List ℕ → ℕ → Bool
is_among [] q = false
is_among (x ∷ xs) q = if q == x then true else is_among xs q

-- the rows of the group that the seat rebalances
abbrev pub group_of : Local → List ℕ
group_of l = l.row ∷ rest_of l.rebalance.second

-- the rows' part where the rows of the group are unlinked and those that the seat took are linked
abbrev pub with_replaced : Words → ℕ → ℕ → Local → kw_rows.Ledger → kw_rows.Ledger
with_replaced v s now l g = record g { fates = λ q. if is_among (group_of l) q then fate_dead s now (g.fates q) else if is_among l.rebalance.taken q then fate_live v now q (g.fates q) else g.fates q }

-- the rows' part where this number is drawn
abbrev pub with_number : kw_rows.Ledger → ℕ → ℕ → kw_rows.Ledger
with_number g m now = record g { numbered = λ n. if n == m then Some now else g.numbered n }

-- the ledger after the event of an activity, of the seat s that knew l and found this word among
-- these, at the position `now`: a seat that stores its pass word is in a visit from there on, one
-- that clears it, to leave or to try again, is in none, and a scan that stores that it waits does
-- so from there on. A seat that finds a row free takes it; it gives a row back; where it finds a
-- row retired with the number that it knows, that row is free from then on, and all else that is
-- recorded of it stays until it is taken again; where it finds the unmarked link to its full row,
-- the rows of its group are unlinked and the taken ones are linked; and the epoch that it finds
-- where it adds to it is the number that it draws
abbrev pub ledger_after : Sizes → Activity → ℕ → Local → ℕ → Words → ℕ → Ledger → Ledger
ledger_after z (Activity.Enter Enter.Announce) s l found v now g = record g { rows = with_visit g.rows s (Some now) }
ledger_after z (Activity.Draw Draw.Wait) s l found v now g = record g { waits = with_wait g.waits s now }
ledger_after z (Activity.Leave answer) s l found v now g = record g { rows = with_visit g.rows s None }
ledger_after z Activity.Retry s l found v now g = record g { rows = with_visit g.rows s None }
ledger_after z (Activity.Rebalance (Rebalance.Seek Seek.Take)) s l found v now g = if found == state_word state.Free then record g { rows = with_fate g.rows l.rebalance.sought (fate_taken s now (g.rows.fates l.rebalance.sought)) } else g
ledger_after z (Activity.Rebalance (Rebalance.Seek Seek.Reclaim)) s l found v now g = if found == state_word (state.Retired l.rebalance.number) then record g { rows = with_fate g.rows l.rebalance.sought (fate_free (g.rows.fates l.rebalance.sought)) } else g
ledger_after z (Activity.Rebalance (Rebalance.Seek Seek.GiveBack)) s l found v now g = record g { rows = with_fate g.rows (infant l) (fate_free (g.rows.fates (infant l))) }
ledger_after z (Activity.Rebalance (Rebalance.Replace Replace.Exchange)) s l found v now g = if found == link_word (unmarked_link (Some l.row)) then record g { rows = with_replaced v s now l g.rows } else g
ledger_after z (Activity.Rebalance (Rebalance.Replace Replace.Number)) s l found v now g = record g { rows = with_number g.rows found now }
ledger_after z _ s l found v now g = g
