-- The words stay in range: the one that an event writes, and all others.
use Rattle.std.proofs.Common.{ℕ, ◌≡◌, ◌⊎◌, inl, inr, ◌+◌, ◌<◌, ◌≤◌, ◌==◌, Bool, true, false, Option, Some, None, arith, refl, sym, ap, subst, bit_or, if◌then◌else◌}
use Rattle.std.proofs.lemmas.Bool.{cases_eq}
use Rattle.kw_words.specs.declared.layout.Name.{Name}
use Rattle.kw_words.specs.declared.layout.Name.TheVariants as name
use Rattle.kw_words.specs.declared.count.Count.{Count as Counted}
use Rattle.kw_words.specs.declared.pend.Pend.{Pend}
use Rattle.kw_words.specs.declared.pend.Pend.TheVariants as pend
use Rattle.kw_words.specs.declared.scan.ScanWord.{ScanWord}
use Rattle.kw_words.specs.declared.scan.ScanWord.TheVariants.{Quiet, Waiting, Drawn}
use Rattle.kw_words.specs.declared.sizes.TheConstants.{FROZEN_BIT, MARK_BIT, NUMBER_END, VERSION_END}
use Rattle.kw_words.specs.declared.link.Link.{Link}
use Rattle.kw_words.specs.declared.state.State.{State}
use Rattle.kw_words.specs.declared.state.State.TheVariants as state
use Rattle.kw_words.specs.declared.state.State.TheVariants.{Normal, Leader, Follower}
use Rattle.kw_words.specs.Link.{link_of, link_word}
use Rattle.kw_words.specs.State.{IsState, state_of, state_word}
use Rattle.kw_words.proofs.LinkWords.{link_of_marked}
use Rattle.kw_words.proofs.StateWords.{state_of-state_word}
use Rattle.kw_words.specs.Layout.{IsWithin, place_of}
use Rattle.kw_words.specs.Count.{count_of}
use Rattle.kw_words.specs.Pend.{IsPend, pend_of, pend_word}
use Rattle.kw_words.specs.Plain.{IsValue, value_word, cell_link_word}
use Rattle.kw_words.specs.Scan.{IsScan, scan_of, scan_word}
use Rattle.kw_words.proofs.CountWords.{count_of_frozen, count_of_next}
use Rattle.kw_words.proofs.PendWords.{pend_of-pend_word}
use Rattle.kw_words.proofs.ScanWords.{scan_of-scan_word}
use Rattle.kw_words.proofs.Places.{same_name}
use Rattle.kw_world.specs.declared.activity.Activity.{Activity}
use Rattle.kw_world.specs.declared.activity.draw.Draw.TheVariants as Draw
use Rattle.kw_world.specs.declared.activity.rebalance.claim.Claim.TheVariants as Claim
use Rattle.kw_world.specs.declared.activity.rebalance.engage.Engage.TheVariants as Engage
use Rattle.kw_world.specs.declared.activity.enter.Enter.TheVariants as Enter
use Rattle.kw_world.specs.declared.activity.rebalance.freeze.Freeze.TheVariants as Freeze
use Rattle.kw_world.specs.declared.activity.insert.Insert.TheVariants as Insert
use Rattle.kw_world.specs.declared.activity.rebalance.left.Left.TheVariants as Left
use Rattle.kw_world.specs.declared.activity.look.Look.TheVariants as Look
use Rattle.kw_world.specs.declared.activity.put.Put.TheVariants as Put
use Rattle.kw_world.specs.declared.activity.rebalance.Rebalance.TheVariants as Rebalance
use Rattle.kw_world.specs.declared.activity.rebalance.replace.Replace.TheVariants as Replace
use Rattle.kw_world.specs.declared.activity.rebalance.seek.Seek.TheVariants as Seek
use Rattle.kw_world.specs.declared.activity.walk.Walk.TheVariants as Walk
use Rattle.kw_world.specs.declared.activity.rebalance.write.Write.TheVariants as Write
use Rattle.kw_world.specs.declared.activity.rebalance.gather.Gather.TheVariants as Gather
use Rattle.kw_world.specs.declared.activity.read.Read.TheVariants as Read
use Rattle.kw_world.specs.declared.limits.TheConstants.{GIVEN_END}
use Rattle.kw_world.specs.declared.local.Local.{Local}
use Rattle.kw_world.specs.declared.event.Choice.{Choice}
use Rattle.kw_world.specs.declared.event.Choice.TheVariants.{Begin, Go, Guess, Stop}
use Rattle.kw_world.specs.Sizes.{Sizes}
use Rattle.kw_world.specs.Calls.{put_value}
use Rattle.kw_world.specs.Operation.{word_after}
use Rattle.kw_world.specs.ClaimTransitions.{row_after}
use Rattle.kw_world.specs.LeftTransitions.{left_transition}
use Rattle.kw_world.specs.Transition.{Transition, row_or_first}
use Rattle.kw_world.specs.ReplaceTransitions.{before_transition, first_infant, replaced_link}
use Rattle.kw_world.specs.SeekTransitions.{infant, seek_first_transition}
use Rattle.kw_world.specs.WriteTransitions.{unmarked_link}
use Rattle.kw_world.specs.PutTransitions.{given_of}
use Rattle.kw_world.specs.WalkTransitions.{start_transition, walk_transition, is_stopped}
use Rattle.kw_world.specs.Table.{transition}
use Rattle.kw_world.specs.declared.operation.Action.TheVariants.{Exchange}
use Rattle.kw_world.specs.ListTransitions.{cell_guess, first_operation, link_name}
use Rattle.kw_world.specs.Sane.{IsCellBelow, IsGiven, IsEntry, IsHead, IsKnownWord, IsLinkBelow, IsRowState, IsStateBelow, IsValueWord, IsWord, IsLed}
use Rattle.kw_core.specs.Words.{Words, given_in}
use Rattle.kw_core.proofs.Happens.{Changed}
use Rattle.kw_core.proofs.InRange.{first_in_range, put_in_range}
use Rattle.kw_shape.proofs.Known.{AreSane, IsKnownAt}
use Rattle.kw_shape.proofs.NewWords as new

-- the word after an exchange
exchanges : (P : ℕ → Type 0) (found x y : ℕ) → P found → P y → P (if found == x then y else found)
exchanges P found x y p q = saw (found == x)
  where
    saw : (b : Bool) → P (if b then y else found)
    saw true = q
    saw false = p

-- the word of a scan stands for it
scan_known : (x : ScanWord) → IsScan x → IsKnownWord (scan_of (scan_word x))
scan_known x i = subst IsKnownWord (sym (scan_of-scan_word x i)) tt

-- the word of an entry stands for it
entry_known : (z : Sizes) (x : Pend) → IsPend x → IsEntry z (Some x) → IsEntry z (pend_of (pend_word x))
entry_known z x i e = subst (IsEntry z) (sym (pend_of-pend_word x i)) e

-- a count that stays far from its end is one after one more
given_known : (w : ℕ) (c : Option Counted) → count_of w ≡ c → IsGiven c → given_of c + 1 < GIVEN_END → IsGiven (count_of (w + 1))
given_known w (Some c) e g o = subst IsGiven (sym (count_of_next w c e (omega (arith, o)))) o
given_known w None e g o = absurd g

-- a frozen count is as far from its end as it was
frozen_known : (w : ℕ) (c : Option Counted) → count_of w ≡ c → IsGiven c → IsGiven (count_of (bit_or w FROZEN_BIT))
frozen_known w (Some c) e g = subst IsGiven (sym (count_of_frozen w c e)) g
frozen_known w None e g = absurd g

-- the word of a link to a cell that is in range
held_below : {n : ℕ} (held : Option ℕ) → IsCellBelow n held → cell_link_word held ≤ n
held_below (Some c) o = omega (arith, o)
held_below None o = omega arith

-- the word of a state stands for it
state_known : (z : Sizes) (x : State) → IsState x → IsRowState z (Some x) → IsRowState z (state_of (state_word x))
state_known z x i e = subst (IsRowState z) (sym (state_of-state_word x i)) e

state_below : (rows : ℕ) (x : State) → IsState x → IsStateBelow rows (Some x) → IsStateBelow rows (state_of (state_word x))
state_below rows x i e = subst (IsStateBelow rows) (sym (state_of-state_word x i)) e

-- a marked link leads where it led
marked_known : (rows w : ℕ) (x : Option Link) → link_of w ≡ x → IsKnownWord x → IsLinkBelow rows x → IsKnownWord (link_of (bit_or w MARK_BIT)) × IsLinkBelow rows (link_of (bit_or w MARK_BIT))
marked_known rows w (Some link) e k b = let m = link_of_marked w link e in (subst IsKnownWord (sym m) tt, subst (IsLinkBelow rows) (sym m) b)
marked_known rows w None e k b = absurd k

-- the word of a value
value_known : (x : Option ℕ) → IsValue x → IsValueWord (value_word x)
value_known (Some v) i = inr (omega arith, omega (arith, i))
value_known None i = inl refl

-- one more is in range: a version or a number drawn, and a cell asked for; and the seat is one of
-- the table's
pub record HasMore (z : Sizes) (rows s : ℕ) (v : Words) : Type 0 where
  pub seat : s < z.seats
  pub clock : v name.Clock + 1 < VERSION_END
  pub epoch : v name.Epoch + 1 < NUMBER_END
  pub given : (q : ℕ) → q < rows → given_in v q + 1 < GIVEN_END

module _ (z : Sizes) (rows : ℕ) (v : Words) (s : ℕ) (choice : Choice) (l : Local) (w : AreSane z rows v) (more : HasMore z rows s v) where
  -- the word after the event of this line is in range
  abbrev Writes : Transition → Type 0
  Writes it = IsWord z it.operation.name (word_after it.operation.action (v it.operation.name)) × IsLed rows it.operation.name (word_after it.operation.action (v it.operation.name))

  -- the word that is loaded
  loaded : (m : Name) → IsWithin z.seats z.cells rows m → IsWord z m (v m) × IsLed rows m (v m)
  loaded m n = (w.each m n, w.led m n)

  starts : (c : Choice) → IsWithin z.seats z.cells rows (start_transition c l).operation.name → Writes (start_transition c l)
  starts (Begin call) n = loaded name.Head n
  starts Go n = loaded name.Head n
  starts (Guess r) n = loaded (name.State r) n
  starts Stop n = loaded name.Head n

  walks : (b : Bool) → IsWithin z.seats z.cells rows (walk_transition b s l).operation.name → Writes (walk_transition b s l)
  walks true n = (scan_known Quiet tt, tt)
  walks false n = loaded (name.Next l.row) n

  -- the state of a row is exchanged for one in range
  set_state : (q : ℕ) (x y : State) → IsState y → IsRowState z (Some y) → IsStateBelow rows (Some y) → q < rows → IsRowState z (state_of (word_after (Exchange (state_word x) (state_word y)) (v (name.State q)))) × IsStateBelow rows (state_of (word_after (Exchange (state_word x) (state_word y)) (v (name.State q))))
  set_state q x y i e b o = (exchanges (λ u. IsRowState z (state_of u)) (v (name.State q)) _ _ (w.each (name.State q) o) (state_known z y i e), exchanges (λ u. IsStateBelow rows (state_of u)) (v (name.State q)) _ _ (w.led (name.State q) o) (state_below rows y i b))

  -- a search for free rows, and one for the row before the full one, each from the row that the
  -- seat chooses
  seeks : (c : Choice) → IsWithin z.seats z.cells rows (seek_first_transition c l).operation.name → Writes (seek_first_transition c l)
  seeks (Begin call) n = loaded (name.State l.rebalance.sought) n
  seeks Go n = loaded (name.State l.rebalance.sought) n
  seeks (Guess r) n = loaded (name.State r) n
  seeks Stop n = loaded (name.State l.rebalance.sought) n

  guesses : (c : Choice) → IsWithin z.seats z.cells rows (before_transition c l).operation.name → Writes (before_transition c l)
  guesses (Begin call) n = loaded name.Head n
  guesses Go n = loaded name.Head n
  guesses (Guess r) n = loaded (name.State r) n
  guesses Stop n = loaded name.Head n

  -- the seat of a follower goes left
  lefts : (c : Choice) → IsWithin z.seats z.cells rows (left_transition c l).operation.name → Writes (left_transition c l)
  lefts (Begin call) n = loaded name.Head n
  lefts Go n = loaded name.Head n
  lefts (Guess r) n = loaded (name.Least (row_or_first l.rebalance.before)) n
  lefts Stop n = loaded name.Head n

  -- a walk along a list begins with a load
  firsts : (g : Option ℕ) → IsWithin z.seats z.cells rows (first_operation g l).name → IsWord z (first_operation g l).name (word_after (first_operation g l).action (v (first_operation g l).name)) × IsLed rows (first_operation g l).name (word_after (first_operation g l).action (v (first_operation g l).name))
  firsts (Some c) n = loaded (name.Key l.row c) n
  firsts None n = loaded (link_name l.row l.link) n

  -- the link to the full row is exchanged for one to the first new row
  links : (before : Option ℕ) → IsWithin z.seats z.cells rows (replaced_link before) → IsKnownAt z rows (Activity.Rebalance (Rebalance.Replace Replace.Exchange)) l →
      IsWord z (replaced_link before) (word_after (Exchange (link_word (unmarked_link (Some l.row))) (link_word (unmarked_link (Some (first_infant l))))) (v (replaced_link before))) ×
      IsLed rows (replaced_link before) (word_after (Exchange (link_word (unmarked_link (Some l.row))) (link_word (unmarked_link (Some (first_infant l))))) (v (replaced_link before)))
  links (Some p) n k =
      let y = new.row_known z rows l w.sized k.ranges k.below in
      (exchanges (λ u. IsKnownWord (link_of u)) (v (name.Next p)) _ _ (w.each (name.Next p) n) y.0, exchanges (λ u. IsLinkBelow rows (link_of u)) (v (name.Next p)) _ _ (w.led (name.Next p) n) y.1)
  links None n k =
      let y = new.row_known z rows l w.sized k.ranges k.below in
      (exchanges (λ u. IsKnownWord (link_of u)) (v name.Head) _ _ (w.each name.Head n) y.0, exchanges (λ u. IsHead rows (link_of u)) (v name.Head) _ _ (w.led name.Head n) (new.head_known z rows l w.sized k.ranges k.below))

  written : (a : Activity) → IsKnownAt z rows a l → IsWithin z.seats z.cells rows (transition z a s choice l).operation.name → Writes (transition z a s choice l)
  written (Activity.Enter Enter.Announce) k n = (k.ranges.epoch.1, tt)
  written (Activity.Draw Draw.Wait) k n = (scan_known (Waiting l.waiting) k.ranges.waiting, tt)
  written (Activity.Draw Draw.Version) k n = ((omega arith, more.clock), tt)
  written (Activity.Draw Draw.Settle) k n = (exchanges (λ u. IsKnownWord (scan_of u)) (v (name.Scan s)) _ _ (w.each (name.Scan s) n) (scan_known (Drawn l.drawn) k.ranges.drawn), tt)
  written (Activity.Draw Draw.Pin) k n = (scan_known (Drawn l.version) k.ranges.version, tt)
  written (Activity.Walk Walk.Start) k n = starts choice n
  written (Activity.Walk Walk.Next) k n = walks (is_stopped choice l) n
  written (Activity.Look Look.Help) k n = (exchanges (λ u. IsEntry z (pend_of u)) (v (name.Pend l.row l.looked)) _ _ (w.each (name.Pend l.row l.looked) n) (entry_known z (pend.Stamped l.saw l.helping) (omega (arith, k.ranges.saw, w.sized.few_cells), k.ranges.helping.0, k.ranges.helping.1) (k.ranges.saw, k.ranges.helping)), tt)
  written (Activity.EndScan answer) k n = (scan_known Quiet tt, tt)
  written Activity.ClearPin k n = (scan_known Quiet tt, tt)
  written (Activity.Put Put.Add) k n = (given_known (v (name.Count l.row)) _ refl (w.each (name.Count l.row) n) (more.given l.row n), tt)
  written (Activity.Put Put.Key) k n = (first_in_range l.call k.ranges.call, tt)
  written (Activity.Put Put.Value) k n = (value_known (put_value l.call) (put_in_range l.call k.ranges.call), tt)
  written (Activity.Put Put.Announce) k n = (exchanges (λ u. IsEntry z (pend_of u)) (v (name.Pend l.row s)) _ _ (w.each (name.Pend l.row s) n) (entry_known z (pend.Pending l.cell) (omega (arith, k.ranges.cell, w.sized.few_cells)) k.ranges.cell), tt)
  written (Activity.Put Put.Stamp) k n = (exchanges (λ u. IsEntry z (pend_of u)) (v (name.Pend l.row s)) _ _ (w.each (name.Pend l.row s) n) (entry_known z (pend.Stamped l.cell l.version) (omega (arith, k.ranges.cell, w.sized.few_cells), k.ranges.version.0, k.ranges.version.1) (k.ranges.cell, k.ranges.version)), tt)
  written (Activity.Put Put.Version) k n = (k.ranges.version.1, tt)
  written (Activity.Insert Insert.Set) k n = (held_below l.held k.ranges.held, tt)
  written (Activity.Insert Insert.Exchange) k n = (linked l.link (v (link_name l.row l.link)) (w.each (link_name l.row l.link) n) k.ranges.cell, led l.link _)
    where
      linked : (link : Option ℕ) (found : ℕ) → IsWord z (link_name l.row link) found → l.cell < z.cells → IsWord z (link_name l.row link) (word_after (Exchange (cell_link_word l.held) (cell_link_word (Some l.cell))) found)
      linked (Some c) found f o = exchanges (λ x. x ≤ z.cells) found _ _ f (omega (arith, o))
      linked None found f o = exchanges (λ x. x ≤ z.cells) found _ _ f (omega (arith, o))

      led : (link : Option ℕ) (x : ℕ) → IsLed rows (link_name l.row link) x
      led (Some c) x = tt
      led None x = tt
  written (Activity.Put Put.Clear) k n = (entry_known z pend.Idle tt tt, tt)
  written (Activity.Leave answer) k n = (omega arith, tt)
  written Activity.Retry k n = (omega arith, tt)
  written (Activity.Rebalance (Rebalance.Engage (Engage.Normal seat))) k n = set_state l.row (state.Infant seat) Normal tt tt tt n
  written (Activity.Rebalance (Rebalance.Engage Engage.Lead)) k n = set_state l.row Normal (Leader 0) (omega arith) tt tt n
  written (Activity.Rebalance (Rebalance.Engage (Engage.MarkLink count))) k n = marked_known rows (v (name.Next l.row)) _ refl (w.each (name.Next l.row) n) (w.led (name.Next l.row) n)
  written (Activity.Rebalance (Rebalance.Engage (Engage.Decide count))) k n = set_state l.row (Leader 0) (Leader count) k.activity tt tt n
  written (Activity.Rebalance (Rebalance.Claim Claim.Exchange)) k n = set_state (row_after l) Normal (Follower l.row) (omega (arith, k.below.row, w.sized.few_rows)) tt k.below.row n
  written (Activity.Rebalance (Rebalance.Claim (Claim.Normal seat))) k n = set_state (row_after l) (state.Infant seat) Normal tt tt tt n
  written (Activity.Rebalance (Rebalance.Claim Claim.MarkLink)) k n = marked_known rows (v (name.Next (row_after l))) _ refl (w.each (name.Next (row_after l)) n) (w.led (name.Next (row_after l)) n)
  written (Activity.Rebalance (Rebalance.Left Left.Start)) k n = lefts choice n
  written (Activity.Rebalance (Rebalance.Freeze Freeze.Count)) k n = (frozen_known (v (name.Count l.rebalance.hand)) _ refl (w.each (name.Count l.rebalance.hand) n), tt)
  written (Activity.Rebalance (Rebalance.Freeze (Freeze.Entry i))) k n = (exchanges (λ u. IsEntry z (pend_of u)) (v (name.Pend l.rebalance.hand i)) _ _ (w.each (name.Pend l.rebalance.hand i) n) (entry_known z pend.Frozen tt tt), tt)
  written (Activity.Rebalance (Rebalance.Freeze (Freeze.Draw i))) k n = ((omega arith, more.clock), tt)
  written (Activity.Rebalance (Rebalance.Freeze (Freeze.Settle i))) k n = (exchanges (λ u. IsKnownWord (scan_of u)) (v (name.Scan i)) _ _ (w.each (name.Scan i) n) (scan_known (Drawn l.rebalance.drawn) k.ranges.rebalance.drawn), tt)
  written (Activity.Rebalance (Rebalance.Seek Seek.First)) k n = seeks choice n
  written (Activity.Rebalance (Rebalance.Seek Seek.Reclaim)) k n = set_state l.rebalance.sought (state.Retired l.rebalance.number) state.Free tt tt tt n
  written (Activity.Rebalance (Rebalance.Seek Seek.Take)) k n = set_state l.rebalance.sought state.Free (state.Infant s) (omega (arith, more.seat, w.sized.few_seats)) more.seat tt n
  written (Activity.Rebalance (Rebalance.Seek Seek.GiveBack)) k n = (state_known z state.Free tt tt, state_below rows state.Free tt tt)
  written (Activity.Rebalance (Rebalance.Write Write.Count)) k n = (new.count_known z rows l w.sized k.ranges k.below, tt)
  written (Activity.Rebalance (Rebalance.Write Write.Least)) k n = (new.least_known z rows l w.sized k.ranges k.below, tt)
  written (Activity.Rebalance (Rebalance.Write Write.Next)) k n = new.next_known z rows l w.sized k.ranges k.below
  written (Activity.Rebalance (Rebalance.Write Write.First)) k n = (new.first_known z rows l w.sized k.ranges k.below, tt)
  written (Activity.Rebalance (Rebalance.Write (Write.Entry i))) k n = (entry_known z pend.Idle tt tt, tt)
  written (Activity.Rebalance (Rebalance.Write (Write.Key j))) k n = (new.key_known z rows l w.sized k.ranges k.below j, tt)
  written (Activity.Rebalance (Rebalance.Write (Write.Value j))) k n = (new.value_known z rows l w.sized k.ranges k.below j, tt)
  written (Activity.Rebalance (Rebalance.Write (Write.Version j))) k n = (new.version_known z rows l w.sized k.ranges k.below j, tt)
  written (Activity.Rebalance (Rebalance.Write (Write.After j))) k n = (new.after_known z rows l w.sized k.ranges k.below j k.activity, tt)
  written (Activity.Rebalance (Rebalance.Replace Replace.Start)) k n = guesses choice n
  written (Activity.Rebalance (Rebalance.Replace Replace.Exchange)) k n = links l.rebalance.before n k
  written (Activity.Rebalance (Rebalance.Replace Replace.Normalise)) k n = set_state (infant l) (state.Infant s) Normal tt tt tt n
  written (Activity.Rebalance (Rebalance.Replace Replace.Number)) k n = ((omega arith, more.epoch), tt)
  written (Activity.Rebalance (Rebalance.Replace Replace.Retire)) k n = (state_known z (state.Retired l.rebalance.number) k.ranges.rebalance.number k.ranges.rebalance.number, state_below rows (state.Retired l.rebalance.number) k.ranges.rebalance.number tt)
  written (Activity.Read Read.Start) k n = firsts (cell_guess choice l) n
  written (Activity.Insert Insert.Start) k n = firsts (cell_guess choice l) n
  written (Activity.Read Read.Link) k n = loaded (transition z (Activity.Read Read.Link) s choice l).operation.name n
  written (Activity.Rebalance (Rebalance.Gather Gather.Link)) k n = loaded (transition z (Activity.Rebalance (Rebalance.Gather Gather.Link)) s choice l).operation.name n
  written a k n = loaded (transition z a s choice l).operation.name n

  -- a word after the event: the one that was written, or another
  each_word : (v' : Words) (it : Transition) → Writes it → IsWithin z.seats z.cells rows it.operation.name → Changed z rows v v' it → (m : Name) → IsWithin z.seats z.cells rows m → IsWord z m (v' m) × IsLed rows m (v' m)
  each_word v' it x n h m i = which (cases_eq (place_of z.seats z.cells m) (place_of z.seats z.cells it.operation.name))
    where
      which : (place_of z.seats z.cells m ≡ place_of z.seats z.cells it.operation.name) ⊎ (place_of z.seats z.cells m ≡ place_of z.seats z.cells it.operation.name → ⊥) → IsWord z m (v' m) × IsLed rows m (v' m)
      which (inl e) =
          let f : IsWord z it.operation.name (v' it.operation.name) = subst (IsWord z it.operation.name) (sym h.same) x.0 in
          let g : IsLed rows it.operation.name (v' it.operation.name) = subst (IsLed rows it.operation.name) (sym h.same) x.1 in
          subst (λ y. IsWord z y (v' y) × IsLed rows y (v' y)) (sym (same_name z.seats z.cells rows it.operation.name m n i e)) (f, g)
      which (inr d) = let f : v' m ≡ v m = h.other m i (λ e. d (ap (place_of z.seats z.cells) e)) in (subst (IsWord z m) (sym f) (w.each m i), subst (IsLed rows m) (sym f) (w.led m i))

  -- all words after the event
  pub words_sane : (a : Activity) (v' : Words) → IsKnownAt z rows a l → IsWithin z.seats z.cells rows (transition z a s choice l).operation.name → Changed z rows v v' (transition z a s choice l) → AreSane z rows v'
  words_sane a v' k n h =
      let each = each_word v' (transition z a s choice l) (written a k n) n h in
      record { sized = w.sized; each = λ m i. (each m i).0; led = λ m i. (each m i).1 }
