-- What an event leaves of the words: each event writes at most one, and `writes` names it.
--
-- For each family of words one lemma says when a word of it is kept. Its premises compute to
-- nothing at every activity that writes no word of the family.
use Rattle.std.proofs.Common.{ℕ, ◌≡◌, ◌≢◌, ◌+◌, ◌<◌, Bool, true, false, Option, Some, None, arith, refl, sym, ◌∙◌, ap}
use Rattle.std.proofs.lemmas.Option.{same_Some}
use Rattle.kw_words.specs.declared.layout.Name.{Name}
use Rattle.kw_words.specs.declared.layout.Name.TheVariants as name
use Rattle.kw_words.specs.declared.count.Count.{Count as Counted}
use Rattle.kw_words.specs.Layout.{IsWithin}
use Rattle.kw_words.specs.Count.{count_of}
use Rattle.kw_words.proofs.CountWords.{count_of_next}
use Rattle.kw_world.specs.declared.activity.Activity.{Activity}
use Rattle.kw_world.specs.declared.activity.draw.Draw.TheVariants as Draw
use Rattle.kw_world.specs.declared.activity.rebalance.claim.Claim.TheVariants as Claim
use Rattle.kw_world.specs.declared.activity.rebalance.engage.Engage.TheVariants as Engage
use Rattle.kw_world.specs.declared.activity.enter.Enter.TheVariants as Enter
use Rattle.kw_world.specs.declared.activity.rebalance.freeze.Freeze.TheVariants as Freeze
use Rattle.kw_world.specs.declared.activity.rebalance.left.Left.TheVariants as Left
use Rattle.kw_world.specs.declared.activity.insert.Insert.TheVariants as Insert
use Rattle.kw_world.specs.declared.activity.look.Look.TheVariants as Look
use Rattle.kw_world.specs.declared.activity.put.Put.TheVariants as Put
use Rattle.kw_world.specs.declared.activity.rebalance.Rebalance.TheVariants as Rebalance
use Rattle.kw_world.specs.declared.activity.rebalance.replace.Replace.TheVariants as Replace
use Rattle.kw_world.specs.declared.activity.rebalance.seek.Seek.TheVariants as Seek
use Rattle.kw_world.specs.declared.activity.walk.Walk.TheVariants as Walk
use Rattle.kw_world.specs.declared.activity.rebalance.write.Write.TheVariants as Write
use Rattle.kw_world.specs.declared.activity.rebalance.gather.Gather.TheVariants as Gather
use Rattle.kw_world.specs.declared.activity.read.Read.TheVariants as Read
use Rattle.kw_world.specs.declared.local.Local.{Local}
use Rattle.kw_world.specs.declared.event.Choice.{Choice}
use Rattle.kw_world.specs.declared.operation.Action.{Action}
use Rattle.kw_world.specs.declared.operation.Action.TheVariants.{Load}
use Rattle.kw_world.specs.Table.{transition}
use Rattle.kw_world.specs.declared.event.Choice.TheVariants.{Begin, Go, Guess, Stop}
use Rattle.kw_world.specs.Sizes.{Sizes}
use Rattle.kw_world.specs.PutTransitions.{given_of}
use Rattle.kw_world.specs.ListTransitions.{link_name, cell_guess, first_operation}
use Rattle.kw_world.specs.WalkTransitions.{start_transition, walk_transition, is_stopped}
use Rattle.kw_world.specs.SeekTransitions.{infant, seek_first_transition}
use Rattle.kw_world.specs.ClaimTransitions.{row_after}
use Rattle.kw_world.specs.LeftTransitions.{left_transition}
use Rattle.kw_world.specs.ReplaceTransitions.{before_transition, replaced_link}
use Rattle.kw_world.specs.Sane.{IsGiven}
use Rattle.kw_world.specs.Step.{word}
use Rattle.kw_core.specs.Run.{Run}
use Rattle.kw_core.specs.Words.{Words}
use Rattle.kw_core.proofs.Happens.{Happens}

-- What an event writes.

-- a walk that is stopped writes the scan's word
abbrev pub walk_writes : Bool → ℕ → Option Name
walk_writes true s = Some (name.Scan s)
walk_writes false s = None

-- the word that the event of an activity writes; none where it loads. The third is whether a walk
-- is stopped. That the table says so too is `written_is`: a line that writes and has no name here
-- is refused there
abbrev pub writes : Activity → ℕ → Bool → Local → Option Name
writes (Activity.Enter Enter.Announce) s b l = Some (name.Pass s)
writes (Activity.Draw Draw.Wait) s b l = Some (name.Scan s)
writes (Activity.Draw Draw.Version) s b l = Some name.Clock
writes (Activity.Draw Draw.Settle) s b l = Some (name.Scan s)
writes (Activity.Draw Draw.Pin) s b l = Some (name.Pin s)
writes (Activity.Walk Walk.Next) s b l = walk_writes b s
writes (Activity.Look Look.Help) s b l = Some (name.Pend l.row l.looked)
writes (Activity.EndScan answer) s b l = Some (name.Scan s)
writes Activity.ClearPin s b l = Some (name.Pin s)
writes (Activity.Put Put.Add) s b l = Some (name.Count l.row)
writes (Activity.Put Put.Key) s b l = Some (name.Key l.row l.cell)
writes (Activity.Put Put.Value) s b l = Some (name.Value l.row l.cell)
writes (Activity.Put Put.Announce) s b l = Some (name.Pend l.row s)
writes (Activity.Put Put.Stamp) s b l = Some (name.Pend l.row s)
writes (Activity.Put Put.Version) s b l = Some (name.Version l.row l.cell)
writes (Activity.Insert Insert.Set) s b l = Some (name.After l.row l.cell)
writes (Activity.Insert Insert.Exchange) s b l = Some (link_name l.row l.link)
writes (Activity.Put Put.Clear) s b l = Some (name.Pend l.row s)
writes (Activity.Leave answer) s b l = Some (name.Pass s)
writes Activity.Retry s b l = Some (name.Pass s)
writes (Activity.Rebalance (Rebalance.Engage (Engage.Normal seat))) s b l = Some (name.State l.row)
writes (Activity.Rebalance (Rebalance.Engage Engage.Lead)) s b l = Some (name.State l.row)
writes (Activity.Rebalance (Rebalance.Engage (Engage.MarkLink count))) s b l = Some (name.Next l.row)
writes (Activity.Rebalance (Rebalance.Engage (Engage.Decide count))) s b l = Some (name.State l.row)
writes (Activity.Rebalance (Rebalance.Claim Claim.Exchange)) s b l = Some (name.State (row_after l))
writes (Activity.Rebalance (Rebalance.Claim (Claim.Normal seat))) s b l = Some (name.State (row_after l))
writes (Activity.Rebalance (Rebalance.Claim Claim.MarkLink)) s b l = Some (name.Next (row_after l))
writes (Activity.Rebalance (Rebalance.Freeze Freeze.Count)) s b l = Some (name.Count l.rebalance.hand)
writes (Activity.Rebalance (Rebalance.Freeze (Freeze.Entry i))) s b l = Some (name.Pend l.rebalance.hand i)
writes (Activity.Rebalance (Rebalance.Freeze (Freeze.Draw i))) s b l = Some name.Clock
writes (Activity.Rebalance (Rebalance.Freeze (Freeze.Settle i))) s b l = Some (name.Scan i)
writes (Activity.Rebalance (Rebalance.Seek Seek.Reclaim)) s b l = Some (name.State l.rebalance.sought)
writes (Activity.Rebalance (Rebalance.Seek Seek.Take)) s b l = Some (name.State l.rebalance.sought)
writes (Activity.Rebalance (Rebalance.Seek Seek.GiveBack)) s b l = Some (name.State (infant l))
writes (Activity.Rebalance (Rebalance.Write Write.Count)) s b l = Some (name.Count (infant l))
writes (Activity.Rebalance (Rebalance.Write Write.Least)) s b l = Some (name.Least (infant l))
writes (Activity.Rebalance (Rebalance.Write Write.Next)) s b l = Some (name.Next (infant l))
writes (Activity.Rebalance (Rebalance.Write Write.First)) s b l = Some (name.First (infant l))
writes (Activity.Rebalance (Rebalance.Write (Write.Entry i))) s b l = Some (name.Pend (infant l) i)
writes (Activity.Rebalance (Rebalance.Write (Write.Key j))) s b l = Some (name.Key (infant l) j)
writes (Activity.Rebalance (Rebalance.Write (Write.Value j))) s b l = Some (name.Value (infant l) j)
writes (Activity.Rebalance (Rebalance.Write (Write.Version j))) s b l = Some (name.Version (infant l) j)
writes (Activity.Rebalance (Rebalance.Write (Write.After j))) s b l = Some (name.After (infant l) j)
writes (Activity.Rebalance (Rebalance.Replace Replace.Exchange)) s b l = Some (replaced_link l.rebalance.before)
writes (Activity.Rebalance (Rebalance.Replace Replace.Normalise)) s b l = Some (name.State (infant l))
writes (Activity.Rebalance (Rebalance.Replace Replace.Number)) s b l = Some name.Epoch
writes (Activity.Rebalance (Rebalance.Replace Replace.Retire)) s b l = Some (name.State l.rebalance.hand)
writes _ s b l = None

-- the word that an action on this word writes; none where it loads
abbrev written_by : Action → Name → Option Name
written_by Load n = None
written_by _ n = Some n

-- a walk along a row's list begins by a load
first_writes : (guess : Option ℕ) (l : Local) → written_by (first_operation guess l).action (first_operation guess l).name ≡ None
first_writes (Some cell) l = refl
first_writes None l = refl

-- `writes` has for each activity what the operation of its line writes
written_is : (z : Sizes) (a : Activity) (s : ℕ) (choice : Choice) (l : Local) → written_by (transition z a s choice l).operation.action (transition z a s choice l).operation.name ≡ writes a s (is_stopped choice l) l
written_is z (Activity.Walk Walk.Start) s choice l = starts choice
  where
    starts : (c : Choice) → written_by (start_transition c l).operation.action (start_transition c l).operation.name ≡ None
    starts (Begin call) = refl
    starts Go = refl
    starts (Guess q) = refl
    starts Stop = refl
written_is z (Activity.Walk Walk.Next) s choice l = walks (is_stopped choice l)
  where
    walks : (b : Bool) → written_by (walk_transition b s l).operation.action (walk_transition b s l).operation.name ≡ walk_writes b s
    walks true = refl
    walks false = refl
written_is z (Activity.Rebalance (Rebalance.Seek Seek.First)) s choice l = seeks choice
  where
    seeks : (c : Choice) → written_by (seek_first_transition c l).operation.action (seek_first_transition c l).operation.name ≡ None
    seeks (Begin call) = refl
    seeks Go = refl
    seeks (Guess q) = refl
    seeks Stop = refl
written_is z (Activity.Rebalance (Rebalance.Replace Replace.Start)) s choice l = begins choice
  where
    begins : (c : Choice) → written_by (before_transition c l).operation.action (before_transition c l).operation.name ≡ None
    begins (Begin call) = refl
    begins Go = refl
    begins (Guess q) = refl
    begins Stop = refl
written_is z (Activity.Rebalance (Rebalance.Left Left.Start)) s choice l = begins choice
  where
    begins : (c : Choice) → written_by (left_transition c l).operation.action (left_transition c l).operation.name ≡ None
    begins (Begin call) = refl
    begins Go = refl
    begins (Guess q) = refl
    begins Stop = refl
written_is z (Activity.Read Read.Start) s choice l = first_writes (cell_guess choice l) l
written_is z (Activity.Insert Insert.Start) s choice l = first_writes (cell_guess choice l) l
written_is z (Activity.Enter Enter.Announce) s choice l = refl
written_is z (Activity.Draw Draw.Clock) s choice l = refl
written_is z (Activity.Look Look.Key) s choice l = refl
written_is z (Activity.Read Read.Link) s choice l = refl
written_is z (Activity.Put Put.Count) s choice l = refl
written_is z (Activity.Insert Insert.Link) s choice l = refl
written_is z (Activity.Rebalance (Rebalance.Engage Engage.Clock)) s choice l = refl
written_is z (Activity.Rebalance (Rebalance.Claim Claim.Count)) s choice l = refl
written_is z (Activity.Rebalance (Rebalance.Freeze Freeze.Count)) s choice l = refl
written_is z (Activity.Rebalance (Rebalance.Gather Gather.Link)) s choice l = refl
written_is z (Activity.Rebalance (Rebalance.Write Write.Count)) s choice l = refl
written_is z _ s choice l = refl

-- whatever the action, a word that it does not write is kept
kept_by : (action : Action) (m n : Name) (v v' : Words) → (action ≡ Load → (x : Name) → v' x ≡ v x) → (n ≢ m → v' n ≡ v n) → written_by action m ≢ Some n → v' n ≡ v n
kept_by Load m n v v' loaded other d = loaded refl n
kept_by _ m n v v' loaded other d = other (λ e. d (ap Some (sym e)))

-- the word that is not written is kept
module _ {z : Sizes} {r r' : Run} {s : ℕ} {choice : Choice} {l l' : Local} where
  pub unwritten : (a : Activity) → Happens z r r' s choice l l' a → (n : Name) → IsWithin z.seats z.cells r.world.rows n → writes a s (is_stopped choice l) l ≢ Some n → word z r'.world n ≡ word z r.world n
  unwritten a h n i d =
      let it = transition z a s choice l in
      kept_by it.operation.action it.operation.name n (word z r.world) (word z r'.world) h.changed.loaded (h.changed.other n i) (λ e. d (sym (written_is z a s choice l) ∙ e))

-- The families of words that events write.

-- which activities write an entry of their seat, a pass word, a key, a value, and the link of their
-- row
abbrev pub WritesOwnEntry : Activity → Type 0
WritesOwnEntry (Activity.Put Put.Announce) = Unit {0}
WritesOwnEntry (Activity.Put Put.Stamp) = Unit {0}
WritesOwnEntry (Activity.Put Put.Clear) = Unit {0}
WritesOwnEntry _ = ⊥

abbrev pub WritesPass : Activity → Type 0
WritesPass (Activity.Enter Enter.Announce) = Unit {0}
WritesPass (Activity.Leave answer) = Unit {0}
WritesPass Activity.Retry = Unit {0}
WritesPass _ = ⊥

abbrev pub WritesKey : Activity → Type 0
WritesKey (Activity.Put Put.Key) = Unit {0}
WritesKey _ = ⊥

abbrev pub WritesValue : Activity → Type 0
WritesValue (Activity.Put Put.Value) = Unit {0}
WritesValue _ = ⊥

abbrev pub WritesNext : Activity → Type 0
WritesNext (Activity.Rebalance (Rebalance.Engage (Engage.MarkLink count))) = Unit {0}
WritesNext _ = ⊥

-- names of one family that are the same
pub same_pend : (q t x y : ℕ) → Some (name.Pend q t) ≡ Some (name.Pend x y) → (q ≡ x) × (t ≡ y)
same_pend q t x y e = (cc, cc)

pub same_count : (q x : ℕ) → Some (name.Count q) ≡ Some (name.Count x) → q ≡ x
same_count q x e = cc

pub same_scan : (q x : ℕ) → Some (name.Scan q) ≡ Some (name.Scan x) → q ≡ x
same_scan q x e = cc

same_pass : (q x : ℕ) → Some (name.Pass q) ≡ Some (name.Pass x) → q ≡ x
same_pass q x e = cc

-- a link between cells is no word of another family
abbrev pub is_link : Name → Bool
is_link (name.First q) = true
is_link (name.After q c) = true
is_link _ = false

pub no_link : {A : Type 0} (q : ℕ) (link : Option ℕ) (n : Name) → is_link n ≡ false → Some (link_name q link) ≡ Some n → A
no_link q (Some c) n f e = let x : true ≡ false = ap is_link (same_Some (name.After q c) n e) ∙ f in absurd (cc)
no_link q None n f e = let x : true ≡ false = ap is_link (same_Some (name.First q) n e) ∙ f in absurd (cc)

-- a link between rows is no word of another family
abbrev is_between : Name → Bool
is_between name.Head = true
is_between (name.Next q) = true
is_between _ = false

pub no_replaced : {A : Type 0} (before : Option ℕ) (n : Name) → is_between n ≡ false → Some (replaced_link before) ≡ Some n → A
no_replaced (Some p) n f e = let x : true ≡ false = ap is_between (same_Some (name.Next p) n e) ∙ f in absurd (cc)
no_replaced None n f e = let x : true ≡ false = ap is_between (same_Some name.Head n e) ∙ f in absurd (cc)

not_pass : (a : Activity) (s : ℕ) (b : Bool) (l : Local) (t : ℕ) → (WritesPass a → t ≡ s → ⊥) → writes a s b l ≢ Some (name.Pass t)
not_pass Activity.Retry s b l t f e = f tt (sym (same_pass s t e))
not_pass (Activity.Rebalance (Rebalance.Replace Replace.Exchange)) s b l t f e = no_replaced l.rebalance.before (name.Pass t) refl e
not_pass (Activity.Enter Enter.Announce) s b l t f e = f tt (sym (same_pass s t e))
not_pass (Activity.Leave answer) s b l t f e = f tt (sym (same_pass s t e))
not_pass (Activity.Insert Insert.Exchange) s b l t f e = no_link l.row l.link (name.Pass t) refl e
not_pass (Activity.Walk Walk.Next) s true l t f e = let x : Some (name.Scan s) ≡ Some (name.Pass t) = e in cc
not_pass (Activity.Walk Walk.Next) s false l t f e = let x : None ≡ Some (name.Pass t) = e in cc
not_pass (Activity.Draw Draw.Clock) s b l t f e = cc
not_pass (Activity.Look Look.Key) s b l t f e = cc
not_pass (Activity.Read Read.Link) s b l t f e = cc
not_pass (Activity.Put Put.Count) s b l t f e = cc
not_pass (Activity.Rebalance (Rebalance.Engage Engage.Clock)) s b l t f e = cc
not_pass (Activity.Rebalance (Rebalance.Claim Claim.Count)) s b l t f e = cc
not_pass (Activity.Rebalance (Rebalance.Freeze Freeze.Count)) s b l t f e = cc
not_pass (Activity.Rebalance (Rebalance.Gather Gather.Link)) s b l t f e = cc
not_pass (Activity.Rebalance (Rebalance.Seek Seek.Next)) s b l t f e = cc
not_pass (Activity.Rebalance (Rebalance.Write Write.Count)) s b l t f e = cc
not_pass _ s b l t f e = cc

-- one more cell is asked for
pub given-next : (w : ℕ) (c : Option Counted) → count_of w ≡ c → IsGiven c → given_of (count_of (w + 1)) ≡ given_of (count_of w) + 1
given-next w (Some c) e g = rw (count_of_next w c e (omega (arith, g)), e) refl
given-next w None e g = absurd g

module _ {z : Sizes} {r r' : Run} {s : ℕ} {choice : Choice} {l l' : Local} where
  -- a visit is kept, unless its seat enters or leaves
  pub pass_kept : (a : Activity) → Happens z r r' s choice l l' a → (t : ℕ) → t < z.seats → (WritesPass a → t ≡ s → ⊥) → word z r'.world (name.Pass t) ≡ word z r.world (name.Pass t)
  pass_kept a h t o f = unwritten a h (name.Pass t) o (not_pass a s (is_stopped choice l) l t f)
