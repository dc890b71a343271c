-- What an event leaves of the words of rows, whichever activity it is of: also of those that write
-- new rows, link them, and retire the rows that they replace.
--
-- For each family of words a type says of which row, and at which place there, the event of an
-- activity changes the word; everywhere else the word stays. `row_stays` says so of all words of a
-- row at once, for a row that is none of those on which the seat acts. The last part says what each
-- event of these leaves in its own word: an exchange that is won or lost, a store, a sum.
use Rattle.std.proofs.Common.{ℕ, ◌≡◌, ◌≢◌, ◌+◌, ◌<◌, Bool, true, false, Option, Some, None, refl, sym, ◌∙◌, ap, slice_get, length}
use Rattle.std.proofs.lemmas.Option.{same_Some}
use Rattle.kw_words.specs.declared.layout.Name.{Name}
use Rattle.kw_words.specs.declared.layout.Name.TheVariants as name
use Rattle.kw_words.specs.declared.pend.Pend.TheVariants as pend
use Rattle.kw_words.specs.declared.state.State.TheVariants.{Free, Infant, Normal, Retired}
use Rattle.kw_words.specs.Count.{count_word}
use Rattle.kw_words.specs.Layout.{IsWithin}
use Rattle.kw_words.specs.Link.{IsLink, link_of, link_word}
use Rattle.kw_words.specs.Pend.{pend_word}
use Rattle.kw_words.specs.Plain.{cell_link_word, key_word, least_word, value_word, version_word}
use Rattle.kw_words.specs.State.{state_word}
use Rattle.kw_words.proofs.LinkWords.{link_of-link_word, link_word_of}
use Rattle.kw_cells.specs.Cells.{value_in}
use Rattle.kw_world.specs.declared.activity.Activity.{Activity}
use Rattle.kw_world.specs.declared.activity.draw.Draw.TheVariants as Draw
use Rattle.kw_world.specs.declared.activity.rebalance.claim.Claim.TheVariants as Claim
use Rattle.kw_world.specs.declared.activity.rebalance.engage.Engage.TheVariants as Engage
use Rattle.kw_world.specs.declared.activity.enter.Enter.TheVariants as Enter
use Rattle.kw_world.specs.declared.activity.rebalance.freeze.Freeze.TheVariants as Freeze
use Rattle.kw_world.specs.declared.activity.insert.Insert.TheVariants as Insert
use Rattle.kw_world.specs.declared.activity.look.Look.TheVariants as Look
use Rattle.kw_world.specs.declared.activity.put.Put.TheVariants as Put
use Rattle.kw_world.specs.declared.activity.rebalance.Rebalance.TheVariants as Rebalance
use Rattle.kw_world.specs.declared.activity.rebalance.replace.Replace.TheVariants as Replace
use Rattle.kw_world.specs.declared.activity.rebalance.seek.Seek.TheVariants as Seek
use Rattle.kw_world.specs.declared.activity.walk.Walk.TheVariants as Walk
use Rattle.kw_world.specs.declared.activity.rebalance.write.Write.TheVariants as Write
use Rattle.kw_world.specs.declared.activity.rebalance.gather.Gather.TheVariants as Gather
use Rattle.kw_world.specs.declared.activity.read.Read.TheVariants as Read
use Rattle.kw_world.specs.declared.event.Choice.{Choice}
use Rattle.kw_world.specs.declared.local.Local.{Local}
use Rattle.kw_world.specs.ListTransitions.{link_name}
use Rattle.kw_world.specs.ClaimTransitions.{row_after}
use Rattle.kw_world.specs.ReplaceTransitions.{first_infant, replaced_link}
use Rattle.kw_world.specs.Sane.{IsCellBelow}
use Rattle.kw_world.specs.SeekTransitions.{infant}
use Rattle.kw_world.specs.Sizes.{Sizes}
use Rattle.kw_world.specs.Step.{word}
use Rattle.kw_world.specs.WalkTransitions.{is_stopped}
use Rattle.kw_world.specs.WriteTransitions.{first_listed, infant_cells, infant_count, infant_least, infant_link, key_in, listed_after, unmarked_link, version_in}
use Rattle.kw_world.proofs.Transitions.{link_within}
use Rattle.kw_core.specs.Run.{Run}
use Rattle.kw_core.proofs.Frame.{no_link, no_replaced, unwritten, writes}
use Rattle.kw_core.proofs.Happens.{Happens, exchanged, not_exchanged}

-- The places that events change.

-- the head
abbrev pub ChangesHead : Activity → ℕ → Local → Type 0
ChangesHead (Activity.Rebalance (Rebalance.Replace Replace.Exchange)) s l = l.rebalance.before ≡ None
ChangesHead _ s l = ⊥

-- the epoch
abbrev pub ChangesEpoch : Activity → ℕ → Local → Type 0
ChangesEpoch (Activity.Rebalance (Rebalance.Replace Replace.Number)) s l = Unit {0}
ChangesEpoch _ s l = ⊥

-- the state of row q
abbrev pub ChangesState : Activity → ℕ → Local → ℕ → Type 0
ChangesState (Activity.Rebalance (Rebalance.Engage (Engage.Normal seat))) s l q = q ≡ l.row
ChangesState (Activity.Rebalance (Rebalance.Engage Engage.Lead)) s l q = q ≡ l.row
ChangesState (Activity.Rebalance (Rebalance.Engage (Engage.Decide count))) s l q = q ≡ l.row
ChangesState (Activity.Rebalance (Rebalance.Seek Seek.Reclaim)) s l q = q ≡ l.rebalance.sought
ChangesState (Activity.Rebalance (Rebalance.Seek Seek.Take)) s l q = q ≡ l.rebalance.sought
ChangesState (Activity.Rebalance (Rebalance.Seek Seek.GiveBack)) s l q = q ≡ infant l
ChangesState (Activity.Rebalance (Rebalance.Replace Replace.Normalise)) s l q = q ≡ infant l
ChangesState (Activity.Rebalance (Rebalance.Replace Replace.Retire)) s l q = q ≡ l.rebalance.hand
ChangesState (Activity.Rebalance (Rebalance.Claim Claim.Exchange)) s l q = q ≡ row_after l
ChangesState (Activity.Rebalance (Rebalance.Claim (Claim.Normal seat))) s l q = q ≡ row_after l
ChangesState _ s l q = ⊥

-- its count
abbrev pub ChangesCount : Activity → ℕ → Local → ℕ → Type 0
ChangesCount (Activity.Put Put.Add) s l q = q ≡ l.row
ChangesCount (Activity.Rebalance (Rebalance.Freeze Freeze.Count)) s l q = q ≡ l.rebalance.hand
ChangesCount (Activity.Rebalance (Rebalance.Write Write.Count)) s l q = q ≡ infant l
ChangesCount _ s l q = ⊥

-- its least key
abbrev pub ChangesLeast : Activity → ℕ → Local → ℕ → Type 0
ChangesLeast (Activity.Rebalance (Rebalance.Write Write.Least)) s l q = q ≡ infant l
ChangesLeast _ s l q = ⊥

-- its link to the next row
abbrev pub ChangesNext : Activity → ℕ → Local → ℕ → Type 0
ChangesNext (Activity.Rebalance (Rebalance.Engage (Engage.MarkLink count))) s l q = q ≡ l.row
ChangesNext (Activity.Rebalance (Rebalance.Claim Claim.MarkLink)) s l q = q ≡ row_after l
ChangesNext (Activity.Rebalance (Rebalance.Write Write.Next)) s l q = q ≡ infant l
ChangesNext (Activity.Rebalance (Rebalance.Replace Replace.Exchange)) s l q = l.rebalance.before ≡ Some q
ChangesNext _ s l q = ⊥

-- the entry of seat t in it
abbrev pub ChangesEntry : Activity → ℕ → Local → ℕ → ℕ → Type 0
ChangesEntry (Activity.Look Look.Help) s l q t = (q ≡ l.row) × (t ≡ l.looked)
ChangesEntry (Activity.Put Put.Announce) s l q t = (q ≡ l.row) × (t ≡ s)
ChangesEntry (Activity.Put Put.Stamp) s l q t = (q ≡ l.row) × (t ≡ s)
ChangesEntry (Activity.Put Put.Clear) s l q t = (q ≡ l.row) × (t ≡ s)
ChangesEntry (Activity.Rebalance (Rebalance.Freeze (Freeze.Entry i))) s l q t = (q ≡ l.rebalance.hand) × (t ≡ i)
ChangesEntry (Activity.Rebalance (Rebalance.Write (Write.Entry i))) s l q t = (q ≡ infant l) × (t ≡ i)
ChangesEntry _ s l q t = ⊥

-- the key of its cell c
abbrev pub ChangesKey : Activity → ℕ → Local → ℕ → ℕ → Type 0
ChangesKey (Activity.Put Put.Key) s l q c = (q ≡ l.row) × (c ≡ l.cell)
ChangesKey (Activity.Rebalance (Rebalance.Write (Write.Key j))) s l q c = (q ≡ infant l) × (c ≡ j)
ChangesKey _ s l q c = ⊥

-- the value of that cell
abbrev pub ChangesValue : Activity → ℕ → Local → ℕ → ℕ → Type 0
ChangesValue (Activity.Put Put.Value) s l q c = (q ≡ l.row) × (c ≡ l.cell)
ChangesValue (Activity.Rebalance (Rebalance.Write (Write.Value j))) s l q c = (q ≡ infant l) × (c ≡ j)
ChangesValue _ s l q c = ⊥

-- its version
abbrev pub ChangesVersion : Activity → ℕ → Local → ℕ → ℕ → Type 0
ChangesVersion (Activity.Put Put.Version) s l q c = (q ≡ l.row) × (c ≡ l.cell)
ChangesVersion (Activity.Rebalance (Rebalance.Write (Write.Version j))) s l q c = (q ≡ infant l) × (c ≡ j)
ChangesVersion _ s l q c = ⊥

-- the link between its cells that stands there
abbrev pub ChangesLink : Activity → ℕ → Local → ℕ → Option ℕ → Type 0
ChangesLink (Activity.Insert Insert.Set) s l q at = (q ≡ l.row) × (at ≡ Some l.cell)
ChangesLink (Activity.Insert Insert.Exchange) s l q at = (q ≡ l.row) × (at ≡ l.link)
ChangesLink (Activity.Rebalance (Rebalance.Write Write.First)) s l q at = (q ≡ infant l) × (at ≡ None)
ChangesLink (Activity.Rebalance (Rebalance.Write (Write.After j))) s l q at = (q ≡ infant l) × (at ≡ Some j)
ChangesLink _ s l q at = ⊥

-- Names of one family that are the same.

same_state : (x q : ℕ) → Some (name.State x) ≡ Some (name.State q) → q ≡ x
same_state x q e = cc

same_count : (x q : ℕ) → Some (name.Count x) ≡ Some (name.Count q) → q ≡ x
same_count x q e = cc

same_least : (x q : ℕ) → Some (name.Least x) ≡ Some (name.Least q) → q ≡ x
same_least x q e = cc

same_next : (x q : ℕ) → Some (name.Next x) ≡ Some (name.Next q) → q ≡ x
same_next x q e = cc

same_entry : (x y q t : ℕ) → Some (name.Pend x y) ≡ Some (name.Pend q t) → (q ≡ x) × (t ≡ y)
same_entry x y q t e = (cc, cc)

same_key : (x y q t : ℕ) → Some (name.Key x y) ≡ Some (name.Key q t) → (q ≡ x) × (t ≡ y)
same_key x y q t e = (cc, cc)

same_value : (x y q t : ℕ) → Some (name.Value x y) ≡ Some (name.Value q t) → (q ≡ x) × (t ≡ y)
same_value x y q t e = (cc, cc)

same_version : (x y q t : ℕ) → Some (name.Version x y) ≡ Some (name.Version q t) → (q ≡ x) × (t ≡ y)
same_version x y q t e = (cc, cc)

-- links between cells that are one word are one link
same_link : (x : ℕ) (y : Option ℕ) (q : ℕ) (at : Option ℕ) → Some (link_name x y) ≡ Some (link_name q at) → (q ≡ x) × (at ≡ y)
same_link x (Some c) q (Some d) e = let f : name.After x c ≡ name.After q d = same_Some (name.After x c) (name.After q d) e in (cc, cc)
same_link x (Some c) q None e = let f : Some (name.After x c) ≡ Some (name.First q) = e in absurd (cc)
same_link x None q (Some d) e = let f : Some (name.First x) ≡ Some (name.After q d) = e in absurd (cc)
same_link x None q None e = let f : name.First x ≡ name.First q = same_Some (name.First x) (name.First q) e in (cc, refl)

-- the one that is exchanged
replaces_next : (before : Option ℕ) (q : ℕ) → Some (replaced_link before) ≡ Some (name.Next q) → before ≡ Some q
replaces_next (Some p) q e = let x : q ≡ p = same_next p q e in ap Some (sym x)
replaces_next None q e = let x : Some name.Head ≡ Some (name.Next q) = e in absurd (cc)

replaces_head : (before : Option ℕ) → Some (replaced_link before) ≡ Some name.Head → before ≡ None
replaces_head (Some p) e = let x : Some (name.Next p) ≡ Some name.Head = e in absurd (cc)
replaces_head None e = refl

-- Elsewhere no event writes.

not_head : (a : Activity) (s : ℕ) (b : Bool) (l : Local) → (ChangesHead a s l → ⊥) → writes a s b l ≢ Some name.Head
not_head (Activity.Rebalance (Rebalance.Replace Replace.Exchange)) s b l f e = f (replaces_head l.rebalance.before e)
not_head (Activity.Insert Insert.Exchange) s b l f e = no_link l.row l.link name.Head refl e
not_head (Activity.Walk Walk.Next) s true l f e = let x : Some (name.Scan s) ≡ Some name.Head = e in cc
not_head (Activity.Walk Walk.Next) s false l f e = let x : None ≡ Some name.Head = e in cc
not_head (Activity.Enter Enter.Announce) s b l f e = cc
not_head (Activity.Draw Draw.Clock) s b l f e = cc
not_head (Activity.Look Look.Key) s b l f e = cc
not_head (Activity.Read Read.Link) s b l f e = cc
not_head (Activity.Put Put.Count) s b l f e = cc
not_head (Activity.Rebalance (Rebalance.Engage Engage.Clock)) s b l f e = cc
not_head (Activity.Rebalance (Rebalance.Claim Claim.Count)) s b l f e = cc
not_head (Activity.Rebalance (Rebalance.Freeze Freeze.Count)) s b l f e = cc
not_head (Activity.Rebalance (Rebalance.Gather Gather.Link)) s b l f e = cc
not_head (Activity.Rebalance (Rebalance.Seek Seek.Next)) s b l f e = cc
not_head (Activity.Rebalance (Rebalance.Write Write.Count)) s b l f e = cc
not_head _ s b l f e = cc

not_epoch : (a : Activity) (s : ℕ) (b : Bool) (l : Local) → (ChangesEpoch a s l → ⊥) → writes a s b l ≢ Some name.Epoch
not_epoch (Activity.Rebalance (Rebalance.Replace Replace.Number)) s b l f e = f (tt)
not_epoch (Activity.Rebalance (Rebalance.Replace Replace.Exchange)) s b l f e = no_replaced l.rebalance.before name.Epoch refl e
not_epoch (Activity.Insert Insert.Exchange) s b l f e = no_link l.row l.link name.Epoch refl e
not_epoch (Activity.Walk Walk.Next) s true l f e = let x : Some (name.Scan s) ≡ Some name.Epoch = e in cc
not_epoch (Activity.Walk Walk.Next) s false l f e = let x : None ≡ Some name.Epoch = e in cc
not_epoch (Activity.Enter Enter.Announce) s b l f e = cc
not_epoch (Activity.Draw Draw.Clock) s b l f e = cc
not_epoch (Activity.Look Look.Key) s b l f e = cc
not_epoch (Activity.Read Read.Link) s b l f e = cc
not_epoch (Activity.Put Put.Count) s b l f e = cc
not_epoch (Activity.Rebalance (Rebalance.Engage Engage.Clock)) s b l f e = cc
not_epoch (Activity.Rebalance (Rebalance.Claim Claim.Count)) s b l f e = cc
not_epoch (Activity.Rebalance (Rebalance.Freeze Freeze.Count)) s b l f e = cc
not_epoch (Activity.Rebalance (Rebalance.Gather Gather.Link)) s b l f e = cc
not_epoch (Activity.Rebalance (Rebalance.Seek Seek.Next)) s b l f e = cc
not_epoch (Activity.Rebalance (Rebalance.Write Write.Count)) s b l f e = cc
not_epoch _ s b l f e = cc

not_state : (a : Activity) (s : ℕ) (b : Bool) (l : Local) (q : ℕ) → (ChangesState a s l q → ⊥) → writes a s b l ≢ Some (name.State q)
not_state (Activity.Rebalance (Rebalance.Engage (Engage.Normal seat))) s b l q f e = f (same_state l.row q e)
not_state (Activity.Rebalance (Rebalance.Engage Engage.Lead)) s b l q f e = f (same_state l.row q e)
not_state (Activity.Rebalance (Rebalance.Engage (Engage.Decide count))) s b l q f e = f (same_state l.row q e)
not_state (Activity.Rebalance (Rebalance.Seek Seek.Reclaim)) s b l q f e = f (same_state l.rebalance.sought q e)
not_state (Activity.Rebalance (Rebalance.Seek Seek.Take)) s b l q f e = f (same_state l.rebalance.sought q e)
not_state (Activity.Rebalance (Rebalance.Seek Seek.GiveBack)) s b l q f e = f (same_state (infant l) q e)
not_state (Activity.Rebalance (Rebalance.Replace Replace.Normalise)) s b l q f e = f (same_state (infant l) q e)
not_state (Activity.Rebalance (Rebalance.Replace Replace.Retire)) s b l q f e = f (same_state l.rebalance.hand q e)
not_state (Activity.Rebalance (Rebalance.Claim Claim.Exchange)) s b l q f e = f (same_state (row_after l) q e)
not_state (Activity.Rebalance (Rebalance.Claim (Claim.Normal seat))) s b l q f e = f (same_state (row_after l) q e)
not_state (Activity.Rebalance (Rebalance.Replace Replace.Exchange)) s b l q f e = no_replaced l.rebalance.before (name.State q) refl e
not_state (Activity.Insert Insert.Exchange) s b l q f e = no_link l.row l.link (name.State q) refl e
not_state (Activity.Walk Walk.Next) s true l q f e = let x : Some (name.Scan s) ≡ Some (name.State q) = e in cc
not_state (Activity.Walk Walk.Next) s false l q f e = let x : None ≡ Some (name.State q) = e in cc
not_state (Activity.Enter Enter.Announce) s b l q f e = cc
not_state (Activity.Draw Draw.Clock) s b l q f e = cc
not_state (Activity.Look Look.Key) s b l q f e = cc
not_state (Activity.Read Read.Link) s b l q f e = cc
not_state (Activity.Put Put.Count) s b l q f e = cc
not_state (Activity.Rebalance (Rebalance.Freeze Freeze.Count)) s b l q f e = cc
not_state (Activity.Rebalance (Rebalance.Gather Gather.Link)) s b l q f e = cc
not_state (Activity.Rebalance (Rebalance.Write Write.Count)) s b l q f e = cc
not_state _ s b l q f e = cc

not_count : (a : Activity) (s : ℕ) (b : Bool) (l : Local) (q : ℕ) → (ChangesCount a s l q → ⊥) → writes a s b l ≢ Some (name.Count q)
not_count (Activity.Put Put.Add) s b l q f e = f (same_count l.row q e)
not_count (Activity.Rebalance (Rebalance.Freeze Freeze.Count)) s b l q f e = f (same_count l.rebalance.hand q e)
not_count (Activity.Rebalance (Rebalance.Write Write.Count)) s b l q f e = f (same_count (infant l) q e)
not_count (Activity.Rebalance (Rebalance.Replace Replace.Exchange)) s b l q f e = no_replaced l.rebalance.before (name.Count q) refl e
not_count (Activity.Insert Insert.Exchange) s b l q f e = no_link l.row l.link (name.Count q) refl e
not_count (Activity.Walk Walk.Next) s true l q f e = let x : Some (name.Scan s) ≡ Some (name.Count q) = e in cc
not_count (Activity.Walk Walk.Next) s false l q f e = let x : None ≡ Some (name.Count q) = e in cc
not_count (Activity.Enter Enter.Announce) s b l q f e = cc
not_count (Activity.Draw Draw.Clock) s b l q f e = cc
not_count (Activity.Look Look.Key) s b l q f e = cc
not_count (Activity.Read Read.Link) s b l q f e = cc
not_count (Activity.Rebalance (Rebalance.Engage Engage.Clock)) s b l q f e = cc
not_count (Activity.Rebalance (Rebalance.Claim Claim.Count)) s b l q f e = cc
not_count (Activity.Rebalance (Rebalance.Gather Gather.Link)) s b l q f e = cc
not_count (Activity.Rebalance (Rebalance.Seek Seek.Next)) s b l q f e = cc
not_count _ s b l q f e = cc

not_least : (a : Activity) (s : ℕ) (b : Bool) (l : Local) (q : ℕ) → (ChangesLeast a s l q → ⊥) → writes a s b l ≢ Some (name.Least q)
not_least (Activity.Rebalance (Rebalance.Write Write.Least)) s b l q f e = f (same_least (infant l) q e)
not_least (Activity.Rebalance (Rebalance.Replace Replace.Exchange)) s b l q f e = no_replaced l.rebalance.before (name.Least q) refl e
not_least (Activity.Insert Insert.Exchange) s b l q f e = no_link l.row l.link (name.Least q) refl e
not_least (Activity.Walk Walk.Next) s true l q f e = let x : Some (name.Scan s) ≡ Some (name.Least q) = e in cc
not_least (Activity.Walk Walk.Next) s false l q f e = let x : None ≡ Some (name.Least q) = e in cc
not_least (Activity.Enter Enter.Announce) s b l q f e = cc
not_least (Activity.Draw Draw.Clock) s b l q f e = cc
not_least (Activity.Look Look.Key) s b l q f e = cc
not_least (Activity.Read Read.Link) s b l q f e = cc
not_least (Activity.Put Put.Count) s b l q f e = cc
not_least (Activity.Rebalance (Rebalance.Engage Engage.Clock)) s b l q f e = cc
not_least (Activity.Rebalance (Rebalance.Claim Claim.Count)) s b l q f e = cc
not_least (Activity.Rebalance (Rebalance.Freeze Freeze.Count)) s b l q f e = cc
not_least (Activity.Rebalance (Rebalance.Gather Gather.Link)) s b l q f e = cc
not_least (Activity.Rebalance (Rebalance.Seek Seek.Next)) s b l q f e = cc
not_least _ s b l q f e = cc

not_next : (a : Activity) (s : ℕ) (b : Bool) (l : Local) (q : ℕ) → (ChangesNext a s l q → ⊥) → writes a s b l ≢ Some (name.Next q)
not_next (Activity.Rebalance (Rebalance.Engage (Engage.MarkLink count))) s b l q f e = f (same_next l.row q e)
not_next (Activity.Rebalance (Rebalance.Claim Claim.MarkLink)) s b l q f e = f (same_next (row_after l) q e)
not_next (Activity.Rebalance (Rebalance.Write Write.Next)) s b l q f e = f (same_next (infant l) q e)
not_next (Activity.Rebalance (Rebalance.Replace Replace.Exchange)) s b l q f e = f (replaces_next l.rebalance.before q e)
not_next (Activity.Insert Insert.Exchange) s b l q f e = no_link l.row l.link (name.Next q) refl e
not_next (Activity.Walk Walk.Next) s true l q f e = let x : Some (name.Scan s) ≡ Some (name.Next q) = e in cc
not_next (Activity.Walk Walk.Next) s false l q f e = let x : None ≡ Some (name.Next q) = e in cc
not_next (Activity.Enter Enter.Announce) s b l q f e = cc
not_next (Activity.Draw Draw.Clock) s b l q f e = cc
not_next (Activity.Look Look.Key) s b l q f e = cc
not_next (Activity.Read Read.Link) s b l q f e = cc
not_next (Activity.Put Put.Count) s b l q f e = cc
not_next (Activity.Rebalance (Rebalance.Freeze Freeze.Count)) s b l q f e = cc
not_next (Activity.Rebalance (Rebalance.Gather Gather.Link)) s b l q f e = cc
not_next (Activity.Rebalance (Rebalance.Seek Seek.Next)) s b l q f e = cc
not_next _ s b l q f e = cc

not_entry : (a : Activity) (s : ℕ) (b : Bool) (l : Local) (q : ℕ) (t : ℕ) → (ChangesEntry a s l q t → ⊥) → writes a s b l ≢ Some (name.Pend q t)
not_entry (Activity.Look Look.Help) s b l q t f e = f (same_entry l.row l.looked q t e)
not_entry (Activity.Put Put.Announce) s b l q t f e = f (same_entry l.row s q t e)
not_entry (Activity.Put Put.Stamp) s b l q t f e = f (same_entry l.row s q t e)
not_entry (Activity.Put Put.Clear) s b l q t f e = f (same_entry l.row s q t e)
not_entry (Activity.Rebalance (Rebalance.Freeze (Freeze.Entry i))) s b l q t f e = f (same_entry l.rebalance.hand i q t e)
not_entry (Activity.Rebalance (Rebalance.Write (Write.Entry i))) s b l q t f e = f (same_entry (infant l) i q t e)
not_entry (Activity.Rebalance (Rebalance.Replace Replace.Exchange)) s b l q t f e = no_replaced l.rebalance.before (name.Pend q t) refl e
not_entry (Activity.Insert Insert.Exchange) s b l q t f e = no_link l.row l.link (name.Pend q t) refl e
not_entry (Activity.Walk Walk.Next) s true l q t f e = let x : Some (name.Scan s) ≡ Some (name.Pend q t) = e in cc
not_entry (Activity.Walk Walk.Next) s false l q t f e = let x : None ≡ Some (name.Pend q t) = e in cc
not_entry (Activity.Enter Enter.Announce) s b l q t f e = cc
not_entry (Activity.Draw Draw.Clock) s b l q t f e = cc
not_entry (Activity.Read Read.Link) s b l q t f e = cc
not_entry (Activity.Rebalance (Rebalance.Engage Engage.Clock)) s b l q t f e = cc
not_entry (Activity.Rebalance (Rebalance.Claim Claim.Count)) s b l q t f e = cc
not_entry (Activity.Rebalance (Rebalance.Gather Gather.Link)) s b l q t f e = cc
not_entry (Activity.Rebalance (Rebalance.Seek Seek.Next)) s b l q t f e = cc
not_entry _ s b l q t f e = cc

not_key : (a : Activity) (s : ℕ) (b : Bool) (l : Local) (q : ℕ) (c : ℕ) → (ChangesKey a s l q c → ⊥) → writes a s b l ≢ Some (name.Key q c)
not_key (Activity.Put Put.Key) s b l q c f e = f (same_key l.row l.cell q c e)
not_key (Activity.Rebalance (Rebalance.Write (Write.Key j))) s b l q c f e = f (same_key (infant l) j q c e)
not_key (Activity.Rebalance (Rebalance.Replace Replace.Exchange)) s b l q c f e = no_replaced l.rebalance.before (name.Key q c) refl e
not_key (Activity.Insert Insert.Exchange) s b l q c f e = no_link l.row l.link (name.Key q c) refl e
not_key (Activity.Walk Walk.Next) s true l q c f e = let x : Some (name.Scan s) ≡ Some (name.Key q c) = e in cc
not_key (Activity.Walk Walk.Next) s false l q c f e = let x : None ≡ Some (name.Key q c) = e in cc
not_key (Activity.Enter Enter.Announce) s b l q c f e = cc
not_key (Activity.Draw Draw.Clock) s b l q c f e = cc
not_key (Activity.Look Look.Key) s b l q c f e = cc
not_key (Activity.Read Read.Link) s b l q c f e = cc
not_key (Activity.Rebalance (Rebalance.Engage Engage.Clock)) s b l q c f e = cc
not_key (Activity.Rebalance (Rebalance.Claim Claim.Count)) s b l q c f e = cc
not_key (Activity.Rebalance (Rebalance.Freeze Freeze.Count)) s b l q c f e = cc
not_key (Activity.Rebalance (Rebalance.Gather Gather.Link)) s b l q c f e = cc
not_key (Activity.Rebalance (Rebalance.Seek Seek.Next)) s b l q c f e = cc
not_key _ s b l q c f e = cc

not_value : (a : Activity) (s : ℕ) (b : Bool) (l : Local) (q : ℕ) (c : ℕ) → (ChangesValue a s l q c → ⊥) → writes a s b l ≢ Some (name.Value q c)
not_value (Activity.Put Put.Value) s b l q c f e = f (same_value l.row l.cell q c e)
not_value (Activity.Rebalance (Rebalance.Write (Write.Value j))) s b l q c f e = f (same_value (infant l) j q c e)
not_value (Activity.Rebalance (Rebalance.Replace Replace.Exchange)) s b l q c f e = no_replaced l.rebalance.before (name.Value q c) refl e
not_value (Activity.Insert Insert.Exchange) s b l q c f e = no_link l.row l.link (name.Value q c) refl e
not_value (Activity.Walk Walk.Next) s true l q c f e = let x : Some (name.Scan s) ≡ Some (name.Value q c) = e in cc
not_value (Activity.Walk Walk.Next) s false l q c f e = let x : None ≡ Some (name.Value q c) = e in cc
not_value (Activity.Enter Enter.Announce) s b l q c f e = cc
not_value (Activity.Draw Draw.Clock) s b l q c f e = cc
not_value (Activity.Look Look.Key) s b l q c f e = cc
not_value (Activity.Read Read.Link) s b l q c f e = cc
not_value (Activity.Rebalance (Rebalance.Engage Engage.Clock)) s b l q c f e = cc
not_value (Activity.Rebalance (Rebalance.Claim Claim.Count)) s b l q c f e = cc
not_value (Activity.Rebalance (Rebalance.Freeze Freeze.Count)) s b l q c f e = cc
not_value (Activity.Rebalance (Rebalance.Gather Gather.Link)) s b l q c f e = cc
not_value (Activity.Rebalance (Rebalance.Seek Seek.Next)) s b l q c f e = cc
not_value _ s b l q c f e = cc

not_version : (a : Activity) (s : ℕ) (b : Bool) (l : Local) (q : ℕ) (c : ℕ) → (ChangesVersion a s l q c → ⊥) → writes a s b l ≢ Some (name.Version q c)
not_version (Activity.Put Put.Version) s b l q c f e = f (same_version l.row l.cell q c e)
not_version (Activity.Rebalance (Rebalance.Write (Write.Version j))) s b l q c f e = f (same_version (infant l) j q c e)
not_version (Activity.Rebalance (Rebalance.Replace Replace.Exchange)) s b l q c f e = no_replaced l.rebalance.before (name.Version q c) refl e
not_version (Activity.Insert Insert.Exchange) s b l q c f e = no_link l.row l.link (name.Version q c) refl e
not_version (Activity.Walk Walk.Next) s true l q c f e = let x : Some (name.Scan s) ≡ Some (name.Version q c) = e in cc
not_version (Activity.Walk Walk.Next) s false l q c f e = let x : None ≡ Some (name.Version q c) = e in cc
not_version (Activity.Enter Enter.Announce) s b l q c f e = cc
not_version (Activity.Draw Draw.Clock) s b l q c f e = cc
not_version (Activity.Look Look.Key) s b l q c f e = cc
not_version (Activity.Read Read.Link) s b l q c f e = cc
not_version (Activity.Rebalance (Rebalance.Engage Engage.Clock)) s b l q c f e = cc
not_version (Activity.Rebalance (Rebalance.Claim Claim.Count)) s b l q c f e = cc
not_version (Activity.Rebalance (Rebalance.Freeze Freeze.Count)) s b l q c f e = cc
not_version (Activity.Rebalance (Rebalance.Gather Gather.Link)) s b l q c f e = cc
not_version (Activity.Rebalance (Rebalance.Seek Seek.Next)) s b l q c f e = cc
not_version _ s b l q c f e = cc

-- a word that is no link between cells
abbrev is_apart : Option Name → Bool
is_apart (Some (name.First q)) = false
is_apart (Some (name.After q c)) = false
is_apart _ = true

no_cell_link : {A : Type 0} (q : ℕ) (at : Option ℕ) (w : Option Name) → w ≡ Some (link_name q at) → is_apart w ≡ true → A
no_cell_link q (Some c) w e f = let x : false ≡ true = ap is_apart (sym e) ∙ f in absurd (cc)
no_cell_link q None w e f = let x : false ≡ true = ap is_apart (sym e) ∙ f in absurd (cc)

no_cell_link_replaced : {A : Type 0} (before : Option ℕ) (q : ℕ) (at : Option ℕ) → Some (replaced_link before) ≡ Some (link_name q at) → A
no_cell_link_replaced (Some p) q at e = no_cell_link q at _ e refl
no_cell_link_replaced None q at e = no_cell_link q at _ e refl

not_link : (a : Activity) (s : ℕ) (b : Bool) (l : Local) (q : ℕ) (at : Option ℕ) → (ChangesLink a s l q at → ⊥) → writes a s b l ≢ Some (link_name q at)
not_link (Activity.Insert Insert.Set) s b l q at f e = f (same_link l.row (Some l.cell) q at e)
not_link (Activity.Insert Insert.Exchange) s b l q at f e = f (same_link l.row l.link q at e)
not_link (Activity.Rebalance (Rebalance.Write Write.First)) s b l q at f e = f (same_link (infant l) None q at e)
not_link (Activity.Rebalance (Rebalance.Write (Write.After j))) s b l q at f e = f (same_link (infant l) (Some j) q at e)
not_link (Activity.Rebalance (Rebalance.Replace Replace.Exchange)) s b l q at f e = no_cell_link_replaced l.rebalance.before q at e
not_link (Activity.Walk Walk.Next) s true l q at f e = no_cell_link q at _ e refl
not_link (Activity.Walk Walk.Next) s false l q at f e = no_cell_link q at _ e refl
not_link (Activity.Enter Enter.Announce) s b l q at f e = no_cell_link q at _ e refl
not_link (Activity.Draw Draw.Clock) s b l q at f e = no_cell_link q at _ e refl
not_link (Activity.Look Look.Key) s b l q at f e = no_cell_link q at _ e refl
not_link (Activity.Read Read.Link) s b l q at f e = no_cell_link q at _ e refl
not_link (Activity.Put Put.Count) s b l q at f e = no_cell_link q at _ e refl
not_link (Activity.Rebalance (Rebalance.Engage Engage.Clock)) s b l q at f e = no_cell_link q at _ e refl
not_link (Activity.Rebalance (Rebalance.Claim Claim.Count)) s b l q at f e = no_cell_link q at _ e refl
not_link (Activity.Rebalance (Rebalance.Freeze Freeze.Count)) s b l q at f e = no_cell_link q at _ e refl
not_link (Activity.Rebalance (Rebalance.Gather Gather.Link)) s b l q at f e = no_cell_link q at _ e refl
not_link (Activity.Rebalance (Rebalance.Seek Seek.Next)) s b l q at f e = no_cell_link q at _ e refl
not_link _ s b l q at f e = no_cell_link q at _ e refl

module _ {z : Sizes} {r r' : Run} {s : ℕ} {choice : Choice} {l l' : Local} where
  -- the head stays, unless the seat links new rows there, and the epoch unless it draws a number
  pub head_stays : (a : Activity) → Happens z r r' s choice l l' a → (ChangesHead a s l → ⊥) → word z r'.world name.Head ≡ word z r.world name.Head
  head_stays a h f = unwritten a h name.Head tt (not_head a s (is_stopped choice l) l f)

  pub epoch_stays : (a : Activity) → Happens z r r' s choice l l' a → (ChangesEpoch a s l → ⊥) → word z r'.world name.Epoch ≡ word z r.world name.Epoch
  epoch_stays a h f = unwritten a h name.Epoch tt (not_epoch a s (is_stopped choice l) l f)

  -- of a row its state, its count, its least key and its link stay
  pub state_stays : (a : Activity) → Happens z r r' s choice l l' a → (q : ℕ) → q < r.world.rows → (ChangesState a s l q → ⊥) → word z r'.world (name.State q) ≡ word z r.world (name.State q)
  state_stays a h q i f = unwritten a h (name.State q) i (not_state a s (is_stopped choice l) l q f)

  pub count_stays : (a : Activity) → Happens z r r' s choice l l' a → (q : ℕ) → q < r.world.rows → (ChangesCount a s l q → ⊥) → word z r'.world (name.Count q) ≡ word z r.world (name.Count q)
  count_stays a h q i f = unwritten a h (name.Count q) i (not_count a s (is_stopped choice l) l q f)

  pub least_stays : (a : Activity) → Happens z r r' s choice l l' a → (q : ℕ) → q < r.world.rows → (ChangesLeast a s l q → ⊥) → word z r'.world (name.Least q) ≡ word z r.world (name.Least q)
  least_stays a h q i f = unwritten a h (name.Least q) i (not_least a s (is_stopped choice l) l q f)

  pub next_stays : (a : Activity) → Happens z r r' s choice l l' a → (q : ℕ) → q < r.world.rows → (ChangesNext a s l q → ⊥) → word z r'.world (name.Next q) ≡ word z r.world (name.Next q)
  next_stays a h q i f = unwritten a h (name.Next q) i (not_next a s (is_stopped choice l) l q f)

  -- its entries, the keys, the values and the versions of its cells
  pub entry_stays : (a : Activity) → Happens z r r' s choice l l' a → (q : ℕ) (t : ℕ) → q < r.world.rows → t < z.seats → (ChangesEntry a s l q t → ⊥) → word z r'.world (name.Pend q t) ≡ word z r.world (name.Pend q t)
  entry_stays a h q t i o f = unwritten a h (name.Pend q t) (i, o) (not_entry a s (is_stopped choice l) l q t f)

  pub key_stays : (a : Activity) → Happens z r r' s choice l l' a → (q : ℕ) (c : ℕ) → q < r.world.rows → c < z.cells → (ChangesKey a s l q c → ⊥) → word z r'.world (name.Key q c) ≡ word z r.world (name.Key q c)
  key_stays a h q c i o f = unwritten a h (name.Key q c) (i, o) (not_key a s (is_stopped choice l) l q c f)

  pub value_stays : (a : Activity) → Happens z r r' s choice l l' a → (q : ℕ) (c : ℕ) → q < r.world.rows → c < z.cells → (ChangesValue a s l q c → ⊥) → word z r'.world (name.Value q c) ≡ word z r.world (name.Value q c)
  value_stays a h q c i o f = unwritten a h (name.Value q c) (i, o) (not_value a s (is_stopped choice l) l q c f)

  pub version_stays : (a : Activity) → Happens z r r' s choice l l' a → (q : ℕ) (c : ℕ) → q < r.world.rows → c < z.cells → (ChangesVersion a s l q c → ⊥) → word z r'.world (name.Version q c) ≡ word z r.world (name.Version q c)
  version_stays a h q c i o f = unwritten a h (name.Version q c) (i, o) (not_version a s (is_stopped choice l) l q c f)

  -- and the links between them
  pub link_stays : (a : Activity) → Happens z r r' s choice l l' a → (q : ℕ) (at : Option ℕ) → q < r.world.rows → IsCellBelow z.cells at → (ChangesLink a s l q at → ⊥) → word z r'.world (link_name q at) ≡ word z r.world (link_name q at)
  link_stays a h q at i o f = unwritten a h (link_name q at) (link_within z r.world.rows q at o i) (not_link a s (is_stopped choice l) l q at f)

-- All words of a row at once.

-- of which row that the seat knows an event changes a word: of none, of the row where it is, of the
-- one after that, of the group's row at hand, of the new row at hand, of the one that it asked, or
-- of the one before its row
pub data Target : Type 0 where
  NoRow : Target
  OwnRow : Target
  NextRow : Target
  HandRow : Target
  NewRow : Target
  SoughtRow : Target
  RowBefore : Target

abbrev pub target_of : Activity → Target
target_of (Activity.Put Put.Add) = OwnRow
target_of (Activity.Put Put.Key) = OwnRow
target_of (Activity.Put Put.Value) = OwnRow
target_of (Activity.Put Put.Announce) = OwnRow
target_of (Activity.Put Put.Stamp) = OwnRow
target_of (Activity.Put Put.Version) = OwnRow
target_of (Activity.Insert Insert.Set) = OwnRow
target_of (Activity.Insert Insert.Exchange) = OwnRow
target_of (Activity.Put Put.Clear) = OwnRow
target_of (Activity.Look Look.Help) = OwnRow
target_of (Activity.Rebalance (Rebalance.Engage (Engage.Normal seat))) = OwnRow
target_of (Activity.Rebalance (Rebalance.Engage Engage.Lead)) = OwnRow
target_of (Activity.Rebalance (Rebalance.Engage (Engage.MarkLink count))) = OwnRow
target_of (Activity.Rebalance (Rebalance.Engage (Engage.Decide count))) = OwnRow
target_of (Activity.Rebalance (Rebalance.Claim Claim.Exchange)) = NextRow
target_of (Activity.Rebalance (Rebalance.Claim (Claim.Normal seat))) = NextRow
target_of (Activity.Rebalance (Rebalance.Claim Claim.MarkLink)) = NextRow
target_of (Activity.Rebalance (Rebalance.Freeze Freeze.Count)) = HandRow
target_of (Activity.Rebalance (Rebalance.Freeze (Freeze.Entry i))) = HandRow
target_of (Activity.Rebalance (Rebalance.Replace Replace.Retire)) = HandRow
target_of (Activity.Rebalance (Rebalance.Seek Seek.GiveBack)) = NewRow
target_of (Activity.Rebalance (Rebalance.Write _)) = NewRow
target_of (Activity.Rebalance (Rebalance.Replace Replace.Normalise)) = NewRow
target_of (Activity.Rebalance (Rebalance.Seek Seek.Reclaim)) = SoughtRow
target_of (Activity.Rebalance (Rebalance.Seek Seek.Take)) = SoughtRow
target_of (Activity.Rebalance (Rebalance.Replace Replace.Exchange)) = RowBefore
target_of _ = NoRow

-- q is that row
abbrev pub IsTarget : Target → Local → ℕ → Type 0
IsTarget NoRow l q = ⊥
IsTarget OwnRow l q = q ≡ l.row
IsTarget NextRow l q = q ≡ row_after l
IsTarget HandRow l q = q ≡ l.rebalance.hand
IsTarget NewRow l q = q ≡ infant l
IsTarget SoughtRow l q = q ≡ l.rebalance.sought
IsTarget RowBefore l q = l.rebalance.before ≡ Some q

-- the row whose word this is, if it is one of a row
abbrev pub row_in : Name → Option ℕ
row_in (name.State q) = Some q
row_in (name.Count q) = Some q
row_in (name.Least q) = Some q
row_in (name.Next q) = Some q
row_in (name.First q) = Some q
row_in (name.Pend q t) = Some q
row_in (name.Key q c) = Some q
row_in (name.Value q c) = Some q
row_in (name.Version q c) = Some q
row_in (name.After q c) = Some q
row_in _ = None

-- a word of the row x that is written is no word of another
of_row : (m n : Name) (x q : ℕ) → row_in m ≡ Some x → row_in n ≡ Some q → Some m ≡ Some n → q ≡ x
of_row m n x q e f g = same_Some q x (sym f ∙ ap row_in (sym (same_Some m n g)) ∙ e)

-- one that is of no row is no word of one
of_none : {A : Type 0} (m n : Name) (q : ℕ) → row_in m ≡ None → row_in n ≡ Some q → Some m ≡ Some n → A
of_none m n q e f g = let x : None ≡ Some q = sym e ∙ ap row_in (same_Some m n g) ∙ f in absurd (cc)

link_of_row : (x : ℕ) (at : Option ℕ) → row_in (link_name x at) ≡ Some x
link_of_row x (Some c) = refl
link_of_row x None = refl

before_of_row : (before : Option ℕ) (n : Name) (q : ℕ) → row_in n ≡ Some q → Some (replaced_link before) ≡ Some n → before ≡ Some q
before_of_row (Some p) n q f e = ap Some (sym (of_row (name.Next p) n p q refl f e))
before_of_row None n q f e = of_none name.Head n q refl f e

-- a word of a row that is written is one of such a row
targets : (a : Activity) (s : ℕ) (b : Bool) (l : Local) (n : Name) (q : ℕ) → row_in n ≡ Some q → writes a s b l ≡ Some n → IsTarget (target_of a) l q
targets (Activity.Put Put.Add) s b l n q f e = of_row (name.Count l.row) n l.row q refl f e
targets (Activity.Put Put.Key) s b l n q f e = of_row (name.Key l.row l.cell) n l.row q refl f e
targets (Activity.Put Put.Value) s b l n q f e = of_row (name.Value l.row l.cell) n l.row q refl f e
targets (Activity.Put Put.Announce) s b l n q f e = of_row (name.Pend l.row s) n l.row q refl f e
targets (Activity.Put Put.Stamp) s b l n q f e = of_row (name.Pend l.row s) n l.row q refl f e
targets (Activity.Put Put.Version) s b l n q f e = of_row (name.Version l.row l.cell) n l.row q refl f e
targets (Activity.Insert Insert.Set) s b l n q f e = of_row (name.After l.row l.cell) n l.row q refl f e
targets (Activity.Insert Insert.Exchange) s b l n q f e = of_row (link_name l.row l.link) n l.row q (link_of_row l.row l.link) f e
targets (Activity.Put Put.Clear) s b l n q f e = of_row (name.Pend l.row s) n l.row q refl f e
targets (Activity.Look Look.Help) s b l n q f e = of_row (name.Pend l.row l.looked) n l.row q refl f e
targets (Activity.Rebalance (Rebalance.Engage (Engage.Normal seat))) s b l n q f e = of_row (name.State l.row) n l.row q refl f e
targets (Activity.Rebalance (Rebalance.Engage Engage.Lead)) s b l n q f e = of_row (name.State l.row) n l.row q refl f e
targets (Activity.Rebalance (Rebalance.Engage (Engage.MarkLink count))) s b l n q f e = of_row (name.Next l.row) n l.row q refl f e
targets (Activity.Rebalance (Rebalance.Engage (Engage.Decide count))) s b l n q f e = of_row (name.State l.row) n l.row q refl f e
targets (Activity.Rebalance (Rebalance.Claim Claim.Exchange)) s b l n q f e = of_row (name.State (row_after l)) n (row_after l) q refl f e
targets (Activity.Rebalance (Rebalance.Claim (Claim.Normal seat))) s b l n q f e = of_row (name.State (row_after l)) n (row_after l) q refl f e
targets (Activity.Rebalance (Rebalance.Claim Claim.MarkLink)) s b l n q f e = of_row (name.Next (row_after l)) n (row_after l) q refl f e
targets (Activity.Rebalance (Rebalance.Freeze Freeze.Count)) s b l n q f e = of_row (name.Count l.rebalance.hand) n l.rebalance.hand q refl f e
targets (Activity.Rebalance (Rebalance.Freeze (Freeze.Entry i))) s b l n q f e = of_row (name.Pend l.rebalance.hand i) n l.rebalance.hand q refl f e
targets (Activity.Rebalance (Rebalance.Replace Replace.Retire)) s b l n q f e = of_row (name.State l.rebalance.hand) n l.rebalance.hand q refl f e
targets (Activity.Rebalance (Rebalance.Seek Seek.GiveBack)) s b l n q f e = of_row (name.State (infant l)) n (infant l) q refl f e
targets (Activity.Rebalance (Rebalance.Write Write.Count)) s b l n q f e = of_row (name.Count (infant l)) n (infant l) q refl f e
targets (Activity.Rebalance (Rebalance.Write Write.Least)) s b l n q f e = of_row (name.Least (infant l)) n (infant l) q refl f e
targets (Activity.Rebalance (Rebalance.Write Write.Next)) s b l n q f e = of_row (name.Next (infant l)) n (infant l) q refl f e
targets (Activity.Rebalance (Rebalance.Write Write.First)) s b l n q f e = of_row (name.First (infant l)) n (infant l) q refl f e
targets (Activity.Rebalance (Rebalance.Write (Write.Entry i))) s b l n q f e = of_row (name.Pend (infant l) i) n (infant l) q refl f e
targets (Activity.Rebalance (Rebalance.Write (Write.Key j))) s b l n q f e = of_row (name.Key (infant l) j) n (infant l) q refl f e
targets (Activity.Rebalance (Rebalance.Write (Write.Value j))) s b l n q f e = of_row (name.Value (infant l) j) n (infant l) q refl f e
targets (Activity.Rebalance (Rebalance.Write (Write.Version j))) s b l n q f e = of_row (name.Version (infant l) j) n (infant l) q refl f e
targets (Activity.Rebalance (Rebalance.Write (Write.After j))) s b l n q f e = of_row (name.After (infant l) j) n (infant l) q refl f e
targets (Activity.Rebalance (Rebalance.Replace Replace.Normalise)) s b l n q f e = of_row (name.State (infant l)) n (infant l) q refl f e
targets (Activity.Rebalance (Rebalance.Seek Seek.Reclaim)) s b l n q f e = of_row (name.State l.rebalance.sought) n l.rebalance.sought q refl f e
targets (Activity.Rebalance (Rebalance.Seek Seek.Take)) s b l n q f e = of_row (name.State l.rebalance.sought) n l.rebalance.sought q refl f e
targets (Activity.Rebalance (Rebalance.Replace Replace.Exchange)) s b l n q f e = before_of_row l.rebalance.before n q f e
targets (Activity.Enter Enter.Announce) s b l n q f e = of_none (name.Pass s) n q refl f e
targets (Activity.Draw Draw.Wait) s b l n q f e = of_none (name.Scan s) n q refl f e
targets (Activity.Draw Draw.Version) s b l n q f e = of_none name.Clock n q refl f e
targets (Activity.Draw Draw.Settle) s b l n q f e = of_none (name.Scan s) n q refl f e
targets (Activity.Draw Draw.Pin) s b l n q f e = of_none (name.Pin s) n q refl f e
targets (Activity.Walk Walk.Next) s true l n q f e = of_none (name.Scan s) n q refl f e
targets (Activity.Walk Walk.Next) s false l n q f e = let x : None ≡ Some n = e in absurd (cc)
targets (Activity.EndScan answer) s b l n q f e = of_none (name.Scan s) n q refl f e
targets Activity.ClearPin s b l n q f e = of_none (name.Pin s) n q refl f e
targets (Activity.Leave answer) s b l n q f e = of_none (name.Pass s) n q refl f e
targets Activity.Retry s b l n q f e = of_none (name.Pass s) n q refl f e
targets (Activity.Rebalance (Rebalance.Freeze (Freeze.Draw i))) s b l n q f e = of_none name.Clock n q refl f e
targets (Activity.Rebalance (Rebalance.Freeze (Freeze.Settle i))) s b l n q f e = of_none (name.Scan i) n q refl f e
targets (Activity.Rebalance (Rebalance.Replace Replace.Number)) s b l n q f e = of_none name.Epoch n q refl f e
targets _ s b l n q f e = let x : None ≡ Some n = e in absurd (cc)

-- a row that is none of those that the seat knows is no such row
pub not_target : (t : Target) (l : Local) (q : ℕ) → q ≢ l.row → q ≢ row_after l → q ≢ l.rebalance.hand → q ≢ infant l → q ≢ l.rebalance.sought → l.rebalance.before ≢ Some q → IsTarget t l q → ⊥
not_target NoRow l q own next hand new sought before e = e
not_target OwnRow l q own next hand new sought before e = own e
not_target NextRow l q own next hand new sought before e = next e
not_target HandRow l q own next hand new sought before e = hand e
not_target NewRow l q own next hand new sought before e = new e
not_target SoughtRow l q own next hand new sought before e = sought e
not_target RowBefore l q own next hand new sought before e = before e

module _ {z : Sizes} {r r' : Run} {s : ℕ} {choice : Choice} {l l' : Local} where
  -- each word stays of a row on which the seat does not act
  pub row_stays : (a : Activity) → Happens z r r' s choice l l' a → (n : Name) (q : ℕ) → row_in n ≡ Some q → IsWithin z.seats z.cells r.world.rows n → (IsTarget (target_of a) l q → ⊥) → word z r'.world n ≡ word z r.world n
  row_stays a h n q e i f = unwritten a h n i (λ x. f (targets a s (is_stopped choice l) l n q e x))

  -- What is left in the word that is written.

  -- a row that was retired with the number that the seat knows is free, and any other state stays
  pub freed : Happens z r r' s choice l l' (Activity.Rebalance (Rebalance.Seek Seek.Reclaim)) → word z r.world (name.State l.rebalance.sought) ≡ state_word (Retired l.rebalance.number) → word z r'.world (name.State l.rebalance.sought) ≡ state_word Free
  freed h e = exchanged _ _ _ _ h.changed.same e

  pub not_freed : Happens z r r' s choice l l' (Activity.Rebalance (Rebalance.Seek Seek.Reclaim)) → word z r.world (name.State l.rebalance.sought) ≢ state_word (Retired l.rebalance.number) → word z r'.world (name.State l.rebalance.sought) ≡ word z r.world (name.State l.rebalance.sought)
  not_freed h d = not_exchanged _ _ _ _ h.changed.same d

  -- a row that was free is the seat's, and another one is not
  pub taken_won : Happens z r r' s choice l l' (Activity.Rebalance (Rebalance.Seek Seek.Take)) → word z r.world (name.State l.rebalance.sought) ≡ state_word Free → word z r'.world (name.State l.rebalance.sought) ≡ state_word (Infant s)
  taken_won h e = exchanged _ _ _ _ h.changed.same e

  pub taken_lost : Happens z r r' s choice l l' (Activity.Rebalance (Rebalance.Seek Seek.Take)) → word z r.world (name.State l.rebalance.sought) ≢ state_word Free → word z r'.world (name.State l.rebalance.sought) ≡ word z r.world (name.State l.rebalance.sought)
  taken_lost h d = not_exchanged _ _ _ _ h.changed.same d

  -- a row that is given back is free
  pub given_back : Happens z r r' s choice l l' (Activity.Rebalance (Rebalance.Seek Seek.GiveBack)) → word z r'.world (name.State (infant l)) ≡ state_word Free
  given_back h = h.changed.same

  -- a new row that the seat took is normal, and another one stays as it was
  pub normal_won : Happens z r r' s choice l l' (Activity.Rebalance (Rebalance.Replace Replace.Normalise)) → word z r.world (name.State (infant l)) ≡ state_word (Infant s) → word z r'.world (name.State (infant l)) ≡ state_word Normal
  normal_won h e = exchanged _ _ _ _ h.changed.same e

  pub normal_lost : Happens z r r' s choice l l' (Activity.Rebalance (Rebalance.Replace Replace.Normalise)) → word z r.world (name.State (infant l)) ≢ state_word (Infant s) → word z r'.world (name.State (infant l)) ≡ word z r.world (name.State (infant l))
  normal_lost h d = not_exchanged _ _ _ _ h.changed.same d

  -- the row at hand has its number
  pub retired : Happens z r r' s choice l l' (Activity.Rebalance (Rebalance.Replace Replace.Retire)) → word z r'.world (name.State l.rebalance.hand) ≡ state_word (Retired l.rebalance.number)
  retired h = h.changed.same

  -- one more number is drawn
  pub number_drawn : Happens z r r' s choice l l' (Activity.Rebalance (Rebalance.Replace Replace.Number)) → word z r'.world name.Epoch ≡ word z r.world name.Epoch + 1
  number_drawn h = h.changed.same

  -- the link that led to the full row, unmarked, leads to the first new one, unmarked
  pub replaced_won : Happens z r r' s choice l l' (Activity.Rebalance (Rebalance.Replace Replace.Exchange)) → link_of (word z r.world (replaced_link l.rebalance.before)) ≡ Some (unmarked_link (Some l.row)) → word z r'.world (replaced_link l.rebalance.before) ≡ link_word (unmarked_link (Some (first_infant l)))
  replaced_won h e = exchanged _ _ _ _ h.changed.same (sym (link_word_of (word z r.world (replaced_link l.rebalance.before)) (unmarked_link (Some l.row)) e))

  -- and every other one stays
  pub replaced_lost : Happens z r r' s choice l l' (Activity.Rebalance (Rebalance.Replace Replace.Exchange)) → IsLink (unmarked_link (Some l.row)) → link_of (word z r.world (replaced_link l.rebalance.before)) ≢ Some (unmarked_link (Some l.row)) →
      word z r'.world (replaced_link l.rebalance.before) ≡ word z r.world (replaced_link l.rebalance.before)
  replaced_lost h i d = not_exchanged _ _ _ _ h.changed.same (λ e. d (ap link_of e ∙ link_of-link_word (unmarked_link (Some l.row)) i))

  -- a new row has what is written
  pub count_written : Happens z r r' s choice l l' (Activity.Rebalance (Rebalance.Write Write.Count)) → word z r'.world (name.Count (infant l)) ≡ count_word (infant_count l)
  count_written h = h.changed.same

  pub least_written : Happens z r r' s choice l l' (Activity.Rebalance (Rebalance.Write Write.Least)) → word z r'.world (name.Least (infant l)) ≡ least_word (infant_least l) (length (infant_cells l))
  least_written h = h.changed.same

  pub next_written : Happens z r r' s choice l l' (Activity.Rebalance (Rebalance.Write Write.Next)) → word z r'.world (name.Next (infant l)) ≡ link_word (infant_link l)
  next_written h = h.changed.same

  pub first_written : Happens z r r' s choice l l' (Activity.Rebalance (Rebalance.Write Write.First)) → word z r'.world (name.First (infant l)) ≡ cell_link_word (first_listed (infant_cells l))
  first_written h = h.changed.same

  pub entry_written : (i : ℕ) → Happens z r r' s choice l l' (Activity.Rebalance (Rebalance.Write (Write.Entry i))) → word z r'.world (name.Pend (infant l) i) ≡ pend_word pend.Idle
  entry_written i h = h.changed.same

  pub key_written : (j : ℕ) → Happens z r r' s choice l l' (Activity.Rebalance (Rebalance.Write (Write.Key j))) → word z r'.world (name.Key (infant l) j) ≡ key_word (key_in (slice_get (infant_cells l) j))
  key_written j h = h.changed.same

  pub value_written : (j : ℕ) → Happens z r r' s choice l l' (Activity.Rebalance (Rebalance.Write (Write.Value j))) → word z r'.world (name.Value (infant l) j) ≡ value_word (value_in (slice_get (infant_cells l) j))
  value_written j h = h.changed.same

  pub version_written : (j : ℕ) → Happens z r r' s choice l l' (Activity.Rebalance (Rebalance.Write (Write.Version j))) → word z r'.world (name.Version (infant l) j) ≡ version_word (version_in (slice_get (infant_cells l) j))
  version_written j h = h.changed.same

  pub after_written : (j : ℕ) → Happens z r r' s choice l l' (Activity.Rebalance (Rebalance.Write (Write.After j))) → word z r'.world (name.After (infant l) j) ≡ cell_link_word (listed_after (infant_cells l) j)
  after_written j h = h.changed.same
