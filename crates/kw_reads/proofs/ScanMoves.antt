-- What is needed only shrinks: over any event a version is newly needed through the scan of a seat
-- only if it has just been drawn, and a scan that begins to wait needs none; and what is pinned
-- stays as it is.
use Rattle.std.proofs.Common.{ℕ, ◌≡◌, ◌≢◌, ◌⊎◌, inl, inr, ◌<◌, ◌≤◌, Bool, true, false, Option, Some, None, arith, refl, sym, ◌∙◌, ap, subst, slice_get}
use Rattle.std.proofs.lemmas.Bool.{cases_eq}
use Rattle.std.proofs.lemmas.Option.{same_Some}
use Rattle.kw_words.specs.declared.layout.Name.TheVariants as name
use Rattle.kw_words.specs.declared.scan.ScanWord.TheVariants.{Quiet, Waiting, Drawn}
use Rattle.kw_words.specs.Scan.{scan_word}
use Rattle.kw_world.specs.declared.activity.Activity.{Activity}
use Rattle.kw_world.specs.declared.activity.draw.Draw.TheVariants as Draw
use Rattle.kw_world.specs.declared.activity.rebalance.freeze.Freeze.TheVariants as Freeze
use Rattle.kw_world.specs.declared.activity.insert.Insert.TheVariants as Insert
use Rattle.kw_world.specs.declared.activity.rebalance.Rebalance.TheVariants as Rebalance
use Rattle.kw_world.specs.declared.activity.rebalance.replace.Replace.TheVariants as Replace
use Rattle.kw_world.specs.declared.activity.walk.Walk.TheVariants as Walk
use Rattle.kw_world.specs.declared.activity.enter.Enter.TheVariants as Enter
use Rattle.kw_world.specs.declared.activity.rebalance.claim.Claim.TheVariants as Claim
use Rattle.kw_world.specs.declared.activity.rebalance.engage.Engage.TheVariants as Engage
use Rattle.kw_world.specs.declared.activity.rebalance.gather.Gather.TheVariants as Gather
use Rattle.kw_world.specs.declared.activity.rebalance.left.Left.TheVariants as Left
use Rattle.kw_world.specs.declared.activity.look.Look.TheVariants as Look
use Rattle.kw_world.specs.declared.activity.put.Put.TheVariants as Put
use Rattle.kw_world.specs.declared.activity.read.Read.TheVariants as Read
use Rattle.kw_world.specs.declared.activity.rebalance.seek.Seek.TheVariants as Seek
use Rattle.kw_world.specs.declared.activity.rebalance.write.Write.TheVariants as Write
use Rattle.kw_world.specs.declared.event.Choice.{Choice}
use Rattle.kw_world.specs.declared.local.Local.{Local}
use Rattle.kw_world.specs.Sizes.{Sizes}
use Rattle.kw_world.specs.ReplaceTransitions.{replaced_link}
use Rattle.kw_world.specs.Step.{word}
use Rattle.kw_world.specs.WalkTransitions.{is_stopped}
use Rattle.kw_core.specs.Run.{Run}
use Rattle.kw_core.specs.Words.{Words}
use Rattle.kw_core.proofs.Arrows.{builds, Arrow, NextLook, looks, lists, NextLeftOver, goes_to_left_over, answers, ends_scan, scans_on, sees_stamped, sees_neither, is_gone_by, helps, finds_stamped, finds_other, list_ends, key_above, left_over_gone_by, gathers_left_over, draws, draws_for, first_ends, freezes_last, keeps_no_more, remembers_last, sees_frozen_last, takes_no_more, decides, marks_led, asks_of_pin, looks_at_pin}
use Rattle.kw_core.proofs.Grouping.{NextFrozen, freezes_ahead, froze_all, NextGathered, gathers_ahead, gathered_all}
use Rattle.kw_core.proofs.Frame.{no_link, same_scan, unwritten, walk_writes, writes}
use Rattle.kw_core.proofs.FreezeFrame.{clock_never_falls}
use Rattle.kw_core.proofs.Happens.{Happens, knows_next, knows_other, exchanged, not_exchanged}
use Rattle.kw_shape.specs.Shape.{IsKind}
use Rattle.kw_kept.specs.Needed.{Moves, Pins}
use Rattle.kw_kept.proofs.NeededLists.{needed_was}
use Rattle.kw_puts.proofs.BuiltStages.{counted_not, of_pin_is, pin_look_is}
use Rattle.kw_puts.specs.Below.{Below}
use Rattle.kw_puts.specs.Positions.{HelpsScan, IsToWait}
use Rattle.kw_puts.proofs.OwnScans.{goes_on_walk, stopped_clears}
use Rattle.kw_puts.proofs.Helpers.{ScanStep, is_kept, begins_to_wait, waits_no_more, scan_step}
use Rattle.kw_reads.specs.Contents.{Through, has_drawn, is_held, is_helped, ThroughPin, Needed}
use Rattle.kw_core.proofs.BuiltNext.{IsAfterBuilding, built_goes}
use Rattle.kw_puts.proofs.RelyProof.{waits_stay}
use Rattle.kw_shape.proofs.AfterBuilding.{kind_at}

-- Whoever holds a version for a scan has just drawn it, or held it before.

-- such a version is held: by the scan that settles, or by a seat that helps scan i
abbrev IsHolder : Activity → Type 0
IsHolder (Activity.Draw Draw.Settle) = Unit {0}
IsHolder (Activity.Rebalance (Rebalance.Freeze (Freeze.Settle i))) = Unit {0}
IsHolder _ = ⊥

-- the version that it holds
abbrev held_by : Activity → Local → ℕ
held_by (Activity.Draw Draw.Settle) l = l.drawn
held_by _ l = l.rebalance.drawn

-- a seat does not hold one after it read, or built
look_holds : {A : Type 0} (z : Sizes) (j : ℕ) (next : Activity) → NextLook z j next → IsHolder next → A
look_holds z j next (looks w) x = absurd x
look_holds z j next (lists w) x = absurd x

-- nor where its row is read
cell_holds : {A : Type 0} (l k : Local) → NextLeftOver l k → IsHolder k.activity → A
cell_holds l k (goes_to_left_over m w) x = absurd x
cell_holds l k (answers w e) x = absurd x
cell_holds l k (ends_scan w e f) x = absurd x
cell_holds l k (scans_on r w e f o) x = absurd x

-- nor after it built new rows
built_holds : {A : Type 0} (a : Activity) → IsAfterBuilding a → IsHolder a → A
built_holds (Activity.Draw Draw.Settle) n x = absurd n
built_holds (Activity.Rebalance (Rebalance.Freeze (Freeze.Settle i))) n x = absurd n
built_holds _ n x = absurd x

-- nor where it is done with a row of its group
frozen_holds : {A : Type 0} (l k : Local) → NextFrozen l k → IsHolder k.activity → A
frozen_holds l k (freezes_ahead r e) x = absurd x
frozen_holds l k (froze_all e) x = absurd x

gathered_holds : {A : Type 0} (z : Sizes) (l k : Local) → NextGathered z l k → IsHolder k.activity → A
gathered_holds z l k (gathers_ahead r e) x = absurd x
gathered_holds z l k (gathered_all e) x = absurd x

-- a seat that holds one has just drawn it
drawn_now : (z : Sizes) (v : Words) (s : ℕ) (choice : Choice) (l : Local) (a : Activity) (k : Local) → Arrow z v s choice l a k → IsHolder k.activity → held_by k.activity k ≡ v name.Clock
drawn_now z v s choice l a k (builds b next y t) x = built_holds k.activity (built_goes z v choice l b k t).next x
drawn_now z v s choice l a k (asks_of_pin next o n) x = absurd (of_pin_is (λ b. IsHolder b → ⊥) (λ y. y) (λ y. y) (λ y. y) (λ y. y) (λ y. y) (λ y. y) n x)
drawn_now z v s choice l a k (looks_at_pin j next n) x = absurd (pin_look_is (λ b. IsHolder b → ⊥) (λ q y. y) (λ y. y) n x)
drawn_now z v s choice l a k draws x = refl
drawn_now z v s choice l a k (draws_for j) x = refl
drawn_now z v s choice l a k (sees_stamped j c version next e n) x = look_holds z _ next n x
drawn_now z v s choice l a k (sees_neither j next e n) x = look_holds z _ next n x
drawn_now z v s choice l a k (is_gone_by next e n) x = look_holds z _ next n x
drawn_now z v s choice l a k (helps next e n) x = look_holds z _ next n x
drawn_now z v s choice l a k (finds_stamped c version next e n) x = look_holds z _ next n x
drawn_now z v s choice l a k (finds_other next e n) x = look_holds z _ next n x
drawn_now z v s choice l a k (first_ends next e n) x = cell_holds _ next n x
drawn_now z v s choice l a k (list_ends next e n) x = cell_holds _ next n x
drawn_now z v s choice l a k (key_above next e n) x = cell_holds _ next n x
drawn_now z v s choice l a k (left_over_gone_by next e n) x = cell_holds _ next n x
drawn_now z v s choice l a k (gathers_left_over next n) x = cell_holds _ next n x
drawn_now z v s choice l a k (remembers_last i c version next e o n) x = frozen_holds _ next n x
drawn_now z v s choice l a k (sees_frozen_last i next e o n) x = frozen_holds _ next n x
drawn_now z v s choice l a k (freezes_last i next e o n) x = frozen_holds _ next n x
drawn_now z v s choice l a k (takes_no_more next e none n) x = gathered_holds z _ next n x
drawn_now z v s choice l a k (keeps_no_more next none n) x = gathered_holds z _ next n x
drawn_now z v s choice l a k (marks_led count next d n) x = absurd (counted_not IsHolder (λ y. y) (λ y. y) n x)
drawn_now z v s choice l a k (decides count m next e n) x = absurd (counted_not IsHolder (λ y. y) (λ y. y) n x)
drawn_now z v s choice l a k b x = absurd x

-- The word of a scan that says what was drawn.

-- the link that is exchanged is no word of a scan
no_scan_link : (b : Option ℕ) (t : ℕ) → Some (replaced_link b) ≡ Some (name.Scan t) → ⊥
no_scan_link (Some p) t e = let x : Some (name.Next p) ≡ Some (name.Scan t) = e in cc
no_scan_link None t e = let x : Some name.Head ≡ Some (name.Scan t) = e in cc

-- what a word of a scan says is one
drawn_same : (u w : ℕ) → scan_word (Drawn u) ≡ scan_word (Drawn w) → u ≡ w
drawn_same u w e = omega (arith, e)

-- no word says both that a version was drawn and that a scan waits
drawn_apart : {A : Type 0} (u c : ℕ) → scan_word (Drawn u) ≡ scan_word (Waiting c) → A
drawn_apart u c e = absurd (omega (arith, e))

module _ {z : Sizes} {r r' : Run} {s : ℕ} {choice : Choice} {l l' : Local} where
  -- what a scan has drawn was needed through its seat
  drawn_was : (a : Activity) → Happens z r r' s choice l l' a → (i u : ℕ) → i < z.seats → word z r'.world (name.Scan i) ≡ scan_word (Drawn u) → Through z r i u
  drawn_was (Activity.Draw Draw.Wait) h i u o w = which (cases_eq s i)
    where
      which : (s ≡ i) ⊎ (s ≡ i → ⊥) → Through z r i u
      which (inl e) = drawn_apart u l.waiting (sym w ∙ subst (λ t. word z r'.world (name.Scan t) ≡ scan_word (Waiting l.waiting)) e h.changed.same)
      which (inr d) = has_drawn o (sym (unwritten (Activity.Draw Draw.Wait) h (name.Scan i) o (λ e. d (same_scan s i e))) ∙ w)
  drawn_was (Activity.Draw Draw.Settle) h i u o w = which (cases_eq s i)
    where
      own : (word z r.world (name.Scan s) ≡ scan_word (Waiting l.waiting)) ⊎ (word z r.world (name.Scan s) ≡ scan_word (Waiting l.waiting) → ⊥) → s < z.seats → word z r'.world (name.Scan s) ≡ scan_word (Drawn u) → Through z r s u
      own (inl e) q v = is_held l q h.knows h.activity (drawn_same l.drawn u (sym (exchanged _ _ _ _ h.changed.same e) ∙ v)) e
      own (inr d) q v = has_drawn q (sym (not_exchanged _ _ _ _ h.changed.same d) ∙ v)

      which : (s ≡ i) ⊎ (s ≡ i → ⊥) → Through z r i u
      which (inl e) = subst (λ t. Through z r t u) e (own (cases_eq _ _) h.seat (subst (λ t. word z r'.world (name.Scan t) ≡ scan_word (Drawn u)) (sym e) w))
      which (inr d) = has_drawn o (sym (unwritten (Activity.Draw Draw.Settle) h (name.Scan i) o (λ e. d (same_scan s i e))) ∙ w)
  drawn_was (Activity.Rebalance (Rebalance.Freeze (Freeze.Settle j))) h i u o w = which (cases_eq j i)
    where
      at : (word z r.world (name.Scan j) ≡ scan_word (Waiting l.rebalance.waiting)) ⊎ (word z r.world (name.Scan j) ≡ scan_word (Waiting l.rebalance.waiting) → ⊥) → j < z.seats → word z r'.world (name.Scan j) ≡ scan_word (Drawn u) → Through z r j u
      at (inl e) q v = is_helped s l q h.knows h.activity (drawn_same l.rebalance.drawn u (sym (exchanged _ _ _ _ h.changed.same e) ∙ v)) e
      at (inr d) q v = has_drawn q (sym (not_exchanged _ _ _ _ h.changed.same d) ∙ v)

      which : (j ≡ i) ⊎ (j ≡ i → ⊥) → Through z r i u
      which (inl e) = subst (λ t. Through z r t u) e (at (cases_eq _ _) (subst (λ t. t < z.seats) (sym e) o) (subst (λ t. word z r'.world (name.Scan t) ≡ scan_word (Drawn u)) (sym e) w))
      which (inr d) = has_drawn o (sym (unwritten (Activity.Rebalance (Rebalance.Freeze (Freeze.Settle j))) h (name.Scan i) o (λ e. d (same_scan j i e))) ∙ w)
  drawn_was (Activity.EndScan answer) h i u o w = which (cases_eq s i)
    where
      which : (s ≡ i) ⊎ (s ≡ i → ⊥) → Through z r i u
      which (inl e) = let x : scan_word (Drawn u) ≡ scan_word Quiet = sym w ∙ subst (λ t. word z r'.world (name.Scan t) ≡ scan_word Quiet) e h.changed.same in absurd (omega (arith, x))
      which (inr d) = has_drawn o (sym (unwritten (Activity.EndScan answer) h (name.Scan i) o (λ e. d (same_scan s i e))) ∙ w)
  drawn_was (Activity.Walk Walk.Next) h i u o w = saw (is_stopped choice l) refl (cases_eq s i)
    where
      saw : (b : Bool) → is_stopped choice l ≡ b → (s ≡ i) ⊎ (s ≡ i → ⊥) → Through z r i u
      saw true f (inl e) = let x : scan_word (Drawn u) ≡ scan_word Quiet = sym w ∙ subst (λ t. word z r'.world (name.Scan t) ≡ scan_word Quiet) e (stopped_clears h f) in absurd (omega (arith, x))
      saw false f (inl e) = has_drawn o (sym (subst (λ t. word z r'.world (name.Scan t) ≡ word z r.world (name.Scan t)) e (goes_on_walk h f)) ∙ w)
      saw b f (inr d) = has_drawn o (sym (unwritten (Activity.Walk Walk.Next) h (name.Scan i) o (rw f (not_own b d))) ∙ w)
        where
          not_own : (b : Bool) → (s ≡ i → ⊥) → writes (Activity.Walk Walk.Next) s b l ≢ Some (name.Scan i)
          not_own true d e = d (same_scan s i e)
          not_own false d e = let x : None ≡ Some (name.Scan i) = e in cc
  drawn_was (Activity.Insert Insert.Exchange) h i u o w = has_drawn o (sym (unwritten (Activity.Insert Insert.Exchange) h (name.Scan i) o (λ e. no_link l.row l.link (name.Scan i) refl e)) ∙ w)
  drawn_was (Activity.Rebalance (Rebalance.Replace Replace.Exchange)) h i u o w = has_drawn o (sym (unwritten (Activity.Rebalance (Rebalance.Replace Replace.Exchange)) h (name.Scan i) o (no_scan_link l.rebalance.before i)) ∙ w)
  drawn_was (Activity.Enter Enter.Announce) h i u o w = has_drawn o (sym (unwritten (Activity.Enter Enter.Announce) h (name.Scan i) o (λ e. cc)) ∙ w)
  drawn_was (Activity.Look Look.Key) h i u o w = has_drawn o (sym (unwritten (Activity.Look Look.Key) h (name.Scan i) o (λ e. cc)) ∙ w)
  drawn_was (Activity.Read Read.Link) h i u o w = has_drawn o (sym (unwritten (Activity.Read Read.Link) h (name.Scan i) o (λ e. cc)) ∙ w)
  drawn_was (Activity.Put Put.Count) h i u o w = has_drawn o (sym (unwritten (Activity.Put Put.Count) h (name.Scan i) o (λ e. cc)) ∙ w)
  drawn_was (Activity.Rebalance (Rebalance.Engage Engage.Clock)) h i u o w = has_drawn o (sym (unwritten (Activity.Rebalance (Rebalance.Engage Engage.Clock)) h (name.Scan i) o (λ e. cc)) ∙ w)
  drawn_was (Activity.Rebalance (Rebalance.Claim Claim.Count)) h i u o w = has_drawn o (sym (unwritten (Activity.Rebalance (Rebalance.Claim Claim.Count)) h (name.Scan i) o (λ e. cc)) ∙ w)
  drawn_was (Activity.Rebalance (Rebalance.Left Left.Next)) h i u o w = has_drawn o (sym (unwritten (Activity.Rebalance (Rebalance.Left Left.Next)) h (name.Scan i) o (λ e. cc)) ∙ w)
  drawn_was (Activity.Rebalance (Rebalance.Gather Gather.Link)) h i u o w = has_drawn o (sym (unwritten (Activity.Rebalance (Rebalance.Gather Gather.Link)) h (name.Scan i) o (λ e. cc)) ∙ w)
  drawn_was (Activity.Rebalance (Rebalance.Seek Seek.Next)) h i u o w = has_drawn o (sym (unwritten (Activity.Rebalance (Rebalance.Seek Seek.Next)) h (name.Scan i) o (λ e. cc)) ∙ w)
  drawn_was (Activity.Rebalance (Rebalance.Write Write.Count)) h i u o w = has_drawn o (sym (unwritten (Activity.Rebalance (Rebalance.Write Write.Count)) h (name.Scan i) o (λ e. cc)) ∙ w)
  drawn_was a h i u o w = has_drawn o (sym (unwritten a h (name.Scan i) o (λ e. cc)) ∙ w)

-- No event writes the word of a pin, since no seat is in a call that would.

-- the link that is exchanged is none
no_pin_link : (b : Option ℕ) (t : ℕ) → Some (replaced_link b) ≡ Some (name.Pin t) → ⊥
no_pin_link (Some p) t e = let x : Some (name.Next p) ≡ Some (name.Pin t) = e in cc
no_pin_link None t e = let x : Some name.Head ≡ Some (name.Pin t) = e in cc

-- nor is what a walk writes
no_pin_walk : (b : Bool) (s t : ℕ) → walk_writes b s ≡ Some (name.Pin t) → ⊥
no_pin_walk true s t e = let x : Some (name.Scan s) ≡ Some (name.Pin t) = e in cc
no_pin_walk false s t e = let x : None ≡ Some (name.Pin t) = e in cc

-- none of its names is that of a pin
not_pin : (a : Activity) (s : ℕ) (b : Bool) (l : Local) (t : ℕ) → IsKind a l → writes a s b l ≡ Some (name.Pin t) → ⊥
not_pin (Activity.Insert Insert.Exchange) s b l t k e = no_link l.row l.link (name.Pin t) refl e
not_pin (Activity.Walk Walk.Next) s b l t k e = no_pin_walk b s t e
not_pin (Activity.Rebalance (Rebalance.Replace Replace.Exchange)) s b l t k e = no_pin_link l.rebalance.before t e
not_pin (Activity.Enter Enter.Announce) s b l t k e = cc
not_pin (Activity.Draw Draw.Clock) s b l t k e = cc
not_pin (Activity.Look Look.Key) s b l t k e = cc
not_pin (Activity.Read Read.Link) s b l t k e = cc
not_pin (Activity.Put Put.Count) s b l t k e = cc
not_pin (Activity.Rebalance (Rebalance.Engage Engage.Clock)) s b l t k e = cc
not_pin (Activity.Rebalance (Rebalance.Claim Claim.Count)) s b l t k e = cc
not_pin (Activity.Rebalance (Rebalance.Freeze Freeze.Count)) s b l t k e = cc
not_pin (Activity.Rebalance (Rebalance.Left Left.Next)) s b l t k e = cc
not_pin (Activity.Rebalance (Rebalance.Gather Gather.Link)) s b l t k e = cc
not_pin (Activity.Rebalance (Rebalance.Seek Seek.Next)) s b l t k e = cc
not_pin (Activity.Rebalance (Rebalance.Write Write.Count)) s b l t k e = cc
not_pin (Activity.Draw Draw.Pin) s b l t k e = absurd k
not_pin Activity.ClearPin s b l t k e = absurd k
not_pin a s b l t k e = cc

-- so it stays
pin_stays : {z : Sizes} {r r' : Run} {s : ℕ} {choice : Choice} {l l' : Local} (a : Activity) → Happens z r r' s choice l l' a → Below z r → (j : ℕ) → j < z.seats → word z r'.world (name.Pin j) ≡ word z r.world (name.Pin j)
pin_stays {s = s} {choice = choice} {l = l} a h i j o = unwritten a h (name.Pin j) o (not_pin a s (is_stopped choice l) l j (kind_at a h i.shape))

-- Over an event.

module _ (z : Sizes) (r r' : Run) (s : ℕ) (choice : Choice) (l : Local) (a : Activity) (l' : Local) (h : Happens z r r' s choice l l' a) (i : Below z r) where
  -- a scan that begins to wait is not helped yet
  not_helped : {A : Type 0} (q t : ℕ) (k : Local) → q < z.seats → q ≡ s → a ≡ Activity.Draw Draw.Wait → slice_get r.world.locals t ≡ Some k → k.activity ≡ Activity.Rebalance (Rebalance.Freeze (Freeze.Settle q)) → word z r'.world (name.Scan q) ≡ scan_word (Waiting l.waiting) → word z r'.world (name.Scan q) ≡ scan_word (Waiting k.rebalance.waiting) → A
  not_helped q t k o e is g f v w =
      let x : scan_word (Waiting l.waiting) ≡ scan_word (Waiting k.rebalance.waiting) = sym v ∙ w in
      let late = (i.positions.helping t k g q o).loads (subst (HelpsScan q) (sym f) refl) l (subst (λ y. slice_get r.world.locals y ≡ Some l) (sym e) h.knows) (subst IsToWait (sym (h.activity ∙ is)) tt) in
      absurd (omega (arith, x, late))

  -- the acting seat, where it holds a version
  own_draw : (k : Local) → slice_get r'.world.locals s ≡ Some k → (b : Activity) → k.activity ≡ b → IsHolder b → held_by b k ≡ word z r.world name.Clock
  own_draw k g b e x =
      let same : l' ≡ k = same_Some l' k (sym (knows_next h) ∙ g) in
      subst (λ c. held_by c k ≡ word z r.world name.Clock) e (subst (λ (m : Local). held_by m.activity m ≡ word z r.world name.Clock) same (drawn_now z (word z r.world) s choice l a l' h.arrow (subst (λ (m : Local). IsHolder m.activity) (sym same) (subst IsHolder (sym e) x))))

  -- what is newly needed was just drawn
  through_was : (q u : ℕ) → Through z r' q u → Through z r q u ⊎ (word z r.world name.Clock ≤ u)
  through_was q u (has_drawn o w) = inl (drawn_was a h q u o w)
  through_was q u (is_held k o g e f w) = which (cases_eq q s)
    where
      step : q ≢ s → ScanStep z r r' s l a q → Through z r q u
      step d (is_kept x n) = is_held k o (sym (knows_other h q d) ∙ g) e f (sym x ∙ w)
      step d (begins_to_wait x is v) = absurd (d x)
      step d (waits_no_more n y) = absurd (n k.waiting w)

      which : (q ≡ s) ⊎ (q ≡ s → ⊥) → Through z r q u ⊎ (word z r.world name.Clock ≤ u)
      which (inl x) = let y = own_draw k (subst (λ t. slice_get r'.world.locals t ≡ Some k) x g) (Activity.Draw Draw.Settle) e tt in inr (omega (arith, y, f))
      which (inr d) = inl (step d (scan_step z r r' s choice l l' i a h q o))
  through_was q u (is_helped t k o g e f w) = which (cases_eq t s)
    where
      step : slice_get r.world.locals t ≡ Some k → ScanStep z r r' s l a q → Through z r q u
      step y (is_kept x n) = is_helped t k o y e f (sym x ∙ w)
      step y (begins_to_wait x is v) = not_helped q t k o x is y e v w
      step y (waits_no_more n x) = absurd (n k.rebalance.waiting w)

      which : (t ≡ s) ⊎ (t ≡ s → ⊥) → Through z r q u ⊎ (word z r.world name.Clock ≤ u)
      which (inl x) = let y = own_draw k (subst (λ t. slice_get r'.world.locals t ≡ Some k) x g) (Activity.Rebalance (Rebalance.Freeze (Freeze.Settle q))) e tt in inr (omega (arith, y, f))
      which (inr d) = inl (step (sym (knows_other h t d) ∙ g) (scan_step z r r' s choice l l' i a h q o))

-- nothing is needed through a scan that begins to wait
none_through : (z : Sizes) (r r' : Run) (s : ℕ) (choice : Choice) (l l' : Local) → Happens z r r' s choice l l' (Activity.Draw Draw.Wait) → Below z r → (u : ℕ) → Through z r' s u → ⊥
none_through z r r' s choice l l' h i u (has_drawn o w) = drawn_apart u l.waiting (sym w ∙ h.changed.same)
none_through z r r' s choice l l' h i u (is_held k o g e f w) =
    let x : (Activity.Draw Draw.Version) ≡ (Activity.Draw Draw.Settle) = sym (ap (λ (m : Local). m.activity) h.next) ∙ ap (λ (m : Local). m.activity) (same_Some l' k (sym (knows_next h) ∙ g)) ∙ e in
    absurd (cc)
none_through z r r' s choice l l' h i u (is_helped t k o g e f w) = which (cases_eq t s)
  where
    which : (t ≡ s) ⊎ (t ≡ s → ⊥) → ⊥
    which (inl y) =
        let x : (Activity.Draw Draw.Version) ≡ (Activity.Rebalance (Rebalance.Freeze (Freeze.Settle s))) = sym (ap (λ (m : Local). m.activity) h.next) ∙ ap (λ (m : Local). m.activity) (same_Some l' k (sym (knows_next h) ∙ subst (λ q. slice_get r'.world.locals q ≡ Some k) y g)) ∙ e in
        cc
    which (inr d) = not_helped z r r' s choice l (Activity.Draw Draw.Wait) l' h i s t k o refl refl (sym (knows_other h t d) ∙ g) e h.changed.same w

-- since when a scan waits stays, or nothing is needed through it
wait_renews : (z : Sizes) (r r' : Run) (s : ℕ) (choice : Choice) (l : Local) (a : Activity) (l' : Local) → Happens z r r' s choice l l' a → Below z r → (q : ℕ) → (r'.ledger.waits q ≡ r.ledger.waits q) ⊎ ((u : ℕ) → Through z r' q u → word z r.world name.Clock ≤ u)
wait_renews z r r' s choice l (Activity.Draw Draw.Wait) l' h i q = which (cases_eq q s)
  where
    which : (q ≡ s) ⊎ (q ≡ s → ⊥) → (r'.ledger.waits q ≡ r.ledger.waits q) ⊎ ((u : ℕ) → Through z r' q u → word z r.world name.Clock ≤ u)
    which (inl e) = inr (λ u t. absurd (none_through z r r' s choice l l' h i u (subst (λ y. Through z r' y u) e t)))
    which (inr d) = inl (waits_stay z r r' s choice l (Activity.Draw Draw.Wait) l' h q (λ e. absurd (d e)))
wait_renews z r r' s choice l a l' h i q = inl (waits_stay z r r' s choice l a l' h q (λ e x. cc))

-- so what is needed only shrinks
pub scans_move : (z : Sizes) (r r' : Run) (s : ℕ) (choice : Choice) (l : Local) (a : Activity) (l' : Local) → Happens z r r' s choice l l' a → Below z r → Moves (word z r.world name.Clock) (word z r'.world name.Clock) r.ledger.waits r'.ledger.waits (Through z r) (Through z r')
scans_move z r r' s choice l a l' h i = record { rises = clock_never_falls a h; goes_on = through_was z r r' s choice l a l' h i; renews = wait_renews z r r' s choice l a l' h i }

-- what is pinned was
pub pinned_was : (z : Sizes) (r r' : Run) (s : ℕ) (choice : Choice) (l : Local) (a : Activity) (l' : Local) → Happens z r r' s choice l l' a → Below z r → (j u : ℕ) → ThroughPin z r' j u → ThroughPin z r j u
pinned_was z r r' s choice l a l' h i j u t = (t.0, sym (pin_stays a h i j t.0) ∙ t.1)

-- so nothing is newly pinned
pub pins_move : (z : Sizes) (r r' : Run) (s : ℕ) (choice : Choice) (l : Local) (a : Activity) (l' : Local) → Happens z r r' s choice l l' a → Below z r → Pins (Through z r) (ThroughPin z r) (ThroughPin z r')
pins_move z r r' s choice l a l' h i = record { goes_on = λ j u t. inl (pinned_was z r r' s choice l a l' h i j u t) }

-- each version that is needed was needed before
pub needed_before : (z : Sizes) (r r' : Run) (s : ℕ) (choice : Choice) (l : Local) (a : Activity) (l' : Local) → Happens z r r' s choice l l' a → Below z r → (u : ℕ) → Needed z r' u → Needed z r u
needed_before z r r' s choice l a l' h i u n = needed_was (word z r.world name.Clock) (word z r'.world name.Clock) r.ledger.waits r'.ledger.waits (Through z r) (Through z r') (scans_move z r r' s choice l a l' h i) (ThroughPin z r) (ThroughPin z r') (pins_move z r r' s choice l a l' h i) u n
