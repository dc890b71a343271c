-- One whole event of a reader that goes along its row's list, of its pass and of the local that
-- follows it.
use Rattle.std.proofs.Common.{arith, ◌≡◌, ℕ, ◌<◌, suc, true, false, Option, Some, None, List, [], ◌∷◌, ◌++◌, All, refl, sym, ◌∙◌, ap, subst, inl, inr}
use Rattle.std.proofs.lemmas.List.Elements.{All-nil, All-cons}
use Rattle.kw_cells.specs.Cells.{pairs_of}
use Rattle.kw_model.specs.declared.call.Call.{Call}
use Rattle.kw_model.specs.declared.call.Call.TheVariants.{Put, Del, Get, Scan, Pin, ScanAt, Unpin}
use Rattle.kw_words.specs.Plain.{cell_of_link_word}
use Rattle.kw_words.specs.declared.sizes.TheConstants.{CELLS}
use Rattle.kw_world.specs.declared.activity.Activity.{Activity}
use Rattle.kw_world.specs.declared.activity.read.Read.TheVariants as Read
use Rattle.kw_world.specs.declared.activity.walk.Walk.TheVariants as Walk
use Rattle.kw_world.specs.declared.event.Choice.TheVariants.{Go}
use Rattle.kw_world.specs.declared.local.Local.{Local}
use Rattle.kw_world.specs.Calls.{first_key, is_scan}
use Rattle.kw_world.specs.Sizes.{product}
use Rattle.kw_world.specs.Step.{next_of, transition_of, word}
use Rattle.kw_laws.specs.Laws.{KeepsLaws}
use Rattle.kw_reads.specs.Replies.{RisesBelow}
use Rattle.kw_core.specs.Run.{history}
use Rattle.kw_core.specs.Stages.{IsAtReadLink, IsAtRow, IsCovering}
use Rattle.kw_world.specs.ListTransitions.{link_name}
use Rattle.kw_laws.proofs.LawProofs.{laws_hold}
use Rattle.kw_puts.proofs.Owners.{true_false}
use Rattle.kw_table.specs.declared.pass.Pass.{Pass}
use Rattle.kw_table.specs.declared.shared.Shared.{Shared}
use Rattle.kw_table.specs.Passes.{view}
use Rattle.kw_table.specs.Views.{local_in}
use Rattle.kw_follow.specs.Following.{Follows, GoesTo, activity_in, carried, held}
use Rattle.kw_follow.specs.OwnEvents.{Saw, SawAs}
use Rattle.kw_follow.proofs.Fronts.{local_at, saw_laws, saw_local, saw_told}
use Rattle.kw_follow.proofs.OwnEvents.{goes_trans}
use Rattle.kw_follow.proofs.Resting.{stands}
use Rattle.kw_live.specs.Reading.{HasRead, HasReadAs, ReadsOn, is_reading_list, reads_ahead}
use Rattle.kw_live.proofs.ReadStages.{Ended, Goes, IsBelowNext, read_goes}

-- Where a reader is.

-- one that reads the row is at it
list_at_row : (a : Activity) → is_reading_list a ≡ true → IsAtRow a
list_at_row (Activity.Read _) u = tt
list_at_row _ u = true_false u refl

-- its seat does so where code does
reading_in : (s : Shared) (p : Pass) (l : Local) → Follows s p l → is_reading_list l.activity ≡ true → is_reading_list (activity_in p) ≡ true
reading_in s p l f u = sym (ap (λ (k : Local). is_reading_list k.activity) f.carries) ∙ u

-- The keys of the pairs.

all_under : (low bound : ℕ) (pairs : List (ℕ × ℕ)) → RisesBelow low bound pairs → All (λ pair. pair.0 < bound) pairs
all_under low bound [] h = All-nil (λ (pair : ℕ × ℕ). pair.0 < bound)
all_under low bound (p ∷ pairs) h = All-cons (λ (pair : ℕ × ℕ). pair.0 < bound) p pairs h.1 (all_under (suc p.0) bound pairs h.2)

-- those of the last pairs are below too
under_last : (low bound : ℕ) (before pairs : List (ℕ × ℕ)) → RisesBelow low bound (before ++ pairs) → All (λ pair. pair.0 < bound) pairs
under_last low bound [] pairs h = all_under low bound pairs h
under_last low bound (p ∷ before) pairs h = under_last (suc p.0) bound before pairs h.2

-- so a reader that has read the row has read it as the contract says
has_read : (call : Option Call) (want version : ℕ) (m : Local) (before after : List (ℕ × ℕ)) → (is_scan call ≡ true → m.activity ≡ Activity.Walk Walk.Next → RisesBelow (first_key call) m.want after) → Ended call want version m before after → HasReadAs call want version m before after
has_read (Some (Put key value)) want version m before after below e = tt
has_read (Some (Del key)) want version m before after below e = tt
has_read (Some (Get key)) want version m before after below e = e
has_read (Some (Scan from upto)) want version m before after below (inl g, h) = (
  inl (record {
    activity = g.activity;
    rises = g.rises;
    within = g.within;
    read = g.read;
    above = under_last from m.want before (pairs_of m.gathered want upto version) (subst (RisesBelow from m.want) h (below refl g.activity));
  }),
  h,
)
has_read (Some (Scan from upto)) want version m before after below (inr g, h) = (inr g, h)
has_read (Some Pin) want version m before after below e = tt
has_read (Some (ScanAt from upto)) want version m before after below e = tt
has_read (Some Unpin) want version m before after below e = tt
has_read None want version m before after below e = tt

-- The event.

-- what a reader was told at a link is what that link held
link_told : (p q : Pass) (told : ℕ) (a : Activity) → IsAtReadLink a → (x : Saw p q a Go told) → told ≡ word product (history product (view p).opening x.front).world (link_name (local_at p x.front).row (local_at p x.front).link)
link_told p q told (Activity.Read Read.Start) at x = saw_told p q (Activity.Read Read.Start) Go told x _ refl
link_told p q told (Activity.Read Read.Link) at x = saw_told p q (Activity.Read Read.Link) Go told x _ refl
link_told p q told _ at x = absurd at

-- one that a link leads to a cell has reached fewer cells than there are
pub link_counts : (s : Shared) (p q : Pass) (l : Local) (told : ℕ) → GoesTo s p q → (saw : SawAs p q l Go told) → IsAtReadLink l.activity → (c : ℕ) → cell_of_link_word told ≡ Some c → l.walked < CELLS
link_counts s p q l told goes saw at c leads =
    let x : Saw p q l.activity Go told = saw.saw in
    let laws = saw_laws s p q l.activity Go told goes x in
    subst (λ n. n < CELLS) (ap (λ (k : Local). k.walked) saw.knew)
    (laws.reads_on (view p).number (local_at p x.front) (saw_local p q l.activity Go told x) (subst IsAtReadLink (sym x.activity) at) c (ap cell_of_link_word (sym (link_told p q told l.activity at x)) ∙ leads))

-- what follows from one event: the reader goes on in the row, or has read it to its end
pub record Reads (l m : Local) (before after : List (ℕ × ℕ)) : Type 0 where
  pub call : m.call ≡ l.call
  pub version : m.version ≡ l.version
  pub on : is_reading_list m.activity ≡ true → (m.want ≡ l.want) × (after ≡ before)
  pub ends : is_reading_list m.activity ≡ false → HasRead l m before after
  pub fewer : reads_ahead m < reads_ahead l

-- all laws hold of what a pass has seen
pub laws_in : (p : Pass) → KeepsLaws product (history product (view p).opening (view p).seen)
laws_in p = laws_hold product (view p).opening p.known.opens (view p).seen p.known.valid

-- a reader at its row wants a key below the next row
below_next : (p : Pass) → is_reading_list (activity_in p) ≡ true → IsBelowNext (local_in (view p))
below_next p u n e = ((((laws_in p).walks (view p).number (local_in (view p)) (stands p)).at (list_at_row (activity_in p) u)).next n e).below

-- a scan that walks has pairs of keys below the one that it wants
below_wanted : (q : Pass) → is_scan (local_in (view q)).call ≡ true → activity_in q ≡ Activity.Walk Walk.Next → RisesBelow (first_key (local_in (view q)).call) (local_in (view q)).want (held q)
below_wanted q scan is =
    let covers : IsCovering (activity_in q) = subst IsCovering (sym is) tt in
    let rises = ((laws_in q).below (view q).number (local_in (view q)) (stands q) scan covers).rises in
    rises

module _ (s : Shared) (p q : Pass) (l m : Local) (told : ℕ) (f : Follows s p l) (goes : GoesTo s p q) (after : Follows s q m) (seat : local_in (view q) ≡ (next_of product (view p).opening.rows Go (local_in (view p)) told).local) (saw : SawAs p q l Go told) (reading : is_reading_list l.activity ≡ true) where
  -- a reader that a link leads to a cell has reached fewer cells than there are
  led_on : IsAtReadLink l.activity → (c : ℕ) → cell_of_link_word told ≡ Some c → l.walked < CELLS
  led_on at c leads = link_counts s p q l told goes saw at c leads

  led_in : IsAtReadLink (activity_in p) → (c : ℕ) → cell_of_link_word told ≡ Some c → (local_in (view p)).walked < CELLS
  led_in at c leads = subst (λ (k : Local). k.walked < CELLS) f.carries (led_on (subst (λ (k : Local). IsAtReadLink k.activity) (sym f.carries) at) c leads)

  -- the seat goes on by the table
  both : Goes product (local_in (view p)).call (local_in (view p)).want (local_in (view p)).version (held p) (reads_ahead (local_in (view p))) (next_of product (view p).opening.rows Go (local_in (view p)) told)
  unfolding transition_of
  both = read_goes product (activity_in p) (local_in (view p)) (view p).opening.rows told (reading_in s p l f reading) (below_next p (reading_in s p l f reading)) led_in

  -- what has been read, by what the seat knew and knows
  reads_in : Reads (carried (local_in (view p))) (carried (local_in (view q))) (held p) (held q)
  reads_in =
      let k : Local = local_in (view p) in
      let x : Local = local_in (view q) in
      let calls : x.call ≡ k.call = ap (λ (y : Local). y.call) seat ∙ both.calls in
      record {
        call = calls;
        version = ap (λ (y : Local). y.version) seat ∙ both.drawn;
        on = λ e.
            let on = both.on (ap (λ (y : Local). is_reading_list y.activity) (sym seat) ∙ e) in
            (ap (λ (y : Local). y.want) seat ∙ on.0, ap (λ (y : Local). y.pairs) seat ∙ on.1);
        ends = λ e.
            let ends = both.ends (ap (λ (y : Local). is_reading_list y.activity) (sym seat) ∙ e) in
            has_read k.call k.want k.version (carried x) (held p) (held q)
            (λ scan walks. subst (λ (c : Option Call). RisesBelow (first_key c) x.want (held q)) calls (below_wanted q (ap is_scan calls ∙ scan) walks))
            (subst (λ (y : Local). Ended k.call k.want k.version (carried y) k.pairs y.pairs) (sym seat) ends);
        fewer = subst (λ (y : Local). reads_ahead y < reads_ahead k) (sym seat) both.fewer;
      }

  pub reads : Reads l m (held p) (held q)
  reads = subst (λ (y : Local). Reads y m (held p) (held q)) (sym f.carries) (subst (λ (y : Local). Reads (carried (local_in (view p))) y (held p) (held q)) (sym after.carries) reads_in)

-- One event more, of a reader that still reads the row with which it began.
pub reads_on : (l m n : Local) (before during after : List (ℕ × ℕ)) → m.call ≡ l.call → m.version ≡ l.version → m.want ≡ l.want → during ≡ before → HasRead m n during after → HasRead l n before after
reads_on l m n before during after call version want held read =
    subst (λ c. HasReadAs c l.want l.version n before after) call
    (subst (λ v. HasReadAs m.call l.want v n before after) version
    (subst (λ w. HasReadAs m.call w m.version n before after) want
    (subst (λ b. HasReadAs m.call m.want m.version n b after) held read)))

-- One reading after the other, where the reader still reads the row between them.
pub reads_trans : (s : Shared) (p q r : Pass) (l m n : Local) → is_reading_list m.activity ≡ true → ReadsOn s p l q m → ReadsOn s q m r n → ReadsOn s p l r n
reads_trans s p q r l m n reading a b =
    let was = a.on reading in
    record {
      goes = goes_trans s p q r a.goes b.goes;
      follows = b.follows;
      calls = b.calls ∙ a.calls;
      call = b.call ∙ a.call;
      version = b.version ∙ a.version;
      on = λ e. let more = b.on e in (more.0 ∙ was.0, more.1 ∙ was.1);
      ends = λ e. reads_on l m n _ _ _ a.call a.version was.0 was.1 (b.ends e);
      fewer = omega (arith, a.fewer, b.fewer);
    }
