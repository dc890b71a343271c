-- The world that a run begins with is sane, each of its seats rests, and a seat may know something
-- else in range.
use Rattle.std.proofs.Common.{ℕ, zero, suc, ◌≡◌, ◌≢◌, ◌⊎◌, inl, inr, ◌<◌, false, Some, None, arith, refl, sym, ◌∙◌, ap, subst, length, slice_get, slice_set}
use Rattle.std.specs.Prelude.{replicate}
use Rattle.std.proofs.lemmas.Bool.{cases_eq}
use Rattle.std.proofs.lemmas.Option.{slice_get_within, same_Some, get_or_from_slice_get}
use Rattle.std.proofs.lemmas.List.{length-replicate, length-set, get_or-replicate}
use Rattle.std.proofs.lemmas.List.Elements.{All-nil}
use Rattle.kw_words.specs.declared.layout.Name.{Name}
use Rattle.kw_words.specs.declared.layout.Name.TheVariants as name
use Rattle.kw_words.specs.Layout.{IsSized, IsWithin}
use Rattle.kw_words.specs.Count.{count_of}
use Rattle.kw_words.specs.Link.{link_of, link_word}
use Rattle.kw_words.proofs.PendWords.{pend_of-Idle}
use Rattle.kw_words.proofs.PlainWords.{built_of_word-zero}
use Rattle.kw_words.proofs.ScanWords.{scan_of-Quiet}
use Rattle.kw_words.proofs.StateWords.{state_of-Free, state_of-Normal}
use Rattle.kw_world.specs.declared.local.Local.{Local}
use Rattle.kw_world.specs.declared.opening.Opening.{Opening}
use Rattle.kw_world.specs.Lending.{with_local}
use Rattle.kw_world.specs.Sizes.{Sizes}
use Rattle.kw_world.specs.WorldView.{WorldView}
use Rattle.kw_world.specs.Local.{resting, no_rebalance}
use Rattle.kw_world.specs.declared.activity.Activity.{Activity}
use Rattle.kw_world.specs.Opening.{IsOpening, opened, opening_word, link_to}
use Rattle.kw_world.specs.Sane.{IsSane, IsKnown, IsWord, IsLed, IsHead, IsStateBelow, IsLinkBelow, IsRowState, IsKnownWord, IsGiven, IsEntry, IsPair, IsMark, IsGroupMark, IsCopy, IsPlaced, IsVersion, IsRebalance, IsRebalanceBelow, HasRebalanceRoom, IsTakingRows}
use Rattle.kw_world.specs.Step.{word}
use Rattle.kw_world.proofs.Begins.{opened-word, length-opened}
use Rattle.kw_world.proofs.Lists.{get-set_same, get-set_other}

-- nothing of a rebalance is out of range
pub none_ranges : (z : Sizes) → IsRebalance z no_rebalance
none_ranges z = record {
  entry = tt;
  marks = All-nil (IsGroupMark z);
  waiting = (omega arith, omega arith);
  drawn = (omega arith, omega arith);
  needed = All-nil IsVersion;
  gathered = All-nil IsCopy;
  placed = All-nil (IsPlaced z);
  kept = All-nil IsCopy;
  places = All-nil (IsPlaced z);
  few = omega arith;
  fits = λ n o. omega arith;
  taken = omega arith;
  at = omega arith;
  least = omega arith;
  number = (omega arith, omega arith);
}

pub none_below : (rows : ℕ) → 0 < rows → IsRebalanceBelow rows no_rebalance
none_below rows some = record { after = tt; second = tt; hand = some; ahead = tt; taken = All-nil (λ r. r < rows); sought = some; asked = omega arith; before = tt }

-- and its lists have room, where the seat does not seek rows
pub none_room : (z : Sizes) (a : Activity) → (IsTakingRows a → ⊥) → HasRebalanceRoom z a no_rebalance
none_room z a never = record { marks = omega arith; needed = omega arith; gathered = omega arith; taken = λ t. absurd (never t) }

-- a seat at rest knows nothing out of range
pub rests_known : (z : Sizes) (rows n : ℕ) → IsSized z.seats z.cells rows → IsKnown z rows (resting n)
rests_known z rows n sized = record {
  ranges = record {
    activity = tt;
    call = tt;
    pin = tt;
    epoch = (omega arith, omega arith);
    want = omega arith;
    lower = omega arith;
    built = omega arith;
    upper = omega arith;
    waiting = (omega arith, omega arith);
    drawn = (omega arith, omega arith);
    version = (omega arith, omega arith);
    pairs = All-nil IsPair;
    looked = omega (arith, sized.some_seats);
    saw = omega (arith, sized.some_cells);
    helping = (omega arith, omega arith);
    marks = All-nil (IsMark z);
    place = omega (arith, sized.some_cells);
    place_version = (omega arith, omega arith);
    place_key = omega arith;
    copies = All-nil IsCopy;
    cell = omega (arith, sized.some_cells);
    link = tt;
    held = tt;
    walked = omega arith;
    lost = omega arith;
    rebalance = none_ranges z;
  };
  below = record { row = omega (arith, sized.some_rows); candidate = omega (arith, sized.some_rows); next = tt; rebalance = none_below rows sized.some_rows };
  room = record { remembered = omega arith; gathered = omega arith; rebalance = none_room z Activity.Idle (λ t. t) };
}

-- what every seat knows
pub all_resting : (n t : ℕ) (l : Local) → slice_get (replicate n (resting 0)) t ≡ Some l → l ≡ resting 0
all_resting n t l e =
    let h : t < n = omega (arith, slice_get_within (replicate n (resting 0)) t l e, length-replicate n (resting 0)) in
    sym (get_or_from_slice_get (replicate n (resting 0)) t l (resting 0) e) ∙ get_or-replicate n t (resting 0) (resting 0) h

-- a fact of every seat, where it is one of a seat that rests
pub each_rests : (z : Sizes) (o : Opening) (P : ℕ → Local → Type 0) → ((t : ℕ) → P t (resting 0)) → (t : ℕ) (l : Local) → slice_get (opened z o).locals t ≡ Some l → P t l
each_rests z o P f t l e = subst (P t) (sym (all_resting o.seats t l e)) (f t)

none_counted : count_of 0 ≡ Some (record { given = 0; frozen = false })
unfolding count_of
none_counted = refl

last_link : link_of 0 ≡ Some (record { row = None; marked = false })
unfolding link_of
last_link = refl

first_link : link_of (link_word (link_to 0)) ≡ Some (link_to 0)
unfolding link_of
first_link = refl

module _ (z : Sizes) (o : Opening) (i : IsOpening z o) where
  -- each word is in range
  opening_sane : (n : Name) → IsWithin z.seats z.cells o.rows n → IsWord z n (opening_word o n)
  opening_sane name.Clock w = (i.some_clock, omega (arith, i.clock))
  opening_sane name.Epoch w = (i.some_epoch, omega (arith, i.epoch))
  opening_sane name.Head w = subst IsKnownWord (sym first_link) tt
  opening_sane name.Turn w = omega arith
  opening_sane (name.Pass seat) w = omega arith
  opening_sane (name.Scan seat) w = subst IsKnownWord (sym scan_of-Quiet) tt
  opening_sane (name.Pin seat) w = subst IsKnownWord (sym scan_of-Quiet) tt
  opening_sane (name.State zero) w = subst (IsRowState z) (sym state_of-Normal) tt
  opening_sane (name.State (suc q)) w = subst (IsRowState z) (sym state_of-Free) tt
  opening_sane (name.Count q) w = subst IsGiven (sym none_counted) (omega arith)
  opening_sane (name.Least q) w = omega (arith, built_of_word-zero)
  opening_sane (name.Next q) w = subst IsKnownWord (sym last_link) tt
  opening_sane (name.First q) w = omega arith
  opening_sane (name.Pend q seat) w = subst (IsEntry z) (sym pend_of-Idle) tt
  opening_sane (name.Key q c) w = omega arith
  opening_sane (name.Value q c) w = inl refl
  opening_sane (name.Version q c) w = omega arith
  opening_sane (name.After q c) w = omega arith

  -- and names rows of the table
  opening_led : (n : Name) → IsWithin z.seats z.cells o.rows n → IsLed o.rows n (opening_word o n)
  opening_led name.Head w = subst (IsHead o.rows) (sym first_link) ((0, refl, i.sized.some_rows), refl)
  opening_led (name.State zero) w = subst (IsStateBelow o.rows) (sym state_of-Normal) tt
  opening_led (name.State (suc q)) w = subst (IsStateBelow o.rows) (sym state_of-Free) tt
  opening_led (name.Next q) w = subst (IsLinkBelow o.rows) (sym last_link) tt
  opening_led _ w = tt

  -- the opened world is sane
  pub opened-sane : IsSane z (opened z o)
  opened-sane = record {
    sized = i.sized;
    words = length-opened z o;
    seats = omega (arith, length-replicate o.seats (resting 0), i.few_seats);
    each = λ n w. subst (IsWord z n) (sym (opened-word z o n i.sized w)) (opening_sane n w);
    led = λ n w. subst (IsLed o.rows n) (sym (opened-word z o n i.sized w)) (opening_led n w);
    locals = each_rests z o (λ t l. IsKnown z o.rows l) (λ t. rests_known z o.rows 0 i.sized);
  }

-- a sane world stays so where a seat comes to know something else that is in range
pub with_local-sane : (z : Sizes) (w : WorldView) (s : ℕ) (l : Local) → IsSane z w → s < length w.locals → IsKnown z w.rows l → IsSane z (with_local w s l)
unfolding word
with_local-sane z w s l sane inside known = record {
  sized = sane.sized;
  words = sane.words;
  seats = omega (arith, sane.seats, length-set w.locals s l);
  each = sane.each;
  led = sane.led;
  locals = λ t k g. here t k g (cases_eq t s);
}
  where
    here : (t : ℕ) (k : Local) → slice_get (slice_set w.locals s l) t ≡ Some k → (t ≡ s) ⊎ (t ≢ s) → IsKnown z w.rows k
    here t k g (inl is) = subst (IsKnown z w.rows) (same_Some l k (sym (get-set_same w.locals s l inside) ∙ (ap (λ x. slice_get (slice_set w.locals s l) x) (sym is) ∙ g))) known
    here t k g (inr other) = sane.locals t k (sym (get-set_other w.locals s t l other) ∙ g)
