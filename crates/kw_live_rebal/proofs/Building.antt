-- A rebalance that gathers the full row, seeks free ones or writes a new one goes on by each
-- stretch of such events.
use Rattle.std.proofs.Common.{◌≡◌, ℕ, true, false, ◌∙◌, ap, refl, subst, sym}
use Rattle.std.proofs.lemmas.Bool.{false≢true}
use Rattle.kw_world.specs.declared.activity.Activity.{Activity}
use Rattle.kw_world.specs.declared.activity.rebalance.Rebalance.TheVariants as Rebalance
use Rattle.kw_world.specs.declared.activity.rebalance.replace.Replace.TheVariants as Replace
use Rattle.kw_world.specs.declared.activity.rebalance.seek.Seek.TheVariants as Seek
use Rattle.kw_world.specs.declared.event.Choice.TheVariants.{Go}
use Rattle.kw_world.specs.declared.event.StepDone.{StepDone}
use Rattle.kw_world.specs.declared.local.Local.{Local}
use Rattle.kw_world.specs.Sizes.{product}
use Rattle.kw_world.specs.Step.{next_of}
use Rattle.kw_world.specs.Transition.{outcome}
use Rattle.kw_table.specs.declared.pass.Pass.{Pass}
use Rattle.kw_table.specs.declared.shared.Shared.{Shared}
use Rattle.kw_table.specs.Passes.{view, Makes}
use Rattle.kw_follow.specs.declared.seeking.Search.{Search}
use Rattle.kw_follow.specs.BuildsOn.{IsBuildingOn, asks_seat}
use Rattle.kw_follow.specs.Moving.{WentOn}
use Rattle.kw_follow.specs.Searches.{seeking_at}
use Rattle.kw_follow.specs.Reaching.{Advances}
use Rattle.kw_follow.proofs.AskEvents.{asks_balances}
use Rattle.kw_follow.proofs.Moving.{moves, went_on}
use Rattle.kw_follow.proofs.OwnEvents.{goes_trans}
use Rattle.kw_follow.proofs.Reaching.{advances_on, advances_trans}
use Rattle.kw_follow.proofs.Untidied.{balancing_works}
use Rattle.kw_live_rebal.specs.Standing.{GoesOn, HasSeenCause, Rebalances, ends_rebuild}
use Rattle.kw_live_rebal.proofs.Sightings.{search_on}
use Rattle.kw_live_rebal.proofs.Stages.{keeps_seen, work_on}

-- nothing was to be reached where it stands after a stretch
built_met : (o q : Pass) (a : Activity) (m : Local) → IsBuildingOn a → HasSeenCause o q a m
built_met o q (Activity.Rebalance (Rebalance.Gather _)) m h = tt
built_met o q (Activity.Rebalance (Rebalance.Write _)) m h = tt
built_met o q (Activity.Rebalance (Rebalance.Seek Seek.First)) m h = tt
built_met o q (Activity.Rebalance (Rebalance.Replace Replace.Start)) m h = tt
built_met o q _ m h = absurd h

-- the full row was gathered, or a new one written
pub stretch_goes_on : {s : Shared} {p q : Pass} {l m : Local} → Advances s p q m → IsBuildingOn m.activity → GoesOn s p l q m
stretch_goes_on {s} {p} {q} {l} {m} b stands o r = record {
  goes = goes_trans _ _ _ _ r.goes b.goes;
  follows = b.follows;
  calls = b.calls ∙ r.calls;
  held = b.held ∙ r.held;
  saw = λ undone. built_met o q m.activity m stands;
}

-- rows in use were gone by
pub search_goes_on : {s : Shared} {p q : Pass} {l : Local} (x : Search) → l.activity ≡ Activity.Rebalance (Rebalance.Seek Seek.Next) → Advances s p q (seeking_at x l) → GoesOn s p l q (seeking_at x l)
search_goes_on {s} {p} {q} {l} x is b o r = record {
  goes = goes_trans _ _ _ _ r.goes b.goes;
  follows = b.follows;
  calls = b.calls ∙ r.calls;
  held = b.held ∙ r.held;
  saw = λ undone. search_on o b.goes (subst (λ a. HasSeenCause o p a l) is (r.saw undone));
}

-- The row with which a stretch ends.

module _ {s : Shared} {p q r : Pass} {told : ℕ} (x : Search) (l k m : Local) (done : StepDone) (rows : ℕ) (is : l.activity ≡ Activity.Rebalance (Rebalance.Seek Seek.Next)) (same : k ≡ l) (counts : rows ≡ s.opening.rows) (b : Advances s p q (seeking_at x k)) (makes : Makes s q Go told r) (line : outcome m done ≡ next_of product rows Go (seeking_at x k) told) where
  before : Advances s p q (seeking_at x l)
  before = subst (λ (n : Local). Advances s p q (seeking_at x n)) same b

  row_went : WentOn s q (seeking_at x l) Go r m
  row_went = went_on before.follows tt (moves makes (line ∙ (ap (λ (n : Local). next_of product rows Go (seeking_at x n) told) same ∙ ap (λ n. next_of product n Go (seeking_at x l) told) counts)))

  pub row_advances : Advances s p r m
  row_advances = advances_trans before (advances_on row_went refl)

  pub row_tidies : m.tidies ≡ l.tidies
  row_tidies = work_on (seeking_at x l) m Go (view q).opening.rows row_went.told row_went.line tt

  pub row_goes_on : GoesOn s p l r m
  row_goes_on o u =
      let v : Rebalances s o q (seeking_at x l) = search_goes_on x is before o u in
      let w : WentOn s q (seeking_at x l) Go r m = row_went in
      record {
        goes = goes_trans _ _ _ _ v.goes w.goes;
        follows = w.follows;
        calls = w.calls ∙ v.calls;
        held = w.held refl ∙ v.held;
        saw = λ undone.
            let put : l.tidies ≡ false = sym row_tidies ∙ undone in
            keeps_seen s o q r (seeking_at x l) m Go (view q).opening.rows w.told v.goes w.goes w.saw w.line refl put (v.saw put) refl;
      }

-- One event more that asks a seat.

-- a seat that asks another one is not at the end
asks_on : (a : Activity) → asks_seat a ≡ true → ends_rebuild a ≡ false
asks_on (Activity.Rebalance (Rebalance.Replace _)) e = absurd (false≢true e)
asks_on (Activity.Rebalance _) e = refl
asks_on _ e = absurd (false≢true e)

module _ {s : Shared} {q r : Pass} {l m : Local} (asks : asks_seat l.activity ≡ true) (w : WentOn s q l Go r m) where
  pub asked_tidies : m.tidies ≡ l.tidies
  asked_tidies = work_on l m Go (view q).opening.rows w.told w.line (balancing_works l.activity (asks_balances l.activity asks))

  pub asked_goes_on : {p : Pass} {k : Local} → GoesOn s p k q l → GoesOn s p k r m
  asked_goes_on before o u =
      let v : Rebalances s o q l = before o u in
      record {
        goes = goes_trans _ _ _ _ v.goes w.goes;
        follows = w.follows;
        calls = w.calls ∙ v.calls;
        held = w.held refl ∙ v.held;
        saw = λ undone.
            let put : l.tidies ≡ false = sym asked_tidies ∙ undone in
            keeps_seen s o q r l m Go (view q).opening.rows w.told v.goes w.goes w.saw w.line refl put (v.saw put) (asks_on l.activity asks);
      }
