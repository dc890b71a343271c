-- What holds of the attempts and of the positions where nothing happened.
use Rattle.std.proofs.Common.{ℕ, zero, suc, ◌≡◌, inl, inr, ◌∙◌, ◌<◌, true, false, Some, None, arith, refl, sym, slice_get}
use Rattle.kw_words.specs.declared.layout.Name.TheVariants as name
use Rattle.kw_world.specs.declared.local.Local.{Local}
use Rattle.kw_world.specs.Sizes.{Sizes}
use Rattle.kw_world.specs.declared.opening.Opening.{Opening}
use Rattle.std.specs.Prelude.{replicate}
use Rattle.std.proofs.lemmas.Option.{slice_get_within}
use Rattle.std.proofs.lemmas.List.{length-replicate}
use Rattle.kw_words.specs.declared.kind.Kind.{Kind}
use Rattle.kw_world.specs.Local.{resting}
use Rattle.kw_world.specs.Opening.{IsOpening, opened}
use Rattle.kw_core.specs.declared.history.Logged.{Logged}
use Rattle.kw_core.specs.History.{Stands, attempt, no_attempt}
use Rattle.kw_core.specs.Listed.{none_listed}
use Rattle.kw_core.specs.Noted.{nothing_yet}
use Rattle.kw_core.specs.Stages.{IsBusy, IsPutting, HasSeenPending}
use Rattle.kw_core.specs.Run.{no_log}
use Rattle.kw_world.specs.Step.{word}
use Rattle.kw_core.specs.Run.{start}
use Rattle.kw_puts.specs.Freezes.{IsToFreeze, Freezes, Remembers}
use Rattle.kw_puts.specs.Puts.{OwnsAttempt, Helps, IsHere, Puts}
use Rattle.kw_puts.specs.Positions.{Calling, Draws, Positions, Helping}
use Rattle.kw_lists.specs.Words.{row_in}
use Rattle.kw_core.specs.Ledger.{ledger_at_first}
use Rattle.kw_rows.specs.Ledger.{Dead, Free, IsDead, Live}
use Rattle.kw_shape.proofs.LinkedRows.{was_below}
use Rattle.kw_shape.proofs.ShapeOpens.{each_rests, opens, given-none, shape_starts}
use Rattle.kw_puts.specs.Builds.{Builds}
use Rattle.kw_words.specs.declared.scan.ScanWord.TheVariants.{Quiet, Waiting}
use Rattle.kw_words.specs.Scan.{scan_word}

-- nothing is in the record
nothing_stands : (x : ℕ) (k : Kind) (c : ℕ) → Stands nothing_yet x k c → ⊥
nothing_stands x k c t = let e : Logged = record { seat = t.seat; kind = k; clock = c } in let y : None ≡ Some e = t.logged in absurd (cc)

nobody : (p : ℕ) → (attempt nothing_yet p).is_announced ≡ true → ⊥
unfolding attempt no_attempt
nobody p h = let x : false ≡ true = h in absurd (cc)

-- no row was unlinked
none_dead : {A : Type 0} (o : Opening) (q : ℕ) → IsDead (ledger_at_first o).rows q → A
none_dead o zero a = let x : Live ≡ Dead = a in absurd (cc)
none_dead o (suc q) a = let x : Free ≡ Dead = a in absurd (cc)

module _ (z : Sizes) (o : Opening) (i : IsOpening z o) where
  pub puts_start : Puts z (start z o)
  puts_start = record {
    placed = λ p w. absurd (omega arith);
    given = λ p w x. absurd (omega arith);
    places = record {
      owner = λ q c p k u e. let x : None ≡ Some p = e in absurd (cc);
      given = λ q c k u b. absurd (omega (arith, b, given-none z o i q (was_below z (start z o) (shape_starts z o i) q k)));
      nobody = λ q c k u b. refl;
      unstored = λ q c k u e. opens z o i (name.Version q c) (was_below z (start z o) (shape_starts z o i) q k, u);
      above = λ q c d p p' k u w e n f m. let x : None ≡ Some p = e in absurd (cc);
      rank = λ q c d p p' k b u e n f m. let x : None ≡ Some p = e in absurd (cc);
    };
    rises = λ p q w u e x. absurd (omega arith);
    body = λ p w x. absurd (omega arith);
    owns = each_rests z o (λ t l. IsPutting l.activity → OwnsAttempt (word z (opened z o)) nothing_yet t l.activity l no_log) (λ t x. absurd x);
    present = each_rests z o (λ t l. IsPutting l.activity → IsHere (start z o).ledger.rows nothing_yet no_log.own) (λ t x. absurd x);
    old = λ p w. absurd (omega arith);
    entry = λ q t w u. inl (opens z o i (name.Pend q t) (w, u));
    tries = each_rests z o (λ t l. IsToFreeze l.activity l) (λ t. tt);
    freezes = each_rests z o (λ t l. Freezes z (word z (opened z o)) (slice_get (opened z o).locals) l.activity l) (λ t. record { count = λ q x. absurd x.0; settled = λ q j x. absurd x.0 });
    remembers = each_rests z o (λ t l. Remembers z (start z o).ledger.rows nothing_yet (λ q c. None) none_listed l.activity l) (λ t. record { marks = λ x. absurd x; noted = λ q p x. absurd x });
    helps = each_rests z o (λ t l. HasSeenPending l.activity → Helps nothing_yet (λ q c. None) l.activity l no_log) (λ t x. absurd x);
    born = λ q k. omega arith;
    dead = λ q j d w. none_dead o q d;
    gone = λ p w x. absurd (omega arith);
    builds = each_rests z o (λ t l. Builds z (row_in (word z (opened z o)) l.rebalance.hand (none_listed l.rebalance.hand)) nothing_yet (λ q c. None) none_listed l.activity l) (λ t. record { gathering = λ x. absurd x; gathered = λ x. absurd x; collected = λ x. absurd x; kept = λ x. absurd x; holds = λ x. absurd x; whole = λ j q x. absurd x; words = λ x. absurd x });
  }

  pub positions_start : Positions z (start z o)
  positions_start = record {
    clocked = record { positive = λ x k c t. absurd (nothing_stands x k c t); past = λ x k c t. absurd (nothing_stands x k c t); drawn = λ x k c d t. absurd (nothing_stands x k c t); rises = λ x y k j c e d t. absurd (nothing_stands x k c t) };
    calling = each_rests z o (λ t l. IsBusy l.activity → Calling nothing_yet t l.activity l no_log) (λ t x. absurd x);
    numbers = λ t l e x w. absurd (omega arith);
    scans = λ t l e. inr (opens z o i (name.Scan t) (inside t l e));
    looks = λ t. omega arith;
    drew = λ t. omega arith;
    waiting = λ t clock w e. let f : scan_word Quiet ≡ scan_word (Waiting clock) = sym (opens z o i (name.Scan t) w) ∙ e in absurd (omega (arith, f));
    helping = λ s l k t w. each_rests z o (λ s l. Helping z (start z o) t l.activity l no_log) (λ s. record { waits = λ x. absurd x; least = λ x. absurd x; loads = λ x. absurd x; late = λ x. absurd x; drew = λ x. absurd x; after = λ x. absurd x }) s l k;
    draws = each_rests z o (λ t l. Draws (word z (opened z o)) nothing_yet t 0 0 l.activity l no_log) (λ t. record { waits = λ x. absurd x; began = λ x. absurd x; loaded = λ x. absurd x; least = λ x. absurd x; settling = λ x. absurd x; settling_first = λ x. absurd x; settled = λ e x. absurd x; drawn = λ e x. absurd x; drawn_first = λ e x. absurd x; looked_first = λ x. absurd x; looked = λ x. absurd x; looked_after = λ e x. absurd x });
  }
    where
      inside : (t : ℕ) (l : Local) → slice_get (opened z o).locals t ≡ Some l → t < z.seats
      inside t l e = omega (arith, slice_get_within (replicate o.seats (resting 0)) t l e, length-replicate o.seats (resting 0), i.few_seats)
