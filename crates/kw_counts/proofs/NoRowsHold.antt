-- A search that found too few rows free asked for each row of the table: it found that it was not
-- free, or took it. So each was in use, then or before.
use Rattle.std.proofs.Common.{ℕ, zero, suc, ◌≡◌, ◌⊎◌, inl, inr, ◌<◌, Bool, true, false, Option, None, Some, List, [], ◌∷◌, ◌++◌, take, drop, refl, sym, ◌∙◌, ap, subst, slice_get, eq-eqb}
use Rattle.std.proofs.lemmas.List.{take-append-drop}
use Rattle.std.proofs.lemmas.Option.{same_Some}
use Rattle.kw_words.specs.declared.layout.Name.TheVariants as name
use Rattle.kw_words.specs.declared.state.State.TheVariants.{Free}
use Rattle.kw_words.specs.State.{state_word}
use Rattle.kw_words.proofs.StateWords.{state_word_of}
use Rattle.kw_rows.specs.Events.{IsIn}
use Rattle.kw_world.specs.declared.activity.Activity.{Activity}
use Rattle.kw_world.specs.declared.activity.rebalance.Rebalance.TheVariants as Rebalance
use Rattle.kw_world.specs.declared.activity.rebalance.seek.Seek.TheVariants as Seek
use Rattle.kw_world.specs.declared.event.Event.{Event}
use Rattle.kw_world.specs.declared.local.Local.{Local}
use Rattle.kw_world.specs.declared.opening.Opening.{Opening}
use Rattle.kw_world.specs.declared.operation.Operation.{Operation}
use Rattle.kw_world.specs.Opening.{IsOpening}
use Rattle.kw_world.specs.Sizes.{Sizes}
use Rattle.kw_world.specs.Step.{is_skipped, word}
use Rattle.kw_world.specs.Table.{transition}
use Rattle.kw_world.specs.Transition.{Transition}
use Rattle.kw_world.specs.WalkTransitions.{offered}
use Rattle.kw_world.specs.WorldView.{WorldView}
use Rattle.kw_world.proofs.Steps.{transition_of-transition}
use Rattle.kw_core.specs.Events.{event, is_valid, world}
use Rattle.kw_core.specs.Run.{Run, found_by, goes_on, history, run, start}
use Rattle.kw_core.proofs.Events.{valid_front}
use Rattle.kw_core.proofs.Happens.{found_at}
use Rattle.kw_core.proofs.Runs.{history-world}
use Rattle.kw_shape.proofs.Worlds.{world-rows}
use Rattle.kw_laws.specs.Causes.{AskedAll, FoundTaken, IsTrying, TookRow, taking}
use Rattle.kw_laws.specs.Mirror.{Acts}
use Rattle.kw_laws.proofs.CausesHold.{causes_hold}
use Rattle.kw_counts.specs.Counts.{Counts, counted, counts, counts_on, counts_on_of, ever_after, no_counts}
use Rattle.kw_counts.specs.NoRows.{KeepsNoRows}
use Rattle.kw_counts.proofs.CountsHold.{ever_holds}
use Rattle.kw_counts.proofs.EverKeep.{ever_lasts}
use Rattle.kw_counts.proofs.Folds.{counts_on-moved}
use Rattle.kw_counts.proofs.SpentHold.{counted-append}
use Rattle.kw_counts.proofs.Updates.{at_set}

-- More events.

-- a row that was ever in use was so after more events
one_ever : (z : Sizes) (r : Run) (e : Event) (c : Counts) (q : ℕ) → c.ever q ≡ true → (counts_on z r e c).ever q ≡ true
unfolding counts_on
one_ever z r e c q h = which (slice_get r.world.locals e.seat)
  where
    here : (l : Local) (b : Bool) → is_skipped l.activity e.choice ≡ b → (counts_on_of z r e (Some l) c).ever q ≡ true
    here l true f = rw f h
    here l false f = rw f (ever_lasts l.activity l (found_by z r.world e l) c.ever q h)

    which : (x : Option Local) → (counts_on_of z r e x c).ever q ≡ true
    which (Some l) = here l (is_skipped l.activity e.choice) refl
    which None = h

ever_along : (z : Sizes) (r : Run) (es : List Event) (c : Counts) (q : ℕ) → c.ever q ≡ true → (counted z r es c).ever q ≡ true
unfolding counted
ever_along z r [] c q h = h
ever_along z r (e ∷ es) c q h = ever_along z (goes_on z r e) es (counts_on z r e c) q (one_ever z r e c q h)

ever_front : (z : Sizes) (o : Opening) (xs ys : List Event) (q : ℕ) → (counts z o xs).ever q ≡ true → (counts z o (xs ++ ys)).ever q ≡ true
unfolding counts
ever_front z o xs ys q h = ap (λ (c : Counts). c.ever q) (counted-append z (start z o) xs ys no_counts) ∙ ever_along z (run z (start z o) xs) ys (counted z (start z o) xs no_counts) q h

-- so was one that an event among them took
ever_taken : (z : Sizes) (o : Opening) (xs ys : List Event) (e : Event) (q : ℕ) → (counts_on z (history z o xs) e (counts z o xs)).ever q ≡ true → (counts z o (xs ++ e ∷ ys)).ever q ≡ true
unfolding counts counted history
ever_taken z o xs ys e q h = ap (λ (c : Counts). c.ever q) (counted-append z (start z o) xs (e ∷ ys) no_counts) ∙ ever_along z (goes_on z (run z (start z o) xs) e) ys (counts_on z (run z (start z o) xs) e (counted z (start z o) xs no_counts)) q h

-- a list, about one of its events
split_at : (es : List Event) (x : ℕ) (e : Event) → slice_get es x ≡ Some e → (ys : List Event) × (es ≡ take x es ++ e ∷ ys)
split_at [] x e g = let n : None ≡ Some e = g in absurd (cc)
split_at (d ∷ es) zero e g = (es, ap (λ q. q ∷ es) (same_Some d e g))
split_at (d ∷ es) (suc x) e g = let p = split_at es x e g in (p.0, ap (λ q. d ∷ q) p.1)

-- What a search asks.

-- it asks for the state of the row, and tries to change that
asks_state : (s q : ℕ) (a : Activity) (op : Operation) → IsTrying s q a op → op.name ≡ name.State q
asks_state s q (Activity.Rebalance (Rebalance.Seek Seek.First)) op e = ap (λ (o : Operation). o.name) e
asks_state s q (Activity.Rebalance (Rebalance.Seek Seek.Next)) op e = ap (λ (o : Operation). o.name) e
asks_state s q (Activity.Rebalance (Rebalance.Seek Seek.Reclaim)) op e = ap (λ (o : Operation). o.name) e.1
asks_state s q (Activity.Rebalance (Rebalance.Seek Seek.Take)) op e = ap (λ (o : Operation). o.name) e
asks_state s q _ op e = absurd e

module _ (z : Sizes) (o : Opening) (opening : IsOpening z o) (es : List Event) (ok : is_valid z o es ≡ true) (q : ℕ) (below : q < o.rows) where
  front : (x : ℕ) → is_valid z o (take x es) ≡ true
  front x = valid_front z o (take x es) (drop x es) (subst (λ y. is_valid z o y ≡ true) (sym (take-append-drop x es)) ok)

  -- a row that it found not free
  found_taken : (s first last : ℕ) → FoundTaken z o es s first last q → (counts z o es).ever q ≡ true
  found_taken s first last f =
      let found : word z (world z o (take f.at es)) (name.State q) ≡ f.found = ap (word z (world z o (take f.at es))) (sym (asks_state s q f.activity f.op f.tries)) ∙ ap (λ (w : WorldView). word z w f.op.name) f.acts.occurs.before ∙ f.acts.finds in
      let used = (ever_holds z o opening (take f.at es) (front f.at)).rows q (subst (λ n. q < n) (sym (world-rows z o (take f.at es))) below) (λ e. f.taken (sym found ∙ sym (state_word_of _ Free e))) in
      subst (λ y. (counts z o y).ever q ≡ true) (take-append-drop f.at es) (ever_front z o (take f.at es) (drop f.at es) q used)

  -- one that it took
  took : (s first last : ℕ) → TookRow z o es s first last q → (counts z o es).ever q ≡ true
  took s first last f =
      let p = split_at es f.at (event s acts.choice) acts.occurs.stands in
      subst (λ y. (counts z o y).ever q ≡ true) (sym p.1) (ever_taken z o xs p.0 (event s acts.choice) q (ap (λ (c : Counts). c.ever q) (counts_on-moved z r (event s acts.choice) (counts z o xs) l knows moves) ∙ now))
    where
      acts : Acts z o es f.at s (Activity.Rebalance (Rebalance.Seek Seek.Take)) (taking s q) (state_word Free)
      acts = f.acts

      l : Local
      l = acts.local

      xs : List Event
      xs = take f.at es

      r : Run
      r = history z o xs

      led : r.world ≡ acts.before
      led = history-world z o xs ∙ acts.occurs.before

      knows : slice_get r.world.locals s ≡ Some l
      knows = subst (λ (w : WorldView). slice_get w.locals s ≡ Some l) (sym led) acts.knows

      moves : is_skipped l.activity acts.choice ≡ false
      moves = subst (λ b. is_skipped b acts.choice ≡ false) (sym acts.activity) refl

      -- it is the row that its seat seeks
      named : name.State l.rebalance.sought ≡ name.State q
      named = subst (λ b. (transition z b s (offered acts.before.rows acts.choice) l).operation.name ≡ name.State q) acts.activity (ap (λ (it : Transition). it.operation.name) (sym (transition_of-transition z s (offered acts.before.rows acts.choice) l)) ∙ ap (λ (op : Operation). op.name) acts.operates)

      sought : q ≡ l.rebalance.sought
      sought = same (l.rebalance.sought) named
        where
          same : (p : ℕ) → name.State p ≡ name.State q → q ≡ p
          same p e = cc

      found : word z r.world (name.State l.rebalance.sought) ≡ state_word Free
      found = ap (word z r.world) named ∙ ap (λ (w : WorldView). word z w (name.State q)) led ∙ acts.finds

      now : ever_after l.activity l (found_at z (word z r.world) l.activity s (offered r.world.rows acts.choice) l) (counts z o xs).ever q ≡ true
      now = subst (λ b. ever_after b l (found_at z (word z r.world) b s (offered r.world.rows acts.choice) l) (counts z o xs).ever q ≡ true) (sym acts.activity)
          (rw (eq-eqb (word z r.world (name.State l.rebalance.sought)) (state_word Free) found) (at_set (counts z o xs).ever l.rebalance.sought true q sought))

  asked : (s first last : ℕ) → AskedAll z o es s o.rows first last → (counts z o es).ever q ≡ true
  asked s first last i = which (i.asked q below)
    where
      which : IsIn i.taken q ⊎ FoundTaken z o es s i.begun last q → (counts z o es).ever q ≡ true
      which (inl m) = took s i.begun last (i.took q m)
      which (inr f) = found_taken s i.begun last f

pub no_rows_hold : (z : Sizes) (o : Opening) → IsOpening z o → (es : List Event) → is_valid z o es ≡ true → KeepsNoRows o (counts z o es) (history z o es).history
no_rows_hold z o opening es ok = record { calls = λ x e w f g q below. asked z o opening es ok q below _ _ _ ((causes_hold z o opening es ok).no_rows x e w f g) }
