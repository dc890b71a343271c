-- Over an event the stamped puts stay as they are, and so do the cells of a row that is or was
-- linked; what is stamped anew is stamped now.
use Rattle.std.proofs.Common.{ℕ, ◌≡◌, ◌⊎◌, inl, inr, ◌≤◌, Option, arith, refl, length}
use Rattle.kw_world.specs.declared.activity.Activity.{Activity}
use Rattle.kw_world.specs.declared.event.Choice.{Choice}
use Rattle.kw_world.specs.declared.local.Local.{Local}
use Rattle.kw_world.specs.Sizes.{Sizes}
use Rattle.kw_core.specs.Grows.{AttemptGrows}
use Rattle.kw_core.specs.declared.history.Logged.{Logged}
use Rattle.kw_core.specs.History.{History, attempt}
use Rattle.kw_core.specs.HistoryLaws.{IsPut}
use Rattle.kw_core.specs.Run.{Run}
use Rattle.kw_core.specs.Step.{AttemptStep, as_it_was, is_added, is_announced, is_lost, is_stamped, Step, now}
use Rattle.kw_core.proofs.Attempts.{in_range}
use Rattle.kw_core.proofs.Happens.{Happens, log_entry}
use Rattle.kw_core.proofs.Steps.{step_grows}
use Rattle.kw_kept.specs.Puts.{Put}
use Rattle.kw_kept.specs.Readers.{GoesOn}
use Rattle.kw_rows.specs.Rows.{WasLinked}
use Rattle.kw_puts.proofs.Owners.{true_false}
use Rattle.kw_reads.specs.Contents.{InRow, puts_of}
use Rattle.kw_reads.specs.Inv.{Inv}
use Rattle.kw_reads.proofs.HistoryKeeps.{history_step}
use Rattle.kw_reads.proofs.Relying.{record_stays}

-- what is stamped after an event was so before, or is stamped now
pub stamped_was : (h h' : History) (e : Logged) → Step h h' e → (p : ℕ) → IsPut h' p → IsPut h p ⊎ ((attempt h' p).at ≡ now h)
stamped_was h h' e st p x = which (st.attempts p (in_range h' p x))
  where
    which : AttemptStep h h' p → IsPut h p ⊎ ((attempt h' p).at ≡ now h)
    which (as_it_was w f) = inl (rw f at x)
    which (is_added a n f c s m u y v) = true_false (rw f at x) v
    which (is_announced w n f) = inl (rw f at x)
    which (is_lost w n f) = inl (rw f at x)
    which (is_stamped version load w a n k o b t f put) = inr (rw f refl)

-- a put of the same parts is the same
same_put : (k v d t k' v' d' t' : ℕ) (e e' : Option ℕ) → k' ≡ k → v' ≡ v → d' ≡ d → t' ≡ t → e' ≡ e → let a : Put = record { key = k'; version = v'; add = d'; at = t'; value = e' } in let b : Put = record { key = k; version = v; add = d; at = t; value = e } in a ≡ b
same_put k v d t k' v' d' t' e e' a b c f g = cc

-- a stamped put keeps all its parts
put_stays : (h h' : History) (p : ℕ) → AttemptGrows h h' (now h) p → IsPut h p → puts_of h' p ≡ puts_of h p
put_stays h h' p g s = let x = g.stamped s in same_put _ _ _ _ _ _ _ _ _ _ g.key x.1 g.add x.3 g.value

module _ {z : Sizes} {r r' : Run} {s : ℕ} {choice : Choice} {l l' : Local} where
  -- the puts go on, as a row has them
  pub puts_go_on : (a : Activity) → Happens z r r' s choice l l' a → Inv z r → (q since : ℕ) → WasLinked r.ledger.rows q → since ≤ length r.history.log → GoesOn (puts_of r.history) (puts_of r'.history) (InRow z r q) (InRow z r' q) (IsPut r.history) (IsPut r'.history) since
  puts_go_on a h i q since k w = record {
    unchanged = λ p x. put_stays r.history r'.history p (grown p x) x;
    old = λ p x. ((grown p x).stamped x).0;
    was = λ p x. which p (stamped_was r.history r'.history (log_entry z r a s choice l) st p x);
    row_old = λ p x y. record { cell = x.cell; within = x.within; origin = (record_stays z r r' s choice l a l' h i).origin q x.cell p k x.origin; is_put = ((grown p y).stamped y).0 };
    row_was = λ p x y. record { cell = x.cell; within = x.within; origin = (record_stays z r r' s choice l a l' h i).origin_was q x.cell p k (in_range r.history p y) x.origin; is_put = y };
  }
    where
      st : Step r.history r'.history (log_entry z r a s choice l)
      st = history_step z r r' s choice l a l' h i

      grown : (p : ℕ) → IsPut r.history p → AttemptGrows r.history r'.history (now r.history) p
      grown p x = (step_grows r.history r'.history (log_entry z r a s choice l) st).old p (in_range r.history p x)

      which : (p : ℕ) → IsPut r.history p ⊎ ((attempt r'.history p).at ≡ now r.history) → IsPut r.history p ⊎ (since ≤ (attempt r'.history p).at)
      which p (inl x) = inl x
      which p (inr e) = inr (omega (arith, e, w))
