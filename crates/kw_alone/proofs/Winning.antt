-- An exchange that replaces a row lowers the first number: the row led, and is in the list no more,
-- and none of the new rows is to go.
use Rattle.std.proofs.Common.{ℕ, ◌≡◌, ◌⊎◌, inl, inr, ◌+◌, ◌<◌, ◌≤◌, Bool, true, false, if◌then◌else◌, Option, Some, None, arith, refl, sym, ◌∙◌, ap, subst}
use Rattle.std.proofs.lemmas.Bool.{cases_Bool, false_from_ne_true}
use Rattle.kw_words.specs.Link.{link_of, link_word}
use Rattle.kw_words.proofs.LinkWords.{link_word_of}
use Rattle.kw_lists.specs.Counts.{count_below}
use Rattle.kw_lists.proofs.Counting.{count_gains}
use Rattle.kw_model.specs.declared.call.Call.{Call}
use Rattle.kw_model.specs.declared.call.Call.TheVariants.{Put, Del, Get, Scan, Pin, ScanAt, Unpin}
use Rattle.kw_rows.specs.Group.{Group}
use Rattle.kw_rows.specs.Ledger.{Fate, Ledger, IsLive}
use Rattle.kw_rows.specs.Ledger as fate
use Rattle.kw_rows.specs.RowState as row
use Rattle.kw_rows.specs.RowState.{IsLeader}
use Rattle.kw_rows.specs.Rows.{Rows}
use Rattle.kw_world.specs.declared.activity.Activity.{Activity}
use Rattle.kw_world.specs.declared.activity.rebalance.Rebalance.TheVariants as Rebalance
use Rattle.kw_world.specs.declared.activity.rebalance.replace.Replace.TheVariants as Replace
use Rattle.kw_world.specs.declared.event.Choice.{Choice}
use Rattle.kw_world.specs.declared.local.Local.{Local}
use Rattle.kw_world.specs.ReplaceTransitions.{replaced_link}
use Rattle.kw_world.specs.Sizes.{Sizes}
use Rattle.kw_world.specs.Step.{word}
use Rattle.kw_world.specs.WriteTransitions.{unmarked_link}
use Rattle.kw_core.specs.Run.{Run}
use Rattle.kw_core.specs.Stages.{IsStaying, is_put}
use Rattle.kw_core.specs.Words.{Words}
use Rattle.kw_core.proofs.Arrows.{Arrow, builds}
use Rattle.kw_core.proofs.Fates.{fate_of_full}
use Rattle.kw_shape.specs.Balances.{led}
use Rattle.kw_shape.specs.RowsIn.{rows_in}
use Rattle.kw_shape.specs.Shape.{IsPutCall}
use Rattle.kw_shape.proofs.LinkedRows.{balance_at, full_live}
use Rattle.kw_shape.proofs.NextCalls.{arrow_call}
use Rattle.kw_shape.proofs.RowsKeep.{kinds_at}
use Rattle.kw_shape.proofs.WonKeep.{WonBy, has_ahead, has_next, has_number, was_last, won_by, wins_now}
use Rattle.kw_shape.specs.Won.{HasWon}
use Rattle.kw_full.specs.Full.{IsEngaging}
use Rattle.kw_alone.specs.Wins.{is_leading, is_to_go, to_tidy, wins_left}
use Rattle.kw_alone.proofs.Asking.{untidy}
use Rattle.kw_alone.proofs.Going.{going_by, going_test}
use Rattle.kw_alone.proofs.GoingStays.{still_leads}
use Rattle.kw_alone.proofs.Steps.{Steps}
use Rattle.kw_alone.proofs.WinsLeft.{engaging_none, row_back, tidy_done, tidy_plain, wins_there}

-- the seat is about to exchange the link to its row
abbrev pub IsExchange : Activity → Type 0
IsExchange (Activity.Rebalance (Rebalance.Replace Replace.Exchange)) = Unit {0}
IsExchange _ = ⊥

put_test : (c : Option Call) → IsPutCall c → is_put c ≡ true
put_test (Some (Put key value)) x = refl
put_test (Some (Del key)) x = refl
put_test (Some (Get key)) x = absurd x
put_test (Some (Scan from upto)) x = absurd x
put_test (Some Pin) x = absurd x
put_test (Some (ScanAt from upto)) x = absurd x
put_test (Some Unpin) x = absurd x
put_test None x = absurd x

-- the group that a live row leads is decided
group_leads : (w : Rows) (g : Ledger) (r : ℕ) (second after : Option ℕ) → Group w g (led r second after) → IsLive g r → is_leading (w.state r) ≡ true
group_leads w g r None after k a = which (k.1 a).either
  where
    which : (w.state r ≡ row.Leader 1) ⊎ (w.state r ≡ row.Leader 2) × ((c : ℕ) × (after ≡ Some c) × IsLeader (w.state c)) → is_leading (w.state r) ≡ true
    which (inl e) = ap is_leading e
    which (inr e) = ap is_leading e.0
group_leads w g r (Some c) after k a = ap is_leading (k.2 a).leads

-- an exchange that was made found the unmarked link
found_by : (v : Words) (l : Local) (a : Activity) (k : Local) → WonBy v l a k → IsExchange a → link_of (v (replaced_link l.rebalance.before)) ≡ Some (unmarked_link (Some l.row))
found_by v l a k (wins_now e) x = e
found_by v l a k (has_next o) x = absurd x
found_by v l a k was_last x = absurd x
found_by v l a k has_number x = absurd x
found_by v l a k (has_ahead q e) x = absurd x

exchange_arrow : (z : Sizes) (v : Words) (s : ℕ) (choice : Choice) (l : Local) (a : Activity) (k : Local) → Arrow z v s choice l a k → IsExchange a → HasWon k.activity → link_of (v (replaced_link l.rebalance.before)) ≡ Some (unmarked_link (Some l.row))
exchange_arrow z v s choice l a k (builds b m y t) x w = found_by v l a k (won_by z v choice l a k t w) x
exchange_arrow z v s choice l a k _ x w = absurd x

module _ {z : Sizes} {r r' : Run} {s : ℕ} {choice : Choice} {l l' : Local} (x : Steps z r r' s choice l l' (Activity.Rebalance (Rebalance.Replace Replace.Exchange))) (won : l'.activity ≡ Activity.Rebalance (Rebalance.Replace Replace.Normalise)) where
  abbrev v : Words
  v = word z r.world

  abbrev v' : Words
  v' = word z r'.world

  -- the word that was found
  found : v (replaced_link l.rebalance.before) ≡ link_word (unmarked_link (Some l.row))
  found = sym (link_word_of _ _ (exchange_arrow z v s choice l (Activity.Rebalance (Rebalance.Replace Replace.Exchange)) l' x.happens.arrow tt (subst HasWon (sym won) tt)))

  -- the row was in the list
  live : IsLive r.ledger.rows l.row
  live = full_live x.happens x.inv.shape found

  -- it was to go, and is not
  was : is_to_go z v r.ledger.rows (Activity.Rebalance (Rebalance.Replace Replace.Exchange)) l l.row ≡ true
  was = going_test z v r.ledger.rows (Activity.Rebalance (Rebalance.Replace Replace.Exchange)) l l.row (live, inl (group_leads (rows_in v) r.ledger.rows l.row l.rebalance.second l.rebalance.after (balance_at (Activity.Rebalance (Rebalance.Replace Replace.Exchange)) x.happens x.inv.shape).group live))

  gone : is_to_go z v' r'.ledger.rows l'.activity l' l.row ≡ false
  gone = false_from_ne_true _ (λ e. not_live (going_by z v' r'.ledger.rows l'.activity l' l.row e).0)
    where
      not_live : IsLive r'.ledger.rows l.row → ⊥
      not_live k = let y : fate.Live ≡ fate.Dead = sym k ∙ ap (λ (f : Fate). f.status) (fate_of_full x.happens found l.row (inl refl)) in absurd (cc)

  fewer : count_below r.world.rows (is_to_go z v' r'.ledger.rows l'.activity l') < count_below r.world.rows (is_to_go z v r.ledger.rows (Activity.Rebalance (Rebalance.Replace Replace.Exchange)) l)
  fewer = count_gains r.world.rows (is_to_go z v' r'.ledger.rows l'.activity l') (is_to_go z v r.ledger.rows (Activity.Rebalance (Rebalance.Replace Replace.Exchange)) l) l.row (x.inv.shape.sane.locals s l x.happens.knows).below.row gone was
      (λ q e. row_back x tt (subst IsStaying (sym won) tt) (λ u. absurd u) (λ u. absurd u) q (λ k f. still_leads (Activity.Rebalance (Rebalance.Replace Replace.Exchange)) x.happens x.inv.shape (λ u. u) q k f) e)

  -- a seat that tidies has no row more
  no_more : to_tidy v' l'.activity l' ≤ to_tidy v (Activity.Rebalance (Rebalance.Replace Replace.Exchange)) l
  no_more = which (cases_Bool l'.tidies)
    where
      which : (l'.tidies ≡ true) ⊎ (l'.tidies ≡ false) → to_tidy v' l'.activity l' ≤ to_tidy v (Activity.Rebalance (Rebalance.Replace Replace.Exchange)) l
      which (inl e) = omega (arith, tidy_done v' l'.activity l' e, engaging_none v' l'.activity l' (λ g. absurd (subst IsEngaging won g)))
      which (inr e) = omega (arith, tidy_plain v' l'.activity l' e, tidy_plain v (Activity.Rebalance (Rebalance.Replace Replace.Exchange)) l (untidy (Activity.Rebalance (Rebalance.Replace Replace.Exchange)) x.happens x.inv.shape tt (subst IsStaying (sym won) tt) e))

  pub wins_fall : wins_left z r.world.rows v' r'.ledger.rows l'.activity l' < wins_left z r.world.rows v r.ledger.rows (Activity.Rebalance (Rebalance.Replace Replace.Exchange)) l
  wins_fall = omega (arith, wins_there z r.world.rows v' r'.ledger.rows l'.activity l' (subst IsStaying (sym won) tt), which (is_put l.call) (is_put l'.call) put (ap is_put (arrow_call z v s choice l (Activity.Rebalance (Rebalance.Replace Replace.Exchange)) l' x.happens.arrow tt).0))
    where
      put : is_put l.call ≡ true
      put = put_test l.call (kinds_at (Activity.Rebalance (Rebalance.Replace Replace.Exchange)) x.happens x.inv.shape).kind

      which : (b c : Bool) → b ≡ true → c ≡ b → (if c then count_below r.world.rows (is_to_go z v' r'.ledger.rows l'.activity l') + to_tidy v' l'.activity l' else 0) < (if b then count_below r.world.rows (is_to_go z v r.ledger.rows (Activity.Rebalance (Rebalance.Replace Replace.Exchange)) l) + to_tidy v (Activity.Rebalance (Rebalance.Replace Replace.Exchange)) l else 0)
      which true true e f = omega (arith, fewer, no_more)
      which true false e f = absurd (cc)
      which false c e f = absurd (cc)
