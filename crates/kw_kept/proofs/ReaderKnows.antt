-- What a reader of a row knows at its end. If its best cell was stamped before it looked, or there
-- is none, the gap is behind the greatest put that was stamped before, which shows the same. Else
-- the gap is behind the best cell's put.
use Rattle.std.proofs.Common.{ℕ, ◌≡◌, ◌⊎◌, inl, inr, ◌≤◌, Option, Some, None, refl, sym, ◌∙◌, subst}
use Rattle.kw_kept.specs.Puts.{Puts, StandsBefore, StandsUpTo, Same}
use Rattle.kw_kept.specs.Readers.{Sets, Reads, Knows}
use Rattle.kw_kept.proofs.PutOrder.{up_to-trans}
use Rattle.kw_kept.proofs.GreatestPut.{greatest_of_larger}
use Rattle.kw_kept.proofs.Shown.{same_sym}

module _ (puts : Puts) (s : Sets) (k v : ℕ) (best : Option ℕ) (r : Reads puts s k v best) where
  -- of all that was stamped before, this shows
  abbrev top : Option ℕ
  top = r.top.0

  -- of the cells of the row that were stamped before, this shows
  abbrev front : Option ℕ
  front = r.front.0

  -- both show the same
  top_shows : Same puts top front
  top_shows = same_sym puts front top (r.shows front top r.front.1 r.top.1)

  -- the early attempts are lost, or stamped and up to a gap that what was gathered and what was
  -- stamped before elsewhere stand up to
  early_known : (gap : Option ℕ) → ((q : ℕ) → s.gathered q → (puts q).key ≡ k → (puts q).version ≤ v → StandsUpTo puts gap q) → ((q : ℕ) → s.before q → (puts q).key ≡ k → (puts q).version ≤ v → StandsUpTo puts gap q) → (q : ℕ) → s.early q → (puts q).key ≡ k → s.lost q ⊎ s.stamped q × ((puts q).version ≤ v → StandsUpTo puts gap q)
  early_known gap g b q i f = which (r.where_made q)
    where
      own : s.lost q ⊎ s.gathered q → s.lost q ⊎ s.stamped q × ((puts q).version ≤ v → StandsUpTo puts gap q)
      own (inl l) = inl l
      own (inr j) = inr ((r.of_row q j).1, λ l. g q j f l)

      other : s.lost q ⊎ s.before q → s.lost q ⊎ s.stamped q × ((puts q).version ≤ v → StandsUpTo puts gap q)
      other (inl l) = inl l
      other (inr j) = inr (r.stamps q j, λ l. b q j f l)

      which : s.here q ⊎ (s.here q → ⊥) → s.lost q ⊎ s.stamped q × ((puts q).version ≤ v → StandsUpTo puts gap q)
      which (inl h) = own (r.own q i f h)
      which (inr h) = other (r.other q i f h)

  -- the answer is what all shows that was stamped before
  with_top : Same puts top best → ((q : ℕ) → s.gathered q → (puts q).key ≡ k → (puts q).version ≤ v → StandsUpTo puts top q) → Knows puts s k v best
  with_top e g = record {
    gap = top;
    of_key = λ p f. let x = r.top.1.among p f in (r.stamps p x.0, x.1, x.2);
    shows = e;
    knows = early_known top g r.top.1.greatest;
  }

  -- the answer is a cell that was stamped later
  with_best : (p : ℕ) → best ≡ Some p → (s.before p → ⊥) → Knows puts s k v best
  with_best p e d = record {
    gap = best;
    of_key = λ q f. let x = r.best_is.among q f in ((r.of_row q x.0).1, x.1, x.2);
    shows = inl refl;
    knows = early_known best r.best_is.greatest (λ q b f l. let x = r.best_is.among p e in saw q f b (r.later p q x.0 d b (f ∙ sym x.1)) l);
  }
    where
      saw : (q : ℕ) → (puts q).key ≡ k → s.before q → s.in_row q ⊎ StandsBefore puts q p → (puts q).version ≤ v → StandsUpTo puts best q
      saw q f b (inl i) l = r.best_is.greatest q (r.all q i b) f l
      saw q f b (inr s) l = subst (λ o. StandsUpTo puts o q) (sym e) (inr s)

  -- nothing is gathered that shows at this version
  with_none : best ≡ None → Knows puts s k v best
  with_none e = with_top (subst (Same puts top) (none front refl ∙ sym e) top_shows) (λ q i f l. absurd (subst (λ o. StandsUpTo puts o q) e (r.best_is.greatest q i f l)))
    where
      none : (o : Option ℕ) → front ≡ o → front ≡ None
      none None f = f
      none (Some p) f = let x = r.front.1.among p f in absurd (subst (λ o. StandsUpTo puts o p) e (r.best_is.greatest p (r.all p x.0.0 x.0.1) x.1 x.2))

  -- what shows of the gathered cells was stamped before
  with_front : (p : ℕ) → best ≡ Some p → s.before p → Knows puts s k v best
  with_front p e b =
      let x = r.best_is.among p e in
      let same : front ≡ best = greatest_of_larger puts (λ q. s.in_row q × s.before q) s.gathered k v front best r.front.1 r.best_is (λ q i. r.all q i.0 i.1) p e ((r.of_row p x.0).0, b) in
      with_top (subst (Same puts top) same top_shows)
      (λ q i f l. up_to-trans puts top p q (r.top.1.greatest p b x.1 x.2) (subst (λ o. StandsUpTo puts o q) e (r.best_is.greatest q i f l)))

  -- a reader knows what it has to
  pub reader_knows : Knows puts s k v best
  reader_knows = which best refl
    where
      either : (p : ℕ) → best ≡ Some p → s.before p ⊎ (s.before p → ⊥) → Knows puts s k v best
      either p e (inl b) = with_front p e b
      either p e (inr d) = with_best p e d

      which : (o : Option ℕ) → best ≡ o → Knows puts s k v best
      which None e = with_none e
      which (Some p) e = either p e (r.known p)
