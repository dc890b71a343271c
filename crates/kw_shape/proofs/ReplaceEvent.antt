-- A won exchange of the link to the full row is the event of the rows that replaces the group
-- (`kw_rows`): its rows are dead, and the taken ones are live.
--
-- What it needs beside the words is a premise: that the seat knows its group, that the link is one
-- of a row that it may name, that the rows of the group are frozen, what is written of the new
-- rows, and that their least keys rise and are below that of the row after them.
use Rattle.std.proofs.Common.{ℕ, suc, ◌≡◌, ◌≢◌, ◌⊎◌, inl, inr, ◌+◌, ◌<◌, true, List, [], ◌∷◌, Option, Some, None, arith, refl, sym, ◌∙◌, ap, subst, length, slice_get, slice_index}
use Rattle.std.proofs.lemmas.Bool.{cases_eq}
use Rattle.std.proofs.lemmas.Option.{same_Some}
use Rattle.kw_words.specs.declared.layout.Name.TheVariants as name
use Rattle.kw_words.specs.declared.sizes.TheConstants.{KEY_END}
use Rattle.kw_words.specs.Count.{IsCount, count_of}
use Rattle.kw_words.specs.Link.{IsLink, link_of, link_word}
use Rattle.kw_words.specs.Plain.{key_of_word}
use Rattle.kw_words.proofs.CountWords.{count_of-count_word}
use Rattle.kw_words.proofs.LinkWords.{link_of-link_word, link_word_of}
use Rattle.kw_words.proofs.PlainWords.{key_of_word-least_word}
use Rattle.kw_rows.specs.Events.{Event, Holds, IsIn, IsOpenLink, Links, Rises, replaces, rests}
use Rattle.kw_rows.specs.Ledger.{Fate, Ledger, IsHeld}
use Rattle.kw_rows.specs.Rows.{WasLinked, bound, leads}
use Rattle.kw_world.specs.declared.activity.Activity.TheVariants as Activity
use Rattle.kw_world.specs.declared.activity.rebalance.Rebalance.TheVariants as Rebalance
use Rattle.kw_world.specs.declared.activity.rebalance.replace.Replace.TheVariants as Replace
use Rattle.kw_world.specs.declared.event.Choice.{Choice}
use Rattle.kw_world.specs.declared.local.Local.{Local}
use Rattle.kw_world.specs.ReplaceTransitions.{first_infant, replaced_link}
use Rattle.kw_world.specs.Sane.{IsSane}
use Rattle.kw_world.specs.SeekTransitions.{at_infant}
use Rattle.kw_world.specs.Sizes.{Sizes}
use Rattle.kw_world.specs.Step.{word}
use Rattle.kw_world.specs.Transition.{row_linked}
use Rattle.kw_world.specs.WriteTransitions.{infant_cells, infant_count, infant_least, infant_link, row_or, unmarked_link}
use Rattle.kw_core.specs.Ledger as ledger
use Rattle.kw_core.specs.Ledger.{fate_dead, fate_live, group_of, least_of}
use Rattle.kw_core.specs.Run.{Run}
use Rattle.kw_core.specs.Words.{Words, least_in, next_in}
use Rattle.kw_core.proofs.Fates.{fate_of_full, fate_of_new, fate_stays, none_replaced, visits_stay}
use Rattle.kw_core.proofs.Happens.{Happens, not_exchanged}
use Rattle.kw_core.proofs.InfantFrames.{head_stays, replaced_won}
use Rattle.kw_shape.proofs.BuildEvents.{count_word, least_word, next_word, state_kept}
use Rattle.kw_shape.proofs.Hands.{of_group}
use Rattle.kw_shape.proofs.InfantsKeep.{Own}
use Rattle.kw_shape.proofs.InfantsRely.{linked_not_infant, index_of_row}
use Rattle.kw_shape.specs.Hands.{IsOfGroup}
use Rattle.kw_shape.specs.Infants.{IsInfantOf, Written}
use Rattle.kw_shape.specs.RowsIn.{has_frozen, has_mark, rows_in}

-- What is read of a row that is written whole.

pub whole_next : (z : Sizes) (v : Words) (k : Local) (q : ℕ) → IsLink (infant_link k) → Written z v (Activity.Rebalance (Rebalance.Replace Replace.Start)) k q → link_of (v (name.Next q)) ≡ Some (infant_link k)
whole_next z v k q i w = ap link_of (w.next tt) ∙ link_of-link_word (infant_link k) i

whole_count : (z : Sizes) (v : Words) (k : Local) (q : ℕ) → IsCount (infant_count k) → Written z v (Activity.Rebalance (Rebalance.Replace Replace.Start)) k q → count_of (v (name.Count q)) ≡ Some (infant_count k)
whole_count z v k q i w = ap count_of (w.count tt) ∙ count_of-count_word (infant_count k) i

pub whole_least : (z : Sizes) (v : Words) (k : Local) (q : ℕ) → infant_least k < KEY_END → Written z v (Activity.Rebalance (Rebalance.Replace Replace.Start)) k q → least_in v q ≡ infant_least k
whole_least z v k q i w = ap key_of_word (w.least tt) ∙ key_of_word-least_word (infant_least k) (length (infant_cells k)) i

-- rows of which each leads to the next one of a list, and the last one there, are so linked
links_by : (next : ℕ → Option ℕ) (after : Option ℕ) (x : ℕ) (xs : List ℕ) → ((i q : ℕ) → slice_get (x ∷ xs) i ≡ Some q → next q ≡ row_or (slice_get (x ∷ xs) (i + 1)) after) → Links next x xs after
links_by next after x [] f = f 0 x refl
links_by next after x (y ∷ ys) f = (f 0 x refl, links_by next after y ys (λ i q e. let p : suc i + 1 ≡ suc (i + 1) = omega arith in f (suc i) q e ∙ ap (λ k. row_or (slice_get (x ∷ y ∷ ys) k) after) p))

-- where a range ends, in the words of the rows
bound_is : (v : Words) (o : Option ℕ) → least_of v o ≡ bound (rows_in v) o
bound_is v None = refl
bound_is v (Some y) = refl

-- what the seat must know
pub record MayReplace (z : Sizes) (v : Words) (g : Ledger) (s : ℕ) (l : Local) : Type 0 where
  -- its infants, written whole, whose words fit
  pub own : Own g s l.rebalance.taken
  pub some : 0 < length l.rebalance.taken
  pub whole : (i q : ℕ) → slice_get l.rebalance.taken i ≡ Some q → Written z v (Activity.Rebalance (Rebalance.Replace Replace.Start)) (at_infant i l) q
  pub links : (i : ℕ) → IsLink (infant_link (at_infant i l))
  pub counts : (i : ℕ) → IsCount (infant_count (at_infant i l))
  pub fits : l.lower < KEY_END
  pub first : IsLink (unmarked_link (Some (first_infant l)))
  -- the rows of its group
  pub linked : (q : ℕ) → IsOfGroup l q → WasLinked g q
  pub group : Holds (rows_in v) g l.row l.rebalance.second l.rebalance.after
  pub full : (q : ℕ) → IsOfGroup l q → (rows_in v).frozen q ≡ true
  pub lower : l.lower ≡ least_in v l.row
  -- the row before them
  pub held : (p : ℕ) → l.rebalance.before ≡ Some p → IsHeld g p
  -- the least keys of the new rows
  pub rises : (n : ℕ) (more : List ℕ) → l.rebalance.taken ≡ n ∷ more → Rises (least_in v) n more
  pub below : (x b : ℕ) → IsIn l.rebalance.taken x → l.rebalance.after ≡ Some b → least_in v x < least_in v b

-- the row before the full one is this one, or not
is_before : (before : Option ℕ) (x : ℕ) → (before ≡ Some x) ⊎ (before ≡ Some x → ⊥)
is_before None x = inr (λ f. let g : None ≡ Some x = f in cc)
is_before (Some p) x = which (cases_eq p x)
  where
    which : (p ≡ x) ⊎ (p ≡ x → ⊥) → (Some p ≡ Some x) ⊎ (Some p ≡ Some x → ⊥)
    which (inl e) = inl (ap Some e)
    which (inr d) = inr (λ f. d (same_Some p x f))

-- a list that has an element has a first one
first_of : (xs : List ℕ) → 0 < length xs → (n : ℕ) × (more : List ℕ) × (xs ≡ n ∷ more)
first_of [] o = absurd (omega (arith, o))
first_of (n ∷ more) o = (n, more, refl)

-- the link that is exchanged is the head's, or that of the row before
pub exchanged_head : (v : Words) (b : Option ℕ) → leads (rows_in v) b ≡ row_linked (link_of (v (replaced_link b)))
exchanged_head v None = refl
exchanged_head v (Some p) = refl

module _ {z : Sizes} {r r' : Run} {s : ℕ} {choice : Choice} {l l' : Local} where
  -- the event
  pub replacing : Happens z r r' s choice l l' (Activity.Rebalance (Rebalance.Replace Replace.Exchange)) → IsSane z r.world → MayReplace z (word z r.world) r.ledger.rows s l → link_of (word z r.world (replaced_link l.rebalance.before)) ≡ Some (unmarked_link (Some l.row)) →
      (n : ℕ) (more : List ℕ) → l.rebalance.taken ≡ n ∷ more → Event (rows_in (word z r.world)) (rows_in (word z r'.world)) r.ledger.rows r'.ledger.rows (length r.history.log)
  replacing h sane m e n more t = replaces l.rebalance.before l.row l.rebalance.second l.rebalance.after n more (record {
    link = opened l.rebalance.before refl e;
    found = exchanged_head (word z r.world) l.rebalance.before ∙ ap row_linked e;
    holds = m.group;
    full = λ x i. m.full x (of_group l x i);
    infants = λ x i. (infant x i).status;
    unmarked = λ x i. let p = place x i in ap has_mark (whole_next z (word z r.world) (at_infant p.0 l) x (m.links p.0) (m.whole p.0 x p.1));
    unfrozen = λ x i. let p = place x i in ap has_frozen (whole_count z (word z r.world) (at_infant p.0 l) x (m.counts p.0) (m.whole p.0 x p.1));
    new = links_by (next_in (word z r.world)) l.rebalance.after n more (λ i q f. follows i q f);
    least = whole_least z (word z r.world) (at_infant 0 l) n m.fits (m.whole 0 n (ap (λ xs. slice_get xs 0) t)) ∙ m.lower;
    rises = m.rises n more t;
    below = λ x b i f. m.below x b (there x i) f;
    leads_on = exchanged_head (word z r'.world) l.rebalance.before ∙ ap (λ w. row_linked (link_of w)) (replaced_won h e) ∙ ap row_linked (link_of-link_word (unmarked_link (Some (first_infant l))) m.first) ∙ ap Some first;
    others = λ q d. other q d;
    marked = λ x. marked x (is_before l.rebalance.before x);
    frozen = λ x. ap (λ w. has_frozen (count_of w)) (count_word (Activity.Rebalance (Rebalance.Replace Replace.Exchange)) h sane x (λ c. c));
    leasts = λ x. ap key_of_word (least_word (Activity.Rebalance (Rebalance.Replace Replace.Exchange)) h sane x (λ c. c));
    states = λ x. state_kept (Activity.Rebalance (Rebalance.Replace Replace.Exchange)) h sane x (λ c. c);
    gone_dead = λ x i. ap (λ (f : Fate). f.status) (dead x i);
    gone_now = λ x i. ap (λ (f : Fate). f.gone) (dead x i);
    gone_born = λ x i. ap (λ (f : Fate). f.born) (dead x i);
    gone_upper = λ x i. ap (λ (f : Fate). f.upper) (dead x i);
    come = λ x i. ap (λ (f : Fate). f.status) (live x i);
    come_born = λ x i. omega (arith, ap (λ (f : Fate). f.born) (live x i));
    come_owner = λ x i. ap (λ (f : Fate). f.owner) (live x i);
    come_upper = λ x i. ap (λ (f : Fate). f.upper) (live x i) ∙ bound_is (word z r.world) (next_in (word z r.world) x);
    fates = λ x a b. fate_stays (Activity.Rebalance (Rebalance.Replace Replace.Exchange)) h x (λ c. stays x a b c);
    visits = visits_stay (Activity.Rebalance (Rebalance.Replace Replace.Exchange)) h (λ c. c) (λ c. c);
  })
    where
      won : word z r.world (replaced_link l.rebalance.before) ≡ link_word (unmarked_link (Some l.row))
      won = sym (link_word_of (word z r.world (replaced_link l.rebalance.before)) (unmarked_link (Some l.row)) e)

      there : (x : ℕ) → IsIn (n ∷ more) x → IsIn l.rebalance.taken x
      there x i = subst (λ xs. IsIn xs x) (sym t) i

      place : (x : ℕ) → IsIn (n ∷ more) x → (i : ℕ) × (slice_get l.rebalance.taken i ≡ Some x)
      place x i = index_of_row l.rebalance.taken x (there x i)

      infant : (x : ℕ) → IsIn (n ∷ more) x → IsInfantOf r.ledger.rows s x
      infant x i = let p = place x i in m.own.owned p.0 x p.1

      opened : (b : Option ℕ) → l.rebalance.before ≡ b → link_of (word z r.world (replaced_link b)) ≡ Some (unmarked_link (Some l.row)) → IsOpenLink (rows_in (word z r.world)) r.ledger.rows b
      opened None c f = tt
      opened (Some p) c f = (m.held p c, ap has_mark f)

      follows : (i q : ℕ) → slice_get (n ∷ more) i ≡ Some q → next_in (word z r.world) q ≡ row_or (slice_get (n ∷ more) (i + 1)) l.rebalance.after
      follows i q f =
          let g = subst (λ xs. slice_get xs i ≡ Some q) (sym t) f in
          ap row_linked (whole_next z (word z r.world) (at_infant i l) q (m.links i) (m.whole i q g)) ∙ ap (λ xs. row_or (slice_get xs (i + 1)) l.rebalance.after) t

      first : first_infant l ≡ n
      first = ap (λ xs. slice_index xs 0) t

      other : (q : Option ℕ) → q ≢ l.rebalance.before → leads (rows_in (word z r'.world)) q ≡ leads (rows_in (word z r.world)) q
      other None d = ap (λ w. row_linked (link_of w)) (head_stays (Activity.Rebalance (Rebalance.Replace Replace.Exchange)) h (λ c. d (sym c)))
      other (Some x) d = ap (λ w. row_linked (link_of w)) (next_word (Activity.Rebalance (Rebalance.Replace Replace.Exchange)) h sane x (λ c. d (sym c)))

      marked : (x : ℕ) → (l.rebalance.before ≡ Some x) ⊎ (l.rebalance.before ≡ Some x → ⊥) → (rows_in (word z r'.world)).marked x ≡ (rows_in (word z r.world)).marked x
      marked x (inr d) = ap (λ w. has_mark (link_of w)) (next_word (Activity.Rebalance (Rebalance.Replace Replace.Exchange)) h sane x d)
      marked x (inl c) =
          let after : word z r'.world (name.Next x) ≡ link_word (unmarked_link (Some (first_infant l))) = subst (λ b. word z r'.world (replaced_link b) ≡ link_word (unmarked_link (Some (first_infant l)))) c (replaced_won h e) in
          let before : link_of (word z r.world (name.Next x)) ≡ Some (unmarked_link (Some l.row)) = subst (λ b. link_of (word z r.world (replaced_link b)) ≡ Some (unmarked_link (Some l.row))) c e in
          ap (λ w. has_mark (link_of w)) after ∙ ap has_mark (link_of-link_word (unmarked_link (Some (first_infant l))) m.first) ∙ sym (ap has_mark before)

      dead : (x : ℕ) → IsIn (group_of l) x → r'.ledger.rows.fates x ≡ fate_dead s (length r.history.log) (r.ledger.rows.fates x)
      dead x i = fate_of_full h won x i

      live : (x : ℕ) → IsIn (n ∷ more) x → r'.ledger.rows.fates x ≡ fate_live (word z r.world) (length r.history.log) x (r.ledger.rows.fates x)
      live x i = fate_of_new h won x (there x i) (λ c. linked_not_infant r.ledger.rows s x (m.linked x (of_group l x c)) (infant x i))

      stays : (x : ℕ) → (IsIn (group_of l) x → ⊥) → (IsIn (n ∷ more) x → ⊥) → IsIn (group_of l) x ⊎ IsIn l.rebalance.taken x → ⊥
      stays x a b (inl c) = a c
      stays x a b (inr c) = b (subst (λ xs. IsIn xs x) t c)

  -- a lost exchange leaves all
  pub not_replacing : Happens z r r' s choice l l' (Activity.Rebalance (Rebalance.Replace Replace.Exchange)) → IsSane z r.world → word z r.world (replaced_link l.rebalance.before) ≢ link_word (unmarked_link (Some l.row)) → Event (rows_in (word z r.world)) (rows_in (word z r'.world)) r.ledger.rows r'.ledger.rows (length r.history.log)
  not_replacing h sane d = rests (record {
    links = record {
      head = ap (λ w. row_linked (link_of w)) (head l.rebalance.before refl);
      next = λ x. ap (λ w. row_linked (link_of w)) (next x (is_before l.rebalance.before x));
      marked = λ x. ap (λ w. has_mark (link_of w)) (next x (is_before l.rebalance.before x));
      frozen = λ x. ap (λ w. has_frozen (count_of w)) (count_word (Activity.Rebalance (Rebalance.Replace Replace.Exchange)) h sane x (λ c. c));
      least = λ x. ap key_of_word (least_word (Activity.Rebalance (Rebalance.Replace Replace.Exchange)) h sane x (λ c. c));
    };
    states = λ x. state_kept (Activity.Rebalance (Rebalance.Replace Replace.Exchange)) h sane x (λ c. c);
    ledger = record { fates = λ x. ap (λ (g : ledger.Ledger). g.rows.fates x) (none_replaced h d); others = visits_stay (Activity.Rebalance (Rebalance.Replace Replace.Exchange)) h (λ c. c) (λ c. c) };
  })
    where
      still : word z r'.world (replaced_link l.rebalance.before) ≡ word z r.world (replaced_link l.rebalance.before)
      still = not_exchanged _ _ _ _ h.changed.same d

      head : (b : Option ℕ) → l.rebalance.before ≡ b → word z r'.world name.Head ≡ word z r.world name.Head
      head None c = subst (λ b. word z r'.world (replaced_link b) ≡ word z r.world (replaced_link b)) c still
      head (Some p) c = head_stays (Activity.Rebalance (Rebalance.Replace Replace.Exchange)) h (λ f. let g : Some p ≡ None = sym c ∙ f in cc)

      next : (x : ℕ) → (l.rebalance.before ≡ Some x) ⊎ (l.rebalance.before ≡ Some x → ⊥) → word z r'.world (name.Next x) ≡ word z r.world (name.Next x)
      next x (inl c) = subst (λ b. word z r'.world (replaced_link b) ≡ word z r.world (replaced_link b)) c still
      next x (inr n) = next_word (Activity.Rebalance (Rebalance.Replace Replace.Exchange)) h sane x n

  -- so an exchange is one of these two, and what the seat must know is asked for where it is won
  pub replace_event : Happens z r r' s choice l l' (Activity.Rebalance (Rebalance.Replace Replace.Exchange)) → IsSane z r.world → IsLink (unmarked_link (Some l.row)) → (word z r.world (replaced_link l.rebalance.before) ≡ link_word (unmarked_link (Some l.row)) → MayReplace z (word z r.world) r.ledger.rows s l) →
      Event (rows_in (word z r.world)) (rows_in (word z r'.world)) r.ledger.rows r'.ledger.rows (length r.history.log)
  replace_event h sane small may = which (cases_eq (word z r.world (replaced_link l.rebalance.before)) (link_word (unmarked_link (Some l.row))))
    where
      which : (word z r.world (replaced_link l.rebalance.before) ≡ link_word (unmarked_link (Some l.row))) ⊎ (word z r.world (replaced_link l.rebalance.before) ≡ link_word (unmarked_link (Some l.row)) → ⊥) →
          Event (rows_in (word z r.world)) (rows_in (word z r'.world)) r.ledger.rows r'.ledger.rows (length r.history.log)
      which (inl e) = let n = first_of l.rebalance.taken (may e).some in replacing h sane (may e) (ap link_of e ∙ link_of-link_word (unmarked_link (Some l.row)) small) n.0 n.1 n.2
      which (inr d) = not_replacing h sane d
