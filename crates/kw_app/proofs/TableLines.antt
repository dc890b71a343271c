-- Tables line by line: what one line more adds to the text, to the points and to the updates; and
-- where the lines above the first table are gone through, since the scan has their points.
use Rattle.std.proofs.Common.{ℕ, zero, suc, ◌≡◌, ◌⊎◌, inl, inr, ◌-◌, ◌+◌, ◌<◌, ◌≤◌, Bool, true, false, if◌then◌else◌, List, [], ◌∷◌, ◌++◌, length, take, drop, get_or, Some, refl, sym, ap, ap₂, ◌∙◌, subst, arith, length-append}
use Rattle.std.specs.List.{slice_get, count_by, flat_map, range_with_len}
use Rattle.std.proofs.Math.Seq.{take-suc}
use Rattle.std.proofs.lemmas.Bool.{cases_lt, false≢true}
use Rattle.std.proofs.lemmas.List.{append-nil, flat_map_more, get_or-drop, get_or-take, length-drop, length-take, length-take-le}
use Rattle.std.proofs.lemmas.List.Elements.{filter-append}
use Rattle.std.proofs.lemmas.List.Sums.{count_by_more_no, count_by_more_yes}
use Rattle.std.proofs.lemmas.Option.{get_or_from_slice_get, same_Some, slice_get-get_or, slice_get_within}
use Rattle.kw_model.specs.Map.{Pairs}
use Rattle.kw_line.specs.declared.answer.Answer.{Answer}
use Rattle.kw_line.specs.declared.answer.Answer.TheVariants as answer
use Rattle.kw_rollup.specs.Buckets.{buckets}
use Rattle.kw_rollup.specs.Kept.{Rolled}
use Rattle.kw_rollup.specs.Texts.{table_text}
use Rattle.kw_rollup.specs.declared.item.RollItem.{RollItem}
use Rattle.kw_rollup.specs.declared.item.RollItem.TheVariants as roll
use Rattle.kw_app.specs.declared.tables.Rolling.{Rolling}
use Rattle.kw_app.specs.Asked.{updates_above}
use Rattle.kw_app.specs.Rolled.{StandsBelow}
use Rattle.kw_app.specs.Running.{is_refused}
use Rattle.kw_app.specs.Tables.{AreWhole, accepted, accepted_all, is_update, line_text, points_scanned, text_at, update_answers, updates}

-- One line more.

range_more : (a n : ℕ) → range_with_len a (suc n) ≡ range_with_len a n ++ (a + n) ∷ []
range_more a zero = ap (λ x. x ∷ []) (omega arith)
range_more a (suc n) = ap (λ (l : List ℕ). a ∷ l) (range_more (a + 1) n ∙ ap (λ x. range_with_len (a + 1) n ++ x ∷ []) (omega arith))

-- what is printed at the first n + 1 places
texts_more : (f : ℕ → List ℕ) (n : ℕ) → flat_map f (range_with_len 0 n) ++ f n ≡ flat_map f (range_with_len 0 (suc n))
texts_more f n = flat_map_more f [] (range_with_len 0 n) n ∙ ap (flat_map f) (sym (range_more 0 n ∙ ap (λ x. range_with_len 0 n ++ x ∷ []) (omega arith)))

updates_more : (items : List RollItem) (n : ℕ) (i : RollItem) → slice_get items n ≡ Some i → updates (take (suc n) items) ≡ updates (take n items) ++ updates (i ∷ [])
updates_more items n i e =
    ap updates (take-suc items n i (slice_get_within items n i e) ∙ ap (λ x. take n items ++ x ∷ []) (get_or_from_slice_get items n i i e))
    ∙ filter-append is_update (take n items) (i ∷ [])

-- an update is one, and nothing is printed at it
update_is : (i : RollItem) → is_update i ≡ true → updates (i ∷ []) ≡ i ∷ []
update_is (roll.Put k v) e = refl
update_is (roll.Del k) e = refl
update_is roll.Table e = absurd (false≢true e)

update_text : (width : ℕ) (above : List RollItem) (given : List Answer) (i : RollItem) → is_update i ≡ true → line_text width above given (Some i) ≡ []
update_text width above given (roll.Put k v) e = refl
update_text width above given (roll.Del k) e = refl
update_text width above given roll.Table e = absurd (false≢true e)

-- the points after one update more
accepted_more : (m : Pairs) (us : List RollItem) (i : RollItem) (given : List Answer) (a : Answer) → slice_get given (length us) ≡ Some a → accepted_all m (us ++ i ∷ []) given ≡ accepted (accepted_all m us given) i a
accepted_more m [] i [] a e = absurd (cc)
accepted_more m [] i (b ∷ given) a e = ap (accepted m i) (same_Some b a e)
accepted_more m (u ∷ us) i [] a e = absurd (cc)
accepted_more m (u ∷ us) i (b ∷ given) a e = accepted_more (accepted m u b) us i given a e

-- how many are refused with one answer more
refused_more : (given : List Answer) (n : ℕ) (a : Answer) → slice_get given n ≡ Some a → count_by is_refused (take (suc n) given) ≡ count_by is_refused (take n given) + (if is_refused a then 1 else 0)
refused_more given n a e = which (is_refused a) refl
  where
    inside : n < length given
    inside = slice_get_within given n a e

    one : suc n ≡ n + 1
    one = omega arith

    which : (b : Bool) → is_refused a ≡ b → count_by is_refused (take (suc n) given) ≡ count_by is_refused (take n given) + (if b then 1 else 0)
    which true f = ap (λ k. count_by is_refused (take k given)) one ∙ count_by_more_yes is_refused given n a inside (ap is_refused (get_or_from_slice_get given n a a e) ∙ f)
    which false f = ap (λ k. count_by is_refused (take k given)) one ∙ (count_by_more_no is_refused given n a inside (ap is_refused (get_or_from_slice_get given n a a e) ∙ f) ∙ omega arith)

-- an answer behind the scan's
answer_behind : (k n : ℕ) (answers : List Answer) → k ≤ n → k ≤ length answers → slice_get (take k answers ++ drop (suc k) answers) n ≡ slice_get answers (suc n)
answer_behind zero n [] h g = refl
answer_behind zero n (a ∷ answers) h g = refl
answer_behind (suc k) zero answers h g = absurd (omega (arith, h))
answer_behind (suc k) (suc n) [] h g = absurd (omega (arith, g))
answer_behind (suc k) (suc n) (a ∷ answers) h g = answer_behind k n answers (omega (arith, h)) (omega (arith, g))

module _ (width : ℕ) (items : List RollItem) (answers : List Answer) (n : ℕ) (p q : Rolling) (s : StandsBelow width items answers n p) where
  given : List Answer
  given = update_answers items answers

  -- a table was printed
  pub table_goes : slice_get items n ≡ Some roll.Table → q.text.items ≡ p.text.items ++ table_text (buckets p.rollup.width p.rollup.pairs) p.refused → q.rollup ≡ p.rollup → q.refused ≡ p.refused → q.next ≡ p.next → StandsBelow width items answers (suc n) q
  unfolding given
  table_goes e text rollup refused next =
      let same : updates (take (suc n) items) ≡ updates (take n items) = updates_more items n roll.Table e ∙ append-nil (updates (take n items)) in
      record {
        wide = ap (λ (r : Rolled). r.width) rollup ∙ s.wide;
        pairs = ap (λ (r : Rolled). r.pairs) rollup ∙ (s.pairs ∙ ap (λ (us : List RollItem). accepted_all [] us given) (sym same));
        refused = refused ∙ (s.refused ∙ ap (λ (us : List RollItem). count_by is_refused (take (length us) given)) (sym same));
        above = subst (λ (us : List RollItem). updates_above items ≤ length us) (sym same) s.above;
        next = next ∙ (s.next ∙ ap (λ (us : List RollItem). suc (length us)) (sym same));
        text = text ∙ (ap₂ (λ (x y : List ℕ). x ++ y) s.text (ap₂ table_text (ap₂ buckets s.wide s.pairs) s.refused ∙ sym (ap (line_text width (take n items) given) e)) ∙ texts_more (text_at width items answers) n);
      }

  -- an update was made, or refused
  pub update_goes : (i : RollItem) (a : Answer) → slice_get items n ≡ Some i → is_update i ≡ true → slice_get answers p.next ≡ Some a → q.rollup.pairs ≡ accepted p.rollup.pairs i a → q.rollup.width ≡ p.rollup.width → q.refused ≡ p.refused + (if is_refused a then 1 else 0) → q.next ≡ p.next + 1 → q.text.items ≡ p.text.items → StandsBelow width items answers (suc n) q
  unfolding given
  update_goes i a e up answered pairs wide refused next text =
      let us : List RollItem = updates (take n items) in
      let same : updates (take (suc n) items) ≡ us ++ i ∷ [] = updates_more items n i e ∙ ap (λ (x : List RollItem). us ++ x) (update_is i up) in
      let more : length (us ++ i ∷ []) ≡ suc (length us) = length-append us (i ∷ []) ∙ omega arith in
      let inside = slice_get_within answers p.next a answered in
      let at : slice_get given (length us) ≡ Some a = answer_behind (updates_above items) (length us) answers s.above (omega (arith, inside, s.next, s.above)) ∙ (ap (slice_get answers) (sym s.next) ∙ answered) in
      record {
        wide = wide ∙ s.wide;
        pairs = pairs ∙ (ap (λ (m : Pairs). accepted m i a) s.pairs ∙ (sym (accepted_more [] us i given a at) ∙ ap (λ (x : List RollItem). accepted_all [] x given) (sym same)));
        refused = refused ∙ (ap (λ k. k + (if is_refused a then 1 else 0)) s.refused ∙ (sym (refused_more given (length us) a at) ∙ ap (λ k. count_by is_refused (take k given)) (sym more ∙ ap length (sym same))));
        above = omega (arith, s.above, more, ap length same);
        next = omega (arith, next, s.next, more, ap length same);
        text = text ∙ (s.text ∙ (sym (append-nil (flat_map (text_at width items answers) (range_with_len 0 n))) ∙ (ap (λ (x : List ℕ). flat_map (text_at width items answers) (range_with_len 0 n) ++ x) (sym (ap (line_text width (take n items) given) e ∙ update_text width (take n items) given i up)) ∙ texts_more (text_at width items answers) n)));
      }

-- Above the first table.

-- each line is an update
record IsUpdateAt (items : List RollItem) (n : ℕ) : Type 0 where
  item : RollItem
  here : slice_get items n ≡ Some item
  is : is_update item ≡ true

above_first : (items : List RollItem) (n : ℕ) → n < updates_above items → IsUpdateAt items n
above_first [] n w = absurd (omega (arith, w))
above_first (roll.Table ∷ items) n w = absurd (omega (arith, w))
above_first (roll.Put k v ∷ items) zero w = record { item = roll.Put k v; here = refl; is = refl }
above_first (roll.Del k ∷ items) zero w = record { item = roll.Del k; here = refl; is = refl }
above_first (roll.Put k v ∷ items) (suc n) w = let x = above_first items n (omega (arith, w)) in record { item = x.item; here = x.here; is = x.is }
above_first (roll.Del k ∷ items) (suc n) w = let x = above_first items n (omega (arith, w)) in record { item = x.item; here = x.here; is = x.is }

-- so nothing is printed there
pub none_above : (width : ℕ) (items : List RollItem) (answers : List Answer) (n : ℕ) → n ≤ updates_above items → flat_map (text_at width items answers) (range_with_len 0 n) ≡ []
none_above width items answers zero w = refl
none_above width items answers (suc n) w =
    let x = above_first items n (omega (arith, w)) in
    sym (texts_more (text_at width items answers) n)
    ∙ ap₂ (λ (a b : List ℕ). a ++ b) (none_above width items answers n (omega (arith, w))) (ap (line_text width (take n items) (update_answers items answers)) x.here ∙ update_text width (take n items) (update_answers items answers) x.item x.is)

-- the updates above are all lines there
pub updates_first : (items : List RollItem) → updates (take (updates_above items) items) ≡ take (updates_above items) items
updates_first [] = refl
updates_first (roll.Table ∷ items) = refl
updates_first (roll.Put k v ∷ items) = ap (λ (l : List RollItem). roll.Put k v ∷ l) (updates_first items)
updates_first (roll.Del k ∷ items) = ap (λ (l : List RollItem). roll.Del k ∷ l) (updates_first items)

pub many_first : (items : List RollItem) → length (take (updates_above items) items) ≡ updates_above items
many_first [] = refl
many_first (roll.Table ∷ items) = refl
many_first (roll.Put k v ∷ items) = ap suc (many_first items)
many_first (roll.Del k ∷ items) = ap suc (many_first items)

-- their answers are the first ones
first_answers : (k : ℕ) (answers more : List Answer) → k ≤ length answers → take k (take k answers ++ more) ≡ take k answers
first_answers zero answers more w = refl
first_answers (suc k) [] more w = absurd (omega (arith, w))
first_answers (suc k) (a ∷ answers) more w = ap (λ (l : List Answer). a ∷ l) (first_answers k answers more (omega (arith, w)))

-- the scan's points stand below them
pub stands_first : (width : ℕ) (items : List RollItem) (answers : List Answer) (p : Rolling) → updates_above items ≤ length answers → p.rollup.width ≡ width → p.rollup.pairs ≡ points_scanned items answers → p.refused ≡ count_by is_refused (take (updates_above items) answers) → p.next ≡ updates_above items + 1 → p.text.items ≡ [] → StandsBelow width items answers (updates_above items) p
stands_first width items answers p within wide pairs refused next text =
    let many : length (updates (take (updates_above items) items)) ≡ updates_above items = ap length (updates_first items) ∙ many_first items in
    record {
      wide = wide;
      pairs = pairs;
      refused = refused ∙ (ap (count_by is_refused) (sym (first_answers (updates_above items) answers (drop (suc (updates_above items)) answers) within)) ∙ ap (λ k. count_by is_refused (take k (update_answers items answers))) (sym many));
      above = omega (arith, many);
      next = omega (arith, next, many);
      text = text ∙ sym (none_above width items answers (updates_above items) (omega arith));
    }

-- answers behind those to the updates tell nothing of the points
accepted_front : (m : Pairs) (us : List RollItem) (given more : List Answer) → length us ≤ length given → accepted_all m us (given ++ more) ≡ accepted_all m us given
accepted_front m [] given more w = refl
accepted_front m (u ∷ us) [] more w = absurd (omega (arith, w))
accepted_front m (u ∷ us) (a ∷ given) more w = accepted_front (accepted m u a) us given more (omega (arith, w))

-- the scan's points are those of the lines above the first table
pub scanned_is : (items : List RollItem) (answers : List Answer) → updates_above items ≤ length answers → points_scanned items answers ≡ accepted_all [] (take (updates_above items) items) (take (updates_above items) answers)
scanned_is items answers w =
    ap (λ (us : List RollItem). accepted_all [] us (update_answers items answers)) (updates_first items)
    ∙ accepted_front [] (take (updates_above items) items) (take (updates_above items) answers) (drop (suc (updates_above items)) answers) (omega (arith, many_first items, length-take-le (updates_above items) answers w))

-- In the code.

-- a line that is no table makes an update
pub makes_update : (i : RollItem) → (i ≡ roll.Table → ⊥) → is_update i ≡ true
makes_update (roll.Put k v) n = refl
makes_update (roll.Del k) n = refl
makes_update roll.Table n = absurd (n refl)

-- the updates above an update are not all
updates_left : (items : List RollItem) (n : ℕ) (i : RollItem) → slice_get items n ≡ Some i → is_update i ≡ true → length (updates (take n items)) < length (updates items)
updates_left [] n i e up = absurd (cc)
updates_left (roll.Put k v ∷ items) zero i e up = omega arith
updates_left (roll.Del k ∷ items) zero i e up = omega arith
updates_left (roll.Table ∷ items) zero i e up = absurd (false≢true (ap is_update (same_Some roll.Table i e) ∙ up))
updates_left (roll.Put k v ∷ items) (suc n) i e up = omega (arith, updates_left items n i e up)
updates_left (roll.Del k ∷ items) (suc n) i e up = omega (arith, updates_left items n i e up)
updates_left (roll.Table ∷ items) (suc n) i e up = updates_left items n i e up

-- so there is an answer to it
pub next_inside : (width : ℕ) (items : List RollItem) (answers : List Answer) (n : ℕ) (p : Rolling) (i : RollItem) → StandsBelow width items answers n p → length answers ≡ suc (length (updates items)) → slice_get items n ≡ Some i → is_update i ≡ true → p.next < length answers
next_inside width items answers n p i s many e up = omega (arith, s.next, many, updates_left items n i e up)

-- an element of the lines from the first table on
pub item_at : (items : List RollItem) (first j : ℕ) (d : RollItem) → j < length (take (length items - first) (drop first items)) → slice_get items (first + j) ≡ Some (get_or (take (length items - first) (drop first items)) j d)
item_at items first j d w =
    let few = length-take (length items - first) (drop first items) in
    let left = length-drop first items in
    slice_get-get_or items (first + j) d (omega (arith, w, few, left)) ∙ ap Some (sym (get_or-take (length items - first) (drop first items) j d (omega (arith, w, few)) ∙ get_or-drop first items j d))

-- where a line is a table, there are answers to all
pub is_whole : (items : List RollItem) (answers : List Answer) (first : ℕ) → first ≡ updates_above items → first ≤ length items → (first ≡ length items → ⊥) → (updates_above items < length items → AreWhole items answers) → AreWhole items answers
is_whole items answers first e w n h = which (cases_lt first (length items))
  where
    which : (first < length items) ⊎ (length items ≤ first) → AreWhole items answers
    which (inl l) = h (omega (arith, e, l))
    which (inr g) = absurd (n (omega (arith, w, g)))

pub first_inside : (items : List RollItem) (answers : List Answer) (first : ℕ) → AreWhole items answers → first ≡ updates_above items → first < length answers
first_inside items answers first x e = omega (arith, e, slice_get_within answers (updates_above items) (answer.Pairs (points_scanned items answers)) x.scan)

-- that to the scan
pub scan_is : (items : List RollItem) (answers : List Answer) (first : ℕ) (a : Answer) → AreWhole items answers → first ≡ updates_above items → a ≡ get_or answers first a → a ≡ answer.Pairs (points_scanned items answers)
scan_is items answers first a x e g = g ∙ (ap (λ k. get_or answers k a) e ∙ get_or_from_slice_get answers (updates_above items) (answer.Pairs (points_scanned items answers)) a x.scan)

pub scanned_points : (items : List RollItem) (answers : List Answer) (first : ℕ) (a : Answer) (pairs : Pairs) → AreWhole items answers → first ≡ updates_above items → a ≡ get_or answers first a → a ≡ answer.Pairs pairs → pairs ≡ points_scanned items answers
scanned_points items answers first a pairs x e g is = let same : answer.Pairs pairs ≡ answer.Pairs (points_scanned items answers) = sym is ∙ scan_is items answers first a x e g in cc
