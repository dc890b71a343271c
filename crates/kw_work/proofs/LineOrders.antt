-- An order of lines that keeps the order of all lines is the order of the lines.
use Rattle.std.proofs.Common.{ℕ, zero, suc, ◌≡◌, ◌<◌, ◌≤◌, ◌⊎◌, inl, inr, List, [], length, map, get_or, Some, sym, ap, ◌∙◌, subst, arith}
use Rattle.std.specs.List.{slice_get, range_with_len}
use Rattle.std.proofs.lemmas.Bool.{cases_order}
use Rattle.std.proofs.lemmas.List.{ext_get_or}
use Rattle.std.proofs.lemmas.List.FromFn.{get_or-range_with_len, length-range_with_len, get_or-map-range_with_len, length-map-range_with_len}
use Rattle.std.proofs.lemmas.Option.{slice_get-get_or, slice_get_within, get_or_from_slice_get}
use Rattle.kw_model.specs.Legal.{IsLegal}
use Rattle.kw_model.specs.declared.call.Call.{Call}
use Rattle.kw_model.specs.declared.call.Reply.{Reply}
use Rattle.kw_work.specs.LineOrder.{IsOrderOf, StandsBefore, IsLegalIn, reply_at}

-- the elements of a list are those that its places have
pub listed : {X : Type 0} (xs : List X) (d : X) → map (λ i. get_or xs i d) (range_with_len 0 (length xs)) ≡ xs
listed xs d =
    ext_get_or d (map (λ i. get_or xs i d) (range_with_len 0 (length xs))) xs (length-map-range_with_len (λ i. get_or xs i d) 0 (length xs))
    (λ i l. get_or-map-range_with_len (λ i. get_or xs i d) 0 (length xs) i i d (let w = length-map-range_with_len (λ i. get_or xs i d) 0 (length xs) in omega arith) (omega arith))

module _ (n : ℕ) (xs : List ℕ) (o : IsOrderOf n xs) (keeps : (i j : ℕ) → i < j → StandsBefore xs i j) where
  -- a later place has a later line
  rises : (a b i j : ℕ) → a < b → slice_get xs a ≡ Some i → slice_get xs b ≡ Some j → i < j
  rises a b i j l e f = go (cases_order i j)
    where
      go : (i ≡ j) ⊎ ((i < j) ⊎ (j < i)) → i < j
      go (inl s) = let w = o.once a b j (e ∙ ap Some s) f in absurd (omega arith)
      go (inr (inl h)) = h
      go (inr (inr h)) = let w = keeps j i h b a f e in absurd (omega arith)

  -- a place has a line from its number on
  above : (a i : ℕ) → slice_get xs a ≡ Some i → a ≤ i
  above zero i e = omega arith
  above (suc a) i e =
      let l = slice_get_within xs (suc a) i e in
      let f = slice_get-get_or xs a 0 (omega arith) in
      let w = above a (get_or xs a 0) f in
      let v = rises a (suc a) (get_or xs a 0) i (omega arith) f e in
      omega arith

  -- a line has a place from its number on
  below : (i a : ℕ) → slice_get xs a ≡ Some i → i ≤ a
  below zero a e = omega arith
  below (suc i) a e =
      let l = o.within a (suc i) e in
      let p = o.every i (omega arith) in
      let w = below i p.0 p.1 in
      let v = keeps i (suc i) (omega arith) p.0 a p.1 e in
      omega arith

  -- so each line has its own place
  own : (i : ℕ) → i < n → slice_get xs i ≡ Some i
  own i l =
      let p = o.every i l in
      let a = above p.0 i p.1 in
      let b = below i p.0 p.1 in
      let e : p.0 ≡ i = omega arith in
      subst (λ q. slice_get xs q ≡ Some i) e p.1

  -- and there are no other places
  long : length xs ≡ n
  long = go (cases_order (length xs) n)
    where
      go : (length xs ≡ n) ⊎ ((length xs < n) ⊎ (n < length xs)) → length xs ≡ n
      go (inl e) = e
      go (inr (inl l)) = let w = slice_get_within xs (length xs) (length xs) (own (length xs) l) in absurd (omega arith)
      go (inr (inr l)) =
          let f = slice_get-get_or xs n 0 l in
          let w = o.within n (get_or xs n 0) f in
          let v = above n (get_or xs n 0) f in
          absurd (omega arith)

  -- the order is that of the lines
  pub line_order : xs ≡ range_with_len 0 n
  line_order =
      ext_get_or 0 xs (range_with_len 0 n) (long ∙ sym (length-range_with_len 0 n))
      (λ i l. let h : i < n = let w = long in omega arith in let e = get_or-range_with_len 0 n i 0 h in get_or_from_slice_get xs i i 0 (own i h) ∙ omega arith)

-- and the replies are right in line order
pub legal_in_line_order : (cs : List Call) (rs : List Reply) (xs : List ℕ) → length cs ≡ length rs → IsOrderOf (length cs) xs → ((i j : ℕ) → i < j → StandsBefore xs i j) → IsLegalIn cs rs xs → IsLegal [] cs rs
legal_in_line_order cs rs xs long o keeps h =
    let w = subst (λ ys. IsLegalIn cs rs ys) (line_order (length cs) xs o keeps) h in
    let r : map (reply_at rs) (range_with_len 0 (length cs)) ≡ rs = ap (λ n. map (reply_at rs) (range_with_len 0 n)) long ∙ listed rs _ in
    subst (λ ss. IsLegal [] cs ss) r (subst (λ ds. IsLegal [] ds (map (reply_at rs) (range_with_len 0 (length cs)))) (listed cs _) w)
