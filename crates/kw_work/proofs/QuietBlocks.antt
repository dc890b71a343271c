-- The block of a quiet range line.
use Rattle.std.proofs.Common.{ℕ, zero, suc, Bool, true, false, not, ◌||◌, ◌≡◌, ◌+◌, ◌-◌, ◌<◌, ◌≤◌, ◌⊎◌, inl, inr, List, [], ◌∷◌, ◌++◌, length, map, take, Some, refl, sym, ap, ◌∙◌, arith, length-append}
use Rattle.std.specs.List.{slice_get, list_any, flat_map}
use Rattle.std.specs.Option.{option_map}
use Rattle.std.proofs.lemmas.Bool.{cases_lt, false≢true}
use Rattle.std.proofs.lemmas.List.{length-map}
use Rattle.std.proofs.lemmas.Option.{same_Some, slice_get-map}
use Rattle.kw_line.specs.declared.item.Form.{Form}
use Rattle.kw_line.specs.Answered.{is_update, is_range}
use Rattle.kw_work.specs.declared.line.Line.{Line}
use Rattle.kw_work.specs.Lines.{quiet_lines}
use Rattle.kw_work.specs.LineOrder.{joined, lines_before}

-- a place in the front of two lists
pub get_front : {X : Type 0} (xs ys : List X) (i : ℕ) → i < length xs → slice_get (xs ++ ys) i ≡ slice_get xs i
get_front {X} [] ys i l = let e : length {A = X} [] ≡ 0 = refl in absurd (omega arith)
get_front (x ∷ xs) ys zero l = refl
get_front (x ∷ xs) ys (suc i) l = get_front xs ys i (omega arith)

-- a place behind the first of two lists
pub get_behind : {X : Type 0} (xs ys : List X) (i j : ℕ) → i ≡ length xs + j → slice_get (xs ++ ys) i ≡ slice_get ys j
get_behind {X} [] ys i j e = let z : length {A = X} [] ≡ 0 = refl in let w : i ≡ j = omega arith in ap (slice_get ys) w
get_behind (x ∷ xs) ys zero j e = absurd (omega arith)
get_behind (x ∷ xs) ys (suc i) j e = get_behind xs ys i j (omega arith)

-- neither of two tests passes
or_false : (a b : Bool) → (a || b) ≡ false → (a ≡ false) × (b ≡ false)
or_false true b e = absurd (false≢true (sym e))
or_false false b e = (refl, e)

-- where no element passes a test, this one does not
pub none_passes : {X : Type 0} (f : X → Bool) (xs : List X) (j : ℕ) (x : X) → list_any f xs ≡ false → slice_get xs j ≡ Some x → f x ≡ false
none_passes f [] j x n e = absurd (cc)
none_passes f (y ∷ xs) zero x n e = ap f (sym (same_Some y x e)) ∙ (or_false (f y) (list_any f xs) n).0
none_passes f (y ∷ xs) (suc j) x n e = none_passes f xs j x (or_false (f y) (list_any f xs) n).1 e

-- line i stands in a block without a line that sets a value or takes a key away
pub record InStillBlock (blocks : List (List Line)) (i : ℕ) : Type 0 where
  pub block : ℕ
  pub from : lines_before block blocks ≤ i
  pub to : i < lines_before (suc block) blocks
  pub still : (j : ℕ) (l : Line) → lines_before block blocks ≤ j → j < lines_before (suc block) blocks → slice_get (joined blocks) j ≡ Some l → is_update l.form ≡ false

-- whether a line of a block is quiet
quiet_at : (b : List Line) (i : ℕ) (l : Line) → slice_get b i ≡ Some l → slice_get (quiet_lines b) i ≡ Some (not (is_range l.form) || not (list_any is_update (map (λ (l : Line). l.form) b)))
quiet_at b i l e =
    let fs = map (λ (l : Line). l.form) b in
    let test : Form → Bool = λ f. not (is_range f) || not (list_any is_update fs) in
    slice_get-map test fs i ∙ ap (option_map test) (slice_get-map (λ (l : Line). l.form) b i ∙ ap (option_map (λ (l : Line). l.form)) e)

-- a quiet range line of a block: no line of the block sets a value or takes a key away
still_block : (b : List Line) (i : ℕ) (l : Line) → slice_get b i ≡ Some l → slice_get (quiet_lines b) i ≡ Some true → is_range l.form ≡ true → list_any is_update (map (λ (l : Line). l.form) b) ≡ false
still_block b i l e q r = go (is_range l.form) (list_any is_update (map (λ (l : Line). l.form) b)) r (same_Some _ true (sym (quiet_at b i l e) ∙ q))
  where
    go : (a c : Bool) → a ≡ true → (not a || not c) ≡ true → c ≡ false
    go true true r t = sym t
    go true false r t = refl
    go false c r t = absurd (false≢true r)

-- the lines before a block of more blocks
more_before : (k : ℕ) (b : List Line) (bs : List (List Line)) → lines_before (suc k) (b ∷ bs) ≡ length b + lines_before k bs
more_before k b bs = length-append b (joined (take k bs))

-- and so for blocks
pub quiet_block : (bs : List (List Line)) (i : ℕ) (l : Line) → slice_get (joined bs) i ≡ Some l → slice_get (flat_map quiet_lines bs) i ≡ Some true → is_range l.form ≡ true → InStillBlock bs i
quiet_block [] i l e q r = absurd (cc)
quiet_block (b ∷ bs) i l e q r = go (λ j. quiet_block bs j l) (cases_lt i (length b))
  where
    long : length (quiet_lines b) ≡ length b
    long = length-map (map (λ (l : Line). l.form) b) _ ∙ length-map b _

    here : i < length b → InStillBlock (b ∷ bs) i
    here h = record {
      block = 0;
      from = omega arith;
      to = let w = more_before 0 b bs in omega arith;
      still = λ j m f t at. let w = more_before 0 b bs in none_in j m (omega arith) (sym (get_front b (joined bs) j (omega arith)) ∙ at);
    }
      where
        none : list_any is_update (map (λ (l : Line). l.form) b) ≡ false
        none = still_block b i l (sym (get_front b (joined bs) i h) ∙ e) (sym (get_front (quiet_lines b) (flat_map quiet_lines bs) i (let w = long in omega arith)) ∙ q) r

        none_in : (j : ℕ) (m : Line) → j < length b → slice_get b j ≡ Some m → is_update m.form ≡ false
        none_in j m lt at = none_passes is_update (map (λ (l : Line). l.form) b) j m.form none (slice_get-map (λ (l : Line). l.form) b j ∙ ap (option_map (λ (l : Line). l.form)) at)

    later : (j : ℕ) → i ≡ length b + j → InStillBlock bs j → InStillBlock (b ∷ bs) i
    later j s w = record {
      block = suc w.block;
      from = let x = more_before w.block b bs in let y = w.from in omega arith;
      to = let x = more_before (suc w.block) b bs in let y = w.to in omega arith;
      still = λ a m f t at. behind a m f t at;
    }
      where
        behind : (a : ℕ) (m : Line) → lines_before (suc w.block) (b ∷ bs) ≤ a → a < lines_before (suc (suc w.block)) (b ∷ bs) → slice_get (joined (b ∷ bs)) a ≡ Some m → is_update m.form ≡ false
        behind a m f t at =
            let x = more_before w.block b bs in
            let y = more_before (suc w.block) b bs in
            let z : a ≡ length b + (a - length b) = omega arith in
            w.still (a - length b) m (omega arith) (omega arith) (sym (get_behind b (joined bs) a (a - length b) z) ∙ at)

    go : ((j : ℕ) → slice_get (joined bs) j ≡ Some l → slice_get (flat_map quiet_lines bs) j ≡ Some true → is_range l.form ≡ true → InStillBlock bs j) → (i < length b) ⊎ (length b ≤ i) → InStillBlock (b ∷ bs) i
    go rest (inl h) = here h
    go rest (inr h) =
        let z : i ≡ length b + (i - length b) = omega arith in
        later (i - length b) z (rest (i - length b) (sym (get_behind b (joined bs) i (i - length b) z) ∙ e) (sym (get_behind (quiet_lines b) (flat_map quiet_lines bs) i (i - length b) (let w = long in omega arith)) ∙ q) r)
