-- A piece that was copied from one list to the front of another.
use Rattle.std.proofs.Common.{◌≡◌, ℕ, ◌+◌, ◌-◌, ◌≤◌, min, List, ◌++◌, take, drop, length, sym, ◌∙◌, ap, arith, take-append-drop}
use Rattle.std.proofs.lemmas.List.{drop-drop, length-take-le, take-append-le, take_rest}
use Rattle.std.proofs.Math.Seq.{take-length}

-- the first n of a piece of n bytes, whatever lies behind it
pub take-piece : (piece behind : List ℕ) (n : ℕ) → length piece ≡ n → take n (piece ++ behind) ≡ piece
take-piece piece behind n long =
    let within : n ≤ length piece = omega arith in
    rw take-append-le (rw (← long) (take-length piece))

-- a list is its first n bytes, copied to the front of another list, and what lies behind them
pub left-piece : (left copied behind : List ℕ) (n : ℕ) → n ≤ length left → copied ≡ take n left → left ≡ take n (copied ++ behind) ++ drop n left
left-piece left copied behind n within same =
    rw (same, take-piece (take n left) behind n (length-take-le n left within)) (sym (take-append-drop n left))

-- the same of the rest of a list from a place on, which another list equals
pub rest-piece : (left slice bytes copied behind : List ℕ) (at n room : ℕ) → drop at bytes ≡ left → slice ≡ bytes
    → copied ≡ take n (take (length slice - at) (drop at slice)) → n ≡ min room (length (take (length slice - at) (drop at slice)))
    → left ≡ take n (copied ++ behind) ++ drop (at + n) bytes
rest-piece left slice bytes copied behind at n room is_left same is_copied is_short =
    let rest : take (length slice - at) (drop at slice) ≡ left = take_rest slice at ∙ ap (drop at) same ∙ is_left in
    let within : n ≤ length left = omega (arith, is_short, ap length rest) in
    let behind_it : drop (at + n) bytes ≡ drop n left = sym (drop-drop n at bytes) ∙ ap (drop n) is_left in
    rw behind_it (left-piece left copied behind n within (is_copied ∙ ap (take n) rest))
