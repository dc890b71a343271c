-- An order that keeps each worker's lines in their order.
use Rattle.std.proofs.Common.{ℕ, ◌≡◌, ◌<◌, ◌%◌, List, length, Some, sym, ap, ◌∙◌, arith}
use Rattle.std.proofs.lemmas.Option.{same_Some}
use Rattle.kw_model.specs.declared.call.Call.{Call}
use Rattle.kw_model.specs.declared.call.Call.TheVariants.{Put, Del, Get, Scan, Pin, ScanAt, Unpin}
use Rattle.kw_work.specs.declared.line.Line.{Line}
use Rattle.kw_work.specs.Dealing.{worker_of, dealt_by}
use Rattle.kw_work.proofs.Asked.{element_at}
use Rattle.kw_work.specs.LineOrder.{IsOrderOf, StandsBefore, key_of, joined, KeepsKeys, KeepsWorkers}

-- a line on a key is dealt by it
by_key : (c : Call) (k n : ℕ) → key_of c ≡ Some k → dealt_by c n ≡ k
by_key (Put q v) k n e = same_Some q k e
by_key (Del q) k n e = same_Some q k e
by_key (Get q) k n e = same_Some q k e
by_key (Scan a b) k n e = absurd (cc)
by_key Pin k n e = absurd (cc)
by_key (ScanAt a b) k n e = absurd (cc)
by_key Unpin k n e = absurd (cc)

-- so the lines on a key are one worker's
pub keeps_keys : (workers : ℕ) (blocks : List (List Line)) (xs : List ℕ) → KeepsWorkers workers blocks xs → KeepsKeys blocks xs
keeps_keys workers blocks xs keeps = record {
  keys = λ i j k l m lt e f a b. keeps.shares i j l m lt e f (ap (λ n. n % workers) (by_key l.call k l.number a ∙ sym (by_key m.call k m.number b)));
  cuts = keeps.cuts;
}

-- all lines are the one worker's
pub keeps_all : (blocks : List (List Line)) (xs : List ℕ) → IsOrderOf (length (joined blocks)) xs → KeepsWorkers 1 blocks xs → (i j : ℕ) → i < j → StandsBefore xs i j
keeps_all blocks xs o keeps i j lt a b e f =
    let l = element_at (joined blocks) i (o.within a i e) in
    let m = element_at (joined blocks) j (o.within b j f) in
    keeps.shares i j l.0 m.0 lt l.1 m.1 (only l.0 ∙ sym (only m.0)) a b e f
  where
    only : (l : Line) → worker_of 1 l ≡ 0
    only l = omega arith
