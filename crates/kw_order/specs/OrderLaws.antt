-- The laws of the order.
use Rattle.kw_model.specs.Map.{value_of}
use Rattle.std.specs.Prelude.{ℕ, ◌≡◌, ◌+◌, ◌<◌, ◌≤◌, ◌⊎◌, Option, None, Some, List, slice_get}
use Rattle.kw_core.specs.History.{History, Get, Scan, Reply, Pairs, attempt, called}
use Rattle.kw_core.specs.declared.history.End.{End}
use Rattle.kw_core.specs.declared.history.Drawn.{Drawn}
use Rattle.kw_core.specs.HistoryLaws.{IsGapOf, EndsWith, shows, answer_of}
use Rattle.kw_order.specs.Order.{IsGap, Rank, HasRank, Separates, IsPlaced, Inside, LastBelow, written_by, IsPoint, put_rank, Below, IsTop}

-- a get answers what the put before its gap shows, and its place is there among the puts of its key
pub record GetPlace (h : History) (x key : ℕ) (r : Reply) (rank : Rank) : Type 0 where
  pub gap : Option ℕ
  pub is_gap : IsGap h x key r gap
  pub of_key : IsGapOf h key gap
  pub reply : r ≡ answer_of (shows h gap)
  pub separates : Separates h key gap rank

-- a scan gives for a key what a gap of it shows, and its place is there among the puts of the key
pub record ScanPlace (h : History) (key : ℕ) (pairs : List (ℕ × ℕ)) (rank : Rank) : Type 0 where
  pub gap : Option ℕ
  pub of_key : IsGapOf h key gap
  pub reply : value_of key pairs ≡ shows h gap
  pub separates : Separates h key gap rank

-- a get of this key that stands behind the put p, and began before f
pub record IsGetBehind (h : History) (key p f z : ℕ) : Type 0 where
  pub at : ℕ
  pub reply : Reply
  pub ended : EndsWith h z (Get key) at reply
  pub gap : IsGap h z key reply (Some p)
  pub first : (called h z).first < f

-- what holds of the order xs
pub record OrderLaws (h : History) (xs : List ℕ) : Type 0 where
  -- each call stands once
  pub once : (i j x : ℕ) → slice_get xs i ≡ Some x → slice_get xs j ≡ Some x → i ≡ j
  -- a call that ended before another began stands before it
  pub precedes : (x y i j : ℕ) (e : End) → slice_get xs i ≡ Some x → slice_get xs j ≡ Some y → (called h x).end ≡ Some e → e.at < (called h y).first → i < j
  -- each call has one rank, at a position inside it
  pub ranked : (x : ℕ) → IsPlaced h x → (r : Rank) × HasRank h x r
  pub one_rank : (x : ℕ) (r s : Rank) → HasRank h x r → HasRank h x s → r ≡ s
  pub inside : (x : ℕ) (r : Rank) → HasRank h x r → Inside h x r.at
  -- gets and scans among the puts of a key
  pub gets : (x key at : ℕ) (r : Reply) (rank : Rank) → EndsWith h x (Get key) at r → HasRank h x rank → GetPlace h x key r rank
  pub scans : (x from to at : ℕ) (pairs : List (ℕ × ℕ)) (rank : Rank) → EndsWith h x (Scan from to) at (Pairs pairs) → HasRank h x rank →
      (key : ℕ) → from ≤ key → key ≤ to → ScanPlace h key pairs rank
  -- a get answers, and a scan gives, what the last update before it wrote
  pub get_answers : (x key at : ℕ) (r : Reply) (rank : Rank) → EndsWith h x (Get key) at r → HasRank h x rank → (y : Option ℕ) × LastBelow h key rank y × (r ≡ answer_of (written_by h y))
  pub scan_gives : (x from to at : ℕ) (pairs : List (ℕ × ℕ)) (rank : Rank) → EndsWith h x (Scan from to) at (Pairs pairs) → HasRank h x rank →
      (key : ℕ) → from ≤ key → key ≤ to → (y : Option ℕ) × LastBelow h key rank y × (value_of key pairs ≡ written_by h y)
  -- a scan gives the values of the tops at its version, and no other key
  pub tops : (x from to at : ℕ) (pairs : List (ℕ × ℕ)) (d : Drawn) → EndsWith h x (Scan from to) at (Pairs pairs) → (called h x).draw ≡ Some d →
      (key : ℕ) → from ≤ key → key ≤ to → (o : Option ℕ) × IsTop h key d.version o × (value_of key pairs ≡ shows h o)
  pub no_others : (x from to at : ℕ) (pairs : List (ℕ × ℕ)) → EndsWith h x (Scan from to) at (Pairs pairs) → (key : ℕ) → (key < from) ⊎ (to < key) → value_of key pairs ≡ None
  -- a get whose point is that of the put before its gap stands directly after this put, and after
  -- gets of this gap that began before it
  pub directly : (x key at : ℕ) (r : Reply) (p a : ℕ) → EndsWith h x (Get key) at r → IsGap h x key r (Some p) → IsPoint h p a → (called h x).first < a →
      (z : ℕ) (s : Rank) → HasRank h z s → Below (put_rank h p a) s → Below s (record { at = a; add = (attempt h p).add; tail = (called h x).first + 1 }) → IsGetBehind h key p (called h x).first z
