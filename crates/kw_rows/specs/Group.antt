-- What a seat knows of the group that it rebalances: one row, or two neighbours.
use Rattle.std.specs.Prelude.{ℕ, ◌≡◌, ◌⊎◌, Option, Some}
use Rattle.kw_rows.specs.Ledger.{Ledger, IsLive, IsDead, IsFresh, IsHeld}
use Rattle.kw_rows.specs.RowState.{Leader, Follower, IsLed, IsTwo, IsLeader, IsClaimable, IsClaimed, IsFollowing, IsTaken}
use Rattle.kw_rows.specs.Rows.{Rows}
use Rattle.kw_rows.specs.States.{LinksOn}

-- how far a seat is with its group: r leads, c is the row after it, `after` is what a marked link
-- leads to
pub data View : Type 0 where
  Elsewhere : View
  -- it found r a leader of so many rows, none where that is not decided, and marks its link
  Marking : ℕ → ℕ → View
  -- it marked the link, to the next row or to none, and decides how many rows go
  Opened : ℕ → Option ℕ → View
  -- two rows go, and it takes c along
  Claiming : ℕ → ℕ → View
  -- c goes along, and it marks the link of c
  MarkingNext : ℕ → ℕ → View
  -- the group is r, or r and c, with what stands after it
  Alone : ℕ → Option ℕ → View
  Pair : ℕ → ℕ → Option ℕ → View
  -- it found r a follower, and seeks its leader
  Following : ℕ → View

-- r goes alone: so it was decided, or the row after it leads a group of its own
pub record IsAlone (w : Rows) (r : ℕ) (after : Option ℕ) : Type 0 where
  pub either : (w.state r ≡ Leader 1) ⊎ (w.state r ≡ Leader 2) × ((c : ℕ) × (after ≡ Some c) × IsLeader (w.state c))

-- c goes along with r
pub record IsPair (w : Rows) (r c : ℕ) : Type 0 where
  pub leads : w.state r ≡ Leader 2
  pub follows : w.state c ≡ Follower r

-- the row after r goes along with it, or leads a group of its own, or did so
abbrev pub IsClaimedNext : Rows → ℕ → Type 0
IsClaimedNext w r = (c : ℕ) × (w.next r ≡ Some c) × IsClaimed r (w.state c)

-- c went by the same event as r
abbrev pub WentWith : Ledger → ℕ → ℕ → Type 0
WentWith g r c = IsDead g c × ((g.fates c).gone ≡ (g.fates r).gone)

-- what it knows, by how far it is; also once the rows have gone
abbrev pub Group : Rows → Ledger → View → Type 0
Group w g Elsewhere = Unit {0}
Group w g (Marking r n) = IsLed n (w.state r) × (n ≡ 2 → IsDead g r → IsClaimedNext w r)
Group w g (Opened r after) = LinksOn w r after × IsLed 0 (w.state r)
Group w g (Claiming r c) = LinksOn w r (Some c) × IsTwo (w.state r) × (IsLive g r → IsClaimable r (w.state c)) × (IsDead g r → IsClaimed r (w.state c))
Group w g (MarkingNext r c) = LinksOn w r (Some c) × IsTwo (w.state r) × IsTaken r (w.state c) × (IsDead g r → WentWith g r c)
Group w g (Alone r after) = LinksOn w r after × (IsLive g r → IsAlone w r after)
Group w g (Pair r c after) = LinksOn w r (Some c) × LinksOn w c after × (IsLive g r → IsPair w r c) × (IsDead g r → WentWith g r c)
Group w g (Following r) = IsFollowing (w.state r)

-- the seat may name the rows of its view
abbrev pub Named : Ledger → ℕ → View → Type 0
Named g t Elsewhere = Unit {0}
Named g t (Marking r n) = IsFresh g t r
Named g t (Opened r after) = IsFresh g t r
Named g t (Claiming r c) = IsFresh g t r × IsFresh g t c
Named g t (MarkingNext r c) = IsFresh g t r × IsFresh g t c
Named g t (Alone r after) = IsFresh g t r
Named g t (Pair r c after) = IsFresh g t r × IsFresh g t c
Named g t (Following r) = IsFresh g t r

-- what a row that leads, or led, two says of the next one, and a dead follower of its leader
pub record Pairs (w : Rows) (g : Ledger) (x : ℕ) : Type 0 where
  pub next : IsLive g x → w.state x ≡ Leader 2 → (c : ℕ) × (w.next x ≡ Some c)
  pub claimed : IsHeld g x → IsDead g x → w.state x ≡ Leader 2 → IsClaimedNext w x
  pub together : (p : ℕ) → IsHeld g x → IsDead g x → w.state x ≡ Follower p → WentWith g x p
