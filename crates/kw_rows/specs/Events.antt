-- The events that change rows: what each finds, which is its premise, and what it leaves.
use Rattle.std.specs.Prelude.{ℕ, ◌≡◌, ◌≢◌, ◌⊎◌, ◌<◌, ◌≤◌, true, false, Option, Some, None, List, [], ◌∷◌}
use Rattle.kw_rows.specs.Ledger.{Ledger, Free, Infant, IsLive, IsDead, IsHeld}
use Rattle.kw_rows.specs.RowState as row
use Rattle.kw_rows.specs.RowState.{State, Normal, Leader, Follower, Retired, IsEngaged, IsDecided}
use Rattle.kw_rows.specs.Rows.{Rows, leads, bound}
use Rattle.kw_rows.specs.States.{IsNumbered}
use Rattle.kw_rows.specs.Group.{Alone, Pair, Claiming, Group}

-- What stays.

-- all words but the states
pub record SameLinks (w w' : Rows) : Type 0 where
  pub head : w'.head ≡ w.head
  pub next : (x : ℕ) → w'.next x ≡ w.next x
  pub marked : (x : ℕ) → w'.marked x ≡ w.marked x
  pub frozen : (x : ℕ) → w'.frozen x ≡ w.frozen x
  pub least : (x : ℕ) → w'.least x ≡ w.least x

-- all states
abbrev pub SameStates : Rows → Rows → Type 0
SameStates w w' = (x : ℕ) → w'.state x ≡ w.state x

-- what has become of each row
abbrev pub SameFates : Ledger → Ledger → Type 0
SameFates g g' = (x : ℕ) → g'.fates x ≡ g.fates x

-- the visits and the numbers
pub record SameVisits (g g' : Ledger) : Type 0 where
  pub visits : (t : ℕ) → g'.visits t ≡ g.visits t
  pub numbered : (m : ℕ) → g'.numbered m ≡ g.numbered m

-- all that is recorded
pub record SameLedger (g g' : Ledger) : Type 0 where
  pub fates : SameFates g g'
  pub others : SameVisits g g'

-- One row is written.

-- its state
pub record SetsState (w w' : Rows) (x : ℕ) (s : State) : Type 0 where
  pub links : SameLinks w w'
  pub state : w'.state x ≡ s
  pub others : (y : ℕ) → y ≢ x → w'.state y ≡ w.state y

-- its state, and what has become of it
pub record Turns (w w' : Rows) (g g' : Ledger) (x : ℕ) (s : State) : Type 0 where
  pub sets : SetsState w w' x s
  pub fates : (y : ℕ) → y ≢ x → g'.fates y ≡ g.fates y
  pub others : SameVisits g g'

-- a seat takes a free row
pub record Takes (w w' : Rows) (g g' : Ledger) (x s : ℕ) : Type 0 where
  pub free : (g.fates x).status ≡ Free
  pub turns : Turns w w' g g' x (row.Infant s)
  pub status : (g'.fates x).status ≡ Infant
  pub owner : (g'.fates x).owner ≡ s

-- it gives the row back, which was never linked
pub record GivesBack (w w' : Rows) (g g' : Ledger) (x : ℕ) : Type 0 where
  pub infant : (g.fates x).status ≡ Infant
  pub turns : Turns w w' g g' x row.Free
  pub status : (g'.fates x).status ≡ Free

-- it writes words of such a row, whichever they are
pub record Fills (w w' : Rows) (g g' : Ledger) (x : ℕ) : Type 0 where
  pub infant : (g.fates x).status ≡ Infant
  pub head : w'.head ≡ w.head
  pub next : (y : ℕ) → y ≢ x → w'.next y ≡ w.next y
  pub marked : (y : ℕ) → y ≢ x → w'.marked y ≡ w.marked y
  pub frozen : (y : ℕ) → y ≢ x → w'.frozen y ≡ w.frozen y
  pub least : (y : ℕ) → y ≢ x → w'.least y ≡ w.least y
  pub states : SameStates w w'
  pub ledger : SameLedger g g'

-- a retired row is free again: each visit that is on began after the row's number was drawn
pub record Reclaims (w w' : Rows) (g g' : Ledger) (x m : ℕ) : Type 0 where
  pub dead : IsDead g x
  pub retired : w.state x ≡ Retired m
  pub young : (t since at : ℕ) → g.visits t ≡ Some since → g.numbered m ≡ Some at → at < since
  pub turns : Turns w w' g g' x row.Free
  pub status : (g'.fates x).status ≡ Free

-- a rebalance begins at the row
pub record Engages (w w' : Rows) (g g' : Ledger) (x : ℕ) : Type 0 where
  pub held : IsHeld g x
  pub normal : w.state x ≡ Normal
  pub sets : SetsState w w' x (Leader 0)
  pub ledger : SameLedger g g'

-- the link of a row is marked, or was so already
pub record MarksLink (w w' : Rows) (g g' : Ledger) (x : ℕ) : Type 0 where
  pub engaged : IsLive g x → IsEngaged (w.state x)
  pub head : w'.head ≡ w.head
  pub next : (y : ℕ) → w'.next y ≡ w.next y
  pub marked : w'.marked x ≡ true
  pub others : (y : ℕ) → y ≢ x → w'.marked y ≡ w.marked y
  pub frozen : (y : ℕ) → w'.frozen y ≡ w.frozen y
  pub least : (y : ℕ) → w'.least y ≡ w.least y
  pub states : SameStates w w'
  pub ledger : SameLedger g g'

-- the number of rows that go is decided
pub record Decides (w w' : Rows) (g g' : Ledger) (r n : ℕ) : Type 0 where
  pub held : IsHeld g r
  pub undecided : w.state r ≡ Leader 0
  pub marked : w.marked r ≡ true
  pub some : 1 ≤ n
  pub followed : n ≡ 2 → (c : ℕ) × (w.next r ≡ Some c)
  pub sets : SetsState w w' r (Leader n)
  pub ledger : SameLedger g g'

-- the row after r goes along with it
pub record EngagesNext (w w' : Rows) (g g' : Ledger) (r c : ℕ) : Type 0 where
  pub held : IsHeld g r
  pub claims : Group w g (Claiming r c)
  pub normal : w.state c ≡ Normal
  pub sets : SetsState w w' c (Follower r)
  pub ledger : SameLedger g g'

-- a row that was linked is normal from now on
pub record Normalises (w w' : Rows) (g g' : Ledger) (x s : ℕ) : Type 0 where
  pub held : IsHeld g x
  pub infant : w.state x ≡ row.Infant s
  pub sets : SetsState w w' x Normal
  pub ledger : SameLedger g g'

-- a row gives no more cells, or did so already
pub record Freezes (w w' : Rows) (g g' : Ledger) (x : ℕ) : Type 0 where
  pub decided : IsLive g x → (w.marked x ≡ true) × IsDecided (w.state x)
  pub head : w'.head ≡ w.head
  pub next : (y : ℕ) → w'.next y ≡ w.next y
  pub marked : (y : ℕ) → w'.marked y ≡ w.marked y
  pub frozen : w'.frozen x ≡ true
  pub others : (y : ℕ) → y ≢ x → w'.frozen y ≡ w.frozen y
  pub least : (y : ℕ) → w'.least y ≡ w.least y
  pub states : SameStates w w'
  pub ledger : SameLedger g g'

-- a number is drawn for the first time
pub record Numbers (w w' : Rows) (g g' : Ledger) (now m : ℕ) : Type 0 where
  pub new : g.numbered m ≡ None
  pub links : SameLinks w w'
  pub states : SameStates w w'
  pub fates : SameFates g g'
  pub visits : (t : ℕ) → g'.visits t ≡ g.visits t
  pub drawn : g'.numbered m ≡ Some now
  pub others : (k : ℕ) → k ≢ m → g'.numbered k ≡ g.numbered k

-- a dead row has its number
pub record Retires (w w' : Rows) (g g' : Ledger) (x m : ℕ) : Type 0 where
  pub dead : IsDead g x
  pub number : IsNumbered g x m
  pub sets : SetsState w w' x (Retired m)
  pub ledger : SameLedger g g'

-- the visit of a seat begins at `at`, or ends
pub record Visits (w w' : Rows) (g g' : Ledger) (t : ℕ) (at : Option ℕ) : Type 0 where
  pub links : SameLinks w w'
  pub states : SameStates w w'
  pub fates : SameFates g g'
  pub numbered : (m : ℕ) → g'.numbered m ≡ g.numbered m
  pub visits : g'.visits t ≡ at
  pub others : (u : ℕ) → u ≢ t → g'.visits u ≡ g.visits u

-- nothing of the rows changes
pub record Rests (w w' : Rows) (g g' : Ledger) : Type 0 where
  pub links : SameLinks w w'
  pub states : SameStates w w'
  pub ledger : SameLedger g g'

-- A group is replaced.

-- the row is in the list
abbrev pub IsIn : List ℕ → ℕ → Type 0
IsIn [] x = ⊥
IsIn (y ∷ ys) x = (x ≡ y) ⊎ IsIn ys x

-- each row's link leads to the next row of the list, and the last one's there
abbrev pub Links : (ℕ → Option ℕ) → ℕ → List ℕ → Option ℕ → Type 0
Links next x [] after = next x ≡ after
Links next x (y ∷ ys) after = (next x ≡ Some y) × Links next y ys after

-- least keys rise
abbrev pub Rises : (ℕ → ℕ) → ℕ → List ℕ → Type 0
Rises least x [] = Unit {0}
Rises least x (y ∷ ys) = (least x < least y) × Rises least y ys

-- what the winner knows of its group
abbrev pub Holds : Rows → Ledger → ℕ → Option ℕ → Option ℕ → Type 0
Holds w g r None after = Group w g (Alone r after)
Holds w g r (Some c) after = Group w g (Pair r c after)

-- the rows of the group after the first
abbrev pub rest_of : Option ℕ → List ℕ
rest_of None = []
rest_of (Some c) = c ∷ []

-- the link that is exchanged is the head, or that of a row that a seat may name, unmarked
abbrev pub IsOpenLink : Rows → Ledger → Option ℕ → Type 0
IsOpenLink w g None = Unit {0}
IsOpenLink w g (Some p) = IsHeld g p × (w.marked p ≡ false)

-- the link of p, which held r, is exchanged for one to n: the group, r and c, is dead, and n and
-- more are live
pub record Replaces (w w' : Rows) (g g' : Ledger) (now : ℕ) (p : Option ℕ) (r : ℕ) (c after : Option ℕ) (n : ℕ) (more : List ℕ) : Type 0 where
  -- what it finds
  pub link : IsOpenLink w g p
  pub found : leads w p ≡ Some r
  pub holds : Holds w g r c after
  pub full : (x : ℕ) → IsIn (r ∷ rest_of c) x → w.frozen x ≡ true
  pub infants : (x : ℕ) → IsIn (n ∷ more) x → (g.fates x).status ≡ Infant
  pub unmarked : (x : ℕ) → IsIn (n ∷ more) x → w.marked x ≡ false
  pub unfrozen : (x : ℕ) → IsIn (n ∷ more) x → w.frozen x ≡ false
  pub new : Links w.next n more after
  pub least : w.least n ≡ w.least r
  pub rises : Rises w.least n more
  pub below : (x b : ℕ) → IsIn (n ∷ more) x → after ≡ Some b → w.least x < w.least b
  -- what it leaves: the words
  pub leads_on : leads w' p ≡ Some n
  pub others : (q : Option ℕ) → q ≢ p → leads w' q ≡ leads w q
  pub marked : (x : ℕ) → w'.marked x ≡ w.marked x
  pub frozen : (x : ℕ) → w'.frozen x ≡ w.frozen x
  pub leasts : (x : ℕ) → w'.least x ≡ w.least x
  pub states : SameStates w w'
  -- and what has become of the rows
  pub gone_dead : (x : ℕ) → IsIn (r ∷ rest_of c) x → IsDead g' x
  pub gone_now : (x : ℕ) → IsIn (r ∷ rest_of c) x → (g'.fates x).gone ≡ now
  pub gone_born : (x : ℕ) → IsIn (r ∷ rest_of c) x → (g'.fates x).born ≡ (g.fates x).born
  pub gone_upper : (x : ℕ) → IsIn (r ∷ rest_of c) x → (g'.fates x).upper ≡ (g.fates x).upper
  pub come : (x : ℕ) → IsIn (n ∷ more) x → IsLive g' x
  pub come_born : (x : ℕ) → IsIn (n ∷ more) x → now < (g'.fates x).born
  pub come_owner : (x : ℕ) → IsIn (n ∷ more) x → (g'.fates x).owner ≡ (g.fates x).owner
  pub come_upper : (x : ℕ) → IsIn (n ∷ more) x → (g'.fates x).upper ≡ bound w (w.next x)
  pub fates : (x : ℕ) → (IsIn (r ∷ rest_of c) x → ⊥) → (IsIn (n ∷ more) x → ⊥) → g'.fates x ≡ g.fates x
  pub visits : SameVisits g g'

-- one event at position `now`
pub data Event (w w' : Rows) (g g' : Ledger) (now : ℕ) : Type 0 where
  takes : (x s : ℕ) → Takes w w' g g' x s → Event w w' g g' now
  gives_back : (x : ℕ) → GivesBack w w' g g' x → Event w w' g g' now
  fills : (x : ℕ) → Fills w w' g g' x → Event w w' g g' now
  reclaims : (x m : ℕ) → Reclaims w w' g g' x m → Event w w' g g' now
  engages : (x : ℕ) → Engages w w' g g' x → Event w w' g g' now
  marks : (x : ℕ) → MarksLink w w' g g' x → Event w w' g g' now
  decides : (r n : ℕ) → Decides w w' g g' r n → Event w w' g g' now
  engages_next : (r c : ℕ) → EngagesNext w w' g g' r c → Event w w' g g' now
  normalises : (x s : ℕ) → Normalises w w' g g' x s → Event w w' g g' now
  freezes : (x : ℕ) → Freezes w w' g g' x → Event w w' g g' now
  numbers : (m : ℕ) → Numbers w w' g g' now m → Event w w' g g' now
  retires : (x m : ℕ) → Retires w w' g g' x m → Event w w' g g' now
  begins : (t : ℕ) → Visits w w' g g' t (Some now) → Event w w' g g' now
  ends : (t : ℕ) → Visits w w' g g' t None → Event w w' g g' now
  rests : Rests w w' g g' → Event w w' g g' now
  replaces : (p : Option ℕ) (r : ℕ) (c after : Option ℕ) (n : ℕ) (more : List ℕ) → Replaces w w' g g' now p r c after n more → Event w w' g g' now
