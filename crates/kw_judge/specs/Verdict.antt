-- What each verdict means: which of five things is wrong first, and where.
use Rattle.std.specs.Prelude.{ℕ, ◌≡◌, ◌<◌, Some, List, ◌∷◌, ◌++◌, take, codes, Contains, slice_get}
use Rattle.kw_model.specs.Snapshots.{State, empty}
use Rattle.kw_model.specs.LegalFor.{IsRightFor, state_went_all}
use Rattle.kw_line.specs.declared.words.TheConstants.{SPACE}
use Rattle.kw_judge.specs.declared.record.Name.{Name}
use Rattle.kw_judge.specs.declared.verdict.Verdict.{Verdict}
use Rattle.kw_judge.specs.declared.verdict.Verdict.TheVariants as verdict
use Rattle.kw_judge.specs.Record.{RecordView, names_of}
use Rattle.kw_judge.specs.Good.{Recorded, calls_in_order, seats, calls, replies, EndedBefore, IsGood}
use Rattle.kw_judge.specs.Texts.{name_text}

-- x is the first of a list that fails: those before it hold
pub record IsFirst {X : Type 0} (Holds Fails : ℕ → X → Type 0) (xs : List X) (x : X) : Type 0 where
  pub place : ℕ
  pub there : slice_get xs place ≡ Some x
  pub fails : Fails place x
  pub before : (k : ℕ) (y : X) → k < place → slice_get xs k ≡ Some y → Holds k y

-- all of a list hold
abbrev pub AllHold : {X : Type 0} → (ℕ → X → Type 0) → List X → Type 0
AllHold {X} Holds xs = (k : ℕ) (x : X) → slice_get xs k ≡ Some x → Holds k x

-- the name stands before this place of the order, or not
abbrev pub StoodBefore : List Name → ℕ → Name → Type 0
StoodBefore names i name = (j : ℕ) × (j < i) × (slice_get names j ≡ Some name)

abbrev pub IsNew : List Name → ℕ → Name → Type 0
IsNew names i name = (j : ℕ) → j < i → slice_get names j ≡ Some name → ⊥

-- the first name that stands again in the order
abbrev pub IsTwice : RecordView → Name → Type 0
IsTwice r name = IsFirst (IsNew r.order) (StoodBefore r.order) r.order name

-- the first name of the order that no line has
abbrev pub IsUnknown : RecordView → Name → Type 0
IsUnknown r name = IsFirst (λ i n. Contains (names_of r) n) (λ i n. Contains (names_of r) n → ⊥) r.order name

-- the first line's name that the order lacks
abbrev pub IsMissing : RecordView → Name → Type 0
IsMissing r name = IsFirst (λ i n. Contains r.order n) (λ i n. Contains r.order n → ⊥) (names_of r) name

-- the call had not ended, or not before any call in front of it began
abbrev pub InTime : List Recorded → ℕ → Recorded → Type 0
InTime cs i a = (j : ℕ) (b : Recorded) → j < i → slice_get cs j ≡ Some b → EndedBefore a b → ⊥

-- it had ended before this one began, which stands in front of it, and before no one that stands in
-- front of that one
abbrev pub IsFirstAfter : List Recorded → Recorded → ℕ → Recorded → Type 0
IsFirstAfter cs b i a = IsFirst (λ j c. EndedBefore a c → ⊥) (λ j c. (j < i) × EndedBefore a c) cs b

-- the first call that stands behind one that began after it had ended, and the first such one
abbrev pub IsLate : RecordView → Name → Name → Type 0
IsLate r a b = (x y : Recorded) × (x.name ≡ a) × (y.name ≡ b) × IsFirst (InTime (calls_in_order r)) (IsFirstAfter (calls_in_order r) y) (calls_in_order r) x

-- the map and its snapshots before this place of the order
abbrev pub state_before : List Recorded → ℕ → State
state_before cs i = state_went_all empty (seats (take i cs)) (calls (take i cs)) (replies (take i cs))

-- the reply is that of the map there, asked for the seat of the call
abbrev pub IsRightAt : List Recorded → ℕ → Recorded → Type 0
IsRightAt cs i c = IsRightFor (state_before cs i) c.name.seat c.call c.reply

-- the first call whose reply is not that of the map
abbrev pub IsWrong : RecordView → Name → Type 0
IsWrong r name = (x : Recorded) × (x.name ≡ name) × IsFirst (IsRightAt (calls_in_order r)) (λ i c. IsRightAt (calls_in_order r) i c → ⊥) (calls_in_order r) x

-- no name stands twice; each one is known; none is missing; and no call stands behind one that
-- began after it had ended
abbrev pub AllOnce : RecordView → Type 0
AllOnce r = AllHold (IsNew r.order) r.order

abbrev pub AllKnown : RecordView → Type 0
AllKnown r = AllHold (λ i n. Contains (names_of r) n) r.order

abbrev pub NoneMissing : RecordView → Type 0
NoneMissing r = AllHold (λ i n. Contains r.order n) (names_of r)

abbrev pub AllInTime : RecordView → Type 0
AllInTime r = AllHold (InTime (calls_in_order r)) (calls_in_order r)

-- what a verdict says of a record: each is the first of these that is so
abbrev pub IsVerdict : RecordView → Verdict → Type 0
IsVerdict r verdict.Yes = IsGood r
IsVerdict r (verdict.Twice name) = IsTwice r name
IsVerdict r (verdict.Unknown name) = AllOnce r × IsUnknown r name
IsVerdict r (verdict.Missing name) = AllOnce r × AllKnown r × IsMissing r name
IsVerdict r (verdict.Late a b) = AllOnce r × AllKnown r × NoneMissing r × IsLate r a b
IsVerdict r (verdict.Wrong name) = AllOnce r × AllKnown r × NoneMissing r × AllInTime r × IsWrong r name

-- a verdict as it is printed
abbrev pub verdict_text : Verdict → List ℕ
verdict_text verdict.Yes = codes "yes"
verdict_text (verdict.Twice name) = codes "no: twice " ++ name_text name
verdict_text (verdict.Unknown name) = codes "no: unknown " ++ name_text name
verdict_text (verdict.Missing name) = codes "no: missing " ++ name_text name
verdict_text (verdict.Late a b) = codes "no: late " ++ name_text a ++ SPACE ∷ name_text b
verdict_text (verdict.Wrong name) = codes "no: wrong " ++ name_text name
