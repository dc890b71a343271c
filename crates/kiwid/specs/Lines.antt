-- What a session does with its next line, and with those at the front of what it holds.
use Rattle.std.specs.Prelude.{ℕ, ◌≡◌, ◌≢◌, ◌≤◌, ◌+◌, List, [], ◌∷◌, ◌++◌, map, length, drop, All, Option}
use Rattle.std.specs.List.{flat_map, AllByRecursion}
use Rattle.std.specs.Io.KnownBytes.{Appends}
use Rattle.kw_io.specs.Bytes.{AppendsPrefix}
use Rattle.kw_follow.specs.Following.{GoesTo}
use Rattle.kw_laws.specs.SeatCalls.{CallSeen}
use Rattle.kw_line.specs.Cut.{lines}
use Rattle.kw_line.specs.declared.words.TheConstants.{LINE_FEED}
use Rattle.kw_map.specs.Kiwi.{IsIdle}
use Rattle.kw_map.specs.declared.kiwi.Kiwi.{Kiwi}
use Rattle.kw_table.specs.declared.pass.Pass.{Pass}
use Rattle.kiwid.specs.Requests.{IsServed, Served, bad_text, line_of, said}
use Rattle.kiwid.specs.Session.{IfWriteFault, Stops, made_for}
use Rattle.kiwid.specs.declared.request.TheConstants.{MOST_BYTES, MOST_LINES}
use Rattle.kiwid.specs.declared.session.SessionEnd.{SessionEnd}
use Rattle.kiwid.specs.declared.session.SessionEnd.TheVariants.{Ended, Bad, ReadFault, WriteFault, Memory}

-- the pass went on, and is idle
pub record StaysIdle (kiwi : Kiwi) (p q : Pass) : Type 0 where
  pub idle : IsIdle kiwi q
  pub goes : GoesTo kiwi p q

-- a text was not written whole: a write failed, or it was never made
abbrev pub IsCutShort : SessionEnd → List ℕ → Option (List ℕ) → Option (List ℕ) → Type 0
IsCutShort WriteFault text old new = AppendsPrefix old new text
IsCutShort Memory text old new = Appends old new []
IsCutShort _ text old new = ⊥

-- a line behind so many lines was refused: what was written, and how the session ends
abbrev pub Refuses : ℕ → SessionEnd → Option (List ℕ) → Option (List ℕ) → Type 0
Refuses count (Bad number) old new = (number ≡ count + 1) × Appends old new (bad_text number)
Refuses count end old new = IsCutShort end (bad_text (count + 1)) old new

-- a session ended so at lines that were read: where a write failed, the sink counted a fault
pub record IsEndOfLines (end : SessionEnd) (Rose : Type 0) : Type 0 where
  pub write_fault : IfWriteFault end Rose
  pub no_read_fault : end ≢ ReadFault

-- the same at a line behind which others may come
pub record IsEndAtLine (end : SessionEnd) (Rose : Type 0) : Type 0 where
  pub of_lines : IsEndOfLines end Rose
  pub not_ended : end ≢ Ended

-- a line was answered whole
pub record LineDone (line : List ℕ) (made made' : List CallSeen) (written written' : Option (List ℕ)) : Type 0 where
  pub it : Served
  pub line_is : line_of it ≡ line
  pub served : IsServed it
  pub calls_are : made' ≡ made ++ made_for it ∷ []
  pub text_is : Appends written written' (said it)

-- the session stopped at a line, before which so many were answered
pub record LineStops (line : List ℕ) (count : ℕ) (end : SessionEnd) (made made' : List CallSeen) (written written' : Option (List ℕ)) : Type 0 where
  pub calls : List CallSeen
  pub bytes : List ℕ
  pub calls_are : made' ≡ made ++ calls
  pub text_is : Appends written written' bytes
  pub stops : (more : List (List ℕ)) → Stops end count (line ∷ more) calls bytes

-- the lines at the front of what was held were answered, whatever comes behind it
pub record Took (held held' : List ℕ) (made made' : List CallSeen) (written written' : Option (List ℕ)) (count count' : ℕ) : Type 0 where
  pub served : List Served
  pub front : List ℕ
  pub front_is : held ≡ front ++ held'
  pub cut : (more : List ℕ) → lines (front ++ more) ≡ map line_of served ++ lines more
  pub each : AllByRecursion IsServed served
  pub calls_are : made' ≡ made ++ map made_for served
  pub text_is : Appends written written' (flat_map said served)
  pub count_is : count' ≡ count + length served

-- The whole lines of what was held were answered, up to here. What is left is no whole line, not
-- too long for one, and none where a session serves no more.
pub record AnswersUpTo (held : List ℕ) (at : ℕ) (made made' : List CallSeen) (written written' : Option (List ℕ)) (count count' : ℕ) : Type 0 where
  pub within : at ≤ length held
  pub took : Took held (drop at held) made made' written written' count count'
  pub one_line : All (λ byte. byte ≢ LINE_FEED) (drop at held)
  pub short : length (drop at held) ≤ MOST_BYTES
  pub room : count' ≡ MOST_LINES → drop at held ≡ []
