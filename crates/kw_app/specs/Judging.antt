-- What `judge` prints: the verdict on the record that an input is.
use Rattle.std.specs.Prelude.{ℕ, ◌≡◌, List, [], ◌∷◌, ◌++◌}
use Rattle.kw_line.specs.declared.words.TheConstants.{LINE_FEED}
use Rattle.kw_judge.specs.declared.verdict.Verdict.{Verdict}
use Rattle.kw_judge.specs.declared.verdict.Verdict.TheVariants as verdict
use Rattle.kw_judge.specs.Record.{RecordView, IsRecordText}
use Rattle.kw_judge.specs.Verdict.{IsVerdict, verdict_text}
use Rattle.kw_app.specs.declared.printed.Ending.{Ending}
use Rattle.kw_app.specs.declared.printed.Ending.TheVariants as ending

-- how a text ends that says this verdict: nothing is said where the record is good
abbrev pub verdict_ending : Verdict → Ending
verdict_ending verdict.Yes = ending.Done
verdict_ending _ = ending.NotLegal

-- the text is the line of the verdict on this record: of what is wrong with it first, or of nothing
pub record IsVerdictOn (written : RecordView) (printed : List ℕ) (end : Ending) : Type 0 where
  pub told : Verdict
  pub is_verdict : IsVerdict written told
  pub text_is : printed ≡ verdict_text told ++ LINE_FEED ∷ []
  pub ending_is : end ≡ verdict_ending told

-- the text is that of the record whose text the bytes are, of which there is one
pub record IsJudged (bytes printed : List ℕ) (end : Ending) : Type 0 where
  pub written : RecordView
  pub text : IsRecordText bytes written
  pub only : (other : RecordView) → IsRecordText bytes other → other ≡ written
  pub verdict_on : IsVerdictOn written printed end
