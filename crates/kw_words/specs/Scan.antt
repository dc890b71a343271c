-- The scan of a seat, as a word.
use Rattle.std.specs.Prelude.{ℕ, ◌+◌, ◌*◌, ◌/◌, ◌%◌, ◌<◌, ◌≤◌, ◌==◌, ◌&&◌, nat_lt, if◌then◌else◌, Option, Some, None}
use Rattle.kw_words.specs.declared.scan.ScanWord.{ScanWord}
use Rattle.kw_words.specs.declared.scan.ScanWord.TheVariants.{Quiet, Waiting, Drawn}
use Rattle.kw_words.specs.declared.sizes.TheConstants.{VERSION_END}

-- the clock and the version of a scan are in range
abbrev pub IsScan : ScanWord → Type 0
IsScan Quiet = Unit {0}
IsScan (Waiting clock) = (1 ≤ clock) × (clock < VERSION_END)
IsScan (Drawn version) = (1 ≤ version) × (version < VERSION_END)

-- the word for a scan
abbrev pub scan_word : ScanWord → ℕ
scan_word Quiet = 0
scan_word (Waiting clock) = 1 + 4 * clock
scan_word (Drawn version) = 2 + 4 * version

-- the scan that a word stands for
unfoldable pub scan_of : ℕ → Option ScanWord
scan_of word =
    if word == 0 then Some Quiet
    else if (word % 4 == 1) && (nat_lt 0 (word / 4) && nat_lt (word / 4) VERSION_END) then Some (Waiting (word / 4))
    else if (word % 4 == 2) && (nat_lt 0 (word / 4) && nat_lt (word / 4) VERSION_END) then Some (Drawn (word / 4))
    else None
