-- The arguments of all commands, as `clap` is told them.
use Rattle.std.specs.Prelude.{ℕ, List, Some, true, pos, codes}
use Rattle.kw_words.specs.declared.sizes.TheConstants.{MOST_ROWS}
use Rattle.kw_command.specs.declared.command.TheConstants.{MOST_WORKERS, FEWEST_ROWS, MOST_START, MOST_LINES, MOST_BUCKET}
use Rattle.clap.specs.Simple.{App, new_app, new_rule, on_top, with_rule}
use Rattle.clap.specs.Walk.{Rule}
use Rattle.clap.specs.declared.builder.action.ArgAction.TheVariants.{SetTrue}
use Rattle.clap.specs.declared.builder.value_parser.ValueParser.{ValueParser}
use Rattle.clap.specs.declared.builder.value_parser.ValueParser.TheVariants as parser

-- the arguments that have a number
pub data Field : Type 0 where
  start : Field
  count : Field
  workers : Field
  rows : Field
  bucket : Field

abbrev pub id_of : Field → List ℕ
id_of start = codes "start"
id_of count = codes "count"
id_of workers = codes "workers"
id_of rows = codes "rows"
id_of bucket = codes "bucket"

abbrev pub least_of : Field → ℕ
least_of start = 0
least_of count = 1
least_of workers = 1
least_of rows = FEWEST_ROWS
least_of bucket = 1

abbrev pub most_of : Field → ℕ
most_of start = MOST_START
most_of count = MOST_LINES
most_of workers = MOST_WORKERS
most_of rows = MOST_ROWS
most_of bucket = MOST_BUCKET

abbrev pub parser_of : Field → ValueParser
parser_of f = parser.Signed (pos (least_of f)) (pos (most_of f))

abbrev pub rule_for : Field → Rule
rule_for start = record (new_rule (codes "start")) { parser = Some (parser_of start) }
rule_for count = record (new_rule (codes "count")) { parser = Some (parser_of count) }
rule_for workers = record (new_rule (codes "workers")) { long = Some (codes "workers"); parser = Some (parser_of workers) }
rule_for rows = record (new_rule (codes "rows")) { long = Some (codes "rows"); parser = Some (parser_of rows) }
rule_for bucket = record (new_rule (codes "bucket")) { long = Some (codes "bucket"); parser = Some (parser_of bucket) }

-- the flag
abbrev pub flag_id : List ℕ
flag_id = codes "record"

abbrev pub flag_rule : Rule
flag_rule = record (new_rule flag_id) { long = Some (codes "record"); action = Some SetTrue }

-- the program's arguments, as `clap` is told them
abbrev pub kiwi : App
kiwi = with_rule (with_rule (with_rule (with_rule (with_rule (with_rule (on_top (λ s. record s { disable_help_flag = true }) (new_app (codes "kiwi"))) (rule_for start)) (rule_for count)) (rule_for workers)) (rule_for rows)) (rule_for bucket)) flag_rule
