-- What `clap` finds, or that it finds a fault.
use Rattle.std.proofs.Common.{◌≡◌, ℕ, Bool, Option, Some, sym, ◌∙◌}
use Rattle.std.proofs.lemmas.List.{map-id}
use Rattle.std.specs.Str.Parse.{ParsesUnsigned, ExplainsUnsignedError, HasUnsignedDigitsIfOk}
use Rattle.kw_command.specs.declared.words.Arguments.{Arguments}
use Rattle.kw_command.specs.Clap.{start, count, workers, rows, bucket}
use Rattle.kw_command.proofs.Getters.{parse_is, refused_is, gets, gets_flag}
use Rattle.kw_command.proofs.words.arguments_of.Goals as goal
use Rattle.clap.specs.Words.{app_of}

all_same : (a : Arguments) (s n w r g : Option ℕ) (b : Bool) → s ≡ a.start → n ≡ a.count → w ≡ a.workers → r ≡ a.rows → g ≡ a.bucket → b ≡ a.recorded → Some (record { start = s; count = n; workers = w; rows = r; bucket = g; recorded = b }) ≡ Some a
all_same a s n w r g b e f h i j k = rw (e, f, h, i, j, k)

pub returns-in-Ok : goal.returns-in-Ok
returns-in-Ok c =
    let p = parse_is (app_of c.in_ok-parser.parser) _ c.args.words.now c.in-Ok.matches c.in_ok-parser.ensures (map-id c.args.words.now) c.requires (λ s. (c.in-Ok.ensures.matches s).0) c.in-Ok.ensures.kinds in
    all_same p.after c.get_one.result c.get_one-in-Ok.result c.get_one-in-Ok-2.result c.get_one-in-Ok-3.result c.get_one-in-Ok-4.result c.get_flag.result
    (gets start p.found p.after c.in-Ok.matches c.get_one.result (λ bs x. ParsesUnsigned 32 10 bs x × ExplainsUnsignedError 10 bs x × HasUnsignedDigitsIfOk bs x) (λ t x h. h.0) p.rows_are p.numbers c.get_one.ensures.none c.get_one.ensures.value)
    (gets count p.found p.after c.in-Ok.matches c.get_one-in-Ok.result (λ bs x. ParsesUnsigned 32 10 bs x × ExplainsUnsignedError 10 bs x × HasUnsignedDigitsIfOk bs x) (λ t x h. h.0) p.rows_are p.numbers c.get_one-in-Ok.ensures.none c.get_one-in-Ok.ensures.value)
    (gets workers p.found p.after c.in-Ok.matches c.get_one-in-Ok-2.result (λ bs x. ParsesUnsigned 32 10 bs x × ExplainsUnsignedError 10 bs x × HasUnsignedDigitsIfOk bs x) (λ t x h. h.0) p.rows_are p.numbers c.get_one-in-Ok-2.ensures.none c.get_one-in-Ok-2.ensures.value)
    (gets rows p.found p.after c.in-Ok.matches c.get_one-in-Ok-3.result (λ bs x. ParsesUnsigned 32 10 bs x × ExplainsUnsignedError 10 bs x × HasUnsignedDigitsIfOk bs x) (λ t x h. h.0) p.rows_are p.numbers c.get_one-in-Ok-3.ensures.none c.get_one-in-Ok-3.ensures.value)
    (gets bucket p.found p.after c.in-Ok.matches c.get_one-in-Ok-4.result (λ bs x. ParsesUnsigned 32 10 bs x × ExplainsUnsignedError 10 bs x × HasUnsignedDigitsIfOk bs x) (λ t x h. h.0) p.rows_are p.numbers c.get_one-in-Ok-4.ensures.none c.get_one-in-Ok-4.ensures.value)
    (gets_flag p.found p.after c.in-Ok.matches c.get_flag.result p.rows_are p.flag_is c.get_flag.ensures.value c.get_flag.ensures.other)
    ∙ sym p.reads_are

pub returns : goal.returns
returns c = refused_is (app_of c.in_ok-parser.parser) _ c.args.words.now c.in-Err.error c.in_ok-parser.ensures (map-id c.args.words.now) c.requires c.in-Err.ensures.kinds (λ e. c.in_default.not-OutOfMemory (c.kind.ensures ∙ e))
