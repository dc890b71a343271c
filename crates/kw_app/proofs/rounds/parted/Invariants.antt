use Rattle.std.proofs.Common.{◌≡◌, length, Ok, Vec}
use Rattle.std.specs.declared.alloc.Global.{Global}
use Rattle.kw_table.specs.declared.pass.Pass.{Pass}
use Rattle.kw_map.specs.Meetings.{AtEach}
use Rattle.kw_line.specs.declared.answer.Answer.{Answer}
use Rattle.kw_app.specs.declared.rounds.Done.{Done}
use Rattle.kw_app.proofs.rounds.parted.Given as goal

abbrev pub invariant-loop-done : goal.invariant-loop-done
invariant-loop-done l = record {
  passes_len : length l.passes.items ≡ length l.yielded;
  parts_len : length l.parts.items ≡ length l.yielded;
  passes : AtEach (λ (d : Done) (p : Pass). d.pass ≡ p) l.yielded l.passes.items;
  parts : AtEach (λ (d : Done) (v : Vec Answer Global). d.answers ≡ Ok v) l.yielded l.parts.items;
}
