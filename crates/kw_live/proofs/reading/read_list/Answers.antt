use Rattle.std.proofs.Common.{◌∙◌, sym}
use Rattle.std.proofs.lemmas.List.Elements.{All-weaker}
use Rattle.kw_words.specs.Plain.{IsValue}
use Rattle.kw_cells.specs.declared.cell.Cell.{Cell}
use Rattle.kw_world.specs.Sane.{IsCopy}
use Rattle.kw_follow.proofs.OneEvent.{follows_ranges}
use Rattle.kw_live.proofs.AfterList.{neither_reads, remembered_reads}
use Rattle.kw_live.proofs.ReadEvent.{reads_trans}
use Rattle.kw_live.proofs.reading.read_list.Goals as goal

pub read_on-requires-clause-remembered : goal.read_on-requires-clause-remembered
read_on-requires-clause-remembered c = sym c.is_at_remembered.ensures ∙ c.loop-pass-test.true

pub loop-pass-smaller : goal.loop-pass-smaller
loop-pass-smaller c = c.read_on.ensures.reads.fewer

pub loop-pass-preserved : goal.loop-pass-preserved
loop-pass-preserved c = record {
  reads = reads_trans _ _ _ _ _ _ _ (remembered_reads _ (sym c.is_at_remembered.ensures ∙ c.loop-pass-test.true)) c.loop-pass.invariant.reads c.read_on.ensures.reads;
  over = c.read_on.ensures.over;
}

pub returns-clause-read : goal.returns-clause-read
returns-clause-read c = c.loop-pass.invariant.reads.ends (neither_reads _ c.loop-pass.invariant.over (sym c.is_at_remembered.ensures ∙ c.loop-pass-test.false))

pub returns-clause-cells : goal.returns-clause-cells
returns-clause-cells c = All-weaker IsCopy (λ (cell : Cell). IsValue cell.value) (λ cell copy. copy.2) c.loop-pass.local.gathered (follows_ranges _ _ _ c.loop-pass.invariant.reads.follows).copies
