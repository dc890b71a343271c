use Rattle.kw_live.proofs.AfterList.{remembered_at, remembered_over, remembered_reads}
use Rattle.kw_live.proofs.ReadEvent.{reads}
use Rattle.kw_live.proofs.reading.read_on.Goals as goal

pub go_remembered-requires-clause-remembered : goal.go_remembered-requires-clause-remembered
go_remembered-requires-clause-remembered c = remembered_at _ c.requires.remembered

pub returns-clause-reads : goal.returns-clause-reads
returns-clause-reads c =
    let read = reads _ _ _ _ _ _ c.requires.follows c.go_remembered.ensures.reads.goes c.go_remembered.ensures.follows c.go_remembered.ensures.reads.seat c.go_remembered.ensures.reads.saw (remembered_reads _ c.requires.remembered) in
    record {
      goes = c.go_remembered.ensures.reads.goes;
      follows = c.go_remembered.ensures.follows;
      calls = c.go_remembered.ensures.reads.calls;
      call = read.call;
      version = read.version;
      on = read.on;
      ends = read.ends;
      fewer = read.fewer;
    }

pub returns-clause-over : goal.returns-clause-over
returns-clause-over c = remembered_over _ _ _ _ _ _ c.requires.follows c.go_remembered.ensures.follows c.go_remembered.ensures.reads.seat c.requires.remembered
