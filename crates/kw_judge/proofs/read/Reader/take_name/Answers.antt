use Rattle.std.proofs.Common.{◌+◌, subst, Some, nat_cmp, arith, inl, inr}
use Rattle.std.specs.BTreeMap.{Updates}
use Rattle.kw_judge.specs.Reader.{names_taken}
use Rattle.kw_judge.proofs.Readings.{length-names, indexed_more, found_name, no_such_name, taken_names}
use Rattle.kw_judge.proofs.read.Reader.take_name.Goals as goal
use Rattle.kw_judge.proofs.read.Reader.take_name.Goals.{then-place-ge-MOST_CALLS-via-then-place-ge-MOST_CALLS, then-place-ge-MOST_CALLS-via-else-place-ge-MOST_CALLS+then-contains_key}

pub returns-then-place-ge-MOST_CALLS-clause-taken : goal.returns-then-place-ge-MOST_CALLS-clause-taken
returns-then-place-ge-MOST_CALLS-clause-taken c =
    let count = length-names c.args.self.now in
    elim c.then-place-ge-MOST_CALLS.branch [
      | then-place-ge-MOST_CALLS-via-then-place-ge-MOST_CALLS w ↦ inr (omega (arith, count, w.if-place-ge-MOST_CALLS.true, c.args.self.now.done.ok.0, c.args.self.now.open_calls.ok.0))
      | then-place-ge-MOST_CALLS-via-else-place-ge-MOST_CALLS+then-contains_key w ↦ inl (found_name (names_taken c.args.self.now) c.args.self.now.places c.args.name c.key_of-key.result w.contains_key.result c.requires.fits c.requires.reading.index c.key_of-key.ensures w.contains_key.ensures w.if-contains_key.true)
    ]

pub returns-clause-taken : goal.returns-clause-taken
returns-clause-taken c =
    let count = length-names c.args.self.now in (
      indexed_more (names_taken c.args.self.now) (c.len.result + c.len-2.result) c.args.self.now.places c.insert.new.self c.args.name (taken_names c.args.self.now c.requires.reading) c.requires.fits (omega (arith, count, c.args.self.now.done.ok.0, c.args.self.now.open_calls.ok.0)) c.requires.reading.index
          (subst (λ q. Updates nat_cmp c.args.self.now.places c.insert.new.self q (Some (c.len.result + c.len-2.result))) c.key_of-key.ensures (c.in_ok-insert.ensures {u = tt}).updates),
      omega (arith, count, c.if-place-ge-MOST_CALLS.false, c.args.self.now.done.ok.0, c.args.self.now.open_calls.ok.0),
      no_such_name (names_taken c.args.self.now) c.args.self.now.places c.args.name c.key_of-key.result c.contains_key.result c.requires.reading.index c.key_of-key.ensures c.contains_key.ensures c.if-contains_key.false,
    )
