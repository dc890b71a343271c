-- The places so far are in the map.
use Rattle.kw_judge.specs.Index.{IsIndexBelow}
use Rattle.kw_judge.proofs.index.Index.new.Given as goal

abbrev pub invariant-loop-place : goal.invariant-loop-place
invariant-loop-place l = IsIndexBelow l.names l.place l.places
