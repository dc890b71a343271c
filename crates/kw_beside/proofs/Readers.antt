-- What the readers of some pieces give, one after the other.
use Rattle.std.proofs.Common.{◌≡◌, ℕ, suc, ◌<◌, ◌≤◌, List, [], ◌∷◌, length, map, get_or, vec_len, IfOk, Result, Ok, Err, Vec, sym, ap, ◌∙◌, subst, arith}
use Rattle.std.specs.Borrow.{Bor}
use Rattle.std.specs.List.{flat_map}
use Rattle.std.specs.declared.alloc.Global.{Global}
use Rattle.std.specs.Fork.{GivesJobs}
use Rattle.std.proofs.lemmas.List.{length-map}
use Rattle.std.proofs.lemmas.List.Folds.{flat_map-map}
use denote.Param.Members.{Shared}
use Rattle.kw_line.specs.declared.item.Item.{Item}
use Rattle.kw_line.specs.declared.error.LineError.{LineError}
use Rattle.kw_line.specs.Cut.{lines}
use Rattle.kw_line.specs.Line.{AreLinesOf}
use Rattle.kw_line.proofs.Parts.{length-lines-le}
use Rattle.kw_beside.specs.Pieces.{IsRead, AreRead, AreReadOf}

-- what is read at each place is read of the pieces as they stand in their list
are_read : (pieces : List (Bor (List ℕ))) (parts : List (Result (Vec Item Global) LineError)) → length parts ≡ length pieces → ((i : ℕ) (d : Bor (List ℕ)) (e : Result (Vec Item Global) LineError) → i < length pieces → IsRead (get_or pieces i d).now (get_or parts i e)) → AreRead (map (λ piece. piece.now) pieces) parts
are_read [] [] len each = tt
are_read [] (part ∷ parts) len each = absurd (omega arith)
are_read (piece ∷ pieces) [] len each = absurd (omega arith)
are_read (piece ∷ pieces) (part ∷ parts) len each = (each 0 piece part (omega arith), are_read pieces parts (omega arith) (λ i d e lt. each (suc i) d e (omega arith)))

-- what calls that read the pieces into which bytes are cut give, one call for each, is read of the
-- bytes
pub are_read_of : {F : Type 0} (g : Shared F (Bor (List ℕ) × Unit {0}) (Result (Vec Item Global) LineError)) (f : F) (bytes : List ℕ) (pieces : List (Bor (List ℕ))) (parts : List (Result (Vec Item Global) LineError))
    → lines bytes ≡ flat_map (λ piece. lines piece.now) pieces → length parts ≡ length pieces → GivesJobs g f pieces parts → ((piece : Bor (List ℕ)) (part : Result (Vec Item Global) LineError) → g.post f (piece, tt) part → IsRead piece.now part) → AreReadOf bytes parts
are_read_of g f bytes pieces parts cut len gives reads = record {
  pieces = map (λ (piece : Bor (List ℕ)). piece.now) pieces;
  cut = cut ∙ sym (flat_map-map lines (λ (piece : Bor (List ℕ)). piece.now) pieces);
  each = are_read pieces parts len (λ i d e lt.
      let job = (gives i e lt).1 in
      subst (λ (piece : Bor (List ℕ)). IsRead piece.now (get_or parts i e)) (sym (job.job_is d)) (reads job.job (get_or parts i e) job.call.met));
}

-- the items of all lines are no more than the bytes
pub few_read : (bytes : List ℕ) (result : Result (Vec Item Global) LineError) → IfOk result (λ items. AreLinesOf bytes items.items) → IfOk result (λ items. vec_len items ≤ length bytes)
few_read bytes (Ok items) read = omega (arith, length-lines-le bytes, simp length-map at (ap length read.texts))
few_read bytes (Err error) read = read
