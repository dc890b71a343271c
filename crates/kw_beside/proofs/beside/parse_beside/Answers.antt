use Rattle.std.proofs.Common.{arith, rules}
use Rattle.kw_beside.proofs.Readers.{are_read_of, few_read}
use Rattle.kw_beside.proofs.beside.parse_beside.Goals as goal

pub together-requires : goal.together-requires
together-requires g c =
    let bytes = c.args.bytes.now in
    let pieces = c.in-Ok.pieces in
    let parts = c.in_ok-parts.parts in
    (bytes, are_read_of _ _ bytes pieces.items parts.items c.in-Ok.ensures.lines (omega (arith, c.in_ok-parts.ensures.len)) c.in_ok-parts.ensures.each (λ piece part post. search rules), omega arith)

pub returns : goal.returns
returns g c =
    let bytes = c.args.bytes.now in
    let pieces = c.in-Ok.pieces in
    let parts = c.in_ok-parts.parts in
    let read = are_read_of _ _ bytes pieces.items parts.items c.in-Ok.ensures.lines (omega (arith, c.in_ok-parts.ensures.len)) c.in_ok-parts.ensures.each (λ piece part post. search rules) in
    let items = c.together.ensures.items bytes read in
    record { items = items; few = few_read bytes c.together.result items; bad = c.together.ensures.bad bytes read }
