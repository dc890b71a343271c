use Rattle.std.proofs.Common.{◌≡◌, All, IsOk}
use Rattle.std.specs.List.{flat_map}
use Rattle.kw_beside.specs.Texts.{text_in}
use Rattle.kw_beside.proofs.beside.in_order.Given as goal

abbrev pub invariant-loop-part : goal.invariant-loop-part
invariant-loop-part l = record { made : All IsOk l.yielded; joined : l.all.items ≡ flat_map text_in l.yielded }
