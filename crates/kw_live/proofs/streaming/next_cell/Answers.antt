use Rattle.std.proofs.Common.{refl, sym, ◌∙◌}
use Rattle.kw_live.proofs.CellStream.{stream_counts, stream_ends, stream_led, stream_ranged, stream_reads, stream_versioned}
use Rattle.kw_live.proofs.streaming.next_cell.Goals as goal

pub load_cell_link-link-requires : goal.load_cell_link-link-requires
load_cell_link-link-requires c =
    let here = c.requires.streams.1 in
    (here.activity, record c.args.local.now { gathered = c.requires.streams.0 }, here.loads, here.follows)

pub returns-in_default : goal.returns-in_default
returns-in_default c = λ cells streams. stream_ends c.requires.leads cells streams c.load_cell_link-link.ensures _ _ c.write.ensures (sym c.unpack_cell_link.ensures.value ∙ c.in_default.is) c.go_on.ensures

pub reach-there-requires : goal.reach-there-requires
reach-there-requires c = stream_counts c.requires.leads c.requires.streams.0 c.requires.streams.1 c.load_cell_link-link.ensures _ c.in-Some.cell refl (sym c.unpack_cell_link.ensures.value ∙ c.in-Some.is)

pub load_key-word-requires : goal.load_key-word-requires
load_key-word-requires c = (
  record c.args.local.now { gathered = c.requires.streams.0 },
  stream_led c.requires.leads c.requires.streams.0 c.requires.streams.1 c.load_cell_link-link.ensures c.reach-there.result c.in-Some.cell c.reach-there.ensures (sym c.unpack_cell_link.ensures.value ∙ c.in-Some.is),
)

pub load_version-version-requires : goal.load_version-version-requires
load_version-version-requires c = (
  record c.args.local.now { gathered = c.requires.streams.0 },
  stream_ranged c.requires.leads c.requires.streams.0 c.requires.streams.1 c.load_cell_link-link.ensures c.reach-there.result c.in-Some.cell c.reach-there.ensures (sym c.unpack_cell_link.ensures.value ∙ c.in-Some.is) c.with_key-ranged.result c.unpack_key-key.result c.unpack_key-key.ensures.value c.load_key-word.ensures c.with_key-ranged.ensures,
)

pub load_value-value-requires : goal.load_value-value-requires
load_value-value-requires c = (
  record c.args.local.now { gathered = c.requires.streams.0 },
  stream_versioned c.requires.leads c.requires.streams.0 c.requires.streams.1 c.load_cell_link-link.ensures c.reach-there.result c.in-Some.cell c.reach-there.ensures (sym c.unpack_cell_link.ensures.value ∙ c.in-Some.is) c.with_key-ranged.result c.unpack_key-key.result c.unpack_key-key.ensures.value c.load_key-word.ensures c.with_key-ranged.ensures _ refl c.load_version-version.ensures,
)

pub returns : goal.returns
returns c = λ cells streams. (
  refl,
  stream_reads c.requires.leads cells streams c.load_cell_link-link.ensures c.reach-there.result c.in-Some.cell c.reach-there.ensures (sym c.unpack_cell_link.ensures.value ∙ c.in-Some.is) c.with_key-ranged.result c.unpack_key-key.result c.unpack_key-key.ensures.value c.load_key-word.ensures c.with_key-ranged.ensures _ refl c.load_version-version.ensures c.past.result c.cell.result c.past.ensures c.cell.ensures c.load_value-value.ensures,
)
