use Rattle.kw_io.specs.declared.mem_sink.MemSink.{MemSink}
use Rattle.kw_io.specs.declared.mem_source.MemSource.{MemSource}
use Rattle.kw_map.specs.Kiwi.{IsIdle}
use Rattle.kiwid.specs.declared.links.MemListener.{MemListener}
use Rattle.kiwid.specs.declared.serving.Seat.{Seat}
use Rattle.kiwid.proofs.Runs.{all_of_map}
use Rattle.kiwid_tests.proofs.seats.serve_one.Goals as goal

pub serve-requires-clause-idle : goal.serve-requires-clause-idle
serve-requires-clause-idle g c κs within =
    all_of_map (λ (s : Seat (MemListener MemSource MemSink)). s.pass) (IsIdle c.in_ok-kiwi.kiwi) c.in_ok-seats.seats.items c.in_ok-kiwi.passes.items c.in_ok-seats.ensures.passes c.in_ok-kiwi.ensures.idle
