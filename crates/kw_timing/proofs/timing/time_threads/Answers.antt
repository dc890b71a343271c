use Rattle.kw_timing.proofs.timing.time_threads.Goals as goal

-- all passes of the map are idle
pub read_by_each-requires-after_bounds : goal.read_by_each-requires-after_bounds
read_by_each-requires-after_bounds g c κs within = c.in_ok-kiwi.ensures.idle
