-- What a seat knows when it begins, and what it forgets on its way.
use Rattle.std.specs.Prelude.{ℕ, false, None, []}
use Rattle.kw_world.specs.declared.local.Local.{Local}
use Rattle.kw_words.specs.declared.pend.Pend.TheVariants as pend
use Rattle.kw_world.specs.declared.activity.Activity.TheVariants as Activity
use Rattle.kw_world.specs.declared.rebalance.Rebalancing.{Rebalancing}
use Rattle.kw_world.specs.declared.rebalance.Afterwards.TheVariants.{TryAgain}

-- nothing of a rebalance
abbrev pub no_rebalance : Rebalancing
no_rebalance = record {
  after = None;
  second = None;
  hand = 0;
  ahead = None;
  entry = pend.Idle;
  marks = [];
  waiting = 1;
  drawn = 1;
  needed = [];
  gathered = [];
  kept = [];
  starts = [];
  taken = [];
  at = 0;
  sought = 0;
  asked = 0;
  before = None;
  least = 0;
  number = 1;
  afterwards = TryAgain;
}

-- an idle seat that has begun this many calls, and pins nothing
abbrev pub resting : ℕ → Local
resting number = record {
  activity = Activity.Idle;
  call = None;
  number = number;
  pin = None;
  epoch = 1;
  want = 0;
  row = 0;
  lower = 0;
  built = 0;
  candidate = 0;
  next = None;
  upper = 0;
  waiting = 1;
  drawn = 1;
  version = 1;
  has_read = false;
  pairs = [];
  looked = 0;
  saw = 0;
  helping = 1;
  remembered = [];
  place = 0;
  place_version = 1;
  place_key = 0;
  gathered = [];
  cell = 0;
  link = None;
  held = None;
  walked = 0;
  lost = 0;
  tidies = false;
  rebalance = no_rebalance;
}

-- what a seat knows between calls: how many it has begun, and its pin
abbrev pub at_rest : Local → Local
at_rest l = record (resting l.number) { pin = l.pin }

-- no row is known any more
abbrev pub without_rows : Local → Local
without_rows l = record l { row = 0; lower = 0; built = 0; candidate = 0; next = None; upper = 0 }

-- nothing of a row is remembered or gathered, and no cell of its list is reached
abbrev pub before_row : Local → Local
before_row l = record l { remembered = []; gathered = []; link = None; walked = 0 }

-- nothing of the rebalance is known any more
abbrev pub without_rebalance : Local → Local
without_rebalance l = record l { rebalance = no_rebalance }
