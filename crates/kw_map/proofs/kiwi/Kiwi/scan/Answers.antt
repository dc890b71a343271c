use Rattle.std.proofs.Common.{ℕ, List, Option, refl, subst}
use Rattle.kw_model.specs.declared.call.Call.{Call}
use Rattle.kw_model.specs.declared.call.Reply.TheVariants.{Pairs, Spent, Stopped}
use Rattle.kw_world.specs.declared.answer.Answer.TheVariants as answer
use Rattle.kw_follow.specs.Following.{held}
use Rattle.kw_follow.proofs.OwnEvents.{goes_trans}
use Rattle.kw_map.specs.Gather.{Takes}
use Rattle.kw_map.specs.Scanning.{StoppedAt}
use Rattle.kw_map.proofs.Ordering.{pass_ordered}
use Rattle.kw_map.proofs.ScanEnds.{entered_between, entered_spent}
use Rattle.kw_map.proofs.RowStages.{stopped_within}
use Rattle.kw_live.proofs.Gets.{leaves_with, whole}
use Rattle.kw_map.proofs.WholeCalls.{clock_later}
use Rattle.kw_map.proofs.kiwi.Kiwi.scan.Goals as goal

pub enter-requires-clause-table : goal.enter-requires-clause-table
enter-requires-clause-table g c = rw (c.self.view_is, c.pass.view_is) c.requires.idle.of_map

pub enter-requires-clause-idle : goal.enter-requires-clause-idle
enter-requires-clause-idle g c = rw c.pass.view_is c.requires.idle.idle

pub gather_rows-gathered-requires-clause-between : goal.gather_rows-gathered-requires-clause-between
gather_rows-gathered-requires-clause-between g c =
    entered_between g.G.Gather.last c.args.into.now c.self.inside.shared c.enter.new.pass c.enter.new.local c.args.from c.args.to c.enter.ensures.begins.follows c.enter.ensures.begins.asks c.enter.ensures.entered c.in_default.not-Leave c.requires.above

pub returns-in-Leave : goal.returns-in-Leave
returns-in-Leave g c =
    let is = entered_spent c.args.from c.args.to c.enter.new.local c.in-Leave.field-0 c.in-Leave.is c.enter.ensures.entered in
    let spent = c.enter.ensures.spent refl in
    rw (← c.self.view_is, ← c.pass.view_is) record {
      idle = record { of_map = c.leave.ensures.goes.of_table; idle = c.leave.ensures.idle };
      goes = goes_trans _ _ _ _ c.enter.ensures.begins.goes c.leave.ensures.goes;
      answers = record {
        reply = Spent;
        calls = whole c.enter.ensures.begins.opens refl (c.leave.ensures.closes answer.Spent (leaves_with answer.Spent c.enter.ensures.begins.follows is)).0;
        gave = (refl, refl);
        clock = spent.0;
        saw = clock_later spent.1 c.leave.ensures.goes;
        spent = (λ e. spent.2.0 is, λ e. refl);
      };
      ordered = pass_ordered c.leave.new.pass;
    }

pub returns-in-Ok : goal.returns-in-Ok
returns-in-Ok g c =
    let gathered = c.in-Ok.ensures in
    let spent = c.enter.ensures.spent refl in
    let pairs = held c.gather_rows-gathered.new.pass in
    rw (← c.self.view_is, ← c.pass.view_is) record {
      idle = record { of_map = c.leave-2.ensures.goes.of_table; idle = c.leave-2.ensures.idle };
      goes = goes_trans _ _ _ _ c.enter.ensures.begins.goes (goes_trans _ _ _ _ gathered.on.goes c.leave-2.ensures.goes);
      answers = record {
        reply = Pairs pairs;
        calls = whole c.enter.ensures.begins.opens gathered.on.calls (c.leave-2.ensures.closes answer.Pairs (leaves_with answer.Pairs gathered.on.follows gathered.gathers.leaves)).0;
        gave = (pairs, refl, gathered.gathers.all);
        clock = spent.0;
        saw = clock_later (clock_later spent.1 gathered.on.goes) c.leave-2.ensures.goes;
        spent = (λ e. absurd (cc e), λ e. absurd (c.in_default.not-Leave answer.Spent (spent.2.1 e)));
      };
      ordered = pass_ordered c.leave-2.new.pass;
    }

pub returns-in-Err : goal.returns-in-Err
returns-in-Err g c =
    let gathered = c.in-Err.ensures in
    let spent = c.enter.ensures.spent refl in
    let took = λ (pairs : List (ℕ × ℕ)). Takes g.G.Gather.last g.G.Gather.stands c.args.into.now pairs c.gather_rows-gathered.new.into in
    let stopped = subst (λ (x : Option Call). StoppedAt took c.enter.new.pass c.gather_rows-gathered.new.pass x) c.enter.ensures.begins.asks gathered.gathers.prefix in
    rw (← c.self.view_is, ← c.pass.view_is) record {
      idle = record { of_map = c.leave-2.ensures.goes.of_table; idle = c.leave-2.ensures.idle };
      goes = goes_trans _ _ _ _ c.enter.ensures.begins.goes (goes_trans _ _ _ _ gathered.on.goes c.leave-2.ensures.goes);
      answers = record {
        reply = Stopped;
        calls = whole c.enter.ensures.begins.opens gathered.on.calls (c.leave-2.ensures.closes answer.Stopped (leaves_with answer.Stopped gathered.on.follows gathered.gathers.leaves)).0;
        gave = (refl, gathered.gathers.stopped, stopped_within took _ _ _ _ _ _ c.enter.ensures.begins.goes c.leave-2.ensures.goes stopped);
        clock = spent.0;
        saw = clock_later (clock_later spent.1 gathered.on.goes) c.leave-2.ensures.goes;
        spent = (λ e. absurd (cc e), λ e. absurd (c.in_default.not-Leave answer.Spent (spent.2.1 e)));
      };
      ordered = pass_ordered c.leave-2.new.pass;
    }
