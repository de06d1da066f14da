-- The run stands after each turn, and the exchanges so far lead to where it stands.
use Rattle.std.proofs.Common.{◌∙◌, sym, subst, arith}
use Rattle.mdr_exchanges.proofs.Stops.{on_err, stops_first}
use Rattle.mdr_near.proofs.Steps.{called_after, counted_after, next_stands, over_by_itself, over_ends, placed_after, placed_over, placed_same, stopped_standing, stopped_turning, unanswered_ends}
use Rattle.mdr_near.proofs.run.run_script.Goals as goal
use Rattle.mdr_near.specs.Turns.{KeptBy}
use Rattle.mdr_outside.specs.Far.{IsLoaded}
use Rattle.mdr_watch.specs.Watching.{driver_in}

pub returns-in_err-pending-clause-stopped : goal.returns-in_err-pending-clause-stopped
returns-in_err-pending-clause-stopped g c =
    on_err _ _ (stops_first (driver_in c.args.watch) c.args.script.now c.args.ticks (g.F.Far.calls c.args.far.now) (g.F.Far.exchanges c.args.far.now) c.args.memory.now.items c.args.messages.now c.requires.fresh c.requires.memory c.requires.messages)

pub returns-in-Err-clause-stopped : goal.returns-in-Err-clause-stopped
returns-in-Err-clause-stopped g c =
    stopped_standing (driver_in c.args.watch) c.args.script.now c.args.ticks (g.F.Far.calls c.args.far.now) (g.F.Far.calls c.loop-turns.far) (g.F.Far.exchanges c.loop-turns.far) c.loop-turns.pending c.hold.new.memory.items c.loop-turns.messages c.loop-turns.invariant.stands c.loop-turns.invariant.called c.loop-turns.invariant.counted
    (placed_same (driver_in c.args.watch) c.args.script.now c.args.ticks (g.F.Far.exchanges c.loop-turns.far) c.loop-turns.memory.items c.hold.new.memory.items c.in-Err.ensures.left c.loop-turns.invariant.place)

pub returns-in-Over-clause-ended : goal.returns-in-Over-clause-ended
returns-in-Over-clause-ended g c = over_ends (driver_in c.args.watch) c.args.script.now c.args.ticks (g.F.Far.exchanges c.loop-turns.far) c.loop-turns.pending c.in-Over.end c.in-Over.world c.in-Over.is c.loop-turns.invariant.stands

pub returns-in-Over-clause-place : goal.returns-in-Over-clause-place
returns-in-Over-clause-place g c =
    placed_over (driver_in c.args.watch) c.args.script.now c.args.ticks (g.F.Far.exchanges c.loop-turns.far) c.loop-turns.pending c.in-Over.end c.in-Over.world c.loop-turns.memory.items c.hold.new.memory.items c.in-Over.is c.in_default.ensures.held c.loop-turns.invariant.place

pub returns-in-Over-clause-failed : goal.returns-in-Over-clause-failed
returns-in-Over-clause-failed g c = λ far. absurd (over_by_itself (driver_in c.args.watch) c.args.script.now c.args.ticks (g.F.Far.exchanges c.loop-turns.far) c.loop-turns.pending c.in-Over.end c.in-Over.world c.in-Over.is c.loop-turns.invariant.stands far)

pub returns-in_err-next-in-Waits-clause-stopped : goal.returns-in_err-next-in-Waits-clause-stopped
returns-in_err-next-in-Waits-clause-stopped g c =
    on_err _ _ (stopped_turning (driver_in c.args.watch) c.args.script.now c.args.ticks c.args.watch (g.F.Far.calls c.args.far.now) (g.F.Far.calls c.loop-turns.far) (g.F.Far.calls c.turned.new.far) (g.F.Far.exchanges c.loop-turns.far) (g.F.Far.exchanges c.turned.new.far) c.loop-turns.pending c.in-Waits.message c.in-Waits.waiting c.loop-turns.memory.items c.hold.new.memory.items c.loop-turns.messages c.turned.new.messages
    c.in-Waits.is c.loop-turns.invariant.kept c.in_default.ensures.held c.loop-turns.invariant.stands c.loop-turns.invariant.called c.loop-turns.invariant.counted c.in_err-next-in-Waits.ensures.broke)

pub returns-in-Unanswered-clause-ended : goal.returns-in-Unanswered-clause-ended
returns-in-Unanswered-clause-ended g c =
    unanswered_ends (driver_in c.args.watch) c.args.script.now c.args.ticks (g.F.Far.exchanges c.loop-turns.far) (g.F.Far.exchanges c.turned.new.far) c.loop-turns.pending c.in-Waits.message c.in-Waits.waiting c.in_ok-next-in-Waits.field-0 c.in-Unanswered.number c.in-Unanswered.world c.in-Waits.is c.in-Unanswered.is c.in_ok-next-in-Waits.ensures.spelled c.in_ok-next-in-Waits.ensures.turned c.loop-turns.invariant.stands

pub returns-in-Unanswered-clause-counted : goal.returns-in-Unanswered-clause-counted
returns-in-Unanswered-clause-counted g c =
    counted_after (driver_in c.args.watch) c.args.script.now c.args.ticks (g.F.Far.exchanges c.loop-turns.far) (g.F.Far.exchanges c.turned.new.far) c.loop-turns.pending c.in-Waits.message c.in-Waits.waiting c.in_ok-next-in-Waits.field-0 c.loop-turns.messages c.turned.new.messages c.loop-turns.invariant.stands c.in_ok-next-in-Waits.ensures.turned c.loop-turns.invariant.counted c.in_ok-next-in-Waits.ensures.counted

pub returns-in-Unanswered-clause-place : goal.returns-in-Unanswered-clause-place
returns-in-Unanswered-clause-place g c =
    placed_after (driver_in c.args.watch) c.args.script.now c.args.ticks c.args.watch (g.F.Far.exchanges c.loop-turns.far) (g.F.Far.exchanges c.turned.new.far) c.loop-turns.pending c.in-Waits.message c.in-Waits.waiting c.in_ok-next-in-Waits.field-0 c.loop-turns.memory.items c.hold.new.memory.items c.in-Waits.is c.loop-turns.invariant.kept c.in_default.ensures.held c.loop-turns.invariant.stands c.in_ok-next-in-Waits.ensures.turned

pub loop-turns-preserved : goal.loop-turns-preserved
loop-turns-preserved g c = record {
  stands = next_stands (driver_in c.args.watch) c.args.script.now c.args.ticks (g.F.Far.exchanges c.loop-turns.far) (g.F.Far.exchanges c.turned.new.far) c.loop-turns.pending c.in-Waits.message c.in-Waits.waiting c.in_ok-next-in-Waits.field-0 c.in-Next.next c.in-Waits.is c.in-Next.is c.in_ok-next-in-Waits.ensures.spelled c.in_ok-next-in-Waits.ensures.turned c.loop-turns.invariant.stands;
  kept = subst (KeptBy c.args.watch) c.in-Next.is c.in_ok-next-in-Waits.ensures.kept;
  called = called_after (driver_in c.args.watch) c.args.script.now c.args.ticks (g.F.Far.calls c.args.far.now) (g.F.Far.calls c.loop-turns.far) (g.F.Far.calls c.turned.new.far) (g.F.Far.exchanges c.loop-turns.far) (g.F.Far.exchanges c.turned.new.far) c.in-Waits.message c.in-Waits.waiting c.in_ok-next-in-Waits.field-0 c.in_ok-next-in-Waits.ensures.turned c.loop-turns.invariant.called c.in_ok-next-in-Waits.ensures.called;
  counted = counted_after (driver_in c.args.watch) c.args.script.now c.args.ticks (g.F.Far.exchanges c.loop-turns.far) (g.F.Far.exchanges c.turned.new.far) c.loop-turns.pending c.in-Waits.message c.in-Waits.waiting c.in_ok-next-in-Waits.field-0 c.loop-turns.messages c.turned.new.messages c.loop-turns.invariant.stands c.in_ok-next-in-Waits.ensures.turned c.loop-turns.invariant.counted c.in_ok-next-in-Waits.ensures.counted;
  place = placed_after (driver_in c.args.watch) c.args.script.now c.args.ticks c.args.watch (g.F.Far.exchanges c.loop-turns.far) (g.F.Far.exchanges c.turned.new.far) c.loop-turns.pending c.in-Waits.message c.in-Waits.waiting c.in_ok-next-in-Waits.field-0 c.loop-turns.memory.items c.hold.new.memory.items c.in-Waits.is c.loop-turns.invariant.kept c.in_default.ensures.held c.loop-turns.invariant.stands c.in_ok-next-in-Waits.ensures.turned;
  loaded = subst IsLoaded (sym c.in_ok-next-in-Waits.ensures.loaded) c.loop-turns.invariant.loaded;
  same = c.in_ok-next-in-Waits.ensures.loaded ∙ c.loop-turns.invariant.same;
  later = omega (arith, c.loop-turns.invariant.later, c.in_ok-next-in-Waits.ensures.faults_later);
}

pub returns-clause-stopped : goal.returns-clause-stopped
returns-clause-stopped g c =
    stopped_standing (driver_in c.args.watch) c.args.script.now c.args.ticks (g.F.Far.calls c.args.far.now) (g.F.Far.calls c.loop-turns.far) (g.F.Far.exchanges c.loop-turns.far) c.loop-turns.pending c.loop-turns.memory.items c.loop-turns.messages c.loop-turns.invariant.stands c.loop-turns.invariant.called c.loop-turns.invariant.counted c.loop-turns.invariant.place
