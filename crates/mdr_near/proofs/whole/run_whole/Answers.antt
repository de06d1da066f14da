-- What the run shows and leaves is what it ended in.
use Rattle.std.proofs.Common.{subst}
use Rattle.mdr_exchanges.proofs.Stops.{on_err, stops_last}
use Rattle.mdr_exchanges.specs.Runs.{IsFarFault}
use Rattle.mdr_near.proofs.Showing.{end_shown, leaves_as_before, leaves_layout, leaves_memory, sends_few, shown_by, shows_run}
use Rattle.mdr_near.proofs.whole.run_whole.Goals as goal
use Rattle.mdr_watch.specs.Watching.{driver_in}

pub returns-clause-run : goal.returns-clause-run
returns-clause-run g c =
    shows_run c.args.watch.program.now c.args.watch.plan.now c.args.script.now c.args.ticks (g.F.Far.exchanges c.run_script.new.far) c.in_ok-end.field-0.end c.in_ok-end.field-0.world.world c.in_ok-outcome.field-0.outcome c.in_ok-end.ensures.ended
    (shown_by c.in_ok-outcome.field-0.outcome c.args.watch.program.now c.in_ok-end.field-0.end c.in_ok-end.field-0.world c.in_ok-end.ensures.kept c.in_ok-outcome.ensures.outcome)

pub returns-clause-cells : goal.returns-clause-cells
returns-clause-cells g c =
    leaves_memory c.args.watch.program.now c.args.watch.plan.now c.args.script.now c.args.ticks (g.F.Far.exchanges c.run_script.new.far) c.in_ok-end.field-0.end c.in_ok-end.field-0.world.world c.in_ok-outcome.field-0.memory.items c.in_ok-end.ensures.ended c.in_ok-outcome.ensures.memory

pub returns-clause-layout : goal.returns-clause-layout
returns-clause-layout g c =
    leaves_layout c.args.watch.program.now c.args.watch.plan.now c.args.script.now c.args.ticks (g.F.Far.exchanges c.run_script.new.far) c.in_ok-end.field-0.end c.in_ok-end.field-0.world.world c.in_ok-outcome.field-0.layout c.in_ok-end.ensures.ended c.in_ok-outcome.ensures.layout

pub returns-clause-before : goal.returns-clause-before
returns-clause-before g c =
    leaves_as_before c.args.watch.program.now c.args.watch.plan.now c.args.script.now c.args.ticks (g.F.Far.exchanges c.run_script.new.far) c.in_ok-end.field-0.end c.in_ok-end.field-0.world.world c.in_ok-outcome.field-0.outcome c.in_ok-outcome.field-0.memory.items c.in_ok-end.ensures.ended
    (shown_by c.in_ok-outcome.field-0.outcome c.args.watch.program.now c.in_ok-end.field-0.end c.in_ok-end.field-0.world c.in_ok-end.ensures.kept c.in_ok-outcome.ensures.outcome)
    c.in_ok-outcome.ensures.memory

pub returns-clause-few : goal.returns-clause-few
returns-clause-few g c =
    sends_few c.args.watch.program.now c.args.watch.plan.now c.args.script.now c.args.ticks (g.F.Far.exchanges c.run_script.new.far) c.in_ok-end.field-0.end c.in_ok-end.field-0.world.world c.in_ok-outcome.field-0.outcome c.run_script.new.messages c.in_ok-end.ensures.ended
    (shown_by c.in_ok-outcome.field-0.outcome c.args.watch.program.now c.in_ok-end.field-0.end c.in_ok-end.field-0.world c.in_ok-end.ensures.kept c.in_ok-outcome.ensures.outcome)
    c.in_ok-end.ensures.counted

pub returns-clause-fault : goal.returns-clause-fault
returns-clause-fault g c = λ far.
    c.in_ok-end.ensures.failed (subst IsFarFault (end_shown c.in_ok-outcome.field-0.outcome c.args.watch.program.now c.in_ok-end.field-0.end c.in_ok-end.field-0.world.world
    (shown_by c.in_ok-outcome.field-0.outcome c.args.watch.program.now c.in_ok-end.field-0.end c.in_ok-end.field-0.world c.in_ok-end.ensures.kept c.in_ok-outcome.ensures.outcome)) far)

pub returns-in_err-outcome-clause-stopped : goal.returns-in_err-outcome-clause-stopped
returns-in_err-outcome-clause-stopped g c =
    on_err _ _ (stops_last (driver_in c.args.watch) c.args.script.now c.args.ticks (g.F.Far.calls c.args.far.now) (g.F.Far.calls c.run_script.new.far) (g.F.Far.exchanges c.run_script.new.far) c.run_script.new.memory.items c.run_script.new.messages
    c.in_ok-end.ensures.ended.ended.messages c.in_ok-end.ensures.called c.in_ok-end.ensures.counted c.in_ok-end.ensures.place)
