-- The run is that of the driver that the half holds.
use Rattle.std.proofs.Common.{ap, ◌∙◌, subst}
use Rattle.mdr_exchanges.proofs.Meant.{honest_runs_are_meant}
use Rattle.mdr_exchanges.proofs.Stops.{on_err}
use Rattle.mdr_exchanges.specs.Calls.{IsStopped}
use Rattle.mdr_exchanges.specs.Ends.{AreFew, IsAsBefore}
use Rattle.mdr_exchanges.specs.Meanings.{MeansOneMemory}
use Rattle.mdr_exchanges.specs.Runs.{IsRun}
use Rattle.mdr_near.proofs.half.KernelHalf.run.Goals as goal
use Rattle.mdr_near.specs.HalfState.{HalfState, driver_held}

pub run_whole-requires-clause-memory : goal.run_whole-requires-clause-memory
run_whole-requires-clause-memory g c = c.self.invariant.first (ap (λ (h : HalfState). h.is_fresh) c.self.view_is ∙ c.requires.half)

pub run_whole-requires-clause-messages : goal.run_whole-requires-clause-messages
run_whole-requires-clause-messages g c = c.self.invariant.none (ap (λ (h : HalfState). h.is_fresh) c.self.view_is ∙ c.requires.half)

pub returns-clause-run : goal.returns-clause-run
returns-clause-run g c =
    subst (λ (h : HalfState). IsRun (driver_held h) c.args.script.now c.args.ticks (g.F.Far.exchanges c.run_whole.new.far) c.in_ok-outcome.field-0.outcome) c.self.view_is c.in_ok-outcome.ensures.run

pub returns-clause-before : goal.returns-clause-before
returns-clause-before g c =
    subst (λ (h : HalfState). IsAsBefore (driver_held h) c.args.script.now c.args.ticks (g.F.Far.exchanges c.run_whole.new.far) c.run_whole.new.memory.items c.in_ok-outcome.field-0.outcome.end) c.self.view_is c.in_ok-outcome.ensures.before

pub returns-clause-few : goal.returns-clause-few
returns-clause-few g c =
    subst (λ (h : HalfState). AreFew (driver_held h) c.args.script.now c.args.ticks (g.F.Far.exchanges c.run_whole.new.far) c.run_whole.new.messages c.in_ok-outcome.field-0.outcome.ticks) c.self.view_is c.in_ok-outcome.ensures.few

pub returns-in_err-outcome-clause-stopped : goal.returns-in_err-outcome-clause-stopped
returns-in_err-outcome-clause-stopped g c =
    on_err _ _ (subst (λ (h : HalfState). IsStopped (driver_held h) c.args.script.now c.args.ticks (g.F.Far.calls c.args.far.now) (g.F.Far.calls c.run_whole.new.far) (g.F.Far.exchanges c.run_whole.new.far) c.run_whole.new.memory.items c.run_whole.new.messages) c.self.view_is
    c.in_err-outcome.ensures.stopped)

pub returns-clause-meant : goal.returns-clause-meant
returns-clause-meant g c =
    subst (λ (h : HalfState). MeansOneMemory h.program h.plan c.args.script.now c.args.ticks (g.F.Far.exchanges c.run_whole.new.far) c.in_ok-outcome.field-0.outcome) c.self.view_is
    (honest_runs_are_meant _ _ c.args.script.now c.args.ticks (g.F.Far.exchanges c.run_whole.new.far) c.in_ok-outcome.field-0.outcome c.self.invariant.sound c.in_ok-outcome.ensures.run)
