use Rattle.std.proofs.Common.{sym}
use Rattle.std.specs.Prelude.{option_map}
use Rattle.mdr_copy.specs.Extents.{set_run}
use Rattle.mdr_fits.specs.Judged.{places_of}
use Rattle.mdr_fits.proofs.FirstFaults.{ends_here, goes_on_behind, none_is_left}
use Rattle.mdr_fits.proofs.faults.runs_fault.Goals as goal

pub returns-then-is_some : goal.returns-then-is_some
returns-then-is_some c =
    ends_here (places_of c.args.places) c.args.view.now (option_map set_run c.loop-number.before) c.args.runs.now c.loop-number.number c.index-runs-number.result c.run_fault-found.result _ c.loop-number-test.true c.index-runs-number.is c.run_fault-found.ensures (sym c.if-is_some.ensures) c.loop-number.invariant

pub loop-number-preserved : goal.loop-number-preserved
loop-number-preserved c =
    goes_on_behind (places_of c.args.places) c.args.view.now (option_map set_run c.loop-number.before) c.args.runs.now c.loop-number.number c.index-runs-number.result (set_run c.extent_of.result) c.run_fault-found.result _ c.loop-number-test.true c.index-runs-number.is c.run_fault-found.ensures (sym c.if-is_some.ensures) c.extent_of.ensures c.loop-number.invariant

pub returns : goal.returns
returns c = none_is_left (places_of c.args.places) c.args.view.now (option_map set_run c.loop-number.before) c.args.runs.now c.loop-number.number _ c.loop-number-test.false c.loop-number.invariant
