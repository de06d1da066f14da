use Rattle.std.proofs.Common.{sym, option_map, refl}
use Rattle.mdr_copy.specs.Extents.{set_run}
use Rattle.mdr_copy.proofs.Rising.{rises_on, rises_no_more, rose}
use Rattle.mdr_user_code.proofs.shown.rise.Goals as goal

pub returns-then-not-follows_maybe : goal.returns-then-not-follows_maybe
returns-then-not-follows_maybe c =
    rises_no_more (option_map set_run c.loop-run.before) c.args.runs.now c.loop-run.run-index _ (record { serial = 0; first = 0; len = 0 }) (set_run c.extent_of_cells-extent.result) _ c.loop-run-test.true refl c.extent_of_cells-extent.ensures (sym c.if-not-follows_maybe.ensures) c.loop-run.invariant

pub loop-run-preserved : goal.loop-run-preserved
loop-run-preserved c =
    rises_on (option_map set_run c.loop-run.before) c.args.runs.now c.loop-run.run-index _ (record { serial = 0; first = 0; len = 0 }) (set_run c.extent_of_cells-extent.result) _ c.loop-run-test.true refl c.extent_of_cells-extent.ensures (sym c.if-not-follows_maybe.ensures) c.loop-run.invariant

pub returns : goal.returns
returns c = rose (option_map set_run c.loop-run.before) c.args.runs.now c.loop-run.run-index _ c.loop-run-test.false c.loop-run.invariant
