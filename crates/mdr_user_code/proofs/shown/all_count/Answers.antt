use Rattle.std.proofs.Common.{◌+◌, sym, ◌∙◌, ap}
use Rattle.std.specs.List.{list_all}
use Rattle.mdr_copy.proofs.Rows.{row_next, row_not, row_over}
use Rattle.mdr_extents.specs.Reaching.{counts, counts_in}
use Rattle.mdr_model.specs.Sets.{cells_of_run}
use Rattle.mdr_user_code.proofs.shown.all_count.Goals as goal

pub returns-then-not-counts_in : goal.returns-then-not-counts_in
returns-then-not-counts_in c =
    row_not (counts c.args.program.now c.args.touched.now c.args.copy.now) c.args.run.serial c.args.run.first c.loop-i.i c.args.run.len (list_all (counts c.args.program.now c.args.touched.now c.args.copy.now) (cells_of_run c.args.run)) c.loop-i-test.true
    (ap (λ o. counts_in c.args.program.now c.args.touched.now c.args.copy.now (c.args.run.first + c.loop-i.i) o) (sym c.born_at-block.ensures) ∙ sym (c.if-not-counts_in.ensures c.args.copy.now)) c.loop-i.invariant

pub loop-i-preserved : goal.loop-i-preserved
loop-i-preserved c =
    row_next (counts c.args.program.now c.args.touched.now c.args.copy.now) c.args.run.serial c.args.run.first c.loop-i.i c.args.run.len (list_all (counts c.args.program.now c.args.touched.now c.args.copy.now) (cells_of_run c.args.run)) c.loop-i-test.true
    (ap (λ o. counts_in c.args.program.now c.args.touched.now c.args.copy.now (c.args.run.first + c.loop-i.i) o) (sym c.born_at-block.ensures) ∙ sym (c.if-not-counts_in.ensures c.args.copy.now)) c.loop-i.invariant

pub returns : goal.returns
returns c = row_over (counts c.args.program.now c.args.touched.now c.args.copy.now) c.args.run.serial c.args.run.first c.loop-i.i c.args.run.len (list_all (counts c.args.program.now c.args.touched.now c.args.copy.now) (cells_of_run c.args.run)) c.loop-i-test.false c.loop-i.invariant
