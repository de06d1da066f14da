use Rattle.std.proofs.Common.{sym}
use Rattle.std.specs.List.{list_all}
use Rattle.mdr_copy.proofs.Rows.{row_next, row_not, row_over}
use Rattle.mdr_model.specs.Sets.{cells_from, is_in}
use Rattle.mdr_user_memory.proofs.bytes.lie_in.Goals as goal

pub returns-then-not-has : goal.returns-then-not-has
returns-then-not-has c =
    row_not (is_in c.args.view.now) c.args.serial c.args.first c.loop-i.i c.args.count (list_all (is_in c.args.view.now) (cells_from c.args.serial c.args.first c.args.count)) c.loop-i-test.true (sym c.if-not-has.ensures) c.loop-i.invariant

pub loop-i-preserved : goal.loop-i-preserved
loop-i-preserved c =
    row_next (is_in c.args.view.now) c.args.serial c.args.first c.loop-i.i c.args.count (list_all (is_in c.args.view.now) (cells_from c.args.serial c.args.first c.args.count)) c.loop-i-test.true (sym c.if-not-has.ensures) c.loop-i.invariant

pub returns : goal.returns
returns c = row_over (is_in c.args.view.now) c.args.serial c.args.first c.loop-i.i c.args.count (list_all (is_in c.args.view.now) (cells_from c.args.serial c.args.first c.args.count)) c.loop-i-test.false c.loop-i.invariant
