use Rattle.std.proofs.Common.{◌∙◌, sym}
use Rattle.mdr_watch.proofs.Guards.{all_begin, all_end, all_more, all_out}
use Rattle.mdr_watch.proofs.kept_out.has_all.Goals as goal

pub loop-i-init : goal.loop-i-init
loop-i-init c = all_begin c.args.set.now c.args.serial c.args.first c.args.count

pub loop-i-preserved : goal.loop-i-preserved
loop-i-preserved c = all_more c.args.set.now c.args.serial c.args.first c.args.count c.loop-i.i c.loop-i-test.true (sym c.has.ensures ∙ c.if-not-has.false) c.loop-i.invariant

pub returns-then-not-has : goal.returns-then-not-has
returns-then-not-has c = all_out c.args.set.now c.args.serial c.args.first c.args.count c.loop-i.i c.loop-i-test.true (sym c.has.ensures ∙ c.if-not-has.true) c.loop-i.invariant

pub returns : goal.returns
returns c = all_end c.args.set.now c.args.serial c.args.first c.args.count c.loop-i.i c.loop-i-test.false c.loop-i.invariant
