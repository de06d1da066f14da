use Rattle.std.proofs.Common.{refl}
use Rattle.mdr_exec.proofs.ParamLaws.{numbers_end, numbers_go}
use Rattle.mdr_exec.proofs.params.numbers_of.Goals as goal

pub loop-i-preserved : goal.loop-i-preserved
loop-i-preserved c =
    numbers_go c.args.params.now c.loop-i.i c.loop-i.i c.index-params-i.result _ c.loop-i.numbers c.add_number.new.numbers c.loop-i-test.true c.index-params-i.is refl c.in_ok-add_number.ensures c.loop-i.invariant

pub returns : goal.returns
returns c = numbers_end c.args.params.now c.loop-i.i c.loop-i.numbers c.loop-i-test.false c.loop-i.invariant
