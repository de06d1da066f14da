use Rattle.mdr_user_code.proofs.KeyLaws.{touched_is}
use Rattle.mdr_user_code.proofs.keys.is_touched.Goals as goal

pub returns : goal.returns
returns c = touched_is c.args.program.now c.args.touched.now c.args.block c.args.index c.element_key.result c.touched_so.result c.touched_so.ensures c.element_key.ensures
