use Rattle.std.proofs.Common.{◌≡◌, ◌++◌, List, subst}
use Rattle.std.specs.Prelude.{OnOk}
use Rattle.mdr_model.specs.declared.memory.Cell.{Cell}
use Rattle.mdr_user_code.proofs.GrownLaws.{own_is}
use Rattle.mdr_user_code.proofs.grown.put_own.Goals as goal

pub returns : goal.returns
returns c =
    subst (λ (cells : List Cell). OnOk c.put_all_touched.result (c.put_all_touched.new.out ≡ c.args.out.now ++ cells))
    (own_is c.args.program.now c.args.block c.args.touched.now c.size_of-size.result c.size_of-size.ensures) c.put_all_touched.ensures
