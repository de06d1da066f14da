use Rattle.std.proofs.Common.{◌∙◌, ap}
use Rattle.mdr_model.specs.Memory.{normal, put}
use Rattle.mdr_user_memory.specs.Copied.{copied}
use Rattle.mdr_user_memory.proofs.LoopLaws.{normal_int}
use Rattle.mdr_user_memory.proofs.quick.put_first.Goals as goal

pub returns : goal.returns
returns c =
    let m = c.args.memory.now in
    c.put.ensures
    ∙ (ap (λ v. copied m.past m.agreed m.view (put m.memory (record { serial = c.args.serial; index = 0 }) (normal m.memory v))) c.value_of.ensures
    ∙ ap (λ v. copied m.past m.agreed m.view (put m.memory (record { serial = c.args.serial; index = 0 }) v)) (normal_int m.memory c.args.integer.kind c.args.integer.number))
