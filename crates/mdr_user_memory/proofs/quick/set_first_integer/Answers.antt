use Rattle.std.proofs.Common.{List, ◌∙◌, sym, ap}
use Rattle.mdr_model.specs.declared.memory.Cell.{Cell}
use Rattle.mdr_model.specs.Sets.{is_in}
use Rattle.mdr_user_memory.proofs.QuickLaws.{stores_first_as}
use Rattle.mdr_user_memory.proofs.quick.set_first_integer.Goals as goal

pub returns-clause-done : goal.returns-clause-done
returns-clause-done c = λ done.
    stores_first_as c.args.memory.now c.put_first.new.memory c.args.serial c.args.integer
    (ap (λ (xs : List Cell). is_in xs (record { serial = c.args.serial; index = 0 })) (sym c.view.ensures) ∙ sym c.has.ensures ∙ c.if-not-has.false)
    (sym c.is_live.ensures ∙ c.if-not-is_live.false) c.put_first.ensures
