use Rattle.std.proofs.Common.{map}
use Rattle.mdr_core.specs.Typing.{slots_of}
use Rattle.mdr_access.specs.Told.{form_of}
use Rattle.mdr_access.proofs.FormBodies.{for_adds_forms}
use Rattle.mdr_access.proofs.forms.+codes.Goals as goal

pub add_code-returns-in_ok-add_codes-in-For-3 : goal.add_code-returns-in_ok-add_codes-in-For-3
add_code-returns-in_ok-add_codes-in-For-3 t c =
    for_adds_forms c.args.program.now (slots_of c.args.own.now) c.args.statement.now c.in-For.init c.in-For.test c.in-For.step c.in-For.body c.in-For.is _ _ _ c.as_slice-in-For.ensures c.as_slice-in-For-2.ensures c.as_slice-in-For-3.ensures
    (map form_of c.args.out.now.items) (map form_of c.add_codes-in-For.new.out.items) (map form_of c.add_option.new.out.items) (map form_of c.add_codes-in-For-2.new.out.items) (map form_of c.add_codes-in-For-3.new.out.items)
    c.in_ok-add_codes-in-For.ensures c.in_ok-add_option-in-For.ensures c.in_ok-add_codes-in-For-2.ensures c.in_ok-add_codes-in-For-3.ensures
