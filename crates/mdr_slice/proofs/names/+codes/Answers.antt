use Rattle.mdr_slice.proofs.Bodies.{for_adds_names}
use Rattle.mdr_slice.proofs.names.+codes.Goals as goal

pub add_code-returns-in_ok-add_codes-in-For-3 : goal.add_code-returns-in_ok-add_codes-in-For-3
add_code-returns-in_ok-add_codes-in-For-3 t c =
    for_adds_names c.args.statement.now c.in-For.init c.in-For.test c.in-For.step c.in-For.body c.in-For.is _ _ _ c.as_slice-in-For.ensures c.as_slice-in-For-2.ensures c.as_slice-in-For-3.ensures
    c.args.out.now.items c.add_codes-in-For.new.out.items c.add_option.new.out.items c.add_codes-in-For-2.new.out.items c.add_codes-in-For-3.new.out.items
    c.in_ok-add_codes-in-For.ensures c.in_ok-add_option-in-For.ensures c.in_ok-add_codes-in-For-2.ensures c.in_ok-add_codes-in-For-3.ensures
