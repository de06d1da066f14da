use Rattle.mdr_program.proofs.Allocating.{for_allocates}
use Rattle.mdr_program.proofs.occurring.+allocated.Goals as goal

pub add_allocated-returns-in_ok-add_all_allocated-in-For-3 : goal.add_allocated-returns-in_ok-add_all_allocated-in-For-3
add_allocated-returns-in_ok-add_all_allocated-in-For-3 t c =
    for_allocates c.args.statement.now c.in-For.init c.in-For.field-1 c.in-For.step c.in-For.body c.in-For.is _ _ _ c.as_slice-in-For.ensures c.as_slice-in-For-2.ensures c.as_slice-in-For-3.ensures
    c.args.all.now c.add_all_allocated-in-For.new.all c.add_all_allocated-in-For-2.new.all c.add_all_allocated-in-For-3.new.all
    c.in_ok-add_all_allocated-in-For.ensures c.in_ok-add_all_allocated-in-For-2.ensures c.in_ok-add_all_allocated-in-For-3.ensures
