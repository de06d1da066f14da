use Rattle.std.proofs.Common.{map}
use Rattle.mdr_core.specs.Folds.{call_of}
use Rattle.mdr_slice.proofs.Bodies.{for_adds_calls}
use Rattle.mdr_slice.proofs.calls.+calls.Goals as goal

pub add_calls-returns-in_ok-add_all_calls-in-For-3 : goal.add_calls-returns-in_ok-add_all_calls-in-For-3
add_calls-returns-in_ok-add_all_calls-in-For-3 t c =
    for_adds_calls c.args.statement.now c.in-For.init c.in-For.field-1 c.in-For.step c.in-For.body c.in-For.is _ _ _ c.as_slice-in-For.ensures c.as_slice-in-For-2.ensures c.as_slice-in-For-3.ensures
    (map (λ r. call_of r.now) c.args.out.now.items) (map (λ r. call_of r.now) c.add_all_calls-in-For.new.out.items) (map (λ r. call_of r.now) c.add_all_calls-in-For-2.new.out.items) (map (λ r. call_of r.now) c.add_all_calls-in-For-3.new.out.items)
    c.in_ok-add_all_calls-in-For.ensures c.in_ok-add_all_calls-in-For-2.ensures c.in_ok-add_all_calls-in-For-3.ensures
