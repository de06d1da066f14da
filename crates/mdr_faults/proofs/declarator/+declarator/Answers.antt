use Rattle.std.proofs.Common.{ap, subst}
use Rattle.std.specs.Prelude.{IfOk, ◌≡◌}
use Rattle.std.proofs.Math.Path.{◌∙◌}
use Rattle.mdr_faults.specs.Faults.{told, extended}
use Rattle.mdr_faults.proofs.Declarators.{one_parameter, whole_is}
use Rattle.mdr_faults.proofs.declarator.+declarator.Goals as goal

pub declarator_type-returns : goal.declarator_type-returns
declarator_type-returns t c = subst (λ w. IfOk c.perhaps_function.result (λ r. r ≡ told w)) (whole_is c.args.scope.now c.args.d.now) (c.perhaps_function.ensures _ c.in_ok-ty.ensures)

pub parameter_list-loop-i-preserved : goal.parameter_list-loop-i-preserved
parameter_list-loop-i-preserved t c = one_parameter c.args.scope.now c.args.params.now c.loop-i.i c.index-params-i.result c.loop-i.all _ _ c.loop-i-test.true c.index-params-i.is (c.in_ok-all.ensures ∙ ap (extended c.loop-i.all) (c.parameter_among-among.ensures c.args.scope.now c.in_ok-ty.ensures)) c.loop-i.invariant
