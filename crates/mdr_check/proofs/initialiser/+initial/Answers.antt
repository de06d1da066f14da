use Rattle.std.proofs.Common.{ap, subst, map}
use Rattle.std.specs.Prelude.{IfOk, ◌≡◌}
use Rattle.std.proofs.Math.Path.{◌∙◌}
use Rattle.mdr_faults.specs.Faults.{told, followed, extended}
use Rattle.mdr_check.specs.Initialisers.{elements_first, part}
use Rattle.mdr_check.proofs.Initialising.{one_element, one_part, array_is, struct_is}
use Rattle.mdr_check.proofs.initialiser.+initial.Goals as goal

pub array_first-returns : goal.array_first-returns
array_first-returns t c = subst (λ w. IfOk c.array_rule.result (λ r. r ≡ told w)) (array_is c.args.scope.now c.args.own c.args.place c.args.o.now c.args.elems.now) (c.array_rule.ensures _ (c.in_ok-firsts.ensures ∙ ap (λ o. told (elements_first o (map (part c.args.scope.now c.args.own c.args.place) c.args.elems.now))) c.in_ok-element.ensures))

pub elements_first-loop-e-preserved : goal.elements_first-loop-e-preserved
elements_first-loop-e-preserved t c = one_element c.args.scope.now c.args.own c.args.place c.args.o.now c.args.elems.now c.loop-e.e-index c.e-item.result c.loop-e.all _ _ c.loop-e-test.true c.e-item.is (c.in_ok-all.ensures ∙ ap (followed c.loop-e.all) c.in_ok-first.ensures) c.loop-e.invariant

pub placed_parts-loop-i-preserved : goal.placed_parts-loop-i-preserved
placed_parts-loop-i-preserved t c = one_part c.args.scope.now c.args.own c.args.place c.args.members.now c.args.elems.now c.loop-i.i c.index-elems-i.result c.loop-i.all _ _ c.loop-i-test.true c.index-elems-i.is (c.in_ok-all.ensures ∙ ap (extended c.loop-i.all) c.in_ok-one.ensures) c.loop-i.invariant

pub struct_first-returns : goal.struct_first-returns
struct_first-returns t c = subst (λ w. IfOk c.struct_rule.result (λ r. r ≡ told w)) (struct_is c.args.scope.now c.args.own c.args.place c.args.members.now c.args.elems.now) (c.struct_rule.ensures _ c.in_ok-parts.ensures)
