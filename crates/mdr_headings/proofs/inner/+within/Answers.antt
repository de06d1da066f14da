use Rattle.std.proofs.Common.{ap, map, subst}
use Rattle.std.specs.Prelude.{IfOk, ◌≡◌, []}
use Rattle.std.proofs.Math.Path.{◌∙◌}
use Rattle.mdr_faults.specs.Faults.{told, extended}
use Rattle.mdr_headings.proofs.Inners.{among_is, one_inner, siblings_are, within_is}
use Rattle.mdr_headings.specs.Within.{beside, inner, inner_list, own_annotation, within}
use Rattle.mdr_headings.proofs.inner.+within.Goals as goal

pub within-returns : goal.within-returns
within-returns t c = subst (λ w. IfOk c.inner_by.result (λ r. r ≡ told w)) (within_is c.args.scope.now c.args.around.now c.args.d.now) c.inner_by.ensures

pub inner_list-returns : goal.inner_list-returns
inner_list-returns t c = subst (λ cs. IfOk c.inner_annotations.result (λ r. r ≡ told (inner_list c.args.scope.now c.args.around.now cs [] (map (inner c.args.scope.now) c.args.ds.now)))) (c.as_slice.ensures ∙ c.in_ok-siblings.ensures ∙ siblings_are c.args.scope.now c.args.around.now c.args.ds.now) c.inner_annotations.ensures

pub inner_annotations-loop-i-preserved : goal.inner_annotations-loop-i-preserved
inner_annotations-loop-i-preserved t c = one_inner c.args.scope.now c.args.around.now c.args.siblings.now c.args.ds.now c.loop-i.i c.index-ds-i.result c.loop-i.all _ _ c.loop-i-test.true c.index-ds-i.is (c.in_ok-all.ensures ∙ ap (extended c.loop-i.all) c.in_ok-one.ensures) c.loop-i.invariant

pub inner_among-returns : goal.inner_among-returns
inner_among-returns t c =
    c.beside.ensures _ _ c.in_ok-dropped.ensures c.in_ok-kept.ensures
    ∙ ap (λ cs. told (beside (within c.args.scope.now cs c.args.d.now) (own_annotation c.args.scope.now c.args.siblings.now c.args.before.now c.args.d.now))) (c.as_slice.ensures ∙ c.in_ok-names.ensures)
    ∙ ap told (among_is c.args.scope.now c.args.around.now c.args.siblings.now c.args.before.now c.args.d.now)
