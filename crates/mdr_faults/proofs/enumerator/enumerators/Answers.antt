use Rattle.std.proofs.Common.{ap, ◌≡◌}
use Rattle.std.proofs.Math.Path.{sym, ◌∙◌}
use Rattle.std.proofs.lemmas.List.{at_drop_all}
use Rattle.mdr_faults.specs.Faults.{extended}
use Rattle.mdr_faults.specs.Enums.{with_name, constant_means, behind_enumerator, behind_enumerators}
use Rattle.mdr_faults.proofs.Enumerating.{one_enumerator, one_behind_more}
use Rattle.mdr_faults.proofs.enumerator.enumerators.Goals as goal

pub loop-e-preserved : goal.loop-e-preserved
loop-e-preserved c =
    let e : c.declare.new.scope ≡ behind_enumerator c.loop-e.scope c.loop-e.before c.e-item.result = c.in_ok-declare.ensures ∙ ap (with_name c.loop-e.scope c.e-item.result.name) (c.constant_means.ensures ∙ ap constant_means c.value_behind-value.ensures) in (
      one_enumerator c.loop-e.scope c.declare.new.scope c.loop-e.before c.value_behind-value.result c.args.es.now c.loop-e.e-index c.e-item.result c.loop-e.all _ _ c.loop-e-test.true c.e-item.is e c.value_behind-value.ensures (c.in_ok-all.ensures ∙ ap (extended c.loop-e.all) (c.new_name-one.ensures _ c.value_behind-value.ensures)) c.loop-e.invariant.0,
      one_behind_more c.loop-e.scope c.declare.new.scope _ c.loop-e.before c.value_behind-value.result c.args.es.now c.loop-e.e-index c.e-item.result c.loop-e-test.true c.e-item.is e c.value_behind-value.ensures c.loop-e.invariant.1,
    )

pub returns-clause-grown : goal.returns-clause-grown
unfolding behind_enumerators
returns-clause-grown c = sym (at_drop_all (behind_enumerators c.loop-e.scope c.loop-e.before) c.args.es.now c.loop-e.e-index c.loop-e-test.false) ∙ c.loop-e.invariant.1
