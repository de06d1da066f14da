use Rattle.std.proofs.Common.{map, subst, ap, ◌∙◌}
use Rattle.mdr_core.specs.declared.program.Func.{Func}
use Rattle.mdr_access.specs.Walked.{AreLists}
use Rattle.mdr_access.proofs.WalkLaws.{plan_is}
use Rattle.mdr_access.proofs.plan.keys_of.Goals as goal

pub returns : goal.returns
returns c =
    plan_is c.args.program.now c.args.halves.now _ c.in_ok-lists.lists.items (c.from_vec.ensures ∙ c.in_ok-types.ensures ∙ c.as_slice-2.ensures) (c.from_vec-2.ensures ∙ c.in_ok-names.ensures ∙ ap (map (λ (func : Func). func.name)) c.as_slice-3.ensures)
    (c.from_vec-3.ensures ∙ c.in_ok-sides.ensures ∙ c.as_slice-4.ensures) (c.from_vec-4.ensures ∙ c.in_ok-roots.ensures ∙ c.as_slice-5.ensures) (c.from_vec-5.ensures ∙ c.in_ok-down.ensures ∙ c.as_slice-6.ensures) c.from_vec-6.ensures
    (subst (λ xs. AreLists c.args.program.now xs c.in_ok-lists.lists.items) c.as_slice.ensures c.in_ok-lists.ensures)
