use Rattle.std.proofs.Common.{◌≤◌, length, subst, sym, ◌∙◌}
use Rattle.mdr_script.proofs.Numbers.{small_place}
use Rattle.mdr_script.proofs.binding.bind_call.Goals as goal

pub call_by-requires-clause-inside : goal.call_by-requires-clause-inside
call_by-requires-clause-inside c =
    small_place _ c.as_slice.result.now c.in-Some.number (sym c.func_number.ensures ∙ c.in-Some.is) (subst (λ fs. length fs ≤ 16777216) (sym c.as_slice.ensures) c.requires.funcs)
