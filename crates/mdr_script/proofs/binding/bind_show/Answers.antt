use Rattle.std.proofs.Common.{◌≤◌, length, subst, sym, ◌∙◌}
use Rattle.mdr_script.proofs.Numbers.{small_place}
use Rattle.mdr_script.proofs.binding.bind_show.Goals as goal

pub small-requires : goal.small-requires
small-requires c =
    small_place _ c.as_slice.result.now c.in-Some.number (sym c.global_number.ensures ∙ c.in-Some.is) (subst (λ gs. length gs ≤ 16777216) (sym c.as_slice.ensures) c.requires.globals)
