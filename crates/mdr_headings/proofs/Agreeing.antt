-- Lists of parameters that differ in length.
use Rattle.std.proofs.Common.{◌≡◌, Bool, true, false, refl, ap, suc, List, [], ◌∷◌, length}
use Rattle.std.proofs.Math.Path.{sym}
use Rattle.std.specs.Prelude.{◌&&◌}
use Rattle.mdr_core.specs.declared.program.Param.{Param}
use Rattle.mdr_headings.specs.Functions.{is_same_param, are_same_params}

false_behind : (b c : Bool) → c ≡ false → (b && c) ≡ false
false_behind true c e = e
false_behind false c e = refl

differ : (ps qs : List Param) → (length ps ≡ length qs → ⊥) → are_same_params ps qs ≡ false
differ [] [] h = absurd (h refl)
differ [] (q ∷ qs) h = refl
differ (p ∷ ps) [] h = refl
differ (p ∷ ps) (q ∷ qs) h = false_behind (is_same_param p q) _ (differ ps qs (λ e. h (ap suc e)))

pub other_lengths : (ps qs : List Param) → (length ps ≡ length qs → ⊥) → false ≡ are_same_params ps qs
other_lengths ps qs h = sym (differ ps qs h)
