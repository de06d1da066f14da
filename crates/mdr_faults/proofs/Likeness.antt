-- Lists of types that differ in length.
use Rattle.std.proofs.Common.{◌≡◌, Bool, true, false, refl, ap, suc, List, [], ◌∷◌, length}
use Rattle.std.proofs.Math.Path.{sym}
use Rattle.std.specs.Prelude.{◌&&◌}
use Rattle.mdr_core.specs.declared.types.Ty.{Ty}
use Rattle.mdr_faults.specs.Alike.{is_alike, are_alike}

false_behind : (b c : Bool) → c ≡ false → (b && c) ≡ false
false_behind true c e = e
false_behind false c e = refl

unlike : (ts us : List Ty) → (length ts ≡ length us → ⊥) → are_alike ts us ≡ false
unlike [] [] h = absurd (h refl)
unlike [] (u ∷ us) h = refl
unlike (t ∷ ts) [] h = refl
unlike (t ∷ ts) (u ∷ us) h = false_behind (is_alike t u) _ (unlike ts us (λ e. h (ap suc e)))

pub unlike_lengths : (ts us : List Ty) → (length ts ≡ length us → ⊥) → false ≡ are_alike ts us
unlike_lengths ts us h = sym (unlike ts us h)
