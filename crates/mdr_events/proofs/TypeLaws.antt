-- Whether two types are one.
use Rattle.std.proofs.Common.{◌≡◌, ◌↔◌, Bool, true, false, IsTrue, refl, sym, subst}
use Rattle.mdr_core.specs.declared.types.Ty.{Ty}
use Rattle.mdr_meaning.specs.Numbers.{is_same_type}
use Rattle.mdr_meaning.proofs.NumberLaws.{type_same, types_exact}

pub same_tested : (r : Bool) (t u : Ty) → (IsTrue r ↔ (t ≡ u)) → r ≡ is_same_type t u
same_tested true t u h = sym (subst (λ (x : Ty). is_same_type t x ≡ true) (h.0 refl) (type_same t))
same_tested false t u h = by_test (is_same_type t u) refl where
  by_test : (b : Bool) → is_same_type t u ≡ b → false ≡ b
  by_test true q = absurd (cc (h.1 (types_exact t u q)))
  by_test false q = refl
