-- Stars, one by one.
use Rattle.std.proofs.Common.{ℕ, zero, suc, ◌≡◌, ◌<◌, ◌-◌, arith, ap}
use Rattle.mdr_core.specs.declared.types.Ty.{Ty}
use Rattle.mdr_faults.specs.Declarations.{pointer_to, starred}

pub one_star : (n : ℕ) (t : Ty) → 0 < n → starred (n - 1) (pointer_to t) ≡ starred n t
unfolding starred
one_star zero t h = absurd (let f : ⊥ = omega (arith, h) in f)
one_star (suc n) t h = let e : suc n - 1 ≡ n = omega arith in ap (λ m. starred m (pointer_to t)) e
