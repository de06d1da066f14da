-- Tests: what a conjunction or a comparison of numbers tells.
use Rattle.std.proofs.Common.{◌≡◌, ◌≢◌, ℕ, Bool, true, false, ◌&&◌, refl, sym, ◌∙◌}
use Rattle.std.specs.Prelude.{◌==◌}
use Rattle.std.proofs.lemmas.Bool.{eqb-true, eq-eqb}

pub and_left : (a b : Bool) → (a && b) ≡ true → a ≡ true
and_left true b e = refl
and_left false b e = e

pub and_right : (a b : Bool) → (a && b) ≡ true → b ≡ true
and_right true b e = e
and_right false b e = absurd (no e)
  where
    no : false ≡ true → ⊥
    no h = cc

pub and_both : (a b : Bool) → a ≡ true → b ≡ true → (a && b) ≡ true
and_both true b e f = f
and_both false b e f = e

pub not_both : {b : Bool} → b ≡ true → b ≡ false → ⊥
not_both e f = of (sym e ∙ f)
  where
    of : true ≡ false → ⊥
    of h = cc

pub same_number : (n : ℕ) → (n == n) ≡ true
same_number n = eq-eqb n n refl

pub is_same_number : (n m : ℕ) → (n == m) ≡ true → n ≡ m
is_same_number n m e = eqb-true n m e

pub other_number : (n m : ℕ) → n ≢ m → (n == m) ≡ false
other_number n m ne = of (n == m) refl
  where
    of : (b : Bool) → (n == m) ≡ b → (n == m) ≡ false
    of true e = absurd (ne (eqb-true n m e))
    of false e = e
