-- Each type of a table has its number there.
use Rattle.std.proofs.Common.{◌≡◌, ℕ, zero, suc, ◌+◌, ◌<◌, Bool, true, false, not, cond, nat_lt, List, [], ◌∷◌, length, Some, None, slice_get, refl, ap, ◌∙◌, subst, arith}
use Rattle.std.proofs.lemmas.Option.{slice_get_within}
use Rattle.std.specs.List.{prefix_len}
use Rattle.mdr_core.specs.declared.types.Ty.{Ty}
use Rattle.mdr_faults.specs.Alike.{is_alike}
use Rattle.mdr_program.specs.Values.{number_in, or_zero}
use Rattle.mdr_sound.proofs.Alike.{alike_same, alike_itself}

abbrev before : List Ty → Ty → ℕ
before types t = prefix_len (λ u. not (is_alike u t)) types

one_step : (b : Bool) (u t : Ty) (us : List Ty) → is_alike u t ≡ b → (b ≡ false → slice_get us (before us t) ≡ Some t) → slice_get (u ∷ us) (cond (not b) (1 + before us t) 0) ≡ Some t
one_step true u t us q h = ap Some (alike_same u t q)
one_step false u t us q h = let next : 1 + before us t ≡ suc (before us t) = omega arith in ap (slice_get (u ∷ us)) next ∙ h refl

not_both : (b : Bool) → b ≡ true → b ≡ false → ⊥
not_both b p q = cc

other_place : (u t : Ty) (us : List Ty) (i : ℕ) → slice_get (u ∷ us) i ≡ Some t → is_alike u t ≡ false → (j : ℕ) × (slice_get us j ≡ Some t)
other_place u t us zero e q =
    let same : u ≡ t = cc in
    absurd (not_both (is_alike u t) (subst (λ (x : Ty). is_alike u x ≡ true) same (alike_itself u)) q)
other_place u t us (suc i) e q = (i, e)

first_place : (types : List Ty) (t : Ty) (i : ℕ) → slice_get types i ≡ Some t → slice_get types (before types t) ≡ Some t
first_place [] t i e = absurd cc
first_place (u ∷ us) t i e = one_step (is_alike u t) u t us refl (λ q. let there = other_place u t us i e q in first_place us t there.0 there.1)

inside_number : (n m : ℕ) (b : Bool) → nat_lt n m ≡ b → n < m → or_zero (cond b (Some n) None) ≡ n
inside_number n m true q h = refl
inside_number n m false q h = absurd (grind arith)

-- a type of the table stands at the number that it has
pub numbered_there : (types : List Ty) (t : Ty) (i : ℕ) → slice_get types i ≡ Some t → slice_get types (number_in types t) ≡ Some t
numbered_there types t i e =
    let place = first_place types t i e in
    let inside : before types t < length types = slice_get_within types (before types t) t place in
    ap (slice_get types) (inside_number (before types t) (length types) (nat_lt (before types t) (length types)) refl inside) ∙ place
