-- What is found in a short list has a small number.
use Rattle.std.proofs.Common.{◌≡◌, ℕ, ◌≤◌, Bool, List, [], ◌∷◌, length, Option, Some, None, arith, sym}
use Rattle.std.specs.List.{position}
use Rattle.std.specs.Prelude.{IfSome}
use Rattle.std.proofs.lemmas.List.Quantifiers.{position-Some}

pub small_place : {A : Type 0} (p : A → Bool) (xs : List A) (i : ℕ) → position p xs ≡ Some i → length xs ≤ 16777216 → i ≤ 16777216
small_place p [] i e few = absurd cc
small_place p (x ∷ xs) i e few = let found = position-Some p (x ∷ xs) i x e in let inside = found.0 in omega (arith, inside, few)

pub small_places : {A : Type 0} (p : A → Bool) (xs : List A) (o : Option ℕ) → o ≡ position p xs → length xs ≤ 16777216 → IfSome o (λ i. i ≤ 16777216)
small_places p xs None e few = tt
small_places p xs (Some i) e few = small_place p xs i (sym e) few
