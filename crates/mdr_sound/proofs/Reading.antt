-- Items of a list that is made of another one.
use Rattle.std.proofs.Common.{◌≡◌, ℕ, zero, suc, List, [], ◌∷◌, map, Some, slice_get, refl, ap}
pub use Rattle.mdr_sound.proofs.Alike.{left_of as left_holds, right_of as right_holds}
use Rattle.mdr_core.proofs.Viewed.{some_same}

pub get_map : {A B : Type 0} (f : A → B) (xs : List A) (i : ℕ) (x : A) → slice_get xs i ≡ Some x → slice_get (map f xs) i ≡ Some (f x)
get_map f [] i x e = cc
get_map f (y ∷ ys) zero x e = ap (λ z. Some (f z)) (some_same e)
get_map f (y ∷ ys) (suc i) x e = get_map f ys i x e

pub record Mapped {A B : Type 0} (f : A → B) (xs : List A) (i : ℕ) (y : B) : Type 0 where
  pub item : A
  pub names : slice_get xs i ≡ Some item
  pub made : f item ≡ y

pub get_mapped : {A B : Type 0} (f : A → B) (xs : List A) (i : ℕ) (y : B) → slice_get (map f xs) i ≡ Some y → Mapped f xs i y
get_mapped f [] i y e = cc
get_mapped f (x ∷ xs) zero y e = record { item = x; names = refl; made = some_same e }
get_mapped f (x ∷ xs) (suc i) y e = let m = get_mapped f xs i y e in record { item = m.item; names = m.names; made = m.made }
