-- Tests, and lists of them.
use Rattle.std.proofs.Common.{◌≡◌, Bool, true, false, Option, Some, None, List, [], ◌∷◌, ◌++◌, map, refl}
use Rattle.std.specs.Prelude.{◌&&◌}
use Rattle.std.specs.List.{list_all, flat_map}
use Rattle.std.specs.Option.{option_map}
use Rattle.std.proofs.lemmas.Bool.{false≢true}
use Rattle.mdr_roundtrip.specs.Printable.{all}
use Rattle.mdr_roundtrip.specs.PrintableDeclarations.{maybe}
use Rattle.mdr_roundtrip.proofs.Tests.{both}

pub also : (a b : Bool) → a ≡ true → b ≡ true → (a && b) ≡ true
also true b p q = q
also false b p q = absurd (false≢true p)

pub all_joined : {X : Type 0} (p : X → Bool) (xs ys : List X) → list_all p xs ≡ true → list_all p ys ≡ true → list_all p (xs ++ ys) ≡ true
all_joined p [] ys a b = b
all_joined p (x ∷ xs) ys a b = let h = both (p x) (list_all p xs) a in also (p x) (list_all p (xs ++ ys)) h.0 (all_joined p xs ys h.1 b)

-- one more
pub all_more : {X : Type 0} (p : X → Bool) (xs : List X) (x : X) → list_all p xs ≡ true → p x ≡ true → list_all p (xs ++ (x ∷ [])) ≡ true
all_more p xs x a b = all_joined p xs (x ∷ []) a (also (p x) true b refl)

pub all_one : {X : Type 0} (p : X → Bool) (x : X) → p x ≡ true → list_all p (x ∷ []) ≡ true
all_one p x h = also (p x) true h refl

-- of lists of lists
pub all_flat : {X : Type 0} (p : X → Bool) (xss : List (List X)) → list_all (λ xs. list_all p xs) xss ≡ true → list_all p (flat_map (λ xs. xs) xss) ≡ true
all_flat p [] a = refl
all_flat p (xs ∷ xss) a = let h = both (list_all p xs) (list_all (λ xs. list_all p xs) xss) a in all_joined p xs (flat_map (λ xs. xs) xss) h.0 (all_flat p xss h.1)

-- as a list of answers
pub all_mapped : {X : Type 0} (p : X → Bool) (xs : List X) → list_all p xs ≡ true → all (map p xs) ≡ true
all_mapped p [] a = refl
all_mapped p (x ∷ xs) a = let h = both (p x) (list_all p xs) a in also (p x) (all (map p xs)) h.0 (all_mapped p xs h.1)

pub maybe_mapped : {X : Type 0} (p : X → Bool) (o : Option (List X)) → maybe (λ xs. list_all p xs) o ≡ true → maybe all (option_map (map p) o) ≡ true
maybe_mapped p None h = refl
maybe_mapped p (Some xs) h = all_mapped p xs h
