-- protocol
-- Where a thing stands in a list, and lists in which all that comes before it stands before it.
use Rattle.std.specs.Prelude.{◌≡◌, ℕ, zero, suc, Bool, true, false, List, [], ◌∷◌}

-- nothing in the list is it
abbrev pub IsNowhere : {X : Type 0} → (X → Bool) → List X → Type 0
IsNowhere is_it [] = Unit {0}
IsNowhere is_it (x ∷ xs) = (is_it x ≡ false) × IsNowhere is_it xs

-- the first that is it stands at a place
abbrev pub IsFirstAt : {X : Type 0} → (X → Bool) → List X → ℕ → Type 0
IsFirstAt is_it [] i = ⊥
IsFirstAt is_it (x ∷ xs) zero = is_it x ≡ true
IsFirstAt is_it (x ∷ xs) (suc i) = (is_it x ≡ false) × IsFirstAt is_it xs i

-- what is smaller isn't it, and behind what isn't smaller nothing is, nor is anything it unless that is
abbrev pub IsSearchable : {X : Type 0} → (is_smaller is_it : X → Bool) → List X → Type 0
IsSearchable is_smaller is_it [] = Unit {0}
IsSearchable is_smaller is_it (x ∷ xs) =
    (is_smaller x ≡ true → is_it x ≡ false)
    × ((is_smaller x ≡ false → IsNowhere is_smaller xs) × ((is_smaller x ≡ false → is_it x ≡ false → IsNowhere is_it xs) × IsSearchable is_smaller is_it xs))
