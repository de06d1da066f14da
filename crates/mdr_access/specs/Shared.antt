-- protocol
-- Functions that lead to each other share what they lead to: an early one of them stands for the others.
use Rattle.std.specs.Prelude.{◌≡◌, ◌⊎◌, ℕ, ◌<◌, ◌≤◌, Bool, true, List, [], ◌∷◌, length, get_or}
use Rattle.mdr_paths.specs.Numbers.{AreReached, marked}
use Rattle.mdr_paths.specs.Turned.{AreTurned, LeadToEachOther}

-- a function stands for one that is no earlier
pub record StandsFor (edges : List (List ℕ)) (first f : ℕ) : Type 0 where
  pub early : first ≤ f
  pub both : LeadToEachOther edges first f

-- for each function one that stands for it
pub record AreFirsts (edges : List (List ℕ)) (firsts : List ℕ) : Type 0 where
  pub size : length firsts ≡ length edges
  pub each : (f : ℕ) → f < length edges → StandsFor edges (get_or firsts f 0) f

-- a function stands for some of the later ones with both marks, and all else is as before
pub record SharesMarked (led leading : List Bool) (func : ℕ) (old now : List ℕ) : Type 0 where
  pub size : length now ≡ length old
  pub each : (f : ℕ) → (get_or now f 0 ≡ get_or old f 0) ⊎ ((get_or now f 0 ≡ func) × (func < f) × (marked led f ≡ true) × (marked leading f ≡ true))

-- where the marks are those of what the function leads to, those that stand for others still do
pub record KeepsFirsts (turned : List (List ℕ)) (led : List Bool) (func : ℕ) (old now : List ℕ) : Type 0 where
  pub size : length now ≡ length old
  pub keeps : (edges : List (List ℕ)) → AreTurned edges turned → AreReached edges (func ∷ []) led → AreFirsts edges old → AreFirsts edges now

-- a table of calls, the same turned, and for each function a row
pub record AreWalks (edges turned rows : List (List ℕ)) : Type 0 where
  pub both : AreTurned edges turned
  pub size : length edges ≡ length rows
  pub few : length rows ≤ 4294967296
