-- believed
-- What a list of steps leads to, whatever the nodes and the steps are.
use Rattle.std.specs.Prelude.{◌≡◌, ◌↔◌, ℕ, ◌<◌, true, List, [], length, get_or}
use Rattle.mdr_paths.specs.Paths.{is_in}
use Rattle.mdr_paths.specs.Numbers.{numbers}

-- a list of steps, of which the first goes from a start, and each next one from where the one before went
pub data Chain {N : Type 0} (Start : N → Type 0) (Step : N → N → Type 0) : N → Type 0 where
  Begin : (c : N) (start : Start c) → Chain Start Step c
  Next : (d c : N) (chain : Chain Start Step d) (step : Step d c) → Chain Start Step c

-- a table has the steps between so many numbers, and a list the starts; no chain leaves these numbers
pub record AreSteps (count : ℕ) (Start : ℕ → Type 0) (Step : ℕ → ℕ → Type 0) (starts : List ℕ) (edges : List (List ℕ)) : Type 0 where
  pub size : length edges ≡ count
  pub begins : (c : ℕ) → c < count → (is_in numbers starts c ≡ true) ↔ Start c
  pub goes : (d c : ℕ) → d < count → c < count → (is_in numbers (get_or edges d []) c ≡ true) ↔ Step d c
  pub start_inside : (c : ℕ) → Start c → c < count
  pub step_inside : (d c : ℕ) → Step d c → c < count
