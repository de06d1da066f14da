-- protocol
-- A table's edges turned round, and nodes that lead to each other.
use Rattle.std.specs.Prelude.{◌≡◌, ◌↔◌, ℕ, ◌<◌, true, List, [], ◌∷◌, ◌++◌, length, get_or, set}
use Rattle.mdr_paths.specs.Paths.{is_in, Path}
use Rattle.mdr_paths.specs.Numbers.{numbers, graph}

-- a table has another's edges, each the other way
pub record AreTurned (edges turned : List (List ℕ)) : Type 0 where
  pub size : length turned ≡ length edges
  pub each : (d c : ℕ) → (is_in numbers (get_or turned c []) d ≡ true) ↔ ((is_in numbers (get_or edges d []) c ≡ true) × (c < length edges))

-- those of the nodes below i alone
pub record AreTurnedBelow (edges : List (List ℕ)) (i : ℕ) (turned : List (List ℕ)) : Type 0 where
  pub size : length turned ≡ length edges
  pub each : (d c : ℕ) → (is_in numbers (get_or turned c []) d ≡ true) ↔ ((is_in numbers (get_or edges d []) c ≡ true) × (c < length edges) × (d < i))

-- a node at the end of another's row
abbrev pub with_edge : List (List ℕ) → (from to : ℕ) → List (List ℕ)
with_edge rows from to = set rows to (get_or rows to [] ++ from ∷ [])

-- and at the end of each of these nodes' rows
abbrev pub with_edges : List (List ℕ) → (from : ℕ) → List ℕ → List (List ℕ)
with_edges rows from [] = rows
with_edges rows from (to ∷ nodes) = with_edges (with_edge rows from to) from nodes

-- each of two nodes leads to the other
pub record LeadToEachOther (edges : List (List ℕ)) (a b : ℕ) : Type 0 where
  pub forth : Path (graph edges) (a ∷ []) b
  pub back : Path (graph edges) (b ∷ []) a
