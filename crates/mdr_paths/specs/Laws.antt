-- for proofs
-- Laws of reachability at a kind of node, for a contract.
use Rattle.std.specs.Prelude.{◌≡◌, ℕ, Bool, true, List, [], ◌∷◌, ◌++◌, ◌↔◌, Ok, Err}
use Rattle.mdr_paths.specs.Numbers.{graph, number_graph, IsTable}
use Rattle.mdr_paths.specs.Paths.{Nodes, is_in, Graph, counted, leads, Path, Rises, fails, IsLeastFailing, visible, visible_set}

-- a path as the list of its nodes, the last one first
abbrev pub IsWay : {N : Type 0} {k : Nodes N} → Graph k → List N → N → List N → Type 0
IsWay {N} {k} g roots c [] = (is_in k roots c ≡ true) × (is_in k (counted g) c ≡ true)
IsWay {N} {k} g roots c (d ∷ ds) = (leads g d c ≡ true) × (is_in k (counted g) c ≡ true) × IsWay g roots d ds

pub record Laws {N : Type 0} (k : Nodes N) : Type 0 where
  -- the computed set is that of the paths
  pub by_paths : (g : Graph k) (roots : List N) (c : N) → (is_in k (visible g roots) c ≡ true) ↔ Path g roots c
  pub ways : (g : Graph k) (roots : List N) (c : N) → Path g roots c ↔ ((ds : List N) × IsWay g roots c ds)
  pub rising : (g : Graph k) (roots : List N) → Rises k g.all → Rises k (visible g roots)
  -- it is refused with the first node that fails, and accepted where none does
  pub refused : (g : Graph k) (roots : List N) (c : N) → Rises k g.all → (visible_set g roots ≡ Err c) ↔ IsLeastFailing g roots c
  pub accepted : (g : Graph k) (roots : List N) → (visible_set g roots ≡ Ok (visible g roots)) ↔ ((c : N) → Path g roots c → fails g c ≡ true → ⊥)
  -- an old set serves as well as the roots that it was made from
  pub old_set : (g : Graph k) (old roots : List N) → Rises k g.all → visible g (visible g old ++ roots) ≡ visible g (old ++ roots)

-- a table of edges has the paths of the graph that it stands for
abbrev pub TablesServe : Type 0
TablesServe = (n : ℕ) (counts : ℕ → Bool) (calls : ℕ → List ℕ) (roots : List ℕ) (edges : List (List ℕ)) (listed : List ℕ)
    → IsTable n counts calls roots edges listed → (c : ℕ) → Path (graph edges) listed c ↔ Path (number_graph n counts calls) roots c
