-- believed
-- Nodes that are natural numbers, and the graph of a table of edges.
use Rattle.std.specs.Prelude.{◌≡◌, ℕ, ◌<◌, Bool, true, false, ◌&&◌, eqb, List, [], length, get_or, ◌↔◌}
use Rattle.std.specs.List.{range_with_len, filter}
use Rattle.std.proofs.Math.Nat.{lt_irrefl, lt_trans}
use Rattle.std.proofs.Common.{refl}
use Rattle.std.proofs.lemmas.Bool.{eqb-true, eq-eqb}
use Rattle.mdr_paths.specs.Paths.{Nodes, Graph, Path, is_in, visible}

abbrev pub numbers : Nodes ℕ
numbers = record {
  same = λ a b. eqb a b;
  before = λ a b. a < b;
  equal = λ a b e. eqb-true a b e;
  itself = λ a. eq-eqb a a refl;
  apart = λ a b p q. lt_irrefl a (lt_trans p q);
  through = λ a b c p q. lt_trans p q;
}

-- the numbers below that of the lists, each with the edges of its list
unfoldable pub graph : List (List ℕ) → Graph numbers
graph edges = record { all = range_with_len 0 (length edges); counts = λ c. true; edges = λ d. get_or edges d []; failing = λ c. false }

-- the numbers below n, of which some count, each with its edges
unfoldable pub number_graph : ℕ → (ℕ → Bool) → (ℕ → List ℕ) → Graph numbers
number_graph n counts calls = record { all = range_with_len 0 n; counts = counts; edges = calls; failing = λ c. false }

-- a table and a list serve for such a graph and its roots: of each number they hold what counts
pub record IsTable (n : ℕ) (counts : ℕ → Bool) (calls : ℕ → List ℕ) (roots : List ℕ) (edges : List (List ℕ)) (listed : List ℕ) : Type 0 where
  pub size : length edges ≡ n
  pub lists : (d c : ℕ) → d < n → c < n → is_in numbers (get_or edges d []) c ≡ (counts c && is_in numbers (calls d) c)
  pub starts : (c : ℕ) → c < n → is_in numbers listed c ≡ (counts c && is_in numbers roots c)

-- whether a node is marked
abbrev pub marked : List Bool → ℕ → Bool
marked marks c = get_or marks c false

-- the marked nodes
unfoldable pub marks_of : List Bool → List ℕ
marks_of marks = filter (marked marks) (range_with_len 0 (length marks))

-- the marks are those of the nodes that have a path
pub record AreReached (edges : List (List ℕ)) (roots : List ℕ) (marks : List Bool) : Type 0 where
  pub size : length marks ≡ length edges
  pub paths : (c : ℕ) → (marked marks c ≡ true) ↔ Path (graph edges) roots c
  pub nodes : marks_of marks ≡ visible (graph edges) roots
