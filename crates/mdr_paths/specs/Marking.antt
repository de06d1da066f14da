-- protocol
-- Entering nodes into marks and a worklist.
use Rattle.std.specs.Prelude.{◌≡◌, ◌↔◌, ◌⊎◌, ℕ, ◌<◌, Bool, true, cond, not, ◌&&◌, nat_lt, List, [], ◌∷◌, ◌++◌, length, set}
use Rattle.std.specs.List.{sum_by}
use Rattle.mdr_paths.specs.Paths.{is_in, IsPartial, Rises}
use Rattle.mdr_paths.specs.Numbers.{numbers, graph, marked, marks_of}

-- a node that isn't marked yet
abbrev pub is_new : List Bool → ℕ → Bool
is_new marks c = nat_lt c (length marks) && not (marked marks c)

-- the marks after nodes are entered
abbrev pub marks_after : List Bool → List ℕ → List Bool
marks_after marks [] = marks
marks_after marks (c ∷ cs) = marks_after (cond (is_new marks c) (set marks c true) marks) cs

-- those of them that weren't marked, each once
abbrev pub entered : List Bool → List ℕ → List ℕ
entered marks [] = []
entered marks (c ∷ cs) = cond (is_new marks c) (c ∷ []) [] ++ entered (cond (is_new marks c) (set marks c true) marks) cs

-- how many aren't marked
unfoldable pub unmarked_count : List Bool → ℕ
unmarked_count marks = sum_by (λ b. cond b 0 1) marks

-- what holds between two turns
pub record IsWork (edges : List (List ℕ)) (roots : List ℕ) (marks : List Bool) (todo : List ℕ) : Type 0 where
  pub size : length marks ≡ length edges
  pub partial : IsPartial (graph edges) roots (marks_of marks) todo
  pub inside : (d : ℕ) → is_in numbers todo d ≡ true → marked marks d ≡ true

-- the marks, of so many nodes, are those of the listed ones
pub record AreMarks (count : ℕ) (nodes : List ℕ) (marks : List Bool) : Type 0 where
  pub size : length marks ≡ count
  pub each : (c : ℕ) → (marked marks c ≡ true) ↔ ((is_in numbers nodes c ≡ true) × (c < count))

-- the marks, of so many nodes, are those of the nodes of which P holds
pub record Tells (count : ℕ) (P : ℕ → Type 0) (marks : List Bool) : Type 0 where
  pub size : length marks ≡ count
  pub each : (c : ℕ) → (marked marks c ≡ true) ↔ (P c × (c < count))

-- the same of the nodes below i alone
pub record TellsBelow (count i : ℕ) (P : ℕ → Type 0) (marks : List Bool) : Type 0 where
  pub size : length marks ≡ count
  pub each : (c : ℕ) → (marked marks c ≡ true) ↔ (P c × (c < i))

-- the nodes, of so many, of which P holds, rising
pub record AreNodes (count : ℕ) (P : ℕ → Type 0) (nodes : List ℕ) : Type 0 where
  pub rises : Rises numbers nodes
  pub exact : (c : ℕ) → (is_in numbers nodes c ≡ true) ↔ (P c × (c < count))

-- the listed nodes are marked beside those that were
pub record Adds (marks : List Bool) (nodes : List ℕ) (now : List Bool) : Type 0 where
  pub size : length now ≡ length marks
  pub each : (c : ℕ) → (marked now c ≡ true) ↔ ((marked marks c ≡ true) ⊎ ((is_in numbers nodes c ≡ true) × (c < length marks)))
