-- protocol
-- Chains of cells' names, by which a name is found among others.
use Rattle.std.specs.Prelude.{◌≡◌, ℕ, ◌+◌, ◌*◌, ◌%◌, ◌/◌, ◌^◌, ◌<◌, ◌≤◌, List, ◌∷◌, ◌++◌, [], Some, length, slice_get}
use Rattle.mdr_cells.specs.declared.name.CellName.{CellName}
use Rattle.mdr_core.specs.Layout.{chosen}
use Rattle.mdr_extents.specs.CellOrder.{cells}
use Rattle.mdr_model.specs.declared.memory.Cell.{Cell}
use Rattle.mdr_paths.specs.Paths.{is_in}
use Rattle.mdr_reach.specs.declared.chains.Chains.{Chains}

-- the bucket of a name, of so many
unfoldable pub bucket_of : CellName → (buckets : ℕ) → ℕ
bucket_of name buckets =
    ((((name.serial * 11400714819323198485) % 2 ^ 64 + name.index) % 2 ^ 64 * 11400714819323198485) % 2 ^ 64 / 4294967296) % buckets

-- the number, counted from 1, of the last of the first m names that is in a bucket; or 0, and none is in it
pub record IsLast (names : List CellName) (buckets bucket m number : ℕ) : Type 0 where
  pub inside : number ≤ m
  pub same : (k : ℕ) (x : CellName) → number ≡ k + 1 → slice_get names k ≡ Some x → bucket_of x buckets ≡ bucket
  pub none : (j : ℕ) (x : CellName) → number ≤ j → j < m → slice_get names j ≡ Some x → bucket_of x buckets ≡ bucket → ⊥

-- the first m names are linked: the last of each bucket, and the last one before each in its bucket
pub record AreLinked (names : List CellName) (buckets m : ℕ) (lasts befores : List ℕ) : Type 0 where
  pub heads : (b number : ℕ) → slice_get lasts b ≡ Some number → IsLast names buckets b m number
  pub links : (i number : ℕ) (x : CellName) → slice_get befores i ≡ Some number → slice_get names i ≡ Some x → IsLast names buckets (bucket_of x buckets) i number

-- so many names as there are links
abbrev pub HasLinks : (names : List CellName) (lasts befores : List ℕ) → Type 0
HasLinks names lasts befores = AreLinked names (length lasts) (length befores) lasts befores

abbrev pub HaveLinks : (names : List CellName) → Chains → Type 0
HaveLinks names chains = HasLinks names chains.lasts.items chains.befores.items

-- all names
pub record AreChained (names : List CellName) (chains : Chains) : Type 0 where
  pub all : length chains.befores.items ≡ length names
  pub linked : HaveLinks names chains

-- the cell joins the marked ones, unless it is among them
abbrev pub with_mark : List Cell → Cell → List Cell
with_mark marked c = chosen (is_in cells marked c) marked (marked ++ c ∷ [])
