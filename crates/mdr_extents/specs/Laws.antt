-- protocol
-- Laws of extents and of what is visible.
use Rattle.std.specs.Prelude.{◌≡◌, ◌↔◌, ◌≤◌, ◌<◌, ℕ, ◌+◌, ◌-◌, Bool, true, List, Some, None, Ok, Err, slice_get}
use Rattle.mdr_core.specs.declared.plan.Key.{Key}
use Rattle.mdr_core.specs.declared.program.Program.{Program}
use Rattle.mdr_core.specs.declared.types.Ann.{Ann}
use Rattle.mdr_core.specs.Layout.{Leaf, Within, struct_cells}
use Rattle.mdr_meaning.specs.declared.wire.WireView.{WireView}
use Rattle.mdr_model.specs.declared.memory.Cell.{Cell}
use Rattle.mdr_model.specs.declared.message.New.{New}
use Rattle.mdr_model.specs.Agreement.{SerialsRise}
use Rattle.mdr_model.specs.Memory.{Memory, leaf_at}
use Rattle.mdr_paths.specs.Paths.{IsLeastFailing, Rises, is_in}
use Rattle.mdr_extents.specs.Around.{struct_start}
use Rattle.mdr_extents.specs.CellOrder.{cells}
use Rattle.mdr_extents.specs.Extent.{Siblings, Elements, Fails, annotated, first_of}
use Rattle.mdr_extents.specs.Reaching.{Root, Roots, IsVisible, Argument, At, beginning, extent_at, graph, root_extent, visible}

-- ---- extents

-- the first number from one on, below an end, of which a test holds
pub record IsFirst (test : ℕ → Bool) (from count n : ℕ) : Type 0 where
  pub after : from ≤ n
  pub inside : n < from + count
  pub holds : test n ≡ true
  pub least : (i : ℕ) → from ≤ i → test i ≡ true → n ≤ i

-- a search finds the first, and finds nothing where there is none
pub record SearchesAreExact : Type 0 where
  pub found : (test : ℕ → Bool) (from count n : ℕ) → (first_of test from count ≡ Some n) ↔ IsFirst test from count n
  pub missed : (test : ℕ → Bool) (from count : ℕ) → (first_of test from count ≡ None) ↔ ((i : ℕ) → from ≤ i → i < from + count → test i ≡ true → ⊥)

-- the elements of an extent are elements of the view
abbrev pub ExtentsAreInside : Type 0
ExtentsAreInside = (program : Program) (m : Memory) (v : WireView) (siblings : Siblings) (ann : Ann) (n : ℕ)
    → v.index ≤ v.count → annotated program m v siblings ann ≡ Elements n → v.index + n ≤ v.count

-- ---- what is visible

-- the least number of a root that fails
pub record IsFirstFailing (program : Program) (touched : List Key) (m : Memory) (roots : Roots) (n : ℕ) : Type 0 where
  pub root : Root
  pub is : slice_get roots.values n ≡ Some root
  pub failing : root_extent program touched m roots.passed root ≡ Fails
  pub least : (k : ℕ) (r : Root) → slice_get roots.values k ≡ Some r → root_extent program touched m roots.passed r ≡ Fails → n ≤ k

abbrev pub NoRootFails : Program → List Key → Memory → Roots → Type 0
NoRootFails program touched m roots = (n : ℕ) (r : Root) → slice_get roots.values n ≡ Some r → root_extent program touched m roots.passed r ≡ Fails → ⊥

module _ (program : Program) (touched : List Key) (m : Memory) (known : List Cell) (roots : Roots) where
  -- the first cell in the set, by serial and then by index, whose pointer fails
  abbrev pub IsFirstCell : Cell → Type 0
  IsFirstCell c = IsLeastFailing (graph program touched m) (beginning program touched m known roots) c

  pub record VisibleIsExact : Type 0 where
    -- the set has exactly the cells to which lists of cells lead, each once, in their order
    pub exact : (set : List Cell) → visible program touched m known roots ≡ Ok set → (c : Cell) → (is_in cells set c ≡ true) ↔ IsVisible program touched m known roots c
    pub rises : (set : List Cell) → visible program touched m known roots ≡ Ok set → Rises cells set
    -- there is a set exactly where no pointer fails
    pub accepted : ((set : List Cell) × (visible program touched m known roots ≡ Ok set))
        ↔ (NoRootFails program touched m roots × ((c : Cell) → IsVisible program touched m known roots c → extent_at program touched m c ≡ Fails → ⊥))
    -- else the first that fails is told: the arguments come before all cells
    pub argument : (n : ℕ) → (visible program touched m known roots ≡ Err (Argument n)) ↔ IsFirstFailing program touched m roots n
    pub cell : (c : Cell) → (visible program touched m known roots ≡ Err (At c)) ↔ (NoRootFails program touched m roots × IsFirstCell c)

abbrev pub VisibleIsByPaths : Type 0
VisibleIsByPaths = (program : Program) (touched : List Key) (m : Memory) (known : List Cell) (roots : Roots) → SerialsRise m → VisibleIsExact program touched m known roots

-- ---- the struct around a cell

-- a cell of a block is one of a struct, whose cells stand in the block from this one on
pub record IsAround (program : Program) (block : New) (index : ℕ) (l : Leaf) (s start : ℕ) : Type 0 where
  pub begun : start ≤ index
  pub own : slice_get (struct_cells program.structs s) (index - start) ≡ Some l
  pub cells : (j : ℕ) (x : Leaf) → slice_get (struct_cells program.structs s) j ≡ Some x → leaf_at program block (start + j) ≡ Some x

-- where a cell has a field's key, the struct of that field begins where it is said to
abbrev pub StructsAreAround : Type 0
StructsAreAround = (program : Program) (block : New) (index : ℕ) (l : Leaf) (s f : ℕ) → leaf_at program block index ≡ Some l → l.home ≡ Within s f
    → IsAround program block index l s (struct_start program block index)
