-- protocol
-- The types of cells.
use Rattle.std.specs.Prelude.{◌≡◌, ℕ, ◌+◌, Bool, true, false, List, length, map, slice_get, MatchOption, Some}
use Rattle.mdr_core.specs.declared.types.Ty.{Ty, out-Ty}
use Rattle.mdr_core.specs.declared.types.Ty.TheOpen.{Ty-F}
use Rattle.mdr_core.specs.Layout.{Leaf, Alone, leaves, repeated}
use Rattle.mdr_copy.specs.declared.cell_types.Passed.{Passed}

abbrev pub type_of : Leaf → Ty
type_of leaf = leaf.type

abbrev pub types_of : List Leaf → List Ty
types_of leaves = map type_of leaves

abbrev pub is_void_by : Ty-F Ty → Bool
is_void_by (Ty-F.Int k) = false
is_void_by Ty-F.Lock = false
is_void_by (Ty-F.Struct s) = false
is_void_by (Ty-F.Ptr t) = false
is_void_by Ty-F.VoidPtr = false
is_void_by (Ty-F.Fun ts) = false
is_void_by Ty-F.Void = true

-- the type has no values
abbrev pub is_void : Ty → Bool
is_void ty = is_void_by (out-Ty ty)

-- ---- a walk over cells

-- the types of the cells of so many elements in a row, where the cells of structs are known
abbrev pub element_types : (known : ℕ → List Leaf) → (count : ℕ) → Ty → List Ty
element_types known count ty = types_of (repeated count (leaves known Alone ty))

-- the walk found the type of the cell sought among cells of these types, or went past all of them with the rest left
abbrev pub Passes : List Ty → (sought : ℕ) → Passed → Type 0
Passes types sought passed = MatchOption passed.found (length types + passed.left ≡ sought) (λ t. slice_get types sought ≡ Some t.now)
