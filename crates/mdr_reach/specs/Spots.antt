-- protocol
-- The table of what stands around the cells of types.
use Rattle.std.specs.Prelude.{◌≡◌, ℕ, ◌+◌, ◌<◌, ◌≤◌, List, [], ◌∷◌, ◌++◌, length, map, Option, Some, None, slice_get, unwrap_or}
use Rattle.mdr_access.specs.KeyOrder.{keys}
use Rattle.mdr_core.specs.declared.plan.Key.{Key}
use Rattle.mdr_core.specs.declared.plan.Key.TheVariants as key
use Rattle.mdr_core.specs.declared.program.Field.{Field}
use Rattle.mdr_core.specs.declared.program.Program.{Program}
use Rattle.mdr_core.specs.declared.program.StructDef.{StructDef}
use Rattle.mdr_core.specs.declared.types.Ty.{Ty, out-Ty}
use Rattle.mdr_core.specs.declared.types.Ty.TheOpen.{Ty-F}
use Rattle.mdr_core.specs.Layout.{Alone, Home, Leaf, Within, cells_at, field_start, leaves_below, repeated, struct_cells}
use Rattle.mdr_extents.specs.Around.{offsets_below, offsets_or, struct_offsets}
use Rattle.mdr_paths.specs.Paths.{is_in}
use Rattle.mdr_reach.specs.declared.rows.Around.{Around}
use Rattle.mdr_reach.specs.declared.rows.Around.TheVariants as around
use Rattle.mdr_reach.specs.declared.rows.Row.{Row}
use Rattle.mdr_reach.specs.declared.layouts.Layouts.{Layouts}
use Rattle.mdr_reach.specs.Keys.{AreLoneKeys}

-- what stands around a cell, with whether its key is among these
abbrev pub in_field : List Key → (s f : ℕ) → Around
in_field touched s f = around.Field s f (is_in keys touched (key.Field s f))

abbrev pub around_of : List Key → Home → Around
around_of touched Alone = around.Nothing
around_of touched (Within s f) = in_field touched s f

abbrev pub arounds_of : List Key → List Leaf → List Around
arounds_of touched ls = map (λ (l : Leaf). around_of touched l.home) ls

-- ---- rows

abbrev pub arounds_in : Option Row → List Around
arounds_in None = []
arounds_in (Some row) = row.arounds

abbrev pub offsets_in : Option Row → List ℕ
offsets_in None = []
offsets_in (Some row) = row.offsets

abbrev pub known_arounds : List Row → ℕ → List Around
known_arounds rows s = arounds_in (slice_get rows s)

abbrev pub known_offsets : List Row → ℕ → List ℕ
known_offsets rows s = offsets_in (slice_get rows s)

-- the cell with which a field begins: behind the last one all cells are
abbrev pub start_in : Option Row → ℕ → ℕ
start_in None f = 0
start_in (Some row) f = unwrap_or (slice_get row.starts f) (length row.arounds)

-- ---- how a row is made of those of lower structs

abbrev pub arounds_by : (ℕ → List Around) → Around → Ty-F Ty → List Around
arounds_by known a (Ty-F.Int k) = a ∷ []
arounds_by known a Ty-F.Lock = a ∷ []
arounds_by known a (Ty-F.Struct s) = known s
arounds_by known a (Ty-F.Ptr t) = a ∷ []
arounds_by known a Ty-F.VoidPtr = a ∷ []
arounds_by known a (Ty-F.Fun ts) = a ∷ []
arounds_by known a Ty-F.Void = []

unfoldable pub element_arounds : (ℕ → List Around) → Around → Ty → List Around
element_arounds known a ty = arounds_by known a (out-Ty ty)

unfoldable pub field_arounds : List Key → (ℕ → List Around) → (s f : ℕ) → List Field → List Around
field_arounds touched known s f [] = []
field_arounds touched known s f (x ∷ xs) = repeated x.count (element_arounds known (in_field touched s f) x.ty) ++ field_arounds touched known s (f + 1) xs

-- where fields begin, with so many cells before them
unfoldable pub field_starts : (ℕ → List Around) → (at : ℕ) → List Field → List ℕ
field_starts known at [] = []
field_starts known at (x ∷ xs) = at ∷ field_starts known (at + length (repeated x.count (element_arounds known around.Nothing x.ty))) xs

-- ---- what the table tells

-- a row whose cells have numbers of 32 bits
abbrev pub HasFewCells : Row → Type 0
HasFewCells row = length row.arounds ≤ 4294967295

-- the rows of the structs below n
pub record AreRows (structs : List StructDef) (touched : List Key) (n : ℕ) (rows : List Row) : Type 0 where
  pub count : length rows ≡ n
  pub arounds : (s : ℕ) → known_arounds rows s ≡ arounds_of touched (leaves_below structs n s)
  pub offsets : (s : ℕ) → known_offsets rows s ≡ offsets_below structs n s
  pub starts : (s f : ℕ) → s < n → start_in (slice_get rows s) f ≡ field_start structs s f
  pub few : (s : ℕ) → length (known_arounds rows s) ≤ 4294967295

-- of each struct
pub record AreLayouts (program : Program) (touched : List Key) (layouts : Layouts) : Type 0 where
  pub arounds : (s : ℕ) → known_arounds layouts.rows s ≡ arounds_of touched (struct_cells program.structs s)
  pub offsets : (s : ℕ) → known_offsets layouts.rows s ≡ struct_offsets program.structs s
  pub starts : (s f : ℕ) → start_in (slice_get layouts.rows s) f ≡ field_start program.structs s f
  pub few : (s : ℕ) → length (known_arounds layouts.rows s) ≤ 4294967295
  pub lone_around : layouts.lone.arounds ≡ around.Nothing ∷ []
  pub lone_offset : layouts.lone.offsets ≡ 0 ∷ []
  pub no_arounds : layouts.none.arounds ≡ []
  pub no_offsets : layouts.none.offsets ≡ []
  pub keys : AreLoneKeys touched layouts.keys

-- the row of the type with a number
pub record IsRowOf (program : Program) (touched : List Key) (ty : ℕ) (row : Row) : Type 0 where
  pub arounds : row.arounds ≡ arounds_of touched (cells_at program ty)
  pub offsets : row.offsets ≡ offsets_or program (slice_get program.types ty)
  pub few : HasFewCells row

-- ---- the row of a type

abbrev pub row_or : Option Row → Row → Row
row_or None none = none
row_or (Some row) none = row

abbrev pub row_by : Layouts → Ty-F Ty → Row
row_by layouts (Ty-F.Int k) = layouts.lone
row_by layouts Ty-F.Lock = layouts.lone
row_by layouts (Ty-F.Struct s) = row_or (slice_get layouts.rows s) layouts.none
row_by layouts (Ty-F.Ptr t) = layouts.lone
row_by layouts Ty-F.VoidPtr = layouts.lone
row_by layouts (Ty-F.Fun ts) = layouts.lone
row_by layouts Ty-F.Void = layouts.none

abbrev pub row_at : Layouts → Option Ty → Row
row_at layouts None = layouts.none
row_at layouts (Some ty) = row_by layouts (out-Ty ty)
