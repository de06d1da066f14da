-- believed
-- How a type lies in cells (C99 6.2.5, paragraph 20; 6.7.2.1, paragraph 13): a struct is its fields in their order, an array its elements one by one.
use Rattle.std.specs.Prelude.{◌≤◌, take, ℕ, zero, suc, ◌+◌, Bool, true, false, ◌==◌, List, [], ◌∷◌, ◌++◌, length, Option, Some, None, slice_get, pos}
use Rattle.std.specs.Option.{option_map}
use Rattle.mdr_core.specs.declared.types.Ty.{Ty, out-Ty}
use Rattle.mdr_core.specs.declared.types.Ty.TheOpen.{Ty-F}
use Rattle.mdr_core.specs.declared.program.Field.{Field}
use Rattle.mdr_core.specs.declared.program.StructDef.{StructDef}
use Rattle.mdr_core.specs.declared.program.Program.{Program}
use Rattle.mdr_core.specs.declared.value.Value.{Value}
use Rattle.mdr_core.specs.declared.value.Value.TheVariants as value
use Rattle.mdr_core.specs.declared.value.LockState.TheVariants.{Free}
use Rattle.mdr_core.specs.declared.plan.Key.{Key}
use Rattle.mdr_core.specs.declared.plan.Key.TheVariants as key

-- what stands innermost around a cell: a struct's field, by both their numbers, or no struct
pub data Home : Type 0 where
  Alone : Home
  Within : (s f : ℕ) → Home

-- a cell of a type: a scalar, and what stands around it
pub record Leaf : Type 0 where
  pub home : Home
  pub type : Ty

abbrev pub struct_by : Ty-F Ty → Option ℕ
struct_by (Ty-F.Int k) = None
struct_by Ty-F.Lock = None
struct_by (Ty-F.Struct s) = Some s
struct_by (Ty-F.Ptr t) = None
struct_by Ty-F.VoidPtr = None
struct_by (Ty-F.Fun ts) = None
struct_by Ty-F.Void = None

-- the struct that a type is
abbrev pub struct_of : Ty → Option ℕ
struct_of ty = struct_by (out-Ty ty)

-- so many elements, one after another
unfoldable pub repeated : {A : Type 0} → ℕ → List A → List A
repeated zero cells = []
repeated (suc n) cells = cells ++ repeated n cells

-- the cells of a type, given those of each struct
abbrev pub leaves_by : (ℕ → List Leaf) → Home → Ty → Ty-F Ty → List Leaf
leaves_by known home ty (Ty-F.Int k) = record { home = home; type = ty } ∷ []
leaves_by known home ty Ty-F.Lock = record { home = home; type = ty } ∷ []
leaves_by known home ty (Ty-F.Struct s) = known s
leaves_by known home ty (Ty-F.Ptr t) = record { home = home; type = ty } ∷ []
leaves_by known home ty Ty-F.VoidPtr = record { home = home; type = ty } ∷ []
leaves_by known home ty (Ty-F.Fun ts) = record { home = home; type = ty } ∷ []
leaves_by known home ty Ty-F.Void = []

unfoldable pub leaves : (ℕ → List Leaf) → Home → Ty → List Leaf
leaves known home ty = leaves_by known home ty (out-Ty ty)

-- the cells of a struct's fields, from number f on
unfoldable pub field_leaves : (ℕ → List Leaf) → (s f : ℕ) → List Field → List Leaf
field_leaves known s f [] = []
field_leaves known s f (x ∷ xs) = repeated x.count (leaves known (Within s f) x.ty) ++ field_leaves known s (f + 1) xs

abbrev pub fields_or : Option StructDef → List Field
fields_or None = []
fields_or (Some d) = d.fields

-- the fields of struct s
abbrev pub fields_of : List StructDef → ℕ → List Field
fields_of structs s = fields_or (slice_get structs s)

abbrev pub chosen : {A : Type 0} → Bool → A → A → A
chosen true a b = a
chosen false a b = b

-- the cells of struct s, where its number is below n. A struct has in it those of lower number alone
unfoldable pub leaves_below : List StructDef → (n s : ℕ) → List Leaf
leaves_below structs zero s = []
leaves_below structs (suc n) s = chosen (s == n) (field_leaves (leaves_below structs n) n 0 (fields_of structs n)) (leaves_below structs n s)

-- the cells of struct s
unfoldable pub struct_cells : List StructDef → ℕ → List Leaf
struct_cells structs s = field_leaves (leaves_below structs s) s 0 (fields_of structs s)

-- the cells of one element of a type
unfoldable pub cells : Program → Ty → List Leaf
cells program ty = leaves (struct_cells program.structs) Alone ty

abbrev pub cells_or : Program → Option Ty → List Leaf
cells_or program None = []
cells_or program (Some ty) = cells program ty

-- the same of a type by its number in the type table
abbrev pub cells_at : Program → ℕ → List Leaf
cells_at program ty = cells_or program (slice_get program.types ty)

-- the key of a cell of a block whose elements have type number `ty`, and which is the global of that number or none: the innermost field around it, else the global, else the type
abbrev pub key_by : Home → Option ℕ → ℕ → Key
key_by (Within s f) block ty = key.Field s f
key_by Alone (Some g) ty = key.Global g
key_by Alone None ty = key.Elem ty

-- the zero of a scalar: what an object holds that is initialised by nothing (6.7.8, paragraph 10)
abbrev pub zero_by : Ty-F Ty → Value
zero_by (Ty-F.Int k) = value.Int k (pos 0)
zero_by Ty-F.Lock = value.Lock Free
zero_by (Ty-F.Struct s) = value.Null
zero_by (Ty-F.Ptr t) = value.Null
zero_by Ty-F.VoidPtr = value.Null
zero_by (Ty-F.Fun ts) = value.Null
zero_by Ty-F.Void = value.Null

abbrev pub zero_value : Ty → Value
zero_value ty = zero_by (out-Ty ty)

-- each struct has at most 65,536 cells
pub record AreSmall (structs : List StructDef) : Type 0 where
  pub within : (s : ℕ) → length (struct_cells structs s) ≤ 65536

-- each struct has at most 64 fields
pub record AreFew (structs : List StructDef) : Type 0 where
  pub within : (s : ℕ) → length (fields_of structs s) ≤ 64

-- where a field begins: behind the cells of those before it
unfoldable pub field_start : List StructDef → (s f : ℕ) → ℕ
field_start structs s f = length (field_leaves (leaves_below structs s) s 0 (take f (fields_of structs s)))

-- the key of a cell of an element of the type of number `ty`, where there is such a cell
unfoldable pub key_at : Program → Option ℕ → (ty cell : ℕ) → Option Key
key_at program block ty cell = option_map (λ l. key_by l.home block ty) (slice_get (cells_at program ty) cell)

-- its zero
unfoldable pub zero_at : Program → (ty cell : ℕ) → Option Value
zero_at program ty cell = option_map (λ l. zero_value l.type) (slice_get (cells_at program ty) cell)
