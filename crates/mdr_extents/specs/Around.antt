-- believed
-- What stands around a cell: its key, the annotation of the pointer in it, and the struct that it is in.
use Rattle.std.specs.Prelude.{ℕ, zero, suc, ◌+◌, ◌-◌, ◌==◌, nat_lt, List, [], ◌∷◌, ◌++◌, length, Option, Some, None, slice_get}
use Rattle.std.specs.Option.{option_map}
use Rattle.mdr_core.specs.declared.types.Ann.{Ann}
use Rattle.mdr_core.specs.declared.types.Ann.TheVariants.{Single}
use Rattle.mdr_core.specs.declared.types.Ty.{Ty, out-Ty}
use Rattle.mdr_core.specs.declared.types.Ty.TheOpen.{Ty-F}
use Rattle.mdr_core.specs.declared.plan.Key.{Key}
use Rattle.mdr_core.specs.declared.plan.Key.TheVariants as key
use Rattle.mdr_core.specs.declared.program.Field.{Field}
use Rattle.mdr_core.specs.declared.program.GlobalDef.{GlobalDef}
use Rattle.mdr_core.specs.declared.program.Program.{Program}
use Rattle.mdr_core.specs.declared.program.StructDef.{StructDef}
use Rattle.mdr_core.specs.Layout.{chosen, fields_of, key_by, repeated}
use Rattle.mdr_model.specs.declared.message.New.{New}
use Rattle.mdr_model.specs.Memory.{leaf_at}

-- ---- keys

-- the global that a block is: a global's serial is its number
abbrev pub global_of : Program → New → Option ℕ
global_of program block = chosen (nat_lt block.serial (length program.globals)) (Some block.serial) None

-- the key of a cell of a block, where it has that cell
unfoldable pub key_of : Program → New → (index : ℕ) → Option Key
key_of program block index = option_map (λ l. key_by l.home (global_of program block) block.ty) (leaf_at program block index)

-- ---- annotations

abbrev pub field_ann : Option Field → Ann
field_ann None = Single
field_ann (Some x) = x.ann

abbrev pub global_ann : Option GlobalDef → Ann
global_ann None = Single
global_ann (Some g) = g.ann

-- the annotation of the pointers that a key names: that of the field or the global, and none elsewhere
abbrev pub ann_of : Program → Key → Ann
ann_of program (key.Global g) = global_ann (slice_get program.globals g)
ann_of program (key.Field s f) = field_ann (slice_get (fields_of program.structs s) f)
ann_of program (key.Elem ty) = Single

-- ---- the struct around a cell

-- of each cell of a type, how many cells of the innermost struct around it come before it. A struct's own cells are counted in it; others on from `at`
abbrev pub offsets_by : (ℕ → List ℕ) → (at : ℕ) → Ty-F Ty → List ℕ
offsets_by known at (Ty-F.Int k) = at ∷ []
offsets_by known at Ty-F.Lock = at ∷ []
offsets_by known at (Ty-F.Struct s) = known s
offsets_by known at (Ty-F.Ptr t) = at ∷ []
offsets_by known at Ty-F.VoidPtr = at ∷ []
offsets_by known at (Ty-F.Fun ts) = at ∷ []
offsets_by known at Ty-F.Void = []

unfoldable pub offsets : (ℕ → List ℕ) → (at : ℕ) → Ty → List ℕ
offsets known at ty = offsets_by known at (out-Ty ty)

-- of so many elements
unfoldable pub element_offsets : (ℕ → List ℕ) → (count at : ℕ) → Ty → List ℕ
element_offsets known zero at ty = []
element_offsets known (suc n) at ty = offsets known at ty ++ element_offsets known n (at + length (offsets known at ty)) ty

-- of a struct's fields, with so many cells before them
unfoldable pub field_offsets : (ℕ → List ℕ) → (at : ℕ) → List Field → List ℕ
field_offsets known at [] = []
field_offsets known at (x ∷ xs) = element_offsets known x.count at x.ty ++ field_offsets known (at + length (element_offsets known x.count at x.ty)) xs

-- of struct s, where its number is below n
unfoldable pub offsets_below : List StructDef → (n s : ℕ) → List ℕ
offsets_below structs zero s = []
offsets_below structs (suc n) s = chosen (s == n) (field_offsets (offsets_below structs n) 0 (fields_of structs n)) (offsets_below structs n s)

unfoldable pub struct_offsets : List StructDef → ℕ → List ℕ
struct_offsets structs s = field_offsets (offsets_below structs s) 0 (fields_of structs s)

abbrev pub offsets_or : Program → Option Ty → List ℕ
offsets_or program None = []
offsets_or program (Some ty) = offsets (struct_offsets program.structs) 0 ty

-- of a block
unfoldable pub offsets_of : Program → New → List ℕ
offsets_of program block = repeated block.count (offsets_or program (slice_get program.types block.ty))

abbrev pub start_by : (index : ℕ) → Option ℕ → ℕ
start_by index None = index
start_by index (Some offset) = index - offset

-- the cell with which the innermost struct around a cell begins
unfoldable pub struct_start : Program → New → (index : ℕ) → ℕ
struct_start program block index = start_by index (slice_get (offsets_of program block) index)
