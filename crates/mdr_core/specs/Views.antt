-- believed
-- The views of a block: what a pointer may name in it, as so many elements of a type from a cell on.
use Rattle.std.specs.Prelude.{◌≡◌, ℕ, ◌+◌, ◌*◌, ◌<◌, ◌≤◌, ◌⊎◌, List, length, Some, slice_get}
use Rattle.mdr_core.specs.declared.types.Ty.{Ty}
use Rattle.mdr_core.specs.declared.types.Shape.{Shape}
use Rattle.mdr_core.specs.declared.program.Field.{Field}
use Rattle.mdr_core.specs.declared.program.StructDef.{StructDef}
use Rattle.mdr_core.specs.declared.program.Program.{Program}
use Rattle.mdr_core.specs.declared.value.View.{View}
use Rattle.mdr_core.specs.Layout.{AreSmall, AreFew, Alone, leaves, leaves_below, struct_of, struct_cells, fields_of, field_start}

-- the view is these elements as a whole; or, where they are structs, one of them; or one of the views of a field of one of them
pub data IsIn (program : Program) (view : View) : (first : ℕ) → Ty → (count : ℕ) → Type 0 where
  Whole : (first : ℕ) (ty : Ty) (count : ℕ) → view.first ≡ first → slice_get program.types view.ty ≡ Some ty → view.count ≡ count → IsIn program view first ty count
  Element : (first : ℕ) (ty : Ty) (count s i : ℕ) → struct_of ty ≡ Some s → i < count →
      view.first ≡ first + i * length (struct_cells program.structs s) → slice_get program.types view.ty ≡ Some ty → view.count ≡ 1 → IsIn program view first ty count
  Inside : (first : ℕ) (ty : Ty) (count s i f : ℕ) (field : Field) → struct_of ty ≡ Some s → i < count → slice_get (fields_of program.structs s) f ≡ Some field →
      IsIn program view (first + i * length (struct_cells program.structs s) + field_start program.structs s f) field.ty field.count → IsIn program view first ty count

-- the view is one of a block of this shape, with an index up to one past its end
pub record IsViewOf (program : Program) (shape : Shape) (view : View) : Type 0 where
  pub ty : Ty
  pub names : slice_get program.types shape.ty ≡ Some ty
  pub part : IsIn program view 0 ty shape.count
  pub inside : view.index ≤ view.count

-- what views rest on: structs hold lower ones, and each field has a cell
pub record AreLaid (structs : List StructDef) : Type 0 where
  pub small : AreSmall structs
  pub few : AreFew structs
  pub lower : (s f m : ℕ) (x : Field) → slice_get (fields_of structs s) f ≡ Some x → struct_of x.ty ≡ Some m → m < s
  pub filled : (s f : ℕ) (x : Field) → slice_get (fields_of structs s) f ≡ Some x → 1 ≤ x.count * length (leaves (leaves_below structs s) Alone x.ty)

-- an element of the type has a cell
pub record HasCells (structs : List StructDef) (ty : Ty) : Type 0 where
  pub some : 1 ≤ length (leaves (struct_cells structs) Alone ty)

-- the elements as a whole
pub record IsWhole (program : Program) (view : View) (first : ℕ) (ty : Ty) (count : ℕ) : Type 0 where
  pub begins : view.first ≡ first
  pub names : slice_get program.types view.ty ≡ Some ty
  pub many : view.count ≡ count

-- a view of a field of the struct that begins at a cell
pub record IsInFields (program : Program) (view : View) (s first : ℕ) : Type 0 where
  pub number : ℕ
  pub field : Field
  pub names : slice_get (fields_of program.structs s) number ≡ Some field
  pub inside : IsIn program view (first + field_start program.structs s number) field.ty field.count

-- one of the structs, or a view of a field of one
pub record IsInStructs (program : Program) (view : View) (s first : ℕ) (ty : Ty) (count : ℕ) : Type 0 where
  pub element : ℕ
  pub among : element < count
  pub inside : IsWhole program view (first + element * length (struct_cells program.structs s)) ty 1 ⊎ IsInFields program view s (first + element * length (struct_cells program.structs s))
