-- believed
-- Sound programs.
use Rattle.std.specs.Prelude.{◌≡◌, ℕ, ◌+◌, ◌<◌, ◌≤◌, Bool, true, false, List, [], length, map, Option, Some, None, slice_get, IsTrue, ◌⊎◌}
use Rattle.mdr_core.specs.declared.kind.Kind.{Kind}
use Rattle.mdr_core.specs.declared.kind.Kind.TheVariants.{U8, S8}
use Rattle.mdr_core.specs.declared.types.Ty.{Ty}
use Rattle.mdr_core.specs.declared.types.Ty.TheVariants as type
use Rattle.mdr_core.specs.declared.types.Ann.{Ann}
use Rattle.mdr_core.specs.declared.types.Ann.TheVariants as ann
use Rattle.mdr_core.specs.declared.types.LenOf.{LenOf}
use Rattle.mdr_core.specs.declared.types.LenOf.TheVariants as len
use Rattle.mdr_core.specs.declared.program.Program.{Program}
use Rattle.mdr_core.specs.declared.program.StructDef.{StructDef}
use Rattle.mdr_core.specs.declared.program.Field.{Field}
use Rattle.mdr_core.specs.declared.program.Func.{Func}
use Rattle.mdr_core.specs.declared.program.GlobalDef.{GlobalDef}
use Rattle.mdr_core.specs.declared.program.Param.{Param}
use Rattle.mdr_core.specs.declared.program.Local.{Local}
use Rattle.mdr_core.specs.declared.code.Stmt.{Stmt}
use Rattle.mdr_core.specs.declared.value.View.{View}
use Rattle.mdr_core.specs.declared.value.Value.{Value}
use Rattle.mdr_core.specs.declared.value.Value.TheVariants as value
use Rattle.mdr_core.specs.declared.value.LockState.TheVariants.{Free}
use Rattle.mdr_core.specs.Kinds.{is_in_range, kind_number}
use Rattle.mdr_core.specs.Folds.{codes_of}
use Rattle.mdr_core.specs.Layout.{AreSmall, AreFew, Leaf, cells, repeated, fields_of, struct_of}
use Rattle.mdr_core.specs.Types.{Sort, Scalar, Aggregate, Locks, sort_of, HasNoLock, HasNumber, is_pointer}
use Rattle.mdr_core.specs.Typing.{function_type, slots_of, AreTyped}
use Rattle.mdr_core.specs.Views.{IsIn}

-- ---- annotations

-- what a length may be named by: a field of the same struct, or a parameter of the same call. Its type, where it is no array
pub record Sibling : Type 0 where
  pub ty : Ty
  pub array : Bool

abbrev pub sibling_field : Field → Sibling
sibling_field x = record { ty = x.ty; array = x.array }

abbrev pub sibling_param : Param → Sibling
sibling_param p = record { ty = p.ty; array = false }

-- a length is a positive constant, or names an integer
pub record IsIntegerSibling (siblings : List Sibling) (i : ℕ) : Type 0 where
  pub sibling : Sibling
  pub names : slice_get siblings i ≡ Some sibling
  pub single : sibling.array ≡ false
  pub kind : Kind
  pub integer : sibling.ty ≡ type.Int kind

pub record IsIntegerGlobal (program : Program) (g : ℕ) : Type 0 where
  pub def : GlobalDef
  pub names : slice_get program.globals g ≡ Some def
  pub single : def.array ≡ false
  pub kind : Kind
  pub integer : def.ty ≡ type.Int kind

abbrev pub IsLength : Program → List Sibling → LenOf → Type 0
IsLength program siblings (len.Const n) = 1 ≤ n
IsLength program siblings (len.Sibling i) = IsIntegerSibling siblings i
IsLength program siblings (len.Global g) = IsIntegerGlobal program g

-- a scalar field of the struct that is pointed to
pub record IsSentinel (program : Program) (ty : Ty) (f : ℕ) : Type 0 where
  pub struct : ℕ
  pub pointer : ty ≡ type.Ptr (type.Struct struct)
  pub field : Field
  pub names : slice_get (fields_of program.structs struct) f ≡ Some field
  pub single : field.array ≡ false
  pub scalar : sort_of (length program.structs) field.ty ≡ Scalar

-- the annotation may stand at a pointer of this type, beside these fields or parameters
abbrev pub Annotates : Program → List Sibling → Ty → Ann → Type 0
Annotates program siblings ty ann.Single = Unit {0}
Annotates program siblings ty (ann.Array length) = ((t : Ty) × (ty ≡ type.Ptr t)) × IsLength program siblings length
Annotates program siblings ty (ann.Sentinel f) = IsSentinel program ty f
Annotates program siblings ty ann.NullTerm = (ty ≡ type.Ptr (type.Int U8)) ⊎ (ty ≡ type.Ptr (type.Int S8))
Annotates program siblings ty ann.Opaque = ((t : Ty) × (ty ≡ type.Ptr t)) ⊎ (ty ≡ type.VoidPtr)

-- ---- what is declared

-- the types of fields, globals and locals: scalars, structs and locks
abbrev pub IsObjectSort : Sort → Type 0
IsObjectSort sort = (sort ≡ Scalar) ⊎ ((sort ≡ Aggregate) ⊎ (sort ≡ Locks))

-- 1 or more elements; one that is declared without brackets has one (C99 6.7.5.2)
pub record IsCount (array : Bool) (count : ℕ) : Type 0 where
  pub some : 1 ≤ count
  pub single : array ≡ false → count ≡ 1

pub record IsSoundField (program : Program) (s : ℕ) (siblings : List Sibling) (x : Field) : Type 0 where
  pub sort : IsObjectSort (sort_of (length program.structs) x.ty)
  pub lower : (t : ℕ) → struct_of x.ty ≡ Some t → t < s
  pub count : IsCount x.array x.count
  pub annotation : Annotates program siblings x.ty x.ann
  pub in_table : HasNumber program x.ty

pub record IsSoundStruct (program : Program) (s : ℕ) (def : StructDef) : Type 0 where
  pub some : 1 ≤ length def.fields
  pub fields : (f : ℕ) (x : Field) → slice_get def.fields f ≡ Some x → IsSoundField program s (map sibling_field def.fields) x

-- a pointer of a global's first value names a part of an earlier global. No slot is meant in a program
pub record NamesEarlier (program : Program) (g : ℕ) (ty : Ty) (view : View) : Type 0 where
  pub no_slot : view.block.slot ≡ 0
  pub earlier : view.block.serial < g
  pub def : GlobalDef
  pub names : slice_get program.globals view.block.serial ≡ Some def
  pub part : IsIn program view 0 def.ty def.count
  pub inside : view.index ≤ view.count
  pub target : Ty
  pub viewed : slice_get program.types view.ty ≡ Some target
  pub fits : (ty ≡ type.Ptr target) ⊎ (ty ≡ type.VoidPtr)

-- the value may be the first one of a scalar cell of global g
abbrev pub IsFirstValue : Program → (g : ℕ) → Ty → Value → Type 0
IsFirstValue program g ty (value.Int k n) = (ty ≡ type.Int k) × IsTrue (is_in_range k n)
IsFirstValue program g ty value.Null = IsTrue (is_pointer ty)
IsFirstValue program g ty (value.Ptr view) = NamesEarlier program g ty view
IsFirstValue program g ty value.Dead = ⊥
IsFirstValue program g ty (value.Fn f) = (func : Func) × (slice_get program.funcs f ≡ Some func) × (ty ≡ function_type func)
IsFirstValue program g ty (value.Lock state) = (ty ≡ type.Lock) × (state ≡ Free)
IsFirstValue program g ty value.NoValue = ⊥

-- the cells of so many elements
abbrev pub all_cells : Program → Ty → (count : ℕ) → List Leaf
all_cells program ty count = repeated count (cells program ty)

pub record IsSoundGlobal (program : Program) (g : ℕ) (def : GlobalDef) : Type 0 where
  pub sort : IsObjectSort (sort_of (length program.structs) def.ty)
  pub count : IsCount def.array def.count
  pub small : length (all_cells program def.ty def.count) ≤ 65536
  pub annotation : Annotates program [] def.ty def.ann
  pub in_table : HasNumber program def.ty
  pub each : length def.init ≡ length (all_cells program def.ty def.count)
  pub first : (i : ℕ) (leaf : Leaf) (v : Value) → slice_get (all_cells program def.ty def.count) i ≡ Some leaf → slice_get def.init i ≡ Some v → IsFirstValue program g leaf.type v

-- parameters are scalars
pub record IsSoundParam (program : Program) (siblings : List Sibling) (p : Param) : Type 0 where
  pub sort : sort_of (length program.structs) p.ty ≡ Scalar
  pub annotation : Annotates program siblings p.ty p.ann
  pub in_table : HasNumber program p.ty

-- a local holds no lock; an array or a struct is an object
pub record IsSoundLocal (program : Program) (l : Local) : Type 0 where
  pub sort : IsObjectSort (sort_of (length program.structs) l.ty)
  pub no_lock : HasNoLock program l.ty
  pub count : IsCount l.array l.count
  pub small : length (all_cells program l.ty l.count) ≤ 65536
  pub slot : l.object ≡ false → (l.array ≡ false) × (sort_of (length program.structs) l.ty ≡ Scalar)
  pub in_table : l.object ≡ true → HasNumber program l.ty

-- a body is typed, where there is one
abbrev pub HasTypedBody : Program → Func → Option (List Stmt) → Type 0
HasTypedBody program func None = Unit {0}
HasTypedBody program func (Some body) = AreTyped program (slots_of func) func.result false (codes_of body)

-- the result is a scalar or none; its annotation stands beside the parameters
pub record IsSoundFunc (program : Program) (func : Func) : Type 0 where
  pub result : (sort_of (length program.structs) func.result ≡ Scalar) ⊎ (func.result ≡ type.Void)
  pub annotation : Annotates program (map sibling_param func.params) func.result func.ann
  pub params : (i : ℕ) (p : Param) → slice_get func.params i ≡ Some p → IsSoundParam program (map sibling_param func.params) p
  pub locals : (i : ℕ) (l : Local) → slice_get func.locals i ≡ Some l → IsSoundLocal program l
  pub body : HasTypedBody program func func.body

-- ---- the type table

-- it begins with the kinds, the lock and the structs, has types of objects alone, and none twice
pub record IsTable (program : Program) : Type 0 where
  pub kinds : (k : Kind) → slice_get program.types (kind_number k) ≡ Some (type.Int k)
  pub lock : slice_get program.types 8 ≡ Some type.Lock
  pub structs : (s : ℕ) → s < length program.structs → slice_get program.types (9 + s) ≡ Some (type.Struct s)
  pub formed : (i : ℕ) (t : Ty) → slice_get program.types i ≡ Some t → IsObjectSort (sort_of (length program.structs) t)
  pub once : (i j : ℕ) (t : Ty) → slice_get program.types i ≡ Some t → slice_get program.types j ≡ Some t → i ≡ j

-- ---- programs

-- its types, globals, structs and functions are few: numbers of 32 bits count them, and all that the globals, the fields of the structs and the types are together
pub record HasFewNumbers (program : Program) : Type 0 where
  pub types : length program.types ≤ 16777216
  pub globals : length program.globals ≤ 16777216
  pub structs : length program.structs ≤ 16777216
  pub funcs : length program.funcs ≤ 16777216

pub record IsSound (program : Program) : Type 0 where
  -- the cells of structs and their number of fields keep the limits
  pub small : AreSmall program.structs
  pub few : AreFew program.structs
  pub table : IsTable program
  pub structs : (s : ℕ) (def : StructDef) → slice_get program.structs s ≡ Some def → IsSoundStruct program s def
  pub globals : (g : ℕ) (def : GlobalDef) → slice_get program.globals g ≡ Some def → IsSoundGlobal program g def
  pub funcs : (f : ℕ) (func : Func) → slice_get program.funcs f ≡ Some func → IsSoundFunc program func
  pub numbers : HasFewNumbers program
