-- believed
-- The types that occur in a program, and the type table of a source's program. Slots that lowering took have no names: their types don't occur.
use Rattle.std.specs.Prelude.{◌≡◌, ℕ, ◌+◌, ◌≤◌, ◌==◌, ◌||◌, Bool, true, not, List, length, Some, slice_get, IsTrue}
use Rattle.mdr_core.specs.declared.code.Stmt.{Stmt}
use Rattle.mdr_core.specs.declared.program.Field.{Field}
use Rattle.mdr_core.specs.declared.program.Func.{Func}
use Rattle.mdr_core.specs.declared.program.GlobalDef.{GlobalDef}
use Rattle.mdr_core.specs.declared.program.Local.{Local}
use Rattle.mdr_core.specs.declared.program.Param.{Param}
use Rattle.mdr_core.specs.declared.program.Program.{Program}
use Rattle.mdr_core.specs.declared.program.StructDef.{StructDef}
use Rattle.mdr_core.specs.declared.types.Ty.{Ty}
use Rattle.mdr_core.specs.Folds.{codes_of}
use Rattle.mdr_core.specs.Sound.{IsTable}
use Rattle.mdr_core.specs.Types.{is_pointer}
use Rattle.mdr_core.specs.TypeText.{AllocatesIn, is_before, type_text}

-- a local of the source
abbrev pub is_counted : Local → Bool
is_counted l = l.object || not (length l.name == 0)

-- the type is that of a field, a global, a parameter, a local or an allocation
pub data Occurs (program : Program) (ty : Ty) : Type 0 where
  OfField : (s f : ℕ) (def : StructDef) (x : Field) → slice_get program.structs s ≡ Some def → slice_get def.fields f ≡ Some x → x.ty ≡ ty → Occurs program ty
  OfGlobal : (g : ℕ) (def : GlobalDef) → slice_get program.globals g ≡ Some def → def.ty ≡ ty → Occurs program ty
  OfParam : (f i : ℕ) (func : Func) (p : Param) → slice_get program.funcs f ≡ Some func → slice_get func.params i ≡ Some p → p.ty ≡ ty → Occurs program ty
  OfLocal : (f i : ℕ) (func : Func) (l : Local) → slice_get program.funcs f ≡ Some func → slice_get func.locals i ≡ Some l → is_counted l ≡ true → l.ty ≡ ty → Occurs program ty
  OfAllocation : (f : ℕ) (func : Func) (body : List Stmt) → slice_get program.funcs f ≡ Some func → func.body ≡ Some body → AllocatesIn ty (codes_of body) → Occurs program ty

-- behind the kinds, the lock and the structs the table has the pointer and function types that occur, in the order of their texts
pub record IsOrderedTable (program : Program) : Type 0 where
  pub table : IsTable program
  pub all : (ty : Ty) → Occurs program ty → IsTrue (is_pointer ty) → (i : ℕ) × (slice_get program.types i ≡ Some ty)
  pub only : (i : ℕ) (ty : Ty) → 9 + length program.structs ≤ i → slice_get program.types i ≡ Some ty → Occurs program ty × IsTrue (is_pointer ty)
  pub rises : (i : ℕ) (t u : Ty) → 9 + length program.structs ≤ i → slice_get program.types i ≡ Some t → slice_get program.types (i + 1) ≡ Some u → IsTrue (is_before (type_text program t) (type_text program u))
