-- believed
-- Types as texts, and the type table.
use Rattle.std.specs.Prelude.{◌≡◌, ℕ, ◌+◌, ◌≤◌, Bool, true, false, nat_lt, List, [], ◌∷◌, ◌++◌, length, Option, Some, None, slice_get, IsTrue, codes, ◌⊎◌}
use Rattle.mdr_core.specs.declared.kind.Kind.{Kind}
use Rattle.mdr_core.specs.declared.kind.Kind.TheVariants.{U8, U16, U32, U64, S8, S16, S32, S64}
use Rattle.mdr_core.specs.declared.types.Ty.{Ty}
use Rattle.mdr_core.specs.declared.types.Ty.TheOpen.{Ty-F}
use Rattle.mdr_core.specs.declared.types.Ty.TheFolds.{fold-Ty}
use Rattle.mdr_core.specs.declared.program.Program.{Program}
use Rattle.mdr_core.specs.declared.program.StructDef.{StructDef}
use Rattle.mdr_core.specs.declared.program.Field.{Field}
use Rattle.mdr_core.specs.declared.program.GlobalDef.{GlobalDef}
use Rattle.mdr_core.specs.declared.program.Func.{Func}
use Rattle.mdr_core.specs.declared.program.Param.{Param}
use Rattle.mdr_core.specs.declared.program.Local.{Local}
use Rattle.mdr_core.specs.declared.code.Stmt.{Stmt}
use Rattle.mdr_core.specs.Code.{Code, Codes}
use Rattle.mdr_core.specs.Folds.{codes_of}
use Rattle.mdr_core.specs.Layout.{chosen}
use Rattle.mdr_core.specs.Sound.{IsTable}
use Rattle.mdr_core.specs.Types.{is_pointer}

abbrev pub kind_text : Kind → List ℕ
kind_text U8 = codes "u8"
kind_text U16 = codes "u16"
kind_text U32 = codes "u32"
kind_text U64 = codes "u64"
kind_text S8 = codes "s8"
kind_text S16 = codes "s16"
kind_text S32 = codes "s32"
kind_text S64 = codes "s64"

-- a type's text, and whether it ends with a star: further ones follow at once
pub record Text : Type 0 where
  pub bytes : List ℕ
  pub starred : Bool

abbrev pub name_or : Option StructDef → List ℕ
name_or None = []
name_or (Some def) = def.name

abbrev pub star : Bool → List ℕ
star starred = chosen starred (codes "*") (codes " *")

-- the parameters behind the first, each behind a comma
unfoldable pub behind_commas : List Text → List ℕ
behind_commas [] = []
behind_commas (t ∷ ts) = codes "," ++ (t.bytes ++ behind_commas ts)

abbrev pub params_text : List Text → List ℕ
params_text [] = []
params_text (t ∷ ts) = t.bytes ++ behind_commas ts

-- the result, and behind a semicolon the parameters
abbrev pub signature_text : List Text → List ℕ
signature_text [] = []
signature_text (r ∷ ps) = r.bytes ++ (codes ";" ++ params_text ps)

abbrev pub text_layer : List StructDef → Ty-F Text → Text
text_layer structs (Ty-F.Int k) = record { bytes = kind_text k; starred = false }
text_layer structs Ty-F.Lock = record { bytes = codes "combolock_t"; starred = false }
text_layer structs (Ty-F.Struct s) = record { bytes = codes "struct " ++ name_or (slice_get structs s); starred = false }
text_layer structs (Ty-F.Ptr t) = record { bytes = t.bytes ++ star t.starred; starred = true }
text_layer structs Ty-F.VoidPtr = record { bytes = codes "void *"; starred = true }
text_layer structs (Ty-F.Fun ts) = record { bytes = codes "fn(" ++ (signature_text ts ++ codes ")"); starred = false }
text_layer structs Ty-F.Void = record { bytes = codes "void"; starred = false }

unfoldable pub text_of : List StructDef → Ty → Text
text_of structs = fold-Ty Text (text_layer structs)

-- the text of a type
abbrev pub type_text : Program → Ty → List ℕ
type_text program ty = (text_of program.structs ty).bytes

-- ---- the type table

-- an allocation of the code names the type
abbrev mutual
  pub Allocates : Ty → Code → Type 0
  Allocates ty (Code.Declare n i) = ⊥
  Allocates ty (Code.Text n i text) = ⊥
  Allocates ty (Code.Assign n p e) = ⊥
  Allocates ty (Code.Call n goal call) = call.shape ≡ Some ty
  Allocates ty (Code.If n e one other) = AllocatesIn ty one ⊎ AllocatesIn ty other
  Allocates ty (Code.Loop n e step body) = AllocatesIn ty step ⊎ AllocatesIn ty body
  Allocates ty (Code.Block body) = AllocatesIn ty body
  Allocates ty (Code.Return n e) = ⊥
  Allocates ty (Code.Jump n way) = ⊥

  pub AllocatesIn : Ty → Codes → Type 0
  AllocatesIn ty Codes.End = ⊥
  AllocatesIn ty (Codes.Then c cs) = Allocates ty c ⊎ AllocatesIn ty cs

-- the type is that of a field, a global, a parameter, a local or an allocation
pub data Occurs (program : Program) (ty : Ty) : Type 0 where
  OfField : (s f : ℕ) (def : StructDef) (x : Field) → slice_get program.structs s ≡ Some def → slice_get def.fields f ≡ Some x → x.ty ≡ ty → Occurs program ty
  OfGlobal : (g : ℕ) (def : GlobalDef) → slice_get program.globals g ≡ Some def → def.ty ≡ ty → Occurs program ty
  OfParam : (f i : ℕ) (func : Func) (p : Param) → slice_get program.funcs f ≡ Some func → slice_get func.params i ≡ Some p → p.ty ≡ ty → Occurs program ty
  OfLocal : (f i : ℕ) (func : Func) (l : Local) → slice_get program.funcs f ≡ Some func → slice_get func.locals i ≡ Some l → l.ty ≡ ty → Occurs program ty
  OfAllocation : (f : ℕ) (func : Func) (body : List Stmt) → slice_get program.funcs f ≡ Some func → func.body ≡ Some body → AllocatesIn ty (codes_of body) → Occurs program ty

-- a text stands before another in the order of their bytes
abbrev pub is_before : List ℕ → List ℕ → Bool
is_before xs [] = false
is_before [] (y ∷ ys) = true
is_before (x ∷ xs) (y ∷ ys) = chosen (nat_lt x y) true (chosen (nat_lt y x) false (is_before xs ys))

-- behind the kinds, the lock and the structs the table has the pointer and function types that occur, in the order of their texts
pub record IsOrderedTable (program : Program) : Type 0 where
  pub table : IsTable program
  pub all : (ty : Ty) → Occurs program ty → IsTrue (is_pointer ty) → (i : ℕ) × (slice_get program.types i ≡ Some ty)
  pub only : (i : ℕ) (ty : Ty) → 9 + length program.structs ≤ i → slice_get program.types i ≡ Some ty → Occurs program ty × IsTrue (is_pointer ty)
  pub rises : (i : ℕ) (t u : Ty) → 9 + length program.structs ≤ i → slice_get program.types i ≡ Some t → slice_get program.types (i + 1) ≡ Some u → IsTrue (is_before (type_text program t) (type_text program u))
