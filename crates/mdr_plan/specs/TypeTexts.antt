-- believed
-- The types that a plan's text may name, each with its text.
use Rattle.std.specs.Prelude.{◌≡◌, ℕ, Bool, true, false, ◌||◌, List, [], ◌∷◌, ◌++◌, length, map, Some, IsTrue, codes}
use Rattle.std.specs.List.{prefix_len}
use Rattle.mdr_core.specs.declared.kind.Kind.{Kind}
use Rattle.mdr_core.specs.declared.types.Ty.{Ty, out-Ty}
use Rattle.mdr_core.specs.declared.types.Ty.TheOpen.{Ty-F}
use Rattle.mdr_core.specs.declared.types.Ty.TheVariants as type
use Rattle.mdr_core.specs.declared.program.StructDef.{StructDef}
use Rattle.mdr_core.specs.TypeText.{Text, kind_text, star, signature_text}
use Rattle.mdr_core.specs.Types.{is_scalar, is_pointer}
use Rattle.mdr_syntax.specs.Bytes.{is_name_byte}
use Rattle.mdr_plan.specs.Naming.{Naming}

abbrev pub is_void_by : Ty-F Ty → Bool
is_void_by (Ty-F.Int k) = false
is_void_by Ty-F.Lock = false
is_void_by (Ty-F.Struct s) = false
is_void_by (Ty-F.Ptr t) = false
is_void_by Ty-F.VoidPtr = false
is_void_by (Ty-F.Fun ts) = false
is_void_by Ty-F.Void = true

-- what a function may give: nothing or a scalar (C99 6.9.1, paragraph 3)
abbrev pub is_result : Ty → Bool
is_result ty = is_void_by (out-Ty ty) || is_scalar ty

abbrev pub text : List ℕ → Bool → Text
text bytes starred = record { bytes = bytes; starred = starred }

mutual
  -- the type, the type of a pointer to it, and its text, where names name structs so
  pub data Written (names : Naming) : Ty → Ty → Text → Type 0 where
    OfInt : (k : Kind) → Written names (type.Int k) (type.Ptr (type.Int k)) (text (kind_text k) false)
    OfLock : Written names type.Lock (type.Ptr type.Lock) (text (codes "combolock_t") false)
    OfStruct : (s : ℕ) (name : List ℕ) → names name ≡ Some s → prefix_len is_name_byte name ≡ length name → Written names (type.Struct s) (type.Ptr (type.Struct s)) (text (codes "struct " ++ name) false)
    OfVoid : Written names type.Void type.VoidPtr (text (codes "void") false)
    OfPtr : (t p : Ty) (x : Text) → Written names t p x → Written names p (type.Ptr p) (text (x.bytes ++ star x.starred) true)
    OfFun : (r p : Ty) (ts : List Ty) (x : Text) (xs : List Text) → Written names r p x → IsTrue (is_result r) → AreParams names ts xs → Written names (type.Fun (r ∷ ts)) (type.Ptr (type.Fun (r ∷ ts))) (text (codes "fn(" ++ (signature_text (x ∷ xs) ++ codes ")")) false)

  -- parameters are scalars
  pub data AreParams (names : Naming) : List Ty → List Text → Type 0 where
    NoParams : AreParams names [] []
    Param : (t p : Ty) (ts : List Ty) (x : Text) (xs : List Text) → Written names t p x → IsTrue (is_scalar t) → AreParams names ts xs → AreParams names (t ∷ ts) (x ∷ xs)

-- structs of these names, without fields
abbrev pub struct_named : List ℕ → StructDef
struct_named name = record { name = name; fields = [] }

abbrev pub structs_named : List (List ℕ) → List StructDef
structs_named names = map struct_named names

-- a pointer type whose parts are there, and its text
pub record IsPointerText (names : Naming) (ty : Ty) (bytes : List ℕ) : Type 0 where
  pub pointer : Ty
  pub whole : Text
  pub written : Written names ty pointer whole
  pub points : IsTrue (is_pointer ty)
  pub same : whole.bytes ≡ bytes
