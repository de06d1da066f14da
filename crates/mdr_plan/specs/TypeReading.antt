-- protocol
-- Reading the text of a type.
use Rattle.std.specs.Prelude.{ℕ, zero, suc, ◌==◌, Bool, true, false, ◌&&◌, if◌then◌else◌, List, [], ◌∷◌, ◌++◌, length, Option, Some, None, codes}
use Rattle.std.specs.Option.{option_map}
use Rattle.std.specs.Str.{bytes_eq}
use Rattle.mdr_core.specs.declared.kind.Kind.{Kind}
use Rattle.mdr_core.specs.declared.kind.Kind.TheVariants.{U8, U16, U32, U64, S8, S16, S32, S64}
use Rattle.mdr_core.specs.declared.types.Ty.{Ty}
use Rattle.mdr_core.specs.declared.types.Ty.TheVariants as type
use Rattle.mdr_core.specs.Types.{is_scalar, is_pointer}
use Rattle.mdr_plan.specs.Front.{strip, word_at}
use Rattle.mdr_plan.specs.Gives.{◌>>=◌}
use Rattle.mdr_plan.specs.Naming.{Naming}
use Rattle.mdr_plan.specs.TypeTexts.{is_result}

-- what is read at the front, and what stands behind it
abbrev pub Read : Type 0 → Type 0
Read A = Option (A × List ℕ)

unfoldable pub kind_of : List ℕ → Option Kind
kind_of word =
    if bytes_eq word (codes "u8") then Some U8
    else (if bytes_eq word (codes "u16") then Some U16
    else (if bytes_eq word (codes "u32") then Some U32
    else (if bytes_eq word (codes "u64") then Some U64
    else (if bytes_eq word (codes "s8") then Some S8
    else (if bytes_eq word (codes "s16") then Some S16
    else (if bytes_eq word (codes "s32") then Some S32
    else (if bytes_eq word (codes "s64") then Some S64
    else None)))))))

unfoldable pub plain_of : List ℕ → Option Ty
plain_of word = if bytes_eq word (codes "combolock_t") then Some type.Lock else option_map type.Int (kind_of word)

-- the type with the stars at the front
abbrev pub stars : Ty → List ℕ → Ty × List ℕ
stars t [] = (t, [])
stars t (b ∷ bytes) = if b == 42 then stars (type.Ptr t) bytes else (t, b ∷ bytes)

abbrev pub behind_by : Option (List ℕ) → (t p : Ty) → List ℕ → Ty × List ℕ
behind_by (Some rest) t p bytes = stars p rest
behind_by None t p bytes = (t, bytes)

-- the type t with the stars that may stand behind it; p is a pointer to it
unfoldable pub behind : (t p : Ty) → List ℕ → Ty × List ℕ
behind t p bytes = behind_by (strip (codes " *") bytes) t p bytes

unfoldable pub plain_at : List ℕ → List ℕ → Read Ty
plain_at word bytes = do
  t ← plain_of word
  Some (behind t (type.Ptr t) bytes)

unfoldable pub struct_at : Naming → List ℕ → Read Ty
struct_at names bytes = do
  rest ← strip (codes " ") bytes
  s ← names (word_at rest).0
  Some (behind (type.Struct s) (type.Ptr (type.Struct s)) (word_at rest).1)

abbrev pub when : {A : Type 0} → Bool → Option A → Option A
when b o = if b then o else None

-- the end of the parameters, or more of them
abbrev pub closed : Option (List ℕ) → (List Ty → List ℕ → Read (List Ty)) → List Ty → List ℕ → Read (List Ty)
closed (Some rest) more ts bytes = Some (ts, rest)
closed None more ts bytes = more ts bytes

-- behind the result and the semicolon
unfoldable pub params_by : (List Ty → List ℕ → Read (List Ty)) → List Ty → List ℕ → Read (List Ty)
params_by more ts bytes = closed (strip (codes ")") bytes) more ts bytes

-- behind a parameter
unfoldable pub others_by : (List Ty → List ℕ → Read (List Ty)) → List Ty → List ℕ → Read (List Ty)
others_by more ts bytes = closed (strip (codes ")") bytes) (λ us bs. strip (codes ",") bs >>= more us) ts bytes

-- a parameter and those behind it
unfoldable pub more_by : (List ℕ → Read Ty) → (List Ty → List ℕ → Read (List Ty)) → List Ty → List ℕ → Read (List Ty)
more_by one more ts bytes = do
  t ← one bytes
  when (is_scalar t.0) (others_by more (ts ++ t.0 ∷ []) t.1)

-- the types of a function's signature
unfoldable pub signature_by : (List ℕ → Read Ty) → (List Ty → List ℕ → Read (List Ty)) → List ℕ → Read (List Ty)
signature_by one more bytes = do
  r ← one bytes
  rest ← strip (codes ";") r.1
  when (is_result r.0) (params_by more (r.0 ∷ []) rest)

unfoldable pub fun_by : (List ℕ → Read Ty) → (List Ty → List ℕ → Read (List Ty)) → List ℕ → Read Ty
fun_by one more bytes = do
  inner ← strip (codes "(") bytes
  ts ← signature_by one more inner
  Some (behind (type.Fun ts.0) (type.Ptr (type.Fun ts.0)) ts.1)

unfoldable pub typed_by : (List ℕ → Read Ty) → (List Ty → List ℕ → Read (List Ty)) → Naming → List ℕ → List ℕ → Read Ty
typed_by one more names word bytes =
    if bytes_eq word (codes "fn") then fun_by one more bytes
    else (if bytes_eq word (codes "struct") then struct_at names bytes
    else (if bytes_eq word (codes "void") then Some (behind type.Void type.VoidPtr bytes)
    else plain_at word bytes))

-- where at most so many types stand inside one another
abbrev mutual
  pub type_at : ℕ → Naming → List ℕ → Read Ty
  type_at zero names bytes = None
  type_at (suc n) names bytes = typed_by (λ bs. type_at n names bs) (λ ts bs. more_at n names ts bs) names (word_at bytes).0 (word_at bytes).1

  pub more_at : ℕ → Naming → List Ty → List ℕ → Read (List Ty)
  more_at zero names ts bytes = None
  more_at (suc n) names ts bytes = more_by (λ bs. type_at n names bs) (λ us bs. more_at n names us bs) ts bytes

abbrev pub is_empty : List ℕ → Bool
is_empty [] = true
is_empty (b ∷ bytes) = false

-- a type, all of the bytes
unfoldable pub type_of : Naming → List ℕ → Option Ty
type_of names bytes = do
  t ← type_at (length bytes) names bytes
  when (is_empty t.1) (Some t.0)

-- a pointer type, all of the bytes
unfoldable pub pointer_of : Naming → List ℕ → Option Ty
pointer_of names bytes = do
  t ← type_at (length bytes) names bytes
  when (is_pointer t.0 && is_empty t.1) (Some t.0)
