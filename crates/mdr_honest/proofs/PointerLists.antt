-- A type table in order, as the lines of a plan have it.
use Rattle.std.proofs.Common.{◌≡◌, ℕ, zero, suc, ◌<◌, ◌+◌, Bool, true, false, List, [], ◌∷◌, ◌++◌, length, drop, Some, None, slice_get, IsTrue, refl, sym, ap, ◌∙◌, arith}
use Rattle.mdr_core.specs.declared.kind.Kind.TheVariants.{U8, U16, U32, U64, S8, S16, S32, S64}
use Rattle.mdr_core.specs.declared.types.Ty.{Ty, out-Ty}
use Rattle.mdr_core.specs.declared.types.Ty.TheOpen.{Ty-F}
use Rattle.mdr_core.specs.declared.types.Ty.TheFolds.{map-Ty}
use Rattle.mdr_core.specs.declared.types.Ty.TheVariants as type
use Rattle.mdr_core.specs.declared.program.StructDef.{StructDef}
use Rattle.mdr_core.specs.TypeText.{Text, star, text_layer, text_of, is_before}
use Rattle.mdr_core.specs.Types.{is_pointer, is_pointer_by}
use Rattle.mdr_plan.specs.Naming.{struct_number}
use Rattle.mdr_plan.specs.TypeTexts.{IsPointerText}
use Rattle.mdr_texts.specs.Canonical.{ArePointers, first_types, struct_types}
use Rattle.mdr_texts.specs.Canonical.ArePointers.{NoPointers, Pointer}
use Rattle.mdr_type_table.proofs.Levels.{text_at}

-- ---- lists by their items

pub get_drop : {A : Type 0} (n : ℕ) (xs : List A) (i : ℕ) → slice_get (drop n xs) i ≡ slice_get xs (n + i)
get_drop zero xs i = let on : i ≡ zero + i = omega arith in ap (slice_get xs) on
get_drop (suc n) [] i = refl
get_drop (suc n) (x ∷ xs) i = get_drop n xs i ∙ (let on : suc (n + i) ≡ suc n + i = omega arith in ap (slice_get (x ∷ xs)) on)

front_from : (front ts : List Ty) → ((i : ℕ) (t : Ty) → slice_get front i ≡ Some t → slice_get ts i ≡ Some t) → ts ≡ front ++ drop (length front) ts
front_from [] ts h = refl
front_from (t ∷ front) [] h = let no : None ≡ Some t = h 0 t refl in absurd cc
front_from (t ∷ front) (u ∷ ts) h =
    let first : Some u ≡ Some t = h 0 t refl in
    let same : u ≡ t = cc in
    let rest : ts ≡ front ++ drop (length front) ts = front_from front ts (λ i v e. h (suc i) v e) in
    ap (λ (v : Ty). v ∷ ts) same ∙ ap (λ (vs : List Ty). t ∷ vs) rest

-- a struct's type among those of all
struct_get : (k : ℕ) (names : List (List ℕ)) (i : ℕ) (t : Ty) → slice_get (struct_types k names) i ≡ Some t → (i < length names) × (t ≡ type.Struct (k + i))
struct_get k [] i t e = absurd cc
struct_get k (name ∷ names) zero t e =
    let same : type.Struct k ≡ t = cc in
    let on : k ≡ k + zero = omega arith in
    (omega arith, sym same ∙ ap type.Struct on)
struct_get k (name ∷ names) (suc i) t e =
    let rest = struct_get (k + 1) names i t e in
    let lt : i < length names = rest.0 in
    let on : k + 1 + i ≡ k + suc i = omega arith in
    (omega (arith, lt), rest.1 ∙ ap type.Struct on)

struct_count : (k : ℕ) (names : List (List ℕ)) → length (struct_types k names) ≡ length names
struct_count k [] = refl
struct_count k (name ∷ names) = ap suc (struct_count (k + 1) names)

pub structs_from : (names : List (List ℕ)) (ts : List Ty) → ((s : ℕ) → s < length names → slice_get ts s ≡ Some (type.Struct s)) → ts ≡ struct_types 0 names ++ drop (length names) ts
structs_from names ts h =
    front_from (struct_types 0 names) ts
    (λ i t e.
    let at = struct_get 0 names i t e in
    let on : 0 + i ≡ i = omega arith in
    h i at.0 ∙ ap (λ (s : ℕ). Some (type.Struct s)) (sym on) ∙ ap Some (sym at.1))
    ∙ ap (λ (n : ℕ). struct_types 0 names ++ drop n ts) (struct_count 0 names)

pub firsts_from : (ts : List Ty) → slice_get ts 0 ≡ Some (type.Int U8) → slice_get ts 1 ≡ Some (type.Int U16) → slice_get ts 2 ≡ Some (type.Int U32) → slice_get ts 3 ≡ Some (type.Int U64)
    → slice_get ts 4 ≡ Some (type.Int S8) → slice_get ts 5 ≡ Some (type.Int S16) → slice_get ts 6 ≡ Some (type.Int S32) → slice_get ts 7 ≡ Some (type.Int S64) → slice_get ts 8 ≡ Some type.Lock
    → ts ≡ first_types ++ drop 9 ts
firsts_from ts a b c d e f g h l = front_from first_types ts by
  where
    by : (i : ℕ) (t : Ty) → slice_get first_types i ≡ Some t → slice_get ts i ≡ Some t
    by zero t q = a ∙ q
    by (suc zero) t q = b ∙ q
    by (suc (suc zero)) t q = c ∙ q
    by (suc (suc (suc zero))) t q = d ∙ q
    by (suc (suc (suc (suc zero)))) t q = e ∙ q
    by (suc (suc (suc (suc (suc zero))))) t q = f ∙ q
    by (suc (suc (suc (suc (suc (suc zero)))))) t q = g ∙ q
    by (suc (suc (suc (suc (suc (suc (suc zero))))))) t q = h ∙ q
    by (suc (suc (suc (suc (suc (suc (suc (suc zero)))))))) t q = l ∙ q
    by (suc (suc (suc (suc (suc (suc (suc (suc (suc i))))))))) t q = absurd cc

-- ---- pointers

starred_some : (bytes : List ℕ) (s : Bool) → is_before [] (bytes ++ star s) ≡ true
starred_some [] true = refl
starred_some [] false = refl
starred_some (b ∷ bytes) s = refl

some_layer : (structs : List StructDef) (l : Ty-F Ty) → IsTrue (is_pointer_by l) → is_before [] (text_layer structs (map-Ty Ty Text (text_of structs) l)).bytes ≡ true
some_layer structs (Ty-F.Int k) p = absurd cc
some_layer structs Ty-F.Lock p = absurd cc
some_layer structs (Ty-F.Struct s) p = absurd cc
some_layer structs (Ty-F.Ptr t) p = starred_some (text_of structs t).bytes (text_of structs t).starred
some_layer structs Ty-F.VoidPtr p = refl
some_layer structs (Ty-F.Fun ts) p = refl
some_layer structs Ty-F.Void p = absurd cc

-- a pointer's text isn't empty
pub text_some : (structs : List StructDef) (t : Ty) → IsTrue (is_pointer t) → IsTrue (is_before [] (text_of structs t).bytes)
text_some structs t p = ap (λ (x : Text). is_before [] x.bytes) (text_at structs t (out-Ty t) refl) ∙ some_layer structs (out-Ty t) p

module _ (names : List (List ℕ)) (text : Ty → List ℕ) where
  pub pointers_on : (last : List ℕ) (ts : List Ty)
      → ((i : ℕ) (t : Ty) → slice_get ts i ≡ Some t → IsPointerText (struct_number names) t (text t))
      → ((i : ℕ) (t u : Ty) → slice_get ts i ≡ Some t → slice_get ts (suc i) ≡ Some u → IsTrue (is_before (text t) (text u)))
      → ((t : Ty) → slice_get ts 0 ≡ Some t → IsTrue (is_before last (text t)))
      → ArePointers names last ts
  pointers_on last [] each rises first = NoPointers last
  pointers_on last (t ∷ ts) each rises first =
      Pointer last (text t) t ts (each 0 t refl) (first t refl) (pointers_on (text t) ts (λ i. each (suc i)) (λ i. rises (suc i)) (λ u e. rises 0 t u refl e))
