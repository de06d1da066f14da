-- for proofs
-- Plans that have all their lines in the order in which a text has them.
use Rattle.std.specs.Prelude.{◌≡◌, ℕ, ◌+◌, ◌^◌, ◌≤◌, List, [], ◌∷◌, ◌++◌, length, Option, Some, None, IsTrue}
use Rattle.mdr_core.specs.declared.kind.Kind.TheVariants.{U8, U16, U32, U64, S8, S16, S32, S64}
use Rattle.mdr_core.specs.declared.plan.Half.{Half}
use Rattle.mdr_core.specs.declared.plan.Half.TheVariants.{Kernel, User}
use Rattle.mdr_core.specs.declared.plan.Key.{Key}
use Rattle.mdr_core.specs.declared.plan.Plan.{Plan}
use Rattle.mdr_core.specs.declared.types.Ty.{Ty}
use Rattle.mdr_core.specs.declared.types.Ty.TheVariants as type
use Rattle.mdr_core.specs.TypeText.{is_before}
use Rattle.mdr_plan.specs.Lines.{IsSmall, is_there, is_after}
use Rattle.mdr_plan.specs.Naming.{is_new, struct_number}
use Rattle.mdr_plan.specs.TypeTexts.{IsPointerText}

-- the types that each table begins with
abbrev pub first_types : List Ty
first_types = type.Int U8 ∷ type.Int U16 ∷ type.Int U32 ∷ type.Int U64 ∷ type.Int S8 ∷ type.Int S16 ∷ type.Int S32 ∷ type.Int S64 ∷ type.Lock ∷ []

-- a type for each of these structs, from number k on
abbrev pub struct_types : ℕ → List (List ℕ) → List Ty
struct_types k [] = []
struct_types k (name ∷ names) = type.Struct k ∷ struct_types (k + 1) names

-- names, each of which is none of those before it
abbrev pub AreNew : (before : List (List ℕ)) → List (List ℕ) → Type 0
AreNew before [] = Unit {0}
AreNew before (name ∷ names) = IsTrue (is_new before name) × AreNew (before ++ name ∷ []) names

-- pointer types over structs of these names, in the order of their texts, behind the text `last`
pub data ArePointers (names : List (List ℕ)) : (last : List ℕ) → List Ty → Type 0 where
  NoPointers : (last : List ℕ) → ArePointers names last []
  Pointer : (last text : List ℕ) (ty : Ty) (types : List Ty) → IsPointerText (struct_number names) ty text → IsTrue (is_before last text) → ArePointers names text types → ArePointers names last (ty ∷ types)

-- keys of 32 bits that rise behind `last`, of structs and types that are there
pub data AreKeys (structs types : ℕ) : (last : Option Key) → List Key → Type 0 where
  NoKeys : (last : Option Key) → AreKeys structs types last []
  Behind : (last : Option Key) (key : Key) (keys : List Key) → IsTrue (is_there structs types key) → IsTrue (is_after last key) → IsSmall key → AreKeys structs types (Some key) keys → AreKeys structs types last (key ∷ keys)

-- each function of the user half has such keys, and one of the kernel half has none
pub data AreKeyed (structs types : ℕ) : List Half → List (List Key) → Type 0 where
  NoFunctions : AreKeyed structs types [] []
  OfKernel : (halves : List Half) (lists : List (List Key)) → AreKeyed structs types halves lists → AreKeyed structs types (Kernel ∷ halves) ([] ∷ lists)
  OfUser : (halves : List Half) (keys : List Key) (lists : List (List Key)) → AreKeys structs types None keys → AreKeyed structs types halves lists → AreKeyed structs types (User ∷ halves) (keys ∷ lists)

-- a plan for a program whose structs have these names
pub record IsCanonical (names : List (List ℕ)) (plan : Plan) : Type 0 where
  pub structs : AreNew [] names
  pub few_structs : length names ≤ 2 ^ 32
  pub pointers : List Ty
  pub rise : ArePointers names [] pointers
  pub types : plan.types ≡ first_types ++ (struct_types 0 names ++ pointers)
  pub functions : AreNew [] plan.names
  pub few : length plan.names ≤ 2 ^ 64
  pub halves : length plan.halves ≡ length plan.names
  pub roots : length plan.roots ≡ length plan.names
  pub down : length plan.down ≡ length plan.names
  pub keys : AreKeyed (length names) (length plan.types) plan.halves plan.keys
