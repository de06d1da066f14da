-- protocol
-- In which order the type table of a program is.
use Rattle.std.specs.Prelude.{◌≡◌, ◌⊎◌, ℕ, ◌+◌, ◌<◌, Some, slice_get, List, [], ◌∷◌, ◌++◌, length, IsTrue}
use Rattle.mdr_core.specs.declared.kind.Kind.{Kind}
use Rattle.mdr_core.specs.declared.program.StructDef.{StructDef}
use Rattle.mdr_core.specs.declared.types.Ty.{Ty}
use Rattle.mdr_core.specs.declared.types.Ty.TheVariants as type
use Rattle.mdr_core.specs.Kinds.{kind_number}
use Rattle.mdr_core.specs.TypeText.{text_of, is_before}
use Rattle.mdr_core.specs.Types.{first_types, is_pointer}
use Rattle.mdr_lower.specs.Tables.{Occurs}
use Rattle.mdr_check.specs.declared.table.TextedType.{TextedType}
use Rattle.mdr_check.specs.Tables.{struct_types, types_alone, type_table}
use Rattle.mdr_program.specs.declared.parts.Parts.{Parts}
use Rattle.mdr_program.specs.Occurring.{occurring}
use Rattle.mdr_program.specs.Programs.{made}

-- the text stands before the first of others
abbrev pub StandsAbove : TextedType → List TextedType → Type 0
StandsAbove t [] = Unit {0}
StandsAbove t (u ∷ us) = IsTrue (is_before t.text u.text)

-- each text stands before the next, so none stands there twice
abbrev pub Rise : List TextedType → Type 0
Rise [] = Unit {0}
Rise (t ∷ ts) = StandsAbove t ts × Rise ts

-- the type is one of these
abbrev pub IsAmong : Ty → List Ty → Type 0
IsAmong t [] = ⊥
IsAmong t (u ∷ us) = (u ≡ t) ⊎ IsAmong t us

-- the text is that of one of these
abbrev pub HasText : List ℕ → List TextedType → Type 0
HasText bytes [] = ⊥
HasText bytes (t ∷ ts) = (t.text ≡ bytes) ⊎ HasText bytes ts

-- a pointer that occurs, with its text
pub record IsTexted (structs : List StructDef) (occurring : List Ty) (t : TextedType) : Type 0 where
  pub text : t.text ≡ (text_of structs t.ty).bytes
  pub pointer : IsTrue (is_pointer t.ty)
  pub occurs : IsAmong t.ty occurring

abbrev pub AreTexted : List StructDef → List Ty → List TextedType → Type 0
AreTexted structs occurring [] = Unit {0}
AreTexted structs occurring (t ∷ ts) = IsTexted structs occurring t × AreTexted structs occurring ts

-- the table is the kinds, the lock and the structs, and behind them the pointers that occur, in the order of their texts
pub record IsInOrder (structs : List StructDef) (occurring table : List Ty) : Type 0 where
  pub pointers : List TextedType
  pub parts : table ≡ (first_types ++ struct_types (length structs)) ++ types_alone pointers
  pub texted : AreTexted structs occurring pointers
  pub all : (t : Ty) → IsAmong t occurring → IsTrue (is_pointer t) → HasText (text_of structs t).bytes pointers
  pub rise : Rise pointers

abbrev pub TablesAreInOrder : Type 0
TablesAreInOrder = (structs : List StructDef) (occurring : List Ty) → IsInOrder structs occurring (type_table structs occurring)

-- integer kinds, the lock and structs have the same numbers in each table
pub record HasFirstNumbers (structs : List StructDef) (table : List Ty) : Type 0 where
  pub kinds : (k : Kind) → slice_get table (kind_number k) ≡ Some (type.Int k)
  pub lock : slice_get table 8 ≡ Some type.Lock
  pub numbers : (s : ℕ) → s < length structs → slice_get table (9 + s) ≡ Some (type.Struct s)

abbrev pub TablesHaveFirstNumbers : Type 0
TablesHaveFirstNumbers = (structs : List StructDef) (occurring : List Ty) → HasFirstNumbers structs (type_table structs occurring)

-- the types that the table is made of occur in the program
abbrev pub TypesOccur : Type 0
TypesOccur = (ps : Parts) (t : Ty) → IsAmong t (occurring ps) → Occurs (made ps) t
