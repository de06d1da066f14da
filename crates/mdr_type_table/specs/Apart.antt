-- protocol
-- What the texts of types tell apart.
use Rattle.std.specs.Prelude.{◌≡◌, ℕ, ◌^◌, ◌≤◌, List, length, map, Some, slice_get, IsTrue}
use Rattle.std.specs.List.{list_all}
use Rattle.mdr_core.specs.declared.types.Ty.{Ty}
use Rattle.mdr_core.specs.declared.program.StructDef.{StructDef}
use Rattle.mdr_core.specs.TypeText.{text_of}
use Rattle.mdr_core.specs.Types.{Wrong, sort_of, is_pointer}
use Rattle.mdr_syntax.specs.Bytes.{is_name_byte}
use Rattle.mdr_plan.specs.Naming.{struct_number}
use Rattle.mdr_plan.specs.TypeTexts.{IsPointerText}

-- the structs have different names, of letters, digits and `_` (C99 6.4.2.1)
pub record AreNamed (structs : List StructDef) : Type 0 where
  pub words : (s : ℕ) (def : StructDef) → slice_get structs s ≡ Some def → IsTrue (list_all is_name_byte def.name)
  pub once : (r s : ℕ) (one other : StructDef) → slice_get structs r ≡ Some one → slice_get structs s ≡ Some other → one.name ≡ other.name → r ≡ s

-- the type is one of those that there are with these structs (C99 6.2.5)
pub record IsFormed (structs : List StructDef) (ty : Ty) : Type 0 where
  pub formed : sort_of (length structs) ty ≡ Wrong → ⊥

abbrev pub TextsTellTypesApart : Type 0
TextsTellTypesApart = (structs : List StructDef) (t u : Ty) → AreNamed structs → IsFormed structs t → IsFormed structs u → (text_of structs t).bytes ≡ (text_of structs u).bytes → t ≡ u

abbrev pub names_of : List StructDef → List (List ℕ)
names_of structs = map (λ (def : StructDef). def.name) structs

abbrev pub PointerTextsAreRead : Type 0
PointerTextsAreRead = (structs : List StructDef) (ty : Ty) → AreNamed structs → length structs ≤ 2 ^ 32 → IsFormed structs ty → IsTrue (is_pointer ty) → IsPointerText (struct_number (names_of structs)) ty (text_of structs ty).bytes
