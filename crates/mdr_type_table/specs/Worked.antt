-- protocol
-- Texts of types where a struct's name begins another's, and types that aren't told apart.
use Rattle.std.specs.Prelude.{◌≡◌, ℕ, List, [], ◌∷◌, codes}
use Rattle.mdr_core.specs.declared.types.Ty.{Ty}
use Rattle.mdr_core.specs.declared.types.Ty.TheVariants as type
use Rattle.mdr_core.specs.declared.program.StructDef.{StructDef}
use Rattle.mdr_core.specs.TypeText.{text_of}
use Rattle.mdr_plan.specs.TypeTexts.{structs_named}
use Rattle.mdr_type_table.specs.Apart.{AreNamed, IsFormed}

abbrev pub two : List StructDef
two = structs_named (codes "a" ∷ codes "ab" ∷ [])

abbrev pub twins : List StructDef
twins = structs_named (codes "a" ∷ codes "a" ∷ [])

abbrev pub bytes_of : List StructDef → Ty → List ℕ
bytes_of structs ty = (text_of structs ty).bytes

pub record WorkedTexts : Type 0 where
  pub named : AreNamed two
  pub formed : IsFormed two (type.Ptr (type.Struct 0))
  pub shorter : bytes_of two (type.Struct 0) ≡ codes "struct a"
  pub longer : bytes_of two (type.Struct 1) ≡ codes "struct ab"
  pub pointer : bytes_of two (type.Ptr (type.Struct 0)) ≡ codes "struct a *"
  pub function : bytes_of two (type.Fun (type.Void ∷ [])) ≡ codes "fn(void;)"
  -- structs of one name, and a pointer to `void` that is written as if it were one to an object, which isn't formed
  pub twins_are_one : bytes_of twins (type.Struct 0) ≡ bytes_of twins (type.Struct 1)
  pub void_pointers_are_one : bytes_of two (type.Ptr type.Void) ≡ bytes_of two type.VoidPtr
  pub unformed : IsFormed two (type.Ptr type.Void) → ⊥
