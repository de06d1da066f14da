-- believed
-- The type table of a program.
use Rattle.std.specs.Prelude.{ℕ, zero, suc, ◌+◌, not, Bool, true, false, List, [], ◌∷◌, ◌++◌, map, length, insert, position, Option, Some, None, slice_get}
use Rattle.std.specs.Str.{bytes_eq}
use Rattle.mdr_core.specs.declared.program.StructDef.{StructDef}
use Rattle.mdr_core.specs.declared.types.Ty.{Ty}
use Rattle.mdr_core.specs.declared.types.Ty.TheVariants as type
use Rattle.mdr_core.specs.Layout.{chosen}
use Rattle.mdr_core.specs.TypeText.{text_of, is_before}
use Rattle.mdr_core.specs.Types.{first_types, is_pointer}
use Rattle.mdr_check.specs.declared.table.TextedType.{TextedType}

-- the first n structs
unfoldable pub struct_types : ℕ → List Ty
struct_types zero = []
struct_types (suc n) = struct_types n ++ type.Struct n ∷ []

unfoldable pub texted : List StructDef → Ty → TextedType
texted structs t = record { text = (text_of structs t).bytes; ty = t }

abbrev pub is_same_at : Option TextedType → TextedType → Bool
is_same_at None t = true
is_same_at (Some u) t = bytes_eq u.text t.text

abbrev pub unless_same : List TextedType → ℕ → TextedType → List TextedType
unless_same ts i t = chosen (is_same_at (slice_get ts i) t) ts (insert ts i t)

abbrev pub put_at : List TextedType → TextedType → Option ℕ → List TextedType
put_at ts t None = ts ++ t ∷ []
put_at ts t (Some i) = unless_same ts i t

-- a type stands behind those whose texts stand before its own. A text stands there once
unfoldable pub with_type : List TextedType → TextedType → List TextedType
with_type ts t = put_at ts t (position (λ u. not (is_before u.text t.text)) ts)

-- pointers alone: kinds, the lock and structs stand in the table anyhow
abbrev pub with_pointer : (is_pointer : Bool) → List StructDef → List TextedType → Ty → List TextedType
with_pointer true structs ts t = with_type ts (texted structs t)
with_pointer false structs ts t = ts

unfoldable pub with_pointers : List StructDef → List TextedType → List Ty → List TextedType
with_pointers structs ts [] = ts
with_pointers structs ts (u ∷ us) = with_pointers structs (with_pointer (is_pointer u) structs ts u) us

abbrev pub types_alone : List TextedType → List Ty
types_alone ts = map (λ t. t.ty) ts

-- the table of a program with these structs, in which these types occur: the kinds, the lock, the structs, and the pointers in the order of their texts
unfoldable pub type_table : List StructDef → List Ty → List Ty
type_table structs occurring = (first_types ++ struct_types (length structs)) ++ types_alone (with_pointers structs [] occurring)
