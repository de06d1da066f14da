-- protocol
-- Structs in arrays of structs, worked out: the keys of cells, and the struct around each.
use Rattle.std.specs.Prelude.{◌≡◌, ℕ, [], ◌∷◌, ◌++◌, codes, Some, None, false}
use Rattle.mdr_core.specs.declared.kind.Kind.TheVariants.{U8, U32}
use Rattle.mdr_core.specs.declared.plan.Key.TheVariants as key
use Rattle.mdr_core.specs.declared.program.Field.{Field}
use Rattle.mdr_core.specs.declared.program.Program.{Program}
use Rattle.mdr_core.specs.declared.program.StructDef.{StructDef}
use Rattle.mdr_core.specs.declared.types.Ann.{Ann}
use Rattle.mdr_core.specs.declared.types.Ann.TheVariants.{Array, Single}
use Rattle.mdr_core.specs.declared.types.LenOf.TheVariants.{Sibling}
use Rattle.mdr_core.specs.declared.types.Ty.{Ty}
use Rattle.mdr_core.specs.declared.types.Ty.TheVariants as ty
use Rattle.mdr_core.specs.Types.{first_types}
use Rattle.mdr_model.specs.declared.message.BirthKind.TheVariants.{Heap}
use Rattle.mdr_model.specs.declared.message.New.{New}
use Rattle.mdr_extents.specs.Around.{ann_of, key_of, offsets_of, struct_start}

abbrev pub field : Ty → (count : ℕ) → Ann → Field
field t count ann = record { name = []; ty = t; count = count; array = false; ann = ann }

-- struct part {u32 n; u8 *p __array(n);}; struct whole {u32 x; struct part parts[2]; u8 last;};
abbrev pub part : StructDef
part = record { name = codes "part"; fields = field (ty.Int U32) 1 Single ∷ field (ty.Ptr (ty.Int U8)) 1 (Array (Sibling 0)) ∷ [] }

abbrev pub whole : StructDef
whole = record { name = codes "whole"; fields = field (ty.Int U32) 1 Single ∷ field (ty.Struct 0) 2 Single ∷ field (ty.Int U8) 1 Single ∷ [] }

abbrev pub program : Program
program = record { types = first_types ++ (ty.Struct 1 ∷ []); structs = part ∷ whole ∷ []; globals = []; funcs = [] }

-- two such structs, of 6 cells each
abbrev pub two : New
two = record { serial = 0; kind = Heap; ty = 9; count = 2 }

pub record FindsStructs : Type 0 where
  pub offsets : offsets_of program two ≡ 0 ∷ 0 ∷ 1 ∷ 0 ∷ 1 ∷ 5 ∷ 0 ∷ 0 ∷ 1 ∷ 0 ∷ 1 ∷ 5 ∷ []
  -- the pointer in the last part of the second struct: its length stands in the cell before
  pub pointer : key_of program two 10 ≡ Some (key.Field 0 1)
  pub annotated : ann_of program (key.Field 0 1) ≡ Array (Sibling 0)
  pub start : struct_start program two 10 ≡ 9
  -- behind a struct within a struct the outer one goes on
  pub last : key_of program two 11 ≡ Some (key.Field 1 2)
  pub outer : struct_start program two 11 ≡ 6
  pub none : key_of program two 12 ≡ None
