-- protocol
-- A network driver's types worked out: what the definitions of layout and views compute to on them.
use Rattle.std.specs.Prelude.{◌≡◌, ℕ, Bool, true, false, List, [], ◌∷◌, ◌++◌, length, map, Some, None, codes, pos}
use Rattle.mdr_core.specs.declared.kind.Kind.TheVariants.{U8, U32, S32}
use Rattle.mdr_core.specs.declared.types.Ty.{Ty}
use Rattle.mdr_core.specs.declared.types.Ty.TheVariants as ty
use Rattle.mdr_core.specs.declared.types.Ann.TheVariants.{Single}
use Rattle.mdr_core.specs.declared.types.Shape.{Shape}
use Rattle.mdr_core.specs.declared.value.Value.{Value}
use Rattle.mdr_core.specs.declared.value.Value.TheVariants as value
use Rattle.mdr_core.specs.declared.value.LockState.TheVariants.{Free}
use Rattle.mdr_core.specs.declared.value.View.{View}
use Rattle.mdr_core.specs.declared.plan.Key.{Key}
use Rattle.mdr_core.specs.declared.plan.Key.TheVariants as key
use Rattle.mdr_core.specs.declared.program.Program.{Program}
use Rattle.mdr_core.specs.declared.program.StructDef.{StructDef}
use Rattle.mdr_core.specs.declared.program.Field.{Field}
use Rattle.mdr_core.specs.declared.program.GlobalDef.{GlobalDef}
use Rattle.mdr_core.specs.Layout.{struct_cells, key_at, zero_at}
use Rattle.mdr_core.specs.Types.{first_types}
use Rattle.mdr_core.specs.Views.{IsViewOf}

abbrev pub field : List ℕ → Ty → Field
field name type = record { name = name; ty = type; count = 1; array = false; ann = Single }

abbrev pub array_field : List ℕ → Ty → ℕ → Field
array_field name type count = record { name = name; ty = type; count = count; array = true; ann = Single }

abbrev pub u32 : Ty
u32 = ty.Int U32

abbrev pub buf_pointer : Ty
buf_pointer = ty.Ptr (ty.Struct 0)

-- s32 (*)(u32)
abbrev pub run_pointer : Ty
run_pointer = ty.Fun (ty.Int S32 ∷ u32 ∷ [])

-- struct buf { u32 len; u8 bytes[8]; struct buf *next; };
abbrev pub buf : StructDef
buf = record {
  name = codes "buf";
  fields = field (codes "len") u32 ∷ array_field (codes "bytes") (ty.Int U8) 8 ∷ field (codes "next") buf_pointer ∷ [];
}

-- struct stats { u32 sent; u32 got; u32 errors; };
abbrev pub stats : StructDef
stats = record { name = codes "stats"; fields = field (codes "sent") u32 ∷ field (codes "got") u32 ∷ field (codes "errors") u32 ∷ [] }

-- struct card { combolock_t lock; u32 state; struct stats st; struct buf *ring[4]; u32 head; struct buf *spare; };
abbrev pub card : StructDef
card = record {
  name = codes "card";
  fields =
      field (codes "lock") ty.Lock
      ∷ field (codes "state") u32
      ∷ field (codes "st") (ty.Struct 1)
      ∷ array_field (codes "ring") buf_pointer 4
      ∷ field (codes "head") u32
      ∷ field (codes "spare") buf_pointer
      ∷ [];
}

-- struct op { u32 code; s32 (*run)(u32 arg); };
abbrev pub op : StructDef
op = record { name = codes "op"; fields = field (codes "code") u32 ∷ field (codes "run") run_pointer ∷ [] }

abbrev pub no_number : Value
no_number = value.Int U32 (pos 0)

abbrev pub no_byte : Value
no_byte = value.Int U8 (pos 0)

-- the zero of each cell of a struct
abbrev pub buf_zeros : List Value
buf_zeros = no_number ∷ no_byte ∷ no_byte ∷ no_byte ∷ no_byte ∷ no_byte ∷ no_byte ∷ no_byte ∷ no_byte ∷ value.Null ∷ []

abbrev pub card_zeros : List Value
card_zeros =
    value.Lock Free
    ∷ no_number
    ∷ no_number
    ∷ no_number
    ∷ no_number
    ∷ value.Null
    ∷ value.Null
    ∷ value.Null
    ∷ value.Null
    ∷ no_number
    ∷ value.Null
    ∷ []

abbrev pub ops_zeros : List Value
ops_zeros = no_number ∷ value.Null ∷ no_number ∷ value.Null ∷ no_number ∷ value.Null ∷ []

abbrev pub global : List ℕ → Ty → ℕ → Bool → List Value → GlobalDef
global name type count array init = record { name = name; ty = type; count = count; array = array; ann = Single; init = init }

-- the type of each number from 9 on: the structs, then pointers in the order of their texts, fn(s32;u32) and struct buf *
abbrev pub driver_types : List Ty
driver_types = ty.Struct 0 ∷ ty.Struct 1 ∷ ty.Struct 2 ∷ ty.Struct 3 ∷ run_pointer ∷ buf_pointer ∷ []

-- struct card card; struct op ops[3]; u32 mode;
abbrev pub driver : Program
driver = record {
  types = first_types ++ driver_types;
  structs = buf ∷ stats ∷ card ∷ op ∷ [];
  globals =
      global (codes "card") (ty.Struct 2) 1 false card_zeros
      ∷ global (codes "ops") (ty.Struct 3) 3 true ops_zeros
      ∷ global (codes "mode") u32 1 false (no_number ∷ [])
      ∷ [];
  funcs = [];
}

-- ---- cells

-- 1 + 8 + 1, 3, 1 + 1 + 3 + 4 + 1 + 1 and 2
pub record StructsHaveCells : Type 0 where
  pub of_buf : length (struct_cells driver.structs 0) ≡ 10
  pub of_stats : length (struct_cells driver.structs 1) ≡ 3
  pub of_card : length (struct_cells driver.structs 2) ≡ 11
  pub of_op : length (struct_cells driver.structs 3) ≡ 2

-- the innermost field around each cell
abbrev pub buf_keys : List Key
buf_keys =
    key.Field 0 0
    ∷ key.Field 0 1
    ∷ key.Field 0 1
    ∷ key.Field 0 1
    ∷ key.Field 0 1
    ∷ key.Field 0 1
    ∷ key.Field 0 1
    ∷ key.Field 0 1
    ∷ key.Field 0 1
    ∷ key.Field 0 2
    ∷ []

abbrev pub card_keys : List Key
card_keys =
    key.Field 2 0
    ∷ key.Field 2 1
    ∷ key.Field 1 0
    ∷ key.Field 1 1
    ∷ key.Field 1 2
    ∷ key.Field 2 3
    ∷ key.Field 2 3
    ∷ key.Field 2 3
    ∷ key.Field 2 3
    ∷ key.Field 2 4
    ∷ key.Field 2 5
    ∷ []

abbrev pub ten : List ℕ
ten = 0 ∷ 1 ∷ 2 ∷ 3 ∷ 4 ∷ 5 ∷ 6 ∷ 7 ∷ 8 ∷ 9 ∷ []

-- the keys, of a block that is the global `card` as of one that isn't; a scalar's is its global, or its type's number
pub record CellsHaveKeys : Type 0 where
  pub of_buf : map (key_at driver None 9) ten ≡ map Some buf_keys
  pub of_card : map (key_at driver None 11) (ten ++ (10 ∷ [])) ≡ map Some card_keys
  pub of_global : map (key_at driver (Some 0) 11) (ten ++ (10 ∷ [])) ≡ map Some card_keys
  pub behind : key_at driver (Some 0) 11 11 ≡ None
  pub alone : key_at driver None 2 0 ≡ Some (key.Elem 2)
  pub of_mode : key_at driver (Some 2) 2 0 ≡ Some (key.Global 2)

pub record CellsHaveZeros : Type 0 where
  pub of_buf : map (zero_at driver 9) ten ≡ map Some buf_zeros
  pub of_card : map (zero_at driver 11) (ten ++ (10 ∷ [])) ≡ map Some card_zeros

-- ---- views

-- so many elements of a type from a cell on, and of these the one at an index
abbrev pub view : (first ty count index : ℕ) → View
view first ty count index = record { block = record { slot = 0; serial = 0 }; first = first; ty = ty; count = count; index = index }

abbrev pub one_card : Shape
one_card = record { ty = 11; count = 1 }

abbrev pub three_ops : Shape
three_ops = record { ty = 12; count = 3 }

-- &card, &card.st, &card.st.got, one past the end of card.ring, &ops[1], &ops[1].run
pub record BlocksHaveViews : Type 0 where
  pub whole : IsViewOf driver one_card (view 0 11 1 0)
  pub struct : IsViewOf driver one_card (view 2 10 1 0)
  pub inner : IsViewOf driver one_card (view 3 2 1 0)
  pub behind : IsViewOf driver one_card (view 5 14 4 4)
  pub element : IsViewOf driver three_ops (view 2 12 1 0)
  pub pointer : IsViewOf driver three_ops (view 3 13 1 0)

-- card.ring and two past its end; its cells as numbers; three of its four
pub record OthersAreNone : Type 0 where
  pub further : IsViewOf driver one_card (view 5 14 4 5) → ⊥
  pub mistyped : IsViewOf driver one_card (view 5 2 4 0) → ⊥
  pub shortened : IsViewOf driver one_card (view 5 14 3 0) → ⊥
