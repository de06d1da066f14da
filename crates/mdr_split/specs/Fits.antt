-- believed
-- Which values fit where: pointers as views of their blocks, and values by the types of their places.
use Rattle.std.specs.Prelude.{ℕ, zero, suc, ◌+◌, Bool, true, false, ◌&&◌, ◌||◌, ◌==◌, nat_le, List, [], ◌∷◌, length, Option, Some, None, slice_get}
use Rattle.mdr_core.specs.declared.program.Field.{Field}
use Rattle.mdr_core.specs.declared.program.Func.{Func}
use Rattle.mdr_core.specs.declared.program.Program.{Program}
use Rattle.mdr_core.specs.declared.types.Ty.{Ty, out-Ty}
use Rattle.mdr_core.specs.declared.types.Ty.TheOpen.{Ty-F}
use Rattle.mdr_core.specs.Kinds.{is_in_range, is_same_kind}
use Rattle.mdr_core.specs.Layout.{chosen, field_start, fields_of, struct_cells, struct_of}
use Rattle.mdr_core.specs.Typing.{function_type}
use Rattle.mdr_meaning.specs.declared.wire.Wire.{Wire}
use Rattle.mdr_meaning.specs.declared.wire.Wire.TheVariants as wire
use Rattle.mdr_meaning.specs.declared.wire.WireView.{WireView}
use Rattle.mdr_meaning.specs.Numbers.{is_same_type}
use Rattle.mdr_model.specs.declared.message.New.{New}
use Rattle.mdr_model.specs.Memory.{Memory, born_at, is_live}

abbrev pub is_that : Ty → Option Ty → Bool
is_that ty None = false
is_that ty (Some t) = is_same_type t ty

-- the type with this number is this one
unfoldable pub is_named : Program → (number : ℕ) → Ty → Bool
is_named program n ty = is_that ty (slice_get program.types n)

-- ---- views

module _ (program : Program) (v : WireView) where
  -- the view is so many elements from a cell on, as a whole
  abbrev pub is_whole : (first : ℕ) → Ty → (count : ℕ) → Bool
  is_whole first ty count = v.first == first && (is_named program v.ty ty && v.count == count)

  -- the view is one of so many structs of this size, or is in the fields of one. Which are in the fields of a struct that begins at a cell is given
  unfoldable pub is_in_structs : (in_fields : (s first : ℕ) → Bool) → (s size first : ℕ) → Ty → (count : ℕ) → Bool
  is_in_structs in_fields s size first ty zero = false
  is_in_structs in_fields s size first ty (suc n) = is_whole first ty 1 || (in_fields s first || is_in_structs in_fields s size (first + size) ty n)

  abbrev pub is_in_struct : (in_fields : (s first : ℕ) → Bool) → Option ℕ → (first : ℕ) → Ty → (count : ℕ) → Bool
  is_in_struct in_fields None first ty count = false
  is_in_struct in_fields (Some s) first ty count = is_in_structs in_fields s (length (struct_cells program.structs s)) first ty count

  -- the view is one of those of so many elements
  abbrev pub is_in_elements : (in_fields : (s first : ℕ) → Bool) → (first : ℕ) → Ty → (count : ℕ) → Bool
  is_in_elements in_fields first ty count = is_whole first ty count || is_in_struct in_fields (struct_of ty) first ty count

  -- it is one of those of the fields, from number f on, of a struct that begins at a cell
  unfoldable pub is_in_fields : (in_fields : (s first : ℕ) → Bool) → (s first f : ℕ) → List Field → Bool
  is_in_fields in_fields s first f [] = false
  is_in_fields in_fields s first f (x ∷ xs) = is_in_elements in_fields (first + field_start program.structs s f) x.ty x.count || is_in_fields in_fields s first (suc f) xs

  -- the same of all fields of struct s, where its number is below n. A struct has in it those of lower number alone
  unfoldable pub is_in_below : (n s first : ℕ) → Bool
  is_in_below zero s first = false
  is_in_below (suc n) s first = chosen (s == n) (is_in_fields (is_in_below n) n first 0 (fields_of program.structs n)) (is_in_below n s first)

  abbrev pub is_in_block : Option Ty → (count : ℕ) → Bool
  is_in_block None count = false
  is_in_block (Some ty) count = is_in_elements (is_in_below (length program.structs)) 0 ty count

-- a pointer's view is one of a block as it was born, and its index is at most one past the view's end
unfoldable pub is_view_of : Program → New → WireView → Bool
is_view_of program block v = is_in_block program v (slice_get program.types block.ty) block.count && nat_le v.index v.count

abbrev pub is_view_of_maybe : Program → Option New → WireView → Bool
is_view_of_maybe program None v = false
is_view_of_maybe program (Some block) v = is_view_of program block v

-- a pointer is a view of its block
abbrev pub is_view : Program → Memory → Wire → Bool
is_view program m (wire.Ptr v) = is_view_of_maybe program (born_at m v.serial) v
is_view program m _ = true

-- ---- values

-- what values are judged by: the driver's program, which functions' addresses may be passed, the blocks that both halves know, and the memory that says what blocks were born as
pub record Places : Type 0 where
  pub program : Program
  pub passes : ℕ → Bool
  pub paired : Memory
  pub memory : Memory

module _ (p : Places) where
  -- null, dead, or a pointer to a known block that is a view of it, with elements that may stand there
  abbrev pub fits_pointer : (ℕ → Bool) → Wire → Bool
  fits_pointer takes wire.Null = true
  fits_pointer takes wire.Dead = true
  fits_pointer takes (wire.Ptr v) = takes v.ty && (is_live p.paired v.serial && is_view p.program p.memory (wire.Ptr v))
  fits_pointer takes _ = false

  abbrev pub has_type : Ty → Option Func → Bool
  has_type ty None = false
  has_type ty (Some func) = is_same_type (function_type func) ty

  -- null, or a function of the type whose address may be passed
  abbrev pub fits_function : Ty → Wire → Bool
  fits_function ty wire.Null = true
  fits_function ty (wire.Fn f) = has_type ty (slice_get p.program.funcs f) && p.passes f
  fits_function ty _ = false

  -- an integer is of the type's kind and in its range. Nothing fits a lock, and nothing but a scalar is passed
  abbrev pub fits_by : Ty → Ty-F Ty → Wire → Bool
  fits_by ty (Ty-F.Int k) (wire.Int l n) = is_same_kind k l && is_in_range k n
  fits_by ty (Ty-F.Int k) _ = false
  fits_by ty Ty-F.Lock v = false
  fits_by ty (Ty-F.Struct s) v = false
  fits_by ty (Ty-F.Ptr t) v = fits_pointer (λ n. is_named p.program n t) v
  fits_by ty Ty-F.VoidPtr v = fits_pointer (λ n. true) v
  fits_by ty (Ty-F.Fun ts) v = fits_function ty v
  fits_by ty Ty-F.Void v = false

  -- a value fits a place of the type
  unfoldable pub fits : Ty → Wire → Bool
  fits ty v = fits_by ty (out-Ty ty) v

  -- a value fits a result: no value fits each, whatever the type
  unfoldable pub fits_result : Ty → Wire → Bool
  fits_result ty wire.NoValue = true
  fits_result ty (wire.Int k n) = fits ty (wire.Int k n)
  fits_result ty wire.Null = fits ty wire.Null
  fits_result ty (wire.Ptr v) = fits ty (wire.Ptr v)
  fits_result ty wire.Dead = fits ty wire.Dead
  fits_result ty (wire.Fn f) = fits ty (wire.Fn f)
  fits_result ty (wire.Lock s) = fits ty (wire.Lock s)
