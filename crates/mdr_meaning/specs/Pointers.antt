-- believed
-- What is done with pointers in hand, which needs no memory: a pointer says what it views.
use Rattle.std.specs.Prelude.{ℕ, ◌+◌, ◌*◌, Bool, true, false, not, ◌&&◌, ◌||◌, ◌==◌, nat_lt, length, Option, Some, None, slice_get, Result, Ok, Err, ℤ, pos, ◌+ℤ◌, ◌-ℤ◌, neg_ℤ, int_lt, unsigned_abs}
use Rattle.std.specs.Ordering.{int_eq}
use Rattle.mdr_core.specs.declared.kind.Kind.TheVariants.{S64}
use Rattle.mdr_core.specs.declared.stop.StopKind.{StopKind}
use Rattle.mdr_core.specs.declared.stop.StopKind.TheVariants as stop
use Rattle.mdr_core.specs.declared.types.Ty.{Ty, out-Ty}
use Rattle.mdr_core.specs.declared.types.Ty.TheOpen.{Ty-F}
use Rattle.mdr_core.specs.declared.program.Program.{Program}
use Rattle.mdr_core.specs.declared.program.Field.{Field}
use Rattle.mdr_core.specs.declared.program.GlobalDef.{GlobalDef}
use Rattle.mdr_core.specs.declared.code.RelOp.{RelOp}
use Rattle.mdr_core.specs.declared.code.RelOp.TheVariants.{Eq, Ne, Lt, Le, Gt, Ge}
use Rattle.mdr_core.specs.Conversions.{converted}
use Rattle.mdr_core.specs.Layout.{chosen, cells_at, fields_of, field_start, struct_of}
use Rattle.mdr_meaning.specs.declared.wire.Wire.{Wire}
use Rattle.mdr_meaning.specs.declared.wire.Wire.TheVariants as wire
use Rattle.mdr_meaning.specs.declared.wire.WireView.{WireView}
use Rattle.mdr_meaning.specs.Numbers.{Numbered, type_number}
use Rattle.mdr_meaning.specs.Values.{checked, truth}

-- ---- where a pointer points

-- how many cells an element has of the type with this number
unfoldable pub size : Program → ℕ → ℕ
size program n = length (cells_at program n)

-- the cell of its block
abbrev pub position : Program → WireView → ℕ
position program v = v.first + v.index * size program v.ty

abbrev pub at_index : WireView → ℕ → WireView
at_index v i = record { serial = v.serial; first = v.first; ty = v.ty; count = v.count; index = i }

-- ---- pointers that are made

-- to the first of all elements of a global, whose serial is its number
abbrev pub global_by : Numbered → ℕ → Option GlobalDef → Wire
global_by known g None = wire.Null
global_by known g (Some def) = wire.Ptr (record { serial = g; first = 0; ty = type_number known def.ty; count = def.count; index = 0 })

abbrev pub global : Numbered → ℕ → Wire
global known g = global_by known g (slice_get known.program.globals g)

-- a pointer moved to an index, which stays in 0 to one past the end (6.5.6, paragraph 8)
abbrev pub indexed : WireView → ℤ → Result Wire StopKind
indexed v i = checked (not (int_lt i (pos 0)) && not (int_lt (pos v.count) i)) stop.Bounds (wire.Ptr (at_index v (unsigned_abs i)))

abbrev pub moved : Wire → ℤ → Result Wire StopKind
moved (wire.Ptr v) n = indexed v (pos v.index +ℤ n)
moved wire.Dead n = Err stop.Dead
moved _ n = Err stop.Null

-- so many elements on, or back
abbrev pub steps : (back : Bool) → ℤ → ℤ
steps true n = neg_ℤ n
steps false n = n

abbrev pub struct_by : Option Ty → Option ℕ
struct_by None = None
struct_by (Some ty) = struct_of ty

-- the struct that the type with this number is
abbrev pub struct_numbered : Program → ℕ → Option ℕ
struct_numbered program n = struct_by (slice_get program.types n)

-- all elements of a field of the struct at a view's index
abbrev pub field_view : Numbered → WireView → (s f : ℕ) → Field → Wire
field_view known v s f x = wire.Ptr (record {
  serial = v.serial;
  first = position known.program v + field_start known.program.structs s f;
  ty = type_number known x.ty;
  count = x.count;
  index = 0;
})

-- there is one where its first cell has a number of 32 bits, as each cell of a block has
abbrev pub field_by : Numbered → WireView → (s f : ℕ) → Option Field → Result Wire StopKind
field_by known v s f None = Err stop.Bounds
field_by known v s f (Some x) = checked (nat_lt (position known.program v + field_start known.program.structs s f) 4294967296) stop.Bounds (field_view known v s f x)

abbrev pub field_in : Numbered → WireView → Option ℕ → (f : ℕ) → Result Wire StopKind
field_in known v None f = Err stop.Bounds
field_in known v (Some s) f = field_by known v s f (slice_get (fields_of known.program.structs s) f)

-- a member of the struct that a pointer points to: there must be one (6.5.2.3)
abbrev pub member : Numbered → Wire → (f : ℕ) → Result Wire StopKind
member known (wire.Ptr v) f = chosen (nat_lt v.index v.count) (field_in known v (struct_numbered known.program v.ty) f) (Err stop.Bounds)
member known wire.Dead f = Err stop.Dead
member known _ f = Err stop.Null

-- ---- comparisons (6.5.8, 6.5.9)

-- two pointers are equal where both are null or both point to one cell, or both to one function
abbrev pub is_equal : Program → Wire → Wire → Bool
is_equal program (wire.Int k a) (wire.Int l b) = int_eq a b
is_equal program wire.Null wire.Null = true
is_equal program (wire.Ptr v) (wire.Ptr w) = v.serial == w.serial && position program v == position program w
is_equal program (wire.Fn f) (wire.Fn g) = f == g
is_equal program _ _ = false

abbrev pub by_order : RelOp → (less equal : Bool) → Bool
by_order Eq less equal = equal
by_order Ne less equal = not equal
by_order Lt less equal = less
by_order Le less equal = less || equal
by_order Gt less equal = not (less || equal)
by_order Ge less equal = not less

-- pointers have an order in one block alone (6.5.8, paragraph 5)
abbrev pub ordered : Program → RelOp → Wire → Wire → Result Wire StopKind
ordered program op (wire.Int k a) (wire.Int l b) = Ok (truth (by_order op (int_lt a b) (int_eq a b)))
ordered program op (wire.Ptr v) (wire.Ptr w) =
    checked (v.serial == w.serial) stop.Compare (truth (by_order op (nat_lt (position program v) (position program w)) (position program v == position program w)))
ordered program op _ _ = Err stop.Compare

abbrev pub related : Program → RelOp → Wire → Wire → Result Wire StopKind
related program Eq x y = Ok (truth (is_equal program x y))
related program Ne x y = Ok (truth (not (is_equal program x y)))
related program Lt x y = ordered program Lt x y
related program Le x y = ordered program Le x y
related program Gt x y = ordered program Gt x y
related program Ge x y = ordered program Ge x y

-- ---- differences (6.5.6, paragraph 9)

abbrev pub is_one_array : WireView → WireView → Bool
is_one_array v w = v.serial == w.serial && v.first == w.first && v.ty == w.ty && v.count == w.count

abbrev pub difference : Wire → Wire → Result Wire StopKind
difference (wire.Ptr v) (wire.Ptr w) = checked (is_one_array v w) stop.Compare (wire.Int S64 (pos v.index -ℤ pos w.index))
difference _ _ = Err stop.Compare

-- ---- conversions

-- a `void *` as a pointer to a type, which its elements must have (6.3.2.3, paragraph 7); a null or a dead one converts
abbrev pub cast : Numbered → Ty → Wire → Result Wire StopKind
cast known ty (wire.Ptr v) = checked (v.ty == known.number ty) stop.BadCast (wire.Ptr v)
cast known ty v = Ok v

abbrev pub become_by : Numbered → Ty-F Ty → Wire → Result Wire StopKind
become_by known (Ty-F.Int k) (wire.Int l n) = Ok (wire.Int k (converted k n))
become_by known (Ty-F.Ptr ty) v = cast known ty v
become_by known _ v = Ok v

-- a value converted as by assignment to an object of a type (6.5.16.1)
abbrev pub become : Numbered → Ty → Wire → Result Wire StopKind
become known ty v = become_by known (out-Ty ty) v
