-- believed
-- How far a pointer may be followed: its extent.
use Rattle.std.specs.Prelude.{ℕ, zero, suc, ◌+◌, ◌*◌, ◌-◌, nat_lt, Bool, true, false, not, List, [], Option, Some, None, ℤ, pos, negsuc}
use Rattle.std.specs.List.{list_any}
use Rattle.mdr_core.specs.declared.plan.Key.{Key}
use Rattle.mdr_core.specs.declared.program.Program.{Program}
use Rattle.mdr_core.specs.declared.types.Ann.{Ann}
use Rattle.mdr_core.specs.declared.types.Ann.TheVariants.{Single, Array, Sentinel, NullTerm, Opaque}
use Rattle.mdr_core.specs.declared.types.LenOf.{LenOf}
use Rattle.mdr_core.specs.declared.types.LenOf.TheVariants.{Const, Sibling, Global}
use Rattle.mdr_core.specs.Layout.{chosen, field_start}
use Rattle.mdr_access.specs.KeyOrder.{keys}
use Rattle.mdr_meaning.specs.declared.wire.Wire.{Wire}
use Rattle.mdr_meaning.specs.declared.wire.Wire.TheVariants as wire
use Rattle.mdr_meaning.specs.declared.wire.WireView.{WireView}
use Rattle.mdr_meaning.specs.Pointers.{size, struct_numbered}
use Rattle.mdr_meaning.specs.Values.{integer, is_true}
use Rattle.mdr_model.specs.declared.memory.Cell.{Cell}
use Rattle.mdr_model.specs.declared.message.New.{New}
use Rattle.mdr_model.specs.Memory.{Memory, born_at, cell_at}
use Rattle.mdr_model.specs.Sets.{cells_from}
use Rattle.mdr_paths.specs.Paths.{is_in}
use Rattle.mdr_extents.specs.Around.{key_of}

-- so many elements from the pointer's index on, or failure
pub data Extent : Type 0 where
  Elements : (count : ℕ) → Extent
  Fails : Extent

abbrev pub none : Extent
none = Elements 0

-- ---- which cells count

abbrev pub has_key : List Key → Option Key → Bool
has_key touched None = false
has_key touched (Some k) = is_in keys touched k

-- the key of a block's cell is among these
unfoldable pub is_touched : Program → List Key → New → (index : ℕ) → Bool
is_touched program touched block index = has_key touched (key_of program block index)

-- a cell of the viewed element has its key among these. All elements of a view have the same keys
unfoldable pub views_touched : Program → List Key → New → WireView → Bool
views_touched program touched block v = list_any (λ (c : Cell). is_touched program touched block c.index) (cells_from v.serial v.first (size program v.ty))

-- ---- lengths

abbrev pub number_in : Option Wire → ℤ
number_in None = pos 0
number_in (Some v) = integer v

-- what holds the siblings of a pointer: the fields of its struct, or the parameters of its call, by their numbers
abbrev pub Siblings : Type 0
Siblings = ℕ → Option Wire

abbrev pub no_siblings : Siblings
no_siblings n = None

-- a length, in the memory as it is
unfoldable pub length_now : Memory → Siblings → LenOf → ℤ
length_now m siblings (Const n) = pos n
length_now m siblings (Sibling n) = number_in (siblings n)
length_now m siblings (Global g) = number_in (cell_at m (record { serial = g; index = 0 }))

-- ---- searches

-- the first of so many numbers, from one on, of which a test holds
unfoldable pub first_of : (ℕ → Bool) → (from count : ℕ) → Option ℕ
first_of test from zero = None
first_of test from (suc n) = chosen (test from) (Some from) (first_of test (suc from) n)

-- the elements from an index up to and with the one that was found
abbrev pub up_to : (index : ℕ) → Option ℕ → Extent
up_to index None = Fails
up_to index (Some last) = Elements (suc last - index)

abbrev pub is_empty : Option Wire → Bool
is_empty None = false
is_empty (Some v) = not (is_true v)

abbrev pub start_in : Program → Option ℕ → (field : ℕ) → ℕ
start_in program None f = 0
start_in program (Some s) f = field_start program.structs s f

module _ (program : Program) (m : Memory) (v : WireView) where
  -- the cell with which the view's element at an index begins
  abbrev pub element : (index : ℕ) → ℕ
  element index = v.first + index * size program v.ty

  abbrev pub holds_none : (index : ℕ) → Bool
  holds_none index = is_empty (cell_at m (record { serial = v.serial; index = index }))

  -- the element is 0, or its field is 0 or null
  abbrev pub is_zero : (index : ℕ) → Bool
  is_zero index = holds_none (element index)

  abbrev pub is_last : (field index : ℕ) → Bool
  is_last f index = holds_none (element index + start_in program (struct_numbered program v.ty) f)

  -- how many elements there are from the pointer's index on
  abbrev pub room : ℕ
  room = v.count - v.index

  -- so many elements, where there are as many
  abbrev pub of_length : ℤ → Extent
  of_length (pos n) = chosen (nat_lt room n) Fails (Elements n)
  of_length (negsuc n) = Fails

  -- by the annotation
  abbrev pub annotated : Siblings → Ann → Extent
  annotated siblings Single = Elements (chosen (nat_lt v.index v.count) 1 0)
  annotated siblings (Array len) = of_length (length_now m siblings len)
  annotated siblings (Sentinel f) = up_to v.index (first_of (is_last f) v.index room)
  annotated siblings NullTerm = up_to v.index (first_of is_zero v.index room)
  annotated siblings Opaque = none

-- ---- extents

module _ (program : Program) (touched : List Key) (m : Memory) where
  -- a pointer into a block, if that is live
  abbrev pub extent_in : Siblings → Ann → WireView → Option New → Extent
  extent_in siblings ann v None = none
  extent_in siblings ann v (Some block) = chosen (views_touched program touched block v) (annotated program m v siblings ann) none

  unfoldable pub extent : Siblings → Ann → Wire → Extent
  extent siblings ann (wire.Ptr v) = extent_in siblings ann v (born_at m v.serial)
  extent siblings ann _ = none

  abbrev pub elements_cells : WireView → Extent → List Cell
  elements_cells v (Elements n) = cells_from v.serial (element program m v v.index) (n * size program v.ty)
  elements_cells v Fails = []

  -- the cells of a value's extent. A failed extent gives none
  abbrev pub cells_in : Wire → Extent → List Cell
  cells_in (wire.Ptr v) e = elements_cells v e
  cells_in _ e = []

abbrev pub has_failed : Extent → Bool
has_failed (Elements n) = false
has_failed Fails = true
