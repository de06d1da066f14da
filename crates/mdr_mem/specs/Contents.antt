-- believed
-- What a memory of running code holds: the handles of its live blocks, the blocks, and the births and deaths so far.
use Rattle.std.specs.Prelude.{ℕ, ◌≡◌, Bool, true, false, cond, ◌&&◌, ◌||◌, List, [], ◌∷◌, ◌++◌, map, length, count_by, Option, Some, None, option_map, ◌==◌, is_some}
use Rattle.std.specs.List.{list_any}
use Rattle.mdr_core.specs.declared.value.Block.{Block}
use Rattle.mdr_core.specs.declared.value.Value.{Value}
use Rattle.mdr_core.specs.declared.value.Value.TheVariants as value
use Rattle.mdr_core.specs.declared.types.Shape.{Shape}
use Rattle.mdr_meaning.specs.declared.wire.Wire.{Wire}
use Rattle.mdr_model.specs.declared.message.BirthKind.{BirthKind}
use Rattle.mdr_model.specs.declared.message.New.{New}
use Rattle.mdr_meaning.specs.Values.{wire_of}
use Rattle.mdr_model.specs.Memory.{Memory, is_live, cell_at, put, killed}
use Rattle.mdr_model.specs.declared.memory.MemoryBlock.{MemoryBlock}
use Rattle.mdr_model.specs.declared.memory.Cell.{Cell}
use Rattle.mdr_model.specs.Sets.{is_same_cell}
use Rattle.mdr_model.specs.Agreement.{SerialsRise, IsBelow, names_it}
use Rattle.mdr_mem.specs.declared.cells.Life.{Life}
use Rattle.mdr_mem.specs.declared.cells.Life.TheVariants as life

pub record Contents : Type 0 where
  pub handles : List Block
  pub memory : Memory
  pub lives : List Life

-- ---- handles

abbrev pub is_same_block : Block → Block → Bool
is_same_block a b = a.slot == b.slot && a.serial == b.serial

-- the handle is one of these
unfoldable pub is_handle : List Block → Block → Bool
is_handle [] b = false
is_handle (h ∷ hs) b = is_same_block h b || is_handle hs b

-- the handle with a serial
unfoldable pub handle_of : List Block → ℕ → Option Block
handle_of [] serial = None
handle_of (h ∷ hs) serial = cond (h.serial == serial) (Some h) (handle_of hs serial)

-- the handles but for that of a serial
unfoldable pub left_of : ℕ → List Block → List Block
left_of serial [] = []
left_of serial (h ∷ hs) = cond (h.serial == serial) (left_of serial hs) (h ∷ left_of serial hs)

-- ---- values

-- a value as it is now: a pointer whose handle is not alive is a dead one
unfoldable pub current : List Block → Value → Value
current hs (value.Ptr p) = cond (is_handle hs p.block) (value.Ptr p) value.Dead
current hs (value.Int k n) = value.Int k n
current hs value.Null = value.Null
current hs value.Dead = value.Dead
current hs (value.Fn f) = value.Fn f
current hs (value.Lock s) = value.Lock s
current hs value.NoValue = value.NoValue

-- what a cell with the value holds
abbrev pub wire_in : List Block → Value → Wire
wire_in hs v = wire_of (current hs v)

-- ---- births and deaths

abbrev pub is_birth : Life → Bool
is_birth (life.Birth cells) = true
is_birth (life.Death serial) = false

abbrev pub births_in : List Life → ℕ
births_in lives = count_by is_birth lives

-- ---- what each call leaves

abbrev pub cell_in : Block → ℕ → Cell
cell_in b index = record { serial = b.serial; index = index }

abbrev pub born_as : BirthKind → Shape → Block → New
born_as kind shape b = record { serial = b.serial; kind = kind; ty = shape.ty; count = shape.count }

-- with the block that a birth adds
abbrev pub with_block : Block → MemoryBlock → ℕ → Contents → Contents
with_block b added size s = record {
  handles = s.handles ++ b ∷ [];
  memory = s.memory ++ added ∷ [];
  lives = s.lives ++ life.Birth size ∷ [];
}

abbrev pub new_block : BirthKind → Shape → List Value → Block → List Block → MemoryBlock
new_block kind shape first b hs = record { born = born_as kind shape b; cells = map (wire_in hs) first }

abbrev pub after_birth : BirthKind → Shape → List Value → Block → Contents → Contents
after_birth kind shape first b s = with_block b (new_block kind shape first b s.handles) (length first) s

abbrev pub after_death : ℕ → Contents → Contents
after_death serial s = record {
  handles = left_of serial s.handles;
  memory = killed serial s.memory;
  lives = s.lives ++ life.Death serial ∷ [];
}

abbrev pub after_store : Block → ℕ → Value → Contents → Contents
after_store b index v s = record s { memory = put s.memory (cell_in b index) (wire_in s.handles v) }

abbrev pub shape_of : Option New → Option Shape
shape_of born = option_map (λ n. record { ty = n.ty; count = n.count }) born

abbrev pub kind_of : Option New → Option BirthKind
kind_of born = option_map (λ n. n.kind) born

-- ---- cells that may be touched

abbrev pub may_touch : Option (List Cell) → Cell → Bool
may_touch None c = true
may_touch (Some cells) c = list_any (is_same_cell c) cells

-- ---- what holds of each memory

-- handles are those of the live blocks, serials rise and are below the next one, and no cell names a dead block
pub record IsInOrder (s : Contents) : Type 0 where
  pub handled : (serial : ℕ) → is_live s.memory serial ≡ is_some (handle_of s.handles serial)
  pub one : (b : Block) → is_handle s.handles b ≡ true → handle_of s.handles b.serial ≡ Some b
  pub rises : SerialsRise s.memory
  pub below : IsBelow (births_in s.lives) s.memory
  pub normal : (c : Cell) (serial : ℕ) → names_it serial (cell_at s.memory c) ≡ true → is_live s.memory serial ≡ true
