-- protocol
-- The user half's memory behind its pairs, and how it goes with the copy of memory that both halves agree on. So no order of pairs and no place of a block matters.
use Rattle.std.specs.Prelude.{◌≡◌, ℕ, Bool, true, List, [], map, Option, Some, None, option_map, is_some, cond, ◌∷◌, ◌==◌}
use Rattle.mdr_core.specs.declared.value.Block.{Block}
use Rattle.mdr_core.specs.declared.value.Value.{Value}
use Rattle.mdr_meaning.specs.declared.wire.Wire.{Wire}
use Rattle.mdr_meaning.specs.declared.wire.Wire.TheVariants as wire
use Rattle.mdr_meaning.specs.declared.wire.WireView.{WireView}
use Rattle.mdr_model.specs.declared.memory.Cell.{Cell}
use Rattle.mdr_model.specs.declared.memory.MemoryBlock.{MemoryBlock}
use Rattle.mdr_model.specs.declared.message.New.{New}
use Rattle.mdr_model.specs.Memory.{Memory, born_at, cell_at, is_live}
use Rattle.mdr_mem.specs.Contents.{Contents, IsInOrder, cell_in, handle_of, is_handle, kind_of, shape_of, wire_in}
use Rattle.mdr_track.specs.Pairs.{AreMatched, Pairs}

-- ---- values

-- the kernel's serial of a block, where it is paired
abbrev pub serial_in : Pairs → Option Block → Option ℕ
serial_in ps None = None
serial_in ps (Some b) = ps.serial_of b

-- a pointer to the same elements of the block with another serial, or a dead one
abbrev pub points : WireView → Option ℕ → Wire
points p None = wire.Dead
points p (Some s) = wire.Ptr (record p { serial = s })

-- a cell's value, with a pointer taken through the pairs
unfoldable pub told : List Block → Pairs → Wire → Wire
told hs ps (wire.Ptr p) = points p (serial_in ps (handle_of hs p.serial))
told hs ps (wire.Int k n) = wire.Int k n
told hs ps wire.Null = wire.Null
told hs ps wire.Dead = wire.Dead
told hs ps (wire.Fn f) = wire.Fn f
told hs ps (wire.Lock s) = wire.Lock s
told hs ps wire.NoValue = wire.NoValue

-- values of cells, so read
abbrev pub told_all : List Block → Pairs → List Value → List Wire
told_all hs ps vs = map (told hs ps) (map (wire_in hs) vs)

-- a value is no pointer, or one to a block that is paired
abbrev pub is_paired : Pairs → Wire → Bool
is_paired ps (wire.Ptr p) = is_some (ps.user_of p.serial)
is_paired ps _ = true

-- ---- what lies behind a serial

abbrev pub born_in : Contents → Option Block → Option New
born_in r None = None
born_in r (Some b) = born_at r.memory b.serial

abbrev pub value_in : Contents → Option Block → ℕ → Option Wire
value_in r None i = None
value_in r (Some b) i = cell_at r.memory (cell_in b i)

-- what a cell holds, by its name
abbrev pub held_in : Contents → Pairs → Cell → Option Wire
held_in r ps c = option_map (told r.handles ps) (value_in r (ps.user_of c.serial) c.index)

-- ---- the relation

-- the live blocks are those that are paired
pub record IsLinked (r : Contents) (ps : Pairs) : Type 0 where
  pub order : IsInOrder r
  pub matched : AreMatched ps
  pub only : (b : Block) → is_handle r.handles b ≡ is_some (ps.serial_of b)

-- the paired serials are those of the copy's blocks, and a serial's block has its kind and shape
pub record IsTwin (copy : Memory) (r : Contents) (ps : Pairs) : Type 0 where
  pub linked : IsLinked r ps
  pub live : (s : ℕ) → is_live copy s ≡ is_some (ps.user_of s)
  pub shape : (s : ℕ) → shape_of (born_at copy s) ≡ shape_of (born_in r (ps.user_of s))
  pub kind : (s : ℕ) → kind_of (born_at copy s) ≡ kind_of (born_in r (ps.user_of s))

-- and each cell has its value, with pointers taken through the pairs
pub record Paired (copy : Memory) (r : Contents) (ps : Pairs) : Type 0 where
  pub twin : IsTwin copy r ps
  pub cells : (c : Cell) → cell_at copy c ≡ held_in r ps c

-- ---- the user half's memory by the copy's serials

unfoldable pub block_at : Memory → ℕ → Option MemoryBlock
block_at [] n = None
block_at (b ∷ m) n = cond (b.born.serial == n) (Some b) (block_at m n)

abbrev pub cells_of : Option MemoryBlock → List Wire
cells_of None = []
cells_of (Some b) = b.cells

abbrev pub block_in : Contents → Option Block → Option MemoryBlock
block_in r None = None
block_in r (Some b) = block_at r.memory b.serial

abbrev pub told_cells : Contents → Pairs → ℕ → List Wire
told_cells r ps s = map (told r.handles ps) (cells_of (block_in r (ps.user_of s)))

abbrev pub now_block : Contents → Pairs → MemoryBlock → MemoryBlock
now_block r ps b = record { born = b.born; cells = told_cells r ps b.born.serial }

-- the copy's blocks in its order, with the cells that they have in the user half's memory
unfoldable pub now_of : Memory → Contents → Pairs → Memory
now_of copy r ps = map (now_block r ps) copy
