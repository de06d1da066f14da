-- protocol
-- The fields of a region, as what it holds and what was promised.
use Rattle.std.specs.Prelude.{ℕ, ◌+◌, ◌^◌, ◌<◌, ◌≤◌, List, length, vec_capacity}
use Rattle.slab.specs.Slab.{HasRoomFor}
use Rattle.mdr_core.specs.declared.value.Block.{Block}
use Rattle.mdr_core.specs.declared.value.Value.{Value}
use Rattle.mdr_mem.specs.declared.cells.Life.{Life}
use Rattle.mdr_mem.specs.Contents.{Contents}
use Rattle.mdr_mem.specs.Rows.{blocks_of}
use Rattle.mdr_mem.specs.Rows as plain
use Rattle.mdr_region.specs.declared.rows.Rows.{Rows}
use Rattle.mdr_region.specs.Layout.{laid}
use Rattle.mdr_region.specs.Slots.{RowSlots, row_in, held_slots, Lies}
use Rattle.mdr_region.specs.PlacesView.{IsSound}

-- a region's contents, and how many cells and births were promised that can't want memory
pub record Reserved : Type 0 where
  pub contents : Contents
  pub cells : ℕ
  pub births : ℕ

abbrev pub contents_of : Rows → Contents
contents_of s = record {
  handles = s.live.items;
  memory = blocks_of s.live.items (held_slots s.pool.values.items s.rows.slots) s.live.items;
  lives = s.pool.places.lives;
}

abbrev pub reserved_of : Rows → Reserved
reserved_of s = record { contents = contents_of s; cells = s.pool.cells_left; births = s.pool.births_left }

-- rows with their cells are as the plain memory's, and each row's block lies where the row says
pub record AreKept (live : List Block) (slots : RowSlots) (values : List Value) (lives : List Life) (births : ℕ) : Type 0 where
  pub memory : plain.IsSound live (held_slots values slots) lives births (length lives + length live)
  pub lie : (slot : ℕ) → Lies (laid lives).marks (row_in slots slot)

-- and there is room for the births that were promised, in slots whose numbers fit a handle
pub record IsWhole (s : Rows) : Type 0 where
  pub kept : AreKept s.live.items s.rows.slots s.pool.values.items s.pool.places.lives s.pool.places.births
  pub pool : IsSound s.pool
  pub listed : length s.live.items + s.pool.births_left ≤ vec_capacity s.live
  pub room : HasRoomFor s.rows s.pool.births_left
  pub small : 0 < s.pool.births_left → s.rows.capacity ≤ 2 ^ 32
