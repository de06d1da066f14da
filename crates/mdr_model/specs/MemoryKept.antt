-- for proofs
-- Laws of memories: what a store, a death and a birth change.
use Rattle.std.specs.Prelude.{◌≡◌, ℕ, true, false, Some, is_some, option_map, ◌==◌}
use Rattle.mdr_core.specs.declared.program.Program.{Program}
use Rattle.mdr_meaning.specs.declared.wire.Wire.{Wire}
use Rattle.mdr_model.specs.declared.message.New.{New}
use Rattle.mdr_model.specs.Memory.{Memory, Cell, births, born_at, is_live, cell_at, put, killed, swept, zero_block}
use Rattle.mdr_model.specs.Sets.{is_same_cell}
use Rattle.mdr_model.specs.Copies.{inserted}
use Rattle.mdr_model.specs.Agreement.{cell_zero}

-- a store changes one cell of one block
pub record StoreIsOneCell : Type 0 where
  pub blocks : (m : Memory) (c : Cell) (v : Wire) → births (put m c v) ≡ births m
  pub here : (m : Memory) (c : Cell) (v : Wire) → is_some (cell_at m c) ≡ true → cell_at (put m c v) c ≡ Some v
  pub others : (m : Memory) (c d : Cell) (v : Wire) → is_same_cell d c ≡ false → cell_at (put m c v) d ≡ cell_at m d

-- a death takes one block away, and all others stay as they are, but that pointers to it are dead ones
pub record DeathIsOneBlock : Type 0 where
  pub gone : (m : Memory) (serial : ℕ) → is_live (killed serial m) serial ≡ false
  pub blocks : (m : Memory) (serial s : ℕ) → (serial == s) ≡ false → born_at (killed serial m) s ≡ born_at m s
  pub cells : (m : Memory) (serial : ℕ) (c : Cell) → (serial == c.serial) ≡ false → cell_at (killed serial m) c ≡ option_map (swept serial) (cell_at m c)

-- a birth adds one block, which is zero in each cell
pub record BirthIsOneBlock : Type 0 where
  pub born : (program : Program) (m : Memory) (n : New) → born_at (inserted (zero_block program n) m) n.serial ≡ Some n
  pub zeros : (program : Program) (m : Memory) (n : New) (i : ℕ) → cell_at (inserted (zero_block program n) m) (record { serial = n.serial; index = i }) ≡ cell_zero program n i
  pub blocks : (program : Program) (m : Memory) (n : New) (s : ℕ) → (n.serial == s) ≡ false → born_at (inserted (zero_block program n) m) s ≡ born_at m s
  pub cells : (program : Program) (m : Memory) (n : New) (c : Cell) → (n.serial == c.serial) ≡ false → cell_at (inserted (zero_block program n) m) c ≡ cell_at m c
