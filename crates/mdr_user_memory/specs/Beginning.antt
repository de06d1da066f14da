-- protocol
-- The copy of memory with which a user half begins.
use Rattle.std.specs.Prelude.{◌≡◌, ℕ, ◌<◌, ◌≤◌, true, List, length, take, Some, slice_get}
use Rattle.mdr_meaning.specs.declared.wire.Wire.{Wire}
use Rattle.mdr_meaning.specs.declared.wire.Wire.TheVariants as wire
use Rattle.mdr_meaning.specs.declared.wire.WireView.{WireView}
use Rattle.mdr_model.specs.declared.memory.MemoryBlock.{MemoryBlock}
use Rattle.mdr_model.specs.Memory.{Memory, is_live}
use Rattle.mdr_track.specs.Pairs.{Pairs}
use Rattle.mdr_user_memory.specs.Paired.{is_paired}

-- as many cells as a block may have
pub record IsSized (cells : ℕ) : Type 0 where
  pub some : 0 < cells
  pub few : cells ≤ 65536

-- each pointer among values names a block that is paired
abbrev pub ArePaired : Pairs → List Wire → Type 0
ArePaired ps ws = (i : ℕ) (w : Wire) → slice_get ws i ≡ Some w → is_paired ps w ≡ true

-- a block with these cells may stand behind those before it: each pointer among them names one of these
pub record MayCome (before : Memory) (cells : List Wire) : Type 0 where
  pub sized : IsSized (length cells)
  pub earlier : (i : ℕ) (v : WireView) → slice_get cells i ≡ Some (wire.Ptr v) → is_live before v.serial ≡ true

-- each block may stand where it stands
abbrev pub ComeInOrder : Memory → Type 0
ComeInOrder copy = (i : ℕ) (b : MemoryBlock) → slice_get copy i ≡ Some b → MayCome (take i copy) b.cells
