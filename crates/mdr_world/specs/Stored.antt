-- protocol
-- A memory beside all births and deaths in it.
use Rattle.std.specs.Prelude.{◌≡◌, ◌+◌, ◌<◌, ◌^◌, ℕ, true, List, Some, is_some, slice_get}
use Rattle.mdr_core.specs.declared.program.GlobalDef.{GlobalDef}
use Rattle.mdr_core.specs.declared.program.Program.{Program}
use Rattle.mdr_core.specs.Sound.{IsSound, IsSoundGlobal}
use Rattle.mdr_core.specs.declared.value.Block.{Block}
use Rattle.mdr_core.specs.declared.value.Value.{Value}
use Rattle.mdr_core.specs.declared.value.Value.TheVariants as value
use Rattle.mdr_mem.specs.declared.cells.Life.{Life}
use Rattle.mdr_mem.specs.Contents.{births_in, handle_of}
use Rattle.mdr_model.specs.Memory.{Memory, is_live}
use Rattle.mdr_region.specs.Layout.{laid}
use Rattle.mdr_region.specs.Blocks.{mark_at}
use Rattle.mdr_region.specs.Holes.{names}
use Rattle.mdr_world.specs.declared.storage.Storage.{Storage}

-- what lies in a place after these births and deaths has a handle
abbrev pub AreMarked : List Life → List Block → Type 0
AreMarked lives handles = (place serial : ℕ) → names serial (mark_at (laid lives).marks place) ≡ true → is_some (handle_of handles serial) ≡ true

-- a birth is in the one list where it is in the other, and after both blocks lie alike
pub record IsCounted (s : Storage) : Type 0 where
  pub births : births_in s.lives ≡ births_in s.blocks.lives
  pub places : laid s.lives ≡ laid s.blocks.lives
  pub marked : AreMarked s.blocks.lives s.blocks.handles

-- a pointer names a block that lives
abbrev pub IsThere : Memory → Value → Type 0
IsThere m (value.Ptr p) = is_live m p.block.serial ≡ true
IsThere m _ = Unit {0}

abbrev pub AreThere : Memory → List Value → Type 0
AreThere m vs = (i : ℕ) (v : Value) → slice_get vs i ≡ Some v → IsThere m v

-- these are globals of the program, from the first on
abbrev pub AreSoundGlobals : Program → List GlobalDef → Type 0
AreSoundGlobals program globals = (g : ℕ) (def : GlobalDef) → slice_get globals g ≡ Some def → IsSoundGlobal program g def

-- what holds of each run: its program is sound, and its ticks have 64 bits
pub record Stands (program : Program) (storage : Storage) (ticks rest : ℕ) : Type 0 where
  pub sound : IsSound program
  pub counted : IsCounted storage
  pub few : ticks + rest < 2 ^ 64
