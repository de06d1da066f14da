-- believed
-- Whether what runs may not sleep: an interrupt handler, or code that holds a lock which spins.
use Rattle.std.specs.Prelude.{Bool, true, false, ◌||◌, List}
use Rattle.std.specs.List.{list_any}
use Rattle.mdr_core.specs.declared.value.LockState.TheVariants.{Free, Spin, Sleep}
use Rattle.mdr_meaning.specs.declared.wire.Wire.{Wire}
use Rattle.mdr_meaning.specs.declared.wire.Wire.TheVariants as wire
use Rattle.mdr_model.specs.declared.memory.MemoryBlock.{MemoryBlock}
use Rattle.mdr_model.specs.Memory.{Memory}
use Rattle.mdr_plain.specs.World.{World}

abbrev pub is_spinning : Wire → Bool
is_spinning (wire.Lock Free) = false
is_spinning (wire.Lock Spin) = true
is_spinning (wire.Lock Sleep) = false
is_spinning _ = false

abbrev pub has_spinning : MemoryBlock → Bool
has_spinning b = list_any is_spinning b.cells

-- a lock of any block
unfoldable pub is_any_spinning : Memory → Bool
is_any_spinning m = list_any has_spinning m

unfoldable pub is_atomic : World → Bool
is_atomic w = w.kept.in_handler || is_any_spinning w.memory
