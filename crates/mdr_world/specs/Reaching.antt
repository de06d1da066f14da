-- protocol
-- What accesses come to in a memory of blocks.
use Rattle.std.specs.Prelude.{Bool, false, Option, Some, None, Result, Ok, Err}
use Rattle.mdr_core.specs.declared.stop.StopKind.{StopKind}
use Rattle.mdr_mem.specs.Contents.{Contents, cell_in}
use Rattle.mdr_model.specs.declared.memory.Cell.{Cell}
use Rattle.mdr_model.specs.declared.memory.MemoryBlock.{MemoryBlock}
use Rattle.mdr_model.specs.Memory.{Memory}
use Rattle.mdr_plain.specs.Atomic.{has_spinning}
use Rattle.mdr_plain.specs.Locks.{has_held}
use Rattle.mdr_world.specs.declared.reach.Target.{Target}

-- the cell that an access touches, or its stop
abbrev pub reached_as : Result Target StopKind → Result Cell StopKind
reached_as (Ok t) = Ok (cell_in t.block t.index)
reached_as (Err kind) = Err kind

abbrev pub with_memory : Memory → Contents → Contents
with_memory m s = record s { memory = m }

-- a lock of this block spins, if there is one
abbrev pub is_spinning_in : Option MemoryBlock → Bool
is_spinning_in None = false
is_spinning_in (Some b) = has_spinning b

-- a lock is held of this block, if any
abbrev pub is_held_in : Option MemoryBlock → Bool
is_held_in None = false
is_held_in (Some b) = has_held b
