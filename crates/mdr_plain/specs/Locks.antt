-- believed
-- Locks: what takes and what frees one, and whether one is held.
use Rattle.std.specs.Prelude.{ℕ, Bool, true, false, List, [], ◌∷◌, ◌==◌, ◌&&◌, Option, Some, Result, Ok, Err}
use Rattle.std.specs.List.{list_any}
use Rattle.mdr_core.specs.declared.stop.StopKind.{StopKind}
use Rattle.mdr_core.specs.declared.stop.StopKind.TheVariants as stop
use Rattle.mdr_core.specs.declared.value.LockState.{LockState}
use Rattle.mdr_core.specs.declared.value.LockState.TheVariants.{Free, Spin, Sleep}
use Rattle.mdr_meaning.specs.declared.wire.Wire.{Wire}
use Rattle.mdr_meaning.specs.declared.wire.Wire.TheVariants as wire
use Rattle.mdr_model.specs.declared.memory.Cell.{Cell}
use Rattle.mdr_model.specs.declared.memory.MemoryBlock.{MemoryBlock}
use Rattle.mdr_model.specs.Memory.{Memory, cell_at, everywhere, put, reached}
use Rattle.mdr_plain.specs.World.{World}

-- ---- whether one is held

abbrev pub is_held : Wire → Bool
is_held (wire.Lock Free) = false
is_held (wire.Lock Spin) = true
is_held (wire.Lock Sleep) = true
is_held _ = false

abbrev pub has_held : MemoryBlock → Bool
has_held b = list_any is_held b.cells

-- one of this block
unfoldable pub is_locked : ℕ → Memory → Bool
is_locked serial m = list_any (λ (b : MemoryBlock). b.born.serial == serial && has_held b) m

-- one of any block
unfoldable pub is_any_held : Memory → Bool
is_any_held m = list_any has_held m

-- ---- taking and freeing

-- one that is taken while a function of the user half is active sleeps, else it spins
abbrev pub taken_as : List (List Cell) → LockState
taken_as [] = Spin
taken_as (view ∷ views) = Sleep

abbrev pub acquired : LockState → LockState → Result LockState StopKind
acquired to Free = Ok to
acquired to Spin = Err stop.LockHeld
acquired to Sleep = Err stop.LockHeld

abbrev pub released : LockState → Result LockState StopKind
released Free = Err stop.LockFree
released Spin = Ok Free
released Sleep = Ok Free

-- the state that a lock's cell holds; each holds one
abbrev pub lock_in : Option Wire → LockState
lock_in (Some (wire.Lock s)) = s
lock_in _ = Free

abbrev pub with_lock : Memory → Cell → Result LockState StopKind → Result Memory StopKind
with_lock m c (Ok s) = Ok (put m c (wire.Lock s))
with_lock m c (Err kind) = Err kind

abbrev pub changed : (LockState → Result LockState StopKind) → Memory → Result Cell StopKind → Result Memory StopKind
changed change m (Ok c) = with_lock m c (change (lock_in (cell_at m c)))
changed change m (Err kind) = Err kind

-- the lock that a pointer names is taken, or freed: the stops of an access come first. Any lock may be named, whatever is visible
unfoldable pub acquire : Wire → World → Result Memory StopKind
acquire p w = changed (acquired (taken_as w.views)) w.memory (reached everywhere w.memory p)

unfoldable pub release : Wire → World → Result Memory StopKind
release p w = changed released w.memory (reached everywhere w.memory p)
