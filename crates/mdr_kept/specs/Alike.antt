-- for proofs
-- Values, states and outcomes, how a lock is held set aside: one that sleeps counts as one that spins. Reports print both as held.
use Rattle.std.specs.Prelude.{[], map}
use Rattle.mdr_core.specs.declared.value.LockState.{LockState}
use Rattle.mdr_core.specs.declared.value.LockState.TheVariants.{Free, Spin, Sleep}
use Rattle.mdr_core.specs.declared.value.Value.{Value}
use Rattle.mdr_core.specs.declared.value.Value.TheVariants as value
use Rattle.mdr_meaning.specs.declared.wire.Wire.{Wire}
use Rattle.mdr_meaning.specs.declared.wire.Wire.TheVariants as wire
use Rattle.mdr_model.specs.declared.memory.MemoryBlock.{MemoryBlock}
use Rattle.mdr_model.specs.Memory.{Memory}
use Rattle.mdr_plain.specs.declared.outcome.Happened.{Happened}
use Rattle.mdr_plain.specs.declared.outcome.Happened.TheVariants as happened
use Rattle.mdr_plain.specs.declared.outcome.Outcome.{Outcome}
use Rattle.mdr_plain.specs.Scripts.{Finish, finish}
use Rattle.mdr_plain.specs.World.{World}

abbrev pub spun_lock : LockState → LockState
spun_lock Free = Free
spun_lock Spin = Spin
spun_lock Sleep = Spin

-- ---- states

abbrev pub spun : Wire → Wire
spun (wire.Lock s) = wire.Lock (spun_lock s)
spun v = v

abbrev pub spun_block : MemoryBlock → MemoryBlock
spun_block b = record b { cells = map spun b.cells }

abbrev pub spun_memory : Memory → Memory
spun_memory m = map spun_block m

-- ---- what is shown

abbrev pub spun_value : Value → Value
spun_value (value.Lock s) = value.Lock (spun_lock s)
spun_value v = v

abbrev pub spun_event : Happened → Happened
spun_event (happened.Ret v) = happened.Ret (spun_value v)
spun_event (happened.Show name vs) = happened.Show name (map spun_value vs)
spun_event e = e

abbrev pub spun_outcome : Outcome → Outcome
spun_outcome o = record o { events = map spun_event o.events }

-- ---- runs

-- a state with its visible sets set aside as well
abbrev pub plainly : World → World
plainly w = record w { memory = spun_memory w.memory; views = []; kept = record w.kept { events = map spun_event w.kept.events } }

abbrev pub plainly_finished : Finish → Finish
plainly_finished f = finish f.end (plainly f.world)
