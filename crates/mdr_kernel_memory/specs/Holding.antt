-- protocol
-- A run's state with another memory, or another clock, and which values may be stored in it.
use Rattle.std.specs.Prelude.{◌≡◌, ℕ, List, [], ◌∷◌}
use Rattle.mdr_meaning.specs.declared.wire.Wire.{Wire}
use Rattle.mdr_model.specs.declared.memory.Cell.{Cell}
use Rattle.mdr_model.specs.declared.message.Run.{Run}
use Rattle.mdr_model.specs.Memory.{Memory, normal}
use Rattle.mdr_plain.specs.World.{Clock}
use Rattle.mdr_world.specs.Driven.{Driven, driver}

-- the same with this memory
abbrev pub holding : Memory → Driven → Driven
holding m d = driver d.program (record d.world { memory = m })

-- and with this clock
abbrev pub holding_at : Memory → Clock → Driven → Driven
holding_at m clock d = driver d.program (record d.world { memory = m; clock = clock })

-- a cell of a block
abbrev pub cell_in : (serial index : ℕ) → Cell
cell_in serial index = record { serial = serial; index = index }

-- ---- what may be stored

-- a value as it is now: no pointer to a block that doesn't live
abbrev pub IsSettled : Memory → Wire → Type 0
IsSettled m v = normal m v ≡ v

abbrev pub AreSettled : Memory → List Wire → Type 0
AreSettled m [] = Unit {0}
AreSettled m (v ∷ vs) = IsSettled m v × AreSettled m vs

-- each value of these runs is so
abbrev pub AreStorable : Memory → List Run → Type 0
AreStorable m [] = Unit {0}
AreStorable m (r ∷ rs) = AreSettled m r.values × AreStorable m rs
