-- believed
-- What a run shows: events, end, ticks, and the objects that the globals lead to.
use Rattle.std.specs.Prelude.{ℕ, zero, suc, ◌+◌, Bool, List, [], ◌∷◌, ◌++◌, length, map, Option, Some, None, unwrap_or, ◌==◌, slice_get}
use Rattle.std.specs.List.{list_any, position}
use Rattle.mdr_core.specs.declared.program.Program.{Program}
use Rattle.mdr_core.specs.Layout.{chosen}
use Rattle.mdr_meaning.specs.declared.wire.Wire.{Wire}
use Rattle.mdr_meaning.specs.declared.wire.Wire.TheVariants as wire
use Rattle.mdr_meaning.specs.Pointers.{position as cell_of}
use Rattle.mdr_model.specs.declared.outcome.Object.{Object}
use Rattle.mdr_model.specs.declared.outcome.Seen.{Seen}
use Rattle.mdr_model.specs.declared.outcome.Seen.TheVariants as seen
use Rattle.mdr_model.specs.declared.memory.MemoryBlock.{MemoryBlock}
use Rattle.mdr_model.specs.Memory.{Memory}
use Rattle.mdr_model.specs.Outcome.{seen_lock}
use Rattle.mdr_plain.specs.declared.outcome.Outcome.{Outcome}
use Rattle.mdr_plain.specs.Scripts.{Finish, block_cells}

-- ---- which live blocks are shown, and in which order

abbrev pub is_among : List ℕ → ℕ → Bool
is_among serials serial = list_any (λ n. serial == n) serials

-- a block behind those that were met before, unless it is one of them
abbrev pub with_block : List ℕ → ℕ → List ℕ
with_block met serial = chosen (is_among met serial) met (met ++ serial ∷ [])

-- a memory's cells name live blocks alone
abbrev pub with_named : List ℕ → Wire → List ℕ
with_named met (wire.Ptr p) = with_block met p.serial
with_named met _ = met

-- those that cells name, each where it is met first
abbrev pub met_in : List ℕ → List Wire → List ℕ
met_in met [] = met
met_in met (v ∷ vs) = met_in (with_named met v) vs

abbrev pub cells_shown : Memory → Option ℕ → List Wire
cells_shown m None = []
cells_shown m (Some serial) = block_cells m serial

-- so many objects from number i on are scanned, in the order of their numbers
abbrev pub scanned : Memory → (n i : ℕ) → List ℕ → List ℕ
scanned m zero i met = met
scanned m (suc n) i met = scanned m n (suc i) (met_in met (cells_shown m (slice_get met i)))

abbrev pub first_serials : ℕ → List ℕ
first_serials zero = []
first_serials (suc n) = first_serials n ++ n ∷ []

-- the serials of the objects: the globals, then each live block where it is met first. There are no more objects than live blocks
unfoldable pub shown_blocks : Program → Memory → List ℕ
shown_blocks program m = scanned m (length m) 0 (first_serials (length program.globals))

-- ---- what is shown of them

-- the number of an object, from 1
abbrev pub object_number : List ℕ → ℕ → ℕ
object_number serials serial = unwrap_or (position (λ n. n == serial) serials) 0 + 1

abbrev pub seen_of : Program → List ℕ → Wire → Seen
seen_of program serials (wire.Int k n) = seen.Int n
seen_of program serials wire.Null = seen.Null
seen_of program serials (wire.Ptr p) = seen.At (object_number serials p.serial) (cell_of program p)
seen_of program serials wire.Dead = seen.Dead
seen_of program serials (wire.Fn f) = seen.Fn f
seen_of program serials (wire.Lock s) = seen_lock s
seen_of program serials wire.NoValue = seen.Null

abbrev pub object_of : Program → List ℕ → MemoryBlock → Object
object_of program serials b = record { ty = b.born.ty; count = b.born.count; cells = map (seen_of program serials) b.cells }

-- the live block with a serial
abbrev pub objects_at : Program → List ℕ → Memory → ℕ → List Object
objects_at program serials [] serial = []
objects_at program serials (b ∷ m) serial = chosen (b.born.serial == serial) (object_of program serials b ∷ []) (objects_at program serials m serial)

abbrev pub objects_for : Program → List ℕ → Memory → List ℕ → List Object
objects_for program serials m [] = []
objects_for program serials m (n ∷ ns) = objects_at program serials m n ++ objects_for program serials m ns

unfoldable pub objects_of : Program → Memory → List Object
objects_of program m = objects_for program (shown_blocks program m) m (shown_blocks program m)

-- the outcome of a run that ended so
unfoldable pub outcome_of : Program → Finish → Outcome
outcome_of program f = record {
  events = f.world.kept.events;
  end = f.end;
  ticks = f.world.clock.ticks;
  live = length f.world.memory;
  objects = objects_of program f.world.memory;
}
