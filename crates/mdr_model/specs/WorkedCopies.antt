-- for proofs
-- Messages worked out by hand: blocks that are born and die, that point to each other, and that are told in another order than they were born in.
use Rattle.std.specs.Prelude.{◌≡◌, ℕ, true, List, [], ◌∷◌, codes, pos}
use Rattle.mdr_core.specs.declared.kind.Kind.TheVariants.{U32}
use Rattle.mdr_core.specs.declared.types.Ty.TheVariants as ty
use Rattle.mdr_core.specs.declared.types.Ann.TheVariants.{Single}
use Rattle.mdr_core.specs.declared.value.Value.TheVariants as value
use Rattle.mdr_core.specs.declared.program.Program.{Program}
use Rattle.mdr_meaning.specs.declared.wire.Wire.{Wire}
use Rattle.mdr_meaning.specs.declared.wire.Wire.TheVariants as wire
use Rattle.mdr_model.specs.declared.message.New.{New}
use Rattle.mdr_model.specs.declared.message.Run.{Run}
use Rattle.mdr_model.specs.declared.message.SetRun.{SetRun}
use Rattle.mdr_model.specs.declared.message.Told.{Told}
use Rattle.mdr_model.specs.declared.message.BirthKind.TheVariants.{Static, Heap}
use Rattle.mdr_model.specs.Memory.{Memory, MemoryBlock, killed}
use Rattle.mdr_model.specs.Sets.{cells_of_runs}
use Rattle.mdr_model.specs.Copies.{tells, agreed_after}
use Rattle.mdr_model.specs.User.{lives_fit}
use Rattle.mdr_core.specs.Types.{first_types}

-- u32 a[2]; no definition here reads more of a driver
abbrev pub pair : Program
pair = record {
  types = first_types;
  structs = [];
  globals = record { name = codes "a"; ty = ty.Int U32; count = 2; array = true; ann = Single; init = value.Int U32 (pos 0) ∷ value.Int U32 (pos 0) ∷ [] } ∷ [];
  funcs = [];
}

-- ---- blocks of numbers and of pointers

abbrev pub number : ℕ → Wire
number n = wire.Int U32 (pos n)

-- a pointer to the beginning of a block of two cells
abbrev pub to : ℕ → Wire
to serial = wire.Ptr (record { serial = serial; first = 0; ty = 2; count = 2; index = 0 })

abbrev pub global_born : New
global_born = record { serial = 0; kind = Static; ty = 2; count = 2 }

abbrev pub heap_born : ℕ → New
heap_born serial = record { serial = serial; kind = Heap; ty = 2; count = 2 }

abbrev pub block : New → Wire → Wire → MemoryBlock
block born x y = record { born = born; cells = x ∷ y ∷ [] }

-- the global's two cells, and those of a block
abbrev pub whole : ℕ → SetRun
whole serial = record { serial = serial; first = 0; len = 2 }

abbrev pub told_as : List ℕ → List New → List SetRun → List Run → Told
told_as deaths news view runs = record { deaths = deaths; news = news; view = view; runs = runs }

-- what a message leaves in a user half that has this copy: the births and deaths fit, and this copy is agreed then
pub record Takes (copy : Memory) (told : Told) (next : Memory) : Type 0 where
  pub fits : lives_fit pair copy told.deaths told.news ≡ true
  pub agreed : agreed_after pair told copy ≡ next

-- ---- told in another order than born

-- the global, and blocks 1 and 2
abbrev pub three_blocks : Memory
three_blocks = block global_born (number 0) (number 0) ∷ block (heap_born 1) (number 0) (number 0) ∷ block (heap_born 2) (number 0) (number 0) ∷ []

abbrev pub global_alone : Memory
global_alone = block global_born (number 0) (number 0) ∷ []

abbrev pub without_one : Memory
without_one = block global_born (number 0) (number 0) ∷ block (heap_born 2) (number 0) (number 0) ∷ []

-- a message names block 2 alone, a later one names block 1: the copy has them by their serials. Both die: the deaths are 1, 2, and the user half takes them
pub record DeathsRise : Type 0 where
  pub second : tells pair (cells_of_runs (whole 0 ∷ [])) (to 2 ∷ []) global_alone three_blocks ≡ told_as [] (heap_born 2 ∷ []) (whole 0 ∷ []) []
  pub second_taken : Takes global_alone (told_as [] (heap_born 2 ∷ []) (whole 0 ∷ []) []) without_one
  pub first : tells pair (cells_of_runs (whole 0 ∷ [])) (to 1 ∷ []) without_one three_blocks ≡ told_as [] (heap_born 1 ∷ []) (whole 0 ∷ []) []
  pub first_taken : Takes without_one (told_as [] (heap_born 1 ∷ []) (whole 0 ∷ []) []) three_blocks
  pub deaths : tells pair (cells_of_runs (whole 0 ∷ [])) [] three_blocks global_alone ≡ told_as (1 ∷ 2 ∷ []) [] (whole 0 ∷ []) []
  pub deaths_taken : Takes three_blocks (told_as (1 ∷ 2 ∷ []) [] (whole 0 ∷ []) []) global_alone

-- ---- a new block of zeros

-- a cell of the global points to a block that was born since
abbrev pub stored_new : Memory
stored_new = block global_born (to 1) (number 0) ∷ block (heap_born 1) (number 0) (number 0) ∷ []

-- the block and the global's cell are told, and no zero, though all four cells may be seen
pub record ZerosArentTold : Type 0 where
  pub told :
      tells pair (cells_of_runs (whole 0 ∷ whole 1 ∷ [])) [] global_alone stored_new
      ≡ told_as [] (heap_born 1 ∷ []) (whole 0 ∷ whole 1 ∷ []) (record { serial = 0; first = 0; values = to 1 ∷ [] } ∷ [])
  pub copy : agreed_after pair (told_as [] (heap_born 1 ∷ []) (whole 0 ∷ whole 1 ∷ []) (record { serial = 0; first = 0; values = to 1 ∷ [] } ∷ [])) global_alone ≡ stored_new

-- ---- a cycle, an alias, a death

-- both cells of the global point to block 1, and blocks 1 and 2 to each other
abbrev pub cycle : Memory
cycle = block global_born (to 1) (to 1) ∷ block (heap_born 1) (to 2) (number 0) ∷ block (heap_born 2) (number 7) (to 1) ∷ []

abbrev pub cycle_told : Told
cycle_told =
    told_as [] (heap_born 1 ∷ heap_born 2 ∷ []) (whole 0 ∷ whole 1 ∷ whole 2 ∷ [])
    (record { serial = 0; first = 0; values = to 1 ∷ to 1 ∷ [] } ∷ record { serial = 1; first = 0; values = to 2 ∷ [] } ∷ record { serial = 2; first = 0; values = number 7 ∷ to 1 ∷ [] } ∷ [])

-- block 2 is dead, and the pointer to it
abbrev pub cycle_left : Memory
cycle_left = block global_born (to 1) (to 1) ∷ block (heap_born 1) wire.Dead (number 0) ∷ []

-- block 1 then too, and the kernel half has set a cell of the global back
abbrev pub cycle_gone : Memory
cycle_gone = block global_born (number 3) wire.Dead ∷ []

-- one message tells the cycle; the next one block 2's death alone, since the copy's own pointer to it dies with it; the last one block 1's death and the cell that was set
pub record CycleIsTold : Type 0 where
  pub born : tells pair (cells_of_runs (whole 0 ∷ whole 1 ∷ whole 2 ∷ [])) [] global_alone cycle ≡ cycle_told
  pub born_taken : Takes global_alone cycle_told cycle
  pub death : killed 2 cycle ≡ cycle_left
  pub death_told : tells pair (cells_of_runs (whole 0 ∷ whole 1 ∷ [])) [] cycle cycle_left ≡ told_as (2 ∷ []) [] (whole 0 ∷ whole 1 ∷ []) []
  pub death_taken : Takes cycle (told_as (2 ∷ []) [] (whole 0 ∷ []) []) cycle_left
  pub last_told : tells pair (cells_of_runs (whole 0 ∷ [])) [] cycle_left cycle_gone ≡ told_as (1 ∷ []) [] (whole 0 ∷ []) (record { serial = 0; first = 0; values = number 3 ∷ [] } ∷ [])
  pub last_taken : Takes cycle_left (told_as (1 ∷ []) [] (whole 0 ∷ []) (record { serial = 0; first = 0; values = number 3 ∷ [] } ∷ [])) cycle_gone
