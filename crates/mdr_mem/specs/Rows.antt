-- protocol
-- How the plain memory lies: handles in the order of births, and what each slot holds.
use Rattle.std.specs.Prelude.{ℕ, ◌≡◌, ◌<◌, ◌≤◌, ◌+◌, Bool, true, false, List, [], ◌∷◌, map, length, Option, Some, None, ◌==◌, slice_index_or, slice_set}
use Rattle.mdr_core.specs.declared.value.Block.{Block}
use Rattle.mdr_core.specs.declared.value.Value.{Value}
use Rattle.mdr_core.specs.declared.value.Value.TheVariants as value
use Rattle.mdr_model.specs.declared.message.BirthKind.TheVariants.{Static}
use Rattle.mdr_model.specs.Memory.{Memory}
use Rattle.mdr_model.specs.declared.memory.MemoryBlock.{MemoryBlock}
use Rattle.mdr_mem.specs.declared.cells.Life.{Life}
use Rattle.mdr_mem.specs.declared.rows.Held.{Held}
use Rattle.mdr_mem.specs.Contents.{is_handle, wire_in, births_in}

abbrev pub Slots : Type 0
Slots = List (Option Held)

abbrev pub in_slot : Slots → ℕ → Option Held
in_slot slots slot = slice_index_or slots slot None

-- no slot that is named by a handle is empty
abbrev pub no_block : MemoryBlock
no_block = record { born = record { serial = 0; kind = Static; ty = 0; count = 0 }; cells = [] }

abbrev pub shown : List Block → Option Held → MemoryBlock
shown hs None = no_block
shown hs (Some x) = record { born = x.born; cells = map (wire_in hs) x.cells }

-- the blocks of some handles, where these are alive
unfoldable pub blocks_of : List Block → Slots → List Block → Memory
blocks_of alive slots [] = []
blocks_of alive slots (h ∷ hs) = shown alive (in_slot slots h.slot) ∷ blocks_of alive slots hs

abbrev pub holds_serial : Option Held → ℕ → Bool
holds_serial None serial = false
holds_serial (Some x) serial = x.born.serial == serial

-- a handle's slot holds its block
abbrev pub is_held : Slots → Block → Bool
is_held slots b = holds_serial (in_slot slots b.slot) b.serial

-- what a slot holds with another value in one cell
abbrev pub with_cell : Held → ℕ → Value → Held
with_cell x index v = record { born = x.born; cells = slice_set x.cells index v }

-- serials rise
abbrev pub Rise : List Block → Type 0
Rise [] = Unit {0}
Rise (h ∷ hs) = ((b : Block) → is_handle hs b ≡ true → h.serial < b.serial) × Rise hs

-- a pointer was made after its block's birth
abbrev pub IsOld : ℕ → Value → Type 0
IsOld births (value.Ptr p) = p.block.serial < births
IsOld births _ = Unit {0}

abbrev pub AreOld : ℕ → List Value → Type 0
AreOld births [] = Unit {0}
AreOld births (v ∷ vs) = IsOld births v × AreOld births vs

abbrev pub AreHeldOld : ℕ → Option Held → Type 0
AreHeldOld births None = Unit {0}
AreHeldOld births (Some x) = AreOld births x.cells

pub record IsSound (alive : List Block) (slots : Slots) (lives : List Life) (births room : ℕ) : Type 0 where
  pub rise : Rise alive
  pub below : (b : Block) → is_handle alive b ≡ true → b.serial < births
  pub held : (b : Block) → is_handle alive b ≡ is_held slots b
  pub old : (slot : ℕ) → AreHeldOld births (in_slot slots slot)
  pub counted : births ≡ births_in lives
  pub roomy : length lives + length alive ≤ room
