-- protocol
-- What the news of a message does to memory, step by step as the code takes it, and what it asks.
use Rattle.std.specs.Prelude.{◌≡◌, ◌≤◌, ◌<◌, ◌+◌, ◌-◌, ℕ, false, List, [], ◌∷◌, map, length, None}
use Rattle.mdr_core.specs.declared.program.Program.{Program}
use Rattle.mdr_core.specs.declared.value.Block.{Block}
use Rattle.mdr_core.specs.declared.value.Value.{Value}
use Rattle.mdr_meaning.specs.Values.{wire_of}
use Rattle.mdr_model.specs.declared.memory.MemoryBlock.{MemoryBlock}
use Rattle.mdr_model.specs.declared.message.New.{New}
use Rattle.mdr_model.specs.declared.message.Run.{Run}
use Rattle.mdr_model.specs.Copies.{CellValue, inserted, numbered, without}
use Rattle.mdr_model.specs.Memory.{Memory, normal, put, zero_block}
use Rattle.mdr_model.specs.Values.{names_block, value_of}
use Rattle.mdr_mem.specs.Contents.{Contents}
use Rattle.mdr_region.specs.RowsView.{Reserved}
use Rattle.mdr_track.specs.Pairs.{Pairs, paired, unpaired}
use Rattle.mdr_track.specs.Tracked.{Tracked, pairs_of}
use Rattle.mdr_user_memory.specs.declared.newborn.Newborn.{Newborn}
use Rattle.mdr_user_memory.specs.Paired.{Paired, told_all}

-- whatever copy a memory goes with, it goes then with what is made of the copy
abbrev pub Moves : (Memory → Memory) → Contents → Pairs → Contents → Pairs → Type 0
Moves f r ps r' ps' = (m : Memory) → Paired m r ps → Paired (f m) r' ps'

-- the same of a region behind its tracker
abbrev pub MovesIn : (Memory → Memory) → Reserved → Tracked → Reserved → Tracked → Type 0
MovesIn f r ps r' ps' = Moves f r.contents (pairs_of ps) r'.contents (pairs_of ps')

-- what is still to be done from here on leads where the whole leads from the beginning
abbrev pub Leads : (all rest : Memory → Memory) → Contents → Pairs → Contents → Pairs → Type 0
Leads all rest r ps r' ps' = (r'' : Contents) (ps'' : Pairs) → Moves rest r' ps' r'' ps'' → Moves all r ps r'' ps''

-- ---- deaths

unfoldable pub unpaired_all : List ℕ → Pairs → Pairs
unpaired_all [] ps = ps
unpaired_all (s ∷ serials) ps = unpaired_all serials (unpaired s ps)

-- ---- births

-- a block as it is born, by the copy's serials
abbrev pub block_of : Newborn → List Block → Pairs → MemoryBlock
block_of x hs ps = record { born = x.born; cells = told_all hs ps x.first }

-- no value is a pointer
unfoldable pub ArePlain : List Value → Type 0
ArePlain [] = Unit {0}
ArePlain (v ∷ vs) = ((s : ℕ) → names_block s (wire_of v) ≡ false) × ArePlain vs

abbrev pub plain_block : Newborn → MemoryBlock
plain_block x = record { born = x.born; cells = map wire_of x.first }

-- a new block, with a zero in each cell
abbrev pub newborn_of : Program → New → Newborn
newborn_of program n = record { born = n; first = map value_of (zero_block program n).cells }

-- the first one is born first
unfoldable pub borne : List Newborn → Memory → Memory
borne [] m = m
borne (x ∷ xs) m = borne xs (inserted (plain_block x) m)

-- cells of all
unfoldable pub total : List Newborn → ℕ
total [] = 0
total (x ∷ xs) = length x.first + total xs

-- a birth of a block that isn't paired, within what was promised
pub record FitsOne (x : Newborn) (ps : Pairs) (cells births room : ℕ) : Type 0 where
  pub some : 0 < length x.first
  pub few : length x.first ≤ 65536
  pub has_cells : length x.first ≤ cells
  pub has_births : 0 < births
  pub has_pairs : 0 < room
  pub new : ps.user_of x.born.serial ≡ None

-- and so for each, one after the other
unfoldable pub Fit : List Newborn → Pairs → (cells births room : ℕ) → Type 0
Fit [] ps cells births room = Unit {0}
Fit (x ∷ xs) ps cells births room =
    FitsOne x ps cells births room × (ArePlain x.first × ((b : Block) → Fit xs (paired x.born.serial b ps) (cells - length x.first) (births - 1) (room - 1)))

-- none is paired, and none stands twice
unfoldable pub AreFresh : List Newborn → Pairs → Type 0
AreFresh [] ps = Unit {0}
AreFresh (x ∷ xs) ps = (ps.user_of x.born.serial ≡ None) × ((b : Block) → AreFresh xs (paired x.born.serial b ps))

unfoldable pub AreSized : List Newborn → Type 0
AreSized [] = Unit {0}
AreSized (x ∷ xs) = (0 < length x.first) × ((length x.first ≤ 65536) × (ArePlain x.first × AreSized xs))

pub record IsRoom (xs : List Newborn) (cells births room : ℕ) : Type 0 where
  pub has_cells : total xs ≤ cells
  pub has_births : length xs ≤ births
  pub has_pairs : length xs ≤ room

-- ---- values

-- values are stored as they are then: a pointer whose block isn't live is a dead one
unfoldable pub kept_all : List CellValue → Memory → Memory
kept_all [] m = m
kept_all (x ∷ xs) m = kept_all xs (put m x.cell (normal m x.value))

unfoldable pub kept_runs : List Run → Memory → Memory
kept_runs [] m = m
kept_runs (r ∷ runs) m = kept_runs runs (kept_all (numbered r.serial r.first r.values) m)

-- each value is as a memory keeps it
unfoldable pub AreKept : List CellValue → Memory → Type 0
AreKept [] m = Unit {0}
AreKept (x ∷ xs) m = (normal m x.value ≡ x.value) × AreKept xs m

-- ---- a message

-- what the births, deaths and values of a message make of a memory
abbrev pub taken : List ℕ → List Newborn → List Run → Memory → Memory
taken deaths xs runs m = kept_runs runs (borne xs (without deaths m))

abbrev pub taken_by : Program → List ℕ → List New → List Run → Memory → Memory
taken_by program deaths news runs m = taken deaths (map (newborn_of program) news) runs m
