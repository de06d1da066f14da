-- protocol
-- Cells that are marked as visible, and what the code has at hand of memory.
use Rattle.std.specs.Prelude.{◌≡◌, ℕ, ◌+◌, ◌*◌, ◌-◌, ◌==◌, nat_lt, ℤ, pos, negsuc, Bool, true, false, not, ◌&&◌, ◌⊎◌}
use Rattle.std.specs.Prelude.{List, [], ◌∷◌, ◌++◌, filter, map, slice_get, drop, take, Option, Some, None, is_some, Result, Ok, Err, MatchResult}
use Rattle.mdr_access.specs.KeyOrder.{keys}
use Rattle.mdr_cells.specs.declared.name.CellName.{CellName}
use Rattle.mdr_cells.specs.Names.{cell_of, named}
use Rattle.mdr_core.specs.declared.plan.Key.{Key}
use Rattle.mdr_core.specs.declared.program.Program.{Program}
use Rattle.mdr_core.specs.declared.types.Ann.{Ann}
use Rattle.mdr_core.specs.declared.value.Block.{Block}
use Rattle.mdr_core.specs.Layout.{Alone, chosen, field_start, key_by}
use Rattle.mdr_extents.specs.Around.{global_of, key_of}
use Rattle.mdr_extents.specs.CellOrder.{IsBefore, cells}
use Rattle.mdr_extents.specs.Extent as extents
use Rattle.mdr_extents.specs.Extent.{Elements, Fails, first_of, is_empty, up_to}
use Rattle.mdr_extents.specs.Reaching.{Failing, Root, Roots, beginning, cells_led, counts, extent_at, extent_by, first_failing, graph, own_cells, root_cells, root_extent, visible as visible_now}
use Rattle.mdr_meaning.specs.declared.wire.Wire.{Wire}
use Rattle.mdr_meaning.specs.declared.wire.Wire.TheVariants as wire
use Rattle.mdr_meaning.specs.declared.wire.WireView.{WireView}
use Rattle.mdr_meaning.specs.Pointers.{size}
use Rattle.mdr_meaning.specs.Values.{wire_of}
use Rattle.mdr_mem.specs.Contents.{Contents, wire_in}
use Rattle.mdr_model.specs.declared.memory.Cell.{Cell}
use Rattle.mdr_model.specs.Memory.{Memory, born_at, cell_at}
use Rattle.mdr_model.specs.Sets.{cells_from}
use Rattle.mdr_paths.specs.Paths.{Graph, IsPartial, fails, is_in, visible, visible_set}
use Rattle.mdr_reach.specs.declared.extent.Extent.{Extent}
use Rattle.mdr_reach.specs.declared.extent.Extent.TheVariants as extent
use Rattle.mdr_reach.specs.declared.held.Held.{Held}
use Rattle.mdr_reach.specs.declared.lengths.Siblings.{Siblings}
use Rattle.mdr_reach.specs.declared.lengths.Siblings.TheVariants as siblings
use Rattle.mdr_reach.specs.declared.rows.Around.{Around}
use Rattle.mdr_reach.specs.declared.rows.Around.TheVariants as around
use Rattle.mdr_reach.specs.declared.scene.Scene.{Scene}
use Rattle.mdr_reach.specs.Spots.{IsRowOf}

-- ---- cells that count

-- a cell that is there, with its key among these
abbrev pub counts_at : Program → List Key → Memory → Cell → Bool
counts_at program touched m c = is_some (cell_at m c) && counts program touched m c

abbrev pub with_cell : (Cell → Bool) → List Cell → Cell → List Cell
with_cell counts marked c = chosen (counts c && not (is_in cells marked c)) (marked ++ c ∷ []) marked

-- each of these cells that counts joins the marked ones, once
unfoldable pub entered : (Cell → Bool) → List Cell → List Cell → List Cell
entered counts marked [] = marked
entered counts marked (c ∷ cs) = entered counts (with_cell counts marked c) cs

-- the marked cells are those that count of which a test holds
pub record AreMarked (counts test : Cell → Bool) (marked : List Cell) : Type 0 where
  pub counted : (c : Cell) → is_in cells marked c ≡ true → counts c ≡ true
  pub passed : (c : Cell) → is_in cells marked c ≡ true → test c ≡ true
  pub all : (c : Cell) → test c ≡ true → counts c ≡ true → is_in cells marked c ≡ true

-- one cell is the other, or comes before it
abbrev pub IsUpTo : Cell → Cell → Type 0
IsUpTo c d = (c ≡ d) ⊎ IsBefore c d

-- of these cells this one fails, and each other one that fails comes behind it in their order
pub record IsLeast (g : Graph cells) (cs : List Cell) (c : Cell) : Type 0 where
  pub one : is_in cells cs c ≡ true
  pub failing : fails g c ≡ true
  pub least : (d : Cell) → is_in cells cs d ≡ true → fails g d ≡ true → IsUpTo c d

-- the first in their order of these cells that fails, or none where none does
abbrev pub IsLeastOf : Graph cells → List Cell → Option CellName → Type 0
IsLeastOf g cs None = (c : Cell) → is_in cells cs c ≡ true → fails g c ≡ false
IsLeastOf g cs (Some name) = IsLeast g cs (cell_of name)

-- of the marked cells, the first so many were followed, and of these this is the first that fails
pub record IsFollowed (g : Graph cells) (roots marked : List Cell) (i : ℕ) (failing : Option CellName) : Type 0 where
  pub partial : IsPartial g roots marked (drop i marked)
  pub least : IsLeastOf g (take i marked) failing

-- ---- a live block

pub record IsHeld (program : Program) (touched : List Key) (s : Contents) (h : Held) : Type 0 where
  pub born : born_at s.memory h.born.serial ≡ Some h.born
  pub row : IsRowOf program touched h.born.ty h.row.now
  pub alone : h.alone ≡ is_in keys touched (key_by Alone (global_of program h.born) h.born.ty)
  pub cells : (index : ℕ) → cell_at s.memory (record { serial = h.born.serial; index = index }) ≡ slice_get (map (wire_in s.handles) h.cells.now) index

-- the key of what stands so around a cell is among those that may be touched
abbrev pub is_around_touched : Option Around → (alone : Bool) → Bool
is_around_touched None alone = false
is_around_touched (Some around.Nothing) alone = alone
is_around_touched (Some (around.Field s f touched)) alone = touched

-- ---- extents

-- the value points nowhere
abbrev pub IsNoPointer : Wire → Type 0
IsNoPointer (wire.Ptr p) = ⊥
IsNoPointer _ = Unit {0}

abbrev pub extent_of : Extent → extents.Extent
extent_of (extent.Elements n) = Elements n
extent_of extent.Fails = Fails

-- what holds the siblings of a pointer
abbrev pub siblings_of : Program → List Block → Siblings → extents.Siblings
siblings_of program hs siblings.Nothing n = None
siblings_of program hs (siblings.Fields held start s) n = slice_get (map (wire_in hs) held.now) (start + field_start program.structs s n)
siblings_of program hs (siblings.Passed values) n = slice_get (map wire_of values.now) n

-- so many elements, if there is room
abbrev pub extent_long : (room : ℕ) → ℤ → extents.Extent
extent_long room (pos n) = chosen (nat_lt room n) Fails (Elements n)
extent_long room (negsuc n) = Fails

abbrev pub extent_single : (index count : ℕ) → extents.Extent
extent_single index count = Elements (chosen (nat_lt index count) 1 0)

-- up to the first element of which the cell behind so many is empty
abbrev pub extent_searched : Program → Memory → WireView → (start : ℕ) → extents.Extent
extent_searched program m v start =
    up_to v.index (first_of (λ i. is_empty (cell_at m (record { serial = v.serial; index = v.first + i * size program v.ty + start }))) v.index (v.count - v.index))

-- ---- what is found

-- the marked cells are the visible ones, of which none fails
pub record IsReached (g : Graph cells) (roots marked : List Cell) : Type 0 where
  pub same : (c : Cell) → is_in cells marked c ≡ is_in cells (visible g roots) c
  pub whole : visible_set g roots ≡ Ok (visible g roots)

-- the marked cells are these, or the first visible cell that fails is this one
abbrev pub IsFound : Graph cells → List Cell → Result (List CellName) CellName → Type 0
IsFound g roots r = MatchResult r (λ marked. IsReached g roots (named marked)) (λ name. visible_set g roots ≡ Err (cell_of name))

-- where a cell leads
unfoldable pub led : Program → List Key → Memory → Cell → List Cell
led program touched m c = cells_led program touched m (cell_at m c) (extent_at program touched m c)

-- the cells with their keys among these of the block with a serial
unfoldable pub cells_born : Program → List Key → (serial : ℕ) → Memory → List Cell
cells_born program touched serial [] = []
cells_born program touched serial (b ∷ m) = chosen (b.born.serial == serial) (own_cells program touched b) (cells_born program touched serial m)

-- ---- the same in a scene

abbrev pub graph_in : Scene → Graph cells
graph_in scene = graph scene.program.now scene.touched.now scene.blocks.now.memory

abbrev pub counts_in : Scene → Cell → Bool
counts_in scene = counts_at scene.program.now scene.touched.now scene.blocks.now.memory

abbrev pub AreMarkedIn : Scene → (test : Cell → Bool) → List Cell → Type 0
AreMarkedIn scene test marked = AreMarked (counts_in scene) test marked

abbrev pub with_cell_in : Scene → List Cell → Cell → List Cell
with_cell_in scene marked c = with_cell (counts_in scene) marked c

abbrev pub entered_in : Scene → List Cell → List Cell → List Cell
entered_in scene marked cs = entered (counts_in scene) marked cs

abbrev pub led_in : Scene → Cell → List Cell
led_in scene c = led scene.program.now scene.touched.now scene.blocks.now.memory c

abbrev pub passed_in : Scene → Roots → List Cell
passed_in scene roots = root_cells scene.program.now scene.touched.now scene.blocks.now.memory roots.passed roots.values

abbrev pub failing_in : Scene → Roots → Option ℕ
failing_in scene roots = first_failing scene.program.now scene.touched.now scene.blocks.now.memory roots.passed roots.values

abbrev pub visible_in : Scene → (known : List Cell) → Roots → Result (List Cell) Failing
visible_in scene known roots = visible_now scene.program.now scene.touched.now scene.blocks.now.memory known roots

-- the cell of a live block with an index
abbrev pub cell_in : Held → (index : ℕ) → Cell
cell_in h index = record { serial = h.born.serial; index = index }

-- of so many cells of a live block, those with their keys among those that may be touched
abbrev pub touched_cells : Scene → Held → (first count : ℕ) → List Cell
touched_cells scene h first count =
    filter (λ (c : Cell). extents.is_touched scene.program.now scene.touched.now h.born c.index) (cells_from h.born.serial first count)

-- the extent of a value with this annotation, among these siblings
abbrev pub value_extent : Scene → Siblings → Ann → Wire → extents.Extent
value_extent scene siblings ann v =
    extents.extent scene.program.now scene.touched.now scene.blocks.now.memory (siblings_of scene.program.now scene.blocks.now.handles siblings) ann v

-- of a pointer into a live block
abbrev pub block_extent : Scene → Held → Siblings → Ann → WireView → extents.Extent
block_extent scene h siblings ann v =
    extents.extent_in scene.program.now scene.touched.now scene.blocks.now.memory (siblings_of scene.program.now scene.blocks.now.handles siblings) ann v (Some h.born)

-- of a value in a cell of a live block
abbrev pub held_extent : Scene → Held → (index : ℕ) → Wire → extents.Extent
held_extent scene h index v =
    extent_by scene.program.now scene.touched.now scene.blocks.now.memory h.born index (key_of scene.program.now h.born index) v

-- of what a cell holds
abbrev pub cell_extent : Scene → Cell → extents.Extent
cell_extent scene c = extent_at scene.program.now scene.touched.now scene.blocks.now.memory c

-- of what is passed
abbrev pub passed_extent : Scene → (passed : List Wire) → Root → extents.Extent
passed_extent scene passed root = root_extent scene.program.now scene.touched.now scene.blocks.now.memory passed root

-- the cells of a value's extent
abbrev pub target_cells : Scene → Wire → extents.Extent → List Cell
target_cells scene v extent = extents.cells_in scene.program.now scene.touched.now scene.blocks.now.memory v extent

abbrev pub passed_cells : Scene → (passed : List Wire) → Root → List Cell
passed_cells scene passed root = target_cells scene root.value (passed_extent scene passed root)

-- no pointer that is passed fails, and the marked cells are those with which the set begins
pub record IsBegun (scene : Scene) (known : List Cell) (roots : Roots) (marked : List Cell) : Type 0 where
  pub passes : failing_in scene roots ≡ None
  pub followed : IsFollowed (graph_in scene) (beginning scene.program.now scene.touched.now scene.blocks.now.memory known roots) marked 0 None

-- it begins so, or the first pointer that is passed and fails has this number
abbrev pub Begins : Scene → (known : List Cell) → Roots → Result (List CellName) ℕ → Type 0
Begins scene known roots r = MatchResult r (λ marked. IsBegun scene known roots (named marked)) (λ n. failing_in scene roots ≡ Some n)
