-- believed
-- What code does to memory: accesses, births and deaths (C99 6.2.4).
use Rattle.std.specs.Prelude.{ℕ, suc, ◌+◌, min, Bool, not, filter, List, [], ◌∷◌, ◌++◌, map, length, Option, Some, None, Result, Ok, Err, ◌==◌, nat_le}
use Rattle.std.specs.List.{list_all}
use Rattle.mdr_core.specs.declared.program.GlobalDef.{GlobalDef}
use Rattle.mdr_core.specs.declared.program.Program.{Program}
use Rattle.mdr_core.specs.declared.stop.StopKind.{StopKind}
use Rattle.mdr_core.specs.declared.stop.StopKind.TheVariants as stop
use Rattle.mdr_mem.specs.declared.cells.Life.{Life}
use Rattle.mdr_mem.specs.declared.cells.Life.TheVariants as life
use Rattle.mdr_mem.specs.Contents.{births_in}
use Rattle.mdr_meaning.specs.declared.shape.Shape64.{Shape64}
use Rattle.mdr_meaning.specs.declared.wire.Wire.{Wire}
use Rattle.mdr_meaning.specs.declared.wire.Wire.TheVariants as wire
use Rattle.mdr_meaning.specs.declared.wire.WireView.{WireView}
use Rattle.mdr_meaning.specs.Numbers.{Numbered}
use Rattle.mdr_meaning.specs.Values.{natural, wire_of}
use Rattle.mdr_meaning.specs.Walk.{Accesses, Born}
use Rattle.mdr_model.specs.declared.message.BirthKind.{BirthKind}
use Rattle.mdr_model.specs.declared.message.BirthKind.TheVariants.{Static, Auto}
use Rattle.mdr_model.specs.declared.message.New.{New}
use Rattle.mdr_model.specs.declared.memory.Cell.{Cell}
use Rattle.mdr_model.specs.declared.memory.MemoryBlock.{MemoryBlock}
use Rattle.mdr_model.specs.Memory.{Memory, cell_at, cell_of, is_live, killed, loaded, loaded_value, normal, reached_by, stored, zero_block}
use Rattle.mdr_model.specs.Sets.{cells_from}
use Rattle.mdr_plain.specs.World.{World}

-- ---- accesses. One cell is loaded and stored as `mdr_model` has it: by `loaded` and `stored`

-- the cells of so many bytes from a pointer on
abbrev pub cells_read : WireView → ℕ → List Cell
cells_read p n = cells_from p.serial (p.first + p.index) n

-- a number as one of 8 bits: the greatest of these where it is greater, which no byte of a sound program is
abbrev pub saturated_u8 : ℕ → ℕ
saturated_u8 n = min n 255

abbrev pub number_in : Option Wire → ℕ
number_in None = 0
number_in (Some v) = saturated_u8 (natural v)

abbrev pub byte_at : Memory → Cell → ℕ
byte_at m c = number_in (cell_at m c)

abbrev pub bytes_from : Memory → List Cell → Result Cell StopKind → Result (List ℕ) StopKind
bytes_from m cells (Ok c) = Ok (map (byte_at m) cells)
bytes_from m cells (Err kind) = Err kind

-- so many bytes from a pointer on, as one access of all their cells, with the tests of an access in their order. A null pointer stops even where no byte is read
unfoldable pub read : (Cell → Bool) → Memory → Wire → ℕ → Result (List ℕ) StopKind
read allowed m (wire.Ptr p) n =
    bytes_from m (cells_read p n) (reached_by (is_live m p.serial) (nat_le (p.index + n) p.count) (list_all allowed (cells_read p n)) (cell_of p))
read allowed m wire.Dead n = Err stop.Dead
read allowed m _ n = Err stop.Null

-- a local's value is read: its object may have died (6.2.4, paragraph 2)
unfoldable pub fresh : Memory → Wire → Result Wire StopKind
fresh m v = loaded_value (normal m v)

-- ---- births

-- the serial of the next block is the count of births before it
abbrev pub next_serial : World → ℕ
next_serial w = births_in w.lives

abbrev pub birth_of : MemoryBlock → Life
birth_of b = life.Birth (length b.cells)

abbrev pub with_block : MemoryBlock → World → World
with_block b w = record w { memory = w.memory ++ b ∷ []; lives = w.lives ++ birth_of b ∷ [] }

abbrev pub new_of : BirthKind → Shape64 → World → New
new_of kind s w = record { serial = next_serial w; kind = kind; ty = s.ty; count = s.count }

-- a pointer to a block as a whole, at its first element
abbrev pub pointer_to : New → Wire
pointer_to n = wire.Ptr (record { serial = n.serial; first = 0; ty = n.ty; count = n.count; index = 0 })

-- a block is born, with a zero in each cell
unfoldable pub born : Program → New → World → World
born program n w = with_block (zero_block program n) w

abbrev pub with_pointer : Wire → Born World → Born World
with_pointer p b = record { pointers = p ∷ b.pointers; memory = b.memory }

-- one after the other, with a pointer to each
unfoldable pub births : Program → BirthKind → List Shape64 → World → Born World
births program kind [] w = record { pointers = []; memory = w }
births program kind (s ∷ shapes) w = with_pointer (pointer_to (new_of kind s w)) (births program kind shapes (born program (new_of kind s w) w))

-- ---- deaths

-- cells but for those of a block
abbrev pub without : ℕ → List Cell → List Cell
without serial cells = filter (λ (c : Cell). not (c.serial == serial)) cells

-- a block dies: pointers to it are dead ones from now on, and its cells are visible no more
unfoldable pub died : ℕ → World → World
died serial w = record w { memory = killed serial w.memory; lives = w.lives ++ life.Death serial ∷ []; views = map (without serial) w.views }

-- what a pointer names dies
abbrev pub died_at : Wire → World → World
died_at (wire.Ptr p) w = died p.serial w
died_at _ w = w

abbrev pub deaths : List Wire → World → World
deaths [] w = w
deaths (p ∷ ps) w = deaths ps (died_at p w)

-- ---- what code does to a world, where it may touch these cells

abbrev pub with_memory : World → Memory → World
with_memory w m = record w { memory = m }

abbrev pub remembers : World → Result Memory StopKind → Result World StopKind
remembers w (Ok m) = Ok (with_memory w m)
remembers w (Err kind) = Err kind

abbrev pub accesses : Program → (World → Cell → Bool) → Accesses World
accesses program allowed = record {
  load = λ w p. loaded (allowed w) w.memory p;
  store = λ w p v. remembers w (stored (allowed w) w.memory p v);
  read = λ w p n. read (allowed w) w.memory p n;
  fresh = λ w v. fresh w.memory v;
  birth = λ w shapes. births program Auto shapes w;
  death = λ w ps. deaths ps w;
}

-- ---- the first memory

abbrev pub global_block : Numbered → ℕ → GlobalDef → MemoryBlock
global_block known number g = record {
  born = record { serial = number; kind = Static; ty = known.number g.ty; count = g.count };
  cells = map wire_of g.init;
}

abbrev pub global_blocks : Numbered → ℕ → List GlobalDef → Memory
global_blocks known number [] = []
global_blocks known number (g ∷ gs) = global_block known number g ∷ global_blocks known (suc number) gs

-- the globals, born in their order, so that a global's serial is its number
unfoldable pub first_memory : Numbered → Memory
first_memory known = global_blocks known 0 known.program.globals
