-- believed
-- What messages tell of memory, and the agreed copy: the blocks that both halves know, with the values that were told last.
use Rattle.std.specs.Prelude.{ℕ, suc, Bool, cond, not, ◌&&◌, List, [], ◌∷◌, ◌++◌, map, nat_le, unwrap_or}
use Rattle.std.specs.List.{list_any}
use Rattle.mdr_core.specs.declared.program.Program.{Program}
use Rattle.mdr_meaning.specs.declared.wire.Wire.{Wire}
use Rattle.mdr_meaning.specs.declared.wire.Wire.TheVariants as wire
use Rattle.mdr_model.specs.declared.message.New.{New}
use Rattle.mdr_model.specs.declared.message.Run.{Run}
use Rattle.mdr_model.specs.declared.message.SetRun.{SetRun}
use Rattle.mdr_model.specs.declared.message.Told.{Told}
use Rattle.mdr_model.specs.Values.{is_same, names_block}
use Rattle.mdr_model.specs.Memory.{Memory, MemoryBlock, Cell, cell_at, is_live, put, killed, zero_block}
use Rattle.mdr_model.specs.Sets.{cells_of_run, runs_of_cells}

-- ---- runs of values

-- a cell with a value
pub record CellValue : Type 0 where
  pub cell : Cell
  pub value : Wire

-- values of cells that follow one another from an index
unfoldable pub numbered : ℕ → ℕ → List Wire → List CellValue
numbered serial index [] = []
numbered serial index (v ∷ vs) = record { cell = record { serial = serial; index = index }; value = v } ∷ numbered serial (suc index) vs

-- the cells with their values that runs name
unfoldable pub values_of_runs : List Run → List CellValue
values_of_runs [] = []
values_of_runs (r ∷ rs) = numbered r.serial r.first r.values ++ values_of_runs rs

unfoldable pub put_all : List CellValue → Memory → Memory
put_all [] m = m
put_all (x ∷ xs) m = put_all xs (put m x.cell x.value)

-- the memory with the runs stored
unfoldable pub put_runs : List Run → Memory → Memory
put_runs runs m = put_all (values_of_runs runs) m

-- what a cell holds, or no value where it isn't
unfoldable pub held : Memory → Cell → Wire
held m c = unwrap_or (cell_at m c) wire.NoValue

abbrev pub run_from : Memory → SetRun → Run
run_from m r = record { serial = r.serial; first = r.first; values = map (held m) (cells_of_run r) }

abbrev pub has_changed : Memory → Memory → Cell → Bool
has_changed agreed now c = not (is_same (held agreed c) (held now c))

-- the cells of a set whose value differs from the agreed one
unfoldable pub changed_cells : List Cell → Memory → Memory → List Cell
changed_cells [] agreed now = []
changed_cells (c ∷ cs) agreed now = cond (has_changed agreed now c) (c ∷ changed_cells cs agreed now) (changed_cells cs agreed now)

-- the same with their values, as runs
unfoldable pub changes : List Cell → Memory → Memory → List Run
changes cells agreed now = map (run_from now) (runs_of_cells (changed_cells cells agreed now))

-- ---- births and deaths that are told

-- the serials that the copy has and the memory hasn't
unfoldable pub died : Memory → Memory → List ℕ
died [] m = []
died (b ∷ copy) m = cond (is_live m b.born.serial) (died copy m) (b.born.serial ∷ died copy m)

-- the copy without the blocks that died
unfoldable pub without : List ℕ → Memory → Memory
without [] copy = copy
without (serial ∷ serials) copy = without serials (killed serial copy)

-- a block in its place: the copy's serials rise
unfoldable pub inserted : MemoryBlock → Memory → Memory
inserted b [] = b ∷ []
inserted b (x ∷ m) = cond (nat_le b.born.serial x.born.serial) (b ∷ x ∷ m) (x ∷ inserted b m)

-- the copy with the new blocks, which are zero
unfoldable pub with_news : Program → List New → Memory → Memory
with_news program [] copy = copy
with_news program (n ∷ news) copy = inserted (zero_block program n) (with_news program news copy)

-- some value names the block
abbrev pub is_named : List Wire → ℕ → Bool
is_named values serial = list_any (names_block serial) values

-- the live blocks that some value names and the copy hasn't
unfoldable pub news_of : Memory → List Wire → Memory → List New
news_of copy values [] = []
news_of copy values (b ∷ m) =
    cond (not (is_live copy b.born.serial) && is_named values b.born.serial) (b.born ∷ news_of copy values m) (news_of copy values m)

-- ---- what a message of the kernel half tells

-- the copy without what died since
unfoldable pub left_of : Memory → Memory → Memory
left_of copy m = without (died copy m) copy

-- the values of the visible cells that changed: of a block that the copy hasn't, all
unfoldable pub changed_values : List Cell → Memory → Memory → List Wire
changed_values view left m = map (held m) (changed_cells view left m)

-- the blocks that a message with these values tells for the first time: a value of the message names them, or a visible cell that changed
unfoldable pub told_news : List Cell → List Wire → Memory → Memory → List New
told_news view values copy m =
    let left : Memory = left_of copy m in
    news_of left (values ++ changed_values view left m) m

-- the copy once the deaths and the new blocks of a message are in it
unfoldable pub begun_copy : Program → List Cell → List Wire → Memory → Memory → Memory
begun_copy program view values copy m = with_news program (told_news view values copy m) (left_of copy m)

-- what a message with these values tells where the copy is agreed and the memory is now: the blocks that died, those that are named for the first time, the visible cells, and of these the ones that differ then
unfoldable pub tells : Program → List Cell → List Wire → Memory → Memory → Told
tells program view values copy m = record {
  deaths = died copy m;
  news = told_news view values copy m;
  view = runs_of_cells view;
  runs = changes view (begun_copy program view values copy m) m;
}

-- the copy after a message: deaths first, then the new blocks, then the runs
unfoldable pub agreed_after : Program → Told → Memory → Memory
agreed_after program told copy = put_runs told.runs (with_news program told.news (without told.deaths copy))
