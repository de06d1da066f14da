-- protocol
-- What the user half's code runs on: the agreed copy, its memory by the copy's serials, and the cells that it may touch.
use Rattle.std.specs.Prelude.{List, [], Result, Ok, Err}
use Rattle.mdr_core.specs.declared.stop.StopKind.{StopKind}
use Rattle.mdr_mem.specs.declared.cells.Life.{Life}
use Rattle.mdr_meaning.specs.Walk.{Accesses}
use Rattle.mdr_model.specs.declared.memory.Cell.{Cell}
use Rattle.mdr_model.specs.Memory.{Memory, loaded, stored}
use Rattle.mdr_model.specs.Sets.{is_in}
use Rattle.mdr_plain.specs.Storage.{fresh, read}
use Rattle.mdr_region.specs.RowsView.{Reserved}
use Rattle.mdr_track.specs.Tracked.{Tracked}

-- all births and deaths so far, and the pairs, which user code leaves as they are
pub record Past : Type 0 where
  pub lives : List Life
  pub pairs : Tracked

abbrev pub past_of : Reserved → Tracked → Past
past_of region pairs = record { lives = region.contents.lives; pairs = pairs }

pub record Copied : Type 0 where
  pub past : Past
  pub agreed : Memory
  pub memory : Memory
  pub view : List Cell

abbrev pub copied : Past → Memory → List Cell → Memory → Copied
copied past agreed view m = record { past = past; agreed = agreed; memory = m; view = view }

abbrev pub copied_if : Past → Memory → List Cell → Result Memory StopKind → Result Copied StopKind
copied_if past agreed view (Ok m) = Ok (copied past agreed view m)
copied_if past agreed view (Err kind) = Err kind

-- what the user half's code does to its memory: its past, the copy and the cells that it may touch stay
abbrev pub copy_accesses : Accesses Copied
copy_accesses = record {
  load = λ c p. loaded (is_in c.view) c.memory p;
  store = λ c p v. copied_if c.past c.agreed c.view (stored (is_in c.view) c.memory p v);
  read = λ c p n. read (is_in c.view) c.memory p n;
  fresh = λ c v. fresh c.memory v;
  birth = λ c shapes. record { pointers = []; memory = c };
  death = λ c ps. c;
}
