-- protocol
-- Cells that the code names by an index without a bound.
use Rattle.std.specs.Prelude.{ℕ, map, List, Bool, true, false, Result, Ok, Err}
use Rattle.std.specs.List.{list_all}
use Rattle.mdr_core.specs.declared.stop.StopKind.{StopKind}
use Rattle.mdr_core.specs.declared.stop.StopKind.TheVariants as stop
use Rattle.mdr_meaning.specs.declared.wire.WireView.{WireView}
use Rattle.mdr_model.specs.declared.memory.Cell.{Cell}
use Rattle.mdr_model.specs.Memory.{Memory}
use Rattle.mdr_model.specs.Sets.{is_in}
use Rattle.mdr_plain.specs.Storage.{byte_at, cells_read}
use Rattle.mdr_user_memory.specs.declared.spot.Spot.{Spot}

abbrev pub cell_in : Spot → Cell
cell_in s = record { serial = s.serial; index = s.index }

abbrev pub spot_in : Result Spot StopKind → Result Cell StopKind
spot_in (Ok s) = Ok (cell_in s)
spot_in (Err kind) = Err kind

-- bytes, where each of their cells may be touched
abbrev pub bytes_where : Bool → List ℕ → Result (List ℕ) StopKind
bytes_where true bytes = Ok bytes
bytes_where false bytes = Err stop.Annotation

abbrev pub bytes_if : List Cell → Memory → WireView → (count : ℕ) → Result (List ℕ) StopKind
bytes_if view m p n = bytes_where (list_all (is_in view) (cells_read p n)) (map (byte_at m) (cells_read p n))
