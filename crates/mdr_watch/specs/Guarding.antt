-- protocol
-- Memory that is held to a set of cells.
use Rattle.std.specs.Prelude.{◌≡◌, ◌≤◌, ℕ, ◌+◌, Bool, false, not, ◌&&◌, List, ◌∷◌, length, reverse, nat_le, nat_lt}
use Rattle.std.specs.List.{list_all}
use Rattle.mdr_extents.specs.CellOrder.{cells}
use Rattle.mdr_meaning.specs.declared.wire.Wire.{Wire}
use Rattle.mdr_meaning.specs.declared.wire.Wire.TheVariants as wire
use Rattle.mdr_meaning.specs.Walk.{Accesses}
use Rattle.mdr_model.specs.declared.memory.Cell.{Cell}
use Rattle.mdr_model.specs.Memory.{Memory, cell_of, is_live}
use Rattle.mdr_paths.specs.Paths.{is_in}
use Rattle.mdr_plain.specs.Storage.{cells_read}
use Rattle.mdr_plain.specs.World.{World}
use Rattle.mdr_viewed.specs.Viewed.{AreOlder, HasUpcall, viewed}
use Rattle.mdr_watch.specs.declared.sets.Sets.{Sets}
use Rattle.mdr_watched.specs.Views.{may_touch}
use Rattle.mdr_world.specs.Driven.{Driven, driven_by, driver}

-- accesses of user code
abbrev pub guarded_accesses : Accesses Driven
guarded_accesses = driven_by may_touch

-- the sets of the upcalls that are open, the innermost first
abbrev pub sets_of : Sets → List (List Cell)
sets_of s = s.inner ∷ reverse s.outer

-- the state of a run beside which they are
abbrev pub beside : Driven → Sets → Driven
beside d s = driver d.program (viewed (sets_of s) d.world)

-- sets beside a world in which an upcall is open: their cells are of blocks that were born before
pub record IsGuarded (sets : List (List Cell)) (w : World) : Type 0 where
  pub upcall : HasUpcall w
  pub older : AreOlder sets w

-- as many upcalls are open as before, and no more ticks are left
pub record StaysOpen (old new : World) : Type 0 where
  pub sets : length new.views ≡ length old.views
  pub spent : new.clock.rest ≤ old.clock.rest

-- an access stops for the set: its block lives and its index is in range, but its cell isn't in the set
abbrev pub is_kept_out : List Cell → Memory → Wire → Bool
is_kept_out set m (wire.Ptr p) = is_live m p.serial && (nat_lt p.index p.count && not (is_in cells set (cell_of p)))
is_kept_out set m _ = false

-- so does one of so many bytes, where one of their cells isn't
abbrev pub are_kept_out : List Cell → Memory → Wire → ℕ → Bool
are_kept_out set m (wire.Ptr p) n = is_live m p.serial && (nat_le (p.index + n) p.count && not (list_all (is_in cells set) (cells_read p n)))
are_kept_out set m _ n = false
