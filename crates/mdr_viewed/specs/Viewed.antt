-- protocol
-- Sets of cells beside the world of a run in which upcalls are open, and the world with the sets in it.
use Rattle.std.specs.Prelude.{◌≡◌, ◌<◌, ℕ, true, false, Bool, List, [], ◌∷◌, map, Result, Ok, Err}
use Rattle.mdr_core.specs.declared.stop.StopKind.{StopKind}
use Rattle.mdr_extents.specs.CellOrder.{cells}
use Rattle.mdr_meaning.specs.Walk.{Born}
use Rattle.mdr_model.specs.declared.memory.Cell.{Cell}
use Rattle.mdr_model.specs.Agreement.{IsBelow, SerialsRise}
use Rattle.mdr_model.specs.Memory.{is_live}
use Rattle.mdr_paths.specs.Paths.{is_in}
use Rattle.mdr_plain.specs.Gate.{are_none}
use Rattle.mdr_plain.specs.Running.{Went, Gave, Calls}
use Rattle.mdr_plain.specs.Storage.{next_serial}
use Rattle.mdr_plain.specs.World.{World, Ran, Ended, Stopped, left}
use Rattle.mdr_runs.specs.Upto.{went_left}
pub use Rattle.mdr_watched.specs.Views.{living}

-- the world with these sets in it, the innermost upcall's first: user code may touch those of its cells whose blocks live
abbrev pub viewed : List (List Cell) → World → World
viewed sets w = record w { views = map (living w.memory) sets }

-- each cell of a set is of a block that was born before
abbrev pub IsOlder : List Cell → World → Type 0
IsOlder set w = (c : Cell) → is_in cells set c ≡ true → c.serial < next_serial w

abbrev pub AreBelow : List (List Cell) → (next : ℕ) → Type 0
AreBelow [] next = Unit {0}
AreBelow (set ∷ sets) next = ((c : Cell) → is_in cells set c ≡ true → c.serial < next) × AreBelow sets next

abbrev pub AreOlder : List (List Cell) → World → Type 0
AreOlder sets w = AreBelow sets (next_serial w)

-- an upcall is open: interrupts wait, and a lock that is taken sleeps
abbrev pub HasUpcall : World → Type 0
HasUpcall w = are_none w.views ≡ false

-- serials rise, and the next one is above them
pub record IsOrdered (w : World) : Type 0 where
  pub rises : SerialsRise w.memory
  pub below : IsBelow (next_serial w) w.memory

-- ---- the sets are put into what is left

abbrev pub viewing : {A : Type 0} → List (List Cell) → Ran A → Ran A
viewing sets (Ended x w) = Ended x (viewed sets w)
viewing sets (Stopped kind at w) = Stopped kind at (viewed sets w)

abbrev pub viewed_if : List (List Cell) → Result World StopKind → Result World StopKind
viewed_if sets (Ok w) = Ok (viewed sets w)
viewed_if sets (Err kind) = Err kind

abbrev pub viewed_born : List (List Cell) → Born World → Born World
viewed_born sets b = record { pointers = b.pointers; memory = viewed sets b.memory }

-- what comes after work beside them. Where it stopped, they are put into what is left
abbrev pub after_beside : {A B : Type 0} → List (List Cell) → Ran A → (A → World → Ran B) → Ran B
after_beside sets (Ended x w) go = go x w
after_beside sets (Stopped kind at w) go = Stopped kind at (viewed sets w)

-- work that is done with the sets in the world is the work that is done beside them
pub record IsViewed {A : Type 0} (sets : List (List Cell)) (inside beside : Ran A) : Type 0 where
  pub is : inside ≡ viewing sets beside
  pub older : AreOlder sets (left beside)
  pub upcall : HasUpcall (left beside)

-- ---- up to the next call of the other half

abbrev pub viewing_went : List (List Cell) → Went → Went
viewing_went sets (Gave ran) = Gave (viewing sets ran)
viewing_went sets (Calls at f args depth next w) = Calls at f args depth next (viewed sets w)

pub record IsWentViewed (sets : List (List Cell)) (inside beside : Went) : Type 0 where
  pub is : inside ≡ viewing_went sets beside
  pub older : AreOlder sets (went_left beside)
  pub upcall : HasUpcall (went_left beside)

-- ---- what code may touch

-- the cells of a set
abbrev pub in_set : List Cell → World → Cell → Bool
in_set set w c = is_in cells set c

-- what may be touched of live blocks is the same
abbrev pub TouchAlike : List (List Cell) → (inside beside : World → Cell → Bool) → Type 0
TouchAlike sets inside beside = (w : World) (c : Cell) → is_live w.memory c.serial ≡ true → inside (viewed sets w) c ≡ beside w c
