-- protocol
-- The blocks of marks, and what holds of holes and counts.
use Rattle.std.specs.Prelude.{ℕ, ◌+◌, ◌≡◌, ◌<◌, ◌≤◌, Bool, true, cond, List, [], ◌∷◌, length, slice_index_or, is_some, Some, None}
use Rattle.mdr_mem.specs.declared.cells.Life.{Life}
use Rattle.mdr_region.specs.declared.holes.Hole.{Hole}
use Rattle.mdr_region.specs.Layout.{Mark, laid, used}
use Rattle.mdr_region.specs.Holes.{holes_of, names, inside}

-- the mark of a place, none past the top
abbrev pub mark_at : List Mark → ℕ → Mark
mark_at marks place = slice_index_or marks place None

-- a block lies at just these places; one without cells lies nowhere, and begins at 0
pub record IsBlock (marks : List Mark) (serial start cells : ℕ) : Type 0 where
  pub none : cells ≡ 0 → start ≡ 0
  pub places : (place : ℕ) → names serial (mark_at marks place) ≡ inside start cells place

-- how many blocks there are: each begins where the mark is another than that before
unfoldable pub blocks : Mark → List Mark → ℕ
blocks before [] = 0
blocks before (None ∷ marks) = blocks None marks
blocks before (Some serial ∷ marks) = cond (names serial before) 0 1 + blocks (Some serial) marks

-- the last place is taken, or, where there is none, the mark before
unfoldable pub ends : Mark → List Mark → Bool
ends before [] = is_some before
ends before (m ∷ marks) = ends m marks

-- each serial is below the next one
abbrev pub AreBelow : ℕ → List Mark → Type 0
AreBelow births marks = (place serial : ℕ) → names serial (mark_at marks place) ≡ true → serial < births

-- what the code keeps of all births and deaths
pub record IsKept (lives : List Life) (holes : List Hole) (capacity top taken births live : ℕ) : Type 0 where
  pub free : holes ≡ holes_of 0 (laid lives).marks
  pub height : top ≡ length (laid lives).marks
  pub filled : taken ≡ used (laid lives).marks
  pub next : births ≡ (laid lives).births
  pub counted : live ≡ blocks None (laid lives).marks
  pub fresh : AreBelow births (laid lives).marks
  pub roomy : live ≤ capacity
