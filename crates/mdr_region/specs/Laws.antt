-- for proofs
-- Laws of holes and blocks, for contracts.
use Rattle.std.specs.Prelude.{ℕ, ◌+◌, ◌≡◌, ◌≢◌, ◌<◌, ◌≤◌, true, false, List, [], ◌∷◌, ◌++◌, length, take, slice_set, None}
use Rattle.mdr_core.specs.declared.value.Value.{Value}
use Rattle.mdr_mem.specs.declared.cells.Life.{Life}
use Rattle.mdr_mem.specs.declared.cells.Life.TheVariants as life
use Rattle.mdr_region.specs.Layout.{Mark, placed, left, laid, used}
use Rattle.mdr_region.specs.Holes.{hole, holes_of, found, cut, start_of, risen, front, inside, returned, below, lowered, Rise, names}
use Rattle.mdr_region.specs.Cells.{cells_of, written}
use Rattle.mdr_region.specs.Blocks.{IsBlock, AreBelow, blocks, mark_at}

-- holes of marks rise and don't touch; after a birth the first that fits is cut, and there or at the top the block lies
pub record BirthsTakeHoles : Type 0 where
  pub rise : (marks : List Mark) → Rise 0 (length marks) (holes_of 0 marks)
  pub holes : (serial n : ℕ) (marks : List Mark) → 0 < n → holes_of 0 (placed serial n marks) ≡ cut n (holes_of 0 marks)
  pub start : (n : ℕ) (marks : List Mark) → 0 < n → start_of (length marks) (found n (holes_of 0 marks)) ≡ front n marks
  pub top : (serial n : ℕ) (marks : List Mark) → 0 < n → length (placed serial n marks) ≡ length marks + risen n (found n (holes_of 0 marks))
  pub count : (serial n : ℕ) (marks : List Mark) → used (placed serial n marks) ≡ used marks + n

-- after the death of a block its places are one hole with those that they touch, and what is free at the top is none
pub record DeathsLeaveHoles : Type 0 where
  pub holes : (serial start n : ℕ) (marks : List Mark) → 0 < n → IsBlock marks serial start n → holes_of 0 (left serial marks) ≡ below (length marks) (returned (hole start n) (holes_of 0 marks))
  pub top : (serial start n : ℕ) (marks : List Mark) → 0 < n → IsBlock marks serial start n → length (left serial marks) ≡ lowered (length marks) (returned (hole start n) (holes_of 0 marks))
  pub count : (serial start n : ℕ) (marks : List Mark) → IsBlock marks serial start n → used (left serial marks) + n ≡ used marks

-- a block lies where it was born, and no other birth or death moves it
pub record BlocksStay : Type 0 where
  pub born : (births n : ℕ) (marks : List Mark) → AreBelow births marks → IsBlock (placed births n marks) births (front n marks) n
  pub birth : (births n serial start cells : ℕ) (marks : List Mark) → serial < births → IsBlock marks serial start cells → IsBlock (placed births n marks) serial start cells
  pub death : (dead serial start cells : ℕ) (marks : List Mark) → dead ≢ serial → IsBlock marks serial start cells → IsBlock (left dead marks) serial start cells

abbrev pub NoneOverlap : Type 0
NoneOverlap = (marks : List Mark) (s t a b m n place : ℕ) → IsBlock marks s a m → IsBlock marks t b n → inside a m place ≡ true → inside b n place ≡ true → s ≡ t

abbrev pub HolesAreFew : Type 0
HolesAreFew = (lives : List Life) → length (holes_of 0 (laid lives).marks) ≤ blocks None (laid lives).marks

-- the death of a serial that has no place changes nothing
abbrev pub StaleDeaths : Type 0
StaleDeaths = (serial : ℕ) (lives : List Life) → ((place : ℕ) → names serial (mark_at (laid lives).marks place) ≡ false) → laid (lives ++ life.Death serial ∷ []) ≡ laid lives

-- a birth writes its own cells, and the others' stay; a death leaves all others'; a store changes its one cell
pub record CellsStay : Type 0 where
  pub own : (start : ℕ) (first values : List Value) → start ≤ length values → cells_of start (length first) (written start first values) ≡ first
  pub birth : (births serial start cells : ℕ) (marks : List Mark) (first values : List Value) → length values ≡ length marks → AreBelow births marks → serial < births → IsBlock marks serial start cells
      → cells_of start cells (written (front (length first) marks) first values) ≡ cells_of start cells values
  pub death : (dead serial start cells : ℕ) (marks : List Mark) (values : List Value) → IsBlock (left dead marks) serial start cells → cells_of start cells (take (length (left dead marks)) values) ≡ cells_of start cells values
  pub stored : (start cell n : ℕ) (v : Value) (values : List Value) → cells_of start n (slice_set values (start + cell) v) ≡ slice_set (cells_of start n values) cell v
  pub other : (marks : List Mark) (s t a m b n cell : ℕ) (v : Value) (values : List Value) → s ≢ t → IsBlock marks s a m → IsBlock marks t b n → cell < n → cells_of a m (slice_set values (b + cell) v) ≡ cells_of a m values
