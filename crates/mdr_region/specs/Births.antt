-- protocol
-- What a birth leaves of a pool.
use Rattle.std.specs.Prelude.{ℕ, ◌+◌, ◌-◌, ◌++◌, [], ◌∷◌, ◌≡◌, ◌≤◌, List, length}
use Rattle.mdr_core.specs.declared.value.Value.{Value}
use Rattle.mdr_mem.specs.declared.cells.Life.TheVariants as life
use Rattle.mdr_region.specs.declared.pool.Pool.{Pool}
use Rattle.mdr_region.specs.Layout.{laid}
use Rattle.mdr_region.specs.Blocks.{IsBlock}
use Rattle.mdr_region.specs.Cells.{written}

-- a block with these first values lies there, and what was reserved is less by it
pub record IsBorn (old new : Pool) (first : List Value) (start : ℕ) : Type 0 where
  pub lives : new.places.lives ≡ old.places.lives ++ life.Birth (length first) ∷ []
  pub block : IsBlock (laid new.places.lives).marks old.places.births start (length first)
  pub low : start ≤ length old.values.items
  pub values : new.values.items ≡ written start first old.values.items
  pub cells_left : new.cells_left ≡ old.cells_left - length first
  pub births_left : new.births_left ≡ old.births_left - 1
  pub serials : new.places.births ≡ old.places.births + 1

-- the pool holds what it held, whatever room it has
pub record IsAsBefore (old new : Pool) : Type 0 where
  pub lives : new.places.lives ≡ old.places.lives
  pub values : new.values.items ≡ old.values.items
  pub cells_left : new.cells_left ≡ old.cells_left
  pub births_left : new.births_left ≡ old.births_left
  pub serials : new.places.births ≡ old.places.births
