-- protocol
-- What user code leaves of its memory: the cells that it may touch may differ from the copy, and nothing else.
use Rattle.std.specs.Prelude.{◌≡◌, ℕ, false, is_some, List}
use Rattle.mdr_model.specs.declared.memory.Cell.{Cell}
use Rattle.mdr_model.specs.Agreement.{SerialsRise}
use Rattle.mdr_model.specs.Memory.{Memory, born_at, cell_at}
use Rattle.mdr_model.specs.Sets.{is_in}
use Rattle.mdr_user_memory.specs.Copied.{Copied, Past}

pub record IsWithin (view : List Cell) (copy m : Memory) : Type 0 where
  pub rises : SerialsRise m
  pub born : (s : ℕ) → born_at m s ≡ born_at copy s
  pub sized : (c : Cell) → is_some (cell_at m c) ≡ is_some (cell_at copy c)
  pub outside : (c : Cell) → is_in view c ≡ false → cell_at m c ≡ cell_at copy c

-- the past, the copy and the cells are those of the beginning
pub record IsLeft (past : Past) (agreed : Memory) (view : List Cell) (c : Copied) : Type 0 where
  pub lived : c.past ≡ past
  pub copy : c.agreed ≡ agreed
  pub cells : c.view ≡ view
  pub within : IsWithin view agreed c.memory
