-- believed
-- That a legal answer changes visible cells alone.
use Rattle.std.specs.Prelude.{◌≡◌, ℕ, Bool, true, false, List, Option, Some, None}
use Rattle.mdr_core.specs.declared.program.Program.{Program}
use Rattle.mdr_model.specs.declared.message.New.{New}
use Rattle.mdr_model.specs.declared.message.Run.{Run}
use Rattle.mdr_model.specs.declared.reply.Reply.{Reply}
use Rattle.mdr_model.specs.declared.reply.Reply.TheVariants as replies
use Rattle.mdr_model.specs.Memory.{Memory, Cell, leaf_at, is_lock_leaf, births, born_at, cell_at}
use Rattle.mdr_model.specs.Sets.{is_in}

abbrev pub is_lock_in : Program → Option New → ℕ → Bool
is_lock_in program None index = false
is_lock_in program (Some block) index = is_lock_leaf (leaf_at program block index)

-- the cell is a lock
unfoldable pub is_lock : Program → Memory → Cell → Bool
is_lock program m c = is_lock_in program (born_at m c.serial) c.index

-- no block was born and none died, none has another kind or shape; each cell outside the view holds what it held, and so does each lock
pub record IsContained (program : Program) (before after : Memory) (view : List Cell) : Type 0 where
  pub blocks : births after ≡ births before
  pub outside : (c : Cell) → is_in view c ≡ false → cell_at after c ≡ cell_at before c
  pub locks : (c : Cell) → is_lock program before c ≡ true → cell_at after c ≡ cell_at before c

-- the runs that a reply tells
abbrev pub runs_told : Reply → List Run
runs_told (replies.Return return) = return.runs
runs_told (replies.Down down) = down.runs
runs_told (replies.Ask ask) = ask.runs
runs_told (replies.Stop stop) = stop.runs
