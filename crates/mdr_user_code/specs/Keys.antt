-- protocol
-- Keys of cells, where a block may be a global.
use Rattle.std.specs.Prelude.{Bool, false, List, Option, Some, None}
use Rattle.mdr_access.specs.KeyOrder.{keys}
use Rattle.mdr_core.specs.declared.plan.Key.{Key}
use Rattle.mdr_core.specs.declared.plan.Key.TheVariants as key
use Rattle.mdr_core.specs.declared.program.Program.{Program}
use Rattle.mdr_core.specs.Layout.{Alone, key_by}
use Rattle.mdr_extents.specs.Around.{global_of}
use Rattle.mdr_model.specs.declared.message.New.{New}
use Rattle.mdr_paths.specs.Paths.{is_in}

-- the key of a cell as if its block were no global tells whether its own is among these
abbrev pub touched_so : Program → (touched : List Key) → New → Option Key → Bool
touched_so program touched block None = false
touched_so program touched block (Some (key.Global g)) = false
touched_so program touched block (Some (key.Field s f)) = is_in keys touched (key.Field s f)
touched_so program touched block (Some (key.Elem t)) = is_in keys touched (key_by Alone (global_of program block) block.ty)
