-- protocol
-- A pointer as running code has it, with the kernel's serial, and as a cell of the user half has it, with the user half's own block.
use Rattle.std.specs.Prelude.{ℕ, cond, Option, Some, None, ◌==◌, is_some}
use Rattle.mdr_core.specs.declared.value.Block.{Block}
use Rattle.mdr_core.specs.declared.value.View.{View}
use Rattle.mdr_core.specs.declared.value.Value.{Value}
use Rattle.mdr_core.specs.declared.value.Value.TheVariants as value
use Rattle.mdr_track.specs.Pairs.{Pairs}

-- a pointer to the same elements of another block, or a dead one
abbrev pub pointer : View → Option Block → Value
pointer p None = value.Dead
pointer p (Some b) = value.Ptr (record p { block = b })

-- a block's name for running code: the kernel's serial, where it has one
abbrev pub name_of : Block → Option ℕ → Option Block
name_of b None = None
name_of b (Some s) = Some (record { slot = b.slot; serial = s })

-- a cell's value, for running code: the serial is the kernel's, the slot stays
unfoldable pub named : Pairs → Value → Value
named ps (value.Ptr p) = pointer p (name_of p.block (ps.serial_of p.block))
named ps (value.Int k n) = value.Int k n
named ps value.Null = value.Null
named ps value.Dead = value.Dead
named ps (value.Fn f) = value.Fn f
named ps (value.Lock s) = value.Lock s
named ps value.NoValue = value.NoValue

-- a value of running code, for a cell
unfoldable pub addressed : Pairs → Value → Value
addressed ps (value.Ptr p) = pointer p (ps.user_of p.block.serial)
addressed ps (value.Int k n) = value.Int k n
addressed ps value.Null = value.Null
addressed ps value.Dead = value.Dead
addressed ps (value.Fn f) = value.Fn f
addressed ps (value.Lock s) = value.Lock s
addressed ps value.NoValue = value.NoValue

-- ---- what comes back

-- a cell's value, in which a pointer to a block that isn't paired is a dead one
unfoldable pub settled : Pairs → Value → Value
settled ps (value.Ptr p) = cond (is_some (ps.serial_of p.block)) (value.Ptr p) value.Dead
settled ps (value.Int k n) = value.Int k n
settled ps value.Null = value.Null
settled ps value.Dead = value.Dead
settled ps (value.Fn f) = value.Fn f
settled ps (value.Lock s) = value.Lock s
settled ps value.NoValue = value.NoValue

-- a name with the slot of its block
abbrev pub place_of : Block → Option Block → Option Block
place_of b None = None
place_of b (Some user) = Some (record { slot = user.slot; serial = b.serial })

-- a value of running code, in which a pointer has its block's slot, and one whose serial isn't paired is a dead one
unfoldable pub placed : Pairs → Value → Value
placed ps (value.Ptr p) = pointer p (place_of p.block (ps.user_of p.block.serial))
placed ps (value.Int k n) = value.Int k n
placed ps value.Null = value.Null
placed ps value.Dead = value.Dead
placed ps (value.Fn f) = value.Fn f
placed ps (value.Lock s) = value.Lock s
placed ps value.NoValue = value.NoValue

-- a value of running code after the death of a serial
unfoldable pub swept : ℕ → Value → Value
swept s (value.Ptr p) = cond (p.block.serial == s) value.Dead (value.Ptr p)
swept s (value.Int k n) = value.Int k n
swept s value.Null = value.Null
swept s value.Dead = value.Dead
swept s (value.Fn f) = value.Fn f
swept s (value.Lock t) = value.Lock t
swept s value.NoValue = value.NoValue
