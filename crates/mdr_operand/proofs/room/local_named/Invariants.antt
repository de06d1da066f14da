use Rattle.std.proofs.Common.{◌≡◌, None, drop}
use Rattle.std.specs.Option.{option_copied}
use Rattle.mdr_operand.specs.Rooms.{local_from}
use Rattle.mdr_operand.proofs.room.local_named.Given as goal

abbrev pub invariant-loop-local : goal.invariant-loop-local
invariant-loop-local l = local_from (option_copied l.found) (drop l.local-index l.locals) l.name ≡ local_from None l.locals l.name
