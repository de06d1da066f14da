use Rattle.std.proofs.Common.{◌≡◌, [], drop}
use Rattle.mdr_body.specs.Locals.{locks_behind}
use Rattle.mdr_body.proofs.locals.struct_locks.Given as goal

abbrev pub invariant-loop-s : goal.invariant-loop-s
invariant-loop-s l = locks_behind l.locks (drop l.s-index l.structs) ≡ locks_behind [] l.structs
