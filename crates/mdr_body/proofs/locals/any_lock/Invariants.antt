use Rattle.std.proofs.Common.{◌≡◌, drop}
use Rattle.mdr_body.specs.Locals.{any_lock}
use Rattle.mdr_body.proofs.locals.any_lock.Given as goal

abbrev pub invariant-loop-m : goal.invariant-loop-m
invariant-loop-m l = any_lock l.locks (drop l.m-index l.members) ≡ any_lock l.locks l.members
