use Rattle.std.proofs.Common.{◌≡◌, ◌++◌, map, drop}
use Rattle.mdr_core.specs.Folds.{call_of}
use Rattle.mdr_slice.specs.Calls.{call_handlers}
use Rattle.mdr_slice.proofs.handlers.add_handlers.Given as goal

abbrev pub invariant-loop-call : goal.invariant-loop-call
invariant-loop-call l = l.out.items ++ call_handlers (map (λ r. call_of r.now) (drop l.call-index l.calls)) ≡ l.fn.out.items ++ call_handlers (map (λ r. call_of r.now) l.calls)
