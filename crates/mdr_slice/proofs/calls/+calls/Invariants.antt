use Rattle.std.proofs.Common.{◌≡◌, ◌++◌, map, drop}
use Rattle.mdr_core.specs.Folds.{call_of, codes_of}
use Rattle.mdr_slice.specs.Calls.{all_calls}
use Rattle.mdr_slice.proofs.calls.+calls.Given as goal

abbrev pub invariant-add_all_calls-loop-statement : goal.invariant-add_all_calls-loop-statement
invariant-add_all_calls-loop-statement l =
    map (λ r. call_of r.now) l.out.items ++ all_calls (codes_of (drop l.statement-index l.body)) ≡ map (λ r. call_of r.now) l.fn.out.items ++ all_calls (codes_of l.body)
