use Rattle.std.proofs.Common.{◌≡◌, ◌++◌, drop}
use Rattle.mdr_half.specs.Plans.{key_lines}
use Rattle.mdr_half.proofs.plan_lines.put_key_lines.Given as goal

abbrev pub invariant-loop-key : goal.invariant-loop-key
invariant-loop-key l = l.out.items ++ key_lines l.k (drop l.key-index l.keys) ≡ l.initial.out.items ++ key_lines l.k l.keys
