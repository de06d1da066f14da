use Rattle.std.proofs.Common.{◌≡◌, drop}
use Rattle.std.specs.List.{list_any}
use Rattle.mdr_paths.specs.Numbers.{marked}
use Rattle.mdr_access.proofs.shared.any_marked.Given as goal

abbrev pub invariant-loop-func : goal.invariant-loop-func
invariant-loop-func l = list_any (marked l.marks) (drop l.func-index l.funcs) ≡ list_any (marked l.marks) l.funcs
