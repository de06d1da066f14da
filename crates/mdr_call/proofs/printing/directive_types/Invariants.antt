use Rattle.std.proofs.Common.{◌≡◌, ◌++◌, ◌∷◌, drop, map}
use Rattle.mdr_core.specs.declared.types.Ty.TheVariants as type
use Rattle.mdr_call.proofs.printing.directive_types.Given as goal

abbrev pub invariant-loop-kind : goal.invariant-loop-kind
invariant-loop-kind l = l.types ++ map type.Int (drop l.kind-index l.kinds) ≡ type.Void ∷ map type.Int l.kinds
