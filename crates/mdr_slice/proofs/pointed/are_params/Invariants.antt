use Rattle.std.proofs.Common.{◌≡◌, length, map, take}
use Rattle.mdr_core.specs.declared.program.Param.{Param}
use Rattle.mdr_slice.proofs.pointed.are_params.Given as goal

abbrev pub invariant-loop-i : goal.invariant-loop-i
invariant-loop-i l = (length l.types ≡ length l.params) × (take l.i l.types ≡ map (λ (p : Param). p.ty) (take l.i l.params))
