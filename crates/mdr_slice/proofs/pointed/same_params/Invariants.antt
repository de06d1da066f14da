use Rattle.std.proofs.Common.{◌≡◌, length, map, take}
use Rattle.mdr_core.specs.declared.program.Param.{Param}
use Rattle.mdr_slice.proofs.pointed.same_params.Given as goal

abbrev pub invariant-loop-i : goal.invariant-loop-i
invariant-loop-i l = (length l.params ≡ length l.others) × (map (λ (p : Param). p.ty) (take l.i l.params) ≡ map (λ (p : Param). p.ty) (take l.i l.others))
