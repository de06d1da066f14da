use Rattle.std.proofs.Common.{◌∙◌, ◌≤◌, List, length, subst}
use Rattle.mdr_core.specs.declared.types.Ty.{Ty}
use Rattle.mdr_exec.proofs.PointerLaws.{size_is, no_size}
use Rattle.mdr_exec.proofs.pointers.size.Goals as goal

pub returns-then-ty-as_slice : goal.returns-then-ty-as_slice
returns-then-ty-as_slice c = c.cells_of.ensures ∙ size_is c.args.program.now c.args.ty

pub returns-else-ty-as_slice : goal.returns-else-ty-as_slice
returns-else-ty-as_slice c = no_size c.args.program.now c.args.ty (subst (λ (ts : List Ty). length ts ≤ c.args.ty) c.as_slice.ensures c.if-ty-as_slice.false)
