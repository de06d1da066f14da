use Rattle.std.proofs.Common.{◌+◌, ◌≡◌, List, length, slice_get, Some, sym, ◌∙◌, subst, arith}
use Rattle.std.specs.Prelude.{MatchOption}
use Rattle.mdr_core.specs.declared.types.Ty.{Ty}
use Rattle.mdr_copy.proofs.Passing.{void_row, scalar_row}
use Rattle.mdr_copy.proofs.cell_types.past_scalars.Goals as goal

pub returns-then-is_void : goal.returns-then-is_void
returns-then-is_void c = λ known. rw (c.behind.ensures.found, c.behind.ensures.left, void_row known c.args.count c.args.ty.now (sym c.is_void.ensures ∙ c.if-is_void.true)) (omega arith)

pub returns-else-is_void : goal.returns-else-is_void
returns-else-is_void c = λ known.
    subst (λ (ts : List Ty). MatchOption c.past_row.result.found (length ts + c.past_row.result.left ≡ c.args.left) (λ r. slice_get ts c.args.left ≡ Some r.now))
    (sym (scalar_row known c.args.count c.args.ty.now c.requires (sym c.is_void.ensures ∙ c.if-is_void.false))) c.past_row.ensures
