use Rattle.std.proofs.Common.{◌+◌, ◌≡◌, List, length, slice_get, Some, sym, ◌∙◌, subst}
use Rattle.std.specs.Prelude.{MatchOption}
use Rattle.mdr_core.specs.declared.types.Ty.{Ty}
use Rattle.mdr_core.specs.Layout.{struct_cells}
use Rattle.mdr_copy.proofs.Passing.{struct_row}
use Rattle.mdr_copy.proofs.cell_types.past_elements.Goals as goal

pub returns-in-Some : goal.returns-in-Some
returns-in-Some c =
    subst (λ (ts : List Ty). MatchOption c.past_structs.result.found (length ts + c.past_structs.result.left ≡ c.args.left) (λ r. slice_get ts c.args.left ≡ Some r.now))
    (sym (struct_row (struct_cells c.args.structs.now) c.args.count c.args.ty.now c.in-Some.s (sym c.struct_named.ensures ∙ c.in-Some.is))) c.past_structs.ensures
