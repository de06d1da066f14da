-- Each function's types stand inside fewer others, or its next part does.
use Rattle.std.proofs.Common.{◌+◌, ◌*◌}
use Rattle.mdr_plan.proofs.types.+types.Given as goal

abbrev pub decreases-params_at : goal.decreases-params_at
decreases-params_at l = 8 * l.depth + 1

abbrev pub decreases-others_at : goal.decreases-others_at
decreases-others_at l = 8 * l.depth + 1

abbrev pub decreases-param_at : goal.decreases-param_at
decreases-param_at l = 8 * l.depth + 2

abbrev pub decreases-more_at : goal.decreases-more_at
decreases-more_at l = 8 * l.depth

abbrev pub decreases-behind_result : goal.decreases-behind_result
decreases-behind_result l = 8 * l.depth + 2

abbrev pub decreases-signature_at : goal.decreases-signature_at
decreases-signature_at l = 8 * l.depth + 3

abbrev pub decreases-fun_at : goal.decreases-fun_at
decreases-fun_at l = 8 * l.depth + 4

abbrev pub decreases-typed : goal.decreases-typed
decreases-typed l = 8 * l.depth + 5

abbrev pub decreases-type_at : goal.decreases-type_at
decreases-type_at l = 8 * l.depth
