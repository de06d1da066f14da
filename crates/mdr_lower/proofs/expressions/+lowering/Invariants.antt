use Rattle.std.proofs.Common.{◌≡◌, ◌+◌, ◌*◌, max, [], drop, map}
use Rattle.mdr_rich.specs.Code.{term_list}
use Rattle.mdr_rich.specs.Folds.{term_of}
use Rattle.mdr_rich.proofs.code.Expr.TheLaws.{the_size}
use Rattle.mdr_lower.specs.Lowering.{low_args}
use Rattle.mdr_lower.proofs.expressions.+lowering.Given as goal

abbrev pub invariant-low_args-loop-i : goal.invariant-low_args-loop-i
invariant-low_args-loop-i l = low_args l.number (term_list (map term_of (drop l.i l.args))) l.all l.work ≡ low_args l.number (term_list (map term_of l.args)) [] l.initial.work

abbrev pub decreases-low : goal.decreases-low
decreases-low l = 8 * goal.size-low l

abbrev pub decreases-low_place : goal.decreases-low_place
decreases-low_place l = 8 * goal.size-low_place l

abbrev pub decreases-boxed : goal.decreases-boxed
decreases-boxed l = 8 * goal.size-boxed l + 1

abbrev pub decreases-boxed_place : goal.decreases-boxed_place
decreases-boxed_place l = 8 * goal.size-boxed_place l + 1

abbrev pub decreases-low_part : goal.decreases-low_part
decreases-low_part l = 8 * goal.size-low_part l + 1

abbrev pub decreases-boxed_part : goal.decreases-boxed_part
decreases-boxed_part l = 8 * goal.size-boxed_part l + 2

abbrev pub decreases-low_args : goal.decreases-low_args
decreases-low_args l = 8 * goal.size-low_args l + 2

abbrev pub decreases-put_arm : goal.decreases-put_arm
decreases-put_arm l = 8 * goal.size-put_arm l + 1

abbrev pub decreases-put_truth : goal.decreases-put_truth
decreases-put_truth l = 8 * goal.size-put_truth l + 2

abbrev pub decreases-arm_apart : goal.decreases-arm_apart
decreases-arm_apart l = 8 * goal.size-arm_apart l + 2

abbrev pub decreases-truth_apart : goal.decreases-truth_apart
decreases-truth_apart l = 8 * goal.size-truth_apart l + 3

abbrev pub decreases-kept_array : goal.decreases-kept_array
decreases-kept_array l = 8 * goal.size-kept_array l + 1

abbrev pub decreases-boxed_array : goal.decreases-boxed_array
decreases-boxed_array l = 8 * goal.size-boxed_array l + 2

abbrev pub decreases-two_parts : goal.decreases-two_parts
decreases-two_parts l = 8 * max (the_size l.a.now) (the_size l.b.now) + 4

abbrev pub decreases-conjoined : goal.decreases-conjoined
decreases-conjoined l = 8 * max (the_size l.a.now) (the_size l.b.now) + 4

abbrev pub decreases-either : goal.decreases-either
decreases-either l = 8 * the_size l.b.now + 4

abbrev pub decreases-disjoined : goal.decreases-disjoined
decreases-disjoined l = 8 * max (the_size l.a.now) (the_size l.b.now) + 5

abbrev pub decreases-choice : goal.decreases-choice
decreases-choice l = 8 * max (the_size l.c.now) (max (the_size l.a.now) (the_size l.b.now)) + 4
