-- The measures of the views.
use Rattle.std.proofs.Common.{◌+◌, ◌*◌}
use Rattle.mdr_core.specs.Layout.{struct_of}
use Rattle.mdr_core.proofs.Viewed.{rank}
use Rattle.mdr_core.proofs.view.+view.Given as goal

abbrev pub decreases-is_in : goal.decreases-is_in
decreases-is_in l = 3 * rank (struct_of l.ty.now)

abbrev pub decreases-is_in_structs : goal.decreases-is_in_structs
decreases-is_in_structs l = 3 * l.s + 2

abbrev pub decreases-is_in_field : goal.decreases-is_in_field
decreases-is_in_field l = 3 * l.s + 1
