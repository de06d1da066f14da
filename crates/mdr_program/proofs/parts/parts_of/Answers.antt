use Rattle.std.proofs.Common.{ap}
use Rattle.std.proofs.Math.Path.{◌∙◌}
use Rattle.mdr_program.specs.declared.parts.Parts.{Parts}
use Rattle.mdr_program.specs.Parts.{parts_behind, behind_piece, no_parts}
use Rattle.mdr_program.proofs.Numbering.{one_piece}
use Rattle.mdr_program.proofs.parts.parts_of.Goals as goal

pub loop-piece-init : goal.loop-piece-init
unfolding parts_behind
loop-piece-init c = λ i. record { structs = c.new.ensures i; variables = c.new-2.ensures i; funcs = c.new-3.ensures i }

pub loop-piece-preserved : goal.loop-piece-preserved
loop-piece-preserved c = c.in_ok-parts.ensures ∙ ap (λ (ps : Parts). behind_piece ps c.in-Some.piece) c.loop-piece.invariant ∙ one_piece no_parts c.loop-piece.yielded c.in-Some.piece
