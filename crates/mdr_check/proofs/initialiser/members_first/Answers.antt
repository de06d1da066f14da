use Rattle.std.proofs.Common.{ap}
use Rattle.std.proofs.Math.Path.{◌∙◌}
use Rattle.mdr_faults.specs.Faults.{told, followed}
use Rattle.mdr_check.specs.Initialisers.{member_first}
use Rattle.mdr_check.proofs.Initialising.{one_member}
use Rattle.mdr_check.proofs.initialiser.members_first.Goals as goal

pub loop-i-preserved : goal.loop-i-preserved
loop-i-preserved c = one_member c.args.parts.now c.args.members.now c.loop-i.i c.index-members-i.result c.loop-i.all _ _ c.loop-i-test.true c.index-members-i.is (c.in_ok-all.ensures ∙ ap (followed c.loop-i.all) (c.in_ok-first.ensures ∙ ap (λ o. told (member_first c.index-members-i.result o)) c.part_for.ensures)) c.loop-i.invariant
