use Rattle.std.proofs.Common.{◌≡◌, None, sym, ap, subst}
use Rattle.std.specs.Prelude.{MatchOption}
use Rattle.mdr_extents.specs.Extent.{number_in}
use Rattle.mdr_model.specs.Memory.{born_at}
use Rattle.mdr_reach.specs.Marks.{IsHeld}
use Rattle.mdr_reach.proofs.EnterLaws.{not_born}
use Rattle.mdr_reach.proofs.lengths.global_number.Goals as goal

pub returns-in-None : goal.returns-in-None
returns-in-None c =
    let none : born_at c.args.scene.blocks.now.memory c.args.g ≡ None = subst (λ o. MatchOption o (born_at c.args.scene.blocks.now.memory c.args.g ≡ None) (λ h. IsHeld c.args.scene.program.now c.args.scene.touched.now c.args.scene.blocks.now h)) c.in-None.is c.block_at.ensures.held in
    sym (ap number_in (not_born c.args.scene.blocks.now.memory c.args.g 0 none))
