use Rattle.std.proofs.Common.{◌≡◌, true, sym, ◌∙◌, subst}
use Rattle.std.proofs.lemmas.Result.{IfOk-weaker}
use Rattle.mdr_mem.specs.Contents.{is_handle}
use Rattle.mdr_world.proofs.HandleLaws.{is_found, serial_found}
use Rattle.mdr_world.proofs.ReachLaws.{reached-dead, reached-lives}
use Rattle.mdr_world.proofs.reach.reached_view.Goals as goal

pub reached_in-requires : goal.reached_in-requires
reached_in-requires c = serial_found c.args.blocks.now.handles c.args.p.block.serial c.in-Some.block (sym c.handle.ensures ∙ c.in-Some.is)

pub returns-in-Some-clause-cell : goal.returns-in-Some-clause-cell
returns-in-Some-clause-cell c = c.reached_in.ensures.cell ∙ reached-lives c.args.blocks.now c.args.p c.in-Some.block c.births-in_order.ensures.in_order (sym c.handle.ensures ∙ c.in-Some.is)

pub returns-in-Some-clause-alive : goal.returns-in-Some-clause-alive
returns-in-Some-clause-alive c =
    let hs = c.args.blocks.now.handles in
    IfOk-weaker c.reached_in.result _ _ (λ t e. subst (λ b. is_handle hs b ≡ true) (sym e) (is_found hs c.args.p.block.serial c.in-Some.block (sym c.handle.ensures ∙ c.in-Some.is))) c.reached_in.ensures.block

pub returns-in-None-clause-cell : goal.returns-in-None-clause-cell
returns-in-None-clause-cell c = reached-dead c.args.blocks.now c.args.p c.births-in_order.ensures.in_order (sym c.handle.ensures ∙ c.in-None.is)
