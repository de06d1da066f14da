use Rattle.std.proofs.Common.{sym, ◌∙◌}
use Rattle.std.proofs.lemmas.Result.{IfOk-weaker}
use Rattle.mdr_world.proofs.HandleLaws.{is_found, serial_found}
use Rattle.mdr_world.proofs.ReachLaws.{read-dead, read-lives}
use Rattle.mdr_world.proofs.access.read_view.Goals as goal

pub read_in-requires : goal.read_in-requires
read_in-requires c = record {
  alive = is_found c.args.blocks.now.handles c.args.p.block.serial c.in-Some.block (sym c.handle.ensures ∙ c.in-Some.is);
  serial = serial_found c.args.blocks.now.handles c.args.p.block.serial c.in-Some.block (sym c.handle.ensures ∙ c.in-Some.is);
}

pub returns-in-Some : goal.returns-in-Some
returns-in-Some c =
    IfOk-weaker c.read_in.result _ _ (λ bytes e. e ∙ read-lives c.args.blocks.now c.args.p c.in-Some.block c.args.count c.births-in_order.ensures.in_order (sym c.handle.ensures ∙ c.in-Some.is)) c.read_in.ensures

pub returns-in-None : goal.returns-in-None
returns-in-None c = read-dead c.args.blocks.now c.args.p c.args.count c.births-in_order.ensures.in_order (sym c.handle.ensures ∙ c.in-None.is)
