use Rattle.std.proofs.Common.{◌∙◌, ap, map}
use Rattle.std.proofs.lemmas.Result.{IfOk-weaker}
use Rattle.mdr_meaning.specs.Values.{wire_of}
use Rattle.mdr_world.proofs.BlockLaws.{cells-are, current-wires}
use Rattle.mdr_world.proofs.handles.cells_now.Goals as goal

pub returns : goal.returns
returns c =
    let hs = c.args.blocks.now.handles in
    IfOk-weaker c.held_values.result _ _ (λ vs e. ap (map wire_of) e ∙ current-wires hs c.cells.result.now ∙ cells-are c.args.blocks.now.memory c.args.b hs c.cells.result.now c.cells.ensures) c.held_values.ensures
