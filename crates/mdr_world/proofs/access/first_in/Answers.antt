use Rattle.std.proofs.lemmas.Option.{IfSome_then}
use Rattle.mdr_world.proofs.FirstLaws.{first-cell}
use Rattle.mdr_world.proofs.access.first_in.Goals as goal

pub returns : goal.returns
returns c = IfSome_then c.first_integer.result c.first_integer.ensures (λ n e. first-cell c.args.blocks.now.memory c.args.block c.args.blocks.now.handles c.cells.result.now n c.cells.ensures e)
