use Rattle.mdr_check.specs.Whole.{file_pieces}
use Rattle.mdr_faults.proofs.Least.{first_told}
use Rattle.mdr_check.proofs.whole.checked_pieces.Goals as goal

pub returns : goal.returns
returns g c = first_told (file_pieces (g.B.Bodies.rule c.args.bodies.now) (g.B.Bodies.used c.args.bodies.now) c.args.items.now) c.in_ok-pieces.pieces c.in_ok-pieces.ensures
