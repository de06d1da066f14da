use Rattle.std.proofs.Common.{◌≡◌, List, MatchResult, subst}
use Rattle.mdr_syntax.specs.declared.tree.Item.{Item}
use Rattle.mdr_faults.specs.Faults.{Right, IsFirst}
use Rattle.mdr_check.specs.Whole.{file_pieces}
use Rattle.mdr_check_half.proofs.whole.check_half.Goals as goal

pub returns : goal.returns
returns g c =
    c.half_right.ensures (file_pieces (g.B.Bodies.rule c.args.bodies.now) (g.B.Bodies.used c.args.bodies.now) c.args.tree.now.items)
    (subst (λ (is : List Item). MatchResult c.in_ok-pieces.pieces (λ ps. file_pieces (g.B.Bodies.rule c.args.bodies.now) (g.B.Bodies.used c.args.bodies.now) is ≡ Right ps) (λ f. IsFirst f (file_pieces (g.B.Bodies.rule c.args.bodies.now) (g.B.Bodies.used c.args.bodies.now) is))) c.as_slice.ensures c.in_ok-pieces.ensures)
