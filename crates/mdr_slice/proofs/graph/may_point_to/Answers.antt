use Rattle.std.proofs.Common.{sym, ◌∙◌}
use Rattle.mdr_slice.proofs.GraphLaws.{points_if, points_none}
use Rattle.mdr_slice.proofs.graph.may_point_to.Goals as goal

pub returns-then-is_marked : goal.returns-then-is_marked
returns-then-is_marked c = points_if c.args.program.now _ _ c.args.func c.in-Some.target.now _ c.in-Some.ensures ((c.requires.each c.args.func).0 (sym c.is_marked.ensures ∙ c.if-is_marked.true)).0 c.is_called_type.ensures

pub returns-in-None : goal.returns-in-None
returns-in-None c = points_none c.args.program.now _ _ c.args.func c.in-None.ensures
