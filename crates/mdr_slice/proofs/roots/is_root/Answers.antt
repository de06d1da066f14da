use Rattle.mdr_slice.proofs.GraphLaws.{root_marked, root_named, root_none}
use Rattle.mdr_slice.proofs.roots.is_root.Goals as goal

pub returns-then-own : goal.returns-then-own
returns-then-own c = root_marked c.args.program.now c.args.func c.in-Some.own.now c.in-Some.ensures c.if-own.true

pub returns-else-own : goal.returns-else-own
returns-else-own c = root_named c.args.program.now c.args.handlers.now c.args.func c.in-Some.own.now _ c.in-Some.ensures c.if-own.false c.requires c.is_marked.ensures

pub returns-in-None : goal.returns-in-None
returns-in-None c = root_none c.args.program.now c.args.func c.in-None.ensures
