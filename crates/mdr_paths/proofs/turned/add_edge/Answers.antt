use Rattle.std.proofs.Common.{arith}
use Rattle.std.specs.Prelude.{vec_items}
use Rattle.mdr_paths.proofs.TurnedLaws.{edge_added}
use Rattle.mdr_paths.proofs.turned.add_edge.Goals as goal

pub returns-in_ok-push : goal.returns-in_ok-push
returns-in_ok-push c = edge_added vec_items c.args.rows.now.items c.args.from c.args.to c.index_mut.result.now c.push.new.self (omega arith) c.index_mut.ensures.value c.in_ok-push.ensures.items
