use Rattle.mdr_half_source.proofs.Steps.{read_found, unread_found}
use Rattle.mdr_half_source.proofs.texts.of_tokens.Goals as goal

pub returns-in-Ok : goal.returns-in-Ok
returns-in-Ok c = read_found c.args.plan.now c.args.tokens.now c.in-Ok.tree c.of_tree.result c.in-Ok.ensures c.of_tree.ensures

pub returns-in-Err : goal.returns-in-Err
returns-in-Err c = unread_found c.args.plan.now c.args.tokens.now c.in-Err.error c.unread.result c.in-Err.ensures c.unread.ensures
