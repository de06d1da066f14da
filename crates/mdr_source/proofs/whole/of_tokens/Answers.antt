use Rattle.mdr_source.proofs.Stages.{unread}
use Rattle.mdr_source.proofs.whole.of_tokens.Goals as goal

pub returns-in_ok-refused_as-in-Err : goal.returns-in_ok-refused_as-in-Err
returns-in_ok-refused_as-in-Err c = unread c.args.tokens.now c.in-Err.error c.in_ok-refused_as-in-Err.field-0 c.in-Err.ensures c.in_ok-refused_as-in-Err.ensures
