use Rattle.std.proofs.Common.{subst}
use Rattle.mdr_halves.specs.Stages.{AreRead}
use Rattle.mdr_halves.proofs.Steps.{no_tokens, read_tokens}
use Rattle.mdr_halves.proofs.reading.tree_of.Goals as goal

pub returns-in_ok-read-in-Ok : goal.returns-in_ok-read-in-Ok
returns-in_ok-read-in-Ok c =
    read_tokens c.args.text.now c.in-Ok.tokens c.in_ok-read-in-Ok.read c.in-Ok.ensures.exact (subst (λ ts. AreRead ts c.in_ok-read-in-Ok.read) c.as_slice.ensures c.in_ok-read-in-Ok.ensures)

pub returns-in_ok-lexing_line-in-Err : goal.returns-in_ok-lexing_line-in-Err
returns-in_ok-lexing_line-in-Err c = no_tokens c.args.text.now c.in-Err.error c.in_ok-lexing_line-in-Err.field-0 c.in-Err.ensures.exact c.in_ok-lexing_line-in-Err.ensures
