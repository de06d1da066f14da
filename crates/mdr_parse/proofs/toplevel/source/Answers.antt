use Rattle.std.proofs.Common.{sym, subst}
use Rattle.mdr_parse.specs.Ending.{Ends}
use Rattle.mdr_parse.proofs.Sources.{run_source}
use Rattle.mdr_parse.proofs.toplevel.source.Goals as goal

pub returns : goal.returns
returns c = subst (λ o. Ends c.closed_source.result o) (sym (run_source c.args.reader.halves c.args.tokens.now)) c.closed_source.ensures
