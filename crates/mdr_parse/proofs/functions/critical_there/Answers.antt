use Rattle.std.proofs.Common.{true}
use Rattle.mdr_grammar.specs.declared.sort.Sort.{Sort}
use Rattle.mdr_grammar.specs.Forms.{◌>>=◌}
use Rattle.mdr_grammar.specs.Statements.{function_head}
use Rattle.mdr_parse.specs.Outside.{critical_end}
use Rattle.mdr_parse.proofs.OuterForms.{bound, behind_word}
use Rattle.mdr_parse.proofs.functions.critical_there.Goals as goal

pub returns-clause-reads : goal.returns-clause-reads
returns-clause-reads c = behind_word c.args.reader.halves Sort.Open (λ bracket. function_head true c.args.base.now c.args.count c.args.name.now >>= λ h. critical_end c.args.place h) (λ x. x.0) (λ x. x.1.now) c.critical_head.result c.args.tokens.now c.in_ok-rest.ensures.reads (bound c.args.reader.halves (function_head true c.args.base.now c.args.count c.args.name.now) (λ h. critical_end c.args.place h) (λ x. x.0) (λ x. x.1.now) c.critical_head.result c.in_ok-rest.rest.now c.critical_head.ensures.reads)
