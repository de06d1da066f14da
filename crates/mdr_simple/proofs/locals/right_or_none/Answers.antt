use Rattle.std.proofs.Common.{refl, true}
use Rattle.mdr_grammar.specs.declared.sort.Sort.{Sort}
use Rattle.mdr_grammar.specs.Forms.Part.{right}
use Rattle.mdr_grammar.specs.Forms.Nonterminal.{option}
use Rattle.mdr_reader.proofs.Arms.{past_arm, not_past}
use Rattle.mdr_simple.proofs.Stated.{no_right}
use Rattle.mdr_simple.proofs.locals.right_or_none.Goals as goal

pub returns-in-Some-clause-reads : goal.returns-in-Some-clause-reads
returns-in-Some-clause-reads c = past_arm c.args.reader.halves (option true (right c.args.level c.args.depth)) (λ x. x.0) (λ x. x.1.now) c.some_right.result Sort.Equals c.args.tokens.now c.in-Some.ensures.found refl refl c.some_right.ensures.reads

pub returns-in-None-clause-reads : goal.returns-in-None-clause-reads
returns-in-None-clause-reads c = not_past c.args.reader.halves (option true (right c.args.level c.args.depth)) Sort.Equals c.args.tokens.now c.in-None.ensures.found (no_right true c.args.level c.args.depth)
