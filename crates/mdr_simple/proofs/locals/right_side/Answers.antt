use Rattle.std.proofs.Common.{refl, sym, ap, subst, ◌∙◌, Ok}
use Rattle.mdr_grammar.specs.declared.sort.Sort.{Sort}
use Rattle.mdr_grammar.specs.Forms.Part.{right_side}
use Rattle.mdr_grammar.specs.Forms.Nonterminal.{part}
use Rattle.mdr_reader.specs.Gives.{Gives}
use Rattle.mdr_reader.proofs.Arms.{past}
use Rattle.mdr_simple.proofs.Stated.{only_expression}
use Rattle.mdr_simple.proofs.locals.right_side.Goals as goal

pub returns-in_ok-text_form-in-Some-clause-reads : goal.returns-in_ok-text_form-in-Some-clause-reads
returns-in_ok-text_form-in-Some-clause-reads c = past c.args.reader.halves (part (right_side c.args.level c.args.depth)) Sort.Text c.args.tokens.now c.in-Some.ensures.found refl refl ∙ ap (λ v. Ok (v, c.in-Some.rest.now)) (sym c.in_ok-text_form-in-Some.ensures.value)

pub returns-in-None-clause-reads : goal.returns-in-None-clause-reads
returns-in-None-clause-reads c = subst (λ o. Gives (λ x. x.0) (λ x. x.1.now) c.form.result o) (sym (only_expression c.args.reader.halves c.args.level c.args.depth c.args.tokens.now c.in-None.ensures.found)) c.form.ensures.reads
