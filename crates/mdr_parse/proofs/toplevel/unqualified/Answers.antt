use Rattle.mdr_grammar.specs.Forms.{form}
use Rattle.mdr_grammar.specs.Forms.Part.{base}
use Rattle.mdr_grammar.specs.Forms.Nonterminal.{outer}
use Rattle.mdr_parse.specs.Outside.{unqualified_rule}
use Rattle.mdr_reader.proofs.Going.{through_by}
use Rattle.mdr_parse.proofs.OuterForms.{typed}
use Rattle.mdr_parse.proofs.toplevel.unqualified.Goals as goal

pub returns-in_default-sort : goal.returns-in_default-sort
returns-in_default-sort c = record { reads = through_by c.args.reader.halves (unqualified_rule c.args.place) base (λ b. form (outer c.args.place b 0)) (λ x. x.0) (λ x. x.1.now) c.outer_typed.result c.in-Some.ensures.found (typed c.args.place _ _ c.in_default-sort.not-Remote c.in_default-sort.not-Critical) c.outer_typed.ensures.reads; shorter = c.outer_typed.ensures.shorter }
