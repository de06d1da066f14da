use Rattle.std.proofs.Common.{refl, ◌∙◌}
use Rattle.std.proofs.lemmas.Result.{err_from_is_err_and}
use Rattle.mdr_grammar.specs.declared.sort.Sort.{Sort}
use Rattle.mdr_grammar.specs.Forms.Part.{label}
use Rattle.mdr_grammar.specs.Forms.Nonterminal.{part}
use Rattle.mdr_reader.proofs.Arms.{goes, arm, none, at_end}
use Rattle.mdr_simple.proofs.Deeper.{no_label}
use Rattle.mdr_simple.proofs.labels.label.Goals as goal

pub returns-in_default-clause-reads : goal.returns-in_default-clause-reads
returns-in_default-clause-reads c = at_end c.args.reader.halves (part label) c.in_default.ensures.found

pub returns-in-Case-clause-reads : goal.returns-in-Case-clause-reads
returns-in-Case-clause-reads c = arm c.args.reader.halves (part label) (λ x. x.0) (λ x. x.1.now) c.case_behind.result Sort.Case c.in-Some.ensures.found c.in-Case.is refl refl c.case_behind.ensures.reads

pub returns-in_ok-default_behind-in-Default-clause-reads : goal.returns-in_ok-default_behind-in-Default-clause-reads
returns-in_ok-default_behind-in-Default-clause-reads c = goes c.args.reader.halves (part label) Sort.Default c.in-Some.ensures.found c.in-Default.is refl refl ∙ c.in_ok-default_behind-in-Default.ensures.reads

pub returns-in_err-default_behind-in-Default-clause-reads : goal.returns-in_err-default_behind-in-Default-clause-reads
returns-in_err-default_behind-in-Default-clause-reads c =
    let p = err_from_is_err_and c.from_residual.result c.from_residual.ensures.1 in
    rw (p.1, p.2) (goes c.args.reader.halves (part label) Sort.Default c.in-Some.ensures.found c.in-Default.is refl refl ∙ c.in_err-default_behind-in-Default.ensures.reads)

pub returns-in_default-sort : goal.returns-in_default-sort
returns-in_default-sort c = record { reads = none c.args.reader.halves (part label) c.in-Some.ensures.found (no_label _ _ c.in_default-sort.not-Case c.in_default-sort.not-Default); shorter = tt }
