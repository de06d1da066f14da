use Rattle.std.proofs.Common.{refl, ap, sym, ◌∙◌, Ok}
use Rattle.std.proofs.lemmas.Result.{err_from_is_err_and}
use Rattle.mdr_grammar.specs.declared.sort.Sort.{Sort}
use Rattle.mdr_grammar.specs.Forms.Part.{constant as a_constant}
use Rattle.mdr_grammar.specs.Forms.Nonterminal.{part}
use Rattle.mdr_reader.proofs.Arms.{goes, none, at_end}
use Rattle.mdr_reader.proofs.Nones.{no_constant}
use Rattle.mdr_reader.proofs.constants.constant.Goals as goal

pub returns-in_default-clause-reads : goal.returns-in_default-clause-reads
returns-in_default-clause-reads c = at_end c.args.reader.halves (part a_constant) c.in_default.ensures.found

pub returns-in_ok-negative_behind-in-Minus-clause-reads : goal.returns-in_ok-negative_behind-in-Minus-clause-reads
returns-in_ok-negative_behind-in-Minus-clause-reads c = goes c.args.reader.halves (part a_constant) Sort.Minus c.in-Some.ensures.found c.in-Minus.is refl refl ∙ c.in_ok-negative_behind-in-Minus.ensures.reads

pub returns-in_err-negative_behind-in-Minus-clause-reads : goal.returns-in_err-negative_behind-in-Minus-clause-reads
returns-in_err-negative_behind-in-Minus-clause-reads c =
    let p = err_from_is_err_and c.from_residual.result c.from_residual.ensures.1 in
    rw (p.1, p.2) (goes c.args.reader.halves (part a_constant) Sort.Minus c.in-Some.ensures.found c.in-Minus.is refl refl ∙ c.in_err-negative_behind-in-Minus.ensures.reads)

pub returns-in-Number-clause-reads : goal.returns-in-Number-clause-reads
returns-in-Number-clause-reads c = goes c.args.reader.halves (part a_constant) Sort.Number c.in-Some.ensures.found c.in-Number.is refl refl ∙ ap (λ v. Ok (v, c.in-Some.rest.now)) (sym c.number_constant.ensures)

pub returns-in_ok-name_constant-in-Name-clause-reads : goal.returns-in_ok-name_constant-in-Name-clause-reads
returns-in_ok-name_constant-in-Name-clause-reads c = goes c.args.reader.halves (part a_constant) Sort.Name c.in-Some.ensures.found c.in-Name.is refl refl ∙ ap (λ v. Ok (v, c.in-Some.rest.now)) (sym c.in_ok-name_constant-in-Name.ensures.value)

pub returns-in_default-sort : goal.returns-in_default-sort
returns-in_default-sort c = record { reads = none c.args.reader.halves (part a_constant) c.in-Some.ensures.found (no_constant _ _ c.in_default-sort.not-Minus c.in_default-sort.not-Number c.in_default-sort.not-Name); shorter = tt }
