use Rattle.std.proofs.Common.{sym, ap, ◌∙◌, arith}
use Rattle.std.proofs.lemmas.Result.{err_from_is_err_and}
use Rattle.mdr_grammar.specs.Forms.Separated.{locals}
use Rattle.mdr_grammar.specs.Forms.Nonterminal.{commas}
use Rattle.mdr_grammar.specs.Front.{first}
use Rattle.mdr_reader.proofs.Turns.{comma_more, comma_none, comma_fails, fails_by}
use Rattle.mdr_simple.proofs.locals.more_locals.Goals as goal

pub more-preserved : goal.more-preserved
more-preserved c = record { read = ap (λ l. first c.args.reader.halves (commas (locals c.args.place c.args.base.now c.args.level c.args.depth) l) c.in_ok-x-in-Some.behind.now) c.in_ok-push-in-Some.ensures.ok ∙ sym (comma_more c.args.reader.halves (locals c.args.place c.args.base.now c.args.level c.args.depth) c.more.all c.more.rest.now c.in-Some.ensures.found c.in_ok-x-in-Some.ensures.reads) ∙ c.more.invariant.read; shorter = omega (arith, c.in-Some.ensures.shorter, c.in_ok-x-in-Some.ensures.shorter, c.more.invariant.shorter) }

pub returns-in_err-x-in-Some-clause-reads : goal.returns-in_err-x-in-Some-clause-reads
returns-in_err-x-in-Some-clause-reads c =
    let p = err_from_is_err_and c.from_residual.result c.from_residual.ensures.1 in
    rw (p.1, p.2) (fails_by c.in_err-x-in-Some.field-0.0 _ _ c.more.invariant.read (comma_fails c.args.reader.halves (locals c.args.place c.args.base.now c.args.level c.args.depth) c.more.all c.more.rest.now c.in_err-x-in-Some.field-0.0 c.in-Some.ensures.found c.in_err-x-in-Some.ensures.reads))

pub returns-in-None-clause-reads : goal.returns-in-None-clause-reads
returns-in-None-clause-reads c = sym c.more.invariant.read ∙ comma_none c.args.reader.halves (locals c.args.place c.args.base.now c.args.level c.args.depth) c.more.all c.more.rest.now c.in-None.ensures.found
