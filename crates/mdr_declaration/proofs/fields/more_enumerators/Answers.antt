use Rattle.std.proofs.Common.{sym, ap, ◌∙◌, arith, Ok}
use Rattle.std.proofs.lemmas.Result.{err_from_is_err_and}
use Rattle.mdr_grammar.specs.Forms.Enclosed.{enumerators}
use Rattle.mdr_grammar.specs.Forms.Nonterminal.{commas_open}
use Rattle.mdr_grammar.specs.Front.{first}
use Rattle.mdr_reader.proofs.Turns.{open_more, open_none, open_end, open_fails, fails_by}
use Rattle.mdr_declaration.proofs.fields.more_enumerators.Goals as goal

pub more-preserved : goal.more-preserved
more-preserved c = record { read = ap (λ l. first c.args.reader.halves (commas_open enumerators l) c.in_ok-found.behind.now) c.in_ok-push.ensures.ok ∙ sym (open_more c.args.reader.halves enumerators c.more.all c.more.rest.now c.in-Some.ensures.found (c.in_ok-found.ensures.reads ∙ ap (λ v. Ok (v, c.in_ok-found.behind.now)) c.in-Some-found.is)) ∙ c.more.invariant.read; shorter = omega (arith, c.in-Some.ensures.shorter, c.in_ok-found.ensures.shorter, c.more.invariant.shorter) }

pub returns-in_default-clause-reads : goal.returns-in_default-clause-reads
returns-in_default-clause-reads c = sym c.more.invariant.read ∙ open_none c.args.reader.halves enumerators c.more.all c.more.rest.now c.in_default.ensures.found

pub returns-in_err-found-clause-reads : goal.returns-in_err-found-clause-reads
returns-in_err-found-clause-reads c =
    let p = err_from_is_err_and c.from_residual.result c.from_residual.ensures.1 in
    rw (p.1, p.2) (fails_by c.in_err-found.field-0.0 _ _ c.more.invariant.read (open_fails c.args.reader.halves enumerators c.more.all c.more.rest.now c.in_err-found.field-0.0 c.in-Some.ensures.found c.in_err-found.ensures.reads))

pub returns-in_default-found-clause-reads : goal.returns-in_default-found-clause-reads
returns-in_default-found-clause-reads c = sym c.more.invariant.read ∙ open_end c.args.reader.halves enumerators c.more.all c.more.rest.now c.in-Some.ensures.found (c.in_ok-found.ensures.reads ∙ ap (λ v. Ok (v, c.in_ok-found.behind.now)) c.in_default-found.is)
