use Rattle.std.proofs.Common.{sym, ap, ◌∙◌, arith, true, Ok}
use Rattle.std.proofs.lemmas.Result.{err_from_is_err_and}
use Rattle.mdr_grammar.specs.Forms.Repeated.{labels}
use Rattle.mdr_grammar.specs.Forms.Nonterminal.{many}
use Rattle.mdr_grammar.specs.Front.{first}
use Rattle.mdr_reader.proofs.Turns.{fails_by, many_more, many_end, many_fails}
use Rattle.mdr_simple.proofs.labels.more_labels.Goals as goal

pub more-preserved : goal.more-preserved
more-preserved c = record { read = ap (λ l. first c.args.reader.halves (many true labels l) c.in_ok-found.behind.now) c.in_ok-push.ensures.ok ∙ sym (many_more c.args.reader.halves labels c.more.all c.more.rest.now (c.in_ok-found.ensures.reads ∙ ap (λ v. Ok (v, c.in_ok-found.behind.now)) c.in-Some.is)) ∙ c.more.invariant.read; shorter = omega (arith, c.in_ok-found.ensures.shorter, c.more.invariant.shorter) }

pub returns-in_err-found-clause-reads : goal.returns-in_err-found-clause-reads
returns-in_err-found-clause-reads c = let p = err_from_is_err_and c.from_residual.result c.from_residual.ensures.1 in rw (p.1, p.2) (fails_by c.in_err-found.field-0.0 _ _ c.more.invariant.read (many_fails c.args.reader.halves labels c.more.all c.more.rest.now c.in_err-found.field-0.0 c.in_err-found.ensures.reads))

pub returns-in_default-clause-reads : goal.returns-in_default-clause-reads
returns-in_default-clause-reads c = sym c.more.invariant.read ∙ many_end c.args.reader.halves labels c.more.all c.more.rest.now (c.in_ok-found.ensures.reads ∙ ap (λ v. Ok (v, c.in_ok-found.behind.now)) c.in_default.is)
