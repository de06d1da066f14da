use Rattle.std.proofs.Common.{sym, ap, ◌∙◌, arith, ◌++◌, [], ◌∷◌, Ok}
use Rattle.std.proofs.lemmas.Result.{err_from_is_err_and}
use Rattle.mdr_grammar.specs.Forms.Repeated.{field_groups}
use Rattle.mdr_grammar.specs.Statements.{joined}
use Rattle.mdr_grammar.specs.Front.{and_read}
use Rattle.mdr_reader.proofs.Turns.{many_more, many_end, many_fails, fails_by, fails_and}
use Rattle.mdr_parse.proofs.OuterForms.{lists_more}
use Rattle.mdr_parse.proofs.structs.field_lists.Goals as goal

pub more-preserved : goal.more-preserved
more-preserved c = record { lists = c.more.invariant.lists ++ (c.in-Some.list ∷ []); flat = lists_more c.more.invariant.lists c.in-Some.list ∙ ap (λ l. l ++ c.in-Some.list) c.more.invariant.flat ∙ sym c.in_ok-all.ensures.value; read = sym (many_more c.args.reader.halves field_groups c.more.invariant.lists c.more.rest.now (c.in_ok-found.ensures.reads ∙ ap (λ v. Ok (v, c.in_ok-found.behind.now)) c.in-Some.is)) ∙ c.more.invariant.read; shorter = omega (arith, c.in_ok-found.ensures.shorter, c.more.invariant.shorter) }

pub returns-in_default-clause-reads : goal.returns-in_default-clause-reads
returns-in_default-clause-reads c = ap (λ o. and_read o (λ ls us. Ok (joined ls, us))) (sym c.more.invariant.read ∙ many_end c.args.reader.halves field_groups c.more.invariant.lists c.more.rest.now (c.in_ok-found.ensures.reads ∙ ap (λ v. Ok (v, c.in_ok-found.behind.now)) c.in_default.is)) ∙ ap (λ l. Ok (l, c.in_ok-found.behind.now)) c.more.invariant.flat

pub returns-in_err-found-clause-reads : goal.returns-in_err-found-clause-reads
returns-in_err-found-clause-reads c =
    let p = err_from_is_err_and c.from_residual.result c.from_residual.ensures.1 in
    rw (p.1, p.2) (fails_and c.in_err-found.field-0.0 _ _ (fails_by c.in_err-found.field-0.0 _ _ c.more.invariant.read (many_fails c.args.reader.halves field_groups c.more.invariant.lists c.more.rest.now c.in_err-found.field-0.0 c.in_err-found.ensures.reads)))
