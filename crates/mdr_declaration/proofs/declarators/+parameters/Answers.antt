use Rattle.std.proofs.Common.{refl, sym, ap, subst, ◌∙◌, arith, Ok, not, true, false}
use Rattle.std.proofs.lemmas.Result.{err_from_is_err_and}
use Rattle.mdr_grammar.specs.declared.sort.Sort.{Sort}
use Rattle.mdr_grammar.specs.Forms.Part.{specifiers, parameter}
use Rattle.mdr_grammar.specs.Forms.Separated.{parameters_at}
use Rattle.mdr_grammar.specs.Forms.Nonterminal.{commas, parameters, after_void}
use Rattle.mdr_grammar.specs.Declarations.{parameter_of, more_parameters, listed_parameters}
use Rattle.mdr_grammar.specs.Front.{first}
use Rattle.mdr_reader.specs.Gives.{Gives}
use Rattle.mdr_reader.proofs.Arms.{arm, refused, at_end, past_arm, read_again}
use Rattle.mdr_reader.proofs.Going.{through_all, through_all_by}
use Rattle.mdr_declaration.proofs.Starred.{parameter_stars}
use Rattle.mdr_reader.proofs.Turns.{comma_more, comma_none, comma_fails, fails_by}
use Rattle.mdr_declaration.proofs.Voids.{void_star, void_name, void_open, void_with_annotation, void_alone, only_listed}
use Rattle.mdr_declaration.proofs.declarators.+parameters.Goals as goal

pub more_parameters-more-preserved : goal.more_parameters-more-preserved
more_parameters-more-preserved t c = record { read = ap (λ l. first c.args.reader.halves (commas (parameters_at c.args.are_named c.args.depth) l) c.in_ok-x-in-Some.behind.now) c.in_ok-push-in-Some.ensures.ok ∙ sym (comma_more c.args.reader.halves (parameters_at c.args.are_named c.args.depth) c.more.all c.more.rest.now c.in-Some.ensures.found c.in_ok-x-in-Some.ensures.reads) ∙ c.more.invariant.read; shorter = omega (arith, c.in-Some.ensures.shorter, c.in_ok-x-in-Some.ensures.shorter, c.more.invariant.shorter) }

pub more_parameters-returns-in_err-x-in-Some-clause-reads : goal.more_parameters-returns-in_err-x-in-Some-clause-reads
more_parameters-returns-in_err-x-in-Some-clause-reads t c =
    let p = err_from_is_err_and c.from_residual.result c.from_residual.ensures.1 in
    rw (p.1, p.2) (fails_by c.in_err-x-in-Some.field-0.0 _ _ c.more.invariant.read (comma_fails c.args.reader.halves (parameters_at c.args.are_named c.args.depth) c.more.all c.more.rest.now c.in_err-x-in-Some.field-0.0 c.in-Some.ensures.found c.in_err-x-in-Some.ensures.reads))

pub more_parameters-returns-in-None-clause-reads : goal.more_parameters-returns-in-None-clause-reads
more_parameters-returns-in-None-clause-reads t c = sym c.more.invariant.read ∙ comma_none c.args.reader.halves (parameters_at c.args.are_named c.args.depth) c.more.all c.more.rest.now c.in-None.ensures.found

pub parameter-returns-clause-reads : goal.parameter-returns-clause-reads
parameter-returns-clause-reads t c = through_all c.args.reader.halves (parameter c.args.is_named c.args.depth) specifiers (λ b. parameter_of c.args.is_named c.args.depth b) (λ x. x.0) (λ x. x.1.now) c.typed_parameter.result c.args.tokens.now (λ s t. refl) c.typed_parameter.ensures.reads

pub parameter_declarator-returns-clause-reads : goal.parameter_declarator-returns-clause-reads
parameter_declarator-returns-clause-reads t c = subst (λ o. Gives (λ x. x.0) (λ x. x.1.now) c.parameter_behind_stars.result o) (sym (parameter_stars c.args.reader.halves c.args.is_named c.args.depth c.args.base.now c.args.tokens.now c.stars-count.ensures.reads)) c.parameter_behind_stars.ensures.reads

pub parameters-returns-in-Some-clause-reads : goal.parameters-returns-in-Some-clause-reads
parameters-returns-in-Some-clause-reads t c = past_arm c.args.reader.halves (parameters c.args.are_named c.args.depth) (λ x. x.0) (λ x. x.1.now) c.after_void.result Sort.Void c.args.tokens.now c.in-Some.ensures.found refl refl (subst (λ o. Gives (λ x. x.0) (λ x. x.1.now) c.after_void.result o) (sym (read_again _)) c.after_void.ensures.reads)

pub parameters-returns-in-None-clause-reads : goal.parameters-returns-in-None-clause-reads
parameters-returns-in-None-clause-reads t c = subst (λ o. Gives (λ x. x.0) (λ x. x.1.now) c.listed_parameters.result o) (sym (only_listed c.args.reader.halves c.args.are_named c.args.depth c.args.tokens.now c.in-None.ensures.found)) (through_all_by c.args.reader.halves (listed_parameters c.args.are_named c.args.depth) (parameter c.args.are_named c.args.depth) (λ x. more_parameters c.args.are_named c.args.depth x) (λ x. x.0) (λ x. x.1.now) c.listed_parameters.result c.args.tokens.now (λ s t. refl) c.listed_parameters.ensures.reads)

pub after_void-returns-in_default-clause-reads : goal.after_void-returns-in_default-clause-reads
after_void-returns-in_default-clause-reads t c = at_end c.args.reader.halves (after_void c.args.are_named c.args.depth c.args.place) c.in_default.ensures.found ∙ ap (λ l. Ok (l, c.args.tokens.now)) (sym c.new.ensures)

pub after_void-returns-then-are_named-clause-reads : goal.after_void-returns-then-are_named-clause-reads
after_void-returns-then-are_named-clause-reads t c = refused c.args.reader.halves (after_void c.args.are_named c.args.depth c.args.place) Sort.Comma c.in-Some.ensures.found c.in-Comma.is (ap not c.if-are_named.true) refl ∙ ap (λ l. Ok (l, c.args.tokens.now)) (sym c.new-then-are_named.ensures)

pub after_void-returns-else-are_named-clause-reads : goal.after_void-returns-else-are_named-clause-reads
after_void-returns-else-are_named-clause-reads t c = arm c.args.reader.halves (after_void c.args.are_named c.args.depth c.args.place) (λ x. x.0) (λ x. x.1.now) c.void_first.result Sort.Comma c.in-Some.ensures.found c.in-Comma.is (ap not c.if-are_named.false) refl c.void_first.ensures.reads

pub after_void-returns-in-Star-clause-reads : goal.after_void-returns-in-Star-clause-reads
after_void-returns-in-Star-clause-reads t c = subst (λ o. Gives (λ x. x.0) (λ x. x.1.now) c.void_declared.result o) (sym (void_star c.args.reader.halves c.args.are_named c.args.depth c.args.place c.in-Some.ensures.found c.in-Star.is)) c.void_declared.ensures.reads

pub after_void-returns-in-Name-clause-reads : goal.after_void-returns-in-Name-clause-reads
after_void-returns-in-Name-clause-reads t c = subst (λ o. Gives (λ x. x.0) (λ x. x.1.now) c.void_declared-in-Name.result o) (sym (void_name c.args.reader.halves c.args.are_named c.args.depth c.args.place c.in-Some.ensures.found c.in-Name.is)) c.void_declared-in-Name.ensures.reads

pub after_void-returns-then-may_open-clause-reads : goal.after_void-returns-then-may_open-clause-reads
after_void-returns-then-may_open-clause-reads t c = subst (λ o. Gives (λ x. x.0) (λ x. x.1.now) c.void_declared-then-may_open.result o) (sym (void_open c.args.reader.halves c.args.are_named c.args.depth c.args.place c.in-Some.ensures.found c.in-Open.is (sym c.may_open.ensures ∙ c.if-may_open.true))) c.void_declared-then-may_open.ensures.reads

pub after_void-returns-else-may_open-clause-reads : goal.after_void-returns-else-may_open-clause-reads
after_void-returns-else-may_open-clause-reads t c = refused c.args.reader.halves (after_void c.args.are_named c.args.depth c.args.place) Sort.Open c.in-Some.ensures.found c.in-Open.is (sym c.may_open.ensures ∙ c.if-may_open.false) refl ∙ ap (λ l. Ok (l, c.args.tokens.now)) (sym c.new-else-may_open.ensures)

pub after_void-returns-then-are_named-2 : goal.after_void-returns-then-are_named-2
after_void-returns-then-are_named-2 t c = record { reads = void_alone c.args.reader.halves c.args.are_named c.args.depth c.args.place c.in-Some.ensures.found c.if-are_named-2.true c.in_default-sort.not-Comma c.in_default-sort.not-Star c.in_default-sort.not-Name c.in_default-sort.not-Open ∙ ap (λ l. Ok (l, c.args.tokens.now)) (sym c.new-then-are_named-2.ensures); shorter = omega arith }

pub after_void-returns-else-are_named-2 : goal.after_void-returns-else-are_named-2
after_void-returns-else-are_named-2 t c = record { reads = subst (λ o. Gives (λ x. x.0) (λ x. x.1.now) c.void_annotated.result o) (sym (void_with_annotation c.args.reader.halves c.args.are_named c.args.depth c.args.place c.in-Some.ensures.found c.if-are_named-2.false c.in_default-sort.not-Comma c.in_default-sort.not-Star c.in_default-sort.not-Name c.in_default-sort.not-Open)) c.void_annotated.ensures.reads; shorter = c.void_annotated.ensures.shorter }
