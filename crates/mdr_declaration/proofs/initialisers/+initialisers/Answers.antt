use Rattle.std.proofs.Common.{refl, sym, ap, subst, ◌∙◌, arith, Ok, None}
use Rattle.mdr_grammar.specs.declared.sort.Sort.{Sort}
use Rattle.mdr_grammar.specs.Forms.Part.{initialiser, element, constant}
use Rattle.mdr_grammar.specs.Forms.Enclosed.{elements}
use Rattle.mdr_grammar.specs.Forms.Nonterminal.{part}
use Rattle.mdr_grammar.specs.Forms.Right.{gives}
use Rattle.mdr_syntax.specs.declared.tree.Init
use Rattle.mdr_grammar.specs.Declarations.{bare_element}
use Rattle.mdr_reader.specs.Gives.{Gives}
use Rattle.mdr_reader.proofs.Arms.{goes, arm, refused, at_end, past_arm}
use Rattle.mdr_reader.proofs.Going.{through, through_all_by}
use Rattle.mdr_declaration.proofs.Alike.{only_bare, only_constant}
use Rattle.std.proofs.lemmas.Result.{err_from_is_err_and}
use Rattle.mdr_grammar.specs.Forms.Nonterminal.{commas_open}
use Rattle.mdr_grammar.specs.Front.{first}
use Rattle.mdr_reader.proofs.Turns.{open_more, open_none, open_end, open_fails, fails_by, optional}
use Rattle.mdr_declaration.proofs.initialisers.+initialisers.Goals as goal

pub initialiser-returns-in_default-clause-reads : goal.initialiser-returns-in_default-clause-reads
initialiser-returns-in_default-clause-reads t c = at_end c.args.reader.halves (part (initialiser c.args.braces)) c.in_default.ensures.found

pub initialiser-returns-in-Null-clause-reads : goal.initialiser-returns-in-Null-clause-reads
initialiser-returns-in-Null-clause-reads t c = goes c.args.reader.halves (part (initialiser c.args.braces)) Sort.Null c.in-Some.ensures.found c.in-Null.is refl refl

pub initialiser-returns-in-And-clause-reads : goal.initialiser-returns-in-And-clause-reads
initialiser-returns-in-And-clause-reads t c = arm c.args.reader.halves (part (initialiser c.args.braces)) (λ x. x.0) (λ x. x.1.now) c.address_behind.result Sort.And c.in-Some.ensures.found c.in-And.is refl refl c.address_behind.ensures.reads

pub initialiser-returns-then-may_nest-clause-reads : goal.initialiser-returns-then-may_nest-clause-reads
initialiser-returns-then-may_nest-clause-reads t c = arm c.args.reader.halves (part (initialiser c.args.braces)) (λ x. x.0) (λ x. x.1.now) c.braces_behind.result Sort.OpenBrace c.in-Some.ensures.found c.in-OpenBrace.is (sym c.may_nest.ensures ∙ c.if-may_nest.true) refl c.braces_behind.ensures.reads

pub initialiser-returns-else-may_nest-clause-reads : goal.initialiser-returns-else-may_nest-clause-reads
initialiser-returns-else-may_nest-clause-reads t c = refused c.args.reader.halves (part (initialiser c.args.braces)) Sort.OpenBrace c.in-Some.ensures.found c.in-OpenBrace.is (sym c.may_nest.ensures ∙ c.if-may_nest.false) refl

pub element-returns-in-Some-clause-reads : goal.element-returns-in-Some-clause-reads
element-returns-in-Some-clause-reads t c = past_arm c.args.reader.halves (part (element c.args.braces)) (λ x. x.0) (λ x. x.1.now) c.field_element.result Sort.Dot c.args.tokens.now c.in-Some.ensures.found refl refl c.field_element.ensures.reads

pub element-returns-in-None-clause-reads : goal.element-returns-in-None-clause-reads
element-returns-in-None-clause-reads t c = subst (λ o. Gives (λ x. x.0) (λ x. x.1.now) c.bare_element.result o) (sym (only_bare c.args.reader.halves c.args.braces c.args.tokens.now c.in-None.ensures.found)) (through_all_by c.args.reader.halves (bare_element c.args.braces) (initialiser c.args.braces) (λ i. gives (record { field = None; init = i })) (λ x. x.0) (λ x. x.1.now) c.bare_element.result c.args.tokens.now (λ s t. refl) c.bare_element.ensures.reads)

pub initialiser-returns-in_ok-text_init-in-Text-clause-reads : goal.initialiser-returns-in_ok-text_init-in-Text-clause-reads
initialiser-returns-in_ok-text_init-in-Text-clause-reads t c = goes c.args.reader.halves (part (initialiser c.args.braces)) Sort.Text c.in-Some.ensures.found c.in-Text.is refl refl ∙ ap (λ v. Ok (v, c.in-Some.rest.now)) (sym c.in_ok-text_init-in-Text.ensures.value)

pub initialiser-returns-in_default-sort : goal.initialiser-returns-in_default-sort
initialiser-returns-in_default-sort t c = record { reads = through c.args.reader.halves (initialiser c.args.braces) constant (λ x. gives (Init.Const x)) (λ x. x.0) (λ x. x.1.now) c.constant_init.result c.in-Some.ensures.found (only_constant c.args.braces _ _ c.in_default-sort.not-Null c.in_default-sort.not-And c.in_default-sort.not-Text c.in_default-sort.not-OpenBrace) c.constant_init.ensures.reads; shorter = c.constant_init.ensures.shorter }

pub more_elements-more-preserved : goal.more_elements-more-preserved
more_elements-more-preserved t c = record { read = ap (λ l. first c.args.reader.halves (commas_open (elements c.args.braces) l) c.in_ok-found.behind.now) c.in_ok-push.ensures.ok ∙ sym (open_more c.args.reader.halves (elements c.args.braces) c.more.all c.more.rest.now c.in-Some.ensures.found (c.in_ok-found.ensures.reads ∙ ap (λ v. Ok (v, c.in_ok-found.behind.now)) c.in-Some-found.is)) ∙ c.more.invariant.read; shorter = omega (arith, c.in-Some.ensures.shorter, c.in_ok-found.ensures.shorter, c.more.invariant.shorter) }

pub more_elements-returns-in_default-clause-reads : goal.more_elements-returns-in_default-clause-reads
more_elements-returns-in_default-clause-reads t c = sym c.more.invariant.read ∙ open_none c.args.reader.halves (elements c.args.braces) c.more.all c.more.rest.now c.in_default.ensures.found

pub more_elements-returns-in_err-found-clause-reads : goal.more_elements-returns-in_err-found-clause-reads
more_elements-returns-in_err-found-clause-reads t c =
    let p = err_from_is_err_and c.from_residual.result c.from_residual.ensures.1 in
    rw (p.1, p.2) (fails_by c.in_err-found.field-0.0 _ _ c.more.invariant.read (open_fails c.args.reader.halves (elements c.args.braces) c.more.all c.more.rest.now c.in_err-found.field-0.0 c.in-Some.ensures.found c.in_err-found.ensures.reads))

pub more_elements-returns-in_default-found-clause-reads : goal.more_elements-returns-in_default-found-clause-reads
more_elements-returns-in_default-found-clause-reads t c = sym c.more.invariant.read ∙ open_end c.args.reader.halves (elements c.args.braces) c.more.all c.more.rest.now c.in-Some.ensures.found (c.in_ok-found.ensures.reads ∙ ap (λ v. Ok (v, c.in_ok-found.behind.now)) c.in_default-found.is)

pub element_option-returns-clause-reads : goal.element_option-returns-clause-reads
element_option-returns-clause-reads t c = optional c.args.reader.halves (element c.args.braces) (λ x. x.0) (λ x. x.1.now) c.perhaps.result c.args.tokens.now (c.perhaps.ensures.reads _ c.element.ensures.reads)
