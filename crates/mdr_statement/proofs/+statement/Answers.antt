-- The cycle of statements.
use Rattle.std.proofs.Common.{refl, sym, ap, ◌∙◌, arith, ◌+◌, true, Ok}
use Rattle.std.proofs.lemmas.Result.{err_from_is_err_and}
use Rattle.mdr_grammar.specs.declared.sort.Sort.{Sort}
use Rattle.mdr_grammar.specs.Forms.Part.{statement, body, simple, plain, clause, label, block_item}
use Rattle.mdr_grammar.specs.Forms.Repeated.{statements, clauses}
use Rattle.mdr_grammar.specs.Forms.Nonterminal.{part, many}
use Rattle.mdr_grammar.specs.Forms.Right.{gives}
use Rattle.mdr_grammar.specs.Forms.{and_then}
use Rattle.mdr_grammar.specs.Expressions.{is_level_free}
use Rattle.mdr_grammar.specs.Statements.{deeper_rule, single_rule, statement_rule, in_block, simple_end, clause_of}
use Rattle.mdr_simple.specs.Behind.{other_of, branches, repeated_while, repeated_for, switched}
use Rattle.mdr_grammar.specs.Front.{first}
use Rattle.mdr_reader.proofs.Arms.{goes, arm, at_end, past_arm}
use Rattle.mdr_expression.proofs.Expressing.{gives_same}
use Rattle.mdr_reader.proofs.Going.{first_by, through_by, through_all}
use Rattle.mdr_simple.proofs.Stated.{nested_allowed, nested_forbidden, deeper_is, deeper_refused, deeper_simple, only_single, forbidden_by, item_is}
use Rattle.mdr_reader.proofs.Turns.{fails_by, optional, many_more, many_end, many_fails, or_ok, or_other, or_fails}
use Rattle.mdr_simple.proofs.Deeper.{free_below, by_condition, by_head, by_do, by_nested, by_single, more_so_far, all_so_far, fails_so_far}
use Rattle.mdr_statement.proofs.+statement.Goals as goal

pub statements::statement-returns-in_default-clause-reads : goal.statements::statement-returns-in_default-clause-reads
statements::statement-returns-in_default-clause-reads t c = at_end c.args.reader.halves (part (statement c.args.level)) c.in_default.ensures.found

pub statements::statement-returns-in-Semicolon-clause-reads : goal.statements::statement-returns-in-Semicolon-clause-reads
statements::statement-returns-in-Semicolon-clause-reads t c = goes c.args.reader.halves (part (statement c.args.level)) Sort.Semicolon c.in-Some.ensures.found c.in-Semicolon.is refl refl ∙ ap (λ s. Ok (s, c.in-Some.rest.now)) (sym c.empty_statement.ensures)

pub statements::statement-returns-in-OpenBrace-clause-reads : goal.statements::statement-returns-in-OpenBrace-clause-reads
statements::statement-returns-in-OpenBrace-clause-reads t c = arm c.args.reader.halves (part (statement c.args.level)) (λ x. x.0) (λ x. x.1.now) c.block.result Sort.OpenBrace c.in-Some.ensures.found c.in-OpenBrace.is refl refl (by_nested c.args.reader.halves c.args.level c.in-Some.token.now.place (λ x. x.0) (λ x. x.1.now) c.block.result c.in-Some.rest.now c.block.ensures.reads)

pub statements::statement-returns-in_ok-break_behind-in-Break-clause-reads : goal.statements::statement-returns-in_ok-break_behind-in-Break-clause-reads
statements::statement-returns-in_ok-break_behind-in-Break-clause-reads t c = goes c.args.reader.halves (part (statement c.args.level)) Sort.Break c.in-Some.ensures.found c.in-Break.is refl refl ∙ c.in_ok-break_behind-in-Break.ensures.reads

pub statements::statement-returns-in_err-break_behind-in-Break-clause-reads : goal.statements::statement-returns-in_err-break_behind-in-Break-clause-reads
statements::statement-returns-in_err-break_behind-in-Break-clause-reads t c =
    let p = err_from_is_err_and c.from_residual.result c.from_residual.ensures.1 in
    rw (p.1, p.2) (goes c.args.reader.halves (part (statement c.args.level)) Sort.Break c.in-Some.ensures.found c.in-Break.is refl refl ∙ c.in_err-break_behind-in-Break.ensures.reads)

pub statements::statement-returns-in_ok-continue_behind-in-Continue-clause-reads : goal.statements::statement-returns-in_ok-continue_behind-in-Continue-clause-reads
statements::statement-returns-in_ok-continue_behind-in-Continue-clause-reads t c = goes c.args.reader.halves (part (statement c.args.level)) Sort.Continue c.in-Some.ensures.found c.in-Continue.is refl refl ∙ c.in_ok-continue_behind-in-Continue.ensures.reads

pub statements::statement-returns-in_err-continue_behind-in-Continue-clause-reads : goal.statements::statement-returns-in_err-continue_behind-in-Continue-clause-reads
statements::statement-returns-in_err-continue_behind-in-Continue-clause-reads t c =
    let p = err_from_is_err_and c.from_residual-in_err-continue_behind-in-Continue.result c.from_residual-in_err-continue_behind-in-Continue.ensures.1 in
    rw (p.1, p.2) (goes c.args.reader.halves (part (statement c.args.level)) Sort.Continue c.in-Some.ensures.found c.in-Continue.is refl refl ∙ c.in_err-continue_behind-in-Continue.ensures.reads)

pub statements::statement-returns-in-Return-clause-reads : goal.statements::statement-returns-in-Return-clause-reads
statements::statement-returns-in-Return-clause-reads t c = arm c.args.reader.halves (part (statement c.args.level)) (λ x. x.0) (λ x. x.1.now) c.return_behind.result Sort.Return c.in-Some.ensures.found c.in-Return.is refl refl c.return_behind.ensures.reads

pub statements::statement-returns-then-is_level_free : goal.statements::statement-returns-then-is_level_free
statements::statement-returns-then-is_level_free t c = record { reads = gives_same (λ x. x.0) (λ x. x.1.now) c.deeper.result (first_by c.args.reader.halves (statement c.args.level) c.args.tokens.now ∙ deeper_is c.args.reader.halves c.args.level c.in-Some.ensures.found c.in_default-sort.not-Semicolon c.in_default-sort.not-OpenBrace c.in_default-sort.not-Break c.in_default-sort.not-Continue c.in_default-sort.not-Return) c.deeper.ensures.reads; shorter = c.deeper.ensures.shorter }

pub statements::statement-returns-else-is_level_free : goal.statements::statement-returns-else-is_level_free
statements::statement-returns-else-is_level_free t c = record { reads = first_by c.args.reader.halves (statement c.args.level) c.args.tokens.now ∙ deeper_is c.args.reader.halves c.args.level c.in-Some.ensures.found c.in_default-sort.not-Semicolon c.in_default-sort.not-OpenBrace c.in_default-sort.not-Break c.in_default-sort.not-Continue c.in_default-sort.not-Return ∙ deeper_refused c.args.reader.halves c.args.level c.args.tokens.now (sym c.is_level_free.ensures ∙ c.if-is_level_free.false); shorter = tt }

pub statements::deeper-returns-in-If-clause-reads : goal.statements::deeper-returns-in-If-clause-reads
statements::deeper-returns-in-If-clause-reads t c = by_condition c.args.reader.halves c.args.level (branches c.in-Some.token.now.place c.args.level) (λ x. x.0) (λ x. x.1.now) c.if_behind.result Sort.If c.in-Some.ensures.found c.in-If.is c.requires.low refl c.if_behind.ensures.reads

pub statements::deeper-returns-in-While-clause-reads : goal.statements::deeper-returns-in-While-clause-reads
statements::deeper-returns-in-While-clause-reads t c = by_condition c.args.reader.halves c.args.level (repeated_while c.in-Some.token.now.place c.args.level) (λ x. x.0) (λ x. x.1.now) c.while_behind.result Sort.While c.in-Some.ensures.found c.in-While.is c.requires.low refl c.while_behind.ensures.reads

pub statements::deeper-returns-in-Switch-clause-reads : goal.statements::deeper-returns-in-Switch-clause-reads
statements::deeper-returns-in-Switch-clause-reads t c = by_condition c.args.reader.halves c.args.level (switched c.in-Some.token.now.place c.args.level) (λ x. x.0) (λ x. x.1.now) c.switch_behind.result Sort.Switch c.in-Some.ensures.found c.in-Switch.is c.requires.low refl c.switch_behind.ensures.reads

pub statements::deeper-returns-in-For-clause-reads : goal.statements::deeper-returns-in-For-clause-reads
statements::deeper-returns-in-For-clause-reads t c = by_head c.args.reader.halves c.args.level (repeated_for c.in-Some.token.now.place c.args.level) (λ x. x.0) (λ x. x.1.now) c.for_behind.result Sort.For c.in-Some.ensures.found c.in-For.is c.requires.low refl c.for_behind.ensures.reads

pub statements::deeper-returns-in-Do-clause-reads : goal.statements::deeper-returns-in-Do-clause-reads
statements::deeper-returns-in-Do-clause-reads t c = by_do c.args.reader.halves c.args.level (λ x. x.0) (λ x. x.1.now) c.do_behind.result c.in-Some.ensures.found c.in-Do.is c.requires.low c.do_behind.ensures.reads

pub statements::deeper-returns-in_default-sort : goal.statements::deeper-returns-in_default-sort
statements::deeper-returns-in_default-sort t c = record { reads = through_by c.args.reader.halves (deeper_rule c.args.level) (simple c.args.level 0) (λ n. simple_end n) (λ x. x.0) (λ x. x.1.now) c.simple_statement.result c.in-Some.ensures.found (deeper_simple c.args.level _ _ (free_below c.args.level c.requires.low) c.in_default-sort.not-If c.in_default-sort.not-While c.in_default-sort.not-For c.in_default-sort.not-Do c.in_default-sort.not-Switch) c.simple_statement.ensures.reads; shorter = c.simple_statement.ensures.shorter }

pub statements::body-returns-in_default-clause-reads : goal.statements::body-returns-in_default-clause-reads
statements::body-returns-in_default-clause-reads t c = at_end c.args.reader.halves (part (body c.args.level)) c.in_default.ensures.found

pub statements::body-returns-in-Some-past-clause-reads : goal.statements::body-returns-in-Some-past-clause-reads
statements::body-returns-in-Some-past-clause-reads t c = past_arm c.args.reader.halves (part (body c.args.level)) (λ x. x.0) (λ x. x.1.now) c.block.result Sort.OpenBrace c.args.tokens.now c.in-Some-past.ensures.found refl refl (by_nested c.args.reader.halves c.args.level c.in-Some-past.brace.now.place (λ x. x.0) (λ x. x.1.now) c.block.result c.in-Some-past.rest.now c.block.ensures.reads)

pub statements::body-returns-in-None-clause-reads : goal.statements::body-returns-in-None-clause-reads
statements::body-returns-in-None-clause-reads t c = gives_same (λ x. x.0) (λ x. x.1.now) c.single.result (only_single c.args.reader.halves c.args.level c.in-Some.ensures.found c.in-None.ensures.found) c.single.ensures.reads

pub statements::single-returns-then-is_level_free-clause-reads : goal.statements::single-returns-then-is_level_free-clause-reads
statements::single-returns-then-is_level_free-clause-reads t c = by_single c.args.reader.halves c.args.place c.args.level (λ x. x.0) (λ x. x.1.now) c.single_at.result c.args.tokens.now (sym c.is_level_free.ensures ∙ c.if-is_level_free.true) c.single_at.ensures.reads

pub statements::single-returns-else-is_level_free-clause-reads : goal.statements::single-returns-else-is_level_free-clause-reads
statements::single-returns-else-is_level_free-clause-reads t c = forbidden_by c.args.reader.halves (is_level_free (c.args.level + 1)) (single_rule c.args.place c.args.level) (λ s t. and_then (statement_rule (c.args.level + 1) s t) (λ s. gives (in_block c.args.place s))) c.args.tokens.now (sym c.is_level_free.ensures ∙ c.if-is_level_free.false) (λ s t. refl)

pub statements::otherwise-returns-in-Some-clause-reads : goal.statements::otherwise-returns-in-Some-clause-reads
statements::otherwise-returns-in-Some-clause-reads t c = gives_same (λ x. other_of x.0) (λ x. x.1.now) c.other_branch.result (c.in-Some.ensures.found c.args.level) c.other_branch.ensures.reads

pub statements::otherwise-returns-in-None-clause-reads : goal.statements::otherwise-returns-in-None-clause-reads
statements::otherwise-returns-in-None-clause-reads t c = c.in-None.ensures.found c.args.level

pub blocks::nested-returns-then-is_level_free-clause-reads : goal.blocks::nested-returns-then-is_level_free-clause-reads
blocks::nested-returns-then-is_level_free-clause-reads t c = nested_allowed c.args.reader.halves c.args.level (λ x. x.0) (λ x. x.1.now) c.block_items.result c.args.tokens.now (sym c.is_level_free.ensures ∙ c.if-is_level_free.true) c.block_items.ensures.reads

pub blocks::nested-returns-else-is_level_free-clause-reads : goal.blocks::nested-returns-else-is_level_free-clause-reads
blocks::nested-returns-else-is_level_free-clause-reads t c = nested_forbidden c.args.reader.halves c.args.level c.args.tokens.now (sym c.is_level_free.ensures ∙ c.if-is_level_free.false) ∙ ap (λ ns. Ok (ns, c.args.tokens.now)) (sym c.new.ensures)

pub blocks::block_items-more-preserved : goal.blocks::block_items-more-preserved
blocks::block_items-more-preserved t c = record { read = more_so_far c.args.reader.halves c.args.level c.more.invariant.read (c.in_ok-found.ensures.reads ∙ ap (λ v. Ok (v, c.in_ok-found.behind.now)) c.in-Some.is) c.in_ok-all.ensures.value; shorter = omega (arith, c.in_ok-found.ensures.shorter, c.more.invariant.shorter) }

pub blocks::block_items-returns-in_err-found-clause-reads : goal.blocks::block_items-returns-in_err-found-clause-reads
blocks::block_items-returns-in_err-found-clause-reads t c = let p = err_from_is_err_and c.from_residual.result c.from_residual.ensures.1 in rw (p.1, p.2) (fails_so_far c.args.reader.halves c.args.level c.in_err-found.field-0.0 c.more.invariant.read c.in_err-found.ensures.reads)

pub blocks::block_items-returns-in_default-clause-reads : goal.blocks::block_items-returns-in_default-clause-reads
blocks::block_items-returns-in_default-clause-reads t c = all_so_far c.args.reader.halves c.args.level c.more.invariant.read (c.in_ok-found.ensures.reads ∙ ap (λ v. Ok (v, c.in_ok-found.behind.now)) c.in_default.is)

pub blocks::item_option-returns-clause-reads : goal.blocks::item_option-returns-clause-reads
blocks::item_option-returns-clause-reads t c = optional c.args.reader.halves (block_item c.args.level) (λ x. x.0) (λ x. x.1.now) c.perhaps.result c.args.tokens.now (c.perhaps.ensures.reads _ c.block_item.ensures.reads)

pub blocks::block_item-returns-in-Ok-clause-reads : goal.blocks::block_item-returns-in-Ok-clause-reads
blocks::block_item-returns-in-Ok-clause-reads t c = item_is c.args.reader.halves c.args.level c.args.tokens.now ∙ or_ok (λ x. x.0) (λ x. x.1.now) c.in-Ok.x _ _ c.args.tokens.now c.in-Ok.ensures.reads

pub blocks::block_item-returns-then-is_at-clause-reads : goal.blocks::block_item-returns-then-is_at-clause-reads
blocks::block_item-returns-then-is_at-clause-reads t c = gives_same (λ x. x.0) (λ x. x.1.now) c.one_statement.result (item_is c.args.reader.halves c.args.level c.args.tokens.now) (or_other (λ x. x.0) (λ x. x.1.now) c.one_statement.result c.in-Err.e _ _ c.args.tokens.now c.in-Err.ensures.reads (sym c.is_at.ensures ∙ c.if-is_at.true) c.one_statement.ensures.reads)

pub blocks::block_item-returns-else-is_at-clause-reads : goal.blocks::block_item-returns-else-is_at-clause-reads
blocks::block_item-returns-else-is_at-clause-reads t c = fails_by c.in-Err.e _ _ (sym (item_is c.args.reader.halves c.args.level c.args.tokens.now)) (or_fails c.in-Err.e _ _ c.args.tokens.now c.in-Err.ensures.reads (sym c.is_at.ensures ∙ c.if-is_at.false))

pub switches::clauses-more-preserved : goal.switches::clauses-more-preserved
switches::clauses-more-preserved t c = record { read = ap (λ l. first c.args.reader.halves (many true (clauses c.args.level) l) c.in_ok-found.behind.now) c.in_ok-push.ensures.ok ∙ sym (many_more c.args.reader.halves (clauses c.args.level) c.more.all c.more.rest.now (c.in_ok-found.ensures.reads ∙ ap (λ v. Ok (v, c.in_ok-found.behind.now)) c.in-Some.is)) ∙ c.more.invariant.read; shorter = omega (arith, c.in_ok-found.ensures.shorter, c.more.invariant.shorter) }

pub switches::clauses-returns-in_err-found-clause-reads : goal.switches::clauses-returns-in_err-found-clause-reads
switches::clauses-returns-in_err-found-clause-reads t c = let p = err_from_is_err_and c.from_residual.result c.from_residual.ensures.1 in rw (p.1, p.2) (fails_by c.in_err-found.field-0.0 _ _ c.more.invariant.read (many_fails c.args.reader.halves (clauses c.args.level) c.more.all c.more.rest.now c.in_err-found.field-0.0 c.in_err-found.ensures.reads))

pub switches::clauses-returns-in_default-clause-reads : goal.switches::clauses-returns-in_default-clause-reads
switches::clauses-returns-in_default-clause-reads t c = sym c.more.invariant.read ∙ many_end c.args.reader.halves (clauses c.args.level) c.more.all c.more.rest.now (c.in_ok-found.ensures.reads ∙ ap (λ v. Ok (v, c.in_ok-found.behind.now)) c.in_default.is)

pub switches::more_statements-more-preserved : goal.switches::more_statements-more-preserved
switches::more_statements-more-preserved t c = record { read = ap (λ l. first c.args.reader.halves (many true (statements c.args.level) l) c.in_ok-found.behind.now) c.in_ok-push.ensures.ok ∙ sym (many_more c.args.reader.halves (statements c.args.level) c.more.all c.more.rest.now (c.in_ok-found.ensures.reads ∙ ap (λ v. Ok (v, c.in_ok-found.behind.now)) c.in-Some.is)) ∙ c.more.invariant.read; shorter = omega (arith, c.in_ok-found.ensures.shorter, c.more.invariant.shorter) }

pub switches::more_statements-returns-in_err-found-clause-reads : goal.switches::more_statements-returns-in_err-found-clause-reads
switches::more_statements-returns-in_err-found-clause-reads t c = let p = err_from_is_err_and c.from_residual.result c.from_residual.ensures.1 in rw (p.1, p.2) (fails_by c.in_err-found.field-0.0 _ _ c.more.invariant.read (many_fails c.args.reader.halves (statements c.args.level) c.more.all c.more.rest.now c.in_err-found.field-0.0 c.in_err-found.ensures.reads))

pub switches::more_statements-returns-in_default-clause-reads : goal.switches::more_statements-returns-in_default-clause-reads
switches::more_statements-returns-in_default-clause-reads t c = sym c.more.invariant.read ∙ many_end c.args.reader.halves (statements c.args.level) c.more.all c.more.rest.now (c.in_ok-found.ensures.reads ∙ ap (λ v. Ok (v, c.in_ok-found.behind.now)) c.in_default.is)

pub switches::clause_option-returns-clause-reads : goal.switches::clause_option-returns-clause-reads
switches::clause_option-returns-clause-reads t c = optional c.args.reader.halves (clause c.args.level) (λ x. x.0) (λ x. x.1.now) c.perhaps.result c.args.tokens.now (c.perhaps.ensures.reads _ c.clause.ensures.reads)

pub switches::plain_option-returns-clause-reads : goal.switches::plain_option-returns-clause-reads
switches::plain_option-returns-clause-reads t c = optional c.args.reader.halves (plain c.args.level) (λ x. x.0) (λ x. x.1.now) c.perhaps.result c.args.tokens.now (c.perhaps.ensures.reads _ c.plain.ensures.reads)

pub switches::clause-returns-clause-reads : goal.switches::clause-returns-clause-reads
switches::clause-returns-clause-reads t c = through_all c.args.reader.halves (clause c.args.level) label (λ x. clause_of c.args.level x) (λ x. x.0) (λ x. x.1.now) c.labelled.result c.args.tokens.now (λ s t. refl) c.labelled.ensures.reads

pub switches::plain-returns-clause-reads : goal.switches::plain-returns-clause-reads
switches::plain-returns-clause-reads t c = through_all c.args.reader.halves (plain c.args.level) (statement c.args.level) (λ s. gives (s.node)) (λ x. x.0) (λ x. x.1.now) c.plain_node.result c.args.tokens.now (λ s t. refl) c.plain_node.ensures.reads
