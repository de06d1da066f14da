-- The cycle of expressions.
use Rattle.std.proofs.Common.{refl, sym, ap, ◌∙◌, arith, ◌+◌, ◌-◌, suc, [], ◌∷◌, ◌++◌, false, Ok}
use Rattle.std.proofs.lemmas.Result.{err_from_is_err_and}
use Rattle.mdr_syntax.specs.declared.tree.FormWhat
use Rattle.mdr_grammar.specs.declared.sort.Sort.{Sort}
use Rattle.mdr_grammar.specs.Forms.{Operand}
use Rattle.mdr_grammar.specs.Forms.Part.{operand as an_operand, argument as an_argument}
use Rattle.mdr_grammar.specs.Forms.Nonterminal.{part, postfix, commas, choice as a_choice}
use Rattle.mdr_grammar.specs.Forms.Separated.{arguments_at}
use Rattle.mdr_grammar.specs.Expressions.{is_level_free, form_at, name_form, number_form, operators_from, binary}
use Rattle.mdr_grammar.specs.Front.{first as first_read, front}
use Rattle.mdr_expression.specs.Tails.{operand_of}
use Rattle.mdr_reader.proofs.Arms.{goes, arm, refused, none, at_end, past_arm, not_past}
use Rattle.mdr_expression.proofs.Operating.{sunk, operated}
use Rattle.mdr_expression.proofs.Extending.{tailed}
use Rattle.mdr_expression.proofs.Casting.{argument_type, argument_expression}
use Rattle.mdr_expression.proofs.Expressing.{fails_first, read_on, gives_same, past_refused, below_free, measured_zero, starts, at_parenthesis, before, no_operand, expressed, no_choice, none_listed, some_listed}
use Rattle.mdr_expression.proofs.+expression.Goals as goal

pub arguments::argument-returns-in_default-clause-reads : goal.arguments::argument-returns-in_default-clause-reads
arguments::argument-returns-in_default-clause-reads t c = at_end c.args.reader.halves (part (an_argument c.args.level c.args.depth)) c.in_default.ensures.found

pub arguments::argument-returns-in_ok-text_part-in-Text-clause-reads : goal.arguments::argument-returns-in_ok-text_part-in-Text-clause-reads
arguments::argument-returns-in_ok-text_part-in-Text-clause-reads t c = goes c.args.reader.halves (part (an_argument c.args.level c.args.depth)) Sort.Text c.in-Some.ensures.found c.in-Text.is refl refl ∙ ap (λ (o : Operand). Ok (o.form, c.in-Some.rest.now)) (sym c.in_ok-text_part-in-Text.ensures.value)

pub arguments::argument-returns-in-Name-clause-reads : goal.arguments::argument-returns-in-Name-clause-reads
arguments::argument-returns-in-Name-clause-reads t c = arm c.args.reader.halves (part (an_argument c.args.level c.args.depth)) (λ x. x.0.form) (λ x. x.1.now) c.word.result Sort.Name c.in-Some.ensures.found c.in-Name.is refl refl c.word.ensures.reads

pub arguments::argument-returns-then-begins_type : goal.arguments::argument-returns-then-begins_type
arguments::argument-returns-then-begins_type t c = record { reads = gives_same (λ x. x.0.form) (λ x. x.1.now) c.type_argument.result (argument_type c.args.reader.halves c.args.level c.args.depth c.in-Some.ensures.found c.in_default-sort.not-Text c.in_default-sort.not-Name (c.begins_type.ensures c.in-Some.token.now ∙ c.if-begins_type.true)) c.type_argument.ensures.reads; shorter = c.type_argument.ensures.shorter; measured = measured_zero c.type_argument.result c.args.level c.requires.low c.type_argument.ensures.measured }

pub arguments::argument-returns-else-begins_type : goal.arguments::argument-returns-else-begins_type
arguments::argument-returns-else-begins_type t c = record { reads = gives_same (λ x. x.0.form) (λ x. x.1.now) c.expression.result (argument_expression c.args.reader.halves c.args.level c.args.depth c.in-Some.ensures.found c.in_default-sort.not-Text c.in_default-sort.not-Name (c.begins_type.ensures c.in-Some.token.now ∙ c.if-begins_type.false)) c.expression.ensures.reads; shorter = c.expression.ensures.shorter; measured = c.expression.ensures.measured }

pub arguments::closed_arguments-returns-in-Some-clause-reads : goal.arguments::closed_arguments-returns-in-Some-clause-reads
arguments::closed_arguments-returns-in-Some-clause-reads t c = none_listed c.args.reader.halves c.args.level c.args.depth c.args.tokens.now c.in-Some.rest.now c.in-Some.field-0-0.now c.in-Some.ensures.found ∙ ap (λ fs. Ok (fs, c.in-Some.rest.now)) (sym c.no_arguments.ensures.value)

pub arguments::closed_arguments-returns-in-None-clause-reads : goal.arguments::closed_arguments-returns-in-None-clause-reads
arguments::closed_arguments-returns-in-None-clause-reads t c = gives_same (λ x. x.0.forms) (λ x. x.1.now) c.listed_arguments.result (some_listed c.args.reader.halves c.args.level c.args.depth c.args.tokens.now c.in-None.ensures.found) c.listed_arguments.ensures.reads

pub arguments::more_arguments-returns-in_err-next-clause-reads : goal.arguments::more_arguments-returns-in_err-next-clause-reads
arguments::more_arguments-returns-in_err-next-clause-reads t c = let p = err_from_is_err_and c.from_residual.result c.from_residual.ensures.1 in rw (p.1, p.2) (fails_first c.in_err-next.field-0.0 _ _ _ (sym c.loop-behind.invariant.read ∙ c.in-Some.ensures.found c.args.level c.args.depth c.loop-behind.so_far.forms) c.in_err-next.ensures.reads)

pub arguments::more_arguments-loop-behind-preserved : goal.arguments::more_arguments-loop-behind-preserved
arguments::more_arguments-loop-behind-preserved t c = let m = c.in_ok-so_far.ensures.measured c.in_ok-next.ensures.measured.0 c.loop-behind.invariant.measured.0 in record { read = ap (λ fs. first_read c.args.reader.halves (commas (arguments_at c.args.level c.args.depth) fs) c.in_ok-next.after.now) c.in_ok-so_far.ensures.value ∙ sym (read_on (λ f after. first_read c.args.reader.halves (commas (arguments_at c.args.level c.args.depth) (c.loop-behind.so_far.forms ++ (f ∷ []))) after) (sym c.loop-behind.invariant.read ∙ c.in-Some.ensures.found c.args.level c.args.depth c.loop-behind.so_far.forms) c.in_ok-next.ensures.reads); measured = (m.0, omega (arith, m.1, c.in_ok-next.ensures.measured.1, c.loop-behind.invariant.measured.1)); shorter = omega (arith, c.in_ok-next.ensures.shorter, c.in-Some.ensures.shorter, c.loop-behind.invariant.shorter) }

pub operands::operand-returns-in_default-clause-reads : goal.operands::operand-returns-in_default-clause-reads
operands::operand-returns-in_default-clause-reads t c = at_end c.args.reader.halves (part (an_operand c.args.casts c.args.level c.args.depth)) c.in_default.ensures.found

pub operands::operand-returns-in_ok-name_part-in-Name-clause-reads : goal.operands::operand-returns-in_ok-name_part-in-Name-clause-reads
operands::operand-returns-in_ok-name_part-in-Name-clause-reads t c = arm c.args.reader.halves (part (an_operand c.args.casts c.args.level c.args.depth)) (λ x. operand_of x.0) (λ x. x.1.now) c.postfix.result Sort.Name c.in-Some.ensures.found c.in-Name.is refl refl (starts c.args.reader.halves (λ x. operand_of x.0) (λ x. x.1.now) c.postfix.result c.args.level c.args.depth c.in-Some.token.now.place (operand_of c.in_ok-name_part-in-Name.field-0) (record { form = name_form c.in-Some.token.now; alone = false }) c.in-Some.rest.now c.in_ok-name_part-in-Name.ensures.value c.postfix.ensures.reads)

pub operands::operand-returns-in_ok-number_part-in-Number-clause-reads : goal.operands::operand-returns-in_ok-number_part-in-Number-clause-reads
operands::operand-returns-in_ok-number_part-in-Number-clause-reads t c = arm c.args.reader.halves (part (an_operand c.args.casts c.args.level c.args.depth)) (λ x. operand_of x.0) (λ x. x.1.now) c.postfix-in-Number.result Sort.Number c.in-Some.ensures.found c.in-Number.is refl refl (starts c.args.reader.halves (λ x. operand_of x.0) (λ x. x.1.now) c.postfix-in-Number.result c.args.level c.args.depth c.in-Some.token.now.place (operand_of c.in_ok-number_part-in-Number.field-0) (record { form = number_form c.in-Some.token.now; alone = false }) c.in-Some.rest.now c.in_ok-number_part-in-Number.ensures.value c.postfix-in-Number.ensures.reads)

pub operands::operand-returns-in_ok-null_part-in-Null-clause-reads : goal.operands::operand-returns-in_ok-null_part-in-Null-clause-reads
operands::operand-returns-in_ok-null_part-in-Null-clause-reads t c = arm c.args.reader.halves (part (an_operand c.args.casts c.args.level c.args.depth)) (λ x. operand_of x.0) (λ x. x.1.now) c.postfix-in-Null.result Sort.Null c.in-Some.ensures.found c.in-Null.is refl refl (starts c.args.reader.halves (λ x. operand_of x.0) (λ x. x.1.now) c.postfix-in-Null.result c.args.level c.args.depth c.in-Some.token.now.place (operand_of c.in_ok-null_part-in-Null.field-0) (record { form = form_at c.in-Some.token.now.place FormWhat.Null; alone = false }) c.in-Some.rest.now c.in_ok-null_part-in-Null.ensures.value c.postfix-in-Null.ensures.reads)

pub operands::operand-returns-then-is_call_free-clause-reads : goal.operands::operand-returns-then-is_call_free-clause-reads
operands::operand-returns-then-is_call_free-clause-reads t c = arm c.args.reader.halves (part (an_operand c.args.casts c.args.level c.args.depth)) (λ x. operand_of x.0) (λ x. x.1.now) c.service.result Sort.Service c.in-Some.ensures.found c.in-Service.is (sym c.is_call_free.ensures ∙ c.if-is_call_free.true) refl c.service.ensures.reads

pub operands::operand-returns-else-is_call_free-clause-reads : goal.operands::operand-returns-else-is_call_free-clause-reads
operands::operand-returns-else-is_call_free-clause-reads t c = refused c.args.reader.halves (part (an_operand c.args.casts c.args.level c.args.depth)) Sort.Service c.in-Some.ensures.found c.in-Service.is (sym c.is_call_free.ensures ∙ c.if-is_call_free.false) refl

pub operands::operand-returns-then-may_open-clause-reads : goal.operands::operand-returns-then-may_open-clause-reads
operands::operand-returns-then-may_open-clause-reads t c = arm c.args.reader.halves (part (an_operand c.args.casts c.args.level c.args.depth)) (λ x. operand_of x.0) (λ x. x.1.now) c.parentheses.result Sort.Open c.in-Some.ensures.found c.in-Open.is (sym c.may_open.ensures ∙ c.if-may_open.true) (at_parenthesis c.args.casts c.args.level c.args.depth c.in-Some.token.now) c.parentheses.ensures.reads

pub operands::operand-returns-else-may_open-clause-reads : goal.operands::operand-returns-else-may_open-clause-reads
operands::operand-returns-else-may_open-clause-reads t c = refused c.args.reader.halves (part (an_operand c.args.casts c.args.level c.args.depth)) Sort.Open c.in-Some.ensures.found c.in-Open.is (sym c.may_open.ensures ∙ c.if-may_open.false) (at_parenthesis c.args.casts c.args.level c.args.depth c.in-Some.token.now)

pub operands::operand-returns-then-is_level_free-clause-reads : goal.operands::operand-returns-then-is_level_free-clause-reads
operands::operand-returns-then-is_level_free-clause-reads t c = arm c.args.reader.halves (part (an_operand c.args.casts c.args.level c.args.depth)) (λ x. operand_of x.0) (λ x. x.1.now) c.operator_behind.result Sort.Step c.in-Some.ensures.found c.in-Step.is (sym c.is_level_free.ensures ∙ c.if-is_level_free.true) refl c.operator_behind.ensures.reads

pub operands::operand-returns-else-is_level_free-clause-reads : goal.operands::operand-returns-else-is_level_free-clause-reads
operands::operand-returns-else-is_level_free-clause-reads t c = refused c.args.reader.halves (part (an_operand c.args.casts c.args.level c.args.depth)) Sort.Step c.in-Some.ensures.found c.in-Step.is (sym c.is_level_free.ensures ∙ c.if-is_level_free.false) refl

pub operands::operand-returns-then-is_level_free-2-clause-reads : goal.operands::operand-returns-then-is_level_free-2-clause-reads
operands::operand-returns-then-is_level_free-2-clause-reads t c = arm c.args.reader.halves (part (an_operand c.args.casts c.args.level c.args.depth)) (λ x. operand_of x.0) (λ x. x.1.now) c.operator_behind-then-is_level_free-2.result c.in-Some.sort c.in-Some.ensures.found refl (sym c.is_level_free-then-is_prefix.ensures ∙ c.if-is_level_free-2.true) (before c.args.casts c.args.level c.args.depth c.in-Some.sort c.in-Some.token.now (sym c.is_prefix.ensures ∙ c.if-is_prefix.true)) c.operator_behind-then-is_level_free-2.ensures.reads

pub operands::operand-returns-else-is_level_free-2-clause-reads : goal.operands::operand-returns-else-is_level_free-2-clause-reads
operands::operand-returns-else-is_level_free-2-clause-reads t c = refused c.args.reader.halves (part (an_operand c.args.casts c.args.level c.args.depth)) c.in-Some.sort c.in-Some.ensures.found refl (sym c.is_level_free-then-is_prefix.ensures ∙ c.if-is_level_free-2.false) (before c.args.casts c.args.level c.args.depth c.in-Some.sort c.in-Some.token.now (sym c.is_prefix.ensures ∙ c.if-is_prefix.true))

pub operands::operand-returns-else-is_prefix-clause-reads : goal.operands::operand-returns-else-is_prefix-clause-reads
operands::operand-returns-else-is_prefix-clause-reads t c = none c.args.reader.halves (part (an_operand c.args.casts c.args.level c.args.depth)) c.in-Some.ensures.found (no_operand c.args.casts c.args.level c.args.depth _ _ c.in_default-sort.not-Name c.in_default-sort.not-Number c.in_default-sort.not-Null c.in_default-sort.not-Service c.in_default-sort.not-Open c.in_default-sort.not-Step (sym c.is_prefix.ensures ∙ c.if-is_prefix.false))

pub operators::choice-returns-then-may_sink-clause-reads : goal.operators::choice-returns-then-may_sink-clause-reads
operators::choice-returns-then-may_sink-clause-reads t c = past_arm c.args.reader.halves (a_choice c.args.level c.args.depth c.args.part.form) (λ x. x.0.form) (λ x. x.1.now) c.branches.result Sort.Question c.args.tokens.now c.in-Some.ensures.found (ap (λ n. is_level_free (c.args.level + suc n)) (sym c.requires.measured.0) ∙ sym c.may_sink.ensures ∙ c.if-may_sink.true) refl c.branches.ensures.reads

pub operators::choice-returns-else-may_sink-clause-reads : goal.operators::choice-returns-else-may_sink-clause-reads
operators::choice-returns-else-may_sink-clause-reads t c = past_refused c.args.reader.halves (a_choice c.args.level c.args.depth c.args.part.form) Sort.Question c.args.tokens.now c.in-Some.ensures.found (ap (λ n. is_level_free (c.args.level + suc n)) (sym c.requires.measured.0) ∙ sym c.may_sink.ensures ∙ c.if-may_sink.false) refl

pub operators::choice-returns-in-None-clause-reads : goal.operators::choice-returns-in-None-clause-reads
operators::choice-returns-in-None-clause-reads t c = not_past c.args.reader.halves (a_choice c.args.level c.args.depth c.args.part.form) Sort.Question c.args.tokens.now c.in-None.ensures.found (no_choice c.args.level c.args.depth c.args.part.form)

pub operators::expression-returns-in_err-x-clause-reads : goal.operators::expression-returns-in_err-x-clause-reads
operators::expression-returns-in_err-x-clause-reads t c = let p = err_from_is_err_and c.from_residual.result c.from_residual.ensures.1 in rw (p.1, p.2) (fails_first c.in_err-x.field-0.0 _ _ _ (expressed c.args.reader.halves c.args.level c.args.depth c.args.tokens.now) c.in_err-x.ensures.reads)

pub operators::expression-returns-clause-reads : goal.operators::expression-returns-clause-reads
operators::expression-returns-clause-reads t c = gives_same (λ x. x.0.form) (λ x. x.1.now) c.choice.result (read_on (λ f rest. first_read c.args.reader.halves (a_choice c.args.level c.args.depth f) rest) (expressed c.args.reader.halves c.args.level c.args.depth c.args.tokens.now) c.in_ok-x.ensures.reads) c.choice.ensures.reads

pub operators::operators-returns-else-may_sink-clause-reads : goal.operators::operators-returns-else-may_sink-clause-reads
operators::operators-returns-else-may_sink-clause-reads t c = sym c.loop-precedence.invariant.read ∙ sunk c.args.reader.halves (c.loop-precedence.most - c.args.above) (suc c.args.above) c.args.level c.args.depth c.loop-precedence.so_far.form c.loop-precedence.rest.now (ap (λ n. is_level_free (c.args.level + suc n)) (sym c.loop-precedence.invariant.measured.0) ∙ sym c.may_sink.ensures ∙ c.if-may_sink.false)

pub operators::operators-returns-in_err-right-clause-reads : goal.operators::operators-returns-in_err-right-clause-reads
operators::operators-returns-in_err-right-clause-reads t c = let p = err_from_is_err_and c.from_residual.result c.from_residual.ensures.1 in rw (p.1, p.2) (fails_first c.in_err-right.field-0.0 _ _ _ (sym c.loop-precedence.invariant.read ∙ operated c.args.reader.halves c.args.above c.loop-precedence.most c.args.level c.args.depth c.loop-precedence.so_far.form c.loop-precedence.rest.now c.in-Some.behind.now c.in-Some.token.now c.in-Some.precedence c.in-Some.ensures.found.0 c.in-Some.ensures.found.1 c.in-Some.ensures.found.2 c.in-Some.ensures.found.3 c.loop-precedence.invariant.high (ap (λ n. is_level_free (c.args.level + suc n)) (sym c.loop-precedence.invariant.measured.0) ∙ sym c.may_sink.ensures ∙ c.if-may_sink.true)) c.in_err-right.ensures.reads)

pub operators::operators-loop-precedence-preserved : goal.operators::operators-loop-precedence-preserved
operators::operators-loop-precedence-preserved t c = let m = c.in_ok-so_far.ensures.measured c.loop-precedence.invariant.measured.0 c.in_ok-right.ensures.measured.0 in let free = below_free (c.args.level + suc c.loop-precedence.so_far.height) (sym c.may_sink.ensures ∙ c.if-may_sink.true) in record { read = ap (λ f. front c.args.reader.halves (operators_from (c.in-Some.precedence - c.args.above) (suc c.args.above) c.args.level c.args.depth f) c.in_ok-right.after.now) c.in_ok-so_far.ensures.value ∙ sym (read_on (λ g after. front c.args.reader.halves (operators_from (c.in-Some.precedence - c.args.above) (suc c.args.above) c.args.level c.args.depth (binary c.loop-precedence.so_far.form c.in-Some.token.now g)) after) (sym c.loop-precedence.invariant.read ∙ operated c.args.reader.halves c.args.above c.loop-precedence.most c.args.level c.args.depth c.loop-precedence.so_far.form c.loop-precedence.rest.now c.in-Some.behind.now c.in-Some.token.now c.in-Some.precedence c.in-Some.ensures.found.0 c.in-Some.ensures.found.1 c.in-Some.ensures.found.2 c.in-Some.ensures.found.3 c.loop-precedence.invariant.high (ap (λ n. is_level_free (c.args.level + suc n)) (sym c.loop-precedence.invariant.measured.0) ∙ sym c.may_sink.ensures ∙ c.if-may_sink.true)) c.in_ok-right.ensures.reads); measured = (m.0, omega (arith, m.1, c.in_ok-right.ensures.measured.1, free)); low = omega (arith, c.in-Some.ensures.found.2); high = omega (arith, c.in-Some.ensures.found.3, c.loop-precedence.invariant.high); shorter = omega (arith, c.in_ok-right.ensures.shorter, c.in-Some.ensures.shorter, c.loop-precedence.invariant.shorter) }

pub postfix::postfix-returns-in_err-made-clause-reads : goal.postfix::postfix-returns-in_err-made-clause-reads
postfix::postfix-returns-in_err-made-clause-reads t c = let p = err_from_is_err_and c.from_residual.result c.from_residual.ensures.1 in rw (p.1, p.2) (fails_first c.in_err-made.field-0.0 _ _ _ (sym c.loop-tail.invariant.read ∙ tailed c.args.reader.halves c.args.level c.args.depth c.args.first c.loop-tail.so_far.form c.loop-tail.so_far.alone c.in-Some.tail c.loop-tail.rest.now c.in-Some.behind.now c.in-Some.token.now c.in-Some.ensures.found.0 (c.in-Some.ensures.found.1 c.args.first c.loop-tail.so_far.form c.loop-tail.invariant.measured.0)) c.in_err-made.ensures.reads)

pub postfix::postfix-loop-tail-preserved : goal.postfix::postfix-loop-tail-preserved
postfix::postfix-loop-tail-preserved t c = record { read = sym (read_on (λ (p : Operand) after. first_read c.args.reader.halves (postfix c.args.level c.args.depth c.args.first p.form p.alone) after) (sym c.loop-tail.invariant.read ∙ tailed c.args.reader.halves c.args.level c.args.depth c.args.first c.loop-tail.so_far.form c.loop-tail.so_far.alone c.in-Some.tail c.loop-tail.rest.now c.in-Some.behind.now c.in-Some.token.now c.in-Some.ensures.found.0 (c.in-Some.ensures.found.1 c.args.first c.loop-tail.so_far.form c.loop-tail.invariant.measured.0)) c.in_ok-made.ensures.reads); measured = c.in_ok-made.ensures.measured; shorter = omega (arith, c.in_ok-made.ensures.shorter, c.in-Some.ensures.shorter, c.loop-tail.invariant.shorter) }
