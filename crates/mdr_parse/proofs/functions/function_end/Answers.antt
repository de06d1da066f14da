use Rattle.std.proofs.Common.{◌≡◌, refl, sym, ap, subst, ◌∙◌, true, false, Ok}
use Rattle.mdr_grammar.specs.declared.sort.Sort.{Sort}
use Rattle.mdr_grammar.specs.Forms.Nonterminal.{function_end}
use Rattle.mdr_grammar.specs.Statements.{are_named}
use Rattle.mdr_reader.proofs.Arms.{goes, none, at_end}
use Rattle.mdr_parse.proofs.OuterForms.{no_end, body_named, body_unnamed}
use Rattle.mdr_parse.proofs.functions.function_end.Goals as goal

pub returns-in_default-clause-reads : goal.returns-in_default-clause-reads
returns-in_default-clause-reads c = rw c.refused.ensures (at_end c.args.reader.halves (function_end c.args.place c.args.head) c.in_default.ensures.found)

pub returns-in_ok-prototype-in-Semicolon-clause-reads : goal.returns-in_ok-prototype-in-Semicolon-clause-reads
returns-in_ok-prototype-in-Semicolon-clause-reads c = goes c.args.reader.halves (function_end c.args.place c.args.head) Sort.Semicolon c.in-Some.ensures.found c.in-Semicolon.is refl refl ∙ ap (λ v. Ok (v, c.in-Some.rest.now)) (sym c.in_ok-prototype-in-Semicolon.ensures.value)

pub returns-then-are_named-clause-reads : goal.returns-then-are_named-clause-reads
returns-then-are_named-clause-reads c = body_named c.args.reader.halves c.args.place c.args.head (λ x. x.0) (λ x. x.1.now) c.function_with.result c.in-Some.ensures.found c.in-OpenBrace.is (subst (λ ps. are_named ps ≡ true) c.as_slice.ensures (sym c.are_named.ensures ∙ c.if-are_named.true)) c.function_with.ensures.reads

pub returns-else-are_named-clause-reads : goal.returns-else-are_named-clause-reads
returns-else-are_named-clause-reads c = rw c.refused-else-are_named.ensures (body_unnamed c.args.reader.halves c.args.place c.args.head c.in-Some.ensures.found c.in-OpenBrace.is (subst (λ ps. are_named ps ≡ false) c.as_slice.ensures (sym c.are_named.ensures ∙ c.if-are_named.false)))

pub returns-in_default-sort : goal.returns-in_default-sort
returns-in_default-sort c = record { reads = rw c.refused-in_default-sort.ensures (none c.args.reader.halves (function_end c.args.place c.args.head) c.in-Some.ensures.found (no_end _ _ _ _ c.in_default-sort.not-Semicolon c.in_default-sort.not-OpenBrace)); shorter = tt }
