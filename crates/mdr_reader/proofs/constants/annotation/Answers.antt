use Rattle.std.proofs.Common.{refl, sym, ◌∙◌}
use Rattle.mdr_grammar.specs.declared.sort.Sort.{Sort}
use Rattle.mdr_grammar.specs.Forms.Part.{annotation as an_annotation}
use Rattle.mdr_grammar.specs.Forms.Nonterminal.{part}
use Rattle.mdr_reader.proofs.Arms.{goes, arm, refused, none, at_end}
use Rattle.mdr_reader.proofs.Nones.{no_annotation}
use Rattle.mdr_reader.proofs.constants.annotation.Goals as goal

pub returns-in_default-clause-reads : goal.returns-in_default-clause-reads
returns-in_default-clause-reads c = at_end c.args.reader.halves (part (an_annotation c.args.depth)) c.in_default.ensures.found

pub returns-then-may_open-clause-reads : goal.returns-then-may_open-clause-reads
returns-then-may_open-clause-reads c = arm c.args.reader.halves (part (an_annotation c.args.depth)) (λ x. x.0) (λ x. x.1.now) c.array_behind.result Sort.Array c.in-Some.ensures.found c.in-Array.is (sym c.may_open.ensures ∙ c.if-may_open.true) refl c.array_behind.ensures.reads

pub returns-else-may_open-clause-reads : goal.returns-else-may_open-clause-reads
returns-else-may_open-clause-reads c = refused c.args.reader.halves (part (an_annotation c.args.depth)) Sort.Array c.in-Some.ensures.found c.in-Array.is (sym c.may_open.ensures ∙ c.if-may_open.false) refl

pub returns-then-may_open-2-clause-reads : goal.returns-then-may_open-2-clause-reads
returns-then-may_open-2-clause-reads c = arm c.args.reader.halves (part (an_annotation c.args.depth)) (λ x. x.0) (λ x. x.1.now) c.sentinel_behind.result Sort.Sentinel c.in-Some.ensures.found c.in-Sentinel.is (sym c.may_open-in-Sentinel.ensures ∙ c.if-may_open-2.true) refl c.sentinel_behind.ensures.reads

pub returns-else-may_open-2-clause-reads : goal.returns-else-may_open-2-clause-reads
returns-else-may_open-2-clause-reads c = refused c.args.reader.halves (part (an_annotation c.args.depth)) Sort.Sentinel c.in-Some.ensures.found c.in-Sentinel.is (sym c.may_open-in-Sentinel.ensures ∙ c.if-may_open-2.false) refl

pub returns-in-NullTerm-clause-reads : goal.returns-in-NullTerm-clause-reads
returns-in-NullTerm-clause-reads c = goes c.args.reader.halves (part (an_annotation c.args.depth)) Sort.NullTerm c.in-Some.ensures.found c.in-NullTerm.is refl refl

pub returns-in-Opaque-clause-reads : goal.returns-in-Opaque-clause-reads
returns-in-Opaque-clause-reads c = goes c.args.reader.halves (part (an_annotation c.args.depth)) Sort.Opaque c.in-Some.ensures.found c.in-Opaque.is refl refl

pub returns-in_default-sort : goal.returns-in_default-sort
returns-in_default-sort c = record { reads = none c.args.reader.halves (part (an_annotation c.args.depth)) c.in-Some.ensures.found (no_annotation c.args.depth _ _ c.in_default-sort.not-Array c.in_default-sort.not-Sentinel c.in_default-sort.not-NullTerm c.in_default-sort.not-Opaque); shorter = tt }
