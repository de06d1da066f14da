use Rattle.std.proofs.Common.{◌≡◌, refl, ◌∙◌, false}
use Rattle.std.proofs.lemmas.Result.{err_from_is_err_and}
use Rattle.mdr_syntax.specs.declared.token.Token.{Token}
use Rattle.mdr_core.specs.declared.kind.Kind.{Kind}
use Rattle.mdr_grammar.specs.declared.sort.Sort.{Sort}
use Rattle.mdr_grammar.specs.Grammar.{rule}
use Rattle.mdr_grammar.proofs.Hungry.{opens}
use Rattle.mdr_reader.proofs.Arms.{goes, arm, none, at_end}
use Rattle.mdr_grammar.specs.Forms.Part.{base as a_base}
use Rattle.mdr_grammar.specs.Forms.Nonterminal.{part}
use Rattle.mdr_reader.proofs.types.base.Goals as goal

pub returns-in_default-clause-reads : goal.returns-in_default-clause-reads
returns-in_default-clause-reads c = at_end c.args.reader.halves (part a_base) c.in_default.ensures.found

pub returns-in-Integer-clause-reads : goal.returns-in-Integer-clause-reads
returns-in-Integer-clause-reads c = goes c.args.reader.halves (part a_base) (Sort.Integer c.in-Integer.kind) c.in-Some.ensures.found c.in-Integer.is refl refl

pub returns-in-Char-clause-reads : goal.returns-in-Char-clause-reads
returns-in-Char-clause-reads c = goes c.args.reader.halves (part a_base) Sort.Char c.in-Some.ensures.found c.in-Char.is refl refl

pub returns-in-Short-clause-reads : goal.returns-in-Short-clause-reads
returns-in-Short-clause-reads c = goes c.args.reader.halves (part a_base) Sort.Short c.in-Some.ensures.found c.in-Short.is refl refl

pub returns-in-Int-clause-reads : goal.returns-in-Int-clause-reads
returns-in-Int-clause-reads c = goes c.args.reader.halves (part a_base) Sort.Int c.in-Some.ensures.found c.in-Int.is refl refl

pub returns-in-Long-clause-reads : goal.returns-in-Long-clause-reads
returns-in-Long-clause-reads c = goes c.args.reader.halves (part a_base) Sort.Long c.in-Some.ensures.found c.in-Long.is refl refl

pub returns-in_ok-signed_behind-in-Signed-clause-reads : goal.returns-in_ok-signed_behind-in-Signed-clause-reads
returns-in_ok-signed_behind-in-Signed-clause-reads c = goes c.args.reader.halves (part a_base) Sort.Signed c.in-Some.ensures.found c.in-Signed.is refl refl ∙ c.in_ok-signed_behind-in-Signed.ensures.reads

pub returns-in_err-signed_behind-in-Signed-clause-reads : goal.returns-in_err-signed_behind-in-Signed-clause-reads
returns-in_err-signed_behind-in-Signed-clause-reads c =
    let p = err_from_is_err_and c.from_residual.result c.from_residual.ensures.1 in
    rw (p.1, p.2) (goes c.args.reader.halves (part a_base) Sort.Signed c.in-Some.ensures.found c.in-Signed.is refl refl ∙ c.in_err-signed_behind-in-Signed.ensures.reads)

pub returns-in-Unsigned-clause-reads : goal.returns-in-Unsigned-clause-reads
returns-in-Unsigned-clause-reads c = goes c.args.reader.halves (part a_base) Sort.Unsigned c.in-Some.ensures.found c.in-Unsigned.is refl refl ∙ c.unsigned_behind.ensures.reads

pub returns-in-Void-clause-reads : goal.returns-in-Void-clause-reads
returns-in-Void-clause-reads c = goes c.args.reader.halves (part a_base) Sort.Void c.in-Some.ensures.found c.in-Void.is refl refl

pub returns-in-Lock-clause-reads : goal.returns-in-Lock-clause-reads
returns-in-Lock-clause-reads c = goes c.args.reader.halves (part a_base) Sort.Lock c.in-Some.ensures.found c.in-Lock.is refl refl

pub returns-in-Struct-clause-reads : goal.returns-in-Struct-clause-reads
returns-in-Struct-clause-reads c = arm c.args.reader.halves (part a_base) (λ x. x.0) (λ x. x.1.now) c.struct_behind.result Sort.Struct c.in-Some.ensures.found c.in-Struct.is refl refl c.struct_behind.ensures.reads

pub returns-in_default-sort : goal.returns-in_default-sort
returns-in_default-sort c = record { reads = none c.args.reader.halves (part a_base) c.in-Some.ensures.found (by_sort _ _ c.in_default-sort.not-Integer c.in_default-sort.not-Char c.in_default-sort.not-Short c.in_default-sort.not-Int c.in_default-sort.not-Long c.in_default-sort.not-Signed c.in_default-sort.not-Unsigned c.in_default-sort.not-Void c.in_default-sort.not-Lock c.in_default-sort.not-Struct); shorter = tt }
  where
    by_sort : (s : Sort) (t : Token) → ((k : Kind) → s ≡ Sort.Integer k → ⊥) → (s ≡ Sort.Char → ⊥) → (s ≡ Sort.Short → ⊥) → (s ≡ Sort.Int → ⊥) → (s ≡ Sort.Long → ⊥) → (s ≡ Sort.Signed → ⊥) → (s ≡ Sort.Unsigned → ⊥) → (s ≡ Sort.Void → ⊥) → (s ≡ Sort.Lock → ⊥) → (s ≡ Sort.Struct → ⊥) → opens (rule (part a_base) s t) ≡ false
    by_sort (Sort.Integer k) t h0 h1 h2 h3 h4 h5 h6 h7 h8 h9 = absurd (h0 k refl)
    by_sort Sort.Char t h0 h1 h2 h3 h4 h5 h6 h7 h8 h9 = absurd (h1 refl)
    by_sort Sort.Short t h0 h1 h2 h3 h4 h5 h6 h7 h8 h9 = absurd (h2 refl)
    by_sort Sort.Int t h0 h1 h2 h3 h4 h5 h6 h7 h8 h9 = absurd (h3 refl)
    by_sort Sort.Long t h0 h1 h2 h3 h4 h5 h6 h7 h8 h9 = absurd (h4 refl)
    by_sort Sort.Signed t h0 h1 h2 h3 h4 h5 h6 h7 h8 h9 = absurd (h5 refl)
    by_sort Sort.Unsigned t h0 h1 h2 h3 h4 h5 h6 h7 h8 h9 = absurd (h6 refl)
    by_sort Sort.Void t h0 h1 h2 h3 h4 h5 h6 h7 h8 h9 = absurd (h7 refl)
    by_sort Sort.Lock t h0 h1 h2 h3 h4 h5 h6 h7 h8 h9 = absurd (h8 refl)
    by_sort Sort.Struct t h0 h1 h2 h3 h4 h5 h6 h7 h8 h9 = absurd (h9 refl)
    by_sort _ t h0 h1 h2 h3 h4 h5 h6 h7 h8 h9 = refl
