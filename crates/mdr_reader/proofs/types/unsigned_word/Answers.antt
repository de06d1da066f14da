use Rattle.std.proofs.Common.{◌≡◌, arith, refl, false}
use Rattle.mdr_syntax.specs.declared.token.Token.{Token}
use Rattle.mdr_grammar.specs.declared.sort.Sort.{Sort}
use Rattle.mdr_grammar.specs.Grammar.{rule}
use Rattle.mdr_grammar.proofs.Hungry.{opens}
use Rattle.mdr_reader.proofs.Arms.{goes, none, at_end}
use Rattle.mdr_grammar.specs.Forms.Nonterminal.{unsigned_word as an_unsigned_word}
use Rattle.mdr_reader.proofs.types.unsigned_word.Goals as goal

pub returns-in_default-clause-reads : goal.returns-in_default-clause-reads
returns-in_default-clause-reads c = at_end c.args.reader.halves an_unsigned_word c.in_default.ensures.found

pub returns-in-Char-clause-reads : goal.returns-in-Char-clause-reads
returns-in-Char-clause-reads c = goes c.args.reader.halves an_unsigned_word Sort.Char c.in-Some.ensures.found c.in-Char.is refl refl

pub returns-in-Short-clause-reads : goal.returns-in-Short-clause-reads
returns-in-Short-clause-reads c = goes c.args.reader.halves an_unsigned_word Sort.Short c.in-Some.ensures.found c.in-Short.is refl refl

pub returns-in-Int-clause-reads : goal.returns-in-Int-clause-reads
returns-in-Int-clause-reads c = goes c.args.reader.halves an_unsigned_word Sort.Int c.in-Some.ensures.found c.in-Int.is refl refl

pub returns-in-Long-clause-reads : goal.returns-in-Long-clause-reads
returns-in-Long-clause-reads c = goes c.args.reader.halves an_unsigned_word Sort.Long c.in-Some.ensures.found c.in-Long.is refl refl

pub returns-in_default-sort : goal.returns-in_default-sort
returns-in_default-sort c = record { reads = none c.args.reader.halves an_unsigned_word c.in-Some.ensures.found (by_sort _ _ c.in_default-sort.not-Char c.in_default-sort.not-Short c.in_default-sort.not-Int c.in_default-sort.not-Long); shorter = omega arith }
  where
    by_sort : (s : Sort) (t : Token) → (s ≡ Sort.Char → ⊥) → (s ≡ Sort.Short → ⊥) → (s ≡ Sort.Int → ⊥) → (s ≡ Sort.Long → ⊥) → opens (rule an_unsigned_word s t) ≡ false
    by_sort Sort.Char t h0 h1 h2 h3 = absurd (h0 refl)
    by_sort Sort.Short t h0 h1 h2 h3 = absurd (h1 refl)
    by_sort Sort.Int t h0 h1 h2 h3 = absurd (h2 refl)
    by_sort Sort.Long t h0 h1 h2 h3 = absurd (h3 refl)
    by_sort _ t h0 h1 h2 h3 = refl
