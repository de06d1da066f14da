-- Tokens that begin nothing.
use Rattle.std.proofs.Common.{◌≡◌, refl, ℕ, Bool, false, true}
use Rattle.mdr_syntax.specs.declared.token.Token.{Token}
use Rattle.mdr_grammar.specs.declared.sort.Sort.{Sort}
use Rattle.mdr_grammar.specs.Sorts.{is}
use Rattle.mdr_grammar.specs.Forms.Part.{size, value, initial, enumerator}
use Rattle.mdr_grammar.specs.Forms.Nonterminal.{part, option, stars, parameter_name}
use Rattle.mdr_grammar.specs.Grammar.{rule}
use Rattle.mdr_grammar.specs.Declarations.{constant_rule, annotation_rule}
use Rattle.mdr_grammar.proofs.Hungry.{opens}

pub no_constant : (s : Sort) (t : Token) → (s ≡ Sort.Minus → ⊥) → (s ≡ Sort.Number → ⊥) → (s ≡ Sort.Name → ⊥) → opens (constant_rule s t) ≡ false
no_constant Sort.Minus t a b c = absurd (a refl)
no_constant Sort.Number t a b c = absurd (b refl)
no_constant Sort.Name t a b c = absurd (c refl)
no_constant _ t a b c = refl

pub no_annotation : (d : ℕ) (s : Sort) (t : Token) → (s ≡ Sort.Array → ⊥) → (s ≡ Sort.Sentinel → ⊥) → (s ≡ Sort.NullTerm → ⊥) → (s ≡ Sort.Opaque → ⊥) → opens (annotation_rule d s t) ≡ false
no_annotation d Sort.Array t a b c e = absurd (a refl)
no_annotation d Sort.Sentinel t a b c e = absurd (b refl)
no_annotation d Sort.NullTerm t a b c e = absurd (c refl)
no_annotation d Sort.Opaque t a b c e = absurd (e refl)
no_annotation d _ t a b c e = refl

pub no_size : (s : Sort) (t : Token) → is Sort.OpenBracket s ≡ false → opens (rule (option true size) s t) ≡ false
no_size Sort.OpenBracket t e = let q : true ≡ false = e in absurd (Prim.cc)
no_size _ t e = refl

pub no_stars : (k : ℕ) (s : Sort) (t : Token) → is Sort.Star s ≡ false → opens (rule (stars k) s t) ≡ false
no_stars k Sort.Star t e = let q : true ≡ false = e in absurd (Prim.cc)
no_stars k _ t e = refl

pub no_enumerator : (s : Sort) (t : Token) → is Sort.Name s ≡ false → opens (rule (part enumerator) s t) ≡ false
no_enumerator Sort.Name t e = let q : true ≡ false = e in absurd (Prim.cc)
no_enumerator _ t e = refl

pub no_value : (s : Sort) (t : Token) → is Sort.Equals s ≡ false → opens (rule (option true value) s t) ≡ false
no_value Sort.Equals t e = let q : true ≡ false = e in absurd (Prim.cc)
no_value _ t e = refl

pub no_initial : (s : Sort) (t : Token) → is Sort.Equals s ≡ false → opens (rule (option true initial) s t) ≡ false
no_initial Sort.Equals t e = let q : true ≡ false = e in absurd (Prim.cc)
no_initial _ t e = refl

pub no_name : (named : Bool) (s : Sort) (t : Token) → is Sort.Name s ≡ false → opens (rule (parameter_name named) s t) ≡ false
no_name named Sort.Name t e = let q : true ≡ false = e in absurd (Prim.cc)
no_name named _ t e = refl
