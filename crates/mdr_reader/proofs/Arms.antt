-- What the first token decides.
use Rattle.std.proofs.Common.{◌≡◌, refl, sym, subst, ap, ◌∙◌, Bool, true, false, List, [], ◌∷◌, Result, Ok, Err, length}
use Rattle.mdr_syntax.specs.declared.token.Token.{Token}
use Rattle.mdr_reader.specs.declared.failure.Failure.{Failure}
use Rattle.mdr_grammar.specs.declared.sort.Sort.{Sort}
use Rattle.mdr_grammar.specs.Sorts.{is, sort_of}
use Rattle.mdr_grammar.specs.Forms.{Nonterminal, Value, Right, Rule}
use Rattle.mdr_grammar.specs.Forms.Rule.{never, given}
use Rattle.mdr_grammar.specs.Grammar.{rule, empty}
use Rattle.mdr_grammar.specs.Front.{Read, and_read, found, word_at, nothing_at, begun_at, first, front}
use Rattle.mdr_reader.specs.Gives.{Gives}
use Rattle.mdr_grammar.proofs.Hungry.{opens}
use Rattle.mdr_reader.proofs.Numbered.{is_same}
use Rattle.mdr_grammar.proofs.Cuts.{word_is}
use Rattle.mdr_grammar.proofs.Fronts.{first_of, first_none}

-- the first token begins the nonterminal, where that is allowed
pub goes : (halves : Bool) (n : Nonterminal) (s' : Sort) {ts rest : List Token} {t : Token} {s : Sort} {b : Bool} {r : Right (Value n)} → (ts ≡ t ∷ rest) × (s ≡ sort_of halves t.what) → s ≡ s' → b ≡ true → rule n s' t ≡ given b r → first halves n ts ≡ front halves r rest
goes halves n s' {rest = rest} {t = t} {r = r} e g q h = ap (λ us. first halves n us) e.0 ∙ first_of halves n t rest ∙ ap (λ o. begun_at o (λ r. front halves r rest) (nothing_at (empty n) (t ∷ rest))) (ap (λ x. rule n x t) (sym e.1 ∙ g) ∙ h ∙ ap (λ c. given c r) q)

pub arm : {X : Type 0} (halves : Bool) (n : Nonterminal) (value : X → Value n) (behind : X → List Token) (result : Result X Failure) (s' : Sort) {ts rest : List Token} {t : Token} {s : Sort} {b : Bool} {r : Right (Value n)} → (ts ≡ t ∷ rest) × (s ≡ sort_of halves t.what) → s ≡ s' → b ≡ true → rule n s' t ≡ given b r → Gives value behind result (front halves r rest) → Gives value behind result (first halves n ts)
arm halves n value behind result s' e g q h x = subst (λ o. Gives value behind result o) (sym (goes halves n s' e g q h)) x

-- it begins the nonterminal, but that isn't allowed
pub refused : (halves : Bool) (n : Nonterminal) (s' : Sort) {ts rest : List Token} {t : Token} {s : Sort} {b : Bool} {r : Right (Value n)} → (ts ≡ t ∷ rest) × (s ≡ sort_of halves t.what) → s ≡ s' → b ≡ false → rule n s' t ≡ given b r → first halves n ts ≡ nothing_at (empty n) ts
refused halves n s' {ts = ts} {rest = rest} {t = t} {r = r} e g q h = ap (λ us. first halves n us) e.0 ∙ first_of halves n t rest ∙ ap (λ o. begun_at o (λ r. front halves r rest) (nothing_at (empty n) (t ∷ rest))) (ap (λ x. rule n x t) (sym e.1 ∙ g) ∙ h ∙ ap (λ c. given c r) q) ∙ ap (λ us. nothing_at (empty n) us) (sym e.0)

-- it doesn't begin the nonterminal
pub not_begun : {A : Type 0} (o : Rule A) (f : Right A → Read A) (other : Read A) → opens o ≡ false → begun_at o f other ≡ other
not_begun never f other e = refl
not_begun (given b r) f other e = let q : true ≡ false = e in absurd (Prim.cc)

pub none : (halves : Bool) (n : Nonterminal) {ts rest : List Token} {t : Token} {s : Sort} → (ts ≡ t ∷ rest) × (s ≡ sort_of halves t.what) → opens (rule n s t) ≡ false → first halves n ts ≡ nothing_at (empty n) ts
none halves n {ts = ts} {rest = rest} {t = t} e h = ap (λ us. first halves n us) e.0 ∙ first_of halves n t rest ∙ not_begun (rule n (sort_of halves t.what) t) _ _ (ap (λ x. opens (rule n x t)) (sym e.1) ∙ h) ∙ ap (λ us. nothing_at (empty n) us) (sym e.0)

pub at_end : (halves : Bool) (n : Nonterminal) {ts : List Token} → ts ≡ [] → first halves n ts ≡ nothing_at (empty n) ts
at_end halves n e = ap (λ us. first halves n us) e ∙ first_none halves n ∙ ap (λ us. nothing_at (empty n) us) (sym e)

-- a token of the sort is the first, or isn't
pub past : (halves : Bool) (n : Nonterminal) (s : Sort) (ts : List Token) {rest : List Token} {t : Token} {b : Bool} {r : Right (Value n)} → word_at halves s ts ≡ Ok (t, rest) → b ≡ true → rule n s t ≡ given b r → first halves n ts ≡ front halves r rest
past halves n s ts {rest = rest} {t = t} e q h = let w = word_is halves s ts rest t e in goes halves n s (w.0, refl) (is_same s (sort_of halves t.what) w.1) q h

pub not_word : (halves : Bool) (s : Sort) (t : Token) (ts : List Token) → word_at halves s (t ∷ ts) ≡ Err (length (t ∷ ts)) → is s (sort_of halves t.what) ≡ false
unfolding word_at
not_word halves s t ts e = by_test (is s (sort_of halves t.what)) e
  where
    by_test : (b : Bool) → found b t ts ≡ Err (length (t ∷ ts)) → b ≡ false
    by_test true e' = absurd (Prim.cc)
    by_test false e' = refl

pub not_past : (halves : Bool) (n : Nonterminal) (s : Sort) (ts : List Token) → word_at halves s ts ≡ Err (length ts) → ((s' : Sort) (t : Token) → is s s' ≡ false → opens (rule n s' t) ≡ false) → first halves n ts ≡ nothing_at (empty n) ts
not_past halves n s [] e h = at_end halves n refl
not_past halves n s (t ∷ ts) e h = none halves n (refl, refl) (h (sort_of halves t.what) t (not_word halves s t ts e))

pub past_arm : {X : Type 0} (halves : Bool) (n : Nonterminal) (value : X → Value n) (behind : X → List Token) (result : Result X Failure) (s : Sort) (ts : List Token) {rest : List Token} {t : Token} {b : Bool} {r : Right (Value n)} → word_at halves s ts ≡ Ok (t, rest) → b ≡ true → rule n s t ≡ given b r → Gives value behind result (front halves r rest) → Gives value behind result (first halves n ts)
past_arm halves n value behind result s ts e q h x = subst (λ o. Gives value behind result o) (sym (past halves n s ts e q h)) x

pub read_again : {A : Type 0} (o : Read A) → and_read o (λ v rest. Ok (v, rest)) ≡ o
read_again (Ok x) = refl
read_again (Err left) = refl
