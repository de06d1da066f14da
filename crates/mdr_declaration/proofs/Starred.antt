-- What reads behind stars reads with them.
use Rattle.std.proofs.Common.{◌≡◌, refl, sym, ap, ◌∙◌, ◌+◌, ℕ, Bool, false, not, List, [], ◌∷◌, None, Ok}
use Rattle.mdr_syntax.specs.declared.token.Token.{Token}
use Rattle.mdr_grammar.specs.declared.sort.Sort.{Sort}
use Rattle.mdr_grammar.specs.Sorts.{sort_of}
use Rattle.mdr_grammar.specs.declared.parts.Specifier.{Specifier}
use Rattle.mdr_grammar.specs.Forms.{Right, Rule, Empty, one, form}
use Rattle.mdr_grammar.specs.Forms.Part.{declarator}
use Rattle.mdr_grammar.specs.Forms.Nonterminal.{part, stars, parameter_declarator}
use Rattle.mdr_grammar.specs.Forms.Rule.{given}
use Rattle.mdr_grammar.specs.Forms.Empty.{cannot, may}
use Rattle.mdr_grammar.specs.Declarations.{declarator_rule, parameter_declarator_rule, unnamed}
use Rattle.mdr_grammar.specs.Front.{and_read, nothing_at, begun_at, first, front}
use Rattle.mdr_reader.specs.Gives.{read_from, read_by, after_stars}
use Rattle.mdr_grammar.proofs.Hungry.{opens}
use Rattle.mdr_reader.proofs.Arms.{read_again, not_begun}
use Rattle.mdr_reader.proofs.Going.{first_from, first_by}
use Rattle.mdr_declaration.proofs.BehindStars.{through_stars}

pub declarator_stars : (halves : Bool) (d : ℕ) (b : Specifier) (ts : List Token) {k : ℕ} {rest : List Token} → first halves (stars 0) ts ≡ Ok (k, rest) → first halves (part (declarator d b 0)) ts ≡ read_by halves (after_stars (declarator_rule d b k)) rest
declarator_stars halves d b ts e = through_stars halves (λ k us. first halves (part (declarator d b k)) us) (λ k. cannot) (λ k. declarator_rule d b k) (λ k. one (declarator d b (k + 1))) (λ k us. first_by halves (declarator d b k) us) (λ k t. refl) (λ k us. read_again _) 0 ts ∙ ap (λ o. and_read o (λ n us. read_by halves (after_stars (declarator_rule d b n)) us)) e

pub parameter_stars : (halves named : Bool) (d : ℕ) (b : Specifier) (ts : List Token) {k : ℕ} {rest : List Token} → first halves (stars 0) ts ≡ Ok (k, rest) → first halves (parameter_declarator named d b 0) ts ≡ read_from (may (not named) (unnamed b k None)) halves (after_stars (parameter_declarator_rule named d b k)) rest
parameter_stars halves named d b ts e = through_stars halves (λ k us. first halves (parameter_declarator named d b k) us) (λ k. may (not named) (unnamed b k None)) (λ k. parameter_declarator_rule named d b k) (λ k. form (parameter_declarator named d b (k + 1))) (λ k us. first_from halves (parameter_declarator named d b k) us) (λ k t. refl) (λ k us. read_again _) 0 ts ∙ ap (λ o. and_read o (λ n us. read_from (may (not named) (unnamed b n None)) halves (after_stars (parameter_declarator_rule named d b n)) us)) e

-- ---- a first token that begins nothing

pub none_from : {A : Type 0} (o : Empty A) (halves : Bool) (q : Sort → Token → Rule A) {ts : List Token} → ts ≡ [] → read_from o halves q ts ≡ nothing_at o ts
none_from o halves q e = ap (λ us. read_from o halves q us) e ∙ ap (λ us. nothing_at o us) (sym e)

pub not_from : {A : Type 0} (o : Empty A) (halves : Bool) (q : Sort → Token → Rule A) {ts rest : List Token} {t : Token} {s : Sort} → (ts ≡ t ∷ rest) × (s ≡ sort_of halves t.what) → opens (q s t) ≡ false → read_from o halves q ts ≡ nothing_at o ts
not_from o halves q {ts = ts} {rest = rest} {t = t} {s = s} e h = ap (λ us. read_from o halves q us) e.0 ∙ ap (λ x. begun_at (q x t) (λ x. front halves x rest) (nothing_at o (t ∷ rest))) (sym e.1) ∙ not_begun (q s t) _ _ h ∙ ap (λ us. nothing_at o us) (sym e.0)

pub refused_from : {A : Type 0} (o : Empty A) (halves : Bool) (q : Sort → Token → Rule A) (s' : Sort) {ts rest : List Token} {t : Token} {s : Sort} {b : Bool} {r : Right A} → (ts ≡ t ∷ rest) × (s ≡ sort_of halves t.what) → s ≡ s' → b ≡ false → q s' t ≡ given b r → read_from o halves q ts ≡ nothing_at o ts
refused_from {A = A} o halves q s' {ts = ts} {rest = rest} {t = t} {r = r} e g c h = ap (λ us. read_from o halves q us) e.0 ∙ ap (λ (y : Rule A). begun_at y (λ x. front halves x rest) (nothing_at o (t ∷ rest))) (ap (λ x. q x t) (sym e.1 ∙ g) ∙ h ∙ ap (λ c. given c r) c) ∙ ap (λ us. nothing_at o us) (sym e.0)

pub no_declarator : (d : ℕ) (b : Specifier) (k : ℕ) (s : Sort) (t : Token) → (s ≡ Sort.Name → ⊥) → (s ≡ Sort.Open → ⊥) → opens (after_stars (declarator_rule d b k) s t) ≡ false
no_declarator d b k Sort.Name t a c = absurd (a refl)
no_declarator d b k Sort.Open t a c = absurd (c refl)
no_declarator d b k _ t a c = refl

pub no_parameter : (named : Bool) (d : ℕ) (b : Specifier) (k : ℕ) (s : Sort) (t : Token) → (s ≡ Sort.Name → ⊥) → (s ≡ Sort.Open → ⊥) → opens (after_stars (parameter_declarator_rule named d b k) s t) ≡ false
no_parameter named d b k Sort.Name t a c = absurd (a refl)
no_parameter named d b k Sort.Open t a c = absurd (c refl)
no_parameter named d b k _ t a c = refl
