-- Parameters behind a first `void`.
use Rattle.std.proofs.Common.{◌≡◌, refl, sym, ap, ◌∙◌, ◌+◌, ℕ, Bool, true, false, not, List, [], ◌∷◌, length, Option, None, Ok, Err}
use Rattle.mdr_core.specs.declared.place.Place.{Place}
use Rattle.mdr_syntax.specs.declared.token.Token.{Token}
use Rattle.mdr_syntax.specs.declared.tree.AnnText.{AnnText}
use Rattle.mdr_syntax.specs.declared.tree.Decl.{Decl}
use Rattle.mdr_grammar.specs.declared.sort.Sort.{Sort}
use Rattle.mdr_grammar.specs.Sorts.{is, sort_of}
use Rattle.mdr_grammar.specs.Forms.{Rule, where_allowed, and_then, ◌>>=◌}
use Rattle.mdr_grammar.specs.Forms.Part.{annotation}
use Rattle.mdr_grammar.specs.Forms.Rule.{never, given}
use Rattle.mdr_grammar.specs.Forms.Nonterminal.{part, after_void, parameters, parameter_declarator}
use Rattle.mdr_grammar.specs.Grammar.{rule}
use Rattle.mdr_grammar.specs.Expressions.{may_open}
use Rattle.mdr_grammar.specs.Declarations.{annotation_rule, annotated_parameter, more_parameters, void_base, void_with, perhaps_void_with, declared_void, annotated_void, listed_parameters, parameters_rule}
use Rattle.mdr_grammar.specs.Front.{Read, and_read, word_at, begun_at, first, front}
use Rattle.mdr_reader.specs.Gives.{read_from, read_by, perhaps}
use Rattle.mdr_core.specs.Layout.{chosen}
use Rattle.mdr_grammar.specs.Forms.Empty.{may}
use Rattle.mdr_reader.proofs.Going.{first_from, begin_both, goes_on_at, option_is, going}
use Rattle.mdr_declaration.proofs.Alike.{alike}

pub void_star : (halves named : Bool) (d : ℕ) (place : Place) {ts rest : List Token} {t : Token} {s : Sort} → (ts ≡ t ∷ rest) × (s ≡ sort_of halves t.what) → s ≡ Sort.Star → first halves (after_void named d place) ts ≡ front halves (declared_void named d place) ts
void_star halves named d place e g = begin_both halves (after_void named d place) (parameter_declarator named d (void_base place) 0) (λ x. annotated_parameter d x >>= λ y. more_parameters named d y) Sort.Star e g refl refl refl

pub void_name : (halves named : Bool) (d : ℕ) (place : Place) {ts rest : List Token} {t : Token} {s : Sort} → (ts ≡ t ∷ rest) × (s ≡ sort_of halves t.what) → s ≡ Sort.Name → first halves (after_void named d place) ts ≡ front halves (declared_void named d place) ts
void_name halves named d place e g = begin_both halves (after_void named d place) (parameter_declarator named d (void_base place) 0) (λ x. annotated_parameter d x >>= λ y. more_parameters named d y) Sort.Name e g refl refl refl

pub void_open : (halves named : Bool) (d : ℕ) (place : Place) {ts rest : List Token} {t : Token} {s : Sort} → (ts ≡ t ∷ rest) × (s ≡ sort_of halves t.what) → s ≡ Sort.Open → may_open (d + 1) ≡ true → first halves (after_void named d place) ts ≡ front halves (declared_void named d place) ts
void_open halves named d place e g c = begin_both halves (after_void named d place) (parameter_declarator named d (void_base place) 0) (λ x. annotated_parameter d x >>= λ y. more_parameters named d y) Sort.Open e g c refl refl

by_annotation : (d : ℕ) (place : Place) (named : Bool) (s : Sort) (t : Token) → (s ≡ Sort.Comma → ⊥) → (s ≡ Sort.Star → ⊥) → (s ≡ Sort.Name → ⊥) → (s ≡ Sort.Open → ⊥) → rule (after_void named d place) s t ≡ where_allowed (not named) (and_then (annotation_rule d s t) (λ a. void_with named d place a))
by_annotation d place named Sort.Comma t a b c e = absurd (a refl)
by_annotation d place named Sort.Star t a b c e = absurd (b refl)
by_annotation d place named Sort.Name t a b c e = absurd (c refl)
by_annotation d place named Sort.Open t a b c e = absurd (e refl)
by_annotation d place named _ t a b c e = refl

pub allowed : {A : Type 0} (b : Bool) (r : Rule A) → b ≡ true → where_allowed b r ≡ r
allowed true never e = refl
allowed true (given c x) e = refl
allowed false r e = let q : false ≡ true = e in absurd (Prim.cc)

-- where parameters needn't be named, an annotation may come alone
pub void_with_annotation : (halves named : Bool) (d : ℕ) (place : Place) {ts rest : List Token} {t : Token} {s : Sort} → (ts ≡ t ∷ rest) × (s ≡ sort_of halves t.what) → named ≡ false → (s ≡ Sort.Comma → ⊥) → (s ≡ Sort.Star → ⊥) → (s ≡ Sort.Name → ⊥) → (s ≡ Sort.Open → ⊥) → first halves (after_void named d place) ts ≡ front halves (annotated_void named d place) ts
void_with_annotation halves named d place {ts = ts} {t = t} {s = s} e n a b c f = goes_on_at halves (after_void named d place) (annotation d) [] (λ x. void_with named d place x) e refl (by_annotation d place named s t a b c f ∙ allowed (not named) _ (ap not n)) ∙ by_read (first halves (part (annotation d)) ts) ∙ ap (λ o. and_read o (λ x us. front halves (perhaps_void_with named d place x) us)) (sym (option_is halves (annotation d) ts))
  where
    by_test : (b : Bool) (left : ℕ) → ◌≡◌ {A = Read (List Decl)} (chosen b (Ok ([], ts)) (Err left)) (and_read {A = Option AnnText} (chosen b (Ok (None, ts)) (Err left)) (λ x us. front halves (perhaps_void_with named d place x) us))
    by_test true left = refl
    by_test false left = refl

    by_read : (o : Read AnnText) → going o ts [] (λ x us. front halves (void_with named d place x) us) ≡ and_read (perhaps o ts) (λ x us. front halves (perhaps_void_with named d place x) us)
    by_read (Ok x) = refl
    by_read (Err left) = by_test _ left

-- a lone `void`
pub void_alone : (halves named : Bool) (d : ℕ) (place : Place) {ts rest : List Token} {t : Token} {s : Sort} → (ts ≡ t ∷ rest) × (s ≡ sort_of halves t.what) → named ≡ true → (s ≡ Sort.Comma → ⊥) → (s ≡ Sort.Star → ⊥) → (s ≡ Sort.Name → ⊥) → (s ≡ Sort.Open → ⊥) → first halves (after_void named d place) ts ≡ Ok ([], ts)
void_alone halves named d place {ts = ts} {rest = rest} {t = t} {s = s} e n a b c f = first_from halves (after_void named d place) ts ∙ ap (λ us. read_from (may true []) halves (rule (after_void named d place)) us) e.0 ∙ ap (λ x. begun_at (rule (after_void named d place) x t) (λ r. front halves r rest) (Ok ([], t ∷ rest))) (sym e.1) ∙ ap (λ o. begun_at o (λ r. front halves r rest) (Ok ([], t ∷ rest))) (by_annotation d place named s t a b c f) ∙ refused (not named) _ (ap not n) ∙ ap (λ us. Ok ([], us)) (sym e.0)
  where
    refused : (b : Bool) (r : Rule (List Decl)) → b ≡ false → begun_at (where_allowed b r) (λ r. front halves r rest) (Ok ([], t ∷ rest)) ≡ Ok ([], t ∷ rest)
    refused true r q = let z : true ≡ false = q in absurd (Prim.cc)
    refused false never q = refl
    refused false (given c x) q = refl

-- parameters that don't begin with `void`
unlisted : (named : Bool) (d : ℕ) (s : Sort) (t : Token) → is Sort.Void s ≡ false → parameters_rule named d s t ≡ listed_parameters named d s t
unlisted named d Sort.Void t e = let q : true ≡ false = e in absurd (Prim.cc)
unlisted named d _ t e = refl

pub only_listed : (halves named : Bool) (d : ℕ) (ts : List Token) → word_at halves Sort.Void ts ≡ Err (length ts) → first halves (parameters named d) ts ≡ read_by halves (listed_parameters named d) ts
only_listed halves named d ts e = first_from halves (parameters named d) ts ∙ alike halves (parameters_rule named d) (listed_parameters named d) Sort.Void ts e (unlisted named d)
