-- The turns of loops over lists, and what a call gave.
use Rattle.std.proofs.Common.{◌≡◌, refl, sym, subst, ap, ◌∙◌, Bool, true, false, List, [], ◌∷◌, ◌++◌, length, Option, Some, None, Result, Ok, Err}
use Rattle.mdr_syntax.specs.declared.token.Token.{Token}
use Rattle.mdr_reader.specs.declared.failure.Failure.{Failure}
use Rattle.mdr_reader.specs.declared.failure.Failure.TheVariants.{Memory, Fault}
use Rattle.mdr_grammar.specs.declared.sort.Sort.{Sort}
use Rattle.mdr_grammar.specs.Sorts.{is}
use Rattle.mdr_grammar.specs.Forms.{Part, PartValue, repeated, separated, enclosed, Repeated, Separated, Enclosed, form}
use Rattle.mdr_grammar.specs.Forms.Nonterminal.{part, option, many, commas, commas_open, after_comma}
use Rattle.mdr_grammar.specs.Grammar.{rule}
use Rattle.mdr_grammar.specs.Front.{Read, and_read, word_at, first, front}
use Rattle.mdr_reader.specs.Gives.{Gives, Fails, is_at, perhaps}
use Rattle.mdr_core.specs.Layout.{chosen}
use Rattle.mdr_grammar.proofs.Hungry.{opens}
use Rattle.mdr_reader.proofs.Arms.{past, not_past, read_again}
use Rattle.mdr_reader.proofs.Going.{option_is, following, many_is, after_comma_is, or_read}

pub fails_by : {A : Type 0} (e : Failure) (x y : Read A) → x ≡ y → Fails e x → Fails e y
fails_by e x y p h = subst (λ o. Fails e o) p h

-- a fault goes on
pub fails_and : {A B : Type 0} (e : Failure) (o : Read A) (f : A → List Token → Read B) → Fails e o → Fails e (and_read o f)
fails_and Memory o f h = tt
fails_and (Fault left) o f h = ap (λ x. and_read x f) h

pub fails_following : {A C : Type 0} (e : Failure) (o : Read (Option A)) (w : C) (f : A → List Token → Read C) → Fails e o → Fails e (following o w f)
fails_following Memory o w f h = tt
fails_following (Fault left) o w f h = ap (λ x. following x w f) h

-- what may be there
pub optional : {X : Type 0} (halves : Bool) (x : Part) (value : X → Option (PartValue x)) (behind : X → List Token) (result : Result X Failure) (ts : List Token) → Gives value behind result (perhaps (first halves (part x) ts) ts) → Gives value behind result (first halves (option true x) ts)
optional halves x value behind result ts g = subst (λ o. Gives value behind result o) (sym (option_is halves x ts)) g

-- ---- commas

no_comma : (x : Separated) (so_far : List (PartValue (separated x))) (s : Sort) (t : Token) → is Sort.Comma s ≡ false → opens (rule (commas x so_far) s t) ≡ false
no_comma x so_far Sort.Comma t e = let q : true ≡ false = e in absurd (Prim.cc)
no_comma x so_far _ t e = refl

behind_comma : (halves : Bool) (x : Separated) (so_far : List (PartValue (separated x))) (ts : List Token) {t : Token} {after : List Token} → word_at halves Sort.Comma ts ≡ Ok (t, after) → first halves (commas x so_far) ts ≡ and_read (first halves (part (separated x)) after) (λ v us. front halves (form (commas x (so_far ++ (v ∷ [])))) us)
behind_comma halves x so_far ts e = past halves (commas x so_far) Sort.Comma ts e refl refl

pub comma_more : (halves : Bool) (x : Separated) (so_far : List (PartValue (separated x))) (ts : List Token) {t : Token} {after behind : List Token} {v : PartValue (separated x)} → word_at halves Sort.Comma ts ≡ Ok (t, after) → first halves (part (separated x)) after ≡ Ok (v, behind) → first halves (commas x so_far) ts ≡ first halves (commas x (so_far ++ (v ∷ []))) behind
comma_more halves x so_far ts e g = behind_comma halves x so_far ts e ∙ ap (λ o. and_read o (λ v us. front halves (form (commas x (so_far ++ (v ∷ [])))) us)) g ∙ read_again _

pub comma_none : (halves : Bool) (x : Separated) (so_far : List (PartValue (separated x))) (ts : List Token) → word_at halves Sort.Comma ts ≡ Err (length ts) → first halves (commas x so_far) ts ≡ Ok (so_far, ts)
comma_none halves x so_far ts e = not_past halves (commas x so_far) Sort.Comma ts e (no_comma x so_far)

pub comma_fails : (halves : Bool) (x : Separated) (so_far : List (PartValue (separated x))) (ts : List Token) (e : Failure) {t : Token} {after : List Token} → word_at halves Sort.Comma ts ≡ Ok (t, after) → Fails e (first halves (part (separated x)) after) → Fails e (first halves (commas x so_far) ts)
comma_fails halves x so_far ts e w h = fails_by e _ _ (sym (behind_comma halves x so_far ts w)) (fails_and e _ _ h)

-- ---- commas that may stand at the end

no_comma_open : (x : Enclosed) (so_far : List (PartValue (enclosed x))) (s : Sort) (t : Token) → is Sort.Comma s ≡ false → opens (rule (commas_open x so_far) s t) ≡ false
no_comma_open x so_far Sort.Comma t e = let q : true ≡ false = e in absurd (Prim.cc)
no_comma_open x so_far _ t e = refl

pub open_none : (halves : Bool) (x : Enclosed) (so_far : List (PartValue (enclosed x))) (ts : List Token) → word_at halves Sort.Comma ts ≡ Err (length ts) → first halves (commas_open x so_far) ts ≡ Ok (so_far, ts)
open_none halves x so_far ts e = not_past halves (commas_open x so_far) Sort.Comma ts e (no_comma_open x so_far)

behind_open : (halves : Bool) (x : Enclosed) (so_far : List (PartValue (enclosed x))) (ts : List Token) {t : Token} {after : List Token} → word_at halves Sort.Comma ts ≡ Ok (t, after) → first halves (commas_open x so_far) ts ≡ following (first halves (option true (enclosed x)) after) so_far (λ v us. first halves (commas_open x (so_far ++ (v ∷ []))) us)
behind_open halves x so_far ts {after = after} e = past halves (commas_open x so_far) Sort.Comma ts e refl refl ∙ read_again (first halves (after_comma x so_far) after) ∙ after_comma_is halves x so_far after

pub open_end : (halves : Bool) (x : Enclosed) (so_far : List (PartValue (enclosed x))) (ts : List Token) {t : Token} {after behind : List Token} → word_at halves Sort.Comma ts ≡ Ok (t, after) → first halves (option true (enclosed x)) after ≡ Ok (None, behind) → first halves (commas_open x so_far) ts ≡ Ok (so_far, behind)
open_end halves x so_far ts e g = behind_open halves x so_far ts e ∙ ap (λ o. following o so_far (λ v us. first halves (commas_open x (so_far ++ (v ∷ []))) us)) g

pub open_more : (halves : Bool) (x : Enclosed) (so_far : List (PartValue (enclosed x))) (ts : List Token) {t : Token} {after behind : List Token} {v : PartValue (enclosed x)} → word_at halves Sort.Comma ts ≡ Ok (t, after) → first halves (option true (enclosed x)) after ≡ Ok (Some v, behind) → first halves (commas_open x so_far) ts ≡ first halves (commas_open x (so_far ++ (v ∷ []))) behind
open_more halves x so_far ts e g = behind_open halves x so_far ts e ∙ ap (λ o. following o so_far (λ v us. first halves (commas_open x (so_far ++ (v ∷ []))) us)) g

pub open_fails : (halves : Bool) (x : Enclosed) (so_far : List (PartValue (enclosed x))) (ts : List Token) (e : Failure) {t : Token} {after : List Token} → word_at halves Sort.Comma ts ≡ Ok (t, after) → Fails e (first halves (option true (enclosed x)) after) → Fails e (first halves (commas_open x so_far) ts)
open_fails halves x so_far ts e w h = fails_by e _ _ (sym (behind_open halves x so_far ts w)) (fails_following e _ _ _ h)

-- ---- one behind the other

pub many_end : (halves : Bool) (x : Repeated) (so_far : List (PartValue (repeated x))) (ts : List Token) {behind : List Token} → first halves (option true (repeated x)) ts ≡ Ok (None, behind) → first halves (many true x so_far) ts ≡ Ok (so_far, behind)
many_end halves x so_far ts g = many_is halves x so_far ts ∙ ap (λ o. following o so_far (λ v us. first halves (many true x (so_far ++ (v ∷ []))) us)) g

pub many_more : (halves : Bool) (x : Repeated) (so_far : List (PartValue (repeated x))) (ts : List Token) {behind : List Token} {v : PartValue (repeated x)} → first halves (option true (repeated x)) ts ≡ Ok (Some v, behind) → first halves (many true x so_far) ts ≡ first halves (many true x (so_far ++ (v ∷ []))) behind
many_more halves x so_far ts g = many_is halves x so_far ts ∙ ap (λ o. following o so_far (λ v us. first halves (many true x (so_far ++ (v ∷ []))) us)) g

pub many_fails : (halves : Bool) (x : Repeated) (so_far : List (PartValue (repeated x))) (ts : List Token) (e : Failure) → Fails e (first halves (option true (repeated x)) ts) → Fails e (first halves (many true x so_far) ts)
many_fails halves x so_far ts e h = fails_by e _ _ (sym (many_is halves x so_far ts)) (fails_following e _ _ _ h)

-- ---- one form or another

pub or_ok : {X A : Type 0} (value : X → A) (behind : X → List Token) (x : X) (a b : Read A) (ts : List Token) → Gives value behind (Ok x) a → Gives value behind (Ok x) (or_read a (length ts) b)
or_ok value behind x a b ts g = ap (λ o. or_read o (length ts) b) g

pub or_fails : {A : Type 0} (e : Failure) (a b : Read A) (ts : List Token) → Fails e a → is_at e (length ts) ≡ false → Fails e (or_read a (length ts) b)
or_fails Memory a b ts h c = tt
or_fails {A = A} (Fault left) a b ts h c = ap (λ o. or_read o (length ts) b) h ∙ ap (λ t. chosen t b (Err left)) c

pub or_other : {X A : Type 0} (value : X → A) (behind : X → List Token) (result : Result X Failure) (e : Failure) (a b : Read A) (ts : List Token) → Fails e a → is_at e (length ts) ≡ true → Gives value behind result b → Gives value behind result (or_read a (length ts) b)
or_other value behind result Memory a b ts h c g = let q : false ≡ true = c in absurd (Prim.cc)
or_other value behind result (Fault left) a b ts h c g = subst (λ o. Gives value behind result o) (sym (ap (λ o. or_read o (length ts) b) h ∙ ap (λ t. chosen t b (Err left)) c)) g
