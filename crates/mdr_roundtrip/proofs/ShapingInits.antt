-- Initialisers that are read have the shape of initialisers.
use Rattle.std.proofs.Common.{◌≡◌, refl, sym, ap, ◌∙◌, ℕ, ◌+◌, Bool, true, false, ◌&&◌, List, [], ◌∷◌, ◌++◌, Option, Some, None, map}
use Rattle.std.specs.List.{list_all}
use Rattle.mdr_core.specs.declared.place.Place.{Place}
use Rattle.mdr_core.specs.declared.kind.Kind.TheVariants.{U8, U16, U32, U64, S8, S16, S32, S64}
use Rattle.mdr_syntax.specs.declared.token.Lexeme.{Lexeme}
use Rattle.mdr_syntax.specs.declared.token.Token.{Token}
use Rattle.mdr_syntax.specs.declared.tree.Const.{Const}
use Rattle.mdr_syntax.specs.declared.tree.Elem.{Elem}
use Rattle.mdr_syntax.specs.declared.tree.FieldName.{FieldName}
use Rattle.mdr_syntax.specs.declared.tree.Init
use Rattle.mdr_syntax.specs.declared.tree.Init.{Init}
use Rattle.mdr_syntax.specs.declared.tree.Init.TheOpen.{Init-F}
use Rattle.mdr_syntax.specs.declared.tree.Init.TheFolds.{map-Init, fold-roll-Init, fold_out-Elem}
use Rattle.mdr_syntax.specs.declared.tree.Init.TheVariants.{rolls-Const, rolls-Null, rolls-Address, rolls-Text, rolls-List}
use Rattle.mdr_syntax.specs.declared.tree.Init.TheViews.{roll-Init}
use Rattle.mdr_roundtrip.specs.Words.{is_written, is_writable}
use Rattle.mdr_roundtrip.specs.Printable.{all}
use Rattle.mdr_roundtrip.specs.PrintableDeclarations.{maybe}
use Rattle.mdr_roundtrip.proofs.Tests.{both}
use Rattle.mdr_grammar.specs.declared.sort.Sort.{Sort}
use Rattle.mdr_grammar.specs.Sorts.{is, sort_of}
use Rattle.mdr_grammar.specs.Forms.{Part, PartValue, Enclosed, enclosed, Nonterminal, Value, form}
use Rattle.mdr_grammar.specs.Forms.Part.{constant, initialiser, element}
use Rattle.mdr_grammar.specs.Forms.Nonterminal.{part, commas_open, after_comma}
use Rattle.mdr_grammar.specs.Forms.Enclosed.{elements}
use Rattle.mdr_grammar.specs.Expressions.{text_of, number_in, kind_in, may_nest}
use Rattle.mdr_grammar.specs.Declarations.{constant_rule, other_initialiser, initialiser_rule, bare_element, element_rule}
use Rattle.mdr_grammar.specs.Grammar.{rule, empty, part_rule, Gets}
use Rattle.mdr_roundtrip.specs.Lexed.{are_lexed}
use Rattle.mdr_roundtrip.specs.Shaped.{is_name}
use Rattle.mdr_roundtrip.specs.Initialised.{is_shaped_const, is_named_field, are_some, inside, init_shaped, elem_shaped, is_shaped_init, is_shaped_elem}
use Rattle.mdr_roundtrip.proofs.Bools.{also, all_more}
use Rattle.mdr_roundtrip.proofs.Judges.{Judge, SoundRuleBy, SoundEmpty, and_by, or_by, IsJudge, given_by}
use Rattle.mdr_roundtrip.proofs.Sorted.{no}
use Rattle.mdr_roundtrip.proofs.Shaping.{knows, sort_knows, told_of as name_told}

-- ---- what is known

abbrev pub told : Sort → Lexeme → Bool
told Sort.Name x = is_name (text_of x)
told Sort.Number x = is_written (number_in x) (kind_in x)
told _ x = true

number_of : (s : Sort) (x : Lexeme) → is Sort.Number s ≡ true → knows s x ≡ true → is_written (number_in x) (kind_in x) ≡ true
number_of Sort.Number x e m = m
number_of (Sort.Integer U8) x e m = no e
number_of (Sort.Integer U16) x e m = no e
number_of (Sort.Integer U32) x e m = no e
number_of (Sort.Integer U64) x e m = no e
number_of (Sort.Integer S8) x e m = no e
number_of (Sort.Integer S16) x e m = no e
number_of (Sort.Integer S32) x e m = no e
number_of (Sort.Integer S64) x e m = no e
number_of _ x e m = no e

pub told_of : (s s' : Sort) (x : Lexeme) → is s s' ≡ true → knows s' x ≡ true → told s x ≡ true
told_of Sort.Name s' x e m = name_told Sort.Name s' x e m
told_of Sort.Number s' x e m = number_of s' x e m
told_of _ s' x e m = refl

abbrev pub good_part : (x : Part) → PartValue x → Bool
good_part constant v = is_shaped_const v
good_part (initialiser n) v = is_shaped_init v n
good_part (element n) v = is_shaped_elem v n
good_part _ v = true

abbrev pub good : (n : Nonterminal) → Value n → Bool
good (part x) v = good_part x v
good (commas_open x so_far) v = list_all (good_part (enclosed x)) v && are_some v
good (after_comma x so_far) v = list_all (good_part (enclosed x)) v && are_some v
good _ v = true

abbrev pub fits_part : Part → Bool
fits_part constant = true
fits_part (initialiser n) = true
fits_part (element n) = true
fits_part _ = false

abbrev pub listed : (x : Enclosed) → List (PartValue (enclosed x)) → Bool
listed x so_far = fits_part (enclosed x) && (list_all (good_part (enclosed x)) so_far && are_some so_far)

abbrev pub fits : Nonterminal → Bool
fits (part x) = fits_part x
fits (commas_open x so_far) = listed x so_far
fits (after_comma x so_far) = listed x so_far
fits _ = false

abbrev pub initialising : Judge
initialising = record { told = told; good = good; fits = fits }

-- ---- initialisers, one by one

made : (l : Init-F Init Elem) (i : Init) (n : ℕ) → roll-Init l ≡ i → init_shaped (map-Init Init Elem (ℕ → Bool) (ℕ → Bool) is_shaped_init is_shaped_elem l) n ≡ true → is_shaped_init i n ≡ true
made l i n e h = ap (λ (f : ℕ → Bool). f n) (ap is_shaped_init (sym e) ∙ fold-roll-Init (ℕ → Bool) (ℕ → Bool) init_shaped elem_shaped l) ∙ h

constant_made : (c : Const) (n : ℕ) → is_shaped_const c ≡ true → is_shaped_init (Init.Const c) n ≡ true
constant_made c n h = made (Init-F.Const c) (Init.Const c) n (rolls-Const c) h

null_made : (place : Place) (n : ℕ) → is_shaped_init (Init.Null place) n ≡ true
null_made place n = made (Init-F.Null place) (Init.Null place) n (rolls-Null place) refl

address_made : (place : Place) (name : List ℕ) (n : ℕ) → is_name name ≡ true → is_shaped_init (Init.Address place name) n ≡ true
address_made place name n h = made (Init-F.Address place name) (Init.Address place name) n (rolls-Address place name) h

text_made : (place : Place) (bytes : List ℕ) (n : ℕ) → list_all is_writable bytes ≡ true → is_shaped_init (Init.Text place bytes) n ≡ true
text_made place bytes n h = made (Init-F.Text place bytes) (Init.Text place bytes) n (rolls-Text place bytes) h

all_inside : (n : ℕ) (es : List Elem) → list_all (λ e. is_shaped_elem e n) es ≡ true → all (map (inside n) (map is_shaped_elem es)) ≡ true
all_inside n [] h = refl
all_inside n (e ∷ es) h =
    let k = both (is_shaped_elem e n) (list_all (λ e. is_shaped_elem e n) es) h in
    also (is_shaped_elem e n) (all (map (inside n) (map is_shaped_elem es))) k.0 (all_inside n es k.1)

some_inside : (es : List Elem) → are_some es ≡ true → are_some (map is_shaped_elem es) ≡ true
some_inside [] h = h
some_inside (e ∷ es) h = refl

list_made : (place : Place) (es : List Elem) (n : ℕ) → may_nest (n + 1) ≡ true → (list_all (λ e. is_shaped_elem e (n + 1)) es && are_some es) ≡ true → is_shaped_init (Init.List place es) n ≡ true
list_made place es n b h =
    let k = both (list_all (λ e. is_shaped_elem e (n + 1)) es) (are_some es) h in
    made (Init-F.List place es) (Init.List place es) n (rolls-List place es)
    (also (may_nest (n + 1)) (are_some (map is_shaped_elem es) && all (map (inside (n + 1)) (map is_shaped_elem es))) b (also (are_some (map is_shaped_elem es)) (all (map (inside (n + 1)) (map is_shaped_elem es))) (some_inside es k.1) (all_inside (n + 1) es k.0)))

elem_made : (field : Option FieldName) (i : Init) (n : ℕ) → maybe is_named_field field ≡ true → is_shaped_init i n ≡ true → is_shaped_elem (record { field = field; init = i }) n ≡ true
elem_made field i n f h = ap (λ (g : ℕ → Bool). g n) (fold_out-Elem (ℕ → Bool) (ℕ → Bool) init_shaped elem_shaped (record { field = field; init = i })) ∙ also (maybe is_named_field field) (is_shaped_init i n) f h

-- ---- rules

pub of_constant : (s : Sort) (t : Token) → knows s t.what ≡ true → SoundRuleBy initialising (constant_rule s t) is_shaped_const
of_constant Sort.Minus t m = λ a. λ n h. h
of_constant Sort.Number t m = λ a. m
of_constant Sort.Name t m = λ a. m
of_constant _ t m = tt

one_listed : (n : ℕ) (x : Elem) → is_shaped_elem x n ≡ true → listed (elements n) (x ∷ []) ≡ true
one_listed n x h = also (list_all (λ e. is_shaped_elem e n) (x ∷ [])) true (also (is_shaped_elem x n) true h refl) refl

of_other : (n : ℕ) (s : Sort) (t : Token) → knows s t.what ≡ true → SoundRuleBy initialising (other_initialiser n s t) (λ i. is_shaped_init i n)
of_other n Sort.Null t m = λ a. null_made t.place n
of_other n Sort.And t m = λ a. λ x h. address_made x.place (text_of x.what) n h
of_other n Sort.Text t m = λ a. text_made t.place (text_of t.what) n m
of_other n Sort.OpenBrace t m = λ a. (refl, λ x hx. (one_listed (n + 1) x hx, λ xs hxs. λ c q. list_made t.place xs n a hxs))
of_other n _ t m = tt

of_initialiser : (n : ℕ) (s : Sort) (t : Token) → knows s t.what ≡ true → SoundRuleBy initialising (initialiser_rule n s t) (λ i. is_shaped_init i n)
of_initialiser n s t m = or_by initialising (other_initialiser n s t) _ (λ i. is_shaped_init i n) (of_other n s t m) (and_by initialising (constant_rule s t) _ is_shaped_const (λ i. is_shaped_init i n) (of_constant s t m) (λ c h. constant_made c n h))

of_bare : (n : ℕ) (s : Sort) (t : Token) → knows s t.what ≡ true → SoundRuleBy initialising (bare_element n s t) (λ e. is_shaped_elem e n)
of_bare n s t m = and_by initialising (initialiser_rule n s t) _ (λ i. is_shaped_init i n) (λ e. is_shaped_elem e n) (of_initialiser n s t m) (λ i h. elem_made None i n refl h)

of_element : (n : ℕ) (s : Sort) (t : Token) → knows s t.what ≡ true → SoundRuleBy initialising (element_rule n s t) (λ e. is_shaped_elem e n)
of_element n Sort.Dot t m = λ a. λ x hx. λ e q. (refl, λ i hi. elem_made (Some (record { place = x.place; name = text_of x.what })) i n hx hi)
of_element n s t m = of_bare n s t m

pub of_part : (x : Part) (s : Sort) (t : Token) → fits_part x ≡ true → knows s t.what ≡ true → SoundRuleBy initialising (part_rule x s t) (good_part x)
of_part constant s t f m = of_constant s t m
of_part (initialiser n) s t f m = of_initialiser n s t m
of_part (element n) s t f m = of_element n s t m
of_part _ s t f m = no f

of_commas : (x : Enclosed) (so_far : List (PartValue (enclosed x))) (s : Sort) (t : Token) → listed x so_far ≡ true → SoundRuleBy initialising (rule (commas_open x so_far) s t) (good (commas_open x so_far))
of_commas x so_far Sort.Comma t f = λ a. (f, λ w j. j)
of_commas x so_far _ t f = tt

some_more : {X : Type 0} (xs : List X) (x : X) → are_some (xs ++ (x ∷ [])) ≡ true
some_more [] x = refl
some_more (y ∷ ys) x = refl

of_after : (x : Enclosed) (so_far : List (PartValue (enclosed x))) (s : Sort) (t : Token) → listed x so_far ≡ true → knows s t.what ≡ true → SoundRuleBy initialising (rule (after_comma x so_far) s t) (good (after_comma x so_far))
of_after x so_far s t f m =
    let k = both (fits_part (enclosed x)) (list_all (good_part (enclosed x)) so_far && are_some so_far) f in
    let j = both (list_all (good_part (enclosed x)) so_far) (are_some so_far) k.1 in
    and_by initialising (part_rule (enclosed x) s t) (λ v. form (commas_open x (so_far ++ (v ∷ [])))) (good_part (enclosed x)) (good (after_comma x so_far)) (of_part (enclosed x) s t k.0 m)
    (λ v h. (also (fits_part (enclosed x)) (list_all (good_part (enclosed x)) (so_far ++ (v ∷ [])) && are_some (so_far ++ (v ∷ []))) k.0 (also (list_all (good_part (enclosed x)) (so_far ++ (v ∷ []))) (are_some (so_far ++ (v ∷ []))) (all_more (good_part (enclosed x)) so_far v j.0 h) (some_more so_far v)), λ w i. i))

of_rule : (n : Nonterminal) (s : Sort) (t : Token) → fits n ≡ true → knows s t.what ≡ true → SoundRuleBy initialising (rule n s t) (good n)
of_rule (part x) s t f m = of_part x s t f m
of_rule (commas_open x so_far) s t f m = of_commas x so_far s t f
of_rule (after_comma x so_far) s t f m = of_after x so_far s t f m
of_rule _ s t f m = no f

of_nothing : (n : Nonterminal) → fits n ≡ true → SoundEmpty (empty n) (good n)
of_nothing (part x) f = tt
of_nothing (commas_open x so_far) f = λ a. (both (fits_part (enclosed x)) (list_all (good_part (enclosed x)) so_far && are_some so_far) f).1
of_nothing (after_comma x so_far) f = λ a. (both (fits_part (enclosed x)) (list_all (good_part (enclosed x)) so_far && are_some so_far) f).1
of_nothing _ f = no f

initialising_judge : (halves : Bool) → IsJudge initialising halves
initialising_judge halves = record {
  rules = λ n t f h. of_rule n (sort_of halves t.what) t f (sort_knows halves t.what h);
  nothing = λ n f. of_nothing n f;
  inside = λ s x q h. told_of s (sort_of halves x) x q (sort_knows halves x h);
}

-- what is read as an initialiser inside so many braces is one
pub inits_are_shaped : (halves : Bool) (n : ℕ) (ts rest : List Token) (i : Init) → are_lexed ts ≡ true → Gets halves (part (initialiser n)) ts rest i → is_shaped_init i n ≡ true
inits_are_shaped halves n ts rest i a g = (given_by initialising halves (initialising_judge halves) g refl a).0
