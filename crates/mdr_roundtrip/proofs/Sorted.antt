-- What is known of a token's sort.
use Rattle.std.proofs.Common.{◌≡◌, ℕ, Bool, true, false, List, [], ◌∷◌, refl, sym, subst}
use Rattle.std.specs.List.{list_all}
use Rattle.std.specs.Str.{bytes_eq}
use Rattle.std.proofs.lemmas.Bool.{false≢true}
use Rattle.std.proofs.lemmas.Slice.Eq.{bytes_eq-Decides}
use Rattle.mdr_core.specs.declared.kind.Kind.TheVariants.{U8, U16, U32, U64, S8, S16, S32, S64}
use Rattle.mdr_syntax.specs.declared.token.Lexeme.{Lexeme}
use Rattle.mdr_syntax.specs.declared.token.Lexeme.TheVariants as lexeme
use Rattle.mdr_syntax.specs.Words.{punctuation, is_reserved}
use Rattle.mdr_roundtrip.specs.Words.{is_word, is_written, prefixes, steps}
use Rattle.mdr_roundtrip.proofs.Tests.{both}
use Rattle.mdr_grammar.specs.declared.sort.Sort.{Sort}
use Rattle.mdr_grammar.specs.Sorts.{Word, is, words, marks, sort_in, admitted, unlisted, sort_of}
use Rattle.mdr_grammar.specs.Expressions.{text_of, number_in, kind_in}
use Rattle.mdr_roundtrip.specs.Lexed.{is_lexed}
use Rattle.mdr_roundtrip.proofs.Judged.{meets, told}

-- the sorts that words have
abbrev is_of_words : Sort → Bool
is_of_words Sort.Number = false
is_of_words Sort.Text = false
is_of_words Sort.Define = false
is_of_words Sort.Equals = false
is_of_words Sort.Compound = false
is_of_words Sort.Question = false
is_of_words Sort.OrElse = false
is_of_words Sort.AndThen = false
is_of_words Sort.Or = false
is_of_words Sort.Xor = false
is_of_words Sort.Equality = false
is_of_words Sort.Relation = false
is_of_words Sort.Shift = false
is_of_words Sort.Slash = false
is_of_words Sort.And = false
is_of_words Sort.Plus = false
is_of_words Sort.Minus = false
is_of_words Sort.Star = false
is_of_words Sort.Not = false
is_of_words Sort.Step = false
is_of_words _ = true

pub no : {P : Type 0} → false ≡ true → P
no e = absurd (false≢true e)

word_meets : (s : Sort) (text : List ℕ) → is_of_words s ≡ true → is_word text ≡ true → meets s (lexeme.Word text) ≡ true
word_meets Sort.Name text a w = w
word_meets Sort.Service text a w = w
word_meets Sort.Number text a w = no a
word_meets Sort.Text text a w = no a
word_meets Sort.Define text a w = no a
word_meets Sort.Equals text a w = no a
word_meets Sort.Compound text a w = no a
word_meets Sort.Question text a w = no a
word_meets Sort.OrElse text a w = no a
word_meets Sort.AndThen text a w = no a
word_meets Sort.Or text a w = no a
word_meets Sort.Xor text a w = no a
word_meets Sort.Equality text a w = no a
word_meets Sort.Relation text a w = no a
word_meets Sort.Shift text a w = no a
word_meets Sort.Slash text a w = no a
word_meets Sort.And text a w = no a
word_meets Sort.Plus text a w = no a
word_meets Sort.Minus text a w = no a
word_meets Sort.Star text a w = no a
word_meets Sort.Not text a w = no a
word_meets Sort.Step text a w = no a
word_meets _ text a w = refl

-- what holds of all listed words with their sorts, and of any other text with the other sort
pub listed : (P : Sort → List ℕ → Bool) (ws : List Word) (text : List ℕ) (left : Sort) → list_all (λ w. P w.sort w.text) ws ≡ true → P left text ≡ true → P (sort_in ws text left) text ≡ true
listed P [] text left a h = h
listed P (w ∷ ws) text left a h = on (bytes_eq w.text text) refl (listed P ws text left k.1 h)
  where
    k : (P w.sort w.text ≡ true) × (list_all (λ w. P w.sort w.text) ws ≡ true)
    k = both (P w.sort w.text) (list_all (λ w. P w.sort w.text) ws) a

    on : (b : Bool) → bytes_eq w.text text ≡ b → P (sort_in ws text left) text ≡ true → P (sort_in (w ∷ ws) text left) text ≡ true
    on true e more =
        let here : sort_in (w ∷ ws) text left ≡ w.sort = rw e refl in
        subst (λ s. P s text ≡ true) (sym here) (subst (λ (bs : List ℕ). P w.sort bs ≡ true) ((bytes_eq-Decides w.text text).0 e) k.0)
    on false e more =
        let here : sort_in (w ∷ ws) text left ≡ sort_in ws text left = rw e refl in
        subst (λ s. P s text ≡ true) (sym here) more

words_are : list_all (λ w. is_of_words w.sort) words ≡ true
unfolding words
words_are = refl

abbrev mark_meets : Sort → List ℕ → Bool
mark_meets s text = meets s (lexeme.Punct text)

marks_are : list_all (λ w. mark_meets w.sort w.text) marks ≡ true
unfolding marks punctuation prefixes steps
marks_are = refl

other_word : (text : List ℕ) → is_of_words (unlisted text) ≡ true
other_word text = on (is_reserved text) refl
  where
    on : (b : Bool) → is_reserved text ≡ b → is_of_words (unlisted text) ≡ true
    on true e = rw e refl
    on false e = rw e refl

admitted_too : (halves : Bool) (s : Sort) → is_of_words s ≡ true → is_of_words (admitted halves s) ≡ true
admitted_too halves s a = on (is s Sort.Remote) refl halves refl
  where
    on : (b : Bool) → is s Sort.Remote ≡ b → (c : Bool) → halves ≡ c → is_of_words (admitted halves s) ≡ true
    on true e true q = rw (e, q) refl
    on true e false q = rw (e, q) refl
    on false e c q = rw e a

pub sort_meets : (halves : Bool) (x : Lexeme) → is_lexed x ≡ true → meets (sort_of halves x) x ≡ true
unfolding sort_of
sort_meets halves (lexeme.Word text) h =
    word_meets (admitted halves (sort_in words text (unlisted text))) text
    (admitted_too halves (sort_in words text (unlisted text)) (listed (λ s bs. is_of_words s) words text (unlisted text) words_are (other_word text))) h
sort_meets halves (lexeme.Number n kind) h = h
sort_meets halves (lexeme.Text bytes) h = h
sort_meets halves (lexeme.Punct text) h = listed mark_meets marks text Sort.Other marks_are refl
sort_meets halves (lexeme.Define name negative n kind) h = h
sort_meets halves lexeme.End h = refl

name_of : (s : Sort) (x : Lexeme) → is Sort.Name s ≡ true → meets s x ≡ true → is_word (text_of x) ≡ true
name_of Sort.Name x e m = m
name_of (Sort.Integer U8) x e m = no e
name_of (Sort.Integer U16) x e m = no e
name_of (Sort.Integer U32) x e m = no e
name_of (Sort.Integer U64) x e m = no e
name_of (Sort.Integer S8) x e m = no e
name_of (Sort.Integer S16) x e m = no e
name_of (Sort.Integer S32) x e m = no e
name_of (Sort.Integer S64) x e m = no e
name_of _ x e m = no e

number_of : (s : Sort) (x : Lexeme) → is Sort.Number s ≡ true → meets s x ≡ true → is_written (number_in x) (kind_in x) ≡ true
number_of Sort.Number x e m = m
number_of (Sort.Integer U8) x e m = no e
number_of (Sort.Integer U16) x e m = no e
number_of (Sort.Integer U32) x e m = no e
number_of (Sort.Integer U64) x e m = no e
number_of (Sort.Integer S8) x e m = no e
number_of (Sort.Integer S16) x e m = no e
number_of (Sort.Integer S32) x e m = no e
number_of (Sort.Integer S64) x e m = no e
number_of _ x e m = no e

-- a token of this sort is known by it
pub told_of : (s s' : Sort) (x : Lexeme) → is s s' ≡ true → meets s' x ≡ true → told s x ≡ true
told_of Sort.Name s' x e m = name_of s' x e m
told_of Sort.Number s' x e m = number_of s' x e m
told_of _ s' x e m = refl
