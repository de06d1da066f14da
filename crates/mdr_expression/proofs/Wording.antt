-- Texts behind `KERN_` words.
use Rattle.std.proofs.Common.{◌≡◌, refl, sym, ap, ◌∙◌, ℕ, Bool, true, false, List, [], ◌∷◌, length, Some, Ok, Err}
use Rattle.mdr_core.specs.declared.kind.Kind.{Kind}
use Rattle.mdr_core.specs.declared.kind.Kind.TheVariants.{U8, U16, U32, U64, S8, S16, S32, S64}
use Rattle.mdr_syntax.specs.declared.token.Token.{Token}
use Rattle.mdr_syntax.specs.declared.tree.Form.{Form}
use Rattle.mdr_grammar.specs.declared.sort.Sort.{Sort}
use Rattle.mdr_grammar.specs.Sorts.{is, sort_of, is_level}
use Rattle.mdr_grammar.specs.Forms.{Right}
use Rattle.mdr_grammar.specs.Forms.Nonterminal.{text_behind, text_after}
use Rattle.mdr_grammar.specs.Forms.Rule.{given}
use Rattle.mdr_grammar.specs.Grammar.{rule}
use Rattle.mdr_grammar.specs.Expressions.{text_of, text_form, text_after_rule, word_argument, kept}
use Rattle.mdr_grammar.specs.Front.{Read, and_read, found, word_at, begun_at, first as first_read, front}
use Rattle.mdr_expression.specs.Tails.{last_text, text_or_none, text_or_kept}
use Rattle.mdr_grammar.proofs.Hungry.{opens}
use Rattle.mdr_grammar.proofs.Cuts.{word_is}
use Rattle.mdr_grammar.proofs.Fronts.{first_of, first_none}
use Rattle.mdr_reader.proofs.Arms.{goes, refused, none, past, not_word, read_again}
use Rattle.mdr_reader.proofs.Through.{and_and}

-- a further `KERN_` word
pub more_levels : (halves : Bool) (ts rest : List Token) (t : Token) → word_at halves Sort.Name ts ≡ Ok (t, rest) → is_level (text_of t.what) ≡ true → first_read halves text_after ts ≡ first_read halves text_after rest
more_levels halves ts rest t e h = past halves text_after Sort.Name ts e h refl ∙ read_again (first_read halves text_after rest)

by_sort : (halves : Bool) (s : Sort) (t : Token) (ts : List Token) → (s ≡ Sort.Name → is_level (text_of t.what) ≡ false) → begun_at (text_after_rule s t) (λ r. front halves r ts) (Err (length (t ∷ ts))) ≡ and_read (found (is Sort.Text s) t ts) (λ t rest. Ok (text_form t, rest))
by_sort halves Sort.Text t ts h = refl
by_sort halves Sort.Name t ts h = by_test (is_level (text_of t.what)) _ (h refl)
  where
    by_test : (b : Bool) (r : Right Form) → b ≡ false → begun_at (given b r) (λ r. front halves r ts) (Err (length (t ∷ ts))) ≡ Err (length (t ∷ ts))
    by_test true r e = let q : true ≡ false = e in absurd (Prim.cc)
    by_test false r e = refl
by_sort halves (Sort.Integer k) t ts h = by_kind k
  where
    by_kind : (k : Kind) → ◌≡◌ {A = Read Form} (Err (length (t ∷ ts))) (and_read (found (is Sort.Text (Sort.Integer k)) t ts) (λ t rest. Ok (text_form t, rest)))
    by_kind U8 = refl
    by_kind U16 = refl
    by_kind U32 = refl
    by_kind U64 = refl
    by_kind S8 = refl
    by_kind S16 = refl
    by_kind S32 = refl
    by_kind S64 = refl
by_sort halves _ t ts h = refl

ends : (halves : Bool) (t : Token) (ts : List Token) → (sort_of halves t.what ≡ Sort.Name → is_level (text_of t.what) ≡ false) → first_read halves text_after (t ∷ ts) ≡ front halves last_text (t ∷ ts)
unfolding word_at
ends halves t ts h = first_of halves text_after t ts ∙ by_sort halves (sort_of halves t.what) t ts h

ends_empty : (halves : Bool) → first_read halves text_after [] ≡ front halves last_text []
unfolding word_at
ends_empty halves = first_none halves text_after

-- no further `KERN_` word
pub no_level : (halves : Bool) (ts : List Token) → word_at halves Sort.Name ts ≡ Err (length ts) → first_read halves text_after ts ≡ front halves last_text ts
no_level halves [] e = ends_empty halves
no_level halves (t ∷ ts) e = ends halves t ts (λ q. let z : is Sort.Name (sort_of halves t.what) ≡ false = not_word halves Sort.Name t ts e in let y : true ≡ false = ap (λ s. is Sort.Name s) (sym q) ∙ z in absurd (Prim.cc))

pub other_name : (halves : Bool) (ts rest : List Token) (t : Token) → word_at halves Sort.Name ts ≡ Ok (t, rest) → is_level (text_of t.what) ≡ false → first_read halves text_after ts ≡ front halves last_text ts
other_name halves ts rest t e h = let w = word_is halves Sort.Name ts rest t e in ap (λ us. first_read halves text_after us) w.0 ∙ ends halves t rest (λ q. h) ∙ ap (λ us. front halves last_text us) (sym w.0)

-- whether a text begins
pub text_first : (halves : Bool) {ts rest : List Token} {t : Token} {s : Sort} → (ts ≡ t ∷ rest) × (s ≡ sort_of halves t.what) → s ≡ Sort.Text → first_read halves text_behind ts ≡ text_or_none true halves ts
text_first halves at e = goes halves text_behind Sort.Text at e refl refl ∙ sym (ap (λ o. and_read o (λ f rest. Ok (Some f, rest))) (goes halves text_after Sort.Text at e refl refl))

pub name_first : (halves : Bool) {ts rest : List Token} {t : Token} {s : Sort} (b : Bool) → (ts ≡ t ∷ rest) × (s ≡ sort_of halves t.what) → s ≡ Sort.Name → is_level (text_of t.what) ≡ b → first_read halves text_behind ts ≡ text_or_none b halves ts
name_first halves {rest = rest} true at e h = goes halves text_behind Sort.Name at e h refl ∙ sym (ap (λ o. and_read o (λ f rest. Ok (Some f, rest))) (goes halves text_after Sort.Name at e h refl ∙ read_again (first_read halves text_after rest)))
name_first halves false at e h = refused halves text_behind Sort.Name at e h refl

no_text : (s : Sort) (t : Token) → (s ≡ Sort.Text → ⊥) → (s ≡ Sort.Name → ⊥) → opens (rule text_behind s t) ≡ false
no_text Sort.Text t a b = absurd (a refl)
no_text Sort.Name t a b = absurd (b refl)
no_text _ t a b = refl

pub other_first : (halves : Bool) {ts rest : List Token} {t : Token} {s : Sort} → (ts ≡ t ∷ rest) × (s ≡ sort_of halves t.what) → (s ≡ Sort.Text → ⊥) → (s ≡ Sort.Name → ⊥) → first_read halves text_behind ts ≡ text_or_none false halves ts
other_first halves at a b = none halves text_behind at (no_text _ _ a b)

-- what a word is
dropped_by : (halves : Bool) (l d : ℕ) (t : Token) (ts : List Token) (b : Bool) → first_read halves text_behind ts ≡ text_or_none b halves ts → front halves (word_argument true l d t) ts ≡ text_or_kept b halves l d t ts
dropped_by halves l d t ts true e = ap (λ o. and_read o (λ o rest. front halves (kept l d t o) rest)) e ∙ and_and (first_read halves text_after ts) (λ f rest. Ok (Some f, rest)) (λ o rest. front halves (kept l d t o) rest) ∙ read_again (first_read halves text_after ts)
dropped_by halves l d t ts false e = ap (λ o. and_read o (λ o rest. front halves (kept l d t o) rest)) e

pub level_word : (halves : Bool) (l d : ℕ) (t : Token) (ts : List Token) (b : Bool) → is_level (text_of t.what) ≡ true → first_read halves text_behind ts ≡ text_or_none b halves ts → front halves (word_argument (is_level (text_of t.what)) l d t) ts ≡ text_or_kept b halves l d t ts
level_word halves l d t ts b h e = ap (λ x. front halves (word_argument x l d t) ts) h ∙ dropped_by halves l d t ts b e

pub other_word : (halves : Bool) (l d : ℕ) (t : Token) (ts : List Token) → is_level (text_of t.what) ≡ false → front halves (word_argument (is_level (text_of t.what)) l d t) ts ≡ text_or_kept false halves l d t ts
other_word halves l d t ts h = ap (λ x. front halves (word_argument x l d t) ts) h
