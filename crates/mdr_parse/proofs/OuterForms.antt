-- What a type begins outside functions, and what items begin with.
use Rattle.std.proofs.Common.{◌≡◌, refl, sym, subst, ap, ◌∙◌, ◌+◌, ℕ, Bool, true, false, List, [], ◌∷◌, ◌++◌, append_assoc, length, Option, Some, Result, Ok, Err}
use Rattle.mdr_core.specs.declared.place.Place.{Place}
use Rattle.mdr_syntax.specs.declared.token.Token.{Token}
use Rattle.mdr_syntax.specs.declared.tree.Head.{Head}
use Rattle.mdr_syntax.specs.declared.tree.Item.{Item}
use Rattle.mdr_syntax.specs.declared.tree.ItemWhat.TheVariants as item_is
use Rattle.mdr_reader.specs.declared.failure.Failure.{Failure}
use Rattle.mdr_grammar.specs.declared.sort.Sort.{Sort}
use Rattle.mdr_grammar.specs.Sorts.{is, sort_of}
use Rattle.mdr_grammar.specs.declared.parts.Specifier.{Specifier}
use Rattle.mdr_grammar.specs.Forms.{Right, ◌>>=◌, take, form, Rule, and_then}
use Rattle.mdr_grammar.specs.Forms.Part.{base, item}
use Rattle.mdr_grammar.specs.Forms.Repeated.{field_groups}
use Rattle.mdr_grammar.specs.Forms.Nonterminal.{part, many, stars, outer, remote, critical, function, function_end, fields, qualified}
use Rattle.mdr_grammar.specs.Forms.Right.{gives, takes}
use Rattle.mdr_grammar.specs.Forms.Empty.{cannot}
use Rattle.mdr_grammar.specs.Expressions.{text_of}
use Rattle.mdr_grammar.specs.Declarations.{declarator_rule}
use Rattle.mdr_grammar.specs.Statements.{joined, item_at, are_named, function_with, function_head, function_there, function_end_rule, named_global, more_globals, globals_with, outer_rule, remote_rule, critical_rule, qualified_rule, item_rule, struct_or_outer}
use Rattle.mdr_parse.specs.Outside.{global_named, named_in, unqualified_rule, field_lists, struct_end, struct_specifier, struct_behind}
use Rattle.mdr_grammar.specs.Grammar.{rule, part_rule}
use Rattle.mdr_grammar.specs.Front.{and_read, word_at, begun_at, first as first_read, front}
use Rattle.mdr_reader.specs.Gives.{Gives, read_by, after_stars}
use Rattle.mdr_grammar.proofs.Hungry.{opens}
use Rattle.mdr_grammar.proofs.Fronts.{first_of}
use Rattle.mdr_reader.proofs.Arms.{arm, refused, past, not_past, read_again}
use Rattle.mdr_reader.proofs.Through.{and_same}
use Rattle.mdr_declaration.proofs.Alike.{alike}
use Rattle.mdr_reader.proofs.Going.{front_bind, first_from, read_then}
use Rattle.mdr_declaration.proofs.BehindStars.{through_stars}

-- ---- one behind the other

pub bound : {X A B : Type 0} (halves : Bool) (r : Right A) (k : A → Right B) (value : X → B) (behind : X → List Token) (result : Result X Failure) (ts : List Token) → Gives value behind result (and_read (front halves r ts) (λ v us. front halves (k v) us)) → Gives value behind result (front halves (r >>= k) ts)
bound halves r k value behind result ts g = subst (λ o. Gives value behind result o) (sym (front_bind halves r k ts)) g

pub behind_word : {X B : Type 0} (halves : Bool) (s : Sort) (f : Token → Right B) (value : X → B) (behind : X → List Token) (result : Result X Failure) (ts : List Token) {t : Token} {rest : List Token} → word_at halves s ts ≡ Ok (t, rest) → Gives value behind result (front halves (f t) rest) → Gives value behind result (front halves (takes s f) ts)
behind_word halves s f value behind result ts e g = subst (λ o. Gives value behind result o) (sym (ap (λ o. and_read o (λ t us. front halves (f t) us)) e)) g

-- ---- stars

pub outer_stars : (halves : Bool) (p : Place) (b : Specifier) (ts : List Token) {k : ℕ} {rest : List Token} → first_read halves (stars 0) ts ≡ Ok (k, rest) → first_read halves (outer p b 0) ts ≡ read_by halves (after_stars (outer_rule p b k)) rest
outer_stars halves p b ts e = through_stars halves (λ k us. first_read halves (outer p b k) us) (λ k. cannot) (λ k. outer_rule p b k) (λ k. form (outer p b (k + 1))) (λ k us. first_from halves (outer p b k) us) (λ k t. refl) (λ k us. read_again _) 0 ts ∙ ap (λ o. and_read o (λ n us. read_by halves (after_stars (outer_rule p b n)) us)) e

pub remote_stars : (halves : Bool) (p : Place) (b : Specifier) (ts : List Token) {k : ℕ} {rest : List Token} → first_read halves (stars 0) ts ≡ Ok (k, rest) → first_read halves (remote p b 0) ts ≡ read_by halves (after_stars (remote_rule p b k)) rest
remote_stars halves p b ts e = through_stars halves (λ k us. first_read halves (remote p b k) us) (λ k. cannot) (λ k. remote_rule p b k) (λ k. form (remote p b (k + 1))) (λ k us. first_from halves (remote p b k) us) (λ k t. refl) (λ k us. read_again _) 0 ts ∙ ap (λ o. and_read o (λ n us. read_by halves (after_stars (remote_rule p b n)) us)) e

pub critical_stars : (halves : Bool) (p : Place) (b : Specifier) (ts : List Token) {k : ℕ} {rest : List Token} → first_read halves (stars 0) ts ≡ Ok (k, rest) → first_read halves (critical p b 0) ts ≡ read_by halves (after_stars (critical_rule p b k)) rest
critical_stars halves p b ts e = through_stars halves (λ k us. first_read halves (critical p b k) us) (λ k. cannot) (λ k. critical_rule p b k) (λ k. form (critical p b (k + 1))) (λ k us. first_from halves (critical p b k) us) (λ k t. refl) (λ k us. read_again _) 0 ts ∙ ap (λ o. and_read o (λ n us. read_by halves (after_stars (critical_rule p b n)) us)) e

-- ---- behind a type

unnamed_outer : (p : Place) (b : Specifier) (k : ℕ) (s : Sort) (t : Token) → (s ≡ Sort.Name → ⊥) → after_stars (outer_rule p b k) s t ≡ and_then (after_stars (declarator_rule 0 b k) s t) (λ d. globals_with p b d)
unnamed_outer p b k Sort.Name t a = absurd (a refl)
unnamed_outer p b k Sort.Star t a = refl
unnamed_outer p b k _ t a = refl

pub other_outer : (halves : Bool) (p : Place) (b : Specifier) (k : ℕ) {ts rest : List Token} {t : Token} {s : Sort} → (ts ≡ t ∷ rest) × (s ≡ sort_of halves t.what) → (s ≡ Sort.Name → ⊥) → read_by halves (after_stars (outer_rule p b k)) ts ≡ and_read (read_by halves (after_stars (declarator_rule 0 b k)) ts) (λ d us. front halves (globals_with p b d) us)
other_outer halves p b k {t = t} {s = s} e a = read_then halves (after_stars (declarator_rule 0 b k)) (after_stars (outer_rule p b k)) (λ d. globals_with p b d) e (unnamed_outer p b k s t a)

no_function : (p : Place) (b : Specifier) (k : ℕ) (n : Token) (s : Sort) (t : Token) → is Sort.Open s ≡ false → opens (rule (function p b k n) s t) ≡ false
no_function p b k n Sort.Open t e = let q : true ≡ false = e in absurd (Prim.cc)
no_function p b k n _ t e = refl

pub function_named : (halves : Bool) (p : Place) (b : Specifier) (k : ℕ) (n : Token) (ts : List Token) {t : Token} {rest : List Token} → word_at halves Sort.Open ts ≡ Ok (t, rest) → front halves (named_in p b k n) ts ≡ and_read (front halves (function_head false b k n) rest) (λ h us. first_read halves (function_end p h) us)
function_named halves p b k n ts {rest = rest} e = ap (λ o. and_read o (λ o us. front halves (named_global p b k n o) us)) (past halves (function p b k n) Sort.Open ts e refl refl) ∙ sym (front_bind halves (function_there p b k n) (λ o. named_global p b k n o) rest) ∙ front_bind halves (function_head false b k n) (λ h. form (function_end p h)) rest ∙ and_same (front halves (function_head false b k n) rest) _ _ (λ h us. read_again (first_read halves (function_end p h) us))

pub globals_named : (halves : Bool) (p : Place) (b : Specifier) (k : ℕ) (n : Token) (ts : List Token) → word_at halves Sort.Open ts ≡ Err (length ts) → front halves (named_in p b k n) ts ≡ and_read (front halves (global_named p b k n) ts) (λ g us. front halves (more_globals p b g) us)
globals_named halves p b k n ts e = ap (λ o. and_read o (λ o us. front halves (named_global p b k n o) us)) (not_past halves (function p b k n) Sort.Open ts e (no_function p b k n)) ∙ front_bind halves (global_named p b k n) (λ g. more_globals p b g) ts

pub no_end : (p : Place) (h : Head) (s : Sort) (t : Token) → (s ≡ Sort.Semicolon → ⊥) → (s ≡ Sort.OpenBrace → ⊥) → opens (function_end_rule p h s t) ≡ false
no_end p h Sort.Semicolon t a c = absurd (a refl)
no_end p h Sort.OpenBrace t a c = absurd (c refl)
no_end p h _ t a c = refl

-- a body, where all parameters have names
pub body_named : {X : Type 0} (halves : Bool) (p : Place) (h : Head) (value : X → List Item) (behind : X → List Token) (result : Result X Failure) {ts rest : List Token} {t : Token} {s : Sort} → (ts ≡ t ∷ rest) × (s ≡ sort_of halves t.what) → s ≡ Sort.OpenBrace → are_named h.params ≡ true → Gives value behind result (front halves (function_with p h false) rest) → Gives value behind result (first_read halves (function_end p h) ts)
body_named halves p h value behind result e g q x = arm halves (function_end p h) value behind result Sort.OpenBrace e g q refl x

pub body_unnamed : (halves : Bool) (p : Place) (h : Head) {ts rest : List Token} {t : Token} {s : Sort} → (ts ≡ t ∷ rest) × (s ≡ sort_of halves t.what) → s ≡ Sort.OpenBrace → are_named h.params ≡ false → first_read halves (function_end p h) ts ≡ Err (length ts)
body_unnamed halves p h e g q = refused halves (function_end p h) Sort.OpenBrace e g q refl

-- ---- structs

no_fields : (p : Place) (n : Token) (s : Sort) (t : Token) → is Sort.OpenBrace s ≡ false → opens (rule (fields p n) s t) ≡ false
no_fields p n Sort.OpenBrace t e = let q : true ≡ false = e in absurd (Prim.cc)
no_fields p n _ t e = refl

abbrev pub fields_there : Place → Token → Right (Option (List Item))
fields_there p n = do
  groups ← form (many true field_groups [])
  close ← take Sort.CloseBrace
  end ← take Sort.Semicolon
  gives (Some (item_at p (item_is.Struct n.place (text_of n.what) (joined groups))))

pub struct_fields : (halves : Bool) (w n : Token) (ts : List Token) {t : Token} {rest : List Token} → word_at halves Sort.OpenBrace ts ≡ Ok (t, rest) → front halves (struct_behind w n) ts ≡ and_read (front halves field_lists rest) (λ fs us. front halves (struct_end w.place n fs) us)
struct_fields halves w n ts {rest = rest} e = ap (λ o. and_read o (λ o us. front halves (struct_or_outer w n o) us)) (past halves (fields w.place n) Sort.OpenBrace ts e refl refl) ∙ sym (front_bind halves (fields_there w.place n) (λ o. struct_or_outer w n o) rest) ∙ front_bind halves field_lists (λ fs. struct_end w.place n fs) rest

pub struct_alone : (halves : Bool) (w n : Token) (ts : List Token) → word_at halves Sort.OpenBrace ts ≡ Err (length ts) → front halves (struct_behind w n) ts ≡ first_read halves (outer w.place (struct_specifier w n) 0) ts
struct_alone halves w n ts e = ap (λ o. and_read o (λ o us. front halves (struct_or_outer w n o) us)) (not_past halves (fields w.place n) Sort.OpenBrace ts e (no_fields w.place n)) ∙ read_again (first_read halves (outer w.place (struct_specifier w n) 0) ts)

-- ---- prefixes

unqualified : (p : Place) (s : Sort) (t : Token) → is Sort.Qualifier s ≡ false → qualified_rule p s t ≡ unqualified_rule p s t
unqualified p Sort.Qualifier t e = let q : true ≡ false = e in absurd (Prim.cc)
unqualified p _ t e = refl

pub only_unqualified : (halves : Bool) (p : Place) (ts : List Token) → word_at halves Sort.Qualifier ts ≡ Err (length ts) → first_read halves (qualified p) ts ≡ read_by halves (unqualified_rule p) ts
only_unqualified halves p ts e = first_from halves (qualified p) ts ∙ alike halves (qualified_rule p) (unqualified_rule p) Sort.Qualifier ts e (unqualified p)

pub typed : (p : Place) (s : Sort) (t : Token) → (s ≡ Sort.Remote → ⊥) → (s ≡ Sort.Critical → ⊥) → unqualified_rule p s t ≡ and_then (part_rule base s t) (λ b. form (outer p b 0))
typed p Sort.Remote t a c = absurd (a refl)
typed p Sort.Critical t a c = absurd (c refl)
typed p Sort.Qualifier t a c = refl
typed p _ t a c = refl

others : (s : Sort) (t : Token) → (s ≡ Sort.Define → ⊥) → (s ≡ Sort.Enum → ⊥) → (s ≡ Sort.Struct → ⊥) → item_rule s t ≡ qualified_rule t.place s t
others Sort.Define t a c d = absurd (a refl)
others Sort.Enum t a c d = absurd (c refl)
others Sort.Struct t a c d = absurd (d refl)
others _ t a c d = refl

pub only_qualified : (halves : Bool) {ts rest : List Token} {t : Token} {s : Sort} → (ts ≡ t ∷ rest) × (s ≡ sort_of halves t.what) → (s ≡ Sort.Define → ⊥) → (s ≡ Sort.Enum → ⊥) → (s ≡ Sort.Struct → ⊥) → first_read halves (part item) ts ≡ first_read halves (qualified t.place) ts
only_qualified halves {rest = rest} {t = t} {s = s} e a c d = ap (λ us. first_read halves (part item) us) e.0 ∙ first_of halves (part item) t rest ∙ ap (λ x. begun_at (item_rule x t) (λ r. front halves r rest) (Err (length (t ∷ rest)))) (sym e.1) ∙ ap (λ (o : Rule (List Item)). begun_at o (λ r. front halves r rest) (Err (length (t ∷ rest)))) (others s t a c d) ∙ ap (λ x. begun_at (qualified_rule t.place x t) (λ r. front halves r rest) (Err (length (t ∷ rest)))) e.1 ∙ sym (first_of halves (qualified t.place) t rest) ∙ ap (λ us. first_read halves (qualified t.place) us) (sym e.0)

-- ---- lists of lists

append_none : {A : Type 0} (xs : List A) → xs ++ [] ≡ xs
append_none [] = refl
append_none (x ∷ xs) = ap (λ l. x ∷ l) (append_none xs)

pub lists_more : {A : Type 0} (ls : List (List A)) (xs : List A) → joined (ls ++ (xs ∷ [])) ≡ joined ls ++ xs
lists_more [] xs = append_none xs
lists_more (l ∷ ls) xs = ap (λ x. l ++ x) (lists_more ls xs) ∙ sym (append_assoc l (joined ls) xs)
