-- Statements, by their first token and by what is allowed.
use Rattle.std.proofs.lemmas.List.{append-nil}
use Rattle.std.proofs.Common.{◌≡◌, refl, sym, subst, ap, ◌∙◌, ◌+◌, ℕ, Bool, true, false, List, [], ◌∷◌, ◌++◌, append_assoc, length, Option, None, Result, Ok, Err}
use Rattle.mdr_syntax.specs.declared.token.Token.{Token}
use Rattle.mdr_reader.specs.declared.failure.Failure.{Failure}
use Rattle.mdr_grammar.specs.declared.sort.Sort.{Sort}
use Rattle.mdr_grammar.specs.Sorts.{is, sort_of}
use Rattle.mdr_syntax.specs.declared.tree.Node.{Node}
use Rattle.mdr_grammar.specs.declared.parts.Ended.{Ended}
use Rattle.mdr_grammar.specs.Forms.{Part, PartValue, Right, Rule, and_then, where_allowed}
use Rattle.mdr_grammar.specs.Forms.Part.{statement, body, block_item, opening, simple, right_side, right, expression}
use Rattle.mdr_grammar.specs.Forms.Repeated.{block_items}
use Rattle.mdr_grammar.specs.Forms.Nonterminal.{part, option, many, otherwise}
use Rattle.mdr_grammar.specs.Forms.Right.{gives}
use Rattle.mdr_grammar.specs.Forms.Rule.{never, given}
use Rattle.mdr_grammar.specs.Grammar.{rule, part_rule}
use Rattle.mdr_grammar.specs.Expressions.{is_level_free}
use Rattle.mdr_grammar.specs.Statements.{joined, items_in, nested_in, semicolon_behind, statement_rule, deeper_rule, simple_end, simple_rule, single_rule, opening_simple_rule, locals_rule}
use Rattle.mdr_grammar.specs.Front.{Read, and_read, word_at, begun_at, first, front}
use Rattle.mdr_reader.specs.Gives.{Gives, read_by}
use Rattle.mdr_grammar.proofs.Hungry.{opens}
use Rattle.mdr_reader.proofs.Arms.{not_word}
use Rattle.mdr_grammar.proofs.Fronts.{first_of, first_none}
use Rattle.mdr_reader.proofs.Going.{first_by, read_always, read_or, or_read, no_option, no_many}
use Rattle.mdr_declaration.proofs.Alike.{alike}
use Rattle.mdr_declaration.proofs.Voids.{allowed}

-- ---- what is allowed

pub option_allowed : {X : Type 0} (halves b : Bool) (x : Part) (value : X → Option (PartValue x)) (behind : X → List Token) (result : Result X Failure) (ts : List Token) → b ≡ true → Gives value behind result (first halves (option true x) ts) → Gives value behind result (first halves (option b x) ts)
option_allowed halves b x value behind result ts e g = subst (λ a. Gives value behind result (first halves (option a x) ts)) (sym e) g

pub option_forbidden : (halves b : Bool) (x : Part) (ts : List Token) → b ≡ false → first halves (option b x) ts ≡ Ok (None, ts)
option_forbidden halves b x ts e = ap (λ a. first halves (option a x) ts) e ∙ no_option halves x ts

pub nested_allowed : {X : Type 0} (halves : Bool) (l : ℕ) (value : X → List Node) (behind : X → List Token) (result : Result X Failure) (ts : List Token) → is_level_free (l + 1) ≡ true → Gives value behind result (front halves (items_in (l + 1)) ts) → Gives value behind result (front halves (nested_in l) ts)
nested_allowed halves l value behind result ts e g = subst (λ a. Gives value behind result (and_read (first halves (many a (block_items (l + 1)) []) ts) (λ ns us. Ok (joined ns, us)))) (sym e) g

pub nested_forbidden : (halves : Bool) (l : ℕ) (ts : List Token) → is_level_free (l + 1) ≡ false → front halves (nested_in l) ts ≡ Ok ([], ts)
nested_forbidden halves l ts e = ap (λ a. and_read (first halves (many a (block_items (l + 1)) []) ts) (λ ns us. Ok (joined ns, us))) e ∙ ap (λ o. and_read o (λ ns us. Ok (joined ns, us))) (no_many halves (block_items (l + 1)) [] ts)

not_allowed : {A : Type 0} (b : Bool) (r : Right A) (f : Right A → Read A) (other : Read A) → b ≡ false → begun_at (given b r) f other ≡ other
not_allowed true r f other e = let q : true ≡ false = e in absurd (Prim.cc)
not_allowed false r f other e = refl

not_where : {A : Type 0} (b : Bool) (r : Rule A) (f : Right A → Read A) (other : Read A) → b ≡ false → begun_at (where_allowed b r) f other ≡ other
not_where true r f other e = let q : true ≡ false = e in absurd (Prim.cc)
not_where false never f other e = refl
not_where false (given c x) f other e = refl

pub forbidden_by : {A : Type 0} (halves b : Bool) (q y : Sort → Token → Rule A) (ts : List Token) → b ≡ false → ((s : Sort) (t : Token) → q s t ≡ where_allowed b (y s t)) → read_by halves q ts ≡ Err (length ts)
forbidden_by halves b q y [] e h = refl
forbidden_by {A = A} halves b q y (t ∷ ts) e h = ap (λ (o : Rule A). begun_at o (λ x. front halves x ts) (Err (length (t ∷ ts)))) (h (sort_of halves t.what) t) ∙ not_where b (y (sort_of halves t.what) t) _ _ e

-- ---- statements that have parts

deeper_only : (l : ℕ) (s : Sort) (t : Token) → (s ≡ Sort.Semicolon → ⊥) → (s ≡ Sort.OpenBrace → ⊥) → (s ≡ Sort.Break → ⊥) → (s ≡ Sort.Continue → ⊥) → (s ≡ Sort.Return → ⊥) → statement_rule l s t ≡ deeper_rule l s t
deeper_only l Sort.Semicolon t a b c d e = absurd (a refl)
deeper_only l Sort.OpenBrace t a b c d e = absurd (b refl)
deeper_only l Sort.Break t a b c d e = absurd (c refl)
deeper_only l Sort.Continue t a b c d e = absurd (d refl)
deeper_only l Sort.Return t a b c d e = absurd (e refl)
deeper_only l _ t a b c d e = refl

pub deeper_is : (halves : Bool) (l : ℕ) {ts rest : List Token} {t : Token} {s : Sort} → (ts ≡ t ∷ rest) × (s ≡ sort_of halves t.what) → (s ≡ Sort.Semicolon → ⊥) → (s ≡ Sort.OpenBrace → ⊥) → (s ≡ Sort.Break → ⊥) → (s ≡ Sort.Continue → ⊥) → (s ≡ Sort.Return → ⊥) → read_by halves (statement_rule l) ts ≡ read_by halves (deeper_rule l) ts
deeper_is halves l {rest = rest} {t = t} {s = s} w a b c d e = ap (λ us. read_by halves (statement_rule l) us) w.0 ∙ ap (λ x. begun_at (statement_rule l x t) (λ r. front halves r rest) (Err (length (t ∷ rest)))) (sym w.1) ∙ ap (λ (o : Rule Ended). begun_at o (λ r. front halves r rest) (Err (length (t ∷ rest)))) (deeper_only l s t a b c d e) ∙ ap (λ x. begun_at (deeper_rule l x t) (λ r. front halves r rest) (Err (length (t ∷ rest)))) w.1 ∙ ap (λ us. read_by halves (deeper_rule l) us) (sym w.0)

refused_deeper : (l : ℕ) (s : Sort) (t : Token) (f : Right Ended → Read Ended) (other : Read Ended) → is_level_free (l + 1) ≡ false → begun_at (deeper_rule l s t) f other ≡ other
refused_deeper l Sort.If t f other e = not_allowed _ _ f other e
refused_deeper l Sort.While t f other e = not_allowed _ _ f other e
refused_deeper l Sort.For t f other e = not_allowed _ _ f other e
refused_deeper l Sort.Do t f other e = not_allowed _ _ f other e
refused_deeper l Sort.Switch t f other e = not_allowed _ _ f other e
refused_deeper l s t f other e = not_where (is_level_free (l + 1)) (and_then (simple_rule l 0 s t) (λ n. simple_end n)) f other e

pub deeper_refused : (halves : Bool) (l : ℕ) (ts : List Token) → is_level_free (l + 1) ≡ false → read_by halves (deeper_rule l) ts ≡ Err (length ts)
deeper_refused halves l [] e = refl
deeper_refused halves l (t ∷ ts) e = refused_deeper l (sort_of halves t.what) t _ _ e

pub deeper_simple : (l : ℕ) (s : Sort) (t : Token) → is_level_free (l + 1) ≡ true → (s ≡ Sort.If → ⊥) → (s ≡ Sort.While → ⊥) → (s ≡ Sort.For → ⊥) → (s ≡ Sort.Do → ⊥) → (s ≡ Sort.Switch → ⊥) → deeper_rule l s t ≡ and_then (part_rule (simple l 0) s t) (λ n. simple_end n)
deeper_simple l Sort.If t f a b c d e = absurd (a refl)
deeper_simple l Sort.While t f a b c d e = absurd (b refl)
deeper_simple l Sort.For t f a b c d e = absurd (c refl)
deeper_simple l Sort.Do t f a b c d e = absurd (d refl)
deeper_simple l Sort.Switch t f a b c d e = absurd (e refl)
deeper_simple l _ t f a b c d e = allowed _ _ f

-- ---- bodies and branches

unbraced : (l : ℕ) (s : Sort) (t : Token) → is Sort.OpenBrace s ≡ false → part_rule (body l) s t ≡ single_rule t.place l s t
unbraced l Sort.OpenBrace t e = let q : true ≡ false = e in absurd (Prim.cc)
unbraced l _ t e = refl

pub only_single : (halves : Bool) (l : ℕ) {ts rest : List Token} {t : Token} {s : Sort} → (ts ≡ t ∷ rest) × (s ≡ sort_of halves t.what) → word_at halves Sort.OpenBrace ts ≡ Err (length ts) → first halves (part (body l)) ts ≡ read_by halves (single_rule t.place l) ts
only_single halves l {rest = rest} {t = t} w e = first_by halves (body l) _ ∙ ap (λ us. read_by halves (part_rule (body l)) us) w.0 ∙ ap (λ (o : Rule Ended). begun_at o (λ x. front halves x rest) (Err (length (t ∷ rest)))) (unbraced l (sort_of halves t.what) t (not_word halves Sort.OpenBrace t rest (subst (λ us. word_at halves Sort.OpenBrace us ≡ Err (length us)) w.0 e))) ∙ ap (λ us. read_by halves (single_rule t.place l) us) (sym w.0)

pub other_forbidden : (halves c : Bool) (l : ℕ) (ts : List Token) → c ≡ false → first halves (otherwise l c) ts ≡ Ok (None, ts)
other_forbidden halves c l ts e = ap (λ b. first halves (otherwise l b) ts) e ∙ at ts
  where
    by_sort : (s : Sort) (t : Token) (us : List Token) → begun_at (rule (otherwise l false) s t) (λ r. front halves r us) (Ok (None, t ∷ us)) ≡ Ok (None, t ∷ us)
    by_sort Sort.Else t us = refl
    by_sort _ t us = refl

    at : (us : List Token) → first halves (otherwise l false) us ≡ Ok (None, us)
    at [] = first_none halves (otherwise l false)
    at (t ∷ us) = first_of halves (otherwise l false) t us ∙ by_sort (sort_of halves t.what) t us

pub no_else : (l : ℕ) (c : Bool) (s : Sort) (t : Token) → is Sort.Else s ≡ false → opens (rule (otherwise l c) s t) ≡ false
no_else l c Sort.Else t e = let q : true ≡ false = e in absurd (Prim.cc)
no_else l c _ t e = refl

-- ---- declarations or statements

pub item_is : (halves : Bool) (l : ℕ) (ts : List Token) → first halves (part (block_item l)) ts ≡ or_read (and_read (read_by halves (locals_rule l 0) ts) (λ ns us. front halves (semicolon_behind ns) us)) (length ts) (and_read (first halves (part (statement l)) ts) (λ s us. Ok (s.node ∷ [], us)))
item_is halves l ts = first_by halves (block_item l) ts ∙ read_or halves (λ s t. and_then (locals_rule l 0 s t) (λ ns. semicolon_behind ns)) (λ s t. and_then (statement_rule l s t) (λ s. gives (s.node ∷ []))) (part_rule (block_item l)) ts (λ s t. refl) (λ t. refl) ∙ ap (λ o. or_read o (length ts) (read_by halves (λ s t. and_then (statement_rule l s t) (λ s. gives (s.node ∷ []))) ts)) (read_always halves (locals_rule l 0) (λ s t. and_then (locals_rule l 0 s t) (λ ns. semicolon_behind ns)) (λ ns. semicolon_behind ns) ts (λ s t. refl)) ∙ ap (λ o. or_read (and_read (read_by halves (locals_rule l 0) ts) (λ ns us. front halves (semicolon_behind ns) us)) (length ts) o) (read_always halves (statement_rule l) (λ s t. and_then (statement_rule l s t) (λ s. gives (s.node ∷ []))) (λ s. gives (s.node ∷ [])) ts (λ s t. refl) ∙ ap (λ o. and_read o (λ s us. Ok (s.node ∷ [], us))) (sym (first_by halves (statement l) ts)))

pub opening_is : (halves : Bool) (l d : ℕ) (ts : List Token) → first halves (part (opening l d)) ts ≡ or_read (read_by halves (locals_rule l d) ts) (length ts) (read_by halves (opening_simple_rule l d) ts)
opening_is halves l d ts = first_by halves (opening l d) ts ∙ read_or halves (locals_rule l d) (opening_simple_rule l d) (part_rule (opening l d)) ts (λ s t. refl) (λ t. refl)

-- ---- right sides

untexted : (l d : ℕ) (s : Sort) (t : Token) → is Sort.Text s ≡ false → part_rule (right_side l d) s t ≡ part_rule (expression l d) s t
untexted l d Sort.Text t e = let q : true ≡ false = e in absurd (Prim.cc)
untexted l d _ t e = refl

pub only_expression : (halves : Bool) (l d : ℕ) (ts : List Token) → word_at halves Sort.Text ts ≡ Err (length ts) → first halves (part (right_side l d)) ts ≡ first halves (part (expression l d)) ts
only_expression halves l d ts e = first_by halves (right_side l d) ts ∙ alike halves (part_rule (right_side l d)) (part_rule (expression l d)) Sort.Text ts e (untexted l d) ∙ sym (first_by halves (expression l d) ts)

pub no_right : (b : Bool) (l d : ℕ) (s : Sort) (t : Token) → is Sort.Equals s ≡ false → opens (rule (option b (right l d)) s t) ≡ false
no_right b l d Sort.Equals t e = let q : true ≡ false = e in absurd (Prim.cc)
no_right b l d _ t e = refl

-- ---- lists of lists

pub joined_more : (ls : List (List Node)) (ns : List Node) → joined (ls ++ (ns ∷ [])) ≡ joined ls ++ ns
joined_more [] ns = append-nil ns
joined_more (l ∷ ls) ns = ap (λ x. l ++ x) (joined_more ls ns) ∙ sym (append_assoc l (joined ls) ns)
