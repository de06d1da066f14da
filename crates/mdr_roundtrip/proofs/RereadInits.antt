-- Printed constants and initialisers are read again.
use Rattle.std.proofs.Common.{◌≡◌, refl, sym, subst, ap, ◌∙◌, ℕ, ◌+◌, Bool, true, false, Option, Some, None, List, [], ◌∷◌, ◌++◌, map, append_assoc}
use Rattle.std.specs.Prelude.{◌&&◌, codes}
use Rattle.std.proofs.lemmas.Bool.{false≢true}
use Rattle.std.proofs.lemmas.List.{append-nil}
use Rattle.mdr_syntax.specs.declared.token.Lexeme.TheVariants.{Word, Punct}
use Rattle.mdr_syntax.specs.declared.token.Token.{Token}
use Rattle.mdr_syntax.specs.declared.tree.Const.{Const}
use Rattle.mdr_syntax.specs.declared.tree.Const.TheVariants as const
use Rattle.mdr_syntax.specs.declared.tree.Elem.{Elem}
use Rattle.mdr_syntax.specs.declared.tree.FieldName.{FieldName}
use Rattle.mdr_syntax.specs.declared.tree.Init
use Rattle.mdr_syntax.specs.declared.tree.Init.{Init}
use Rattle.mdr_syntax.specs.declared.tree.Init.TheOpen.{Init-F}
use Rattle.mdr_syntax.specs.declared.tree.Init.TheFolds.{ind-Init, map-Init, fold-roll-Init, fold_out-Elem}
use Rattle.mdr_print.specs.Marks.{Mark, Is, Marks, separated, comma_list}
use Rattle.mdr_print.specs.Spelled.{lexemes}
use Rattle.mdr_print.specs.Declarations.{constant as printed_constant, designator, init_shown, elem_shown, init, elem}
use Rattle.mdr_roundtrip.specs.Printable.{all}
use Rattle.mdr_roundtrip.specs.PrintableDeclarations.{maybe}
use Rattle.mdr_roundtrip.proofs.Tests.{both}
use Rattle.mdr_grammar.specs.declared.sort.Sort.{Sort}
use Rattle.mdr_grammar.specs.Sorts.{is, sort_of, marks}
use Rattle.mdr_grammar.specs.Forms.{Right, ◌>>=◌, form, and_then}
use Rattle.mdr_grammar.specs.Forms.Part.{constant, initialiser, element}
use Rattle.mdr_grammar.specs.Forms.Enclosed.{elements}
use Rattle.mdr_grammar.specs.Forms.Nonterminal.{part, commas_open, after_comma}
use Rattle.mdr_grammar.specs.Forms.Right.{gives}
use Rattle.mdr_grammar.specs.Forms.Rule.{given}
use Rattle.mdr_grammar.specs.Expressions.{may_nest}
use Rattle.mdr_grammar.specs.Declarations.{constant_rule, initialiser_rule, element_rule}
use Rattle.mdr_grammar.specs.Grammar.{rule, Gets}
use Rattle.mdr_grammar.specs.Grammar.Gets.{absent, present}
use Rattle.mdr_grammar.specs.Grammar.Follows.{done, word, both as parts}
use Rattle.mdr_roundtrip.specs.Unplaced.{nowhere, at, all_at}
use Rattle.mdr_roundtrip.specs.Initialised.{unplaced_const, unplaced_field, init_unplaced, elem_unplaced, unplaced_init, unplaced_elem, is_shaped_const, is_named_field, are_some, inside, init_shaped, elem_shaped, is_shaped_init, is_shaped_elem}
use Rattle.mdr_roundtrip.proofs.Following.{through}
use Rattle.mdr_roundtrip.proofs.Signs.{comma_sort, dot_sort, null_sort, name_sort}
use Rattle.mdr_roundtrip.proofs.Rereading.{tokens_of, no_rule}
use Rattle.mdr_roundtrip.proofs.RereadForms.{allowed}

minus_sort : (halves : Bool) → sort_of halves (Punct (codes "-")) ≡ Sort.Minus
unfolding sort_of marks
minus_sort halves = refl

and_sort : (halves : Bool) → sort_of halves (Punct (codes "&")) ≡ Sort.And
unfolding sort_of marks
and_sort halves = refl

pub equals_sort : (halves : Bool) → sort_of halves (Punct (codes "=")) ≡ Sort.Equals
unfolding sort_of marks
equals_sort halves = refl

brace_sort : (halves : Bool) → sort_of halves (Punct (codes "{")) ≡ Sort.OpenBrace
unfolding sort_of marks
brace_sort halves = refl

unbrace_sort : (halves : Bool) → sort_of halves (Punct (codes "}")) ≡ Sort.CloseBrace
unfolding sort_of marks
unbrace_sort halves = refl

-- ---- constants

pub constant_reread : (halves : Bool) (c : Const) (rest : List Mark) → is_shaped_const c ≡ true → Gets halves (part constant) (tokens_of (printed_constant c rest)) (tokens_of rest) (unplaced_const c)
unfolding sort_of
constant_reread halves (const.Number place true n kind) rest h = present (ap (λ s. constant_rule s (at (Punct (codes "-")))) (minus_sort halves)) (word {s = Sort.Number} refl done)
constant_reread halves (const.Number place false n kind) rest h = present refl done
constant_reread halves (const.Name place name) rest h = present (ap (λ s. constant_rule s (at (Word name))) (name_sort halves name h)) done

-- ---- initialisers

record GoodInit (halves : Bool) (i : Init) : Type 0 where
  by : (n : ℕ) (rest : List Mark) → is_shaped_init i n ≡ true → Gets halves (part (initialiser n)) (tokens_of (init i rest)) (tokens_of rest) (unplaced_init i)

record GoodElem (halves : Bool) (e : Elem) : Type 0 where
  by : (n : ℕ) (rest : List Mark) → is_shaped_elem e n ≡ true → Gets halves (part (element n)) (tokens_of (elem e rest)) (tokens_of rest) (unplaced_elem e)

constant_is : (n : ℕ) (s : Sort) (t : Token) (r : Right Const) → constant_rule s t ≡ given true r → initialiser_rule n s t ≡ given true (r >>= λ c. gives (Init.Const c))
constant_is n Sort.Minus t r e = ap (λ o. and_then o (λ c. gives (Init.Const c))) e
constant_is n Sort.Number t r e = ap (λ o. and_then o (λ c. gives (Init.Const c))) e
constant_is n Sort.Name t r e = ap (λ o. and_then o (λ c. gives (Init.Const c))) e
constant_is n _ t r e = no_rule e

bare_is : (n : ℕ) (s : Sort) (t : Token) (r : Right Init) → initialiser_rule n s t ≡ given true r → element_rule n s t ≡ given true (r >>= λ i. gives (record { field = None; init = i }))
bare_is n Sort.Dot t r e = no_rule e
bare_is n s t r e = ap (λ o. and_then o (λ i. gives (record { field = None; init = i }))) e

elem_reread : (halves : Bool) (n : ℕ) (f : Option FieldName) (m : Marks) (i : Init) (rest : List Mark) → maybe is_named_field f ≡ true → Gets halves (part (initialiser n)) (tokens_of (m rest)) (tokens_of rest) i → Gets halves (part (element n)) (tokens_of (designator f (m rest))) (tokens_of rest) (record { field = unplaced_field f; init = i })
elem_reread halves n None m i rest h g = through halves (λ i. gives (record { field = None; init = i })) refl (λ s t r e. bare_is n s t r e) g done
elem_reread halves n (Some f) m i rest h g = present (ap (λ s. element_rule n s (at (Punct (codes ".")))) (dot_sort halves)) (word {s = Sort.Name} (ap (λ s. is Sort.Name s) (name_sort halves f.name h)) (word {s = Sort.Equals} (ap (λ s. is Sort.Equals s) (equals_sort halves)) (parts g done)))

elems_reread : (halves : Bool) (n : ℕ) {X : Type 0} (of : X → Elem) → ((x : X) → GoodElem halves (of x)) → (xs : List X) (so_far : List Elem) (rest : List Mark) → all (map (inside n) (map is_shaped_elem (map of xs))) ≡ true → Gets halves (commas_open (elements n) so_far) (tokens_of (separated false (map elem (map of xs)) rest)) (tokens_of rest) (so_far ++ map unplaced_elem (map of xs))
elems_reread halves n of good [] so_far rest h = subst (λ (es : List Elem). Gets halves (commas_open (elements n) so_far) (tokens_of rest) (tokens_of rest) es) (sym (append-nil so_far)) (absent refl)
elems_reread halves n of good (x ∷ xs) so_far rest h =
    let k = both (is_shaped_elem (of x) n) (all (map (inside n) (map is_shaped_elem (map of xs)))) h in
    let here = (good x).by n (separated false (map elem (map of xs)) rest) k.0 in
    let later = elems_reread halves n of good xs (so_far ++ (unplaced_elem (of x) ∷ [])) rest k.1 in
    let behind = through halves {m = after_comma (elements n) so_far} (λ v. form (commas_open (elements n) (so_far ++ (v ∷ [])))) refl (λ s t r e. ap (λ o. and_then o (λ v. form (commas_open (elements n) (so_far ++ (v ∷ []))))) e) here (parts later done) in
    subst (λ (es : List Elem). Gets halves (commas_open (elements n) so_far) (tokens_of (separated false (map elem (map of (x ∷ xs))) rest)) (tokens_of rest) es) (append_assoc so_far (unplaced_elem (of x) ∷ []) (map unplaced_elem (map of xs)))
    (present (ap (λ s. rule (commas_open (elements n) so_far) s (at (Punct (codes ",")))) (comma_sort halves)) (parts behind done))

list_reread : (halves : Bool) (n : ℕ) {X : Type 0} (of : X → Elem) → ((x : X) → GoodElem halves (of x)) → (xs : List X) (rest : List Mark) → may_nest (n + 1) ≡ true → are_some (map is_shaped_elem (map of xs)) ≡ true → all (map (inside (n + 1)) (map is_shaped_elem (map of xs))) ≡ true → Gets halves (part (initialiser n)) (at (Punct (codes "{")) ∷ tokens_of (comma_list (map elem (map of xs)) (Is (Punct (codes "}")) ∷ rest))) (tokens_of rest) (Init.List nowhere (map unplaced_elem (map of xs)))
list_reread halves n of good [] rest b some h = absurd (false≢true some)
list_reread halves n of good (x ∷ xs) rest b some h =
    let k = both (is_shaped_elem (of x) (n + 1)) (all (map (inside (n + 1)) (map is_shaped_elem (map of xs)))) h in
    let here = (good x).by (n + 1) (separated false (map elem (map of xs)) (Is (Punct (codes "}")) ∷ rest)) k.0 in
    let later = elems_reread halves (n + 1) of good xs (unplaced_elem (of x) ∷ []) (Is (Punct (codes "}")) ∷ rest) k.1 in
    present (allowed (ap (λ s. initialiser_rule n s (at (Punct (codes "{")))) (brace_sort halves)) b) (parts here (parts later (word {s = Sort.CloseBrace} (ap (λ s. is Sort.CloseBrace s) (unbrace_sort halves)) done)))

abbrev Layer : Bool → Init-F Init Elem → Type 0
Layer halves l = (n : ℕ) (rest : List Mark) → init_shaped (map-Init Init Elem (ℕ → Bool) (ℕ → Bool) is_shaped_init is_shaped_elem l) n ≡ true
    → Gets halves (part (initialiser n)) (tokens_of (init_shown (map-Init Init Elem Marks Marks init elem l) rest)) (tokens_of rest) (init_unplaced (map-Init Init Elem Init Elem unplaced_init unplaced_elem l))

layer_is : (halves : Bool) {X Y : Type 0} (what : X → Init) (of : Y → Elem) → ((y : Y) → GoodElem halves (of y)) → (l : Init-F X Y) → Layer halves (map-Init X Y Init Elem what of l)
unfolding sort_of
layer_is halves what of good (Init-F.Const c) n rest h = through halves (λ c. gives (Init.Const c)) refl (λ s t r e. constant_is n s t r e) (constant_reread halves c rest h) done
layer_is halves what of good (Init-F.Null place) n rest h = present (ap (λ s. initialiser_rule n s (at (Word (codes "NULL")))) (null_sort halves)) done
layer_is halves what of good (Init-F.Address place name) n rest h = present (ap (λ s. initialiser_rule n s (at (Punct (codes "&")))) (and_sort halves)) (word {s = Sort.Name} (ap (λ s. is Sort.Name s) (name_sort halves name h)) done)
layer_is halves what of good (Init-F.Text place bytes) n rest h = present refl done
layer_is halves what of good (Init-F.List place elems) n rest h =
    let k = both (may_nest (n + 1)) (are_some (map is_shaped_elem (map of elems)) && all (map (inside (n + 1)) (map is_shaped_elem (map of elems)))) h in
    let j = both (are_some (map is_shaped_elem (map of elems))) (all (map (inside (n + 1)) (map is_shaped_elem (map of elems)))) k.1 in
    list_reread halves n of good elems rest k.0 j.0 j.1

moved : (halves : Bool) (n : ℕ) (rest : List Mark) {m m' : Marks} {i i' : Init} → m ≡ m' → i ≡ i' → Gets halves (part (initialiser n)) (tokens_of (m' rest)) (tokens_of rest) i' → Gets halves (part (initialiser n)) (tokens_of (m rest)) (tokens_of rest) i
moved halves n rest {m} {m'} {i} {i'} p q g = subst (λ (x : Marks). Gets halves (part (initialiser n)) (tokens_of (x rest)) (tokens_of rest) i) (sym p) (subst (λ (x : Init). Gets halves (part (initialiser n)) (tokens_of (m' rest)) (tokens_of rest) x) (sym q) g)

moved_elem : (halves : Bool) (n : ℕ) (rest : List Mark) {m m' : Marks} {e e' : Elem} → m ≡ m' → e ≡ e' → Gets halves (part (element n)) (tokens_of (m' rest)) (tokens_of rest) e' → Gets halves (part (element n)) (tokens_of (m rest)) (tokens_of rest) e
moved_elem halves n rest {m} {m'} {e} {e'} p q g = subst (λ (x : Marks). Gets halves (part (element n)) (tokens_of (x rest)) (tokens_of rest) e) (sym p) (subst (λ (x : Elem). Gets halves (part (element n)) (tokens_of (m' rest)) (tokens_of rest) x) (sym q) g)

good_inits : (halves : Bool) (i : Init) → GoodInit halves i
good_inits halves = ind-Init (GoodInit halves) (GoodElem halves)
    (λ x y is. record {
      by = λ n rest h. moved halves n rest (fold-roll-Init Marks Marks init_shown elem_shown x) (fold-roll-Init Init Elem init_unplaced elem_unplaced x)
          (subst (Layer halves) is (layer_is halves (λ e. e.0) (λ e. e.0) (λ e. e.1) y) n rest (ap (λ f. f n) (sym (fold-roll-Init (ℕ → Bool) (ℕ → Bool) init_shaped elem_shaped x)) ∙ h));
    })
    (λ x y is. record {
      by = λ n rest h.
          let k = both (maybe is_named_field x.field) (is_shaped_init x.init n) (ap (λ f. f n) (sym (fold_out-Elem (ℕ → Bool) (ℕ → Bool) init_shaped elem_shaped (record { field = x.field; init = x.init }))) ∙ h) in
          moved_elem halves n rest (fold_out-Elem Marks Marks init_shown elem_shown (record { field = x.field; init = x.init })) (fold_out-Elem Init Elem init_unplaced elem_unplaced (record { field = x.field; init = x.init }))
          (elem_reread halves n x.field (init x.init) (unplaced_init x.init) rest k.0 ((subst (GoodInit halves) (ap (λ z. z.init) is) (y.init.1)).by n rest k.1));
    })

-- an initialiser is read from what is printed of it, behind which anything may stand
pub inits_reread : (halves : Bool) (i : Init) (n : ℕ) (rest : List Mark) → is_shaped_init i n ≡ true → Gets halves (part (initialiser n)) (all_at (lexemes (init i rest))) (all_at (lexemes rest)) (unplaced_init i)
inits_reread halves i n rest h = (good_inits halves i).by n rest h
