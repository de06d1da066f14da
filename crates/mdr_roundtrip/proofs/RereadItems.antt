-- Printed items and trees are read again.
use Rattle.std.proofs.Common.{◌≡◌, refl, sym, subst, ap, ◌∙◌, arith, ℕ, zero, suc, ◌+◌, ◌≤◌, Bool, true, false, Option, Some, None, List, [], ◌∷◌, ◌++◌, map, append_assoc}
use Rattle.std.specs.Prelude.{◌&&◌, codes}
use Rattle.std.specs.List.{list_all}
use Rattle.std.specs.Option.{option_map}
use Rattle.std.proofs.lemmas.Bool.{false≢true, le-leb, leb-true}
use Rattle.std.proofs.lemmas.List.{append-nil}
use Rattle.mdr_core.specs.declared.place.Place.{Place}
use Rattle.mdr_syntax.specs.declared.token.Lexeme.TheVariants.{Word, Punct, End}
use Rattle.mdr_syntax.specs.declared.token.Token.{Token}
use Rattle.mdr_syntax.specs.declared.tree.AnnText.{AnnText}
use Rattle.mdr_syntax.specs.declared.tree.Base.{Base}
use Rattle.mdr_syntax.specs.declared.tree.Base.TheVariants as base_type
use Rattle.mdr_syntax.specs.declared.tree.Const.{Const}
use Rattle.mdr_core.specs.declared.kind.Kind.{Kind}
use Rattle.mdr_syntax.specs.declared.tree.Decl.{Decl, out-Decl, roll-Decl}
use Rattle.mdr_syntax.specs.declared.tree.Enumerator.{Enumerator}
use Rattle.mdr_syntax.specs.declared.tree.Head.{Head}
use Rattle.mdr_syntax.specs.declared.tree.Init.{Init}
use Rattle.mdr_syntax.specs.declared.tree.Item.{Item}
use Rattle.mdr_syntax.specs.declared.tree.ItemWhat.{ItemWhat}
use Rattle.mdr_syntax.specs.declared.tree.ItemWhat.TheVariants as item_is
use Rattle.mdr_syntax.specs.declared.tree.Node.{Node}
use Rattle.mdr_syntax.specs.declared.tree.Tree.{Tree}
use Rattle.mdr_print.specs.Marks.{Mark, Is, Newline, Marks, word as printed_word, blank, separated, row, ◌▸◌}
use Rattle.mdr_print.specs.Types.{kind_name, base_name, stars as printed_stars}
use Rattle.mdr_print.specs.Declarations.{Declared, annotated, sized_name, core, parameter_list, parameters as parameters_printed, shown_decl, declaration, declarator as declarator_of, head as printed_head, initialised, valued, enumerator as printed_enumerator}
use Rattle.mdr_print.specs.Statements.{semicolon, lines, closed, block_words, written}
use Rattle.mdr_print.specs.Items.{field as printed_field, item_words, item_lines}
use Rattle.mdr_print.specs.Spelled.{spelled}
use Rattle.mdr_roundtrip.specs.PrintableDeclarations.{maybe}
use Rattle.mdr_roundtrip.proofs.Tests.{both}
use Rattle.mdr_grammar.specs.declared.sort.Sort.{Sort}
use Rattle.mdr_grammar.specs.Sorts.{is, sort_of, words}
use Rattle.mdr_grammar.specs.Forms.{Nonterminal, Value, Right, ◌>>=◌, take, form as whole_form, and_then}
use Rattle.mdr_grammar.specs.Forms.Part.{base, field_group, enumerator, value, initial, item}
use Rattle.mdr_grammar.specs.Forms.Repeated.{field_groups, items}
use Rattle.mdr_grammar.specs.Forms.Enclosed.{enumerators}
use Rattle.mdr_grammar.specs.Forms.Nonterminal.{part, option, commas_open, after_comma, outer, remote, critical, function, function_end, fields}
use Rattle.mdr_grammar.specs.Forms.Right.{gives}
use Rattle.mdr_grammar.specs.Declarations.{fields_in, enumerator_rule}
use Rattle.mdr_grammar.specs.Statements.{item_at as items_at, are_named, function_head, function_with, function_end_rule, function_rule, outer_rule, remote_rule, critical_rule, fields_rule, item_rule, more_globals, joined}
use Rattle.mdr_grammar.specs.Grammar.{rule, Gets, Follows, Reads}
use Rattle.mdr_grammar.specs.Grammar.Gets.{absent, present}
use Rattle.mdr_grammar.specs.Grammar.Follows.{done, word, both as parts}
use Rattle.mdr_roundtrip.specs.Shaped.{is_name, is_named_base, are_stars}
use Rattle.mdr_roundtrip.specs.Unplaced.{nowhere, at, all_at, unplaced_base}
use Rattle.mdr_roundtrip.specs.Initialised.{unplaced_const, unplaced_init, is_shaped_const, are_some}
use Rattle.mdr_roundtrip.specs.Declarations.{unplaced_annotation, unplaced_decl, is_annotation_at}
use Rattle.mdr_roundtrip.specs.Stated.{unplaced_node}
use Rattle.mdr_roundtrip.specs.Itemised.{unplaced_enumerator, unplaced_head, unplaced_what_item, unplaced_item, unplaced_tree, is_shaped_field, is_shaped_enumerator, initial_at, is_shaped_parameter, is_shaped_head, is_shaped_body, is_shaped_what, is_shaped_item, is_shaped_tree}
use Rattle.mdr_roundtrip.proofs.Unplacing.{names_kept}
use Rattle.mdr_roundtrip.proofs.Following.{through}
use Rattle.mdr_roundtrip.proofs.Signs.{open_sort, star_sort, comma_sort, struct_sort, void_sort, lock_sort, kind_sort, name_sort}
use Rattle.mdr_roundtrip.proofs.Rereading.{tokens_of}
use Rattle.mdr_roundtrip.proofs.RereadForms.{allowed, base_reread}
use Rattle.mdr_roundtrip.proofs.RereadInits.{constant_reread, inits_reread, equals_sort}
use Rattle.mdr_roundtrip.proofs.RereadParts.{opens, closes, names, size_reread, annotated_reread, ArePointed, nowhere_based}
use Rattle.mdr_roundtrip.proofs.RereadDecls.{with_is, good_decls, fields_reread, parameters_reread}
use Rattle.mdr_roundtrip.proofs.RereadLists.{AllRead, many_reread, alone, joined_alone}
use Rattle.mdr_roundtrip.proofs.RereadStatements.{semicolon_sort, brace_sort, ends, unbraces}
use Rattle.mdr_roundtrip.proofs.RereadLoops.{allowed_always, body_reread}

-- ---- what stands behind a base at the outer level

-- an item that begins with a base
item_from_base : (halves : Bool) (b : Base) (m : List Mark) (rest : List Mark) (v : List Item) → is_named_base b ≡ true → Gets halves (outer nowhere (nowhere_based (unplaced_base b)) 0) (tokens_of m) (tokens_of rest) v → Gets halves (part item) (tokens_of (base_name b m)) (tokens_of rest) v
item_from_base halves (base_type.Int k) m rest v h g = present (ap (λ s. item_rule s (at (Word (kind_name k)))) (kind_sort halves k)) (parts g done)
item_from_base halves base_type.Void m rest v h g = present (ap (λ s. item_rule s (at (Word (codes "void")))) (void_sort halves)) (parts g done)
item_from_base halves base_type.Lock m rest v h g = present (ap (λ s. item_rule s (at (Word (codes "combolock_t")))) (lock_sort halves)) (parts g done)
item_from_base halves (base_type.Struct place name) m rest v h g = present (ap (λ s. item_rule s (at (Word (codes "struct")))) (struct_sort halves)) (names halves name h (parts (absent refl) (parts g done)))

-- ---- globals

initial_reread : (halves : Bool) (o : Option Init) (rest : List Mark) → maybe (initial_at 0) o ≡ true → Gets halves (option true initial) (tokens_of (initialised o rest)) (tokens_of rest) (option_map unplaced_init o)
initial_reread halves None rest h = absent refl
initial_reread halves (Some i) rest h = present (ap (λ s. rule (option true initial) s (at (Punct (codes "=")))) (equals_sort halves)) (parts (inits_reread halves i 0 rest h) done)

abbrev one_global : Decl → Option Init → List Item
one_global u i = record { place = nowhere; what = item_is.Global u i } ∷ []

-- behind the stars, a name alone or a function pointer
no_star : (halves : Bool) (k : ℕ) (b : Base) (a : Option AnnText) (name : List ℕ) (z : Option Const) (fun : Option (List Declared)) (us : Option (List Decl)) (i : Option Init) (rest : List Mark) → is_name name ≡ true → maybe is_shaped_const z ≡ true → ArePointed halves 0 fun us → maybe (is_annotation_at 0) a ≡ true → maybe (initial_at 0) i ≡ true
    → Gets halves (outer nowhere (nowhere_based b) k) (tokens_of (core (sized_name (Some name) z) fun (annotated a (initialised i (semicolon rest))))) (tokens_of rest) (one_global (roll-Decl (record { place = nowhere; name = Some name; base = b; stars = k; size = option_map unplaced_const z; fun = us; ann = option_map unplaced_annotation a })) (option_map unplaced_init i))
no_star halves k b a name z None None i rest n s p q o =
    present (ap (λ s. outer_rule nowhere (nowhere_based b) k s (at (Word name))) (name_sort halves name n))
    (parts (absent refl) (parts (size_reread halves z (annotated a (initialised i (semicolon rest))) s) (parts (annotated_reread halves 0 a (initialised i (semicolon rest)) q) (parts (initial_reread halves i (semicolon rest) o) (parts (absent refl) (ends halves done))))))
no_star halves k b a name z None (Some us) i rest n s p q o = absurd p
no_star halves k b a name z (Some ds) None i rest n s p q o = absurd p
no_star halves k b a name z (Some ds) (Some us) i rest n s p q o =
    let end : List Mark = annotated a (initialised i (semicolon rest)) in
    let whole : Decl = roll-Decl (record { place = nowhere; name = Some name; base = b; stars = k; size = option_map unplaced_const z; fun = Some us; ann = option_map unplaced_annotation a }) in
    present (allowed (ap (λ s. outer_rule nowhere (nowhere_based b) k s (at (Punct (codes "(")))) (open_sort halves)) p.0)
    (word {s = Sort.Star} (ap (λ s. is Sort.Star s) (star_sort halves))
    (names halves name n (parts (size_reread halves z (Is (Punct (codes ")")) ∷ parameters_printed ds end) s)
    (closes halves (opens halves (parts (p.1 (Is (Punct (codes ")")) ∷ end)) (closes halves
    (parts (annotated_reread halves 0 a (initialised i (semicolon rest)) q) (parts (initial_reread halves i (semicolon rest) o)
    (subst (λ (u : Decl). Follows halves (outer nowhere (nowhere_based b) k) (more_globals nowhere (nowhere_based b) (record { place = nowhere; what = item_is.Global u (option_map unplaced_init i) })) (tokens_of (semicolon rest)) (tokens_of rest) (one_global whole (option_map unplaced_init i)))
    (sym (with_is (record { place = nowhere; name = Some name; base = b; stars = k; size = option_map unplaced_const z; fun = Some us; ann = None }) (option_map unplaced_annotation a)))
    (parts (absent refl) (ends halves done))))))))))))

outer_global : (halves : Bool) (k n m : ℕ) (b : Base) (a : Option AnnText) (name : List ℕ) (z : Option Const) (fun : Option (List Declared)) (us : Option (List Decl)) (i : Option Init) (rest : List Mark) → k + n ≡ m → m ≤ 4294967295 → is_name name ≡ true → maybe is_shaped_const z ≡ true → ArePointed halves 0 fun us → maybe (is_annotation_at 0) a ≡ true → maybe (initial_at 0) i ≡ true
    → Gets halves (outer nowhere (nowhere_based b) k) (tokens_of (printed_stars n (core (sized_name (Some name) z) fun (annotated a (initialised i (semicolon rest)))))) (tokens_of rest) (one_global (roll-Decl (record { place = nowhere; name = Some name; base = b; stars = m; size = option_map unplaced_const z; fun = us; ann = option_map unplaced_annotation a })) (option_map unplaced_init i))
outer_global halves k zero m b a name z fun us i rest e low h s p q o =
    let same : k ≡ m = omega (arith, e) in
    subst (λ (j : ℕ). Gets halves (outer nowhere (nowhere_based b) k) (tokens_of (core (sized_name (Some name) z) fun (annotated a (initialised i (semicolon rest))))) (tokens_of rest) (one_global (roll-Decl (record { place = nowhere; name = Some name; base = b; stars = j; size = option_map unplaced_const z; fun = us; ann = option_map unplaced_annotation a })) (option_map unplaced_init i))) same
    (no_star halves k b a name z fun us i rest h s p q o)
outer_global halves k (suc n) m b a name z fun us i rest e low h s p q o =
    present (allowed (ap (λ s. outer_rule nowhere (nowhere_based b) k s (at (Punct (codes "*")))) (star_sort halves)) (le-leb (k + 1) 4294967295 (omega (arith, e, low))))
    (parts (outer_global halves (k + 1) n m b a name z fun us i rest (omega (arith, e)) low h s p q o) done)

global_reread : (halves : Bool) (x : Decl) (i : Option Init) (rest : List Mark) → (is_shaped_field x && maybe (initial_at 0) i) ≡ true → Gets halves (part item) (tokens_of (declaration x (initialised i (semicolon rest)))) (tokens_of rest) (one_global (unplaced_decl x) (option_map unplaced_init i))
global_reread halves x i rest h =
    let k = both (is_shaped_field x) (maybe (initial_at 0) i) h in
    let a = (good_decls halves x).alone 0 k.0 in
    let p = a.parts_are in
    let b : Base = (out-Decl x).base in
    let end : List Mark = initialised i (semicolon rest) in
    let inner = outer_global halves 0 p.stars p.stars (unplaced_base b) (out-Decl x).ann p.name p.size p.fun p.read i rest (omega arith) p.few p.name_is p.size_is p.pointed a.annotation_is k.1 in
    let there : Gets halves (outer nowhere (nowhere_based (unplaced_base b)) 0) (tokens_of (declarator_of x end)) (tokens_of rest) (one_global (unplaced_decl x) (option_map unplaced_init i)) =
    subst (λ (m : List Mark). Gets halves (outer nowhere (nowhere_based (unplaced_base b)) 0) (tokens_of m) (tokens_of rest) (one_global (unplaced_decl x) (option_map unplaced_init i))) (sym (p.printed end))
    (subst (λ (u : Decl). Gets halves (outer nowhere (nowhere_based (unplaced_base b)) 0) (tokens_of (printed_stars p.stars (core (sized_name (Some p.name) p.size) p.fun (annotated (out-Decl x).ann end)))) (tokens_of rest) (one_global u (option_map unplaced_init i))) p.made_is inner) in
    subst (λ (ts : List Token). Gets halves (part item) ts (tokens_of rest) (one_global (unplaced_decl x) (option_map unplaced_init i))) (sym (a.whole end)) (item_from_base halves b (declarator_of x end) rest (one_global (unplaced_decl x) (option_map unplaced_init i)) a.base_is there)

-- ---- structs

group_reread : (halves : Bool) (x : Decl) (rest : List Mark) → is_shaped_field x ≡ true → Gets halves (part field_group) (tokens_of (printed_field x rest)) (tokens_of rest) (unplaced_decl x ∷ [])
group_reread halves x rest h =
    let f = fields_reread halves x (Is (Punct (codes ";")) ∷ Newline ∷ rest) h in
    through halves (λ b. fields_in b) refl (λ s t r e. ap (λ o. and_then o (λ b. fields_in b)) e) f.of_base (parts f.of_field (parts (absent refl) (ends halves done)))

groups_reread : (halves : Bool) (xs : List Decl) → list_all is_shaped_field xs ≡ true → AllRead halves field_groups (map printed_field xs) (map alone (map unplaced_decl xs))
groups_reread halves [] h = tt
groups_reread halves (x ∷ xs) h =
    let k = both (is_shaped_field x) (list_all is_shaped_field xs) h in
    (λ rest. group_reread halves x rest k.0, groups_reread halves xs k.1)

struct_reread : (halves : Bool) (place : Place) (name : List ℕ) (xs : List Decl) (rest : List Mark) → (is_name name && list_all is_shaped_field xs) ≡ true → Gets halves (part item) (tokens_of (item_words (item_is.Struct place name xs) rest)) (tokens_of rest) (items_at nowhere (item_is.Struct nowhere name (map unplaced_decl xs)))
struct_reread halves place name xs rest h =
    let k = both (is_name name) (list_all is_shaped_field xs) h in
    let end : List Mark = closed 0 (semicolon rest) in
    let groups = many_reread halves true field_groups (map printed_field xs) (map alone (map unplaced_decl xs)) [] end (allowed_always (map printed_field xs)) (groups_reread halves xs k.1) in
    let inside : Gets halves (fields nowhere (at (Word name))) (at (Punct (codes "{")) ∷ tokens_of (row (map printed_field xs) end)) (tokens_of rest) (Some (items_at nowhere (item_is.Struct nowhere name (map unplaced_decl xs)))) =
    present (ap (λ s. fields_rule nowhere (at (Word name)) s (at (Punct (codes "{")))) (brace_sort halves)) (parts groups (unbraces halves (ends halves
    (subst (λ (ds : List Decl). Follows halves (fields nowhere (at (Word name))) (gives (Some (items_at nowhere (item_is.Struct nowhere name (joined (map alone (map unplaced_decl xs))))))) (tokens_of rest) (tokens_of rest) (Some (items_at nowhere (item_is.Struct nowhere name ds)))) (joined_alone (map unplaced_decl xs)) done)))) in
    present (ap (λ s. item_rule s (at (Word (codes "struct")))) (struct_sort halves)) (names halves name k.0 (parts inside done))

-- ---- enumerations

enum_sort : (halves : Bool) → sort_of halves (Word (codes "enum")) ≡ Sort.Enum
unfolding sort_of words
enum_sort halves = refl

value_reread : (halves : Bool) (o : Option Const) (rest : List Mark) → maybe is_shaped_const o ≡ true → Gets halves (option true value) (tokens_of (valued o rest)) (tokens_of rest) (option_map unplaced_const o)
value_reread halves None rest h = absent refl
value_reread halves (Some c) rest h = present (ap (λ s. rule (option true value) s (at (Punct (codes "=")))) (equals_sort halves)) (parts (constant_reread halves c rest h) done)

enumerator_reread : (halves : Bool) (e : Enumerator) (rest : List Mark) → is_shaped_enumerator e ≡ true → Gets halves (part enumerator) (tokens_of (printed_enumerator e rest)) (tokens_of rest) (unplaced_enumerator e)
enumerator_reread halves e rest h =
    let k = both (is_name e.name) (maybe is_shaped_const e.value) h in
    present (ap (λ s. enumerator_rule s (at (Word e.name))) (name_sort halves e.name k.0)) (parts (value_reread halves e.value rest k.1) done)

enumerators_reread : (halves : Bool) (es so_far : List Enumerator) (rest : List Mark) → list_all is_shaped_enumerator es ≡ true → Gets halves (commas_open enumerators so_far) (tokens_of (separated false (map printed_enumerator es) rest)) (tokens_of rest) (so_far ++ map unplaced_enumerator es)
enumerators_reread halves [] so_far rest h = subst (λ (es : List Enumerator). Gets halves (commas_open enumerators so_far) (tokens_of rest) (tokens_of rest) es) (sym (append-nil so_far)) (absent refl)
enumerators_reread halves (e ∷ es) so_far rest h =
    let k = both (is_shaped_enumerator e) (list_all is_shaped_enumerator es) h in
    let here = enumerator_reread halves e (separated false (map printed_enumerator es) rest) k.0 in
    let later = enumerators_reread halves es (so_far ++ (unplaced_enumerator e ∷ [])) rest k.1 in
    let behind = through halves {m = after_comma enumerators so_far} (λ v. whole_form (commas_open enumerators (so_far ++ (v ∷ [])))) refl (λ s t r e. ap (λ o. and_then o (λ v. whole_form (commas_open enumerators (so_far ++ (v ∷ []))))) e) here (parts later done) in
    subst (λ (us : List Enumerator). Gets halves (commas_open enumerators so_far) (tokens_of (separated false (map printed_enumerator (e ∷ es)) rest)) (tokens_of rest) us) (append_assoc so_far (unplaced_enumerator e ∷ []) (map unplaced_enumerator es))
    (present (ap (λ s. rule (commas_open enumerators so_far) s (at (Punct (codes ",")))) (comma_sort halves)) (parts behind done))

enum_reread : (halves : Bool) (es : List Enumerator) (rest : List Mark) → (are_some es && list_all is_shaped_enumerator es) ≡ true → Gets halves (part item) (tokens_of (item_words (item_is.Enum es) rest)) (tokens_of rest) (items_at nowhere (item_is.Enum (map unplaced_enumerator es)))
enum_reread halves [] rest h = absurd (false≢true h)
enum_reread halves (e ∷ es) rest h =
    let k = both (is_shaped_enumerator e) (list_all is_shaped_enumerator es) h in
    let end : List Mark = Is (Punct (codes "}")) ∷ semicolon rest in
    present (ap (λ s. item_rule s (at (Word (codes "enum")))) (enum_sort halves))
    (word {s = Sort.OpenBrace} (ap (λ s. is Sort.OpenBrace s) (brace_sort halves))
    (parts (enumerator_reread halves e (separated false (map printed_enumerator es) end) k.0) (parts (enumerators_reread halves es (unplaced_enumerator e ∷ []) end k.1) (unbraces halves (ends halves done)))))

-- ---- functions

remote_sort : sort_of true (Word (codes "__remote")) ≡ Sort.Remote
unfolding sort_of words
remote_sort = refl

critical_sort : (halves : Bool) → sort_of halves (Word (codes "__critical")) ≡ Sort.Critical
unfolding sort_of words
critical_sort halves = refl

-- what stands behind the stars of a function
abbrev named_marks : List ℕ → List Decl → Option AnnText → Marks
named_marks name ps a rest = printed_word name (parameters_printed (map shown_decl ps) (annotated a rest))

abbrev headed : Base → (stars : ℕ) → List ℕ → List Decl → Option AnnText → Head
headed b k name ps a = record { place = nowhere; name = name; base = b; stars = k; params = map unplaced_decl ps; ann = option_map unplaced_annotation a }

-- what is known of a head's parts
record Headed (named : Bool) (name : List ℕ) (ps : List Decl) (a : Option AnnText) : Type 0 where
  name_is : is_name name ≡ true
  are : list_all (is_shaped_parameter named) ps ≡ true
  annotation : maybe (is_annotation_at 0) a ≡ true

head_then : (halves named : Bool) (b : Base) (k : ℕ) (name : List ℕ) (ps : List Decl) (a : Option AnnText) (m : Nonterminal) (f : Head → Right (Value m)) (rest : List Mark) {end : List Token} {v : Value m} → Headed named name ps a → Follows halves m (f (headed b k name ps a)) (tokens_of rest) end v
    → Follows halves m (function_head named (nowhere_based b) k (at (Word name)) >>= f) (tokens_of (parameter_list (map shown_decl ps) (Is (Punct (codes ")")) ∷ annotated a rest))) end v
head_then halves named b k name ps a m f rest h g = parts (parameters_reread halves named 1 ps (Is (Punct (codes ")")) ∷ annotated a rest) h.are) (closes halves (parts (annotated_reread halves 0 a rest h.annotation) g))

-- what ends a head: `;`, or a body
record IsEnd (halves : Bool) (h : Head) (m : Marks) (rest : List Mark) (v : List Item) : Type 0 where
  by : Gets halves (function_end nowhere h) (tokens_of (m rest)) (tokens_of rest) v

outer_function : (halves : Bool) (k n j : ℕ) (b : Base) (name : List ℕ) (ps : List Decl) (a : Option AnnText) (m : Marks) (rest : List Mark) (v : List Item) → k + n ≡ j → j ≤ 4294967295 → Headed false name ps a → IsEnd halves (headed b j name ps a) m rest v
    → Gets halves (outer nowhere (nowhere_based b) k) (tokens_of (printed_stars n (named_marks name ps a (m rest)))) (tokens_of rest) v
outer_function halves k zero j b name ps a m rest v e low h g =
    let same : j ≡ k = omega (arith, e) in
    let end = subst (λ (i : ℕ). IsEnd halves (headed b i name ps a) m rest v) same g in
    present (ap (λ s. outer_rule nowhere (nowhere_based b) k s (at (Word name))) (name_sort halves name h.name_is))
    (parts
    (present (ap (λ s. function_rule nowhere (nowhere_based b) k (at (Word name)) s (at (Punct (codes "(")))) (open_sort halves))
    (head_then halves false b k name ps a (function nowhere (nowhere_based b) k (at (Word name))) (λ h. whole_form (function_end nowhere h) >>= λ is. gives (Some is)) (m rest) h (parts end.by done)))
    done)
outer_function halves k (suc n) j b name ps a m rest v e low h g =
    present (allowed (ap (λ s. outer_rule nowhere (nowhere_based b) k s (at (Punct (codes "*")))) (star_sort halves)) (le-leb (k + 1) 4294967295 (omega (arith, e, low))))
    (parts (outer_function halves (k + 1) n j b name ps a m rest v (omega (arith, e)) low h g) done)

remote_function : (halves : Bool) (k n j : ℕ) (b : Base) (name : List ℕ) (ps : List Decl) (a : Option AnnText) (rest : List Mark) → k + n ≡ j → j ≤ 4294967295 → Headed false name ps a
    → Gets halves (remote nowhere (nowhere_based b) k) (tokens_of (printed_stars n (named_marks name ps a (semicolon rest)))) (tokens_of rest) (items_at nowhere (item_is.Proto (headed b j name ps a) true))
remote_function halves k zero j b name ps a rest e low h =
    let same : k ≡ j = omega (arith, e) in
    subst (λ (i : ℕ). Gets halves (remote nowhere (nowhere_based b) k) (tokens_of (named_marks name ps a (semicolon rest))) (tokens_of rest) (items_at nowhere (item_is.Proto (headed b i name ps a) true))) same
    (present (ap (λ s. remote_rule nowhere (nowhere_based b) k s (at (Word name))) (name_sort halves name h.name_is))
    (opens halves (head_then halves false b k name ps a (remote nowhere (nowhere_based b) k) (λ h. take Sort.Semicolon >>= λ e. gives (items_at nowhere (item_is.Proto h true))) (semicolon rest) h (ends halves done))))
remote_function halves k (suc n) j b name ps a rest e low h =
    present (allowed (ap (λ s. remote_rule nowhere (nowhere_based b) k s (at (Punct (codes "*")))) (star_sort halves)) (le-leb (k + 1) 4294967295 (omega (arith, e, low))))
    (parts (remote_function halves (k + 1) n j b name ps a rest (omega (arith, e)) low h) done)

-- a body, behind its `{`
body_then : (halves is_critical : Bool) (h : Head) (ns : List Node) (m : Nonterminal) (f : List Item → Right (Value m)) (rest : List Mark) {v : Value m} → is_shaped_body ns ≡ true → Follows halves m (f (items_at nowhere (item_is.Func h is_critical (map unplaced_node ns)))) (tokens_of rest) (tokens_of rest) v
    → Follows halves m (function_with nowhere h is_critical >>= f) (tokens_of (lines 1 (map written ns) (closed 0 rest))) (tokens_of rest) v
body_then halves is_critical h ns m f rest {v} s g =
    parts (body_reread halves 1 ns (closed 0 rest) s)
    (unbraces halves (subst (λ (us : List Node). Follows halves m (f (items_at nowhere (item_is.Func h is_critical us))) (tokens_of rest) (tokens_of rest) v) (sym (joined_alone (map unplaced_node ns))) g))

critical_function : (halves : Bool) (k n j : ℕ) (b : Base) (name : List ℕ) (ps : List Decl) (a : Option AnnText) (ns : List Node) (rest : List Mark) → k + n ≡ j → j ≤ 4294967295 → Headed true name ps a → is_shaped_body ns ≡ true
    → Gets halves (critical nowhere (nowhere_based b) k) (tokens_of (printed_stars n (named_marks name ps a (blank (block_words (map written ns) 0 rest))))) (tokens_of rest) (items_at nowhere (item_is.Func (headed b j name ps a) true (map unplaced_node ns)))
critical_function halves k zero j b name ps a ns rest e low h s =
    let same : k ≡ j = omega (arith, e) in
    subst (λ (i : ℕ). Gets halves (critical nowhere (nowhere_based b) k) (tokens_of (named_marks name ps a (blank (block_words (map written ns) 0 rest)))) (tokens_of rest) (items_at nowhere (item_is.Func (headed b i name ps a) true (map unplaced_node ns)))) same
    (present (ap (λ s. critical_rule nowhere (nowhere_based b) k s (at (Word name))) (name_sort halves name h.name_is))
    (opens halves (head_then halves true b k name ps a (critical nowhere (nowhere_based b) k) (λ h. take Sort.OpenBrace >>= λ o. function_with nowhere h true) (blank (block_words (map written ns) 0 rest)) h
    (word {s = Sort.OpenBrace} (ap (λ s. is Sort.OpenBrace s) (brace_sort halves)) (body_then halves true (headed b k name ps a) ns (critical nowhere (nowhere_based b) k) (λ x. gives x) rest s done)))))
critical_function halves k (suc n) j b name ps a ns rest e low h s =
    present (allowed (ap (λ s. critical_rule nowhere (nowhere_based b) k s (at (Punct (codes "*")))) (star_sort halves)) (le-leb (k + 1) 4294967295 (omega (arith, e, low))))
    (parts (critical_function halves (k + 1) n j b name ps a ns rest (omega (arith, e)) low h s) done)

-- names are kept
still_named : (ps : List Decl) → are_named ps ≡ true → are_named (map unplaced_decl ps) ≡ true
still_named ps h = names_kept ps ∙ h

head_parts : (named : Bool) (h : Head) → is_shaped_head named h ≡ true → (is_named_base h.base ≡ true) × ((h.stars ≤ 4294967295) × Headed named h.name h.params h.ann)
head_parts named h e =
    let a = both (is_named_base h.base) (are_stars h.stars && (is_name h.name && (list_all (is_shaped_parameter named) h.params && maybe (is_annotation_at 0) h.ann))) e in
    let b = both (are_stars h.stars) (is_name h.name && (list_all (is_shaped_parameter named) h.params && maybe (is_annotation_at 0) h.ann)) a.1 in
    let c = both (is_name h.name) (list_all (is_shaped_parameter named) h.params && maybe (is_annotation_at 0) h.ann) b.1 in
    let d = both (list_all (is_shaped_parameter named) h.params) (maybe (is_annotation_at 0) h.ann) c.1 in
    (a.0, (leb-true h.stars 4294967295 b.0, record { name_is = c.0; are = d.0; annotation = d.1 }))

blank_base : (b : Base) (m : List Mark) → tokens_of (base_name b (blank m)) ≡ tokens_of (base_name b m)
blank_base (base_type.Int k) m = refl
blank_base (base_type.Struct place name) m = refl
blank_base base_type.Void m = refl
blank_base base_type.Lock m = refl

-- a head without a mark before it, and what ends it
head_item : (halves : Bool) (h : Head) (m : Marks) (rest : List Mark) (v : List Item) → is_shaped_head false h ≡ true → IsEnd halves (unplaced_head h) m rest v → Gets halves (part item) (tokens_of (printed_head h (m rest))) (tokens_of rest) v
head_item halves h m rest v s g =
    let p = head_parts false h s in
    let behind : List Mark = printed_stars h.stars (named_marks h.name h.params h.ann (m rest)) in
    subst (λ (ts : List Token). Gets halves (part item) ts (tokens_of rest) v) (sym (blank_base h.base behind))
    (item_from_base halves h.base behind rest v p.0 (outer_function halves 0 h.stars h.stars (unplaced_base h.base) h.name h.params h.ann m rest v (omega arith) p.1.0 p.1.1 g))

proto_reread : (halves : Bool) (h : Head) (rest : List Mark) → is_shaped_head false h ≡ true → Gets halves (part item) (tokens_of (printed_head h (semicolon rest))) (tokens_of rest) (items_at nowhere (item_is.Proto (unplaced_head h) false))
proto_reread halves h rest s = head_item halves h semicolon rest _ s (record { by = present (ap (λ s. function_end_rule nowhere (unplaced_head h) s (at (Punct (codes ";")))) (semicolon_sort halves)) done })

marked_base : (halves : Bool) (h : Head) (m : List Mark) → is_named_base h.base ≡ true → Gets halves (part base) (tokens_of (base_name h.base (blank m))) (tokens_of m) (nowhere_based (unplaced_base h.base))
marked_base halves h m s = subst (λ (ts : List Token). Gets halves (part base) ts (tokens_of m) (nowhere_based (unplaced_base h.base))) (sym (blank_base h.base m)) (base_reread halves h.base m s)

remote_reread : (h : Head) (rest : List Mark) → is_shaped_head false h ≡ true → Gets true (part item) (tokens_of (printed_word (codes "__remote") (blank (printed_head h (semicolon rest))))) (tokens_of rest) (items_at nowhere (item_is.Proto (unplaced_head h) true))
remote_reread h rest s =
    let p = head_parts false h s in
    present (ap (λ s. item_rule s (at (Word (codes "__remote")))) remote_sort)
    (parts (marked_base true h (printed_stars h.stars (named_marks h.name h.params h.ann (semicolon rest))) p.0)
    (parts (remote_function true 0 h.stars h.stars (unplaced_base h.base) h.name h.params h.ann rest (omega arith) p.1.0 p.1.1) done))

critical_reread : (halves : Bool) (h : Head) (ns : List Node) (rest : List Mark) → is_shaped_head true h ≡ true → is_shaped_body ns ≡ true → Gets halves (part item) (tokens_of (printed_word (codes "__critical") (blank (printed_head h (blank (block_words (map written ns) 0 rest)))))) (tokens_of rest) (items_at nowhere (item_is.Func (unplaced_head h) true (map unplaced_node ns)))
critical_reread halves h ns rest s b =
    let p = head_parts true h s in
    present (ap (λ s. item_rule s (at (Word (codes "__critical")))) (critical_sort halves))
    (parts (marked_base halves h (printed_stars h.stars (named_marks h.name h.params h.ann (blank (block_words (map written ns) 0 rest)))) p.0)
    (parts (critical_function halves 0 h.stars h.stars (unplaced_base h.base) h.name h.params h.ann ns rest (omega arith) p.1.0 p.1.1 b) done))

function_reread : (halves : Bool) (h : Head) (ns : List Node) (rest : List Mark) → is_shaped_head false h ≡ true → are_named h.params ≡ true → is_shaped_body ns ≡ true → Gets halves (part item) (tokens_of (printed_head h (blank (block_words (map written ns) 0 rest)))) (tokens_of rest) (items_at nowhere (item_is.Func (unplaced_head h) false (map unplaced_node ns)))
function_reread halves h ns rest s n b = head_item halves h (blank ▸ block_words (map written ns) 0) rest _ s (record {
  by = present (allowed (ap (λ s. function_end_rule nowhere (unplaced_head h) s (at (Punct (codes "{")))) (brace_sort halves)) (still_named h.params n)) (body_then halves false (unplaced_head h) ns (function_end nowhere (unplaced_head h)) (λ x. gives x) rest b done);
})

-- ---- items and trees

define_reread : (halves : Bool) (name : List ℕ) (is_negative : Bool) (n : ℕ) (k : Kind) (rest : List Mark) → Gets halves (part item) (tokens_of (item_words (item_is.Define name is_negative n k) rest)) (tokens_of rest) (items_at nowhere (item_is.Define name is_negative n k))
unfolding sort_of
define_reread halves name is_negative n k rest = present refl done

what_reread : (halves : Bool) (w : ItemWhat) (rest : List Mark) → is_shaped_what halves w ≡ true → Gets halves (part item) (tokens_of (item_words w rest)) (tokens_of rest) (items_at nowhere (unplaced_what_item w))
what_reread halves (item_is.Define name is_negative n kind) rest h = define_reread halves name is_negative n kind rest
what_reread halves (item_is.Struct place name ds) rest h = struct_reread halves place name ds rest h
what_reread halves (item_is.Enum es) rest h = enum_reread halves es rest h
what_reread halves (item_is.Global d i) rest h = global_reread halves d i rest h
what_reread halves (item_is.Proto h false) rest s = proto_reread halves h rest (both (is_shaped_head false h) true s).0
what_reread true (item_is.Proto h true) rest s = remote_reread h rest (both (is_shaped_head false h) true s).0
what_reread false (item_is.Proto h true) rest s = absurd (false≢true (both (is_shaped_head false h) false s).1)
what_reread halves (item_is.Func h true ns) rest s = let k = both (is_shaped_head true h) (is_shaped_body ns) s in critical_reread halves h ns rest k.0 k.1
what_reread halves (item_is.Func h false ns) rest s =
    let k = both (is_shaped_head false h) (are_named h.params && is_shaped_body ns) s in
    let j = both (are_named h.params) (is_shaped_body ns) k.1 in
    function_reread halves h ns rest k.0 j.0 j.1

items_are : (halves : Bool) (is : List Item) → list_all (is_shaped_item halves) is ≡ true → AllRead halves items (map item_lines is) (map alone (map unplaced_item is))
items_are halves [] h = tt
items_are halves (i ∷ is) h =
    let k = both (is_shaped_item halves i) (list_all (is_shaped_item halves) is) h in
    (λ rest. what_reread halves i.what (Newline ∷ rest) k.0, items_are halves is k.1)

-- the tokens that a shaped tree is printed by, all at one place, are the tree with its places set to that one
pub trees_reread : (halves : Bool) (tree : Tree) → is_shaped_tree halves tree ≡ true → Reads halves (all_at (spelled tree)) (unplaced_tree tree)
unfolding spelled sort_of
trees_reread halves tree h = record {
  items_of = map alone (map unplaced_item tree.items);
  end = at End;
  found = many_reread halves true items (map item_lines tree.items) (map alone (map unplaced_item tree.items)) [] [] (allowed_always (map item_lines tree.items)) (items_are halves tree.items h);
  at_end = refl;
  is_tree = ap (λ (is : List Item). record { items = is }) (sym (joined_alone (map unplaced_item tree.items)));
}
