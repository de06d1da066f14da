-- Printed declarations are read again.
use Rattle.std.proofs.Common.{◌≡◌, refl, sym, subst, ap, ◌∙◌, arith, ℕ, zero, suc, ◌+◌, ◌≤◌, Bool, true, false, not, Option, Some, None, List, [], ◌∷◌, ◌++◌, map, append_assoc}
use Rattle.std.specs.Prelude.{◌&&◌, is_none, codes}
use Rattle.std.specs.List.{list_all}
use Rattle.std.specs.Option.{option_map}
use Rattle.std.proofs.lemmas.Bool.{false≢true, leb-true}
use Rattle.std.proofs.lemmas.List.{append-nil}
use Rattle.mdr_syntax.specs.declared.token.Lexeme.TheVariants.{Word, Punct}
use Rattle.mdr_syntax.specs.declared.token.Token.{Token}
use Rattle.mdr_syntax.specs.declared.tree.AnnText.{AnnText}
use Rattle.mdr_syntax.specs.declared.tree.Base.{Base}
use Rattle.mdr_syntax.specs.declared.tree.Base.TheVariants as base_type
use Rattle.mdr_syntax.specs.declared.tree.Const.{Const}
use Rattle.mdr_syntax.specs.declared.tree.Decl.{Decl, roll-Decl, out-Decl, out-roll-Decl}
use Rattle.mdr_syntax.specs.declared.tree.Decl.TheOpen.{Decl-F}
use Rattle.mdr_syntax.specs.declared.tree.Decl.TheFolds.{ind-Decl, map-Decl, fold-roll-Decl}
use Rattle.mdr_print.specs.Marks.{Mark, Marks, blank_unless, separated}
use Rattle.mdr_print.specs.Spelled.{lexemes}
use Rattle.mdr_print.specs.Types.{kind_name, base_name, stars as printed_stars}
use Rattle.mdr_print.specs.Declarations.{Declared, annotated, sized_name, core, is_bare, const_if, is_void_base, parameter_list, whole_of, alone_shown, decl_shown, shown_decl, declaration, declarator as declarator_of}
use Rattle.mdr_roundtrip.specs.Printable.{all}
use Rattle.mdr_roundtrip.specs.PrintableDeclarations.{maybe}
use Rattle.mdr_roundtrip.proofs.Tests.{both}
use Rattle.mdr_roundtrip.proofs.Parts.{suc_not_zero}
use Rattle.mdr_grammar.specs.declared.parts.Specifier.{Specifier}
use Rattle.mdr_grammar.specs.declared.sort.Sort.{Sort}
use Rattle.mdr_grammar.specs.Sorts.{sort_of, words}
use Rattle.mdr_grammar.specs.Forms.{Nonterminal, Value, Right, ◌>>=◌, and_then, or_else, where_allowed}
use Rattle.mdr_grammar.specs.Forms.Part.{specifiers, annotation, declarator, parameter, field}
use Rattle.mdr_grammar.specs.Forms.Nonterminal.{part, commas, parameters, after_void}
use Rattle.mdr_grammar.specs.Forms.Separated.{parameters_at}
use Rattle.mdr_grammar.specs.Forms.Right.{gives}
use Rattle.mdr_grammar.specs.Forms.Rule.{given}
use Rattle.mdr_grammar.specs.Expressions.{may_open, base_rule}
use Rattle.mdr_grammar.specs.Declarations.{unnamed, void_base, with_annotation, specifiers_rule, annotation_rule, annotated_parameter, parameter_of, parameter_rule, parameter_declarator_rule, more_parameters, after_void_rule, parameters_rule}
use Rattle.mdr_grammar.specs.Grammar.{rule, Gets, Follows}
use Rattle.mdr_grammar.specs.Grammar.Gets.{absent, present}
use Rattle.mdr_grammar.specs.Grammar.Follows.{done, both as parts}
use Rattle.mdr_roundtrip.specs.Shaped.{is_name, is_named_base, are_stars}
use Rattle.mdr_roundtrip.specs.Unplaced.{nowhere, at, all_at, unplaced_base}
use Rattle.mdr_roundtrip.specs.Initialised.{unplaced_const, is_shaped_const}
use Rattle.mdr_roundtrip.specs.Declarations.{Standing, unplaced_annotation, decl_unplaced, unplaced_decl, may_be_named, may_be_sized, is_annotation_at, as_parameter, are_parameters, decl_shaped, is_shaped_decl}
use Rattle.mdr_roundtrip.proofs.Following.{through}
use Rattle.mdr_roundtrip.proofs.Signs.{comma_sort, struct_sort, void_sort, lock_sort, kind_sort}
use Rattle.mdr_roundtrip.proofs.Rereading.{tokens_of, no_rule}
use Rattle.mdr_roundtrip.proofs.RereadForms.{base_reread, blank_gone}
use Rattle.mdr_roundtrip.proofs.RereadParts.{through_there, names, annotation_reread, annotated_reread, ArePointed, bare, nowhere_based, declarator_reread, parameter_declarator_reread, parameter_declarator_there}

const_sort : (halves : Bool) → sort_of halves (Word (codes "const")) ≡ Sort.Qualifier
unfolding sort_of words
const_sort halves = refl

-- ---- a parameter

-- one with these parts, as it is read
abbrev made : Base → (stars : ℕ) → Option (List ℕ) → Option (List Decl) → Option AnnText → Decl
made b n name us a = roll-Decl (record { place = nowhere; name = name; base = b; stars = n; size = None; fun = us; ann = a })

pub with_is : (l : Decl-F Decl) (a : Option AnnText) → with_annotation (roll-Decl l) a ≡ roll-Decl (record l { ann = a })
with_is l a = ap (λ (z : Decl-F Decl). roll-Decl (record z { ann = a })) (out-roll-Decl l)

-- what is known of its parts
record Parts (halves named : Bool) (d : ℕ) (b : Base) (n : ℕ) (name : Option (List ℕ)) (fun : Option (List Declared)) (us : Option (List Decl)) (a : Option AnnText) : Type 0 where
  base : is_named_base b ≡ true
  stars : n ≤ 4294967295
  name_is : may_be_named (Standing.Parameter named) name ≡ true
  pointed : ArePointed halves d fun us
  annotation_is : maybe (is_annotation_at d) a ≡ true

-- what stands behind its base
abbrev declarator_marks : (n : ℕ) → Option (List ℕ) → Option (List Declared) → Option AnnText → Marks
declarator_marks n name fun a rest = printed_stars n (core (sized_name name None) fun (annotated a rest))

follows_declarator : (halves : Bool) (d : ℕ) (b : Base) (n : ℕ) (name : Option (List ℕ)) (us : Option (List Decl)) (a : Option AnnText) → maybe (is_annotation_at d) a ≡ true
    → (m : Nonterminal) (k : Decl → Right (Value m)) (rest : List Mark) {end : List Token} {v : Value m} → Follows halves m (k (made b n name us (option_map unplaced_annotation a))) (tokens_of rest) end v
    → Follows halves m (annotated_parameter d (bare (nowhere_based b) n name None us) >>= k) (tokens_of (annotated a rest)) end v
follows_declarator halves d b n name us a h m k rest {end} {v} f =
    parts (annotated_reread halves d a rest h)
    (subst (λ (x : Decl). Follows halves m (k x) (tokens_of rest) end v) (sym (with_is (record { place = nowhere; name = name; base = b; stars = n; size = None; fun = us; ann = None }) (option_map unplaced_annotation a))) f)

follows_base : (halves named : Bool) (d : ℕ) (b : Base) (n : ℕ) (name : Option (List ℕ)) (fun : Option (List Declared)) (us : Option (List Decl)) (a : Option AnnText) → Parts halves named d b n name fun us a
    → (m : Nonterminal) (k : Decl → Right (Value m)) (rest : List Mark) {end : List Token} {v : Value m} → Follows halves m (k (made (unplaced_base b) n name us (option_map unplaced_annotation a))) (tokens_of rest) end v
    → Follows halves m (parameter_of named d (nowhere_based (unplaced_base b)) >>= k) (tokens_of (declarator_marks n name fun a rest)) end v
follows_base halves named d b n name fun us a p m k rest {end} {v} f =
    parts (parameter_declarator_reread halves named d 0 n n (unplaced_base b) name fun us (annotated a rest) (omega arith) p.stars p.name_is p.pointed)
    (follows_declarator halves d (unplaced_base b) n name us a p.annotation_is m k rest f)

parameter_is : (named : Bool) (d : ℕ) (s : Sort) (t : Token) (r : Right Specifier) → base_rule s t ≡ given true r → parameter_rule named d s t ≡ given true (r >>= λ b. parameter_of named d b)
parameter_is named d Sort.Qualifier t r e = no_rule e
parameter_is named d s t r e = ap (λ o. and_then o (λ b. parameter_of named d b)) e

specifiers_are : (s : Sort) (t : Token) (r : Right Specifier) → base_rule s t ≡ given true r → specifiers_rule s t ≡ given true r
specifiers_are Sort.Qualifier t r e = no_rule e
specifiers_are s t r e = e

pub right_gives : {A : Type 0} (r : Right A) → (r >>= gives) ≡ r
right_gives (Right.gives x) = refl
right_gives (Right.takes s k) = ap (λ f. Right.takes s f) (λ i t. right_gives (k t) i)
right_gives (Right.then n k) = ap (λ f. Right.then n f) (λ i v. right_gives (k v) i)

pub specifiers_reread : (halves : Bool) (b : Base) (rest : List Mark) → is_named_base b ≡ true → Gets halves (part specifiers) (tokens_of (base_name b rest)) (tokens_of rest) (nowhere_based (unplaced_base b))
specifiers_reread halves b rest h = through halves (λ x. gives x) refl (λ s t r e. specifiers_are s t r e ∙ ap (λ x. given true x) (sym (right_gives r))) (base_reread halves b rest h) done

abbrev whole_marks : Base → (n : ℕ) → Option (List ℕ) → Option (List Declared) → Option AnnText → Marks
whole_marks b n name fun a rest = base_name b (blank_unless (is_bare n name fun) (declarator_marks n name fun a rest))

parameter_reread : (halves named : Bool) (d : ℕ) (b : Base) (n : ℕ) (name : Option (List ℕ)) (fun : Option (List Declared)) (us : Option (List Decl)) (a : Option AnnText) (rest : List Mark) → Parts halves named d b n name fun us a
    → Gets halves (part (parameter named d)) (tokens_of (whole_marks b n name fun a rest)) (tokens_of rest) (made (unplaced_base b) n name us (option_map unplaced_annotation a))
parameter_reread halves named d b n name fun us a rest p =
    through halves (λ x. parameter_of named d x) refl (λ s t r e. parameter_is named d s t r e)
    (base_reread halves b (blank_unless (is_bare n name fun) (declarator_marks n name fun a rest)) p.base)
    (subst (λ (ts : List Token). Follows halves (part (parameter named d)) (parameter_of named d (nowhere_based (unplaced_base b))) ts (tokens_of rest) (made (unplaced_base b) n name us (option_map unplaced_annotation a))) (sym (blank_gone (is_bare n name fun) (declarator_marks n name fun a rest)))
    (follows_base halves named d b n name fun us a p (part (parameter named d)) (λ x. gives x) rest done))

-- ---- lists of parameters

-- what a list asks of one of its parameters
pub record IsParameter (halves named : Bool) (d : ℕ) (m : Declared) (u : Decl) : Type 0 where
  pub read : (rest : List Mark) → Gets halves (part (parameter named d)) (tokens_of (m.whole rest)) (tokens_of rest) u
  pub qualified : (rest : List Mark) {end : List Token} {us : List Decl} → Gets halves (commas (parameters_at named d) (u ∷ [])) (tokens_of rest) end us → Gets halves (parameters named d) (at (Word (codes "const")) ∷ tokens_of (m.whole rest)) end us
  pub first : m.is_void ≡ false → (rest : List Mark) {end : List Token} {us : List Decl} → Gets halves (commas (parameters_at named d) (u ∷ [])) (tokens_of rest) end us → Gets halves (parameters named d) (tokens_of (m.whole rest)) end us
  pub void : m.is_void ≡ true → (rest : List Mark) {end : List Token} {us : List Decl} → Gets halves (after_void named d nowhere) (tokens_of rest) end us → Gets halves (parameters named d) (tokens_of (m.whole rest)) end us
  pub void_is : m.is_void ≡ true → (named ≡ false) × (u ≡ unnamed (void_base nowhere) 0 None)

abbrev pub AreListed : Bool → Bool → ℕ → List Declared → List Decl → Type 0
AreListed halves named d [] [] = Unit {0}
AreListed halves named d [] (u ∷ us) = ⊥
AreListed halves named d (m ∷ ms) [] = ⊥
AreListed halves named d (m ∷ ms) (u ∷ us) = IsParameter halves named d m u × AreListed halves named d ms us

commas_reread : (halves named : Bool) (d : ℕ) (ms : List Declared) (us so_far : List Decl) (rest : List Mark) → AreListed halves named d ms us → Gets halves (commas (parameters_at named d) so_far) (tokens_of (separated false (map whole_of ms) rest)) (tokens_of rest) (so_far ++ us)
commas_reread halves named d [] [] so_far rest h = subst (λ (us : List Decl). Gets halves (commas (parameters_at named d) so_far) (tokens_of rest) (tokens_of rest) us) (sym (append-nil so_far)) (absent refl)
commas_reread halves named d [] (u ∷ us) so_far rest h = absurd h
commas_reread halves named d (m ∷ ms) [] so_far rest h = absurd h
commas_reread halves named d (m ∷ ms) (u ∷ us) so_far rest h =
    let here = h.0.read (separated false (map whole_of ms) rest) in
    let later = commas_reread halves named d ms us (so_far ++ (u ∷ [])) rest h.1 in
    subst (λ (xs : List Decl). Gets halves (commas (parameters_at named d) so_far) (tokens_of (separated false (map whole_of (m ∷ ms)) rest)) (tokens_of rest) xs) (append_assoc so_far (u ∷ []) us)
    (present (ap (λ s. rule (commas (parameters_at named d) so_far) s (at (Punct (codes ",")))) (comma_sort halves)) (parts here (parts later done)))

-- behind a first parameter that is `void`
behind_void : (halves named : Bool) (d : ℕ) (m : Declared) (ms : List Declared) (u : Decl) (us : List Decl) (rest : List Mark) → named ≡ false → AreListed halves named d (m ∷ ms) (u ∷ us) → Gets halves (after_void named d nowhere) (tokens_of (separated false (map whole_of (m ∷ ms)) rest)) (tokens_of rest) (unnamed (void_base nowhere) 0 None ∷ u ∷ us)
behind_void halves true d m ms u us rest e h = absurd (false≢true (sym e))
behind_void halves false d m ms u us rest e h =
    present (ap (λ s. after_void_rule false d nowhere s (at (Punct (codes ",")))) (comma_sort halves))
    (parts (h.0.read (separated false (map whole_of ms) rest)) (parts (commas_reread halves false d ms us (unnamed (void_base nowhere) 0 None ∷ u ∷ []) rest h.1) done))

pub list_reread : (halves named : Bool) (d : ℕ) (ms : List Declared) (us : List Decl) (rest : List Mark) → AreListed halves named d ms us → Gets halves (parameters named d) (tokens_of (parameter_list ms rest)) (tokens_of rest) us
list_reread halves named d [] [] rest h = present (ap (λ s. parameters_rule named d s (at (Word (codes "void")))) (void_sort halves)) (parts (absent refl) done)
list_reread halves named d [] (u ∷ us) rest h = absurd h
list_reread halves named d (m ∷ ms) [] rest h = absurd h
list_reread halves named d (m ∷ []) (u ∷ []) rest h = on m.is_void refl
  where
    on : (b : Bool) → m.is_void ≡ b → Gets halves (parameters named d) (tokens_of (const_if b (m.whole rest))) (tokens_of rest) (u ∷ [])
    on true e = h.0.qualified rest (absent refl)
    on false e = h.0.first e rest (absent refl)
list_reread halves named d (m ∷ []) (u ∷ w ∷ us) rest h = absurd h.1
list_reread halves named d (m ∷ l ∷ ms) (u ∷ []) rest h = absurd h.1
list_reread halves named d (m ∷ l ∷ ms) (u ∷ w ∷ us) rest h = on m.is_void refl
  where
    on : (b : Bool) → m.is_void ≡ b → Gets halves (parameters named d) (tokens_of (m.whole (separated false (map whole_of (l ∷ ms)) rest))) (tokens_of rest) (u ∷ w ∷ us)
    on true e =
        let k = h.0.void_is e in
        h.0.void e (separated false (map whole_of (l ∷ ms)) rest)
        (subst (λ (x : Decl). Gets halves (after_void named d nowhere) (tokens_of (separated false (map whole_of (l ∷ ms)) rest)) (tokens_of rest) (x ∷ w ∷ us)) (sym k.1) (behind_void halves named d l ms w us rest k.0 h.1))
    on false e = h.0.first e (separated false (map whole_of (l ∷ ms)) rest) (commas_reread halves named d (l ∷ ms) (w ∷ us) (u ∷ []) rest h.1)

-- ---- what a parameter is to a list

after_is : (named : Bool) (d : ℕ) (s : Sort) (t : Token) (r : Right Decl) → parameter_declarator_rule named d (void_base nowhere) 0 s t ≡ given true r → after_void_rule named d nowhere s t ≡ given true (r >>= λ x. annotated_parameter d x >>= λ y. more_parameters named d y)
after_is named d Sort.Comma t r e = no_rule e
after_is named d s t r e = ap (λ o. or_else (and_then o (λ x. annotated_parameter d x >>= λ y. more_parameters named d y)) (where_allowed (not named) (and_then (annotation_rule d s t) (λ a. more_parameters named d (with_annotation (unnamed (void_base nowhere) 0 None) (Some a)))))) e

annotated_is : (d : ℕ) (s : Sort) (t : Token) (r : Right AnnText) → annotation_rule d s t ≡ given true r → after_void_rule false d nowhere s t ≡ given true (r >>= λ a. more_parameters false d (with_annotation (unnamed (void_base nowhere) 0 None) (Some a)))
annotated_is d Sort.Array t r e = ap (λ o. where_allowed (not false) (and_then o (λ a. more_parameters false d (with_annotation (unnamed (void_base nowhere) 0 None) (Some a))))) e
annotated_is d Sort.Sentinel t r e = ap (λ o. where_allowed (not false) (and_then o (λ a. more_parameters false d (with_annotation (unnamed (void_base nowhere) 0 None) (Some a))))) e
annotated_is d Sort.NullTerm t r e = ap (λ o. where_allowed (not false) (and_then o (λ a. more_parameters false d (with_annotation (unnamed (void_base nowhere) 0 None) (Some a))))) e
annotated_is d Sort.Opaque t r e = ap (λ o. where_allowed (not false) (and_then o (λ a. more_parameters false d (with_annotation (unnamed (void_base nowhere) 0 None) (Some a))))) e
annotated_is d _ t r e = no_rule e

-- as the first of a list, where its base isn't `void`
abbrev IsFirst : (halves named : Bool) (d : ℕ) (b : Base) (n : ℕ) (name : Option (List ℕ)) (fun : Option (List Declared)) (us : Option (List Decl)) (a : Option AnnText) (rest : List Mark) → Type 0
IsFirst halves named d b n name fun us a rest = (end : List Token) (vs : List Decl) → Gets halves (commas (parameters_at named d) (made (unplaced_base b) n name us (option_map unplaced_annotation a) ∷ [])) (tokens_of rest) end vs → Gets halves (parameters named d) (tokens_of (whole_marks b n name fun a rest)) end vs

behind_base : (halves named : Bool) (d : ℕ) (b : Base) (n : ℕ) (name : Option (List ℕ)) (fun : Option (List Declared)) (us : Option (List Decl)) (a : Option AnnText) (rest : List Mark) → Parts halves named d b n name fun us a → {end : List Token} {vs : List Decl} → Gets halves (commas (parameters_at named d) (made (unplaced_base b) n name us (option_map unplaced_annotation a) ∷ [])) (tokens_of rest) end vs
    → Follows halves (parameters named d) (parameter_of named d (nowhere_based (unplaced_base b)) >>= λ x. more_parameters named d x) (tokens_of (blank_unless (is_bare n name fun) (declarator_marks n name fun a rest))) end vs
behind_base halves named d b n name fun us a rest p {end} {vs} g =
    subst (λ (ts : List Token). Follows halves (parameters named d) (parameter_of named d (nowhere_based (unplaced_base b)) >>= λ x. more_parameters named d x) ts end vs) (sym (blank_gone (is_bare n name fun) (declarator_marks n name fun a rest)))
    (follows_base halves named d b n name fun us a p (parameters named d) (λ x. more_parameters named d x) rest (parts g done))

declared_void : (halves named : Bool) (d : ℕ) (n : ℕ) (name : Option (List ℕ)) (fun : Option (List Declared)) (us : Option (List Decl)) (a : Option AnnText) (rest : List Mark) → Parts halves named d base_type.Void n name fun us a → is_bare n name fun ≡ false → IsFirst halves named d base_type.Void n name fun us a rest
declared_void halves named d n name fun us a rest p e end vs g =
    present (ap (λ s. parameters_rule named d s (at (Word (codes "void")))) (void_sort halves))
    (parts
    (subst (λ (ts : List Token). Gets halves (after_void named d nowhere) ts end vs) (sym (blank_gone (is_bare n name fun) (declarator_marks n name fun a rest)))
    (through_there halves (λ x. annotated_parameter d x >>= λ y. more_parameters named d y) (λ s t r q. after_is named d s t r q)
    (parameter_declarator_there halves named d n base_type.Void name fun us (annotated a rest) p.stars p.name_is p.pointed e)
    (follows_declarator halves d base_type.Void n name us a p.annotation_is (after_void named d nowhere) (λ y. more_parameters named d y) rest (parts g done))))
    done)

first_reread : (halves named : Bool) (d : ℕ) (b : Base) (n : ℕ) (name : Option (List ℕ)) (fun : Option (List Declared)) (us : Option (List Decl)) (a : Option AnnText) (rest : List Mark) → Parts halves named d b n name fun us a → (is_void_base b && (is_bare n name fun && is_none a)) ≡ false → IsFirst halves named d b n name fun us a rest
first_reread halves named d (base_type.Int k) n name fun us a rest p e end vs g = present (ap (λ s. parameters_rule named d s (at (Word (kind_name k)))) (kind_sort halves k)) (behind_base halves named d (base_type.Int k) n name fun us a rest p g)
first_reread halves named d (base_type.Struct place s) n name fun us a rest p e end vs g = present (ap (λ s. parameters_rule named d s (at (Word (codes "struct")))) (struct_sort halves)) (names halves s p.base (behind_base halves named d (base_type.Struct place s) n name fun us a rest p g))
first_reread halves named d base_type.Lock n name fun us a rest p e end vs g = present (ap (λ s. parameters_rule named d s (at (Word (codes "combolock_t")))) (lock_sort halves)) (behind_base halves named d base_type.Lock n name fun us a rest p g)
first_reread halves named d base_type.Void zero None None us None rest p e end vs g = absurd (false≢true (sym e))
first_reread halves true d base_type.Void zero None None us (Some a) rest p e end vs g = absurd (false≢true p.name_is)
first_reread halves false d base_type.Void zero None None (Some us) (Some a) rest p e end vs g = absurd p.pointed
first_reread halves false d base_type.Void zero None None None (Some a) rest p e end vs g =
    present (ap (λ s. parameters_rule false d s (at (Word (codes "void")))) (void_sort halves))
    (parts
    (through halves {n = part (annotation d)} (λ x. more_parameters false d (with_annotation (unnamed (void_base nowhere) 0 None) (Some x))) refl (λ s t r q. annotated_is d s t r q)
    (annotation_reread halves d a rest p.annotation_is)
    (subst (λ (x : Decl). Follows halves (after_void false d nowhere) (more_parameters false d x) (tokens_of rest) end vs) (sym (with_is (record { place = nowhere; name = None; base = base_type.Void; stars = 0; size = None; fun = None; ann = None }) (Some (unplaced_annotation a)))) (parts g done)))
    done)
first_reread halves named d base_type.Void zero None (Some ds) us a rest p e end vs g = declared_void halves named d zero None (Some ds) us a rest p refl end vs g
first_reread halves named d base_type.Void zero (Some name) fun us a rest p e end vs g = declared_void halves named d zero (Some name) fun us a rest p refl end vs g
first_reread halves named d base_type.Void (suc n) name fun us a rest p e end vs g = declared_void halves named d (suc n) name fun us a rest p (rw (suc_not_zero n) refl) end vs g

void_then : (b : Base) (n : ℕ) (name : Option (List ℕ)) (fun : Option (List Declared)) (a : Option AnnText) → (is_void_base b && (is_bare n name fun && is_none a)) ≡ true → (is_void_base b ≡ true) × ((is_bare n name fun ≡ true) × (is_none a ≡ true))
void_then b n name fun a e =
    let k = both (is_void_base b) (is_bare n name fun && is_none a) e in
    (k.0, both (is_bare n name fun) (is_none a) k.1)

void_reread : (halves named : Bool) (d : ℕ) (b : Base) (n : ℕ) (name : Option (List ℕ)) (fun : Option (List Declared)) (a : Option AnnText) (rest : List Mark) (end : List Token) (vs : List Decl) → (is_void_base b && (is_bare n name fun && is_none a)) ≡ true → Gets halves (after_void named d nowhere) (tokens_of rest) end vs → Gets halves (parameters named d) (tokens_of (whole_marks b n name fun a rest)) end vs
void_reread halves named d base_type.Void zero None None None rest end vs e g = present (ap (λ s. parameters_rule named d s (at (Word (codes "void")))) (void_sort halves)) (parts g done)
void_reread halves named d base_type.Void zero None None (Some a) rest end vs e g = absurd (false≢true e)
void_reread halves named d base_type.Void zero None (Some ds) a rest end vs e g = absurd (false≢true e)
void_reread halves named d base_type.Void zero (Some name) fun a rest end vs e g = absurd (false≢true e)
void_reread halves named d base_type.Void (suc n) name fun a rest end vs e g = let k = suc_not_zero n in absurd (false≢true (rw k at e))
void_reread halves named d (base_type.Int k) n name fun a rest end vs e g = absurd (false≢true e)
void_reread halves named d (base_type.Struct place s) n name fun a rest end vs e g = absurd (false≢true e)
void_reread halves named d base_type.Lock n name fun a rest end vs e g = absurd (false≢true e)

void_made : (halves named : Bool) (d : ℕ) (b : Base) (n : ℕ) (name : Option (List ℕ)) (fun : Option (List Declared)) (us : Option (List Decl)) (a : Option AnnText) → Parts halves named d b n name fun us a → (is_void_base b && (is_bare n name fun && is_none a)) ≡ true → (named ≡ false) × (made (unplaced_base b) n name us (option_map unplaced_annotation a) ≡ unnamed (void_base nowhere) 0 None)
void_made halves true d base_type.Void zero None None us None p e = absurd (false≢true p.name_is)
void_made halves false d base_type.Void zero None None None None p e = (refl, refl)
void_made halves false d base_type.Void zero None None (Some us) None p e = absurd p.pointed
void_made halves named d base_type.Void zero None None us (Some a) p e = absurd (false≢true e)
void_made halves named d base_type.Void zero None (Some ds) us a p e = absurd (false≢true e)
void_made halves named d base_type.Void zero (Some name) fun us a p e = absurd (false≢true e)
void_made halves named d base_type.Void (suc n) name fun us a p e = let k = suc_not_zero n in absurd (false≢true (rw k at e))
void_made halves named d (base_type.Int k) n name fun us a p e = absurd (false≢true e)
void_made halves named d (base_type.Struct place s) n name fun us a p e = absurd (false≢true e)
void_made halves named d base_type.Lock n name fun us a p e = absurd (false≢true e)

is_parameter : (halves named : Bool) (d : ℕ) (b : Base) (n : ℕ) (name : Option (List ℕ)) (fun : Option (List Declared)) (us : Option (List Decl)) (a : Option AnnText) (alone : Marks) → Parts halves named d b n name fun us a
    → IsParameter halves named d (record { alone = alone; whole = whole_marks b n name fun a; is_void = is_void_base b && (is_bare n name fun && is_none a) }) (made (unplaced_base b) n name us (option_map unplaced_annotation a))
is_parameter halves named d b n name fun us a alone p = record {
  read = λ rest. parameter_reread halves named d b n name fun us a rest p;
  qualified = λ rest {end} {us = vs} g.
      present (ap (λ s. parameters_rule named d s (at (Word (codes "const")))) (const_sort halves))
      (parts (specifiers_reread halves b (blank_unless (is_bare n name fun) (declarator_marks n name fun a rest)) p.base) (behind_base halves named d b n name fun us a rest p g));
  first = λ e rest {end} {us = vs} g. first_reread halves named d b n name fun us a rest p e end vs g;
  void = λ e rest {end} {us = vs} g. void_reread halves named d b n name fun a rest end vs e g;
  void_is = λ e. void_made halves named d b n name fun us a p e;
}

-- ---- declarations, with what they are made of

-- a declaration by itself, part by part
pub record Apart (halves : Bool) (d : ℕ) (base : Base) (annotation : Option AnnText) (m : Declared) (u : Decl) : Type 0 where
  pub stars : ℕ
  pub name : List ℕ
  pub size : Option Const
  pub fun : Option (List Declared)
  pub read : Option (List Decl)
  pub few : stars ≤ 4294967295
  pub name_is : is_name name ≡ true
  pub size_is : maybe is_shaped_const size ≡ true
  pub pointed : ArePointed halves d fun read
  pub printed : (rest : List Mark) → m.alone rest ≡ printed_stars stars (core (sized_name (Some name) size) fun (annotated annotation rest))
  pub made_is : roll-Decl (record { place = nowhere; name = Some name; base = unplaced_base base; stars = stars; size = option_map unplaced_const size; fun = read; ann = option_map unplaced_annotation annotation }) ≡ u

-- a declaration by itself, its annotation apart
pub record IsAlone (halves : Bool) (d : ℕ) (base : Base) (annotation : Option AnnText) (m : Declared) (u : Decl) : Type 0 where
  pub plain : Decl
  pub base_is : is_named_base base ≡ true
  pub whole : (rest : List Mark) → tokens_of (m.whole rest) ≡ tokens_of (base_name base (m.alone rest))
  pub read : (rest : List Mark) → Gets halves (part (declarator d (nowhere_based (unplaced_base base)) 0)) (tokens_of (m.alone rest)) (tokens_of (annotated annotation rest)) plain
  pub annotation_is : maybe (is_annotation_at d) annotation ≡ true
  pub plain_has_none : (out-Decl plain).ann ≡ None
  pub parts_are : Apart halves d base annotation m u
  pub with : with_annotation plain (option_map unplaced_annotation annotation) ≡ u

pub record GoodDecl (halves : Bool) (x : Decl) : Type 0 where
  pub alone : (d : ℕ) → is_shaped_decl x Standing.Alone d ≡ true → IsAlone halves d (out-Decl x).base (out-Decl x).ann (shown_decl x) (unplaced_decl x)
  pub as_one : (named : Bool) (d : ℕ) → is_shaped_decl x (Standing.Parameter named) d ≡ true → IsParameter halves named d (shown_decl x) (unplaced_decl x)

-- what is known of the parts of a layer
record Shaped (s : Standing) (d : ℕ) (b : Base) (n : ℕ) (name : Option (List ℕ)) (size : Option Const) (fun : Option (List (Standing → ℕ → Bool))) (a : Option AnnText) : Type 0 where
  base : is_named_base b ≡ true
  stars : n ≤ 4294967295
  name_is : may_be_named s name ≡ true
  size_is : may_be_sized s size ≡ true
  fun_is : maybe (are_parameters d) fun ≡ true
  annotation_is : maybe (is_annotation_at d) a ≡ true

shaped_parts : (s : Standing) (d : ℕ) (x : Decl-F (Standing → ℕ → Bool)) → decl_shaped x s d ≡ true → Shaped s d x.base x.stars x.name x.size x.fun x.ann
shaped_parts s d x h =
    let a = both (is_named_base x.base) (are_stars x.stars && (may_be_named s x.name && (may_be_sized s x.size && (maybe (are_parameters d) x.fun && maybe (is_annotation_at d) x.ann)))) h in
    let b = both (are_stars x.stars) (may_be_named s x.name && (may_be_sized s x.size && (maybe (are_parameters d) x.fun && maybe (is_annotation_at d) x.ann))) a.1 in
    let c = both (may_be_named s x.name) (may_be_sized s x.size && (maybe (are_parameters d) x.fun && maybe (is_annotation_at d) x.ann)) b.1 in
    let e = both (may_be_sized s x.size) (maybe (are_parameters d) x.fun && maybe (is_annotation_at d) x.ann) c.1 in
    let f = both (maybe (are_parameters d) x.fun) (maybe (is_annotation_at d) x.ann) e.1 in
    record { base = a.0; stars = leb-true x.stars 4294967295 b.0; name_is = c.0; size_is = e.0; fun_is = f.0; annotation_is = f.1 }

-- parts that are put together as they are printed, and as they are read
abbrev shown_parts : Base → (n : ℕ) → Option (List ℕ) → Option Const → Option (List Declared) → Option AnnText → Declared
shown_parts b n name size fun a = decl_shown (record { place = nowhere; name = name; base = b; stars = n; size = size; fun = fun; ann = a })

abbrev read_parts : Base → (n : ℕ) → Option (List ℕ) → Option Const → Option (List Decl) → Option AnnText → Decl
read_parts b n name size us a = decl_unplaced (record { place = nowhere; name = name; base = b; stars = n; size = size; fun = us; ann = a })

sized_parameter : (halves named : Bool) (d : ℕ) (b : Base) (n : ℕ) (name : Option (List ℕ)) (size : Option Const) (fun : Option (List Declared)) (us : Option (List Decl)) (a : Option AnnText) → may_be_sized (Standing.Parameter named) size ≡ true → Parts halves named d b n name fun us a
    → IsParameter halves named d (shown_parts b n name size fun a) (read_parts b n name size us a)
sized_parameter halves named d b n name (Some c) fun us a s p = absurd (false≢true s)
sized_parameter halves named d b n name None fun us a s p = is_parameter halves named d b n name fun us a (alone_shown (record { place = nowhere; name = name; base = b; stars = n; size = None; fun = fun; ann = a })) p

no_blank : (b : Base) (t : Bool) (rest : List Mark) → tokens_of (base_name b (blank_unless t rest)) ≡ tokens_of (base_name b rest)
no_blank (base_type.Int k) t rest = ap (λ ts. at (Word (kind_name k)) ∷ ts) (blank_gone t rest)
no_blank (base_type.Struct place name) t rest = ap (λ ts. at (Word (codes "struct")) ∷ at (Word name) ∷ ts) (blank_gone t rest)
no_blank base_type.Void t rest = ap (λ ts. at (Word (codes "void")) ∷ ts) (blank_gone t rest)
no_blank base_type.Lock t rest = ap (λ ts. at (Word (codes "combolock_t")) ∷ ts) (blank_gone t rest)

alone_parts : (halves : Bool) (d : ℕ) (b : Base) (n : ℕ) (name : Option (List ℕ)) (size : Option Const) (fun : Option (List Declared)) (us : Option (List Decl)) (a : Option AnnText) → is_named_base b ≡ true → n ≤ 4294967295 → may_be_named Standing.Alone name ≡ true → maybe is_shaped_const size ≡ true → ArePointed halves d fun us → maybe (is_annotation_at d) a ≡ true
    → IsAlone halves d b a (shown_parts b n name size fun a) (read_parts b n name size us a)
alone_parts halves d b n None size fun us a g low h s p q = absurd (false≢true h)
alone_parts halves d b n (Some name) size fun us a g low h s p q = record {
  plain = bare (nowhere_based (unplaced_base b)) n (Some name) (option_map unplaced_const size) us;
  base_is = g;
  whole = λ rest. no_blank b (is_bare n (Some name) fun) (alone_shown (record { place = nowhere; name = Some name; base = b; stars = n; size = size; fun = fun; ann = a }) rest);
  read = λ rest. declarator_reread halves d 0 n n (nowhere_based (unplaced_base b)) name size fun us (annotated a rest) (omega arith) low h s p;
  annotation_is = q;
  parts_are = record { stars = n; name = name; size = size; fun = fun; read = us; few = low; name_is = h; size_is = s; pointed = p; printed = λ rest. refl; made_is = refl };
  plain_has_none = ap (λ (l : Decl-F Decl). l.ann) (out-roll-Decl (record { place = nowhere; name = Some name; base = unplaced_base b; stars = n; size = option_map unplaced_const size; fun = us; ann = None }));
  with = with_is (record { place = nowhere; name = Some name; base = unplaced_base b; stars = n; size = option_map unplaced_const size; fun = us; ann = None }) (option_map unplaced_annotation a);
}

-- ---- by induction

pub mapped : {X Y : Type 0} (f : X → Y) (x : Decl-F X) (fun : Option (List X)) → x.fun ≡ fun → (map-Decl X Y f x).fun ≡ option_map (map f) x.fun
mapped f x None e = rw e refl
mapped f x (Some ds) e = rw e refl

pub twice : {X Y : Type 0} (of : X → Decl) (f : Decl → Y) (l : Decl-F X) → (map-Decl Decl Y f (map-Decl X Decl of l)).fun ≡ option_map (map f) (option_map (map of) l.fun)
twice {X} {Y} of f l = mapped f (map-Decl X Decl of l) (map-Decl X Decl of l).fun refl ∙ ap (option_map (map f)) (mapped of l l.fun refl)

are_listed : (halves : Bool) (d : ℕ) {X : Type 0} (of : X → Decl) → ((x : X) → GoodDecl halves (of x)) → (xs : List X) → all (map (as_parameter d) (map is_shaped_decl (map of xs))) ≡ true → AreListed halves false d (map shown_decl (map of xs)) (map unplaced_decl (map of xs))
are_listed halves d of good [] h = tt
are_listed halves d of good (x ∷ xs) h =
    let k = both (is_shaped_decl (of x) (Standing.Parameter false) d) (all (map (as_parameter d) (map is_shaped_decl (map of xs)))) h in
    ((good x).as_one false d k.0, are_listed halves d of good xs k.1)

are_pointed : (halves : Bool) (d : ℕ) {X : Type 0} (of : X → Decl) → ((x : X) → GoodDecl halves (of x)) → (o : Option (List X)) → maybe (are_parameters d) (option_map (map is_shaped_decl) (option_map (map of) o)) ≡ true → ArePointed halves d (option_map (map shown_decl) (option_map (map of) o)) (option_map (map unplaced_decl) (option_map (map of) o))
are_pointed halves d of good None h = tt
are_pointed halves d of good (Some xs) h =
    let k = both (may_open (d + 1)) (all (map (as_parameter (d + 1)) (map is_shaped_decl (map of xs)))) h in
    let listed = are_listed halves (d + 1) of good xs k.1 in
    (k.0, λ rest. list_reread halves false (d + 1) (map shown_decl (map of xs)) (map unplaced_decl (map of xs)) rest listed)

abbrev LayerAlone : Bool → Decl-F Decl → Type 0
LayerAlone halves l = (d : ℕ) → decl_shaped (map-Decl Decl (Standing → ℕ → Bool) is_shaped_decl l) Standing.Alone d ≡ true → IsAlone halves d l.base l.ann (decl_shown (map-Decl Decl Declared shown_decl l)) (decl_unplaced (map-Decl Decl Decl unplaced_decl l))

abbrev LayerOne : Bool → Decl-F Decl → Type 0
LayerOne halves l = (named : Bool) (d : ℕ) → decl_shaped (map-Decl Decl (Standing → ℕ → Bool) is_shaped_decl l) (Standing.Parameter named) d ≡ true → IsParameter halves named d (decl_shown (map-Decl Decl Declared shown_decl l)) (decl_unplaced (map-Decl Decl Decl unplaced_decl l))

pointed_layer : (halves : Bool) (d : ℕ) {X : Type 0} (of : X → Decl) → ((x : X) → GoodDecl halves (of x)) → (l : Decl-F X) → maybe (are_parameters d) (map-Decl Decl (Standing → ℕ → Bool) is_shaped_decl (map-Decl X Decl of l)).fun ≡ true
    → ArePointed halves d (map-Decl Decl Declared shown_decl (map-Decl X Decl of l)).fun (map-Decl Decl Decl unplaced_decl (map-Decl X Decl of l)).fun
pointed_layer halves d {X} of good l h =
    let fun = subst (λ (o : Option (List (Standing → ℕ → Bool))). maybe (are_parameters d) o ≡ true) (twice of is_shaped_decl l) h in
    let p = are_pointed halves d of good l.fun fun in
    subst (λ (o : Option (List Declared)). ArePointed halves d o (map-Decl Decl Decl unplaced_decl (map-Decl X Decl of l)).fun) (sym (twice of shown_decl l))
    (subst (λ (o : Option (List Decl)). ArePointed halves d (option_map (map shown_decl) (option_map (map of) l.fun)) o) (sym (twice of unplaced_decl l)) p)

layer_alone : (halves : Bool) {X : Type 0} (of : X → Decl) → ((x : X) → GoodDecl halves (of x)) → (l : Decl-F X) → LayerAlone halves (map-Decl X Decl of l)
layer_alone halves {X} of good l d h =
    let s = shaped_parts Standing.Alone d (map-Decl Decl (Standing → ℕ → Bool) is_shaped_decl (map-Decl X Decl of l)) h in
    alone_parts halves d l.base l.stars l.name l.size (map-Decl Decl Declared shown_decl (map-Decl X Decl of l)).fun (map-Decl Decl Decl unplaced_decl (map-Decl X Decl of l)).fun l.ann s.base s.stars s.name_is s.size_is (pointed_layer halves d of good l s.fun_is) s.annotation_is

layer_one : (halves : Bool) {X : Type 0} (of : X → Decl) → ((x : X) → GoodDecl halves (of x)) → (l : Decl-F X) → LayerOne halves (map-Decl X Decl of l)
layer_one halves {X} of good l named d h =
    let s = shaped_parts (Standing.Parameter named) d (map-Decl Decl (Standing → ℕ → Bool) is_shaped_decl (map-Decl X Decl of l)) h in
    sized_parameter halves named d l.base l.stars l.name l.size (map-Decl Decl Declared shown_decl (map-Decl X Decl of l)).fun (map-Decl Decl Decl unplaced_decl (map-Decl X Decl of l)).fun l.ann s.size_is
    (record { base = s.base; stars = s.stars; name_is = s.name_is; pointed = pointed_layer halves d of good l s.fun_is; annotation_is = s.annotation_is })

pub good_decls : (halves : Bool) (x : Decl) → GoodDecl halves x
good_decls halves = ind-Decl (GoodDecl halves) (λ x y is. record {
  alone = λ d q.
      subst (λ (l : Decl-F Decl). IsAlone halves d l.base l.ann (shown_decl (roll-Decl x)) (unplaced_decl (roll-Decl x))) (sym (out-roll-Decl x))
      (subst (λ (m : Declared). IsAlone halves d x.base x.ann m (unplaced_decl (roll-Decl x))) (sym (fold-roll-Decl Declared decl_shown x))
      (subst (λ (u : Decl). IsAlone halves d x.base x.ann (decl_shown (map-Decl Decl Declared shown_decl x)) u) (sym (fold-roll-Decl Decl decl_unplaced x))
      (subst (LayerAlone halves) is (layer_alone halves (λ e. e.0) (λ e. e.1) y) d (ap (λ f. f Standing.Alone d) (sym (fold-roll-Decl (Standing → ℕ → Bool) decl_shaped x)) ∙ q))));
  as_one = λ named d q.
      subst (λ (m : Declared). IsParameter halves named d m (unplaced_decl (roll-Decl x))) (sym (fold-roll-Decl Declared decl_shown x))
      (subst (λ (u : Decl). IsParameter halves named d (decl_shown (map-Decl Decl Declared shown_decl x)) u) (sym (fold-roll-Decl Decl decl_unplaced x))
      (subst (LayerOne halves) is (layer_one halves (λ e. e.0) (λ e. e.1) y) named d (ap (λ f. f (Standing.Parameter named) d) (sym (fold-roll-Decl (Standing → ℕ → Bool) decl_shaped x)) ∙ q)));
})

-- a list of parameters is read from what is printed of it
listed : (halves named : Bool) (d : ℕ) (xs : List Decl) → list_all (λ x. is_shaped_decl x (Standing.Parameter named) d) xs ≡ true → AreListed halves named d (map shown_decl xs) (map unplaced_decl xs)
listed halves named d [] h = tt
listed halves named d (x ∷ xs) h =
    let k = both (is_shaped_decl x (Standing.Parameter named) d) (list_all (λ x. is_shaped_decl x (Standing.Parameter named) d) xs) h in
    ((good_decls halves x).as_one named d k.0, listed halves named d xs k.1)

pub parameters_reread : (halves named : Bool) (d : ℕ) (xs : List Decl) (rest : List Mark) → list_all (λ x. is_shaped_decl x (Standing.Parameter named) d) xs ≡ true → Gets halves (parameters named d) (all_at (lexemes (parameter_list (map shown_decl xs) rest))) (all_at (lexemes rest)) (map unplaced_decl xs)
parameters_reread halves named d xs rest h = list_reread halves named d (map shown_decl xs) (map unplaced_decl xs) rest (listed halves named d xs h)

abbrev declarator_marks_of : Decl → Marks
declarator_marks_of x = (shown_decl x).alone

-- a declaration's base, and the rest of it as a field is read
pub record IsFieldRead (halves : Bool) (x : Decl) (rest : List Mark) : Type 0 where
  pub behind : Specifier
  pub of_base : Gets halves (part specifiers) (all_at (lexemes (declaration x rest))) (all_at (lexemes (declarator_of x rest))) behind
  pub of_field : Gets halves (part (field behind)) (all_at (lexemes (declarator_of x rest))) (all_at (lexemes rest)) (unplaced_decl x)

pub fields_reread : (halves : Bool) (x : Decl) (rest : List Mark) → is_shaped_decl x Standing.Alone 0 ≡ true → IsFieldRead halves x rest
fields_reread halves x rest h =
    let a = (good_decls halves x).alone 0 h in
    let base : Base = (out-Decl x).base in
    record {
      behind = nowhere_based (unplaced_base base);
      of_base = subst (λ (ts : List Token). Gets halves (part specifiers) ts (tokens_of (declarator_marks_of x rest)) (nowhere_based (unplaced_base base))) (sym (a.whole rest)) (specifiers_reread halves base (declarator_marks_of x rest) a.base_is);
      of_field = through halves (λ y. annotated_parameter 0 y) refl (λ s t r e. ap (λ o. and_then o (λ y. annotated_parameter 0 y)) e) (a.read rest)
          (parts (annotated_reread halves 0 (out-Decl x).ann rest a.annotation_is)
          (subst (λ (y : Decl). Follows halves (part (field (nowhere_based (unplaced_base base)))) (gives y) (tokens_of rest) (tokens_of rest) (unplaced_decl x)) (sym a.with) done));
    }
