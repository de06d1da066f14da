-- Declarations that are read have the shape of declarations.
use Rattle.std.proofs.Common.{◌≡◌, refl, ℕ, ◌+◌, Bool, true, false, Some, None, List, [], ◌∷◌}
use Rattle.std.specs.Prelude.{◌&&◌, not, is_none}
use Rattle.std.specs.List.{list_all}
use Rattle.std.specs.Option.{option_map}
use Rattle.std.proofs.lemmas.Bool.{false≢true}
use Rattle.mdr_core.specs.declared.place.Place.{Place}
use Rattle.mdr_syntax.specs.declared.token.Token.{Token}
use Rattle.mdr_syntax.specs.declared.tree.Decl.{Decl, out-Decl}
use Rattle.mdr_roundtrip.specs.PrintableDeclarations.{maybe}
use Rattle.mdr_roundtrip.proofs.Tests.{both}
use Rattle.mdr_grammar.specs.declared.parts.Specifier.{Specifier}
use Rattle.mdr_grammar.specs.declared.sort.Sort.{Sort}
use Rattle.mdr_grammar.specs.Forms.{◌>>=◌}
use Rattle.mdr_grammar.specs.Expressions.{text_of, may_open, base_rule}
use Rattle.mdr_grammar.specs.Declarations.{constant_rule, size_rule, annotation_rule, value_rule, specifiers_rule, declarator_rule, parameter_name_rule, unnamed, parameter_declarator_rule, annotated_parameter, parameter_of, parameter_rule, more_parameters, void_base, void_parameter, after_void_rule, listed_parameters, parameters_rule, field_rule, fields_in, field_group_rule, enumerator_rule, initial_rule, with_annotation}
use Rattle.mdr_roundtrip.specs.Shaped.{is_name, is_named_base, are_stars}
use Rattle.mdr_roundtrip.specs.Initialised.{is_shaped_const, is_shaped_init}
use Rattle.mdr_roundtrip.specs.Declarations.{Standing, may_be_named, is_annotation_at, is_shaped_decl}
use Rattle.mdr_roundtrip.specs.Stated.{is_same_base}
use Rattle.mdr_roundtrip.specs.Itemised.{is_shaped_field, is_shaped_enumerator}
use Rattle.mdr_roundtrip.proofs.Bools.{also, all_one}
use Rattle.mdr_roundtrip.proofs.Judges.{SoundBy, SoundRuleBy, and_by, or_by, where_by}
use Rattle.mdr_roundtrip.proofs.Shaping.{knows}
use Rattle.mdr_roundtrip.proofs.ShapingForms.{of_base, is_good_base}
use Rattle.mdr_roundtrip.proofs.ShapingInits.{of_constant}
use Rattle.mdr_roundtrip.proofs.Sourcing.{declared_by, is_parameter, based, sourcing, rule_kept, shaping_agrees, initialising_agrees}
use Rattle.mdr_roundtrip.proofs.ShapedDecls.{pointed_at, annotated_is, declared_is, one_is, unnamed_is, perhaps_is}

pub source_base : (halves : Bool) (s : Sort) (t : Token) → SoundRuleBy (sourcing halves) (base_rule s t) is_good_base
source_base halves s t = rule_kept _ halves (shaping_agrees halves) (base_rule s t) is_good_base (of_base s t)

pub source_constant : (halves : Bool) (s : Sort) (t : Token) → knows s t.what ≡ true → SoundRuleBy (sourcing halves) (constant_rule s t) is_shaped_const
source_constant halves s t m = rule_kept _ halves (initialising_agrees halves) (constant_rule s t) is_shaped_const (of_constant s t m)

pub source_size : (halves : Bool) (s : Sort) (t : Token) → SoundRuleBy (sourcing halves) (size_rule s t) is_shaped_const
source_size halves Sort.OpenBracket t = λ a. (refl, λ c h. λ e q. h)
source_size halves _ t = tt

pub source_annotation : (halves : Bool) (d : ℕ) (s : Sort) (t : Token) → SoundRuleBy (sourcing halves) (annotation_rule d s t) (is_annotation_at d)
source_annotation halves d Sort.Array t = λ a. λ b q. (refl, λ c h. λ e r. also (may_open (d + 1)) (is_shaped_const c) a h)
source_annotation halves d Sort.Sentinel t = λ a. λ b q. λ n h. λ e r. also (may_open (d + 1)) (is_name (text_of n.what)) a h
source_annotation halves d Sort.NullTerm t = λ a. refl
source_annotation halves d Sort.Opaque t = λ a. refl
source_annotation halves d _ t = tt

pub source_value : (halves : Bool) (s : Sort) (t : Token) → SoundRuleBy (sourcing halves) (value_rule s t) is_shaped_const
source_value halves Sort.Equals t = λ a. (refl, λ c h. h)
source_value halves _ t = tt

pub source_specifiers : (halves : Bool) (s : Sort) (t : Token) → SoundRuleBy (sourcing halves) (specifiers_rule s t) is_good_base
source_specifiers halves Sort.Qualifier t = λ a. (refl, λ b h. h)
source_specifiers halves s t = source_base halves s t

-- ---- declarators and parameters

one_star_more : (b : Specifier) (k : ℕ) → based b k ≡ true → are_stars (k + 1) ≡ true → based b (k + 1) ≡ true
one_star_more b k h a = also (is_named_base b.base) (are_stars (k + 1)) (both (is_named_base b.base) (are_stars k) h).0 a

pointed_is : (d : ℕ) (ps : List Decl) → may_open (d + 1) ≡ true → list_all (is_parameter false (d + 1)) ps ≡ true → pointed_at d ps ≡ true
pointed_is d ps a h = also (may_open (d + 1)) (list_all (is_parameter false (d + 1)) ps) a h

pub source_declarator : (halves : Bool) (d : ℕ) (b : Specifier) (k : ℕ) (s : Sort) (t : Token) → based b k ≡ true → knows s t.what ≡ true → SoundRuleBy (sourcing halves) (declarator_rule d b k s t) (declared_by b d)
source_declarator halves d b k Sort.Star t g m = λ a. (one_star_more b k g a, λ x h. h)
source_declarator halves d b k Sort.Name t g m = λ a. (refl, λ z hz. declared_is b k d t z None g m hz refl)
source_declarator halves d b k Sort.Open t g m = λ a. λ st q. λ n hn. (refl, λ z hz. λ e q'. λ o r. (refl, λ ps hp. λ c r'. declared_is b k d n z (Some ps) g hn hz (pointed_is d ps a hp)))
source_declarator halves d b k _ t g m = tt

pub source_parameter_name : (halves named : Bool) (s : Sort) (t : Token) → knows s t.what ≡ true → SoundRuleBy (sourcing halves) (parameter_name_rule s t) (λ v. may_be_named (Standing.Parameter named) (option_map (λ t. text_of t.what) v))
source_parameter_name halves true Sort.Name t m = λ a. m
source_parameter_name halves false Sort.Name t m = λ a. m
source_parameter_name halves named _ t m = tt

pub source_parameter_declarator : (halves named : Bool) (d : ℕ) (b : Specifier) (k : ℕ) (s : Sort) (t : Token) → based b k ≡ true → knows s t.what ≡ true → SoundRuleBy (sourcing halves) (parameter_declarator_rule named d b k s t) (is_parameter named d)
source_parameter_declarator halves named d b k Sort.Star t g m = λ a. (one_star_more b k g a, λ x h. h)
source_parameter_declarator halves named d b k Sort.Name t g m = λ a. one_is named b k d t None g m refl
source_parameter_declarator halves named d b k Sort.Open t g m = λ a. λ st q. (refl, λ n hn. λ e q'. λ o r. (refl, λ ps hp. λ c r'. perhaps_is named b k d n (Some ps) g hn (pointed_is d ps a hp)))
source_parameter_declarator halves named d b k _ t g m = tt

-- an annotation, if one is there
annotated_by : (halves : Bool) (s : Standing) (d : ℕ) (x : Decl) → is_shaped_decl x s d ≡ true → SoundBy (sourcing halves) (annotated_parameter d x) (λ y. is_shaped_decl y s d)
annotated_by halves s d x h = (refl, λ a ha. annotated_is x a s d h ha)

unstarred : (b : Specifier) → is_named_base b.base ≡ true → based b 0 ≡ true
unstarred b h = also (is_named_base b.base) true h refl

pub source_parameter : (halves named : Bool) (d : ℕ) (s : Sort) (t : Token) → SoundRuleBy (sourcing halves) (parameter_rule named d s t) (is_parameter named d)
source_parameter halves named d s t = and_by (sourcing halves) (specifiers_rule s t) (λ b. parameter_of named d b) is_good_base (is_parameter named d) (source_specifiers halves s t) (λ b hb. (unstarred b hb, λ x hx. annotated_by halves (Standing.Parameter named) d x hx))

more_by : (halves named : Bool) (d : ℕ) (x : Decl) → is_parameter named d x ≡ true → SoundBy (sourcing halves) (more_parameters named d x) (list_all (is_parameter named d))
more_by halves named d x h = (all_one (is_parameter named d) x h, λ v k. k)

void_by : (halves named : Bool) (d : ℕ) (place : Place) (s : Sort) (t : Token) → knows s t.what ≡ true → SoundRuleBy (sourcing halves) (void_parameter named d place s t) (list_all (is_parameter named d))
void_by halves named d place s t m = or_by (sourcing halves) _ _ (list_all (is_parameter named d))
    (and_by (sourcing halves) (parameter_declarator_rule named d (void_base place) 0 s t) (λ x. annotated_parameter d x >>= λ y. more_parameters named d y) (is_parameter named d) (list_all (is_parameter named d))
    (source_parameter_declarator halves named d (void_base place) 0 s t refl m) (λ x hx. (refl, λ a ha. more_by halves named d (with_annotation x a) (annotated_is x a (Standing.Parameter named) d hx ha))))
    (where_by (sourcing halves) (not named) _ (list_all (is_parameter named d)) (λ u. and_by (sourcing halves) (annotation_rule d s t) (λ a. more_parameters named d (with_annotation (unnamed (void_base place) 0 None) (Some a))) (is_annotation_at d) (list_all (is_parameter named d)) (source_annotation halves d s t)
    (λ a ha. more_by halves named d (with_annotation (unnamed (void_base place) 0 None) (Some a)) (annotated_is (unnamed (void_base place) 0 None) (Some a) (Standing.Parameter named) d (void_one named u) ha))))
  where
    void_one : (named : Bool) → not named ≡ true → is_parameter named d (unnamed (void_base place) 0 None) ≡ true
    void_one true u = absurd (Prim.cc)
    void_one false u = unnamed_is (void_base place) 0 d None refl refl

pub source_after_void : (halves named : Bool) (d : ℕ) (place : Place) (s : Sort) (t : Token) → knows s t.what ≡ true → SoundRuleBy (sourcing halves) (after_void_rule named d place s t) (list_all (is_parameter named d))
source_after_void halves true d place Sort.Comma t m = λ a. absurd (false≢true a)
source_after_void halves false d place Sort.Comma t m = λ a. (refl, λ x hx. (also (is_parameter false d (unnamed (void_base place) 0 None)) (list_all (is_parameter false d) (x ∷ [])) (unnamed_is (void_base place) 0 d None refl refl) (all_one (is_parameter false d) x hx), λ v h. h))
source_after_void halves named d place s t m = void_by halves named d place s t m

listed_by : (halves named : Bool) (d : ℕ) (s : Sort) (t : Token) → SoundRuleBy (sourcing halves) (listed_parameters named d s t) (list_all (is_parameter named d))
listed_by halves named d s t = and_by (sourcing halves) (parameter_rule named d s t) (λ x. more_parameters named d x) (is_parameter named d) (list_all (is_parameter named d)) (source_parameter halves named d s t) (λ x hx. more_by halves named d x hx)

pub source_parameters : (halves named : Bool) (d : ℕ) (s : Sort) (t : Token) → SoundRuleBy (sourcing halves) (parameters_rule named d s t) (list_all (is_parameter named d))
source_parameters halves named d Sort.Void t = λ a. (refl, λ v h. h)
source_parameters halves named d s t = listed_by halves named d s t

-- ---- fields, enumeration constants and first values

pub alone_of : (b : Specifier) (d : ℕ) (x : Decl) → declared_by b d x ≡ true → is_shaped_decl x Standing.Alone d ≡ true
alone_of b d x h = (both (is_shaped_decl x Standing.Alone d) (is_none (out-Decl x).ann && is_same_base b.base (out-Decl x).base) h).0

pub source_field : (halves : Bool) (b : Specifier) (s : Sort) (t : Token) → is_named_base b.base ≡ true → knows s t.what ≡ true → SoundRuleBy (sourcing halves) (field_rule b s t) is_shaped_field
source_field halves b s t g m = and_by (sourcing halves) (declarator_rule 0 b 0 s t) (λ x. annotated_parameter 0 x) (declared_by b 0) is_shaped_field (source_declarator halves 0 b 0 s t (unstarred b g) m) (λ x hx. annotated_by halves Standing.Alone 0 x (alone_of b 0 x hx))

pub source_field_group : (halves : Bool) (s : Sort) (t : Token) → SoundRuleBy (sourcing halves) (field_group_rule s t) (list_all is_shaped_field)
source_field_group halves s t = and_by (sourcing halves) (specifiers_rule s t) (λ b. fields_in b) is_good_base (list_all is_shaped_field) (source_specifiers halves s t) (λ b hb. (hb, λ x hx. (also (is_named_base b.base) (list_all is_shaped_field (x ∷ [])) hb (all_one is_shaped_field x hx), λ xs hxs. λ e q. hxs)))

pub source_enumerator : (halves : Bool) (s : Sort) (t : Token) → knows s t.what ≡ true → SoundRuleBy (sourcing halves) (enumerator_rule s t) is_shaped_enumerator
source_enumerator halves Sort.Name t m = λ a. (refl, λ v hv. also (is_name (text_of t.what)) (maybe is_shaped_const v) m hv)
source_enumerator halves _ t m = tt

pub source_initial : (halves : Bool) (s : Sort) (t : Token) → SoundRuleBy (sourcing halves) (initial_rule s t) (λ i. is_shaped_init i 0)
source_initial halves Sort.Equals t = λ a. (refl, λ i h. h)
source_initial halves _ t = tt
