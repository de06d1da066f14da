-- Declarations and initialisers that are read can be printed.
use Rattle.std.proofs.Common.{◌≡◌, refl, ℕ, Bool, true, [], ◌∷◌, Some, None}
use Rattle.std.specs.Prelude.{not}
use Rattle.std.specs.List.{list_all}
use Rattle.mdr_core.specs.declared.place.Place.{Place}
use Rattle.mdr_syntax.specs.declared.token.Token.{Token}
use Rattle.mdr_syntax.specs.declared.tree.Decl.{Decl}
use Rattle.mdr_roundtrip.specs.Words.{is_word, is_base}
use Rattle.mdr_roundtrip.specs.PrintableDeclarations.{maybe, is_constant, is_annotation, is_printable_decl, is_printable_init, is_printable_elem}
use Rattle.mdr_roundtrip.specs.Whole.{is_printable_enumerator}
use Rattle.mdr_grammar.specs.declared.parts.Specifier.{Specifier}
use Rattle.mdr_grammar.specs.declared.sort.Sort.{Sort}
use Rattle.mdr_grammar.specs.Forms.{◌>>=◌}
use Rattle.mdr_grammar.specs.Expressions.{text_of}
use Rattle.mdr_grammar.specs.Declarations.{constant_rule, size_rule, annotation_rule, value_rule, specifiers_rule, declarator_rule, parameter_name_rule, unnamed, parameter_declarator_rule, annotated_parameter, parameter_of, parameter_rule, more_parameters, void_base, void_parameter, after_void_rule, listed_parameters, parameters_rule, field_rule, fields_in, field_group_rule, enumerator_rule, other_initialiser, initialiser_rule, initial_rule, bare_element, element_rule, with_annotation}
use Rattle.mdr_roundtrip.proofs.Bools.{also, all_one}
use Rattle.mdr_roundtrip.proofs.Judged.{meets, all_decls, Sound, SoundRule}
use Rattle.mdr_roundtrip.proofs.Steps.{sound_and, sound_or, sound_where}
use Rattle.mdr_roundtrip.proofs.DeclTests.{declared_is, unnamed_is, perhaps_is, annotated_is, constant_is, null_is, address_is, text_is, list_is, elem_is}
use Rattle.mdr_roundtrip.proofs.SoundForms.{is_good_specifier, sound_base}

pub sound_constant : (s : Sort) (t : Token) → meets s t.what ≡ true → SoundRule (constant_rule s t) is_constant
sound_constant Sort.Minus t m = λ n h. h
sound_constant Sort.Number t m = m
sound_constant Sort.Name t m = m
sound_constant _ t m = tt

pub sound_size : (s : Sort) (t : Token) → SoundRule (size_rule s t) is_constant
sound_size Sort.OpenBracket t = (refl, λ c h. λ e q. h)
sound_size _ t = tt

pub sound_annotation : (d : ℕ) (s : Sort) (t : Token) → SoundRule (annotation_rule d s t) is_annotation
sound_annotation d Sort.Array t = λ b q. (refl, λ c h. λ e r. h)
sound_annotation d Sort.Sentinel t = λ b q. λ n h. λ e r. h
sound_annotation d Sort.NullTerm t = refl
sound_annotation d Sort.Opaque t = refl
sound_annotation d _ t = tt

pub sound_value : (s : Sort) (t : Token) → SoundRule (value_rule s t) is_constant
sound_value Sort.Equals t = (refl, λ c h. h)
sound_value _ t = tt

pub sound_specifiers : (s : Sort) (t : Token) → SoundRule (specifiers_rule s t) is_good_specifier
sound_specifiers Sort.Qualifier t = (refl, λ b h. h)
sound_specifiers s t = sound_base s t

-- ---- declarators and parameters

pub sound_declarator : (d : ℕ) (b : Specifier) (k : ℕ) (s : Sort) (t : Token) → is_base b.base ≡ true → meets s t.what ≡ true → SoundRule (declarator_rule d b k s t) is_printable_decl
sound_declarator d b k Sort.Star t g m = (g, λ x h. h)
sound_declarator d b k Sort.Name t g m = (refl, λ z hz. declared_is b k t z None g m hz refl)
sound_declarator d b k Sort.Open t g m = λ st q. λ n hn. (refl, λ z hz. λ e q'. λ o r. (refl, λ ps hp. λ c r'. declared_is b k n z (Some ps) g hn hz hp))
sound_declarator d b k _ t g m = tt

pub sound_parameter_name : (s : Sort) (t : Token) → meets s t.what ≡ true → SoundRule (parameter_name_rule s t) (maybe (λ n. is_word (text_of n.what)))
sound_parameter_name Sort.Name t m = m
sound_parameter_name _ t m = tt

pub sound_parameter_declarator : (named : Bool) (d : ℕ) (b : Specifier) (k : ℕ) (s : Sort) (t : Token) → is_base b.base ≡ true → meets s t.what ≡ true → SoundRule (parameter_declarator_rule named d b k s t) is_printable_decl
sound_parameter_declarator named d b k Sort.Star t g m = (g, λ x h. h)
sound_parameter_declarator named d b k Sort.Name t g m = declared_is b k t None None g m refl refl
sound_parameter_declarator named d b k Sort.Open t g m = λ st q. (refl, λ n hn. λ e q'. λ o r. (refl, λ ps hp. λ c r'. perhaps_is b k n (Some ps) g hn hp))
sound_parameter_declarator named d b k _ t g m = tt

sound_annotated : (d : ℕ) (x : Decl) → is_printable_decl x ≡ true → Sound (annotated_parameter d x) is_printable_decl
sound_annotated d x h = (refl, λ a ha. annotated_is x a h ha)

pub sound_parameter : (named : Bool) (d : ℕ) (s : Sort) (t : Token) → SoundRule (parameter_rule named d s t) is_printable_decl
sound_parameter named d s t = sound_and (specifiers_rule s t) (λ b. parameter_of named d b) is_good_specifier is_printable_decl (sound_specifiers s t) (λ b hb. (hb, λ x hx. sound_annotated d x hx))

sound_more : (named : Bool) (d : ℕ) (x : Decl) → is_printable_decl x ≡ true → Sound (more_parameters named d x) all_decls
sound_more named d x h = (all_one is_printable_decl x h, λ v k. k)

sound_void : (named : Bool) (d : ℕ) (place : Place) (s : Sort) (t : Token) → meets s t.what ≡ true → SoundRule (void_parameter named d place s t) all_decls
sound_void named d place s t m = sound_or _ _ all_decls
    (sound_and (parameter_declarator_rule named d (void_base place) 0 s t) (λ x. annotated_parameter d x >>= λ y. more_parameters named d y) is_printable_decl all_decls
    (sound_parameter_declarator named d (void_base place) 0 s t refl m) (λ x hx. (refl, λ a ha. sound_more named d (with_annotation x a) (annotated_is x a hx ha))))
    (sound_where (not named) _ all_decls (sound_and (annotation_rule d s t) (λ a. more_parameters named d (with_annotation (unnamed (void_base place) 0 None) (Some a))) is_annotation all_decls (sound_annotation d s t)
    (λ a ha. sound_more named d (with_annotation (unnamed (void_base place) 0 None) (Some a)) (annotated_is (unnamed (void_base place) 0 None) (Some a) (unnamed_is (void_base place) 0 None refl refl) ha))))

pub sound_after_void : (named : Bool) (d : ℕ) (place : Place) (s : Sort) (t : Token) → meets s t.what ≡ true → SoundRule (after_void_rule named d place s t) all_decls
sound_after_void named d place Sort.Comma t m = (refl, λ x hx. (also (is_printable_decl (unnamed (void_base place) 0 None)) (list_all is_printable_decl (x ∷ [])) (unnamed_is (void_base place) 0 None refl refl) (all_one is_printable_decl x hx), λ v h. h))
sound_after_void named d place s t m = sound_void named d place s t m

sound_listed : (named : Bool) (d : ℕ) (s : Sort) (t : Token) → SoundRule (listed_parameters named d s t) all_decls
sound_listed named d s t = sound_and (parameter_rule named d s t) (λ x. more_parameters named d x) is_printable_decl all_decls (sound_parameter named d s t) (λ x hx. sound_more named d x hx)

pub sound_parameters : (named : Bool) (d : ℕ) (s : Sort) (t : Token) → SoundRule (parameters_rule named d s t) all_decls
sound_parameters named d Sort.Void t = (refl, λ v h. h)
sound_parameters named d s t = sound_listed named d s t

-- ---- fields and enumeration constants

pub sound_field : (b : Specifier) (s : Sort) (t : Token) → is_base b.base ≡ true → meets s t.what ≡ true → SoundRule (field_rule b s t) is_printable_decl
sound_field b s t g m = sound_and (declarator_rule 0 b 0 s t) (λ x. annotated_parameter 0 x) is_printable_decl is_printable_decl (sound_declarator 0 b 0 s t g m) (λ x hx. sound_annotated 0 x hx)

pub sound_field_group : (s : Sort) (t : Token) → SoundRule (field_group_rule s t) all_decls
sound_field_group s t = sound_and (specifiers_rule s t) (λ b. fields_in b) is_good_specifier all_decls (sound_specifiers s t) (λ b hb. (hb, λ x hx. (also (is_base b.base) (list_all is_printable_decl (x ∷ [])) hb (all_one is_printable_decl x hx), λ xs hxs. λ e q. hxs)))

pub sound_enumerator : (s : Sort) (t : Token) → meets s t.what ≡ true → SoundRule (enumerator_rule s t) is_printable_enumerator
sound_enumerator Sort.Name t m = (refl, λ v hv. also (is_word (text_of t.what)) (maybe is_constant v) m hv)
sound_enumerator _ t m = tt

-- ---- initialisers

sound_other : (n : ℕ) (s : Sort) (t : Token) → meets s t.what ≡ true → SoundRule (other_initialiser n s t) is_printable_init
sound_other n Sort.Null t m = null_is t.place
sound_other n Sort.And t m = λ x h. address_is x.place (text_of x.what) h
sound_other n Sort.Text t m = text_is t.place (text_of t.what) m
sound_other n Sort.OpenBrace t m = (refl, λ x hx. (all_one is_printable_elem x hx, λ xs hxs. λ c q. list_is t.place xs hxs))
sound_other n _ t m = tt

pub sound_initialiser : (n : ℕ) (s : Sort) (t : Token) → meets s t.what ≡ true → SoundRule (initialiser_rule n s t) is_printable_init
sound_initialiser n s t m = sound_or (other_initialiser n s t) _ is_printable_init (sound_other n s t m) (sound_and (constant_rule s t) _ is_constant is_printable_init (sound_constant s t m) (λ c h. constant_is c h))

pub sound_initial : (s : Sort) (t : Token) → SoundRule (initial_rule s t) is_printable_init
sound_initial Sort.Equals t = (refl, λ i h. h)
sound_initial _ t = tt

sound_bare : (n : ℕ) (s : Sort) (t : Token) → meets s t.what ≡ true → SoundRule (bare_element n s t) is_printable_elem
sound_bare n s t m = sound_and (initialiser_rule n s t) _ is_printable_init is_printable_elem (sound_initialiser n s t m) (λ i h. elem_is None i refl h)

pub sound_element : (n : ℕ) (s : Sort) (t : Token) → meets s t.what ≡ true → SoundRule (element_rule n s t) is_printable_elem
sound_element n Sort.Dot t m = λ x hx. λ e q. (refl, λ i h. elem_is (Some (record { place = x.place; name = text_of x.what })) i hx h)
sound_element n s t m = sound_bare n s t m
