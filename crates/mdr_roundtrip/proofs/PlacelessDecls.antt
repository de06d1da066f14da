-- The rules of declarations and initialisers look at no place.
use Rattle.std.proofs.Common.{◌≡◌, refl, subst, ap, ◌∙◌, ℕ, ◌+◌, Bool, not, Some, None, [], ◌∷◌, map}
use Rattle.std.specs.Option.{option_map}
use Rattle.mdr_core.specs.declared.place.Place.{Place}
use Rattle.mdr_syntax.specs.declared.token.Token.{Token}
use Rattle.mdr_syntax.specs.declared.tree.AnnText.{AnnText}
use Rattle.mdr_syntax.specs.declared.tree.Decl.{Decl}
use Rattle.mdr_grammar.specs.declared.parts.Specifier.{Specifier}
use Rattle.mdr_grammar.specs.declared.sort.Sort.{Sort}
use Rattle.mdr_grammar.specs.Forms.{form}
use Rattle.mdr_grammar.specs.Forms.Part.{specifiers, declarator, constant, initialiser}
use Rattle.mdr_grammar.specs.Forms.Nonterminal.{part, commas, after_void, parameter_declarator}
use Rattle.mdr_grammar.specs.Forms.Separated.{parameters_at}
use Rattle.mdr_grammar.specs.Expressions.{text_of}
use Rattle.mdr_grammar.specs.Declarations.{constant_rule, size_rule, annotation_rule, value_rule, specifiers_rule, unnamed, with_annotation, declarator_rule, parameter_name_rule, parameter_declarator_rule, annotated_parameter, parameter_of, parameter_rule, more_parameters, void_base, void_parameter, after_void_rule, listed_parameters, parameters_rule, field_rule, fields_in, field_group_rule, enumerator_rule, other_initialiser, initialiser_rule, initial_rule, bare_element, element_rule}
use Rattle.mdr_roundtrip.specs.Unplaced.{nowhere}
use Rattle.mdr_roundtrip.specs.Initialised.{unplaced_const, unplaced_init, unplaced_elem}
use Rattle.mdr_roundtrip.specs.Declarations.{unplaced_annotation, unplaced_decl}
use Rattle.mdr_roundtrip.specs.Itemised.{unplaced_enumerator}
use Rattle.mdr_roundtrip.proofs.Erased.{erased_token, erased_specifier}
use Rattle.mdr_roundtrip.proofs.Placeless.{AlikeBy, AlikeRules, and_alike, or_alike, where_alike, whole}
use Rattle.mdr_roundtrip.proofs.Placeless.AlikeBy.{same, token, next}
use Rattle.mdr_roundtrip.proofs.Placeless.AlikeRules.{no_rule, rules}
use Rattle.mdr_roundtrip.proofs.Unplacing.{declared_made, unnamed_made, perhaps_made, annotation_made, const_init, null_init, address_init, text_init, list_init, elem_made}
use Rattle.mdr_roundtrip.proofs.PlacelessForms.{base_alike}

-- ---- constants, sizes and annotations

pub constant_alike : (s : Sort) (t : Token) → AlikeRules unplaced_const (constant_rule s t) (constant_rule s (erased_token t))
constant_alike Sort.Minus t = rules refl (token (λ n. same refl))
constant_alike Sort.Number t = rules refl (same refl)
constant_alike Sort.Name t = rules refl (same refl)
constant_alike _ t = no_rule

pub size_alike : (s : Sort) (t : Token) → AlikeRules unplaced_const (size_rule s t) (size_rule s (erased_token t))
size_alike Sort.OpenBracket t = rules refl (next (λ c. token (λ x. same refl)))
size_alike _ t = no_rule

pub annotation_alike : (d : ℕ) (s : Sort) (t : Token) → AlikeRules unplaced_annotation (annotation_rule d s t) (annotation_rule d s (erased_token t))
annotation_alike d Sort.Array t = rules refl (token (λ o. next (λ c. token (λ x. same refl))))
annotation_alike d Sort.Sentinel t = rules refl (token (λ o. token (λ n. token (λ x. same refl))))
annotation_alike d Sort.NullTerm t = rules refl (same refl)
annotation_alike d Sort.Opaque t = rules refl (same refl)
annotation_alike d _ t = no_rule

pub value_alike : (s : Sort) (t : Token) → AlikeRules unplaced_const (value_rule s t) (value_rule s (erased_token t))
value_alike Sort.Equals t = rules refl (whole (part constant))
value_alike _ t = no_rule

-- ---- declarators

pub specifiers_alike : (s : Sort) (t : Token) → AlikeRules erased_specifier (specifiers_rule s t) (specifiers_rule s (erased_token t))
specifiers_alike Sort.Qualifier t = rules refl (whole (part specifiers))
specifiers_alike s t = base_alike s t

pub declarator_alike : (d : ℕ) (b : Specifier) (k : ℕ) (s : Sort) (t : Token) → AlikeRules unplaced_decl (declarator_rule d b k s t) (declarator_rule d (erased_specifier b) k s (erased_token t))
declarator_alike d b k Sort.Star t = rules refl (whole (part (declarator d b (k + 1))))
declarator_alike d b k Sort.Name t = rules refl (next (λ z. same (declared_made b k t z None)))
declarator_alike d b k Sort.Open t = rules refl (token (λ star. token (λ n. next (λ z. token (λ c. token (λ o. next (λ ps. token (λ e. same (declared_made b k n z (Some ps))))))))))
declarator_alike d b k _ t = no_rule

-- ---- parameters

pub parameter_name_alike : (s : Sort) (t : Token) → AlikeRules (option_map erased_token) (parameter_name_rule s t) (parameter_name_rule s (erased_token t))
parameter_name_alike Sort.Name t = rules refl (same refl)
parameter_name_alike _ t = no_rule

pub parameter_declarator_alike : (named : Bool) (d : ℕ) (b : Specifier) (k : ℕ) (s : Sort) (t : Token) → AlikeRules unplaced_decl (parameter_declarator_rule named d b k s t) (parameter_declarator_rule named d (erased_specifier b) k s (erased_token t))
parameter_declarator_alike named d b k Sort.Star t = rules refl (whole (parameter_declarator named d b (k + 1)))
parameter_declarator_alike named d b k Sort.Name t = rules refl (same (declared_made b k t None None))
parameter_declarator_alike named d b k Sort.Open t = rules refl (token (λ star. next (λ n. token (λ c. token (λ o. next (λ ps. token (λ e. same (perhaps_made b k n (Some ps)))))))))
parameter_declarator_alike named d b k _ t = no_rule

annotated_alike : (d : ℕ) (x : Decl) → AlikeBy unplaced_decl (annotated_parameter d x) (annotated_parameter d (unplaced_decl x))
annotated_alike d x = next (λ a. same (annotation_made x a))

parameter_of_alike : (named : Bool) (d : ℕ) (b : Specifier) → AlikeBy unplaced_decl (parameter_of named d b) (parameter_of named d (erased_specifier b))
parameter_of_alike named d b = next (λ x. annotated_alike d x)

pub parameter_alike : (named : Bool) (d : ℕ) (s : Sort) (t : Token) → AlikeRules unplaced_decl (parameter_rule named d s t) (parameter_rule named d s (erased_token t))
parameter_alike named d s t = and_alike _ _ (specifiers_alike s t) (λ b. parameter_of_alike named d b)

more_with : (named : Bool) (d : ℕ) (x : Decl) {y : Decl} → unplaced_decl x ≡ y → AlikeBy (map unplaced_decl) (more_parameters named d x) (more_parameters named d y)
more_with named d x e = subst (λ (y : Decl). AlikeBy (map unplaced_decl) (more_parameters named d x) (more_parameters named d y)) e (whole (commas (parameters_at named d) (x ∷ [])))

void_made : (place : Place) (a : AnnText) → unplaced_decl (with_annotation (unnamed (void_base place) 0 None) (Some a)) ≡ with_annotation (unnamed (void_base nowhere) 0 None) (Some (unplaced_annotation a))
void_made place a = annotation_made (unnamed (void_base place) 0 None) (Some a) ∙ ap (λ (x : Decl). with_annotation x (Some (unplaced_annotation a))) (unnamed_made (void_base place) 0 None)

void_alike : (named : Bool) (d : ℕ) (place : Place) (s : Sort) (t : Token) → AlikeRules (map unplaced_decl) (void_parameter named d place s t) (void_parameter named d nowhere s (erased_token t))
void_alike named d place s t =
    or_alike (and_alike _ _ (parameter_declarator_alike named d (void_base place) 0 s t) (λ x. next (λ a. more_with named d (with_annotation x a) (annotation_made x a))))
    (where_alike (not named) (and_alike _ _ (annotation_alike d s t) (λ a. more_with named d (with_annotation (unnamed (void_base place) 0 None) (Some a)) (void_made place a))))

two_alike : (named : Bool) (d : ℕ) (place : Place) (x : Decl) → AlikeBy (map unplaced_decl) (form (commas (parameters_at named d) (unnamed (void_base place) 0 None ∷ x ∷ []))) (form (commas (parameters_at named d) (unnamed (void_base nowhere) 0 None ∷ unplaced_decl x ∷ [])))
two_alike named d place x = subst (λ (y : Decl). AlikeBy (map unplaced_decl) (form (commas (parameters_at named d) (unnamed (void_base place) 0 None ∷ x ∷ []))) (form (commas (parameters_at named d) (y ∷ unplaced_decl x ∷ [])))) (unnamed_made (void_base place) 0 None) (whole (commas (parameters_at named d) (unnamed (void_base place) 0 None ∷ x ∷ [])))

pub after_void_alike : (named : Bool) (d : ℕ) (place : Place) (s : Sort) (t : Token) → AlikeRules (map unplaced_decl) (after_void_rule named d place s t) (after_void_rule named d nowhere s (erased_token t))
after_void_alike named d place Sort.Comma t = rules refl (next (λ x. two_alike named d place x))
after_void_alike named d place s t = void_alike named d place s t

listed_alike : (named : Bool) (d : ℕ) (s : Sort) (t : Token) → AlikeRules (map unplaced_decl) (listed_parameters named d s t) (listed_parameters named d s (erased_token t))
listed_alike named d s t = and_alike _ _ (parameter_alike named d s t) (λ x. more_with named d x refl)

pub parameters_alike : (named : Bool) (d : ℕ) (s : Sort) (t : Token) → AlikeRules (map unplaced_decl) (parameters_rule named d s t) (parameters_rule named d s (erased_token t))
parameters_alike named d Sort.Void t = rules refl (whole (after_void named d t.place))
parameters_alike named d s t = listed_alike named d s t

-- ---- fields and enumeration constants

pub field_alike : (b : Specifier) (s : Sort) (t : Token) → AlikeRules unplaced_decl (field_rule b s t) (field_rule (erased_specifier b) s (erased_token t))
field_alike b s t = and_alike _ _ (declarator_alike 0 b 0 s t) (λ x. annotated_alike 0 x)

fields_in_alike : (b : Specifier) → AlikeBy (map unplaced_decl) (fields_in b) (fields_in (erased_specifier b))
fields_in_alike b = next (λ x. next (λ xs. token (λ e. same refl)))

pub field_group_alike : (s : Sort) (t : Token) → AlikeRules (map unplaced_decl) (field_group_rule s t) (field_group_rule s (erased_token t))
field_group_alike s t = and_alike _ _ (specifiers_alike s t) (λ b. fields_in_alike b)

pub enumerator_alike : (s : Sort) (t : Token) → AlikeRules unplaced_enumerator (enumerator_rule s t) (enumerator_rule s (erased_token t))
enumerator_alike Sort.Name t = rules refl (next (λ v. same refl))
enumerator_alike _ t = no_rule

-- ---- initialisers

other_alike : (n : ℕ) (s : Sort) (t : Token) → AlikeRules unplaced_init (other_initialiser n s t) (other_initialiser n s (erased_token t))
other_alike n Sort.Null t = rules refl (same (null_init t.place))
other_alike n Sort.And t = rules refl (token (λ x. same (address_init x.place (text_of x.what))))
other_alike n Sort.Text t = rules refl (same (text_init t.place (text_of t.what)))
other_alike n Sort.OpenBrace t = rules refl (next (λ x. next (λ xs. token (λ c. same (list_init t.place xs)))))
other_alike n _ t = no_rule

pub initialiser_alike : (n : ℕ) (s : Sort) (t : Token) → AlikeRules unplaced_init (initialiser_rule n s t) (initialiser_rule n s (erased_token t))
initialiser_alike n s t = or_alike (other_alike n s t) (and_alike _ _ (constant_alike s t) (λ c. same (const_init c)))

pub initial_alike : (s : Sort) (t : Token) → AlikeRules unplaced_init (initial_rule s t) (initial_rule s (erased_token t))
initial_alike Sort.Equals t = rules refl (whole (part (initialiser 0)))
initial_alike _ t = no_rule

bare_alike : (n : ℕ) (s : Sort) (t : Token) → AlikeRules unplaced_elem (bare_element n s t) (bare_element n s (erased_token t))
bare_alike n s t = and_alike _ _ (initialiser_alike n s t) (λ i. same (elem_made None i))

pub element_alike : (n : ℕ) (s : Sort) (t : Token) → AlikeRules unplaced_elem (element_rule n s t) (element_rule n s (erased_token t))
element_alike n Sort.Dot t = rules refl (token (λ x. token (λ q. next (λ i. same (elem_made (Some (record { place = x.place; name = text_of x.what })) i)))))
element_alike n s t = bare_alike n s t
