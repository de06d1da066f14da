-- The rules of declarations keep to what may follow.
use Rattle.std.proofs.Common.{refl, ℕ, Bool}
use Rattle.mdr_core.specs.declared.place.Place.{Place}
use Rattle.mdr_syntax.specs.declared.token.Token.{Token}
use Rattle.mdr_grammar.specs.Sorts.{Sort}
use Rattle.mdr_grammar.specs.Forms.{Specifier}
use Rattle.mdr_grammar.specs.Forms.Part.{specifiers, size, annotation, constant, value, declarator, parameter, field, field_group, enumerator, initial, initialiser, element}
use Rattle.mdr_grammar.specs.Forms.Nonterminal.{part, parameters, after_void, parameter_name, parameter_declarator}
use Rattle.mdr_grammar.proofs.Hungry.{Hungry, FineRule}
use Rattle.mdr_grammar.proofs.Binding.{clear, fine_and, fine_or, fine_where}
use Rattle.mdr_grammar.specs.Declarations.{constant_rule, size_rule, annotation_rule, value_rule, specifiers_rule, declarator_rule, parameter_name_rule, parameter_declarator_rule, parameter_rule, void_base, void_parameter, after_void_rule, listed_parameters, parameters_rule, field_rule, field_group_rule, enumerator_rule, other_initialiser, initialiser_rule, initial_rule, bare_element, element_rule}
use Rattle.mdr_grammar.proofs.FineForms.{fine_base}

pub fine_constant : (s : Sort) (t : Token) → FineRule (constant_rule s t) (Hungry (part constant))
fine_constant Sort.Minus t = (refl, λ n. tt)
fine_constant _ t = tt

pub fine_size : (s : Sort) (t : Token) → FineRule (size_rule s t) (Hungry (part size))
fine_size Sort.OpenBracket t = λ c. (clear (λ t'. refl), (refl, λ e. tt))
fine_size _ t = tt

pub fine_annotation : (d : ℕ) (s : Sort) (t : Token) → FineRule (annotation_rule d s t) (Hungry (part (annotation d)))
fine_annotation d Sort.Array t = (refl, λ b. λ c. (clear (λ t'. refl), (refl, λ e. tt)))
fine_annotation d Sort.Sentinel t = (refl, λ b. (refl, λ n. (refl, λ e. tt)))
fine_annotation d _ t = tt

pub fine_value : (s : Sort) (t : Token) → FineRule (value_rule s t) (Hungry (part value))
fine_value Sort.Equals t = λ c. (clear (λ t'. refl), tt)
fine_value _ t = tt

pub fine_specifiers : (s : Sort) (t : Token) → FineRule (specifiers_rule s t) (Hungry (part specifiers))
fine_specifiers Sort.Qualifier t = λ v. (clear (λ t'. refl), tt)
fine_specifiers s t = fine_base s t

pub fine_declarator : (d : ℕ) (b : Specifier) (k : ℕ) (s : Sort) (t : Token) → FineRule (declarator_rule d b k s t) (Hungry (part (declarator d b k)))
fine_declarator d b k Sort.Star t = λ v. (clear (λ t'. refl), tt)
fine_declarator d b k Sort.Name t = λ z. (clear (λ t'. refl), tt)
fine_declarator d b k Sort.Open t = (refl, λ st. (refl, λ n. λ z. (clear (λ t'. refl), (refl, λ e. (refl, λ o. λ ps. (clear (λ t'. refl), (refl, λ c. tt)))))))
fine_declarator d b k _ t = tt

pub fine_parameter_name : (named : Bool) (s : Sort) (t : Token) → FineRule (parameter_name_rule s t) (Hungry (parameter_name named))
fine_parameter_name named Sort.Name t = tt
fine_parameter_name named _ t = tt

pub fine_parameter_declarator : (named : Bool) (d : ℕ) (b : Specifier) (k : ℕ) (s : Sort) (t : Token) → FineRule (parameter_declarator_rule named d b k s t) (Hungry (parameter_declarator named d b k))
fine_parameter_declarator named d b k Sort.Star t = λ v. (clear (λ t'. refl), tt)
fine_parameter_declarator named d b k Sort.Name t = tt
fine_parameter_declarator named d b k Sort.Open t = (refl, λ st. λ n. (clear (λ t'. refl), (refl, λ e. (refl, λ o. λ ps. (clear (λ t'. refl), (refl, λ c. tt))))))
fine_parameter_declarator named d b k _ t = tt

pub fine_parameter : (named : Bool) (d : ℕ) (s : Sort) (t : Token) → FineRule (parameter_rule named d s t) (Hungry (part (parameter named d)))
fine_parameter named d s t = fine_and (specifiers_rule s t) _ (Hungry (part specifiers)) (Hungry (part (parameter named d))) (fine_specifiers s t) (λ b. (clear (λ t'. refl), λ x. (clear (λ t'. refl), λ a. (clear (λ t'. refl), tt))))

fine_void : (named : Bool) (d : ℕ) (place : Place) (s : Sort) (t : Token) → FineRule (void_parameter named d place s t) (Hungry (after_void named d place))
fine_void named d place s t = fine_or _ _ (Hungry (after_void named d place))
    (fine_and (parameter_declarator_rule named d (void_base place) 0 s t) _ (Hungry (parameter_declarator named d (void_base place) 0)) (Hungry (after_void named d place)) (fine_parameter_declarator named d (void_base place) 0 s t) (λ x. (clear (λ t'. refl), λ a. (clear (λ t'. refl), λ v. (clear (λ t'. refl), tt)))))
    (fine_where _ _ (Hungry (after_void named d place)) (fine_and (annotation_rule d s t) _ (Hungry (part (annotation d))) (Hungry (after_void named d place)) (fine_annotation d s t) (λ a. (clear (λ t'. refl), λ v. (clear (λ t'. refl), tt)))))

pub fine_after_void : (named : Bool) (d : ℕ) (place : Place) (s : Sort) (t : Token) → FineRule (after_void_rule named d place s t) (Hungry (after_void named d place))
fine_after_void named d place Sort.Comma t = λ x. (clear (λ t'. refl), λ v. (clear (λ t'. refl), tt))
fine_after_void named d place s t = fine_void named d place s t

fine_listed : (named : Bool) (d : ℕ) (s : Sort) (t : Token) → FineRule (listed_parameters named d s t) (Hungry (parameters named d))
fine_listed named d s t = fine_and (parameter_rule named d s t) _ (Hungry (part (parameter named d))) (Hungry (parameters named d)) (fine_parameter named d s t) (λ x. (clear (λ t'. refl), λ v. (clear (λ t'. refl), tt)))

pub fine_parameters : (named : Bool) (d : ℕ) (s : Sort) (t : Token) → FineRule (parameters_rule named d s t) (Hungry (parameters named d))
fine_parameters named d Sort.Void t = λ v. (clear (λ t'. refl), tt)
fine_parameters named d s t = fine_listed named d s t

pub fine_field : (b : Specifier) (s : Sort) (t : Token) → FineRule (field_rule b s t) (Hungry (part (field b)))
fine_field b s t = fine_and (declarator_rule 0 b 0 s t) _ (Hungry (part (declarator 0 b 0))) (Hungry (part (field b))) (fine_declarator 0 b 0 s t) (λ x. (clear (λ t'. refl), λ a. (clear (λ t'. refl), tt)))

pub fine_field_group : (s : Sort) (t : Token) → FineRule (field_group_rule s t) (Hungry (part field_group))
fine_field_group s t = fine_and (specifiers_rule s t) _ (Hungry (part specifiers)) (Hungry (part field_group)) (fine_specifiers s t) (λ b. (clear (λ t'. refl), λ x. (clear (λ t'. refl), λ xs. (clear (λ t'. refl), (refl, λ e. tt)))))

pub fine_enumerator : (s : Sort) (t : Token) → FineRule (enumerator_rule s t) (Hungry (part enumerator))
fine_enumerator Sort.Name t = λ v. (clear (λ t'. refl), tt)
fine_enumerator _ t = tt

fine_other_initialiser : (n : ℕ) (s : Sort) (t : Token) → FineRule (other_initialiser n s t) (Hungry (part (initialiser n)))
fine_other_initialiser n Sort.And t = (refl, λ x. tt)
fine_other_initialiser n Sort.OpenBrace t = λ x. (clear (λ t'. refl), λ xs. (clear (λ t'. refl), (refl, λ c. tt)))
fine_other_initialiser n _ t = tt

pub fine_initialiser : (n : ℕ) (s : Sort) (t : Token) → FineRule (initialiser_rule n s t) (Hungry (part (initialiser n)))
fine_initialiser n s t = fine_or (other_initialiser n s t) _ (Hungry (part (initialiser n))) (fine_other_initialiser n s t) (fine_and (constant_rule s t) _ (Hungry (part constant)) (Hungry (part (initialiser n))) (fine_constant s t) (λ c. (clear (λ t'. refl), tt)))

pub fine_initial : (s : Sort) (t : Token) → FineRule (initial_rule s t) (Hungry (part initial))
fine_initial Sort.Equals t = λ v. (clear (λ t'. refl), tt)
fine_initial _ t = tt

fine_bare : (n : ℕ) (s : Sort) (t : Token) → FineRule (bare_element n s t) (Hungry (part (element n)))
fine_bare n s t = fine_and (initialiser_rule n s t) _ (Hungry (part (initialiser n))) (Hungry (part (element n))) (fine_initialiser n s t) (λ i. (clear (λ t'. refl), tt))

pub fine_element : (n : ℕ) (s : Sort) (t : Token) → FineRule (element_rule n s t) (Hungry (part (element n)))
fine_element n Sort.Dot t = (refl, λ x. (refl, λ e. λ i. (clear (λ t'. refl), tt)))
fine_element n s t = fine_bare n s t
