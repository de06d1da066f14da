-- Every rule gives what can be printed.
use Rattle.std.proofs.Common.{◌≡◌, refl, Bool, true, List, [], ◌∷◌, ◌++◌, Some, None}
use Rattle.std.specs.Prelude.{◌&&◌, nat_lt}
use Rattle.std.specs.List.{list_all}
use Rattle.mdr_syntax.specs.declared.token.Token.{Token}
use Rattle.mdr_roundtrip.specs.Words.{is_word, is_base}
use Rattle.mdr_roundtrip.specs.Printable.{is_printable_form}
use Rattle.mdr_roundtrip.proofs.Tests.{both}
use Rattle.mdr_grammar.specs.declared.sort.Sort.{Sort}
use Rattle.mdr_grammar.specs.Forms.{Part, PartValue, repeated, separated, enclosed, Repeated, Separated, Enclosed, Nonterminal, form}
use Rattle.mdr_grammar.specs.Forms.Part.{operand, expression, argument, statement, body, plain, simple, block_item, opening, local, right, right_side, label, clause, base, specifiers, size, annotation, constant, value, declarator, parameter, field, field_group, enumerator, initial, initialiser, element, global, item}
use Rattle.mdr_grammar.specs.Forms.Nonterminal.{part, option, many, commas, commas_open, after_comma, postfix, operators, choice, opened, arguments, stars, text_behind, text_after, unsigned_word, assignment, otherwise, parameters, after_void, parameter_name, parameter_declarator, qualified, outer, remote, critical, function, function_end, fields}
use Rattle.mdr_grammar.specs.Forms.Repeated.{block_items, statements, clauses, labels, field_groups, items}
use Rattle.mdr_grammar.specs.Forms.Right.{gives}
use Rattle.mdr_grammar.specs.Expressions.{text_of}
use Rattle.mdr_grammar.specs.Grammar.{rule, empty, part_rule}
use Rattle.mdr_roundtrip.proofs.Bools.{also, all_more}
use Rattle.mdr_roundtrip.proofs.Judged.{meets, good_part, good, fits_part, fits, SoundRule}
use Rattle.mdr_roundtrip.proofs.Judges.{SoundEmpty}
use Rattle.mdr_roundtrip.proofs.Steps.{sound_and, sound_where}
use Rattle.mdr_roundtrip.proofs.DeclTests.{unnamed_is}
use Rattle.mdr_roundtrip.proofs.NodeTests.{plain_is}
use Rattle.mdr_roundtrip.proofs.SoundForms.{sound_unsigned, sound_base, sound_stars, sound_operand, sound_postfix, sound_operators, sound_choice, sound_expression, sound_opened, sound_argument, sound_text_after, sound_text_behind, sound_arguments}
use Rattle.mdr_roundtrip.proofs.SoundDeclarations.{sound_constant, sound_size, sound_annotation, sound_value, sound_specifiers, sound_declarator, sound_parameter_name, sound_parameter_declarator, sound_parameter, sound_after_void, sound_parameters, sound_field, sound_field_group, sound_enumerator, sound_initialiser, sound_initial, sound_element}
use Rattle.mdr_roundtrip.proofs.SoundStatements.{sound_assignment, sound_simple, sound_right_side, sound_right, sound_local, sound_statement, sound_otherwise, sound_body, sound_plain, sound_block_item, sound_opening, sound_label, sound_clause}
use Rattle.mdr_roundtrip.proofs.SoundItems.{sound_global, sound_function_end, sound_function, sound_outer, sound_remote, sound_critical, sound_qualified, sound_fields, sound_item}

sound_part : (x : Part) (s : Sort) (t : Token) → fits_part x ≡ true → meets s t.what ≡ true → SoundRule (part_rule x s t) (good_part x)
sound_part (operand casts l d) s t f m = sound_operand casts l d s t m
sound_part (expression l d) s t f m = sound_expression l d s t m
sound_part (argument l d) s t f m = sound_argument l d s t m
sound_part (statement l) s t f m = sound_statement l s t m
sound_part (body l) s t f m = sound_body l s t m
sound_part (plain l) s t f m = sound_plain l s t m
sound_part (simple l d) s t f m = sound_simple l d s t m
sound_part (block_item l) s t f m = sound_block_item l s t m
sound_part (opening l d) s t f m = sound_opening l d s t m
sound_part (local first b l d) s t f m = sound_local first b l d s t f m
sound_part (right l d) s t f m = sound_right l d s t
sound_part (right_side l d) s t f m = sound_right_side l d s t m
sound_part label s t f m = sound_label s t
sound_part (clause l) s t f m = sound_clause l s t
sound_part base s t f m = sound_base s t
sound_part specifiers s t f m = sound_specifiers s t
sound_part size s t f m = sound_size s t
sound_part (annotation d) s t f m = sound_annotation d s t
sound_part constant s t f m = sound_constant s t m
sound_part value s t f m = sound_value s t
sound_part (declarator d b k) s t f m = sound_declarator d b k s t f m
sound_part (parameter named d) s t f m = sound_parameter named d s t
sound_part (field b) s t f m = sound_field b s t f m
sound_part field_group s t f m = sound_field_group s t
sound_part enumerator s t f m = sound_enumerator s t m
sound_part initial s t f m = sound_initial s t
sound_part (initialiser n) s t f m = sound_initialiser n s t m
sound_part (element n) s t f m = sound_element n s t m
sound_part (global first b) s t f m = sound_global first b s t f m
sound_part item s t f m = sound_item s t m

sound_option : (allowed : Bool) (x : Part) (s : Sort) (t : Token) → fits_part x ≡ true → meets s t.what ≡ true → SoundRule (rule (option allowed x) s t) (good (option allowed x))
sound_option allowed x s t f m = sound_where allowed _ (good (option allowed x)) (sound_and (part_rule x s t) (λ v. gives (Some v)) (good_part x) (good (option allowed x)) (sound_part x s t f m) (λ v h. h))

sound_listed : (allowed : Bool) (x : Repeated) (so_far : List (PartValue (repeated x))) (s : Sort) (t : Token) → list_all (good_part (repeated x)) so_far ≡ true → SoundRule (part_rule (repeated x) s t) (good_part (repeated x)) → SoundRule (rule (many allowed x so_far) s t) (good (many allowed x so_far))
sound_listed allowed x so_far s t f r = sound_where allowed _ (good (many allowed x so_far)) (sound_and (part_rule (repeated x) s t) (λ v. form (many allowed x (so_far ++ (v ∷ [])))) (good_part (repeated x)) (good (many allowed x so_far)) r (λ v h. (all_more (good_part (repeated x)) so_far v f h, λ w k. k)))

sound_many : (allowed : Bool) (x : Repeated) (so_far : List (PartValue (repeated x))) (s : Sort) (t : Token) → list_all (good_part (repeated x)) so_far ≡ true → meets s t.what ≡ true → SoundRule (rule (many allowed x so_far) s t) (good (many allowed x so_far))
sound_many allowed (block_items l) so_far s t f m = sound_listed allowed (block_items l) so_far s t f (sound_part (block_item l) s t refl m)
sound_many allowed (statements l) so_far s t f m = sound_listed allowed (statements l) so_far s t f (sound_part (plain l) s t refl m)
sound_many allowed (clauses l) so_far s t f m = sound_listed allowed (clauses l) so_far s t f (sound_part (clause l) s t refl m)
sound_many allowed labels so_far s t f m = sound_listed allowed labels so_far s t f (sound_part label s t refl m)
sound_many allowed field_groups so_far s t f m = sound_listed allowed field_groups so_far s t f (sound_part field_group s t refl m)
sound_many allowed items so_far s t f m = sound_listed allowed items so_far s t f (sound_part item s t refl m)

sound_commas : (x : Separated) (so_far : List (PartValue (separated x))) (s : Sort) (t : Token) → (fits_part (separated x) && list_all (good_part (separated x)) so_far) ≡ true → SoundRule (rule (commas x so_far) s t) (good (commas x so_far))
sound_commas x so_far Sort.Comma t f =
    let k = both (fits_part (separated x)) (list_all (good_part (separated x)) so_far) f in
    (k.0, λ v h. (more v h, λ w j. j))
  where
    more : (v : PartValue (separated x)) → good_part (separated x) v ≡ true → fits (commas x (so_far ++ (v ∷ []))) ≡ true
    more v h =
        let k = both (fits_part (separated x)) (list_all (good_part (separated x)) so_far) f in
        also (fits_part (separated x)) (list_all (good_part (separated x)) (so_far ++ (v ∷ []))) k.0 (all_more (good_part (separated x)) so_far v k.1 h)
sound_commas x so_far _ t f = tt

sound_commas_open : (x : Enclosed) (so_far : List (PartValue (enclosed x))) (s : Sort) (t : Token) → list_all (good_part (enclosed x)) so_far ≡ true → SoundRule (rule (commas_open x so_far) s t) (good (commas_open x so_far))
sound_commas_open x so_far Sort.Comma t f = (f, λ w j. j)
sound_commas_open x so_far _ t f = tt

sound_enclosed : (x : Enclosed) (s : Sort) (t : Token) → meets s t.what ≡ true → SoundRule (part_rule (enclosed x) s t) (good_part (enclosed x))
sound_enclosed Enclosed.enumerators s t m = sound_part enumerator s t refl m
sound_enclosed (Enclosed.elements n) s t m = sound_part (element n) s t refl m

sound_after_comma : (x : Enclosed) (so_far : List (PartValue (enclosed x))) (s : Sort) (t : Token) → list_all (good_part (enclosed x)) so_far ≡ true → meets s t.what ≡ true → SoundRule (rule (after_comma x so_far) s t) (good (after_comma x so_far))
sound_after_comma x so_far s t f m = sound_and (part_rule (enclosed x) s t) (λ v. form (commas_open x (so_far ++ (v ∷ [])))) (good_part (enclosed x)) (good (after_comma x so_far)) (sound_enclosed x s t m) (λ v h. (all_more (good_part (enclosed x)) so_far v f h, λ w j. j))

pub sound_rule : (n : Nonterminal) (s : Sort) (t : Token) → fits n ≡ true → meets s t.what ≡ true → SoundRule (rule n s t) (good n)
sound_rule (part x) s t f m = sound_part x s t f m
sound_rule (option allowed x) s t f m = sound_option allowed x s t f m
sound_rule (many allowed x so_far) s t f m = sound_many allowed x so_far s t f m
sound_rule (commas x so_far) s t f m = sound_commas x so_far s t f
sound_rule (commas_open x so_far) s t f m = sound_commas_open x so_far s t f
sound_rule (after_comma x so_far) s t f m = sound_after_comma x so_far s t f m
sound_rule (postfix l d first g alone) s t f m = sound_postfix l d first g s t f m
sound_rule (operators precedence l d g) s t f m = sound_operators precedence l d g s t f m
sound_rule (choice l d g) s t f m = sound_choice l d g s t f
sound_rule (opened l d first) s t f m = sound_opened l d first s t m
sound_rule (arguments l d) s t f m = sound_arguments l d s t m
sound_rule (stars k) s t f m = sound_stars k s t
sound_rule text_behind s t f m = sound_text_behind s t m
sound_rule text_after s t f m = sound_text_after s t m
sound_rule unsigned_word s t f m = sound_unsigned s t
sound_rule (assignment first l d g alone) s t f m = sound_assignment first l d g s t f m
sound_rule (otherwise l closed) s t f m = sound_otherwise l closed s t
sound_rule (parameters named d) s t f m = sound_parameters named d s t
sound_rule (after_void named d place) s t f m = sound_after_void named d place s t m
sound_rule (parameter_name named) s t f m = sound_parameter_name s t m
sound_rule (parameter_declarator named d b k) s t f m = sound_parameter_declarator named d b k s t f m
sound_rule (qualified first) s t f m = sound_qualified first s t
sound_rule (outer first b k) s t f m = sound_outer first b k s t f m
sound_rule (remote first b k) s t f m = sound_remote first b k s t f m
sound_rule (critical first b k) s t f m = sound_critical first b k s t f m
sound_rule (function first b k name) s t f m = let j = both (is_base b.base) (is_word (text_of name.what)) f in sound_function first b k name s t j.0 j.1
sound_rule (function_end first h) s t f m = sound_function_end first h s t f
sound_rule (fields first name) s t f m = sound_fields first name s t f

pub sound_empty : (n : Nonterminal) → fits n ≡ true → SoundEmpty (empty n) (good n)
sound_empty (option allowed x) f = λ a. refl
sound_empty (many allowed x so_far) f = λ a. f
sound_empty (commas x so_far) f = λ a. (both (fits_part (separated x)) (list_all (good_part (separated x)) so_far) f).1
sound_empty (commas_open x so_far) f = λ a. f
sound_empty (after_comma x so_far) f = λ a. f
sound_empty (postfix l d first g alone) f = λ a. f
sound_empty (operators precedence l d g) f = λ a. (both (nat_lt 0 precedence) (is_printable_form g) f).1
sound_empty (choice l d g) f = λ a. f
sound_empty (arguments l d) f = λ a. refl
sound_empty (stars k) f = λ a. refl
sound_empty text_behind f = λ a. refl
sound_empty unsigned_word f = λ a. refl
sound_empty (assignment first l d g alone) f = λ a. plain_is first g f
sound_empty (otherwise l closed) f = λ a. refl
sound_empty (after_void named d place) f = λ a. refl
sound_empty (parameter_name named) f = λ a. refl
sound_empty (parameter_declarator named d b k) f = λ a. unnamed_is b k None f refl
sound_empty (function first b k name) f = λ a. refl
sound_empty (fields first name) f = λ a. refl
sound_empty _ f = tt
