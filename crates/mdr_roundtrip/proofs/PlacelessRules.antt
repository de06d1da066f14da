-- No rule of the grammar looks at a place.
use Rattle.std.proofs.Common.{refl, subst, Bool, None, List, [], ◌∷◌, ◌++◌, map}
use Rattle.std.proofs.lemmas.List.{map-append}
use Rattle.mdr_syntax.specs.declared.token.Token.{Token}
use Rattle.mdr_grammar.specs.declared.sort.Sort.{Sort}
use Rattle.mdr_grammar.specs.Forms.{Part, PartValue, Repeated, repeated, Separated, separated, Enclosed, enclosed, Nonterminal, form}
use Rattle.mdr_grammar.specs.Forms.Part.{operand, expression, argument, statement, body, plain, simple, block_item, opening, local, right, right_side, label, clause, base, specifiers, size, annotation, constant, value, declarator, parameter, field, field_group, enumerator, initial, initialiser, element, global, item}
use Rattle.mdr_grammar.specs.Forms.Repeated.{block_items, statements, clauses, labels, field_groups, items}
use Rattle.mdr_grammar.specs.Forms.Separated.{arguments_at, locals, parameters_at, fields_of, globals}
use Rattle.mdr_grammar.specs.Forms.Enclosed.{enumerators, elements}
use Rattle.mdr_grammar.specs.Forms.Nonterminal.{part, option, many, commas, commas_open, after_comma, postfix, operators, choice, opened, arguments, stars, text_behind, text_after, unsigned_word, assignment, otherwise, parameters, after_void, parameter_name, parameter_declarator, qualified, outer, remote, critical, function, function_end, fields}
use Rattle.mdr_grammar.specs.Grammar.{rule, empty, part_rule}
use Rattle.mdr_roundtrip.proofs.Erased.{erased_token, erased_part, erased_value_of, erased_repeated, erased_separated, erased_between, erased_inside, erased, erased_value}
use Rattle.mdr_roundtrip.proofs.Placeless.{AlikeBy, AlikeRules, AlikeEmpty, IsPlaceless, and_alike, where_alike, whole}
use Rattle.mdr_roundtrip.proofs.Placeless.AlikeBy.{same, next}
use Rattle.mdr_roundtrip.proofs.Placeless.AlikeRules.{no_rule, rules}
use Rattle.mdr_roundtrip.proofs.Placeless.AlikeEmpty.{never_empty, empties}
use Rattle.mdr_roundtrip.proofs.Unplacing.{plain_made, unnamed_made}
use Rattle.mdr_roundtrip.proofs.PlacelessForms.{unsigned_alike, base_alike, stars_alike, operand_alike, postfix_alike, operators_alike, choice_alike, expression_alike, opened_alike, argument_alike, text_after_alike, text_behind_alike, arguments_alike}
use Rattle.mdr_roundtrip.proofs.PlacelessDecls.{constant_alike, size_alike, annotation_alike, value_alike, specifiers_alike, declarator_alike, parameter_name_alike, parameter_declarator_alike, parameter_alike, after_void_alike, parameters_alike, field_alike, field_group_alike, enumerator_alike, initialiser_alike, initial_alike, element_alike}
use Rattle.mdr_roundtrip.proofs.PlacelessStatements.{assignment_alike, simple_alike, right_side_alike, right_alike, local_alike, statement_alike, otherwise_alike, body_alike, plain_alike, block_item_alike, opening_alike, label_alike, clause_alike}
use Rattle.mdr_roundtrip.proofs.PlacelessItems.{global_alike, function_end_alike, function_alike, outer_alike, remote_alike, critical_alike, qualified_alike, fields_alike, item_alike}

part_alike : (x : Part) (s : Sort) (t : Token) → AlikeRules (erased_value_of x) (part_rule x s t) (part_rule (erased_part x) s (erased_token t))
part_alike (operand casts l d) s t = operand_alike casts l d s t
part_alike (expression l d) s t = expression_alike l d s t
part_alike (argument l d) s t = argument_alike l d s t
part_alike (statement l) s t = statement_alike l s t
part_alike (body l) s t = body_alike l s t
part_alike (plain l) s t = plain_alike l s t
part_alike (simple l d) s t = simple_alike l d s t
part_alike (block_item l) s t = block_item_alike l s t
part_alike (opening l d) s t = opening_alike l d s t
part_alike (local first b l d) s t = local_alike first b l d s t
part_alike (right l d) s t = right_alike l d s t
part_alike (right_side l d) s t = right_side_alike l d s t
part_alike label s t = label_alike s t
part_alike (clause l) s t = clause_alike l s t
part_alike base s t = base_alike s t
part_alike specifiers s t = specifiers_alike s t
part_alike size s t = size_alike s t
part_alike (annotation d) s t = annotation_alike d s t
part_alike constant s t = constant_alike s t
part_alike value s t = value_alike s t
part_alike (declarator d b k) s t = declarator_alike d b k s t
part_alike (parameter named d) s t = parameter_alike named d s t
part_alike (field b) s t = field_alike b s t
part_alike field_group s t = field_group_alike s t
part_alike enumerator s t = enumerator_alike s t
part_alike initial s t = initial_alike s t
part_alike (initialiser n) s t = initialiser_alike n s t
part_alike (element n) s t = element_alike n s t
part_alike (global first b) s t = global_alike first b s t
part_alike item s t = item_alike s t

-- ---- lists

many_alike : (allowed : Bool) (x : Repeated) (so_far : List (PartValue (repeated x))) (s : Sort) (t : Token) → AlikeRules (erased_repeated x) (part_rule (repeated x) s t) (part_rule (repeated x) s (erased_token t)) → AlikeRules (map (erased_repeated x)) (rule (many allowed x so_far) s t) (rule (many allowed x (map (erased_repeated x) so_far)) s (erased_token t))
many_alike allowed x so_far s t r = where_alike allowed (and_alike _ _ r (λ v. subst (λ (ys : List (PartValue (repeated x))). AlikeBy (map (erased_repeated x)) (form (many allowed x (so_far ++ (v ∷ [])))) (form (many allowed x ys))) (map-append (erased_repeated x) so_far (v ∷ [])) (whole (many allowed x (so_far ++ (v ∷ []))))))

repeated_alike : (x : Repeated) (s : Sort) (t : Token) → AlikeRules (erased_repeated x) (part_rule (repeated x) s t) (part_rule (repeated x) s (erased_token t))
repeated_alike (block_items l) s t = block_item_alike l s t
repeated_alike (statements l) s t = plain_alike l s t
repeated_alike (clauses l) s t = clause_alike l s t
repeated_alike labels s t = label_alike s t
repeated_alike field_groups s t = field_group_alike s t
repeated_alike items s t = item_alike s t

comma_alike : (x : Separated) (so_far : List (PartValue (separated x))) (v : PartValue (separated x)) → AlikeBy (map (erased_between x)) (form (commas x (so_far ++ (v ∷ [])))) (form (commas (erased_separated x) (map (erased_between x) so_far ++ (erased_between x v ∷ []))))
comma_alike x so_far v = subst (λ (ys : List (PartValue (separated (erased_separated x)))). AlikeBy (map (erased_between x)) (form (commas x (so_far ++ (v ∷ [])))) (form (commas (erased_separated x) ys))) (map-append (erased_between x) so_far (v ∷ [])) (whole (commas x (so_far ++ (v ∷ []))))

commas_alike : (x : Separated) (so_far : List (PartValue (separated x))) (s : Sort) (t : Token) → AlikeRules (map (erased_between x)) (rule (commas x so_far) s t) (rule (commas (erased_separated x) (map (erased_between x) so_far)) s (erased_token t))
commas_alike (arguments_at l d) so_far Sort.Comma t = rules refl (next (λ v. comma_alike (arguments_at l d) so_far v))
commas_alike (arguments_at l d) so_far _ t = no_rule
commas_alike (locals first b l d) so_far Sort.Comma t = rules refl (next (λ v. comma_alike (locals first b l d) so_far v))
commas_alike (locals first b l d) so_far _ t = no_rule
commas_alike (parameters_at named d) so_far Sort.Comma t = rules refl (next (λ v. comma_alike (parameters_at named d) so_far v))
commas_alike (parameters_at named d) so_far _ t = no_rule
commas_alike (fields_of b) so_far Sort.Comma t = rules refl (next (λ v. comma_alike (fields_of b) so_far v))
commas_alike (fields_of b) so_far _ t = no_rule
commas_alike (globals first b) so_far Sort.Comma t = rules refl (next (λ v. comma_alike (globals first b) so_far v))
commas_alike (globals first b) so_far _ t = no_rule

open_alike : (x : Enclosed) (so_far : List (PartValue (enclosed x))) (s : Sort) (t : Token) → AlikeRules (map (erased_inside x)) (rule (commas_open x so_far) s t) (rule (commas_open x (map (erased_inside x) so_far)) s (erased_token t))
open_alike x so_far Sort.Comma t = rules refl (whole (after_comma x so_far))
open_alike x so_far _ t = no_rule

enclosed_alike : (x : Enclosed) (s : Sort) (t : Token) → AlikeRules (erased_inside x) (part_rule (enclosed x) s t) (part_rule (enclosed x) s (erased_token t))
enclosed_alike enumerators s t = enumerator_alike s t
enclosed_alike (elements n) s t = element_alike n s t

after_alike : (x : Enclosed) (so_far : List (PartValue (enclosed x))) (s : Sort) (t : Token) → AlikeRules (map (erased_inside x)) (rule (after_comma x so_far) s t) (rule (after_comma x (map (erased_inside x) so_far)) s (erased_token t))
after_alike x so_far s t = and_alike _ _ (enclosed_alike x s t) (λ v. subst (λ (ys : List (PartValue (enclosed x))). AlikeBy (map (erased_inside x)) (form (commas_open x (so_far ++ (v ∷ [])))) (form (commas_open x ys))) (map-append (erased_inside x) so_far (v ∷ [])) (whole (commas_open x (so_far ++ (v ∷ [])))))

-- ---- every rule

rule_alike : (n : Nonterminal) (s : Sort) (t : Token) → AlikeRules (erased_value n) (rule n s t) (rule (erased n) s (erased_token t))
rule_alike (part x) s t = part_alike x s t
rule_alike (option allowed x) s t = where_alike allowed (and_alike _ _ (part_alike x s t) (λ v. same refl))
rule_alike (many allowed x so_far) s t = many_alike allowed x so_far s t (repeated_alike x s t)
rule_alike (commas x so_far) s t = commas_alike x so_far s t
rule_alike (commas_open x so_far) s t = open_alike x so_far s t
rule_alike (after_comma x so_far) s t = after_alike x so_far s t
rule_alike (postfix l d first f alone) s t = postfix_alike l d first f s t
rule_alike (operators p l d f) s t = operators_alike p l d f s t
rule_alike (choice l d f) s t = choice_alike l d f s t
rule_alike (opened l d first) s t = opened_alike l d first s t
rule_alike (arguments l d) s t = arguments_alike l d s t
rule_alike (stars k) s t = stars_alike k s t
rule_alike text_behind s t = text_behind_alike s t
rule_alike text_after s t = text_after_alike s t
rule_alike unsigned_word s t = unsigned_alike s t
rule_alike (assignment first l d f alone) s t = assignment_alike first l d f s t
rule_alike (otherwise l closed) s t = otherwise_alike l closed s t
rule_alike (parameters named d) s t = parameters_alike named d s t
rule_alike (after_void named d place) s t = after_void_alike named d place s t
rule_alike (parameter_name named) s t = parameter_name_alike s t
rule_alike (parameter_declarator named d b k) s t = parameter_declarator_alike named d b k s t
rule_alike (qualified first) s t = qualified_alike first s t
rule_alike (outer first b k) s t = outer_alike first b k s t
rule_alike (remote first b k) s t = remote_alike first b k s t
rule_alike (critical first b k) s t = critical_alike first b k s t
rule_alike (function first b k name) s t = function_alike first b k name s t
rule_alike (function_end first h) s t = function_end_alike first h s t
rule_alike (fields first name) s t = fields_alike first name s t

nothing_alike : (n : Nonterminal) → AlikeEmpty (erased_value n) (empty n) (empty (erased n))
nothing_alike (part x) = never_empty
nothing_alike (option allowed x) = empties refl
nothing_alike (many allowed x so_far) = empties refl
nothing_alike (commas x so_far) = empties refl
nothing_alike (commas_open x so_far) = empties refl
nothing_alike (after_comma x so_far) = empties refl
nothing_alike (postfix l d first f alone) = empties refl
nothing_alike (operators p l d f) = empties refl
nothing_alike (choice l d f) = empties refl
nothing_alike (opened l d first) = never_empty
nothing_alike (arguments l d) = empties refl
nothing_alike (stars k) = empties refl
nothing_alike text_behind = empties refl
nothing_alike text_after = never_empty
nothing_alike unsigned_word = empties refl
nothing_alike (assignment first l d f alone) = empties (plain_made first f)
nothing_alike (otherwise l closed) = empties refl
nothing_alike (parameters named d) = never_empty
nothing_alike (after_void named d place) = empties refl
nothing_alike (parameter_name named) = empties refl
nothing_alike (parameter_declarator named d b k) = empties (unnamed_made b k None)
nothing_alike (qualified first) = never_empty
nothing_alike (outer first b k) = never_empty
nothing_alike (remote first b k) = never_empty
nothing_alike (critical first b k) = never_empty
nothing_alike (function first b k name) = empties refl
nothing_alike (function_end first h) = never_empty
nothing_alike (fields first name) = empties refl

pub placeless : IsPlaceless
placeless = record { by_rule = rule_alike; by_nothing = nothing_alike }
