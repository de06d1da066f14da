-- Every rule keeps to what may follow; and what may be empty is hungry for what it begins with.
use Rattle.std.proofs.Common.{◌≡◌, refl, arith, ℕ, nat_le, nat_lt, nat_eq, Bool, true, false, ◌&&◌, ◌||◌, List, [], None}
use Rattle.mdr_syntax.specs.declared.token.Token.{Token}
use Rattle.mdr_syntax.specs.declared.tree.Form.{Form}
use Rattle.mdr_grammar.specs.Sorts.{Sort, is}
use Rattle.mdr_grammar.specs.Forms.{Part, PartValue, repeated, separated, enclosed, Repeated, Separated, Enclosed, Nonterminal, Value, Right, Rule, Empty, and_then, where_allowed}
use Rattle.mdr_grammar.specs.Forms.Part.{operand, expression, argument, statement, body, plain, simple, block_item, opening, local, right, right_side, label, clause, base, specifiers, size, annotation, constant, value, declarator, parameter, field, field_group, enumerator, initial, initialiser, element, global, item}
use Rattle.mdr_grammar.specs.Forms.Nonterminal.{part, option, many, commas, commas_open, after_comma, postfix, operators, choice, opened, arguments, stars, text_behind, text_after, unsigned_word, assignment, otherwise, parameters, after_void, parameter_name, parameter_declarator, qualified, outer, remote, critical, function, function_end, fields}
use Rattle.mdr_grammar.specs.Forms.Rule.{never, given}
use Rattle.mdr_grammar.specs.Grammar.{rule, empty, part_rule, comma_rule}
use Rattle.mdr_grammar.proofs.Hungry.{opens, dangles, may_dangle, hungry_part, Hungry, FineRule}
use Rattle.mdr_grammar.proofs.Bools.{and_left, implied, implied_true, either_left, either_right}
use Rattle.mdr_grammar.proofs.Every.{every_sort}
use Rattle.mdr_grammar.proofs.Binding.{clear, fine_and, fine_where, fine_more}
use Rattle.mdr_grammar.specs.Forms.Empty.{cannot, may}
use Rattle.mdr_grammar.specs.Forms.Repeated.{block_items, statements, clauses, labels, field_groups, items}
use Rattle.mdr_grammar.specs.Forms.Separated.{arguments_at, locals, parameters_at, fields_of, globals}
use Rattle.mdr_grammar.specs.Forms.Enclosed.{enumerators, elements}
use Rattle.mdr_grammar.specs.Expressions.{precedence_of, of_precedence}
use Rattle.mdr_core.specs.declared.kind.Kind.TheVariants.{U32}
use Rattle.mdr_syntax.specs.declared.tree.Base.TheVariants as base_type
use Rattle.mdr_syntax.specs.declared.tree.NodeWhat
use Rattle.mdr_grammar.specs.Declarations.{unnamed}
use Rattle.mdr_grammar.specs.Statements.{node_at}
use Rattle.mdr_grammar.proofs.FineForms.{Joins, fine_base, fine_unsigned, fine_stars, fine_operand, fine_postfix, fine_operators, fine_choice, fine_expression, fine_opened, fine_text_after, fine_text_behind, fine_argument, fine_arguments}
use Rattle.mdr_grammar.proofs.FineDeclarations.{fine_constant, fine_size, fine_annotation, fine_value, fine_specifiers, fine_declarator, fine_parameter_name, fine_parameter_declarator, fine_parameter, fine_after_void, fine_parameters, fine_field, fine_field_group, fine_enumerator, fine_initialiser, fine_initial, fine_element}
use Rattle.mdr_grammar.proofs.FineStatements.{fine_assignment, fine_simple, fine_right_side, fine_right, fine_local, fine_statement, fine_otherwise, fine_body, fine_plain, fine_block_item, fine_opening, fine_label, fine_clause, fine_global, fine_function_end, fine_function, fine_outer, fine_remote, fine_critical, fine_qualified, fine_fields, fine_item}

fine_part : (x : Part) (s : Sort) (t : Token) → FineRule (part_rule x s t) (Hungry (part x))
fine_part (operand casts l d) s t = fine_operand casts l d s t
fine_part (expression l d) s t = fine_more (part_rule (expression l d) s t) Joins (Hungry (part (expression l d))) (λ f s t h. either_left _ h) (fine_expression l d s t)
fine_part (argument l d) s t = fine_argument l d s t
fine_part (statement l) s t = fine_statement l s t
fine_part (body l) s t = fine_body l s t
fine_part (plain l) s t = fine_plain l s t
fine_part (simple l d) s t = fine_simple l d s t
fine_part (block_item l) s t = fine_block_item l s t
fine_part (opening l d) s t = fine_opening l d s t
fine_part (local first b l d) s t = fine_local first b l d s t
fine_part (right l d) s t = fine_right l d s t
fine_part (right_side l d) s t = fine_right_side l d s t
fine_part label s t = fine_label s t
fine_part (clause l) s t = fine_clause l s t
fine_part base s t = fine_base s t
fine_part specifiers s t = fine_specifiers s t
fine_part size s t = fine_size s t
fine_part (annotation d) s t = fine_annotation d s t
fine_part constant s t = fine_constant s t
fine_part value s t = fine_value s t
fine_part (declarator d b k) s t = fine_declarator d b k s t
fine_part (parameter named d) s t = fine_parameter named d s t
fine_part (field b) s t = fine_field b s t
fine_part field_group s t = fine_field_group s t
fine_part enumerator s t = fine_enumerator s t
fine_part initial s t = fine_initial s t
fine_part (initialiser n) s t = fine_initialiser n s t
fine_part (element n) s t = fine_element n s t
fine_part (global first b) s t = fine_global first b s t
fine_part item s t = fine_item s t

-- a value may only be hungrier than others of its form
may_dangle_too : (x : Part) (v : PartValue x) (s : Sort) → dangles x v s ≡ true → may_dangle x s ≡ true
may_dangle_too (statement l) v s e = and_left _ _ e
may_dangle_too (body l) v s e = and_left _ _ e
may_dangle_too _ v s e = e

either_more : (a b c : Bool) → (b ≡ true → c ≡ true) → a || b ≡ true → a || c ≡ true
either_more true b c f e = refl
either_more false b c f e = f e

fine_option : (allowed : Bool) (x : Part) (s : Sort) (t : Token) → FineRule (rule (option allowed x) s t) (Hungry (option allowed x))
fine_option allowed x s t = fine_where _ _ (Hungry (option allowed x)) (fine_and (part_rule x s t) _ (Hungry (part x)) (Hungry (option allowed x)) (fine_part x s t) (λ v. (record { at = λ s t h. either_left _ (either_more (hungry_part x s) (dangles x v s) (may_dangle x s) (may_dangle_too x v s) h) }, tt)))

fine_many : (allowed : Bool) (x : Repeated) (so_far : List (PartValue (repeated x))) (s : Sort) (t : Token) → FineRule (rule (many allowed x so_far) s t) (Hungry (many allowed x so_far))
fine_many allowed (block_items l) so_far s t = fine_where _ _ (Hungry (many allowed (block_items l) so_far)) (fine_and (part_rule (block_item l) s t) _ (Hungry (part (block_item l))) (Hungry (many allowed (block_items l) so_far)) (fine_part (block_item l) s t) (λ v. (clear (λ t'. refl), λ w. (record { at = λ s t h. h }, tt))))
fine_many allowed (statements l) so_far s t = fine_where _ _ (Hungry (many allowed (statements l) so_far)) (fine_and (part_rule (plain l) s t) _ (Hungry (part (plain l))) (Hungry (many allowed (statements l) so_far)) (fine_part (plain l) s t) (λ v. (clear (λ t'. refl), λ w. (record { at = λ s t h. h }, tt))))
fine_many allowed (clauses l) so_far s t = fine_where _ _ (Hungry (many allowed (clauses l) so_far)) (fine_and (part_rule (clause l) s t) _ (Hungry (part (clause l))) (Hungry (many allowed (clauses l) so_far)) (fine_part (clause l) s t) (λ v. (clear (λ t'. refl), λ w. (record { at = λ s t h. h }, tt))))
fine_many allowed labels so_far s t = fine_where _ _ (Hungry (many allowed labels so_far)) (fine_and (part_rule label s t) _ (Hungry (part label)) (Hungry (many allowed labels so_far)) (fine_part label s t) (λ v. (clear (λ t'. refl), λ w. (record { at = λ s t h. h }, tt))))
fine_many allowed field_groups so_far s t = fine_where _ _ (Hungry (many allowed field_groups so_far)) (fine_and (part_rule field_group s t) _ (Hungry (part field_group)) (Hungry (many allowed field_groups so_far)) (fine_part field_group s t) (λ v. (clear (λ t'. refl), λ w. (record { at = λ s t h. h }, tt))))
fine_many allowed items so_far s t = fine_where _ _ (Hungry (many allowed items so_far)) (fine_and (part_rule item s t) _ (Hungry (part item)) (Hungry (many allowed items so_far)) (fine_part item s t) (λ v. (clear (λ t'. refl), λ w. (record { at = λ s t h. h }, tt))))

fine_commas : (x : Separated) (so_far : List (PartValue (separated x))) (s : Sort) (t : Token) → FineRule (rule (commas x so_far) s t) (Hungry (commas x so_far))
fine_commas (arguments_at l d) so_far Sort.Comma t = λ v. (clear (λ t'. refl), λ w. (clear (λ t'. refl), tt))
fine_commas (locals first b l d) so_far Sort.Comma t = λ v. (clear (λ t'. refl), λ w. (clear (λ t'. refl), tt))
fine_commas (parameters_at named d) so_far Sort.Comma t = λ v. (clear (λ t'. refl), λ w. (clear (λ t'. refl), tt))
fine_commas (fields_of b) so_far Sort.Comma t = λ v. (clear (λ t'. refl), λ w. (clear (λ t'. refl), tt))
fine_commas (globals first b) so_far Sort.Comma t = λ v. (clear (λ t'. refl), λ w. (clear (λ t'. refl), tt))
fine_commas x so_far _ t = tt

fine_commas_open : (x : Enclosed) (so_far : List (PartValue (enclosed x))) (s : Sort) (t : Token) → FineRule (rule (commas_open x so_far) s t) (Hungry (commas_open x so_far))
fine_commas_open x so_far Sort.Comma t = λ w. (record { at = λ s t h. h }, tt)
fine_commas_open x so_far _ t = tt

fine_after_comma : (x : Enclosed) (so_far : List (PartValue (enclosed x))) (s : Sort) (t : Token) → FineRule (rule (after_comma x so_far) s t) (Hungry (after_comma x so_far))
fine_after_comma enumerators so_far s t = fine_and (part_rule enumerator s t) _ (Hungry (part enumerator)) (Hungry (after_comma enumerators so_far)) (fine_part enumerator s t) (λ v. (clear (λ t'. refl), λ w. (record { at = λ s t h. h }, tt)))
fine_after_comma (elements n) so_far s t = fine_and (part_rule (element n) s t) _ (Hungry (part (element n))) (Hungry (after_comma (elements n) so_far)) (fine_part (element n) s t) (λ v. (clear (λ t'. refl), λ w. (record { at = λ s t h. h }, tt)))

pub fine_rule : (n : Nonterminal) (s : Sort) (t : Token) → FineRule (rule n s t) (Hungry n)
fine_rule (part x) s t = fine_part x s t
fine_rule (option allowed x) s t = fine_option allowed x s t
fine_rule (many allowed x so_far) s t = fine_many allowed x so_far s t
fine_rule (commas x so_far) s t = fine_commas x so_far s t
fine_rule (commas_open x so_far) s t = fine_commas_open x so_far s t
fine_rule (after_comma x so_far) s t = fine_after_comma x so_far s t
fine_rule (postfix l d first f alone) s t = fine_postfix l d first f alone s t
fine_rule (operators precedence l d f) s t = fine_operators precedence l d f s t
fine_rule (choice l d f) s t = fine_choice l d f s t
fine_rule (opened l d first) s t = fine_opened l d first s t
fine_rule (arguments l d) s t = fine_arguments l d s t
fine_rule (stars k) s t = fine_stars k s t
fine_rule text_behind s t = fine_text_behind s t
fine_rule text_after s t = fine_text_after s t
fine_rule unsigned_word s t = fine_unsigned s t
fine_rule (assignment first l d f alone) s t = fine_assignment first l d f alone s t
fine_rule (otherwise l closed) s t = fine_otherwise l closed s t
fine_rule (parameters named d) s t = fine_parameters named d s t
fine_rule (after_void named d place) s t = fine_after_void named d place s t
fine_rule (parameter_name named) s t = fine_parameter_name named s t
fine_rule (parameter_declarator named d b k) s t = fine_parameter_declarator named d b k s t
fine_rule (qualified first) s t = fine_qualified first s t
fine_rule (outer first b k) s t = fine_outer first b k s t
fine_rule (remote first b k) s t = fine_remote first b k s t
fine_rule (critical first b k) s t = fine_critical first b k s t
fine_rule (function first b k name) s t = fine_function first b k name s t
fine_rule (function_end first h) s t = fine_function_end first h s t
fine_rule (fields first name) s t = fine_fields first name s t

-- ---- what may be empty

abbrev pub Owns : (n : Nonterminal) → Empty (Value n) → Sort → Token → Type 0
Owns n cannot s t = Unit {0}
Owns n (may allowed v) s t = opens (rule n s t) ≡ true → Hungry n v s t ≡ true

opens_and : {A B : Type 0} (r : Rule A) (k : A → Right B) → opens (and_then r k) ≡ true → opens r ≡ true
opens_and never k e = e
opens_and (given allowed r) k e = e

opens_comma : {A : Type 0} (r : Right A) (s : Sort) → opens (comma_rule r s) ≡ true → is Sort.Comma s ≡ true
opens_comma r Sort.Comma e = refl
opens_comma r _ e = let q : false ≡ true = e in absurd (Prim.cc)

owns_operators : (b : Bool) (p l d : ℕ) (f : Form) (t : Token) → opens (of_precedence b p l d f t) ≡ true → b ≡ true
owns_operators true p l d f t e = refl
owns_operators false p l d f t e = e

same_number : (a p : ℕ) → nat_eq a p ≡ true → nat_le p a ≡ true
same_number a p h = grind arith

opens_where : {A : Type 0} (b : Bool) (r : Rule A) → opens (where_allowed b r) ≡ true → opens r ≡ true
opens_where b never e = e
opens_where b (given allowed r) e = e

owns_option : (allowed : Bool) (x : Part) (s : Sort) (t : Token) → Owns (option allowed x) (empty (option allowed x)) s t
owns_option allowed x s t = λ h. either_right _ (opens_and (part_rule x s t) _ (opens_where allowed _ h))

owns_many : (allowed : Bool) (x : Repeated) (so_far : List (PartValue (repeated x))) (s : Sort) (t : Token) → Owns (many allowed x so_far) (empty (many allowed x so_far)) s t
owns_many allowed x so_far s t = λ h. either_right _ (opens_and (part_rule (repeated x) s t) _ (opens_where allowed _ h))

pub owns : (n : Nonterminal) (s : Sort) (t : Token) → Owns n (empty n) s t
owns (option allowed x) s t = owns_option allowed x s t
owns (many allowed x so_far) s t = owns_many allowed x so_far s t
owns (commas x so_far) s t = λ h. either_left _ (opens_comma _ s h)
owns (commas_open x so_far) s t = λ h. either_left _ (either_left _ (opens_comma _ s h))
owns (after_comma x so_far) s t = λ h. either_right _ (opens_and (part_rule (enclosed x) s t) _ h)
owns (postfix l d first f alone) s t = λ h. implied_true _ _ (every_sort (λ s. implied (opens (rule (postfix l d first f alone) s t)) (Hungry (postfix l d first f alone) (record { form = f; alone = alone }) s t)) refl s) h
owns (operators p l d f) s t = λ h. same_number (precedence_of s) p (and_left _ _ (owns_operators (nat_eq (precedence_of s) p && nat_lt p 12) p l d f t h))
owns (choice l d f) s t = λ h. implied_true _ _ (every_sort (λ s. implied (opens (rule (choice l d f) s t)) (Hungry (choice l d f) f s t)) refl s) h
owns (arguments l d) s t = λ h. implied_true _ _ (every_sort (λ s. implied (opens (rule (arguments l d) s t)) (Hungry (arguments l d) [] s t)) refl s) h
owns (stars k) s t = λ h. implied_true _ _ (every_sort (λ s. implied (opens (rule (stars k) s t)) (Hungry (stars k) k s t)) refl s) h
owns text_behind s t = λ h. implied_true _ _ (every_sort (λ s. implied (opens (rule text_behind s t)) (Hungry text_behind None s t)) refl s) h
owns unsigned_word s t = λ h. implied_true _ _ (every_sort (λ s. implied (opens (rule unsigned_word s t)) (Hungry unsigned_word (base_type.Int U32) s t)) refl s) h
owns (assignment first l d f alone) s t = λ h. implied_true _ _ (every_sort (λ s. implied (opens (rule (assignment first l d f alone) s t)) (Hungry (assignment first l d f alone) (node_at first (NodeWhat.Plain f)) s t)) refl s) h
owns (otherwise l closed) s t = λ h. implied_true _ _ (every_sort (λ s. implied (opens (rule (otherwise l closed) s t)) (Hungry (otherwise l closed) None s t)) refl s) h
owns (after_void named d place) s t = λ h. implied_true _ _ (every_sort (λ s. implied (opens (rule (after_void named d place) s t)) (Hungry (after_void named d place) [] s t)) refl s) h
owns (parameter_name named) s t = λ h. implied_true _ _ (every_sort (λ s. implied (opens (rule (parameter_name named) s t)) (Hungry (parameter_name named) None s t)) refl s) h
owns (parameter_declarator named d b k) s t = λ h. implied_true _ _ (every_sort (λ s. implied (opens (rule (parameter_declarator named d b k) s t)) (Hungry (parameter_declarator named d b k) (unnamed b k None) s t)) refl s) h
owns (function first b k name) s t = λ h. implied_true _ _ (every_sort (λ s. implied (opens (rule (function first b k name) s t)) (Hungry (function first b k name) None s t)) refl s) h
owns (fields first name) s t = λ h. implied_true _ _ (every_sort (λ s. implied (opens (rule (fields first name) s t)) (Hungry (fields first name) None s t)) refl s) h
owns _ s t = tt
