-- The rules of statements and items keep to what may follow.
use Rattle.std.proofs.Common.{◌+◌, refl, ℕ, Bool, true, false, not, ◌&&◌, ◌||◌, List, Option, Some, None}
use Rattle.mdr_core.specs.declared.place.Place.{Place}
use Rattle.mdr_syntax.specs.declared.token.Token.{Token}
use Rattle.mdr_syntax.specs.declared.tree.Form.{Form}
use Rattle.mdr_grammar.specs.Sorts.{Sort, is}
use Rattle.mdr_grammar.specs.Forms.{Ended, Specifier}
use Rattle.mdr_grammar.specs.Forms.Part.{operand, statement, body, plain, simple, block_item, opening, local, right, right_side, label, clause, base, specifiers, declarator, global, item}
use Rattle.mdr_grammar.specs.Forms.Nonterminal.{part, assignment, otherwise, qualified, outer, remote, critical, function, function_end, fields}
use Rattle.mdr_grammar.specs.Forms.Right.{gives, then}
use Rattle.mdr_grammar.proofs.Hungry.{Hungry, Clear, Fine, FineRule}
use Rattle.mdr_grammar.proofs.Bools.{either_left}
use Rattle.mdr_grammar.proofs.Binding.{clear, fine_and, fine_or, fine_where, fine_more}
use Rattle.mdr_syntax.specs.declared.tree.Head.{Head}
use Rattle.mdr_syntax.specs.declared.tree.Item.{Item}
use Rattle.mdr_syntax.specs.declared.tree.Node.{Node}
use Rattle.mdr_grammar.specs.Expressions.{base_rule, operand_rule, expression_rule}
use Rattle.mdr_grammar.specs.Declarations.{specifiers_rule, declarator_rule}
use Rattle.mdr_grammar.specs.Statements.{assignment_rule, simple_rule, right_side_rule, right_rule, local_rule, locals_rule, keyword_rule, other_closed, statement_rule, other_branch, otherwise_rule, single_body, body_rule, plain_rule, block_item_rule, opening_rule, label_rule, clause_rule, global_rule, function_end_rule, function_rule, named_global, other_globals, outer_rule, remote_rule, critical_rule, typed_item, qualified_rule, fields_rule, struct_or_outer, item_rule}
use Rattle.mdr_grammar.proofs.FineForms.{Joins, fine_base, fine_operand, fine_expression}
use Rattle.mdr_grammar.proofs.FineDeclarations.{fine_specifiers, fine_declarator}

pub fine_assignment : (first : Place) (l d : ℕ) (f : Form) (alone : Bool) (s : Sort) (t : Token) → FineRule (assignment_rule first l d f s t) (Hungry (assignment first l d f alone))
fine_assignment first l d f alone Sort.Equals t = λ g. (clear (λ t'. refl), tt)
fine_assignment first l d f alone Sort.Compound t = λ g. (clear (λ t'. refl), tt)
fine_assignment first l d f alone _ t = tt

pub fine_simple : (l d : ℕ) (s : Sort) (t : Token) → FineRule (simple_rule l d s t) (Hungry (part (simple l d)))
fine_simple l d s t = fine_and (operand_rule false (l + 1) d s t) _ (Hungry (part (operand false (l + 1) d))) (Hungry (part (simple l d))) (fine_operand false (l + 1) d s t) (λ x. (clear (λ t'. refl), λ v. (clear (λ t'. refl), tt)))

pub fine_right_side : (l d : ℕ) (s : Sort) (t : Token) → FineRule (right_side_rule l d s t) (Hungry (part (right_side l d)))
fine_right_side l d Sort.Text t = tt
fine_right_side l d s t = fine_more (expression_rule l d s t) Joins (Hungry (part (right_side l d))) (λ f s t h. either_left _ h) (fine_expression l d s t)

pub fine_right : (l d : ℕ) (s : Sort) (t : Token) → FineRule (right_rule l d s t) (Hungry (part (right l d)))
fine_right l d Sort.Equals t = λ v. (clear (λ t'. refl), tt)
fine_right l d _ t = tt

pub fine_local : (first : Place) (b : Specifier) (l d : ℕ) (s : Sort) (t : Token) → FineRule (local_rule first b l d s t) (Hungry (part (local first b l d)))
fine_local first b l d s t = fine_and (declarator_rule d b 0 s t) _ (Hungry (part (declarator d b 0))) (Hungry (part (local first b l d))) (fine_declarator d b 0 s t) (λ x. (clear (λ t'. refl), λ r. (clear (λ t'. refl), tt)))

fine_locals : (l d : ℕ) (s : Sort) (t : Token) → FineRule (locals_rule l d s t) (Hungry (part (opening l d)))
fine_locals l d s t = fine_and (specifiers_rule s t) _ (Hungry (part specifiers)) (Hungry (part (opening l d))) (fine_specifiers s t) (λ b. (clear (λ t'. refl), λ x. (clear (λ t'. refl), λ v. (clear (λ t'. refl), tt))))

-- ---- branches

clear_branch : (l l' : ℕ) (closed : Bool) (node : Option Ended → Node) → Clear (λ s t. false || (is Sort.Else s && not closed)) (then (otherwise l closed) (λ b. gives (record { node = node b; closed = other_closed b }))) (Hungry (part (statement l')))
clear_branch l l' true node = clear (λ t'. refl)
clear_branch l l' false node = clear (λ t'. refl)

clear_other : (l l' : ℕ) (closed : Bool) (n : Node) (o : Option Ended) → Clear (Hungry (otherwise l closed) o) (gives (record { node = n; closed = other_closed o })) (Hungry (part (statement l')))
clear_other l l' closed n (Some b) = record { at = λ s t h. h }
clear_other l l' closed n None = clear (λ t'. refl)

fine_keyword : (l : ℕ) (s : Sort) (t : Token) → FineRule (keyword_rule l s t) (Hungry (part (statement l)))
fine_keyword l Sort.OpenBrace t = λ ns. (clear (λ t'. refl), (refl, λ c. tt))
fine_keyword l Sort.Break t = (refl, λ e. tt)
fine_keyword l Sort.Continue t = (refl, λ e. tt)
fine_keyword l Sort.Return t = λ v. (clear (λ t'. refl), (refl, λ e. tt))
fine_keyword l Sort.If t = (refl, λ o. λ c. (clear (λ t'. refl), (refl, λ e. λ a. (clear_branch (l + 1) l a.closed _, λ b. (clear_other (l + 1) l a.closed _ b, tt)))))
fine_keyword l Sort.While t = (refl, λ o. λ c. (clear (λ t'. refl), (refl, λ e. λ a. (record { at = λ s t h. h }, tt))))
fine_keyword l Sort.For t = (refl, λ o. λ i. (clear (λ t'. refl), (refl, λ e. λ c. (clear (λ t'. refl), (refl, λ e'. λ n. (clear (λ t'. refl), (refl, λ c'. λ a. (record { at = λ s t h. h }, tt))))))))
fine_keyword l Sort.Do t = λ a. (clear (λ t'. refl), (refl, λ w. (refl, λ o. λ c. (clear (λ t'. refl), (refl, λ c'. (refl, λ e. tt))))))
fine_keyword l Sort.Switch t = (refl, λ o. λ c. (clear (λ t'. refl), (refl, λ c'. (refl, λ b. λ cs. (clear (λ t'. refl), (refl, λ e. tt))))))
fine_keyword l _ t = tt

pub fine_statement : (l : ℕ) (s : Sort) (t : Token) → FineRule (statement_rule l s t) (Hungry (part (statement l)))
fine_statement l s t = fine_or (keyword_rule l s t) _ (Hungry (part (statement l))) (fine_keyword l s t) (fine_where _ _ (Hungry (part (statement l))) (fine_and (simple_rule l 0 s t) _ (Hungry (part (simple l 0))) (Hungry (part (statement l))) (fine_simple l 0 s t) (λ n. (clear (λ t'. refl), (refl, λ e. tt)))))

fine_other_branch : (c : Bool) (l : ℕ) (closed : Bool) → FineRule (other_branch c l) (Hungry (otherwise l closed))
fine_other_branch true l closed = λ b. (record { at = λ s t h. h }, tt)
fine_other_branch false l closed = tt

pub fine_otherwise : (l : ℕ) (closed : Bool) (s : Sort) (t : Token) → FineRule (otherwise_rule l closed s t) (Hungry (otherwise l closed))
fine_otherwise l closed Sort.Else t = fine_other_branch closed l closed
fine_otherwise l closed _ t = tt

fine_single : (l : ℕ) (s : Sort) (t : Token) → FineRule (single_body l s t) (Hungry (part (body l)))
fine_single l s t = fine_where _ _ (Hungry (part (body l))) (fine_and (statement_rule (l + 1) s t) _ (Hungry (part (statement (l + 1)))) (Hungry (part (body l))) (fine_statement (l + 1) s t) (λ x. (record { at = λ s t h. h }, tt)))

pub fine_body : (l : ℕ) (s : Sort) (t : Token) → FineRule (body_rule l s t) (Hungry (part (body l)))
fine_body l Sort.OpenBrace t = λ ns. (clear (λ t'. refl), (refl, λ c. tt))
fine_body l s t = fine_single l s t

pub fine_plain : (l : ℕ) (s : Sort) (t : Token) → FineRule (plain_rule l s t) (Hungry (part (plain l)))
fine_plain l s t = fine_and (statement_rule l s t) _ (Hungry (part (statement l))) (Hungry (part (plain l))) (fine_statement l s t) (λ x. (clear (λ t'. refl), tt))

pub fine_block_item : (l : ℕ) (s : Sort) (t : Token) → FineRule (block_item_rule l s t) (Hungry (part (block_item l)))
fine_block_item l s t = fine_or _ _ (Hungry (part (block_item l)))
    (fine_and (locals_rule l 0 s t) _ (Hungry (part (opening l 0))) (Hungry (part (block_item l))) (fine_locals l 0 s t) (λ ns. (clear (λ t'. refl), (refl, λ e. tt))))
    (fine_and (statement_rule l s t) _ (Hungry (part (statement l))) (Hungry (part (block_item l))) (fine_statement l s t) (λ x. (clear (λ t'. refl), tt)))

pub fine_opening : (l d : ℕ) (s : Sort) (t : Token) → FineRule (opening_rule l d s t) (Hungry (part (opening l d)))
fine_opening l d s t = fine_or (locals_rule l d s t) _ (Hungry (part (opening l d))) (fine_locals l d s t) (fine_where _ _ (Hungry (part (opening l d))) (fine_and (simple_rule l d s t) _ (Hungry (part (simple l d))) (Hungry (part (opening l d))) (fine_simple l d s t) (λ n. (clear (λ t'. refl), tt))))

pub fine_label : (s : Sort) (t : Token) → FineRule (label_rule s t) (Hungry (part label))
fine_label Sort.Case t = λ c. (clear (λ t'. refl), (refl, λ e. tt))
fine_label Sort.Default t = (refl, λ e. tt)
fine_label _ t = tt

pub fine_clause : (l : ℕ) (s : Sort) (t : Token) → FineRule (clause_rule l s t) (Hungry (part (clause l)))
fine_clause l s t = fine_and (label_rule s t) _ (Hungry (part label)) (Hungry (part (clause l))) (fine_label s t) (λ x. (clear (λ t'. refl), λ ls. (clear (λ t'. refl), λ n. (clear (λ t'. refl), λ b. (clear (λ t'. refl), tt)))))

-- ---- items

pub fine_global : (first : Place) (b : Specifier) (s : Sort) (t : Token) → FineRule (global_rule first b s t) (Hungry (part (global first b)))
fine_global first b s t = fine_and (declarator_rule 0 b 0 s t) _ (Hungry (part (declarator 0 b 0))) (Hungry (part (global first b))) (fine_declarator 0 b 0 s t) (λ x. (clear (λ t'. refl), λ a. (clear (λ t'. refl), λ i. (clear (λ t'. refl), tt))))

pub fine_function_end : (first : Place) (h : Head) (s : Sort) (t : Token) → FineRule (function_end_rule first h s t) (Hungry (function_end first h))
fine_function_end first h Sort.OpenBrace t = λ ns. (clear (λ t'. refl), (refl, λ c. tt))
fine_function_end first h _ t = tt

pub fine_function : (first : Place) (b : Specifier) (k : ℕ) (name : Token) (s : Sort) (t : Token) → FineRule (function_rule first b k name s t) (Hungry (function first b k name))
fine_function first b k name Sort.Open t = λ ps. (clear (λ t'. refl), (refl, λ c. λ a. (clear (λ t'. refl), λ is. (clear (λ t'. refl), tt))))
fine_function first b k name _ t = tt

fine_named : (first : Place) (b : Specifier) (k : ℕ) (n : Token) (o : Option (List Item)) → Clear (Hungry (function first b k n) o) (named_global first b k n o) (Hungry (outer first b k)) × Fine (named_global first b k n o) (Hungry (outer first b k))
fine_named first b k n (Some is) = (clear (λ t'. refl), tt)
fine_named first b k n None = (clear (λ t'. refl), λ z. (clear (λ t'. refl), λ a. (clear (λ t'. refl), λ i. (clear (λ t'. refl), λ gs. (clear (λ t'. refl), (refl, λ e. tt))))))

fine_globals : (first : Place) (b : Specifier) (k : ℕ) (s : Sort) (t : Token) → FineRule (other_globals first b k s t) (Hungry (outer first b k))
fine_globals first b k s t = fine_and (declarator_rule 0 b k s t) _ (Hungry (part (declarator 0 b k))) (Hungry (outer first b k)) (fine_declarator 0 b k s t) (λ x. (clear (λ t'. refl), λ a. (clear (λ t'. refl), λ i. (clear (λ t'. refl), λ gs. (clear (λ t'. refl), (refl, λ e. tt))))))

pub fine_outer : (first : Place) (b : Specifier) (k : ℕ) (s : Sort) (t : Token) → FineRule (outer_rule first b k s t) (Hungry (outer first b k))
fine_outer first b k Sort.Star t = λ v. (clear (λ t'. refl), tt)
fine_outer first b k Sort.Name t = λ o. fine_named first b k t o
fine_outer first b k s t = fine_globals first b k s t

pub fine_remote : (first : Place) (b : Specifier) (k : ℕ) (s : Sort) (t : Token) → FineRule (remote_rule first b k s t) (Hungry (remote first b k))
fine_remote first b k Sort.Star t = λ v. (clear (λ t'. refl), tt)
fine_remote first b k Sort.Name t = (refl, λ o. λ ps. (clear (λ t'. refl), (refl, λ c. λ a. (clear (λ t'. refl), (refl, λ e. tt)))))
fine_remote first b k _ t = tt

pub fine_critical : (first : Place) (b : Specifier) (k : ℕ) (s : Sort) (t : Token) → FineRule (critical_rule first b k s t) (Hungry (critical first b k))
fine_critical first b k Sort.Star t = λ v. (clear (λ t'. refl), tt)
fine_critical first b k Sort.Name t = (refl, λ o. λ ps. (clear (λ t'. refl), (refl, λ c. λ a. (clear (λ t'. refl), (refl, λ br. λ is. (clear (λ t'. refl), (refl, λ cl. tt)))))))
fine_critical first b k _ t = tt

fine_typed : (first : Place) (s : Sort) (t : Token) → FineRule (typed_item first s t) (Hungry (qualified first))
fine_typed first s t = fine_and (base_rule s t) _ (Hungry (part base)) (Hungry (qualified first)) (fine_base s t) (λ b. (clear (λ t'. refl), λ v. (clear (λ t'. refl), tt)))

pub fine_qualified : (first : Place) (s : Sort) (t : Token) → FineRule (qualified_rule first s t) (Hungry (qualified first))
fine_qualified first Sort.Qualifier t = λ v. (clear (λ t'. refl), tt)
fine_qualified first Sort.Remote t = λ b. (clear (λ t'. refl), λ v. (clear (λ t'. refl), tt))
fine_qualified first Sort.Critical t = λ b. (clear (λ t'. refl), λ v. (clear (λ t'. refl), tt))
fine_qualified first s t = fine_typed first s t

pub fine_fields : (first : Place) (name : Token) (s : Sort) (t : Token) → FineRule (fields_rule first name s t) (Hungry (fields first name))
fine_fields first name Sort.OpenBrace t = λ gs. (clear (λ t'. refl), (refl, λ c. (refl, λ e. tt)))
fine_fields first name _ t = tt

fine_struct : (t n : Token) (o : Option (List Item)) → Clear (Hungry (fields t.place n) o) (struct_or_outer t n o) (Hungry (part item)) × Fine (struct_or_outer t n o) (Hungry (part item))
fine_struct t n (Some is) = (clear (λ t'. refl), tt)
fine_struct t n None = (clear (λ t'. refl), λ v. (clear (λ t'. refl), tt))

pub fine_item : (s : Sort) (t : Token) → FineRule (item_rule s t) (Hungry (part item))
fine_item Sort.Define t = tt
fine_item Sort.Enum t = (refl, λ o. λ e. (clear (λ t'. refl), λ es. (clear (λ t'. refl), (refl, λ c. (refl, λ e'. tt)))))
fine_item Sort.Struct t = (refl, λ n. λ o. fine_struct t n o)
fine_item s t = fine_qualified t.place s t
