-- Statements that are read can be printed.
use Rattle.std.proofs.Common.{◌≡◌, refl, ℕ, ◌+◌, Bool, true, false, List, [], ◌∷◌, Option, Some, None}
use Rattle.std.specs.List.{list_all}
use Rattle.mdr_core.specs.declared.place.Place.{Place}
use Rattle.mdr_syntax.specs.declared.token.Token.{Token}
use Rattle.mdr_syntax.specs.declared.tree.Form.{Form}
use Rattle.mdr_syntax.specs.declared.tree.Node.{Node}
use Rattle.mdr_roundtrip.specs.Words.{is_sign, is_base}
use Rattle.mdr_roundtrip.specs.Printable.{is_printable_form}
use Rattle.mdr_roundtrip.specs.PrintableDeclarations.{maybe, is_printable_decl}
use Rattle.mdr_roundtrip.specs.PrintableStatements.{is_label, is_printable_node, is_printable_clause}
use Rattle.mdr_grammar.specs.declared.parts.Ended.{Ended}
use Rattle.mdr_grammar.specs.declared.parts.Specifier.{Specifier}
use Rattle.mdr_grammar.specs.declared.sort.Sort.{Sort}
use Rattle.mdr_grammar.specs.Forms.{form}
use Rattle.mdr_grammar.specs.Forms.Nonterminal.{assignment}
use Rattle.mdr_grammar.specs.Expressions.{text_of, operand_rule}
use Rattle.mdr_grammar.specs.Declarations.{specifiers_rule, declarator_rule}
use Rattle.mdr_grammar.specs.Statements.{joined, assigned, assignment_rule, simple_rule, right_side_rule, right_rule, local_of, local_rule, locals_of, locals_rule, other_node, opened_by, deeper_keyword_rule, keyword_rule, simple_end, simple_statement_rule, statement_rule, other_branch, otherwise_rule, single_rule, body_rule, plain_rule, semicolon_behind, block_item_rule, opening_simple_rule, opening_rule, label_rule, clause_of, clause_rule}
use Rattle.mdr_roundtrip.proofs.Bools.{also, all_one, all_flat}
use Rattle.mdr_roundtrip.proofs.Judged.{meets, all_nodes, SoundRule}
use Rattle.mdr_roundtrip.proofs.Steps.{sound_and, sound_or, sound_where}
use Rattle.mdr_roundtrip.proofs.FormTests.{text_is}
use Rattle.mdr_roundtrip.proofs.NodeTests.{empty_is, break_is, continue_is, block_is, local_is, assign_is, if_is, while_is, for_is, do_is, switch_is, return_is, clause_is}
use Rattle.mdr_roundtrip.proofs.SoundForms.{is_good_operand, is_good_specifier, sound_operand, sound_expression}
use Rattle.mdr_roundtrip.proofs.SoundDeclarations.{sound_specifiers, sound_declarator}

abbrev pub is_good_ended : Ended → Bool
is_good_ended s = is_printable_node s.node

-- ---- simple statements and locals

sound_assigned : (first : Place) (l d : ℕ) (f : Form) (t : Token) → is_printable_form f ≡ true → is_sign (text_of t.what) ≡ true → SoundRule (assigned first l d f t) is_printable_node
sound_assigned first l d f t g o = (refl, λ v h. assign_is first t.place (text_of t.what) f v o g h)

pub sound_assignment : (first : Place) (l d : ℕ) (f : Form) (s : Sort) (t : Token) → is_printable_form f ≡ true → meets s t.what ≡ true → SoundRule (assignment_rule first l d f s t) is_printable_node
sound_assignment first l d f Sort.Equals t g m = sound_assigned first l d f t g m
sound_assignment first l d f Sort.Compound t g m = sound_assigned first l d f t g m
sound_assignment first l d f _ t g m = tt

pub sound_simple : (l d : ℕ) (s : Sort) (t : Token) → meets s t.what ≡ true → SoundRule (simple_rule l d s t) is_printable_node
sound_simple l d s t m = sound_and (operand_rule false (l + 1) d s t) (λ x. form (assignment t.place l d x.form x.alone)) is_good_operand is_printable_node (sound_operand false (l + 1) d s t m) (λ x hx. (hx, λ v h. h))

pub sound_right_side : (l d : ℕ) (s : Sort) (t : Token) → meets s t.what ≡ true → SoundRule (right_side_rule l d s t) is_printable_form
sound_right_side l d Sort.Text t m = text_is t.place (text_of t.what) m
sound_right_side l d s t m = sound_expression l d s t m

pub sound_right : (l d : ℕ) (s : Sort) (t : Token) → SoundRule (right_rule l d s t) is_printable_form
sound_right l d Sort.Equals t = (refl, λ v h. h)
sound_right l d _ t = tt

pub sound_local : (first : Place) (b : Specifier) (l d : ℕ) (s : Sort) (t : Token) → is_base b.base ≡ true → meets s t.what ≡ true → SoundRule (local_rule first b l d s t) is_printable_node
sound_local first b l d s t g m = sound_and (declarator_rule d b 0 s t) (λ x. local_of first l d x) is_printable_decl is_printable_node (sound_declarator d b 0 s t g m) (λ x hx. (refl, λ r hr. local_is first x r hx hr))

sound_locals : (l d : ℕ) (s : Sort) (t : Token) → SoundRule (locals_rule l d s t) all_nodes
sound_locals l d s t = sound_and (specifiers_rule s t) (λ b. locals_of t.place b l d) is_good_specifier all_nodes (sound_specifiers s t) (λ b hb. (hb, λ x hx. (also (is_base b.base) (list_all is_printable_node (x ∷ [])) hb (all_one is_printable_node x hx), λ v h. h)))

-- ---- statements

other_is : (b : Option Ended) → maybe is_good_ended b ≡ true → maybe is_printable_node (other_node b) ≡ true
other_is (Some b) h = h
other_is None h = refl

opened_is : (i : Option (List Node)) → maybe all_nodes i ≡ true → all_nodes (opened_by i) ≡ true
opened_is (Some ns) h = h
opened_is None h = refl

sound_deeper : (l : ℕ) (s : Sort) (t : Token) → SoundRule (deeper_keyword_rule l s t) is_good_ended
sound_deeper l Sort.If t = λ b q'. (refl, λ c hc. λ b' r'. (refl, λ a ha. (refl, λ b hb. if_is t.place c a.node (other_node b) hc ha (other_is b hb))))
sound_deeper l Sort.While t = λ b q'. (refl, λ c hc. λ b' r'. (refl, λ a ha. while_is t.place c a.node hc ha))
sound_deeper l Sort.For t = λ o q. (refl, λ i hi. λ e1 q1. (refl, λ c hc. λ e2 q2. (refl, λ n hn. λ e3 q3. (refl, λ a ha. for_is t.place (opened_by i) c n a.node (opened_is i hi) hc hn ha))))
sound_deeper l Sort.Do t = (refl, λ a ha. λ w q. λ b q'. (refl, λ c hc. λ b' r'. λ e r. do_is t.place a.node c ha hc))
sound_deeper l Sort.Switch t = λ b q'. (refl, λ c hc. λ b' r'. λ o q. (refl, λ cs hcs. λ e r. switch_is t.place c cs hc hcs))
sound_deeper l _ t = tt

sound_keyword : (l : ℕ) (s : Sort) (t : Token) → SoundRule (keyword_rule l s t) is_good_ended
sound_keyword l Sort.Semicolon t = empty_is t.place
sound_keyword l Sort.OpenBrace t = (refl, λ ns hn. λ c q. block_is t.place (joined ns) (all_flat is_printable_node ns hn))
sound_keyword l Sort.Break t = λ e q. break_is t.place
sound_keyword l Sort.Continue t = λ e q. continue_is t.place
sound_keyword l Sort.Return t = (refl, λ v hv. λ e q. return_is t.place v hv)
sound_keyword l s t = sound_deeper l s t

sound_simple_statement : (l : ℕ) (s : Sort) (t : Token) → meets s t.what ≡ true → SoundRule (simple_statement_rule l s t) is_good_ended
sound_simple_statement l s t m = sound_where _ _ is_good_ended (sound_and (simple_rule l 0 s t) (λ n. simple_end n) is_printable_node is_good_ended (sound_simple l 0 s t m) (λ n hn. λ e q. hn))

pub sound_statement : (l : ℕ) (s : Sort) (t : Token) → meets s t.what ≡ true → SoundRule (statement_rule l s t) is_good_ended
sound_statement l s t m = sound_or (keyword_rule l s t) (simple_statement_rule l s t) is_good_ended (sound_keyword l s t) (sound_simple_statement l s t m)

sound_branch : (c : Bool) (l : ℕ) → SoundRule (other_branch c l) (maybe is_good_ended)
sound_branch true l = (refl, λ b h. h)
sound_branch false l = tt

pub sound_otherwise : (l : ℕ) (c : Bool) (s : Sort) (t : Token) → SoundRule (otherwise_rule l c s t) (maybe is_good_ended)
sound_otherwise l c Sort.Else t = sound_branch c l
sound_otherwise l c _ t = tt

sound_single : (place : Place) (l : ℕ) (s : Sort) (t : Token) → meets s t.what ≡ true → SoundRule (single_rule place l s t) is_good_ended
sound_single place l s t m = sound_where _ _ is_good_ended (sound_and (statement_rule (l + 1) s t) _ is_good_ended is_good_ended (sound_statement (l + 1) s t m) (λ x h. block_is place (x.node ∷ []) (all_one is_printable_node x.node h)))

pub sound_body : (l : ℕ) (s : Sort) (t : Token) → meets s t.what ≡ true → SoundRule (body_rule l s t) is_good_ended
sound_body l Sort.OpenBrace t m = sound_statement l Sort.OpenBrace t m
sound_body l s t m = sound_single t.place l s t m

pub sound_plain : (l : ℕ) (s : Sort) (t : Token) → meets s t.what ≡ true → SoundRule (plain_rule l s t) is_printable_node
sound_plain l s t m = sound_and (statement_rule l s t) _ is_good_ended is_printable_node (sound_statement l s t m) (λ x h. h)

pub sound_block_item : (l : ℕ) (s : Sort) (t : Token) → meets s t.what ≡ true → SoundRule (block_item_rule l s t) all_nodes
sound_block_item l s t m = sound_or _ _ all_nodes
    (sound_and (locals_rule l 0 s t) (λ ns. semicolon_behind ns) all_nodes all_nodes (sound_locals l 0 s t) (λ ns hn. λ e q. hn))
    (sound_and (statement_rule l s t) _ is_good_ended all_nodes (sound_statement l s t m) (λ x h. all_one is_printable_node x.node h))

sound_opening_simple : (l d : ℕ) (s : Sort) (t : Token) → meets s t.what ≡ true → SoundRule (opening_simple_rule l d s t) all_nodes
sound_opening_simple l d s t m = sound_where _ _ all_nodes (sound_and (simple_rule l d s t) _ is_printable_node all_nodes (sound_simple l d s t m) (λ n h. all_one is_printable_node n h))

pub sound_opening : (l d : ℕ) (s : Sort) (t : Token) → meets s t.what ≡ true → SoundRule (opening_rule l d s t) all_nodes
sound_opening l d s t m = sound_or (locals_rule l d s t) (opening_simple_rule l d s t) all_nodes (sound_locals l d s t) (sound_opening_simple l d s t m)

pub sound_label : (s : Sort) (t : Token) → SoundRule (label_rule s t) is_label
sound_label Sort.Case t = (refl, λ c h. λ e q. h)
sound_label Sort.Default t = λ e q. refl
sound_label _ t = tt

pub sound_clause : (l : ℕ) (s : Sort) (t : Token) → SoundRule (clause_rule l s t) is_printable_clause
sound_clause l s t = sound_and (label_rule s t) (λ x. clause_of l x) is_label is_printable_clause (sound_label s t) (λ x hx. (all_one is_label x hx, λ ls hls. (refl, λ n hn. (all_one is_printable_node n hn, λ ns hns. clause_is ls ns hls hns))))
