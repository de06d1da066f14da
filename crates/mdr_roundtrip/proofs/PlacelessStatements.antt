-- The rules of statements look at no place.
use Rattle.std.proofs.Common.{◌≡◌, refl, ap, ◌∙◌, ℕ, ◌+◌, Bool, true, false, Option, Some, None, List, [], ◌∷◌, map}
use Rattle.std.specs.Option.{option_map}
use Rattle.mdr_core.specs.declared.place.Place.{Place}
use Rattle.mdr_syntax.specs.declared.token.Token.{Token}
use Rattle.mdr_syntax.specs.declared.tree.Decl.{Decl}
use Rattle.mdr_syntax.specs.declared.tree.Form.{Form}
use Rattle.mdr_syntax.specs.declared.tree.Label.{Label}
use Rattle.mdr_syntax.specs.declared.tree.Node.{Node}
use Rattle.mdr_syntax.specs.declared.tree.NodeWhat
use Rattle.mdr_grammar.specs.declared.parts.Ended.{Ended}
use Rattle.mdr_grammar.specs.declared.parts.Specifier.{Specifier}
use Rattle.mdr_grammar.specs.declared.sort.Sort.{Sort}
use Rattle.mdr_grammar.specs.Forms.Part.{right_side}
use Rattle.mdr_grammar.specs.Forms.Nonterminal.{part, commas, assignment}
use Rattle.mdr_grammar.specs.Forms.Separated.{locals}
use Rattle.mdr_grammar.specs.Expressions.{text_of, is_level_free}
use Rattle.mdr_grammar.specs.Statements.{joined, node_at, if_at, assigned, assignment_rule, simple_rule, right_side_rule, right_rule, local_of, local_rule, locals_of, locals_rule, deeper_keyword_rule, keyword_rule, simple_statement_rule, statement_rule, other_branch, otherwise_rule, single_rule, body_rule, plain_rule, block_item_rule, opening_rule, label_rule, clause_of, clause_rule}
use Rattle.mdr_roundtrip.specs.Unplaced.{nowhere, unplaced_form}
use Rattle.mdr_roundtrip.specs.Declarations.{unplaced_decl}
use Rattle.mdr_roundtrip.specs.Stated.{unplaced_label, unplaced_node, unplaced_clause}
use Rattle.mdr_roundtrip.proofs.Erased.{erased_token, erased_specifier, erased_ended}
use Rattle.mdr_roundtrip.proofs.Placeless.{AlikeBy, AlikeRules, and_alike, or_alike, where_alike, whole}
use Rattle.mdr_roundtrip.proofs.Placeless.AlikeBy.{same, token, next}
use Rattle.mdr_roundtrip.proofs.Placeless.AlikeRules.{no_rule, rules}
use Rattle.mdr_roundtrip.proofs.Unplacing.{text_made, empty_made, break_made, continue_made, block_made, local_made, assign_made, if_made, while_made, do_made, loop_made, switch_made, return_made, clause_made, map_joined}
use Rattle.mdr_roundtrip.proofs.PlacelessForms.{operand_alike, expression_alike}
use Rattle.mdr_roundtrip.proofs.PlacelessDecls.{specifiers_alike, declarator_alike}

-- ---- simple statements and locals

assigned_alike : (first : Place) (l d : ℕ) (f : Form) (t : Token) → AlikeRules unplaced_node (assigned first l d f t) (assigned nowhere l d (unplaced_form f) (erased_token t))
assigned_alike first l d f t = rules refl (next (λ g. same (assign_made first t.place (text_of t.what) f g)))

pub assignment_alike : (first : Place) (l d : ℕ) (f : Form) (s : Sort) (t : Token) → AlikeRules unplaced_node (assignment_rule first l d f s t) (assignment_rule nowhere l d (unplaced_form f) s (erased_token t))
assignment_alike first l d f Sort.Equals t = assigned_alike first l d f t
assignment_alike first l d f Sort.Compound t = assigned_alike first l d f t
assignment_alike first l d f _ t = no_rule

pub simple_alike : (l d : ℕ) (s : Sort) (t : Token) → AlikeRules unplaced_node (simple_rule l d s t) (simple_rule l d s (erased_token t))
simple_alike l d s t = and_alike _ _ (operand_alike false (l + 1) d s t) (λ x. whole (assignment t.place l d x.form x.alone))

pub right_side_alike : (l d : ℕ) (s : Sort) (t : Token) → AlikeRules unplaced_form (right_side_rule l d s t) (right_side_rule l d s (erased_token t))
right_side_alike l d Sort.Text t = rules refl (same (text_made t))
right_side_alike l d s t = expression_alike l d s t

pub right_alike : (l d : ℕ) (s : Sort) (t : Token) → AlikeRules unplaced_form (right_rule l d s t) (right_rule l d s (erased_token t))
right_alike l d Sort.Equals t = rules refl (whole (part (right_side l d)))
right_alike l d _ t = no_rule

local_of_alike : (first : Place) (l d : ℕ) (x : Decl) → AlikeBy unplaced_node (local_of first l d x) (local_of nowhere l d (unplaced_decl x))
local_of_alike first l d x = next (λ r. same (local_made first x r))

pub local_alike : (first : Place) (b : Specifier) (l d : ℕ) (s : Sort) (t : Token) → AlikeRules unplaced_node (local_rule first b l d s t) (local_rule nowhere (erased_specifier b) l d s (erased_token t))
local_alike first b l d s t = and_alike _ _ (declarator_alike d b 0 s t) (λ x. local_of_alike first l d x)

locals_of_alike : (first : Place) (b : Specifier) (l d : ℕ) → AlikeBy (map unplaced_node) (locals_of first b l d) (locals_of nowhere (erased_specifier b) l d)
locals_of_alike first b l d = next (λ x. whole (commas (locals first b l d) (x ∷ [])))

locals_alike : (l d : ℕ) (s : Sort) (t : Token) → AlikeRules (map unplaced_node) (locals_rule l d s t) (locals_rule l d s (erased_token t))
locals_alike l d s t = and_alike _ _ (specifiers_alike s t) (λ b. locals_of_alike t.place b l d)

-- ---- statements

abbrev ended_of : Bool → Node → Ended
ended_of closed n = record { node = n; closed = closed }

if_ended : (place : Place) (c : Form) (a : Ended) (b : Option Ended) → erased_ended (if_at place c a b) ≡ if_at nowhere (unplaced_form c) (erased_ended a) (option_map erased_ended b)
if_ended place c a None = ap (ended_of false) (if_made place c a.node None)
if_ended place c a (Some b) = ap (ended_of b.closed) (if_made place c a.node (Some b))

joined_block : (place : Place) (ns : List (List Node)) → unplaced_node (node_at place (NodeWhat.Block (joined ns))) ≡ node_at nowhere (NodeWhat.Block (joined (map (map unplaced_node) ns)))
joined_block place ns = block_made place (joined ns) ∙ ap (λ (ms : List Node). node_at nowhere (NodeWhat.Block ms)) (map_joined unplaced_node ns)

deeper_alike : (l : ℕ) (s : Sort) (t : Token) → AlikeRules erased_ended (deeper_keyword_rule l s t) (deeper_keyword_rule l s (erased_token t))
deeper_alike l Sort.If t = rules refl (token (λ o. next (λ c. token (λ x. next (λ a. next (λ b. same (if_ended t.place c a b)))))))
deeper_alike l Sort.While t = rules refl (token (λ o. next (λ c. token (λ x. next (λ a. same (ap (ended_of a.closed) (while_made t.place c a.node)))))))
deeper_alike l Sort.For t = rules refl (token (λ o. next (λ i. token (λ e. next (λ c. token (λ e'. next (λ n. token (λ x. next (λ a. same (ap (ended_of a.closed) (loop_made t.place i c n a.node)))))))))))
deeper_alike l Sort.Do t = rules refl (next (λ a. token (λ w. token (λ o. next (λ c. token (λ x. token (λ e. same (ap (ended_of true) (do_made t.place a.node c)))))))))
deeper_alike l Sort.Switch t = rules refl (token (λ o. next (λ c. token (λ x. token (λ b. next (λ cs. token (λ e. same (ap (ended_of true) (switch_made t.place c cs)))))))))
deeper_alike l _ t = no_rule

keyword_alike : (l : ℕ) (s : Sort) (t : Token) → AlikeRules erased_ended (keyword_rule l s t) (keyword_rule l s (erased_token t))
keyword_alike l Sort.Semicolon t = rules refl (same (ap (ended_of true) (empty_made t.place)))
keyword_alike l Sort.OpenBrace t = rules refl (next (λ ns. token (λ e. same (ap (ended_of true) (joined_block t.place ns)))))
keyword_alike l Sort.Break t = rules refl (token (λ e. same (ap (ended_of true) (break_made t.place))))
keyword_alike l Sort.Continue t = rules refl (token (λ e. same (ap (ended_of true) (continue_made t.place))))
keyword_alike l Sort.Return t = rules refl (next (λ v. token (λ e. same (ap (ended_of true) (return_made t.place v)))))
keyword_alike l s t = deeper_alike l s t

simple_statement_alike : (l : ℕ) (s : Sort) (t : Token) → AlikeRules erased_ended (simple_statement_rule l s t) (simple_statement_rule l s (erased_token t))
simple_statement_alike l s t = where_alike (is_level_free (l + 1)) (and_alike _ _ (simple_alike l 0 s t) (λ n. token (λ e. same refl)))

pub statement_alike : (l : ℕ) (s : Sort) (t : Token) → AlikeRules erased_ended (statement_rule l s t) (statement_rule l s (erased_token t))
statement_alike l s t = or_alike (keyword_alike l s t) (simple_statement_alike l s t)

other_alike : (c : Bool) (l : ℕ) → AlikeRules (option_map erased_ended) (other_branch c l) (other_branch c l)
other_alike true l = rules refl (next (λ b. same refl))
other_alike false l = no_rule

pub otherwise_alike : (l : ℕ) (c : Bool) (s : Sort) (t : Token) → AlikeRules (option_map erased_ended) (otherwise_rule l c s t) (otherwise_rule l c s (erased_token t))
otherwise_alike l c Sort.Else t = other_alike c l
otherwise_alike l c _ t = no_rule

single_alike : (place : Place) (l : ℕ) (s : Sort) (t : Token) → AlikeRules erased_ended (single_rule place l s t) (single_rule nowhere l s (erased_token t))
single_alike place l s t = where_alike (is_level_free (l + 1)) (and_alike _ _ (statement_alike (l + 1) s t) (λ x. same (ap (ended_of x.closed) (block_made place (x.node ∷ [])))))

pub body_alike : (l : ℕ) (s : Sort) (t : Token) → AlikeRules erased_ended (body_rule l s t) (body_rule l s (erased_token t))
body_alike l Sort.OpenBrace t = statement_alike l Sort.OpenBrace t
body_alike l s t = single_alike t.place l s t

pub plain_alike : (l : ℕ) (s : Sort) (t : Token) → AlikeRules unplaced_node (plain_rule l s t) (plain_rule l s (erased_token t))
plain_alike l s t = and_alike _ _ (statement_alike l s t) (λ x. same refl)

pub block_item_alike : (l : ℕ) (s : Sort) (t : Token) → AlikeRules (map unplaced_node) (block_item_rule l s t) (block_item_rule l s (erased_token t))
block_item_alike l s t = or_alike (and_alike _ _ (locals_alike l 0 s t) (λ ns. token (λ e. same refl))) (and_alike _ _ (statement_alike l s t) (λ x. same refl))

pub opening_alike : (l d : ℕ) (s : Sort) (t : Token) → AlikeRules (map unplaced_node) (opening_rule l d s t) (opening_rule l d s (erased_token t))
opening_alike l d s t = or_alike (locals_alike l d s t) (where_alike (is_level_free (l + 1)) (and_alike _ _ (simple_alike l d s t) (λ n. same refl)))

-- ---- clauses

pub label_alike : (s : Sort) (t : Token) → AlikeRules unplaced_label (label_rule s t) (label_rule s (erased_token t))
label_alike Sort.Case t = rules refl (next (λ c. token (λ x. same refl)))
label_alike Sort.Default t = rules refl (token (λ e. same refl))
label_alike _ t = no_rule

clause_of_alike : (l : ℕ) (x : Label) → AlikeBy unplaced_clause (clause_of l x) (clause_of l (unplaced_label x))
clause_of_alike l x = next (λ ls. next (λ n. next (λ body. same (clause_made ls body))))

pub clause_alike : (l : ℕ) (s : Sort) (t : Token) → AlikeRules unplaced_clause (clause_rule l s t) (clause_rule l s (erased_token t))
clause_alike l s t = and_alike _ _ (label_alike s t) (λ x. clause_of_alike l x)
