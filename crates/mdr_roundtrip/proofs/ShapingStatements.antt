-- Statements that are read have the shape of statements.
use Rattle.std.proofs.Common.{◌≡◌, refl, ℕ, ◌+◌, Bool, true, false, List, [], ◌∷◌, map}
use Rattle.std.specs.Prelude.{◌&&◌, ◌||◌, not, is_none}
use Rattle.std.specs.List.{list_all}
use Rattle.std.proofs.lemmas.Bool.{false≢true}
use Rattle.mdr_core.specs.declared.place.Place.{Place}
use Rattle.mdr_syntax.specs.declared.token.Token.{Token}
use Rattle.mdr_syntax.specs.declared.tree.Decl.{out-Decl}
use Rattle.mdr_syntax.specs.declared.tree.Form.{Form}
use Rattle.mdr_syntax.specs.declared.tree.Node.{Node}
use Rattle.mdr_syntax.specs.declared.tree.NodeWhat
use Rattle.mdr_roundtrip.specs.Words.{is_among}
use Rattle.mdr_roundtrip.specs.PrintableDeclarations.{maybe}
use Rattle.mdr_roundtrip.proofs.Tests.{both, or_right}
use Rattle.mdr_grammar.specs.declared.parts.Ended.{Ended}
use Rattle.mdr_grammar.specs.declared.parts.Specifier.{Specifier}
use Rattle.mdr_grammar.specs.declared.sort.Sort.{Sort}
use Rattle.mdr_grammar.specs.Forms.{◌>>=◌, form}
use Rattle.mdr_grammar.specs.Forms.Nonterminal.{assignment}
use Rattle.mdr_grammar.specs.Expressions.{text_of, text_form, is_level_free, operand_rule, expression_rule}
use Rattle.mdr_grammar.specs.Declarations.{specifiers_rule, declarator_rule}
use Rattle.mdr_grammar.specs.Statements.{node_at, joined, assigned, assignment_rule, simple_rule, right_side_rule, right_rule, local_of, local_rule, locals_of, locals_rule, nested_in, block_end, deeper_keyword_rule, keyword_rule, simple_end, simple_statement_rule, statement_rule, other_branch, otherwise_rule, single_rule, body_rule, plain_rule, semicolon_behind, block_item_rule, opening_simple_rule, opening_rule, label_rule, clause_of, clause_rule}
use Rattle.mdr_roundtrip.specs.Shaped.{is_named_base}
use Rattle.mdr_roundtrip.specs.Initialised.{are_some}
use Rattle.mdr_roundtrip.specs.Declarations.{Standing, is_shaped_decl}
use Rattle.mdr_roundtrip.specs.Alone.{is_alone}
use Rattle.mdr_roundtrip.specs.Stated.{is_text_form, is_expression_at, is_right_at, assignments, is_same_base, opening_at, is_shaped_label, stated, is_clause_at}
use Rattle.mdr_roundtrip.proofs.Bools.{also, all_one, all_flat}
use Rattle.mdr_roundtrip.proofs.Judges.{SoundBy, SoundRuleBy, less_rule, and_by, or_by, where_by}
use Rattle.mdr_roundtrip.proofs.Shaping.{knows, is_expression, told_alone, is_postfix, is_operand}
use Rattle.mdr_roundtrip.proofs.ShapingForms.{of_operand, of_expression, is_good_base}
use Rattle.mdr_roundtrip.proofs.Sourcing.{more, declared_by, local_by, item_in, body_of, grown, sourcing, rule_kept, shaping_agrees}
use Rattle.mdr_roundtrip.proofs.ShapedNodes.{empty_is, break_is, continue_is, return_is, assign_is, plain_is, block_statement, block_body, local_is, item_of_local, item_of_statement, opening_of_locals, opening_of_simple, if_is, while_is, do_is, for_is, switch_is, clause_is, text_is, simple_stands}
use Rattle.mdr_roundtrip.proofs.ShapingDecls.{source_specifiers, source_declarator}

-- a test, or not
pub either_way : (b : Bool) → (not b || b) ≡ true
either_way true = refl
either_way false = refl

or_true : (b : Bool) → (b || true) ≡ true
or_true true = refl
or_true false = refl

abbrev is_simple : ℕ → Node → Bool
is_simple l n = (stated n).simple l

abbrev is_statement : ℕ → Ended → Bool
is_statement l e = (stated e.node).statement l

-- ---- simple statements

assigned_by : (halves : Bool) (first : Place) (l d : ℕ) (f : Form) (t : Token) → is_level_free (l + 1) ≡ true → is_expression (l + 1) f ≡ true → is_among assignments (text_of t.what) ≡ true → SoundRuleBy (sourcing halves) (assigned first l d f t) (is_simple l)
assigned_by halves first l d f t free g o = λ a. (free, λ v h. assign_is first t.place l (text_of t.what) f v o g h)

pub source_assignment : (halves : Bool) (first : Place) (l d : ℕ) (f : Form) (alone : Bool) (s : Sort) (t : Token) → (is_level_free (l + 1) && is_postfix (l + 1) f alone) ≡ true → more halves s t.what ≡ true → SoundRuleBy (sourcing halves) (assignment_rule first l d f s t) (is_simple l)
source_assignment halves first l d f alone Sort.Equals t g m = let k = both (is_level_free (l + 1)) (is_postfix (l + 1) f alone) g in assigned_by halves first l d f t k.0 (both (is_expression (l + 1) f) (told_alone alone f) k.1).0 m
source_assignment halves first l d f alone Sort.Compound t g m = let k = both (is_level_free (l + 1)) (is_postfix (l + 1) f alone) g in assigned_by halves first l d f t k.0 (both (is_expression (l + 1) f) (told_alone alone f) k.1).0 m
source_assignment halves first l d f alone _ t g m = tt

-- a call, or a form with `++` or `--`
pub alone_is : (first : Place) (l : ℕ) (f : Form) (alone : Bool) → (is_level_free (l + 1) && is_postfix (l + 1) f alone) ≡ true → alone ≡ true → is_simple l (node_at first (NodeWhat.Plain f)) ≡ true
alone_is first l f false g e = absurd (false≢true e)
alone_is first l f true g e =
    let k = both (is_expression (l + 1) f) (is_alone f) (both (is_level_free (l + 1)) (is_postfix (l + 1) f true) g).1 in
    plain_is first l f k.1 k.0

pub source_simple : (halves : Bool) (l d : ℕ) (s : Sort) (t : Token) → is_level_free (l + 1) ≡ true → knows s t.what ≡ true → SoundRuleBy (sourcing halves) (simple_rule l d s t) (is_simple l)
source_simple halves l d s t free m = and_by (sourcing halves) (operand_rule false (l + 1) d s t) (λ x. form (assignment t.place l d x.form x.alone)) (is_operand (l + 1)) (is_simple l)
    (rule_kept _ halves (shaping_agrees halves) (operand_rule false (l + 1) d s t) (is_operand (l + 1)) (of_operand false (l + 1) d s t free m)) (λ x hx. (also (is_level_free (l + 1)) (is_operand (l + 1) x) free hx, λ v h. h))

-- ---- locals

left_or : (a b : Bool) → a ≡ true → (a || b) ≡ true
left_or true b e = refl
left_or false b e = absurd (false≢true e)

pub source_right_side : (halves : Bool) (l d : ℕ) (s : Sort) (t : Token) → is_level_free l ≡ true → knows s t.what ≡ true → SoundRuleBy (sourcing halves) (right_side_rule l d s t) (is_right_at l)
source_right_side halves l d Sort.Text t f m = λ a. also (is_level_free l) (is_text_form (text_form t) || is_expression_at l (text_form t)) f (left_or (is_text_form (text_form t)) (is_expression_at l (text_form t)) (text_is t.place (text_of t.what) m))
source_right_side halves l d s t f m = less_rule (sourcing halves) (expression_rule l d s t) (is_expression l) (is_right_at l) (λ v k. also (is_level_free l) (is_text_form v || is_expression_at l v) f (or_right (is_text_form v) (is_expression_at l v) k))
    (rule_kept _ halves (shaping_agrees halves) (expression_rule l d s t) (is_expression l) (of_expression l d s t f m))

pub source_right : (halves : Bool) (l d : ℕ) (s : Sort) (t : Token) → is_level_free l ≡ true → SoundRuleBy (sourcing halves) (right_rule l d s t) (is_right_at l)
source_right halves l d Sort.Equals t f = λ a. (f, λ v h. h)
source_right halves l d _ t f = tt

pub source_local : (halves : Bool) (first : Place) (b : Specifier) (l d : ℕ) (s : Sort) (t : Token) → is_named_base b.base ≡ true → knows s t.what ≡ true → SoundRuleBy (sourcing halves) (local_rule first b l d s t) (local_by b l d)
source_local halves first b l d s t g m = and_by (sourcing halves) (declarator_rule d b 0 s t) (λ x. local_of first l d x) (declared_by b d) (local_by b l d) (source_declarator halves d b 0 s t (also (is_named_base b.base) true g refl) m)
    (λ x hx. (
      either_way (is_level_free (l + 1)),
      λ r hr.
          let k = both (is_shaped_decl x Standing.Alone d) (is_none (out-Decl x).ann && is_same_base b.base (out-Decl x).base) hx in
          let j = both (is_none (out-Decl x).ann) (is_same_base b.base (out-Decl x).base) k.1 in
          local_is first b l d x r (also (is_shaped_decl x Standing.Alone d) (is_none (out-Decl x).ann && maybe (is_right_at (l + 1)) r) k.0 (also (is_none (out-Decl x).ann) (maybe (is_right_at (l + 1)) r) j.0 hr)) j.1,
    ))

locals_by : (halves : Bool) (first : Place) (b : Specifier) (l d : ℕ) (p : List Node → Bool) → is_named_base b.base ≡ true → ((ns : List Node) → list_all (local_by b l d) ns ≡ true → p ns ≡ true) → SoundBy (sourcing halves) (locals_of first b l d) p
locals_by halves first b l d p g f = (g, λ x hx. (also (is_named_base b.base) (list_all (local_by b l d) (x ∷ [])) g (all_one (local_by b l d) x hx), λ v h. f v h))

all_items_in : (b : Specifier) (l : ℕ) (ns : List Node) → list_all (local_by b l 0) ns ≡ true → list_all (item_in l) ns ≡ true
all_items_in b l [] h = refl
all_items_in b l (n ∷ ns) h =
    let k = both (local_by b l 0 n) (list_all (local_by b l 0) ns) h in
    also (item_in l n) (list_all (item_in l) ns) (item_of_local b l n k.0) (all_items_in b l ns k.1)

-- ---- statements

deeper_by : (halves : Bool) (l : ℕ) (s : Sort) (t : Token) → SoundRuleBy (sourcing halves) (deeper_keyword_rule l s t) (is_statement l)
deeper_by halves l Sort.If t = λ f. λ b q'. (f, λ c hc. λ b' r'. (refl, λ a ha. (refl, λ o ho. if_is t.place l c a.node o hc ha ho)))
deeper_by halves l Sort.While t = λ f. λ b q'. (f, λ c hc. λ b' r'. (refl, λ a ha. while_is t.place l c a.node hc ha))
deeper_by halves l Sort.For t = λ f. λ o q. (refl, λ i hi. λ e1 q1. (f, λ c hc. λ e2 q2. (either_way (is_level_free (l + 1 + 1)), λ n hn. λ e3 q3. (refl, λ a ha. for_is t.place l i c n a.node f hi hc hn ha))))
deeper_by halves l Sort.Do t = λ f. (refl, λ a ha. λ w q. λ b q'. (f, λ c hc. λ b' r'. λ e r. do_is t.place l a.node c ha hc))
deeper_by halves l Sort.Switch t = λ f. λ b q'. (f, λ c hc. λ b' r'. λ o q. (refl, λ cs hcs. λ e r. switch_is t.place l c cs hc (both (list_all (λ c. is_clause_at c (l + 1)) cs) (grown true [] cs) hcs).0))
deeper_by halves l _ t = tt

-- what is allowed in a block, once its items are joined
still_allowed : (b : Bool) (ns : List (List Node)) → (b || not (are_some ns)) ≡ true → (b || not (are_some (joined ns))) ≡ true
still_allowed true ns h = refl
still_allowed false [] h = refl
still_allowed false (n ∷ ns) h = absurd (false≢true h)

block_by : (halves : Bool) (place : Place) (l : ℕ) (p : Ended → Bool) → ((ns : List Node) → (is_level_free (l + 1) || not (are_some ns)) ≡ true → list_all (item_in (l + 1)) ns ≡ true → p (record { node = node_at place (NodeWhat.Block ns); closed = true }) ≡ true) → SoundBy (sourcing halves) (nested_in l >>= λ ns. block_end place ns) p
block_by halves place l p f = (
  or_true (is_level_free (l + 1)),
  λ ns hn. λ c q.
      let k = both (list_all (list_all (item_in (l + 1))) ns) (grown (is_level_free (l + 1)) [] ns) hn in
      let j = both (is_level_free (l + 1) || not (are_some ns)) (not false || are_some ns) k.1 in
      f (joined ns) (still_allowed (is_level_free (l + 1)) ns j.0) (all_flat (item_in (l + 1)) ns k.0),
)

keyword_by : (halves : Bool) (l : ℕ) (s : Sort) (t : Token) → SoundRuleBy (sourcing halves) (keyword_rule l s t) (is_statement l)
keyword_by halves l Sort.Semicolon t = λ a. empty_is t.place l
keyword_by halves l Sort.OpenBrace t = λ a. block_by halves t.place l (is_statement l) (λ ns f h. block_statement t.place l ns f h)
keyword_by halves l Sort.Break t = λ a. λ e q. break_is t.place l
keyword_by halves l Sort.Continue t = λ a. λ e q. continue_is t.place l
keyword_by halves l Sort.Return t = λ a. (either_way (is_level_free (l + 1)), λ v hv. λ e q. return_is t.place l v hv)
keyword_by halves l s t = deeper_by halves l s t

simple_statement_by : (halves : Bool) (l : ℕ) (s : Sort) (t : Token) → knows s t.what ≡ true → SoundRuleBy (sourcing halves) (simple_statement_rule l s t) (is_statement l)
simple_statement_by halves l s t m = where_by (sourcing halves) (is_level_free (l + 1)) _ (is_statement l) (λ f. and_by (sourcing halves) (simple_rule l 0 s t) (λ n. simple_end n) (is_simple l) (is_statement l) (source_simple halves l 0 s t f m) (λ n hn. λ e q. simple_stands l n hn))

pub source_statement : (halves : Bool) (l : ℕ) (s : Sort) (t : Token) → knows s t.what ≡ true → SoundRuleBy (sourcing halves) (statement_rule l s t) (is_statement l)
source_statement halves l s t m = or_by (sourcing halves) (keyword_rule l s t) (simple_statement_rule l s t) (is_statement l) (keyword_by halves l s t) (simple_statement_by halves l s t m)

branch_by : (halves c : Bool) (l : ℕ) → SoundRuleBy (sourcing halves) (other_branch c l) (maybe (body_of l))
branch_by halves true l = λ a. (refl, λ b h. h)
branch_by halves false l = tt

pub source_otherwise : (halves : Bool) (l : ℕ) (c : Bool) (s : Sort) (t : Token) → SoundRuleBy (sourcing halves) (otherwise_rule l c s t) (maybe (body_of l))
source_otherwise halves l c Sort.Else t = branch_by halves c l
source_otherwise halves l c _ t = tt

single_by : (halves : Bool) (place : Place) (l : ℕ) (s : Sort) (t : Token) → knows s t.what ≡ true → SoundRuleBy (sourcing halves) (single_rule place l s t) (body_of l)
single_by halves place l s t m = where_by (sourcing halves) (is_level_free (l + 1)) _ (body_of l) (λ f. and_by (sourcing halves) (statement_rule (l + 1) s t) _ (is_statement (l + 1)) (body_of l) (source_statement halves (l + 1) s t m)
    (λ x h. block_body place l (x.node ∷ []) (left_or (is_level_free (l + 1)) (not true) f) (all_one (item_in (l + 1)) x.node (item_of_statement (l + 1) x.node h))))

pub source_body : (halves : Bool) (l : ℕ) (s : Sort) (t : Token) → knows s t.what ≡ true → SoundRuleBy (sourcing halves) (body_rule l s t) (body_of l)
source_body halves l Sort.OpenBrace t m = λ a. block_by halves t.place l (body_of l) (λ ns f h. block_body t.place l ns f h)
source_body halves l s t m = single_by halves t.place l s t m

pub source_plain : (halves : Bool) (l : ℕ) (s : Sort) (t : Token) → knows s t.what ≡ true → SoundRuleBy (sourcing halves) (plain_rule l s t) (λ n. (stated n).statement l)
source_plain halves l s t m = and_by (sourcing halves) (statement_rule l s t) _ (is_statement l) (λ n. (stated n).statement l) (source_statement halves l s t m) (λ x h. h)

block_locals : (halves : Bool) (l : ℕ) (s : Sort) (t : Token) → SoundRuleBy (sourcing halves) (locals_rule l 0 s t) (list_all (item_in l))
block_locals halves l s t = and_by (sourcing halves) (specifiers_rule s t) (λ b. locals_of t.place b l 0) is_good_base (list_all (item_in l)) (source_specifiers halves s t) (λ b hb. locals_by halves t.place b l 0 (list_all (item_in l)) hb (λ ns h. all_items_in b l ns h))

pub source_block_item : (halves : Bool) (l : ℕ) (s : Sort) (t : Token) → knows s t.what ≡ true → SoundRuleBy (sourcing halves) (block_item_rule l s t) (list_all (item_in l))
source_block_item halves l s t m = or_by (sourcing halves) _ _ (list_all (item_in l))
    (and_by (sourcing halves) (locals_rule l 0 s t) (λ ns. semicolon_behind ns) (list_all (item_in l)) (list_all (item_in l)) (block_locals halves l s t) (λ ns hn. λ e q. hn))
    (and_by (sourcing halves) (statement_rule l s t) _ (is_statement l) (list_all (item_in l)) (source_statement halves l s t m) (λ x h. all_one (item_in l) x.node (item_of_statement l x.node h)))

abbrev is_opening : ℕ → List Node → Bool
is_opening l ns = opening_at l (map stated ns)

opening_locals : (halves : Bool) (l : ℕ) (s : Sort) (t : Token) → SoundRuleBy (sourcing halves) (locals_rule l 1 s t) (is_opening l)
opening_locals halves l s t = and_by (sourcing halves) (specifiers_rule s t) (λ b. locals_of t.place b l 1) is_good_base (is_opening l) (source_specifiers halves s t) (λ b hb. locals_by halves t.place b l 1 (is_opening l) hb (λ ns h. opening_of_locals b l ns h))

opening_simple : (halves : Bool) (l : ℕ) (s : Sort) (t : Token) → knows s t.what ≡ true → SoundRuleBy (sourcing halves) (opening_simple_rule l 1 s t) (is_opening l)
opening_simple halves l s t m = where_by (sourcing halves) (is_level_free (l + 1)) _ (is_opening l) (λ f. and_by (sourcing halves) (simple_rule l 1 s t) _ (is_simple l) (is_opening l) (source_simple halves l 1 s t f m) (λ n h. opening_of_simple l n h))

pub source_opening : (halves : Bool) (l : ℕ) (s : Sort) (t : Token) → knows s t.what ≡ true → SoundRuleBy (sourcing halves) (opening_rule l 1 s t) (is_opening l)
source_opening halves l s t m = or_by (sourcing halves) (locals_rule l 1 s t) (opening_simple_rule l 1 s t) (is_opening l) (opening_locals halves l s t) (opening_simple halves l s t m)

pub source_label : (halves : Bool) (s : Sort) (t : Token) → SoundRuleBy (sourcing halves) (label_rule s t) is_shaped_label
source_label halves Sort.Case t = λ a. (refl, λ c h. λ e q. h)
source_label halves Sort.Default t = λ a. λ e q. refl
source_label halves _ t = tt

pub source_clause : (halves : Bool) (l : ℕ) (s : Sort) (t : Token) → SoundRuleBy (sourcing halves) (clause_rule l s t) (λ c. is_clause_at c l)
source_clause halves l s t = and_by (sourcing halves) (label_rule s t) (λ x. clause_of l x) is_shaped_label (λ c. is_clause_at c l) (source_label halves s t)
    (λ x hx. (
      also (list_all is_shaped_label (x ∷ [])) true (all_one is_shaped_label x hx) refl,
      λ ls hls. (
        refl,
        λ n hn. (
          also (list_all (λ n. (stated n).statement l) (n ∷ [])) true (all_one (λ n. (stated n).statement l) n hn) refl,
          λ ns hns.
              let a = both (list_all is_shaped_label ls) (grown true (x ∷ []) ls) hls in
              let b = both (list_all (λ n. (stated n).statement l) ns) (grown true (n ∷ []) ns) hns in
              clause_is l ls ns a.1 a.0 b.1 b.0,
        ),
      ),
    ))
