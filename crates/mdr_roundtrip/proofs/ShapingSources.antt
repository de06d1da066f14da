-- The tree of each source has the shape of one, and so it is read again from what is printed of it.
use Rattle.std.proofs.Common.{◌≡◌, refl, sym, ap, subst, ◌∙◌, arith, ℕ, Bool, true, false, Some, None, List, [], ◌∷◌, ◌++◌}
use Rattle.std.specs.Prelude.{◌&&◌, ◌||◌, not, nat_eq}
use Rattle.std.specs.List.{list_all}
use Rattle.std.proofs.lemmas.Bool.{false≢true}
use Rattle.mdr_syntax.specs.declared.token.Token.{Token}
use Rattle.mdr_syntax.specs.declared.tree.Tree.{Tree}
use Rattle.mdr_print.specs.Spelled.{spelled}
use Rattle.mdr_roundtrip.specs.PrintableDeclarations.{maybe}
use Rattle.mdr_roundtrip.proofs.Tests.{both}
use Rattle.mdr_grammar.specs.declared.sort.Sort.{Sort}
use Rattle.mdr_grammar.specs.Sorts.{sort_of}
use Rattle.mdr_grammar.specs.Forms.{Part, PartValue, Repeated, repeated, Separated, separated, Enclosed, enclosed, Nonterminal, form}
use Rattle.mdr_grammar.specs.Forms.Part.{operand, expression, argument, statement, body, plain, simple, block_item, opening, local, right, right_side, label, clause, base, specifiers, size, annotation, constant, value, declarator, parameter, field, field_group, enumerator, initial, initialiser, element, global, item}
use Rattle.mdr_grammar.specs.Forms.Repeated.{block_items, statements, clauses, labels, field_groups, items}
use Rattle.mdr_grammar.specs.Forms.Enclosed.{enumerators, elements}
use Rattle.mdr_grammar.specs.Forms.Nonterminal.{part, option, many, commas, commas_open, after_comma, postfix, operators, choice, opened, arguments, stars, text_behind, text_after, unsigned_word, assignment, otherwise, parameters, after_void, parameter_name, parameter_declarator, qualified, outer, remote, critical, function, function_end, fields}
use Rattle.mdr_grammar.specs.Forms.Right.{gives}
use Rattle.mdr_grammar.specs.Expressions.{text_of}
use Rattle.mdr_grammar.specs.Grammar.{rule, empty, part_rule, Reads}
use Rattle.mdr_roundtrip.specs.Lexed.{are_lexed}
use Rattle.mdr_roundtrip.specs.Shaped.{is_name}
use Rattle.mdr_roundtrip.specs.Initialised.{are_some}
use Rattle.mdr_roundtrip.specs.Itemised.{is_shaped_item, is_shaped_tree, unplaced_tree}
use Rattle.mdr_roundtrip.specs.Unplaced.{all_at}
use Rattle.mdr_roundtrip.proofs.Bools.{also, all_more, all_flat}
use Rattle.mdr_roundtrip.proofs.Judges.{SoundRuleBy, SoundEmpty, and_by, where_by, IsJudge, given_by}
use Rattle.mdr_roundtrip.proofs.Shaping.{knows, sort_knows}
use Rattle.mdr_roundtrip.proofs.ShapingForms.{of_rule as expression_rules, of_nothing as expression_nothing}
use Rattle.mdr_roundtrip.proofs.ShapingInits.{of_part as init_part, told_of}
use Rattle.mdr_roundtrip.proofs.Sourcing.{more, sort_more, good_part, good, fits_part, fits, grown, based, all_items, sourcing, rule_kept, shaping_agrees, initialising_agrees}
use Rattle.mdr_roundtrip.proofs.ShapedDecls.{unnamed_is}
use Rattle.mdr_roundtrip.proofs.ShapingDecls.{source_base, source_constant, source_size, source_annotation, source_value, source_specifiers, source_declarator, source_parameter_name, source_parameter_declarator, source_parameter, source_after_void, source_parameters, source_field, source_field_group, source_enumerator, source_initial}
use Rattle.mdr_roundtrip.proofs.ShapingStatements.{either_way, alone_is, source_assignment, source_simple, source_right_side, source_right, source_local, source_statement, source_otherwise, source_body, source_plain, source_block_item, source_opening, source_label, source_clause}
use Rattle.mdr_roundtrip.proofs.ShapingItems.{source_global, source_function_end, source_function, source_outer, source_remote, source_critical, source_qualified, source_fields, source_item}
use Rattle.mdr_roundtrip.proofs.RereadItems.{trees_reread}

one_is : (d : ℕ) → nat_eq d 1 ≡ true → d ≡ 1
one_is d h = grind arith

opening_by : (halves : Bool) (l d : ℕ) (s : Sort) (t : Token) → fits_part (opening l d) ≡ true → knows s t.what ≡ true → SoundRuleBy (sourcing halves) (part_rule (opening l d) s t) (good_part halves (opening l d))
opening_by halves l d s t f m = subst (λ (d : ℕ). SoundRuleBy (sourcing halves) (part_rule (opening l d) s t) (good_part halves (opening l d))) (sym (one_is d f)) (source_opening halves l s t m)

source_part : (halves : Bool) (x : Part) (s : Sort) (t : Token) → fits_part x ≡ true → knows s t.what ≡ true → more halves s t.what ≡ true → SoundRuleBy (sourcing halves) (part_rule x s t) (good_part halves x)
source_part halves (operand casts l d) s t f m w = rule_kept _ halves (shaping_agrees halves) _ _ (expression_rules (part (operand casts l d)) s t f m)
source_part halves (expression l d) s t f m w = rule_kept _ halves (shaping_agrees halves) _ _ (expression_rules (part (expression l d)) s t f m)
source_part halves (argument l d) s t f m w = rule_kept _ halves (shaping_agrees halves) _ _ (expression_rules (part (argument l d)) s t f m)
source_part halves (statement l) s t f m w = source_statement halves l s t m
source_part halves (body l) s t f m w = source_body halves l s t m
source_part halves (plain l) s t f m w = source_plain halves l s t m
source_part halves (simple l d) s t f m w = source_simple halves l d s t f m
source_part halves (block_item l) s t f m w = source_block_item halves l s t m
source_part halves (opening l d) s t f m w = opening_by halves l d s t f m
source_part halves (local first b l d) s t f m w = source_local halves first b l d s t f m
source_part halves (right l d) s t f m w = source_right halves l d s t f
source_part halves (right_side l d) s t f m w = source_right_side halves l d s t f m
source_part halves label s t f m w = source_label halves s t
source_part halves (clause l) s t f m w = source_clause halves l s t
source_part halves base s t f m w = source_base halves s t
source_part halves specifiers s t f m w = source_specifiers halves s t
source_part halves size s t f m w = source_size halves s t
source_part halves (annotation d) s t f m w = source_annotation halves d s t
source_part halves constant s t f m w = source_constant halves s t m
source_part halves value s t f m w = source_value halves s t
source_part halves (declarator d b k) s t f m w = source_declarator halves d b k s t f m
source_part halves (parameter named d) s t f m w = source_parameter halves named d s t
source_part halves (field b) s t f m w = source_field halves b s t f m
source_part halves field_group s t f m w = source_field_group halves s t
source_part halves enumerator s t f m w = source_enumerator halves s t m
source_part halves initial s t f m w = source_initial halves s t
source_part halves (initialiser n) s t f m w = rule_kept _ halves (initialising_agrees halves) _ _ (init_part (initialiser n) s t refl m)
source_part halves (element n) s t f m w = rule_kept _ halves (initialising_agrees halves) _ _ (init_part (element n) s t refl m)
source_part halves (global first b) s t f m w = source_global halves first b s t f m
source_part halves item s t f m w = source_item halves s t w

-- ---- lists and options

option_by : (halves allowed : Bool) (x : Part) (s : Sort) (t : Token) → (not allowed || fits_part x) ≡ true → knows s t.what ≡ true → more halves s t.what ≡ true → SoundRuleBy (sourcing halves) (rule (option allowed x) s t) (maybe (good_part halves x))
option_by halves true x s t f m w = where_by (sourcing halves) true _ (maybe (good_part halves x)) (λ a. and_by (sourcing halves) (part_rule x s t) (λ v. gives (Some v)) (good_part halves x) (maybe (good_part halves x)) (source_part halves x s t f m w) (λ v h. h))
option_by halves false x s t f m w = where_by (sourcing halves) false _ (maybe (good_part halves x)) (λ a. absurd (false≢true a))

some_more : {X : Type 0} (xs : List X) (x : X) → are_some (xs ++ (x ∷ [])) ≡ true
some_more [] x = refl
some_more (y ∷ ys) x = refl

-- a list with one more, allowed
repeated_by : (halves allowed : Bool) (x : Repeated) (so_far : List (PartValue (repeated x))) (s : Sort) (t : Token) → list_all (good_part halves (repeated x)) so_far ≡ true → SoundRuleBy (sourcing halves) (part_rule (repeated x) s t) (good_part halves (repeated x)) → SoundRuleBy (sourcing halves) (rule (many allowed x so_far) s t) (good halves (many allowed x so_far))
repeated_by halves allowed x so_far s t f r = where_by (sourcing halves) allowed _ (good halves (many allowed x so_far)) (λ a. and_by (sourcing halves) (part_rule (repeated x) s t) (λ v. form (many allowed x (so_far ++ (v ∷ [])))) (good_part halves (repeated x)) (good halves (many allowed x so_far)) r
    (λ v h. (
      also (list_all (good_part halves (repeated x)) (so_far ++ (v ∷ []))) (allowed || not (are_some (so_far ++ (v ∷ [])))) (all_more (good_part halves (repeated x)) so_far v f h) (left_or allowed (not (are_some (so_far ++ (v ∷ [])))) a),
      λ w k. longer allowed so_far v w a k,
    )))
  where
    left_or : (a b : Bool) → a ≡ true → (a || b) ≡ true
    left_or true b e = refl
    left_or false b e = absurd (false≢true e)

    right_or : (a b : Bool) → b ≡ true → (a || b) ≡ true
    right_or true b e = refl
    right_or false b e = e

    longer : (allowed : Bool) (so_far : List (PartValue (repeated x))) (v : PartValue (repeated x)) (w : List (PartValue (repeated x))) → allowed ≡ true → (list_all (good_part halves (repeated x)) w && grown allowed (so_far ++ (v ∷ [])) w) ≡ true → (list_all (good_part halves (repeated x)) w && grown allowed so_far w) ≡ true
    longer allowed so_far v w a k =
        let j = both (list_all (good_part halves (repeated x)) w) (grown allowed (so_far ++ (v ∷ [])) w) k in
        let i = both (allowed || not (are_some w)) (not (are_some (so_far ++ (v ∷ []))) || are_some w) j.1 in
        let there : are_some w ≡ true = ap (λ b. not b || are_some w) (sym (some_more so_far v)) ∙ i.1 in
        also (list_all (good_part halves (repeated x)) w) (grown allowed so_far w) j.0 (also (allowed || not (are_some w)) (not (are_some so_far) || are_some w) i.0 (right_or (not (are_some so_far)) (are_some w) there))

many_by : (halves allowed : Bool) (x : Repeated) (so_far : List (PartValue (repeated x))) (s : Sort) (t : Token) → list_all (good_part halves (repeated x)) so_far ≡ true → knows s t.what ≡ true → more halves s t.what ≡ true → SoundRuleBy (sourcing halves) (rule (many allowed x so_far) s t) (good halves (many allowed x so_far))
many_by halves allowed (block_items l) so_far s t f m w = repeated_by halves allowed (block_items l) so_far s t f (source_part halves (block_item l) s t refl m w)
many_by halves allowed (statements l) so_far s t f m w = repeated_by halves allowed (statements l) so_far s t f (source_part halves (plain l) s t refl m w)
many_by halves allowed (clauses l) so_far s t f m w = repeated_by halves allowed (clauses l) so_far s t f (source_part halves (clause l) s t refl m w)
many_by halves allowed labels so_far s t f m w = repeated_by halves allowed labels so_far s t f (source_part halves label s t refl m w)
many_by halves allowed field_groups so_far s t f m w = repeated_by halves allowed field_groups so_far s t f (source_part halves field_group s t refl m w)
many_by halves allowed items so_far s t f m w = repeated_by halves allowed items so_far s t f (source_part halves item s t refl m w)

commas_by : (halves : Bool) (x : Separated) (so_far : List (PartValue (separated x))) (s : Sort) (t : Token) → (fits_part (separated x) && list_all (good_part halves (separated x)) so_far) ≡ true → SoundRuleBy (sourcing halves) (rule (commas x so_far) s t) (good halves (commas x so_far))
commas_by halves x so_far Sort.Comma t f =
    let k = both (fits_part (separated x)) (list_all (good_part halves (separated x)) so_far) f in
    λ a. (k.0, λ v h. (also (fits_part (separated x)) (list_all (good_part halves (separated x)) (so_far ++ (v ∷ []))) k.0 (all_more (good_part halves (separated x)) so_far v k.1 h), λ w j. j))
commas_by halves x so_far _ t f = tt

open_by : (halves : Bool) (x : Enclosed) (so_far : List (PartValue (enclosed x))) (s : Sort) (t : Token) → (list_all (good_part halves (enclosed x)) so_far && are_some so_far) ≡ true → SoundRuleBy (sourcing halves) (rule (commas_open x so_far) s t) (good halves (commas_open x so_far))
open_by halves x so_far Sort.Comma t f = λ a. (f, λ w j. j)
open_by halves x so_far _ t f = tt

enclosed_by : (halves : Bool) (x : Enclosed) (s : Sort) (t : Token) → knows s t.what ≡ true → more halves s t.what ≡ true → SoundRuleBy (sourcing halves) (part_rule (enclosed x) s t) (good_part halves (enclosed x))
enclosed_by halves enumerators s t m w = source_part halves enumerator s t refl m w
enclosed_by halves (elements n) s t m w = source_part halves (element n) s t refl m w

after_by : (halves : Bool) (x : Enclosed) (so_far : List (PartValue (enclosed x))) (s : Sort) (t : Token) → (list_all (good_part halves (enclosed x)) so_far && are_some so_far) ≡ true → knows s t.what ≡ true → more halves s t.what ≡ true → SoundRuleBy (sourcing halves) (rule (after_comma x so_far) s t) (good halves (after_comma x so_far))
after_by halves x so_far s t f m w = and_by (sourcing halves) (part_rule (enclosed x) s t) (λ v. form (commas_open x (so_far ++ (v ∷ [])))) (good_part halves (enclosed x)) (good halves (after_comma x so_far)) (enclosed_by halves x s t m w)
    (λ v h. (also (list_all (good_part halves (enclosed x)) (so_far ++ (v ∷ []))) (are_some (so_far ++ (v ∷ []))) (all_more (good_part halves (enclosed x)) so_far v (both (list_all (good_part halves (enclosed x)) so_far) (are_some so_far) f).0 h) (some_more so_far v), λ w j. j))

-- ---- every rule

source_rule : (halves : Bool) (n : Nonterminal) (s : Sort) (t : Token) → fits halves n ≡ true → knows s t.what ≡ true → more halves s t.what ≡ true → SoundRuleBy (sourcing halves) (rule n s t) (good halves n)
source_rule halves (part x) s t f m w = source_part halves x s t f m w
source_rule halves (option allowed x) s t f m w = option_by halves allowed x s t f m w
source_rule halves (many allowed x so_far) s t f m w = many_by halves allowed x so_far s t (both (list_all (good_part halves (repeated x)) so_far) (allowed || not (are_some so_far)) f).0 m w
source_rule halves (commas x so_far) s t f m w = commas_by halves x so_far s t f
source_rule halves (commas_open x so_far) s t f m w = open_by halves x so_far s t f
source_rule halves (after_comma x so_far) s t f m w = after_by halves x so_far s t f m w
source_rule halves (postfix l d first g alone) s t f m w = rule_kept _ halves (shaping_agrees halves) _ _ (expression_rules (postfix l d first g alone) s t f m)
source_rule halves (operators precedence l d g) s t f m w = rule_kept _ halves (shaping_agrees halves) _ _ (expression_rules (operators precedence l d g) s t f m)
source_rule halves (choice l d g) s t f m w = rule_kept _ halves (shaping_agrees halves) _ _ (expression_rules (choice l d g) s t f m)
source_rule halves (opened l d first) s t f m w = rule_kept _ halves (shaping_agrees halves) _ _ (expression_rules (opened l d first) s t f m)
source_rule halves (arguments l d) s t f m w = rule_kept _ halves (shaping_agrees halves) _ _ (expression_rules (arguments l d) s t f m)
source_rule halves (stars k) s t f m w = rule_kept _ halves (shaping_agrees halves) _ _ (expression_rules (stars k) s t f m)
source_rule halves text_behind s t f m w = rule_kept _ halves (shaping_agrees halves) _ _ (expression_rules text_behind s t refl m)
source_rule halves text_after s t f m w = rule_kept _ halves (shaping_agrees halves) _ _ (expression_rules text_after s t refl m)
source_rule halves unsigned_word s t f m w = rule_kept _ halves (shaping_agrees halves) _ _ (expression_rules unsigned_word s t refl m)
source_rule halves (assignment first l d g alone) s t f m w = source_assignment halves first l d g alone s t f w
source_rule halves (otherwise l closed) s t f m w = source_otherwise halves l closed s t
source_rule halves (parameters named d) s t f m w = source_parameters halves named d s t
source_rule halves (after_void named d place) s t f m w = source_after_void halves named d place s t m
source_rule halves (parameter_name named) s t f m w = source_parameter_name halves named s t m
source_rule halves (parameter_declarator named d b k) s t f m w = source_parameter_declarator halves named d b k s t f m
source_rule halves (qualified first) s t f m w = source_qualified halves first s t w
source_rule halves (outer first b k) s t f m w = source_outer halves first b k s t f m
source_rule halves (remote first b k) s t f m w = source_remote halves first b k s t f m
source_rule halves (critical first b k) s t f m w = source_critical halves first b k s t f m
source_rule halves (function first b k name) s t f m w = let j = both (based b k) (is_name (text_of name.what)) f in source_function halves first b k name s t j.0 j.1
source_rule halves (function_end first h) s t f m w = source_function_end halves first h s t f
source_rule halves (fields first name) s t f m w = source_fields halves first name s t f

nothing_grown : {X : Type 0} (allowed : Bool) (xs : List X) → (allowed || not (are_some xs)) ≡ true → grown allowed xs xs ≡ true
nothing_grown allowed xs h = also (allowed || not (are_some xs)) (not (are_some xs) || are_some xs) h (either_way (are_some xs))

unnamed_by : (named : Bool) → not named ≡ true → named ≡ false
unnamed_by true h = absurd (false≢true h)
unnamed_by false h = refl

source_nothing : (halves : Bool) (n : Nonterminal) → fits halves n ≡ true → SoundEmpty (empty n) (good halves n)
source_nothing halves (part x) f = tt
source_nothing halves (option allowed x) f = λ a. refl
source_nothing halves (many allowed x so_far) f = λ a.
    let k = both (list_all (good_part halves (repeated x)) so_far) (allowed || not (are_some so_far)) f in
    also (list_all (good_part halves (repeated x)) so_far) (grown allowed so_far so_far) k.0 (nothing_grown allowed so_far k.1)
source_nothing halves (commas x so_far) f = λ a. (both (fits_part (separated x)) (list_all (good_part halves (separated x)) so_far) f).1
source_nothing halves (commas_open x so_far) f = λ a. f
source_nothing halves (after_comma x so_far) f = λ a. f
source_nothing halves (postfix l d first g alone) f = expression_nothing (postfix l d first g alone) f
source_nothing halves (operators precedence l d g) f = expression_nothing (operators precedence l d g) f
source_nothing halves (choice l d g) f = expression_nothing (choice l d g) f
source_nothing halves (opened l d first) f = tt
source_nothing halves (arguments l d) f = λ a. refl
source_nothing halves (stars k) f = λ a. f
source_nothing halves text_behind f = λ a. refl
source_nothing halves text_after f = tt
source_nothing halves unsigned_word f = λ a. refl
source_nothing halves (assignment first l d g alone) f = λ a. alone_is first l g alone f a
source_nothing halves (otherwise l closed) f = λ a. refl
source_nothing halves (parameters named d) f = tt
source_nothing halves (after_void named d place) f = λ a. refl
source_nothing halves (parameter_name true) f = λ a. absurd (false≢true a)
source_nothing halves (parameter_name false) f = λ a. refl
source_nothing halves (parameter_declarator true d b k) f = λ a. absurd (false≢true a)
source_nothing halves (parameter_declarator false d b k) f = λ a. unnamed_is b k d None f refl
source_nothing halves (qualified first) f = tt
source_nothing halves (outer first b k) f = tt
source_nothing halves (remote first b k) f = tt
source_nothing halves (critical first b k) f = tt
source_nothing halves (function first b k name) f = λ a. refl
source_nothing halves (function_end first h) f = tt
source_nothing halves (fields first name) f = λ a. refl

sourcing_judge : (halves : Bool) → IsJudge (sourcing halves) halves
sourcing_judge halves = record {
  rules = λ n t f h. source_rule halves n (sort_of halves t.what) t f (sort_knows halves t.what h) (sort_more halves t.what);
  nothing = λ n f. source_nothing halves n f;
  inside = λ s x q h. told_of s (sort_of halves x) x q (sort_knows halves x h);
}

-- the tree of a source is shaped
pub sources_are_shaped : (halves : Bool) (tokens : List Token) (tree : Tree) → are_lexed tokens ≡ true → Reads halves tokens tree → is_shaped_tree halves tree ≡ true
sources_are_shaped halves tokens tree a r =
    let k = given_by (sourcing halves) halves (sourcing_judge halves) r.found refl a in
    let g = both (list_all (all_items halves) r.items_of) (grown true [] r.items_of) k.0 in
    subst (λ (t : Tree). is_shaped_tree halves t ≡ true) (sym r.is_tree) (all_flat (is_shaped_item halves) r.items_of g.0)

-- a source's tree is read again from the tokens that it is printed by
pub trees_again : (halves : Bool) (tokens : List Token) (tree : Tree) → are_lexed tokens ≡ true → Reads halves tokens tree → Reads halves (all_at (spelled tree)) (unplaced_tree tree)
trees_again halves tokens tree a r = trees_reread halves tree (sources_are_shaped halves tokens tree a r)
