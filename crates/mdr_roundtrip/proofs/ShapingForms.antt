-- Expressions that are read have the shape of expressions, and no more levels than there may be.
use Rattle.std.proofs.Common.{◌≡◌, refl, sym, ap, subst, ◌∙◌, arith, ℕ, zero, suc, ◌+◌, ◌-◌, ◌≤◌, Bool, true, false, ◌&&◌, List, [], ◌∷◌, ◌++◌, Option, Some, None}
use Rattle.std.specs.Prelude.{◌||◌, nat_eq, nat_lt}
use Rattle.std.specs.List.{list_all}
use Rattle.std.proofs.lemmas.Bool.{false≢true, le-leb}
use Rattle.mdr_core.specs.declared.place.Place.{Place}
use Rattle.mdr_syntax.specs.declared.token.Lexeme.{Lexeme}
use Rattle.mdr_syntax.specs.declared.token.Token.{Token}
use Rattle.mdr_syntax.specs.declared.tree.Form.{Form}
use Rattle.mdr_syntax.specs.declared.tree.FormWhat
use Rattle.mdr_syntax.specs.declared.tree.FormWhat.{FormWhat}
use Rattle.mdr_syntax.specs.declared.tree.FormWhat.TheOpen.{FormWhat-F}
use Rattle.mdr_syntax.specs.declared.tree.FormWhat.TheFolds.{map-FormWhat, fold-roll-FormWhat, fold_out-Form}
use Rattle.mdr_syntax.specs.declared.tree.FormWhat.TheViews.{roll-FormWhat, out-FormWhat, out-Form, roll-out-FormWhat}
use Rattle.mdr_syntax.specs.declared.tree.FormWhat.TheVariants.{rolls-Prefix, rolls-Post, rolls-Call}
use Rattle.mdr_roundtrip.specs.Words.{is_among, is_prefix, is_step}
use Rattle.mdr_roundtrip.specs.PrintableDeclarations.{maybe}
use Rattle.mdr_roundtrip.proofs.Tests.{both}
use Rattle.mdr_grammar.specs.declared.parts.Specifier.{Specifier}
use Rattle.mdr_grammar.specs.declared.sort.Sort.{Sort}
use Rattle.mdr_grammar.specs.Sorts.{is_level, sort_of}
use Rattle.mdr_grammar.specs.Forms.{Part, PartValue, Separated, separated, Nonterminal, Operand, form}
use Rattle.mdr_grammar.specs.Forms.Part.{operand, expression, argument, base}
use Rattle.mdr_grammar.specs.Forms.Nonterminal.{part, commas, postfix, operators, choice, opened, arguments, stars, text_behind, text_after, unsigned_word}
use Rattle.mdr_grammar.specs.Forms.Separated.{arguments_at}
use Rattle.mdr_grammar.specs.Forms.Right.{gives}
use Rattle.mdr_grammar.specs.Expressions.{text_of, number_in, kind_in, is_level_free, may_open, may_sink, height, name_form, form_at, binary, precedence_of, operators_from, of_precedence, behind_operand, in_parentheses, kept, word_argument, base_rule, unsigned_word_rule, stars_rule, parentheses, operand_rule, postfix_rule, operators_rule, choice_rule, expression_rule, cast_rule, opened_rule, type_argument, argument_rule, text_after_rule, text_behind_rule, arguments_rule}
use Rattle.mdr_grammar.specs.Grammar.{rule, empty, part_rule, Gets}
use Rattle.mdr_roundtrip.specs.Lexed.{are_lexed}
use Rattle.mdr_roundtrip.specs.Shaped.{binaries, is_named_base, Shape, what_shaped, form_shaped, shape_of, shape_of_what}
use Rattle.mdr_roundtrip.specs.Alone.{what_alone, form_alone, is_alone, is_alone_what}
use Rattle.mdr_roundtrip.proofs.Bools.{also, all_one, all_more}
use Rattle.mdr_roundtrip.proofs.Judges.{SoundBy, SoundRuleBy, SoundEmpty, then_by, less_by, less_rule, and_by, or_by, where_by, IsJudge, given_by}
use Rattle.mdr_roundtrip.proofs.Sorted.{no}
use Rattle.mdr_roundtrip.proofs.Heights.{name_height}
use Rattle.mdr_roundtrip.proofs.Shaping.{knows, sort_knows, told_of, is_expression, is_argument, is_text, told_alone, is_postfix, is_operand, good_part, good, fits_part, fits, shaping}
use Rattle.mdr_roundtrip.proofs.ShapeTests.{shape_is, level_is, level, sunk, below, number_formed, null_formed, name_formed, service_shape, prefix_formed, post_formed, cast_formed, binary_formed, choice_formed, subscript_formed, member_formed, call_formed, text_formed, base_formed, text_anywhere}

-- ---- an expression may be called, and be an argument

record Anywhere (s : Shape) : Type 0 where
  called : s.expression ≡ true → s.called ≡ true
  argument : s.expression ≡ true → s.argument ≡ true

either : (a b : Bool) → a ≡ true → (a || b) ≡ true
either true b h = refl
either false b h = absurd (false≢true h)

layer_anywhere : (l : FormWhat-F Shape Shape) → Anywhere (what_shaped l)
layer_anywhere (FormWhat-F.Number n kind) = record { called = λ h. h; argument = λ h. h }
layer_anywhere FormWhat-F.Null = record { called = λ h. h; argument = λ h. h }
layer_anywhere (FormWhat-F.Name name) = record { called = λ h. either _ _ h; argument = λ h. h }
layer_anywhere (FormWhat-F.Prefix op a) = record { called = λ h. h; argument = λ h. h }
layer_anywhere (FormWhat-F.Post op a) = record { called = λ h. h; argument = λ h. h }
layer_anywhere (FormWhat-F.Cast b n a) = record { called = λ h. h; argument = λ h. h }
layer_anywhere (FormWhat-F.Binary op a b) = record { called = λ h. h; argument = λ h. h }
layer_anywhere (FormWhat-F.Choice c a b) = record { called = λ h. h; argument = λ h. h }
layer_anywhere (FormWhat-F.Subscript a i) = record { called = λ h. h; argument = λ h. h }
layer_anywhere (FormWhat-F.Member a is_arrow place name) = record { called = λ h. h; argument = λ h. h }
layer_anywhere (FormWhat-F.Call f args) = record { called = λ h. h; argument = λ h. h }
layer_anywhere (FormWhat-F.Text bytes) = record { called = λ h. no h; argument = λ h. no h }
layer_anywhere (FormWhat-F.Base b n) = record { called = λ h. no h; argument = λ h. no h }

anywhere : (f : Form) → Anywhere (shape_of f)
anywhere f =
    let w : FormWhat = (out-Form f).what in
    subst Anywhere (sym (fold_out-Form Shape Shape what_shaped form_shaped f ∙ ap shape_of_what (sym (roll-out-FormWhat w)) ∙ fold-roll-FormWhat Shape Shape what_shaped form_shaped (out-FormWhat w))) (layer_anywhere (map-FormWhat FormWhat Form Shape Shape shape_of_what shape_of (out-FormWhat w)))

as_argument : (l : ℕ) (f : Form) → is_expression l f ≡ true → is_argument l f ≡ true
as_argument l f h = let k = both (shape_of f).expression (is_level_free (l + height f)) h in also (shape_of f).argument (is_level_free (l + height f)) ((anywhere f).argument k.0) k.1

-- ---- types

abbrev pub is_good_base : Specifier → Bool
is_good_base b = is_named_base b.base

-- an operand that isn't said to be a statement
part_only : (l : ℕ) (f : Form) → is_expression l f ≡ true → is_postfix l f false ≡ true
part_only l f h = also (is_expression l f) true h refl

stands_alone : (l : ℕ) (f : Form) → is_expression l f ≡ true → is_alone f ≡ true → is_postfix l f true ≡ true
stands_alone l f h a = also (is_expression l f) (is_alone f) h a

formed : (l : ℕ) (f : Form) (alone : Bool) → is_postfix l f alone ≡ true → is_expression l f ≡ true
formed l f alone h = (both (is_expression l f) (told_alone alone f) h).0

alone_made : (place : Place) (l : FormWhat-F FormWhat Form) (w : FormWhat) → roll-FormWhat l ≡ w → is_alone (form_at place w) ≡ what_alone (map-FormWhat FormWhat Form Bool Bool is_alone_what is_alone l)
alone_made place l w e = fold_out-Form Bool Bool what_alone form_alone (record { place = place; what = w }) ∙ ap is_alone_what (sym e) ∙ fold-roll-FormWhat Bool Bool what_alone form_alone l

call_alone : (place : Place) (f : Form) (args : List Form) → is_alone (form_at place (FormWhat.Call f args)) ≡ true
call_alone place f args = alone_made place (FormWhat-F.Call f args) (FormWhat.Call f args) (rolls-Call f args)

post_alone : (place : Place) (op : List ℕ) (f : Form) → is_alone (form_at place (FormWhat.Post op f)) ≡ true
post_alone place op f = alone_made place (FormWhat-F.Post op f) (FormWhat.Post op f) (rolls-Post op f)

step_alone : (place : Place) (op : List ℕ) (f : Form) → is_step op ≡ true → is_alone (form_at place (FormWhat.Prefix op f)) ≡ true
step_alone place op f h = alone_made place (FormWhat-F.Prefix op f) (FormWhat.Prefix op f) (rolls-Prefix op f) ∙ h

of_unsigned : (s : Sort) (t : Token) → SoundRuleBy shaping (unsigned_word_rule s t) is_named_base
of_unsigned Sort.Char t = λ a. refl
of_unsigned Sort.Short t = λ a. refl
of_unsigned Sort.Int t = λ a. refl
of_unsigned Sort.Long t = λ a. refl
of_unsigned _ t = tt

pub of_base : (s : Sort) (t : Token) → SoundRuleBy shaping (base_rule s t) is_good_base
of_base (Sort.Integer k) t = λ a. refl
of_base Sort.Char t = λ a. refl
of_base Sort.Short t = λ a. refl
of_base Sort.Int t = λ a. refl
of_base Sort.Long t = λ a. refl
of_base Sort.Signed t = λ a. λ c q. refl
of_base Sort.Unsigned t = λ a. (refl, λ b h. h)
of_base Sort.Void t = λ a. refl
of_base Sort.Lock t = λ a. refl
of_base Sort.Struct t = λ a. λ n h. h
of_base _ t = tt

of_stars : (k : ℕ) (s : Sort) (t : Token) → SoundRuleBy shaping (stars_rule k s t) (good (stars k))
of_stars k Sort.Star t = λ a. (a, λ n h. h)
of_stars k _ t = tt

-- ---- operands

of_parentheses : (casts : Bool) (l d : ℕ) (t : Token) → is_level_free l ≡ true → SoundRuleBy shaping (parentheses casts l d t) (is_operand l)
of_parentheses true l d t f = λ a. (f, λ x h. h)
of_parentheses false l d t f = λ a. (f, λ g hg. λ c q. (part_only l g hg, λ x h. h))

of_service : (l : ℕ) (t : Token) → is_level_free (l + 1) ≡ true → l + suc (height (name_form t)) ≤ 256
of_service l t h = let q = level (l + 1) h in let z = name_height t.place (text_of t.what) in omega (arith, q, z)

pub of_operand : (casts : Bool) (l d : ℕ) (s : Sort) (t : Token) → is_level_free l ≡ true → knows s t.what ≡ true → SoundRuleBy shaping (operand_rule casts l d s t) (is_operand l)
of_operand casts l d Sort.Name t f m = λ a. (part_only l _ (name_formed l t.place (text_of t.what) (level l f) m), λ x h. h)
of_operand casts l d Sort.Number t f m = λ a. (part_only l _ (number_formed l t.place (number_in t.what) (kind_in t.what) (level l f) m), λ x h. h)
of_operand casts l d Sort.Null t f m = λ a. (part_only l _ (null_formed l t.place (level l f)), λ x h. h)
of_operand casts l d Sort.Service t f m = λ a.
    let k = both (is_level_free (l + 1)) (may_open (d + 1)) a in
    λ b q. (k.0, λ args ha. λ c r. (stands_alone l _ (call_formed l t.place (name_form t) args (service_shape t.place (text_of t.what) m) (of_service l t k.0) ha) (call_alone t.place (name_form t) args), λ x h. h))
of_operand casts l d Sort.Open t f m = of_parentheses casts l d t f
of_operand casts l d Sort.Minus t f m = λ a. (a, λ x h. part_only l _ (prefix_formed l t.place (text_of t.what) x.form (both (is_prefix (text_of t.what)) (is_among binaries (text_of t.what)) m).0 (formed (l + 1) x.form x.alone h)))
of_operand casts l d Sort.Plus t f m = λ a. (a, λ x h. part_only l _ (prefix_formed l t.place (text_of t.what) x.form (both (is_prefix (text_of t.what)) (is_among binaries (text_of t.what)) m).0 (formed (l + 1) x.form x.alone h)))
of_operand casts l d Sort.And t f m = λ a. (a, λ x h. part_only l _ (prefix_formed l t.place (text_of t.what) x.form (both (is_prefix (text_of t.what)) (is_among binaries (text_of t.what)) m).0 (formed (l + 1) x.form x.alone h)))
of_operand casts l d Sort.Star t f m = λ a. (a, λ x h. part_only l _ (prefix_formed l t.place (text_of t.what) x.form (both (is_prefix (text_of t.what)) (is_among binaries (text_of t.what)) m).0 (formed (l + 1) x.form x.alone h)))
of_operand casts l d Sort.Not t f m = λ a. (a, λ x h. part_only l _ (prefix_formed l t.place (text_of t.what) x.form m (formed (l + 1) x.form x.alone h)))
of_operand casts l d Sort.Step t f m = λ a. (a, λ x h. stands_alone l _ (prefix_formed l t.place (text_of t.what) x.form (both (is_prefix (text_of t.what)) (is_step (text_of t.what)) m).0 (formed (l + 1) x.form x.alone h)) (step_alone t.place (text_of t.what) x.form (both (is_prefix (text_of t.what)) (is_step (text_of t.what)) m).1))
of_operand casts l d _ t f m = tt

of_postfix : (l d : ℕ) (first : Place) (f : Form) (s : Sort) (t : Token) → is_expression l f ≡ true → knows s t.what ≡ true → SoundRuleBy shaping (postfix_rule l d first f s t) (is_operand l)
of_postfix l d first f Sort.OpenBracket t g m = λ a. (below l f a, λ i hi. λ c q. (part_only l _ (subscript_formed l first f i (shape_is l f g) (sunk l f a) hi), λ x h. h))
of_postfix l d first f Sort.Dot t g m = λ a. λ n hn. (part_only l _ (member_formed l first f false n.place (text_of n.what) (shape_is l f g) (sunk l f a) hn), λ x h. h)
of_postfix l d first f Sort.Arrow t g m = λ a. λ n hn. (part_only l _ (member_formed l first f true n.place (text_of n.what) (shape_is l f g) (sunk l f a) hn), λ x h. h)
of_postfix l d first f Sort.Open t g m = λ a.
    let k = both (may_sink l f) (may_open (d + 1)) a in
    (below l f k.0, λ args ha. λ c q. (stands_alone l _ (call_formed l first f args ((anywhere f).called (shape_is l f g)) (sunk l f k.0) ha) (call_alone first f args), λ x h. h))
of_postfix l d first f Sort.Step t g m = λ a. (stands_alone l _ (post_formed l first (text_of t.what) f (both (is_prefix (text_of t.what)) (is_step (text_of t.what)) m).1 (shape_is l f g) (sunk l f a)) (post_alone first (text_of t.what) f), λ x h. h)
of_postfix l d first f _ t g m = tt

-- ---- operators

no_operator : {P : Type 0} (p : ℕ) → nat_lt 1 p ≡ true → (nat_eq 0 p && nat_lt p 12) ≡ true → P
no_operator p h e = absurd (clash h (both (nat_eq 0 p) (nat_lt p 12) e).0)
  where
    clash : nat_lt 1 p ≡ true → nat_eq 0 p ≡ true → ⊥
    clash a b = grind arith

no_choice : {P : Type 0} (p : ℕ) → nat_lt 1 p ≡ true → (nat_eq 1 p && nat_lt p 12) ≡ true → P
no_choice p h e = absurd (clash h (both (nat_eq 1 p) (nat_lt p 12) e).0)
  where
    clash : nat_lt 1 p ≡ true → nat_eq 1 p ≡ true → ⊥
    clash a b = grind arith

too_tight : {P : Type 0} (p : ℕ) → (nat_eq 12 p && nat_lt p 12) ≡ true → P
too_tight p e = let k = both (nat_eq 12 p) (nat_lt p 12) e in absurd (clash k.0 k.1)
  where
    clash : nat_eq 12 p ≡ true → nat_lt p 12 ≡ true → ⊥
    clash a b = grind arith

between : (s : Sort) (p : ℕ) (x : Lexeme) → nat_lt 1 p ≡ true → knows s x ≡ true → (nat_eq (precedence_of s) p && nat_lt p 12) ≡ true → is_among binaries (text_of x) ≡ true
between Sort.Question p x h m e = no_choice p h e
between Sort.OrElse p x h m e = m
between Sort.AndThen p x h m e = m
between Sort.Or p x h m e = m
between Sort.Xor p x h m e = m
between Sort.Equality p x h m e = m
between Sort.Relation p x h m e = m
between Sort.Shift p x h m e = m
between Sort.Slash p x h m e = m
between Sort.And p x h m e = (both (is_prefix (text_of x)) (is_among binaries (text_of x)) m).1
between Sort.Plus p x h m e = (both (is_prefix (text_of x)) (is_among binaries (text_of x)) m).1
between Sort.Minus p x h m e = (both (is_prefix (text_of x)) (is_among binaries (text_of x)) m).1
between Sort.Star p x h m e = (both (is_prefix (text_of x)) (is_among binaries (text_of x)) m).1
between Sort.OpenBracket p x h m e = too_tight p e
between Sort.Dot p x h m e = too_tight p e
between Sort.Arrow p x h m e = too_tight p e
between Sort.Open p x h m e = too_tight p e
between Sort.Step p x h m e = too_tight p e
between _ p x h m e = no_operator p h e

higher : (low more : ℕ) → nat_lt 1 low ≡ true → nat_lt 1 (low + more) ≡ true
higher low more h = grind arith

next : (p : ℕ) → nat_lt 1 p ≡ true → nat_lt 1 (suc p) ≡ true
next p h = grind arith

of_from : (more low l d : ℕ) (f : Form) → nat_lt 1 low ≡ true → is_expression l f ≡ true → SoundBy shaping (operators_from more low l d f) (is_expression l)
of_from zero low l d f h g = g
of_from (suc more) low l d f h g = (also (nat_lt 1 (low + more)) (is_expression l f) (higher low more h) g, λ v k. of_from more low l d v h k)

of_one : (b : Bool) (p l d : ℕ) (f : Form) (t : Token) → nat_lt 1 p ≡ true → is_expression l f ≡ true → (b ≡ true → is_among binaries (text_of t.what) ≡ true) → SoundRuleBy shaping (of_precedence b p l d f t) (is_expression l)
of_one false p l d f t h g o = tt
of_one true p l d f t h g o = λ a. (
  below l f a,
  λ x hx. then_by shaping (operators_from (11 - p) (suc p) (l + 1) d x.form) (λ v. form (operators p l d (binary f t v))) (is_expression (l + 1)) (is_expression l) (of_from (11 - p) (suc p) (l + 1) d x.form (next p h) (formed (l + 1) x.form x.alone hx))
      (λ v k. (also (nat_lt 1 p) (is_expression l (binary f t v)) h (binary_formed l t.place (text_of t.what) f v (o refl) (shape_is l f g) (sunk l f a) k), λ w j. j)),
)

of_operators : (p l d : ℕ) (f : Form) (s : Sort) (t : Token) → (nat_lt 1 p && is_expression l f) ≡ true → knows s t.what ≡ true → SoundRuleBy shaping (operators_rule p l d f s t) (is_expression l)
of_operators p l d f s t g m =
    let k = both (nat_lt 1 p) (is_expression l f) g in
    of_one (nat_eq (precedence_of s) p && nat_lt p 12) p l d f t k.0 k.1 (between s p t.what k.0 m)

of_choice : (l d : ℕ) (f : Form) (s : Sort) (t : Token) → is_expression l f ≡ true → SoundRuleBy shaping (choice_rule l d f s t) (is_expression l)
of_choice l d f Sort.Question t g = λ a. (below l f a, λ x hx. λ c q. (below l f a, λ y hy. choice_formed l t.place f x y (shape_is l f g) (sunk l f a) hx hy))
of_choice l d f _ t g = tt

of_behind : (l d : ℕ) (x : Operand) → is_operand l x ≡ true → SoundBy shaping (behind_operand l d x) (is_expression l)
of_behind l d x hx = then_by shaping (operators_from 10 2 l d x.form) (λ f. form (choice l d f)) (is_expression l) (is_expression l) (of_from 10 2 l d x.form refl (formed l x.form x.alone hx)) (λ f hf. (hf, λ v h. h))

pub of_expression : (l d : ℕ) (s : Sort) (t : Token) → is_level_free l ≡ true → knows s t.what ≡ true → SoundRuleBy shaping (expression_rule l d s t) (is_expression l)
of_expression l d s t f m = and_by shaping (operand_rule true l d s t) (λ x. behind_operand l d x) (is_operand l) (is_expression l) (of_operand true l d s t f m) (λ x hx. of_behind l d x hx)

-- ---- behind a `(`, and arguments

of_cast : (l d : ℕ) (first : Place) (s : Sort) (t : Token) → SoundRuleBy shaping (cast_rule l d first s t) (is_operand l)
of_cast l d first s t = where_by shaping (is_level_free (l + 1)) _ (is_operand l) (λ a. and_by shaping (base_rule s t) _ is_good_base (is_operand l) (of_base s t) (λ b hb. (refl, λ k hk. λ c q. (a, λ x hx. part_only l _ (cast_formed l first b.base k x.form hb hk (formed (l + 1) x.form x.alone hx))))))

of_opened : (l d : ℕ) (first : Place) (s : Sort) (t : Token) → is_level_free l ≡ true → knows s t.what ≡ true → SoundRuleBy shaping (opened_rule l d first s t) (is_operand l)
of_opened l d first s t f m = or_by shaping (cast_rule l d first s t) _ (is_operand l) (of_cast l d first s t)
    (and_by shaping (expression_rule l (d + 1) s t) (λ g. in_parentheses l d first g) (is_expression l) (is_operand l) (of_expression l (d + 1) s t f m) (λ g hg. λ c q. (part_only l g hg, λ x h. h)))

of_kept : (l d : ℕ) (t : Token) (o : Option Form) → is_level_free l ≡ true → knows Sort.Name t.what ≡ true → maybe is_text o ≡ true → SoundBy shaping (kept l d t o) (is_argument l)
of_kept l d t (Some g) f w h = text_anywhere l g (level l f) h
of_kept l d t None f w h = (part_only l _ (name_formed l t.place (text_of t.what) (level l f) w), λ x hx. less_by shaping (behind_operand l d x) (is_expression l) (is_argument l) (λ v k. as_argument l v k) (of_behind l d x hx))

of_word : (b : Bool) (l d : ℕ) (t : Token) → is_level_free l ≡ true → knows Sort.Name t.what ≡ true → SoundBy shaping (word_argument b l d t) (is_argument l)
of_word true l d t f w = (refl, λ o ho. of_kept l d t o f w ho)
of_word false l d t f w = of_kept l d t None f w refl

of_type : (l : ℕ) (s : Sort) (t : Token) → is_level_free l ≡ true → SoundRuleBy shaping (type_argument s t) (is_argument l)
of_type l s t f = and_by shaping (base_rule s t) _ is_good_base (is_argument l) (of_base s t) (λ b hb. (refl, λ k hk. base_formed l t.place b.base k (level l f) hb hk))

of_argument : (l d : ℕ) (s : Sort) (t : Token) → is_level_free l ≡ true → knows s t.what ≡ true → SoundRuleBy shaping (argument_rule l d s t) (is_argument l)
of_argument l d Sort.Text t f m = λ a. text_anywhere l _ (level l f) (text_formed t.place (text_of t.what) m)
of_argument l d Sort.Name t f m = λ a. of_word (is_level (text_of t.what)) l d t f m
of_argument l d s t f m = or_by shaping (type_argument s t) (expression_rule l d s t) (is_argument l) (of_type l s t f) (less_rule shaping (expression_rule l d s t) (is_expression l) (is_argument l) (λ v k. as_argument l v k) (of_expression l d s t f m))

of_text_after : (s : Sort) (t : Token) → knows s t.what ≡ true → SoundRuleBy shaping (text_after_rule s t) is_text
of_text_after Sort.Text t m = λ a. text_formed t.place (text_of t.what) m
of_text_after Sort.Name t m = λ a. (refl, λ g h. h)
of_text_after _ t m = tt

of_text_behind : (s : Sort) (t : Token) → knows s t.what ≡ true → SoundRuleBy shaping (text_behind_rule s t) (maybe is_text)
of_text_behind s t m = and_by shaping (text_after_rule s t) (λ g. gives (Some g)) is_text (maybe is_text) (of_text_after s t m) (λ g h. h)

of_arguments : (l d : ℕ) (s : Sort) (t : Token) → is_level_free l ≡ true → knows s t.what ≡ true → SoundRuleBy shaping (arguments_rule l d s t) (list_all (is_argument l))
of_arguments l d s t f m = and_by shaping (argument_rule l d s t) (λ g. form (commas (arguments_at l d) (g ∷ []))) (is_argument l) (list_all (is_argument l)) (of_argument l d s t f m) (λ g h. (also (is_level_free l) (list_all (is_argument l) (g ∷ [])) f (all_one (is_argument l) g h), λ v k. k))

of_commas : (x : Separated) (so_far : List (PartValue (separated x))) (s : Sort) (t : Token) → fits (commas x so_far) ≡ true → SoundRuleBy shaping (rule (commas x so_far) s t) (good (commas x so_far))
of_commas x so_far Sort.Comma t f =
    let k = both (fits_part (separated x)) (list_all (good_part (separated x)) so_far) f in
    λ a. (k.0, λ v h. (also (fits_part (separated x)) (list_all (good_part (separated x)) (so_far ++ (v ∷ []))) k.0 (all_more (good_part (separated x)) so_far v k.1 h), λ w j. j))
of_commas x so_far _ t f = tt

-- ---- every rule

of_part : (x : Part) (s : Sort) (t : Token) → fits_part x ≡ true → knows s t.what ≡ true → SoundRuleBy shaping (part_rule x s t) (good_part x)
of_part (operand casts l d) s t f m = of_operand casts l d s t f m
of_part (expression l d) s t f m = of_expression l d s t f m
of_part (argument l d) s t f m = of_argument l d s t f m
of_part base s t f m = of_base s t
of_part _ s t f m = no f

pub of_rule : (n : Nonterminal) (s : Sort) (t : Token) → fits n ≡ true → knows s t.what ≡ true → SoundRuleBy shaping (rule n s t) (good n)
of_rule (part x) s t f m = of_part x s t f m
of_rule (commas x so_far) s t f m = of_commas x so_far s t f
of_rule (postfix l d first g alone) s t f m = of_postfix l d first g s t (formed l g alone f) m
of_rule (operators precedence l d g) s t f m = of_operators precedence l d g s t f m
of_rule (choice l d g) s t f m = of_choice l d g s t f
of_rule (opened l d first) s t f m = of_opened l d first s t f m
of_rule (arguments l d) s t f m = of_arguments l d s t f m
of_rule (stars k) s t f m = of_stars k s t
of_rule text_behind s t f m = of_text_behind s t m
of_rule text_after s t f m = of_text_after s t m
of_rule unsigned_word s t f m = of_unsigned s t
of_rule _ s t f m = no f

pub of_nothing : (n : Nonterminal) → fits n ≡ true → SoundEmpty (empty n) (good n)
of_nothing (part x) f = tt
of_nothing (commas x so_far) f = λ a. (both (fits_part (separated x)) (list_all (good_part (separated x)) so_far) f).1
of_nothing (postfix l d first g alone) f = λ a. f
of_nothing (operators precedence l d g) f = λ a. (both (nat_lt 1 precedence) (is_expression l g) f).1
of_nothing (choice l d g) f = λ a. f
of_nothing (opened l d first) f = tt
of_nothing (arguments l d) f = λ a. refl
of_nothing (stars k) f = λ a. f
of_nothing text_behind f = λ a. refl
of_nothing text_after f = tt
of_nothing unsigned_word f = λ a. refl
of_nothing _ f = no f

pub shaping_judge : (halves : Bool) → IsJudge shaping halves
shaping_judge halves = record {
  rules = λ n t f h. of_rule n (sort_of halves t.what) t f (sort_knows halves t.what h);
  nothing = λ n f. of_nothing n f;
  inside = λ s x q h. told_of s (sort_of halves x) x q (sort_knows halves x h);
}

-- what is read as an expression at a level is one, with no more levels than there may be
pub expressions_are_shaped : (halves : Bool) (l d : ℕ) (ts rest : List Token) (f : Form) → l ≤ 256 → are_lexed ts ≡ true → Gets halves (part (expression l d)) ts rest f → ((shape_of f).expression ≡ true) × (l + height f ≤ 256)
expressions_are_shaped halves l d ts rest f h a g =
    let k = given_by shaping halves (shaping_judge halves) g (le-leb l 256 h) a in
    (shape_is l f k.0, level_is l f k.0)
