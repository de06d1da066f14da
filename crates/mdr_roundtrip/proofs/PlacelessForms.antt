-- The rules of expressions look at no place.
use Rattle.std.proofs.Common.{◌≡◌, refl, sym, subst, ap, ◌∙◌, ℕ, zero, suc, ◌+◌, ◌-◌, Bool, true, false, Option, Some, None, [], ◌∷◌, map}
use Rattle.std.specs.Prelude.{◌&&◌, nat_eq, nat_lt}
use Rattle.std.specs.Option.{option_map}
use Rattle.mdr_core.specs.declared.place.Place.{Place}
use Rattle.mdr_syntax.specs.declared.token.Token.{Token}
use Rattle.mdr_syntax.specs.declared.tree.Form.{Form}
use Rattle.mdr_syntax.specs.declared.tree.FormWhat
use Rattle.mdr_syntax.specs.declared.tree.FormWhat.{FormWhat}
use Rattle.mdr_grammar.specs.declared.sort.Sort.{Sort}
use Rattle.mdr_grammar.specs.Sorts.{is_level}
use Rattle.mdr_grammar.specs.Forms.{Operand, ◌>>=◌, form}
use Rattle.mdr_grammar.specs.Forms.Nonterminal.{commas, postfix, operators, choice, opened, stars, text_after}
use Rattle.mdr_grammar.specs.Forms.Separated.{arguments_at}
use Rattle.mdr_grammar.specs.Expressions.{text_of, is_level_free, may_open, may_sink, name_form, number_form, form_at, binary, precedence_of, operators_from, of_precedence, behind_operand, in_parentheses, kept, word_argument, base_rule, unsigned_word_rule, stars_rule, prefix, step_before, service, member, parentheses, operand_rule, postfix_rule, operators_rule, choice_rule, expression_rule, cast_rule, opened_rule, type_argument, argument_rule, text_after_rule, text_behind_rule, arguments_rule}
use Rattle.mdr_roundtrip.specs.Unplaced.{nowhere, unplaced_base, unplaced_form}
use Rattle.mdr_roundtrip.proofs.Heights.{unplaced_height}
use Rattle.mdr_roundtrip.proofs.Erased.{erased_token, erased_specifier, erased_operand}
use Rattle.mdr_roundtrip.proofs.Placeless.{AlikeBy, AlikeRules, bind_alike, and_alike, or_alike, where_alike, whole}
use Rattle.mdr_roundtrip.proofs.Placeless.AlikeBy.{same, token, next}
use Rattle.mdr_roundtrip.proofs.Placeless.AlikeRules.{no_rule, rules}
use Rattle.mdr_roundtrip.proofs.Unplacing.{number_made, name_made, text_made, null_made, base_made, prefix_made, post_made, cast_made, binary_made, choice_made, subscript_made, member_made, call_made}

-- ---- types

pub unsigned_alike : (s : Sort) (t : Token) → AlikeRules unplaced_base (unsigned_word_rule s t) (unsigned_word_rule s (erased_token t))
unsigned_alike Sort.Char t = rules refl (same refl)
unsigned_alike Sort.Short t = rules refl (same refl)
unsigned_alike Sort.Int t = rules refl (same refl)
unsigned_alike Sort.Long t = rules refl (same refl)
unsigned_alike _ t = no_rule

pub base_alike : (s : Sort) (t : Token) → AlikeRules erased_specifier (base_rule s t) (base_rule s (erased_token t))
base_alike (Sort.Integer k) t = rules refl (same refl)
base_alike Sort.Char t = rules refl (same refl)
base_alike Sort.Short t = rules refl (same refl)
base_alike Sort.Int t = rules refl (same refl)
base_alike Sort.Long t = rules refl (same refl)
base_alike Sort.Signed t = rules refl (token (λ c. same refl))
base_alike Sort.Unsigned t = rules refl (next (λ b. same refl))
base_alike Sort.Void t = rules refl (same refl)
base_alike Sort.Lock t = rules refl (same refl)
base_alike Sort.Struct t = rules refl (token (λ n. same refl))
base_alike _ t = no_rule

pub stars_alike : (k : ℕ) (s : Sort) (t : Token) → AlikeRules (λ (v : ℕ). v) (stars_rule k s t) (stars_rule k s (erased_token t))
stars_alike k Sort.Star t = rules refl (whole (stars (k + 1)))
stars_alike k _ t = no_rule

-- ---- operands

postfix_with : (l d : ℕ) (first : Place) (f : Form) (alone : Bool) {g : Form} → unplaced_form f ≡ g → AlikeBy erased_operand (form (postfix l d first f alone)) (form (postfix l d nowhere g alone))
postfix_with l d first f alone e = subst (λ (g : Form). AlikeBy erased_operand (form (postfix l d first f alone)) (form (postfix l d nowhere g alone))) e (whole (postfix l d first f alone))

abbrev operand_of : Bool → Form → Operand
operand_of alone f = record { form = f; alone = alone }

prefix_alike : (l d : ℕ) (t : Token) → AlikeRules erased_operand (prefix l d t) (prefix l d (erased_token t))
prefix_alike l d t = rules refl (next (λ x. same (ap (operand_of false) (prefix_made t.place (text_of t.what) x.form))))

step_alike : (l d : ℕ) (t : Token) → AlikeRules erased_operand (step_before l d t) (step_before l d (erased_token t))
step_alike l d t = rules refl (next (λ x. same (ap (operand_of true) (prefix_made t.place (text_of t.what) x.form))))

service_alike : (l d : ℕ) (t : Token) → AlikeRules erased_operand (service l d t) (service l d (erased_token t))
service_alike l d t = rules refl (token (λ o. next (λ args. token (λ c. postfix_with l d t.place (form_at t.place (FormWhat.Call (name_form t) args)) true (call_made t.place (name_form t) args ∙ ap (λ (g : Form). form_at nowhere (FormWhat.Call g (map unplaced_form args))) (name_made t))))))

parentheses_alike : (casts : Bool) (l d : ℕ) (t : Token) → AlikeRules erased_operand (parentheses casts l d t) (parentheses casts l d (erased_token t))
parentheses_alike true l d t = rules refl (whole (opened l d t.place))
parentheses_alike false l d t = rules refl (next (λ f. token (λ c. whole (postfix l d t.place f false))))

pub operand_alike : (casts : Bool) (l d : ℕ) (s : Sort) (t : Token) → AlikeRules erased_operand (operand_rule casts l d s t) (operand_rule casts l d s (erased_token t))
operand_alike casts l d Sort.Name t = rules refl (postfix_with l d t.place (name_form t) false (name_made t))
operand_alike casts l d Sort.Number t = rules refl (postfix_with l d t.place (number_form t) false (number_made t))
operand_alike casts l d Sort.Null t = rules refl (postfix_with l d t.place (form_at t.place FormWhat.Null) false (null_made t.place))
operand_alike casts l d Sort.Service t = service_alike l d t
operand_alike casts l d Sort.Open t = parentheses_alike casts l d t
operand_alike casts l d Sort.Minus t = prefix_alike l d t
operand_alike casts l d Sort.Plus t = prefix_alike l d t
operand_alike casts l d Sort.And t = prefix_alike l d t
operand_alike casts l d Sort.Star t = prefix_alike l d t
operand_alike casts l d Sort.Not t = prefix_alike l d t
operand_alike casts l d Sort.Step t = step_alike l d t
operand_alike casts l d _ t = no_rule

-- a form with its places set aside may sink as far
sink_same : (l : ℕ) (f : Form) → may_sink l f ≡ may_sink l (unplaced_form f)
sink_same l f = ap (λ n. is_level_free (l + suc n)) (sym (unplaced_height f))

member_alike : (l d : ℕ) (first : Place) (f : Form) (is_arrow : Bool) → AlikeRules erased_operand (member l d first f is_arrow) (member l d nowhere (unplaced_form f) is_arrow)
member_alike l d first f is_arrow = rules (sink_same l f) (token (λ n. postfix_with l d first (form_at first (FormWhat.Member f is_arrow n.place (text_of n.what))) false (member_made first f is_arrow n.place (text_of n.what))))

pub postfix_alike : (l d : ℕ) (first : Place) (f : Form) (s : Sort) (t : Token) → AlikeRules erased_operand (postfix_rule l d first f s t) (postfix_rule l d nowhere (unplaced_form f) s (erased_token t))
postfix_alike l d first f Sort.OpenBracket t = rules (sink_same l f) (next (λ i. token (λ c. postfix_with l d first (form_at first (FormWhat.Subscript f i)) false (subscript_made first f i))))
postfix_alike l d first f Sort.Dot t = member_alike l d first f false
postfix_alike l d first f Sort.Arrow t = member_alike l d first f true
postfix_alike l d first f Sort.Open t = rules (ap (λ b. b && may_open (d + 1)) (sink_same l f)) (next (λ args. token (λ c. postfix_with l d first (form_at first (FormWhat.Call f args)) true (call_made first f args))))
postfix_alike l d first f Sort.Step t = rules (sink_same l f) (postfix_with l d first (form_at first (FormWhat.Post (text_of t.what) f)) true (post_made first (text_of t.what) f))
postfix_alike l d first f _ t = no_rule

-- ---- operators

from_alike : (more low l d : ℕ) (f : Form) → AlikeBy unplaced_form (operators_from more low l d f) (operators_from more low l d (unplaced_form f))
from_alike zero low l d f = same refl
from_alike (suc more) low l d f = next (λ g. from_alike more low l d g)

operators_with : (p l d : ℕ) (f : Form) {g : Form} → unplaced_form f ≡ g → AlikeBy unplaced_form (form (operators p l d f)) (form (operators p l d g))
operators_with p l d f e = subst (λ (g : Form). AlikeBy unplaced_form (form (operators p l d f)) (form (operators p l d g))) e (whole (operators p l d f))

of_alike : (b : Bool) (p l d : ℕ) (f : Form) (t : Token) → AlikeRules unplaced_form (of_precedence b p l d f t) (of_precedence b p l d (unplaced_form f) (erased_token t))
of_alike false p l d f t = no_rule
of_alike true p l d f t = rules (sink_same l f) (next (λ x. bind_alike (λ g. form (operators p l d (binary f t g))) (λ g. form (operators p l d (binary (unplaced_form f) (erased_token t) g))) (from_alike (11 - p) (suc p) (l + 1) d x.form) (λ g. operators_with p l d (binary f t g) (binary_made t.place (text_of t.what) f g))))

pub operators_alike : (p l d : ℕ) (f : Form) (s : Sort) (t : Token) → AlikeRules unplaced_form (operators_rule p l d f s t) (operators_rule p l d (unplaced_form f) s (erased_token t))
operators_alike p l d f s t = of_alike (nat_eq (precedence_of s) p && nat_lt p 12) p l d f t

pub choice_alike : (l d : ℕ) (f : Form) (s : Sort) (t : Token) → AlikeRules unplaced_form (choice_rule l d f s t) (choice_rule l d (unplaced_form f) s (erased_token t))
choice_alike l d f Sort.Question t = rules (sink_same l f) (next (λ a. token (λ c. next (λ b. same (choice_made t.place f a b)))))
choice_alike l d f _ t = no_rule

behind_alike : (l d : ℕ) (x : Operand) → AlikeBy unplaced_form (behind_operand l d x) (behind_operand l d (erased_operand x))
behind_alike l d x = bind_alike (λ f. form (choice l d f)) (λ f. form (choice l d f)) (from_alike 10 2 l d x.form) (λ f. whole (choice l d f))

pub expression_alike : (l d : ℕ) (s : Sort) (t : Token) → AlikeRules unplaced_form (expression_rule l d s t) (expression_rule l d s (erased_token t))
expression_alike l d s t = and_alike (λ x. behind_operand l d x) (λ x. behind_operand l d x) (operand_alike true l d s t) (λ x. behind_alike l d x)

-- ---- behind a `(`

cast_alike : (l d : ℕ) (first : Place) (s : Sort) (t : Token) → AlikeRules erased_operand (cast_rule l d first s t) (cast_rule l d nowhere s (erased_token t))
cast_alike l d first s t = where_alike (is_level_free (l + 1)) (and_alike _ _ (base_alike s t) (λ b. next (λ k. token (λ c. next (λ x. same (ap (operand_of false) (cast_made first b.base k x.form)))))))

pub opened_alike : (l d : ℕ) (first : Place) (s : Sort) (t : Token) → AlikeRules erased_operand (opened_rule l d first s t) (opened_rule l d nowhere s (erased_token t))
opened_alike l d first s t = or_alike (cast_alike l d first s t) (and_alike (λ f. in_parentheses l d first f) (λ f. in_parentheses l d nowhere f) (expression_alike l (d + 1) s t) (λ f. token (λ c. whole (postfix l d first f false))))

-- ---- arguments

kept_alike : (l d : ℕ) (t : Token) (o : Option Form) → AlikeBy unplaced_form (kept l d t o) (kept l d (erased_token t) (option_map unplaced_form o))
kept_alike l d t (Some f) = same refl
kept_alike l d t None = subst (λ (g : Form). AlikeBy unplaced_form (kept l d t None) (form (postfix l d nowhere g false) >>= λ x. behind_operand l d x)) (name_made t) (next (λ x. behind_alike l d x))

word_alike : (b : Bool) (l d : ℕ) (t : Token) → AlikeBy unplaced_form (word_argument b l d t) (word_argument b l d (erased_token t))
word_alike true l d t = next (λ o. kept_alike l d t o)
word_alike false l d t = kept_alike l d t None

type_alike : (s : Sort) (t : Token) → AlikeRules unplaced_form (type_argument s t) (type_argument s (erased_token t))
type_alike s t = and_alike _ _ (base_alike s t) (λ b. next (λ k. same (base_made t.place b.base k)))

pub argument_alike : (l d : ℕ) (s : Sort) (t : Token) → AlikeRules unplaced_form (argument_rule l d s t) (argument_rule l d s (erased_token t))
argument_alike l d Sort.Text t = rules refl (same (text_made t))
argument_alike l d Sort.Name t = rules refl (word_alike (is_level (text_of t.what)) l d t)
argument_alike l d s t = or_alike (type_alike s t) (expression_alike l d s t)

pub text_after_alike : (s : Sort) (t : Token) → AlikeRules unplaced_form (text_after_rule s t) (text_after_rule s (erased_token t))
text_after_alike Sort.Text t = rules refl (same (text_made t))
text_after_alike Sort.Name t = rules refl (whole text_after)
text_after_alike _ t = no_rule

pub text_behind_alike : (s : Sort) (t : Token) → AlikeRules (option_map unplaced_form) (text_behind_rule s t) (text_behind_rule s (erased_token t))
text_behind_alike s t = and_alike _ _ (text_after_alike s t) (λ f. same refl)

pub arguments_alike : (l d : ℕ) (s : Sort) (t : Token) → AlikeRules (map unplaced_form) (arguments_rule l d s t) (arguments_rule l d s (erased_token t))
arguments_alike l d s t = and_alike _ _ (argument_alike l d s t) (λ f. whole (commas (arguments_at l d) (f ∷ [])))
