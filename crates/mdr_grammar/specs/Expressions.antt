-- believed
-- Expressions (C99 6.5). A rule says what a form's first token is and what follows it. `l + 1` is the level of a node's parts.
use Rattle.std.specs.Prelude.{ℕ, zero, suc, ◌+◌, max, Bool, true, false, ◌&&◌, nat_le, nat_lt, nat_eq, ◌-◌, List, [], ◌∷◌, Option, Some, None}
use Rattle.mdr_core.specs.declared.place.Place.{Place}
use Rattle.mdr_core.specs.declared.kind.Kind.{Kind}
use Rattle.mdr_core.specs.declared.kind.Kind.TheVariants.{U8, U16, U32, U64, S8, S16, S32, S64}
use Rattle.mdr_syntax.specs.declared.token.Lexeme.{Lexeme}
use Rattle.mdr_syntax.specs.declared.token.Lexeme.TheVariants as lexeme
use Rattle.mdr_syntax.specs.declared.token.Token.{Token}
use Rattle.mdr_syntax.specs.declared.tree.Base.{Base}
use Rattle.mdr_syntax.specs.declared.tree.Base.TheVariants as base_type
use Rattle.mdr_syntax.specs.declared.tree.Form.{Form}
use Rattle.mdr_syntax.specs.declared.tree.FormWhat
use Rattle.mdr_syntax.specs.declared.tree.FormWhat.{FormWhat}
use Rattle.mdr_syntax.specs.declared.tree.FormWhat.TheOpen.{Form-F, FormWhat-F}
use Rattle.mdr_syntax.specs.declared.tree.FormWhat.TheFolds.{fold-Form}
use Rattle.mdr_grammar.specs.Sorts.{Sort, is_level}
use Rattle.mdr_grammar.specs.Forms.{Operand, Specifier, Right, ◌>>=◌, take, form, one, Rule, always, and_then, where_allowed, or_else}
use Rattle.mdr_grammar.specs.Forms.Part.{expression, operand}
use Rattle.mdr_grammar.specs.Forms.Nonterminal.{commas, postfix, operators, choice, opened, arguments, stars, text_behind, text_after, unsigned_word}
use Rattle.mdr_grammar.specs.Forms.Separated.{arguments_at}
use Rattle.mdr_grammar.specs.Forms.Right.{gives, then}
use Rattle.mdr_grammar.specs.Forms.Rule.{never, given}

-- ---- the bounds

-- a form or statement may stand at a level, and a token inside so many parentheses
abbrev pub is_level_free : ℕ → Bool
is_level_free l = nat_le l 256

abbrev pub may_open : ℕ → Bool
may_open d = nat_le d 512

-- so many braces of an initialiser may be open
abbrev pub may_nest : ℕ → Bool
may_nest n = nat_le n 256

-- how many levels a form has below its own
abbrev pub highest : List ℕ → ℕ
highest [] = 0
highest (h ∷ hs) = max (suc h) (highest hs)

abbrev pub height_at : FormWhat-F ℕ ℕ → ℕ
height_at (FormWhat-F.Number n kind) = 0
height_at FormWhat-F.Null = 0
height_at (FormWhat-F.Name name) = 0
height_at (FormWhat-F.Prefix op a) = suc a
height_at (FormWhat-F.Post op a) = suc a
height_at (FormWhat-F.Cast base n a) = suc a
height_at (FormWhat-F.Binary op a b) = suc (max a b)
height_at (FormWhat-F.Choice c a b) = suc (max c (max a b))
height_at (FormWhat-F.Subscript a i) = suc (max a i)
height_at (FormWhat-F.Member a is_arrow place name) = suc a
height_at (FormWhat-F.Call f args) = max (suc f) (highest args)
height_at (FormWhat-F.Text bytes) = 0
height_at (FormWhat-F.Base base n) = 0

abbrev pub form_height : Form-F ℕ ℕ → ℕ
form_height f = f.what

unfoldable pub height : Form → ℕ
height = fold-Form ℕ ℕ height_at form_height

-- a form that was read at a level may stand one level below it: it becomes the first part of a larger form
abbrev pub may_sink : ℕ → Form → Bool
may_sink l f = is_level_free (l + suc (height f))

-- ---- the trees

abbrev pub text_of : Lexeme → List ℕ
text_of (lexeme.Word text) = text
text_of (lexeme.Number n kind) = []
text_of (lexeme.Text bytes) = bytes
text_of (lexeme.Punct text) = text
text_of (lexeme.Define name negative n kind) = name
text_of lexeme.End = []

abbrev pub number_in : Lexeme → ℕ
number_in (lexeme.Number n kind) = n
number_in (lexeme.Define name negative n kind) = n
number_in _ = 0

abbrev pub kind_in : Lexeme → Kind
kind_in (lexeme.Number n kind) = kind
kind_in (lexeme.Define name negative n kind) = kind
kind_in _ = S32

abbrev pub form_at : Place → FormWhat → Form
form_at place what = record { place = place; what = what }

abbrev pub number_form : Token → Form
number_form t = form_at t.place (FormWhat.Number (number_in t.what) (kind_in t.what))

abbrev pub name_form : Token → Form
name_form t = form_at t.place (FormWhat.Name (text_of t.what))

abbrev pub text_form : Token → Form
text_form t = form_at t.place (FormWhat.Text (text_of t.what))

abbrev pub alone : Form → Right Operand
alone f = gives (record { form = f; alone = true })

abbrev pub only_part : Form → Right Operand
only_part f = gives (record { form = f; alone = false })

abbrev pub form_of : Operand → Right Form
form_of x = gives (x.form)

-- ---- types

abbrev pub specifier : Base → Token → Right Specifier
specifier b t = gives (record { base = b; place = t.place })

abbrev pub integer : Kind → Token → Right Specifier
integer k t = specifier (base_type.Int k) t

abbrev pub struct_of : Token → Base
struct_of n = base_type.Struct n.place (text_of n.what)

-- `unsigned` is also a type by itself
abbrev pub unsigned_word_rule : Sort → Token → Rule Base
unsigned_word_rule Sort.Char t = always (gives (base_type.Int U8))
unsigned_word_rule Sort.Short t = always (gives (base_type.Int U16))
unsigned_word_rule Sort.Int t = always (gives (base_type.Int U32))
unsigned_word_rule Sort.Long t = always (gives (base_type.Int U64))
unsigned_word_rule _ t = never

abbrev pub base_rule : Sort → Token → Rule Specifier
base_rule (Sort.Integer k) t = always (integer k t)
base_rule Sort.Char t = always (integer S8 t)
base_rule Sort.Short t = always (integer S16 t)
base_rule Sort.Int t = always (integer S32 t)
base_rule Sort.Long t = always (integer S64 t)
base_rule Sort.Signed t = always (take Sort.Char >>= λ c. integer S8 t)
base_rule Sort.Unsigned t = always (form unsigned_word >>= λ b. specifier b t)
base_rule Sort.Void t = always (specifier base_type.Void t)
base_rule Sort.Lock t = always (specifier base_type.Lock t)
base_rule Sort.Struct t = always (take Sort.Name >>= λ n. specifier (struct_of n) t)
base_rule _ t = never

-- the number of stars fits the tree
abbrev pub stars_rule : ℕ → Sort → Token → Rule ℕ
stars_rule k Sort.Star t = given (nat_le (k + 1) 4294967295) (form (stars (k + 1)))
stars_rule k _ t = never

-- ---- operands

-- how tightly an operator binds: `?:`, `||` to `* / %`, postfix forms
abbrev pub precedence_of : Sort → ℕ
precedence_of Sort.Question = 1
precedence_of Sort.OrElse = 2
precedence_of Sort.AndThen = 3
precedence_of Sort.Or = 4
precedence_of Sort.Xor = 5
precedence_of Sort.And = 6
precedence_of Sort.Equality = 7
precedence_of Sort.Relation = 8
precedence_of Sort.Shift = 9
precedence_of Sort.Plus = 10
precedence_of Sort.Minus = 10
precedence_of Sort.Star = 11
precedence_of Sort.Slash = 11
precedence_of Sort.OpenBracket = 12
precedence_of Sort.Dot = 12
precedence_of Sort.Arrow = 12
precedence_of Sort.Open = 12
precedence_of Sort.Step = 12
precedence_of _ = 0

abbrev pub prefix : ℕ → ℕ → Token → Rule Operand
prefix l d t = given (is_level_free (l + 1)) do
  x ← one (operand true (l + 1) d)
  only_part (form_at t.place (FormWhat.Prefix (text_of t.what) x.form))

-- `++` and `--` stand before prefix and postfix forms alone
abbrev pub step_before : ℕ → ℕ → Token → Rule Operand
step_before l d t = given (is_level_free (l + 1)) do
  x ← one (operand false (l + 1) d)
  alone (form_at t.place (FormWhat.Prefix (text_of t.what) x.form))

-- a service is called where it is named
abbrev pub service : ℕ → ℕ → Token → Rule Operand
service l d t = given (is_level_free (l + 1) && may_open (d + 1)) do
  bracket ← take Sort.Open
  args ← form (arguments (l + 1) (d + 1))
  close ← take Sort.Close
  form (postfix l d t.place (form_at t.place (FormWhat.Call (name_form t) args)) true)

abbrev pub in_parentheses : ℕ → ℕ → Place → Form → Right Operand
in_parentheses l d first f = do
  close ← take Sort.Close
  form (postfix l d first f false)

-- a `(` begins a cast, where one may stand, or an expression
abbrev pub parentheses : Bool → ℕ → ℕ → Token → Rule Operand
parentheses true l d t = given (may_open (d + 1)) (form (opened l d t.place))
parentheses false l d t = given (may_open (d + 1)) (one (expression l (d + 1)) >>= λ f. in_parentheses l d t.place f)

abbrev pub operand_rule : Bool → ℕ → ℕ → Sort → Token → Rule Operand
operand_rule casts l d Sort.Name t = always (form (postfix l d t.place (name_form t) false))
operand_rule casts l d Sort.Number t = always (form (postfix l d t.place (number_form t) false))
operand_rule casts l d Sort.Null t = always (form (postfix l d t.place (form_at t.place FormWhat.Null) false))
operand_rule casts l d Sort.Service t = service l d t
operand_rule casts l d Sort.Open t = parentheses casts l d t
operand_rule casts l d Sort.Minus t = prefix l d t
operand_rule casts l d Sort.Plus t = prefix l d t
operand_rule casts l d Sort.And t = prefix l d t
operand_rule casts l d Sort.Star t = prefix l d t
operand_rule casts l d Sort.Not t = prefix l d t
operand_rule casts l d Sort.Step t = step_before l d t
operand_rule casts l d _ t = never

-- what may follow a postfix form
abbrev pub member : ℕ → ℕ → Place → Form → Bool → Rule Operand
member l d first f is_arrow = given (may_sink l f) do
  n ← take Sort.Name
  form (postfix l d first (form_at first (FormWhat.Member f is_arrow n.place (text_of n.what))) false)

abbrev pub postfix_rule : ℕ → ℕ → Place → Form → Sort → Token → Rule Operand
postfix_rule l d first f Sort.OpenBracket t = given (may_sink l f) do
  i ← one (expression (l + 1) d)
  close ← take Sort.CloseBracket
  form (postfix l d first (form_at first (FormWhat.Subscript f i)) false)
postfix_rule l d first f Sort.Dot t = member l d first f false
postfix_rule l d first f Sort.Arrow t = member l d first f true
postfix_rule l d first f Sort.Open t = given (may_sink l f && may_open (d + 1)) do
  args ← form (arguments (l + 1) (d + 1))
  close ← take Sort.Close
  form (postfix l d first (form_at first (FormWhat.Call f args)) true)
postfix_rule l d first f Sort.Step t = given (may_sink l f) (form (postfix l d first (form_at first (FormWhat.Post (text_of t.what) f)) true))
postfix_rule l d first f _ t = never

-- ---- operators

-- the operators of so many precedences from one on, the tightest first
abbrev pub operators_from : ℕ → ℕ → ℕ → ℕ → Form → Right Form
operators_from zero low l d f = gives f
operators_from (suc more) low l d f = then (operators (low + more) l d f) (λ g. operators_from more low l d g)

-- the right operand: what binds more tightly than the operator
abbrev pub tighter : ℕ → ℕ → ℕ → Right Form
tighter precedence l d = one (operand true l d) >>= λ x. operators_from (11 - precedence) (suc precedence) l d x.form

abbrev pub binary : Form → Token → Form → Form
binary f t g = form_at t.place (FormWhat.Binary (text_of t.what) f g)

abbrev pub of_precedence : Bool → ℕ → ℕ → ℕ → Form → Token → Rule Form
of_precedence false precedence l d f t = never
of_precedence true precedence l d f t = given (may_sink l f) do
  g ← tighter precedence (l + 1) d
  form (operators precedence l d (binary f t g))

abbrev pub operators_rule : ℕ → ℕ → ℕ → Form → Sort → Token → Rule Form
operators_rule precedence l d f s t = of_precedence (nat_eq (precedence_of s) precedence && nat_lt precedence 12) precedence l d f t

-- `?:` goes to the right
abbrev pub choice_rule : ℕ → ℕ → Form → Sort → Token → Rule Form
choice_rule l d f Sort.Question t = given (may_sink l f) do
  a ← one (expression (l + 1) d)
  colon ← take Sort.Colon
  b ← one (expression (l + 1) d)
  gives (form_at t.place (FormWhat.Choice f a b))
choice_rule l d f _ t = never

abbrev pub behind_operand : ℕ → ℕ → Operand → Right Form
behind_operand l d x = operators_from 10 2 l d x.form >>= λ f. form (choice l d f)

abbrev pub expression_rule : ℕ → ℕ → Sort → Token → Rule Form
expression_rule l d s t = and_then (operand_rule true l d s t) (λ x. behind_operand l d x)

-- ---- behind a `(`

abbrev pub cast_rule : ℕ → ℕ → Place → Sort → Token → Rule Operand
cast_rule l d first s t = where_allowed (is_level_free (l + 1)) (and_then (base_rule s t) (λ b. do
  k ← form (stars 0)
  close ← take Sort.Close
  x ← one (operand true (l + 1) d)
  only_part (form_at first (FormWhat.Cast b.base k x.form))))

abbrev pub opened_rule : ℕ → ℕ → Place → Sort → Token → Rule Operand
opened_rule l d first s t = or_else (cast_rule l d first s t) (and_then (expression_rule l (d + 1) s t) (λ f. in_parentheses l d first f))

-- ---- arguments

-- a `KERN_` word before a text is dropped
abbrev pub kept : ℕ → ℕ → Token → Option Form → Right Form
kept l d t (Some f) = gives f
kept l d t None = form (postfix l d t.place (name_form t) false) >>= λ x. behind_operand l d x

abbrev pub word_argument : Bool → ℕ → ℕ → Token → Right Form
word_argument true l d t = form text_behind >>= λ o. kept l d t o
word_argument false l d t = kept l d t None

abbrev pub type_argument : Sort → Token → Rule Form
type_argument s t = and_then (base_rule s t) (λ b. do
  k ← form (stars 0)
  gives (form_at t.place (FormWhat.Base b.base k)))

abbrev pub argument_rule : ℕ → ℕ → Sort → Token → Rule Form
argument_rule l d Sort.Text t = always (gives (text_form t))
argument_rule l d Sort.Name t = always (word_argument (is_level (text_of t.what)) l d t)
argument_rule l d s t = or_else (type_argument s t) (expression_rule l d s t)

abbrev pub text_after_rule : Sort → Token → Rule Form
text_after_rule Sort.Text t = always (gives (text_form t))
text_after_rule Sort.Name t = given (is_level (text_of t.what)) (form text_after)
text_after_rule _ t = never

abbrev pub text_behind_rule : Sort → Token → Rule (Option Form)
text_behind_rule s t = and_then (text_after_rule s t) (λ f. gives (Some f))

abbrev pub arguments_rule : ℕ → ℕ → Sort → Token → Rule (List Form)
arguments_rule l d s t = and_then (argument_rule l d s t) (λ f. form (commas (arguments_at l d) (f ∷ [])))
