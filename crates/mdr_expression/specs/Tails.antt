-- protocol
-- What stands behind the first tokens of expressions.
use Rattle.std.specs.Prelude.{ℕ, suc, ◌+◌, ◌-◌, ◌<◌, ◌≤◌, ◌≡◌, Bool, true, false, not, List, [], ◌∷◌, ◌++◌, length, map, Option, Some, None, Result, Ok, Err}
use Rattle.mdr_core.specs.declared.place.Place.{Place}
use Rattle.mdr_syntax.specs.declared.token.Token.{Token}
use Rattle.mdr_syntax.specs.declared.tree.Form.{Form}
use Rattle.mdr_syntax.specs.declared.tree.FormWhat
use Rattle.mdr_grammar.specs.declared.sort.Sort.{Sort}
use Rattle.mdr_grammar.specs.Sorts.{sort_of, is_level}
use Rattle.mdr_grammar.specs.Forms.{Operand, Right, ◌>>=◌, take, form, one, Rule}
use Rattle.mdr_grammar.specs.Forms.Part.{expression, operand, argument, base}
use Rattle.mdr_grammar.specs.Forms.Nonterminal.{part, commas, postfix, opened, arguments, stars, text_after}
use Rattle.mdr_grammar.specs.Forms.Separated.{arguments_at}
use Rattle.mdr_grammar.specs.Forms.Right.{gives}
use Rattle.mdr_grammar.specs.Forms.Rule.{never, given}
use Rattle.mdr_grammar.specs.Expressions.{height, highest, is_level_free, may_open, text_of, form_at, name_form, text_form, word_argument, kept, alone, only_part, in_parentheses, operators_from, precedence_of, postfix_rule}
use Rattle.mdr_grammar.specs.Front.{Read, and_read, first as first_read, front}
use Rattle.mdr_expression.specs.declared.parts.Arguments.{Arguments}
use Rattle.mdr_expression.specs.declared.parts.Part.{Part}
use Rattle.mdr_reader.specs.declared.failure.Failure.{Failure}
use Rattle.mdr_reader.specs.Gives.{Fails}
use Rattle.mdr_expression.specs.declared.tails.Tail.{Tail}
use Rattle.mdr_expression.specs.declared.tails.Tail.TheVariants as tail

-- a measured part as an operand
abbrev pub operand_of : Part → Operand
operand_of p = record { form = p.form; alone = p.alone }

abbrev pub IsMeasured : Part → (l : ℕ) → Type 0
IsMeasured p l = (p.height ≡ height p.form) × (l + p.height ≤ 256)

-- whether a token begins something
abbrev pub begins : {A : Type 0} → Rule A → Bool
begins never = false
begins (given allowed r) = true

-- the operators that stand before an operand, but for `++` and `--`
abbrev pub is_before : Sort → Bool
is_before Sort.Minus = true
is_before Sort.Plus = true
is_before Sort.And = true
is_before Sort.Star = true
is_before Sort.Not = true
is_before _ = false

-- behind an operator that stands before its operand
abbrev pub operator_behind : (is_step : Bool) (l d : ℕ) → Token → Right Operand
operator_behind is_step l d t = do
  x ← one (operand (not is_step) (l + 1) d)
  gives (record { form = form_at t.place (FormWhat.Prefix (text_of t.what) x.form); alone = is_step })

-- arguments and the parenthesis behind them
abbrev pub closed_arguments : (l d : ℕ) → Right (List Form)
closed_arguments l d = do
  args ← form (arguments l d)
  close ← take Sort.Close
  gives args

-- at least one argument, and the parenthesis behind them
abbrev pub listed_arguments : (l d : ℕ) → Right (List Form)
listed_arguments l d = do
  f ← one (argument l d)
  args ← form (commas (arguments_at l d) (f ∷ []))
  close ← take Sort.Close
  gives args

-- a further argument behind a comma, or none
abbrev pub Further : {X : Type 0} → (halves : Bool) → (X → List Token) → Option X → List Token → Type 0
Further halves rest (Some x) ts = (l d : ℕ) (so_far : List Form) → first_read halves (commas (arguments_at l d) so_far) ts ≡ and_read (first_read halves (part (argument l d)) (rest x)) (λ f after. first_read halves (commas (arguments_at l d) (so_far ++ (f ∷ []))) after)
Further halves rest None ts = (l d : ℕ) (so_far : List Form) → first_read halves (commas (arguments_at l d) so_far) ts ≡ Ok (so_far, ts)

-- what is left of a text and the `KERN_` words before it
abbrev pub last_text : Right Form
last_text = take Sort.Text >>= λ t. gives (text_form t)

-- a further `KERN_` word, or none
abbrev pub Leveled : {X : Type 0} → (halves : Bool) → (X → List Token) → Option X → List Token → Type 0
Leveled halves rest (Some x) ts = first_read halves text_after ts ≡ first_read halves text_after (rest x)
Leveled halves rest None ts = first_read halves text_after ts ≡ front halves last_text ts

abbrev pub text_or_none : Bool → (halves : Bool) → List Token → Read (Option Form)
text_or_none true halves ts = and_read (first_read halves text_after ts) (λ f rest. Ok (Some f, rest))
text_or_none false halves ts = Ok (None, ts)

abbrev pub text_or_kept : Bool → (halves : Bool) → (l d : ℕ) → Token → List Token → Read Form
text_or_kept true halves l d t ts = first_read halves text_after ts
text_or_kept false halves l d t ts = front halves (kept l d t None) ts

-- a type as an argument, at its first token
abbrev pub type_form : Token → Right Form
type_form t = do
  b ← one base
  k ← form (stars 0)
  gives (form_at t.place (FormWhat.Base b.base k))

-- a word as an argument: a text, whose `KERN_` words are dropped, or a name
abbrev pub Worded : {X : Type 0} → (halves : Bool) → Token → (X → Form) → (X → List Token) → Result (Option X) Failure → List Token → Type 0
Worded halves t value rest (Ok (Some x)) ts = (l d : ℕ) → front halves (word_argument (is_level (text_of t.what)) l d t) ts ≡ Ok (value x, rest x)
Worded halves t value rest (Ok None) ts = (l d : ℕ) → front halves (word_argument (is_level (text_of t.what)) l d t) ts ≡ front halves (kept l d t None) ts
Worded halves t value rest (Err e) ts = (l d : ℕ) → Fails e (front halves (word_argument (is_level (text_of t.what)) l d t) ts)

abbrev pub service_behind : (l d : ℕ) → Token → Right Operand
service_behind l d t = do
  bracket ← take Sort.Open
  args ← form (arguments (l + 1) (d + 1))
  close ← take Sort.Close
  form (postfix l d t.place (form_at t.place (FormWhat.Call (name_form t) args)) true)

-- behind a `(` that begins no cast
abbrev pub grouped : (l d : ℕ) → Place → Right Operand
grouped l d first = one (expression l (d + 1)) >>= λ f. in_parentheses l d first f

-- behind a `(` that begins a cast
abbrev pub cast : (l d : ℕ) → Place → Right Operand
cast l d first = do
  b ← one base
  k ← form (stars 0)
  close ← take Sort.Close
  x ← one (operand true (l + 1) d)
  only_part (form_at first (FormWhat.Cast b.base k x.form))

-- behind a `(` in an operand
abbrev pub behind_parenthesis : (casts : Bool) (l d : ℕ) → Place → Right Operand
behind_parenthesis true l d first = form (opened l d first)
behind_parenthesis false l d first = grouped l d first

abbrev pub if_free : {A : Type 0} → Bool → Read A → ℕ → Read A
if_free true read left = read
if_free false read left = Err left

-- a cast, or a form in parentheses
abbrev pub cast_or_group : (is_cast halves : Bool) (l d : ℕ) → Place → List Token → Read Operand
cast_or_group true halves l d first ts = if_free (is_level_free (l + 1)) (front halves (cast l d first) ts) (length ts)
cast_or_group false halves l d first ts = front halves (grouped l d first) ts

-- behind a `[`, and behind the `(` of a call
abbrev pub subscripted : (l d : ℕ) → Place → Form → Right Operand
subscripted l d first f = do
  i ← one (expression (l + 1) d)
  close ← take Sort.CloseBracket
  only_part (form_at first (FormWhat.Subscript f i))

abbrev pub called : (l d : ℕ) → Place → Form → Right Operand
called l d first f = do
  args ← form (arguments (l + 1) (d + 1))
  close ← take Sort.Close
  alone (form_at first (FormWhat.Call f args))

-- what one postfix operator makes of a form, behind its first token
abbrev pub longer : (l d : ℕ) → Place → Form → Tail → Token → Right Operand
longer l d first f tail.Subscript t = subscripted l d first f
longer l d first f (tail.Member is_arrow) t = do
  n ← take Sort.Name
  only_part (form_at first (FormWhat.Member f is_arrow n.place (text_of n.what)))
longer l d first f tail.Call t = called l d first f
longer l d first f tail.Step t = alone (form_at first (FormWhat.Post (text_of t.what) f))

-- behind the `?` of a choice
abbrev pub branches : (l d : ℕ) → Form → Token → Right Form
branches l d f t = do
  a ← one (expression (l + 1) d)
  colon ← take Sort.Colon
  b ← one (expression (l + 1) d)
  gives (form_at t.place (FormWhat.Choice f a b))

abbrev pub tail_at : Sort → Option Tail
tail_at Sort.OpenBracket = Some tail.Subscript
tail_at Sort.Dot = Some (tail.Member false)
tail_at Sort.Arrow = Some (tail.Member true)
tail_at Sort.Open = Some tail.Call
tail_at Sort.Step = Some tail.Step
tail_at _ = None

-- a call opens a parenthesis
abbrev pub tail_fits : Tail → (d : ℕ) → Bool
tail_fits tail.Call d = may_open (d + 1)
tail_fits _ d = true

-- a form at a level with so many levels below it may go on with a postfix operator
abbrev pub GoesOn : (l d h : ℕ) → Tail → Token → Sort → Type 0
GoesOn l d h x t s = (first : Place) (f : Form) → h ≡ height f → postfix_rule l d first f s t ≡ given true (longer l d first f x t >>= λ p. form (postfix l d first p.form p.alone))

-- there is a postfix operator, or none
abbrev pub Tailed : {X : Type 0} → (halves : Bool) (l d h : ℕ) → (X → Tail) → (X → Token) → (X → List Token) → Option X → List Token → Type 0
Tailed halves l d h what token rest None ts = (first : Place) (f : Form) (is_alone : Bool) → h ≡ height f → first_read halves (postfix l d first f is_alone) ts ≡ Ok (record { form = f; alone = is_alone }, ts)
Tailed halves l d h what token rest (Some x) ts = (ts ≡ token x ∷ rest x) × GoesOn l d h (what x) (token x) (sort_of halves (token x).what)

-- there is an operator between the precedences, or none
abbrev pub Operated : {X : Type 0} → (halves : Bool) (above most : ℕ) → (X → ℕ) → (X → Token) → (X → List Token) → Option X → List Token → Type 0
Operated halves above most precedence token rest None ts = (l d : ℕ) (f : Form) → front halves (operators_from (most - above) (suc above) l d f) ts ≡ Ok (f, ts)
Operated halves above most precedence token rest (Some x) ts = (ts ≡ token x ∷ rest x) × (precedence x ≡ precedence_of (sort_of halves (token x).what)) × (above < precedence x) × (precedence x ≤ most)

-- measured arguments, whose level is one below that of their call
abbrev pub AreMeasured : Arguments → (l : ℕ) → Type 0
AreMeasured a l = (a.highest ≡ highest (map height a.forms)) × (l + a.highest ≤ 257)
