-- believed
-- What the forms of the grammar give, and the right sides of its productions.
use Rattle.std.specs.Prelude.{ℕ, Bool, true, ◌&&◌, List, Option}
use Rattle.mdr_core.specs.declared.place.Place.{Place}
use Rattle.mdr_syntax.specs.declared.token.Token.{Token}
use Rattle.mdr_syntax.specs.declared.tree.AnnText.{AnnText}
use Rattle.mdr_syntax.specs.declared.tree.Base.{Base}
use Rattle.mdr_syntax.specs.declared.tree.Clause.{Clause}
use Rattle.mdr_syntax.specs.declared.tree.Const.{Const}
use Rattle.mdr_syntax.specs.declared.tree.Decl.{Decl}
use Rattle.mdr_syntax.specs.declared.tree.Elem.{Elem}
use Rattle.mdr_syntax.specs.declared.tree.Enumerator.{Enumerator}
use Rattle.mdr_syntax.specs.declared.tree.Form.{Form}
use Rattle.mdr_syntax.specs.declared.tree.Head.{Head}
use Rattle.mdr_syntax.specs.declared.tree.Init.{Init}
use Rattle.mdr_syntax.specs.declared.tree.Item.{Item}
use Rattle.mdr_syntax.specs.declared.tree.Label.{Label}
use Rattle.mdr_syntax.specs.declared.tree.Node.{Node}
pub use Rattle.mdr_grammar.specs.declared.parts.Ended.{Ended}
pub use Rattle.mdr_grammar.specs.declared.parts.Specifier.{Specifier}
use Rattle.mdr_grammar.specs.Sorts.{Sort}

-- an operand, and whether it is a call, or a form with `++` or `--`, which may be a statement
pub record Operand : Type 0 where
  pub form : Form
  pub alone : Bool

-- The forms that stand alone, in lists or as options. `l` is the level of a form or statement, `d` how many parentheses are open, `braces` how many of an initialiser's.
pub data Part : Type 0 where
  operand : (casts : Bool) (l d : ℕ) → Part
  expression : (l d : ℕ) → Part
  argument : (l d : ℕ) → Part
  statement : (l : ℕ) → Part
  body : (l : ℕ) → Part
  -- a statement of a clause
  plain : (l : ℕ) → Part
  simple : (l d : ℕ) → Part
  block_item : (l : ℕ) → Part
  -- what a `for` begins with
  opening : (l d : ℕ) → Part
  local : (first : Place) (b : Specifier) (l d : ℕ) → Part
  right : (l d : ℕ) → Part
  right_side : (l d : ℕ) → Part
  label : Part
  clause : (l : ℕ) → Part
  base : Part
  specifiers : Part
  size : Part
  annotation : (d : ℕ) → Part
  constant : Part
  value : Part
  declarator : (d : ℕ) (b : Specifier) (stars : ℕ) → Part
  parameter : (named : Bool) (d : ℕ) → Part
  field : (b : Specifier) → Part
  field_group : Part
  enumerator : Part
  initial : Part
  initialiser : (braces : ℕ) → Part
  element : (braces : ℕ) → Part
  global : (first : Place) (b : Specifier) → Part
  item : Part

abbrev pub PartValue : Part → Type 0
PartValue (operand casts l d) = Operand
PartValue (expression l d) = Form
PartValue (argument l d) = Form
PartValue (statement l) = Ended
PartValue (body l) = Ended
PartValue (plain l) = Node
PartValue (simple l d) = Node
PartValue (block_item l) = List Node
PartValue (opening l d) = List Node
PartValue (local first b l d) = Node
PartValue (right l d) = Form
PartValue (right_side l d) = Form
PartValue label = Label
PartValue (clause l) = Clause
PartValue base = Specifier
PartValue specifiers = Specifier
PartValue size = Const
PartValue (annotation d) = AnnText
PartValue constant = Const
PartValue value = Const
PartValue (declarator d b stars) = Decl
PartValue (parameter named d) = Decl
PartValue (field b) = Decl
PartValue field_group = List Decl
PartValue enumerator = Enumerator
PartValue initial = Init
PartValue (initialiser n) = Init
PartValue (element n) = Elem
PartValue (global first b) = Item
PartValue item = List Item

-- the forms that stand one behind the other
pub data Repeated : Type 0 where
  block_items : (l : ℕ) → Repeated
  statements : (l : ℕ) → Repeated
  clauses : (l : ℕ) → Repeated
  labels : Repeated
  field_groups : Repeated
  items : Repeated

abbrev pub repeated : Repeated → Part
repeated (block_items l) = block_item l
repeated (statements l) = plain l
repeated (clauses l) = clause l
repeated labels = label
repeated field_groups = field_group
repeated items = item

-- the forms that stand with a comma between two
pub data Separated : Type 0 where
  arguments_at : (l d : ℕ) → Separated
  locals : (first : Place) (b : Specifier) (l d : ℕ) → Separated
  parameters_at : (named : Bool) (d : ℕ) → Separated
  fields_of : (b : Specifier) → Separated
  globals : (first : Place) (b : Specifier) → Separated

abbrev pub separated : Separated → Part
separated (arguments_at l d) = argument l d
separated (locals first b l d) = local first b l d
separated (parameters_at named d) = parameter named d
separated (fields_of b) = field b
separated (globals first b) = global first b

-- those that may have a comma behind the last one too
pub data Enclosed : Type 0 where
  enumerators : Enclosed
  elements : (braces : ℕ) → Enclosed

abbrev pub enclosed : Enclosed → Part
enclosed enumerators = enumerator
enclosed (elements n) = element n

pub data Nonterminal : Type 0 where
  part : Part → Nonterminal
  -- the form, where it is allowed, or nothing
  option : (allowed : Bool) → Part → Nonterminal
  -- the form any number of times, where it is allowed, behind those so far
  many : (allowed : Bool) (x : Repeated) (so_far : List (PartValue (repeated x))) → Nonterminal
  -- behind a first one, further ones with a comma before each
  commas : (x : Separated) (so_far : List (PartValue (separated x))) → Nonterminal
  -- the same with perhaps a comma at the end; and what comes behind a comma
  commas_open : (x : Enclosed) (so_far : List (PartValue (enclosed x))) → Nonterminal
  after_comma : (x : Enclosed) (so_far : List (PartValue (enclosed x))) → Nonterminal
  -- what may come behind a postfix form so far, which began at a place; behind operands of a precedence; behind a condition
  postfix : (l d : ℕ) (first : Place) (form : Form) (alone : Bool) → Nonterminal
  operators : (precedence l d : ℕ) (form : Form) → Nonterminal
  choice : (l d : ℕ) (form : Form) → Nonterminal
  -- behind `(` where a cast may stand
  opened : (l d : ℕ) (first : Place) → Nonterminal
  arguments : (l d : ℕ) → Nonterminal
  stars : ℕ → Nonterminal
  -- behind a `KERN_` word: more of them and a text, or nothing of that kind
  text_behind : Nonterminal
  text_after : Nonterminal
  -- behind `unsigned`
  unsigned_word : Nonterminal
  assignment : (first : Place) (l d : ℕ) (form : Form) (alone : Bool) → Nonterminal
  -- behind a branch
  otherwise : (l : ℕ) (closed : Bool) → Nonterminal
  parameters : (named : Bool) (d : ℕ) → Nonterminal
  after_void : (named : Bool) (d : ℕ) (place : Place) → Nonterminal
  parameter_name : (named : Bool) → Nonterminal
  parameter_declarator : (named : Bool) (d : ℕ) (b : Specifier) (stars : ℕ) → Nonterminal
  -- behind qualifiers; behind a base type; behind the name of a global or function; behind the `)` of a function's parameters
  qualified : (first : Place) → Nonterminal
  outer : (first : Place) (b : Specifier) (stars : ℕ) → Nonterminal
  remote : (first : Place) (b : Specifier) (stars : ℕ) → Nonterminal
  critical : (first : Place) (b : Specifier) (stars : ℕ) → Nonterminal
  function : (first : Place) (b : Specifier) (stars : ℕ) (name : Token) → Nonterminal
  function_end : (first : Place) (head : Head) → Nonterminal
  fields : (first : Place) (name : Token) → Nonterminal

abbrev pub Value : Nonterminal → Type 0
Value (part x) = PartValue x
Value (option allowed x) = Option (PartValue x)
Value (many allowed x so_far) = List (PartValue (repeated x))
Value (commas x so_far) = List (PartValue (separated x))
Value (commas_open x so_far) = List (PartValue (enclosed x))
Value (after_comma x so_far) = List (PartValue (enclosed x))
Value (postfix l d first form alone) = Operand
Value (operators precedence l d form) = Form
Value (choice l d form) = Form
Value (opened l d first) = Operand
Value (arguments l d) = List Form
Value (stars k) = ℕ
Value text_behind = Option Form
Value text_after = Form
Value unsigned_word = Base
Value (assignment first l d form alone) = Node
Value (otherwise l closed) = Option Ended
Value (parameters named d) = List Decl
Value (after_void named d place) = List Decl
Value (parameter_name named) = Option Token
Value (parameter_declarator named d b k) = Decl
Value (qualified first) = List Item
Value (outer first b k) = List Item
Value (remote first b k) = List Item
Value (critical first b k) = List Item
Value (function first b k name) = Option (List Item)
Value (function_end first head) = List Item
Value (fields first name) = Option (List Item)

-- The right side of a production, or what is left of it: tokens and nonterminals in turn, and what they give together.
pub data Right (A : Type 0) : Type 0 where
  gives : A → Right A
  takes : Sort → (Token → Right A) → Right A
  then : (n : Nonterminal) → (Value n → Right A) → Right A

infixl 10 ◌>>=◌
abbrev pub ◌>>=◌ : {A B : Type 0} → Right A → (A → Right B) → Right B
(gives x) >>= f = f x
(takes s g) >>= f = takes s (λ t. g t >>= f)
(then n g) >>= f = then n (λ v. g v >>= f)

abbrev pub take : Sort → Right Token
take s = takes s gives

abbrev pub form : (n : Nonterminal) → Right (Value n)
form n = then n gives

abbrev pub one : (x : Part) → Right (PartValue x)
one x = then (part x) gives

-- What a token begins: nothing, or a right side, if that is allowed.
pub data Rule (A : Type 0) : Type 0 where
  never : Rule A
  given : (allowed : Bool) → Right A → Rule A

abbrev pub always : {A : Type 0} → Right A → Rule A
always r = given true r

abbrev pub and_then : {A B : Type 0} → Rule A → (A → Right B) → Rule B
and_then never f = never
and_then (given allowed r) f = given allowed (r >>= f)

abbrev pub where_allowed : {A : Type 0} → Bool → Rule A → Rule A
where_allowed b never = never
where_allowed b (given allowed r) = given (b && allowed) r

abbrev pub or_else : {A : Type 0} → Rule A → Rule A → Rule A
or_else never r = r
or_else (given allowed x) r = given allowed x

-- What a nonterminal gives where it is empty, if it may be.
pub data Empty (A : Type 0) : Type 0 where
  cannot : Empty A
  may : (allowed : Bool) → A → Empty A
