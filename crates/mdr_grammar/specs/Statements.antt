-- believed
-- Statements (C99 6.8), functions and sources (6.9).
use Rattle.std.specs.Prelude.{ℕ, ◌+◌, Bool, true, false, nat_le, List, [], ◌∷◌, Option, Some, None}
use Rattle.std.specs.List.{list_all, flat_map}
use Rattle.std.specs.Option.{is_some}
use Rattle.mdr_core.specs.declared.place.Place.{Place}
use Rattle.mdr_syntax.specs.declared.token.Lexeme.{Lexeme}
use Rattle.mdr_syntax.specs.declared.token.Lexeme.TheVariants as lexeme
use Rattle.mdr_syntax.specs.declared.token.Token.{Token}
use Rattle.mdr_syntax.specs.declared.tree.AnnText.{AnnText}
use Rattle.mdr_syntax.specs.declared.tree.Clause.{Clause}
use Rattle.mdr_syntax.specs.declared.tree.Const.{Const}
use Rattle.mdr_syntax.specs.declared.tree.Decl.{Decl}
use Rattle.mdr_syntax.specs.declared.tree.Decl.TheViews.{roll-Decl, out-Decl}
use Rattle.mdr_syntax.specs.declared.tree.Form.{Form}
use Rattle.mdr_syntax.specs.declared.tree.Head.{Head}
use Rattle.mdr_syntax.specs.declared.tree.Item.{Item}
use Rattle.mdr_syntax.specs.declared.tree.ItemWhat.{ItemWhat}
use Rattle.mdr_syntax.specs.declared.tree.ItemWhat.TheVariants as item_is
use Rattle.mdr_syntax.specs.declared.tree.Label.{Label}
use Rattle.mdr_syntax.specs.declared.tree.Node.{Node}
use Rattle.mdr_syntax.specs.declared.tree.NodeWhat
use Rattle.mdr_syntax.specs.declared.tree.NodeWhat.{NodeWhat}
use Rattle.mdr_syntax.specs.declared.tree.NodeWhat.TheViews.{roll-Clause}
use Rattle.mdr_syntax.specs.declared.tree.Tree.{Tree}
use Rattle.mdr_grammar.specs.Sorts.{Sort}
use Rattle.mdr_grammar.specs.Forms.{Ended, Specifier, Part, Right, ◌>>=◌, take, form, one, Rule, always, and_then, where_allowed, or_else}
use Rattle.mdr_grammar.specs.Forms.Nonterminal.{option, many, commas, commas_open, assignment, otherwise, parameters, qualified, outer, remote, critical, function, function_end, fields}
use Rattle.mdr_grammar.specs.Forms.Repeated.{block_items, statements, clauses, labels, field_groups, items}
use Rattle.mdr_grammar.specs.Forms.Separated.{locals, globals}
use Rattle.mdr_grammar.specs.Forms.Enclosed.{enumerators}
use Rattle.mdr_grammar.specs.Forms.Right.{gives}
use Rattle.mdr_grammar.specs.Forms.Rule.{never, given}
use Rattle.mdr_grammar.specs.Expressions.{is_level_free, text_of, number_in, kind_in, text_form, base_rule, struct_of, operand_rule, expression_rule}
use Rattle.mdr_grammar.specs.Declarations.{specifiers_rule, declarator_rule, with_annotation}

abbrev pub joined : {A : Type 0} → List (List A) → List A
joined xss = flat_map (λ xs. xs) xss

abbrev pub node_at : Place → NodeWhat → Node
node_at place what = record { place = place; what = what }

abbrev pub closed : Node → Right Ended
closed n = gives (record { node = n; closed = true })

-- ---- simple statements

abbrev pub assigned : Place → ℕ → ℕ → Form → Token → Rule Node
assigned first l d f t = always (one (Part.expression (l + 1) d) >>= λ g. gives (node_at first (NodeWhat.Assign t.place (text_of t.what) f g)))

abbrev pub assignment_rule : Place → ℕ → ℕ → Form → Sort → Token → Rule Node
assignment_rule first l d f Sort.Equals t = assigned first l d f t
assignment_rule first l d f Sort.Compound t = assigned first l d f t
assignment_rule first l d f _ t = never

abbrev pub simple_in : Place → ℕ → ℕ → Right Node
simple_in first l d = one (Part.operand false (l + 1) d) >>= λ x. form (assignment first l d x.form x.alone)

abbrev pub simple_rule : ℕ → ℕ → Sort → Token → Rule Node
simple_rule l d s t = and_then (operand_rule false (l + 1) d s t) (λ x. form (assignment t.place l d x.form x.alone))

-- ---- locals

abbrev pub right_side_rule : ℕ → ℕ → Sort → Token → Rule Form
right_side_rule l d Sort.Text t = always (gives (text_form t))
right_side_rule l d s t = expression_rule l d s t

abbrev pub right_rule : ℕ → ℕ → Sort → Token → Rule Form
right_rule l d Sort.Equals t = always (one (Part.right_side l d))
right_rule l d _ t = never

abbrev pub right_there : ℕ → ℕ → Right (Option Form)
right_there l d = one (Part.right_side l d) >>= λ r. gives (Some r)

abbrev pub local_of : Place → ℕ → ℕ → Decl → Right Node
local_of first l d x = form (option (is_level_free (l + 1)) (Part.right (l + 1) d)) >>= λ r. gives (node_at first (NodeWhat.Local x r))

abbrev pub local_in : Place → Specifier → ℕ → ℕ → Right Node
local_in first b l d = one (Part.declarator d b 0) >>= λ x. local_of first l d x

abbrev pub local_rule : Place → Specifier → ℕ → ℕ → Sort → Token → Rule Node
local_rule first b l d s t = and_then (declarator_rule d b 0 s t) (λ x. local_of first l d x)

abbrev pub locals_of : Place → Specifier → ℕ → ℕ → Right (List Node)
locals_of first b l d = one (Part.local first b l d) >>= λ x. form (commas (locals first b l d) (x ∷ []))

abbrev pub locals_in : Place → ℕ → ℕ → Right (List Node)
locals_in first l d = one Part.specifiers >>= λ b. locals_of first b l d

abbrev pub locals_rule : ℕ → ℕ → Sort → Token → Rule (List Node)
locals_rule l d s t = and_then (specifiers_rule s t) (λ b. locals_of t.place b l d)

-- ---- statements

-- `( expr )`
abbrev pub condition : ℕ → Right Form
condition l = do
  bracket ← take Sort.Open
  c ← one (Part.expression (l + 1) 1)
  close ← take Sort.Close
  gives c

abbrev pub other_closed : Option Ended → Bool
other_closed (Some b) = b.closed
other_closed None = false

abbrev pub other_node : Option Ended → Option Node
other_node (Some b) = Some b.node
other_node None = None

abbrev pub opened_by : Option (List Node) → List Node
opened_by (Some nodes) = nodes
opened_by None = []

abbrev pub loop_head : ℕ → Right (List Node × Option Form × Option Node)
loop_head l = do
  bracket ← take Sort.Open
  i ← form (option true (Part.opening (l + 1) 1))
  end ← take Sort.Semicolon
  c ← form (option true (Part.expression (l + 1) 1))
  end' ← take Sort.Semicolon
  n ← form (option (is_level_free ((l + 1) + 1)) (Part.simple (l + 1) 1))
  close ← take Sort.Close
  gives (opened_by i, c, n)

-- a statement of one word
abbrev pub leaving_by : Place → NodeWhat → Right Ended
leaving_by place what = take Sort.Semicolon >>= λ e. closed (node_at place what)

-- statements with their parts
abbrev pub if_at : Place → Form → Ended → Option Ended → Ended
if_at place c a b = record { node = node_at place (NodeWhat.If c a.node (other_node b)); closed = other_closed b }

abbrev pub while_at : Place → Form → Ended → Ended
while_at place c a = record { node = node_at place (NodeWhat.While c a.node); closed = a.closed }

abbrev pub do_at : Place → Ended → Form → Ended
do_at place a c = record { node = node_at place (NodeWhat.Do a.node c); closed = true }

abbrev pub for_at : Place → List Node → Option Form → Option Node → Ended → Ended
for_at place i c n a = record { node = node_at place (NodeWhat.For i c n a.node); closed = a.closed }

-- the statements whose parts are a level deeper
abbrev pub deeper_keyword_rule : ℕ → Sort → Token → Rule Ended
deeper_keyword_rule l Sort.If t = given (is_level_free (l + 1)) do
  c ← condition l
  a ← one (Part.body (l + 1))
  b ← form (otherwise (l + 1) a.closed)
  gives (if_at t.place c a b)
deeper_keyword_rule l Sort.While t = given (is_level_free (l + 1)) do
  c ← condition l
  a ← one (Part.body (l + 1))
  gives (while_at t.place c a)
deeper_keyword_rule l Sort.For t = given (is_level_free (l + 1)) do
  h ← loop_head l
  a ← one (Part.body (l + 1))
  gives (for_at t.place h.0 h.1 h.2 a)
deeper_keyword_rule l Sort.Do t = given (is_level_free (l + 1)) do
  a ← one (Part.body (l + 1))
  word ← take Sort.While
  c ← condition l
  end ← take Sort.Semicolon
  gives (do_at t.place a c)
deeper_keyword_rule l Sort.Switch t = given (is_level_free (l + 1)) do
  c ← condition l
  bracket ← take Sort.OpenBrace
  cs ← form (many true (clauses (l + 1)) [])
  close ← take Sort.CloseBrace
  closed (node_at t.place (NodeWhat.Switch c cs))
deeper_keyword_rule l _ t = never

-- what stands in a block
abbrev pub items_in : ℕ → Right (List Node)
items_in l = form (many true (block_items l) []) >>= λ ns. gives (joined ns)

abbrev pub nested_in : ℕ → Right (List Node)
nested_in l = form (many (is_level_free (l + 1)) (block_items (l + 1)) []) >>= λ ns. gives (joined ns)

abbrev pub block_end : Place → List Node → Right Ended
block_end place ns = take Sort.CloseBrace >>= λ e. closed (node_at place (NodeWhat.Block ns))

abbrev pub keyword_rule : ℕ → Sort → Token → Rule Ended
keyword_rule l Sort.Semicolon t = always (closed (node_at t.place NodeWhat.Empty))
keyword_rule l Sort.OpenBrace t = always (nested_in l >>= λ ns. block_end t.place ns)
keyword_rule l Sort.Break t = always (leaving_by t.place NodeWhat.Break)
keyword_rule l Sort.Continue t = always (leaving_by t.place NodeWhat.Continue)
keyword_rule l Sort.Return t = always do
  v ← form (option (is_level_free (l + 1)) (Part.expression (l + 1) 0))
  end ← take Sort.Semicolon
  closed (node_at t.place (NodeWhat.Return v))
keyword_rule l s t = deeper_keyword_rule l s t

abbrev pub simple_end : Node → Right Ended
simple_end n = take Sort.Semicolon >>= λ e. closed n

abbrev pub simple_statement_in : ℕ → Right Ended
simple_statement_in l = one (Part.simple l 0) >>= λ n. simple_end n

abbrev pub simple_statement_rule : ℕ → Sort → Token → Rule Ended
simple_statement_rule l s t = where_allowed (is_level_free (l + 1)) (and_then (simple_rule l 0 s t) (λ n. simple_end n))

abbrev pub deeper_rule : ℕ → Sort → Token → Rule Ended
deeper_rule l s t = or_else (deeper_keyword_rule l s t) (simple_statement_rule l s t)

abbrev pub statement_rule : ℕ → Sort → Token → Rule Ended
statement_rule l s t = or_else (keyword_rule l s t) (simple_statement_rule l s t)

abbrev pub body_there : ℕ → Right (Option Ended)
body_there l = one (Part.body l) >>= λ b. gives (Some b)

-- an `else` stands behind a branch that it can't belong to
abbrev pub other_branch : Bool → ℕ → Rule (Option Ended)
other_branch true l = always (body_there l)
other_branch false l = never

abbrev pub otherwise_rule : ℕ → Bool → Sort → Token → Rule (Option Ended)
otherwise_rule l c Sort.Else t = other_branch c l
otherwise_rule l c _ t = never

-- a body that isn't a block is a block of one
abbrev pub in_block : Place → Ended → Ended
in_block place s = record { node = node_at place (NodeWhat.Block (s.node ∷ [])); closed = s.closed }

abbrev pub single_in : Place → ℕ → Right Ended
single_in place l = one (Part.statement (l + 1)) >>= λ s. gives (in_block place s)

abbrev pub single_rule : Place → ℕ → Sort → Token → Rule Ended
single_rule place l s t = where_allowed (is_level_free (l + 1)) (and_then (statement_rule (l + 1) s t) (λ s. gives (in_block place s)))

abbrev pub single_body : ℕ → Sort → Token → Rule Ended
single_body l s t = single_rule t.place l s t

abbrev pub body_rule : ℕ → Sort → Token → Rule Ended
body_rule l Sort.OpenBrace t = statement_rule l Sort.OpenBrace t
body_rule l s t = single_body l s t

abbrev pub plain_in : ℕ → Right Node
plain_in l = one (Part.statement l) >>= λ s. gives (s.node)

abbrev pub statement_in : ℕ → Right (List Node)
statement_in l = one (Part.statement l) >>= λ s. gives (s.node ∷ [])

abbrev pub semicolon_behind : List Node → Right (List Node)
semicolon_behind ns = take Sort.Semicolon >>= λ e. gives ns

abbrev pub plain_rule : ℕ → Sort → Token → Rule Node
plain_rule l s t = and_then (statement_rule l s t) (λ s. gives (s.node))

abbrev pub block_item_rule : ℕ → Sort → Token → Rule (List Node)
block_item_rule l s t = or_else
    (and_then (locals_rule l 0 s t) (λ ns. semicolon_behind ns))
    (and_then (statement_rule l s t) (λ s. gives (s.node ∷ [])))

abbrev pub opening_simple_in : ℕ → ℕ → Right (List Node)
opening_simple_in l d = one (Part.simple l d) >>= λ n. gives (n ∷ [])

abbrev pub opening_simple_rule : ℕ → ℕ → Sort → Token → Rule (List Node)
opening_simple_rule l d s t = where_allowed (is_level_free (l + 1)) (and_then (simple_rule l d s t) (λ n. gives (n ∷ [])))

abbrev pub opening_rule : ℕ → ℕ → Sort → Token → Rule (List Node)
opening_rule l d s t = or_else (locals_rule l d s t) (opening_simple_rule l d s t)

abbrev pub label_rule : Sort → Token → Rule Label
label_rule Sort.Case t = always do
  c ← one Part.constant
  colon ← take Sort.Colon
  gives (record { place = t.place; value = Some c })
label_rule Sort.Default t = always (take Sort.Colon >>= λ e. gives (record { place = t.place; value = None }))
label_rule _ t = never

abbrev pub clause_of : ℕ → Label → Right Clause
clause_of l x = do
  ls ← form (many true labels (x ∷ []))
  n ← one (Part.plain l)
  body ← form (many true (statements l) (n ∷ []))
  gives (roll-Clause (record { labels = ls; body = body }))

abbrev pub clause_in : ℕ → Right Clause
clause_in l = one Part.label >>= λ x. clause_of l x

abbrev pub clause_rule : ℕ → Sort → Token → Rule Clause
clause_rule l s t = and_then (label_rule s t) (λ x. clause_of l x)

-- ---- items

abbrev pub item_at : Place → ItemWhat → List Item
item_at place what = record { place = place; what = what } ∷ []

abbrev pub global_with : Place → Decl → Right Item
global_with first x = do
  a ← form (option true (Part.annotation 0))
  i ← form (option true Part.initial)
  gives (record { place = first; what = item_is.Global (with_annotation x a) i })

abbrev pub global_in : Place → Specifier → Right Item
global_in first b = one (Part.declarator 0 b 0) >>= λ x. global_with first x

abbrev pub global_rule : Place → Specifier → Sort → Token → Rule Item
global_rule first b s t = and_then (declarator_rule 0 b 0 s t) (λ x. global_with first x)

abbrev pub more_globals : Place → Specifier → Item → Right (List Item)
more_globals first b g = do
  gs ← form (commas (globals first b) (g ∷ []))
  end ← take Sort.Semicolon
  gives gs

abbrev pub globals_with : Place → Specifier → Decl → Right (List Item)
globals_with first b x = do
  a ← form (option true (Part.annotation 0))
  i ← form (option true Part.initial)
  more_globals first b (record { place = first; what = item_is.Global (with_annotation x a) i })

abbrev pub head_of : Specifier → ℕ → Token → List Decl → Option AnnText → Head
head_of b k n ps a = record { place = n.place; name = text_of n.what; base = b.base; stars = k; params = ps; ann = a }

-- `( params ) [ann]` behind a name
abbrev pub function_head : Bool → Specifier → ℕ → Token → Right Head
function_head named b k n = do
  ps ← form (parameters named 1)
  close ← take Sort.Close
  a ← form (option true (Part.annotation 0))
  gives (head_of b k n ps a)

abbrev pub function_body : Right (List Node)
function_body = do
  ns ← form (many true (block_items 0) [])
  close ← take Sort.CloseBrace
  gives (joined ns)

abbrev pub are_named : List Decl → Bool
are_named ps = list_all (λ p. is_some (out-Decl p).name) ps

abbrev pub function_with : Place → Head → Bool → Right (List Item)
function_with first h is_critical = function_body >>= λ ns. gives (item_at first (item_is.Func h is_critical ns))

-- a prototype's parameters may have no names
abbrev pub function_end_rule : Place → Head → Sort → Token → Rule (List Item)
function_end_rule first h Sort.Semicolon t = always (gives (item_at first (item_is.Proto h false)))
function_end_rule first h Sort.OpenBrace t = given (are_named h.params) (function_with first h false)
function_end_rule first h _ t = never

abbrev pub function_there : Place → Specifier → ℕ → Token → Right (Option (List Item))
function_there first b k n = do
  h ← function_head false b k n
  is ← form (function_end first h)
  gives (Some is)

abbrev pub function_rule : Place → Specifier → ℕ → Token → Sort → Token → Rule (Option (List Item))
function_rule first b k n Sort.Open t = always (function_there first b k n)
function_rule first b k n _ t = never

-- a global of the name, if no function came
abbrev pub named_global : Place → Specifier → ℕ → Token → Option (List Item) → Right (List Item)
named_global first b k n (Some is) = gives is
named_global first b k n None = do
  z ← form (option true Part.size)
  a ← form (option true (Part.annotation 0))
  i ← form (option true Part.initial)
  more_globals first b (record { place = first; what = item_is.Global (global_of z a) i })
  where
    global_of : Option Const → Option AnnText → Decl
    global_of z a = roll-Decl (record { place = n.place; name = Some (text_of n.what); base = b.base; stars = k; size = z; fun = None; ann = a })

abbrev pub other_globals : Place → Specifier → ℕ → Sort → Token → Rule (List Item)
other_globals first b k s t = and_then (declarator_rule 0 b k s t) (λ x. globals_with first b x)

abbrev pub outer_rule : Place → Specifier → ℕ → Sort → Token → Rule (List Item)
outer_rule first b k Sort.Star t = given (nat_le (k + 1) 4294967295) (form (outer first b (k + 1)))
outer_rule first b k Sort.Name t = always (form (function first b k t) >>= λ o. named_global first b k t o)
outer_rule first b k s t = other_globals first b k s t

abbrev pub remote_there : Place → Specifier → ℕ → Token → Right (List Item)
remote_there first b k n = do
  bracket ← take Sort.Open
  h ← function_head false b k n
  end ← take Sort.Semicolon
  gives (item_at first (item_is.Proto h true))

abbrev pub remote_rule : Place → Specifier → ℕ → Sort → Token → Rule (List Item)
remote_rule first b k Sort.Star t = given (nat_le (k + 1) 4294967295) (form (remote first b (k + 1)))
remote_rule first b k Sort.Name t = always (remote_there first b k t)
remote_rule first b k _ t = never

abbrev pub critical_there : Place → Specifier → ℕ → Token → Right (List Item)
critical_there first b k n = do
  bracket ← take Sort.Open
  h ← function_head true b k n
  brace ← take Sort.OpenBrace
  function_with first h true

abbrev pub critical_rule : Place → Specifier → ℕ → Sort → Token → Rule (List Item)
critical_rule first b k Sort.Star t = given (nat_le (k + 1) 4294967295) (form (critical first b (k + 1)))
critical_rule first b k Sort.Name t = always (critical_there first b k t)
critical_rule first b k _ t = never

abbrev pub typed_item : Place → Sort → Token → Rule (List Item)
typed_item first s t = and_then (base_rule s t) (λ b. form (outer first b 0))

abbrev pub qualified_rule : Place → Sort → Token → Rule (List Item)
qualified_rule first Sort.Qualifier t = always (form (qualified first))
qualified_rule first Sort.Remote t = always (one Part.base >>= λ b. form (remote first b 0))
qualified_rule first Sort.Critical t = always (one Part.base >>= λ b. form (critical first b 0))
qualified_rule first s t = typed_item first s t

abbrev pub fields_rule : Place → Token → Sort → Token → Rule (Option (List Item))
fields_rule first n Sort.OpenBrace t = always do
  groups ← form (many true field_groups [])
  close ← take Sort.CloseBrace
  end ← take Sort.Semicolon
  gives (Some (item_at first (item_is.Struct n.place (text_of n.what) (joined groups))))
fields_rule first n _ t = never

abbrev pub struct_or_outer : Token → Token → Option (List Item) → Right (List Item)
struct_or_outer t n (Some is) = gives is
struct_or_outer t n None = form (outer t.place (record { base = struct_of n; place = t.place }) 0)

abbrev pub is_negative : Lexeme → Bool
is_negative (lexeme.Define name negative n kind) = negative
is_negative _ = false

abbrev pub item_rule : Sort → Token → Rule (List Item)
item_rule Sort.Define t = always (gives (item_at t.place (item_is.Define (text_of t.what) (is_negative t.what) (number_in t.what) (kind_in t.what))))
item_rule Sort.Enum t = always do
  bracket ← take Sort.OpenBrace
  e ← one Part.enumerator
  es ← form (commas_open enumerators (e ∷ []))
  close ← take Sort.CloseBrace
  end ← take Sort.Semicolon
  gives (item_at t.place (item_is.Enum es))
item_rule Sort.Struct t = always do
  n ← take Sort.Name
  o ← form (fields t.place n)
  struct_or_outer t n o
item_rule s t = qualified_rule t.place s t

abbrev pub tree_of : List (List Item) → Tree
tree_of is = record { items = joined is }

abbrev pub source : Right Tree
source = do
  is ← form (many true items [])
  end ← take Sort.End
  gives (tree_of is)
