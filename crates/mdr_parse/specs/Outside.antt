-- protocol
-- What stands behind the first tokens of items.
use Rattle.std.specs.Prelude.{ℕ, Bool, true, List, [], Option, Some, None}
use Rattle.mdr_core.specs.declared.place.Place.{Place}
use Rattle.mdr_syntax.specs.declared.token.Token.{Token}
use Rattle.mdr_syntax.specs.declared.tree.AnnText.{AnnText}
use Rattle.mdr_syntax.specs.declared.tree.Const.{Const}
use Rattle.mdr_syntax.specs.declared.tree.Decl.{Decl}
use Rattle.mdr_syntax.specs.declared.tree.Decl.TheViews.{roll-Decl}
use Rattle.mdr_syntax.specs.declared.tree.Head.{Head}
use Rattle.mdr_syntax.specs.declared.tree.Item.{Item}
use Rattle.mdr_syntax.specs.declared.tree.ItemWhat.TheVariants as item_is
use Rattle.mdr_syntax.specs.declared.tree.Node.{Node}
use Rattle.mdr_grammar.specs.declared.sort.Sort.{Sort}
use Rattle.mdr_grammar.specs.declared.parts.Specifier.{Specifier}
use Rattle.mdr_grammar.specs.Forms.{Part, Right, ◌>>=◌, take, form, one, Rule}
use Rattle.mdr_grammar.specs.Forms.Nonterminal.{option, many, function, fields, outer, remote, critical}
use Rattle.mdr_grammar.specs.Forms.Repeated.{field_groups, items}
use Rattle.mdr_grammar.specs.Forms.Right.{gives}
use Rattle.mdr_grammar.specs.Expressions.{text_of, struct_of}
use Rattle.mdr_grammar.specs.Statements.{joined, item_at, function_with, named_global, struct_or_outer, qualified_rule, typed_item}

-- ---- functions

-- behind what stands in a function's body
abbrev pub body_end : List Node → Right (List Node)
body_end ns = take Sort.CloseBrace >>= λ close. gives ns

abbrev pub function_item : Place → Head → (is_critical : Bool) → List Node → Right (List Item)
function_item first h is_critical ns = gives (item_at first (item_is.Func h is_critical ns))

-- behind the heads of a `__remote` prototype and of a `__critical` function
abbrev pub remote_end : Place → Head → Right (List Item)
remote_end first h = take Sort.Semicolon >>= λ end. gives (item_at first (item_is.Proto h true))

abbrev pub critical_end : Place → Head → Right (List Item)
critical_end first h = take Sort.OpenBrace >>= λ brace. function_with first h true

-- a global by its name, and what stands behind it
abbrev pub named_decl : Specifier → ℕ → Token → Option Const → Option AnnText → Decl
named_decl b k n size a = roll-Decl (record { place = n.place; name = Some (text_of n.what); base = b.base; stars = k; size = size; fun = None; ann = a })

abbrev pub global_named : Place → Specifier → ℕ → Token → Right Item
global_named first b k n = do
  z ← form (option true Part.size)
  a ← form (option true (Part.annotation 0))
  i ← form (option true Part.initial)
  gives (record { place = first; what = item_is.Global (named_decl b k n z a) i })

-- behind the name of a global or function
abbrev pub named_in : Place → Specifier → ℕ → Token → Right (List Item)
named_in first b k n = form (function first b k n) >>= λ o. named_global first b k n o

-- ---- prefixes

abbrev pub remote_typed : Place → Right (List Item)
remote_typed first = one Part.base >>= λ b. form (remote first b 0)

abbrev pub critical_typed : Place → Right (List Item)
critical_typed first = one Part.base >>= λ b. form (critical first b 0)

abbrev pub outer_typed : Place → Right (List Item)
outer_typed first = one Part.base >>= λ b. form (outer first b 0)

-- behind all qualifiers
abbrev pub unqualified_rule : Place → Sort → Token → Rule (List Item)
unqualified_rule first Sort.Qualifier t = typed_item first Sort.Qualifier t
unqualified_rule first s t = qualified_rule first s t

-- ---- structs

abbrev pub field_lists : Right (List Decl)
field_lists = form (many true field_groups []) >>= λ groups. gives (joined groups)

abbrev pub struct_end : Place → Token → List Decl → Right (List Item)
struct_end first n fs = do
  close ← take Sort.CloseBrace
  end ← take Sort.Semicolon
  gives (item_at first (item_is.Struct n.place (text_of n.what) fs))

-- the type of a struct's name
abbrev pub struct_specifier : (word name : Token) → Specifier
struct_specifier t n = record { base = struct_of n; place = t.place }

-- behind the name of a struct
abbrev pub struct_behind : (word name : Token) → Right (List Item)
struct_behind t n = form (fields t.place n) >>= λ o. struct_or_outer t n o

-- ---- all of a source

abbrev pub item_lists : Right (List Item)
item_lists = form (many true items []) >>= λ lists. gives (joined lists)

-- the list of a source's items
abbrev pub source_end : List Item → Right (List Item)
source_end is = take Sort.End >>= λ end. gives is

abbrev pub source_items : Right (List Item)
source_items = item_lists >>= λ is. source_end is
