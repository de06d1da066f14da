-- believed
-- Declarations (C99 6.7 to 6.9).
use Rattle.std.specs.Prelude.{ℕ, ◌+◌, Bool, true, false, not, nat_le, List, [], ◌∷◌, Option, Some, None}
use Rattle.mdr_core.specs.declared.place.Place.{Place}
use Rattle.mdr_syntax.specs.declared.token.Token.{Token}
use Rattle.mdr_syntax.specs.declared.tree.AnnText.{AnnText}
use Rattle.mdr_syntax.specs.declared.tree.AnnText.TheVariants as annotated
use Rattle.mdr_syntax.specs.declared.tree.Base.TheVariants as base_type
use Rattle.mdr_syntax.specs.declared.tree.Const.{Const}
use Rattle.mdr_syntax.specs.declared.tree.Const.TheVariants as const
use Rattle.mdr_syntax.specs.declared.tree.Decl.{Decl}
use Rattle.mdr_syntax.specs.declared.tree.Decl.TheViews.{roll-Decl, out-Decl}
use Rattle.mdr_syntax.specs.declared.tree.Elem.{Elem}
use Rattle.mdr_syntax.specs.declared.tree.Enumerator.{Enumerator}
use Rattle.mdr_syntax.specs.declared.tree.Init
use Rattle.mdr_syntax.specs.declared.tree.Init.{Init}
use Rattle.mdr_grammar.specs.Sorts.{Sort}
use Rattle.mdr_grammar.specs.Forms.{Specifier, Part, Right, ◌>>=◌, take, form, one, Rule, always, and_then, where_allowed, or_else}
use Rattle.mdr_grammar.specs.Forms.Nonterminal.{option, commas, commas_open, parameters, after_void, parameter_name, parameter_declarator}
use Rattle.mdr_grammar.specs.Forms.Separated.{parameters_at, fields_of}
use Rattle.mdr_grammar.specs.Forms.Enclosed.{elements}
use Rattle.mdr_grammar.specs.Forms.Right.{gives}
use Rattle.mdr_grammar.specs.Forms.Rule.{never, given}
use Rattle.mdr_grammar.specs.Expressions.{may_open, may_nest, text_of, number_in, kind_in, base_rule}

-- ---- constants, sizes and annotations

abbrev pub number_const : Bool → Place → Token → Const
number_const negative place t = const.Number place negative (number_in t.what) (kind_in t.what)

abbrev pub name_const : Token → Const
name_const t = const.Name t.place (text_of t.what)

abbrev pub negative_behind : Token → Right Const
negative_behind minus = take Sort.Number >>= λ n. gives (number_const true minus.place n)

abbrev pub constant_rule : Sort → Token → Rule Const
constant_rule Sort.Minus t = always (negative_behind t)
constant_rule Sort.Number t = always (gives (number_const false t.place t))
constant_rule Sort.Name t = always (gives (name_const t))
constant_rule _ t = never

abbrev pub bracketed : Right Const
bracketed = do
  c ← one Part.constant
  close ← take Sort.CloseBracket
  gives c

abbrev pub some_bracketed : Right (Option Const)
some_bracketed = bracketed >>= λ c. gives (Some c)

abbrev pub size_rule : Sort → Token → Rule Const
size_rule Sort.OpenBracket t = always bracketed
size_rule _ t = never

abbrev pub array_behind : Right AnnText
array_behind = do
  bracket ← take Sort.Open
  c ← one Part.constant
  close ← take Sort.Close
  gives (annotated.Array c)

abbrev pub sentinel_behind : Right AnnText
sentinel_behind = do
  bracket ← take Sort.Open
  n ← take Sort.Name
  close ← take Sort.Close
  gives (annotated.Sentinel n.place (text_of n.what))

abbrev pub annotation_rule : ℕ → Sort → Token → Rule AnnText
annotation_rule d Sort.Array t = given (may_open (d + 1)) array_behind
annotation_rule d Sort.Sentinel t = given (may_open (d + 1)) sentinel_behind
annotation_rule d Sort.NullTerm t = always (gives annotated.NullTerm)
annotation_rule d Sort.Opaque t = always (gives annotated.Opaque)
annotation_rule d _ t = never

abbrev pub constant_there : Right (Option Const)
constant_there = one Part.constant >>= λ c. gives (Some c)

abbrev pub value_rule : Sort → Token → Rule Const
value_rule Sort.Equals t = always (one Part.constant)
value_rule _ t = never

-- ---- declarators

abbrev pub specifiers_rule : Sort → Token → Rule Specifier
specifiers_rule Sort.Qualifier t = always (one Part.specifiers)
specifiers_rule s t = base_rule s t

-- a declarator's place is its name's, or the base's where there is no name
abbrev pub declared : Specifier → ℕ → Token → Option Const → Option (List Decl) → Decl
declared b k n size fun = roll-Decl (record { place = n.place; name = Some (text_of n.what); base = b.base; stars = k; size = size; fun = fun; ann = None })

abbrev pub unnamed : Specifier → ℕ → Option (List Decl) → Decl
unnamed b k fun = roll-Decl (record { place = b.place; name = None; base = b.base; stars = k; size = None; fun = fun; ann = None })

abbrev pub perhaps_named : Specifier → ℕ → Option Token → Option (List Decl) → Decl
perhaps_named b k (Some n) fun = declared b k n None fun
perhaps_named b k None fun = unnamed b k fun

abbrev pub with_annotation : Decl → Option AnnText → Decl
with_annotation x a = roll-Decl (record (out-Decl x) { ann = a })

-- the parameters of a function pointer may have no names
abbrev pub pointed_parameters : ℕ → Right (List Decl)
pointed_parameters d = do
  end ← take Sort.Close
  bracket ← take Sort.Open
  ps ← form (parameters false (d + 1))
  close ← take Sort.Close
  gives ps

abbrev pub declarator_rule : ℕ → Specifier → ℕ → Sort → Token → Rule Decl
declarator_rule d b k Sort.Star t = given (nat_le (k + 1) 4294967295) (one (Part.declarator d b (k + 1)))
declarator_rule d b k Sort.Name t = always (form (option true Part.size) >>= λ z. gives (declared b k t z None))
declarator_rule d b k Sort.Open t = given (may_open (d + 1)) do
  star ← take Sort.Star
  n ← take Sort.Name
  z ← form (option true Part.size)
  ps ← pointed_parameters d
  gives (declared b k n z (Some ps))
declarator_rule d b k _ t = never

-- ---- parameters

abbrev pub parameter_name_rule : Sort → Token → Rule (Option Token)
parameter_name_rule Sort.Name t = always (gives (Some t))
parameter_name_rule _ t = never

abbrev pub parameter_declarator_rule : Bool → ℕ → Specifier → ℕ → Sort → Token → Rule Decl
parameter_declarator_rule named d b k Sort.Star t = given (nat_le (k + 1) 4294967295) (form (parameter_declarator named d b (k + 1)))
parameter_declarator_rule named d b k Sort.Name t = always (gives (declared b k t None None))
parameter_declarator_rule named d b k Sort.Open t = given (may_open (d + 1)) do
  star ← take Sort.Star
  n ← form (parameter_name named)
  ps ← pointed_parameters d
  gives (perhaps_named b k n (Some ps))
parameter_declarator_rule named d b k _ t = never

abbrev pub annotated_parameter : ℕ → Decl → Right Decl
annotated_parameter d x = form (option true (Part.annotation d)) >>= λ a. gives (with_annotation x a)

abbrev pub parameter_of : Bool → ℕ → Specifier → Right Decl
parameter_of named d b = form (parameter_declarator named d b 0) >>= λ x. annotated_parameter d x

abbrev pub parameter_in : Bool → ℕ → Right Decl
parameter_in named d = one Part.specifiers >>= λ b. parameter_of named d b

abbrev pub parameter_rule : Bool → ℕ → Sort → Token → Rule Decl
parameter_rule named d s t = and_then (specifiers_rule s t) (λ b. parameter_of named d b)

abbrev pub more_parameters : Bool → ℕ → Decl → Right (List Decl)
more_parameters named d x = form (commas (parameters_at named d) (x ∷ []))

abbrev pub parameters_in : Bool → ℕ → Right (List Decl)
parameters_in named d = one (Part.parameter named d) >>= λ x. more_parameters named d x

abbrev pub void_base : Place → Specifier
void_base place = record { base = base_type.Void; place = place }

-- a first parameter of type `void` with a declarator; with an annotation alone, if it has one
abbrev pub declared_void : Bool → ℕ → Place → Right (List Decl)
declared_void named d place = form (parameter_declarator named d (void_base place) 0) >>= λ x. annotated_parameter d x >>= λ y. more_parameters named d y

abbrev pub void_with : Bool → ℕ → Place → AnnText → Right (List Decl)
void_with named d place a = more_parameters named d (with_annotation (unnamed (void_base place) 0 None) (Some a))

abbrev pub perhaps_void_with : Bool → ℕ → Place → Option AnnText → Right (List Decl)
perhaps_void_with named d place (Some a) = void_with named d place a
perhaps_void_with named d place None = gives []

abbrev pub annotated_void : Bool → ℕ → Place → Right (List Decl)
annotated_void named d place = form (option true (Part.annotation d)) >>= λ a. perhaps_void_with named d place a

abbrev pub void_parameter : Bool → ℕ → Place → Sort → Token → Rule (List Decl)
void_parameter named d place s t = or_else
    (and_then (parameter_declarator_rule named d (void_base place) 0 s t) (λ x. annotated_parameter d x >>= λ y. more_parameters named d y))
    (where_allowed (not named) (and_then (annotation_rule d s t) (λ a. more_parameters named d (with_annotation (unnamed (void_base place) 0 None) (Some a)))))

-- behind a first `void`, which alone is no parameter
abbrev pub after_void_rule : Bool → ℕ → Place → Sort → Token → Rule (List Decl)
after_void_rule named d place Sort.Comma t = given (not named) do
  x ← one (Part.parameter named d)
  form (commas (parameters_at named d) (unnamed (void_base place) 0 None ∷ x ∷ []))
after_void_rule named d place s t = void_parameter named d place s t

abbrev pub listed_parameters : Bool → ℕ → Sort → Token → Rule (List Decl)
listed_parameters named d s t = and_then (parameter_rule named d s t) (λ x. more_parameters named d x)

abbrev pub parameters_rule : Bool → ℕ → Sort → Token → Rule (List Decl)
parameters_rule named d Sort.Void t = always (form (after_void named d t.place))
parameters_rule named d s t = listed_parameters named d s t

-- ---- fields

abbrev pub field_in : Specifier → Right Decl
field_in b = one (Part.declarator 0 b 0) >>= λ x. annotated_parameter 0 x

abbrev pub field_rule : Specifier → Sort → Token → Rule Decl
field_rule b s t = and_then (declarator_rule 0 b 0 s t) (λ x. annotated_parameter 0 x)

abbrev pub fields_in : Specifier → Right (List Decl)
fields_in b = do
  x ← one (Part.field b)
  xs ← form (commas (fields_of b) (x ∷ []))
  end ← take Sort.Semicolon
  gives xs

abbrev pub group_in : Right (List Decl)
group_in = one Part.specifiers >>= λ b. fields_in b

abbrev pub field_group_rule : Sort → Token → Rule (List Decl)
field_group_rule s t = and_then (specifiers_rule s t) (λ b. fields_in b)

-- ---- enumeration constants

abbrev pub enumerator_rule : Sort → Token → Rule Enumerator
enumerator_rule Sort.Name t = always (form (option true Part.value) >>= λ v. gives (record { place = t.place; name = text_of t.what; value = v }))
enumerator_rule _ t = never

-- ---- initialisers of globals

abbrev pub other_initialiser : ℕ → Sort → Token → Rule Init
other_initialiser n Sort.Null t = always (gives (Init.Null t.place))
other_initialiser n Sort.And t = always (take Sort.Name >>= λ x. gives (Init.Address x.place (text_of x.what)))
other_initialiser n Sort.Text t = always (gives (Init.Text t.place (text_of t.what)))
other_initialiser n Sort.OpenBrace t = given (may_nest (n + 1)) do
  x ← one (Part.element (n + 1))
  xs ← form (commas_open (elements (n + 1)) (x ∷ []))
  close ← take Sort.CloseBrace
  gives (Init.List t.place xs)
other_initialiser n _ t = never

abbrev pub constant_in : Right Init
constant_in = one Part.constant >>= λ c. gives (Init.Const c)

abbrev pub initialiser_rule : ℕ → Sort → Token → Rule Init
initialiser_rule n s t = or_else (other_initialiser n s t) (and_then (constant_rule s t) (λ c. gives (Init.Const c)))

abbrev pub initialiser_there : Right (Option Init)
initialiser_there = one (Part.initialiser 0) >>= λ i. gives (Some i)

abbrev pub initial_rule : Sort → Token → Rule Init
initial_rule Sort.Equals t = always (one (Part.initialiser 0))
initial_rule _ t = never

abbrev pub element_in : ℕ → Right Elem
element_in n = one (Part.initialiser n) >>= λ i. gives (record { field = None; init = i })

abbrev pub bare_element : ℕ → Sort → Token → Rule Elem
bare_element n s t = and_then (initialiser_rule n s t) (λ i. gives (record { field = None; init = i }))

abbrev pub element_rule : ℕ → Sort → Token → Rule Elem
element_rule n Sort.Dot t = always do
  x ← take Sort.Name
  equals ← take Sort.Equals
  i ← one (Part.initialiser n)
  gives (record { field = Some (record { place = x.place; name = text_of x.what }); init = i })
element_rule n s t = bare_element n s t
