-- Which tokens a form would take at its end, so that they can't come behind it; and that productions keep to it.
use Rattle.std.specs.Prelude.{Bool, true, false, not, ◌&&◌, ◌||◌, nat_le, nat_lt, Option, Some, None, IsTrue}
use Rattle.mdr_syntax.specs.declared.token.Token.{Token}
use Rattle.mdr_grammar.specs.Sorts.{Sort, is}
use Rattle.mdr_grammar.specs.Forms.{Part, PartValue, repeated, separated, enclosed, Nonterminal, Value, Right, Rule, Empty, Ended}
use Rattle.mdr_grammar.specs.Forms.Part.{operand, expression, argument, statement, body, plain, simple, block_item, opening, local, right, right_side, label, clause, base, specifiers, size, annotation, constant, value, declarator, parameter, field, field_group, enumerator, initial, initialiser, element, global, item}
use Rattle.mdr_grammar.specs.Forms.Nonterminal.{part, option, many, commas, commas_open, after_comma, postfix, operators, choice, opened, arguments, stars, text_behind, text_after, unsigned_word, assignment, otherwise, parameters, after_void, parameter_name, parameter_declarator, qualified, outer, remote, critical, function, function_end, fields}
use Rattle.mdr_grammar.specs.Forms.Right.{gives, takes, then}
use Rattle.mdr_grammar.specs.Forms.Rule.{never, given}
use Rattle.mdr_grammar.specs.Forms.Empty.{cannot, may}
use Rattle.mdr_grammar.specs.Expressions.{precedence_of}
use Rattle.mdr_grammar.specs.Grammar.{part_rule, rule, empty}

abbrev pub opens : {A : Type 0} → Rule A → Bool
opens never = false
opens (given allowed r) = true

abbrev pub none_of : {A : Type 0} → Option A → Bool
none_of None = true
none_of (Some x) = false

abbrev pub is_sized : Sort → Bool
is_sized Sort.Char = true
is_sized Sort.Short = true
is_sized Sort.Int = true
is_sized Sort.Long = true
is_sized s = false

abbrev pub hungry_part : Part → Sort → Bool
hungry_part (operand casts l d) s = nat_lt 11 (precedence_of s)
hungry_part (expression l d) s = nat_lt 0 (precedence_of s)
hungry_part (argument l d) s = not (is Sort.Comma s || is Sort.Close s)
hungry_part (statement l) s = false
hungry_part (body l) s = false
hungry_part (plain l) s = is Sort.Else s
hungry_part (simple l d) s = not (is Sort.Semicolon s || is Sort.Close s)
hungry_part (block_item l) s = is Sort.Else s
hungry_part (opening l d) s = not (is Sort.Semicolon s)
hungry_part (local first b l d) s = not (is Sort.Comma s || is Sort.Semicolon s)
hungry_part (right l d) s = nat_lt 0 (precedence_of s)
hungry_part (right_side l d) s = nat_lt 0 (precedence_of s)
hungry_part label s = false
hungry_part (clause l) s = not (is Sort.Case s || is Sort.Default s || is Sort.CloseBrace s)
hungry_part base s = is_sized s
hungry_part specifiers s = is_sized s
hungry_part size s = false
hungry_part (annotation d) s = false
hungry_part constant s = false
hungry_part value s = false
hungry_part (declarator d b k) s = is Sort.OpenBracket s
hungry_part (parameter named d) s = not (is Sort.Comma s || is Sort.Close s)
hungry_part (field b) s = not (is Sort.Comma s || is Sort.Semicolon s)
hungry_part field_group s = false
hungry_part enumerator s = is Sort.Equals s
hungry_part initial s = false
hungry_part (initialiser n) s = false
hungry_part (element n) s = false
hungry_part (global first b) s = not (is Sort.Comma s || is Sort.Semicolon s)
hungry_part item s = false

-- an `else` behind a statement that could take it
abbrev pub dangles : (x : Part) → PartValue x → Sort → Bool
dangles (statement l) v s = is Sort.Else s && not v.closed
dangles (body l) v s = is Sort.Else s && not v.closed
dangles _ v s = false

abbrev pub may_dangle : Part → Sort → Bool
may_dangle (statement l) s = is Sort.Else s
may_dangle (body l) s = is Sort.Else s
may_dangle _ s = false

abbrev pub ends_hungry : Part → Sort → Bool
ends_hungry x s = hungry_part x s || may_dangle x s

abbrev pub open_branch : Option Ended → Bool
open_branch (Some b) = not b.closed
open_branch None = true

abbrev pub Hungry : (n : Nonterminal) → Value n → Sort → Token → Bool
Hungry (part x) v s t = hungry_part x s || dangles x v s
Hungry (option allowed x) v s t = ends_hungry x s || opens (part_rule x s t)
Hungry (many allowed x so_far) v s t = ends_hungry (repeated x) s || opens (part_rule (repeated x) s t)
Hungry (commas x so_far) v s t = is Sort.Comma s || ends_hungry (separated x) s
Hungry (commas_open x so_far) v s t = is Sort.Comma s || ends_hungry (enclosed x) s || opens (part_rule (enclosed x) s t)
Hungry (after_comma x so_far) v s t = is Sort.Comma s || ends_hungry (enclosed x) s || opens (part_rule (enclosed x) s t)
Hungry (postfix l d first f alone) v s t = nat_lt 11 (precedence_of s)
Hungry (operators precedence l d f) v s t = nat_le precedence (precedence_of s)
Hungry (choice l d f) v s t = nat_lt 0 (precedence_of s)
Hungry (opened l d first) v s t = nat_lt 11 (precedence_of s)
Hungry (arguments l d) v s t = not (is Sort.Close s)
Hungry (stars k) v s t = is Sort.Star s
Hungry text_behind v s t = is Sort.Name s || is Sort.Text s
Hungry text_after v s t = false
Hungry unsigned_word v s t = is_sized s
Hungry (assignment first l d f alone) v s t = not (is Sort.Semicolon s || is Sort.Close s)
Hungry (otherwise l closed) v s t = is Sort.Else s && open_branch v
Hungry (parameters named d) v s t = not (is Sort.Close s)
Hungry (after_void named d place) v s t = not (is Sort.Close s)
Hungry (parameter_name named) v s t = is Sort.Name s
Hungry (parameter_declarator named d b k) v s t = is Sort.Star s || is Sort.Name s || is Sort.Open s
Hungry (qualified first) v s t = false
Hungry (outer first b k) v s t = false
Hungry (remote first b k) v s t = false
Hungry (critical first b k) v s t = false
Hungry (function first b k name) v s t = is Sort.Open s && none_of v
Hungry (function_end first h) v s t = false
Hungry (fields first name) v s t = is Sort.OpenBrace s && none_of v

-- whether a token can't come first, where what is given is followed by none of the tokens that `after` names
abbrev pub if_may : {A : Type 0} → Empty A → (A → Bool) → Bool
if_may cannot f = true
if_may (may allowed v) f = f v

abbrev pub avoids : {A : Type 0} → Right A → (A → Sort → Token → Bool) → Sort → Token → Bool
avoids (gives v) after s t = after v s t
avoids (takes s' r) after s t = not (is s' s)
avoids (then n k) after s t = not (opens (rule n s t)) && if_may (empty n) (λ v. avoids (k v) after s t)

pub record Clear {A : Type 0} (hungry : Sort → Token → Bool) (r : Right A) (after : A → Sort → Token → Bool) : Type 0 where
  pub at : (s : Sort) (t : Token) → IsTrue (hungry s t) → IsTrue (avoids r after s t)

-- the sorts that stand inside productions
abbrev pub can_be_taken : Sort → Bool
can_be_taken Sort.Name = true
can_be_taken Sort.Number = true
can_be_taken Sort.Char = true
can_be_taken Sort.While = true
can_be_taken Sort.OpenBrace = true
can_be_taken Sort.CloseBrace = true
can_be_taken Sort.Open = true
can_be_taken Sort.Close = true
can_be_taken Sort.CloseBracket = true
can_be_taken Sort.Semicolon = true
can_be_taken Sort.Colon = true
can_be_taken Sort.Equals = true
can_be_taken Sort.Star = true
can_be_taken Sort.End = true
can_be_taken s = false

-- behind each form there comes nothing that it would have taken
abbrev pub Fine : {A : Type 0} → Right A → (A → Sort → Token → Bool) → Type 0
Fine (gives v) after = Unit {0}
Fine (takes s r) after = IsTrue (can_be_taken s) × ((t : Token) → Fine (r t) after)
Fine (then n k) after = (v : Value n) → Clear (Hungry n v) (k v) after × Fine (k v) after

abbrev pub FineRule : {A : Type 0} → Rule A → (A → Sort → Token → Bool) → Type 0
FineRule never after = Unit {0}
FineRule (given allowed r) after = Fine r after
