-- Whatever is left of a source can be completed.
use Rattle.std.proofs.Common.{◌≡◌, refl, ap, ◌∙◌, ℕ, Bool, true, ◌&&◌, List, [], ◌∷◌, ◌++◌}
use Rattle.mdr_core.specs.declared.place.Place.{Place}
use Rattle.mdr_syntax.specs.declared.token.Token.{Token}
use Rattle.mdr_syntax.specs.declared.tree.Form.{Form}
use Rattle.mdr_syntax.specs.declared.tree.Head.{Head}
use Rattle.mdr_syntax.specs.declared.tree.Tree.{Tree}
use Rattle.mdr_grammar.specs.Sorts.{Sort, is}
use Rattle.mdr_grammar.specs.Forms.{Specifier, Part, Nonterminal, Value, Right, ◌>>=◌}
use Rattle.mdr_grammar.specs.Forms.Part.{operand, expression, argument, statement, body, plain, simple, block_item, opening, local, right, right_side, label, clause, base, specifiers, size, annotation, constant, value, declarator, parameter, field, field_group, enumerator, initial, initialiser, element, global, item}
use Rattle.mdr_grammar.specs.Forms.Nonterminal.{part, option, many, commas, commas_open, after_comma, postfix, operators, choice, opened, arguments, stars, text_behind, text_after, unsigned_word, assignment, otherwise, parameters, after_void, parameter_name, parameter_declarator, qualified, outer, remote, critical, function, function_end, fields}
use Rattle.mdr_grammar.specs.Forms.Right.{gives, takes, then}
use Rattle.mdr_grammar.specs.Forms.Rule.{given}
use Rattle.mdr_grammar.specs.Forms.Empty.{may}
use Rattle.mdr_grammar.specs.Grammar.{rule, empty}
use Rattle.mdr_grammar.proofs.Derivations.{Derives}
use Rattle.mdr_grammar.proofs.Derivations.Derives.{ended, took, began, skipped}
use Rattle.mdr_grammar.proofs.Hungry.{can_be_taken}
use Rattle.mdr_grammar.proofs.Bools.{and_left, and_right, implied, implied_true}
use Rattle.mdr_grammar.proofs.Every.{every_sort}
use Rattle.mdr_grammar.proofs.Samples.{sample, has_sample, sampled}
use Rattle.mdr_grammar.proofs.Steps.{FineLeft}

-- the tokens of a nonterminal that may stand wherever it stands
pub record Filler (halves : Bool) (n : Nonterminal) : Type 0 where
  pub given_value : Value n
  pub before : List Token
  pub reads : (k : Value n → Right Tree) (ts : List Token) (tree : Tree) → Derives halves (k given_value) ts tree → Derives halves (then n k) (before ++ ts) tree

nothing : {halves : Bool} {n : Nonterminal} (v : Value n) → empty n ≡ may true v → Filler halves n
nothing v e = record { given_value = v; before = []; reads = λ k ts tree d. skipped e d }

starts : {halves : Bool} {n : Nonterminal} {k : Value n → Right Tree} {r : Right (Value n)} {ts : List Token} {tree : Tree} (s : Sort) → has_sample s ≡ true → rule n s (sample s) ≡ given true r → Derives halves (r >>= k) ts tree → Derives halves (then n k) (sample s ∷ ts) tree
starts {halves = halves} {n = n} s h e d = began (ap (λ s'. rule n s' (sample s)) (sampled halves s h) ∙ e) d

follows : {halves : Bool} {r : Token → Right Tree} {ts : List Token} {tree : Tree} (s : Sort) → has_sample s ≡ true → is s s ≡ true → Derives halves (r (sample s)) ts tree → Derives halves (takes s r) (sample s ∷ ts) tree
follows {halves = halves} s h e d = took (ap (λ s'. is s s') (sampled halves s h) ∙ e) d

fill_operand : (halves casts : Bool) (l d : ℕ) → Filler halves (part (operand casts l d))
fill_operand halves casts l d = record { given_value = _; before = sample Sort.Number ∷ []; reads = λ k ts tree x. starts Sort.Number refl refl (skipped refl x) }

fill_expression : (halves : Bool) (l d : ℕ) → Filler halves (part (expression l d))
fill_expression halves l d = record { given_value = _; before = sample Sort.Number ∷ []; reads = λ k ts tree x. starts Sort.Number refl refl (skipped refl (skipped refl (skipped refl (skipped refl (skipped refl (skipped refl (skipped refl (skipped refl (skipped refl (skipped refl (skipped refl (skipped refl x)))))))))))) }

fill_body : (halves : Bool) (l : ℕ) → Filler halves (part (body l))
fill_body halves l = record { given_value = _; before = sample Sort.OpenBrace ∷ sample Sort.CloseBrace ∷ []; reads = λ k ts tree x. starts Sort.OpenBrace refl refl (skipped refl (follows Sort.CloseBrace refl refl x)) }

fill_argument : (halves : Bool) (l d : ℕ) → Filler halves (part (argument l d))
fill_argument halves l d = record { given_value = _; before = sample Sort.Text ∷ []; reads = λ k ts tree x. starts Sort.Text refl refl (x) }

fill_statement : (halves : Bool) (l : ℕ) → Filler halves (part (statement l))
fill_statement halves l = record { given_value = _; before = sample Sort.Semicolon ∷ []; reads = λ k ts tree x. starts Sort.Semicolon refl refl (x) }

fill_plain : (halves : Bool) (l : ℕ) → Filler halves (part (plain l))
fill_plain halves l = record { given_value = _; before = sample Sort.Semicolon ∷ []; reads = λ k ts tree x. starts Sort.Semicolon refl refl (x) }

fill_simple : (halves : Bool) (l d : ℕ) → Filler halves (part (simple l d))
fill_simple halves l d = record { given_value = _; before = sample Sort.Name ∷ sample Sort.Equals ∷ sample Sort.Number ∷ []; reads = λ k ts tree x. starts Sort.Name refl refl (skipped refl (starts Sort.Equals refl refl (starts Sort.Number refl refl (skipped refl (skipped refl (skipped refl (skipped refl (skipped refl (skipped refl (skipped refl (skipped refl (skipped refl (skipped refl (skipped refl (skipped refl (x)))))))))))))))) }

fill_block_item : (halves : Bool) (l : ℕ) → Filler halves (part (block_item l))
fill_block_item halves l = record { given_value = _; before = sample Sort.Semicolon ∷ []; reads = λ k ts tree x. starts Sort.Semicolon refl refl (x) }

fill_opening : (halves : Bool) (l d : ℕ) → Filler halves (part (opening l d))
fill_opening halves l d = record { given_value = _; before = sample Sort.Void ∷ sample Sort.Name ∷ []; reads = λ k ts tree x. starts Sort.Void refl refl (starts Sort.Name refl refl (skipped refl (skipped refl (skipped refl (x))))) }

fill_local : (halves : Bool) (first : Place) (b : Specifier) (l d : ℕ) → Filler halves (part (local first b l d))
fill_local halves first b l d = record { given_value = _; before = sample Sort.Name ∷ []; reads = λ k ts tree x. starts Sort.Name refl refl (skipped refl (skipped refl (x))) }

fill_right : (halves : Bool) (l d : ℕ) → Filler halves (part (right l d))
fill_right halves l d = record { given_value = _; before = sample Sort.Equals ∷ sample Sort.Text ∷ []; reads = λ k ts tree x. starts Sort.Equals refl refl (starts Sort.Text refl refl (x)) }

fill_right_side : (halves : Bool) (l d : ℕ) → Filler halves (part (right_side l d))
fill_right_side halves l d = record { given_value = _; before = sample Sort.Text ∷ []; reads = λ k ts tree x. starts Sort.Text refl refl (x) }

fill_label : (halves : Bool) → Filler halves (part label)
fill_label halves = record { given_value = _; before = sample Sort.Default ∷ sample Sort.Colon ∷ []; reads = λ k ts tree x. starts Sort.Default refl refl (follows Sort.Colon refl refl (x)) }

fill_clause : (halves : Bool) (l : ℕ) → Filler halves (part (clause l))
fill_clause halves l = record { given_value = _; before = sample Sort.Default ∷ sample Sort.Colon ∷ sample Sort.Semicolon ∷ []; reads = λ k ts tree x. starts Sort.Default refl refl (follows Sort.Colon refl refl (skipped refl (starts Sort.Semicolon refl refl (skipped refl (x))))) }

fill_base : (halves : Bool) → Filler halves (part base)
fill_base halves = record { given_value = _; before = sample Sort.Void ∷ []; reads = λ k ts tree x. starts Sort.Void refl refl (x) }

fill_specifiers : (halves : Bool) → Filler halves (part specifiers)
fill_specifiers halves = record { given_value = _; before = sample Sort.Void ∷ []; reads = λ k ts tree x. starts Sort.Void refl refl (x) }

fill_size : (halves : Bool) → Filler halves (part size)
fill_size halves = record { given_value = _; before = sample Sort.OpenBracket ∷ sample Sort.Number ∷ sample Sort.CloseBracket ∷ []; reads = λ k ts tree x. starts Sort.OpenBracket refl refl (starts Sort.Number refl refl (follows Sort.CloseBracket refl refl (x))) }

fill_annotation : (halves : Bool) (d : ℕ) → Filler halves (part (annotation d))
fill_annotation halves d = record { given_value = _; before = sample Sort.NullTerm ∷ []; reads = λ k ts tree x. starts Sort.NullTerm refl refl (x) }

fill_constant : (halves : Bool) → Filler halves (part constant)
fill_constant halves = record { given_value = _; before = sample Sort.Number ∷ []; reads = λ k ts tree x. starts Sort.Number refl refl (x) }

fill_value : (halves : Bool) → Filler halves (part value)
fill_value halves = record { given_value = _; before = sample Sort.Equals ∷ sample Sort.Number ∷ []; reads = λ k ts tree x. starts Sort.Equals refl refl (starts Sort.Number refl refl (x)) }

fill_declarator : (halves : Bool) (d : ℕ) (b : Specifier) (k : ℕ) → Filler halves (part (declarator d b k))
fill_declarator halves d b k = record { given_value = _; before = sample Sort.Name ∷ []; reads = λ k' ts tree x. starts Sort.Name refl refl (skipped refl (x)) }

fill_parameter : (halves : Bool) (named : Bool) (d : ℕ) → Filler halves (part (parameter named d))
fill_parameter halves named d = record { given_value = _; before = sample Sort.Void ∷ sample Sort.Name ∷ []; reads = λ k ts tree x. starts Sort.Void refl refl (starts Sort.Name refl refl (skipped refl (x))) }

fill_field : (halves : Bool) (b : Specifier) → Filler halves (part (field b))
fill_field halves b = record { given_value = _; before = sample Sort.Name ∷ []; reads = λ k ts tree x. starts Sort.Name refl refl (skipped refl (skipped refl (x))) }

fill_field_group : (halves : Bool) → Filler halves (part field_group)
fill_field_group halves = record { given_value = _; before = sample Sort.Void ∷ sample Sort.Name ∷ sample Sort.Semicolon ∷ []; reads = λ k ts tree x. starts Sort.Void refl refl (starts Sort.Name refl refl (skipped refl (skipped refl (skipped refl (follows Sort.Semicolon refl refl (x)))))) }

fill_enumerator : (halves : Bool) → Filler halves (part enumerator)
fill_enumerator halves = record { given_value = _; before = sample Sort.Name ∷ []; reads = λ k ts tree x. starts Sort.Name refl refl (skipped refl (x)) }

fill_initial : (halves : Bool) → Filler halves (part initial)
fill_initial halves = record { given_value = _; before = sample Sort.Equals ∷ sample Sort.Number ∷ []; reads = λ k ts tree x. starts Sort.Equals refl refl (starts Sort.Number refl refl (x)) }

fill_initialiser : (halves : Bool) (n : ℕ) → Filler halves (part (initialiser n))
fill_initialiser halves n = record { given_value = _; before = sample Sort.Number ∷ []; reads = λ k ts tree x. starts Sort.Number refl refl (x) }

fill_element : (halves : Bool) (n : ℕ) → Filler halves (part (element n))
fill_element halves n = record { given_value = _; before = sample Sort.Number ∷ []; reads = λ k ts tree x. starts Sort.Number refl refl (x) }

fill_global : (halves : Bool) (first : Place) (b : Specifier) → Filler halves (part (global first b))
fill_global halves first b = record { given_value = _; before = sample Sort.Name ∷ []; reads = λ k ts tree x. starts Sort.Name refl refl (skipped refl (skipped refl (skipped refl (x)))) }

fill_item : (halves : Bool) → Filler halves (part item)
fill_item halves = record { given_value = _; before = sample Sort.Define ∷ []; reads = λ k ts tree x. starts Sort.Define refl refl (x) }

fill_opened : (halves : Bool) (l d : ℕ) (first : Place) → Filler halves (opened l d first)
fill_opened halves l d first = record { given_value = _; before = sample Sort.Number ∷ sample Sort.Close ∷ []; reads = λ k ts tree x. starts Sort.Number refl refl (skipped refl (skipped refl (skipped refl (skipped refl (skipped refl (skipped refl (skipped refl (skipped refl (skipped refl (skipped refl (skipped refl (skipped refl (follows Sort.Close refl refl (skipped refl (x))))))))))))))) }

fill_text_after : (halves : Bool) → Filler halves (text_after)
fill_text_after halves = record { given_value = _; before = sample Sort.Text ∷ []; reads = λ k ts tree x. starts Sort.Text refl refl (x) }

fill_parameters : (halves : Bool) (named : Bool) (d : ℕ) → Filler halves (parameters named d)
fill_parameters halves named d = record { given_value = _; before = sample Sort.Void ∷ []; reads = λ k ts tree x. starts Sort.Void refl refl (skipped refl (x)) }

fill_outer : (halves : Bool) (first : Place) (b : Specifier) (k : ℕ) → Filler halves (outer first b k)
fill_outer halves first b k = record { given_value = _; before = sample Sort.Name ∷ sample Sort.Semicolon ∷ []; reads = λ k' ts tree x. starts Sort.Name refl refl (skipped refl (skipped refl (skipped refl (skipped refl (skipped refl (follows Sort.Semicolon refl refl (x))))))) }

fill_qualified : (halves : Bool) (first : Place) → Filler halves (qualified first)
fill_qualified halves first = record { given_value = _; before = sample Sort.Void ∷ sample Sort.Name ∷ sample Sort.Semicolon ∷ []; reads = λ k ts tree x. starts Sort.Void refl refl (starts Sort.Name refl refl (skipped refl (skipped refl (skipped refl (skipped refl (skipped refl (follows Sort.Semicolon refl refl (x)))))))) }

fill_remote : (halves : Bool) (first : Place) (b : Specifier) (k : ℕ) → Filler halves (remote first b k)
fill_remote halves first b k = record { given_value = _; before = sample Sort.Name ∷ sample Sort.Open ∷ sample Sort.Void ∷ sample Sort.Close ∷ sample Sort.Semicolon ∷ []; reads = λ k' ts tree x. starts Sort.Name refl refl (follows Sort.Open refl refl (starts Sort.Void refl refl (skipped refl (follows Sort.Close refl refl (skipped refl (follows Sort.Semicolon refl refl (x))))))) }

fill_critical : (halves : Bool) (first : Place) (b : Specifier) (k : ℕ) → Filler halves (critical first b k)
fill_critical halves first b k = record { given_value = _; before = sample Sort.Name ∷ sample Sort.Open ∷ sample Sort.Void ∷ sample Sort.Close ∷ sample Sort.OpenBrace ∷ sample Sort.CloseBrace ∷ []; reads = λ k' ts tree x. starts Sort.Name refl refl (follows Sort.Open refl refl (starts Sort.Void refl refl (skipped refl (follows Sort.Close refl refl (skipped refl (follows Sort.OpenBrace refl refl (skipped refl (follows Sort.CloseBrace refl refl (x))))))))) }

fill_function_end : (halves : Bool) (first : Place) (h : Head) → Filler halves (function_end first h)
fill_function_end halves first h = record { given_value = _; before = sample Sort.Semicolon ∷ []; reads = λ k ts tree x. starts Sort.Semicolon refl refl (x) }

fill_assignment : (halves : Bool) (first : Place) (l d : ℕ) (f : Form) (alone : Bool) → Filler halves (assignment first l d f alone)
fill_assignment halves first l d f alone = record { given_value = _; before = sample Sort.Equals ∷ sample Sort.Number ∷ []; reads = λ k ts tree x. starts Sort.Equals refl refl (starts Sort.Number refl refl (skipped refl (skipped refl (skipped refl (skipped refl (skipped refl (skipped refl (skipped refl (skipped refl (skipped refl (skipped refl (skipped refl (skipped refl (x)))))))))))))) }

fill_parameter_name : (halves named : Bool) → Filler halves (parameter_name named)
fill_parameter_name halves named = record { given_value = _; before = sample Sort.Name ∷ []; reads = λ k ts tree x. starts Sort.Name refl refl (x) }

fill_parameter_declarator : (halves named : Bool) (d : ℕ) (b : Specifier) (k : ℕ) → Filler halves (parameter_declarator named d b k)
fill_parameter_declarator halves named d b k = record { given_value = _; before = sample Sort.Name ∷ []; reads = λ k' ts tree x. starts Sort.Name refl refl (x) }

fill_part : (halves : Bool) (x : Part) → Filler halves (part x)
fill_part halves (operand casts l d) = fill_operand halves casts l d
fill_part halves (expression l d) = fill_expression halves l d
fill_part halves (argument l d) = fill_argument halves l d
fill_part halves (statement l) = fill_statement halves l
fill_part halves (body l) = fill_body halves l
fill_part halves (plain l) = fill_plain halves l
fill_part halves (simple l d) = fill_simple halves l d
fill_part halves (block_item l) = fill_block_item halves l
fill_part halves (opening l d) = fill_opening halves l d
fill_part halves (local first b l d) = fill_local halves first b l d
fill_part halves (right l d) = fill_right halves l d
fill_part halves (right_side l d) = fill_right_side halves l d
fill_part halves label = fill_label halves
fill_part halves (clause l) = fill_clause halves l
fill_part halves base = fill_base halves
fill_part halves specifiers = fill_specifiers halves
fill_part halves size = fill_size halves
fill_part halves (annotation d) = fill_annotation halves d
fill_part halves constant = fill_constant halves
fill_part halves value = fill_value halves
fill_part halves (declarator d b k) = fill_declarator halves d b k
fill_part halves (parameter named d) = fill_parameter halves named d
fill_part halves (field b) = fill_field halves b
fill_part halves field_group = fill_field_group halves
fill_part halves enumerator = fill_enumerator halves
fill_part halves initial = fill_initial halves
fill_part halves (initialiser n) = fill_initialiser halves n
fill_part halves (element n) = fill_element halves n
fill_part halves (global first b) = fill_global halves first b
fill_part halves item = fill_item halves

filler : (halves : Bool) (n : Nonterminal) → Filler halves n
filler halves (part x) = fill_part halves x
filler halves (option allowed x) = nothing _ refl
filler halves (many allowed x so_far) = nothing _ refl
filler halves (commas x so_far) = nothing _ refl
filler halves (commas_open x so_far) = nothing _ refl
filler halves (after_comma x so_far) = nothing _ refl
filler halves (postfix l d first f alone) = nothing _ refl
filler halves (operators precedence l d f) = nothing _ refl
filler halves (choice l d f) = nothing _ refl
filler halves (opened l d first) = fill_opened halves l d first
filler halves (arguments l d) = nothing _ refl
filler halves (stars k) = nothing _ refl
filler halves text_behind = nothing _ refl
filler halves text_after = fill_text_after halves
filler halves unsigned_word = nothing _ refl
filler halves (assignment first l d f alone) = fill_assignment halves first l d f alone
filler halves (otherwise l closed) = nothing _ refl
filler halves (parameters named d) = fill_parameters halves named d
filler halves (after_void named d place) = nothing _ refl
filler halves (parameter_name named) = fill_parameter_name halves named
filler halves (parameter_declarator named d b k) = fill_parameter_declarator halves named d b k
filler halves (qualified first) = fill_qualified halves first
filler halves (outer first b k) = fill_outer halves first b k
filler halves (remote first b k) = fill_remote halves first b k
filler halves (critical first b k) = fill_critical halves first b k
filler halves (function first b k name) = nothing _ refl
filler halves (function_end first h) = fill_function_end halves first h
filler halves (fields first name) = nothing _ refl

-- some tokens, and the tree that they complete to
pub record Completed (halves : Bool) (r : Right Tree) : Type 0 where
  pub tokens : List Token
  pub tree : Tree
  pub derivation : Derives halves r tokens tree

taken_sample : (s : Sort) → can_be_taken s ≡ true → has_sample s ≡ true × is s s ≡ true
taken_sample s e = (and_left _ _ (both s e), and_right (has_sample s) _ (both s e))
  where
    both : (s : Sort) → can_be_taken s ≡ true → has_sample s && is s s ≡ true
    both s e = implied_true _ _ (every_sort (λ s. implied (can_be_taken s) (has_sample s && is s s)) refl s) e

pub completes : (halves : Bool) (r : Right Tree) → FineLeft r → Completed halves r
completes halves (gives x) f = record { tokens = []; tree = x; derivation = ended }
completes halves (takes s r) (a, f) = let c = completes halves (r (sample s)) (f (sample s)) in let b = taken_sample s a in record { tokens = sample s ∷ c.tokens; tree = c.tree; derivation = follows s b.0 b.1 c.derivation }
completes halves (then n k) f = let g = filler halves n in let c = completes halves (k g.given_value) (f g.given_value).1 in record { tokens = g.before ++ c.tokens; tree = c.tree; derivation = g.reads k c.tokens c.tree c.derivation }
