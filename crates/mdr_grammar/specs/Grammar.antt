-- believed
-- The grammar: what each nonterminal begins with, whether it may be empty, and which token lists it reads.
use Rattle.std.specs.Prelude.{◌≡◌, Bool, true, not, List, [], ◌∷◌, ◌++◌, Some, None, IsTrue}
use Rattle.mdr_syntax.specs.declared.token.Token.{Token}
use Rattle.mdr_syntax.specs.declared.tree.Base.TheVariants as base_type
use Rattle.mdr_core.specs.declared.kind.Kind.TheVariants.{U32}
use Rattle.mdr_syntax.specs.declared.tree.Item.{Item}
use Rattle.mdr_syntax.specs.declared.tree.NodeWhat
use Rattle.mdr_syntax.specs.declared.tree.Tree.{Tree}
use Rattle.mdr_grammar.specs.Sorts.{Sort, is, sort_of}
use Rattle.mdr_grammar.specs.Forms.{Part, PartValue, repeated, separated, enclosed, Nonterminal, Value, Right, ◌>>=◌, form, Rule, Empty, always, and_then, where_allowed}
use Rattle.mdr_grammar.specs.Forms.Repeated.{items}
use Rattle.mdr_grammar.specs.Forms.Part.{operand, expression, argument, statement, body, plain, simple, block_item, opening, local, right, right_side, label, clause, base, specifiers, size, annotation, constant, value, declarator, parameter, field, field_group, enumerator, initial, initialiser, element, global, item}
use Rattle.mdr_grammar.specs.Forms.Nonterminal.{part, option, many, commas, commas_open, after_comma, postfix, operators, choice, opened, arguments, stars, text_behind, text_after, unsigned_word, assignment, otherwise, parameters, after_void, parameter_name, parameter_declarator, qualified, outer, remote, critical, function, function_end, fields}
use Rattle.mdr_grammar.specs.Forms.Right.{gives, takes, then}
use Rattle.mdr_grammar.specs.Forms.Rule.{never, given}
use Rattle.mdr_grammar.specs.Forms.Empty.{cannot, may}
use Rattle.mdr_grammar.specs.Expressions.{base_rule, unsigned_word_rule, stars_rule, operand_rule, postfix_rule, operators_rule, choice_rule, expression_rule, opened_rule, argument_rule, arguments_rule, text_behind_rule, text_after_rule}
use Rattle.mdr_grammar.specs.Declarations.{constant_rule, size_rule, annotation_rule, value_rule, specifiers_rule, declarator_rule, parameter_name_rule, parameter_declarator_rule, parameter_rule, after_void_rule, parameters_rule, unnamed, field_rule, field_group_rule, enumerator_rule, initialiser_rule, initial_rule, element_rule}
use Rattle.mdr_grammar.specs.Statements.{node_at, assignment_rule, simple_rule, right_side_rule, right_rule, local_rule, statement_rule, otherwise_rule, body_rule, plain_rule, block_item_rule, opening_rule, label_rule, clause_rule, global_rule, function_end_rule, function_rule, outer_rule, remote_rule, critical_rule, qualified_rule, fields_rule, item_rule, tree_of}

abbrev pub part_rule : (x : Part) → Sort → Token → Rule (PartValue x)
part_rule (operand casts l d) = operand_rule casts l d
part_rule (expression l d) = expression_rule l d
part_rule (argument l d) = argument_rule l d
part_rule (statement l) = statement_rule l
part_rule (body l) = body_rule l
part_rule (plain l) = plain_rule l
part_rule (simple l d) = simple_rule l d
part_rule (block_item l) = block_item_rule l
part_rule (opening l d) = opening_rule l d
part_rule (local first b l d) = local_rule first b l d
part_rule (right l d) = right_rule l d
part_rule (right_side l d) = right_side_rule l d
part_rule label = label_rule
part_rule (clause l) = clause_rule l
part_rule base = base_rule
part_rule specifiers = specifiers_rule
part_rule size = size_rule
part_rule (annotation d) = annotation_rule d
part_rule constant = constant_rule
part_rule value = value_rule
part_rule (declarator d b k) = declarator_rule d b k
part_rule (parameter named d) = parameter_rule named d
part_rule (field b) = field_rule b
part_rule field_group = field_group_rule
part_rule enumerator = enumerator_rule
part_rule initial = initial_rule
part_rule (initialiser n) = initialiser_rule n
part_rule (element n) = element_rule n
part_rule (global first b) = global_rule first b
part_rule item = item_rule

abbrev pub comma_rule : {A : Type 0} → Right A → Sort → Rule A
comma_rule r Sort.Comma = always r
comma_rule r _ = never

abbrev pub rule : (n : Nonterminal) → Sort → Token → Rule (Value n)
rule (part x) s t = part_rule x s t
rule (option allowed x) s t = where_allowed allowed (and_then (part_rule x s t) (λ v. gives (Some v)))
rule (many allowed x so_far) s t = where_allowed allowed (and_then (part_rule (repeated x) s t) (λ v. form (many allowed x (so_far ++ (v ∷ [])))))
rule (commas x so_far) s t = comma_rule (form (part (separated x)) >>= λ v. form (commas x (so_far ++ (v ∷ [])))) s
rule (commas_open x so_far) s t = comma_rule (form (after_comma x so_far)) s
rule (after_comma x so_far) s t = and_then (part_rule (enclosed x) s t) (λ v. form (commas_open x (so_far ++ (v ∷ []))))
rule (postfix l d first f alone) s t = postfix_rule l d first f s t
rule (operators precedence l d f) s t = operators_rule precedence l d f s t
rule (choice l d f) s t = choice_rule l d f s t
rule (opened l d first) s t = opened_rule l d first s t
rule (arguments l d) s t = arguments_rule l d s t
rule (stars k) s t = stars_rule k s t
rule text_behind s t = text_behind_rule s t
rule text_after s t = text_after_rule s t
rule unsigned_word s t = unsigned_word_rule s t
rule (assignment first l d f alone) s t = assignment_rule first l d f s t
rule (otherwise l closed) s t = otherwise_rule l closed s t
rule (parameters named d) s t = parameters_rule named d s t
rule (after_void named d place) s t = after_void_rule named d place s t
rule (parameter_name named) s t = parameter_name_rule s t
rule (parameter_declarator named d b k) s t = parameter_declarator_rule named d b k s t
rule (qualified first) s t = qualified_rule first s t
rule (outer first b k) s t = outer_rule first b k s t
rule (remote first b k) s t = remote_rule first b k s t
rule (critical first b k) s t = critical_rule first b k s t
rule (function first b k name) s t = function_rule first b k name s t
rule (function_end first h) s t = function_end_rule first h s t
rule (fields first name) s t = fields_rule first name s t

abbrev pub empty : (n : Nonterminal) → Empty (Value n)
empty (option allowed x) = may true None
empty (many allowed x so_far) = may true so_far
empty (commas x so_far) = may true so_far
empty (commas_open x so_far) = may true so_far
empty (after_comma x so_far) = may true so_far
empty (postfix l d first f alone) = may true (record { form = f; alone = alone })
empty (operators precedence l d f) = may true f
empty (choice l d f) = may true f
empty (arguments l d) = may true []
empty (stars k) = may true k
empty text_behind = may true None
empty unsigned_word = may true (base_type.Int U32)
-- a call, and a form with `++` or `--`, is a statement
empty (assignment first l d f alone) = may alone (node_at first (NodeWhat.Plain f))
empty (otherwise l closed) = may true None
empty (after_void named d place) = may true []
empty (parameter_name named) = may (not named) None
empty (parameter_declarator named d b k) = may (not named) (unnamed b k None)
empty (function first b k name) = may true None
empty (fields first name) = may true None
empty _ = cannot

mutual
  -- A nonterminal reads the tokens up to a rest, and gives a value: none, where it may be empty, or a first token and what follows it in a production.
  pub data Gets (halves : Bool) : (n : Nonterminal) → (ts rest : List Token) → Value n → Type 0 where
    absent : {n : Nonterminal} {v : Value n} {ts : List Token} → empty n ≡ may true v → Gets halves n ts ts v
    present : {n : Nonterminal} {r : Right (Value n)} {t : Token} {ts rest : List Token} {v : Value n} → rule n (sort_of halves t.what) t ≡ given true r → Follows halves n r ts rest v → Gets halves n (t ∷ ts) rest v

  -- what is left of a production of the nonterminal reads the tokens up to a rest
  pub data Follows (halves : Bool) : (n : Nonterminal) → Right (Value n) → (ts rest : List Token) → Value n → Type 0 where
    done : {n : Nonterminal} {v : Value n} {ts : List Token} → Follows halves n (gives v) ts ts v
    word : {n : Nonterminal} {s : Sort} {r : Token → Right (Value n)} {t : Token} {ts rest : List Token} {v : Value n} → IsTrue (is s (sort_of halves t.what)) → Follows halves n (r t) ts rest v → Follows halves n (takes s r) (t ∷ ts) rest v
    both : {n m : Nonterminal} {k : Value m → Right (Value n)} {x : Value m} {ts mid rest : List Token} {v : Value n} → Gets halves m ts mid x → Follows halves n (k x) mid rest v → Follows halves n (then m k) ts rest v

-- The tokens are a source with this tree: items up to the end.
pub record Reads (halves : Bool) (ts : List Token) (tree : Tree) : Type 0 where
  pub items_of : List (List Item)
  pub end : Token
  pub found : Gets halves (many true items []) ts (end ∷ []) items_of
  pub at_end : IsTrue (is Sort.End (sort_of halves end.what))
  pub is_tree : tree ≡ tree_of items_of
