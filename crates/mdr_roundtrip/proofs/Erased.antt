-- What the grammar's nonterminals and values are with their places set to one.
use Rattle.std.proofs.Common.{map}
use Rattle.std.specs.Option.{option_map}
use Rattle.mdr_syntax.specs.declared.token.Token.{Token}
use Rattle.mdr_grammar.specs.declared.parts.Ended.{Ended}
use Rattle.mdr_grammar.specs.declared.parts.Specifier.{Specifier}
use Rattle.mdr_grammar.specs.Forms.{Operand, Part, PartValue, Repeated, repeated, Separated, separated, Enclosed, enclosed, Nonterminal, Value}
use Rattle.mdr_grammar.specs.Forms.Part.{operand, expression, argument, statement, body, plain, simple, block_item, opening, local, right, right_side, label, clause, base, specifiers, size, annotation, constant, value, declarator, parameter, field, field_group, enumerator, initial, initialiser, element, global, item}
use Rattle.mdr_grammar.specs.Forms.Repeated.{block_items, statements, clauses, labels, field_groups, items}
use Rattle.mdr_grammar.specs.Forms.Separated.{arguments_at, locals, parameters_at, fields_of, globals}
use Rattle.mdr_grammar.specs.Forms.Enclosed.{enumerators, elements}
use Rattle.mdr_grammar.specs.Forms.Nonterminal.{part, option, many, commas, commas_open, after_comma, postfix, operators, choice, opened, arguments, stars, text_behind, text_after, unsigned_word, assignment, otherwise, parameters, after_void, parameter_name, parameter_declarator, qualified, outer, remote, critical, function, function_end, fields}
use Rattle.mdr_roundtrip.specs.Unplaced.{nowhere, at, unplaced_base, unplaced_form}
use Rattle.mdr_roundtrip.specs.Initialised.{unplaced_const, unplaced_init, unplaced_elem}
use Rattle.mdr_roundtrip.specs.Declarations.{unplaced_annotation, unplaced_decl}
use Rattle.mdr_roundtrip.specs.Stated.{unplaced_label, unplaced_node, unplaced_clause}
use Rattle.mdr_roundtrip.specs.Itemised.{unplaced_enumerator, unplaced_head, unplaced_item}

abbrev pub erased_token : Token → Token
erased_token t = at t.what

abbrev pub erased_specifier : Specifier → Specifier
erased_specifier b = record { base = unplaced_base b.base; place = nowhere }

abbrev pub erased_operand : Operand → Operand
erased_operand x = record { form = unplaced_form x.form; alone = x.alone }

abbrev pub erased_ended : Ended → Ended
erased_ended x = record { node = unplaced_node x.node; closed = x.closed }

abbrev pub erased_part : Part → Part
erased_part (operand casts l d) = operand casts l d
erased_part (expression l d) = expression l d
erased_part (argument l d) = argument l d
erased_part (statement l) = statement l
erased_part (body l) = body l
erased_part (plain l) = plain l
erased_part (simple l d) = simple l d
erased_part (block_item l) = block_item l
erased_part (opening l d) = opening l d
erased_part (local first b l d) = local nowhere (erased_specifier b) l d
erased_part (right l d) = right l d
erased_part (right_side l d) = right_side l d
erased_part label = label
erased_part (clause l) = clause l
erased_part base = base
erased_part specifiers = specifiers
erased_part size = size
erased_part (annotation d) = annotation d
erased_part constant = constant
erased_part value = value
erased_part (declarator d b k) = declarator d (erased_specifier b) k
erased_part (parameter named d) = parameter named d
erased_part (field b) = field (erased_specifier b)
erased_part field_group = field_group
erased_part enumerator = enumerator
erased_part initial = initial
erased_part (initialiser n) = initialiser n
erased_part (element n) = element n
erased_part (global first b) = global nowhere (erased_specifier b)
erased_part item = item

abbrev pub erased_value_of : (x : Part) → PartValue x → PartValue (erased_part x)
erased_value_of (operand casts l d) v = erased_operand v
erased_value_of (expression l d) v = unplaced_form v
erased_value_of (argument l d) v = unplaced_form v
erased_value_of (statement l) v = erased_ended v
erased_value_of (body l) v = erased_ended v
erased_value_of (plain l) v = unplaced_node v
erased_value_of (simple l d) v = unplaced_node v
erased_value_of (block_item l) v = map unplaced_node v
erased_value_of (opening l d) v = map unplaced_node v
erased_value_of (local first b l d) v = unplaced_node v
erased_value_of (right l d) v = unplaced_form v
erased_value_of (right_side l d) v = unplaced_form v
erased_value_of label v = unplaced_label v
erased_value_of (clause l) v = unplaced_clause v
erased_value_of base v = erased_specifier v
erased_value_of specifiers v = erased_specifier v
erased_value_of size v = unplaced_const v
erased_value_of (annotation d) v = unplaced_annotation v
erased_value_of constant v = unplaced_const v
erased_value_of value v = unplaced_const v
erased_value_of (declarator d b k) v = unplaced_decl v
erased_value_of (parameter named d) v = unplaced_decl v
erased_value_of (field b) v = unplaced_decl v
erased_value_of field_group v = map unplaced_decl v
erased_value_of enumerator v = unplaced_enumerator v
erased_value_of initial v = unplaced_init v
erased_value_of (initialiser n) v = unplaced_init v
erased_value_of (element n) v = unplaced_elem v
erased_value_of (global first b) v = unplaced_item v
erased_value_of item v = map unplaced_item v

abbrev pub erased_repeated : (x : Repeated) → PartValue (repeated x) → PartValue (repeated x)
erased_repeated (block_items l) v = map unplaced_node v
erased_repeated (statements l) v = unplaced_node v
erased_repeated (clauses l) v = unplaced_clause v
erased_repeated labels v = unplaced_label v
erased_repeated field_groups v = map unplaced_decl v
erased_repeated items v = map unplaced_item v

abbrev pub erased_separated : Separated → Separated
erased_separated (arguments_at l d) = arguments_at l d
erased_separated (locals first b l d) = locals nowhere (erased_specifier b) l d
erased_separated (parameters_at named d) = parameters_at named d
erased_separated (fields_of b) = fields_of (erased_specifier b)
erased_separated (globals first b) = globals nowhere (erased_specifier b)

abbrev pub erased_between : (x : Separated) → PartValue (separated x) → PartValue (separated (erased_separated x))
erased_between (arguments_at l d) v = unplaced_form v
erased_between (locals first b l d) v = unplaced_node v
erased_between (parameters_at named d) v = unplaced_decl v
erased_between (fields_of b) v = unplaced_decl v
erased_between (globals first b) v = unplaced_item v

abbrev pub erased_inside : (x : Enclosed) → PartValue (enclosed x) → PartValue (enclosed x)
erased_inside enumerators v = unplaced_enumerator v
erased_inside (elements n) v = unplaced_elem v

abbrev pub erased : Nonterminal → Nonterminal
erased (part x) = part (erased_part x)
erased (option allowed x) = option allowed (erased_part x)
erased (many allowed x so_far) = many allowed x (map (erased_repeated x) so_far)
erased (commas x so_far) = commas (erased_separated x) (map (erased_between x) so_far)
erased (commas_open x so_far) = commas_open x (map (erased_inside x) so_far)
erased (after_comma x so_far) = after_comma x (map (erased_inside x) so_far)
erased (postfix l d first form alone) = postfix l d nowhere (unplaced_form form) alone
erased (operators precedence l d form) = operators precedence l d (unplaced_form form)
erased (choice l d form) = choice l d (unplaced_form form)
erased (opened l d first) = opened l d nowhere
erased (arguments l d) = arguments l d
erased (stars k) = stars k
erased text_behind = text_behind
erased text_after = text_after
erased unsigned_word = unsigned_word
erased (assignment first l d form alone) = assignment nowhere l d (unplaced_form form) alone
erased (otherwise l closed) = otherwise l closed
erased (parameters named d) = parameters named d
erased (after_void named d place) = after_void named d nowhere
erased (parameter_name named) = parameter_name named
erased (parameter_declarator named d b k) = parameter_declarator named d (erased_specifier b) k
erased (qualified first) = qualified nowhere
erased (outer first b k) = outer nowhere (erased_specifier b) k
erased (remote first b k) = remote nowhere (erased_specifier b) k
erased (critical first b k) = critical nowhere (erased_specifier b) k
erased (function first b k name) = function nowhere (erased_specifier b) k (erased_token name)
erased (function_end first head) = function_end nowhere (unplaced_head head)
erased (fields first name) = fields nowhere (erased_token name)

abbrev pub erased_value : (n : Nonterminal) → Value n → Value (erased n)
erased_value (part x) v = erased_value_of x v
erased_value (option allowed x) v = option_map (erased_value_of x) v
erased_value (many allowed x so_far) v = map (erased_repeated x) v
erased_value (commas x so_far) v = map (erased_between x) v
erased_value (commas_open x so_far) v = map (erased_inside x) v
erased_value (after_comma x so_far) v = map (erased_inside x) v
erased_value (postfix l d first form alone) v = erased_operand v
erased_value (operators precedence l d form) v = unplaced_form v
erased_value (choice l d form) v = unplaced_form v
erased_value (opened l d first) v = erased_operand v
erased_value (arguments l d) v = map unplaced_form v
erased_value (stars k) v = v
erased_value text_behind v = option_map unplaced_form v
erased_value text_after v = unplaced_form v
erased_value unsigned_word v = unplaced_base v
erased_value (assignment first l d form alone) v = unplaced_node v
erased_value (otherwise l closed) v = option_map erased_ended v
erased_value (parameters named d) v = map unplaced_decl v
erased_value (after_void named d place) v = map unplaced_decl v
erased_value (parameter_name named) v = option_map erased_token v
erased_value (parameter_declarator named d b k) v = unplaced_decl v
erased_value (qualified first) v = map unplaced_item v
erased_value (outer first b k) v = map unplaced_item v
erased_value (remote first b k) v = map unplaced_item v
erased_value (critical first b k) v = map unplaced_item v
erased_value (function first b k name) v = option_map (map unplaced_item) v
erased_value (function_end first head) v = map unplaced_item v
erased_value (fields first name) v = option_map (map unplaced_item) v
