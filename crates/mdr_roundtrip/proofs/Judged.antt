-- What is known of tokens by their sorts, and of the values that nonterminals give.
use Rattle.std.specs.Prelude.{Bool, true, ◌&&◌, nat_lt, List}
use Rattle.std.specs.List.{list_all}
use Rattle.mdr_syntax.specs.declared.token.Lexeme.{Lexeme}
use Rattle.mdr_syntax.specs.declared.tree.Decl.{Decl}
use Rattle.mdr_syntax.specs.declared.tree.Item.{Item}
use Rattle.mdr_syntax.specs.declared.tree.Node.{Node}
use Rattle.mdr_roundtrip.specs.Words.{is_word, is_written, is_writable, is_sign, is_prefix, is_step, is_base}
use Rattle.mdr_roundtrip.specs.Printable.{is_printable_form}
use Rattle.mdr_roundtrip.specs.PrintableDeclarations.{maybe, is_constant, is_annotation, is_printable_decl, is_printable_init, is_printable_elem}
use Rattle.mdr_roundtrip.specs.PrintableStatements.{is_label, is_printable_node, is_printable_clause}
use Rattle.mdr_roundtrip.specs.Whole.{is_printable_head, is_printable_enumerator, is_defined, is_printable_line}
use Rattle.mdr_grammar.specs.declared.sort.Sort.{Sort}
use Rattle.mdr_grammar.specs.Forms.{Part, PartValue, repeated, separated, enclosed, Nonterminal, Value, Right, Rule}
use Rattle.mdr_grammar.specs.Forms.Part.{operand, expression, argument, statement, body, plain, simple, block_item, opening, local, right, right_side, label, clause, base, specifiers, size, annotation, constant, value, declarator, parameter, field, field_group, enumerator, initial, initialiser, element, global, item}
use Rattle.mdr_grammar.specs.Forms.Nonterminal.{part, option, many, commas, commas_open, after_comma, postfix, operators, choice, opened, arguments, stars, text_behind, text_after, unsigned_word, assignment, otherwise, parameters, after_void, parameter_name, parameter_declarator, qualified, outer, remote, critical, function, function_end, fields}
use Rattle.mdr_grammar.specs.Forms.Rule.{never, given}
use Rattle.mdr_grammar.specs.Expressions.{text_of, number_in, kind_in}
use Rattle.mdr_roundtrip.proofs.Judges.{Judge, SoundBy}

-- ---- tokens

abbrev pub meets : Sort → Lexeme → Bool
meets Sort.Name x = is_word (text_of x)
meets Sort.Service x = is_word (text_of x)
meets Sort.Number x = is_written (number_in x) (kind_in x)
meets Sort.Text x = list_all is_writable (text_of x)
meets Sort.Define x = is_defined (text_of x) && is_written (number_in x) (kind_in x)
meets Sort.Equals x = is_sign (text_of x)
meets Sort.Compound x = is_sign (text_of x)
meets Sort.Question x = is_sign (text_of x)
meets Sort.OrElse x = is_sign (text_of x)
meets Sort.AndThen x = is_sign (text_of x)
meets Sort.Or x = is_sign (text_of x)
meets Sort.Xor x = is_sign (text_of x)
meets Sort.Equality x = is_sign (text_of x)
meets Sort.Relation x = is_sign (text_of x)
meets Sort.Shift x = is_sign (text_of x)
meets Sort.Slash x = is_sign (text_of x)
meets Sort.And x = is_prefix (text_of x) && is_sign (text_of x)
meets Sort.Plus x = is_prefix (text_of x) && is_sign (text_of x)
meets Sort.Minus x = is_prefix (text_of x) && is_sign (text_of x)
meets Sort.Star x = is_prefix (text_of x) && is_sign (text_of x)
meets Sort.Not x = is_prefix (text_of x)
meets Sort.Step x = is_prefix (text_of x) && is_step (text_of x)
meets _ x = true

-- of a token inside a production
abbrev pub told : Sort → Lexeme → Bool
told Sort.Name x = is_word (text_of x)
told Sort.Number x = is_written (number_in x) (kind_in x)
told _ x = true

-- ---- values

abbrev pub all_nodes : List Node → Bool
all_nodes ns = list_all is_printable_node ns

abbrev pub all_decls : List Decl → Bool
all_decls ds = list_all is_printable_decl ds

abbrev pub all_lines : List Item → Bool
all_lines is = list_all is_printable_line is

abbrev pub good_part : (x : Part) → PartValue x → Bool
good_part (operand casts l d) v = is_printable_form v.form
good_part (expression l d) v = is_printable_form v
good_part (argument l d) v = is_printable_form v
good_part (statement l) v = is_printable_node v.node
good_part (body l) v = is_printable_node v.node
good_part (plain l) v = is_printable_node v
good_part (simple l d) v = is_printable_node v
good_part (block_item l) v = all_nodes v
good_part (opening l d) v = all_nodes v
good_part (local first b l d) v = is_printable_node v
good_part (right l d) v = is_printable_form v
good_part (right_side l d) v = is_printable_form v
good_part label v = is_label v
good_part (clause l) v = is_printable_clause v
good_part base v = is_base v.base
good_part specifiers v = is_base v.base
good_part size v = is_constant v
good_part (annotation d) v = is_annotation v
good_part constant v = is_constant v
good_part value v = is_constant v
good_part (declarator d b k) v = is_printable_decl v
good_part (parameter named d) v = is_printable_decl v
good_part (field b) v = is_printable_decl v
good_part field_group v = all_decls v
good_part enumerator v = is_printable_enumerator v
good_part initial v = is_printable_init v
good_part (initialiser n) v = is_printable_init v
good_part (element n) v = is_printable_elem v
good_part (global first b) v = is_printable_line v
good_part item v = all_lines v

abbrev pub good : (n : Nonterminal) → Value n → Bool
good (part x) v = good_part x v
good (option allowed x) v = maybe (good_part x) v
good (many allowed x so_far) v = list_all (good_part (repeated x)) v
good (commas x so_far) v = list_all (good_part (separated x)) v
good (commas_open x so_far) v = list_all (good_part (enclosed x)) v
good (after_comma x so_far) v = list_all (good_part (enclosed x)) v
good (postfix l d first form alone) v = is_printable_form v.form
good (operators precedence l d form) v = is_printable_form v
good (choice l d form) v = is_printable_form v
good (opened l d first) v = is_printable_form v.form
good (arguments l d) v = list_all is_printable_form v
good (stars k) v = true
good text_behind v = maybe is_printable_form v
good text_after v = is_printable_form v
good unsigned_word v = is_base v
good (assignment first l d form alone) v = is_printable_node v
good (otherwise l closed) v = maybe (λ e. is_printable_node e.node) v
good (parameters named d) v = all_decls v
good (after_void named d place) v = all_decls v
good (parameter_name named) v = maybe (λ t. is_word (text_of t.what)) v
good (parameter_declarator named d b k) v = is_printable_decl v
good (qualified first) v = all_lines v
good (outer first b k) v = all_lines v
good (remote first b k) v = all_lines v
good (critical first b k) v = all_lines v
good (function first b k name) v = maybe all_lines v
good (function_end first head) v = all_lines v
good (fields first name) v = maybe all_lines v

-- ---- what nonterminals are given

abbrev pub fits_part : Part → Bool
fits_part (local first b l d) = is_base b.base
fits_part (declarator d b k) = is_base b.base
fits_part (field b) = is_base b.base
fits_part (global first b) = is_base b.base
fits_part _ = true

abbrev pub fits : Nonterminal → Bool
fits (part x) = fits_part x
fits (option allowed x) = fits_part x
fits (many allowed x so_far) = list_all (good_part (repeated x)) so_far
fits (commas x so_far) = fits_part (separated x) && list_all (good_part (separated x)) so_far
fits (commas_open x so_far) = list_all (good_part (enclosed x)) so_far
fits (after_comma x so_far) = list_all (good_part (enclosed x)) so_far
fits (postfix l d first form alone) = is_printable_form form
fits (operators precedence l d form) = nat_lt 0 precedence && is_printable_form form
fits (choice l d form) = is_printable_form form
fits (assignment first l d form alone) = is_printable_form form
fits (parameter_declarator named d b k) = is_base b.base
fits (outer first b k) = is_base b.base
fits (remote first b k) = is_base b.base
fits (critical first b k) = is_base b.base
fits (function first b k name) = is_base b.base && is_word (text_of name.what)
fits (function_end first head) = is_printable_head head
fits (fields first name) = is_word (text_of name.what)
fits _ = true

-- ---- productions

abbrev pub printable : Judge
printable = record { told = told; good = good; fits = fits }

abbrev pub Sound : {A : Type 0} → Right A → (A → Bool) → Type 0
Sound r p = SoundBy printable r p

-- whether its test holds or not
abbrev pub SoundRule : {A : Type 0} → Rule A → (A → Bool) → Type 0
SoundRule never p = Unit {0}
SoundRule (given allowed r) p = Sound r p
