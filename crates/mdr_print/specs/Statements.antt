-- believed
-- Statements (C99 6.8).
use Rattle.std.specs.Prelude.{ℕ, suc, Bool, true, false, List, [], ◌∷◌, map, Option, Some, None, codes}
use Rattle.mdr_syntax.specs.declared.tree.Form.{Form}
use Rattle.mdr_syntax.specs.declared.tree.Label.{Label}
use Rattle.mdr_syntax.specs.declared.tree.Const.{Const}
use Rattle.mdr_syntax.specs.declared.tree.Node.{Node}
use Rattle.mdr_syntax.specs.declared.tree.NodeWhat.{NodeWhat}
use Rattle.mdr_syntax.specs.declared.tree.Clause.{Clause}
use Rattle.mdr_syntax.specs.declared.tree.NodeWhat.TheOpen.{NodeWhat-F, Node-F, Clause-F}
use Rattle.mdr_syntax.specs.declared.tree.NodeWhat.TheFolds.{fold-Node, fold-NodeWhat, fold-Clause}
use Rattle.mdr_print.specs.Marks.{Marks, nothing, word, sign, blank, newline, tabs, spaced, comma_unless, row, in_parentheses, ◌▸◌}
use Rattle.mdr_print.specs.Forms.{form, left_side}
use Rattle.mdr_print.specs.Declarations.{constant, declaration, declarator, equals}

-- how a statement is written: its words, where its line has so many tabs; the lines that it has as a body;
-- and what stands for it in the head of a `for`, as the first there and behind a comma
pub record Written : Type 0 where
  pub words : ℕ → Marks
  pub body : ℕ → Marks
  pub first : Marks
  pub further : Marks

abbrev pub semicolon : Marks
semicolon = sign (codes ";")

abbrev pub line : ℕ → (ℕ → Marks) → Marks
line depth words = tabs depth ▸ words depth ▸ newline

abbrev pub line_of : ℕ → Written → Marks
line_of depth s = line depth s.words

abbrev pub lines : ℕ → List Written → Marks
lines depth ss = row (map (line_of depth) ss)

-- `{` ends its line
abbrev pub opened : Marks
opened = sign (codes "{") ▸ newline

-- `}` stands at the front of one
abbrev pub closed : ℕ → Marks
closed depth = tabs depth ▸ sign (codes "}")

abbrev pub braced : ℕ → (ℕ → Marks) → Marks
braced depth body = opened ▸ body (suc depth) ▸ closed depth

-- a word, and behind a blank what it is about, in parentheses
abbrev pub clause_head : List ℕ → Marks → Marks
clause_head text inner = word text ▸ blank ▸ in_parentheses inner

-- a body that isn't a block is a block of one
abbrev pub sole : (ℕ → Marks) → Written
sole words = record { words = words; body = λ depth. line depth words; first = nothing; further = nothing }

-- what ends with a semicolon, and has none in the head of a `for`
abbrev pub simple : (first further : Marks) → Written
simple first further = record {
  words = λ depth. first ▸ semicolon;
  body = λ depth. line depth (λ _. first ▸ semicolon);
  first = first;
  further = further;
}

abbrev pub block_words : List Written → ℕ → Marks
block_words ss depth = braced depth (λ inside. lines inside ss)

abbrev pub block : List Written → Written
block ss = record { words = block_words ss; body = λ depth. lines depth ss; first = nothing; further = nothing }

abbrev pub assigned : Option Form → Marks
assigned None rest = rest
assigned (Some f) rest = equals (form f rest)

abbrev pub optional : Option Form → Marks
optional None rest = rest
optional (Some f) rest = form f rest

abbrev pub step_of : Option Written → Marks
step_of None rest = rest
step_of (Some s) rest = s.first rest

abbrev pub words_of : ℕ → Written → Marks
words_of depth s = s.words depth

abbrev pub body_of : ℕ → Written → Marks
body_of depth s = s.body depth

abbrev pub first_of : Written → Marks
first_of s = s.first

abbrev pub further_of : Written → Marks
further_of s = s.further

abbrev pub head_part : (is_first : Bool) → Written → Marks
head_part true s = s.first
head_part false s = s.further

-- the declarators of a `for`'s init stand as one list behind their base type
abbrev pub head_list : (is_first : Bool) → List Written → Marks
head_list is_first [] rest = rest
head_list is_first (s ∷ ss) rest = comma_unless is_first (head_part is_first s (head_list false ss rest))

-- behind each semicolon in the head stands a blank
abbrev pub next_part : Marks
next_part = semicolon ▸ blank

abbrev pub for_test : Option Form → Marks
for_test test = next_part ▸ optional test ▸ next_part

abbrev pub for_parts : List Written → Option Form → Option Written → Marks
for_parts init test step = head_list true init ▸ for_test test ▸ step_of step

abbrev pub at : ℕ → (ℕ → Marks) → Marks
at depth words = words depth

-- the clauses of a `switch`
abbrev pub clauses_words : List (ℕ → Marks) → ℕ → Marks
clauses_words clauses depth = braced depth (λ inside. row (map (at inside) clauses))

abbrev pub otherwise : ℕ → Option Written → Marks
otherwise depth None rest = rest
otherwise depth (Some s) rest = blank (word (codes "else") (blank (braced depth s.body rest)))

abbrev pub returned : Option Form → Marks
returned None rest = rest
returned (Some f) rest = blank (form f rest)

abbrev pub what_written : NodeWhat-F Written (ℕ → Marks) Written → Written
what_written NodeWhat-F.Empty = sole (λ depth. semicolon)
what_written (NodeWhat-F.Block ss) = block ss
what_written (NodeWhat-F.Local d value) = simple (declaration d ▸ assigned value) (declarator d ▸ assigned value)
what_written (NodeWhat-F.Assign place op a b) = simple (left_side a ▸ spaced op ▸ form b) nothing
what_written (NodeWhat-F.Plain f) = simple (form f) nothing
what_written (NodeWhat-F.If test a b) = sole (λ depth. clause_head (codes "if") (form test) ▸ blank ▸ braced depth a.body ▸ otherwise depth b)
what_written (NodeWhat-F.While test a) = sole (λ depth. clause_head (codes "while") (form test) ▸ blank ▸ braced depth a.body)
what_written (NodeWhat-F.For init test step a) = sole (λ depth. clause_head (codes "for") (for_parts init test step) ▸ blank ▸ braced depth a.body)
what_written (NodeWhat-F.Do a test) = sole (λ depth. word (codes "do") ▸ blank ▸ braced depth a.body ▸ blank ▸ clause_head (codes "while") (form test) ▸ semicolon)
what_written (NodeWhat-F.Switch value clauses) = sole (λ depth. clause_head (codes "switch") (form value) ▸ blank ▸ clauses_words clauses depth)
what_written (NodeWhat-F.Return value) = sole (λ depth. word (codes "return") ▸ returned value ▸ semicolon)
what_written NodeWhat-F.Break = sole (λ depth. word (codes "break") ▸ semicolon)
what_written NodeWhat-F.Continue = sole (λ depth. word (codes "continue") ▸ semicolon)

abbrev pub node_written : Node-F Written (ℕ → Marks) Written → Written
node_written n = n.what

abbrev pub label_words : Option Const → Marks
label_words None = word (codes "default")
label_words (Some c) = word (codes "case") ▸ blank ▸ constant c

abbrev pub label : ℕ → Label → Marks
label depth l = tabs depth ▸ label_words l.value ▸ sign (codes ":") ▸ newline

-- labels at the depth of a nested line, and their statements one deeper
abbrev pub clause_lines : List Label → List Written → ℕ → Marks
clause_lines labels ss depth = row (map (label depth) labels) ▸ lines (suc depth) ss

abbrev pub clause_written : Clause-F Written (ℕ → Marks) Written → ℕ → Marks
clause_written c = clause_lines c.labels c.body

abbrev pub written : Node → Written
written = fold-Node Written (ℕ → Marks) Written what_written clause_written node_written

abbrev pub written_what : NodeWhat → Written
written_what = fold-NodeWhat Written (ℕ → Marks) Written what_written clause_written node_written

abbrev pub written_clause : Clause → ℕ → Marks
written_clause = fold-Clause Written (ℕ → Marks) Written what_written clause_written node_written
