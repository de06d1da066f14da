-- believed
-- The clauses of a `switch`, whose statements are known (C99 6.8.4.2).
use Rattle.std.specs.Prelude.{◌||◌, Bool, true, false, List, [], ◌∷◌, ◌++◌}
use Rattle.mdr_rich.specs.declared.code.Clause.{Clause}
use Rattle.mdr_rich.specs.declared.code.Step.TheViews.{roll-Clause}
use Rattle.mdr_rich.specs.declared.code.Stmt.{Stmt}
use Rattle.mdr_core.specs.declared.kind.Kind.{Kind}
use Rattle.mdr_core.specs.declared.kind.Kind.TheVariants.{S32}
use Rattle.mdr_core.specs.declared.place.Place.{Place}
use Rattle.mdr_core.specs.Conversions.{promoted}
use Rattle.mdr_core.specs.Layout.{chosen}
use Rattle.mdr_syntax.specs.declared.tree.Label.{Label}
use Rattle.mdr_faults.specs.Faults.{Checked, Right, Wrong, after}
use Rattle.mdr_operand.specs.declared.operand.Integer.{Integer}
use Rattle.mdr_operand.specs.declared.operand.Operand.{Operand}
use Rattle.mdr_operand.specs.Forms.{at_kind, integer_at}
use Rattle.mdr_operand.specs.Written.{Line, Lines, Clauses}
use Rattle.mdr_body.specs.declared.clauses.MadeClause.{MadeClause}
use Rattle.mdr_body.specs.declared.clauses.SortedClauses.{SortedClauses}
use Rattle.mdr_body.specs.declared.labels.CaseLabel.{CaseLabel}
use Rattle.mdr_body.specs.Labels.{cases, has_default}

-- ---- the value that is tested

abbrev pub promoted_value : Integer → Checked Integer
promoted_value n = Right (record { value = at_kind (promoted n.kind) n; kind = promoted n.kind })

-- an integer, promoted (paragraphs 1 and 5)
unfoldable pub switch_value : Place → Operand → Checked Integer
switch_value p x = after (integer_at p x) promoted_value

-- the kind of the labels. Where the value is wrong it doesn't matter, since their faults stand behind that of the value
abbrev pub label_kind : Checked Integer → Kind
label_kind (Right n) = n.kind
label_kind (Wrong f) = S32

-- ---- where a clause ends

-- a clause begins with a label
abbrev pub clause_place : (at : Place) → List Label → Place
clause_place at [] = at
clause_place at (l ∷ ls) = l.place

abbrev pub leaves : Line → Bool
leaves (Line.Empty p) = false
leaves (Line.Block p ls) = false
leaves (Line.Local p d init) = false
leaves (Line.Assign p at op a b) = false
leaves (Line.Plain p w) = false
leaves (Line.If p e one other) = false
leaves (Line.While p e body) = false
leaves (Line.For p init test step body) = false
leaves (Line.Do p body e) = false
leaves (Line.Switch p e cs) = false
leaves (Line.Return p e) = true
leaves (Line.Break p) = true
leaves (Line.Continue p) = true

-- the last of some statements leaves them; where there is none, the one before them did or not
abbrev pub last_leaves : (before : Bool) → Lines → Bool
last_leaves before Lines.End = before
last_leaves before (Lines.Then l ls) = last_leaves (leaves l) ls

-- no clause goes on into the one behind it
abbrev pub ends : Lines → (is_last : Bool) → Bool
ends ls is_last = is_last || last_leaves false ls

abbrev pub is_last : (behind : Clauses) → Bool
is_last Clauses.NoPart = true
is_last (Clauses.Part labels ls cs) = false

-- ---- their code

abbrev pub made_clause : Kind → List CaseLabel → List Stmt → Checked (List MadeClause)
made_clause k ls ss = Right (record { is_default = has_default ls; labels = cases k ls; body = ss } ∷ [])

abbrev pub tried_clause : MadeClause → Clause
tried_clause c = roll-Clause (record { labels = c.labels; body = c.body })

-- the clause with `default` is apart from those whose labels are tried
abbrev pub with_clause : SortedClauses → MadeClause → SortedClauses
with_clause s c = chosen c.is_default (record { tried = s.tried; fallback = c.body }) (record { tried = s.tried ++ tried_clause c ∷ []; fallback = s.fallback })

unfoldable pub sorted : SortedClauses → List MadeClause → SortedClauses
sorted s [] = s
sorted s (c ∷ cs) = sorted (with_clause s c) cs

abbrev pub no_clauses : SortedClauses
no_clauses = record { tried = []; fallback = [] }
