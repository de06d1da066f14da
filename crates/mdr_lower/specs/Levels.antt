-- protocol
-- How many levels of statements stand in one another when a body is lowered (`Lowering`). What walks over a program's code goes as deep.
use Rattle.std.specs.Prelude.{ℕ, suc, max, List, [], ◌∷◌, length, map}
use Rattle.mdr_rich.specs.declared.code.Clause.{Clause}
use Rattle.mdr_rich.specs.declared.code.Step.{Step}
use Rattle.mdr_rich.specs.declared.code.Step.TheOpen.{Step-F, Clause-F, Stmt-F}
use Rattle.mdr_rich.specs.declared.code.Step.TheFolds.{fold-Step, fold-Clause, fold-Stmt}
use Rattle.mdr_rich.specs.declared.code.Stmt.{Stmt}

-- a list has the levels of the deepest of its statements
abbrev pub deepest : List ℕ → ℕ
deepest [] = 0
deepest (n ∷ ns) = max n (deepest ns)

-- a list that is part of a statement is one level more
abbrev pub part : List ℕ → ℕ
part ns = suc (deepest ns)

-- each clause of a `switch` stands in the `else` of the one before it, and what `default` does in that of the last one
abbrev pub tried : List ℕ → (default : ℕ) → ℕ
tried [] d = d
tried (c ∷ cs) d = max c (suc (tried cs d))

abbrev pub step_layer : Step-F ℕ ℕ ℕ → ℕ
step_layer (Step-F.Declare i) = 0
step_layer (Step-F.Text i text) = 0
step_layer (Step-F.Assign p e) = 0
step_layer (Step-F.Call target form) = 0
step_layer (Step-F.If e one other) = max (part one) (part other)
step_layer (Step-F.While e body) = part body
step_layer (Step-F.For init test next body) = max (part init) (max (part next) (part body))
step_layer (Step-F.Do body e) = part body
step_layer (Step-F.Switch e clauses body) = tried clauses (part body)
step_layer (Step-F.Return e) = 0
step_layer (Step-F.ReturnCall form) = 0
step_layer Step-F.Break = 0
step_layer Step-F.Continue = 0
step_layer Step-F.Empty = 0
step_layer (Step-F.Block body) = part body

-- the labels of a clause stand in one another as well, in its test
abbrev pub clause_layer : Clause-F ℕ ℕ ℕ → ℕ
clause_layer c = max (length c.labels) (part c.body)

abbrev pub stmt_layer : Stmt-F ℕ ℕ ℕ → ℕ
stmt_layer s = s.step

abbrev pub step_levels : Step → ℕ
step_levels = fold-Step ℕ ℕ ℕ step_layer clause_layer stmt_layer

abbrev pub clause_levels : Clause → ℕ
clause_levels = fold-Clause ℕ ℕ ℕ step_layer clause_layer stmt_layer

abbrev pub stmt_levels : Stmt → ℕ
stmt_levels = fold-Stmt ℕ ℕ ℕ step_layer clause_layer stmt_layer

-- the statements of a body
abbrev pub levels : List Stmt → ℕ
levels ss = deepest (map stmt_levels ss)
