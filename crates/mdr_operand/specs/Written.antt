-- believed
-- The forms and statements of a source as plain data: what the rules speak of (C99 6.5, 6.8). Each has its place.
use Rattle.std.specs.Prelude.{ℕ, Bool, List, [], ◌∷◌, map, Option, Some, None}
use Rattle.std.specs.Option.{option_map}
use Rattle.mdr_core.specs.declared.kind.Kind.{Kind}
use Rattle.mdr_core.specs.declared.place.Place.{Place}
use Rattle.mdr_syntax.specs.declared.tree.Base.{Base}
use Rattle.mdr_syntax.specs.declared.tree.Clause.{Clause}
use Rattle.mdr_syntax.specs.declared.tree.Decl.{Decl}
use Rattle.mdr_syntax.specs.declared.tree.Form.{Form}
use Rattle.mdr_syntax.specs.declared.tree.FormWhat.{FormWhat}
use Rattle.mdr_syntax.specs.declared.tree.FormWhat.TheOpen.{Form-F, FormWhat-F}
use Rattle.mdr_syntax.specs.declared.tree.FormWhat.TheFolds.{fold-Form, fold-FormWhat}
use Rattle.mdr_syntax.specs.declared.tree.Label.{Label}
use Rattle.mdr_syntax.specs.declared.tree.Node.{Node}
use Rattle.mdr_syntax.specs.declared.tree.NodeWhat.TheOpen.{Node-F, NodeWhat-F, Clause-F}
use Rattle.mdr_syntax.specs.declared.tree.NodeWhat.TheFolds.{fold-Node, fold-Clause}

-- ---- expressions

mutual
  pub data Written : Type 0 where
    Number : Place → ℕ → Kind → Written
    Null : Place → Written
    Name : Place → List ℕ → Written
    Prefix : Place → (operator : List ℕ) → Written → Written
    -- `x++` and `x--`
    Post : Place → (operator : List ℕ) → Written → Written
    Cast : Place → Base → (stars : ℕ) → Written → Written
    Binary : Place → (operator : List ℕ) → Written → Written → Written
    -- `c ? a : b`
    Choice : Place → Written → Written → Written → Written
    Subscript : Place → Written → Written → Written
    -- a member, with its own place
    Member : Place → Written → (is_arrow : Bool) → (at : Place) → List ℕ → Written
    Call : Place → Written → Writtens → Written
    Text : Place → List ℕ → Written
    -- a type as an argument
    Names : Place → Base → (stars : ℕ) → Written

  pub data Writtens : Type 0 where
    End : Writtens
    Then : Written → Writtens → Writtens

abbrev pub written_list : List Written → Writtens
written_list [] = Writtens.End
written_list (w ∷ ws) = Writtens.Then w (written_list ws)

abbrev pub what_written : FormWhat-F (Place → Written) Written → Place → Written
what_written (FormWhat-F.Number n kind) p = Written.Number p n kind
what_written FormWhat-F.Null p = Written.Null p
what_written (FormWhat-F.Name name) p = Written.Name p name
what_written (FormWhat-F.Prefix op a) p = Written.Prefix p op a
what_written (FormWhat-F.Post op a) p = Written.Post p op a
what_written (FormWhat-F.Cast base n a) p = Written.Cast p base n a
what_written (FormWhat-F.Binary op a b) p = Written.Binary p op a b
what_written (FormWhat-F.Choice c a b) p = Written.Choice p c a b
what_written (FormWhat-F.Subscript a i) p = Written.Subscript p a i
what_written (FormWhat-F.Member a is_arrow at name) p = Written.Member p a is_arrow at name
what_written (FormWhat-F.Call f args) p = Written.Call p f (written_list args)
what_written (FormWhat-F.Text bytes) p = Written.Text p bytes
what_written (FormWhat-F.Base base n) p = Written.Names p base n

abbrev pub form_written : Form-F (Place → Written) Written → Written
form_written f = f.what f.place

abbrev pub written_of : Form → Written
written_of = fold-Form (Place → Written) Written what_written form_written

abbrev pub written_what : FormWhat → Place → Written
written_what = fold-FormWhat (Place → Written) Written what_written form_written

-- ---- statements

mutual
  pub data Line : Type 0 where
    Empty : Place → Line
    Block : Place → Lines → Line
    -- a local, perhaps with its initialiser
    Local : Place → Decl → Option Written → Line
    -- the place of the operator, and the operator
    Assign : Place → (at : Place) → (operator : List ℕ) → Written → Written → Line
    Plain : Place → Written → Line
    If : Place → Written → (one : Line) → (other : Lines) → Line
    While : Place → Written → Line → Line
    For : Place → (init : Lines) → Option Written → (step : Lines) → Line → Line
    Do : Place → Line → Written → Line
    Switch : Place → Written → Clauses → Line
    Return : Place → Option Written → Line
    Break : Place → Line
    Continue : Place → Line

  pub data Lines : Type 0 where
    End : Lines
    Then : Line → Lines → Lines

  -- the clauses of a `switch`: of each its labels, and the statements behind them (6.8.1, 6.8.4.2)
  pub data Clauses : Type 0 where
    NoPart : Clauses
    Part : List Label → Lines → Clauses → Clauses

abbrev pub line_list : List Line → Lines
line_list [] = Lines.End
line_list (l ∷ ls) = Lines.Then l (line_list ls)

-- a clause
abbrev pub Labelled : Type 0
Labelled = List Label × Lines

abbrev pub clause_list : List Labelled → Clauses
clause_list [] = Clauses.NoPart
clause_list (c ∷ cs) = Clauses.Part c.0 c.1 (clause_list cs)

-- what may be missing: no line, or one
abbrev pub perhaps : Option Line → Lines
perhaps None = Lines.End
perhaps (Some l) = Lines.Then l Lines.End

abbrev pub node_what_written : NodeWhat-F (Place → Line) Labelled Line → Place → Line
node_what_written NodeWhat-F.Empty p = Line.Empty p
node_what_written (NodeWhat-F.Block body) p = Line.Block p (line_list body)
node_what_written (NodeWhat-F.Local d value) p = Line.Local p d (option_map written_of value)
node_what_written (NodeWhat-F.Assign at op a b) p = Line.Assign p at op (written_of a) (written_of b)
node_what_written (NodeWhat-F.Plain f) p = Line.Plain p (written_of f)
node_what_written (NodeWhat-F.If e one other) p = Line.If p (written_of e) one (perhaps other)
node_what_written (NodeWhat-F.While e body) p = Line.While p (written_of e) body
node_what_written (NodeWhat-F.For init test step body) p = Line.For p (line_list init) (option_map written_of test) (perhaps step) body
node_what_written (NodeWhat-F.Do body e) p = Line.Do p body (written_of e)
node_what_written (NodeWhat-F.Switch e clauses) p = Line.Switch p (written_of e) (clause_list clauses)
node_what_written (NodeWhat-F.Return e) p = Line.Return p (option_map written_of e)
node_what_written NodeWhat-F.Break p = Line.Break p
node_what_written NodeWhat-F.Continue p = Line.Continue p

abbrev pub clause_written : Clause-F (Place → Line) Labelled Line → Labelled
clause_written c = (c.labels, line_list c.body)

abbrev pub node_written : Node-F (Place → Line) Labelled Line → Line
node_written n = n.what n.place

abbrev pub line_of : Node → Line
line_of = fold-Node (Place → Line) Labelled Line node_what_written clause_written node_written

abbrev pub clause_of : Clause → Labelled
clause_of = fold-Clause (Place → Line) Labelled Line node_what_written clause_written node_written

abbrev pub lines_of : List Node → Lines
lines_of ns = line_list (map line_of ns)

abbrev pub clauses_of : List Clause → Clauses
clauses_of cs = clause_list (map clause_of cs)
