-- believed
-- Where a block takes the address of something that was declared before it (C99 6.2.1, 6.5.3.2).
use Rattle.std.specs.Prelude.{ℕ, ◌&&◌, ◌||◌, not, Bool, false, List, Option, Some, None, codes}
use Rattle.std.specs.Str.{bytes_eq}
use Rattle.mdr_core.specs.declared.place.Place.{Place}
use Rattle.mdr_syntax.specs.declared.tree.Decl.{Decl, out-Decl}
use Rattle.mdr_syntax.specs.declared.tree.NodeWhat.{NodeWhat}
use Rattle.mdr_syntax.specs.declared.tree.NodeWhat.TheFolds.{fold-NodeWhat}
use Rattle.mdr_faults.specs.Declarations.{is_same_name}
use Rattle.mdr_operand.specs.Written.{Written, Writtens, Line, Lines, Clauses, Labelled, node_what_written, clause_written, node_written}

-- ---- expressions

abbrev pub is_address : List ℕ → Bool
is_address op = bytes_eq op (codes "&")

abbrev pub is_name : List ℕ → Written → Bool
is_name name (Written.Name p other) = bytes_eq other name
is_name name w = false

-- an expression takes the name's address (6.5.3.2, paragraph 3)
abbrev mutual
  pub takes_in : List ℕ → Written → Bool
  takes_in name (Written.Number p n k) = false
  takes_in name (Written.Null p) = false
  takes_in name (Written.Name p other) = false
  takes_in name (Written.Prefix p op a) = (is_address op && is_name name a) || takes_in name a
  takes_in name (Written.Post p op a) = takes_in name a
  takes_in name (Written.Cast p b n a) = takes_in name a
  takes_in name (Written.Binary p op a b) = takes_in name a || takes_in name b
  takes_in name (Written.Choice p c a b) = takes_in name c || (takes_in name a || takes_in name b)
  takes_in name (Written.Subscript p a i) = takes_in name a || takes_in name i
  takes_in name (Written.Member p a is_arrow at other) = takes_in name a
  takes_in name (Written.Call p f args) = takes_in name f || takes_among name args
  takes_in name (Written.Text p bytes) = false
  takes_in name (Written.Names p b n) = false

  pub takes_among : List ℕ → Writtens → Bool
  takes_among name Writtens.End = false
  takes_among name (Writtens.Then w ws) = takes_in name w || takes_among name ws

abbrev pub perhaps_takes : List ℕ → Option Written → Bool
perhaps_takes name None = false
perhaps_takes name (Some w) = takes_in name w

-- ---- statements

abbrev pub is_declared_by : List ℕ → Decl → Bool
is_declared_by name d = is_same_name (out-Decl d).name (Some name)

-- a declaration hides the name in the rest of its block (6.2.1, paragraph 4), its own initialiser included (paragraph 7)
abbrev pub hides : List ℕ → Line → Bool
hides name (Line.Local p d init) = is_declared_by name d
hides name l = false

-- a statement takes the address of what was declared before it. Of a list in front of more, also whether what is behind the list does
abbrev mutual
  pub takes_at : List ℕ → Line → Bool
  takes_at name (Line.Empty p) = false
  takes_at name (Line.Block p ls) = takes_along name ls false
  takes_at name (Line.Local p d init) = not (is_declared_by name d) && perhaps_takes name init
  takes_at name (Line.Assign p at op a b) = takes_in name a || takes_in name b
  takes_at name (Line.Plain p w) = takes_in name w
  takes_at name (Line.If p e one other) = takes_in name e || (takes_at name one || takes_along name other false)
  takes_at name (Line.While p e body) = takes_in name e || takes_at name body
  -- what the head of a `for` declares is in scope in all of it (6.8.5, paragraph 5)
  takes_at name (Line.For p init test step body) = takes_along name init (perhaps_takes name test || (takes_along name step false || takes_at name body))
  takes_at name (Line.Do p body e) = takes_at name body || takes_in name e
  takes_at name (Line.Switch p e cs) = takes_in name e || clauses_take name cs
  takes_at name (Line.Return p e) = perhaps_takes name e
  takes_at name (Line.Break p) = false
  takes_at name (Line.Continue p) = false

  pub takes_along : List ℕ → Lines → (behind : Bool) → Bool
  takes_along name Lines.End behind = behind
  takes_along name (Lines.Then l ls) behind = takes_at name l || (not (hides name l) && takes_along name ls behind)

  pub clauses_take : List ℕ → Clauses → Bool
  clauses_take name Clauses.NoPart = false
  clauses_take name (Clauses.Part labels ls cs) = takes_along name ls false || clauses_take name cs

-- ---- what is written

abbrev pub line_what : NodeWhat → Place → Line
line_what = fold-NodeWhat (Place → Line) Labelled Line node_what_written clause_written node_written
