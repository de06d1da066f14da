-- believed
-- Where a body first uses a name for what the file declares (C99 6.2.1).
use Rattle.std.specs.Prelude.{ℕ, ◌||◌, Bool, false, List, [], ◌∷◌, Option, Some, None}
use Rattle.std.specs.Str.{bytes_eq}
use Rattle.mdr_core.specs.declared.place.Place.{Place}
use Rattle.mdr_core.specs.Layout.{chosen}
use Rattle.mdr_syntax.specs.declared.tree.Decl.{Decl}
use Rattle.mdr_syntax.specs.declared.tree.Head.{Head}
use Rattle.mdr_syntax.specs.declared.tree.Node.{Node}
use Rattle.mdr_faults.specs.Scopes.{or_else}
use Rattle.mdr_operand.specs.Written.{Written, Writtens, Line, Lines, Clauses, lines_of}
use Rattle.mdr_body.specs.Addresses.{is_declared_by, hides}

-- ---- expressions

abbrev mutual
  pub use_in : List ℕ → Written → Option Place
  use_in name (Written.Number p n k) = None
  use_in name (Written.Null p) = None
  use_in name (Written.Name p other) = chosen (bytes_eq other name) (Some p) None
  use_in name (Written.Prefix p op a) = use_in name a
  use_in name (Written.Post p op a) = use_in name a
  use_in name (Written.Cast p b n a) = use_in name a
  use_in name (Written.Binary p op a b) = or_else (use_in name a) (use_in name b)
  use_in name (Written.Choice p c a b) = or_else (use_in name c) (or_else (use_in name a) (use_in name b))
  use_in name (Written.Subscript p a i) = or_else (use_in name a) (use_in name i)
  use_in name (Written.Member p a is_arrow at other) = use_in name a
  use_in name (Written.Call p f args) = or_else (use_in name f) (use_among name args)
  use_in name (Written.Text p bytes) = None
  use_in name (Written.Names p b n) = None

  pub use_among : List ℕ → Writtens → Option Place
  use_among name Writtens.End = None
  use_among name (Writtens.Then w ws) = or_else (use_in name w) (use_among name ws)

abbrev pub perhaps_use : List ℕ → Option Written → Option Place
perhaps_use name None = None
perhaps_use name (Some w) = use_in name w

-- ---- statements

-- of a list in front of more, also that behind the list. What a declaration hides is no use (6.2.1, paragraphs 4 and 7)
abbrev mutual
  pub use_at : List ℕ → Line → Option Place
  use_at name (Line.Empty p) = None
  use_at name (Line.Block p ls) = use_along name ls None
  use_at name (Line.Local p d init) = chosen (is_declared_by name d) None (perhaps_use name init)
  use_at name (Line.Assign p at op a b) = or_else (use_in name a) (use_in name b)
  use_at name (Line.Plain p w) = use_in name w
  use_at name (Line.If p e one other) = or_else (use_in name e) (or_else (use_at name one) (use_along name other None))
  use_at name (Line.While p e body) = or_else (use_in name e) (use_at name body)
  -- what the head of a `for` declares is in scope in all of it (6.8.5, paragraph 5)
  use_at name (Line.For p init test step body) = use_along name init (or_else (perhaps_use name test) (or_else (use_along name step None) (use_at name body)))
  use_at name (Line.Do p body e) = or_else (use_at name body) (use_in name e)
  use_at name (Line.Switch p e cs) = or_else (use_in name e) (use_in_clauses name cs)
  use_at name (Line.Return p e) = perhaps_use name e
  use_at name (Line.Break p) = None
  use_at name (Line.Continue p) = None

  pub use_along : List ℕ → Lines → (behind : Option Place) → Option Place
  use_along name Lines.End behind = behind
  use_along name (Lines.Then l ls) behind = or_else (use_at name l) (chosen (hides name l) None (use_along name ls behind))

  pub use_in_clauses : List ℕ → Clauses → Option Place
  use_in_clauses name Clauses.NoPart = None
  use_in_clauses name (Clauses.Part labels ls cs) = or_else (use_along name ls None) (use_in_clauses name cs)

-- ---- bodies

abbrev pub is_parameter : List Decl → List ℕ → Bool
is_parameter [] name = false
is_parameter (d ∷ ds) name = is_declared_by name d || is_parameter ds name

-- no parameter has the name, and no local where it stands
unfoldable pub first_use : Head → List Node → List ℕ → Option Place
first_use h nodes name = chosen (is_parameter h.params name) None (use_along name (lines_of nodes) None)
