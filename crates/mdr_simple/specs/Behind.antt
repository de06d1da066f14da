-- protocol
-- What stands behind the first words of statements, and what their parts are in code.
use Rattle.std.specs.Prelude.{ℕ, ◌+◌, Bool, true, List, [], ◌∷◌, Option, Some, None, Ok}
use Rattle.mdr_core.specs.declared.place.Place.{Place}
use Rattle.mdr_syntax.specs.declared.token.Token.{Token}
use Rattle.mdr_syntax.specs.declared.tree.Clause.{Clause}
use Rattle.mdr_syntax.specs.declared.tree.Form.{Form}
use Rattle.mdr_syntax.specs.declared.tree.Label.{Label}
use Rattle.mdr_syntax.specs.declared.tree.Node.{Node}
use Rattle.mdr_syntax.specs.declared.tree.NodeWhat
use Rattle.mdr_syntax.specs.declared.tree.NodeWhat.TheViews.{roll-Clause}
use Rattle.mdr_simple.specs.declared.parts.Branch.{Branch}
use Rattle.mdr_simple.specs.declared.parts.LoopHead.{LoopHead}
use Rattle.mdr_grammar.specs.declared.sort.Sort.{Sort}
use Rattle.mdr_grammar.specs.declared.parts.Ended.{Ended}
use Rattle.mdr_grammar.specs.Forms.{Part, Right, ◌>>=◌, take, form, one}
use Rattle.mdr_grammar.specs.Forms.Nonterminal.{part, option, many, otherwise}
use Rattle.mdr_grammar.specs.Forms.Repeated.{clauses, statements}
use Rattle.mdr_grammar.specs.Forms.Right.{gives}
use Rattle.mdr_grammar.specs.Expressions.{is_level_free}
use Rattle.mdr_grammar.specs.Front.{Read, and_read, word_at, first, front}
use Rattle.mdr_grammar.specs.Statements.{node_at, closed, condition, opened_by, if_at, while_at, for_at, nested_in, block_end}

abbrev pub ended_of : Branch → Ended
ended_of b = record { node = b.node; closed = b.closed }

abbrev pub other_of : Option Branch → Option Ended
other_of (Some b) = Some (ended_of b)
other_of None = None

abbrev pub head_of : LoopHead → List Node × Option Form × Option Node
head_of h = (h.init, h.test, h.step)

-- a statement ends with a token of the sort
abbrev pub ended_by : Sort → Node → Right Ended
ended_by s n = take s >>= λ e. closed n

-- behind the condition of an `if`; behind its first branch
abbrev pub branches : Place → ℕ → Form → Right Ended
branches place l c = do
  a ← one (Part.body (l + 1))
  b ← form (otherwise (l + 1) a.closed)
  gives (if_at place c a b)

abbrev pub other_behind : Place → ℕ → Form → Ended → Right Ended
other_behind place l c a = form (otherwise (l + 1) a.closed) >>= λ b. gives (if_at place c a b)

-- behind the condition of a `while`, and behind what a `for` begins with
abbrev pub repeated_while : Place → ℕ → Form → Right Ended
repeated_while place l c = one (Part.body (l + 1)) >>= λ a. gives (while_at place c a)

abbrev pub repeated_for : Place → ℕ → (List Node × Option Form × Option Node) → Right Ended
repeated_for place l h = one (Part.body (l + 1)) >>= λ a. gives (for_at place h.0 h.1 h.2 a)

-- behind the condition of a `do`, and of a `switch`
abbrev pub done : Place → Ended → Form → Right Ended
done place a c = ended_by Sort.Semicolon (node_at place (NodeWhat.Do a.node c))

abbrev pub switched : Place → ℕ → Form → Right Ended
switched place l c = do
  bracket ← take Sort.OpenBrace
  cs ← form (many true (clauses (l + 1)) [])
  ended_by Sort.CloseBrace (node_at place (NodeWhat.Switch c cs))

-- a condition, and then what stands behind it
abbrev pub after_condition : Bool → ℕ → (Form → Right Ended) → List Token → Read Ended
after_condition halves l k ts = and_read (front halves (condition l) ts) (λ c us. front halves (k c) us)

-- behind the body of a `do`; and its body before that
abbrev pub while_behind : Bool → Place → ℕ → Ended → List Token → Read Ended
while_behind halves place l a ts = and_read (word_at halves Sort.While ts) (λ t us. after_condition halves l (done place a) us)

abbrev pub after_do : Bool → Place → ℕ → List Token → Read Ended
after_do halves place l ts = and_read (first halves (part (Part.body (l + 1))) ts) (λ a us. while_behind halves place l a us)

-- the three parts that a `for` begins with
abbrev pub loop_init : ℕ → Right (List Node)
loop_init l = do
  bracket ← take Sort.Open
  i ← form (option true (Part.opening (l + 1) 1))
  end ← take Sort.Semicolon
  gives (opened_by i)

abbrev pub loop_test : ℕ → Right (Option Form)
loop_test l = do
  c ← form (option true (Part.expression (l + 1) 1))
  end ← take Sort.Semicolon
  gives c

abbrev pub loop_step : ℕ → Right (Option Node)
loop_step l = do
  n ← form (option (is_level_free ((l + 1) + 1)) (Part.simple (l + 1) 1))
  close ← take Sort.Close
  gives n

abbrev pub loop_parts : Bool → ℕ → List Token → Read (List Node × Option Form × Option Node)
loop_parts halves l ts = and_read (front halves (loop_init l) ts) (λ i us. and_read (front halves (loop_test l) us) (λ c vs. and_read (front halves (loop_step l) vs) (λ n ws. Ok ((i, c, n), ws))))

abbrev pub after_head : Bool → ℕ → ((List Node × Option Form × Option Node) → Right Ended) → List Token → Read Ended
after_head halves l k ts = and_read (loop_parts halves l ts) (λ h us. front halves (k h) us)

-- what stands in a block, and its brace
abbrev pub after_nested : Bool → ℕ → Place → List Token → Read Ended
after_nested halves l place ts = and_read (front halves (nested_in l) ts) (λ ns us. front halves (block_end place ns) us)

-- behind the labels of a clause
abbrev pub clause_from : ℕ → List Label → Right Clause
clause_from l ls = do
  n ← one (Part.plain l)
  body ← form (many true (statements l) (n ∷ []))
  gives (roll-Clause (record { labels = ls; body = body }))
