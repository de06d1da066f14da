-- protocol
-- The meaning of a source's statements (C99 6.7, 6.8): what takes ticks of its own in their expressions is done first, and the statement's own tick comes last.
use Rattle.std.specs.Prelude.{ℕ, Bool, true, false, pos, List, Option, Some, None, slice_get}
use Rattle.mdr_core.specs.declared.kind.Kind.TheVariants.{S32}
use Rattle.mdr_core.specs.declared.place.At.{At}
use Rattle.mdr_core.specs.declared.value.Value.{Value}
use Rattle.mdr_core.specs.declared.value.Value.TheVariants as value
use Rattle.mdr_core.specs.Code.{Way}
use Rattle.mdr_core.specs.Layout.{chosen}
use Rattle.mdr_meaning.specs.declared.wire.Wire.{Wire}
use Rattle.mdr_meaning.specs.declared.wire.Wire.TheVariants as wire
use Rattle.mdr_meaning.specs.Calls.{received}
use Rattle.mdr_meaning.specs.Expressions.{given, slot_of}
use Rattle.mdr_meaning.specs.Lives.{in_block}
use Rattle.mdr_meaning.specs.Sides.{Here, Locals, Ends, Returns, Go, Means, flow_of}
use Rattle.mdr_meaning.specs.Statements.{around, characters, declared, leaves, on_ends, texts}
use Rattle.mdr_meaning.specs.Values.{is_true}
use Rattle.mdr_rich.specs.Activity.{is_active, is_active_place, are_active}
use Rattle.mdr_rich.specs.Carried.{type_at}
use Rattle.mdr_rich.specs.Code.{Term, Lvalue, CallOf, Goal, Code, Codes, Clauses, term_list}
use Rattle.mdr_rich_sources.specs.Waiting.{Ready, Prep, equals_one, literal, joined, now, part, stores, tick}
use Rattle.mdr_rich_sources.specs.Expressions.{RichSide, RichMeans, Arguments, arguments, is_taken, calls, prep, prep_place, prep_callee, prep_args, without_bodies}

abbrev pub with_slots : List Wire → Locals → Locals
with_slots s l = record { slots = s; born = l.born }

-- ---- `do S while (e);` is `for (t = 1; t || e; t = 0) S` (6.8.5.2). Nothing else reads t, so a literal stands for it

abbrev pub flag : (first : Bool) → Value
flag true = value.Int S32 (pos 1)
flag false = value.Int S32 (pos 0)

abbrev pub do_test : (first : Bool) → Term → Term
do_test first e = Term.Or (Term.Lit (flag first)) e

-- its later turns
abbrev pub do_again : (number : ℕ) → (body : Codes) → Term → Code
do_again n body e = Code.Loop n (do_test false e) (Codes.Then (Code.Jump n Way.Ends) Codes.End) body

-- no code that comes later
abbrev pub nothing_later : Means
nothing_later here cs l k = k Ends l

module _ (side : RichSide) (low : RichMeans) (here : Here) where
  -- what an expression prepares, and its value at the statement's tick
  abbrev pub at_tick : {A : Type 0} → (number : ℕ) → Prep A → (A → At → Go) → Go
  at_tick n p go l k = p l.slots (λ r s. tick here n (λ at. r at s (λ v. go v at (with_slots s l) k)))

  -- ---- assignments and calls: the right side before the left (6.5.16, paragraph 4 leaves the order open)

  abbrev pub assigns : (number : ℕ) → Lvalue → Prep Wire → Go
  assigns n p e l k = e l.slots (λ r s. prep_place side low here n p s (λ rp s1. tick here n (λ at. r at s1 (λ v. stores p rp at v s1 (λ s2. k Ends (with_slots s2 l))))))

  abbrev pub prep_goal : (number : ℕ) → Goal → Prep Wire
  prep_goal n Goal.Nowhere = now (literal wire.NoValue)
  prep_goal n (Goal.Into p) = prep_place side low here n p
  prep_goal n Goal.Back = now (literal wire.NoValue)

  -- the value of a call that is used must be there (6.9.1, paragraph 12), and converts as by assignment
  abbrev pub keeps : Goal → Ready Wire → At → Wire → Go
  keeps Goal.Nowhere rp at v l k = k Ends l
  keeps (Goal.Into p) rp at v l k = given at (received side.known (Some (type_at p)) v) (λ x. stores p rp at x l.slots (λ s. k Ends (with_slots s l)))
  keeps Goal.Back rp at v l k = given at (received side.known (Some here.result) v) (λ x. k (Returns x) l)

  abbrev pub prep_call : (number : ℕ) → CallOf → Prep Arguments
  prep_call n c = joined arguments (prep_callee side low here n (are_active (term_list c.args)) c.callee) (prep_args side low here n (term_list c.args))

  abbrev pub calls_out : (number : ℕ) → Goal → CallOf → Go
  calls_out n goal c l k =
      prep_call n c l.slots (λ r s. prep_goal n goal s (λ rp s1. tick here n (λ at. r at s1 (λ a. calls side low here c.callee c.shape c.format at a (λ v. keeps goal rp at v (with_slots s1 l) k)))))

  -- ---- loops (6.8.5)

  -- a turn: its body is a block (paragraph 5)
  abbrev pub turn : (again step body : Go) → Go
  turn again step body l k = in_block (without_bodies side) here body l (around again step k)

  -- a tick of its own, and no more
  abbrev pub pauses : (number : ℕ) → Go
  pauses n l k = tick here n (λ at. k Ends l)

  -- an active test: a tick for the turn, what the test takes, one for its value, and one where the loop ends by it
  abbrev pub tests : (number : ℕ) → Term → (go : Go) → Go
  tests n e go l k = tick here n (λ begin. at_tick n (prep side low here n e) (λ v at. chosen (is_true v) go (pauses n)) l k)

  abbrev pub loops : (number : ℕ) → Term → (go : Go) → Go
  loops n e go = chosen (is_active e) (tests n e go) (at_tick n (prep side low here n e) (λ v at. chosen (is_true v) go leaves))

  -- t = 1, and then the turns; behind each t = 0
  abbrev pub does : (number : ℕ) → Codes → Term → (body : Go) → Go
  does n cs e body l k = tick here n (λ at. loops n (do_test true e) (turn (low here (Codes.Then (do_again n cs e) Codes.End)) (pauses n) body) l k)

  -- ---- statements

  abbrev pub returns : (number : ℕ) → Option Term → Go
  returns n None l k = tick here n (λ at. k (Returns wire.NoValue) l)
  returns n (Some e) l k = at_tick n (prep side low here n e) (λ v at l1 next. next (Returns v) l1) l k

  abbrev mutual
    pub stmt : Code → Go
    -- 6.7
    stmt (Code.Declare n i) l k = tick here n (λ at. declared (without_bodies side) nothing_later here i (slice_get here.slots i) l k)
    -- 6.7.8, paragraph 14
    stmt (Code.Text n i bytes) l k = tick here n (λ at. texts at (characters (slice_get here.slots i)) (slot_of l.slots i) 0 bytes (k Ends l))
    -- 6.5.16
    stmt (Code.Assign n p e) l k = assigns n p (part here n (is_taken (is_active_place p) e) (prep side low here n e)) l k
    -- 6.8.3
    stmt (Code.Call n goal c) l k = calls_out n goal c l k
    -- 6.8.4.1; each branch is a block (6.8.4, paragraph 3)
    stmt (Code.If n e one other) l k = at_tick n (prep side low here n e) (λ v at. in_block (without_bodies side) here (chosen (is_true v) (stmts one) (stmts other))) l k
    -- 6.8.5
    stmt (Code.Loop n e step body) l k = loops n e (turn (low here (Codes.Then (Code.Loop n e step body) Codes.End)) (stmts step) (stmts body)) l k
    -- 6.8.5.2; the whole is a block (6.8.5, paragraph 5)
    stmt (Code.Do n body e) l k = in_block (without_bodies side) here (does n body e (stmts body)) l k
    -- 6.8.4.2
    stmt (Code.Switch n e clauses) l k = at_tick n (prep side low here n e) (λ v at. tries n v clauses) l k
    -- 6.8.2
    stmt (Code.Block body) l k = in_block (without_bodies side) here (stmts body) l k
    -- 6.8.6.4
    stmt (Code.Return n e) l k = returns n e l k
    -- 6.8.6.2, 6.8.6.3, 6.8.3
    stmt (Code.Jump n way) l k = tick here n (λ at. k (flow_of way) l)

    pub stmts : Codes → Go
    stmts Codes.End l k = k Ends l
    stmts (Codes.Then c cs) l k = stmt c l (on_ends (stmts cs) k)

    -- a clause that is tried takes a tick, and the default none; what is in each is a block (6.8.4, paragraph 3)
    pub tries : (number : ℕ) → Wire → Clauses → Go
    tries n v (Clauses.Default body) l k = in_block (without_bodies side) here (stmts body) l k
    tries n v (Clauses.Clause labels body rest) l k =
        tick here n (λ at. equals_one side.known.program v labels at l.slots (λ x. chosen (is_true x) (in_block (without_bodies side) here (stmts body)) (tries n v rest) l k))
