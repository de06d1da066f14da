-- protocol
-- The meaning of a source's expressions (C99 6.5): what takes ticks of its own in them is done first, from left to right, and the rest waits for the tick of what it stands in.
use Rattle.std.specs.Prelude.{ℕ, suc, Bool, not, ◌&&◌, ◌==◌, nat_lt, List, [], Option, Some, None, Ok}
use Rattle.mdr_core.specs.declared.place.At.{At}
use Rattle.mdr_core.specs.declared.types.Ty.{Ty}
use Rattle.mdr_core.specs.declared.stop.StopKind.TheVariants.{Depth}
use Rattle.mdr_core.specs.Code.{CallOf as PlainCall, Called as PlainCalled}
use Rattle.mdr_core.specs.Conversions.{converted}
use Rattle.mdr_core.specs.Layout.{chosen}
use Rattle.mdr_core.specs.Operators.{flipped, negated as sign_changed}
use Rattle.mdr_core.specs.Typing.{Slot}
use Rattle.mdr_meaning.specs.declared.wire.Wire.{Wire}
use Rattle.mdr_meaning.specs.declared.wire.Wire.TheVariants as wire
use Rattle.mdr_meaning.specs.Asking.{serves}
use Rattle.mdr_meaning.specs.Calls.{function_of, received}
use Rattle.mdr_meaning.specs.Expressions.{given, slot_of}
use Rattle.mdr_meaning.specs.Lives.{births, closes, fills, object_params, param_shapes}
use Rattle.mdr_meaning.specs.Numbers.{Numbered}
use Rattle.mdr_meaning.specs.Pointers.{cast, difference, global, member, related}
use Rattle.mdr_meaning.specs.Sides.{Side, Here, Go, framed, in_here}
use Rattle.mdr_meaning.specs.Tree.{Tree}
use Rattle.mdr_meaning.specs.Values.{at_kind, first_of, integer, operand, rest_of, wire_of}
use Rattle.mdr_rich.specs.Activity.{is_active, are_active, is_settled}
use Rattle.mdr_rich.specs.Code.{Term, Lvalue, Called, Terms, Codes}
use Rattle.mdr_rich_sources.specs.Waiting.{Ready, Prep, literal, kept, one, two, both, either, negated, calculated, by_steps, at_element, none, more, loaded, now, made, joined, tick, part, choice, conjoined, disjoined, bumped}

-- a function's body: its slots, parameters first, the type of its result, its code
pub record RichBody : Type 0 where
  pub slots : List Slot
  pub result : Ty
  pub code : Codes

-- a side: the bodies that are entered, and whether births and deaths of objects are asked of the other half
pub record RichSide : Type 0 where
  pub known : Numbered
  pub own : ℕ → Option RichBody
  pub asks : Bool

-- the meaning of code that may come later
abbrev pub RichMeans : Type 0
RichMeans = Here → Codes → Go

-- what births and deaths of objects look at: no bodies
abbrev pub without_bodies : RichSide → Side
without_bodies side = record { known = side.known; own = λ f. None; asks = side.asks }

-- of a call of a service, the type that it names and its text
abbrev pub asked_by : Option Ty → Option (List ℕ) → PlainCall
asked_by shape format = record { callee = PlainCalled.Direct 0; args = []; shape = shape; format = format }

-- a callee's value, where it is called through a pointer, and the arguments
pub record Arguments : Type 0 where
  pub callee : Wire
  pub args : List Wire

abbrev pub arguments : Ready Wire → Ready (List Wire) → Ready Arguments
arguments r rs at s k = r at s (λ v. rs at s (λ vs. k (record { callee = v; args = vs })))

-- a part in front of an active one is taken, but for a literal and what ends in a value that is kept anyway
abbrev pub is_taken : (later : Bool) → Term → Bool
is_taken later e = later && not (is_settled e)

module _ (side : RichSide) (low : RichMeans) (here : Here) where
  -- ---- calls (6.5.2.2)

  -- a body is entered (6.9.1, paragraph 10)
  abbrev pub rich_enters : Here → RichBody → List Wire → (Wire → Tree) → Tree
  rich_enters inner body vs k =
      births (without_bodies side) inner (param_shapes side.known body.slots)
      (λ ps. fills (in_here inner 0) (object_params 0 body.slots) ps (record { slots = framed body.slots vs; born = [] })
      (λ l. low inner body.code l (closes (without_bodies side) inner k)))

  -- one of the own side; any other function is of the other half
  abbrev pub rich_goes_to : At → ℕ → List Wire → Option RichBody → (Wire → Tree) → Tree
  rich_goes_to at f vs (Some body) k = rich_enters (record { func = f; depth = suc here.depth; slots = body.slots; result = body.result }) body vs k
  rich_goes_to at f vs None k = Tree.Cross at f vs here.depth k

  abbrev pub rich_deep : At → (Wire → Tree) → Tree
  rich_deep at k = Tree.Stop Depth at

  -- at most 256 functions are active
  abbrev pub rich_direct : At → ℕ → List Wire → (Wire → Tree) → Tree
  rich_direct at f vs k = chosen (nat_lt here.depth 256) (rich_goes_to at f vs (side.own f)) (rich_deep at) k

  abbrev pub rich_through : At → Wire → List Wire → (Wire → Tree) → Tree
  rich_through at v vs k = given at (function_of v) (λ f. rich_direct at f vs k)

  -- what is called, when the arguments have been evaluated. Service 15 calls what its first argument names
  abbrev pub calls : Called → Option Ty → Option (List ℕ) → At → Arguments → (Wire → Tree) → Tree
  calls (Called.Direct f) shape format at a k = rich_direct at f a.args k
  calls (Called.Through e) shape format at a k = rich_through at a.callee a.args k
  calls (Called.Service n) shape format at a k =
      chosen (n == 15) (rich_through at (first_of a.args) (rest_of a.args)) (serves side.known n at (asked_by shape format) a.args) k

  -- a call in an expression: a tick, and its value, which must be there (6.9.1, paragraph 12), is kept
  abbrev pub called : (number : ℕ) → Ty → Called → Option Ty → Option (List ℕ) → Prep Arguments → Prep Wire
  called n t f shape format p s k =
      p s (λ r s1. tick here n (λ at. r at s1 (λ a. calls f shape format at a (λ v. given at (received side.known (Some t) v) (λ x. k (kept x) s1)))))

  -- ---- expressions, lvalues, callees and arguments

  abbrev mutual
    pub prep : (number : ℕ) → Term → Prep Wire
    -- 6.5.1
    prep n (Term.Lit v) = now (literal (wire_of v))
    prep n (Term.Load p) = made (loaded p) (prep_place n p)
    -- 6.5.3.2, 6.3.2.1, paragraph 3
    prep n (Term.Addr p) = prep_place n p
    prep n (Term.Decay p) = prep_place n p
    -- 6.5.3.3
    prep n (Term.Neg kind e) = made (one (λ x. at_kind kind (sign_changed kind (operand kind x)))) (prep n e)
    prep n (Term.Flip kind e) = made (one (λ x. Ok (wire.Int kind (flipped kind (operand kind x))))) (prep n e)
    prep n (Term.Not e) = made (one negated) (prep n e)
    -- 6.5.5 to 6.5.7, 6.5.10 to 6.5.12
    prep n (Term.Bin op kind a b) = joined (two (calculated op kind)) (part here n (is_taken (is_active b) a) (prep n a)) (prep n b)
    -- 6.5.8, 6.5.9
    prep n (Term.Rel op a b) = joined (two (related (side.known).program op)) (part here n (is_taken (is_active b) a) (prep n a)) (prep n b)
    -- 6.5.13, 6.5.14
    prep n (Term.And a b) = chosen (is_active b) (conjoined here n (prep n a) (prep n b)) (joined both (prep n a) (prep n b))
    prep n (Term.Or a b) = chosen (is_active b) (disjoined here n (prep n a) (prep n b)) (joined either (prep n a) (prep n b))
    -- 6.3.1.3, 6.3.2.3
    prep n (Term.Conv kind e) = made (one (λ x. Ok (wire.Int kind (converted kind (integer x))))) (prep n e)
    prep n (Term.ToVoid e) = prep n e
    prep n (Term.FromVoid t e) = made (one (cast side.known t)) (prep n e)
    -- 6.5.6
    prep n (Term.Move back p i) = joined (two (by_steps back)) (part here n (is_taken (is_active i) p) (prep n p)) (prep n i)
    prep n (Term.Diff p q) = joined (two difference) (part here n (is_taken (is_active q) p) (prep n p)) (prep n q)
    -- 6.5.15
    prep n (Term.Cond t c a b) = choice here n (prep n c) (prep n a) (prep n b)
    -- 6.5.2.2
    prep n (Term.Call t f args shape format) = called n t f shape format (joined arguments (prep_callee n (are_active args) f) (prep_args n args))
    -- 6.5.2.4, 6.5.3.1
    prep n (Term.Bump t up first p) = bumped here n up first t p (prep_place n p)

    pub prep_place : (number : ℕ) → Lvalue → Prep Wire
    -- a slot has no address
    prep_place n (Lvalue.Slot i t) = now (literal wire.Null)
    prep_place n (Lvalue.Object i t) = now (λ at s k. k (slot_of s i))
    prep_place n (Lvalue.Global g t) = now (literal (global side.known g))
    -- 6.5.3.2, paragraph 4
    prep_place n (Lvalue.Deref e) = prep n e
    -- 6.5.2.3
    prep_place n (Lvalue.Member p f t) = made (one (λ a. member side.known a f)) (prep_place n p)
    -- an array in front of an active index is taken as a pointer (6.5.2.1)
    prep_place n (Lvalue.Index p e) = joined (two at_element) (part here n (is_active e) (prep_place n p)) (prep n e)

    pub prep_callee : (number : ℕ) → (later : Bool) → Called → Prep Wire
    prep_callee n later (Called.Direct f) = now (literal wire.NoValue)
    prep_callee n later (Called.Through e) = part here n (is_taken later e) (prep n e)
    prep_callee n later (Called.Service s) = now (literal wire.NoValue)

    pub prep_args : (number : ℕ) → Terms → Prep (List Wire)
    prep_args n Terms.End = now none
    prep_args n (Terms.Then e es) = joined more (part here n (is_taken (are_active es) e) (prep n e)) (prep_args n es)
