-- protocol
-- Evaluations that wait for their tick: what is left of an expression when all that takes ticks of its own in it is done.
use Rattle.std.specs.Prelude.{ℕ, Bool, true, false, not, List, [], ◌∷◌, pos, Result, Ok, slice_set}
use Rattle.mdr_core.specs.declared.code.BinOp.{BinOp}
use Rattle.mdr_core.specs.declared.code.BinOp.TheVariants.{Add, Sub}
use Rattle.mdr_core.specs.declared.code.RelOp.TheVariants.{Eq}
use Rattle.mdr_core.specs.declared.kind.Kind.{Kind}
use Rattle.mdr_core.specs.declared.kind.Kind.TheVariants.{S32}
use Rattle.mdr_core.specs.declared.place.At.{At}
use Rattle.mdr_core.specs.declared.program.Program.{Program}
use Rattle.mdr_core.specs.declared.stop.StopKind.{StopKind}
use Rattle.mdr_core.specs.declared.types.Ty.{Ty, out-Ty}
use Rattle.mdr_core.specs.declared.types.Ty.TheOpen.{Ty-F}
use Rattle.mdr_core.specs.declared.value.Value.{Value}
use Rattle.mdr_core.specs.Conversions.{converted, promoted}
use Rattle.mdr_core.specs.Kinds.{is_same_kind}
use Rattle.mdr_core.specs.Layout.{chosen}
use Rattle.mdr_core.specs.Operators.{operated}
use Rattle.mdr_meaning.specs.declared.wire.Wire.{Wire}
use Rattle.mdr_meaning.specs.declared.wire.Wire.TheVariants as wire
use Rattle.mdr_meaning.specs.Expressions.{given, gives, read, slot_of}
use Rattle.mdr_meaning.specs.Pointers.{moved, related, steps}
use Rattle.mdr_meaning.specs.Sides.{Here, in_here}
use Rattle.mdr_meaning.specs.Tree.{Tree}
use Rattle.mdr_meaning.specs.Values.{at_kind, integer, is_true, operand, right_operand, truth, wire_of}
use Rattle.mdr_rich.specs.Code.{Lvalue}

-- what is evaluated when its tick has come, over what the slots hold then
abbrev pub Ready : Type 0 → Type 0
Ready A = At → List Wire → (A → Tree) → Tree

-- the ticks before, which may change slots, and what waits then
abbrev pub Prep : Type 0 → Type 0
Prep A = List Wire → (Ready A → List Wire → Tree) → Tree

-- ---- values that wait

abbrev pub literal : Wire → Ready Wire
literal v at s k = k v

-- a kept value is loaded where it is used: a pointer may name an object that died meanwhile (C99 6.2.4, paragraph 2)
abbrev pub kept : Wire → Ready Wire
kept v at s k = read at v k

-- an operator on one value, and on two from left to right (6.5.3.3, 6.5.5 to 6.5.12)
abbrev pub one : (Wire → Result Wire StopKind) → Ready Wire → Ready Wire
one f r at s k = r at s (λ x. given at (f x) k)

abbrev pub two : (Wire → Wire → Result Wire StopKind) → Ready Wire → Ready Wire → Ready Wire
two f ra rb at s k = ra at s (λ x. rb at s (λ y. given at (f x y) k))

-- the right operand is evaluated only where the left doesn't decide (6.5.13, 6.5.14, paragraph 4)
abbrev pub both : Ready Wire → Ready Wire → Ready Wire
both ra rb at s k = ra at s (λ x. chosen (is_true x) (rb at s) (gives (truth false)) (λ y. k (truth (is_true y))))

abbrev pub either : Ready Wire → Ready Wire → Ready Wire
either ra rb at s k = ra at s (λ x. chosen (is_true x) (gives (truth true)) (rb at s) (λ y. k (truth (is_true y))))

abbrev pub negated : Wire → Result Wire StopKind
negated x = Ok (truth (not (is_true x)))

-- 1 where it is true, else 0
abbrev pub truly : Ready Wire → Ready Wire
truly r = one negated (one negated r)

abbrev pub calculated : BinOp → Kind → Wire → Wire → Result Wire StopKind
calculated op kind x y = at_kind kind (operated op kind (operand kind x) (right_operand op kind (integer y)))

-- a pointer moved by so many elements (6.5.6)
abbrev pub by_steps : (back : Bool) → Wire → Wire → Result Wire StopKind
by_steps back x n = moved x (steps back (integer n))

-- element n of an array (6.5.2.1)
abbrev pub at_element : Wire → Wire → Result Wire StopKind
at_element a n = moved a (integer n)

-- whether a kept value equals a constant, and whether it equals one of those of a list (6.8.4.2, paragraph 5)
abbrev pub equals : Program → Wire → Value → Ready Wire
equals program v c = two (related program Eq) (kept v) (literal (wire_of c))

abbrev pub or_equals : Program → Wire → Ready Wire → List Value → Ready Wire
or_equals program v r [] = r
or_equals program v r (c ∷ cs) = or_equals program v (either r (equals program v c)) cs

abbrev pub equals_one : Program → Wire → List Value → Ready Wire
equals_one program v [] = literal (truth false)
equals_one program v (c ∷ cs) = or_equals program v (equals program v c) cs

-- a list of values, from left to right
abbrev pub none : Ready (List Wire)
none at s k = k []

abbrev pub more : Ready Wire → Ready (List Wire) → Ready (List Wire)
more r rs at s k = r at s (λ v. rs at s (λ vs. k (v ∷ vs)))

-- ---- places that wait

-- what the object at a place holds (6.3.2.1, paragraph 2)
abbrev pub loaded : Lvalue → Ready Wire → Ready Wire
loaded (Lvalue.Slot i t) found at s k = read at (slot_of s i) k
loaded _ found at s k = found at s (λ p. Tree.Load at p k)

-- a value is stored at a place (6.5.16.1)
abbrev pub stores : Lvalue → Ready Wire → At → Wire → List Wire → (List Wire → Tree) → Tree
stores (Lvalue.Slot i t) found at v s go = go (slice_set s i v)
stores _ found at v s go = found at s (λ p. Tree.Store at p v (go s))

-- ---- one more or less, as by `+= 1` and `-= 1` (6.5.2.4, paragraph 2; 6.5.16.2, paragraph 3)

abbrev pub as_kind : (from to : Kind) → Ready Wire → Ready Wire
as_kind k l r = chosen (is_same_kind k l) r (one (λ x. Ok (wire.Int l (converted l (integer x)))) r)

abbrev pub step_operator : (up : Bool) → BinOp
step_operator true = Add
step_operator false = Sub

abbrev pub stepped_by : (up : Bool) → Ready Wire → Ty-F Ty → Ready Wire
stepped_by up r (Ty-F.Int k) = as_kind (promoted k) k (two (calculated (step_operator up) (promoted k)) (as_kind k (promoted k) r) (literal (wire.Int (promoted k) (pos 1))))
stepped_by up r Ty-F.Lock = r
stepped_by up r (Ty-F.Struct s) = r
stepped_by up r (Ty-F.Ptr t) = two (by_steps (not up)) r (literal (wire.Int S32 (pos 1)))
stepped_by up r Ty-F.VoidPtr = r
stepped_by up r (Ty-F.Fun ts) = r
stepped_by up r Ty-F.Void = r

abbrev pub stepped : (up : Bool) → Ty → Ready Wire → Ready Wire
stepped up t r = stepped_by up r (out-Ty t)

-- ---- what is done before

-- nothing is
abbrev pub now : {A : Type 0} → Ready A → Prep A
now r s k = k r s

abbrev pub made : {A B : Type 0} → (Ready A → Ready B) → Prep A → Prep B
made f p s k = p s (λ r s1. k (f r) s1)

-- one part behind another
abbrev pub joined : {A B C : Type 0} → (Ready A → Ready B → Ready C) → Prep A → Prep B → Prep C
joined f p q s k = p s (λ ra s1. q s1 (λ rb s2. k (f ra rb) s2))

-- here: the function that runs; n: the number of the statement
module _ (here : Here) (n : ℕ) where
  abbrev pub tick : (At → Tree) → Tree
  tick next = Tree.Tick (in_here here n) here.depth (next (in_here here n))

  -- a value is taken at a tick of its own, and kept
  abbrev pub taken : Prep Wire → Prep Wire
  taken p s k = p s (λ r s1. tick (λ at. r at s1 (λ v. k (kept v) s1)))

  -- a part is taken in front of an active one
  abbrev pub part : Bool → Prep Wire → Prep Wire
  part is_taken p = chosen is_taken (taken p) p

  -- a tick for the choice behind c, and one at which the arm's value is taken (6.5.15)
  abbrev pub choice : Prep Wire → (one other : Prep Wire) → Prep Wire
  choice c a b s k = c s (λ r s1. tick (λ at. r at s1 (λ v. chosen (is_true v) (taken a) (taken b) s1 k)))

  -- `a && b` and `a || b` with an active b: a tick for the truth of a, one for the choice, and one for the truth of b where it is needed
  abbrev pub conjoined : Prep Wire → Prep Wire → Prep Wire
  conjoined a b s k = taken (made truly a) s (λ ra s1. tick (λ at. ra at s1 (λ x. chosen (is_true x) (taken (made truly b)) (now ra) s1 k)))

  abbrev pub disjoined : Prep Wire → Prep Wire → Prep Wire
  disjoined a b s k = taken (made truly a) s (λ ra s1. tick (λ at. ra at s1 (λ x. chosen (is_true x) (now ra) (taken (made truly b)) s1 k)))

  -- an object is stepped at a tick of its own, from the value that waits
  abbrev pub storing : (up : Bool) → Ty → Lvalue → Ready Wire → Ready Wire → Prep Wire
  storing up t p rp r s k = tick (λ at. stepped up t r at s (λ v. stores p rp at v s (λ s1. k r s1)))

  -- `++x` and `--x`: the object is stored, then its value is taken; `x++` and `x--` the other way round
  abbrev pub stepped_first : (up : Bool) → Ty → Lvalue → Ready Wire → Prep Wire
  stepped_first up t p rp = taken (storing up t p rp (loaded p rp))

  abbrev pub stepped_behind : (up : Bool) → Ty → Lvalue → Ready Wire → Prep Wire
  stepped_behind up t p rp s k = taken (now (loaded p rp)) s (λ r s1. storing up t p rp r s1 k)

  abbrev pub bumped : (up first : Bool) → Ty → Lvalue → Prep Wire → Prep Wire
  bumped up first t p place s k = place s (λ rp s1. chosen first (stepped_first up t p rp) (stepped_behind up t p rp) s1 k)
