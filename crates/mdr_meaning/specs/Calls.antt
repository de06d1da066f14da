-- believed
-- The trees of calls (C99 6.5.2.2), and where their values go.
use Rattle.std.specs.Prelude.{ℕ, suc, List, [], Option, Some, None, Result, Ok, Err, ◌==◌, nat_lt, slice_set}
use Rattle.mdr_core.specs.declared.types.Ty.{Ty}
use Rattle.mdr_core.specs.declared.stop.StopKind.{StopKind}
use Rattle.mdr_core.specs.declared.stop.StopKind.TheVariants as stop
use Rattle.mdr_core.specs.declared.place.At.{At}
use Rattle.mdr_core.specs.Code.{Lvalue, Called, CallOf, Goal}
use Rattle.mdr_core.specs.Layout.{chosen}
use Rattle.mdr_meaning.specs.declared.wire.Wire.{Wire}
use Rattle.mdr_meaning.specs.declared.wire.Wire.TheVariants as wire
use Rattle.mdr_meaning.specs.Asking.{serves}
use Rattle.mdr_meaning.specs.Expressions.{given, place, value, values}
use Rattle.mdr_meaning.specs.Lives.{births, closes, fills, object_params, param_shapes}
use Rattle.mdr_meaning.specs.Named.{named_type}
use Rattle.mdr_meaning.specs.Numbers.{Numbered}
use Rattle.mdr_meaning.specs.Pointers.{become}
use Rattle.mdr_meaning.specs.Sides.{Body, Side, Here, Locals, Ends, Returns, Go, Means, framed, in_here}
use Rattle.mdr_meaning.specs.Tree.{Tree}
use Rattle.mdr_meaning.specs.Values.{first_of, rest_of}

-- ---- where a value goes

-- a value is stored, given how the place of the lvalue is found (6.5.16.1)
abbrev pub stores : At → Lvalue → ((Wire → Tree) → Tree) → Wire → Locals → (Locals → Tree) → Tree
stores at (Lvalue.Slot i) found v l go = go (record { slots = slice_set l.slots i v; born = l.born })
stores at _ found v l go = found (λ p. Tree.Store at p v (go l))

abbrev pub put : Numbered → At → Lvalue → Wire → Locals → (Locals → Tree) → Tree
put known at p v l go = stores at p (place known at l.slots p) v l go

-- the value of a call that is used must be there (6.9.1, paragraph 12), and converts as by assignment
abbrev pub received : Numbered → Option Ty → Wire → Result Wire StopKind
received known ty wire.NoValue = Err stop.NoValue
received known None v = Ok v
received known (Some ty) v = become known ty v

abbrev pub keep : Numbered → Here → At → Goal → Wire → Go
keep known here at Goal.Nowhere v l k = k Ends l
keep known here at (Goal.Into p) v l k = given at (received known (named_type known.program here.slots p) v) (λ x. put known at p x l (k Ends))
keep known here at Goal.Back v l k = given at (received known (Some here.result) v) (λ x. k (Returns x) l)

-- ---- what is called

-- a null pointer is called
abbrev pub function_of : Wire → Result ℕ StopKind
function_of (wire.Fn f) = Ok f
function_of _ = Err stop.Null

module _ (side : Side) (low : Means) (here : Here) where
  -- a body is entered (6.9.1, paragraph 10)
  abbrev pub enters : Here → Body → List Wire → (Wire → Tree) → Tree
  enters inner body vs k =
      births side inner (param_shapes side.known body.slots)
      (λ ps. fills (in_here inner 0) (object_params 0 body.slots) ps (record { slots = framed body.slots vs; born = [] })
      (λ l. low inner body.code l (closes side inner k)))

  -- one of the own side; any other function is of the other half
  abbrev pub goes_to : At → ℕ → List Wire → Option Body → (Wire → Tree) → Tree
  goes_to at f vs (Some body) k = enters (record { func = f; depth = suc here.depth; slots = body.slots; result = body.result }) body vs k
  goes_to at f vs None k = Tree.Cross at f vs here.depth k

  abbrev pub deep : At → (Wire → Tree) → Tree
  deep at k = Tree.Stop stop.Depth at

  -- at most 256 functions are active
  abbrev pub direct : At → ℕ → List Wire → (Wire → Tree) → Tree
  direct at f vs k = chosen (nat_lt here.depth 256) (goes_to at f vs (side.own f)) (deep at) k

  -- through a pointer, when the arguments have been evaluated
  abbrev pub through : At → Wire → List Wire → (Wire → Tree) → Tree
  through at v vs k = given at (function_of v) (λ f. direct at f vs k)

  -- the callee is evaluated before the arguments. Service 15 calls what its first argument names
  abbrev pub call_by : At → List Wire → CallOf → Called → (Wire → Tree) → Tree
  call_by at s form (Called.Direct f) k = values side.known at s form.args (λ vs. direct at f vs k)
  call_by at s form (Called.Through e) k = value side.known at s e (λ v. values side.known at s form.args (λ vs. through at v vs k))
  call_by at s form (Called.Service n) k =
      values side.known at s form.args (λ vs. chosen (n == 15) (through at (first_of vs) (rest_of vs)) (serves side.known n at form vs) k)

  abbrev pub call : At → List Wire → CallOf → (Wire → Tree) → Tree
  call at s form k = call_by at s form form.callee k
