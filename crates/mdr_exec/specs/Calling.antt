-- protocol
-- What a call comes to before anything of it runs (C99 6.5.2.2): what is called and with which arguments, or a stop.
use Rattle.std.specs.Prelude.{◌≡◌, ℕ, suc, ◌<◌, List, [], Option, Some, None, Result, Ok, Err, ◌==◌, nat_lt, unwrap_or}
use Rattle.mdr_core.specs.declared.place.At.{At}
use Rattle.mdr_core.specs.declared.stop.StopKind.{StopKind}
use Rattle.mdr_core.specs.declared.stop.StopKind.TheVariants as stop
use Rattle.mdr_core.specs.Code.{Called, CallOf, Term}
use Rattle.mdr_core.specs.Layout.{chosen}
use Rattle.mdr_core.specs.Services.{Service, Kzalloc, Kcalloc, Printk, Deliver, service_numbered}
use Rattle.mdr_meaning.specs.declared.wire.Wire.{Wire}
use Rattle.mdr_meaning.specs.declared.shape.Shape64.{Shape64}
use Rattle.mdr_meaning.specs.Asking.{allocated, counted}
use Rattle.mdr_meaning.specs.Calls.{enters, function_of}
use Rattle.mdr_meaning.specs.Cut.{cut}
use Rattle.mdr_meaning.specs.Lives.{asked_for}
use Rattle.mdr_meaning.specs.Printed.{print_text}
use Rattle.mdr_meaning.specs.Sides.{Body, Side, Here, Means}
use Rattle.mdr_meaning.specs.Tree.{Asked, Tree}
use Rattle.mdr_meaning.specs.Values.{first_of, rest_of}
use Rattle.mdr_meaning.specs.Walk.{Accesses, on_access, walk}
use Rattle.mdr_exec.specs.Evaluation.{after_value, value_of, values_of}

pub data Calling : Type 0 where
  -- a body of the own side is entered
  Entering : (func : ℕ) (args : List Wire) (body : Body) → Calling
  -- a function of the other half is called
  Crossing : (func : ℕ) (args : List Wire) → Calling
  -- a service is asked for
  Asking : (asked : Asked) → Calling

-- where the body of a called function runs
abbrev pub entered : Here → ℕ → Body → Here
entered here f body = record { func = f; depth = suc here.depth; slots = body.slots; result = body.result }

abbrev pub goes_by : ℕ → List Wire → Option Body → Calling
goes_by f vs (Some body) = Entering f vs body
goes_by f vs None = Crossing f vs

-- bytes are read, and the service that delivers them is asked for
abbrev pub delivered : {M : Type 0} → Accesses M → M → (service : ℕ) → At → List Wire → Result Calling StopKind
delivered a m n at vs = after_value (a.read m (first_of vs) (counted (first_of (rest_of vs)))) (λ bytes. Ok (Asking (asked_for n at [] [] bytes)))

module _ {M : Type 0} (a : Accesses M) (side : Side) (here : Here) (m : M) where
  -- at most 256 functions are active
  abbrev pub direct_of : ℕ → List Wire → Result Calling StopKind
  direct_of f vs = chosen (nat_lt here.depth 256) (Ok (goes_by f vs (side.own f))) (Err stop.Depth)

  abbrev pub through_of : Wire → List Wire → Result Calling StopKind
  through_of v vs = after_value (function_of v) (λ f. direct_of f vs)

  -- a call through a pointer: the callee is evaluated before the arguments
  abbrev pub called_through : CallOf → List Wire → Term → Result Calling StopKind
  called_through form slots e = after_value (value_of a m side.known slots e) (λ v. after_value (values_of a m side.known slots form.args) (λ vs. through_of v vs))

  module _ (at : At) (form : CallOf) where
    abbrev pub asking : (service : ℕ) → List Wire → List Shape64 → List ℕ → Result Calling StopKind
    asking n vs shapes bytes = Ok (Asking (asked_for n at vs shapes bytes))

    abbrev pub served_by : ℕ → List Wire → Option Service → Result Calling StopKind
    served_by n vs (Some Kzalloc) = asking n [] (allocated side.known form.shape 1) []
    served_by n vs (Some Kcalloc) = asking n [] (allocated side.known form.shape (counted (first_of vs))) []
    served_by n vs (Some Printk) = asking n [] [] (print_text (unwrap_or form.format []) vs)
    served_by n vs (Some Deliver) = delivered a m n at vs
    served_by n vs _ = asking n vs [] []

    abbrev pub served_of : ℕ → List Wire → Result Calling StopKind
    served_of n vs = served_by n vs (service_numbered n)

    -- service 15 calls what its first argument names
    abbrev pub service_of : ℕ → List Wire → Result Calling StopKind
    service_of n vs = chosen (n == 15) (through_of (first_of vs) (rest_of vs)) (served_of n vs)

    abbrev pub called_of : List Wire → Called → Result Calling StopKind
    called_of slots (Called.Direct f) = after_value (values_of a m side.known slots form.args) (λ vs. direct_of f vs)
    called_of slots (Called.Through e) = called_through form slots e
    called_of slots (Called.Service n) = after_value (values_of a m side.known slots form.args) (λ vs. service_of n vs)

-- a body is entered where fewer than 256 functions are active
abbrev pub IsShallow : (depth : ℕ) → Result Calling StopKind → Type 0
IsShallow depth (Ok (Entering f vs body)) = depth < 256
IsShallow depth (Ok (Crossing f vs)) = Unit {0}
IsShallow depth (Ok (Asking asked)) = Unit {0}
IsShallow depth (Err kind) = Unit {0}

-- the tree of what a call came to
abbrev pub calling_tree : Side → Means → Here → At → Calling → (Wire → Tree) → Tree
calling_tree side low here at (Entering f vs body) k = enters side low here (entered here f body) body vs k
calling_tree side low here at (Crossing f vs) k = Tree.Cross at f vs here.depth k
calling_tree side low here at (Asking asked) k = Tree.Ask asked (λ results. k (first_of results))

-- a call's tree comes to that
pub record ComesToCall {M : Type 0} (a : Accesses M) (side : Side) (low : Means) (here : Here) (m : M) (at : At) (f : (Wire → Tree) → Tree) (x : Result Calling StopKind) : Type 0 where
  pub by : (n r : ℕ) (k : Wire → Tree) → walk a n (cut r (f k)) m ≡ on_access x at m n (λ c. walk a n (cut r (calling_tree side low here at c k)) m)
