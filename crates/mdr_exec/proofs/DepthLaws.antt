-- A call enters a body only where fewer than 256 functions are active.
use Rattle.std.proofs.Common.{◌≡◌, ℕ, ◌<◌, ◌==◌, nat_lt, Bool, true, false, List, Option, Some, None, Result, Ok, Err, refl, ltb-true, sym, ap, ◌∙◌, subst}
use Rattle.mdr_core.specs.declared.place.At.{At}
use Rattle.mdr_core.specs.declared.program.Program.{Program}
use Rattle.mdr_core.specs.declared.stop.StopKind.{StopKind}
use Rattle.mdr_core.specs.declared.stop.StopKind.TheVariants as stop
use Rattle.mdr_core.specs.Code.{Called, CallOf}
use Rattle.mdr_core.specs.Layout.{chosen}
use Rattle.mdr_core.specs.Services.{Service, Kzalloc, Kcalloc, Printk, Deliver, service_numbered}
use Rattle.mdr_meaning.specs.declared.wire.Wire.{Wire}
use Rattle.mdr_meaning.specs.Asking.{counted}
use Rattle.mdr_meaning.specs.Calls.{function_of}
use Rattle.mdr_meaning.specs.Sides.{Body, Side, Here}
use Rattle.mdr_meaning.specs.Values.{first_of, rest_of}
use Rattle.mdr_meaning.specs.Walk.{Accesses}
use Rattle.mdr_exec.specs.declared.calling.Calling.{Calling as Doing}
use Rattle.mdr_exec.specs.declared.frame.Machine.{Machine}
use Rattle.mdr_exec.specs.Calling.{Calling, IsShallow, called_of, direct_of, goes_by, served_by, through_of}
use Rattle.mdr_exec.specs.Evaluation.{after_value, value_of, values_of}
use Rattle.mdr_exec.specs.Halves.{called_as, calling_as}
use Rattle.mdr_exec.specs.Holding.{here_of}
use Rattle.mdr_exec.specs.Leaving.{here_in}

after_shallow : {A : Type 0} (depth : ℕ) (x : Result A StopKind) (go : A → Result Calling StopKind) → ((v : A) → IsShallow depth (go v)) → IsShallow depth (after_value x go)
after_shallow depth (Ok v) go h = h v
after_shallow depth (Err kind) go h = tt

either_shallow : (depth : ℕ) (b : Bool) (x y : Result Calling StopKind) → IsShallow depth x → IsShallow depth y → IsShallow depth (chosen b x y)
either_shallow depth true x y h k = h
either_shallow depth false x y h k = k

goes_shallow : (depth f : ℕ) (vs : List Wire) (o : Option Body) → depth < 256 → IsShallow depth (Ok (goes_by f vs o))
goes_shallow depth f vs (Some body) h = h
goes_shallow depth f vs None h = tt

module _ {M : Type 0} (a : Accesses M) (side : Side) (here : Here) (m : M) where
  direct_shallow : (f : ℕ) (vs : List Wire) → IsShallow here.depth (direct_of a side here m f vs)
  direct_shallow f vs = by_test (nat_lt here.depth 256) refl where
    by_test : (b : Bool) → nat_lt here.depth 256 ≡ b → IsShallow here.depth (chosen b (Ok (goes_by f vs (side.own f))) (Err stop.Depth))
    by_test true e = goes_shallow here.depth f vs (side.own f) (ltb-true _ _ e)
    by_test false e = tt

  through_shallow : (v : Wire) (vs : List Wire) → IsShallow here.depth (through_of a side here m v vs)
  through_shallow v vs = after_shallow here.depth (function_of v) (λ f. direct_of a side here m f vs) (λ f. direct_shallow f vs)

  module _ (at : At) (form : CallOf) where
    served_shallow : (n : ℕ) (vs : List Wire) (s : Option Service) → IsShallow here.depth (served_by a side here m at form n vs s)
    served_shallow n vs (Some Kzalloc) = tt
    served_shallow n vs (Some Kcalloc) = tt
    served_shallow n vs (Some Printk) = tt
    served_shallow n vs (Some Deliver) = after_shallow here.depth (a.read m (first_of vs) (counted (first_of (rest_of vs)))) _ (λ bytes. tt)
    served_shallow n vs s = tt

    pub called_shallow : (slots : List Wire) (callee : Called) → IsShallow here.depth (called_of a side here m at form slots callee)
    called_shallow slots (Called.Direct f) = after_shallow here.depth (values_of a m side.known slots form.args) _ (λ vs. direct_shallow f vs)
    called_shallow slots (Called.Through e) =
        after_shallow here.depth (value_of a m side.known slots e) _ (λ v. after_shallow here.depth (values_of a m side.known slots form.args) _ (λ vs. through_shallow v vs))
    called_shallow slots (Called.Service n) =
        after_shallow here.depth (values_of a m side.known slots form.args) _
        (λ vs. either_shallow here.depth (n == 15) _ _ (through_shallow (first_of vs) (rest_of vs)) (served_shallow n vs (service_numbered n)))

-- ---- in the machine

pub call_shallow : {M : Type 0} (a : Accesses M) (side : Side) (program : Program) (m : Machine) (memory : M) (at : At) (form : CallOf) (slots : List Wire) (callee : Called) (r : Result Doing StopKind) (c : Doing)
    → called_as program r ≡ called_of a side (here_in program m) memory at form slots callee → r ≡ Ok c → IsShallow m.top.depth (Ok (calling_as program c))
unfolding here_of
call_shallow a side program m memory at form slots callee r c is ok =
    subst (IsShallow m.top.depth) (sym is ∙ ap (called_as program) ok) (called_shallow a side (here_in program m) memory at form slots callee)
