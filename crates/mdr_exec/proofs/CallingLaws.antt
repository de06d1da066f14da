-- The tree of a call comes to what the call comes to.
use Rattle.std.proofs.Common.{ℕ, Bool, true, false, List, [], Option, Some, None, Result, Ok, Err, refl, ◌∙◌, ◌==◌, nat_lt}
use Rattle.mdr_core.specs.declared.place.At.{At}
use Rattle.mdr_core.specs.declared.stop.StopKind.{StopKind}
use Rattle.mdr_core.specs.declared.stop.StopKind.TheVariants as stop
use Rattle.mdr_core.specs.Code.{Called, CallOf}
use Rattle.mdr_core.specs.Layout.{chosen}
use Rattle.mdr_core.specs.Services.{Service, Kzalloc, Kcalloc, Kfree, Readl, Writel, Printk, RequestIrq, FreeIrq, Deliver, Combolock, Combounlock, Bug, Enter, Leave, service_numbered}
use Rattle.mdr_meaning.specs.declared.wire.Wire.{Wire}
use Rattle.mdr_meaning.specs.Asking.{asks, counted, serves, serves_by}
use Rattle.mdr_meaning.specs.Calls.{function_of, goes_to, direct, through, deep, call_by}
use Rattle.mdr_meaning.specs.Cut.{cut}
use Rattle.mdr_meaning.specs.Expressions.{given, value, values}
use Rattle.mdr_meaning.specs.Sides.{Body, Side, Here, Means}
use Rattle.mdr_meaning.specs.Tree.{Tree}
use Rattle.mdr_meaning.specs.Values.{first_of, rest_of}
use Rattle.mdr_meaning.specs.Walk.{Accesses, walk}
use Rattle.mdr_exec.specs.Evaluation.{after_value, value_of, values_of, Evaluates}
use Rattle.mdr_exec.specs.Calling.{Calling, goes_by, direct_of, through_of, served_by, called_of, calling_tree, ComesToCall}
use Rattle.mdr_exec.proofs.EvaluationLaws.{joined, passes_given, passes_value, passes_values}

module _ {M : Type 0} (a : Accesses M) (side : Side) (low : Means) (here : Here) (m : M) (at : At) where
  calls_then : (A : Type 0) (g : (A → Tree) → Tree) (f : A → (Wire → Tree) → Tree) (x : Result A StopKind) (y : A → Result Calling StopKind)
      → Evaluates a m at A g x → ((v : A) → ComesToCall a side low here m at (f v) (y v)) → ComesToCall a side low here m at (λ k. g (λ v. f v k)) (after_value x y)
  calls_then A g f x y p q = record {
    by = λ n r k. p.by n r (λ v. f v k)
        ∙ joined a m at x y n (λ v. walk a n (cut r (f v k)) m) (λ c. walk a n (cut r (calling_tree side low here at c k)) m) (λ v. (q v).by n r k);
  }

  calls_direct : (f : ℕ) (vs : List Wire) → ComesToCall a side low here m at (direct side low here at f vs) (direct_of a side here m f vs)
  unfolding walk cut
  calls_direct f vs = by_depth (nat_lt here.depth 256) (side.own f) where
    by_depth : (b : Bool) (own : Option Body)
        → ComesToCall a side low here m at (chosen b (goes_to side low here at f vs own) (deep side low here at)) (chosen b (Ok (goes_by f vs own)) (Err stop.Depth))
    by_depth true None = record { by = λ n r k. refl }
    by_depth true (Some body) = record { by = λ n r k. refl }
    by_depth false own = record { by = λ n r k. refl }

  calls_through : (v : Wire) (vs : List Wire) → ComesToCall a side low here m at (through side low here at v vs) (through_of a side here m v vs)
  calls_through v vs =
      calls_then ℕ (given at (function_of v)) (λ f. direct side low here at f vs) (function_of v) (λ f. direct_of a side here m f vs)
      (passes_given a m at ℕ (function_of v)) (λ f. calls_direct f vs)

  calls_service : (form : CallOf) (n : ℕ) (vs : List Wire) (s : Option Service)
      → ComesToCall a side low here m at (serves_by side.known n at form vs s) (served_by a side here m at form n vs s)
  unfolding walk cut
  calls_service form n vs None = record { by = λ q r k. refl }
  calls_service form n vs (Some Kzalloc) = record { by = λ q r k. refl }
  calls_service form n vs (Some Kcalloc) = record { by = λ q r k. refl }
  calls_service form n vs (Some Kfree) = record { by = λ q r k. refl }
  calls_service form n vs (Some Readl) = record { by = λ q r k. refl }
  calls_service form n vs (Some Writel) = record { by = λ q r k. refl }
  calls_service form n vs (Some Printk) = record { by = λ q r k. refl }
  calls_service form n vs (Some RequestIrq) = record { by = λ q r k. refl }
  calls_service form n vs (Some FreeIrq) = record { by = λ q r k. refl }
  calls_service form n vs (Some Deliver) =
      calls_then (List ℕ) (Tree.Read at (first_of vs) (counted (first_of (rest_of vs)))) (λ bytes k. asks n at [] [] bytes k) (a.read m (first_of vs) (counted (first_of (rest_of vs)))) _
      (record { by = λ q r k. refl }) (λ bytes. record { by = λ q r k. refl })
  calls_service form n vs (Some Combolock) = record { by = λ q r k. refl }
  calls_service form n vs (Some Combounlock) = record { by = λ q r k. refl }
  calls_service form n vs (Some Bug) = record { by = λ q r k. refl }
  calls_service form n vs (Some Enter) = record { by = λ q r k. refl }
  calls_service form n vs (Some Leave) = record { by = λ q r k. refl }

  calls_asked : (form : CallOf) (n : ℕ) (vs : List Wire) (b : Bool)
      → ComesToCall a side low here m at (chosen b (through side low here at (first_of vs) (rest_of vs)) (serves side.known n at form vs)) (chosen b (through_of a side here m (first_of vs) (rest_of vs)) (served_by a side here m at form n vs (service_numbered n)))
  calls_asked form n vs true = calls_through (first_of vs) (rest_of vs)
  calls_asked form n vs false = calls_service form n vs (service_numbered n)

  pub comes_to_call : (s : List Wire) (form : CallOf) (callee : Called) → ComesToCall a side low here m at (call_by side low here at s form callee) (called_of a side here m at form s callee)
  comes_to_call s form (Called.Direct f) =
      calls_then (List Wire) (values side.known at s form.args) (λ vs. direct side low here at f vs) (values_of a m side.known s form.args) _
      (passes_values a m at side.known s form.args) (λ vs. calls_direct f vs)
  comes_to_call s form (Called.Through e) =
      calls_then Wire (value side.known at s e) (λ v k. values side.known at s form.args (λ vs. through side low here at v vs k)) (value_of a m side.known s e) _
      (passes_value a m at side.known s e)
      (λ v. calls_then (List Wire) (values side.known at s form.args) (λ vs. through side low here at v vs) (values_of a m side.known s form.args) _
      (passes_values a m at side.known s form.args) (λ vs. calls_through v vs))
  comes_to_call s form (Called.Service n) =
      calls_then (List Wire) (values side.known at s form.args)
      (λ vs. chosen (n == 15) (through side low here at (first_of vs) (rest_of vs)) (serves side.known n at form vs)) (values_of a m side.known s form.args) _
      (passes_values a m at side.known s form.args) (λ vs. calls_asked form n vs (n == 15))
