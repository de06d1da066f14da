-- A call of a function, by its name or through a pointer, is one of the program (C99 6.5.2.2).
use Rattle.std.proofs.Common.{◌≡◌, ℕ, List, ◌∷◌, length, map, Option, Some, None, refl, ap, sym, ◌∙◌, subst}
use Rattle.std.proofs.lemmas.Option.{none-some, same_Some}
use Rattle.mdr_rich.specs.declared.code.Callee.{Callee}
use Rattle.mdr_rich.specs.declared.code.Callee.TheVariants as callee
use Rattle.mdr_rich.specs.declared.code.Expr.{Expr}
use Rattle.mdr_core.specs.declared.place.Place.{Place}
use Rattle.mdr_core.specs.declared.program.Func.{Func}
use Rattle.mdr_core.specs.declared.program.Param.{Param}
use Rattle.mdr_core.specs.declared.program.Program.{Program}
use Rattle.mdr_core.specs.declared.types.Ty.{Ty, out-Ty}
use Rattle.mdr_core.specs.declared.types.Ty.TheOpen.{Ty-F}
use Rattle.mdr_core.specs.declared.types.Ty.TheVariants as type
use Rattle.mdr_rich.specs.Folds.{term_of, call_of}
use Rattle.mdr_core.specs.Types.{Scalar as ScalarSort, sort_of}
use Rattle.mdr_core.specs.Typing.{Slot}
use Rattle.mdr_rich.specs.Typing.{CallGives, HaveAll}
use Rattle.mdr_call.specs.declared.parts.Argument.{Argument}
use Rattle.mdr_call.specs.declared.parts.Callable.{Callable}
use Rattle.mdr_call.specs.declared.parts.Handle.{Handle}
use Rattle.mdr_call.specs.declared.parts.TypedCall.{TypedCall}
use Rattle.mdr_call.specs.Arguments.{converted, plain_call}
use Rattle.mdr_call.specs.Functions.{result_of, handle_of, handle_by, through, callable, call_with, function_call}
use Rattle.mdr_faults.specs.Faults.{Right}
use Rattle.mdr_operand.specs.declared.operand.Operand.{Operand}
use Rattle.mdr_operand.specs.declared.operand.Operand.TheVariants as operand
use Rattle.mdr_operand.specs.declared.operand.Scalar.{Scalar}
use Rattle.mdr_operand.specs.declared.operand.Scalar.TheVariants as scalar
use Rattle.mdr_operand.specs.declared.room.LocalName.{LocalName}
use Rattle.mdr_operand.specs.Forms.{needed, value_of}
use Rattle.mdr_operand.specs.Written.{Written}
use Rattle.mdr_sound.specs.Operands.{IsHandle, IsFunctionNamed, IsKnownValue, IsKnown}
use Rattle.mdr_sound.proofs.Formed.{AreScalars, IsResult, function_parts}
use Rattle.mdr_sound.proofs.GivenArguments.{AreKnownArguments, converted_all}
use Rattle.mdr_sound.proofs.Rights.{same_right, after_right, needed_right}
use Rattle.mdr_sound.proofs.Values.{value_known}

-- function types are one if their lists are
pub same_functions : (ts us : List Ty) → type.Fun ts ≡ type.Fun us → ts ≡ us
same_functions ts us e = let layers : Ty-F.Fun ts ≡ Ty-F.Fun us = sym (type.outs-Fun ts) ∙ ap out-Ty e ∙ type.outs-Fun us in cc

module _ (program : Program) (slots : List Slot) (names : List LocalName) where
  -- ---- what can be called

  abbrev IsCalled : Callee → List Ty → Type 0
  IsCalled (callee.Direct f) ts = IsFunctionNamed program f ts
  IsCalled (callee.Through e) ts = IsHandle program slots e ts
  IsCalled (callee.Service n) ts = ⊥

  abbrev IsKnownCallable : Callable → Type 0
  IsKnownCallable c = IsCalled c.callee c.types

  handle_of_known : (v : Scalar) (h : Handle) → IsKnownValue program slots v → handle_of v ≡ Some h → IsHandle program slots h.value h.types
  handle_of_known (scalar.Number e k) h i q = absurd (none-some h q)
  handle_of_known (scalar.Pointer e t) h i q = absurd (none-some h q)
  handle_of_known (scalar.Opaque e) h i q = absurd (none-some h q)
  handle_of_known (scalar.Handle e ts) h i q = subst (λ (x : Handle). IsHandle program slots x.value x.types) (same_Some _ _ q) i

  -- a value that points to a function
  pub handle_known : (u : Written) (x : Operand) (o : Option Scalar) (h : Handle) → IsKnown program slots names u x → value_of x ≡ o → handle_by o ≡ Some h → IsHandle program slots h.value h.types
  handle_known u x None h k is q = absurd (none-some h q)
  handle_known u x (Some v) h k is q = handle_of_known v h (value_known program slots names u x v k is) q

  through_known : (u : Written) (x : Operand) (o : Option Scalar) (c : Callable) → IsKnown program slots names u x → value_of x ≡ o → through (handle_by o) ≡ Some c → IsKnownCallable c
  through_known u x None c h is q = absurd (none-some c q)
  through_known u x (Some v) c h is q = through_handle (handle_of v) refl q
    where
      through_handle : (o : Option Handle) → handle_of v ≡ o → through o ≡ Some c → IsKnownCallable c
      through_handle None e q = absurd (none-some c q)
      through_handle (Some d) e q = subst IsKnownCallable (same_Some _ _ q) (handle_of_known v d (value_known program slots names u x v h is) e)

  callable_known : (u : Written) (x : Operand) (c : Callable) → IsKnown program slots names u x → callable x ≡ Some c → IsKnownCallable c
  unfolding callable
  callable_known u (operand.Value v) c h q = through_known u (operand.Value v) _ c h refl q
  callable_known u (operand.Zero k) c h q = through_known u (operand.Zero k) _ c h refl q
  callable_known u operand.Null c h q = through_known u operand.Null _ c h refl q
  callable_known u (operand.Object l t) c h q = through_known u (operand.Object l t) _ c h refl q
  callable_known u (operand.Array l t n) c h q = through_known u (operand.Array l t n) _ c h refl q
  callable_known u (operand.Function f ts) c h q = subst IsKnownCallable (same_Some _ _ q) h

  -- ---- calls

  pub record IsKnownCall (call : TypedCall) : Type 0 where
    pub gives : CallGives program slots (call_of call.form) call.result
    pub returns : IsResult (length program.structs) call.result

  abbrev param_types : Func → List Ty
  param_types func = map (λ (x : Param). x.ty) func.params

  direct_known : (f : ℕ) (r : Ty) (params : List Ty) (es : List Expr) → IsFunctionNamed program f (r ∷ params) → HaveAll program slots (map term_of es) params → CallGives program slots (call_of (plain_call (callee.Direct f) es r).form) r
  direct_known f r params es h all =
      let types : h.func.result ∷ param_types h.func ≡ r ∷ params = same_functions _ _ h.types in
      let result : h.func.result ≡ r = cc in
      let same : param_types h.func ≡ params = cc in
      record {
        func = h.func;
        names = h.names;
        call_is = record { no_type = refl; no_text = refl; args = subst (HaveAll program slots (map term_of es)) (sym same) all };
        is = sym result;
      }

  called_known : (c : Callee) (r : Ty) (params : List Ty) (es : List Expr) → IsCalled c (r ∷ params) → HaveAll program slots (map term_of es) params → CallGives program slots (call_of (plain_call c es r).form) r
  called_known (callee.Direct f) r params es h all = direct_known f r params es h all
  called_known (callee.Through e) r params es h all = record { params = params; pointer = h.value; call_is = record { no_type = refl; no_text = refl; args = all } }
  called_known (callee.Service n) r params es h all = absurd h

  called_formed : (c : Callee) (ts : List Ty) → IsCalled c ts → sort_of (length program.structs) (type.Fun ts) ≡ ScalarSort
  called_formed (callee.Direct f) ts h = h.formed
  called_formed (callee.Through e) ts h = h.formed
  called_formed (callee.Service n) ts h = absurd h

  module _ (p : Place) (args : List Argument) (known : AreKnownArguments program slots names args) (call : TypedCall) where
    call_by_types : (c : Callee) (ts : List Ty) (r : Ty) (params : List Ty) → ts ≡ r ∷ params → AreScalars (length program.structs) params → IsResult (length program.structs) r → IsCalled c ts → call_with p args (record { callee = c; types = ts }) ≡ Right call → IsKnownCall call
    unfolding call_with
    call_by_types c ts r params is f g h e =
        let a = after_right (converted p ts args) (λ es. Right (plain_call c es (result_of ts))) call e in
        let all = converted_all program slots names p r params args a.value f known (subst (λ us. converted p us args ≡ Right a.value) is a.right) in
        let made : plain_call c a.value r ≡ call = ap (λ us. plain_call c a.value (result_of us)) (sym is) ∙ same_right _ _ a.made in
        subst IsKnownCall made (record { gives = called_known c r params a.value (subst (IsCalled c) is h) all; returns = g })

    call_with_known : (c : Callable) → IsKnownCallable c → call_with p args c ≡ Right call → IsKnownCall call
    call_with_known c h e =
        let parts = function_parts (length program.structs) c.types (called_formed c.callee c.types h) in
        call_by_types c.callee c.types parts.result parts.params parts.is parts.scalars parts.returns h e

    pub function_call_known : (u : Written) (x : Operand) → IsKnown program slots names u x → function_call p args x ≡ Right call → IsKnownCall call
    unfolding function_call
    function_call_known u x h e =
        let a = after_right (needed p (callable x)) (call_with p args) call e in
        call_with_known a.value (callable_known u x a.value h (needed_right p (callable x) a.value a.right)) a.made
