-- What a written call comes to is a call of the program (C99 6.5.2.2).
use Rattle.std.proofs.Common.{◌≡◌, inl, inr, Bool, true, false, List, map, Option, Some, None, refl, ap, subst}
use Rattle.mdr_rich.specs.declared.code.CallForm.{CallForm}
use Rattle.mdr_rich.specs.declared.code.Callee.{Callee}
use Rattle.mdr_rich.specs.declared.code.Callee.TheVariants as callee
use Rattle.mdr_core.specs.declared.place.Place.{Place}
use Rattle.mdr_core.specs.declared.program.Program.{Program}
use Rattle.mdr_core.specs.declared.types.Ty.{Ty}
use Rattle.mdr_core.specs.Layout.{chosen}
use Rattle.mdr_core.specs.Services.{Service as CoreService}
use Rattle.mdr_core.specs.Typing.{Slot}
use Rattle.mdr_rich.specs.Code.{Term, term_list}
use Rattle.mdr_rich.specs.Folds.{term_of, called_of, call_of}
use Rattle.mdr_rich.specs.Typing.{IsScalar, IsNoLiteral, NamesHandler, HandlerAmong, gives_by}
use Rattle.mdr_rich.proofs.Coded.{direct_is, through_is, service_is}
use Rattle.mdr_call.specs.declared.parts.Argument.{Argument}
use Rattle.mdr_call.specs.declared.parts.Argument.TheVariants as argument
use Rattle.mdr_call.specs.declared.parts.Target.{Target}
use Rattle.mdr_call.specs.declared.parts.Target.TheVariants as target
use Rattle.mdr_call.specs.declared.parts.TypedCall.{TypedCall}
use Rattle.mdr_call.specs.declared.service.Service.{Service}
use Rattle.mdr_call.specs.Calls.{is_handle, valued, starred_callee, is_star, callee_behind, as_target, named_target, target_by, argument_by, call_by, call_rule, called_by, call_value}
use Rattle.mdr_call.specs.Services.{service_named}
use Rattle.mdr_faults.specs.declared.scope.Scope.{Scope}
use Rattle.mdr_faults.specs.Declarations.{type_named}
use Rattle.mdr_faults.specs.Faults.{Checked, Right, after}
use Rattle.mdr_operand.specs.declared.operand.Operand.{Operand}
use Rattle.mdr_operand.specs.declared.operand.Operand.TheVariants as operand
use Rattle.mdr_operand.specs.declared.operator.PrefixOperator.TheVariants as prefix
use Rattle.mdr_operand.specs.declared.room.LocalName.{LocalName}
use Rattle.mdr_operand.specs.Forms.{needed, prefix_rule, scalar_at, scalar_of, value_at}
use Rattle.mdr_operand.specs.Signs.{prefix_operator}
use Rattle.mdr_operand.specs.Written.{Written}
use Rattle.mdr_sound.specs.Knowing.{Knows}
use Rattle.mdr_sound.specs.Operands.{IsOf, IsKnown}
use Rattle.mdr_sound.proofs.FunctionCalls.{IsKnownCall, function_call_known}
use Rattle.mdr_sound.proofs.GivenArguments.{IsKnownArgument, AreKnownArguments}
use Rattle.mdr_sound.proofs.Prefixes.{prefix_by_known}
use Rattle.mdr_sound.proofs.Rights.{same_right, after_right, both_right, needed_right}
use Rattle.mdr_sound.proofs.ServiceCalls.{service_call_known}
use Rattle.mdr_sound.proofs.TypesWritten.{type_named_written}
use Rattle.mdr_sound.proofs.Values.{of_term, no_literal, scalar_valued, scalar_known, valued_known}

module _ (program : Program) (slots : List Slot) (scope : Scope) (names : List LocalName) where
  -- an operand that something written comes to
  abbrev pub IsKnownOperand : Operand → Type 0
  IsKnownOperand x = (u : Written) × IsKnown program slots names u x

  -- so whatever a rule finds right
  abbrev pub AreKnown : Checked Operand → Type 0
  AreKnown c = (x : Operand) → c ≡ Right x → IsKnownOperand x

  -- ---- what is called

  abbrev pub IsKnownTarget : Target → Type 0
  IsKnownTarget (target.Service s) = Unit {0}
  IsKnownTarget (target.Callee x) = IsKnownOperand x

  as_target_known : (c : Checked Operand) (t : Target) → AreKnown c → as_target c ≡ Right t → IsKnownTarget t
  as_target_known c t h e =
      let a = after_right c (λ x. Right (target.Callee x)) t e in
      subst IsKnownTarget (same_right _ _ a.made) (h a.value a.right)

  named_target_known : (o : Option Service) (c : Checked Operand) (t : Target) → AreKnown c → named_target o c ≡ Right t → IsKnownTarget t
  named_target_known (Some s) c t h e = subst IsKnownTarget (same_right _ _ e) tt
  named_target_known None c t h e = as_target_known c t h e

  starred_by : (p : Place) (b : Bool) (y x : Operand) → IsKnownOperand y → chosen b (valued p y) (prefix_rule p (Some prefix.Target) (Right y)) ≡ Right x → IsKnownOperand x
  unfolding valued prefix_rule
  starred_by p true y x h e =
      let v = after_right (scalar_at p y) (λ v. Right (operand.Value v)) x e in
      subst IsKnownOperand (same_right _ _ v.made) (h.0, scalar_known program slots names h.0 p y v.value h.1 v.right)
  starred_by p false y x h e = (h.0, prefix_by_known program slots names h.0 h.0 p (Some prefix.Target) y x (λ q. absurd cc) h.1 e)

  behind_known : (p : Place) (b : Bool) (whole behind : Checked Operand) → AreKnown whole → AreKnown behind → AreKnown (chosen b (after behind (starred_callee p)) whole)
  unfolding starred_callee
  behind_known p true whole behind h i x e =
      let c = after_right behind (starred_callee p) x e in
      starred_by p (is_handle c.value) c.value x (i c.value c.right) c.made
  behind_known p false whole behind h i x e = h x e

  pub target_known : (w : Written) (whole behind : Checked Operand) (t : Target) → AreKnown whole → AreKnown behind → target_by w whole behind ≡ Right t → IsKnownTarget t
  unfolding callee_behind
  target_known (Written.Name p name) whole behind t h i e = named_target_known (service_named name) whole t h e
  target_known (Written.Prefix p op a) whole behind t h i e = as_target_known _ t (behind_known p (is_star (prefix_operator op)) whole behind h i) e
  target_known w whole behind t h i e = as_target_known whole t h e

  -- ---- arguments

  abbrev IsArgument : Argument → Type 0
  IsArgument = IsKnownArgument program slots names

  pub argument_known : (knows : Knows program scope) (w : Written) (c : Checked Operand) (a : Argument) → AreKnown c → argument_by scope w c ≡ Right a → IsArgument a
  argument_known knows (Written.Text p bytes) c a h e = subst IsArgument (same_right _ _ e) tt
  argument_known knows (Written.Names p base m) c a h e =
      let t = after_right (type_named scope base m) (λ t. Right (argument.Type t)) a e in
      subst IsArgument (same_right _ _ t.made) (type_named_written program scope knows base m t.value t.right)
  argument_known knows w c a h e =
      let v = after_right c (λ x. Right (argument.Value x)) a e in
      subst IsArgument (same_right _ _ v.made) (h v.value v.right)

  -- ---- calls

  module _ (p : Place) (call : TypedCall) where
    call_by_known : (args : List Argument) (t : Target) → AreKnownArguments program slots names args → IsKnownTarget t → call_by scope p args t ≡ Right call → IsKnownCall program slots names call
    call_by_known args (target.Service s) h i e = service_call_known program slots names scope p args s call h e
    call_by_known args (target.Callee x) h i e = function_call_known program slots names p args h call i.0 x i.1 e

    pub call_known : (t : Checked Target) (args : Checked (List Argument)) → ((x : Target) → t ≡ Right x → IsKnownTarget x) → ((xs : List Argument) → args ≡ Right xs → AreKnownArguments program slots names xs) → call_rule scope p t args ≡ Right call → IsKnownCall program slots names call
    unfolding call_rule
    call_known t args h i e =
        let b = both_right t args (λ t args. call_by scope p args t) call e in
        call_by_known b.right b.left (i b.right b.second) (h b.left b.first) b.made

  -- ---- calls as values

  handler_among : (s : CoreService) (es : List Term) → NamesHandler s es → HandlerAmong (term_list es) s
  handler_among CoreService.RequestIrq es h = (h.0, ap term_list h.1)
  handler_among s es h = tt

  -- what is called gives what it is known to give
  called_known : (t : Ty) (c : Callee) (form : CallForm) → gives_by (called_of c) program slots (call_of form) t → IsScalar program t → IsOf program slots (called_by t form c) t
  called_known t (callee.Direct f) form h s =
      of_term program slots _ _ t (direct_is t f form.args) (record {
        gives = record { func = h.func; names = h.names; call_is = record { no_type = refl; no_text = refl; args = h.call_is.args }; is = h.is };
        formed = s;
        is = refl;
      })
  called_known t (callee.Through e) form h s =
      of_term program slots _ _ t (through_is t e form.args) (record {
        gives = record { params = h.params; pointer = h.pointer; call_is = record { no_type = refl; no_text = refl; args = h.call_is.args } };
        formed = s;
        is = refl;
      })
  called_known t (callee.Service n) form (inl h) s =
      of_term program slots _ _ t (service_is t n form.args form.shape form.format) (record {
        gives = inl (record { service = h.service; names = h.names; signature = h.signature; offers = h.offers; args = h.args; handler = handler_among h.service (map term_of form.args) h.handler; object = h.object; is = h.is });
        formed = s;
        is = refl;
      })
  called_known t (callee.Service n) form (inr h) s =
      of_term program slots _ _ t (service_is t n form.args form.shape form.format) (record { gives = inr h; formed = s; is = refl })

  called_no_literal : (t : Ty) (c : Callee) (form : CallForm) → IsNoLiteral (term_of (called_by t form c))
  called_no_literal t (callee.Direct f) form = no_literal _ _ (direct_is t f form.args) tt
  called_no_literal t (callee.Through e) form = no_literal _ _ (through_is t e form.args) tt
  called_no_literal t (callee.Service n) form = no_literal _ _ (service_is t n form.args form.shape form.format) tt

  pub call_value_known : (w : Written) (p : Place) (call : TypedCall) (x : Operand) → IsKnownCall program slots names call → call_value p call ≡ Right x → IsKnown program slots names w x
  unfolding call_value value_at
  call_value_known w p call x h e =
      let t = call.result in
      let value = called_by t call.form call.form.callee in
      let a = after_right (needed p (scalar_of value t)) (λ v. Right (operand.Value v)) x e in
      let s = h.returns (scalar_valued value t a.value (needed_right p (scalar_of value t) a.value a.right)) in
      valued_known program slots names w p t value x (called_known t call.form.callee call.form h.gives s) (called_no_literal t call.form.callee call.form) h.returns e
