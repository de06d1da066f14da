-- What each expression comes to is known.
use Rattle.std.specs.Prelude.{◌≡◌, ℕ, ◌==◌, Bool, true, false, List, ◌∷◌, Option, Some, None, IsTrue, pos}
use Rattle.std.proofs.Common.{refl, subst}
use Rattle.mdr_rich.specs.declared.code.Expr.TheVariants as expr
use Rattle.mdr_core.specs.declared.kind.Kind.{Kind}
use Rattle.mdr_core.specs.declared.place.Place.{Place}
use Rattle.mdr_core.specs.declared.program.Program.{Program}
use Rattle.mdr_core.specs.declared.types.Ty.TheVariants as type
use Rattle.mdr_core.specs.declared.value.Value.TheVariants as value
use Rattle.mdr_core.specs.Kinds.{is_in_range}
use Rattle.mdr_core.specs.Layout.{chosen}
use Rattle.mdr_core.specs.Typing.{Slot}
use Rattle.mdr_rich.proofs.Coded.{lit_is}
use Rattle.mdr_faults.specs.declared.scope.Scope.{Scope}
use Rattle.mdr_faults.specs.Faults.{Checked, Right, after}
use Rattle.mdr_call.specs.declared.parts.Argument.{Argument}
use Rattle.mdr_call.specs.declared.parts.Target.{Target}
use Rattle.mdr_call.specs.declared.parts.TypedCall.{TypedCall}
use Rattle.mdr_call.specs.Calls.{argument_by, call_rule, call_value}
use Rattle.mdr_operand.specs.declared.operand.Operand.{Operand}
use Rattle.mdr_operand.specs.declared.operand.Operand.TheVariants as operand
use Rattle.mdr_operand.specs.declared.room.LocalName.{LocalName}
use Rattle.mdr_operand.specs.Forms.{number, literal}
use Rattle.mdr_operand.specs.Signs.{binary_operator, prefix_operator}
use Rattle.mdr_operand.specs.Written.{Written, Writtens}
use Rattle.mdr_assign.specs.Assignments.{step_operator}
use Rattle.mdr_express.specs.Expressions.{signed_rule, fronted_by, fronted_rule, typed, behind_sign, arguments_of, target_of, call_at}
use Rattle.mdr_sound.specs.Knowing.{Knows, KnowsLocals, HasNumbers, HaveNumbers, TakesNoSlot, TakeNoSlot}
use Rattle.mdr_sound.specs.Operands.{IsKnown}
use Rattle.mdr_sound.proofs.Assigned.{bump_known}
use Rattle.mdr_sound.proofs.Casts.{cast_rule_known}
use Rattle.mdr_sound.proofs.Chosen.{choice_known}
use Rattle.mdr_sound.proofs.Elements.{subscript_known}
use Rattle.mdr_sound.proofs.FunctionCalls.{IsKnownCall}
use Rattle.mdr_sound.proofs.GivenArguments.{AreKnownArguments}
use Rattle.mdr_sound.proofs.Inside.{inside_prefix, inside_post, inside_cast, left_inside, right_inside, inside_array, inside_index, inside_member, inside_test, inside_one, inside_other, inside_callee, inside_arguments, first_inside, rest_inside}
use Rattle.mdr_sound.proofs.Joined.{binary_known}
use Rattle.mdr_sound.proofs.Members.{member_known}
use Rattle.mdr_sound.proofs.Names.{name_known}
use Rattle.mdr_sound.proofs.Prefixes.{prefix_known}
use Rattle.mdr_sound.proofs.Rights.{after_right, both_right, same_right, not_right}
use Rattle.mdr_sound.proofs.Values.{of_term}
use Rattle.mdr_sound.proofs.WrittenCalls.{IsKnownOperand, IsKnownTarget, target_known, argument_known, call_known, call_value_known}

module _ (program : Program) (slots : List Slot) (scope : Scope) (names : List LocalName) (knows : Knows program scope) (locals : KnowsLocals program slots names) where
  -- ---- literals

  literal_by : (w : Written) (n : ℕ) (k : Kind) (b : Bool) → IsTrue (is_in_range k (pos n)) → IsKnown program slots names w (chosen b (operand.Zero k) (number (expr.Lit (value.Int k (pos n))) k))
  literal_by w n k true h = tt
  literal_by w n k false h = of_term program slots _ _ (type.Int k) (lit_is (value.Int k (pos n))) (refl, h)

  literal_known : (w : Written) (n : ℕ) (k : Kind) (x : Operand) → IsTrue (is_in_range k (pos n)) → Right (literal n k) ≡ Right x → IsKnown program slots names w x
  unfolding literal
  literal_known w n k x h e = subst (IsKnown program slots names w) (same_right _ _ e) (literal_by w n k (n == 0) h)

  -- ---- operators by their signs

  signed_known : (w u v : Written) (p : Place) (sign : List ℕ) (a b : Checked Operand) (z : Operand) → ((x : Operand) → a ≡ Right x → IsKnown program slots names u x) → ((y : Operand) → b ≡ Right y → IsKnown program slots names v y)
      → signed_rule scope p sign a b ≡ Right z → IsKnown program slots names w z
  unfolding signed_rule
  signed_known w u v p sign a b z h i e = binary_known program slots names w scope p u v (binary_operator sign) a b z h i e

  -- a sign in front of an operand
  fronted_by_known : (p : Place) (sign : List ℕ) (a : Written) (o : Option Bool) (c : Checked Operand) (x : Operand) → TakesNoSlot names (Written.Prefix p sign a) → ((y : Operand) → c ≡ Right y → IsKnown program slots names a y)
      → fronted_by scope p o (prefix_operator sign) c ≡ Right x → IsKnown program slots names (Written.Prefix p sign a) x
  fronted_by_known p sign a None c x t h e = prefix_known program slots names p sign a c x t h e
  fronted_by_known p sign a (Some up) c x t h e = bump_known program slots names scope p (Written.Prefix p sign a) a true (Some up) c x h e

  fronted_known : (p : Place) (sign : List ℕ) (a : Written) (c : Checked Operand) (x : Operand) → TakesNoSlot names (Written.Prefix p sign a) → ((y : Operand) → c ≡ Right y → IsKnown program slots names a y)
      → fronted_rule scope p sign c ≡ Right x → IsKnown program slots names (Written.Prefix p sign a) x
  unfolding fronted_rule
  fronted_known p sign a c x t h e = fronted_by_known p sign a (step_operator sign) c x t h e

  -- a call as a value
  valued_call_known : (w : Written) (p : Place) (t : Checked Target) (args : Checked (List Argument)) (x : Operand) → ((y : Target) → t ≡ Right y → IsKnownTarget program slots scope names y)
      → ((xs : List Argument) → args ≡ Right xs → AreKnownArguments program slots names xs) → after (call_rule scope p t args) (call_value p) ≡ Right x → IsKnown program slots names w x
  valued_call_known w p t args x h i e =
      let a = after_right (call_rule scope p t args) (call_value p) x e in
      call_value_known program slots scope names w p a.value x (call_known program slots scope names p a.value t args h i a.right) a.made

  -- ---- all expressions

  mutual
    pub typed_known : (w : Written) (x : Operand) → HasNumbers w → TakesNoSlot names w → typed scope names w ≡ Right x → IsKnown program slots names w x
    typed_known (Written.Number p n k) x h t e = literal_known (Written.Number p n k) n k x h e
    typed_known (Written.Null p) x h t e = subst (IsKnown program slots names (Written.Null p)) (same_right _ _ e) tt
    typed_known (Written.Name p name) x h t e = name_known program slots names scope p name x knows locals e
    typed_known (Written.Prefix p op a) x h t e = fronted_known p op a (typed scope names a) x t (λ y q. typed_known a y h (inside_prefix names p op a t) q) e
    typed_known (Written.Post p op a) x h t e = bump_known program slots names scope p (Written.Post p op a) a false (step_operator op) (typed scope names a) x (λ y q. typed_known a y h (inside_post names p op a t) q) e
    typed_known (Written.Cast p b n a) x h t e = cast_rule_known program slots names (Written.Cast p b n a) a scope p b n (typed scope names a) x knows (λ y q. typed_known a y h (inside_cast names p b n a t) q) e
    typed_known (Written.Binary p op a b) x h t e =
        signed_known (Written.Binary p op a b) a b p op (typed scope names a) (typed scope names b) x
        (λ y q. typed_known a y h.0 (left_inside names p op a b t) q) (λ y q. typed_known b y h.1 (right_inside names p op a b t) q) e
    typed_known (Written.Choice p c a b) x h t e =
        choice_known program slots names (Written.Choice p c a b) p c a b (typed scope names c) (typed scope names a) (typed scope names b) x
        (λ y q. typed_known c y h.0 (inside_test names p c a b t) q) (λ y q. typed_known a y h.1.0 (inside_one names p c a b t) q) (λ y q. typed_known b y h.1.1 (inside_other names p c a b t) q) e
    typed_known (Written.Subscript p a i) x h t e =
        subscript_known program slots names (Written.Subscript p a i) a i scope p (typed scope names a) (typed scope names i) x
        (λ y q. typed_known a y h.0 (inside_array names p a i t) q) (λ y q. typed_known i y h.1 (inside_index names p a i t) q) e
    typed_known (Written.Member p a is_arrow at name) x h t e =
        member_known program slots names (Written.Member p a is_arrow at name) a scope p at is_arrow name (typed scope names a) x knows
        (λ y q. typed_known a y h (inside_member names p a is_arrow at name t) q) e
    typed_known (Written.Call p f args) x h t e =
        valued_call_known (Written.Call p f args) p (target_of scope names f) (arguments_of scope names args) x
        (λ y q. target_known program slots scope names f (typed scope names f) (behind_sign scope names f) y
        (λ z r. (f, typed_known f z h.0 (inside_callee names p f args t) r)) (λ z r. behind_known f z h.0 (inside_callee names p f args t) r) q)
        (λ xs q. arguments_known args xs h.1 (inside_arguments names p f args t) q) e
    typed_known (Written.Text p bytes) x h t e = not_right _ x e
    typed_known (Written.Names p base n) x h t e = not_right _ x e

    pub behind_known : (w : Written) (x : Operand) → HasNumbers w → TakesNoSlot names w → behind_sign scope names w ≡ Right x → IsKnownOperand program slots scope names x
    behind_known (Written.Prefix p op a) x h t e = (a, typed_known a x h (inside_prefix names p op a t) e)
    behind_known w x h t e = (w, subst (IsKnown program slots names w) (same_right _ _ e) tt)

    pub arguments_known : (ws : Writtens) (args : List Argument) → HaveNumbers ws → TakeNoSlot names ws → arguments_of scope names ws ≡ Right args → AreKnownArguments program slots names args
    arguments_known Writtens.End args n s e = subst (AreKnownArguments program slots names) (same_right _ _ e) tt
    arguments_known (Writtens.Then w ws) args n s e =
        let b = both_right (argument_by scope w (typed scope names w)) (arguments_of scope names ws) (λ x xs. Right (x ∷ xs)) args e in
        let one = argument_known program slots scope names knows w (typed scope names w) b.left (λ x q. (w, typed_known w x n.0 (first_inside names w ws s) q)) b.first in
        let others = arguments_known ws b.right n.1 (rest_inside names w ws s) b.second in
        subst (AreKnownArguments program slots names) (same_right _ _ b.made) (one, others)

  -- ---- calls

  pub call_at_known : (p : Place) (f : Written) (args : Writtens) (call : TypedCall) → HasNumbers f → TakesNoSlot names f → HaveNumbers args → TakeNoSlot names args → call_at scope names p f args ≡ Right call → IsKnownCall program slots names call
  unfolding call_at
  call_at_known p f args call n s m r e =
      call_known program slots scope names p call (target_of scope names f) (arguments_of scope names args)
      (λ y q. target_known program slots scope names f (typed scope names f) (behind_sign scope names f) y (λ z d. (f, typed_known f z n s d)) (λ z d. behind_known f z n s d) q)
      (λ xs q. arguments_known args xs m r q) e
