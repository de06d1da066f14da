-- The rules of assignments, of calls that stand alone and of returns look at no place.
use Rattle.mdr_assign.specs.Assignments.{step_operator}
use Rattle.mdr_call.specs.declared.parts.TypedCall.{TypedCall}
use Rattle.mdr_core.specs.declared.place.Place.{Place}
use Rattle.mdr_faults.specs.Declarations.{is_void}
use Rattle.mdr_faults.specs.Faults.{Checked}
use Rattle.mdr_faults.specs.declared.scope.Scope.{Scope}
use Rattle.mdr_operand.specs.Forms.{is_active_operand}
use Rattle.mdr_operand.specs.Signs.{assignment_operator}
use Rattle.mdr_operand.specs.Written.{Written}
use Rattle.mdr_operand.specs.declared.operand.Operand.{Operand}
use Rattle.mdr_operand.specs.declared.room.LocalName.{LocalName}
use Rattle.mdr_placeless.proofs.Assigning.{assignment_rules, destinations, step_rules}
use Rattle.mdr_placeless.proofs.Calls.{call_values}
use Rattle.mdr_placeless.proofs.Combined.{after_alike, both_alike, chosen_alike}
use Rattle.mdr_placeless.proofs.Expressions.{calls, expressions}
use Rattle.mdr_placeless.proofs.Operands.{conversions}
use Rattle.mdr_placeless.proofs.Postfixes.{AreLocalNames}
use Rattle.mdr_placeless.proofs.Scopes.{AreScopes, Pairs}
use Rattle.mdr_placeless.proofs.Written.{AreWritten}
use Rattle.mdr_placeless.proofs.Written.AreWritten.{Binaries, Calls, Casts, Choices, Members, Names, Nulls, Numbers, Posts, Prefixes, Subscripts, Texts, Types}
use Rattle.mdr_placeless.specs.Alike.{AreAlike}
use Rattle.mdr_placeless.specs.Alike.AreAlike.{Rights, Wrongs}
use Rattle.mdr_typing.specs.Becoming.{becomes}
use Rattle.mdr_typing.specs.Sources.{call_as, call_assigned, call_source, is_plain, source_assigned, source_returned, source_stored, value_assigned}
use Rattle.mdr_typing.specs.declared.source.Source.{Source}
use Rattle.std.proofs.Common.{List, Option, not, ℕ, ◌&&◌}
use Rattle.mdr_rich.specs.declared.code.Lval.{Lval}
use Rattle.mdr_core.specs.declared.types.Ty.{Ty, out-Ty}
use Rattle.mdr_operand.specs.declared.operator.AssignmentOperator.{AssignmentOperator}
use Rattle.mdr_typing.specs.Profile.{assigned, stepped, called, stored, returned}
use Rattle.mdr_typing.specs.Sources.{cast_source, is_pointer_of, is_pointer_value, pointer_source, source_of}
use Rattle.mdr_typing.specs.declared.source.Source.TheVariants as source

-- ---- assignments

module _ (p q : Place) where
  calls_as : (u : Ty) (c : TypedCall) → AreAlike (call_as p u c) (call_as q u c)
  unfolding call_as
  calls_as u c = chosen_alike (becomes c.result u) (Rights _) (Wrongs _ _)

  call_sources : (c : TypedCall) → AreAlike (call_source p c) (call_source q c)
  unfolding call_source
  call_sources c = chosen_alike (is_void c.result) (Wrongs _ _) (Rights _)

  stored_sources : (l : Lval) (u : Ty) (x : Source) → AreAlike (source_stored p l u x) (source_stored q l u x)
  unfolding source_stored
  stored_sources l u (source.Value x) = after_alike (conversions p q u x) (λ e. Rights _)
  stored_sources l u (source.Call c) = after_alike (calls_as u c) (λ f. Rights _)

  returned_sources : (u : Ty) (x : Source) → AreAlike (source_returned p u x) (source_returned q u x)
  unfolding source_returned
  returned_sources u (source.Value x) = after_alike (conversions p q u x) (λ e. Rights _)
  returned_sources u (source.Call c) = after_alike (calls_as u c) (λ f. Rights _)

  assigned_calls : (x : Operand) (c : TypedCall) → AreAlike (call_assigned p x c) (call_assigned q x c)
  unfolding call_assigned
  assigned_calls x c = after_alike (destinations p q x) (λ d. stored_sources d.object d.ty (source.Call c))

module _ {s t : Scope} (a : AreScopes s t) (p q : Place) where
  assigned_values : (op : Option AssignmentOperator) (x y : Operand) → AreAlike (value_assigned s p op x y) (value_assigned t q op x y)
  unfolding value_assigned
  assigned_values op x y = after_alike (assignment_rules a p q op (Rights x) (Rights y)) (λ e. Rights _)

  assigned_sources : (op : Option AssignmentOperator) (x : Operand) (y : Source) → AreAlike (source_assigned s p op x y) (source_assigned t q op x y)
  unfolding source_assigned
  assigned_sources op x (source.Value y) = assigned_values op x y
  assigned_sources op x (source.Call c) = chosen_alike (is_plain op && not (is_active_operand x)) (assigned_calls p q x c) (after_alike (call_values p q c) (assigned_values op x))

-- ---- behind casts

pointer_sources : {c d : Checked Source} → AreAlike c d → (x : Operand) → AreAlike (pointer_source c x) (pointer_source d x)
pointer_sources (Rights (source.Value y)) x = Rights _
pointer_sources (Rights (source.Call c)) x = chosen_alike (is_pointer_of (out-Ty c.result) x) (Rights _) (Rights _)
pointer_sources (Wrongs f g) x = Rights _

cast_sources : {c d : Checked Source} → AreAlike c d → (x : Operand) → AreAlike (cast_source c x) (cast_source d x)
unfolding cast_source
cast_sources h x = chosen_alike (is_pointer_value x) (pointer_sources h x) (Rights _)

-- ---- as they are written

module _ {s t : Scope} {ns ms : List LocalName} (a : AreScopes s t) (h : Pairs AreLocalNames ns ms) where
  sources : {v w : Written} → AreWritten v w → AreAlike (source_of s ns v) (source_of t ms w)
  sources (Numbers p q n k) = after_alike (expressions a h (Numbers p q n k)) (λ x. Rights (source.Value x))
  sources (Nulls p q) = after_alike (expressions a h (Nulls p q)) (λ x. Rights (source.Value x))
  sources (Names p q name) = after_alike (expressions a h (Names p q name)) (λ x. Rights (source.Value x))
  sources (Prefixes p q op r) = after_alike (expressions a h (Prefixes p q op r)) (λ x. Rights (source.Value x))
  sources (Posts p q op r) = after_alike (expressions a h (Posts p q op r)) (λ x. Rights (source.Value x))
  sources (Casts p q n bs r) = after_alike (expressions a h (Casts p q n bs r)) (cast_sources (sources r))
  sources (Binaries p q op r k) = after_alike (expressions a h (Binaries p q op r k)) (λ x. Rights (source.Value x))
  sources (Choices p q r k l) = after_alike (expressions a h (Choices p q r k l)) (λ x. Rights (source.Value x))
  sources (Subscripts p q r k) = after_alike (expressions a h (Subscripts p q r k)) (λ x. Rights (source.Value x))
  sources (Members p q at there is_arrow name r) = after_alike (expressions a h (Members p q at there is_arrow name r)) (λ x. Rights (source.Value x))
  sources (Calls p q r rs) = after_alike (calls a h p q r rs) (call_sources p q)
  sources (Texts p q bytes) = after_alike (expressions a h (Texts p q bytes)) (λ x. Rights (source.Value x))
  sources (Types p q n bs) = after_alike (expressions a h (Types p q n bs)) (λ x. Rights (source.Value x))

  pub assignments : (p q : Place) (op : List ℕ) {v w v' w' : Written} → AreWritten v v' → AreWritten w w' → AreAlike (assigned s ns p op v w) (assigned t ms q op v' w')
  unfolding assigned
  assignments p q op r k = both_alike (expressions a h r) (sources k) (assigned_sources a p q (assignment_operator op))

  steps : (p q : Place) (op : List ℕ) {v w : Written} → AreWritten v w → AreAlike (stepped s ns p op v) (stepped t ms q op w)
  unfolding stepped
  steps p q op r = after_alike (step_rules a p q (step_operator op) (expressions a h r)) (λ e. Rights _)

  pub calls_alone : {v w : Written} → AreWritten v w → AreAlike (called s ns v) (called t ms w)
  calls_alone (Numbers p q n k) = Wrongs _ _
  calls_alone (Nulls p q) = Wrongs _ _
  calls_alone (Names p q name) = Wrongs _ _
  calls_alone (Prefixes p q op r) = steps p q op r
  calls_alone (Posts p q op r) = steps p q op r
  calls_alone (Casts p q n bs r) = Wrongs _ _
  calls_alone (Binaries p q op r k) = Wrongs _ _
  calls_alone (Choices p q r k l) = Wrongs _ _
  calls_alone (Subscripts p q r k) = Wrongs _ _
  calls_alone (Members p q at there is_arrow name r) = Wrongs _ _
  calls_alone (Calls p q r rs) = after_alike (calls a h p q r rs) (λ c. Rights _)
  calls_alone (Texts p q bytes) = Wrongs _ _
  calls_alone (Types p q n bs) = Wrongs _ _

  pub stores : (p q : Place) (l : Lval) (u : Ty) {v w : Written} → AreWritten v w → AreAlike (stored s ns p l u v) (stored t ms q l u w)
  unfolding stored
  stores p q l u r = after_alike (sources r) (stored_sources p q l u)

  pub returns_of : (p q : Place) (u : Ty) {v w : Written} → AreWritten v w → AreAlike (returned s ns p u v) (returned t ms q u w)
  unfolding returned
  returns_of p q u r = after_alike (sources r) (returned_sources p q u)
