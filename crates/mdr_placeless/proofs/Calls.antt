-- The rules of calls look at no place.
use Rattle.mdr_call.specs.Arguments.{argument_as, argument_for, arguments_from, converted, first_off}
use Rattle.mdr_call.specs.Calls.{argument_by, as_target, call_by, call_rule, call_value, callee_behind, is_handle, is_star, named_target, starred_callee, target_by, valued}
use Rattle.mdr_call.specs.Functions.{call_with, callable, function_call}
use Rattle.mdr_call.specs.Services.{called_back, counted, counted_by, handle_argument, kcall, kcall_by, kcall_of, kcalloc, kzalloc, printed_by, printed_first, printed_with, printk, request_irq, service_named, text_argument, type_argument}
use Rattle.mdr_call.specs.declared.parts.Argument.{Argument}
use Rattle.mdr_call.specs.declared.parts.Callable.{Callable}
use Rattle.mdr_call.specs.declared.parts.Handle.{Handle}
use Rattle.mdr_call.specs.declared.parts.Target.{Target}
use Rattle.mdr_call.specs.declared.parts.TypedCall.{TypedCall}
use Rattle.mdr_call.specs.declared.service.PlainService.{PlainService}
use Rattle.mdr_core.specs.declared.place.Place.{Place}
use Rattle.mdr_faults.specs.Faults.{Checked}
use Rattle.mdr_faults.specs.declared.scope.Scope.{Scope}
use Rattle.mdr_operand.specs.Signs.{prefix_operator}
use Rattle.mdr_operand.specs.Written.{Written}
use Rattle.mdr_operand.specs.declared.operand.Operand.{Operand}
use Rattle.mdr_operand.specs.declared.operator.PrefixOperator.{PrefixOperator}
use Rattle.mdr_placeless.proofs.Combined.{after_alike, both_alike, chosen_alike, needed_alike, next_alike}
use Rattle.mdr_placeless.proofs.Constants.{types_named}
use Rattle.mdr_placeless.proofs.Declared.{cells_alike}
use Rattle.mdr_placeless.proofs.Operands.{conversions, prefix_rules, scalars, values_at}
use Rattle.mdr_placeless.proofs.Scopes.{AreScopes}
use Rattle.mdr_placeless.proofs.Written.{AreWritten}
use Rattle.mdr_placeless.proofs.Written.AreWritten.{Binaries, Calls, Casts, Choices, Members, Names, Nulls, Numbers, Posts, Prefixes, Subscripts, Texts, Types}
use Rattle.mdr_placeless.specs.Alike.{AreAlike}
use Rattle.mdr_placeless.specs.Alike.AreAlike.{Rights, Wrongs}
use Rattle.std.proofs.Common.{List, None, Option, Some, [], length, map, slice_get, ℕ, ◌+◌, ◌==◌, ◌∷◌}
use Rattle.mdr_call.specs.Services.{printed, plain_service, allocation_of, service_call, requested, handler}
use Rattle.mdr_call.specs.declared.parts.Argument.TheVariants as argument
use Rattle.mdr_call.specs.declared.parts.Target.TheVariants as target
use Rattle.mdr_call.specs.declared.service.Service.TheVariants as service
use Rattle.mdr_call.specs.declared.service.Service.{Service}
use Rattle.mdr_core.specs.Services.{Reading, directives}
use Rattle.mdr_core.specs.declared.kind.Kind.TheVariants.{U64}
use Rattle.mdr_core.specs.declared.kind.Kind.{Kind}
use Rattle.mdr_core.specs.declared.types.Ty.TheVariants as type
use Rattle.mdr_core.specs.declared.types.Ty.{Ty}
use Rattle.mdr_operand.specs.declared.operator.PrefixOperator.TheVariants as prefix

-- ---- arguments as values

arguments_as_values : (p q : Place) (u : Ty) (x : Argument) → AreAlike (argument_as p u x) (argument_as q u x)
unfolding argument_as
arguments_as_values p q u (argument.Value x) = conversions p q u x
arguments_as_values p q u (argument.Text bytes) = Wrongs _ _
arguments_as_values p q u (argument.Type v) = Wrongs _ _

arguments_for : (p q : Place) (u : Option Ty) (x : Argument) → AreAlike (argument_for p u x) (argument_for q u x)
unfolding argument_for
arguments_for p q None x = Wrongs _ _
arguments_for p q (Some u) x = arguments_as_values p q u x

argument_lists : (p q : Place) (us : List Ty) (i : ℕ) (xs : List Argument) → AreAlike (arguments_from p us i xs) (arguments_from q us i xs)
unfolding arguments_from
argument_lists p q us i [] = Rights _
argument_lists p q us i (x ∷ xs) = next_alike (arguments_for p q (slice_get us i) x) (argument_lists p q us (i + 1) xs)

conversions_of : (p q : Place) (us : List Ty) (xs : List Argument) → AreAlike (converted p us xs) (converted q us xs)
unfolding converted
conversions_of p q us xs = chosen_alike (length us == length xs + 1) (argument_lists p q us 1 xs) (Wrongs _ _)

-- ---- functions

calls_with : (p q : Place) (xs : List Argument) (c : Callable) → AreAlike (call_with p xs c) (call_with q xs c)
unfolding call_with
calls_with p q xs c = after_alike (conversions_of p q c.types xs) (λ es. Rights _)

function_calls : (p q : Place) (xs : List Argument) (x : Operand) → AreAlike (function_call p xs x) (function_call q xs x)
unfolding function_call
function_calls p q xs x = after_alike (needed_alike p q (callable x)) (calls_with p q xs)

-- ---- services

module _ {s t : Scope} (a : AreScopes s t) (p q : Place) where
  plain_services : (xs : List Argument) (x : PlainService) → AreAlike (plain_service p xs x) (plain_service q xs x)
  unfolding plain_service
  plain_services xs x = calls_with p q xs _

  allocations_of : (n : ℕ) (us : List Ty) (xs : List Argument) (u : Ty) → AreAlike (allocation_of s p n us xs u) (allocation_of t q n us xs u)
  unfolding allocation_of
  allocations_of n us xs u = after_alike (cells_alike a p q u) (λ k. after_alike (argument_lists p q (type.Void ∷ us) 1 xs) (λ es. Rights _))

  single_allocations : (xs : List Argument) → AreAlike (kzalloc s p xs) (kzalloc t q xs)
  unfolding kzalloc
  single_allocations xs = chosen_alike (length xs == 1) (after_alike (needed_alike p q (type_argument (slice_get xs 0))) (allocations_of 1 [] [])) (Wrongs _ _)

  counts : (x : Argument) (xs : List Argument) → AreAlike (counted s p x xs) (counted t q x xs)
  unfolding counted
  counts x xs = after_alike (needed_alike p q (type_argument (slice_get xs 0))) (allocations_of 2 (type.Int U64 ∷ []) (x ∷ []))

  counts_by : (o : Option (Argument × List Argument)) → AreAlike (counted_by s p o) (counted_by t q o)
  counts_by None = Wrongs _ _
  counts_by (Some parts) = counts parts.0 parts.1

  allocations : (xs : List Argument) → AreAlike (kcalloc s p xs) (kcalloc t q xs)
  unfolding kcalloc
  allocations xs = chosen_alike (length xs == 2) (counts_by (first_off xs)) (Wrongs _ _)

  prints_with : (bytes : List ℕ) (xs : List Argument) (ks : List Kind) → AreAlike (printed_with p bytes xs ks) (printed_with q bytes xs ks)
  unfolding printed_with
  prints_with bytes xs ks = after_alike (conversions_of p q (type.Void ∷ map type.Int ks) xs) (λ es. Rights _)

  prints : (xs : List Argument) (bytes : List ℕ) → AreAlike (printed p xs bytes) (printed q xs bytes)
  unfolding printed
  prints xs bytes = after_alike (needed_alike p q (directives Reading.Plain bytes)) (prints_with bytes xs)

  prints_first : (x : Argument) (xs : List Argument) → AreAlike (printed_first p x xs) (printed_first q x xs)
  unfolding printed_first
  prints_first x xs = after_alike (needed_alike p q (text_argument x)) (prints xs)

  prints_by : (o : Option (Argument × List Argument)) → AreAlike (printed_by p o) (printed_by q o)
  prints_by None = Wrongs _ _
  prints_by (Some parts) = prints_first parts.0 parts.1

  printing_calls : (xs : List Argument) → AreAlike (printk p xs) (printk q xs)
  unfolding printk
  printing_calls xs = prints_by (first_off xs)

  requests : (f : Option ℕ) → AreAlike (requested p f) (requested q f)
  requests None = Wrongs _ _
  requests (Some f) = Rights _

  interrupts : (xs : List Argument) → AreAlike (request_irq p xs) (request_irq q xs)
  unfolding request_irq
  interrupts xs = chosen_alike (length xs == 1) (requests (handler (slice_get xs 0))) (Wrongs _ _)

  backs : (xs : List Argument) (f : Handle) → AreAlike (called_back p xs f) (called_back q xs f)
  unfolding called_back
  backs xs f = chosen_alike (length f.types == 2) (after_alike (argument_lists p q f.types 1 xs) (λ es. Rights _)) (Wrongs _ _)

  backs_of : (f : Argument) (xs : List Argument) → AreAlike (kcall_of p f xs) (kcall_of q f xs)
  unfolding kcall_of
  backs_of f xs = after_alike (needed_alike p q (handle_argument f)) (backs xs)

  backs_by : (o : Option (Argument × List Argument)) → AreAlike (kcall_by p o) (kcall_by q o)
  backs_by None = Wrongs _ _
  backs_by (Some parts) = backs_of parts.0 parts.1

  calls_back : (xs : List Argument) → AreAlike (kcall p xs) (kcall q xs)
  unfolding kcall
  calls_back xs = chosen_alike (length xs == 2) (backs_by (first_off xs)) (Wrongs _ _)

  services : (xs : List Argument) (x : Service) → AreAlike (service_call s p xs x) (service_call t q xs x)
  unfolding service_call
  services xs service.Kzalloc = single_allocations xs
  services xs service.Kcalloc = allocations xs
  services xs service.Printk = printing_calls xs
  services xs service.RequestIrq = interrupts xs
  services xs service.Kcall = calls_back xs
  services xs (service.Plain x) = plain_services xs x

  -- ---- calls of what was found

  calls_by : (xs : List Argument) (x : Target) → AreAlike (call_by s p xs x) (call_by t q xs x)
  calls_by xs (target.Service x) = services xs x
  calls_by xs (target.Callee x) = function_calls p q xs x

  pub call_rules : {c c' : Checked Target} {d d' : Checked (List Argument)} → AreAlike c c' → AreAlike d d' → AreAlike (call_rule s p c d) (call_rule t q c' d')
  unfolding call_rule
  call_rules h k = both_alike h k (λ x xs. calls_by xs x)

-- ---- what is called

values : (p q : Place) (x : Operand) → AreAlike (valued p x) (valued q x)
unfolding valued
values p q x = after_alike (scalars p q x) (λ v. Rights _)

starred_callees : (p q : Place) (x : Operand) → AreAlike (starred_callee p x) (starred_callee q x)
unfolding starred_callee
starred_callees p q x = chosen_alike (is_handle x) (values p q x) (prefix_rules p q (Some prefix.Target) (Rights x))

callees_behind : (p q : Place) (op : Option PrefixOperator) {c d c' d' : Checked Operand} → AreAlike c d → AreAlike c' d' → AreAlike (callee_behind p op c c') (callee_behind q op d d')
unfolding callee_behind
callees_behind p q op h k = chosen_alike (is_star op) (after_alike k (starred_callees p q)) h

as_targets : {c d : Checked Operand} → AreAlike c d → AreAlike (as_target c) (as_target d)
as_targets h = after_alike h (λ x. Rights _)

named_targets : (o : Option Service) {c d : Checked Operand} → AreAlike c d → AreAlike (named_target o c) (named_target o d)
named_targets None h = as_targets h
named_targets (Some x) h = Rights _

pub targets_by : {v w : Written} {c d c' d' : Checked Operand} → AreWritten v w → AreAlike c d → AreAlike c' d' → AreAlike (target_by v c c') (target_by w d d')
targets_by (Numbers p q n k) h l = as_targets h
targets_by (Nulls p q) h l = as_targets h
targets_by (Names p q name) h l = named_targets (service_named name) h
targets_by (Prefixes p q op r) h l = as_targets (callees_behind p q (prefix_operator op) h l)
targets_by (Posts p q op r) h l = as_targets h
targets_by (Casts p q n bs r) h l = as_targets h
targets_by (Binaries p q op r k) h l = as_targets h
targets_by (Choices p q r k m) h l = as_targets h
targets_by (Subscripts p q r k) h l = as_targets h
targets_by (Members p q at there is_arrow name r) h l = as_targets h
targets_by (Calls p q r rs) h l = as_targets h
targets_by (Texts p q bytes) h l = as_targets h
targets_by (Types p q n bs) h l = as_targets h

-- ---- arguments as they are written

pub arguments_by : {s t : Scope} → AreScopes s t → {v w : Written} {c d : Checked Operand} → AreWritten v w → AreAlike c d → AreAlike (argument_by s v c) (argument_by t w d)
arguments_by a (Numbers p q n k) h = after_alike h (λ x. Rights (argument.Value x))
arguments_by a (Nulls p q) h = after_alike h (λ x. Rights (argument.Value x))
arguments_by a (Names p q name) h = after_alike h (λ x. Rights (argument.Value x))
arguments_by a (Prefixes p q op r) h = after_alike h (λ x. Rights (argument.Value x))
arguments_by a (Posts p q op r) h = after_alike h (λ x. Rights (argument.Value x))
arguments_by a (Casts p q n bs r) h = after_alike h (λ x. Rights (argument.Value x))
arguments_by a (Binaries p q op r k) h = after_alike h (λ x. Rights (argument.Value x))
arguments_by a (Choices p q r k m) h = after_alike h (λ x. Rights (argument.Value x))
arguments_by a (Subscripts p q r k) h = after_alike h (λ x. Rights (argument.Value x))
arguments_by a (Members p q at there is_arrow name r) h = after_alike h (λ x. Rights (argument.Value x))
arguments_by a (Calls p q r rs) h = after_alike h (λ x. Rights (argument.Value x))
arguments_by a (Texts p q bytes) h = Rights _
arguments_by a (Types p q n bs) h = after_alike (types_named a bs n) (λ u. Rights _)

-- ---- calls as values

pub call_values : (p q : Place) (c : TypedCall) → AreAlike (call_value p c) (call_value q c)
unfolding call_value
call_values p q c = values_at p q c.result _
