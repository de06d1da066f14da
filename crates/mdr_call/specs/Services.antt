-- believed
-- Calls of the kernel's services: which there are, and what each takes and gives.
use Rattle.std.specs.Prelude.{ℕ, ◌==◌, ◌&&◌, Bool, false, List, [], ◌∷◌, codes, length, map, Option, Some, None, slice_get}
use Rattle.std.specs.Str.{bytes_eq}
use Rattle.mdr_rich.specs.declared.code.Callee.TheVariants as callee
use Rattle.mdr_rich.specs.declared.code.Expr.{Expr}
use Rattle.mdr_rich.specs.declared.code.Expr.TheVariants as expr
use Rattle.mdr_core.specs.declared.kind.Kind.{Kind}
use Rattle.mdr_core.specs.declared.kind.Kind.TheVariants.{U64, S32}
use Rattle.mdr_core.specs.declared.place.Place.{Place}
use Rattle.mdr_core.specs.declared.types.Ty.{Ty}
use Rattle.mdr_core.specs.declared.types.Ty.TheVariants as type
use Rattle.mdr_core.specs.declared.value.Value.TheVariants as value
use Rattle.mdr_core.specs.Layout.{chosen}
use Rattle.mdr_core.specs.Services.{Reading, Service as CoreService, Signature, offered, directives}
use Rattle.mdr_faults.specs.declared.fault.FaultKind.TheVariants.{Mismatch, IrqTarget, BadArity}
use Rattle.mdr_faults.specs.declared.scope.Scope.{Scope}
use Rattle.mdr_faults.specs.Declarations.{cells_of, is_void}
use Rattle.mdr_faults.specs.Faults.{Checked, Right, refuse, after}
use Rattle.mdr_operand.specs.declared.operand.Operand.{Operand}
use Rattle.mdr_operand.specs.declared.operand.Operand.TheVariants as operand
use Rattle.mdr_operand.specs.Forms.{needed, value_of}
use Rattle.mdr_call.specs.declared.parts.Argument.{Argument}
use Rattle.mdr_call.specs.declared.parts.Argument.TheVariants as argument
use Rattle.mdr_call.specs.declared.parts.Handle.{Handle}
use Rattle.mdr_call.specs.declared.parts.TypedCall.{TypedCall}
use Rattle.mdr_call.specs.declared.service.PlainService.{PlainService}
use Rattle.mdr_call.specs.declared.service.PlainService.TheVariants.{Kfree, Readl, Writel, FreeIrq, Deliver, Combolock, Combounlock, Bug}
use Rattle.mdr_call.specs.declared.service.Service.{Service}
use Rattle.mdr_call.specs.declared.service.Service.TheVariants as service
use Rattle.mdr_call.specs.Arguments.{arguments_as, converted, first_off, plain_call}
use Rattle.mdr_call.specs.Functions.{call_with, handle_by, result_of}

-- ---- names

abbrev pub plain_named : List ℕ → Option PlainService
plain_named name =
    chosen (bytes_eq name (codes "kfree")) (Some Kfree)
    (chosen (bytes_eq name (codes "readl")) (Some Readl)
    (chosen (bytes_eq name (codes "writel")) (Some Writel)
    (chosen (bytes_eq name (codes "free_irq")) (Some FreeIrq)
    (chosen (bytes_eq name (codes "deliver")) (Some Deliver)
    (chosen (bytes_eq name (codes "combolock")) (Some Combolock)
    (chosen (bytes_eq name (codes "combounlock")) (Some Combounlock)
    (chosen (bytes_eq name (codes "BUG")) (Some Bug) None)))))))

abbrev pub as_plain : Option PlainService → Option Service
as_plain None = None
as_plain (Some s) = Some (service.Plain s)

-- these words are reserved, and name nothing else
unfoldable pub service_named : List ℕ → Option Service
service_named name =
    chosen (bytes_eq name (codes "kzalloc")) (Some service.Kzalloc)
    (chosen (bytes_eq name (codes "kcalloc")) (Some service.Kcalloc)
    (chosen (bytes_eq name (codes "printk")) (Some service.Printk)
    (chosen (bytes_eq name (codes "request_irq")) (Some service.RequestIrq)
    (chosen (bytes_eq name (codes "kcall")) (Some service.Kcall)
    (as_plain (plain_named name))))))

-- ---- services that take values alone

abbrev pub core_service : PlainService → CoreService
core_service Kfree = CoreService.Kfree
core_service Readl = CoreService.Readl
core_service Writel = CoreService.Writel
core_service FreeIrq = CoreService.FreeIrq
core_service Deliver = CoreService.Deliver
core_service Combolock = CoreService.Combolock
core_service Combounlock = CoreService.Combounlock
core_service Bug = CoreService.Bug

abbrev pub number : PlainService → ℕ
number Kfree = 3
number Readl = 4
number Writel = 5
number FreeIrq = 8
number Deliver = 9
number Combolock = 10
number Combounlock = 11
number Bug = 12

abbrev pub types_offered : Option Signature → List Ty
types_offered None = []
types_offered (Some s) = s.result ∷ s.params

-- what a service takes and gives, as the types of a function
abbrev pub plain_types : PlainService → List Ty
plain_types s = types_offered (offered (core_service s) None None)

unfoldable pub plain_service : Place → List Argument → PlainService → Checked TypedCall
plain_service p args s = call_with p args (record { callee = callee.Service (number s); types = plain_types s })

-- ---- allocations

abbrev pub type_argument : Option Argument → Option Ty
type_argument None = None
type_argument (Some (argument.Value x)) = None
type_argument (Some (argument.Text bytes)) = None
type_argument (Some (argument.Type t)) = Some t

abbrev pub allocated : ℕ → Ty → List Expr → TypedCall
allocated n t es = record { form = record { callee = callee.Service n; args = es; shape = Some t; format = None }; result = type.Ptr t }

-- an allocation of elements of a type whose size is known (6.2.5)
unfoldable pub allocation_of : Scope → Place → (number : ℕ) → (counts : List Ty) → List Argument → Ty → Checked TypedCall
allocation_of scope p n counts args t = after (cells_of scope p t) (λ cells. after (arguments_as p (type.Void ∷ counts) args) (λ es. Right (allocated n t es)))

-- `kzalloc(T)`
unfoldable pub kzalloc : Scope → Place → List Argument → Checked TypedCall
kzalloc scope p args = chosen (length args == 1) (after (needed p (type_argument (slice_get args 0))) (allocation_of scope p 1 [] [])) (refuse p BadArity)

-- a count, and what stands behind it
unfoldable pub counted : Scope → Place → (count : Argument) → (rest : List Argument) → Checked TypedCall
counted scope p count rest = after (needed p (type_argument (slice_get rest 0))) (allocation_of scope p 2 (type.Int U64 ∷ []) (count ∷ []))

abbrev pub counted_by : Scope → Place → Option (Argument × List Argument) → Checked TypedCall
counted_by scope p None = refuse p BadArity
counted_by scope p (Some parts) = counted scope p parts.0 parts.1

-- `kcalloc(n, T)`
unfoldable pub kcalloc : Scope → Place → List Argument → Checked TypedCall
kcalloc scope p args = chosen (length args == 2) (counted_by scope p (first_off args)) (refuse p BadArity)

-- ---- texts

abbrev pub text_argument : Argument → Option (List ℕ)
text_argument (argument.Value x) = None
text_argument (argument.Text bytes) = Some bytes
text_argument (argument.Type t) = None

abbrev pub printing : (text : List ℕ) → List Expr → TypedCall
printing text es = record { form = record { callee = callee.Service 6; args = es; shape = None; format = Some text }; result = type.Void }

-- the arguments behind the text are what its directives take
unfoldable pub printed_with : Place → (text : List ℕ) → List Argument → List Kind → Checked TypedCall
printed_with p text args kinds = after (converted p (type.Void ∷ map type.Int kinds) args) (λ es. Right (printing text es))

unfoldable pub printed : Place → List Argument → (text : List ℕ) → Checked TypedCall
printed p args text = after (needed p (directives Reading.Plain text)) (printed_with p text args)

unfoldable pub printed_first : Place → (text : Argument) → (rest : List Argument) → Checked TypedCall
printed_first p a rest = after (needed p (text_argument a)) (printed p rest)

abbrev pub printed_by : Place → Option (Argument × List Argument) → Checked TypedCall
printed_by p None = refuse p BadArity
printed_by p (Some parts) = printed_first p parts.0 parts.1

-- `printk("..", ..)`
unfoldable pub printk : Place → List Argument → Checked TypedCall
printk p args = printed_by p (first_off args)

-- ---- interrupts

abbrev pub is_void_there : Option Ty → Bool
is_void_there None = false
is_void_there (Some t) = is_void t

-- the types of a function that takes and gives nothing
abbrev pub is_handler : List Ty → Bool
is_handler ts = (length ts == 1) && is_void_there (slice_get ts 0)

abbrev pub handler_by : Operand → Option ℕ
handler_by (operand.Value v) = None
handler_by (operand.Zero k) = None
handler_by operand.Null = None
handler_by (operand.Object l t) = None
handler_by (operand.Array l t n) = None
handler_by (operand.Function f ts) = chosen (is_handler ts) (Some f) None

-- the name of a function that takes and gives nothing
abbrev pub handler : Option Argument → Option ℕ
handler None = None
handler (Some (argument.Value x)) = handler_by x
handler (Some (argument.Text bytes)) = None
handler (Some (argument.Type t)) = None

abbrev pub requested : Place → Option ℕ → Checked TypedCall
requested p None = refuse p IrqTarget
requested p (Some f) = Right (plain_call (callee.Service 7) (expr.Lit (value.Fn f) ∷ []) (type.Int S32))

-- `request_irq(f)`
unfoldable pub request_irq : Place → List Argument → Checked TypedCall
request_irq p args = chosen (length args == 1) (requested p (handler (slice_get args 0))) (refuse p BadArity)

-- ---- calls back

abbrev pub handle_argument : Argument → Option Handle
handle_argument (argument.Value x) = handle_by (value_of x)
handle_argument (argument.Text bytes) = None
handle_argument (argument.Type t) = None

abbrev pub calling_back : Handle → List Expr → TypedCall
calling_back h es = plain_call (callee.Service 15) (h.value ∷ es) (result_of h.types)

-- f has one parameter
unfoldable pub called_back : Place → (rest : List Argument) → Handle → Checked TypedCall
called_back p rest h = chosen (length h.types == 2) (after (arguments_as p h.types rest) (λ es. Right (calling_back h es))) (refuse p Mismatch)

unfoldable pub kcall_of : Place → (f : Argument) → (rest : List Argument) → Checked TypedCall
kcall_of p f rest = after (needed p (handle_argument f)) (called_back p rest)

abbrev pub kcall_by : Place → Option (Argument × List Argument) → Checked TypedCall
kcall_by p None = refuse p BadArity
kcall_by p (Some parts) = kcall_of p parts.0 parts.1

-- `kcall(f, a)`: f is called with a
unfoldable pub kcall : Place → List Argument → Checked TypedCall
kcall p args = chosen (length args == 2) (kcall_by p (first_off args)) (refuse p BadArity)

-- ---- all of them

unfoldable pub service_call : Scope → Place → List Argument → Service → Checked TypedCall
service_call scope p args service.Kzalloc = kzalloc scope p args
service_call scope p args service.Kcalloc = kcalloc scope p args
service_call scope p args service.Printk = printk p args
service_call scope p args service.RequestIrq = request_irq p args
service_call scope p args service.Kcall = kcall p args
service_call scope p args (service.Plain s) = plain_service p args s
