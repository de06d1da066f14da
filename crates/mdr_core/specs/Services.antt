-- believed
-- The services of the kernel: what a call of each takes and gives.
use Rattle.std.specs.Prelude.{ℕ, zero, suc, ◌==◌, List, [], ◌∷◌, Option, Some, None, map, slice_get}
use Rattle.mdr_core.specs.declared.kind.Kind.{Kind}
use Rattle.mdr_core.specs.declared.kind.Kind.TheVariants.{U8, U32, U64, S32, S64}
use Rattle.mdr_core.specs.declared.types.Ty.{Ty}
use Rattle.mdr_core.specs.declared.types.Ty.TheVariants as type
use Rattle.mdr_core.specs.Layout.{chosen}

-- what a call takes and gives: the types of its arguments, to which they are converted (C99 6.5.2.2, paragraph 7), and its result's
pub record Signature : Type 0 where
  pub params : List Ty
  pub result : Ty

-- a directive of a `printk` text, from its letter: `%d` and `%c` take s32, `%u` and `%x` u32, behind an `l` `%ld` s64, `%lu` and `%lx` u64
abbrev pub plain_directive : ℕ → Option Kind
plain_directive letter = chosen (letter == 100) (Some S32) (chosen (letter == 99) (Some S32) (chosen (letter == 117) (Some U32) (chosen (letter == 120) (Some U32) None)))

abbrev pub long_directive : ℕ → Option Kind
long_directive letter = chosen (letter == 100) (Some S64) (chosen (letter == 117) (Some U64) (chosen (letter == 120) (Some U64) None))

abbrev pub and_kinds : Option Kind → Option (List Kind) → Option (List Kind)
and_kinds None rest = None
and_kinds (Some k) None = None
and_kinds (Some k) (Some ks) = Some (k ∷ ks)

-- where a text is read: in plain bytes, behind a `%` (37), behind `%l` (108)
pub data Reading : Type 0 where
  Plain : Reading
  Percent : Reading
  Long : Reading

-- the kinds that a text's directives take, where each is one. `%%` takes nothing
unfoldable pub directives : Reading → List ℕ → Option (List Kind)
directives Plain [] = Some []
directives Percent [] = None
directives Long [] = None
directives Plain (b ∷ bs) = chosen (b == 37) (directives Percent bs) (directives Plain bs)
directives Percent (b ∷ bs) = chosen (b == 37) (directives Plain bs) (chosen (b == 108) (directives Long bs) (and_kinds (plain_directive b) (directives Plain bs)))
directives Long (b ∷ bs) = and_kinds (long_directive b) (directives Plain bs)

abbrev pub printed : Option (List Kind) → Option Signature
printed None = None
printed (Some ks) = Some (record { params = map type.Int ks; result = type.Void })

-- the services in the order of their numbers, which count from 1. `Enter` and `Leave` have no name in a source: they are the births and deaths of objects of locals
pub data Service : Type 0 where
  Kzalloc : Service
  Kcalloc : Service
  Kfree : Service
  Readl : Service
  Writel : Service
  Printk : Service
  RequestIrq : Service
  FreeIrq : Service
  Deliver : Service
  Combolock : Service
  Combounlock : Service
  Bug : Service
  Enter : Service
  Leave : Service

abbrev pub services : List Service
services = Kzalloc ∷ Kcalloc ∷ Kfree ∷ Readl ∷ Writel ∷ Printk ∷ RequestIrq ∷ FreeIrq ∷ Deliver ∷ Combolock ∷ Combounlock ∷ Bug ∷ Enter ∷ Leave ∷ []

abbrev pub service_numbered : ℕ → Option Service
service_numbered zero = None
service_numbered (suc n) = slice_get services n

abbrev pub taking : List Ty → Ty → Option Signature
taking params result = Some (record { params = params; result = result })

-- a function that takes and gives nothing, as an interrupt's handler is
abbrev pub handler_type : Ty
handler_type = type.Fun (type.Void ∷ [])

-- what a call of a service in a program takes and gives, from the type that it names and the text that it has
abbrev pub offered : Service → Option Ty → Option (List ℕ) → Option Signature
offered Kzalloc (Some t) None = taking [] (type.Ptr t)
offered Kcalloc (Some t) None = taking (type.Int U64 ∷ []) (type.Ptr t)
offered Kfree None None = taking (type.VoidPtr ∷ []) type.Void
offered Readl None None = taking (type.Int U32 ∷ []) (type.Int U32)
offered Writel None None = taking (type.Int U32 ∷ type.Int U32 ∷ []) type.Void
offered Printk None (Some text) = printed (directives Plain text)
offered RequestIrq None None = taking (handler_type ∷ []) (type.Int S32)
offered FreeIrq None None = taking [] type.Void
offered Deliver None None = taking (type.Ptr (type.Int U8) ∷ type.Int U32 ∷ []) type.Void
offered Combolock None None = taking (type.Ptr type.Lock ∷ []) type.Void
offered Combounlock None None = taking (type.Ptr type.Lock ∷ []) type.Void
offered Bug None None = taking [] type.Void
offered service shape format = None
