-- Values that are received, and the statements that receive them.
use Rattle.std.proofs.Common.{◌≡◌, true, false, Option, Some, None, Result, Ok, Err, refl, ap, sym, ◌∙◌}
use Rattle.mdr_core.specs.declared.stop.StopKind.{StopKind}
use Rattle.mdr_core.specs.declared.stop.StopKind.TheVariants as stop
use Rattle.mdr_core.specs.declared.types.Ty.{Ty}
use Rattle.mdr_meaning.specs.declared.wire.Wire.{Wire}
use Rattle.mdr_meaning.specs.declared.wire.Wire.TheVariants as wire
use Rattle.mdr_meaning.specs.Calls.{received}
use Rattle.mdr_meaning.specs.Numbers.{Numbered}
use Rattle.mdr_meaning.specs.Pointers.{become}
use Rattle.mdr_exec.specs.Receiving.{is_no_value}

-- a value that must be there isn't
pub none_received : (known : Numbered) (ty : Option Ty) (v : Wire) → is_no_value v ≡ true → ◌≡◌ {A = Result Wire StopKind} (Err stop.NoValue) (received known ty v)
none_received known ty wire.NoValue h = refl
none_received known ty (wire.Int k n) h = absurd (cc h)
none_received known ty wire.Null h = absurd (cc h)
none_received known ty (wire.Ptr p) h = absurd (cc h)
none_received known ty wire.Dead h = absurd (cc h)
none_received known ty (wire.Fn f) h = absurd (cc h)
none_received known ty (wire.Lock s) h = absurd (cc h)

-- it is, and becomes a value of a type
pub some_received : (known : Numbered) (o : Option Ty) (ty : Ty) (v : Wire) (x : Result Wire StopKind) → is_no_value v ≡ false → o ≡ Some ty → x ≡ become known ty v → x ≡ received known o v
some_received known o ty v x h some is = is ∙ by_wire v h ∙ ap (λ t. received known t v) (sym some) where
  by_wire : (w : Wire) → is_no_value w ≡ false → become known ty w ≡ received known (Some ty) w
  by_wire wire.NoValue h = absurd (cc h)
  by_wire (wire.Int k n) h = refl
  by_wire wire.Null h = refl
  by_wire (wire.Ptr p) h = refl
  by_wire wire.Dead h = refl
  by_wire (wire.Fn f) h = refl
  by_wire (wire.Lock s) h = refl

pub any_received : (known : Numbered) (o : Option Ty) (v : Wire) → is_no_value v ≡ false → o ≡ None → ◌≡◌ {A = Result Wire StopKind} (Ok v) (received known o v)
any_received known o v h none = by_wire v h ∙ ap (λ t. received known t v) (sym none) where
  by_wire : (w : Wire) → is_no_value w ≡ false → ◌≡◌ {A = Result Wire StopKind} (Ok w) (received known None w)
  by_wire wire.NoValue h = absurd (cc h)
  by_wire (wire.Int k n) h = refl
  by_wire wire.Null h = refl
  by_wire (wire.Ptr p) h = refl
  by_wire wire.Dead h = refl
  by_wire (wire.Fn f) h = refl
  by_wire (wire.Lock s) h = refl
