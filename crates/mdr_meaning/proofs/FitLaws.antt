-- Values that fit, and that code computes.
use Rattle.std.proofs.Common.{◌≡◌, ℕ, ◌≤◌, Bool, true, false, not, nat_lt, ◌==◌, Some, slice_get, Result, Ok, Err, ℤ, pos, ◌-ℤ◌, IsTrue, refl, sym, ap, ◌∙◌, subst, eqb-true, arith}
use Rattle.std.specs.Prelude.{int_lt}
use Rattle.std.specs.Ordering.{int_eq}
use Rattle.std.proofs.lemmas.Int.{ints}
use Rattle.mdr_core.specs.declared.kind.Kind.{Kind}
use Rattle.mdr_core.specs.declared.kind.Kind.TheVariants.{S32, S64}
use Rattle.mdr_core.specs.declared.stop.StopKind.TheVariants as stop
use Rattle.mdr_core.specs.declared.types.Ty.{Ty, out-Ty}
use Rattle.mdr_core.specs.declared.types.Ty.TheOpen.{Ty-F}
use Rattle.mdr_core.specs.declared.types.Ty.TheVariants as ty
use Rattle.mdr_core.specs.declared.types.Ty.TheVariants.{outs-Int, outs-Ptr, outs-VoidPtr, outs-Fun}
use Rattle.mdr_core.specs.declared.undefined.Undefined.{Undefined}
use Rattle.mdr_core.specs.declared.undefined.Undefined.TheVariants as undefined
use Rattle.mdr_core.specs.declared.value.View.{View}
use Rattle.mdr_core.specs.declared.value.Value.{Value}
use Rattle.mdr_core.specs.declared.value.Value.TheVariants as value
use Rattle.mdr_core.specs.declared.program.Program.{Program}
use Rattle.mdr_core.specs.declared.code.RelOp.{RelOp}
use Rattle.mdr_core.specs.declared.code.RelOp.TheVariants.{Eq, Ne, Lt, Le, Gt, Ge}
use Rattle.mdr_core.specs.Kinds.{is_in_range}
use Rattle.mdr_core.specs.Types.{is_pointer_by}
use Rattle.mdr_core.specs.Typing.{Literal}
use Rattle.mdr_core.specs.Views.{IsIn, Whole, Element, Inside}
use Rattle.mdr_core.proofs.Ranges.{in_range-from}
use Rattle.mdr_meaning.specs.declared.wire.Wire.{Wire}
use Rattle.mdr_meaning.specs.declared.wire.Wire.TheVariants as wire
use Rattle.mdr_meaning.specs.declared.wire.WireView.{WireView}
use Rattle.mdr_meaning.specs.Bodies.{known_of}
use Rattle.mdr_meaning.specs.Fair.{is_code_stop}
use Rattle.mdr_meaning.specs.Fit.{Knowledge, IsKnownView, IsInteger, IsAddress, PointsTo, Fits, FitsLayer, view_of}
use Rattle.mdr_meaning.specs.Numbers.{number_in}
use Rattle.mdr_meaning.specs.Pointers.{by_order, cast, difference, is_equal, is_one_array, ordered, position, related}
use Rattle.mdr_meaning.specs.Values.{at_kind, checked, stop_of, truth, wire_of}
use Rattle.mdr_meaning.specs.Within.{ValueWithin}
use Rattle.mdr_meaning.proofs.NumberLaws.{numbered_back}
use Rattle.mdr_meaning.proofs.PointerLaws.{Yields}

module _ (program : Program) (K : Knowledge) where
  -- ---- by the form of a type

  pub to_integer : (k : Kind) (v : Wire) → Fits program K (ty.Int k) v → IsInteger k v
  to_integer k v h = subst (λ l. FitsLayer program K l v) (outs-Int k) h

  pub of_integer : (k : Kind) (v : Wire) → IsInteger k v → Fits program K (ty.Int k) v
  of_integer k v h = subst (λ l. FitsLayer program K l v) (sym (outs-Int k)) h

  pub to_pointer : (t : Ty) (v : Wire) → Fits program K (ty.Ptr t) v → PointsTo program K t v
  to_pointer t v h = subst (λ l. FitsLayer program K l v) (outs-Ptr t) h

  pub of_pointer : (t : Ty) (v : Wire) → PointsTo program K t v → Fits program K (ty.Ptr t) v
  of_pointer t v h = subst (λ l. FitsLayer program K l v) (sym (outs-Ptr t)) h

  pub to_address : (v : Wire) → Fits program K ty.VoidPtr v → IsAddress program K v
  to_address v h = subst (λ l. FitsLayer program K l v) outs-VoidPtr h

  pub of_address : (v : Wire) → IsAddress program K v → Fits program K ty.VoidPtr v
  of_address v h = subst (λ l. FitsLayer program K l v) (sym outs-VoidPtr) h

  pub pointer_address : (t : Ty) (v : Wire) → PointsTo program K t v → IsAddress program K v
  pointer_address t wire.Null h = tt
  pointer_address t wire.Dead h = tt
  pointer_address t (wire.Ptr p) h = (tt, h.1)
  pointer_address t (wire.Int _ _) h = elim h [ ]
  pointer_address t (wire.Fn _) h = elim h [ ]
  pointer_address t (wire.Lock _) h = elim h [ ]
  pointer_address t wire.NoValue h = elim h [ ]

  -- a pointer that fits some type is known
  known_by : (l : Ty-F Ty) (p : WireView) → FitsLayer program K l (wire.Ptr p) → IsKnownView program K p
  known_by (Ty-F.Ptr t) p h = h.1
  known_by Ty-F.VoidPtr p h = h.1
  known_by (Ty-F.Int k) p h = elim h [ ]
  known_by Ty-F.Lock p h = elim h [ ]
  known_by (Ty-F.Struct s) p h = elim h [ ]
  known_by (Ty-F.Fun ts) p h = elim h [ ]
  known_by Ty-F.Void p h = elim h [ ]

  pub pointer_known : (t : Ty) (p : WireView) → Fits program K t (wire.Ptr p) → IsKnownView program K p
  pointer_known t p h = known_by (out-Ty t) p h

  -- ---- literals

  null_fits : (l : Ty-F Ty) → IsTrue (is_pointer_by l) → FitsLayer program K l wire.Null
  null_fits (Ty-F.Ptr t) h = tt
  null_fits Ty-F.VoidPtr h = tt
  null_fits (Ty-F.Fun ts) h = tt
  null_fits (Ty-F.Int k) h = absurd cc
  null_fits Ty-F.Lock h = absurd cc
  null_fits (Ty-F.Struct s) h = absurd cc
  null_fits Ty-F.Void h = absurd cc

  pub literal_fits : (v : Value) (t : Ty) → Literal program v t → ValueWithin K.uses.taken v → Fits program K t (wire_of v)
  literal_fits (value.Int k n) t h w = subst (λ t. Fits program K t (wire.Int k n)) (sym h.0) (of_integer k (wire.Int k n) (refl, h.1))
  literal_fits value.Null t h w = null_fits (out-Ty t) h
  literal_fits (value.Fn f) t h w =
      subst (λ t. Fits program K t (wire.Fn f)) (sym h.2) (subst (λ l. FitsLayer program K l (wire.Fn f)) (sym (outs-Fun _)) (h.0, h.1, refl, w))
  literal_fits (value.Ptr p) t h w = elim h [ ]
  literal_fits value.Dead t h w = elim h [ ]
  literal_fits (value.Lock s) t h w = elim h [ ]
  literal_fits value.NoValue t h w = elim h [ ]

  -- ---- operators

  pub truth_fits : (b : Bool) → IsInteger S32 (truth b)
  unfolding is_in_range
  truth_fits true = (refl, refl)
  truth_fits false = (refl, refl)

  stops_itself : (why : Undefined) → is_code_stop (stop_of why) ≡ true
  stops_itself undefined.Overflow = refl
  stops_itself undefined.DivZero = refl
  stops_itself undefined.Shift = refl

  pub result_fits : (k : Kind) (r : Result ℤ Undefined) → ((z : ℤ) → r ≡ Ok z → is_in_range k z ≡ true) → Yields (IsInteger k) (at_kind k r)
  result_fits k (Ok z) h = (refl, h z refl)
  result_fits k (Err why) h = stops_itself why

  ordered_fits : (p : Program) (op : RelOp) (x y : Wire) → Yields (IsInteger S32) (ordered p op x y)
  ordered_fits p op (wire.Int k a) (wire.Int l b) = truth_fits (by_order op (int_lt a b) (int_eq a b))
  ordered_fits p op (wire.Ptr v) (wire.Ptr w) = by_block (v.serial == w.serial) where
    by_block : (b : Bool) → Yields (IsInteger S32) (checked b stop.Compare (truth (by_order op (nat_lt (position p v) (position p w)) (position p v == position p w))))
    by_block true = truth_fits (by_order op (nat_lt (position p v) (position p w)) (position p v == position p w))
    by_block false = refl
  ordered_fits p op x y = refl

  pub related_fits : (p : Program) (op : RelOp) (x y : Wire) → Yields (IsInteger S32) (related p op x y)
  related_fits p Eq x y = truth_fits (is_equal p x y)
  related_fits p Ne x y = truth_fits (not (is_equal p x y))
  related_fits p Lt x y = ordered_fits p Lt x y
  related_fits p Le x y = ordered_fits p Le x y
  related_fits p Gt x y = ordered_fits p Gt x y
  related_fits p Ge x y = ordered_fits p Ge x y

  -- ---- differences

  near : (a b : ℕ) → a ≤ 65536 → b ≤ 65536 → is_in_range S64 (pos a -ℤ pos b) ≡ true
  near a b h k = in_range-from S64 (pos a -ℤ pos b) (omega (arith, ints, h, k)) (omega (arith, ints, h, k))

  difference_by : (b : Bool) (v w : WireView) → IsKnownView program K v → IsKnownView program K w → Yields (IsInteger S64) (checked b stop.Compare (wire.Int S64 (pos v.index -ℤ pos w.index)))
  difference_by true v w h k = (refl, near v.index w.index (omega (arith, h.view.inside, h.small)) (omega (arith, k.view.inside, k.small)))
  difference_by false v w h k = refl

  pub difference_fits : (t : Ty) (x y : Wire) → PointsTo program K t x → PointsTo program K t y → Yields (IsInteger S64) (difference x y)
  difference_fits t (wire.Ptr v) (wire.Ptr w) h k = difference_by (is_one_array v w) v w h.1 k.1
  difference_fits t x y h k = refl

  -- ---- conversions of pointers

  viewed : (v : View) (first : ℕ) (t : Ty) (count : ℕ) → IsIn program v first t count → (u : Ty) × (slice_get program.types v.ty ≡ Some u)
  viewed v first t count (Whole _ _ _ begins names many) = (t, names)
  viewed v first t count (Element _ _ _ s i struct among begins names many) = (t, names)
  viewed v first t count (Inside _ _ _ s i f x struct among names inside) = viewed v _ x.ty x.count inside

  cast_by : (b : Bool) (t : Ty) (p : WireView) → (p.ty == number_in program.types t) ≡ b → IsKnownView program K p → Yields (PointsTo program K t) (checked b stop.BadCast (wire.Ptr p))
  cast_by true t p q h =
      let u = viewed (view_of p) 0 h.view.ty h.shape.count h.view.part in
      let same : u.0 ≡ t = numbered_back program.types t u.0 (ap (λ n. slice_get program.types n) (sym (eqb-true _ _ q)) ∙ u.1) in
      (subst (λ x. slice_get program.types p.ty ≡ Some x) same u.1, h)
  cast_by false t p q h = refl

  pub cast_fits : (t : Ty) (v : Wire) → IsAddress program K v → Yields (PointsTo program K t) (cast (known_of program) t v)
  cast_fits t wire.Null h = tt
  cast_fits t wire.Dead h = tt
  cast_fits t (wire.Ptr p) h = cast_by (p.ty == number_in program.types t) t p refl h.1
  cast_fits t (wire.Int _ _) h = elim h [ ]
  cast_fits t (wire.Fn _) h = elim h [ ]
  cast_fits t (wire.Lock _) h = elim h [ ]
  cast_fits t wire.NoValue h = elim h [ ]
