-- The values of a sound program's expressions are known and fit.
use Rattle.std.proofs.Common.{◌≡◌, ℕ, Bool, true, false, not, List, Option, Some, None, slice_get, Result, Ok, Err, ℤ, IsTrue, refl, sym, ap, ◌∙◌, subst}
use Rattle.mdr_core.specs.declared.kind.Kind.{Kind}
use Rattle.mdr_core.specs.declared.kind.Kind.TheVariants.{S32, S64}
use Rattle.mdr_core.specs.declared.place.At.{At}
use Rattle.mdr_core.specs.declared.stop.StopKind.{StopKind}
use Rattle.mdr_core.specs.declared.types.Ty.{Ty}
use Rattle.mdr_core.specs.declared.types.Ty.TheVariants as ty
use Rattle.mdr_core.specs.declared.program.Program.{Program}
use Rattle.mdr_core.specs.declared.program.Field.{Field}
use Rattle.mdr_core.specs.declared.program.StructDef.{StructDef}
use Rattle.mdr_core.specs.declared.code.BinOp.{BinOp}
use Rattle.mdr_core.specs.declared.code.BinOp.TheVariants.{Add, Sub, Mul, Div, Rem, Shl, Shr, BitAnd, BitOr, BitXor}
use Rattle.mdr_core.specs.Code.{Term, Lvalue}
use Rattle.mdr_core.specs.Conversions.{converted}
use Rattle.mdr_core.specs.Kinds.{is_in_range}
use Rattle.mdr_core.specs.Layout.{chosen, fields_of, fields_or}
use Rattle.mdr_core.specs.Operators.{operated, negated, flipped, is_right_operand}
use Rattle.mdr_core.specs.Sound.{IsSound}
use Rattle.mdr_core.specs.Types.{HasNumber, is_scalar}
use Rattle.mdr_core.specs.Typing.{Slot, Extent, One, Many, extent, Has, Designates, RightOperand}
use Rattle.mdr_core.proofs.Conversions.{converted-in_range}
use Rattle.mdr_core.proofs.Operators.{fitted-in_range, result-in_range}
use Rattle.mdr_meaning.specs.declared.wire.Wire.{Wire}
use Rattle.mdr_meaning.specs.declared.wire.Wire.TheVariants as wire
use Rattle.mdr_meaning.specs.Bodies.{known_of}
use Rattle.mdr_meaning.specs.Expressions.{given, gives, loads, place, read, slot_of, value}
use Rattle.mdr_meaning.specs.Fair.{FairTo, IsPlace, LoadsScalar}
use Rattle.mdr_meaning.specs.FairExpressions.{ExpressionsAreFair, LvaluesAreFair}
use Rattle.mdr_meaning.specs.Fit.{Knowledge, KnowsGlobals, PointsTo, Fits}
use Rattle.mdr_meaning.specs.Pointers.{cast, difference, global, member, moved, related, steps}
use Rattle.mdr_meaning.specs.Sides.{Side}
use Rattle.mdr_meaning.specs.Slots.{slot_fits, SlotsFit, elements}
use Rattle.mdr_meaning.specs.Tree.{Tree}
use Rattle.mdr_meaning.specs.Values.{at_kind, integer, is_true, operand, right_operand, truth, wire_of}
use Rattle.mdr_meaning.specs.Within.{LvalueWithin, TermWithin}
use Rattle.mdr_meaning.proofs.FitLaws.{of_integer, to_pointer, of_pointer, to_address, of_address, pointer_address, pointer_known, literal_fits, truth_fits, result_fits, related_fits, difference_fits, cast_fits}
use Rattle.mdr_meaning.proofs.PointerLaws.{Yields, global_fits, member_fits, moved_fits}

-- ---- numbers in the range of their kind

negated_in_range : (k : Kind) (n z : ℤ) → negated k n ≡ Ok z → is_in_range k z ≡ true
unfolding negated
negated_in_range k n z e = fitted-in_range k _ z e

flipped_in_range : (k : Kind) (n : ℤ) → is_in_range k (flipped k n) ≡ true
unfolding flipped
flipped_in_range k n = converted-in_range k _

-- what stands to the right of an operator may stand there
pub right_fits : (op : BinOp) (k : Kind) (n : ℤ) → is_right_operand op k (right_operand op k n) ≡ true
unfolding is_right_operand
right_fits Add k n = converted-in_range k n
right_fits Sub k n = converted-in_range k n
right_fits Mul k n = converted-in_range k n
right_fits Div k n = converted-in_range k n
right_fits Rem k n = converted-in_range k n
right_fits Shl k n = refl
right_fits Shr k n = refl
right_fits BitAnd k n = converted-in_range k n
right_fits BitOr k n = converted-in_range k n
right_fits BitXor k n = converted-in_range k n

field_numbered : (program : Program) → IsSound program → (s f : ℕ) (x : Field) → slice_get (fields_of program.structs s) f ≡ Some x → HasNumber program x.ty
field_numbered program sound s f x e = by_struct (slice_get program.structs s) refl e where
  by_struct : (o : Option StructDef) → slice_get program.structs s ≡ o → slice_get (fields_or o) f ≡ Some x → HasNumber program x.ty
  by_struct None q e = absurd cc
  by_struct (Some def) q e = ((sound.structs s def q).fields f x e).in_table

pub elements_extent : (b : Bool) (t : Ty) (n : ℕ) → elements (extent b t n) ≡ t
elements_extent true t n = refl
elements_extent false t n = refl

pub named_slot : (b : Bool) (t u : Ty) (n : ℕ) → One t ≡ extent b u n → u ≡ t
named_slot true t u n e = absurd cc
named_slot false t u n e = cc

loads_scalar : (t : Ty) (v : Wire) → IsTrue (is_scalar t) → LoadsScalar t v
loads_scalar t (wire.Ptr p) h = h
loads_scalar t (wire.Int k n) h = tt
loads_scalar t wire.Null h = tt
loads_scalar t wire.Dead h = tt
loads_scalar t (wire.Fn f) h = tt
loads_scalar t (wire.Lock s) h = tt
loads_scalar t wire.NoValue h = tt

module _ (most : ℕ) (program : Program) (sound : IsSound program) (side : Side) (result : Ty) (K : Knowledge) (live : List Wire) (globals : KnowsGlobals program K) (at : At) (here : IsPlace side at) where
  -- what goes on with a value that has P is fair
  pub record Goes (P : Wire → Type 0) (k : Wire → Tree) : Type 0 where
    pub by : (v : Wire) → P v → FairTo most program side result K live (k v)

  pub record Gives (P : Wire → Type 0) (f : (Wire → Tree) → Tree) : Type 0 where
    pub by : (k : Wire → Tree) → Goes P k → FairTo most program side result K live (f k)

  pub given_fair : (P : Wire → Type 0) (r : Result Wire StopKind) (k : Wire → Tree) → Yields P r → Goes P k → FairTo most program side result K live (given at r k)
  given_fair P (Ok v) k h g = g.by v h
  given_fair P (Err kind) k h g = (here, h)

  -- weaker facts of what is given
  weaker : (P Q : Wire → Type 0) (f : (Wire → Tree) → Tree) → ((v : Wire) → P v → Q v) → Gives P f → Gives Q f
  weaker P Q f w h = record { by = λ k g. h.by k (record { by = λ v p. g.by v (w v p) }) }

  -- a value is computed, or tested
  made : (P Q : Wire → Type 0) (f : (Wire → Tree) → Tree) (m : Wire → Wire) → ((v : Wire) → P v → Q (m v)) → Gives P f → Gives Q (λ k. f (λ x. k (m x)))
  made P Q f m w h = record { by = λ k g. h.by (λ x. k (m x)) (record { by = λ v p. g.by (m v) (w v p) }) }

  pub tested : (P Q : Wire → Type 0) (f : (Wire → Tree) → Tree) (m : Wire → Result Wire StopKind) → ((v : Wire) → P v → Yields Q (m v)) → Gives P f → Gives Q (λ k. f (λ x. given at (m x) k))
  tested P Q f m w h = record { by = λ k g. h.by (λ x. given at (m x) k) (record { by = λ v p. given_fair Q (m v) k (w v p) g }) }

  pub and_then : (P Q : Wire → Type 0) (f : (Wire → Tree) → Tree) (m : Wire → (Wire → Tree) → Tree) → Gives P f → ((v : Wire) → P v → Gives Q (m v)) → Gives Q (λ k. f (λ x. m x k))
  and_then P Q f m h w = record { by = λ k g. h.by (λ x. m x k) (record { by = λ v p. (w v p).by k g }) }

  pub gives_fair : (P : Wire → Type 0) (v : Wire) → P v → Gives P (gives v)
  gives_fair P v p = record { by = λ k g. g.by v p }

  pick_fair : (P : Wire → Type 0) (b : Bool) (f g : (Wire → Tree) → Tree) → Gives P f → Gives P g → Gives P (chosen b f g)
  pick_fair P true f g a b = a
  pick_fair P false f g a b = b

  read_fair : (t : Ty) (v : Wire) → Fits program K t v → Gives (Fits program K t) (read at v)
  read_fair t (wire.Ptr p) h = record { by = λ k g. (here, (tt, pointer_known program K t p h), g.by (wire.Ptr p) h) }
  read_fair t wire.Dead h = record { by = λ k g. (here, tt, g.by wire.Dead h) }
  read_fair t (wire.Int kind n) h = gives_fair (Fits program K t) (wire.Int kind n) h
  read_fair t wire.Null h = gives_fair (Fits program K t) wire.Null h
  read_fair t (wire.Fn f) h = gives_fair (Fits program K t) (wire.Fn f) h
  read_fair t (wire.Lock s) h = gives_fair (Fits program K t) (wire.Lock s) h
  read_fair t wire.NoValue h = gives_fair (Fits program K t) wire.NoValue h

  load_fair : (t : Ty) (found : (Wire → Tree) → Tree) → IsTrue (is_scalar t) → Gives (PointsTo program K t) found → Gives (Fits program K t) (λ k. found (λ p. Tree.Load at p k))
  load_fair t found scalar h = record { by = λ k g. h.by (λ p. Tree.Load at p k) (record { by = λ p points. (here, (t, points, loads_scalar t p scalar, g.by)) }) }

  bool_fits : (b : Bool) → Fits program K (ty.Int S32) (truth b)
  bool_fits b = of_integer program K S32 (truth b) (truth_fits program K b)

  -- the right operand is given, of whatever kind
  right_given : (op : BinOp) (k : Kind) (f : (Wire → Tree) → Tree) (P : Ty → Type 0) → ((t : Ty) → P t → Gives (Fits program K t) f) → RightOperand op k P → Gives (λ v. Unit {0}) f
  right_given op k f P each h = by_operator op h where
    any : (t : Ty) → P t → Gives (λ v. Unit {0}) f
    any t h = weaker (Fits program K t) (λ v. Unit {0}) f (λ v p. tt) (each t h)

    by_operator : (op : BinOp) → RightOperand op k P → Gives (λ v. Unit {0}) f
    by_operator Shl h = any (ty.Int h.0) h.1
    by_operator Shr h = any (ty.Int h.0) h.1
    by_operator Add h = any (ty.Int k) h
    by_operator Sub h = any (ty.Int k) h
    by_operator Mul h = any (ty.Int k) h
    by_operator Div h = any (ty.Int k) h
    by_operator Rem h = any (ty.Int k) h
    by_operator BitAnd h = any (ty.Int k) h
    by_operator BitOr h = any (ty.Int k) h
    by_operator BitXor h = any (ty.Int k) h

  module _ (slots : List Slot) (held : List Wire) (fit : SlotsFit program K slots held) where
    at_type : (t u : Ty) (f : (Wire → Tree) → Tree) → u ≡ t → Gives (Fits program K t) f → Gives (Fits program K u) f
    at_type t u f e h = subst (λ x. Gives (Fits program K x) f) (sym e) h

    -- what a slot that is no object holds
    slot_value : (i : ℕ) (t : Ty) (s : Slot) → slice_get slots i ≡ Some s → s.object ≡ false → One t ≡ extent s.array s.ty s.count → Fits program K t (slot_of held i)
    slot_value i t s names kept is = by_object s.object kept (fit.each i s names) where
      by_object : (b : Bool) → b ≡ false → slot_fits b program K s.ty (slot_of held i) → Fits program K t (slot_of held i)
      by_object true q h = absurd cc
      by_object false q h = subst (λ u. Fits program K u (slot_of held i)) (named_slot s.array t s.ty s.count is) h

    slot_object : (i : ℕ) (x : Extent) (s : Slot) → slice_get slots i ≡ Some s → s.object ≡ true → x ≡ extent s.array s.ty s.count → PointsTo program K (elements x) (slot_of held i)
    slot_object i x s names kept is = by_object s.object kept (fit.each i s names) where
      by_object : (b : Bool) → b ≡ true → slot_fits b program K s.ty (slot_of held i) → PointsTo program K (elements x) (slot_of held i)
      by_object true q h = subst (λ u. PointsTo program K u (slot_of held i)) (sym (ap elements is ∙ elements_extent s.array s.ty s.count)) h
      by_object false q h = absurd cc

    loads_fair : (p : Lvalue) (t : Ty) (found : (Wire → Tree) → Tree) → Designates program slots p (One t) → IsTrue (is_scalar t) → Gives (PointsTo program K t) found → Gives (Fits program K t) (loads at held p found)
    loads_fair (Lvalue.Slot i) t found h scalar a = read_fair t (slot_of held i) (slot_value i t h.slot h.names h.kept h.is)
    loads_fair (Lvalue.Object i) t found h scalar a = load_fair t found scalar a
    loads_fair (Lvalue.Global g) t found h scalar a = load_fair t found scalar a
    loads_fair (Lvalue.Deref e) t found h scalar a = load_fair t found scalar a
    loads_fair (Lvalue.Member p f) t found h scalar a = load_fair t found scalar a
    loads_fair (Lvalue.Index p e) t found h scalar a = load_fair t found scalar a

    mutual
      pub value_fair : (e : Term) (t : Ty) → Has program slots e t → TermWithin K.uses.taken e → Gives (Fits program K t) (value (known_of program) at held e)
      value_fair (Term.Lit v) t h w = gives_fair (Fits program K t) (wire_of v) (literal_fits program K v t h w)
      value_fair (Term.Load p) t h w = loads_fair p t (place (known_of program) at held p) h.object h.scalar (place_fair p (One t) h.object w)
      value_fair (Term.Addr p) t h w = at_type _ t _ h.is (weaker _ _ _ (λ v q. of_pointer program K h.type v q) (place_fair p (One h.type) h.object w))
      value_fair (Term.Decay p) t h w = at_type _ t _ h.is (weaker _ _ _ (λ v q. of_pointer program K h.type v q) (place_fair p (Many h.type h.count) h.array w))
      value_fair (Term.Neg k e) t h w =
          at_type _ t _ h.is (weaker _ _ _ (of_integer program K k)
          (tested _ _ (value (known_of program) at held e) (λ x. at_kind k (negated k (operand k x))) (λ v q. result_fits program K k (negated k (operand k v)) (λ z r. negated_in_range k (operand k v) z r)) (value_fair e (ty.Int k) h.operand w)))
      value_fair (Term.Flip k e) t h w =
          at_type _ t _ h.is (made _ _ (value (known_of program) at held e) (λ x. wire.Int k (flipped k (operand k x))) (λ v q. of_integer program K k _ (refl, flipped_in_range k (operand k v))) (value_fair e (ty.Int k) h.operand w))
      value_fair (Term.Not e) t h w =
          at_type _ t _ h.is (made _ _ (value (known_of program) at held e) (λ x. truth (not (is_true x))) (λ v q. bool_fits (not (is_true v))) (value_fair e h.operand.type h.operand.operand w))
      value_fair (Term.Bin op k a b) t h w =
          at_type _ t _ h.is
          (and_then (Fits program K (ty.Int k)) (Fits program K (ty.Int k)) (value (known_of program) at held a) (λ x k'. value (known_of program) at held b (λ y. given at (at_kind k (operated op k (operand k x) (right_operand op k (integer y)))) k'))
          (value_fair a (ty.Int k) h.left w.0)
          (λ x left. weaker _ _ _ (of_integer program K k)
          (tested _ _ (value (known_of program) at held b) (λ y. at_kind k (operated op k (operand k x) (right_operand op k (integer y))))
          (λ y right. result_fits program K k (operated op k (operand k x) (right_operand op k (integer y))) (λ z r. result-in_range op k (operand k x) (right_operand op k (integer y)) z (converted-in_range k (integer x)) (right_fits op k (integer y)) r))
          (right_given op k (value (known_of program) at held b) (Has program slots b) (λ u c. value_fair b u c w.1) h.right))))
      value_fair (Term.Rel op a b) t h w =
          at_type _ t _ h.is
          (and_then (Fits program K h.type) (Fits program K (ty.Int S32)) (value (known_of program) at held a) (λ x k'. value (known_of program) at held b (λ y. given at (related (known_of program).program op x y) k'))
          (value_fair a h.type h.left w.0)
          (λ x left. weaker _ _ _ (of_integer program K S32)
          (tested _ _ (value (known_of program) at held b) (λ y. related (known_of program).program op x y) (λ y right. related_fits program K (known_of program).program op x y) (value_fair b h.type h.right w.1))))
      value_fair (Term.And a b) t h w =
          at_type _ t _ h.is
          (and_then (Fits program K h.left.type) (Fits program K (ty.Int S32)) (value (known_of program) at held a) (λ x k'. chosen (is_true x) (value (known_of program) at held b) (gives (truth false)) (λ y. k' (truth (is_true y))))
          (value_fair a h.left.type h.left.operand w.0)
          (λ x left. made (λ v. Unit {0}) _ (chosen (is_true x) (value (known_of program) at held b) (gives (truth false))) (λ y. truth (is_true y)) (λ y q. bool_fits (is_true y))
          (pick_fair (λ v. Unit {0}) (is_true x) (value (known_of program) at held b) (gives (truth false)) (weaker _ _ _ (λ v q. tt) (value_fair b h.right.type h.right.operand w.1)) (gives_fair (λ v. Unit {0}) (truth false) tt))))
      value_fair (Term.Or a b) t h w =
          at_type _ t _ h.is
          (and_then (Fits program K h.left.type) (Fits program K (ty.Int S32)) (value (known_of program) at held a) (λ x k'. chosen (is_true x) (gives (truth true)) (value (known_of program) at held b) (λ y. k' (truth (is_true y))))
          (value_fair a h.left.type h.left.operand w.0)
          (λ x left. made (λ v. Unit {0}) _ (chosen (is_true x) (gives (truth true)) (value (known_of program) at held b)) (λ y. truth (is_true y)) (λ y q. bool_fits (is_true y))
          (pick_fair (λ v. Unit {0}) (is_true x) (gives (truth true)) (value (known_of program) at held b) (gives_fair (λ v. Unit {0}) (truth true) tt) (weaker _ _ _ (λ v q. tt) (value_fair b h.right.type h.right.operand w.1)))))
      value_fair (Term.Conv k e) t h w =
          at_type _ t _ h.is (made _ _ (value (known_of program) at held e) (λ x. wire.Int k (converted k (integer x))) (λ v q. of_integer program K k _ (refl, converted-in_range k (integer v))) (value_fair e (ty.Int h.from) h.operand w))
      value_fair (Term.ToVoid e) t h w =
          at_type _ t _ h.is (weaker _ _ _ (λ v q. of_address program K v (pointer_address program K h.type v (to_pointer program K h.type v q))) (value_fair e (ty.Ptr h.type) h.pointer w))
      value_fair (Term.FromVoid u e) t h w =
          at_type _ t _ h.is (weaker _ _ _ (of_pointer program K u) (tested _ _ (value (known_of program) at held e) (cast (known_of program) u) (λ v q. cast_fits program K u v (to_address program K v q)) (value_fair e ty.VoidPtr h.pointer w)))
      value_fair (Term.Move back p i) t h w =
          at_type _ t _ h.is
          (and_then (Fits program K (ty.Ptr h.type)) (Fits program K (ty.Ptr h.type)) (value (known_of program) at held p) (λ x k'. value (known_of program) at held i (λ n. given at (moved x (steps back (integer n))) k'))
          (value_fair p (ty.Ptr h.type) h.pointer w.0)
          (λ x points. weaker _ _ _ (of_pointer program K h.type)
          (tested _ _ (value (known_of program) at held i) (λ n. moved x (steps back (integer n))) (λ n q. moved_fits program sound K h.type x (steps back (integer n)) (to_pointer program K h.type x points)) (value_fair i (ty.Int h.kind) h.steps w.1))))
      value_fair (Term.Diff p q) t h w =
          at_type _ t _ h.is
          (and_then (Fits program K (ty.Ptr h.type)) (Fits program K (ty.Int S64)) (value (known_of program) at held p) (λ x k'. value (known_of program) at held q (λ y. given at (difference x y) k'))
          (value_fair p (ty.Ptr h.type) h.left w.0)
          (λ x left. weaker _ _ _ (of_integer program K S64)
          (tested _ _ (value (known_of program) at held q) (difference x) (λ y right. difference_fits program K h.type x y (to_pointer program K h.type x left) (to_pointer program K h.type y right)) (value_fair q (ty.Ptr h.type) h.right w.1))))

      pub place_fair : (p : Lvalue) (x : Extent) → Designates program slots p x → LvalueWithin K.uses.taken p → Gives (PointsTo program K (elements x)) (place (known_of program) at held p)
      place_fair (Lvalue.Slot i) x h w = gives_fair (PointsTo program K (elements x)) wire.Null tt
      place_fair (Lvalue.Object i) x h w = gives_fair (PointsTo program K (elements x)) (slot_of held i) (slot_object i x h.slot h.names h.kept h.is)
      place_fair (Lvalue.Global g) x h w =
          let table = (sound.globals g h.def h.names).in_table in
          let same : h.def.ty ≡ elements x = sym (ap elements h.is ∙ elements_extent h.def.array h.def.ty h.def.count) in
          gives_fair (PointsTo program K (elements x)) (global (known_of program) g)
          (subst (λ t. PointsTo program K t (global (known_of program) g)) same (global_fits program sound K globals g h.def h.names table))
      place_fair (Lvalue.Deref e) x h w =
          subst (λ y. Gives (PointsTo program K (elements y)) (value (known_of program) at held e)) (sym h.is) (weaker _ _ _ (λ v q. to_pointer program K h.type v q) (value_fair e (ty.Ptr h.type) h.pointer w))
      place_fair (Lvalue.Member p f) x h w =
          let table = field_numbered program sound h.struct f h.field h.names in
          let same : h.field.ty ≡ elements x = sym (ap elements h.is ∙ elements_extent h.field.array h.field.ty h.field.count) in
          tested (PointsTo program K (ty.Struct h.struct)) (PointsTo program K (elements x)) (place (known_of program) at held p) (λ a. member (known_of program) a f)
          (λ v q. subst (λ t. Yields (PointsTo program K t) (member (known_of program) v f)) same
          (member_fits program sound K v h.struct f h.field h.names table q)) (place_fair p (One (ty.Struct h.struct)) h.whole w)
      place_fair (Lvalue.Index p e) x h w =
          subst (λ y. Gives (PointsTo program K (elements y)) (place (known_of program) at held (Lvalue.Index p e))) (sym h.is)
          (and_then (PointsTo program K h.type) (PointsTo program K h.type) (place (known_of program) at held p) (λ a k'. value (known_of program) at held e (λ n. given at (moved a (integer n)) k'))
          (place_fair p (Many h.type h.count) h.array w.0)
          (λ a points. tested _ _ (value (known_of program) at held e) (λ n. moved a (integer n)) (λ n q. moved_fits program sound K h.type a (integer n) points) (value_fair e (ty.Int h.kind) h.index w.1)))

pub expressions_are_fair : ExpressionsAreFair
expressions_are_fair program side result K live at slots held h e t typed w k goes =
    (value_fair 256 program h.sound side result K live h.globals at h.here slots held h.fit e t typed w).by k (record { by = goes })

pub lvalues_are_fair : LvaluesAreFair
lvalues_are_fair program side result K live at slots held h p x typed w k goes =
    (place_fair 256 program h.sound side result K live h.globals at h.here slots held h.fit p x typed w).by k (record { by = goes })
