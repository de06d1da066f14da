-- A call's value that is stored: it converts to the type of what is named; and where an lvalue's type isn't known, its address is null.
use Rattle.std.proofs.Common.{◌≡◌, ℕ, ℤ, Bool, List, Option, Some, None, slice_get, refl, sym, ap, ◌∙◌, subst, ◌⊎◌, inl, inr}
use Rattle.std.specs.Option.{option_map}
use Rattle.mdr_core.specs.declared.kind.Kind.{Kind}
use Rattle.mdr_core.specs.declared.place.At.{At}
use Rattle.mdr_core.specs.declared.types.Ty.{Ty, out-Ty}
use Rattle.mdr_core.specs.declared.types.Ty.TheOpen.{Ty-F}
use Rattle.mdr_core.specs.declared.types.Ty.TheVariants as ty
use Rattle.mdr_core.specs.declared.types.Ty.TheVariants.{outs-Int, outs-Ptr, outs-VoidPtr, outs-Fun, outs-Struct, outs-Void}
use Rattle.mdr_core.specs.declared.program.Program.{Program}
use Rattle.mdr_core.specs.declared.program.Field.{Field}
use Rattle.mdr_core.specs.declared.value.Value.{Value}
use Rattle.mdr_core.specs.declared.value.Value.TheVariants as value
use Rattle.mdr_core.specs.Code.{Term, Lvalue}
use Rattle.mdr_core.specs.Layout.{fields_of, struct_by, struct_of}
use Rattle.mdr_core.specs.Sound.{IsSound}
use Rattle.mdr_core.specs.Types.{Becomes, becomes_by}
use Rattle.mdr_core.specs.Typing.{Slot, Extent, One, Many, Has, Designates, function_type}
use Rattle.mdr_core.proofs.Conversions.{converted-in_range}
use Rattle.mdr_meaning.specs.declared.wire.Wire.{Wire}
use Rattle.mdr_meaning.specs.declared.wire.Wire.TheVariants as wire
use Rattle.mdr_meaning.specs.Bodies.{known_of, without_funcs}
use Rattle.mdr_meaning.specs.Calls.{received}
use Rattle.mdr_meaning.specs.Expressions.{given, place, value}
use Rattle.mdr_meaning.specs.Fair.{FairTo, IsPlace}
use Rattle.mdr_meaning.specs.Fit.{Knowledge, KnowsGlobals, Fits, FitsLayer, IsResult}
use Rattle.mdr_meaning.specs.Named.{field_of, field_type, global_type, member_type, named_type, pointed_type, slot_type, target_by, target_of}
use Rattle.mdr_meaning.specs.Pointers.{become, become_by, member, moved, steps}
use Rattle.mdr_meaning.specs.Sides.{Side}
use Rattle.mdr_meaning.specs.Slots.{SlotsFit, elements}
use Rattle.mdr_meaning.specs.Tree.{Tree}
use Rattle.mdr_meaning.specs.Values.{integer}
use Rattle.mdr_meaning.specs.Within.{LvalueWithin, TermWithin, called_type}
use Rattle.mdr_meaning.proofs.ExpressionLaws.{Gives, and_then, elements_extent, given_fair, gives_fair, place_fair, tested, value_fair}
use Rattle.mdr_meaning.proofs.FitLaws.{cast_fits, pointer_address}
use Rattle.mdr_meaning.proofs.PointerLaws.{Yields}

-- ---- types of two forms are two

pointer_not_int : (t : Ty) (k : Kind) → ty.Ptr t ≡ ty.Int k → ⊥
pointer_not_int t k e = let layers : Ty-F.Ptr t ≡ Ty-F.Int k = sym (outs-Ptr t) ∙ ap out-Ty e ∙ outs-Int k in cc

pointer_not_void : (t : Ty) → ty.Ptr t ≡ ty.VoidPtr → ⊥
pointer_not_void t e = let layers : Ty-F.Ptr t ≡ Ty-F.VoidPtr = sym (outs-Ptr t) ∙ ap out-Ty e ∙ outs-VoidPtr in cc

pointer_not_function : (t : Ty) (ts : List Ty) → ty.Ptr t ≡ ty.Fun ts → ⊥
pointer_not_function t ts e = let layers : Ty-F.Ptr t ≡ Ty-F.Fun ts = sym (outs-Ptr t) ∙ ap out-Ty e ∙ outs-Fun ts in cc

pointed_same : (t u : Ty) → ty.Ptr t ≡ ty.Ptr u → t ≡ u
pointed_same t u e = let layers : Ty-F.Ptr t ≡ Ty-F.Ptr u = sym (outs-Ptr t) ∙ ap out-Ty e ∙ outs-Ptr u in cc

function_not_int : (ts : List Ty) (k : Kind) → ty.Fun ts ≡ ty.Int k → ⊥
function_not_int ts k e = let layers : Ty-F.Fun ts ≡ Ty-F.Int k = sym (outs-Fun ts) ∙ ap out-Ty e ∙ outs-Int k in cc

function_not_void : (ts : List Ty) → ty.Fun ts ≡ ty.VoidPtr → ⊥
function_not_void ts e = let layers : Ty-F.Fun ts ≡ Ty-F.VoidPtr = sym (outs-Fun ts) ∙ ap out-Ty e ∙ outs-VoidPtr in cc

-- ---- types of lvalues don't depend on functions

field_same : (program : Program) (s : Option ℕ) (f : ℕ) → field_of (without_funcs program) s f ≡ field_of program s f
field_same program None f = refl
field_same program (Some s) f = refl

member_same : (program : Program) (o : Option Ty) (f : ℕ) → member_type (without_funcs program) o f ≡ member_type program o f
member_same program None f = refl
member_same program (Some t) f = field_same program (struct_of t) f

mutual
  named_same : (program : Program) (slots : List Slot) (p : Lvalue) → named_type (without_funcs program) slots p ≡ named_type program slots p
  named_same program slots (Lvalue.Slot i) = refl
  named_same program slots (Lvalue.Object i) = refl
  named_same program slots (Lvalue.Global g) = refl
  named_same program slots (Lvalue.Deref e) = type_same program slots e
  named_same program slots (Lvalue.Member p f) = ap (λ o. member_type (without_funcs program) o f) (named_same program slots p) ∙ member_same program (named_type program slots p) f
  named_same program slots (Lvalue.Index p e) = named_same program slots p

  type_same : (program : Program) (slots : List Slot) (e : Term) → pointed_type (without_funcs program) slots e ≡ pointed_type program slots e
  type_same program slots (Term.Load p) = ap target_of (named_same program slots p)
  type_same program slots (Term.Addr p) = named_same program slots p
  type_same program slots (Term.Decay p) = named_same program slots p
  type_same program slots (Term.FromVoid t e) = refl
  type_same program slots (Term.Move back p i) = type_same program slots p
  type_same program slots e = refl

-- ---- conversion as by assignment

module _ (program : Program) (K : Knowledge) where
  -- a value of the type stays one of it
  stays : (t : Ty-F Ty) (v : Wire) → FitsLayer program K t v → Yields (FitsLayer program K t) (become_by (known_of program) t v)
  stays (Ty-F.Int k) (wire.Int l n) h = (refl, converted-in_range k n)
  stays (Ty-F.Int k) v h = h
  stays (Ty-F.Ptr t) v h = cast_fits program K t v (pointer_address program K t v h)
  stays t v h = h

  becomes : (from to : Ty) (f t : Ty-F Ty) → (from ≡ to → f ≡ t) → becomes_by from to f t → (v : Wire) → FitsLayer program K f v → Yields (FitsLayer program K t) (become_by (known_of program) t v)
  becomes from to (Ty-F.Int k) (Ty-F.Int l) s b (wire.Int m n) h = (refl, converted-in_range l n)
  becomes from to (Ty-F.Int k) (Ty-F.Int l) s b v h = elim h [ ]
  becomes from to (Ty-F.Ptr t) Ty-F.VoidPtr s b v h = pointer_address program K t v h
  becomes from to Ty-F.VoidPtr (Ty-F.Ptr t) s b v h = cast_fits program K t v h
  becomes from to f t s b v h = stays t v (subst (λ x. FitsLayer program K x v) (s b) h)

  pub become_fits : (from to : Ty) → Becomes from to → (v : Wire) → Fits program K from v → Yields (Fits program K to) (become (known_of program) to v)
  become_fits from to b v h = becomes from to (out-Ty from) (out-Ty to) (λ e. ap out-Ty e) b v h

  -- a value that a call gives, where it is used
  pub received_fits : (u from to : Ty) → u ≡ to → Becomes from to → (v : Wire) → IsResult program K from v → Yields (Fits program K to) (received (known_of program) (Some u) v)
  received_fits u from to q b wire.NoValue h = refl
  received_fits u from to q b v h = subst (λ x. Yields (Fits program K to) (become (known_of program) x v)) (sym q) (become_fits from to b v h)

  pub received_as_is : (from : Ty) (v : Wire) → IsResult program K from v → Yields (Fits program K from) (received (known_of program) None v)
  received_as_is from wire.NoValue h = refl
  received_as_is from v h = h

-- ---- the type of what is named

module _ (most : ℕ) (program : Program) (sound : IsSound program) (side : Side) (result : Ty) (K : Knowledge) (live : List Wire) (globals : KnowsGlobals program K) (at : At) (here : IsPlace side at) where
  abbrev Reaches : (Wire → Type 0) → ((Wire → Tree) → Tree) → Type 0
  Reaches P f = Gives most program sound side result K live globals at here P f

  -- the type is that of what is reached; where there is none, only null is
  abbrev pub Named : Option Ty → Ty → ((Wire → Tree) → Tree) → Type 0
  Named (Some u) t found = u ≡ t
  Named None t found = Reaches (λ v. v ≡ wire.Null) found

  null_member : (f : ℕ) (v : Wire) → v ≡ wire.Null → Yields (λ x. x ≡ wire.Null) (member (known_of program) v f)
  null_member f v q = subst (λ x. Yields (λ y. y ≡ wire.Null) (member (known_of program) x f)) (sym q) refl

  null_moved : (v : Wire) (n : ℤ) → v ≡ wire.Null → Yields (λ x. x ≡ wire.Null) (moved v n)
  null_moved v n q = subst (λ x. Yields (λ y. y ≡ wire.Null) (moved x n)) (sym q) refl

  -- nothing is loaded through a null pointer
  null_load : (k : Wire → Tree) (v : Wire) → v ≡ wire.Null → FairTo most program side result K live (Tree.Load at v k)
  null_load k v q = subst (λ x. FairTo most program side result K live (Tree.Load at x k)) (sym q) (here, (ty.Void, tt, tt, λ x bad. elim (subst (λ l. FitsLayer program K l x) outs-Void bad) [ ]))

  null_found : (found : (Wire → Tree) → Tree) → Reaches (λ v. v ≡ wire.Null) found → Reaches (λ v. v ≡ wire.Null) (λ k. found (λ p. Tree.Load at p k))
  null_found found n = record { by = λ k g. n.by (λ p. Tree.Load at p k) (record { by = λ v q. null_load k v q }) }

  load_by : (o : Option Ty) (t : Ty) (found : (Wire → Tree) → Tree) → Named o (ty.Ptr t) found → Named (target_of o) t (λ k. found (λ p. Tree.Load at p k))
  load_by (Some u) t found n = subst (λ o. Named o t (λ k. found (λ p. Tree.Load at p k))) (sym (ap target_by (ap out-Ty n ∙ outs-Ptr t))) refl
  load_by None t found n = null_found found n

  module _ (slots : List Slot) (held : List Wire) (fit : SlotsFit program K slots held) where
    abbrev at_place : Lvalue → (Wire → Tree) → Tree
    at_place p = place (known_of program) at held p

    abbrev of_term : Term → (Wire → Tree) → Tree
    of_term e = value (known_of program) at held e

    abbrev type_named : Lvalue → Option Ty
    type_named p = named_type (without_funcs program) slots p

    abbrev type_pointed : Term → Option Ty
    type_pointed e = pointed_type (without_funcs program) slots e

    member_by : (p : Lvalue) (f : ℕ) (x : Extent) (o : Option Ty) (s : ℕ) (field : Field) → slice_get (fields_of program.structs s) f ≡ Some field → field.ty ≡ elements x
        → Named o (ty.Struct s) (at_place p) → Named (member_type (without_funcs program) o f) (elements x) (at_place (Lvalue.Member p f))
    member_by p f x (Some u) s field names same n =
        let there : member_type (without_funcs program) (Some u) f ≡ Some field.ty =
        ap (λ t. member_type (without_funcs program) (Some t) f) n ∙ ap (λ l. field_of (without_funcs program) (struct_by l) f) (outs-Struct s) ∙ ap (option_map field_type) names
        in
        subst (λ o. Named o (elements x) (at_place (Lvalue.Member p f))) (sym there) same
    member_by p f x None s field names same n = tested most program sound side result K live globals at here (λ v. v ≡ wire.Null) (λ v. v ≡ wire.Null) (at_place p) (λ a. member (known_of program) a f) (null_member f) n

    index_by : (p : Lvalue) (e : Term) (x : Extent) (o : Option Ty) (t : Ty) (k : Kind) → x ≡ One t → Has program slots e (ty.Int k) → TermWithin K.uses.taken e → Named o t (at_place p) → Named o (elements x) (at_place (Lvalue.Index p e))
    index_by p e x (Some u) t k is h w n = n ∙ sym (ap elements is)
    index_by p e x None t k is h w n =
        and_then most program sound side result K live globals at here (λ v. v ≡ wire.Null) (λ v. v ≡ wire.Null) (at_place p) (λ a k'. of_term e (λ m. given at (moved a (integer m)) k')) n
        (λ a q. tested most program sound side result K live globals at here (Fits program K (ty.Int k)) (λ v. v ≡ wire.Null) (of_term e) (λ m. moved a (integer m)) (λ m r. null_moved a (integer m) q)
        (value_fair most program sound side result K live globals at here slots held fit e (ty.Int k) h w))

    move_by : (back : Bool) (p i : Term) (o : Option Ty) (t u : Ty) (k : Kind) → u ≡ t → Has program slots i (ty.Int k) → TermWithin K.uses.taken i → Named o u (of_term p) → Named o t (of_term (Term.Move back p i))
    move_by back p i (Some v) t u k same h w n = n ∙ same
    move_by back p i None t u k same h w n =
        and_then most program sound side result K live globals at here (λ v. v ≡ wire.Null) (λ v. v ≡ wire.Null) (of_term p) (λ a k'. of_term i (λ m. given at (moved a (steps back (integer m))) k')) n
        (λ a q. tested most program sound side result K live globals at here (Fits program K (ty.Int k)) (λ v. v ≡ wire.Null) (of_term i) (λ m. moved a (steps back (integer m))) (λ m r. null_moved a (steps back (integer m)) q)
        (value_fair most program sound side result K live globals at here slots held fit i (ty.Int k) h w))

    same_type : (o : Option Ty) (t u : Ty) (found : (Wire → Tree) → Tree) → t ≡ u → Named o t found → Named o u found
    same_type o t u found e n = subst (λ x. Named o x found) e n

    literal_by : (v : Value) (t : Ty) → Has program slots (Term.Lit v) (ty.Ptr t) → Reaches (λ x. x ≡ wire.Null) (of_term (Term.Lit v))
    literal_by value.Null t h = gives_fair most program sound side result K live globals at here (λ x. x ≡ wire.Null) wire.Null refl
    literal_by (value.Int k n) t h = elim (pointer_not_int t k h.0) [ ]
    literal_by (value.Fn f) t h = elim (pointer_not_function t _ h.2) [ ]
    literal_by (value.Ptr p) t h = elim h [ ]
    literal_by value.Dead t h = elim h [ ]
    literal_by (value.Lock s) t h = elim h [ ]
    literal_by value.NoValue t h = elim h [ ]

    mutual
      pub named : (p : Lvalue) (x : Extent) → Designates program slots p x → LvalueWithin K.uses.taken p → Named (type_named p) (elements x) (at_place p)
      named (Lvalue.Slot i) x h w = subst (λ o. Named (option_map slot_type o) (elements x) (at_place (Lvalue.Slot i))) (sym h.names) (sym (ap elements h.is ∙ elements_extent h.slot.array h.slot.ty h.slot.count))
      named (Lvalue.Object i) x h w = subst (λ o. Named (option_map slot_type o) (elements x) (at_place (Lvalue.Object i))) (sym h.names) (sym (ap elements h.is ∙ elements_extent h.slot.array h.slot.ty h.slot.count))
      named (Lvalue.Global g) x h w = subst (λ o. Named (option_map global_type o) (elements x) (at_place (Lvalue.Global g))) (sym h.names) (sym (ap elements h.is ∙ elements_extent h.def.array h.def.ty h.def.count))
      named (Lvalue.Deref e) x h w = same_type (type_pointed e) h.type (elements x) (of_term e) (sym (ap elements h.is)) (pointed e h.type h.pointer w)
      named (Lvalue.Member p f) x h w =
          member_by p f x (type_named p) h.struct h.field h.names (sym (ap elements h.is ∙ elements_extent h.field.array h.field.ty h.field.count)) (named p (One (ty.Struct h.struct)) h.whole w)
      named (Lvalue.Index p e) x h w = index_by p e x (type_named p) h.type h.kind h.is h.index w.1 (named p (Many h.type h.count) h.array w.0)

      pub pointed : (e : Term) (t : Ty) → Has program slots e (ty.Ptr t) → TermWithin K.uses.taken e → Named (type_pointed e) t (of_term e)
      pointed (Term.Lit v) t h w = literal_by v t h
      pointed (Term.Load (Lvalue.Slot i)) t h w =
          let slot = h.object in
          let type : slot.slot.ty ≡ ty.Ptr t = sym (ap elements slot.is ∙ elements_extent slot.slot.array slot.slot.ty slot.slot.count) in
          subst (λ o. Named o t (of_term (Term.Load (Lvalue.Slot i)))) (sym (ap (λ o. target_of (option_map slot_type o)) slot.names ∙ ap target_by (ap out-Ty type ∙ outs-Ptr t))) refl
      pointed (Term.Load (Lvalue.Object i)) t h w = load_by (type_named (Lvalue.Object i)) t (at_place (Lvalue.Object i)) (named (Lvalue.Object i) (One (ty.Ptr t)) h.object w)
      pointed (Term.Load (Lvalue.Global g)) t h w = load_by (type_named (Lvalue.Global g)) t (at_place (Lvalue.Global g)) (named (Lvalue.Global g) (One (ty.Ptr t)) h.object w)
      pointed (Term.Load (Lvalue.Deref e)) t h w = load_by (type_named (Lvalue.Deref e)) t (at_place (Lvalue.Deref e)) (named (Lvalue.Deref e) (One (ty.Ptr t)) h.object w)
      pointed (Term.Load (Lvalue.Member p f)) t h w = load_by (type_named (Lvalue.Member p f)) t (at_place (Lvalue.Member p f)) (named (Lvalue.Member p f) (One (ty.Ptr t)) h.object w)
      pointed (Term.Load (Lvalue.Index p e)) t h w = load_by (type_named (Lvalue.Index p e)) t (at_place (Lvalue.Index p e)) (named (Lvalue.Index p e) (One (ty.Ptr t)) h.object w)
      pointed (Term.Addr p) t h w = same_type (type_named p) h.type t (at_place p) (sym (pointed_same t h.type h.is)) (named p (One h.type) h.object w)
      pointed (Term.Decay p) t h w = same_type (type_named p) h.type t (at_place p) (sym (pointed_same t h.type h.is)) (named p (Many h.type h.count) h.array w)
      pointed (Term.FromVoid u e) t h w = sym (pointed_same t u h.is)
      pointed (Term.Move back p i) t h w = move_by back p i (type_pointed p) t h.type h.kind (sym (pointed_same t h.type h.is)) h.steps w.1 (pointed p h.type h.pointer w.0)
      pointed (Term.Neg k e) t h w = elim (pointer_not_int t k h.is) [ ]
      pointed (Term.Flip k e) t h w = elim (pointer_not_int t k h.is) [ ]
      pointed (Term.Not e) t h w = elim (pointer_not_int t _ h.is) [ ]
      pointed (Term.Bin op k a b) t h w = elim (pointer_not_int t k h.is) [ ]
      pointed (Term.Rel op a b) t h w = elim (pointer_not_int t _ h.is) [ ]
      pointed (Term.And a b) t h w = elim (pointer_not_int t _ h.is) [ ]
      pointed (Term.Or a b) t h w = elim (pointer_not_int t _ h.is) [ ]
      pointed (Term.Conv k e) t h w = elim (pointer_not_int t k h.is) [ ]
      pointed (Term.ToVoid e) t h w = elim (pointer_not_void t h.is) [ ]
      pointed (Term.Diff p q) t h w = elim (pointer_not_int t _ h.is) [ ]

    -- ---- what is called through a pointer

    loaded_by : (o : Option Ty) (t : Ty) (found : (Wire → Tree) → Tree) → Named o t found → (o ≡ Some t) ⊎ Reaches (λ v. v ≡ wire.Null) (λ k. found (λ p. Tree.Load at p k))
    loaded_by (Some u) t found n = inl (ap Some n)
    loaded_by None t found n = inr (null_found found n)

    held_by : (p : Lvalue) (ts : List Ty) → (type_named p ≡ Some (ty.Fun ts)) ⊎ Reaches (λ v. v ≡ wire.Null) (λ k. at_place p (λ q. Tree.Load at q k)) → (named_type program slots p ≡ Some (ty.Fun ts)) ⊎ Reaches (λ v. v ≡ wire.Null) (λ k. at_place p (λ q. Tree.Load at q k))
    held_by p ts (inl e) = inl (sym (named_same program slots p) ∙ e)
    held_by p ts (inr r) = inr r

    -- the type of a pointer to a function is known, or it is null
    pub callee : (e : Term) (ts : List Ty) → Has program slots e (ty.Fun ts) → TermWithin K.uses.taken e → (called_type program slots e ≡ Some (ty.Fun ts)) ⊎ Reaches (λ v. v ≡ wire.Null) (of_term e)
    callee (Term.Lit value.Null) ts h w = inr (gives_fair most program sound side result K live globals at here (λ x. x ≡ wire.Null) wire.Null refl)
    callee (Term.Lit (value.Fn f)) ts h w = inl (ap (option_map function_type) h.1 ∙ ap Some (sym h.2))
    callee (Term.Lit (value.Int k n)) ts h w = elim (function_not_int ts k h.0) [ ]
    callee (Term.Lit (value.Ptr p)) ts h w = elim h [ ]
    callee (Term.Lit value.Dead) ts h w = elim h [ ]
    callee (Term.Lit (value.Lock s)) ts h w = elim h [ ]
    callee (Term.Lit value.NoValue) ts h w = elim h [ ]
    callee (Term.Load (Lvalue.Slot i)) ts h w =
        let slot = h.object in
        let type : slot.slot.ty ≡ ty.Fun ts = sym (ap elements slot.is ∙ elements_extent slot.slot.array slot.slot.ty slot.slot.count) in
        inl (ap (option_map slot_type) slot.names ∙ ap Some type)
    callee (Term.Load (Lvalue.Object i)) ts h w = held_by (Lvalue.Object i) ts (loaded_by (type_named (Lvalue.Object i)) (ty.Fun ts) (at_place (Lvalue.Object i)) (named (Lvalue.Object i) (One (ty.Fun ts)) h.object w))
    callee (Term.Load (Lvalue.Global g)) ts h w = held_by (Lvalue.Global g) ts (loaded_by (type_named (Lvalue.Global g)) (ty.Fun ts) (at_place (Lvalue.Global g)) (named (Lvalue.Global g) (One (ty.Fun ts)) h.object w))
    callee (Term.Load (Lvalue.Deref e)) ts h w = held_by (Lvalue.Deref e) ts (loaded_by (type_named (Lvalue.Deref e)) (ty.Fun ts) (at_place (Lvalue.Deref e)) (named (Lvalue.Deref e) (One (ty.Fun ts)) h.object w))
    callee (Term.Load (Lvalue.Member p f)) ts h w = held_by (Lvalue.Member p f) ts (loaded_by (type_named (Lvalue.Member p f)) (ty.Fun ts) (at_place (Lvalue.Member p f)) (named (Lvalue.Member p f) (One (ty.Fun ts)) h.object w))
    callee (Term.Load (Lvalue.Index p e)) ts h w = held_by (Lvalue.Index p e) ts (loaded_by (type_named (Lvalue.Index p e)) (ty.Fun ts) (at_place (Lvalue.Index p e)) (named (Lvalue.Index p e) (One (ty.Fun ts)) h.object w))
    callee (Term.Addr p) ts h w = elim (pointer_not_function h.type ts (sym h.is)) [ ]
    callee (Term.Decay p) ts h w = elim (pointer_not_function h.type ts (sym h.is)) [ ]
    callee (Term.FromVoid u e) ts h w = elim (pointer_not_function u ts (sym h.is)) [ ]
    callee (Term.Move back p i) ts h w = elim (pointer_not_function h.type ts (sym h.is)) [ ]
    callee (Term.Neg k e) ts h w = elim (function_not_int ts k h.is) [ ]
    callee (Term.Flip k e) ts h w = elim (function_not_int ts k h.is) [ ]
    callee (Term.Not e) ts h w = elim (function_not_int ts _ h.is) [ ]
    callee (Term.Bin op k a b) ts h w = elim (function_not_int ts k h.is) [ ]
    callee (Term.Rel op a b) ts h w = elim (function_not_int ts _ h.is) [ ]
    callee (Term.And a b) ts h w = elim (function_not_int ts _ h.is) [ ]
    callee (Term.Or a b) ts h w = elim (function_not_int ts _ h.is) [ ]
    callee (Term.Conv k e) ts h w = elim (function_not_int ts k h.is) [ ]
    callee (Term.ToVoid e) ts h w = elim (function_not_void ts h.is) [ ]
    callee (Term.Diff p q) ts h w = elim (function_not_int ts _ h.is) [ ]

    -- ---- a call's value is stored

    pub store_fair : (p : Lvalue) (o : Option Ty) (from to : Ty) → Designates program slots p (One to) → LvalueWithin K.uses.taken p → Named o to (at_place p) → Becomes from to → (v : Wire) → IsResult program K from v → (t : Tree) → FairTo most program side result K live t
        → FairTo most program side result K live (given at (received (known_of program) o v) (λ x. at_place p (λ q. Tree.Store at q x t)))
    store_fair p (Some u) from to d w n b v h t f =
        given_fair most program sound side result K live globals at here (Fits program K to) (received (known_of program) (Some u) v) (λ x. at_place p (λ q. Tree.Store at q x t)) (received_fits program K u from to n b v h)
        (record { by = λ x fits. (place_fair most program sound side result K live globals at here slots held fit p (One to) d w).by (λ q. Tree.Store at q x t) (record { by = λ q points. (here, (to, points, fits), f) }) })
    store_fair p None from to d w n b v h t f =
        given_fair most program sound side result K live globals at here (Fits program K from) (received (known_of program) None v) (λ x. at_place p (λ q. Tree.Store at q x t)) (received_as_is program K from v h)
        (record { by = λ x fits. n.by (λ q. Tree.Store at q x t) (record { by = λ q e. subst (λ y. FairTo most program side result K live (Tree.Store at y x t)) (sym e) (here, (from, tt, fits), f) }) })
