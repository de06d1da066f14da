-- Slots of functions: what they hold when a function is entered, and what is put into them.
use Rattle.std.proofs.Common.{◌≡◌, ℕ, zero, suc, ◌+◌, ◌-◌, ◌*◌, ◌<◌, ◌≤◌, ◌⊎◌, inl, inr, Bool, true, false, not, ◌&&◌, nat_lt, List, [], ◌∷◌, ◌++◌, length, map, Some, None, slice_get, slice_set, IsTrue, pos, refl, sym, ap, ◌∙◌, subst, ltb-true, ltb-false, arith}
use Rattle.mdr_core.specs.declared.types.Ty.{Ty, out-Ty}
use Rattle.mdr_core.specs.declared.types.Ty.TheOpen.{Ty-F}
use Rattle.mdr_core.specs.declared.types.Ty.TheFolds.{map-Ty}
use Rattle.mdr_core.specs.declared.program.Program.{Program}
use Rattle.mdr_core.specs.declared.program.Func.{Func}
use Rattle.mdr_core.specs.declared.program.Local.{Local}
use Rattle.mdr_core.specs.declared.program.Param.{Param}
use Rattle.mdr_core.specs.declared.kind.Kind.{Kind}
use Rattle.mdr_core.specs.declared.kind.Kind.TheVariants.{U8, U16, U32, U64, S8, S16, S32, S64}
use Rattle.mdr_core.specs.Kinds.{is_in_range}
use Rattle.mdr_core.specs.Layout.{Alone, Leaf, cells, chosen, leaves, leaves_by, repeated, struct_cells, zero_by, zero_value}
use Rattle.mdr_core.specs.Sound.{Sibling, all_cells, IsSound, IsSoundLocal, IsSoundParam}
use Rattle.mdr_core.specs.Types.{Aggregate, HasNoLock, HasNumber, Scalar, Sort, Wrong, is_scalar, is_scalar_by, sort_layer, sort_of}
use Rattle.mdr_core.specs.Typing.{Slot, slot_of_local, slot_of_param, slots_of}
use Rattle.mdr_core.specs.declared.types.Ty.TheVariants as ty
use Rattle.mdr_core.specs.declared.types.Ty.TheVariants.{outs-Lock}
use Rattle.mdr_core.proofs.Laid.{sort_is}
use Rattle.mdr_core.proofs.Lying.{length-repeated}
use Rattle.mdr_core.proofs.Viewed.{some_same}
use Rattle.mdr_meaning.specs.declared.shape.Shape64.{Shape64}
use Rattle.mdr_meaning.specs.declared.wire.Wire.{Wire}
use Rattle.mdr_meaning.specs.declared.wire.Wire.TheVariants as wire
use Rattle.mdr_meaning.specs.Expressions.{slot_of}
use Rattle.mdr_meaning.specs.Fair.{AllFit, AreBirths, Begins, IsBirth}
use Rattle.mdr_meaning.specs.Fit.{Knowledge, Grows, IsDataPointer, PointsTo, Fits, FitsLayer}
use Rattle.mdr_meaning.specs.Lives.{param_shapes, shape_of}
use Rattle.mdr_meaning.specs.Bodies.{known_of}
use Rattle.mdr_meaning.specs.Sides.{framed, undeclared}
use Rattle.mdr_meaning.specs.Slots.{slot_fits}
use Rattle.mdr_meaning.specs.Numbers.{type_number}
use Rattle.mdr_meaning.specs.Values.{wire_of}
use Rattle.mdr_meaning.proofs.GrowthLaws.{data_weaker, slot_grows}
use Rattle.mdr_meaning.proofs.NumberLaws.{left_of, not_both, numbered_short}

-- ---- one slot is set

-- what each slot holds, and what the new value is, the slots hold then
pub set_keeps : (P : Wire → Type 0) (held : List Wire) (i j : ℕ) (v : Wire) → P (slot_of held j) → (i ≡ j → P v) → P (slot_of (slice_set held i v) j)
unfolding slot_of
set_keeps P [] i j v h w = h
set_keeps P (x ∷ xs) zero zero v h w = w refl
set_keeps P (x ∷ xs) zero (suc j) v h w = h
set_keeps P (x ∷ xs) (suc i) zero v h w = h
set_keeps P (x ∷ xs) (suc i) (suc j) v h w = set_keeps P xs i j v h (λ e. w (ap suc e))

-- a slot that is there takes another kind of value
pub set_takes : (P Q : Wire → Type 0) (held : List Wire) (i : ℕ) (v : Wire) → P (slot_of held i) → (P wire.NoValue → ⊥) → Q v → Q (slot_of (slice_set held i v) i)
unfolding slot_of
set_takes P Q [] i v h bad q = elim (bad h) [ ]
set_takes P Q (x ∷ xs) zero v h bad q = q
set_takes P Q (x ∷ xs) (suc i) v h bad q = set_takes P Q xs i v h bad q

pub nothing_fits : (program : Program) (K : Knowledge) (l : Ty-F Ty) → FitsLayer program K l wire.NoValue → ⊥
nothing_fits program K (Ty-F.Int k) h = h
nothing_fits program K Ty-F.Lock h = h
nothing_fits program K (Ty-F.Struct s) h = h
nothing_fits program K (Ty-F.Ptr t) h = h
nothing_fits program K Ty-F.VoidPtr h = h
nothing_fits program K (Ty-F.Fun ts) h = h
nothing_fits program K Ty-F.Void h = h

-- ---- slots of sound functions

-- an object has a type of the table and may be born, an array is an object, and what is none is a scalar
pub record IsSoundSlot (program : Program) (s : Slot) : Type 0 where
  pub in_table : s.object ≡ true → HasNumber program s.ty
  pub birth : s.object ≡ true → IsBirth program (shape_of (known_of program) s)
  pub plain : s.object ≡ false → IsTrue (is_scalar s.ty)
  pub arrays : s.array ≡ true → s.object ≡ true

pub record AreSoundSlots (program : Program) (slots : List Slot) : Type 0 where
  pub each : (i : ℕ) (s : Slot) → slice_get slots i ≡ Some s → IsSoundSlot program s

scalar_by : (n : ℕ) (t : Ty-F Ty) → sort_layer n (map-Ty Ty Sort (sort_of n) t) ≡ Scalar → IsTrue (is_scalar_by t)
scalar_by n (Ty-F.Int k) h = refl
scalar_by n (Ty-F.Ptr t) h = refl
scalar_by n Ty-F.VoidPtr h = refl
scalar_by n (Ty-F.Fun ts) h = refl
scalar_by n Ty-F.Lock h = absurd cc
scalar_by n Ty-F.Void h = absurd cc
scalar_by n (Ty-F.Struct s) h = by_count (nat_lt s n) h where
  by_count : (b : Bool) → chosen b Aggregate Wrong ≡ Scalar → IsTrue false
  by_count true e = absurd cc
  by_count false e = absurd cc

scalar_is : (n : ℕ) (t : Ty) → sort_of n t ≡ Scalar → IsTrue (is_scalar t)
scalar_is n t h = scalar_by n (out-Ty t) (sym (sort_is n t) ∙ h)

-- ---- a scalar is one cell, and no lock

one_cell_by : (known : ℕ → List Leaf) (t : Ty) (l : Ty-F Ty) → IsTrue (is_scalar_by l) → leaves_by known Alone t l ≡ record { home = Alone; type = t } ∷ []
one_cell_by known t (Ty-F.Int k) h = refl
one_cell_by known t (Ty-F.Ptr u) h = refl
one_cell_by known t Ty-F.VoidPtr h = refl
one_cell_by known t (Ty-F.Fun ts) h = refl
one_cell_by known t l h = absurd cc

one_cell : (program : Program) (t : Ty) → IsTrue (is_scalar t) → cells program t ≡ record { home = Alone; type = t } ∷ []
unfolding cells leaves
one_cell program t h = one_cell_by (struct_cells program.structs) t (out-Ty t) h

scalar_no_lock : (t : Ty) → IsTrue (is_scalar t) → t ≡ ty.Lock → ⊥
scalar_no_lock t h e = let layer : is_scalar_by (out-Ty t) ≡ is_scalar_by Ty-F.Lock = ap is_scalar_by (ap out-Ty e ∙ outs-Lock) in not_both h layer

no_lock_in : (program : Program) (t : Ty) → IsTrue (is_scalar t) → HasNoLock program t
no_lock_in program t h = record { none = λ i leaf e. among i leaf (sym (ap (λ xs. slice_get xs i) (one_cell program t h)) ∙ e) } where
  among : (i : ℕ) (leaf : Leaf) → slice_get (record { home = Alone; type = t } ∷ []) i ≡ Some leaf → leaf.type ≡ ty.Lock → ⊥
  among zero leaf e q = scalar_no_lock t h (ap (λ (x : Leaf). x.type) (some_same e) ∙ q)
  among (suc i) leaf e q = cc

scalar_small : (program : Program) (t : Ty) → IsTrue (is_scalar t) → length (all_cells program t 1) ≤ 65536
scalar_small program t h = let many : length (repeated 1 (cells program t)) ≡ 1 * length (cells program t) = length-repeated 1 (cells program t) in let one : length (cells program t) ≡ 1 = ap length (one_cell program t h) in omega (arith, many, one)

module _ (program : Program) where
  birth_is : (s : Slot) → HasNumber program s.ty → HasNoLock program s.ty → 1 ≤ s.count → length (all_cells program s.ty s.count) ≤ 65536 → IsBirth program (shape_of (known_of program) s)
  birth_is s table none some small = record { ty = s.ty; names = numbered_short program s.ty table; no_lock = none; some = some; small = small }

  param_slot : (siblings : List Sibling) (p : Param) → IsSoundParam program siblings p → IsSoundSlot program (slot_of_param p)
  param_slot siblings p h =
      let scalar : IsTrue (is_scalar p.ty) = scalar_is _ p.ty h.sort in
      record {
        in_table = λ e. h.in_table;
        birth = λ e. birth_is (slot_of_param p) h.in_table (no_lock_in program p.ty scalar) (omega arith) (scalar_small program p.ty scalar);
        plain = λ e. scalar;
        arrays = λ e. absurd cc;
      }

  local_slot : (l : Local) → IsSoundLocal program l → IsSoundSlot program (slot_of_local l)
  local_slot l h =
      record { in_table = h.in_table; birth = λ e. birth_is (slot_of_local l) (h.in_table e) h.no_lock h.count.some h.small; plain = λ e. scalar_is _ l.ty (h.slot e).1; arrays = λ e. by_object l.object refl e }
    where
      by_object : (b : Bool) → l.object ≡ b → l.array ≡ true → b ≡ true
      by_object true q e = refl
      by_object false q e = absurd (not_both e (h.slot q).0)

  each_local : (Q : Slot → Type 0) (ls : List Local) → ((i : ℕ) (l : Local) → slice_get ls i ≡ Some l → Q (slot_of_local l)) → (i : ℕ) (s : Slot) → slice_get (map slot_of_local ls) i ≡ Some s → Q s
  each_local Q [] h i s e = absurd cc
  each_local Q (l ∷ ls) h zero s e = subst Q (some_same e) (h 0 l refl)
  each_local Q (l ∷ ls) h (suc i) s e = each_local Q ls (λ j. h (suc j)) i s e

  each_slot : (Q : Slot → Type 0) (ps : List Param) (ls : List Local) → ((i : ℕ) (p : Param) → slice_get ps i ≡ Some p → Q (slot_of_param p)) → ((i : ℕ) (l : Local) → slice_get ls i ≡ Some l → Q (slot_of_local l))
      → (i : ℕ) (s : Slot) → slice_get (map slot_of_param ps ++ map slot_of_local ls) i ≡ Some s → Q s
  each_slot Q [] ls h k i s e = each_local Q ls k i s e
  each_slot Q (p ∷ ps) ls h k zero s e = subst Q (some_same e) (h 0 p refl)
  each_slot Q (p ∷ ps) ls h k (suc i) s e = each_slot Q ps ls (λ j. h (suc j)) k i s e

  pub sound_slots : IsSound program → (f : ℕ) (func : Func) → slice_get program.funcs f ≡ Some func → AreSoundSlots program (slots_of func)
  sound_slots sound f func names =
      let rules = sound.funcs f func names in
      record { each = λ i s e. each_slot (IsSoundSlot program) func.params func.locals (λ j p q. param_slot _ p (rules.params j p q)) (λ j l q. local_slot l (rules.locals j l q)) i s e }

  -- ---- what slots hold

  -- an object's slot holds a pointer to the first of its elements, once it is born
  abbrev begins_by : Bool → ℕ → Wire → Type 0
  begins_by true count v = Begins count v
  begins_by false count v = Unit {0}

  abbrev pub Holds : Knowledge → Slot → Wire → Type 0
  Holds K s v = slot_fits s.object program K s.ty v × begins_by s.object s.count v

  -- an object parameter holds its argument, until the object is filled
  abbrev raw_by : (is_local object : Bool) → Knowledge → Slot → Wire → Type 0
  raw_by true object K s v = slot_fits object program K s.ty v × begins_by object s.count v
  raw_by false object K s v = Fits program K s.ty v

  abbrev Raw : Knowledge → Slot → Wire → Type 0
  Raw K s v = raw_by s.is_local s.object K s v

  pub plain_holds : (K : Knowledge) (s : Slot) (v : Wire) → s.object ≡ false → Fits program K s.ty v → Holds K s v
  plain_holds K s v is h = by_object s.object is where
    by_object : (b : Bool) → b ≡ false → slot_fits b program K s.ty v × begins_by b s.count v
    by_object true q = absurd cc
    by_object false q = (h, tt)

  pub object_holds : (K : Knowledge) (s : Slot) (v : Wire) → s.object ≡ true → PointsTo program K s.ty v → Begins s.count v → Holds K s v
  object_holds K s v is h k = by_object s.object is where
    by_object : (b : Bool) → b ≡ true → slot_fits b program K s.ty v × begins_by b s.count v
    by_object true q = (h, k)
    by_object false q = absurd cc

  pub object_held : (K : Knowledge) (s : Slot) (v : Wire) → s.object ≡ true → Holds K s v → PointsTo program K s.ty v × Begins s.count v
  object_held K s v is h = by_object s.object is h where
    by_object : (b : Bool) → b ≡ true → slot_fits b program K s.ty v × begins_by b s.count v → PointsTo program K s.ty v × Begins s.count v
    by_object true q h = h
    by_object false q h = absurd cc

  -- a pointer to a new object is of the object's type
  pub born_points : (K : Knowledge) (t : Ty) (p : Wire) → HasNumber program t → IsDataPointer program K (λ n. n ≡ type_number (known_of program) t) p → PointsTo program K t p
  born_points K t p table h =
      data_weaker program K (λ n. n ≡ type_number (known_of program) t) (λ n. slice_get program.types n ≡ Some t) p (λ n e. ap (slice_get program.types) e ∙ numbered_short program t table) h

  pub holds_grows : (K K' : Knowledge) → Grows K K' → (s : Slot) (v : Wire) → Holds K s v → Holds K' s v
  holds_grows K K' g s v h = (slot_grows program K K' g s.object s.ty v h.0, h.1)

  zero_in_range : (k : Kind) → is_in_range k (pos 0) ≡ true
  unfolding is_in_range
  zero_in_range U8 = refl
  zero_in_range U16 = refl
  zero_in_range U32 = refl
  zero_in_range U64 = refl
  zero_in_range S8 = refl
  zero_in_range S16 = refl
  zero_in_range S32 = refl
  zero_in_range S64 = refl

  zero_by_fits : (K : Knowledge) (t : Ty-F Ty) → IsTrue (is_scalar_by t) → FitsLayer program K t (wire_of (zero_by t))
  zero_by_fits K (Ty-F.Int k) h = (refl, zero_in_range k)
  zero_by_fits K (Ty-F.Ptr t) h = tt
  zero_by_fits K Ty-F.VoidPtr h = tt
  zero_by_fits K (Ty-F.Fun ts) h = tt
  zero_by_fits K t h = absurd cc

  pub zero_fits : (K : Knowledge) (t : Ty) → IsTrue (is_scalar t) → Fits program K t (wire_of (zero_value t))
  zero_fits K t h = zero_by_fits K (out-Ty t) h

  -- ---- a function is entered

  undeclared_holds : (K : Knowledge) (l : Local) → IsSoundSlot program (slot_of_local l) → Raw K (slot_of_local l) (undeclared (slot_of_local l))
  undeclared_holds K l h = by_object l.object h.plain where
    by_object : (b : Bool) → (b ≡ false → IsTrue (is_scalar l.ty)) → slot_fits b program K l.ty (chosen b wire.Null (wire_of (zero_value l.ty))) × begins_by b l.count (chosen b wire.Null (wire_of (zero_value l.ty)))
    by_object true p = (tt, tt)
    by_object false p = (zero_fits K l.ty (p refl), tt)

  framed_locals : (K : Knowledge) (ls : List Local) → ((i : ℕ) (l : Local) → slice_get ls i ≡ Some l → IsSoundLocal program l)
      → (j : ℕ) (s : Slot) → slice_get (map slot_of_local ls) j ≡ Some s → Raw K s (slot_of (framed (map slot_of_local ls) []) j)
  unfolding slot_of
  framed_locals K [] h j s e = absurd cc
  framed_locals K (l ∷ ls) h zero s e = subst (λ x. Raw K x (undeclared (slot_of_local l))) (some_same e) (undeclared_holds K l (local_slot l (h 0 l refl)))
  framed_locals K (l ∷ ls) h (suc j) s e = framed_locals K ls (λ i. h (suc i)) j s e

  pub framed_holds : (K : Knowledge) (ps : List Param) (ls : List Local) (vs : List Wire) → AllFit program K vs (map (λ (p : Param). p.ty) ps) → ((i : ℕ) (l : Local) → slice_get ls i ≡ Some l → IsSoundLocal program l)
      → (j : ℕ) (s : Slot) → slice_get (map slot_of_param ps ++ map slot_of_local ls) j ≡ Some s → Raw K s (slot_of (framed (map slot_of_param ps ++ map slot_of_local ls) vs) j)
  unfolding slot_of
  framed_holds K [] ls [] a h j s e = framed_locals K ls h j s e
  framed_holds K [] ls (v ∷ vs) a h j s e = elim a [ ]
  framed_holds K (p ∷ ps) ls [] a h j s e = elim a [ ]
  framed_holds K (p ∷ ps) ls (v ∷ vs) a h zero s e = subst (λ x. Raw K x v) (some_same e) a.0
  framed_holds K (p ∷ ps) ls (v ∷ vs) a h (suc j) s e = framed_holds K ps ls vs a.1 h j s e

  -- ---- object parameters are filled, one after another

  -- the slots before i hold what they shall, and those from i on are `rest`
  pub record Filling (K : Knowledge) (slots : List Slot) (i : ℕ) (rest : List Slot) (held : List Wire) : Type 0 where
    pub front : (j : ℕ) (s : Slot) → slice_get slots j ≡ Some s → j < i → Holds K s (slot_of held j)
    pub back : (j : ℕ) (s : Slot) → slice_get slots j ≡ Some s → i ≤ j → Raw K s (slot_of held j)
    pub suffix : (m : ℕ) → slice_get rest m ≡ slice_get slots (i + m)

  pub filling_begins : (K : Knowledge) (slots : List Slot) (held : List Wire) → ((j : ℕ) (s : Slot) → slice_get slots j ≡ Some s → Raw K s (slot_of held j)) → Filling K slots 0 slots held
  filling_begins K slots held h = record { front = λ j s e lt. absurd (omega (arith, lt)); back = λ j s e le. h j s e; suffix = λ m. let same : m ≡ 0 + m = omega arith in ap (slice_get slots) same }

  pub filling_ends : (K : Knowledge) (slots : List Slot) (i : ℕ) (held : List Wire) → Filling K slots i [] held → (j : ℕ) (s : Slot) → slice_get slots j ≡ Some s → Holds K s (slot_of held j)
  filling_ends K slots i held h j s e = by_place (nat_lt j i) refl where
    by_place : (b : Bool) → nat_lt j i ≡ b → Holds K s (slot_of held j)
    by_place true q = h.front j s e (ltb-true _ _ q)
    by_place false q =
        let le : i ≤ j = ltb-false _ _ q in
        let same : i + (j - i) ≡ j = omega (arith, le) in
        let none : None ≡ Some s = h.suffix (j - i) ∙ ap (slice_get slots) same ∙ e in
        absurd cc

  less_or_equal : (j i : ℕ) → j < suc i → (j < i) ⊎ (i ≡ j)
  less_or_equal j i lt = by_place (nat_lt j i) refl where
    by_place : (b : Bool) → nat_lt j i ≡ b → (j < i) ⊎ (i ≡ j)
    by_place true q = inl (ltb-true _ _ q)
    by_place false q = let le : i ≤ j = ltb-false _ _ q in inr (omega (arith, le, lt))

  -- the next slot holds what it shall, and the others what they held
  filling_goes : (K : Knowledge) (slots : List Slot) (i : ℕ) (s : Slot) (ss : List Slot) (held after : List Wire) → Filling K slots i (s ∷ ss) held
      → ((P : Wire → Type 0) (j : ℕ) → (i ≡ j → ⊥) → P (slot_of held j) → P (slot_of after j)) → Holds K s (slot_of after i) → Filling K slots (suc i) ss after
  filling_goes K slots i s ss held after h same now = record { front = front; back = back; suffix = suffix } where
    is_here : (j : ℕ) (x : Slot) → slice_get slots j ≡ Some x → i ≡ j → Holds K x (slot_of after j)
    is_here j x e q =
        let place : i + 0 ≡ j = omega (arith, q) in
        let names : Some s ≡ Some x = h.suffix 0 ∙ ap (slice_get slots) place ∙ e in
        subst (λ y. Holds K y (slot_of after j)) (some_same names) (subst (λ n. Holds K s (slot_of after n)) q now)

    by_place : (j : ℕ) (x : Slot) → slice_get slots j ≡ Some x → (j < i) ⊎ (i ≡ j) → Holds K x (slot_of after j)
    by_place j x e (inl lt) = same (Holds K x) j (λ q. absurd (omega (arith, q, lt))) (h.front j x e lt)
    by_place j x e (inr q) = is_here j x e q

    front : (j : ℕ) (x : Slot) → slice_get slots j ≡ Some x → j < suc i → Holds K x (slot_of after j)
    front j x e lt = by_place j x e (less_or_equal j i lt)

    back : (j : ℕ) (x : Slot) → slice_get slots j ≡ Some x → suc i ≤ j → Raw K x (slot_of after j)
    back j x e le = same (Raw K x) j (λ q. absurd (omega (arith, q, le))) (h.back j x e (omega (arith, le)))

    suffix : (m : ℕ) → slice_get ss m ≡ slice_get slots (suc i + m)
    suffix m = let next : i + suc m ≡ suc i + m = omega arith in h.suffix (suc m) ∙ ap (slice_get slots) next

  -- the slot that comes is named by its number
  pub filling_names : (K : Knowledge) (slots : List Slot) (i : ℕ) (s : Slot) (ss : List Slot) (held : List Wire) → Filling K slots i (s ∷ ss) held → slice_get slots i ≡ Some s
  filling_names K slots i s ss held h = let place : i ≡ i + 0 = omega arith in ap (slice_get slots) place ∙ sym (h.suffix 0)

  raw_here : (K : Knowledge) (slots : List Slot) (i : ℕ) (s : Slot) (ss : List Slot) (held : List Wire) → Filling K slots i (s ∷ ss) held → Raw K s (slot_of held i)
  raw_here K slots i s ss held h = h.back i s (filling_names K slots i s ss held h) (omega arith)

  -- one that is no object parameter
  pub filling_passes : (K : Knowledge) (slots : List Slot) (i : ℕ) (s : Slot) (ss : List Slot) (held : List Wire) → (s.object && not s.is_local) ≡ false → Filling K slots i (s ∷ ss) held → Filling K slots (suc i) ss held
  filling_passes K slots i s ss held none h = filling_goes K slots i s ss held held h (λ P j ne p. p) (by_form s.object s.is_local none (raw_here K slots i s ss held h)) where
    by_form : (object is_local : Bool) → (object && not is_local) ≡ false → raw_by is_local object K s (slot_of held i) → slot_fits object program K s.ty (slot_of held i) × begins_by object s.count (slot_of held i)
    by_form object true e r = r
    by_form true false e r = absurd cc
    by_form false false e r = (r, tt)

  -- one that is one holds its argument
  pub filling_value : (K : Knowledge) (slots : List Slot) (i : ℕ) (s : Slot) (ss : List Slot) (held : List Wire) → (s.object && not s.is_local) ≡ true → Filling K slots i (s ∷ ss) held → Fits program K s.ty (slot_of held i)
  filling_value K slots i s ss held one h = by_form s.object s.is_local one (raw_here K slots i s ss held h) where
    by_form : (object is_local : Bool) → (object && not is_local) ≡ true → raw_by is_local object K s (slot_of held i) → Fits program K s.ty (slot_of held i)
    by_form true false e r = r
    by_form true true e r = absurd cc
    by_form false is_local e r = absurd cc

  -- and then its object's address
  pub filling_fills : (K : Knowledge) (slots : List Slot) (i : ℕ) (s : Slot) (ss : List Slot) (held : List Wire) (p : Wire) → (s.object && not s.is_local) ≡ true → Filling K slots i (s ∷ ss) held
      → Holds K s p → Filling K slots (suc i) ss (slice_set held i p)
  filling_fills K slots i s ss held p one h holds =
      filling_goes K slots i s ss held (slice_set held i p) h (λ P j ne q. set_keeps P held i j p q (λ e. absurd (ne e)))
      (set_takes (Fits program K s.ty) (Holds K s) held i p (filling_value K slots i s ss held one h) (nothing_fits program K (out-Ty s.ty)) holds)

  -- ---- the shapes of object parameters

  births_by : (b : Bool) (s : Slot) (rest : List Shape64) → (b ≡ true → IsBirth program (shape_of (known_of program) s)) → AreBirths program rest → AreBirths program (chosen b (shape_of (known_of program) s ∷ rest) rest)
  births_by true s rest h k = (h refl, k)
  births_by false s rest h k = k

  pub params_are_births : (ss : List Slot) → AreSoundSlots program ss → AreBirths program (param_shapes (known_of program) ss)
  params_are_births [] h = tt
  params_are_births (s ∷ ss) h =
      births_by (s.object && not s.is_local) s (param_shapes (known_of program) ss) (λ e. (h.each 0 s refl).birth (left_of s.object (not s.is_local) e)) (params_are_births ss (record { each = λ i. h.each (suc i) }))
