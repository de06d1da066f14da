-- Laws of handles, and of values when a block is born or dies.
use Rattle.std.proofs.Common.{◌≡◌, ◌<◌, ℕ, Bool, true, false, cond, not, ◌&&◌, ◌||◌, List, [], ◌∷◌, ◌++◌, map, refl, ◌∙◌, ap, arith}
use Rattle.std.specs.Prelude.{◌==◌}
use Rattle.std.proofs.lemmas.Bool.{eqb-true, eq-eqb}
use Rattle.mdr_core.specs.declared.value.Block.{Block}
use Rattle.mdr_core.specs.declared.value.Value.{Value}
use Rattle.mdr_core.specs.declared.value.Value.TheVariants as value
use Rattle.mdr_meaning.specs.Values.{wire_of}
use Rattle.mdr_model.specs.Memory.{swept}
use Rattle.mdr_mem.specs.Contents.{is_same_block, is_handle, left_of, current, wire_in}
use Rattle.mdr_mem.specs.Rows.{Rise, IsOld, AreOld}

pub is_handle-append : (hs : List Block) (b c : Block) → is_handle (hs ++ b ∷ []) c ≡ (is_handle hs c || is_same_block b c)
unfolding is_handle
is_handle-append [] b c = grind arith
is_handle-append (h ∷ hs) b c = grind (arith, is_handle-append hs b c)

pub is_handle-left : (d : ℕ) (hs : List Block) (c : Block) → is_handle (left_of d hs) c ≡ (is_handle hs c && not (c.serial == d))
unfolding is_handle left_of
is_handle-left d [] c = refl
is_handle-left d (h ∷ hs) c = of (h.serial == d) refl (is_handle-left d hs c)
  where
    of : (t : Bool) → (h.serial == d) ≡ t → is_handle (left_of d hs) c ≡ (is_handle hs c && not (c.serial == d))
        → is_handle (cond t (left_of d hs) (h ∷ left_of d hs)) c ≡ ((is_same_block h c || is_handle hs c) && not (c.serial == d))
    of true e later = grind (arith, eqb-true h.serial d, eqb-true h.serial c.serial)
    of false e later = grind (arith, eqb-true h.serial d, eqb-true h.serial c.serial)

-- the same slot and serial
pub same_slot : (a b : Block) → is_same_block a b ≡ true → a.slot ≡ b.slot
same_slot a b h = grind (arith, eqb-true a.slot b.slot)

pub same_serial : (a b : Block) → is_same_block a b ≡ true → a.serial ≡ b.serial
same_serial a b h = grind (arith, eqb-true a.serial b.serial)

-- two handles of one serial lie in one slot
pub one_slot : (hs : List Block) → Rise hs → (a b : Block) → is_handle hs a ≡ true → is_handle hs b ≡ true → a.serial ≡ b.serial → a.slot ≡ b.slot
unfolding is_handle
one_slot [] r a b ha hb e = grind (arith, ha)
one_slot (h ∷ hs) r a b ha hb e = grind (arith, same_slot h a, same_slot h b, same_serial h a, same_serial h b, r.0 a, r.0 b, one_slot hs r.1 a b)

pub rise-left : (d : ℕ) (hs : List Block) → Rise hs → Rise (left_of d hs)
unfolding left_of
rise-left d [] r = tt
rise-left d (h ∷ hs) r = of (h.serial == d) (rise-left d hs r.1)
  where
    of : (t : Bool) → Rise (left_of d hs) → Rise (cond t (left_of d hs) (h ∷ left_of d hs))
    of true later = later
    of false later = (λ c k. grind (arith, r.0 c, is_handle-left d hs c), later)

pub rise-append : (hs : List Block) (b : Block) → Rise hs → ((c : Block) → is_handle hs c ≡ true → c.serial < b.serial) → Rise (hs ++ b ∷ [])
unfolding is_handle
rise-append [] b r below = (λ c k. grind (arith, k), tt)
rise-append (h ∷ hs) b r below = (
  λ c k. grind (arith, r.0 c, is_handle-append hs b c, same_serial b c, below h, eq-eqb h.slot h.slot refl, eq-eqb h.serial h.serial refl),
  rise-append hs b r.1 (λ c k. below c (grind (arith, k))),
)

-- ---- values

pub current-twice : (hs : List Block) (v : Value) → current hs (current hs v) ≡ current hs v
unfolding current
current-twice hs (value.Ptr p) = of (is_handle hs p.block) refl
  where
    of : (t : Bool) → is_handle hs p.block ≡ t → current hs (cond t (value.Ptr p) value.Dead) ≡ cond t (value.Ptr p) value.Dead
    of true e = rw e refl
    of false e = refl
current-twice hs (value.Int k n) = refl
current-twice hs value.Null = refl
current-twice hs value.Dead = refl
current-twice hs (value.Fn f) = refl
current-twice hs (value.Lock s) = refl
current-twice hs value.NoValue = refl

-- a birth changes no value that was there
pub current-append : (hs : List Block) (b : Block) (v : Value) → IsOld b.serial v → current (hs ++ b ∷ []) v ≡ current hs v
unfolding current
current-append hs b (value.Ptr p) old = ap (λ t. cond t (value.Ptr p) value.Dead) (grind (arith, is_handle-append hs b p.block, same_serial b p.block))
current-append hs b (value.Int k n) old = refl
current-append hs b value.Null old = refl
current-append hs b value.Dead old = refl
current-append hs b (value.Fn f) old = refl
current-append hs b (value.Lock s) old = refl
current-append hs b value.NoValue old = refl

pub wires-append : (hs : List Block) (b : Block) (vs : List Value) → AreOld b.serial vs → map (wire_in (hs ++ b ∷ [])) vs ≡ map (wire_in hs) vs
wires-append hs b [] old = refl
wires-append hs b (v ∷ vs) old = λ i. wire_of (current-append hs b v old.0 i) ∷ wires-append hs b vs old.1 i

-- what is alive is old
pub current-old : (hs : List Block) (n : ℕ) → ((b : Block) → is_handle hs b ≡ true → b.serial < n) → (v : Value) → IsOld n (current hs v)
unfolding current
current-old hs n below (value.Ptr p) = of (is_handle hs p.block) refl
  where
    of : (t : Bool) → is_handle hs p.block ≡ t → IsOld n (cond t (value.Ptr p) value.Dead)
    of true e = below p.block e
    of false e = tt
current-old hs n below (value.Int k m) = tt
current-old hs n below value.Null = tt
current-old hs n below value.Dead = tt
current-old hs n below (value.Fn f) = tt
current-old hs n below (value.Lock s) = tt
current-old hs n below value.NoValue = tt

pub currents-old : (hs : List Block) (n : ℕ) → ((b : Block) → is_handle hs b ≡ true → b.serial < n) → (vs : List Value) → AreOld n (map (current hs) vs)
currents-old hs n below [] = tt
currents-old hs n below (v ∷ vs) = (current-old hs n below v, currents-old hs n below vs)

pub wires-current : (hs : List Block) (vs : List Value) → map (wire_in hs) (map (current hs) vs) ≡ map (wire_in hs) vs
wires-current hs [] = refl
wires-current hs (v ∷ vs) = λ i. wire_of (current-twice hs v i) ∷ wires-current hs vs i

-- a death sweeps the pointers to the block
pub wire-left : (d : ℕ) (hs : List Block) (v : Value) → wire_in (left_of d hs) v ≡ swept d (wire_in hs v)
unfolding current
wire-left d hs (value.Ptr p) =
    ap (λ t. wire_of (cond t (value.Ptr p) value.Dead)) (is_handle-left d hs p.block) ∙ of (is_handle hs p.block) (p.block.serial == d) refl
  where
    of : (t u : Bool) → (p.block.serial == d) ≡ u → wire_of (cond (t && not u) (value.Ptr p) value.Dead) ≡ swept d (wire_of (cond t (value.Ptr p) value.Dead))
    of true true e = rw e refl
    of true false e = rw e refl
    of false u e = refl
wire-left d hs (value.Int k n) = refl
wire-left d hs value.Null = refl
wire-left d hs value.Dead = refl
wire-left d hs (value.Fn f) = refl
wire-left d hs (value.Lock s) = refl
wire-left d hs value.NoValue = refl

pub wires-left : (d : ℕ) (hs : List Block) (vs : List Value) → map (wire_in (left_of d hs)) vs ≡ map (swept d) (map (wire_in hs) vs)
wires-left d hs [] = refl
wires-left d hs (v ∷ vs) = λ i. wire-left d hs v i ∷ wires-left d hs vs i
