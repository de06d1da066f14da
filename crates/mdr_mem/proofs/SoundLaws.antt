-- What holds of the rows after a birth, a store and a death.
use Rattle.std.proofs.Common.{◌≡◌, ◌≢◌, ◌<◌, ◌≤◌, ◌+◌, ℕ, zero, suc, Bool, true, false, cond, not, ◌&&◌, ◌||◌, List, [], ◌∷◌, ◌++◌, map, Option, Some, None, refl, sym, ◌∙◌, ap, subst, arith}
use Rattle.std.specs.Prelude.{◌==◌, IsSome, length, slice_get, slice_set, slice_index_or}
use Rattle.std.proofs.lemmas.Bool.{eqb-true, eq-eqb}
use Rattle.std.proofs.lemmas.List.{length-append}
use Rattle.std.proofs.lemmas.List.Sums.{sum_by-append}
use Rattle.mdr_core.specs.declared.value.Block.{Block}
use Rattle.mdr_core.specs.declared.value.Value.{Value}
use Rattle.mdr_core.specs.declared.value.Value.TheVariants as value
use Rattle.mdr_model.specs.Memory.{Memory, killed, cell_at, born_at}
use Rattle.mdr_meaning.specs.declared.wire.Wire.{Wire}
use Rattle.mdr_mem.specs.declared.cells.Life.{Life}
use Rattle.mdr_mem.specs.declared.cells.Life.TheVariants as life
use Rattle.mdr_mem.specs.declared.rows.Held.{Held}
use Rattle.mdr_mem.specs.Contents.{Contents, is_same_block, is_handle, left_of, wire_in, cell_in, is_birth}
use Rattle.mdr_mem.specs.Rows.{Slots, in_slot, shown, blocks_of, holds_serial, is_held, IsOld, AreOld, AreHeldOld, with_cell, IsSound}
use Rattle.mdr_mem.proofs.HandleLaws.{is_handle-append, is_handle-left, same_slot, same_serial, one_slot, rise-append, rise-left}
use Rattle.mdr_mem.proofs.RowLaws.{blocks-moved, blocks-append, shown-born, blocks-left, apart, behind, cell_at-block, born_at-block}

-- ---- contents field by field

pub same_contents : {hs hs' : List Block} {m m' : Memory} {ls ls' : List Life} → hs ≡ hs' → m ≡ m' → ls ≡ ls'
    → ◌≡◌ {A = Contents} (record { handles = hs; memory = m; lives = ls }) (record { handles = hs'; memory = m'; lives = ls' })
same_contents p q r = λ i. record { handles = p i; memory = q i; lives = r i }

-- ---- values stay old

pub old-later : (n : ℕ) (v : Value) → IsOld n v → IsOld (n + 1) v
old-later n (value.Ptr p) old = omega (arith, old)
old-later n (value.Int k m) old = tt
old-later n value.Null old = tt
old-later n value.Dead old = tt
old-later n (value.Fn f) old = tt
old-later n (value.Lock s) old = tt
old-later n value.NoValue old = tt

pub olds-later : (n : ℕ) (vs : List Value) → AreOld n vs → AreOld (n + 1) vs
olds-later n [] old = tt
olds-later n (v ∷ vs) old = (old-later n v old.0, olds-later n vs old.1)

pub held-later : (n : ℕ) (o : Option Held) → AreHeldOld n o → AreHeldOld (n + 1) o
held-later n None old = tt
held-later n (Some x) old = olds-later n x.cells old

pub olds-set : (n : ℕ) (vs : List Value) (i : ℕ) (v : Value) → AreOld n vs → IsOld n v → AreOld n (slice_set vs i v)
olds-set n [] i v old new = tt
olds-set n (w ∷ vs) zero v old new = (new, old.1)
olds-set n (w ∷ vs) (suc i) v old new = (old.0, olds-set n vs i v old.1 new)

-- ---- by slots

-- what holds of the slot that changes, and of each other, holds of each slot
pub by_slot : (P : ℕ → Type 0) (slot : ℕ) → P slot → ((other : ℕ) → other ≢ slot → P other) → (n : ℕ) → P n
by_slot P slot here there n = of (n == slot) refl
  where
    of : (t : Bool) → (n == slot) ≡ t → P n
    of true e = subst P (sym (eqb-true n slot e)) here
    of false e = there n (λ k. grind (arith, e, eq-eqb n slot k))

-- ---- a birth

module _ (hs : List Block) (slots slots' : Slots) (lives : List Life) (births room : ℕ) (s : IsSound hs slots lives births room)
    (b : Block) (x : Held) (new : b.serial ≡ births) (vacant : in_slot slots b.slot ≡ None)
    (there : in_slot slots' b.slot ≡ Some x) (others : (slot : ℕ) → slot ≢ b.slot → in_slot slots' slot ≡ in_slot slots slot)
  where
    live_elsewhere : (h : Block) → is_handle hs h ≡ true → h.slot ≢ b.slot
    live_elsewhere h k e = grind (arith, k, s.held h, ap (λ n. holds_serial (in_slot slots n) h.serial) e, ap (λ o. holds_serial o h.serial) vacant)

    pub blocks-born : blocks_of (hs ++ b ∷ []) slots' (hs ++ b ∷ []) ≡ blocks_of hs slots hs ++ shown (hs ++ b ∷ []) (Some x) ∷ []
    blocks-born =
        blocks-append (hs ++ b ∷ []) slots' hs b
        ∙ λ i. blocks-moved hs (hs ++ b ∷ []) slots slots' hs (λ h k. ap (shown (hs ++ b ∷ [])) (others h.slot (live_elsewhere h k)) ∙ shown-born hs b (in_slot slots h.slot) (subst (λ n. AreHeldOld n (in_slot slots h.slot)) (sym new) (s.old h.slot))) i
        ++ shown (hs ++ b ∷ []) (there i) ∷ []

    pub blocks-added : AreOld births x.cells → blocks_of (hs ++ b ∷ []) slots' (hs ++ b ∷ []) ≡ blocks_of hs slots hs ++ shown hs (Some x) ∷ []
    blocks-added old = blocks-born ∙ ap (λ m. blocks_of hs slots hs ++ m ∷ []) (shown-born hs b (Some x) (subst (λ n. AreOld n x.cells) (sym new) old))

    held-born : x.born.serial ≡ b.serial → (c : Block) → is_handle (hs ++ b ∷ []) c ≡ is_held slots' c
    held-born born c = is_handle-append hs b c ∙ of (c.slot == b.slot) refl
      where
        of : (t : Bool) → (c.slot == b.slot) ≡ t → (is_handle hs c || is_same_block b c) ≡ is_held slots' c
        of true e =
            let at : c.slot ≡ b.slot = eqb-true c.slot b.slot e in
            rw (s.held c, at, vacant, there, born, eq-eqb b.slot b.slot refl) refl
        of false e =
            let away : c.slot ≢ b.slot = λ k. grind (arith, e, eq-eqb c.slot b.slot k) in
            rw (others c.slot away) (grind (arith, s.held c, same_slot b c, e, eq-eqb c.slot b.slot))

    pub sound-born : x.born.serial ≡ b.serial → AreOld births x.cells → (size room' : ℕ) → length lives + length hs + 2 ≤ room'
        → IsSound (hs ++ b ∷ []) slots' (lives ++ life.Birth size ∷ []) (births + 1) room'
    sound-born born old size room' roomy = record {
      rise = rise-append hs b s.rise (λ c k. omega (arith, new, s.below c k));
      below = λ c k. grind (arith, k, new, is_handle-append hs b c, s.below c, same_serial b c);
      held = held-born born;
      old = by_slot (λ n. AreHeldOld (births + 1) (in_slot slots' n)) b.slot (subst (AreHeldOld (births + 1)) (sym there) (olds-later births x.cells old)) (λ n k. subst (AreHeldOld (births + 1)) (sym (others n k)) (held-later births (in_slot slots n) (s.old n)));
      counted = grind (arith, s.counted, sum_by-append (λ l. cond (is_birth l) 1 0) lives (life.Birth size ∷ []));
      roomy = grind (arith, roomy, length-append lives (life.Birth size ∷ []), length-append hs (b ∷ []));
    }

-- ---- a store

module _ (hs : List Block) (slots slots' : Slots) (lives : List Life) (births room : ℕ) (s : IsSound hs slots lives births room)
    (b : Block) (alive : is_handle hs b ≡ true) (index : ℕ) (v : Value) (x : Held) (was : in_slot slots b.slot ≡ Some x)
    (there : in_slot slots' b.slot ≡ Some (with_cell x index v)) (others : (slot : ℕ) → slot ≢ b.slot → in_slot slots' slot ≡ in_slot slots slot)
  where
    pub sound-stored : IsOld births v → IsSound hs slots' lives births room
    sound-stored old = record {
      rise = s.rise;
      below = s.below;
      held = λ c. s.held c ∙ by_slot (λ n. holds_serial (in_slot slots n) c.serial ≡ holds_serial (in_slot slots' n) c.serial) b.slot (rw (was, there) refl) (λ n k. ap (λ o. holds_serial o c.serial) (sym (others n k))) c.slot;
      old = by_slot (λ n. AreHeldOld births (in_slot slots' n)) b.slot
          (subst (AreHeldOld births) (sym there) (olds-set births x.cells index v (subst (AreHeldOld births) was (s.old b.slot)) old))
          (λ n k. subst (AreHeldOld births) (sym (others n k)) (s.old n));
      counted = s.counted;
      roomy = s.roomy;
    }

-- ---- a death

pub left-length : (d : ℕ) (hs : List Block) → length (left_of d hs) ≤ length hs
unfolding left_of
left-length d [] = omega arith
left-length d (h ∷ hs) = of (h.serial == d) (left-length d hs)
  where
    of : (t : Bool) → length (left_of d hs) ≤ length hs → length (cond t (left_of d hs) (h ∷ left_of d hs)) ≤ suc (length hs)
    of true later = omega (arith, later)
    of false later = omega (arith, later)

pub left-shorter : (hs : List Block) (b : Block) → is_handle hs b ≡ true → length (left_of b.serial hs) < length hs
unfolding left_of is_handle
left-shorter [] b there = grind (arith, there)
left-shorter (h ∷ hs) b there = of (h.serial == b.serial) refl (left-shorter hs b)
  where
    of : (t : Bool) → (h.serial == b.serial) ≡ t → (is_handle hs b ≡ true → length (left_of b.serial hs) < length hs) → length (cond t (left_of b.serial hs) (h ∷ left_of b.serial hs)) < suc (length hs)
    of true e later = omega (arith, left-length b.serial hs)
    of false e later = omega (arith, later (behind h hs b e there))

pub handle-length : (hs : List Block) (b : Block) → is_handle hs b ≡ true → 0 < length hs
unfolding is_handle
handle-length [] b there = grind (arith, there)
handle-length (h ∷ hs) b there = omega arith

module _ (hs : List Block) (slots slots' : Slots) (lives : List Life) (births room : ℕ) (s : IsSound hs slots lives births room)
    (b : Block) (alive : is_handle hs b ≡ true)
    (gone : in_slot slots' b.slot ≡ None) (others : (slot : ℕ) → slot ≢ b.slot → in_slot slots' slot ≡ in_slot slots slot)
  where
    pub blocks-died : blocks_of (left_of b.serial hs) slots' (left_of b.serial hs) ≡ killed b.serial (blocks_of hs slots hs)
    blocks-died = blocks-left b.serial hs slots slots' hs (λ h k. sym (s.held h) ∙ k)
        (λ h k differ. others h.slot (apart slots h b (sym (s.held h) ∙ k) (sym (s.held b) ∙ alive) differ))

    held-died : (c : Block) → is_handle (left_of b.serial hs) c ≡ is_held slots' c
    held-died c = is_handle-left b.serial hs c ∙ of (c.slot == b.slot) (c.serial == b.serial) (is_handle hs c) refl refl refl
      where
        of : (t u w : Bool) → (c.slot == b.slot) ≡ t → (c.serial == b.serial) ≡ u → is_handle hs c ≡ w → (w && not u) ≡ is_held slots' c
        of true true true e f k = rw (eqb-true c.slot b.slot e, gone) refl
        of true u false e f k = rw (eqb-true c.slot b.slot e, gone) refl
        of true false true e f k = absurd (apart slots c b (sym (s.held c) ∙ k) (sym (s.held b) ∙ alive) (λ same. grind (arith, f, eq-eqb c.serial b.serial same)) (eqb-true c.slot b.slot e))
        of false true true e f k = absurd (grind (arith, e, eq-eqb c.slot b.slot (one_slot hs s.rise c b k alive (eqb-true c.serial b.serial f))))
        of false false true e f k = rw (others c.slot (λ same. grind (arith, e, eq-eqb c.slot b.slot same))) (sym k ∙ s.held c)
        of false u false e f k = rw (others c.slot (λ same. grind (arith, e, eq-eqb c.slot b.slot same))) (sym k ∙ s.held c)

    pub sound-died : IsSound (left_of b.serial hs) slots' (lives ++ life.Death b.serial ∷ []) births room
    sound-died = record {
      rise = rise-left b.serial hs s.rise;
      below = λ c k. s.below c (grind (arith, k, is_handle-left b.serial hs c));
      held = held-died;
      old = by_slot (λ n. AreHeldOld births (in_slot slots' n)) b.slot (subst (AreHeldOld births) (sym gone) tt) (λ n k. subst (AreHeldOld births) (sym (others n k)) (s.old n));
      counted = grind (arith, s.counted, sum_by-append (λ l. cond (is_birth l) 1 0) lives (life.Death b.serial ∷ []));
      roomy = grind (arith, s.roomy, left-shorter hs b alive, length-append lives (life.Death b.serial ∷ []));
    }

-- ---- the cells of a handle's block

-- a slot that holds a block holds something
pub with_held : {R : Type 0} (o : Option Held) (serial : ℕ) → holds_serial o serial ≡ true → ((x : Held) → o ≡ Some x → R) → R
with_held None serial h goal = absurd (grind (arith, h))
with_held (Some x) serial h goal = goal x refl

pub index-inside : (f : Value → Wire) (vs : List Value) (i : ℕ) → IsSome (slice_get (map f vs) i) → i < length vs
index-inside f [] i h = absurd (grind (arith, h))
index-inside f (v ∷ vs) zero h = omega arith
index-inside f (v ∷ vs) (suc i) h = omega (arith, index-inside f vs i h)

pub index-value : (f : Value → Wire) (vs : List Value) (i : ℕ) (d : Value) → i < length vs → slice_get (map f vs) i ≡ Some (f (slice_index_or vs i d))
index-value f [] i d l = grind arith
index-value f (v ∷ vs) zero d l = refl
index-value f (v ∷ vs) (suc i) d l = index-value f vs i d (omega arith)

module _ (hs : List Block) (slots : Slots) (lives : List Life) (births room : ℕ) (s : IsSound hs slots lives births room)
    (b : Block) (alive : is_handle hs b ≡ true) (x : Held) (was : in_slot slots b.slot ≡ Some x)
  where
    pub cells-of : (index : ℕ) → cell_at (blocks_of hs slots hs) (cell_in b index) ≡ slice_get (map (wire_in hs) x.cells) index
    cells-of index = cell_at-block hs slots hs b index s.rise (λ h k. sym (s.held h) ∙ k) alive ∙ ap (λ o. slice_get (shown hs o).cells index) was

    pub cell-inside : (index : ℕ) → IsSome (cell_at (blocks_of hs slots hs) (cell_in b index)) → index < length x.cells
    cell-inside index h = index-inside (wire_in hs) x.cells index (subst IsSome (cells-of index) h)

    pub cell-value : (index : ℕ) (d : Value) → index < length x.cells → cell_at (blocks_of hs slots hs) (cell_in b index) ≡ Some (wire_in hs (slice_index_or x.cells index d))
    cell-value index d l = cells-of index ∙ index-value (wire_in hs) x.cells index d l

    pub born-value : born_at (blocks_of hs slots hs) b.serial ≡ Some x.born
    born-value = born_at-block hs slots hs b s.rise (λ h k. sym (s.held h) ∙ k) alive ∙ ap (λ o. Some (shown hs o).born) was

-- ---- no block

pub sound-empty : (room : ℕ) → IsSound [] [] [] 0 room
unfolding is_handle
sound-empty room = record {
  rise = tt;
  below = λ b k. grind (arith, k);
  held = λ b. refl;
  old = λ n. tt;
  counted = refl;
  roomy = omega arith;
}

pub blocks-none : (alive : List Block) (slots : Slots) → blocks_of alive slots [] ≡ []
unfolding blocks_of
blocks-none alive slots = refl
