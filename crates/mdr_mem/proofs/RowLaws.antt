-- Laws of blocks in their slots.
use Rattle.std.proofs.Common.{◌≡◌, ◌≢◌, ℕ, zero, suc, Bool, true, false, cond, List, [], ◌∷◌, ◌++◌, map, Option, Some, None, refl, sym, ◌∙◌, ap, subst, arith}
use Rattle.std.specs.Prelude.{◌==◌, length, option_map, slice_get, slice_set}
use Rattle.std.proofs.lemmas.Bool.{eqb-true, eq-eqb}
use Rattle.std.proofs.lemmas.List.{map-set}
use Rattle.mdr_core.specs.declared.value.Block.{Block}
use Rattle.mdr_core.specs.declared.value.Value.{Value}
use Rattle.mdr_meaning.specs.declared.wire.Wire.{Wire}
use Rattle.mdr_model.specs.declared.message.New.{New}
use Rattle.mdr_model.specs.declared.memory.MemoryBlock.{MemoryBlock}
use Rattle.mdr_model.specs.Memory.{born_at, cell_at, put, killed, swept_block}
use Rattle.mdr_mem.specs.declared.rows.Held.{Held}
use Rattle.mdr_mem.specs.Contents.{is_handle, left_of, wire_in, cell_in}
use Rattle.mdr_mem.specs.Rows.{Slots, in_slot, shown, blocks_of, holds_serial, is_held, Rise, AreHeldOld, with_cell}
use Rattle.mdr_mem.proofs.HandleLaws.{one_slot, wires-append, wires-left}

-- the handle that stands first is one of the list, and so is each that stands in the rest
pub first_is : (h : Block) (hs : List Block) → is_handle (h ∷ hs) h ≡ true
unfolding is_handle
first_is h hs = grind (arith, eq-eqb h.slot h.slot refl, eq-eqb h.serial h.serial refl)

pub later_is : (h : Block) (hs : List Block) (c : Block) → is_handle hs c ≡ true → is_handle (h ∷ hs) c ≡ true
unfolding is_handle
later_is h hs c k = grind (arith, k)

-- ---- blocks that are shown alike

pub blocks-moved : (alive alive' : List Block) (slots slots' : Slots) (hs : List Block)
    → ((h : Block) → is_handle hs h ≡ true → shown alive' (in_slot slots' h.slot) ≡ shown alive (in_slot slots h.slot))
    → blocks_of alive' slots' hs ≡ blocks_of alive slots hs
unfolding blocks_of
blocks-moved alive alive' slots slots' [] same = refl
blocks-moved alive alive' slots slots' (h ∷ hs) same =
    λ i. same h (first_is h hs) i ∷ blocks-moved alive alive' slots slots' hs (λ c k. same c (later_is h hs c k)) i

pub blocks-append : (alive : List Block) (slots : Slots) (hs : List Block) (b : Block)
    → blocks_of alive slots (hs ++ b ∷ []) ≡ blocks_of alive slots hs ++ shown alive (in_slot slots b.slot) ∷ []
unfolding blocks_of
blocks-append alive slots [] b = refl
blocks-append alive slots (h ∷ hs) b = ap (λ m. shown alive (in_slot slots h.slot) ∷ m) (blocks-append alive slots hs b)

pub blocks-length : (alive : List Block) (slots : Slots) (hs : List Block) → length (blocks_of alive slots hs) ≡ length hs
unfolding blocks_of
blocks-length alive slots [] = refl
blocks-length alive slots (h ∷ hs) = ap suc (blocks-length alive slots hs)

-- a block whose slot holds it was born with the handle's serial
pub shown-serial : (alive : List Block) (o : Option Held) (serial : ℕ) → holds_serial o serial ≡ true → (shown alive o).born.serial ≡ serial
shown-serial alive None serial h = grind (arith, h)
shown-serial alive (Some x) serial h = eqb-true x.born.serial serial h

-- two handles whose slots hold them lie apart where their serials differ
pub apart : (slots : Slots) (a b : Block) → is_held slots a ≡ true → is_held slots b ≡ true → a.serial ≢ b.serial → a.slot ≢ b.slot
apart slots a b ha hb differ e =
    differ (sym (shown-serial [] (in_slot slots a.slot) a.serial ha) ∙ ap (λ n. (shown [] (in_slot slots n)).born.serial) e ∙ shown-serial [] (in_slot slots b.slot) b.serial hb)

-- ---- a birth

pub shown-born : (hs : List Block) (b : Block) (o : Option Held) → AreHeldOld b.serial o → shown (hs ++ b ∷ []) o ≡ shown hs o
shown-born hs b None old = refl
shown-born hs b (Some x) old = ap (λ ws. record { born = x.born; cells = ws }) (wires-append hs b x.cells old)

-- ---- a death

pub shown-left : (d : ℕ) (hs : List Block) (o : Option Held) → shown (left_of d hs) o ≡ swept_block d (shown hs o)
shown-left d hs None = refl
shown-left d hs (Some x) = ap (λ ws. record { born = x.born; cells = ws }) (wires-left d hs x.cells)

pub blocks-left : (d : ℕ) (alive : List Block) (slots slots' : Slots) (hs : List Block)
    → ((h : Block) → is_handle hs h ≡ true → is_held slots h ≡ true)
    → ((h : Block) → is_handle hs h ≡ true → h.serial ≢ d → in_slot slots' h.slot ≡ in_slot slots h.slot)
    → blocks_of (left_of d alive) slots' (left_of d hs) ≡ killed d (blocks_of alive slots hs)
unfolding blocks_of left_of killed
blocks-left d alive slots slots' [] held same = refl
blocks-left d alive slots slots' (h ∷ hs) held same =
    of (h.serial == d) refl (blocks-left d alive slots slots' hs (λ c k. held c (later_is h hs c k)) (λ c k. same c (later_is h hs c k)))
  where
    serial : (shown alive (in_slot slots h.slot)).born.serial ≡ h.serial
    serial = shown-serial alive (in_slot slots h.slot) h.serial (held h (first_is h hs))

    of : (t : Bool) → (h.serial == d) ≡ t → blocks_of (left_of d alive) slots' (left_of d hs) ≡ killed d (blocks_of alive slots hs)
        → blocks_of (left_of d alive) slots' (cond t (left_of d hs) (h ∷ left_of d hs))
        ≡ cond ((shown alive (in_slot slots h.slot)).born.serial == d) (killed d (blocks_of alive slots hs)) (swept_block d (shown alive (in_slot slots h.slot)) ∷ killed d (blocks_of alive slots hs))
    of true e later = rw (serial, e) later
    of false e later = rw (serial, e) (λ i. (ap (shown (left_of d alive)) (same h (first_is h hs) (λ k. grind (arith, e, eq-eqb h.serial d k))) ∙ shown-left d alive (in_slot slots h.slot)) i ∷ later i)

-- ---- the block of a handle

-- it is not the first handle, so it is one of the rest
pub behind : (h : Block) (hs : List Block) (b : Block) → (h.serial == b.serial) ≡ false → is_handle (h ∷ hs) b ≡ true → is_handle hs b ≡ true
unfolding is_handle
behind h hs b e k = grind (arith, e, k)

pub cell_at-block : (alive : List Block) (slots : Slots) (hs : List Block) (b : Block) (index : ℕ)
    → Rise hs → ((h : Block) → is_handle hs h ≡ true → is_held slots h ≡ true) → is_handle hs b ≡ true
    → cell_at (blocks_of alive slots hs) (cell_in b index) ≡ slice_get (shown alive (in_slot slots b.slot)).cells index
unfolding blocks_of cell_at is_handle
cell_at-block alive slots [] b index rise held there = grind (arith, there)
cell_at-block alive slots (h ∷ hs) b index rise held there =
    of (h.serial == b.serial) refl (λ k. cell_at-block alive slots hs b index rise.1 (λ c j. held c (later_is h hs c j)) k)
  where
    serial : (shown alive (in_slot slots h.slot)).born.serial ≡ h.serial
    serial = shown-serial alive (in_slot slots h.slot) h.serial (held h (first_is h hs))

    of : (t : Bool) → (h.serial == b.serial) ≡ t
        → (is_handle hs b ≡ true → cell_at (blocks_of alive slots hs) (cell_in b index) ≡ slice_get (shown alive (in_slot slots b.slot)).cells index)
        → cond ((shown alive (in_slot slots h.slot)).born.serial == b.serial) (slice_get (shown alive (in_slot slots h.slot)).cells index) (cell_at (blocks_of alive slots hs) (cell_in b index))
        ≡ slice_get (shown alive (in_slot slots b.slot)).cells index
    of true e later = rw (serial, e) (ap (λ n. slice_get (shown alive (in_slot slots n)).cells index) (one_slot (h ∷ hs) rise h b (first_is h hs) there (eqb-true h.serial b.serial e)))
    of false e later = rw (serial, e) (later (behind h hs b e there))

pub born_at-block : (alive : List Block) (slots : Slots) (hs : List Block) (b : Block)
    → Rise hs → ((h : Block) → is_handle hs h ≡ true → is_held slots h ≡ true) → is_handle hs b ≡ true
    → born_at (blocks_of alive slots hs) b.serial ≡ Some (shown alive (in_slot slots b.slot)).born
unfolding blocks_of born_at is_handle
born_at-block alive slots [] b rise held there = grind (arith, there)
born_at-block alive slots (h ∷ hs) b rise held there =
    of (h.serial == b.serial) refl (λ k. born_at-block alive slots hs b rise.1 (λ c j. held c (later_is h hs c j)) k)
  where
    serial : (shown alive (in_slot slots h.slot)).born.serial ≡ h.serial
    serial = shown-serial alive (in_slot slots h.slot) h.serial (held h (first_is h hs))

    of : (t : Bool) → (h.serial == b.serial) ≡ t
        → (is_handle hs b ≡ true → born_at (blocks_of alive slots hs) b.serial ≡ Some (shown alive (in_slot slots b.slot)).born)
        → cond ((shown alive (in_slot slots h.slot)).born.serial == b.serial) (Some (shown alive (in_slot slots h.slot)).born) (born_at (blocks_of alive slots hs) b.serial)
        ≡ Some (shown alive (in_slot slots b.slot)).born
    of true e later = rw (serial, e) (ap (λ n. Some (shown alive (in_slot slots n)).born) (one_slot (h ∷ hs) rise h b (first_is h hs) there (eqb-true h.serial b.serial e)))
    of false e later = rw (serial, e) (later (behind h hs b e there))

-- ---- a store

pub shown-stored : (alive : List Block) (x : Held) (index : ℕ) (v : Value)
    → shown alive (Some (with_cell x index v)) ≡ record { born = x.born; cells = slice_set (shown alive (Some x)).cells index (wire_in alive v) }
shown-stored alive x index v = ap (λ ws. record { born = x.born; cells = ws }) (map-set (wire_in alive) x.cells index v)

pub blocks-stored : (alive : List Block) (slots slots' : Slots) (hs : List Block) (b : Block) (x : Held) (index : ℕ) (v : Value)
    → Rise hs → ((h : Block) → is_handle hs h ≡ true → is_held slots h ≡ true) → is_handle hs b ≡ true
    → in_slot slots b.slot ≡ Some x → in_slot slots' b.slot ≡ Some (with_cell x index v)
    → ((slot : ℕ) → slot ≢ b.slot → in_slot slots' slot ≡ in_slot slots slot)
    → blocks_of alive slots' hs ≡ put (blocks_of alive slots hs) (cell_in b index) (wire_in alive v)
unfolding blocks_of put is_handle
blocks-stored alive slots slots' [] b x index v rise held there was now others = grind (arith, there)
blocks-stored alive slots slots' (h ∷ hs) b x index v rise held there was now others =
    of (h.serial == b.serial) refl (λ k. blocks-stored alive slots slots' hs b x index v rise.1 (λ c j. held c (later_is h hs c j)) k was now others)
  where
    serial : (shown alive (in_slot slots h.slot)).born.serial ≡ h.serial
    serial = shown-serial alive (in_slot slots h.slot) h.serial (held h (first_is h hs))

    rest : h.serial ≡ b.serial → h.slot ≡ b.slot → blocks_of alive slots' hs ≡ blocks_of alive slots hs
    rest e at = blocks-moved alive alive slots slots' hs (λ c k. ap (shown alive) (others c.slot (λ same. apart slots c h (held c (later_is h hs c k)) (held h (first_is h hs)) (λ f. omega (arith, f, rise.0 c k)) (same ∙ sym at))))

    one : h.slot ≡ b.slot → shown alive (in_slot slots' h.slot) ≡ record { born = (shown alive (in_slot slots h.slot)).born; cells = slice_set (shown alive (in_slot slots h.slot)).cells index (wire_in alive v) }
    one at = rw (at, now, was) (shown-stored alive x index v)

    of : (t : Bool) → (h.serial == b.serial) ≡ t
        → (is_handle hs b ≡ true → blocks_of alive slots' hs ≡ put (blocks_of alive slots hs) (cell_in b index) (wire_in alive v))
        → shown alive (in_slot slots' h.slot) ∷ blocks_of alive slots' hs
        ≡ cond ((shown alive (in_slot slots h.slot)).born.serial == b.serial)
        (record { born = (shown alive (in_slot slots h.slot)).born; cells = slice_set (shown alive (in_slot slots h.slot)).cells index (wire_in alive v) } ∷ blocks_of alive slots hs)
        (shown alive (in_slot slots h.slot) ∷ put (blocks_of alive slots hs) (cell_in b index) (wire_in alive v))
    of true e later =
        let f : h.serial ≡ b.serial = eqb-true h.serial b.serial e in
        let at : h.slot ≡ b.slot = one_slot (h ∷ hs) rise h b (first_is h hs) there f in
        rw (serial, e) (λ i. one at i ∷ rest f at i)
    of false e later =
        let k : is_handle hs b ≡ true = behind h hs b e there in
        rw (serial, e) (λ i. ap (shown alive) (others h.slot (apart slots h b (held h (first_is h hs)) (held b there) (λ f. grind (arith, e, eq-eqb h.serial b.serial f)))) i ∷ later k i)

-- ---- the block at a place

pub handle-place : (hs : List Block) (place : ℕ) (b : Block) → slice_get hs place ≡ Some b → is_handle hs b ≡ true
handle-place [] place b e = absurd cc
handle-place (h ∷ hs) zero b e = let same : h ≡ b = cc in subst (λ x. is_handle (h ∷ hs) x ≡ true) same (first_is h hs)
handle-place (h ∷ hs) (suc place) b e = later_is h hs b (handle-place hs place b e)

abbrev pub cells_in : MemoryBlock → List Wire
cells_in b = b.cells

pub cells-place : (alive : List Block) (slots : Slots) (hs : List Block) (place : ℕ) (b : Block) (x : Held) (vs : List Value)
    → slice_get hs place ≡ Some b → in_slot slots b.slot ≡ Some x → vs ≡ x.cells
    → option_map cells_in (slice_get (blocks_of alive slots hs) place) ≡ Some (map (wire_in alive) vs)
unfolding blocks_of
cells-place alive slots [] place b x vs e was is = absurd cc
cells-place alive slots (h ∷ hs) zero b x vs e was is =
    let same : h ≡ b = cc in
    ap (λ (g : Block). Some (shown alive (in_slot slots g.slot)).cells) same ∙ ap (λ o. Some (shown alive o).cells) was ∙ ap (λ ws. Some (map (wire_in alive) ws)) (sym is)
cells-place alive slots (h ∷ hs) (suc place) b x vs e was is = cells-place alive slots hs place b x vs e was is

pub no-place : (alive : List Block) (slots : Slots) (hs : List Block) (place : ℕ) → slice_get hs place ≡ None
    → option_map cells_in (slice_get (blocks_of alive slots hs) place) ≡ None
unfolding blocks_of
no-place alive slots [] place e = refl
no-place alive slots (h ∷ hs) zero e = absurd cc
no-place alive slots (h ∷ hs) (suc place) e = no-place alive slots hs place e

abbrev pub born_in : MemoryBlock → New
born_in b = b.born

pub born-place : (alive : List Block) (slots : Slots) (hs : List Block) (place : ℕ) (b : Block) (x : Held)
    → slice_get hs place ≡ Some b → in_slot slots b.slot ≡ Some x
    → option_map born_in (slice_get (blocks_of alive slots hs) place) ≡ Some x.born
unfolding blocks_of
born-place alive slots [] place b x e was = absurd cc
born-place alive slots (h ∷ hs) zero b x e was =
    let same : h ≡ b = cc in
    ap (λ (g : Block). Some (shown alive (in_slot slots g.slot)).born) same ∙ ap (λ o. Some (shown alive o).born) was
born-place alive slots (h ∷ hs) (suc place) b x e was = born-place alive slots hs place b x e was

pub no-born : (alive : List Block) (slots : Slots) (hs : List Block) (place : ℕ) → slice_get hs place ≡ None
    → option_map born_in (slice_get (blocks_of alive slots hs) place) ≡ None
unfolding blocks_of
no-born alive slots [] place e = refl
no-born alive slots (h ∷ hs) zero e = absurd cc
no-born alive slots (h ∷ hs) (suc place) e = no-born alive slots hs place e
