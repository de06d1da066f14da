-- Blocks of a memory by their serials.
use Rattle.std.proofs.Common.{◌≡◌, ℕ, suc, Bool, true, false, cond, ◌&&◌, ◌||◌, List, [], ◌∷◌, map, Option, Some, None, refl, sym, ◌∙◌, ap, arith}
use Rattle.std.specs.Prelude.{◌==◌, is_some, option_map, slice_get, ◌<◌}
use Rattle.std.specs.List.{list_any}
use Rattle.std.proofs.lemmas.Bool.{eqb-true}
use Rattle.mdr_core.specs.declared.types.Shape.{Shape}
use Rattle.mdr_core.specs.declared.value.Block.{Block}
use Rattle.mdr_core.specs.declared.value.Value.{Value}
use Rattle.mdr_core.specs.declared.value.Value.TheVariants as value
use Rattle.mdr_core.specs.Layout.{chosen}
use Rattle.mdr_mem.specs.Contents.{cell_in, current, is_handle, kind_of, shape_of, wire_in}
use Rattle.mdr_meaning.specs.Values.{wire_of}
use Rattle.mdr_meaning.specs.declared.wire.Wire.{Wire}
use Rattle.mdr_model.specs.declared.memory.Cell.{Cell}
use Rattle.mdr_model.specs.declared.memory.MemoryBlock.{MemoryBlock}
use Rattle.mdr_model.specs.declared.message.BirthKind.{BirthKind}
use Rattle.mdr_model.specs.declared.message.New.{New}
use Rattle.mdr_model.specs.Agreement.{SerialsRise, names_it}
use Rattle.mdr_model.specs.Memory.{Memory, born_at, cell_at, is_live, killed, swept}
use Rattle.mdr_model.proofs.LifeLaws.{born_at-killed, cell_at-killed, rises-killed}
use Rattle.mdr_model.proofs.MemoryLaws.{same_memory}
use Rattle.mdr_plain.specs.Locks.{has_held, is_held, is_locked}
use Rattle.mdr_plain.specs.Scripts.{block_cells}

-- ---- how a block was born

pub born-serial : (m : Memory) (serial : ℕ) (n : New) → born_at m serial ≡ Some n → n.serial ≡ serial
unfolding born_at
born-serial [] serial n e = absurd cc
born-serial (b ∷ m) serial n e = of (b.born.serial == serial) refl e (born-serial m serial n)
  where
    of : (t : Bool) → (b.born.serial == serial) ≡ t → cond t (Some b.born) (born_at m serial) ≡ Some n → (born_at m serial ≡ Some n → n.serial ≡ serial) → n.serial ≡ serial
    of true f k later = let same : b.born ≡ n = cc in ap (λ (x : New). x.serial) (sym same) ∙ eqb-true b.born.serial serial f
    of false f k later = later k

pub born-is : (m : Memory) (serial : ℕ) (kind : BirthKind) (shape : Shape) → shape_of (born_at m serial) ≡ Some shape → kind_of (born_at m serial) ≡ Some kind
    → born_at m serial ≡ Some (record { serial = serial; kind = kind; ty = shape.ty; count = shape.count })
born-is m serial kind shape = of (born_at m serial) refl
  where
    of : (o : Option New) → born_at m serial ≡ o → shape_of o ≡ Some shape → kind_of o ≡ Some kind → o ≡ Some (record { serial = serial; kind = kind; ty = shape.ty; count = shape.count })
    of None e s k = absurd cc
    of (Some n) e s k =
        let shaped : ◌≡◌ {A = Shape} (record { ty = n.ty; count = n.count }) shape = cc in
        let of_kind : n.kind ≡ kind = cc in
        λ i. Some (record { serial = born-serial m serial n e i; kind = of_kind i; ty = (shaped i).ty; count = (shaped i).count })

pub none-born : (m : Memory) (serial : ℕ) → is_live m serial ≡ false → born_at m serial ≡ None
unfolding is_live
none-born m serial = of (born_at m serial)
  where
    of : (o : Option New) → is_some o ≡ false → o ≡ None
    of None e = refl
    of (Some n) e = absurd cc

-- the rest of a memory has no block with the serial of its first one
pub none-behind : (b : MemoryBlock) (m : Memory) → SerialsRise (b ∷ m) → is_live m b.born.serial ≡ false
none-behind b m rises = of (is_live m b.born.serial) refl
  where
    of : (t : Bool) → is_live m b.born.serial ≡ t → t ≡ false
    of true e = absurd (let less : b.born.serial < b.born.serial = rises.0 b.born.serial e in omega (arith, less))
    of false e = refl

-- ---- a block's cells

pub cells-at : (m : Memory) (serial index : ℕ) → cell_at m (record { serial = serial; index = index }) ≡ slice_get (block_cells m serial) index
unfolding cell_at block_cells
cells-at [] serial index = refl
cells-at (b ∷ m) serial index = of (b.born.serial == serial) (cells-at m serial index)
  where
    of : (t : Bool) → cell_at m (record { serial = serial; index = index }) ≡ slice_get (block_cells m serial) index
        → cond t (slice_get b.cells index) (cell_at m (record { serial = serial; index = index })) ≡ slice_get (chosen t b.cells (block_cells m serial)) index
    of true later = refl
    of false later = later

none-some : {A : Type 0} (y : A) → ◌≡◌ {A = Option A} None (Some y) → ⊥
none-some y k = absurd cc

some-none : {A : Type 0} (x : A) → ◌≡◌ {A = Option A} (Some x) None → ⊥
some-none x k = absurd cc

some-some : {A : Type 0} (x y : A) → ◌≡◌ {A = Option A} (Some x) (Some y) → x ≡ y
some-some x y k = cc

pub same_items : {A : Type 0} (xs ys : List A) → ((i : ℕ) → slice_get xs i ≡ slice_get ys i) → xs ≡ ys
same_items [] [] e = refl
same_items [] (y ∷ ys) e = absurd (none-some y (e 0))
same_items (x ∷ xs) [] e = absurd (some-none x (e 0))
same_items (x ∷ xs) (y ∷ ys) e = λ i. some-some x y (e 0) i ∷ same_items xs ys (λ n. e (suc n)) i

pub cells-are : (m : Memory) (b : Block) (hs : List Block) (vs : List Value) → ((index : ℕ) → cell_at m (cell_in b index) ≡ slice_get (map (wire_in hs) vs) index)
    → map (wire_in hs) vs ≡ block_cells m b.serial
cells-are m b hs vs e = same_items _ _ (λ i. sym (e i) ∙ cells-at m b.serial i)

pub current-wires : (hs : List Block) (vs : List Value) → map wire_of (map (current hs) vs) ≡ map (wire_in hs) vs
current-wires hs [] = refl
current-wires hs (v ∷ vs) = ap (λ ws. wire_in hs v ∷ ws) (current-wires hs vs)

pub no-cells : (m : Memory) (serial : ℕ) → born_at m serial ≡ None → block_cells m serial ≡ []
unfolding born_at block_cells
no-cells [] serial e = refl
no-cells (b ∷ m) serial e = of (b.born.serial == serial) e (no-cells m serial)
  where
    of : (t : Bool) → cond t (Some b.born) (born_at m serial) ≡ None → (born_at m serial ≡ None → block_cells m serial ≡ []) → chosen t b.cells (block_cells m serial) ≡ []
    of true k later = absurd cc
    of false k later = later k

-- ---- locks

pub held-wire : (hs : List Block) (v : Value) → is_held (wire_in hs v) ≡ is_held (wire_of v)
unfolding current
held-wire hs (value.Ptr p) = of (is_handle hs p.block)
  where
    of : (t : Bool) → is_held (wire_of (cond t (value.Ptr p) value.Dead)) ≡ false
    of true = refl
    of false = refl
held-wire hs (value.Int k n) = refl
held-wire hs value.Null = refl
held-wire hs value.Dead = refl
held-wire hs (value.Fn f) = refl
held-wire hs (value.Lock s) = refl
held-wire hs value.NoValue = refl

pub held-wires : (hs : List Block) (vs : List Value) → list_any is_held (map (wire_in hs) vs) ≡ list_any (λ v. is_held (wire_of v)) vs
held-wires hs [] = refl
held-wires hs (v ∷ vs) = λ i. held-wire hs v i || held-wires hs vs i

pub none-locked : (m : Memory) (serial : ℕ) → born_at m serial ≡ None → is_locked serial m ≡ false
unfolding born_at is_locked
none-locked [] serial e = refl
none-locked (b ∷ m) serial e = of (b.born.serial == serial) e (none-locked m serial)
  where
    of : (t : Bool) → cond t (Some b.born) (born_at m serial) ≡ None → (born_at m serial ≡ None → is_locked serial m ≡ false) → ((t && has_held b) || is_locked serial m) ≡ false
    of true k later = absurd cc
    of false k later = later k

pub locked-is : (m : Memory) (serial : ℕ) → SerialsRise m → list_any is_held (block_cells m serial) ≡ is_locked serial m
unfolding block_cells is_locked
locked-is [] serial rises = refl
locked-is (b ∷ m) serial rises = of (b.born.serial == serial) refl (locked-is m serial rises.1)
  where
    rest : b.born.serial ≡ serial → is_locked serial m ≡ false
    rest e = none-locked m serial (ap (born_at m) (sym e) ∙ none-born m b.born.serial (none-behind b m rises))

    or-false : (x : Bool) → x ≡ (x || false)
    or-false true = refl
    or-false false = refl

    of : (t : Bool) → (b.born.serial == serial) ≡ t → list_any is_held (block_cells m serial) ≡ is_locked serial m
        → list_any is_held (chosen t b.cells (block_cells m serial)) ≡ ((t && has_held b) || is_locked serial m)
    of true e later = or-false (has_held b) ∙ ap (λ x. has_held b || x) (sym (rest (eqb-true b.born.serial serial e)))
    of false e later = later

-- ---- the death of a block that doesn't live

pub none-cell : (m : Memory) (c : Cell) → born_at m c.serial ≡ None → cell_at m c ≡ None
unfolding born_at cell_at
none-cell [] c e = refl
none-cell (b ∷ m) c e = of (b.born.serial == c.serial) e (none-cell m c)
  where
    of : (t : Bool) → cond t (Some b.born) (born_at m c.serial) ≡ None → (born_at m c.serial ≡ None → cell_at m c ≡ None) → cond t (slice_get b.cells c.index) (cell_at m c) ≡ None
    of true k later = absurd cc
    of false k later = later k

unswept : (d : ℕ) (o : Option Wire) → names_it d o ≡ false → option_map (swept d) o ≡ o
unfolding names_it
unswept d None e = refl
unswept d (Some v) e = rw e refl

pub kill-none : (d : ℕ) (m : Memory) → SerialsRise m → born_at m d ≡ None → ((c : Cell) → names_it d (cell_at m c) ≡ false) → killed d m ≡ m
kill-none d m rises none unnamed = same_memory (killed d m) m (rises-killed d m rises) rises (λ s. born_at-killed d m s ∙ births s (d == s) refl) (λ c. cell_at-killed d m c ∙ cells c (d == c.serial) refl)
  where
    births : (s : ℕ) (t : Bool) → (d == s) ≡ t → cond t None (born_at m s) ≡ born_at m s
    births s true e = sym none ∙ ap (born_at m) (eqb-true d s e)
    births s false e = refl

    cells : (c : Cell) (t : Bool) → (d == c.serial) ≡ t → cond t None (option_map (swept d) (cell_at m c)) ≡ cell_at m c
    cells c true e = sym (none-cell m c (ap (born_at m) (sym (eqb-true d c.serial e)) ∙ none))
    cells c false e = unswept d (cell_at m c) (unnamed c)
