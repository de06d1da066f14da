-- Live blocks, and which of their cells count.
use Rattle.std.proofs.Common.{◌≡◌, ℕ, zero, suc, ◌*◌, ◌/◌, ◌%◌, ◌<◌, ◌≤◌, Bool, true, false, cond, ◌⊎◌, inl, inr, List, [], ◌∷◌, ◌++◌, get_or, length, map, Option, Some, None, refl, sym, ◌∙◌, ap, subst, arith, le_refl, le_trans}
use Rattle.std.specs.Prelude.{◌&&◌, ◌==◌, MatchOption, is_some, slice_get}
use Rattle.std.specs.Option.{option_map}
use Rattle.std.proofs.lemmas.Bool.{cases_lt, eqb-true}
use Rattle.std.proofs.lemmas.List.{map-append}
use Rattle.std.proofs.lemmas.Nat.{div-add-mod', le-div, mod_below, mul-le}
use Rattle.std.proofs.lemmas.Option.{slice_get-map}
use Rattle.mdr_access.specs.KeyOrder.{keys}
use Rattle.mdr_core.specs.declared.plan.Key.{Key}
use Rattle.mdr_core.specs.declared.program.Program.{Program}
use Rattle.mdr_core.specs.declared.types.Shape.{Shape}
use Rattle.mdr_core.specs.declared.value.Block.{Block}
use Rattle.mdr_core.specs.declared.value.Value.{Value}
use Rattle.mdr_core.specs.Layout.{Alone, Home, Leaf, Within, cells_at, key_by, repeated}
use Rattle.mdr_core.proofs.Lying.{get-repeated, length-repeated}
use Rattle.mdr_extents.specs.Around.{global_of, key_of, offsets_of}
use Rattle.mdr_extents.specs.Extent.{has_key, is_touched}
use Rattle.mdr_extents.specs.Reaching.{counts, counts_in}
use Rattle.mdr_meaning.specs.declared.wire.Wire.{Wire}
use Rattle.mdr_meaning.specs.Values.{wire_of}
use Rattle.mdr_mem.specs.Contents.{Contents, IsInOrder, current, handle_of, is_handle, kind_of, shape_of, wire_in}
use Rattle.mdr_mem.proofs.RowLaws.{first_is, later_is}
use Rattle.mdr_model.specs.declared.message.BirthKind.{BirthKind}
use Rattle.mdr_model.specs.declared.message.New.{New}
use Rattle.mdr_model.specs.Memory.{Memory, born_at, cell_at, is_live, leaf_at, leaves_of}
use Rattle.mdr_paths.specs.Paths.{is_in}
use Rattle.mdr_reach.specs.declared.held.Held.{Held}
use Rattle.mdr_reach.specs.declared.rows.Around.{Around}
use Rattle.mdr_reach.specs.Spots.{IsRowOf, around_of}
use Rattle.mdr_reach.specs.Marks.{IsHeld, counts_at, is_around_touched}

-- ---- handles

pub handle_found : (hs : List Block) (serial : ℕ) (h : Block) → handle_of hs serial ≡ Some h → (is_handle hs h ≡ true) × (h.serial ≡ serial)
unfolding handle_of
handle_found [] serial h e = absurd cc
handle_found (g ∷ gs) serial h e = of (g.serial == serial) refl e (handle_found gs serial h)
  where
    of : (t : Bool) → (g.serial == serial) ≡ t → cond t (Some g) (handle_of gs serial) ≡ Some h
        → (handle_of gs serial ≡ Some h → (is_handle gs h ≡ true) × (h.serial ≡ serial))
        → (is_handle (g ∷ gs) h ≡ true) × (h.serial ≡ serial)
    of true f k later = let same : g ≡ h = cc in (subst (λ x. is_handle (g ∷ gs) x ≡ true) same (first_is g gs), ap (λ x. x.serial) (sym same) ∙ eqb-true g.serial serial f)
    of false f k later = (later_is g gs h (later k).0, (later k).1)

-- ---- how a block was born

pub born_serial : (m : Memory) (serial : ℕ) (n : New) → born_at m serial ≡ Some n → n.serial ≡ serial
unfolding born_at
born_serial [] serial n e = absurd cc
born_serial (b ∷ m) serial n e = of (b.born.serial == serial) refl e (born_serial m serial n)
  where
    of : (t : Bool) → (b.born.serial == serial) ≡ t → cond t (Some b.born) (born_at m serial) ≡ Some n → (born_at m serial ≡ Some n → n.serial ≡ serial) → n.serial ≡ serial
    of true f k later = let same : b.born ≡ n = cc in ap (λ (x : New). x.serial) (sym same) ∙ eqb-true b.born.serial serial f
    of false f k later = later k

pub born_is : (m : Memory) (serial : ℕ) (kind : BirthKind) (shape : Shape) → shape_of (born_at m serial) ≡ Some shape → kind_of (born_at m serial) ≡ Some kind
    → born_at m serial ≡ Some (record { serial = serial; kind = kind; ty = shape.ty; count = shape.count })
born_is m serial kind shape = of (born_at m serial) refl
  where
    of : (o : Option New) → born_at m serial ≡ o → shape_of o ≡ Some shape → kind_of o ≡ Some kind → o ≡ Some (record { serial = serial; kind = kind; ty = shape.ty; count = shape.count })
    of None e s k = absurd cc
    of (Some n) e s k =
        let shaped : ◌≡◌ {A = Shape} (record { ty = n.ty; count = n.count }) shape = cc in
        let of_kind : n.kind ≡ kind = cc in
        λ i. Some (record { serial = born_serial m serial n e i; kind = of_kind i; ty = (shaped i).ty; count = (shaped i).count })

pub none_born : (s : Contents) (serial : ℕ) → IsInOrder s → handle_of s.handles serial ≡ None → born_at s.memory serial ≡ None
unfolding is_live
none_born s serial order e = of (born_at s.memory serial) (order.handled serial ∙ ap is_some e)
  where
    of : (o : Option New) → is_some o ≡ false → o ≡ None
    of None f = refl
    of (Some n) f = absurd cc

-- a block is held as it was born
pub held_is : (program : Program) (touched : List Key) (s : Contents) (h : Held) (serial : ℕ) → born_at s.memory serial ≡ Some h.born → IsRowOf program touched h.born.ty h.row.now
    → h.alone ≡ is_in keys touched (key_by Alone (global_of program h.born) h.born.ty)
    → ((index : ℕ) → cell_at s.memory (record { serial = serial; index = index }) ≡ slice_get (map (wire_in s.handles) h.cells.now) index) → IsHeld program touched s h
held_is program touched s h serial born row alone at =
    let same : h.born.serial ≡ serial = born_serial s.memory serial h.born born in
    record {
      born = ap (born_at s.memory) same ∙ born;
      row = row;
      alone = alone;
      cells = λ index. ap (λ n. cell_at s.memory (record { serial = n; index = index })) same ∙ at index;
    }

-- ---- elements

get_past : {A : Type 0} (xs : List A) (k : ℕ) → length xs ≤ k → slice_get xs k ≡ None
get_past [] zero h = refl
get_past [] (suc k) h = refl
get_past (x ∷ xs) zero h = absurd (omega (arith, h))
get_past (x ∷ xs) (suc k) h = get_past xs k (omega (arith, h))

-- an index behind so many elements of a size
pub past_elements : {A : Type 0} (xs : List A) (n index size : ℕ) → size ≡ length xs → n ≤ index / size → None ≡ slice_get (repeated n xs) index
past_elements xs n index size e h = sym (get_past (repeated n xs) index (le_trans (le_of (length-repeated n xs ∙ ap (λ k. n * k) (sym e))) (le_trans (mul_le n (index / size) size h) (quotient index size))))
  where
    le_of : {a b : ℕ} → a ≡ b → a ≤ b
    le_of {a} {b} f = omega (arith, f)

    quotient : (i k : ℕ) → i / k * k ≤ i
    quotient i k = let all = div-add-mod' i k in omega (arith, all)

    mul_le : (a b k : ℕ) → a ≤ b → a * k ≤ b * k
    mul_le a b k f = mul-le a k b k f (le_refl k)

pub no_elements : {A : Type 0} (xs : List A) (n index size : ℕ) → size ≡ length xs → size ≡ 0 → None ≡ slice_get (repeated n xs) index
no_elements xs n index size e none = sym (get_past (repeated n xs) index (let all = length-repeated n xs in let zero_size : n * length xs ≡ 0 = ap (λ k. n * k) (sym e ∙ none) ∙ mul_zero n in omega (arith, all, zero_size)))
  where
    mul_zero : (k : ℕ) → k * 0 ≡ 0
    mul_zero k = omega arith

pub in_elements : {A : Type 0} (xs : List A) (n index size : ℕ) (x : A) → size ≡ length xs → (size ≡ 0 → ⊥) → (index / size) < n → Some x ≡ slice_get xs (index % size) → Some x ≡ slice_get (repeated n xs) index
in_elements xs n index size x e some h is =
    let inside : index < n * size = below index size n some h in
    is ∙ ap (λ k. slice_get xs (index % k)) e ∙ sym (get-repeated n xs index (subst (λ k. index < n * k) e inside))
  where
    below : (i k n : ℕ) → (k ≡ 0 → ⊥) → (i / k) < n → i < n * k
    below i k n some h = of (cases_lt i (n * k))
      where
        of : (i < n * k) ⊎ (n * k ≤ i) → i < n * k
        of (inl l) = l
        of (inr l) = absurd (let q = le-div n i k (omega (arith, some)) l in omega (arith, q, h))

-- ---- what stands around a cell

map_repeated : {A B : Type 0} (f : A → B) (n : ℕ) (xs : List A) → repeated n (map f xs) ≡ map f (repeated n xs)
unfolding repeated
map_repeated f zero xs = refl
map_repeated f (suc n) xs = ap (λ zs. map f xs ++ zs) (map_repeated f n xs) ∙ sym (map-append f xs (repeated n xs))

module _ (program : Program) (touched : List Key) (s : Contents) (h : Held) (held : IsHeld program touched s h) where
  pub around_is : (index : ℕ) (o : Option Around) (arounds : List Around) → arounds ≡ h.row.now.arounds → o ≡ slice_get (repeated h.born.count arounds) index
      → o ≡ option_map (λ (l : Leaf). around_of touched l.home) (leaf_at program h.born index)
  unfolding leaves_of
  around_is index o arounds same e =
      let f : Leaf → Around = λ (l : Leaf). around_of touched l.home in
      e ∙ ap (λ xs. slice_get (repeated h.born.count xs) index) (same ∙ held.row.arounds)
      ∙ ap (λ xs. slice_get xs index) (map_repeated f h.born.count (cells_at program h.born.ty))
      ∙ slice_get-map f (repeated h.born.count (cells_at program h.born.ty)) index

  pub offset_is : (index : ℕ) (o : Option ℕ) (offsets : List ℕ) → offsets ≡ h.row.now.offsets → o ≡ slice_get (repeated h.born.count offsets) index → o ≡ slice_get (offsets_of program h.born) index
  unfolding offsets_of
  offset_is index o offsets same e = e ∙ ap (λ xs. slice_get (repeated h.born.count xs) index) (same ∙ held.row.offsets)

  touched_by : (o : Option Leaf) → is_around_touched (option_map (λ (l : Leaf). around_of touched l.home) o) h.alone ≡ has_key touched (option_map (λ (l : Leaf). key_by l.home (global_of program h.born) h.born.ty) o)
  touched_by None = refl
  touched_by (Some l) = of l.home
    where
      of : (home : Home) → is_around_touched (Some (around_of touched home)) h.alone ≡ is_in keys touched (key_by home (global_of program h.born) h.born.ty)
      of Alone = held.alone
      of (Within t f) = refl

  pub touched_is : (index : ℕ) (t : Bool) (o : Option Around) → t ≡ is_around_touched o h.alone → o ≡ option_map (λ (l : Leaf). around_of touched l.home) (leaf_at program h.born index)
      → t ≡ is_touched program touched h.born index
  unfolding is_touched key_of
  touched_is index t o e is = e ∙ ap (λ a. is_around_touched a h.alone) is ∙ touched_by (leaf_at program h.born index)

  -- ---- cells that count

  is_there : (vs : List Value) (f : Value → Wire) (index : ℕ) → index < length vs → is_some (slice_get (map f vs) index) ≡ true
  is_there [] f index l = absurd (omega (arith, l))
  is_there (v ∷ vs) f zero l = refl
  is_there (v ∷ vs) f (suc index) l = is_there vs f index (omega (arith, l))

  isnt_there : (vs : List Value) (f : Value → Wire) (index : ℕ) → length vs ≤ index → is_some (slice_get (map f vs) index) ≡ false
  isnt_there [] f zero l = refl
  isnt_there [] f (suc index) l = refl
  isnt_there (v ∷ vs) f zero l = absurd (omega (arith, l))
  isnt_there (v ∷ vs) f (suc index) l = isnt_there vs f index (omega (arith, l))

  counts_born : (index : ℕ) → counts program touched s.memory (record { serial = h.born.serial; index = index }) ≡ is_touched program touched h.born index
  counts_born index = ap (counts_in program touched s.memory index) held.born

  pub counts_there : (index : ℕ) (t : Bool) → index < length h.cells.now → t ≡ is_touched program touched h.born index
      → t ≡ counts_at program touched s.memory (record { serial = h.born.serial; index = index })
  counts_there index t l e =
      e ∙ sym ((λ i. there i && counts_born index i))
    where
      there : is_some (cell_at s.memory (record { serial = h.born.serial; index = index })) ≡ true
      there = ap is_some (held.cells index) ∙ is_there h.cells.now (wire_in s.handles) index l

  pub counts_nowhere : (index : ℕ) → length h.cells.now ≤ index → false ≡ counts_at program touched s.memory (record { serial = h.born.serial; index = index })
  counts_nowhere index l = sym (ap (λ b. b && counts program touched s.memory (record { serial = h.born.serial; index = index })) (ap is_some (held.cells index) ∙ isnt_there h.cells.now (wire_in s.handles) index l))

  -- ---- what a cell holds

  pub value_there : (index : ℕ) (v w : Value) → Some v ≡ slice_get h.cells.now index → w ≡ current s.handles v
      → option_map wire_of (Some w) ≡ cell_at s.memory (record { serial = h.born.serial; index = index })
  value_there index v w e is =
      ap (λ x. Some (wire_of x)) is ∙ ap (option_map (wire_in s.handles)) e ∙ sym (held.cells index ∙ slice_get-map (wire_in s.handles) h.cells.now index)

  pub value_nowhere : (index : ℕ) → None ≡ slice_get h.cells.now index → None ≡ cell_at s.memory (record { serial = h.born.serial; index = index })
  value_nowhere index e = ap (option_map (wire_in s.handles)) e ∙ sym (held.cells index ∙ slice_get-map (wire_in s.handles) h.cells.now index)

pub item_is : {A : Type 0} (xs : List A) (k : ℕ) (x : A) → k < length xs → x ≡ get_or xs k x → Some x ≡ slice_get xs k
item_is [] k x l e = absurd (omega (arith, l))
item_is (y ∷ xs) zero x l e = ap (λ z. Some z) e
item_is (y ∷ xs) (suc k) x l e = item_is xs k x (omega (arith, l)) e

-- an index that is left over by the size
pub left_below : (index size : ℕ) → (size ≡ 0 → ⊥) → (index % size) < size
left_below index size some = mod_below index size (omega (arith, some))

-- ---- a block that is looked for

module _ (program : Program) (touched : List Key) (s : Contents) (serial : ℕ) where
  pub held_some : (o : Option Held) (h : Held) → o ≡ Some h → MatchOption o (born_at s.memory serial ≡ None) (λ x. IsHeld program touched s x) → IsHeld program touched s h
  held_some o h e k = subst (λ x. MatchOption x (born_at s.memory serial ≡ None) (λ y. IsHeld program touched s y)) e k

  pub serial_some : (o : Option Held) (h : Held) → o ≡ Some h → MatchOption o (Unit {0}) (λ x. x.born.serial ≡ serial) → h.born.serial ≡ serial
  serial_some o h e k = subst (λ x. MatchOption x (Unit {0}) (λ y. y.born.serial ≡ serial)) e k

  pub held_none : (o : Option Held) → o ≡ None → MatchOption o (born_at s.memory serial ≡ None) (λ x. IsHeld program touched s x) → born_at s.memory serial ≡ None
  held_none o e k = subst (λ x. MatchOption x (born_at s.memory serial ≡ None) (λ y. IsHeld program touched s y)) e k

  -- what was looked up last
  pub last_of : (o : Option Held) → MatchOption o (born_at s.memory serial ≡ None) (λ x. IsHeld program touched s x) → MatchOption o (Unit {0}) (λ x. IsHeld program touched s x)
  last_of None h = tt
  last_of (Some x) h = h

  pub last_some : (o : Option Held) (h : Held) → o ≡ Some h → MatchOption o (Unit {0}) (λ x. IsHeld program touched s x) → IsHeld program touched s h
  last_some o h e k = subst (λ x. MatchOption x (Unit {0}) (λ y. IsHeld program touched s y)) e k
