-- Extents, by what code has at hand.
use Rattle.std.proofs.Common.{◌≡◌, ℕ, suc, ◌+◌, ◌-◌, ◌*◌, ◌<◌, ◌≤◌, Bool, true, false, cond, List, map, Option, Some, None, refl, sym, ◌∙◌, ap, arith}
use Rattle.std.specs.Prelude.{ℤ, pos, negsuc, ◌||◌, not, slice_get}
use Rattle.std.specs.List.{list_any}
use Rattle.std.specs.Option.{option_map}
use Rattle.std.proofs.lemmas.Option.{slice_get-map}
use mathlib.Core.Path.{fun_ext}
use Rattle.mdr_core.specs.declared.plan.Key.{Key}
use Rattle.mdr_core.specs.declared.plan.Key.TheVariants as key
use Rattle.mdr_core.specs.declared.program.Program.{Program}
use Rattle.mdr_core.specs.declared.types.Ann.{Ann}
use Rattle.mdr_core.specs.declared.types.Ann.TheVariants.{NullTerm}
use Rattle.mdr_core.specs.declared.value.Block.{Block}
use Rattle.mdr_core.specs.declared.value.Value.{Value}
use Rattle.mdr_core.specs.declared.value.Value.TheVariants as value
use Rattle.mdr_core.specs.Layout.{chosen, field_start}
use Rattle.mdr_extents.specs.Around.{struct_start}
use Rattle.mdr_extents.specs.Extent.{Extent, Elements, Siblings, annotated, extent, extent_in, first_of, is_empty, is_touched, number_in, of_length, up_to, views_touched}
use Rattle.mdr_extents.specs.Reaching.{siblings_in}
use Rattle.mdr_meaning.specs.declared.wire.Wire.TheVariants as wire
use Rattle.mdr_meaning.specs.declared.wire.WireView.{WireView}
use Rattle.mdr_meaning.specs.Pointers.{size}
use Rattle.mdr_meaning.specs.Values.{integer, is_true, wire_of}
use Rattle.mdr_mem.specs.Contents.{Contents, current, is_handle, wire_in}
use Rattle.mdr_model.specs.declared.memory.Cell.{Cell}
use Rattle.mdr_model.specs.Memory.{Memory, born_at, cell_at}
use Rattle.mdr_model.specs.Sets.{cells_from}
use Rattle.mdr_reach.specs.declared.held.Held.{Held}
use Rattle.mdr_reach.specs.Marks.{IsHeld, extent_long, extent_searched}

-- ---- values that are looked at as they were put

abbrev pub one_number : Value → ℤ
one_number v = integer (wire_of v)

number_now : (hs : List Block) (v : Value) → integer (wire_of v) ≡ integer (wire_of (current hs v))
unfolding current
number_now hs (value.Int k n) = refl
number_now hs value.Null = refl
number_now hs (value.Ptr p) = of (is_handle hs p.block)
  where
    of : (t : Bool) → pos 0 ≡ integer (wire_of (cond t (value.Ptr p) value.Dead))
    of true = refl
    of false = refl
number_now hs value.Dead = refl
number_now hs (value.Fn f) = refl
number_now hs (value.Lock s) = refl
number_now hs value.NoValue = refl

empty_now : (hs : List Block) (v : Value) → not (is_true (wire_of v)) ≡ not (is_true (wire_of (current hs v)))
unfolding current
empty_now hs (value.Int k n) = refl
empty_now hs value.Null = refl
empty_now hs (value.Ptr p) = of (is_handle hs p.block)
  where
    of : (t : Bool) → false ≡ not (is_true (wire_of (cond t (value.Ptr p) value.Dead)))
    of true = refl
    of false = refl
empty_now hs value.Dead = refl
empty_now hs (value.Fn f) = refl
empty_now hs (value.Lock s) = refl
empty_now hs value.NoValue = refl

pub number_same : (hs : List Block) (vs : List Value) (i : ℕ) → number_in (option_map wire_of (slice_get vs i)) ≡ number_in (slice_get (map (wire_in hs) vs) i)
number_same hs vs i = of (slice_get vs i) ∙ ap number_in (sym (slice_get-map (wire_in hs) vs i))
  where
    of : (o : Option Value) → number_in (option_map wire_of o) ≡ number_in (option_map (wire_in hs) o)
    of None = refl
    of (Some v) = number_now hs v

pub number_passed : (vs : List Value) (i : ℕ) → number_in (option_map wire_of (slice_get vs i)) ≡ number_in (slice_get (map wire_of vs) i)
number_passed vs i = ap number_in (sym (slice_get-map wire_of vs i))

empty_same : (hs : List Block) (vs : List Value) (i : ℕ) → is_empty (slice_get (map wire_of vs) i) ≡ is_empty (slice_get (map (wire_in hs) vs) i)
empty_same hs vs i = ap is_empty (slice_get-map wire_of vs i) ∙ of (slice_get vs i) ∙ ap is_empty (sym (slice_get-map (wire_in hs) vs i))
  where
    of : (o : Option Value) → is_empty (option_map wire_of o) ≡ is_empty (option_map (wire_in hs) o)
    of None = refl
    of (Some v) = empty_now hs v

pub empty_is : (vs : List Value) (i : ℕ) (o : Option Value) → o ≡ slice_get vs i → is_empty (option_map wire_of o) ≡ is_empty (slice_get (map wire_of vs) i)
empty_is vs i o e = ap (λ x. is_empty (option_map wire_of x)) e ∙ ap is_empty (sym (slice_get-map wire_of vs i))

-- ---- searches

pub search_more : (test : ℕ → Bool) (i end : ℕ) (whole : Option ℕ) → i < end → test i ≡ false → first_of test i (end - i) ≡ whole → first_of test (i + 1) (end - (i + 1)) ≡ whole
unfolding first_of
search_more test i end whole l out k =
    let here : end - i ≡ suc (end - (i + 1)) = omega (arith, l) in
    let next : i + 1 ≡ suc i = omega arith in
    ap (λ n. first_of test n (end - (i + 1))) next ∙ ap (λ b. chosen b (Some i) (first_of test (suc i) (end - (i + 1)))) (sym out) ∙ ap (first_of test i) (sym here) ∙ k

pub search_found : (test : ℕ → Bool) (i end : ℕ) (whole : Option ℕ) → i < end → test i ≡ true → first_of test i (end - i) ≡ whole → Some i ≡ whole
unfolding first_of
search_found test i end whole l passes k =
    let here : end - i ≡ suc (end - (i + 1)) = omega (arith, l) in
    ap (λ b. chosen b (Some i) (first_of test (suc i) (end - (i + 1)))) (sym passes) ∙ ap (first_of test i) (sym here) ∙ k

pub search_over : (test : ℕ → Bool) (i end : ℕ) (whole : Option ℕ) → end ≤ i → first_of test i (end - i) ≡ whole → None ≡ whole
unfolding first_of
search_over test i end whole l k = let none : end - i ≡ 0 = omega (arith, l) in ap (first_of test i) (sym none) ∙ k

pub any_more : (p : ℕ → Bool) (serial first i n : ℕ) (whole : Bool) → i < n → p (first + i) ≡ false → list_any (λ (c : Cell). p c.index) (cells_from serial (first + i) (n - i)) ≡ whole
    → list_any (λ (c : Cell). p c.index) (cells_from serial (first + (i + 1)) (n - (i + 1))) ≡ whole
unfolding cells_from
any_more p serial first i n whole l out k =
    let here : n - i ≡ suc (n - (i + 1)) = omega (arith, l) in
    let next : first + (i + 1) ≡ suc (first + i) = omega arith in
    ap (λ at. list_any (λ (c : Cell). p c.index) (cells_from serial at (n - (i + 1)))) next
    ∙ grind_or (p (first + i)) (list_any (λ (c : Cell). p c.index) (cells_from serial (suc (first + i)) (n - (i + 1)))) out
    ∙ ap (λ m. list_any (λ (c : Cell). p c.index) (cells_from serial (first + i) m)) (sym here) ∙ k
  where
    grind_or : (a b : Bool) → a ≡ false → b ≡ (a || b)
    grind_or true b e = grind arith
    grind_or false b e = refl

pub any_found : (p : ℕ → Bool) (serial first i n : ℕ) (whole : Bool) → i < n → p (first + i) ≡ true → list_any (λ (c : Cell). p c.index) (cells_from serial (first + i) (n - i)) ≡ whole → true ≡ whole
unfolding cells_from
any_found p serial first i n whole l passes k =
    let here : n - i ≡ suc (n - (i + 1)) = omega (arith, l) in
    or_left (p (first + i)) (list_any (λ (c : Cell). p c.index) (cells_from serial (suc (first + i)) (n - (i + 1)))) passes
    ∙ ap (λ m. list_any (λ (c : Cell). p c.index) (cells_from serial (first + i) m)) (sym here) ∙ k
  where
    or_left : (a b : Bool) → a ≡ true → true ≡ (a || b)
    or_left true b e = refl
    or_left false b e = grind arith

pub any_over : (p : ℕ → Bool) (serial first i n : ℕ) (whole : Bool) → n ≤ i → list_any (λ (c : Cell). p c.index) (cells_from serial (first + i) (n - i)) ≡ whole → false ≡ whole
unfolding cells_from
any_over p serial first i n whole l k = let none : n - i ≡ 0 = omega (arith, l) in ap (λ m. list_any (λ (c : Cell). p c.index) (cells_from serial (first + i) m)) (sym none) ∙ k

pub any_first : (p : ℕ → Bool) (serial first n : ℕ) → list_any (λ (c : Cell). p c.index) (cells_from serial (first + 0) (n - 0)) ≡ list_any (λ (c : Cell). p c.index) (cells_from serial first n)
any_first p serial first n = let here : first + 0 ≡ first = omega arith in let all : n - 0 ≡ n = omega arith in λ i. list_any (λ (c : Cell). p c.index) (cells_from serial (here i) (all i))

-- ---- extents in a live block

module _ (program : Program) (touched : List Key) (s : Contents) (h : Held) (held : IsHeld program touched s h) where
  pub searched_is : (v : WireView) (start n : ℕ) (o : Option ℕ) → h.born.serial ≡ v.serial → n ≡ size program v.ty
      → o ≡ first_of (λ i. is_empty (slice_get (map wire_of h.cells.now) (v.first + i * n + start))) v.index (v.count - v.index)
      → o ≡ first_of (λ i. is_empty (cell_at s.memory (record { serial = v.serial; index = v.first + i * size program v.ty + start }))) v.index (v.count - v.index)
  searched_is v start n o same sized e =
      e ∙ ap (λ test. first_of test v.index (v.count - v.index)) (fun_ext (λ i.
      ap (λ k. is_empty (slice_get (map wire_of h.cells.now) (v.first + i * k + start))) sized
      ∙ empty_same s.handles h.cells.now (v.first + i * size program v.ty + start)
      ∙ ap is_empty (sym (held.cells (v.first + i * size program v.ty + start)) ∙ ap (λ k. cell_at s.memory (record { serial = k; index = v.first + i * size program v.ty + start })) same)))

  pub views_is : (v : WireView) (n : ℕ) (t : Bool) → h.born.serial ≡ v.serial → n ≡ size program v.ty
      → t ≡ list_any (λ (c : Cell). is_touched program touched h.born c.index) (cells_from h.born.serial v.first n) → t ≡ views_touched program touched h.born v
  unfolding views_touched
  views_is v n t same sized e = e ∙ (λ i. list_any (λ (c : Cell). is_touched program touched h.born c.index) (cells_from (same i) v.first (sized i)))

  pub extent_there : (near : Siblings) (ann : Ann) (v : WireView) (e : Extent) → h.born.serial ≡ v.serial → e ≡ extent_in program touched s.memory near ann v (Some h.born)
      → e ≡ extent program touched s.memory near ann (wire.Ptr v)
  unfolding extent
  extent_there near ann v e same is = is ∙ ap (extent_in program touched s.memory near ann v) (sym held.born ∙ ap (born_at s.memory) same)

  -- the fields of the struct around a cell
  pub fields_are : (index start t : ℕ) (f : ℕ) (cells : List Value) → start ≡ struct_start program h.born index → (n : ℕ)
      → slice_get (map (wire_in s.handles) h.cells.now) (start + field_start program.structs t n) ≡ siblings_in program touched s.memory h.born index (key.Field t f) n
  fields_are index start t f cells e n =
      ap (λ k. slice_get (map (wire_in s.handles) h.cells.now) (k + field_start program.structs t n)) e
      ∙ sym (held.cells (struct_start program h.born index + field_start program.structs t n))

pub extent_nowhere : (program : Program) (touched : List Key) (m : Memory) (near : Siblings) (ann : Ann) (v : WireView) → born_at m v.serial ≡ None → ◌≡◌ {A = Extent} (Elements 0) (extent program touched m near ann (wire.Ptr v))
unfolding extent
extent_nowhere program touched m near ann v e = ap (extent_in program touched m near ann v) (sym e)

-- up to the first element that is zero
pub zero_start : (program : Program) (m : Memory) (v : WireView) (near : Siblings) → extent_searched program m v 0 ≡ annotated program m v near NullTerm
zero_start program m v near = ap (λ test. up_to v.index (first_of test v.index (v.count - v.index))) (fun_ext (λ i. ap (λ k. is_empty (cell_at m (record { serial = v.serial; index = k }))) (no_start (v.first + i * size program v.ty))))
  where
    no_start : (k : ℕ) → k + 0 ≡ k
    no_start k = omega arith

-- so many elements, if there is room
pub long_is : (program : Program) (m : Memory) (v : WireView) (z : ℤ) → extent_long (v.count - v.index) z ≡ of_length program m v z
long_is program m v (pos n) = refl
long_is program m v (negsuc n) = refl
