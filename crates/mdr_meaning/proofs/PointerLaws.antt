-- What is done with a pointer in hand leads to parts of the same block.
use Rattle.std.proofs.Common.{◌≡◌, ℕ, zero, suc, ◌+◌, ◌*◌, ◌<◌, ◌≤◌, Bool, true, false, not, ◌&&◌, nat_lt, length, Option, Some, None, slice_get, Result, Ok, Err, ℤ, pos, negsuc, ◌+ℤ◌, ◌≤ℤ◌, int_lt, unsigned_abs, refl, sym, ap, ◌∙◌, subst, ltb-true, arith}
use Rattle.std.proofs.lemmas.Int.{ints}
use Rattle.mdr_core.specs.declared.stop.StopKind.{StopKind}
use Rattle.mdr_core.specs.declared.stop.StopKind.TheVariants as stop
use Rattle.mdr_core.specs.declared.types.Ty.{Ty}
use Rattle.mdr_core.specs.declared.types.Ty.TheVariants as ty
use Rattle.mdr_core.specs.declared.types.Ty.TheVariants.{outs-Struct}
use Rattle.mdr_core.specs.declared.value.View.{View}
use Rattle.mdr_core.specs.declared.program.Program.{Program}
use Rattle.mdr_core.specs.declared.program.Field.{Field}
use Rattle.mdr_core.specs.declared.program.GlobalDef.{GlobalDef}
use Rattle.mdr_core.specs.Layout.{chosen, Alone, cells, cells_at, cells_or, fields_of, field_start, leaves, leaves_below, repeated, struct_by, struct_cells, struct_of}
use Rattle.mdr_core.specs.Sound.{IsSound}
use Rattle.mdr_core.specs.Types.{HasNumber}
use Rattle.mdr_core.specs.Views.{IsIn, Whole, Element, Inside}
use Rattle.mdr_core.proofs.Laid.{laid_out, type_has_cells}
use Rattle.mdr_core.proofs.Lying.{cells_of_struct, length-repeated}
use Rattle.mdr_core.proofs.Viewed.{field_end, some_same}
use Rattle.mdr_meaning.specs.declared.wire.Wire.{Wire}
use Rattle.mdr_meaning.specs.declared.wire.Wire.TheVariants as wire
use Rattle.mdr_meaning.specs.declared.wire.WireView.{WireView}
use Rattle.mdr_meaning.specs.Bodies.{known_of, without_funcs}
use Rattle.mdr_meaning.specs.Fair.{is_code_stop}
use Rattle.mdr_meaning.specs.Fit.{Knowledge, KnowsGlobals, IsKnownView, PointsTo, view_of}
use Rattle.mdr_meaning.specs.Numbers.{number_in}
use Rattle.mdr_meaning.specs.Pointers.{at_index, global, global_by, field_in, field_view, indexed, member, moved, position, size, struct_numbered, struct_by as struct_named}
use Rattle.mdr_meaning.specs.Values.{checked}
use Rattle.mdr_meaning.proofs.NumberLaws.{numbered_in, numbered_short}

-- ---- parts of a block

-- a view with another index
part_moved : (program : Program) (v w : View) (first : ℕ) (t : Ty) (count : ℕ) → w.first ≡ v.first → w.ty ≡ v.ty → w.count ≡ v.count → IsIn program v first t count → IsIn program w first t count
part_moved program v w first t count a b c (Whole _ _ _ begins names many) =
    Whole first t count (a ∙ begins) (ap (λ n. slice_get program.types n) b ∙ names) (c ∙ many)
part_moved program v w first t count a b c (Element _ _ _ s i struct among begins names many) =
    Element first t count s i struct among (a ∙ begins) (ap (λ n. slice_get program.types n) b ∙ names) (c ∙ many)
part_moved program v w first t count a b c (Inside _ _ _ s i f x struct among names inside) =
    Inside first t count s i f x struct among names (part_moved program v w _ x.ty x.count a b c inside)

-- a field of the struct at index i of a view
record IsFieldOf (program : Program) (v w : View) (s i f : ℕ) (x : Field) : Type 0 where
  t : Ty
  names : slice_get program.types v.ty ≡ Some t
  struct : struct_of t ≡ Some s
  among : i < v.count
  field : slice_get (fields_of program.structs s) f ≡ Some x
  begins : w.first ≡ v.first + i * length (struct_cells program.structs s) + field_start program.structs s f
  viewed : slice_get program.types w.ty ≡ Some x.ty
  many : w.count ≡ x.count

same_struct : (program : Program) (n : ℕ) (t u : Ty) (s : ℕ) → slice_get program.types n ≡ Some t → slice_get program.types n ≡ Some u → struct_of t ≡ Some s → struct_of u ≡ Some s
same_struct program n t u s a b c = let same : t ≡ u = some_same (sym a ∙ b) in subst (λ (x : Ty). struct_of x ≡ Some s) same c

field_part : (program : Program) (v w : View) (s i f : ℕ) (x : Field) (first : ℕ) (t : Ty) (count : ℕ) → IsFieldOf program v w s i f x → IsIn program v first t count → IsIn program w first t count
field_part program v w s i f x first t count h (Whole _ _ _ begins names many) =
    Inside first t count s i f x (same_struct program v.ty h.t t s h.names names h.struct) (subst (λ n. i < n) many h.among) h.field
    (Whole _ x.ty x.count (h.begins ∙ ap (λ n. n + i * length (struct_cells program.structs s) + field_start program.structs s f) begins) h.viewed h.many)
field_part program v w s i f x first t count h (Element _ _ _ s' i' struct among begins names many) =
    let same : s' ≡ s = some_same (sym struct ∙ same_struct program v.ty h.t t s h.names names h.struct) in
    let none : i ≡ 0 = omega (arith, h.among, many) in
    let start : w.first ≡ first + i' * length (struct_cells program.structs s') + field_start program.structs s' f =
    subst (λ k. w.first ≡ first + i' * length (struct_cells program.structs k) + field_start program.structs k f) (sym same)
    (h.begins ∙ ap (λ k. v.first + k * length (struct_cells program.structs s) + field_start program.structs s f) none ∙ at_first (length (struct_cells program.structs s)) (field_start program.structs s f) v.first
    ∙ ap (λ k. k + field_start program.structs s f) (begins ∙ ap (λ k. first + i' * length (struct_cells program.structs k)) same))
    in
    Inside first t count s' i' f x struct among (subst (λ k. slice_get (fields_of program.structs k) f ≡ Some x) (sym same) h.field) (Whole _ x.ty x.count start h.viewed h.many)
  where
    at_first : (n m k : ℕ) → k + 0 * n + m ≡ k + m
    at_first n m k = grind arith
field_part program v w s i f x first t count h (Inside _ _ _ s' i' f' y struct among names inside) =
    Inside first t count s' i' f' y struct among names (field_part program v w s i f x _ y.ty y.count h inside)

at_least : (n l g : ℤ) → (not (int_lt n l) && not (int_lt g n)) ≡ true → l ≤ℤ n
at_least n l g h = grind (arith, ints)

at_most : (n l g : ℤ) → (not (int_lt n l) && not (int_lt g n)) ≡ true → n ≤ℤ g
at_most n l g h = grind (arith, ints)

-- ---- small counts

few_of : (n m : ℕ) → 1 ≤ m → n * m ≤ 65536 → n ≤ 65536
few_of n (suc m) h k = grind (arith, k)
few_of n zero h k = absurd (omega (arith, h))

field_small : (program : Program) → IsSound program → (s f : ℕ) (x : Field) → slice_get (fields_of program.structs s) f ≡ Some x → x.count ≤ 65536
field_small program sound s f x e =
    let laid = laid_out program sound in
    let filled : 1 ≤ x.count * length (leaves (leaves_below program.structs s) Alone x.ty) = laid.filled s f x e in
    let ends = field_end program.structs s f x e in
    let within = sound.small.within s in
    few_of x.count (length (leaves (leaves_below program.structs s) Alone x.ty)) (some_of x.count _ filled) (omega (arith, ends, within))
  where
    some_of : (n m : ℕ) → 1 ≤ n * m → 1 ≤ m
    some_of n (suc m) h = omega arith
    some_of n zero h = absurd (grind (arith, h))

global_small : (program : Program) → IsSound program → (g : ℕ) (def : GlobalDef) → slice_get program.globals g ≡ Some def → def.count ≤ 65536
unfolding cells
global_small program sound g def e =
    let rules = sound.globals g def e in
    let some = (type_has_cells program sound rules.in_table.number def.ty rules.in_table.names).some in
    let size : length (repeated def.count (cells program def.ty)) ≡ def.count * length (cells program def.ty) = length-repeated def.count (cells program def.ty) in
    few_of def.count (length (cells program def.ty)) some (omega (arith, size, rules.small))

-- ---- pointers in hand

-- what a result gives has P, or it is a stop that code comes to
abbrev pub Yields : {A : Type 0} → (A → Type 0) → Result A StopKind → Type 0
Yields P (Ok x) = P x
Yields P (Err kind) = is_code_stop kind ≡ true

module _ (program : Program) (sound : IsSound program) where
  size_known_by : (t : Option Ty) → length (cells_or (without_funcs program) t) ≡ length (cells_or program t)
  unfolding cells
  size_known_by None = refl
  size_known_by (Some t) = refl

  size_known : (n : ℕ) → size (without_funcs program) n ≡ length (cells_at program n)
  unfolding size
  size_known n = size_known_by (slice_get program.types n)

  struct_size : (n s : ℕ) → slice_get program.types n ≡ Some (ty.Struct s) → size (without_funcs program) n ≡ length (struct_cells program.structs s)
  struct_size n s e = size_known n ∙ ap length (cells_of_struct program n s (ty.Struct s) e (ap struct_by (outs-Struct s)))

  known_field : (K : Knowledge) (p : WireView) (s f : ℕ) (x : Field) → slice_get program.types p.ty ≡ Some (ty.Struct s) → slice_get (fields_of program.structs s) f ≡ Some x
      → HasNumber program x.ty → p.index < p.count → IsKnownView program K p → PointsTo program K x.ty (field_view (known_of program) p s f x)
  known_field K p s f x e field table inside h = (
    numbered_short program x.ty table,
    record {
      shape = h.shape;
      known = h.known;
      view = record {
        ty = h.view.ty;
        names = h.view.names;
        part = field_part program (view_of p) _ s p.index f x 0 h.view.ty h.shape.count
            (record {
              t = ty.Struct s;
              names = e;
              struct = ap struct_by (outs-Struct s);
              among = inside;
              field = field;
              begins = ap (λ n. p.first + p.index * n + field_start program.structs s f) (struct_size p.ty s e);
              viewed = numbered_short program x.ty table;
              many = refl;
            }) h.view.part;
        inside = omega arith;
      };
      small = field_small program sound s f x field;
    },
  )

  -- 6.5.2.3
  pub member_fits : (K : Knowledge) (v : Wire) (s f : ℕ) (x : Field) → slice_get (fields_of program.structs s) f ≡ Some x → HasNumber program x.ty
      → PointsTo program K (ty.Struct s) v → Yields (PointsTo program K x.ty) (member (known_of program) v f)
  member_fits K wire.Null s f x field table h = refl
  member_fits K wire.Dead s f x field table h = refl
  member_fits K (wire.Ptr p) s f x field table h = by_range (nat_lt p.index p.count) refl where
    named : struct_numbered program p.ty ≡ Some s
    named = ap struct_named h.0 ∙ ap struct_by (outs-Struct s)

    by_cell : (b : Bool) → nat_lt p.index p.count ≡ true → Yields (PointsTo program K x.ty) (checked b stop.Bounds (field_view (known_of program) p s f x))
    by_cell true q = known_field K p s f x h.0 field table (ltb-true _ _ q) h.1
    by_cell false q = refl

    by_range : (b : Bool) → nat_lt p.index p.count ≡ b → Yields (PointsTo program K x.ty) (chosen b (field_in (known_of program) p (struct_numbered program p.ty) f) (Err stop.Bounds))
    by_range true q = rw (named, field) (by_cell (nat_lt (position (without_funcs program) p + field_start program.structs s f) 4294967296) q)
    by_range false q = refl
  member_fits K (wire.Int _ _) s f x field table h = elim h [ ]
  member_fits K (wire.Fn _) s f x field table h = elim h [ ]
  member_fits K (wire.Lock _) s f x field table h = elim h [ ]
  member_fits K wire.NoValue s f x field table h = elim h [ ]

  -- another element of what is viewed, or the place behind it
  pub at_index_fits : (K : Knowledge) (t : Ty) (p : WireView) (i : ℕ) → slice_get program.types p.ty ≡ Some t → IsKnownView program K p → i ≤ p.count → PointsTo program K t (wire.Ptr (at_index p i))
  at_index_fits K t p i e h inside = (
    e,
    record {
      shape = h.shape;
      known = h.known;
      view = record {
        ty = h.view.ty;
        names = h.view.names;
        part = part_moved program (view_of p) _ 0 h.view.ty h.shape.count refl refl refl h.view.part;
        inside = inside;
      };
      small = h.small;
    },
  )

  -- 6.5.6
  indexed_fits : (K : Knowledge) (t : Ty) (p : WireView) (i : ℤ) → slice_get program.types p.ty ≡ Some t → IsKnownView program K p → Yields (PointsTo program K t) (indexed p i)
  indexed_fits K t p i e h = by_range (not (int_lt i (pos 0)) && not (int_lt (pos p.count) i)) refl where
    inside : (i : ℤ) → (not (int_lt i (pos 0)) && not (int_lt (pos p.count) i)) ≡ true → unsigned_abs i ≤ p.count
    inside (pos n) q = let high : pos n ≤ℤ pos p.count = at_most (pos n) (pos 0) (pos p.count) q in omega (arith, ints)
    inside (negsuc n) q = let low : pos 0 ≤ℤ negsuc n = at_least (negsuc n) (pos 0) (pos p.count) q in absurd (omega (arith, ints))

    by_range : (b : Bool) → (not (int_lt i (pos 0)) && not (int_lt (pos p.count) i)) ≡ b → Yields (PointsTo program K t) (checked b stop.Bounds (wire.Ptr (at_index p (unsigned_abs i))))
    by_range true q = at_index_fits K t p (unsigned_abs i) e h (inside i q)
    by_range false q = refl

  pub moved_fits : (K : Knowledge) (t : Ty) (v : Wire) (n : ℤ) → PointsTo program K t v → Yields (PointsTo program K t) (moved v n)
  moved_fits K t wire.Null n h = refl
  moved_fits K t wire.Dead n h = refl
  moved_fits K t (wire.Ptr p) n h = indexed_fits K t p (pos p.index +ℤ n) h.0 h.1
  moved_fits K t (wire.Int _ _) n h = elim h [ ]
  moved_fits K t (wire.Fn _) n h = elim h [ ]
  moved_fits K t (wire.Lock _) n h = elim h [ ]
  moved_fits K t wire.NoValue n h = elim h [ ]

  -- 6.5.1
  pub global_fits : (K : Knowledge) → KnowsGlobals program K → (g : ℕ) (def : GlobalDef) → slice_get program.globals g ≡ Some def → HasNumber program def.ty
      → PointsTo program K def.ty (global (known_of program) g)
  global_fits K knows g def e table = subst (λ o. PointsTo program K def.ty (global_by (known_of program) g o)) (sym e) (
    numbered_short program def.ty table,
    record {
      shape = record { ty = number_in program.types def.ty; count = def.count };
      known = knows.knows g def e;
      view = record {
        ty = def.ty;
        names = numbered_in program.types def.ty table.number table.names;
        part = Whole 0 def.ty def.count refl (numbered_short program def.ty table) refl;
        inside = omega arith;
      };
      small = global_small program sound g def e;
    },
  )
