-- The worked example's program is sound.
use Rattle.std.proofs.Common.{◌≡◌, ℕ, zero, suc, ◌+◌, ◌<◌, ◌≤◌, inl, inr, List, [], ◌∷◌, map, length, slice_get, Some, None, refl, sym, ap, ◌∙◌, subst, arith, pos}
use Rattle.std.specs.Prelude.{IsTrue, true, false, codes}
use Rattle.std.specs.List.{AllByRecursion}
use Rattle.mdr_core.specs.declared.kind.Kind.{Kind}
use Rattle.mdr_core.specs.declared.kind.Kind.TheVariants.{U8, U16, U32, U64, S8, S16, S32, S64}
use Rattle.mdr_core.specs.declared.types.Ty.{Ty, out-Ty}
use Rattle.mdr_core.specs.declared.types.Ty as form
use Rattle.mdr_core.specs.declared.types.Ty.TheOpen.{Ty-F}
use Rattle.mdr_core.specs.declared.types.Ty.TheVariants as ty
use denote.Hole.Carrier.{out}
use Rattle.mdr_core.specs.declared.program.Field.{Field}
use Rattle.mdr_core.specs.declared.program.GlobalDef.{GlobalDef}
use Rattle.mdr_core.specs.declared.program.StructDef.{StructDef}
use Rattle.mdr_core.specs.declared.value.Value.{Value}
use Rattle.mdr_core.specs.Kinds.{kind_number, is_in_range}
use Rattle.mdr_core.specs.Layout.{Leaf, repeated, leaves, field_leaves, leaves_below, struct_of, struct_cells, fields_of, cells}
use Rattle.mdr_core.specs.Sound.{Sibling, sibling_field, IsObjectSort, IsFirstValue, all_cells, IsSoundField, IsSoundStruct, IsSoundGlobal, IsTable, IsSound}
use Rattle.mdr_core.specs.Types.{Scalar, Aggregate, Locks, pointer_sort, function_sort, sort_of}
use Rattle.mdr_core.specs.Worked.{driver, field, array_field, global, buf, stats, card, op, u32, buf_pointer, run_pointer, no_number, card_zeros, ops_zeros}
use Rattle.mdr_core.proofs.Laid.{sort_is}
use Rattle.mdr_core.proofs.Ranges.{in_range-from}
use Rattle.mdr_core.proofs.Viewed.{some_same}
use Rattle.mdr_core.proofs.WorkedProofs.{structs_have_cells}

at_each : {X : Type 0} (P : X → Type 0) (xs : List X) (i : ℕ) (x : X) → AllByRecursion P xs → slice_get xs i ≡ Some x → P x
at_each P [] i x h e = let none : None ≡ Some x = e in absurd cc
at_each P (y ∷ ys) zero x h e = subst P (some_same e) h.0
at_each P (y ∷ ys) (suc i) x h e = at_each P ys i x h.1 e

-- ---- sorts

number : (k : Kind) → sort_of 4 (ty.Int k) ≡ Scalar
unfolding form.out-Ty denote.Hole.Carrier.out
number k = sort_is 4 (ty.Int k)

lock : sort_of 4 ty.Lock ≡ Locks
unfolding form.out-Ty denote.Hole.Carrier.out
lock = sort_is 4 ty.Lock

struct_0 : sort_of 4 (ty.Struct 0) ≡ Aggregate
unfolding form.out-Ty denote.Hole.Carrier.out
struct_0 = sort_is 4 (ty.Struct 0)

struct_1 : sort_of 4 (ty.Struct 1) ≡ Aggregate
unfolding form.out-Ty denote.Hole.Carrier.out
struct_1 = sort_is 4 (ty.Struct 1)

struct_2 : sort_of 4 (ty.Struct 2) ≡ Aggregate
unfolding form.out-Ty denote.Hole.Carrier.out
struct_2 = sort_is 4 (ty.Struct 2)

struct_3 : sort_of 4 (ty.Struct 3) ≡ Aggregate
unfolding form.out-Ty denote.Hole.Carrier.out
struct_3 = sort_is 4 (ty.Struct 3)

to_buf : sort_of 4 buf_pointer ≡ Scalar
unfolding form.out-Ty denote.Hole.Carrier.out Rattle.mdr_core.specs.declared.types.Ty.TheBlock.shown-the_row-Ty-0 denote.Hole.Carrier.shown denote.Hole.Carrier.hidden
to_buf = sort_is 4 buf_pointer ∙ ap pointer_sort struct_0

to_run : sort_of 4 run_pointer ≡ Scalar
unfolding form.out-Ty denote.Hole.Carrier.out sort_of Rattle.mdr_core.specs.declared.types.Ty.TheBlock.shown-the_row-Ty-1 denote.Hole.Carrier.shown denote.Hole.Carrier.hidden
to_run = sort_is 4 run_pointer ∙ (λ i. function_sort (number S32 i ∷ number U32 i ∷ []))

-- ---- the type table

-- where a type stands in it
abbrev stands_by : Ty-F Ty → ℕ
stands_by (Ty-F.Int k) = kind_number k
stands_by Ty-F.Lock = 8
stands_by (Ty-F.Struct s) = 9 + s
stands_by (Ty-F.Fun ts) = 13
stands_by _ = 14

stands : Ty → ℕ
stands t = stands_by (out-Ty t)

abbrev AreNumbered : ℕ → List Ty → Type 0
AreNumbered n [] = Unit {0}
AreNumbered n (t ∷ ts) = (stands t ≡ n) × AreNumbered (suc n) ts

numbered : (n : ℕ) (ts : List Ty) (i : ℕ) (t : Ty) → AreNumbered n ts → slice_get ts i ≡ Some t → stands t ≡ n + i
numbered n [] i t h e = let none : None ≡ Some t = e in absurd cc
numbered n (u ∷ ts) zero t h e = let at : stands t ≡ n = ap (λ x. stands x) (sym (some_same e)) ∙ h.0 in omega arith
numbered n (u ∷ ts) (suc i) t h e = let at = numbered (suc n) ts i t h.1 e in omega arith

types_are_numbered : AreNumbered 0 driver.types
unfolding stands form.out-Ty denote.Hole.Carrier.out
types_are_numbered = (refl, (refl, (refl, (refl, (refl, (refl, (refl, (refl, (refl, (refl, (refl, (refl, (refl, (refl, (refl, tt)))))))))))))))

types_are_formed : AllByRecursion (λ (t : Ty). IsObjectSort (sort_of 4 t)) driver.types
types_are_formed = (
  inl (number U8),
  (
    inl (number U16),
    (
      inl (number U32),
      (
        inl (number U64),
        (
          inl (number S8),
          (
            inl (number S16),
            (
              inl (number S32),
              (
                inl (number S64),
                (inr (inr lock), (inr (inl struct_0), (inr (inl struct_1), (inr (inl struct_2), (inr (inl struct_3), (inl to_run, (inl to_buf, tt))))))),
              ),
            ),
          ),
        ),
      ),
    ),
  ),
)

named_kind : (k : Kind) → slice_get driver.types (kind_number k) ≡ Some (ty.Int k)
named_kind U8 = refl
named_kind U16 = refl
named_kind U32 = refl
named_kind U64 = refl
named_kind S8 = refl
named_kind S16 = refl
named_kind S32 = refl
named_kind S64 = refl

named_struct : (s : ℕ) → s < 4 → slice_get driver.types (9 + s) ≡ Some (ty.Struct s)
named_struct zero h = refl
named_struct (suc zero) h = refl
named_struct (suc (suc zero)) h = refl
named_struct (suc (suc (suc zero))) h = refl
named_struct (suc (suc (suc (suc s)))) h = absurd (omega (arith, h))

table : IsTable driver
table = record {
  kinds = named_kind;
  lock = refl;
  structs = named_struct;
  formed = λ i t e. at_each (λ (u : Ty). IsObjectSort (sort_of 4 u)) driver.types i t types_are_formed e;
  once = λ i j t e h. let here = numbered 0 driver.types i t types_are_numbered e in let there = numbered 0 driver.types j t types_are_numbered h in omega arith;
}

-- ---- structs

small : (s : ℕ) → length (struct_cells driver.structs s) ≤ 65536
unfolding struct_cells field_leaves
small zero = let many = structs_have_cells.of_buf in omega arith
small (suc zero) = let many = structs_have_cells.of_stats in omega arith
small (suc (suc zero)) = let many = structs_have_cells.of_card in omega arith
small (suc (suc (suc zero))) = let many = structs_have_cells.of_op in omega arith
small (suc (suc (suc (suc s)))) = omega arith

few : (s : ℕ) → length (fields_of driver.structs s) ≤ 64
few zero = omega arith
few (suc zero) = omega arith
few (suc (suc zero)) = omega arith
few (suc (suc (suc zero))) = omega arith
few (suc (suc (suc (suc s)))) = omega arith

-- what a field's type must be
record IsFieldType (s : ℕ) (t : Ty) : Type 0 where
  sort : IsObjectSort (sort_of 4 t)
  lower : (m : ℕ) → struct_of t ≡ Some m → m < s
  at : ℕ
  fits : at < 4294967296
  names : slice_get driver.types at ≡ Some t

one : (s : ℕ) (siblings : List Sibling) (name : List ℕ) (t : Ty) → IsFieldType s t → IsSoundField driver s siblings (field name t)
one s siblings name t h = record {
  sort = h.sort;
  lower = h.lower;
  count = record { some = omega arith; single = λ e. refl };
  annotation = tt;
  in_table = record { number = h.at; fits = h.fits; names = h.names };
}

many : (s : ℕ) (siblings : List Sibling) (name : List ℕ) (t : Ty) (count : ℕ) → 1 ≤ count → IsFieldType s t → IsSoundField driver s siblings (array_field name t count)
many s siblings name t count some h = record {
  sort = h.sort;
  lower = h.lower;
  count = record { some = some; single = λ e. absurd cc };
  annotation = tt;
  in_table = record { number = h.at; fits = h.fits; names = h.names };
}

no_struct : {X : Type 0} (t : Ty) (m : ℕ) → struct_of t ≡ None → struct_of t ≡ Some m → X
no_struct t m none some = let other : None ≡ Some m = sym none ∙ some in absurd cc

word : (s : ℕ) → IsFieldType s u32
unfolding form.out-Ty denote.Hole.Carrier.out
word s = record { sort = inl (number U32); lower = λ m e. no_struct u32 m refl e; at = 2; fits = omega arith; names = refl }

byte : (s : ℕ) → IsFieldType s (ty.Int U8)
unfolding form.out-Ty denote.Hole.Carrier.out
byte s = record { sort = inl (number U8); lower = λ m e. no_struct (ty.Int U8) m refl e; at = 0; fits = omega arith; names = refl }

a_lock : (s : ℕ) → IsFieldType s ty.Lock
unfolding form.out-Ty denote.Hole.Carrier.out
a_lock s = record { sort = inr (inr lock); lower = λ m e. no_struct ty.Lock m refl e; at = 8; fits = omega arith; names = refl }

the_stats : IsFieldType 2 (ty.Struct 1)
unfolding form.out-Ty denote.Hole.Carrier.out
the_stats = record { sort = inr (inl struct_1); lower = λ m e. let same : 1 ≡ m = some_same e in omega arith; at = 10; fits = omega arith; names = refl }

a_buf : (s : ℕ) → IsFieldType s buf_pointer
unfolding form.out-Ty denote.Hole.Carrier.out
a_buf s = record { sort = inl to_buf; lower = λ m e. no_struct buf_pointer m refl e; at = 14; fits = omega arith; names = refl }

a_run : (s : ℕ) → IsFieldType s run_pointer
unfolding form.out-Ty denote.Hole.Carrier.out
a_run s = record { sort = inl to_run; lower = λ m e. no_struct run_pointer m refl e; at = 13; fits = omega arith; names = refl }

abbrev AreSound : ℕ → StructDef → Type 0
AreSound s def = AllByRecursion (λ (x : Field). IsSoundField driver s (map sibling_field def.fields) x) def.fields

in_buf : AreSound 0 buf
in_buf = (one 0 _ _ _ (word 0), (many 0 _ _ _ 8 (omega arith) (byte 0), (one 0 _ _ _ (a_buf 0), tt)))

in_stats : AreSound 1 stats
in_stats = (one 1 _ _ _ (word 1), (one 1 _ _ _ (word 1), (one 1 _ _ _ (word 1), tt)))

in_card : AreSound 2 card
in_card =
    (one 2 _ _ _ (a_lock 2), (one 2 _ _ _ (word 2), (one 2 _ _ _ the_stats, (many 2 _ _ _ 4 (omega arith) (a_buf 2), (one 2 _ _ _ (word 2), (one 2 _ _ _ (a_buf 2), tt))))))

in_op : AreSound 3 op
in_op = (one 3 _ _ _ (word 3), (one 3 _ _ _ (a_run 3), tt))

sound_fields : (s : ℕ) (def : StructDef) → 1 ≤ length def.fields → AreSound s def → IsSoundStruct driver s def
sound_fields s def some h = record { some = some; fields = λ f x e. at_each (λ (y : Field). IsSoundField driver s (map sibling_field def.fields) y) def.fields f x h e }

sound_struct : (s : ℕ) (def : StructDef) → slice_get driver.structs s ≡ Some def → IsSoundStruct driver s def
sound_struct zero def e = subst (λ d. IsSoundStruct driver 0 d) (some_same e) (sound_fields 0 buf (omega arith) in_buf)
sound_struct (suc zero) def e = subst (λ d. IsSoundStruct driver 1 d) (some_same e) (sound_fields 1 stats (omega arith) in_stats)
sound_struct (suc (suc zero)) def e = subst (λ d. IsSoundStruct driver 2 d) (some_same e) (sound_fields 2 card (omega arith) in_card)
sound_struct (suc (suc (suc zero))) def e = subst (λ d. IsSoundStruct driver 3 d) (some_same e) (sound_fields 3 op (omega arith) in_op)
sound_struct (suc (suc (suc (suc s)))) def e = absurd cc

-- ---- globals

-- each cell's first value
abbrev AreFirst : ℕ → List Leaf → List Value → Type 0
AreFirst g [] vs = Unit {0}
AreFirst g (l ∷ ls) [] = Unit {0}
AreFirst g (l ∷ ls) (v ∷ vs) = IsFirstValue driver g l.type v × AreFirst g ls vs

first_at : (g : ℕ) (ls : List Leaf) (vs : List Value) (i : ℕ) (l : Leaf) (v : Value) → AreFirst g ls vs → slice_get ls i ≡ Some l → slice_get vs i ≡ Some v → IsFirstValue driver g l.type v
first_at g [] vs i l v h e f = let none : None ≡ Some l = e in absurd cc
first_at g (k ∷ ls) [] i l v h e f = let none : None ≡ Some v = f in absurd cc
first_at g (k ∷ ls) (w ∷ vs) zero l v h e f = subst (λ (m : Leaf). IsFirstValue driver g m.type v) (some_same e) (subst (λ (x : Value). IsFirstValue driver g k.type x) (some_same f) h.0)
first_at g (k ∷ ls) (w ∷ vs) (suc i) l v h e f = first_at g ls vs i l v h.1 e f

zero_word : IsTrue (is_in_range U32 (pos 0))
zero_word = Prim.grind (arith, in_range-from U32 (pos 0) (omega arith) (omega arith))

first_card : AreFirst 0 (all_cells driver (ty.Struct 2) 1) card_zeros
unfolding cells struct_cells leaves_below field_leaves repeated leaves form.out-Ty denote.Hole.Carrier.out
first_card = (
  (refl, refl),
  (
    (refl, zero_word),
    (
      (refl, zero_word),
      (
        (refl, zero_word),
        (
          (refl, zero_word),
          (refl, (refl, (refl, (refl, ((refl, zero_word), (refl, tt)))))),
        ),
      ),
    ),
  ),
)

first_ops : AreFirst 1 (all_cells driver (ty.Struct 3) 3) ops_zeros
unfolding cells struct_cells leaves_below field_leaves repeated leaves form.out-Ty denote.Hole.Carrier.out
first_ops = ((refl, zero_word), (refl, ((refl, zero_word), (refl, ((refl, zero_word), (refl, tt))))))

first_mode : AreFirst 2 (all_cells driver u32 1) (no_number ∷ [])
unfolding cells repeated leaves form.out-Ty denote.Hole.Carrier.out
first_mode = ((refl, zero_word), tt)

the_card : IsSoundGlobal driver 0 (global (codes "card") (ty.Struct 2) 1 false card_zeros)
unfolding cells struct_cells leaves_below field_leaves repeated leaves form.out-Ty denote.Hole.Carrier.out
the_card = record {
  sort = inr (inl struct_2);
  count = record { some = omega arith; single = λ e. refl };
  small = omega arith;
  annotation = tt;
  in_table = record { number = 11; fits = omega arith; names = refl };
  each = refl;
  first = λ i leaf v e h. first_at 0 (all_cells driver (ty.Struct 2) 1) card_zeros i leaf v first_card e h;
}

the_ops : IsSoundGlobal driver 1 (global (codes "ops") (ty.Struct 3) 3 true ops_zeros)
unfolding cells struct_cells leaves_below field_leaves repeated leaves form.out-Ty denote.Hole.Carrier.out
the_ops = record {
  sort = inr (inl struct_3);
  count = record { some = omega arith; single = λ e. absurd cc };
  small = omega arith;
  annotation = tt;
  in_table = record { number = 12; fits = omega arith; names = refl };
  each = refl;
  first = λ i leaf v e h. first_at 1 (all_cells driver (ty.Struct 3) 3) ops_zeros i leaf v first_ops e h;
}

the_mode : IsSoundGlobal driver 2 (global (codes "mode") u32 1 false (no_number ∷ []))
unfolding cells struct_cells leaves_below field_leaves repeated leaves form.out-Ty denote.Hole.Carrier.out
the_mode = record {
  sort = inl (number U32);
  count = record { some = omega arith; single = λ e. refl };
  small = omega arith;
  annotation = tt;
  in_table = record { number = 2; fits = omega arith; names = refl };
  each = refl;
  first = λ i leaf v e h. first_at 2 (all_cells driver u32 1) (no_number ∷ []) i leaf v first_mode e h;
}

sound_global : (g : ℕ) (def : GlobalDef) → slice_get driver.globals g ≡ Some def → IsSoundGlobal driver g def
sound_global zero def e = subst (λ d. IsSoundGlobal driver 0 d) (some_same e) the_card
sound_global (suc zero) def e = subst (λ d. IsSoundGlobal driver 1 d) (some_same e) the_ops
sound_global (suc (suc zero)) def e = subst (λ d. IsSoundGlobal driver 2 d) (some_same e) the_mode
sound_global (suc (suc (suc g))) def e = absurd cc

pub a_network_driver_is_sound : IsSound driver
a_network_driver_is_sound = record {
  small = record { within = small };
  few = record { within = few };
  table = table;
  structs = sound_struct;
  globals = sound_global;
  funcs = λ f func e. absurd cc;
  numbers = record { types = omega arith; globals = omega arith; structs = omega arith; funcs = omega arith };
}
