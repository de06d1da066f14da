-- The type table of a plan, as far as it was read.
use Rattle.std.proofs.Common.{◌≡◌, ℕ, zero, suc, ◌+◌, ◌<◌, ◌≤◌, Bool, true, false, List, [], ◌∷◌, ◌++◌, length, take, nat_lt, Some, None, slice_get, IsTrue, refl, sym, ap, ◌∙◌, subst, arith, append_assoc, length-append}
use Rattle.std.proofs.lemmas.List.{append-nil}
use Rattle.mdr_core.specs.declared.types.Ty.{Ty, out-Ty}
use Rattle.mdr_core.specs.declared.types.Ty.TheVariants as type
use Rattle.mdr_core.specs.TypeText.{Text, text_of, is_before}
use Rattle.mdr_core.specs.Types.{first_types, is_pointer}
use Rattle.mdr_check.specs.declared.table.TextedType.{TextedType}
use Rattle.mdr_check.specs.Tables.{struct_types, types_alone}
use Rattle.mdr_program.specs.Orders.{Rise}
use Rattle.mdr_plan.specs.Naming.{struct_number}
use Rattle.mdr_plan.specs.Steps.{first_type}
use Rattle.mdr_plan.specs.TypeTexts.{IsPointerText, structs_named}
use Rattle.mdr_plan.proofs.WrittenTexts.{are_named, written_is}
use Rattle.mdr_type_table.proofs.Levels.{pointer_scalar}
use Rattle.mdr_type_table.proofs.Before.{place_once}
use Rattle.mdr_type_table.proofs.Placed.{first_number, IsFirst, Place, First, Later, place_in, struct_count, unnumbered}
use Rattle.mdr_check_half.specs.Planned.{IsPointer, ArePointers, IsPlanTable}
use Rattle.mdr_honest.proofs.WrittenSorts.{written_some}

-- ---- pointers with their texts

abbrev pub AreRows : (names : List (List ℕ)) → List TextedType → Type 0
AreRows names [] = Unit {0}
AreRows names (t ∷ ts) = IsPointerText (struct_number names) t.ty t.text × AreRows names ts

abbrev pub last_text : List TextedType → List ℕ
last_text [] = []
last_text (t ∷ []) = t.text
last_text (t ∷ u ∷ us) = last_text (u ∷ us)

rows_more : (names : List (List ℕ)) (ts : List TextedType) (t : TextedType) → AreRows names ts → IsPointerText (struct_number names) t.ty t.text → AreRows names (ts ++ t ∷ [])
rows_more names [] t h p = (p, tt)
rows_more names (u ∷ us) t h p = (h.0, rows_more names us t h.1 p)

rise_more : (ts : List TextedType) (t : TextedType) → Rise ts → IsTrue (is_before (last_text ts) t.text) → Rise (ts ++ t ∷ [])
rise_more [] t h b = (tt, tt)
rise_more (u ∷ []) t h b = (b, (tt, tt))
rise_more (u ∷ v ∷ vs) t h b = (h.0, rise_more (v ∷ vs) t h.1 b)

last_more : (ts : List TextedType) (t : TextedType) → last_text (ts ++ t ∷ []) ≡ t.text
last_more [] t = refl
last_more (u ∷ []) t = refl
last_more (u ∷ v ∷ vs) t = last_more (v ∷ vs) t

alone_more : (ts : List TextedType) (t : TextedType) → types_alone (ts ++ t ∷ []) ≡ types_alone ts ++ t.ty ∷ []
alone_more [] t = refl
alone_more (u ∷ us) t = ap (λ (xs : List Ty). u.ty ∷ xs) (alone_more us t)

-- ---- a table that was read

pub record IsTableOf (names : List (List ℕ)) (last : List ℕ) (types : List Ty) : Type 0 where
  pub pointers : List TextedType
  pub parts : types ≡ (first_types ++ struct_types (length names)) ++ types_alone pointers
  pub rows : AreRows names pointers
  pub rise : Rise pointers
  pub last_is : last ≡ last_text pointers

-- some of the first types, or all of them and more
pub data IsRead (names : List (List ℕ)) (last : List ℕ) (types : List Ty) : Type 0 where
  Few : (n : ℕ) → n < 9 → names ≡ [] → last ≡ [] → types ≡ take n first_types → IsRead names last types
  Whole : IsTableOf names last types → IsRead names last types

few_count : (n : ℕ) → n < 9 → length (take n first_types) ≡ n
few_count zero h = refl
few_count (suc zero) h = refl
few_count (suc (suc zero)) h = refl
few_count (suc (suc (suc zero))) h = refl
few_count (suc (suc (suc (suc zero)))) h = refl
few_count (suc (suc (suc (suc (suc zero))))) h = refl
few_count (suc (suc (suc (suc (suc (suc zero)))))) h = refl
few_count (suc (suc (suc (suc (suc (suc (suc zero))))))) h = refl
few_count (suc (suc (suc (suc (suc (suc (suc (suc zero)))))))) h = refl
few_count (suc (suc (suc (suc (suc (suc (suc (suc (suc n))))))))) h = absurd (omega (arith, h))

whole_count : (names : List (List ℕ)) (last : List ℕ) (types : List Ty) (w : IsTableOf names last types) → length types ≡ 9 + length names + length (types_alone w.pointers)
whole_count names last types w =
    let all : length types ≡ length ((first_types ++ struct_types (length names)) ++ types_alone w.pointers) = ap length w.parts in
    let a = length-append (first_types ++ struct_types (length names)) (types_alone w.pointers) in
    let b = length-append first_types (struct_types (length names)) in
    let c = struct_count (length names) in
    omega (arith, all, a, b, c)

-- ---- one of the first types

next_first : (n : ℕ) → n < 8 → take n first_types ++ first_type n ∷ [] ≡ take (suc n) first_types
unfolding first_type
next_first zero h = refl
next_first (suc zero) h = refl
next_first (suc (suc zero)) h = refl
next_first (suc (suc (suc zero))) h = refl
next_first (suc (suc (suc (suc zero)))) h = refl
next_first (suc (suc (suc (suc (suc zero))))) h = refl
next_first (suc (suc (suc (suc (suc (suc zero)))))) h = refl
next_first (suc (suc (suc (suc (suc (suc (suc zero))))))) h = refl
next_first (suc (suc (suc (suc (suc (suc (suc (suc n)))))))) h = absurd (omega (arith, h))

last_first : take 8 first_types ++ first_type 8 ∷ [] ≡ first_types
unfolding first_type
last_first = refl

lock_read : IsRead [] [] (take 8 first_types ++ first_type 8 ∷ [])
unfolding struct_types
lock_read = Whole (record { pointers = []; parts = last_first; rows = tt; rise = tt; last_is = refl })

few_more : (n : ℕ) → n < 9 → (n < 8 → IsRead [] [] (take n first_types ++ first_type n ∷ [])) → IsRead [] [] (take n first_types ++ first_type n ∷ [])
few_more n h below = by (nat_lt n 8) refl
  where
    by : (b : Bool) → nat_lt n 8 ≡ b → IsRead [] [] (take n first_types ++ first_type n ∷ [])
    by true e = below (grind (arith, e))
    by false e = let is : 8 ≡ n = (let le : 8 ≤ n = grind (arith, e) in omega (arith, le, h)) in subst (λ m. IsRead [] [] (take m first_types ++ first_type m ∷ [])) is lock_read

few_next : (n : ℕ) → n < 9 → IsRead [] [] (take n first_types ++ first_type n ∷ [])
few_next n h = few_more n h (λ below. Few (suc n) (omega (arith, below)) refl refl (next_first n below))

pub first_read : (names : List (List ℕ)) (last : List ℕ) (types : List Ty) → IsRead names last types → length types < 9 → IsRead names last (types ++ first_type (length types) ∷ [])
first_read names last types (Few n h e f g) less =
    let count : length types ≡ n = ap length g ∙ few_count n h in
    let list : types ++ first_type (length types) ∷ [] ≡ take n first_types ++ first_type n ∷ [] = λ i. g i ++ first_type (count i) ∷ [] in
    subst (λ (ns : List (List ℕ)). IsRead ns last (types ++ first_type (length types) ∷ [])) (sym e)
    (subst (λ (l : List ℕ). IsRead [] l (types ++ first_type (length types) ∷ [])) (sym f)
    (subst (λ (ts : List Ty). IsRead [] [] ts) (sym list) (few_next n h)))
first_read names last types (Whole w) less = let count = whole_count names last types w in absurd (omega (arith, count, less))

-- ---- a struct

one_more : (names : List (List ℕ)) (name : List ℕ) → suc (length names) ≡ length (names ++ name ∷ [])
one_more [] name = refl
one_more (x ∷ names) name = ap suc (one_more names name)

struct_next : (n : ℕ) → struct_types n ++ type.Struct n ∷ [] ≡ struct_types (suc n)
unfolding struct_types
struct_next n = refl

no_pointers : (ts : List TextedType) → length (types_alone ts) ≡ 0 → ts ≡ []
no_pointers [] e = refl
no_pointers (t ∷ ts) e = absurd (omega (arith, e))

struct_whole : (names : List (List ℕ)) (last : List ℕ) (types : List Ty) (name : List ℕ) → (w : IsTableOf names last types) → w.pointers ≡ [] → IsTableOf (names ++ name ∷ []) last (types ++ type.Struct (length names) ∷ [])
struct_whole names last types name w none = record {
  pointers = [];
  parts =
      ap (λ (ts : List Ty). ts ++ type.Struct (length names) ∷ []) (w.parts ∙ ap (λ (ps : List TextedType). (first_types ++ struct_types (length names)) ++ types_alone ps) none ∙ append-nil (first_types ++ struct_types (length names)))
      ∙ append_assoc first_types (struct_types (length names)) (type.Struct (length names) ∷ [])
      ∙ ap (λ (ts : List Ty). first_types ++ ts) (struct_next (length names) ∙ ap struct_types (one_more names name))
      ∙ sym (append-nil (first_types ++ struct_types (length (names ++ name ∷ []))));
  rows = tt;
  rise = tt;
  last_is = w.last_is ∙ ap last_text none;
}

pub struct_read : (names : List (List ℕ)) (last : List ℕ) (types : List Ty) (name : List ℕ) → IsRead names last types → length types ≡ 9 + length names → IsRead (names ++ name ∷ []) last (types ++ type.Struct (length names) ∷ [])
struct_read names last types name (Few n h e f g) count =
    let few : length types ≡ n = ap length g ∙ few_count n h in
    absurd (omega (arith, few, h, count))
struct_read names last types name (Whole w) count =
    let all = whole_count names last types w in
    let none : length (types_alone w.pointers) ≡ 0 = omega (arith, all, count) in
    Whole (struct_whole names last types name w (no_pointers w.pointers none))

-- ---- a pointer

pub pointer_read : (names : List (List ℕ)) (last : List ℕ) (types : List Ty) (ty : Ty) (text : List ℕ) → IsRead names last types → 8 < length types → IsPointerText (struct_number names) ty text → IsTrue (is_before last text) → IsRead names text (types ++ ty ∷ [])
pointer_read names last types ty text (Few n h e f g) many is before =
    let few : length types ≡ n = ap length g ∙ few_count n h in
    absurd (omega (arith, few, h, many))
pointer_read names last types ty text (Whole w) many is before =
    let new : TextedType = record { text = text; ty = ty } in
    Whole (record {
      pointers = w.pointers ++ new ∷ [];
      parts =
          ap (λ (ts : List Ty). ts ++ ty ∷ []) w.parts
          ∙ append_assoc (first_types ++ struct_types (length names)) (types_alone w.pointers) (ty ∷ [])
          ∙ ap (λ (ts : List Ty). (first_types ++ struct_types (length names)) ++ ts) (sym (alone_more w.pointers new));
      rows = rows_more names w.pointers new w.rows is;
      rise = rise_more w.pointers new w.rise (subst (λ (l : List ℕ). IsTrue (is_before l text)) w.last_is before);
      last_is = sym (last_more w.pointers new);
    })

-- ---- the whole table

row_at : (names : List (List ℕ)) (ts : List TextedType) (j : ℕ) (x : TextedType) → AreRows names ts → slice_get ts j ≡ Some x → IsPointerText (struct_number names) x.ty x.text
row_at names [] j x h e = absurd cc
row_at names (t ∷ ts) zero x h e = let same : t ≡ x = cc in subst (λ (y : TextedType). IsPointerText (struct_number names) y.ty y.text) same h.0
row_at names (t ∷ ts) (suc j) x h e = row_at names ts j x h.1 e

row_text : (names : List (List ℕ)) (ty : Ty) (bytes : List ℕ) → IsPointerText (struct_number names) ty bytes → (text_of (structs_named names) ty).bytes ≡ bytes
row_text names ty bytes h = ap (λ (x : Text). x.bytes) (written_is (structs_named names) (struct_number names) ty h.pointer h.whole (are_named names) h.written) ∙ h.same

row_pointer : (names : List (List ℕ)) (ty : Ty) (bytes : List ℕ) → IsPointerText (struct_number names) ty bytes → IsPointer (length names) ty
row_pointer names ty bytes h = record { points = h.points; formed = pointer_scalar (length names) ty h.points (written_some names ty h.pointer h.whole h.written).formed }

rows_pointers : (names : List (List ℕ)) (ts : List TextedType) → AreRows names ts → ArePointers (length names) (types_alone ts)
rows_pointers names [] h = tt
rows_pointers names (t ∷ ts) h = (row_pointer names t.ty t.text h.0, rows_pointers names ts h.1)

module _ (names : List (List ℕ)) (last : List ℕ) (types : List Ty) (w : IsTableOf names last types) where
  both_first : (i j : ℕ) (t : Ty) → IsFirst (length names) i t → IsFirst (length names) j t → i ≡ j
  both_first i j t f g = let e : Some i ≡ Some j = sym f.number ∙ g.number in cc

  first_and_later : {A : Type 0} (i j : ℕ) (t : Ty) (x : TextedType) → IsFirst (length names) i t → slice_get w.pointers j ≡ Some x → x.ty ≡ t → A
  first_and_later i j t x f e is =
      let row = row_at names w.pointers j x w.rows e in
      let none : first_number (out-Ty t) ≡ None = unnumbered (out-Ty t) (subst (λ (u : Ty). IsTrue (is_pointer u)) is row.points) in
      let no : None ≡ Some i = sym none ∙ f.number in
      absurd cc

  both_later : (i j a b : ℕ) (t : Ty) (x y : TextedType) → slice_get w.pointers a ≡ Some x → slice_get w.pointers b ≡ Some y → x.ty ≡ t → y.ty ≡ t → i ≡ 9 + length names + a → j ≡ 9 + length names + b → i ≡ j
  both_later i j a b t x y e f p q l m =
      let one = row_text names x.ty x.text (row_at names w.pointers a x w.rows e) in
      let other = row_text names y.ty y.text (row_at names w.pointers b y w.rows f) in
      let same : x.text ≡ y.text = sym one ∙ ap (λ (u : Ty). (text_of (structs_named names) u).bytes) (p ∙ sym q) ∙ other in
      let at : a ≡ b = place_once w.pointers w.rise a b x y e f same in
      omega (arith, l, m, at)

  placed_once : (i j : ℕ) (t : Ty) → Place (length names) w.pointers i t → Place (length names) w.pointers j t → i ≡ j
  placed_once i j t (First f) (First g) = both_first i j t f g
  placed_once i j t (First f) (Later b y e is m) = first_and_later i b t y f e is
  placed_once i j t (Later a x e is l) (First g) = first_and_later j a t x g e is
  placed_once i j t (Later a x e p l) (Later b y f q m) = both_later i j a b t x y e f p q l m

  place : (i : ℕ) (t : Ty) → slice_get types i ≡ Some t → Place (length names) w.pointers i t
  place i t e = place_in (length names) w.pointers i t (subst (λ (ts : List Ty). slice_get ts i ≡ Some t) w.parts e)

  whole_table : IsPlanTable types
  whole_table = record {
    structs = length names;
    pointers = types_alone w.pointers;
    parts = w.parts;
    are = rows_pointers names w.pointers w.rows;
    once = λ i j t e f. placed_once i j t (place i t e) (place j t f);
  }

pub table_read : (names : List (List ℕ)) (last : List ℕ) (types : List Ty) → IsRead names last types → 8 < length types → IsPlanTable types
table_read names last types (Few n h e f g) many =
    let few : length types ≡ n = ap length g ∙ few_count n h in
    absurd (omega (arith, few, h, many))
table_read names last types (Whole w) many = whole_table names last types w
