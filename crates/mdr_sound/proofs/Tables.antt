-- Type tables are sound.
use Rattle.std.proofs.Common.{◌≡◌, ℕ, zero, suc, ◌+◌, ◌<◌, ◌⊎◌, inl, inr, Bool, true, false, nat_lt, List, [], ◌∷◌, ◌++◌, length, Some, slice_get, IsTrue, refl, sym, ap, subst, ◌∙◌, arith}
use Rattle.std.proofs.lemmas.List.{length-append}
use Rattle.mdr_core.specs.declared.kind.Kind.{Kind}
use Rattle.mdr_core.specs.declared.kind.Kind.TheVariants.{U8, U16, U32, U64, S8, S16, S32, S64}
use Rattle.mdr_core.specs.declared.program.Program.{Program}
use Rattle.mdr_core.specs.declared.program.StructDef.{StructDef}
use Rattle.mdr_core.specs.declared.types.Ty.{Ty, out-Ty}
use Rattle.mdr_core.specs.declared.types.Ty.TheOpen.{Ty-F}
use Rattle.mdr_core.specs.declared.types.Ty.TheVariants as type
use Rattle.mdr_core.specs.Kinds.{kind_number}
use Rattle.mdr_core.specs.Layout.{chosen}
use Rattle.mdr_core.specs.Sound.{IsObjectSort, IsTable}
use Rattle.mdr_core.specs.TypeText.{text_of, is_before}
use Rattle.mdr_core.specs.Types.{sort_of, first_types, is_pointer, is_pointer_by}
use Rattle.mdr_core.proofs.Viewed.{some_same}
use Rattle.mdr_check.specs.declared.table.TextedType.{TextedType}
use Rattle.mdr_check.specs.Tables.{struct_types, types_alone, type_table}
use Rattle.mdr_program.specs.Orders.{Rise, IsAmong, IsTexted, AreTexted, IsInOrder}
use Rattle.mdr_program.proofs.Rising.{tables_are_in_order}
use Rattle.mdr_program.proofs.FirstNumbers.{tables_have_first_numbers}
use Rattle.mdr_sound.proofs.Reading.{get_mapped}
use Rattle.mdr_sound.proofs.Layers.{sort_int, sort_lock}
use Rattle.mdr_sound.proofs.Sorts.{struct_aggregate}

-- ---- texts in their order

not_itself_by : (x : ℕ) (rest : Bool) (p : Bool) → nat_lt x x ≡ p → rest ≡ false → chosen p true (chosen p false rest) ≡ false
not_itself_by x rest true e f = absurd (grind (arith, e))
not_itself_by x rest false e f = f

not_itself : (xs : List ℕ) → is_before xs xs ≡ false
not_itself [] = refl
not_itself (x ∷ xs) = not_itself_by x (is_before xs xs) (nat_lt x x) refl (not_itself xs)

through_by : (x y z : ℕ) (a b c : Bool) (p q r s t u : Bool) → nat_lt x y ≡ p → nat_lt y x ≡ q → nat_lt y z ≡ r → nat_lt z y ≡ s → nat_lt x z ≡ t → nat_lt z x ≡ u
    → (a ≡ true → b ≡ true → c ≡ true)
    → chosen p true (chosen q false a) ≡ true → chosen r true (chosen s false b) ≡ true → chosen t true (chosen u false c) ≡ true
through_by x y z a b c p q r s true u ep eq er es et eu rest e f = refl
through_by x y z a b c true q true s false u ep eq er es et eu rest e f = absurd (grind (arith, ep, er, et))
through_by x y z a b c true q false false false u ep eq er es et eu rest e f = absurd (grind (arith, ep, er, es, et))
through_by x y z a b c true q false true false u ep eq er es et eu rest e f = cc
through_by x y z a b c false true r s false u ep eq er es et eu rest e f = cc
through_by x y z a b c false false true s false u ep eq er es et eu rest e f = absurd (grind (arith, ep, eq, er, et))
through_by x y z a b c false false false true false u ep eq er es et eu rest e f = cc
through_by x y z a b c false false false false false true ep eq er es et eu rest e f = absurd (grind (arith, ep, eq, er, es, eu))
through_by x y z a b c false false false false false false ep eq er es et eu rest e f = rest e f

through : (xs ys zs : List ℕ) → is_before xs ys ≡ true → is_before ys zs ≡ true → is_before xs zs ≡ true
through xs [] zs e f = cc
through [] (y ∷ ys) [] e f = cc
through [] (y ∷ ys) (z ∷ zs) e f = refl
through (x ∷ xs) (y ∷ ys) [] e f = cc
through (x ∷ xs) (y ∷ ys) (z ∷ zs) e f =
    through_by x y z (is_before xs ys) (is_before ys zs) (is_before xs zs) (nat_lt x y) (nat_lt y x) (nat_lt y z) (nat_lt z y) (nat_lt x z) (nat_lt z x) refl refl refl refl refl refl (through xs ys zs) e f

above_all : (t : TextedType) (ts : List TextedType) (j : ℕ) (y : TextedType) → Rise (t ∷ ts) → slice_get ts j ≡ Some y → is_before t.text y.text ≡ true
above_all t [] j y h e = cc
above_all t (u ∷ us) zero y h e = subst (λ (v : TextedType). is_before t.text v.text ≡ true) (some_same e) h.0
above_all t (u ∷ us) (suc j) y h e = through t.text u.text y.text h.0 (above_all u us j y h.1 e)

never : (xs ys : List ℕ) → is_before xs ys ≡ true → xs ≡ ys → ⊥
never xs ys e same = by (is_before xs xs) (ap (is_before xs) same ∙ e) (not_itself xs)
  where
    by : (b : Bool) → b ≡ true → b ≡ false → ⊥
    by true e f = cc
    by false e f = cc

-- a text stands there once
rise_once : (ts : List TextedType) (i j : ℕ) (x y : TextedType) → Rise ts → slice_get ts i ≡ Some x → slice_get ts j ≡ Some y → x.text ≡ y.text → i ≡ j
rise_once [] i j x y h e f same = cc
rise_once (t ∷ ts) zero zero x y h e f same = refl
rise_once (t ∷ ts) zero (suc j) x y h e f same = absurd (never t.text y.text (above_all t ts j y h f) (ap (λ (v : TextedType). v.text) (some_same e) ∙ same))
rise_once (t ∷ ts) (suc i) zero x y h e f same = absurd (never t.text x.text (above_all t ts i x h e) (ap (λ (v : TextedType). v.text) (some_same f) ∙ sym same))
rise_once (t ∷ ts) (suc i) (suc j) x y h e f same = ap suc (rise_once ts i j x y h.1 e f same)

pub texted_at : (structs : List StructDef) (occurring : List Ty) (ts : List TextedType) (i : ℕ) (x : TextedType) → AreTexted structs occurring ts → slice_get ts i ≡ Some x → IsTexted structs occurring x
texted_at structs occurring [] i x h e = cc
texted_at structs occurring (t ∷ ts) zero x h e = subst (IsTexted structs occurring) (some_same e) h.0
texted_at structs occurring (t ∷ ts) (suc i) x h e = texted_at structs occurring ts i x h.1 e

-- ---- at which place a type stands

-- behind the first list
pub record IsBehind {A : Type 0} (xs ys : List A) (i : ℕ) (t : A) : Type 0 where
  pub place : ℕ
  pub far : i ≡ length xs + place
  pub names : slice_get ys place ≡ Some t

pub in_either : {A : Type 0} (xs ys : List A) (i : ℕ) (t : A) → slice_get (xs ++ ys) i ≡ Some t → (slice_get xs i ≡ Some t) ⊎ IsBehind xs ys i t
in_either [] ys i t e = inr (record { place = i; far = omega arith; names = e })
in_either (x ∷ xs) ys zero t e = inl e
in_either (x ∷ xs) ys (suc i) t e = one (in_either xs ys i t e)
  where
    one : (slice_get xs i ≡ Some t) ⊎ IsBehind xs ys i t → (slice_get xs i ≡ Some t) ⊎ IsBehind (x ∷ xs) ys (suc i) t
    one (inl f) = inl f
    one (inr b) = let far = b.far in inr (record { place = b.place; far = omega (arith, far); names = b.names })

-- the place of a type that is no pointer
abbrev place_by : Ty-F Ty → ℕ
place_by (Ty-F.Int k) = kind_number k
place_by Ty-F.Lock = 8
place_by (Ty-F.Struct s) = 9 + s
place_by (Ty-F.Ptr t) = 0
place_by Ty-F.VoidPtr = 0
place_by (Ty-F.Fun ts) = 0
place_by Ty-F.Void = 0

-- a type of the first part of the table
record IsFirst (n i : ℕ) (t : Ty) : Type 0 where
  place : place_by (out-Ty t) ≡ i
  plain : is_pointer t ≡ false
  formed : IsObjectSort (sort_of n t)

integer_first : (n : ℕ) (k : Kind) → IsFirst n (kind_number k) (type.Int k)
integer_first n k = record { place = ap place_by (type.outs-Int k); plain = ap is_pointer_by (type.outs-Int k); formed = inl (sort_int n k) }

lock_first : (n : ℕ) → IsFirst n 8 type.Lock
lock_first n = record { place = ap place_by type.outs-Lock; plain = ap is_pointer_by type.outs-Lock; formed = inr (inr (sort_lock n)) }

struct_first : (n s : ℕ) → s < n → IsFirst n (9 + s) (type.Struct s)
struct_first n s h = record { place = ap place_by (type.outs-Struct s); plain = ap is_pointer_by (type.outs-Struct s); formed = inr (inl (struct_aggregate n s h)) }

first_at : (n i : ℕ) (t : Ty) → slice_get first_types i ≡ Some t → IsFirst n i t
first_at n zero t e = subst (IsFirst n 0) (some_same e) (integer_first n U8)
first_at n (suc zero) t e = subst (IsFirst n 1) (some_same e) (integer_first n U16)
first_at n (suc (suc zero)) t e = subst (IsFirst n 2) (some_same e) (integer_first n U32)
first_at n (suc (suc (suc zero))) t e = subst (IsFirst n 3) (some_same e) (integer_first n U64)
first_at n (suc (suc (suc (suc zero)))) t e = subst (IsFirst n 4) (some_same e) (integer_first n S8)
first_at n (suc (suc (suc (suc (suc zero))))) t e = subst (IsFirst n 5) (some_same e) (integer_first n S16)
first_at n (suc (suc (suc (suc (suc (suc zero)))))) t e = subst (IsFirst n 6) (some_same e) (integer_first n S32)
first_at n (suc (suc (suc (suc (suc (suc (suc zero))))))) t e = subst (IsFirst n 7) (some_same e) (integer_first n S64)
first_at n (suc (suc (suc (suc (suc (suc (suc (suc zero)))))))) t e = subst (IsFirst n 8) (some_same e) (lock_first n)
first_at n (suc (suc (suc (suc (suc (suc (suc (suc (suc i))))))))) t e = cc

pub how_many : (n : ℕ) → length (struct_types n) ≡ n
unfolding struct_types
how_many zero = refl
how_many (suc n) =
    let parts = length-append (struct_types n) (type.Struct n ∷ []) in
    let below = how_many n in
    omega (arith, parts, below)

abbrev IsStructAt : ℕ → ℕ → Ty → Type 0
IsStructAt n s t = (s < n) × (type.Struct s ≡ t)

last_struct : (n s place : ℕ) (t : Ty) → s ≡ n + place → slice_get (type.Struct n ∷ []) place ≡ Some t → IsStructAt (suc n) s t
last_struct n s zero t far e = let same : n ≡ s = omega (arith, far) in (omega (arith, far), ap type.Struct (sym same) ∙ some_same e)
last_struct n s (suc place) t far e = cc

struct_either : (n s : ℕ) (t : Ty) → (slice_get (struct_types n) s ≡ Some t → IsStructAt n s t) → (slice_get (struct_types n) s ≡ Some t) ⊎ IsBehind (struct_types n) (type.Struct n ∷ []) s t → IsStructAt (suc n) s t
struct_either n s t lower (inl e) = let h = lower e in let below = h.0 in (omega (arith, below), h.1)
struct_either n s t lower (inr b) = last_struct n s b.place t (b.far ∙ ap (λ m. m + b.place) (how_many n)) b.names

struct_at : (n s : ℕ) (t : Ty) → slice_get (struct_types n) s ≡ Some t → IsStructAt n s t
unfolding struct_types
struct_at zero s t e = cc
struct_at (suc n) s t e = struct_either n s t (struct_at n s t) (in_either (struct_types n) (type.Struct n ∷ []) s t e)

-- a pointer of the table
record IsLater (pointers : List TextedType) (n i : ℕ) (t : Ty) : Type 0 where
  place : ℕ
  far : i ≡ 9 + n + place
  texted : TextedType
  names : slice_get pointers place ≡ Some texted
  type : texted.ty ≡ t

struct_later : (n s : ℕ) (t : Ty) → slice_get (struct_types n) s ≡ Some t → IsFirst n (9 + s) t
struct_later n s t e = let h = struct_at n s t e in subst (IsFirst n (9 + s)) h.1 (struct_first n s h.0)

low_by : (n i : ℕ) (t : Ty) → (slice_get first_types i ≡ Some t) ⊎ IsBehind first_types (struct_types n) i t → IsFirst n i t
low_by n i t (inl e) = first_at n i t e
low_by n i t (inr b) = subst (λ (j : ℕ). IsFirst n j t) (sym b.far) (struct_later n b.place t b.names)

types_at : (pointers : List TextedType) (n i : ℕ) (t : Ty) → (slice_get (first_types ++ struct_types n) i ≡ Some t) ⊎ IsBehind (first_types ++ struct_types n) (types_alone pointers) i t → IsFirst n i t ⊎ IsLater pointers n i t
types_at pointers n i t (inl e) = inl (low_by n i t (in_either first_types (struct_types n) i t e))
types_at pointers n i t (inr b) =
    let m = get_mapped (λ (x : TextedType). x.ty) pointers b.place t b.names in
    let parts = length-append first_types (struct_types n) in
    let many = how_many n in
    let far = b.far in
    inr (record { place = b.place; far = omega (arith, parts, many, far); texted = m.item; names = m.names; type = m.made })

type_at : (structs : List StructDef) (occurring : List Ty) (i : ℕ) (t : Ty) (o : IsInOrder structs occurring (type_table structs occurring)) → slice_get (type_table structs occurring) i ≡ Some t → IsFirst (length structs) i t ⊎ IsLater o.pointers (length structs) i t
type_at structs occurring i t o e =
    types_at o.pointers (length structs) i t (in_either (first_types ++ struct_types (length structs)) (types_alone o.pointers) i t (ap (λ (ts : List Ty). slice_get ts i) (sym o.parts) ∙ e))

-- ---- a type stands there once

text_is : (structs : List StructDef) (occurring : List Ty) (pointers : List TextedType) (n i : ℕ) (t : Ty) → AreTexted structs occurring pointers → (l : IsLater pointers n i t) → l.texted.text ≡ (text_of structs t).bytes
text_is structs occurring pointers n i t h l = (texted_at structs occurring pointers l.place l.texted h l.names).text ∙ ap (λ (u : Ty). (text_of structs u).bytes) l.type

is_later_pointer : (structs : List StructDef) (occurring : List Ty) (pointers : List TextedType) (n i : ℕ) (t : Ty) → AreTexted structs occurring pointers → IsLater pointers n i t → is_pointer t ≡ true
is_later_pointer structs occurring pointers n i t h l = ap is_pointer (sym l.type) ∙ (texted_at structs occurring pointers l.place l.texted h l.names).pointer

not_both : (b : Bool) {A : Type 0} → b ≡ true → b ≡ false → A
not_both true e f = cc
not_both false e f = cc

once_by : (structs : List StructDef) (occurring : List Ty) (pointers : List TextedType) (n i j : ℕ) (t : Ty) → AreTexted structs occurring pointers → Rise pointers → IsFirst n i t ⊎ IsLater pointers n i t → IsFirst n j t ⊎ IsLater pointers n j t → i ≡ j
once_by structs occurring pointers n i j t h rise (inl a) (inl b) = sym a.place ∙ b.place
once_by structs occurring pointers n i j t h rise (inl a) (inr b) = not_both (is_pointer t) (is_later_pointer structs occurring pointers n j t h b) a.plain
once_by structs occurring pointers n i j t h rise (inr a) (inl b) = not_both (is_pointer t) (is_later_pointer structs occurring pointers n i t h a) b.plain
once_by structs occurring pointers n i j t h rise (inr a) (inr b) =
    let same : a.texted.text ≡ b.texted.text = text_is structs occurring pointers n i t h a ∙ sym (text_is structs occurring pointers n j t h b) in
    let place = rise_once pointers a.place b.place a.texted b.texted rise a.names b.names same in
    a.far ∙ ap (λ (m : ℕ). 9 + n + m) place ∙ sym b.far

-- ---- each type is one of objects

formed_by : (structs : List StructDef) (occurring : List Ty) (pointers : List TextedType) (i : ℕ) (t : Ty) → AreTexted structs occurring pointers → ((u : Ty) → IsAmong u occurring → IsTrue (is_pointer u) → IsObjectSort (sort_of (length structs) u)) → IsFirst (length structs) i t ⊎ IsLater pointers (length structs) i t → IsObjectSort (sort_of (length structs) t)
formed_by structs occurring pointers i t h formed (inl a) = a.formed
formed_by structs occurring pointers i t h formed (inr b) =
    let x = texted_at structs occurring pointers b.place b.texted h b.names in
    subst (λ (u : Ty). IsObjectSort (sort_of (length structs) u)) b.type (formed b.texted.ty x.occurs x.pointer)

pub table_sound : (program : Program) (occurring : List Ty) → program.types ≡ type_table program.structs occurring → ((t : Ty) → IsAmong t occurring → IsTrue (is_pointer t) → IsObjectSort (sort_of (length program.structs) t)) → IsTable program
table_sound program occurring is formed =
    let o = tables_are_in_order program.structs occurring in
    let f = tables_have_first_numbers program.structs occurring in
    record {
      kinds = λ k. ap (λ (ts : List Ty). slice_get ts (kind_number k)) is ∙ f.kinds k;
      lock = ap (λ (ts : List Ty). slice_get ts 8) is ∙ f.lock;
      structs = λ s h. ap (λ (ts : List Ty). slice_get ts (9 + s)) is ∙ f.numbers s h;
      formed = λ i t e. formed_by program.structs occurring o.pointers i t o.texted formed (type_at program.structs occurring i t o (ap (λ (ts : List Ty). slice_get ts i) (sym is) ∙ e));
      once = λ i j t e g. once_by program.structs occurring o.pointers (length program.structs) i j t o.texted o.rise (type_at program.structs occurring i t o (ap (λ (ts : List Ty). slice_get ts i) (sym is) ∙ e)) (type_at program.structs occurring j t o (ap (λ (ts : List Ty). slice_get ts j) (sym is) ∙ g));
    }
