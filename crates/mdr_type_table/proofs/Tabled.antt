-- A table has each type that occurs, once.
use Rattle.std.proofs.Common.{ℕ, zero, suc, ◌≡◌, ◌+◌, ◌<◌, ◌≤◌, inl, inr, refl, Bool, true, false, nat_lt, List, [], ◌∷◌, length, Some, None, slice_get, IsTrue, ap, sym, ◌∙◌, subst, arith}
use Rattle.std.proofs.lemmas.Option.{slice_get_within}
use Rattle.mdr_core.specs.declared.program.Program.{Program}
use Rattle.mdr_core.specs.declared.program.StructDef.{StructDef}
use Rattle.mdr_core.specs.declared.types.Ty.{Ty, out-Ty, roll-Ty, roll-out-Ty}
use Rattle.mdr_core.specs.declared.types.Ty.TheOpen.{Ty-F}
use Rattle.mdr_core.specs.declared.types.Ty.TheVariants as type
use Rattle.mdr_core.specs.Kinds.{kind_number}
use Rattle.mdr_core.specs.Layout.{chosen}
use Rattle.mdr_core.specs.Sound.{IsObjectSort, IsTable}
use Rattle.mdr_core.specs.TypeText.{text_of, is_before}
use Rattle.mdr_core.specs.Types.{Wrong, Empty, Aggregate, HasNumber, sort_of, is_pointer, is_pointer_by}
use Rattle.mdr_check.specs.declared.table.TextedType.{TextedType}
use Rattle.mdr_check.specs.Tables.{type_table}
use Rattle.mdr_program.specs.Occurring.{occurring}
use Rattle.mdr_program.specs.Orders.{IsAmong, HasText, IsTexted, AreTexted, IsInOrder}
use Rattle.mdr_program.specs.Programs.{made}
use Rattle.mdr_program.proofs.FirstNumbers.{tables_have_first_numbers}
use Rattle.mdr_program.proofs.Happening.{types_occur}
use Rattle.mdr_program.proofs.Rising.{tables_are_in_order}
use Rattle.mdr_type_table.specs.Apart.{AreNamed, IsFormed}
use Rattle.mdr_type_table.proofs.Apart.{texts_tell_types_apart}
use Rattle.mdr_type_table.proofs.Levels.{sort_at, pointer_scalar}
use Rattle.mdr_type_table.specs.Tabled.{TablesHaveEachType, TypesThatOccurHaveNumbers}
use Rattle.mdr_type_table.proofs.Among.{tables_list_what_occurs}
use Rattle.mdr_type_table.proofs.Before.{place_once, next_rises}
use Rattle.mdr_type_table.proofs.Placed.{first_number, IsFirst, Place, First, Later, place_in, later_in, unnumbered}

texted_at : (structs : List StructDef) (os : List Ty) (ts : List TextedType) (j : ℕ) (x : TextedType) → AreTexted structs os ts → slice_get ts j ≡ Some x → IsTexted structs os x
texted_at structs os [] j x h e = absurd cc
texted_at structs os (t ∷ ts) zero x h e = let same : t ≡ x = cc in subst (IsTexted structs os) same h.0
texted_at structs os (t ∷ ts) (suc j) x h e = texted_at structs os ts j x h.1 e

-- a text among others
record IsAt (ts : List TextedType) (bytes : List ℕ) : Type 0 where
  place : ℕ
  texted : TextedType
  there : slice_get ts place ≡ Some texted
  text : texted.text ≡ bytes

text_at : (ts : List TextedType) (bytes : List ℕ) → HasText bytes ts → IsAt ts bytes
text_at [] bytes h = absurd h
text_at (t ∷ ts) bytes (inl e) = record { place = 0; texted = t; there = refl; text = e }
text_at (t ∷ ts) bytes (inr h) = let a = text_at ts bytes h in record { place = suc a.place; texted = a.texted; there = a.there; text = a.text }

-- ---- a table in order, of types that are formed

module _ (structs : List StructDef) (os table : List Ty) (order : IsInOrder structs os table) (formed : (t : Ty) → IsAmong t os → IsTrue (is_pointer t) → IsFormed structs t) where
  place : (i : ℕ) (t : Ty) → slice_get table i ≡ Some t → Place (length structs) order.pointers i t
  place i t e = place_in (length structs) order.pointers i t (subst (λ (ts : List Ty). slice_get ts i ≡ Some t) order.parts e)

  texted : (j : ℕ) (x : TextedType) → slice_get order.pointers j ≡ Some x → IsTexted structs os x
  texted j x e = texted_at structs os order.pointers j x order.texted e

  placed_sort : (i : ℕ) (t : Ty) → Place (length structs) order.pointers i t → IsObjectSort (sort_of (length structs) t)
  placed_sort i t (First h) = h.sort
  placed_sort i t (Later j x e is l) =
      let w = texted j x e in
      subst (λ (u : Ty). IsObjectSort (sort_of (length structs) u)) is (inl (pointer_scalar (length structs) x.ty w.pointer (formed x.ty w.occurs w.pointer).formed))

  both_first : (i j : ℕ) (t : Ty) → IsFirst (length structs) i t → IsFirst (length structs) j t → i ≡ j
  both_first i j t f g = let e : Some i ≡ Some j = sym f.number ∙ g.number in cc

  first_and_later : {A : Type 0} (i j : ℕ) (t : Ty) (x : TextedType) → IsFirst (length structs) i t → slice_get order.pointers j ≡ Some x → x.ty ≡ t → A
  first_and_later i j t x f e is =
      let w = texted j x e in
      let none : first_number (out-Ty t) ≡ None = unnumbered (out-Ty t) (subst (λ (u : Ty). IsTrue (is_pointer u)) is w.pointer) in
      let no : None ≡ Some i = sym none ∙ f.number in
      absurd cc

  both_later : (i j a b : ℕ) (t : Ty) (x y : TextedType) → slice_get order.pointers a ≡ Some x → slice_get order.pointers b ≡ Some y → x.ty ≡ t → y.ty ≡ t → i ≡ 9 + length structs + a → j ≡ 9 + length structs + b → i ≡ j
  both_later i j a b t x y e f p q l m =
      let same : x.text ≡ y.text = (texted a x e).text ∙ ap (λ (u : Ty). (text_of structs u).bytes) (p ∙ sym q) ∙ sym ((texted b y f).text) in
      let at : a ≡ b = place_once order.pointers order.rise a b x y e f same in
      omega (arith, l, m, at)

  placed_once : (i j : ℕ) (t : Ty) → Place (length structs) order.pointers i t → Place (length structs) order.pointers j t → i ≡ j
  placed_once i j t (First f) (First g) = both_first i j t f g
  placed_once i j t (First f) (Later b y e is m) = first_and_later i b t y f e is
  placed_once i j t (Later a x e is l) (First g) = first_and_later j a t x g e is
  placed_once i j t (Later a x e p l) (Later b y f q m) = both_later i j a b t x y e f p q l m

  has_each : AreNamed structs → (t : Ty) → IsAmong t os → IsTrue (is_pointer t) → (i : ℕ) × (slice_get table i ≡ Some t)
  has_each named t among p =
      let a = text_at order.pointers (text_of structs t).bytes (order.all t among p) in
      let w = texted a.place a.texted a.there in
      let same : a.texted.ty ≡ t = texts_tell_types_apart structs a.texted.ty t named (formed a.texted.ty w.occurs w.pointer) (formed t among p) (sym w.text ∙ a.text) in
      (9 + length structs + a.place, ap (λ (ts : List Ty). slice_get ts (9 + length structs + a.place)) order.parts ∙ later_in (length structs) order.pointers a.place a.texted a.there ∙ ap Some same)

  -- what stands behind the structs
  pub record IsLater (i : ℕ) (t : Ty) : Type 0 where
    pub place : ℕ
    pub pointer : TextedType
    pub there : slice_get order.pointers place ≡ Some pointer
    pub is : pointer.ty ≡ t
    pub at : i ≡ 9 + length structs + place

  later_by : (i : ℕ) (t : Ty) → 9 + length structs ≤ i → Place (length structs) order.pointers i t → IsLater i t
  later_by i t le (First h) = let low : i < 9 + length structs = h.low in absurd (omega (arith, low, le))
  later_by i t le (Later j x e is l) = record { place = j; pointer = x; there = e; is = is; at = l }

  later : (i : ℕ) (t : Ty) → 9 + length structs ≤ i → slice_get table i ≡ Some t → IsLater i t
  later i t le e = later_by i t le (place i t e)

  only_pointers : (i : ℕ) (t : Ty) → 9 + length structs ≤ i → slice_get table i ≡ Some t → IsAmong t os × IsTrue (is_pointer t)
  only_pointers i t le e =
      let l = later i t le e in
      let w = texted l.place l.pointer l.there in
      (subst (λ (u : Ty). IsAmong u os) l.is w.occurs, subst (λ (u : Ty). IsTrue (is_pointer u)) l.is w.pointer)

  text_is : (i : ℕ) (t : Ty) (l : IsLater i t) → l.pointer.text ≡ (text_of structs t).bytes
  text_is i t l = (texted l.place l.pointer l.there).text ∙ ap (λ (u : Ty). (text_of structs u).bytes) l.is

  texts_rise : (i : ℕ) (t u : Ty) → 9 + length structs ≤ i → slice_get table i ≡ Some t → slice_get table (i + 1) ≡ Some u → IsTrue (is_before (text_of structs t).bytes (text_of structs u).bytes)
  texts_rise i t u le e f =
      let l = later i t le e in
      let m = later (i + 1) u (omega (arith, le)) f in
      let one = l.at in
      let other = m.at in
      let next : m.place ≡ suc l.place = omega (arith, one, other) in
      let there = subst (λ (k : ℕ). slice_get order.pointers k ≡ Some m.pointer) next m.there in
      let before : is_before l.pointer.text m.pointer.text ≡ true = next_rises order.pointers order.rise l.place l.pointer m.pointer l.there there in
      subst (λ (bs : List ℕ). is_before bs (text_of structs u).bytes ≡ true) (text_is i t l) (subst (λ (bs : List ℕ). is_before l.pointer.text bs ≡ true) (text_is (i + 1) u m) before)

-- ---- a program's table

pub tables_have_each_type : TablesHaveEachType
unfolding made
tables_have_each_type ps named pointers =
    let structs : List StructDef = ps.structs in
    let os : List Ty = occurring ps in
    let table : List Ty = type_table structs os in
    let order = tables_are_in_order structs os in
    let numbers = tables_have_first_numbers structs os in
    let formed : (t : Ty) → IsAmong t os → IsTrue (is_pointer t) → IsFormed structs t = λ t among p. pointers.formed t (types_occur ps t among) p in
    record {
      table = record {
        kinds = numbers.kinds;
        lock = numbers.lock;
        structs = numbers.numbers;
        formed = λ i t e. placed_sort structs os table order formed i t (place structs os table order formed i t e);
        once = λ i j t e f. placed_once structs os table order formed i j t (place structs os table order formed i t e) (place structs os table order formed j t f);
      };
      all = λ t occurs p. has_each structs os table order formed named t (tables_list_what_occurs ps t occurs) p;
      only = λ i t le e. let h = only_pointers structs os table order formed i t le e in (types_occur ps t h.0, h.1);
      rises = λ i t u le e f. texts_rise structs os table order formed i t u le e f;
    }

-- ---- numbers of types

void_is_none : {A : Type 0} → IsObjectSort Empty → A
void_is_none (inl e) = absurd cc
void_is_none (inr (inl e)) = absurd cc
void_is_none (inr (inr e)) = absurd cc

struct_inside : (s n : ℕ) → IsObjectSort (sort_of n (type.Struct s)) → s < n
struct_inside s n h = below (nat_lt s n) refl (subst IsObjectSort (sort_at n (type.Struct s) (Ty-F.Struct s) (type.outs-Struct s)) h)
  where
    below : (b : Bool) → nat_lt s n ≡ b → IsObjectSort (chosen b Aggregate Wrong) → s < n
    below true e o = grind (arith, e)
    below false e (inl o) = absurd cc
    below false e (inr (inl o)) = absurd cc
    below false e (inr (inr o)) = absurd cc

module _ (program : Program) (table : IsTable program) (t : Ty) (object : IsObjectSort (sort_of (length program.structs) t)) (pointers : IsTrue (is_pointer t) → (i : ℕ) × (slice_get program.types i ≡ Some t)) where
  at_level : (l : Ty-F Ty) → out-Ty t ≡ l → (i : ℕ) × (slice_get program.types i ≡ Some t)
  at_level (Ty-F.Int k) e = (kind_number k, table.kinds k ∙ ap Some (sym (sym (roll-out-Ty t) ∙ ap roll-Ty e ∙ type.rolls-Int k)))
  at_level Ty-F.Lock e = (8, table.lock ∙ ap Some (sym (sym (roll-out-Ty t) ∙ ap roll-Ty e ∙ type.rolls-Lock)))
  at_level (Ty-F.Struct s) e =
      let is : t ≡ type.Struct s = sym (roll-out-Ty t) ∙ ap roll-Ty e ∙ type.rolls-Struct s in
      (9 + s, table.structs s (struct_inside s (length program.structs) (subst (λ (u : Ty). IsObjectSort (sort_of (length program.structs) u)) is object)) ∙ ap Some (sym is))
  at_level (Ty-F.Ptr u) e = pointers (ap is_pointer_by e)
  at_level Ty-F.VoidPtr e = pointers (ap is_pointer_by e)
  at_level (Ty-F.Fun ts) e = pointers (ap is_pointer_by e)
  at_level Ty-F.Void e = void_is_none (subst IsObjectSort (sort_at (length program.structs) t Ty-F.Void e) object)

  numbered : length program.types ≤ 4294967296 → HasNumber program t
  numbered few =
      let at = at_level (out-Ty t) refl in
      let within : at.0 < length program.types = slice_get_within program.types at.0 t at.1 in
      record { number = at.0; fits = omega (arith, within, few); names = at.1 }

pub types_that_occur_have_numbers : TypesThatOccurHaveNumbers
unfolding made
types_that_occur_have_numbers ps t named pointers few occurs object =
    let ordered = tables_have_each_type ps named pointers in
    numbered (made ps) ordered.table t object (ordered.all t occurs) few
