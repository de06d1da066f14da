-- A type that is put among others in the order of their texts.
use Rattle.std.proofs.Common.{ℕ, suc, ◌≡◌, ◌+◌, ◌&&◌, inl, inr, refl, Bool, true, false, not, cond, nat_lt, nat_eq, List, [], ◌∷◌, length, insert, Some, None, slice_get, IsTrue, ap, arith, subst}
use Rattle.std.proofs.Math.Path.{sym, ◌∙◌}
use Rattle.std.specs.List.{prefix_len}
use Rattle.std.specs.Str.{bytes_eq}
use Rattle.std.proofs.lemmas.Slice.Eq.{bytes_eq-Decides}
use Rattle.mdr_core.specs.declared.program.StructDef.{StructDef}
use Rattle.mdr_core.specs.declared.types.Ty.{Ty}
use Rattle.mdr_core.specs.Layout.{chosen}
use Rattle.mdr_core.specs.TypeText.{text_of, is_before}
use Rattle.mdr_core.specs.Types.{is_pointer}
use Rattle.mdr_check.specs.declared.table.TextedType.{TextedType}
use Rattle.mdr_check.specs.Tables.{texted, is_same_at, put_at, with_type, with_pointer, with_pointers, type_table}
use Rattle.mdr_program.specs.Orders.{StandsAbove, Rise, IsAmong, HasText, IsTexted, AreTexted, TablesAreInOrder}

-- ---- texts

false_isnt : false ≡ true → ⊥
false_isnt e = subst (λ (c : Bool). cond c ⊥ (Unit {0})) e tt

not_both : {b : Bool} {A : Type 0} → b ≡ true → b ≡ false → A
not_both t f = absurd (false_isnt (sym f ∙ t))

-- of two texts that differ one stands before the other
behind_by : (x y : ℕ) (before after same : Bool) (p q w : Bool) → nat_lt x y ≡ p → nat_lt y x ≡ q → nat_eq x y ≡ w
    → (before ≡ false → same ≡ false → after ≡ true)
    → chosen p true (chosen q false before) ≡ false → (w && same) ≡ false → chosen q true (chosen p false after) ≡ true
behind_by x y before after same true q w ep eq ew rest h d = not_both refl h
behind_by x y before after same false true w ep eq ew rest h d = refl
behind_by x y before after same false false true ep eq ew rest h d = rest h d
behind_by x y before after same false false false ep eq ew rest h d = absurd (grind (arith, ep, eq, ew))

behind : (xs ys : List ℕ) → is_before xs ys ≡ false → bytes_eq xs ys ≡ false → is_before ys xs ≡ true
behind [] [] h d = not_both refl d
behind [] (y ∷ ys) h d = not_both refl h
behind (x ∷ xs) [] h d = refl
behind (x ∷ xs) (y ∷ ys) h d = behind_by x y (is_before xs ys) (is_before ys xs) (bytes_eq xs ys) (nat_lt x y) (nat_lt y x) (nat_eq x y) refl refl refl (behind xs ys) h d

-- ---- the same by cases on the first

abbrev put : List TextedType → TextedType → List TextedType
put [] t = t ∷ []
put (u ∷ us) t = chosen (is_before u.text t.text) (u ∷ put us t) (chosen (bytes_eq u.text t.text) (u ∷ us) (t ∷ u ∷ us))

-- how many from the front on stand before a text
abbrev front : List TextedType → TextedType → ℕ
front ts t = prefix_len (λ (u : TextedType). not (not (is_before u.text t.text))) ts

one_more : (n : ℕ) → 1 + n ≡ suc n
one_more n = omega arith

less_by : (n m : ℕ) (a b : Bool) → nat_lt (suc n) (suc m) ≡ a → nat_lt n m ≡ b → a ≡ b
less_by n m true true e f = refl
less_by n m true false e f = absurd (grind (arith, e, f))
less_by n m false true e f = absurd (grind (arith, e, f))
less_by n m false false e f = refl

less_more : (n m : ℕ) → nat_lt (suc n) (suc m) ≡ nat_lt n m
less_more n m = less_by n m (nat_lt (suc n) (suc m)) (nat_lt n m) refl refl

none_less_by : (m : ℕ) (a : Bool) → nat_lt 0 (suc m) ≡ a → a ≡ true
none_less_by m true e = refl
none_less_by m false e = absurd (grind (arith, e))

none_less : (m : ℕ) → nat_lt 0 (suc m) ≡ true
none_less m = none_less_by m (nat_lt 0 (suc m)) refl

same_front : (s : Bool) (u : TextedType) (us vs : List TextedType) → chosen s (u ∷ us) (u ∷ vs) ≡ u ∷ chosen s us vs
same_front true u us vs = refl
same_front false u us vs = refl

later : (us : List TextedType) (u t : TextedType) (n : ℕ) (c : Bool) → put_at (u ∷ us) t (cond c (Some (suc n)) None) ≡ u ∷ put_at us t (cond c (Some n) None)
later us u t n true = same_front (is_same_at (slice_get us n) t) u us (insert us n t)
later us u t n false = refl

first_put : (us : List TextedType) (u t : TextedType) (n : ℕ) (b : Bool)
    → put_at (u ∷ us) t (cond (nat_lt (cond (not (not b)) (1 + n) 0) (suc (length us))) (Some (cond (not (not b)) (1 + n) 0)) None)
    ≡ chosen b (u ∷ put_at us t (cond (nat_lt n (length us)) (Some n) None)) (chosen (bytes_eq u.text t.text) (u ∷ us) (t ∷ u ∷ us))
first_put us u t n true =
    ap (λ (k : ℕ). put_at (u ∷ us) t (cond (nat_lt k (suc (length us))) (Some k) None)) (one_more n)
    ∙ ap (λ (c : Bool). put_at (u ∷ us) t (cond c (Some (suc n)) None)) (less_more n (length us))
    ∙ later us u t n (nat_lt n (length us))
first_put us u t n false = ap (λ (c : Bool). put_at (u ∷ us) t (cond c (Some 0) None)) (none_less (length us))

pub with_is_put : (ts : List TextedType) (t : TextedType) → with_type ts t ≡ put ts t
unfolding with_type
with_is_put [] t = refl
with_is_put (u ∷ us) t =
    first_put us u t (front us t) (is_before u.text t.text)
    ∙ ap (λ (vs : List TextedType). chosen (is_before u.text t.text) (u ∷ vs) (chosen (bytes_eq u.text t.text) (u ∷ us) (t ∷ u ∷ us))) (with_is_put us t)

-- ---- the order stays

above_by : (u v t : TextedType) (vs : List TextedType) (b s : Bool) → StandsAbove u (v ∷ vs) → is_before u.text t.text ≡ true → StandsAbove u (chosen b (v ∷ put vs t) (chosen s (v ∷ vs) (t ∷ v ∷ vs)))
above_by u v t vs true s h e = h
above_by u v t vs false true h e = h
above_by u v t vs false false h e = e

above_put : (us : List TextedType) (u t : TextedType) → StandsAbove u us → is_before u.text t.text ≡ true → StandsAbove u (put us t)
above_put [] u t h e = e
above_put (v ∷ vs) u t h e = above_by u v t vs (is_before v.text t.text) (bytes_eq v.text t.text) h e

rise_by : (us : List TextedType) (u t : TextedType) (b s : Bool) → is_before u.text t.text ≡ b → bytes_eq u.text t.text ≡ s → Rise (u ∷ us) → Rise (put us t) → Rise (chosen b (u ∷ put us t) (chosen s (u ∷ us) (t ∷ u ∷ us)))
rise_by us u t true s eb es h rest = (above_put us u t h.0 eb, rest)
rise_by us u t false true eb es h rest = h
rise_by us u t false false eb es h rest = (behind u.text t.text eb es, h)

rise_put : (ts : List TextedType) (t : TextedType) → Rise ts → Rise (put ts t)
rise_put [] t h = (tt, tt)
rise_put (u ∷ us) t h = rise_by us u t (is_before u.text t.text) (bytes_eq u.text t.text) refl refl h (rise_put us t h.1)

texted_by : (structs : List StructDef) (os : List Ty) (us : List TextedType) (u t : TextedType) (b s : Bool) → AreTexted structs os (u ∷ us) → IsTexted structs os t → AreTexted structs os (put us t) → AreTexted structs os (chosen b (u ∷ put us t) (chosen s (u ∷ us) (t ∷ u ∷ us)))
texted_by structs os us u t true s h e rest = (h.0, rest)
texted_by structs os us u t false true h e rest = h
texted_by structs os us u t false false h e rest = (e, h)

texted_put : (structs : List StructDef) (os : List Ty) (ts : List TextedType) (t : TextedType) → AreTexted structs os ts → IsTexted structs os t → AreTexted structs os (put ts t)
texted_put structs os [] t h e = (e, tt)
texted_put structs os (u ∷ us) t h e = texted_by structs os us u t (is_before u.text t.text) (bytes_eq u.text t.text) h e (texted_put structs os us t h.1 e)

-- ---- no text is lost

kept_by : (bs : List ℕ) (us : List TextedType) (u t : TextedType) (b s : Bool) → HasText bs (u ∷ us) → (HasText bs us → HasText bs (put us t)) → HasText bs (chosen b (u ∷ put us t) (chosen s (u ∷ us) (t ∷ u ∷ us)))
kept_by bs us u t true s (inl e) rest = inl e
kept_by bs us u t true s (inr h) rest = inr (rest h)
kept_by bs us u t false true h rest = h
kept_by bs us u t false false h rest = inr h

kept_put : (bs : List ℕ) (ts : List TextedType) (t : TextedType) → HasText bs ts → HasText bs (put ts t)
kept_put bs [] t h = absurd h
kept_put bs (u ∷ us) t h = kept_by bs us u t (is_before u.text t.text) (bytes_eq u.text t.text) h (kept_put bs us t)

there_by : (us : List TextedType) (u t : TextedType) (b s : Bool) → bytes_eq u.text t.text ≡ s → HasText t.text (put us t) → HasText t.text (chosen b (u ∷ put us t) (chosen s (u ∷ us) (t ∷ u ∷ us)))
there_by us u t true s e rest = inr rest
there_by us u t false true e rest = inl ((bytes_eq-Decides u.text t.text).0 e)
there_by us u t false false e rest = inl refl

there_put : (ts : List TextedType) (t : TextedType) → HasText t.text (put ts t)
there_put [] t = inl refl
there_put (u ∷ us) t = there_by us u t (is_before u.text t.text) (bytes_eq u.text t.text) refl (there_put us t)

-- ---- all of a list

is_texted : (structs : List StructDef) (os : List Ty) (ty : Ty) → IsTrue (is_pointer ty) → IsAmong ty os → IsTexted structs os (texted structs ty)
unfolding texted
is_texted structs os ty e among = record { text = refl; pointer = e; occurs = among }

rise_pointer : (structs : List StructDef) (ts : List TextedType) (ty : Ty) (p : Bool) → Rise ts → Rise (with_pointer p structs ts ty)
rise_pointer structs ts ty true h = subst Rise (sym (with_is_put ts (texted structs ty))) (rise_put ts (texted structs ty) h)
rise_pointer structs ts ty false h = h

texted_pointer : (structs : List StructDef) (os : List Ty) (ts : List TextedType) (ty : Ty) (p : Bool) → is_pointer ty ≡ p → IsAmong ty os → AreTexted structs os ts → AreTexted structs os (with_pointer p structs ts ty)
texted_pointer structs os ts ty true e among h = subst (AreTexted structs os) (sym (with_is_put ts (texted structs ty))) (texted_put structs os ts (texted structs ty) h (is_texted structs os ty e among))
texted_pointer structs os ts ty false e among h = h

kept_pointer : (structs : List StructDef) (bs : List ℕ) (ts : List TextedType) (ty : Ty) (p : Bool) → HasText bs ts → HasText bs (with_pointer p structs ts ty)
kept_pointer structs bs ts ty true h = subst (HasText bs) (sym (with_is_put ts (texted structs ty))) (kept_put bs ts (texted structs ty) h)
kept_pointer structs bs ts ty false h = h

there_pointer : (structs : List StructDef) (ts : List TextedType) (ty : Ty) (p : Bool) → p ≡ true → HasText (text_of structs ty).bytes (with_pointer p structs ts ty)
unfolding texted
there_pointer structs ts ty true e = subst (HasText (text_of structs ty).bytes) (sym (with_is_put ts (texted structs ty))) (there_put ts (texted structs ty))
there_pointer structs ts ty false e = not_both e refl

rise_all : (structs : List StructDef) (ts : List TextedType) (us : List Ty) → Rise ts → Rise (with_pointers structs ts us)
unfolding with_pointers
rise_all structs ts [] h = h
rise_all structs ts (u ∷ us) h = rise_all structs (with_pointer (is_pointer u) structs ts u) us (rise_pointer structs ts u (is_pointer u) h)

texted_all : (structs : List StructDef) (os : List Ty) (ts : List TextedType) (us : List Ty) → ((t : Ty) → IsAmong t us → IsAmong t os) → AreTexted structs os ts → AreTexted structs os (with_pointers structs ts us)
unfolding with_pointers
texted_all structs os ts [] among h = h
texted_all structs os ts (u ∷ us) among h = texted_all structs os (with_pointer (is_pointer u) structs ts u) us (λ t m. among t (inr m)) (texted_pointer structs os ts u (is_pointer u) refl (among u (inl refl)) h)

kept_all : (structs : List StructDef) (bs : List ℕ) (ts : List TextedType) (us : List Ty) → HasText bs ts → HasText bs (with_pointers structs ts us)
unfolding with_pointers
kept_all structs bs ts [] h = h
kept_all structs bs ts (u ∷ us) h = kept_all structs bs (with_pointer (is_pointer u) structs ts u) us (kept_pointer structs bs ts u (is_pointer u) h)

there_all : (structs : List StructDef) (ts : List TextedType) (us : List Ty) (t : Ty) → IsAmong t us → IsTrue (is_pointer t) → HasText (text_of structs t).bytes (with_pointers structs ts us)
unfolding with_pointers
there_all structs ts [] t among e = absurd among
there_all structs ts (u ∷ us) t (inl same) e =
    kept_all structs (text_of structs t).bytes (with_pointer (is_pointer u) structs ts u) us
    (subst (λ (v : Ty). HasText (text_of structs t).bytes (with_pointer (is_pointer v) structs ts v)) (sym same) (there_pointer structs ts t (is_pointer t) e))
there_all structs ts (u ∷ us) t (inr among) e = there_all structs (with_pointer (is_pointer u) structs ts u) us t among e

pub tables_are_in_order : TablesAreInOrder
unfolding type_table
tables_are_in_order structs occurring = record {
  pointers = with_pointers structs [] occurring;
  parts = refl;
  texted = texted_all structs occurring [] occurring (λ t m. m) tt;
  all = there_all structs [] occurring;
  rise = rise_all structs [] occurring tt;
}
