-- Names that differ are new, each behind those before it, and structs that have them are told apart.
use Rattle.std.proofs.Common.{◌≡◌, ℕ, zero, suc, ◌<◌, Bool, true, false, ◌&&◌, ◌||◌, not, List, [], ◌∷◌, ◌++◌, length, Some, slice_get, IsTrue, refl, sym, ap, ◌∙◌, subst, arith, append_assoc}
use Rattle.std.specs.List.{list_all, list_any}
use Rattle.std.specs.Str.{bytes_eq}
use Rattle.std.proofs.lemmas.Slice.Eq.{bytes_eq-Decides}
use Rattle.mdr_core.specs.declared.program.StructDef.{StructDef}
use Rattle.mdr_syntax.specs.Bytes.{is_name_byte}
use Rattle.mdr_syntax.specs.Words.{is_reserved}
use Rattle.mdr_plan.specs.Naming.{begins_name, is_name, is_named, is_new}
use Rattle.mdr_texts.specs.Canonical.{AreNew}
use Rattle.mdr_type_table.specs.Apart.{AreNamed, names_of}
use Rattle.mdr_type_table.proofs.Levels.{parts_of}
use Rattle.mdr_type_table.proofs.Numbered.{name_at}
use Rattle.mdr_honest.specs.Plannable.{AreNames}

-- ---- one among others

get_between : {A : Type 0} (xs : List A) (y : A) (ys : List A) → slice_get (xs ++ y ∷ ys) (length xs) ≡ Some y
get_between [] y ys = refl
get_between (x ∷ xs) y ys = get_between xs y ys

get_front : {A : Type 0} (xs ys : List A) (i : ℕ) (x : A) → slice_get xs i ≡ Some x → slice_get (xs ++ ys) i ≡ Some x
get_front [] ys i x e = absurd cc
get_front (z ∷ zs) ys zero x e = e
get_front (z ∷ zs) ys (suc i) x e = get_front zs ys i x e

within : {A : Type 0} (xs : List A) (i : ℕ) (x : A) → slice_get xs i ≡ Some x → i < length xs
within [] i x e = absurd cc
within (z ∷ zs) zero x e = omega arith
within (z ∷ zs) (suc i) x e = let lt = within zs i x e in omega (arith, lt)

none_by : (name y : List ℕ) (ys : List (List ℕ)) (t : Bool) → bytes_eq y name ≡ t → (t ≡ true → ⊥) → list_any (is_named name) ys ≡ false → (t || list_any (is_named name) ys) ≡ false
none_by name y ys true e h rest = absurd (h refl)
none_by name y ys false e h rest = rest

none_of : (name : List ℕ) (ys : List (List ℕ)) → ((i : ℕ) → slice_get ys i ≡ Some name → ⊥) → list_any (is_named name) ys ≡ false
none_of name [] h = refl
none_of name (y ∷ ys) h = none_by name y ys (bytes_eq y name) refl (λ e. h 0 (ap Some ((bytes_eq-Decides y name).0 e))) (none_of name ys (λ i f. h (suc i) f))

new_by : (names : List (List ℕ)) (name : List ℕ) → IsTrue (is_name name) → list_any (is_named name) names ≡ false → IsTrue (is_new names name)
unfolding is_new
new_by names name h none = ap (λ (b : Bool). b && not (list_any (is_named name) names)) h ∙ ap not none

new_on : (before rest : List (List ℕ)) → AreNames (before ++ rest) → AreNew before rest
new_on before [] h = tt
new_on before (name ∷ rest) h =
    let at : slice_get (before ++ name ∷ rest) (length before) ≡ Some name = get_between before name rest in
    let none = none_of name before (λ i e.
    let lt : i < length before = within before i name e in
    let same : i ≡ length before = h.once i (length before) name (get_front before (name ∷ rest) i name e) at in
    omega (arith, lt, same))
    in
    (new_by before name (h.each (length before) name at) none, new_on (before ++ name ∷ []) rest (subst AreNames (sym (append_assoc before (name ∷ []) rest)) h))

pub all_new : (names : List (List ℕ)) → AreNames names → AreNew [] names
all_new names h = new_on [] names h

-- ---- structs of such names

pub letters : (name : List ℕ) → IsTrue (is_name name) → IsTrue (list_all is_name_byte name)
unfolding is_name
letters name h = (parts_of (begins_name name) (list_all is_name_byte name) (parts_of (begins_name name && list_all is_name_byte name) (not (is_reserved name)) h).0).1

pub are_named : (structs : List StructDef) → AreNames (names_of structs) → AreNamed structs
are_named structs h = record {
  words = λ s def e. letters def.name (h.each s def.name (name_at structs s def e));
  once = λ r s one other e f same. h.once r s other.name (name_at structs r one e ∙ ap Some same) (name_at structs s other f);
}
