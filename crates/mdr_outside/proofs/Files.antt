-- Look-ups in the files of a shelf in memory, and after a write.
use Rattle.std.proofs.Common.{ℕ, ◌≡◌, ◌≢◌, Bool, true, false, List, [], ◌∷◌, ◌++◌, get_or, refl, sym, ◌∙◌, ap, Option, Some, None, option_map, map, cond, slice_set, position}
use Rattle.std.specs.List.{find, position_or_len}
use Rattle.std.specs.Option.{option_or}
use Rattle.std.specs.Str.{bytes_eq}
use Rattle.std.proofs.lemmas.Bool.{false_from_ne_true, ltb-false}
use Rattle.std.proofs.lemmas.Option.{cond_some, slice_get_past}
use Rattle.std.proofs.lemmas.List.Folds.{find-set, find_past, find-append, find_at}
use Rattle.std.proofs.lemmas.List.Quantifiers.{position-Some}
use Rattle.std.proofs.lemmas.Slice.Eq.{bytes_eq-Decides}
use Rattle.mdr_outside.specs.Shelf.{Puts}
use Rattle.mdr_outside.specs.MapShelf.{file_in}

-- the file of a name among the views of a list of files
pub file_in-map : {X : Type 0} (view : X → List ℕ × List ℕ) (xs : List X) (name : List ℕ) →
    file_in (map view xs) name ≡ option_map (λ x. (view x).1) (find (λ x. bytes_eq (view x).0 name) xs)
file_in-map view [] name = refl
file_in-map view (x ∷ xs) name =
    elim (bytes_eq (view x).0 name)
    as (λ b. option_map (λ file. file.1) (cond b (Some (view x)) (find (λ file. bytes_eq file.0 name) (map view xs)))
    ≡ option_map (λ y. (view y).1) (cond b (Some x) (find (λ y. bytes_eq (view y).0 name) xs)))
    [ true ↦ refl | false ↦ file_in-map view xs name ]

pub file_in-Some : {X : Type 0} (view : X → List ℕ × List ℕ) (xs : List X) (name : List ℕ) (x : X) (bytes : List ℕ) →
    Some x ≡ find (λ y. bytes_eq (view y).0 name) xs → bytes ≡ (view x).1 → Some bytes ≡ file_in (map view xs) name
file_in-Some view xs name x bytes is same =
    ap Some same ∙ ap (option_map (λ y. (view y).1)) is ∙ sym (file_in-map view xs name)

pub file_in-None : {X : Type 0} (view : X → List ℕ × List ℕ) (xs : List X) (name : List ℕ) →
    None ≡ find (λ y. bytes_eq (view y).0 name) xs → None ≡ file_in (map view xs) name
file_in-None view xs name is = ap (option_map (λ y. (view y).1)) is ∙ sym (file_in-map view xs name)

-- a name is not equal to another
differs : (name other : List ℕ) → other ≢ name → bytes_eq name other ≡ false
differs name other ne =
    false_from_ne_true _ (λ same. ne (sym ((bytes_eq-Decides name other).0 same)))

first_place : {X : Type 0} (p : X → Bool) (xs : List X) (i : ℕ) → position p xs ≡ Some i → i ≡ position_or_len p xs
first_place p xs i is = sym ((cond_some _ _ _ is).1)

is_past : (b : Bool) (i : ℕ) → cond b (Some i) None ≡ None → b ≡ false
is_past true i e = absurd (let wrong : ⊥ = cc in wrong)
is_past false i e = refl

found_none : {X : Type 0} (p : X → Bool) (xs : List X) → position p xs ≡ None → find p xs ≡ None
found_none p xs is =
    find_at p xs ∙ slice_get_past xs (position_or_len p xs) (ltb-false _ _ (is_past _ _ is))

past_end : {X : Type 0} (p : X → Bool) (o : Option X) (y : X) → p y ≡ false → option_or o (find p (y ∷ [])) ≡ o
past_end p None y fails = rw fails refl
past_end p (Some x) y fails = refl

-- a write in the place of the file of that name
pub Puts-set : {X : Type 0} (view : X → List ℕ × List ℕ) (xs : List X) (at : ℕ) (old y : X) (name bytes : List ℕ) →
    position (λ x. bytes_eq (view x).0 name) xs ≡ Some at → old ≡ get_or xs at old →
    (view y).0 ≡ (view old).0 → (view y).1 ≡ bytes →
    Puts (file_in (map view xs)) (file_in (map view (slice_set xs at y))) name bytes
Puts-set view xs at old y name bytes is stood key same =
    let first = position-Some (λ x. bytes_eq (view x).0 name) xs at old is in
    let old_named : bytes_eq (view old).0 name ≡ true = ap (λ x. bytes_eq (view x).0 name) stood ∙ first.1 in
    let named : bytes_eq (view y).0 name ≡ true = ap (λ k. bytes_eq k name) key ∙ old_named in
    let is_name : (view old).0 ≡ name = (bytes_eq-Decides (view old).0 name).0 old_named in
    record {
      file = file_in-map view (slice_set xs at y) name
          ∙ ap (option_map (λ x. (view x).1)) (find-set _ xs at y (first_place _ xs at is) first.0 named)
          ∙ ap Some same;
      others = λ other ne.
          let fails : bytes_eq (view old).0 other ≡ false = ap (λ k. bytes_eq k other) is_name ∙ differs name other ne in
          file_in-map view (slice_set xs at y) other
          ∙ ap (option_map (λ x. (view x).1)) (find_past (λ x. bytes_eq (view x).0 other) xs at y old
          (ap (λ x. bytes_eq (view x).0 other) (sym stood) ∙ fails) (ap (λ k. bytes_eq k other) key ∙ fails))
          ∙ sym (file_in-map view xs other);
    }

-- a write behind the others, where no file has the name
pub Puts-push : {X : Type 0} (view : X → List ℕ × List ℕ) (xs : List X) (y : X) (name bytes : List ℕ) →
    position (λ x. bytes_eq (view x).0 name) xs ≡ None → (view y).0 ≡ name → (view y).1 ≡ bytes →
    Puts (file_in (map view xs)) (file_in (map view (xs ++ y ∷ []))) name bytes
Puts-push view xs y name bytes is key same =
    let named : bytes_eq (view y).0 name ≡ true = (bytes_eq-Decides (view y).0 name).1 key in
    let one : find (λ x. bytes_eq (view x).0 name) (y ∷ []) ≡ Some y = rw named refl in
    record {
      file = file_in-map view (xs ++ y ∷ []) name
          ∙ ap (option_map (λ x. (view x).1))
          (find-append _ xs (y ∷ []) ∙ ap (λ o. option_or o (find (λ x. bytes_eq (view x).0 name) (y ∷ []))) (found_none _ xs is) ∙ one)
          ∙ ap Some same;
      others = λ other ne.
          file_in-map view (xs ++ y ∷ []) other
          ∙ ap (option_map (λ x. (view x).1))
          (find-append _ xs (y ∷ []) ∙ past_end (λ x. bytes_eq (view x).0 other) _ y (ap (λ k. bytes_eq k other) key ∙ differs name other ne))
          ∙ sym (file_in-map view xs other);
    }
