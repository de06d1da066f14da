-- The test for a view of a block tells just the views of the block, in a sound program.
use Rattle.std.proofs.Common.{◌≡◌, ℕ, zero, suc, ◌+◌, ◌*◌, ◌<◌, ◌⊎◌, inl, inr, Bool, true, false, ◌&&◌, ◌||◌, ◌==◌, List, [], ◌∷◌, length, slice_get, Option, Some, None, refl, sym, ap, ◌∙◌, subst, arith, eqb-true, eq-eqb}
use Rattle.std.proofs.lemmas.Bool.{leb-true, le-leb}
use Rattle.mdr_core.specs.declared.program.Field.{Field}
use Rattle.mdr_core.specs.declared.program.Program.{Program}
use Rattle.mdr_core.specs.declared.types.Ty.{Ty}
use Rattle.mdr_core.specs.Layout.{chosen, field_start, fields_of, struct_cells, struct_of}
use Rattle.mdr_core.specs.Sound.{IsSound}
use Rattle.mdr_core.specs.Views.{AreLaid, Element, Inside, IsIn, IsInFields, IsInStructs, IsViewOf, IsWhole, Whole}
use Rattle.mdr_core.proofs.Laid.{laid_out, struct_within}
use Rattle.mdr_core.proofs.Viewed.{some_same, structs_in, whole_in}
use Rattle.mdr_meaning.specs.declared.wire.WireView.{WireView}
use Rattle.mdr_meaning.specs.Fit.{view_of}
use Rattle.mdr_meaning.proofs.NumberLaws.{type_same, types_exact}
use Rattle.mdr_model.specs.declared.message.New.{New}
use Rattle.mdr_model.proofs.Tests.{and_both, and_left, and_right}
use Rattle.mdr_split.specs.Fits.{is_in_below, is_in_block, is_in_elements, is_in_fields, is_in_struct, is_in_structs, is_named, is_that, is_view_of, is_whole}

-- ---- tests

either : (a b : Bool) → (a || b) ≡ true → (a ≡ true) ⊎ (b ≡ true)
either true b e = inl refl
either false b e = inr e

left_or : (a b : Bool) → a ≡ true → (a || b) ≡ true
left_or a b e = ap (λ (x : Bool). x || b) e

right_or : (a b : Bool) → b ≡ true → (a || b) ≡ true
right_or true b e = refl
right_or false b e = e

-- ---- types by their numbers

that_is : (o : Option Ty) (ty : Ty) → is_that ty o ≡ true → o ≡ Some ty
that_is None ty e = absurd cc
that_is (Some t) ty e = ap Some (types_exact t ty e)

pub named_is : (program : Program) (n : ℕ) (ty : Ty) → is_named program n ty ≡ true → slice_get program.types n ≡ Some ty
unfolding is_named
named_is program n ty e = that_is (slice_get program.types n) ty e

pub named_so : (program : Program) (n : ℕ) (ty : Ty) → slice_get program.types n ≡ Some ty → is_named program n ty ≡ true
unfolding is_named
named_so program n ty e = ap (is_that ty) e ∙ type_same ty

module _ (program : Program) (v : WireView) where
  -- ---- from the test

  whole_is : (first : ℕ) (ty : Ty) (count : ℕ) → is_whole program v first ty count ≡ true → IsWhole program (view_of v) first ty count
  whole_is first ty count e =
      let rest : (is_named program v.ty ty && v.count == count) ≡ true = and_right (v.first == first) _ e in
      record {
        begins = eqb-true _ _ (and_left _ _ e);
        names = named_is program v.ty ty (and_left _ _ rest);
        many = eqb-true _ _ (and_right (is_named program v.ty ty) _ rest);
      }

  -- what is asked of a test for the fields of structs
  abbrev Tells : (in_fields : (s first : ℕ) → Bool) → Type 0
  Tells in_fields = (s first : ℕ) → in_fields s first ≡ true → IsInFields program (view_of v) s first

  abbrev size_of : ℕ → ℕ
  size_of s = length (struct_cells program.structs s)

  structs_are : (in_fields : (s first : ℕ) → Bool) → Tells in_fields → (s first : ℕ) (ty : Ty) (count : ℕ)
      → is_in_structs program v in_fields s (size_of s) first ty count ≡ true → IsInStructs program (view_of v) s first ty count
  unfolding is_in_structs
  structs_are in_fields tells s first ty zero e = absurd cc
  structs_are in_fields tells s first ty (suc n) e = by_first (either _ _ e) (λ h. structs_are in_fields tells s (first + size_of s) ty n h) where
    here : first + 0 * size_of s ≡ first
    here = omega arith

    by_first : (is_whole program v first ty 1 ≡ true) ⊎ ((in_fields s first || is_in_structs program v in_fields s (size_of s) (first + size_of s) ty n) ≡ true)
        → (is_in_structs program v in_fields s (size_of s) (first + size_of s) ty n ≡ true → IsInStructs program (view_of v) s (first + size_of s) ty n)
        → IsInStructs program (view_of v) s first ty (suc n)
    by_first (inl h) rest = record { element = 0; among = omega arith; inside = inl (subst (λ k. IsWhole program (view_of v) k ty 1) (sym here) (whole_is first ty 1 h)) }
    by_first (inr h) rest = by_fields (either _ _ h) where
      next : IsInStructs program (view_of v) s (first + size_of s) ty n → IsInStructs program (view_of v) s first ty (suc n)
      next r =
          let place : first + size_of s + r.element * size_of s ≡ first + suc r.element * size_of s = omega arith in
          record {
            element = suc r.element;
            among = omega (arith, r.among);
            inside = subst (λ k. IsWhole program (view_of v) k ty 1 ⊎ IsInFields program (view_of v) s k) place r.inside;
          }

      by_fields : (in_fields s first ≡ true) ⊎ (is_in_structs program v in_fields s (size_of s) (first + size_of s) ty n ≡ true) → IsInStructs program (view_of v) s first ty (suc n)
      by_fields (inl g) = record { element = 0; among = omega arith; inside = inr (subst (λ k. IsInFields program (view_of v) s k) (sym here) (tells s first g)) }
      by_fields (inr g) = next (rest g)

  struct_is : (in_fields : (s first : ℕ) → Bool) → Tells in_fields → (o : Option ℕ) (first : ℕ) (ty : Ty) (count : ℕ) → struct_of ty ≡ o
      → is_in_struct program v in_fields o first ty count ≡ true → IsIn program (view_of v) first ty count
  struct_is in_fields tells None first ty count is e = absurd cc
  struct_is in_fields tells (Some s) first ty count is e = structs_in program (view_of v) first ty count s is (structs_are in_fields tells s first ty count e)

  elements_are : (in_fields : (s first : ℕ) → Bool) → Tells in_fields → (first : ℕ) (ty : Ty) (count : ℕ)
      → is_in_elements program v in_fields first ty count ≡ true → IsIn program (view_of v) first ty count
  elements_are in_fields tells first ty count e = by_whole (either _ _ e) where
    by_whole : (is_whole program v first ty count ≡ true) ⊎ (is_in_struct program v in_fields (struct_of ty) first ty count ≡ true) → IsIn program (view_of v) first ty count
    by_whole (inl h) = whole_in program (view_of v) first ty count (whole_is first ty count h)
    by_whole (inr h) = struct_is in_fields tells (struct_of ty) first ty count refl h

  -- a field of a list that begins with number f
  record InList (s first f : ℕ) (xs : List Field) : Type 0 where
    number : ℕ
    field : Field
    names : slice_get xs number ≡ Some field
    inside : IsIn program (view_of v) (first + field_start program.structs s (f + number)) field.ty field.count

  fields_are : (in_fields : (s first : ℕ) → Bool) → Tells in_fields → (s first f : ℕ) (xs : List Field) → is_in_fields program v in_fields s first f xs ≡ true → InList s first f xs
  unfolding is_in_fields
  fields_are in_fields tells s first f [] e = absurd cc
  fields_are in_fields tells s first f (x ∷ xs) e = by_first (either _ _ e) (λ h. fields_are in_fields tells s first (suc f) xs h) where
    by_first : (is_in_elements program v in_fields (first + field_start program.structs s f) x.ty x.count ≡ true) ⊎ (is_in_fields program v in_fields s first (suc f) xs ≡ true)
        → (is_in_fields program v in_fields s first (suc f) xs ≡ true → InList s first (suc f) xs) → InList s first f (x ∷ xs)
    by_first (inl h) rest =
        let here : first + field_start program.structs s f ≡ first + field_start program.structs s (f + 0) = ap (λ n. first + field_start program.structs s n) (omega arith) in
        record {
          number = 0;
          field = x;
          names = refl;
          inside = subst (λ k. IsIn program (view_of v) k x.ty x.count) here (elements_are in_fields tells (first + field_start program.structs s f) x.ty x.count h);
        }
    by_first (inr h) rest = next (rest h) where
      next : InList s first (suc f) xs → InList s first f (x ∷ xs)
      next r =
          let place : first + field_start program.structs s (suc f + r.number) ≡ first + field_start program.structs s (f + suc r.number) = ap (λ n. first + field_start program.structs s n) (omega arith) in
          record { number = suc r.number; field = r.field; names = r.names; inside = subst (λ k. IsIn program (view_of v) k r.field.ty r.field.count) place r.inside }

  all_fields : (s first : ℕ) → InList s first 0 (fields_of program.structs s) → IsInFields program (view_of v) s first
  all_fields s first r =
      let place : first + field_start program.structs s (0 + r.number) ≡ first + field_start program.structs s r.number = ap (λ n. first + field_start program.structs s n) (omega arith) in
      record { number = r.number; field = r.field; names = r.names; inside = subst (λ k. IsIn program (view_of v) k r.field.ty r.field.count) place r.inside }

  below_is : (n : ℕ) → Tells (is_in_below program v n)
  unfolding is_in_below
  below_is zero s first e = absurd cc
  below_is (suc n) s first e = by_number (s == n) refl e (below_is n) where
    by_number : (b : Bool) → (s == n) ≡ b → chosen b (is_in_fields program v (is_in_below program v n) n first 0 (fields_of program.structs n)) (is_in_below program v n s first) ≡ true
        → Tells (is_in_below program v n) → IsInFields program (view_of v) s first
    by_number true q h lower =
        let same : n ≡ s = sym (eqb-true _ _ q) in
        subst (λ k. IsInFields program (view_of v) k first) same (all_fields n first (fields_are (is_in_below program v n) lower n first 0 (fields_of program.structs n) h))
    by_number false q h lower = lower s first h

  block_is : (o : Option Ty) (count : ℕ) → is_in_block program v o count ≡ true → (ty : Ty) × (o ≡ Some ty) × IsIn program (view_of v) 0 ty count
  block_is None count e = absurd cc
  block_is (Some ty) count e = (ty, refl, elements_are (is_in_below program v (length program.structs)) (below_is (length program.structs)) 0 ty count e)

pub view_is : (program : Program) (block : New) (v : WireView) → is_view_of program block v ≡ true → IsViewOf program (record { ty = block.ty; count = block.count }) (view_of v)
unfolding is_view_of
view_is program block v e =
    let part = block_is program v (slice_get program.types block.ty) block.count (and_left _ _ e) in
    record { ty = part.0; names = part.1; part = part.2; inside = leb-true _ _ (and_right (is_in_block program v (slice_get program.types block.ty) block.count) _ e) }

-- ---- to the test

module _ (program : Program) (v : WireView) where
  so_whole : (first : ℕ) (ty : Ty) (count : ℕ) → IsWhole program (view_of v) first ty count → is_whole program v first ty count ≡ true
  so_whole first ty count w = and_both _ _ (eq-eqb _ _ w.begins) (and_both _ _ (named_so program v.ty ty w.names) (eq-eqb _ _ w.many))

  -- what is asked of a test for the fields of structs below n
  abbrev Finds : (n : ℕ) → (in_fields : (s first : ℕ) → Bool) → Type 0
  Finds n in_fields = (s first : ℕ) → s < n → IsInFields program (view_of v) s first → in_fields s first ≡ true

  abbrev IsHere : (s first : ℕ) (ty : Ty) → Type 0
  IsHere s first ty = IsWhole program (view_of v) first ty 1 ⊎ IsInFields program (view_of v) s first

  so_here : (n : ℕ) (in_fields : (s first : ℕ) → Bool) → Finds n in_fields → (s first : ℕ) (ty : Ty) (rest : Bool) → s < n → IsHere s first ty
      → (is_whole program v first ty 1 || (in_fields s first || rest)) ≡ true
  so_here n in_fields finds s first ty rest below (inl w) = left_or _ _ (so_whole first ty 1 w)
  so_here n in_fields finds s first ty rest below (inr r) = right_or (is_whole program v first ty 1) _ (left_or _ _ (finds s first below r))

  so_structs : (n : ℕ) (in_fields : (s first : ℕ) → Bool) → Finds n in_fields → (s size first : ℕ) (ty : Ty) (count i : ℕ) → s < n → i < count → IsHere s (first + i * size) ty
      → is_in_structs program v in_fields s size first ty count ≡ true
  unfolding is_in_structs
  so_structs n in_fields finds s size first ty zero i below among h = absurd (omega arith)
  so_structs n in_fields finds s size first ty (suc count) zero below among h =
      so_here n in_fields finds s first ty _ below (subst (λ k. IsHere s k ty) (omega arith) h)
  so_structs n in_fields finds s size first ty (suc count) (suc i) below among h =
      let place : first + suc i * size ≡ first + size + i * size = omega arith in
      right_or (is_whole program v first ty 1) _
      (right_or (in_fields s first) _ (so_structs n in_fields finds s size (first + size) ty count i below (omega arith) (subst (λ k. IsHere s k ty) place h)))

  so_struct : (n : ℕ) (in_fields : (s first : ℕ) → Bool) → Finds n in_fields → (first : ℕ) (ty : Ty) (count s i : ℕ) → struct_of ty ≡ Some s → s < n → i < count
      → IsHere s (first + i * length (struct_cells program.structs s)) ty → is_in_elements program v in_fields first ty count ≡ true
  so_struct n in_fields finds first ty count s i is below among h =
      right_or (is_whole program v first ty count) _
      (ap (λ (o : Option ℕ). is_in_struct program v in_fields o first ty count) is
      ∙ so_structs n in_fields finds s (length (struct_cells program.structs s)) first ty count i below among h)

  so_elements : (n : ℕ) (in_fields : (s first : ℕ) → Bool) → Finds n in_fields → (first : ℕ) (ty : Ty) (count : ℕ) → ((s : ℕ) → struct_of ty ≡ Some s → s < n)
      → IsIn program (view_of v) first ty count → is_in_elements program v in_fields first ty count ≡ true
  so_elements n in_fields finds first ty count low (Whole _ _ _ begins names many) = left_or _ _ (so_whole first ty count (record { begins = begins; names = names; many = many }))
  so_elements n in_fields finds first ty count low (Element _ _ _ s i struct among begins names many) =
      so_struct n in_fields finds first ty count s i struct (low s struct) among (inl (record { begins = begins; names = names; many = many }))
  so_elements n in_fields finds first ty count low (Inside _ _ _ s i f x struct among names inside) =
      so_struct n in_fields finds first ty count s i struct (low s struct) among (inr (record { number = f; field = x; names = names; inside = inside }))

  so_fields : (n : ℕ) (in_fields : (s first : ℕ) → Bool) → Finds n in_fields → (s first f : ℕ) (xs : List Field) (i : ℕ) (x : Field) → slice_get xs i ≡ Some x
      → ((t : ℕ) → struct_of x.ty ≡ Some t → t < n) → IsIn program (view_of v) (first + field_start program.structs s (f + i)) x.ty x.count
      → is_in_fields program v in_fields s first f xs ≡ true
  unfolding is_in_fields
  so_fields n in_fields finds s first f [] i x names low inside = absurd cc
  so_fields n in_fields finds s first f (y ∷ xs) zero x names low inside =
      let same : x ≡ y = sym (some_same names) in
      let place : first + field_start program.structs s (f + 0) ≡ first + field_start program.structs s f = ap (λ k. first + field_start program.structs s k) (omega arith) in
      left_or _ _ (ap (λ (z : Field). is_in_elements program v in_fields (first + field_start program.structs s f) z.ty z.count) (sym same)
      ∙ so_elements n in_fields finds (first + field_start program.structs s f) x.ty x.count low (subst (λ k. IsIn program (view_of v) k x.ty x.count) place inside))
  so_fields n in_fields finds s first f (y ∷ xs) (suc i) x names low inside =
      let place : first + field_start program.structs s (f + suc i) ≡ first + field_start program.structs s (suc f + i) = ap (λ k. first + field_start program.structs s k) (omega arith) in
      right_or (is_in_elements program v in_fields (first + field_start program.structs s f) y.ty y.count) _
      (so_fields n in_fields finds s first (suc f) xs i x names low (subst (λ k. IsIn program (view_of v) k x.ty x.count) place inside))

  so_below : AreLaid program.structs → (n : ℕ) → Finds n (is_in_below program v n)
  unfolding is_in_below
  so_below laid zero s first below r = absurd (omega arith)
  so_below laid (suc n) s first below r = by_number (s == n) refl (so_below laid n) where
    place : (k : ℕ) → s ≡ k → first + field_start program.structs s r.number ≡ first + field_start program.structs k (0 + r.number)
    place k same = ap (λ (i : ℕ). first + field_start program.structs i r.number) same ∙ ap (λ (i : ℕ). first + field_start program.structs k i) (omega arith)

    by_number : (b : Bool) → (s == n) ≡ b → Finds n (is_in_below program v n)
        → chosen b (is_in_fields program v (is_in_below program v n) n first 0 (fields_of program.structs n)) (is_in_below program v n s first) ≡ true
    by_number true q lower =
        let same : s ≡ n = eqb-true _ _ q in
        so_fields n (is_in_below program v n) lower n first 0 (fields_of program.structs n) r.number r.field (ap (λ (k : ℕ). slice_get (fields_of program.structs k) r.number) (sym same) ∙ r.names)
        (λ t is. let low = laid.lower s r.number t r.field r.names is in omega arith)
        (subst (λ k. IsIn program (view_of v) k r.field.ty r.field.count) (place n same) r.inside)
    by_number false q lower = lower s first (grind arith) r

  so_block : AreLaid program.structs → (ty : Ty) (count : ℕ) (o : Option Ty) → o ≡ Some ty → ((s : ℕ) → struct_of ty ≡ Some s → s < length program.structs)
      → IsIn program (view_of v) 0 ty count → is_in_block program v o count ≡ true
  so_block laid ty count o e low inside =
      ap (λ (x : Option Ty). is_in_block program v x count) e
      ∙ so_elements (length program.structs) (is_in_below program v (length program.structs)) (so_below laid (length program.structs)) 0 ty count low inside

pub is_view_so : (program : Program) → IsSound program → (block : New) (v : WireView) → IsViewOf program (record { ty = block.ty; count = block.count }) (view_of v) → is_view_of program block v ≡ true
unfolding is_view_of
is_view_so program sound block v h = and_both _ _
    (so_block program v (laid_out program sound) h.ty block.count (slice_get program.types block.ty) h.names (λ s is. struct_within (length program.structs) h.ty s (sound.table.formed block.ty h.ty h.names) is) h.part)
    (le-leb _ _ h.inside)
