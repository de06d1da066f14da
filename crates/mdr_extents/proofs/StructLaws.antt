-- The struct around a cell is found: from its start on stand its cells.
use Rattle.std.proofs.Common.{◌≡◌, ℕ, zero, suc, ◌+◌, ◌-◌, ◌<◌, ◌≤◌, Bool, true, false, ◌⊎◌, inl, inr, List, [], ◌∷◌, ◌++◌, Option, Some, None, length, refl, sym, ◌∙◌, ap, subst, arith, le_refl}
use Rattle.std.specs.Prelude.{slice_get, ◌==◌}
use Rattle.std.proofs.lemmas.Bool.{cases_lt}
use Rattle.std.proofs.lemmas.List.{length-append}
use Rattle.mdr_core.specs.declared.program.Field.{Field}
use Rattle.mdr_core.specs.declared.program.Program.{Program}
use Rattle.mdr_core.specs.declared.program.StructDef.{StructDef}
use Rattle.mdr_core.specs.declared.types.Ty.{Ty, out-Ty}
use Rattle.mdr_core.specs.declared.types.Ty.TheOpen.{Ty-F}
use Rattle.mdr_core.specs.Layout.{Alone, Home, Leaf, Within, cells, cells_at, cells_or, chosen, field_leaves, fields_of, leaves, leaves_below, leaves_by, repeated, struct_cells}
use Rattle.mdr_core.proofs.Lying.{is_below, not_below}
use Rattle.mdr_model.specs.declared.message.New.{New}
use Rattle.mdr_model.specs.Memory.{leaves_of}
use Rattle.mdr_extents.specs.Around.{element_offsets, field_offsets, offsets, offsets_below, offsets_by, offsets_of, offsets_or, start_by, struct_offsets, struct_start}
use Rattle.mdr_extents.specs.Laws.{IsAround, StructsAreAround}

-- ---- lists

get_front : {A : Type 0} (xs ys : List A) (k : ℕ) (x : A) → slice_get xs k ≡ Some x → slice_get (xs ++ ys) k ≡ Some x
get_front [] ys k x e = absurd cc
get_front (a ∷ xs) ys zero x e = e
get_front (a ∷ xs) ys (suc k) x e = get_front xs ys k x e

no_more : (k : ℕ) → 0 + k ≡ k
no_more k = omega arith

one_more : (n k : ℕ) → suc n + k ≡ suc (n + k)
one_more n k = omega arith

get_behind : {A : Type 0} (xs ys : List A) (k : ℕ) → slice_get (xs ++ ys) (length xs + k) ≡ slice_get ys k
get_behind [] ys k = ap (slice_get ys) (no_more k)
get_behind (a ∷ xs) ys k = ap (slice_get (a ∷ (xs ++ ys))) (one_more (length xs) k) ∙ get_behind xs ys k

get_left : {A : Type 0} (xs ys : List A) (k : ℕ) → k < length xs → slice_get (xs ++ ys) k ≡ slice_get xs k
get_left [] ys k h = absurd (omega (arith, h))
get_left (a ∷ xs) ys zero h = refl
get_left (a ∷ xs) ys (suc k) h = get_left xs ys k (omega (arith, h))

module _ (structs : List StructDef) where
  -- a cell of a struct within a list, so many cells behind the struct's start
  record Inside (ls : List Leaf) (i o t : ℕ) (l : Leaf) : Type 0 where
    after : o ≤ i
    own : slice_get (struct_cells structs t) o ≡ Some l
    rest : (j : ℕ) (x : Leaf) → slice_get (struct_cells structs t) j ≡ Some x → slice_get ls ((i - o) + j) ≡ Some x

  record Spot (own : ℕ → Type 0) (p : ℕ) (ls : List Leaf) (os : List ℕ) (i : ℕ) (l : Leaf) (t : ℕ) : Type 0 where
    offset : ℕ
    is : slice_get os i ≡ Some offset
    found : (own t × (offset ≡ p + i)) ⊎ Inside ls i offset t l

  -- a part of a list, from position p on: its offsets are as many, and tell each cell's place in its struct
  record Finds (own : ℕ → Type 0) (p : ℕ) (ls : List Leaf) (os : List ℕ) : Type 0 where
    size : length ls ≡ length os
    spot : (i : ℕ) (l : Leaf) (t f : ℕ) → slice_get ls i ≡ Some l → l.home ≡ Within t f → Spot own p ls os i l t

  nothing : (own : ℕ → Type 0) (p : ℕ) → Finds own p [] []
  nothing own p = record { size = refl; spot = λ i l t f e h. absurd cc }

  -- ---- one part behind another

  inside_front : (xs ys : List Leaf) (i o t : ℕ) (l : Leaf) → Inside xs i o t l → Inside (xs ++ ys) i o t l
  inside_front xs ys i o t l n = record { after = n.after; own = n.own; rest = λ j x e. get_front xs ys _ x (n.rest j x e) }

  moved : (n i o j : ℕ) → o ≤ i → ((n + i) - o) + j ≡ n + ((i - o) + j)
  moved n i o j h = omega (arith, h)

  inside_behind : (xs ys : List Leaf) (i o t : ℕ) (l : Leaf) → Inside ys i o t l → Inside (xs ++ ys) (length xs + i) o t l
  inside_behind xs ys i o t l n = record {
    after = let h = n.after in omega (arith, h);
    own = n.own;
    rest = λ j x e. ap (λ k. slice_get (xs ++ ys) k) (moved (length xs) i o j n.after) ∙ (get_behind xs ys ((i - o) + j) ∙ n.rest j x e);
  }

  joins : (own : ℕ → Type 0) (p : ℕ) (xs ys : List Leaf) (os qs : List ℕ) → Finds own p xs os → Finds own (p + length xs) ys qs → Finds own p (xs ++ ys) (os ++ qs)
  joins own p xs ys os qs a b = record {
    size = length-append xs ys ∙ (let m = a.size in let n = b.size in omega (arith, m, n, length-append os qs));
    spot = λ i l t f e h. of i l t f e h (cases_lt i (length xs));
  }
    where
      front : (i : ℕ) (l : Leaf) (t : ℕ) → Spot own p xs os i l t → Spot own p (xs ++ ys) (os ++ qs) i l t
      front i l t s = record { offset = s.offset; is = get_front os qs i s.offset s.is; found = part s.found }
        where
          part : (own t × (s.offset ≡ p + i)) ⊎ Inside xs i s.offset t l → (own t × (s.offset ≡ p + i)) ⊎ Inside (xs ++ ys) i s.offset t l
          part (inl q) = inl q
          part (inr q) = inr (inside_front xs ys i s.offset t l q)

      behind : (k : ℕ) (l : Leaf) (t : ℕ) → Spot own (p + length xs) ys qs k l t → Spot own p (xs ++ ys) (os ++ qs) (length xs + k) l t
      behind k l t s = record {
        offset = s.offset;
        is = ap (λ n. slice_get (os ++ qs) (n + k)) a.size ∙ (get_behind os qs k ∙ s.is);
        found = part s.found;
      }
        where
          part : (own t × (s.offset ≡ (p + length xs) + k)) ⊎ Inside ys k s.offset t l → (own t × (s.offset ≡ p + (length xs + k))) ⊎ Inside (xs ++ ys) (length xs + k) s.offset t l
          part (inl q) = inl (q.0, let e = q.1 in omega (arith, e))
          part (inr q) = inr (inside_behind xs ys k s.offset t l q)

      of : (i : ℕ) (l : Leaf) (t f : ℕ) → slice_get (xs ++ ys) i ≡ Some l → l.home ≡ Within t f → (i < length xs) ⊎ (length xs ≤ i) → Spot own p (xs ++ ys) (os ++ qs) i l t
      of i l t f e h (inl less) = front i l t (a.spot i l t f (sym (get_left xs ys i less) ∙ e) h)
      of i l t f e h (inr more) =
          let at : length xs + (i - length xs) ≡ i = omega (arith, more) in
          subst (λ n. Spot own p (xs ++ ys) (os ++ qs) n l t) at
          (behind (i - length xs) l t (b.spot (i - length xs) l t f (sym (get_behind xs ys (i - length xs)) ∙ (ap (λ n. slice_get (xs ++ ys) n) at ∙ e)) h))

  -- ---- elements

  one : (own : ℕ → Type 0) (p : ℕ) (l : Leaf) → ((t f : ℕ) → l.home ≡ Within t f → own t) → Finds own p (l ∷ []) (p ∷ [])
  one own p l is = record { size = refl; spot = spot }
    where
      spot : (i : ℕ) (x : Leaf) (t f : ℕ) → slice_get (l ∷ []) i ≡ Some x → x.home ≡ Within t f → Spot own p (l ∷ []) (p ∷ []) i x t
      spot zero x t f e h = let same : l ≡ x = cc in record { offset = p; is = refl; found = inl (is t f (ap (λ (y : Leaf). y.home) same ∙ h), omega arith) }
      spot (suc i) x t f e h = absurd cc

  -- a struct as a whole within another list: all its cells are inside
  within : (own : ℕ → Type 0) (p m : ℕ) (os : List ℕ) → Finds (λ t. t ≡ m) 0 (struct_cells structs m) os → Finds own p (struct_cells structs m) os
  within own p m os w = record { size = w.size; spot = λ i l t f e h. of i l t e (w.spot i l t f e h) }
    where
      part : (i o t : ℕ) (l : Leaf) → slice_get (struct_cells structs m) i ≡ Some l → ((t ≡ m) × (o ≡ 0 + i)) ⊎ Inside (struct_cells structs m) i o t l → Inside (struct_cells structs m) i o t l
      part i o t l e (inr q) = q
      part i o t l e (inl q) = record {
        after = let s = q.1 in omega (arith, s);
        own = let s : o ≡ i = (let z = q.1 in omega (arith, z)) in rw (q.0, s) e;
        rest = λ j x g. let s : (i - o) + j ≡ j = (let z = q.1 in omega (arith, z)) in ap (λ n. slice_get (struct_cells structs m) n) s ∙ (ap (λ n. slice_get (struct_cells structs n) j) (sym q.0) ∙ g);
      }

      of : (i : ℕ) (l : Leaf) (t : ℕ) → slice_get (struct_cells structs m) i ≡ Some l → Spot (λ u. u ≡ m) 0 (struct_cells structs m) os i l t → Spot own p (struct_cells structs m) os i l t
      of i l t e s = record { offset = s.offset; is = s.is; found = inr (part i s.offset t l e s.found) }

  abbrev Whole : ℕ → Type 0
  Whole m = Finds (λ t. t ≡ m) 0 (struct_cells structs m) (struct_offsets structs m)

  -- what is known of each struct: its cells and their offsets
  abbrev Knows : (own : ℕ → Type 0) → (ℕ → List Leaf) → (ℕ → List ℕ) → Type 0
  Knows own k o = (m p : ℕ) → Finds own p (k m) (o m)

  module _ (own : ℕ → Type 0) (k : ℕ → List Leaf) (o : ℕ → List ℕ) (each : Knows own k o) where
    element_by : (home : Home) → ((t f : ℕ) → home ≡ Within t f → own t) → (p : ℕ) (ty : Ty) (layer : Ty-F Ty) → Finds own p (leaves_by k home ty layer) (offsets_by o p layer)
    element_by home is p ty (Ty-F.Int n) = one own p (record { home = home; type = ty }) is
    element_by home is p ty Ty-F.Lock = one own p (record { home = home; type = ty }) is
    element_by home is p ty (Ty-F.Struct m) = each m p
    element_by home is p ty (Ty-F.Ptr t) = one own p (record { home = home; type = ty }) is
    element_by home is p ty Ty-F.VoidPtr = one own p (record { home = home; type = ty }) is
    element_by home is p ty (Ty-F.Fun ts) = one own p (record { home = home; type = ty }) is
    element_by home is p ty Ty-F.Void = nothing own p

    element : (home : Home) → ((t f : ℕ) → home ≡ Within t f → own t) → (p : ℕ) (ty : Ty) → Finds own p (leaves k home ty) (offsets o p ty)
    unfolding leaves offsets
    element home is p ty = element_by home is p ty (out-Ty ty)

    elements : (home : Home) → ((t f : ℕ) → home ≡ Within t f → own t) → (count p : ℕ) (ty : Ty) → Finds own p (repeated count (leaves k home ty)) (element_offsets o count p ty)
    unfolding repeated element_offsets
    elements home is zero p ty = nothing own p
    elements home is (suc n) p ty =
        let first = element home is p ty in
        joins own p (leaves k home ty) (repeated n (leaves k home ty)) (offsets o p ty) (element_offsets o n (p + length (offsets o p ty)) ty) first
        (subst (λ q. Finds own q (repeated n (leaves k home ty)) (element_offsets o n (p + length (offsets o p ty)) ty)) (ap (λ q. p + q) (sym first.size)) (elements home is n (p + length (offsets o p ty)) ty))

  same_struct : (s f t g : ℕ) → Within s f ≡ Within t g → t ≡ s
  same_struct s f t g e = cc

  fields : (s : ℕ) (k : ℕ → List Leaf) (o : ℕ → List ℕ) → Knows (λ t. t ≡ s) k o → (f at : ℕ) (xs : List Field) → Finds (λ t. t ≡ s) at (field_leaves k s f xs) (field_offsets o at xs)
  unfolding field_leaves field_offsets
  fields s k o each f at [] = nothing (λ t. t ≡ s) at
  fields s k o each f at (x ∷ xs) =
      let first = elements (λ t. t ≡ s) k o each (Within s f) (λ t g e. same_struct s f t g e) x.count at x.ty in
      joins (λ t. t ≡ s) at (repeated x.count (leaves k (Within s f) x.ty)) (field_leaves k s (f + 1) xs) (element_offsets o x.count at x.ty) (field_offsets o (at + length (element_offsets o x.count at x.ty)) xs) first
      (subst (λ q. Finds (λ t. t ≡ s) q (field_leaves k s (f + 1) xs) (field_offsets o (at + length (element_offsets o x.count at x.ty)) xs)) (ap (λ q. at + q) (sym first.size)) (fields s k o each (f + 1) (at + length (element_offsets o x.count at x.ty)) xs))

  -- ---- structs

  other_by : (n s : ℕ) (t : Bool) → (n ≡ s → ⊥) → (s == n) ≡ t → chosen t (field_offsets (offsets_below structs n) 0 (fields_of structs n)) (offsets_below structs n s) ≡ offsets_below structs n s
  other_by n s true apart e = absurd (apart (grind arith))
  other_by n s false apart e = refl

  none_below : (n s : ℕ) → n ≤ s → offsets_below structs n s ≡ []
  unfolding offsets_below
  none_below zero s h = refl
  none_below (suc n) s h = other_by n s (s == n) (λ e. omega arith) refl ∙ none_below n s (omega arith)

  known_by : (n s : ℕ) (t : Bool) → (s == n) ≡ t → (s < n → offsets_below structs n s ≡ struct_offsets structs s) → s < suc n → chosen t (field_offsets (offsets_below structs n) 0 (fields_of structs n)) (offsets_below structs n s) ≡ struct_offsets structs s
  unfolding struct_offsets
  known_by n s true e lower h = let same : s ≡ n = grind arith in ap (struct_offsets structs) (sym same)
  known_by n s false e lower h = lower (grind arith)

  known_below : (n s : ℕ) → s < n → offsets_below structs n s ≡ struct_offsets structs s
  unfolding offsets_below
  known_below zero s h = absurd (omega arith)
  known_below (suc n) s h = known_by n s (s == n) refl (λ l. known_below n s l) h

  knows_below : (own : ℕ → Type 0) (n : ℕ) → ((m : ℕ) → m < n → Whole m) → Knows own (leaves_below structs n) (offsets_below structs n)
  knows_below own n wholes m p = of (cases_lt m n)
    where
      of : (m < n) ⊎ (n ≤ m) → Finds own p (leaves_below structs n m) (offsets_below structs n m)
      of (inl less) = rw (is_below structs n m less, known_below n m less) (within own p m (struct_offsets structs m) (wholes m less))
      of (inr more) = rw (not_below structs n m more, none_below n m more) (nothing own p)

  wholes_below : (n m : ℕ) → m < n → Whole m
  unfolding struct_cells struct_offsets
  wholes_below zero m h = absurd (omega (arith, h))
  wholes_below (suc n) m h = fields m (leaves_below structs m) (offsets_below structs m) (knows_below (λ t. t ≡ m) m (λ j less. wholes_below n j (omega (arith, less, h)))) 0 0 (fields_of structs m)

  -- ---- blocks

  abbrev Never : ℕ → Type 0
  Never t = ⊥

  anywhere : (p : ℕ) (ls : List Leaf) (os : List ℕ) → Finds Never 0 ls os → Finds Never p ls os
  anywhere p ls os w = record { size = w.size; spot = λ i l t f e h. of i l t (w.spot i l t f e h) }
    where
      part : (i q t : ℕ) (l : Leaf) → (⊥ × (q ≡ 0 + i)) ⊎ Inside ls i q t l → (⊥ × (q ≡ p + i)) ⊎ Inside ls i q t l
      part i q t l (inl z) = absurd z.0
      part i q t l (inr z) = inr z

      of : (i : ℕ) (l : Leaf) (t : ℕ) → Spot Never 0 ls os i l t → Spot Never p ls os i l t
      of i l t s = record { offset = s.offset; is = s.is; found = part i s.offset t l s.found }

  all_elements : (n p : ℕ) (ls : List Leaf) (os : List ℕ) → Finds Never 0 ls os → Finds Never p (repeated n ls) (repeated n os)
  unfolding repeated
  all_elements zero p ls os w = nothing Never p
  all_elements (suc n) p ls os w = joins Never p ls (repeated n ls) os (repeated n os) (anywhere p ls os w) (all_elements n (p + length ls) ls os w)

  not_alone : (t f : ℕ) → Alone ≡ Within t f → ⊥
  not_alone t f e = cc

  of_type : (ty : Ty) → Finds Never 0 (leaves (struct_cells structs) Alone ty) (offsets (struct_offsets structs) 0 ty)
  of_type ty = element Never (struct_cells structs) (struct_offsets structs) (λ m p. within Never p m (struct_offsets structs m) (wholes_below (suc m) m (le_refl (suc m)))) Alone not_alone 0 ty

module _ (program : Program) where
  typed : (ty : Option Ty) → Finds program.structs (λ t. ⊥) 0 (cells_or program ty) (offsets_or program ty)
  unfolding cells
  typed None = nothing program.structs (λ t. ⊥) 0
  typed (Some ty) = of_type program.structs ty

  in_block : (block : New) → Finds program.structs (λ t. ⊥) 0 (leaves_of program block) (offsets_of program block)
  unfolding leaves_of offsets_of
  in_block block = all_elements program.structs block.count 0 (cells_at program block.ty) (offsets_or program (slice_get program.types block.ty)) (typed (slice_get program.types block.ty))

  around : (block : New) (index o s : ℕ) (l : Leaf) → Inside program.structs (leaves_of program block) index o s l → IsAround program block index l s (index - o)
  around block index o s l n = record {
    begun = omega arith;
    own = let same : index - (index - o) ≡ o = (let h = n.after in omega (arith, h)) in ap (slice_get (struct_cells program.structs s)) same ∙ n.own;
    cells = n.rest;
  }

pub structs_are_around : StructsAreAround
unfolding struct_start
structs_are_around program block index l s f e h = of ((in_block program block).spot index l s f e h)
  where
    part : (o : ℕ) → (⊥ × (o ≡ 0 + index)) ⊎ Inside program.structs (leaves_of program block) index o s l → IsAround program block index l s (index - o)
    part o (inl z) = absurd z.0
    part o (inr z) = around program block index o s l z

    of : Spot program.structs (λ t. ⊥) 0 (leaves_of program block) (offsets_of program block) index l s → IsAround program block index l s (start_by index (slice_get (offsets_of program block) index))
    of spot = subst (IsAround program block index l s) (sym (ap (start_by index) spot.is)) (part spot.offset spot.found)
