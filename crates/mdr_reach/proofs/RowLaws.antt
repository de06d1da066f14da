-- The table of what stands around the cells of types tells what it should.
use Rattle.std.proofs.Common.{◌≡◌, ℕ, zero, suc, ◌+◌, ◌-◌, ◌*◌, ◌<◌, ◌≤◌, Bool, true, false, ◌⊎◌, inl, inr, List, [], ◌∷◌, ◌++◌, drop, take, get_or, length, map, Option, Some, None, refl, sym, ◌∙◌, ap, subst, arith}
use Rattle.std.specs.Prelude.{slice_get, unwrap_or, ◌==◌}
use Rattle.std.proofs.lemmas.Bool.{both_ways, cases_lt, eqb-true, eq-eqb}
use Rattle.std.proofs.lemmas.List.{append_assoc, append-nil, at_drop_more, at_drop_all, length-append, length-map, map-append}
use mathlib.Core.Path.{fun_ext}
use Rattle.mdr_core.specs.declared.plan.Key.{Key}
use Rattle.mdr_core.specs.declared.program.Field.{Field}
use Rattle.mdr_core.specs.declared.program.Program.{Program}
use Rattle.mdr_core.specs.declared.program.StructDef.{StructDef}
use Rattle.mdr_core.specs.declared.types.Ty.{Ty, out-Ty}
use Rattle.mdr_core.specs.declared.types.Ty.TheOpen.{Ty-F}
use Rattle.mdr_core.specs.Layout.{Alone, Home, Leaf, Within, cells, cells_at, cells_or, chosen, field_leaves, field_start, fields_of, fields_or, leaves, leaves_below, leaves_by, repeated, struct_cells}
use Rattle.mdr_core.proofs.Lying.{is_below, length-repeated, not_below}
use Rattle.mdr_extents.specs.Around.{element_offsets, field_offsets, offsets, offsets_below, offsets_by, offsets_or, struct_offsets}
use Rattle.mdr_reach.specs.declared.rows.Around.{Around}
use Rattle.mdr_reach.specs.declared.rows.Around.TheVariants as around
use Rattle.mdr_reach.specs.declared.rows.Row.{Row}
use Rattle.mdr_reach.specs.declared.layouts.Layouts.{Layouts}
use Rattle.mdr_reach.specs.Keys.{AreLoneKeys}
use Rattle.mdr_reach.specs.Spots.{AreLayouts, AreRows, HasFewCells, IsRowOf, around_of, arounds_by, arounds_in, arounds_of, element_arounds, field_arounds, field_starts, in_field, known_arounds, known_offsets, offsets_in, row_at, row_by, row_or, start_in}

-- ---- one element after another

pub elements_more : {A : Type 0} (xs ys one whole : List A) (left : ℕ) → 0 < left → ys ≡ xs ++ one → xs ++ repeated left one ≡ whole → ys ++ repeated (left - 1) one ≡ whole
unfolding repeated
elements_more xs ys one whole zero l e k = absurd (omega (arith, l))
elements_more xs ys one whole (suc left) l e k =
    let same : suc left - 1 ≡ left = omega arith in
    ap (λ n. ys ++ repeated n one) same ∙ ap (λ zs. zs ++ repeated left one) e ∙ append_assoc xs one (repeated left one) ∙ k

pub offsets_more : (known : ℕ → List ℕ) (ty : Ty) (xs ys whole : List ℕ) (left : ℕ) → 0 < left → ys ≡ xs ++ offsets known (length xs) ty → xs ++ element_offsets known left (length xs) ty ≡ whole → ys ++ element_offsets known (left - 1) (length ys) ty ≡ whole
unfolding element_offsets
offsets_more known ty xs ys whole zero l e k = absurd (omega (arith, l))
offsets_more known ty xs ys whole (suc left) l e k =
    let same : suc left - 1 ≡ left = omega arith in
    let size : length ys ≡ length xs + length (offsets known (length xs) ty) = ap length e ∙ length-append xs (offsets known (length xs) ty) in
    ap (λ n. ys ++ element_offsets known n (length ys) ty) same
    ∙ (λ i. e i ++ element_offsets known left (size i) ty)
    ∙ append_assoc xs (offsets known (length xs) ty) (element_offsets known left (length xs + length (offsets known (length xs) ty)) ty) ∙ k

pub none_left : {A : Type 0} (xs one whole : List A) (left : ℕ) → left ≤ 0 → xs ++ repeated left one ≡ whole → xs ≡ whole
unfolding repeated
none_left xs one whole zero l k = sym (append-nil xs) ∙ k
none_left xs one whole (suc left) l k = absurd (omega (arith, l))

pub no_offsets_left : (known : ℕ → List ℕ) (ty : Ty) (xs whole : List ℕ) (left : ℕ) → left ≤ 0 → xs ++ element_offsets known left (length xs) ty ≡ whole → xs ≡ whole
unfolding element_offsets
no_offsets_left known ty xs whole zero l k = sym (append-nil xs) ∙ k
no_offsets_left known ty xs whole (suc left) l k = absurd (omega (arith, l))

-- ---- one field after another

module _ (touched : List Key) (known : ℕ → List Around) (s : ℕ) where
  field_more : (fs : List Field) (i : ℕ) (x : Field) → i < length fs → x ≡ get_or fs i x → field_arounds touched known s i (drop i fs) ≡ repeated x.count (element_arounds known (in_field touched s i) x.ty) ++ field_arounds touched known s (i + 1) (drop (i + 1) fs)
  unfolding field_arounds
  field_more fs i x inside is = at_drop_more (field_arounds touched known s i) fs i x inside ∙ ap (λ (y : Field). field_arounds touched known s i (y ∷ drop (i + 1) fs)) (sym is)

  pub arounds_more : (xs ys whole : List Around) (fs : List Field) (i : ℕ) (x : Field) → i < length fs → x ≡ get_or fs i x
      → ys ≡ xs ++ repeated x.count (element_arounds known (in_field touched s i) x.ty) → xs ++ field_arounds touched known s i (drop i fs) ≡ whole → ys ++ field_arounds touched known s (i + 1) (drop (i + 1) fs) ≡ whole
  arounds_more xs ys whole fs i x inside is e k =
      let one = repeated x.count (element_arounds known (in_field touched s i) x.ty) in
      let rest = field_arounds touched known s (i + 1) (drop (i + 1) fs) in
      ap (λ zs. zs ++ rest) e ∙ append_assoc xs one rest ∙ ap (λ zs. xs ++ zs) (sym (field_more fs i x inside is)) ∙ k

  pub arounds_over : (xs whole : List Around) (fs : List Field) (i : ℕ) → length fs ≤ i → xs ++ field_arounds touched known s i (drop i fs) ≡ whole → xs ≡ whole
  unfolding field_arounds
  arounds_over xs whole fs i past k = sym (append-nil xs) ∙ ap (λ zs. xs ++ zs) (sym (at_drop_all (field_arounds touched known s i) fs i past)) ∙ k

module _ (known : ℕ → List ℕ) where
  pub field_offsets_more : (xs ys whole : List ℕ) (fs : List Field) (i : ℕ) (x : Field) → i < length fs → x ≡ get_or fs i x
      → ys ≡ xs ++ element_offsets known x.count (length xs) x.ty → xs ++ field_offsets known (length xs) (drop i fs) ≡ whole → ys ++ field_offsets known (length ys) (drop (i + 1) fs) ≡ whole
  unfolding field_offsets
  field_offsets_more xs ys whole fs i x inside is e k =
      let one = element_offsets known x.count (length xs) x.ty in
      let size : length ys ≡ length xs + length one = ap length e ∙ length-append xs one in
      let rest = field_offsets known (length xs + length one) (drop (i + 1) fs) in
      (λ j. e j ++ field_offsets known (size j) (drop (i + 1) fs)) ∙ append_assoc xs one rest
      ∙ ap (λ zs. xs ++ zs) (sym (at_drop_more (field_offsets known (length xs)) fs i x inside ∙ ap (λ (y : Field). field_offsets known (length xs) (y ∷ drop (i + 1) fs)) (sym is))) ∙ k

  pub field_offsets_over : (xs whole : List ℕ) (fs : List Field) (i : ℕ) → length fs ≤ i → xs ++ field_offsets known (length xs) (drop i fs) ≡ whole → xs ≡ whole
  unfolding field_offsets
  field_offsets_over xs whole fs i past k = sym (append-nil xs) ∙ ap (λ zs. xs ++ zs) (sym (at_drop_all (field_offsets known (length xs)) fs i past)) ∙ k

-- as many, whatever stands around them
length-by : (known : ℕ → List Around) (a b : Around) (t : Ty-F Ty) → length (arounds_by known a t) ≡ length (arounds_by known b t)
length-by known a b (Ty-F.Int k) = refl
length-by known a b Ty-F.Lock = refl
length-by known a b (Ty-F.Struct s) = refl
length-by known a b (Ty-F.Ptr t) = refl
length-by known a b Ty-F.VoidPtr = refl
length-by known a b (Ty-F.Fun ts) = refl
length-by known a b Ty-F.Void = refl

length-elements : (known : ℕ → List Around) (n : ℕ) (a b : Around) (ty : Ty) → length (repeated n (element_arounds known a ty)) ≡ length (repeated n (element_arounds known b ty))
unfolding element_arounds
length-elements known n a b ty = length-repeated n (element_arounds known a ty) ∙ ap (λ k. n * k) (length-by known a b (out-Ty ty)) ∙ sym (length-repeated n (element_arounds known b ty))

pub starts_more : (known : ℕ → List Around) (a : Around) (xs ys : List Around) (ss us whole : List ℕ) (fs : List Field) (i : ℕ) (x : Field) → i < length fs → x ≡ get_or fs i x
    → ys ≡ xs ++ repeated x.count (element_arounds known a x.ty) → us ≡ ss ++ length xs ∷ [] → ss ++ field_starts known (length xs) (drop i fs) ≡ whole → us ++ field_starts known (length ys) (drop (i + 1) fs) ≡ whole
unfolding field_starts
starts_more known a xs ys ss us whole fs i x inside is e f k =
    let one = repeated x.count (element_arounds known around.Nothing x.ty) in
    let size : length ys ≡ length xs + length one = ap length e ∙ length-append xs (repeated x.count (element_arounds known a x.ty)) ∙ ap (λ n. length xs + n) (length-elements known x.count a around.Nothing x.ty) in
    let rest = field_starts known (length xs + length one) (drop (i + 1) fs) in
    (λ j. f j ++ field_starts known (size j) (drop (i + 1) fs)) ∙ append_assoc ss (length xs ∷ []) rest
    ∙ ap (λ zs. ss ++ zs) (sym (at_drop_more (field_starts known (length xs)) fs i x inside ∙ ap (λ (y : Field). field_starts known (length xs) (y ∷ drop (i + 1) fs)) (sym is))) ∙ k

pub starts_over : (known : ℕ → List Around) (at : ℕ) (ss whole : List ℕ) (fs : List Field) (i : ℕ) → length fs ≤ i → ss ++ field_starts known at (drop i fs) ≡ whole → ss ≡ whole
unfolding field_starts
starts_over known at ss whole fs i past k = sym (append-nil ss) ∙ ap (λ zs. ss ++ zs) (sym (at_drop_all (field_starts known at) fs i past)) ∙ k

-- ---- what a row tells

module _ (touched : List Key) (known : ℕ → List Around) (cells_known : ℕ → List Leaf) (same : (s : ℕ) → known s ≡ arounds_of touched (cells_known s)) where
  element_by : (home : Home) (ty : Ty) (t : Ty-F Ty) → arounds_by known (around_of touched home) t ≡ arounds_of touched (leaves_by cells_known home ty t)
  element_by home ty (Ty-F.Int k) = refl
  element_by home ty Ty-F.Lock = refl
  element_by home ty (Ty-F.Struct s) = same s
  element_by home ty (Ty-F.Ptr t) = refl
  element_by home ty Ty-F.VoidPtr = refl
  element_by home ty (Ty-F.Fun ts) = refl
  element_by home ty Ty-F.Void = refl

  element_is : (home : Home) (ty : Ty) → element_arounds known (around_of touched home) ty ≡ arounds_of touched (leaves cells_known home ty)
  unfolding element_arounds leaves
  element_is home ty = element_by home ty (out-Ty ty)

  pub repeated_map : {A B : Type 0} (f : A → B) (n : ℕ) (xs : List A) → repeated n (map f xs) ≡ map f (repeated n xs)
  unfolding repeated
  repeated_map f zero xs = refl
  repeated_map f (suc n) xs = ap (λ zs. map f xs ++ zs) (repeated_map f n xs) ∙ sym (map-append f xs (repeated n xs))

  elements_are : (n : ℕ) (home : Home) (ty : Ty) → repeated n (element_arounds known (around_of touched home) ty) ≡ arounds_of touched (repeated n (leaves cells_known home ty))
  elements_are n home ty = ap (repeated n) (element_is home ty) ∙ repeated_map (λ (l : Leaf). around_of touched l.home) n (leaves cells_known home ty)

  pub fields_are : (s f : ℕ) (fs : List Field) → field_arounds touched known s f fs ≡ arounds_of touched (field_leaves cells_known s f fs)
  unfolding field_arounds field_leaves
  fields_are s f [] = refl
  fields_are s f (x ∷ xs) =
      (λ i. elements_are x.count (Within s f) x.ty i ++ fields_are s (f + 1) xs i)
      ∙ sym (map-append (λ (l : Leaf). around_of touched l.home) (repeated x.count (leaves cells_known (Within s f) x.ty)) (field_leaves cells_known s (f + 1) xs))

  length-one : (s f : ℕ) (x : Field) → length (repeated x.count (element_arounds known around.Nothing x.ty)) ≡ length (repeated x.count (leaves cells_known (Within s f) x.ty))
  length-one s f x =
      length-elements known x.count around.Nothing (in_field touched s f) x.ty ∙ ap length (elements_are x.count (Within s f) x.ty)
      ∙ length-map (repeated x.count (leaves cells_known (Within s f) x.ty)) (λ (l : Leaf). around_of touched l.home)

  pub starts_are : (s f at i : ℕ) (fs : List Field) → unwrap_or (slice_get (field_starts known at fs) i) (at + length (field_leaves cells_known s f fs)) ≡ at + length (field_leaves cells_known s f (take i fs))
  unfolding field_starts field_leaves
  starts_are s f at zero [] = refl
  starts_are s f at (suc i) [] = refl
  starts_are s f at zero (x ∷ xs) = omega arith
  starts_are s f at (suc i) (x ∷ xs) =
      let one = repeated x.count (leaves cells_known (Within s f) x.ty) in
      let most = length-append one (field_leaves cells_known s (f + 1) xs) in
      let less = length-append one (field_leaves cells_known s (f + 1) (take i xs)) in
      let size = length-one s f x in
      let here = at + length (repeated x.count (element_arounds known around.Nothing x.ty)) in
      let all : at + length (one ++ field_leaves cells_known s (f + 1) xs) ≡ here + length (field_leaves cells_known s (f + 1) xs) = omega (arith, most, size) in
      let some : here + length (field_leaves cells_known s (f + 1) (take i xs)) ≡ at + length (one ++ field_leaves cells_known s (f + 1) (take i xs)) = omega (arith, less, size) in
      ap (λ n. unwrap_or (slice_get (field_starts known here xs) i) n) all ∙ starts_are s (f + 1) here i xs ∙ some

-- ---- one row after another

get_push : {A : Type 0} (xs : List A) (x : A) (n k : ℕ) → length xs ≡ n → (t : Bool) → (k == n) ≡ t → slice_get (xs ++ x ∷ []) k ≡ chosen t (Some x) (slice_get xs k)
get_push [] x n zero h true e = refl
get_push [] x n (suc k) h true e = absurd (let same = eqb-true (suc k) n e in omega (arith, same, h))
get_push [] x n zero h false e = absurd (let same : 0 ≡ n = omega (arith, h) in both_ways (0 == n) e (eq-eqb 0 n same))
get_push [] x n (suc k) h false e = refl
get_push (y ∷ xs) x n zero h true e = absurd (let same = eqb-true 0 n e in omega (arith, same, h))
get_push (y ∷ xs) x n zero h false e = refl
get_push (y ∷ xs) x n (suc k) h t e = get_push xs x (length xs) k refl t (step k n t e h)
  where
    step : (k n : ℕ) (t : Bool) → (suc k == n) ≡ t → suc (length xs) ≡ n → (k == length xs) ≡ t
    step k n true e h = eq-eqb k (length xs) (let same = eqb-true (suc k) n e in omega (arith, same, h))
    step k n false e h = of (k == length xs) refl
      where
        of : (u : Bool) → (k == length xs) ≡ u → u ≡ false
        of true f = absurd (both_ways (suc k == n) e (eq-eqb (suc k) n (let same = eqb-true k (length xs) f in omega (arith, same, h))))
        of false f = refl

record IsMade (structs : List StructDef) (touched : List Key) (n : ℕ) (rows : List Row) (row : Row) : Type 0 where
  arounds : row.arounds ≡ field_arounds touched (known_arounds rows) n 0 (fields_of structs n)
  offsets : row.offsets ≡ field_offsets (known_offsets rows) 0 (fields_of structs n)
  starts : row.starts ≡ field_starts (known_arounds rows) 0 (fields_of structs n)
  few : HasFewCells row

module _ (structs : List StructDef) (touched : List Key) (n : ℕ) (rows : List Row) (row : Row) (made : IsMade structs touched n rows row) (had : AreRows structs touched n rows) where
  own_arounds : row.arounds ≡ arounds_of touched (field_leaves (leaves_below structs n) n 0 (fields_of structs n))
  own_arounds = made.arounds ∙ fields_are touched (known_arounds rows) (leaves_below structs n) had.arounds n 0 (fields_of structs n)

  own_offsets : row.offsets ≡ field_offsets (offsets_below structs n) 0 (fields_of structs n)
  own_offsets = made.offsets ∙ ap (λ k. field_offsets k 0 (fields_of structs n)) (fun_ext had.offsets)

  own_size : length row.arounds ≡ length (field_leaves (leaves_below structs n) n 0 (fields_of structs n))
  own_size = ap length own_arounds ∙ length-map (field_leaves (leaves_below structs n) n 0 (fields_of structs n)) (λ (l : Leaf). around_of touched l.home)

  own_starts : (f : ℕ) → unwrap_or (slice_get row.starts f) (length row.arounds) ≡ field_start structs n f
  unfolding field_start
  own_starts f =
      (λ i. unwrap_or (slice_get (made.starts i) f) (own_size i))
      ∙ ap (unwrap_or (slice_get (field_starts (known_arounds rows) 0 (fields_of structs n)) f)) (sym (none_before (length (field_leaves (leaves_below structs n) n 0 (fields_of structs n)))))
      ∙ starts_are touched (known_arounds rows) (leaves_below structs n) had.arounds n 0 0 f (fields_of structs n)
      ∙ none_before (length (field_leaves (leaves_below structs n) n 0 (take f (fields_of structs n))))
    where
      none_before : (k : ℕ) → 0 + k ≡ k
      none_before k = omega arith

  arounds_step : (s : ℕ) (t : Bool) → (s == n) ≡ t → arounds_in (chosen t (Some row) (slice_get rows s)) ≡ arounds_of touched (chosen t (field_leaves (leaves_below structs n) n 0 (fields_of structs n)) (leaves_below structs n s))
  arounds_step s true e = own_arounds
  arounds_step s false e = had.arounds s

  offsets_step : (s : ℕ) (t : Bool) → (s == n) ≡ t → offsets_in (chosen t (Some row) (slice_get rows s)) ≡ chosen t (field_offsets (offsets_below structs n) 0 (fields_of structs n)) (offsets_below structs n s)
  offsets_step s true e = own_offsets
  offsets_step s false e = had.offsets s

  starts_step : (s f : ℕ) (t : Bool) → (s == n) ≡ t → s < suc n → start_in (chosen t (Some row) (slice_get rows s)) f ≡ field_start structs s f
  starts_step s f true e h = own_starts f ∙ ap (λ k. field_start structs k f) (sym (eqb-true s n e))
  starts_step s f false e h = had.starts s f (let other : (s ≡ n → ⊥) = λ g. both_ways (s == n) e (eq-eqb s n g) in omega (arith, h, other))

  few_step : (s : ℕ) (t : Bool) → length (arounds_in (chosen t (Some row) (slice_get rows s))) ≤ 4294967295
  few_step s true = made.few
  few_step s false = had.few s

  rows_by : AreRows structs touched (suc n) (rows ++ row ∷ [])
  unfolding leaves_below offsets_below
  rows_by = record {
    count = let more = length-append rows (row ∷ []) in let old = had.count in omega (arith, more, old);
    arounds = λ s. ap arounds_in (get_push rows row n s had.count (s == n) refl) ∙ arounds_step s (s == n) refl;
    offsets = λ s. ap offsets_in (get_push rows row n s had.count (s == n) refl) ∙ offsets_step s (s == n) refl;
    starts = λ s f h. ap (λ r. start_in r f) (get_push rows row n s had.count (s == n) refl) ∙ starts_step s f (s == n) refl h;
    few = λ s. subst (λ o. length (arounds_in o) ≤ 4294967295) (sym (get_push rows row n s had.count (s == n) refl)) (few_step s (s == n));
  }

-- the rows of a list, of which one is made of those before it
pub rows_more : (structs : List StructDef) (touched : List Key) (n k : ℕ) (rows all : List Row) (row : Row) (fs : List Field) → k ≡ n → fs ≡ fields_of structs k → all ≡ rows ++ row ∷ []
    → row.arounds ≡ field_arounds touched (known_arounds rows) k 0 fs → row.offsets ≡ field_offsets (known_offsets rows) 0 fs → row.starts ≡ field_starts (known_arounds rows) 0 fs → HasFewCells row
    → AreRows structs touched n rows → AreRows structs touched (n + 1) all
rows_more structs touched n k rows all row fs same of is a o b few had =
    let field_list : fs ≡ fields_of structs n = of ∙ ap (fields_of structs) same in
    let more : suc n ≡ n + 1 = omega arith in
    let made : IsMade structs touched n rows row = record {
      arounds = a ∙ (λ i. field_arounds touched (known_arounds rows) (same i) 0 (field_list i));
      offsets = o ∙ ap (field_offsets (known_offsets rows) 0) field_list;
      starts = b ∙ ap (field_starts (known_arounds rows) 0) field_list;
      few = few;
    } in
    subst (λ m. AreRows structs touched m all) more (subst (AreRows structs touched (suc n)) (sym is) (rows_by structs touched n rows row made had))

pub no_rows : (structs : List StructDef) (touched : List Key) (rows : List Row) → rows ≡ [] → AreRows structs touched 0 rows
unfolding leaves_below offsets_below
no_rows structs touched rows e = subst (AreRows structs touched 0) (sym e) (record { count = refl; arounds = λ s. none s; offsets = λ s. no_offsets s; starts = λ s f h. absurd (omega (arith, h)); few = λ s. none_few s })
  where
    none : (s : ℕ) → known_arounds [] s ≡ []
    none zero = refl
    none (suc s) = refl

    no_offsets : (s : ℕ) → known_offsets [] s ≡ []
    no_offsets zero = refl
    no_offsets (suc s) = refl

    none_few : (s : ℕ) → length (known_arounds [] s) ≤ 4294967295
    none_few s = let e = ap length (none s) in omega (arith, e)

-- ---- all structs

get_past : {A : Type 0} (xs : List A) (k : ℕ) → length xs ≤ k → slice_get xs k ≡ None
get_past [] zero h = refl
get_past [] (suc k) h = refl
get_past (x ∷ xs) zero h = absurd (omega (arith, h))
get_past (x ∷ xs) (suc k) h = get_past xs k (omega (arith, h))

module _ (structs : List StructDef) where
  no_fields : (s : ℕ) → length structs ≤ s → fields_of structs s ≡ []
  no_fields s h = ap fields_or (get_past structs s h)

  all_cells : (s : ℕ) → leaves_below structs (length structs) s ≡ struct_cells structs s
  unfolding struct_cells field_leaves
  all_cells s = of (cases_lt s (length structs))
    where
      of : (s < length structs) ⊎ (length structs ≤ s) → leaves_below structs (length structs) s ≡ struct_cells structs s
      of (inl h) = is_below structs (length structs) s h
      of (inr h) = not_below structs (length structs) s h ∙ ap (field_leaves (leaves_below structs s) s 0) (sym (no_fields s h))

  -- the structs below n, and those that aren't
  offsets_none : (n s : ℕ) → n ≤ s → offsets_below structs n s ≡ []
  unfolding offsets_below
  offsets_none zero s h = refl
  offsets_none (suc n) s h = of (s == n) refl (offsets_none n s (omega (arith, h)))
    where
      of : (t : Bool) → (s == n) ≡ t → offsets_below structs n s ≡ [] → chosen t (field_offsets (offsets_below structs n) 0 (fields_of structs n)) (offsets_below structs n s) ≡ []
      of true e later = absurd (let same = eqb-true s n e in omega (arith, same, h))
      of false e later = later

  offsets_known : (n s : ℕ) → s < n → offsets_below structs n s ≡ struct_offsets structs s
  unfolding offsets_below struct_offsets
  offsets_known zero s h = absurd (omega (arith, h))
  offsets_known (suc n) s h = of (s == n) refl (λ l. offsets_known n s l)
    where
      of : (t : Bool) → (s == n) ≡ t → (s < n → offsets_below structs n s ≡ field_offsets (offsets_below structs s) 0 (fields_of structs s)) → chosen t (field_offsets (offsets_below structs n) 0 (fields_of structs n)) (offsets_below structs n s) ≡ field_offsets (offsets_below structs s) 0 (fields_of structs s)
      of true e later = ap (λ k. field_offsets (offsets_below structs k) 0 (fields_of structs k)) (sym (eqb-true s n e))
      of false e later = later (let other : (s ≡ n → ⊥) = λ g. both_ways (s == n) e (eq-eqb s n g) in omega (arith, h, other))

  all_offsets : (s : ℕ) → offsets_below structs (length structs) s ≡ struct_offsets structs s
  unfolding struct_offsets field_offsets
  all_offsets s = of (cases_lt s (length structs))
    where
      of : (s < length structs) ⊎ (length structs ≤ s) → offsets_below structs (length structs) s ≡ struct_offsets structs s
      of (inl h) = offsets_known (length structs) s h
      of (inr h) = offsets_none (length structs) s h ∙ ap (field_offsets (offsets_below structs s) 0) (sym (no_fields s h))

  take_none : {A : Type 0} (f : ℕ) → take {A = A} f [] ≡ []
  take_none zero = refl
  take_none (suc f) = refl

  start_past : (s f : ℕ) → length structs ≤ s → 0 ≡ field_start structs s f
  unfolding field_start field_leaves
  start_past s f h = ap (λ fs. length (field_leaves (leaves_below structs s) s 0 fs)) (sym (ap (take f) (no_fields s h) ∙ take_none f))

pub layouts_are : (program : Program) (touched : List Key) (layouts : Layouts) (structs : List StructDef) → structs ≡ program.structs → AreRows structs touched (length structs) layouts.rows
    → layouts.lone.arounds ≡ around.Nothing ∷ [] → layouts.lone.offsets ≡ 0 ∷ [] → layouts.none.arounds ≡ [] → layouts.none.offsets ≡ [] → AreLoneKeys touched layouts.keys → AreLayouts program touched layouts
layouts_are program touched layouts structs same made a b c d keys = record {
  arounds = λ s. rows.arounds s ∙ ap (arounds_of touched) (all_cells program.structs s);
  offsets = λ s. rows.offsets s ∙ all_offsets program.structs s;
  starts = λ s f. of s f (cases_lt s (length program.structs));
  few = rows.few;
  lone_around = a;
  lone_offset = b;
  no_arounds = c;
  no_offsets = d;
  keys = keys;
}
  where
    rows : AreRows program.structs touched (length program.structs) layouts.rows
    rows = subst (λ ss. AreRows ss touched (length ss) layouts.rows) same made

    of : (s f : ℕ) → (s < length program.structs) ⊎ (length program.structs ≤ s) → start_in (slice_get layouts.rows s) f ≡ field_start program.structs s f
    of s f (inl h) = rows.starts s f h
    of s f (inr h) = ap (λ r. start_in r f) (get_past layouts.rows s (let many = rows.count in omega (arith, many, h))) ∙ start_past program.structs s f h

-- ---- the row of a type

module _ (program : Program) (touched : List Key) (layouts : Layouts) (tells : AreLayouts program touched layouts) where
  arounds_or : (o : Option Row) → (row_or o layouts.none).arounds ≡ arounds_in o
  arounds_or None = tells.no_arounds
  arounds_or (Some r) = refl

  offsets_or_none : (o : Option Row) → (row_or o layouts.none).offsets ≡ offsets_in o
  offsets_or_none None = tells.no_offsets
  offsets_or_none (Some r) = refl

  arounds_type : (ty : Ty) (t : Ty-F Ty) → (row_by layouts t).arounds ≡ arounds_of touched (leaves_by (struct_cells program.structs) Alone ty t)
  arounds_type ty (Ty-F.Int k) = tells.lone_around
  arounds_type ty Ty-F.Lock = tells.lone_around
  arounds_type ty (Ty-F.Struct s) = arounds_or (slice_get layouts.rows s) ∙ tells.arounds s
  arounds_type ty (Ty-F.Ptr t) = tells.lone_around
  arounds_type ty Ty-F.VoidPtr = tells.lone_around
  arounds_type ty (Ty-F.Fun ts) = tells.lone_around
  arounds_type ty Ty-F.Void = tells.no_arounds

  offsets_type : (t : Ty-F Ty) → (row_by layouts t).offsets ≡ offsets_by (struct_offsets program.structs) 0 t
  offsets_type (Ty-F.Int k) = tells.lone_offset
  offsets_type Ty-F.Lock = tells.lone_offset
  offsets_type (Ty-F.Struct s) = offsets_or_none (slice_get layouts.rows s) ∙ tells.offsets s
  offsets_type (Ty-F.Ptr t) = tells.lone_offset
  offsets_type Ty-F.VoidPtr = tells.lone_offset
  offsets_type (Ty-F.Fun ts) = tells.lone_offset
  offsets_type Ty-F.Void = tells.no_offsets

  arounds_at : (o : Option Ty) → (row_at layouts o).arounds ≡ arounds_of touched (cells_or program o)
  unfolding cells leaves
  arounds_at None = tells.no_arounds
  arounds_at (Some ty) = arounds_type ty (out-Ty ty)

  offsets_at : (o : Option Ty) → (row_at layouts o).offsets ≡ offsets_or program o
  unfolding offsets
  offsets_at None = tells.no_offsets
  offsets_at (Some ty) = offsets_type (out-Ty ty)

  lone_few : HasFewCells layouts.lone
  lone_few = let e = ap length tells.lone_around in omega (arith, e)

  few_or : (o : Option Row) → length (arounds_in o) ≤ 4294967295 → HasFewCells (row_or o layouts.none)
  few_or None h = let e = ap length tells.no_arounds in omega (arith, e)
  few_or (Some r) h = h

  few_type : (t : Ty-F Ty) → HasFewCells (row_by layouts t)
  few_type (Ty-F.Int k) = lone_few
  few_type Ty-F.Lock = lone_few
  few_type (Ty-F.Struct s) = few_or (slice_get layouts.rows s) (tells.few s)
  few_type (Ty-F.Ptr t) = lone_few
  few_type Ty-F.VoidPtr = lone_few
  few_type (Ty-F.Fun ts) = lone_few
  few_type Ty-F.Void = let e = ap length tells.no_arounds in omega (arith, e)

  few_at : (o : Option Ty) → HasFewCells (row_at layouts o)
  few_at None = let e = ap length tells.no_arounds in omega (arith, e)
  few_at (Some ty) = few_type (out-Ty ty)

  pub row_is : (ty : ℕ) (row : Row) → row ≡ row_at layouts (slice_get program.types ty) → IsRowOf program touched ty row
  row_is ty row e = subst (IsRowOf program touched ty) (sym e) (record { arounds = arounds_at (slice_get program.types ty); offsets = offsets_at (slice_get program.types ty); few = few_at (slice_get program.types ty) })

pub size_is : (program : Program) (touched : List Key) (ty : ℕ) (row : Row) → IsRowOf program touched ty row → length row.arounds ≡ length (cells_at program ty)
size_is program touched ty row h = ap length h.arounds ∙ length-map (cells_at program ty) (λ (l : Leaf). around_of touched l.home)

-- the same of a slice of the rows
pub rows_of_slice : (structs : List StructDef) (touched : List Key) (n k : ℕ) (rows seen all : List Row) (row : Row) (fs : List Field) → seen ≡ rows → k ≡ n → fs ≡ fields_of structs k → all ≡ rows ++ row ∷ []
    → row.arounds ≡ field_arounds touched (known_arounds seen) k 0 fs → row.offsets ≡ field_offsets (known_offsets seen) 0 fs → row.starts ≡ field_starts (known_arounds seen) 0 fs → HasFewCells row
    → AreRows structs touched n rows → AreRows structs touched (n + 1) all
rows_of_slice structs touched n k rows seen all row fs e same of is a o b few had =
    rows_more structs touched n k rows all row fs same of is (a ∙ ap (λ rs. field_arounds touched (known_arounds rs) k 0 fs) e) (o ∙ ap (λ rs. field_offsets (known_offsets rs) 0 fs) e) (b ∙ ap (λ rs. field_starts (known_arounds rs) 0 fs) e) few had

-- a row that isn't there has no cells
pub none_known : (xs : List Around) (rows : List Row) (s : ℕ) → None ≡ slice_get rows s → xs ≡ xs ++ known_arounds rows s
none_known xs rows s e = sym (append-nil xs) ∙ ap (λ o. xs ++ arounds_in o) e

pub no_offsets_known : (xs : List ℕ) (rows : List Row) (s : ℕ) → None ≡ slice_get rows s → xs ≡ xs ++ known_offsets rows s
no_offsets_known xs rows s e = sym (append-nil xs) ∙ ap (λ o. xs ++ offsets_in o) e
