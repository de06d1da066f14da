-- Of the cells of fields and structs.
use Rattle.std.proofs.Common.{slice_get, take, None, Option, ◌%◌, ◌⊎◌, inl, inr, append_assoc, Some, ◌-◌, ◌≡◌, ℕ, zero, suc, ◌+◌, ◌*◌, ◌<◌, ◌≤◌, Bool, true, false, ◌==◌, List, [], ◌∷◌, ◌++◌, length, get_or, drop, refl, sym, ap, ◌∙◌, arith}
use Rattle.std.proofs.lemmas.Option.{slice_get_read, slice_get_cases}
use Rattle.std.proofs.Math.Nat.{mod-eq_of_lt, add-mod_left}
use Rattle.std.proofs.lemmas.Bool.{cases_lt}
use Rattle.std.proofs.lemmas.List.{at_drop_more, at_drop_all, length-append}
use Rattle.mdr_core.specs.declared.types.Ty.{Ty, out-Ty}
use Rattle.mdr_core.specs.declared.types.Ty.TheOpen.{Ty-F}
use Rattle.mdr_core.specs.declared.types.Ty.TheVariants as type
use Rattle.mdr_core.specs.declared.types.Ty.TheVariants.{outs-Struct}
use Rattle.mdr_core.specs.declared.program.Field.{Field}
use Rattle.mdr_core.specs.declared.program.StructDef.{StructDef}
use Rattle.mdr_core.specs.declared.program.Program.{Program}
use Rattle.std.specs.Option.{option_map}
use Rattle.mdr_core.specs.declared.plan.Key.{Key}
use Rattle.mdr_core.specs.declared.value.Value.{Value}
use Rattle.mdr_core.specs.Layout.{key_at, key_by, zero_at, zero_value, Leaf, Home, repeated, leaves, leaves_by, field_leaves, fields_of, leaves_below, struct_cells, cells, cells_at, cells_or, chosen, struct_of, struct_by, field_start}
use Rattle.mdr_core.specs.Fields.{IsInField}

pub length-repeated : {A : Type 0} (n : ℕ) (xs : List A) → length (repeated n xs) ≡ n * length xs
unfolding repeated
length-repeated zero xs = omega arith
length-repeated (suc n) xs = let more = length-append xs (repeated n xs) in let rest = length-repeated n xs in omega arith

-- how many cells there are, whatever stands around them
length-leaves_by : (known : ℕ → List Leaf) (g h : Home) (ty : Ty) (t : Ty-F Ty) → length (leaves_by known g ty t) ≡ length (leaves_by known h ty t)
length-leaves_by known g h ty (Ty-F.Int k) = refl
length-leaves_by known g h ty Ty-F.Lock = refl
length-leaves_by known g h ty (Ty-F.Struct s) = refl
length-leaves_by known g h ty (Ty-F.Ptr t) = refl
length-leaves_by known g h ty Ty-F.VoidPtr = refl
length-leaves_by known g h ty (Ty-F.Fun ts) = refl
length-leaves_by known g h ty Ty-F.Void = refl

pub length-leaves : (known : ℕ → List Leaf) (g h : Home) (ty : Ty) → length (leaves known g ty) ≡ length (leaves known h ty)
unfolding leaves
length-leaves known g h ty = length-leaves_by known g h ty (out-Ty ty)

-- the cells of the fields from one on are its own and those of the fields behind it
pub fields_more : (known : ℕ → List Leaf) (s : ℕ) (xs : List Field) (i : ℕ) (x : Field) → i < length xs → x ≡ get_or xs i x → field_leaves known s i (drop i xs) ≡ repeated x.count (leaves known (Home.Within s i) x.ty) ++ field_leaves known s (i + 1) (drop (i + 1) xs)
unfolding field_leaves
fields_more known s xs i x inside is = at_drop_more (field_leaves known s i) xs i x inside ∙ ap (λ (y : Field). field_leaves known s i (y ∷ drop (i + 1) xs)) (sym is)

pub fields_over : (known : ℕ → List Leaf) (s : ℕ) (xs : List Field) (i : ℕ) → length xs ≤ i → field_leaves known s i (drop i xs) ≡ []
unfolding field_leaves
fields_over known s xs i past = at_drop_all (field_leaves known s i) xs i past

-- the structs below n, and those that aren't
below_by : (structs : List StructDef) (n s : ℕ) (t : Bool) → (n ≡ s → ⊥) → (s == n) ≡ t → chosen t (field_leaves (leaves_below structs n) n 0 (fields_of structs n)) (leaves_below structs n s) ≡ leaves_below structs n s
below_by structs n s true not e = absurd (not (grind arith))
below_by structs n s false not e = refl

pub not_below : (structs : List StructDef) (n s : ℕ) → n ≤ s → leaves_below structs n s ≡ []
unfolding leaves_below
not_below structs zero s h = refl
not_below structs (suc n) s h = below_by structs n s (s == n) (λ e. omega arith) refl ∙ not_below structs n s (omega arith)

is_below_by : (structs : List StructDef) (n s : ℕ) (t : Bool) → (s == n) ≡ t → (s < n → leaves_below structs n s ≡ struct_cells structs s) → s < suc n → chosen t (field_leaves (leaves_below structs n) n 0 (fields_of structs n)) (leaves_below structs n s) ≡ struct_cells structs s
unfolding struct_cells
is_below_by structs n s true e lower h = let same : s ≡ n = grind arith in ap (struct_cells structs) (sym same)
is_below_by structs n s false e lower h = lower (grind arith)

pub is_below : (structs : List StructDef) (n s : ℕ) → s < n → leaves_below structs n s ≡ struct_cells structs s
unfolding leaves_below
is_below structs zero s h = absurd (omega arith)
is_below structs (suc n) s h = is_below_by structs n s (s == n) refl (λ l. is_below structs n s l) h

-- a sum of cells goes on by the cells of one field
pub size_more : (known : ℕ → List Leaf) (s : ℕ) (xs ys : List Field) (i : ℕ) (x : Field) (total whole one : ℕ) → ys ≡ xs → i < length ys → x ≡ get_or ys i x → one ≡ length (leaves known Home.Alone x.ty) → total + length (field_leaves known s i (drop i xs)) ≡ whole → total + x.count * one + length (field_leaves known s (i + 1) (drop (i + 1) xs)) ≡ whole
size_more known s xs ys i x total whole one same inside is size so_far =
    let more = ap length (fields_more known s xs i x (rw (← same) inside) (rw (← same) is)) in
    let parts = length-append (repeated x.count (leaves known (Home.Within s i) x.ty)) (field_leaves known s (i + 1) (drop (i + 1) xs)) in
    let times = length-repeated x.count (leaves known (Home.Within s i) x.ty) in
    let alike : one ≡ length (leaves known (Home.Within s i) x.ty) = size ∙ length-leaves known Home.Alone (Home.Within s i) x.ty in
    let product : x.count * one ≡ x.count * length (leaves known (Home.Within s i) x.ty) = ap (λ n. x.count * n) alike in
    omega arith

pub size_over : (known : ℕ → List Leaf) (s : ℕ) (xs ys : List Field) (i total whole : ℕ) → ys ≡ xs → length ys ≤ i → total + length (field_leaves known s i (drop i xs)) ≡ whole → total ≡ whole
size_over known s xs ys i total whole same past so_far =
    let none = ap length (fields_over known s xs i (rw (← same) past)) in
    omega arith

-- the cells of a struct's type, in which those below n are known
pub known_struct : (structs : List StructDef) (n s : ℕ) (home : Home) (ty : Ty) (size : ℕ) → s < n → ty ≡ type.Struct s → size ≡ length (struct_cells structs s) → size ≡ length (leaves (leaves_below structs n) home ty)
unfolding leaves
known_struct structs n s home ty size below is e = rw (is, outs-Struct s) (e ∙ ap length (sym (is_below structs n s below)))

pub unknown_struct : (structs : List StructDef) (n s : ℕ) (home : Home) (ty : Ty) → n ≤ s → ty ≡ type.Struct s → 0 ≡ length (leaves (leaves_below structs n) home ty)
unfolding leaves
unknown_struct structs n s home ty above is = rw (is, outs-Struct s) (ap length (sym (not_below structs n s above)))

-- ---- the field in which a cell lies

-- how far a search has come: behind the first i fields, with `left` cells to go
pub record Sought (structs : List StructDef) (s cell i number left : ℕ) : Type 0 where
  pub at : number ≡ i
  pub place : cell + length (field_leaves (leaves_below structs s) s i (drop i (fields_of structs s))) ≡ left + length (struct_cells structs s)
  pub inside : left < length (field_leaves (leaves_below structs s) s i (drop i (fields_of structs s)))
  pub same : slice_get (struct_cells structs s) cell ≡ slice_get (field_leaves (leaves_below structs s) s i (drop i (fields_of structs s))) left

pub get-append_left : {A : Type 0} (xs ys : List A) (n : ℕ) → n < length xs → slice_get (xs ++ ys) n ≡ slice_get xs n
get-append_left [] ys n h = absurd (omega arith)
get-append_left (x ∷ xs) ys zero h = refl
get-append_left (x ∷ xs) ys (suc n) h = get-append_left xs ys n (omega arith)

pub get-append_right : {A : Type 0} (xs ys : List A) (n : ℕ) → slice_get (xs ++ ys) (length xs + n) ≡ slice_get ys n
get-append_right [] ys n = ap (slice_get ys) (omega arith)
get-append_right (x ∷ xs) ys n = let e : suc (length xs) + n ≡ suc (length xs + n) = omega arith in ap (slice_get (x ∷ (xs ++ ys))) e ∙ get-append_right xs ys n

-- the fields before one and those from it on are all of them
pub fields_apart : (known : ℕ → List Leaf) (s f i : ℕ) (xs : List Field) → field_leaves known s f xs ≡ field_leaves known s f (take i xs) ++ field_leaves known s (f + i) (drop i xs)
unfolding field_leaves
fields_apart known s f zero xs = ap (λ n. field_leaves known s n xs) (omega arith)
fields_apart known s f (suc i) [] = refl
fields_apart known s f (suc i) (x ∷ xs) =
    let own = repeated x.count (leaves known (Home.Within s f) x.ty) in
    let shifted : f + 1 + i ≡ f + suc i = omega arith in
    ap (λ ys. own ++ ys) (fields_apart known s (f + 1) i xs) ∙ sym (append_assoc own (field_leaves known s (f + 1) (take i xs)) (field_leaves known s (f + 1 + i) (drop i xs))) ∙ ap (λ n. (own ++ field_leaves known s (f + 1) (take i xs)) ++ field_leaves known s n (drop i xs)) shifted

-- what is known where the search looks at field i, whose elements have so many cells
pub record Looks (structs : List StructDef) (s i : ℕ) (x : Field) (size : ℕ) : Type 0 where
  pub names : slice_get (fields_of structs s) i ≡ Some x
  pub size_is : x.count * size ≡ length (repeated x.count (leaves (leaves_below structs s) (Home.Within s i) x.ty))
  pub all : field_leaves (leaves_below structs s) s i (drop i (fields_of structs s)) ≡ repeated x.count (leaves (leaves_below structs s) (Home.Within s i) x.ty) ++ field_leaves (leaves_below structs s) s (i + 1) (drop (i + 1) (fields_of structs s))

pub looks : (structs : List StructDef) (s : ℕ) (ys : List Field) (i : ℕ) (x : Field) (size : ℕ) → ys ≡ fields_of structs s → i < length ys → x ≡ get_or ys i x → size ≡ length (leaves (leaves_below structs s) Home.Alone x.ty) → Looks structs s i x size
looks structs s ys i x size same inside is e = record {
  names = slice_get_read (fields_of structs s) (length ys) i x (ap length same) inside (rw (← same) is);
  size_is = ap (λ n. x.count * n) (e ∙ length-leaves (leaves_below structs s) Home.Alone (Home.Within s i) x.ty) ∙ sym (length-repeated x.count (leaves (leaves_below structs s) (Home.Within s i) x.ty));
  all = fields_more (leaves_below structs s) s (fields_of structs s) i x (rw (← same) inside) (rw (← same) is);
}

-- all cells of a struct are those before field i and those from it on
pub start_and_rest : (structs : List StructDef) (s i : ℕ) → length (struct_cells structs s) ≡ field_start structs s i + length (field_leaves (leaves_below structs s) s i (drop i (fields_of structs s)))
unfolding struct_cells field_start
start_and_rest structs s i =
    let apart = ap length (fields_apart (leaves_below structs s) s 0 i (fields_of structs s)) in
    let parts = length-append (field_leaves (leaves_below structs s) s 0 (take i (fields_of structs s))) (field_leaves (leaves_below structs s) s (0 + i) (drop i (fields_of structs s))) in
    let same : length (field_leaves (leaves_below structs s) s (0 + i) (drop i (fields_of structs s))) ≡ length (field_leaves (leaves_below structs s) s i (drop i (fields_of structs s))) = ap (λ n. length (field_leaves (leaves_below structs s) s n (drop i (fields_of structs s)))) (omega arith) in
    omega arith

pub looks-few : (structs : List StructDef) (s i : ℕ) (x : Field) (size : ℕ) → Looks structs s i x size → x.count * size ≤ length (struct_cells structs s)
looks-few structs s i x size l =
    let parts = ap length l.all ∙ length-append (repeated x.count (leaves (leaves_below structs s) (Home.Within s i) x.ty)) (field_leaves (leaves_below structs s) s (i + 1) (drop (i + 1) (fields_of structs s))) in
    let whole = start_and_rest structs s i in
    let own = l.size_is in
    omega arith

pub sought_found : (structs : List StructDef) (s cell i number left : ℕ) (x : Field) (size : ℕ) → size ≡ length (leaves (leaves_below structs s) Home.Alone x.ty) → Looks structs s i x size → Sought structs s cell i number left → left < x.count * size → IsInField structs s cell x number left
sought_found structs s cell i number left x size e l k below = rw k.at (record {
  names = l.names;
  place = let whole = start_and_rest structs s i in let place = k.place in omega arith;
  inside = rw (← e) below;
  same = k.same ∙ ap (λ ys. slice_get ys left) l.all ∙ get-append_left (repeated x.count (leaves (leaves_below structs s) (Home.Within s i) x.ty)) (field_leaves (leaves_below structs s) s (i + 1) (drop (i + 1) (fields_of structs s))) left (let own = l.size_is in omega arith);
})

pub sought_more : (structs : List StructDef) (s cell i number left : ℕ) (x : Field) (size : ℕ) → Looks structs s i x size → Sought structs s cell i number left → x.count * size ≤ left → Sought structs s cell (i + 1) (number + 1) (left - x.count * size)
sought_more structs s cell i number left x size l k above =
    let own = repeated x.count (leaves (leaves_below structs s) (Home.Within s i) x.ty) in
    let others = field_leaves (leaves_below structs s) s (i + 1) (drop (i + 1) (fields_of structs s)) in
    let parts : length (field_leaves (leaves_below structs s) s i (drop i (fields_of structs s))) ≡ length own + length others = ap length l.all ∙ length-append own others in
    let size_is : x.count * size ≡ length own = l.size_is in
    let place = k.place in
    let inside = k.inside in
    record {
      at = ap (λ n. n + 1) k.at;
      place = omega arith;
      inside = omega arith;
      same = k.same ∙ ap (λ ys. slice_get ys left) l.all ∙ ap (slice_get (own ++ others)) (omega arith) ∙ get-append_right own others (left - x.count * size);
    }

pub sought_all : (structs : List StructDef) (s cell i number left : ℕ) (ys : List Field) → ys ≡ fields_of structs s → length ys ≤ i → Sought structs s cell i number left → ⊥
sought_all structs s cell i number left ys same past k =
    let none = ap length (fields_over (leaves_below structs s) s (fields_of structs s) i (rw (← same) past)) in
    let inside = k.inside in
    omega arith

-- ---- the cell of an element

repeated_step : {A : Type 0} (n : ℕ) (xs : List A) (c : ℕ) → c < length xs ⊎ length xs ≤ c → ((d : ℕ) → d < n * length xs → slice_get (repeated n xs) d ≡ slice_get xs (d % length xs)) → c < suc n * length xs → slice_get (xs ++ repeated n xs) c ≡ slice_get xs (c % length xs)
repeated_step n xs c (inl h) rest inside = get-append_left xs (repeated n xs) c h ∙ ap (slice_get xs) (sym (mod-eq_of_lt h))
repeated_step n xs c (inr h) rest inside =
    let e : c ≡ length xs + (c - length xs) = omega arith in
    let times : suc n * length xs ≡ length xs + n * length xs = grind arith in
    ap (slice_get (xs ++ repeated n xs)) e ∙ get-append_right xs (repeated n xs) (c - length xs) ∙ rest (c - length xs) (omega arith) ∙ ap (slice_get xs) (sym (ap (λ d. d % length xs) e ∙ add-mod_left (length xs) (c - length xs)))

-- among repeated elements a cell is that of its element
pub get-repeated : {A : Type 0} (n : ℕ) (xs : List A) (c : ℕ) → c < n * length xs → slice_get (repeated n xs) c ≡ slice_get xs (c % length xs)
unfolding repeated
get-repeated zero xs c h = let none : 0 * length xs ≡ 0 = omega arith in absurd (omega arith)
get-repeated (suc n) xs c h = repeated_step n xs c (cases_lt c (length xs)) (get-repeated n xs) h

mod_one : (c : ℕ) → c % 1 ≡ 0
mod_one c = omega arith

lone : (x : Leaf) (n c : ℕ) → c < n * 1 → slice_get (repeated n (x ∷ [])) c ≡ Some x
lone x n c h = get-repeated n (x ∷ []) c h ∙ ap (slice_get (x ∷ [])) (mod_one c)

single_by : (known : ℕ → List Leaf) (home : Home) (ty : Ty) (t : Ty-F Ty) (n c : ℕ) → struct_by t ≡ None → c < n * length (leaves_by known Home.Alone ty t) → slice_get (repeated n (leaves_by known home ty t)) c ≡ Some (record { home = home; type = ty })
single_by known home ty (Ty-F.Int k) n c e h = lone (record { home = home; type = ty }) n c h
single_by known home ty Ty-F.Lock n c e h = lone (record { home = home; type = ty }) n c h
single_by known home ty (Ty-F.Struct s) n c e h = cc
single_by known home ty (Ty-F.Ptr t) n c e h = lone (record { home = home; type = ty }) n c h
single_by known home ty Ty-F.VoidPtr n c e h = lone (record { home = home; type = ty }) n c h
single_by known home ty (Ty-F.Fun ts) n c e h = lone (record { home = home; type = ty }) n c h
single_by known home ty Ty-F.Void n c e h = absurd (omega arith)

-- elements that are no structs have one cell each
pub single : (known : ℕ → List Leaf) (home : Home) (ty : Ty) (n c : ℕ) → struct_of ty ≡ None → c < n * length (leaves known Home.Alone ty) → slice_get (repeated n (leaves known home ty)) c ≡ Some (record { home = home; type = ty })
unfolding leaves
single known home ty n c e h = single_by known home ty (out-Ty ty) n c e h

-- a product that is more than something has no factor 0
pub positive : (n m c : ℕ) → c < n * m → 0 < m
positive n zero c h = let none : n * 0 ≡ 0 = omega arith in absurd (omega arith)
positive n (suc m) c h = omega arith

struct_leaves_by : (known : ℕ → List Leaf) (home : Home) (ty : Ty) (t : Ty-F Ty) (m : ℕ) → struct_by t ≡ Some m → leaves_by known home ty t ≡ known m
struct_leaves_by known home ty (Ty-F.Int k) m e = cc
struct_leaves_by known home ty Ty-F.Lock m e = cc
struct_leaves_by known home ty (Ty-F.Struct s) m e = let same : s ≡ m = cc in ap known same
struct_leaves_by known home ty (Ty-F.Ptr t) m e = cc
struct_leaves_by known home ty Ty-F.VoidPtr m e = cc
struct_leaves_by known home ty (Ty-F.Fun ts) m e = cc
struct_leaves_by known home ty Ty-F.Void m e = cc

pub struct_leaves : (known : ℕ → List Leaf) (home : Home) (ty : Ty) (m : ℕ) → struct_of ty ≡ Some m → leaves known home ty ≡ known m
unfolding leaves
struct_leaves known home ty m e = struct_leaves_by known home ty (out-Ty ty) m e

-- what is known of elements that are structs
pub record Inner (structs : List StructDef) (s m : ℕ) (home : Home) (ty : Ty) : Type 0 where
  pub below : m < s
  pub some : 0 < length (struct_cells structs m)
  pub cells : leaves (leaves_below structs s) home ty ≡ struct_cells structs m

inner_at : (structs : List StructDef) (s m n c : ℕ) (home : Home) (ty : Ty) → (m < s) ⊎ (s ≤ m) → struct_of ty ≡ Some m → leaves (leaves_below structs s) home ty ≡ leaves_below structs s m → c < n * length (leaves_below structs s m) → Inner structs s m home ty
inner_at structs s m n c home ty (inl h) e same inside =
    let is = is_below structs s m h in
    let inside' : c < n * length (struct_cells structs m) = rw (← is) inside in
    record { below = h; some = positive n (length (struct_cells structs m)) c inside'; cells = same ∙ is }
inner_at structs s m n c home ty (inr h) e same inside =
    let none : n * length (leaves_below structs s m) ≡ 0 = ap (λ ys. n * length ys) (not_below structs s m h) ∙ omega arith in
    absurd (omega arith)

pub inner : (structs : List StructDef) (s m n c : ℕ) (home : Home) (ty : Ty) → struct_of ty ≡ Some m → c < n * length (leaves (leaves_below structs s) Home.Alone ty) → Inner structs s m home ty
inner structs s m n c home ty e inside = inner_at structs s m n c home ty (cases_lt m s) e (struct_leaves (leaves_below structs s) home ty m e) (rw (← struct_leaves (leaves_below structs s) Home.Alone ty m e) inside)

-- a cell of a field that holds structs is one of the struct
pub in_inner : (structs : List StructDef) (s cell : ℕ) (x : Field) (f rest m : ℕ) → IsInField structs s cell x f rest → struct_of x.ty ≡ Some m → slice_get (struct_cells structs s) cell ≡ slice_get (struct_cells structs m) (rest % length (struct_cells structs m))
in_inner structs s cell x f rest m i e =
    let k = inner structs s m x.count rest (Home.Within s f) x.ty e i.inside in
    let same = k.cells in
    let alike : length (leaves (leaves_below structs s) Home.Alone x.ty) ≡ length (struct_cells structs m) = length-leaves (leaves_below structs s) Home.Alone (Home.Within s f) x.ty ∙ ap length same in
    i.same ∙ ap (λ ys. slice_get (repeated x.count ys) rest) same ∙ get-repeated x.count (struct_cells structs m) rest (rw (← alike) i.inside)

pub scalar_found : (structs : List StructDef) (s cell : ℕ) (x : Field) (f rest : ℕ) → IsInField structs s cell x f rest → struct_of x.ty ≡ None → slice_get (struct_cells structs s) cell ≡ Some (record { home = Home.Within s f; type = x.ty })
scalar_found structs s cell x f rest i e = i.same ∙ single (leaves_below structs s) (Home.Within s f) x.ty x.count rest e i.inside

-- ---- by the type table

pub cells_of_struct : (program : Program) (ty s : ℕ) (t : Ty) → slice_get program.types ty ≡ Some t → struct_of t ≡ Some s → cells_at program ty ≡ struct_cells program.structs s
unfolding cells
cells_of_struct program ty s t e is = ap (cells_or program) e ∙ struct_leaves (struct_cells program.structs) Home.Alone t s is

first_only : (x : Leaf) (c : ℕ) → c < 1 → slice_get (x ∷ []) c ≡ Some x
first_only x zero h = refl
first_only x (suc c) h = absurd (omega arith)

alone_by : (known : ℕ → List Leaf) (ty : Ty) (t : Ty-F Ty) (c : ℕ) → struct_by t ≡ None → c < length (leaves_by known Home.Alone ty t) → slice_get (leaves_by known Home.Alone ty t) c ≡ Some (record { home = Home.Alone; type = ty })
alone_by known ty (Ty-F.Int k) c e h = first_only (record { home = Home.Alone; type = ty }) c h
alone_by known ty Ty-F.Lock c e h = first_only (record { home = Home.Alone; type = ty }) c h
alone_by known ty (Ty-F.Struct s) c e h = cc
alone_by known ty (Ty-F.Ptr t) c e h = first_only (record { home = Home.Alone; type = ty }) c h
alone_by known ty Ty-F.VoidPtr c e h = first_only (record { home = Home.Alone; type = ty }) c h
alone_by known ty (Ty-F.Fun ts) c e h = first_only (record { home = Home.Alone; type = ty }) c h
alone_by known ty Ty-F.Void c e h = absurd (omega arith)

pub alone : (known : ℕ → List Leaf) (ty : Ty) (c : ℕ) → struct_of ty ≡ None → c < length (leaves known Home.Alone ty) → slice_get (leaves known Home.Alone ty) c ≡ Some (record { home = Home.Alone; type = ty })
unfolding leaves
alone known ty c e h = alone_by known ty (out-Ty ty) c e h

pub cells_of_type : (program : Program) (ty : ℕ) (t : Ty) → slice_get program.types ty ≡ Some t → cells_at program ty ≡ leaves (struct_cells program.structs) Home.Alone t
unfolding cells
cells_of_type program ty t e = ap (cells_or program) e

pub cells_of_scalar : (program : Program) (ty cell : ℕ) (t : Ty) → slice_get program.types ty ≡ Some t → struct_of t ≡ None → cell < length (cells_at program ty) → slice_get (cells_at program ty) cell ≡ Some (record { home = Home.Alone; type = t })
cells_of_scalar program ty cell t e is inside =
    let same = cells_of_type program ty t e in
    ap (λ ys. slice_get ys cell) same ∙ alone (struct_cells program.structs) t cell is (rw (← same) inside)

pub cell_not_at : (program : Program) (ty cell : ℕ) → cell < length (cells_at program ty) → ty < length program.types
cell_not_at program ty cell inside = there (slice_get_cases program.types ty).1
  where
    there : ((t : Ty) × (ty < length program.types) × (slice_get program.types ty ≡ Some t) × (get_or program.types ty t ≡ t)) ⊎ ((length program.types ≤ ty) × (slice_get program.types ty ≡ None)) → ty < length program.types
    there (inl h) = h.1
    there (inr h) = let none : length (cells_at program ty) ≡ 0 = ap (λ (o : Option Ty). length (cells_or program o)) h.1 in absurd (omega arith)

pub struct_cell : (structs : List StructDef) (ty : Ty) (s : ℕ) (n : ℕ) → n ≡ length (struct_cells structs s) → ty ≡ type.Struct s → n ≡ length (leaves (struct_cells structs) Home.Alone ty)
unfolding leaves
struct_cell structs ty s n e is = rw (is, outs-Struct s) e

pub in_struct : (program : Program) (structs : List StructDef) (ty s cell : ℕ) (t : Ty) (o : Option ℕ) → structs ≡ program.structs → slice_get program.types ty ≡ Some t → o ≡ struct_of t → o ≡ Some s → cell < length (cells_at program ty) → cell < length (struct_cells structs s)
in_struct program structs ty s cell t o same e is some inside = rw (same, ← cells_of_struct program ty s t e (sym is ∙ some)) inside

pub key_of_struct : (program : Program) (structs : List StructDef) (block : Option ℕ) (ty s cell : ℕ) (t : Ty) (o : Option ℕ) (k : Key) → structs ≡ program.structs → slice_get program.types ty ≡ Some t → o ≡ struct_of t → o ≡ Some s → option_map (λ (l : Leaf). key_by l.home block ty) (slice_get (struct_cells structs s) cell) ≡ Some k → key_at program block ty cell ≡ Some k
unfolding key_at
key_of_struct program structs block ty s cell t o k same e is some key = rw (cells_of_struct program ty s t e (sym is ∙ some), ← same) key

pub key_of_scalar : (program : Program) (block : Option ℕ) (ty cell : ℕ) (t : Ty) (o : Option ℕ) (k : Key) → slice_get program.types ty ≡ Some t → o ≡ struct_of t → o ≡ None → cell < length (cells_at program ty) → k ≡ key_by Home.Alone block ty → key_at program block ty cell ≡ Some k
unfolding key_at
key_of_scalar program block ty cell t o k e is none inside key = rw (cells_of_scalar program ty cell t e (sym is ∙ none) inside, key) refl

pub zero_of_struct : (program : Program) (structs : List StructDef) (ty s cell : ℕ) (t : Ty) (o : Option ℕ) (v : Value) → structs ≡ program.structs → slice_get program.types ty ≡ Some t → o ≡ struct_of t → o ≡ Some s → option_map (λ (l : Leaf). zero_value l.type) (slice_get (struct_cells structs s) cell) ≡ Some v → zero_at program ty cell ≡ Some v
unfolding zero_at
zero_of_struct program structs ty s cell t o v same e is some first = rw (cells_of_struct program ty s t e (sym is ∙ some), ← same) first

pub zero_of_scalar : (program : Program) (ty cell : ℕ) (t : Ty) (o : Option ℕ) (v : Value) → slice_get program.types ty ≡ Some t → o ≡ struct_of t → o ≡ None → cell < length (cells_at program ty) → v ≡ zero_value t → zero_at program ty cell ≡ Some v
unfolding zero_at
zero_of_scalar program ty cell t o v e is none inside first = rw (cells_of_scalar program ty cell t e (sym is ∙ none) inside, first) refl
