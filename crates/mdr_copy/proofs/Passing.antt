-- A walk past cells: what was passed, and what is still to come.
use Rattle.std.proofs.Common.{◌≡◌, ℕ, zero, suc, ◌+◌, ◌-◌, ◌<◌, ◌≤◌, true, false, List, [], ◌∷◌, ◌++◌, length, replicate, drop, get_or, slice_get, Option, Some, None, refl, sym, ◌∙◌, ap, subst, append_assoc, arith}
use Rattle.std.specs.Prelude.{is_some, MatchOption}
use Rattle.std.specs.Option.{option_map}
use Rattle.std.proofs.lemmas.List.{length-append, append-nil}
use Rattle.mdr_core.specs.declared.types.Ty.{Ty, out-Ty}
use Rattle.mdr_core.specs.declared.types.Ty.TheOpen.{Ty-F}
use Rattle.mdr_core.specs.declared.program.Field.{Field}
use Rattle.mdr_core.specs.declared.program.StructDef.{StructDef}
use Rattle.mdr_core.specs.Layout.{Leaf, Home, Alone, repeated, cells, cells_or, leaves, leaves_by, leaves_below, field_leaves, struct_cells, struct_of, struct_by, zero_value}
use Rattle.mdr_core.proofs.Lying.{fields_more, fields_over, is_below, not_below}
use Rattle.mdr_core.specs.declared.program.Program.{Program}
use Rattle.mdr_model.specs.declared.message.New.{New}
use Rattle.mdr_meaning.specs.declared.wire.Wire.{Wire}
use Rattle.mdr_meaning.specs.Values.{wire_of}
use Rattle.mdr_model.specs.Memory.{leaves_of, leaf_at, zero_of}
use Rattle.mdr_copy.specs.CellTypes.{type_of, types_of, is_void, is_void_by}

-- some of the cells were passed, the rest is still to come
pub record Walked (whole rest : List Ty) (start left : ℕ) : Type 0 where
  pub before : List Ty
  pub split : before ++ rest ≡ whole
  pub passed : length before + left ≡ start

pub onward : (whole xs ys : List Ty) (start left next : ℕ) → Walked whole (xs ++ ys) start left → length xs + next ≡ left → Walked whole ys start next
onward whole xs ys start left next w e =
    let more : length (w.before ++ xs) ≡ length w.before + length xs = length-append w.before xs in
    let passed : length w.before + left ≡ start = w.passed in
    record { before = w.before ++ xs; split = append_assoc w.before xs ys ∙ w.split; passed = omega arith }

get_front : (xs ys : List Ty) (i : ℕ) (t : Ty) → slice_get xs i ≡ Some t → slice_get (xs ++ ys) i ≡ Some t
get_front [] ys i t e = absurd (Prim.cc)
get_front (x ∷ xs) ys zero t e = e
get_front (x ∷ xs) ys (suc i) t e = get_front xs ys i t e

get_behind : (xs ys : List Ty) (i : ℕ) → slice_get (xs ++ ys) (length xs + i) ≡ slice_get ys i
get_behind [] ys i = let same : 0 + i ≡ i = omega arith in ap (slice_get ys) same
get_behind (x ∷ xs) ys i = let same : suc (length xs) + i ≡ suc (length xs + i) = omega arith in ap (slice_get (x ∷ (xs ++ ys))) same ∙ get_behind xs ys i

pub found : (whole xs ys : List Ty) (start left : ℕ) (t : Ty) → Walked whole (xs ++ ys) start left → slice_get xs left ≡ Some t → slice_get whole start ≡ Some t
found whole xs ys start left t w e =
    ap (λ (ts : List Ty). slice_get ts start) (sym w.split) ∙ ap (λ (i : ℕ). slice_get (w.before ++ (xs ++ ys)) i) (sym w.passed) ∙ get_behind w.before (xs ++ ys) left ∙ get_front xs ys left t e

append_none : (xs : List Ty) → xs ++ [] ≡ xs
append_none [] = refl
append_none (x ∷ xs) = ap (λ (ys : List Ty). x ∷ ys) (append_none xs)

pub over : (whole : List Ty) (start left : ℕ) → Walked whole [] start left → length whole + left ≡ start
over whole start left w =
    let same : length w.before ≡ length whole = ap length (sym (append_none w.before) ∙ w.split) in
    let passed : length w.before + left ≡ start = w.passed in
    omega arith

-- ---- the types of cells

pub types_append : (xs ys : List Leaf) → types_of (xs ++ ys) ≡ types_of xs ++ types_of ys
types_append [] ys = refl
types_append (x ∷ xs) ys = ap (λ (ts : List Ty). type_of x ∷ ts) (types_append xs ys)

pub types_get : (xs : List Leaf) (i : ℕ) → slice_get (types_of xs) i ≡ option_map type_of (slice_get xs i)
types_get [] i = refl
types_get (x ∷ xs) zero = refl
types_get (x ∷ xs) (suc i) = types_get xs i

types_alike_by : (known : ℕ → List Leaf) (g h : Home) (ty : Ty) (t : Ty-F Ty) → types_of (leaves_by known g ty t) ≡ types_of (leaves_by known h ty t)
types_alike_by known g h ty (Ty-F.Int k) = refl
types_alike_by known g h ty Ty-F.Lock = refl
types_alike_by known g h ty (Ty-F.Struct s) = refl
types_alike_by known g h ty (Ty-F.Ptr t) = refl
types_alike_by known g h ty Ty-F.VoidPtr = refl
types_alike_by known g h ty (Ty-F.Fun ts) = refl
types_alike_by known g h ty Ty-F.Void = refl

types_repeated : (n : ℕ) (xs ys : List Leaf) → types_of xs ≡ types_of ys → types_of (repeated n xs) ≡ types_of (repeated n ys)
unfolding repeated
types_repeated zero xs ys e = refl
types_repeated (suc n) xs ys e = types_append xs (repeated n xs) ∙ (λ i. e i ++ types_repeated n xs ys e i) ∙ sym (types_append ys (repeated n ys))

-- whatever stands around them
pub types_alike : (known : ℕ → List Leaf) (n : ℕ) (g h : Home) (ty : Ty) → types_of (repeated n (leaves known g ty)) ≡ types_of (repeated n (leaves known h ty))
unfolding leaves
types_alike known n g h ty = types_repeated n (leaves known g ty) (leaves known h ty) (types_alike_by known g h ty (out-Ty ty))

nothing_repeated : (n : ℕ) → types_of (repeated n []) ≡ []
unfolding repeated
nothing_repeated zero = refl
nothing_repeated (suc n) = nothing_repeated n

types_row : (n : ℕ) (x : Leaf) → types_of (repeated n (x ∷ [])) ≡ replicate n x.type
unfolding repeated
types_row zero x = refl
types_row (suc n) x = ap (λ (ts : List Ty). x.type ∷ ts) (types_row n x)

void_by : (known : ℕ → List Leaf) (n : ℕ) (ty : Ty) (t : Ty-F Ty) → is_void_by t ≡ true → types_of (repeated n (leaves_by known Alone ty t)) ≡ []
void_by known n ty (Ty-F.Int k) e = absurd (Prim.cc)
void_by known n ty Ty-F.Lock e = absurd (Prim.cc)
void_by known n ty (Ty-F.Struct s) e = absurd (Prim.cc)
void_by known n ty (Ty-F.Ptr t) e = absurd (Prim.cc)
void_by known n ty Ty-F.VoidPtr e = absurd (Prim.cc)
void_by known n ty (Ty-F.Fun ts) e = absurd (Prim.cc)
void_by known n ty Ty-F.Void e = nothing_repeated n

-- elements of `void` have no cells
pub void_row : (known : ℕ → List Leaf) (n : ℕ) (ty : Ty) → is_void ty ≡ true → types_of (repeated n (leaves known Alone ty)) ≡ []
unfolding leaves
void_row known n ty e = void_by known n ty (out-Ty ty) e

scalar_by : (known : ℕ → List Leaf) (n : ℕ) (ty : Ty) (t : Ty-F Ty) → struct_by t ≡ None → is_void_by t ≡ false → types_of (repeated n (leaves_by known Alone ty t)) ≡ replicate n ty
scalar_by known n ty (Ty-F.Int k) s e = types_row n (record { home = Alone; type = ty })
scalar_by known n ty Ty-F.Lock s e = types_row n (record { home = Alone; type = ty })
scalar_by known n ty (Ty-F.Struct m) s e = absurd (Prim.cc)
scalar_by known n ty (Ty-F.Ptr t) s e = types_row n (record { home = Alone; type = ty })
scalar_by known n ty Ty-F.VoidPtr s e = types_row n (record { home = Alone; type = ty })
scalar_by known n ty (Ty-F.Fun ts) s e = types_row n (record { home = Alone; type = ty })
scalar_by known n ty Ty-F.Void s e = absurd (Prim.cc)

-- a scalar has one
pub scalar_row : (known : ℕ → List Leaf) (n : ℕ) (ty : Ty) → struct_of ty ≡ None → is_void ty ≡ false → types_of (repeated n (leaves known Alone ty)) ≡ replicate n ty
unfolding leaves
scalar_row known n ty s e = scalar_by known n ty (out-Ty ty) s e

struct_by_is : (known : ℕ → List Leaf) (ty : Ty) (s : ℕ) (t : Ty-F Ty) → struct_by t ≡ Some s → leaves_by known Alone ty t ≡ known s
struct_by_is known ty s (Ty-F.Int k) e = absurd (Prim.cc)
struct_by_is known ty s Ty-F.Lock e = absurd (Prim.cc)
struct_by_is known ty s (Ty-F.Struct m) e = let same : m ≡ s = Prim.cc in ap known same
struct_by_is known ty s (Ty-F.Ptr t) e = absurd (Prim.cc)
struct_by_is known ty s Ty-F.VoidPtr e = absurd (Prim.cc)
struct_by_is known ty s (Ty-F.Fun ts) e = absurd (Prim.cc)
struct_by_is known ty s Ty-F.Void e = absurd (Prim.cc)

-- a struct has its own
pub struct_row : (known : ℕ → List Leaf) (n : ℕ) (ty : Ty) (s : ℕ) → struct_of ty ≡ Some s → types_of (repeated n (leaves known Alone ty)) ≡ types_of (repeated n (known s))
unfolding leaves
struct_row known n ty s e = ap (λ (ls : List Leaf). types_of (repeated n ls)) (struct_by_is known ty s (out-Ty ty) e)

pub known_row : (structs : List StructDef) (below n : ℕ) (ty : Ty) (s : ℕ) → struct_of ty ≡ Some s → s < below → types_of (repeated n (leaves (leaves_below structs below) Alone ty)) ≡ types_of (repeated n (struct_cells structs s))
known_row structs below n ty s e h = struct_row (leaves_below structs below) n ty s e ∙ ap (λ (ls : List Leaf). types_of (repeated n ls)) (is_below structs below s h)

pub unknown_row : (structs : List StructDef) (below n : ℕ) (ty : Ty) (s : ℕ) → struct_of ty ≡ Some s → below ≤ s → types_of (repeated n (leaves (leaves_below structs below) Alone ty)) ≡ []
unknown_row structs below n ty s e h = struct_row (leaves_below structs below) n ty s e ∙ ap (λ (ls : List Leaf). types_of (repeated n ls)) (not_below structs below s h) ∙ nothing_repeated n

-- ---- steps of the walk

pub some_way : {R : Type 0} (o : Option R) (A A' : Type 0) (B B' : R → Type 0) → is_some o ≡ true → ((r : R) → B' r → B r) → MatchOption o A' B' → MatchOption o A B
some_way None A A' B B' e f h = absurd (Prim.cc)
some_way (Some r) A A' B B' e f h = f r h

pub none_way : {R : Type 0} (o : Option R) (A' : Type 0) (B' : R → Type 0) → is_some o ≡ false → MatchOption o A' B' → A'
none_way None A' B' e h = h
none_way (Some r) A' B' e h = absurd (Prim.cc)

-- a field's cells, and those of the fields behind it
pub walked_field : (whole : List Ty) (known : ℕ → List Leaf) (s : ℕ) (xs ys : List Field) (i : ℕ) (x : Field) (start left : ℕ) → Walked whole (types_of (field_leaves known s i (drop i xs))) start left
    → ys ≡ xs → i < length ys → x ≡ get_or ys i x → Walked whole (types_of (repeated x.count (leaves known Alone x.ty)) ++ types_of (field_leaves known s (i + 1) (drop (i + 1) xs))) start left
walked_field whole known s xs ys i x start left w same inside is =
    subst (λ (ts : List Ty). Walked whole ts start left)
    (ap types_of (fields_more known s xs i x (rw (← same) inside) (rw (← same) is))
    ∙ types_append (repeated x.count (leaves known (Home.Within s i) x.ty)) (field_leaves known s (i + 1) (drop (i + 1) xs))
    ∙ ap (λ (ts : List Ty). ts ++ types_of (field_leaves known s (i + 1) (drop (i + 1) xs))) (types_alike known x.count (Home.Within s i) Alone x.ty)) w

pub walked_fields : (whole : List Ty) (known : ℕ → List Leaf) (s : ℕ) (xs ys : List Field) (i start left : ℕ) → Walked whole (types_of (field_leaves known s i (drop i xs))) start left → ys ≡ xs → length ys ≤ i → length whole + left ≡ start
walked_fields whole known s xs ys i start left w same past = over whole start left (subst (λ (ts : List Ty). Walked whole ts start left) (ap types_of (fields_over known s xs i (rw (← same) past))) w)

-- an element's cells, and those of the elements behind it
pub walked_element : (whole : List Ty) (n i : ℕ) (one : List Leaf) (start left : ℕ) → Walked whole (types_of (repeated (n - i) one)) start left → i < n → Walked whole (types_of one ++ types_of (repeated (n - (i + 1)) one)) start left
unfolding repeated
walked_element whole n i one start left w inside =
    let more : n - i ≡ suc (n - (i + 1)) = omega (arith, inside) in
    subst (λ (ts : List Ty). Walked whole ts start left) (ap (λ (k : ℕ). types_of (repeated k one)) more ∙ types_append one (repeated (n - (i + 1)) one)) w

pub walked_elements : (whole : List Ty) (n i : ℕ) (one : List Leaf) (start left : ℕ) → Walked whole (types_of (repeated (n - i) one)) start left → n ≤ i → length whole + left ≡ start
unfolding repeated
walked_elements whole n i one start left w past =
    let none : n - i ≡ 0 = omega (arith, past) in
    over whole start left (subst (λ (ts : List Ty). Walked whole ts start left) (ap (λ (k : ℕ). types_of (repeated k one)) none) w)

-- ---- the cells of a block

pub typed_block : (program : Program) (block : New) (i : ℕ) (t : Ty) → slice_get program.types block.ty ≡ Some t
    → slice_get (types_of (repeated block.count (leaves (struct_cells program.structs) Alone t))) i ≡ option_map type_of (leaf_at program block i)
unfolding leaves_of cells
typed_block program block i t e =
    types_get (repeated block.count (leaves (struct_cells program.structs) Alone t)) i
    ∙ ap (λ (o : Option Ty). option_map type_of (slice_get (repeated block.count (cells_or program o)) i)) (sym e)

is_none_of : (o : Option Leaf) → option_map type_of o ≡ None → o ≡ None
is_none_of None e = refl
is_none_of (Some x) e = absurd (Prim.cc)

past_end : (ts : List Ty) (i left : ℕ) → length ts + left ≡ i → slice_get ts i ≡ None
past_end [] i left e = refl
past_end (t ∷ ts) zero left e = absurd (omega (arith, e))
past_end (t ∷ ts) (suc i) left e = past_end ts i left (omega (arith, e))

pub no_cell : (program : Program) (block : New) (i left : ℕ) (t : Ty) → slice_get program.types block.ty ≡ Some t
    → length (types_of (repeated block.count (leaves (struct_cells program.structs) Alone t))) + left ≡ i → leaf_at program block i ≡ None
no_cell program block i left t e h =
    is_none_of (leaf_at program block i) (sym (typed_block program block i t e) ∙ past_end (types_of (repeated block.count (leaves (struct_cells program.structs) Alone t))) i left h)

empty_block : (n : ℕ) → repeated {A = Leaf} n [] ≡ []
unfolding repeated
empty_block zero = refl
empty_block (suc n) = empty_block n

pub untyped_block : (program : Program) (block : New) (i : ℕ) → slice_get program.types block.ty ≡ None → leaf_at program block i ≡ None
unfolding leaves_of
untyped_block program block i e =
    ap (λ (o : Option Ty). slice_get (repeated block.count (cells_or program o)) i) e ∙ ap (λ (ls : List Leaf). slice_get ls i) (empty_block block.count)

pub other_way : {R : Type 0} (o : Option R) (A A' : Type 0) (B B' : R → Type 0) → (A' → A) → ((r : R) → B' r → B r) → MatchOption o A' B' → MatchOption o A B
other_way None A A' B B' f g h = f h
other_way (Some r) A A' B B' f g h = g r h

-- ---- what is asked of a cell by its type

pub zero_typed : (o : Option Leaf) (t : Ty) → option_map type_of o ≡ Some t → Some (wire_of (zero_value t)) ≡ option_map zero_of o
zero_typed None t e = absurd (Prim.cc)
zero_typed (Some leaf) t e = let same : leaf.type ≡ t = Prim.cc in ap (λ (x : Ty). Some (wire_of (zero_value x))) (sym same)

pub zero_none : (o : Option Leaf) → o ≡ None → None ≡ option_map zero_of o
zero_none None e = refl
zero_none (Some leaf) e = absurd (Prim.cc)

-- ---- a list that is made from its places

pub one_more : (zs out next : List Wire) (z : Wire) → out ++ drop (length out) zs ≡ zs → slice_get zs (length out) ≡ Some z → next ≡ out ++ z ∷ [] → next ++ drop (length next) zs ≡ zs
one_more zs out next z so_far e is =
    let behind : drop (length out) zs ≡ z ∷ drop (length out + 1) zs = drop_get zs (length out) z e in
    let longer : length next ≡ length out + 1 = ap length is ∙ length-append out (z ∷ []) in
    (λ i. is i ++ drop (longer i) zs) ∙ append_assoc out (z ∷ []) (drop (length out + 1) zs) ∙ ap (λ (xs : List Wire). out ++ xs) (sym behind) ∙ so_far
  where
    drop_get : (xs : List Wire) (i : ℕ) (x : Wire) → slice_get xs i ≡ Some x → drop i xs ≡ x ∷ drop (i + 1) xs
    drop_get [] i x h = absurd (Prim.cc)
    drop_get (y ∷ ys) zero x h = let same : y ≡ x = Prim.cc in ap (λ (w : Wire). w ∷ ys) same
    drop_get (y ∷ ys) (suc i) x h = let same : suc (i + 1) ≡ suc i + 1 = omega arith in drop_get ys i x h ∙ ap (λ (k : ℕ). x ∷ drop k (y ∷ ys)) same

pub no_more : (zs out : List Wire) → out ++ drop (length out) zs ≡ zs → slice_get zs (length out) ≡ None → out ≡ zs
no_more zs out so_far e = sym (append-nil out) ∙ ap (λ (xs : List Wire). out ++ xs) (sym (nothing zs (length out) e)) ∙ so_far
  where
    nothing : (xs : List Wire) (i : ℕ) → slice_get xs i ≡ None → drop i xs ≡ []
    nothing [] zero h = refl
    nothing [] (suc i) h = refl
    nothing (y ∷ ys) zero h = absurd (Prim.cc)
    nothing (y ∷ ys) (suc i) h = nothing ys i h

pub inside_list : (zs : List Wire) (i : ℕ) (z : Wire) → slice_get zs i ≡ Some z → i < length zs
inside_list [] i z e = absurd (Prim.cc)
inside_list (y ∷ ys) zero z e = omega arith
inside_list (y ∷ ys) (suc i) z e = let later : i < length ys = inside_list ys i z e in omega (arith, later)

pub fewer_left : (zs out next : List Wire) (z : Wire) → slice_get zs (length out) ≡ Some z → next ≡ out ++ z ∷ [] → length zs - length next < length zs - length out
fewer_left zs out next z e is =
    let inside : length out < length zs = inside_list zs (length out) z e in
    let longer : length next ≡ length out + 1 = ap length is ∙ length-append out (z ∷ []) in
    omega arith

pub not_some : (o : Option Wire) → ((z : Wire) → o ≡ Some z → ⊥) → o ≡ None
not_some None f = refl
not_some (Some z) f = absurd (f z refl)
