-- A line of a form may come next exactly where the test says so.
use Rattle.std.proofs.Common.{◌≡◌, ℕ, zero, suc, Bool, true, false, cond, not, ◌&&◌, ◌||◌, ◌+◌, ◌-◌, ◌^◌, ◌<◌, ◌≤◌, ◌==◌, ltb, leb, List, [], ◌∷◌, ◌++◌, length, take, drop, replicate, Option, Some, None, IsTrue, codes, nat_lt, nat_le, slice_get, slice_set, refl, sym, ap, subst, ◌∙◌, arith, length-append, bytes_eq}
use Rattle.std.specs.List.{list_all, list_any}
use Rattle.std.proofs.lemmas.Bool.{lt-ltb, le-ltb}
use Rattle.std.proofs.lemmas.Bool.Decides.{Decides-ltb, Decides-eqb, not_from_Decides}
use Rattle.std.proofs.lemmas.List.{length-set, length-replicate}
use Rattle.std.proofs.lemmas.Slice.Eq.{bytes_eq-Decides}
use Rattle.mdr_core.specs.declared.plan.Half.{Half}
use Rattle.mdr_core.specs.declared.plan.Half.TheVariants.{Kernel, User}
use Rattle.mdr_core.specs.declared.plan.Key.{Key}
use Rattle.mdr_core.specs.declared.plan.Key.TheVariants.{Global, Field, Elem}
use Rattle.mdr_core.specs.declared.types.Ty.{Ty}
use Rattle.mdr_core.specs.declared.types.Ty.TheVariants as type
use Rattle.mdr_core.specs.Types.{is_pointer}
use Rattle.mdr_core.specs.TypeText.{Text, star, is_before}
use Rattle.mdr_syntax.specs.Bytes.{is_name_byte}
use Rattle.mdr_syntax.specs.Words.{reserved, is_reserved}
use Rattle.mdr_plan.specs.declared.line.Line.{Line}
use Rattle.mdr_plan.specs.declared.line.Line.TheVariants as line
use Rattle.mdr_plan.specs.declared.shape.Shape.{Shape}
use Rattle.mdr_plan.specs.declared.shape.Shape.TheVariants as shape
use Rattle.mdr_plan.specs.declared.reader.Reader.{Reader}
use Rattle.mdr_plan.specs.Naming.{Naming, is_name, is_named, is_new, struct_number}
use Rattle.mdr_plan.specs.TypeTexts.{Written, IsPointerText, text}
use Rattle.mdr_plan.specs.TypeTexts.Written.{OfInt, OfLock, OfStruct, OfVoid, OfPtr, OfFun}
use Rattle.mdr_plan.specs.Lines.{takes_types, takes_functions, takes_downs, takes_ups, takes_keys, is_kernel, is_user_half, is_after, is_there, is_next_user, IsSmall, IsNext}
use Rattle.mdr_plan.specs.Steps.{Reached, after, first_type}
use Rattle.mdr_plan.specs.Steps.Reached.{Begun, Then}
use Rattle.mdr_plan.specs.declared.plan_error.PlanKind.TheVariants.{Order, Range}
use Rattle.mdr_plan.specs.Shapes.{HasShape, shape_of, Stands, IsKind}
use Rattle.mdr_plan.specs.Shapes.IsKind.{OfNone, Misplaced, Another}
use Rattle.mdr_plan.specs.ShapeReading.{shape_at}
use Rattle.mdr_plan.specs.Standing.{global_follows, field_follows, elem_follows, may_stand, kind_by, kind_at}
use Rattle.mdr_plan.proofs.TypesRead.{both}
use Rattle.mdr_plan.proofs.Forms.{shape_is, shape_none}

pub both_true : (a b : Bool) → IsTrue a → IsTrue b → IsTrue (a && b)
both_true true b h k = k
both_true false b h k = h

pub less : (a b : ℕ) → IsTrue (nat_lt a b) → a < b
less a b h = (Decides-ltb a b).0 h

pub is_less : (a b : ℕ) → a < b → IsTrue (nat_lt a b)
is_less a b h = lt-ltb a b h

pub no : {A : Type 0} → IsTrue false → A
no h = let q : false ≡ true = h in absurd (Prim.cc)

-- ---- a line that may come next is of a form that may

user_there : (hs : List Half) (k : ℕ) → IsTrue (is_user_half (slice_get hs k)) → list_all is_kernel hs ≡ false
user_there [] k h = no h
user_there (User ∷ hs) k h = refl
user_there (Kernel ∷ hs) zero h = no h
user_there (Kernel ∷ hs) (suc k) h = user_there hs k h

user_behind : (hs : List Half) (ups k : ℕ) → ups ≤ k → IsTrue (is_user_half (slice_get hs k)) → list_all is_kernel (drop ups hs) ≡ false
user_behind [] ups k le h = no h
user_behind (x ∷ hs) zero k le h = user_there (x ∷ hs) k h
user_behind (x ∷ hs) (suc ups) zero le h = absurd (omega arith)
user_behind (x ∷ hs) (suc ups) (suc k) le h = user_behind hs ups k (omega (arith, le)) h

up_stood : (r : Reader) (k : ℕ) → IsTrue (takes_ups r.stage && is_next_user r k) → may_stand r shape.Up ≡ true
unfolding may_stand is_next_user
up_stood r k h =
    let a = both (takes_ups r.stage) _ h in
    let b = both (nat_le r.ups k && is_user_half (slice_get r.plan.halves k)) _ a.1 in
    let c = both (nat_le r.ups k) (is_user_half (slice_get r.plan.halves k)) b.0 in
    let none : list_all is_kernel (drop r.ups r.plan.halves) ≡ false = user_behind r.plan.halves r.ups k (le_of r.ups k c.0) c.1 in
    both_true (takes_ups r.stage) (not (list_all is_kernel (drop r.ups r.plan.halves))) a.0 (rw none refl)
  where
    le_of : (a b : ℕ) → IsTrue (nat_le a b) → a ≤ b
    le_of a b h = grind (arith, h)

down_stood : (r : Reader) (k : ℕ) → IsTrue (takes_downs r.stage && nat_le r.low k && nat_lt k (length r.plan.down)) → may_stand r shape.Down ≡ true
unfolding may_stand
down_stood r k h =
    let a = both (takes_downs r.stage && nat_le r.low k) (nat_lt k (length r.plan.down)) h in
    let b = both (takes_downs r.stage) (nat_le r.low k) a.0 in
    let lt = less k (length r.plan.down) a.1 in
    let le : r.low ≤ k = let q = b.1 in grind (arith, q) in
    both_true (takes_downs r.stage) (nat_lt r.low (length r.plan.down)) b.0 (is_less r.low (length r.plan.down) (omega (arith, lt, le)))

global_stood : (last : Option Key) (g : ℕ) → IsTrue (is_after last (Global g)) → g < 2 ^ 32 → IsTrue (global_follows last)
unfolding is_after global_follows
global_stood None g h lt = refl
global_stood (Some (Global a)) g h lt = let q = less a g h in is_less a (2 ^ 32 - 1) (omega (arith, q, lt))
global_stood (Some (Field s f)) g h lt = no h
global_stood (Some (Elem t)) g h lt = no h

field_stood : (last : Option Key) (structs s f : ℕ) → IsTrue (is_after last (Field s f)) → s < structs → s < 2 ^ 32 → f < 2 ^ 32 → IsTrue (field_follows structs last)
unfolding is_after field_follows
field_stood None structs s f h there sl fl = is_less 0 structs (omega (arith, there))
field_stood (Some (Global a)) structs s f h there sl fl = is_less 0 structs (omega (arith, there))
field_stood (Some (Elem t)) structs s f h there sl fl = no h
field_stood (Some (Field r e)) structs s f h there sl fl = on (ltb r s) refl h
  where
    or_left : (a b : Bool) → IsTrue a → IsTrue (a || b)
    or_left true b h = refl
    or_left false b h = no h

    or_right : (a b : Bool) → IsTrue b → IsTrue (a || b)
    or_right true b h = refl
    or_right false b h = h

    on : (v : Bool) → ltb r s ≡ v → IsTrue (v || ((r == s) && nat_lt e f)) → IsTrue ((nat_lt r structs && nat_lt e (2 ^ 32 - 1)) || (nat_lt (r + 1) structs && nat_lt r (2 ^ 32 - 1)))
    on true q i =
        let lt : r < s = less r s q in
        or_right _ _ (both_true _ _ (is_less (r + 1) structs (omega (arith, lt, there))) (is_less r (2 ^ 32 - 1) (omega (arith, lt, sl))))
    on false q i =
        let b = both (r == s) (nat_lt e f) i in
        let same : r ≡ s = (Decides-eqb r s).0 b.0 in
        let lt : e < f = less e f b.1 in
        or_left _ _ (both_true _ _ (is_less r structs (omega (arith, same, there))) (is_less e (2 ^ 32 - 1) (omega (arith, lt, fl))))

elem_stood : (last : Option Key) (types t : ℕ) → IsTrue (is_after last (Elem t)) → t < types → t < 2 ^ 32 → IsTrue (elem_follows types last)
unfolding is_after elem_follows
elem_stood None types t h there tl = is_less 0 types (omega (arith, there))
elem_stood (Some (Global a)) types t h there tl = is_less 0 types (omega (arith, there))
elem_stood (Some (Field s f)) types t h there tl = is_less 0 types (omega (arith, there))
elem_stood (Some (Elem u)) types t h there tl = let q = less u t h in both_true _ _ (is_less (u + 1) types (omega (arith, q, there))) (is_less u (2 ^ 32 - 1) (omega (arith, q, tl)))

key_stood : (r : Reader) (key : Key) → IsTrue (takes_keys r.stage && is_there (length r.structs) (length r.plan.types) key && is_after r.last_key key) → IsSmall key → may_stand r (shape_of (line.Key key)) ≡ true
unfolding may_stand is_there
key_stood r (Global g) h m =
    let a = both (takes_keys r.stage && is_there (length r.structs) (length r.plan.types) (Global g)) _ h in
    let b = both (takes_keys r.stage) _ a.0 in
    both_true (takes_keys r.stage) (global_follows r.last_key) b.0 (global_stood r.last_key g a.1 m)
key_stood r (Field s f) h m =
    let a = both (takes_keys r.stage && is_there (length r.structs) (length r.plan.types) (Field s f)) _ h in
    let b = both (takes_keys r.stage) _ a.0 in
    both_true (takes_keys r.stage) (field_follows (length r.structs) r.last_key) b.0 (field_stood r.last_key (length r.structs) s f a.1 (less s (length r.structs) b.1) m.0 m.1)
key_stood r (Elem t) h m =
    let a = both (takes_keys r.stage && is_there (length r.structs) (length r.plan.types) (Elem t)) _ h in
    let b = both (takes_keys r.stage) _ a.0 in
    both_true (takes_keys r.stage) (elem_follows (length r.plan.types) r.last_key) b.0 (elem_stood r.last_key (length r.plan.types) t a.1 (less t (length r.plan.types) b.1) m)

line_stood : (r : Reader) (l : Line) → IsNext r l → may_stand r (shape_of l) ≡ true
unfolding may_stand
line_stood r line.Heading h = h
line_stood r line.First h = (both (takes_types r.stage) _ h).0
line_stood r (line.Struct name) h =
    let a = both _ (is_new r.structs name) h in
    let b = both _ (nat_lt (length r.structs) (2 ^ 32)) a.0 in
    (both (takes_types r.stage) (length r.plan.types == 9 + length r.structs) b.0).0
line_stood r (line.Type ty text) h = (both (takes_types r.stage) _ h.0).0
line_stood r (line.Function name half is_root) h = (both (takes_functions r.stage && nat_lt 8 (length r.plan.types)) _ h).0
line_stood r (line.Down k) h = down_stood r k h.0
line_stood r (line.Up k) h = up_stood r k h.0
line_stood r (line.Key key) h = key_stood r key h.0 h.1
line_stood r line.End h = h

pub stood : (r : Reader) (s : Shape) → Stands r s → may_stand r s ≡ true
stood r s h = subst (λ t. may_stand r t ≡ true) h.shaped (line_stood r h.line h.next)

-- ---- what is kept from line to line

-- the last pointer type's text, where there was one
pub data LastIs (structs : List (List ℕ)) (types : ℕ) (last : List ℕ) : Type 0 where
  NoneYet : last ≡ [] → LastIs structs types last
  LastOf : (ty : Ty) → 9 + length structs < types → IsPointerText (struct_number structs) ty last → LastIs structs types last

-- the last key's numbers are of 32 bits
abbrev pub SmallLast : Option Key → Type 0
SmallLast None = Unit {0}
SmallLast (Some key) = IsSmall key

-- of so many lines
pub record Kept (n : ℕ) (r : Reader) : Type 0 where
  pub downs : length r.plan.down ≤ n
  pub halves : length r.plan.halves ≤ n
  pub room : length r.structs ≤ length r.plan.types - 9
  pub last : LastIs r.structs (length r.plan.types) r.last
  pub small : SmallLast r.last_key

later : (structs : List (List ℕ)) (n m : ℕ) (last : List ℕ) → n ≤ m → LastIs structs n last → LastIs structs m last
later structs n m last le (NoneYet e) = NoneYet e
later structs n m last le (LastOf ty lt h) = LastOf ty (omega (arith, lt, le)) h

none_before : (structs more : List (List ℕ)) (n m : ℕ) (last : List ℕ) → n ≡ 9 + length structs → LastIs structs n last → LastIs more m last
none_before structs more n m last e (NoneYet q) = NoneYet q
none_before structs more n m last e (LastOf ty lt h) = absurd (omega (arith, e, lt))

one_more : {A : Type 0} (xs : List A) (x : A) → length (xs ++ x ∷ []) ≡ length xs + 1
one_more xs x = length-append xs (x ∷ [])

kept_line : (n : ℕ) (r : Reader) (l : Line) → Kept n r → IsNext r l → Kept (n + 1) (after r l)
kept_line n r line.Heading k h = record { downs = let d = k.downs in omega (arith, d); halves = let d = k.halves in omega (arith, d); room = k.room; last = k.last; small = k.small }
kept_line n r line.First k h =
    let e = one_more r.plan.types (first_type (length r.plan.types)) in
    let d = k.downs in let f = k.halves in let g = k.room in
    record { downs = omega (arith, d); halves = omega (arith, f); room = omega (arith, e, g); last = later r.structs (length r.plan.types) _ r.last (omega (arith, e)) k.last; small = k.small }
kept_line n r (line.Struct name) k h =
    let a = both _ (is_new r.structs name) h in
    let b = both _ (nat_lt (length r.structs) (2 ^ 32)) a.0 in
    let c = both (takes_types r.stage) (length r.plan.types == 9 + length r.structs) b.0 in
    let q : length r.plan.types ≡ 9 + length r.structs = (Decides-eqb (length r.plan.types) (9 + length r.structs)).0 c.1 in
    let e = one_more r.plan.types (type.Struct (length r.structs)) in
    let s = one_more r.structs name in
    let d = k.downs in let f = k.halves in
    record { downs = omega (arith, d); halves = omega (arith, f); room = omega (arith, e, s, q); last = none_before r.structs (r.structs ++ name ∷ []) (length r.plan.types) _ r.last q k.last; small = k.small }
kept_line n r (line.Type ty bytes) k h =
    let b = both (takes_types r.stage) (nat_lt 8 (length r.plan.types)) h.0 in
    let q = less 8 (length r.plan.types) b.1 in
    let e = one_more r.plan.types ty in
    let d = k.downs in let f = k.halves in let g = k.room in
    record { downs = omega (arith, d); halves = omega (arith, f); room = omega (arith, e, g); last = LastOf ty (omega (arith, e, g, q)) h.1; small = k.small }
kept_line n r (line.Function name half is_root) k h =
    let e = one_more r.plan.down false in
    let c = one_more r.plan.halves half in
    let d = k.downs in let f = k.halves in
    record { downs = omega (arith, e, d); halves = omega (arith, c, f); room = k.room; last = k.last; small = k.small }
kept_line n r (line.Down i) k h =
    let e : length (slice_set r.plan.down i true) ≡ length r.plan.down = length-set r.plan.down i true in
    let d = k.downs in let f = k.halves in
    record { downs = omega (arith, e, d); halves = omega (arith, f); room = k.room; last = k.last; small = k.small }
kept_line n r (line.Up i) k h = record { downs = let d = k.downs in omega (arith, d); halves = let d = k.halves in omega (arith, d); room = k.room; last = k.last; small = tt }
kept_line n r (line.Key key) k h = record { downs = let d = k.downs in omega (arith, d); halves = let d = k.halves in omega (arith, d); room = k.room; last = k.last; small = h.1 }
kept_line n r line.End k h = record { downs = let d = k.downs in omega (arith, d); halves = let d = k.halves in omega (arith, d); room = k.room; last = k.last; small = k.small }

pub kept : (text : List ℕ) (n : ℕ) (r : Reader) → Reached text n r → Kept n r
kept _ _ _ Begun = record { downs = omega arith; halves = omega arith; room = omega arith; last = NoneYet refl; small = tt }
kept _ _ _ (Then text bytes n r l before reads) = kept_line n r l (kept text n r before) reads.next

-- ---- a type behind the last

before_longer : (xs ys : List ℕ) → 0 < length ys → IsTrue (is_before xs (xs ++ ys))
before_longer [] [] h = absurd (omega arith)
before_longer [] (y ∷ ys) h = refl
before_longer (x ∷ xs) ys h = let q : ltb x x ≡ false = le-ltb x x (omega arith) in rw q (before_longer xs ys h)

points : (names : Naming) (t p : Ty) (x : Text) → Written names t p x → IsTrue (is_pointer p)
points names _ _ _ (OfInt k) = rw (type.outs-Ptr (type.Int k)) refl
points names _ _ _ OfLock = rw (type.outs-Ptr type.Lock) refl
points names _ _ _ (OfStruct s name a b) = rw (type.outs-Ptr (type.Struct s)) refl
points names _ _ _ OfVoid = rw type.outs-VoidPtr refl
points names _ _ _ (OfPtr t p x w) = rw (type.outs-Ptr p) refl
points names _ _ _ (OfFun r p ts x xs w i ps) = rw (type.outs-Ptr (type.Fun (r ∷ ts))) refl

star_some : (s : Bool) → 0 < length (star s)
star_some true = omega arith
star_some false = omega arith

-- a pointer type that may come next
record NextType (r : Reader) : Type 0 where
  ty : Ty
  bytes : List ℕ
  is : IsPointerText (struct_number r.structs) ty bytes
  later : IsTrue (is_before r.last bytes)

next_type : (r : Reader) → LastIs r.structs (length r.plan.types) r.last → NextType r
next_type r (NoneYet e) = record {
  ty = type.VoidPtr;
  bytes = codes "void" ++ codes " *";
  is = record { pointer = type.Ptr type.VoidPtr; whole = text (codes "void" ++ codes " *") true; written = OfPtr type.Void type.VoidPtr (text (codes "void") false) OfVoid; points = rw type.outs-VoidPtr refl; same = refl };
  later = rw e refl;
}
next_type r (LastOf ty lt h) = record {
  ty = h.pointer;
  bytes = h.whole.bytes ++ star h.whole.starred;
  is = record { pointer = type.Ptr h.pointer; whole = text (h.whole.bytes ++ star h.whole.starred) true; written = OfPtr ty h.pointer h.whole h.written; points = points (struct_number r.structs) ty h.pointer h.whole h.written; same = refl };
  later = subst (λ bs. IsTrue (is_before bs (h.whole.bytes ++ star h.whole.starred))) h.same (before_longer h.whole.bytes (star h.whole.starred) (star_some h.whole.starred));
}

type_stands : (r : Reader) → LastIs r.structs (length r.plan.types) r.last → takes_types r.stage ≡ true → Stands r shape.Type
type_stands r last e = on (ltb (length r.plan.types) 9) refl
  where
    on : (v : Bool) → ltb (length r.plan.types) 9 ≡ v → Stands r shape.Type
    on true q = record { line = line.First; next = both_true (takes_types r.stage) (nat_lt (length r.plan.types) 9) e q; shaped = refl }
    on false q =
        let n = not_from_Decides (ltb (length r.plan.types) 9) (Decides-ltb (length r.plan.types) 9) q in
        let next = next_type r last in
        record { line = line.Type next.ty next.bytes; next = (both_true (takes_types r.stage) (nat_lt 8 (length r.plan.types)) e (is_less 8 (length r.plan.types) (omega (arith, n))), next.is, next.later); shaped = refl }

-- ---- a name that is new

abbrev total : List (List ℕ) → ℕ
total [] = 0
total (x ∷ xs) = length x + total xs

none_named : (names : List (List ℕ)) (name : List ℕ) → total names < length name → list_any (is_named name) names ≡ false
none_named [] name lt = refl
none_named (x ∷ xs) name lt = on (bytes_eq x name) refl (none_named xs name (omega (arith, lt)))
  where
    on : (v : Bool) → bytes_eq x name ≡ v → list_any (is_named name) xs ≡ false → list_any (is_named name) (x ∷ xs) ≡ false
    on true q h = let e : x ≡ name = (bytes_eq-Decides x name).0 q in let f : length x ≡ length name = ap length e in absurd (omega (arith, f, lt))
    on false q h = rw q h

many : (n : ℕ) → list_all is_name_byte (replicate n 113) ≡ true
many zero = refl
many (suc n) = many n

unreserved : (rest : List ℕ) → is_reserved (113 ∷ rest) ≡ false
unfolding is_reserved reserved
unreserved rest = refl

new_name : (names : List (List ℕ)) → IsTrue (is_new names (113 ∷ replicate (total names) 113))
unfolding is_new is_name
new_name names =
    let m : list_all is_name_byte (replicate (total names) 113) ≡ true = many (total names) in
    let u : is_reserved (113 ∷ replicate (total names) 113) ≡ false = unreserved (replicate (total names) 113) in
    let n : length {A = ℕ} (replicate (total names) 113) ≡ total names = length-replicate (total names) 113 in
    let l : list_any (is_named (113 ∷ replicate (total names) 113)) names ≡ false = none_named names (113 ∷ replicate (total names) 113) (omega (arith, n)) in
    rw (m, u, l) refl

-- ---- the next function of the user half

record FirstUser (hs : List Half) : Type 0 where
  place : ℕ
  inside : place < length hs
  user : IsTrue (is_user_half (slice_get hs place))
  before : IsTrue (list_all is_kernel (take place hs))

first_user : (hs : List Half) → list_all is_kernel hs ≡ false → FirstUser hs
first_user [] e = absurd (Prim.cc)
first_user (User ∷ hs) e = record { place = 0; inside = omega arith; user = refl; before = refl }
first_user (Kernel ∷ hs) e = let f = first_user hs e in let i = f.inside in record { place = suc f.place; inside = omega (arith, i); user = f.user; before = f.before }

get_behind : (hs : List Half) (ups j : ℕ) → slice_get hs (ups + j) ≡ slice_get (drop ups hs) j
get_behind [] zero j = refl
get_behind [] (suc ups) j = refl
get_behind (x ∷ hs) zero j = let e : 0 + j ≡ j = omega arith in ap (slice_get (x ∷ hs)) e
get_behind (x ∷ hs) (suc ups) j = let e : suc ups + j ≡ suc (ups + j) = omega arith in rw e (get_behind hs ups j)

drop_inside : (hs : List Half) (ups j : ℕ) → j < length (drop ups hs) → ups + j < length hs
drop_inside [] zero j lt = absurd (omega (arith, lt))
drop_inside [] (suc ups) j lt = absurd (omega (arith, lt))
drop_inside (x ∷ hs) zero j lt = omega (arith, lt)
drop_inside (x ∷ hs) (suc ups) j lt = let h = drop_inside hs ups j lt in omega (arith, h)

-- an `up` line that may come next
pub record NextUp (r : Reader) : Type 0 where
  pub k : ℕ
  pub le : r.ups ≤ k
  pub inside : k < length r.plan.halves
  pub next : IsNext r (line.Up k)

pub next_up : (r : Reader) → length r.plan.halves < 2 ^ 64 → IsTrue (takes_ups r.stage) → list_all is_kernel (drop r.ups r.plan.halves) ≡ false → NextUp r
unfolding is_next_user
next_up r small t some =
    let f = first_user (drop r.ups r.plan.halves) some in
    let lt = drop_inside r.plan.halves r.ups f.place f.inside in
    let le : leb r.ups (r.ups + f.place) ≡ true = let q : r.ups ≤ r.ups + f.place = omega arith in grind (arith, q) in
    let user : IsTrue (is_user_half (slice_get r.plan.halves (r.ups + f.place))) = subst (λ o. IsTrue (is_user_half o)) (sym (get_behind r.plan.halves r.ups f.place)) f.user in
    let cut : r.ups + f.place - r.ups ≡ f.place = omega arith in
    let before : IsTrue (list_all is_kernel (take (r.ups + f.place - r.ups) (drop r.ups r.plan.halves))) = subst (λ n. IsTrue (list_all is_kernel (take n (drop r.ups r.plan.halves)))) (sym cut) f.before in
    record { k = r.ups + f.place; le = omega arith; inside = lt; next = (both_true _ _ t (both_true _ _ (both_true _ _ le user) before), omega (arith, lt, small)) }

up_stands : (r : Reader) → length r.plan.halves < 2 ^ 64 → may_stand r shape.Up ≡ true → Stands r shape.Up
unfolding may_stand
up_stands r small h =
    let b = both (takes_ups r.stage) (not (list_all is_kernel (drop r.ups r.plan.halves))) h in
    let u = next_up r small b.0 (negated (list_all is_kernel (drop r.ups r.plan.halves)) b.1) in
    record { line = line.Up u.k; next = u.next; shaped = refl }
  where
    negated : (b : Bool) → IsTrue (not b) → b ≡ false
    negated true h = no h
    negated false h = refl

-- ---- keys

-- a key of this form may follow
record Follows (structs types : ℕ) (last : Option Key) (s : Shape) : Type 0 where
  key : Key
  next : IsTrue (is_there structs types key && is_after last key)
  shaped : shape_of (line.Key key) ≡ s
  small : IsSmall key

global_key : (structs types : ℕ) (last : Option Key) → IsTrue (global_follows last) → Follows structs types last shape.GlobalKey
unfolding is_there is_after global_follows
global_key structs types None h = record { key = Global 0; next = refl; shaped = refl; small = omega arith }
global_key structs types (Some (Global a)) h = let lt = less a (2 ^ 32 - 1) h in record { key = Global (a + 1); next = is_less a (a + 1) (omega arith); shaped = refl; small = omega (arith, lt) }
global_key structs types (Some (Field s f)) h = no h
global_key structs types (Some (Elem t)) h = no h

field_next : (r e structs types : ℕ) → r < structs → r < 2 ^ 32 → e < 2 ^ 32 - 1 → Follows structs types (Some (Field r e)) shape.FieldKey
unfolding is_there is_after
field_next r e structs types there rs es =
    let same : (r == r) ≡ true = (Decides-eqb r r).1 refl in
    let next : ltb e (e + 1) ≡ true = is_less e (e + 1) (omega arith) in
    let not_less : ltb r r ≡ false = le-ltb r r (omega arith) in
    let inside : ltb r structs ≡ true = is_less r structs there in
    record { key = Field r (e + 1); next = rw (inside, not_less, same, next) refl; shaped = refl; small = (rs, omega (arith, es)) }

field_of_next : (r e structs types : ℕ) → r + 1 < structs → r < 2 ^ 32 - 1 → Follows structs types (Some (Field r e)) shape.FieldKey
unfolding is_there is_after
field_of_next r e structs types there rs =
    let next : ltb r (r + 1) ≡ true = is_less r (r + 1) (omega arith) in
    let inside : ltb (r + 1) structs ≡ true = is_less (r + 1) structs there in
    record { key = Field (r + 1) 0; next = rw (inside, next) refl; shaped = refl; small = (omega (arith, rs), omega arith) }

either : (a b : Bool) (P : Type 0) → (IsTrue a → P) → (IsTrue b → P) → IsTrue (a || b) → P
either true b P f g h = f refl
either false b P f g h = g h

field_first : (structs types : ℕ) (last : Option Key) → is_after last (Field 0 0) ≡ true → IsTrue (nat_lt 0 structs) → Follows structs types last shape.FieldKey
unfolding is_there
field_first structs types last a h = let q : ltb 0 structs ≡ true = h in record { key = Field 0 0; next = rw (q, a) refl; shaped = refl; small = (omega arith, omega arith) }

field_key : (structs types : ℕ) (last : Option Key) → SmallLast last → IsTrue (field_follows structs last) → Follows structs types last shape.FieldKey
unfolding is_after field_follows
field_key structs types None m h = field_first structs types None refl h
field_key structs types (Some (Global a)) m h = field_first structs types (Some (Global a)) refl h
field_key structs types (Some (Field r e)) m h =
    either (nat_lt r structs && nat_lt e (2 ^ 32 - 1)) (nat_lt (r + 1) structs && nat_lt r (2 ^ 32 - 1)) (Follows structs types (Some (Field r e)) shape.FieldKey)
    (λ q. let b = both (nat_lt r structs) (nat_lt e (2 ^ 32 - 1)) q in field_next r e structs types (less r structs b.0) m.0 (less e (2 ^ 32 - 1) b.1))
    (λ q. let b = both (nat_lt (r + 1) structs) (nat_lt r (2 ^ 32 - 1)) q in field_of_next r e structs types (less (r + 1) structs b.0) (less r (2 ^ 32 - 1) b.1)) h
field_key structs types (Some (Elem t)) m h = no h

elem_first : (structs types : ℕ) (last : Option Key) → is_after last (Elem 0) ≡ true → IsTrue (nat_lt 0 types) → Follows structs types last shape.ElemKey
unfolding is_there
elem_first structs types last a h = let q : ltb 0 types ≡ true = h in record { key = Elem 0; next = rw (q, a) refl; shaped = refl; small = omega arith }

elem_next : (structs types t : ℕ) → t + 1 < types → t < 2 ^ 32 - 1 → Follows structs types (Some (Elem t)) shape.ElemKey
unfolding is_there is_after
elem_next structs types t there ts =
    let next : ltb t (t + 1) ≡ true = is_less t (t + 1) (omega arith) in
    let inside : ltb (t + 1) types ≡ true = is_less (t + 1) types there in
    record { key = Elem (t + 1); next = rw (inside, next) refl; shaped = refl; small = omega (arith, ts) }

elem_key : (structs types : ℕ) (last : Option Key) → IsTrue (elem_follows types last) → Follows structs types last shape.ElemKey
unfolding is_after elem_follows
elem_key structs types None h = elem_first structs types None refl h
elem_key structs types (Some (Global a)) h = elem_first structs types (Some (Global a)) refl h
elem_key structs types (Some (Field s f)) h = elem_first structs types (Some (Field s f)) refl h
elem_key structs types (Some (Elem t)) h = let b = both (nat_lt (t + 1) types) (nat_lt t (2 ^ 32 - 1)) h in elem_next structs types t (less (t + 1) types b.0) (less t (2 ^ 32 - 1) b.1)

key_stands : (r : Reader) (s : Shape) → IsTrue (takes_keys r.stage) → Follows (length r.structs) (length r.plan.types) r.last_key s → Stands r s
key_stands r s t f =
    let b = both (is_there (length r.structs) (length r.plan.types) f.key) (is_after r.last_key f.key) f.next in
    record { line = line.Key f.key; next = (both_true (takes_keys r.stage && is_there (length r.structs) (length r.plan.types) f.key) (is_after r.last_key f.key) (both_true (takes_keys r.stage) _ t b.0) b.1, f.small); shaped = f.shaped }

down_stands : (r : Reader) → length r.plan.down < 2 ^ 64 → may_stand r shape.Down ≡ true → Stands r shape.Down
unfolding may_stand
down_stands r small h =
    let b = both (takes_downs r.stage) (nat_lt r.low (length r.plan.down)) h in
    let lt = less r.low (length r.plan.down) b.1 in
    let le : leb r.low r.low ≡ true = let q : r.low ≤ r.low = omega arith in grind (arith, q) in
    record { line = line.Down r.low; next = (both_true (takes_downs r.stage && nat_le r.low r.low) _ (both_true (takes_downs r.stage) _ b.0 le) b.1, omega (arith, lt, small)); shaped = refl }

pub stands : (n : ℕ) (r : Reader) (s : Shape) → Kept n r → n < 2 ^ 64 → may_stand r s ≡ true → Stands r s
unfolding may_stand
stands n r shape.Heading k lt h = record { line = line.Heading; next = h; shaped = refl }
stands n r shape.Type k lt h = type_stands r k.last h
stands n r shape.Function k lt h = record { line = line.Function (113 ∷ replicate (total r.plan.names) 113) Kernel false; next = both_true (takes_functions r.stage && nat_lt 8 (length r.plan.types)) _ h (new_name r.plan.names); shaped = refl }
stands n r shape.Down k lt h = down_stands r (let d = k.downs in omega (arith, d, lt)) h
stands n r shape.Up k lt h = up_stands r (let d = k.halves in omega (arith, d, lt)) h
stands n r shape.GlobalKey k lt h = let b = both (takes_keys r.stage) (global_follows r.last_key) h in key_stands r shape.GlobalKey b.0 (global_key (length r.structs) (length r.plan.types) r.last_key b.1)
stands n r shape.FieldKey k lt h = let b = both (takes_keys r.stage) (field_follows (length r.structs) r.last_key) h in key_stands r shape.FieldKey b.0 (field_key (length r.structs) (length r.plan.types) r.last_key k.small b.1)
stands n r shape.ElemKey k lt h = let b = both (takes_keys r.stage) (elem_follows (length r.plan.types) r.last_key) h in key_stands r shape.ElemKey b.0 (elem_key (length r.structs) (length r.plan.types) r.last_key b.1)
stands n r shape.End k lt h = record { line = line.End; next = h; shaped = refl }

-- ---- the kind

kind_by_test : (n : ℕ) (r : Reader) (bytes : List ℕ) (s : Shape) (v : Bool) → Kept n r → n < 2 ^ 64 → HasShape bytes s → may_stand r s ≡ v → IsKind r bytes (cond v Range Order)
kind_by_test n r bytes s true k lt h e = Another s h (stands n r s k lt e)
kind_by_test n r bytes s false k lt h e = Misplaced s h (λ t. let q : false ≡ true = sym e ∙ stood r s t in Prim.cc)

pub kind_is : (text bytes : List ℕ) (n : ℕ) (r : Reader) → Reached text n r → n < 2 ^ 64 → IsKind r bytes (kind_at r bytes)
kind_is text bytes n r reached lt = on (shape_at bytes) refl
  where
    on : (o : Option Shape) → shape_at bytes ≡ o → IsKind r bytes (kind_by r o)
    on None e = OfNone (shape_none bytes e)
    on (Some s) e = kind_by_test n r bytes s (may_stand r s) (kept text n r reached) lt (shape_is bytes s e) refl
