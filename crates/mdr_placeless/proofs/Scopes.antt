-- Scopes that differ in faults alone.
use Rattle.mdr_faults.specs.Enums.{with_name}
use Rattle.mdr_faults.specs.Faults.{Checked, again, told}
use Rattle.mdr_faults.specs.Scopes.{entity_among, entity_named, or_else, tag_named}
use Rattle.mdr_faults.specs.declared.fault.Fault.{Fault}
use Rattle.mdr_faults.specs.declared.scope.Entity.{Entity}
use Rattle.mdr_faults.specs.declared.scope.Member.{Member}
use Rattle.mdr_faults.specs.declared.scope.Named.{Named}
use Rattle.mdr_faults.specs.declared.scope.Scope.{Scope}
use Rattle.mdr_faults.specs.declared.scope.StructEntry.{StructEntry}
use Rattle.mdr_faults.specs.declared.scope.Tag.{Tag}
use Rattle.mdr_placeless.specs.Alike.{AreAlike}
use Rattle.mdr_placeless.specs.Alike.AreAlike.{Rights, Wrongs}
use Rattle.std.proofs.Common.{Bool, Err, List, None, Ok, Option, Result, Some, [], ap, bytes_eq, cond, false, find, is_some, length, map, nat_lt, not, position, refl, slice_get, subst, suc, true, zero, ℕ, ◌&&◌, ◌++◌, ◌+◌, ◌||◌, ◌∙◌, ◌∷◌, ◌≡◌}
use Rattle.std.specs.List.{list_all, list_any, position_or_len, prefix_len}

-- ---- what was told of a declaration, and lists of it

pub data AreTold {A : Type 0} : Result A Fault → Result A Fault → Type 0 where
  Oks : (x : A) → AreTold (Ok x) (Ok x)
  Errs : (f g : Fault) → AreTold (Err f) (Err g)

pub data Perhaps {A : Type 0} (R : A → A → Type 0) : Option A → Option A → Type 0 where
  Nones : Perhaps R None None
  Somes : {x y : A} → R x y → Perhaps R (Some x) (Some y)

pub data Pairs {A : Type 0} (R : A → A → Type 0) : List A → List A → Type 0 where
  Nil : Pairs R [] []
  Cons : {x y : A} {xs ys : List A} → R x y → Pairs R xs ys → Pairs R (x ∷ xs) (y ∷ ys)

pub record AreNamed (n m : Named) : Type 0 where
  pub named : n.name ≡ m.name
  pub mean : AreTold n.means m.means

pub record AreMembers (n m : Member) : Type 0 where
  pub named : n.name ≡ m.name
  pub mean : AreTold n.means m.means

pub record AreEntries (d e : StructEntry) : Type 0 where
  pub member : Pairs AreMembers d.members e.members
  pub cell : AreTold d.cells e.cells

pub record AreScopes (s t : Scope) : Type 0 where
  pub tag : s.tags ≡ t.tags
  pub define : s.defines ≡ t.defines
  pub named : Pairs AreNamed s.names t.names
  pub outline : s.outlines ≡ t.outlines
  pub struct : Pairs AreEntries s.structs t.structs

-- ---- what is told, and what comes again

pub told_alike : {A : Type 0} {c d : Checked A} → AreAlike c d → AreTold (told c) (told d)
told_alike (Rights x) = Oks x
told_alike (Wrongs f g) = Errs _ _

pub again_alike : {A : Type 0} {r s : Result A Fault} → AreTold r s → AreAlike (again r) (again s)
again_alike (Oks x) = Rights x
again_alike (Errs f g) = Wrongs _ _

-- ---- lists

pub perhaps_some : {A : Type 0} {R : A → A → Type 0} {o p : Option A} → Perhaps R o p → is_some o ≡ is_some p
perhaps_some Nones = refl
perhaps_some (Somes r) = refl

pub pairs_length : {A : Type 0} {R : A → A → Type 0} {xs ys : List A} → Pairs R xs ys → length xs ≡ length ys
pairs_length Nil = refl
pairs_length (Cons r rs) = ap (λ n. suc n) (pairs_length rs)

pub pairs_get : {A : Type 0} {R : A → A → Type 0} {xs ys : List A} (i : ℕ) → Pairs R xs ys → Perhaps R (slice_get xs i) (slice_get ys i)
pairs_get i Nil = Nones
pairs_get zero (Cons r rs) = Somes r
pairs_get (suc i) (Cons r rs) = pairs_get i rs

pub pairs_append : {A : Type 0} {R : A → A → Type 0} {xs ys zs ws : List A} → Pairs R xs ys → Pairs R zs ws → Pairs R (xs ++ zs) (ys ++ ws)
pairs_append Nil q = q
pairs_append (Cons r rs) q = Cons r (pairs_append rs q)

pub one_more : {A : Type 0} {R : A → A → Type 0} {xs ys : List A} {x y : A} → Pairs R xs ys → R x y → Pairs R (xs ++ x ∷ []) (ys ++ y ∷ [])
one_more p r = pairs_append p (Cons r Nil)

found_by : {A : Type 0} {R : A → A → Type 0} (x y : A) (o p : Option A) (t u : Bool) → t ≡ u → R x y → Perhaps R o p → Perhaps R (cond t (Some x) o) (cond u (Some y) p)
found_by {R = R} x y o p true u e r q = subst (λ b. Perhaps R (Some x) (cond b (Some y) p)) e (Somes r)
found_by {R = R} x y o p false u e r q = subst (λ b. Perhaps R o (cond b (Some y) p)) e q

pub pairs_find : {A : Type 0} {R : A → A → Type 0} (test other : A → Bool) {xs ys : List A} → ((x y : A) → R x y → test x ≡ other y) → Pairs R xs ys → Perhaps R (find test xs) (find other ys)
pairs_find test other h Nil = Nones
pairs_find test other h (Cons {x = x} {y = y} {xs = xs} {ys = ys} r rs) = found_by x y (find test xs) (find other ys) (test x) (other y) (h x y r) r (pairs_find test other h rs)

counted : (t u : Bool) (m n : ℕ) → t ≡ u → m ≡ n → cond t (1 + m) 0 ≡ cond u (1 + n) 0
counted t u m n e f = ap (λ b. cond b (1 + m) 0) e ∙ ap (λ k. cond u (1 + k) 0) f

pub pairs_prefix : {A : Type 0} {R : A → A → Type 0} (test other : A → Bool) {xs ys : List A} → ((x y : A) → R x y → test x ≡ other y) → Pairs R xs ys → prefix_len test xs ≡ prefix_len other ys
pairs_prefix test other h Nil = refl
pairs_prefix test other h (Cons {x = x} {y = y} {xs = xs} {ys = ys} r rs) = counted (test x) (other y) (prefix_len test xs) (prefix_len other ys) (h x y r) (pairs_prefix test other h rs)

pub pairs_position : {A : Type 0} {R : A → A → Type 0} (test other : A → Bool) {xs ys : List A} → ((x y : A) → R x y → test x ≡ other y) → Pairs R xs ys → position test xs ≡ position other ys
pairs_position test other {xs = xs} {ys = ys} h p =
    ap (λ k. cond (nat_lt k (length xs)) (Some k) None) (pairs_prefix (λ x. not (test x)) (λ x. not (other x)) (λ x y r. ap (λ b. not b) (h x y r)) p)
    ∙ ap (λ n. cond (nat_lt (position_or_len other ys) n) (Some (position_or_len other ys)) None) (pairs_length p)

pub pairs_any : {A : Type 0} {R : A → A → Type 0} (test other : A → Bool) {xs ys : List A} → ((x y : A) → R x y → test x ≡ other y) → Pairs R xs ys → list_any test xs ≡ list_any other ys
pairs_any test other h Nil = refl
pairs_any test other h (Cons {x = x} {y = y} {xs = xs} {ys = ys} r rs) = ap (λ b. b || list_any test xs) (h x y r) ∙ ap (λ b. other y || b) (pairs_any test other h rs)

pub pairs_all : {A : Type 0} {R : A → A → Type 0} (test other : A → Bool) {xs ys : List A} → ((x y : A) → R x y → test x ≡ other y) → Pairs R xs ys → list_all test xs ≡ list_all other ys
pairs_all test other h Nil = refl
pairs_all test other h (Cons {x = x} {y = y} {xs = xs} {ys = ys} r rs) = ap (λ b. b && list_all test xs) (h x y r) ∙ ap (λ b. other y && b) (pairs_all test other h rs)

pub pairs_map : {A B : Type 0} {R : A → A → Type 0} (f g : A → B) {xs ys : List A} → ((x y : A) → R x y → f x ≡ g y) → Pairs R xs ys → map f xs ≡ map g ys
pairs_map f g h Nil = refl
pairs_map {B = B} f g h (Cons {x = x} {y = y} {xs = xs} {ys = ys} r rs) = ap (λ (b : B). b ∷ map f xs) (h x y r) ∙ ap (λ (bs : List B). g y ∷ bs) (pairs_map f g h rs)

pub pairs_over : {A B : Type 0} {R : A → A → Type 0} {S : B → B → Type 0} (f g : A → B) {xs ys : List A} → ((x y : A) → R x y → S (f x) (g y)) → Pairs R xs ys → Pairs S (map f xs) (map g ys)
pairs_over f g h Nil = Nil
pairs_over f g h (Cons r rs) = Cons (h _ _ r) (pairs_over f g h rs)

pub pairs_same : {A : Type 0} {R : A → A → Type 0} (xs : List A) → ((x : A) → R x x) → Pairs R xs xs
pairs_same [] h = Nil
pairs_same (x ∷ xs) h = Cons (h x) (pairs_same xs h)

pub told_same : {A : Type 0} (r : Result A Fault) → AreTold r r
told_same (Ok x) = Oks x
told_same (Err f) = Errs f f

-- ---- names and structs of a scope

same_named : (n : Named) → AreNamed n n
same_named n = record { named = refl; mean = told_same n.means }

among_alike : {xs ys : List Named} (name : List ℕ) → Pairs AreNamed xs ys → Perhaps AreNamed (entity_among xs name) (entity_among ys name)
among_alike name p = pairs_find _ _ (λ n m r. ap (λ (x : List ℕ). bytes_eq x name) r.named) p

pub taken_alike : {s t : Scope} → AreScopes s t → (name : List ℕ) → is_some (entity_among s.names name) ≡ is_some (entity_among t.names name)
taken_alike a name = perhaps_some (among_alike name a.named)

defines_alike : (xs ys : List Named) → xs ≡ ys → Pairs AreNamed xs ys
defines_alike xs ys e = subst (λ zs. Pairs AreNamed xs zs) e (pairs_same xs same_named)

else_alike : {o o' p p' : Option Named} → Perhaps AreNamed o o' → Perhaps AreNamed p p' → Perhaps AreNamed (or_else o p) (or_else o' p')
else_alike Nones q = q
else_alike (Somes r) q = Somes r

pub entity_alike : {s t : Scope} → AreScopes s t → (name : List ℕ) → Perhaps AreNamed (entity_named s name) (entity_named t name)
entity_alike {s = s} {t = t} a name = else_alike (among_alike name (defines_alike s.defines t.defines a.define)) (among_alike name a.named)

pub tag_alike : {s t : Scope} → AreScopes s t → (name : List ℕ) → tag_named s name ≡ tag_named t name
tag_alike a name = ap (λ (tags : List Tag). find (λ (x : Tag). bytes_eq x.name name) tags) a.tag

pub structs_length : {s t : Scope} → AreScopes s t → length s.structs ≡ length t.structs
structs_length a = pairs_length a.struct

pub with_name_alike : {s t : Scope} → AreScopes s t → (name : List ℕ) {r q : Result Entity Fault} → AreTold r q → AreScopes (with_name s name r) (with_name t name q)
with_name_alike a name h = record { tag = a.tag; define = a.define; named = one_more a.named (record { named = refl; mean = h }); outline = a.outline; struct = a.struct }
