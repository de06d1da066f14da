-- The keys of a plan rise, and are those of what is there.
use Rattle.std.proofs.Common.{◌≡◌, ℕ, zero, suc, ◌<◌, ◌^◌, ◌==◌, ◌⊎◌, inl, inr, Bool, true, false, ◌&&◌, ◌||◌, nat_lt, List, [], ◌∷◌, length, Option, Some, None, slice_get, IsTrue, refl, sym, ap, subst, arith}
use Rattle.std.specs.List.{list_any}
use Rattle.std.proofs.lemmas.Option.{slice_get_within}
use Rattle.mdr_core.specs.declared.plan.Half.{Half}
use Rattle.mdr_core.specs.declared.plan.Half.TheVariants.{Kernel, User}
use Rattle.mdr_core.specs.declared.plan.Key.{Key}
use Rattle.mdr_core.specs.declared.plan.Key.TheVariants.{Global, Field, Elem}
use Rattle.mdr_core.specs.declared.program.Field.{Field as AnyField}
use Rattle.mdr_core.specs.declared.program.Program.{Program}
use Rattle.mdr_core.specs.declared.program.StructDef.{StructDef}
use Rattle.mdr_core.specs.declared.types.Ty.{Ty}
use Rattle.mdr_core.specs.Layout.{fields_of}
use Rattle.mdr_core.specs.Suited.{is_key, is_no_lock, global_type, field_type}
use Rattle.std.specs.Option.{option_map}
use Rattle.mdr_paths.specs.Paths.{Rises, is_in}
use Rattle.mdr_access.specs.KeyOrder.{keys, same_key, same_itself, IsBefore}
use Rattle.mdr_plan.specs.Lines.{is_there, is_after, IsSmall}
use Rattle.mdr_texts.specs.Canonical.{AreKeys, AreKeyed}
use Rattle.mdr_honest.specs.Plannable.{HasShortNumbers}
use Rattle.mdr_texts.specs.Canonical.AreKeys.{NoKeys, Behind}
use Rattle.mdr_texts.specs.Canonical.AreKeyed.{NoFunctions, OfKernel, OfUser}

-- ---- what a key names is there

pub record IsThere (structs types : ℕ) (k : Key) : Type 0 where
  pub there : IsTrue (is_there structs types k)
  pub small : IsSmall k

less_true : (a b : ℕ) → a < b → nat_lt a b ≡ true
less_true a b lt = grind (arith, lt)

mapped_some : {A : Type 0} (f : A → Ty) (o : Option A) → is_no_lock (option_map f o) ≡ true → (x : A) × (o ≡ Some x)
mapped_some f None h = absurd cc
mapped_some f (Some x) h = (x, refl)

type_some : (o : Option Ty) → is_no_lock o ≡ true → (x : Ty) × (o ≡ Some x)
type_some None h = absurd cc
type_some (Some x) h = (x, refl)

struct_there : (structs : List StructDef) (s f : ℕ) (x : AnyField) → slice_get (fields_of structs s) f ≡ Some x → s < length structs
struct_there [] s f x e = absurd cc
struct_there (d ∷ ds) zero f x e = omega arith
struct_there (d ∷ ds) (suc s) f x e = let lt = struct_there ds s f x e in omega (arith, lt)

pub key_there : (program : Program) → HasShortNumbers program → (k : Key) → IsTrue (is_key program k) → IsThere (length program.structs) (length program.types) k
unfolding is_key is_there
key_there program short (Global g) h =
    let x = mapped_some global_type (slice_get program.globals g) h in
    let lt : g < length program.globals = slice_get_within program.globals g x.0 x.1 in
    record { there = refl; small = (let few = short.globals in omega (arith, lt, few)) }
key_there program short (Field s f) h =
    let x = mapped_some field_type (slice_get (fields_of program.structs s) f) h in
    let lt : s < length program.structs = struct_there program.structs s f x.0 x.1 in
    let few = short.fields.within s in
    let inside : f < length (fields_of program.structs s) = slice_get_within (fields_of program.structs s) f x.0 x.1 in
    let one : s < 2 ^ 32 = (let many = short.structs in omega (arith, lt, many)) in
    let other : f < 2 ^ 32 = omega (arith, inside, few) in
    record { there = less_true s (length program.structs) lt; small = (one, other) }
key_there program short (Elem t) h =
    let x = type_some (slice_get program.types t) h in
    let lt : t < length program.types = slice_get_within program.types t x.0 x.1 in
    record { there = less_true t (length program.types) lt; small = (let few = short.types in omega (arith, lt, few)) }

-- ---- keys that rise

field_after : (s f t h : ℕ) → (s < t) ⊎ ((s ≡ t) × (f < h)) → (nat_lt s t || ((s == t) && nat_lt f h)) ≡ true
field_after s f t h (inl lt) = ap (λ (b : Bool). b || ((s == t) && nat_lt f h)) (less_true s t lt)
field_after s f t h (inr p) =
    let same : s ≡ t = p.0 in
    let lt : f < h = p.1 in
    grind (arith, same, lt)

after_of : (a b : Key) → IsBefore a b → IsTrue (is_after (Some a) b)
unfolding is_after
after_of (Global a) (Global b) h = less_true a b h
after_of (Global a) (Field s f) h = refl
after_of (Global a) (Elem t) h = refl
after_of (Field r e) (Global b) h = absurd h
after_of (Field r e) (Field s f) h = field_after r e s f h
after_of (Field r e) (Elem t) h = refl
after_of (Elem u) (Global b) h = absurd h
after_of (Elem u) (Field s f) h = absurd h
after_of (Elem u) (Elem t) h = less_true u t h

after_none : (k : Key) → IsTrue (is_after None k)
unfolding is_after
after_none k = refl

in_first : (k : Key) (ks : List Key) → is_in keys (k ∷ ks) k ≡ true
unfolding is_in
in_first k ks = ap (λ (b : Bool). b || list_any (same_key k) ks) (same_itself k)

in_more_by : (b c : Bool) → c ≡ true → (b || c) ≡ true
in_more_by true c e = refl
in_more_by false c e = e

in_more : (k d : Key) (ks : List Key) → is_in keys ks d ≡ true → is_in keys (k ∷ ks) d ≡ true
unfolding is_in
in_more k d ks e = in_more_by (same_key d k) (list_any (same_key d) ks) e

module _ (structs types : ℕ) where
  keys_on : (last : Option Key) (ks : List Key) → Rises keys ks → ((k : Key) → is_in keys ks k ≡ true → IsThere structs types k) → ((k : Key) → is_in keys ks k ≡ true → IsTrue (is_after last k)) → AreKeys structs types last ks
  keys_on last [] rises each behind = NoKeys last
  keys_on last (k ∷ ks) rises each behind =
      let here = each k (in_first k ks) in
      Behind last k ks here.there (behind k (in_first k ks)) here.small
      (keys_on (Some k) ks rises.1 (λ d e. each d (in_more k d ks e)) (λ d e. after_of k d (rises.0 d e)))

  pub keys_are : (ks : List Key) → Rises keys ks → ((k : Key) → is_in keys ks k ≡ true → IsThere structs types k) → AreKeys structs types None ks
  keys_are ks rises each = keys_on None ks rises each (λ k e. after_none k)

  -- ---- each function's

  pub keyed : (halves : List Half) (lists : List (List Key)) → length lists ≡ length halves
      → ((f : ℕ) (ks : List Key) → slice_get halves f ≡ Some Kernel → slice_get lists f ≡ Some ks → ks ≡ [])
      → ((f : ℕ) (ks : List Key) → slice_get halves f ≡ Some User → slice_get lists f ≡ Some ks → AreKeys structs types None ks)
      → AreKeyed structs types halves lists
  keyed [] [] e kernel user = NoFunctions
  keyed [] (ks ∷ lists) e kernel user = absurd (omega (arith, e))
  keyed (h ∷ halves) [] e kernel user = absurd (omega (arith, e))
  keyed (Kernel ∷ halves) (ks ∷ lists) e kernel user =
      let none : ks ≡ [] = kernel 0 ks refl refl in
      subst (λ (xs : List Key). AreKeyed structs types (Kernel ∷ halves) (xs ∷ lists)) (sym none) (OfKernel halves lists (keyed halves lists (omega (arith, e)) (λ f. kernel (suc f)) (λ f. user (suc f))))
  keyed (User ∷ halves) (ks ∷ lists) e kernel user =
      OfUser halves ks lists (user 0 ks refl refl) (keyed halves lists (omega (arith, e)) (λ f. kernel (suc f)) (λ f. user (suc f)))
