-- The keys of programs whose code is written once, of which each form touches one key.
use Rattle.std.proofs.Common.{◌≡◌, ℕ, zero, suc, ◌⊎◌, inl, inr, Bool, true, false, ◌&&◌, ◌||◌, List, [], ◌∷◌, Some, slice_get, refl, sym, ap, subst}
use Rattle.std.proofs.lemmas.Bool.{both_ways, and_parts, or_cases}
use Rattle.mdr_core.specs.declared.program.Program.{Program}
use Rattle.mdr_core.specs.declared.program.Func.{Func}
use Rattle.mdr_core.specs.declared.plan.Key.{Key}
use Rattle.mdr_core.specs.declared.plan.Half.{Half}
use Rattle.mdr_core.specs.Suited.{is_key}
use Rattle.mdr_paths.specs.Chains.{Chain}
use Rattle.mdr_paths.specs.Paths.{Rises, is_in}
use Rattle.mdr_paths.proofs.NodeLists.{none_in, is_in-cases}
use Rattle.mdr_slice.proofs.GraphLaws.{some_same, nothing_there}
use Rattle.mdr_access.specs.Exposed.{IsOneOf}
use Rattle.mdr_access.specs.Forms.{Form, Touch, Follow, Whole, FormHas, func_forms}
use Rattle.mdr_access.specs.KeyOrder.{IsBefore, keys, keys_through, same_key}
use Rattle.mdr_access.specs.Keys.{CallsUser, LeadsTo, IsTouched}

-- ---- lists that rise

abbrev pub IsSorted : List Key → Type 0
IsSorted [] = Unit {0}
IsSorted (k ∷ []) = Unit {0}
IsSorted (k ∷ j ∷ ks) = IsBefore k j × IsSorted (j ∷ ks)

sorted_rest : (k : Key) (ks : List Key) → IsSorted (k ∷ ks) → IsSorted ks
sorted_rest k [] h = tt
sorted_rest k (j ∷ ks) h = h.1

first_before : (k : Key) (ks : List Key) → IsSorted (k ∷ ks) → (d : Key) → is_in keys ks d ≡ true → IsBefore k d
first_before k [] h d e = absurd (none_in keys d e)
first_before k (j ∷ ks) h d e = of (is_in-cases keys j ks d e) (first_before j ks h.1 d)
  where
    of : (d ≡ j) ⊎ (is_in keys ks d ≡ true) → (is_in keys ks d ≡ true → IsBefore j d) → IsBefore k d
    of (inl same) later = subst (IsBefore k) (sym same) h.0
    of (inr there) later = keys_through k j d h.0 (later there)

pub rises : (ks : List Key) → IsSorted ks → Rises keys ks
rises [] h = tt
rises (k ∷ ks) h = (first_before k ks h, rises ks (sorted_rest k ks h))

-- ---- forms that touch one key each

-- each form touches a key of the list
abbrev pub all_in : List Key → List Form → Bool
all_in ks [] = true
all_in ks (Touch k ∷ fs) = is_in keys ks k && all_in ks fs
all_in ks (Follow ty ∷ fs) = false
all_in ks (Whole ty ∷ fs) = false

pub touched_in : (program : Program) (ks : List Key) (fs : List Form) → all_in ks fs ≡ true → (form : Form) (at : ℕ) → slice_get fs at ≡ Some form → (k : Key) → FormHas program form k → is_in keys ks k ≡ true
touched_in program ks [] h form at e k has = absurd (nothing_there form e)
touched_in program ks (Touch j ∷ fs) h form zero e k has =
    let same : k ≡ j = subst (λ (x : Form). FormHas program x k) (sym (some_same e)) has in
    subst (λ x. is_in keys ks x ≡ true) (sym same) (and_parts (is_in keys ks j) (all_in ks fs) h).0
touched_in program ks (Touch j ∷ fs) h form (suc at) e k has = touched_in program ks fs (and_parts (is_in keys ks j) (all_in ks fs) h).1 form at e k has
touched_in program ks (Follow ty ∷ fs) h form at e k has = absurd (both_ways false refl h)
touched_in program ks (Whole ty ∷ fs) h form at e k has = absurd (both_ways false refl h)

-- a form touches the key
abbrev pub has_touch : List Form → Key → Bool
has_touch [] k = false
has_touch (Touch j ∷ fs) k = same_key k j || has_touch fs k
has_touch (Follow ty ∷ fs) k = has_touch fs k
has_touch (Whole ty ∷ fs) k = has_touch fs k

touch_behind : (f : Form) (fs : List Form) (k : Key) → IsOneOf fs (Touch k) → IsOneOf (f ∷ fs) (Touch k)
touch_behind f fs k one = record { at = suc one.at; is = one.is }

pub touch_found : (fs : List Form) (k : Key) → has_touch fs k ≡ true → IsOneOf fs (Touch k)
touch_found [] k h = absurd (both_ways false refl h)
touch_found (Touch j ∷ fs) k h = of (or_cases (same_key k j) (has_touch fs k) h) (touch_found fs k)
  where
    of : (same_key k j ≡ true) ⊎ (has_touch fs k ≡ true) → (has_touch fs k ≡ true → IsOneOf fs (Touch k)) → IsOneOf (Touch j ∷ fs) (Touch k)
    of (inl e) later = record { at = 0; is = ap (λ x. Some (Touch x)) (sym (keys.equal k j e)) }
    of (inr e) later = touch_behind (Touch j) fs k (later e)
touch_found (Follow ty ∷ fs) k h = touch_behind (Follow ty) fs k (touch_found fs k h)
touch_found (Whole ty ∷ fs) k h = touch_behind (Whole ty) fs k (touch_found fs k h)

-- each key of the list is touched, and names no lock
abbrev pub all_touched : Program → List Form → List Key → Bool
all_touched program fs [] = true
all_touched program fs (k ∷ ks) = (has_touch fs k && is_key program k) && all_touched program fs ks

one_touched : (program : Program) (fs : List Form) (ks : List Key) → all_touched program fs ks ≡ true → (k : Key) → is_in keys ks k ≡ true → (has_touch fs k && is_key program k) ≡ true
one_touched program fs [] h k e = absurd (none_in keys k e)
one_touched program fs (j ∷ ks) h k e = of (is_in-cases keys j ks k e) (one_touched program fs ks both.1 k)
  where
    both : ((has_touch fs j && is_key program j) ≡ true) × (all_touched program fs ks ≡ true)
    both = and_parts (has_touch fs j && is_key program j) (all_touched program fs ks) h

    of : (k ≡ j) ⊎ (is_in keys ks k ≡ true) → (is_in keys ks k ≡ true → (has_touch fs k && is_key program k) ≡ true) → (has_touch fs k && is_key program k) ≡ true
    of (inl same) later = subst (λ x. (has_touch fs x && is_key program x) ≡ true) (sym same) both.0
    of (inr there) later = later there

-- the keys of a function that t leads to are in S(t)
pub keys_touched : (program : Program) (halves : List Half) (t f : ℕ) (own : Func) (fs : List Form) (ks : List Key) → LeadsTo program halves t f → slice_get program.funcs f ≡ Some own → func_forms program own ≡ fs → all_touched program fs ks ≡ true → (k : Key) → is_in keys ks k ≡ true → IsTouched program halves t k
keys_touched program halves t f own fs ks reached names forms h k e = record {
  func = f;
  reached = reached;
  own = own;
  names = names;
  form = Touch k;
  one = subst (λ xs. IsOneOf xs (Touch k)) (sym forms) (touch_found fs k (and_parts (has_touch fs k) (is_key program k) (one_touched program fs ks h k e)).0);
  has = refl;
  kept = (and_parts (has_touch fs k) (is_key program k) (one_touched program fs ks h k e)).1;
}

-- what holds of a function, and of all that those call of which it holds, holds of all that the function leads to
pub led : (program : Program) (halves : List Half) (t : ℕ) (P : ℕ → Type 0) → P t → ((f g : ℕ) → P f → CallsUser program halves f g → P g) → (f : ℕ) → LeadsTo program halves t f → P f
led program halves t P first next f (Chain.Begin c start) = subst P (sym start) first
led program halves t P first next f (Chain.Next d c chain step) = next d c (led program halves t P first next d chain) step
