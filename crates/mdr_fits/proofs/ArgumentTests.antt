-- Arguments, tested one by one.
use Rattle.std.proofs.Common.{◌≡◌, ℕ, zero, suc, ◌+◌, ◌<◌, ◌≤◌, List, [], ◌∷◌, Bool, true, false, cond, Option, Some, None, length, drop, get_or, refl, sym, ap, ◌∙◌, arith}
use Rattle.std.proofs.Math.Seq.{drop-length}
use Rattle.std.specs.Prelude.{slice_get, option_map}
use Rattle.mdr_core.specs.declared.program.Param.{Param}
use Rattle.mdr_core.specs.declared.refusal.RefuseKind.TheVariants as refusal
use Rattle.mdr_core.specs.declared.types.Ty.{Ty}
use Rattle.mdr_fits.specs.Judged.{fits_at, type_of, types_of}
use Rattle.mdr_meaning.specs.declared.wire.Wire.{Wire}
use Rattle.mdr_model.specs.declared.message.Fault.{Fault}
use Rattle.mdr_model.specs.Faults.{fault}
use Rattle.mdr_split.specs.Legal.{args_fault}

-- ---- the types of parameters

pub type_at : (params : List Param) (i : ℕ) → option_map type_of (slice_get params i) ≡ slice_get (types_of params) i
type_at [] i = refl
type_at (p ∷ ps) zero = refl
type_at (p ∷ ps) (suc i) = type_at ps i

pub as_many : (params : List Param) → length (types_of params) ≡ length params
as_many [] = refl
as_many (p ∷ ps) = ap suc (as_many ps)

no_room : (k : ℕ) → k < 0 → ⊥
no_room k h = omega arith

-- by any test of a value in its place
module _ (test : Ty → Wire → Bool) where
  -- an argument that fits lets the search go on
  next_fits : (types : List Ty) (args : List Wire) (i j : ℕ) (d : Wire) → i < length args → fits_at test (slice_get types i) (get_or args i d) ≡ true
      → args_fault test j (drop i types) (drop i args) ≡ args_fault test (suc j) (drop (suc i) types) (drop (suc i) args)
  unfolding args_fault
  next_fits types [] i j d inside e = absurd (no_room i inside)
  next_fits [] (v ∷ vs) i j d inside e = absurd (Prim.cc)
  next_fits (t ∷ ts) (v ∷ vs) zero j d inside e = ap (λ (b : Bool). cond b (args_fault test (suc j) ts vs) (Some (fault refusal.BadArgs j))) e
  next_fits (t ∷ ts) (v ∷ vs) (suc i) j d inside e = next_fits ts vs i j d (omega (arith, inside)) e

  too_many : (ws : List Wire) (j k : ℕ) → k < length ws → args_fault test j [] (drop k ws) ≡ Some (fault refusal.BadArgs j)
  unfolding args_fault
  too_many [] j k h = absurd (no_room k h)
  too_many (w ∷ ws) j zero h = refl
  too_many (w ∷ ws) j (suc k) h = too_many ws j k (omega (arith, h))

  -- and one that doesn't ends it
  next_fails : (types : List Ty) (args : List Wire) (i j : ℕ) (d : Wire) → i < length args → fits_at test (slice_get types i) (get_or args i d) ≡ false
      → args_fault test j (drop i types) (drop i args) ≡ Some (fault refusal.BadArgs j)
  unfolding args_fault
  next_fails types [] i j d inside e = absurd (no_room i inside)
  next_fails [] (v ∷ vs) zero j d inside e = refl
  next_fails [] (v ∷ vs) (suc i) j d inside e = too_many vs j i (omega (arith, inside))
  next_fails (t ∷ ts) (v ∷ vs) zero j d inside e = ap (λ (b : Bool). cond b (args_fault test (suc j) ts vs) (Some (fault refusal.BadArgs j))) e
  next_fails (t ∷ ts) (v ∷ vs) (suc i) j d inside e = next_fails ts vs i j d (omega (arith, inside)) e

  -- at the end of the arguments, a type that is left has none
  some_left : (types : List Ty) (args : List Wire) (j : ℕ) → length args < length types → args_fault test j (drop (length args) types) (drop (length args) args) ≡ Some (fault refusal.BadArgs j)
  unfolding args_fault
  some_left [] args j h = absurd (no_room (length args) h)
  some_left (t ∷ ts) [] j h = refl
  some_left (t ∷ ts) (v ∷ vs) j h = some_left ts vs j (omega (arith, h))

  none_left : (types : List Ty) (args : List Wire) (j : ℕ) → length types ≤ length args → args_fault test j (drop (length args) types) (drop (length args) args) ≡ None
  unfolding args_fault
  none_left [] [] j h = refl
  none_left [] (v ∷ vs) j h = ap (λ (ws : List Wire). args_fault test j [] ws) (drop-length vs)
  none_left (t ∷ ts) [] j h = absurd (too_long (length ts) h)
    where
      too_long : (k : ℕ) → suc k ≤ 0 → ⊥
      too_long k l = omega arith
  none_left (t ∷ ts) (v ∷ vs) j h = none_left ts vs j (omega (arith, h))

  -- ---- the same, as the search has it

  pub fits_on : (types : List Ty) (args : List Wire) (i : ℕ) (d : Wire) (all : Option Fault) → i < length args → fits_at test (slice_get types i) (get_or args i d) ≡ true
      → args_fault test i (drop i types) (drop i args) ≡ all → args_fault test (i + 1) (drop (i + 1) types) (drop (i + 1) args) ≡ all
  fits_on types args i d all inside e so_far =
      let after : i + 1 ≡ suc i = omega arith in
      ap (λ (k : ℕ). args_fault test k (drop k types) (drop k args)) after ∙ sym (next_fits types args i i d inside e) ∙ so_far

  pub fails_here : (types : List Ty) (args : List Wire) (i : ℕ) (d : Wire) (all : Option Fault) → i < length args → fits_at test (slice_get types i) (get_or args i d) ≡ false
      → args_fault test i (drop i types) (drop i args) ≡ all → Some (fault refusal.BadArgs i) ≡ all
  fails_here types args i d all inside e so_far = sym (next_fails types args i i d inside e) ∙ so_far

  pub too_few : (types : List Ty) (args : List Wire) (i : ℕ) (all : Option Fault) → i ≤ length args → length args ≤ i → length args < length types
      → args_fault test i (drop i types) (drop i args) ≡ all → Some (fault refusal.BadArgs (length args)) ≡ all
  too_few types args i all within over fewer so_far =
      let same : length args ≡ i = omega (arith, within, over) in
      sym (some_left types args (length args) fewer) ∙ ap (λ (k : ℕ). args_fault test k (drop k types) (drop k args)) same ∙ so_far

  pub all_fit : (types : List Ty) (args : List Wire) (i : ℕ) (all : Option Fault) → i ≤ length args → length args ≤ i → length types ≤ length args
      → args_fault test i (drop i types) (drop i args) ≡ all → None ≡ all
  all_fit types args i all within over enough so_far =
      let same : length args ≡ i = omega (arith, within, over) in
      sym (none_left types args (length args) enough) ∙ ap (λ (k : ℕ). args_fault test k (drop k types) (drop k args)) same ∙ so_far

  -- ---- the same over parameters

  pub param_fits : (params : List Param) (args : List Wire) (i : ℕ) (d : Wire) (all : Option Fault) → i < length args → fits_at test (option_map type_of (slice_get params i)) (get_or args i d) ≡ true
      → args_fault test i (drop i (types_of params)) (drop i args) ≡ all → args_fault test (i + 1) (drop (i + 1) (types_of params)) (drop (i + 1) args) ≡ all
  param_fits params args i d all inside e so_far = fits_on (types_of params) args i d all inside (ap (λ (o : Option Ty). fits_at test o (get_or args i d)) (sym (type_at params i)) ∙ e) so_far

  pub param_fails : (params : List Param) (args : List Wire) (i : ℕ) (d : Wire) (all : Option Fault) → i < length args → fits_at test (option_map type_of (slice_get params i)) (get_or args i d) ≡ false
      → args_fault test i (drop i (types_of params)) (drop i args) ≡ all → Some (fault refusal.BadArgs i) ≡ all
  param_fails params args i d all inside e so_far = fails_here (types_of params) args i d all inside (ap (λ (o : Option Ty). fits_at test o (get_or args i d)) (sym (type_at params i)) ∙ e) so_far

  pub params_left : (params : List Param) (args : List Wire) (i : ℕ) (all : Option Fault) → i ≤ length args → length args ≤ i → length args < length params
      → args_fault test i (drop i (types_of params)) (drop i args) ≡ all → Some (fault refusal.BadArgs (length args)) ≡ all
  params_left params args i all within over fewer so_far = too_few (types_of params) args i all within over (rw (as_many params) fewer) so_far

  pub params_fit : (params : List Param) (args : List Wire) (i : ℕ) (all : Option Fault) → i ≤ length args → length args ≤ i → length params ≤ length args
      → args_fault test i (drop i (types_of params)) (drop i args) ≡ all → None ≡ all
  params_fit params args i all within over enough so_far = all_fit (types_of params) args i all within over (rw (as_many params) enough) so_far
