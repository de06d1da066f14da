-- Proofs of the laws of keys.
use Rattle.std.proofs.Common.{◌≡◌, ℕ, zero, suc, ◌<◌, true, false, List, [], ◌∷◌, length, Option, Some, None, slice_get, refl, sym, ◌∙◌, ap, subst, arith}
use Rattle.std.specs.Prelude.{IsTrue}
use Rattle.std.proofs.lemmas.Bool.{both_ways}
use Rattle.mdr_core.specs.declared.program.Program.{Program}
use Rattle.mdr_core.specs.declared.types.Ty.TheVariants as type
use Rattle.mdr_core.specs.declared.types.Ty.TheVariants.{outs-Lock}
use Rattle.mdr_core.specs.declared.plan.Key.{Key}
use Rattle.mdr_core.specs.declared.plan.Half.{Half}
use Rattle.mdr_core.specs.declared.plan.Half.TheVariants.{Kernel, User}
use Rattle.mdr_core.specs.declared.plan.Plan.{Plan}
use Rattle.mdr_core.specs.Suited.{IsSuited, is_key, is_no_lock, key_type}
use Rattle.mdr_paths.specs.Chains.{Chain}
use Rattle.mdr_slice.specs.declared.halves.Halves.{Halves}
use Rattle.mdr_slice.proofs.GraphLaws.{some_inside}
use Rattle.mdr_paths.specs.Paths.{is_in}
use Rattle.mdr_access.specs.KeyOrder.{keys}
use Rattle.mdr_access.proofs.OwnedLaws.{listed}
use Rattle.mdr_access.specs.Keys.{CallsUser, LeadsTo, HasEach, IsPlan, IsTouched}
use Rattle.mdr_access.specs.Laws.{KeysAreRight}

-- a call before a list of calls
before : (program : Program) (halves : List Half) (t u f : ℕ) → CallsUser program halves t u → LeadsTo program halves u f → LeadsTo program halves t f
before program halves t u _ call (Chain.Begin c start) = Chain.Next t c (Chain.Begin t refl) (subst (CallsUser program halves t) (sym start) call)
before program halves t u _ call (Chain.Next d c chain step) = Chain.Next d c (before program halves t u d call chain) step

grow : (program : Program) (halves : List Half) (t u : ℕ) (k : Key) → CallsUser program halves t u → IsTouched program halves u k → IsTouched program halves t k
grow program halves t u k call was = record {
  func = was.func;
  reached = before program halves t u was.func call was.reached;
  own = was.own;
  names = was.names;
  form = was.form;
  one = was.one;
  has = was.has;
  kept = was.kept;
}

lock_is_none : is_no_lock (Some type.Lock) ≡ false
lock_is_none = rw outs-Lock refl

no_lock : (program : Program) (halves : List Half) (t : ℕ) (k : Key) → IsTouched program halves t k → key_type program k ≡ Some type.Lock → ⊥
unfolding is_key
no_lock program halves t k touched e = both_ways _ (ap is_no_lock e ∙ lock_is_none) touched.kept

half_or : (h : Half) → (h ≡ Kernel → ⊥) → h ≡ User
half_or Kernel differ = absurd (differ refl)
half_or User differ = refl

listed_in : (xs : List Key) (k : Key) (i : ℕ) → slice_get xs i ≡ Some k → is_in keys xs k ≡ true
unfolding is_in
listed_in xs k i e = listed xs k i e

suits : (program : Program) (halves : Halves) (plan : Plan) → HasEach program halves → IsPlan program halves plan → IsSuited plan program
suits program halves plan each is = record {
  types = is.types;
  names = is.names;
  halves = ap length is.halves_are ∙ each.halves_size;
  roots = ap length is.roots ∙ each.roots_size;
  down = ap length is.down ∙ each.down_size;
  lists = is.lists;
  kernel = λ f ks h e. is.kernel f ks (ap (λ xs. slice_get xs f) (sym is.halves_are) ∙ h) e;
  keys = λ f i ks k e at. of f i ks k e at (slice_get halves.halves f) refl;
}
  where
    there : (f : ℕ) (ks : List Key) → slice_get plan.keys f ≡ Some ks → f < length halves.halves
    there f ks e = omega (arith, some_inside plan.keys f ks e, is.lists, each.halves_size)

    none : (xs : List Half) (f : ℕ) → f < length xs → slice_get xs f ≡ None → ⊥
    none [] f inside e = absurd (omega arith)
    none (x ∷ xs) zero inside e = let no : Some x ≡ None = e in absurd cc
    none (x ∷ xs) (suc f) inside e = none xs f (omega arith) e

    in_of : (ks : List Key) (k : Key) (i : ℕ) → slice_get ks i ≡ Some k → is_in keys ks k ≡ true
    in_of ks k i at = listed_in ks k i at

    nothing : (i : ℕ) (k : Key) → slice_get [] i ≡ Some k → ⊥
    nothing i k e = let no : None ≡ Some k = e in absurd cc

    of : (f i : ℕ) (ks : List Key) (k : Key) → slice_get plan.keys f ≡ Some ks → slice_get ks i ≡ Some k → (h : Option Half) → slice_get halves.halves f ≡ h → IsTrue (is_key program k)
    of f i ks k e at None h = absurd (none halves.halves f (there f ks e) h)
    of f i ks k e at (Some Kernel) h = absurd (nothing i k (ap (λ xs. slice_get xs i) (sym (is.kernel f ks h e)) ∙ at))
    of f i ks k e at (Some User) h = (((is.user f ks h e).exact k).0 (in_of ks k i at)).kept

pub keys_are_right : KeysAreRight
keys_are_right = record { grow = grow; no_lock = no_lock; suits = suits }
