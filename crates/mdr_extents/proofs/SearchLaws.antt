-- Searches are exact, and extents lie in their views.
use Rattle.std.proofs.Common.{◌≡◌, ℕ, zero, suc, ◌+◌, ◌-◌, ◌<◌, ◌≤◌, Bool, true, false, Option, Some, None, refl, ap, subst, arith, le_refl}
use Rattle.std.specs.Prelude.{ℤ, pos, negsuc, nat_lt}
use Rattle.std.proofs.lemmas.Bool.{both_ways, ltb-true, ltb-false}
use Rattle.mdr_core.specs.declared.program.Program.{Program}
use Rattle.mdr_core.specs.declared.types.Ann.TheVariants.{Single, Array, Sentinel, NullTerm, Opaque}
use Rattle.mdr_core.specs.Layout.{chosen}
use Rattle.mdr_meaning.specs.declared.wire.WireView.{WireView}
use Rattle.mdr_model.specs.Memory.{Memory}
use Rattle.mdr_extents.specs.Extent.{Extent, Elements, Fails, first_of, is_last, is_zero, length_now, of_length, up_to}
use Rattle.mdr_extents.specs.Laws.{ExtentsAreInside, IsFirst, SearchesAreExact}

-- ---- searches

abbrev Tells : (ℕ → Bool) → (from count : ℕ) → Option ℕ → Type 0
Tells test from count None = (i : ℕ) → from ≤ i → i < from + count → test i ≡ true → ⊥
Tells test from count (Some n) = IsFirst test from count n

-- a number that passes isn't one that doesn't
later_than : (test : ℕ → Bool) (from i : ℕ) → test from ≡ false → test i ≡ true → from ≤ i → suc from ≤ i
later_than test from i out passes after =
    let other : (from ≡ i → ⊥) = λ e. both_ways (test i) (subst (λ x. test x ≡ false) e out) passes in
    omega (arith, after, other)

tells : (test : ℕ → Bool) (from count : ℕ) → Tells test from count (first_of test from count)
unfolding first_of
tells test from zero = λ i after inside h. omega (arith, after, inside)
tells test from (suc n) = of (test from) refl (first_of test (suc from) n) (tells test (suc from) n)
  where
    past : test from ≡ false → (o : Option ℕ) → Tells test (suc from) n o → Tells test from (suc n) o
    past out None later = λ i after inside h. later i (later_than test from i out h after) (omega (arith, inside)) h
    past out (Some k) later = record {
      after = omega (arith, later.after);
      inside = omega (arith, later.inside);
      holds = later.holds;
      least = λ i after h. later.least i (later_than test from i out h after) h;
    }

    of : (t : Bool) → test from ≡ t → (o : Option ℕ) → Tells test (suc from) n o → Tells test from (suc n) (chosen t (Some from) o)
    of true e o later = record { after = le_refl from; inside = omega arith; holds = e; least = λ i after h. after }
    of false e o later = past e o later

found_is : (test : ℕ → Bool) (from count n : ℕ) (o : Option ℕ) → Tells test from count o → IsFirst test from count n → o ≡ Some n
found_is test from count n None missed first = absurd (missed n first.after first.inside first.holds)
found_is test from count n (Some k) found first =
    let same : k ≡ n = omega (arith, found.least n first.after first.holds, first.least k found.after found.holds) in
    ap (λ x. Some x) same

missed_is : (test : ℕ → Bool) (from count : ℕ) (o : Option ℕ) → Tells test from count o → Tells test from count None → o ≡ None
missed_is test from count None missed none = refl
missed_is test from count (Some k) found none = absurd (none k found.after found.inside found.holds)

pub searches_are_exact : SearchesAreExact
searches_are_exact = record {
  found = λ test from count n. (λ e. subst (Tells test from count) e (tells test from count), λ first. found_is test from count n _ (tells test from count) first);
  missed = λ test from count. (λ e. subst (Tells test from count) e (tells test from count), λ none. missed_is test from count _ (tells test from count) none);
}

-- ---- extents

same_count : (k n : ℕ) → ◌≡◌ {A = Extent} (Elements k) (Elements n) → k ≡ n
same_count k n e = cc

not_failed : (n : ℕ) → ◌≡◌ {A = Extent} Fails (Elements n) → ⊥
not_failed n e = cc

searched : (test : ℕ → Bool) (index count n : ℕ) → index ≤ count → (o : Option ℕ) → Tells test index (count - index) o → up_to index o ≡ Elements n → index + n ≤ count
searched test index count n inside None missed e = absurd (not_failed n e)
searched test index count n inside (Some k) found e = let same = same_count _ n e in omega (arith, inside, found.after, found.inside, same)

single : (index count n : ℕ) → (t : Bool) → nat_lt index count ≡ t → index ≤ count → ◌≡◌ {A = Extent} (Elements (chosen t 1 0)) (Elements n) → index + n ≤ count
single index count n true less inside e = let same : 1 ≡ n = same_count 1 n e in omega (arith, inside, ltb-true index count less, same)
single index count n false less inside e = let same : 0 ≡ n = same_count 0 n e in omega (arith, inside, same)

long : (index count k n : ℕ) → (t : Bool) → nat_lt (count - index) k ≡ t → index ≤ count → ◌≡◌ {A = Extent} (chosen t Fails (Elements k)) (Elements n) → index + n ≤ count
long index count k n true less inside e = absurd (not_failed n e)
long index count k n false less inside e = let same : k ≡ n = same_count k n e in omega (arith, inside, ltb-false (count - index) k less, same)

lengthy : (program : Program) (m : Memory) (v : WireView) (z : ℤ) (n : ℕ) → v.index ≤ v.count → of_length program m v z ≡ Elements n → v.index + n ≤ v.count
lengthy program m v (pos k) n inside e = long v.index v.count k n _ refl inside e
lengthy program m v (negsuc k) n inside e = absurd (not_failed n e)

pub extents_are_inside : ExtentsAreInside
extents_are_inside program m v siblings Single n inside e = single v.index v.count n _ refl inside e
extents_are_inside program m v siblings (Array len) n inside e = lengthy program m v (length_now m siblings len) n inside e
extents_are_inside program m v siblings (Sentinel f) n inside e = searched (is_last program m v f) v.index v.count n inside _ (tells (is_last program m v f) v.index (v.count - v.index)) e
extents_are_inside program m v siblings NullTerm n inside e = searched (is_zero program m v) v.index v.count n inside _ (tells (is_zero program m v) v.index (v.count - v.index)) e
extents_are_inside program m v siblings Opaque n inside e = let same : 0 ≡ n = same_count 0 n e in omega (arith, inside, same)
