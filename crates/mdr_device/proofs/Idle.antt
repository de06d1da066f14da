-- Count-downs that are all zero.
use Rattle.std.proofs.Common.{◌≡◌, ℕ, Bool, true, false, ◌-◌, ◌+◌, ◌&&◌, List, [], ◌∷◌, map, refl, sym, ◌∙◌}
use Rattle.std.specs.List.{list_all}
use Rattle.std.proofs.lemmas.Bool.Decides.{Decides-eqb}
use Rattle.mdr_device.specs.declared.rule.Rule.{Rule}
use Rattle.mdr_device.specs.declared.state.State.{State}
use Rattle.mdr_device.specs.Rules.{is_zero, counted, rung}

split : (a b : Bool) → (a && b) ≡ true → (a ≡ true) × (b ≡ true)
split true b h = (refl, h)
split false b h = let n : false ≡ true = h in absurd (Prim.cc)

same_counts : (xs : List ℕ) → list_all is_zero xs ≡ true → map (λ n. n - 1) xs ≡ xs
same_counts [] h = refl
same_counts (x ∷ xs) h =
    let s = split (is_zero x) (list_all is_zero xs) h in
    let z : x ≡ 0 = (Decides-eqb x 0).0 s.0 in
    rw (z, same_counts xs s.1) refl

none_rings : (c : ℕ) (xs : List ℕ) (rules : List Rule) (s : State) → list_all is_zero xs ≡ true → rung c xs rules s ≡ s
none_rings c [] rules s h = refl
none_rings c (x ∷ xs) rules s h =
    let t = split (is_zero x) (list_all is_zero xs) h in
    let z : x ≡ 0 = (Decides-eqb x 0).0 t.0 in
    rw z (none_rings (c + 1) xs rules s t.1)

pub idle_counted : (rules : List Rule) (s : State) → list_all is_zero s.counts ≡ true → s ≡ counted rules s
idle_counted rules s h = sym (none_rings 0 s.counts rules (record s { counts = map (λ n. n - 1) s.counts }) h ∙ (λ i. record s { counts = same_counts s.counts h i }))
