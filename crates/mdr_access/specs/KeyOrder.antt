-- believed
-- Keys in their order: globals, fields, elements, each by their numbers.
use Rattle.std.specs.Prelude.{◌≡◌, ◌==◌, ℕ, ◌<◌, ◌⊎◌, Bool, true, false, ◌&&◌}
use Rattle.std.proofs.Common.{refl, sym, ◌∙◌, ap, subst, inl, inr}
use Rattle.std.proofs.Math.Nat.{lt_irrefl, lt_trans}
use Rattle.std.proofs.lemmas.Bool.{both_ways, eqb-true, eq-eqb, and_parts, and_from}
use Rattle.mdr_core.specs.declared.plan.Key.{Key}
use Rattle.mdr_core.specs.declared.plan.Key.TheVariants as key
use Rattle.mdr_paths.specs.Paths.{Nodes}

abbrev pub same_key : Key → Key → Bool
same_key (key.Global g) (key.Global h) = g == h
same_key (key.Global g) (key.Field s f) = false
same_key (key.Global g) (key.Elem t) = false
same_key (key.Field s f) (key.Global g) = false
same_key (key.Field s f) (key.Field t h) = (s == t) && (f == h)
same_key (key.Field s f) (key.Elem t) = false
same_key (key.Elem t) (key.Global g) = false
same_key (key.Elem t) (key.Field s f) = false
same_key (key.Elem t) (key.Elem u) = t == u

abbrev pub IsBefore : Key → Key → Type 0
IsBefore (key.Global g) (key.Global h) = g < h
IsBefore (key.Global g) (key.Field s f) = Unit {0}
IsBefore (key.Global g) (key.Elem t) = Unit {0}
IsBefore (key.Field s f) (key.Global g) = ⊥
IsBefore (key.Field s f) (key.Field t h) = (s < t) ⊎ ((s ≡ t) × (f < h))
IsBefore (key.Field s f) (key.Elem t) = Unit {0}
IsBefore (key.Elem t) (key.Global g) = ⊥
IsBefore (key.Elem t) (key.Field s f) = ⊥
IsBefore (key.Elem t) (key.Elem u) = t < u

pub same_is : (a b : Key) → same_key a b ≡ true → a ≡ b
same_is (key.Global g) (key.Global h) e = ap key.Global (eqb-true g h e)
same_is (key.Field s f) (key.Field t h) e = let p = and_parts (s == t) (f == h) e in λ i. key.Field (eqb-true s t p.0 i) (eqb-true f h p.1 i)
same_is (key.Elem t) (key.Elem u) e = ap key.Elem (eqb-true t u e)
same_is (key.Global g) (key.Field s f) e = absurd (both_ways false refl e)
same_is (key.Global g) (key.Elem t) e = absurd (both_ways false refl e)
same_is (key.Field s f) (key.Global g) e = absurd (both_ways false refl e)
same_is (key.Field s f) (key.Elem t) e = absurd (both_ways false refl e)
same_is (key.Elem t) (key.Global g) e = absurd (both_ways false refl e)
same_is (key.Elem t) (key.Field s f) e = absurd (both_ways false refl e)

pub same_itself : (a : Key) → same_key a a ≡ true
same_itself (key.Global g) = eq-eqb g g refl
same_itself (key.Field s f) = and_from _ _ (eq-eqb s s refl) (eq-eqb f f refl)
same_itself (key.Elem t) = eq-eqb t t refl

fields_apart : (s f t h : ℕ) → (s < t) ⊎ ((s ≡ t) × (f < h)) → (t < s) ⊎ ((t ≡ s) × (h < f)) → ⊥
fields_apart s f t h (inl p) (inl q) = lt_irrefl s (lt_trans p q)
fields_apart s f t h (inl p) (inr q) = lt_irrefl s (subst (λ x. s < x) q.0 p)
fields_apart s f t h (inr p) (inl q) = lt_irrefl t (subst (λ x. t < x) p.0 q)
fields_apart s f t h (inr p) (inr q) = lt_irrefl f (lt_trans p.1 q.1)

pub keys_apart : (a b : Key) → IsBefore a b → IsBefore b a → ⊥
keys_apart (key.Global g) (key.Global h) p q = lt_irrefl g (lt_trans p q)
keys_apart (key.Global g) (key.Field s f) p q = q
keys_apart (key.Global g) (key.Elem t) p q = q
keys_apart (key.Field s f) (key.Global g) p q = p
keys_apart (key.Field s f) (key.Field t h) p q = fields_apart s f t h p q
keys_apart (key.Field s f) (key.Elem t) p q = q
keys_apart (key.Elem t) (key.Global g) p q = p
keys_apart (key.Elem t) (key.Field s f) p q = p
keys_apart (key.Elem t) (key.Elem u) p q = lt_irrefl t (lt_trans p q)

fields_through : (s f t h u j : ℕ) → (s < t) ⊎ ((s ≡ t) × (f < h)) → (t < u) ⊎ ((t ≡ u) × (h < j)) → (s < u) ⊎ ((s ≡ u) × (f < j))
fields_through s f t h u j (inl p) (inl q) = inl (lt_trans p q)
fields_through s f t h u j (inl p) (inr q) = inl (subst (λ x. s < x) q.0 p)
fields_through s f t h u j (inr p) (inl q) = inl (subst (λ x. x < u) (sym p.0) q)
fields_through s f t h u j (inr p) (inr q) = inr (p.0 ∙ q.0, lt_trans p.1 q.1)

pub keys_through : (a b c : Key) → IsBefore a b → IsBefore b c → IsBefore a c
keys_through (key.Global g) (key.Global h) (key.Global i) p q = lt_trans p q
keys_through (key.Global g) (key.Global h) (key.Field s f) p q = tt
keys_through (key.Global g) (key.Global h) (key.Elem t) p q = tt
keys_through (key.Global g) (key.Field s f) (key.Global i) p q = absurd q
keys_through (key.Global g) (key.Field s f) (key.Field t h) p q = tt
keys_through (key.Global g) (key.Field s f) (key.Elem t) p q = tt
keys_through (key.Global g) (key.Elem t) (key.Global i) p q = absurd q
keys_through (key.Global g) (key.Elem t) (key.Field s f) p q = absurd q
keys_through (key.Global g) (key.Elem t) (key.Elem u) p q = tt
keys_through (key.Field s f) (key.Global g) c p q = absurd p
keys_through (key.Field s f) (key.Field t h) (key.Global i) p q = absurd q
keys_through (key.Field s f) (key.Field t h) (key.Field u j) p q = fields_through s f t h u j p q
keys_through (key.Field s f) (key.Field t h) (key.Elem u) p q = tt
keys_through (key.Field s f) (key.Elem t) (key.Global g) p q = absurd q
keys_through (key.Field s f) (key.Elem t) (key.Field u j) p q = absurd q
keys_through (key.Field s f) (key.Elem t) (key.Elem u) p q = tt
keys_through (key.Elem t) (key.Global g) c p q = absurd p
keys_through (key.Elem t) (key.Field s f) c p q = absurd p
keys_through (key.Elem t) (key.Elem u) (key.Global g) p q = absurd q
keys_through (key.Elem t) (key.Elem u) (key.Field s f) p q = absurd q
keys_through (key.Elem t) (key.Elem u) (key.Elem v) p q = lt_trans p q

-- keys as nodes of graphs are: what is asked of a list that rises, and whether it has a key
abbrev pub keys : Nodes Key
keys = record { same = same_key; before = IsBefore; equal = same_is; itself = same_itself; apart = keys_apart; through = keys_through }
