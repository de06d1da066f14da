-- Marks that tell of which nodes something holds, and chains of steps as paths of a table.
use Rattle.std.proofs.Common.{◌≡◌, ◌↔◌, ℕ, zero, suc, ◌+◌, ◌<◌, Bool, true, false, List, [], ◌∷◌, ◌++◌, length, get_or, set, replicate, refl, sym, ◌∙◌, ap, subst, arith, eqb, length-set, get_or-set_same, get_or-set_other, ◌⊎◌, inl, inr}
use Rattle.std.proofs.lemmas.Bool.{or_cases, both_ways, eqb-true, eq-eqb}
use Rattle.std.proofs.Math.ListN.{length-replicate}
use Rattle.mdr_paths.specs.Paths.{is_in, counted, Path, Rises}
use Rattle.mdr_paths.specs.Numbers.{numbers, graph, marked, marks_of, AreReached}
use Rattle.mdr_paths.specs.Marking.{marks_after, entered, Adds, Tells, TellsBelow, AreNodes}
use Rattle.mdr_paths.specs.Chains.{Chain, AreSteps}
use Rattle.mdr_paths.proofs.NodeLists.{none_in}
use Rattle.mdr_paths.proofs.MarkLaws.{marked_inside, in_marks, marks_rise, counts_inside, inside_counts, leads_is, none_marked, after_length, after_marked, after_kept, after_all, entered_from}

pub told_none : (n : ℕ) (P : ℕ → Type 0) (marks : List Bool) → marks ≡ replicate n false → TellsBelow n 0 P marks
told_none n P marks none = record {
  size = ap length none ∙ length-replicate n false;
  each = λ c. (λ h. absurd (both_ways _ (ap (λ m. marked m c) none ∙ none_marked n c) h), λ h. absurd (omega (arith, h.1)));
}

pub told_all : (n i : ℕ) (P : ℕ → Type 0) (marks : List Bool) → i ≡ n → TellsBelow n i P marks → Tells n P marks
told_all n i P marks e told = record { size = told.size; each = λ c. (λ h. let p = (told.each c).0 h in (p.0, omega (arith, p.1, e)), λ h. (told.each c).1 (h.0, omega (arith, h.1, e))) }

pub told_nodes : (n : ℕ) (P : ℕ → Type 0) (marks : List Bool) (nodes : List ℕ) → nodes ≡ marks_of marks → Tells n P marks → AreNodes n P nodes
told_nodes n P marks nodes is told = record {
  rises = subst (Rises numbers) (sym is) (marks_rise marks);
  exact = λ c. (λ h. (told.each c).0 (sym (in_marks marks c) ∙ ap (λ xs. is_in numbers xs c) (sym is) ∙ h), λ h. ap (λ xs. is_in numbers xs c) is ∙ in_marks marks c ∙ (told.each c).1 h);
}

module _ (n : ℕ) (Start : ℕ → Type 0) (Step : ℕ → ℕ → Type 0) (starts : List ℕ) (edges : List (List ℕ)) (are : AreSteps n Start Step starts edges) where
  below : (c : ℕ) → is_in numbers (counted (graph edges)) c ≡ true → c < n
  below c h = omega (arith, counts_inside edges c h, are.size)

  above : (c : ℕ) → c < n → is_in numbers (counted (graph edges)) c ≡ true
  above c h = inside_counts edges c (omega (arith, h, are.size))

  path_inside : (c : ℕ) → Path (graph edges) starts c → c < n
  path_inside _ (Path.Root c is_root ok) = below c ok
  path_inside _ (Path.Next d c path led ok) = below c ok

  chain_inside : (c : ℕ) → Chain Start Step c → c < n
  chain_inside _ (Chain.Begin c start) = are.start_inside c start
  chain_inside _ (Chain.Next d c chain step) = are.step_inside d c step

  chain_of : (c : ℕ) → Path (graph edges) starts c → Chain Start Step c
  chain_of _ (Path.Root c is_root ok) = Chain.Begin c ((are.begins c (below c ok)).0 is_root)
  chain_of _ (Path.Next d c path led ok) = Chain.Next d c (chain_of d path) ((are.goes d c (path_inside d path) (below c ok)).0 (sym (leads_is edges d c) ∙ led))

  path_of : (c : ℕ) → Chain Start Step c → Path (graph edges) starts c
  path_of _ (Chain.Begin c start) = let h = are.start_inside c start in Path.Root c ((are.begins c h).1 start) (above c h)
  path_of _ (Chain.Next d c chain step) =
      let h = are.step_inside d c step in
      Path.Next d c (path_of d chain) (leads_is edges d c ∙ (are.goes d c (chain_inside d chain) h).1 step) (above c h)

  -- the marks of a worklist are those of what chains lead to
  pub chains_told : (marks : List Bool) → AreReached edges starts marks → Tells n (Chain Start Step) marks
  chains_told marks reached = record {
    size = reached.size ∙ are.size;
    each = λ c. (λ h. let chain = chain_of c ((reached.paths c).0 h) in (chain, chain_inside c chain), λ h. (reached.paths c).1 (path_of c h.0));
  }

-- one more node is told of
pub told_set : (n i : ℕ) (P : ℕ → Type 0) (marks now : List Bool) (t : Bool) → i < n → now ≡ set marks i t → ((t ≡ true) ↔ P i) → TellsBelow n i P marks → TellsBelow n (i + 1) P now
told_set n i P marks now t inside is both told = record {
  size = ap length is ∙ length-set marks i t ∙ told.size;
  each = λ c. (λ h. of c (eqb c i) refl (sym (ap (λ m. marked m c) is) ∙ h), λ h. ap (λ m. marked m c) is ∙ back c (eqb c i) refl h.0 h.1);
}
  where
    here : (c : ℕ) → c ≡ i → marked (set marks i t) c ≡ t
    here c same = ap (λ x. marked (set marks i t) x) same ∙ get_or-set_same marks i t false (omega (arith, told.size))

    of : (c : ℕ) (b : Bool) → eqb c i ≡ b → marked (set marks i t) c ≡ true → P c × (c < i + 1)
    of c true e h = let same : c ≡ i = eqb-true c i e in (subst P (sym same) (both.0 (sym (here c same) ∙ h)), omega arith)
    of c false e h =
        let p = (told.each c).0 (sym (get_or-set_other marks i c t false (λ s. both_ways _ e (eq-eqb c i s))) ∙ h) in
        (p.0, omega (arith, p.1))

    back : (c : ℕ) (b : Bool) → eqb c i ≡ b → P c → c < i + 1 → marked (set marks i t) c ≡ true
    back c true e p h = let same : c ≡ i = eqb-true c i e in here c same ∙ both.1 (subst P same p)
    back c false e p h =
        let differ : c ≡ i → ⊥ = λ s. both_ways _ e (eq-eqb c i s) in
        get_or-set_other marks i c t false differ ∙ (told.each c).1 (p, omega (arith, differ))

-- a row is added to a table
pub rows_more : (P : ℕ → List ℕ → Type 0) (rows now : List (List ℕ)) (row : List ℕ) (i : ℕ) → length rows ≡ i → now ≡ rows ++ row ∷ [] → P i row
    → ((f : ℕ) → f < i → P f (get_or rows f [])) → (f : ℕ) → f < i + 1 → P f (get_or now f [])
rows_more P rows now row i size is here before f h = subst (λ xs. P f (get_or xs f [])) (sym is) (of (eqb f i) refl)
  where
    of : (t : Bool) → eqb f i ≡ t → P f (get_or (rows ++ row ∷ []) f [])
    of true e = let same : f ≡ length rows = eqb-true f i e ∙ sym size in subst (P f) (sym (ap (λ x. get_or (rows ++ row ∷ []) x []) same ∙ last rows)) (subst (λ x. P x row) (sym (eqb-true f i e)) here)
      where
        last : (xs : List (List ℕ)) → get_or (xs ++ row ∷ []) (length xs) [] ≡ row
        last [] = refl
        last (x ∷ xs) = last xs
    of false e = let inside : f < length rows = omega (arith, λ (s : f ≡ i). both_ways _ e (eq-eqb f i s)) in subst (P f) (sym (first rows f inside)) (before f (omega (arith, inside, size)))
      where
        first : (xs : List (List ℕ)) (j : ℕ) → j < length xs → get_or (xs ++ row ∷ []) j [] ≡ get_or xs j []
        first [] j k = absurd (omega arith)
        first (x ∷ xs) zero k = refl
        first (x ∷ xs) (suc j) k = first xs j (omega arith)

pub adds_after : (marks : List Bool) (nodes : List ℕ) (now : List Bool) → now ≡ marks_after marks nodes → Adds marks nodes now
adds_after marks nodes now is = record {
  size = ap length is ∙ after_length nodes marks;
  each = λ c. (λ h. of c (sym (ap (λ m. marked m c) is) ∙ h), λ h. ap (λ m. marked m c) is ∙ back c h);
}
  where
    of : (c : ℕ) → marked (marks_after marks nodes) c ≡ true → (marked marks c ≡ true) ⊎ ((is_in numbers nodes c ≡ true) × (c < length marks))
    of c h = by (or_cases _ _ (sym (after_marked nodes marks c) ∙ h))
      where
        by : (marked marks c ≡ true) ⊎ (is_in numbers (entered marks nodes) c ≡ true) → (marked marks c ≡ true) ⊎ ((is_in numbers nodes c ≡ true) × (c < length marks))
        by (inl k) = inl k
        by (inr k) = inr (entered_from nodes marks c k, omega (arith, marked_inside (marks_after marks nodes) c h, after_length nodes marks))

    back : (c : ℕ) → (marked marks c ≡ true) ⊎ ((is_in numbers nodes c ≡ true) × (c < length marks)) → marked (marks_after marks nodes) c ≡ true
    back c (inl k) = after_kept nodes marks c k
    back c (inr k) = after_all nodes marks c k.0 k.1

pub adds_nothing : (marks now : List Bool) → now ≡ marks → Adds marks [] now
adds_nothing marks now is = record {
  size = ap length is;
  each = λ c. (λ h. inl (sym (ap (λ m. marked m c) is) ∙ h), λ h. ap (λ m. marked m c) is ∙ back c h);
}
  where
    back : (c : ℕ) → (marked marks c ≡ true) ⊎ ((is_in numbers [] c ≡ true) × (c < length marks)) → marked marks c ≡ true
    back c (inl k) = k
    back c (inr k) = absurd (none_in numbers c k.0)
