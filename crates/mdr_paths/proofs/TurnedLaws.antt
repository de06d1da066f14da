-- Laws of turned edges, and of nodes that lead to each other.
use Rattle.std.proofs.Common.{◌≡◌, ◌⊎◌, inl, inr, ℕ, zero, suc, ◌+◌, ◌<◌, Bool, true, false, List, [], ◌∷◌, ◌++◌, length, map, get_or, set, replicate, refl, sym, ◌∙◌, ap, subst, arith, eqb, length-set, get_or-set_same, get_or-set_other}
use Rattle.std.proofs.lemmas.Bool.{both_ways, or_cases, or_left, or_right, eqb-true, eq-eqb}
use Rattle.std.proofs.lemmas.List.{map-set}
use Rattle.std.proofs.Math.ListN.{length-replicate}
use Rattle.mdr_paths.specs.Paths.{is_in, counted, Path}
use Rattle.mdr_paths.specs.Numbers.{numbers, graph, marked, marks_of, AreReached}
use Rattle.mdr_paths.specs.Turned.{AreTurned, AreTurnedBelow, with_edge, with_edges, LeadToEachOther}
use Rattle.mdr_paths.proofs.NodeLists.{none_in, is_in-head, is_in-tail, is_in-cases, in_both}
use Rattle.mdr_paths.proofs.ReachLaws.{path_set_is}
use Rattle.mdr_paths.proofs.MarkLaws.{at_map, counts_inside, inside_counts, leads_is, graph_rises, in_marks, marks_rise}

-- ---- rows

none_there : (n c d : ℕ) → is_in numbers (get_or (replicate n []) c []) d ≡ true → ⊥
none_there zero c d h = none_in numbers d h
none_there (suc n) zero d h = none_in numbers d h
none_there (suc n) (suc c) d h = none_there n c d h

inside_row : (rows : List (List ℕ)) (c d : ℕ) → is_in numbers (get_or rows c []) d ≡ true → c < length rows
inside_row [] c d h = absurd (none_in numbers d h)
inside_row (row ∷ rows) zero d h = omega arith
inside_row (row ∷ rows) (suc c) d h = omega (arith, inside_row rows c d h)

pub edge_added : {A : Type 0} (f : A → List ℕ) (rows : List A) (from to : ℕ) (was now : A) → to < length rows → was ≡ get_or rows to was → f now ≡ f was ++ from ∷ [] → map f (set rows to now) ≡ with_edge (map f rows) from to
edge_added f rows from to was now inside at is = map-set f rows to now ∙ ap (set (map f rows) to) (is ∙ ap (λ xs. xs ++ from ∷ []) (sym (at_map f rows to was inside at)))

-- ---- one more edge

one_kept : (rows : List (List ℕ)) (from to c d : ℕ) → is_in numbers (get_or rows c []) d ≡ true → is_in numbers (get_or (with_edge rows from to) c []) d ≡ true
one_kept rows from to c d h = of (eqb c to) refl
  where
    of : (t : Bool) → eqb c to ≡ t → is_in numbers (get_or (with_edge rows from to) c []) d ≡ true
    of false e = ap (λ xs. is_in numbers xs d) (get_or-set_other rows to c (get_or rows to [] ++ from ∷ []) [] (λ s. both_ways _ e (eq-eqb c to s))) ∙ h
    of true e =
        let same : c ≡ to = eqb-true c to e in
        ap (λ x. is_in numbers (get_or (with_edge rows from to) x []) d) same
        ∙ ap (λ xs. is_in numbers xs d) (get_or-set_same rows to (get_or rows to [] ++ from ∷ []) [] (subst (λ x. x < length rows) same (inside_row rows c d h)))
        ∙ in_both numbers (get_or rows to []) (from ∷ []) d
        ∙ or_left _ _ (ap (λ x. is_in numbers (get_or rows x []) d) (sym same) ∙ h)

one_there : (rows : List (List ℕ)) (from to : ℕ) → to < length rows → is_in numbers (get_or (with_edge rows from to) to []) from ≡ true
one_there rows from to inside =
    ap (λ xs. is_in numbers xs from) (get_or-set_same rows to (get_or rows to [] ++ from ∷ []) [] inside)
    ∙ in_both numbers (get_or rows to []) (from ∷ []) from
    ∙ or_right _ _ (is_in-head numbers from [])

one_new : (rows : List (List ℕ)) (from to c d : ℕ) → is_in numbers (get_or (with_edge rows from to) c []) d ≡ true → (is_in numbers (get_or rows c []) d ≡ true) ⊎ ((d ≡ from) × (c ≡ to))
one_new rows from to c d h = of (eqb c to) refl
  where
    of : (t : Bool) → eqb c to ≡ t → (is_in numbers (get_or rows c []) d ≡ true) ⊎ ((d ≡ from) × (c ≡ to))
    of false e = inl (ap (λ xs. is_in numbers xs d) (sym (get_or-set_other rows to c (get_or rows to [] ++ from ∷ []) [] (λ s. both_ways _ e (eq-eqb c to s)))) ∙ h)
    of true e = by (or_cases _ _ (sym (in_both numbers (get_or rows to []) (from ∷ []) d) ∙ there))
      where
        same : c ≡ to
        same = eqb-true c to e

        inside : to < length rows
        inside = let k : c < length (with_edge rows from to) = inside_row (with_edge rows from to) c d h in omega (arith, k, same, length-set rows to (get_or rows to [] ++ from ∷ []))

        there : is_in numbers (get_or rows to [] ++ from ∷ []) d ≡ true
        there = ap (λ xs. is_in numbers xs d) (sym (get_or-set_same rows to (get_or rows to [] ++ from ∷ []) [] inside)) ∙ ap (λ x. is_in numbers (get_or (with_edge rows from to) x []) d) (sym same) ∙ h

        last : (d ≡ from) ⊎ (is_in numbers [] d ≡ true) → (is_in numbers (get_or rows c []) d ≡ true) ⊎ ((d ≡ from) × (c ≡ to))
        last (inl s) = inr (s, same)
        last (inr n) = absurd (none_in numbers d n)

        by : (is_in numbers (get_or rows to []) d ≡ true) ⊎ (is_in numbers (from ∷ []) d ≡ true) → (is_in numbers (get_or rows c []) d ≡ true) ⊎ ((d ≡ from) × (c ≡ to))
        by (inl k) = inl (ap (λ x. is_in numbers (get_or rows x []) d) same ∙ k)
        by (inr k) = last (is_in-cases numbers from [] d k)

-- ---- more of them

more_length : (nodes : List ℕ) (rows : List (List ℕ)) (from : ℕ) → length (with_edges rows from nodes) ≡ length rows
more_length [] rows from = refl
more_length (to ∷ nodes) rows from = more_length nodes (with_edge rows from to) from ∙ length-set rows to (get_or rows to [] ++ from ∷ [])

more_kept : (nodes : List ℕ) (rows : List (List ℕ)) (from c d : ℕ) → is_in numbers (get_or rows c []) d ≡ true → is_in numbers (get_or (with_edges rows from nodes) c []) d ≡ true
more_kept [] rows from c d h = h
more_kept (to ∷ nodes) rows from c d h = more_kept nodes (with_edge rows from to) from c d (one_kept rows from to c d h)

more_there : (nodes : List ℕ) (rows : List (List ℕ)) (from c : ℕ) → is_in numbers nodes c ≡ true → c < length rows → is_in numbers (get_or (with_edges rows from nodes) c []) from ≡ true
more_there [] rows from c h inside = absurd (none_in numbers c h)
more_there (to ∷ nodes) rows from c h inside = of (is_in-cases numbers to nodes c h) (λ j. more_there nodes (with_edge rows from to) from c j (omega (arith, inside, length-set rows to (get_or rows to [] ++ from ∷ []))))
  where
    of : (c ≡ to) ⊎ (is_in numbers nodes c ≡ true) → (is_in numbers nodes c ≡ true → is_in numbers (get_or (with_edges (with_edge rows from to) from nodes) c []) from ≡ true)
        → is_in numbers (get_or (with_edges (with_edge rows from to) from nodes) c []) from ≡ true
    of (inr j) later = later j
    of (inl s) later = more_kept nodes (with_edge rows from to) from c from (subst (λ x. is_in numbers (get_or (with_edge rows from to) x []) from ≡ true) (sym s) (one_there rows from to (subst (λ x. x < length rows) s inside)))

more_new : (nodes : List ℕ) (rows : List (List ℕ)) (from c d : ℕ) → is_in numbers (get_or (with_edges rows from nodes) c []) d ≡ true → (is_in numbers (get_or rows c []) d ≡ true) ⊎ ((d ≡ from) × (is_in numbers nodes c ≡ true))
more_new [] rows from c d h = inl h
more_new (to ∷ nodes) rows from c d h = of (more_new nodes (with_edge rows from to) from c d h)
  where
    first : (is_in numbers (get_or rows c []) d ≡ true) ⊎ ((d ≡ from) × (c ≡ to)) → (is_in numbers (get_or rows c []) d ≡ true) ⊎ ((d ≡ from) × (is_in numbers (to ∷ nodes) c ≡ true))
    first (inl k) = inl k
    first (inr p) = inr (p.0, subst (λ x. is_in numbers (x ∷ nodes) c ≡ true) p.1 (is_in-head numbers c nodes))

    of : (is_in numbers (get_or (with_edge rows from to) c []) d ≡ true) ⊎ ((d ≡ from) × (is_in numbers nodes c ≡ true)) → (is_in numbers (get_or rows c []) d ≡ true) ⊎ ((d ≡ from) × (is_in numbers (to ∷ nodes) c ≡ true))
    of (inl k) = first (one_new rows from to c d k)
    of (inr p) = inr (p.0, is_in-tail numbers to nodes c p.1)

-- ---- all of them

pub turned_none : (edges rows : List (List ℕ)) (n : ℕ) → rows ≡ replicate n [] → n ≡ length edges → AreTurnedBelow edges 0 rows
turned_none edges rows n none is = record {
  size = ap length none ∙ length-replicate n [] ∙ is;
  each = λ d c. (λ h. absurd (none_there n c d (ap (λ xs. is_in numbers (get_or xs c []) d) (sym none) ∙ h)), λ h. absurd (omega (arith, h.2)));
}

pub turned_more : (edges rows now : List (List ℕ)) (i : ℕ) → now ≡ with_edges rows i (get_or edges i []) → AreTurnedBelow edges i rows → AreTurnedBelow edges (i + 1) now
turned_more edges rows now i is before = record {
  size = ap length is ∙ more_length (get_or edges i []) rows i ∙ before.size;
  each = λ d c. (λ h. of d c (inside d c h) (more_new (get_or edges i []) rows i c d (ap (λ xs. is_in numbers (get_or xs c []) d) (sym is) ∙ h)), λ h. ap (λ xs. is_in numbers (get_or xs c []) d) is ∙ back d c (eqb d i) refl h.0 h.1 h.2);
}
  where
    inside : (d c : ℕ) → is_in numbers (get_or now c []) d ≡ true → c < length edges
    inside d c h = let k : c < length now = inside_row now c d h in omega (arith, k, ap length is, more_length (get_or edges i []) rows i, before.size)

    of : (d c : ℕ) → c < length edges → (is_in numbers (get_or rows c []) d ≡ true) ⊎ ((d ≡ i) × (is_in numbers (get_or edges i []) c ≡ true)) → (is_in numbers (get_or edges d []) c ≡ true) × (c < length edges) × (d < i + 1)
    of d c low (inl k) = let p = (before.each d c).0 k in (p.0, low, omega (arith, p.2))
    of d c low (inr p) = (ap (λ x. is_in numbers (get_or edges x []) c) p.0 ∙ p.1, low, omega (arith, p.0))

    back : (d c : ℕ) (t : Bool) → eqb d i ≡ t → is_in numbers (get_or edges d []) c ≡ true → c < length edges → d < i + 1 → is_in numbers (get_or (with_edges rows i (get_or edges i [])) c []) d ≡ true
    back d c false e h low below = more_kept (get_or edges i []) rows i c d ((before.each d c).1 (h, low, omega (arith, below, λ (s : d ≡ i). both_ways _ e (eq-eqb d i s))))
    back d c true e h low below =
        let same : d ≡ i = eqb-true d i e in
        ap (λ x. is_in numbers (get_or (with_edges rows i (get_or edges i [])) c []) x) same
        ∙ more_there (get_or edges i []) rows i c (ap (λ x. is_in numbers (get_or edges x []) c) (sym same) ∙ h) (omega (arith, low, before.size))

pub turned_step : {A : Type 0} (f : A → List ℕ) (edges : List A) (rows now : List (List ℕ)) (nodes : List ℕ) (i : ℕ) (row : A) → i < length edges → row ≡ get_or edges i row → nodes ≡ f row → now ≡ with_edges rows i nodes → AreTurnedBelow (map f edges) i rows
    → AreTurnedBelow (map f edges) (i + 1) now
turned_step f edges rows now nodes i row inside at are is = turned_more (map f edges) rows now i (is ∙ ap (with_edges rows i) (are ∙ sym (at_map f edges i row inside at)))

pub turned_all : (edges turned : List (List ℕ)) (n : ℕ) → n ≡ length edges → AreTurnedBelow edges n turned → AreTurned edges turned
turned_all edges turned n is below = record {
  size = below.size;
  each = λ d c. (λ h. let p = (below.each d c).0 h in (p.0, p.1), λ h. (below.each d c).1 (h.0, h.1, omega (arith, is, inside_row edges d c h.0)));
}

-- ---- paths

-- a path, and one from where it leads
pub joined : (edges : List (List ℕ)) (roots : List ℕ) (b c : ℕ) → Path (graph edges) roots b → Path (graph edges) (b ∷ []) c → Path (graph edges) roots c
joined edges roots b _ first (Path.Root c is_root ok) = here (is_in-cases numbers b [] c is_root)
  where
    here : (c ≡ b) ⊎ (is_in numbers [] c ≡ true) → Path (graph edges) roots c
    here (inl e) = subst (Path (graph edges) roots) (sym e) first
    here (inr n) = absurd (none_in numbers c n)
joined edges roots b _ first (Path.Next d c path led ok) = Path.Next d c (joined edges roots b d first path) led ok

-- one edge
one_edge : (edges : List (List ℕ)) (b c : ℕ) → is_in numbers (get_or edges b []) c ≡ true → c < length edges → Path (graph edges) (b ∷ []) c
one_edge edges b c h inside =
    Path.Next b c (Path.Root b (is_in-head numbers b []) (inside_counts edges b (inside_row edges b c h))) (leads_is edges b c ∙ h) (inside_counts edges c inside)

-- a path over turned edges is one the other way
pub turned_path : (edges turned : List (List ℕ)) → AreTurned edges turned → (t u : ℕ) → Path (graph turned) (t ∷ []) u → Path (graph edges) (u ∷ []) t
turned_path edges turned are t _ (Path.Root u is_root ok) = here (is_in-cases numbers t [] u is_root)
  where
    here : (u ≡ t) ⊎ (is_in numbers [] u ≡ true) → Path (graph edges) (u ∷ []) t
    here (inl e) = subst (λ x. Path (graph edges) (x ∷ []) t) (sym e) (Path.Root t (is_in-head numbers t []) (subst (λ x. is_in numbers (counted (graph edges)) x ≡ true) e (inside_counts edges u (omega (arith, counts_inside turned u ok, are.size)))))
    here (inr n) = absurd (none_in numbers u n)
turned_path edges turned are t _ (Path.Next d u path led ok) =
    let p = (are.each u d).0 (sym (leads_is turned d u) ∙ led) in
    joined edges (u ∷ []) d t (one_edge edges u d p.0 p.1) (turned_path edges turned are t d path)

-- what a node leads to, and what leads to it, leads to it each way
pub lead_to_each_other : (edges turned : List (List ℕ)) (a b : ℕ) (led leading : List Bool) → AreTurned edges turned → AreReached edges (a ∷ []) led → AreReached turned (a ∷ []) leading → marked led b ≡ true → marked leading b ≡ true → LeadToEachOther edges a b
lead_to_each_other edges turned a b led leading are reached back h k = record { forth = (reached.paths b).0 h; back = turned_path edges turned are a b ((back.paths b).0 k) }

pub leads_to_itself : (edges : List (List ℕ)) (a : ℕ) → a < length edges → LeadToEachOther edges a a
leads_to_itself edges a inside = let path = Path.Root a (is_in-head numbers a []) (inside_counts edges a inside) in record { forth = path; back = path }

-- two nodes that lead to each other lead to the same nodes
pub same_reached : (edges : List (List ℕ)) (a b : ℕ) (marks : List Bool) → LeadToEachOther edges a b → AreReached edges (a ∷ []) marks → AreReached edges (b ∷ []) marks
same_reached edges a b marks both are = record {
  size = are.size;
  paths = λ c. (λ h. from c h, λ path. to c path);
  nodes =
      path_set_is (graph edges) (b ∷ []) (marks_of marks) (graph_rises edges) (marks_rise marks)
      (record {
        sound = λ c h. from c (sym (in_marks marks c) ∙ h);
        begun = λ c h counts. in_marks marks c ∙ to c (Path.Root c h counts);
        closed = λ d c h led counts. in_marks marks c ∙ to c (Path.Next d c (from d (sym (in_marks marks d) ∙ h)) led counts);
      });
}
  where
    from : (c : ℕ) → marked marks c ≡ true → Path (graph edges) (b ∷ []) c
    from c h = joined edges (b ∷ []) a c both.back ((are.paths c).0 h)

    to : (c : ℕ) → Path (graph edges) (b ∷ []) c → marked marks c ≡ true
    to c path = (are.paths c).1 (joined edges (a ∷ []) b c both.forth path)
