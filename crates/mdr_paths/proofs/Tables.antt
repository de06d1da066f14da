-- A table of edges has the paths of the graph that it stands for.
use Rattle.std.proofs.Common.{◌≡◌, ℕ, ◌<◌, Bool, true, ◌↔◌, List, refl, sym, ◌∙◌, arith}
use Rattle.std.proofs.lemmas.Bool.{and_parts, and_from}
use Rattle.mdr_paths.specs.Paths.{is_in, counted, leads, Path}
use Rattle.mdr_paths.specs.Numbers.{numbers, graph, number_graph, IsTable, AreReached, marked}
use Rattle.mdr_paths.proofs.NodeLists.{is_in-filter}
use Rattle.mdr_paths.proofs.ReachLaws.{path_counts}
use Rattle.mdr_paths.proofs.MarkLaws.{in_range, from_range, counts_inside, inside_counts, leads_is}

number_counted : (n : ℕ) (counts : ℕ → Bool) (calls : ℕ → List ℕ) (c : ℕ) → is_in numbers (counted (number_graph n counts calls)) c ≡ true → (counts c ≡ true) × (c < n)
unfolding counted number_graph
number_counted n counts calls c h =
    let p = and_parts (counts c) (is_in numbers (number_graph n counts calls).all c) (sym (is_in-filter numbers counts (number_graph n counts calls).all c) ∙ h) in
    let q = in_range 0 n c p.1 in
    (p.0, omega (arith, q.1))

counted_number : (n : ℕ) (counts : ℕ → Bool) (calls : ℕ → List ℕ) (c : ℕ) → counts c ≡ true → c < n → is_in numbers (counted (number_graph n counts calls)) c ≡ true
unfolding counted number_graph
counted_number n counts calls c h inside = is_in-filter numbers counts (number_graph n counts calls).all c ∙ and_from _ _ h (from_range 0 n c (omega arith) (omega arith))

number_leads : (n : ℕ) (counts : ℕ → Bool) (calls : ℕ → List ℕ) (d c : ℕ) → leads (number_graph n counts calls) d c ≡ is_in numbers (calls d) c
unfolding leads number_graph
number_leads n counts calls d c = refl

module _ (n : ℕ) (counts : ℕ → Bool) (calls : ℕ → List ℕ) (roots : List ℕ) (edges : List (List ℕ)) (listed : List ℕ) (is : IsTable n counts calls roots edges listed) where
  below : (c : ℕ) → is_in numbers (counted (graph edges)) c ≡ true → c < n
  below c h = omega (arith, counts_inside edges c h, is.size)

  to_table : (c : ℕ) → Path (number_graph n counts calls) roots c → Path (graph edges) listed c
  to_table _ (Path.Root c is_root ok) =
      let p = number_counted n counts calls c ok in
      Path.Root c (is.starts c p.1 ∙ and_from _ _ p.0 is_root) (inside_counts edges c (omega (arith, p.1, is.size)))
  to_table _ (Path.Next d c path led ok) =
      let p = number_counted n counts calls c ok in
      let q = number_counted n counts calls d (path_counts (number_graph n counts calls) roots d path) in
      Path.Next d c (to_table d path) (leads_is edges d c ∙ is.lists d c q.1 p.1 ∙ and_from _ _ p.0 (sym (number_leads n counts calls d c) ∙ led)) (inside_counts edges c (omega (arith, p.1, is.size)))

  from_table : (c : ℕ) → Path (graph edges) listed c → Path (number_graph n counts calls) roots c
  from_table _ (Path.Root c is_root ok) =
      let p = and_parts (counts c) (is_in numbers roots c) (sym (is.starts c (below c ok)) ∙ is_root) in
      Path.Root c p.1 (counted_number n counts calls c p.0 (below c ok))
  from_table _ (Path.Next d c path led ok) =
      let p = and_parts (counts c) (is_in numbers (calls d) c) (sym (is.lists d c (below d (path_counts (graph edges) listed d path)) (below c ok)) ∙ sym (leads_is edges d c) ∙ led) in
      Path.Next d c (from_table d path) (number_leads n counts calls d c ∙ p.1) (counted_number n counts calls c p.0 (below c ok))

  pub table_paths : (c : ℕ) → Path (graph edges) listed c ↔ Path (number_graph n counts calls) roots c
  table_paths c = (from_table c, to_table c)

  -- so the marks are those of that graph's paths
  pub table_reached : (marks : List Bool) → AreReached edges listed marks → (c : ℕ) → (marked marks c ≡ true) ↔ Path (number_graph n counts calls) roots c
  table_reached marks are c = (λ h. from_table c ((are.paths c).0 h), λ path. (are.paths c).1 (to_table c path))
