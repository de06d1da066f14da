-- Laws of the nodes that have a path: the computed set is that of the paths.
use Rattle.std.proofs.Common.{◌≡◌, ℕ, zero, suc, ◌<◌, ◌≤◌, Bool, true, false, not, ◌&&◌, ◌||◌, ◌⊎◌, ◌↔◌, inl, inr, List, [], ◌∷◌, ◌++◌, length, Ok, Err, refl, sym, ◌∙◌, ap, subst, arith}
use Rattle.std.specs.List.{filter}
use Rattle.std.proofs.lemmas.Bool.{both_ways, and_parts, and_from, or_cases, or_left, true_from_ne_false}
use Rattle.std.proofs.lemmas.List.Sums.{length-filter, count_by-le-length}
use Rattle.mdr_paths.specs.Paths.{Nodes, is_in, Graph, counted, leads, Path, fails, Rises, IsLeastFailing, is_led, first, round, adds, go_on, rounds, visible, unless, visible_set, IsPathSet, IsPartial, AreNew, IsBeforeFirst, RisesStep}
use Rattle.mdr_paths.proofs.NodeLists.{Found, none_in, is_in-filter, is_in-head, is_in-cases, in_both, any_found, found_any, falls, rises-filter, same_place, sided, same_nodes}

module _ {N : Type 0} {k : Nodes N} where
  -- ---- rounds

  -- what a round keeps, rounds keep
  rounds_keep : (g : Graph k) (P : List N → Type 0) → ((marked : List N) → P marked → P (round g marked)) → (fuel : ℕ) (marked : List N) → P marked → P (rounds g fuel marked)
  unfolding rounds
  rounds_keep g P step zero marked h = h
  rounds_keep g P step (suc fuel) marked h = of (adds g marked) (rounds_keep g P step fuel (round g marked) (step marked h))
    where
      of : (t : Bool) → P (rounds g fuel (round g marked)) → P (go_on t marked (λ u. rounds g fuel (round g marked)))
      of true later = later
      of false later = h

  -- a round has the marked nodes, and those that they reach
  in_round : (g : Graph k) (marked : List N) (c : N) → is_in k (round g marked) c ≡ ((is_in k marked c || is_led g marked c) && is_in k (counted g) c)
  unfolding round
  in_round g marked c = is_in-filter k (λ d. is_in k marked d || is_led g marked d) (counted g) c

  abbrev IsClosed : Graph k → List N → Type 0
  IsClosed g marked = (d c : N) → is_in k marked d ≡ true → leads g d c ≡ true → is_in k (counted g) c ≡ true → is_in k marked c ≡ true

  nothing_added : (g : Graph k) (marked : List N) → adds g marked ≡ false → IsClosed g marked
  unfolding adds is_led
  nothing_added g marked e d c h led counts = grind (arith, in_round g marked c, found_any k (λ j. leads g j c) marked d h led, found_any k (λ j. not (is_in k marked j)) (round g marked) c)

  -- the nodes that count and aren't marked, which grow fewer
  unmarked : Graph k → List N → ℕ
  unmarked g marked = length (filter (λ c. not (is_in k marked c)) (counted g))

  adds_falls : (g : Graph k) (marked : List N) → adds g marked ≡ true → unmarked g (round g marked) < unmarked g marked
  unfolding unmarked adds
  adds_falls g marked e = of (any_found k (λ c. not (is_in k marked c)) (round g marked) e)
    where
      of : Found k (λ c. not (is_in k marked c)) (round g marked) → unmarked g (round g marked) < unmarked g marked
      of one =
          falls k (λ d. not (is_in k (round g marked) d)) (λ d. not (is_in k marked d)) (counted g) one.at (λ d h out. grind (arith, in_round g marked d)) (grind (arith, in_round g marked one.at)) (grind arith) one.passes

  -- enough rounds end where nothing is added
  closes : (g : Graph k) (fuel : ℕ) (marked : List N) → unmarked g marked ≤ fuel → IsClosed g (rounds g fuel marked)
  unfolding rounds unmarked
  closes g zero marked few = λ d c h led counts. true_from_ne_false _ (λ out. absurd (omega (arith, falls k (λ j. false) (λ j. not (is_in k marked j)) (counted g) c (λ j i e. absurd (both_ways _ refl e)) counts refl (rw out refl))))
  closes g (suc fuel) marked few = of (adds g marked) refl (closes g fuel (round g marked))
    where
      of : (t : Bool) → adds g marked ≡ t → (unmarked g (round g marked) ≤ fuel → IsClosed g (rounds g fuel (round g marked))) → IsClosed g (go_on t marked (λ u. rounds g fuel (round g marked)))
      of true e later = later (omega (arith, adds_falls g marked e))
      of false e later = nothing_added g marked e

  -- as many rounds as there are nodes are enough
  few_unmarked : (g : Graph k) (marked : List N) → unmarked g marked ≤ length g.all
  unfolding unmarked counted
  few_unmarked g marked = omega (arith, length-filter g.counts g.all, count_by-le-length g.counts g.all, length-filter (λ c. not (is_in k marked c)) (filter g.counts g.all), count_by-le-length (λ c. not (is_in k marked c)) (filter g.counts g.all))

  -- ---- the computed set is that of the paths

  abbrev HasPaths : Graph k → List N → List N → Type 0
  HasPaths g roots marked = (c : N) → is_in k marked c ≡ true → Path g roots c

  round_has_paths : (g : Graph k) (roots marked : List N) → HasPaths g roots marked → HasPaths g roots (round g marked)
  unfolding is_led
  round_has_paths g roots marked had c h = let p = and_parts _ _ (sym (in_round g marked c) ∙ h) in of (or_cases _ _ p.0) p.1
    where
      of : (is_in k marked c ≡ true) ⊎ (is_led g marked c ≡ true) → is_in k (counted g) c ≡ true → Path g roots c
      of (inl j) counts = had c j
      of (inr j) counts = let one = any_found k (λ d. leads g d c) marked j in Path.Next one.at c (had one.at one.inside) one.passes counts

  pub sound : (g : Graph k) (roots : List N) (c : N) → is_in k (visible g roots) c ≡ true → Path g roots c
  unfolding visible first
  sound g roots = rounds_keep g (HasPaths g roots) (round_has_paths g roots) (length g.all) (first g roots) begin
    where
      begin : HasPaths g roots (first g roots)
      begin d j = let p = and_parts _ _ (sym (is_in-filter k (is_in k roots) (counted g) d) ∙ j) in Path.Root d p.0 p.1

  -- the law of the path set: it has the roots, and what its nodes reach, and only what has a path
  pub path_marked : (g : Graph k) (roots marked : List N) → IsPathSet g roots marked → (c : N) → Path g roots c → is_in k marked c ≡ true
  path_marked g roots marked set _ (Path.Root c is_root counts) = set.begun c is_root counts
  path_marked g roots marked set _ (Path.Next d c path led counts) = set.closed d c (path_marked g roots marked set d path) led counts

  pub visible_is : (g : Graph k) (roots : List N) → IsPathSet g roots (visible g roots)
  unfolding visible first
  visible_is g roots = record {
    sound = sound g roots;
    begun = λ c h counts. rounds_keep g (λ marked. is_in k marked c ≡ true) (λ marked j. in_round g marked c ∙ rw (j, counts) refl) (length g.all) (first g roots) (is_in-filter k (is_in k roots) (counted g) c ∙ rw (h, counts) refl);
    closed = closes g (length g.all) (first g roots) (few_unmarked g (first g roots));
  }

  pub complete : (g : Graph k) (roots : List N) (c : N) → Path g roots c → is_in k (visible g roots) c ≡ true
  complete g roots c path = path_marked g roots (visible g roots) (visible_is g roots) c path

  -- ---- it rises, and is the only such list

  pub visible_rises : (g : Graph k) (roots : List N) → Rises k g.all → Rises k (visible g roots)
  unfolding visible first round counted
  visible_rises g roots rising =
      let all : Rises k (counted g) = rises-filter k g.counts g.all rising in
      rounds_keep g (Rises k) (λ marked h. rises-filter k (λ c. is_in k marked c || is_led g marked c) (counted g) all) (length g.all) (first g roots) (rises-filter k (is_in k roots) (counted g) all)

  pub path_set_is : (g : Graph k) (roots marked : List N) → Rises k g.all → Rises k marked → IsPathSet g roots marked → marked ≡ visible g roots
  path_set_is g roots marked rising rises set =
      same_nodes k marked (visible g roots) rises (visible_rises g roots rising) (λ c h. complete g roots c (set.sound c h)) (λ c h. path_marked g roots marked set c (sound g roots c h))

  -- so the answer is told of any such list
  pub answer_of_path_set : (g : Graph k) (roots marked : List N) → Rises k g.all → Rises k marked → IsPathSet g roots marked → visible_set g roots ≡ unless (filter (fails g) marked) marked
  unfolding visible_set
  answer_of_path_set g roots marked rising rises set = ap (λ xs. unless (filter (fails g) xs) xs) (sym (path_set_is g roots marked rising rises set))

  -- what has a path counts
  pub path_counts : (g : Graph k) (roots : List N) (c : N) → Path g roots c → is_in k (counted g) c ≡ true
  path_counts g roots _ (Path.Root c is_root counts) = counts
  path_counts g roots _ (Path.Next d c path led counts) = counts

  -- more roots, more nodes
  pub more_paths : (g : Graph k) (roots more : List N) → ((c : N) → is_in k roots c ≡ true → is_in k more c ≡ true) → (c : N) → Path g roots c → Path g more c
  more_paths g roots more f _ (Path.Root c is_root counts) = Path.Root c (f c is_root) counts
  more_paths g roots more f _ (Path.Next d c path led counts) = Path.Next d c (more_paths g roots more f d path) led counts

  pub monotone : (g : Graph k) (roots more : List N) → ((c : N) → is_in k roots c ≡ true → is_in k more c ≡ true) → (c : N) → is_in k (visible g roots) c ≡ true → is_in k (visible g more) c ≡ true
  monotone g roots more f c h = complete g more c (more_paths g roots more f c (sound g roots c h))

  -- ---- the refusal

  least_is_one : (g : Graph k) (roots : List N) (c d : N) → IsLeastFailing g roots c → IsLeastFailing g roots d → c ≡ d
  least_is_one g roots c d p q = same_place k c d (p.least d q.path q.failing) (q.least c p.path p.failing)

  pub refused_exactly : (g : Graph k) (roots : List N) (c : N) → Rises k g.all → (visible_set g roots ≡ Err c) ↔ IsLeastFailing g roots c
  unfolding visible_set
  refused_exactly g roots c rising = of (filter (fails g) (visible g roots)) (rises-filter k _ _ (visible_rises g roots rising)) (is_in-filter k (fails g) (visible g roots))
    where
      first_is : (d : N) (ds : List N) → Rises k (d ∷ ds) → ((j : N) → is_in k (d ∷ ds) j ≡ (fails g j && is_in k (visible g roots) j)) → IsLeastFailing g roots d
      first_is d ds rises has =
          let p = and_parts _ _ (sym (has d) ∙ is_in-head k d ds) in
          record { path = sound g roots d p.1; failing = p.0; least = λ j path failing. sided k d ds j rises (has j ∙ and_from _ _ failing (complete g roots j path)) }

      of : (failing : List N) → Rises k failing → ((j : N) → is_in k failing j ≡ (fails g j && is_in k (visible g roots) j)) → (unless failing (visible g roots) ≡ Err c) ↔ IsLeastFailing g roots c
      of [] rises has = (λ e. cc, λ h. absurd (none_in k c (has c ∙ and_from _ _ h.failing (complete g roots c h.path))))
      of (d ∷ ds) rises has =
          let least = first_is d ds rises has in
          (λ e. let same : d ≡ c = cc in subst (IsLeastFailing g roots) same least, λ h. ap (λ j. Err j) (least_is_one g roots d c least h))

  pub accepted_exactly : (g : Graph k) (roots : List N) → (visible_set g roots ≡ Ok (visible g roots)) ↔ ((c : N) → Path g roots c → fails g c ≡ true → ⊥)
  unfolding visible_set
  accepted_exactly g roots = of (filter (fails g) (visible g roots)) (is_in-filter k (fails g) (visible g roots))
    where
      of : (failing : List N) → ((j : N) → is_in k failing j ≡ (fails g j && is_in k (visible g roots) j)) → (unless failing (visible g roots) ≡ Ok (visible g roots)) ↔ ((c : N) → Path g roots c → fails g c ≡ true → ⊥)
      of [] has = (λ e c path failing. none_in k c (has c ∙ and_from _ _ failing (complete g roots c path)), λ h. refl)
      of (d ∷ ds) has = let p = and_parts _ _ (sym (has d) ∙ is_in-head k d ds) in (λ e. cc, λ h. absurd (h d (sound g roots d p.1) p.0))

  -- ---- a worklist

  pub work_ends : (g : Graph k) (roots marked : List N) → IsPartial g roots marked [] → IsPathSet g roots marked
  work_ends g roots marked part = record { sound = part.sound; begun = part.begun; closed = λ d c h led counts. of d c (part.followed d c h led counts) }
    where
      of : (d c : N) → (is_in k [] d ≡ true) ⊎ (is_in k marked c ≡ true) → is_in k marked c ≡ true
      of d c (inl h) = absurd (none_in k d h)
      of d c (inr h) = h

  pub work_steps : (g : Graph k) (roots marked todo news : List N) (d : N) → is_in k marked d ≡ true → AreNew g marked d news → IsPartial g roots marked (d ∷ todo) → IsPartial g roots (marked ++ news) (todo ++ news)
  work_steps g roots marked todo news d is_marked new part = record {
    sound = λ c h. sound c (or_cases _ _ (sym (in_both k marked news c) ∙ h));
    begun = λ c h counts. old c (part.begun c h counts);
    followed = λ e c h led counts. followed e c (or_cases _ _ (sym (in_both k marked news e) ∙ h)) led counts;
  }
    where
      old : (c : N) → is_in k marked c ≡ true → is_in k (marked ++ news) c ≡ true
      old c h = in_both k marked news c ∙ or_left _ _ h

      sound : (c : N) → (is_in k marked c ≡ true) ⊎ (is_in k news c ≡ true) → Path g roots c
      sound c (inl h) = part.sound c h
      sound c (inr h) = Path.Next d c (part.sound d is_marked) (new.led c h) (new.count c h)

      followed : (e c : N) → (is_in k marked e ≡ true) ⊎ (is_in k news e ≡ true) → leads g e c ≡ true → is_in k (counted g) c ≡ true → (is_in k (todo ++ news) e ≡ true) ⊎ (is_in k (marked ++ news) c ≡ true)
      followed e c h led counts = grind (arith, in_both k marked news c, in_both k todo news e, part.followed e c, is_in-cases k d todo e, new.rest c)

module _ {N : Type 0} (k : Nodes N) where
  -- ---- from each cell to the next

  pub rises_by_steps : (cs : List N) → RisesStep k cs → Rises k cs
  rises_by_steps [] h = tt
  rises_by_steps (c ∷ cs) h = (above c cs h.0 (rises_by_steps cs h.1), rises_by_steps cs h.1)
    where
      above : (c : N) (cs : List N) → IsBeforeFirst k c cs → Rises k cs → (d : N) → is_in k cs d ≡ true → k.before c d
      above c [] first rises d h = absurd (none_in k d h)
      above c (b ∷ bs) first rises d h = of (is_in-cases k b bs d h)
        where
          of : (d ≡ b) ⊎ (is_in k bs d ≡ true) → k.before c d
          of (inl same) = subst (k.before c) (sym same) first
          of (inr j) = k.through c b d first (rises.0 d j)
