-- Laws of paths: from several roots, from an old set, and as lists.
use Rattle.std.proofs.Common.{◌≡◌, true, ◌⊎◌, inl, inr, List, [], ◌∷◌, ◌++◌, sym, ◌∙◌, arith}
use Rattle.std.proofs.lemmas.Bool.{or_cases, or_left, or_right}
use Rattle.mdr_paths.specs.Paths.{Nodes, is_in, Graph, counted, Path, Rises, visible}
use Rattle.mdr_paths.specs.Laws.{IsWay, Laws}
use Rattle.mdr_paths.proofs.NodeLists.{in_both}
use Rattle.mdr_paths.proofs.ReachLaws.{sound, complete, visible_is, visible_rises, path_set_is, more_paths, refused_exactly, accepted_exactly}

module _ {N : Type 0} {k : Nodes N} where
  -- a path from two lists of roots is one from either
  pub either_path : (g : Graph k) (known roots : List N) (c : N) → Path g (known ++ roots) c → Path g known c ⊎ Path g roots c
  either_path g known roots _ (Path.Root c is_root counts) = of (or_cases _ _ (sym (in_both k known roots c) ∙ is_root))
    where
      of : (is_in k known c ≡ true) ⊎ (is_in k roots c ≡ true) → Path g known c ⊎ Path g roots c
      of (inl h) = inl (Path.Root c h counts)
      of (inr h) = inr (Path.Root c h counts)
  either_path g known roots _ (Path.Next d c path led counts) = of (either_path g known roots d path)
    where
      of : Path g known d ⊎ Path g roots d → Path g known c ⊎ Path g roots c
      of (inl p) = inl (Path.Next d c p led counts)
      of (inr p) = inr (Path.Next d c p led counts)

  -- an old set serves as well as the roots that it was made from
  pub old_set_serves : (g : Graph k) (old roots : List N) → Rises k g.all → visible g (visible g old ++ roots) ≡ visible g (old ++ roots)
  old_set_serves g old roots rising = path_set_is g (old ++ roots) (visible g (visible g old ++ roots)) rising (visible_rises g _ rising) (record {
    sound = λ c h. back c (sound g (visible g old ++ roots) c h);
    begun = λ c h counts. begun c (or_cases _ _ (sym (in_both k old roots c) ∙ h)) counts;
    closed = (visible_is g (visible g old ++ roots)).closed;
  })
    where
      from_old : (c : N) → is_in k old c ≡ true → is_in k (old ++ roots) c ≡ true
      from_old c h = in_both k old roots c ∙ or_left _ _ h

      back : (c : N) → Path g (visible g old ++ roots) c → Path g (old ++ roots) c
      back _ (Path.Root c is_root counts) = of (or_cases _ _ (sym (in_both k (visible g old) roots c) ∙ is_root))
        where
          of : (is_in k (visible g old) c ≡ true) ⊎ (is_in k roots c ≡ true) → Path g (old ++ roots) c
          of (inl h) = more_paths g old (old ++ roots) from_old c (sound g old c h)
          of (inr h) = Path.Root c (in_both k old roots c ∙ or_right _ _ h) counts
      back _ (Path.Next d c path led counts) = Path.Next d c (back d path) led counts

      begun : (c : N) → (is_in k old c ≡ true) ⊎ (is_in k roots c ≡ true) → is_in k (counted g) c ≡ true → is_in k (visible g (visible g old ++ roots)) c ≡ true
      begun c h counts = grind (arith, in_both k (visible g old) roots c, (visible_is g old).begun c, (visible_is g (visible g old ++ roots)).begun c)

  way_of : (g : Graph k) (roots : List N) (c : N) → Path g roots c → (ds : List N) × IsWay g roots c ds
  way_of g roots _ (Path.Root c is_root counts) = ([], (is_root, counts))
  way_of g roots _ (Path.Next d c path led counts) = let w = way_of g roots d path in (d ∷ w.0, (led, counts, w.1))

  path_of : (g : Graph k) (roots : List N) (c : N) (ds : List N) → IsWay g roots c ds → Path g roots c
  path_of g roots c [] w = Path.Root c w.0 w.1
  path_of g roots c (d ∷ ds) w = Path.Next d c (path_of g roots d ds w.2) w.0 w.1

pub laws : {N : Type 0} (k : Nodes N) → Laws k
laws k = record {
  by_paths = λ g roots c. (sound g roots c, complete g roots c);
  ways = λ g roots c. (way_of g roots c, λ w. path_of g roots c w.0 w.1);
  rising = λ g roots. visible_rises g roots;
  refused = λ g roots c. refused_exactly g roots c;
  accepted = λ g roots. accepted_exactly g roots;
  old_set = λ g old roots. old_set_serves g old roots;
}
