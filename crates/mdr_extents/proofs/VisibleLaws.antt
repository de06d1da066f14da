-- The visible set is that of the paths, and the pointer that fails first is told.
use Rattle.std.proofs.Common.{◌≡◌, ℕ, zero, suc, ◌≤◌, true, false, List, [], ◌∷◌, Option, Some, None, Result, Ok, Err, refl, sym, ◌∙◌, ap, subst, arith}
use Rattle.std.specs.Prelude.{slice_get}
use Rattle.std.proofs.lemmas.Bool.{both_ways}
use Rattle.mdr_core.specs.declared.plan.Key.{Key}
use Rattle.mdr_core.specs.declared.program.Program.{Program}
use Rattle.mdr_meaning.specs.declared.wire.Wire.{Wire}
use Rattle.mdr_model.specs.declared.memory.Cell.{Cell}
use Rattle.mdr_model.specs.Agreement.{SerialsRise}
use Rattle.mdr_model.specs.Memory.{Memory}
use Rattle.mdr_paths.specs.Paths.{Graph, Rises, fails, is_in, unless, visible as reached, visible_set}
use Rattle.mdr_paths.proofs.ReachLaws.{accepted_exactly, complete, refused_exactly, sound, visible_rises}
use Rattle.mdr_extents.specs.CellOrder.{cells}
use Rattle.mdr_extents.specs.Extent.{Extent, Elements, Fails, has_failed}
use Rattle.mdr_extents.specs.Laws.{VisibleIsByPaths, VisibleIsExact}
use Rattle.mdr_extents.specs.Reaching.{Argument, At, Root, Roots, at_cell, beginning, extent_at, first_failing, graph, or_later, root_extent, unless_argument, visible}
use Rattle.mdr_extents.proofs.CellLists.{all_rise}

-- ---- the first root that fails

module _ (program : Program) (touched : List Key) (m : Memory) (passed : List Wire) where
  record First (rs : List Root) (n : ℕ) : Type 0 where
    root : Root
    is : slice_get rs n ≡ Some root
    failing : root_extent program touched m passed root ≡ Fails
    least : (k : ℕ) (r : Root) → slice_get rs k ≡ Some r → root_extent program touched m passed r ≡ Fails → n ≤ k

  abbrev Tells : List Root → Option ℕ → Type 0
  Tells rs None = (n : ℕ) (r : Root) → slice_get rs n ≡ Some r → root_extent program touched m passed r ≡ Fails → ⊥
  Tells rs (Some n) = First rs n

  same_root : (a b : Root) → ◌≡◌ {A = Option Root} (Some a) (Some b) → a ≡ b
  same_root a b e = cc

  no_root : (b : Root) → ◌≡◌ {A = Option Root} None (Some b) → ⊥
  no_root b e = cc

  not_failed : (n : ℕ) → ◌≡◌ {A = Extent} (Elements n) Fails → ⊥
  not_failed n e = cc

  kept : (r s : Root) (n : ℕ) → root_extent program touched m passed r ≡ Elements n → ◌≡◌ {A = Option Root} (Some r) (Some s) → root_extent program touched m passed s ≡ Fails → ⊥
  kept r s n whole e failing = not_failed n (sym whole ∙ (ap (root_extent program touched m passed) (same_root r s e) ∙ failing))

  tells : (rs : List Root) → Tells rs (first_failing program touched m passed rs)
  unfolding first_failing
  tells [] = λ n r e h. no_root r e
  tells (r ∷ rs) = of (root_extent program touched m passed r) refl (first_failing program touched m passed rs) (tells rs)
    where
      none : (n : ℕ) → root_extent program touched m passed r ≡ Elements n → Tells rs None → Tells (r ∷ rs) None
      none n whole later zero s e h = kept r s n whole e h
      none n whole later (suc k) s e h = later k s e h

      least : (n i : ℕ) → root_extent program touched m passed r ≡ Elements n → First rs i → (k : ℕ) (s : Root) → slice_get (r ∷ rs) k ≡ Some s → root_extent program touched m passed s ≡ Fails → suc i ≤ k
      least n i whole later zero s e h = absurd (kept r s n whole e h)
      least n i whole later (suc k) s e h = omega (arith, later.least k s e h)

      of : (x : Extent) → root_extent program touched m passed r ≡ x → (o : Option ℕ) → Tells rs o → Tells (r ∷ rs) (or_later x o)
      of Fails e o later = record { root = r; is = refl; failing = e; least = λ k s i h. omega arith }
      of (Elements n) e None later = none n e later
      of (Elements n) e (Some i) later = record { root = later.root; is = later.is; failing = later.failing; least = least n i e later }

  first_is : (rs : List Root) (n : ℕ) (o : Option ℕ) → Tells rs o → First rs n → o ≡ Some n
  first_is rs n None missed first = absurd (missed n first.root first.is first.failing)
  first_is rs n (Some k) found first =
      let same : k ≡ n = omega (arith, found.least n first.root first.is first.failing, first.least k found.root found.is found.failing) in
      ap (λ x. Some x) same

  none_is : (rs : List Root) (o : Option ℕ) → Tells rs o → Tells rs None → o ≡ None
  none_is rs None missed none = refl
  none_is rs (Some k) found none = absurd (none k found.root found.is found.failing)

-- ---- answers

record Accepted (o : Option ℕ) (r : Result (List Cell) Cell) (set : List Cell) : Type 0 where
  none : o ≡ None
  is : r ≡ Ok set

record Refused (o : Option ℕ) (r : Result (List Cell) Cell) (c : Cell) : Type 0 where
  none : o ≡ None
  is : r ≡ Err c

accepted_by : (o : Option ℕ) (r : Result (List Cell) Cell) (set : List Cell) → unless_argument o (at_cell r) ≡ Ok set → Accepted o r set
accepted_by None (Ok s) set e = let same : s ≡ set = cc in record { none = refl; is = ap (λ x. Ok x) same }
accepted_by None (Err c) set e = absurd cc
accepted_by (Some n) r set e = absurd cc

argument_by : (o : Option ℕ) (r : Result (List Cell) Cell) (n : ℕ) → unless_argument o (at_cell r) ≡ Err (Argument n) → o ≡ Some n
argument_by None (Ok s) n e = absurd cc
argument_by None (Err c) n e = absurd cc
argument_by (Some k) r n e = let same : k ≡ n = cc in ap (λ x. Some x) same

cell_by : (o : Option ℕ) (r : Result (List Cell) Cell) (c : Cell) → unless_argument o (at_cell r) ≡ Err (At c) → Refused o r c
cell_by None (Ok s) c e = absurd cc
cell_by None (Err d) c e = let same : d ≡ c = cc in record { none = refl; is = ap (λ x. Err x) same }
cell_by (Some k) r c e = absurd cc

unless_is : (failing set s : List Cell) → ◌≡◌ {A = Result (List Cell) Cell} (unless failing set) (Ok s) → set ≡ s
unless_is [] set s e = cc
unless_is (c ∷ cs) set s e = absurd cc

has_failed_is : (e : Extent) → has_failed e ≡ true → e ≡ Fails
has_failed_is (Elements n) h = absurd (both_ways false refl h)
has_failed_is Fails h = refl

-- ---- the law

module _ (program : Program) (touched : List Key) (m : Memory) (known : List Cell) (roots : Roots) (rising : SerialsRise m) where
  abbrev g : Graph cells
  g = graph program touched m

  abbrev begins : List Cell
  begins = beginning program touched m known roots

  abbrev number : Option ℕ
  number = first_failing program touched m roots.passed roots.values

  graph_rises : Rises cells g.all
  unfolding graph
  graph_rises = all_rise m rising

  set_is : (set : List Cell) → visible_set g begins ≡ Ok set → reached g begins ≡ set
  unfolding visible_set
  set_is set e = unless_is _ _ set e

  failed : (c : Cell) → fails g c ≡ true → extent_at program touched m c ≡ Fails
  unfolding fails graph
  failed c h = has_failed_is _ h

  fails_there : (c : Cell) → extent_at program touched m c ≡ Fails → fails g c ≡ true
  unfolding fails graph
  fails_there c e = ap has_failed e

  roots_tell : Tells program touched m roots.passed roots.values number
  roots_tell = tells program touched m roots.passed roots.values

  visible_exact : VisibleIsExact program touched m known roots
  unfolding visible
  visible_exact = record {
    exact = λ set e c. let a = accepted_by number (visible_set g begins) set e in
        let same : reached g begins ≡ set = set_is set a.is in
        (λ h. sound g begins c (subst (λ s. is_in cells s c ≡ true) (sym same) h), λ path. subst (λ s. is_in cells s c ≡ true) same (complete g begins c path));
    rises = λ set e. let a = accepted_by number (visible_set g begins) set e in subst (Rises cells) (set_is set a.is) (visible_rises g begins graph_rises);
    accepted = (
      λ p. let a = accepted_by number (visible_set g begins) p.0 p.1 in
          let all : visible_set g begins ≡ Ok (reached g begins) = a.is ∙ ap (λ x. Ok x) (sym (set_is p.0 a.is)) in
          (subst (Tells program touched m roots.passed roots.values) a.none roots_tell, λ c path e. (accepted_exactly g begins).0 all c path (fails_there c e)),
      λ p. let none = none_is program touched m roots.passed roots.values number roots_tell p.0 in
          let all = (accepted_exactly g begins).1 (λ c path h. p.1 c path (failed c h)) in
          (reached g begins, ap (λ o. unless_argument o (at_cell (visible_set g begins))) none ∙ ap (λ r. at_cell r) all),
    );
    argument = λ n. (
      λ e. let f : First program touched m roots.passed roots.values n = subst (Tells program touched m roots.passed roots.values) (argument_by number (visible_set g begins) n e) roots_tell in
          record { root = f.root; is = f.is; failing = f.failing; least = f.least },
      λ f. ap (λ o. unless_argument o (at_cell (visible_set g begins)))
          (first_is program touched m roots.passed roots.values n number roots_tell (record { root = f.root; is = f.is; failing = f.failing; least = f.least })),
    );
    cell = λ c. (
      λ e. let a = cell_by number (visible_set g begins) c e in
          (subst (Tells program touched m roots.passed roots.values) a.none roots_tell, (refused_exactly g begins c graph_rises).0 a.is),
      λ p. ap (λ o. unless_argument o (at_cell (visible_set g begins))) (none_is program touched m roots.passed roots.values number roots_tell p.0) ∙ ap (λ r. at_cell r) ((refused_exactly g begins c graph_rises).1 p.1),
    );
  }

pub visible_is_by_paths : VisibleIsByPaths
visible_is_by_paths program touched m known roots rising = visible_exact program touched m known roots rising
