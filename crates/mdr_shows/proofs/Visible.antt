-- A set that is taken may be shown.
use Rattle.std.proofs.Common.{◌≡◌, ℕ, true, false, ◌||◌, ◌⊎◌, inl, inr, List, [], ◌∷◌, ◌++◌, Option, Some, None, Ok, refl, sym, ◌∙◌}
use Rattle.std.specs.Prelude.{length, map, nat_lt, slice_get}
use Rattle.std.proofs.lemmas.Bool.{and_from, and_parts, both_ways, or_cases, or_left, or_right}
use Rattle.mdr_core.specs.declared.plan.Key.{Key}
use Rattle.mdr_core.specs.declared.program.Func.{Func}
use Rattle.mdr_core.specs.declared.program.Param.{Param}
use Rattle.mdr_core.specs.declared.program.Program.{Program}
use Rattle.mdr_extents.specs.CellOrder.{cells}
use Rattle.mdr_extents.specs.Reaching.{Roots, all_cells, beginning, counts, global_cells, graph, root_cells, visible}
use Rattle.mdr_extents.proofs.VisibleLaws.{visible_is_by_paths}
use Rattle.mdr_meaning.specs.declared.wire.Wire.{Wire}
use Rattle.mdr_model.specs.declared.memory.Cell.{Cell}
use Rattle.mdr_model.specs.Agreement.{IsShown, SerialsRise, is_named_in, names_it}
use Rattle.mdr_model.specs.Copies.{is_named}
use Rattle.mdr_model.specs.Memory.{Memory, cell_at, is_live, normal}
use Rattle.mdr_model.specs.Values.{names_block}
use Rattle.mdr_model.proofs.LifeLaws.{names-normal}
use Rattle.mdr_paths.specs.Paths.{Path, is_in as is_among}
use Rattle.mdr_paths.proofs.NodeLists.{found_any, in_both, is_in-filter}
use Rattle.mdr_paths.proofs.ReachLaws.{path_counts}
use Rattle.mdr_watched.specs.Driver.{given_by, param_roots, passed_to}
use Rattle.mdr_shows.specs.Cells.{HasBegun, IsSetOf, NameRoots, values_in}
use Rattle.mdr_shows.specs.Laws.{VisibleMayBeShown}
use Rattle.mdr_shows.proofs.Membership.{membership_is_one}
use Rattle.mdr_shows.proofs.Named.{counts_live, edge_named, node_counts, roots_named}

module _ (program : Program) (touched : List Key) (m : Memory) (known : List Cell) (roots : Roots) (set : List Cell) (rises : SerialsRise m) (is : visible program touched m known roots ≡ Ok set) where
  abbrev begins : List Cell
  begins = beginning program touched m known roots

  path_to : (c : Cell) → is_among cells set c ≡ true → Path (graph program touched m) begins c
  path_to c h = ((visible_is_by_paths program touched m known roots rises).exact set is c).0 h

  seen_by : (c : Cell) → Path (graph program touched m) begins c → is_among cells set c ≡ true
  seen_by c path = ((visible_is_by_paths program touched m known roots rises).exact set is c).1 path

  counted_of : (c : Cell) → is_among cells set c ≡ true → counts program touched m c ≡ true
  counted_of c h = node_counts program touched m c (path_counts (graph program touched m) begins c (path_to c h))

  pub set_of : IsSetOf program touched m set
  set_of = record { rises = (visible_is_by_paths program touched m known roots rises).rises set is; counted = counted_of }

  module _ (copy : Memory) (values : List Wire) (begun : HasBegun program known copy m) (named : NameRoots values roots m) where
    abbrev Names : Cell → Type 0
    Names c = (is_live copy c.serial || (is_named values c.serial || is_named_in set m c.serial)) ≡ true

    copied : (c : Cell) → is_live copy c.serial ≡ true → Names c
    copied c h = or_left _ _ h

    passed : (c : Cell) → is_named values c.serial ≡ true → Names c
    passed c h = or_right (is_live copy c.serial) _ (or_left _ _ h)

    held_in : (c d : Cell) → is_among cells set d ≡ true → names_it c.serial (cell_at m d) ≡ true → Names c
    unfolding is_named_in
    held_in c d inside h = or_right (is_live copy c.serial) _ (or_right (is_named values c.serial) _ (found_any cells (λ (x : Cell). names_it c.serial (cell_at m x)) set d inside h))

    global : (c : Cell) → is_live m c.serial ≡ true → is_among cells (global_cells program touched m) c ≡ true → Names c
    global c live h = copied c (begun.globals c.serial (and_parts _ _ (sym (is_in-filter cells (λ (x : Cell). nat_lt x.serial (length program.globals)) (all_cells m) c) ∙ h)).0 live)

    root : (c : Cell) → is_live m c.serial ≡ true → is_among cells (root_cells program touched m roots.passed roots.values) c ≡ true → Names c
    root c live h = passed c (named c.serial live (roots_named program touched m roots.passed roots.values c h))

    begun_by : (c : Cell) → is_live m c.serial ≡ true → is_among cells begins c ≡ true → Names c
    begun_by c live h = of (or_cases _ _ (sym (in_both cells (global_cells program touched m) (known ++ root_cells program touched m roots.passed roots.values) c) ∙ h))
      where
        more : (is_among cells known c ≡ true) ⊎ (is_among cells (root_cells program touched m roots.passed roots.values) c ≡ true) → Names c
        more (inl j) = copied c (begun.known c j live)
        more (inr j) = root c live j

        of : (is_among cells (global_cells program touched m) c ≡ true) ⊎ (is_among cells (known ++ root_cells program touched m roots.passed roots.values) c ≡ true) → Names c
        of (inl j) = global c live j
        of (inr j) = more (or_cases _ _ (sym (in_both cells known (root_cells program touched m roots.passed roots.values) c) ∙ j))

    named_by : (c : Cell) → is_live m c.serial ≡ true → Path (graph program touched m) begins c → Names c
    named_by _ live (Path.Root c is_root counts) = begun_by c live is_root
    named_by _ live (Path.Next d c path led counts) = held_in c d (seen_by d path) (edge_named program touched m d c led)

    pub shown_by : IsShown set values copy m
    shown_by c h =
        let inside : is_among cells set c ≡ true = sym (membership_is_one set c) ∙ h in
        let live : is_live m c.serial ≡ true = counts_live program touched m c (counted_of c inside) in
        and_from _ _ live (named_by c live (path_to c inside))

-- ---- roots

abbrev all_named : List Wire → List Wire → Type 0
all_named vs ws = (serial : ℕ) → is_named vs serial ≡ true → is_named ws serial ≡ true

params_named : (ps : List Param) (args : List Wire) → all_named (values_in (param_roots ps args)) args
params_named [] args serial h = absurd (both_ways false refl h)
params_named (p ∷ ps) [] serial h = h
params_named (p ∷ ps) (v ∷ vs) serial h = of (or_cases (names_block serial v) _ h) (params_named ps vs serial)
  where
    of : (names_block serial v ≡ true) ⊎ (is_named (values_in (param_roots ps vs)) serial ≡ true) → (is_named (values_in (param_roots ps vs)) serial ≡ true → is_named vs serial ≡ true) → (names_block serial v || is_named vs serial) ≡ true
    of (inl j) later = or_left _ _ j
    of (inr j) later = or_right _ _ (later j)

entry_named : (o : Option Func) (args : List Wire) (m : Memory) → NameRoots args (passed_to o args) m
entry_named None args m serial live h = absurd (both_ways false refl h)
entry_named (Some func) args m serial live h = params_named func.params args serial h

result_named : (o : Option Func) (args : List Wire) (v : Wire) (m : Memory) → NameRoots (v ∷ []) (given_by o args v) m
result_named None args v m serial live h = h
result_named (Some func) args v m serial live h = h

-- a value as it is sent names the same live blocks
sent_named : (m : Memory) (serial : ℕ) (vs : List Wire) → is_live m serial ≡ true → is_named vs serial ≡ true → is_named (map (normal m) vs) serial ≡ true
sent_named m serial [] live h = h
sent_named m serial (v ∷ vs) live h = of (or_cases (names_block serial v) _ h) (sent_named m serial vs live)
  where
    of : (names_block serial v ≡ true) ⊎ (is_named vs serial ≡ true) → (is_named vs serial ≡ true → is_named (map (normal m) vs) serial ≡ true) → (names_block serial (normal m v) || is_named (map (normal m) vs) serial) ≡ true
    of (inl j) later = or_left _ _ (names-normal m v serial ∙ and_from _ _ j live)
    of (inr j) later = or_right _ _ (later j)

pub visible_may_be_shown : VisibleMayBeShown
visible_may_be_shown = record {
  shown = λ program touched m copy known roots values set rises begun named is. shown_by program touched m known roots set rises is copy values begun named;
  set = λ program touched m known roots set rises is. set_of program touched m known roots set rises is;
  entry = λ program f args m. entry_named (slice_get program.funcs f) args m;
  result = λ program f args v m. result_named (slice_get program.funcs f) args v m;
  sent = λ values roots m named serial live h. sent_named m serial values live (named serial live h);
}
