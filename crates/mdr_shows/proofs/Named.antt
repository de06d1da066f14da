-- What names the block of a cell that pointers lead to.
use Rattle.std.proofs.Common.{◌≡◌, ℕ, true, false, ◌||◌, ◌⊎◌, inl, inr, List, [], ◌∷◌, Option, Some, None, refl, sym, ◌∙◌}
use Rattle.std.specs.Prelude.{is_some}
use Rattle.std.proofs.lemmas.Bool.{and_parts, both_ways, eq-eqb, or_cases, or_left, or_right}
use Rattle.mdr_core.specs.declared.plan.Key.{Key}
use Rattle.mdr_core.specs.declared.program.Program.{Program}
use Rattle.mdr_extents.specs.CellOrder.{cells}
use Rattle.mdr_extents.specs.Extent.{Extent, Elements, Fails, cells_in}
use Rattle.mdr_extents.specs.Reaching.{Root, all_cells, cells_led, counts, counts_in, extent_at, graph, root_cells, root_extent}
use Rattle.mdr_extents.proofs.CellLists.{in_from}
use Rattle.mdr_meaning.specs.declared.wire.Wire.{Wire}
use Rattle.mdr_meaning.specs.declared.wire.Wire.TheVariants as wire
use Rattle.mdr_meaning.specs.declared.wire.WireView.{WireView}
use Rattle.mdr_model.specs.declared.memory.Cell.{Cell}
use Rattle.mdr_model.specs.declared.message.New.{New}
use Rattle.mdr_model.specs.Agreement.{names_it}
use Rattle.mdr_model.specs.Copies.{is_named}
use Rattle.mdr_model.specs.Memory.{Memory, born_at, cell_at, is_live}
use Rattle.mdr_model.specs.Values.{names_block}
use Rattle.mdr_paths.specs.Paths.{counted, is_in, leads}
use Rattle.mdr_paths.proofs.NodeLists.{in_both, is_in-filter, none_in}
use Rattle.mdr_shows.specs.Cells.{values_in}

module _ (program : Program) (touched : List Key) (m : Memory) where
  -- the cells of a pointer's extent lie in the block that it names
  in_extent : (p : WireView) (e : Extent) (c : Cell) → is_in cells (cells_in program touched m (wire.Ptr p) e) c ≡ true → names_block c.serial (wire.Ptr p) ≡ true
  in_extent p (Elements n) c h = eq-eqb p.serial c.serial (sym (in_from p.serial _ _ c h).block)
  in_extent p Fails c h = absurd (none_in cells c h)

  pub extent_named : (v : Wire) (e : Extent) (c : Cell) → is_in cells (cells_in program touched m v e) c ≡ true → names_block c.serial v ≡ true
  extent_named (wire.Ptr p) e c h = in_extent p e c h
  extent_named (wire.Int k n) e c h = absurd (none_in cells c h)
  extent_named wire.Null e c h = absurd (none_in cells c h)
  extent_named wire.Dead e c h = absurd (none_in cells c h)
  extent_named (wire.Fn f) e c h = absurd (none_in cells c h)
  extent_named (wire.Lock s) e c h = absurd (none_in cells c h)
  extent_named wire.NoValue e c h = absurd (none_in cells c h)

  -- those of roots in blocks that the roots name
  pub roots_named : (passed : List Wire) (rs : List Root) (c : Cell) → is_in cells (root_cells program touched m passed rs) c ≡ true → is_named (values_in rs) c.serial ≡ true
  unfolding root_cells
  roots_named passed [] c h = absurd (none_in cells c h)
  roots_named passed (r ∷ rs) c h = of (or_cases _ _ (sym (in_both cells (cells_in program touched m r.value (root_extent program touched m passed r)) (root_cells program touched m passed rs) c) ∙ h)) (roots_named passed rs c)
    where
      of : (is_in cells (cells_in program touched m r.value (root_extent program touched m passed r)) c ≡ true) ⊎ (is_in cells (root_cells program touched m passed rs) c ≡ true)
          → (is_in cells (root_cells program touched m passed rs) c ≡ true → is_named (values_in rs) c.serial ≡ true) → (names_block c.serial r.value || is_named (values_in rs) c.serial) ≡ true
      of (inl j) later = or_left _ _ (extent_named r.value _ c j)
      of (inr j) later = or_right _ _ (later j)

  -- and a cell that another one leads to lies in the block that the pointer in that one names
  led_named : (o : Option Wire) (e : Extent) (c : Cell) → is_in cells (cells_led program touched m o e) c ≡ true → names_it c.serial o ≡ true
  unfolding names_it
  led_named None e c h = absurd (none_in cells c h)
  led_named (Some v) e c h = extent_named v e c h

  pub edge_named : (d c : Cell) → leads (graph program touched m) d c ≡ true → names_it c.serial (cell_at m d) ≡ true
  unfolding leads graph
  edge_named d c h = led_named (cell_at m d) (extent_at program touched m d) c h

  -- ---- cells that count

  lives_in : (index : ℕ) (o : Option New) → counts_in program touched m index o ≡ true → is_some o ≡ true
  lives_in index None h = absurd (both_ways false refl h)
  lives_in index (Some block) h = refl

  -- a cell that counts lives
  pub counts_live : (c : Cell) → counts program touched m c ≡ true → is_live m c.serial ≡ true
  unfolding is_live
  counts_live c h = lives_in c.index (born_at m c.serial) h

  pub node_counts : (c : Cell) → is_in cells (counted (graph program touched m)) c ≡ true → counts program touched m c ≡ true
  unfolding counted graph
  node_counts c h = (and_parts _ _ (sym (is_in-filter cells (counts program touched m) (all_cells m) c) ∙ h)).0
