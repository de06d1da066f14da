-- The cells of blocks, their keys and their zeros are read of a program's types, structs and globals alone.
use Rattle.std.proofs.Common.{◌≡◌, ℕ, Bool, not, ◌&&◌, nat_lt, nat_le, List, [], ◌∷◌, ◌++◌, map, length, filter, Option, Some, None, slice_get, refl, ap, ◌∙◌}
use Rattle.std.specs.List.{list_all}
use Rattle.std.specs.Option.{option_map}
use mathlib.Core.Path.{fun_ext}
use Rattle.mdr_core.specs.declared.plan.Key.{Key}
use Rattle.mdr_core.specs.declared.program.Func.{Func}
use Rattle.mdr_core.specs.declared.program.Program.{Program}
use Rattle.mdr_core.specs.declared.types.Ty.{Ty}
use Rattle.mdr_core.specs.Layout.{Leaf, cells, cells_or, key_by, repeated}
use Rattle.mdr_extents.specs.Around.{global_of, key_of}
use Rattle.mdr_extents.specs.Extent.{has_key, is_touched}
use Rattle.mdr_extents.specs.Reaching.{cells_of_block, counts, counts_in, own_cells}
use Rattle.mdr_model.specs.declared.memory.Cell.{Cell}
use Rattle.mdr_model.specs.declared.memory.MemoryBlock.{MemoryBlock}
use Rattle.mdr_model.specs.declared.message.New.{New}
use Rattle.mdr_model.specs.declared.message.Told.{Told}
use Rattle.mdr_model.specs.Copies.{agreed_after, inserted, put_runs, with_news, without}
use Rattle.mdr_model.specs.Memory.{Memory, born_at, is_live, leaf_at, leaves_of, zero_block, zero_of}
use Rattle.mdr_model.specs.User.{has_shape, has_type, lives_fit, deaths_fit, renewed_copy, rise_after}
use Rattle.mdr_split.specs.User.{cells_of_news}
use Rattle.mdr_user_text.proofs.Headings.{with_funcs}

module _ (program : Program) (funcs : List Func) where
  abbrev other : Program
  other = with_funcs program funcs

  -- ---- cells

  same_cells : (o : Option Ty) → cells_or other o ≡ cells_or program o
  unfolding cells
  same_cells None = refl
  same_cells (Some ty) = refl

  pub same_leaves : (n : New) → leaves_of other n ≡ leaves_of program n
  unfolding leaves_of
  same_leaves n = ap (repeated n.count) (same_cells (slice_get program.types n.ty))

  pub same_leaf : (n : New) (index : ℕ) → leaf_at other n index ≡ leaf_at program n index
  same_leaf n index = ap (λ (ls : List Leaf). slice_get ls index) (same_leaves n)

  pub same_zeros : (n : New) → zero_block other n ≡ zero_block program n
  same_zeros n = ap (λ (ls : List Leaf). record { born = n; cells = map zero_of ls }) (same_leaves n)

  -- ---- keys

  same_key : (n : New) (index : ℕ) → key_of other n index ≡ key_of program n index
  unfolding key_of
  same_key n index = ap (option_map (λ (l : Leaf). key_by l.home (global_of program n) n.ty)) (same_leaf n index)

  same_touched : (touched : List Key) (n : New) (index : ℕ) → is_touched other touched n index ≡ is_touched program touched n index
  unfolding is_touched
  same_touched touched n index = ap (has_key touched) (same_key n index)

  same_counts_in : (touched : List Key) (m : Memory) (index : ℕ) (o : Option New) → counts_in other touched m index o ≡ counts_in program touched m index o
  same_counts_in touched m index None = refl
  same_counts_in touched m index (Some block) = same_touched touched block index

  pub same_counts : (touched : List Key) (m : Memory) (c : Cell) → counts other touched m c ≡ counts program touched m c
  same_counts touched m c = same_counts_in touched m c.index (born_at m c.serial)

  pub same_own : (touched : List Key) (b : MemoryBlock) → own_cells other touched b ≡ own_cells program touched b
  unfolding own_cells
  same_own touched b = ap (λ (p : Cell → Bool). filter p (cells_of_block b)) (fun_ext (λ (c : Cell). same_touched touched b.born c.index))

  pub same_news_cells : (touched : List Key) (news : List New) → cells_of_news other touched news ≡ cells_of_news program touched news
  unfolding cells_of_news
  same_news_cells touched [] = refl
  same_news_cells touched (n ∷ news) =
      ap (λ (cs : List Cell). cs ++ cells_of_news other touched news) (same_own touched (zero_block other n) ∙ ap (own_cells program touched) (same_zeros n))
      ∙ ap (λ (cs : List Cell). own_cells program touched (zero_block program n) ++ cs) (same_news_cells touched news)

  -- ---- births and deaths

  pub same_news : (news : List New) (copy : Memory) → with_news other news copy ≡ with_news program news copy
  unfolding with_news
  same_news [] copy = refl
  same_news (n ∷ news) copy =
      ap (λ (b : MemoryBlock). inserted b (with_news other news copy)) (same_zeros n)
      ∙ ap (inserted (zero_block program n)) (same_news news copy)

  pub same_renewed : (deaths : List ℕ) (news : List New) (copy : Memory) → renewed_copy other deaths news copy ≡ renewed_copy program deaths news copy
  same_renewed deaths news copy = same_news news (without deaths copy)

  pub same_agreed : (told : Told) (copy : Memory) → agreed_after other told copy ≡ agreed_after program told copy
  unfolding agreed_after
  same_agreed told copy = ap (put_runs told.runs) (same_news told.news (without told.deaths copy))

  same_shape : (n : New) → has_shape other n ≡ has_shape program n
  same_shape n = ap (λ (ls : List Leaf). has_type program n.ty && nat_lt 0 (length ls) && nat_le (length ls) 65536) (same_leaves n)

  pub same_lives : (copy : Memory) (deaths : List ℕ) (news : List New) → lives_fit other copy deaths news ≡ lives_fit program copy deaths news
  unfolding lives_fit
  same_lives copy deaths news =
      ap (λ (comes : New → Bool). deaths_fit program copy deaths && (rise_after None (map (λ (n : New). n.serial) news) && list_all comes news))
      (fun_ext (λ (n : New). ap (λ (b : Bool). not (is_live (without deaths copy) n.serial) && b) (same_shape n)))
