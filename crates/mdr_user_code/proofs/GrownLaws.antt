-- The cells of new blocks.
use Rattle.std.proofs.Common.{◌≡◌, ℕ, zero, suc, ◌*◌, ◌<◌, ◌≤◌, Bool, true, false, not, List, [], ◌∷◌, length, filter, get_or, Option, Some, None, refl, sym, ◌∙◌, ap, subst, leb-true, arith}
use Rattle.std.specs.Prelude.{is_none}
use Rattle.std.specs.List.{list_all}
use Rattle.std.proofs.lemmas.Bool.{and_parts}
use Rattle.std.proofs.lemmas.Option.{slice_get_within}
use Rattle.std.proofs.lemmas.List.{length-map}
use Rattle.mdr_core.specs.declared.plan.Key.{Key}
use Rattle.mdr_core.specs.declared.program.Program.{Program}
use Rattle.mdr_core.specs.declared.types.Ty.{Ty}
use Rattle.mdr_core.specs.Layout.{cells_at}
use Rattle.mdr_core.proofs.Lying.{length-repeated}
use Rattle.mdr_extents.specs.Extent.{is_touched}
use Rattle.mdr_extents.specs.Reaching.{own_cells}
use Rattle.mdr_model.specs.declared.memory.Cell.{Cell}
use Rattle.mdr_model.specs.declared.message.New.{New}
use Rattle.mdr_model.specs.Memory.{leaves_of, size_of, zero_block, zero_of}
use Rattle.mdr_model.specs.Sets.{cells_from}
use Rattle.mdr_model.specs.User.{has_shape}
use Rattle.mdr_model.specs.Values.{type_at}

-- what is true of all is true of each
pub all_there : {A : Type 0} (test : A → Bool) (xs : List A) (i : ℕ) (default : A) → list_all test xs ≡ true → i < length xs → test (get_or xs i default) ≡ true
all_there test [] i d h low = absurd (omega (arith, low))
all_there test (x ∷ xs) zero d h low = (and_parts (test x) (list_all test xs) h).0
all_there test (x ∷ xs) (suc i) d h low = all_there test xs i d (and_parts (test x) (list_all test xs) h).1 (omega (arith, low))

module _ (program : Program) (block : New) where
  pub shape_named : has_shape program block ≡ true → block.ty < length program.types
  shape_named h = of (type_at program block.ty) refl (and_parts _ _ (and_parts _ _ h).0).0
    where
      of : (o : Option Ty) → type_at program block.ty ≡ o → not (is_none o) ≡ true → block.ty < length program.types
      of None e k = absurd cc
      of (Some ty) e k = slice_get_within program.types block.ty ty e

  pub sizes : (size n : ℕ) → size ≡ length (cells_at program block.ty) → n ≡ block.count * size → n ≡ size_of program block
  unfolding leaves_of
  sizes size n e is = is ∙ ap (λ k. block.count * k) e ∙ sym (length-repeated block.count (cells_at program block.ty))

  pub shape_small : (size : ℕ) → size ≡ length (cells_at program block.ty) → has_shape program block ≡ true → block.count * size ≤ 65536
  shape_small size e h = subst (λ n. n ≤ 65536) (sym (sizes size (block.count * size) e refl)) (leb-true (size_of program block) 65536 (and_parts _ _ h).1)

  pub own_is : (touched : List Key) (size : ℕ) → size ≡ size_of program block
      → filter (λ (c : Cell). is_touched program touched block c.index) (cells_from block.serial 0 size) ≡ own_cells program touched (zero_block program block)
  unfolding own_cells
  own_is touched size e = ap (λ n. filter (λ (c : Cell). is_touched program touched block c.index) (cells_from block.serial 0 n)) (e ∙ sym (length-map (leaves_of program block) zero_of))
