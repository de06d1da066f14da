-- The object that is a live block.
use Rattle.std.proofs.Common.{◌≡◌, ℕ, Bool, true, false, nat_eq, cond, List, [], ◌∷◌, ◌++◌, append-nil, Option, Some, None, refl, sym, ap, ◌∙◌}
use Rattle.std.specs.Prelude.{map}
use Rattle.mdr_core.specs.declared.program.Program.{Program}
use Rattle.mdr_core.specs.Layout.{chosen}
use Rattle.mdr_meaning.specs.declared.wire.Wire.{Wire}
use Rattle.mdr_model.specs.declared.memory.MemoryBlock.{MemoryBlock}
use Rattle.mdr_model.specs.declared.message.New.{New}
use Rattle.mdr_model.specs.declared.outcome.Object.{Object}
use Rattle.mdr_model.specs.Memory.{Memory, born_at}
use Rattle.mdr_plain.specs.Outcome.{object_of, objects_at, seen_of}
use Rattle.mdr_plain.specs.Scripts.{block_cells}

abbrev pub object_born : Program → List ℕ → New → List Wire → Object
object_born program serials born cells = record { ty = born.ty; count = born.count; cells = map (seen_of program serials) cells }

abbrev pub objects_born : Program → List ℕ → Option New → List Wire → List Object
objects_born program serials None cells = []
objects_born program serials (Some born) cells = object_born program serials born cells ∷ []

module _ (program : Program) (serials : List ℕ) where
  at_by : (b : MemoryBlock) (m : Memory) (serial : ℕ) (t : Bool)
      → objects_at program serials m serial ≡ objects_born program serials (born_at m serial) (block_cells m serial)
      → chosen t (object_of program serials b ∷ []) (objects_at program serials m serial) ≡ objects_born program serials (cond t (Some b.born) (born_at m serial)) (chosen t b.cells (block_cells m serial))
  at_by b m serial true rest = refl
  at_by b m serial false rest = rest

  pub objects_are : (m : Memory) (serial : ℕ) → objects_at program serials m serial ≡ objects_born program serials (born_at m serial) (block_cells m serial)
  unfolding born_at block_cells
  objects_are [] serial = refl
  objects_are (b ∷ m) serial = at_by b m serial (nat_eq b.born.serial serial) (objects_are m serial)

-- what stands behind the others then, where a block with the serial lives, and where none does
pub one_more : (program : Program) (serials : List ℕ) (m : Memory) (serial : ℕ) (born : New) (o : Object) (before after : List Object)
    → Some born ≡ born_at m serial → o ≡ object_born program serials born (block_cells m serial) → after ≡ before ++ o ∷ [] → after ≡ before ++ objects_at program serials m serial
one_more program serials m serial born o before after lives is pushed =
    pushed
    ∙ ap (λ x. before ++ x ∷ []) is
    ∙ ap (λ x. before ++ objects_born program serials x (block_cells m serial)) lives
    ∙ ap (λ os. before ++ os) (sym (objects_are program serials m serial))

pub none_more : (program : Program) (serials : List ℕ) (m : Memory) (serial : ℕ) (before : List Object) → None ≡ born_at m serial → before ≡ before ++ objects_at program serials m serial
none_more program serials m serial before lives =
    sym (append-nil before)
    ∙ ap (λ x. before ++ objects_born program serials x (block_cells m serial)) lives
    ∙ ap (λ os. before ++ os) (sym (objects_are program serials m serial))
