-- The cells of a block are scalars and locks, so each has a zero that fits.
use Rattle.std.proofs.Common.{◌≡◌, ℕ, zero, suc, ◌+◌, Bool, true, false, ◌==◌, List, [], ◌∷◌, ◌++◌, slice_get, Option, Some, None, refl, sym, ap, ◌∙◌, subst}
use Rattle.std.specs.Prelude.{option_map}
use Rattle.mdr_core.specs.declared.program.Field.{Field}
use Rattle.mdr_core.specs.declared.program.Program.{Program}
use Rattle.mdr_core.specs.declared.program.StructDef.{StructDef}
use Rattle.mdr_core.specs.declared.types.Ty.{Ty, out-Ty}
use Rattle.mdr_core.specs.declared.types.Ty.TheOpen.{Ty-F}
use Rattle.mdr_core.specs.Layout.{Alone, Home, Leaf, cells, cells_or, chosen, field_leaves, fields_of, leaves, leaves_below, leaves_by, repeated, struct_cells}
use Rattle.mdr_meaning.specs.declared.wire.Wire.{Wire}
use Rattle.mdr_meaning.specs.Fit.{Knowledge}
use Rattle.mdr_model.specs.declared.message.New.{New}
use Rattle.mdr_model.specs.Agreement.{cell_zero}
use Rattle.mdr_model.specs.Memory.{leaf_at, leaves_of, zero_of}
use Rattle.mdr_holds.specs.Holding.{FitsCell}
use Rattle.mdr_holds.proofs.Fitting.{is_cell_by, some_is, zero_fits}

abbrev AreCells : List Leaf → Type 0
AreCells [] = Unit {0}
AreCells (l ∷ ls) = is_cell_by (out-Ty l.type) × AreCells ls

both : (xs ys : List Leaf) → AreCells xs → AreCells ys → AreCells (xs ++ ys)
both [] ys h k = k
both (x ∷ xs) ys h k = (h.0, both xs ys h.1 k)

many : (n : ℕ) (xs : List Leaf) → AreCells xs → AreCells (repeated n xs)
unfolding repeated
many zero xs h = tt
many (suc n) xs h = both xs (repeated n xs) h (many n xs h)

abbrev KnownCells : (ℕ → List Leaf) → Type 0
KnownCells known = (s : ℕ) → AreCells (known s)

layer_cells : (known : ℕ → List Leaf) → KnownCells known → (home : Home) (ty : Ty) (l : Ty-F Ty) → out-Ty ty ≡ l → AreCells (leaves_by known home ty l)
layer_cells known h home ty (Ty-F.Int k) e = (subst is_cell_by (sym e) tt, tt)
layer_cells known h home ty Ty-F.Lock e = (subst is_cell_by (sym e) tt, tt)
layer_cells known h home ty (Ty-F.Struct s) e = h s
layer_cells known h home ty (Ty-F.Ptr t) e = (subst is_cell_by (sym e) tt, tt)
layer_cells known h home ty Ty-F.VoidPtr e = (subst is_cell_by (sym e) tt, tt)
layer_cells known h home ty (Ty-F.Fun ts) e = (subst is_cell_by (sym e) tt, tt)
layer_cells known h home ty Ty-F.Void e = tt

leaves_cells : (known : ℕ → List Leaf) → KnownCells known → (home : Home) (ty : Ty) → AreCells (leaves known home ty)
unfolding leaves
leaves_cells known h home ty = layer_cells known h home ty (out-Ty ty) refl

fields_cells : (known : ℕ → List Leaf) → KnownCells known → (s f : ℕ) (xs : List Field) → AreCells (field_leaves known s f xs)
unfolding field_leaves
fields_cells known h s f [] = tt
fields_cells known h s f (x ∷ xs) = both _ _ (many x.count _ (leaves_cells known h (Home.Within s f) x.ty)) (fields_cells known h s (f + 1) xs)

either : (b : Bool) (xs ys : List Leaf) → AreCells xs → AreCells ys → AreCells (chosen b xs ys)
either true xs ys h k = h
either false xs ys h k = k

below_cells : (structs : List StructDef) (n : ℕ) → KnownCells (leaves_below structs n)
unfolding leaves_below
below_cells structs zero s = tt
below_cells structs (suc n) s = either (s == n) _ _ (fields_cells (leaves_below structs n) (below_cells structs n) n 0 (fields_of structs n)) (below_cells structs n s)

structs_cells : (structs : List StructDef) → KnownCells (struct_cells structs)
unfolding struct_cells
structs_cells structs s = fields_cells (leaves_below structs s) (below_cells structs s) s 0 (fields_of structs s)

cells_or_cells : (program : Program) (o : Option Ty) → AreCells (cells_or program o)
unfolding cells
cells_or_cells program None = tt
cells_or_cells program (Some ty) = leaves_cells (struct_cells program.structs) (structs_cells program.structs) Alone ty

block_cells : (program : Program) (b : New) → AreCells (leaves_of program b)
unfolding leaves_of
block_cells program b = many b.count _ (cells_or_cells program (slice_get program.types b.ty))

cell_got : (xs : List Leaf) (i : ℕ) (leaf : Leaf) → AreCells xs → slice_get xs i ≡ Some leaf → is_cell_by (out-Ty leaf.type)
cell_got [] i leaf h e = absurd cc
cell_got (x ∷ xs) zero leaf h e = let same : x ≡ leaf = some_is e in subst (λ (l : Leaf). is_cell_by (out-Ty l.type)) same h.0
cell_got (x ∷ xs) (suc i) leaf h e = cell_got xs i leaf h.1 e

-- ---- a cell of a new block fits

pub zero_cell_fits : (program : Program) (K : Knowledge) (b : New) (i : ℕ) (leaf : Leaf) (v : Wire) → leaf_at program b i ≡ Some leaf → cell_zero program b i ≡ Some v → FitsCell program K leaf.type v
unfolding cell_zero
zero_cell_fits program K b i leaf v e z =
    let is : zero_of leaf ≡ v = some_is (sym (ap (option_map zero_of) e) ∙ z) in
    subst (FitsCell program K leaf.type) is (zero_fits program K leaf.type (cell_got (leaves_of program b) i leaf (block_cells program b) e))
