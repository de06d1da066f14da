-- Rows of values, tested one by one.
use Rattle.std.proofs.Common.{◌≡◌, ℕ, suc, ◌+◌, ◌<◌, ◌≤◌, List, [], ◌∷◌, Bool, true, false, ◌&&◌, length, drop, get_or, Option, Some, None, refl, sym, ap, ◌∙◌, arith}
use Rattle.std.proofs.lemmas.List.{at_drop_more, at_drop_all}
use Rattle.std.specs.List.{list_all}
use Rattle.std.specs.Option.{option_map}
use Rattle.mdr_copy.specs.CellTypes.{type_of}
use Rattle.mdr_core.specs.declared.types.Ty.{Ty}
use Rattle.mdr_core.specs.Layout.{Leaf}
use Rattle.mdr_fits.specs.Judged.{all_fit}
use Rattle.mdr_meaning.specs.declared.wire.Wire.{Wire}
use Rattle.mdr_meaning.specs.declared.wire.Wire.TheVariants as wire
use Rattle.mdr_model.specs.declared.memory.Cell.{Cell}
use Rattle.mdr_model.specs.declared.message.New.{New}
use Rattle.mdr_model.specs.Copies.{CellValue, numbered}
use Rattle.mdr_model.specs.Memory.{born_at}
use Rattle.mdr_model.specs.Sets.{is_in}
use Rattle.mdr_split.specs.Fits.{Places}
use Rattle.mdr_split.specs.Legal.{fits_block, fits_cell, fits_leaf}

-- the cells of one block
pub cells_of_a_block : (p : Places) (serial first : ℕ) (values : List Wire) → list_all (fits_cell p) (numbered serial first values) ≡ all_fit p (born_at p.memory serial) first values
unfolding fits_cell numbered
cells_of_a_block p serial first [] = refl
cells_of_a_block p serial first (v ∷ vs) = ap (λ (b : Bool). fits_block p (born_at p.memory serial) first v && b) (cells_of_a_block p serial (suc first) vs)

fit_and_rest : (p : Places) (block : Option New) (first i : ℕ) (values : List Wire) (v : Wire) → i < length values → v ≡ get_or values i v
    → all_fit p block (first + i) (drop i values) ≡ (fits_block p block (first + i) v && all_fit p block (first + (i + 1)) (drop (i + 1) values))
fit_and_rest p block first i values v inside is =
    let after : suc (first + i) ≡ first + (i + 1) = omega arith in
    at_drop_more (λ (vs : List Wire). all_fit p block (first + i) vs) values i v inside
    ∙ ap (λ (w : Wire). fits_block p block (first + i) w && all_fit p block (suc (first + i)) (drop (i + 1) values)) (sym is)
    ∙ ap (λ (k : ℕ). fits_block p block (first + i) v && all_fit p block k (drop (i + 1) values)) after

pub fits_next : (p : Places) (block : Option New) (first i : ℕ) (values : List Wire) (v : Wire) (all : Bool) → i < length values → v ≡ get_or values i v → fits_block p block (first + i) v ≡ true
    → all_fit p block (first + i) (drop i values) ≡ all → all_fit p block (first + (i + 1)) (drop (i + 1) values) ≡ all
fits_next p block first i values v all inside is fit so_far =
    sym (fit_and_rest p block first i values v inside is ∙ ap (λ (b : Bool). b && all_fit p block (first + (i + 1)) (drop (i + 1) values)) fit) ∙ so_far

pub fits_not : (p : Places) (block : Option New) (first i : ℕ) (values : List Wire) (v : Wire) (all : Bool) → i < length values → v ≡ get_or values i v → fits_block p block (first + i) v ≡ false
    → all_fit p block (first + i) (drop i values) ≡ all → false ≡ all
fits_not p block first i values v all inside is fit so_far =
    sym (fit_and_rest p block first i values v inside is ∙ ap (λ (b : Bool). b && all_fit p block (first + (i + 1)) (drop (i + 1) values)) fit) ∙ so_far

pub fits_all : (p : Places) (block : Option New) (first i : ℕ) (values : List Wire) (all : Bool) → length values ≤ i → all_fit p block (first + i) (drop i values) ≡ all → true ≡ all
fits_all p block first i values all over so_far = sym (at_drop_all (λ (vs : List Wire). all_fit p block (first + i) vs) values i over) ∙ so_far

-- the cells of a row lie in a set
abbrev pub all_in : List Cell → ℕ → ℕ → List Wire → Bool
all_in view serial first values = list_all (λ (x : CellValue). is_in view x.cell) (numbered serial first values)

cell_and_rest : (view : List Cell) (serial first i : ℕ) (values : List Wire) → i < length values → all_in view serial (first + i) (drop i values) ≡ (is_in view (record { serial = serial; index = first + i }) && all_in view serial (first + (i + 1)) (drop (i + 1) values))
unfolding numbered
cell_and_rest view serial first i values inside =
    let after : suc (first + i) ≡ first + (i + 1) = omega arith in
    at_drop_more (λ (vs : List Wire). all_in view serial (first + i) vs) values i wire.NoValue inside
    ∙ ap (λ (k : ℕ). is_in view (record { serial = serial; index = first + i }) && all_in view serial k (drop (i + 1) values)) after

pub lies_next : (view : List Cell) (serial first i : ℕ) (values : List Wire) (all : Bool) → i < length values → is_in view (record { serial = serial; index = first + i }) ≡ true → all_in view serial (first + i) (drop i values) ≡ all → all_in view serial (first + (i + 1)) (drop (i + 1) values) ≡ all
lies_next view serial first i values all inside lies so_far =
    sym (cell_and_rest view serial first i values inside ∙ ap (λ (b : Bool). b && all_in view serial (first + (i + 1)) (drop (i + 1) values)) lies) ∙ so_far

pub lies_not : (view : List Cell) (serial first i : ℕ) (values : List Wire) (all : Bool) → i < length values → is_in view (record { serial = serial; index = first + i }) ≡ false → all_in view serial (first + i) (drop i values) ≡ all → false ≡ all
lies_not view serial first i values all inside lies so_far =
    sym (cell_and_rest view serial first i values inside ∙ ap (λ (b : Bool). b && all_in view serial (first + (i + 1)) (drop (i + 1) values)) lies) ∙ so_far

pub lies_all : (view : List Cell) (serial first i : ℕ) (values : List Wire) (all : Bool) → length values ≤ i → all_in view serial (first + i) (drop i values) ≡ all → true ≡ all
unfolding numbered
lies_all view serial first i values all over so_far = sym (at_drop_all (λ (vs : List Wire). all_in view serial (first + i) vs) values i over) ∙ so_far

-- ---- a cell by its type

pub leaf_fits : (test : Ty → Wire → Bool) (o : Option Leaf) (t : Ty) (v : Wire) → option_map type_of o ≡ Some t → test t v ≡ fits_leaf test o v
leaf_fits test None t v e = absurd (Prim.cc)
leaf_fits test (Some leaf) t v e = let same : leaf.type ≡ t = Prim.cc in ap (λ (x : Ty). test x v) (sym same)

pub no_leaf : (test : Ty → Wire → Bool) (o : Option Leaf) (v : Wire) → o ≡ None → false ≡ fits_leaf test o v
no_leaf test None v e = refl
no_leaf test (Some leaf) v e = absurd (Prim.cc)
