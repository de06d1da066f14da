-- Cells in their order, among which one is searched.
use Rattle.std.proofs.Common.{◌≡◌, ℕ, zero, suc, ◌<◌, Bool, true, false, ◌&&◌, ◌||◌, List, [], ◌∷◌, length, Option, Some, None, get_or, refl, sym, ◌∙◌, ap, arith}
use Rattle.std.specs.Prelude.{◌==◌, nat_lt}
use Rattle.std.specs.List.{list_any, prefix_len}
use Rattle.std.proofs.lemmas.Bool.Decides.{nat_tests}
use Rattle.mdr_model.specs.declared.memory.Cell.{Cell}
use Rattle.mdr_model.specs.Sets.{is_in, is_same_cell}
use Rattle.mdr_copy.specs.CellOrders.{is_before, is_behind, cells_rise}
use Rattle.mdr_copy.specs.Searches.{IsNowhere, IsFirstAt, IsSearchable}
use Rattle.mdr_copy.proofs.Searches.{found, another}

abbrev pub below : Cell → Cell → Bool
below c d = is_before d c

-- ---- the order

both : (a b : Bool) → (a && b) ≡ true → (a ≡ true) × (b ≡ true)
both true true e = (refl, refl)
both true false e = absurd cc
both false b e = absurd cc

smaller_isnt : (c d : Cell) → is_before d c ≡ true → is_same_cell c d ≡ false
smaller_isnt c d e = grind (arith, nat_tests)

not_smaller : (c d e : Cell) → is_before d e ≡ true → is_before d c ≡ false → is_before e c ≡ false
not_smaller c d e h f = grind (arith, nat_tests)

-- what comes behind something that isn't smaller is greater
greater_isnt : (c d e : Cell) → is_before d e ≡ true → is_before d c ≡ false → is_same_cell c e ≡ false
greater_isnt c d e h f = grind (arith, nat_tests)

-- ---- cells in order can be searched

no_smaller : (c d : Cell) (cs : List Cell) → cells_rise (Some d) cs ≡ true → is_before d c ≡ false → IsNowhere (below c) cs
unfolding cells_rise
no_smaller c d [] h f = tt
no_smaller c d (e ∷ cs) h f =
    let (here, more) = both (is_before d e) (cells_rise (Some e) cs) h in
    let g : is_before e c ≡ false = not_smaller c d e here f in
    (g, no_smaller c e cs more g)

no_equal : (c d : Cell) (cs : List Cell) → cells_rise (Some d) cs ≡ true → is_before d c ≡ false → IsNowhere (is_same_cell c) cs
unfolding cells_rise
no_equal c d [] h f = tt
no_equal c d (e ∷ cs) h f =
    let (here, more) = both (is_before d e) (cells_rise (Some e) cs) h in
    (greater_isnt c d e here f, no_equal c e cs more (not_smaller c d e here f))

searchable_behind : (c : Cell) (before : Option Cell) (cs : List Cell) → cells_rise before cs ≡ true → IsSearchable (below c) (is_same_cell c) cs
unfolding cells_rise
searchable_behind c before [] h = tt
searchable_behind c before (d ∷ cs) h =
    let (here, more) = both (is_behind before d) (cells_rise (Some d) cs) h in
    (smaller_isnt c d, (λ f. no_smaller c d cs more f, (λ f g. no_equal c d cs more f, searchable_behind c (Some d) cs more)))

pub searchable : (c : Cell) (cs : List Cell) → cells_rise None cs ≡ true → IsSearchable (below c) (is_same_cell c) cs
searchable c cs h = searchable_behind c None cs h

-- ---- what a search tells

pub in_there : (c : Cell) (cs : List Cell) (i : ℕ) → IsFirstAt (is_same_cell c) cs i → is_in cs c ≡ true
unfolding is_in
in_there c [] i h = absurd h
in_there c (d ∷ cs) zero h = ap (λ (t : Bool). t || list_any (is_same_cell c) cs) h
in_there c (d ∷ cs) (suc i) h = ap (λ (t : Bool). t || list_any (is_same_cell c) cs) h.0 ∙ in_there c cs i h.1

pub in_nowhere : (c : Cell) (cs : List Cell) → IsNowhere (is_same_cell c) cs → is_in cs c ≡ false
unfolding is_in
in_nowhere c [] h = refl
in_nowhere c (d ∷ cs) h = ap (λ (t : Bool). t || list_any (is_same_cell c) cs) h.0 ∙ in_nowhere c cs h.1

-- ---- by the cell at the place where a search ends

cell_there : (cs : List Cell) (i : ℕ) (d : Cell) → i < length cs → get_or cs i d ≡ get_or cs i (get_or cs i d)
cell_there [] i d l = absurd (omega (arith, l))
cell_there (x ∷ cs) zero d l = refl
cell_there (x ∷ cs) (suc i) d l = cell_there cs i d (omega (arith, l))

pub in_at : (c : Cell) (cs : List Cell) (i : ℕ) (d : Cell) → cells_rise None cs ≡ true → i ≡ prefix_len (below c) cs → i < length cs → is_same_cell c (get_or cs i d) ≡ true → true ≡ is_in cs c
in_at c cs i d up at l e = sym (in_there c cs i (found (below c) (is_same_cell c) cs i (get_or cs i d) (searchable c cs up) at l (cell_there cs i d l) e))

pub not_at : (c : Cell) (cs : List Cell) (i : ℕ) (d : Cell) → cells_rise None cs ≡ true → i ≡ prefix_len (below c) cs → i < length cs → is_same_cell c (get_or cs i d) ≡ false → false ≡ is_in cs c
not_at c cs i d up at l e = sym (in_nowhere c cs (another (below c) (is_same_cell c) cs i (get_or cs i d) (searchable c cs up) at l (cell_there cs i d l) e))
