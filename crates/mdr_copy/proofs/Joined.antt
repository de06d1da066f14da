-- Cells taken from the last to the first.
use Rattle.std.proofs.Common.{◌≡◌, ◌<◌, ◌≤◌, ◌+◌, ◌-◌, ℕ, List, [], ◌∷◌, length, get_or, drop, reverse, refl, sym, ap, ◌∙◌, arith}
use Rattle.std.proofs.Math.Seq.{drop-length}
use Rattle.mdr_model.specs.declared.message.SetRun.{SetRun}
use Rattle.std.proofs.lemmas.List.{at_drop_more}
use Rattle.mdr_model.specs.declared.memory.Cell.{Cell}
use Rattle.mdr_model.specs.Sets.{joined, runs_of_cells}

pub runs_of_none : runs_of_cells [] ≡ []
unfolding runs_of_cells
runs_of_none = refl

pub runs_before : (c : Cell) (cs : List Cell) → runs_of_cells (c ∷ cs) ≡ joined c (runs_of_cells cs)
unfolding runs_of_cells
runs_before c cs = refl

pub first_cells : (cells : List Cell) (runs : List SetRun) → runs ≡ [] → reverse runs ≡ runs_of_cells (drop (length cells) cells)
unfolding runs_of_cells
first_cells cells runs none = ap reverse none ∙ sym (ap runs_of_cells (drop-length cells))

pub cells_before : (cells : List Cell) (i : ℕ) (c d : Cell) (before after : List SetRun) → 0 < i → i ≤ length cells → c ≡ get_or cells (i - 1) d → reverse after ≡ joined c (reverse before) → reverse before ≡ runs_of_cells (drop i cells) → reverse after ≡ runs_of_cells (drop (i - 1) cells)
cells_before cells i c d before after some within is made so_far =
    let inside : i - 1 < length cells = omega arith in
    let back : (i - 1) + 1 ≡ i = omega arith in
    made
    ∙ ap (λ (runs : List SetRun). joined c runs) so_far
    ∙ ap (λ (n : ℕ). joined c (runs_of_cells (drop n cells))) (sym back)
    ∙ sym (runs_before c (drop ((i - 1) + 1) cells))
    ∙ ap (λ (x : Cell). runs_of_cells (x ∷ drop ((i - 1) + 1) cells)) is
    ∙ sym (at_drop_more runs_of_cells cells (i - 1) d inside)
