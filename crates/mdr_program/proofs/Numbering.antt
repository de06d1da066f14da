-- Pieces and parameters, one more behind others.
use Rattle.std.proofs.Common.{ℕ, suc, ◌≡◌, ◌+◌, refl, List, [], ◌∷◌, ◌++◌, Bool, Option, slice_get, length, ap, arith}
use Rattle.std.proofs.Math.Path.{◌∙◌}
use Rattle.mdr_core.specs.declared.program.Param.{Param}
use Rattle.mdr_check.specs.declared.file.Piece.{Piece}
use Rattle.mdr_program.specs.declared.parts.Parts.{Parts}
use Rattle.mdr_program.specs.Parts.{behind_piece, parts_behind, flagged, marked}

pub one_piece : (ps : Parts) (xs : List Piece) (x : Piece) → behind_piece (parts_behind ps xs) x ≡ parts_behind ps (xs ++ x ∷ [])
unfolding parts_behind
one_piece ps [] x = refl
one_piece ps (y ∷ ys) x = one_piece (behind_piece ps y) ys x

pub marked_length : (objects : List Bool) (i : ℕ) (ps : List Param) → length (marked objects i ps) ≡ length ps
unfolding marked
marked_length objects i [] = refl
marked_length objects i (p ∷ ps) = ap suc (marked_length objects (i + 1) ps)

marked_behind : (objects : List Bool) (i : ℕ) (ps : List Param) (p : Param) → marked objects i ps ++ flagged p (slice_get objects (i + length ps)) ∷ [] ≡ marked objects i (ps ++ p ∷ [])
unfolding marked
marked_behind objects i [] p = ap (λ n. flagged p (slice_get objects n) ∷ []) (let e : i + 0 ≡ i = omega arith in e)
marked_behind objects i (q ∷ qs) p =
    let e : i + suc (length qs) ≡ i + 1 + length qs = omega arith in
    ap (λ n. flagged q (slice_get objects i) ∷ (marked objects (i + 1) qs ++ flagged p (slice_get objects n) ∷ [])) e
    ∙ ap (λ (rs : List Param). flagged q (slice_get objects i) ∷ rs) (marked_behind objects (i + 1) qs p)

-- one parameter more, whose number is how many there are
pub one_param : (objects : List Bool) (all more ps : List Param) (p q : Param) (n : ℕ) (o : Option Bool) → all ≡ marked objects 0 ps → n ≡ length all → o ≡ slice_get objects n → q ≡ flagged p o → more ≡ all ++ q ∷ [] → more ≡ marked objects 0 (ps ++ p ∷ [])
one_param objects all more ps p q n o so_far many which marks grown =
    let none : length ps ≡ 0 + length ps = omega arith in
    let count : n ≡ 0 + length ps = many ∙ ap length so_far ∙ marked_length objects 0 ps ∙ none in
    grown
    ∙ ap (λ (r : Param). all ++ r ∷ []) (marks ∙ ap (flagged p) (which ∙ ap (slice_get objects) count))
    ∙ ap (λ (rs : List Param). rs ++ flagged p (slice_get objects (0 + length ps)) ∷ []) so_far
    ∙ marked_behind objects 0 ps p
