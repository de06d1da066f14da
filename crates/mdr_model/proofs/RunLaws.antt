-- The changed cells of a rising set.
use Rattle.std.proofs.Common.{◌≡◌, ℕ, zero, suc, Bool, true, false, cond, List, [], ◌∷◌, ◌++◌, map, length, refl, ◌∙◌, ap, arith, inl, inr}
use Rattle.std.specs.List.{AllByRecursion}
use Rattle.mdr_model.specs.Memory.{Memory, Cell}
use Rattle.mdr_model.specs.Sets.{cells_from}
use Rattle.mdr_model.specs.Copies.{held, has_changed, changed_cells}
use Rattle.mdr_model.proofs.SetLaws.{IsBefore, IsBeforeAll}

pub all_left : {A : Type 0} (P : A → Type 0) (xs ys : List A) → AllByRecursion P (xs ++ ys) → AllByRecursion P xs
all_left P [] ys all = tt
all_left P (x ∷ xs) ys all = (all.0, all_left P xs ys all.1)

pub all_right : {A : Type 0} (P : A → Type 0) (xs ys : List A) → AllByRecursion P (xs ++ ys) → AllByRecursion P ys
all_right P [] ys all = all
all_right P (x ∷ xs) ys all = all_right P xs ys all.1

pub length-cells : (now : Memory) (serial index n : ℕ) → length (map (held now) (cells_from serial index n)) ≡ n
unfolding cells_from
length-cells now serial index zero = refl
length-cells now serial index (suc n) = ap suc (length-cells now serial (suc index) n)

-- ---- cells in their order

pub later_still : (c d e : Cell) → IsBefore c d → IsBefore d e → IsBefore c e
later_still c d e (inl x) (inl y) = inl (omega arith)
later_still c d e (inl x) (inr y) = inl (omega (arith, y.0))
later_still c d e (inr x) (inl y) = inl (omega (arith, x.0))
later_still c d e (inr x) (inr y) = inr (x.0 ∙ y.0, omega (arith, x.1, y.1))

pub before_next : (c d : Cell) (ds : List Cell) → IsBefore c d → IsBeforeAll d ds → IsBeforeAll c ds
before_next c d [] x y = tt
before_next c d (e ∷ es) x y = later_still c d e x y

pub changed_all : (P : Cell → Type 0) (cs : List Cell) (agreed now : Memory) → AllByRecursion P cs → AllByRecursion P (changed_cells cs agreed now)
unfolding changed_cells
changed_all P [] agreed now all = tt
changed_all P (c ∷ cs) agreed now all = of (has_changed agreed now c) (changed_all P cs agreed now all.1)
  where
    of : (t : Bool) → AllByRecursion P (changed_cells cs agreed now) → AllByRecursion P (cond t (c ∷ changed_cells cs agreed now) (changed_cells cs agreed now))
    of true later = (all.0, later)
    of false later = later
