-- What stands at a place.
use Rattle.std.proofs.Common.{◌≡◌, ℕ, zero, suc, ◌-◌, ◌==◌, Bool, true, false, List, [], ◌∷◌, length, Option, Some, None, option_map, slice_get, refl, ap, sym, ◌∙◌, arith, ne_eqb}
use Rattle.mdr_core.specs.Code.{Code, Codes}
use Rattle.mdr_core.specs.Folds.{code_of, codes_of}
use Rattle.mdr_core.specs.declared.code.Stmt.{Stmt}
use Rattle.mdr_exec.specs.declared.places.Part.{Part}
use Rattle.mdr_exec.specs.declared.places.Turn.{Turn}
use Rattle.mdr_exec.specs.Found.{codes_with, next_turn, turn_code}
use Rattle.mdr_exec.specs.Places.{code_at, code_before, list_of, part_of}

pub found_at : (ss : List Stmt) (t : Option Turn) (i : ℕ) (s : Stmt) → Some s ≡ slice_get ss i → ◌≡◌ {A = Option Code} (Some (code_of s)) (code_at (codes_with ss t) i)
unfolding code_at
found_at [] t i s h = absurd (cc h)
found_at (x ∷ ss) None zero s h = cc h
found_at (x ∷ ss) (Some t) zero s h = cc h
found_at (x ∷ ss) None (suc i) s h = found_at ss None i s h
found_at (x ∷ ss) (Some t) (suc i) s h = found_at ss (Some t) i s h

no_end : (i : ℕ) → (suc i == 0) ≡ false
no_end i = grind arith

same_end : (i n : ℕ) → (i == n) ≡ (suc i == suc n)
same_end i n = grind arith

no_turn : (b : Bool) → option_map turn_code (next_turn b None) ≡ None
no_turn true = refl
no_turn false = refl

pub turn_found : (ss : List Stmt) (t : Option Turn) (i : ℕ) → None ≡ slice_get ss i → option_map turn_code (next_turn (i == length ss) t) ≡ code_at (codes_with ss t) i
unfolding code_at
turn_found [] None i h = no_turn (i == 0)
turn_found [] (Some t) zero h = refl
turn_found [] (Some t) (suc i) h = ap (λ b. option_map turn_code (next_turn b (Some t))) (no_end i)
turn_found (x ∷ ss) t zero h = absurd (cc h)
turn_found (x ∷ ss) None (suc i) h = no_turn (suc i == length (x ∷ ss)) ∙ sym (no_turn (i == length ss)) ∙ turn_found ss None i h
turn_found (x ∷ ss) (Some t) (suc i) h = ap (λ b. option_map turn_code (next_turn b (Some t))) (sym (same_end i (length ss))) ∙ turn_found ss (Some t) i h

pub before_is : (cs : Codes) (next : ℕ) → (next == 0) ≡ false → code_before cs next ≡ code_at cs (next - 1)
before_is cs zero h = absurd (cc h)
before_is cs (suc i) h = let back : suc i - 1 ≡ i = omega arith in rw back refl

-- a list of the statement in front of a place
pub listed_before : (ss : List Stmt) (next : ℕ) (s : Stmt) (part : Part) → (next ≡ 0 → ⊥) → Some s ≡ slice_get ss (next - 1) → list_of part (code_of s) ≡ part_of part (code_before (codes_of ss) next)
listed_before ss next s part some h = ap (part_of part) (found_at ss None (next - 1) s h ∙ sym (before_is (codes_of ss) next (ne_eqb next 0 some)))
