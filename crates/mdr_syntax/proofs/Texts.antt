-- Reading a text byte by byte, and looking for the end of a comment.
use Rattle.std.proofs.Common.{◌≡◌, ℕ, false, cond, Option, Some, None, ◌+◌, ◌-◌, ◌<◌, List, ◌++◌, length, take, drop, refl, sym, ap, ◌∙◌, arith, add-one, drop-cons, length-drop}
use Rattle.std.specs.Option.{option_map}
use Rattle.std.proofs.lemmas.List.{take_all}
use Rattle.mdr_syntax.specs.Pieces.{begins_with, close_at}

-- what was read before, from so many bytes, and what is still read
abbrev pub behind : List ℕ → ℕ → Option (List ℕ × ℕ) → Option (List ℕ × ℕ)
behind front n read = option_map (λ x. (front ++ x.0, n + x.1)) read

-- ---- the end of a comment

close_at-step : (i : ℕ) (bytes : List ℕ) → i < length bytes → close_at (drop i bytes) ≡ cond (begins_with 42 47 (drop i bytes)) (Some 2) (option_map (λ n. 1 + n) (close_at (drop (i + 1) bytes)))
close_at-step i bytes lt = rw (add-one, drop-cons bytes i 0) refl

further : (i : ℕ) (read : Option ℕ) → option_map (λ n. i + n) (option_map (λ n. 1 + n) read) ≡ option_map (λ n. i + 1 + n) read
further i None = refl
further i (Some n) = let e : i + (1 + n) ≡ i + 1 + n = omega arith in rw e refl

pub close-on : (i : ℕ) (bytes : List ℕ) (total : Option ℕ) → i < length bytes → begins_with 42 47 (take (length bytes - i) (drop i bytes)) ≡ false → option_map (λ n. i + n) (close_at (drop i bytes)) ≡ total → option_map (λ n. i + 1 + n) (close_at (drop (i + 1) bytes)) ≡ total
close-on i bytes total lt here so_far =
    let whole : take (length bytes - i) (drop i bytes) ≡ drop i bytes = take_all (length bytes - i) (drop i bytes) (omega (arith, length-drop i bytes)) in
    let no : begins_with 42 47 (drop i bytes) ≡ false = ap (begins_with 42 47) (sym whole) ∙ here in
    let one : close_at (drop i bytes) ≡ option_map (λ n. 1 + n) (close_at (drop (i + 1) bytes)) = close_at-step i bytes lt ∙ rw no refl in
    sym (further i (close_at (drop (i + 1) bytes))) ∙ sym (ap (option_map (λ n. i + n)) one) ∙ so_far
