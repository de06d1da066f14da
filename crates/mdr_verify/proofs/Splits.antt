-- A text's first line.
use Rattle.std.proofs.Common.{◌≡◌, ℕ, suc, Bool, true, false, ◌==◌, ◌+◌, ◌≤◌, ◌<◌, List, [], ◌∷◌, ◌++◌, length, get_or, take, drop, refl, sym, ap, subst, ◌∙◌, arith, append_assoc, length-append, drop-cons}
use Rattle.std.specs.List.{prefix_len}
use Rattle.std.proofs.lemmas.Bool.Decides.{Decides-eqb}
use Rattle.std.proofs.lemmas.List.{take-append-drop}
use Rattle.std.proofs.lemmas.List.Folds.{length-prefix_len}
use Rattle.std.proofs.lemmas.List.Sums.{prefix_len_stops}
use Rattle.mdr_verify.specs.Transcripts.{in_line, IsOneLine}

-- the first line, and what stands behind its newline
pub record IsSplit (bytes line rest : List ℕ) : Type 0 where
  pub whole : bytes ≡ line ++ 10 ∷ rest
  pub one : IsOneLine line

newline_is : (b : ℕ) → in_line b ≡ false → b ≡ 10
newline_is b e = on (b == 10) refl
  where
    on : (v : Bool) → (b == 10) ≡ v → b ≡ 10
    on true q = (Decides-eqb b 10).0 q
    on false q = let n : true ≡ false = rw q at e in absurd (Prim.cc)

front_whole : (bytes : List ℕ) → prefix_len in_line (take (prefix_len in_line bytes) bytes) ≡ prefix_len in_line bytes
front_whole [] = refl
front_whole (b ∷ bytes) = on (b == 10) (front_whole bytes) refl
  where
    on : (t : Bool) → prefix_len in_line (take (prefix_len in_line bytes) bytes) ≡ prefix_len in_line bytes → (b == 10) ≡ t → prefix_len in_line (take (prefix_len in_line (b ∷ bytes)) (b ∷ bytes)) ≡ prefix_len in_line (b ∷ bytes)
    on false h q = let s : 1 + prefix_len in_line bytes ≡ suc (prefix_len in_line bytes) = omega arith in rw (q, s, q, h) s
    on true h q = rw q refl

split_is : (bytes : List ℕ) → prefix_len in_line bytes < length bytes → IsSplit bytes (take (prefix_len in_line bytes) bytes) (drop (1 + prefix_len in_line bytes) bytes)
split_is bytes lt =
    let n = prefix_len in_line bytes in
    let ten : get_or bytes n 0 ≡ 10 = newline_is (get_or bytes n 0) (prefix_len_stops in_line bytes 0 lt) in
    let s : 1 + n ≡ suc n = omega arith in
    record {
      whole = sym (take-append-drop n bytes) ∙ ap (λ r. take n bytes ++ r) (drop-cons bytes n 0 lt ∙ ap (λ c. c ∷ drop (suc n) bytes) ten ∙ ap (λ m. 10 ∷ drop m bytes) (sym s));
      one = front_whole bytes ∙ sym (length-prefix_len in_line bytes);
    }

-- as the code splits lines
pub record IsCut (rest line more : List ℕ) : Type 0 where
  pub front : line ≡ take (prefix_len in_line rest) rest
  pub behind : more ≡ drop (1 + prefix_len in_line rest) rest
  pub newline : prefix_len in_line rest < length rest

pub split_of : (rest line more : List ℕ) → IsCut rest line more → IsSplit rest line more
split_of rest line more c =
    let s = split_is rest c.newline in
    subst (λ m. IsSplit rest line m) (sym c.behind) (subst (λ l. IsSplit rest l (drop (1 + prefix_len in_line rest) rest)) (sym c.front) s)

pub few_by : (rest line more : List ℕ) (number total : ℕ) → IsCut rest line more → number + length rest ≤ total → number + 1 + length more ≤ total
few_by rest line more number total c le =
    let s = split_of rest line more c in
    let e : length rest ≡ length line + length (10 ∷ more) = ap length s.whole ∙ length-append line (10 ∷ more) in
    let f : length (10 ∷ more) ≡ 1 + length more = omega arith in
    omega (arith, e, f, le)

pub none_left : (rest : List ℕ) (b : Bool) → b ≡ (length rest == 0) → b ≡ true → rest ≡ []
none_left [] b e q = refl
none_left (x ∷ rest) b e q = let n : length (x ∷ rest) ≡ 0 = (Decides-eqb (length (x ∷ rest)) 0).0 (sym e ∙ q) in absurd (omega (arith, n))

-- a line behind others, in front of what follows
pub behind : (text line more : List ℕ) → (text ++ (line ++ 10 ∷ [])) ++ more ≡ text ++ (line ++ 10 ∷ more)
behind text line more = append_assoc text (line ++ 10 ∷ []) more ∙ ap (λ bs. text ++ bs) (append_assoc line (10 ∷ []) more)
