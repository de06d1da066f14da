-- Two texts that are the same up to a line.
use Rattle.std.proofs.Common.{◌≡◌, ℕ, zero, suc, Bool, true, false, not, bytes_eq, ◌+◌, ◌≤◌, List, [], ◌∷◌, ◌++◌, length, take, nat_lt, refl, sym, ap, ◌∙◌, arith, ltb-false}
use Rattle.std.specs.List.{prefix_len}
use Rattle.std.proofs.lemmas.Bool.{lt-ltb, le-ltb}
use Rattle.std.proofs.lemmas.Slice.Eq.{bytes_eq-Decides}
use Rattle.mdr_verify.specs.Transcripts.{in_line, IsOneLine, AreLines}
use Rattle.mdr_verify.specs.Transcripts.AreLines.{NoLine, Then}
use Rattle.mdr_verify.specs.Verdicts.{first_line, IsOtherLine}
use Rattle.mdr_verify.proofs.Splits.{IsCut, split_of, behind}

pub bytes_same : (xs ys : List ℕ) (b : Bool) → b ≡ not (bytes_eq xs ys) → b ≡ false → xs ≡ ys
bytes_same xs ys b e f = on (bytes_eq xs ys) refl (sym f ∙ e)
  where
    on : (t : Bool) → bytes_eq xs ys ≡ t → false ≡ not t → xs ≡ ys
    on true q g = (bytes_eq-Decides xs ys).0 q
    on false q g = let n : false ≡ true = g in absurd (Prim.cc)

pub bytes_differ : (xs ys : List ℕ) (b : Bool) → b ≡ bytes_eq xs ys → b ≡ false → xs ≡ ys → ⊥
bytes_differ xs ys b e f same = let n : false ≡ true = sym f ∙ e ∙ (bytes_eq-Decides xs ys).1 same in absurd (Prim.cc)

-- so many lines, less one, were the same in both texts
pub record AreAlike (said due said_rest due_rest : List ℕ) (number : ℕ) : Type 0 where
  pub before : List ℕ
  pub lines : ℕ
  pub said_is : said ≡ before ++ said_rest
  pub due_is : due ≡ before ++ due_rest
  pub are : AreLines before lines
  pub count : number ≡ lines + 1

pub none_read : (said due : List ℕ) → AreAlike said due said due 1
none_read said due = record { before = []; lines = 0; said_is = refl; due_is = refl; are = NoLine; count = refl }

pub alike_on : (said due x y line other after more : List ℕ) (number : ℕ) → AreAlike said due x y number → IsCut x line after → IsCut y other more → line ≡ other → AreAlike said due after more (number + 1)
alike_on said due x y line other after more number a c d e =
    let s = split_of x line after c in
    let r = split_of y other more d in
    record {
      before = a.before ++ (line ++ 10 ∷ []);
      lines = a.lines + 1;
      said_is = a.said_is ∙ ap (λ bs. a.before ++ bs) s.whole ∙ sym (behind a.before line after);
      due_is = a.due_is ∙ ap (λ bs. a.before ++ bs) r.whole ∙ ap (λ l. a.before ++ (l ++ 10 ∷ more)) (sym e) ∙ sym (behind a.before line more);
      are = Then a.before line a.lines a.are s.one;
      count = ap (λ n. n + 1) a.count;
    }

other : (said due x y : List ℕ) (number : ℕ) → AreAlike said due x y number → (first_line x ≡ first_line y → ⊥) → IsOtherLine said due number
other said due x y number a d = record { before = a.before; lines = a.lines; said_rest = x; due_rest = y; said_is = a.said_is; due_is = a.due_is; are = a.are; count = a.count; differs = d }

same_line : (x y : List ℕ) → first_line x ≡ first_line y → take (prefix_len in_line x) x ≡ take (prefix_len in_line y) y
same_line x y e = ap (λ (p : List ℕ × Bool). p.0) e

same_end : (x y : List ℕ) → first_line x ≡ first_line y → nat_lt (prefix_len in_line x) (length x) ≡ nat_lt (prefix_len in_line y) (length y)
same_end x y e = ap (λ (p : List ℕ × Bool). p.1) e

is_open : (y : List ℕ) → IsOneLine y → nat_lt (prefix_len in_line y) (length y) ≡ false
is_open y one = le-ltb (prefix_len in_line y) (length y) (let e = one in omega (arith, e))

whole_line : (n : ℕ) (xs : List ℕ) → length xs ≤ n → take n xs ≡ xs
whole_line zero [] le = refl
whole_line (suc n) [] le = refl
whole_line zero (x ∷ xs) le = absurd (omega (arith, le))
whole_line (suc n) (x ∷ xs) le = ap (λ ys. x ∷ ys) (whole_line n xs (omega (arith, le)))

-- the other text has no further newline
pub open_differs : (said due x y line after : List ℕ) (number : ℕ) → AreAlike said due x y number → IsCut x line after → IsOneLine y → IsOtherLine said due number
open_differs said due x y line after number a c one =
    other said due x y number a (λ e. let q : true ≡ false = sym (lt-ltb (prefix_len in_line x) (length x) c.newline) ∙ same_end x y e ∙ is_open y one in absurd (Prim.cc))

pub line_differs : (said due x y line different after more : List ℕ) (number : ℕ) → AreAlike said due x y number → IsCut x line after → IsCut y different more → (line ≡ different → ⊥) → IsOtherLine said due number
line_differs said due x y line different after more number a c d n =
    other said due x y number a (λ e. n (c.front ∙ same_line x y e ∙ sym d.front))

pub rest_differs : (said due x y : List ℕ) (number : ℕ) → AreAlike said due x y number → IsOneLine x → (x ≡ y → ⊥) → IsOtherLine said due number
rest_differs said due x y number a one n =
    other said due x y number a (λ e.
    let left : take (prefix_len in_line x) x ≡ x = whole_line (prefix_len in_line x) x (let f = one in omega (arith, f)) in
    let right : take (prefix_len in_line y) y ≡ y = whole_line (prefix_len in_line y) y (ltb-false (prefix_len in_line y) (length y) (sym (same_end x y e) ∙ is_open x one)) in
    n (sym left ∙ same_line x y e ∙ right))

pub rest_same : (said due x y : List ℕ) (number : ℕ) → AreAlike said due x y number → x ≡ y → said ≡ due
rest_same said due x y number a e = a.said_is ∙ ap (λ bs. a.before ++ bs) e ∙ sym a.due_is
