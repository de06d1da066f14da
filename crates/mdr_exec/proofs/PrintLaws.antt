-- The text of a `printk`, byte by byte.
use Rattle.std.proofs.Common.{◌≡◌, ℕ, ◌+◌, ◌<◌, ◌≤◌, ◌==◌, true, false, List, [], ◌∷◌, ◌++◌, length, get_or, drop, ℤ, pos, unsigned_abs, eq-eqb, ne_eqb, refl, ap, sym, ◌∙◌}
use Rattle.std.specs.Fmt.{decimal, digits, signed_decimal}
use Rattle.std.specs.Int.{int_rem_euclid}
use Rattle.std.proofs.lemmas.List.{append_assoc, append-nil, at_drop_all, at_drop_more}
use Rattle.mdr_core.specs.Layout.{chosen}
use Rattle.mdr_core.specs.Services.{Reading, Plain, Percent, Long}
use Rattle.mdr_meaning.specs.declared.wire.Wire.{Wire}
use Rattle.mdr_meaning.specs.Printed.{behind, printed, shown, told}
use Rattle.mdr_meaning.specs.Values.{first_of, integer, natural_of, rest_of, saturated_u64}

-- ---- numbers

is_number : (a b : ℕ) → a ≡ b → (a == b) ≡ true
is_number = eq-eqb

not_number : (a b : ℕ) → (a ≡ b → ⊥) → (a == b) ≡ false
not_number = ne_eqb

pub shown_signed : (letter : ℕ) (n : ℤ) → letter ≡ 100 → shown letter n ≡ signed_decimal n
shown_signed letter n h = rw (is_number letter 100 h) refl

pub shown_byte : (letter : ℕ) (n : ℤ) → (letter ≡ 100 → ⊥) → letter ≡ 99 → shown letter n ≡ unsigned_abs (int_rem_euclid n (pos 256)) ∷ []
shown_byte letter n h k = rw (not_number letter 100 h, is_number letter 99 k) refl

pub shown_hex : (letter : ℕ) (n : ℤ) → (letter ≡ 100 → ⊥) → (letter ≡ 99 → ⊥) → letter ≡ 120 → shown letter n ≡ digits 16 false (saturated_u64 (natural_of n))
shown_hex letter n h k j = rw (not_number letter 100 h, not_number letter 99 k, is_number letter 120 j) refl

pub shown_decimal : (letter : ℕ) (n : ℤ) → (letter ≡ 100 → ⊥) → (letter ≡ 99 → ⊥) → (letter ≡ 120 → ⊥) → shown letter n ≡ decimal (saturated_u64 (natural_of n))
shown_decimal letter n h k j = rw (not_number letter 100 h, not_number letter 99 k, not_number letter 120 j) refl

-- ---- one byte

module _ (out : List ℕ) (b : ℕ) (ws : List Wire) where
  pub percent_begins : b ≡ 37 → (bs : List ℕ) → out ++ printed Percent bs ws ≡ out ++ printed Plain (b ∷ bs) ws
  unfolding printed
  percent_begins h bs = ap (λ t. out ++ chosen t (printed Percent bs) (behind (printed Plain bs) b) ws) (sym (is_number b 37 h))

  pub plain_put : (new : List ℕ) → (b ≡ 37 → ⊥) → new ≡ out ++ b ∷ [] → (bs : List ℕ) → new ++ printed Plain bs ws ≡ out ++ printed Plain (b ∷ bs) ws
  unfolding printed
  plain_put new h more bs =
      ap (λ xs. xs ++ printed Plain bs ws) more ∙ append_assoc out (b ∷ []) (printed Plain bs ws)
      ∙ ap (λ t. out ++ chosen t (printed Percent bs) (behind (printed Plain bs) b) ws) (sym (not_number b 37 h))

  pub percent_put : (new : List ℕ) → b ≡ 37 → new ≡ out ++ b ∷ [] → (bs : List ℕ) → new ++ printed Plain bs ws ≡ out ++ printed Percent (b ∷ bs) ws
  unfolding printed
  percent_put new h more bs =
      ap (λ xs. xs ++ printed Plain bs ws) more ∙ append_assoc out (b ∷ []) (printed Plain bs ws)
      ∙ ap (λ t. out ++ chosen t (behind (printed Plain bs) b) (chosen (b == 108) (printed Long bs) (told (printed Plain bs) b)) ws) (sym (is_number b 37 h))

  pub long_begins : (b ≡ 37 → ⊥) → b ≡ 108 → (bs : List ℕ) → out ++ printed Long bs ws ≡ out ++ printed Percent (b ∷ bs) ws
  unfolding printed
  long_begins h k bs =
      ap (λ t. out ++ chosen t (printed Long bs) (told (printed Plain bs) b) ws) (sym (is_number b 108 k))
      ∙ ap (λ t. out ++ chosen t (behind (printed Plain bs) b) (chosen (b == 108) (printed Long bs) (told (printed Plain bs) b)) ws) (sym (not_number b 37 h))

  -- a directive's number
  pub letter_put : (new : List ℕ) (rest : List Wire) → new ≡ out ++ shown b (integer (first_of ws)) → rest ≡ rest_of ws → (bs : List ℕ) → new ++ printed Plain bs rest ≡ out ++ told (printed Plain bs) b ws
  letter_put new rest more left bs =
      ap (λ xs. xs ++ printed Plain bs rest) more ∙ append_assoc out (shown b (integer (first_of ws))) (printed Plain bs rest)
      ∙ ap (λ vs. out ++ (shown b (integer (first_of ws)) ++ printed Plain bs vs)) left

  pub percent_letter : (x : List ℕ → List ℕ) → (b ≡ 37 → ⊥) → (b ≡ 108 → ⊥) → ((bs : List ℕ) → x bs ≡ out ++ told (printed Plain bs) b ws) → (bs : List ℕ) → x bs ≡ out ++ printed Percent (b ∷ bs) ws
  unfolding printed
  percent_letter x h k is bs =
      is bs ∙ ap (λ t. out ++ chosen t (printed Long bs) (told (printed Plain bs) b) ws) (sym (not_number b 108 k))
      ∙ ap (λ t. out ++ chosen t (behind (printed Plain bs) b) (chosen (b == 108) (printed Long bs) (told (printed Plain bs) b)) ws) (sym (not_number b 37 h))

  pub long_letter : (x : List ℕ → List ℕ) → ((bs : List ℕ) → x bs ≡ out ++ told (printed Plain bs) b ws) → (bs : List ℕ) → x bs ≡ out ++ printed Long (b ∷ bs) ws
  unfolding printed
  long_letter x is bs = is bs

-- ---- all bytes

pub byte_read : (bs : List ℕ) (i b d : ℕ) (r r' : Reading) (out out' whole : List ℕ) (ws ws' : List Wire) → i < length bs → b ≡ get_or bs i d
    → ((rest : List ℕ) → out' ++ printed r' rest ws' ≡ out ++ printed r (b ∷ rest) ws) → out ++ printed r (drop i bs) ws ≡ whole → out' ++ printed r' (drop (i + 1) bs) ws' ≡ whole
byte_read bs i b d r r' out out' whole ws ws' inside is step so_far =
    step (drop (i + 1) bs) ∙ ap (λ x. out ++ printed r (x ∷ drop (i + 1) bs) ws) is ∙ sym (ap (λ ys. out ++ ys) (at_drop_more (λ ys. printed r ys ws) bs i d inside)) ∙ so_far

nothing_printed : (r : Reading) (ws : List Wire) → printed r [] ws ≡ []
unfolding printed
nothing_printed Plain ws = refl
nothing_printed Percent ws = refl
nothing_printed Long ws = refl

pub text_read : (bs : List ℕ) (i : ℕ) (r : Reading) (out whole : List ℕ) (ws : List Wire) → length bs ≤ i → out ++ printed r (drop i bs) ws ≡ whole → out ≡ whole
text_read bs i r out whole ws past so_far =
    sym (append-nil out) ∙ sym (ap (λ ys. out ++ ys) (at_drop_all (λ ys. printed r ys ws) bs i past ∙ nothing_printed r ws)) ∙ so_far
