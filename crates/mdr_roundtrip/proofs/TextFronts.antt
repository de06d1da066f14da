-- The front of a text that is a text in quotes.
use Rattle.std.proofs.Common.{◌≡◌, ℕ, Bool, true, false, Option, Some, Ok, ◌+◌, List, [], ◌∷◌, ◌++◌, length, refl, sym, ap, subst, ◌∙◌, append_assoc, arith, length-append}
use Rattle.std.specs.Prelude.{◌==◌, ◌&&◌, nat_le}
use Rattle.std.specs.List.{list_all}
use Rattle.std.proofs.lemmas.Bool.{eqb-true}
use Rattle.mdr_core.specs.declared.place.Place.{Place}
use Rattle.mdr_syntax.specs.declared.token.Lexeme.TheVariants.{Text}
use Rattle.mdr_syntax.specs.Quoted.{text_from}
use Rattle.mdr_syntax.specs.Pieces.{text_piece, piece_at}
use Rattle.mdr_print.specs.Marks.{escaped, all_escaped, token_text}
use Rattle.mdr_print.specs.Spelled.{IsFront}
use Rattle.mdr_roundtrip.specs.Words.{is_writable}
use Rattle.mdr_roundtrip.proofs.Tests.{both}

abbrev Back : List ℕ → List ℕ → ℕ → ℕ → Type 0
Back tail bytes m b = text_from false (escaped b ++ tail) ≡ Some (b ∷ bytes, length (escaped b) + m)

two : (v : ℕ) (bytes : List ℕ) (m : ℕ) → ◌≡◌ {A = Option (List ℕ × ℕ)} (Some (v ∷ bytes, 1 + (1 + m))) (Some (v ∷ bytes, 2 + m))
two v bytes m = let e : 1 + (1 + m) ≡ 2 + m = omega arith in ap (λ (n : ℕ). Some (v ∷ bytes, n)) e

byte_back : (tail bytes : List ℕ) (m b : ℕ) → is_writable b ≡ true → text_from false tail ≡ Some (bytes, m) → Back tail bytes m b
byte_back tail bytes m b w r = by0 (b == 0) refl
  where
    plain : (b == 0) ≡ false → (b == 9) ≡ false → (b == 10) ≡ false → (b == 13) ≡ false → (b == 34) ≡ false → (b == 92) ≡ false → Back tail bytes m b
    plain e0 e9 e10 e13 e34 e92 =
        let h : (nat_le 32 b && nat_le b 126) ≡ true = rw (e0, e9, e10, e13) at w in
        let k = both (nat_le 32 b) (nat_le b 126) h in
        let low : nat_le 32 b ≡ true = k.0 in
        let high : nat_le b 126 ≡ true = k.1 in
        rw (e0, e9, e10, e13, e34, e92, e34, e92, low, high, r) refl

    by92 : (t : Bool) → (b == 92) ≡ t → (b == 0) ≡ false → (b == 9) ≡ false → (b == 10) ≡ false → (b == 13) ≡ false → (b == 34) ≡ false → Back tail bytes m b
    by92 true e e0 e9 e10 e13 e34 = subst (Back tail bytes m) (sym (eqb-true b 92 e)) (rw r (two 92 bytes m))
    by92 false e e0 e9 e10 e13 e34 = plain e0 e9 e10 e13 e34 e

    by34 : (t : Bool) → (b == 34) ≡ t → (b == 0) ≡ false → (b == 9) ≡ false → (b == 10) ≡ false → (b == 13) ≡ false → Back tail bytes m b
    by34 true e e0 e9 e10 e13 = subst (Back tail bytes m) (sym (eqb-true b 34 e)) (rw r (two 34 bytes m))
    by34 false e e0 e9 e10 e13 = by92 (b == 92) refl e0 e9 e10 e13 e

    by13 : (t : Bool) → (b == 13) ≡ t → (b == 0) ≡ false → (b == 9) ≡ false → (b == 10) ≡ false → Back tail bytes m b
    by13 true e e0 e9 e10 = subst (Back tail bytes m) (sym (eqb-true b 13 e)) (rw r (two 13 bytes m))
    by13 false e e0 e9 e10 = by34 (b == 34) refl e0 e9 e10 e

    by10 : (t : Bool) → (b == 10) ≡ t → (b == 0) ≡ false → (b == 9) ≡ false → Back tail bytes m b
    by10 true e e0 e9 = subst (Back tail bytes m) (sym (eqb-true b 10 e)) (rw r (two 10 bytes m))
    by10 false e e0 e9 = by13 (b == 13) refl e0 e9 e

    by9 : (t : Bool) → (b == 9) ≡ t → (b == 0) ≡ false → Back tail bytes m b
    by9 true e e0 = subst (Back tail bytes m) (sym (eqb-true b 9 e)) (rw r (two 9 bytes m))
    by9 false e e0 = by10 (b == 10) refl e0 e

    by0 : (t : Bool) → (b == 0) ≡ t → Back tail bytes m b
    by0 true e = subst (Back tail bytes m) (sym (eqb-true b 0 e)) (rw r (two 0 bytes m))
    by0 false e = by9 (b == 9) refl e

text_back : (bytes rest : List ℕ) → list_all is_writable bytes ≡ true → text_from false (all_escaped bytes ++ (34 ∷ rest)) ≡ Some (bytes, length (all_escaped bytes) + 1)
text_back [] rest a = refl
text_back (b ∷ bytes) rest a =
    let h = both (is_writable b) (list_all is_writable bytes) a in
    let more = text_back bytes rest h.1 in
    let whole : (escaped b ++ all_escaped bytes) ++ (34 ∷ rest) ≡ escaped b ++ (all_escaped bytes ++ (34 ∷ rest)) = append_assoc (escaped b) (all_escaped bytes) (34 ∷ rest) in
    let count : length (escaped b) + (length (all_escaped bytes) + 1) ≡ length (escaped b ++ all_escaped bytes) + 1 = omega (arith, length-append (escaped b) (all_escaped bytes)) in
    ap (text_from false) whole ∙ byte_back (all_escaped bytes ++ (34 ∷ rest)) bytes (length (all_escaped bytes) + 1) b h.0 more
    ∙ ap (λ (n : ℕ). Some (b ∷ bytes, n)) count

text_at : (bytes rest : List ℕ) → list_all is_writable bytes ≡ true → (is_fresh : Bool) (place : Place)
    → piece_at is_fresh place (34 ∷ (all_escaped bytes ++ (34 ∷ rest))) ≡ Ok (record { what = Some (Text bytes); more = length (all_escaped bytes) + 1 })
unfolding piece_at text_piece
text_at bytes rest a is_fresh place = let t = text_back bytes rest a in rw t refl

pub text_front : (bytes rest : List ℕ) → list_all is_writable bytes ≡ true → IsFront (token_text (Text bytes)) (Some (Text bytes)) rest
unfolding token_text
text_front bytes rest a =
    let whole : (all_escaped bytes ++ (34 ∷ [])) ++ rest ≡ all_escaped bytes ++ (34 ∷ rest) = append_assoc (all_escaped bytes) (34 ∷ []) rest in
    record {
      more = length (all_escaped bytes) + 1;
      front = λ is_fresh place. ap (λ (bs : List ℕ). piece_at is_fresh place (34 ∷ bs)) whole ∙ text_at bytes rest a is_fresh place;
      whole = omega (arith, length-append (all_escaped bytes) (34 ∷ []));
    }
