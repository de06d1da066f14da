-- Reading piece after piece.
use Rattle.std.proofs.Common.{◌≡◌, ℕ, zero, suc, Bool, true, false, Result, Ok, Err, ◌+◌, ◌<◌, ◌≤◌, List, [], ◌∷◌, ◌++◌, length, take, drop, refl, sym, ap, ◌∙◌, subst, append_assoc, arith, length-drop}
use Rattle.std.specs.Prelude.{◌==◌}
use Rattle.std.proofs.lemmas.Bool.{eqb-true}
use Rattle.mdr_core.specs.declared.place.Place.{Place}
use Rattle.mdr_syntax.specs.declared.error.LexError.{LexError}
use Rattle.mdr_syntax.specs.declared.error.LexError.TheVariants.{BadByte, BadNumber, OpenComment, OpenText, OutOfMemory}
use Rattle.mdr_syntax.specs.declared.token.Token.{Token}
use Rattle.mdr_syntax.specs.declared.piece.Piece.{Piece}
use Rattle.mdr_syntax.specs.Places.{place_after}
use Rattle.mdr_syntax.specs.Gives.{◌>>=◌, Fails}
use Rattle.mdr_syntax.specs.Pieces.{piece_at}
use Rattle.mdr_syntax.specs.Tokens.{is_fresh_after, tokens_of_piece, end_at, tokens_from}

-- what was read before, and what is still read
abbrev pub with_front : List Token → Result (List Token) LexError → Result (List Token) LexError
with_front front read = read >>= λ ts. Ok (front ++ ts)

-- with these tokens read and this rest to read, the whole is read
pub record Reads (front : List Token) (is_fresh : Bool) (place : Place) (rest : List ℕ) (total : Result (List Token) LexError) : Type 0 where
  pub most : ℕ
  pub enough : length rest ≤ most
  pub so_far : with_front front (tokens_from most is_fresh place rest) ≡ total

-- one piece more
abbrev after_piece : ℕ → Bool → Place → List ℕ → Piece → Result (List Token) LexError
after_piece most is_fresh place rest piece = tokens_from most (is_fresh_after is_fresh piece.what (take (1 + piece.more) rest)) (place_after place (take (1 + piece.more) rest)) (drop (1 + piece.more) rest)

step : (most : ℕ) (is_fresh : Bool) (place : Place) (rest : List ℕ) → 0 < length rest
    → tokens_from (suc most) is_fresh place rest ≡ piece_at is_fresh place rest >>= λ piece. after_piece most is_fresh place rest piece >>= λ ts. Ok (tokens_of_piece place piece.what ++ ts)
unfolding tokens_from
step most is_fresh place [] h = absurd (omega arith)
step most is_fresh place (b ∷ rest) h = refl

regroup : (front more : List Token) (read : Result (List Token) LexError) → with_front front (read >>= λ ts. Ok (more ++ ts)) ≡ with_front (front ++ more) read
regroup front more (Ok ts) = ap (λ (us : List Token). Ok us) (sym (append_assoc front more ts))
regroup front more (Err e) = refl

positive : (most n : ℕ) → 0 < n → n ≤ most → (m : ℕ) × (most ≡ suc m)
positive zero n h le = absurd (omega arith)
positive (suc m) n h le = (m, refl)

pub goes_on : (front more : List Token) (is_fresh : Bool) (place : Place) (rest : List ℕ) (piece : Piece) (total : Result (List Token) LexError)
    → 0 < length rest → piece_at is_fresh place rest ≡ Ok piece → more ≡ front ++ tokens_of_piece place piece.what → Reads front is_fresh place rest total
    → Reads more (is_fresh_after is_fresh piece.what (take (1 + piece.more) rest)) (place_after place (take (1 + piece.more) rest)) (drop (1 + piece.more) rest) total
goes_on front more is_fresh place rest piece total some here grown r =
    let m = positive r.most (length rest) some r.enough in
    let read : tokens_from r.most is_fresh place rest ≡ after_piece m.0 is_fresh place rest piece >>= λ ts. Ok (tokens_of_piece place piece.what ++ ts) =
    ap (λ (n : ℕ). tokens_from n is_fresh place rest) m.1 ∙ step m.0 is_fresh place rest some ∙ rw here refl in
    record {
      most = m.0;
      enough = omega (arith, r.enough, m.1, length-drop (1 + piece.more) rest);
      so_far = rw grown (sym (regroup front (tokens_of_piece place piece.what) (after_piece m.0 is_fresh place rest piece)) ∙ sym (ap (with_front front) read) ∙ r.so_far);
    }

fails_here : (e : LexError) (front : List Token) (next : Piece → Result (List Token) LexError) (here : Result Piece LexError) → Fails e here → Fails e (with_front front (here >>= next))
fails_here (BadByte p) front next here h = rw h refl
fails_here (BadNumber p) front next here h = rw h refl
fails_here (OpenComment p) front next here h = rw h refl
fails_here (OpenText p) front next here h = rw h refl
fails_here OutOfMemory front next here h = tt

pub ends : (e : LexError) (front : List Token) (is_fresh : Bool) (place : Place) (rest : List ℕ) (total : Result (List Token) LexError)
    → 0 < length rest → Fails e (piece_at is_fresh place rest) → Reads front is_fresh place rest total → Fails e total
ends e front is_fresh place rest total some here r =
    let m = positive r.most (length rest) some r.enough in
    let read : with_front front (tokens_from r.most is_fresh place rest) ≡ with_front front (piece_at is_fresh place rest >>= λ piece. after_piece m.0 is_fresh place rest piece >>= λ ts. Ok (tokens_of_piece place piece.what ++ ts)) =
    ap (λ (n : ℕ). with_front front (tokens_from n is_fresh place rest)) m.1 ∙ ap (with_front front) (step m.0 is_fresh place rest some) in
    subst (λ (t : Result (List Token) LexError). Fails e t) (sym read ∙ r.so_far) (fails_here e front (λ piece. after_piece m.0 is_fresh place rest piece >>= λ ts. Ok (tokens_of_piece place piece.what ++ ts)) (piece_at is_fresh place rest) here)

last : (most : ℕ) (is_fresh : Bool) (place : Place) (rest : List ℕ) → length rest ≤ 0 → tokens_from most is_fresh place rest ≡ Ok (end_at place)
unfolding tokens_from
last most is_fresh place [] h = refl
last most is_fresh place (b ∷ rest) h = absurd (omega arith)

pub is_done : (front : List Token) (is_fresh : Bool) (place : Place) (rest : List ℕ) (total : Result (List Token) LexError)
    → length rest ≤ 0 → Reads front is_fresh place rest total → total ≡ Ok (front ++ end_at place)
is_done front is_fresh place rest total none r = sym r.so_far ∙ ap (with_front front) (last r.most is_fresh place rest none)

pub begins : (is_fresh : Bool) (place : Place) (bytes : List ℕ) → Reads [] is_fresh place bytes (tokens_from (length bytes) is_fresh place bytes)
begins is_fresh place bytes = record { most = length bytes; enough = omega arith; so_far = same (tokens_from (length bytes) is_fresh place bytes) }
  where
    same : (read : Result (List Token) LexError) → with_front [] read ≡ read
    same (Ok ts) = refl
    same (Err e) = refl

-- ---- whether a rest is left

pub some_left : (b : Bool) (n : ℕ) → b ≡ (n == 0) → b ≡ false → 0 < n
some_left b zero e f = absurd cc
some_left b (suc n) e f = omega arith

pub none_left : (b : Bool) (n : ℕ) → b ≡ (n == 0) → b ≡ true → n ≤ 0
none_left b n e f = let z : n ≡ 0 = eqb-true n 0 (sym e ∙ f) in omega arith
