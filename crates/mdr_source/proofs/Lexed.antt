-- The lexer's definition tells tokens or a fault: it wants no memory.
use Rattle.std.proofs.Common.{ℕ, zero, suc, Bool, true, false, List, [], ◌∷◌, length, Option, Some, None, ◌==◌, slice_index, if◌then◌else◌, Result, Ok, Err}
use Rattle.std.specs.Char.{is_ascii_digit}
use Rattle.mdr_core.specs.declared.place.Place.{Place}
use Rattle.mdr_syntax.specs.declared.error.LexError.{LexError}
use Rattle.mdr_syntax.specs.declared.error.LexError.TheVariants.{BadByte, BadNumber, OpenComment, OpenText, OutOfMemory}
use Rattle.mdr_syntax.specs.Bytes.{is_space, is_letter}
use Rattle.mdr_syntax.specs.Gives.{◌>>=◌, or_fault}
use Rattle.mdr_syntax.specs.Pieces.{number_at, character_piece, text_piece, punctuation_piece, begins_with, slash_piece, define_piece, directive_piece, number_piece, piece_at}
use Rattle.mdr_syntax.specs.Tokens.{tokens_from, tokens_of}

abbrev IsFault : LexError → Type 0
IsFault (BadByte p) = Unit {0}
IsFault (BadNumber p) = Unit {0}
IsFault (OpenComment p) = Unit {0}
IsFault (OpenText p) = Unit {0}
IsFault OutOfMemory = ⊥

-- what is told isn't want of memory
pub data IsTold {A : Type 0} : Result A LexError → Type 0 where
  ok : (x : A) → IsTold (Ok x)
  fault : (e : LexError) → IsFault e → IsTold (Err e)

either : {A : Type 0} (b : Bool) (x y : Result A LexError) → IsTold x → IsTold y → IsTold (if b then x else y)
either true x y p q = p
either false x y p q = q

or_told : {A : Type 0} (o : Option A) (e : LexError) → IsFault e → IsTold (or_fault o e)
or_told (Some x) e p = IsTold.ok x
or_told None e p = IsTold.fault e p

then_told : {A B : Type 0} (r : Result A LexError) (f : A → Result B LexError) → IsTold r → ((x : A) → IsTold (f x)) → IsTold (r >>= f)
then_told (Ok x) f p q = q x
then_told (Err e) f (IsTold.fault _ p) q = IsTold.fault e p

number_told : (p : Place) (bytes : List ℕ) → IsTold (number_at p bytes)
unfolding number_at
number_told p bytes = or_told _ (BadNumber p) tt

character_told : (p : Place) (bytes : List ℕ) → IsTold (character_piece p bytes)
unfolding character_piece
character_told p bytes = or_told _ (OpenText p) tt

text_told : (p : Place) (bytes : List ℕ) → IsTold (text_piece p bytes)
unfolding text_piece
text_told p bytes = or_told _ (OpenText p) tt

punctuation_told : (p : Place) (bytes : List ℕ) → IsTold (punctuation_piece p bytes)
unfolding punctuation_piece
punctuation_told p bytes = either _ _ _ (IsTold.fault (BadByte p) tt) (IsTold.ok _)

slash_told : (p : Place) (bytes : List ℕ) → IsTold (slash_piece p bytes)
unfolding slash_piece
slash_told p bytes = either (begins_with 47 47 bytes) _ _ (IsTold.ok _) (either (begins_with 47 42 bytes) _ _ (or_told _ (OpenComment p) tt) (punctuation_told p bytes))

define_told : (p : Place) (len : ℕ) (bytes : List ℕ) → IsTold (define_piece p len bytes)
unfolding define_piece
define_told p len bytes = then_told _ _ (or_told _ (BadByte p) tt) (λ head. then_told _ _ (number_told _ _) (λ n. IsTold.ok _))

directive_told : (is_fresh : Bool) (p : Place) (bytes : List ℕ) → IsTold (directive_piece is_fresh p bytes)
unfolding directive_piece
directive_told is_fresh p bytes = either _ _ _ (IsTold.ok _) (either _ _ _ (define_told p _ _) (IsTold.fault (BadByte p) tt))

number_piece_told : (p : Place) (bytes : List ℕ) → IsTold (number_piece p bytes)
unfolding number_piece
number_piece_told p bytes = then_told _ _ (number_told p bytes) (λ n. IsTold.ok _)

piece_told : (is_fresh : Bool) (p : Place) (bytes : List ℕ) → IsTold (piece_at is_fresh p bytes)
unfolding piece_at
piece_told is_fresh p bytes =
    let b = slice_index bytes 0 in
    either (is_space b) _ _ (IsTold.ok _)
    (either (is_letter b) _ _ (IsTold.ok _)
    (either (is_ascii_digit b) _ _ (number_piece_told p bytes)
    (either (b == 39) _ _ (character_told p bytes)
    (either (b == 34) _ _ (text_told p bytes)
    (either (b == 47) _ _ (slash_told p bytes)
    (either (b == 35) _ _ (directive_told is_fresh p bytes) (punctuation_told p bytes)))))))

from_told : (most : ℕ) (is_fresh : Bool) (p : Place) (bytes : List ℕ) → IsTold (tokens_from most is_fresh p bytes)
unfolding tokens_from
from_told most is_fresh p [] = IsTold.ok _
from_told zero is_fresh p (b ∷ bytes) = IsTold.ok _
from_told (suc most) is_fresh p (b ∷ bytes) = then_told _ _ (piece_told is_fresh p (b ∷ bytes)) (λ piece. then_told _ _ (from_told most _ _ _) (λ ts. IsTold.ok _))

pub tokens_told : (bytes : List ℕ) → IsTold (tokens_of bytes)
unfolding tokens_of
tokens_told bytes = from_told (length bytes) true _ bytes
