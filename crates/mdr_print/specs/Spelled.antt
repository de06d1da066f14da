-- for proofs
-- The tokens that a printed text is made of.
use Rattle.std.specs.Prelude.{◌≡◌, ℕ, ◌+◌, Bool, List, [], ◌∷◌, ◌++◌, length, map, Option, Some, Result, Ok}
use Rattle.mdr_core.specs.declared.place.Place.{Place}
use Rattle.mdr_syntax.specs.declared.error.LexError.{LexError}
use Rattle.mdr_syntax.specs.declared.token.Lexeme.{Lexeme}
use Rattle.mdr_syntax.specs.declared.token.Lexeme.TheVariants.{End}
use Rattle.mdr_syntax.specs.declared.token.Token.{Token}
use Rattle.mdr_syntax.specs.declared.tree.Tree.{Tree}
use Rattle.mdr_syntax.specs.Pieces.{piece_at}
use Rattle.mdr_print.specs.Marks.{Mark, Is, Blank, Tab, Newline, spell, token_text}
use Rattle.mdr_print.specs.Items.{tree_marks}

-- the tokens among marks, and the end
abbrev pub lexemes : List Mark → List Lexeme
lexemes [] = End ∷ []
lexemes (Is token ∷ marks) = token ∷ lexemes marks
lexemes (Blank ∷ marks) = lexemes marks
lexemes (Tab ∷ marks) = lexemes marks
lexemes (Newline ∷ marks) = lexemes marks

unfoldable pub spelled : Tree → List Lexeme
spelled tree = lexemes (tree_marks tree)

-- these bytes are one piece of the text that they begin, wherever it stands
pub record IsFront (bytes : List ℕ) (what : Option Lexeme) (rest : List ℕ) : Type 0 where
  pub more : ℕ
  pub front : (is_fresh : Bool) (place : Place) → piece_at is_fresh place (bytes ++ rest) ≡ Ok (record { what = what; more = more })
  pub whole : 1 + more ≡ length bytes

-- no token runs into what stands behind it
abbrev pub AreApart : List Mark → Type 0
AreApart [] = Unit {0}
AreApart (Is token ∷ marks) = IsFront (token_text token) (Some token) (spell marks) × AreApart marks
AreApart (Blank ∷ marks) = AreApart marks
AreApart (Tab ∷ marks) = AreApart marks
AreApart (Newline ∷ marks) = AreApart marks

abbrev pub what_of : Token → Lexeme
what_of token = token.what

-- what reading gives are these lexemes, each at some place
pub record GivesLexemes (read : Result (List Token) LexError) (all : List Lexeme) : Type 0 where
  pub tokens : List Token
  pub is_read : read ≡ Ok tokens
  pub are : map what_of tokens ≡ all
