-- believed
-- What is said of tokens: their tree, or the first of them that can't stand where it does.
use Rattle.std.specs.Prelude.{ℕ, ◌≡◌, Bool, false, List, [], ◌∷◌, Option, Some, None, Result, Ok, Err, codes, slice_get, if◌then◌else◌}
use Rattle.std.specs.List.{list_any}
use Rattle.std.specs.Str.{bytes_eq}
use Rattle.mdr_core.specs.declared.place.Place.{Place}
use Rattle.mdr_syntax.specs.declared.token.Lexeme.{Lexeme}
use Rattle.mdr_syntax.specs.declared.token.Lexeme.TheVariants as lexeme
use Rattle.mdr_syntax.specs.declared.token.Token.{Token}
use Rattle.mdr_syntax.specs.declared.tree.Tree.{Tree}
use Rattle.mdr_parse.specs.declared.error.ParseError.{ParseError}
use Rattle.mdr_parse.specs.declared.error.ParseError.TheVariants.{NotInProfile, Expected, OutOfMemory}
use Rattle.mdr_grammar.specs.Expressions.{text_of}
use Rattle.mdr_grammar.specs.Grammar.{Reads}
use Rattle.mdr_grammar.specs.Running.{FirstFault}

-- the words of C99 that sources do without
unfoldable pub left_out : List (List ℕ)
left_out =
    codes "typedef" ∷ codes "union" ∷ codes "float" ∷ codes "double" ∷ codes "goto" ∷ codes "sizeof" ∷
    codes "asm" ∷ codes "__asm__" ∷ codes "extern" ∷ codes "auto" ∷ codes "register" ∷ codes "restrict" ∷
    codes "_Bool" ∷ codes "_Complex" ∷ codes "_Imaginary" ∷ []

-- one of these, or `...`
unfoldable pub is_left_out : Lexeme → Bool
is_left_out (lexeme.Word text) = list_any (λ w. bytes_eq w text) left_out
is_left_out (lexeme.Punct text) = bytes_eq text (codes "...")
is_left_out _ = false

abbrev pub error_at : Token → ParseError
error_at t = if is_left_out t.what then NotInProfile t.place (text_of t.what) else Expected t.place

-- the place of the last of these tokens, or one before them
abbrev pub last_place : Place → List Token → Place
last_place place [] = place
last_place place (t ∷ ts) = last_place t.place ts

-- where tokens end: the lexer's last one is the end of the text
abbrev pub end_place : List Token → Place
end_place ts = last_place (record { line = 1; column = 1 }) ts

-- the error at a token, or at the end where there is none
abbrev pub error_in : (end : Place) → Option Token → ParseError
error_in end None = Expected end
error_in end (Some t) = error_at t

-- The tree is that of the tokens. The error is at the first fault, if memory didn't run out.
abbrev pub Parses : (halves : Bool) → List Token → Result Tree ParseError → Type 0
Parses halves ts (Ok tree) = Reads halves ts tree
Parses halves ts (Err OutOfMemory) = Unit {0}
Parses halves ts (Err e) = (n : ℕ) × FirstFault halves ts n × (e ≡ error_in (end_place ts) (slice_get ts n))
