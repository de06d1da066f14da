-- for proofs
-- What the lexer's tokens are (C99 6.4).
use Rattle.std.specs.Prelude.{Bool, true, ◌&&◌, List}
use Rattle.std.specs.List.{list_all}
use Rattle.mdr_syntax.specs.declared.token.Lexeme.{Lexeme}
use Rattle.mdr_syntax.specs.declared.token.Lexeme.TheVariants as lexeme
use Rattle.mdr_syntax.specs.declared.token.Token.{Token}
use Rattle.mdr_roundtrip.specs.Words.{is_word, is_written, is_writable, is_sign}
use Rattle.mdr_roundtrip.specs.Whole.{is_defined}

abbrev pub is_lexed : Lexeme → Bool
is_lexed (lexeme.Word text) = is_word text
is_lexed (lexeme.Number n kind) = is_written n kind
is_lexed (lexeme.Text bytes) = list_all is_writable bytes
is_lexed (lexeme.Punct text) = is_sign text
is_lexed (lexeme.Define name is_negative n kind) = is_defined name && is_written n kind
is_lexed lexeme.End = true

abbrev pub are_lexed : List Token → Bool
are_lexed ts = list_all (λ t. is_lexed t.what) ts
