-- protocol
-- The text of a half: its tree, or the line on which it stops to be one.
use Rattle.std.specs.Prelude.{◌≡◌, ℕ, true, List, Option, Some, None, slice_get, Ok, Err}
use Rattle.mdr_syntax.specs.declared.error.LexError.{LexError}
use Rattle.mdr_syntax.specs.declared.error.LexError.TheVariants as lex
use Rattle.mdr_syntax.specs.declared.token.Token.{Token}
use Rattle.mdr_syntax.specs.declared.tree.Tree.{Tree}
use Rattle.mdr_syntax.specs.Tokens.{tokens_of}
use Rattle.mdr_grammar.specs.Grammar.{Reads}
use Rattle.mdr_grammar.specs.Running.{FirstFault}
use Rattle.mdr_parse.specs.declared.error.ParseError.{ParseError}
use Rattle.mdr_parse.specs.declared.error.ParseError.TheVariants as parse
use Rattle.mdr_parse.specs.Parsing.{end_place, error_in}

-- the line of what is refused. Want of memory refuses nothing
abbrev pub lexing_line : LexError → Option ℕ
lexing_line (lex.BadByte p) = Some p.line
lexing_line (lex.BadNumber p) = Some p.line
lexing_line (lex.OpenComment p) = Some p.line
lexing_line (lex.OpenText p) = Some p.line
lexing_line lex.OutOfMemory = None

abbrev pub parsing_line : ParseError → Option ℕ
parsing_line (parse.NotInProfile p word) = Some p.line
parsing_line (parse.Expected p) = Some p.line
parsing_line parse.OutOfMemory = None

-- the text of a half has this tree: functions of the other half are prototypes there, marked `__remote`
pub record IsHalf (text : List ℕ) (tree : Tree) : Type 0 where
  pub tokens : List Token
  pub are_tokens : tokens_of text ≡ Ok tokens
  pub reads : Reads true tokens tree

-- the first fault of tokens is on this line
pub record IsFaultOn (tokens : List Token) (line : ℕ) : Type 0 where
  pub number : ℕ
  pub fault : FirstFault true tokens number
  pub on : parsing_line (error_in (end_place tokens) (slice_get tokens number)) ≡ Some line

-- the text of no half: it has no tokens, or they are those of no tree
pub data IsUnread (text : List ℕ) (line : ℕ) : Type 0 where
  lexical : (e : LexError) → tokens_of text ≡ Err e → lexing_line e ≡ Some line → IsUnread text line
  unexpected : (tokens : List Token) → tokens_of text ≡ Ok tokens → IsFaultOn tokens line → IsUnread text line
