-- believed
-- What the bytes of a source come to: its tree and its program, or the one thing for which it is refused. Stage by stage, with one constructor for each reason.
use Rattle.std.specs.Prelude.{◌≡◌, ℕ, false, List, Option, Some, None, slice_get, Result, Ok, Err}
use Rattle.mdr_core.specs.declared.place.Place.{Place}
use Rattle.mdr_core.specs.declared.program.Program.{Program}
use Rattle.mdr_core.specs.Sound.{HasFewNumbers}
use Rattle.mdr_syntax.specs.declared.error.LexError.TheVariants as lex
use Rattle.mdr_syntax.specs.declared.token.Token.{Token}
use Rattle.mdr_syntax.specs.declared.tree.Tree.{Tree}
use Rattle.mdr_syntax.specs.Tokens.{tokens_of}
use Rattle.mdr_grammar.specs.Grammar.{Reads}
use Rattle.mdr_grammar.specs.Running.{FirstFault}
use Rattle.mdr_parse.specs.declared.error.ParseError.{ParseError}
use Rattle.mdr_parse.specs.declared.error.ParseError.TheVariants as parse
use Rattle.mdr_parse.specs.Parsing.{end_place, error_in}
use Rattle.mdr_faults.specs.declared.fault.Fault.{Fault}
use Rattle.mdr_faults.specs.Faults.{Checked, Right, IsFirst}
use Rattle.mdr_body.specs.Bodies.{body_rule}
use Rattle.mdr_body.specs.Uses.{first_use}
use Rattle.mdr_typing.specs.Profile.{profile_rules}
use Rattle.mdr_program.specs.Programs.{typed}
use Rattle.mdr_source.specs.declared.refusal.Refusal.{Refusal}
use Rattle.mdr_source.specs.declared.refusal.Refusal.TheVariants as refusal
use Rattle.mdr_source.specs.declared.outcome.Source.{Source}

-- the program of a tree, or all faults in it
abbrev pub typed_tree : Tree → Checked Program
typed_tree tree = typed (body_rule profile_rules) first_use tree.items

-- the refusal of tokens that aren't read: want of memory is none
abbrev pub refused_as : ParseError → Option Refusal
refused_as (parse.NotInProfile p word) = Some (refusal.NotInProfile p word)
refused_as (parse.Expected p) = Some (refusal.Expected p)
refused_as parse.OutOfMemory = None

-- the types of a tree, judged. The program of one that is right has few types, globals, structs and functions: a larger one finds no memory
pub data Judged (c : Checked Program) : Result Program Refusal → Type 0 where
  fault : (f : Fault) → IsFirst f c → Judged c (Err (refusal.Fault f))
  right : (program : Program) → c ≡ Right program → HasFewNumbers program → Judged c (Ok program)

-- a tree
abbrev pub Means : Tree → Result Program Refusal → Type 0
Means tree r = Judged (typed_tree tree) r

-- tokens
pub data Reading (ts : List Token) : Result Source Refusal → Type 0 where
  left_out : (n : ℕ) (p : Place) (word : List ℕ) → FirstFault false ts n → error_in (end_place ts) (slice_get ts n) ≡ parse.NotInProfile p word → Reading ts (Err (refusal.NotInProfile p word))
  unexpected : (n : ℕ) (p : Place) → FirstFault false ts n → error_in (end_place ts) (slice_get ts n) ≡ parse.Expected p → Reading ts (Err (refusal.Expected p))
  refused : (tree : Tree) (e : Refusal) → Reads false ts tree → Means tree (Err e) → Reading ts (Err e)
  right : (tree : Tree) (program : Program) → Reads false ts tree → Means tree (Ok program) → Reading ts (Ok (record { tree = tree; program = program }))

-- bytes
pub data Comes (bytes : List ℕ) : Result Source Refusal → Type 0 where
  bad_byte : (p : Place) → tokens_of bytes ≡ Err (lex.BadByte p) → Comes bytes (Err (refusal.BadByte p))
  bad_number : (p : Place) → tokens_of bytes ≡ Err (lex.BadNumber p) → Comes bytes (Err (refusal.BadNumber p))
  open_comment : (p : Place) → tokens_of bytes ≡ Err (lex.OpenComment p) → Comes bytes (Err (refusal.OpenComment p))
  open_text : (p : Place) → tokens_of bytes ≡ Err (lex.OpenText p) → Comes bytes (Err (refusal.OpenText p))
  tokens : (ts : List Token) {r : Result Source Refusal} → tokens_of bytes ≡ Ok ts → Reading ts r → Comes bytes r

-- ---- what is no refusal

-- a tree and a program are those of bytes
pub record IsSource (bytes : List ℕ) (source : Source) : Type 0 where
  pub tokens : List Token
  pub are_tokens : tokens_of bytes ≡ Ok tokens
  pub reads : Reads false tokens source.tree
  pub judged : typed_tree source.tree ≡ Right source.program
  pub numbers : HasFewNumbers source.program

-- the program of bytes would be right, and its types, globals, structs or functions aren't few
pub record IsTooLarge (bytes : List ℕ) : Type 0 where
  pub tokens : List Token
  pub are_tokens : tokens_of bytes ≡ Ok tokens
  pub tree : Tree
  pub reads : Reads false tokens tree
  pub program : Program
  pub judged : typed_tree tree ≡ Right program
  pub many : HasFewNumbers program → ⊥
