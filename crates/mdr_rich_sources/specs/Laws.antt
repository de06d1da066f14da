-- for proofs
-- A source's program means what was written.
use Rattle.std.specs.Prelude.{◌≡◌, ℕ, Bool, List, Ok}
use Rattle.mdr_core.specs.declared.plan.Plan.{Plan}
use Rattle.mdr_core.specs.declared.program.Program.{Program}
use Rattle.mdr_core.specs.Sound.{HasFewNumbers}
use Rattle.mdr_bound.specs.declared.bound.Bound.{Bound}
use Rattle.mdr_syntax.specs.declared.token.Token.{Token}
use Rattle.mdr_syntax.specs.declared.tree.Tree.{Tree}
use Rattle.mdr_syntax.specs.Tokens.{tokens_of}
use Rattle.mdr_grammar.specs.Grammar.{Reads}
use Rattle.mdr_faults.specs.Faults.{Right}
use Rattle.mdr_check.specs.declared.file.Piece.{Piece}
use Rattle.mdr_check.specs.Uses.{UseRule}
use Rattle.mdr_check.specs.Whole.{file_pieces}
use Rattle.mdr_body.specs.Bodies.{body_rule}
use Rattle.mdr_meaning.specs.Bodies as plain
use Rattle.mdr_program.specs.Programs.{program_of}
use Rattle.mdr_typing.specs.Profile.{profile_rules}
use Rattle.mdr_rich_sources.specs.LoweringLaw.{IsLowered}
use Rattle.mdr_rich_sources.specs.Bodies.{Bodies, bodies_of, kernel_side, tree_bodies, user_side, whole_side}
use Rattle.mdr_rich_sources.specs.Runs.{written_run}
use Rattle.mdr_source.specs.declared.outcome.Source.{Source}
use Rattle.mdr_source.specs.Sources.{IsSource}
use Rattle.mdr_watched.specs.Watched.{watched}

-- the source's tree comes to the program, and these are the bodies of its functions
pub record IsWrittenIn (bytes : List ℕ) (halves : Bool) (uses : UseRule) (program : Program) (bs : Bodies) : Type 0 where
  pub tokens : List Token
  pub tree : Tree
  pub lexed : tokens_of bytes ≡ Ok tokens
  pub read : Reads halves tokens tree
  pub pieces : List Piece
  pub found : file_pieces (body_rule profile_rules) uses tree.items ≡ Right pieces
  pub program_is : program ≡ program_of pieces
  pub bodies_are : bs ≡ bodies_of pieces

-- each body of the program is the lowered one of a body that was written: in the whole program, and in both halves
pub record IsLoweredFrom (program : Program) (bs : Bodies) : Type 0 where
  pub whole : IsLowered program (whole_side program bs) (plain.whole_side program)
  pub kernel : (is_kernel : ℕ → Bool) → IsLowered program (kernel_side is_kernel program bs) (plain.kernel_side is_kernel program)
  pub user : (is_kernel : ℕ → Bool) → IsLowered program (user_side is_kernel program bs) (plain.user_side is_kernel program)

abbrev pub SourcesAreLowered : Type 0
SourcesAreLowered = (bytes : List ℕ) (halves : Bool) (uses : UseRule) (program : Program) (bs : Bodies) → IsWrittenIn bytes halves uses program bs → HasFewNumbers program → IsLoweredFrom program bs

-- the watched run of a program is that by the bodies as they were written, for each plan, script and budget
abbrev pub RunsMeanWhatIsWritten : Type 0
RunsMeanWhatIsWritten =
    (bytes : List ℕ) (halves : Bool) (uses : UseRule) (program : Program) (bs : Bodies) → IsWrittenIn bytes halves uses program bs → HasFewNumbers program
    → (plan : Plan) (script : Bound) (budget : ℕ) → watched program plan script budget ≡ written_run program plan bs script budget

-- so it is of each source, by the bodies in its tree
abbrev pub SourcesMeanWhatIsWritten : Type 0
SourcesMeanWhatIsWritten =
    (bytes : List ℕ) (source : Source) → IsSource bytes source → (plan : Plan) (script : Bound) (budget : ℕ)
    → watched source.program plan script budget ≡ written_run source.program plan (tree_bodies source.tree) script budget
