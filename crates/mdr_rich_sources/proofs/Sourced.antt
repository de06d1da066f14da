-- The program of each source means what was written: the parts of the law together.
use Rattle.std.proofs.Common.{◌≡◌, ℕ, false, not, List, ap, sym, ◌∙◌, subst, arith}
use Rattle.mdr_core.specs.declared.program.Program.{Program}
use Rattle.mdr_check.specs.Whole.{file_pieces}
use Rattle.mdr_body.specs.Bodies.{body_rule}
use Rattle.mdr_body.specs.Uses.{first_use}
use Rattle.mdr_faults.specs.Faults.{Right, after}
use Rattle.mdr_meaning.specs.Bodies.{started}
use Rattle.mdr_program.specs.Programs.{program_of, program_right, typed}
use Rattle.mdr_typing.specs.Profile.{profile_rules}
use Rattle.mdr_rich_sources.specs.Functions.{rich_started}
use Rattle.mdr_rich_sources.specs.Expressions.{RichSide}
use Rattle.mdr_rich_sources.specs.LoweringLaw.{IsLowered}
use Rattle.mdr_rich_sources.proofs.Keeps.{lowering_keeps_trees}
use Rattle.mdr_meaning.specs.Sides.{Side}
use Rattle.mdr_rich_sources.specs.Bodies.{bodies_of, right_or_none, tree_bodies}
use Rattle.mdr_rich_sources.specs.Laws.{IsLoweredFrom, IsWrittenIn, RunsMeanWhatIsWritten, SourcesAreLowered, SourcesMeanWhatIsWritten}
use Rattle.mdr_rich_sources.proofs.Filing.{file_matches}
use Rattle.mdr_rich_sources.proofs.Matching.{all_lowered}
use Rattle.mdr_rich_sources.proofs.Running.{runs_same}
use Rattle.mdr_sound.proofs.Rights.{after_right, same_right}
use Rattle.mdr_sound.proofs.Filed.{IsFile, file_made, pieces_right}
use Rattle.mdr_sound.proofs.Itemising.{bytes_proper}
use Rattle.mdr_sound.proofs.Sourced.{bodies_of as bodies_proper, has_all, ranges_of}
use Rattle.mdr_sound.proofs.Stating.{profile_sound}
use Rattle.mdr_source.specs.declared.outcome.Source.{Source}
use Rattle.mdr_source.specs.Sources.{IsSource}
use Rattle.mdr_watched.specs.Driver.{is_user}

pub sources_lowered : SourcesAreLowered
sources_lowered bytes halves uses program bs is numbers =
    let types = numbers.types in
    let items = is.tree.items in
    let proper = bytes_proper bytes halves is.tokens is.tree is.lexed is.read in
    let right = pieces_right (body_rule profile_rules) uses items is.pieces is.found in
    let file : IsFile (body_rule profile_rules) items program = record { pieces = is.pieces; right = right; is = is.program_is } in
    let typed_is : typed (body_rule profile_rules) uses items ≡ Right program = ap (λ c. after c program_right) is.found ∙ ap Right (sym is.program_is) in
    subst (IsLoweredFrom program) (sym is.bodies_are)
    (all_lowered program (bodies_of is.pieces)
    (file_matches program profile_rules items is.pieces right (file_made (body_rule profile_rules) items program file) (ranges_of items proper) (bodies_proper items proper)
    (has_all program uses items typed_is proper (omega (arith, types))) (λ scope known slots. profile_sound program slots scope known)))

-- what its functions are started as
starts_same : (program : Program) (rich : RichSide) (side : Side) → IsLowered program rich side → started side ≡ rich_started rich
starts_same program rich side is = λ i n f args depth below. sym (lowering_keeps_trees program rich side is n f args depth below) i

pub runs_written : RunsMeanWhatIsWritten
runs_written bytes halves uses program bs is numbers plan script budget =
    let from = sources_lowered bytes halves uses program bs is numbers in
    runs_same program plan bs script budget
    (starts_same program _ _ (from.kernel (λ f. not (is_user plan f))))
    (starts_same program _ _ (from.user (λ f. not (is_user plan f))))

-- ---- by the bodies of a tree

tree_written : (bytes : List ℕ) (source : Source) → IsSource bytes source → IsWrittenIn bytes false first_use source.program (tree_bodies source.tree)
unfolding tree_bodies
tree_written bytes source is =
    let a = after_right (file_pieces (body_rule profile_rules) first_use source.tree.items) program_right source.program is.judged in
    record {
      tokens = is.tokens;
      tree = source.tree;
      lexed = is.are_tokens;
      read = is.reads;
      pieces = a.value;
      found = a.right;
      program_is = sym (same_right (program_of a.value) source.program a.made);
      bodies_are = ap (λ c. bodies_of (right_or_none c)) a.right;
    }

pub sources_written : SourcesMeanWhatIsWritten
sources_written bytes source is plan script budget = runs_written bytes false first_use source.program (tree_bodies source.tree) (tree_written bytes source is) is.numbers plan script budget
