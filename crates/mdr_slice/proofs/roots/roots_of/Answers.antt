use Rattle.std.proofs.Common.{ap, ◌∙◌, arith}
use Rattle.mdr_paths.specs.Numbers.{marks_of}
use Rattle.mdr_paths.proofs.Told.{told_nodes}
use Rattle.mdr_slice.proofs.GraphLaws.{roots_are}
use Rattle.mdr_slice.proofs.roots.roots_of.Goals as goal

pub returns : goal.returns
returns c = roots_are _ _ (told_nodes _ _ _ _ (c.in_ok-roots.ensures ∙ ap marks_of c.as_slice-3.ensures.value) c.in_ok-marks.ensures)

pub root_marks-requires-clause-few : goal.root_marks-requires-clause-few
root_marks-requires-clause-few c = let few = c.requires.funcs in omega (arith, few)
