use Rattle.std.proofs.Common.{map, refl, rules}
use Rattle.std.specs.Prelude.{string_bytes}
use Rattle.mdr_due.proofs.StageSteps.{err_weaker}
use Rattle.mdr_slicer.proofs.Steps.{ok_so}
use Rattle.mdr_top.specs.Names.{names_in}
use Rattle.mdr_top.specs.Done.{Done, DonePart}
use Rattle.mdr_top.proofs.TextsLaws.{texts_named, texts_unnamed, texts_unwritten}
use Rattle.mdr_top.proofs.texts.from_texts.Goals as goal

pub returns-in_default-clause-done : goal.returns-in_default-clause-done
returns-in_default-clause-done g c = λ e. Done.usage (texts_unnamed (map string_bytes c.args.words.now) e (search rules)) refl refl c.in_ok-usage_line.ensures

pub returns-clause-done : goal.returns-clause-done
returns-clause-done g c = λ e.
    ok_so c.halves_over.result _ _ (λ due runs. Done.texts (names_in c.in-Some.files) c.in-Some.script_name.now (texts_named (map string_bytes c.args.words.now) (names_in c.in-Some.files) c.in-Some.script_name.now e c.in-Some.ensures) c.halves_over.ensures.kept runs) c.halves_over.ensures.done

pub returns-clause-part : goal.returns-clause-part
returns-clause-part g c = λ e.
    err_weaker c.halves_over.result _ _ (λ part. DonePart.texts_part (names_in c.in-Some.files) c.in-Some.script_name.now (texts_named (map string_bytes c.args.words.now) (names_in c.in-Some.files) c.in-Some.script_name.now e c.in-Some.ensures) c.halves_over.ensures.kept part) c.halves_over.ensures.part

pub returns-clause-unwritten : goal.returns-clause-unwritten
returns-clause-unwritten g c = ok_so c.halves_over.result _ _ (λ due runs. texts_unwritten _ _ _ _ _ _ _ _ _ runs) c.halves_over.ensures.done
