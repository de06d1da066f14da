use Rattle.std.proofs.Common.{map}
use Rattle.std.specs.Prelude.{string_bytes}
use Rattle.mdr_top.proofs.DoneLaws.{prints_so, does_made, does_mean, does_run, does_tell, texts_are_meant}
use Rattle.mdr_top.proofs.AsWritten.{does_as_written}
use Rattle.mdr_top.proofs.Complete.{completes, made_completes}
use Rattle.mdr_top.proofs.Comes.{comes_last, prints_comes}
use Rattle.mdr_top.proofs.Exact.{cut_completes, made_exactly, prints_exactly, usage_comes, whole_completes}
use Rattle.mdr_top.proofs.TextsLaws.{prints_as_split}
use Rattle.mdr_top.proofs.top.run.Goals as goal

pub returns-clause-prints : goal.returns-clause-prints
returns-clause-prints g c = prints_so _ _ _ _ c.printed.ensures.does

pub returns-clause-far_exchange : goal.returns-clause-far_exchange
returns-clause-far_exchange g c = λ fault. comes_last _ _ _ _ _ (prints_comes _ _ _ _ (prints_so _ _ _ _ c.printed.ensures.does)) fault

pub returns-clause-failed_write : goal.returns-clause-failed_write
returns-clause-failed_write g c = does_tell _ _ _ _ c.printed.ensures.does

pub returns-clause-meaning : goal.returns-clause-meaning
returns-clause-meaning g c = λ honest. does_mean _ _ _ _ c.printed.ensures.does honest

pub returns-clause-as_written : goal.returns-clause-as_written
returns-clause-as_written g c = does_as_written _ _ _ _ c.printed.ensures.does

pub returns-clause-whole_meaning : goal.returns-clause-whole_meaning
returns-clause-whole_meaning g c = λ source_name script_name manner named is. does_run _ _ _ _ source_name script_name manner named c.printed.ensures.does is

pub returns-clause-made_meaning : goal.returns-clause-made_meaning
returns-clause-made_meaning g c = λ honest recipe named is. does_made _ _ _ _ honest is recipe named c.printed.ensures.does

pub returns-clause-texts_meaning : goal.returns-clause-texts_meaning
returns-clause-texts_meaning g c = texts_are_meant _ _ _ _ c.printed.ensures.does

pub returns-clause-as_split : goal.returns-clause-as_split
returns-clause-as_split g c = prints_as_split _ _ _ _ (prints_so _ _ _ _ c.printed.ensures.does)

pub returns-clause-comes : goal.returns-clause-comes
returns-clause-comes g c = prints_comes _ _ _ _ (prints_so _ _ _ _ c.printed.ensures.does)

pub returns-clause-exact : goal.returns-clause-exact
returns-clause-exact g c = prints_exactly _ _ _ _ (prints_so _ _ _ _ c.printed.ensures.does)

pub returns-clause-made_exact : goal.returns-clause-made_exact
returns-clause-made_exact g c = made_exactly (map string_bytes c.args.words.now.items) _ _ _ (prints_so (map string_bytes c.args.words.now.items) _ _ _ c.printed.ensures.does)

pub returns-clause-usage : goal.returns-clause-usage
returns-clause-usage g c = λ none. usage_comes _ _ _ _ (prints_so _ _ _ _ c.printed.ensures.does) none

pub returns-clause-complete : goal.returns-clause-complete
returns-clause-complete g c =
    completes _ _ _ _ (prints_exactly _ _ _ _ (prints_so _ _ _ _ c.printed.ensures.does)) (λ honest. does_mean _ _ _ _ c.printed.ensures.does honest) c.printed.ensures.read_cause c.printed.ensures.write_cause c.printed.ensures.far_cause

pub returns-clause-cut_complete : goal.returns-clause-cut_complete
returns-clause-cut_complete g c = cut_completes (map string_bytes c.args.words.now.items) _ _ _ (prints_exactly (map string_bytes c.args.words.now.items) _ _ _ (prints_so (map string_bytes c.args.words.now.items) _ _ _ c.printed.ensures.does)) c.printed.ensures.read_cause c.printed.ensures.write_cause

pub returns-clause-whole_complete : goal.returns-clause-whole_complete
returns-clause-whole_complete g c = whole_completes (map string_bytes c.args.words.now.items) _ _ _ (prints_exactly (map string_bytes c.args.words.now.items) _ _ _ (prints_so (map string_bytes c.args.words.now.items) _ _ _ c.printed.ensures.does)) c.printed.ensures.read_cause c.printed.ensures.write_cause

pub returns-clause-made_complete : goal.returns-clause-made_complete
returns-clause-made_complete g c =
    made_completes (map string_bytes c.args.words.now.items) _ _ _ (made_exactly (map string_bytes c.args.words.now.items) _ _ _ (prints_so (map string_bytes c.args.words.now.items) _ _ _ c.printed.ensures.does))
    (λ honest recipe named is. does_made _ _ _ _ honest is recipe named c.printed.ensures.does) (λ honest. does_mean _ _ _ _ c.printed.ensures.does honest) c.printed.ensures.write_cause c.printed.ensures.far_cause
