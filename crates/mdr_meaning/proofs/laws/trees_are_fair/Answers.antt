use Rattle.mdr_meaning.proofs.FairLaws.{sides_are_of_programs, trees_are_fair, trees_are_fair_to}
use Rattle.mdr_meaning.proofs.WithinLaws.{all_keep_to_it}
use Rattle.mdr_meaning.proofs.laws.trees_are_fair.Goals as goal

pub returns : goal.returns
returns c = record { fair = trees_are_fair; deep = trees_are_fair_to; sides = sides_are_of_programs; all = all_keep_to_it }
