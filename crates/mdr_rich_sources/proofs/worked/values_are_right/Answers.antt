use Rattle.mdr_rich_sources.proofs.WorkedProofs.{calls_stand_alone, kept_values_are_read, loops_turn, values_are_right}
use Rattle.mdr_rich_sources.proofs.worked.values_are_right.Goals as goal

pub returns : goal.returns
returns c = record { calls = calls_stand_alone; values = values_are_right; kept = kept_values_are_read; loops = loops_turn }
