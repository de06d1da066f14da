use Rattle.mdr_rich_sources.proofs.WorkedProofs.{calls_are_right, loops_are_right}
use Rattle.mdr_rich_sources.proofs.worked.functions_are_right.Goals as goal

pub returns : goal.returns
returns c = record { calls = calls_are_right; loops = loops_are_right }
