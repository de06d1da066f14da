use Rattle.std.proofs.Common.{[], ◌∷◌}
use Rattle.mdr_exec.proofs.ReadyLaws.{takes_one}
use Rattle.mdr_whole.proofs.calls.resumed.Goals as goal

pub resume-requires-clause-waiting : goal.resume-requires-clause-waiting
resume-requires-clause-waiting g c = (takes_one c.args.code.program.now c.args.machine (c.args.value ∷ []) c.requires.waits).waiting

pub resume-requires-clause-fit : goal.resume-requires-clause-fit
resume-requires-clause-fit g c = (takes_one c.args.code.program.now c.args.machine (c.args.value ∷ []) c.requires.waits).fit
