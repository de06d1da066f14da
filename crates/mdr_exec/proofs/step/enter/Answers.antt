use Rattle.std.proofs.Common.{◌+◌, ◌∙◌, refl}
use Rattle.mdr_exec.proofs.EnterLaws.{enters_list}
use Rattle.mdr_exec.proofs.step.enter.Goals as goal

pub returns-clause-held : goal.returns-clause-held
returns-clause-held c =
    enters_list c.args.machine.now c.args.part (c.args.machine.now.top.next + 1) c.push.new.self c.replace-born.new.dest c.replace-born.result c.requires.runs refl
    (c.replace-born.ensures.after ∙ c.new.ensures) c.replace-born.ensures.value c.in_ok-push.ensures.ok
