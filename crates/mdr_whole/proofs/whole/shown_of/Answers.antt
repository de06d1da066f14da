use Rattle.mdr_whole.proofs.Scripts.{shown_by}
use Rattle.mdr_whole.proofs.whole.shown_of.Goals as goal

pub returns : goal.returns
returns c =
    shown_by c.args.program.now c.args.world.now c.do_commands.new.world c.args.script.now c.in_ok-worked.worked c.end_of.result c.in_ok-shown.shown
    c.in_ok-worked.ensures.kept c.in_ok-worked.ensures.finished c.end_of.ensures c.in_ok-shown.ensures
