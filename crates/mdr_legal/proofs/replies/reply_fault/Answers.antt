-- Each kind of reply has the faults of its function.
use Rattle.mdr_legal.proofs.replies.reply_fault.Goals as goal

pub returns-in-Return : goal.returns-in-Return
returns-in-Return c = cc c.return_fault.ensures

pub returns-in-Down : goal.returns-in-Down
returns-in-Down c = cc c.down_fault.ensures

pub returns-in-Ask : goal.returns-in-Ask
returns-in-Ask c = cc c.ask_fault.ensures

pub returns-in-Stop : goal.returns-in-Stop
returns-in-Stop c = cc c.stop_fault.ensures
