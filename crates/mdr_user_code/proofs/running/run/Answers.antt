use Rattle.std.proofs.Common.{◌∙◌, ap}
use Rattle.mdr_user_memory.specs.Copied.{copied}
use Rattle.mdr_user_memory.specs.Kept.{Kept, past_in}
use Rattle.mdr_user_code.specs.Standing.{driver_in}
use Rattle.mdr_user_code.proofs.RunLaws.{run_from, run_past, run_told}
use Rattle.mdr_user_code.proofs.running.run.Goals as goal

pub settle-requires-clause-used : goal.settle-requires-clause-used
settle-requires-clause-used c = c.in-Ok.ensures.used

pub settle-requires-clause-told : goal.settle-requires-clause-told
settle-requires-clause-told c =
    let k = c.args.state.now.memory in
    run_told (driver_in c.args.scene) c.args.state.now c.go.new.machine (past_in k) c.args.view c.args.rest k.agreed c.seen-seen.result c.go.new.memory c.in-Ok.event
    (c.seen-seen.ensures ∙ ap (λ (x : Kept). copied (past_in x) x.agreed c.args.view x.agreed) c.replace-memory.ensures.value) c.is_paired.ensures.rises c.in-Ok.ensures.ran

pub returns-in_ok-reply-in-Ok-clause-replies : goal.returns-in_ok-reply-in-Ok-clause-replies
returns-in_ok-reply-in-Ok-clause-replies c =
    let k = c.args.state.now.memory in
    run_from (driver_in c.args.scene) c.args.state.now c.settle.new.state c.replace-memory.new.dest c.go.new.machine (past_in k) c.args.view c.args.rest c.seen-seen.result c.go.new.memory c.in-Ok.event
    c.in_ok-reply-in-Ok.reply c.requires.ready (c.seen-seen.ensures ∙ ap (λ (x : Kept). copied (past_in x) x.agreed c.args.view x.agreed) c.replace-memory.ensures.value) c.is_paired.ensures.rises c.in-Ok.ensures.used
    c.in-Ok.ensures.ran c.in_ok-reply-in-Ok.ensures.reply c.in_ok-reply-in-Ok.ensures.state c.requires.below

pub returns-in_ok-reply-in-Ok-clause-past : goal.returns-in_ok-reply-in-Ok-clause-past
returns-in_ok-reply-in-Ok-clause-past c =
    let k = c.args.state.now.memory in
    c.in_ok-reply-in-Ok.ensures.state.past
    ∙ run_past (driver_in c.args.scene) c.args.state.now c.go.new.machine (past_in k) c.args.view c.args.rest k.agreed c.seen-seen.result c.go.new.memory c.in-Ok.event
    (c.seen-seen.ensures ∙ ap (λ (x : Kept). copied (past_in x) x.agreed c.args.view x.agreed) c.replace-memory.ensures.value) c.is_paired.ensures.rises c.in-Ok.ensures.ran
