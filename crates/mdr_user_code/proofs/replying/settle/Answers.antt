use Rattle.std.proofs.Common.{◌≡◌, ◌-◌, ◌∙◌, List, sym, ap}
use Rattle.mdr_model.specs.declared.memory.Cell.{Cell}
use Rattle.mdr_model.specs.declared.message.Message.TheVariants as message
use Rattle.mdr_model.specs.declared.reply.Reply.{Reply}
use Rattle.mdr_model.specs.Copies.{put_runs}
use Rattle.mdr_user_memory.specs.Kept.{Kept, past_in}
use Rattle.mdr_user_code.specs.declared.state.State.{State}
use Rattle.mdr_user_code.specs.Replying.{state_behind, told_as}
use Rattle.mdr_user_code.proofs.BelowLaws.{settled_so}
use Rattle.mdr_user_code.proofs.replying.settle.Goals as goal

pub settled-settled-requires : goal.settled-settled-requires
settled-settled-requires c = ap (λ rs. put_runs rs c.args.memory.agreed) (c.as_slice.ensures ∙ c.in_ok-runs.ensures) ∙ c.requires.told

pub returns-clause-reply : goal.returns-clause-reply
returns-clause-reply c =
    let m : c.agreed.result.now ≡ c.args.memory.memory = c.agreed.ensures ∙ (ap (λ (k : Kept). k.agreed) c.put.ensures ∙ c.settled-settled.ensures.memory) in
    ap (λ (r : Reply). message.Reply r) c.in_ok-reply.ensures ∙ (λ i. told_as (c.used-used.ensures i) (m i) (c.in_ok-runs.ensures i) c.args.event.now)

pub returns-clause-state : goal.returns-clause-state
returns-clause-state c = record {
  agreed = ap (λ (k : Kept). k.agreed) c.put.ensures ∙ (c.settled-settled.ensures.memory ∙ sym c.requires.told);
  past = ap past_in c.put.ensures ∙ c.settled-settled.ensures.past;
  behind =
      let kept = c.in_ok-keep.ensures ∙ ap (λ n. state_behind (c.args.rest - n) c.args.event.now c.args.state.now) c.used-used.ensures in
      ap (λ (s : State). record s { memory = c.put.new.place; view = c.put-2.new.place }) kept
      ∙ settled_so (c.args.rest - c.args.state.now.machine.used) c.args.event.now c.args.state.now c.put.new.place c.put-2.new.place
      ∙ ap (λ (v : List Cell). state_behind (c.args.rest - c.args.state.now.machine.used) c.args.event.now (record c.args.state.now { memory = c.put.new.place; view = v })) (c.put-2.ensures ∙ c.settled-settled.ensures.view);
}
