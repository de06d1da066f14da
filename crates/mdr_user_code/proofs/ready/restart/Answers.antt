use Rattle.std.proofs.Common.{◌≡◌, ◌∙◌, ap, sym, subst}
use Rattle.mdr_events.specs.Held.{tree}
use Rattle.mdr_events.specs.Values.{wires_of}
use Rattle.mdr_exec.specs.declared.frame.Machine.{Machine}
use Rattle.mdr_exec.specs.Holding.{held_of}
use Rattle.mdr_meaning.specs.Tree.{Tree}
use Rattle.mdr_user_code.proofs.ReadyLaws.{started_is}
use Rattle.mdr_user_code.proofs.ready.restart.Goals as goal

pub start-requires-clause-body : goal.start-requires-clause-body
start-requires-clause-body c = c.requires.fit.bodies c.args.call.now.func c.requires.user

pub returns : goal.returns
returns c =
    started_is c.args.scene.program.now c.args.scene.plan.now c.args.call.now (wires_of c.as_slice.result.now) c.put.new.place c.start.new.self c.in_ok-start.ensures.ready c.requires.fit
    c.requires.user (ap wires_of c.as_slice.ensures ∙ c.in_ok-values.ensures ∙ c.as_slice-args.ensures)
    (λ p side f r. subst (λ (m : Machine). tree side f (held_of p m) r ≡ Tree.Idle) (sym c.put.ensures) (c.new.ensures p side f r)) c.in_ok-start.ensures.begins
