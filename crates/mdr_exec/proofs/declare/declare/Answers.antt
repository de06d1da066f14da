use Rattle.std.proofs.Common.{◌∙◌, ap, refl, sym}
use Rattle.mdr_meaning.specs.Lives.{shape_of}
use Rattle.mdr_exec.specs.Declaring.{slot_as}
use Rattle.mdr_exec.proofs.declare.declare.Goals as goal

pub returns-in_ok-event : goal.returns-in_ok-event
returns-in_ok-event g c = λ some side n known asks is.
    c.in_ok-event.ensures c.args.program.now side n (slot_as c.args.declared) some c.if-declared.true asks (c.shape_of-shape.ensures ∙ ap (λ k. shape_of k (slot_as c.args.declared)) (sym known)) is

pub returns-else-declared : goal.returns-else-declared
returns-else-declared g c = λ some side n known asks is. c.declare_slot.ensures c.args.program.now side n (slot_as c.args.declared) some c.if-declared.false refl is
