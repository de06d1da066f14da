use Rattle.std.proofs.Common.{◌∙◌, ap, rules, slice_set}
use Rattle.std.specs.Int.{w128}
use Rattle.std.proofs.lemmas.Int.{to_z-of_z}
use Rattle.mdr_core.specs.declared.value.Value.TheVariants as value
use Rattle.mdr_meaning.specs.Bodies.{known_of}
use Rattle.mdr_exec.proofs.QuickLaws.{global_given, slot_given}
use Rattle.mdr_exec.proofs.quick.put_integer.Goals as goal

pub returns-in-Slot-clause-done : goal.returns-in-Slot-clause-done
returns-in-Slot-clause-done g c = λ did.
    slot_given g.C.Memory.accesses (known_of c.args.program.now) c.args.memory.now c.args.integer c.args.slots.now c.args.p.now c.in-Slot.i c.set.new.self c.in-Slot.is
    (c.set.ensures ∙ ap (λ n. slice_set c.args.slots.now c.in-Slot.i (value.Int c.args.integer.kind n)) (to_z-of_z w128 c.args.integer.number (search rules)))

pub returns-then-has_first-clause-done : goal.returns-then-has_first-clause-done
returns-then-has_first-clause-done g c = λ did.
    global_given g.C.Memory.accesses (known_of c.args.program.now) c.args.memory.now c.args.integer c.args.slots.now c.args.p.now c.in-Global.g c.set_first.new.self c.in-Global.is (c.has_first.ensures c.if-has_first.true) (c.set_first.ensures.done did)
