use Rattle.std.proofs.Common.{◌∙◌, ap, sym}
use Rattle.std.specs.Option.{option_map}
use Rattle.mdr_exec.specs.Declaring.{slot_as}
use Rattle.mdr_exec.proofs.declare.begin_declare.Goals as goal

pub returns-in_ok-event-in-Some : goal.returns-in_ok-event-in-Some
returns-in_ok-event-in-Some g c = λ side n known asks is. c.in_ok-event-in-Some.ensures (sym c.slot_in.ensures ∙ ap (option_map slot_as) c.in-Some.is) side n known asks is

pub returns-in-None : goal.returns-in-None
returns-in-None g c = λ side n known asks is. c.declare_nothing.ensures c.args.i c.args.program.now side n (sym c.slot_in.ensures ∙ ap (option_map slot_as) c.in-None.is) is
