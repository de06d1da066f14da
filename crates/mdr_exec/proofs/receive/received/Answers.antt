use Rattle.std.proofs.Common.{◌∙◌, ap, sym}
use Rattle.std.specs.Option.{option_copied}
use Rattle.mdr_meaning.specs.Bodies.{known_of}
use Rattle.mdr_meaning.specs.Values.{wire_of}
use Rattle.mdr_events.specs.Outcomes.{wired}
use Rattle.mdr_exec.proofs.ReceivingLaws.{any_received, none_received, some_received}
use Rattle.mdr_exec.proofs.receive.received.Goals as goal

pub returns-then-is_no_value : goal.returns-then-is_no_value
returns-then-is_no_value c = none_received (known_of c.args.program.now) (option_copied c.args.ty) (wire_of c.args.value) (sym c.is_no_value.ensures ∙ c.if-is_no_value.true)

pub returns-in-Some : goal.returns-in-Some
returns-in-Some c =
    some_received (known_of c.args.program.now) (option_copied c.args.ty) c.in-Some.ty.now (wire_of c.args.value) (wired c.as_assigned.result)
    (sym c.is_no_value.ensures ∙ c.if-is_no_value.false) (ap option_copied c.in-Some.is) c.as_assigned.ensures

pub returns-in-None : goal.returns-in-None
returns-in-None c = any_received (known_of c.args.program.now) (option_copied c.args.ty) (wire_of c.args.value) (sym c.is_no_value.ensures ∙ c.if-is_no_value.false) (ap option_copied c.in-None.is)
