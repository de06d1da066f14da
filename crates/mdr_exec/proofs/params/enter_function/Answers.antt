use Rattle.std.proofs.Common.{◌∙◌, sym}
use Rattle.mdr_exec.proofs.ParamLaws.{not_both, shapes_here}
use Rattle.mdr_exec.proofs.params.enter_function.Goals as goal

pub returns-then-is_empty : goal.returns-then-is_empty
returns-then-is_empty g c = λ side known asks.
    c.bear_none.ensures c.args.program.now side (sym (c.is_empty.ensures.0 c.if-is_empty.true) ∙ shapes_here c.args.program.now c.args.machine.now side c.params_in.result.now c.in_ok-shapes.shapes c.in_ok-shapes.ensures c.params_in.ensures known)

pub returns-in_ok-event : goal.returns-in_ok-event
returns-in_ok-event g c = λ side known asks.
    c.in_ok-event.ensures c.args.program.now side (asks ∙ c.if-asks.true) (shapes_here c.args.program.now c.args.machine.now side c.params_in.result.now c.in_ok-shapes.shapes c.in_ok-shapes.ensures c.params_in.ensures known)
    (λ none. not_both (c.is_empty.ensures.1 none) c.if-is_empty.false)

pub returns-in_ok-bear_params : goal.returns-in_ok-bear_params
returns-in_ok-bear_params g c = λ side known asks.
    c.in_ok-bear_params.ensures c.args.program.now side (asks ∙ c.if-asks.false) (c.as_slice.ensures ∙ shapes_here c.args.program.now c.args.machine.now side c.params_in.result.now c.in_ok-shapes.shapes c.in_ok-shapes.ensures c.params_in.ensures known)
    (λ none. not_both (c.is_empty.ensures.1 (sym c.as_slice.ensures ∙ none)) c.if-is_empty.false)
