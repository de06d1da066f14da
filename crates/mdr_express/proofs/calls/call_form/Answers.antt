use Rattle.mdr_express.proofs.calls.call_form.Goals as goal

pub returns : goal.returns
returns c t args h k = c.valued.ensures _ (c.call_of_parts-call.ensures t args h k)
