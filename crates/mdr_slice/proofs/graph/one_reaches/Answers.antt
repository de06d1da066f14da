use Rattle.std.proofs.Common.{arith, map}
use Rattle.std.proofs.lemmas.Bool.{both_ways}
use Rattle.std.proofs.lemmas.List.{length-map}
use Rattle.mdr_core.specs.Folds.{call_of}
use Rattle.mdr_core.specs.Typing.{slots_of}
use Rattle.mdr_slice.proofs.GraphLaws.{one_if, none_more, none_at_all}
use Rattle.mdr_slice.proofs.graph.one_reaches.Goals as goal

pub returns-then-reaches : goal.returns-then-reaches
returns-then-reaches c = one_if c.args.program.now (slots_of c.args.own.now) c.args.counts (λ r. call_of r.now) c.args.calls.now c.loop-call.call-index c.call-item.result c.args.func (omega arith) c.call-item.is (c.reaches.ensures.0 c.if-reaches.true)

pub loop-call-preserved : goal.loop-call-preserved
loop-call-preserved c =
    none_more c.args.program.now (slots_of c.args.own.now) c.args.counts (λ r. call_of r.now) c.args.calls.now c.loop-call.call-index c.call-item.result c.args.func (omega arith) c.call-item.is (λ h. both_ways _ c.if-reaches.false (c.reaches.ensures.1 h)) c.loop-call.invariant

pub returns : goal.returns
returns c = none_at_all c.args.program.now (slots_of c.args.own.now) c.args.counts (map (λ r. call_of r.now) c.args.calls.now) c.loop-call.call-index c.args.func (omega (arith, length-map c.args.calls.now (λ r. call_of r.now))) c.loop-call.invariant
