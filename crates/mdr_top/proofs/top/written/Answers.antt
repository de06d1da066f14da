use Rattle.std.proofs.Common.{arith, refl}
use Rattle.mdr_top.proofs.Pieces.{adds_more, cut_off, offered_more, still_within, written_whole}
use Rattle.mdr_top.proofs.top.written.Goals as goal

pub loop-used-preserved : goal.loop-used-preserved
loop-used-preserved g c = record {
  within = still_within c.args.text.now c.loop-used.used c.in-Ok.taken c.loop-used-test.true c.in-Ok.ensures.taken.within;
  added = adds_more (g.O.Sink.written c.args.out.now) (g.O.Sink.written c.loop-used.out) (g.O.Sink.written c.write_from.new.out) c.args.text.now c.loop-used.used c.in-Ok.taken c.loop-used.invariant.within c.loop-used.invariant.added c.in-Ok.ensures.taken;
  offered = offered_more (g.O.Sink.calls c.args.out.now) (g.O.Sink.calls c.loop-used.out) (g.O.Sink.calls c.write_from.new.out) c.args.text.now c.loop-used.used c.in-Ok.taken c.loop-used-test.true c.in-Ok.ensures.taken.within c.in-Ok.ensures.taken.some c.loop-used.invariant.offered c.in-Ok.ensures.called;
  later = omega (arith, c.loop-used.invariant.later, c.in-Ok.ensures.faults_later);
}

pub returns-in-Failed : goal.returns-in-Failed
returns-in-Failed g c =
    cut_off _ _ (g.O.Sink.written c.loop-used.out) (g.O.Sink.calls c.loop-used.out) (g.O.Sink.faults c.loop-used.out) c.args.text.now c.loop-used.used c.loop-used-test.true c.loop-used.invariant.added c.loop-used.invariant.later c.loop-used.invariant.offered
    c.in-Failed.ensures.taken c.in-Failed.ensures.called (c.in-Failed.ensures.failed refl)

pub returns : goal.returns
returns g c = written_whole _ _ c.args.text.now c.loop-used.used c.loop-used-test.false c.loop-used.invariant.added c.loop-used.invariant.offered
