use Rattle.std.proofs.Common.{sym, ◌∙◌}
use Rattle.mdr_fits.specs.Judged.{places_of}
use Rattle.mdr_split.specs.Fits.{fits}
use Rattle.mdr_fits.proofs.ArgumentTests.{param_fits, param_fails, params_left, params_fit}
use Rattle.mdr_fits.proofs.arguments.args_fault.Goals as goal

pub returns-then-not-fits_param : goal.returns-then-not-fits_param
returns-then-not-fits_param c = c.fault.ensures ∙ param_fails (fits (places_of c.args.places)) c.args.params.now c.args.args.now c.loop-i.i _ _ c.loop-i-test.true (sym c.if-not-fits_param.ensures) c.loop-i.invariant

pub loop-i-preserved : goal.loop-i-preserved
loop-i-preserved c = param_fits (fits (places_of c.args.places)) c.args.params.now c.args.args.now c.loop-i.i _ _ c.loop-i-test.true (sym c.if-not-fits_param.ensures) c.loop-i.invariant

pub returns-then-args-params : goal.returns-then-args-params
returns-then-args-params c = c.fault-then-args-params.ensures ∙ params_left (fits (places_of c.args.places)) c.args.params.now c.args.args.now c.loop-i.i _ c.loop-i.auto.i-end c.loop-i-test.false c.if-args-params.true c.loop-i.invariant

pub returns-else-args-params : goal.returns-else-args-params
returns-else-args-params c = params_fit (fits (places_of c.args.places)) c.args.params.now c.args.args.now c.loop-i.i _ c.loop-i.auto.i-end c.loop-i-test.false c.if-args-params.false c.loop-i.invariant
