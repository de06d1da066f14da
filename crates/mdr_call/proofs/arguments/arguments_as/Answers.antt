use Rattle.std.proofs.Common.{◌≡◌, ◌+◌, ◌∷◌, [], ◌++◌, length, slice_get, Ok, refl, ap, arith}
use Rattle.std.proofs.Math.Path.{◌∙◌}
use Rattle.mdr_faults.specs.Faults.{told, extended}
use Rattle.mdr_call.specs.Arguments.{argument_for, arguments_from}
use Rattle.mdr_call.proofs.Gathering.{one_behind_all, one_longer}
use Rattle.mdr_call.proofs.arguments.arguments_as.Goals as goal

pub loop-argument-init : goal.loop-argument-init
unfolding arguments_from
loop-argument-init c = (refl, ap Ok c.new.ensures)

pub loop-argument-preserved : goal.loop-argument-preserved
unfolding arguments_from
loop-argument-preserved c =
    let before : c.loop-argument.i ≡ length c.loop-argument.yielded = c.loop-argument.invariant.0 in
    let at : c.loop-argument.i + 1 ≡ 1 + length c.loop-argument.yielded = omega (arith, before) in
    let longer : length (c.loop-argument.yielded ++ c.in-Some.argument ∷ []) ≡ length c.loop-argument.yielded + 1 = one_longer c.loop-argument.yielded c.in-Some.argument in (
      omega (arith, before, longer),
      c.in_ok-all.ensures ∙ ap (extended c.loop-argument.all) c.in_ok-argument_at.ensures ∙ ap (λ r. extended r (told (argument_for c.args.place (slice_get c.args.types.now (c.loop-argument.i + 1)) c.in-Some.argument))) c.loop-argument.invariant.1
          ∙ one_behind_all (λ i a. argument_for c.args.place (slice_get c.args.types.now i) a) (arguments_from c.args.place c.args.types.now) (λ i. refl) (λ i x xs. refl) c.loop-argument.yielded 1 (c.loop-argument.i + 1) c.in-Some.argument at,
    )
