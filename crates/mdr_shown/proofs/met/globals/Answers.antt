use Rattle.std.proofs.Common.{◌≡◌, false, sym, subst}
use Rattle.mdr_plain.specs.Outcome.{is_among}
use Rattle.mdr_shown.proofs.MetLaws.{global_is_new}
use Rattle.mdr_shown.proofs.met.globals.Goals as goal

pub add-requires-clause-new : goal.add-requires-clause-new
add-requires-clause-new c = subst (λ xs. is_among xs c.loop-global.global ≡ false) (sym c.loop-global.invariant.so_far) (global_is_new c.loop-global.global)
