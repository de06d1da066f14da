use Rattle.std.proofs.Common.{◌≡◌, None, map, drop}
use Rattle.mdr_model.specs.declared.message.New.{New}
use Rattle.mdr_model.specs.User.{rise_after}
use Rattle.mdr_copy.proofs.checks.births_rise.Given as goal

abbrev pub invariant-loop-new : goal.invariant-loop-new
invariant-loop-new l = rise_after l.before (map (λ (n : New). n.serial) (drop l.new-index l.news)) ≡ rise_after None (map (λ (n : New). n.serial) l.news)
