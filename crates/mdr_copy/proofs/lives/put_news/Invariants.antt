use Rattle.std.proofs.Common.{◌≡◌, ◌≤◌, length, drop}
use Rattle.mdr_model.specs.Copies.{with_news}
use Rattle.mdr_copy.proofs.lives.put_news.Given as goal

abbrev pub invariant-loop-i : goal.invariant-loop-i
invariant-loop-i l = (l.i ≤ length l.news) × (l.copy ≡ with_news l.program (drop l.i l.news) l.initial.copy)

abbrev pub decreases-loop-i : goal.decreases-loop-i
decreases-loop-i l = l.i
