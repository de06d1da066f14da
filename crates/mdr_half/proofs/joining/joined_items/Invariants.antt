use Rattle.std.proofs.Common.{◌≡◌, length}
use Rattle.std.specs.Vec.Iter.{into_iter_items, into_iter_len}
use Rattle.mdr_half.specs.Joins.{joined_from}
use Rattle.mdr_half.proofs.Pairing.{behind_all}
use Rattle.mdr_half.proofs.joining.joined_items.Given as goal

abbrev pub invariant-loop-mine : goal.invariant-loop-mine
invariant-loop-mine l = record {
  mine_left : into_iter_len l.mine-iterator ≡ length (into_iter_items l.mine-iterator);
  theirs_left : into_iter_len l.theirs ≡ length (into_iter_items l.theirs);
  so_far : behind_all l.items (joined_from l.last (into_iter_items l.mine-iterator) (into_iter_items l.theirs)) ≡ joined_from 1 l.fn.kernel l.fn.user;
}
