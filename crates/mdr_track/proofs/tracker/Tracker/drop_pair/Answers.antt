use Rattle.std.proofs.Common.{◌≡◌, Some, sym, ◌∙◌, ap}
use Rattle.mdr_track.specs.Pairs.{unpaired}
use Rattle.mdr_track.specs.Tracked.{Tracked, found_in, pairs_of}
use Rattle.mdr_track.proofs.TrackedLaws.{kept-dropped, of_serial, taken}
use Rattle.mdr_track.proofs.tracker.Tracker.drop_pair.Goals as goal

-- src/tracker.rt:133:13
pub invariant_of-self : goal.invariant_of-self
invariant_of-self c =
    let m = c.self.inside.by_serial in
    let n = c.self.inside.by_block in
    let new = c.swap_remove.new.self in
    let last = c.swap_remove-in-Some.new.self in
    let e = taken m.entries new.entries n.entries last.entries c.args.serial c.in-Some.block c.key_of.result c.key_of.ensures c.swap_remove.ensures.updates.0 c.swap_remove-in-Some.ensures.updates.0 in
    let has : (found_in m.entries n.entries).user_of c.args.serial ≡ Some c.in-Some.block = sym c.swap_remove.ensures.value ∙ c.in-Some.is in
    kept-dropped m new n last c.self.inside.room c.args.serial c.in-Some.block c.self.invariant e has c.swap_remove.ensures.room.0 c.swap_remove-in-Some.ensures.room.0

-- src/tracker.rt:128:5
pub returns-in-Some-clause-pairs : goal.returns-in-Some-clause-pairs
returns-in-Some-clause-pairs c =
    let m = c.self.inside.by_serial in
    let n = c.self.inside.by_block in
    let has : (found_in m.entries n.entries).user_of c.args.serial ≡ Some c.in-Some.block = sym c.swap_remove.ensures.value ∙ c.in-Some.is in
    taken m.entries c.swap_remove.new.self.entries n.entries c.swap_remove-in-Some.new.self.entries c.args.serial c.in-Some.block c.key_of.result c.key_of.ensures c.swap_remove.ensures.updates.0 c.swap_remove-in-Some.ensures.updates.0
    ∙ (of_serial (found_in m.entries n.entries) c.args.serial c.in-Some.block has ∙ ap (λ (x : Tracked). unpaired c.args.serial (pairs_of x)) c.self.view_is)
