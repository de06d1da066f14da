use Rattle.std.proofs.Common.{◌≡◌, ◌<◌, None, ◌∙◌, ap, arith}
use Rattle.mdr_track.specs.Pairs.{paired}
use Rattle.mdr_track.specs.Tracked.{Tracked, found_in, pairs_of}
use Rattle.mdr_track.proofs.TrackedLaws.{added, kept-paired, ok_gives}
use Rattle.mdr_track.proofs.tracker.Tracker.pair.Goals as goal

-- src/tracker.rt:99:5
pub invariant_of-self : goal.invariant_of-self
invariant_of-self c =
    let m = c.self.inside.by_serial in
    let n = c.self.inside.by_block in
    let some : 0 < c.self.inside.room = omega (arith, c.requires.room, ap (λ (x : Tracked). x.room) c.self.view_is) in
    let u = ok_gives c.insert.result (c.insert.ensures.succeeds (omega (arith, some, c.self.invariant.serials))) c.insert.ensures.updates in
    let v = ok_gives c.insert-2.result (c.insert-2.ensures.succeeds (omega (arith, some, c.self.invariant.blocks))) c.insert-2.ensures.updates in
    let e = added m.entries c.insert.new.self.entries n.entries c.insert-2.new.self.entries c.args.serial c.args.block c.key_of.result c.key_of.ensures u.0 v.0 in
    let free : (found_in m.entries n.entries).user_of c.args.serial ≡ None = ap (λ (x : Tracked). (pairs_of x).user_of c.args.serial) c.self.view_is ∙ c.requires.new in
    let fresh : (found_in m.entries n.entries).serial_of c.args.block ≡ None = ap (λ (x : Tracked). (pairs_of x).serial_of c.args.block) c.self.view_is ∙ c.requires.free in
    kept-paired m c.insert.new.self n c.insert-2.new.self c.self.inside.room c.args.serial c.args.block c.self.invariant e free fresh c.insert.ensures.spare c.insert-2.ensures.spare

-- src/tracker.rt:99:5
pub returns-clause-pairs : goal.returns-clause-pairs
returns-clause-pairs c =
    let m = c.self.inside.by_serial in
    let n = c.self.inside.by_block in
    let some : 0 < c.self.inside.room = omega (arith, c.requires.room, ap (λ (x : Tracked). x.room) c.self.view_is) in
    let u = ok_gives c.insert.result (c.insert.ensures.succeeds (omega (arith, some, c.self.invariant.serials))) c.insert.ensures.updates in
    let v = ok_gives c.insert-2.result (c.insert-2.ensures.succeeds (omega (arith, some, c.self.invariant.blocks))) c.insert-2.ensures.updates in
    added m.entries c.insert.new.self.entries n.entries c.insert-2.new.self.entries c.args.serial c.args.block c.key_of.result c.key_of.ensures u.0 v.0
    ∙ ap (λ (x : Tracked). paired c.args.serial c.args.block (pairs_of x)) c.self.view_is
