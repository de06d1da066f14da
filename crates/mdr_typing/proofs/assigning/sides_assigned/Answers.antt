use Rattle.mdr_typing.proofs.assigning.sides_assigned.Goals as goal

pub returns : goal.returns
returns c c' d h k =
    let s = c.in_ok-sides.ensures c' d h k in
    c.in_ok-side_assigned.ensures c' d s.0 s.1
