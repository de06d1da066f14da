use Rattle.mdr_events.specs.Outcomes.{wired}
use Rattle.mdr_events.specs.Values.{wires_of}
use Rattle.mdr_exec.proofs.OperandLaws.{bin_comes, rel_comes, move_comes, index_comes}
use Rattle.mdr_exec.proofs.evaluate.+evaluate.Goals as goal

pub evaluated-returns-in-Bin : goal.evaluated-returns-in-Bin
evaluated-returns-in-Bin g t c =
    bin_comes g.C.Memory.accesses c.args.memory.now c.args.program.now (wires_of c.args.slots.now) c.args.e.now c.get-in-Bin.result.now c.get-in-Bin-2.result.now c.in-Bin.x c.in-Bin.y c.in-Bin.op c.in-Bin.kind
    (wired c.evaluated-left.result) (wired c.evaluated-right.result) (wired c.combined.result) c.in-Bin.is c.get-in-Bin.ensures c.get-in-Bin-2.ensures c.evaluated-left.ensures c.evaluated-right.ensures c.combined.ensures

pub evaluated-returns-in-Rel : goal.evaluated-returns-in-Rel
evaluated-returns-in-Rel g t c =
    rel_comes g.C.Memory.accesses c.args.memory.now c.args.program.now (wires_of c.args.slots.now) c.args.e.now c.get-in-Rel.result.now c.get-in-Rel-2.result.now c.in-Rel.x c.in-Rel.y c.in-Rel.op
    (wired c.evaluated-left-in-Rel.result) (wired c.evaluated-right-in-Rel.result) (wired c.related.result) c.in-Rel.is c.get-in-Rel.ensures c.get-in-Rel-2.ensures c.evaluated-left-in-Rel.ensures c.evaluated-right-in-Rel.ensures c.related.ensures

pub evaluated-returns-in-Move : goal.evaluated-returns-in-Move
evaluated-returns-in-Move g t c =
    move_comes g.C.Memory.accesses c.args.memory.now c.args.program.now (wires_of c.args.slots.now) c.args.e.now c.get-in-Move.result.now c.get-in-Move-2.result.now c.in-Move.p c.in-Move.i c.in-Move.back
    (wired c.evaluated-pointer.result) (wired c.evaluated-count.result) (wired c.moved.result) c.in-Move.is c.get-in-Move.ensures c.get-in-Move-2.ensures c.evaluated-pointer.ensures c.evaluated-count.ensures c.moved.ensures

pub located-returns-in-Index : goal.located-returns-in-Index
located-returns-in-Index g t c =
    index_comes g.C.Memory.accesses c.args.memory.now c.args.program.now (wires_of c.args.slots.now) c.args.p.now c.get-in-Index.result.now c.in-Index.p c.get-in-Index-2.result.now c.in-Index.e
    (wired c.located-pointer.result) (wired c.evaluated-count.result) (wired c.moved.result) c.in-Index.is c.get-in-Index.ensures c.get-in-Index-2.ensures c.located-pointer.ensures c.evaluated-count.ensures c.moved.ensures
