use Rattle.std.proofs.Common.{refl, sym, ◌∙◌}
use Rattle.std.proofs.lemmas.Result.{IfOk-weaker}
use Rattle.mdr_meaning.specs.Values.{wire_view}
use Rattle.mdr_user_memory.proofs.ByteLaws.{read_dead, read_inside, read_past}
use Rattle.mdr_user_memory.proofs.bytes.read_view.Goals as goal

pub returns-then-not-is_live : goal.returns-then-not-is_live
returns-then-not-is_live c = read_dead c.args.memory.now.view c.args.memory.now.memory (wire_view c.args.p) c.args.count (sym c.is_live.ensures ∙ c.if-not-is_live.true)

pub returns-then-not-has_room : goal.returns-then-not-has_room
returns-then-not-has_room c =
    read_past c.args.memory.now.view c.args.memory.now.memory (wire_view c.args.p) c.args.count (sym c.is_live.ensures ∙ c.if-not-is_live.false) (sym c.has_room.ensures ∙ c.if-not-has_room.true)

pub returns : goal.returns
returns c =
    IfOk-weaker c.bytes_if.result _ _
    (λ bytes e. e ∙ read_inside c.args.memory.now.view c.args.memory.now.memory (wire_view c.args.p) c.args.count _ refl (sym c.is_live.ensures ∙ c.if-not-is_live.false) (sym c.has_room.ensures ∙ c.if-not-has_room.false))
    c.bytes_if.ensures
