use Rattle.std.proofs.lemmas.Result.{IfOk-weaker}
use Rattle.mdr_halves.proofs.Steps.{half_read, half_unread, joined_trees, refused_user}
use Rattle.mdr_halves.proofs.joining.with_kernel.Goals as goal

pub returns-in-Ok-Ok : goal.returns-in-Ok-Ok
returns-in-Ok-Ok c = λ half.
    IfOk-weaker c.of_trees.result _ _
    (λ o j. joined_trees c.args.texts.now c.args.kernel c.in-Ok-Ok.user o half (half_read c.args.texts.now.user c.as_slice.result.now c.in-Ok-Ok.field-0 c.in-Ok-Ok.user c.as_slice.ensures c.in-Ok-Ok.ensures c.in-Ok-Ok.field-0-is) j)
    c.of_trees.ensures

pub returns-in-Ok-Err : goal.returns-in-Ok-Err
returns-in-Ok-Err c = λ half.
    refused_user c.args.texts.now c.args.kernel c.in-Ok-Err.line c.on_line.result c.refused.result half (half_unread c.args.texts.now.user c.as_slice.result.now c.in-Ok-Err.field-0 c.in-Ok-Err.line c.as_slice.ensures c.in-Ok-Err.ensures c.in-Ok-Err.field-0-is)
    c.on_line.ensures c.refused.ensures
