use Rattle.mdr_halves.proofs.Steps.{half_unread, refused_kernel}
use Rattle.mdr_halves.proofs.joining.joined_text.Goals as goal

pub returns-in-Err : goal.returns-in-Err
returns-in-Err c =
    refused_kernel c.args.texts.now c.in-Err.line c.on_line.result (half_unread c.args.texts.now.kernel c.as_slice.result.now c.in_ok-kernel.field-0 c.in-Err.line c.as_slice.ensures c.in_ok-kernel.ensures c.in-Err.is) c.on_line.ensures
