use Rattle.mdr_access.proofs.SharedLaws.{keeps_shared}
use Rattle.mdr_access.proofs.shared.share.Goals as goal

pub returns : goal.returns
returns c = keeps_shared _ _ c.in_ok-leading.leading.items _ _ _ _ c.in_ok-leading.ensures c.as_slice.ensures.value c.share_marked.ensures
