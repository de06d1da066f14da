use Rattle.std.proofs.Common.{◌∙◌, sym, ap}
use Rattle.std.specs.Prelude.{option_map}
use Rattle.mdr_mem.specs.Contents.{wire_in}
use Rattle.mdr_track.specs.Tracked.{pairs_of}
use Rattle.mdr_user_memory.proofs.LookingLaws.{none_at, some_at}
use Rattle.mdr_user_memory.proofs.looking.named_at.Goals as goal

pub returns-in-Some : goal.returns-in-Some
returns-in-Some c = some_at c.args.region.now.contents (pairs_of c.args.pairs.now) c.requires.linked c.in-Some.value c.named.result _ c.named.ensures (ap (λ o. option_map (wire_in c.args.region.now.contents.handles) o) (sym c.in-Some.is) ∙ c.value_at.ensures)

pub returns-in-None : goal.returns-in-None
returns-in-None c = none_at c.args.region.now.contents (pairs_of c.args.pairs.now) _ (ap (λ o. option_map (wire_in c.args.region.now.contents.handles) o) (sym c.in-None.is) ∙ c.value_at.ensures)
