use Rattle.std.proofs.Common.{◌∙◌, ap, find}
use Rattle.std.specs.Str.{bytes_eq}
use Rattle.mdr_faults.specs.Naming.{item_at}
use Rattle.mdr_faults.proofs.Places.{found}
use Rattle.mdr_faults.proofs.names.Names.find.Goals as goal

pub returns : goal.returns
returns g c =
    c.item_at.ensures
    ∙ (λ i. item_at (c.as_slice.ensures.value i) (c.get.ensures.value i))
    ∙ found g.T.HasName.name c.self.inside.items.items c.self.inside.places c.self.invariant c.args.name.now
    ∙ ap (find (λ x. bytes_eq (g.T.HasName.name x) c.args.name.now)) c.self.view_is
