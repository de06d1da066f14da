use Rattle.std.proofs.Common.{◌∙◌, ◌++◌, ◌∷◌, [], Some, None, cond, length, ap, sym, subst}
use Rattle.std.specs.Option.{option_or}
use Rattle.std.specs.Str.{bytes_eq}
use Rattle.mdr_faults.specs.Naming.{place_in, Leads}
use Rattle.mdr_faults.proofs.Places.{leads_still, leads_further}
use Rattle.mdr_faults.proofs.names.Names.push.Goals as goal

pub invariant_of-self-in_err-note : goal.invariant_of-self-in_err-note
invariant_of-self-in_err-note g c =
    subst (λ xs. Leads g.T.HasName.name xs c.note.new.places) (sym c.reserve.ensures.items)
    (leads_still g.T.HasName.name c.self.inside.items.items c.self.inside.places c.note.new.places c.self.invariant c.in_err-note.ensures.err)

pub invariant_of-self-2 : goal.invariant_of-self-2
invariant_of-self-2 g c =
    subst (λ xs. Leads g.T.HasName.name xs c.note.new.places) (sym (c.in_ok-push.ensures.items ∙ ap (λ xs. xs ++ c.args.item ∷ []) c.reserve.ensures.items))
    (leads_further g.T.HasName.name c.self.inside.items.items c.args.item c.self.inside.places c.note.new.places c.self.invariant
    (λ n. c.in_ok-note.ensures.ok n
    ∙ (λ i. option_or (place_in c.self.inside.places n) (cond (bytes_eq (c.name.ensures i) n) (Some ((c.len-place.ensures ∙ ap length (sym c.self.view_is)) i)) None))))
