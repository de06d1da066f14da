use Rattle.std.proofs.Common.{ℕ, Some, ap, subst, sym, ◌∙◌}
use Rattle.std.specs.Option.{option_copied}
use Rattle.std.specs.Prelude.{IfSome, option_map}
use Rattle.mdr_user_memory.specs.Kept.{IsLived, Kept}
use Rattle.mdr_region.specs.Layout.{places_of}
use Rattle.mdr_region.specs.RowsView.{Reserved}
use Rattle.mdr_far.specs.Memories.{lived_in}
use Rattle.mdr_far.proofs.half.UserHalf.layout.Goals as goal

abbrev places : Kept → ℕ × ℕ
places u = places_of u.region.contents.lives

pub returns-in-Some-clause-laid : goal.returns-in-Some-clause-laid
returns-in-Some-clause-laid c =
    let l = subst (λ o. IfSome (option_copied o) (λ (u : Kept). IsLived (lived_in c.args.self.now) u)) c.in-Some.is c.memory.ensures.lived in
    (λ i. (c.layout.ensures.taken i, c.layout.ensures.top i)) ∙ (ap (λ (r : Reserved). places_of r.contents.lives) c.region.ensures ∙ ap places_of l.lives)

pub returns-in-Some-clause-there : goal.returns-in-Some-clause-there
returns-in-Some-clause-there c =
    ap Some ((λ i. (c.layout.ensures.taken i, c.layout.ensures.top i)) ∙ ap (λ (r : Reserved). places_of r.contents.lives) c.region.ensures)
    ∙ ap (λ o. option_map places (option_copied o)) (sym c.in-Some.is) ∙ ap (option_map places) c.memory.ensures.there

pub returns-in-None-clause-there : goal.returns-in-None-clause-there
returns-in-None-clause-there c = ap (λ o. option_map places (option_copied o)) (sym c.in-None.is) ∙ ap (option_map places) c.memory.ensures.there
