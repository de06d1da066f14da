use Rattle.std.proofs.Common.{[], ◌∷◌, ◌++◌, ◌∙◌, ap, sym}
use Rattle.mdr_watch.proofs.Guards.{close_last, close_under, none_outside}
use Rattle.mdr_watch.proofs.guarded.Guarded.close.Goals as goal

pub returns-in-Some : goal.returns-in-Some
returns-in-Some c =
    close_under c.self.inside.world.program c.self.inside.sets.inner c.self.inside.sets.outer c.self.inside.world.world c.args.self c.self.view_is c.from_vec-outer.result c.in-Some.inner
    (sym c.into_vec-outer.ensures ∙ c.in-Some.ensures.items ∙ ap (λ sets. sets ++ c.in-Some.inner ∷ []) (sym c.from_vec-outer.ensures))

pub returns : goal.returns
returns c =
    close_last c.self.inside.world.program c.self.inside.sets.inner c.self.inside.sets.outer c.self.inside.world.world c.args.self c.self.view_is c.leave_user.new.self
    (sym c.into_vec-outer.ensures ∙ none_outside c.into_vec-outer.result.items c.pop.new.self.items _ c.in-None.ensures.items c.in-None.ensures.rest c.in-None.ensures.cases.0) c.leave_user.ensures
