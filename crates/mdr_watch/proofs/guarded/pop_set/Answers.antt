use Rattle.std.proofs.Common.{[], ◌∷◌, ◌++◌, ◌∙◌, ap, sym}
use Rattle.mdr_watch.proofs.Guards.{none_is_some, none_outside, one_under}
use Rattle.mdr_watch.proofs.guarded.pop_set.Goals as goal

pub returns : goal.returns
returns c =
    one_under c.args.sets.now.inner c.in-Some.inner c.args.sets.now.outer c.from_vec.result
    (sym (c.into_vec-outer.ensures ∙ c.replace-outer.ensures.value) ∙ c.in-Some.ensures.items ∙ ap (λ sets. sets ++ c.in-Some.inner ∷ []) (sym c.from_vec.ensures))

pub unreachable-requires : goal.unreachable-requires
unreachable-requires c =
    none_is_some c.args.sets.now.outer c.into_vec-outer.result.items c.requires.0 (sym (c.into_vec-outer.ensures ∙ c.replace-outer.ensures.value))
    (none_outside c.into_vec-outer.result.items c.pop.new.self.items _ c.in-None.ensures.items c.in-None.ensures.rest c.in-None.ensures.cases.0) c.requires.1
