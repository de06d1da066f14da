use Rattle.std.proofs.Common.{subst, sym}
use Rattle.mdr_reach.specs.Chains.{AreChained}
use Rattle.mdr_reach.proofs.ChainLaws.{chained_more, chained_same}
use Rattle.mdr_reach.proofs.chains.add.Goals as goal

pub returns-in_err-link-clause-chained : goal.returns-in_err-link-clause-chained
returns-in_err-link-clause-chained c = chained_same c.args.names.now.items c.reserve.new.self.items c.args.chains.now c.link.new.chains c.reserve.ensures.items c.in_err-link.ensures.same_lasts c.in_err-link.ensures.same_links c.requires.chained

pub returns-clause-chained : goal.returns-clause-chained
returns-clause-chained c =
    chained_more c.reserve.new.self.items c.push_reserved.new.self.items c.args.name c.args.chains.now c.link.new.chains c.push_reserved.ensures.items c.in_ok-link.ensures.links c.link.ensures.linked
    (subst (λ xs. AreChained xs c.args.chains.now) (sym c.reserve.ensures.items) c.requires.chained)
