use Rattle.std.proofs.Common.{◌∙◌, ap, arith}
use Rattle.mdr_reach.specs.Chains.{bucket_of}
use Rattle.mdr_reach.proofs.ChainLaws.{linked_more}
use Rattle.mdr_reach.proofs.chains.link.Goals as goal

pub returns-clause-linked : goal.returns-clause-linked
returns-clause-linked c names at linked =
    let lasts = c.args.chains.now.lasts in
    let count = c.len.ensures ∙ lasts.ok.0 in
    linked_more names c.args.name lasts.items c.args.chains.now.befores.items c.push.new.self.items c.bucket_of-bucket.result c.index.result.now c.len-2.result c.in_ok-push.ensures.items (c.len-2.ensures ∙ c.push.new.self.ok.0)
    (c.bucket_of-bucket.ensures.number ∙ ap (bucket_of c.args.name) count) (omega (arith, c.bucket_of-bucket.ensures.inside, count)) c.index.ensures at linked
