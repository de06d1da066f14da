use Rattle.std.proofs.Common.{subst}
use Rattle.mdr_source.specs.Sources.{Comes}
use Rattle.mdr_halves.specs.declared.mismatch.Which.TheVariants as which
use Rattle.mdr_halves.specs.Whole.{at}
use Rattle.mdr_halves.proofs.Steps.{refused_so, refused_types, source_sound}
use Rattle.mdr_halves.proofs.texts.of_joined.Goals as goal

pub of_source-requires : goal.of_source-requires
of_source-requires c = source_sound c.args.joined.now c.in-Ok.source (subst (Comes c.args.joined.now) c.in-Ok.is c.in_ok-source.ensures)

pub returns-in-Err-clause-come : goal.returns-in-Err-clause-come
returns-in-Err-clause-come c = λ j.
    refused_so c.args.texts.now c.on_line.result (at which.Kernel 0) c.refused.result (refused_types c.args.texts.now c.args.joined.now c.in-Err.refusal j (subst (Comes c.args.joined.now) c.in-Err.is c.in_ok-source.ensures)) c.on_line.ensures c.refused.ensures
