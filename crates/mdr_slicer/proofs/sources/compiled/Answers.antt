use Rattle.std.proofs.Common.{subst}
use Rattle.mdr_source.specs.Sources.{Comes}
use Rattle.mdr_slicer.proofs.Sound.{source_sound}
use Rattle.mdr_slicer.proofs.sources.compiled.Goals as goal

-- src/sources.rt:18:1
pub returns-in-Ok : goal.returns-in-Ok
returns-in-Ok c =
    let comes = subst (Comes c.args.bytes.now) c.in-Ok.is c.in_ok-source.ensures in
    record { comes = comes; sound = source_sound c.args.bytes.now c.in-Ok.source comes }
