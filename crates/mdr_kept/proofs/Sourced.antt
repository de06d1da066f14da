-- The program of a source names objects only where they live: the parts of the law together.
use Rattle.std.proofs.Common.{arith}
use Rattle.mdr_sound.proofs.Sourced.{ranges_of, bodies_of, has_all}
use Rattle.mdr_typing.specs.Profile.{profile_rules}
use Rattle.mdr_sound.proofs.Itemising.{bytes_proper}
use Rattle.mdr_sound.proofs.Stating.{profile_sound}
use Rattle.mdr_kept.specs.ScopedSources.{SourcesAreScoped}
use Rattle.mdr_kept.proofs.Filing.{files_scoped}
use Rattle.mdr_kept.proofs.Typing.{profile_plain}

pub sources_scoped : SourcesAreScoped
sources_scoped bytes halves uses program is numbers =
    let types = numbers.types in
    let proper = bytes_proper bytes halves is.tokens is.tree is.lexed is.read in
    let items = (is.tree).items in
    files_scoped program profile_rules uses items is.typed (ranges_of items proper) (bodies_of items proper) (λ scope known slots. profile_sound program slots scope known) profile_plain (has_all program uses items is.typed proper (omega (arith, types)))
