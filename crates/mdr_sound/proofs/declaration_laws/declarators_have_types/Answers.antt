use Rattle.std.specs.Prelude.{length}
use Rattle.mdr_sound.proofs.NamedTypes.{declarator_good}
use Rattle.mdr_sound.proofs.Objects.{tags_numbered}
use Rattle.mdr_sound.proofs.declaration_laws.declarators_have_types.Goals as goal

pub returns : goal.returns
returns c = λ program scope d t st.
    let g = declarator_good scope (length program.structs) d (tags_numbered program scope st) in
    (λ e. g.whole t e, λ e. g.parameter t e)
