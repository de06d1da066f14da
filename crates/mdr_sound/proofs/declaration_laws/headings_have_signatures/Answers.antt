use Rattle.std.specs.Prelude.{length}
use Rattle.mdr_sound.proofs.Headings.{signature_of_heading, signature_formed}
use Rattle.mdr_sound.proofs.declaration_laws.headings_have_signatures.Goals as goal

pub returns : goal.returns
returns c = λ program scope other n h s x low tags e f. record {
  signature = signature_of_heading scope other n h s x tags e f;
  formed = signature_formed scope (length program.structs) n h s low e;
}
