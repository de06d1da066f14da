use Rattle.std.proofs.Common.{false}
use Rattle.mdr_core.specs.declared.plan.Half.TheVariants.{Kernel, User}
use Rattle.mdr_roundtrip.proofs.Lexemes.{tokens_are_lexed}
use Rattle.mdr_roundtrip.proofs.PrintedTrees.{printed_alike}
use Rattle.mdr_roundtrip.proofs.ShapingSources.{sources_are_shaped}
use Rattle.mdr_texts.proofs.HalvesAgain.{half_again}
use Rattle.mdr_texts.proofs.JoinedAgain.{none_remote, halves_joined}
use Rattle.mdr_texts.proofs.laws.halves_that_are_read_are_joined.Goals as goal

pub returns : goal.returns
returns c bytes tokens ks us tree kernel user plan e r =
    halves_joined printed_alike plan tree kernel user ks us (none_remote tree.items (sources_are_shaped false tokens tree (tokens_are_lexed bytes tokens e) r))
    (half_again bytes tokens tree Kernel plan e r) (half_again bytes tokens tree User plan e r)
