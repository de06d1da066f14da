use Rattle.std.proofs.Common.{refl, ◌∙◌, sym, subst}
use Rattle.mdr_meaning.specs.Bodies.{known_of}
use Rattle.mdr_model.specs.Agreement.{SerialsRise}
use Rattle.mdr_user_memory.specs.Beginning.{ComeInOrder}
use Rattle.mdr_user_memory.specs.Kept.{IsLived}
use Rattle.mdr_user_memory.specs.Lived.{lived_of}
use Rattle.mdr_user_code.proofs.FirstLaws.{first_ordered, first_rises}
use Rattle.mdr_user_code.proofs.FollowLaws.{begins_so}
use Rattle.mdr_user_code.proofs.delivery.begins.Goals as goal

pub first_memory-requires : goal.first_memory-requires
first_memory-requires c = c.requires.numbers

pub of_copy-requires-clause-rises : goal.of_copy-requires-clause-rises
of_copy-requires-clause-rises c = subst SerialsRise (sym c.in_ok-agreed.ensures) (first_rises (known_of c.args.program.now))

pub of_copy-requires-clause-ordered : goal.of_copy-requires-clause-ordered
of_copy-requires-clause-ordered c = subst ComeInOrder (sym c.in_ok-agreed.ensures) (first_ordered c.args.program.now c.requires)

pub returns : goal.returns
returns c =
    begins_so c.args.program.now c.args.plan.now _ (c.in_ok-memory.ensures.copy ∙ c.in_ok-agreed.ensures) c.new-entered.ensures refl c.new-below.ensures
    (subst (λ m. IsLived (lived_of m) c.in_ok-memory.memory) c.in_ok-agreed.ensures c.in_ok-memory.ensures.lived)
