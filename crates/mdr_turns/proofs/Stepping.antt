-- Behind the last command of a script.
use Rattle.std.proofs.Common.{◌≡◌, ℕ, ◌≤◌, List, length, drop, sym, ◌∙◌, subst}
use Rattle.std.proofs.lemmas.List.{at_drop_all}
use Rattle.mdr_model.specs.declared.command.Command.{Command}
use Rattle.mdr_model.specs.declared.outcome.End.TheVariants as ends
use Rattle.mdr_split.specs.Kernel.{split_commands}
use Rattle.mdr_split.specs.State.{Kernel, Pending, Over}
use Rattle.mdr_turns.specs.declared.state.Between.{Between}
use Rattle.mdr_turns.specs.Coming.{IsOver}
use Rattle.mdr_turns.specs.States.{kernel_at}
use Rattle.mdr_turns.proofs.Ends.{is_over, left_same}
use Rattle.mdr_watched.specs.Driver.{Driver}

module _ (d : Driver) (script : List Command) where
  -- behind the last one
  pub commands_end : (i : ℕ) (k : Kernel) → length script ≤ i → split_commands d (drop i script) k ≡ Over ends.Ok k
  unfolding split_commands
  commands_end i k past = at_drop_all (λ (cs : List Command). split_commands d cs k) script i past

  -- so the script is at its end
  pub ends_so : (i : ℕ) (b : Between) (end : Pending) → length script ≤ i → split_commands d (drop i script) (kernel_at b) ≡ end → IsOver ends.Ok b.world.world end
  ends_so i b end past so_far = subst (λ x. IsOver ends.Ok b.world.world x) (sym (commands_end i (kernel_at b) past) ∙ so_far) (is_over ends.Ok b.ledger b.world.world b.world.world (left_same b.world.world))
