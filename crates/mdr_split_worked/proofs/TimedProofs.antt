-- The driver whose device counts ticks passes the messages that it is said to pass.
use Rattle.std.proofs.Common.{◌≡◌, suc, [], Some, refl}
use Rattle.mdr_model.specs.declared.outcome.End.TheVariants as ends
use Rattle.mdr_model.specs.Law.{read}
use Rattle.mdr_model.specs.User.{allowance}
use Rattle.mdr_plain.specs.Outcome.{outcome_of}
use Rattle.mdr_plain.specs.Scripts.{finish}
use Rattle.mdr_split.proofs.WorkedProofs.{passes}
use Rattle.mdr_split.specs.AnyAnswers.{kernel_in}
use Rattle.mdr_split.specs.Kernel.{split_run}
use Rattle.mdr_split.specs.Law.{IsHonest}
use Rattle.mdr_split.specs.User.{first_user, user_after}
use Rattle.mdr_split_worked.specs.Worked.{KeepsTime, end_of, timed, start_and_go, timed_sent, timed_answers, timed_outcome, timed_copy}
use Rattle.mdr_watched.specs.Watched.{watched_of}

sent : (split_run timed start_and_go 1000000 (read timed_answers)).sent ≡ timed_sent
unfolding passes
sent = refl

honest : IsHonest timed [] timed_sent timed_answers
unfolding passes
honest = (refl, (refl, (refl, (refl, tt))))

end : end_of (split_run timed start_and_go 1000000 (read timed_answers)).pending ≡ Some ends.Ok
unfolding passes
end = refl

outcome : outcome_of timed.program (finish ends.Ok (kernel_in (split_run timed start_and_go 1000000 (read timed_answers)).pending).world) ≡ timed_outcome
unfolding passes
outcome = refl

watched : outcome_of timed.program (watched_of timed start_and_go 1000000) ≡ timed_outcome
unfolding passes
watched = refl

kernel : (kernel_in (split_run timed start_and_go 1000000 (read timed_answers)).pending).agreed ≡ timed_copy
unfolding passes
kernel = refl

user : (user_after timed (suc (allowance (read timed_sent))) (first_user timed) (read timed_sent)).agreed ≡ timed_copy
unfolding passes
user = refl

pub keeps_time : KeepsTime
keeps_time = record { sent = sent; honest = honest; end = end; outcome = outcome; watched = watched; kernel = kernel; user = user }
