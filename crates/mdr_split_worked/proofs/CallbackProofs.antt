-- The driver whose kernel code calls back passes the messages that it is said to pass, and where a lock is held that spins none is sent.
use Rattle.std.proofs.Common.{◌≡◌, suc, true, [], ◌∷◌, ◌++◌, Some, refl, ◌∙◌, ap}
use Rattle.mdr_core.specs.Bits.{bit_of, of_bits}
use Rattle.mdr_core.specs.Code.{Codes}
use Rattle.mdr_meaning.proofs.NumberLaws.{type_same}
use Rattle.mdr_meaning.specs.Cut.{cut}
use Rattle.mdr_meaning.specs.Numbers.{is_same_type}
use Rattle.mdr_model.specs.declared.outcome.End.TheVariants as ends
use Rattle.mdr_model.specs.Law.{read}
use Rattle.mdr_model.specs.Text.{answer_text, ask_text, back_text, call_text, down_text, new_text, reply_text, return_text, run_text, set_run_text, shape_text, told_text, text, value_text}
use Rattle.mdr_model.specs.User.{allowance}
use Rattle.mdr_model.specs.Xdr.{four, eight, item, opaque, listed}
use Rattle.mdr_plain.specs.Atomic.{is_any_spinning, is_atomic}
use Rattle.mdr_plain.specs.Outcome.{outcome_of}
use Rattle.mdr_plain.specs.Scripts.{finish}
use Rattle.mdr_slice.specs.Calls.{all_code_names, body_names, global_names, names_of}
use Rattle.mdr_slice.specs.Written.{same_body}
use Rattle.mdr_split.proofs.WorkedProofs.{passes}
use Rattle.mdr_split.specs.AnyAnswers.{kernel_in}
use Rattle.mdr_split.specs.Kernel.{SplitRun, first_kernel, split_commands, split_run}
use Rattle.mdr_split.specs.Law.{IsHonest}
use Rattle.mdr_split.specs.State.{Pending}
use Rattle.mdr_split.specs.User.{first_user, user_after}
use Rattle.mdr_split_worked.proofs.Following.{AllLegal, first_run, first_so}
use Rattle.mdr_split_worked.specs.Worked.{CallbackSpells, CallsBackTwice, MayNotCallBack, call_go, end_of, go_lines, takes_word, twice, twice_answers, twice_copy, twice_first, twice_later, twice_outcome, twice_sent}
use Rattle.mdr_watched.specs.Watched.{calls_back, watched_of}

-- ---- what the kernel half asks of the function that the first reply stores: its type, and whether its address is taken

takes_is_same : is_same_type takes_word takes_word ≡ true
takes_is_same = type_same takes_word

done_is_named : names_of twice.program ≡ 0 ∷ []
unfolding body_names global_names
done_is_named = ap (λ (body : Codes). (all_code_names body ++ []) ++ []) (same_body go_lines)

-- ---- the run

abbrev begins : Pending
begins = split_commands twice call_go.commands (first_kernel twice call_go 1000000)

legal : AllLegal twice (twice_first ∷ []) begins
unfolding passes cut calls_back is_atomic is_any_spinning
legal = (rw (takes_is_same, done_is_named) refl, tt)

run_is : split_run twice call_go 1000000 (read twice_answers) ≡ first_run twice twice_first twice_later begins
unfolding split_run
run_is = first_so twice twice_first twice_later begins legal

sent : (first_run twice twice_first twice_later begins).sent ≡ twice_sent
unfolding passes cut calls_back is_atomic is_any_spinning
sent = refl

honest : IsHonest twice [] twice_sent twice_answers
unfolding passes cut calls_back is_atomic is_any_spinning
honest = (refl, (refl, (refl, (refl, (refl, (refl, (refl, tt)))))))

end : end_of (first_run twice twice_first twice_later begins).pending ≡ Some ends.Ok
unfolding passes cut calls_back is_atomic is_any_spinning
end = refl

outcome : outcome_of twice.program (finish ends.Ok (kernel_in (first_run twice twice_first twice_later begins).pending).world) ≡ twice_outcome
unfolding passes cut calls_back is_atomic is_any_spinning
outcome = refl

watched : outcome_of twice.program (watched_of twice call_go 1000000) ≡ twice_outcome
unfolding passes cut calls_back is_atomic is_any_spinning
watched = refl

kernel : (kernel_in (first_run twice twice_first twice_later begins).pending).agreed ≡ twice_copy
unfolding passes cut calls_back is_atomic is_any_spinning
kernel = refl

user : (user_after twice (suc (allowance (read twice_sent))) (first_user twice) (read twice_sent)).agreed ≡ twice_copy
unfolding passes cut calls_back is_atomic is_any_spinning
user = refl

pub calls_back_twice : CallsBackTwice
calls_back_twice = record {
  sent = ap (λ (r : SplitRun). r.sent) run_is ∙ sent;
  honest = honest;
  end = ap (λ (r : SplitRun). end_of r.pending) run_is ∙ end;
  outcome = ap (λ (r : SplitRun). outcome_of twice.program (finish ends.Ok (kernel_in r.pending).world)) run_is ∙ outcome;
  watched = watched;
  kernel = ap (λ (r : SplitRun). (kernel_in r.pending).agreed) run_is ∙ kernel;
  user = user;
}

pub callback_spells : CallbackSpells
unfolding four eight item opaque listed value_text new_text run_text set_run_text told_text shape_text call_text return_text down_text back_text ask_text answer_text reply_text text bit_of of_bits
callback_spells = record { sent = refl; answers = refl }

pub may_not_call_back : MayNotCallBack
unfolding passes cut calls_back is_atomic is_any_spinning
may_not_call_back = record { sent = refl; end = refl; outcome = refl; watched = refl }
