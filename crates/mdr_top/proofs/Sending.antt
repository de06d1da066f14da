-- What the far side got.
use Rattle.std.proofs.Common.{◌≡◌, ℕ, List, [], ◌++◌, map, length, take, refl, sym, ap, ◌∙◌}
use Rattle.std.proofs.lemmas.List.{append-nil}
use Rattle.mdr_core.specs.declared.plan.Plan.{Plan}
use Rattle.mdr_core.specs.declared.program.Program.{Program}
use Rattle.mdr_exchanges.proofs.Stops.{part_taken}
use Rattle.mdr_exchanges.specs.Calls.{sends}
use Rattle.mdr_exchanges.specs.Runs.{run_over, sent_of}
use Rattle.mdr_model.specs.Text.{text}
use Rattle.mdr_cut.specs.declared.texts.Texts.{Texts}
use Rattle.mdr_outside.specs.Calls.{FarCall, Loads, and_then}
use Rattle.mdr_outside.specs.declared.far.Exchange.{Exchange}
use Rattle.mdr_bound.specs.declared.bound.Bound.{Bound}
use Rattle.mdr_top.specs.Loads.{LoadedPart, SentPart}
use Rattle.mdr_watched.specs.Driver.{driver_of}

-- all messages of a run were sent
pub sent_whole : (program : Program) (plan : Plan) (script : Bound) (ticks : ℕ) (old new : List FarCall) (es : List Exchange) → sent_of es ≡ map text (run_over (driver_of program plan) script ticks es).sent → new ≡ old ++ sends (sent_of es)
    → SentPart program plan script ticks old new es
sent_whole program plan script ticks old new es sent called =
    let all : List (List ℕ) = map text (run_over (driver_of program plan) script ticks es).sent in
    record { sent = sent_of es; sends = called; part = record { count = length all; part = sent ∙ part_taken all [] ∙ ap (take (length all)) (append-nil all) } }

-- it was loaded with the texts, and nothing was sent
pub sent_none : (program : Program) (plan : Plan) (texts : Texts) (script : Bound) (ticks : ℕ) (old new : List FarCall) (es : List Exchange) (user lines : List ℕ) → user ≡ texts.user → lines ≡ texts.plan → new ≡ and_then old (Loads user lines) → LoadedPart program plan texts script ticks old new es
sent_none program plan texts script ticks old new es user lines user_is plan_is called =
    let named : and_then old (Loads user lines) ≡ and_then old (Loads texts.user texts.plan) = λ i. and_then old (Loads (user_is i) (plan_is i)) in
    record { sent = []; loads = called ∙ named ∙ sym (append-nil (and_then old (Loads texts.user texts.plan))); part = record { count = 0; part = refl } }
