-- A run over honest exchanges means what one memory does.
use Rattle.std.proofs.Common.{◌≡◌, ℕ, ◌+◌, ◌⊎◌, inl, inr, List, [], ◌∷◌, ◌++◌, map, length, Option, Some, None, refl, sym, ap, ◌∙◌, subst, arith}
use Rattle.std.specs.Prelude.{IfSome}
use Rattle.mdr_core.specs.declared.plan.Plan.{Plan}
use Rattle.mdr_core.specs.declared.program.Program.{Program}
use Rattle.mdr_core.specs.Sound.{IsSound}
use Rattle.mdr_outside.specs.declared.far.Exchange.{Exchange}
use Rattle.mdr_model.specs.declared.outcome.End.{End}
use Rattle.mdr_model.specs.Law.{IsOwn}
use Rattle.mdr_model.specs.Text.{text}
use Rattle.mdr_plain.specs.declared.outcome.Outcome.{Outcome}
use Rattle.mdr_plain.specs.Outcome.{outcome_of}
use Rattle.mdr_plain.specs.Scripts.{Finish, finish}
use Rattle.mdr_plain.specs.World.{World}
use Rattle.mdr_bound.specs.declared.bound.Bound.{Bound}
use Rattle.mdr_split.specs.AnyAnswers.{kernel_in}
use Rattle.mdr_split.specs.Kernel.{SplitRun}
use Rattle.mdr_split.specs.Law.{IsWatched}
use Rattle.mdr_split.specs.State.{Kernel, Pending, Over, Waits}
use Rattle.mdr_watched.specs.Driver.{Driver, driver_of}
use Rattle.mdr_watched.specs.Watched.{watched}
use Rattle.mdr_over_bytes.specs.OverBytes.{IsHonestOverBytes, IsHonestReply, IsHonestRun, IsOneMemoryOverBytes}
use Rattle.mdr_over_bytes.proofs.Lifted.{split_over_bytes_is_one_memory}
use Rattle.mdr_exchanges.specs.Meanings.{Honest, HonestRunsAreMeant, IsMeant, MeansOneMemory}
use Rattle.mdr_exchanges.specs.Runs.{sent_of, then_answers, answers_of, run_over, finish_of, IsRun, IsFarFault}
use Rattle.mdr_exchanges.proofs.Counted.{total_of}
use Rattle.mdr_exchanges.proofs.Endings.{as_many}

-- ---- honest exchanges

-- the answers up to the first message without one are honest
honest_answers : (d : Driver) (before : List (List ℕ)) (es : List Exchange) → Honest d before es → IsHonestOverBytes d before (sent_of es) (answers_of es)
honest_answers d before [] h = tt
honest_answers d before (e ∷ es) h = of e.got h.0 (honest_answers d (before ++ e.sent ∷ []) es h.1)
  where
    of : (got : Option (List ℕ)) → IfSome got (λ reply. IsHonestReply d before e.sent reply) → IsHonestOverBytes d (before ++ e.sent ∷ []) (sent_of es) (answers_of es)
        → IsHonestOverBytes d before (e.sent ∷ sent_of es) (then_answers got (answers_of es))
    of None q later = tt
    of (Some reply) q later = (q, later)

-- ---- outcomes

ticks_of : (program : Program) (f : Finish) → (outcome_of program f).ticks ≡ f.world.clock.ticks
unfolding outcome_of
ticks_of program f = refl

fails : (program : Program) (f : Finish) → IsFarFault f.end → IsFarFault (outcome_of program f).end
unfolding outcome_of
fails program f h = h

owns : (program : Program) (f : Finish) → IsOwn f.end → IsOwn (outcome_of program f).end
unfolding outcome_of
owns program f h = h

-- ---- the run

module _ (program : Program) (plan : Plan) (script : Bound) (budget : ℕ) (es : List Exchange) (o : Outcome) where
  abbrev d : Driver
  d = driver_of program plan

  abbrev ran_over : SplitRun
  ran_over = run_over d script budget es

  is_meant : (end : End) (k : Kernel) → sent_of es ≡ map text ran_over.sent → ran_over.pending ≡ Over end k → o ≡ outcome_of program (finish end k.world) → IsWatched d script budget end k
      → IsMeant program plan script budget es o
  is_meant end k sent over is w =
      let kernel : kernel_in ran_over.pending ≡ k = ap kernel_in over in
      let exchanged : k.exchanges ≡ length ran_over.sent + 0 = ap (λ (x : Kernel). x.exchanges) (sym kernel) ∙ total_of d script budget (answers_of es) in
      let messages : length es ≡ length ran_over.sent = as_many es ran_over.sent sent in
      let calls : k.world.kept.calls ≡ (watched program plan script budget).world.kept.calls = ap (λ (x : World). x.kept.calls) w.world in
      let ticks : o.ticks ≡ k.world.clock.ticks = ap (λ (x : Outcome). x.ticks) is ∙ ticks_of program (finish end k.world) in
      record {
        outcome = is ∙ w.outcome;
        world = ap (λ (x : Kernel). x.world) kernel ∙ w.world;
        own = subst (λ (x : Outcome). IsOwn x.end) (sym is) (owns program (finish end k.world) w.own);
        messages = omega (arith, w.messages, exchanged, messages, calls, ticks);
        fewer = λ nothing. omega (arith, w.fewer nothing, exchanged, messages, calls, ticks);
      }

  -- a run that is over, and one that waits
  means : IsSound program → IsRun d script budget es o → MeansOneMemory program plan script budget es o
  means sound ran runnable honest = of ran_over.pending refl
    where
      law : IsOneMemoryOverBytes d script budget
      law = split_over_bytes_is_one_memory program plan script budget sound runnable.bodies runnable.planned runnable.fits

      fair : IsHonestOverBytes d [] (map text ran_over.sent) (answers_of es)
      fair = subst (λ (sent : List (List ℕ)). IsHonestOverBytes d [] sent (answers_of es)) ran.messages (honest_answers d [] es honest)

      ends_so : (p : Pending) → ran_over.pending ≡ p → o ≡ outcome_of program (finish_of p)
      ends_so p e = ran.outcome ∙ ap (λ (x : Pending). outcome_of program (finish_of x)) e

      of : (p : Pending) → ran_over.pending ≡ p → IsFarFault o.end ⊎ IsMeant program plan script budget es o
      of (Over end k) e =
          let run : IsHonestRun d script budget (answers_of es) end k = record { honest = fair; over = e } in
          inr (is_meant end k ran.messages e (ends_so (Over end k) e) (law.same (answers_of es) end k ran.spelled run))
      of (Waits m k upcall rest left) e = inl (subst (λ (x : Outcome). IsFarFault x.end) (sym (ends_so (Waits m k upcall rest left) e)) (fails program (finish_of (Waits m k upcall rest left)) tt))

pub honest_runs_are_meant : HonestRunsAreMeant
honest_runs_are_meant program plan script budget es o sound ran = means program plan script budget es o sound ran
