-- What a run has sent so far, and where it stops for want of memory.
use Rattle.std.proofs.Common.{◌≡◌, ℕ, ◌+◌, ◌*◌, ◌≤◌, ◌⊎◌, inl, inr, Result, Ok, Err, List, [], ◌∷◌, ◌++◌, map, length, take, Option, Some, None, refl, sym, ap, ◌∙◌, subst, append_assoc, arith}
use Rattle.std.specs.Prelude.{OnErr}
use Rattle.std.proofs.lemmas.List.{append-nil, map-append, length-append}
use Rattle.mdr_watched.specs.Driver.{Driver}
use Rattle.mdr_outside.specs.Calls.{FarCall, Sends, and_then}
use Rattle.mdr_outside.specs.declared.far.Exchange.{Exchange}
use Rattle.mdr_outside.specs.Far.{exchange}
use Rattle.mdr_model.specs.declared.command.Command.{Command}
use Rattle.mdr_bound.specs.declared.bound.Bound.{Bound}
use Rattle.mdr_model.specs.declared.message.Message.{Message}
use Rattle.mdr_model.specs.Memory.{Memory}
use Rattle.mdr_model.specs.Text.{text}
use Rattle.mdr_model.specs.Reading.{reading_of}
use Rattle.mdr_split.specs.State.{Kernel, Open, Rest, Pending, Waits}
use Rattle.mdr_split.specs.Kernel.{SplitRun, next, run_from_pending, split_run}
use Rattle.mdr_model.specs.Bytes.{readings}
use Rattle.mdr_over_bytes.specs.OverBytes.{split_run_over_bytes}
use Rattle.mdr_split.specs.AnyAnswers.{kernel_in}
use Rattle.mdr_limits.proofs.FewMessages.{few_everywhere}
use Rattle.mdr_exchanges.specs.Ends.{ExchangesAreFew}
use Rattle.mdr_exchanges.specs.Runs.{sent_of, then_answers, answers_of, run_over}
use Rattle.mdr_exchanges.specs.Calls.{sends, IsPlace, IsPart, IsStopped, Broke}
use Rattle.mdr_exchanges.proofs.Turns.{AllAnswered, SoFar, first_of, run_is, sent_more, answers_more}
use Rattle.mdr_exchanges.proofs.Endings.{as_many, few_answers, sents}
use Rattle.mdr_exchanges.proofs.Counted.{total_of}

-- ---- lists

pub on_err : {A E : Type 0} (r : Result A E) (P : Type 0) → P → OnErr r P
on_err (Ok x) P p = tt
on_err (Err e) P p = p

pub part_taken : {A : Type 0} (xs ys : List A) → xs ≡ take (length xs) (xs ++ ys)
part_taken [] ys = refl
part_taken (x ∷ xs) ys = ap (λ zs. x ∷ zs) (part_taken xs ys)

sends_more : (xs : List (List ℕ)) (m : List ℕ) → sends (xs ++ m ∷ []) ≡ sends xs ++ Sends m ∷ []
sends_more [] m = refl
sends_more (x ∷ xs) m = ap (λ (ys : List FarCall). Sends x ∷ ys) (sends_more xs m)

-- ---- calls

pub calls_none : (calls : List FarCall) (es : List Exchange) → es ≡ [] → calls ≡ calls ++ sends (sent_of es)
calls_none calls es none = subst (λ (xs : List Exchange). calls ≡ calls ++ sends (sent_of xs)) (sym none) (sym (append-nil calls))

called_more : (old calls calls' : List FarCall) (sent : List (List ℕ)) (m : List ℕ) → calls ≡ old ++ sends sent → calls' ≡ and_then calls (Sends m) → calls' ≡ old ++ sends (sent ++ m ∷ [])
called_more old calls calls' sent m so more =
    more ∙ ap (λ (xs : List FarCall). xs ++ Sends m ∷ []) so ∙ append_assoc old (sends sent) (Sends m ∷ []) ∙ ap (λ (xs : List FarCall). old ++ xs) (sym (sends_more sent m))

pub calls_more : (old calls calls' : List FarCall) (es es' : List Exchange) (m : List ℕ) (got : Option (List ℕ)) → calls ≡ old ++ sends (sent_of es) → calls' ≡ and_then calls (Sends m) → es' ≡ es ++ exchange m got ∷ []
    → calls' ≡ old ++ sends (sent_of es')
calls_more old calls calls' es es' m got so more added =
    called_more old calls calls' (sent_of es) m so more ∙ ap (λ (xs : List (List ℕ)). old ++ sends xs) (sym (ap sent_of added ∙ sent_more es (exchange m got)))

-- ---- counts

length_more : {A : Type 0} (xs : List A) (x : A) → length (xs ++ x ∷ []) ≡ length xs + 1
length_more xs x = omega (arith, length-append xs (x ∷ []))

more_answers : (es es' : List Exchange) (m : List ℕ) (got : Option (List ℕ)) → AllAnswered es → es' ≡ es ++ exchange m got ∷ [] → answers_of es' ≡ answers_of es ++ then_answers got []
more_answers es es' m got all added = ap answers_of added ∙ answers_more es (exchange m got) all

pub counts_answered : (es es' : List Exchange) (m bytes : List ℕ) (n n' : ℕ) → AllAnswered es → n ≡ length es + length (answers_of es) → n' ≡ n + 2 → es' ≡ es ++ exchange m (Some bytes) ∷ [] → n' ≡ length es' + length (answers_of es')
counts_answered es es' m bytes n n' all so more added =
    let sents : length es' ≡ length es + 1 = ap length added ∙ length_more es _ in
    let gots : length (answers_of es') ≡ length (answers_of es) + 1 = ap length (more_answers es es' m (Some bytes) all added) ∙ length_more (answers_of es) bytes in
    omega (arith, so, more, sents, gots)

pub counts_unanswered : (es es' : List Exchange) (m : List ℕ) (n n' : ℕ) → AllAnswered es → n ≡ length es + length (answers_of es) → n' ≡ n + 1 → es' ≡ es ++ exchange m None ∷ [] → n' ≡ length es' + length (answers_of es')
counts_unanswered es es' m n n' all so more added =
    let sents : length es' ≡ length es + 1 = ap length added ∙ length_more es _ in
    let gots : length (answers_of es') ≡ length (answers_of es) = ap length (more_answers es es' m None all added ∙ append-nil (answers_of es)) in
    omega (arith, so, more, sents, gots)

-- there are no more messages than twice the exchanges that the run counts
pub counted_twice : (d : Driver) (script : Bound) (budget : ℕ) (es : List Exchange) → sent_of es ≡ map text (run_over d script budget es).sent
    → length es + length (answers_of es) ≤ 2 * (kernel_in (run_over d script budget es).pending).exchanges
counted_twice d script budget es sent =
    let run : SplitRun = run_over d script budget es in
    let many : length es ≡ length run.sent = as_many es run.sent sent in
    let total : (kernel_in run.pending).exchanges ≡ length run.sent + 0 = total_of d script budget (answers_of es) in
    omega (arith, many, total, few_answers es)

-- ---- where a run stands

module _ (d : Driver) (script : Bound) (budget : ℕ) where
  abbrev first : Pending
  first = first_of d script budget

  abbrev Waiting : Message → Kernel → Open → Rest → List Command → List Exchange → Type 0
  Waiting m k upcall rest cs es = SoFar d first (Waits m k upcall rest cs) es

  over_answers : (answers : List (List ℕ)) → split_run_over_bytes d script budget answers ≡ run_from_pending d (readings answers) first
  unfolding split_run_over_bytes split_run
  over_answers answers = refl

  -- so many answers lead to where it waits
  waits_there : (m : Message) (k : Kernel) (upcall : Open) (rest : Rest) (cs : List Command) (es : List Exchange) → Waiting m k upcall rest cs es → (split_run_over_bytes d script budget (answers_of es)).pending ≡ Waits m k upcall rest cs
  unfolding run_from_pending
  waits_there m k upcall rest cs es so =
      ap (λ (r : SplitRun). r.pending) (over_answers (answers_of es) ∙ ap (λ (xs : List (List ℕ)). run_from_pending d (readings xs) first) (sym (append-nil (answers_of es))) ∙ so.runs [])

  memory_there : (m : Message) (k : Kernel) (upcall : Open) (rest : Rest) (cs : List Command) (es : List Exchange) (memory : Memory) → Waiting m k upcall rest cs es → memory ≡ k.world.memory
      → memory ≡ (kernel_in (split_run_over_bytes d script budget (answers_of es)).pending).world.memory
  memory_there m k upcall rest cs es memory so same = same ∙ sym (ap (λ (p : Pending). (kernel_in p).world.memory) (waits_there m k upcall rest cs es so))

  pub place_here : (m : Message) (k : Kernel) (upcall : Open) (rest : Rest) (cs : List Command) (es : List Exchange) (memory : Memory) → Waiting m k upcall rest cs es → memory ≡ k.world.memory → IsPlace d script budget (answers_of es) memory
  place_here m k upcall rest cs es memory so same = IsPlace.stands (answers_of es) (inl refl) (memory_there m k upcall rest cs es memory so same)

  pub place_after : (m : Message) (k : Kernel) (upcall : Open) (rest : Rest) (cs : List Command) (es es' : List Exchange) (bytes : List ℕ) (memory : Memory) → Waiting m k upcall rest cs es → memory ≡ k.world.memory → es' ≡ es ++ exchange (text m) (Some bytes) ∷ []
      → IsPlace d script budget (answers_of es') memory
  place_after m k upcall rest cs es es' bytes memory so same added =
      IsPlace.stands (answers_of es) (inr (bytes, more_answers es es' (text m) (Some bytes) so.all added)) (memory_there m k upcall rest cs es memory so same)

  pub place_unanswered : (m : Message) (k : Kernel) (upcall : Open) (rest : Rest) (cs : List Command) (es es' : List Exchange) (memory : Memory) → Waiting m k upcall rest cs es → memory ≡ k.world.memory → es' ≡ es ++ exchange (text m) None ∷ []
      → IsPlace d script budget (answers_of es') memory
  place_unanswered m k upcall rest cs es es' memory so same added =
      subst (λ (xs : List (List ℕ)). IsPlace d script budget xs memory) (sym (more_answers es es' (text m) None so.all added ∙ append-nil (answers_of es))) (place_here m k upcall rest cs es memory so same)

  -- ---- parts of what is sent

  -- the messages so far are the first ones
  pub part_here : (p : Pending) (es : List Exchange) → SoFar d first p es → IsPart d script budget es (sent_of es)
  part_here p es so =
      let later : List Message = (run_from_pending d (readings []) p).sent in
      let all : (run_over d script budget es).sent ≡ so.messages ++ later =
      ap (λ (r : SplitRun). r.sent) (run_is d script budget es ∙ ap (λ (xs : List (List ℕ)). run_from_pending d (readings xs) first) (sym (append-nil (answers_of es))) ∙ so.runs []) in
      record {
        count = length (map text so.messages);
        part = so.sent ∙ part_taken (map text so.messages) (map text later)
            ∙ ap (take (length (map text so.messages))) (sym (ap (map text) all ∙ map-append text so.messages later));
      }

  -- a run that waits sends its message next, whatever comes then
  sends_next : (m : Message) (k : Kernel) (upcall : Open) (rest : Rest) (cs : List Command) (more : List (List ℕ)) → (later : List Message) × ((run_from_pending d (readings more) (Waits m k upcall rest cs)).sent ≡ m ∷ later)
  unfolding run_from_pending
  sends_next m k upcall rest cs [] = ([], refl)
  sends_next m k upcall rest cs (a ∷ more) = ((run_from_pending d (readings more) (next d (reading_of a) k upcall rest cs)).sent, refl)

  part_with : (m : Message) (k : Kernel) (upcall : Open) (rest : Rest) (cs : List Command) (es es' : List Exchange) (more : List (List ℕ)) → Waiting m k upcall rest cs es → answers_of es' ≡ answers_of es ++ more → IsPart d script budget es' (sent_of es ++ text m ∷ [])
  part_with m k upcall rest cs es es' more so answers =
      let then' = sends_next m k upcall rest cs more in
      let all : (run_over d script budget es').sent ≡ so.messages ++ (m ∷ then'.0) =
      ap (λ (r : SplitRun). r.sent) (run_is d script budget es' ∙ ap (λ (xs : List (List ℕ)). run_from_pending d (readings xs) first) answers ∙ so.runs more)
      ∙ ap (λ (ms : List Message). so.messages ++ ms) then'.1 in
      let sent : List (List ℕ) = map text so.messages ++ text m ∷ [] in
      record {
        count = length sent;
        part = ap (λ (xs : List (List ℕ)). xs ++ text m ∷ []) so.sent ∙ part_taken sent (map text then'.0)
            ∙ ap (take (length sent)) (append_assoc (map text so.messages) (text m ∷ []) (map text then'.0) ∙ sym (ap (map text) all ∙ map-append text so.messages (m ∷ then'.0)));
      }

  -- ---- want of memory

  pub stops_first : (calls : List FarCall) (es : List Exchange) (memory : Memory) (n : ℕ) → es ≡ [] → memory ≡ [] → n ≡ 0
      → IsStopped d script budget calls calls es memory n
  stops_first calls es memory n none begins zero' = record {
    sent = [];
    called = sym (append-nil calls);
    part = record { count = 0; part = refl };
    count = let nothing : length (answers_of es) ≡ 0 = ap (λ (xs : List Exchange). length (answers_of xs)) none in omega (arith, zero', nothing);
    place = IsPlace.begins begins (ap answers_of none);
  }

  pub stops_here : (p : Pending) (old calls : List FarCall) (es : List Exchange) (memory : Memory) (n : ℕ) → SoFar d first p es → calls ≡ old ++ sends (sent_of es) → n ≡ length es + length (answers_of es)
      → IsPlace d script budget (answers_of es) memory → IsStopped d script budget old calls es memory n
  stops_here p old calls es memory n so called count place = record {
    sent = sent_of es;
    called = called;
    part = part_here p es so;
    count = count ∙ ap (λ (m : ℕ). m + length (answers_of es)) (sym (sents es));
    place = place;
  }

  sent_count : (es : List Exchange) (m : List ℕ) → length (sent_of es ++ m ∷ []) ≡ length es + 1
  sent_count es m = length_more (sent_of es) m ∙ ap (λ (n : ℕ). n + 1) (sents es)

  pub stops_in : (m : Message) (k : Kernel) (upcall : Open) (rest : Rest) (cs : List Command) (old calls calls' : List FarCall) (es es' : List Exchange) (memory : Memory) (n n' : ℕ) → Waiting m k upcall rest cs es → calls ≡ old ++ sends (sent_of es)
      → n ≡ length es + length (answers_of es) → memory ≡ k.world.memory → Broke m calls calls' es es' n n'
      → IsStopped d script budget old calls' es' memory n'
  stops_in m k upcall rest cs old calls calls' es es' memory n n' so called count same (Broke.unsent c e u) =
      let here : IsStopped d script budget old calls es memory n = stops_here (Waits m k upcall rest cs) old calls es memory n so called count (place_here m k upcall rest cs es memory so same) in
      subst (λ (x : List FarCall). IsStopped d script budget old x es' memory n') (sym c)
      (subst (λ (x : List Exchange). IsStopped d script budget old calls x memory n') (sym e)
      (subst (λ (x : ℕ). IsStopped d script budget old calls es memory x) (sym u) here))
  stops_in m k upcall rest cs old calls calls' es es' memory n n' so called count same (Broke.unanswered c e u) = of e
    where
      with_same : answers_of es' ≡ answers_of es → IsPlace d script budget (answers_of es') memory
          → IsStopped d script budget old calls' es' memory n'
      with_same answers place =
          let gots : length (answers_of es') ≡ length (answers_of es) = ap length answers in record {
            sent = sent_of es ++ text m ∷ [];
            called = called_more old calls calls' (sent_of es) (text m) called c;
            part = part_with m k upcall rest cs es es' [] so (answers ∙ sym (append-nil (answers_of es)));
            count = omega (arith, u, count, gots, sent_count es (text m));
            place = place;
          }

      of : (es' ≡ es) ⊎ (es' ≡ es ++ exchange (text m) None ∷ []) → IsStopped d script budget old calls' es' memory n'
      of (inl is) = with_same (ap answers_of is) (subst (λ (xs : List Exchange). IsPlace d script budget (answers_of xs) memory) (sym is) (place_here m k upcall rest cs es memory so same))
      of (inr is) = with_same (more_answers es es' (text m) None so.all is ∙ append-nil (answers_of es)) (place_unanswered m k upcall rest cs es es' memory so same is)
  stops_in m k upcall rest cs old calls calls' es es' memory n n' so called count same (Broke.untaken bytes c e u) =
      let answers : answers_of es' ≡ answers_of es ++ bytes ∷ [] = more_answers es es' (text m) (Some bytes) so.all e in
      let gots : length (answers_of es') ≡ length (answers_of es) + 1 = ap length answers ∙ length_more (answers_of es) bytes in
      record {
        sent = sent_of es ++ text m ∷ [];
        called = called_more old calls calls' (sent_of es) (text m) called c;
        part = part_with m k upcall rest cs es es' (bytes ∷ []) so answers;
        count = omega (arith, u, count, gots, sent_count es (text m));
        place = place_after m k upcall rest cs es es' bytes memory so same e;
      }

  -- a run that ended, of which no outcome could be made
  pub stops_last : (old calls : List FarCall) (es : List Exchange) (memory : Memory) (n : ℕ) → sent_of es ≡ map text (run_over d script budget es).sent → calls ≡ old ++ sends (sent_of es) → n ≡ length es + length (answers_of es)
      → IsPlace d script budget (answers_of es) memory → IsStopped d script budget old calls es memory n
  stops_last old calls es memory n sent called count place =
      let all : List (List ℕ) = map text (run_over d script budget es).sent in
      record {
        sent = sent_of es;
        called = called;
        part = record { count = length all; part = sent ∙ part_taken all [] ∙ ap (take (length all)) (append-nil all) };
        count = count ∙ ap (λ (m : ℕ). m + length (answers_of es)) (sym (sents es));
        place = place;
      }

-- the messages are paid for by ticks and commands
pub exchanges_few : ExchangesAreFew
unfolding split_run_over_bytes
exchanges_few d script budget es sent =
    let twice = counted_twice d script budget es sent in
    let paid = few_everywhere d script budget (readings (answers_of es)) in
    omega (arith, twice, paid)
