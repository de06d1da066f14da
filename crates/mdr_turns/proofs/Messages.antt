-- The messages that are sent.
use Rattle.std.proofs.Common.{◌≡◌, ℕ, List, [], ◌∷◌, ◌∙◌, ap, drop, subst}
use Rattle.mdr_meaning.specs.declared.wire.Wire.{Wire}
use Rattle.mdr_model.specs.declared.command.Command.{Command}
use Rattle.mdr_model.specs.declared.message.Message.{Message}
use Rattle.mdr_model.specs.declared.message.Message.TheVariants as message
use Rattle.mdr_model.specs.declared.message.Told.{Told}
use Rattle.mdr_model.specs.Copies.{tells}
use Rattle.mdr_plain.specs.World.{World, done}
use Rattle.mdr_split.specs.Kernel.{answers, called, comes_back}
use Rattle.mdr_split.specs.State.{Open, Rest, Waits}
use Rattle.mdr_turns.specs.declared.state.Behind.{Behind}
use Rattle.mdr_turns.specs.declared.state.Ledger.{Ledger}
use Rattle.mdr_turns.specs.declared.state.Open.{Open as CodeOpen}
use Rattle.mdr_turns.specs.declared.state.Pending.{Pending as CodePending}
use Rattle.mdr_turns.specs.declared.state.Seen.{Seen}
use Rattle.mdr_turns.specs.Coming.{ComesTo}
use Rattle.mdr_turns.specs.States.{IsSeen, answer_of, back_of, begins, kernel_with, rest_of, sent_with, told_by, told_unseen, upcall_of}
use Rattle.mdr_watched.specs.Driver.{Driver}
use Rattle.mdr_watched.specs.Views.{top}
use Rattle.mdr_world.specs.Driven.{Driven}

module _ (d : Driver) (s : Seen) (is : IsSeen s) (l l' : Ledger) (o : Open) (rest : Rest) (left : List Command) (before : World) (m : Message) where
  abbrev w : World
  w = s.guarded.world

  -- what is seen is told of the state
  told_so : (values : List Wire) → told_by d.program s values l ≡ tells d.program (top w.views) values l.agreed w.memory
  told_so values = λ i. tells d.program (is.view i) values l.agreed (is.memory i)

  unseen_so : (values : List Wire) → told_unseen d.program s values l ≡ tells d.program [] values l.agreed w.memory
  unseen_so values = λ i. tells d.program [] values l.agreed (is.memory i)

  pub call_is : (f depth : ℕ) (args : List Wire) → o ≡ begins f depth → m ≡ message.Call (record { func = f; depth = depth; rest = s.tally.rest; args = args; told = told_by d.program s args l }) → l' ≡ sent_with d.program (told_by d.program s args l) l
      → Waits m (kernel_with l' w) o rest left ≡ called d f depth args (done w) (kernel_with l before) rest left
  call_is f depth args opens says keeps =
      (λ i. Waits (says i) (kernel_with (keeps i) w) (opens i) rest left)
      ∙ (λ i. Waits (message.Call (record { func = f; depth = depth; rest = is.rest i; args = args; told = told_so args i })) (kernel_with (sent_with d.program (told_so args i) l) w) (begins f depth) rest left)

  pub back_is : (v : Wire) → m ≡ back_of d.program v s l → l' ≡ sent_with d.program (told_by d.program s (v ∷ []) l) l
      → Waits m (kernel_with l' w) o rest left ≡ comes_back d v w (kernel_with l before) o rest left
  unfolding comes_back
  back_is v says keeps =
      (λ i. Waits (says i) (kernel_with (keeps i) w) o rest left)
      ∙ (λ i. Waits (message.Back (record { rest = is.rest i; result = v; told = told_so (v ∷ []) i })) (kernel_with (sent_with d.program (told_so (v ∷ []) i) l) w) o rest left)

  pub answer_is : (vs : List Wire) → m ≡ answer_of d.program vs s l → l' ≡ sent_with d.program (told_unseen d.program s vs l) l
      → Waits m (kernel_with l' w) o rest left ≡ answers d vs w (kernel_with l before) o rest left
  unfolding answers
  answer_is vs says keeps =
      (λ i. Waits (says i) (kernel_with (keeps i) w) o rest left)
      ∙ ap (λ (t : Told). Waits (message.Answer (record { results = vs; deaths = t.deaths; news = t.news })) (kernel_with (sent_with d.program t l) w) o rest left) (unseen_so vs)

-- ---- from what was seen

module _ (d : Driver) (before : World) (script : List Command) (p : CodePending) (g g' : Driven) (l l' : Ledger) (b b' : Behind) (same : g ≡ g') (ledgers : l ≡ l') (behinds : b ≡ b') where
  pub call_from : (f depth : ℕ) (args : List Wire) → ComesTo d p script (called d f depth args (done g.world) (kernel_with l before) (rest_of d b.frames) (drop b.done script))
      → ComesTo d p script (called d f depth args (done g'.world) (kernel_with l' before) (rest_of d b'.frames) (drop b'.done script))
  call_from f depth args there = subst (λ x. ComesTo d p script x) (λ i. called d f depth args (done (same i).world) (kernel_with (ledgers i) before) (rest_of d (behinds i).frames) (drop (behinds i).done script)) there

  pub back_from : (v v' : Wire) (o o' : CodeOpen) → v ≡ v' → o ≡ o' → ComesTo d p script (comes_back d v g.world (kernel_with l before) (upcall_of o) (rest_of d b.frames) (drop b.done script))
      → ComesTo d p script (comes_back d v' g'.world (kernel_with l' before) (upcall_of o') (rest_of d b'.frames) (drop b'.done script))
  back_from v v' o o' is opens there =
      subst (λ x. ComesTo d p script x) (λ i. comes_back d (is i) (same i).world (kernel_with (ledgers i) before) (upcall_of (opens i)) (rest_of d (behinds i).frames) (drop (behinds i).done script)) there

  pub answer_from : (vs : List Wire) (o o' : CodeOpen) → o ≡ o' → ComesTo d p script (answers d vs g.world (kernel_with l before) (upcall_of o) (rest_of d b.frames) (drop b.done script))
      → ComesTo d p script (answers d vs g'.world (kernel_with l' before) (upcall_of o') (rest_of d b'.frames) (drop b'.done script))
  answer_from vs o o' opens there =
      subst (λ x. ComesTo d p script x) (λ i. answers d vs (same i).world (kernel_with (ledgers i) before) (upcall_of (opens i)) (rest_of d (behinds i).frames) (drop (behinds i).done script)) there

-- the objects were counted
pub counted_from : (d : Driver) (before w : World) (script : List Command) (p : CodePending) (l : Ledger) (b : Behind) (vs vs' : List Wire) (o o' : Open) → vs ≡ vs' → o ≡ o'
    → ComesTo d p script (answers d vs w (kernel_with l before) o (rest_of d b.frames) (drop b.done script)) → ComesTo d p script (answers d vs' w (kernel_with l before) o' (rest_of d b.frames) (drop b.done script))
counted_from d before w script p l b vs vs' o o' are opens there = subst (λ x. ComesTo d p script x) (λ i. answers d (are i) w (kernel_with l before) (opens i) (rest_of d b.frames) (drop b.done script)) there
