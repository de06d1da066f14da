-- The bytes of a text are stored one after the other.
use Rattle.std.proofs.Common.{◌≡◌, ℕ, suc, ◌+◌, ◌<◌, ◌≤◌, true, List, length, get_or, drop, Option, Result, Ok, Err, slice_get, pos, refl, ap, sym, ◌∙◌, subst, arith}
use Rattle.std.proofs.lemmas.List.{at_drop_all, at_drop_more}
use Rattle.mdr_core.specs.declared.kind.Kind.{Kind}
use Rattle.mdr_core.specs.declared.program.Program.{Program}
use Rattle.mdr_core.specs.declared.stop.StopKind.{StopKind}
use Rattle.mdr_core.specs.declared.value.Value.{Value}
use Rattle.mdr_core.specs.Code.{Code, Codes}
use Rattle.mdr_core.specs.Conversions.{converted}
use Rattle.mdr_core.specs.Typing.{Slot}
use Rattle.mdr_meaning.specs.declared.wire.Wire.{Wire}
use Rattle.mdr_meaning.specs.declared.wire.Wire.TheVariants as wire
use Rattle.mdr_meaning.specs.Expressions.{slot_of}
use Rattle.mdr_meaning.specs.Sides.{Side, Locals, Ends, in_here}
use Rattle.mdr_meaning.specs.Statements.{characters, element}
use Rattle.mdr_meaning.specs.Values.{wire_of}
use Rattle.mdr_meaning.specs.Walk.{Accesses}
use Rattle.mdr_events.specs.Held.{Held, Runs}
use Rattle.mdr_events.specs.Outcomes.{when_made}
use Rattle.mdr_events.specs.Steps.{Left, holds, Goes, Stopped, came_by, held_after, Ticks}
use Rattle.mdr_events.specs.Values.{wires_of}
use Rattle.mdr_exec.specs.declared.frame.Machine.{Machine}
use Rattle.mdr_exec.specs.Effects.{Did, did, after_did, stored, texts_of}
use Rattle.mdr_exec.specs.Holding.{here_of, held_of, is_running, slots_by}
use Rattle.mdr_exec.specs.Leaving.{goes_behind, here_in}
use Rattle.mdr_exec.proofs.DoneLaws.{ahead_of, items_of, locals_of, at_next, ended_holds, comes_in, stops_in}
use Rattle.mdr_exec.proofs.StepLaws.{statements_step}

abbrev pub ended_in : Locals → Left
ended_in l = record { flow = Ends; locals = l }

module _ {M : Type 0} (a : Accesses M) (kind : Kind) (p : Wire) (bs : List ℕ) where
  -- one byte, where it is stored
  texts_more : (i d : ℕ) (l : Locals) (m : M) → i < length bs
      → texts_of a kind p i (drop i bs) l m ≡ after_did (stored a (element p i) (wire.Int kind (converted kind (pos (get_or bs i d)))) l m) (texts_of a kind p (i + 1) (drop (i + 1) bs))
  unfolding texts_of
  texts_more i d l m inside =
      let one : suc i ≡ i + 1 = omega arith in
      at_drop_more (λ xs. texts_of a kind p i xs l m) bs i d inside
      ∙ ap (λ j. after_did (stored a (element p i) (wire.Int kind (converted kind (pos (get_or bs i d)))) l m) (texts_of a kind p j (drop (i + 1) bs))) one

  pub text_goes : (i d b : ℕ) (m m' : M) (r : Result (Unit {0}) StopKind) (u : Unit {0}) (whole : Locals → Did Left M) → i < length bs → b ≡ get_or bs i d
      → ((l : Locals) → stored a (element p i) (wire.Int kind (converted kind (pos b))) l m ≡ did (when_made r l) m') → r ≡ Ok u
      → ((l : Locals) → texts_of a kind p i (drop i bs) l m ≡ whole l) → (l : Locals) → texts_of a kind p (i + 1) (drop (i + 1) bs) l m' ≡ whole l
  text_goes i d b m m' r u whole inside is made ok so_far l =
      let put : stored a (element p i) (wire.Int kind (converted kind (pos (get_or bs i d)))) l m ≡ did (Ok l) m' =
      ap (λ c. stored a (element p i) (wire.Int kind (converted kind (pos c))) l m) (sym is) ∙ made l ∙ ap (λ x. did (when_made x l) m') ok in
      sym (ap (λ x. after_did x (texts_of a kind p (i + 1) (drop (i + 1) bs))) put) ∙ sym (texts_more i d l m inside) ∙ so_far l

  pub text_stops : (i d b : ℕ) (m m' : M) (r : Result (Unit {0}) StopKind) (k : StopKind) (whole : Locals → Did Left M) → i < length bs → b ≡ get_or bs i d
      → ((l : Locals) → stored a (element p i) (wire.Int kind (converted kind (pos b))) l m ≡ did (when_made r l) m') → r ≡ Err k
      → ((l : Locals) → texts_of a kind p i (drop i bs) l m ≡ whole l) → (l : Locals) → whole l ≡ did (Err k) m'
  text_stops i d b m m' r k whole inside is made err so_far l =
      let put : stored a (element p i) (wire.Int kind (converted kind (pos (get_or bs i d)))) l m ≡ did (Err k) m' =
      ap (λ c. stored a (element p i) (wire.Int kind (converted kind (pos c))) l m) (sym is) ∙ made l ∙ ap (λ x. did (when_made x l) m') err in
      sym (so_far l) ∙ texts_more i d l m inside ∙ ap (λ x. after_did x (texts_of a kind p (i + 1) (drop (i + 1) bs))) put

  pub text_ends : (i : ℕ) (m : M) (whole : Locals → Did Left M) → length bs ≤ i
      → ((l : Locals) → texts_of a kind p i (drop i bs) l m ≡ whole l) → (l : Locals) → whole l ≡ did (Ok (ended_in l)) m
  unfolding texts_of
  text_ends i m whole past so_far l = sym (so_far l) ∙ at_drop_all (λ xs. texts_of a kind p i xs l m) bs i past

-- ---- in the machine

module _ {M : Type 0} (a : Accesses M) (program : Program) (m : Machine) (memory memory' : M) (runs : is_running m.front ≡ true) (i : ℕ) (bs : List ℕ) (kind : Kind) (p : Value) (slots : List Value) (o : Option Slot) (r : Result (Unit {0}) StopKind)
    (slot_is : o ≡ slice_get (slots_by (slice_get program.funcs m.top.func)) i) (kind_is : kind ≡ characters o) (p_is : wire_of p ≡ slot_of (wires_of slots) i) (same : slots ≡ m.top.slots)
    (put : (l : Locals) → texts_of a kind (wire_of p) 0 bs l memory ≡ did (when_made r (ended_in l)) memory') where
  abbrev done : Did Left M
  done = texts_of a (characters (slice_get (slots_by (slice_get program.funcs m.top.func)) i)) (slot_of (wires_of m.top.slots) i) 0 bs (locals_of program m) memory

  done_is : done ≡ did (when_made r (ended_in (locals_of program m))) memory'
  done_is =
      ap (λ x. texts_of a (characters x) (slot_of (wires_of m.top.slots) i) 0 bs (locals_of program m) memory) (sym slot_is)
      ∙ ap (λ k. texts_of a k (slot_of (wires_of m.top.slots) i) 0 bs (locals_of program m) memory) (sym kind_is)
      ∙ ap (λ w. texts_of a kind w 0 bs (locals_of program m) memory) (ap (λ xs. slot_of (wires_of xs) i) (sym same) ∙ sym p_is)
      ∙ put (locals_of program m)

  abbrev Done : (n : ℕ) → Side → Did Left M → Type 0
  Done n side d = Ticks a side (holds Runs (here_in program m) (locals_of program m) (Codes.Then (Code.Text n i bs) (ahead_of program m)) (items_of program m)) memory
      (came_by (in_here (here_in program m) n) d.result) (held_after d.result (here_in program m) (ahead_of program m) (items_of program m)) d.memory

  pub text_put : (u : Unit {0}) (next : ℕ) (after : Held) → r ≡ Ok u → next ≡ m.top.next + 1 → after ≡ goes_behind program m Ends next (wires_of m.top.born)
      → (side : Side) (n : ℕ) → at_next program m (Code.Text n i bs) → Ticks a side (held_of program m) memory Goes after memory'
  unfolding here_of
  text_put u next after ok at h side n is =
      let law : Done n side (did (Ok (ended_in (locals_of program m))) memory') =
      subst (Done n side) (done_is ∙ ap (λ x. did (when_made x (ended_in (locals_of program m))) memory') ok) ((statements_step a side (here_in program m) (locals_of program m) (ahead_of program m) (items_of program m) memory n).texts i bs) in
      comes_in program m a memory runs side (Code.Text n i bs) is Goes Goes _ after memory' law refl (sym (ended_holds program m m.top.slots Ends next at) ∙ sym h)

  pub text_stopped : (k : StopKind) (after : Held) → r ≡ Err k → (side : Side) (n : ℕ) → at_next program m (Code.Text n i bs)
      → Ticks a side (held_of program m) memory (Stopped k (in_here (here_in program m) n)) after memory'
  unfolding here_of
  text_stopped k after err side n is =
      let law : Done n side (did (Err k) memory') =
      subst (Done n side) (done_is ∙ ap (λ x. did (when_made x (ended_in (locals_of program m))) memory') err) ((statements_step a side (here_in program m) (locals_of program m) (ahead_of program m) (items_of program m) memory n).texts i bs) in
      stops_in program m a memory runs side (Code.Text n i bs) is k (in_here (here_in program m) n) _ after memory' law
