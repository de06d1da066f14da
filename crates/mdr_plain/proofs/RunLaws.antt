-- Interrupts and their gate; runs and walks.
use Rattle.std.proofs.Common.{◌≡◌, ℕ, Bool, true, false, not, ◌&&◌, List, [], ◌∷◌, Option, Some, None, Result, Ok, Err, refl}
use Rattle.mdr_core.specs.declared.place.At.{At}
use Rattle.mdr_core.specs.declared.stop.StopKind.{StopKind}
use Rattle.mdr_core.specs.Layout.{chosen}
use Rattle.mdr_meaning.specs.declared.wire.Wire.{Wire}
use Rattle.mdr_meaning.specs.Tree.{Tree}
use Rattle.mdr_meaning.specs.Walk.{on_access, walk, Walked}
use Rattle.mdr_model.specs.declared.memory.Cell.{Cell}
use Rattle.mdr_plain.specs.Gate.{are_none, due}
use Rattle.mdr_plain.specs.Laws.{InterruptsAreGated, RunsAreWalks, follows_walk}
use Rattle.mdr_plain.specs.Locks.{is_any_held}
use Rattle.mdr_plain.specs.Running.{Before, Setting, run}
use Rattle.mdr_plain.specs.World.{World, Ran, given}

-- ---- the gate

record Parts (line handles locked : Bool) (views : List (List Cell)) (h : Option ℕ) (f : ℕ) : Type 0 where
  raised : line ≡ true
  registered : h ≡ Some f
  idle : handles ≡ false
  unlocked : locked ≡ false
  alone : views ≡ []

none_is_due : {A : Type 0} (f : ℕ) → ◌≡◌ {A = Option ℕ} None (Some f) → A
none_is_due f e = absurd cc

parts : (line handles locked : Bool) (views : List (List Cell)) (h : Option ℕ) (f : ℕ) → chosen (line && (not handles && (not locked && are_none views))) h None ≡ Some f → Parts line handles locked views h f
parts true false false [] h f e = record { raised = refl; registered = e; idle = refl; unlocked = refl; alone = refl }
parts true false false (v ∷ vs) h f e = none_is_due f e
parts true false true views h f e = none_is_due f e
parts true true locked views h f e = none_is_due f e
parts false handles locked views h f e = none_is_due f e

opens : (line handles locked : Bool) (views : List (List Cell)) (h : Option ℕ) (f : ℕ) → Parts line handles locked views h f → chosen (line && (not handles && (not locked && are_none views))) h None ≡ Some f
opens line handles locked views h f p = rw (p.raised, p.idle, p.unlocked, p.alone) p.registered

pub interrupts_are_gated : InterruptsAreGated
unfolding due
interrupts_are_gated w f = (
  λ e. let p : Parts w.clock.device.state.line w.kept.in_handler (is_any_held w.memory) w.views w.kept.handler f = parts _ _ _ _ _ f e in
      record { raised = p.raised; registered = p.registered; idle = p.idle; unlocked = p.unlocked; alone = p.alone },
  λ g. opens _ _ _ _ _ f (record { raised = g.raised; registered = g.registered; idle = g.idle; unlocked = g.unlocked; alone = g.alone }),
)

-- ---- runs and walks

module _ (s : Setting) (before : Before) where
  -- an access that gives something, or stops
  accessed : {A : Type 0} (r : Result A StopKind) (at : At) (w : World) (go : A → Ran Wire) (walks : A → Walked World)
      → ((x : A) → go x ≡ follows_walk s before (walks x)) → given r at w go ≡ follows_walk s before (on_access r at w 0 walks)
  accessed (Ok x) at w go walks each = each x
  accessed (Err kind) at w go walks each = refl

  pub walks_on : (t : Tree) (w : World) → run s before t w ≡ follows_walk s before (walk s.accesses 0 t w)
  unfolding run walk
  walks_on Tree.Idle w = refl
  walks_on (Tree.Waits k) w = refl
  walks_on (Tree.Done v t) w = refl
  walks_on (Tree.Stop kind at) w = refl
  walks_on (Tree.Tick at d t) w = refl
  walks_on (Tree.Load at p k) w = accessed (s.accesses.load w p) at w _ _ (λ v. walks_on (k v) w)
  walks_on (Tree.Store at p v t) w = accessed (s.accesses.store w p v) at w _ _ (λ w'. walks_on t w')
  walks_on (Tree.Read at p n k) w = accessed (s.accesses.read w p n) at w _ _ (λ bytes. walks_on (k bytes) w)
  walks_on (Tree.Fresh at v k) w = accessed (s.accesses.fresh w v) at w _ _ (λ x. walks_on (k x) w)
  walks_on (Tree.Birth at shapes k) w = walks_on (k (s.accesses.birth w shapes).pointers) (s.accesses.birth w shapes).memory
  walks_on (Tree.Death at ps t) w = walks_on t (s.accesses.death w ps)
  walks_on (Tree.Ask a k) w = refl
  walks_on (Tree.Cross at f args d k) w = refl

pub runs_are_walks : RunsAreWalks
runs_are_walks s before t w = walks_on s before t w
