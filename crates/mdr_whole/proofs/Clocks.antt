-- Code that runs leaves the clock as it is, so that many ticks can be counted behind it.
use Rattle.std.proofs.Common.{◌≡◌, ℕ, zero, suc, ◌+◌, ◌-◌, ◌≤◌, Bool, List, [], ◌∷◌, Result, Ok, Err, refl, sym, ◌∙◌, ap, arith}
use Rattle.mdr_core.specs.declared.place.At.{At}
use Rattle.mdr_core.specs.declared.program.Program.{Program}
use Rattle.mdr_core.specs.declared.stop.StopKind.{StopKind}
use Rattle.mdr_events.specs.declared.event.Event.{Event}
use Rattle.mdr_events.specs.declared.event.Event.TheVariants as event
use Rattle.mdr_events.specs.Going.{RanTo}
use Rattle.mdr_events.specs.Held.{Held, tree}
use Rattle.mdr_events.specs.Running.{RunsTo}
use Rattle.mdr_events.specs.Steps.{after as came_after}
use Rattle.mdr_meaning.specs.declared.shape.Shape64.{Shape64}
use Rattle.mdr_meaning.specs.declared.wire.Wire.{Wire}
use Rattle.mdr_meaning.specs.declared.wire.Wire.TheVariants as wire
use Rattle.mdr_meaning.specs.Sides.{Side}
use Rattle.mdr_meaning.specs.Tree.{Tree}
use Rattle.mdr_meaning.specs.Walk.{Accesses, Born, Walked, on_access, walk}
use Rattle.mdr_model.specs.declared.memory.Cell.{Cell}
use Rattle.mdr_model.specs.declared.message.BirthKind.TheVariants.{Auto}
use Rattle.mdr_model.specs.Memory.{Memory, stored}
use Rattle.mdr_plain.specs.Storage.{accesses, births, born, deaths, died, died_at, new_of, pointer_to, remembers, with_memory, with_pointer}
use Rattle.mdr_plain.specs.World.{World, Clock, advanced}
use Rattle.mdr_runs.specs.Around.{Wants, came_to}

-- ---- clocks

abbrev pub at_clock : Clock → World → World
at_clock c w = record w { clock = c }

pub advanced_none : (c : Clock) → advanced 0 c ≡ c
advanced_none c =
    let p : c.ticks + 0 ≡ c.ticks = omega arith in
    let q : c.rest - 0 ≡ c.rest = omega arith in
    λ i. record { ticks = p i; rest = q i; device = c.device }

pub none_spent : (n : ℕ) (c : Clock) → c ≡ advanced (n - n) c
none_spent n c =
    let none : 0 ≡ n - n = omega arith in
    sym (advanced_none c) ∙ ap (λ k. advanced k c) none

pub one_more : (k : ℕ) (c : Clock) → advanced k (advanced 1 c) ≡ advanced (suc k) c
one_more k c =
    let p : c.ticks + 1 + k ≡ c.ticks + suc k = omega arith in
    let q : c.rest - 1 - k ≡ c.rest - suc k = omega arith in
    λ i. record { ticks = p i; rest = q i; device = (advanced (suc k) c).device }

-- ---- no access looks at the clock

abbrev pub born_at : Clock → Born World → Born World
born_at c b = record { pointers = b.pointers; memory = at_clock c b.memory }

pub births_at : (program : Program) (c : Clock) (shapes : List Shape64) (w : World) → births program Auto shapes (at_clock c w) ≡ born_at c (births program Auto shapes w)
unfolding births born
births_at program c [] w = refl
births_at program c (s ∷ shapes) w = ap (with_pointer (pointer_to (new_of Auto s w))) (births_at program c shapes (born program (new_of Auto s w) w))

pub births_kept : (program : Program) (shapes : List Shape64) (w : World) → (births program Auto shapes w).memory.kept ≡ w.kept
unfolding births born
births_kept program [] w = refl
births_kept program (s ∷ shapes) w = births_kept program shapes (born program (new_of Auto s w) w)

pub births_clock : (program : Program) (shapes : List Shape64) (w : World) → (births program Auto shapes w).memory.clock ≡ w.clock
unfolding births born
births_clock program [] w = refl
births_clock program (s ∷ shapes) w = births_clock program shapes (born program (new_of Auto s w) w)

died_at_clock : (c : Clock) (p : Wire) (w : World) → died_at p (at_clock c w) ≡ at_clock c (died_at p w)
unfolding died
died_at_clock c (wire.Ptr p) w = refl
died_at_clock c (wire.Int k n) w = refl
died_at_clock c wire.Null w = refl
died_at_clock c wire.Dead w = refl
died_at_clock c (wire.Fn f) w = refl
died_at_clock c (wire.Lock l) w = refl
died_at_clock c wire.NoValue w = refl

died_kept : (p : Wire) (w : World) → (died_at p w).kept ≡ w.kept
unfolding died
died_kept (wire.Ptr p) w = refl
died_kept (wire.Int k n) w = refl
died_kept wire.Null w = refl
died_kept wire.Dead w = refl
died_kept (wire.Fn f) w = refl
died_kept (wire.Lock l) w = refl
died_kept wire.NoValue w = refl

died_clock : (p : Wire) (w : World) → (died_at p w).clock ≡ w.clock
unfolding died
died_clock (wire.Ptr p) w = refl
died_clock (wire.Int k n) w = refl
died_clock wire.Null w = refl
died_clock wire.Dead w = refl
died_clock (wire.Fn f) w = refl
died_clock (wire.Lock l) w = refl
died_clock wire.NoValue w = refl

pub deaths_at : (c : Clock) (ps : List Wire) (w : World) → deaths ps (at_clock c w) ≡ at_clock c (deaths ps w)
deaths_at c [] w = refl
deaths_at c (p ∷ ps) w = ap (deaths ps) (died_at_clock c p w) ∙ deaths_at c ps (died_at p w)

pub deaths_kept : (ps : List Wire) (w : World) → (deaths ps w).kept ≡ w.kept
deaths_kept [] w = refl
deaths_kept (p ∷ ps) w = deaths_kept ps (died_at p w) ∙ died_kept p w

pub deaths_clock : (ps : List Wire) (w : World) → (deaths ps w).clock ≡ w.clock
deaths_clock [] w = refl
deaths_clock (p ∷ ps) w = deaths_clock ps (died_at p w) ∙ died_clock p w

-- ---- a walk leaves the clock as it is

module _ (program : Program) (allowed : World → Cell → Bool) where
  clock_accessed : {A : Type 0} (x : Result A StopKind) (place : At) (n : ℕ) (w : World) (walks : A → Walked World)
      → ((y : A) → (walks y).memory.clock ≡ w.clock) → (on_access x place w n walks).memory.clock ≡ w.clock
  clock_accessed (Ok y) place n w walks each = each y
  clock_accessed (Err kind) place n w walks each = refl

  clock_stored : (x : Result Memory StopKind) (place : At) (n : ℕ) (w : World) (walks : World → Walked World)
      → ((m : Memory) → (walks (with_memory w m)).memory.clock ≡ w.clock) → (on_access (remembers w x) place w n walks).memory.clock ≡ w.clock
  clock_stored (Ok m) place n w walks each = each m
  clock_stored (Err kind) place n w walks each = refl

  pub walk_clock : (n : ℕ) (t : Tree) (w : World) → (walk (accesses program allowed) n t w).memory.clock ≡ w.clock
  unfolding walk
  walk_clock n Tree.Idle w = refl
  walk_clock n (Tree.Waits k) w = refl
  walk_clock n (Tree.Done v t) w = refl
  walk_clock n (Tree.Stop kind place) w = refl
  walk_clock zero (Tree.Tick place d t) w = refl
  walk_clock (suc n) (Tree.Tick place d t) w = walk_clock n t w
  walk_clock n (Tree.Load place p k) w = clock_accessed ((accesses program allowed).load w p) place n w _ (λ v. walk_clock n (k v) w)
  walk_clock n (Tree.Store place p v t) w = clock_stored (stored (allowed w) w.memory p v) place n w _ (λ m. walk_clock n t (with_memory w m))
  walk_clock n (Tree.Read place p count k) w = clock_accessed ((accesses program allowed).read w p count) place n w _ (λ bs. walk_clock n (k bs) w)
  walk_clock n (Tree.Fresh place v k) w = clock_accessed ((accesses program allowed).fresh w v) place n w _ (λ x. walk_clock n (k x) w)
  walk_clock n (Tree.Birth place shapes k) w =
      walk_clock n (k (births program Auto shapes w).pointers) (births program Auto shapes w).memory ∙ births_clock program shapes w
  walk_clock n (Tree.Death place ps t) w = walk_clock n t (deaths ps w) ∙ deaths_clock ps w
  walk_clock n (Tree.Ask asked k) w = refl
  walk_clock n (Tree.Cross place func args depth k) w = refl

-- ---- what a machine came to with so many ticks

module _ {M : Type 0} (a : Accesses M) (side : Side) where
  -- where nothing is left when a tick is wanted
  abbrev pub Spent : Event → (left : ℕ) → Type 0
  Spent (event.TicksOut place) left = left ≡ 0
  Spent e left = Unit {0}

  pub record Came (h : Held) (m : M) (ticks : ℕ) (e : Event) (h' : Held) (m' : M) (rest : ℕ) : Type 0 where
    pub ran : RunsTo a side h m ticks (came_to e) h' m' rest
    pub wants : Wants side h' e
    pub spent : Spent e rest

  pub came : (h : Held) (m : M) (ticks : ℕ) (e : Event) (h' : Held) (m' : M) (rest : ℕ) → RanTo a side h m ticks e h' m' rest → Came h m ticks e h' m' rest
  came h m ticks (event.Done v) h' m' rest r = record { ran = r; wants = tt; spent = tt }
  came h m ticks (event.Cross c) h' m' rest r = record { ran = r; wants = tt; spent = tt }
  came h m ticks (event.Service q) h' m' rest r = record { ran = r; wants = tt; spent = tt }
  came h m ticks (event.Stop kind place) h' m' rest r = record { ran = r; wants = tt; spent = tt }
  came h m ticks (event.TicksOut place) h' m' rest r = record { ran = r.1; wants = r.2; spent = r.0 }

  -- what the walk of a tree with so many ticks comes to
  abbrev pub Comes : (n fuel : ℕ) → Tree → M → Event → Held → M → (rest r : ℕ) → Type 0
  Comes n f t m e h' m' rest r = walk a n t m ≡ came_after a side f (came_to e) h' m' rest r

  pub all_fuel : (h : Held) (m : M) (n : ℕ) (e : Event) (h' : Held) (m' : M) (rest f : ℕ) → n ≤ f → RunsTo a side h m n (came_to e) h' m' rest
      → Comes n f (tree side f h f) m e h' m' rest (rest + (f - n))
  all_fuel h m n e h' m' rest f less ran =
      let l : n ≤ f = less in
      let none : n + 0 ≡ n = omega arith in
      let all : n + (f - n) ≡ f = omega (arith, l) in
      let enough : n + (f - n) ≤ f = omega (arith, l) in
      let same : rest + 0 ≡ rest = omega arith in
      sym (ap (λ x. walk a x (tree side f h f) m) none)
      ∙ sym (ap (λ x. walk a (n + 0) (tree side f h x) m) all)
      ∙ ran.by f 0 (f - n) enough
      ∙ ap (λ x. came_after a side f (came_to e) h' m' x (rest + (f - n))) same

  -- the walk's memory is the one that is left
  pub memory_is : (n f : ℕ) (t : Tree) (m : M) (e : Event) (h' : Held) (m' : M) (rest r : ℕ) → Wants side h' e → Spent e rest → Comes n f t m e h' m' rest r → (walk a n t m).memory ≡ m'
  unfolding walk
  memory_is n f t m (event.Done v) h' m' rest r w spent is = ap (λ (x : Walked M). x.memory) is
  memory_is n f t m (event.Cross c) h' m' rest r w spent is = ap (λ (x : Walked M). x.memory) is
  memory_is n f t m (event.Service q) h' m' rest r w spent is = ap (λ (x : Walked M). x.memory) is
  memory_is n f t m (event.Stop kind place) h' m' rest r w spent is = ap (λ (x : Walked M). x.memory) is
  memory_is n f t m (event.TicksOut place) h' m' rest r w spent is =
      ap (λ (x : Walked M). x.memory) (is ∙ ap (λ k. walk a k (tree side f h' r) m') spent ∙ ap (λ u. walk a 0 u m') (w.by f r).1)
