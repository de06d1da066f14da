-- A half's tree leads to the whole's tree, in a state that is alike and has no visible sets.
use Rattle.std.proofs.Common.{◌≡◌, ℕ, zero, suc, ◌≤◌, Bool, true, List, [], Option, Some, Result, Ok, Err, refl, sym, subst, arith}
use Rattle.mdr_core.specs.declared.place.At.{At}
use Rattle.mdr_core.specs.declared.program.Program.{Program}
use Rattle.mdr_core.specs.declared.stop.StopKind.{StopKind}
use Rattle.mdr_meaning.specs.declared.shape.Shape64.{Shape64}
use Rattle.mdr_meaning.specs.declared.wire.Wire.{Wire}
use Rattle.mdr_meaning.specs.Lives.{asked_for, births_by}
use Rattle.mdr_meaning.specs.Tree.{Asked, Tree}
use Rattle.mdr_model.specs.declared.memory.Cell.{Cell}
use Rattle.mdr_model.specs.declared.message.BirthKind.TheVariants.{Auto}
use Rattle.mdr_model.specs.Memory.{everywhere, reached, stored, stored_into}
use Rattle.mdr_plain.specs.Plain.{never}
use Rattle.mdr_plain.specs.Running.{Before, Crossing, Setting, in_kernel, run}
use Rattle.mdr_plain.specs.Services.{served}
use Rattle.mdr_plain.specs.Storage.{accesses, births, deaths, fresh, remembers}
use Rattle.mdr_plain.specs.World.{World, Ran, Ended, Stopped, Work, after, then, given, counted}
use Rattle.mdr_kept.specs.Strict.{run_alive}
use Rattle.mdr_kept.proofs.LikeLaws.{AreLike, Empty, Like, Same}
use Rattle.mdr_kept.proofs.EvenLaws.{Both, Eases, Even, Finds, Leads, births_alike, births_take_none, deaths_alike, deaths_rest, even_rest, fewer, finds_fresh, leads_after, leads_counted, loads_alike, never_ends, pointers_alike, reaches_alike, reads_alike, stores_alike}

-- ---- what follows work that is followed by more

pub after_after : {A B : Type 0} (r : Ran A) (f : A → World → Ran B) {C : Type 0} (go : B → World → Ran C) → after (after r f) go ≡ after r (λ x w. after (f x w) go)
after_after (Ended x w) f go = refl
after_after (Stopped kind at w) f go = refl

after_then : {B C : Type 0} (r : Work) (f : World → Ran B) (go : B → World → Ran C) → after (then r f) go ≡ after r (λ x w. after (f w) go)
after_then (Ended x w) f go = refl
after_then (Stopped kind at w) f go = refl

as_after : {B : Type 0} (r : Work) (f : World → Ran B) → then r f ≡ after r (λ x w. f w)
as_after (Ended x w) f = refl
as_after (Stopped kind at w) f = refl

after_counted : {B C : Type 0} (n : ℕ) (at : Option At) (w : World) (f : World → Ran B) (go : B → World → Ran C) → after (counted n at w f) go ≡ counted n at w (λ w'. after (f w') go)
after_counted zero at w f go = refl
after_counted (suc n) at w f go = refl

module _ (m : ℕ) (go : Wire → World → Ran Wire) where
  abbrev Onward : Ran Wire → Ran Wire → Type 0
  Onward r s = Leads Like m r s

  pub asks_go : {A B : Type 0} (Q : A → B → Type 0) (n : ℕ) (x : Ran A) (s : Ran B) (f : A → World → Ran Wire) (f' : B → World → Ran Wire) → Leads Q n x s
      → ((a : A) (b : B) (w w' : World) → Q a b → Even w w' → w.clock.rest ≤ n → Onward (after (f a w) go) (f' b w')) → Onward (after (after x f) go) (after s f')
  asks_go Q n x s f f' h each = subst (λ q. Onward q (after s f')) (sym (after_after x f go)) (leads_after Q Like n m x s (λ a w. after (f a w) go) f' h each)

  ticks_go : (n : ℕ) (x s : Work) (f f' : World → Ran Wire) → Leads Both n x s → ((w w' : World) → Even w w' → w.clock.rest ≤ n → Onward (after (f w) go) (f' w')) → Onward (after (then x f) go) (then s f')
  ticks_go n x s f f' h each =
      subst (λ q. Onward q (then s f')) (sym (after_then x f go))
      (subst (λ q. Onward (after x (λ u w. after (f w) go)) q) (sym (as_after s f')) (leads_after Both Like n m x s (λ u w. after (f w) go) (λ u w. f' w) h (λ u v w w' b. each w w')))

  counts_go : (at : Option At) (w w' : World) (f f' : World → Ran Wire) → Even w w' → ((q : ℕ) (u u' : World) → suc q ≡ w.clock.rest → Even u u' → u.clock.rest ≤ q → Onward (after (f u) go) (f' u'))
      → Onward (after (counted w.clock.rest at w f) go) (counted w'.clock.rest at w' f')
  counts_go at w w' f f' even each =
      subst (λ q. Onward q (counted w'.clock.rest at w' f')) (sym (after_counted w.clock.rest at w f go))
      (subst (λ n. Onward (counted w.clock.rest at w (λ u. after (f u) go)) (counted n at w' f')) (even_rest w w' even) (leads_counted Like m w.clock.rest at w w' (λ u. after (f u) go) f' refl even each))

  given_goes : {A : Type 0} (x y : Result A StopKind) (at : At) (w v : World) (f f' : A → Ran Wire) → Eases x y → ((a : A) → Onward (after (f a) go) (f' a)) → Onward (after (given x at w f) go) (given y at v f')
  given_goes (Ok a) y at w v f f' h each = subst (λ q. Onward (after (f a) go) (given q at v f')) (sym (h.by a refl)) (each a)
  given_goes (Err kind) y at w v f f' h each = never_ends Like m kind _ w _

  found_goes : (x y : Result Wire StopKind) (at : At) (w v : World) (f f' : Wire → Ran Wire) → ((a : Wire) → x ≡ Ok a → Finds a y) → ((a b : Wire) → Like a b → Onward (after (f a) go) (f' b)) → Onward (after (given x at w f) go) (given y at v f')
  found_goes (Ok a) y at w v f f' h each = let found : Finds a y = h a refl in subst (λ q. Onward (after (f a) go) (given q at v f')) (sym found.is) (each a found.value found.like)
  found_goes (Err kind) y at w v f f' h each = never_ends Like m kind _ w _

  store_goes : (x y : Result Cell StopKind) (v v' : Wire) (at : At) (w w' : World) (f f' : World → Ran Wire) → Even w w' → Like v v' → Eases x y → ((u u' : World) → Even u u' → u.clock.rest ≡ w.clock.rest → Onward (after (f u) go) (f' u'))
      → Onward (after (given (remembers w (stored_into w.memory v x)) at w f) go) (given (remembers w' (stored_into w'.memory v' y)) at w' f')
  store_goes (Ok c) y v v' at w w' f f' even like h each =
      subst (λ q. Onward (after (given (remembers w (stored_into w.memory v (Ok c))) at w f) go) (given (remembers w' (stored_into w'.memory v' q)) at w' f')) (sym (h.by c refl)) (each _ _ (stores_alike w w' c v v' even like) refl)
  store_goes (Err kind) y v v' at w w' f f' even like h each = never_ends Like m kind _ w _

-- ---- trees

module _ (program : Program) (allowed : World → Cell → Bool) (serves : Asked → World → Ran (List Wire)) (crosses : Crossing) (before before' : Before) (go : Wire → World → Ran Wire)
    (tries : (d : ℕ) (w w' : World) → Even w w' → Leads Both w.clock.rest (before d w) (before' d w'))
    (asked : (q : Asked) (args : List Wire) (w w' : World) → AreLike q.args args → Even w w' → Leads AreLike w.clock.rest (serves q w) (served program (record q { args = args }) w')) where
  abbrev pub setting : Setting
  setting = record { accesses = accesses program allowed; serves = serves; crosses = crosses }

  abbrev pub on_one : Setting
  on_one = in_kernel program never

  pub record Goes (r : ℕ) (t u : Tree) : Type 0 where
    pub by : (w w' : World) → Even w w' → w.clock.rest ≤ r → Leads Like r (after (run_alive setting before t w) go) (run on_one before' u w')

  pub goes_stop : (r : ℕ) (kind : StopKind) (at : At) → Goes r (Tree.Stop kind at) (Tree.Stop kind at)
  unfolding run run_alive
  goes_stop r kind at = record { by = λ w w' e h. never_ends Like r kind _ w _ }

  pub goes_tick : (r : ℕ) (at : At) (d : ℕ) (t u : Tree) → ((q : ℕ) → suc q ≤ r → Goes q t u) → Goes r (Tree.Tick at d t) (Tree.Tick at d u)
  unfolding run run_alive
  goes_tick r at d t u e = record {
    by = λ w w' even h.
        ticks_go r go w.clock.rest (before d w) (before' d w') _ _ (tries d w w' even)
        (λ v v' even' h'. counts_go r go (Some at) v v' _ _ even'
        (λ q x x' is even'' h''. fewer Like q r _ _ (let l : q ≤ r = omega (arith, is, h', h) in l) ((e q (let l : suc q ≤ r = omega (arith, is, h', h) in l)).by x x' even'' h'')));
  }

  pub goes_load : (r : ℕ) (at : At) (p p' : Wire) (k l : Wire → Tree) → Like p p' → ((v v' : Wire) → Like v v' → Goes r (k v) (l v')) → Goes r (Tree.Load at p k) (Tree.Load at p' l)
  unfolding run run_alive
  goes_load r at p p' k l like e = record { by = λ w w' even h. found_goes r go _ _ at w w' _ _ (loads_alike w w' even p p' like (allowed w)) (λ v v' b. (e v v' b).by w w' even h) }

  pub goes_store : (r : ℕ) (at : At) (p p' v v' : Wire) (t u : Tree) → Like p p' → Like v v' → Goes r t u → Goes r (Tree.Store at p v t) (Tree.Store at p' v' u)
  unfolding run run_alive stored
  goes_store r at p p' v v' t u like a e = record {
    by = λ w w' even h. store_goes r go (reached (allowed w) w.memory p) (reached everywhere w'.memory p') v v' at w w' _ _ even a (reaches_alike w w' even p p' like (allowed w))
        (λ x x' even' same. e.by x x' even' (let l : x.clock.rest ≤ r = omega (arith, same, h) in l));
  }

  pub goes_read : (r : ℕ) (at : At) (p p' : Wire) (n : ℕ) (k l : List ℕ → Tree) → Like p p' → ((bs : List ℕ) → Goes r (k bs) (l bs)) → Goes r (Tree.Read at p n k) (Tree.Read at p' n l)
  unfolding run run_alive
  goes_read r at p p' n k l like e = record { by = λ w w' even h. given_goes r go _ _ at w w' _ _ (reads_alike w w' even p p' like (allowed w) n) (λ bs. (e bs).by w w' even h) }

  pub goes_fresh : (r : ℕ) (at : At) (v : Wire) (k l : Wire → Tree) → ((x y : Wire) → Like x y → Goes r (k x) (l y)) → Goes r (Tree.Fresh at v k) (Tree.Fresh at v l)
  unfolding run run_alive
  goes_fresh r at v k l e = record { by = λ w w' even h. found_goes r go (fresh w.memory v) (fresh w'.memory v) at w w' _ _ (finds_fresh w w' even v v (Same v)) (λ x y b. (e x y b).by w w' even h) }

  pub goes_ask : (r n : ℕ) (at : At) (args args' : List Wire) (shapes : List Shape64) (bytes : List ℕ) (k l : List Wire → Tree) → AreLike args args' → ((vs ws : List Wire) → AreLike vs ws → Goes r (k vs) (l ws))
      → Goes r (Tree.Ask (asked_for n at args shapes bytes) k) (Tree.Ask (asked_for n at args' shapes bytes) l)
  unfolding run run_alive
  goes_ask r n at args args' shapes bytes k l like e = record {
    by = λ w w' even h.
        asks_go r go AreLike w.clock.rest (serves (asked_for n at args shapes bytes) w) (served program (asked_for n at args' shapes bytes) w') _ _ (asked (asked_for n at args shapes bytes) args' w w' like even)
        (λ vs ws x x' b even' h'. (e vs ws b).by x x' even' (let l : x.clock.rest ≤ r = omega (arith, h', h) in l));
  }

  -- ---- births and deaths, in place and as questions

  pub goes_birth : (r : ℕ) (at : At) (shapes : List Shape64) (k l : List Wire → Tree) → ((ps qs : List Wire) → AreLike ps qs → Goes r (k ps) (l qs)) → Goes r (Tree.Birth at shapes k) (Tree.Birth at shapes l)
  unfolding run run_alive
  goes_birth r at shapes k l e = record {
    by = λ w w' even h.
        (e (births program Auto shapes w).pointers (births program Auto shapes w').pointers (pointers_alike program Auto shapes w w' even)).by (births program Auto shapes w).memory (births program Auto shapes w').memory
        (births_alike program Auto shapes w w' even) (births_take_none program Auto shapes w r h);
  }

  pub goes_born : (r : ℕ) (at : At) (shapes : List Shape64) (k l : List Wire → Tree) → ((ps qs : List Wire) → AreLike ps qs → Goes r (k ps) (l qs)) → Goes r (births_by true at shapes k) (Tree.Birth at shapes l)
  unfolding run run_alive served
  goes_born r at shapes k l e = record {
    by = λ w w' even h.
        asks_go r go AreLike w.clock.rest (serves (asked_for 13 at [] shapes []) w) (served program (asked_for 13 at [] shapes []) w') _ (λ ps x. run on_one before' (l ps) x)
        (asked (asked_for 13 at [] shapes []) [] w w' Empty even) (λ ps qs x x' b even' h'. (e ps qs b).by x x' even' (let l : x.clock.rest ≤ r = omega (arith, h', h) in l));
  }

  pub goes_death : (r : ℕ) (at : At) (ps qs : List Wire) (t u : Tree) → AreLike ps qs → Goes r t u → Goes r (Tree.Death at ps t) (Tree.Death at qs u)
  unfolding run run_alive
  goes_death r at ps qs t u like e = record {
    by = λ w w' even h.
        let same : (deaths ps w).clock.rest ≡ w.clock.rest = deaths_rest ps w in
        e.by (deaths ps w) (deaths qs w') (deaths_alike ps qs w w' like even) (omega (arith, same, h));
  }
