-- What services and calls give is current, and what user code and kernel code pass.
use Rattle.std.proofs.Common.{◌≡◌, ℕ, zero, suc, ◌<◌, Bool, true, false, ◌||◌, ◌==◌, List, [], ◌∷◌, ◌++◌, Option, Some, None, Result, Ok, Err, length, is_some, slice_get, refl, sym, ap, subst}
use Rattle.std.specs.Prelude.{cond, nat_lt}
use Rattle.std.specs.Option.{option_map}
use Rattle.std.proofs.lemmas.Bool.{eq-eqb}
use Rattle.std.proofs.lemmas.Option.{slice_get_within}
use Rattle.mdr_core.specs.declared.place.At.{At}
use Rattle.mdr_core.specs.declared.program.GlobalDef.{GlobalDef}
use Rattle.mdr_core.specs.declared.program.Program.{Program}
use Rattle.mdr_core.specs.declared.stop.StopKind.{StopKind}
use Rattle.mdr_core.specs.declared.types.Shape.{Shape}
use Rattle.mdr_core.specs.declared.types.Ty.{Ty, out-Ty}
use Rattle.mdr_core.specs.declared.types.Ty.TheOpen.{Ty-F}
use Rattle.mdr_core.specs.Layout.{chosen}
use Rattle.mdr_core.specs.Services.{Service, Kzalloc, Kcalloc, Kfree, Readl, Writel, Printk, RequestIrq, FreeIrq, Deliver, Combolock, Combounlock, Bug, Enter, Leave, service_numbered}
use Rattle.mdr_meaning.specs.declared.shape.Shape64.{Shape64}
use Rattle.mdr_meaning.specs.declared.wire.Wire.{Wire}
use Rattle.mdr_meaning.specs.declared.wire.Wire.TheVariants as wire
use Rattle.mdr_meaning.specs.declared.wire.WireView.{WireView}
use Rattle.mdr_meaning.specs.Fair.{AllFit}
use Rattle.mdr_meaning.specs.Fit.{FitsLayer, global_shape}
use Rattle.mdr_meaning.specs.Tree.{Asked, Tree}
use Rattle.mdr_meaning.specs.Values.{first_of, natural, rest_of}
use Rattle.mdr_meaning.specs.Within.{Uses}
use Rattle.mdr_model.specs.declared.message.BirthKind.{BirthKind}
use Rattle.mdr_model.specs.declared.message.BirthKind.TheVariants.{Auto, Heap}
use Rattle.mdr_model.specs.declared.memory.MemoryBlock.{MemoryBlock}
use Rattle.mdr_model.specs.Memory.{Memory, born_at, is_live, zero_block}
use Rattle.mdr_plain.specs.Locks.{acquire, release}
use Rattle.mdr_plain.specs.Running.{Before, Setting, run}
use Rattle.mdr_plain.specs.Services.{Served, allocated, as_now, as_served, fails_now, freed, freed_by, gives, is_no_block, requested, served, served_by, when_changed}
use Rattle.mdr_plain.specs.Storage.{births, born, deaths, new_of, next_serial}
use Rattle.mdr_plain.specs.World.{Ended, Ran, Stopped, Work, World, after, counted, given, then}
use Rattle.mdr_holds.specs.Holding.{first_knowledge}
use Rattle.mdr_kept.specs.Current.{AreCurrent, IsCurrent, Lives, without}
use Rattle.mdr_kept.proofs.EvenLaws.{all_alive}
use Rattle.mdr_kept.proofs.LiveLaws.{deaths_live, none_gone, normal_current}

-- ---- services

abbrev pub AnswersCurrent : Ran (List Wire) → Type 0
AnswersCurrent (Ended rs w) = AreCurrent (is_live w.memory) rs
AnswersCurrent (Stopped kind at w) = Unit {0}

last_lives : (m : Memory) (b : MemoryBlock) → is_live (m ++ b ∷ []) b.born.serial ≡ true
unfolding is_live born_at
last_lives [] b = ap (λ t. is_some (cond t (Some b.born) None)) (eq-eqb b.born.serial b.born.serial refl)
last_lives (x ∷ m) b = of (x.born.serial == b.born.serial) (last_lives m b)
  where
    of : (t : Bool) → is_some (born_at (m ++ b ∷ []) b.born.serial) ≡ true → is_some (cond t (Some x.born) (born_at (m ++ b ∷ []) b.born.serial)) ≡ true
    of true e = refl
    of false e = e

still_lives : (m : Memory) (b : MemoryBlock) (s : ℕ) → is_live m s ≡ true → is_live (m ++ b ∷ []) s ≡ true
unfolding is_live born_at
still_lives [] b s h = absurd cc
still_lives (x ∷ m) b s h = of (x.born.serial == s) h (still_lives m b s)
  where
    of : (t : Bool) → is_some (cond t (Some x.born) (born_at m s)) ≡ true → (is_some (born_at m s) ≡ true → is_some (born_at (m ++ b ∷ []) s) ≡ true) → is_some (cond t (Some x.born) (born_at (m ++ b ∷ []) s)) ≡ true
    of true h more = refl
    of false h more = more h

births_keep_live : (program : Program) (kind : BirthKind) (shapes : List Shape64) (w : World) (s : ℕ) → is_live w.memory s ≡ true → is_live (births program kind shapes w).memory.memory s ≡ true
unfolding births born
births_keep_live program kind [] w s h = h
births_keep_live program kind (x ∷ shapes) w s h = births_keep_live program kind shapes (born program (new_of kind x w) w) s (still_lives w.memory (zero_block program (new_of kind x w)) s h)

births_current : (program : Program) (kind : BirthKind) (shapes : List Shape64) (w : World) → AreCurrent (is_live (births program kind shapes w).memory.memory) (births program kind shapes w).pointers
unfolding births born
births_current program kind [] w = tt
births_current program kind (s ∷ shapes) w = (
  births_keep_live program kind shapes (born program (new_of kind s w) w) (next_serial w) (last_lives w.memory (zero_block program (new_of kind s w))),
  births_current program kind shapes (born program (new_of kind s w) w),
)

either : (b : Bool) (x y : Served) → AnswersCurrent x → AnswersCurrent y → AnswersCurrent (chosen b x y)
either true x y h g = h
either false x y h g = g

allocated_current : (program : Program) (shapes : List Shape64) (w : World) → AnswersCurrent (allocated program shapes w)
allocated_current program [] w = (tt, tt)
allocated_current program (s ∷ shapes) w = either (fails_now w || is_no_block program s) (gives wire.Null w) (as_served (births program Heap (s ∷ []) w)) (tt, tt) (births_current program Heap (s ∷ []) w)

freed_by_current : (whole locked : Bool) (serial : ℕ) (at : At) (w : World) → AnswersCurrent (freed_by whole locked serial at w)
freed_by_current false locked serial at w = tt
freed_by_current true true serial at w = tt
freed_by_current true false serial at w = tt

freed_current : (program : Program) (at : At) (p : Wire) (w : World) → AnswersCurrent (freed program at p w)
freed_current program at (wire.Ptr v) w = freed_by_current _ _ v.serial at w
freed_current program at (wire.Int k n) w = tt
freed_current program at wire.Null w = tt
freed_current program at wire.Dead w = tt
freed_current program at (wire.Fn f) w = tt
freed_current program at (wire.Lock s) w = tt
freed_current program at wire.NoValue w = tt

requested_current : (h : Option ℕ) (v : Wire) (w : World) → AnswersCurrent (requested h v w)
requested_current None v w = (tt, tt)
requested_current (Some f) v w = (tt, tt)

changed_current : (m : Result Memory StopKind) (at : At) (w : World) → AnswersCurrent (when_changed m at w)
changed_current (Ok m) at w = tt
changed_current (Err kind) at w = tt

served_by_current : (program : Program) (a : Asked) (s : Option Service) (w : World) → AnswersCurrent (served_by program a s w)
served_by_current program a (Some Kzalloc) w = allocated_current program a.shapes _
served_by_current program a (Some Kcalloc) w = allocated_current program a.shapes _
served_by_current program a (Some Kfree) w = freed_current program a.at (first_of a.args) w
served_by_current program a (Some Readl) w = either (nat_lt (natural (first_of a.args)) 4096) _ _ (tt, tt) tt
served_by_current program a (Some Writel) w = either (nat_lt (natural (first_of (rest_of a.args))) 4096) _ _ tt tt
served_by_current program a (Some Printk) w = tt
served_by_current program a (Some RequestIrq) w = requested_current w.kept.handler (first_of a.args) w
served_by_current program a (Some FreeIrq) w = tt
served_by_current program a (Some Deliver) w = tt
served_by_current program a (Some Combolock) w = changed_current (acquire (first_of a.args) w) a.at w
served_by_current program a (Some Combounlock) w = changed_current (release (first_of a.args) w) a.at w
served_by_current program a (Some Bug) w = tt
served_by_current program a (Some Enter) w = births_current program Auto a.shapes w
served_by_current program a (Some Leave) w = tt
served_by_current program a None w = tt

pub served_current : (program : Program) (a : Asked) (w : World) → AnswersCurrent (served program a w)
unfolding served
served_current program a w = served_by_current program (as_now w a) (service_numbered a.service) w

-- objects of locals die, and no other
abbrev pub LeavesWithout : List Wire → World → Ran (List Wire) → Type 0
LeavesWithout ps w (Ended rs w') = is_live w'.memory ≡ without ps (is_live w.memory)
LeavesWithout ps w (Stopped kind at w') = Unit {0}

pub served_left : (program : Program) (a : Asked) (w : World) → service_numbered a.service ≡ Some Leave → AreCurrent (is_live w.memory) a.args → LeavesWithout a.args w (served program a w)
unfolding served
served_left program a w names h =
    subst (λ o. LeavesWithout a.args w (served_by program (as_now w a) o w)) (sym names)
    (subst (λ (ps : List Wire). is_live (deaths ps w).memory ≡ without a.args (is_live w.memory)) (sym (all_alive w.memory a.args (none_gone w.memory a.args h))) (deaths_live a.args w))

-- ---- code

-- what a run ends with is as it is now
abbrev pub ResultCurrent : Ran Wire → Type 0
ResultCurrent (Ended v w) = IsCurrent (is_live w.memory) v
ResultCurrent (Stopped kind at w) = Unit {0}

after_current : {A : Type 0} (r : Ran A) (go : A → World → Ran Wire) → ((x : A) (w : World) → ResultCurrent (go x w)) → ResultCurrent (after r go)
after_current (Ended x w) go each = each x w
after_current (Stopped kind at w) go each = tt

then_current : (r : Work) (go : World → Ran Wire) → ((w : World) → ResultCurrent (go w)) → ResultCurrent (then r go)
then_current (Ended x w) go each = each w
then_current (Stopped kind at w) go each = tt

counted_current : (n : ℕ) (at : Option At) (w : World) (go : World → Ran Wire) → ((w' : World) → ResultCurrent (go w')) → ResultCurrent (counted n at w go)
counted_current zero at w go each = tt
counted_current (suc n) at w go each = each _

given_current : {A : Type 0} (r : Result A StopKind) (at : At) (w : World) (go : A → Ran Wire) → ((x : A) → ResultCurrent (go x)) → ResultCurrent (given r at w go)
given_current (Ok x) at w go each = each x
given_current (Err kind) at w go each = tt

pub run_current : (s : Setting) (before : Before) (t : Tree) (w : World) → ResultCurrent (run s before t w)
unfolding run
run_current s before Tree.Idle w = tt
run_current s before (Tree.Waits k) w = tt
run_current s before (Tree.Done v t) w = normal_current w.memory v
run_current s before (Tree.Stop kind at) w = tt
run_current s before (Tree.Tick at d t) w = then_current (before d w) _ (λ w'. counted_current w'.clock.rest (Some at) w' _ (λ w''. run_current s before t w''))
run_current s before (Tree.Load at p k) w = given_current (s.accesses.load w p) at w _ (λ v. run_current s before (k v) w)
run_current s before (Tree.Store at p v t) w = given_current (s.accesses.store w p v) at w _ (λ w'. run_current s before t w')
run_current s before (Tree.Read at p n k) w = given_current (s.accesses.read w p n) at w _ (λ bytes. run_current s before (k bytes) w)
run_current s before (Tree.Fresh at v k) w = given_current (s.accesses.fresh w v) at w _ (λ x. run_current s before (k x) w)
run_current s before (Tree.Birth at shapes k) w = run_current s before (k (s.accesses.birth w shapes).pointers) (s.accesses.birth w shapes).memory
run_current s before (Tree.Death at ps t) w = run_current s before t (s.accesses.death w ps)
run_current s before (Tree.Ask a k) w = after_current (s.serves a w) _ (λ results w'. run_current s before (k results) w')
run_current s before (Tree.Cross at f args d k) w = after_current (s.crosses at f args d w) _ (λ v w'. run_current s before (k v) w')

-- ---- arguments of a script's calls, which name globals alone

module _ (program : Program) (uses : Uses) (lives : Lives) (globals : (g : ℕ) → g < length program.globals → lives g ≡ true) where
  named_lives : (g : ℕ) (o : Option GlobalDef) (shape : Shape) → slice_get program.globals g ≡ o → option_map (global_shape program) o ≡ Some shape → lives g ≡ true
  named_lives g (Some def) shape e q = globals g (slice_get_within program.globals g def e)
  named_lives g None shape e q = absurd cc

  layer_current : (t : Ty-F Ty) (p : WireView) → FitsLayer program (first_knowledge program uses) t (wire.Ptr p) → lives p.serial ≡ true
  layer_current (Ty-F.Int k) p h = elim h [ ]
  layer_current Ty-F.Lock p h = elim h [ ]
  layer_current (Ty-F.Struct s) p h = elim h [ ]
  layer_current (Ty-F.Ptr ty) p h = named_lives p.serial (slice_get program.globals p.serial) h.1.shape refl h.1.known
  layer_current Ty-F.VoidPtr p h = named_lives p.serial (slice_get program.globals p.serial) h.1.shape refl h.1.known
  layer_current (Ty-F.Fun ts) p h = elim h [ ]
  layer_current Ty-F.Void p h = elim h [ ]

  fitting_current : (t : Ty) (v : Wire) → FitsLayer program (first_knowledge program uses) (out-Ty t) v → IsCurrent lives v
  fitting_current t (wire.Ptr p) h = layer_current (out-Ty t) p h
  fitting_current t (wire.Int k n) h = tt
  fitting_current t wire.Null h = tt
  fitting_current t wire.Dead h = tt
  fitting_current t (wire.Fn f) h = tt
  fitting_current t (wire.Lock s) h = tt
  fitting_current t wire.NoValue h = tt

  pub arguments_current : (vs : List Wire) (ts : List Ty) → AllFit program (first_knowledge program uses) vs ts → AreCurrent lives vs
  arguments_current [] ts h = tt
  arguments_current (v ∷ vs) [] h = elim h [ ]
  arguments_current (v ∷ vs) (t ∷ ts) h = (fitting_current t v h.0, arguments_current vs ts h.1)
