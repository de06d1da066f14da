-- Work in a state leads to work in a state that is like it, how locks are held aside, and has no visible sets.
use Rattle.std.proofs.Common.{◌≡◌, ℕ, ℤ, zero, suc, ◌-◌, ◌≤◌, Bool, true, false, ◌&&◌, ◌||◌, List, [], ◌∷◌, ◌++◌, Option, Some, None, Result, Ok, Err, refl, sym, ◌∙◌, ap, subst, arith}
use Rattle.std.specs.Prelude.{map, nat_lt, not}
use Rattle.std.specs.List.{list_all}
use Rattle.std.specs.Option.{option_map}
use Rattle.std.proofs.lemmas.List.{map-append}
use Rattle.mdr_core.specs.declared.place.At.{At}
use Rattle.mdr_core.specs.declared.program.Program.{Program}
use Rattle.mdr_core.specs.declared.stop.StopKind.{StopKind}
use Rattle.mdr_core.specs.declared.value.LockState.{LockState}
use Rattle.mdr_core.specs.declared.value.LockState.TheVariants.{Free, Spin, Sleep}
use Rattle.mdr_core.specs.Layout.{chosen}
use Rattle.mdr_core.specs.Services.{Service, Kzalloc, Kcalloc, Kfree, Readl, Writel, Printk, RequestIrq, FreeIrq, Deliver, Combolock, Combounlock, Bug, Enter, Leave, service_numbered}
use Rattle.mdr_device.specs.Machines.{Machine}
use Rattle.mdr_meaning.specs.declared.shape.Shape64.{Shape64}
use Rattle.mdr_meaning.specs.declared.wire.Wire.{Wire}
use Rattle.mdr_meaning.specs.declared.wire.Wire.TheVariants as wire
use Rattle.mdr_meaning.specs.Tree.{Asked}
use Rattle.mdr_meaning.specs.Values.{first_of, natural, rest_of, saturated_u32}
use Rattle.mdr_meaning.specs.Walk.{Born}
use Rattle.mdr_model.specs.declared.memory.Cell.{Cell}
use Rattle.mdr_model.specs.declared.memory.MemoryBlock.{MemoryBlock}
use Rattle.mdr_model.specs.declared.message.BirthKind.{BirthKind}
use Rattle.mdr_model.specs.declared.message.BirthKind.TheVariants.{Auto, Heap}
use Rattle.mdr_model.specs.declared.message.New.{New}
use Rattle.mdr_model.specs.Memory.{Memory, born_at, cell_at, cell_of, everywhere, is_live, loaded, loaded_from, normal, normal_if, put, reached, reached_by, zero_block}
use Rattle.mdr_plain.specs.declared.outcome.Happened.{Happened}
use Rattle.mdr_plain.specs.declared.outcome.Happened.TheVariants as happened
use Rattle.mdr_plain.specs.Gate.{due}
use Rattle.mdr_plain.specs.Scripts.{poked_memory, poked_value, put_if}
use Rattle.mdr_plain.specs.Locks.{acquire, acquired, changed, is_locked, lock_in, release, released, taken_as, with_lock}
use Rattle.mdr_plain.specs.Services.{Served, allocated, as_now, as_served, asked_once_more, fails_now, freed, freed_by, gives_none, is_no_block, is_whole, register_read, register_written, requested, served, served_by, when_changed, with_device}
use Rattle.mdr_plain.specs.Storage.{births, born, bytes_from, cells_read, deaths, died, died_at, fresh, new_of, pointer_to, read, with_memory, with_pointer, without}
use Rattle.mdr_plain.specs.World.{World, Ran, Ended, Stopped, Work, after, left, then, counted, advanced, noted}
use Rattle.mdr_plain.proofs.KeepLaws.{IsKept, births_keep, deaths_keep, served_keeps}
use Rattle.mdr_watched.specs.Kept.{due_plainly}
use Rattle.mdr_kept.specs.Alike.{plainly, spun, spun_event, spun_lock, spun_memory}
use Rattle.mdr_kept.specs.Strict.{is_any_gone, is_gone, unless}
use Rattle.mdr_kept.proofs.LikeLaws.{AreLike, Like, like_spun, likes_spun, spun_like, spun_likes}
use Rattle.mdr_kept.proofs.SpunLaws.{born_at_spun, cell_at_spun, fresh_spun, is_any_held_spun, is_locked_spun, killed_spun, loaded_spun, lock_in_spun, mapped, normals_spun, normal_spun, put_spun, reached_spun, read_spun, zero_block_spun}

-- ---- no visible sets

unfoldable pub NoViews : World → Type 0
NoViews w = w.views ≡ []

pub none_kept : IsKept NoViews
unfolding NoViews died
none_kept = record {
  memory = λ w m e. e;
  keeping = λ w k e. e;
  device = λ w d e. e;
  tick = λ w e. e;
  birth = λ w b e. e;
  death = λ w serial e. ap (map (without serial)) e;
}

-- ---- states that are alike

pub record Even (w w' : World) : Type 0 where
  pub is : plainly w ≡ plainly w'
  pub alone : w'.views ≡ []

pub even_memory : (w w' : World) → Even w w' → spun_memory w.memory ≡ spun_memory w'.memory
even_memory w w' e = ap (λ (u : World). u.memory) e.is

pub even_rest : (w w' : World) → Even w w' → w.clock.rest ≡ w'.clock.rest
even_rest w w' e = ap (λ (u : World). u.clock.rest) e.is

-- what is put where an integer is held
poked_spun : (o : Option Wire) (n : ℤ) → poked_value (option_map spun o) n ≡ poked_value o n
poked_spun None n = refl
poked_spun (Some (wire.Int k m)) n = refl
poked_spun (Some wire.Null) n = refl
poked_spun (Some wire.Dead) n = refl
poked_spun (Some (wire.Ptr p)) n = refl
poked_spun (Some (wire.Fn f)) n = refl
poked_spun (Some (wire.Lock s)) n = refl
poked_spun (Some wire.NoValue) n = refl

even_with : (w w' : World) (m m' : Memory) → spun_memory m ≡ spun_memory m' → Even w w' → Even (with_memory w m) (with_memory w' m')
even_with w w' m m' f e = record { is = λ i. with_memory (e.is i) (f i); alone = e.alone }

pub even_poked : (c : Cell) (n : ℤ) (w w' : World) → Even w w' → Even (with_memory w (poked_memory c n w.memory)) (with_memory w' (poked_memory c n w'.memory))
even_poked c n w w' e = even_with w w' _ _ (subst (λ (o : Option Wire). spun_memory (poked_memory c n w.memory) ≡ spun_memory (put_if o c w'.memory)) alike (same_put (poked_value (cell_at w.memory c) n))) e
  where
    memories : spun_memory w.memory ≡ spun_memory w'.memory
    memories = even_memory w w' e

    held : option_map spun (cell_at w.memory c) ≡ option_map spun (cell_at w'.memory c)
    held = sym (cell_at_spun w.memory c) ∙ ap (λ (m : Memory). cell_at m c) memories ∙ cell_at_spun w'.memory c

    alike : poked_value (cell_at w.memory c) n ≡ poked_value (cell_at w'.memory c) n
    alike = sym (poked_spun (cell_at w.memory c) n) ∙ ap (λ (o : Option Wire). poked_value o n) held ∙ poked_spun (cell_at w'.memory c) n

    same_put : (o : Option Wire) → spun_memory (put_if o c w.memory) ≡ spun_memory (put_if o c w'.memory)
    same_put None = memories
    same_put (Some v) = sym (put_spun w.memory c v) ∙ ap (λ (m : Memory). put m c (spun v)) memories ∙ put_spun w'.memory c v

pub even_ticked : (w w' : World) → Even w w' → Even (record w { clock = advanced 1 w.clock }) (record w' { clock = advanced 1 w'.clock })
even_ticked w w' e = record { is = ap (λ (u : World). record u { clock = advanced 1 u.clock }) e.is; alone = e.alone }

with_events : World → List Happened → World
with_events w events = record w { kept = record w.kept { events = events } }

noted_plainly : (event : Happened) (w : World) → plainly (noted event w) ≡ noted (spun_event event) (plainly w)
unfolding with_events
noted_plainly event w = ap (with_events (plainly w)) (map-append spun_event w.kept.events (event ∷ []))

pub even_noted : (event event' : Happened) (w w' : World) → spun_event event ≡ spun_event event' → Even w w' → Even (noted event w) (noted event' w')
even_noted event event' w w' f e = record {
  is = noted_plainly event w ∙ (λ i. noted (f i) (e.is i)) ∙ sym (noted_plainly event' w');
  alone = e.alone;
}

-- ---- work that leads to work

-- a result of this value, alike, in a state that is alike
pub record Ends {A B : Type 0} (Q : A → B → Type 0) (x : A) (w : World) (s : Ran B) : Type 0 where
  pub value : B
  pub world : World
  pub is : s ≡ Ended value world
  pub like : Q x value
  pub even : Even w world

-- where the one ends, the other ends alike, and at most so many ticks are left
pub record Leads {A B : Type 0} (Q : A → B → Type 0) (n : ℕ) (r : Ran A) (s : Ran B) : Type 0 where
  pub by : (x : A) (w : World) → r ≡ Ended x w → Ends Q x w s
  pub few : (x : A) (w : World) → r ≡ Ended x w → w.clock.rest ≤ n

no_end : {A X : Type 0} (kind : StopKind) (at : Option At) (w w' : World) (x : A) → ◌≡◌ {A = Ran A} (Stopped kind at w) (Ended x w') → X
no_end kind at w w' x e = absurd cc

same_world : {A : Type 0} (x y : A) (w w' : World) → ◌≡◌ {A = Ran A} (Ended x w) (Ended y w') → w ≡ w'
same_world x y w w' e = cc

same_value : {A : Type 0} (x y : A) (w w' : World) → ◌≡◌ {A = Ran A} (Ended x w) (Ended y w') → x ≡ y
same_value x y w w' e = cc

pub ended : {A B : Type 0} (Q : A → B → Type 0) (n : ℕ) (x : A) (y : B) (w w' : World) → Q x y → Even w w' → w.clock.rest ≤ n → Leads Q n (Ended x w) (Ended y w')
ended Q n x y w w' q e h = record {
  by = λ z u f. record { value = y; world = w'; is = refl; like = subst (λ a. Q a y) (same_value x z w u f) q; even = subst (λ (v : World). Even v w') (same_world x z w u f) e };
  few = λ z u f. subst (λ (v : World). v.clock.rest ≤ n) (same_world x z w u f) h;
}

pub never_ends : {A B : Type 0} (Q : A → B → Type 0) (n : ℕ) (kind : StopKind) (at : Option At) (w : World) (s : Ran B) → Leads Q n (Stopped kind at w) s
never_ends Q n kind at w s = record { by = λ x w' e. no_end kind at w w' x e; few = λ x w' e. no_end kind at w w' x e }

pub fewer : {A B : Type 0} (Q : A → B → Type 0) (n m : ℕ) (r : Ran A) (s : Ran B) → n ≤ m → Leads Q n r s → Leads Q m r s
fewer Q n m r s less h = record { by = h.by; few = λ x w e. let f : w.clock.rest ≤ n = h.few x w e in omega (arith, f, less) }

pub leads_after : {A B C D : Type 0} (Q : A → B → Type 0) (P : C → D → Type 0) (n m : ℕ) (r : Ran A) (s : Ran B) (go : A → World → Ran C) (go' : B → World → Ran D) → Leads Q n r s
    → ((x : A) (y : B) (w w' : World) → Q x y → Even w w' → w.clock.rest ≤ n → Leads P m (go x w) (go' y w')) → Leads P m (after r go) (after s go')
leads_after Q P n m (Ended a w) s go go' h each =
    let e : Ends Q a w s = h.by a w refl in
    subst (λ q. Leads P m (go a w) (after q go')) (sym e.is) (each a e.value w e.world e.like e.even (h.few a w refl))
leads_after Q P n m (Stopped kind at w) s go go' h each = never_ends P m kind at w (after s go')

-- work that has no result
abbrev pub Both : Unit {0} → Unit {0} → Type 0
Both x y = Unit {0}

pub leads_then : {C D : Type 0} (P : C → D → Type 0) (n m : ℕ) (r s : Work) (go : World → Ran C) (go' : World → Ran D) → Leads Both n r s
    → ((w w' : World) → Even w w' → w.clock.rest ≤ n → Leads P m (go w) (go' w')) → Leads P m (then r go) (then s go')
leads_then P n m (Ended a w) s go go' h each =
    let e : Ends Both a w s = h.by a w refl in
    subst (λ q. Leads P m (go w) (then q go')) (sym e.is) (each w e.world e.even (h.few a w refl))
leads_then P n m (Stopped kind at w) s go go' h each = never_ends P m kind at w (then s go')

pub leads_unless : {A B : Type 0} (Q : A → B → Type 0) (n : ℕ) (b : Bool) (at : Option At) (w : World) (r : Ran A) (s : Ran B) → (b ≡ false → Leads Q n r s) → Leads Q n (unless b at w r) s
leads_unless Q n true at w r s h = never_ends Q n _ _ w s
leads_unless Q n false at w r s h = h refl

pub leads_counted : {A B : Type 0} (Q : A → B → Type 0) (m rest : ℕ) (at : Option At) (w w' : World) (go : World → Ran A) (go' : World → Ran B) → w.clock.rest ≡ rest → Even w w'
    → ((q : ℕ) (u u' : World) → suc q ≡ rest → Even u u' → u.clock.rest ≤ q → Leads Q m (go u) (go' u')) → Leads Q m (counted rest at w go) (counted rest at w' go')
leads_counted Q m zero at w w' go go' e even each = never_ends Q m _ at w _
leads_counted Q m (suc n) at w w' go go' e even each =
    each n (record w { clock = advanced 1 w.clock }) (record w' { clock = advanced 1 w'.clock }) refl (even_ticked w w' even) (let h : w.clock.rest - 1 ≤ n = omega (arith, e) in h)

-- ---- what is alive stays as it is

pub normal_alive : (m : Memory) (v : Wire) → is_gone m v ≡ false → normal m v ≡ v
unfolding normal
normal_alive m (wire.Ptr p) e = of (is_live m p.serial) e
  where
    of : (b : Bool) → not b ≡ false → normal_if b p ≡ wire.Ptr p
    of true e = refl
    of false e = absurd cc
normal_alive m (wire.Int k n) e = refl
normal_alive m wire.Null e = refl
normal_alive m wire.Dead e = refl
normal_alive m (wire.Fn f) e = refl
normal_alive m (wire.Lock s) e = refl
normal_alive m wire.NoValue e = refl

neither : (a b : Bool) → (a || b) ≡ false → (a ≡ false) × (b ≡ false)
neither false b e = (refl, e)
neither true b e = absurd cc

pub all_alive : (m : Memory) (vs : List Wire) → is_any_gone m vs ≡ false → map (normal m) vs ≡ vs
all_alive m [] e = refl
all_alive m (v ∷ vs) e =
    let both : (is_gone m v ≡ false) × (is_any_gone m vs ≡ false) = neither (is_gone m v) (is_any_gone m vs) e in
    let one : normal m v ≡ v = normal_alive m v both.0 in
    let rest : map (normal m) vs ≡ vs = all_alive m vs both.1 in
    λ i. one i ∷ rest i

pub normal_like : (w w' : World) (v v' : Wire) → Even w w' → Like v v' → Like (normal w.memory v) (normal w'.memory v')
normal_like w w' v v' e h =
    let memory : spun_memory w.memory ≡ spun_memory w'.memory = even_memory w w' e in
    let value : spun v ≡ spun v' = spun_like v v' h in
    like_spun _ _ (sym (normal_spun w.memory v) ∙ (λ i. normal (memory i) (value i)) ∙ normal_spun w'.memory v')

-- ---- accesses

-- where the one gives something, the other gives it too
pub record Eases {A : Type 0} (x y : Result A StopKind) : Type 0 where
  pub by : (a : A) → x ≡ Ok a → y ≡ Ok a

no_err : {A X : Type 0} (kind : StopKind) (a : A) → ◌≡◌ {A = Result A StopKind} (Err kind) (Ok a) → X
no_err kind a e = absurd cc

eases_by : (alive inside allowed : Bool) (c : Cell) → Eases (reached_by alive inside allowed c) (reached_by alive inside true c)
eases_by false inside allowed c = record { by = λ a e. e }
eases_by true false allowed c = record { by = λ a e. e }
eases_by true true false c = record { by = λ a e. no_err _ a e }
eases_by true true true c = record { by = λ a e. e }

eases_reached : (allowed : Cell → Bool) (m : Memory) (p : Wire) → Eases (reached allowed m p) (reached everywhere m p)
unfolding reached
eases_reached allowed m (wire.Ptr p) = eases_by _ _ (allowed (cell_of p)) _
eases_reached allowed m (wire.Int k n) = record { by = λ a e. e }
eases_reached allowed m wire.Null = record { by = λ a e. e }
eases_reached allowed m wire.Dead = record { by = λ a e. e }
eases_reached allowed m (wire.Fn f) = record { by = λ a e. e }
eases_reached allowed m (wire.Lock s) = record { by = λ a e. e }
eases_reached allowed m wire.NoValue = record { by = λ a e. e }

eases_on : {A : Type 0} (x y : Result Cell StopKind) (f : Result Cell StopKind → Result A StopKind) → ((kind : StopKind) → f (Err kind) ≡ Err kind) → Eases x y → Eases (f x) (f y)
eases_on (Ok c) y f stays h = record { by = λ a e. ap f (h.by c refl) ∙ e }
eases_on (Err kind) y f stays h = record { by = λ a e. no_err kind a (sym (stays kind) ∙ e) }

all_true : (cells : List Cell) → list_all everywhere cells ≡ true
all_true [] = refl
all_true (c ∷ cells) = all_true cells

eases_all : (alive inside allowed all : Bool) (c : Cell) → all ≡ true → Eases (reached_by alive inside allowed c) (reached_by alive inside all c)
eases_all alive inside allowed all c e = subst (λ b. Eases (reached_by alive inside allowed c) (reached_by alive inside b c)) (sym e) (eases_by alive inside allowed c)

eases_loaded : (allowed : Cell → Bool) (m : Memory) (p : Wire) → Eases (loaded allowed m p) (loaded everywhere m p)
unfolding loaded
eases_loaded allowed m p = eases_on _ _ (loaded_from m) (λ kind. refl) (eases_reached allowed m p)

eases_read : (allowed : Cell → Bool) (m : Memory) (p : Wire) (n : ℕ) → Eases (read allowed m p n) (read everywhere m p n)
unfolding read
eases_read allowed m (wire.Ptr p) n = eases_on _ _ (bytes_from m (cells_read p n)) (λ kind. refl) (eases_all _ _ (list_all allowed (cells_read p n)) _ _ (all_true (cells_read p n)))
eases_read allowed m (wire.Int k i) n = record { by = λ a e. e }
eases_read allowed m wire.Null n = record { by = λ a e. e }
eases_read allowed m wire.Dead n = record { by = λ a e. e }
eases_read allowed m (wire.Fn f) n = record { by = λ a e. e }
eases_read allowed m (wire.Lock s) n = record { by = λ a e. e }
eases_read allowed m wire.NoValue n = record { by = λ a e. e }

-- a result that gives a value like this one
pub record Finds (a : Wire) (y : Result Wire StopKind) : Type 0 where
  pub value : Wire
  pub is : y ≡ Ok value
  pub like : Like a value

finds : (a : Wire) (y : Result Wire StopKind) → mapped spun y ≡ Ok (spun a) → Finds a y
finds a (Ok b) e = record { value = b; is = refl; like = like_spun a b (sym cc) }
finds a (Err kind) e = absurd cc

module _ (w w' : World) (even : Even w w') (p p' : Wire) (like : Like p p') where
  memory : spun_memory w.memory ≡ spun_memory w'.memory
  memory = even_memory w w' even

  pointer : spun p ≡ spun p'
  pointer = spun_like p p' like

  -- what may be loaded from the one memory is found in the other
  pub loads_alike : (allowed : Cell → Bool) (a : Wire) → loaded allowed w.memory p ≡ Ok a → Finds a (loaded everywhere w'.memory p')
  loads_alike allowed a e =
      finds a _ (sym (loaded_spun w'.memory p') ∙ sym (λ i. loaded everywhere (memory i) (pointer i)) ∙ loaded_spun w.memory p ∙ ap (mapped spun) ((eases_loaded allowed w.memory p).by a e))

  pub reaches_alike : (allowed : Cell → Bool) → Eases (reached allowed w.memory p) (reached everywhere w'.memory p')
  reaches_alike allowed = record {
    by = λ c e. sym (reached_spun w'.memory p') ∙ sym (λ i. reached everywhere (memory i) (pointer i)) ∙ reached_spun w.memory p ∙ (eases_reached allowed w.memory p).by c e;
  }

  pub reads_alike : (allowed : Cell → Bool) (n : ℕ) → Eases (read allowed w.memory p n) (read everywhere w'.memory p' n)
  reads_alike allowed n = record {
    by = λ bs e. sym (read_spun w'.memory p' n) ∙ sym (λ i. read everywhere (memory i) (pointer i) n) ∙ read_spun w.memory p n ∙ (eases_read allowed w.memory p n).by bs e;
  }

pub finds_fresh : (w w' : World) → Even w w' → (v v' : Wire) → Like v v' → (a : Wire) → fresh w.memory v ≡ Ok a → Finds a (fresh w'.memory v')
finds_fresh w w' even v v' like a e =
    let memory : spun_memory w.memory ≡ spun_memory w'.memory = even_memory w w' even in
    let value : spun v ≡ spun v' = spun_like v v' like in
    finds a _ (sym (fresh_spun w'.memory v') ∙ sym (λ i. fresh (memory i) (value i)) ∙ fresh_spun w.memory v ∙ ap (mapped spun) e)

pub stores_alike : (w w' : World) (c : Cell) (v v' : Wire) → Even w w' → Like v v' → Even (with_memory w (put w.memory c (normal w.memory v))) (with_memory w' (put w'.memory c (normal w'.memory v')))
stores_alike w w' c v v' even like =
    let memory : spun_memory w.memory ≡ spun_memory w'.memory = even_memory w w' even in
    let value : spun (normal w.memory v) ≡ spun (normal w'.memory v') = spun_like _ _ (normal_like w w' v v' even like) in
    even_with w w' _ _ (sym (put_spun w.memory c (normal w.memory v)) ∙ (λ i. put (memory i) c (value i)) ∙ put_spun w'.memory c (normal w'.memory v')) even

-- ---- births and deaths

born_plainly : (program : Program) (n : New) (w : World) → born program n (plainly w) ≡ plainly (born program n w)
unfolding born
born_plainly program n w =
    let memory : spun_memory w.memory ++ zero_block program n ∷ [] ≡ spun_memory (w.memory ++ zero_block program n ∷ [])
    = ap (λ (b : MemoryBlock). spun_memory w.memory ++ b ∷ []) (sym (zero_block_spun program n)) ∙ sym (map-append _ w.memory (zero_block program n ∷ [])) in
    ap (λ (m : Memory). record (plainly (born program n w)) { memory = m }) memory

abbrev plain_born : Born World → Born World
plain_born b = record { pointers = map spun b.pointers; memory = plainly b.memory }

births_plainly : (program : Program) (kind : BirthKind) (shapes : List Shape64) (w : World) → births program kind shapes (plainly w) ≡ plain_born (births program kind shapes w)
unfolding births
births_plainly program kind [] w = refl
births_plainly program kind (s ∷ shapes) w =
    ap (λ (u : World). with_pointer (pointer_to (new_of kind s w)) (births program kind shapes u)) (born_plainly program (new_of kind s w) w)
    ∙ ap (with_pointer (pointer_to (new_of kind s w))) (births_plainly program kind shapes (born program (new_of kind s w) w))

births_rest : (program : Program) (kind : BirthKind) (shapes : List Shape64) (w : World) → (births program kind shapes w).memory.clock.rest ≡ w.clock.rest
unfolding births born
births_rest program kind [] w = refl
births_rest program kind (s ∷ shapes) w = births_rest program kind shapes (born program (new_of kind s w) w)

died_plainly : (serial : ℕ) (w : World) → died serial (plainly w) ≡ plainly (died serial w)
unfolding died
died_plainly serial w = ap (λ (m : Memory). record (plainly (died serial w)) { memory = m }) (killed_spun serial w.memory)

died_at_plainly : (p : Wire) (w : World) → died_at (spun p) (plainly w) ≡ plainly (died_at p w)
died_at_plainly (wire.Ptr p) w = died_plainly p.serial w
died_at_plainly (wire.Int k n) w = refl
died_at_plainly wire.Null w = refl
died_at_plainly wire.Dead w = refl
died_at_plainly (wire.Fn f) w = refl
died_at_plainly (wire.Lock s) w = refl
died_at_plainly wire.NoValue w = refl

deaths_plainly : (ps : List Wire) (w : World) → deaths (map spun ps) (plainly w) ≡ plainly (deaths ps w)
deaths_plainly [] w = refl
deaths_plainly (p ∷ ps) w = ap (deaths (map spun ps)) (died_at_plainly p w) ∙ deaths_plainly ps (died_at p w)

died_at_rest : (p : Wire) (w : World) → (died_at p w).clock.rest ≡ w.clock.rest
unfolding died
died_at_rest (wire.Ptr p) w = refl
died_at_rest (wire.Int k n) w = refl
died_at_rest wire.Null w = refl
died_at_rest wire.Dead w = refl
died_at_rest (wire.Fn f) w = refl
died_at_rest (wire.Lock s) w = refl
died_at_rest wire.NoValue w = refl

pub deaths_rest : (ps : List Wire) (w : World) → (deaths ps w).clock.rest ≡ w.clock.rest
deaths_rest [] w = refl
deaths_rest (p ∷ ps) w = deaths_rest ps (died_at p w) ∙ died_at_rest p w

pub births_alike : (program : Program) (kind : BirthKind) (shapes : List Shape64) (w w' : World) → Even w w' → Even (births program kind shapes w).memory (births program kind shapes w').memory
unfolding NoViews
births_alike program kind shapes w w' e = record {
  is = ap (λ (b : Born World). b.memory) (sym (births_plainly program kind shapes w) ∙ ap (births program kind shapes) e.is ∙ births_plainly program kind shapes w');
  alone = births_keep NoViews none_kept program kind shapes w' e.alone;
}

pub pointers_alike : (program : Program) (kind : BirthKind) (shapes : List Shape64) (w w' : World) → Even w w' → AreLike (births program kind shapes w).pointers (births program kind shapes w').pointers
pointers_alike program kind shapes w w' e =
    likes_spun _ _ (ap (λ (b : Born World). b.pointers) (sym (births_plainly program kind shapes w) ∙ ap (births program kind shapes) e.is ∙ births_plainly program kind shapes w'))

pub births_take_none : (program : Program) (kind : BirthKind) (shapes : List Shape64) (w : World) (r : ℕ) → w.clock.rest ≤ r → (births program kind shapes w).memory.clock.rest ≤ r
births_take_none program kind shapes w r h = let same : (births program kind shapes w).memory.clock.rest ≡ w.clock.rest = births_rest program kind shapes w in omega (arith, same, h)

pub deaths_alike : (ps qs : List Wire) (w w' : World) → AreLike ps qs → Even w w' → Even (deaths ps w) (deaths qs w')
unfolding NoViews
deaths_alike ps qs w w' like e =
    let pointers : map spun ps ≡ map spun qs = spun_likes ps qs like in
    record {
      is = sym (deaths_plainly ps w) ∙ (λ i. deaths (pointers i) (e.is i)) ∙ deaths_plainly qs w';
      alone = deaths_keep NoViews none_kept qs w' e.alone;
    }

-- ---- services

abbrev plain_ran : Served → Served
plain_ran (Ended rs w) = Ended (map spun rs) (plainly w)
plain_ran (Stopped kind at w) = Stopped kind at (plainly w)

record Fine (n : ℕ) (r s : Served) : Type 0 where
  is : s ≡ plain_ran r
  rest : (left r).clock.rest ≡ n

pick : {n : ℕ} {x x' y y' : Served} (b : Bool) → Fine n x x' → Fine n y y' → Fine n (chosen b x y) (chosen b x' y')
pick true h g = h
pick false h g = g

moved_to : {n : ℕ} {r s s' : Served} → s ≡ s' → Fine n r s' → Fine n r s
moved_to e h = record { is = e ∙ h.is; rest = h.rest }

none_fine : (event : Happened) (w : World) → spun_event event ≡ event → Fine w.clock.rest (gives_none (noted event w)) (gives_none (noted event (plainly w)))
none_fine event w e = record { is = ap gives_none (ap (λ (x : Happened). noted x (plainly w)) (sym e) ∙ sym (noted_plainly event w)); rest = refl }

allocated_fine : (program : Program) (shapes : List Shape64) (w : World) → Fine w.clock.rest (allocated program shapes w) (allocated program shapes (plainly w))
allocated_fine program [] w = record { is = refl; rest = refl }
allocated_fine program (s ∷ shapes) w = pick (fails_now w || is_no_block program s) (record { is = refl; rest = refl })
    (record { is = ap as_served (births_plainly program Heap (s ∷ []) w); rest = births_rest program Heap (s ∷ []) w })

freed_by_fine : (whole locked : Bool) (serial : ℕ) (at : At) (w : World) → Fine w.clock.rest (freed_by whole locked serial at w) (freed_by whole locked serial at (plainly w))
freed_by_fine false locked serial at w = record { is = refl; rest = refl }
freed_by_fine true true serial at w = record { is = refl; rest = refl }
freed_by_fine true false serial at w = record { is = ap gives_none (died_plainly serial w); rest = died_at_rest (pointer serial) w }
  where
    pointer : ℕ → Wire
    pointer n = wire.Ptr (record { serial = n; first = 0; ty = 0; count = 0; index = 0 })

freed_fine : (program : Program) (at : At) (p : Wire) (w : World) → Fine w.clock.rest (freed program at p w) (freed program at (spun p) (plainly w))
freed_fine program at (wire.Ptr v) w =
    let block : born_at (spun_memory w.memory) v.serial ≡ born_at w.memory v.serial = born_at_spun w.memory v.serial in
    let locked : is_locked v.serial (spun_memory w.memory) ≡ is_locked v.serial w.memory = is_locked_spun v.serial w.memory in
    moved_to (λ i. freed_by (is_whole program v (block i)) (locked i) v.serial at (plainly w)) (freed_by_fine _ _ v.serial at w)
freed_fine program at (wire.Int k n) w = record { is = refl; rest = refl }
freed_fine program at wire.Null w = record { is = refl; rest = refl }
freed_fine program at wire.Dead w = record { is = refl; rest = refl }
freed_fine program at (wire.Fn f) w = record { is = refl; rest = refl }
freed_fine program at (wire.Lock s) w = record { is = refl; rest = refl }
freed_fine program at wire.NoValue w = record { is = refl; rest = refl }

device_event : (event : Happened) (d : Machine) (w : World) (rs : List Wire) → spun_event event ≡ event → map spun rs ≡ rs → Fine w.clock.rest (Ended rs (noted event (with_device d w))) (Ended rs (noted event (with_device d (plainly w))))
device_event event d w rs e f = let back : rs ≡ map spun rs = sym f in record { is = λ i. Ended (back i) (world i); rest = refl }
  where
    world : noted event (with_device d (plainly w)) ≡ plainly (noted event (with_device d w))
    world = ap (λ (x : Happened). noted x (with_device d (plainly w))) (sym e) ∙ sym (noted_plainly event (with_device d w))

register_read_fine : (at : At) (r : ℕ) (w : World) → Fine w.clock.rest (register_read at r w) (register_read at r (plainly w))
register_read_fine at r w = pick (nat_lt r 4096) (device_event _ _ w _ refl refl) (record { is = refl; rest = refl })

register_written_fine : (at : At) (r n : ℕ) (w : World) → Fine w.clock.rest (register_written at r n w) (register_written at r n (plainly w))
register_written_fine at r n w = pick (nat_lt r 4096) (device_event _ _ w _ refl refl) (record { is = refl; rest = refl })

requested_fine : (h : Option ℕ) (v : Wire) (w : World) → Fine w.clock.rest (requested h v w) (requested h (spun v) (plainly w))
requested_fine (Some f) v w = record { is = refl; rest = refl }
requested_fine None (wire.Ptr p) w = record { is = refl; rest = refl }
requested_fine None (wire.Int k n) w = record { is = refl; rest = refl }
requested_fine None wire.Null w = record { is = refl; rest = refl }
requested_fine None wire.Dead w = record { is = refl; rest = refl }
requested_fine None (wire.Fn f) w = record { is = refl; rest = refl }
requested_fine None (wire.Lock s) w = record { is = refl; rest = refl }
requested_fine None wire.NoValue w = record { is = refl; rest = refl }

changed_fine : (m : Result Memory StopKind) (at : At) (w : World) → Fine w.clock.rest (when_changed m at w) (when_changed (mapped spun_memory m) at (plainly w))
changed_fine (Ok m) at w = record { is = refl; rest = refl }
changed_fine (Err kind) at w = record { is = refl; rest = refl }

abbrev memory_ok : Memory → Result Memory StopKind
memory_ok m = Ok m

-- a change of a lock's state that goes with one of another state
module _ (change change' : LockState → Result LockState StopKind) (goes : (m : Memory) (c : Cell) (s : LockState) → with_lock (spun_memory m) c (change' (spun_lock s)) ≡ mapped spun_memory (with_lock m c (change s))) where
  changed_spun : (m : Memory) (r : Result Cell StopKind) → changed change' (spun_memory m) r ≡ mapped spun_memory (changed change m r)
  changed_spun m (Ok c) = ap (λ s. with_lock (spun_memory m) c (change' s)) (ap lock_in (cell_at_spun m c) ∙ lock_in_spun (cell_at m c)) ∙ goes m c (lock_in (cell_at m c))
  changed_spun m (Err kind) = refl

acquires : (to : LockState) → spun_lock to ≡ Spin → (m : Memory) (c : Cell) (s : LockState) → with_lock (spun_memory m) c (acquired Spin (spun_lock s)) ≡ mapped spun_memory (with_lock m c (acquired to s))
acquires to e m c Free = ap (λ (s : LockState). memory_ok (put (spun_memory m) c (wire.Lock s))) (sym e) ∙ ap memory_ok (put_spun m c (wire.Lock to))
acquires to e m c Spin = refl
acquires to e m c Sleep = refl

releases : (m : Memory) (c : Cell) (s : LockState) → with_lock (spun_memory m) c (released (spun_lock s)) ≡ mapped spun_memory (with_lock m c (released s))
releases m c Free = refl
releases m c Spin = ap memory_ok (put_spun m c (wire.Lock Free))
releases m c Sleep = ap memory_ok (put_spun m c (wire.Lock Free))

taken_spun : (views : List (List Cell)) → spun_lock (taken_as views) ≡ Spin
taken_spun [] = refl
taken_spun (set ∷ sets) = refl

acquire_plainly : (p : Wire) (w : World) → acquire (spun p) (plainly w) ≡ mapped spun_memory (acquire p w)
unfolding acquire
acquire_plainly p w =
    ap (changed (acquired Spin) (spun_memory w.memory)) (reached_spun w.memory p) ∙ changed_spun (acquired (taken_as w.views)) (acquired Spin) (acquires (taken_as w.views) (taken_spun w.views)) w.memory (reached everywhere w.memory p)

release_plainly : (p : Wire) (w : World) → release (spun p) (plainly w) ≡ mapped spun_memory (release p w)
unfolding release
release_plainly p w = ap (changed released (spun_memory w.memory)) (reached_spun w.memory p) ∙ changed_spun released released releases w.memory (reached everywhere w.memory p)

first_spun : (vs : List Wire) → first_of (map spun vs) ≡ spun (first_of vs)
first_spun [] = refl
first_spun (v ∷ vs) = refl

natural_spun : (v : Wire) → natural (spun v) ≡ natural v
natural_spun (wire.Ptr p) = refl
natural_spun (wire.Int k n) = refl
natural_spun wire.Null = refl
natural_spun wire.Dead = refl
natural_spun (wire.Fn f) = refl
natural_spun (wire.Lock s) = refl
natural_spun wire.NoValue = refl

first_number : (vs : List Wire) → natural (first_of (map spun vs)) ≡ natural (first_of vs)
first_number vs = ap natural (first_spun vs) ∙ natural_spun (first_of vs)

rest_spun : (vs : List Wire) → rest_of (map spun vs) ≡ map spun (rest_of vs)
rest_spun [] = refl
rest_spun (v ∷ vs) = refl

second_number : (vs : List Wire) → natural (first_of (rest_of (map spun vs))) ≡ natural (first_of (rest_of vs))
second_number vs = ap (λ (ws : List Wire). natural (first_of ws)) (rest_spun vs) ∙ first_number (rest_of vs)

abbrev spun_asked : Asked → Asked
spun_asked a = record a { args = map spun a.args }

served_by_fine : (program : Program) (a : Asked) (s : Option Service) (w : World) → Fine w.clock.rest (served_by program a s w) (served_by program (spun_asked a) s (plainly w))
served_by_fine program a (Some Kzalloc) w = allocated_fine program a.shapes (asked_once_more w)
served_by_fine program a (Some Kcalloc) w = allocated_fine program a.shapes (asked_once_more w)
served_by_fine program a (Some Kfree) w = moved_to (ap (λ v. freed program a.at v (plainly w)) (first_spun a.args)) (freed_fine program a.at (first_of a.args) w)
served_by_fine program a (Some Readl) w = moved_to (ap (λ n. register_read a.at n (plainly w)) (first_number a.args)) (register_read_fine a.at (natural (first_of a.args)) w)
served_by_fine program a (Some Writel) w =
    let register : natural (first_of (rest_of (map spun a.args))) ≡ natural (first_of (rest_of a.args)) = second_number a.args in
    let word : saturated_u32 (natural (first_of (map spun a.args))) ≡ saturated_u32 (natural (first_of a.args)) = ap saturated_u32 (first_number a.args) in
    moved_to (λ i. register_written a.at (register i) (word i) (plainly w)) (register_written_fine a.at (natural (first_of (rest_of a.args))) (saturated_u32 (natural (first_of a.args))) w)
served_by_fine program a (Some Printk) w = none_fine (happened.Log a.bytes) w refl
served_by_fine program a (Some RequestIrq) w = moved_to (ap (λ v. requested w.kept.handler v (plainly w)) (first_spun a.args)) (requested_fine w.kept.handler (first_of a.args) w)
served_by_fine program a (Some FreeIrq) w = record { is = refl; rest = refl }
served_by_fine program a (Some Deliver) w = none_fine (happened.Deliver a.bytes) w refl
served_by_fine program a (Some Combolock) w = moved_to (ap (λ m. when_changed m a.at (plainly w)) (ap (λ v. acquire v (plainly w)) (first_spun a.args) ∙ acquire_plainly (first_of a.args) w)) (changed_fine (acquire (first_of a.args) w) a.at w)
served_by_fine program a (Some Combounlock) w = moved_to (ap (λ m. when_changed m a.at (plainly w)) (ap (λ v. release v (plainly w)) (first_spun a.args) ∙ release_plainly (first_of a.args) w)) (changed_fine (release (first_of a.args) w) a.at w)
served_by_fine program a (Some Bug) w = record { is = refl; rest = refl }
served_by_fine program a (Some Enter) w = record { is = ap as_served (births_plainly program Auto a.shapes w); rest = births_rest program Auto a.shapes w }
served_by_fine program a (Some Leave) w = record { is = ap gives_none (deaths_plainly a.args w); rest = deaths_rest a.args w }
served_by_fine program a None w = record { is = refl; rest = refl }

served_fine : (program : Program) (a : Asked) (w : World) → Fine w.clock.rest (served program a w) (served program (spun_asked a) (plainly w))
unfolding served
served_fine program a w =
    moved_to (ap (λ (args : List Wire). served_by program (record a { args = args }) (service_numbered a.service) (plainly w)) (normals_spun w.memory a.args)) (served_by_fine program (as_now w a) (service_numbered a.service) w)

as_leads : (n : ℕ) (r s : Served) → plain_ran r ≡ plain_ran s → (left s).views ≡ [] → (left r).clock.rest ≤ n → Leads AreLike n r s
as_leads n (Ended x w) (Ended y w') e alone few = ended AreLike n x y w w' (likes_spun x y cc) (record { is = cc; alone = alone }) few
as_leads n (Ended x w) (Stopped kind at w') e alone few = absurd cc
as_leads n (Stopped kind at w) s e alone few = never_ends AreLike n kind at w s

-- a service that is asked with arguments that are alike
pub served_leads : (program : Program) (a : Asked) (args : List Wire) (w w' : World) → AreLike a.args args → Even w w' → Leads AreLike w.clock.rest (served program a w) (served program (record a { args = args }) w')
unfolding NoViews
served_leads program a args w w' like e =
    let passed : map spun a.args ≡ map spun args = spun_likes a.args args like in
    let one : Fine w.clock.rest (served program a w) (served program (spun_asked a) (plainly w)) = served_fine program a w in
    let other : Fine w'.clock.rest (served program (record a { args = args }) w') (served program (record a { args = map spun args }) (plainly w')) = served_fine program (record a { args = args }) w' in
    as_leads w.clock.rest _ _ (sym one.is ∙ (λ i. served program (record a { args = passed i }) (e.is i)) ∙ other.is) (served_keeps NoViews none_kept program (record a { args = args }) w' e.alone).at_end
    (let same : (left (served program a w)).clock.rest ≡ w.clock.rest = one.rest in omega (arith, same))

-- ---- interrupts

due_spun : (w : World) → due (plainly w) ≡ due_plainly w
unfolding due
due_spun w = ap (λ (held : Bool). chosen (w.clock.device.state.line && (not w.kept.in_handler && (not held && true))) w.kept.handler None) (is_any_held_spun w.memory)

-- in a state without visible sets the rule doesn't ask for any
pub due_alike : (w w' : World) → Even w w' → due_plainly w ≡ due w'
due_alike w w' e =
    sym (due_spun w) ∙ ap due e.is ∙ due_spun w' ∙ ap (λ (views : List (List Cell)). due (record w' { views = views })) (sym e.alone)
