-- What is known of a question to a service, and of its answer.
use Rattle.std.proofs.Common.{◌≡◌, ℕ, zero, suc, ◌≤◌, ◌<◌, ◌⊎◌, inl, inr, Bool, true, false, not, ◌&&◌, ◌||◌, List, [], ◌∷◌, ◌++◌, map, Option, Some, None, Ok, refl, sym, ◌∙◌, ap, subst, arith}
use Rattle.std.specs.Prelude.{cond, get_or, is_some, length, nat_lt, slice_get, ◌==◌}
use Rattle.std.specs.List.{list_all}
use Rattle.std.proofs.lemmas.Bool.{eq-eqb, eqb-true, ltb-true, or_left, or_right}
use Rattle.mdr_core.specs.declared.plan.Key.{Key}
use Rattle.mdr_core.specs.declared.program.Program.{Program}
use Rattle.mdr_core.specs.declared.types.Ty.TheVariants as type
use Rattle.mdr_core.specs.Layout.{chosen}
use Rattle.mdr_core.specs.Services.{Service, Kzalloc, Kcalloc, Kfree, Readl, Writel, Printk, RequestIrq, FreeIrq, Deliver, Combolock, Combounlock, Bug, Enter, Leave, service_numbered}
use Rattle.mdr_core.specs.Sound.{IsSound}
use Rattle.mdr_core.specs.Suited.{is_lock_by}
use Rattle.mdr_extents.specs.Reaching.{cells_of_block, own_cells}
use Rattle.mdr_holds.proofs.Fitting.{fits_now, some_is}
use Rattle.mdr_holds.proofs.Memories.{live_born}
use Rattle.mdr_holds.proofs.Objects.{objects_now}
use Rattle.mdr_holds.proofs.States.{states_hold}
use Rattle.mdr_holds.specs.Holding.{Holds}
use Rattle.mdr_holds.specs.Laws.{IsLockCell}
use Rattle.mdr_holds.specs.Leaving.{AreObjects, IsObject}
use Rattle.mdr_meaning.proofs.GrowthLaws.{all_grow, are_grow}
use Rattle.mdr_meaning.specs.declared.wire.Wire.{Wire}
use Rattle.mdr_meaning.specs.Fair.{AllFit, AreBorn, AreKnown, IsAsk, IsServed as IsFairlyServed, Leaves, after}
use Rattle.mdr_core.specs.declared.types.Shape.{Shape}
use Rattle.mdr_meaning.specs.declared.shape.Shape64.{Shape64}
use Rattle.mdr_meaning.specs.declared.wire.Wire.TheVariants as wire
use Rattle.mdr_meaning.specs.declared.wire.WireView.{WireView}
use Rattle.mdr_meaning.specs.Fit.{Grows, IsDataPointer, Knowledge}
use Rattle.mdr_meaning.specs.Tree.{Asked}
use Rattle.mdr_meaning.specs.Values.{first_of}
use Rattle.mdr_meaning.specs.Within.{Uses}
use Rattle.mdr_model.specs.declared.memory.Cell.{Cell}
use Rattle.mdr_model.specs.declared.message.New.{New}
use Rattle.mdr_model.specs.Agreement.{has}
use Rattle.mdr_model.specs.Copies.{died, is_named}
use Rattle.mdr_model.specs.Values.{names_block}
use Rattle.mdr_model.proofs.LifeLaws.{born_at-killed, has-died}
use Rattle.mdr_model.specs.Memory.{Memory, born_at, cell_at, everywhere, is_live, normal, reached, zero_block}
use Rattle.mdr_model.proofs.Tests.{and_both, and_left, and_right, not_both}
use Rattle.mdr_plain.specs.Services.{as_now, served, served_by}
use Rattle.mdr_plain.specs.Storage.{deaths, died as dies, next_serial}
use Rattle.mdr_extents.specs.CellOrder.{cells}
use Rattle.mdr_extents.specs.Extent.{is_touched}
use Rattle.mdr_model.specs.declared.memory.MemoryBlock.{MemoryBlock}
use Rattle.mdr_model.specs.Sets.{cells_from}
use Rattle.mdr_paths.proofs.NodeLists.{in_both, is_in-filter, is_in-head}
use Rattle.mdr_paths.specs.Paths.{is_in as is_among}
use Rattle.mdr_watched.specs.Views.{new_cells}
use Rattle.mdr_core.specs.declared.program.GlobalDef.{GlobalDef}
use Rattle.std.proofs.lemmas.Option.{slice_get_cases}
use Rattle.std.proofs.lemmas.List.{append-nil}
use Rattle.mdr_plain.specs.World.{World, Ran, Ended}
use Rattle.mdr_shows.proofs.Served.{serves}
use Rattle.mdr_shows.specs.Cells.{IsServed, NamesLock, is_lock_at, is_lock_in, is_lock_leaf, takes_lock, told_cells}
use Rattle.mdr_serves.proofs.Messages.{objects_alive}
use Rattle.mdr_serves.proofs.Relations.{known_by}
use Rattle.mdr_serves.proofs.Tellings.{shape_known}
use Rattle.mdr_split.specs.Services.{entered_after, entering_by, leaving, leaving_by, less, serials_of}
use Rattle.mdr_split.specs.User.{agrees, cells_of_news, objects_fit}

-- ---- the question

-- what is asked as one who knows little asks is asked so by one who knows more
pub ask_grows : (program : Program) (K K' : Knowledge) → Grows K K' → (a : Asked) (s : Service) → IsAsk program K a s → IsAsk program K' a s
ask_grows program K K' g a Kzalloc h = h
ask_grows program K K' g a Kcalloc h = h
ask_grows program K K' g a Kfree h = record { fit = all_grow program K K' g a.args _ h.fit; no_shapes = h.no_shapes; no_bytes = h.no_bytes }
ask_grows program K K' g a Readl h = record { fit = all_grow program K K' g a.args _ h.fit; no_shapes = h.no_shapes; no_bytes = h.no_bytes }
ask_grows program K K' g a Writel h = record { fit = all_grow program K K' g a.args _ h.fit; no_shapes = h.no_shapes; no_bytes = h.no_bytes }
ask_grows program K K' g a Printk h = h
ask_grows program K K' g a RequestIrq h = record {
  takes = record { fit = all_grow program K K' g a.args _ h.takes.fit; no_shapes = h.takes.no_shapes; no_bytes = h.takes.no_bytes };
  func = h.func;
  is = h.is;
  handles = ap (λ (u : Uses). u.handles h.func) g.same ∙ h.handles;
}
ask_grows program K K' g a FreeIrq h = record { fit = all_grow program K K' g a.args _ h.fit; no_shapes = h.no_shapes; no_bytes = h.no_bytes }
ask_grows program K K' g a Deliver h = h
ask_grows program K K' g a Combolock h = record { fit = all_grow program K K' g a.args _ h.fit; no_shapes = h.no_shapes; no_bytes = h.no_bytes }
ask_grows program K K' g a Combounlock h = record { fit = all_grow program K K' g a.args _ h.fit; no_shapes = h.no_shapes; no_bytes = h.no_bytes }
ask_grows program K K' g a Bug h = record { fit = all_grow program K K' g a.args _ h.fit; no_shapes = h.no_shapes; no_bytes = h.no_bytes }
ask_grows program K K' g a Enter h = h
ask_grows program K K' g a Leave h = record { known = are_grow program K K' g a.args h.known; no_shapes = h.no_shapes; no_bytes = h.no_bytes }

-- a lock that is taken or freed is one
lock_cell : (program : Program) (m : Memory) (c : Cell) → IsLockCell program m c → is_lock_at program m c ≡ true
lock_cell program m c x =
    ap (λ (o : Option New). is_lock_in program o c.index) x.born ∙ ap is_lock_leaf x.there ∙ ap is_lock_by x.lock

first_lock : (program : Program) (K : Knowledge) (w : World) → IsSound program → Holds program K w → (args : List Wire) → AllFit program K args (type.Ptr type.Lock ∷ []) → (c : Cell) → reached everywhere w.memory (first_of (map (normal w.memory) args)) ≡ Ok c → is_lock_at program w.memory c ≡ true
first_lock program K w sound holds [] h c e = elim h [ ]
first_lock program K w sound holds (v ∷ vs) h c e = lock_cell program w.memory c (states_hold.locks program sound K w holds (normal w.memory v) (fits_now program K w.memory (type.Ptr type.Lock) v h.0) c e)

pub names_lock : (program : Program) (K : Knowledge) (w : World) → IsSound program → Holds program K w → (a : Asked) (s : Service) → service_numbered a.service ≡ Some s → IsAsk program K a s → NamesLock program a w
names_lock program K w sound holds a s numbered ask takes c e = of s (ap takes_lock (sym numbered) ∙ takes) ask
  where
    of : (s : Service) → takes_lock (Some s) ≡ true → IsAsk program K a s → is_lock_at program w.memory c ≡ true
    of Combolock t h = first_lock program K w sound holds a.args h.fit c e
    of Combounlock t h = first_lock program K w sound holds a.args h.fit c e
    of Kzalloc t h = absurd cc
    of Kcalloc t h = absurd cc
    of Kfree t h = absurd cc
    of Readl t h = absurd cc
    of Writel t h = absurd cc
    of Printk t h = absurd cc
    of RequestIrq t h = absurd cc
    of FreeIrq t h = absurd cc
    of Deliver t h = absurd cc
    of Bug t h = absurd cc
    of Enter t h = absurd cc
    of Leave t h = absurd cc

-- ---- the answer

-- a block that a result names lives
pub named_lives : (program : Program) (touched : List Key) (a : Asked) (w w' : World) (rs : List Wire) → IsServed program a w rs w' → (serial : ℕ) → is_named rs serial ≡ true → is_live w'.memory serial ≡ true
named_lives program touched a w w' rs s serial named =
    let x = serves program touched a w w' rs s in
    x.named serial (x.above serial named) ∙ named

-- the cells of the blocks that are told, by two names
pub same_news : (program : Program) (touched : List Key) (news : List New) → cells_of_news program touched news ≡ told_cells program touched news
unfolding cells_of_news told_cells
same_news program touched [] = refl
same_news program touched (n ∷ news) = ap (λ (cs : List Cell). own_cells program touched (zero_block program n) ++ cs) (same_news program touched news)

-- ---- objects that die

dead_now : (serial : ℕ) (w : World) (n : ℕ) → is_live (dies serial w).memory n ≡ (is_live w.memory n && not (serial == n))
unfolding dies is_live
dead_now serial w n = grind (arith, born_at-killed serial w.memory n)

and_more : (x y z : Bool) → ((x && not y) && not z) ≡ (x && not (y || z))
and_more true true z = refl
and_more true false z = refl
and_more false y z = refl

no_more : (x : Bool) → (x && not false) ≡ x
no_more true = refl
no_more false = refl

deaths_live : (ps : List Wire) (w : World) (n : ℕ) → is_live (deaths ps w).memory n ≡ (is_live w.memory n && not (has (serials_of ps) n))
unfolding has
deaths_live [] w n = sym (no_more (is_live w.memory n))
deaths_live (wire.Ptr p ∷ ps) w n =
    deaths_live ps (dies p.serial w) n ∙ ap (λ (b : Bool). b && not (has (serials_of ps) n)) (dead_now p.serial w n) ∙ and_more (is_live w.memory n) (p.serial == n) (has (serials_of ps) n)
deaths_live (wire.Int k i ∷ ps) w n = deaths_live ps w n
deaths_live (wire.Null ∷ ps) w n = deaths_live ps w n
deaths_live (wire.Dead ∷ ps) w n = deaths_live ps w n
deaths_live (wire.Fn f ∷ ps) w n = deaths_live ps w n
deaths_live (wire.Lock s ∷ ps) w n = deaths_live ps w n
deaths_live (wire.NoValue ∷ ps) w n = deaths_live ps w n

-- a part of the objects
pub first_objects : (m : Memory) (from : ℕ) (xs ys : List Wire) → AreObjects m from (xs ++ ys) → AreObjects m from xs
first_objects m from [] ys h = tt
first_objects m from (x ∷ xs) ys h = (h.0, first_objects m (suc h.0.block.serial) xs ys h.1)

pub later_objects : (m : Memory) (from : ℕ) (xs ys : List Wire) → AreObjects m from (xs ++ ys) → (next : ℕ) × AreObjects m next ys
later_objects m from [] ys h = (from, h)
later_objects m from (x ∷ xs) ys h = later_objects m (suc h.0.block.serial) xs ys h.1

-- each test holds of both parts
both_pass : (p : ℕ → Bool) (xs ys : List Wire) → list_all p (serials_of xs) ≡ true → list_all p (serials_of ys) ≡ true → list_all p (serials_of (xs ++ ys)) ≡ true
both_pass p [] ys h j = j
both_pass p (wire.Ptr v ∷ xs) ys h j = and_both _ _ (and_left _ _ h) (both_pass p xs ys (and_right _ _ h) j)
both_pass p (wire.Int k i ∷ xs) ys h j = both_pass p xs ys h j
both_pass p (wire.Null ∷ xs) ys h j = both_pass p xs ys h j
both_pass p (wire.Dead ∷ xs) ys h j = both_pass p xs ys h j
both_pass p (wire.Fn f ∷ xs) ys h j = both_pass p xs ys h j
both_pass p (wire.Lock s ∷ xs) ys h j = both_pass p xs ys h j
both_pass p (wire.NoValue ∷ xs) ys h j = both_pass p xs ys h j

-- what holds of each number of a list
all_has : (p : ℕ → Bool) (ns : List ℕ) (n : ℕ) → list_all p ns ≡ true → has ns n ≡ true → p n ≡ true
unfolding has
all_has p [] n h j = absurd cc
all_has p (x ∷ ns) n h j = of (x == n) refl j (λ k. all_has p ns n (and_right _ _ h) k)
  where
    of : (b : Bool) → (x == n) ≡ b → (b || has ns n) ≡ true → (has ns n ≡ true → p n ≡ true) → p n ≡ true
    of true e k later = subst (λ (y : ℕ). p y ≡ true) (eqb-true x n e) (and_left _ _ h)
    of false e k later = later k

each_has : (p : ℕ → Bool) (ns : List ℕ) → ((n : ℕ) → has ns n ≡ true → p n ≡ true) → list_all p ns ≡ true
unfolding has
each_has p [] each = refl
each_has p (x ∷ ns) each = and_both _ _ (each x (or_left _ _ (eq-eqb x x refl))) (each_has p ns (λ n inside. each n (or_right (x == n) _ inside)))

-- what holds of what lives holds of objects
each_alive : (p : ℕ → Bool) (m : Memory) (from : ℕ) (vs : List Wire) → AreObjects m from vs → ((n : ℕ) → is_live m n ≡ true → p n ≡ true) → list_all p (serials_of vs) ≡ true
each_alive p m from [] h each = refl
each_alive p m from (v ∷ vs) h each = of h.0 (each_alive p m (suc h.0.block.serial) vs h.1 each)
  where
    of : IsObject m from v → list_all p (serials_of vs) ≡ true → list_all p (serials_of (v ∷ vs)) ≡ true
    of o rest = subst (λ (x : Wire). list_all p (serials_of (x ∷ vs)) ≡ true) (sym o.is) (and_both _ _ (each o.block.serial (live_born m o.block.serial o.block o.live)) rest)

-- the known serials
each_known : (program : Program) (KU : Knowledge) (vs : List Wire) → AreKnown program KU vs → list_all (known_by KU) (serials_of vs) ≡ true
each_known program KU [] h = refl
each_known program KU (wire.Ptr p ∷ vs) h = and_both _ _ (shape_known KU p.serial h.0.shape h.0.known) (each_known program KU vs h.1)
each_known program KU (wire.Int k n ∷ vs) h = each_known program KU vs h.1
each_known program KU (wire.Null ∷ vs) h = each_known program KU vs h.1
each_known program KU (wire.Dead ∷ vs) h = each_known program KU vs h.1
each_known program KU (wire.Fn f ∷ vs) h = each_known program KU vs h.1
each_known program KU (wire.Lock s ∷ vs) h = each_known program KU vs h.1
each_known program KU (wire.NoValue ∷ vs) h = each_known program KU vs h.1

-- the objects that a `leave` names die, and the others live on
leave_right : (program : Program) (KU : Knowledge) (copy : Memory) (w : World) (remains args : List Wire) → AreKnown program KU args → AreObjects w.memory 0 (remains ++ args) → AreObjects (deaths args w).memory 0 remains
    → ((n : ℕ) → known_by KU n ≡ true → is_live w.memory n ≡ true → is_live copy n ≡ true)
    → list_all (λ n. agrees (has (serials_of args) n) (has (died copy (deaths args w).memory) n)) (serials_of (remains ++ args)) ≡ true
leave_right program KU copy w remains args known objects left paired = both_pass _ remains args (each_alive _ (deaths args w).memory 0 remains left stays) (each_has _ (serials_of args) goes)
  where
    stays : (n : ℕ) → is_live (deaths args w).memory n ≡ true → agrees (has (serials_of args) n) (has (died copy (deaths args w).memory) n) ≡ true
    stays n lives = of (has (serials_of args) n) refl
      where
        of : (b : Bool) → has (serials_of args) n ≡ b → agrees b (has (died copy (deaths args w).memory) n) ≡ true
        of true e = absurd (not_both (sym (deaths_live args w n) ∙ lives) (ap (λ (b : Bool). is_live w.memory n && not b) e ∙ none (is_live w.memory n)))
          where
            none : (x : Bool) → (x && false) ≡ false
            none true = refl
            none false = refl
        of false e = ap not (has-died copy (deaths args w).memory n ∙ ap (λ (b : Bool). is_live copy n && not b) lives ∙ none (is_live copy n))
          where
            none : (x : Bool) → (x && false) ≡ false
            none true = refl
            none false = refl

    goes : (n : ℕ) → has (serials_of args) n ≡ true → agrees (has (serials_of args) n) (has (died copy (deaths args w).memory) n) ≡ true
    goes n inside =
        let alive : is_live w.memory n ≡ true = all_has (is_live w.memory) (serials_of args) n (each_alive (is_live w.memory) w.memory (later_objects w.memory 0 remains args objects).0 args (later_objects w.memory 0 remains args objects).1 (λ k lives. lives)) inside in
        let there : is_live copy n ≡ true = paired n (all_has (known_by KU) (serials_of args) n (each_known program KU args known) inside) alive in
        let gone : is_live (deaths args w).memory n ≡ false = deaths_live args w n ∙ rw (alive, inside) refl in
        rw (inside, has-died copy (deaths args w).memory n, there, gone) refl

-- what lives on isn't named
not_dying : (ps : List Wire) (w : World) (n : ℕ) → is_live (deaths ps w).memory n ≡ true → not (has (serials_of ps) n) ≡ true
not_dying ps w n lives = and_right (is_live w.memory n) _ (sym (deaths_live ps w n) ∙ lives)

-- what a `leave` does
left_world : (program : Program) (a : Asked) (w w' : World) (rs : List Wire) → service_numbered a.service ≡ Some Leave → map (normal w.memory) a.args ≡ a.args → served program a w ≡ Ended rs w' → deaths a.args w ≡ w'
unfolding served
left_world program a w w' rs numbered now is = ap (λ (xs : List Wire). deaths xs w) (sym now) ∙ ended_world (sym (ap (λ (o : Option Service). served_by program (as_now w a) o w) numbered) ∙ is)
  where
    ended_world : ◌≡◌ {A = Ran (List Wire)} (Ended [] (deaths (map (normal w.memory) a.args) w)) (Ended rs w') → deaths (map (normal w.memory) a.args) w ≡ w'
    ended_world e = cc

-- what the user half asks of deaths, by service
pub deaths_right : (program : Program) (KU : Knowledge) (copy : Memory) (w w' : World) (a : Asked) (s : Service) (live remains rs : List Wire) → service_numbered a.service ≡ Some s → IsAsk program KU a s → Leaves s a live remains
    → AreObjects w.memory 0 live → AreObjects w'.memory 0 (after s remains rs) → served program a w ≡ Ended rs w' → ((n : ℕ) → known_by KU n ≡ true → is_live w.memory n ≡ true → is_live copy n ≡ true)
    → objects_fit (leaving a.service a.args) (died copy w'.memory) (serials_of live) ≡ true
unfolding objects_fit leaving
deaths_right program KU copy w w' a s live remains rs numbered ask leaves objects now is paired =
    ap (λ (o : Option Service). list_all (λ n. agrees (has (leaving_by o a.args) n) (has (died copy w'.memory) n)) (serials_of live)) numbered ∙ of s numbered ask leaves now
  where
    alive : (s : Service) → remains ≡ live → AreObjects w'.memory 0 remains → list_all (λ n. agrees (has [] n) (has (died copy w'.memory) n)) (serials_of live) ≡ true
    alive s same left = objects_alive copy w'.memory 0 live (subst (λ (xs : List Wire). AreObjects w'.memory 0 xs) same left)

    leaving_ones : service_numbered a.service ≡ Some Leave → AreKnown program KU a.args → live ≡ remains ++ a.args → AreObjects w'.memory 0 remains → list_all (λ n. agrees (has (serials_of a.args) n) (has (died copy w'.memory) n)) (serials_of live) ≡ true
    leaving_ones e known same left =
        let together : AreObjects w.memory 0 (remains ++ a.args) = subst (λ (xs : List Wire). AreObjects w.memory 0 xs) same objects in
        let behind = later_objects w.memory 0 remains a.args together in
        let done : deaths a.args w ≡ w' = left_world program a w w' rs e (objects_now w.memory behind.0 a.args behind.1) is in
        let right = leave_right program KU copy w remains a.args known together (subst (λ (x : World). AreObjects x.memory 0 remains) (sym done) left) paired in
        subst (λ (xs : List Wire). list_all (λ n. agrees (has (serials_of a.args) n) (has (died copy w'.memory) n)) (serials_of xs) ≡ true) (sym same)
        (subst (λ (x : World). list_all (λ n. agrees (has (serials_of a.args) n) (has (died copy x.memory) n)) (serials_of (remains ++ a.args)) ≡ true) done right)

    of : (s : Service) → service_numbered a.service ≡ Some s → IsAsk program KU a s → Leaves s a live remains → AreObjects w'.memory 0 (after s remains rs) → list_all (λ n. agrees (has (leaving_by (Some s) a.args) n) (has (died copy w'.memory) n)) (serials_of live) ≡ true
    of Leave e h same left = leaving_ones e h.known same left
    of Enter e h same left = alive Enter same (first_objects w'.memory 0 remains rs left)
    of Kzalloc e h same left = alive Kzalloc same left
    of Kcalloc e h same left = alive Kcalloc same left
    of Kfree e h same left = alive Kfree same left
    of Readl e h same left = alive Readl same left
    of Writel e h same left = alive Writel same left
    of Printk e h same left = alive Printk same left
    of RequestIrq e h same left = alive RequestIrq same left
    of FreeIrq e h same left = alive FreeIrq same left
    of Deliver e h same left = alive Deliver same left
    of Combolock e h same left = alive Combolock same left
    of Combounlock e h same left = alive Combounlock same left
    of Bug e h same left = alive Bug same left

-- ---- what is given

-- a pointer to a block that is known by less fits by less
pointer_narrows : (program : Program) (K K' : Knowledge) → Grows K K' → (Takes : ℕ → Type 0) (v : Wire) → ((q : WireView) → v ≡ wire.Ptr q → is_some (K.blocks q.serial) ≡ true) → IsDataPointer program K' Takes v → IsDataPointer program K Takes v
pointer_narrows program K K' grows Takes (wire.Ptr q) known h = (h.0, record { shape = h.1.shape; known = of (K.blocks q.serial) refl (known q refl); view = h.1.view; small = h.1.small })
  where
    of : (o : Option Shape) → K.blocks q.serial ≡ o → is_some o ≡ true → K.blocks q.serial ≡ Some h.1.shape
    of (Some shape) e some = e ∙ ap (λ (x : Shape). Some x) (some_is (sym (grows.stays q.serial shape e) ∙ h.1.known))
    of None e some = absurd cc
pointer_narrows program K K' grows Takes (wire.Int k n) known h = elim h [ ]
pointer_narrows program K K' grows Takes wire.Null known h = tt
pointer_narrows program K K' grows Takes wire.Dead known h = tt
pointer_narrows program K K' grows Takes (wire.Fn f) known h = elim h [ ]
pointer_narrows program K K' grows Takes (wire.Lock s) known h = elim h [ ]
pointer_narrows program K K' grows Takes wire.NoValue known h = elim h [ ]

-- a result's block is named
first_named : (rs : List Wire) (q : WireView) → first_of rs ≡ wire.Ptr q → is_named rs q.serial ≡ true
first_named [] q e = absurd cc
first_named (v ∷ rs) q e = or_left _ _ (ap (names_block q.serial) e ∙ eq-eqb q.serial q.serial refl)

born_narrows : (program : Program) (K K' : Knowledge) → Grows K K' → (shapes : List Shape64) (rs : List Wire) → ((serial : ℕ) → is_named rs serial ≡ true → is_some (K.blocks serial) ≡ true) → AreBorn program K' shapes rs → AreBorn program K shapes rs
born_narrows program K K' grows [] [] known h = tt
born_narrows program K K' grows [] (p ∷ ps) known h = elim h [ ]
born_narrows program K K' grows (s ∷ shapes) [] known h = elim h [ ]
born_narrows program K K' grows (s ∷ shapes) (p ∷ ps) known h = (
  pointer_narrows program K K' grows _ p (λ q e. known q.serial (or_left _ _ (ap (names_block q.serial) e ∙ eq-eqb q.serial q.serial refl))) h.0,
  h.1,
  born_narrows program K K' grows shapes ps (λ serial named. known serial (or_right (names_block serial p) _ named)) h.2,
)

-- what a service gave fits by what the user half knows then
pub served_narrows : (program : Program) (K K' : Knowledge) → Grows K K' → (a : Asked) (s : Service) (rs : List Wire) → ((serial : ℕ) → is_named rs serial ≡ true → is_some (K.blocks serial) ≡ true) → IsFairlyServed program K' a s rs → IsFairlyServed program K a s rs
served_narrows program K K' grows a Kzalloc rs known h = pointer_narrows program K K' grows _ (first_of rs) (λ q e. known q.serial (first_named rs q e)) h
served_narrows program K K' grows a Kcalloc rs known h = pointer_narrows program K K' grows _ (first_of rs) (λ q e. known q.serial (first_named rs q e)) h
served_narrows program K K' grows a Kfree rs known h = h
served_narrows program K K' grows a Readl rs known h = h
served_narrows program K K' grows a Writel rs known h = h
served_narrows program K K' grows a Printk rs known h = h
served_narrows program K K' grows a RequestIrq rs known h = h
served_narrows program K K' grows a FreeIrq rs known h = h
served_narrows program K K' grows a Deliver rs known h = h
served_narrows program K K' grows a Combolock rs known h = h
served_narrows program K K' grows a Combounlock rs known h = h
served_narrows program K K' grows a Bug rs known h = h
served_narrows program K K' grows a Enter rs known h = born_narrows program K K' grows a.shapes rs known h
served_narrows program K K' grows a Leave rs known h = h

-- ---- objects that were born

-- there are no more globals than births
pub globals_below : (program : Program) (K : Knowledge) (w : World) → Holds program K w → length program.globals ≤ next_serial w
globals_below program K w h = of (slice_get_cases program.globals (next_serial w)).1
  where
    of : ((def : GlobalDef) × (next_serial w < length program.globals) × (slice_get program.globals (next_serial w) ≡ Some def) × (get_or program.globals (next_serial w) def ≡ def)) ⊎ ((length program.globals ≤ next_serial w) × (slice_get program.globals (next_serial w) ≡ None)) → length program.globals ≤ next_serial w
    of (inl x) = let less : next_serial w < next_serial w = h.low (next_serial w) (live_born w.memory (next_serial w) _ (h.memory.globals (next_serial w) x.0 x.2)) in absurd (omega (arith, less))
    of (inr x) = x.0

-- a new block's first cell joins the set, where it has its key
head_in : (serial n : ℕ) → 0 < n → is_among cells (cells_from serial 0 n) (record { serial = serial; index = 0 }) ≡ true
unfolding cells_from
head_in serial zero some = absurd (omega (arith, some))
head_in serial (suc n) some = is_in-head cells (record { serial = serial; index = 0 }) (cells_from serial 1 n)

own_first : (program : Program) (touched : List Key) (b : MemoryBlock) → 0 < length b.cells → is_touched program touched b.born 0 ≡ true → is_among cells (own_cells program touched b) (record { serial = b.born.serial; index = 0 }) ≡ true
unfolding own_cells
own_first program touched b some has_key =
    is_in-filter cells (λ (x : Cell). is_touched program touched b.born x.index) (cells_of_block b) (record { serial = b.born.serial; index = 0 })
    ∙ and_both _ _ has_key (head_in b.born.serial (length b.cells) some)

not_below : (a b : ℕ) → b ≤ a → nat_lt a b ≡ false
not_below a b h = of (nat_lt a b) refl
  where
    of : (t : Bool) → nat_lt a b ≡ t → t ≡ false
    of true e = let less : a < b = ltb-true a b e in absurd (omega (arith, less, h))
    of false e = refl

some_cells : (xs : List Wire) → is_some (slice_get xs 0) ≡ true → 0 < length xs
some_cells [] e = absurd cc
some_cells (x ∷ xs) e = omega arith

pub first_joins : (program : Program) (touched : List Key) (next : ℕ) (m : Memory) (block : New) → next ≤ block.serial → born_at m block.serial ≡ Some block → is_some (cell_at m (record { serial = block.serial; index = 0 })) ≡ true → is_touched program touched block 0 ≡ true
    → is_among cells (new_cells program touched next m) (record { serial = block.serial; index = 0 }) ≡ true
unfolding new_cells born_at cell_at
first_joins program touched next [] block new born there has_key = absurd cc
first_joins program touched next (b ∷ m) block new born there has_key = of (b.born.serial == block.serial) refl born there (λ e f. first_joins program touched next m block new e f has_key)
  where
    c : Cell
    c = record { serial = block.serial; index = 0 }

    own : b.born ≡ block → is_some (slice_get b.cells 0) ≡ true → is_among cells (chosen (nat_lt b.born.serial next) [] (own_cells program touched b)) c ≡ true
    own same some =
        ap (λ (t : Bool). is_among cells (chosen t [] (own_cells program touched b)) c) (not_below b.born.serial next (subst (λ (x : New). next ≤ x.serial) (sym same) new))
        ∙ subst (λ (x : New). is_among cells (own_cells program touched b) (record { serial = x.serial; index = 0 }) ≡ true) same
        (own_first program touched b (some_cells b.cells some) (subst (λ (x : New). is_touched program touched x 0 ≡ true) (sym same) has_key))

    of : (t : Bool) → (b.born.serial == block.serial) ≡ t → cond t (Some b.born) (born_at m block.serial) ≡ Some block → is_some (cond t (slice_get b.cells 0) (cell_at m c)) ≡ true
        → (born_at m block.serial ≡ Some block → is_some (cell_at m c) ≡ true → is_among cells (new_cells program touched next m) c ≡ true)
        → is_among cells (chosen (nat_lt b.born.serial next) [] (own_cells program touched b) ++ new_cells program touched next m) c ≡ true
    of true e f g later = in_both cells (chosen (nat_lt b.born.serial next) [] (own_cells program touched b)) (new_cells program touched next m) c ∙ or_left _ _ (own (some_is f) g)
    of false e f g later =
        in_both cells (chosen (nat_lt b.born.serial next) [] (own_cells program touched b)) (new_cells program touched next m) c
        ∙ or_right (is_among cells (chosen (nat_lt b.born.serial next) [] (own_cells program touched b)) c) _ (later f g)

-- ---- objects as they are counted

serials_append : (xs ys : List Wire) → serials_of (xs ++ ys) ≡ serials_of xs ++ serials_of ys
serials_append [] ys = refl
serials_append (wire.Ptr v ∷ xs) ys = ap (λ (ns : List ℕ). v.serial ∷ ns) (serials_append xs ys)
serials_append (wire.Int k n ∷ xs) ys = serials_append xs ys
serials_append (wire.Null ∷ xs) ys = serials_append xs ys
serials_append (wire.Dead ∷ xs) ys = serials_append xs ys
serials_append (wire.Fn f ∷ xs) ys = serials_append xs ys
serials_append (wire.Lock s ∷ xs) ys = serials_append xs ys
serials_append (wire.NoValue ∷ xs) ys = serials_append xs ys

less_all : (gone ns : List ℕ) → list_all (has gone) ns ≡ true → less gone ns ≡ []
less_all gone [] h = refl
less_all gone (n ∷ ns) h = rw (and_left (has gone n) (list_all (has gone) ns) h) (less_all gone ns (and_right (has gone n) (list_all (has gone) ns) h))

less_some : (gone ns more : List ℕ) → list_all (λ n. not (has gone n)) ns ≡ true → less gone more ≡ [] → less gone (ns ++ more) ≡ ns
less_some gone [] more h j = j
less_some gone (n ∷ ns) more h j =
    rw (and_left (not (has gone n)) (list_all (λ n. not (has gone n)) ns) h) (ap (λ (xs : List ℕ). n ∷ xs) (less_some gone ns more (and_right (not (has gone n)) (list_all (λ n. not (has gone n)) ns) h) j))

less_nothing : (ns : List ℕ) → less [] ns ≡ ns
unfolding has
less_nothing [] = refl
less_nothing (n ∷ ns) = ap (λ (xs : List ℕ). n ∷ xs) (less_nothing ns)

own_all : (ns : List ℕ) → list_all (has ns) ns ≡ true
own_all ns = each_has (has ns) ns (λ n h. h)

-- objects are counted as they live
pub entered_right : (program : Program) (w w' : World) (a : Asked) (args : List Wire) (s : Service) (live remains rs : List Wire) → service_numbered a.service ≡ Some s → Leaves s a live remains → AreObjects w.memory 0 live → AreObjects w'.memory 0 (after s remains rs)
    → served program a w ≡ Ended rs w' → (s ≡ Leave → args ≡ a.args) → entered_after a.service args rs (serials_of live) ≡ serials_of (after s remains rs)
unfolding entered_after leaving
entered_right program w w' a args s live remains rs numbered leaves objects now is same_args =
    ap (λ (o : Option Service). less (leaving_by o args) (serials_of live) ++ entering_by o rs) numbered ∙ of s numbered leaves now same_args
  where
    alike : remains ≡ live → less [] (serials_of live) ++ [] ≡ serials_of remains
    alike same = append-nil (less [] (serials_of live)) ∙ less_nothing (serials_of live) ∙ ap serials_of (sym same)

    entering : remains ≡ live → less [] (serials_of live) ++ serials_of rs ≡ serials_of (remains ++ rs)
    entering same = ap (λ (ns : List ℕ). ns ++ serials_of rs) (less_nothing (serials_of live) ∙ ap serials_of (sym same)) ∙ sym (serials_append remains rs)

    leaving_them : service_numbered a.service ≡ Some Leave → live ≡ remains ++ a.args → AreObjects w'.memory 0 remains → args ≡ a.args → less (serials_of args) (serials_of live) ++ [] ≡ serials_of remains
    leaving_them e same left args_are =
        let together : AreObjects w.memory 0 (remains ++ a.args) = subst (λ (xs : List Wire). AreObjects w.memory 0 xs) same objects in
        let behind = later_objects w.memory 0 remains a.args together in
        let done : deaths a.args w ≡ w' = left_world program a w w' rs e (objects_now w.memory behind.0 a.args behind.1) is in
        let kept : list_all (λ n. not (has (serials_of a.args) n)) (serials_of remains) ≡ true = each_alive (λ n. not (has (serials_of a.args) n)) (deaths a.args w).memory 0 remains (subst (λ (x : World). AreObjects x.memory 0 remains) (sym done) left) (λ n lives. not_dying a.args w n lives) in
        append-nil (less (serials_of args) (serials_of live))
        ∙ ap (λ (xs : List Wire). less (serials_of xs) (serials_of live)) args_are
        ∙ ap (λ (xs : List Wire). less (serials_of a.args) (serials_of xs)) same
        ∙ ap (less (serials_of a.args)) (serials_append remains a.args)
        ∙ less_some (serials_of a.args) (serials_of remains) (serials_of a.args) kept (less_all (serials_of a.args) (serials_of a.args) (own_all (serials_of a.args)))

    of : (s : Service) → service_numbered a.service ≡ Some s → Leaves s a live remains → AreObjects w'.memory 0 (after s remains rs) → (s ≡ Leave → args ≡ a.args) → less (leaving_by (Some s) args) (serials_of live) ++ entering_by (Some s) rs ≡ serials_of (after s remains rs)
    of Leave e same left args_are = leaving_them e same left (args_are refl)
    of Enter e same left args_are = entering same
    of Kzalloc e same left args_are = alike same
    of Kcalloc e same left args_are = alike same
    of Kfree e same left args_are = alike same
    of Readl e same left args_are = alike same
    of Writel e same left args_are = alike same
    of Printk e same left args_are = alike same
    of RequestIrq e same left args_are = alike same
    of FreeIrq e same left args_are = alike same
    of Deliver e same left args_are = alike same
    of Combolock e same left args_are = alike same
    of Combounlock e same left args_are = alike same
    of Bug e same left args_are = alike same
