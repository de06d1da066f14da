-- Births, deaths, accesses and services, with sets in the world and beside it.
use Rattle.std.proofs.Common.{◌≡◌, ℕ, zero, suc, ◌+◌, ◌<◌, ◌≤◌, Bool, true, false, ◌&&◌, ◌||◌, List, [], ◌∷◌, ◌++◌, Option, Some, None, Result, Ok, Err, refl, sym, ◌∙◌, ap, arith}
use Rattle.std.specs.Prelude.{map, nat_lt}
use Rattle.std.specs.List.{list_all}
use Rattle.mdr_core.specs.declared.place.At.{At}
use Rattle.mdr_core.specs.declared.program.Program.{Program}
use Rattle.mdr_core.specs.declared.stop.StopKind.{StopKind}
use Rattle.mdr_core.specs.declared.value.LockState.{LockState}
use Rattle.mdr_core.specs.declared.value.LockState.TheVariants.{Sleep}
use Rattle.mdr_core.specs.Layout.{chosen}
use Rattle.mdr_core.specs.Services.{Service, Kzalloc, Kcalloc, Kfree, Readl, Writel, Printk, RequestIrq, FreeIrq, Deliver, Combolock, Combounlock, Bug, Enter, Leave, service_numbered}
use Rattle.mdr_extents.specs.CellOrder.{cells}
use Rattle.mdr_mem.specs.declared.cells.Life.{Life}
use Rattle.mdr_mem.specs.Contents.{births_in}
use Rattle.mdr_meaning.specs.declared.shape.Shape64.{Shape64}
use Rattle.mdr_meaning.specs.declared.wire.Wire.{Wire}
use Rattle.mdr_meaning.specs.declared.wire.Wire.TheVariants as wire
use Rattle.mdr_meaning.specs.Tree.{Asked}
use Rattle.mdr_meaning.specs.Values.{first_of, natural, rest_of}
use Rattle.mdr_model.specs.declared.memory.Cell.{Cell}
use Rattle.mdr_model.specs.declared.message.BirthKind.{BirthKind}
use Rattle.mdr_model.specs.declared.message.BirthKind.TheVariants.{Auto, Heap}
use Rattle.mdr_model.specs.Memory.{Memory, cell_at, cell_of, everywhere, is_live, loaded, loaded_from, normal, put, reached, reached_by, stored, stored_into, zero_block}
use Rattle.mdr_model.specs.Sets.{cells_from}
use Rattle.mdr_paths.specs.Paths.{is_in}
use Rattle.mdr_plain.specs.Gate.{are_none}
use Rattle.mdr_plain.specs.Locks.{acquire, acquired, changed, lock_in, release, released, taken_as, with_lock}
use Rattle.mdr_plain.specs.Services.{Served, allocated, as_now, as_served, asked_once_more, fails_now, freed, freed_by, gives_none, is_no_block, requested, served, served_by, when_changed}
use Rattle.mdr_plain.specs.Storage.{births, born, bytes_from, cells_read, deaths, died, died_at, new_of, pointer_to, read, remembers, with_block, with_memory, with_pointer, without}
use Rattle.mdr_plain.specs.World.{World, left}
use Rattle.mdr_watched.proofs.KeepLaws.{IsKept, births_keep, deaths_keep, served_keeps}
use Rattle.mdr_watched.specs.Views.{living}
use Rattle.mdr_viewed.specs.Laws.{AccessesAreViewed, AgreeOn, BirthsAreViewed, ServicesAreViewed}
use Rattle.mdr_viewed.specs.Viewed.{AreOlder, HasUpcall, IsOlder, TouchAlike, viewed, viewed_born, viewed_if, viewing}
use Rattle.mdr_watched.proofs.Living.{births_grow, is_living, live_and, living_born, living_killed, living_put}

-- ---- what is kept

-- sets are beside a world in which an upcall is open
pub record IsBeside (sets : List (List Cell)) (w : World) : Type 0 where
  pub upcall : HasUpcall w
  pub older : AreOlder sets w
  pub some : are_none sets ≡ false

none_mapped : (serial : ℕ) (views : List (List Cell)) → are_none views ≡ false → are_none (map (without serial) views) ≡ false
none_mapped serial [] e = e
none_mapped serial (set ∷ sets) e = e

pub none_living : (m : Memory) (sets : List (List Cell)) → are_none sets ≡ false → are_none (map (living m) sets) ≡ false
none_living m [] e = e
none_living m (set ∷ sets) e = e

still_older : (lives : List Life) (l : Life) (set : List Cell) → ((c : Cell) → is_in cells set c ≡ true → c.serial < births_in lives) → (c : Cell) → is_in cells set c ≡ true → c.serial < births_in (lives ++ l ∷ [])
still_older lives l set older c h = let less : c.serial < births_in lives = older c h in let more : births_in lives ≤ births_in (lives ++ l ∷ []) = births_grow lives l in omega (arith, less, more)

set_kept : (set : List Cell) → IsKept (IsOlder set)
unfolding born died
set_kept set = record {
  put = λ w c v e. e;
  keeping = λ w k e. e;
  device = λ w d e. e;
  tick = λ w e. e;
  birth = λ program kind s w e. still_older w.lives _ set e;
  death = λ w serial e. still_older w.lives _ set e;
}

nothing_kept : IsKept (AreOlder [])
nothing_kept = record {
  put = λ w c v e. tt;
  keeping = λ w k e. tt;
  device = λ w d e. tt;
  tick = λ w e. tt;
  birth = λ program kind s w e. tt;
  death = λ w serial e. tt;
}

both_kept : (set : List Cell) (sets : List (List Cell)) → IsKept (IsOlder set) → IsKept (AreOlder sets) → IsKept (AreOlder (set ∷ sets))
both_kept set sets o r = record {
  put = λ w c v e. (o.put w c v e.0, r.put w c v e.1);
  keeping = λ w k e. (o.keeping w k e.0, r.keeping w k e.1);
  device = λ w d e. (o.device w d e.0, r.device w d e.1);
  tick = λ w e. (o.tick w e.0, r.tick w e.1);
  birth = λ program kind s w e. (o.birth program kind s w e.0, r.birth program kind s w e.1);
  death = λ w serial e. (o.death w serial e.0, r.death w serial e.1);
}

pub older_kept : (sets : List (List Cell)) → IsKept (AreOlder sets)
older_kept [] = nothing_kept
older_kept (set ∷ sets) = both_kept set sets (set_kept set) (older_kept sets)

pub upcall_kept : IsKept HasUpcall
unfolding born died
upcall_kept = record {
  put = λ w c v e. e;
  keeping = λ w k e. e;
  device = λ w d e. e;
  tick = λ w e. e;
  birth = λ program kind s w e. e;
  death = λ w serial e. none_mapped serial w.views e;
}

pub beside_kept : (sets : List (List Cell)) → IsKept (IsBeside sets)
beside_kept sets =
    let o : IsKept (AreOlder sets) = older_kept sets in
    let u : IsKept HasUpcall = upcall_kept in
    record {
      put = λ w c v e. record { upcall = u.put w c v e.upcall; older = o.put w c v e.older; some = e.some };
      keeping = λ w k e. record { upcall = u.keeping w k e.upcall; older = o.keeping w k e.older; some = e.some };
      device = λ w d e. record { upcall = u.device w d e.upcall; older = o.device w d e.older; some = e.some };
      tick = λ w e. record { upcall = u.tick w e.upcall; older = o.tick w e.older; some = e.some };
      birth = λ program kind s w e. record { upcall = u.birth program kind s w e.upcall; older = o.birth program kind s w e.older; some = e.some };
      death = λ w serial e. record { upcall = u.death w serial e.upcall; older = o.death w serial e.older; some = e.some };
    }

-- ---- the sets in a world with another memory

-- the world with the same living cells
same_views : (sets : List (List Cell)) (w : World) (m : Memory) → map (living m) sets ≡ map (living w.memory) sets → with_memory (viewed sets w) m ≡ viewed sets (with_memory w m)
same_views sets w m e = λ i. record w { memory = m; views = sym e i }

put_all : (sets : List (List Cell)) (m : Memory) (c : Cell) (v : Wire) → map (living (put m c v)) sets ≡ map (living m) sets
put_all [] m c v = refl
put_all (set ∷ sets) m c v = λ i. living_put m c v set i ∷ put_all sets m c v i

pub put_viewed : (sets : List (List Cell)) (w : World) (c : Cell) (v : Wire) → with_memory (viewed sets w) (put w.memory c v) ≡ viewed sets (with_memory w (put w.memory c v))
put_viewed sets w c v = same_views sets w (put w.memory c v) (put_all sets w.memory c v)

-- ---- births and deaths

born_all : (program : Program) (kind : BirthKind) (s : Shape64) (sets : List (List Cell)) (w : World) → AreOlder sets w
    → map (living (w.memory ++ zero_block program (new_of kind s w) ∷ [])) sets ≡ map (living w.memory) sets
born_all program kind s [] w older = refl
born_all program kind s (set ∷ sets) w older = λ i. living_born w.memory (zero_block program (new_of kind s w)) set older.0 i ∷ born_all program kind s sets w older.1 i

born_viewed : (program : Program) (kind : BirthKind) (s : Shape64) (sets : List (List Cell)) (w : World) → AreOlder sets w
    → born program (new_of kind s (viewed sets w)) (viewed sets w) ≡ viewed sets (born program (new_of kind s w) w)
unfolding born
born_viewed program kind s sets w older = λ i. record (with_block (zero_block program (new_of kind s w)) w) { views = sym (born_all program kind s sets w older) i }

pub births_viewed : (program : Program) (kind : BirthKind) (shapes : List Shape64) (sets : List (List Cell)) (w : World) → AreOlder sets w → births program kind shapes (viewed sets w) ≡ viewed_born sets (births program kind shapes w)
unfolding births
births_viewed program kind [] sets w older = refl
births_viewed program kind (s ∷ shapes) sets w older =
    ap (λ x. with_pointer (pointer_to (new_of kind s w)) (births program kind shapes x)) (born_viewed program kind s sets w older)
    ∙ ap (with_pointer (pointer_to (new_of kind s w))) (births_viewed program kind shapes sets (born program (new_of kind s w) w) ((older_kept sets).birth program kind s w older))

killed_all : (serial : ℕ) (sets : List (List Cell)) (w : World) → map (living (died serial w).memory) sets ≡ map (without serial) (map (living w.memory) sets)
unfolding died
killed_all serial [] w = refl
killed_all serial (set ∷ sets) w = λ i. living_killed serial w.memory set i ∷ killed_all serial sets w i

pub died_viewed : (serial : ℕ) (sets : List (List Cell)) (w : World) → died serial (viewed sets w) ≡ viewed sets (died serial w)
unfolding died
died_viewed serial sets w = λ i. record (died serial w) { views = sym (killed_all serial sets w) i }

died_at_viewed : (p : Wire) (sets : List (List Cell)) (w : World) → died_at p (viewed sets w) ≡ viewed sets (died_at p w)
died_at_viewed (wire.Ptr p) sets w = died_viewed p.serial sets w
died_at_viewed (wire.Int k n) sets w = refl
died_at_viewed wire.Null sets w = refl
died_at_viewed wire.Dead sets w = refl
died_at_viewed (wire.Fn f) sets w = refl
died_at_viewed (wire.Lock s) sets w = refl
died_at_viewed wire.NoValue sets w = refl

pub deaths_viewed : (ps : List Wire) (sets : List (List Cell)) (w : World) → deaths ps (viewed sets w) ≡ viewed sets (deaths ps w)
deaths_viewed [] sets w = refl
deaths_viewed (p ∷ ps) sets w = ap (deaths ps) (died_at_viewed p sets w) ∙ deaths_viewed ps sets (died_at p w)

pub births_are_viewed : BirthsAreViewed
births_are_viewed = record {
  born = births_viewed;
  older_born = λ program kind shapes sets w older. births_keep (AreOlder sets) (older_kept sets) program kind shapes w older;
  died = deaths_viewed;
  older_died = λ ps sets w older. deaths_keep (AreOlder sets) (older_kept sets) ps w older;
  upcall_born = λ program kind shapes w e. births_keep HasUpcall upcall_kept program kind shapes w e;
  upcall_died = λ ps w e. deaths_keep HasUpcall upcall_kept ps w e;
}

-- ---- accesses

reached_alike : (alive inside a b : Bool) (c : Cell) → (alive ≡ true → a ≡ b) → reached_by alive inside a c ≡ reached_by alive inside b c
reached_alike false inside a b c h = refl
reached_alike true inside a b c h = ap (λ t. reached_by true inside t c) (h refl)

all_alike : (p q : Cell → Bool) (serial index n : ℕ) → ((c : Cell) → c.serial ≡ serial → p c ≡ q c) → list_all p (cells_from serial index n) ≡ list_all q (cells_from serial index n)
unfolding cells_from
all_alike p q serial index zero h = refl
all_alike p q serial index (suc n) h =
    let first : p (record { serial = serial; index = index }) ≡ q (record { serial = serial; index = index }) = h (record { serial = serial; index = index }) refl in
    let rest : list_all p (cells_from serial (suc index) n) ≡ list_all q (cells_from serial (suc index) n) = all_alike p q serial (suc index) n h in
    λ i. first i && rest i

module _ (a b : Cell → Bool) (m : Memory) (alike : (c : Cell) → is_live m c.serial ≡ true → a c ≡ b c) where
  reached_same : (p : Wire) → reached a m p ≡ reached b m p
  unfolding reached
  reached_same (wire.Ptr p) = reached_alike (is_live m p.serial) _ (a (cell_of p)) (b (cell_of p)) (cell_of p) (alike (cell_of p))
  reached_same (wire.Int k n) = refl
  reached_same wire.Null = refl
  reached_same wire.Dead = refl
  reached_same (wire.Fn f) = refl
  reached_same (wire.Lock s) = refl
  reached_same wire.NoValue = refl

  read_same : (p : Wire) (n : ℕ) → read a m p n ≡ read b m p n
  unfolding read
  read_same (wire.Ptr p) n =
      ap (bytes_from m (cells_read p n)) (reached_alike (is_live m p.serial) _ _ _ (cell_of p)
      (λ live. all_alike a b p.serial (p.first + p.index) n (λ c e. alike c (ap (is_live m) e ∙ live))))
  read_same (wire.Int k i) n = refl
  read_same wire.Null n = refl
  read_same wire.Dead n = refl
  read_same (wire.Fn f) n = refl
  read_same (wire.Lock s) n = refl
  read_same wire.NoValue n = refl

stored_viewed : (sets : List (List Cell)) (w : World) (v : Wire) (r : Result Cell StopKind) → remembers (viewed sets w) (stored_into w.memory v r) ≡ viewed_if sets (remembers w (stored_into w.memory v r))
stored_viewed sets w v (Ok c) = ap (λ (x : World). Ok x) (put_viewed sets w c (normal w.memory v))
stored_viewed sets w v (Err kind) = refl

agree_on : (program : Program) (sets : List (List Cell)) (inside beside : World → Cell → Bool) → TouchAlike sets inside beside → (w : World) → AgreeOn program sets inside beside w
unfolding loaded stored
agree_on program sets inside beside alike w = record {
  load = λ p. ap (loaded_from w.memory) (reached_same (inside (viewed sets w)) (beside w) w.memory (alike w) p);
  store = λ p v. ap (λ r. remembers (viewed sets w) (stored_into w.memory v r)) (reached_same (inside (viewed sets w)) (beside w) w.memory (alike w) p) ∙ stored_viewed sets w v _;
  read = λ p n. read_same (inside (viewed sets w)) (beside w) w.memory (alike w) p n;
  fresh = λ v. refl;
}

pub accesses_are_viewed : AccessesAreViewed
accesses_are_viewed = record {
  agree = agree_on;
  user = λ set outer w c live. is_living w.memory set c ∙ live_and (is_live w.memory c.serial) (is_in cells set c) live;
  kernel = λ sets w c live. refl;
}

-- ---- services

pick : (sets : List (List Cell)) (x x' y y' : Served) (b : Bool) → x' ≡ viewing sets x → y' ≡ viewing sets y → chosen b x' y' ≡ viewing sets (chosen b x y)
pick sets x x' y y' true h g = h
pick sets x x' y y' false h g = g

allocated_viewed : (program : Program) (shapes : List Shape64) (sets : List (List Cell)) (w : World) → AreOlder sets w → allocated program shapes (viewed sets w) ≡ viewing sets (allocated program shapes w)
allocated_viewed program [] sets w older = refl
allocated_viewed program (s ∷ shapes) sets w older = pick sets _ _ _ _ (fails_now w || is_no_block program s) refl (ap as_served (births_viewed program Heap (s ∷ []) sets w older))

freed_by_viewed : (whole locked : Bool) (serial : ℕ) (at : At) (sets : List (List Cell)) (w : World) → freed_by whole locked serial at (viewed sets w) ≡ viewing sets (freed_by whole locked serial at w)
freed_by_viewed false locked serial at sets w = refl
freed_by_viewed true true serial at sets w = refl
freed_by_viewed true false serial at sets w = ap gives_none (died_viewed serial sets w)

freed_viewed : (program : Program) (at : At) (p : Wire) (sets : List (List Cell)) (w : World) → freed program at p (viewed sets w) ≡ viewing sets (freed program at p w)
freed_viewed program at (wire.Ptr v) sets w = freed_by_viewed _ _ v.serial at sets w
freed_viewed program at (wire.Int k n) sets w = refl
freed_viewed program at wire.Null sets w = refl
freed_viewed program at wire.Dead sets w = refl
freed_viewed program at (wire.Fn f) sets w = refl
freed_viewed program at (wire.Lock s) sets w = refl
freed_viewed program at wire.NoValue sets w = refl

requested_viewed : (h : Option ℕ) (v : Wire) (sets : List (List Cell)) (w : World) → requested h v (viewed sets w) ≡ viewing sets (requested h v w)
requested_viewed None v sets w = refl
requested_viewed (Some f) v sets w = refl

locked_viewed : (c : Cell) (r : Result LockState StopKind) (at : At) (sets : List (List Cell)) (w : World) → when_changed (with_lock w.memory c r) at (viewed sets w) ≡ viewing sets (when_changed (with_lock w.memory c r) at w)
locked_viewed c (Ok s) at sets w = ap gives_none (put_viewed sets w c (wire.Lock s))
locked_viewed c (Err kind) at sets w = refl

changed_viewed : (change : LockState → Result LockState StopKind) (r : Result Cell StopKind) (at : At) (sets : List (List Cell)) (w : World)
    → when_changed (changed change w.memory r) at (viewed sets w) ≡ viewing sets (when_changed (changed change w.memory r) at w)
changed_viewed change (Ok c) at sets w = locked_viewed c (change (lock_in (cell_at w.memory c))) at sets w
changed_viewed change (Err kind) at sets w = refl

-- while an upcall is open a lock sleeps
sleeps : (views : List (List Cell)) → are_none views ≡ false → taken_as views ≡ Sleep
sleeps [] e = absurd cc
sleeps (set ∷ sets) e = refl

acquired_viewed : (p : Wire) (at : At) (sets : List (List Cell)) (w : World) → IsBeside sets w → when_changed (acquire p (viewed sets w)) at (viewed sets w) ≡ viewing sets (when_changed (acquire p w) at w)
unfolding acquire
acquired_viewed p at sets w b =
    ap (λ s. when_changed (changed (acquired s) w.memory (reached everywhere w.memory p)) at (viewed sets w)) (sleeps (map (living w.memory) sets) (none_living w.memory sets b.some) ∙ sym (sleeps w.views b.upcall))
    ∙ changed_viewed (acquired (taken_as w.views)) (reached everywhere w.memory p) at sets w

released_viewed : (p : Wire) (at : At) (sets : List (List Cell)) (w : World) → when_changed (release p (viewed sets w)) at (viewed sets w) ≡ viewing sets (when_changed (release p w) at w)
unfolding release
released_viewed p at sets w = changed_viewed released (reached everywhere w.memory p) at sets w

served_by_viewed : (program : Program) (a : Asked) (s : Option Service) (sets : List (List Cell)) (w : World) → IsBeside sets w → served_by program a s (viewed sets w) ≡ viewing sets (served_by program a s w)
served_by_viewed program a (Some Kzalloc) sets w b = allocated_viewed program a.shapes sets (asked_once_more w) b.older
served_by_viewed program a (Some Kcalloc) sets w b = allocated_viewed program a.shapes sets (asked_once_more w) b.older
served_by_viewed program a (Some Kfree) sets w b = freed_viewed program a.at (first_of a.args) sets w
served_by_viewed program a (Some Readl) sets w b = pick sets _ _ _ _ (nat_lt (natural (first_of a.args)) 4096) refl refl
served_by_viewed program a (Some Writel) sets w b = pick sets _ _ _ _ (nat_lt (natural (first_of (rest_of a.args))) 4096) refl refl
served_by_viewed program a (Some Printk) sets w b = refl
served_by_viewed program a (Some RequestIrq) sets w b = requested_viewed w.kept.handler (first_of a.args) sets w
served_by_viewed program a (Some FreeIrq) sets w b = refl
served_by_viewed program a (Some Deliver) sets w b = refl
served_by_viewed program a (Some Combolock) sets w b = acquired_viewed (first_of a.args) a.at sets w b
served_by_viewed program a (Some Combounlock) sets w b = released_viewed (first_of a.args) a.at sets w
served_by_viewed program a (Some Bug) sets w b = refl
served_by_viewed program a (Some Enter) sets w b = ap as_served (births_viewed program Auto a.shapes sets w b.older)
served_by_viewed program a (Some Leave) sets w b = ap gives_none (deaths_viewed a.args sets w)
served_by_viewed program a None sets w b = refl

pub served_viewed : (program : Program) (a : Asked) (sets : List (List Cell)) (w : World) → IsBeside sets w → served program a (viewed sets w) ≡ viewing sets (served program a w)
unfolding served
served_viewed program a sets w b = served_by_viewed program (as_now w a) (service_numbered a.service) sets w b

pub served_beside : (program : Program) (a : Asked) (sets : List (List Cell)) (w : World) → IsBeside sets w → IsBeside sets (left (served program a w))
served_beside program a sets w b = (served_keeps (IsBeside sets) (beside_kept sets) program a w b).at_end

pub services_are_viewed : ServicesAreViewed
services_are_viewed program a set outer w e older =
    let b : IsBeside (set ∷ outer) w = record { upcall = e; older = older; some = refl } in
    let x = served_beside program a (set ∷ outer) w b in
    record { is = served_viewed program a (set ∷ outer) w b; older = x.older; upcall = x.upcall }
