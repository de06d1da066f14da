-- Slots of the rich run and of the lowered one: the source's are the same, and a new one stays until it is used.
use Rattle.std.proofs.Common.{◌≡◌, ℕ, zero, suc, ◌+◌, ◌<◌, ◌≤◌, List, [], ◌∷◌, ◌++◌, length, map, Some, slice_get, slice_set, refl, ap, sym, ◌∙◌, arith}
use mathlib.Core.Path.{fun_ext}
use Rattle.mdr_core.specs.declared.place.At.{At}
use Rattle.mdr_core.specs.declared.program.Local.{Local}
use Rattle.mdr_core.specs.declared.types.Ty.{Ty}
use Rattle.mdr_core.specs.Typing.{Slot, slot_of_local}
use Rattle.mdr_meaning.specs.declared.wire.Wire.{Wire}
use Rattle.mdr_meaning.specs.Expressions.{slot_of}
use Rattle.mdr_meaning.specs.Sides.{Flow, Locals, Next, framed}
use Rattle.mdr_meaning.specs.Tree.{Tree}
use Rattle.mdr_lower.specs.Lowering.{new_slot, with_slot}
use Rattle.mdr_lower.specs.declared.work.Work.{Work}
use Rattle.mdr_rich_sources.specs.Waiting.{Ready}

-- ---- lists

pub get_here : (s : List Wire) (i : ℕ) (v : Wire) → i < length s → slot_of (slice_set s i v) i ≡ v
unfolding slot_of
get_here [] i v less = absurd (omega (arith, less))
get_here (x ∷ s) zero v less = refl
get_here (x ∷ s) (suc i) v less = get_here s i v (omega (arith, less))

pub get_other : (s : List Wire) (i j : ℕ) (v : Wire) → (i ≡ j → ⊥) → slot_of (slice_set s i v) j ≡ slot_of s j
unfolding slot_of
get_other [] i j v other = refl
get_other (x ∷ s) zero zero v other = absurd (other refl)
get_other (x ∷ s) zero (suc j) v other = refl
get_other (x ∷ s) (suc i) zero v other = refl
get_other (x ∷ s) (suc i) (suc j) v other = get_other s i j v (λ e. other (ap suc e))

pub get_both : (t u : List Wire) (i j : ℕ) (v : Wire) → i < length t → i < length u → slot_of t j ≡ slot_of u j → slot_of (slice_set t i v) j ≡ slot_of (slice_set u i v) j
unfolding slot_of
get_both [] u i j v less less1 e = absurd (omega (arith, less))
get_both (x ∷ t) [] i j v less less1 e = absurd (omega (arith, less1))
get_both (x ∷ t) (y ∷ u) zero zero v less less1 e = refl
get_both (x ∷ t) (y ∷ u) zero (suc j) v less less1 e = e
get_both (x ∷ t) (y ∷ u) (suc i) zero v less less1 e = e
get_both (x ∷ t) (y ∷ u) (suc i) (suc j) v less less1 e = get_both t u i j v (omega (arith, less)) (omega (arith, less1)) e

pub length_set : (s : List Wire) (i : ℕ) (v : Wire) → length (slice_set s i v) ≡ length s
length_set [] i v = refl
length_set (x ∷ s) zero v = refl
length_set (x ∷ s) (suc i) v = ap suc (length_set s i v)

-- ---- a frame with new slots behind it

pub framed_same : (ss new : List Slot) (vs : List Wire) (i : ℕ) → i < length ss → slot_of (framed ss vs) i ≡ slot_of (framed (ss ++ new) vs) i
unfolding slot_of
framed_same [] new vs i less = absurd (omega (arith, less))
framed_same (s ∷ ss) new [] zero less = refl
framed_same (s ∷ ss) new [] (suc i) less = framed_same ss new [] i (omega (arith, less))
framed_same (s ∷ ss) new (v ∷ vs) zero less = refl
framed_same (s ∷ ss) new (v ∷ vs) (suc i) less = framed_same ss new vs i (omega (arith, less))

pub framed_room : (ss : List Slot) (vs : List Wire) → length ss ≤ length (framed ss vs)
framed_room [] vs = omega arith
framed_room (s ∷ ss) [] = let h : length ss ≤ length (framed ss []) = framed_room ss [] in omega (arith, h)
framed_room (s ∷ ss) (v ∷ vs) = let h : length ss ≤ length (framed ss vs) = framed_room ss vs in omega (arith, h)

pub get_front : {A : Type 0} (xs ys : List A) (i : ℕ) → i < length xs → slice_get xs i ≡ slice_get (xs ++ ys) i
get_front [] ys i less = absurd (omega (arith, less))
get_front (x ∷ xs) ys zero less = refl
get_front (x ∷ xs) ys (suc i) less = get_front xs ys i (omega (arith, less))

-- what is there stands before the end
pub get_less : {A : Type 0} (xs : List A) (i : ℕ) (x : A) → slice_get xs i ≡ Some x → i < length xs
get_less [] i x e = absurd cc
get_less (y ∷ xs) zero x e = omega arith
get_less (y ∷ xs) (suc i) x e = let h : i < length xs = get_less xs i x e in omega (arith, h)

pub one_more : {A : Type 0} (xs : List A) (x : A) → length (xs ++ x ∷ []) ≡ length xs + 1
one_more [] x = refl
one_more (y ∷ ys) x = let e : length (ys ++ x ∷ []) ≡ length ys + 1 = one_more ys x in omega (arith, e)

-- ---- new slots that stand one after the other

abbrev pub Fit : List Slot → ℕ → List Local → Type 0
Fit all k [] = Unit {0}
Fit all k (l ∷ ls) = (slice_get all k ≡ Some (slot_of_local l)) × Fit all (suc k) ls

pub fit_front : (all : List Slot) (k : ℕ) (ls : List Local) (l : Local) → Fit all k (ls ++ l ∷ []) → Fit all k ls
fit_front all k [] l f = tt
fit_front all k (x ∷ xs) l f = (f.0, fit_front all (suc k) xs l f.1)

pub fit_last : (all : List Slot) (k : ℕ) (ls : List Local) (l : Local) → Fit all k (ls ++ l ∷ []) → slice_get all (k + length ls) ≡ Some (slot_of_local l)
fit_last all k [] l f = let e : k + 0 ≡ k = omega arith in ap (slice_get all) e ∙ f.0
fit_last all k (x ∷ xs) l f = let e : k + suc (length xs) ≡ suc k + length xs = omega arith in ap (slice_get all) e ∙ fit_last all (suc k) xs l f.1

fit_under : (s : Slot) (all : List Slot) (k : ℕ) (ls : List Local) → Fit all k ls → Fit (s ∷ all) (suc k) ls
fit_under s all k [] f = tt
fit_under s all k (l ∷ ls) f = (f.0, fit_under s all (suc k) ls f.1)

fit_self : (ls : List Local) → Fit (map slot_of_local ls) 0 ls
fit_self [] = tt
fit_self (l ∷ ls) = (refl, fit_under (slot_of_local l) (map slot_of_local ls) 0 ls (fit_self ls))

pub fit_behind : (front : List Slot) (ls : List Local) → Fit (front ++ map slot_of_local ls) (length front) ls
fit_behind [] ls = fit_self ls
fit_behind (s ∷ ss) ls = fit_under s (ss ++ map slot_of_local ls) (length ss) ls (fit_behind ss ls)

-- ---- the relations: N slots of the source, and all slots of the lowered function

abbrev pub with : List Wire → (born : List Wire) → Locals
with s born = record { slots = s; born = born }

module _ (N : ℕ) (all : List Slot) where
  pub record Sees (t u : List Wire) : Type 0 where
    pub same : (i : ℕ) → i < N → slot_of t i ≡ slot_of u i
    pub room : N ≤ length t
    pub rooms : length all ≤ length u

  -- the new slots below c are the same
  pub record Near (c : ℕ) (u u1 : List Wire) : Type 0 where
    pub by : (i : ℕ) → N ≤ i → i < c → slot_of u i ≡ slot_of u1 i

  -- r is what the residual e gives, as long as the new slots below c stay
  pub record IsReady (A : Type 0) (c : ℕ) (u : List Wire) (r e : Ready A) : Type 0 where
    pub by : (at : At) (t u1 : List Wire) → Sees t u1 → Near c u u1 → (k : A → Tree) → r at t k ≡ e at u1 k

  -- what comes next sees no new slot
  pub record AreNext (k K : Next) : Type 0 where
    pub by : (flow : Flow) (t u born : List Wire) → Sees t u → k flow (with t born) ≡ K flow (with u born)

  pub near_refl : (c : ℕ) (u : List Wire) → Near c u u
  near_refl c u = record { by = λ i source less. refl }

  pub near_then : {c : ℕ} {u u1 u2 : List Wire} → Near c u u1 → Near c u1 u2 → Near c u u2
  near_then near near1 = record { by = λ i source less. near.by i source less ∙ near1.by i source less }

  pub near_fewer : {c d : ℕ} {u u1 : List Wire} → c ≤ d → Near d u u1 → Near c u u1
  near_fewer fewer near = record { by = λ i source less. near.by i source (omega (arith, fewer, less)) }

  -- a slot from c on is set
  pub near_new : (c i : ℕ) (u : List Wire) (v : Wire) → c ≤ i → Near c u (slice_set u i v)
  near_new c i u v new = record { by = λ j source less. sym (get_other u i j v (λ e. omega (arith, e, new, less))) }

  pub near_source : (c i : ℕ) (u : List Wire) (v : Wire) → i < N → Near c u (slice_set u i v)
  near_source c i u v named = record { by = λ j source less. sym (get_other u i j v (λ e. omega (arith, e, named, source))) }

  pub sees_new : {t u : List Wire} (i : ℕ) (v : Wire) → N ≤ i → Sees t u → Sees t (slice_set u i v)
  sees_new {t = t} {u = u} i v new sees = record {
    same = λ j less. sees.same j less ∙ sym (get_other u i j v (λ e. omega (arith, e, new, less)));
    room = sees.room;
    rooms = let e : length (slice_set u i v) ≡ length u = length_set u i v in omega (arith, e, sees.rooms);
  }

  pub sees_source : {t u : List Wire} (i : ℕ) (v : Wire) → N ≤ length all → i < N → Sees t u → Sees (slice_set t i v) (slice_set u i v)
  sees_source {t = t} {u = u} i v fits named sees = record {
    same = λ j less. get_both t u i j v (omega (arith, named, sees.room)) (omega (arith, named, fits, sees.rooms)) (sees.same j less);
    room = let e : length (slice_set t i v) ≡ length t = length_set t i v in omega (arith, e, sees.room);
    rooms = let e : length (slice_set u i v) ≡ length u = length_set u i v in omega (arith, e, sees.rooms);
  }

  pub ready_later : {A : Type 0} {c d : ℕ} {u u1 : List Wire} {r e : Ready A} → c ≤ d → Near c u u1 → IsReady A c u r e → IsReady A d u1 r e
  ready_later fewer near ready = record { by = λ at t u2 sees near1. ready.by at t u2 sees (near_then near (near_fewer fewer near1)) }

  -- with what comes next
  pub answered : {A : Type 0} {c : ℕ} {u : List Wire} {r e : Ready A} → IsReady A c u r e → (at : At) (t : List Wire) → Sees t u → (k K : A → Tree) → ((x : A) → k x ≡ K x) → r at t k ≡ e at u K
  answered {u = u} {e = e} ready at t sees k K h = ready.by at t u sees (near_refl _ u) k ∙ ap (e at u) (fun_ext h)

  -- ---- work and its slots, of which the first new one is N

  abbrev pub Fits : Work → Type 0
  Fits w = Fit all N w.slots

  abbrev pub IsCounted : Work → Type 0
  IsCounted w = N + length w.slots ≡ w.next

  pub slot_back : (t : Ty) (w : Work) → Fits (with_slot t w) → Fits w
  slot_back t w f = fit_front all N w.slots (new_slot t) f

  pub slot_counted : (t : Ty) (w : Work) → IsCounted w → IsCounted (with_slot t w)
  slot_counted t w c = let e : length (w.slots ++ new_slot t ∷ []) ≡ length w.slots + 1 = one_more w.slots (new_slot t) in omega (arith, c, e)

  pub slot_before : (t : Ty) (w : Work) → IsCounted (with_slot t w) → IsCounted w
  slot_before t w c = let e : length (w.slots ++ new_slot t ∷ []) ≡ length w.slots + 1 = one_more w.slots (new_slot t) in omega (arith, c, e)

  -- a new slot of the type stands there
  pub slot_stands : (t : Ty) (w : Work) → IsCounted w → Fits (with_slot t w) → slice_get all w.next ≡ Some (slot_of_local (new_slot t))
  slot_stands t w c f = ap (slice_get all) (sym c) ∙ fit_last all N w.slots (new_slot t) f

  pub slot_less : (t : Ty) (w : Work) → IsCounted w → Fits (with_slot t w) → w.next < length all
  slot_less t w c f = get_less all w.next (slot_of_local (new_slot t)) (slot_stands t w c f)

  pub slot_after : (w : Work) → IsCounted w → N ≤ w.next
  slot_after w c = omega (arith, c)
