-- Pointers to objects of locals: those that die at a question are named once each among those that live, and stay as they are when they are sent.
use Rattle.std.proofs.Common.{◌≡◌, ℕ, suc, ◌<◌, ◌≤◌, Bool, true, false, cond, not, ◌&&◌, ◌||◌, ◌==◌, List, [], ◌∷◌, ◌++◌, map, Option, Some, refl, sym, ap, ◌∙◌, subst, arith, eq-eqb, eqb-true}
use Rattle.std.specs.Prelude.{is_some}
use Rattle.std.specs.List.{list_all, list_any}
use Rattle.std.proofs.lemmas.List.{append-nil}
use Rattle.mdr_core.specs.declared.program.Program.{Program}
use Rattle.mdr_core.specs.declared.types.Shape.{Shape}
use Rattle.mdr_core.specs.Services.{Service, Kzalloc, Kcalloc, Kfree, Readl, Writel, Printk, RequestIrq, FreeIrq, Deliver, Combolock, Combounlock, Bug, Enter, Leave, service_numbered}
use Rattle.mdr_meaning.specs.declared.wire.Wire.{Wire}
use Rattle.mdr_meaning.specs.declared.wire.Wire.TheVariants as wire
use Rattle.mdr_meaning.specs.Fair.{AreKnown, IsKnown, Leaves, after}
use Rattle.mdr_meaning.specs.Fit.{Knowledge}
use Rattle.mdr_meaning.specs.Tree.{Asked}
use Rattle.mdr_model.specs.declared.message.New.{New}
use Rattle.mdr_model.specs.Agreement.{has}
use Rattle.mdr_model.specs.Memory.{Memory, born_at, is_live, normal, normal_if}
use Rattle.mdr_model.proofs.Tests.{and_both, not_both}
use Rattle.mdr_plain.specs.Storage.{pointer_to}
use Rattle.mdr_split.specs.Services.{are_different, entered_after, entering_by, leaving, leaving_by, less, names_object, serials_of}

-- a pointer to a block as a whole, which lives, with this serial or a later one
pub record IsWhole (m : Memory) (from : ℕ) (v : Wire) : Type 0 where
  pub block : New
  pub is : v ≡ pointer_to block
  pub live : born_at m block.serial ≡ Some block
  pub later : from ≤ block.serial

-- such pointers, in the order of births
abbrev pub AreWhole : Memory → (from : ℕ) → List Wire → Type 0
AreWhole m from [] = Unit {0}
AreWhole m from (v ∷ vs) = (o : IsWhole m from v) × AreWhole m (suc o.block.serial) vs

-- what is known and lives in the one memory lives in the other
abbrev pub LivesToo : Knowledge → (w m : Memory) → Type 0
LivesToo K w m = (serial : ℕ) (shape : Shape) → K.blocks serial ≡ Some shape → is_live w serial ≡ true → is_live m serial ≡ true

-- ---- lists of serials

pub serials_first : (v : Wire) (vs : List Wire) (block : New) → v ≡ pointer_to block → serials_of (v ∷ vs) ≡ block.serial ∷ serials_of vs
serials_first v vs block is = ap (λ (x : Wire). serials_of (x ∷ vs)) is

pub serials_append : (xs ys : List Wire) → serials_of (xs ++ ys) ≡ serials_of xs ++ serials_of ys
serials_append [] ys = refl
serials_append (wire.Ptr v ∷ xs) ys = ap (λ (ns : List ℕ). v.serial ∷ ns) (serials_append xs ys)
serials_append (wire.Int k n ∷ xs) ys = serials_append xs ys
serials_append (wire.Null ∷ xs) ys = serials_append xs ys
serials_append (wire.Dead ∷ xs) ys = serials_append xs ys
serials_append (wire.Fn f ∷ xs) ys = serials_append xs ys
serials_append (wire.Lock s ∷ xs) ys = serials_append xs ys
serials_append (wire.NoValue ∷ xs) ys = serials_append xs ys

pub has_first : (n : ℕ) (ns : List ℕ) (k : ℕ) → n ≡ k → has (n ∷ ns) k ≡ true
unfolding has
has_first n ns k e = ap (λ (b : Bool). b || list_any (λ s. s == k) ns) (eq-eqb n k e)

pub has_rest : (n : ℕ) (ns : List ℕ) (k : ℕ) → has ns k ≡ true → has (n ∷ ns) k ≡ true
unfolding has
has_rest n ns k e = ap (λ (b : Bool). n == k || b) e ∙ or_true (n == k)
  where
    or_true : (b : Bool) → (b || true) ≡ true
    or_true true = refl
    or_true false = refl

-- a number of a list is the first or one of the rest
pub has_cases : (P : Type 0) (n : ℕ) (ns : List ℕ) (k : ℕ) → (n ≡ k → P) → (has ns k ≡ true → P) → has (n ∷ ns) k ≡ true → P
unfolding has
has_cases P n ns k first rest e = of (n == k) refl e
  where
    of : (b : Bool) → (n == k) ≡ b → (b || list_any (λ s. s == k) ns) ≡ true → P
    of true q h = first (eqb-true n k q)
    of false q h = rest h

has_behind : (xs ys : List ℕ) (k : ℕ) → has ys k ≡ true → has (xs ++ ys) k ≡ true
has_behind [] ys k h = h
has_behind (x ∷ xs) ys k h = has_rest x (xs ++ ys) k (has_behind xs ys k h)

pub has_none : (k : ℕ) → has [] k ≡ false
unfolding has
has_none k = refl

not_had : (b : Bool) → (b ≡ true → ⊥) → b ≡ false
not_had true h = absurd (h refl)
not_had false h = refl

-- ---- what is left

less_step : (gone : List ℕ) (n : ℕ) (ns : List ℕ) (b : Bool) → has gone n ≡ b → less gone (n ∷ ns) ≡ cond (not b) (n ∷ less gone ns) (less gone ns)
less_step gone n ns b e = ap (λ (x : Bool). cond (not x) (n ∷ less gone ns) (less gone ns)) e

less_nothing : (ns : List ℕ) → less [] ns ≡ ns
less_nothing [] = refl
less_nothing (n ∷ ns) = less_step [] n ns false (has_none n) ∙ ap (λ (xs : List ℕ). n ∷ xs) (less_nothing ns)

less_all : (gone ns : List ℕ) → ((n : ℕ) → has ns n ≡ true → has gone n ≡ true) → less gone ns ≡ []
less_all gone [] all = refl
less_all gone (n ∷ ns) all = less_step gone n ns true (all n (has_first n ns n refl)) ∙ less_all gone ns (λ k h. all k (has_rest n ns k h))

less_behind : (gone xs ys : List ℕ) → ((n : ℕ) → has xs n ≡ true → has gone n ≡ false) → ((n : ℕ) → has ys n ≡ true → has gone n ≡ true) → less gone (xs ++ ys) ≡ xs
less_behind gone [] ys apart all = less_all gone ys all
less_behind gone (x ∷ xs) ys apart all =
    less_step gone x (xs ++ ys) false (apart x (has_first x xs x refl)) ∙ ap (λ (ns : List ℕ). x ∷ ns) (less_behind gone xs ys (λ n h. apart n (has_rest x xs n h)) all)

-- ---- serials rise

low : (m : Memory) (from : ℕ) (vs : List Wire) → AreWhole m from vs → (n : ℕ) → has (serials_of vs) n ≡ true → from ≤ n
low m from [] whole n h = absurd (not_both h (has_none n))
low m from (v ∷ vs) whole n h =
    has_cases (from ≤ n) whole.0.block.serial (serials_of vs) n
    (λ e. let later = whole.0.later in omega arith)
    (λ r. let later = whole.0.later in let above = low m (suc whole.0.block.serial) vs whole.1 n r in omega arith)
    (ap (λ (ns : List ℕ). has ns n) (sym (serials_first v vs whole.0.block whole.0.is)) ∙ h)

-- no serial is among those of later objects
none_later : (m : Memory) (from n : ℕ) (vs : List Wire) → AreWhole m from vs → n < from → has (serials_of vs) n ≡ false
none_later m from n vs whole below = not_had (has (serials_of vs) n) (λ h. let above = low m from vs whole n h in omega arith)

pub whole_differ : (m : Memory) (from : ℕ) (vs : List Wire) → AreWhole m from vs → are_different (serials_of vs) ≡ true
whole_differ m from [] whole = refl
whole_differ m from (v ∷ vs) whole =
    let n : ℕ = whole.0.block.serial in
    ap are_different (serials_first v vs whole.0.block whole.0.is)
    ∙ and_both _ _ (ap (λ (b : Bool). not b) (none_later m (suc n) n vs whole.1 (omega arith))) (whole_differ m (suc n) vs whole.1)

-- the last of some objects
pub whole_behind : (m : Memory) (from : ℕ) (xs ys : List Wire) → AreWhole m from (xs ++ ys) → (after : ℕ) × AreWhole m after ys
whole_behind m from [] ys whole = (from, whole)
whole_behind m from (x ∷ xs) ys whole = whole_behind m (suc whole.0.block.serial) xs ys whole.1

apart : (m : Memory) (from : ℕ) (xs ys : List Wire) → AreWhole m from (xs ++ ys) → (n : ℕ) → has (serials_of xs) n ≡ true → has (serials_of ys) n ≡ false
apart m from [] ys whole n h = absurd (not_both h (has_none n))
apart m from (x ∷ xs) ys whole n h =
    has_cases (has (serials_of ys) n ≡ false) whole.0.block.serial (serials_of xs) n
    (λ e. none_behind e)
    (λ r. apart m (suc whole.0.block.serial) xs ys whole.1 n r)
    (ap (λ (ns : List ℕ). has ns n) (sym (serials_first x xs whole.0.block whole.0.is)) ∙ h)
  where
    none_behind : whole.0.block.serial ≡ n → has (serials_of ys) n ≡ false
    none_behind e = not_had (has (serials_of ys) n) (λ h.
        let all : has (serials_of (xs ++ ys)) n ≡ true = ap (λ (ns : List ℕ). has ns n) (serials_append xs ys) ∙ has_behind (serials_of xs) (serials_of ys) n h in
        let above = low m (suc whole.0.block.serial) (xs ++ ys) whole.1 n all in
        omega arith)

-- ---- a question that lets objects die

named : (m : Memory) (from : ℕ) (entered : List ℕ) (vs : List Wire) → AreWhole m from vs → ((n : ℕ) → has (serials_of vs) n ≡ true → has entered n ≡ true) → list_all (names_object entered) vs ≡ true
named m from entered [] whole among = refl
named m from entered (v ∷ vs) whole among =
    let block : New = whole.0.block in
    let serials : serials_of (v ∷ vs) ≡ block.serial ∷ serials_of vs = serials_first v vs block whole.0.is in
    let here : has entered block.serial ≡ true = among block.serial (ap (λ (ns : List ℕ). has ns block.serial) serials ∙ has_first block.serial (serials_of vs) block.serial refl) in
    and_both _ _ (ap (names_object entered) whole.0.is ∙ here)
    (named m (suc block.serial) entered vs whole.1 (λ n h. among n (ap (λ (ns : List ℕ). has ns n) serials ∙ has_rest block.serial (serials_of vs) n h)))

-- the last of those that live may die
pub deaths_right : (m : Memory) (from : ℕ) (entered : List ℕ) (remains vs : List Wire) → AreWhole m from (remains ++ vs) → entered ≡ serials_of (remains ++ vs)
    → (list_all (names_object entered) vs && are_different (serials_of vs)) ≡ true
deaths_right m from entered remains vs whole is =
    let behind = whole_behind m from remains vs whole in
    and_both _ _
    (named m behind.0 entered vs behind.1 (λ n h. ap (λ (ns : List ℕ). has ns n) (is ∙ serials_append remains vs) ∙ has_behind (serials_of remains) (serials_of vs) n h))
    (whole_differ m behind.0 vs behind.1)

-- ---- as they are sent

kept_value : (program : Program) (K : Knowledge) (w m : Memory) (from : ℕ) (v : Wire) → LivesToo K w m → IsWhole w from v → IsKnown program K v → normal m v ≡ v
unfolding normal is_live
kept_value program K w m from (wire.Ptr p) lives whole known =
    let same : p.serial ≡ whole.block.serial = serial_is whole.block whole.is in
    let alive : is_some (born_at w p.serial) ≡ true = ap (λ (n : ℕ). is_some (born_at w n)) same ∙ ap (λ (o : Option New). is_some o) whole.live in
    ap (λ (b : Bool). normal_if b p) (lives p.serial known.shape known.known alive)
  where
    serial_in : Wire → ℕ
    serial_in (wire.Ptr q) = q.serial
    serial_in _ = 0

    serial_is : (block : New) → wire.Ptr p ≡ pointer_to block → p.serial ≡ block.serial
    serial_is block e = ap serial_in e
kept_value program K w m from (wire.Int k n) lives whole known = refl
kept_value program K w m from wire.Null lives whole known = refl
kept_value program K w m from wire.Dead lives whole known = refl
kept_value program K w m from (wire.Fn f) lives whole known = refl
kept_value program K w m from (wire.Lock s) lives whole known = refl
kept_value program K w m from wire.NoValue lives whole known = refl

pub objects_kept : (program : Program) (K : Knowledge) (w m : Memory) (from : ℕ) (vs : List Wire) → LivesToo K w m → AreWhole w from vs → AreKnown program K vs → map (normal m) vs ≡ vs
objects_kept program K w m from [] lives whole known = refl
objects_kept program K w m from (v ∷ vs) lives whole known =
    ap (λ (x : Wire). x ∷ map (normal m) vs) (kept_value program K w m from v lives whole.0 known.0)
    ∙ ap (λ (xs : List Wire). v ∷ xs) (objects_kept program K w m (suc whole.0.block.serial) vs lives whole.1 known.1)

-- ---- what lives behind an answer

entered_by : (w : Memory) (from : ℕ) (s : Service) (a : Asked) (live remains rs : List Wire) → AreWhole w from live → Leaves s a live remains
    → less (leaving_by (Some s) a.args) (serials_of live) ++ entering_by (Some s) rs ≡ serials_of (after s remains rs)
entered_by w from Leave a live remains rs whole leaves =
    append-nil (less (serials_of a.args) (serials_of live))
    ∙ ap (λ (vs : List Wire). less (serials_of a.args) (serials_of vs)) leaves
    ∙ ap (less (serials_of a.args)) (serials_append remains a.args)
    ∙ less_behind (serials_of a.args) (serials_of remains) (serials_of a.args) (apart w from remains a.args (subst (λ (vs : List Wire). AreWhole w from vs) leaves whole)) (λ n h. h)
entered_by w from Enter a live remains rs whole leaves =
    ap (λ (ns : List ℕ). ns ++ serials_of rs) (less_nothing (serials_of live) ∙ ap serials_of (sym leaves)) ∙ sym (serials_append remains rs)
entered_by w from Kzalloc a live remains rs whole leaves = append-nil _ ∙ less_nothing (serials_of live) ∙ ap serials_of (sym leaves)
entered_by w from Kcalloc a live remains rs whole leaves = append-nil _ ∙ less_nothing (serials_of live) ∙ ap serials_of (sym leaves)
entered_by w from Kfree a live remains rs whole leaves = append-nil _ ∙ less_nothing (serials_of live) ∙ ap serials_of (sym leaves)
entered_by w from Readl a live remains rs whole leaves = append-nil _ ∙ less_nothing (serials_of live) ∙ ap serials_of (sym leaves)
entered_by w from Writel a live remains rs whole leaves = append-nil _ ∙ less_nothing (serials_of live) ∙ ap serials_of (sym leaves)
entered_by w from Printk a live remains rs whole leaves = append-nil _ ∙ less_nothing (serials_of live) ∙ ap serials_of (sym leaves)
entered_by w from RequestIrq a live remains rs whole leaves = append-nil _ ∙ less_nothing (serials_of live) ∙ ap serials_of (sym leaves)
entered_by w from FreeIrq a live remains rs whole leaves = append-nil _ ∙ less_nothing (serials_of live) ∙ ap serials_of (sym leaves)
entered_by w from Deliver a live remains rs whole leaves = append-nil _ ∙ less_nothing (serials_of live) ∙ ap serials_of (sym leaves)
entered_by w from Combolock a live remains rs whole leaves = append-nil _ ∙ less_nothing (serials_of live) ∙ ap serials_of (sym leaves)
entered_by w from Combounlock a live remains rs whole leaves = append-nil _ ∙ less_nothing (serials_of live) ∙ ap serials_of (sym leaves)
entered_by w from Bug a live remains rs whole leaves = append-nil _ ∙ less_nothing (serials_of live) ∙ ap serials_of (sym leaves)

-- the count of objects goes with those that live
pub entered_right : (w : Memory) (from : ℕ) (a : Asked) (s : Service) (live remains rs : List Wire) → service_numbered a.service ≡ Some s → AreWhole w from live → Leaves s a live remains
    → entered_after a.service a.args rs (serials_of live) ≡ serials_of (after s remains rs)
unfolding entered_after leaving
entered_right w from a s live remains rs numbered whole leaves =
    ap (λ (o : Option Service). less (leaving_by o a.args) (serials_of live) ++ entering_by o rs) numbered ∙ entered_by w from s a live remains rs whole leaves
