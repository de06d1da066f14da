-- The living cells of a set, and what single steps make of them.
use Rattle.std.proofs.Common.{◌≡◌, ℕ, ◌<◌, ◌≤◌, ◌+◌, Bool, true, false, not, ◌&&◌, cond, List, [], ◌∷◌, ◌++◌, Some, None, refl, sym, ◌∙◌, ap, arith, ne_eqb, eq-eqb}
use Rattle.std.specs.Prelude.{◌==◌, is_some, filter}
use Rattle.std.proofs.lemmas.Bool.{both_ways, eqb-true}
use Rattle.std.proofs.lemmas.List.Elements.{filter-append}
use Rattle.std.proofs.lemmas.List.Sums.{sum_by-append}
use Rattle.mdr_extents.specs.CellOrder.{cells}
use Rattle.mdr_mem.specs.declared.cells.Life.{Life}
use Rattle.mdr_mem.specs.Contents.{births_in, is_birth}
use Rattle.mdr_meaning.specs.declared.wire.Wire.{Wire}
use Rattle.mdr_model.specs.declared.memory.Cell.{Cell}
use Rattle.mdr_model.specs.declared.memory.MemoryBlock.{MemoryBlock}
use Rattle.mdr_model.specs.Memory.{Memory, born_at, is_live, killed, put}
use Rattle.mdr_model.proofs.LifeLaws.{born_at-killed}
use Rattle.mdr_model.proofs.MemoryLaws.{births-put, is_live-births}
use Rattle.mdr_paths.specs.Paths.{is_in}
use Rattle.mdr_paths.proofs.NodeLists.{is_in-filter, is_in-head, is_in-tail}
use Rattle.mdr_plain.specs.Storage.{without}
use Rattle.mdr_watched.specs.Order.{AreLive}
use Rattle.mdr_watched.specs.Views.{living}

-- ---- lists

-- filters by two tests that agree on a list
pub same_filter : (p q : Cell → Bool) (set : List Cell) → ((c : Cell) → is_in cells set c ≡ true → p c ≡ q c) → filter p set ≡ filter q set
same_filter p q [] h = refl
same_filter p q (c ∷ set) h =
    let rest : filter p set ≡ filter q set = same_filter p q set (λ d e. h d (is_in-tail cells c set d e)) in
    λ i. cond (h c (is_in-head cells c set) i) (c ∷ rest i) (rest i)

-- a filter behind another one
filter_twice : (p q : Cell → Bool) (set : List Cell) → filter (λ c. p c && q c) set ≡ filter q (filter p set)
filter_twice p q [] = refl
filter_twice p q (c ∷ set) = of (p c) (filter_twice p q set)
  where
    of : (b : Bool) → filter (λ d. p d && q d) set ≡ filter q (filter p set) → cond (b && q c) (c ∷ filter (λ d. p d && q d) set) (filter (λ d. p d && q d) set) ≡ filter q (cond b (c ∷ filter p set) (filter p set))
    of true e = λ i. cond (q c) (c ∷ e i) (e i)
    of false e = e

all_pass : (p : Cell → Bool) (set : List Cell) → ((c : Cell) → is_in cells set c ≡ true → p c ≡ true) → filter p set ≡ set
all_pass p [] h = refl
all_pass p (c ∷ set) h =
    ap (λ b. cond b (c ∷ filter p set) (filter p set)) (h c (is_in-head cells c set)) ∙ ap (λ (rest : List Cell). c ∷ rest) (all_pass p set (λ d e. h d (is_in-tail cells c set d e)))

-- ---- what lives

pub all_living : (m : Memory) (set : List Cell) → AreLive m set → living m set ≡ set
all_living m set h = all_pass (λ (c : Cell). is_live m c.serial) set h

pub living_both : (m : Memory) (set more : List Cell) → AreLive m more → living m (set ++ more) ≡ living m set ++ more
living_both m set more h = filter-append (λ (c : Cell). is_live m c.serial) set more ∙ ap (λ (rest : List Cell). living m set ++ rest) (all_living m more h)

pub live_and : (a b : Bool) → a ≡ true → (a && b) ≡ b
live_and a b e = rw e refl

pub is_living : (m : Memory) (set : List Cell) (c : Cell) → is_in cells (living m set) c ≡ (is_live m c.serial && is_in cells set c)
is_living m set c = is_in-filter cells (λ (d : Cell). is_live m d.serial) set c

-- a store changes nothing in it
pub living_put : (m : Memory) (c : Cell) (v : Wire) (set : List Cell) → living (put m c v) set ≡ living m set
living_put m c v set = same_filter _ _ set (λ d e. is_live-births (put m c v) m d.serial (births-put m c v))

-- a death takes its cells out
live_killed : (dead : ℕ) (m : Memory) (s : ℕ) → is_live (killed dead m) s ≡ (is_live m s && not (s == dead))
unfolding is_live
live_killed dead m s = ap (λ o. is_some o) (born_at-killed dead m s) ∙ of (dead == s) refl
  where
    none : (b : Bool) → false ≡ (b && false)
    none true = refl
    none false = refl

    same : (b : Bool) → b ≡ (b && true)
    same true = refl
    same false = refl

    of : (t : Bool) → (dead == s) ≡ t → is_some (cond t None (born_at m s)) ≡ (is_some (born_at m s) && not (s == dead))
    of true e = none (is_some (born_at m s)) ∙ ap (λ b. is_some (born_at m s) && not b) (sym (eq-eqb s dead (sym (eqb-true dead s e))))
    of false e = same (is_some (born_at m s)) ∙ ap (λ b. is_some (born_at m s) && not b) (sym (ne_eqb s dead (λ n. both_ways (dead == s) e (eq-eqb dead s (sym n)))))

pub living_killed : (dead : ℕ) (m : Memory) (set : List Cell) → living (killed dead m) set ≡ without dead (living m set)
living_killed dead m set =
    same_filter _ (λ (c : Cell). is_live m c.serial && not (c.serial == dead)) set (λ c e. live_killed dead m c.serial)
    ∙ filter_twice (λ (c : Cell). is_live m c.serial) (λ (c : Cell). not (c.serial == dead)) set

-- a birth adds nothing to a set that is older
live_before : (m : Memory) (b : MemoryBlock) (s : ℕ) → (b.born.serial == s) ≡ false → is_live (m ++ b ∷ []) s ≡ is_live m s
unfolding is_live born_at
live_before [] b s e = ap (λ t. is_some (cond t (Some b.born) None)) e
live_before (x ∷ m) b s e = of (x.born.serial == s) (live_before m b s e)
  where
    of : (t : Bool) → is_some (born_at (m ++ b ∷ []) s) ≡ is_some (born_at m s) → is_some (cond t (Some x.born) (born_at (m ++ b ∷ []) s)) ≡ is_some (cond t (Some x.born) (born_at m s))
    of true h = refl
    of false h = h

pub living_born : (m : Memory) (b : MemoryBlock) (set : List Cell) → ((c : Cell) → is_in cells set c ≡ true → c.serial < b.born.serial) → living (m ++ b ∷ []) set ≡ living m set
living_born m b set older =
    same_filter _ _ set (λ c e. live_before m b c.serial (ne_eqb b.born.serial c.serial (λ n. let less : c.serial < b.born.serial = older c e in absurd (omega (arith, less, n)))))

-- ---- the next serial

pub births_grow : (lives : List Life) (l : Life) → births_in lives ≤ births_in (lives ++ l ∷ [])
births_grow lives l =
    let e : births_in (lives ++ l ∷ []) ≡ births_in lives + births_in (l ∷ []) = sum_by-append (λ (x : Life). cond (is_birth x) 1 0) lives (l ∷ []) in
    omega (arith, e)
