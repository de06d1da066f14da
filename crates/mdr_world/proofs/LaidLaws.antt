-- Births and deaths lie alike in both lists: the death of a block that doesn't live changes no layout.
use Rattle.std.proofs.Common.{◌≡◌, ◌+◌, ℕ, Bool, true, false, cond, not, ◌&&◌, ◌||◌, List, [], ◌∷◌, ◌++◌, get_or, Option, Some, None, refl, sym, ◌∙◌, ap, subst, arith}
use Rattle.std.specs.Prelude.{◌==◌, is_some}
use Rattle.std.proofs.lemmas.Bool.{eqb-true, eq-eqb}
use Rattle.std.proofs.lemmas.List.Sums.{sum_by-append}
use Rattle.mdr_core.specs.declared.value.Block.{Block}
use Rattle.mdr_mem.specs.declared.cells.Life.{Life}
use Rattle.mdr_mem.specs.declared.cells.Life.TheVariants as life
use Rattle.mdr_mem.specs.Contents.{births_in, handle_of, is_birth, left_of}
use Rattle.mdr_mem.proofs.SearchLaws.{left_absent}
use Rattle.mdr_region.specs.Layout.{Laid, Mark, after, laid, laid_from, left, placed}
use Rattle.mdr_region.specs.Blocks.{mark_at}
use Rattle.mdr_region.specs.Holes.{front, inside, names}
use Rattle.mdr_region.proofs.BirthLaws.{placed_at}
use Rattle.mdr_region.proofs.DeathLaws.{left_at, names_freed}
use Rattle.mdr_region.proofs.KeptLaws.{laid_more, stale_death}
use Rattle.mdr_world.proofs.StorageLaws.{births-birth, births-death}
use Rattle.mdr_world.specs.Stored.{AreMarked, IsCounted}
use Rattle.mdr_world.specs.declared.storage.Storage.{Storage}

-- ---- handles

some_behind : (hs : List Block) (b : Block) (serial : ℕ) → (is_some (handle_of hs serial) || (b.serial == serial)) ≡ true → is_some (handle_of (hs ++ b ∷ []) serial) ≡ true
unfolding handle_of
some_behind [] b serial h = of (b.serial == serial) h
  where
    of : (t : Bool) → t ≡ true → is_some (cond t (Some b) None) ≡ true
    of true k = refl
    of false k = k
some_behind (g ∷ gs) b serial h = of (g.serial == serial) h (some_behind gs b serial)
  where
    of : (t : Bool) → (is_some (cond t (Some g) (handle_of gs serial)) || (b.serial == serial)) ≡ true → ((is_some (handle_of gs serial) || (b.serial == serial)) ≡ true → is_some (handle_of (gs ++ b ∷ []) serial) ≡ true)
        → is_some (cond t (Some g) (handle_of (gs ++ b ∷ []) serial)) ≡ true
    of true k later = refl
    of false k later = later k

some_left : (d : ℕ) (hs : List Block) (serial : ℕ) → (d == serial) ≡ false → is_some (handle_of hs serial) ≡ true → is_some (handle_of (left_of d hs) serial) ≡ true
unfolding handle_of left_of
some_left d [] serial other h = h
some_left d (g ∷ gs) serial other h = of (g.serial == d) refl (g.serial == serial) refl h (some_left d gs serial other)
  where
    of : (t : Bool) → (g.serial == d) ≡ t → (u : Bool) → (g.serial == serial) ≡ u → is_some (cond u (Some g) (handle_of gs serial)) ≡ true → (is_some (handle_of gs serial) ≡ true → is_some (handle_of (left_of d gs) serial) ≡ true)
        → is_some (handle_of (cond t (left_of d gs) (g ∷ left_of d gs)) serial) ≡ true
    of true e true f k later = absurd (let same : (d == serial) ≡ true = eq-eqb d serial (sym (eqb-true g.serial d e) ∙ eqb-true g.serial serial f) in let no : true ≡ false = sym same ∙ other in Prim.cc)
    of true e false f k later = later k
    of false e u f k later = rw f (kept u k later)
      where
        kept : (u : Bool) → is_some (cond u (Some g) (handle_of gs serial)) ≡ true → (is_some (handle_of gs serial) ≡ true → is_some (handle_of (left_of d gs) serial) ≡ true) → is_some (cond u (Some g) (handle_of (left_of d gs) serial)) ≡ true
        kept true j more = refl
        kept false j more = more j

-- ---- marks

births_laid_from : (s : Laid) (lives : List Life) → (laid_from s lives).births ≡ s.births + births_in lives
unfolding laid_from
births_laid_from s [] = omega arith
births_laid_from s (life.Birth n ∷ lives) = omega (arith, births_laid_from (after s (life.Birth n)) lives, sum_by-append (λ l. cond (is_birth l) 1 0) (life.Birth n ∷ []) lives)
births_laid_from s (life.Death serial ∷ lives) = births_laid_from (after s (life.Death serial)) lives

births_laid : (lives : List Life) → (laid lives).births ≡ births_in lives
births_laid lives = omega (arith, births_laid_from (record { births = 0; marks = [] }) lives)

pub none_marked : AreMarked [] []
unfolding laid_from handle_of
none_marked place serial h = h

pub marked_birth : (lives : List Life) (hs : List Block) (b : Block) (n : ℕ) → b.serial ≡ births_in lives → AreMarked lives hs → AreMarked (lives ++ life.Birth n ∷ []) (hs ++ b ∷ [])
marked_birth lives hs b n next marked place serial h =
    some_behind hs b serial (of (inside (front n (laid lives).marks) n place) (sym (ap (names serial) (ap (λ (s : Laid). mark_at s.marks place) (laid_more lives (life.Birth n)) ∙ placed_at (laid lives).births n place (laid lives).marks)) ∙ h))
  where
    of : (i : Bool) → names serial (cond i (Some (laid lives).births) (mark_at (laid lives).marks place)) ≡ true → (is_some (handle_of hs serial) || (b.serial == serial)) ≡ true
    of true k = grind (arith, eq-eqb b.serial serial (next ∙ sym (births_laid lives) ∙ eqb-true (laid lives).births serial k))
    of false k = grind (arith, marked place serial k)

pub marked_death : (lives : List Life) (hs : List Block) (d : ℕ) → AreMarked lives hs → AreMarked (lives ++ life.Death d ∷ []) (left_of d hs)
marked_death lives hs d marked place serial h =
    of (names serial (mark_at (laid lives).marks place)) refl (d == serial) refl
    (sym (ap (names serial) (ap (λ (s : Laid). mark_at s.marks place) (laid_more lives (life.Death d)) ∙ left_at d place (laid lives).marks) ∙ names_freed d serial (mark_at (laid lives).marks place)) ∙ h)
  where
    of : (t : Bool) → names serial (mark_at (laid lives).marks place) ≡ t → (u : Bool) → (d == serial) ≡ u → (t && not u) ≡ true → is_some (handle_of (left_of d hs) serial) ≡ true
    of true e true f k = absurd (Prim.cc)
    of true e false f k = some_left d hs serial f (marked place serial e)
    of false e u f k = absurd (Prim.cc)

-- no place has a serial without a handle
unmarked : (lives : List Life) (hs : List Block) (d : ℕ) → handle_of hs d ≡ None → AreMarked lives hs → (place : ℕ) → names d (mark_at (laid lives).marks place) ≡ false
unmarked lives hs d none marked place = of (names d (mark_at (laid lives).marks place)) refl
  where
    of : (t : Bool) → names d (mark_at (laid lives).marks place) ≡ t → t ≡ false
    of true e = absurd (let some : is_some (handle_of hs d) ≡ true = marked place d e in let no : false ≡ true = sym (ap is_some none) ∙ some in Prim.cc)
    of false e = refl

pub laid_stale : (lives : List Life) (hs : List Block) (d : ℕ) → handle_of hs d ≡ None → AreMarked lives hs → laid lives ≡ laid (lives ++ life.Death d ∷ [])
laid_stale lives hs d none marked = sym (stale_death d lives (unmarked lives hs d none marked))

-- ---- both lists

pub laid_alike : (a b : List Life) (l : Life) → laid a ≡ laid b → laid (a ++ l ∷ []) ≡ laid (b ++ l ∷ [])
laid_alike a b l e = laid_more a l ∙ ap (λ s. after s l) e ∙ sym (laid_more b l)
