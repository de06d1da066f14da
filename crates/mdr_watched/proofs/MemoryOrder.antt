-- What single steps leave of the order of a memory, and of the life of visible cells.
use Rattle.std.proofs.Common.{◌≡◌, ℕ, suc, ◌+◌, ◌<◌, ◌≤◌, Bool, true, false, not, cond, ◌||◌, ◌⊎◌, inl, inr, List, [], ◌∷◌, ◌++◌, Some, None, Ok, length, refl, sym, ◌∙◌, ap, subst, arith}
use Rattle.std.specs.Prelude.{◌==◌, is_some, map, nat_lt}
use Rattle.std.proofs.lemmas.Bool.{and_parts, both_ways, eq-eqb, eqb-true, or_cases, or_left}
use Rattle.std.proofs.lemmas.List.Sums.{sum_by-append, sum_by-cons}
use Rattle.mdr_core.specs.declared.plan.Key.{Key}
use Rattle.mdr_core.specs.declared.program.GlobalDef.{GlobalDef}
use Rattle.mdr_core.specs.declared.program.Program.{Program}
use Rattle.mdr_core.specs.Layout.{chosen}
use Rattle.mdr_extents.specs.CellOrder.{cells}
use Rattle.mdr_extents.specs.Extent.{is_touched}
use Rattle.mdr_extents.specs.Reaching.{Roots, all_cells, beginning, cells_of_block, counts, graph, own_cells, visible}
use Rattle.mdr_extents.proofs.CellLists.{in_all, in_block}
use Rattle.mdr_extents.proofs.VisibleLaws.{visible_is_by_paths}
use Rattle.mdr_mem.specs.declared.cells.Life.{Life}
use Rattle.mdr_mem.specs.declared.cells.Life.TheVariants as life
use Rattle.mdr_mem.specs.Contents.{births_in, is_birth}
use Rattle.mdr_meaning.specs.declared.shape.Shape64.{Shape64}
use Rattle.mdr_meaning.specs.declared.wire.Wire.{Wire}
use Rattle.mdr_meaning.specs.Numbers.{Numbered}
use Rattle.mdr_model.specs.declared.memory.Cell.{Cell}
use Rattle.mdr_model.specs.declared.memory.MemoryBlock.{MemoryBlock}
use Rattle.mdr_model.specs.declared.message.BirthKind.{BirthKind}
use Rattle.mdr_model.specs.declared.message.BirthKind.TheVariants.{Static}
use Rattle.mdr_model.specs.Agreement.{IsBelow, SerialsRise}
use Rattle.mdr_model.specs.Memory.{Memory, born_at, is_live, killed, put}
use Rattle.mdr_model.proofs.LifeLaws.{born_at-killed, rises-killed}
use Rattle.mdr_model.proofs.MemoryLaws.{births-put, is_live-births, rises-put}
use Rattle.mdr_paths.specs.Paths.{counted, is_in}
use Rattle.mdr_paths.proofs.NodeLists.{in_both, is_in-filter, none_in}
use Rattle.mdr_paths.proofs.ReachLaws.{path_counts}
use Rattle.mdr_plain.specs.Scripts.{first_world}
use Rattle.mdr_plain.specs.Storage.{birth_of, born, died, first_memory, global_block, global_blocks, new_of, next_serial, with_memory, without}
use Rattle.mdr_plain.specs.World.{World}
use Rattle.mdr_bound.specs.declared.bound.Bound.{Bound}
use Rattle.mdr_watched.specs.Order.{AllAreLive, AreLive, IsInOrder}
use Rattle.mdr_watched.specs.Views.{below, new_cells, top}
use Rattle.mdr_watched.proofs.KeepLaws.{IsKept, IsKeptAround, IsKeptInside}

-- ---- lists of births and deaths

abbrev weight : Life → ℕ
weight l = cond (is_birth l) 1 0

count_end : (lives : List Life) (l : Life) → births_in (lives ++ l ∷ []) ≡ births_in lives + births_in (l ∷ [])
count_end lives l = sum_by-append weight lives (l ∷ [])

-- ---- sets of live cells

all_live : (m m' : Memory) (views : List (List Cell)) → ((s : ℕ) → is_live m s ≡ true → is_live m' s ≡ true) → AllAreLive m views → AllAreLive m' views
all_live m m' [] go h = tt
all_live m m' (set ∷ sets) go h = (λ c i. go c.serial (h.0 c i), all_live m m' sets go h.1)

top_live : (m : Memory) (views : List (List Cell)) → AllAreLive m views → AreLive m (top views)
top_live m [] h = λ c i. absurd (none_in cells c i)
top_live m (set ∷ sets) h = h.0

below_live : (m : Memory) (views : List (List Cell)) → AllAreLive m views → AllAreLive m (below views)
below_live m [] h = tt
below_live m (set ∷ sets) h = h.1

-- ---- deaths

dead_apart : (d : ℕ) (m : Memory) (s : ℕ) → is_live (killed d m) s ≡ true → is_live m s ≡ true
unfolding is_live
dead_apart d m s h = of (d == s) (ap (λ o. is_some o) (sym (born_at-killed d m s)) ∙ h)
  where
    of : (t : Bool) → is_some (cond t None (born_at m s)) ≡ true → is_some (born_at m s) ≡ true
    of true e = absurd (both_ways false refl e)
    of false e = e

others_live : (d : ℕ) (m : Memory) (s : ℕ) → (s == d) ≡ false → is_live m s ≡ true → is_live (killed d m) s ≡ true
unfolding is_live
others_live d m s apart h = ap (λ o. is_some o) (born_at-killed d m s) ∙ of (d == s) refl
  where
    of : (t : Bool) → (d == s) ≡ t → is_some (cond t None (born_at m s)) ≡ true
    of true e = absurd (both_ways (s == d) apart (eq-eqb s d (sym (eqb-true d s e))))
    of false e = h

left_live : (d : ℕ) (m : Memory) (views : List (List Cell)) → AllAreLive m views → AllAreLive (killed d m) (map (without d) views)
left_live d m [] h = tt
left_live d m (set ∷ sets) h = (one, left_live d m sets h.1)
  where
    outside : (t : Bool) → not t ≡ true → t ≡ false
    outside true e = absurd (both_ways false refl e)
    outside false e = refl

    one : AreLive (killed d m) (without d set)
    one c i = let p = and_parts _ _ (sym (is_in-filter cells (λ (x : Cell). not (x.serial == d)) set c) ∙ i) in others_live d m c.serial (outside (c.serial == d) p.0) (h.0 c p.1)

-- ---- births

live_end : (m : Memory) (b : MemoryBlock) (s : ℕ) → is_live (m ++ b ∷ []) s ≡ (is_live m s || b.born.serial == s)
unfolding is_live born_at
live_end [] b s = of (b.born.serial == s)
  where
    of : (t : Bool) → is_some (cond t (Some b.born) None) ≡ t
    of true = refl
    of false = refl
live_end (x ∷ m) b s = of (x.born.serial == s) (live_end m b s)
  where
    of : (t : Bool) → is_some (born_at (m ++ b ∷ []) s) ≡ (is_some (born_at m s) || b.born.serial == s) → is_some (cond t (Some x.born) (born_at (m ++ b ∷ []) s)) ≡ (is_some (cond t (Some x.born) (born_at m s)) || b.born.serial == s)
    of true e = refl
    of false e = e

rises_end : (m : Memory) (b : MemoryBlock) → SerialsRise m → IsBelow b.born.serial m → SerialsRise (m ++ b ∷ [])
unfolding is_live born_at
rises_end [] b r low = (λ s h. absurd (both_ways false refl h), tt)
rises_end (x ∷ m) b r low = (above, rises_end m b r.1 (λ s h. low s (later s (x.born.serial == s) h)))
  where
    later : (s : ℕ) (t : Bool) → is_some (born_at m s) ≡ true → is_some (cond t (Some x.born) (born_at m s)) ≡ true
    later s true e = refl
    later s false e = e

    first : x.born.serial < b.born.serial
    first = low x.born.serial (rw (eq-eqb x.born.serial x.born.serial refl) refl)

    above : (s : ℕ) → is_live (m ++ b ∷ []) s ≡ true → x.born.serial < s
    above s h = of (or_cases _ _ (sym (live_end m b s) ∙ h))
      where
        of : (is_live m s ≡ true) ⊎ ((b.born.serial == s) ≡ true) → x.born.serial < s
        of (inl j) = r.0 s j
        of (inr j) = subst (λ n. x.born.serial < n) (eqb-true b.born.serial s j) first

below_end : (m : Memory) (b : MemoryBlock) (n k : ℕ) → b.born.serial ≡ n → k ≡ n + 1 → IsBelow n m → IsBelow k (m ++ b ∷ [])
below_end m b n k is more low s h = of (or_cases _ _ (sym (live_end m b s) ∙ h))
  where
    of : (is_live m s ≡ true) ⊎ ((b.born.serial == s) ≡ true) → s < k
    of (inl j) = omega (arith, low s j, more)
    of (inr j) = omega (arith, eqb-true b.born.serial s j, is, more)

-- ---- sets that are taken and that grow

in_memory : (program : Program) (touched : List Key) (m : Memory) (c : Cell) → is_in cells (counted (graph program touched m)) c ≡ true → is_live m c.serial ≡ true
unfolding counted graph
in_memory program touched m c h = in_all m c (and_parts _ _ (sym (is_in-filter cells (counts program touched m) (all_cells m) c) ∙ h)).1

taken_live : (program : Program) (touched : List Key) (m : Memory) (known : List Cell) (roots : Roots) (set : List Cell) → SerialsRise m → visible program touched m known roots ≡ Ok set → AreLive m set
taken_live program touched m known roots set rises is c h =
    in_memory program touched m c (path_counts (graph program touched m) (beginning program touched m known roots) c (((visible_is_by_paths program touched m known roots rises).exact set is c).0 h))

own_live : (program : Program) (touched : List Key) (b : MemoryBlock) (c : Cell) → is_in cells (own_cells program touched b) c ≡ true → c.serial ≡ b.born.serial
unfolding own_cells
own_live program touched b c h = in_block b c (and_parts _ _ (sym (is_in-filter cells (λ (x : Cell). is_touched program touched b.born x.index) (cells_of_block b) c) ∙ h)).1

new_live : (program : Program) (touched : List Key) (next : ℕ) (m : Memory) → AreLive m (new_cells program touched next m)
unfolding new_cells is_live born_at
new_live program touched next [] = λ c i. absurd (none_in cells c i)
new_live program touched next (b ∷ m) = λ c i. of c (nat_lt b.born.serial next) (or_cases _ _ (sym (in_both cells (chosen (nat_lt b.born.serial next) [] (own_cells program touched b)) (new_cells program touched next m) c) ∙ i)) (new_live program touched next m c)
  where
    later : (c : Cell) (t : Bool) → is_some (born_at m c.serial) ≡ true → is_some (cond t (Some b.born) (born_at m c.serial)) ≡ true
    later c true e = refl
    later c false e = e

    own : (c : Cell) (t : Bool) → is_in cells (chosen t [] (own_cells program touched b)) c ≡ true → c.serial ≡ b.born.serial
    own c true i = absurd (none_in cells c i)
    own c false i = own_live program touched b c i

    of : (c : Cell) (t : Bool) → (is_in cells (chosen t [] (own_cells program touched b)) c ≡ true) ⊎ (is_in cells (new_cells program touched next m) c ≡ true) → (is_in cells (new_cells program touched next m) c ≡ true → is_some (born_at m c.serial) ≡ true)
        → is_some (cond (b.born.serial == c.serial) (Some b.born) (born_at m c.serial)) ≡ true
    of c t (inl j) rest = rw (eq-eqb b.born.serial c.serial (sym (own c t j))) refl
    of c t (inr j) rest = later c (b.born.serial == c.serial) (rest j)

gained_live : (program : Program) (touched : List Key) (next : ℕ) (m : Memory) (views : List (List Cell)) → AllAreLive m views → AreLive m (top views ++ new_cells program touched next m)
gained_live program touched next m views h c i = of (or_cases _ _ (sym (in_both cells (top views) (new_cells program touched next m) c) ∙ i))
  where
    of : (is_in cells (top views) c ≡ true) ⊎ (is_in cells (new_cells program touched next m) c ≡ true) → is_live m c.serial ≡ true
    of (inl j) = top_live m views h c j
    of (inr j) = new_live program touched next m c j

-- ---- each step

put_live : (m : Memory) (c : Cell) (v : Wire) (s : ℕ) → is_live (put m c v) s ≡ is_live m s
put_live m c v s = is_live-births (put m c v) m s (births-put m c v)

put_kept : (w : World) (c : Cell) (v : Wire) → IsInOrder w → IsInOrder (with_memory w (put w.memory c v))
put_kept w c v o = record {
  rises = rises-put w.memory c v o.rises;
  below = λ s h. o.below s (sym (put_live w.memory c v s) ∙ h);
  live = all_live w.memory (put w.memory c v) w.views (λ s h. put_live w.memory c v s ∙ h) o.live;
}

born_kept : (program : Program) (kind : BirthKind) (s : Shape64) (w : World) → IsInOrder w → IsInOrder (born program (new_of kind s w) w)
unfolding born
born_kept program kind s w o = record {
  rises = rises_end w.memory _ o.rises o.below;
  below = below_end w.memory _ (next_serial w) _ refl (count_end w.lives _) o.below;
  live = all_live w.memory _ w.views (λ n h. live_end w.memory _ n ∙ or_left _ _ h) o.live;
}

died_kept : (w : World) (serial : ℕ) → IsInOrder w → IsInOrder (died serial w)
unfolding died
died_kept w serial o = record {
  rises = rises-killed serial w.memory o.rises;
  below = λ s h. let e = count_end w.lives (life.Death serial) in let low = o.below s (dead_apart serial w.memory s h) in omega (arith, e, low);
  live = left_live serial w.memory w.views o.live;
}

pub order_kept : IsKept IsInOrder
order_kept = record {
  put = put_kept;
  keeping = λ w k o. record { rises = o.rises; below = o.below; live = o.live };
  device = λ w d o. record { rises = o.rises; below = o.below; live = o.live };
  tick = λ w o. record { rises = o.rises; below = o.below; live = o.live };
  birth = born_kept;
  death = died_kept;
}

pub order_kept_inside : IsKeptInside IsInOrder
order_kept_inside = record {
  renews = λ program touched known roots set w is o. record { rises = o.rises; below = o.below; live = (taken_live program touched w.memory known roots set o.rises is, below_live w.memory w.views o.live) };
  grows = λ program touched next w o. record { rises = o.rises; below = o.below; live = (gained_live program touched next w.memory w.views o.live, below_live w.memory w.views o.live) };
}

pub order_kept_around : IsKeptAround IsInOrder
order_kept_around = record {
  opens = λ program touched known roots set w is o. record { rises = o.rises; below = o.below; live = (taken_live program touched w.memory known roots set o.rises is, o.live) };
  closes = λ w o. record { rises = o.rises; below = o.below; live = below_live w.memory w.views o.live };
}

-- ---- the first state

record AreFrom (n : ℕ) (gs : List GlobalDef) (m : Memory) : Type 0 where
  rises : SerialsRise m
  after : (s : ℕ) → is_live m s ≡ true → n ≤ s
  before : (s : ℕ) → is_live m s ≡ true → s < n + length gs
  count : births_in (map birth_of m) ≡ length gs

one_more : (a b : ℕ) → a ≡ b → 1 + a ≡ suc b
one_more a b e = omega (arith, e)

globals_from : (known : Numbered) (n : ℕ) (gs : List GlobalDef) → AreFrom n gs (global_blocks known n gs)
unfolding is_live born_at
globals_from known n [] = record { rises = tt; after = λ s h. absurd (both_ways false refl h); before = λ s h. absurd (both_ways false refl h); count = refl }
globals_from known n (g ∷ gs) = of (globals_from known (suc n) gs)
  where
    cases : (s : ℕ) (t : Bool) → (n == s) ≡ t → is_some (cond t (Some (record { serial = n; kind = Static; ty = known.number g.ty; count = g.count })) (born_at (global_blocks known (suc n) gs) s)) ≡ true → (n ≡ s) ⊎ (is_live (global_blocks known (suc n) gs) s ≡ true)
    cases s true e h = inl (eqb-true n s e)
    cases s false e h = inr h

    of : AreFrom (suc n) gs (global_blocks known (suc n) gs) → AreFrom n (g ∷ gs) (global_blocks known n (g ∷ gs))
    of later = record {
      rises = (λ s h. later.after s h, later.rises);
      after = λ s h. low s (cases s (n == s) refl h);
      before = λ s h. high s (cases s (n == s) refl h);
      count = sum_by-cons weight (birth_of (global_block known n g)) (map birth_of (global_blocks known (suc n) gs)) ∙ one_more (births_in (map birth_of (global_blocks known (suc n) gs))) (length gs) later.count;
    }
      where
        low : (s : ℕ) → (n ≡ s) ⊎ (is_live (global_blocks known (suc n) gs) s ≡ true) → n ≤ s
        low s (inl e) = omega (arith, e)
        low s (inr h) = omega (arith, later.after s h)

        high : (s : ℕ) → (n ≡ s) ⊎ (is_live (global_blocks known (suc n) gs) s ≡ true) → s < n + suc (length gs)
        high s (inl e) = omega (arith, e)
        high s (inr h) = omega (arith, later.before s h)

pub first_in_order : (known : Numbered) (script : Bound) (budget : ℕ) → IsInOrder (first_world known script budget)
unfolding first_world first_memory
first_in_order known script budget =
    let f = globals_from known 0 known.program.globals in
    record { rises = f.rises; below = λ s h. let low = f.before s h in subst (λ n. s < n) (sym f.count) (omega (arith, low)); live = tt }
