-- What deaths leave of a memory.
use Rattle.std.proofs.Common.{◌≡◌, ℕ, ◌+◌, true, cond, List, [], ◌∷◌, ◌++◌, sym, ◌∙◌, ap, subst, arith}
use Rattle.std.specs.Prelude.{option_map}
use Rattle.std.proofs.lemmas.List.Sums.{sum_by-append}
use Rattle.mdr_core.specs.declared.program.Program.{Program}
use Rattle.mdr_mem.specs.declared.cells.Life.{Life}
use Rattle.mdr_mem.specs.declared.cells.Life.TheVariants as life
use Rattle.mdr_mem.specs.Contents.{births_in, is_birth}
use Rattle.mdr_meaning.specs.declared.wire.Wire.{Wire}
use Rattle.mdr_meaning.specs.declared.wire.Wire.TheVariants as wire
use Rattle.mdr_model.specs.declared.memory.Cell.{Cell}
use Rattle.mdr_model.specs.Agreement.{IsBelow, IsFormed, MayFollow}
use Rattle.mdr_model.specs.Memory.{Memory, cell_at, is_live, killed, normal}
use Rattle.mdr_model.proofs.KernelSteps.{steps_may_follow}
use Rattle.mdr_model.proofs.LifeLaws.{born_at-killed, cell_at-killed}
use Rattle.mdr_plain.specs.Storage.{deaths, died, died_at, next_serial}
use Rattle.mdr_plain.specs.World.{World}
use Rattle.mdr_shows.proofs.Normals.{normal_held, normal_twice, swept_normal}

-- ---- counts of births

abbrev weight : Life → ℕ
weight l = cond (is_birth l) 1 0

pub count_birth : (lives : List Life) (n : ℕ) → births_in (lives ++ life.Birth n ∷ []) ≡ births_in lives + 1
count_birth lives n = sum_by-append weight lives (life.Birth n ∷ [])

pub count_death : (lives : List Life) (n : ℕ) → births_in (lives ++ life.Death n ∷ []) ≡ births_in lives + 0
count_death lives n = sum_by-append weight lives (life.Death n ∷ [])

-- ---- one memory and what deaths leave of it

pub record Shrinks (m m' : Memory) : Type 0 where
  pub live : (s : ℕ) → is_live m' s ≡ true → is_live m s ≡ true
  pub cells : (c : Cell) → is_live m' c.serial ≡ true → cell_at m' c ≡ option_map (normal m') (cell_at m c)

pub shrinks_none : {program : Program} (m : Memory) → IsFormed program m → Shrinks m m
shrinks_none m f = record { live = λ s h. h; cells = λ c h. sym (normal_held m (cell_at m c) (f.closed c)) }

pub shrinks_more : (m m' m'' : Memory) → Shrinks m m' → Shrinks m' m'' → Shrinks m m''
shrinks_more m m' m'' a b = record {
  live = λ s h. a.live s (b.live s h);
  cells = λ c h. b.cells c h ∙ ap (option_map (normal m'')) (a.cells c (b.live c.serial h)) ∙ normal_twice m' m'' (cell_at m c) b.live;
}

pub shrinks_killed : {program : Program} (d : ℕ) (m : Memory) → IsFormed program m → Shrinks m (killed d m)
unfolding is_live
shrinks_killed d m f = record {
  live = λ s h. grind (arith, born_at-killed d m s);
  cells = λ c h. grind (arith, cell_at-killed d m c, born_at-killed d m c.serial, swept_normal d m (cell_at m c) (f.closed c));
}

-- ---- deaths in a world

record Dies (program : Program) (w w' : World) : Type 0 where
  shrinks : Shrinks w.memory w'.memory
  follows : MayFollow program (next_serial w) w.memory (next_serial w') w'.memory

none_dies : (program : Program) (w : World) → IsFormed program w.memory → IsBelow (next_serial w) w.memory → Dies program w w
none_dies program w f low = record { shrinks = shrinks_none w.memory f; follows = steps_may_follow.none program (next_serial w) w.memory f low }

same_next : (n k : ℕ) → k ≡ n + 0 → n ≡ k
same_next n k e = omega (arith, e)

one_dies : (program : Program) (d : ℕ) (w : World) → IsFormed program w.memory → IsBelow (next_serial w) w.memory → Dies program w (died d w)
unfolding died
one_dies program d w f low = record {
  shrinks = shrinks_killed d w.memory f;
  follows = subst (λ (n : ℕ). MayFollow program (next_serial w) w.memory n (killed d w.memory)) (same_next (next_serial w) _ (count_death w.lives d)) (steps_may_follow.death program (next_serial w) w.memory d f low);
}

at_dies : (program : Program) (p : Wire) (w : World) → IsFormed program w.memory → IsBelow (next_serial w) w.memory → Dies program w (died_at p w)
at_dies program (wire.Ptr p) w f low = one_dies program p.serial w f low
at_dies program (wire.Int k n) w f low = none_dies program w f low
at_dies program wire.Null w f low = none_dies program w f low
at_dies program wire.Dead w f low = none_dies program w f low
at_dies program (wire.Fn f') w f low = none_dies program w f low
at_dies program (wire.Lock s) w f low = none_dies program w f low
at_dies program wire.NoValue w f low = none_dies program w f low

all_die : (program : Program) (ps : List Wire) (w : World) → IsFormed program w.memory → IsBelow (next_serial w) w.memory → Dies program w (deaths ps w)
all_die program [] w f low = none_dies program w f low
all_die program (p ∷ ps) w f low =
    let a : Dies program w (died_at p w) = at_dies program p w f low in
    let b : Dies program (died_at p w) (deaths ps (died_at p w)) = all_die program ps (died_at p w) a.follows.formed a.follows.low in
    record { shrinks = shrinks_more w.memory (died_at p w).memory (deaths ps (died_at p w)).memory a.shrinks b.shrinks; follows = steps_may_follow.more a.follows b.follows }

pub deaths_shrink : (program : Program) (ps : List Wire) (w : World) → IsFormed program w.memory → IsBelow (next_serial w) w.memory → Shrinks w.memory (deaths ps w).memory
deaths_shrink program ps w f low = (all_die program ps w f low).shrinks

pub deaths_follow : (program : Program) (ps : List Wire) (w : World) → IsFormed program w.memory → IsBelow (next_serial w) w.memory → MayFollow program (next_serial w) w.memory (next_serial (deaths ps w)) (deaths ps w).memory
deaths_follow program ps w f low = (all_die program ps w f low).follows
