-- What the code keeps, after a birth and after a death.
use Rattle.std.proofs.Common.{◌≡◌, ◌<◌, ◌≤◌, ◌+◌, ◌-◌, ℕ, Bool, true, false, cond, List, [], ◌∷◌, ◌++◌, map, length, get_or, take, drop, replicate, Some, None, refl, sym, ◌∙◌, ap, subst, arith}
use Rattle.std.proofs.lemmas.Bool.Decides.{nat_tests}
use Rattle.std.proofs.lemmas.List.{length-append, length-replicate}
use Rattle.mdr_region.specs.declared.holes.Hole.{Hole}
use Rattle.mdr_mem.specs.declared.cells.Life.{Life}
use Rattle.mdr_mem.specs.declared.cells.Life.TheVariants as life
use Rattle.mdr_region.specs.Layout.{Mark, are_free, placed, freed, used, Laid, after, laid_from, laid}
use Rattle.mdr_region.specs.Holes.{hole, holes_of, Rise, found, cut, start_of, risen, front, returned, below, lowered, names}
use Rattle.mdr_region.specs.Blocks.{IsBlock, blocks, ends, AreBelow, IsKept}
use Rattle.mdr_region.proofs.MarkLaws.{holes_rise}
use Rattle.mdr_region.proofs.BirthLaws.{placed_holes, placed_front, placed_length, placed_used}
use Rattle.mdr_region.proofs.DeathLaws.{parted, left_holes, left_used, returned_holes, length_map}
use Rattle.mdr_region.proofs.CellLaws.{block_inside}
use Rattle.mdr_region.proofs.BlockLaws.{below_birth, below_death, block_born, blocks_birth, blocks_death, blocks_without, most_holes, left_same}

laid_more_from : (s : Laid) (lives : List Life) (l : Life) → laid_from s (lives ++ l ∷ []) ≡ after (laid_from s lives) l
unfolding laid_from
laid_more_from s [] l = refl
laid_more_from s (k ∷ lives) l = laid_more_from (after s k) lives l

pub laid_more : (lives : List Life) (l : Life) → laid (lives ++ l ∷ []) ≡ after (laid lives) l
laid_more lives l = laid_more_from (record { births = 0; marks = [] }) lives l

-- what is kept, of births and marks
pub record Keeps (s : Laid) (holes : List Hole) (capacity top taken births live : ℕ) : Type 0 where
  pub free : holes ≡ holes_of 0 s.marks
  pub height : top ≡ length s.marks
  pub filled : taken ≡ used s.marks
  pub next : births ≡ s.births
  pub counted : live ≡ blocks None s.marks
  pub fresh : AreBelow births s.marks
  pub roomy : live ≤ capacity

kept_of : (lives : List Life) (holes : List Hole) (capacity top taken births live : ℕ) → Keeps (laid lives) holes capacity top taken births live → IsKept lives holes capacity top taken births live
kept_of lives holes capacity top taken births live k = record { free = k.free; height = k.height; filled = k.filled; next = k.next; counted = k.counted; fresh = k.fresh; roomy = k.roomy }

pub kept_new : (capacity : ℕ) → IsKept [] [] capacity 0 0 0 0
unfolding laid_from holes_of blocks
kept_new capacity = record { free = refl; height = refl; filled = refl; next = refl; counted = refl; fresh = λ q t h. grind (arith, h); roomy = omega arith }

pub kept_room : (lives : List Life) (holes : List Hole) (capacity more top taken births live : ℕ) → capacity ≤ more → IsKept lives holes capacity top taken births live → IsKept lives holes more top taken births live
kept_room lives holes capacity more top taken births live l k = record { free = k.free; height = k.height; filled = k.filled; next = k.next; counted = k.counted; fresh = k.fresh; roomy = omega (arith, l, k.roomy) }

pub kept_rise : (lives : List Life) (holes : List Hole) (capacity top taken births live : ℕ) → IsKept lives holes capacity top taken births live → Rise 0 top holes
kept_rise lives holes capacity top taken births live k = subst (λ x. Rise 0 top x) (sym k.free) (holes_rise 0 top (laid lives).marks (omega (arith, k.height)))

-- a serial that was not given yet is nowhere
nowhere : (births : ℕ) (marks : List Mark) → AreBelow births marks → (q : ℕ) → names births (get_or marks q None) ≡ false
nowhere births marks below q = of (names births (get_or marks q None)) refl (below q births)
  where
    of : (b : Bool) → names births (get_or marks q None) ≡ b → (names births (get_or marks q None) ≡ true → births < births) → b ≡ false
    of false e h = refl
    of true e h = absurd (omega (arith, h e))

pub kept_birth : (lives : List Life) (holes : List Hole) (capacity top taken births live n : ℕ) → IsKept lives holes capacity top taken births live → live < capacity → 0 < n
    → IsKept (lives ++ life.Birth n ∷ []) (cut n holes) capacity (top + risen n (found n holes)) (taken + n) (births + 1) (live + 1)
kept_birth lives holes capacity top taken births live n k room pos =
    let marks = (laid lives).marks in
    let nx : (laid lives).births ≡ births = sym k.next in
    kept_of _ _ _ _ _ _ _ (subst (λ s. Keeps s (cut n holes) capacity (top + risen n (found n holes)) (taken + n) (births + 1) (live + 1)) (sym (laid_more lives (life.Birth n))) (record {
      free = ap (cut n) k.free ∙ sym (placed_holes (laid lives).births n 0 (length marks) marks pos (omega arith));
      height = omega (arith, k.height, ap (λ x. risen n (found n x)) k.free, placed_length (laid lives).births n 0 (length marks) marks pos (omega arith));
      filled = omega (arith, k.filled, placed_used (laid lives).births n marks);
      next = ap (λ x. x + 1) k.next;
      counted = omega (arith, k.counted, blocks_birth (laid lives).births n None marks pos refl (nowhere (laid lives).births marks (subst (λ x. AreBelow x marks) k.next k.fresh)));
      fresh = subst (λ x. AreBelow (births + 1) (placed x n marks)) k.next (below_birth births n marks k.fresh);
      roomy = omega (arith, room);
    }))

pub birth_block : (lives : List Life) (holes : List Hole) (capacity top taken births live n : ℕ) → IsKept lives holes capacity top taken births live → 0 < n
    → IsBlock (laid (lives ++ life.Birth n ∷ [])).marks births (start_of top (found n holes)) n
birth_block lives holes capacity top taken births live n k pos =
    let marks = (laid lives).marks in
    let where_it_is : front n marks ≡ start_of top (found n holes) =
    let f : start_of (0 + length marks) (found n (holes_of 0 marks)) ≡ 0 + front n marks = placed_front n 0 (length marks) marks pos (omega arith) in
    let a : 0 + front n marks ≡ front n marks = omega arith in
    let b : top ≡ 0 + length marks = omega (arith, k.height) in
    sym a ∙ (sym f ∙ (ap (λ x. start_of x (found n (holes_of 0 marks))) (sym b) ∙ ap (λ x. start_of top (found n x)) (sym k.free))) in
    subst (λ s. IsBlock s.marks births (start_of top (found n holes)) n) (sym (laid_more lives (life.Birth n)))
    (subst (λ x. IsBlock (placed x n marks) births (start_of top (found n holes)) n) k.next
    (subst (λ x. IsBlock (placed births n marks) births x n) where_it_is (block_born births n marks k.fresh)))

-- a birth of a block without cells leaves marks as they are
placed_none : (s : ℕ) (marks : List Mark) → placed s 0 marks ≡ marks
unfolding placed are_free
placed_none s [] = refl
placed_none s (m ∷ marks) = refl

laid_none : (lives : List Life) → laid (lives ++ life.Birth 0 ∷ []) ≡ record { births = (laid lives).births + 1; marks = (laid lives).marks }
laid_none lives = laid_more lives (life.Birth 0) ∙ ap (λ x. record { births = (laid lives).births + 1; marks = x }) (placed_none (laid lives).births (laid lives).marks)

pub kept_birth_none : (lives : List Life) (holes : List Hole) (capacity top taken births live : ℕ) → IsKept lives holes capacity top taken births live → IsKept (lives ++ life.Birth 0 ∷ []) holes capacity top taken (births + 1) live
kept_birth_none lives holes capacity top taken births live k =
    kept_of _ _ _ _ _ _ _ (subst (λ s. Keeps s holes capacity top taken (births + 1) live) (sym (laid_none lives)) (record {
      free = k.free;
      height = k.height;
      filled = k.filled;
      next = ap (λ x. x + 1) k.next;
      counted = k.counted;
      fresh = λ q t h. omega (arith, k.fresh q t h);
      roomy = k.roomy;
    }))

pub block_none : (lives : List Life) (holes : List Hole) (capacity top taken births live : ℕ) → IsKept lives holes capacity top taken births live → IsBlock (laid (lives ++ life.Birth 0 ∷ [])).marks births 0 0
block_none lives holes capacity top taken births live k =
    subst (λ s. IsBlock s.marks births 0 0) (sym (laid_none lives)) (record { none = λ e. refl; places = λ q. nowhere births (laid lives).marks k.fresh q ∙ grind (arith, nat_tests) })

used_length : (marks : List Mark) → used marks ≤ length marks
used_length [] = omega arith
used_length (None ∷ marks) = omega (arith, used_length marks)
used_length (Some s ∷ marks) = omega (arith, used_length marks)

pub birth_fills : (lives : List Life) (holes : List Hole) (capacity top taken births live n : ℕ) → IsKept lives holes capacity top taken births live → 0 < n
    → taken + n ≤ top + risen n (found n holes)
birth_fills lives holes capacity top taken births live n k pos =
    let marks = (laid lives).marks in
    omega (arith, k.height, k.filled, ap (λ x. risen n (found n x)) k.free, placed_length 0 n 0 (length marks) marks pos (omega arith), placed_used 0 n marks, used_length (placed 0 n marks))

-- what the death of a block with cells asks for
pub record Leaves (holes : List Hole) (capacity top taken live start n : ℕ) : Type 0 where
  pub low : start + n ≤ top
  pub fewer : n ≤ taken
  pub some : 0 < live
  pub room : length (returned (hole start n) holes) ≤ capacity
  pub rise : Rise 0 top (returned (hole start n) holes)

pub death_leaves : (lives : List Life) (holes : List Hole) (capacity top taken births live s start n : ℕ) → IsKept lives holes capacity top taken births live → 0 < n → IsBlock (laid lives).marks s start n
    → Leaves holes capacity top taken live start n
death_leaves lives holes capacity top taken births live s start n k pos b =
    let marks = (laid lives).marks in
    let parts = parted s start n marks b.none b.places in
    let back : holes_of 0 (map (freed s) marks) ≡ returned (hole start n) holes =
    ap (holes_of 0) parts.without
    ∙ (returned_holes s n 0 start (length marks) (take start marks) (drop (start + n) marks) pos (omega (arith, parts.front)) (omega (arith, ap length parts.whole))
    ∙ ap (λ x. returned (hole start n) x) (ap (holes_of 0) (sym parts.whole) ∙ sym k.free)) in
    record {
      low = omega (arith, k.height, ap length parts.whole, length-append (take start marks) (replicate n (Some s) ++ drop (start + n) marks), length-append (replicate n (Some s)) (drop (start + n) marks), length-replicate n (Some s), parts.front);
      fewer = omega (arith, k.filled, left_used s start n marks b.none b.places);
      some = omega (arith, k.counted, blocks_death s start n marks pos b);
      room = few (ends None (map (freed s) marks)) (omega (arith, ap length back, most_holes 0 None (map (freed s) marks))) (omega (arith, k.counted, k.roomy, blocks_without s start n marks pos b));
      rise = subst (λ x. Rise 0 top x) back (holes_rise 0 top (map (freed s) marks) (omega (arith, k.height, length_map s marks)));
    }
  where
    few : (t : Bool) → length (returned (hole start n) holes) ≤ blocks None (map (freed s) (laid lives).marks) + cond t 0 1 → blocks None (map (freed s) (laid lives).marks) + 1 ≤ capacity → length (returned (hole start n) holes) ≤ capacity
    few true a c = omega (arith, a, c)
    few false a c = omega (arith, a, c)

pub kept_death : (lives : List Life) (holes : List Hole) (capacity more top taken births live s start n : ℕ) → IsKept lives holes capacity top taken births live → capacity ≤ more → 0 < n → IsBlock (laid lives).marks s start n
    → IsKept (lives ++ life.Death s ∷ []) (below top (returned (hole start n) holes)) more (lowered top (returned (hole start n) holes)) (taken - n) births (live - 1)
kept_death lives holes capacity more top taken births live s start n k room pos b =
    let marks = (laid lives).marks in
    let h = left_holes s start n marks pos b.places in
    kept_of _ _ _ _ _ _ _ (subst (λ x. Keeps x (below top (returned (hole start n) holes)) more (lowered top (returned (hole start n) holes)) (taken - n) births (live - 1)) (sym (laid_more lives (life.Death s))) (record {
      free = ap (λ x. below x (returned (hole start n) holes)) k.height ∙ (ap (λ x. below (length marks) (returned (hole start n) x)) k.free ∙ sym h.0);
      height = ap (λ x. lowered x (returned (hole start n) holes)) k.height ∙ (ap (λ x. lowered (length marks) (returned (hole start n) x)) k.free ∙ sym h.1);
      filled = omega (arith, k.filled, left_used s start n marks b.none b.places);
      next = k.next;
      counted = omega (arith, k.counted, blocks_death s start n marks pos b);
      fresh = below_death births s marks k.fresh;
      roomy = omega (arith, k.roomy, room);
    }))

-- a death of what isn't there
pub stale_death : (s : ℕ) (lives : List Life) → ((q : ℕ) → names s (get_or (laid lives).marks q None) ≡ false) → laid (lives ++ life.Death s ∷ []) ≡ laid lives
stale_death s lives h = laid_more lives (life.Death s) ∙ ap (λ x. record { births = (laid lives).births; marks = x }) (left_same s lives h)

-- the death of a block without cells
pub kept_death_none : (lives : List Life) (holes : List Hole) (capacity top taken births live s start : ℕ) → IsKept lives holes capacity top taken births live → IsBlock (laid lives).marks s start 0 → IsKept (lives ++ life.Death s ∷ []) holes capacity top taken births live
kept_death_none lives holes capacity top taken births live s start k b =
    let gone : laid (lives ++ life.Death s ∷ []) ≡ laid lives = stale_death s lives (λ q. b.places q ∙ grind (arith, nat_tests)) in
    kept_of _ _ _ _ _ _ _ (subst (λ x. Keeps x holes capacity top taken births live) (sym gone) (record { free = k.free; height = k.height; filled = k.filled; next = k.next; counted = k.counted; fresh = k.fresh; roomy = k.roomy }))

pub block_low : (lives : List Life) (holes : List Hole) (capacity top taken births live s start n : ℕ) → IsKept lives holes capacity top taken births live → IsBlock (laid lives).marks s start n → start + n ≤ top
block_low lives holes capacity top taken births live s start n k b = omega (arith, k.height, block_inside (laid lives).marks s start n b)
