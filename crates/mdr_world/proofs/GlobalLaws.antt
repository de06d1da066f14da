-- First values of globals name globals that were born before.
use Rattle.std.proofs.Common.{◌≡◌, ◌∙◌, ◌+◌, ◌<◌, ◌≤◌, ℕ, zero, suc, ◌⊎◌, inl, inr, Bool, true, false, cond, List, [], ◌∷◌, ◌++◌, length, fold, map, get_or, Some, None, refl, sym, ap, subst, arith}
use Rattle.std.specs.Prelude.{◌==◌, is_some, slice_get}
use Rattle.std.proofs.lemmas.Bool.{eq-eqb}
use Rattle.std.proofs.lemmas.Option.{slice_get_cases, slice_get_within}
use Rattle.mdr_core.specs.declared.program.GlobalDef.{GlobalDef}
use Rattle.mdr_core.specs.declared.program.Program.{Program}
use Rattle.mdr_core.specs.declared.value.Block.{Block}
use Rattle.mdr_core.specs.declared.value.Value.{Value}
use Rattle.mdr_core.specs.declared.value.Value.TheVariants as value
use Rattle.mdr_core.specs.Layout.{Leaf}
use Rattle.mdr_core.specs.Sound.{IsFirstValue, IsSoundGlobal, all_cells}
use Rattle.mdr_mem.specs.Contents.{births_in, current, is_birth, wire_in}
use Rattle.mdr_mem.specs.declared.cells.Life.{Life}
use Rattle.mdr_meaning.specs.Numbers.{Numbered}
use Rattle.mdr_meaning.specs.Values.{wire_of, wire_view}
use Rattle.mdr_model.specs.declared.memory.MemoryBlock.{MemoryBlock}
use Rattle.mdr_model.specs.Memory.{Memory, born_at, is_live, normal, normal_if}
use Rattle.mdr_plain.specs.Storage.{birth_of, global_block, global_blocks}
use Rattle.mdr_world.specs.Stored.{AreSoundGlobals, AreThere, IsThere}

-- ---- values

normal_there : (m : Memory) (v : Value) → IsThere m v → normal m (wire_of v) ≡ wire_of v
unfolding normal
normal_there m (value.Ptr p) h = ap (λ t. normal_if t (wire_view p)) h
normal_there m (value.Int k n) h = refl
normal_there m value.Null h = refl
normal_there m value.Dead h = refl
normal_there m (value.Fn f) h = refl
normal_there m (value.Lock s) h = refl
normal_there m value.NoValue h = refl

pub placed_there : (m : Memory) (hs : List Block) (v x : Value) → IsThere m v → wire_of x ≡ normal m (wire_of v) → current hs x ≡ x → wire_in hs x ≡ wire_of v
placed_there m hs v x there is same = ap wire_of same ∙ is ∙ normal_there m v there

-- ---- a global's first values

module _ (program : Program) (g : ℕ) (def : GlobalDef) (is : IsSoundGlobal program g def) where
  abbrev all : List Leaf
  all = all_cells program def.ty def.count

  leaf_by : (j : ℕ) (x : Value) → slice_get def.init j ≡ Some x → ((leaf : Leaf) × (j < length all) × (slice_get all j ≡ Some leaf) × (get_or all j leaf ≡ leaf)) ⊎ ((length all ≤ j) × (slice_get all j ≡ None))
      → (leaf : Leaf) × IsFirstValue program g leaf.type x
  leaf_by j x e (inl h) = (h.0, is.first j h.0 x h.2 e)
  leaf_by j x e (inr h) = let inside : j < length all = subst (λ n. j < n) is.each (slice_get_within def.init j x e) in absurd (omega (arith, h.0, inside))

  first_there : (m : Memory) → ((s : ℕ) → s < g → is_live m s ≡ true) → (x : Value) (leaf : Leaf) → IsFirstValue program g leaf.type x → IsThere m x
  first_there m live (value.Ptr view) leaf h = live view.block.serial h.earlier
  first_there m live (value.Int k n) leaf h = tt
  first_there m live value.Null leaf h = tt
  first_there m live value.Dead leaf h = tt
  first_there m live (value.Fn f) leaf h = tt
  first_there m live (value.Lock state) leaf h = tt
  first_there m live value.NoValue leaf h = tt

  pub all_there : (m : Memory) → ((s : ℕ) → s < g → is_live m s ≡ true) → AreThere m def.init
  all_there m live j x e = let leaf = leaf_by j x e (slice_get_cases all j).1 in first_there m live x leaf.0 leaf.1

-- ---- the globals that are born

births_from : (k : ℕ) (m : Memory) → fold (λ (a : ℕ) (x : Life). a + cond (is_birth x) 1 0) k (map birth_of m) ≡ k + length m
births_from k [] = omega arith
births_from k (b ∷ m) = let more : (k + 1) + length m ≡ k + suc (length m) = omega arith in births_from (k + 1) m ∙ more

births_all : (m : Memory) → births_in (map birth_of m) ≡ length m
births_all m = let none : 0 + length m ≡ length m = omega arith in births_from 0 m ∙ none

-- those before one live
live_before : (known : Numbered) (n : ℕ) (gs : List GlobalDef) (m rest : Memory) (s : ℕ) → m ++ rest ≡ global_blocks known n gs → n ≤ s → s < n + length m → is_live m s ≡ true
unfolding is_live born_at
live_before known n gs [] rest s e low high = absurd (omega (arith, low, high))
live_before known n [] (b ∷ m) rest s e low high = absurd cc
live_before known n (g ∷ gs) (b ∷ m) rest s e low high =
    let block : b ≡ global_block known n g = cc in
    let blocks : m ++ rest ≡ global_blocks known (suc n) gs = cc in
    of (b.born.serial == s) refl (ap (λ (x : MemoryBlock). x.born.serial) block) (λ above. live_before known (suc n) gs m rest s blocks above (omega (arith, high)))
  where
    of : (q : Bool) → (b.born.serial == s) ≡ q → b.born.serial ≡ n → (suc n ≤ s → is_live m s ≡ true) → is_some (cond q (Some b.born) (born_at m s)) ≡ true
    of true k same later = refl
    of false k same later = later (grind (arith, low, k, same, eq-eqb b.born.serial s))

pub live_so_far : (known : Numbered) (gs : List GlobalDef) (m rest : Memory) (lives : List Life) (i : ℕ) → m ++ rest ≡ global_blocks known 0 gs → births_in lives ≡ i → lives ≡ map birth_of m → (s : ℕ) → s < i → is_live m s ≡ true
live_so_far known gs m rest lives i e count are s low =
    let many : length m ≡ i = sym (births_all m) ∙ ap births_in (sym are) ∙ count in
    live_before known 0 gs m rest s e (omega arith) (omega (arith, low, many))
