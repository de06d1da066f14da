-- The first memory is in order: a global's serial is its number, so their serials rise, and each may stand behind those before it.
use Rattle.std.proofs.Common.{◌≡◌, ◌∙◌, ◌<◌, ◌≤◌, ◌+◌, ◌*◌, ℕ, zero, suc, ◌⊎◌, inl, inr, Bool, true, false, cond, List, [], ◌∷◌, length, map, take, get_or, Option, Some, None, refl, sym, ap, subst, arith}
use Rattle.std.specs.Prelude.{is_some, slice_get, ◌==◌}
use Rattle.std.specs.Option.{option_map}
use Rattle.std.proofs.lemmas.List.{length-map}
use Rattle.std.proofs.lemmas.Option.{same_Some, slice_get-map, slice_get_cases, slice_get_within}
use Rattle.std.proofs.lemmas.Bool.{eqb-true, eq-eqb}
use Rattle.mdr_core.specs.declared.program.GlobalDef.{GlobalDef}
use Rattle.mdr_core.specs.declared.program.Program.{Program}
use Rattle.mdr_core.specs.declared.types.Ty.{Ty}
use Rattle.mdr_core.specs.declared.value.Value.{Value}
use Rattle.mdr_core.specs.declared.value.Value.TheVariants as value
use Rattle.mdr_core.specs.Layout.{Leaf, cells}
use Rattle.mdr_core.specs.Sound.{IsSound, all_cells}
use Rattle.mdr_core.proofs.Laid.{type_has_cells}
use Rattle.mdr_core.proofs.Lying.{length-repeated}
use Rattle.mdr_copy.specs.Serials.{RiseFrom, Rise}
use Rattle.mdr_meaning.specs.declared.wire.Wire.{Wire}
use Rattle.mdr_meaning.specs.declared.wire.Wire.TheVariants as wire
use Rattle.mdr_meaning.specs.declared.wire.WireView.{WireView}
use Rattle.mdr_meaning.specs.Bodies.{known_of}
use Rattle.mdr_meaning.specs.Numbers.{Numbered}
use Rattle.mdr_meaning.specs.Values.{wire_of, wire_view}
use Rattle.mdr_model.specs.declared.memory.MemoryBlock.{MemoryBlock}
use Rattle.mdr_model.specs.Agreement.{SerialsRise}
use Rattle.mdr_model.specs.Memory.{born_at, is_live}
use Rattle.mdr_plain.specs.Storage.{first_memory, global_block, global_blocks}
use Rattle.mdr_user_memory.specs.Beginning.{ComeInOrder, IsSized, MayCome}

globals_from : (known : Numbered) (least number : ℕ) (gs : List GlobalDef) → least ≤ number → RiseFrom least (global_blocks known number gs)
globals_from known least number [] l = tt
globals_from known least number (g ∷ gs) l = (l, globals_from known number (suc number) gs (omega arith))

pub globals_rise : (known : Numbered) (gs : List GlobalDef) → Rise (global_blocks known 0 gs)
globals_rise known gs = globals_from known 0 0 gs (omega arith)

high : (known : Numbered) (n : ℕ) (gs : List GlobalDef) (s : ℕ) → is_live (global_blocks known n gs) s ≡ true → n ≤ s
unfolding is_live born_at
high known n [] s h = absurd (grind (arith, h))
high known n (g ∷ gs) s h = of (n == s) refl h (high known (suc n) gs s)
  where
    of : (q : Bool) → (n == s) ≡ q → is_some (cond q (Some (global_block known n g).born) (born_at (global_blocks known (suc n) gs) s)) ≡ true → (is_some (born_at (global_blocks known (suc n) gs) s) ≡ true → suc n ≤ s) → n ≤ s
    of true e k later = omega (arith, eqb-true n s e)
    of false e k later = omega (arith, later k)

blocks_rise : (known : Numbered) (n : ℕ) (gs : List GlobalDef) → SerialsRise (global_blocks known n gs)
blocks_rise known n [] = tt
blocks_rise known n (g ∷ gs) = (λ s h. omega (arith, high known (suc n) gs s h), blocks_rise known (suc n) gs)

pub first_rises : (known : Numbered) → SerialsRise (first_memory known)
unfolding first_memory
first_rises known = blocks_rise known 0 known.program.globals

-- ---- each global may stand behind those before it

-- a block of the first memory is that of a global
pub record IsGlobal (gs : List GlobalDef) (i : ℕ) (b : MemoryBlock) : Type 0 where
  pub def : GlobalDef
  pub names : slice_get gs i ≡ Some def
  pub cells : map wire_of def.init ≡ b.cells

global_at : (known : Numbered) (n i : ℕ) (gs : List GlobalDef) (b : MemoryBlock) → slice_get (global_blocks known n gs) i ≡ Some b → IsGlobal gs i b
global_at known n i [] b e = absurd cc
global_at known n zero (g ∷ gs) b e = record { def = g; names = refl; cells = ap (λ (x : MemoryBlock). x.cells) (same_Some (global_block known n g) b e) }
global_at known n (suc i) (g ∷ gs) b e = let rest = global_at known (suc n) i gs b e in record { def = rest.def; names = rest.names; cells = rest.cells }

-- the globals before one are live
live_before : (known : Numbered) (n i s : ℕ) (gs : List GlobalDef) → n ≤ s → s < n + i → i ≤ length gs → is_live (take i (global_blocks known n gs)) s ≡ true
unfolding is_live born_at
live_before known n zero s gs low high few = absurd (omega (arith, low, high))
live_before known n (suc i) s [] low high few = absurd (omega (arith, few))
live_before known n (suc i) s (g ∷ gs) low high few = of (n == s) refl (λ above. live_before known (suc n) i s gs above (omega (arith, high)) (omega (arith, few)))
  where
    of : (q : Bool) → (n == s) ≡ q → (suc n ≤ s → is_live (take i (global_blocks known (suc n) gs)) s ≡ true) → is_some (cond q (Some (global_block known n g).born) (born_at (take i (global_blocks known (suc n) gs)) s)) ≡ true
    of true e later = refl
    of false e later = later (grind (arith, low, e, eq-eqb n s))

some_product : (n m : ℕ) → 1 ≤ n → 1 ≤ m → 0 < n * m
some_product zero m p q = absurd (omega (arith, p))
some_product (suc n) m p q = omega (arith, q)

module _ (program : Program) (sound : IsSound program) where
  some_cells : (ty : Ty) (count i : ℕ) → 1 ≤ count → slice_get program.types i ≡ Some ty → 0 < length (all_cells program ty count)
  unfolding cells
  some_cells ty count i some names = subst (λ n. 0 < n) (sym (length-repeated count (cells program ty))) (some_product count (length (cells program ty)) some (type_has_cells program sound i ty names).some)

  global_sized : (g : ℕ) (def : GlobalDef) → slice_get program.globals g ≡ Some def → IsSized (length (map wire_of def.init))
  global_sized g def names =
      let is = sound.globals g def names in
      let there = is.in_table in
      let each : length (all_cells program def.ty def.count) ≡ length (map wire_of def.init) = sym (length-map def.init wire_of ∙ is.each) in
      record {
        some = subst (λ n. 0 < n) each (some_cells def.ty def.count there.number (is.count).some there.names);
        few = subst (λ n. n ≤ 65536) each is.small;
      }

  -- a pointer of a first value names an earlier global
  names_earlier : (g : ℕ) (def : GlobalDef) (j : ℕ) (v : WireView) → slice_get program.globals g ≡ Some def → slice_get (map wire_of def.init) j ≡ Some (wire.Ptr v) → v.serial < g
  names_earlier g def j v names at = of (slice_get def.init j) refl (sym (slice_get-map wire_of def.init j) ∙ at)
    where
      leaf_at : (x : Value) → slice_get def.init j ≡ Some x → (leaf : Leaf) × (slice_get (all_cells program def.ty def.count) j ≡ Some leaf)
      leaf_at x e = by (slice_get_cases (all_cells program def.ty def.count) j).1
        where
          inside : j < length (all_cells program def.ty def.count)
          inside = subst (λ n. j < n) (sound.globals g def names).each (slice_get_within def.init j x e)

          by : ((leaf : Leaf) × (j < length (all_cells program def.ty def.count)) × (slice_get (all_cells program def.ty def.count) j ≡ Some leaf) × (get_or (all_cells program def.ty def.count) j leaf ≡ leaf))
              ⊎ ((length (all_cells program def.ty def.count) ≤ j) × (slice_get (all_cells program def.ty def.count) j ≡ None)) → (leaf : Leaf) × (slice_get (all_cells program def.ty def.count) j ≡ Some leaf)
          by (inl h) = (h.0, h.2)
          by (inr h) = absurd (omega (arith, h.0, inside))

      of : (o : Option Value) → slice_get def.init j ≡ o → option_map wire_of o ≡ Some (wire.Ptr v) → v.serial < g
      of None e p = absurd cc
      of (Some (value.Ptr view)) e p =
          let leaf = leaf_at (value.Ptr view) e in
          let earlier = ((sound.globals g def names).first j leaf.0 (value.Ptr view) leaf.1 e).earlier in
          let same : wire_view view ≡ v = cc in
          subst (λ (x : WireView). x.serial < g) same earlier
      of (Some (value.Int k n)) e p = absurd cc
      of (Some value.Null) e p = absurd cc
      of (Some value.Dead) e p = absurd cc
      of (Some (value.Fn f)) e p = absurd cc
      of (Some (value.Lock state)) e p = absurd cc
      of (Some value.NoValue) e p = absurd cc

pub first_ordered : (program : Program) → IsSound program → ComeInOrder (first_memory (known_of program))
unfolding first_memory
first_ordered program sound i b e =
    let g = global_at (known_of program) 0 i program.globals b e in
    let within = slice_get_within program.globals i g.def g.names in
    record {
      sized = subst (λ ws. IsSized (length ws)) g.cells (global_sized program sound i g.def g.names);
      earlier = λ j v at.
          let low : v.serial < i = names_earlier program sound i g.def j v g.names (subst (λ ws. slice_get ws j ≡ Some (wire.Ptr v)) (sym g.cells) at) in
          live_before (known_of program) 0 i v.serial program.globals (omega arith) (omega (arith, low)) (omega (arith, within));
    }
