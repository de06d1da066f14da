-- What a store, a death and a birth keep of a memory that is in order.
use Rattle.std.proofs.Common.{◌≡◌, ◌⊎◌, inl, inr, ℕ, suc, ◌<◌, ◌≤◌, Bool, true, false, cond, [], ◌∷◌, ◌++◌, slice_get, Option, Some, None, refl, sym, ap, ◌∙◌, subst, arith}
use Rattle.std.specs.Prelude.{◌==◌, is_some, nat_le, option_map}
use Rattle.std.proofs.lemmas.Bool.{cond-true, cond-false, eq-eqb, eqb-true, ne_eqb, leb-true}
use Rattle.mdr_core.specs.declared.program.GlobalDef.{GlobalDef}
use Rattle.mdr_core.specs.declared.program.Program.{Program}
use Rattle.mdr_core.specs.declared.types.Shape.{Shape}
use Rattle.mdr_core.specs.Layout.{Leaf}
use Rattle.mdr_meaning.specs.declared.wire.Wire.{Wire}
use Rattle.mdr_meaning.specs.declared.wire.WireView.{WireView}
use Rattle.mdr_meaning.specs.Fit.{Grows, IsKnownView, Knowledge, KnowsGlobals}
use Rattle.mdr_model.specs.declared.memory.Cell.{Cell}
use Rattle.mdr_model.specs.declared.memory.MemoryBlock.{MemoryBlock}
use Rattle.mdr_model.specs.declared.message.New.{New}
use Rattle.mdr_model.specs.Agreement.{IsBelow}
use Rattle.mdr_model.specs.Copies.{inserted}
use Rattle.mdr_model.specs.Memory.{Memory, born_at, cell_at, is_live, killed, leaf_at, normal, put, swept, zero_block}
use Rattle.mdr_model.specs.Sets.{is_same_cell}
use Rattle.mdr_model.specs.User.{has_shape}
use Rattle.mdr_model.proofs.KernelSteps.{steps_may_follow}
use Rattle.mdr_model.proofs.LifeLaws.{born_at-inserted, born_at-killed, cell_at-inserted, cell_at-killed, zero_block-get}
use Rattle.mdr_model.proofs.MemoryLaws.{born_at-put, cell_at-put, replaced, same_cell}
use Rattle.mdr_holds.specs.Holding.{FitsCell, IsMemory, KnowsBirths, born_global, shape_of}
use Rattle.mdr_holds.proofs.Fitting.{cell_grows, cell_swept, some_is}
use Rattle.mdr_holds.proofs.Zeros.{zero_cell_fits}

-- ---- blocks that live

pub live_born : (m : Memory) (serial : ℕ) (b : New) → born_at m serial ≡ Some b → is_live m serial ≡ true
unfolding is_live
live_born m serial b e = ap (λ (o : Option New). is_some o) e

pub born_live : (m : Memory) (serial : ℕ) → is_live m serial ≡ true → (b : New) × (born_at m serial ≡ Some b)
unfolding is_live
born_live m serial e = of (born_at m serial) e where
  of : (o : Option New) → is_some o ≡ true → (b : New) × (o ≡ Some b)
  of None h = absurd cc
  of (Some b) h = (b, refl)

pub same_born : (m : Memory) (serial : ℕ) (b : New) → born_at m serial ≡ Some b → b.serial ≡ serial
unfolding born_at
same_born [] serial b e = absurd cc
same_born (x ∷ m) serial b e = of (x.born.serial == serial) refl e (same_born m serial b) where
  of : (t : Bool) → (x.born.serial == serial) ≡ t → cond t (Some x.born) (born_at m serial) ≡ Some b → (born_at m serial ≡ Some b → b.serial ≡ serial) → b.serial ≡ serial
  of true q h later = ap (λ (n : New). n.serial) (sym (some_is h)) ∙ eqb-true _ _ q
  of false q h later = later h

-- ---- a block that is born last stands behind all others

above_all : (x : MemoryBlock) (m : Memory) (next : ℕ) → IsBelow next (x ∷ m) → x.born.serial < next
unfolding is_live born_at
above_all x m next low = low x.born.serial (ap (λ (o : Option New). is_some o) (cond-true _ (Some x.born) (born_at m x.born.serial) (eq-eqb x.born.serial x.born.serial refl)))

below_rest : (x : MemoryBlock) (m : Memory) (next : ℕ) → IsBelow next (x ∷ m) → IsBelow next m
unfolding is_live born_at
below_rest x m next low s h = low s (of (x.born.serial == s) h) where
  of : (t : Bool) → is_some (born_at m s) ≡ true → is_some (cond t (Some x.born) (born_at m s)) ≡ true
  of true e = refl
  of false e = e

pub inserted_last : (b : MemoryBlock) (m : Memory) → IsBelow b.born.serial m → inserted b m ≡ m ++ b ∷ []
unfolding inserted
inserted_last b [] low = refl
inserted_last b (x ∷ m) low = of (nat_le b.born.serial x.born.serial) refl (inserted_last b m (below_rest x m b.born.serial low)) where
  of : (t : Bool) → nat_le b.born.serial x.born.serial ≡ t → inserted b m ≡ m ++ b ∷ [] → cond t (b ∷ x ∷ m) (x ∷ inserted b m) ≡ x ∷ (m ++ b ∷ [])
  of true e rest = let under : b.born.serial ≤ x.born.serial = leb-true _ _ e in let over : x.born.serial < b.born.serial = above_all x m b.born.serial low in absurd (omega (arith, under, over))
  of false e rest = ap (λ (xs : Memory). x ∷ xs) rest

-- ---- what is known when a block is born

abbrev pub with_birth : Knowledge → New → Knowledge
with_birth K n = record { blocks = λ s. cond (n.serial == s) (Some (shape_of n)) (K.blocks s); uses = K.uses }

pub birth_grows : (K : Knowledge) (n : New) → KnowsBirths K n.serial → Grows K (with_birth K n)
birth_grows K n h = record { stays = λ s shape e. cond-false _ _ _ (ne_eqb n.serial s (λ same. let low : s < n.serial = h.told s shape e in absurd (omega (arith, low, same)))) ∙ e; same = refl }

pub birth_known : (K : Knowledge) (n : New) (next : ℕ) → next ≡ suc n.serial → KnowsBirths K n.serial → KnowsBirths (with_birth K n) next
birth_known K n next is h = record { told = λ s shape e. told s shape (n.serial == s) refl e; each = λ s low. each s (n.serial == s) refl low } where
  told : (s : ℕ) (shape : Shape) (t : Bool) → (n.serial == s) ≡ t → cond t (Some (shape_of n)) (K.blocks s) ≡ Some shape → s < next
  told s shape true q e = let same : n.serial ≡ s = eqb-true _ _ q in omega (arith, same, is)
  told s shape false q e = let low : s < n.serial = h.told s shape e in omega (arith, low, is)

  each : (s : ℕ) (t : Bool) → (n.serial == s) ≡ t → s < next → (shape : Shape) × (cond t (Some (shape_of n)) (K.blocks s) ≡ Some shape)
  each s true q low = (shape_of n, refl)
  each s false q low = h.each s (other s q low) where
    other : (s : ℕ) → (n.serial == s) ≡ false → s < next → s < n.serial
    other s q low = let apart : n.serial ≡ s → ⊥ = λ e. let both : true ≡ false = sym (eq-eqb n.serial s e) ∙ q in absurd cc in omega (arith, apart, low, is)

module _ (program : Program) (K : Knowledge) where
  -- ---- a store

  pub memory_put : (m : Memory) (next : ℕ) (c : Cell) (v : Wire) → IsMemory program K m → IsBelow next m
      → ((b : New) (leaf : Leaf) → born_at m c.serial ≡ Some b → leaf_at program b c.index ≡ Some leaf → FitsCell program K leaf.type (normal m v)) → IsMemory program K (put m c (normal m v))
  memory_put m next c v h low f = record {
    formed = (steps_may_follow.store program next m c v h.formed low).formed;
    globals = λ g def e. born_at-put m c (normal m v) g ∙ h.globals g def e;
    shapes = λ s b e. h.shapes s b (sym (born_at-put m c (normal m v) s) ∙ e);
    known = λ s b e. h.known s b (sym (born_at-put m c (normal m v) s) ∙ e);
    fit = λ d b leaf w e l q. of d b leaf w (is_same_cell d c) refl (sym (born_at-put m c (normal m v) d.serial) ∙ e) l (sym (cell_at-put m c (normal m v) d) ∙ q);
  }
    where
      stored : (d : Cell) (b : New) (leaf : Leaf) (w : Wire) (o : Option Wire) → d ≡ c → born_at m d.serial ≡ Some b → leaf_at program b d.index ≡ Some leaf → replaced o (normal m v) ≡ Some w → FitsCell program K leaf.type w
      stored d b leaf w None same e l q = absurd cc
      stored d b leaf w (Some old) same e l q =
          subst (FitsCell program K leaf.type) (some_is q)
          (f b leaf (ap (λ (x : Cell). born_at m x.serial) (sym same) ∙ e) (ap (λ (x : Cell). leaf_at program b x.index) (sym same) ∙ l))

      of : (d : Cell) (b : New) (leaf : Leaf) (w : Wire) (t : Bool) → is_same_cell d c ≡ t → born_at m d.serial ≡ Some b → leaf_at program b d.index ≡ Some leaf → cond t (replaced (cell_at m d) (normal m v)) (cell_at m d) ≡ Some w → FitsCell program K leaf.type w
      of d b leaf w true s e l q = stored d b leaf w (cell_at m d) (same_cell d c s) e l q
      of d b leaf w false s e l q = h.fit d b leaf w e l q

  -- ---- a death

  killed_other : (m : Memory) (dead s : ℕ) (b : New) → born_at (killed dead m) s ≡ Some b → ((dead == s) ≡ false) × (born_at m s ≡ Some b)
  killed_other m dead s b e = of (dead == s) refl (sym (born_at-killed dead m s) ∙ e) where
    of : (t : Bool) → (dead == s) ≡ t → cond t None (born_at m s) ≡ Some b → ((dead == s) ≡ false) × (born_at m s ≡ Some b)
    of true q h = absurd cc
    of false q h = (q, h)

  pub memory_killed : (m : Memory) (next dead : ℕ) → IsMemory program K m → IsBelow next m → ((def : GlobalDef) → slice_get program.globals dead ≡ Some def → ⊥) → IsMemory program K (killed dead m)
  memory_killed m next dead h low none = record {
    formed = (steps_may_follow.death program next m dead h.formed low).formed;
    globals = λ g def e. born_at-killed dead m g ∙ cond-false _ _ _ (ne_eqb dead g (λ same. none def (ap (slice_get program.globals) same ∙ e))) ∙ h.globals g def e;
    shapes = λ s b e. h.shapes s b (killed_other m dead s b e).1;
    known = λ s b e. h.known s b (killed_other m dead s b e).1;
    fit = λ d b leaf v e l q. fitted d b leaf v (killed_other m dead d.serial b e) l (cell_at m d) refl (sym (cell_at-killed dead m d) ∙ q);
  }
    where
      fitted : (d : Cell) (b : New) (leaf : Leaf) (v : Wire) → ((dead == d.serial) ≡ false) × (born_at m d.serial ≡ Some b) → leaf_at program b d.index ≡ Some leaf → (o : Option Wire) → cell_at m d ≡ o
          → cond (dead == d.serial) None (option_map (swept dead) o) ≡ Some v → FitsCell program K leaf.type v
      fitted d b leaf v apart l None is q = absurd (none_is (sym (cond-false _ _ _ apart.0) ∙ q)) where
        none_is : {A : Type 0} {x : A} → None ≡ Some x → ⊥
        none_is e = cc
      fitted d b leaf v apart l (Some w) is q =
          let same : swept dead w ≡ v = some_is (sym (cond-false _ _ _ apart.0) ∙ q) in
          subst (FitsCell program K leaf.type) same (cell_swept program K dead leaf.type w (h.fit d b leaf w apart.1 l is))

  -- ---- a birth

  born_either : (n : New) (m : Memory) (s : ℕ) (b : New) → born_at (inserted (zero_block program n) m) s ≡ Some b → ((n.serial ≡ s) × (n ≡ b)) ⊎ (((n.serial == s) ≡ false) × (born_at m s ≡ Some b))
  born_either n m s b e = of (n.serial == s) refl (sym (born_at-inserted (zero_block program n) m s) ∙ e) where
    of : (t : Bool) → (n.serial == s) ≡ t → cond t (Some n) (born_at m s) ≡ Some b → ((n.serial ≡ s) × (n ≡ b)) ⊎ (((n.serial == s) ≡ false) × (born_at m s ≡ Some b))
    of true q h = inl (eqb-true _ _ q, some_is h)
    of false q h = inr (q, h)

  pub memory_born : (m : Memory) (n : New) → IsMemory program K m → IsBelow n.serial m → KnowsBirths K n.serial → has_shape program n ≡ true → IsMemory program (with_birth K n) (inserted (zero_block program n) m)
  memory_born m n h low births shape = record {
    formed = (steps_may_follow.birth program m n h.formed low).formed;
    globals = λ g def e. born_at-inserted (zero_block program n) m g
        ∙ cond-false _ _ _ (ne_eqb n.serial g (λ same. let under : g < n.serial = low g (live_born m g _ (h.globals g def e)) in absurd (omega (arith, same, under)))) ∙ h.globals g def e;
    shapes = λ s b e. shaped s b (born_either n m s b e);
    known = λ s b e. knows s b (born_either n m s b e);
    fit = λ d b leaf v e l q. fitted d b leaf v (born_either n m d.serial b e) l (sym (cell_at-inserted (zero_block program n) m d) ∙ q);
  }
    where
      shaped : (s : ℕ) (b : New) → ((n.serial ≡ s) × (n ≡ b)) ⊎ (((n.serial == s) ≡ false) × (born_at m s ≡ Some b)) → has_shape program b ≡ true
      shaped s b (inl e) = subst (λ (x : New). has_shape program x ≡ true) e.1 shape
      shaped s b (inr e) = h.shapes s b e.1

      knows : (s : ℕ) (b : New) → ((n.serial ≡ s) × (n ≡ b)) ⊎ (((n.serial == s) ≡ false) × (born_at m s ≡ Some b)) → cond (n.serial == s) (Some (shape_of n)) (K.blocks s) ≡ Some (shape_of b)
      knows s b (inl e) = cond-true _ _ _ (eq-eqb n.serial s e.0) ∙ ap (λ (x : New). Some (shape_of x)) e.1
      knows s b (inr e) = cond-false _ _ _ e.0 ∙ h.known s b e.1

      fitted : (d : Cell) (b : New) (leaf : Leaf) (v : Wire) → ((n.serial ≡ d.serial) × (n ≡ b)) ⊎ (((n.serial == d.serial) ≡ false) × (born_at m d.serial ≡ Some b)) → leaf_at program b d.index ≡ Some leaf → cond (n.serial == d.serial) (slice_get (zero_block program n).cells d.index) (cell_at m d) ≡ Some v
          → FitsCell program (with_birth K n) leaf.type v
      fitted d b leaf v (inl e) l q =
          zero_cell_fits program (with_birth K n) n d.index leaf v (ap (λ (x : New). leaf_at program x d.index) e.1 ∙ l) (sym (zero_block-get program n d.index) ∙ sym (cond-true _ _ _ (eq-eqb n.serial d.serial e.0)) ∙ q)
      fitted d b leaf v (inr e) l q = cell_grows program K (with_birth K n) (birth_grows K n births) leaf.type v (h.fit d b leaf v e.1 l (sym (cond-false _ _ _ e.0) ∙ q))

  -- ---- what is known of pointers

  pub pointer_shape : (m : Memory) (p : WireView) (b : New) → IsMemory program K m → (v : IsKnownView program K p) → born_at m p.serial ≡ Some b → shape_of b ≡ v.shape
  pointer_shape m p b h v e = some_is (sym (h.known p.serial b e) ∙ v.known)

  pub globals_known : (m : Memory) → IsMemory program K m → KnowsGlobals program K
  globals_known m h = record { knows = λ g def e. h.known g (born_global program g def) (h.globals g def e) }
