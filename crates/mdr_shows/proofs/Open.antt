-- Cells of sets live, and none is a lock.
use Rattle.std.proofs.Common.{◌≡◌, ℕ, ◌<◌, ◌≤◌, Bool, true, false, List, [], ◌∷◌, Option, Some, None, refl, sym, ◌∙◌, ap, subst, arith}
use Rattle.std.specs.Prelude.{cond, is_some, length, nat_lt, option_map, slice_get, unwrap_or, ◌==◌}
use Rattle.std.proofs.lemmas.Bool.{both_ways, eqb-true}
use Rattle.std.proofs.lemmas.Option.{slice_get_within}
use Rattle.mdr_access.proofs.OwnedLaws.{one_of}
use Rattle.mdr_core.specs.declared.plan.Key.{Key}
use Rattle.mdr_core.specs.declared.plan.Plan.{Plan}
use Rattle.mdr_core.specs.declared.program.GlobalDef.{GlobalDef}
use Rattle.mdr_core.specs.declared.program.Program.{Program}
use Rattle.mdr_core.specs.Layout.{Leaf, chosen, key_by}
use Rattle.mdr_core.specs.Suited.{IsSuited}
use Rattle.mdr_extents.specs.Around.{global_of, key_of}
use Rattle.mdr_extents.specs.CellOrder.{cells}
use Rattle.mdr_extents.specs.Extent.{has_key, is_touched}
use Rattle.mdr_extents.specs.Reaching.{counts, counts_in}
use Rattle.mdr_meaning.specs.declared.wire.Wire.{Wire}
use Rattle.mdr_model.specs.declared.memory.Cell.{Cell}
use Rattle.mdr_model.specs.declared.message.New.{New}
use Rattle.mdr_model.specs.Agreement.{MayFollow}
use Rattle.mdr_model.specs.Memory.{Memory, born_at, is_live, leaf_at, put}
use Rattle.mdr_model.proofs.MemoryLaws.{born_at-put}
use Rattle.mdr_paths.specs.Paths.{is_in}
use Rattle.mdr_shows.specs.Cells.{AreOpenKeys, GlobalsAreTyped, IsSetOf, is_lock_at, is_lock_in, is_lock_leaf}
use Rattle.mdr_shows.specs.Laws.{SetsAreOpen}
use Rattle.mdr_shows.proofs.Leaves.{block_open}
use Rattle.mdr_shows.proofs.Named.{counts_live}

-- ---- sets in another memory

-- a set stays one where its blocks are as they were
pub set_moved : (program : Program) (touched : List Key) (m m' : Memory) (set : List Cell) → ((c : Cell) → is_in cells set c ≡ true → born_at m' c.serial ≡ born_at m c.serial) → IsSetOf program touched m set → IsSetOf program touched m' set
set_moved program touched m m' set same s = record { rises = s.rises; counted = λ c h. ap (counts_in program touched m' c.index) (same c h) ∙ s.counted c h }

pub set_stored : (program : Program) (touched : List Key) (m : Memory) (set : List Cell) (c : Cell) (v : Wire) → IsSetOf program touched m set → IsSetOf program touched (put m c v) set
set_stored program touched m set c v s = set_moved program touched m (put m c v) set (λ d h. born_at-put m c v d.serial) s

-- ---- locks

-- a block is found under its own serial
pub born_serial : (m : Memory) (serial : ℕ) (block : New) → born_at m serial ≡ Some block → block.serial ≡ serial
unfolding born_at
born_serial [] serial block e = let no : ◌≡◌ {A = Option New} None (Some block) = e in cc
born_serial (b ∷ m) serial block e = of (b.born.serial == serial) refl e (born_serial m serial block)
  where
    of : (t : Bool) → (b.born.serial == serial) ≡ t → cond t (Some b.born) (born_at m serial) ≡ Some block → (born_at m serial ≡ Some block → block.serial ≡ serial) → block.serial ≡ serial
    of true t h later = let same : b.born ≡ block = cc in subst (λ (x : New). x.serial ≡ serial) same (eqb-true b.born.serial serial t)
    of false t h later = later h

module _ (program : Program) (touched : List Key) (m : Memory) (open_keys : AreOpenKeys program touched) (typed : GlobalsAreTyped program m) where
  leaf_open : (block : New) (index serial : ℕ) (o : Option Leaf) → born_at m serial ≡ Some block → leaf_at program block index ≡ o → has_key touched (option_map (λ (l : Leaf). key_by l.home (global_of program block) block.ty) o) ≡ true → is_lock_leaf o ≡ false
  leaf_open block index serial None born is h = refl
  leaf_open block index serial (Some l) born is h = block_open program block index l (global_of program block) is named (open_keys _ h)
    where
      by_test : (t : Bool) (g : ℕ) → chosen t (Some block.serial) None ≡ Some g → block.serial ≡ g
      by_test true g e = cc
      by_test false g e = let no : ◌≡◌ {A = Option ℕ} None (Some g) = e in cc

      named : (g : ℕ) (def : GlobalDef) → global_of program block ≡ Some g → slice_get program.globals g ≡ Some def → slice_get program.types block.ty ≡ Some def.ty
      named g def e is_def = typed serial block def born (ap (slice_get program.globals) (sym (born_serial m serial block born) ∙ by_test (nat_lt block.serial (length program.globals)) g e) ∙ is_def)

  block_is_open : (index serial : ℕ) (o : Option New) → born_at m serial ≡ o → counts_in program touched m index o ≡ true → is_lock_in program o index ≡ false
  unfolding is_touched key_of
  block_is_open index serial None born h = refl
  block_is_open index serial (Some block) born h = leaf_open block index serial (leaf_at program block index) born refl h

  -- a cell that counts is no lock
  pub counts_open : (c : Cell) → counts program touched m c ≡ true → is_lock_at program m c ≡ false
  counts_open c h = block_is_open c.index c.serial (born_at m c.serial) refl h

-- ---- plans

listed_open : (program : Program) (plan : Plan) (t : ℕ) (o : Option (List Key)) → IsSuited plan program → slice_get plan.keys t ≡ o → AreOpenKeys program (unwrap_or o [])
unfolding is_in
listed_open program plan t None suited e k h = absurd (both_ways false refl h)
listed_open program plan t (Some ks) suited e k h = let one = (one_of ks k true (sym h)).0 refl in suited.keys t one.at ks k e one.is

-- ---- globals

globals_typed : (program : Program) (next next' : ℕ) (m m' : Memory) → length program.globals ≤ next → MayFollow program next m next' m' → GlobalsAreTyped program m → GlobalsAreTyped program m'
unfolding is_live
globals_typed program next next' m m' few follows typed serial block g born is =
    let inside : serial < length program.globals = slice_get_within program.globals serial g is in
    let live : is_some (born_at m' serial) ≡ true = ap (λ (o : Option New). is_some o) born in
    typed serial block g (sym (follows.old serial live (omega (arith, inside, few))) ∙ born) is

pub sets_are_open : SetsAreOpen
sets_are_open = record {
  live = λ program touched m set s c h. counts_live program touched m c (s.counted c h);
  no_locks = λ program touched m set open_keys typed s c h. counts_open program touched m open_keys typed c (s.counted c h);
  keys = λ program plan t suited. listed_open program plan t (slice_get plan.keys t) suited refl;
  globals = globals_typed;
  stores = set_stored;
}
