-- A memory of one's own for a copy.
use Rattle.std.proofs.Common.{◌≡◌, ◌∙◌, ◌<◌, ℕ, zero, suc, true, false, List, [], ◌∷◌, ◌++◌, length, map, take, get_or, Option, Some, None, refl, sym, ap, subst, arith}
use Rattle.std.specs.Prelude.{is_some}
use Rattle.std.proofs.lemmas.Bool.{eqb-true, eq-eqb}
use Rattle.std.proofs.lemmas.List.{length-map}
use Rattle.mdr_core.specs.declared.value.Block.{Block}
use Rattle.mdr_core.specs.declared.value.Value.{Value}
use Rattle.mdr_meaning.specs.declared.wire.Wire.{Wire}
use Rattle.mdr_meaning.specs.declared.wire.Wire.TheVariants as wire
use Rattle.mdr_meaning.specs.Fit.{view_of}
use Rattle.mdr_model.specs.declared.memory.MemoryBlock.{MemoryBlock}
use Rattle.mdr_model.specs.Agreement.{SerialsRise, names_it}
use Rattle.mdr_model.specs.Copies.{inserted}
use Rattle.mdr_model.specs.Memory.{Memory, born_at, cell_at, is_live}
use Rattle.mdr_model.specs.Values.{value_of}
use Rattle.mdr_model.proofs.LifeLaws.{born_at-inserted, cell_at-inserted}
use Rattle.mdr_mem.specs.Contents.{Contents, current, handle_of, is_handle, wire_in}
use Rattle.mdr_track.specs.Pairs.{Pairs, no_pairs}
use Rattle.mdr_track.specs.Pointers.{addressed, pointer}
use Rattle.mdr_user_memory.specs.declared.newborn.Newborn.{Newborn}
use Rattle.mdr_user_memory.specs.Beginning.{ArePaired, IsSized, MayCome}
use Rattle.mdr_user_memory.specs.Paired.{IsLinked, Paired, is_paired, told, told_all}
use Rattle.mdr_user_memory.specs.Taking.{Moves, block_of}
use Rattle.mdr_user_memory.proofs.HandleLaws.{born_at-append, cell_at-append}
use Rattle.mdr_user_memory.proofs.MessageLaws.{not_paired}
use Rattle.mdr_user_memory.proofs.TwinLaws.{paired-same}
use Rattle.mdr_user_memory.proofs.ValueLaws.{placed_back}

-- a value of the copy, put into a cell and told again
pub placed_is : (r : Contents) (ps : Pairs) (w : Wire) → IsLinked r ps → is_paired ps w ≡ true → told r.handles ps (wire_in r.handles (addressed ps (value_of w))) ≡ w
unfolding told current addressed
placed_is r ps (wire.Ptr p) l h = of (ps.user_of p.serial) refl h
  where
    of : (o : Option Block) → ps.user_of p.serial ≡ o → is_some o ≡ true → told r.handles ps (wire_in r.handles (pointer (view_of p) o)) ≡ wire.Ptr p
    of None e k = absurd (grind (arith, k))
    of (Some b) e k = placed_back r.handles ps l.matched l.only l.order.one (view_of p) b e
placed_is r ps (wire.Int k n) l h = refl
placed_is r ps wire.Null l h = refl
placed_is r ps wire.Dead l h = refl
placed_is r ps (wire.Fn f) l h = refl
placed_is r ps (wire.Lock s) l h = refl
placed_is r ps wire.NoValue l h = refl

-- where pointers name blocks of the copy, their blocks are paired
pub named_paired : (m : Memory) (r : Contents) (ps : Pairs) (ws : List Wire) → Paired m r ps → MayCome m ws → ArePaired ps ws
named_paired m r ps ws p come i (wire.Ptr v) e = sym (p.twin.live v.serial) ∙ come.earlier i v e
named_paired m r ps ws p come i (wire.Int k n) e = refl
named_paired m r ps ws p come i wire.Null e = refl
named_paired m r ps ws p come i wire.Dead e = refl
named_paired m r ps ws p come i (wire.Fn f) e = refl
named_paired m r ps ws p come i (wire.Lock s) e = refl
named_paired m r ps ws p come i wire.NoValue e = refl

-- ---- a block more

pub first_sized : (hs : List Block) (ps : Pairs) (vs : List Value) (ws : List Wire) → told_all hs ps vs ≡ ws → IsSized (length ws) → IsSized (length vs)
first_sized hs ps vs ws e s = subst IsSized (sym (ap length e) ∙ length-map (map (wire_in hs) vs) (told hs ps) ∙ length-map vs (wire_in hs)) s

absent : {m : Memory} {r : Contents} {ps : Pairs} (s : ℕ) → Paired m r ps → ps.user_of s ≡ None → is_live m s ≡ false
absent s p e = p.twin.live s ∙ ap is_some e

pub appended : (b : MemoryBlock) (r r' : Contents) (ps ps' : Pairs) → ps.user_of b.born.serial ≡ None → Moves (inserted b) r ps r' ps' → Moves (λ m. m ++ b ∷ []) r ps r' ps'
appended b r r' ps ps' new moves m p =
    let none : is_live m b.born.serial ≡ false = absent b.born.serial p new in
    paired-same (λ s. born_at-append m b s none ∙ sym (born_at-inserted b m s)) (λ c. cell_at-append m b c none ∙ sym (cell_at-inserted b m c)) (moves m p)

pub added : (b : MemoryBlock) (x : Newborn) (r r' : Contents) (ps ps' : Pairs) → x.born ≡ b.born → told_all r.handles ps x.first ≡ b.cells → ps.user_of x.born.serial ≡ None
    → Moves (inserted (block_of x r.handles ps)) r ps r' ps' → Moves (λ m. m ++ b ∷ []) r ps r' ps'
added b x r r' ps ps' born cells new moves =
    let is : block_of x r.handles ps ≡ b = λ i. record { born = born i; cells = cells i } in
    appended b r r' ps ps' (ap (λ n. ps.user_of n.serial) (sym born) ∙ new) (subst (λ y. Moves (inserted y) r ps r' ps') is moves)

-- ---- its serial

live_at : (m : Memory) (i : ℕ) (b : MemoryBlock) → i < length m → b ≡ get_or m i b → is_live m b.born.serial ≡ true
unfolding is_live born_at
live_at [] i b low is = absurd (grind (arith, low))
live_at (x ∷ m) zero b low is = grind (arith, eq-eqb x.born.serial b.born.serial (sym (ap (λ (y : MemoryBlock). y.born.serial) is)))
live_at (x ∷ m) (suc i) b low is =
    let fewer : i < length m = omega (arith, low) in grind (arith, live_at m i b fewer is)

-- those before it have smaller serials
new_behind : (m : Memory) (i : ℕ) (b : MemoryBlock) → i < length m → b ≡ get_or m i b → SerialsRise m → is_live (take i m) b.born.serial ≡ false
unfolding is_live born_at
new_behind [] i b low is r = absurd (grind (arith, low))
new_behind (x ∷ m) zero b low is r = refl
new_behind (x ∷ m) (suc i) b low is r =
    let fewer : i < length m = omega (arith, low) in
    let above : x.born.serial < b.born.serial = r.0 b.born.serial (live_at m i b fewer is) in
    grind (arith, above, new_behind m i b fewer is r.1, eqb-true x.born.serial b.born.serial)

pub free_behind : (m : Memory) (i : ℕ) (b : MemoryBlock) (r : Contents) (ps : Pairs) → i < length m → b ≡ get_or m i b → SerialsRise m → Paired (take i m) r ps → ps.user_of b.born.serial ≡ None
free_behind m i b r ps low is rises p = not_paired (take i m) ps b.born.serial (λ s. p.twin.live s) (new_behind m i b low is rises)

-- ---- none

abbrev nothing : Contents
nothing = record { handles = []; memory = []; lives = [] }

nothing_paired : Paired [] nothing no_pairs
unfolding is_live born_at cell_at handle_of is_handle names_it
nothing_paired = record {
  twin = record {
    linked = record {
      order = record {
        handled = λ s. refl;
        one = λ b h. absurd (grind (arith, h));
        rises = tt;
        below = λ s h. absurd (grind (arith, h));
        normal = λ c s h. absurd (grind (arith, h));
      };
      matched = λ s b. refl;
      only = λ b. refl;
    };
    live = λ s. refl;
    shape = λ s. refl;
    kind = λ s. refl;
  };
  cells = λ c. refl;
}

pub empty_paired : (r : Contents) (ps : Pairs) → r ≡ record { handles = []; memory = []; lives = [] } → ps ≡ no_pairs → Paired [] r ps
empty_paired r ps e f = subst (λ x. Paired [] x ps) (sym e) (subst (λ x. Paired [] nothing x) (sym f) nothing_paired)
