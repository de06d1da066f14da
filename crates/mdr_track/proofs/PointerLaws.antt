-- Pointers, read by one memory and then by the other, and what a new pair and a death make of them.
use Rattle.std.proofs.Common.{◌≡◌, ℕ, Bool, true, false, cond, Option, Some, None, refl, sym, ◌∙◌, ap}
use Rattle.std.specs.Prelude.{is_some}
use Rattle.mdr_core.specs.declared.value.Block.{Block}
use Rattle.mdr_core.specs.declared.value.Value.{Value}
use Rattle.mdr_core.specs.declared.value.Value.TheVariants as value
use Rattle.mdr_track.specs.Pairs.{AreMatched, Pairs, is_block, is_that_block, is_that_serial, paired, unpaired, unpaired_at}
use Rattle.mdr_track.specs.Pointers.{addressed, name_of, named, placed, place_of, pointer, settled, swept}
use Rattle.mdr_track.specs.Laws.{IsElsewhere, PointersReturn, StepsKeepNames}
use Rattle.mdr_track.proofs.PairLaws.{back, there}

-- ---- one reading after the other

cells : (ps : Pairs) (v : Value) → AreMatched ps → addressed ps (named ps v) ≡ settled ps v
unfolding named addressed settled
cells ps (value.Ptr p) m = of (ps.serial_of p.block) refl
  where
    of : (o : Option ℕ) → ps.serial_of p.block ≡ o → addressed ps (pointer p (name_of p.block o)) ≡ cond (is_some o) (value.Ptr p) value.Dead
    of None e = refl
    of (Some s) e = ap (λ o. pointer p o) (back ps s p.block m e)
cells ps (value.Int k n) m = refl
cells ps value.Null m = refl
cells ps value.Dead m = refl
cells ps (value.Fn f) m = refl
cells ps (value.Lock s) m = refl
cells ps value.NoValue m = refl

code : (ps : Pairs) (v : Value) → AreMatched ps → named ps (addressed ps v) ≡ placed ps v
unfolding named addressed placed
code ps (value.Ptr p) m = of (ps.user_of p.block.serial) refl
  where
    of : (o : Option Block) → ps.user_of p.block.serial ≡ o → named ps (pointer p o) ≡ pointer p (place_of p.block o)
    of None e = refl
    of (Some b) e = ap (λ o. pointer p (name_of b o)) (there ps p.block.serial b m e)
code ps (value.Int k n) m = refl
code ps value.Null m = refl
code ps value.Dead m = refl
code ps (value.Fn f) m = refl
code ps (value.Lock s) m = refl
code ps value.NoValue m = refl

pub return : PointersReturn
return = record { cells = cells; code = code }

-- ---- a pair more, a pair less

birth : (ps : Pairs) (s : ℕ) (b : Block) (v : Value) → IsElsewhere b v → named (paired s b ps) v ≡ named ps v
unfolding named
birth ps s b (value.Ptr p) h = ap (λ q. pointer p (name_of p.block (cond q (Some s) (ps.serial_of p.block)))) h
birth ps s b (value.Int k n) h = refl
birth ps s b value.Null h = refl
birth ps s b value.Dead h = refl
birth ps s b (value.Fn f) h = refl
birth ps s b (value.Lock t) h = refl
birth ps s b value.NoValue h = refl

death : (ps : Pairs) (s : ℕ) (v : Value) → AreMatched ps → named (unpaired s ps) v ≡ swept s (named ps v)
unfolding named swept
death ps s (value.Ptr p) m = of (ps.user_of s) refl (ps.serial_of p.block) refl
  where
    at : Option ℕ → Value
    at u = pointer p (name_of p.block u)

    kept : ℕ → Bool → Value
    kept t q = cond q value.Dead (at (Some t))

    same : (o : Option Block) → ps.user_of s ≡ o → (u : Option ℕ) → ps.serial_of p.block ≡ u → is_that_block o p.block ≡ is_that_serial u s
    same o e u f = ap (λ x. is_that_block x p.block) (sym e) ∙ (m s p.block ∙ ap (λ x. is_that_serial x s) f)

    of : (o : Option Block) → ps.user_of s ≡ o → (u : Option ℕ) → ps.serial_of p.block ≡ u → at ((unpaired_at o s ps).serial_of p.block) ≡ swept s (at u)
    of None e None f = ap at f
    of None e (Some t) f = ap at f ∙ ap (kept t) (same None e (Some t) f)
    of (Some a) e None f = ap (λ q. at (cond q None (ps.serial_of p.block))) (same (Some a) e None f) ∙ ap at f
    of (Some a) e (Some t) f = ap (λ u. at (cond (is_block a p.block) None u)) f ∙ (each (is_block a p.block) ∙ ap (kept t) (same (Some a) e (Some t) f))
      where
        each : (q : Bool) → at (cond q None (Some t)) ≡ kept t q
        each true = refl
        each false = refl
death ps s (value.Int k n) m = refl
death ps s value.Null m = refl
death ps s value.Dead m = refl
death ps s (value.Fn f) m = refl
death ps s (value.Lock t) m = refl
death ps s value.NoValue m = refl

pub keep_names : StepsKeepNames
keep_names = record { birth = birth; death = death }
