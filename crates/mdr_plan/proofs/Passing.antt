-- A line of ups names a function that is there.
use Rattle.std.proofs.Common.{◌≡◌, ℕ, Bool, true, false, ◌&&◌, ◌≤◌, ◌<◌, List, length, take, drop, ◌-◌, nat_le, slice_get, IsTrue, refl, sym, ap, ◌∙◌, arith, ltb}
use Rattle.std.specs.List.{list_all}
use Rattle.std.proofs.lemmas.Bool.Decides.{Decides-ltb, not_from_Decides}
use Rattle.std.proofs.lemmas.Option.{slice_get_past}
use Rattle.mdr_core.specs.declared.plan.Half.{Half}
use Rattle.mdr_plan.specs.declared.reader.Reader.{Reader}
use Rattle.mdr_plan.specs.declared.line.Line.TheVariants as line
use Rattle.mdr_plan.specs.Lines.{is_kernel, is_user_half, is_next_user, takes_ups, IsNext}
use Rattle.mdr_plan.proofs.TypesRead.{both}

user_inside : (hs : List Half) (k : ℕ) → IsTrue (is_user_half (slice_get hs k)) → k < length hs
user_inside hs k h = on (ltb k (length hs)) refl
  where
    on : (v : Bool) → ltb k (length hs) ≡ v → k < length hs
    on true q = (Decides-ltb k (length hs)).0 q
    on false q =
        let n = not_from_Decides (ltb k (length hs)) (Decides-ltb k (length hs)) q in
        let le : length hs ≤ k = omega (arith, n) in
        let none : is_user_half (slice_get hs k) ≡ false = ap is_user_half (slice_get_past hs k le) in
        let c : false ≡ true = sym none ∙ h in
        absurd (Prim.cc)

pub up_inside : (r : Reader) (k : ℕ) → IsNext r (line.Up k) → k < length r.plan.halves
unfolding is_next_user
up_inside r k h =
    let a = both (takes_ups r.stage) (is_next_user r k) h.0 in
    let b = both (nat_le r.ups k && is_user_half (slice_get r.plan.halves k)) (list_all is_kernel (take (k - r.ups) (drop r.ups r.plan.halves))) a.1 in
    user_inside r.plan.halves k (both (nat_le r.ups k) (is_user_half (slice_get r.plan.halves k)) b.0).1
