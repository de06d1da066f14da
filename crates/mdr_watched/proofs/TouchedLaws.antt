-- A plan's keys are those of S(t).
use Rattle.std.proofs.Common.{◌≡◌, ◌<◌, true, false, List, [], Option, Some, None, length, refl, sym, ◌∙◌, ap, subst, arith}
use Rattle.std.specs.Prelude.{get_or, slice_get, unwrap_or}
use Rattle.std.proofs.lemmas.Bool.{both_ways}
use Rattle.std.proofs.lemmas.Option.{slice_get-get_or, slice_get_within}
use Rattle.mdr_access.specs.Keys.{AreKeys}
use Rattle.mdr_core.specs.declared.plan.Half.{Half}
use Rattle.mdr_core.specs.declared.plan.Half.TheVariants.{Kernel, User}
use Rattle.mdr_core.specs.declared.plan.Key.{Key}
use Rattle.mdr_watched.specs.Driver.{is_user_half}
use Rattle.mdr_watched.specs.Laws.{KeysAreTouched}

user_is : (h : Option Half) → is_user_half h ≡ true → h ≡ Some User
user_is None e = absurd (both_ways false refl e)
user_is (Some Kernel) e = absurd (both_ways false refl e)
user_is (Some User) e = refl

pub keys_are_touched : KeysAreTouched
keys_are_touched program halves plan t each p e =
    let half = user_is (slice_get plan.halves t) e in
    let within : t < length plan.halves = slice_get_within plan.halves t User half in
    let size : length plan.halves ≡ length halves.halves = ap (λ (hs : List Half). length hs) p.halves_are in
    let inside : t < length plan.keys = omega (arith, within, size, each.halves_size, p.lists) in
    let keys : slice_get plan.keys t ≡ Some (get_or plan.keys t []) = slice_get-get_or plan.keys t [] inside in
    subst (λ ks. AreKeys program halves.halves t ks) (sym (ap (λ (o : Option (List Key)). unwrap_or o []) keys))
    (p.user t (get_or plan.keys t []) (ap (λ (hs : List Half). slice_get hs t) (sym p.halves_are) ∙ half) keys)
