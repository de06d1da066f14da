-- A list with one key more.
use Rattle.std.proofs.Common.{◌≡◌, ℕ, ◌<◌, ◌≤◌, List, [], ◌∷◌, ◌++◌, length, get_or, set, ap}
use Rattle.std.proofs.lemmas.Option.{slice_get_past, slice_get-get_or}
use Rattle.mdr_core.specs.declared.plan.Key.{Key}
use Rattle.mdr_plan.specs.Steps.{key_added, with_key}

pub with_key_past : (i : ℕ) (key : Key) (lists : List (List Key)) → length lists ≤ i → with_key i key lists ≡ lists
unfolding with_key
with_key_past i key lists le = ap (λ o. key_added o i key lists) (slice_get_past lists i le)

pub with_key_inside : (i : ℕ) (key : Key) (lists : List (List Key)) (d : List Key) → i < length lists → with_key i key lists ≡ set lists i (get_or lists i d ++ key ∷ [])
unfolding with_key
with_key_inside i key lists d lt = ap (λ o. key_added o i key lists) (slice_get-get_or lists i d lt)
