-- Accesses of user code come to the same in both memories, and keep what they share.
use Rattle.std.proofs.Common.{◌≡◌, ◌+◌, ℕ, Bool, true, false, List, [], ◌∷◌, Option, Some, Result, Ok, Err, refl, sym, ◌∙◌, ap, subst}
use Rattle.std.specs.Prelude.{is_some, map, nat_le, nat_lt}
use Rattle.std.specs.List.{list_all}
use Rattle.std.proofs.lemmas.Bool.{and_parts, eq-eqb}
use Rattle.mdr_core.specs.declared.program.Program.{Program}
use Rattle.mdr_core.specs.declared.stop.StopKind.{StopKind}
use Rattle.mdr_meaning.specs.declared.wire.Wire.{Wire}
use Rattle.mdr_meaning.specs.declared.wire.Wire.TheVariants as wire
use Rattle.mdr_meaning.specs.declared.wire.WireView.{WireView}
use Rattle.mdr_model.specs.declared.memory.Cell.{Cell}
use Rattle.mdr_model.specs.declared.message.New.{New}
use Rattle.mdr_model.specs.Agreement.{IsKnown, IsShared, Serials}
use Rattle.mdr_model.specs.Memory.{Memory, cell_at, cell_of, is_live, loaded, loaded_cell, loaded_from, loaded_value, normal, put, reached, reached_by, stored, stored_into}
use Rattle.mdr_model.specs.Sets.{is_in}
use Rattle.mdr_model.proofs.AgreedReplies.{alike, get, get_known, normal-known, put_keeps}
use Rattle.mdr_model.proofs.LifeLaws.{names-normal}
use Rattle.mdr_paths.specs.Paths.{is_in as is_among}
use Rattle.mdr_plain.specs.Storage.{byte_at, bytes_from, cells_read, fresh, number_in, read}
use Rattle.mdr_plain.specs.World.{World}
use Rattle.mdr_watched.specs.Views.{top}
use Rattle.mdr_shows.specs.Cells.{StoresAlike, Stops, Goes}
use Rattle.mdr_shows.specs.Laws.{AccessesAgree, AccessesAreShared}
use Rattle.mdr_shows.proofs.Reaches.{IsLoaded, loaded_there, reached_allowed, value_is}

module _ (program : Program) (known : Serials) (next : ℕ) (view : List Cell) (copy m w u : Memory) (r : IsShared program known next view copy m w u) where
  -- a known pointer's block lives in both memories, or in neither
  same_live : (p : WireView) → IsKnown known (wire.Ptr p) → is_live w p.serial ≡ is_live u p.serial
  unfolding is_live
  same_live p k = ap (λ (o : Option New). is_some o) (sym (alike p.serial r (k p.serial (eq-eqb p.serial p.serial refl))))

  -- so an access reaches the same
  same_reach : (p : Wire) → IsKnown known p → reached (is_in view) w p ≡ reached (is_in view) u p
  unfolding reached
  same_reach (wire.Ptr p) k = ap (λ (b : Bool). reached_by b (nat_lt p.index p.count) (is_in view (cell_of p)) (cell_of p)) (same_live p k)
  same_reach (wire.Int kind n) k = refl
  same_reach wire.Null k = refl
  same_reach wire.Dead k = refl
  same_reach (wire.Fn f) k = refl
  same_reach (wire.Lock s) k = refl
  same_reach wire.NoValue k = refl

  same_cell : (c : Cell) → is_in view c ≡ true → cell_at w c ≡ cell_at u c
  same_cell c h = sym (get c r h)

  pub loads : (p : Wire) → IsKnown known p → loaded (is_in view) w p ≡ loaded (is_in view) u p
  unfolding loaded
  loads p k = of (reached (is_in view) w p) refl ∙ ap (λ (x : Result Cell StopKind). loaded_from u x) (same_reach p k)
    where
      of : (x : Result Cell StopKind) → reached (is_in view) w p ≡ x → loaded_from w x ≡ loaded_from u x
      of (Err kind) e = refl
      of (Ok c) e = ap loaded_cell (same_cell c (reached_allowed (is_in view) w p c e))

  pub held_known : (c : Cell) (v : Wire) → is_in view c ≡ true → cell_at w c ≡ Some v → IsKnown known v
  held_known c v h e = get_known c v r (sym (same_cell c h) ∙ e)

  pub loaded_known : (p v : Wire) → loaded (is_in view) w p ≡ Ok v → IsKnown known v
  loaded_known p v e = let l : IsLoaded (is_in view) w v = loaded_there (is_in view) w p v e in held_known l.cell v l.may l.there

  -- ---- stores

  pub stores : (p v : Wire) → IsKnown known p → IsKnown known v → StoresAlike program known next view copy m (stored (is_in view) w p v) (stored (is_in view) u p v)
  unfolding stored
  stores p v k j = of (reached (is_in view) w p) refl
    where
      of : (x : Result Cell StopKind) → reached (is_in view) w p ≡ x → StoresAlike program known next view copy m (stored_into w v (reached (is_in view) w p)) (stored_into u v (reached (is_in view) u p))
      of (Err kind) e = Stops kind (ap (stored_into w v) e) (ap (stored_into u v) (sym (same_reach p k) ∙ e))
      of (Ok c) e =
          Goes (put w c (normal w v)) (put u c (normal u v)) (ap (stored_into w v) e) (ap (stored_into u v) (sym (same_reach p k) ∙ e))
          (put_keeps c v r (reached_allowed (is_in view) w p c e) j)

  -- ---- many bytes at once

  bytes_same : (cs : List Cell) → list_all (is_in view) cs ≡ true → map (byte_at w) cs ≡ map (byte_at u) cs
  bytes_same [] h = refl
  bytes_same (c ∷ cs) h =
      let p = and_parts (is_in view c) (list_all (is_in view) cs) h in
      let first : byte_at w c ≡ byte_at u c = ap number_in (same_cell c p.0) in
      let rest : map (byte_at w) cs ≡ map (byte_at u) cs = bytes_same cs p.1 in
      λ i. first i ∷ rest i

  pub reads : (p : Wire) (n : ℕ) → IsKnown known p → read (is_in view) w p n ≡ read (is_in view) u p n
  unfolding read
  reads (wire.Ptr p) n k =
      of (is_live w p.serial) (nat_le (p.index + n) p.count) (list_all (is_in view) (cells_read p n)) refl
      ∙ ap (λ (b : Bool). bytes_from u (cells_read p n) (reached_by b (nat_le (p.index + n) p.count) (list_all (is_in view) (cells_read p n)) (cell_of p))) (same_live p k)
    where
      of : (a b t : Bool) → list_all (is_in view) (cells_read p n) ≡ t → bytes_from w (cells_read p n) (reached_by a b t (cell_of p)) ≡ bytes_from u (cells_read p n) (reached_by a b t (cell_of p))
      of false b t e = refl
      of true false t e = refl
      of true true false e = refl
      of true true true e = ap Ok (bytes_same (cells_read p n) e)
  reads (wire.Int kind i) n k = refl
  reads wire.Null n k = refl
  reads wire.Dead n k = refl
  reads (wire.Fn f) n k = refl
  reads (wire.Lock s) n k = refl
  reads wire.NoValue n k = refl

  -- ---- values

  pub normals : (v : Wire) → IsKnown known v → normal w v ≡ normal u v
  normals v k = sym (normal-known v r k)

  pub normal_known : (v : Wire) → IsKnown known v → IsKnown known (normal w v)
  normal_known v k serial h = k serial (and_parts _ _ (sym (names-normal w v serial) ∙ h)).0

  pub freshens : (v : Wire) → IsKnown known v → fresh w v ≡ fresh u v
  unfolding fresh
  freshens v k = ap loaded_value (normals v k)

  pub fresh_known : (v x : Wire) → IsKnown known v → fresh w v ≡ Ok x → IsKnown known x
  unfolding fresh
  fresh_known v x k e = subst (IsKnown known) (value_is (normal w v) x e) (normal_known v k)

-- in the whole run the other test of membership is asked
pub accesses_agree : (program : Program) (known : Serials) (next : ℕ) (copy m : Memory) (w : World) (u : Memory) → IsShared program known next (top w.views) copy m w.memory u → AccessesAgree program known next copy m w u
unfolding is_in is_among
accesses_agree program known next copy m w u r = record {
  loads = loads program known next (top w.views) copy m w.memory u r;
  loaded_known = λ p v k e. loaded_known program known next (top w.views) copy m w.memory u r p v e;
  stores = stores program known next (top w.views) copy m w.memory u r;
  reads = reads program known next (top w.views) copy m w.memory u r;
  freshens = freshens program known next (top w.views) copy m w.memory u r;
  fresh_known = fresh_known program known next (top w.views) copy m w.memory u r;
  normals = normals program known next (top w.views) copy m w.memory u r;
  normal_known = normal_known program known next (top w.views) copy m w.memory u r;
  holds = same_cell program known next (top w.views) copy m w.memory u r;
  held_known = held_known program known next (top w.views) copy m w.memory u r;
}

pub accesses_are_shared : AccessesAreShared
accesses_are_shared = accesses_agree
