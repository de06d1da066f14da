-- Loads and stores through pointers that are known.
use Rattle.std.proofs.Common.{◌≡◌, inl, ℕ, zero, suc, ◌+◌, ◌<◌, Bool, true, false, List, [], ◌∷◌, length, map, slice_get, Option, Some, None, Result, Ok, Err, refl, sym, ap, ◌∙◌, subst}
use Rattle.std.specs.Prelude.{nat_lt}
use Rattle.std.proofs.lemmas.Bool.{ltb-true}
use Rattle.mdr_core.specs.declared.program.Program.{Program}
use Rattle.mdr_core.specs.declared.stop.StopKind.{StopKind}
use Rattle.mdr_core.specs.declared.types.Ty.{Ty, out-Ty}
use Rattle.mdr_core.specs.declared.types.Ty.TheOpen.{Ty-F}
use Rattle.mdr_core.specs.Layout.{Leaf, struct_by, struct_of}
use Rattle.mdr_core.specs.Sound.{IsSound}
use Rattle.mdr_core.specs.Types.{is_scalar, is_scalar_by}
use Rattle.mdr_meaning.specs.declared.wire.Wire.{Wire}
use Rattle.mdr_meaning.specs.declared.wire.Wire.TheVariants as wire
use Rattle.mdr_meaning.specs.declared.wire.WireView.{WireView}
use Rattle.mdr_meaning.specs.Fair.{LoadsScalar}
use Rattle.mdr_meaning.specs.Fit.{Fits, FitsLayer, IsKnownView, Knowledge, PointsTo, view_of}
use Rattle.mdr_model.specs.declared.memory.Cell.{Cell}
use Rattle.mdr_model.specs.declared.message.New.{New}
use Rattle.mdr_model.specs.Memory.{Memory, born_at, cell_at, cell_of, is_live, leaf_at, loaded, loaded_cell, loaded_from, loaded_value, normal, normal_if, put, reached, reached_by, stored, stored_into}
use Rattle.mdr_model.specs.Sets.{cells_from}
use Rattle.mdr_plain.specs.Storage.{byte_at, bytes_from, cells_read, fresh, read, with_memory}
use Rattle.mdr_plain.specs.World.{World}
use Rattle.mdr_holds.specs.Holding.{FitsCell, Holds, shape_of}
use Rattle.mdr_holds.specs.Leaving.{Later}
use Rattle.mdr_holds.proofs.Fitting.{fits_now, scalar_cell, some_is}
use Rattle.mdr_holds.proofs.Memories.{born_live, pointer_shape}
use Rattle.mdr_holds.proofs.Places.{HasLeaf, view_leaf}
use Rattle.mdr_holds.proofs.Steps.{put_later}

pub ok_is : {A E : Type 0} {x y : A} → ◌≡◌ {A = Result A E} (Ok x) (Ok y) → x ≡ y
ok_is e = cc

-- ---- the cell that is reached

-- a cell that an access reaches is that of its pointer, whose block lives and whose index is in range
pub record IsReached (m : Memory) (p : WireView) (c : Cell) : Type 0 where
  pub cell : cell_of p ≡ c
  pub live : is_live m p.serial ≡ true
  pub inside : p.index < p.count

reached_when : (m : Memory) (p : WireView) (c : Cell) (alive inside allowed : Bool) → is_live m p.serial ≡ alive → nat_lt p.index p.count ≡ inside → reached_by alive inside allowed (cell_of p) ≡ Ok c → IsReached m p c
reached_when m p c true true true l i e = record { cell = ok_is e; live = l; inside = ltb-true _ _ i }
reached_when m p c true true false l i e = absurd cc
reached_when m p c true false a l i e = absurd cc
reached_when m p c false i a l j e = absurd cc

pub reaches : (allowed : Cell → Bool) (m : Memory) (p : WireView) (c : Cell) → reached allowed m (wire.Ptr p) ≡ Ok c → IsReached m p c
unfolding reached
reaches allowed m p c e = reached_when m p c (is_live m p.serial) (nat_lt p.index p.count) (allowed (cell_of p)) refl refl e

-- nothing is reached through a null pointer, or a dead one
none_dead : (allowed : Cell → Bool) (m : Memory) (v : Wire) → loaded_from m (reached allowed m wire.Dead) ≡ Ok v → ⊥
unfolding reached
none_dead allowed m v e = cc

none_null : (allowed : Cell → Bool) (m : Memory) (v : Wire) → loaded_from m (reached allowed m wire.Null) ≡ Ok v → ⊥
unfolding reached
none_null allowed m v e = cc

none_stored : (m m' : Memory) (v : Wire) (kind : StopKind) → stored_into m v (Err kind) ≡ Ok m' → ⊥
none_stored m m' v kind e = cc

dead_stored : (allowed : Cell → Bool) (m m' : Memory) (v : Wire) → stored_into m v (reached allowed m wire.Dead) ≡ Ok m' → ⊥
unfolding reached
dead_stored allowed m m' v e = cc

null_stored : (allowed : Cell → Bool) (m m' : Memory) (v : Wire) → stored_into m v (reached allowed m wire.Null) ≡ Ok m' → ⊥
unfolding reached
null_stored allowed m m' v e = cc

-- ---- what the cell is for

scalar_layer : (l : Ty-F Ty) → is_scalar_by l ≡ true → struct_by l ≡ None
scalar_layer (Ty-F.Int k) h = refl
scalar_layer Ty-F.Lock h = refl
scalar_layer (Ty-F.Struct s) h = absurd cc
scalar_layer (Ty-F.Ptr t) h = refl
scalar_layer Ty-F.VoidPtr h = refl
scalar_layer (Ty-F.Fun ts) h = refl
scalar_layer Ty-F.Void h = refl

fitted_layer : (program : Program) (K : Knowledge) (l : Ty-F Ty) (v : Wire) → FitsLayer program K l v → struct_by l ≡ None
fitted_layer program K (Ty-F.Int k) v h = refl
fitted_layer program K Ty-F.Lock v h = refl
fitted_layer program K (Ty-F.Struct s) v h = elim h [ ]
fitted_layer program K (Ty-F.Ptr t) v h = refl
fitted_layer program K Ty-F.VoidPtr v h = refl
fitted_layer program K (Ty-F.Fun ts) v h = refl
fitted_layer program K Ty-F.Void v h = refl

module _ (program : Program) (sound : IsSound program) (K : Knowledge) (w : World) (h : Holds program K w) where
  -- the cell of a known pointer is of the type that it points to
  pub cell_type : (p : WireView) (ty : Ty) → IsKnownView program K p → slice_get program.types p.ty ≡ Some ty → struct_of ty ≡ None → p.index < p.count
      → (b : New) (leaf : Leaf) → born_at w.memory p.serial ≡ Some b → leaf_at program b (p.first + p.index) ≡ Some leaf → leaf.type ≡ ty
  cell_type p ty v names lone inside b leaf e l =
      let shape : shape_of b ≡ v.shape = pointer_shape program K w.memory p b h.memory v e in
      let found : HasLeaf _ (p.first + p.index) ty = view_leaf program sound b v.shape (view_of p) ty (sym (ap (λ s. s.ty) shape)) (sym (ap (λ s. s.count) shape)) v.view names lone p.index inside in
      ap (λ (x : Leaf). x.type) (some_is (sym l ∙ found.is))

  -- ---- loads

  value_is : (v x : Wire) → loaded_value v ≡ Ok x → v ≡ x
  value_is (wire.Int k n) x e = ok_is e
  value_is wire.Null x e = ok_is e
  value_is (wire.Ptr p) x e = ok_is e
  value_is wire.Dead x e = absurd cc
  value_is (wire.Fn f) x e = ok_is e
  value_is (wire.Lock s) x e = ok_is e
  value_is wire.NoValue x e = ok_is e

  cell_is : (o : Option Wire) (v : Wire) → loaded_cell o ≡ Ok v → o ≡ Some v
  cell_is None v e = absurd cc
  cell_is (Some x) v e = ap (λ (y : Wire). Some y) (value_is x v e)

  loaded_leaf : (p : WireView) (ty : Ty) (v : Wire) (c : Cell) → IsKnownView program K p → slice_get program.types p.ty ≡ Some ty → is_scalar ty ≡ true → IsReached w.memory p c → cell_at w.memory c ≡ Some v → Fits program K ty v
  loaded_leaf p ty v c known names scalar r e =
      let b = born_live w.memory p.serial r.live in
      let held : cell_at w.memory (cell_of p) ≡ Some v = ap (cell_at w.memory) r.cell ∙ e in
      of b.0 b.1 (leaf_at program b.0 (p.first + p.index)) refl held
    where
      of : (b : New) → born_at w.memory p.serial ≡ Some b → (o : Option Leaf) → leaf_at program b (p.first + p.index) ≡ o → cell_at w.memory (cell_of p) ≡ Some v → Fits program K ty v
      of b q (Some leaf) l held =
          let type : leaf.type ≡ ty = cell_type p ty known names (scalar_layer (out-Ty ty) scalar) r.inside b leaf q l in
          scalar_cell program K ty v scalar (subst (λ (t : Ty). FitsCell program K t v) type (h.memory.fit (cell_of p) b leaf v q l held))
      of b q None l held =
          let shape : shape_of b ≡ known.shape = pointer_shape program K w.memory p b h.memory known q in
          let found : HasLeaf _ (p.first + p.index) ty = view_leaf program sound b known.shape (view_of p) ty (sym (ap (λ s. s.ty) shape)) (sym (ap (λ s. s.count) shape)) known.view names (scalar_layer (out-Ty ty) scalar) p.index r.inside in
          let both : None ≡ Some _ = sym l ∙ found.is in absurd cc

  -- what is loaded through a known pointer to scalars fits
  pub loaded_fits : (allowed : Cell → Bool) (ty : Ty) (p v : Wire) → PointsTo program K ty p → LoadsScalar ty p → loaded allowed w.memory p ≡ Ok v → Fits program K ty v
  unfolding loaded
  loaded_fits allowed ty (wire.Ptr p) v points scalar e = of (reached allowed w.memory (wire.Ptr p)) refl e where
    of : (r : Result Cell StopKind) → reached allowed w.memory (wire.Ptr p) ≡ r → loaded_from w.memory r ≡ Ok v → Fits program K ty v
    of (Ok c) q l = loaded_leaf p ty v c points.1 points.0 scalar (reaches allowed w.memory p c q) (cell_is (cell_at w.memory c) v l)
    of (Err kind) q l = absurd cc
  loaded_fits allowed ty wire.Dead v points scalar e = absurd (none_dead allowed w.memory v e)
  loaded_fits allowed ty wire.Null v points scalar e = absurd (none_null allowed w.memory v e)
  loaded_fits allowed ty (wire.Int k n) v points scalar e = elim points [ ]
  loaded_fits allowed ty (wire.Fn f) v points scalar e = elim points [ ]
  loaded_fits allowed ty (wire.Lock s) v points scalar e = elim points [ ]
  loaded_fits allowed ty wire.NoValue v points scalar e = elim points [ ]

  -- ---- stores

  -- a value that fits the type may be put where a pointer to the type points
  pub put_fits : (from : ℕ) (p : WireView) (ty : Ty) (v : Wire) → IsKnownView program K p → slice_get program.types p.ty ≡ Some ty → Fits program K ty v → p.index < p.count
      → Later program from K w K (with_memory w (put w.memory (cell_of p) (normal w.memory v)))
  put_fits from p ty v known names fits inside =
      put_later program from K w (cell_of p) v h
      (λ b leaf e l. inl (subst (λ (t : Ty). Fits program K t (normal w.memory v)) (sym (cell_type p ty known names (fitted_layer program K (out-Ty ty) v fits) inside b leaf e l)) (fits_now program K w.memory ty v fits)))

  -- what is stored through a known pointer
  pub stored_later : (allowed : Cell → Bool) (from : ℕ) (ty : Ty) (p v : Wire) (m : Memory) → PointsTo program K ty p → Fits program K ty v → stored allowed w.memory p v ≡ Ok m → Later program from K w K (with_memory w m)
  unfolding stored
  stored_later allowed from ty (wire.Ptr p) v m points fits e = of (reached allowed w.memory (wire.Ptr p)) refl e where
    of : (r : Result Cell StopKind) → reached allowed w.memory (wire.Ptr p) ≡ r → stored_into w.memory v r ≡ Ok m → Later program from K w K (with_memory w m)
    of (Ok c) q l =
        let r : IsReached w.memory p c = reaches allowed w.memory p c q in
        let is : put w.memory (cell_of p) (normal w.memory v) ≡ m = ap (λ (d : Cell). put w.memory d (normal w.memory v)) r.cell ∙ ok_is l in
        subst (λ (x : Memory). Later program from K w K (with_memory w x)) is (put_fits from p ty v points.1 points.0 fits r.inside)
    of (Err kind) q l = absurd (none_stored w.memory m v kind l)
  stored_later allowed from ty wire.Dead v m points fits e = absurd (dead_stored allowed w.memory m v e)
  stored_later allowed from ty wire.Null v m points fits e = absurd (null_stored allowed w.memory m v e)
  stored_later allowed from ty (wire.Int k n) v m points fits e = elim points [ ]
  stored_later allowed from ty (wire.Fn f) v m points fits e = elim points [ ]
  stored_later allowed from ty (wire.Lock s) v m points fits e = elim points [ ]
  stored_later allowed from ty wire.NoValue v m points fits e = elim points [ ]

-- ---- bytes, and what a local holds

cells_long : (serial from n : ℕ) → length (cells_from serial from n) ≡ n
unfolding cells_from
cells_long serial from zero = refl
cells_long serial from (suc n) = ap suc (cells_long serial (suc from) n)

map_long : {A B : Type 0} (f : A → B) (xs : List A) → length (map f xs) ≡ length xs
map_long f [] = refl
map_long f (x ∷ xs) = ap suc (map_long f xs)

bytes_long : (m : Memory) (cells : List Cell) (r : Result Cell StopKind) (bs : List ℕ) → bytes_from m cells r ≡ Ok bs → length bs ≡ length cells
bytes_long m cells (Ok c) bs e = ap length (sym (ok_is e)) ∙ map_long (byte_at m) cells
bytes_long m cells (Err kind) bs e = absurd cc

-- as many bytes as are asked for
pub read_long : (allowed : Cell → Bool) (m : Memory) (p : Wire) (n : ℕ) (bs : List ℕ) → read allowed m p n ≡ Ok bs → length bs ≡ n
unfolding read
read_long allowed m (wire.Ptr p) n bs e = bytes_long m (cells_read p n) _ bs e ∙ cells_long p.serial (p.first + p.index) n
read_long allowed m wire.Dead n bs e = absurd cc
read_long allowed m wire.Null n bs e = absurd cc
read_long allowed m (wire.Int k i) n bs e = absurd cc
read_long allowed m (wire.Fn f) n bs e = absurd cc
read_long allowed m (wire.Lock s) n bs e = absurd cc
read_long allowed m wire.NoValue n bs e = absurd cc

-- what is read of a local is what it holds
pub fresh_is : (m : Memory) (v x : Wire) → fresh m v ≡ Ok x → v ≡ x
unfolding fresh normal
fresh_is m (wire.Ptr p) x e = of (is_live m p.serial) e where
  of : (b : Bool) → loaded_value (normal_if b p) ≡ Ok x → wire.Ptr p ≡ x
  of true q = ok_is q
  of false q = absurd cc
fresh_is m (wire.Int k n) x e = ok_is e
fresh_is m wire.Null x e = ok_is e
fresh_is m wire.Dead x e = absurd cc
fresh_is m (wire.Fn f) x e = ok_is e
fresh_is m (wire.Lock s) x e = ok_is e
fresh_is m wire.NoValue x e = ok_is e
