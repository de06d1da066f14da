-- The first cell of an object that a parameter is born as is one that its function may touch.
use Rattle.std.proofs.Common.{◌≡◌, ℕ, zero, suc, ◌≤◌, Bool, true, false, not, ◌&&◌, nat_lt, List, [], ◌∷◌, ◌++◌, map, length, Some, None, slice_get, IsTrue, refl, sym, ap, ◌∙◌, subst}
use Rattle.std.specs.Option.{option_map}
use Rattle.std.proofs.lemmas.Bool.{le-ltb}
use Rattle.mdr_access.specs.Exposed.{IsOneOf}
use Rattle.mdr_access.specs.Forms.{Form, param_forms}
use Rattle.mdr_access.specs.Keys.{AreKeys, IsTouched}
use Rattle.mdr_access.specs.KeyOrder.{keys}
use Rattle.mdr_core.specs.declared.plan.Half.{Half}
use Rattle.mdr_core.specs.declared.plan.Key.{Key}
use Rattle.mdr_core.specs.declared.plan.Key.TheVariants as key
use Rattle.mdr_core.specs.declared.program.Func.{Func}
use Rattle.mdr_core.specs.declared.program.Local.{Local}
use Rattle.mdr_core.specs.declared.program.Param.{Param}
use Rattle.mdr_core.specs.declared.program.Program.{Program}
use Rattle.mdr_core.specs.declared.types.Ty.{Ty, out-Ty}
use Rattle.mdr_core.specs.declared.types.Ty.TheFolds.{map-Ty}
use Rattle.mdr_core.specs.declared.types.Ty.TheOpen.{Ty-F}
use Rattle.mdr_core.specs.Layout.{Alone, Leaf, cells, cells_at, cells_or, chosen, key_at, key_by, leaves, leaves_by, repeated, struct_cells}
use Rattle.mdr_core.specs.Sound.{IsSound}
use Rattle.mdr_core.specs.Suited.{is_key, is_lock_by, is_no_lock}
use Rattle.mdr_core.specs.Types.{Aggregate, Scalar, Sort, Wrong, is_scalar, is_scalar_by, sort_layer, sort_of}
use Rattle.mdr_core.specs.Typing.{slot_of_local, slot_of_param, slots_of}
use Rattle.mdr_core.proofs.Laid.{sort_is}
use Rattle.mdr_core.proofs.Viewed.{some_same}
use Rattle.mdr_extents.specs.Around.{key_of}
use Rattle.mdr_extents.specs.Extent.{is_touched}
use Rattle.mdr_meaning.specs.declared.shape.Shape64.{Shape64}
use Rattle.mdr_meaning.specs.Bodies.{known_of}
use Rattle.mdr_meaning.specs.Numbers.{type_number}
use Rattle.mdr_meaning.specs.Lives.{param_shapes, shape_of}
use Rattle.mdr_meaning.proofs.NumberLaws.{numbered_short}
use Rattle.mdr_model.specs.declared.message.BirthKind.TheVariants.{Auto}
use Rattle.mdr_model.specs.Memory.{leaves_of}
use Rattle.mdr_paths.specs.Chains.{Chain}
use Rattle.mdr_paths.specs.Paths.{is_in}
use Rattle.mdr_serves.proofs.StrictTrees.{AllOpen}

-- ---- a scalar is one cell, and no lock

scalar_by : (n : ℕ) (t : Ty-F Ty) → sort_layer n (map-Ty Ty Sort (sort_of n) t) ≡ Scalar → IsTrue (is_scalar_by t)
scalar_by n (Ty-F.Int k) h = refl
scalar_by n (Ty-F.Ptr t) h = refl
scalar_by n Ty-F.VoidPtr h = refl
scalar_by n (Ty-F.Fun ts) h = refl
scalar_by n Ty-F.Lock h = absurd cc
scalar_by n Ty-F.Void h = absurd cc
scalar_by n (Ty-F.Struct s) h = by_count (nat_lt s n) h where
  by_count : (b : Bool) → chosen b Aggregate Wrong ≡ Scalar → IsTrue false
  by_count true e = absurd cc
  by_count false e = absurd cc

scalar_is : (n : ℕ) (t : Ty) → sort_of n t ≡ Scalar → IsTrue (is_scalar t)
scalar_is n t h = scalar_by n (out-Ty t) (sym (sort_is n t) ∙ h)

one_cell_by : (known : ℕ → List Leaf) (t : Ty) (l : Ty-F Ty) → IsTrue (is_scalar_by l) → leaves_by known Alone t l ≡ record { home = Alone; type = t } ∷ []
one_cell_by known t (Ty-F.Int k) h = refl
one_cell_by known t (Ty-F.Ptr u) h = refl
one_cell_by known t Ty-F.VoidPtr h = refl
one_cell_by known t (Ty-F.Fun ts) h = refl
one_cell_by known t l h = absurd cc

one_cell : (program : Program) (t : Ty) → IsTrue (is_scalar t) → cells program t ≡ record { home = Alone; type = t } ∷ []
unfolding cells leaves
one_cell program t h = one_cell_by (struct_cells program.structs) t (out-Ty t) h

no_lock_by : (l : Ty-F Ty) → IsTrue (is_scalar_by l) → not (is_lock_by l) ≡ true
no_lock_by (Ty-F.Int k) h = refl
no_lock_by (Ty-F.Ptr u) h = refl
no_lock_by Ty-F.VoidPtr h = refl
no_lock_by (Ty-F.Fun ts) h = refl
no_lock_by l h = absurd cc

-- ---- its key

module _ (program : Program) (n : ℕ) (ty : Ty) (names : slice_get program.types n ≡ Some ty) (scalar : IsTrue (is_scalar ty)) where
  cells_are : cells_at program n ≡ record { home = Alone; type = ty } ∷ []
  cells_are = ap (cells_or program) names ∙ one_cell program ty scalar

  -- of an element alone
  pub element_key : key_at program None n 0 ≡ Some (key.Elem n)
  unfolding key_at
  element_key = ap (λ (ls : List Leaf). option_map (λ (l : Leaf). key_by l.home None n) (slice_get ls 0)) cells_are

  pub element_kept : is_key program (key.Elem n) ≡ true
  unfolding is_key
  element_kept = ap is_no_lock names ∙ no_lock_by (out-Ty ty) scalar

  -- of an object of a local
  object_key : (serial : ℕ) → length program.globals ≤ serial → key_of program (record { serial = serial; kind = Auto; ty = n; count = 1 }) 0 ≡ Some (key.Elem n)
  unfolding key_of leaves_of repeated
  object_key serial later =
      ap (λ (b : Bool). option_map (λ (l : Leaf). key_by l.home (chosen b (Some serial) None) n) (slice_get (cells_at program n ++ []) 0)) (le-ltb serial (length program.globals) later)
      ∙ ap (λ (ls : List Leaf). option_map (λ (l : Leaf). key_by l.home None n) (slice_get (ls ++ []) 0)) cells_are

  pub object_touched : (touched : List Key) → is_in keys touched (key.Elem n) ≡ true → (serial : ℕ) → length program.globals ≤ serial → is_touched program touched (record { serial = serial; kind = Auto; ty = n; count = 1 }) 0 ≡ true
  unfolding is_touched
  object_touched touched h serial later = rw (object_key serial later) h

-- ---- parameters

-- the form of a parameter that is an object
param_form : (ps : List Param) (forms : List Form) (i : ℕ) (p : Param) → slice_get ps i ≡ Some p → p.object ≡ true → IsOneOf (param_forms ps ++ forms) (Form.Whole p.ty)
param_form [] forms i p e object = absurd cc
param_form (q ∷ ps) forms zero p e object =
    subst (λ (x : Param). IsOneOf (param_forms (x ∷ ps) ++ forms) (Form.Whole p.ty)) (sym (some_same e)) (rw object (record { at = 0; is = refl }))
param_form (q ∷ ps) forms (suc i) p e object = behind q.object (param_form ps forms i p e object)
  where
    behind : (b : Bool) → IsOneOf (param_forms ps ++ forms) (Form.Whole p.ty) → IsOneOf ((chosen b (Form.Whole q.ty ∷ []) [] ++ param_forms ps) ++ forms) (Form.Whole p.ty)
    behind true one = record { at = suc one.at; is = one.is }
    behind false one = one

module _ (program : Program) (sound : IsSound program) (halves : List Half) where
  -- what a function touches of its own parameters' objects
  param_touched : (f : ℕ) (func : Func) → slice_get program.funcs f ≡ Some func → (i : ℕ) (p : Param) → slice_get func.params i ≡ Some p → p.object ≡ true → IsTouched program halves f (key.Elem (type_number (known_of program) p.ty))
  param_touched f func names i p e object =
      let rules = (sound.funcs f func names).params i p e in
      let numbered : slice_get program.types (type_number (known_of program) p.ty) ≡ Some p.ty = numbered_short program p.ty rules.in_table in
      let scalar : IsTrue (is_scalar p.ty) = scalar_is _ p.ty rules.sort in
      record {
        func = f;
        reached = Chain.Begin f refl;
        own = func;
        names = names;
        form = Form.Whole p.ty;
        one = param_form func.params _ i p e object;
        has = record { number = type_number (known_of program) p.ty; names = numbered; cell = 0; is = element_key program (type_number (known_of program) p.ty) p.ty numbered scalar };
        kept = element_kept program (type_number (known_of program) p.ty) p.ty numbered scalar;
      }

  -- code that may touch all that the function may touches those
  module _ (touched mine : List Key) (f : ℕ) (func : Func) (names : slice_get program.funcs f ≡ Some func) (are : AreKeys program halves f mine) (all : (k : Key) → is_in keys mine k ≡ true → is_in keys touched k ≡ true) where
    abbrev IsOpen : Shape64 → Type 0
    IsOpen s = (serial : ℕ) → length program.globals ≤ serial → is_touched program touched (record { serial = serial; kind = Auto; ty = s.ty; count = s.count }) 0 ≡ true

    param_open : (i : ℕ) (p : Param) → slice_get func.params i ≡ Some p → p.object ≡ true → IsOpen (shape_of (known_of program) (slot_of_param p))
    param_open i p e object serial later =
        let rules = (sound.funcs f func names).params i p e in
        let numbered : slice_get program.types (type_number (known_of program) p.ty) ≡ Some p.ty = numbered_short program p.ty rules.in_table in
        object_touched program (type_number (known_of program) p.ty) p.ty numbered (scalar_is _ p.ty rules.sort) touched
        (all (key.Elem (type_number (known_of program) p.ty)) ((are.exact (key.Elem (type_number (known_of program) p.ty))).1 (param_touched f func names i p e object))) serial later

    one_open : (b : Bool) (shape : Shape64) (shapes : List Shape64) → ((b && true) ≡ true → IsOpen shape) → AllOpen IsOpen shapes → AllOpen IsOpen (chosen (b && true) (shape ∷ shapes) shapes)
    one_open true shape shapes h rest = (h refl, rest)
    one_open false shape shapes h rest = rest

    bare_open : (b : Bool) (shape : Shape64) (shapes : List Shape64) → AllOpen IsOpen shapes → AllOpen IsOpen (chosen (b && false) (shape ∷ shapes) shapes)
    bare_open true shape shapes rest = rest
    bare_open false shape shapes rest = rest

    and_true : (b : Bool) → (b && true) ≡ true → b ≡ true
    and_true true e = refl
    and_true false e = e

    locals_open : (ls : List Local) → AllOpen IsOpen (param_shapes (known_of program) (map slot_of_local ls))
    locals_open [] = tt
    locals_open (l ∷ ls) = bare_open l.object (shape_of (known_of program) (slot_of_local l)) (param_shapes (known_of program) (map slot_of_local ls)) (locals_open ls)

    params_open : (ps : List Param) (ls : List Local) → ((i : ℕ) (p : Param) → slice_get ps i ≡ Some p → p.object ≡ true → IsOpen (shape_of (known_of program) (slot_of_param p))) → AllOpen IsOpen (param_shapes (known_of program) (map slot_of_param ps ++ map slot_of_local ls))
    params_open [] ls h = locals_open ls
    params_open (p ∷ ps) ls h =
        one_open p.object (shape_of (known_of program) (slot_of_param p)) (param_shapes (known_of program) (map slot_of_param ps ++ map slot_of_local ls)) (λ e. h 0 p refl (and_true p.object e))
        (params_open ps ls (λ i. h (suc i)))

    pub slots_open : AllOpen IsOpen (param_shapes (known_of program) (slots_of func))
    slots_open = params_open func.params func.locals param_open
