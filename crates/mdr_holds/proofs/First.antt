-- The state in which a run begins holds.
use Rattle.std.proofs.Common.{◌≡◌, ◌⊎◌, inl, inr, ℕ, zero, suc, ◌+◌, ◌*◌, ◌<◌, ◌≤◌, true, false, cond, List, [], ◌∷◌, length, map, slice_get, get_or, Option, Some, None, IsTrue, refl, sym, ap, ◌∙◌, subst, arith}
use Rattle.std.specs.Prelude.{is_some, nat_lt, option_map}
use Rattle.std.proofs.lemmas.Bool.{cond-true, cond-false, eq-eqb, eqb-true, ne_eqb}
use Rattle.std.proofs.lemmas.List.Sums.{sum_by-cons}
use Rattle.std.proofs.lemmas.Option.{slice_get_cases, slice_get_within}
use Rattle.mdr_core.specs.declared.program.GlobalDef.{GlobalDef}
use Rattle.mdr_core.specs.declared.program.Program.{Program}
use Rattle.mdr_core.specs.declared.types.Shape.{Shape}
use Rattle.mdr_core.specs.declared.types.Ty.{Ty, out-Ty}
use Rattle.mdr_core.specs.declared.types.Ty.TheOpen.{Ty-F}
use Rattle.mdr_core.specs.declared.types.Ty.TheVariants as type
use Rattle.mdr_core.specs.declared.types.Ty.TheVariants.{outs-Fun, outs-Lock}
use Rattle.mdr_core.specs.declared.value.Value.{Value}
use Rattle.mdr_core.specs.declared.value.Value.TheVariants as value
use Rattle.mdr_core.specs.declared.value.View.{View}
use Rattle.mdr_core.specs.Layout.{Alone, Leaf, leaves, struct_cells}
use Rattle.mdr_core.specs.Sound.{IsFirstValue, IsSound, NamesEarlier, all_cells}
use Rattle.mdr_core.specs.Types.{is_pointer_by}
use Rattle.mdr_core.specs.Views.{Element, Inside, IsIn, Whole}
use Rattle.mdr_core.proofs.Laid.{laid_out}
use Rattle.mdr_meaning.specs.declared.wire.Wire.{Wire}
use Rattle.mdr_meaning.specs.declared.wire.Wire.TheVariants as wire
use Rattle.mdr_meaning.specs.Bodies.{known_of}
use Rattle.mdr_meaning.specs.Fit.{Fits, FitsLayer, IsKnownView, Knowledge, global_shape, view_of}
use Rattle.mdr_meaning.specs.Numbers.{Numbered}
use Rattle.mdr_meaning.specs.Values.{wire_of, wire_view}
use Rattle.mdr_meaning.specs.Within.{Uses}
use Rattle.mdr_meaning.proofs.FitLaws.{of_address, of_integer, of_pointer}
use Rattle.mdr_mem.specs.declared.cells.Life.{Life}
use Rattle.mdr_mem.specs.Contents.{births_in, is_birth}
use Rattle.mdr_model.specs.declared.memory.Cell.{Cell}
use Rattle.mdr_model.specs.declared.message.New.{New}
use Rattle.mdr_model.specs.Agreement.{has_index, names_it}
use Rattle.mdr_model.specs.Memory.{Memory, born_at, cell_at, is_live, leaf_at}
use Rattle.mdr_model.specs.User.{has_shape}
use Rattle.mdr_model.specs.Values.{names_block}
use Rattle.mdr_model.proofs.LifeLaws.{get-map, there}
use Rattle.mdr_plain.specs.Scripts.{first_world}
use Rattle.mdr_plain.specs.Storage.{birth_of, first_memory, global_block, global_blocks, next_serial}
use Rattle.mdr_bound.specs.declared.bound.Bound.{Bound}
use Rattle.mdr_watched.proofs.MemoryOrder.{first_in_order}
use Rattle.mdr_holds.specs.Holding.{FitsCell, Holds, KnowsBirths, born_global, first_knowledge, shape_of}
use Rattle.mdr_holds.specs.Laws.{IsScript, TakesFirst}
use Rattle.mdr_holds.proofs.Devices.{device_made}
use Rattle.mdr_holds.proofs.Fitting.{some_is}
use Rattle.mdr_holds.proofs.Globals.{cells_are, few_cells, shaped, size_is, some_cells, type_is}
use Rattle.mdr_holds.proofs.Memories.{live_born}
use Rattle.mdr_holds.proofs.Places.{small_in}

-- ---- the blocks of the globals

module _ (known : Numbered) where
  abbrev born_of : ℕ → GlobalDef → New
  born_of n g = (global_block known n g).born

  born_from : (n : ℕ) (gs : List GlobalDef) (i : ℕ) → born_at (global_blocks known n gs) (n + i) ≡ option_map (born_of (n + i)) (slice_get gs i)
  unfolding born_at
  born_from n [] i = refl
  born_from n (g ∷ gs) zero =
      let at : n + 0 ≡ n = omega arith in
      cond-true _ _ _ (eq-eqb n (n + 0) (sym at)) ∙ ap (λ (x : ℕ). Some (born_of x g)) (sym at)
  born_from n (g ∷ gs) (suc i) =
      let at : n + suc i ≡ suc n + i = omega arith in
      cond-false _ _ _ (ne_eqb n (n + suc i) (λ same. omega (arith, same))) ∙ ap (born_at (global_blocks known (suc n) gs)) at ∙ born_from (suc n) gs i ∙ ap (λ (x : ℕ). option_map (born_of x) (slice_get gs i)) (sym at)

  abbrev first_cell : Option GlobalDef → ℕ → Option Wire
  first_cell None index = None
  first_cell (Some g) index = option_map wire_of (slice_get g.init index)

  cell_from : (n : ℕ) (gs : List GlobalDef) (i index : ℕ) → cell_at (global_blocks known n gs) (record { serial = n + i; index = index }) ≡ first_cell (slice_get gs i) index
  unfolding cell_at
  cell_from n [] i index = refl
  cell_from n (g ∷ gs) zero index =
      let at : n + 0 ≡ n = omega arith in
      cond-true _ _ _ (eq-eqb n (n + 0) (sym at)) ∙ get-map wire_of g.init index
  cell_from n (g ∷ gs) (suc i) index =
      let at : n + suc i ≡ suc n + i = omega arith in
      cond-false _ _ _ (ne_eqb n (n + suc i) (λ same. omega (arith, same))) ∙ ap (λ (s : ℕ). cell_at (global_blocks known (suc n) gs) (record { serial = s; index = index })) at ∙ cell_from (suc n) gs i index

  pub first_born : (s : ℕ) → born_at (first_memory known) s ≡ option_map (born_of s) (slice_get known.program.globals s)
  unfolding first_memory
  first_born s =
      let at : 0 + s ≡ s = omega arith in
      ap (born_at (global_blocks known 0 known.program.globals)) (sym at) ∙ born_from 0 known.program.globals s ∙ ap (λ (x : ℕ). option_map (born_of x) (slice_get known.program.globals s)) at

  pub first_held : (c : Cell) → cell_at (first_memory known) c ≡ first_cell (slice_get known.program.globals c.serial) c.index
  unfolding first_memory
  first_held c =
      let at : 0 + c.serial ≡ c.serial = omega arith in
      ap (λ (s : ℕ). cell_at (global_blocks known 0 known.program.globals) (record { serial = s; index = c.index })) (sym at) ∙ cell_from 0 known.program.globals c.serial c.index

  weight : Life → ℕ
  weight l = cond (is_birth l) 1 0

  births_from : (n : ℕ) (gs : List GlobalDef) → births_in (map birth_of (global_blocks known n gs)) ≡ length gs
  unfolding weight
  births_from n [] = refl
  births_from n (g ∷ gs) =
      let rest : births_in (map birth_of (global_blocks known (suc n) gs)) ≡ length gs = births_from (suc n) gs in
      let sum : births_in (map birth_of (global_blocks known n (g ∷ gs))) ≡ 1 + births_in (map birth_of (global_blocks known (suc n) gs)) = sum_by-cons weight (birth_of (global_block known n g)) (map birth_of (global_blocks known (suc n) gs)) in
      omega (arith, sum, rest)

-- ---- by cases on whether there is such a global

global_there : (gs : List GlobalDef) (s : ℕ) (b : New) (f : GlobalDef → New) → option_map f (slice_get gs s) ≡ Some b → (g : GlobalDef) × (slice_get gs s ≡ Some g) × (f g ≡ b)
global_there gs s b f e = of (slice_get gs s) refl e where
  of : (o : Option GlobalDef) → slice_get gs s ≡ o → option_map f o ≡ Some b → (g : GlobalDef) × (slice_get gs s ≡ Some g) × (f g ≡ b)
  of None q h = absurd cc
  of (Some g) q h = (g, q, some_is h)

-- a list that is as long has an item there too
beside : {A B : Type 0} (xs : List A) (ys : List B) (i : ℕ) (x : A) → length xs ≡ length ys → slice_get xs i ≡ Some x → (y : B) × (slice_get ys i ≡ Some y)
beside [] ys i x e q = absurd cc
beside (a ∷ xs) [] i x e q = absurd (omega (arith, e))
beside (a ∷ xs) (y ∷ ys) zero x e q = (y, refl)
beside (a ∷ xs) (y ∷ ys) (suc i) x e q = beside xs ys i x (omega (arith, e)) q

module _ (program : Program) (sound : IsSound program) (uses : Uses) (first : TakesFirst program uses) where
  abbrev K : Knowledge
  K = first_knowledge program uses

  abbrev m : Memory
  m = first_memory (known_of program)

  born_is : (g : ℕ) (def : GlobalDef) → slice_get program.globals g ≡ Some def → born_at m g ≡ Some (born_global program g def)
  born_is g def e = first_born (known_of program) g ∙ ap (option_map (λ (x : GlobalDef). born_global program g x)) e

  born_back : (s : ℕ) (b : New) → born_at m s ≡ Some b → (def : GlobalDef) × (slice_get program.globals s ≡ Some def) × (born_global program s def ≡ b)
  born_back s b e = global_there program.globals s b (λ def. born_global program s def) (sym (first_born (known_of program) s) ∙ e)

  known_is : (g : ℕ) (def : GlobalDef) → slice_get program.globals g ≡ Some def → K.blocks g ≡ Some (global_shape program def)
  known_is g def e = ap (option_map (global_shape program)) e

  -- ---- first values

  -- where a view is one part, so is one with the same parts
  same_part : (v u : View) → u.first ≡ v.first → u.ty ≡ v.ty → u.count ≡ v.count → (from : ℕ) (t : Ty) (count : ℕ) → IsIn program v from t count → IsIn program u from t count
  same_part v u f y c from t count (Whole _ _ _ begins names many) = Whole from t count (f ∙ begins) (ap (slice_get program.types) y ∙ names) (c ∙ many)
  same_part v u f y c from t count (Element _ _ _ s i struct among begins names many) = Element from t count s i struct among (f ∙ begins) (ap (slice_get program.types) y ∙ names) (c ∙ many)
  same_part v u f y c from t count (Inside _ _ _ s i x field struct among names inner) = Inside from t count s i x field struct among names (same_part v u f y c _ field.ty field.count inner)

  earlier_view : (g : ℕ) (t : Ty) (v : View) → NamesEarlier program g t v → IsKnownView program K (wire_view v)
  earlier_view g t v n =
      let part = same_part v (view_of (wire_view v)) refl refl refl 0 n.def.ty n.def.count n.part in
      let small : v.count ≤ n.def.count * length (leaves (struct_cells program.structs) Alone n.def.ty) = small_in program (laid_out program sound) v 0 n.def.ty n.def.count (some_cells program sound v.block.serial n.def n.names) n.part in
      let few : n.def.count * length (leaves (struct_cells program.structs) Alone n.def.ty) ≤ 65536 = few_cells program sound v.block.serial n.def n.names in
      record {
        shape = global_shape program n.def;
        known = known_is v.block.serial n.def n.names;
        view = record { ty = n.def.ty; names = type_is program sound v.block.serial n.def n.names; part = part; inside = n.inside };
        small = omega (arith, small, few);
      }

  null_fits : (l : Ty-F Ty) → IsTrue (is_pointer_by l) → FitsLayer program K l wire.Null
  null_fits (Ty-F.Ptr t) h = tt
  null_fits Ty-F.VoidPtr h = tt
  null_fits (Ty-F.Fun ts) h = tt
  null_fits (Ty-F.Int k) h = absurd cc
  null_fits Ty-F.Lock h = absurd cc
  null_fits (Ty-F.Struct s) h = absurd cc
  null_fits Ty-F.Void h = absurd cc

  pointer_fits : (t target : Ty) (v : View) → (t ≡ type.Ptr target) ⊎ (t ≡ type.VoidPtr) → slice_get program.types v.ty ≡ Some target → IsKnownView program K (wire_view v) → Fits program K t (wire.Ptr (wire_view v))
  pointer_fits t target v (inl e) viewed known = subst (λ (u : Ty). Fits program K u (wire.Ptr (wire_view v))) (sym e) (of_pointer program K target (wire.Ptr (wire_view v)) (viewed, known))
  pointer_fits t target v (inr e) viewed known = subst (λ (u : Ty). Fits program K u (wire.Ptr (wire_view v))) (sym e) (of_address program K (wire.Ptr (wire_view v)) (tt, known))

  value_fits : (g i : ℕ) (def : GlobalDef) (t : Ty) (v : Value) → slice_get program.globals g ≡ Some def → slice_get def.init i ≡ Some v → IsFirstValue program g t v → FitsCell program K t (wire_of v)
  value_fits g i def t (value.Int k n) e q h = inl (subst (λ (u : Ty). Fits program K u (wire.Int k n)) (sym h.0) (of_integer program K k (wire.Int k n) (refl, h.1)))
  value_fits g i def t value.Null e q h = inl (null_fits (out-Ty t) h)
  value_fits g i def t (value.Ptr v) e q h = inl (pointer_fits t h.target v h.fits h.viewed (earlier_view g t v h))
  value_fits g i def t (value.Fn f) e q h =
      inl (subst (λ (u : Ty). Fits program K u (wire.Fn f)) (sym h.2) (subst (λ (l : Ty-F Ty). FitsLayer program K l (wire.Fn f)) (sym (outs-Fun _)) (h.0, h.1, refl, first g i f def e q)))
  value_fits g i def t (value.Lock s) e q h = inr (ap out-Ty h.0 ∙ outs-Lock, tt)
  value_fits g i def t value.Dead e q h = elim h [ ]
  value_fits g i def t value.NoValue e q h = elim h [ ]

  -- ---- cells

  cell_back : (c : Cell) (v : Wire) (def : GlobalDef) → slice_get program.globals c.serial ≡ Some def → cell_at m c ≡ Some v → (x : Value) × (slice_get def.init c.index ≡ Some x) × (wire_of x ≡ v)
  cell_back c v def e q = of (slice_get def.init c.index) refl (sym (ap (λ (o : Option GlobalDef). first_cell (known_of program) o c.index) e) ∙ sym (first_held (known_of program) c) ∙ q) where
    of : (o : Option Value) → slice_get def.init c.index ≡ o → option_map wire_of o ≡ Some v → (x : Value) × (slice_get def.init c.index ≡ Some x) × (wire_of x ≡ v)
    of None r h = absurd cc
    of (Some x) r h = (x, r, some_is h)

  fit : (c : Cell) (b : New) (leaf : Leaf) (v : Wire) → born_at m c.serial ≡ Some b → leaf_at program b c.index ≡ Some leaf → cell_at m c ≡ Some v → FitsCell program K leaf.type v
  fit c b leaf v e l q =
      let global = born_back c.serial b e in
      let x = cell_back c v global.0 global.1 q in
      let cell : slice_get (all_cells program global.0.ty global.0.count) c.index ≡ Some leaf = ap (λ (xs : List Leaf). slice_get xs c.index) (sym (cells_are program sound c.serial global.0 global.1)) ∙ ap (λ (n : New). leaf_at program n c.index) global.2 ∙ l in
      subst (FitsCell program K leaf.type) x.2 (value_fits c.serial c.index global.0 leaf.type x.0 global.1 x.1 ((sound.globals c.serial global.0 global.1).first c.index leaf x.0 cell x.1))

  mapped : {A B : Type 0} (f : A → B) (o : Option A) → is_some (option_map f o) ≡ is_some o
  mapped f None = refl
  mapped f (Some x) = refl

  sized : (c : Cell) → is_some (cell_at m c) ≡ has_index program (born_at m c.serial) c.index
  sized c = of (slice_get program.globals c.serial) refl where
    of : (o : Option GlobalDef) → slice_get program.globals c.serial ≡ o → is_some (cell_at m c) ≡ has_index program (born_at m c.serial) c.index
    of None e =
        ap (λ (x : Option Wire). is_some x) (first_held (known_of program) c ∙ ap (λ (o : Option GlobalDef). first_cell (known_of program) o c.index) e)
        ∙ sym (ap (λ (x : Option New). has_index program x c.index) (first_born (known_of program) c.serial ∙ ap (option_map (λ (x : GlobalDef). born_global program c.serial x)) e))
    of (Some def) e =
        ap (λ (x : Option Wire). is_some x) (first_held (known_of program) c ∙ ap (λ (o : Option GlobalDef). first_cell (known_of program) o c.index) e)
        ∙ mapped wire_of (slice_get def.init c.index) ∙ there def.init c.index ∙ ap (nat_lt c.index) (sym (size_is program sound c.serial def e))
        ∙ sym (ap (λ (x : Option New). has_index program x c.index) (born_is c.serial def e))

  -- ---- each pointer names an earlier global

  first_names : (g : ℕ) (t : Ty) (x : Value) (s : ℕ) → IsFirstValue program g t x → names_block s (wire_of x) ≡ true → is_live m s ≡ true
  first_names g t (value.Ptr v) s h e = live_born m s _ (ap (born_at m) (sym (eqb-true _ _ e)) ∙ born_is v.block.serial h.def h.names)
  first_names g t (value.Int k n) s h e = absurd cc
  first_names g t value.Null s h e = absurd cc
  first_names g t value.Dead s h e = elim h [ ]
  first_names g t (value.Fn f) s h e = absurd cc
  first_names g t (value.Lock x) s h e = absurd cc
  first_names g t value.NoValue s h e = elim h [ ]

  born_there : (c : Cell) (v : Wire) → cell_at m c ≡ Some v → (b : New) × (born_at m c.serial ≡ Some b)
  born_there c v q = by (born_at m c.serial) refl (sym (ap (λ (o : Option Wire). is_some o) q) ∙ sized c) where
    by : (o : Option New) → born_at m c.serial ≡ o → true ≡ has_index program (born_at m c.serial) c.index → (b : New) × (born_at m c.serial ≡ Some b)
    by None r h = let none : true ≡ false = h ∙ ap (λ (o : Option New). has_index program o c.index) r in absurd cc
    by (Some b) r h = (b, r)

  held : (c : Cell) (v : Wire) (s : ℕ) → cell_at m c ≡ Some v → names_block s v ≡ true → is_live m s ≡ true
  held c v s q n =
      let b = born_there c v q in
      let global = born_back c.serial b.0 b.1 in
      let x = cell_back c v global.0 global.1 q in
      let rules = sound.globals c.serial global.0 global.1 in
      let leaf = beside global.0.init (all_cells program global.0.ty global.0.count) c.index x.0 rules.each x.1 in
      first_names c.serial leaf.0.type x.0 s (rules.first c.index leaf.0 x.0 leaf.1 x.1) (ap (names_block s) x.2 ∙ n)

  closed : (c : Cell) (s : ℕ) → names_it s (cell_at m c) ≡ true → is_live m s ≡ true
  unfolding names_it
  closed c s e = of (cell_at m c) refl e where
    of : (o : Option Wire) → cell_at m c ≡ o → names_it s o ≡ true → is_live m s ≡ true
    of None q n = absurd cc
    of (Some v) q n = held c v s q n

  -- ---- the first state

  module _ (script : Bound) (fits : IsScript program script) (budget : ℕ) where
    next_is : next_serial (first_world (known_of program) script budget) ≡ length program.globals
    unfolding first_world first_memory
    next_is = births_from (known_of program) 0 program.globals

    known_births : KnowsBirths K (length program.globals)
    known_births = record { told = told; each = each } where
      told : (s : ℕ) (shape : Shape) → option_map (global_shape program) (slice_get program.globals s) ≡ Some shape → s < length program.globals
      told s shape e = of (slice_get program.globals s) refl e where
        of : (o : Option GlobalDef) → slice_get program.globals s ≡ o → option_map (global_shape program) o ≡ Some shape → s < length program.globals
        of None q h = absurd cc
        of (Some def) q h = slice_get_within program.globals s def q

      each : (s : ℕ) → s < length program.globals → (shape : Shape) × (option_map (global_shape program) (slice_get program.globals s) ≡ Some shape)
      each s under = of (slice_get_cases program.globals s).1 where
        of : ((def : GlobalDef) × (s < length program.globals) × (slice_get program.globals s ≡ Some def) × (get_or program.globals s def ≡ def)) ⊎ ((length program.globals ≤ s) × (slice_get program.globals s ≡ None))
            → (shape : Shape) × (option_map (global_shape program) (slice_get program.globals s) ≡ Some shape)
        of (inl c) = (global_shape program c.0, ap (option_map (global_shape program)) c.2)
        of (inr c) = absurd (omega (arith, c.0, under))

    pub first_holds : Holds program K (first_world (known_of program) script budget)
    unfolding first_world
    first_holds =
        let order = first_in_order (known_of program) script budget in
        record {
          memory = record {
            formed = record { rises = order.rises; sized = sized; closed = closed };
            globals = born_is;
            shapes = λ s b e. let g = born_back s b e in subst (λ (x : New). has_shape program x ≡ true) g.2 (shaped program sound s g.0 g.1);
            known = λ s b e. let g = born_back s b e in known_is s g.0 g.1 ∙ ap (λ (x : New). Some (shape_of x)) g.2;
            fit = fit;
          };
          births = subst (KnowsBirths K) (sym next_is) known_births;
          low = order.below;
          views = tt;
          device = device_made script.words script.rules fits.words fits.rules;
          handler = λ f e. absurd cc;
        }
