-- The trees of a sound program's code are fair: for each form, whatever fair tree goes on.
use Rattle.std.proofs.lemmas.Bool.{or_left, or_right}
use Rattle.std.proofs.Common.{◌≡◌, ◌<◌, ◌||◌, ◌⊎◌, inl, inr, eq-eqb, eqb-true, ltb-true, refl, sym, ap, ◌∙◌, subst, ℕ, ℤ, zero, suc, ◌+◌, ◌≤◌, Bool, true, false, not, ◌&&◌, List, [], ◌∷◌, ◌++◌, length, map, ◌==◌, nat_lt, slice_get, slice_set, Option, Some, None, pos, arith, append-nil, append_assoc, unwrap_or, min, negsuc, ◌≤ℤ◌}
use Rattle.std.specs.Option.{option_map}
use Rattle.std.proofs.lemmas.Int.{ints}
use Rattle.std.proofs.lemmas.List.{length-take}
use Rattle.mdr_core.specs.declared.value.Value.TheVariants as value
use Rattle.mdr_core.specs.Kinds.{is_in_range}
use Rattle.mdr_core.proofs.Ranges.{in_range-greatest}
use Rattle.mdr_meaning.specs.Printed.{print_text, printed as shown_text}
use Rattle.mdr_core.specs.declared.kind.Kind.{Kind}
use Rattle.mdr_core.specs.declared.kind.Kind.TheVariants.{U8, U32, S8, S32}
use Rattle.mdr_core.specs.declared.place.At.{At}
use Rattle.mdr_core.specs.declared.types.Ty.{Ty, out-Ty}
use Rattle.mdr_core.specs.declared.types.Ty.TheVariants as ty
use Rattle.mdr_core.specs.declared.types.Ty.TheVariants.{outs-Int, outs-Fun}
use Rattle.mdr_core.specs.declared.program.Program.{Program}
use Rattle.mdr_core.specs.declared.program.Func.{Func}
use Rattle.mdr_core.specs.declared.program.Param.{Param}
use Rattle.mdr_core.specs.declared.code.Stmt.{Stmt}
use Rattle.mdr_core.specs.Code.{Term, Lvalue, Called, CallOf, Goal, Way, Code, Codes}
use Rattle.mdr_core.specs.Conversions.{converted}
use Rattle.mdr_core.specs.Folds.{codes_of}
use Rattle.mdr_core.specs.Layout.{chosen, zero_value}
use Rattle.mdr_core.specs.Services.{Service, Kzalloc, Kcalloc, Kfree, Readl, Writel, Printk, RequestIrq, FreeIrq, Deliver, Combolock, Combounlock, Bug, Enter, Leave, Signature, Plain, offered, service_numbered}
use Rattle.mdr_core.specs.Sound.{IsSound, HasTypedBody}
use Rattle.mdr_core.specs.Types.{Becomes, HasNumber}
use Rattle.mdr_core.specs.Typing.{Slot, One, Has, Designates, HaveAll, GoesTo, gives_by, NamesHandler, NamesObject, IsLocal, TakesText, Returns, IsTyped, AreTyped, slots_of, function_type}
use Rattle.mdr_core.proofs.Conversions.{converted-in_range}
use Rattle.mdr_core.proofs.Viewed.{some_same}
use Rattle.mdr_meaning.specs.declared.shape.Shape64.{Shape64}
use Rattle.mdr_meaning.specs.declared.wire.Wire.{Wire}
use Rattle.mdr_meaning.specs.declared.wire.Wire.TheVariants as wire
use Rattle.mdr_meaning.specs.Asking.{allocated, asks, counted, serves, serves_by}
use Rattle.mdr_meaning.specs.Bodies.{body_by, body_from, body_of, kernel_side, known_of, means, started, user_side, whole_side, without_funcs}
use Rattle.mdr_meaning.specs.Calls.{call, call_by, deep, direct, enters, goes_to, keep, put, received, through}
use Rattle.mdr_meaning.specs.Expressions.{given, place, slot_of, value, values}
use Rattle.mdr_meaning.specs.Fair.{AllFit, AreBirths, AreBorn, AreKnown, Begins, FairTo, IsAsk, IsPlace, IsServed, Leaves, TakesArgs, TakesShape, after, is_first_type, stands}
use Rattle.mdr_meaning.specs.FairTrees.{IsSideOf, SidesAreOfPrograms, TreesAreFair, TreesAreFairTo}
use Rattle.mdr_meaning.specs.Fit.{Knowledge, Grows, KnowsGlobals, IsInteger, IsDataPointer, PointsTo, Fits, FitsLayer, IsFunction, IsResult}
use Rattle.mdr_meaning.specs.Lives.{after_deaths, asked_for, births, births_by, closes, deaths, deaths_by, ends, fills, in_block, object_params, param_shapes, returned, shape_of, with_object}
use Rattle.mdr_meaning.specs.Named.{named_type, slot_type}
use Rattle.mdr_meaning.specs.Sides.{Body, Side, Here, Locals, Flow, Ends, Breaks, Continues, Returns as Gave, Next, Go, Means, flow_of, framed, in_here}
use Rattle.mdr_meaning.specs.Slots.{SlotsFit}
use Rattle.mdr_meaning.specs.Statements.{around, characters, declared, declared_by, element, kind_by, leaves, on_ends, returns, stmt, stmts, texts, turn}
use Rattle.mdr_meaning.specs.Tree.{Tree}
use Rattle.mdr_meaning.specs.Numbers.{type_number}
use Rattle.mdr_meaning.specs.Values.{first_of, is_true, natural, natural_of, rest_of, saturated_u32, wire_of}
use Rattle.mdr_meaning.specs.Within.{CalleeWithin, CodeWithin, CodesWithin, FirstWithin, FormWithin, GoalWithin, LvalueWithin, OptionWithin, PointerWithin, TermWithin, TermsWithin, Uses, called_type}
use Rattle.mdr_meaning.proofs.ExpressionLaws.{Gives, given_fair, named_slot, place_fair, value_fair}
use Rattle.mdr_meaning.proofs.FitLaws.{literal_fits, of_integer, of_pointer, to_integer, to_pointer}
use Rattle.mdr_meaning.proofs.GrowthLaws.{all_grow, are_grow, data_known, fits_result, globals_grow, grows_on, grows_same, known_append, result_grows, result_outlives}
use Rattle.mdr_meaning.proofs.NumberLaws.{left_of, numbered_short}
use Rattle.mdr_meaning.proofs.PlacedLaws.{Inside, InsideCode, first_inside, only_inside, own_first, rest_inside}
use Rattle.mdr_meaning.proofs.PointerLaws.{at_index_fits}
use Rattle.mdr_meaning.proofs.SlotLaws.{AreSoundSlots, Filling, Holds, born_points, filling_begins, filling_ends, filling_fills, filling_names, filling_passes, filling_value, framed_holds, holds_grows, object_held, object_holds, params_are_births, plain_holds, set_keeps, sound_slots, zero_fits}
use Rattle.mdr_meaning.proofs.TargetLaws.{callee, named, received_fits, store_fair}

first_same : {A : Type 0} {x y : A} {xs ys : List A} → x ∷ xs ≡ y ∷ ys → x ≡ y
first_same e = cc

rest_same : {A : Type 0} {x y : A} {xs ys : List A} → x ∷ xs ≡ y ∷ ys → xs ≡ ys
rest_same e = cc

-- no service has this number: it calls a function
not_served : {s : Service} → service_numbered 15 ≡ Some s → ⊥
not_served e = cc

-- the body of a function, from its code
abbrev made : Func → Codes → Body
made func cs = record { slots = slots_of func; result = func.result; code = cs }

record IsCodeOf (program : Program) (func : Func) (body : Body) : Type 0 where
  code : Codes
  is : body ≡ made func code
  typed : AreTyped program (slots_of func) func.result false code

code_by : (program : Program) (func : Func) (o : Option (List Stmt)) (body : Body) → HasTypedBody program func o → body_by func o ≡ Some body → IsCodeOf program func body
code_by program func None body h e = absurd cc
code_by program func (Some ss) body h e = record { code = codes_of ss; is = sym (some_same e); typed = h }

code_in : (program : Program) → IsSound program → (f : ℕ) (func : Func) (body : Body) → slice_get program.funcs f ≡ Some func → body_of program f ≡ Some body → IsCodeOf program func body
unfolding body_of
code_in program sound f func body names e = code_by program func func.body body (sound.funcs f func names).body (sym (ap body_from names) ∙ e)

module _ (most : ℕ) (wide : 256 ≤ most) (program : Program) (sound : IsSound program) (own : ℕ → Option Body) (asking : Bool) (bodies : (f : ℕ) (body : Body) → own f ≡ Some body → body_of program f ≡ Some body) (uses : Uses) (within : (f : ℕ) (body : Body) → own f ≡ Some body → CodesWithin program uses body.slots f body.code) (top : Ty) where
  abbrev side : Side
  side = record { known = known_of program; own = own; asks = asking }

  abbrev F : Knowledge → List Wire → Tree → Type 0
  F K live t = FairTo most program side top K live t

  -- ---- what stands where code goes on

  -- the globals are known, and what the side's code does with functions
  record Knows (K : Knowledge) : Type 0 where
    globals : KnowsGlobals program K
    uses_are : K.uses ≡ uses

  knows_grow : (K K' : Knowledge) → Grows K K' → Knows K → Knows K'
  knows_grow K K' g h = record { globals = globals_grow program K K' g h.globals; uses_are = g.same ∙ h.uses_are }

  -- the globals are known, slots hold what they shall, the objects of the block are known, and these live behind those around it
  record Stands (K : Knowledge) (slots : List Slot) (live base : List Wire) (l : Locals) : Type 0 where
    globals : Knows K
    each : (i : ℕ) (s : Slot) → slice_get slots i ≡ Some s → Holds program K s (slot_of l.slots i)
    born : AreKnown program K l.born
    lives : live ≡ base ++ l.born

  abbrev FlowFits : Knowledge → Ty → Flow → Type 0
  FlowFits K t (Gave v) = IsResult program K t v
  FlowFits K t flow = Unit {0}

  record NextFair (K : Knowledge) (here : Here) (base : List Wire) (k : Next) : Type 0 where
    by : (K' : Knowledge) → Grows K K' → (live : List Wire) (flow : Flow) (l : Locals) → Stands K' here.slots live base l → FlowFits K' here.result flow → F K' live (k flow l)

  record GoFair (here : Here) (go : Go) : Type 0 where
    by : (K : Knowledge) (live base : List Wire) (l : Locals) → Stands K here.slots live base l → (k : Next) → NextFair K here base k → F K live (go l k)

  -- what follows a call that gives a value of the type
  record ValueFair (K : Knowledge) (live : List Wire) (t : Ty) (k : Wire → Tree) : Type 0 where
    by : (K' : Knowledge) → Grows K K' → (v : Wire) → IsResult program K' t v → F K' live (k v)

  next_grows : (K K' : Knowledge) → Grows K K' → (here : Here) (base : List Wire) (k : Next) → NextFair K here base k → NextFair K' here base k
  next_grows K K' g here base k h = record { by = λ K2 g2. h.by K2 (grows_on K K' K2 g g2) }

  value_grows : (K K' : Knowledge) → Grows K K' → (live : List Wire) (t : Ty) (k : Wire → Tree) → ValueFair K live t k → ValueFair K' live t k
  value_grows K K' g live t k h = record { by = λ K2 g2. h.by K2 (grows_on K K' K2 g g2) }

  stands_grow : (K K' : Knowledge) → Grows K K' → (slots : List Slot) (live base : List Wire) (l : Locals) → Stands K slots live base l → Stands K' slots live base l
  stands_grow K K' g slots live base l h = record {
    globals = knows_grow K K' g h.globals;
    each = λ i s e. holds_grows program K K' g s (slot_of l.slots i) (h.each i s e);
    born = are_grow program K K' g l.born h.born;
    lives = h.lives;
  }

  slots_fit : (K : Knowledge) (slots : List Slot) (live base : List Wire) (l : Locals) → Stands K slots live base l → SlotsFit program K slots l.slots
  slots_fit K slots live base l h = record { each = λ i s e. (h.each i s e).0 }

  -- other lists of objects
  with_born : (K : Knowledge) (slots : List Slot) (live base live' base' : List Wire) (l : Locals) (born : List Wire) → Stands K slots live base l → AreKnown program K born → live' ≡ base' ++ born → Stands K slots live' base' (record { slots = l.slots; born = born })
  with_born K slots live base live' base' l born h k e = record { globals = h.globals; each = h.each; born = k; lives = e }

  -- one slot takes a value that it may hold
  with_slot : (K : Knowledge) (slots : List Slot) (live base : List Wire) (l : Locals) (i : ℕ) (s : Slot) (v : Wire) → slice_get slots i ≡ Some s → Holds program K s v → Stands K slots live base l
      → Stands K slots live base (record { slots = slice_set l.slots i v; born = l.born })
  with_slot K slots live base l i s v names holds h = record {
    globals = h.globals;
    each = λ j x e. set_keeps (Holds program K x) l.slots i j v (h.each j x e) (λ q. subst (λ y. Holds program K y v) (some_same (sym names ∙ ap (slice_get slots) q ∙ e)) holds);
    born = h.born;
    lives = h.lives;
  }

  -- ---- expressions

  value_goes : (at : At) → IsPlace side at → (K : Knowledge) (slots : List Slot) (live base : List Wire) (l : Locals) → Stands K slots live base l → (e : Term) (t : Ty) → Has program slots e t → TermWithin uses.taken e → (k : Wire → Tree)
      → ((v : Wire) → Fits program K t v → F K live (k v)) → F K live (value (known_of program) at l.slots e k)
  value_goes at w K slots live base l h e t typed c k n =
      (value_fair most program sound side top K live h.globals.globals at w slots l.slots (slots_fit K slots live base l h) e t typed (subst (λ (u : Uses). TermWithin u.taken e) (sym h.globals.uses_are) c)).by k (record { by = n })

  values_go : (at : At) → IsPlace side at → (K : Knowledge) (slots : List Slot) (live base : List Wire) (l : Locals) → Stands K slots live base l → (es : List Term) (ts : List Ty) → HaveAll program slots es ts → TermsWithin uses.taken es → (k : List Wire → Tree)
      → ((vs : List Wire) → AllFit program K vs ts → F K live (k vs)) → F K live (values (known_of program) at l.slots es k)
  values_go at w K slots live base l h [] [] typed c k n = n [] tt
  values_go at w K slots live base l h [] (t ∷ ts) typed c k n = elim typed [ ]
  values_go at w K slots live base l h (e ∷ es) [] typed c k n = elim typed [ ]
  values_go at w K slots live base l h (e ∷ es) (t ∷ ts) typed c k n =
      value_goes at w K slots live base l h e t typed.0 c.0 _ (λ v fits. values_go at w K slots live base l h es ts typed.1 c.1 (λ vs. k (v ∷ vs)) (λ vs all. n (v ∷ vs) (fits, all)))

  -- ---- births and deaths

  births_fair : (here : Here) → IsPlace side (in_here here 0) → (K : Knowledge) (live : List Wire) (shapes : List Shape64) → AreBirths program shapes → (k : List Wire → Tree)
      → ((K' : Knowledge) → Grows K K' → (ps : List Wire) → AreBorn program K' shapes ps → F K' (live ++ ps) (k ps)) → F K live (births side here shapes k)
  births_fair here w K live [] a k n = subst (λ x. F K x (k [])) (append-nil live) (n K (grows_same K) [] tt)
  births_fair here w K live (s ∷ shapes) a k n = by_side asking where
    by_side : (b : Bool) → F K live (births_by b (in_here here 0) (s ∷ shapes) k)
    by_side true = (w, (Enter, refl, record { births = a; no_args = refl; no_bytes = refl }, (live, refl, n)))
    by_side false = (w, a, n)

  deaths_fair : (here : Here) → IsPlace side (in_here here 0) → (K : Knowledge) (live remains ps : List Wire) → live ≡ remains ++ ps → AreKnown program K ps → (t : Tree) → ((K' : Knowledge) → Grows K K' → F K' remains t) → F K live (deaths side here ps t)
  deaths_fair here w K live remains [] e a t n = subst (λ x. F K x t) (sym (e ∙ append-nil remains)) (n K (grows_same K))
  deaths_fair here w K live remains (p ∷ ps) e a t n = by_side asking where
    by_side : (b : Bool) → F K live (deaths_by b (in_here here 0) (p ∷ ps) t)
    by_side true = (w, (Leave, refl, record { known = a; no_shapes = refl; no_bytes = refl }, (remains, e, λ K' g rs h. n K' g)))
    by_side false = (w, a, (remains, e, n K (grows_same K)))

  -- ---- objects

  -- the object of a slot is born, and the slot holds its address
  object_stands : (K : Knowledge) (slots : List Slot) (live base : List Wire) (l : Locals) (i : ℕ) (s : Slot) (p : Wire) → slice_get slots i ≡ Some s → s.object ≡ true → HasNumber program s.ty
      → IsDataPointer program K (λ n. n ≡ type_number (known_of program) s.ty) p → Begins s.count p → Stands K slots live base l → Stands K slots (live ++ (p ∷ [])) base (with_object i p l)
  object_stands K slots live base l i s p names is table points first h =
      let set = with_slot K slots live base l i s p names (object_holds program K s p is (born_points program K s.ty p table points) first) h in
      with_born K slots live base (live ++ (p ∷ [])) base (record { slots = slice_set l.slots i p; born = l.born }) (l.born ++ (p ∷ [])) set
      (known_append program K l.born (p ∷ []) h.born (data_known program K (λ n. n ≡ type_number (known_of program) s.ty) p points, tt)) (ap (λ xs. xs ++ (p ∷ [])) h.lives ∙ append_assoc base l.born (p ∷ []))

  -- object parameters take their arguments
  fills_fair : (at : At) → IsPlace side at → (K : Knowledge) (slots : List Slot) → AreSoundSlots program slots → Knows K → (live base : List Wire) (i : ℕ) (rest : List Slot) (ps : List Wire) (l : Locals) → Filling program K slots i rest l.slots
      → AreKnown program K l.born → live ≡ base ++ (l.born ++ ps) → AreBorn program K (param_shapes (known_of program) rest) ps → (go : Locals → Tree) → ((l' : Locals) → Stands K slots live base l' → F K live (go l'))
      → F K live (fills at (object_params i rest) ps l go)
  fills_fair at w K slots rules globals live base i [] [] l f born e a go n =
      n l (record { globals = globals; each = filling_ends program K slots i l.slots f; born = born; lives = e ∙ ap (λ xs. base ++ xs) (append-nil l.born) })
  fills_fair at w K slots rules globals live base i [] (p ∷ ps) l f born e a go n = elim a [ ]
  fills_fair at w K slots rules globals live base i (s ∷ ss) ps l f born e a go n =
      by_form (s.object && not s.is_local) refl (λ ps l f born e a. fills_fair at w K slots rules globals live base (suc i) ss ps l f born e a go n) ps e a
    where
      by_form : (b : Bool) → (s.object && not s.is_local) ≡ b
          → ((ps : List Wire) (l : Locals) → Filling program K slots (suc i) ss l.slots → AreKnown program K l.born → live ≡ base ++ (l.born ++ ps) → AreBorn program K (param_shapes (known_of program) ss) ps → F K live (fills at (object_params (suc i) ss) ps l go))
          → (ps : List Wire) → live ≡ base ++ (l.born ++ ps) → AreBorn program K (chosen b (shape_of (known_of program) s ∷ param_shapes (known_of program) ss) (param_shapes (known_of program) ss)) ps
          → F K live (fills at (chosen b (i ∷ object_params (suc i) ss) (object_params (suc i) ss)) ps l go)
      by_form false q more ps e a = more ps l (filling_passes program K slots i s ss l.slots q f) born e a
      by_form true q more [] e a = elim a [ ]
      by_form true q more (p ∷ ps) e a =
          let is : s.object ≡ true = left_of s.object (not s.is_local) q in
          let table = (rules.each i s (filling_names program K slots i s ss l.slots f)).in_table is in
          let points = born_points program K s.ty p table a.0 in (
            w,
            (s.ty, points, filling_value program K slots i s ss l.slots q f),
            more ps (with_object i p l) (filling_fills program K slots i s ss l.slots p q f (object_holds program K s p is points a.1))
                (known_append program K l.born (p ∷ []) born (data_known program K (λ n. n ≡ type_number (known_of program) s.ty) p a.0, tt)) (e ∙ ap (λ xs. base ++ xs) (sym (append_assoc l.born (p ∷ []) ps))) a.2,
          )

  -- ---- what comes next

  leaves_fair : (here : Here) → GoFair here leaves
  leaves_fair here = record { by = λ K live base l st k n. n.by K (grows_same K) live Ends l st tt }

  pick_fair : (b : Bool) (here : Here) (f g : Go) → GoFair here f → GoFair here g → GoFair here (chosen b f g)
  pick_fair true here f g a b = a
  pick_fair false here f g a b = b

  on_ends_fair : (K : Knowledge) (here : Here) (base : List Wire) (go : Go) (k : Next) → GoFair here go → NextFair K here base k → NextFair K here base (on_ends go k)
  on_ends_fair K here base go k a h = record { by = by } where
    by : (K' : Knowledge) → Grows K K' → (live : List Wire) (flow : Flow) (l : Locals) → Stands K' here.slots live base l → FlowFits K' here.result flow → F K' live (on_ends go k flow l)
    by K' g live Ends l st f = a.by K' live base l st k (next_grows K K' g here base k h)
    by K' g live Breaks l st f = h.by K' g live Breaks l st f
    by K' g live Continues l st f = h.by K' g live Continues l st f
    by K' g live (Gave v) l st f = h.by K' g live (Gave v) l st f

  around_fair : (K : Knowledge) (here : Here) (base : List Wire) (again step : Go) (k : Next) → GoFair here again → GoFair here step → NextFair K here base k → NextFair K here base (around again step k)
  around_fair K here base again step k a b h = record { by = by } where
    by : (K' : Knowledge) → Grows K K' → (live : List Wire) (flow : Flow) (l : Locals) → Stands K' here.slots live base l → FlowFits K' here.result flow → F K' live (around again step k flow l)
    by K' g live Ends l st f = b.by K' live base l st (on_ends again k) (on_ends_fair K' here base again k a (next_grows K K' g here base k h))
    by K' g live Breaks l st f = h.by K' g live Ends l st tt
    by K' g live Continues l st f = b.by K' live base l st (on_ends again k) (on_ends_fair K' here base again k a (next_grows K K' g here base k h))
    by K' g live (Gave v) l st f = h.by K' g live (Gave v) l st f

  ends_fair : (here : Here) → IsPlace side (in_here here 0) → (K : Knowledge) (base outer : List Wire) (k : Next) → AreKnown program K outer → NextFair K here base k → NextFair K here (base ++ outer) (ends side here outer k)
  ends_fair here w K base outer k o h = record { by = by } where
    dies : (K' : Knowledge) → Grows K K' → (live : List Wire) (flow : Flow) → ((K2 : Knowledge) → FlowFits K2 here.result flow) → (l : Locals) → Stands K' here.slots live (base ++ outer) l
        → F K' live (deaths side here l.born (k flow (record { slots = l.slots; born = outer })))
    dies K' g live flow f l st =
        deaths_fair here w K' live (base ++ outer) l.born st.lives st.born (k flow (record { slots = l.slots; born = outer }))
        (λ K2 g2. h.by K2 (grows_on K K' K2 g g2) (base ++ outer) flow (record { slots = l.slots; born = outer })
        (with_born K2 here.slots live (base ++ outer) (base ++ outer) base l outer (stands_grow K' K2 g2 here.slots live (base ++ outer) l st) (are_grow program K K2 (grows_on K K' K2 g g2) outer o) refl) (f K2))

    by : (K' : Knowledge) → Grows K K' → (live : List Wire) (flow : Flow) (l : Locals) → Stands K' here.slots live (base ++ outer) l → FlowFits K' here.result flow → F K' live (ends side here outer k flow l)
    by K' g live Ends l st f = dies K' g live Ends (λ K2. tt) l st
    by K' g live Breaks l st f = dies K' g live Breaks (λ K2. tt) l st
    by K' g live Continues l st f = dies K' g live Continues (λ K2. tt) l st
    by K' g live (Gave v) l st f =
        h.by K' g live (Gave v) (record { slots = l.slots; born = outer ++ l.born })
        (with_born K' here.slots live (base ++ outer) live base l (outer ++ l.born) st (known_append program K' outer l.born (are_grow program K K' g outer o) st.born) (st.lives ∙ append_assoc base outer l.born)) f

  block_fair : (here : Here) → IsPlace side (in_here here 0) → (go : Go) → GoFair here go → GoFair here (in_block side here go)
  block_fair here w go a = record {
    by = λ K live base l st k n. a.by K live (base ++ l.born) (record { slots = l.slots; born = [] })
        (with_born K here.slots live base live (base ++ l.born) l [] st tt (st.lives ∙ sym (append-nil (base ++ l.born)))) (ends side here l.born k) (ends_fair here w K base l.born k st.born n);
  }

  returned_fits : (K : Knowledge) (t : Ty) (flow : Flow) → FlowFits K t flow → IsResult program K t (returned flow)
  returned_fits K t (Gave v) h = h
  returned_fits K t Ends h = tt
  returned_fits K t Breaks h = tt
  returned_fits K t Continues h = tt

  closes_fair : (here : Here) → IsPlace side (in_here here 0) → (K : Knowledge) (base : List Wire) (k : Wire → Tree) → ValueFair K base here.result k → NextFair K here base (closes side here k)
  closes_fair here w K base k h = record {
    by = λ K' g live flow l st f. deaths_fair here w K' live base l.born st.lives st.born (k (after_deaths l.born (returned flow)))
        (λ K2 g2. h.by K2 (grows_on K K' K2 g g2) (after_deaths l.born (returned flow))
        (result_grows program K' K2 g2 here.result (after_deaths l.born (returned flow)) (result_outlives program K' here.result l.born (returned flow) (returned_fits K' here.result flow f))));
  }

  jumps : (K : Knowledge) (t : Ty) (way : Way) → FlowFits K t (flow_of way)
  jumps K t Way.Ends = tt
  jumps K t Way.Breaks = tt
  jumps K t Way.Continues = tt

  lvalue_within : (K : Knowledge) → Knows K → (p : Lvalue) → LvalueWithin uses.taken p → LvalueWithin K.uses.taken p
  lvalue_within K h p c = subst (λ (u : Uses). LvalueWithin u.taken p) (sym h.uses_are) c

  -- ---- where values go

  -- 6.5.16.1
  put_fair : (at : At) → IsPlace side at → (K : Knowledge) (slots : List Slot) (live base : List Wire) (l : Locals) → Stands K slots live base l → (p : Lvalue) (t : Ty) → Designates program slots p (One t) → LvalueWithin uses.taken p → (v : Wire) → Fits program K t v
      → (go : Locals → Tree) → ((l' : Locals) → Stands K slots live base l' → F K live (go l')) → F K live (put (known_of program) at p v l go)
  put_fair at w K slots live base l st p t d c v fits go n = by_form p d c where
    stored : (q : Lvalue) → Designates program slots q (One t) → LvalueWithin uses.taken q → F K live (place (known_of program) at l.slots q (λ a. Tree.Store at a v (go l)))
    stored q d c = (place_fair most program sound side top K live st.globals.globals at w slots l.slots (slots_fit K slots live base l st) q (One t) d (lvalue_within K st.globals q c)).by (λ a. Tree.Store at a v (go l)) (record { by = λ a points. (w, (t, points, fits), n l st) })

    by_form : (q : Lvalue) → Designates program slots q (One t) → LvalueWithin uses.taken q → F K live (put (known_of program) at q v l go)
    by_form (Lvalue.Slot i) d c =
        n (record { slots = slice_set l.slots i v; born = l.born })
        (with_slot K slots live base l i d.slot v d.names (plain_holds program K d.slot v d.kept (subst (λ u. Fits program K u v) (sym (named_slot d.slot.array t d.slot.ty d.slot.count d.is)) fits)) st)
    by_form (Lvalue.Object i) d c = stored (Lvalue.Object i) d c
    by_form (Lvalue.Global g) d c = stored (Lvalue.Global g) d c
    by_form (Lvalue.Deref e) d c = stored (Lvalue.Deref e) d c
    by_form (Lvalue.Member q f) d c = stored (Lvalue.Member q f) d c
    by_form (Lvalue.Index q e) d c = stored (Lvalue.Index q e) d c

  -- a call's value converts as by assignment
  into_fair : (at : At) → IsPlace side at → (K : Knowledge) (slots : List Slot) (live base : List Wire) (l : Locals) → Stands K slots live base l → (p : Lvalue) (from to : Ty) → Designates program slots p (One to) → LvalueWithin uses.taken p → Becomes from to → (v : Wire) → IsResult program K from v
      → (go : Locals → Tree) → ((l' : Locals) → Stands K slots live base l' → F K live (go l')) → F K live (given at (received (known_of program) (named_type (without_funcs program) slots p) v) (λ x. put (known_of program) at p x l go))
  into_fair at w K slots live base l st p from to d c b v r go n = by_form p d c where
    stored : (q : Lvalue) → Designates program slots q (One to) → LvalueWithin uses.taken q → F K live (given at (received (known_of program) (named_type (without_funcs program) slots q) v) (λ x. place (known_of program) at l.slots q (λ a. Tree.Store at a x (go l))))
    stored q d c =
        store_fair most program sound side top K live st.globals.globals at w slots l.slots (slots_fit K slots live base l st) q (named_type (without_funcs program) slots q) from to d
        (lvalue_within K st.globals q c) (named most program sound side top K live st.globals.globals at w slots l.slots (slots_fit K slots live base l st) q (One to) d (lvalue_within K st.globals q c)) b v r (go l) (n l st)

    by_form : (q : Lvalue) → Designates program slots q (One to) → LvalueWithin uses.taken q → F K live (given at (received (known_of program) (named_type (without_funcs program) slots q) v) (λ x. put (known_of program) at q x l go))
    by_form (Lvalue.Slot i) d c =
        let type : d.slot.ty ≡ to = named_slot d.slot.array to d.slot.ty d.slot.count d.is in
        subst (λ o. F K live (given at (received (known_of program) (option_map slot_type o) v) (λ x. put (known_of program) at (Lvalue.Slot i) x l go))) (sym d.names)
        (given_fair most program sound side top K live st.globals.globals at w (Fits program K to) (received (known_of program) (Some d.slot.ty) v) (λ x. put (known_of program) at (Lvalue.Slot i) x l go) (received_fits program K d.slot.ty from to type b v r)
        (record { by = λ x fits. put_fair at w K slots live base l st (Lvalue.Slot i) to d c x fits go n }))
    by_form (Lvalue.Object i) d c = stored (Lvalue.Object i) d c
    by_form (Lvalue.Global g) d c = stored (Lvalue.Global g) d c
    by_form (Lvalue.Deref e) d c = stored (Lvalue.Deref e) d c
    by_form (Lvalue.Member q f) d c = stored (Lvalue.Member q f) d c
    by_form (Lvalue.Index q e) d c = stored (Lvalue.Index q e) d c

  -- ---- texts (6.7.8, paragraph 14)

  character_fits : (K : Knowledge) (t : Ty) (k : Kind) (n : ℤ) → t ≡ ty.Int k → Fits program K t (wire.Int (kind_by (out-Ty t)) (converted (kind_by (out-Ty t)) n))
  character_fits K t k n e =
      subst (λ x. Fits program K t (wire.Int x (converted x n))) (sym (ap kind_by (ap out-Ty e ∙ outs-Int k)))
      (subst (λ u. Fits program K u (wire.Int k (converted k n))) (sym e) (of_integer program K k (wire.Int k (converted k n)) (refl, converted-in_range k n)))

  text_fits : (K : Knowledge) (t : Ty) (n : ℤ) → (t ≡ ty.Int U8) ⊎ (t ≡ ty.Int S8) → Fits program K t (wire.Int (kind_by (out-Ty t)) (converted (kind_by (out-Ty t)) n))
  text_fits K t n (inl e) = character_fits K t U8 n e
  text_fits K t n (inr e) = character_fits K t S8 n e

  element_fits : (K : Knowledge) (t : Ty) (p : Wire) (count i : ℕ) → PointsTo program K t p → Begins count p → i ≤ count → PointsTo program K t (element p i)
  element_fits K t (wire.Ptr v) count i h first inside = at_index_fits program sound K t v (saturated_u32 (v.index + i)) h.0 h.1 (omega (arith, first.0, first.1, inside))
  element_fits K t p count i h first inside = h

  texts_fair : (at : At) → IsPlace side at → (K : Knowledge) (live : List Wire) (kind : Kind) (t : Ty) (p : Wire) (count : ℕ) → ((n : ℤ) → Fits program K t (wire.Int kind (converted kind n))) → PointsTo program K t p → Begins count p
      → (i : ℕ) (bs : List ℕ) → i + length bs ≤ count → (tree : Tree) → F K live tree → F K live (texts at kind p i bs tree)
  texts_fair at w K live kind t p count chars points first i [] many tree h = h
  texts_fair at w K live kind t p count chars points first i (b ∷ bs) many tree h = (
    w,
    (t, element_fits K t p count i points first (omega (arith, many)), chars (pos b)),
    texts_fair at w K live kind t p count chars points first (suc i) bs (omega (arith, many)) tree h,
  )

  -- ---- services

  asks_fair : (at : At) → IsPlace side at → (K : Knowledge) (live : List Wire) (m : ℕ) (s : Service) (args : List Wire) (shapes : List Shape64) (bytes : List ℕ) (k : Wire → Tree) → service_numbered m ≡ Some s → IsAsk program K (asked_for m at args shapes bytes) s
      → Leaves s (asked_for m at args shapes bytes) live live → ((rs : List Wire) → after s live rs ≡ live)
      → ((K' : Knowledge) → Grows K K' → (rs : List Wire) → IsServed program K' (asked_for m at args shapes bytes) s rs → F K' live (k (first_of rs))) → F K live (asks m at args shapes bytes k)
  asks_fair at w K live m s args shapes bytes k names a stays same n = (w, (s, names, a, (live, stays, λ K' g rs h. subst (λ x. F K' x (k (first_of rs))) (sym (same rs)) (n K' g rs h))))

  -- a service that gives nothing
  plain_fair : (at : At) → IsPlace side at → (K : Knowledge) (live : List Wire) (m : ℕ) (s : Service) (args : List Wire) (bytes : List ℕ) (t : Ty) (k : Wire → Tree) → service_numbered m ≡ Some s → IsAsk program K (asked_for m at args [] bytes) s
      → Leaves s (asked_for m at args [] bytes) live live → ((rs : List Wire) → after s live rs ≡ live)
      → ((K' : Knowledge) (rs : List Wire) → IsServed program K' (asked_for m at args [] bytes) s rs → first_of rs ≡ wire.NoValue) → ValueFair K live t k → F K live (asks m at args [] bytes k)
  plain_fair at w K live m s args bytes t k names a stays same none n = asks_fair at w K live m s args [] bytes k names a stays same (λ K' g rs h. n.by K' g (first_of rs) (subst (λ v. IsResult program K' t v) (sym (none K' rs h)) tt))

  integer_served : (K : Knowledge) (live : List Wire) (i : Kind) (k : Wire → Tree) → ValueFair K live (ty.Int i) k → (K' : Knowledge) → Grows K K' → (rs : List Wire) → IsInteger i (first_of rs) → F K' live (k (first_of rs))
  integer_served K live i k n K' g rs h = n.by K' g (first_of rs) (fits_result program K' (ty.Int i) (first_of rs) (of_integer program K' i (first_of rs) h))

  object_served : (K : Knowledge) (live : List Wire) (t : Ty) (count : ℕ) (k : Wire → Tree) → HasNumber program t → ValueFair K live (ty.Ptr t) k → (K' : Knowledge) → Grows K K' → (rs : List Wire)
      → IsDataPointer program K' (is_first_type (allocated (known_of program) (Some t) count)) (first_of rs) → F K' live (k (first_of rs))
  object_served K live t count k table n K' g rs h = n.by K' g (first_of rs) (fits_result program K' (ty.Ptr t) (first_of rs) (of_pointer program K' t (first_of rs) (born_points program K' t (first_of rs) table h)))

  first_points : (K : Knowledge) (vs : List Wire) (t : Ty) (ts : List Ty) → AllFit program K vs (ty.Ptr t ∷ ts) → PointsTo program K t (first_of vs)
  first_points K [] t ts h = elim h [ ]
  first_points K (v ∷ vs) t ts h = to_pointer program K t v h.0

  -- a number of 32 bits
  natural_few : (n : ℤ) → is_in_range U32 n ≡ true → natural_of n ≤ 4294967295
  natural_few (pos m) h = let most : pos m ≤ℤ pos 4294967295 = in_range-greatest U32 (pos m) h in omega (arith, ints)
  natural_few (negsuc m) h = omega arith

  integer_few : (v : Wire) → IsInteger U32 v → natural v ≤ 4294967295
  integer_few (wire.Int k n) h = natural_few n h.1
  integer_few v h = elim h [ ]

  second_few : (K : Knowledge) (vs : List Wire) (t : Ty) → AllFit program K vs (t ∷ ty.Int U32 ∷ []) → natural (first_of (rest_of vs)) ≤ 4294967295
  second_few K [] t h = elim h [ ]
  second_few K (v ∷ []) t h = elim h.1 [ ]
  second_few K (v ∷ x ∷ xs) t h = integer_few x (to_integer program K U32 x h.1.0)

  text_few : (format : List ℕ) (vs : List Wire) → length (print_text format vs) ≤ 4096
  text_few format vs = let many : length (print_text format vs) ≡ min 4096 (length (shown_text Plain format vs)) = length-take 4096 (shown_text Plain format vs) in omega (arith, many)

  gives_type : (K : Knowledge) (live : List Wire) (a b : Signature) (k : Wire → Tree) → Some a ≡ Some b → ValueFair K live b.result k → ValueFair K live a.result k
  gives_type K live a b k e n = subst (λ (x : Signature). ValueFair K live x.result k) (sym (some_same e)) n

  takes_types : (K : Knowledge) (a b : Signature) (vs : List Wire) → Some a ≡ Some b → AllFit program K vs b.params → AllFit program K vs a.params
  takes_types K a b vs e h = subst (λ (x : Signature). AllFit program K vs x.params) (sym (some_same e)) h

  takes_args : (K : Knowledge) (at : At) (m : ℕ) (vs : List Wire) (a b : Signature) → Some a ≡ Some b → AllFit program K vs b.params → TakesArgs program K (asked_for m at vs [] []) a.params
  takes_args K at m vs a b e h = record { fit = takes_types K a b vs e h; no_shapes = refl; no_bytes = refl }

  takes_shape : (at : At) (m count : ℕ) (t : Ty) (Counts : ℕ → Type 0) → HasNumber program t → Counts count → TakesShape program (asked_for m at [] (allocated (known_of program) (Some t) count) []) Counts
  takes_shape at m count t Counts table h = record {
    shape = record { ty = type_number (known_of program) t; count = count };
    ty = t;
    names = numbered_short program t table;
    is = refl;
    counts = h;
    no_args = refl;
    no_bytes = refl;
  }

  -- `request_irq` is asked with a function's name
  abbrev Handles : Knowledge → Service → List Wire → Type 0
  Handles K RequestIrq vs = (f : ℕ) × (vs ≡ wire.Fn f ∷ []) × (K.uses.handles f ≡ true)
  Handles K s vs = Unit {0}

  serves_fair : (at : At) → IsPlace side at → (K : Knowledge) (live : List Wire) (m : ℕ) (callee : Called) (args : List Term) (shape : Option Ty) (format : Option (List ℕ)) (vs : List Wire) (s : Service) (signature : Signature)
      → service_numbered m ≡ Some s → offered s shape format ≡ Some signature → NamesObject program shape → AllFit program K vs signature.params → Handles K s vs → (k : Wire → Tree) → ValueFair K live signature.result k
      → F K live (serves_by (known_of program) m at (record { callee = callee; args = args; shape = shape; format = format }) vs (Some s) k)
  serves_fair at w K live m callee args (Some t) None vs Kzalloc signature names e o a h k n =
      asks_fair at w K live m Kzalloc [] (allocated (known_of program) (Some t) 1) [] k names (takes_shape at m 1 t (λ n. n ≡ 1) o.in_table refl) refl (λ rs. refl) (object_served K live t 1 k o.in_table (gives_type K live _ signature k e n))
  serves_fair at w K live m callee args shape format vs Kzalloc signature names e o a h k n = absurd cc
  serves_fair at w K live m callee args (Some t) None vs Kcalloc signature names e o a h k n =
      asks_fair at w K live m Kcalloc [] (allocated (known_of program) (Some t) (counted (first_of vs))) [] k names (takes_shape at m (counted (first_of vs)) t (λ n. Unit {0}) o.in_table tt) refl (λ rs. refl)
      (object_served K live t (counted (first_of vs)) k o.in_table (gives_type K live _ signature k e n))
  serves_fair at w K live m callee args shape format vs Kcalloc signature names e o a h k n = absurd cc
  serves_fair at w K live m callee args None None vs Kfree signature names e o a h k n = plain_fair at w K live m Kfree vs [] signature.result k names (takes_args K at m vs _ signature e a) refl (λ rs. refl) (λ K' rs h. h) n
  serves_fair at w K live m callee args shape format vs Kfree signature names e o a h k n = absurd cc
  serves_fair at w K live m callee args None None vs Readl signature names e o a h k n =
      asks_fair at w K live m Readl vs [] [] k names (takes_args K at m vs _ signature e a) refl (λ rs. refl) (integer_served K live U32 k (gives_type K live _ signature k e n))
  serves_fair at w K live m callee args shape format vs Readl signature names e o a h k n = absurd cc
  serves_fair at w K live m callee args None None vs Writel signature names e o a h k n = plain_fair at w K live m Writel vs [] signature.result k names (takes_args K at m vs _ signature e a) refl (λ rs. refl) (λ K' rs h. h) n
  serves_fair at w K live m callee args shape format vs Writel signature names e o a h k n = absurd cc
  serves_fair at w K live m callee args shape format vs Printk signature names e o a h k n =
      plain_fair at w K live m Printk [] (print_text (unwrap_or format []) vs) signature.result k names (record { few = text_few (unwrap_or format []) vs; no_args = refl; no_shapes = refl }) refl (λ rs. refl) (λ K' rs h. h) n
  serves_fair at w K live m callee args None None vs RequestIrq signature names e o a h k n =
      asks_fair at w K live m RequestIrq vs [] [] k names (record { takes = takes_args K at m vs _ signature e a; func = h.0; is = h.1; handles = h.2 }) refl (λ rs. refl) (integer_served K live S32 k (gives_type K live _ signature k e n))
  serves_fair at w K live m callee args shape format vs RequestIrq signature names e o a h k n = absurd cc
  serves_fair at w K live m callee args None None vs FreeIrq signature names e o a h k n = plain_fair at w K live m FreeIrq vs [] signature.result k names (takes_args K at m vs _ signature e a) refl (λ rs. refl) (λ K' rs h. h) n
  serves_fair at w K live m callee args shape format vs FreeIrq signature names e o a h k n = absurd cc
  serves_fair at w K live m callee args None None vs Deliver signature names e o a h k n =
      let types : AllFit program K vs (ty.Ptr (ty.Int U8) ∷ ty.Int U32 ∷ []) = takes_types K _ signature vs e a in
      let count : natural (first_of (rest_of vs)) ≤ 4294967295 = second_few K vs (ty.Ptr (ty.Int U8)) types in (
        w,
        first_points K vs (ty.Int U8) (ty.Int U32 ∷ []) types,
        λ bytes many. plain_fair at w K live m Deliver [] bytes signature.result k names (record { few = omega (arith, many, count); no_args = refl; no_shapes = refl }) refl (λ rs. refl) (λ K' rs h. h) n,
      )
  serves_fair at w K live m callee args shape format vs Deliver signature names e o a h k n = absurd cc
  serves_fair at w K live m callee args None None vs Combolock signature names e o a h k n = plain_fair at w K live m Combolock vs [] signature.result k names (takes_args K at m vs _ signature e a) refl (λ rs. refl) (λ K' rs h. h) n
  serves_fair at w K live m callee args shape format vs Combolock signature names e o a h k n = absurd cc
  serves_fair at w K live m callee args None None vs Combounlock signature names e o a h k n = plain_fair at w K live m Combounlock vs [] signature.result k names (takes_args K at m vs _ signature e a) refl (λ rs. refl) (λ K' rs h. h) n
  serves_fair at w K live m callee args shape format vs Combounlock signature names e o a h k n = absurd cc
  serves_fair at w K live m callee args None None vs Bug signature names e o a h k n = plain_fair at w K live m Bug vs [] signature.result k names (takes_args K at m vs _ signature e a) refl (λ rs. refl) (λ K' rs h. h) n
  serves_fair at w K live m callee args shape format vs Bug signature names e o a h k n = absurd cc
  serves_fair at w K live m callee args shape format vs Enter signature names e o a h k n = absurd cc
  serves_fair at w K live m callee args shape format vs Leave signature names e o a h k n = absurd cc

  -- ---- in a function of the side

  record IsDeep (here : Here) : Type 0 where
    whole : IsPlace side (in_here here 0)
    some : 1 ≤ here.depth
    limited : here.depth ≤ most

  record Runs (here : Here) : Type 0 where
    place : IsDeep here
    slots : AreSoundSlots program here.slots

  module _ (low : Means) (later : (in_loop : Bool) (here : Here) → Runs here → (cs : Codes) → Inside side here cs → AreTyped program here.slots here.result in_loop cs → CodesWithin program uses here.slots here.func cs → GoFair here (low here cs)) where
    -- a body is entered, with fewer functions active before
    made_fair : (caller : Here) → caller.depth < most → (f : ℕ) (func : Func) → slice_get program.funcs f ≡ Some func → (cs : Codes) → AreTyped program (slots_of func) func.result false cs → own f ≡ Some (made func cs)
        → (K : Knowledge) (live : List Wire) → Knows K → (vs : List Wire) → AllFit program K vs (map (λ (p : Param). p.ty) func.params) → (k : Wire → Tree) → ValueFair K live func.result k
        → F K live (enters side low caller (record { func = f; depth = suc caller.depth; slots = slots_of func; result = func.result }) (made func cs) vs k)
    made_fair caller d f func names cs typed is K live globals vs all k n =
        let inner : Here = record { func = f; depth = suc caller.depth; slots = slots_of func; result = func.result } in
        let whole : IsPlace side (in_here inner 0) = record { body = made func cs; own = is; stmt = inl refl } in
        let rules : AreSoundSlots program (slots_of func) = sound_slots program sound f func names in
        let runs : Runs inner = record { place = record { whole = whole; some = omega arith; limited = omega (arith, d) }; slots = rules } in
        let inside : Inside side inner cs = record { each = λ m e. record { body = made func cs; own = is; stmt = inr e } } in
        births_fair inner whole K live (param_shapes (known_of program) (slots_of func)) (params_are_births program (slots_of func) rules) _ (λ K' g ps born.
        fills_fair (in_here inner 0) whole K' (slots_of func) rules (knows_grow K K' g globals) (live ++ ps) live 0 (slots_of func) ps (record { slots = framed (slots_of func) vs; born = [] })
        (filling_begins program K' (slots_of func) (framed (slots_of func) vs) (framed_holds program K' func.params func.locals vs (all_grow program K K' g vs (map (λ (p : Param). p.ty) func.params) all) (sound.funcs f func names).locals)) tt refl born
        (λ l. low inner cs l (closes side inner k)) (λ l st. (later false inner runs cs inside typed (within f (made func cs) is)).by K' (live ++ ps) live l st (closes side inner k) (closes_fair inner whole K' live k (value_grows K K' g live func.result k n))))

    entered_fair : (caller : Here) → caller.depth < most → (f : ℕ) (func : Func) → slice_get program.funcs f ≡ Some func → (body : Body) → own f ≡ Some body → (K : Knowledge) (live : List Wire) → Knows K → (vs : List Wire) → AllFit program K vs (map (λ (p : Param). p.ty) func.params)
        → (k : Wire → Tree) → ValueFair K live func.result k → (at : At) → F K live (goes_to side low caller at f vs (Some body) k)
    entered_fair caller d f func names body is K live globals vs all k n at =
        let code = code_in program sound f func body names (bodies f body is) in
        subst (λ b. F K live (goes_to side low caller at f vs (Some b) k)) (sym code.is) (made_fair caller d f func names code.code code.typed (is ∙ ap Some code.is) K live globals vs all k n)

    module _ (here : Here) (h : Runs here) where
      goes_to_fair : (at : At) → IsPlace side at → (K : Knowledge) (live : List Wire) → Knows K → (f : ℕ) (func : Func) → slice_get program.funcs f ≡ Some func → (vs : List Wire) → AllFit program K vs (map (λ (p : Param). p.ty) func.params)
          → (body : Option Body) → own f ≡ body → here.depth < 256 → uses.calls at.func f ≡ true → (k : Wire → Tree) → ValueFair K live func.result k → F K live (goes_to side low here at f vs body k)
      goes_to_fair at w K live globals f func names vs all None is d c k n = (w, is, (func, record { calls = ap (λ (u : Uses). u.calls at.func f) globals.uses_are ∙ c; names = names; fit = all; some = h.place.some; limited = omega (arith, d) }, n.by))
      goes_to_fair at w K live globals f func names vs all (Some body) is d c k n = entered_fair here (omega (arith, d, wide)) f func names body is K live globals vs all k n at

      direct_fair : (at : At) → IsPlace side at → (K : Knowledge) (live : List Wire) → Knows K → (f : ℕ) (func : Func) → slice_get program.funcs f ≡ Some func → (vs : List Wire) → AllFit program K vs (map (λ (p : Param). p.ty) func.params)
          → uses.calls at.func f ≡ true → (k : Wire → Tree) → ValueFair K live func.result k → F K live (direct side low here at f vs k)
      direct_fair at w K live globals f func names vs all c k n = by_depth (nat_lt here.depth 256) refl where
        by_depth : (b : Bool) → nat_lt here.depth 256 ≡ b → F K live (chosen b (goes_to side low here at f vs (own f)) (deep side low here at) k)
        by_depth true q = goes_to_fair at w K live globals f func names vs all (own f) refl (ltb-true _ _ q) c k n
        by_depth false q = (w, refl)

      through_fair : (at : At) → IsPlace side at → (K : Knowledge) (live : List Wire) → Knows K → (result : Ty) (params : List Ty) (v : Wire) (vs : List Wire) → IsFunction program K (result ∷ params) v → AllFit program K vs params
          → ((f : ℕ) (func : Func) → slice_get program.funcs f ≡ Some func → function_type func ≡ ty.Fun (result ∷ params) → uses.taken f ≡ true → uses.calls at.func f ≡ true)
          → (k : Wire → Tree) → ValueFair K live result k → F K live (through side low here at v vs k)
      through_fair at w K live globals result params wire.Null vs f all c k n = (w, refl)
      through_fair at w K live globals result params (wire.Fn i) vs f all c k n =
          direct_fair at w K live globals i f.0 f.1 vs (subst (λ ts. AllFit program K vs ts) (sym (rest_same f.2)) all) (c i f.0 f.1 (ap ty.Fun f.2) (ap (λ (u : Uses). u.taken i) (sym globals.uses_are) ∙ f.3)) k (subst (λ t. ValueFair K live t k) (sym (first_same f.2)) n)
      through_fair at w K live globals result params v vs f all c k n = elim f [ ]

      literal_all : (K : Knowledge) (f : ℕ) (ts : List Ty) → HaveAll program here.slots (Term.Lit (value.Fn f) ∷ []) ts → K.uses.taken f ≡ true → AllFit program K (wire.Fn f ∷ []) ts
      literal_all K f [] h c = elim h [ ]
      literal_all K f (t ∷ []) h c = (literal_fits program K (value.Fn f) t h.0 c, tt)
      literal_all K f (t ∷ u ∷ ts) h c = elim h.1 [ ]

      -- the arguments of a service: that of `request_irq` is a function's name
      service_args : (at : At) → IsPlace side at → (K : Knowledge) (live base : List Wire) (l : Locals) → Stands K here.slots live base l → (m : ℕ) (es : List Term) (ts : List Ty) → HaveAll program here.slots es ts → TermsWithin uses.taken es
          → (s : Service) → service_numbered m ≡ Some s → NamesHandler s es → ((f : ℕ) → service_numbered m ≡ Some RequestIrq → es ≡ Term.Lit (value.Fn f) ∷ [] → uses.handles f ≡ true) → (k : List Wire → Tree)
          → ((vs : List Wire) → AllFit program K vs ts → Handles K s vs → F K live (k vs)) → F K live (values (known_of program) at l.slots es k)
      service_args at w K live base l st m es ts typed c RequestIrq names h handles k n =
          let named : TermsWithin uses.taken (Term.Lit (value.Fn h.0) ∷ []) = subst (λ xs. TermsWithin uses.taken xs) h.1 c in
          let taken : K.uses.taken h.0 ≡ true = ap (λ (u : Uses). u.taken h.0) st.globals.uses_are ∙ named.0 in
          subst (λ xs. F K live (values (known_of program) at l.slots xs k)) (sym h.1)
          (n (wire.Fn h.0 ∷ []) (literal_all K h.0 ts (subst (λ xs. HaveAll program here.slots xs ts) h.1 typed) taken) (h.0, refl, ap (λ (u : Uses). u.handles h.0) st.globals.uses_are ∙ handles h.0 names h.1))
      service_args at w K live base l st m es ts typed c s names h handles k n = values_go at w K here.slots live base l st es ts typed c k (λ vs all. n vs all tt)

      -- a call through a pointer: the callee is evaluated before the arguments
      pointer_fair : (at : At) → IsPlace side at → (K : Knowledge) (live base : List Wire) (l : Locals) → Stands K here.slots live base l → (e : Term) (es : List Term) (t : Ty) (params : List Ty) → Has program here.slots e (ty.Fun (t ∷ params)) → HaveAll program here.slots es params
          → TermWithin uses.taken e → TermsWithin uses.taken es → PointerWithin program uses here.slots at.func e → (k : Wire → Tree) → ValueFair K live t k
          → F K live (value (known_of program) at l.slots e (λ v. values (known_of program) at l.slots es (λ vs. through side low here at v vs k)))
      pointer_fair at w K live base l st e es t params pointer typed x xs calls k n =
          by_type
          (callee most program sound side top K live st.globals.globals at w here.slots l.slots (slots_fit K here.slots live base l st) e (t ∷ params) pointer (subst (λ (u : Uses). TermWithin u.taken e) (sym st.globals.uses_are) x))
        where
          calls_on : Wire → Tree
          calls_on v = values (known_of program) at l.slots es (λ vs. through side low here at v vs k)

          by_type : (called_type program here.slots e ≡ Some (ty.Fun (t ∷ params))) ⊎ Gives most program sound side top K live st.globals.globals at w (λ v. v ≡ wire.Null) (value (known_of program) at l.slots e)
              → F K live (value (known_of program) at l.slots e calls_on)
          by_type (inl q) =
              value_goes at w K here.slots live base l st e (ty.Fun (t ∷ params)) pointer x calls_on
              (λ v fits. values_go at w K here.slots live base l st es params typed xs (λ vs. through side low here at v vs k)
              (λ vs all. through_fair at w K live st.globals t params v vs (subst (λ y. FitsLayer program K y v) (outs-Fun (t ∷ params)) fits) all (λ f func names same taken. calls f func names (q ∙ ap Some (sym same)) taken) k n))
          by_type (inr r) =
              r.by calls_on (record {
                by = λ v q. values_go at w K here.slots live base l st es params typed xs (λ vs. through side low here at v vs k) (λ vs all. subst (λ y. F K live (through side low here at y vs k)) (sym q) (w, refl));
              })

      -- the service that calls back: its first argument is a pointer to what it calls with the second
      back_fair : (at : At) → IsPlace side at → (K : Knowledge) (live base : List Wire) (l : Locals) → Stands K here.slots live base l → (es : List Term) (t param : Ty) → HaveAll program here.slots es (ty.Fun (t ∷ param ∷ []) ∷ param ∷ []) → TermsWithin uses.taken es
          → FirstWithin program uses here.slots at.func es → (b : Bool) → b ≡ true → (other : List Wire → (Wire → Tree) → Tree) (k : Wire → Tree) → ValueFair K live t k
          → F K live (values (known_of program) at l.slots es (λ vs. chosen b (through side low here at (first_of vs) (rest_of vs)) (other vs) k))
      back_fair at w K live base l st [] t param typed xs calls b is other k n = absurd typed
      back_fair at w K live base l st (e ∷ es) t param typed xs calls false is other k n = absurd cc
      back_fair at w K live base l st (e ∷ es) t param typed xs calls true is other k n = pointer_fair at w K live base l st e es t (param ∷ []) typed.0 typed.1 xs.0 xs.1 calls k n

      call_fair : (at : At) → IsPlace side at → (K : Knowledge) (live base : List Wire) (l : Locals) → Stands K here.slots live base l → (form : CallOf) (c : Called) (t : Ty) → gives_by c program here.slots form t → CalleeWithin program uses here.slots at.func c form.args → TermsWithin uses.taken form.args → (k : Wire → Tree) → ValueFair K live t k → F K live (call_by side low here at l.slots form c k)
      call_fair at w K live base l st form (Called.Direct f) t c x xs k n =
          values_go at w K here.slots live base l st form.args (map (λ (p : Param). p.ty) c.func.params) c.call_is.args xs (λ vs. direct side low here at f vs k) (λ vs all. direct_fair at w K live st.globals f c.func c.names vs all x k (subst (λ u. ValueFair K live u k) c.is n))
      call_fair at w K live base l st form (Called.Through e) t c x xs k n = pointer_fair at w K live base l st e form.args t c.params c.pointer c.call_is.args x.0 xs x.1 k n
      call_fair at w K live base l st form (Called.Service m) t (inr c) x xs k n =
          back_fair at w K live base l st form.args t c.param c.args xs (x.1 c.back) (m == 15) (subst (λ i. (i == 15) ≡ true) (sym c.back) refl) (λ vs. serves (known_of program) m at form vs) k n
      call_fair at w K live base l st form (Called.Service m) t (inl c) x xs k n =
          service_args at w K live base l st m form.args c.signature.params c.args xs c.service c.names c.handler x.0 (λ vs. chosen (m == 15) (through side low here at (first_of vs) (rest_of vs)) (serves (known_of program) m at form vs) k) (λ vs all handles. by_number vs all handles (m == 15) refl)
        where
          by_number : (vs : List Wire) → AllFit program K vs c.signature.params → Handles K c.service vs → (b : Bool) → (m == 15) ≡ b
              → F K live (chosen b (through side low here at (first_of vs) (rest_of vs)) (serves (known_of program) m at form vs) k)
          by_number vs all handles true q = let none : service_numbered 15 ≡ Some c.service = subst (λ i. service_numbered i ≡ Some c.service) (eqb-true _ _ q) c.names in absurd (not_served none)
          by_number vs all handles false q =
              subst (λ o. F K live (serves_by (known_of program) m at form vs o k)) (sym c.names)
              (serves_fair at w K live m form.callee form.args form.shape form.format vs c.service c.signature c.names c.offers c.object all handles k (subst (λ u. ValueFair K live u k) c.is n))

      -- ---- statements

      -- 6.7
      declared_by_fair : (i : ℕ) (s : Slot) → slice_get here.slots i ≡ Some s → (b : Bool) → s.object ≡ b → (K : Knowledge) (live base : List Wire) (l : Locals) → Stands K here.slots live base l → (k : Next) → NextFair K here base k → F K live (declared_by side low here b i s l k)
      declared_by_fair i s names true is K live base l st k n =
          let table = (h.slots.each i s names).in_table is in
          births_fair here h.place.whole K live (shape_of (known_of program) s ∷ []) ((h.slots.each i s names).birth is, tt) (λ ps. k Ends (with_object i (first_of ps) l)) (λ K' g ps born. at_birth table K' g ps born)
        where
          at_birth : HasNumber program s.ty → (K' : Knowledge) → Grows K K' → (ps : List Wire) → AreBorn program K' (shape_of (known_of program) s ∷ []) ps → F K' (live ++ ps) (k Ends (with_object i (first_of ps) l))
          at_birth table K' g [] born = elim born [ ]
          at_birth table K' g (p ∷ []) born = n.by K' g (live ++ (p ∷ [])) Ends (with_object i p l) (object_stands K' here.slots live base l i s p names is table born.0 born.1 (stands_grow K K' g here.slots live base l st)) tt
          at_birth table K' g (p ∷ q ∷ ps) born = elim born.2 [ ]
      declared_by_fair i s names false is K live base l st k n =
          n.by K (grows_same K) live Ends (record { slots = slice_set l.slots i (wire_of (zero_value s.ty)); born = l.born })
          (with_slot K here.slots live base l i s (wire_of (zero_value s.ty)) names (plain_holds program K s (wire_of (zero_value s.ty)) is (zero_fits program K s.ty ((h.slots.each i s names).plain is))) st) tt

      declare_fair : (i : ℕ) → IsLocal here.slots i → (K : Knowledge) (live base : List Wire) (l : Locals) → Stands K here.slots live base l → (k : Next) → NextFair K here base k → F K live (declared side low here i (slice_get here.slots i) l k)
      declare_fair i d K live base l st k n = subst (λ o. F K live (declared side low here i o l k)) (sym d.names) (declared_by_fair i d.slot d.names d.slot.object refl K live base l st k n)

      -- 6.7.8, paragraph 14
      text_fair : (at : At) → IsPlace side at → (i : ℕ) (bytes : List ℕ) → TakesText here.slots i bytes → (K : Knowledge) (live base : List Wire) (l : Locals) → Stands K here.slots live base l → (k : Next) → NextFair K here base k
          → F K live (texts at (characters (slice_get here.slots i)) (slot_of l.slots i) 0 bytes (k Ends l))
      text_fair at w i bytes d K live base l st k n =
          let held = object_held program K d.slot (slot_of l.slots i) ((h.slots.each i d.slot d.names).arrays d.array) (st.each i d.slot d.names) in
          let many : 0 + length bytes ≤ d.slot.count = omega (arith, d.fits) in
          subst (λ o. F K live (texts at (characters o) (slot_of l.slots i) 0 bytes (k Ends l))) (sym d.names)
          (texts_fair at w K live (kind_by (out-Ty d.slot.ty)) d.slot.ty (slot_of l.slots i) d.slot.count (λ b. text_fits K d.slot.ty b d.characters) held.0 held.1 0 bytes many (k Ends l) (n.by K (grows_same K) live Ends l st tt))

      -- a call, and where its value goes
      goal_fair : (at : At) → IsPlace side at → (goal : Goal) (form : CallOf) → GoesTo program here.slots here.result goal form → GoalWithin uses.taken goal → FormWithin program uses here.slots at.func form → (K : Knowledge) (live base : List Wire) (l : Locals) → Stands K here.slots live base l → (k : Next) → NextFair K here base k
          → F K live (call side low here at l.slots form (λ v. keep (known_of program) here at goal v l k))
      goal_fair at w Goal.Nowhere form d c x K live base l st k n =
          call_fair at w K live base l st form form.callee d.0 d.1 x.0 x.1 (λ v. k Ends l) (record { by = λ K' g v r. n.by K' g live Ends l (stands_grow K K' g here.slots live base l st) tt })
      goal_fair at w (Goal.Into p) form d c x K live base l st k n =
          call_fair at w K live base l st form form.callee d.given d.call_gives x.0 x.1 (λ v. keep (known_of program) here at (Goal.Into p) v l k)
          (record { by = λ K' g v r. into_fair at w K' here.slots live base l (stands_grow K K' g here.slots live base l st) p d.given d.type d.object c d.becomes v r (k Ends) (λ l' st'. n.by K' g live Ends l' st' tt) })
      goal_fair at w Goal.Back form d c x K live base l st k n =
          call_fair at w K live base l st form form.callee d.given d.call_gives x.0 x.1 (λ v. keep (known_of program) here at Goal.Back v l k)
          (record {
            by = λ K' g v r. given_fair most program sound side top K' live (stands_grow K K' g here.slots live base l st).globals.globals at w (Fits program K' here.result) (received (known_of program) (Some here.result) v) (λ x. k (Gave x) l)
                (received_fits program K' here.result d.given here.result refl d.becomes v r) (record { by = λ x fits. n.by K' g live (Gave x) l (stands_grow K K' g here.slots live base l st) (fits_result program K' here.result x fits) });
          })

      -- 6.8.6.4
      returns_fair : (at : At) → IsPlace side at → (e : Option Term) → Returns program here.slots here.result e → OptionWithin uses.taken e → (K : Knowledge) (live base : List Wire) (l : Locals) → Stands K here.slots live base l → (k : Next) → NextFair K here base k → F K live (returns side low here at e l k)
      returns_fair at w None d c K live base l st k n = n.by K (grows_same K) live (Gave wire.NoValue) l st tt
      returns_fair at w (Some e) d c K live base l st k n = value_goes at w K here.slots live base l st e here.result d.1 c (λ v. k (Gave v) l) (λ v fits. n.by K (grows_same K) live (Gave v) l st (fits_result program K here.result v fits))

      turn_fair : (again step body : Go) → GoFair here again → GoFair here step → GoFair here body → GoFair here (turn side low here again step body)
      turn_fair again step body a b e = record { by = λ K live base l st k n. (block_fair here h.place.whole body e).by K live base l st (around again step k) (around_fair K here base again step k a b n) }

      -- a statement begins with a tick, before which more may become known
      tick_fair : (n : ℕ) → IsPlace side (in_here here n) → (go : Go) → GoFair here go → GoFair here (λ l k. Tree.Tick (in_here here n) here.depth (go l k))
      tick_fair n w go a = record {
        by = λ K live base l st k q. (w, h.place.some, h.place.limited, λ K' g. a.by K' live base l (stands_grow K K' g here.slots live base l st) k (next_grows K K' g here base k q));
      }

      mutual
        stmt_fair : (in_loop : Bool) (code : Code) → IsTyped program here.slots here.result in_loop code → CodeWithin program uses here.slots here.func code → InsideCode side here code → GoFair here (stmt side low here code)
        stmt_fair in_loop (Code.Declare n i) t c p = let w = p.each n (eq-eqb n n refl) in tick_fair n w _ (record { by = λ K live base l st k q. declare_fair i t.right K live base l st k q })
        stmt_fair in_loop (Code.Text n i bytes) t c p = let w = p.each n (eq-eqb n n refl) in tick_fair n w _ (record { by = λ K live base l st k q. text_fair (in_here here n) w i bytes t.right K live base l st k q })
        stmt_fair in_loop (Code.Assign n target e) t c p =
            let w = p.each n (eq-eqb n n refl) in
            tick_fair n w _
            (record {
              by = λ K live base l st k q. value_goes (in_here here n) w K here.slots live base l st e t.right.type t.right.value c.1 (λ v. put (known_of program) (in_here here n) target v l (k Ends))
                  (λ v fits. put_fair (in_here here n) w K here.slots live base l st target t.right.type t.right.object c.0 v fits (k Ends) (λ l' st'. q.by K (grows_same K) live Ends l' st' tt));
            })
        stmt_fair in_loop (Code.Call n goal form) t c p = let w = p.each n (eq-eqb n n refl) in tick_fair n w _ (record { by = λ K live base l st k q. goal_fair (in_here here n) w goal form t.right c.0 c.1 K live base l st k q })
        stmt_fair in_loop (Code.If n e one other) t c p =
            let w = p.each n (own_first n (stands n one || stands n other)) in
            let first : Inside side here one = record { each = λ m q. p.each m (or_right (m == n) _ (or_left (stands m one) (stands m other) q)) } in
            let second : Inside side here other = record { each = λ m q. p.each m (or_right (m == n) _ (or_right (stands m one) (stands m other) q)) } in
            let branches = λ (v : Wire). pick_fair (is_true v) here (stmts side low here one) (stmts side low here other) (stmts_fair in_loop one t.first c.1 first) (stmts_fair in_loop other t.second c.2 second) in
            tick_fair n w _
            (record {
              by = λ K live base l st k q. value_goes (in_here here n) w K here.slots live base l st e t.condition.type t.condition.operand c.0 (λ v. in_block side here (chosen (is_true v) (stmts side low here one) (stmts side low here other)) l k)
                  (λ v fits. (block_fair here h.place.whole _ (branches v)).by K live base l st k q);
            })
        stmt_fair in_loop (Code.Loop n e step body) t c p =
            let w = p.each n (own_first n (stands n step || stands n body)) in
            let first : Inside side here step = record { each = λ m q. p.each m (or_right (m == n) _ (or_left (stands m step) (stands m body) q)) } in
            let second : Inside side here body = record { each = λ m q. p.each m (or_right (m == n) _ (or_right (stands m step) (stands m body) q)) } in
            let loop : Codes = Codes.Then (Code.Loop n e step body) Codes.End in
            let again : GoFair here (low here loop) = later in_loop here h loop (only_inside side here (Code.Loop n e step body) p) (t, tt) (c, tt) in
            let turned = turn_fair (low here loop) (stmts side low here step) (stmts side low here body) again (stmts_fair false step t.stepped c.1 first) (stmts_fair true body t.turn c.2 second) in
            tick_fair n w _
            (record {
              by = λ K live base l st k q. value_goes (in_here here n) w K here.slots live base l st e t.condition.type t.condition.operand c.0
                  (λ v. chosen (is_true v) (turn side low here (low here loop) (stmts side low here step) (stmts side low here body)) leaves l k) (λ v fits. (pick_fair (is_true v) here _ leaves turned (leaves_fair here)).by K live base l st k q);
            })
        stmt_fair in_loop (Code.Block cs) t c p = block_fair here h.place.whole (stmts side low here cs) (stmts_fair in_loop cs t c (record { each = p.each }))
        stmt_fair in_loop (Code.Return n e) t c p = let w = p.each n (eq-eqb n n refl) in tick_fair n w _ (record { by = λ K live base l st k q. returns_fair (in_here here n) w e t.right c K live base l st k q })
        stmt_fair in_loop (Code.Jump n way) t c p = let w = p.each n (eq-eqb n n refl) in tick_fair n w _ (record { by = λ K live base l st k q. q.by K (grows_same K) live (flow_of way) l st (jumps K here.result way) })

        stmts_fair : (in_loop : Bool) (cs : Codes) → AreTyped program here.slots here.result in_loop cs → CodesWithin program uses here.slots here.func cs → Inside side here cs → GoFair here (stmts side low here cs)
        stmts_fair in_loop Codes.End t c p = leaves_fair here
        stmts_fair in_loop (Codes.Then code cs) t c p = record {
          by = λ K live base l st k q. (stmt_fair in_loop code t.0 c.0 (first_inside side here code cs p)).by K live base l st (on_ends (stmts side low here cs) k)
              (on_ends_fair K here base (stmts side low here cs) k (stmts_fair in_loop cs t.1 c.1 (rest_inside side here code cs p)) q);
        }

  means_fair : (n : ℕ) (in_loop : Bool) (here : Here) → Runs here → (cs : Codes) → Inside side here cs → AreTyped program here.slots here.result in_loop cs → CodesWithin program uses here.slots here.func cs → GoFair here (means side n here cs)
  unfolding means
  means_fair zero in_loop here h cs p t c = record { by = λ K live base l st k q. (h.place.whole, h.place.some, h.place.limited, λ K' g. (h.place.whole, refl)) }
  means_fair (suc n) in_loop here h cs p t c = record { by = (stmts_fair (means side n) (means_fair n) here h in_loop cs t c p).by }

  -- a function that is started, where its result is that of the tree
  body_fair : (n f : ℕ) (func : Func) → slice_get program.funcs f ≡ Some func → func.result ≡ top → (K : Knowledge) → Knows K → (vs : List Wire) → AllFit program K vs (map (λ (p : Param). p.ty) func.params) → (depth : ℕ) → depth < most
      → (below : Tree) (o : Option Body) (body : Body) → own f ≡ o → o ≡ Some body
      → F K [] (goes_to side (means side n) (record { func = f; depth = depth; slots = []; result = ty.Void }) (record { func = f; stmt = 0 }) f vs o (λ v. Tree.Done v below))
  body_fair n f func names same K globals vs all depth d below None body is some = absurd cc
  body_fair n f func names same K globals vs all depth d below (Some b) body is some =
      entered_fair (means side n) (means_fair n) (record { func = f; depth = depth; slots = []; result = ty.Void }) d f func names b is K [] globals vs all (λ v. Tree.Done v below)
      (record { by = λ K' g v r. (subst (λ t. IsResult program K' t v) same r, refl) }) (record { func = f; stmt = 0 })

same_side : (program : Program) (side : Side) → IsSideOf program side → record { known = known_of program; own = side.own; asks = side.asks } ≡ side
same_side program side h = λ i. record { known = sym h.known i; own = side.own; asks = side.asks }

pub trees_are_fair_to : TreesAreFairTo
unfolding started
trees_are_fair_to program sound side h most wide n f func K args depth start below =
    subst (λ (x : Side). FairTo most program x func.result K [] (started x n f args depth below)) (same_side program side h)
    (body_fair most wide program sound side.own side.asks h.bodies K.uses start.within.bodies func.result n f func start.names refl K (record { globals = start.globals; uses_are = refl }) args start.fit depth start.limited below (side.own f) start.body refl start.own)

pub trees_are_fair : TreesAreFair
trees_are_fair program sound side h n f func K args depth start below = trees_are_fair_to program sound side h 256 (omega arith) n f func K args depth start below

chosen_body : (b : Bool) (o : Option Body) (body : Body) → chosen b o None ≡ Some body → o ≡ Some body
chosen_body true o body e = e
chosen_body false o body e = absurd cc

other_body : (b : Bool) (o : Option Body) (body : Body) → chosen b None o ≡ Some body → o ≡ Some body
other_body true o body e = absurd cc
other_body false o body e = e

pub sides_are_of_programs : SidesAreOfPrograms
unfolding whole_side kernel_side user_side
sides_are_of_programs program is_kernel = (
  record { known = refl; bodies = λ f body e. e },
  record { known = refl; bodies = λ f body e. chosen_body (is_kernel f) (body_of program f) body e },
  record { known = refl; bodies = λ f body e. other_body (is_kernel f) (body_of program f) body e },
)
