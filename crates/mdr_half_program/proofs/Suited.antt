-- A plan that suits the whole program suits the functions and the keys of the user half's text.
use Rattle.mdr_core.specs.declared.plan.Plan.{Plan}
use Rattle.mdr_half_program.specs.Bodies.{HaveBodies}
use Rattle.mdr_half_program.specs.Sides.{AreShown, IsBare, IsShown, IsSide}
use Rattle.mdr_program.specs.declared.parts.Parts.{Parts}
use Rattle.std.proofs.Common.{Bool, IsTrue, List, None, Option, Some, [], ap, false, is_none, is_some, map, option_map, refl, slice_get, subst, suc, sym, true, zero, ℕ, ◌&&◌, ◌∙◌, ◌∷◌, ◌≡◌}
use Rattle.mdr_check.specs.declared.variable.Variable.{Variable}
use Rattle.mdr_check_half.specs.Suiting.{are_named, is_whole, is_bare, each_function, each_key, variable_type, named_type, is_free}
use Rattle.mdr_core.specs.Layout.{fields_of}
use Rattle.mdr_core.specs.Suited.{IsSuited, key_type, is_key, is_no_lock, global_type, field_type}
use Rattle.mdr_core.specs.declared.code.Stmt.{Stmt}
use Rattle.mdr_core.specs.declared.plan.Half.TheVariants.{Kernel, User}
use Rattle.mdr_core.specs.declared.plan.Half.{Half}
use Rattle.mdr_core.specs.declared.plan.Key.TheVariants as key
use Rattle.mdr_core.specs.declared.plan.Key.{Key}
use Rattle.mdr_core.specs.declared.program.Func.{Func}
use Rattle.mdr_core.specs.declared.program.StructDef.{StructDef}
use Rattle.mdr_core.specs.declared.types.Ty.{Ty}
use Rattle.mdr_half.specs.Halves.{half_of, is_same_half}
use Rattle.mdr_half_program.specs.Suited.{HaveHalves, PlansSuitTheirFunctions}
use Rattle.mdr_program.specs.Programs.{made, with_types, global_defs}
use Rattle.std.proofs.lemmas.Slice.Eq.{bytes_eq-Decides}
use Rattle.std.specs.List.{list_all}

-- ---- functions

name_by : (plan : Plan) (is_mine : Bool) (f g : Func) → IsShown is_mine f g → g.name ≡ f.name
name_by plan true f g e = ap (λ (h : Func). h.name) e
name_by plan false f g e = e.name

names_both : (plan : Plan) (fs gs : List Func) → AreShown User plan fs gs → map (λ (f : Func). f.name) gs ≡ map (λ (f : Func). f.name) fs
names_both plan [] [] a = refl
names_both plan [] (g ∷ gs) a = absurd a
names_both plan (f ∷ fs) [] a = absurd a
names_both plan (f ∷ fs) (g ∷ gs) a =
    ap (λ (n : List ℕ). n ∷ map (λ (x : Func). x.name) gs) (name_by plan (is_same_half (half_of plan f.name) User) f g a.0)
    ∙ ap (λ (ns : List (List ℕ)). f.name ∷ ns) (names_both plan fs gs a.1)

all_named : (gs : List Func) → are_named (map (λ (f : Func). f.name) gs) gs ≡ true
all_named [] = refl
all_named (g ∷ gs) = ap (λ b. b && are_named (map (λ (f : Func). f.name) gs) gs) ((bytes_eq-Decides g.name g.name).1 refl) ∙ all_named gs

whole_by : (plan : Plan) (h : Half) (f g : Func) → half_of plan f.name ≡ h → IsShown (is_same_half (half_of plan f.name) User) f g → is_some f.body ≡ true → is_whole h g ≡ true
whole_by plan User f g e s b = let same : g ≡ f = subst (λ (h : Half). IsShown (is_same_half h User) f g) e s in ap (λ (x : Func). is_some x.body) same ∙ b
whole_by plan Kernel f g e s b = refl

bare_by : (plan : Plan) (h : Half) (f g : Func) → half_of plan f.name ≡ h → IsShown (is_same_half (half_of plan f.name) User) f g → is_bare h g ≡ true
bare_by plan User f g e s = refl
bare_by plan Kernel f g e s = let bare : IsBare f g = subst (λ (h : Half). IsShown (is_same_half h User) f g) e s in ap (λ (o : Option (List Stmt)). is_none o) bare.body

all_whole : (plan : Plan) (hs : List Half) (fs gs : List Func) → AreShown User plan fs gs → HaveBodies fs → HaveHalves (half_of plan) hs fs → each_function is_whole hs gs ≡ true
all_whole plan [] fs gs a b h = refl
all_whole plan (x ∷ hs) [] gs a b h = absurd h
all_whole plan (x ∷ hs) (f ∷ fs) [] a b h = refl
all_whole plan (x ∷ hs) (f ∷ fs) (g ∷ gs) a b h = ap (λ t. t && each_function is_whole hs gs) (whole_by plan x f g h.0 a.0 b.0) ∙ all_whole plan hs fs gs a.1 b.1 h.1

all_bare : (plan : Plan) (hs : List Half) (fs gs : List Func) → AreShown User plan fs gs → HaveHalves (half_of plan) hs fs → each_function is_bare hs gs ≡ true
all_bare plan [] fs gs a h = refl
all_bare plan (x ∷ hs) [] gs a h = absurd h
all_bare plan (x ∷ hs) (f ∷ fs) [] a h = refl
all_bare plan (x ∷ hs) (f ∷ fs) (g ∷ gs) a h = ap (λ t. t && each_function is_bare hs gs) (bare_by plan x f g h.0 a.0) ∙ all_bare plan hs fs gs a.1 h.1

-- ---- keys

global_types : (types : List Ty) (structs : List StructDef) (all vs : List Variable) (g : ℕ) → option_map global_type (slice_get (global_defs types structs all vs) g) ≡ option_map variable_type (slice_get vs g)
unfolding global_defs
global_types types structs all [] g = refl
global_types types structs all (v ∷ vs) zero = refl
global_types types structs all (v ∷ vs) (suc g) = global_types types structs all vs g

-- a key names the same in the half's text
names_same : (types : List Ty) (p q : Parts) → q.structs ≡ p.structs → q.variables ≡ p.variables → (k : Key) → key_type (with_types types p) k ≡ named_type types q k
names_same types p q e f (key.Global g) = global_types types p.structs p.variables p.variables g ∙ ap (λ (vs : List Variable). option_map variable_type (slice_get vs g)) (sym f)
names_same types p q e f (key.Field s i) = ap (λ (ds : List StructDef). option_map field_type (slice_get (fields_of ds s) i)) (sym e)
names_same types p q e f (key.Elem t) = refl

some_by : (o : Option Ty) → is_no_lock o ≡ true → is_some o ≡ true
some_by None e = e
some_by (Some t) e = refl

free_by : (o : Option Ty) → is_no_lock o ≡ true → is_free o ≡ true
free_by None e = refl
free_by (Some t) e = e

all_keys : (test : Key → Bool) (ks : List Key) → ((i : ℕ) (k : Key) → slice_get ks i ≡ Some k → test k ≡ true) → list_all test ks ≡ true
all_keys test [] h = refl
all_keys test (k ∷ ks) h = ap (λ b. b && list_all test ks) (h 0 k refl) ∙ all_keys test ks (λ i k e. h (suc i) k e)

each_list : (test : Key → Bool) (lists : List (List Key)) → ((f i : ℕ) (ks : List Key) (k : Key) → slice_get lists f ≡ Some ks → slice_get ks i ≡ Some k → test k ≡ true) → each_key test lists ≡ true
each_list test [] h = refl
each_list test (ks ∷ lists) h = ap (λ b. b && each_key test lists) (all_keys test ks (λ i k e. h 0 i ks k refl e)) ∙ each_list test lists (λ f i ks k e d. h (suc f) i ks k e d)

module _ (plan : Plan) (p q : Parts) (side : IsSide User plan p q) (suited : IsSuited plan (made p)) where
  key_fits : (k : Key) → IsTrue (is_key (made p) k) → is_no_lock (named_type plan.types q k) ≡ true
  unfolding is_key made
  key_fits k h =
      ap is_no_lock (sym (names_same plan.types p q side.structs side.variables k) ∙ ap (λ (ts : List Ty). key_type (with_types ts p) k) suited.types)
      ∙ h

  keys_fit : (f i : ℕ) (ks : List Key) (k : Key) → slice_get plan.keys f ≡ Some ks → slice_get ks i ≡ Some k → is_no_lock (named_type plan.types q k) ≡ true
  keys_fit f i ks k e d = key_fits k (suited.keys f i ks k e d)

  names_are : plan.names ≡ map (λ (f : Func). f.name) p.funcs
  unfolding made
  names_are = suited.names

pub functions_suited : PlansSuitTheirFunctions
functions_suited plan p q side suited bodies halves = record {
  names = ap (λ (ns : List (List ℕ)). are_named ns q.funcs) (names_are plan p q side suited ∙ sym (names_both plan p.funcs q.funcs side.funcs)) ∙ all_named q.funcs;
  whole = all_whole plan plan.halves p.funcs q.funcs side.funcs bodies halves;
  bare = all_bare plan plan.halves p.funcs q.funcs side.funcs halves;
  something = each_list _ plan.keys (λ f i ks k e d. some_by (named_type plan.types q k) (keys_fit plan p q side suited f i ks k e d));
  no_lock = each_list _ plan.keys (λ f i ks k e d. free_by (named_type plan.types q k) (keys_fit plan p q side suited f i ks k e d));
}
