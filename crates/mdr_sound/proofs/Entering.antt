-- What is known in front of a body: its parameters.
use Rattle.std.proofs.Common.{◌≡◌, ◌⊎◌, inl, inr, ℕ, zero, suc, ◌+◌, ◌||◌, Bool, true, false, List, [], ◌∷◌, ◌++◌, length, map, Option, Some, None, Ok, Result, IsTrue, refl, sym, ap, ◌∙◌, subst, slice_get, arith, bytes_eq, nat_lt, add-zero}
use Rattle.std.proofs.lemmas.Option.{none-some, same_Some}
use Rattle.std.proofs.lemmas.Slice.Eq.{bytes_eq-Decides}
use Rattle.mdr_core.specs.declared.program.Local.{Local}
use Rattle.mdr_core.specs.declared.program.Param.{Param}
use Rattle.mdr_core.specs.declared.program.Program.{Program}
use Rattle.mdr_core.specs.declared.types.Ty.{Ty, out-Ty}
use Rattle.mdr_core.specs.declared.types.Ty.TheFolds.{map-Ty}
use Rattle.mdr_core.specs.declared.types.Ty.TheOpen.{Ty-F}
use Rattle.mdr_core.specs.Layout.{chosen}
use Rattle.mdr_core.specs.Types.{Sort, Aggregate, Wrong, Scalar, sort_of, sort_layer, is_scalar, is_scalar_by}
use Rattle.mdr_core.specs.Typing.{Slot, slot_of_param, slot_of_local}
use Rattle.mdr_core.proofs.Laid.{sort_is}
use Rattle.mdr_syntax.specs.declared.tree.Decl.{Decl, out-Decl}
use Rattle.mdr_faults.specs.declared.fault.Fault.{Fault}
use Rattle.mdr_faults.specs.declared.fault.FaultKind.TheVariants.{Limit}
use Rattle.mdr_faults.specs.declared.scope.Candidate.{Candidate}
use Rattle.mdr_faults.specs.declared.scope.Object.{Object}
use Rattle.mdr_faults.specs.declared.scope.Scope.{Scope}
use Rattle.mdr_faults.specs.Declarations.{Declarator, declarator, parameter_among}
use Rattle.mdr_faults.specs.Faults.{Right, after, told}
use Rattle.mdr_headings.specs.Annotations.{annotated}
use Rattle.mdr_headings.specs.Heads.{param_of, annotated_param, param_among, params_behind}
use Rattle.mdr_headings.specs.Structs.{is_struct, is_struct_by, name_or_none}
use Rattle.mdr_headings.specs.Within.{names_around, within}
use Rattle.mdr_operand.specs.declared.room.LocalName.{LocalName}
use Rattle.mdr_operand.specs.Rooms.{local_from, local_named}
use Rattle.mdr_operand.specs.Written.{Lines}
use Rattle.mdr_body.specs.Locals.{takes, lies_apart, is_own_object, named_local, name_of, parameter_object, parameter_means, parameter_taken, parameters_from, first_here}
use Rattle.mdr_body.specs.Addresses.{takes_along}
use Rattle.mdr_program.specs.Parts.{flagged, marked}
use Rattle.mdr_sound.specs.Knowing.{IsFormed, IsKnownLocal, KnowsLocals}
use Rattle.mdr_sound.proofs.Rights.{same_right, after_right, both_right, demand_right, told_right}
use Rattle.mdr_sound.specs.Written.{IsNamed, AreNamed}
use Rattle.mdr_sound.specs.Within.{KnowsDeclarations, IsHere}
use Rattle.mdr_sound.proofs.JoinedLists.{get_front}
use Rattle.mdr_sound.proofs.Going.{untaken_by}
use Rattle.mdr_sound.proofs.Scoping.{beside_right, same_declarator}

-- ---- the name that is meant is one of those that are there

pub record Stands (ns : List LocalName) (name : List ℕ) (n : LocalName) : Type 0 where
  pub index : ℕ
  pub at : slice_get ns index ≡ Some n
  pub same : bytes_eq n.name name ≡ true

found_from : (found : Option LocalName) (ns : List LocalName) (name : List ℕ) (n : LocalName) → local_from found ns name ≡ Some n → (found ≡ Some n) ⊎ Stands ns name n
unfolding local_from
found_from found [] name n e = inl e
found_from found (m ∷ ns) name n e = on (found_from (chosen (bytes_eq m.name name) (Some m) found) ns name n e) where
  this : (b : Bool) → bytes_eq m.name name ≡ b → chosen b (Some m) found ≡ Some n → (found ≡ Some n) ⊎ Stands (m ∷ ns) name n
  this true is q = inr (record { index = 0; at = q; same = ap (λ (x : LocalName). bytes_eq x.name name) (sym (same_Some m n q)) ∙ is })
  this false is q = inl q

  on : (chosen (bytes_eq m.name name) (Some m) found ≡ Some n) ⊎ Stands ns name n → (found ≡ Some n) ⊎ Stands (m ∷ ns) name n
  on (inl q) = this (bytes_eq m.name name) refl q
  on (inr s) = inr (record { index = suc s.index; at = s.at; same = s.same })

pub named_stands : (ns : List LocalName) (name : List ℕ) (n : LocalName) → local_named ns name ≡ Some n → Stands ns name n
named_stands ns name n e = on (found_from None ns name n e) where
  on : (None ≡ Some n) ⊎ Stands ns name n → Stands ns name n
  on (inl q) = absurd (none-some n q)
  on (inr s) = s

-- ---- a parameter's name

pub record IsParameter (scope : Scope) (body : Lines) (ds : List Decl) (first i : ℕ) (n : LocalName) : Type 0 where
  pub decl : Decl
  pub at : slice_get ds i ≡ Some decl
  pub is : named_local (first + i) (parameter_taken body decl) decl (told (parameter_means scope decl)) ≡ n

pub parameter_at : (scope : Scope) (body : Lines) (ds : List Decl) (first i : ℕ) (n : LocalName) → slice_get (parameters_from scope body first ds) i ≡ Some n → IsParameter scope body ds first i n
unfolding parameters_from
parameter_at scope body [] first i n e = absurd (none-some n e)
parameter_at scope body (d ∷ ds) first zero n e = record {
  decl = d;
  at = refl;
  is = ap (λ k. named_local k (parameter_taken body d) d (told (parameter_means scope d))) (add-zero first) ∙ same_Some _ n e;
}
parameter_at scope body (d ∷ ds) first (suc i) n e =
    let rest = parameter_at scope body ds (first + 1) i n e in
    let number : first + suc i ≡ first + 1 + i = omega arith in
    record { decl = rest.decl; at = rest.at; is = ap (λ k. named_local k (parameter_taken body rest.decl) rest.decl (told (parameter_means scope rest.decl))) number ∙ rest.is }

pub named_at : (ds : List Decl) (i : ℕ) (d : Decl) → AreNamed ds → slice_get ds i ≡ Some d → IsNamed d
named_at [] i d h e = absurd (none-some d e)
named_at (x ∷ ds) zero d h e = subst IsNamed (same_Some x d e) h.0
named_at (x ∷ ds) (suc i) d h e = named_at ds i d h.1 e

-- ---- what a parameter is

pub parameter_right : (scope : Scope) (siblings : List Candidate) (before : List Decl) (d : Decl) (p : Param) → param_among scope siblings before d ≡ Right p → (declarator scope d).parameter ≡ Right p.ty
unfolding param_among annotated_param
parameter_right scope siblings before d p e =
    let x : Declarator = declarator scope d in
    let rule = after (parameter_among (map (declarator scope) before) x) (annotated_param scope siblings d) in
    let a = after_right (parameter_among (map (declarator scope) before) x) (annotated_param scope siblings d) p (beside_right (within scope (names_around [] before) d) rule p e) in
    let l = demand_right x.place Limit _ x.parameter a.value a.right in
    let b = after_right (annotated scope siblings (out-Decl d).place a.value (out-Decl d).ann) (λ an. Right (param_of (out-Decl d).name a.value an)) p a.made in
    l.right ∙ ap (λ (q : Param). Right q.ty) (same_right (param_of (out-Decl d).name a.value b.value) p b.made)

pub record HasParam (scope : Scope) (d : Decl) (ps : List Param) (i : ℕ) : Type 0 where
  pub param : Param
  pub at : slice_get ps i ≡ Some param
  pub right : (declarator scope d).parameter ≡ Right param.ty

pub param_at : (scope : Scope) (siblings : List Candidate) (before ds : List Decl) (ps : List Param) (i : ℕ) (d : Decl) → params_behind scope siblings before ds ≡ Right ps → slice_get ds i ≡ Some d → HasParam scope d ps i
unfolding params_behind
param_at scope siblings before [] ps i d e at = absurd (none-some d at)
param_at scope siblings before (x ∷ ds) ps zero d e at =
    let b = both_right (param_among scope siblings before x) (params_behind scope siblings (before ++ x ∷ []) ds) (λ y ys. Right (y ∷ ys)) ps e in
    let same : b.left ∷ b.right ≡ ps = same_right (b.left ∷ b.right) ps b.made in
    record {
      param = b.left;
      at = ap (λ ys. slice_get ys zero) (sym same);
      right = subst (λ y. (declarator scope y).parameter ≡ Right b.left.ty) (same_Some x d at) (parameter_right scope siblings before x b.left b.first);
    }
param_at scope siblings before (x ∷ ds) ps (suc i) d e at =
    let b = both_right (param_among scope siblings before x) (params_behind scope siblings (before ++ x ∷ []) ds) (λ y ys. Right (y ∷ ys)) ps e in
    let same : b.left ∷ b.right ≡ ps = same_right (b.left ∷ b.right) ps b.made in
    let rest = param_at scope siblings (before ++ x ∷ []) ds b.right i d b.second at in
    record { param = rest.param; at = ap (λ ys. slice_get ys (suc i)) (sym same) ∙ rest.at; right = rest.right }

pub params_many : (scope : Scope) (siblings : List Candidate) (before ds : List Decl) (ps : List Param) → params_behind scope siblings before ds ≡ Right ps → length ps ≡ length ds
unfolding params_behind
params_many scope siblings before [] ps e = ap length (sym (same_right [] ps e))
params_many scope siblings before (x ∷ ds) ps e =
    let b = both_right (param_among scope siblings before x) (params_behind scope siblings (before ++ x ∷ []) ds) (λ y ys. Right (y ∷ ys)) ps e in
    let same : b.left ∷ b.right ≡ ps = same_right (b.left ∷ b.right) ps b.made in
    ap length (sym same) ∙ ap suc (params_many scope siblings (before ++ x ∷ []) ds b.right b.second)

-- the body says which of them are objects
pub marked_many : (objects : List Bool) (i : ℕ) (ps : List Param) → length (marked objects i ps) ≡ length ps
unfolding marked
marked_many objects i [] = refl
marked_many objects i (p ∷ ps) = ap suc (marked_many objects (i + 1) ps)

marked_at : (objects : List Bool) (first i : ℕ) (ps : List Param) (p : Param) (b : Bool) → slice_get ps i ≡ Some p → slice_get objects (first + i) ≡ Some b → slice_get (marked objects first ps) i ≡ Some (record p { object = b })
unfolding marked
marked_at objects first i [] p b e f = absurd (none-some p e)
marked_at objects first zero (q ∷ ps) p b e f = ap (λ x. Some (flagged q x)) (sym (ap (slice_get objects) (add-zero first)) ∙ f) ∙ ap (λ (x : Param). Some (record x { object = b })) (same_Some q p e)
marked_at objects first (suc i) (q ∷ ps) p b e f = let number : first + 1 + i ≡ first + suc i = omega arith in marked_at objects (first + 1) i ps p b e (ap (slice_get objects) number ∙ f)

mapped_at : {A B : Type 0} (f : A → B) (xs : List A) (i : ℕ) (x : A) → slice_get xs i ≡ Some x → slice_get (map f xs) i ≡ Some (f x)
mapped_at f [] i x e = absurd (none-some x e)
mapped_at f (y ∷ ys) zero x e = ap (λ z. Some (f z)) (same_Some y x e)
mapped_at f (y ∷ ys) (suc i) x e = mapped_at f ys i x e

-- ---- scalars

scalar_by : (n : ℕ) (t : Ty-F Ty) → sort_layer n (map-Ty Ty Sort (sort_of n) t) ≡ Scalar → IsTrue (is_scalar_by t)
scalar_by n (Ty-F.Int k) h = refl
scalar_by n (Ty-F.Ptr t) h = refl
scalar_by n Ty-F.VoidPtr h = refl
scalar_by n (Ty-F.Fun ts) h = refl
scalar_by n Ty-F.Lock h = absurd cc
scalar_by n Ty-F.Void h = absurd cc
scalar_by n (Ty-F.Struct s) h = on (nat_lt s n) h where
  on : (b : Bool) → chosen b Aggregate Wrong ≡ Scalar → IsTrue false
  on true e = absurd cc
  on false e = absurd cc

pub scalar_is : (n : ℕ) (t : Ty) → sort_of n t ≡ Scalar → IsTrue (is_scalar t)
scalar_is n t h = scalar_by n (out-Ty t) (sym (sort_is n t) ∙ h)

no_struct_by : (t : Ty-F Ty) → IsTrue (is_scalar_by t) → is_struct_by t ≡ false
no_struct_by (Ty-F.Struct s) h = absurd cc
no_struct_by t h = refl

no_struct : (t : Ty) → IsTrue (is_scalar t) → is_struct t ≡ false
no_struct t h = no_struct_by (out-Ty t) h

means_of : (i : ℕ) (t : Bool) (d : Decl) (m : Result Object Fault) → m ≡ (named_local i t d m).means
unfolding named_local
means_of i t d m = refl

-- ---- what is known in front of the body

module _ (program : Program) (front scope : Scope) (tags : front.tags ≡ scope.tags) (known : KnowsDeclarations program scope) (siblings : List Candidate) (body : Lines) (ds : List Decl) (ps : List Param) (right : params_behind front siblings [] ds ≡ Right ps) (locals : List Local) where
  abbrev pub slots : List Slot
  slots = map slot_of_param (marked (map (parameter_taken body) ds) 0 ps) ++ map slot_of_local locals

  slot_at : (i : ℕ) (d : Decl) (p : Param) → slice_get ds i ≡ Some d → slice_get ps i ≡ Some p → slice_get slots i ≡ Some (slot_of_param (record p { object = parameter_taken body d }))
  slot_at i d p at e =
      let objects : List Bool = map (parameter_taken body) ds in
      let flag : slice_get objects (0 + i) ≡ Some (parameter_taken body d) = let number : 0 + i ≡ i = omega arith in ap (slice_get objects) number ∙ mapped_at (parameter_taken body) ds i d at in
      get_front (map slot_of_param (marked objects 0 ps)) (map slot_of_local locals) i _ (mapped_at slot_of_param (marked objects 0 ps) i _ (marked_at objects 0 i ps p (parameter_taken body d) e flag))

  parameter_known : (i : ℕ) (d : Decl) (o : Object) → slice_get ds i ≡ Some d → parameter_means scope d ≡ Right o → IsKnownLocal program slots (named_local (0 + i) (parameter_taken body d) d (told (parameter_means scope d))) o
  unfolding named_local parameter_means
  parameter_known i d o at means =
      let a = after_right (declarator scope d).parameter parameter_object o means in
      let p = param_at front siblings [] ds ps i d right at in
      let ty : p.param.ty ≡ a.value = same_right _ _ (sym p.right ∙ ap (λ (x : Declarator). x.parameter) (same_declarator front scope d tags) ∙ a.right) in
      let object : record { ty = a.value; count = 1; array = false } ≡ o = same_right (record { ty = a.value; count = 1; array = false }) o a.made in
      let sort = known.parameters d a.value a.right in
      let scalar : IsTrue (is_scalar a.value) = scalar_is (length program.structs) a.value sort in
      let taken : Bool = parameter_taken body d in
      let number : 0 + i ≡ i = omega arith in
      let plain : lies_apart taken (told (parameter_means scope d)) ≡ taken = ap (λ c. lies_apart taken (told c)) means ∙ ap (λ x. is_own_object taken x) (sym object) ∙ ap (λ b. b || taken) (no_struct a.value scalar) in
      record {
        slot = slot_of_param (record p.param { object = taken });
        names = ap (slice_get slots) number ∙ slot_at i d p.param at p.at;
        kept = sym plain;
        ty = ty ∙ ap (λ (x : Object). x.ty) object;
        count = ap (λ (x : Object). x.count) object;
        array = ap (λ (x : Object). x.array) object;
        formed = subst (λ (x : Object). IsFormed program x.ty) object (inl sort);
        single = λ e. sym (ap (λ (x : Object). x.array) object);
        scalar = λ e. subst (λ (x : Object). IsTrue (is_scalar x.ty)) object scalar;
      }

  pub parameters_known : KnowsLocals program slots (parameters_from scope body 0 ds)
  parameters_known = record {
    locals = λ name n o e means.
        let s = named_stands (parameters_from scope body 0 ds) name n e in
        let p = parameter_at scope body ds 0 s.index n s.at in
        subst (λ x. x.means ≡ Ok o → IsKnownLocal program slots x o) p.is (λ m. known_at s.index p.decl o p.at m) means;
  }
    where
      known_at : (i : ℕ) (d : Decl) (o : Object) → slice_get ds i ≡ Some d → (named_local (0 + i) (parameter_taken body d) d (told (parameter_means scope d))).means ≡ Ok o → IsKnownLocal program slots (named_local (0 + i) (parameter_taken body d) d (told (parameter_means scope d))) o
      known_at i d o at m = parameter_known i d o at (told_right (parameter_means scope d) o (means_of (0 + i) (parameter_taken body d) d (told (parameter_means scope d)) ∙ m))

  parameter_untaken : (i : ℕ) (d : Decl) (name : List ℕ) → slice_get ds i ≡ Some d → IsNamed d → bytes_eq (named_local (0 + i) (parameter_taken body d) d (told (parameter_means scope d))).name name ≡ true → (named_local (0 + i) (parameter_taken body d) d (told (parameter_means scope d))).is_object ≡ false → takes_along name body false ≡ false
  unfolding named_local
  parameter_untaken i d name at named same e =
      let untaken : parameter_taken body d ≡ false = untaken_by (parameter_taken body d) (told (parameter_means scope d)) e in
      let declared : name_of d ≡ named.name = ap name_or_none named.is in
      let one : named.name ≡ name = sym declared ∙ (bytes_eq-Decides (name_of d) name).0 same in
      subst (λ x. takes_along x body false ≡ false) one (ap (λ o. takes o None body) (sym named.is) ∙ untaken)

  pub parameters_here : AreNamed ds → IsHere program slots (length ds) (first_here scope body ds) (λ n. takes_along n body false)
  unfolding first_here
  parameters_here named = record {
    knows = parameters_known;
    untaken = λ name n e.
        let s = named_stands (parameters_from scope body 0 ds) name n e in
        let p = parameter_at scope body ds 0 s.index n s.at in
        subst (λ (x : LocalName). bytes_eq x.name name ≡ true → x.is_object ≡ false → takes_along name body false ≡ false) p.is (parameter_untaken s.index p.decl name p.at (named_at ds s.index p.decl named p.at)) s.same;
    slot = sym (add-zero (length ds));
    number = omega arith;
  }
