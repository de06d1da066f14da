-- A scope that stands goes on to stand behind each declaration.
use Rattle.std.proofs.Common.{◌≡◌, ℕ, Bool, true, false, cond, List, [], ◌∷◌, ◌++◌, Option, Some, None, Result, Ok, Err, refl, sym, ap, ◌∙◌, subst, ◌⊎◌, inl, inr, IsTrue, ℤ, pos, ◌+ℤ◌}
use Rattle.std.specs.List.{find}
use Rattle.std.specs.Str.{bytes_eq}
use Rattle.mdr_core.specs.declared.kind.Kind.TheVariants.{S32}
use Rattle.mdr_core.specs.declared.place.Place.{Place}
use Rattle.mdr_core.specs.declared.program.Program.{Program}
use Rattle.mdr_core.specs.Kinds.{is_in_range}
use Rattle.mdr_syntax.specs.declared.tree.Const.{Const}
use Rattle.mdr_syntax.specs.declared.tree.Enumerator.{Enumerator}
use Rattle.mdr_faults.specs.declared.fault.Fault.{Fault}
use Rattle.mdr_faults.specs.declared.fault.FaultKind.TheVariants.{Mismatch}
use Rattle.mdr_faults.specs.declared.scope.Constant.{Constant}
use Rattle.mdr_faults.specs.declared.scope.Entity.{Entity}
use Rattle.mdr_faults.specs.declared.scope.Entity.TheVariants as entity
use Rattle.mdr_faults.specs.declared.scope.Named.{Named as Entry}
use Rattle.mdr_faults.specs.declared.scope.Scope.{Scope}
use Rattle.mdr_faults.specs.Declarations.{constant, enumerated, enumerator_value}
use Rattle.mdr_faults.specs.Enums.{with_name, constant_means, value_behind, behind_enumerator, behind_enumerators}
use Rattle.mdr_faults.specs.Faults.{Checked, Right, again, told}
use Rattle.mdr_faults.specs.Scopes.{or_else, entity_among, entity_named}
use Rattle.mdr_sound.specs.Knowing.{IsKnownEntity}
use Rattle.mdr_sound.proofs.Rights.{after_right, chosen_right, same_right, told_right}
use Rattle.mdr_sound.specs.Standing.{Stands}

-- ---- a name more

-- what is found in a list with one more
record Either {A : Type 0} (test : A → Bool) (xs : List A) (y z : A) : Type 0 where
  which : (find test xs ≡ Some z) ⊎ (y ≡ z)

found_either : {A : Type 0} (test : A → Bool) (xs : List A) (y z : A) → find test (xs ++ y ∷ []) ≡ Some z → Either test xs y z
found_either {A = A} test [] y z e = by (test y) e
  where
    by : (t : Bool) → cond t (Some y) None ≡ Some z → Either test [] y z
    by true q = record { which = inr cc }
    by false q = absurd cc
found_either {A = A} test (x ∷ xs) y z e = by (test x) refl (found_either test xs y z)
  where
    by : (t : Bool) → test x ≡ t → (find test (xs ++ y ∷ []) ≡ Some z → Either test xs y z) → Either test (x ∷ xs) y z
    by true q rest = record { which = inl (ap (λ (t : Bool). cond t (Some x) (find test xs)) q ∙ (sym (ap (λ (t : Bool). cond t (Some x) (find test (xs ++ y ∷ []))) q) ∙ e)) }
    by false q rest = over (rest (sym (ap (λ (t : Bool). cond t (Some x) (find test (xs ++ y ∷ []))) q) ∙ e))
      where
        over : Either test xs y z → Either test (x ∷ xs) y z
        over w = record { which = on w.which }
          where
            on : (find test xs ≡ Some z) ⊎ (y ≡ z) → (find test (x ∷ xs) ≡ Some z) ⊎ (y ≡ z)
            on (inl f) = inl (ap (λ (t : Bool). cond t (Some x) (find test xs)) q ∙ f)
            on (inr f) = inr f

named_either : (scope : Scope) (name : List ℕ) (means : Result Entity Fault) (n : List ℕ) (z : Entry) → entity_named (with_name scope name means) n ≡ Some z → (entity_named scope n ≡ Some z) ⊎ (record { name = name; means = means } ≡ z)
named_either scope name means n z e = by (entity_among scope.defines n) refl e
  where
    by : (o : Option Entry) → entity_among scope.defines n ≡ o → or_else o (entity_among (scope.names ++ record { name = name; means = means } ∷ []) n) ≡ Some z → (entity_named scope n ≡ Some z) ⊎ (record { name = name; means = means } ≡ z)
    by (Some x) q f = inl (ap (λ o. or_else o (entity_among scope.names n)) q ∙ f)
    by None q f = on (found_either (λ (x : Entry). bytes_eq x.name n) scope.names (record { name = name; means = means }) z f).which
      where
        on : (find (λ (x : Entry). bytes_eq x.name n) scope.names ≡ Some z) ⊎ (record { name = name; means = means } ≡ z) → (entity_named scope n ≡ Some z) ⊎ (record { name = name; means = means } ≡ z)
        on (inl g) = inl (ap (λ o. or_else o (entity_among scope.names n)) q ∙ g)
        on (inr g) = inr g

-- a scope with one name more stands, if what it means is known
pub stands_named : (program : Program) (scope : Scope) (name : List ℕ) (means : Result Entity Fault) → Stands program scope → ((e : Entity) → means ≡ Ok e → IsKnownEntity program e) → Stands program (with_name scope name means)
stands_named program scope name means st known = record {
  knows = record {
    entities = λ n entry e found m. by n entry e m (named_either scope name means n entry found);
    members = st.knows.members;
    tags = st.knows.tags;
    complete = st.knows.complete;
  };
  sizes = st.sizes;
  outlines = st.outlines;
}
  where
    by : (n : List ℕ) (entry : Entry) (e : Entity) → entry.means ≡ Ok e → (entity_named scope n ≡ Some entry) ⊎ (record { name = name; means = means } ≡ entry) → IsKnownEntity program e
    by n entry e m (inl old) = st.knows.entities n entry e old m
    by n entry e m (inr new) = known e (ap (λ (x : Entry). x.means) new ∙ m)

-- ---- enumerators

enumerated_in : (p : Place) (n : ℤ) (c : Constant) → enumerated p n ≡ Right c → IsTrue (is_in_range c.kind c.number)
enumerated_in p n c e =
    let d = chosen_right (is_in_range S32 n) (Right (record { kind = S32; number = n })) p Mismatch c e in
    subst (λ (c : Constant). IsTrue (is_in_range c.kind c.number)) (same_right (record { kind = S32; number = n }) c d.right) d.holds

value_in : (scope : Scope) (p : Place) (before : Checked Constant) (o : Option Const) (c : Constant) → enumerator_value scope p before o ≡ Right c → IsTrue (is_in_range c.kind c.number)
value_in scope p before None c e =
    let a = after_right before (λ (c : Constant). enumerated p (c.number +ℤ pos 1)) c e in
    enumerated_in p ((a.value).number +ℤ pos 1) c a.made
value_in scope p before (Some k) c e =
    let a = after_right (constant scope p k) (λ (c : Constant). enumerated p c.number) c e in
    enumerated_in p (a.value).number c a.made

constant_known : (program : Program) (r : Result Constant Fault) (e : Entity) → ((c : Constant) → r ≡ Ok c → IsTrue (is_in_range c.kind c.number)) → constant_means r ≡ Ok e → IsKnownEntity program e
constant_known program (Ok c) e h m = subst (IsKnownEntity program) (same m) (h c refl)
  where
    same : ◌≡◌ {A = Result Entity Fault} (Ok (entity.Constant c)) (Ok e) → entity.Constant c ≡ e
    same q = cc
constant_known program (Err f) e h m = absurd cc

pub stands_enumerated : (program : Program) (scope : Scope) (before : Result Constant Fault) (es : List Enumerator) → Stands program scope → Stands program (behind_enumerators scope before es)
unfolding behind_enumerators
stands_enumerated program scope before [] st = st
stands_enumerated program scope before (e ∷ es) st =
    stands_enumerated program (behind_enumerator scope before e) (told (value_behind scope before e)) es
    (stands_named program scope e.name (constant_means (told (value_behind scope before e))) st
    (λ x m. constant_known program (told (value_behind scope before e)) x (λ c t. value_in scope e.place (again before) e.value c (told_right (value_behind scope before e) c t)) m))
