-- Forms without faults use no name that gives nothing.
use Rattle.std.proofs.Common.{◌≡◌, ℕ, Bool, true, false, List, ◌∷◌, Option, Some, None, refl, sym, ap, ◌∙◌, subst}
use Rattle.std.proofs.lemmas.Slice.Eq.{bytes_eq-Decides}
use Rattle.std.specs.Str.{bytes_eq}
use Rattle.mdr_rich.specs.declared.code.Lval.{Lval}
use Rattle.mdr_rich.specs.declared.code.Step.{Step}
use Rattle.mdr_core.specs.declared.place.Place.{Place}
use Rattle.mdr_core.specs.declared.types.Ty.{Ty}
use Rattle.mdr_core.specs.Layout.{chosen}
use Rattle.mdr_syntax.specs.declared.tree.Base.{Base}
use Rattle.mdr_faults.specs.declared.scope.Named.{Named}
use Rattle.mdr_faults.specs.declared.scope.Scope.{Scope}
use Rattle.mdr_faults.specs.Declarations.{type_named}
use Rattle.mdr_faults.specs.Faults.{Checked, Right, again, after, both}
use Rattle.mdr_faults.specs.Scopes.{entity_named, or_else}
use Rattle.mdr_operand.specs.declared.operand.Operand.{Operand}
use Rattle.mdr_operand.specs.declared.operator.PrefixOperator.{PrefixOperator}
use Rattle.mdr_operand.specs.declared.room.LocalName.{LocalName}
use Rattle.mdr_operand.specs.Converting.{cast_rule, cast_to}
use Rattle.mdr_operand.specs.Forms.{prefix_by, prefix_rule}
use Rattle.mdr_operand.specs.Rooms.{local_named}
use Rattle.mdr_operand.specs.Signs.{assignment_operator, binary_operator, prefix_operator}
use Rattle.mdr_operand.specs.Written.{Written, Writtens}
use Rattle.mdr_binary.specs.Binaries.{binary_by, binary_rule}
use Rattle.mdr_binary.specs.Choices.{choice_of, choice_rule, paired}
use Rattle.mdr_postfix.specs.Members.{member_of, member_rule}
use Rattle.mdr_postfix.specs.Names.{entity_operand, file_name, local_or, name_rule}
use Rattle.mdr_postfix.specs.Subscripts.{subscript_of, subscript_rule}
use Rattle.mdr_express.specs.Expressions.{arguments_of, behind_sign, call_at, fronted_by, fronted_rule, signed_rule, target_of, typed}
use Rattle.mdr_call.specs.declared.parts.Argument.{Argument}
use Rattle.mdr_call.specs.declared.parts.Argument.TheVariants as argument
use Rattle.mdr_call.specs.declared.parts.Target.{Target}
use Rattle.mdr_call.specs.declared.parts.Target.TheVariants as target
use Rattle.mdr_call.specs.declared.parts.TypedCall.{TypedCall}
use Rattle.mdr_call.specs.declared.service.Service.{Service}
use Rattle.mdr_call.specs.Calls.{argument_by, as_target, call_by, call_rule, call_value, callee_behind, is_star, named_target, starred_callee}
use Rattle.mdr_call.specs.Services.{service_named}
use Rattle.mdr_assign.specs.Assignments.{bump_at, bump_rule, step_operator, step_rule, stepped_at}
use Rattle.mdr_body.specs.Uses.{use_among, use_in}
use Rattle.mdr_typing.specs.declared.source.Source.{Source}
use Rattle.mdr_typing.specs.Profile.{assigned, called, calling, returned, stepped, stored}
use Rattle.mdr_typing.specs.Sources.{assigning, call_source, cast_source, source_assigned, source_of, source_returned, source_stored, value_source}
use Rattle.mdr_sound.proofs.Rights.{after_right, again_right, both_right, not_right}
use Rattle.mdr_half_program.specs.Usable.{GivesNothing, IsUseless}

pub neither : (a b : Option Place) → a ≡ None → b ≡ None → or_else a b ≡ None
neither a b e f = ap (λ p. or_else p b) e ∙ f

-- ---- names

file_refused : {C : Type 0} (p : Place) (o : Option Named) (x : Operand) → GivesNothing o → file_name p o ≡ Right x → C
unfolding file_name
file_refused p None x g e = not_right _ x e
file_refused p (Some entry) x g e =
    let a = after_right (again entry.means) (λ n. Right (entity_operand n)) x e in
    absurd (subst IsUseless (again_right entry.means a.value a.right) g)

-- ---- rules of one part

-- what a rule is given comes to something
record Comes {A : Type 0} (c : Checked A) : Type 0 where
  value : A
  right : c ≡ Right value

prefix_comes : (p : Place) (op : Option PrefixOperator) (c : Checked Operand) (x : Operand) → prefix_rule p op c ≡ Right x → Comes c
unfolding prefix_rule
prefix_comes p op c x e = let a = after_right c (prefix_by p op) x e in record { value = a.value; right = a.right }

module _ (scope : Scope) (name : List ℕ) (gives : GivesNothing (entity_named scope name)) (plain : service_named name ≡ None) where
  cast_comes : (p : Place) (b : Base) (n : ℕ) (c : Checked Operand) (x : Operand) → cast_rule scope p b n c ≡ Right x → Comes c
  unfolding cast_rule
  cast_comes p b n c x e = let a = both_right (type_named scope b n) c (cast_to p) x e in record { value = a.right; right = a.second }

  member_comes : (p at : Place) (is_arrow : Bool) (other : List ℕ) (c : Checked Operand) (x : Operand) → member_rule scope p at is_arrow other c ≡ Right x → Comes c
  unfolding member_rule
  member_comes p at is_arrow other c x e = let a = after_right c (member_of scope p at is_arrow other) x e in record { value = a.value; right = a.right }

  bump_comes : (p : Place) (first : Bool) (up : Option Bool) (c : Checked Operand) (x : Operand) → bump_rule scope p first up c ≡ Right x → Comes c
  unfolding bump_rule
  bump_comes p first up c x e = let a = after_right c (bump_at scope p first up) x e in record { value = a.value; right = a.right }

  fronted_comes : (p : Place) (sign : List ℕ) (c : Checked Operand) (x : Operand) → fronted_rule scope p sign c ≡ Right x → Comes c
  unfolding fronted_rule
  fronted_comes p sign c x e = by (step_operator sign) e
    where
      by : (up : Option Bool) → fronted_by scope p up (prefix_operator sign) c ≡ Right x → Comes c
      by None f = prefix_comes p (prefix_operator sign) c x f
      by (Some up) f = bump_comes p true (Some up) c x f

  test_comes : (p : Place) (c a b : Checked Operand) (x : Operand) → choice_rule p c a b ≡ Right x → Comes c
  unfolding choice_rule
  test_comes p c a b x e = let d = both_right c (both a b paired) (choice_of p) x e in record { value = d.left; right = d.first }

  one_comes : (p : Place) (c a b : Checked Operand) (x : Operand) → choice_rule p c a b ≡ Right x → Comes a
  unfolding choice_rule
  one_comes p c a b x e =
      let d = both_right c (both a b paired) (choice_of p) x e in
      let f = both_right a b paired d.right d.second in
      record { value = f.left; right = f.first }

  other_comes : (p : Place) (c a b : Checked Operand) (x : Operand) → choice_rule p c a b ≡ Right x → Comes b
  unfolding choice_rule
  other_comes p c a b x e =
      let d = both_right c (both a b paired) (choice_of p) x e in
      let f = both_right a b paired d.right d.second in
      record { value = f.right; right = f.second }

  binary_first : (p : Place) (sign : List ℕ) (a b : Checked Operand) (x : Operand) → signed_rule scope p sign a b ≡ Right x → Comes a
  unfolding signed_rule binary_rule
  binary_first p sign a b x e = let c = both_right a b (binary_by scope p (binary_operator sign)) x e in record { value = c.left; right = c.first }

  binary_second : (p : Place) (sign : List ℕ) (a b : Checked Operand) (x : Operand) → signed_rule scope p sign a b ≡ Right x → Comes b
  unfolding signed_rule binary_rule
  binary_second p sign a b x e = let c = both_right a b (binary_by scope p (binary_operator sign)) x e in record { value = c.right; right = c.second }

  array_comes : (p : Place) (a b : Checked Operand) (x : Operand) → subscript_rule scope p a b ≡ Right x → Comes a
  unfolding subscript_rule
  array_comes p a b x e = let c = both_right a b (subscript_of scope p) x e in record { value = c.left; right = c.first }

  index_comes : (p : Place) (a b : Checked Operand) (x : Operand) → subscript_rule scope p a b ≡ Right x → Comes b
  unfolding subscript_rule
  index_comes p a b x e = let c = both_right a b (subscript_of scope p) x e in record { value = c.right; right = c.second }

  step_comes : (p : Place) (op : List ℕ) (c : Checked Operand) (s : Step) → after (step_rule scope p (step_operator op) c) assigning ≡ Right s → Comes c
  unfolding step_rule
  step_comes p op c s e =
      let a = after_right (step_rule scope p (step_operator op) c) assigning s e in
      let b = after_right c (stepped_at scope p (step_operator op)) a.value a.right in
      record { value = b.value; right = b.right }

  -- ---- where no local has the name

  module _ (names : List LocalName) (free : local_named names name ≡ None) where
    name_free : (p : Place) (other : List ℕ) (x : Operand) → name_rule scope names p other ≡ Right x → use_in name (Written.Name p other) ≡ None
    unfolding name_rule
    name_free p other x e = by (bytes_eq other name) refl
      where
        by : (t : Bool) → bytes_eq other name ≡ t → chosen t (Some p) None ≡ None
        by false q = refl
        by true q =
            let here = subst (λ n. local_or (local_named names n) (file_name p (entity_named scope n)) ≡ Right x) ((bytes_eq-Decides other name).0 q) e in
            file_refused p (entity_named scope name) x gives (sym (ap (λ o. local_or o (file_name p (entity_named scope name))) free) ∙ here)

    -- ---- what is called, and arguments

    -- of a form all is known that it comes to
    abbrev IsFree : Written → Type 0
    IsFree w = (x : Operand) → typed scope names w ≡ Right x → use_in name w ≡ None

    -- a use behind the sign in front of a form
    abbrev use_behind : Written → Option Place
    use_behind (Written.Prefix p op a) = use_in name a
    use_behind w = None

    abbrev IsFreeBehind : Written → Type 0
    IsFreeBehind w = (x : Operand) → behind_sign scope names w ≡ Right x → use_behind w ≡ None

    callee_free : (w : Written) (t : Target) → IsFree w → as_target (typed scope names w) ≡ Right t → use_in name w ≡ None
    callee_free w t known e = let a = after_right (typed scope names w) (λ x. Right (target.Callee x)) t e in known a.value a.right

    named_free : (p : Place) (other : List ℕ) (t : Target) (o : Option Service) → IsFree (Written.Name p other) → service_named other ≡ o → named_target o (typed scope names (Written.Name p other)) ≡ Right t → use_in name (Written.Name p other) ≡ None
    named_free p other t None known q e = callee_free (Written.Name p other) t known e
    named_free p other t (Some s) known q e = by (bytes_eq other name) refl
      where
        by : (b : Bool) → bytes_eq other name ≡ b → chosen b (Some p) None ≡ None
        by false k = refl
        by true k =
            let none : Some s ≡ None = sym q ∙ ap service_named ((bytes_eq-Decides other name).0 k) ∙ plain in
            absurd cc

    starred_free : (p : Place) (op : Option PrefixOperator) (w a : Written) (x : Operand) → IsFree w → ((y : Operand) → typed scope names a ≡ Right y → use_in name w ≡ None)
        → callee_behind p op (typed scope names w) (typed scope names a) ≡ Right x → use_in name w ≡ None
    unfolding callee_behind
    starred_free p op w a x known behind e = by (is_star op) e
      where
        by : (t : Bool) → chosen t (after (typed scope names a) (starred_callee p)) (typed scope names w) ≡ Right x → use_in name w ≡ None
        by true f = let b = after_right (typed scope names a) (starred_callee p) x f in behind b.value b.right
        by false f = known x f

    target_free : (w : Written) (t : Target) → IsFree w → IsFreeBehind w → target_of scope names w ≡ Right t → use_in name w ≡ None
    target_free (Written.Number p n k) t known behind e = refl
    target_free (Written.Null p) t known behind e = refl
    target_free (Written.Name p other) t known behind e = named_free p other t (service_named other) known refl e
    target_free (Written.Prefix p op a) t known behind e =
        let b = after_right (callee_behind p (prefix_operator op) (typed scope names (Written.Prefix p op a)) (typed scope names a)) (λ x. Right (target.Callee x)) t e in
        starred_free p (prefix_operator op) (Written.Prefix p op a) a b.value known behind b.right
    target_free (Written.Post p op a) t known behind e = callee_free (Written.Post p op a) t known e
    target_free (Written.Cast p b n a) t known behind e = callee_free (Written.Cast p b n a) t known e
    target_free (Written.Binary p op a b) t known behind e = callee_free (Written.Binary p op a b) t known e
    target_free (Written.Choice p c a b) t known behind e = callee_free (Written.Choice p c a b) t known e
    target_free (Written.Subscript p a i) t known behind e = callee_free (Written.Subscript p a i) t known e
    target_free (Written.Member p a is_arrow at other) t known behind e = callee_free (Written.Member p a is_arrow at other) t known e
    target_free (Written.Call p f args) t known behind e = callee_free (Written.Call p f args) t known e
    target_free (Written.Text p bytes) t known behind e = refl
    target_free (Written.Names p b n) t known behind e = refl

    value_free : (w : Written) (y : Argument) → IsFree w → after (typed scope names w) (λ x. Right (argument.Value x)) ≡ Right y → use_in name w ≡ None
    value_free w y known e = let a = after_right (typed scope names w) (λ x. Right (argument.Value x)) y e in known a.value a.right

    argument_free : (w : Written) (y : Argument) → IsFree w → argument_by scope w (typed scope names w) ≡ Right y → use_in name w ≡ None
    argument_free (Written.Number p n k) y known e = refl
    argument_free (Written.Null p) y known e = refl
    argument_free (Written.Name p other) y known e = value_free (Written.Name p other) y known e
    argument_free (Written.Prefix p op a) y known e = value_free (Written.Prefix p op a) y known e
    argument_free (Written.Post p op a) y known e = value_free (Written.Post p op a) y known e
    argument_free (Written.Cast p b n a) y known e = value_free (Written.Cast p b n a) y known e
    argument_free (Written.Binary p op a b) y known e = value_free (Written.Binary p op a b) y known e
    argument_free (Written.Choice p c a b) y known e = value_free (Written.Choice p c a b) y known e
    argument_free (Written.Subscript p a i) y known e = value_free (Written.Subscript p a i) y known e
    argument_free (Written.Member p a is_arrow at other) y known e = value_free (Written.Member p a is_arrow at other) y known e
    argument_free (Written.Call p f args) y known e = value_free (Written.Call p f args) y known e
    argument_free (Written.Text p bytes) y known e = refl
    argument_free (Written.Names p b n) y known e = refl

    call_by_free : (p : Place) (f : Written) (args : Writtens) (c : TypedCall) → IsFree f → IsFreeBehind f → ((ys : List Argument) → arguments_of scope names args ≡ Right ys → use_among name args ≡ None)
        → call_rule scope p (target_of scope names f) (arguments_of scope names args) ≡ Right c → or_else (use_in name f) (use_among name args) ≡ None
    unfolding call_rule
    call_by_free p f args c known behind all e =
        let b = both_right (target_of scope names f) (arguments_of scope names args) (λ t args. call_by scope p args t) c e in
        neither (use_in name f) (use_among name args) (target_free f b.left known behind b.first) (all b.right b.second)

    -- ---- expressions

    mutual
      pub typed_free : (w : Written) (x : Operand) → typed scope names w ≡ Right x → use_in name w ≡ None
      typed_free (Written.Number p n k) x e = refl
      typed_free (Written.Null p) x e = refl
      typed_free (Written.Name p other) x e = name_free p other x e
      typed_free (Written.Prefix p op a) x e = let c = fronted_comes p op (typed scope names a) x e in typed_free a c.value c.right
      typed_free (Written.Post p op a) x e = let c = bump_comes p false (step_operator op) (typed scope names a) x e in typed_free a c.value c.right
      typed_free (Written.Cast p b n a) x e = let c = cast_comes p b n (typed scope names a) x e in typed_free a c.value c.right
      typed_free (Written.Binary p op a b) x e =
          let c = binary_first p op (typed scope names a) (typed scope names b) x e in
          let d = binary_second p op (typed scope names a) (typed scope names b) x e in
          neither (use_in name a) (use_in name b) (typed_free a c.value c.right) (typed_free b d.value d.right)
      typed_free (Written.Choice p c a b) x e =
          let d = test_comes p (typed scope names c) (typed scope names a) (typed scope names b) x e in
          let f = one_comes p (typed scope names c) (typed scope names a) (typed scope names b) x e in
          let g = other_comes p (typed scope names c) (typed scope names a) (typed scope names b) x e in
          neither (use_in name c) (or_else (use_in name a) (use_in name b)) (typed_free c d.value d.right)
          (neither (use_in name a) (use_in name b) (typed_free a f.value f.right) (typed_free b g.value g.right))
      typed_free (Written.Subscript p a i) x e =
          let c = array_comes p (typed scope names a) (typed scope names i) x e in
          let d = index_comes p (typed scope names a) (typed scope names i) x e in
          neither (use_in name a) (use_in name i) (typed_free a c.value c.right) (typed_free i d.value d.right)
      typed_free (Written.Member p a is_arrow at other) x e = let c = member_comes p at is_arrow other (typed scope names a) x e in typed_free a c.value c.right
      typed_free (Written.Call p f args) x e =
          let c = after_right (call_rule scope p (target_of scope names f) (arguments_of scope names args)) (call_value p) x e in
          call_by_free p f args c.value (λ y k. typed_free f y k) (λ y k. behind_free f y k) (λ ys k. arguments_free args ys k) c.right
      typed_free (Written.Text p bytes) x e = refl
      typed_free (Written.Names p b n) x e = refl

      behind_free : (w : Written) (x : Operand) → behind_sign scope names w ≡ Right x → use_behind w ≡ None
      behind_free (Written.Number p n k) x e = refl
      behind_free (Written.Null p) x e = refl
      behind_free (Written.Name p other) x e = refl
      behind_free (Written.Prefix p op a) x e = typed_free a x e
      behind_free (Written.Post p op a) x e = refl
      behind_free (Written.Cast p b n a) x e = refl
      behind_free (Written.Binary p op a b) x e = refl
      behind_free (Written.Choice p c a b) x e = refl
      behind_free (Written.Subscript p a i) x e = refl
      behind_free (Written.Member p a is_arrow at other) x e = refl
      behind_free (Written.Call p f args) x e = refl
      behind_free (Written.Text p bytes) x e = refl
      behind_free (Written.Names p b n) x e = refl

      arguments_free : (ws : Writtens) (ys : List Argument) → arguments_of scope names ws ≡ Right ys → use_among name ws ≡ None
      arguments_free Writtens.End ys e = refl
      arguments_free (Writtens.Then w ws) ys e =
          let b = both_right (argument_by scope w (typed scope names w)) (arguments_of scope names ws) (λ x xs. Right (x ∷ xs)) ys e in
          neither (use_in name w) (use_among name ws) (argument_free w b.left (λ y k. typed_free w y k) b.first) (arguments_free ws b.right b.second)

    call_free : (p : Place) (f : Written) (args : Writtens) (c : TypedCall) → call_at scope names p f args ≡ Right c → or_else (use_in name f) (use_among name args) ≡ None
    unfolding call_at
    call_free p f args c e = call_by_free p f args c (typed_free f) (behind_free f) (arguments_free args) e

    -- ---- what stands behind `=` and `return`

    typed_source : (w : Written) (s : Source) → after (typed scope names w) value_source ≡ Right s → use_in name w ≡ None
    typed_source w s e = let a = after_right (typed scope names w) value_source s e in typed_free w a.value a.right

    source_free : (w : Written) (s : Source) → source_of scope names w ≡ Right s → use_in name w ≡ None
    source_free (Written.Number p n k) s e = refl
    source_free (Written.Null p) s e = refl
    source_free (Written.Name p other) s e = typed_source (Written.Name p other) s e
    source_free (Written.Prefix p op a) s e = typed_source (Written.Prefix p op a) s e
    source_free (Written.Post p op a) s e = typed_source (Written.Post p op a) s e
    source_free (Written.Cast p b n a) s e = let c = after_right (typed scope names (Written.Cast p b n a)) (cast_source (source_of scope names a)) s e in typed_free (Written.Cast p b n a) c.value c.right
    source_free (Written.Binary p op a b) s e = typed_source (Written.Binary p op a b) s e
    source_free (Written.Choice p c a b) s e = typed_source (Written.Choice p c a b) s e
    source_free (Written.Subscript p a i) s e = typed_source (Written.Subscript p a i) s e
    source_free (Written.Member p a is_arrow at other) s e = typed_source (Written.Member p a is_arrow at other) s e
    source_free (Written.Call p f args) s e = let a = after_right (call_at scope names p f args) (call_source p) s e in call_free p f args a.value a.right
    source_free (Written.Text p bytes) s e = refl
    source_free (Written.Names p b n) s e = refl

    -- ---- steps

    pub assigned_free : (p : Place) (op : List ℕ) (a b : Written) (s : Step) → assigned scope names p op a b ≡ Right s → or_else (use_in name a) (use_in name b) ≡ None
    unfolding assigned
    assigned_free p op a b s e =
        let c = both_right (typed scope names a) (source_of scope names b) (source_assigned scope p (assignment_operator op)) s e in
        neither (use_in name a) (use_in name b) (typed_free a c.left c.first) (source_free b c.right c.second)

    pub stored_free : (p : Place) (l : Lval) (t : Ty) (w : Written) (s : Step) → stored scope names p l t w ≡ Right s → use_in name w ≡ None
    unfolding stored
    stored_free p l t w s e = let a = after_right (source_of scope names w) (source_stored p l t) s e in source_free w a.value a.right

    pub returned_free : (p : Place) (t : Ty) (w : Written) (s : Step) → returned scope names p t w ≡ Right s → use_in name w ≡ None
    unfolding returned
    returned_free p t w s e = let a = after_right (source_of scope names w) (source_returned p t) s e in source_free w a.value a.right

    stepped_free : (p : Place) (op : List ℕ) (w : Written) (s : Step) → stepped scope names p op w ≡ Right s → use_in name w ≡ None
    unfolding stepped
    stepped_free p op w s e = let c = step_comes p op (typed scope names w) s e in typed_free w c.value c.right

    pub called_free : (w : Written) (s : Step) → called scope names w ≡ Right s → use_in name w ≡ None
    called_free (Written.Number p n k) s e = refl
    called_free (Written.Null p) s e = refl
    called_free (Written.Name p other) s e = not_right _ s e
    called_free (Written.Prefix p op a) s e = stepped_free p op a s e
    called_free (Written.Post p op a) s e = stepped_free p op a s e
    called_free (Written.Cast p b n a) s e = not_right _ s e
    called_free (Written.Binary p op a b) s e = not_right _ s e
    called_free (Written.Choice p c a b) s e = not_right _ s e
    called_free (Written.Subscript p a i) s e = not_right _ s e
    called_free (Written.Member p a is_arrow at other) s e = not_right _ s e
    called_free (Written.Call p f args) s e = let a = after_right (call_at scope names p f args) calling s e in call_free p f args a.value a.right
    called_free (Written.Text p bytes) s e = refl
    called_free (Written.Names p b n) s e = refl
