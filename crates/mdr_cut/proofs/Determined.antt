-- A program has one plan, and its source one of each text.
use Rattle.std.proofs.Common.{◌≡◌, ◌↔◌, ℕ, zero, suc, ◌<◌, Bool, true, false, List, [], ◌∷◌, ◌++◌, length, get_or, Option, Some, None, slice_get, refl, sym, ◌∙◌, ap, subst, arith}
use Rattle.mdr_core.specs.declared.program.Program.{Program}
use Rattle.mdr_core.specs.declared.plan.Key.{Key}
use Rattle.mdr_core.specs.declared.plan.Half.{Half}
use Rattle.mdr_core.specs.declared.plan.Half.TheVariants.{Kernel, User}
use Rattle.mdr_core.specs.declared.plan.Plan.{Plan}
use Rattle.mdr_paths.specs.Numbers.{numbers}
use Rattle.mdr_paths.proofs.NodeLists.{same_nodes}
use Rattle.mdr_slice.specs.declared.halves.Halves.{Halves}
use Rattle.mdr_slice.specs.Graph.{AreCallees, AreRoots, IsRow}
use Rattle.mdr_slice.specs.Halves.{AreHalves}
use Rattle.mdr_slice.proofs.GraphLaws.{some_same}
use Rattle.mdr_access.specs.KeyOrder.{keys}
use Rattle.mdr_access.specs.Keys.{AreKeys, IsPlan}
use Rattle.mdr_half.specs.Halves.{kernel_text, user_text}
use Rattle.mdr_half.specs.Plans.{calls_text, plan_text}
use Rattle.mdr_cut.specs.Cuts.{PlanIsDetermined, ReportIsDetermined, TextsAreDetermined}

-- ---- lists of one length

same_items : {A : Type 0} (nothing : A) (xs ys : List A) → length xs ≡ length ys → ((i : ℕ) → i < length xs → get_or xs i nothing ≡ get_or ys i nothing) → xs ≡ ys
same_items nothing [] [] size each = refl
same_items nothing [] (y ∷ ys) size each = absurd (omega (arith, size))
same_items nothing (x ∷ xs) [] size each = absurd (omega (arith, size))
same_items nothing (x ∷ xs) (y ∷ ys) size each =
    let e : x ≡ y = each 0 (omega arith) in
    λ i. e i ∷ same_items nothing xs ys (omega (arith, size)) (λ j inside. each (suc j) (omega (arith, inside))) i

same_flag : (x y : Bool) → ((Some x ≡ Some true) ↔ (Some y ≡ Some true)) → x ≡ y
same_flag true y both = sym (some_same (both.0 refl))
same_flag false true both = some_same (both.1 refl)
same_flag false false both = refl

same_flags : (xs ys : List Bool) → length xs ≡ length ys → ((i : ℕ) → (slice_get xs i ≡ Some true) ↔ (slice_get ys i ≡ Some true)) → xs ≡ ys
same_flags [] [] size each = refl
same_flags [] (y ∷ ys) size each = absurd (omega (arith, size))
same_flags (x ∷ xs) [] size each = absurd (omega (arith, size))
same_flags (x ∷ xs) (y ∷ ys) size each = let e : x ≡ y = same_flag x y (each 0) in λ i. e i ∷ same_flags xs ys (omega (arith, size)) (λ j. each (suc j)) i

same_half : (x y : Half) → ((Some x ≡ Some Kernel) ↔ (Some y ≡ Some Kernel)) → x ≡ y
same_half Kernel y both = sym (some_same (both.0 refl))
same_half User Kernel both = some_same (both.1 refl)
same_half User User both = refl

same_sides : (xs ys : List Half) → length xs ≡ length ys → ((i : ℕ) → (slice_get xs i ≡ Some Kernel) ↔ (slice_get ys i ≡ Some Kernel)) → xs ≡ ys
same_sides [] [] size each = refl
same_sides [] (y ∷ ys) size each = absurd (omega (arith, size))
same_sides (x ∷ xs) [] size each = absurd (omega (arith, size))
same_sides (x ∷ xs) (y ∷ ys) size each = let e : x ≡ y = same_half x y (each 0) in λ i. e i ∷ same_sides xs ys (omega (arith, size)) (λ j. each (suc j)) i

-- what holds exactly where a third thing does
through : {A B C : Type 0} → A ↔ C → B ↔ C → A ↔ B
through p q = (λ a. q.1 (p.0 a), λ b. p.1 (q.0 b))

-- ---- the plan

same_roots : (program : Program) (roots others : List ℕ) → AreRoots program roots → AreRoots program others → roots ≡ others
same_roots program roots others a b = same_nodes numbers roots others a.rises b.rises (λ f h. (through (a.exact f) (b.exact f)).0 h) (λ f h. (through (a.exact f) (b.exact f)).1 h)

halves_same : (program : Program) (roots : List ℕ) (halves others : Halves) → AreHalves program roots halves → AreHalves program roots others → halves ≡ others
halves_same program roots halves others a b =
    let sides = same_sides halves.halves others.halves (a.halves_size ∙ sym b.halves_size) (λ f. through (a.kernel f) (b.kernel f)) in
    let marks = same_flags halves.roots others.roots (a.roots_size ∙ sym b.roots_size) (λ f. through (a.root f) (b.root f)) in
    let stubs = same_flags halves.down others.down (a.down_size ∙ sym b.down_size) (λ f. through (a.stub f) (b.stub f)) in
    λ i. record { halves = sides i; roots = marks i; down = stubs i }

-- what stands in a list
there : {A : Type 0} (nothing : A) (xs : List A) (f : ℕ) → f < length xs → slice_get xs f ≡ Some (get_or xs f nothing)
there nothing [] f inside = absurd (omega (arith, inside))
there nothing (x ∷ xs) zero inside = refl
there nothing (x ∷ xs) (suc f) inside = there nothing xs f (omega (arith, inside))

none_outside : {A : Type 0} (xs : List A) (f : ℕ) → f < length xs → slice_get xs f ≡ None → ⊥
none_outside [] f inside e = absurd (omega (arith, inside))
none_outside (x ∷ xs) zero inside e = let no : Some x ≡ None = e in absurd cc
none_outside (x ∷ xs) (suc f) inside e = none_outside xs f (omega (arith, inside)) e

keys_same : (program : Program) (halves : List Half) (f : ℕ) (ks others : List Key) → AreKeys program halves f ks → AreKeys program halves f others → ks ≡ others
keys_same program halves f ks others a b = same_nodes keys ks others a.rises b.rises (λ k h. (through (a.exact k) (b.exact k)).0 h) (λ k h. (through (a.exact k) (b.exact k)).1 h)

module _ (program : Program) (halves : Halves) (plan other : Plan) (a : IsPlan program halves plan) (b : IsPlan program halves other) where
  list_same : (f : ℕ) (ks others : List Key) → f < length halves.halves → slice_get plan.keys f ≡ Some ks → slice_get other.keys f ≡ Some others → (h : Option Half) → slice_get halves.halves f ≡ h → ks ≡ others
  list_same f ks others inside e d None h = absurd (none_outside halves.halves f inside h)
  list_same f ks others inside e d (Some Kernel) h = a.kernel f ks h e ∙ sym (b.kernel f others h d)
  list_same f ks others inside e d (Some User) h = keys_same program halves.halves f ks others (a.user f ks h e) (b.user f others h d)

  plan_same : length halves.halves ≡ length program.funcs → plan ≡ other
  plan_same size =
      let types = a.types ∙ sym b.types in
      let names = a.names ∙ sym b.names in
      let sides = a.halves_are ∙ sym b.halves_are in
      let roots = a.roots ∙ sym b.roots in
      let down = a.down ∙ sym b.down in
      let lists = same_items [] plan.keys other.keys (a.lists ∙ sym b.lists) (λ f inside. list_same f _ _ (omega (arith, inside, size, a.lists)) (there [] plan.keys f inside) (there [] other.keys f (omega (arith, inside, a.lists, b.lists))) (slice_get halves.halves f) refl) in
      λ i. record { types = types i; names = names i; halves = sides i; roots = roots i; down = down i; keys = lists i }

pub plan_is_determined : PlanIsDetermined
plan_is_determined program plan other a b =
    let roots : a.roots ≡ b.roots = same_roots program a.roots b.roots a.are_roots b.are_roots in
    let halves : a.halves ≡ b.halves = halves_same program a.roots a.halves b.halves a.are_halves (subst (λ rs. AreHalves program rs b.halves) (sym roots) b.are_halves) in
    plan_same program a.halves plan other a.is_plan (subst (λ hs. IsPlan program hs other) (sym halves) b.is_plan) a.are_halves.halves_size

pub texts_are_determined : TextsAreDetermined
texts_are_determined tree program texts others a b =
    let plan : a.plan ≡ b.plan = plan_is_determined program a.plan b.plan a.is_plan b.is_plan in
    let kernel = a.kernel_is ∙ ap (λ p. kernel_text p tree) plan ∙ sym b.kernel_is in
    let user = a.user_is ∙ ap (λ p. user_text p tree) plan ∙ sym b.user_is in
    let lines = a.plan_is ∙ ap (plan_text program) plan ∙ sym b.plan_is in
    λ i. record { kernel = kernel i; user = user i; plan = lines i }

-- ---- the report

graph_same : (program : Program) (graph other : List (List ℕ)) → AreCallees program true graph → AreCallees program true other → graph ≡ other
graph_same program graph other a b = same_items [] graph other (a.size ∙ sym b.size) (λ f inside. row_same f (a.rows f (omega (arith, inside, a.size))) (b.rows f (omega (arith, inside, a.size))))
  where
    row_same : (f : ℕ) → IsRow program true f (get_or graph f []) → IsRow program true f (get_or other f []) → get_or graph f [] ≡ get_or other f []
    row_same f r s = same_nodes numbers _ _ r.rises s.rises (λ g h. (through (r.exact g) (s.exact g)).0 h) (λ g h. (through (r.exact g) (s.exact g)).1 h)

pub report_is_determined : ReportIsDetermined
report_is_determined program text other a b =
    let graph = graph_same program a.graph b.graph a.are_callees b.are_callees in
    let plan = plan_is_determined program a.plan b.plan a.is_plan b.is_plan in
    let both : calls_text program a.graph ++ plan_text program a.plan ≡ calls_text program b.graph ++ plan_text program b.plan = λ i. calls_text program (graph i) ++ plan_text program (plan i) in
    a.text_is ∙ both ∙ sym b.text_is
