-- What is known at each place of a half's text is what is known there in the whole source.
use Rattle.mdr_check.specs.Names.{short_item, short_items, short_what}
use Rattle.mdr_headings.specs.Names.{all_fine, as_well}
use Rattle.mdr_check.specs.declared.file.Known.{Known}
use Rattle.mdr_core.specs.declared.plan.Half.{Half}
use Rattle.mdr_core.specs.declared.plan.Plan.{Plan}
use Rattle.mdr_faults.specs.declared.scope.Candidate.{Candidate}
use Rattle.mdr_faults.specs.declared.scope.Named.{Named}
use Rattle.mdr_faults.specs.declared.scope.Scope.{Scope}
use Rattle.mdr_faults.specs.declared.scope.Tag.{Tag}
use Rattle.mdr_headings.specs.Source.{defines_behind, defines_from, scope_of, tags_behind, tags_from}
use Rattle.mdr_syntax.specs.declared.tree.Head.{Head}
use Rattle.mdr_syntax.specs.declared.tree.Item.{Item}
use Rattle.mdr_syntax.specs.declared.tree.ItemWhat.{ItemWhat}
use Rattle.std.proofs.Common.{Bool, List, [], ap, false, map, refl, true, ℕ, ◌||◌, ◌∙◌, ◌∷◌, ◌≡◌}
use Rattle.mdr_check.specs.Files.{behind_item, first_known, first_scope, known_behind, outlines_behind, outlines_from, with_outlines}
use Rattle.mdr_headings.specs.Names.{Verdict}
use Rattle.mdr_half.specs.Halves.{half_of, is_same_half, remote, body_or_remote, what_in, item_in}
use Rattle.mdr_headings.specs.Functions.{is_defined, defines_by}
use Rattle.mdr_syntax.specs.declared.tree.ItemWhat.TheVariants as item
use Rattle.mdr_syntax.specs.declared.tree.Node.{Node}

module _ (half : Half) (plan : Plan) where
  abbrev pub there : List Item → List Item
  there = map (item_in half plan)

  -- ---- what a function with a body or its `__remote` prototype is alike in

  rest_alike : {A : Type 0} (of : ItemWhat → A) → ((h : Head) (is_critical : Bool) (ns : List Node) → of (remote h) ≡ of (item.Func h is_critical ns)) → (w : ItemWhat) → of (what_in half plan w) ≡ of w
  rest_alike of e (item.Define name is_negative n k) = refl
  rest_alike of e (item.Struct p name ds) = refl
  rest_alike of e (item.Enum es) = refl
  rest_alike of e (item.Global d init) = refl
  rest_alike of e (item.Proto h is_remote) = refl
  rest_alike {A = A} of e (item.Func h is_critical ns) = by (is_same_half (half_of plan h.name) half)
    where
      by : (b : Bool) → of (body_or_remote b h is_critical ns) ≡ of (item.Func h is_critical ns)
      by true = refl
      by false = e h is_critical ns

  pub defined_there : (is : List Item) (name : List ℕ) → is_defined (there is) name ≡ is_defined is name
  defined_there [] name = refl
  defined_there (i ∷ is) name = ap (λ b. b || is_defined (there is) name) (rest_alike (defines_by name) (λ h c ns. refl) i.what) ∙ ap (λ b. defines_by name i.what || b) (defined_there is name)

  tags_there : (is : List Item) (tags : List Tag) → tags_from tags (there is) ≡ tags_from tags is
  unfolding tags_from
  tags_there [] tags = refl
  tags_there (i ∷ is) tags = ap (λ (ts : List Tag). tags_from ts (there is)) (rest_alike (tags_behind tags) (λ h c ns. refl) i.what) ∙ tags_there is (tags_behind tags i.what)

  defines_there : (is : List Item) (names : List Named) → defines_from names (there is) ≡ defines_from names is
  unfolding defines_from
  defines_there [] names = refl
  defines_there (i ∷ is) names = ap (λ (ns : List Named). defines_from ns (there is)) (rest_alike (defines_behind names) (λ h c ns. refl) i.what) ∙ defines_there is (defines_behind names i.what)

  outlines_there : (scope : Scope) (is : List Item) (os : List (List Candidate)) → outlines_from scope os (there is) ≡ outlines_from scope os is
  unfolding outlines_from
  outlines_there scope [] os = refl
  outlines_there scope (i ∷ is) os = ap (λ (z : List (List Candidate)). outlines_from scope z (there is)) (rest_alike (outlines_behind scope os) (λ h c ns. refl) i.what) ∙ outlines_there scope is (outlines_behind scope os i.what)

  first_scope_there : (is : List Item) → first_scope (there is) ≡ first_scope is
  first_scope_there is = ap (λ (ts : List Tag). scope_of ts (defines_from [] (there is))) (tags_there is []) ∙ ap (λ (ns : List Named). scope_of (tags_from [] is) ns) (defines_there is [])

  pub first_there : (is : List Item) → first_known (there is) ≡ first_known is
  unfolding first_known
  first_there is =
      ap (λ (s : Scope). record { scope = with_outlines s (outlines_from s [] (there is)); globals = 0; functions = [] }) (first_scope_there is)
      ∙ ap (λ (os : List (List Candidate)). record { scope = with_outlines (first_scope is) os; globals = 0; functions = [] }) (outlines_there (first_scope is) is [])

  short_there : (is : List Item) → all_fine (map short_item (there is)) ≡ all_fine (map short_item is)
  short_there [] = refl
  short_there (i ∷ is) = ap (λ (v : Verdict). as_well v (all_fine (map short_item (there is)))) (rest_alike (short_what i.place) (λ h c ns. refl) i.what) ∙ ap (λ (v : Verdict). as_well (short_what i.place i.what) v) (short_there is)

  pub shorts_there : (is : List Item) → short_items (there is) ≡ short_items is
  unfolding short_items
  shorts_there is = short_there is

  -- ---- behind items

  pub item_there : (known : Known) (w : ItemWhat) → behind_item known (what_in half plan w) ≡ behind_item known w
  item_there known w = rest_alike (behind_item known) (λ h c ns. refl) w

  pub known_there : (is : List Item) (known : Known) → known_behind known (there is) ≡ known_behind known is
  unfolding known_behind
  known_there [] known = refl
  known_there (i ∷ is) known = ap (λ (k : Known). known_behind k (there is)) (item_there known i.what) ∙ known_there is (behind_item known i.what)
