-- The items of a half come to the pieces of the whole source, but for bodies of the other half.
use Rattle.mdr_check.specs.Uses.{UseRule, defined_functions, defined_rule}
use Rattle.mdr_check.specs.declared.file.Known.{Known}
use Rattle.mdr_core.specs.Layout.{chosen}
use Rattle.mdr_core.specs.declared.place.Place.{Place}
use Rattle.mdr_core.specs.declared.plan.Half.{Half}
use Rattle.mdr_core.specs.declared.plan.Plan.{Plan}
use Rattle.mdr_faults.specs.declared.fault.FaultKind.TheVariants.{Limit, Redefined}
use Rattle.mdr_faults.specs.declared.scope.Scope.{Scope}
use Rattle.mdr_half_program.proofs.Known.{defined_there, first_there, item_there, known_there, shorts_there, there}
use Rattle.mdr_half_program.proofs.Leading.{Leads, after_leads, both_leads, demand_leads, goods_by, itself, led, next_leads}
use Rattle.mdr_half_program.proofs.Leading.Leads.{Bads, Goods}
use Rattle.mdr_half_program.specs.Pieces.{HalvesHaveThePieces, function_or_prototype, piece_in, unused}
use Rattle.mdr_headings.specs.declared.function.Declared.{Declared}
use Rattle.mdr_syntax.specs.declared.tree.Head.{Head}
use Rattle.mdr_syntax.specs.declared.tree.Item.{Item}
use Rattle.mdr_syntax.specs.declared.tree.ItemWhat.{ItemWhat}
use Rattle.std.proofs.Common.{Bool, List, None, Option, Some, [], ap, bytes_eq, false, length, map, refl, subst, sym, true, ℕ, ◌++◌, ◌||◌, ◌∙◌, ◌∷◌, ◌≡◌}
use Rattle.mdr_check.specs.Files.{BodyRule, struct_of, struct_piece, global_of, prototype_of, function_of, body_scope, item_piece, behind_item, pieces_behind, known_behind, first_known}
use Rattle.mdr_check.specs.Whole.{kept, named, file_pieces}
use Rattle.mdr_check.specs.declared.file.Piece.TheVariants as piece
use Rattle.mdr_faults.specs.Faults.{Checked, Faults, Right, Wrong, after, both, next, each}
use Rattle.mdr_half.specs.Halves.{half_of, is_same_half, body_or_remote, what_in, item_in}
use Rattle.mdr_headings.specs.Functions.{is_taken, may_stand, function_declared, function_rule, function_named, has_body, is_body_by}
use Rattle.mdr_headings.specs.Heads.{heading}
use Rattle.mdr_headings.specs.declared.body.Body.{Body}
use Rattle.mdr_headings.specs.declared.head.Heading.{Heading}
use Rattle.mdr_syntax.specs.declared.tree.Decl.{Decl}
use Rattle.mdr_syntax.specs.declared.tree.ItemWhat.TheVariants as item
use Rattle.mdr_syntax.specs.declared.tree.Node.{Node}
use Rattle.std.proofs.lemmas.List.{map-append}
use Rattle.std.proofs.lemmas.Slice.Eq.{bytes_eq-Decides}

may_again : (is_taken : Bool) (entry : Option Declared) (second : Bool) → may_stand is_taken entry second ≡ true → may_stand is_taken entry false ≡ true
may_again false entry second e = refl
may_again true None second e = e
may_again true (Some f) second e = refl

-- ---- functions that are declared: with a body, and without one

bare_leads : (scope : Scope) (fs : List Declared) (before past : List Item) (h : Head) → Leads (λ x. x) (function_declared scope fs before h true) (function_declared scope fs past h false)
unfolding function_declared function_rule
bare_leads scope fs before past h = demand_leads (λ x. x) h.place Redefined _ _ (may_again (is_taken scope h.name) (function_named fs h.name) (has_body before h.name)) (itself _)

bare_same : (scope : Scope) (fs : List Declared) (before past : List Item) (h : Head) → function_declared scope fs past h false ≡ function_declared scope fs before h false
unfolding function_declared
bare_same scope fs before past h = refl

whole_same : (scope : Scope) (fs : List Declared) (before past : List Item) (h : Head) → has_body past h.name ≡ has_body before h.name → function_declared scope fs past h true ≡ function_declared scope fs before h true
unfolding function_declared
whole_same scope fs before past h e = ap (λ b. function_rule h.place (is_taken scope h.name) (function_named fs h.name) b (length fs) (heading scope h)) e

same_leads : {A : Type 0} (c d : Checked A) → d ≡ c → Leads (λ x. x) c d
same_leads c d e = subst (λ x. Leads (λ y. y) c x) (sym e) (itself c)

module _ (half : Half) (plan : Plan) where
  prototype_leads : (h : Head) (is_critical : Bool) → is_same_half (half_of plan h.name) half ≡ false → {c d : Checked Heading} → Leads (λ x. x) c d → (e : Checked Body) → Leads (piece_in half plan) (both c e (function_of h.name is_critical)) (after d (prototype_of h.name))
  prototype_leads h is_critical other (Goods x) (Right b) = goods_by (piece_in half plan) _ _ (ap (λ t. function_or_prototype t h.name is_critical x b) other)
  prototype_leads h is_critical other (Goods x) (Wrong g) = Bads g _
  prototype_leads h is_critical other (Bads g d) (Right b) = Bads g _
  prototype_leads h is_critical other (Bads g d) (Wrong k) = Bads _ _

  -- ---- bodies of the half's own functions

  one_body : (name : List ℕ) → is_same_half (half_of plan name) half ≡ true → (h : Head) (is_critical : Bool) (ns : List Node) (b : Bool) → is_same_half (half_of plan h.name) half ≡ b → is_body_by name (body_or_remote b h is_critical ns) ≡ bytes_eq h.name name
  one_body name mine h is_critical ns true e = refl
  one_body name mine h is_critical ns false e = by (bytes_eq h.name name) refl
    where
      by : (t : Bool) → bytes_eq h.name name ≡ t → false ≡ t
      by false q = refl
      by true q =
          let same : h.name ≡ name = (bytes_eq-Decides h.name name).0 q in
          sym e ∙ ap (λ (n : List ℕ). is_same_half (half_of plan n) half) same ∙ mine

  body_what : (name : List ℕ) → is_same_half (half_of plan name) half ≡ true → (w : ItemWhat) → is_body_by name (what_in half plan w) ≡ is_body_by name w
  body_what name mine (item.Define other is_negative n k) = refl
  body_what name mine (item.Struct p other ds) = refl
  body_what name mine (item.Enum es) = refl
  body_what name mine (item.Global d init) = refl
  body_what name mine (item.Proto h is_remote) = refl
  body_what name mine (item.Func h is_critical ns) = one_body name mine h is_critical ns (is_same_half (half_of plan h.name) half) refl

  body_there : (name : List ℕ) → is_same_half (half_of plan name) half ≡ true → (is : List Item) → has_body (there half plan is) name ≡ has_body is name
  body_there name mine [] = refl
  body_there name mine (i ∷ is) = ap (λ b. b || has_body (there half plan is) name) (body_what name mine i.what) ∙ ap (λ b. is_body_by name i.what || b) (body_there name mine is)

  struct_leads : (scope : Scope) (p : Place) (name : List ℕ) (ds : List Decl) → Leads (piece_in half plan) (struct_piece scope p name ds) (struct_piece scope p name ds)
  unfolding struct_piece
  struct_leads scope p name ds =
      demand_leads (piece_in half plan) p Redefined _ _ (λ e. e) (demand_leads (piece_in half plan) p Limit _ _ (λ e. e)
      (after_leads (λ x. x) (piece_in half plan) (struct_of name) (struct_of name) (itself _) (λ xs. Goods (piece.Struct (record { name = name; fields = xs })))))

  -- ---- one item

  module _ (body : BodyRule) where
    function_leads : (before : List Item) (known : Known) (p : Place) (h : Head) (is_critical : Bool) (ns : List Node) (b : Bool) → is_same_half (half_of plan h.name) half ≡ b
        → Leads (piece_in half plan) (item_piece body before known p (item.Func h is_critical ns)) (item_piece body (there half plan before) known p (body_or_remote b h is_critical ns))
    function_leads before known p h is_critical ns true e =
        both_leads (λ x. x) (λ x. x) (piece_in half plan) (function_of h.name is_critical) (function_of h.name is_critical)
        (same_leads _ _ (whole_same known.scope known.functions before (there half plan before) h (body_there h.name e before)))
        (itself _)
        (λ x y. goods_by (piece_in half plan) (piece.Function h.name is_critical x y) (piece.Function h.name is_critical x y) (ap (λ t. function_or_prototype t h.name is_critical x y) e))
    function_leads before known p h is_critical ns false e =
        prototype_leads h is_critical e (bare_leads known.scope known.functions before (there half plan before) h) (body (body_scope known h) h ns)

    item_leads : (before : List Item) (known : Known) (p : Place) (w : ItemWhat) → Leads (piece_in half plan) (item_piece body before known p w) (item_piece body (there half plan before) known p (what_in half plan w))
    item_leads before known p (item.Define name is_negative n k) = demand_leads (piece_in half plan) p Redefined _ _ (λ e. e) (Goods piece.Nothing)
    item_leads before known p (item.Struct at name ds) = struct_leads known.scope at name ds
    item_leads before known p (item.Enum es) = after_leads (λ x. x) (piece_in half plan) _ _ (itself _) (λ x. Goods piece.Nothing)
    item_leads before known p (item.Global d init) = after_leads (λ x. x) (piece_in half plan) global_of global_of (itself _) (λ v. Goods (piece.Global v))
    item_leads before known p (item.Proto h is_remote) =
        after_leads (λ x. x) (piece_in half plan) (prototype_of h.name) (prototype_of h.name) (same_leads _ _ (bare_same known.scope known.functions before (there half plan before) h)) (λ x. Goods (piece.Prototype h.name x))
    item_leads before known p (item.Func h is_critical ns) = function_leads before known p h is_critical ns (is_same_half (half_of plan h.name) half) refl

    -- ---- all items

    pieces_lead : (is : List Item) (known : Known) (before : List Item) → Leads (map (piece_in half plan)) (pieces_behind body known before is) (pieces_behind body known (there half plan before) (there half plan is))
    unfolding pieces_behind
    pieces_lead [] known before = Goods []
    pieces_lead (i ∷ is) known before =
        next_leads (piece_in half plan) (item_leads before known i.place i.what)
        (subst (λ (k : Known). Leads (map (piece_in half plan)) (pieces_behind body (behind_item known i.what) (before ++ i ∷ []) is) (pieces_behind body k (there half plan before ++ item_in half plan i ∷ []) (there half plan is))) (sym (item_there half plan known i.what))
        (subst (λ (b : List Item). Leads (map (piece_in half plan)) (pieces_behind body (behind_item known i.what) (before ++ i ∷ []) is) (pieces_behind body (behind_item known i.what) b (there half plan is))) (map-append (item_in half plan) before (i ∷ []))
        (pieces_lead is (behind_item known i.what) (before ++ i ∷ []))))

  -- ---- functions that are declared

  defined_leads : (p : Place) (f g : Faults) (t u : Bool) → t ≡ u → Leads (λ x. x) (chosen t (Right p) (Wrong f)) (chosen u (Right p) (Wrong g))
  defined_leads p f g true u e = subst (λ b. Leads (λ x. x) (Right p) (chosen b (Right p) (Wrong g))) e (Goods p)
  defined_leads p f g false u e = Bads f (chosen u (Right p) (Wrong g))

  next_same : {A : Type 0} {c d : Checked A} {cs ds : Checked (List A)} → Leads (λ x. x) c d → Leads (λ x. x) cs ds → Leads (λ x. x) (next c cs) (next d ds)
  next_same l ls = both_leads (λ x. x) (λ x. x) (λ x. x) _ _ l ls (λ x xs. Goods (x ∷ xs))

  each_leads : (uses : UseRule) (items : List Item) (fs : List Declared) → Leads (λ x. x) (each (map (defined_rule unused items) fs)) (each (map (defined_rule uses (there half plan items)) fs))
  each_leads uses items [] = Goods []
  each_leads uses items (f ∷ fs) =
      next_same (defined_leads f.place _ _ _ _ (sym (defined_there half plan items f.name))) (each_leads uses items fs)

  defined_lead : (uses : UseRule) (items : List Item) (fs gs : List Declared) → gs ≡ fs → Leads (λ x. x) (defined_functions unused items fs) (defined_functions uses (there half plan items) gs)
  unfolding defined_functions
  defined_lead uses items fs gs e = subst (λ (hs : List Declared). Leads (λ x. x) (each (map (defined_rule unused items) fs)) (each (map (defined_rule uses (there half plan items)) hs))) (sym e) (each_leads uses items fs)

  -- ---- whole files

  functions_same : (items : List Item) → (known_behind (first_known (there half plan items)) (there half plan items)).functions ≡ (known_behind (first_known items) items).functions
  functions_same items = ap (λ (k : Known). (known_behind k (there half plan items)).functions) (first_there half plan items) ∙ ap (λ (k : Known). k.functions) (known_there half plan items (first_known items))

  files_lead : (body : BodyRule) (uses : UseRule) (items : List Item) → Leads (map (piece_in half plan)) (file_pieces body unused items) (file_pieces body uses (there half plan items))
  unfolding file_pieces
  files_lead body uses items =
      both_leads (λ x. x) (map (piece_in half plan)) (map (piece_in half plan)) named named (same_leads _ _ (shorts_there half plan items))
      (both_leads (map (piece_in half plan)) (λ x. x) (map (piece_in half plan)) kept kept
      (subst (λ (k : Known). Leads (map (piece_in half plan)) (pieces_behind body (first_known items) [] items) (pieces_behind body k [] (there half plan items))) (sym (first_there half plan items)) (pieces_lead body items (first_known items) []))
      (defined_lead uses items _ _ (functions_same items))
      (λ x y. Goods x))
      (λ u xs. Goods xs)

pub halves_lead : HalvesHaveThePieces
halves_lead body uses half plan tree xs e = led (map (piece_in half plan)) (files_lead half plan body uses tree.items) xs e
