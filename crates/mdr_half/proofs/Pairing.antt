-- What joining gives, item by item.
use Rattle.std.proofs.Common.{◌≡◌, ℕ, Bool, true, false, List, [], ◌∷◌, ◌++◌, length, map, Result, Ok, Err, refl, ap, sym, ◌∙◌, arith}
use Rattle.std.proofs.lemmas.Slice.Eq.{bytes_eq-Decides}
use Rattle.mdr_core.specs.declared.plan.Half.{Half}
use Rattle.mdr_core.specs.declared.plan.Half.TheVariants.{Kernel, User}
use Rattle.mdr_core.specs.declared.plan.Plan.{Plan}
use Rattle.mdr_core.specs.declared.place.Place.{Place}
use Rattle.mdr_syntax.specs.declared.tree.Tree.{Tree}
use Rattle.mdr_syntax.specs.declared.tree.Item.{Item}
use Rattle.mdr_syntax.specs.declared.tree.ItemWhat.{ItemWhat}
use Rattle.mdr_syntax.specs.declared.tree.ItemWhat.TheVariants as item
use Rattle.mdr_syntax.specs.declared.tree.Head.{Head}
use Rattle.mdr_syntax.specs.declared.tree.Node.{Node}
use Rattle.mdr_half.specs.declared.join_error.JoinError.{JoinError}
use Rattle.mdr_half.specs.declared.join_error.JoinError.TheVariants.{Differ, OutOfMemory}
use Rattle.mdr_half.specs.declared.joining.Part.TheVariants.{Here, There, Both}
use Rattle.mdr_half.specs.Halves.{half_of, is_same_half, remote, body_or_remote, what_in, item_in, kernel_tree, user_tree}
use Rattle.mdr_half.specs.Joins.{item_text, are_alike, remote_of, whole_by, whole_item, joined_item, behind, behind_joined, joined_from, joined, Refuses, HasNoRemote}

-- what is no function with a body is its own remote form
pub stays_remote : (what : ItemWhat) → ((h : Head) (c : Bool) (body : List Node) → what ≡ item.Func h c body → ⊥) → what ≡ remote_of what
stays_remote (item.Func h c body) other = absurd (other h c body refl)
stays_remote (item.Define name is_negative n kind) other = refl
stays_remote (item.Struct place name fields) other = refl
stays_remote (item.Enum es) other = refl
stays_remote (item.Global d value) other = refl
stays_remote (item.Proto h is_remote) other = refl

-- ---- a list that is joined from the front

-- these items in front of what is given
abbrev pub behind_all : List Item → Result (List Item) ℕ → Result (List Item) ℕ
behind_all [] rest = rest
behind_all (i ∷ is) rest = behind i (behind_all is rest)

pub behind_more : (is : List Item) (i : Item) (rest : Result (List Item) ℕ) → behind_all (is ++ i ∷ []) rest ≡ behind_all is (behind i rest)
behind_more [] i rest = refl
behind_more (j ∷ is) i rest = ap (behind j) (behind_more is i rest)

pub behind_refusal : (is : List Item) (line : ℕ) → behind_all is (Err line) ≡ Err line
behind_refusal [] line = refl
behind_refusal (i ∷ is) line = ap (behind i) (behind_refusal is line)

pub behind_end : (is : List Item) → behind_all is (Ok []) ≡ Ok is
behind_end [] = refl
behind_end (i ∷ is) = ap (behind i) (behind_end is)

-- ---- the halves of a tree

alike_itself : (what : ItemWhat) → are_alike what what ≡ true
alike_itself what = (bytes_eq-Decides (item_text what) (item_text what)).1 refl

-- an item that stands in both
both_fit : (i : Item) (what : ItemWhat) → whole_item i i (whole_by Both Both (are_alike what what)) ≡ Ok i
both_fit i what = ap (λ t. whole_item i i (whole_by Both Both t)) (alike_itself what)

abbrev done : Item → Result Item ℕ
done i = Ok i

-- a function that stands in the one of this half
function_fits : (v : Half) (place : Place) (h : Head) (c : Bool) (body : List Node) →
    joined_item (record { place = place; what = body_or_remote (is_same_half v Kernel) h c body }) (record { place = place; what = body_or_remote (is_same_half v User) h c body })
    ≡ done (record { place = place; what = item.Func h c body })
function_fits Kernel place h c body = ap (λ t. whole_item (record { place = place; what = item.Func h c body }) (record { place = place; what = remote h }) (whole_by Here There t)) (alike_itself (remote h))
function_fits User place h c body = ap (λ t. whole_item (record { place = place; what = remote h }) (record { place = place; what = item.Func h c body }) (whole_by There Here t)) (alike_itself (remote h))

what_fits : (plan : Plan) (place : Place) (what : ItemWhat) → ((head : Head) → what ≡ item.Proto head true → ⊥) →
    joined_item (record { place = place; what = what_in Kernel plan what }) (record { place = place; what = what_in User plan what }) ≡ done (record { place = place; what = what })
what_fits plan place (item.Func h c body) other = function_fits (half_of plan h.name) place h c body
what_fits plan place (item.Proto h true) other = absurd (other h refl)
what_fits plan place (item.Proto h false) other = both_fit _ (item.Proto h false)
what_fits plan place (item.Define name is_negative n kind) other = both_fit _ (item.Define name is_negative n kind)
what_fits plan place (item.Struct at name fields) other = both_fit _ (item.Struct at name fields)
what_fits plan place (item.Enum es) other = both_fit _ (item.Enum es)
what_fits plan place (item.Global d value) other = both_fit _ (item.Global d value)

halves_fit : (plan : Plan) (i : Item) → ((head : Head) → i.what ≡ item.Proto head true → ⊥) → joined_item (item_in Kernel plan i) (item_in User plan i) ≡ Ok i
halves_fit plan i other = what_fits plan i.place i.what other

pub halves_join_from : (plan : Plan) (last : ℕ) (is : List Item) → HasNoRemote is → joined_from last (map (item_in Kernel plan) is) (map (item_in User plan) is) ≡ Ok is
halves_join_from plan last [] none = refl
halves_join_from plan last (i ∷ is) none =
    ap (λ one. behind_joined one (joined_from i.place.line (map (item_in Kernel plan) is) (map (item_in User plan) is))) (halves_fit plan i none.0)
    ∙ ap (behind i) (halves_join_from plan i.place.line is none.1)

pub halves_join : (plan : Plan) (tree : Tree) → HasNoRemote tree.items → joined (kernel_tree plan tree) (user_tree plan tree) ≡ Ok tree.items
unfolding joined
halves_join plan tree none = halves_join_from plan 1 tree.items none

-- ---- joining as a loop does it: item by item of what is left of the two

pub nothing_left : (is : List Item) → length is ≡ 0 → is ≡ []
nothing_left [] e = refl
nothing_left (i ∷ is) e = absurd (omega arith)

joined_at : (last : ℕ) (left right ks us : List Item) (k u : Item) → left ≡ k ∷ ks → right ≡ u ∷ us →
    joined_from last left right ≡ behind_joined (joined_item k u) (joined_from u.place.line ks us)
joined_at last left right ks us k u first second =
    ap (λ (xs : List Item). joined_from last xs right) first
    ∙ ap (λ (ys : List Item). joined_from last (k ∷ ks) ys) second

pub joins_on : (items more left right ks us : List Item) (last : ℕ) (k u x : Item) (whole : Result (List Item) ℕ) → left ≡ k ∷ ks → right ≡ u ∷ us →
    behind_all items (joined_from last left right) ≡ whole → joined_item k u ≡ Ok x → more ≡ items ++ x ∷ [] →
    behind_all more (joined_from u.place.line ks us) ≡ whole
joins_on items more left right ks us last k u x whole first second so_far e m =
    let rest : Result (List Item) ℕ = joined_from u.place.line ks us in
    ap (λ all. behind_all all rest) m
    ∙ behind_more items x rest
    ∙ ap (λ r. behind_all items (behind_joined r rest)) (sym e)
    ∙ ap (behind_all items) (sym (joined_at last left right ks us k u first second))
    ∙ so_far

joins_not : (items left right ks us : List Item) (last : ℕ) (k u : Item) (line : ℕ) (whole : Result (List Item) ℕ) → left ≡ k ∷ ks → right ≡ u ∷ us →
    behind_all items (joined_from last left right) ≡ whole → joined_item k u ≡ Err line → whole ≡ Err line
joins_not items left right ks us last k u line whole first second so_far e =
    let rest : Result (List Item) ℕ = joined_from u.place.line ks us in
    sym so_far
    ∙ ap (behind_all items) (joined_at last left right ks us k u first second)
    ∙ ap (λ r. behind_all items (behind_joined r rest)) e
    ∙ behind_refusal items line

pub refused_on : (e : JoinError) (items left right ks us : List Item) (last : ℕ) (k u : Item) (whole : Result (List Item) ℕ) → left ≡ k ∷ ks → right ≡ u ∷ us →
    behind_all items (joined_from last left right) ≡ whole → Refuses e (joined_item k u) → Refuses e whole
refused_on (Differ line) items left right ks us last k u whole first second so_far e = joins_not items left right ks us last k u line whole first second so_far e
refused_on OutOfMemory items left right ks us last k u whole first second so_far e = tt

pub kernel_goes_on : (items left right ks : List Item) (last : ℕ) (k : Item) (whole : Result (List Item) ℕ) → left ≡ k ∷ ks → right ≡ [] →
    behind_all items (joined_from last left right) ≡ whole → whole ≡ Err last
kernel_goes_on items left right ks last k whole first second so_far =
    sym so_far
    ∙ ap (λ (xs : List Item). behind_all items (joined_from last xs right)) first
    ∙ ap (λ (ys : List Item). behind_all items (joined_from last (k ∷ ks) ys)) second
    ∙ behind_refusal items last

pub user_goes_on : (items left right us : List Item) (last : ℕ) (u : Item) (whole : Result (List Item) ℕ) → left ≡ [] → right ≡ u ∷ us →
    behind_all items (joined_from last left right) ≡ whole → whole ≡ Err u.place.line
user_goes_on items left right us last u whole first second so_far =
    sym so_far
    ∙ ap (λ (xs : List Item). behind_all items (joined_from last xs right)) first
    ∙ ap (λ (ys : List Item). behind_all items (joined_from last [] ys)) second
    ∙ behind_refusal items u.place.line

pub both_end : (items left right : List Item) (last : ℕ) (whole : Result (List Item) ℕ) → left ≡ [] → right ≡ [] →
    behind_all items (joined_from last left right) ≡ whole → whole ≡ Ok items
both_end items left right last whole first second so_far =
    sym so_far
    ∙ ap (λ (xs : List Item). behind_all items (joined_from last xs right)) first
    ∙ ap (λ (ys : List Item). behind_all items (joined_from last [] ys)) second
    ∙ behind_end items
