-- Functions have different names: a declaration of one that is there already adds none.
use Rattle.std.proofs.Common.{◌≡◌, ℕ, zero, suc, ◌<◌, ◌+◌, Bool, true, false, not, cond, nat_lt, List, [], ◌∷◌, ◌++◌, length, map, Option, Some, None, slice_get, slice_set, get_or, IsTrue, refl, sym, ap, ◌∙◌, subst, arith, option_map}
use Rattle.std.specs.List.{prefix_len}
use Rattle.std.specs.Str.{bytes_eq}
use Rattle.std.proofs.lemmas.Option.{slice_get-map, slice_get-get_or}
use Rattle.std.proofs.lemmas.List.Quantifiers.{position-Some}
use Rattle.std.proofs.lemmas.Slice.Eq.{bytes_eq-Decides}
use Rattle.mdr_core.specs.declared.program.Func.{Func}
use Rattle.mdr_check.specs.declared.file.Piece.{Piece}
use Rattle.mdr_check.specs.declared.file.Piece.TheVariants as piece
use Rattle.mdr_program.specs.declared.parts.Parts.{Parts}
use Rattle.mdr_program.specs.Parts.{remote, whole, number_among, declared, defined, behind_piece, parts_behind, parts_of, no_parts}
use Rattle.mdr_core.specs.declared.place.Place.{Place}
use Rattle.mdr_syntax.specs.declared.tree.Item.{Item}
use Rattle.mdr_syntax.specs.declared.tree.ItemWhat.{ItemWhat}
use Rattle.mdr_syntax.specs.declared.tree.ItemWhat.TheVariants as item
use Rattle.mdr_faults.specs.Enums.{enumerators}
use Rattle.mdr_faults.specs.Faults.{Right}
use Rattle.mdr_headings.specs.Functions.{function_declared}
use Rattle.mdr_headings.specs.Source.{before_first}
use Rattle.mdr_check.specs.declared.file.Known.{Known}
use Rattle.mdr_check.specs.Files.{BodyRule, item_piece, behind_item, pieces_behind, global_of, prototype_of, function_of, body_scope, first_known}
use Rattle.mdr_check.specs.Globals.{global}
use Rattle.mdr_check.specs.Uses.{UseRule}
use Rattle.mdr_check.specs.Whole.{file_pieces}
use Rattle.mdr_type_table.specs.FileNames.{FunctionsAreNamed, HaveNames, func_name}
use Rattle.mdr_type_table.proofs.RightParts.{after_right, both_right, demand_right, same_right}
use Rattle.mdr_type_table.proofs.StructNames.{by_last, struct_next, pieces_right}

abbrev names : List Func → List (List ℕ)
names fs = map (λ (f : Func). f.name) fs

-- no two the same
record Differ (ns : List (List ℕ)) : Type 0 where
  once : (i j : ℕ) (name : List ℕ) → slice_get ns i ≡ Some name → slice_get ns j ≡ Some name → i ≡ j

-- ---- a name that isn't there yet

place_low_by : (f : Func) (fs : List Func) (name : List ℕ) (i : ℕ) (t : Bool) → bytes_eq f.name name ≡ t → slice_get (names (f ∷ fs)) i ≡ Some name
    → ((k : ℕ) → slice_get (names fs) k ≡ Some name → prefix_len (λ (g : Func). not (bytes_eq g.name name)) fs < length fs)
    → cond (not t) (1 + prefix_len (λ (g : Func). not (bytes_eq g.name name)) fs) 0 < length (f ∷ fs)
place_low_by f fs name i true q e rest = omega arith
place_low_by f fs name zero false q e rest =
    let same : f.name ≡ name = cc in
    let is : bytes_eq f.name name ≡ true = (bytes_eq-Decides f.name name).1 same in
    let no : true ≡ false = sym is ∙ q in
    absurd cc
place_low_by f fs name (suc i) false q e rest = let lt = rest i e in omega (arith, lt)

place_low : (fs : List Func) (name : List ℕ) (i : ℕ) → slice_get (names fs) i ≡ Some name → prefix_len (λ (g : Func). not (bytes_eq g.name name)) fs < length fs
place_low [] name i e = absurd cc
place_low (f ∷ fs) name i e = place_low_by f fs name i (bytes_eq f.name name) refl e (place_low fs name)

found_by : (n m : ℕ) (b : Bool) → nat_lt n m ≡ b → n < m → cond b (Some n) None ≡ None → ⊥
found_by n m true e lt q = absurd cc
found_by n m false e lt q = grind (arith, e, lt)

not_there : (fs : List Func) (name : List ℕ) → number_among fs name ≡ None → (i : ℕ) → slice_get (names fs) i ≡ Some name → ⊥
not_there fs name e i at =
    let n : ℕ = prefix_len (λ (g : Func). not (bytes_eq g.name name)) fs in
    found_by n (length fs) (nat_lt n (length fs)) refl (place_low fs name i at) e

-- the last, or one before
last_by : (ns : List (List ℕ)) (name : List ℕ) (i : ℕ) (x : List ℕ) → slice_get (ns ++ name ∷ []) i ≡ Some x → (P : Type 0) → (slice_get ns i ≡ Some x → P) → (i ≡ length ns → name ≡ x → P) → P
last_by [] name zero x e P front last = last refl cc
last_by [] name (suc i) x e P front last = absurd cc
last_by (n ∷ ns) name zero x e P front last = front e
last_by (n ∷ ns) name (suc i) x e P front last = last_by ns name i x e P front (λ q. last (ap suc q))

new_differs : (ns : List (List ℕ)) (name : List ℕ) → Differ ns → ((i : ℕ) → slice_get ns i ≡ Some name → ⊥) → Differ (ns ++ name ∷ [])
new_differs ns name h new = record {
  once = λ i j x e f.
      last_by ns name i x e (i ≡ j)
      (λ a. last_by ns name j x f (i ≡ j) (λ b. h.once i j x a b) (λ l same. absurd (new i (a ∙ ap Some (sym same)))))
      (λ k is. last_by ns name j x f (i ≡ j) (λ b. absurd (new j (b ∙ ap Some (sym is)))) (λ l same. k ∙ sym l));
}

-- ---- a declaration

names_more : (fs : List Func) (f : Func) → names (fs ++ f ∷ []) ≡ names fs ++ f.name ∷ []
names_more [] f = refl
names_more (g ∷ gs) f = ap (λ (ns : List (List ℕ)). g.name ∷ ns) (names_more gs f)

set_names : (fs : List Func) (i : ℕ) (f old : Func) → slice_get fs i ≡ Some old → old.name ≡ f.name → names (slice_set fs i f) ≡ names fs
set_names [] i f old e same = absurd cc
set_names (g ∷ gs) zero f old e same =
    let is : g ≡ old = cc in
    ap (λ (n : List ℕ). n ∷ names gs) (sym same ∙ sym (ap (λ (x : Func). x.name) is))
set_names (g ∷ gs) (suc i) f old e same = ap (λ (ns : List (List ℕ)). g.name ∷ ns) (set_names gs i f old e same)

added : (fs : List Func) (f : Func) → Differ (names fs) → number_among fs f.name ≡ None → Differ (names (fs ++ f ∷ []))
added fs f h e = subst Differ (sym (names_more fs f)) (new_differs (names fs) f.name h (not_there fs f.name e))

declared_differ : (fs : List Func) (f : Func) (o : Option ℕ) → number_among fs f.name ≡ o → Differ (names fs) → Differ (names (declared fs f o))
declared_differ fs f None e h = added fs f h e
declared_differ fs f (Some i) e h = h

defined_differ : (fs : List Func) (f : Func) (o : Option ℕ) → number_among fs f.name ≡ o → Differ (names fs) → Differ (names (defined fs f o))
defined_differ fs f None e h = added fs f h e
defined_differ fs f (Some i) e h =
    let at = position-Some (λ (g : Func). bytes_eq g.name f.name) fs i f e in
    let same : (get_or fs i f).name ≡ f.name = (bytes_eq-Decides (get_or fs i f).name f.name).0 at.1 in
    subst Differ (sym (set_names fs i f (get_or fs i f) (slice_get-get_or fs i f at.0) same)) h

piece_differ : (ps : Parts) (x : Piece) → Differ (names ps.funcs) → Differ (names (behind_piece ps x).funcs)
piece_differ ps piece.Nothing h = h
piece_differ ps (piece.Struct d) h = h
piece_differ ps (piece.Global v) h = h
piece_differ ps (piece.Prototype name head) h = declared_differ ps.funcs (remote name head) (number_among ps.funcs name) refl h
piece_differ ps (piece.Function name is_critical head body) h = defined_differ ps.funcs (whole name is_critical head body) (number_among ps.funcs name) refl h

all_differ : (ps : Parts) (xs : List Piece) → Differ (names ps.funcs) → Differ (names (parts_behind ps xs).funcs)
unfolding parts_behind
all_differ ps [] h = h
all_differ ps (x ∷ xs) h = all_differ (behind_piece ps x) xs (piece_differ ps x h)

name_at : (fs : List Func) (i : ℕ) (f : Func) → slice_get fs i ≡ Some f → slice_get (names fs) i ≡ Some f.name
name_at fs i f e = slice_get-map (λ (g : Func). g.name) fs i ∙ ap (option_map (λ (g : Func). g.name)) e

pub functions_are_named : FunctionsAreNamed
functions_are_named xs f g one other e d same =
    let all = all_differ no_parts xs (record { once = λ i j name p q. absurd cc }) in
    all.once f g other.name (name_at (parts_of xs).funcs f one e ∙ ap Some same) (name_at (parts_of xs).funcs g other d)

-- ---- names that pass a test

abbrev piece_name : Piece → Option (List ℕ)
piece_name piece.Nothing = None
piece_name (piece.Struct d) = None
piece_name (piece.Global v) = None
piece_name (piece.Prototype name head) = Some name
piece_name (piece.Function name is_critical head body) = Some name

same_piece : (x y : Piece) → Right y ≡ Right x → piece_name x ≡ piece_name y
same_piece x y e = ap piece_name (sym (same_right y x e))

-- a piece has the name of its item
item_name : (body : BodyRule) (items before : List Item) (known : Known) (p : Place) (w : ItemWhat) (x : Piece) → item_piece body before known p w ≡ Right x → piece_name x ≡ func_name w
item_name body items before known p (item.Define name is_negative n k) x e = same_piece x piece.Nothing (demand_right p _ _ (Right piece.Nothing) x e).right
item_name body items before known p (item.Struct at name ds) x e = ap piece_name (struct_next known.scope at name ds x e).is
item_name body items before known p (item.Enum es) x e = same_piece x piece.Nothing (after_right (enumerators known.scope before_first es) (λ cs. Right piece.Nothing) x e).made
item_name body items before known p (item.Global d init) x e = let a = after_right (global known.scope known.globals d init) global_of x e in same_piece x (piece.Global a.value) a.made
item_name body items before known p (item.Proto h is_remote) x e = let a = after_right (function_declared known.scope known.functions before h false) (prototype_of h.name) x e in same_piece x (piece.Prototype h.name a.value) a.made
item_name body items before known p (item.Func h is_critical nodes) x e =
    let a = both_right (function_declared known.scope known.functions before h true) (body (body_scope known h) h nodes) (function_of h.name is_critical) x e in
    same_piece x (piece.Function h.name is_critical a.left a.right) a.made

module _ (test : List ℕ → Bool) where
  pub record Pass (fs : List Func) : Type 0 where
    pub each : (f : ℕ) (func : Func) → slice_get fs f ≡ Some func → IsTrue (test func.name)

  one_more : (fs : List Func) (f : Func) → Pass fs → IsTrue (test f.name) → Pass (fs ++ f ∷ [])
  one_more fs f h n = record { each = by_last (λ i (g : Func). IsTrue (test g.name)) fs f h.each n }

  set_passes : (fs : List Func) (i : ℕ) (f : Func) (j : ℕ) (g : Func) → ((k : ℕ) (x : Func) → slice_get fs k ≡ Some x → IsTrue (test x.name)) → IsTrue (test f.name) → slice_get (slice_set fs i f) j ≡ Some g → IsTrue (test g.name)
  set_passes [] i f j g h n e = absurd cc
  set_passes (x ∷ xs) zero f zero g h n e = let same : f ≡ g = cc in subst (λ (y : Func). IsTrue (test y.name)) same n
  set_passes (x ∷ xs) zero f (suc j) g h n e = h (suc j) g e
  set_passes (x ∷ xs) (suc i) f zero g h n e = h 0 g e
  set_passes (x ∷ xs) (suc i) f (suc j) g h n e = set_passes xs i f j g (λ k y d. h (suc k) y d) n e

  declared_pass : (fs : List Func) (f : Func) (o : Option ℕ) → Pass fs → IsTrue (test f.name) → Pass (declared fs f o)
  declared_pass fs f None h n = one_more fs f h n
  declared_pass fs f (Some i) h n = h

  defined_pass : (fs : List Func) (f : Func) (o : Option ℕ) → Pass fs → IsTrue (test f.name) → Pass (defined fs f o)
  defined_pass fs f None h n = one_more fs f h n
  defined_pass fs f (Some i) h n = record { each = λ j g e. set_passes fs i f j g h.each n e }

  piece_passes : (ps : Parts) (x : Piece) → Pass ps.funcs → ((name : List ℕ) → piece_name x ≡ Some name → IsTrue (test name)) → Pass (behind_piece ps x).funcs
  piece_passes ps piece.Nothing h n = h
  piece_passes ps (piece.Struct d) h n = h
  piece_passes ps (piece.Global v) h n = h
  piece_passes ps (piece.Prototype name head) h n = declared_pass ps.funcs (remote name head) (number_among ps.funcs name) h (n name refl)
  piece_passes ps (piece.Function name is_critical head body) h n = defined_pass ps.funcs (whole name is_critical head body) (number_among ps.funcs name) h (n name refl)

  all_pass : (body : BodyRule) (items : List Item) (known : Known) (before is : List Item) (ps : Parts) (xs : List Piece) → Pass ps.funcs → HaveNames func_name test is → pieces_behind body known before is ≡ Right xs → Pass (parts_behind ps xs).funcs
  unfolding pieces_behind parts_behind
  all_pass body items known before [] ps xs h w e = subst (λ (ys : List Piece). Pass (parts_behind ps ys).funcs) (same_right [] xs e) h
  all_pass body items known before (i ∷ is) ps xs h w e =
      let b = both_right (item_piece body before known i.place i.what) (pieces_behind body (behind_item known i.what) (before ++ i ∷ []) is) _ xs e in
      let now = piece_passes ps b.left h (λ name q. w.passes 0 i name refl (sym (item_name body items before known i.place i.what b.left b.first) ∙ q)) in
      subst (λ (ys : List Piece). Pass (parts_behind ps ys).funcs) (same_right (b.left ∷ b.right) xs b.made)
      (all_pass body items (behind_item known i.what) (before ++ i ∷ []) is (behind_piece ps b.left) b.right now (record { passes = λ n x name f q. w.passes (suc n) x name f q }) b.second)

  pub parts_pass : (body : BodyRule) (uses : UseRule) (items : List Item) (xs : List Piece) → HaveNames func_name test items → file_pieces body uses items ≡ Right xs → Pass (parts_of xs).funcs
  parts_pass body uses items xs w e = all_pass body items (first_known items) [] items no_parts xs (record { each = λ f g q. absurd cc }) w (pieces_right body uses items xs e)
