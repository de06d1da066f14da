-- A body among the items is that of its function in the program.
use Rattle.std.proofs.Common.{◌≡◌, ◌⊎◌, inl, inr, ℕ, suc, Bool, true, false, ◌||◌, cond, List, [], ◌∷◌, ◌++◌, Some, slice_get, is_some, refl, sym, ap, ◌∙◌, subst}
use Rattle.std.proofs.lemmas.Slice.Eq.{bytes_eq-Decides}
use Rattle.std.specs.Str.{bytes_eq}
use Rattle.mdr_core.specs.declared.program.Func.{Func}
use Rattle.mdr_syntax.specs.declared.tree.Item.{Item}
use Rattle.mdr_syntax.specs.declared.tree.ItemWhat.{ItemWhat}
use Rattle.mdr_syntax.specs.declared.tree.ItemWhat.TheVariants as item
use Rattle.mdr_faults.specs.Faults.{Checked, Right, after}
use Rattle.mdr_headings.specs.Functions.{function_declared, has_body, is_body_by}
use Rattle.mdr_check.specs.declared.file.Known.{Known}
use Rattle.mdr_check.specs.declared.file.Piece.{Piece}
use Rattle.mdr_check.specs.declared.file.Piece.TheVariants as piece
use Rattle.mdr_check.specs.Files.{BodyRule, body_scope, behind_item, first_known, function_of, item_piece, pieces_behind}
use Rattle.mdr_program.specs.declared.parts.Parts.{Parts}
use Rattle.mdr_program.specs.Parts.{behind_piece, no_parts, parts_behind, parts_of, remote, whole}
use Rattle.mdr_program.specs.Programs.{made, program_of, program_right, typed}
use Rattle.mdr_half_program.specs.Bodies.{HaveBodies}
use Rattle.mdr_half_program.proofs.Putting.{declared_keep, defined_put, keep_named, put_named}
use Rattle.mdr_type_table.proofs.WholeFiles.{functions_once}
use Rattle.mdr_sound.proofs.Rights.{both_right, same_right}
use Rattle.mdr_sound.proofs.Extending.{pieces_parted}
use Rattle.mdr_sound.proofs.Filed.{pieces_right}
use Rattle.mdr_half_program.specs.Defined.{DefinedFunctionsHaveBodies}

-- one of these has the name and a body
abbrev IsBodied : List ℕ → List Func → Type 0
IsBodied name [] = ⊥
IsBodied name (g ∷ gs) = ((g.name ≡ name) × (is_some g.body ≡ true)) ⊎ IsBodied name gs

put_has : (fs : List Func) (f : Func) → is_some f.body ≡ true → IsBodied f.name (put_named fs f)
put_has [] f b = inl (refl, b)
put_has (g ∷ gs) f b = by (bytes_eq g.name f.name) (put_has gs f b)
  where
    by : (t : Bool) → IsBodied f.name (put_named gs f) → IsBodied f.name (cond t (f ∷ gs) (g ∷ put_named gs f))
    by true rest = inl (refl, b)
    by false rest = inr rest

put_keeps : (fs : List Func) (f : Func) (name : List ℕ) → is_some f.body ≡ true → IsBodied name fs → IsBodied name (put_named fs f)
put_keeps [] f name b h = absurd h
put_keeps (g ∷ gs) f name b h = by (bytes_eq g.name f.name) refl h (put_keeps gs f name b)
  where
    by : (t : Bool) → bytes_eq g.name f.name ≡ t → IsBodied name (g ∷ gs) → (IsBodied name gs → IsBodied name (put_named gs f)) → IsBodied name (cond t (f ∷ gs) (g ∷ put_named gs f))
    by true e (inl q) rest = inl (sym ((bytes_eq-Decides g.name f.name).0 e) ∙ q.0, b)
    by true e (inr q) rest = inr q
    by false e (inl q) rest = inl q
    by false e (inr q) rest = inr (rest q)

keep_keeps : (fs : List Func) (f : Func) (name : List ℕ) → IsBodied name fs → IsBodied name (keep_named fs f)
keep_keeps [] f name h = absurd h
keep_keeps (g ∷ gs) f name h = by (bytes_eq g.name f.name) h (keep_keeps gs f name)
  where
    by : (t : Bool) → IsBodied name (g ∷ gs) → (IsBodied name gs → IsBodied name (keep_named gs f)) → IsBodied name (cond t (g ∷ gs) (g ∷ keep_named gs f))
    by true q rest = q
    by false (inl q) rest = inl q
    by false (inr q) rest = inr (rest q)

-- ---- pieces

one_keeps : (ps : Parts) (x : Piece) (name : List ℕ) → IsBodied name ps.funcs → IsBodied name (behind_piece ps x).funcs
one_keeps ps piece.Nothing name h = h
one_keeps ps (piece.Struct d) name h = h
one_keeps ps (piece.Global v) name h = h
one_keeps ps (piece.Prototype n x) name h = subst (IsBodied name) (sym (declared_keep ps.funcs (remote n x))) (keep_keeps ps.funcs (remote n x) name h)
one_keeps ps (piece.Function n c x b) name h = subst (IsBodied name) (sym (defined_put ps.funcs (whole n c x b))) (put_keeps ps.funcs (whole n c x b) name refl h)

all_keep : (xs : List Piece) (ps : Parts) (name : List ℕ) → IsBodied name ps.funcs → IsBodied name (parts_behind ps xs).funcs
unfolding parts_behind
all_keep [] ps name h = h
all_keep (x ∷ xs) ps name h = all_keep xs (behind_piece ps x) name (one_keeps ps x name h)

-- what a body comes to
body_puts : (body : BodyRule) (items before : List Item) (known : Known) (i : Item) (x : Piece) (ps : Parts) (name : List ℕ) → item_piece body before known i.place i.what ≡ Right x → is_body_by name i.what ≡ true → IsBodied name (behind_piece ps x).funcs
body_puts body items before known i x ps name = by i.what
  where
    by : (w : ItemWhat) → item_piece body before known i.place w ≡ Right x → is_body_by name w ≡ true → IsBodied name (behind_piece ps x).funcs
    by (item.Define n is_negative v k) e q = absurd cc
    by (item.Struct p n ds) e q = absurd cc
    by (item.Enum es) e q = absurd cc
    by (item.Global d init) e q = absurd cc
    by (item.Proto h is_remote) e q = absurd cc
    by (item.Func h is_critical nodes) e q =
        let b = both_right (function_declared known.scope known.functions before h true) (body (body_scope known h) h nodes) (function_of h.name is_critical) x e in
        let f : Func = whole h.name is_critical b.left b.right in
        subst (λ (y : Piece). IsBodied name (behind_piece ps y).funcs) (same_right (piece.Function h.name is_critical b.left b.right) x b.made)
        (subst (IsBodied name) (sym (defined_put ps.funcs f)) (subst (λ (n : List ℕ). IsBodied n (put_named ps.funcs f)) ((bytes_eq-Decides h.name name).0 q) (put_has ps.funcs f refl)))

either : (a b : Bool) → (a || b) ≡ true → (a ≡ true) ⊎ (b ≡ true)
either true b e = inl refl
either false b e = inr e

module _ (body : BodyRule) (items : List Item) (name : List ℕ) where
  first_of : (ps : Parts) (x : Piece) (ys : List Piece) → IsBodied name (parts_behind (behind_piece ps x) ys).funcs → IsBodied name (parts_behind ps (x ∷ ys)).funcs
  unfolding parts_behind
  first_of ps x ys h = h

  bodied : (is : List Item) (before : List Item) (known : Known) (xs : List Piece) (ps : Parts) → pieces_behind body known before is ≡ Right xs → has_body is name ≡ true → IsBodied name (parts_behind ps xs).funcs
  bodied [] before known xs ps e h = absurd cc
  bodied (i ∷ is) before known xs ps e h =
      let p = pieces_parted body items before known i is xs e in
      subst (λ (ys : List Piece). IsBodied name (parts_behind ps ys).funcs) (sym p.all) (by p.first p.rest p.one p.others (either (is_body_by name i.what) (has_body is name) h) (bodied is (before ++ i ∷ []) (behind_item known i.what) p.rest (behind_piece ps p.first) p.others))
    where
      by : (x : Piece) (ys : List Piece) → item_piece body before known i.place i.what ≡ Right x → pieces_behind body (behind_item known i.what) (before ++ i ∷ []) is ≡ Right ys → (is_body_by name i.what ≡ true) ⊎ (has_body is name ≡ true) → (has_body is name ≡ true → IsBodied name (parts_behind (behind_piece ps x) ys).funcs) → IsBodied name (parts_behind ps (x ∷ ys)).funcs
      by x ys one others (inl q) rest = first_of ps x ys (all_keep ys (behind_piece ps x) name (body_puts body items before known i x ps name one q))
      by x ys one others (inr q) rest = first_of ps x ys (rest q)

-- ---- functions by their numbers

record At (name : List ℕ) (fs : List Func) : Type 0 where
  number : ℕ
  func : Func
  there : slice_get fs number ≡ Some func
  named : func.name ≡ name
  bodied : is_some func.body ≡ true

at_of : (name : List ℕ) (fs : List Func) → IsBodied name fs → At name fs
at_of name [] h = absurd h
at_of name (g ∷ gs) (inl q) = record { number = 0; func = g; there = refl; named = q.0; bodied = q.1 }
at_of name (g ∷ gs) (inr h) = let a = at_of name gs h in record { number = suc a.number; func = a.func; there = a.there; named = a.named; bodied = a.bodied }

have_all : (fs : List Func) → ((f : ℕ) (func : Func) → slice_get fs f ≡ Some func → is_some func.body ≡ true) → HaveBodies fs
have_all [] h = tt
have_all (g ∷ gs) h = (h 0 g refl, have_all gs (λ f func e. h (suc f) func e))

same_func : (fs : List Func) (f g : ℕ) (one other : Func) → slice_get fs f ≡ Some one → slice_get fs g ≡ Some other → f ≡ g → other ≡ one
same_func fs f g one other e q same =
    let both : Some other ≡ Some one = sym q ∙ sym (ap (λ (n : ℕ). slice_get fs n) same) ∙ e in
    cc

funcs_of : (xs : List Piece) → (program_of xs).funcs ≡ (parts_of xs).funcs
unfolding made
funcs_of xs = refl

pub defined_have : DefinedFunctionsHaveBodies
defined_have body uses items xs e all =
    let right : typed body uses items ≡ Right (program_of xs) = ap (λ (c : Checked (List Piece)). after c program_right) e in
    have_all (program_of xs).funcs (λ f func there.
    let named = subst (IsBodied func.name) (sym (funcs_of xs)) (bodied body items func.name items [] (first_known items) xs no_parts (pieces_right body uses items xs e) (all.defines f func there)) in
    let a = at_of func.name (program_of xs).funcs named in
    let same = (functions_once body uses items (program_of xs) right).once f a.number func a.func there a.there (sym a.named) in
    subst (λ (g : Func). is_some g.body ≡ true) (same_func (program_of xs).funcs f a.number func a.func there a.there same) a.bodied)
