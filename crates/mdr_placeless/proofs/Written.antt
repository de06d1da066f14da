-- Expressions that differ in places alone.
use Rattle.mdr_core.specs.declared.kind.Kind.{Kind}
use Rattle.mdr_core.specs.declared.place.Place.{Place}
use Rattle.mdr_operand.specs.Written.{Written, Writtens, form_written, what_written, written_list, written_of, written_what}
use Rattle.mdr_placeless.proofs.Constants.{AreBases, bases}
use Rattle.mdr_roundtrip.specs.Unplaced.{form_unplaced, nowhere, unplaced_base, unplaced_form, unplaced_what, what_unplaced}
use Rattle.mdr_syntax.specs.declared.tree.Base.{Base}
use Rattle.mdr_syntax.specs.declared.tree.Form.{Form}
use Rattle.std.proofs.Common.{Bool, List, [], ap, map, subst, sym, ℕ, ◌∙◌, ◌∷◌, ◌≡◌}
use Rattle.mdr_syntax.specs.declared.tree.FormWhat.TheFolds.{ind-Form, map-FormWhat, fold-roll-FormWhat, fold_out-Form}
use Rattle.mdr_syntax.specs.declared.tree.FormWhat.TheOpen.{FormWhat-F}
use Rattle.mdr_syntax.specs.declared.tree.FormWhat.TheVariants.{rolls-Number, rolls-Null, rolls-Name, rolls-Text, rolls-Base, rolls-Prefix, rolls-Post, rolls-Cast, rolls-Binary, rolls-Choice, rolls-Subscript, rolls-Member, rolls-Call}
use Rattle.mdr_syntax.specs.declared.tree.FormWhat.TheViews.{roll-FormWhat}
use Rattle.mdr_syntax.specs.declared.tree.FormWhat.{FormWhat}

mutual
  pub data AreWritten : Written → Written → Type 0 where
    Numbers : (p q : Place) (n : ℕ) (k : Kind) → AreWritten (Written.Number p n k) (Written.Number q n k)
    Nulls : (p q : Place) → AreWritten (Written.Null p) (Written.Null q)
    Names : (p q : Place) (name : List ℕ) → AreWritten (Written.Name p name) (Written.Name q name)
    Prefixes : (p q : Place) (op : List ℕ) {v w : Written} → AreWritten v w → AreWritten (Written.Prefix p op v) (Written.Prefix q op w)
    Posts : (p q : Place) (op : List ℕ) {v w : Written} → AreWritten v w → AreWritten (Written.Post p op v) (Written.Post q op w)
    Casts : (p q : Place) (n : ℕ) {b c : Base} {v w : Written} → AreBases b c → AreWritten v w → AreWritten (Written.Cast p b n v) (Written.Cast q c n w)
    Binaries : (p q : Place) (op : List ℕ) {v w v' w' : Written} → AreWritten v v' → AreWritten w w' → AreWritten (Written.Binary p op v w) (Written.Binary q op v' w')
    Choices : (p q : Place) {u v w u' v' w' : Written} → AreWritten u u' → AreWritten v v' → AreWritten w w' → AreWritten (Written.Choice p u v w) (Written.Choice q u' v' w')
    Subscripts : (p q : Place) {v w v' w' : Written} → AreWritten v v' → AreWritten w w' → AreWritten (Written.Subscript p v w) (Written.Subscript q v' w')
    Members : (p q at there : Place) (is_arrow : Bool) (name : List ℕ) {v w : Written} → AreWritten v w → AreWritten (Written.Member p v is_arrow at name) (Written.Member q w is_arrow there name)
    Calls : (p q : Place) {v w : Written} {vs ws : Writtens} → AreWritten v w → AreWrittens vs ws → AreWritten (Written.Call p v vs) (Written.Call q w ws)
    Texts : (p q : Place) (bytes : List ℕ) → AreWritten (Written.Text p bytes) (Written.Text q bytes)
    Types : (p q : Place) (n : ℕ) {b c : Base} → AreBases b c → AreWritten (Written.Names p b n) (Written.Names q c n)

  pub data AreWrittens : Writtens → Writtens → Type 0 where
    Ends : AreWrittens Writtens.End Writtens.End
    Thens : {v w : Written} {vs ws : Writtens} → AreWritten v w → AreWrittens vs ws → AreWrittens (Writtens.Then v vs) (Writtens.Then w ws)

-- ---- each form and itself without places

rolled : (l : FormWhat-F FormWhat Form) (w : FormWhat) → roll-FormWhat l ≡ w → (p : Place) → written_what w p ≡ what_written (map-FormWhat FormWhat Form (Place → Written) Written written_what written_of l) p
rolled l w e p = ap (λ (x : FormWhat). written_what x p) (sym e) ∙ ap (λ (f : Place → Written). f p) (fold-roll-FormWhat (Place → Written) Written what_written form_written l)

record GoodWhat (w : FormWhat) : Type 0 where
  by : (p : Place) → AreWritten (written_what w p) (written_what (unplaced_what w) nowhere)

record GoodForm (f : Form) : Type 0 where
  by : AreWritten (written_of f) (written_of (unplaced_form f))

all_good : {Y : Type 0} (of : Y → Form) → ((y : Y) → GoodForm (of y)) → (ys : List Y) → AreWrittens (written_list (map written_of (map of ys))) (written_list (map written_of (map unplaced_form (map of ys))))
all_good of good [] = Ends
all_good of good (y ∷ ys) = Thens (good y).by (all_good of good ys)

abbrev Layer : FormWhat-F FormWhat Form → Type 0
Layer l = (p : Place) → AreWritten (what_written (map-FormWhat FormWhat Form (Place → Written) Written written_what written_of l) p) (written_what (what_unplaced (map-FormWhat FormWhat Form FormWhat Form unplaced_what unplaced_form l)) nowhere)

moved : (v w x : Written) → w ≡ x → AreWritten v x → AreWritten v w
moved v w x e h = subst (λ y. AreWritten v y) (sym e) h

layer_is : {X Y : Type 0} (what : X → FormWhat) (of : Y → Form) → ((y : Y) → GoodForm (of y)) → (l : FormWhat-F X Y) → Layer (map-FormWhat X Y FormWhat Form what of l)
layer_is what of good (FormWhat-F.Number n kind) p = moved _ _ _ (rolled (FormWhat-F.Number n kind) _ (rolls-Number n kind) nowhere) (Numbers p nowhere n kind)
layer_is what of good FormWhat-F.Null p = moved _ _ _ (rolled FormWhat-F.Null _ rolls-Null nowhere) (Nulls p nowhere)
layer_is what of good (FormWhat-F.Name name) p = moved _ _ _ (rolled (FormWhat-F.Name name) _ (rolls-Name name) nowhere) (Names p nowhere name)
layer_is what of good (FormWhat-F.Prefix op a) p = moved _ _ _ (rolled (FormWhat-F.Prefix op (unplaced_form (of a))) _ (rolls-Prefix op (unplaced_form (of a))) nowhere) (Prefixes p nowhere op (good a).by)
layer_is what of good (FormWhat-F.Post op a) p = moved _ _ _ (rolled (FormWhat-F.Post op (unplaced_form (of a))) _ (rolls-Post op (unplaced_form (of a))) nowhere) (Posts p nowhere op (good a).by)
layer_is what of good (FormWhat-F.Cast b n a) p = moved _ _ _ (rolled (FormWhat-F.Cast (unplaced_base b) n (unplaced_form (of a))) _ (rolls-Cast (unplaced_base b) n (unplaced_form (of a))) nowhere) (Casts p nowhere n (bases b) (good a).by)
layer_is what of good (FormWhat-F.Binary op a b) p = moved _ _ _ (rolled (FormWhat-F.Binary op (unplaced_form (of a)) (unplaced_form (of b))) _ (rolls-Binary op (unplaced_form (of a)) (unplaced_form (of b))) nowhere) (Binaries p nowhere op (good a).by (good b).by)
layer_is what of good (FormWhat-F.Choice c a b) p = moved _ _ _ (rolled (FormWhat-F.Choice (unplaced_form (of c)) (unplaced_form (of a)) (unplaced_form (of b))) _ (rolls-Choice (unplaced_form (of c)) (unplaced_form (of a)) (unplaced_form (of b))) nowhere) (Choices p nowhere (good c).by (good a).by (good b).by)
layer_is what of good (FormWhat-F.Subscript a b) p = moved _ _ _ (rolled (FormWhat-F.Subscript (unplaced_form (of a)) (unplaced_form (of b))) _ (rolls-Subscript (unplaced_form (of a)) (unplaced_form (of b))) nowhere) (Subscripts p nowhere (good a).by (good b).by)
layer_is what of good (FormWhat-F.Member a is_arrow place name) p = moved _ _ _ (rolled (FormWhat-F.Member (unplaced_form (of a)) is_arrow nowhere name) _ (rolls-Member (unplaced_form (of a)) is_arrow nowhere name) nowhere) (Members p nowhere place nowhere is_arrow name (good a).by)
layer_is what of good (FormWhat-F.Call f args) p = moved _ _ _ (rolled (FormWhat-F.Call (unplaced_form (of f)) (map unplaced_form (map of args))) _ (rolls-Call (unplaced_form (of f)) (map unplaced_form (map of args))) nowhere) (Calls p nowhere (good f).by (all_good of good args))
layer_is what of good (FormWhat-F.Text bytes) p = moved _ _ _ (rolled (FormWhat-F.Text bytes) _ (rolls-Text bytes) nowhere) (Texts p nowhere bytes)
layer_is what of good (FormWhat-F.Base b n) p = moved _ _ _ (rolled (FormWhat-F.Base (unplaced_base b) n) _ (rolls-Base (unplaced_base b) n) nowhere) (Types p nowhere n (bases b))

moved_both : (v w x y : Written) → v ≡ x → w ≡ y → AreWritten x y → AreWritten v w
moved_both v w x y e f h = subst (λ z. AreWritten z w) (sym e) (subst (λ z. AreWritten x z) (sym f) h)

good_forms : (f : Form) → GoodForm f
good_forms = ind-Form GoodWhat GoodForm
    (λ x y is. record {
      by = λ p. moved_both _ _ _ _
          (ap (λ (f : Place → Written). f p) (fold-roll-FormWhat (Place → Written) Written what_written form_written x))
          (ap (λ (w : FormWhat). written_what w nowhere) (fold-roll-FormWhat FormWhat Form what_unplaced form_unplaced x))
          (subst Layer is (layer_is (λ e. e.0) (λ e. e.0) (λ e. e.1) y) p);
    })
    (λ x y is. record {
      by = moved_both _ _ _ _
          (fold_out-Form (Place → Written) Written what_written form_written (record { place = x.place; what = x.what }))
          (ap written_of (fold_out-Form FormWhat Form what_unplaced form_unplaced (record { place = x.place; what = x.what })) ∙ fold_out-Form (Place → Written) Written what_written form_written (record { place = nowhere; what = unplaced_what x.what }))
          ((subst GoodWhat (ap (λ z. z.what) is) (y.what.1)).by x.place);
    })

pub writtens : (f : Form) → AreWritten (written_of f) (written_of (unplaced_form f))
writtens f = (good_forms f).by
