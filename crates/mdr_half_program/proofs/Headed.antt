-- Each function of a file has the heading of its first declaration.
use Rattle.std.proofs.Common.{◌≡◌, ℕ, Bool, true, false, cond, List, [], ◌∷◌, ◌++◌, Option, Some, None, Result, Ok, refl, sym, ap, ◌∙◌, subst}
use Rattle.std.specs.List.{find}
use Rattle.std.specs.Str.{bytes_eq}
use Rattle.mdr_core.specs.declared.program.Func.{Func}
use Rattle.mdr_syntax.specs.declared.tree.Head.{Head}
use Rattle.mdr_syntax.specs.declared.tree.Item.{Item}
use Rattle.mdr_syntax.specs.declared.tree.ItemWhat.{ItemWhat}
use Rattle.mdr_faults.specs.declared.fault.Fault.{Fault}
use Rattle.mdr_faults.specs.Faults.{Right, told}
use Rattle.mdr_headings.specs.declared.function.Declared.{Declared}
use Rattle.mdr_headings.specs.declared.head.Heading.{Heading}
use Rattle.mdr_headings.specs.Functions.{agrees, agrees_with, declared_unless, function_named, functions_behind, is_same_heading, is_taken, may_stand}
use Rattle.mdr_headings.specs.Heads.{heading}
use Rattle.mdr_check.specs.declared.file.Known.{Known}
use Rattle.mdr_check.specs.declared.file.Piece.{Piece}
use Rattle.mdr_check.specs.Files.{BodyRule, behind_item, first_known, known_behind}
use Rattle.mdr_check.specs.Uses.{UseRule}
use Rattle.mdr_check.specs.Whole.{file_pieces}
use Rattle.mdr_program.specs.declared.parts.Parts.{Parts}
use Rattle.mdr_program.specs.Parts.{behind_piece, parts_of, remote, whole}
use Rattle.mdr_sound.specs.Counting.{Counts}
use Rattle.mdr_sound.proofs.Along.{GoesOn, along}
use Rattle.mdr_sound.proofs.CountedItems.{Ruled, new_declared, ruled}
use Rattle.mdr_sound.proofs.Declaring.{declared_at, declared_keep, defined_put, keep_named, put_named}
use Rattle.mdr_sound.proofs.Filed.{pieces_right}
use Rattle.mdr_sound.proofs.Named.{bytes_same, found_at}
use Rattle.mdr_sound.proofs.Viewed.{Comes, OfDefine, OfEnum, OfFunction, OfGlobal, OfPrototype, OfStruct, comes_to}
use Rattle.mdr_half_program.proofs.Agreeing.{IsHeaded, earlier_headed, remote_headed, whole_headed}

-- ---- what is found in a list that grows

find_more : {A : Type 0} (test : A → Bool) (xs ys : List A) (x : A) → find test xs ≡ Some x → find test (xs ++ ys) ≡ Some x
find_more test [] ys x e = absurd cc
find_more {A = A} test (z ∷ zs) ys x e = by (test z) e (find_more test zs ys x)
  where
    by : (t : Bool) → cond t (Some z) (find test zs) ≡ Some x → (find test zs ≡ Some x → find test (zs ++ ys) ≡ Some x) → cond t (Some z) (find test (zs ++ ys)) ≡ Some x
    by true e rest = e
    by false e rest = rest e

find_last : {A : Type 0} (test : A → Bool) (xs : List A) (x : A) → test x ≡ true → find test xs ≡ None → find test (xs ++ x ∷ []) ≡ Some x
find_last test [] x passes e = ap (λ (t : Bool). cond t (Some x) None) passes
find_last {A = A} test (z ∷ zs) x passes e = by (test z) e (find_last test zs x passes)
  where
    by : (t : Bool) → cond t (Some z) (find test zs) ≡ None → (find test zs ≡ None → find test (zs ++ x ∷ []) ≡ Some x) → cond t (Some z) (find test (zs ++ x ∷ [])) ≡ Some x
    by true e rest = absurd cc
    by false e rest = rest e

-- ---- functions with the headings of their first declarations

pub record HasFirstHeading (ds : List Declared) (f : Func) : Type 0 where
  pub first : Declared
  pub found : function_named ds f.name ≡ Some first
  pub says : Heading
  pub said : first.heading ≡ Ok says
  pub headed : IsHeaded says f

abbrev pub HaveFirstHeadings : List Declared → List Func → Type 0
HaveFirstHeadings ds [] = Unit {0}
HaveFirstHeadings ds (f ∷ fs) = HasFirstHeading ds f × HaveFirstHeadings ds fs

unless_found : (t : Bool) (ds : List Declared) (h : Head) (r : Result Heading Fault) (name : List ℕ) (d : Declared) → function_named ds name ≡ Some d → function_named (declared_unless t ds h r) name ≡ Some d
unless_found true ds h r name d e = e
unless_found false ds h r name d e = find_more (λ (x : Declared). bytes_eq x.name name) ds _ d e

all_behind : (t : Bool) (ds : List Declared) (h : Head) (r : Result Heading Fault) (fs : List Func) → HaveFirstHeadings ds fs → HaveFirstHeadings (declared_unless t ds h r) fs
all_behind t ds h r [] a = tt
all_behind t ds h r (f ∷ fs) a = (
  record { first = (a.0).first; found = unless_found t ds h r f.name (a.0).first (a.0).found; says = (a.0).says; said = (a.0).said; headed = (a.0).headed },
  all_behind t ds h r fs a.1,
)

put_all : (ds : List Declared) (gs : List Func) (f : Func) → HaveFirstHeadings ds gs → HasFirstHeading ds f → HaveFirstHeadings ds (put_named gs f)
put_all ds [] f a own = (own, tt)
put_all ds (g ∷ gs) f a own = by (bytes_eq g.name f.name) (put_all ds gs f a.1 own)
  where
    by : (t : Bool) → HaveFirstHeadings ds (put_named gs f) → HaveFirstHeadings ds (cond t (f ∷ gs) (g ∷ put_named gs f))
    by true rest = (own, a.1)
    by false rest = (a.0, rest)

keep_all : (ds : List Declared) (gs : List Func) (f : Func) → HaveFirstHeadings ds gs → HasFirstHeading ds f → HaveFirstHeadings ds (keep_named gs f)
keep_all ds [] f a own = (own, tt)
keep_all ds (g ∷ gs) f a own = by (bytes_eq g.name f.name) (keep_all ds gs f a.1 own)
  where
    by : (t : Bool) → HaveFirstHeadings ds (keep_named gs f) → HaveFirstHeadings ds (cond t (g ∷ gs) (g ∷ keep_named gs f))
    by true rest = a
    by false rest = (a.0, rest)

-- ---- a declaration of a function: its first, or one that agrees with the first

-- what was found right at its declaration
declared_told : (known : Known) (ps : Parts) (name : List ℕ) (d : Declared) → Counts known ps → function_named known.functions name ≡ Some d → (hd : Heading) × (d.heading ≡ Ok hd)
declared_told known ps name d c e =
    let there = found_at (λ (x : Declared). bytes_eq x.name name) known.functions d e in
    let at = declared_at known.functions ps.funcs there.number d c.functions there.names in
    ((at.2).heading, (at.2).told)

agree_same : (d : Declared) (a b : Heading) → d.heading ≡ Ok a → agrees_with (Some d) (Ok b) ≡ true → is_same_heading a b ≡ true
agree_same d a b told e = subst (λ (r : Result Heading Fault). agrees r (Ok b) ≡ true) told e

-- a name that no function has is new
unless_new : (t again : Bool) (ds : List Declared) (h : Head) (r : Result Heading Fault) → may_stand t None again ≡ true → function_named ds h.name ≡ None → function_named (declared_unless t ds h r) h.name ≡ Some (record { name = h.name; place = h.place; heading = r })
unless_new true again ds h r may e = absurd cc
unless_new false again ds h r may e = find_last (λ (x : Declared). bytes_eq x.name h.name) ds (record { name = h.name; place = h.place; heading = r }) (bytes_same h.name) e

first_heading : (known : Known) (ps : Parts) (h : Head) (g : Heading) (f : Func) → Ruled known.scope known.functions h g → Counts known ps → f.name ≡ h.name → IsHeaded g f
    → (entry : Option Declared) → function_named known.functions h.name ≡ entry → HasFirstHeading (declared_unless (is_taken known.scope h.name) known.functions h (told (heading known.scope h))) f
first_heading known ps h g f r c named headed (Some d) e =
    let ds = declared_unless (is_taken known.scope h.name) known.functions h (told (heading known.scope h)) in
    let a = declared_told known ps h.name d c e in
    record {
      first = d;
      found = ap (function_named ds) named ∙ unless_found (is_taken known.scope h.name) known.functions h (told (heading known.scope h)) h.name d e;
      says = a.0;
      said = a.1;
      headed = earlier_headed a.0 g f (agree_same d a.0 g a.1 (subst (λ (o : Option Declared). agrees_with o (Ok g) ≡ true) e r.agree)) headed;
    }
first_heading known ps h g f r c named headed None e =
    let ds = declared_unless (is_taken known.scope h.name) known.functions h (told (heading known.scope h)) in
    record {
      first = new_declared known.scope h;
      found = ap (function_named ds) named ∙ unless_new (is_taken known.scope h.name) r.again known.functions h (told (heading known.scope h)) (subst (λ (o : Option Declared). may_stand (is_taken known.scope h.name) o r.again ≡ true) e r.may) e;
      says = g;
      said = ap told r.right;
      headed = headed;
    }

-- ---- one item

one_behind : (body : BodyRule) (items before : List Item) (known : Known) (what : ItemWhat) (x : Piece) (ps : Parts) → Comes body items before known what x → Counts known ps → HaveFirstHeadings known.functions ps.funcs → HaveFirstHeadings (behind_item known what).functions (behind_piece ps x).funcs
unfolding functions_behind
one_behind body items before known _ _ ps (OfDefine name is_negative n k) c a = a
one_behind body items before known _ _ ps (OfStruct at name ds fields) c a = a
one_behind body items before known _ _ ps (OfEnum es) c a = a
one_behind body items before known _ _ ps (OfGlobal d init v e) c a = a
one_behind body items before known _ _ ps (OfPrototype h is_remote g e) c a =
    let f = remote h.name g in
    let ds = declared_unless (is_taken known.scope h.name) known.functions h (told (heading known.scope h)) in
    let own = first_heading known ps h g f (ruled known.scope known.functions before h false g e) c refl (remote_headed h.name g) (function_named known.functions h.name) refl in
    subst (HaveFirstHeadings ds) (sym (declared_keep ps.funcs f)) (keep_all ds ps.funcs f (all_behind (is_taken known.scope h.name) known.functions h (told (heading known.scope h)) ps.funcs a) own)
one_behind body items before known _ _ ps (OfFunction h is_critical nodes g b e r) c a =
    let f = whole h.name is_critical g b in
    let ds = declared_unless (is_taken known.scope h.name) known.functions h (told (heading known.scope h)) in
    let own = first_heading known ps h g f (ruled known.scope known.functions before h true g e) c refl (whole_headed h.name is_critical g b) (function_named known.functions h.name) refl in
    subst (HaveFirstHeadings ds) (sym (defined_put ps.funcs f)) (put_all ds ps.funcs f (all_behind (is_taken known.scope h.name) known.functions h (told (heading known.scope h)) ps.funcs a) own)

-- ---- all items

-- the functions that are known at a file's end
abbrev pub functions_of : List Item → List Declared
functions_of items = (known_behind (first_known items) items).functions

abbrev AreHeaded : Known → Parts → Type 0
AreHeaded known ps = HaveFirstHeadings known.functions ps.funcs

goes_on : (body : BodyRule) (items : List Item) (all : Parts) (functions : List Declared) → GoesOn body items all functions AreHeaded
goes_on body items all functions = record { behind = λ before known i x ps place a. one_behind body items before known i.what x ps (comes_to body items before known i.place i.what x place.one) place.counts a }

pub headed_all : (body : BodyRule) (uses : UseRule) (items : List Item) (xs : List Piece) → file_pieces body uses items ≡ Right xs → HaveFirstHeadings (functions_of items) (parts_of xs).funcs
headed_all body uses items xs e = along body items xs AreHeaded (pieces_right body uses items xs e) (goes_on body items (parts_of xs) (functions_of items)) tt
