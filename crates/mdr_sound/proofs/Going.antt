-- What is known in front of a statement, and behind it.
use Rattle.std.proofs.Common.{◌≡◌, ℕ, ◌+◌, ◌||◌, ◌&&◌, not, Bool, true, false, List, length, Option, Some, Result, refl, sym, ap, ◌∙◌, subst, arith, bytes_eq, length-append, le_trans}
use Rattle.std.proofs.lemmas.List.{length_push}
use Rattle.std.proofs.lemmas.Slice.Eq.{bytes_eq-Decides}
use Rattle.mdr_core.specs.declared.place.Place.{Place}
use Rattle.mdr_core.specs.declared.program.Program.{Program}
use Rattle.mdr_core.specs.Typing.{Slot}
use Rattle.mdr_syntax.specs.declared.tree.Decl.{Decl, out-Decl}
use Rattle.mdr_faults.specs.declared.fault.Fault.{Fault}
use Rattle.mdr_faults.specs.declared.scope.Object.{Object}
use Rattle.mdr_faults.specs.declared.scope.Scope.{Scope}
use Rattle.mdr_faults.specs.Declarations.{is_same_name}
use Rattle.mdr_faults.specs.Faults.{told}
use Rattle.mdr_headings.specs.Structs.{is_struct, name_or_none}
use Rattle.mdr_operand.specs.declared.room.LocalName.{LocalName}
use Rattle.mdr_operand.specs.Rooms.{local_named}
use Rattle.mdr_operand.specs.Written.{Written, Line}
use Rattle.mdr_body.specs.declared.here.Frame.{Frame}
use Rattle.mdr_body.specs.declared.here.Here.{Here}
use Rattle.mdr_body.specs.Locals.{local_object, lies_apart, named_local, name_of, with_local, entered, numbered}
use Rattle.mdr_body.specs.Addresses.{takes_in, perhaps_takes, is_declared_by, hides}
use Rattle.mdr_sound.specs.Knowing.{KnowsLocals, TakesNoSlot}
use Rattle.mdr_sound.specs.Written.{IsNamed, IsStatement}
use Rattle.mdr_sound.specs.Within.{KnowsDeclarations, AreDeclared, in_front, takes_behind, IsTold, IsHere}
use Rattle.mdr_sound.proofs.JoinedLists.{or_left, or_right, or_both, and_behind}
use Rattle.mdr_sound.proofs.Growing.{Grows}
use Rattle.mdr_sound.proofs.Naming.{by_last, knows_more}
use Rattle.mdr_sound.proofs.DeclaringLocals.{local_at, local_known}

-- what declares nothing hides nothing
pub hides_none : (name : List ℕ) (l : Line) → IsStatement l → hides name l ≡ false
hides_none name (Line.Local p d init) s = absurd cc
hides_none name l s = refl

-- what has its address taken is an object
pub untaken_by : (t : Bool) (m : Result Object Fault) → lies_apart t m ≡ false → t ≡ false
untaken_by t (Result.Ok o) e = or_right (is_struct o.ty) t (or_right o.array _ e)
untaken_by t (Result.Err f) e = e

module _ (program : Program) (slots : List Slot) (base : ℕ) where
  pub here_less : (here : Here) (r q : List ℕ → Bool) → IsHere program slots base here r → ((name : List ℕ) → r name ≡ false → q name ≡ false) → IsHere program slots base here q
  here_less here r q h less = record { knows = h.knows; untaken = λ name n e o. less name (h.untaken name n e o); slot = h.slot; number = h.number }

  pub here_numbered : (here : Here) (r : List ℕ → Bool) → IsHere program slots base here r → IsHere program slots base (numbered here) r
  here_numbered here r h = record { knows = h.knows; untaken = h.untaken; slot = h.slot; number = omega arith }

  pub here_entered : (here : Here) (r : List ℕ → Bool) → IsHere program slots base here r → IsHere program slots base (entered here) r
  here_entered here r h = record { knows = h.knows; untaken = h.untaken; slot = h.slot; number = h.number }

  -- with more locals, but no more names
  pub here_same : (a b : Here) (r : List ℕ → Bool) → Grows a b → b.names ≡ a.names → IsHere program slots base a r → IsHere program slots base b r
  here_same a b r g same h = record {
    knows = subst (KnowsLocals program slots) (sym same) h.knows;
    untaken = λ name n e o. h.untaken name n (ap (λ ns. local_named ns name) (sym same) ∙ e) o;
    slot = let s = h.slot in let more = g.slot in let all : length b.locals ≡ length a.locals + length g.locals = ap length g.locals_are ∙ length-append a.locals g.locals in omega (arith, s, more, all);
    number = le_trans h.number g.number;
  }

  pub takes_no_slot : (here : Here) (r : List ℕ → Bool) (w : Written) → IsHere program slots base here r → ((name : List ℕ) → r name ≡ false → takes_in name w ≡ false) → TakesNoSlot here.names w
  takes_no_slot here r w h less = record { slots = λ name n e o. less name (h.untaken name n e o) }

  module _ (scope : Scope) (frame : Frame) (known : KnowsDeclarations program scope) where
    -- behind a declarator, in front of its initialiser
    last_untaken : (d : Decl) (nm name : List ℕ) (init : Option Written) (behind : List ℕ → Bool) (t : Bool) → (out-Decl d).name ≡ Some nm → t ≡ takes_behind (out-Decl d).name init behind → bytes_eq (name_of d) name ≡ true → t ≡ false → (perhaps_takes name init || behind name) ≡ false
    last_untaken d nm name init behind t is told same e =
        let declared : name_of d ≡ nm = ap name_or_none is in
        let one : nm ≡ name = sym declared ∙ (bytes_eq-Decides (name_of d) name).0 same in
        subst (λ x. (perhaps_takes x init || behind x) ≡ false) one (ap (λ o. takes_behind o init behind) (sym is) ∙ sym told ∙ e)

    before_untaken : (p : Place) (d : Decl) (nm name : List ℕ) (init : Option Written) (behind : List ℕ → Bool) → (out-Decl d).name ≡ Some nm → bytes_eq (name_of d) name ≡ false → in_front (Line.Local p d init) behind name ≡ false → (perhaps_takes name init || behind name) ≡ false
    before_untaken p d nm name init behind is other e =
        let declared : name_of d ≡ nm = ap name_or_none is in
        let apart : is_declared_by name d ≡ false = ap (λ o. is_same_name o (Some name)) is ∙ ap (λ x. bytes_eq x name) (sym declared) ∙ other in
        or_both (perhaps_takes name init) (behind name)
        (and_behind (is_declared_by name d) (perhaps_takes name init) apart (or_left (not (is_declared_by name d) && perhaps_takes name init) (not (is_declared_by name d) && behind name) e))
        (and_behind (is_declared_by name d) (behind name) apart (or_right (not (is_declared_by name d) && perhaps_takes name init) (not (is_declared_by name d) && behind name) e))

    pub here_local : (here : Here) (t : Bool) (p : Place) (d : Decl) (init : Option Written) (behind : List ℕ → Bool) → IsHere program slots base here (in_front (Line.Local p d init) behind) → IsNamed d → IsTold t (Line.Local p d init) behind → AreDeclared slots base (with_local scope frame.locks t d here).locals → IsHere program slots base (with_local scope frame.locks t d here) (λ name. perhaps_takes name init || behind name)
    unfolding with_local named_local
    here_local here t p d init behind h named told_of declared =
        let n : LocalName = named_local here.slot t d (told (local_object scope frame.locks d)) in
        let at = local_at slots base scope frame.locks here t d h.slot declared in
        record {
          knows = knows_more program slots here.names n h.knows (λ o means. local_known program slots scope known frame.locks here.slot t d o at means);
          untaken = λ name m. by_last (λ x. x.is_object ≡ false → (perhaps_takes name init || behind name) ≡ false) here.names n m name
              (λ same o. last_untaken d named.name name init behind t named.is told_of same (untaken_by t _ o))
              (λ other e o. before_untaken p d named.name name init behind named.is other (h.untaken name m e o));
          slot = let s = h.slot in let all : length (with_local scope frame.locks t d here).locals ≡ length here.locals + 1 = length_push here.locals _ in omega (arith, s, all);
          number = h.number;
        }
