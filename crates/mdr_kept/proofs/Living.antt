-- The objects that live at a place of a body, and behind code.
use Rattle.std.proofs.Common.{◌≡◌, ℕ, ◌+◌, ◌<◌, ◌||◌, ◌==◌, ◌⊎◌, inl, inr, Bool, true, false, List, [], ◌∷◌, ◌++◌, map, Some, Ok, slice_get, refl, sym, ap, ◌∙◌, arith}
use Rattle.std.proofs.lemmas.Bool.{eq-eqb, eqb-true, or_cases, or_left, or_right}
use Rattle.mdr_rich.specs.declared.code.Stmt.{Stmt}
use Rattle.mdr_core.specs.declared.program.Program.{Program}
use Rattle.mdr_rich.specs.Code.{Code, Codes}
use Rattle.mdr_rich.specs.Folds.{code_of, codes_of, before}
use Rattle.mdr_core.specs.Layout.{chosen}
use Rattle.mdr_core.specs.Typing.{Slot, slot_of_local}
use Rattle.mdr_syntax.specs.declared.tree.Decl.{Decl}
use Rattle.mdr_faults.specs.declared.scope.Object.{Object}
use Rattle.mdr_faults.specs.declared.scope.Scope.{Scope}
use Rattle.mdr_faults.specs.Faults.{told}
use Rattle.mdr_headings.specs.Structs.{is_struct}
use Rattle.mdr_operand.specs.declared.room.LocalName.{LocalName}
use Rattle.mdr_operand.specs.Rooms.{local_named}
use Rattle.mdr_body.specs.declared.here.Here.{Here}
use Rattle.mdr_body.specs.Locals.{local_object, local_of, lies_apart, is_own_object, named_local, with_local, entered, numbered}
use Rattle.mdr_kept.specs.Scopes.{is_there, is_object}
use Rattle.mdr_sound.specs.Knowing.{KnowsLocals}
use Rattle.mdr_sound.proofs.DeclaringLocals.{IsAt}
use Rattle.mdr_sound.proofs.Growing.{Grows}
use Rattle.mdr_sound.proofs.Naming.{by_last}
use Rattle.mdr_kept.specs.Named.{behind, CodeScoped, CodesScoped}
use Rattle.mdr_kept.proofs.Hiding.{hidden, get_hidden, same_shown, known_hidden}

-- ---- a place

-- what a name there means lives, if it is an object, and none lives of those that are declared behind it
pub record Live (here : Here) (objects : List ℕ) : Type 0 where
  pub named : (name : List ℕ) (n : LocalName) (o : Object) → local_named here.names name ≡ Some n → n.means ≡ Ok o → n.is_object ≡ true → is_there objects n.slot ≡ true
  pub fresh : (i : ℕ) → is_there objects i ≡ true → i < here.slot

pub live_numbered : (here : Here) (objects : List ℕ) → Live here objects → Live (numbered here) objects
live_numbered here objects h = record { named = h.named; fresh = h.fresh }

pub live_entered : (here : Here) (objects : List ℕ) → Live here objects → Live (entered here) objects
live_entered here objects h = record { named = h.named; fresh = h.fresh }

-- with more locals, but no more names
pub live_same : (a b : Here) (objects : List ℕ) → Grows a b → b.names ≡ a.names → Live a objects → Live b objects
live_same a b objects g same h = record {
  named = λ name n o e m is. h.named name n o (ap (λ ns. local_named ns name) (sym same) ∙ e) m is;
  fresh = λ i e. let below = h.fresh i e in let more = g.slot in omega (arith, below, more);
}

pub none_declared : (here : Here) (objects : List ℕ) → Live here objects → is_there objects here.slot ≡ false
none_declared here objects h = on (is_there objects here.slot) refl where
  on : (b : Bool) → is_there objects here.slot ≡ b → b ≡ false
  on true e = let below = h.fresh here.slot e in absurd (omega (arith, below))
  on false e = refl

-- the locals are known over the slots that the place knows
pub knows_hidden : (program : Program) (slots : List Slot) (here : Here) (objects : List ℕ) → KnowsLocals program slots here.names → Live here objects → KnowsLocals program (hidden objects slots) here.names
knows_hidden program slots here objects k h = record { locals = λ name n o e m. known_hidden program slots objects n o (k.locals name n o e m) (h.named name n o e m) }

-- ---- behind a declaration

there_more : (b : Bool) (i j : ℕ) (objects : List ℕ) → is_there objects j ≡ true → is_there (chosen b (i ∷ objects) objects) j ≡ true
there_more true i j objects e = or_right _ _ e
there_more false i j objects e = e

there_first : (b : Bool) (i : ℕ) (objects : List ℕ) → b ≡ true → is_there (chosen b (i ∷ objects) objects) i ≡ true
there_first true i objects e = or_left _ _ (eq-eqb i i refl)
there_first false i objects e = absurd cc

there_below : (b : Bool) (i j : ℕ) (objects : List ℕ) → ((k : ℕ) → is_there objects k ≡ true → k < i) → is_there (chosen b (i ∷ objects) objects) j ≡ true → j < i + 1
there_below true i j objects below e = on (or_cases (i == j) (is_there objects j) e) where
  on : (i == j) ≡ true ⊎ is_there objects j ≡ true → j < i + 1
  on (inl q) = let same = eqb-true i j q in omega (arith, same)
  on (inr q) = let less = below j q in omega (arith, less)
there_below false i j objects below e = let less = below j e in omega (arith, less)

module _ (slots : List Slot) (scope : Scope) (locks : List Bool) (here : Here) (objects : List ℕ) (t : Bool) (d : Decl) (at : IsAt slots scope locks here.slot t d) where
  -- those that live behind it
  abbrev pub More : List ℕ
  More = chosen (is_object (slice_get slots here.slot)) (here.slot ∷ objects) objects

  own : is_object (slice_get slots here.slot) ≡ is_own_object t at.object
  own = ap is_object at.names

  pub live_local : Live here objects → Live (with_local scope locks t d here) More
  unfolding with_local named_local
  live_local h = record {
    named = λ name m o e means.
        by_last (λ x. x.means ≡ Ok o → x.is_object ≡ true → is_there More x.slot ≡ true) here.names (named_local here.slot t d (told (local_object scope locks d))) m name
        (λ same right apart. there_first _ here.slot objects (own ∙ ap (lies_apart t) (sym (ap told at.right)) ∙ apart))
        (λ other q right apart. there_more _ here.slot m.slot objects (h.named name m o q right apart))
        e means;
    fresh = λ i e. there_below _ here.slot i objects h.fresh e;
  }

  -- the declaration is known over the slots that are known behind it
  pub at_hidden : IsAt (hidden More slots) scope locks here.slot t d
  at_hidden = record {
    object = at.object;
    right = at.right;
    names = get_hidden More slots here.slot (slot_of_local (local_of t d at.object)) at.names ∙ ap Some (same_shown (is_there More here.slot) (slot_of_local (local_of t d at.object))
        (λ e. there_first _ here.slot objects (own ∙ e))
        (λ e. first_false at.object.array (is_struct at.object.ty || t) e));
  }
    where
      first_false : (a b : Bool) → (a || b) ≡ false → a ≡ false
      first_false true b e = e
      first_false false b e = refl

-- ---- code behind code

module _ (slots : List Slot) where
  abbrev pub behinds : List ℕ → Codes → List ℕ
  behinds objects Codes.End = objects
  behinds objects (Codes.Then c cs) = behinds (behind slots objects c) cs

  pub behinds_both : (xs ys : List Stmt) (objects : List ℕ) → behinds objects (codes_of (xs ++ ys)) ≡ behinds (behinds objects (codes_of xs)) (codes_of ys)
  behinds_both [] ys objects = refl
  behinds_both (x ∷ xs) ys objects = behinds_both xs ys (behind slots objects (code_of x))

  pub scoped_both : (xs ys : List Stmt) (objects : List ℕ) → CodesScoped slots objects (codes_of xs) → CodesScoped slots (behinds objects (codes_of xs)) (codes_of ys) → CodesScoped slots objects (codes_of (xs ++ ys))
  scoped_both [] ys objects h k = k
  scoped_both (x ∷ xs) ys objects h k = (h.0, scoped_both xs ys (behind slots objects (code_of x)) h.1 k)

  pub scoped_before : (xs : List Stmt) (c : Code) (objects : List ℕ) → CodesScoped slots objects (codes_of xs) → CodeScoped slots (behinds objects (codes_of xs)) c → CodesScoped slots objects (before (map code_of xs) c)
  scoped_before [] c objects h k = (k, tt)
  scoped_before (x ∷ xs) c objects h k = (h.0, scoped_before xs c (behind slots objects (code_of x)) h.1 k)

  -- code behind which the same objects live
  pub record IsStill (objects : List ℕ) (c : Code) : Type 0 where
    pub scoped : CodeScoped slots objects c
    pub still : behind slots objects c ≡ objects

  -- what statements leave behind them, where they aren't a part of another statement
  pub record Leaves (there : Here) (objects : List ℕ) (is_part : Bool) (ss : List Stmt) : Type 0 where
    pub scoped : CodesScoped slots objects (codes_of ss)
    pub goes_on : is_part ≡ false → Live there (behinds objects (codes_of ss))
