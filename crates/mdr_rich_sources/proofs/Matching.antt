-- The functions of a program, and the bodies that were written for them, number by number.
use Rattle.std.proofs.Common.{◌≡◌, ℕ, zero, suc, Bool, true, false, List, [], ◌∷◌, ◌++◌, Option, Some, None, slice_get, slice_set, refl, sym, subst}
use Rattle.std.proofs.lemmas.Option.{none-some, same_Some}
use Rattle.mdr_core.specs.declared.program.Func.{Func}
use Rattle.mdr_core.specs.declared.program.Program.{Program}
use Rattle.mdr_core.specs.Layout.{chosen}
use Rattle.mdr_meaning.specs.Bodies as plain
use Rattle.mdr_meaning.specs.Bodies.{body_by, body_from, body_of}
use Rattle.mdr_meaning.specs.Sides.{Body}
use Rattle.mdr_program.specs.Parts.{declared, defined}
use Rattle.mdr_rich_sources.specs.Expressions.{RichBody}
use Rattle.mdr_rich_sources.specs.LoweringLaw.{IsLoweredBody}
use Rattle.mdr_rich_sources.specs.Bodies.{Bodies, body_at, perhaps, with_body, with_prototype}
use Rattle.mdr_rich_sources.specs.Laws.{IsLoweredFrom}

module _ (program : Program) where
  -- a function has no body where none was written, and else the lowered one
  abbrev pub Matches : Func → Option RichBody → Type 0
  Matches func None = body_by func func.body ≡ None
  Matches func (Some b) = (body : Body) × (body_by func func.body ≡ Some body) × IsLoweredBody program b body

  abbrev pub AllMatch : List Func → Bodies → Type 0
  AllMatch [] [] = Unit {0}
  AllMatch [] (b ∷ bs) = ⊥
  AllMatch (f ∷ fs) [] = ⊥
  AllMatch (f ∷ fs) (b ∷ bs) = Matches f b × AllMatch fs bs

  match_last : (fs : List Func) (bs : Bodies) (f : Func) (b : Option RichBody) → AllMatch fs bs → Matches f b → AllMatch (fs ++ f ∷ []) (bs ++ b ∷ [])
  match_last [] [] f b h k = (k, tt)
  match_last [] (c ∷ bs) f b h k = absurd h
  match_last (g ∷ fs) [] f b h k = absurd h
  match_last (g ∷ fs) (c ∷ bs) f b h k = (h.0, match_last fs bs f b h.1 k)

  match_set : (fs : List Func) (bs : Bodies) (i : ℕ) (f : Func) (b : Option RichBody) → AllMatch fs bs → Matches f b → AllMatch (slice_set fs i f) (slice_set bs i b)
  match_set [] [] i f b h k = tt
  match_set [] (c ∷ bs) i f b h k = absurd h
  match_set (g ∷ fs) [] i f b h k = absurd h
  match_set (g ∷ fs) (c ∷ bs) zero f b h k = (k, h.1)
  match_set (g ∷ fs) (c ∷ bs) (suc i) f b h k = (h.0, match_set fs bs i f b h.1 k)

  pub match_declared : (fs : List Func) (bs : Bodies) (f : Func) (o : Option ℕ) → AllMatch fs bs → Matches f None → AllMatch (declared fs f o) (with_prototype bs o)
  match_declared fs bs f None h k = match_last fs bs f None h k
  match_declared fs bs f (Some i) h k = h

  pub match_defined : (fs : List Func) (bs : Bodies) (f : Func) (b : RichBody) (o : Option ℕ) → AllMatch fs bs → Matches f (Some b) → AllMatch (defined fs f o) (with_body bs b o)
  match_defined fs bs f b None h k = match_last fs bs f (Some b) h k
  match_defined fs bs f b (Some i) h k = match_set fs bs i f (Some b) h k

  -- ---- by numbers

  abbrev MatchAt : Option Body → Option RichBody → Type 0
  MatchAt o None = o ≡ None
  MatchAt o (Some b) = (body : Body) × (o ≡ Some body) × IsLoweredBody program b body

  match_here : (f : Func) (b : Option RichBody) → Matches f b → MatchAt (body_by f f.body) b
  match_here f None h = h
  match_here f (Some b) h = h

  match_at : (fs : List Func) (bs : Bodies) (i : ℕ) → AllMatch fs bs → MatchAt (body_from (slice_get fs i)) (perhaps (slice_get bs i))
  match_at [] [] i h = refl
  match_at [] (c ∷ bs) i h = absurd h
  match_at (g ∷ fs) [] i h = absurd h
  match_at (g ∷ fs) (c ∷ bs) zero h = match_here g c h.0
  match_at (g ∷ fs) (c ∷ bs) (suc i) h = match_at fs bs i h.1

  none_at : (o : Option Body) (r : Option RichBody) → MatchAt o r → r ≡ None → o ≡ None
  none_at o None h e = h
  none_at o (Some b) h e = absurd (none-some b (sym e))

  some_at : (o : Option Body) (r : Option RichBody) (b : RichBody) → MatchAt o r → r ≡ Some b → (body : Body) × (o ≡ Some body) × IsLoweredBody program b body
  some_at o None b h e = absurd (none-some b e)
  some_at o (Some c) b h e = subst (λ x. (body : Body) × (o ≡ Some body) × IsLoweredBody program x body) (same_Some c b e) h

  -- a side of which some are entered
  chosen_at : (t : Bool) (o : Option Body) (r : Option RichBody) → MatchAt o r → MatchAt (chosen t o None) (chosen t r None)
  chosen_at true o r h = h
  chosen_at false o r h = refl

  other_at : (t : Bool) (o : Option Body) (r : Option RichBody) → MatchAt o r → MatchAt (chosen t None o) (chosen t None r)
  other_at true o r h = refl
  other_at false o r h = h

  module _ (bs : Bodies) (h : AllMatch program.funcs bs) where
    each_at : (f : ℕ) → MatchAt (body_of program f) (body_at bs f)
    unfolding body_of body_at
    each_at f = match_at program.funcs bs f h

    -- the program's bodies are the lowered ones of those
    pub all_lowered : IsLoweredFrom program bs
    unfolding plain.whole_side plain.kernel_side plain.user_side
    all_lowered = record {
      whole = record { known = refl; asks = refl; structs = refl; globals = refl; none = λ f. none_at _ _ (each_at f); some = λ f b. some_at _ _ b (each_at f) };
      kernel = λ is_kernel. record { known = refl; asks = refl; structs = refl; globals = refl; none = λ f. none_at _ _ (chosen_at (is_kernel f) _ _ (each_at f)); some = λ f b. some_at _ _ b (chosen_at (is_kernel f) _ _ (each_at f)) };
      user = λ is_kernel. record { known = refl; asks = refl; structs = refl; globals = refl; none = λ f. none_at _ _ (other_at (is_kernel f) _ _ (each_at f)); some = λ f b. some_at _ _ b (other_at (is_kernel f) _ _ (each_at f)) };
    }
