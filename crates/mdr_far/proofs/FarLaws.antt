-- What a far side in the same process holds is what an honest one would.
use Rattle.std.proofs.Common.{◌≡◌, ℕ, List, [], Option, Some, None, refl, sym, ◌∙◌, ap, subst}
use Rattle.mdr_core.specs.declared.plan.Plan.{Plan}
use Rattle.mdr_core.specs.declared.program.Program.{Program}
use Rattle.mdr_exchanges.specs.Meanings.{Honest}
use Rattle.mdr_honest.specs.Honest.{IsHonest}
use Rattle.mdr_half_source.specs.Loads.{Loads}
use Rattle.mdr_honest.proofs.Halves.{loads_once}
use Rattle.mdr_outside.specs.declared.far.Exchange.{Exchange}
use Rattle.mdr_outside.specs.declared.far.LoadAnswer.{LoadAnswer}
use Rattle.mdr_outside.specs.declared.far.LoadAnswer.TheVariants as answers
use Rattle.mdr_outside.specs.declared.far.Loaded.{Loaded}
use Rattle.mdr_outside.specs.Far.{IsLoaded, LoadsAs, loaded_with}
use Rattle.mdr_watched.specs.Driver.{driver_of}
use Rattle.mdr_far.specs.Halves.{HalfState, IsLoadedFrom}
use Rattle.mdr_far.specs.Fars.{exchanges_of, Serves, Answered, IsOpened}
use Rattle.mdr_far.specs.FarView.{IsKeptFar}
use Rattle.mdr_far.specs.declared.local_far.LocalFar.TheInside.{Inside}

-- replies of the half that is loaded are those of whatever half the texts load
served : (user text : List ℕ) (program : Program) (plan : Plan) (es : List Exchange) → Loads user text program plan → Honest (driver_of program plan) [] es
    → (other : Program) (another : Plan) → Loads user text other another → Honest (driver_of other another) [] es
served user text program plan es l honest other another l' =
    let same = loads_once user text program other plan another l l' in
    subst (λ (p : Plan). Honest (driver_of other p) [] es) same.plans (subst (λ (p : Program). Honest (driver_of p plan) [] es) same.programs honest)

-- what is loaded, and the half that is there, or none
abbrev AreKept : Option Loaded → Option HalfState → Type 0
AreKept loaded half = IsHonest loaded (exchanges_of half) × Serves loaded half

-- a half of the same program and plan, whose replies are honest, in place of the half that was there
replaced : (loaded : Option Loaded) (h h' : HalfState) → AreKept loaded (Some h) → h'.program ≡ h.program → h'.plan ≡ h.plan → Honest (driver_of h'.program h'.plan) [] h'.exchanges → AreKept loaded (Some h')
replaced None h h' kept same alike honest = elim kept.1 [ ]
replaced (Some l) h h' kept same alike honest =
    let loads : Loads l.user l.plan h'.program h'.plan =
    subst (λ (p : Plan). Loads l.user l.plan h'.program p) (sym alike) (subst (λ (p : Program). Loads l.user l.plan p h.plan) (sym same) (kept.1).loads) in
    (record { load = (kept.0).load; served = served l.user l.plan h'.program h'.plan h'.exchanges loads honest }, record { loads = loads; answered = (kept.1).answered })

-- a far side keeps what it must where a half of the same program and plan, whose replies are honest, takes the place of its own
pub kept_on : (a b : Inside) (h h' : HalfState) → a.loaded ≡ b.loaded → a.half ≡ Some h → b.half ≡ Some h' → h'.program ≡ h.program → h'.plan ≡ h.plan → Honest (driver_of h'.program h'.plan) [] h'.exchanges → IsKeptFar a → IsKeptFar b
kept_on a b h h' e is is' same alike honest kept =
    let before : AreKept b.loaded (Some h) = subst (λ (l : Option Loaded). AreKept l (Some h)) e (subst (λ (x : Option HalfState). AreKept a.loaded x) is (kept.honest, kept.serves)) in
    let both : AreKept b.loaded b.half = subst (λ (x : Option HalfState). AreKept b.loaded x) (sym is') (replaced b.loaded h h' before same alike honest) in
    record { honest = both.0; serves = both.1 }

-- ---- loads

pub answered_ok : (user text : List ℕ) (h : HalfState) (half : Option HalfState) → half ≡ Some h → IsLoadedFrom user text h → Answered user text half answers.Ok
answered_ok user text h half is l = subst (λ (x : Option HalfState). Answered user text x answers.Ok) (sym is) l

pub answered_none : (user text : List ℕ) (answer : LoadAnswer) (half : Option HalfState) → half ≡ None → Answered user text None answer → Answered user text half answer
answered_none user text answer half is a = subst (λ (x : Option HalfState). Answered user text x answer) (sym is) a

-- what an answer to two texts says of the half that is there
record AreAnswered (user text : List ℕ) (half : Option HalfState) (answer : LoadAnswer) : Type 0 where
  pub kept : AreKept (Some (loaded_with user text answer)) half
  pub empty : exchanges_of half ≡ []
  pub held : LoadsAs user text answer (Some (loaded_with user text answer))
  pub settled : answer ≡ answers.Failed → ⊥

answered_with : (user text : List ℕ) (half : Option HalfState) (answer : LoadAnswer) → Answered user text half answer → AreAnswered user text half answer
answered_with user text None answers.Ok a = absurd a
answered_with user text (Some h) answers.Ok a =
    let empty : h.exchanges ≡ [] = a.begins in
    record {
      kept = (record { load = record { program = h.program; plan = h.plan; loads = a.loads }; served = λ program plan loads. subst (Honest (driver_of program plan) []) (sym empty) tt }, record { loads = a.loads; answered = refl });
      empty = empty;
      held = refl;
      settled = λ e. absurd (Prim.cc);
    }
answered_with user text None (answers.Refused cause) a =
    record {
      kept = (record { load = a; served = λ program plan loads. tt }, λ e. absurd (Prim.cc));
      empty = refl;
      held = refl;
      settled = λ e. absurd (Prim.cc);
    }
answered_with user text (Some h) (answers.Refused cause) a = absurd a
answered_with user text half answers.Failed a = absurd a
answered_with user text half answers.OutOfMemory a = absurd a

module _ (user text : List ℕ) (half : Option HalfState) (l : Loaded) (o : IsOpened user text half l) where
  behind : AreAnswered user text half l.answer
  behind = answered_with user text half l.answer o.answered

  pub kept_from : (s : Inside) → s.loaded ≡ Some l → s.half ≡ half → IsKeptFar s
  kept_from s there same =
      let both : AreKept s.loaded s.half =
      subst (λ (x : Option Loaded). AreKept x s.half) (sym (there ∙ ap Some o.load)) (subst (λ (h : Option HalfState). AreKept (Some (loaded_with user text l.answer)) h) (sym same) behind.kept) in
      record { honest = both.0; serves = both.1 }

  pub none_yet : exchanges_of half ≡ []
  none_yet = behind.empty

  pub loads_as : LoadsAs user text l.answer (Some l)
  loads_as = subst (λ (x : Loaded). LoadsAs user text l.answer (Some x)) (sym o.load) behind.held

  pub never_fails : l.answer ≡ answers.Failed → ⊥
  never_fails = behind.settled

-- a far side that holds nothing keeps what it must
pub kept_empty : (s : Inside) → s.loaded ≡ None → s.half ≡ None → IsKeptFar s
kept_empty s e f =
    let both : AreKept s.loaded s.half = subst (λ (l : Option Loaded). AreKept l s.half) (sym e) (subst (λ (h : Option HalfState). AreKept None h) (sym f) (refl, tt)) in
    record { honest = both.0; serves = both.1 }

-- one that was loaded holds a half
pub half_there : (s : Inside) → IsKeptFar s → IsLoaded s.loaded → s.half ≡ None → ⊥
half_there s kept loaded none = of s.loaded (subst (Serves s.loaded) none kept.serves) loaded
  where
    of : (l : Option Loaded) → Serves l None → IsLoaded l → ⊥
    of None h k = k
    of (Some l) h k = h k
