-- What texts that are loaded come to.
use Rattle.std.proofs.Common.{◌≡◌, ℕ, true, List, Result, Ok, sym, ap, ◌∙◌, subst}
use Rattle.mdr_core.specs.declared.plan.Plan.{Plan}
use Rattle.mdr_core.specs.declared.program.Program.{Program}
use Rattle.mdr_syntax.specs.declared.token.Token.{Token}
use Rattle.mdr_syntax.specs.declared.tree.Tree.{Tree}
use Rattle.mdr_grammar.specs.Grammar.{Reads}
use Rattle.mdr_grammar.proofs.Exact.{one_tree}
use Rattle.mdr_body.specs.Bodies.{body_rule}
use Rattle.mdr_body.specs.Uses.{first_use}
use Rattle.mdr_typing.specs.Profile.{profile_rules}
use Rattle.mdr_plan.proofs.Running.{plan_once}
use Rattle.mdr_check_half.specs.HalfPrograms.{half_typed}
use Rattle.mdr_check_half.specs.Planned.{IsPlanned}
use Rattle.mdr_check_half.proofs.Accepted.{plans_suit}
use Rattle.mdr_sound.proofs.Rights.{same_right}
use Rattle.mdr_honest.proofs.HalfSounding.{halves_sound}
use Rattle.mdr_honest.proofs.PlansRead.{plans_planned}
use Rattle.mdr_half_source.specs.Loads.{AreRefused, ComesTo}
use Rattle.mdr_honest.specs.Loading.{LoadedHalvesAreSound, LoadedTextsAreNotRefused, TextsLoadOneThing}

-- ---- one program and one plan

same_tokens : {E : Type 0} (o : Result (List Token) E) (ts us : List Token) → o ≡ Ok ts → o ≡ Ok us → ts ≡ us
same_tokens o ts us e f = cc

pub comes_once : (user : List ℕ) (plan : Plan) (program other : Program) → ComesTo user plan program → ComesTo user plan other → program ≡ other
comes_once user plan program other a b =
    let tokens : a.tokens ≡ b.tokens = same_tokens _ a.tokens b.tokens a.lexed b.lexed in
    let trees : a.tree ≡ b.tree = one_tree true b.tokens a.tree b.tree (subst (λ (ts : List Token). Reads true ts a.tree) tokens a.read) b.read in
    same_right program other (sym a.typed ∙ ap (λ (t : Tree). half_typed (body_rule profile_rules) first_use plan t.items) trees ∙ b.typed)

pub loads_once : TextsLoadOneThing
loads_once user text program other plan another a b =
    let same : plan ≡ another = plan_once text plan another a.planned b.planned in
    record {
      programs = comes_once user another program other (subst (λ (p : Plan). ComesTo user p program) same a.comes) b.comes;
      plans = same;
    }

-- ---- what is loaded isn't refused

pub not_refused : LoadedTextsAreNotRefused
not_refused user text program plan cause h (AreRefused.no_plan e none) = none plan h.planned
not_refused user text program plan cause h (AreRefused.no_program other e is none) =
    let same : plan ≡ other = plan_once text plan other h.planned is in
    none program (subst (λ (p : Plan). ComesTo user p program) same h.comes)

-- ---- what is loaded is sound

pub half_is : LoadedHalvesAreSound
half_is user text program plan h =
    let planned : IsPlanned plan = plans_planned text plan h.planned in
    let is = h.comes in
    record {
      sound = halves_sound user true first_use plan program is planned h.numbers;
      suited = plans_suit (body_rule profile_rules) first_use plan (is.tree).items program planned is.typed;
    }
