-- User code is served and kernel code is run, with any room for calls back.
use Rattle.std.proofs.Common.{◌≡◌, ℕ, zero, suc, ◌<◌, false, List, [], ◌++◌, Some, Ok, refl, sym, subst, arith, append-nil}
use Rattle.mdr_callees.proofs.SpacedLaws.{crossings_are_spaced}
use Rattle.mdr_callees.specs.Spaced.{Spaced}
use Rattle.mdr_holds.specs.Laws.{HaveHalves}
use Rattle.mdr_meaning.proofs.FairLaws.{trees_are_fair}
use Rattle.mdr_meaning.proofs.FewLaws.{questions_are_few}
use Rattle.mdr_meaning.specs.declared.wire.Wire.{Wire}
use Rattle.mdr_meaning.specs.Bodies.{started}
use Rattle.mdr_meaning.specs.Fair.{FairTo}
use Rattle.mdr_meaning.specs.Few.{Few}
use Rattle.mdr_meaning.specs.Sides.{Body}
use Rattle.mdr_meaning.specs.Tree.{Tree}
use Rattle.mdr_meaning.specs.Walk.{walk}
use Rattle.mdr_meaning.specs.Within.{IsWithin as KeepsTo, Uses}
use Rattle.mdr_split.specs.Kernel.{next}
use Rattle.mdr_split.specs.User.{guarded}
use Rattle.mdr_watched.specs.Driver.{Driver}
use Rattle.mdr_watched.specs.Views.{top}
use Rattle.mdr_serves.proofs.KernelCode.{are_run}
use Rattle.mdr_serves.proofs.Relations.{IsRight, Opens, Rel, grows_same, open_of}
use Rattle.mdr_serves.proofs.Runs.{AreRun, AreServed, Finishes, Inside, walked_reply}
use Rattle.mdr_serves.proofs.Serves.{serves}
use Rattle.mdr_serves.proofs.Strict.{Strict}

-- a function of the user half that is called
pub are_served : (d : Driver) (uses : Uses) → IsRight d uses → (fuel budget n : ℕ) → AreRun d uses fuel budget n → AreServed d uses fuel budget n
are_served d uses right fuel budget n runs f func args depth limited room names user K KU same globals fit script outer rest below reserve all later on k w um less rel within eq =
    let tree : Tree = started d.user fuel f args depth Tree.Idle in
    let own : (body : Body) × (d.user.own f ≡ Some body) = right.own f func names user in
    let keeps_to : KeepsTo d.program d.user KU.uses = subst (λ (u : Uses). KeepsTo d.program d.user u) (sym same) right.driver.user.within in
    let fair : FairTo 256 d.program d.user func.result KU [] tree =
    trees_are_fair d.program right.driver.sound d.user right.driver.user.bodies fuel f func KU args depth
    (record { globals = globals; within = keeps_to; names = names; body = own.0; own = own.1; fit = fit; limited = omega (arith, limited) }) Tree.Idle in
    let few : Few 2 tree = questions_are_few d.user fuel f args depth Tree.Idle in
    let spaced : Spaced depth false tree = crossings_are_spaced d.user fuel f args depth own.0 own.1 Tree.Idle in
    let strict : Strict (Opens d f) d.program d.user w.clock.rest KU [] tree = right.strict w.clock.rest fuel f depth less limited func KU args same globals names user fit in
    let there : Rel d uses budget f K KU (outer ++ []) k w um = subst (λ (os : List Wire). Rel d uses budget f K KU os k w um) (sym (append-nil outer)) rel in
    subst (λ (os : List Wire). Finishes d uses fuel budget k.exchanges (next d (Ok (walked_reply f os k w below (walk (guarded (top w.views)) w.clock.rest tree um)).reply) k (open_of f depth []) rest script)
    (walked_reply f os k w below (walk (guarded (top w.views)) w.clock.rest tree um)).user (later all)) (append-nil outer)
    ((serves d uses right fuel budget n f depth func names script outer rest below reserve all later K KU on runs room tree 2 w.clock.rest false KU [] [] same (grows_same KU) fair few spaced strict).by K k w um w.clock.rest (grows_same K) refl (omega arith) there tt within eq)

module _ (d : Driver) (uses : Uses) (right : IsRight d uses) (halves : HaveHalves d) (fuel budget : ℕ) (enough : budget < fuel) where
  -- with one more of room, where the rest is there
  pub insides : (n : ℕ) → Inside d uses fuel budget n
  insides zero = tt
  insides (suc n) = are_served d uses right fuel budget n (are_run d uses right halves fuel budget enough n (insides n))

  pub runs_all : (n : ℕ) → AreRun d uses fuel budget n
  runs_all n = are_run d uses right halves fuel budget enough n (insides n)

  pub serves_all : (n : ℕ) → AreServed d uses fuel budget n
  serves_all n = insides (suc n)
