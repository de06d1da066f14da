-- What a machine's run over the copy comes to is what the definition replies.
use Rattle.std.proofs.Common.{List, [], ap, arith, map, refl, subst, suc, sym, zero, ℕ, ◌+◌, ◌-◌, ◌∙◌, ◌∷◌, ◌≡◌, ◌≤◌}
use mathlib.Core.Path.{fun_ext}
use Rattle.mdr_core.specs.declared.stop.StopKind.TheVariants as stop
use Rattle.mdr_events.specs.declared.event.Event.{Event}
use Rattle.mdr_events.specs.declared.event.Event.TheVariants as event
use Rattle.mdr_events.specs.Events.{asked_as}
use Rattle.mdr_events.specs.Going.{LeavesAt, RanTo}
use Rattle.mdr_events.specs.Held.{Held, bare, tree}
use Rattle.mdr_events.specs.Ready.{IsReady}
use Rattle.mdr_events.specs.Running.{RunsTo}
use Rattle.mdr_events.specs.Steps as came
use Rattle.mdr_events.specs.Steps.{Came, after, child}
use Rattle.mdr_events.specs.Values.{wires_of}
use Rattle.mdr_exec.specs.declared.frame.Machine.{Machine}
use Rattle.mdr_exec.specs.Holding.{held_of}
use Rattle.mdr_exec.proofs.ReadyLaws.{ran_leaves}
use Rattle.mdr_meaning.specs.declared.wire.Wire.{Wire}
use Rattle.mdr_meaning.specs.Cut.{cut}
use Rattle.mdr_meaning.specs.Sides.{Side}
use Rattle.mdr_meaning.specs.Tree.{Tree}
use Rattle.mdr_meaning.specs.Values.{wire_of}
use Rattle.mdr_meaning.specs.Walk.{Reached, Walked, cut_reached, walk, walked}
use Rattle.mdr_meaning.proofs.CutLaws.{cut_cut}
use Rattle.mdr_meaning.proofs.WalkLaws.{walk_cut}
use Rattle.mdr_model.specs.declared.memory.Cell.{Cell}
use Rattle.mdr_model.specs.declared.message.Message.{Message}
use Rattle.mdr_model.specs.declared.message.Message.TheVariants as message
use Rattle.mdr_model.specs.declared.reply.Reply.TheVariants as said
use Rattle.mdr_model.specs.Agreement.{SerialsRise}
use Rattle.mdr_model.specs.Copies.{changes, put_runs}
use Rattle.mdr_model.specs.Memory.{Memory}
use Rattle.mdr_model.specs.ReplyFaults.{stop_number}
use Rattle.mdr_split.specs.User.{AwaitsAnswer, AwaitsBack, Delivered, Down, Nothing, User, Work, guarded, replied, replied_to, resting}
use Rattle.mdr_user_memory.specs.Kept.{Kept}
use Rattle.mdr_user_memory.specs.Within.{IsLeft}
use Rattle.mdr_user_memory.proofs.WithinLaws.{changes_give, walk_left, within_first}
use Rattle.mdr_watched.specs.Driver.{Driver}
use Rattle.mdr_user_code.specs.declared.state.State.{State}
use Rattle.mdr_user_memory.specs.Copied.{Copied, Past, copied, copy_accesses}
use Rattle.mdr_user_code.specs.Replying.{IsSettled, RunReplies, state_behind, stop_as, told_as}
use Rattle.mdr_user_code.specs.Standing.{Opens, downs_of, held_in, kept_by, opens_below, replies_so}
use Rattle.mdr_user_code.proofs.CopiedWalks.{copied_walked, walks}
use Rattle.mdr_split.specs.Fuel.{cut_delivered, cut_down, cut_work}
use Rattle.mdr_split.proofs.FuelLaws.{replied_cut}
use Rattle.mdr_user_code.proofs.BelowLaws.{rested_kept, rested_opens, rested_user}

-- ---- what follows answers

pub cut_child : (r : ℕ) (t : Tree) (vs : List Wire) → cut r (child t vs) ≡ child (cut r t) vs
unfolding cut
cut_child r Tree.Idle vs = refl
cut_child r (Tree.Waits k) vs = refl
cut_child r (Tree.Done v t) vs = refl
cut_child r (Tree.Stop kind at) vs = refl
cut_child zero (Tree.Tick at d t) vs = refl
cut_child (suc r) (Tree.Tick at d t) vs = refl
cut_child r (Tree.Load at p k) vs = refl
cut_child r (Tree.Store at p v t) vs = refl
cut_child r (Tree.Read at p n k) vs = refl
cut_child r (Tree.Fresh at v k) vs = refl
cut_child r (Tree.Birth at shapes k) vs = refl
cut_child r (Tree.Death at ps t) vs = refl
cut_child r (Tree.Ask asked k) vs = refl
cut_child r (Tree.Cross at func args depth k) vs = refl

-- held work up to some ticks goes on as without, up to fewer
goes_is : (side : Side) (f q r : ℕ) (h : Held) (vs : List Wire) → q ≤ r → cut q (child (tree side f h r) vs) ≡ cut q (child (bare side f h) vs)
unfolding tree
goes_is side f q r h vs fewer = ap (cut q) (sym (cut_child r (bare side f h) vs)) ∙ cut_cut q r fewer (child (bare side f h) vs)

-- ---- a run

module _ (d : Driver) (s : State) (m : Machine) (past : Past) (view : List Cell) (rest : ℕ) (c : Copied) (k : Kept)
    (agreed : k.agreed ≡ put_runs (changes c.view s.memory.agreed c.memory) s.memory.agreed) where
  abbrev copy : Memory
  copy = s.memory.agreed

  -- what is held before, and behind
  abbrev h : Held
  h = held_in d s

  abbrev h' : Held
  h' = held_of d.program m

  abbrev left : ℕ
  left = rest - m.used

  abbrev downs : ℕ → List Down
  downs fuel = downs_of d fuel s.below

  abbrev told : Event → Message
  told e = told_as (rest - left) c.memory (changes c.view copy c.memory) e

  -- the state behind an event
  abbrev before : State
  before = record s { machine = m; memory = k; view = c.view }

  abbrev settled : Event → State
  settled e = state_behind left e before

  abbrev stands : Message → Memory → Work → Delivered
  stands reply a work = record { reply = reply; user = record { agreed = a; entered = s.entered; work = work } }

  both_agree : (reply : Message) (work : Work) → stands reply (put_runs (changes c.view copy c.memory) copy) work ≡ stands reply k.agreed work
  both_agree reply work = ap (λ (a : Memory). stands reply a work) (sym agreed)

  abbrev answer_of : (fuel more : ℕ) → Walked Copied → Delivered
  answer_of fuel more w = cut_delivered more (replied s.func s.entered w.memory.view rest copy w.memory.memory (downs fuel) w.left w.reached)

  abbrev reached_by : Tree → Walked Memory
  reached_by t = walk (guarded view) rest t copy

  abbrev cut_walked : ℕ → Walked Memory → Walked Memory
  cut_walked r w = walked (cut_reached (w.left + r) w.reached) w.memory w.left

  -- the walk of a tree that the held work is
  walk_is : (fuel more : ℕ) (t : Tree) (e : Came) → rest + more ≤ fuel → tree d.user fuel h (rest + more) ≡ cut (rest + more) t → RunsTo copy_accesses d.user h (copied past copy view copy) rest e h' c left
      → copied_walked past copy view (cut_walked more (reached_by t)) ≡ after copy_accesses d.user fuel e h' c left (left + more)
  walk_is fuel more t e fits same ran =
      let none : rest ≡ rest + 0 = omega arith in
      let all : left + 0 ≡ left = omega arith in
      ap (copied_walked past copy view) (sym (walk_cut (guarded view) rest more t copy))
      ∙ sym (walks past copy view rest (cut (rest + more) t) copy)
      ∙ ap (λ (x : Tree). walk copy_accesses rest x (copied past copy view copy)) (sym same)
      ∙ ap (λ (n : ℕ). walk copy_accesses n (tree d.user fuel h (rest + more)) (copied past copy view copy)) none
      ∙ ran.by fuel 0 more fits
      ∙ ap (λ (n : ℕ). after copy_accesses d.user fuel e h' c n (left + more)) all

  replied_at : (fuel more : ℕ) (t : Tree) (e : Came) → rest + more ≤ fuel → tree d.user fuel h (rest + more) ≡ cut (rest + more) t → RunsTo copy_accesses d.user h (copied past copy view copy) rest e h' c left
      → cut_delivered more (replied_to s.func s.entered view rest copy (downs fuel) (reached_by t)) ≡ answer_of fuel more (after copy_accesses d.user fuel e h' c left (left + more))
  replied_at fuel more t e fits same ran =
      sym (replied_cut more s.func s.entered view rest copy (reached_by t).memory (downs fuel) (reached_by t).left (reached_by t).reached)
      ∙ ap (answer_of fuel more) (walk_is fuel more t e fits same ran)

  replies : (e : Event) → RanTo copy_accesses d.user h (copied past copy view copy) rest e h' c left → (fuel more : ℕ) (t : Tree) → rest + more ≤ fuel → tree d.user fuel h (rest + more) ≡ cut (rest + more) t
      → cut_delivered more (replied_to s.func s.entered view rest copy (downs fuel) (reached_by t)) ≡ cut_delivered more (replies_so d fuel (told e) (settled e))
  unfolding replied walk
  replies (event.Done v) ran fuel more t fits same =
      replied_at fuel more t (came.Ended (wire_of v)) fits same ran
      ∙ both_agree (told (event.Done v)) (cut_work more (resting (downs fuel)))
      ∙ ap (λ (u : User). cut_delivered more (record { reply = told (event.Done v); user = u })) (sym (rested_user d fuel s.below before))
  replies (event.Stop kind at) ran fuel more t fits same =
      replied_at fuel more t (came.Stopped kind at) fits same ran ∙ both_agree (told (event.Stop kind at)) Nothing
  replies (event.Service q) ran fuel more t fits same =
      let goes : List Wire → Tree = child (bare d.user fuel h') in
      let work : (List Wire → Tree) → Work = λ g. AwaitsAnswer s.func (asked_as q) c.view left g (map (cut_down more) (downs fuel)) in
      replied_at fuel more t (came.Asks (asked_as q)) fits same ran
      ∙ ap (λ (g : List Wire → Tree). stands (told (event.Service q)) (put_runs (changes c.view copy c.memory) copy) (work g))
      (fun_ext (λ vs. goes_is d.user fuel (more + left) (left + more) h' vs (omega arith)))
      ∙ both_agree (told (event.Service q)) (work (λ vs. cut (more + left) (goes vs)))
  replies (event.Cross call) ran fuel more t fits same =
      let goes : List Wire → Tree = child (bare d.user fuel h') in
      let work : (Wire → Tree) → Work = λ g. AwaitsBack (record { stub = s.func; func = call.func; depth = call.depth; goes = g }) (map (cut_down more) (downs fuel)) in
      replied_at fuel more t (came.Crosses call.at call.func (wires_of call.args) call.depth) fits same ran
      ∙ ap (λ (g : Wire → Tree). stands (told (event.Cross call)) (put_runs (changes c.view copy c.memory) copy) (work g))
      (fun_ext (λ v. goes_is d.user fuel more (left + more) h' (v ∷ []) (omega arith)))
      ∙ both_agree (told (event.Cross call)) (work (λ v. cut more (goes (v ∷ []))))
  replies (event.TicksOut at) ran fuel more t fits same =
      let w = ran.2.by fuel (left + more) in
      replied_at fuel more t came.Goes fits same ran.1
      ∙ ap (λ (x : Tree). answer_of fuel more (walk copy_accesses left x c)) w.1
      ∙ ap (λ (n : ℕ). answer_of fuel more (walk copy_accesses n (Tree.Tick at h'.frame.here.depth w.0) c)) ran.0
      ∙ ap (λ (n : ℕ). stands (message.Reply (said.Stop (stop_as (rest - n) (stop_number stop.Ticks) at (changes c.view copy c.memory)))) (put_runs (changes c.view copy c.memory) copy) Nothing) (sym ran.0)
      ∙ both_agree (told (event.TicksOut at)) Nothing

  kept_is : (e : Event) → kept_by (settled e).awaits ≤ rest
  kept_is (event.Done v) = let none = rested_kept s.below before in omega (arith, none)
  kept_is (event.Stop kind at) = omega arith
  kept_is (event.Service q) = omega arith
  kept_is (event.Cross call) = omega arith
  kept_is (event.TicksOut at) = omega arith

  -- the machine waits for what is awaited, and so do those below
  opens_behind : (e : Event) → LeavesAt e h' → opens_below d s.below → Opens d (settled e)
  opens_behind (event.Done v) o below = rested_opens d s.below before below
  opens_behind (event.Stop kind at) o below = (tt, tt)
  opens_behind (event.Service q) o below = (o, below)
  opens_behind (event.Cross call) o below = (o, below)
  opens_behind (event.TicksOut at) o below = (tt, tt)

  comes : (e : Event) (reply : Message) → IsReady h → m.used ≤ rest → RanTo copy_accesses d.user h (copied past copy view copy) rest e h' c left → reply ≡ told_as m.used c.memory (changes c.view copy c.memory) e
      → opens_below d s.below → RunReplies d s rest view reply (settled e)
  comes e reply ready few ran is below = record {
    kept = kept_is e;
    opens = opens_behind e (ran_leaves copy_accesses d.user h h' (copied past copy view copy) c rest e left ready ran) below;
    by = λ fuel more t fits same.
        let back : rest - left ≡ m.used = omega (arith, few) in
        replies e ran fuel more t fits same
        ∙ ap (λ (n : ℕ). cut_delivered more (replies_so d fuel (told_as n c.memory (changes c.view copy c.memory) e) (settled e))) back
        ∙ ap (λ (r : Message). cut_delivered more (replies_so d fuel r (settled e))) (sym is);
  }

-- ---- what a run leaves of memory

module _ (side : Side) (h h' : Held) (past : Past) (copy : Memory) (view : List Cell) (c : Copied) (rest left : ℕ) (rises : SerialsRise copy) where
  begun : IsLeft past copy view (copied past copy view copy)
  begun = record { lived = refl; copy = refl; cells = refl; within = within_first view copy rises }

  left_after : (x : Came) → RunsTo copy_accesses side h (copied past copy view copy) rest x h' c left → IsLeft past copy view (after copy_accesses side rest x h' c (left + 0) (left + 0)).memory
  left_after x ran =
      subst (IsLeft past copy view) (ap (λ (w : Walked Copied). w.memory) (ran.by rest 0 0 (omega arith)))
      (walk_left past copy view (rest + 0) (tree side rest h (rest + 0)) (copied past copy view copy) begun)

  pub left_of_run : (e : Event) → RanTo copy_accesses side h (copied past copy view copy) rest e h' c left → IsLeft past copy view c
  unfolding walk
  left_of_run (event.Done v) ran = left_after (came.Ended (wire_of v)) ran
  left_of_run (event.Stop kind at) ran = left_after (came.Stopped kind at) ran
  left_of_run (event.Service q) ran = left_after (came.Asks (asked_as q)) ran
  left_of_run (event.Cross call) ran = left_after (came.Crosses call.at call.func (wires_of call.args) call.depth) ran
  left_of_run (event.TicksOut at) ran =
      let w = ran.2.by rest (left + 0) in
      let none : left + 0 ≡ 0 = omega (arith, ran.0) in
      subst (IsLeft past copy view)
      (ap (λ (x : Tree). (walk copy_accesses (left + 0) x c).memory) w.1 ∙ ap (λ (n : ℕ). (walk copy_accesses n (Tree.Tick at h'.frame.here.depth w.0) c).memory) none) (left_after came.Goes ran.1)

-- all that it left is told
pub tells_all : (past : Past) (copy : Memory) (view : List Cell) (c : Copied) → SerialsRise copy → IsLeft past copy view c → put_runs (changes c.view c.agreed c.memory) c.agreed ≡ c.memory
tells_all past copy view c rises l =
    ap (λ (a : Memory). put_runs (changes c.view a c.memory) a) l.copy
    ∙ (ap (λ (v : List Cell). put_runs (changes v copy c.memory) copy) l.cells ∙ changes_give view copy c.memory rises l.within)

-- ---- a message's run

pub run_from : (d : Driver) (s s' : State) (k : Kept) (m : Machine) (past : Past) (view : List Cell) (rest : ℕ) (c0 c : Copied) (e : Event) (reply : Message) → IsReady (held_in d s) → c0 ≡ copied past s.memory.agreed view s.memory.agreed
    → SerialsRise s.memory.agreed → m.used ≤ rest → RanTo copy_accesses d.user (held_in d s) c0 rest e (held_of d.program m) c (rest - m.used) → reply ≡ told_as m.used c.memory (changes c.view c.agreed c.memory) e
    → IsSettled (record s { memory = k; machine = m }) rest c e s' → opens_below d s.below → RunReplies d s rest view reply s'
run_from d s s' k m past view rest c0 c e reply ready begun rises few ran told is below =
    let copy : Memory = s.memory.agreed in
    let r : RanTo copy_accesses d.user (held_in d s) (copied past copy view copy) rest e (held_of d.program m) c (rest - m.used) =
    subst (λ (x : Copied). RanTo copy_accesses d.user (held_in d s) x rest e (held_of d.program m) c (rest - m.used)) begun ran in
    let l : IsLeft past copy view c = left_of_run d.user (held_in d s) (held_of d.program m) past copy view c rest (rest - m.used) rises e r in
    let told' : reply ≡ told_as m.used c.memory (changes c.view copy c.memory) e = told ∙ ap (λ (a : Memory). told_as m.used c.memory (changes c.view a c.memory) e) l.copy in
    let agreed : s'.memory.agreed ≡ put_runs (changes c.view copy c.memory) copy = is.agreed ∙ ap (λ (a : Memory). put_runs (changes c.view a c.memory) a) l.copy in
    subst (RunReplies d s rest view reply) (sym is.behind) (comes d s m past view rest c s'.memory agreed e reply ready few r told' below)

-- the code left what it ran on, and all that it left is told
pub run_told : (d : Driver) (s : State) (m : Machine) (past : Past) (view : List Cell) (rest : ℕ) (copy : Memory) (c0 c : Copied) (e : Event) → c0 ≡ copied past copy view copy → SerialsRise copy
    → RanTo copy_accesses d.user (held_in d s) c0 rest e (held_of d.program m) c (rest - m.used) → put_runs (changes c.view c.agreed c.memory) c.agreed ≡ c.memory
run_told d s m past view rest copy c0 c e begun rises ran =
    let r : RanTo copy_accesses d.user (held_in d s) (copied past copy view copy) rest e (held_of d.program m) c (rest - m.used) =
    subst (λ (x : Copied). RanTo copy_accesses d.user (held_in d s) x rest e (held_of d.program m) c (rest - m.used)) begun ran in
    tells_all past copy view c rises (left_of_run d.user (held_in d s) (held_of d.program m) past copy view c rest (rest - m.used) rises e r)

-- and its births, deaths and pairs stay
pub run_past : (d : Driver) (s : State) (m : Machine) (past : Past) (view : List Cell) (rest : ℕ) (copy : Memory) (c0 c : Copied) (e : Event) → c0 ≡ copied past copy view copy → SerialsRise copy
    → RanTo copy_accesses d.user (held_in d s) c0 rest e (held_of d.program m) c (rest - m.used) → c.past ≡ past
run_past d s m past view rest copy c0 c e begun rises ran =
    let r : RanTo copy_accesses d.user (held_in d s) (copied past copy view copy) rest e (held_of d.program m) c (rest - m.used) =
    subst (λ (x : Copied). RanTo copy_accesses d.user (held_in d s) x rest e (held_of d.program m) c (rest - m.used)) begun ran in
    (left_of_run d.user (held_in d s) (held_of d.program m) past copy view c rest (rest - m.used) rises e r).lived
