-- From the reply to one message to the replies to messages in turn.
use Rattle.std.proofs.Common.{◌≡◌, ℕ, suc, ◌+◌, ◌≤◌, true, false, List, [], ◌∷◌, ◌++◌, Ok, Err, refl, sym, ◌∙◌, ap, subst, append-nil, append_assoc, le_trans, arith}
use Rattle.mdr_core.specs.declared.plan.Plan.{Plan}
use Rattle.mdr_core.specs.declared.program.Program.{Program}
use Rattle.mdr_events.specs.Held.{bare}
use Rattle.mdr_events.specs.Steps.{child}
use Rattle.mdr_meaning.specs.Bodies.{known_of, user_side}
use Rattle.mdr_meaning.specs.Walk.{Walked, walk}
use Rattle.mdr_model.specs.declared.message.Fault.{Fault}
use Rattle.mdr_model.specs.declared.message.Message.{Message}
use Rattle.mdr_model.specs.declared.message.Message.TheVariants as message
use Rattle.mdr_model.specs.KernelState.{Reading}
use Rattle.mdr_model.specs.Memory.{Memory}
use Rattle.mdr_model.specs.Refusals.{is_refusal}
use Rattle.mdr_model.specs.User.{allowance, granted}
use Rattle.mdr_model.proofs.FuelLaws.{allowance-append, allowance_one}
use Rattle.mdr_model.proofs.Tests.{not_both}
use Rattle.mdr_plain.specs.Storage.{first_memory}
use Rattle.mdr_split.specs.User.{Delivered, Opened, User, deliver, done, first_user, guarded, user_after, user_reply}
use Rattle.mdr_split.proofs.FuelLaws.{reply_with_fuel, same_deliver, user_after-append}
use Rattle.mdr_user_memory.specs.Kept.{IsLived}
use Rattle.mdr_user_memory.specs.Lived.{Lived, lived_of}
use Rattle.mdr_watched.specs.Driver.{Driver, driver_of}
use Rattle.mdr_user_code.specs.declared.opening.Opening.TheVariants as opening
use Rattle.mdr_user_code.specs.declared.opening.Turn.{Turn}
use Rattle.mdr_user_code.specs.declared.state.Awaits.{Awaits}
use Rattle.mdr_user_code.specs.declared.state.Awaits.TheVariants as awaits
use Rattle.mdr_user_code.specs.declared.state.State.{State}
use Rattle.mdr_user_code.specs.Opening.{below_for, func_for, opening_for, opens_as, tree_for}
use Rattle.mdr_user_code.specs.Replying.{Proceeds}
use Rattle.mdr_user_code.specs.Standing.{Follows, Opens, Replies, downs_of, held_in, kept_by, lived_after, lived_behind, lived_from, opens_below, opens_by, replies_so, user_memory, user_of, work_by}
use Rattle.mdr_user_code.proofs.OpeningLaws.{opens_is, rest_is}
use Rattle.mdr_split.proofs.RefusalLaws.{no_refusal}
use Rattle.mdr_split.specs.Fuel.{cut_delivered, cut_user}

-- ---- one message

pub replies_refused : (d : Driver) (s : State) (m reply : Message) (reason : ℕ) → Opens d s → reply ≡ message.Refuse reason → opening_for d s m ≡ opening.Refuses reason → Replies d s (Ok m) reply s
unfolding deliver
replies_refused d s m reply reason opens same e = record {
  kept = omega arith;
  opens = opens;
  by = λ fuel more fits.
      ap (λ (o : Opened). cut_delivered more (done (user_of d fuel s) o)) (opens_is d fuel s m ∙ ap (opens_as (tree_for d fuel s m) (func_for s m) (downs_of d fuel (below_for s m))) e)
      ∙ ap (λ (r : Message). cut_delivered more (replies_so d fuel r s)) (sym same);
  refused = λ told. refl;
  lived = λ l h. subst (λ b. IsLived (lived_behind d.program b (Ok m) l) s.memory) (sym (ap is_refusal same)) h;
}

unread : (d : Driver) (s : State) (f : Fault) → Opens d s → Replies d s (Err f) (message.Refuse 1) s
unfolding deliver
unread d s f opens = record { kept = omega arith; opens = opens; by = λ fuel more fits. refl; refused = λ told. refl; lived = λ l h. h }

pub replies_unread : (d : Driver) (s : State) (x : Reading) (f : Fault) (reply : Message) → Opens d s → x ≡ Err f → reply ≡ message.Refuse 1 → Replies d s x reply s
replies_unread d s x f reply opens is same = subst (λ y. Replies d s y reply s) (sym is) (subst (λ r. Replies d s (Err f) r s) (sym same) (unread d s f opens))

goes_unrefused : (d : Driver) (s s' : State) (m : Message) (turn : Turn) (reply : Message) → Proceeds d s m turn reply s' → is_refusal reply ≡ false
goes_unrefused d s s' m turn reply p =
    let w : Walked Memory = walk (guarded turn.sight.view) turn.rest (tree_for d (turn.rest + 0) s m) turn.sight.copy in
    sym (ap (λ (y : Delivered). is_refusal y.reply) (p.by (turn.rest + 0) 0 (omega arith))) ∙ no_refusal (func_for s m) turn.entered turn.sight.view turn.rest turn.sight.copy w.memory (downs_of d (turn.rest + 0) (below_for s m)) w.left w.reached

pub replies_goes : (d : Driver) (s s' : State) (m : Message) (turn : Turn) (reply : Message) → opening_for d s m ≡ opening.Goes turn → Proceeds d s m turn reply s' → Replies d s (Ok m) reply s'
unfolding deliver
replies_goes d s s' m turn reply e p =
    let rest : turn.rest ≤ kept_by s.awaits + granted (Ok m) = rest_is d s turn m e in
    record {
      kept = le_trans p.kept rest;
      opens = p.opens;
      by = λ fuel more fits.
          ap (λ (o : Opened). cut_delivered more (done (user_of d fuel s) o)) (opens_is d fuel s m ∙ ap (opens_as (tree_for d fuel s m) (func_for s m) (downs_of d fuel (below_for s m))) e)
          ∙ p.by fuel more (omega (arith, rest, fits));
      refused = λ told. absurd (not_both told (goes_unrefused d s s' m turn reply p));
      lived = λ l h. subst (λ b. IsLived (lived_behind d.program b (Ok m) l) s'.memory) (sym (goes_unrefused d s s' m turn reply p)) (p.lived l h);
    }

-- ---- messages in turn

-- the last of some messages
lived_last : (d : Driver) (before : List Reading) (l : Lived) (xs : List Reading) (x : Reading) → lived_from d before l (xs ++ x ∷ []) ≡ lived_behind d.program (is_refusal (user_reply d (before ++ xs) x)) x (lived_from d before l xs)
unfolding lived_from
lived_last d before l [] x = ap (λ (b : List Reading). lived_behind d.program (is_refusal (user_reply d b x)) x l) (sym (append-nil before))
lived_last d before l (y ∷ xs) x =
    let l' : Lived = lived_behind d.program (is_refusal (user_reply d before y)) y l in
    lived_last d (before ++ y ∷ []) l' xs x
    ∙ ap (λ (b : List Reading). lived_behind d.program (is_refusal (user_reply d b x)) x (lived_from d (before ++ y ∷ []) l' xs)) (append_assoc before (y ∷ []) xs)

pub begins_so : (program : Program) (plan : Plan) (s : State) → s.memory.agreed ≡ first_memory (known_of program) → s.entered ≡ [] → s.awaits ≡ awaits.Nothing → s.below ≡ []
    → IsLived (lived_of (first_memory (known_of program))) s.memory → Follows (driver_of program plan) [] s
unfolding user_after first_user user_side allowance lived_from
begins_so program plan s agreed entered none empty lived = record {
  kept = let zero : kept_by s.awaits ≡ 0 = ap kept_by none in omega (arith, zero);
  opens = (subst (λ (a : Awaits). opens_by a (held_in (driver_of program plan) s)) (sym none) tt, subst (opens_below (driver_of program plan)) (sym empty) tt);
  by = λ fuel more fits.
      let d : Driver = driver_of program plan in
      λ i. cut_user more (record { agreed = sym agreed i; entered = sym entered i; work = work_by (sym none i) s.func s.view (child (bare d.user fuel (held_in d s))) (downs_of d fuel s.below) });
  lived = lived;
}

module _ (d : Driver) (before : List Reading) (s s' : State) (x : Reading) (reply : Message) (follows : Follows d before s) (replies : Replies d s x reply s') where
  abbrev held : (fuel : ℕ) → User
  held fuel = user_after d (suc fuel) (first_user d) before

  -- the message finds what the state stands for
  delivered_so : (fuel more : ℕ) → allowance before + granted x + more ≤ fuel → cut_delivered more (deliver d (suc fuel) (held fuel) x) ≡ cut_delivered more (replies_so d fuel reply s')
  delivered_so fuel more fits =
      let kept = follows.kept in
      same_deliver d (suc fuel) (suc fuel) more (held fuel) (user_of d fuel s) x (omega (arith, fits)) (omega (arith, fits)) (follows.by fuel (more + granted x) (omega (arith, fits)))
      ∙ replies.by fuel more (omega (arith, fits, kept))

  pub reply_is : reply ≡ user_reply d before x
  reply_is =
      let fuel : ℕ = allowance before + granted x in
      sym (reply_with_fuel d (suc fuel) before x (omega arith) ∙ ap (λ (y : Delivered). y.reply) (delivered_so fuel 0 (omega arith)))

  all_granted : allowance (before ++ x ∷ []) ≡ allowance before + granted x
  all_granted = omega (arith, allowance-append before (x ∷ []), allowance_one x)

  pub follows_on : Follows d (before ++ x ∷ []) s'
  unfolding user_after
  follows_on = record {
    kept = let one = follows.kept in let two = replies.kept in omega (arith, all_granted, one, two);
    opens = replies.opens;
    by = λ fuel more fits.
        ap (cut_user more) (user_after-append d (suc fuel) (first_user d) before (x ∷ []))
        ∙ ap (λ (y : Delivered). y.user) (delivered_so fuel more (omega (arith, all_granted, fits)));
    lived =
        subst (λ (l : Lived). IsLived l s'.memory)
        (ap (λ (r : Message). lived_behind d.program (is_refusal r) x (lived_after d before)) reply_is ∙ sym (lived_last d [] (lived_of (first_memory (known_of d.program))) before x))
        (replies.lived (lived_after d before) follows.lived);
  }

-- what is agreed on after messages
pub agreed_is : (d : Driver) (before : List Reading) (s : State) → Follows d before s → s.memory.agreed ≡ user_memory d before
agreed_is d before s f = sym (ap (λ (u : User). u.agreed) (f.by (allowance before) 0 (omega arith)))
