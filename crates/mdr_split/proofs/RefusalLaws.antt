-- Refused messages: one changes nothing, and the reply to some messages is the reply to those that were accepted.
use Rattle.std.proofs.Common.{◌≡◌, ℕ, suc, ◌+◌, ◌<◌, ◌≤◌, Bool, true, false, cond, List, [], ◌∷◌, ◌++◌, Ok, Err, refl, sym, ◌∙◌, ap, arith}
use Rattle.mdr_meaning.specs.Walk.{Reached, Walked, walk}
use Rattle.mdr_model.specs.declared.memory.Cell.{Cell}
use Rattle.mdr_model.specs.KernelState.{Reading}
use Rattle.mdr_model.specs.Memory.{Memory}
use Rattle.mdr_model.specs.Refusals.{is_refusal}
use Rattle.mdr_model.specs.User.{allowance, granted}
use Rattle.mdr_model.proofs.FuelLaws.{allowance-append, allowance_one}
use Rattle.mdr_model.proofs.Tests.{not_both}
use Rattle.mdr_split.specs.Refusals.{RefusedAreLeftOut, RefusedLeavesUser, accepted}
use Rattle.mdr_split.specs.User.{Delivered, Down, Opened, Refuses, Runs, User, deliver, done, first_user, guarded, opened, replied, user_after, user_reply}
use Rattle.mdr_split.specs.Fuel.{cut_delivered, cut_user}
use Rattle.mdr_split.proofs.FuelLaws.{reply_with_fuel, same_deliver, same_fewer, user_after-append}
use Rattle.mdr_watched.specs.Driver.{Driver}

-- ---- a refused message

-- what runs is never refused
pub no_refusal : (stub : ℕ) (entered : List ℕ) (view : List Cell) (rest : ℕ) (copy m : Memory) (below : List Down) (left : ℕ) (x : Reached) → is_refusal (replied stub entered view rest copy m below left x).reply ≡ false
unfolding replied
no_refusal stub entered view rest copy m below left Reached.Idles = refl
no_refusal stub entered view rest copy m below left (Reached.Opens k) = refl
no_refusal stub entered view rest copy m below left (Reached.Ended v t) = refl
no_refusal stub entered view rest copy m below left (Reached.Stopped kind at) = refl
no_refusal stub entered view rest copy m below left (Reached.Needs at depth t) = refl
no_refusal stub entered view rest copy m below left (Reached.Asks asked k) = refl
no_refusal stub entered view rest copy m below left (Reached.Crosses at func args depth k) = refl

refused_done : (u : User) (o : Opened) → is_refusal (done u o).reply ≡ true → (done u o).user ≡ u
refused_done u (Refuses reason) e = refl
refused_done u (Runs tree rest stub entered view copy below) e =
    let w : Walked Memory = walk (guarded view) rest tree copy in
    absurd (not_both e (no_refusal stub entered view rest copy w.memory below w.left w.reached))

pub refused_leaves_user : RefusedLeavesUser
unfolding deliver
refused_leaves_user d fuel u (Ok m) e = refused_done u (opened d fuel u.agreed u.entered u.work m) e
refused_leaves_user d fuel u (Err f) e = refl

-- ---- messages in turn

ticks_more : (xs : List Reading) (x : Reading) → allowance (xs ++ x ∷ []) ≡ allowance xs + granted x
ticks_more xs x = allowance-append xs (x ∷ []) ∙ ap (λ (n : ℕ). allowance xs + n) (allowance_one x)

module _ (d : Driver) where
  -- those that are accepted grant no more than all
  accepted_grant : (before xs : List Reading) → allowance (accepted d before xs) ≤ allowance xs
  unfolding accepted allowance
  accepted_grant before [] = omega arith
  accepted_grant before (x ∷ xs) = by_test (is_refusal (user_reply d before x)) (accepted_grant (before ++ x ∷ []) xs)
    where
      by_test : (b : Bool) → allowance (accepted d (before ++ x ∷ []) xs) ≤ allowance xs
          → allowance (cond b (accepted d (before ++ x ∷ []) xs) (x ∷ accepted d (before ++ x ∷ []) xs)) ≤ granted x + allowance xs
      by_test true later = omega arith
      by_test false later = omega arith

  -- what the messages so far leave
  abbrev held : ℕ → List Reading → User
  held fuel xs = user_after d fuel (first_user d) xs

  held_more : (fuel : ℕ) (xs : List Reading) (x : Reading) → held fuel (xs ++ x ∷ []) ≡ (deliver d fuel (held fuel xs) x).user
  unfolding user_after
  held_more fuel xs x = user_after-append d fuel (first_user d) xs (x ∷ [])

  -- the accepted ones of some messages leave what all leave, up to the ticks that come later
  accepted_leave_same :
      (n n' r : ℕ) (before xs : List Reading) (u' : User) → r + allowance before + allowance xs < n → r + allowance (accepted d before xs) < n'
      → cut_user (r + allowance (accepted d before xs)) (held n before) ≡ cut_user (r + allowance (accepted d before xs)) u'
      → cut_user r (user_after d n (held n before) xs) ≡ cut_user r (user_after d n' u' (accepted d before xs))
  unfolding accepted allowance user_after
  accepted_leave_same n n' r before [] u' less less' same = same_fewer r (r + 0) (held n before) u' (omega arith) same
  accepted_leave_same n n' r before (x ∷ xs) u' less less' same =
      by_test (is_refusal (user_reply d before x)) refl less' same
      (λ v enough e. accepted_leave_same n n' r (before ++ x ∷ []) xs v (omega (arith, ticks_more before x)) enough e)
    where
      u : User
      u = held n before

      next : User
      next = (deliver d n u x).user

      later : List Reading
      later = accepted d (before ++ x ∷ []) xs

      told : held n (before ++ x ∷ []) ≡ next
      told = held_more n before x

      by_test : (b : Bool) → is_refusal (user_reply d before x) ≡ b → r + allowance (cond b later (x ∷ later)) < n'
          → cut_user (r + allowance (cond b later (x ∷ later))) u ≡ cut_user (r + allowance (cond b later (x ∷ later))) u'
          → ((v : User) → r + allowance later < n' → cut_user (r + allowance later) (held n (before ++ x ∷ [])) ≡ cut_user (r + allowance later) v
          → cut_user r (user_after d n (held n (before ++ x ∷ [])) xs) ≡ cut_user r (user_after d n' v later))
          → cut_user r (user_after d n next xs) ≡ cut_user r (user_after d n' u' (cond b later (x ∷ later)))
      by_test true test enough e rest =
          let refused : is_refusal (deliver d n u x).reply ≡ true = ap is_refusal (sym (reply_with_fuel d n before x (omega arith))) ∙ test in
          let stays : next ≡ u = refused_leaves_user d n u x refused in
          ap (λ (v : User). cut_user r (user_after d n v xs)) (sym told) ∙ rest u' enough (ap (cut_user (r + allowance later)) (told ∙ stays) ∙ e)
      by_test false test enough e rest =
          let less_accepted : allowance later ≤ allowance xs = accepted_grant (before ++ x ∷ []) xs in
          let one : cut_user (r + allowance later) next ≡ cut_user (r + allowance later) (deliver d n' u' x).user =
          ap (λ (y : Delivered). y.user) (same_deliver d n n' (r + allowance later) u u' x (omega arith) (omega arith)
          (same_fewer (r + allowance later + granted x) (r + (granted x + allowance later)) u u' (omega arith) e)) in
          ap (λ (v : User). cut_user r (user_after d n v xs)) (sym told)
          ∙ rest (deliver d n' u' x).user (omega arith) (ap (cut_user (r + allowance later)) told ∙ one)

  -- the last message finds the same in both
  reply_to_accepted : (before : List Reading) (last : Reading) → user_reply d before last ≡ user_reply d (accepted d [] before) last
  unfolding allowance user_after
  reply_to_accepted before last = long ∙ ap (λ (x : Delivered). x.reply) same ∙ sym short
    where
      kept : List Reading
      kept = accepted d [] before

      n : ℕ
      n = suc (allowance before + granted last)

      n' : ℕ
      n' = suc (allowance kept + granted last)

      long : user_reply d before last ≡ (deliver d n (held n before) last).reply
      long = reply_with_fuel d n before last (omega arith)

      short : user_reply d kept last ≡ (deliver d n' (held n' kept) last).reply
      short = reply_with_fuel d n' kept last (omega arith)

      same : cut_delivered 0 (deliver d n (held n before) last) ≡ cut_delivered 0 (deliver d n' (held n' kept) last)
      same =
          same_deliver d n n' 0 (held n before) (held n' kept) last (omega arith) (omega arith)
          (accepted_leave_same n n' (0 + granted last) [] before (first_user d) (omega arith) (omega arith) refl)

pub refused_are_left_out : RefusedAreLeftOut
refused_are_left_out d before last = reply_to_accepted d before last
