-- A reply is the same whatever fuel it is made with, as long as the fuel is above the ticks that the messages grant.
use Rattle.std.proofs.Common.{◌≡◌, ℕ, suc, ◌+◌, ◌<◌, ◌≤◌, Bool, true, false, List, [], ◌∷◌, ◌++◌, map, Ok, Err, refl, sym, ◌∙◌, ap, le_refl, arith}
use mathlib.Core.Path.{fun_ext}
use Rattle.mdr_meaning.proofs.CutLaws.{cut_cut}
use Rattle.mdr_meaning.proofs.FuelLaws.{started_fuel_is_no_matter}
use Rattle.mdr_meaning.proofs.WalkLaws.{walk_cut}
use Rattle.mdr_meaning.specs.declared.wire.Wire.{Wire}
use Rattle.mdr_meaning.specs.Bodies.{started}
use Rattle.mdr_meaning.specs.Cut.{cut}
use Rattle.mdr_meaning.specs.Tree.{Tree}
use Rattle.mdr_meaning.specs.Walk.{Reached, Walked, cut_reached, walk, walked}
use Rattle.mdr_model.specs.declared.memory.Cell.{Cell}
use Rattle.mdr_model.specs.declared.message.Call.{Call}
use Rattle.mdr_model.specs.declared.message.Message.{Message}
use Rattle.mdr_model.specs.declared.message.Message.TheVariants as message
use Rattle.mdr_model.specs.KernelState.{Reading}
use Rattle.mdr_model.specs.Memory.{Memory}
use Rattle.mdr_model.specs.User.{allowance, granted}
use Rattle.mdr_model.proofs.FuelLaws.{allowance-append, allowance_one}
use Rattle.mdr_split.specs.Fuel.{RepliesTakeAnyFuel, cut_delivered, cut_down, cut_user, cut_work}
use Rattle.mdr_split.specs.User.{AwaitsAnswer, AwaitsBack, Delivered, Down, Nothing, Refuses, Runs, User, Work, call_fits, deliver, done, first_user, guarded, opened, replied, replied_to, resting, user_after, user_reply, when_fits}
use Rattle.mdr_watched.specs.Driver.{Driver}

-- ---- messages in turn

pub user_after-append : (d : Driver) (fuel : ℕ) (u : User) (xs ys : List Reading) → user_after d fuel u (xs ++ ys) ≡ user_after d fuel (user_after d fuel u xs) ys
unfolding user_after
user_after-append d fuel u [] ys = refl
user_after-append d fuel u (x ∷ xs) ys = user_after-append d fuel (deliver d fuel u x).user xs ys

-- ---- cuts of what the user half holds

cut_cut_down : (q s : ℕ) (down : Down) → q ≤ s → cut_down q (cut_down s down) ≡ cut_down q down
cut_cut_down q s down fewer =
    ap (λ (goes : Wire → Tree). record { stub = down.stub; func = down.func; depth = down.depth; goes = goes }) (fun_ext (λ v. cut_cut q s fewer (down.goes v)))

pub cut_cut_below : (q s : ℕ) (below : List Down) → q ≤ s → map (cut_down q) (map (cut_down s) below) ≡ map (cut_down q) below
cut_cut_below q s [] fewer = refl
cut_cut_below q s (down ∷ below) fewer =
    ap (λ (x : Down). x ∷ map (cut_down q) (map (cut_down s) below)) (cut_cut_down q s down fewer)
    ∙ ap (λ (xs : List Down). cut_down q down ∷ xs) (cut_cut_below q s below fewer)

cut_cut_work : (q s : ℕ) (work : Work) → q ≤ s → cut_work q (cut_work s work) ≡ cut_work q work
cut_cut_work q s Nothing fewer = refl
cut_cut_work q s (AwaitsBack down below) fewer =
    ap (λ (x : Down). AwaitsBack x (map (cut_down q) (map (cut_down s) below))) (cut_cut_down q s down fewer)
    ∙ ap (AwaitsBack (cut_down q down)) (cut_cut_below q s below fewer)
cut_cut_work q s (AwaitsAnswer stub asked view left goes below) fewer =
    ap (λ (k : List Wire → Tree). AwaitsAnswer stub asked view left k (map (cut_down q) (map (cut_down s) below)))
    (fun_ext (λ vs. cut_cut (q + left) (s + left) (omega arith) (goes vs)))
    ∙ ap (AwaitsAnswer stub asked view left (λ vs. cut (q + left) (goes vs))) (cut_cut_below q s below fewer)

cut_cut_user : (q s : ℕ) (u : User) → q ≤ s → cut_user q (cut_user s u) ≡ cut_user q u
cut_cut_user q s u fewer = ap (λ (work : Work). record { agreed = u.agreed; entered = u.entered; work = work }) (cut_cut_work q s u.work fewer)

-- users that are the same up to a cut are so up to a shorter one
pub same_fewer : (q s : ℕ) (u v : User) → q ≤ s → cut_user s u ≡ cut_user s v → cut_user q u ≡ cut_user q v
same_fewer q s u v fewer same = sym (cut_cut_user q s u fewer) ∙ ap (cut_user q) same ∙ cut_cut_user q s v fewer

-- trees that are the same up to a cut are so up to a shorter one
shorter : (q s : ℕ) (t t' : Tree) → q ≤ s → cut s t ≡ cut s t' → cut q t ≡ cut q t'
shorter q s t t' fewer same = sym (cut_cut q s fewer t) ∙ ap (cut q) same ∙ cut_cut q s fewer t'

-- ---- one message

-- a reply and what is held after it depend on what was reached up to a cut
pub replied_cut : (r stub : ℕ) (entered : List ℕ) (view : List Cell) (rest : ℕ) (copy m : Memory) (below : List Down) (left : ℕ) (x : Reached)
    → cut_delivered r (replied stub entered view rest copy m below left (cut_reached (left + r) x)) ≡ cut_delivered r (replied stub entered view rest copy m below left x)
unfolding replied
replied_cut r stub entered view rest copy m below left Reached.Idles = refl
replied_cut r stub entered view rest copy m below left (Reached.Opens k) = refl
replied_cut r stub entered view rest copy m below left (Reached.Ended v t) = refl
replied_cut r stub entered view rest copy m below left (Reached.Stopped kind at) = refl
replied_cut r stub entered view rest copy m below left (Reached.Needs at depth t) = refl
replied_cut r stub entered view rest copy m below left (Reached.Asks asked k) =
    let d : Delivered = replied stub entered view rest copy m below left (Reached.Asks asked k) in
    ap (λ (k' : List Wire → Tree). record { reply = d.reply; user = record { agreed = d.user.agreed; entered = entered; work = AwaitsAnswer stub asked view left k' (map (cut_down r) below) } })
    (fun_ext (λ vs. cut_cut (r + left) (left + r) (omega arith) (k vs)))
replied_cut r stub entered view rest copy m below left (Reached.Crosses at func args depth k) =
    let d : Delivered = replied stub entered view rest copy m below left (Reached.Crosses at func args depth k) in
    let down_by : (Wire → Tree) → Down = λ k'. record { stub = stub; func = func; depth = depth; goes = k' } in
    ap (λ (k' : Wire → Tree). record { reply = d.reply; user = record { agreed = d.user.agreed; entered = entered; work = AwaitsBack (down_by k') (map (cut_down r) below) } })
    (fun_ext (λ v. cut_cut r (left + r) (omega arith) (k v)))

cut_resting : (r : ℕ) (below : List Down) → cut_work r (resting below) ≡ resting (map (cut_down r) below)
cut_resting r [] = refl
cut_resting r (down ∷ below) = refl

-- an upcall that ends leaves the downcalls below it up to the same cut
same_resting : (r : ℕ) (below below' : List Down) → map (cut_down r) below ≡ map (cut_down r) below' → cut_work r (resting below) ≡ cut_work r (resting below')
same_resting r below below' same = cut_resting r below ∙ ap resting same ∙ sym (cut_resting r below')

abbrev with_work : Delivered → Work → Delivered
with_work d work = record { reply = d.reply; user = record { agreed = d.user.agreed; entered = d.user.entered; work = work } }

resting_in : (d : Delivered) {work work' : Work} → work ≡ work' → with_work d work ≡ with_work d work'
resting_in d same = ap (with_work d) same

-- and so does each reply
replied_below : (r stub : ℕ) (entered : List ℕ) (view : List Cell) (rest : ℕ) (copy m : Memory) (below below' : List Down) (left : ℕ) (x : Reached) → map (cut_down r) below ≡ map (cut_down r) below'
    → cut_delivered r (replied stub entered view rest copy m below left x) ≡ cut_delivered r (replied stub entered view rest copy m below' left x)
unfolding replied
replied_below r stub entered view rest copy m below below' left Reached.Idles same = resting_in (replied stub entered view rest copy m below left Reached.Idles) (same_resting r below below' same)
replied_below r stub entered view rest copy m below below' left (Reached.Opens k) same = resting_in (replied stub entered view rest copy m below left (Reached.Opens k)) (same_resting r below below' same)
replied_below r stub entered view rest copy m below below' left (Reached.Ended v t) same = resting_in (replied stub entered view rest copy m below left (Reached.Ended v t)) (same_resting r below below' same)
replied_below r stub entered view rest copy m below below' left (Reached.Stopped kind at) same = refl
replied_below r stub entered view rest copy m below below' left (Reached.Needs at depth t) same = refl
replied_below r stub entered view rest copy m below below' left (Reached.Asks asked k) same =
    let d : Delivered = replied stub entered view rest copy m below left (Reached.Asks asked k) in
    ap (λ (ds : List Down). with_work d (AwaitsAnswer stub asked view left (λ vs. cut (r + left) (k vs)) ds)) same
replied_below r stub entered view rest copy m below below' left (Reached.Crosses at func args depth k) same =
    let d : Delivered = replied stub entered view rest copy m below left (Reached.Crosses at func args depth k) in
    ap (λ (ds : List Down). with_work d (AwaitsBack (record { stub = stub; func = func; depth = depth; goes = λ v. cut r (k v) }) ds)) same

abbrev cut_walked : ℕ → Walked Memory → Walked Memory
cut_walked r w = walked (cut_reached (w.left + r) w.reached) w.memory w.left

-- trees that are the same up to a cut behind the ticks that they run with are replied to alike
same_run : (r s : ℕ) (t t' : Tree) (rest stub : ℕ) (entered : List ℕ) (view : List Cell) (copy : Memory) (below below' : List Down) (u u' : User) → r + rest ≤ s → cut s t ≡ cut s t' → map (cut_down r) below ≡ map (cut_down r) below'
    → cut_delivered r (done u (Runs t rest stub entered view copy below)) ≡ cut_delivered r (done u' (Runs t' rest stub entered view copy below'))
same_run r s t t' rest stub entered view copy below below' u u' fits same waits =
    sym (replied_at t) ∙ ap reply_to same_walk ∙ replied_at t' ∙ replied_below r stub entered view rest copy (reached t').memory below below' (reached t').left (reached t').reached waits
  where
    reply_to : Walked Memory → Delivered
    reply_to w = cut_delivered r (replied_to stub entered view rest copy below w)

    reached : Tree → Walked Memory
    reached x = walk (guarded view) rest x copy

    replied_at : (x : Tree) → reply_to (cut_walked r (reached x)) ≡ reply_to (reached x)
    replied_at x = replied_cut r stub entered view rest copy (reached x).memory below (reached x).left (reached x).reached

    same_walk : cut_walked r (reached t) ≡ cut_walked r (reached t')
    same_walk =
        sym (walk_cut (guarded view) rest r t copy)
        ∙ ap (λ (x : Tree). walk (guarded view) rest x copy) (shorter (rest + r) s t t' (omega arith) same)
        ∙ walk_cut (guarded view) rest r t' copy

-- a refused message leaves what is held
same_refused : (reason r : ℕ) (u u' : User) → cut_user r u ≡ cut_user r u' → cut_delivered r (done u (Refuses reason)) ≡ cut_delivered r (done u' (Refuses reason))
same_refused reason r u u' users = ap (λ (v : User). record { reply = message.Refuse reason; user = v }) users

same_done :
    (b : Bool) (r s : ℕ) (t t' : Tree) (rest stub : ℕ) (entered : List ℕ) (view : List Cell) (copy : Memory) (below below' : List Down) (u u' : User) → r + rest ≤ s → cut s t ≡ cut s t' → map (cut_down r) below ≡ map (cut_down r) below' → cut_user r u ≡ cut_user r u'
    → cut_delivered r (done u (when_fits b (Runs t rest stub entered view copy below))) ≡ cut_delivered r (done u' (when_fits b (Runs t' rest stub entered view copy below')))
same_done true r s t t' rest stub entered view copy below below' u u' fits same waits users = same_run r s t t' rest stub entered view copy below below' u u' fits same waits
same_done false r s t t' rest stub entered view copy below below' u u' fits same waits users = same_refused 3 r u u' users

module _ (d : Driver) where
  -- the tree of a function that is called, with so much fuel
  abbrev begins : ℕ → Call → Tree
  begins n call = started d.user n call.func call.args call.depth Tree.Idle

  same_begin : (n n' r : ℕ) (call : Call) → r + call.rest < n → r + call.rest < n' → cut (r + call.rest) (begins n call) ≡ cut (r + call.rest) (begins n' call)
  same_begin n n' r call less less' = started_fuel_is_no_matter d.user n n' (r + call.rest) call.func less less' call.args call.depth Tree.Idle

  -- a message needs what is held up to the ticks that it grants and those that come later, and fuel for them
  opened_cut :
      (n n' r : ℕ) (copy : Memory) (entered : List ℕ) (work : Work) (x : Message) (u u' : User) → r + granted (Ok x) < n → r + granted (Ok x) < n' → cut_user r u ≡ cut_user r u'
      → cut_delivered r (done u (opened d n copy entered work x)) ≡ cut_delivered r (done u' (opened d n' copy entered (cut_work (r + granted (Ok x)) work) x))
  unfolding opened call_fits
  opened_cut n n' r copy entered Nothing (message.Call call) u u' less less' users =
      same_done _ r (r + call.rest) (begins n call) (begins n' call) call.rest _ _ _ _ [] [] u u' (le_refl (r + call.rest)) (same_begin n n' r call less less') refl users
  opened_cut n n' r copy entered Nothing _ u u' less less' users = same_refused 2 r u u' users
  opened_cut n n' r copy entered (AwaitsBack down below) (message.Call call) u u' less less' users =
      same_done _ r (r + call.rest) (begins n call) (begins n' call) call.rest _ _ _ _ (down ∷ below) (map (cut_down (r + call.rest)) (down ∷ below)) u u' (le_refl (r + call.rest))
      (same_begin n n' r call less less') (sym (cut_cut_below r (r + call.rest) (down ∷ below) (omega arith))) users
  opened_cut n n' r copy entered (AwaitsBack down below) (message.Back back) u u' less less' users =
      let s : ℕ = r + back.rest in
      same_done _ r s (down.goes back.result) (cut s (down.goes back.result)) back.rest _ _ _ _ below (map (cut_down s) below) u u' (le_refl s)
      (sym (cut_cut s s (le_refl s) (down.goes back.result))) (sym (cut_cut_below r s below (omega arith))) users
  opened_cut n n' r copy entered (AwaitsBack down below) _ u u' less less' users = same_refused 2 r u u' users
  opened_cut n n' r copy entered (AwaitsAnswer stub asked seen left goes below) (message.Answer answer) u u' less less' users =
      let s : ℕ = r + 0 + left in
      same_done _ r s (goes answer.results) (cut s (goes answer.results)) left _ _ _ _ below (map (cut_down (r + 0)) below) u u' (omega arith)
      (sym (cut_cut s s (le_refl s) (goes answer.results))) (sym (cut_cut_below r (r + 0) below (omega arith))) users
  opened_cut n n' r copy entered (AwaitsAnswer stub asked seen left goes below) _ u u' less less' users = same_refused 2 r u u' users

  deliver_cut : (n n' r : ℕ) (u : User) (x : Reading) → r + granted x < n → r + granted x < n' → cut_delivered r (deliver d n u x) ≡ cut_delivered r (deliver d n' (cut_user (r + granted x) u) x)
  unfolding deliver
  deliver_cut n n' r u (Ok x) less less' =
      opened_cut n n' r u.agreed u.entered u.work x u (cut_user (r + granted (Ok x)) u) less less' (sym (cut_cut_user r (r + granted (Ok x)) u (omega arith)))
  deliver_cut n n' r u (Err f) less less' = same_refused 1 r u (cut_user (r + 0) u) (sym (cut_cut_user r (r + 0) u (omega arith)))

  pub same_deliver : (n n' r : ℕ) (u u' : User) (x : Reading) → r + granted x < n → r + granted x < n' → cut_user (r + granted x) u ≡ cut_user (r + granted x) u'
      → cut_delivered r (deliver d n u x) ≡ cut_delivered r (deliver d n' u' x)
  same_deliver n n' r u u' x less less' users =
      deliver_cut n n' r u x less less'
      ∙ ap (λ (v : User). cut_delivered r (deliver d n' v x)) users
      ∙ sym (deliver_cut n' n' r u' x less' less')

  -- messages in turn need what is held up to all the ticks that they grant
  pub same_after : (n n' r : ℕ) (u u' : User) (xs : List Reading) → r + allowance xs < n → r + allowance xs < n' → cut_user (r + allowance xs) u ≡ cut_user (r + allowance xs) u'
      → cut_user r (user_after d n u xs) ≡ cut_user r (user_after d n' u' xs)
  unfolding allowance user_after
  same_after n n' r u u' [] less less' users = same_fewer r (r + 0) u u' (omega arith) users
  same_after n n' r u u' (x ∷ xs) less less' users =
      same_after n n' r (deliver d n u x).user (deliver d n' u' x).user xs (omega arith) (omega arith)
      (ap (λ (x' : Delivered). x'.user) (same_deliver n n' (r + allowance xs) u u' x (omega arith) (omega arith)
      (same_fewer (r + allowance xs + granted x) (r + (granted x + allowance xs)) u u' (omega arith) users)))

-- ---- the reply

-- the reply made with any fuel above the ticks that the messages grant
pub reply_with_fuel : RepliesTakeAnyFuel
unfolding user_reply
reply_with_fuel d fuel before last less =
    let n : ℕ = suc (allowance (before ++ last ∷ [])) in
    let all : allowance (before ++ last ∷ []) ≡ allowance before + granted last = omega (arith, allowance-append before (last ∷ []), allowance_one last) in
    ap (λ (x : Delivered). x.reply) (same_deliver d n fuel 0 (user_after d n (first_user d) before) (user_after d fuel (first_user d) before) last (omega arith) (omega arith)
    (same_after d n fuel (0 + granted last) (first_user d) (first_user d) before (omega arith) (omega arith) refl))
