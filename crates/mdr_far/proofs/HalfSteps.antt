-- The user half from message to message.
use Rattle.std.proofs.Common.{◌≡◌, ℕ, zero, suc, true, false, List, [], ◌∷◌, ◌++◌, length, Option, Some, None, slice_get, Result, Ok, Err, IfSome, IfOk, OnOk, refl, sym, ◌∙◌, ap, subst, append_assoc, append-nil}
use Rattle.std.specs.Prelude.{is_some}
use Rattle.mdr_core.specs.declared.code.Stmt.{Stmt}
use Rattle.mdr_core.specs.declared.plan.Half.{Half}
use Rattle.mdr_core.specs.declared.plan.Half.TheVariants.{Kernel, User}
use Rattle.mdr_core.specs.declared.plan.Plan.{Plan}
use Rattle.mdr_core.specs.declared.program.Func.{Func}
use Rattle.mdr_core.specs.declared.program.Program.{Program}
use Rattle.mdr_core.specs.Sound.{IsSound}
use Rattle.mdr_body.specs.Bodies.{body_rule}
use Rattle.mdr_body.specs.Uses.{first_use}
use Rattle.mdr_check.specs.Whole.{file_pieces}
use Rattle.mdr_check_half.specs.Suiting.{each_function, is_whole}
use Rattle.mdr_check_half.proofs.Accepted.{both, half_of, tests_of}
use Rattle.mdr_exchanges.specs.Runs.{sent_of}
use Rattle.mdr_exchanges.specs.Meanings.{Honest}
use Rattle.mdr_half_source.specs.Loads.{Loads}
use Rattle.mdr_honest.proofs.Halves.{half_is}
use Rattle.mdr_meaning.specs.Bodies.{body_by, body_from, body_of}
use Rattle.mdr_meaning.specs.Sides.{Body}
use Rattle.mdr_model.specs.Bytes.{readings}
use Rattle.mdr_model.specs.declared.message.Message.{Message}
use Rattle.mdr_model.specs.declared.message.Message.TheVariants.{Refuse}
use Rattle.mdr_model.specs.KernelState.{Reading}
use Rattle.mdr_model.specs.Reading.{reading_of}
use Rattle.mdr_model.specs.Text.{text}
use Rattle.mdr_model.proofs.RefusalLaws.{readings-append, shown_refusal}
use Rattle.mdr_msg.specs.WellFormed.{IsMessage}
use Rattle.mdr_outside.specs.declared.far.Exchange.{Exchange}
use Rattle.mdr_outside.specs.Far.{exchange}
use Rattle.mdr_over_bytes.specs.OverBytes.{IsHonestReply, user_reply_to_bytes}
use Rattle.mdr_program.specs.Parts.{parts_of}
use Rattle.mdr_split.specs.User.{user_reply}
use Rattle.mdr_typing.specs.Profile.{profile_rules}
use Rattle.mdr_user_code.specs.declared.state.State.{State}
use Rattle.mdr_track.specs.Tracked.{pairs_of}
use Rattle.mdr_user_code.specs.Standing.{Follows, IsFit, user_memory}
use Rattle.mdr_user_code.proofs.FollowLaws.{agreed_is}
use Rattle.mdr_user_memory.specs.Kept.{Kept}
use Rattle.mdr_user_memory.specs.Paired.{Paired}
use Rattle.mdr_watched.specs.Driver.{Driver, is_user, is_user_half}
use Rattle.mdr_far.proofs.Refusals.{replies_without}

-- ---- one message

-- a reply as bytes
pub honest_reply : (d : Driver) (before : List (List ℕ)) (last reply : List ℕ) (m : Message) → m ≡ user_reply d (readings before) (reading_of last) → IsMessage m → reply ≡ text m → IsHonestReply d before last reply
unfolding user_reply_to_bytes
honest_reply d before last reply m e fits is = record { spelled = subst IsMessage e fits; bytes = is ∙ ap text e }

-- the messages as they are read
pub follows_read : (d : Driver) (before : List (List ℕ)) (bytes : List ℕ) (r : Reading) (s : State) → r ≡ reading_of bytes → Follows d (readings before ++ r ∷ []) s → Follows d (readings (before ++ bytes ∷ [])) s
follows_read d before bytes r s e f =
    subst (λ (rs : List Reading). Follows d rs s) (ap (λ (x : Reading). readings before ++ x ∷ []) e ∙ sym (readings-append before (bytes ∷ []))) f

-- ---- the exchanges

sent_more : (es : List Exchange) (e : Exchange) → sent_of (es ++ e ∷ []) ≡ sent_of es ++ e.sent ∷ []
sent_more [] e = refl
sent_more (x ∷ es) e = ap (λ (bs : List (List ℕ)). x.sent ∷ bs) (sent_more es e)

pub follows_next : (d : Driver) (es es' : List Exchange) (s : State) (bytes reply : List ℕ) → es' ≡ es ++ exchange bytes (Some reply) ∷ [] → Follows d (readings (sent_of es ++ bytes ∷ [])) s → Follows d (readings (sent_of es')) s
follows_next d es es' s bytes reply added f =
    subst (λ (bs : List (List ℕ)). Follows d (readings bs) s) (sym (ap sent_of added ∙ sent_more es (exchange bytes (Some reply)))) f

honest_after : (d : Driver) (before : List (List ℕ)) (es : List Exchange) (bytes reply : List ℕ) → IsHonestReply d (before ++ sent_of es) bytes reply → Honest d before es
    → Honest d before (es ++ exchange bytes (Some reply) ∷ [])
honest_after d before [] bytes reply is h = (subst (λ (b : List (List ℕ)). IsHonestReply d b bytes reply) (append-nil before) is, tt)
honest_after d before (x ∷ es) bytes reply is h =
    (h.0, honest_after d (before ++ x.sent ∷ []) es bytes reply (subst (λ (b : List (List ℕ)). IsHonestReply d b bytes reply) (sym (append_assoc before (x.sent ∷ []) (sent_of es))) is) h.1)

pub honest_more : (d : Driver) (es es' : List Exchange) (bytes reply : List ℕ) → es' ≡ es ++ exchange bytes (Some reply) ∷ [] → IsHonestReply d (sent_of es) bytes reply → Honest d [] es → Honest d [] es'
honest_more d es es' bytes reply added is h = subst (Honest d []) (sym added) (honest_after d [] es bytes reply is h)

-- a refused message changes no later reply
pub replies_on : (d : Driver) (es es' : List Exchange) (bytes reply : List ℕ) (reason : ℕ) → es' ≡ es ++ exchange bytes (Some reply) ∷ [] → IsHonestReply d (sent_of es) bytes reply → reply ≡ text (Refuse reason)
    → (more : List (List ℕ)) (last : List ℕ) → user_reply_to_bytes d (sent_of es' ++ more) last ≡ user_reply_to_bytes d (sent_of es ++ more) last
unfolding user_reply_to_bytes
replies_on d es es' bytes reply reason added is refused more last =
    let sent : sent_of es' ≡ sent_of es ++ bytes ∷ [] = ap sent_of added ∙ sent_more es (exchange bytes (Some reply)) in
    let messages : sent_of es' ++ more ≡ sent_of es ++ bytes ∷ more = ap (λ (xs : List (List ℕ)). xs ++ more) sent ∙ append_assoc (sent_of es) (bytes ∷ []) more in
    ap (λ (xs : List (List ℕ)). user_reply_to_bytes d xs last) messages
    ∙ replies_without d (sent_of es) bytes more last (shown_refusal (user_reply d (readings (sent_of es)) (reading_of bytes)) reason (sym is.bytes ∙ refused))

-- ---- loads

pub loaded_sound : (user text : List ℕ) (program : Program) (plan : Plan) → Loads user text program plan → IsSound program
loaded_sound user text program plan l = (half_is user text program plan l).sound

its_body : (f : Func) → is_some f.body ≡ true → (body : Body) × (body_by f f.body ≡ Some body)
its_body f h = of f.body h
  where
    of : (o : Option (List Stmt)) → is_some o ≡ true → (body : Body) × (body_by f o ≡ Some body)
    of None e = absurd (Prim.cc)
    of (Some b) e = (_, refl)

-- the functions of the user half have bodies
bodies_at : (hs : List Half) (fs : List Func) → each_function is_whole hs fs ≡ true → length hs ≡ length fs → (i : ℕ) → is_user_half (slice_get hs i) ≡ true → (body : Body) × (body_from (slice_get fs i) ≡ Some body)
bodies_at [] fs t l i u = absurd (Prim.cc)
bodies_at (h ∷ hs) [] t l i u = absurd (Prim.cc)
bodies_at (User ∷ hs) (f ∷ fs) t l zero u = its_body f (both (is_some f.body) (each_function is_whole hs fs) t).0
bodies_at (Kernel ∷ hs) (f ∷ fs) t l zero u = absurd (Prim.cc)
bodies_at (h ∷ hs) (f ∷ fs) t l (suc i) u = let s : length hs ≡ length fs = Prim.cc in bodies_at hs fs (both (is_whole h f) (each_function is_whole hs fs) t).1 s i u

user_bodies : (program : Program) (plan : Plan) → each_function is_whole plan.halves program.funcs ≡ true → length plan.halves ≡ length program.funcs → (func : ℕ) → is_user plan func ≡ true
    → (body : Body) × (body_of program func ≡ Some body)
unfolding body_of
user_bodies program plan t l func u = bodies_at plan.halves program.funcs t l func u

pub loaded_fit : (user text : List ℕ) (program : Program) (plan : Plan) → Loads user text program plan → IsFit plan program
loaded_fit user text program plan l =
    let halves : length plan.halves ≡ length program.funcs = ((half_is user text program plan l).suited).halves in
    let typed = (l.comes).typed in
    let half = half_of (file_pieces (body_rule profile_rules) first_use ((l.comes).tree).items) plan program typed in
    let whole = (tests_of plan (parts_of half.value) half.suits).whole in
    let same : (parts_of half.value).funcs ≡ program.funcs = ap (λ (p : Program). p.funcs) half.made in
    let tested : each_function is_whole plan.halves program.funcs ≡ true = subst (λ fs. each_function is_whole plan.halves fs ≡ true) same whole in
    record { halves = halves; bodies = user_bodies program plan tested halves }

-- ---- what holds of a half that isn't lost

pub at_some : {A : Type 0} (P : A → Type 0) (o : Option A) (x : A) → o ≡ Some x → IfSome o P → P x
at_some P None x e h = absurd (Prim.cc)
at_some P (Some y) x e h = let same : y ≡ x = Prim.cc in subst P same h

pub then_some : {A : Type 0} (P : A → Type 0) (o : Option A) (x : A) → o ≡ Some x → P x → IfSome o P
then_some P None x e h = absurd (Prim.cc)
then_some P (Some y) x e h = let same : y ≡ x = Prim.cc in subst P (sym same) h

-- a half with a state doesn't want memory
pub kept_wants : {A B : Type 0} (o : Option A) (x : A) (w : Option B) → o ≡ Some x → is_some o ≡ false → is_some w ≡ true
kept_wants None x w e none = absurd (Prim.cc)
kept_wants (Some y) x w e none = absurd (Prim.cc)

-- ---- what is ensured of a result that is Ok

pub at_ok : {A E : Type 0} (r : Result A E) (x : A) → r ≡ Ok x → (P : A → Type 0) → IfOk r P → P x
at_ok (Ok y) x e P h = let same : y ≡ x = Prim.cc in subst P same h
at_ok (Err f) x e P h = absurd (Prim.cc)

pub on_ok : {A E : Type 0} (r : Result A E) (x : A) → r ≡ Ok x → (P : Type 0) → OnOk r P → P
on_ok (Ok y) x e P h = h
on_ok (Err f) x e P h = absurd (Prim.cc)

-- the memory goes with the definition's
pub memory_paired : (d : Driver) (es : List Exchange) (s : State) (k : Kept) → Follows d (readings (sent_of es)) s → k ≡ s.memory → Paired k.agreed k.region.contents (pairs_of k.pairs)
    → Paired (user_memory d (readings (sent_of es))) k.region.contents (pairs_of k.pairs)
memory_paired d es s k f e p = subst (λ m. Paired m k.region.contents (pairs_of k.pairs)) (ap (λ (x : Kept). x.agreed) e ∙ agreed_is d (readings (sent_of es)) s f) p
