-- What a user half's text comes to, from one stage to the next.
use Rattle.std.proofs.Common.{◌≡◌, refl, sym, subst, ◌∙◌, ℕ, true, List, Option, Some, None, Result, Ok, Err}
use Rattle.std.specs.Prelude.{IfOk, MatchResult}
use Rattle.std.specs.Result.{result_ok}
use Rattle.mdr_core.specs.declared.memory_error.OutOfMemory.{OutOfMemory}
use Rattle.mdr_core.specs.declared.plan.Plan.{Plan}
use Rattle.mdr_core.specs.declared.program.Program.{Program}
use Rattle.mdr_core.specs.Sound.{HasFewNumbers}
use Rattle.mdr_syntax.specs.declared.error.LexError.{LexError}
use Rattle.mdr_syntax.specs.declared.token.Token.{Token}
use Rattle.mdr_syntax.specs.declared.tree.Tree.{Tree}
use Rattle.mdr_syntax.specs.Tokens.{tokens_of}
use Rattle.mdr_grammar.specs.Grammar.{Reads}
use Rattle.mdr_grammar.proofs.Exact.{one_tree, no_tree}
use Rattle.mdr_parse.specs.declared.error.ParseError.{ParseError}
use Rattle.mdr_parse.specs.declared.error.ParseError.TheVariants as parse
use Rattle.mdr_parse.specs.Parsing.{Parses}
use Rattle.mdr_faults.specs.declared.fault.Fault.{Fault}
use Rattle.mdr_faults.specs.Faults.{Checked, Right, IsFirst}
use Rattle.mdr_plan.specs.declared.plan_error.PlanKind.{PlanKind}
use Rattle.mdr_plan.specs.Texts.{IsFault, IsPlanText}
use Rattle.mdr_plan.proofs.Running.{no_fault}
use Rattle.mdr_half_source.specs.Loads.{AreRefused, ComesTo, Loads}
use Rattle.mdr_half_source.specs.Stages.{Finds, HasHalf, IsFaulty, IsMissing, IsNone, IsSmall, Judged, Reading, typed_half}

-- ---- programs

-- where there is a fault no program is right
faulty : (c : Checked Program) (f : Fault) → IsFirst f c → IsNone c
faulty c f i = λ program is. subst (λ (d : Checked Program). IsFirst f d) is i

pub judged_found : (c : Checked Program) (found : Result Program Fault) (o : Option Program) → o ≡ result_ok found → MatchResult found (λ p. c ≡ Right p) (λ f. IsFirst f c) → Judged c o
judged_found c (Ok program) o e is = subst (Judged c) (sym e) is
judged_found c (Err f) o e is = subst (Judged c) (sym e) (faulty c f is)

-- ---- tokens

-- what the tree means is what the tokens mean
read_tree : (plan : Plan) (ts : List Token) (tree : Tree) (o : Option Program) → Reads true ts tree → Judged (typed_half plan tree) o → Reading plan ts o
read_tree plan ts tree (Some program) r j = record { tree = tree; reads = r; right = j }
read_tree plan ts tree None r j = λ other s. subst (λ (t : Tree). IsNone (typed_half plan t)) (one_tree true ts tree other r s) j

pub read_found : (plan : Plan) (ts : List Token) (tree : Tree) (o : Result (Option Program) OutOfMemory) → Reads true ts tree → IfOk o (Judged (typed_half plan tree)) → IfOk o (Reading plan ts)
read_found plan ts tree (Ok o) r j = read_tree plan ts tree o r j
read_found plan ts tree (Err e) r j = tt

nowhere : {A : Type 0} → ⊥ → A
nowhere x = absurd x

pub no_reading : (plan : Plan) (ts : List Token) (e : ParseError) → IsFaulty e → Parses true ts (Err e) → Reading plan ts None
no_reading plan ts (parse.NotInProfile p word) f (n, first, is) = λ tree r. nowhere (no_tree true ts n tree first r)
no_reading plan ts (parse.Expected p) f (n, first, is) = λ tree r. nowhere (no_tree true ts n tree first r)
no_reading plan ts parse.OutOfMemory f h = absurd f

pub unread_found : (plan : Plan) (ts : List Token) (e : ParseError) (o : Result (Option Program) OutOfMemory) → Parses true ts (Err e) → IfOk o (λ x. (x ≡ None) × IsFaulty e) → IfOk o (Reading plan ts)
unread_found plan ts e (Ok x) h (n, f) = subst (λ y. Reading plan ts y) (sym n) (no_reading plan ts e f h)
unread_found plan ts e (Err x) h f = tt

-- ---- texts

same_tokens : (ts us : List Token) → ◌≡◌ {A = Result (List Token) LexError} (Ok ts) (Ok us) → ts ≡ us
same_tokens ts us e = cc

pub found_tokens : (user : List ℕ) (plan : Plan) (ts : List Token) (o : Option Program) → tokens_of user ≡ Ok ts → Reading plan ts o → Finds user plan o
found_tokens user plan ts (Some program) e r = record { tokens = ts; tree = r.tree; lexed = e; read = r.reads; typed = r.right }
found_tokens user plan ts None e r = λ program is.
    let same : is.tokens ≡ ts = same_tokens is.tokens ts (sym is.lexed ∙ e) in
    r is.tree (subst (λ (us : List Token). Reads true us is.tree) same is.read) program is.typed

-- bytes that are no tokens
pub no_tokens : (user : List ℕ) (plan : Plan) (x : LexError) → tokens_of user ≡ Err x → IsMissing user plan
no_tokens user plan x e = λ program is. differ is.tokens (sym is.lexed ∙ e)
  where
    differ : (ts : List Token) → ◌≡◌ {A = Result (List Token) LexError} (Ok ts) (Err x) → ⊥
    differ ts q = absurd cc

same_found : (p q : Program) → Some p ≡ Some q → p ≡ q
same_found p q e = cc

small_by : (user : List ℕ) (plan : Plan) (program : Program) (o : Option Program) → o ≡ Some program → HasFewNumbers program → ComesTo user plan program → HasHalf user plan o
small_by user plan program None e few f = absurd cc
small_by user plan program (Some p) e few f = subst (IsSmall user plan) (sym (same_found p program e)) (record { comes = f; numbers = few })

-- what is found is a half if its numbers are few
pub small_half : (user : List ℕ) (plan : Plan) (found : Option Program) (program : Program) (r : Result (Option Program) OutOfMemory) → found ≡ Some program → Finds user plan found
    → IfOk r (λ o. (o ≡ Some program) × HasFewNumbers program) → IfOk r (HasHalf user plan)
small_half user plan found program (Ok o) e f h = small_by user plan program o h.0 h.1 (subst (Finds user plan) e f)
small_half user plan found program (Err x) e f h = tt

pub no_half : (user : List ℕ) (plan : Plan) (found : Option Program) → found ≡ None → Finds user plan found → IsMissing user plan
no_half user plan found e f = subst (Finds user plan) e f

-- ---- both texts

pub loads_half : (user text : List ℕ) (plan : Plan) (program : Program) → IsPlanText text plan → IsSmall user plan program → Loads user text program plan
loads_half user text plan program is h = record { planned = is; comes = h.comes; numbers = h.numbers }

pub refused_half : (user text : List ℕ) (plan : Plan) → IsPlanText text plan → IsMissing user plan → AreRefused user text 2
refused_half user text plan is none = AreRefused.no_program plan refl is none

pub refused_plan : (user text : List ℕ) (n : ℕ) (kind : PlanKind) → IsFault text n kind → AreRefused user text 1
refused_plan user text n kind f = AreRefused.no_plan refl (λ plan is. no_fault text plan n kind is f)
