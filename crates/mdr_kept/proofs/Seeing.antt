-- What is well typed over the slots that a place knows names only objects that live there.
use Rattle.std.proofs.Common.{◌≡◌, ◌⊎◌, inl, inr, ℕ, Bool, List, [], ◌∷◌, Option, Some, None}
use Rattle.mdr_core.specs.declared.code.BinOp.{BinOp}
use Rattle.mdr_core.specs.declared.code.BinOp.TheVariants.{Add, Sub, Mul, Div, Rem, Shl, Shr, BitAnd, BitOr, BitXor}
use Rattle.mdr_core.specs.declared.kind.Kind.{Kind}
use Rattle.mdr_core.specs.declared.program.Program.{Program}
use Rattle.mdr_core.specs.declared.types.Ty.{Ty}
use Rattle.mdr_core.specs.declared.types.Ty.TheVariants as type
use Rattle.mdr_core.specs.Services.{Service}
use Rattle.mdr_rich.specs.Code.{Term, Lvalue, Called, Terms, CallOf, Goal, Code, term_list}
use Rattle.mdr_core.specs.Typing.{Slot, Extent, One, Many, RightOperand, int}
use Rattle.mdr_rich.specs.Typing.{Has, Designates, HasEach, AsksService, AsksBack, gives_by, CallGives, GoesTo, Returns, IsTyped}
use Rattle.mdr_kept.specs.Named.{TermScoped, LvalueScoped, TermsScoped, CalleeScoped, FormScoped, GoalScoped, OptionScoped, CodeScoped, behind}
use Rattle.mdr_kept.specs.Plain.{IsPlain}
use Rattle.mdr_kept.proofs.Hiding.{hidden, object_there, array_there}

-- the right operand of an operator has some type
record HasSome (P : Ty → Type 0) : Type 0 where
  type : Ty
  has : P type

right_has : (op : BinOp) (k : Kind) (P : Ty → Type 0) → RightOperand op k P → HasSome P
right_has Shl k P h = record { type = int h.0; has = h.1 }
right_has Shr k P h = record { type = int h.0; has = h.1 }
right_has Add k P h = record { type = int k; has = h }
right_has Sub k P h = record { type = int k; has = h }
right_has Mul k P h = record { type = int k; has = h }
right_has Div k P h = record { type = int k; has = h }
right_has Rem k P h = record { type = int k; has = h }
right_has BitAnd k P h = record { type = int k; has = h }
right_has BitOr k P h = record { type = int k; has = h }
right_has BitXor k P h = record { type = int k; has = h }

-- the arguments of a service have some types
asked : {program : Program} {have : List Ty → Type 0} {handles : Service → Type 0} {shape : Option Ty} {format : Option (List ℕ)} {n : ℕ} {result : Ty} {C : Type 0} → ((ts : List Ty) → have ts → C) → AsksService program have handles shape format n result ⊎ AsksBack have shape format n result → C
asked f (inl h) = f h.signature.params h.args
asked {result = result} f (inr h) = f (type.Fun (result ∷ h.param ∷ []) ∷ h.param ∷ []) h.args

module _ (program : Program) (slots : List Slot) (objects : List ℕ) where
  abbrev Seen : List Slot
  Seen = hidden objects slots

  -- ---- expressions

  mutual
    pub term_scoped : (e : Term) (t : Ty) → Has program Seen e t → TermScoped objects e
    term_scoped (Term.Lit v) t h = tt
    term_scoped (Term.Load p) t h = lvalue_scoped p (One t) h.0.object
    term_scoped (Term.Addr p) t h = lvalue_scoped p (One h.0.type) h.0.object
    term_scoped (Term.Decay p) t h = lvalue_scoped p (Many h.0.type h.0.count) h.0.array
    term_scoped (Term.Neg k e) t h = term_scoped e (int k) h.operand
    term_scoped (Term.Flip k e) t h = term_scoped e (int k) h.operand
    term_scoped (Term.Not e) t h = term_scoped e (h.operand).type (h.operand).operand
    term_scoped (Term.Bin op k a b) t h =
        let r = right_has op k (Has program Seen b) h.right in
        (term_scoped a (int k) h.left, term_scoped b r.type r.has)
    term_scoped (Term.Rel op a b) t h = (term_scoped a h.type h.left, term_scoped b h.type h.right)
    term_scoped (Term.And a b) t h = (term_scoped a (h.left).type (h.left).operand, term_scoped b (h.right).type (h.right).operand)
    term_scoped (Term.Or a b) t h = (term_scoped a (h.left).type (h.left).operand, term_scoped b (h.right).type (h.right).operand)
    term_scoped (Term.Conv k e) t h = term_scoped e (int h.from) h.operand
    term_scoped (Term.ToVoid e) t h = term_scoped e _ h.pointer
    term_scoped (Term.FromVoid u e) t h = term_scoped e _ h.pointer
    term_scoped (Term.Move back p i) t h = (term_scoped p _ h.0.pointer, term_scoped i (int h.0.kind) h.0.steps)
    term_scoped (Term.Diff p q) t h = (term_scoped p _ h.left, term_scoped q _ h.right)
    term_scoped (Term.Cond u c a b) t h = (term_scoped c (h.test).type (h.test).operand, term_scoped a u h.one, term_scoped b u h.other)
    term_scoped (Term.Call u (Called.Direct f) args shape format) t h = (tt, each_scoped args _ (h.gives).call_is.args)
    term_scoped (Term.Call u (Called.Through e) args shape format) t h = (term_scoped e _ (h.gives).pointer, each_scoped args _ (h.gives).call_is.args)
    term_scoped (Term.Call u (Called.Service n) args shape format) t h = (tt, asked (λ ts k. each_scoped args ts k) h.gives)
    term_scoped (Term.Bump u up first p) t h = lvalue_scoped p (One u) h.object

    pub lvalue_scoped : (p : Lvalue) (x : Extent) → Designates program Seen p x → LvalueScoped objects p
    lvalue_scoped (Lvalue.Slot i t) x h = tt
    lvalue_scoped (Lvalue.Object i t) x h = object_there objects slots i h.0.slot h.0.names h.0.kept
    lvalue_scoped (Lvalue.Global g t) x h = tt
    lvalue_scoped (Lvalue.Deref e) x h = term_scoped e _ h.0.pointer
    lvalue_scoped (Lvalue.Member p f t) x h = lvalue_scoped p _ h.0.whole
    lvalue_scoped (Lvalue.Index p e) x h = (lvalue_scoped p (Many h.0.type h.0.count) h.0.array, term_scoped e (int h.0.kind) h.0.index)

    each_scoped : (es : Terms) (ts : List Ty) → HasEach program Seen es ts → TermsScoped objects es
    each_scoped Terms.End ts h = tt
    each_scoped (Terms.Then e es) [] h = absurd h
    each_scoped (Terms.Then e es) (t ∷ ts) h = (term_scoped e t h.0, each_scoped es ts h.1)

  -- ---- calls

  called_scoped : (c : Called) (call : CallOf) (t : Ty) → gives_by c program Seen call t → CalleeScoped objects c × TermsScoped objects (term_list call.args)
  called_scoped (Called.Direct f) call t h = (tt, each_scoped (term_list call.args) _ (h.call_is).args)
  called_scoped (Called.Through e) call t h = (term_scoped e _ h.pointer, each_scoped (term_list call.args) _ (h.call_is).args)
  called_scoped (Called.Service n) call t h = (tt, asked (λ ts k. each_scoped (term_list call.args) ts k) h)

  form_scoped : (call : CallOf) (t : Ty) → CallGives program Seen call t → FormScoped objects call
  form_scoped call t h = called_scoped call.callee call t h

  -- ---- code

  goes_scoped : (result : Ty) (goal : Goal) (call : CallOf) → GoesTo program Seen result goal call → GoalScoped objects goal × FormScoped objects call
  goes_scoped result Goal.Nowhere call h = (tt, form_scoped call h.0 h.1)
  goes_scoped result (Goal.Into p) call h = (lvalue_scoped p (One h.type) h.object, form_scoped call h.given h.call_gives)
  goes_scoped result Goal.Back call h = (tt, form_scoped call h.given h.call_gives)

  returns_scoped : (result : Ty) (e : Option Term) → Returns program Seen result e → OptionScoped objects e
  returns_scoped result None h = tt
  returns_scoped result (Some e) h = term_scoped e result h.1

  pub code_scoped : (result : Ty) (b : Bool) (c : Code) → IsPlain c → IsTyped program Seen result b c → CodeScoped slots objects c
  code_scoped result b (Code.Declare n i) plain h = absurd plain
  code_scoped result b (Code.Text n i bytes) plain h = array_there objects slots i (h.right).slot (h.right).names (h.right).array
  code_scoped result b (Code.Assign n p e) plain h = (lvalue_scoped p (One (h.right).type) (h.right).object, term_scoped e (h.right).type (h.right).value)
  code_scoped result b (Code.Call n goal call) plain h = goes_scoped result goal call h.right
  code_scoped result b (Code.If n e one other) plain h = absurd plain
  code_scoped result b (Code.Loop n e step body) plain h = absurd plain
  code_scoped result b (Code.Do n body e) plain h = absurd plain
  code_scoped result b (Code.Switch n e clauses) plain h = absurd plain
  code_scoped result b (Code.Block body) plain h = absurd plain
  code_scoped result b (Code.Return n e) plain h = returns_scoped result e h.right
  code_scoped result b (Code.Jump n way) plain h = tt

  -- and it declares nothing
  pub plain_behind : (c : Code) → IsPlain c → behind slots objects c ≡ objects
  plain_behind (Code.Declare n i) plain = absurd plain
  plain_behind c plain = λ i. objects
