-- believed
-- The code of a source's bodies as plain data: what the rules of types make. Each form is one of these or made of them.
use Rattle.std.specs.Prelude.{ℕ, Bool, List, [], ◌∷◌, Option}
use Rattle.mdr_core.specs.declared.kind.Kind.{Kind}
use Rattle.mdr_core.specs.declared.types.Ty.{Ty}
use Rattle.mdr_core.specs.declared.value.Value.{Value}
use Rattle.mdr_core.specs.declared.code.BinOp.{BinOp}
use Rattle.mdr_core.specs.declared.code.RelOp.{RelOp}
use Rattle.mdr_core.specs.Code.{Way}

mutual
  -- expressions (C99 6.5)
  pub data Term : Type 0 where
    Lit : Value → Term
    Load : Lvalue → Term
    Addr : Lvalue → Term
    Decay : Lvalue → Term
    Neg : Kind → Term → Term
    Flip : Kind → Term → Term
    Not : Term → Term
    Bin : BinOp → Kind → Term → Term → Term
    Rel : RelOp → Term → Term → Term
    And : Term → Term → Term
    Or : Term → Term → Term
    Conv : Kind → Term → Term
    ToVoid : Term → Term
    FromVoid : Ty → Term → Term
    -- a pointer moved by so many elements, and whether backwards
    Move : (back : Bool) → Term → Term → Term
    Diff : Term → Term → Term
    -- `c ? a : b`, of the type
    Cond : Ty → Term → (one other : Term) → Term
    -- what a call gives, of the type: what is called, the arguments, the type that an allocation names, the text of a `printk`
    Call : Ty → Called → Terms → (shape : Option Ty) → (format : Option (List ℕ)) → Term
    -- an object of the type that is stepped by one, and whether upwards; its value is the new one, or else the old one
    Bump : Ty → (up first : Bool) → Lvalue → Term

  -- lvalues (C99 6.3.2.1). With what has a name stands its type, of an array that of its elements
  pub data Lvalue : Type 0 where
    -- a local in a slot of its frame, and one that is an object
    Slot : ℕ → Ty → Lvalue
    Object : ℕ → Ty → Lvalue
    Global : ℕ → Ty → Lvalue
    Deref : Term → Lvalue
    Member : Lvalue → (field : ℕ) → Ty → Lvalue
    Index : Lvalue → Term → Lvalue

  -- what is called (C99 6.5.2.2)
  pub data Called : Type 0 where
    Direct : (func : ℕ) → Called
    Through : Term → Called
    Service : ℕ → Called

  -- arguments
  pub data Terms : Type 0 where
    End : Terms
    Then : Term → Terms → Terms

abbrev pub term_list : List Term → Terms
term_list [] = Terms.End
term_list (e ∷ es) = Terms.Then e (term_list es)

-- a call: what is called, the arguments, the type that an allocation names, the text of a `printk`
pub record CallOf : Type 0 where
  pub callee : Called
  pub args : List Term
  pub shape : Option Ty
  pub format : Option (List ℕ)

-- where the value of a call goes
pub data Goal : Type 0 where
  Nowhere : Goal
  Into : Lvalue → Goal
  -- it is returned again
  Back : Goal

-- statements (C99 6.8), each with its number but a block, which has none
mutual
  pub data Code : Type 0 where
    -- a local is declared, by its slot (6.7)
    Declare : (number slot : ℕ) → Code
    -- a declared array of characters is given a text (6.7.8, paragraph 14)
    Text : (number slot : ℕ) (bytes : List ℕ) → Code
    Assign : (number : ℕ) → Lvalue → Term → Code
    Call : (number : ℕ) → Goal → CallOf → Code
    If : (number : ℕ) → Term → (one other : Codes) → Code
    -- a `while` or a `for`: the step follows each turn of the body
    Loop : (number : ℕ) → Term → (step body : Codes) → Code
    -- the test follows each turn of the body (6.8.5.2)
    Do : (number : ℕ) → Codes → Term → Code
    -- a value, and the clauses that it is tried with (6.8.4.2)
    Switch : (number : ℕ) → Term → Clauses → Code
    Block : Codes → Code
    Return : (number : ℕ) → Option Term → Code
    Jump : (number : ℕ) → Way → Code

  pub data Codes : Type 0 where
    End : Codes
    Then : Code → Codes → Codes

  -- the clauses of a `switch` in their order, each with its labels, and without the `break` at its end; behind them what `default` does
  pub data Clauses : Type 0 where
    Default : Codes → Clauses
    Clause : (labels : List Value) → Codes → Clauses → Clauses
