-- believed
-- Which operator a punctuation is (C99 6.4.6).
use Rattle.std.specs.Prelude.{ℕ, List, Option, Some, None, codes}
use Rattle.std.specs.Str.{bytes_eq}
use Rattle.mdr_core.specs.declared.code.BinOp.{BinOp}
use Rattle.mdr_core.specs.declared.code.BinOp.TheVariants.{Add, Sub, Mul, Div, Rem, Shl, Shr, BitAnd, BitOr, BitXor}
use Rattle.mdr_core.specs.declared.code.RelOp.{RelOp}
use Rattle.mdr_core.specs.declared.code.RelOp.TheVariants.{Eq, Ne, Lt, Le, Gt, Ge}
use Rattle.mdr_core.specs.Layout.{chosen}
use Rattle.mdr_operand.specs.declared.operator.PrefixOperator.{PrefixOperator}
use Rattle.mdr_operand.specs.declared.operator.PrefixOperator.TheVariants.{Promote, Negate, Flip, Not, Address, Target}
use Rattle.mdr_operand.specs.declared.operator.BinaryOperator.{BinaryOperator}
use Rattle.mdr_operand.specs.declared.operator.BinaryOperator.TheVariants.{Calculate, Compare, And, Or}
use Rattle.mdr_operand.specs.declared.operator.AssignmentOperator.{AssignmentOperator}
use Rattle.mdr_operand.specs.declared.operator.AssignmentOperator.TheVariants.{Plain, Compound}

abbrev pub calculation : List ℕ → Option BinOp
calculation sign =
    chosen (bytes_eq sign (codes "+")) (Some Add)
    (chosen (bytes_eq sign (codes "-")) (Some Sub)
    (chosen (bytes_eq sign (codes "*")) (Some Mul)
    (chosen (bytes_eq sign (codes "/")) (Some Div)
    (chosen (bytes_eq sign (codes "%")) (Some Rem)
    (chosen (bytes_eq sign (codes "<<")) (Some Shl)
    (chosen (bytes_eq sign (codes ">>")) (Some Shr)
    (chosen (bytes_eq sign (codes "&")) (Some BitAnd)
    (chosen (bytes_eq sign (codes "|")) (Some BitOr)
    (chosen (bytes_eq sign (codes "^")) (Some BitXor) None)))))))))

abbrev pub comparison : List ℕ → Option RelOp
comparison sign =
    chosen (bytes_eq sign (codes "==")) (Some Eq)
    (chosen (bytes_eq sign (codes "!=")) (Some Ne)
    (chosen (bytes_eq sign (codes "<")) (Some Lt)
    (chosen (bytes_eq sign (codes "<=")) (Some Le)
    (chosen (bytes_eq sign (codes ">")) (Some Gt)
    (chosen (bytes_eq sign (codes ">=")) (Some Ge) None)))))

abbrev pub logical : List ℕ → Option BinaryOperator
logical sign =
    chosen (bytes_eq sign (codes "&&")) (Some And)
    (chosen (bytes_eq sign (codes "||")) (Some Or) None)

abbrev pub compared_or : Option RelOp → Option BinaryOperator → Option BinaryOperator
compared_or (Some op) other = Some (Compare op)
compared_or None other = other

abbrev pub calculated_or : Option BinOp → Option BinaryOperator → Option BinaryOperator
calculated_or (Some op) other = Some (Calculate op)
calculated_or None other = other

abbrev pub binary_operator : List ℕ → Option BinaryOperator
binary_operator sign = calculated_or (calculation sign) (compared_or (comparison sign) (logical sign))

abbrev pub prefix_operator : List ℕ → Option PrefixOperator
prefix_operator sign =
    chosen (bytes_eq sign (codes "+")) (Some Promote)
    (chosen (bytes_eq sign (codes "-")) (Some Negate)
    (chosen (bytes_eq sign (codes "~")) (Some Flip)
    (chosen (bytes_eq sign (codes "!")) (Some Not)
    (chosen (bytes_eq sign (codes "&")) (Some Address)
    (chosen (bytes_eq sign (codes "*")) (Some Target) None)))))

-- 6.5.16, paragraph 1
abbrev pub assignment_operator : List ℕ → Option AssignmentOperator
assignment_operator sign =
    chosen (bytes_eq sign (codes "=")) (Some Plain)
    (chosen (bytes_eq sign (codes "+=")) (Some (Compound Add))
    (chosen (bytes_eq sign (codes "-=")) (Some (Compound Sub))
    (chosen (bytes_eq sign (codes "*=")) (Some (Compound Mul))
    (chosen (bytes_eq sign (codes "/=")) (Some (Compound Div))
    (chosen (bytes_eq sign (codes "%=")) (Some (Compound Rem))
    (chosen (bytes_eq sign (codes "<<=")) (Some (Compound Shl))
    (chosen (bytes_eq sign (codes ">>=")) (Some (Compound Shr))
    (chosen (bytes_eq sign (codes "&=")) (Some (Compound BitAnd))
    (chosen (bytes_eq sign (codes "|=")) (Some (Compound BitOr))
    (chosen (bytes_eq sign (codes "^=")) (Some (Compound BitXor)) None))))))))))
