-- for proofs
-- Statements as they are read, by the level at which they stand; and with their places set aside (C99 6.8).
use Rattle.std.specs.Prelude.{ℕ, ◌+◌, Bool, true, false, ◌&&◌, ◌||◌, is_none, Option, Some, None, List, [], ◌∷◌, map, codes}
use Rattle.std.specs.List.{list_all}
use Rattle.std.specs.Option.{option_map}
use Rattle.std.specs.Str.{bytes_eq}
use Rattle.mdr_core.specs.declared.kind.Kind.{Kind}
use Rattle.mdr_core.specs.declared.kind.Kind.TheVariants.{U8, U16, U32, U64, S8, S16, S32, S64}
use Rattle.mdr_syntax.specs.declared.tree.Base.{Base}
use Rattle.mdr_syntax.specs.declared.tree.Base.TheVariants as base
use Rattle.mdr_syntax.specs.declared.tree.Clause.{Clause}
use Rattle.mdr_syntax.specs.declared.tree.Decl.{Decl, out-Decl}
use Rattle.mdr_syntax.specs.declared.tree.Form.{Form}
use Rattle.mdr_syntax.specs.declared.tree.FormWhat.TheOpen.{Form-F, FormWhat-F}
use Rattle.mdr_syntax.specs.declared.tree.FormWhat.TheFolds.{fold-Form}
use Rattle.mdr_syntax.specs.declared.tree.Label.{Label}
use Rattle.mdr_syntax.specs.declared.tree.Node.{Node}
use Rattle.mdr_syntax.specs.declared.tree.NodeWhat
use Rattle.mdr_syntax.specs.declared.tree.NodeWhat.{NodeWhat}
use Rattle.mdr_syntax.specs.declared.tree.NodeWhat.TheOpen.{NodeWhat-F, Node-F, Clause-F}
use Rattle.mdr_syntax.specs.declared.tree.NodeWhat.TheFolds.{fold-Node, fold-NodeWhat, fold-Clause}
use Rattle.mdr_syntax.specs.declared.tree.NodeWhat.TheViews.{roll-Clause}
use Rattle.mdr_roundtrip.specs.Words.{is_among, is_writable}
use Rattle.mdr_roundtrip.specs.Printable.{all}
use Rattle.mdr_roundtrip.specs.PrintableDeclarations.{maybe}
use Rattle.mdr_grammar.specs.Expressions.{is_level_free, height}
use Rattle.mdr_roundtrip.specs.Shaped.{shape_of}
use Rattle.mdr_roundtrip.specs.Unplaced.{nowhere, unplaced_form}
use Rattle.mdr_roundtrip.specs.Initialised.{unplaced_const, is_shaped_const, are_some}
use Rattle.mdr_roundtrip.specs.Declarations.{Standing, unplaced_decl, is_shaped_decl}
use Rattle.mdr_roundtrip.specs.Alone.{is_alone}

-- ---- places

abbrev pub unplaced_label : Label → Label
unplaced_label x = record { place = nowhere; value = option_map unplaced_const x.value }

abbrev pub statement_unplaced : NodeWhat-F NodeWhat Clause Node → NodeWhat
statement_unplaced NodeWhat-F.Empty = NodeWhat.Empty
statement_unplaced (NodeWhat-F.Block ss) = NodeWhat.Block ss
statement_unplaced (NodeWhat-F.Local x o) = NodeWhat.Local (unplaced_decl x) (option_map unplaced_form o)
statement_unplaced (NodeWhat-F.Assign place op f g) = NodeWhat.Assign nowhere op (unplaced_form f) (unplaced_form g)
statement_unplaced (NodeWhat-F.Plain f) = NodeWhat.Plain (unplaced_form f)
statement_unplaced (NodeWhat-F.If c a b) = NodeWhat.If (unplaced_form c) a b
statement_unplaced (NodeWhat-F.While c a) = NodeWhat.While (unplaced_form c) a
statement_unplaced (NodeWhat-F.For i c n a) = NodeWhat.For i (option_map unplaced_form c) n a
statement_unplaced (NodeWhat-F.Do a c) = NodeWhat.Do a (unplaced_form c)
statement_unplaced (NodeWhat-F.Switch c cs) = NodeWhat.Switch (unplaced_form c) cs
statement_unplaced (NodeWhat-F.Return o) = NodeWhat.Return (option_map unplaced_form o)
statement_unplaced NodeWhat-F.Break = NodeWhat.Break
statement_unplaced NodeWhat-F.Continue = NodeWhat.Continue

abbrev pub clause_unplaced : Clause-F NodeWhat Clause Node → Clause
clause_unplaced c = roll-Clause (record { labels = map unplaced_label c.labels; body = c.body })

abbrev pub node_unplaced : Node-F NodeWhat Clause Node → Node
node_unplaced n = record { place = nowhere; what = n.what }

abbrev pub unplaced_node : Node → Node
unplaced_node = fold-Node NodeWhat Clause Node statement_unplaced clause_unplaced node_unplaced

abbrev pub unplaced_statement : NodeWhat → NodeWhat
unplaced_statement = fold-NodeWhat NodeWhat Clause Node statement_unplaced clause_unplaced node_unplaced

abbrev pub unplaced_clause : Clause → Clause
unplaced_clause = fold-Clause NodeWhat Clause Node statement_unplaced clause_unplaced node_unplaced

-- ---- shapes

abbrev pub is_expression_at : ℕ → Form → Bool
is_expression_at l f = (shape_of f).expression && is_level_free (l + height f)

abbrev pub what_texted : FormWhat-F Bool Bool → Bool
what_texted (FormWhat-F.Text bytes) = list_all is_writable bytes
what_texted _ = false

abbrev pub form_texted : Form-F Bool Bool → Bool
form_texted f = f.what

abbrev pub is_text_form : Form → Bool
is_text_form = fold-Form Bool Bool what_texted form_texted

-- the initialiser of a local is a text or an expression
abbrev pub is_right_at : ℕ → Form → Bool
is_right_at l f = is_level_free l && (is_text_form f || is_expression_at l f)

unfoldable pub assignments : List (List ℕ)
assignments =
    codes "=" ∷ codes "+=" ∷ codes "-=" ∷ codes "*=" ∷ codes "/=" ∷ codes "%=" ∷ codes "&=" ∷ codes "|=" ∷ codes "^=" ∷
    codes "<<=" ∷ codes ">>=" ∷ []

abbrev pub is_same_kind : Kind → Kind → Bool
is_same_kind U8 U8 = true
is_same_kind U16 U16 = true
is_same_kind U32 U32 = true
is_same_kind U64 U64 = true
is_same_kind S8 S8 = true
is_same_kind S16 S16 = true
is_same_kind S32 S32 = true
is_same_kind S64 S64 = true
is_same_kind _ _ = false

abbrev pub is_same_base : Base → Base → Bool
is_same_base (base.Int j) (base.Int k) = is_same_kind j k
is_same_base (base.Struct p m) (base.Struct q n) = bytes_eq m n
is_same_base base.Void base.Void = true
is_same_base base.Lock base.Lock = true
is_same_base _ _ = false

-- what a statement may stand as: as a statement at a level, as one of an assignment or a call, as the declaration of a local inside so many parentheses, with its base, or as a body
pub record Stated : Type 0 where
  pub statement : (level : ℕ) → Bool
  pub simple : (level : ℕ) → Bool
  pub local : (level parentheses : ℕ) → Bool
  pub base : Option Base
  pub body : (level : ℕ) → Bool

abbrev pub never : ℕ → Bool
never l = false

abbrev pub nowhere_local : ℕ → ℕ → Bool
nowhere_local l d = false

abbrev pub sole : (ℕ → Bool) → Stated
sole f = record { statement = f; simple = never; local = nowhere_local; base = None; body = never }

abbrev pub as_simple : (ℕ → Bool) → Stated
as_simple f = record { statement = f; simple = f; local = nowhere_local; base = None; body = never }

abbrev pub item_at : ℕ → Stated → Bool
item_at l s = s.statement l || s.local l 0

abbrev pub block_at : List Stated → ℕ → Bool
block_at [] l = true
block_at (s ∷ ss) l = is_level_free (l + 1) && all (map (item_at (l + 1)) (s ∷ ss))

abbrev pub with_base : Option Base → Option Base → Bool
with_base (Some b) (Some c) = is_same_base b c
with_base _ _ = false

abbrev pub further_at : ℕ → Option Base → Stated → Bool
further_at l b s = s.local l 1 && with_base b s.base

-- what a `for` begins with: nothing, an assignment or call, or locals of one base type
abbrev pub opening_at : ℕ → List Stated → Bool
opening_at l [] = true
opening_at l (s ∷ []) = s.simple l || s.local l 1
opening_at l (s ∷ t ∷ ss) = s.local l 1 && all (map (further_at l s.base) (t ∷ ss))

abbrev pub simple_at : ℕ → Stated → Bool
simple_at l s = s.simple l

abbrev pub body_at : ℕ → Stated → Bool
body_at l s = s.body l

abbrev pub clause_at : ℕ → (ℕ → Bool) → Bool
clause_at l f = f l

abbrev pub local_at : Decl → Option Form → ℕ → ℕ → Bool
local_at x o l d = is_shaped_decl x Standing.Alone d && (is_none (out-Decl x).ann && maybe (is_right_at (l + 1)) o)

abbrev pub statement_stated : NodeWhat-F Stated (ℕ → Bool) Stated → Stated
statement_stated NodeWhat-F.Empty = sole (λ l. true)
statement_stated (NodeWhat-F.Block ss) = record { statement = block_at ss; simple = never; local = nowhere_local; base = None; body = block_at ss }
statement_stated (NodeWhat-F.Local x o) = record { statement = never; simple = never; local = local_at x o; base = Some (out-Decl x).base; body = never }
statement_stated (NodeWhat-F.Assign place op f g) = as_simple (λ l. is_among assignments op && (is_expression_at (l + 1) f && is_expression_at (l + 1) g))
statement_stated (NodeWhat-F.Plain f) = as_simple (λ l. is_alone f && is_expression_at (l + 1) f)
statement_stated (NodeWhat-F.If c a b) = sole (λ l. is_expression_at (l + 1) c && (a.body (l + 1) && maybe (body_at (l + 1)) b))
statement_stated (NodeWhat-F.While c a) = sole (λ l. is_expression_at (l + 1) c && a.body (l + 1))
statement_stated (NodeWhat-F.For i c n a) = sole (λ l. is_level_free (l + 1) && (opening_at (l + 1) i && (maybe (is_expression_at (l + 1)) c && (maybe (simple_at (l + 1)) n && a.body (l + 1)))))
statement_stated (NodeWhat-F.Do a c) = sole (λ l. a.body (l + 1) && is_expression_at (l + 1) c)
statement_stated (NodeWhat-F.Switch c cs) = sole (λ l. is_expression_at (l + 1) c && all (map (clause_at (l + 1)) cs))
statement_stated (NodeWhat-F.Return o) = sole (λ l. maybe (is_expression_at (l + 1)) o)
statement_stated NodeWhat-F.Break = sole (λ l. true)
statement_stated NodeWhat-F.Continue = sole (λ l. true)

abbrev pub is_shaped_label : Label → Bool
is_shaped_label x = maybe is_shaped_const x.value

abbrev pub statement_at : ℕ → Stated → Bool
statement_at l s = s.statement l

-- a clause has a label and a statement
abbrev pub clause_stated : Clause-F Stated (ℕ → Bool) Stated → ℕ → Bool
clause_stated c l = (are_some c.labels && list_all is_shaped_label c.labels) && (are_some c.body && all (map (statement_at l) c.body))

abbrev pub node_stated : Node-F Stated (ℕ → Bool) Stated → Stated
node_stated n = n.what

abbrev pub stated : Node → Stated
stated = fold-Node Stated (ℕ → Bool) Stated statement_stated clause_stated node_stated

abbrev pub stated_what : NodeWhat → Stated
stated_what = fold-NodeWhat Stated (ℕ → Bool) Stated statement_stated clause_stated node_stated

abbrev pub is_clause_at : Clause → ℕ → Bool
is_clause_at = fold-Clause Stated (ℕ → Bool) Stated statement_stated clause_stated node_stated
