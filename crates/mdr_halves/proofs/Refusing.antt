-- Texts that are refused are those of no source, and those of a source tell its program.
use Rattle.std.proofs.Common.{◌≡◌, ℕ, false, true, List, [], ◌∷◌, ◌++◌, Result, Ok, Err, sym, ap, subst, ◌∙◌}
use Rattle.mdr_core.specs.declared.plan.Half.{Half}
use Rattle.mdr_core.specs.declared.plan.Half.TheVariants.{Kernel, User}
use Rattle.mdr_core.specs.declared.program.Program.{Program}
use Rattle.mdr_cut.specs.declared.texts.Texts.{Texts}
use Rattle.mdr_cut.specs.Cuts.{AreTexts}
use Rattle.mdr_cut.proofs.Determined.{texts_are_determined}
use Rattle.mdr_grammar.specs.Grammar.{Reads}
use Rattle.mdr_grammar.proofs.Exact.{no_tree}
use Rattle.mdr_half.specs.Halves.{half_tree, kernel_tree, user_tree}
use Rattle.mdr_print.specs.Items.{printed}
use Rattle.mdr_roundtrip.specs.Again.{IsPrintedAsSource}
use Rattle.mdr_roundtrip.specs.Itemised.{unplaced_tree}
use Rattle.mdr_roundtrip.proofs.Lexemes.{tokens_are_lexed}
use Rattle.mdr_roundtrip.proofs.PrintedTrees.{printed_alike}
use Rattle.mdr_roundtrip.proofs.ShapingSources.{sources_are_shaped}
use Rattle.mdr_source.specs.declared.outcome.Source.{Source}
use Rattle.mdr_source.proofs.Whose.{come_source}
use Rattle.mdr_syntax.specs.declared.error.LexError.{LexError}
use Rattle.mdr_syntax.specs.declared.token.Token.{Token}
use Rattle.mdr_syntax.specs.declared.tree.Item.{Item}
use Rattle.mdr_syntax.specs.declared.tree.Tree.{Tree}
use Rattle.mdr_syntax.specs.Tokens.{tokens_of}
use Rattle.mdr_texts.specs.HalfTexts.{AreJoinedTo}
use Rattle.mdr_texts.proofs.HalvesAgain.{half_again}
use Rattle.mdr_texts.proofs.JoinedAgain.{none_remote, halves_joined}
use Rattle.mdr_verify.specs.Verdicts.{IsOtherLine, first_line}
use Rattle.mdr_halves.specs.declared.mismatch.Mismatch.{Mismatch}
use Rattle.mdr_halves.specs.Reads.{IsHalf, IsUnread}
use Rattle.mdr_halves.specs.Joins.{tree_with, AreJoined, AreTextsOf}
use Rattle.mdr_halves.specs.Laws.{RefusedTextsAreOfNone, TextsAreOfOne}
use Rattle.mdr_halves.specs.Whole.{IsOther, Come}
use Rattle.mdr_halves.proofs.Judging.{IsErr, IsRight, meaning_right, not_refused, right_moved, same_program, source_right}
use Rattle.mdr_halves.proofs.Placing.{texts_moved}

-- ---- a text that was printed of a half

same_tokens : (ts us : List Token) → ◌≡◌ {A = Result (List Token) LexError} (Ok ts) (Ok us) → ts ≡ us
same_tokens ts us e = cc

no_tokens : (ts : List Token) (x : LexError) → ◌≡◌ {A = Result (List Token) LexError} (Ok ts) (Err x) → ⊥
no_tokens ts x e = absurd cc

printed_half : (text : List ℕ) (tree : Tree) → text ≡ printed tree → (p : IsPrintedAsSource true tree) → IsHalf text p.is_source.read
printed_half text tree e p = record { tokens = p.tokens; are_tokens = ap tokens_of e ∙ p.is_text; reads = p.is_source.is_read }

not_unread : (text : List ℕ) (tree : Tree) (line : ℕ) → IsHalf text tree → IsUnread text line → ⊥
not_unread text tree line is (IsUnread.lexical e not on) = no_tokens is.tokens e (sym is.are_tokens ∙ not)
not_unread text tree line is (IsUnread.unexpected ts are f) =
    no_tree true ts f.number tree f.fault (subst (λ (us : List Token). Reads true us tree) (same_tokens is.tokens ts (sym is.are_tokens ∙ are)) is.reads)

-- ---- the texts of a source

again : (texts : Texts) (source : Source) (half : Half) (t : AreTextsOf texts source) → IsPrintedAsSource true (half_tree half t.are.plan source.tree)
again texts source half t = let s = come_source t.bytes source t.comes in half_again t.bytes s.tokens source.tree half t.are.plan s.are_tokens s.reads

kernel_half : (texts : Texts) (source : Source) (t : AreTextsOf texts source) → IsHalf texts.kernel (again texts source Kernel t).is_source.read
kernel_half texts source t = printed_half texts.kernel (kernel_tree t.are.plan source.tree) t.are.kernel_is (again texts source Kernel t)

user_half : (texts : Texts) (source : Source) (t : AreTextsOf texts source) → IsHalf texts.user (again texts source User t).is_source.read
user_half texts source t = printed_half texts.user (user_tree t.are.plan source.tree) t.are.user_is (again texts source User t)

joins : (texts : Texts) (source : Source) (kernel user : Tree) → AreTextsOf texts source → IsHalf texts.kernel kernel → IsHalf texts.user user → AreJoinedTo kernel user source.tree
joins texts source kernel user t k u =
    let s = come_source t.bytes source t.comes in
    halves_joined printed_alike t.are.plan source.tree kernel user k.tokens u.tokens (none_remote source.tree.items (sources_are_shaped false s.tokens source.tree (tokens_are_lexed t.bytes s.tokens s.are_tokens) s.reads))
    (again texts source Kernel t) (again texts source User t) (ap tokens_of (sym t.are.kernel_is) ∙ k.are_tokens) k.reads (ap tokens_of (sym t.are.user_is) ∙ u.are_tokens) u.reads

no_items : (is : List Item) (line : ℕ) → ◌≡◌ {A = Result (List Item) ℕ} (Ok is) (Err line) → ⊥
no_items is line e = absurd cc

same_items : (is js : List Item) → ◌≡◌ {A = Result (List Item) ℕ} (Ok is) (Ok js) → is ≡ js
same_items is js e = cc

-- whatever the two texts are joined to is the source's tree, places aside
joined_same : (texts : Texts) (source : Source) (items : List Item) → AreTextsOf texts source → AreJoined texts items → unplaced_tree (tree_with items) ≡ unplaced_tree source.tree
joined_same texts source items t a =
    let j = joins texts source a.kernel a.user t a.kernel_is a.user_is in
    ap (λ (is : List Item). unplaced_tree (tree_with is)) (same_items items j.items (sym a.joins ∙ j.is_joined)) ∙ j.same

-- ---- a text differs from itself nowhere

behind_same : (xs ys zs : List ℕ) → xs ++ ys ≡ xs ++ zs → ys ≡ zs
behind_same [] ys zs e = e
behind_same (x ∷ xs) ys zs e = let f : xs ++ ys ≡ xs ++ zs = cc in behind_same xs ys zs f

no_other : (said due : List ℕ) (line : ℕ) → said ≡ due → IsOtherLine said due line → ⊥
no_other said due line e o = o.differs (ap first_line (behind_same o.before o.said_rest o.due_rest (sym o.said_is ∙ e ∙ o.due_is)))

none_other : (given due : Texts) (m : Mismatch) → given ≡ due → IsOther given due m → ⊥
none_other given due _ e (IsOther.in_kernel line o) = no_other given.kernel due.kernel line (ap (λ (t : Texts). t.kernel) e) o
none_other given due _ e (IsOther.in_user line k o) = no_other given.user due.user line (ap (λ (t : Texts). t.user) e) o
none_other given due _ e (IsOther.in_plan line k u o) = no_other given.plan due.plan line (ap (λ (t : Texts). t.plan) e) o

-- ---- refused texts

refused_by : (texts : Texts) (o : Result Source Mismatch) (source : Source) → Come texts o → AreTextsOf texts source → IsErr o → ⊥
refused_by texts _ source (Come.no_kernel line f) t n = not_unread texts.kernel _ line (kernel_half texts source t) f
refused_by texts _ source (Come.no_user kernel line k f) t n = not_unread texts.user _ line (user_half texts source t) f
refused_by texts _ source (Come.apart kernel user line k u e) t n =
    let j = joins texts source kernel user t k u in no_items j.items line (sym j.is_joined ∙ e)
refused_by texts _ source (Come.faulty items refusal a m) t n =
    not_refused (tree_with items) source.program (Err refusal) (right_moved source.tree (tree_with items) source.program (sym (joined_same texts source items t a)) (source_right t.bytes source t.comes)) m tt
refused_by texts _ source (Come.other items program due a m are o) t n =
    let same = joined_same texts source items t a in
    let here : IsRight (tree_with items) source.program = right_moved source.tree (tree_with items) source.program (sym same) (source_right t.bytes source t.comes) in
    let one = same_program (tree_with items) program source.program (meaning_right (tree_with items) (Ok program) m) here in
    let moved = texts_moved (tree_with items) source.tree source.program due same (subst (λ (p : Program). AreTexts (tree_with items) p due) one are) in
    none_other texts due _ (texts_are_determined source.tree source.program texts due t.are moved) o
refused_by texts _ source (Come.whole other w) t n = n

pub refused_are_none : RefusedTextsAreOfNone
refused_are_none texts m source c t = refused_by texts (Err m) source c t tt

-- ---- one program

pub texts_of_one : TextsAreOfOne
texts_of_one texts source other t t' =
    let k = kernel_half texts source t in
    let u = user_half texts source t in
    let j = joins texts source _ _ t k u in
    let j' = joins texts other _ _ t' k u in
    let same : unplaced_tree source.tree ≡ unplaced_tree other.tree = sym j.same ∙ ap (λ (is : List Item). unplaced_tree (tree_with is)) (same_items j.items j'.items (sym j.is_joined ∙ j'.is_joined)) ∙ j'.same in
    record { trees = same; programs = same_program other.tree source.program other.program (right_moved source.tree other.tree source.program same (source_right t.bytes source t.comes)) (source_right t'.bytes other t'.comes) }
