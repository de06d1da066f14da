-- The rules of statements and of bodies look at no place.
use Rattle.mdr_body.specs.Bodies.{body_by, body_rule, declared_locals, local_again}
use Rattle.mdr_body.specs.Locals.{entered, is_own_object, left, local_object, numbered, parameter_taken, with_local}
use Rattle.mdr_body.specs.Clauses.{clause_place, ends, is_last, label_kind}
use Rattle.mdr_body.specs.Labels.{labels_behind}
use Rattle.mdr_body.specs.Statements.{setting_of, standing_of, tail_of, target_of}
use Rattle.mdr_body.specs.Statements.{ForHead, as_part, behind_head, broken, broken_by, clause_jumps, clauses_behind, clauses_made, condition, declared_then, do_of, for_head, for_of, heads_behind, heads_made, if_of, initial_by, initial_step, inner_jumps, jumped, jumps_before, line_behind, line_made, lines_behind, lines_made, local_made, loop_jumps, no_jumps, own_place, perhaps_behind, perhaps_condition, perhaps_made, return_by, return_step, simple_behind, simple_made, steps_behind, steps_made, switch_of, tested_value, text_of, value_return, while_of}
use Rattle.mdr_body.specs.declared.clauses.MadeClause.{MadeClause}
use Rattle.mdr_body.specs.declared.here.Breaks.{Breaks as Leaving}
use Rattle.mdr_body.specs.declared.here.Breaks.TheVariants as break_of
use Rattle.mdr_body.specs.declared.here.DeclaredLocal.{DeclaredLocal}
use Rattle.mdr_body.specs.declared.here.Frame.{Frame}
use Rattle.mdr_body.specs.declared.here.Here.{Here}
use Rattle.mdr_body.specs.declared.here.Jumps.{Jumps}
use Rattle.mdr_body.specs.declared.labels.CaseLabel.{CaseLabel}
use Rattle.mdr_core.specs.declared.kind.Kind.{Kind}
use Rattle.mdr_core.specs.declared.place.Place.{Place}
use Rattle.mdr_faults.specs.Declarations.{is_void}
use Rattle.mdr_faults.specs.Faults.{Checked, each}
use Rattle.mdr_faults.specs.declared.fault.FaultKind.TheVariants.{Mismatch}
use Rattle.mdr_faults.specs.declared.scope.Scope.{Scope}
use Rattle.mdr_operand.specs.declared.operand.Integer.{Integer}
use Rattle.mdr_operand.specs.declared.operand.Operand.{Operand}
use Rattle.mdr_operand.specs.declared.room.LocalName.{LocalName}
use Rattle.mdr_placeless.proofs.Annotated.{AreWhole}
use Rattle.mdr_placeless.proofs.Combined.{after_alike, both_alike, chosen_alike, demand_by, next_alike, rights_by}
use Rattle.mdr_placeless.proofs.Expressions.{expressions}
use Rattle.mdr_placeless.proofs.Headings.{heads}
use Rattle.mdr_placeless.proofs.Labels.{ends_both, kinds_same, labels_both, seen_both, switch_values}
use Rattle.mdr_placeless.proofs.Lines.{AreClauses, AreLine, AreLines, lines_both}
use Rattle.mdr_placeless.proofs.Lines.AreClauses.{MoreClauses, NoClauses}
use Rattle.mdr_placeless.proofs.Lines.AreLine.{Assigns, Blocks, Breaks, Continues, Dos, Empties, Fors, Ifs, Locals, Plains, Returns, Switches, Whiles}
use Rattle.mdr_placeless.proofs.Locals.{AreFrames, AreHere, AreLocals, entered_both, first_here_both, frames, left_both, local_objects, numbered_both, with_both}
use Rattle.mdr_placeless.proofs.Addresses.{head_both, line_taken, takes_both}
use Rattle.mdr_placeless.proofs.Operands.{scalars}
use Rattle.mdr_placeless.proofs.Postfixes.{AreLocalNames}
use Rattle.mdr_placeless.proofs.Scopes.{AreScopes, Pairs, Perhaps, again_alike, pairs_map}
use Rattle.mdr_placeless.proofs.Scopes.Pairs.{Cons, Nil}
use Rattle.mdr_placeless.proofs.Scopes.Perhaps.{Nones, Somes}
use Rattle.mdr_placeless.proofs.Steps.{assignments, calls_alone, returns_of, stores}
use Rattle.mdr_placeless.proofs.Written.{AreWritten}
use Rattle.mdr_placeless.proofs.Written.AreWritten.{Binaries, Calls, Casts, Choices, Members, Names, Nulls, Numbers, Posts, Prefixes, Subscripts, Texts, Types}
use Rattle.mdr_placeless.specs.Alike.{AreAlike}
use Rattle.mdr_placeless.specs.Alike.AreAlike.{Rights, Wrongs}
use Rattle.mdr_roundtrip.specs.Itemised.{unplaced_head}
use Rattle.mdr_roundtrip.specs.Stated.{unplaced_node}
use Rattle.mdr_syntax.specs.declared.tree.Head.{Head}
use Rattle.mdr_syntax.specs.declared.tree.Node.{Node}
use Rattle.mdr_typing.specs.Profile.{profile_rules}
use Rattle.std.proofs.Common.{Bool, List, None, Option, Some, [], ap, false, length, map, refl, subst, true, ℕ, ◌∙◌, ◌∷◌, ◌≡◌}
use Rattle.mdr_body.specs.Locals.{is_taken}
use Rattle.mdr_body.specs.Statements.{single, stmt, stated, tested, takes_text, is_single}
use Rattle.mdr_rich.specs.declared.code.Expr.{Expr}
use Rattle.mdr_rich.specs.declared.code.Step.TheVariants as step
use Rattle.mdr_rich.specs.declared.code.Step.{Step}
use Rattle.mdr_rich.specs.declared.code.Stmt.{Stmt}
use Rattle.mdr_core.specs.declared.types.Ty.{Ty}
use Rattle.mdr_faults.specs.declared.scope.Object.{Object}
use Rattle.mdr_operand.specs.Written.{Written, Line, Lines, Clauses, lines_of}
use Rattle.mdr_placeless.proofs.Lines.AreLines.{Ends as NoLines, Thens as MoreLines}
use Rattle.mdr_syntax.specs.declared.tree.Decl.{Decl, out-Decl}

same_single : (m n : ℕ) (x : Step) → m ≡ n → AreAlike (single m x) (single n x)
same_single m n x e = rights_by (ap (λ k. stmt k x ∷ []) e)

stated_both : (m n : ℕ) → m ≡ n → {c d : Checked Step} → AreAlike c d → AreAlike (stated m c) (stated n d)
stated_both m n e h = after_alike h (λ x. same_single m n x e)

tested_both : (p q : Place) (x : Operand) → AreAlike (tested p x) (tested q x)
tested_both p q x = after_alike (scalars p q x) (λ v. Rights _)

module _ {s t : Scope} (a : AreScopes s t) {h k : Here} (r : AreHere h k) where
  -- ---- conditions

  conditions_both : (p q : Place) {v w : Written} → AreWritten v w → AreAlike (condition profile_rules s h p v) (condition profile_rules t k q w)
  unfolding condition
  conditions_both p q z = after_alike (expressions a r.names_both z) (tested_both p q)

  tested_values : (p q : Place) {v w : Written} → AreWritten v w → AreAlike (tested_value profile_rules s h p v) (tested_value profile_rules t k q w)
  unfolding tested_value
  tested_values p q z = after_alike (expressions a r.names_both z) (switch_values p q)

  perhaps_conditions : (p q : Place) {o o' : Option Written} → Perhaps AreWritten o o' → AreAlike (perhaps_condition profile_rules s h p o) (perhaps_condition profile_rules t k q o')
  unfolding perhaps_condition
  perhaps_conditions p q Nones = Rights _
  perhaps_conditions p q (Somes z) = after_alike (conditions_both p q z) (λ e. Rights _)

  -- ---- returns

  values_returned : (p q : Place) {v w : Written} → AreWritten v w → (u : Ty) → AreAlike (value_return (profile_rules.returned s h.names) p v u) (value_return (profile_rules.returned t k.names) q w u)
  values_returned p q z u = chosen_alike (is_void u) (Wrongs _ _) (returns_of a r.names_both p q u z)

  returns_by : (p q : Place) {o o' : Option Written} → Perhaps AreWritten o o' → (u : Ty) → AreAlike (return_by (profile_rules.returned s h.names) p o u) (return_by (profile_rules.returned t k.names) q o' u)
  returns_by p q Nones u = chosen_alike (is_void u) (Rights _) (Wrongs _ _)
  returns_by p q (Somes z) u = values_returned p q z u

  returns_both : {f g : Frame} → AreFrames f g → (p q : Place) {o o' : Option Written} → Perhaps AreWritten o o' → AreAlike (return_step (setting_of profile_rules s f) h p o) (return_step (setting_of profile_rules t g) k q o')
  unfolding return_step
  returns_both fs p q z = after_alike (again_alike fs.result_both) (returns_by p q z)

text_both : {v w : Written} → AreWritten v w → text_of v ≡ text_of w
text_both (Numbers p q n k) = refl
text_both (Nulls p q) = refl
text_both (Names p q name) = refl
text_both (Prefixes p q op r) = refl
text_both (Posts p q op r) = refl
text_both (Casts p q n bs r) = refl
text_both (Binaries p q op r k) = refl
text_both (Choices p q r k l) = refl
text_both (Subscripts p q r k) = refl
text_both (Members p q at there is_arrow name r) = refl
text_both (Calls p q r rs) = refl
text_both (Texts p q bytes) = refl
text_both (Types p q n bs) = refl

initials_by : {s t : Scope} → AreScopes s t → {ns ms : List LocalName} → Pairs AreLocalNames ns ms → (p q : Place) (slot : ℕ) (b : Bool) {v w : Written} → AreWritten v w → (x : Option (List ℕ)) (o : Object) → AreAlike (initial_by (profile_rules.stored s ns) (target_of p slot b) v x o) (initial_by (profile_rules.stored t ms) (target_of q slot b) w x o)
initials_by a h p q slot b z None o = chosen_alike (is_single o) (stores a h p q (own_place (is_own_object b o) slot o.ty) o.ty z) (Wrongs _ _)
initials_by a h p q slot b z (Some bytes) o = chosen_alike (takes_text o (length bytes)) (Rights _) (Wrongs _ _)

jumps : (p q : Place) (in_loop : Bool) (x : Step) → AreAlike (jumped p in_loop x) (jumped q in_loop x)
jumps p q true x = Rights x
jumps p q false x = Wrongs _ _

broken_by_both : (m n : ℕ) → m ≡ n → (p q : Place) (in_loop : Bool) (leaving : Leaving) → AreAlike (broken_by m p in_loop leaving) (broken_by n q in_loop leaving)
broken_by_both m n e p q in_loop break_of.Loop = stated_both m n e (jumps p q in_loop step.Break)
broken_by_both m n e p q in_loop break_of.Clause = Rights _
broken_by_both m n e p q in_loop break_of.Nothing = Wrongs _ _

broken_both : (m n : ℕ) → m ≡ n → (p q : Place) (around : Jumps) → AreAlike (broken m p around) (broken n q around)
unfolding broken
broken_both m n e p q around = broken_by_both m n e p q around.in_loop around.breaks

before_both : (around : Jumps) {ls ks : Lines} → AreLines ls ks → jumps_before around ls ≡ jumps_before around ks
before_both around NoLines = refl
before_both around (MoreLines x xs) = refl

declared_then_both : (m n i j : ℕ) (x : Step) → m ≡ n → i ≡ j → AreAlike (declared_then m i x) (declared_then n j x)
declared_then_both m n i j x e f = rights_by (ap (λ z. stmt z (step.Declare i) ∷ stmt z x ∷ []) e ∙ ap (λ z. stmt n (step.Declare z) ∷ stmt n x ∷ []) f)

module _ {s t : Scope} (a : AreScopes s t) {f g : Frame} (fs : AreFrames f g) where
  -- ---- declarations

  with_in : {h k : Here} → AreHere h k → {d e : Decl} → AreWhole d e → (b : Bool) → AreHere (with_local s f.locks b d h) (with_local t g.locks b e k)
  with_in {h = h} {k = k} r {d = d} {e = e} w b = subst (λ (ls : List Bool). AreHere (with_local s f.locks b d h) (with_local t ls b e k)) fs.lock_both (with_both a f.locks r w b)

  objects_in : {d e : Decl} → AreWhole d e → AreAlike (local_object s f.locks d) (local_object t g.locks e)
  objects_in {d = d} {e = e} w = subst (λ (ls : List Bool). AreAlike (local_object s f.locks d) (local_object t ls e)) fs.lock_both (local_objects a f.locks w.decl)

  initial_steps : {h k : Here} → AreHere h k → {d e : Decl} → AreWhole d e → (b : Bool) {v w : Written} → AreWritten v w → AreAlike (initial_step (setting_of profile_rules s f) h b d v) (initial_step (setting_of profile_rules t g) k b e w)
  unfolding initial_step
  initial_steps {h = h} {k = k} r {d = d} {e = e} w b {v = v} {w = v'} z =
      after_alike (objects_in w) (λ o.
      subst (λ n. AreAlike (initial_by (profile_rules.stored s (with_local s f.locks b d h).names) (target_of (out-Decl d).place h.slot b) v (text_of v) o) (initial_by (profile_rules.stored t (with_local t g.locks b e k).names) (target_of (out-Decl e).place n b) v' (text_of v') o)) r.slot_both
      (subst (λ x. AreAlike (initial_by (profile_rules.stored s (with_local s f.locks b d h).names) (target_of (out-Decl d).place h.slot b) v (text_of v) o) (initial_by (profile_rules.stored t (with_local t g.locks b e k).names) (target_of (out-Decl e).place h.slot b) v' x o)) (text_both z)
      (initials_by a (with_in r w b).names_both (out-Decl d).place (out-Decl e).place h.slot b z (text_of v) o)))

  locals_made : {h k : Here} → AreHere h k → {d e : Decl} → AreWhole d e → (b : Bool) {o o' : Option Written} → Perhaps AreWritten o o' → AreAlike (local_made (setting_of profile_rules s f) h b d o) (local_made (setting_of profile_rules t g) k b e o')
  unfolding local_made
  locals_made {h = h} {k = k} r w b Nones = rights_by (ap (λ n. stmt n (step.Declare h.slot) ∷ []) r.number_both ∙ ap (λ n. stmt k.number (step.Declare n) ∷ []) r.slot_both)
  locals_made {h = h} {k = k} r w b (Somes z) = after_alike (initial_steps r w b z) (λ x. declared_then_both h.number k.number h.slot k.slot x r.number_both r.slot_both)

  -- ---- statements without parts

  simples : {h k : Here} → AreHere h k → (around : Jumps) (b : Bool) {l l' : Line} → AreLine l l' → AreAlike (simple_made (setting_of profile_rules s f) around h b l) (simple_made (setting_of profile_rules t g) around k b l')
  simples {h = h} {k = k} r around b (Empties p q) = same_single h.number k.number step.Empty r.number_both
  simples r around b (Blocks p q ls) = Wrongs _ _
  simples r around b (Locals p q w o) = locals_made r w b o
  simples {h = h} {k = k} r around b (Assigns p q at there op y z) = stated_both h.number k.number r.number_both (assignments a r.names_both at there op y z)
  simples {h = h} {k = k} r around b (Plains p q z) = stated_both h.number k.number r.number_both (calls_alone a r.names_both z)
  simples r around b (Ifs p q z l ls) = Wrongs _ _
  simples r around b (Whiles p q z l) = Wrongs _ _
  simples r around b (Fors p q ls o ls' l) = Wrongs _ _
  simples r around b (Dos p q l z) = Wrongs _ _
  simples r around b (Switches p q z cs) = Wrongs _ _
  simples {h = h} {k = k} r around b (Returns p q o) = stated_both h.number k.number r.number_both (returns_both a r fs p q o)
  simples {h = h} {k = k} r around b (Breaks p q) = broken_both h.number k.number r.number_both p q around
  simples {h = h} {k = k} r around b (Continues p q) = stated_both h.number k.number r.number_both (jumps p q around.in_loop step.Continue)

  simples_by : {h k : Here} → AreHere h k → (around : Jumps) (b c : Bool) → b ≡ c → {l l' : Line} → AreLine l l' → AreAlike (simple_made (setting_of profile_rules s f) around h b l) (simple_made (setting_of profile_rules t g) around k c l')
  simples_by {h = h} {k = k} r around b c e {l = l} {l' = l'} z = subst (λ x. AreAlike (simple_made (setting_of profile_rules s f) around h b l) (simple_made (setting_of profile_rules t g) around k x l')) e (simples r around b z)

  behinds : {h k : Here} → AreHere h k → (b : Bool) {l l' : Line} → AreLine l l' → AreHere (simple_behind s f h b l) (simple_behind t g k b l')
  behinds r b (Empties p q) = r
  behinds r b (Blocks p q ls) = r
  behinds r b (Locals p q w o) = with_in r w b
  behinds r b (Assigns p q at there op y z) = r
  behinds r b (Plains p q z) = r
  behinds r b (Ifs p q z l ls) = r
  behinds r b (Whiles p q z l) = r
  behinds r b (Fors p q ls o ls' l) = r
  behinds r b (Dos p q l z) = r
  behinds r b (Switches p q z cs) = r
  behinds r b (Returns p q o) = r
  behinds r b (Breaks p q) = r
  behinds r b (Continues p q) = r

  behinds_by : {h k : Here} → AreHere h k → (b c : Bool) → b ≡ c → {l l' : Line} → AreLine l l' → AreHere (simple_behind s f h b l) (simple_behind t g k c l')
  behinds_by {h = h} {k = k} r b c e {l = l} {l' = l'} z = subst (λ x. AreHere (simple_behind s f h b l) (simple_behind t g k x l')) e (behinds r b z)

  -- ---- the head of a `for`

  module _ {o o' : Option Written} {ls' ks' : Lines} {b c : Line} (z : Perhaps AreWritten o o') (rs' : AreLines ls' ks') (y : AreLine b c) where
    heads_of : {ls ks : Lines} → AreLines ls ks → {h k : Here} → AreHere h k → AreAlike (heads_made (setting_of profile_rules s f) h (tail_of o ls' b) ls) (heads_made (setting_of profile_rules t g) k (tail_of o' ks' c) ks)
    unfolding heads_made
    heads_of NoLines r = Rights _
    heads_of (MoreLines x xs) r = both_alike (simples_by r no_jumps _ _ (head_both x xs z rs' y) x) (heads_of xs (behinds_by r _ _ (head_both x xs z rs' y) x)) (λ u v. Rights _)

    heads_past : {ls ks : Lines} → AreLines ls ks → {h k : Here} → AreHere h k → AreHere (heads_behind s f h (tail_of o ls' b) ls) (heads_behind t g k (tail_of o' ks' c) ks)
    unfolding heads_behind
    heads_past NoLines r = r
    heads_past (MoreLines x xs) r = heads_past xs (behinds_by r _ _ (head_both x xs z rs' y) x)

  steps_of : {ls ks : Lines} → AreLines ls ks → {h k : Here} → AreHere h k → AreAlike (steps_made (setting_of profile_rules s f) h ls) (steps_made (setting_of profile_rules t g) k ks)
  steps_of NoLines r = Rights _
  steps_of (MoreLines x xs) r = simples r no_jumps false x

  steps_past : {ls ks : Lines} → AreLines ls ks → {h k : Here} → AreHere h k → AreHere (steps_behind s f h ls) (steps_behind t g k ks)
  steps_past NoLines r = r
  steps_past (MoreLines x xs) r = behinds r false x

  for_heads : {h k : Here} → AreHere h k → (p q : Place) {ls ks ls' ks' : Lines} {o o' : Option Written} {b c : Line} → AreLines ls ks → Perhaps AreWritten o o' → AreLines ls' ks' → AreLine b c → AreAlike (for_head (setting_of profile_rules s f) h p ls (tail_of o ls' b)) (for_head (setting_of profile_rules t g) k q ks (tail_of o' ks' c))
  unfolding for_head
  for_heads r p q rs z rs' y = both_alike (both_alike (heads_of z rs' y rs r) (perhaps_conditions a (heads_past z rs' y rs r) p q z) (λ u v. Rights _)) (steps_of rs' (heads_past z rs' y rs r)) (λ u v. Rights _)

  past_heads : {h k : Here} → AreHere h k → {ls ks ls' ks' : Lines} {o o' : Option Written} {b c : Line} → AreLines ls ks → Perhaps AreWritten o o' → AreLines ls' ks' → AreLine b c → AreHere (behind_head s f h ls (tail_of o ls' b)) (behind_head t g k ks (tail_of o' ks' c))
  unfolding behind_head
  past_heads r rs z rs' y = numbered_both (steps_past rs' (heads_past z rs' y rs r))

  -- ---- statements with parts

  mutual
    line_past : {l l' : Line} → AreLine l l' → {h k : Here} → AreHere h k → (b : Bool) → AreHere (line_behind s f h b l) (line_behind t g k b l')
    line_past (Empties p q) r b = numbered_both r
    line_past (Blocks p q ls) r b = left_both r (lines_past ls (entered_both r))
    line_past (Locals p q w o) r b = numbered_both (with_in r w b)
    line_past (Assigns p q at there op y z) r b = numbered_both r
    line_past (Plains p q z) r b = numbered_both r
    line_past (Ifs p q z l ls) r b = perhaps_past ls (line_past l (numbered_both r) false)
    line_past (Whiles p q z l) r b = line_past l (numbered_both r) false
    line_past (Fors p q ls o ls' l) r b = left_both r (line_past l (past_heads (entered_both r) ls o ls' l) false)
    line_past (Dos p q l z) r b = line_past l (numbered_both r) false
    line_past (Switches p q z cs) r b = clauses_past cs (numbered_both r)
    line_past (Returns p q o) r b = numbered_both r
    line_past (Breaks p q) r b = numbered_both r
    line_past (Continues p q) r b = numbered_both r

    perhaps_past : {ls ks : Lines} → AreLines ls ks → {h k : Here} → AreHere h k → AreHere (perhaps_behind s f h ls) (perhaps_behind t g k ks)
    perhaps_past NoLines r = r
    perhaps_past (MoreLines x xs) r = line_past x r false

    lines_past : {ls ks : Lines} → AreLines ls ks → {h k : Here} → AreHere h k → AreHere (lines_behind s f h ls) (lines_behind t g k ks)
    lines_past NoLines r = r
    lines_past (MoreLines {l = l} {k = l'} {ls = ls} {ks = ks} x xs) {h = h} {k = k} r =
        lines_past xs (subst (λ c. AreHere (line_behind s f h (is_taken l ls) l) (line_behind t g k c l')) (line_taken x xs) (line_past x r (is_taken l ls)))

    clauses_past : {cs ds : Clauses} → AreClauses cs ds → {h k : Here} → AreHere h k → AreHere (clauses_behind s f h cs) (clauses_behind t g k ds)
    clauses_past NoClauses r = r
    clauses_past (MoreClauses xs ls cs) r = clauses_past cs (left_both r (lines_past ls (entered_both r)))

  ifs_both : (m n : ℕ) → m ≡ n → (x : Expr × List Stmt) (ss : List Stmt) → AreAlike (if_of m x ss) (if_of n x ss)
  ifs_both m n e x ss = subst (λ k. AreAlike (if_of m x ss) (if_of k x ss)) e (Rights _)

  whiles_both : (m n : ℕ) → m ≡ n → (x : Expr) (ss : List Stmt) → AreAlike (while_of m x ss) (while_of n x ss)
  whiles_both m n e x ss = subst (λ k. AreAlike (while_of m x ss) (while_of k x ss)) e (Rights _)

  fors_both : (m n : ℕ) → m ≡ n → (x : ForHead) (ss : List Stmt) → AreAlike (for_of m x ss) (for_of n x ss)
  fors_both m n e x ss = subst (λ k. AreAlike (for_of m x ss) (for_of k x ss)) e (Rights _)

  dos_both : (m n : ℕ) → m ≡ n → (ss : List Stmt) (x : Expr) → AreAlike (do_of m ss x) (do_of n ss x)
  dos_both m n e ss x = subst (λ k. AreAlike (do_of m ss x) (do_of k ss x)) e (Rights _)

  switches_both : (m n : ℕ) → m ≡ n → (v : Integer) (ms : List MadeClause) → AreAlike (switch_of m v ms) (switch_of n v ms)
  switches_both m n e v ms = subst (λ k. AreAlike (switch_of m v ms) (switch_of k v ms)) e (Rights _)

  parts_both : (is_part : Bool) {c d : Checked (List Stmt)} → AreAlike c d → AreAlike (as_part is_part c) (as_part is_part d)
  parts_both true h = h
  parts_both false h = after_alike h (λ ss. Rights _)

  mutual
    line_made_both : {l l' : Line} → AreLine l l' → (around : Jumps) (is_part : Bool) {h k : Here} → AreHere h k → (b : Bool) → AreAlike (line_made (setting_of profile_rules s f) (standing_of around is_part b) h l) (line_made (setting_of profile_rules t g) (standing_of around is_part b) k l')
    line_made_both (Empties p q) around is_part r b = simples r around b (Empties p q)
    line_made_both (Blocks p q ls) around is_part r b = parts_both is_part (lines_made_both ls (inner_jumps around) (entered_both r))
    line_made_both (Locals p q w o) around is_part r b = simples r around b (Locals p q w o)
    line_made_both (Assigns p q at there op y z) around is_part r b = simples r around b (Assigns p q at there op y z)
    line_made_both (Plains p q z) around is_part r b = simples r around b (Plains p q z)
    line_made_both (Ifs p q z l ls) around is_part {h = h} {k = k} r b =
        both_alike (both_alike (conditions_both a r p q z) (line_made_both l (inner_jumps around) true (numbered_both r) false) (λ u v. Rights _)) (perhaps_made_both ls (inner_jumps around) (line_past l (numbered_both r) false)) (ifs_both h.number k.number r.number_both)
    line_made_both (Whiles p q z l) around is_part {h = h} {k = k} r b =
        both_alike (conditions_both a r p q z) (line_made_both l loop_jumps true (numbered_both r) false) (whiles_both h.number k.number r.number_both)
    line_made_both (Fors p q ls o ls' l) around is_part {h = h} {k = k} r b =
        both_alike (for_heads (entered_both r) p q ls o ls' l) (line_made_both l loop_jumps true (past_heads (entered_both r) ls o ls' l) false) (fors_both h.number k.number r.number_both)
    line_made_both (Dos p q l z) around is_part {h = h} {k = k} r b =
        both_alike (line_made_both l loop_jumps true (numbered_both r) false) (conditions_both a (line_past l (numbered_both r) false) p q z) (dos_both h.number k.number r.number_both)
    line_made_both (Switches p q {v = v} {w = w} {cs = cs} {ds = ds} z rs) around is_part {h = h} {k = k} r b =
        let inner : Jumps = clause_jumps around in
        let tested = tested_values a r p q z in
        let κ : Kind = label_kind (tested_value profile_rules s h p v) in
        both_alike tested
        (subst (λ c. AreAlike (clauses_made (setting_of profile_rules s f) inner (numbered h) (record { place = p; kind = κ }) [] cs) (clauses_made (setting_of profile_rules t g) inner (numbered k) (record { place = q; kind = c }) [] ds)) (kinds_same tested)
        (clauses_made_both rs inner (numbered_both r) p q κ []))
        (switches_both h.number k.number r.number_both)
    line_made_both (Returns p q o) around is_part r b = simples r around b (Returns p q o)
    line_made_both (Breaks p q) around is_part r b = simples r around b (Breaks p q)
    line_made_both (Continues p q) around is_part r b = simples r around b (Continues p q)

    perhaps_made_both : {ls ks : Lines} → AreLines ls ks → (around : Jumps) {h k : Here} → AreHere h k → AreAlike (perhaps_made (setting_of profile_rules s f) around h ls) (perhaps_made (setting_of profile_rules t g) around k ks)
    perhaps_made_both NoLines around r = Rights _
    perhaps_made_both (MoreLines x xs) around r = line_made_both x around true r false

    lines_made_both : {ls ks : Lines} → AreLines ls ks → (around : Jumps) {h k : Here} → AreHere h k → AreAlike (lines_made (setting_of profile_rules s f) around h ls) (lines_made (setting_of profile_rules t g) around k ks)
    lines_made_both NoLines around r = Rights _
    lines_made_both (MoreLines {l = l} {k = l'} {ls = ls} {ks = ks} x xs) around {h = h} {k = k} r =
        let inner : Jumps = jumps_before around ls in
        both_alike (subst (λ j. AreAlike (line_made (setting_of profile_rules s f) (standing_of inner false (is_taken l ls)) h l) (line_made (setting_of profile_rules t g) (standing_of j false (is_taken l' ks)) k l')) (before_both around xs)
        (subst (λ c. AreAlike (line_made (setting_of profile_rules s f) (standing_of inner false (is_taken l ls)) h l) (line_made (setting_of profile_rules t g) (standing_of inner false c) k l')) (line_taken x xs) (line_made_both x inner false r (is_taken l ls))))
        (lines_made_both xs around (subst (λ c. AreHere (line_behind s f h (is_taken l ls) l) (line_behind t g k c l')) (line_taken x xs) (line_past x r (is_taken l ls)))) (λ u v. Rights _)

    -- over a value of a kind, behind the labels that were seen
    clauses_made_both : {cs ds : Clauses} → AreClauses cs ds → (around : Jumps) {h k : Here} → AreHere h k → (p q : Place) (κ : Kind) (seen : List CaseLabel)
        → AreAlike (clauses_made (setting_of profile_rules s f) around h (record { place = p; kind = κ }) seen cs) (clauses_made (setting_of profile_rules t g) around k (record { place = q; kind = κ }) seen ds)
    clauses_made_both NoClauses around r p q κ seen = Rights _
    clauses_made_both (MoreClauses {xs = xs} {ys = ys} {ls = ls} {ks = ks} {cs = cs} {ds = ds} labels lines clauses) around {h = h} {k = k} r p q κ seen =
        let inner = left_both r (lines_past lines (entered_both r)) in
        let behind : List CaseLabel = labels_behind s h.names κ seen xs in
        both_alike (both_alike (labels_both a r.names_both κ seen labels) (demand_by (clause_place p xs) (clause_place q ys) Mismatch (ends ls (is_last cs)) (ends ks (is_last ds)) (ends_both lines clauses) (lines_made_both lines around (entered_both r))) (λ u v. Rights _))
        (subst (λ z. AreAlike (clauses_made (setting_of profile_rules s f) around (left h (lines_behind s f (entered h) ls)) (record { place = p; kind = κ }) behind cs) (clauses_made (setting_of profile_rules t g) around (left k (lines_behind t g (entered k) ks)) (record { place = q; kind = κ }) z ds)) (seen_both a r.names_both κ seen labels)
        (clauses_made_both clauses around inner p q κ behind)) (λ u v. Rights _)

-- ---- bodies

all_declared : {ds es : List DeclaredLocal} → Pairs AreLocals ds es → AreAlike (each (map local_again ds)) (each (map local_again es))
all_declared Nil = Rights _
all_declared (Cons r rs) = next_alike (again_alike r.told_both) (all_declared rs)

locals_of : {ds es : List DeclaredLocal} → Pairs AreLocals ds es → AreAlike (declared_locals ds) (declared_locals es)
unfolding declared_locals
locals_of h = all_declared h

bodies_by : {s t : Scope} → AreScopes s t → {f g : Frame} → AreFrames f g → {h k : Here} → AreHere h k → (bs cs : List Bool) → bs ≡ cs → {ls ks : Lines} → AreLines ls ks → AreAlike (body_by (setting_of profile_rules s f) h bs ls) (body_by (setting_of profile_rules t g) k cs ks)
bodies_by a fs r bs cs e rs = both_alike (locals_of (lines_past a fs rs r).locals_both) (lines_made_both a fs rs no_jumps r) (λ ls ss. rights_by (ap (λ (x : List Bool). record { objects = x; locals = ls; statements = ss }) e))

pub bodies : {s t : Scope} → AreScopes s t → (h : Head) (ns : List Node) → AreAlike (body_rule profile_rules s h ns) (body_rule profile_rules t (unplaced_head h) (map unplaced_node ns))
unfolding body_rule
bodies {s = s} {t = t} a h ns =
    bodies_by a (frames a (heads h)) (first_here_both a (lines_both ns) (heads h).params_both)
    (map (parameter_taken (lines_of ns)) h.params) (map (parameter_taken (lines_of (map unplaced_node ns))) (unplaced_head h).params)
    (pairs_map (parameter_taken (lines_of ns)) (parameter_taken (lines_of (map unplaced_node ns))) (λ d e w. takes_both w.decl.named Nones (lines_both ns)) (heads h).params_both)
    (lines_both ns)
