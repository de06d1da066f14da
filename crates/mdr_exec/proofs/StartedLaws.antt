-- A function is started over what a machine holds.
use Rattle.std.proofs.Common.{◌≡◌, ℕ, suc, ◌+◌, ◌≤◌, List, [], ◌∷◌, ◌++◌, reverse, Option, Some, None, slice_get, refl, ap, ◌∙◌, arith}
use Rattle.std.proofs.lemmas.List.{reverse-append}
use Rattle.mdr_core.specs.declared.program.Program.{Program}
use Rattle.mdr_core.specs.declared.program.Func.{Func}
use Rattle.mdr_core.specs.declared.code.Stmt.{Stmt}
use Rattle.mdr_core.specs.declared.value.Value.{Value}
use Rattle.mdr_core.specs.Typing.{slots_of}
use Rattle.mdr_meaning.specs.declared.wire.Wire.{Wire}
use Rattle.mdr_meaning.specs.Bodies.{body_by, body_from, body_of, started}
use Rattle.mdr_meaning.specs.Cut.{cut}
use Rattle.mdr_meaning.specs.Sides.{Body, Side, framed}
use Rattle.mdr_events.specs.Held.{Held, tree}
use Rattle.mdr_events.specs.Running.{started_over}
use Rattle.mdr_events.specs.Values.{wires_of}
use Rattle.mdr_exec.specs.declared.frame.Frame.{Frame as Running}
use Rattle.mdr_exec.specs.declared.frame.Front.{Front as Before}
use Rattle.mdr_exec.specs.declared.frame.Front.TheVariants as front
use Rattle.mdr_exec.specs.declared.frame.Until.TheVariants as until
use Rattle.mdr_exec.specs.declared.frame.Suspended.{Suspended}
use Rattle.mdr_exec.specs.declared.frame.Machine.{Machine}
use Rattle.mdr_exec.specs.declared.places.Position.{Position}
use Rattle.mdr_exec.specs.Found.{body_codes, codes_by, codes_from}
use Rattle.mdr_exec.specs.Holding.{around, below_of, held_of, here_of, result_by, slots_by}
use Rattle.mdr_exec.specs.Places.{behind, inner}
use Rattle.mdr_exec.proofs.RunningLaws.{functions_are_started}

-- the body of a function of the table
abbrev body_in : Program → ℕ → Body
body_in program f = record { slots = slots_by (slice_get program.funcs f); result = result_by (slice_get program.funcs f); code = codes_from (slice_get program.funcs f) }

its_body : (o : Option Func) (b : Body) → body_from o ≡ Some b → ◌≡◌ {A = Option Body} (body_from o) (Some (record { slots = slots_by o; result = result_by o; code = codes_from o }))
its_body None b h = absurd (cc h)
its_body (Some func) b h = by_body func.body h where
  by_body : (x : Option (List Stmt)) → body_by func x ≡ Some b → ◌≡◌ {A = Option Body} (body_by func x) (Some (record { slots = slots_of func; result = func.result; code = codes_by x }))
  by_body None h = absurd (cc h)
  by_body (Some body) h = refl

module _ (program : Program) (m : Machine) (func depth : ℕ) (args : List Wire) where
  -- the machine after the start
  abbrev then_holds : (d : ℕ) (path : List Position) (slots born : List Value) (below : List Suspended) → Machine
  then_holds d path slots born below = record {
    side = m.side;
    front = front.Enters;
    top = record { func = func; depth = d; path = path; next = 0; slots = slots; born = born };
    below = below;
    used = m.used;
  }

  is_started : (d : ℕ) (path : List Position) (slots born : List Value) (below : List Suspended)
      → d ≡ depth + 1 → path ≡ [] → born ≡ [] → wires_of slots ≡ framed (slots_by (slice_get program.funcs func)) args
      → below ≡ m.below ++ record { frame = m.top; until = until.Started m.front } ∷ []
      → held_of program (then_holds d path slots born below) ≡ started_over (held_of program m) func (body_in program func) args depth
  unfolding held_of here_of below_of around inner behind body_codes
  is_started d path slots born below e p q s is =
      let more : d ≡ suc depth = omega (arith, e) in
      let order : reverse below ≡ record { frame = m.top; until = until.Started m.front } ∷ reverse m.below = ap reverse is ∙ reverse-append m.below (record { frame = m.top; until = until.Started m.front } ∷ []) in
      rw (more, p, q, s, order) refl

  pub starts : (d : ℕ) (path : List Position) (slots born : List Value) (below : List Suspended)
      → d ≡ depth + 1 → path ≡ [] → born ≡ [] → wires_of slots ≡ framed (slots_by (slice_get program.funcs func)) args
      → below ≡ m.below ++ record { frame = m.top; until = until.Started m.front } ∷ []
      → (b : Body) → body_of program func ≡ Some b
      → (side : Side) → side.own func ≡ body_of program func → (f r : ℕ) → r ≤ f
      → tree side f (held_of program (then_holds d path slots born below)) r ≡ cut r (started side (f + 1) func args depth (tree side f (held_of program m) r))
  unfolding body_of
  starts d path slots born below e p q s is b has side own f r fewer =
      let fuel : suc f ≡ f + 1 = omega arith in
      ap (λ (h : Held). tree side f h r) (is_started d path slots born below e p q s is)
      ∙ functions_are_started side (held_of program m) func (body_in program func) args depth (own ∙ its_body (slice_get program.funcs func) b has) f r fewer
      ∙ ap (λ x. cut r (started side x func args depth (tree side f (held_of program m) r))) fuel

  -- the same, where the parts are known by equations
  pub starts_so : (top frame : Running) (before old : Before) (d : ℕ) (path : List Position) (slots born : List Value) (below : List Suspended)
      → top ≡ record { func = func; depth = d; path = path; next = 0; slots = slots; born = born } → before ≡ front.Enters → frame ≡ m.top → old ≡ m.front
      → d ≡ depth + 1 → path ≡ [] → born ≡ [] → wires_of slots ≡ framed (slots_by (slice_get program.funcs func)) args
      → below ≡ m.below ++ record { frame = frame; until = until.Started old } ∷ []
      → (b : Body) → body_of program func ≡ Some b
      → (side : Side) → side.own func ≡ body_of program func → (f r : ℕ) → r ≤ f
      → tree side f (held_of program (record { side = m.side; front = before; top = top; below = below; used = m.used })) r ≡ cut r (started side (f + 1) func args depth (tree side f (held_of program m) r))
  starts_so top frame before old d path slots born below et eb ef eo e p q s is b has side own f r fewer =
      ap (λ (x : Running). tree side f (held_of program (record { side = m.side; front = before; top = x; below = below; used = m.used })) r) et
      ∙ ap (λ (x : Before). tree side f (held_of program (record { side = m.side; front = x; top = record { func = func; depth = d; path = path; next = 0; slots = slots; born = born }; below = below; used = m.used })) r) eb
      ∙ starts d path slots born below e p q s
      (is ∙ ap (λ (x : Running). m.below ++ record { frame = x; until = until.Started old } ∷ []) ef ∙ ap (λ (x : Before). m.below ++ record { frame = m.top; until = until.Started x } ∷ []) eo)
      b has side own f r fewer
