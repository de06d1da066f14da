-- for proofs
-- Access forms worked out that a network driver hasn't: pointers to scalars, `deliver`, and a parameter that is an object.
use Rattle.std.specs.Prelude.{◌≡◌, ℕ, true, false, List, [], ◌∷◌, ◌++◌, map, codes}
use Rattle.mdr_core.specs.declared.kind.Kind.TheVariants.{U8, U16}
use Rattle.mdr_core.specs.declared.types.Ty.{Ty}
use Rattle.mdr_core.specs.declared.types.Ty.TheVariants as ty
use Rattle.mdr_core.specs.declared.types.Ann.TheVariants.{Single}
use Rattle.mdr_core.specs.declared.plan.Key.{Key}
use Rattle.mdr_core.specs.declared.plan.Key.TheVariants as key
use Rattle.mdr_core.specs.declared.plan.Half.{Half}
use Rattle.mdr_core.specs.declared.plan.Half.TheVariants.{User}
use Rattle.mdr_core.specs.declared.program.Program.{Program}
use Rattle.mdr_core.specs.declared.program.StructDef.{StructDef}
use Rattle.mdr_core.specs.declared.program.Local.{Local}
use Rattle.mdr_core.specs.Code.{Term, Lvalue}
use Rattle.mdr_core.specs.Types.{first_types}
use Rattle.mdr_core.specs.Worked.{array_field, global, no_byte, u32}
use Rattle.mdr_slice.specs.Worked.{number, local, variable, service}
use Rattle.mdr_slice.specs.Written.{WrittenFunc, func_of, declare, assign, calling, branch}
use Rattle.mdr_access.specs.Exposed.{exposed_fields}
use Rattle.mdr_access.specs.Keys.{AreKeys}

abbrev pub u8 : Ty
u8 = ty.Int U8

-- u16 *, which stands in no cell
abbrev pub absent : Ty
absent = ty.Ptr (ty.Int U16)

-- struct packet { u8 head[2]; u8 tail[2]; u8 rest[2]; };
abbrev pub packet : StructDef
packet = record {
  name = codes "packet";
  fields = array_field (codes "head") u8 2 ∷ array_field (codes "tail") u8 2 ∷ array_field (codes "rest") u8 2 ∷ [];
}

abbrev pub in_packet : ℕ → Lvalue
in_packet f = Lvalue.Member (Lvalue.Global 0) f

-- void *v;
abbrev pub any_pointer : Local
any_pointer = variable (codes "v") ty.VoidPtr

-- void look(void) { void *v; v = &p.head[1]; v = p.tail; p.rest[0] = 0; }
abbrev pub look : WrittenFunc
look = record {
  name = codes "look";
  params = [];
  result = ty.Void;
  locals = any_pointer ∷ [];
  critical = false;
  lines =
      declare 1 0
      ∷ assign 2 (Lvalue.Slot 0) (Term.ToVoid (Term.Addr (Lvalue.Index (in_packet 0) (number 1))))
      ∷ assign 3 (Lvalue.Slot 0) (Term.ToVoid (Term.Decay (in_packet 1)))
      ∷ assign 4 (Lvalue.Index (in_packet 2) (number 0)) (Term.Lit no_byte)
      ∷ [];
}

-- void send(void) { void *v; deliver((u8 *)v, 2); }
abbrev pub send : WrittenFunc
send = record {
  name = codes "send";
  params = [];
  result = ty.Void;
  locals = any_pointer ∷ [];
  critical = false;
  lines = declare 1 0 ∷ calling 2 (service 9 (Term.FromVoid u8 (local 0) ∷ number 2 ∷ [])) ∷ [];
}

-- void keep(u32 x) { }, where x is an object
abbrev pub keep : WrittenFunc
keep = record {
  name = codes "keep";
  params = record { name = codes "x"; ty = u32; ann = Single; object = true } ∷ [];
  result = ty.Void;
  locals = [];
  critical = false;
  lines = [];
}

-- void far(void) { void *v; if (*(u16 **)v) { } }
abbrev pub far : WrittenFunc
far = record {
  name = codes "far";
  params = [];
  result = ty.Void;
  locals = any_pointer ∷ [];
  critical = false;
  lines = declare 1 0 ∷ branch 2 (Term.Load (Lvalue.Deref (Term.FromVoid absent (local 0)))) [] [] ∷ [];
}

abbrev pub frame_funcs : List WrittenFunc
frame_funcs = look ∷ send ∷ keep ∷ far ∷ []

-- struct packet p; u8 tag;
abbrev pub frames : Program
frames = record {
  types = first_types ++ (ty.Struct 0 ∷ ty.VoidPtr ∷ []);
  structs = packet ∷ [];
  globals =
      global (codes "p") (ty.Struct 0) 1 false (no_byte ∷ no_byte ∷ no_byte ∷ no_byte ∷ no_byte ∷ no_byte ∷ [])
      ∷ global (codes "tag") u8 1 false (no_byte ∷ [])
      ∷ [];
  funcs = map func_of frame_funcs;
}

abbrev pub users : List Half
users = User ∷ User ∷ User ∷ User ∷ []

abbrev pub head_key : Key
head_key = key.Field 0 0

abbrev pub tail_key : Key
tail_key = key.Field 0 1

abbrev pub rest_key : Key
rest_key = key.Field 0 2

pub record FormsHaveKeys : Type 0 where
  -- by `&` of an element, and by decay; a subscript of `rest` exposes nothing
  pub exposed : exposed_fields frames ≡ head_key ∷ tail_key ∷ []
  pub subscript : AreKeys frames users 0 (rest_key ∷ [])
  -- what is delivered may lie in a global of bytes, in an exposed field of bytes, or in a block of bytes
  pub delivery : AreKeys frames users 1 (key.Global 1 ∷ head_key ∷ tail_key ∷ key.Elem 0 ∷ [])
  pub object : AreKeys frames users 2 (key.Elem 2 ∷ [])
  -- no cell has such a type
  pub nothing : AreKeys frames users 3 []
