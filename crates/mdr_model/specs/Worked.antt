-- for proofs
-- Messages worked out to the byte.
use Rattle.std.specs.Prelude.{◌≡◌, ℕ, List, [], ◌∷◌, ◌++◌, map, pos}
use Rattle.mdr_core.specs.declared.kind.Kind.TheVariants.{U32}
use Rattle.mdr_core.specs.declared.place.At.{At}
use Rattle.mdr_meaning.specs.declared.shape.Shape64.{Shape64}
use Rattle.mdr_meaning.specs.declared.wire.Wire.{Wire}
use Rattle.mdr_meaning.specs.declared.wire.Wire.TheVariants as wire
use Rattle.mdr_model.specs.declared.message.New.{New}
use Rattle.mdr_model.specs.declared.message.SetRun.{SetRun}
use Rattle.mdr_model.specs.declared.message.Told.{Told}
use Rattle.mdr_model.specs.declared.message.Run.{Run}
use Rattle.mdr_model.specs.declared.message.Message.{Message}
use Rattle.mdr_model.specs.declared.message.Message.TheVariants as message
use Rattle.mdr_model.specs.declared.reply.Reply.TheVariants as replies
use Rattle.mdr_model.specs.Text.{text}

abbrev pub u32_value : ℕ → Wire
u32_value n = wire.Int U32 (pos n)

-- the one global, visible
abbrev pub count_view : List SetRun
count_view = record { serial = 0; first = 0; len = 1 } ∷ []

-- and its value
abbrev pub count_is : ℕ → List Run
count_is n = record { serial = 0; first = 0; values = u32_value n ∷ [] } ∷ []

-- a message that tells of it and of these changes, and of no births and deaths
abbrev pub count_told : List Run → Told
count_told runs = record { deaths = []; news = []; view = count_view; runs = runs }

-- ---- messages, by their fields in order

abbrev pub call_message : (func depth rest : ℕ) → List Wire → Told → Message
call_message func depth rest args told = message.Call (record { func = func; depth = depth; rest = rest; args = args; told = told })

abbrev pub back_message : (rest : ℕ) → Wire → Told → Message
back_message rest result told = message.Back (record { rest = rest; result = result; told = told })

abbrev pub answer_message : List Wire → (deaths : List ℕ) → List New → Message
answer_message results deaths news = message.Answer (record { results = results; deaths = deaths; news = news })

abbrev pub return_message : (ticks : ℕ) → Wire → List Run → Message
return_message ticks result runs = message.Reply (replies.Return (record { ticks = ticks; result = result; runs = runs }))

abbrev pub down_message : (ticks : ℕ) → At → (depth func : ℕ) → List Wire → List Run → Message
down_message ticks at depth func args runs =
    message.Reply (replies.Down (record { ticks = ticks; at = at; depth = depth; func = func; args = args; runs = runs }))

-- no bytes come with the question
abbrev pub ask_message : (ticks : ℕ) → At → (service : ℕ) → List Wire → List Shape64 → List Run → Message
ask_message ticks at service args shapes runs =
    message.Reply (replies.Ask (record { ticks = ticks; at = at; service = service; args = args; shapes = shapes; bytes = []; runs = runs }))

-- ---- the messages of a run

-- four messages of a kernel half
abbrev pub bump_sent : List Message
bump_sent =
    call_message 1 0 1000000 [] (count_told [])
    ∷ back_message 999998 wire.NoValue (count_told (count_is 1))
    ∷ answer_message [] [] []
    ∷ back_message 999995 wire.NoValue (count_told (count_is 2))
    ∷ []

-- and the answers to them
abbrev pub bump_answers : List Message
bump_answers =
    down_message 1 (record { func = 1; stmt = 1 }) 1 0 [] []
    ∷ ask_message 1 (record { func = 1; stmt = 2 }) 5 (u32_value 1 ∷ u32_value 4 ∷ []) [] []
    ∷ down_message 1 (record { func = 1; stmt = 3 }) 1 0 [] []
    ∷ return_message 0 wire.NoValue []
    ∷ []

-- a number in four bytes
abbrev pub word : ℕ → List ℕ
word n = 0 ∷ 0 ∷ 0 ∷ n ∷ []

abbrev pub words : List ℕ → List ℕ
words [] = []
words (n ∷ ns) = word n ++ words ns

-- their bytes: 56, 36, 72, 56, 16, 36, 72 and 20 of them. 15, 66, 64 are a million, the budget
pub record BumpSpells : Type 0 where
  pub sent :
      map text bump_sent
      ≡ (words (1 ∷ 1 ∷ 0 ∷ 0 ∷ []) ++ (0 ∷ 15 ∷ 66 ∷ 64 ∷ []) ++ words (0 ∷ 0 ∷ 0 ∷ 1 ∷ 0 ∷ 0 ∷ 0 ∷ 1 ∷ 0 ∷ []))
      ∷ (words (4 ∷ 0 ∷ []) ++ (0 ∷ 15 ∷ 66 ∷ 62 ∷ []) ++ words (12 ∷ 0 ∷ 0 ∷ 1 ∷ 0 ∷ 0 ∷ 0 ∷ 1 ∷ 1 ∷ 0 ∷ 0 ∷ 0 ∷ 1 ∷ 2 ∷ 1 ∷ []))
      ∷ words (6 ∷ 0 ∷ 0 ∷ 0 ∷ [])
      ∷ (words (4 ∷ 0 ∷ []) ++ (0 ∷ 15 ∷ 66 ∷ 59 ∷ []) ++ words (12 ∷ 0 ∷ 0 ∷ 1 ∷ 0 ∷ 0 ∷ 0 ∷ 1 ∷ 1 ∷ 0 ∷ 0 ∷ 0 ∷ 1 ∷ 2 ∷ 2 ∷ []))
      ∷ []
  pub answers :
      map text bump_answers
      ≡ words (3 ∷ 0 ∷ 1 ∷ 1 ∷ 1 ∷ 1 ∷ 0 ∷ 0 ∷ 0 ∷ [])
      ∷ words (5 ∷ 0 ∷ 1 ∷ 1 ∷ 2 ∷ 5 ∷ 2 ∷ 2 ∷ 1 ∷ 2 ∷ 4 ∷ 0 ∷ 0 ∷ 0 ∷ [])
      ∷ words (3 ∷ 0 ∷ 1 ∷ 1 ∷ 3 ∷ 1 ∷ 0 ∷ 0 ∷ 0 ∷ [])
      ∷ words (2 ∷ 0 ∷ 0 ∷ 12 ∷ 0 ∷ [])
      ∷ []
