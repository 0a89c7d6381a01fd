-- The events of turns and of rounds.
use Rattle.std.proofs.Common.{◌≡◌, ℕ, zero, suc, ◌+◌, [], ◌∷◌, ◌++◌, add-one, ap, arith, refl, replicate, sym, ◌∙◌}
use Rattle.std.proofs.lemmas.List.{replicate_more}
use Rattle.meaning.specs.Blocks.{repeated}
use Rattle.meaning.specs.declared.event.Event.{Event}
use Rattle.meaning.specs.declared.event.Event.TheVariants.{Turn}
use Rattle.script.specs.Script.{Line, Empty, Comment, Turns, Rounds, Write, Input, IsLine, IsInputLine, round, rounds_of}

pub round_more : (n : ℕ) → round n ++ Turn n ∷ [] ≡ round (n + 1)
round_more n = rw add-one refl

next : (n : ℕ) (event : Event) → replicate (suc n) event ≡ replicate n event ++ event ∷ []
next n event = let on : n + 1 ≡ suc n = omega arith in ap (λ k. replicate k event) (sym on) ∙ sym (replicate_more n event)

pub turns_repeated : (turns : ℕ) (event : Event) → replicate turns event ≡ repeated turns (event ∷ [])
turns_repeated zero event = refl
turns_repeated (suc n) event = next n event ∙ ap (λ events. events ++ event ∷ []) (turns_repeated n event)

pub rounds_repeated : (threads rounds : ℕ) → rounds_of threads rounds ≡ repeated rounds (round threads)
rounds_repeated threads zero = refl
rounds_repeated threads (suc n) = ap (λ events. events ++ round threads) (rounds_repeated threads n)

-- a line that may stand among inputs is a line
pub input_line_is : (line : Line) → IsInputLine line → IsLine line
input_line_is Empty is = tt
input_line_is (Comment text) is = tt
input_line_is (Turns thread turns) is = absurd is
input_line_is (Rounds threads rounds) is = absurd is
input_line_is (Write address word) is = absurd is
input_line_is (Input word) is = is
