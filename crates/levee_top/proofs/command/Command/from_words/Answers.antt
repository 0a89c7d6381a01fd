use Rattle.std.proofs.Common.{◌≡◌, ◌<◌, ◌≤◌, List, [], ◌∷◌, length, get_or, ap, sym, ◌∙◌, arith, map, codes}
use Rattle.std.specs.String.{string_bytes}
use Rattle.levee_top.proofs.command.Command.from_words.Goals as goal

one : {X : Type 0} (xs : List X) (x : X) → 1 ≤ length xs → length xs < 2 → x ≡ get_or xs 0 x → xs ≡ x ∷ []
one [] x some few h = absurd (omega arith)
one (y ∷ []) x some few h = ap (λ z. z ∷ []) (sym h)
one (y ∷ z ∷ zs) x some few h = absurd (omega arith)

two : {X : Type 0} (xs : List X) (x y : X) → 2 ≤ length xs → length xs < 3 → x ≡ get_or xs 0 x → y ≡ get_or xs 1 y → xs ≡ x ∷ y ∷ []
two [] x y some few h k = absurd (omega arith)
two (a ∷ []) x y some few h k = absurd (omega arith)
two (a ∷ b ∷ []) x y some few h k = sym (ap (λ z. z ∷ y ∷ []) h ∙ ap (λ z. a ∷ z ∷ []) k)
two (a ∷ b ∷ c ∷ cs) x y some few h k = absurd (omega arith)

pub returns-in-len1 : goal.returns-in-len1
returns-in-len1 c =
    ap (map string_bytes) (one _ c.word-item.result c.in-len1.len_at_least c.in-len1.len_below c.word-item.is)
    ∙ ap (λ b. b ∷ []) (c.is_word.ensures.0 c.if-is_word.true)

pub returns-in-len2 : goal.returns-in-len2
returns-in-len2 c =
    ap (map string_bytes) (two _ c.word-item-then-words-lt3.result c.flag-item.result c.in-len2.len_at_least c.in-len2.len_below c.word-item-then-words-lt3.is c.flag-item.is)
    ∙ (ap (λ b. b ∷ string_bytes c.flag-item.result ∷ []) (c.is_word-then-words-lt3.ensures.0 c.if-is_word-2.true)
    ∙ ap (λ b. codes "run" ∷ b ∷ []) (c.is_word-then-is_word-2.ensures.0 c.if-is_word-3.true))
