-- Lists of answers, from the front on.
use Rattle.std.proofs.Common.{◌≡◌, ◌∙◌, List, [], ◌∷◌, ◌++◌, Ok, Err, refl, ap, sym, append_assoc}
use Rattle.std.proofs.lemmas.List.{append-nil}
use Rattle.c_const.specs.Constant.{Answer, ◌>>=◌, each}

-- each in order, behind these
abbrev pub each_from : {A : Type 0} → List A → List (Answer A) → Answer (List A)
each_from found [] = Ok found
each_from found (p ∷ ps) = p >>= (λ x. each_from (found ++ x ∷ []) ps)

regroup : {A : Type 0} (found : List A) (x : A) (r : Answer (List A))
    → (r >>= (λ xs. Ok ((found ++ x ∷ []) ++ xs))) ≡ ((r >>= (λ xs. Ok (x ∷ xs))) >>= (λ xs. Ok (found ++ xs)))
regroup found x (Err e) = refl
regroup found x (Ok xs) = ap Ok (append_assoc found (x ∷ []) xs)

by_first : {A : Type 0} (found : List A) (ps : List (Answer A)) → ((prefix : List A) → each_from prefix ps ≡ (each ps >>= (λ xs. Ok (prefix ++ xs))))
    → (r : Answer A) → (r >>= (λ x. each_from (found ++ x ∷ []) ps)) ≡ ((r >>= (λ x. each ps >>= (λ xs. Ok (x ∷ xs)))) >>= (λ xs. Ok (found ++ xs)))
by_first found ps rest (Err e) = refl
by_first found ps rest (Ok x) = rest (found ++ x ∷ []) ∙ regroup found x (each ps)

each_from-is : {A : Type 0} (found : List A) (ps : List (Answer A)) → each_from found ps ≡ (each ps >>= (λ xs. Ok (found ++ xs)))
each_from-is found [] = ap Ok (sym (append-nil found))
each_from-is found (p ∷ ps) = by_first found ps (λ prefix. each_from-is prefix ps) p

alone : {A : Type 0} (r : Answer (List A)) → (r >>= (λ xs. Ok ([] ++ xs))) ≡ r
alone (Err e) = refl
alone (Ok xs) = refl

pub each_from-none : {A : Type 0} (ps : List (Answer A)) → each_from [] ps ≡ each ps
each_from-none ps = each_from-is [] ps ∙ alone (each ps)

pub ruleset lists = (each_from-none)
