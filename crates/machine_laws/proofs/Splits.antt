-- A fact of each element of a list and the elements before it: told from front to back, it holds at every split.
use Rattle.std.proofs.Common.{◌≡◌, List, [], ◌∷◌, ◌++◌, sym, subst, append_assoc, append-nil}

module _ {X : Type 0} (P : List X → X → Type 0) where
  -- the fact holds of each of these elements and those before it, which begin with the past
  abbrev pub EachBehind : List X → List X → Type 0
  EachBehind past [] = Unit {0}
  EachBehind past (x ∷ xs) = P past x × EachBehind (past ++ x ∷ []) xs

  pub EachBehind-append : (past xs ys : List X) → EachBehind past xs → EachBehind (past ++ xs) ys → EachBehind past (xs ++ ys)
  EachBehind-append past [] ys first second = subst (λ l. EachBehind l ys) (append-nil past) second
  EachBehind-append past (x ∷ xs) ys first second = (
    first.0,
    EachBehind-append (past ++ x ∷ []) xs ys first.1 (subst (λ l. EachBehind l ys) (sym (append_assoc past (x ∷ []) xs)) second),
  )

  pub EachBehind-at : (past xs before after : List X) (x : X) → EachBehind past xs → xs ≡ before ++ x ∷ after → P (past ++ before) x
  EachBehind-at past [] [] after x each e = cc
  EachBehind-at past [] (b ∷ bs) after x each e = cc
  EachBehind-at past (y ∷ ys) [] after x each e =
      let same : y ≡ x = cc in subst (λ z. P (past ++ []) z) same (subst (λ l. P l y) (sym (append-nil past)) each.0)
  EachBehind-at past (y ∷ ys) (b ∷ bs) after x each e =
      let same : y ≡ b = cc in
      let rest : ys ≡ bs ++ x ∷ after = cc in
      let here : P ((past ++ y ∷ []) ++ bs) x = EachBehind-at (past ++ y ∷ []) ys bs after x each.1 rest in
      subst (λ z. P (past ++ z ∷ bs) x) same (subst (λ l. P l x) (append_assoc past (y ∷ []) bs) here)
