-- Walks of lists, from the first on.
use Rattle.std.proofs.Common.{◌≡◌, ◌∙◌, List, [], ◌∷◌, ◌++◌, Ok, Err, refl, ap, sym, append_assoc}
use Rattle.std.proofs.lemmas.List.{append-nil}
use Rattle.c_scope.specs.declared.world.World.{World}
use Rattle.c_scope.specs.Walk.{Outcome, Walk, ◌>>=◌, and_then, each, each_pair, pure}

-- ---- each in order

-- each in order, behind these
abbrev pub each_from : {A : Type 0} → List A → List (Walk A) → Walk (List A)
each_from found [] = pure found
each_from found (p ∷ ps) = p >>= (λ x. each_from (found ++ x ∷ []) ps)

regroup : {A : Type 0} (found : List A) (x : A) (r : Outcome (List A × World))
    → and_then r (λ xs. pure ((found ++ x ∷ []) ++ xs)) ≡ and_then (and_then r (λ xs. pure (x ∷ xs))) (λ xs. pure (found ++ xs))
regroup found x (Err e) = refl
regroup found x (Ok r) = ap (λ ys. Ok (ys, r.1)) (append_assoc found (x ∷ []) r.0)

by_first : {A : Type 0} (found : List A) (ps : List (Walk A))
    → ((earlier : List A) (w : World) → each_from earlier ps w ≡ and_then (each ps w) (λ xs. pure (earlier ++ xs)))
    → (r : Outcome (A × World))
    → and_then r (λ x. each_from (found ++ x ∷ []) ps) ≡ and_then (and_then r (λ x. each ps >>= (λ xs. pure (x ∷ xs)))) (λ xs. pure (found ++ xs))
by_first found ps rest (Err e) = refl
by_first found ps rest (Ok r) = rest (found ++ r.0 ∷ []) r.1 ∙ regroup found r.0 (each ps r.1)

each_from-is : {A : Type 0} (found : List A) (ps : List (Walk A)) (w : World)
    → each_from found ps w ≡ and_then (each ps w) (λ xs. pure (found ++ xs))
each_from-is found [] w = ap (λ xs. Ok (xs, w)) (sym (append-nil found))
each_from-is found (p ∷ ps) w = by_first found ps (λ earlier. each_from-is earlier ps) (p w)

alone : {A : Type 0} (r : Outcome (List A × World)) → and_then r (λ xs. pure ([] ++ xs)) ≡ r
alone (Err e) = refl
alone (Ok r) = refl

pub each_from-none : {A : Type 0} (ps : List (Walk A)) (w : World) → each_from [] ps w ≡ each ps w
each_from-none ps w = each_from-is [] ps w ∙ alone (each ps w)

-- ---- each in order, where each finds two things

-- the same, where each finds two things
abbrev pub each_pair_from : {A B : Type 0} → List A → List B → List (Walk (A × B)) → Walk (List A × List B)
each_pair_from firsts seconds [] = pure (firsts, seconds)
each_pair_from firsts seconds (p ∷ ps) = p >>= (λ x. each_pair_from (firsts ++ x.0 ∷ []) (seconds ++ x.1 ∷ []) ps)

-- what was found before stands before it
abbrev behind : {A B : Type 0} → List A → List B → Outcome ((List A × List B) × World) → Outcome ((List A × List B) × World)
behind firsts seconds (Ok r) = Ok ((firsts ++ r.0.0, seconds ++ r.0.1), r.1)
behind firsts seconds (Err e) = Err e

behind-none : {A B : Type 0} (r : Outcome ((List A × List B) × World)) → behind [] [] r ≡ r
behind-none (Ok r) = refl
behind-none (Err e) = refl

abbrev found_pair : {A B : Type 0} → List A → List B → World → Outcome ((List A × List B) × World)
found_pair firsts seconds w = Ok ((firsts, seconds), w)

equal_pairs : {A B : Type 0} (firsts other_firsts : List A) (seconds other_seconds : List B) (w : World) → firsts ≡ other_firsts → seconds ≡ other_seconds
    → found_pair firsts seconds w ≡ found_pair other_firsts other_seconds w
equal_pairs firsts other_firsts seconds other_seconds w same also = cc

pair_regroup : {A B : Type 0} (firsts : List A) (seconds : List B) (x : A × B) (r : Outcome ((List A × List B) × World))
    → behind (firsts ++ x.0 ∷ []) (seconds ++ x.1 ∷ []) r ≡ behind firsts seconds (and_then r (λ rest. pure (x.0 ∷ rest.0, x.1 ∷ rest.1)))
pair_regroup firsts seconds x (Err e) = refl
pair_regroup firsts seconds x (Ok r) = equal_pairs _ _ _ _ r.1 (append_assoc firsts (x.0 ∷ []) r.0.0) (append_assoc seconds (x.1 ∷ []) r.0.1)

pair_by_first : {A B : Type 0} (firsts : List A) (seconds : List B) (ps : List (Walk (A × B)))
    → ((earlier : List A) (other : List B) (w : World) → each_pair_from earlier other ps w ≡ behind earlier other (each_pair ps w))
    → (r : Outcome ((A × B) × World))
    → and_then r (λ x. each_pair_from (firsts ++ x.0 ∷ []) (seconds ++ x.1 ∷ []) ps)
    ≡ behind firsts seconds (and_then r (λ x. each_pair ps >>= (λ rest. pure (x.0 ∷ rest.0, x.1 ∷ rest.1))))
pair_by_first firsts seconds ps rest (Err e) = refl
pair_by_first firsts seconds ps rest (Ok r) = rest (firsts ++ r.0.0 ∷ []) (seconds ++ r.0.1 ∷ []) r.1 ∙ pair_regroup firsts seconds r.0 (each_pair ps r.1)

each_pair_from-is : {A B : Type 0} (firsts : List A) (seconds : List B) (ps : List (Walk (A × B))) (w : World)
    → each_pair_from firsts seconds ps w ≡ behind firsts seconds (each_pair ps w)
each_pair_from-is firsts seconds [] w = equal_pairs _ _ _ _ w (sym (append-nil firsts)) (sym (append-nil seconds))
each_pair_from-is firsts seconds (p ∷ ps) w = pair_by_first firsts seconds ps (λ earlier other. each_pair_from-is earlier other ps) (p w)

pub each_pair_from-none : {A B : Type 0} (ps : List (Walk (A × B))) (w : World) → each_pair_from [] [] ps w ≡ each_pair ps w
each_pair_from-none ps w = each_pair_from-is [] [] ps w ∙ behind-none (each_pair ps w)

pub ruleset lists = (each_from-none, each_pair_from-none)
