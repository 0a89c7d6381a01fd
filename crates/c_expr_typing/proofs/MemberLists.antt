-- Walks of lists of members, from the front on.
use Rattle.std.proofs.Common.{◌≡◌, ◌∙◌, List, [], ◌∷◌, ◌++◌, Ok, Err, refl, ap, sym, append_assoc}
use Rattle.std.proofs.lemmas.List.{append-nil}
use Rattle.c_scope.specs.declared.world.World.{World}
use Rattle.c_scope.specs.Walk.{Outcome, Walk, ◌>>=◌, and_then, pure}
use Rattle.c_typed.specs.declared.expression.Declared.{Declared}
use Rattle.c_typed.specs.declared.expression.TypedMemberDecl.{TypedMemberDecl}
use Rattle.c_types.specs.declared.structs.Member.{Member}
use Rattle.c_types.specs.declared.ty.Ty.{Ty}
use Rattle.c_declarator_rules.specs.declared.declarators.LayeredDeclarator.{LayeredDeclarator}
use Rattle.c_declarator_rules.specs.Rules.{one_member}
use Rattle.c_expr_typing.specs.Trees.{OfMember, member_declarators, members}

-- what was found before stands in front
abbrev behind : {A B : Type 0} → List A → Outcome ((List A × B) × World) → Outcome ((List A × B) × World)
behind found (Ok r) = Ok ((found ++ r.0.0, r.0.1), r.1)
behind found (Err e) = Err e

behind-none : {A B : Type 0} (r : Outcome ((List A × B) × World)) → behind [] r ≡ r
behind-none (Ok r) = refl
behind-none (Err e) = refl

-- lines in order, behind these
abbrev pub members_from : List TypedMemberDecl → List OfMember → List Member → Walk (List TypedMemberDecl × List Member)
members_from found [] before = pure (found, before)
members_from found (m ∷ ms) before = m before >>= (λ x. members_from (found ++ x.0 ∷ []) ms x.1)

members_regroup : (found : List TypedMemberDecl) (x : TypedMemberDecl) (r : Outcome ((List TypedMemberDecl × List Member) × World))
    → behind (found ++ x ∷ []) r ≡ behind found (and_then r (λ rest. pure (x ∷ rest.0, rest.1)))
members_regroup found x (Err e) = refl
members_regroup found x (Ok r) = ap (λ ys. Ok ((ys, r.0.1), r.1)) (append_assoc found (x ∷ []) r.0.0)

members_by : (found : List TypedMemberDecl) (ms : List OfMember)
    → ((prefix : List TypedMemberDecl) (before : List Member) (w : World) → members_from prefix ms before w ≡ behind prefix (members ms before w))
    → (r : Outcome ((TypedMemberDecl × List Member) × World))
    → and_then r (λ x. members_from (found ++ x.0 ∷ []) ms x.1) ≡ behind found (and_then r (λ x. members ms x.1 >>= (λ rest. pure (x.0 ∷ rest.0, rest.1))))
members_by found ms rest (Err e) = refl
members_by found ms rest (Ok r) = rest (found ++ r.0.0 ∷ []) r.0.1 r.1 ∙ members_regroup found r.0.0 (members ms r.0.1 r.1)

members_from-is : (found : List TypedMemberDecl) (ms : List OfMember) (before : List Member) (w : World)
    → members_from found ms before w ≡ behind found (members ms before w)
members_from-is found [] before w = ap (λ xs. Ok ((xs, before), w)) (sym (append-nil found))
members_from-is found (m ∷ ms) before w = members_by found ms (λ prefix. members_from-is prefix ms) (m before w)

pub members_from-none : (ms : List OfMember) (before : List Member) (w : World) → members_from [] ms before w ≡ members ms before w
members_from-none ms before w = members_from-is [] ms before w ∙ behind-none (members ms before w)

-- declarators of members in order, behind these
abbrev pub declarators_from : Ty → List Declared → List (Walk LayeredDeclarator) → List Member → Walk (List Declared × List Member)
declarators_from base found [] before = pure (found, before)
declarators_from base found (d ∷ ds) before = d >>= (λ x. one_member base x before >>= (λ m. declarators_from base (found ++ m.0 ∷ []) ds m.1))

declarators_regroup : (found : List Declared) (x : Declared) (r : Outcome ((List Declared × List Member) × World))
    → behind (found ++ x ∷ []) r ≡ behind found (and_then r (λ rest. pure (x ∷ rest.0, rest.1)))
declarators_regroup found x (Err e) = refl
declarators_regroup found x (Ok r) = ap (λ ys. Ok ((ys, r.0.1), r.1)) (append_assoc found (x ∷ []) r.0.0)

declarators_by : (base : Ty) (found : List Declared) (ds : List (Walk LayeredDeclarator))
    → ((prefix : List Declared) (before : List Member) (w : World) → declarators_from base prefix ds before w ≡ behind prefix (member_declarators base ds before w))
    → (r : Outcome ((Declared × List Member) × World))
    → and_then r (λ m. declarators_from base (found ++ m.0 ∷ []) ds m.1) ≡ behind found (and_then r (λ m. member_declarators base ds m.1 >>= (λ rest. pure (m.0 ∷ rest.0, rest.1))))
declarators_by base found ds rest (Err e) = refl
declarators_by base found ds rest (Ok r) = rest (found ++ r.0.0 ∷ []) r.0.1 r.1 ∙ declarators_regroup found r.0.0 (member_declarators base ds r.0.1 r.1)

declarators_by_first : (base : Ty) (found : List Declared) (ds : List (Walk LayeredDeclarator)) (before : List Member)
    → ((prefix : List Declared) (before : List Member) (w : World) → declarators_from base prefix ds before w ≡ behind prefix (member_declarators base ds before w))
    → (r : Outcome (LayeredDeclarator × World))
    → and_then r (λ x. one_member base x before >>= (λ m. declarators_from base (found ++ m.0 ∷ []) ds m.1))
    ≡ behind found (and_then r (λ x. one_member base x before >>= (λ m. member_declarators base ds m.1 >>= (λ rest. pure (m.0 ∷ rest.0, rest.1)))))
declarators_by_first base found ds before rest (Err e) = refl
declarators_by_first base found ds before rest (Ok r) = declarators_by base found ds rest (one_member base r.0 before r.1)

declarators_from-is : (base : Ty) (found : List Declared) (ds : List (Walk LayeredDeclarator)) (before : List Member) (w : World)
    → declarators_from base found ds before w ≡ behind found (member_declarators base ds before w)
declarators_from-is base found [] before w = ap (λ xs. Ok ((xs, before), w)) (sym (append-nil found))
declarators_from-is base found (d ∷ ds) before w = declarators_by_first base found ds before (λ prefix. declarators_from-is base prefix ds) (d w)

pub declarators_from-none : (base : Ty) (ds : List (Walk LayeredDeclarator)) (before : List Member) (w : World)
    → declarators_from base [] ds before w ≡ member_declarators base ds before w
declarators_from-none base ds before w = declarators_from-is base [] ds before w ∙ behind-none (member_declarators base ds before w)

pub ruleset member_lists = (members_from-none, declarators_from-none)
