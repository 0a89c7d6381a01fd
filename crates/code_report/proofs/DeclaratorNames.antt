-- The name that a declarator declares, by its form.
use Rattle.std.proofs.Common.{◌≡◌, ◌∙◌, ℕ, List, ap, sym}
use Rattle.c_typed.specs.declared.expression.TypedDeclarator.{TypedDeclarator, out-TypedDeclarator, fold_out-TypedDeclarator}
use Rattle.c_typed.specs.declared.expression.TypedDirect.{TypedDirect, fold-TypedDirect, fold-roll-TypedDirect}
use Rattle.c_typed.specs.declared.expression.TypedDirect.TheOpen.{TypedDirect-F}
use Rattle.c_typed.specs.declared.expression.TypedDirect.TheVariants as direct
use Rattle.elab_pieces.specs.Program.{declarator_name, direct_name}

-- the name that a direct declarator has
abbrev names_of : TypedDirect → List ℕ
names_of = fold-TypedDirect _ _ _ _ _ _ _ _ _ _ _ _ direct_name (λ _. tt) (λ _. tt) (λ _. tt) (λ _. tt) (λ _. tt)
    (λ d. d.declarator) (λ _. tt) (λ d. d.direct) (λ _. tt) (λ _. tt) (λ _. tt)

by_direct : (d : TypedDeclarator) → declarator_name d ≡ names_of (out-TypedDeclarator d).direct
unfolding declarator_name
by_direct d = fold_out-TypedDeclarator _ _ _ _ _ _ _ _ _ _ _ _ direct_name (λ _. tt) (λ _. tt) (λ _. tt) (λ _. tt) (λ _. tt)
    (λ e. e.declarator) (λ _. tt) (λ e. e.direct) (λ _. tt) (λ _. tt) (λ _. tt) d

pub name_plain : (d : TypedDeclarator) (x : List ℕ) → (out-TypedDeclarator d).direct ≡ direct.Name x → declarator_name d ≡ x
unfolding declarator_name
name_plain d x h =
    by_direct d ∙ ap names_of (h ∙ sym (direct.rolls-Name x))
    ∙ fold-roll-TypedDirect _ _ _ _ _ _ _ _ _ _ _ _ direct_name (λ _. tt) (λ _. tt) (λ _. tt) (λ _. tt) (λ _. tt)
    (λ e. e.declarator) (λ _. tt) (λ e. e.direct) (λ _. tt) (λ _. tt) (λ _. tt) (TypedDirect-F.Name x)

pub name_bracketed : (d e : TypedDeclarator) → (out-TypedDeclarator d).direct ≡ direct.Bracketed e → declarator_name d ≡ declarator_name e
unfolding declarator_name
name_bracketed d e h =
    by_direct d ∙ ap names_of (h ∙ sym (direct.rolls-Bracketed e))
    ∙ fold-roll-TypedDirect _ _ _ _ _ _ _ _ _ _ _ _ direct_name (λ _. tt) (λ _. tt) (λ _. tt) (λ _. tt) (λ _. tt)
    (λ e. e.declarator) (λ _. tt) (λ e. e.direct) (λ _. tt) (λ _. tt) (λ _. tt) (TypedDirect-F.Bracketed e)
