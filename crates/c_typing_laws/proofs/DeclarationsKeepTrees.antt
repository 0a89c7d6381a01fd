-- The walk of a declaration, and of what is declared, keeps it.
use Rattle.std.proofs.Common.{◌≡◌, ◌∙◌, Bool, List, [], ◌∷◌, map, Option, Some, None, refl, ap}
use Rattle.std.specs.Option.{option_map}
use Rattle.c_types.specs.declared.ty.Ty.{Ty}
use Rattle.c_tree.specs.declared.expression.Declarator.{Declarator}
use Rattle.c_tree.specs.declared.expression.Spec.{Spec}
use Rattle.c_tree.specs.declared.statement.Decl.{Decl}
use Rattle.c_tree.specs.declared.statement.Init.{Init}
use Rattle.c_tree.specs.declared.statement.InitDeclarator.{InitDeclarator}
use Rattle.c_typed.specs.Erased.{erased_decl, erased_declared, erased_init, erased_init_declarator, erased_spec}
use Rattle.c_scope.specs.declared.world.World.{World}
use Rattle.c_scope.specs.Walk.{Walk, each, maybe}
use Rattle.c_declarator_rules.specs.declared.declarators.LayeredDeclarator.{LayeredDeclarator}
use Rattle.c_typing_laws.specs.inner.WalkedTrees.{WalksKeepTrees}
use Rattle.c_typing_laws.specs.inner.ErasedTrees.{declarator_tree}
use Rattle.c_expr_typing.specs.Trees.{typed_declarator, typed_spec}
use Rattle.c_typing_laws.specs.inner.ErasedDeclarators.{declared-made}
use Rattle.c_typing_laws.specs.inner.Yields.{Yields, after, at_once, whatever}
use Rattle.c_declaration_typing.specs.Declarations.{declare, declare_all, declare_type, optional_init, typed_decl, typed_init_declarator, typed_type}
use Rattle.c_declaration_typing.specs.Initialisers.{typed_init}
use Rattle.c_typing_laws.proofs.InitialisersKeepTrees.{init-keeps}

-- ---- walks of options and lists

pub maybe_same : {A T : Type 0} (erase : A → T) (p : T → Walk A) → ((t : T) (w : World) → Yields (p t w) (λ x. erase x ≡ t))
    → (o : Option T) (w : World) → Yields (maybe (option_map p o) w) (λ x. option_map erase x ≡ o)
maybe_same erase p holds None w = at_once refl
maybe_same erase p holds (Some t) w = after (p t w) _ (holds t w) (λ x v is. at_once (ap Some is))

pub each_same : {A T : Type 0} (erase : A → T) (p : T → Walk A) → ((t : T) (w : World) → Yields (p t w) (λ x. erase x ≡ t))
    → (ts : List T) (w : World) → Yields (each (map p ts) w) (λ xs. map erase xs ≡ ts)
each_same erase p holds [] w = at_once refl
each_same erase p holds (t ∷ ts) w =
    after (p t w) _ (holds t w) (λ x v first.
    after (each (map p ts) v) _ (each_same erase p holds ts v) (λ xs u rest.
    at_once (ap (λ s. s ∷ map erase xs) first ∙ ap (λ ss. t ∷ ss) rest)))

module _ (laws : WalksKeepTrees) where
  pub declarator-yields : (d : Declarator) (w : World) → Yields (typed_declarator d w) (λ x. declarator_tree x.tree ≡ d)
  declarator-yields d w = record { found = λ r is. laws.declarator d w r.1 r.0 is }

  pub spec-yields : (s : Spec) (bodies : Bool) (w : World) → Yields (typed_spec s bodies w) (λ x. erased_spec x.0 ≡ s)
  spec-yields s bodies w = record { found = λ r is. laws.spec s bodies w r.1 r.0.0 r.0.1 is }

  -- ---- declarations

  optional_init-keeps : (is_global : Bool) (t : Ty) (o : Option Init) (w : World)
      → Yields (optional_init is_global t o w) (λ x. option_map erased_init x ≡ o)
  optional_init-keeps is_global t o w = maybe_same erased_init (λ i. typed_init is_global i (Some t)) (λ i v. init-keeps laws is_global i (Some t) v) o w

  declare_all-keeps : (is_global : Bool) (base : Ty) (d : LayeredDeclarator) (o : Option Init) (w : World)
      → Yields (declare_all is_global base d o w) (λ e. option_map erased_init e.2 ≡ o)
  declare_all-keeps is_global base d o w =
      whatever (declare is_global base d o w) _ (λ e v.
      after (optional_init is_global e.0 o v) _ (optional_init-keeps is_global e.0 o v) (λ i u is.
      at_once is))

  init_declarator-keeps : (is_global : Bool) (base : Ty) (d : InitDeclarator) (w : World)
      → Yields (typed_init_declarator is_global base d w) (λ x. erased_init_declarator x ≡ d)
  unfolding typed_init_declarator erased_init_declarator
  init_declarator-keeps is_global base d w =
      after (typed_declarator d.declarator w) _ (declarator-yields d.declarator w) (λ x v is.
      after (declare_all is_global base x d.init v) _ (declare_all-keeps is_global base x d.init v) (λ e u also.
      let same : erased_declared _ ≡ d.declarator = declared-made x.tree e.0 ∙ is in
      at_once (λ i. record { declarator = same i; init = also i })))

  pub decl-keeps : (is_global : Bool) (d : Decl) (w : World) → Yields (typed_decl is_global d w) (λ x. erased_decl x ≡ d)
  unfolding typed_decl erased_decl
  decl-keeps is_global d w =
      after (typed_spec d.spec is_global w) _ (spec-yields d.spec is_global w) (λ base v is.
      after (each (map (typed_init_declarator is_global base.1) d.declarators) v) _
      (each_same erased_init_declarator (typed_init_declarator is_global base.1) (λ t u. init_declarator-keeps is_global base.1 t u) d.declarators v) (λ ds u also.
      at_once (λ i. record { spec = is i; declarators = also i })))

  -- ---- names of types

  type-keeps : (base : Ty) (d : Declarator) (w : World) → Yields (typed_type base d w) (λ x. erased_declared x ≡ d)
  unfolding typed_type
  type-keeps base d w =
      after (typed_declarator d w) _ (declarator-yields d w) (λ x v is.
      whatever (declare_type base x v) _ (λ t u.
      at_once (declared-made x.tree t ∙ is)))

  pub types-keep : (base : Ty) (ds : List Declarator) (w : World) → Yields (each (map (typed_type base) ds) w) (λ xs. map erased_declared xs ≡ ds)
  types-keep base ds w = each_same erased_declared (typed_type base) (λ d v. type-keeps base d v) ds w
