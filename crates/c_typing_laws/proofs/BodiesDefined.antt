-- The test before a struct gets its body holds wherever the rules of its tag and its members do.
use Rattle.std.proofs.Common.{◌≡◌, ◌∙◌, ◌<◌, ◌≤◌, ℕ, zero, suc, Bool, true, false, ◌&&◌, List, [], ◌∷◌, ◌++◌, length, map, Option, Some, None, is_none, slice_get, Ok, refl, ap, sym, subst, arith}
use Rattle.std.proofs.lemmas.Option.{slice_get_within}
use Rattle.std.specs.Option.{option_and_then}
use Rattle.c_layers.specs.declared.layer.Layer.{Layer}
use Rattle.c_layers.specs.Shapes.{results_fit, shaped, whole_of}
use Rattle.c_tree.specs.declared.expression.Declarator.{Declarator}
use Rattle.c_tree.specs.declared.expression.MemberDecl.{MemberDecl, map-MemberDecl, out-MemberDecl, roll-out-MemberDecl}
use Rattle.c_tree.specs.declared.expression.Direct.TheOpen.{MemberDecl-F}
use Rattle.c_tree.specs.Fold.{Node, Plain}
use Rattle.c_types.specs.declared.structs.Member.{Member}
use Rattle.c_types.specs.declared.structs.StructDef.{StructDef}
use Rattle.c_types.specs.declared.ty.Ty.{Ty}
use Rattle.c_types.specs.Sound.{are_members, is_member_type}
use Rattle.c_types.specs.Structs.{body_of}
use Rattle.c_types.specs.Theorems.{Extends, TablesGrow, UnitsStay}
use Rattle.c_typed.specs.declared.expression.Declared.{Declared}
use Rattle.c_typed.specs.declared.expression.TypedMemberDecl.{TypedMemberDecl, roll-TypedMemberDecl}
use Rattle.c_scope.specs.declared.rule.Rule.TheVariants as broken
use Rattle.c_scope.specs.declared.world.World.{World}
use Rattle.c_scope.specs.BuiltIns.{Name}
use Rattle.c_scope.specs.Declarations.{is_new_member, is_undefined, is_undefined_at, member_rules, member_type}
use Rattle.c_scope.specs.Scopes.{tag}
use Rattle.c_scope.specs.Walk.{found, rule}
use Rattle.c_declarator_rules.specs.declared.declarators.LayeredDeclarator.{LayeredDeclarator}
use Rattle.c_declarator_rules.specs.Rules.{body_tag, declared, one_member}
use Rattle.c_expr_typing.specs.Trees.{Found, OfMember, member_declarators, member_step, members, typed_declarator, typed_spec, walked}
use Rattle.c_typing_laws.specs.Theorems.{StructsGetTheirBodies}
use Rattle.c_typing_laws.specs.inner.Goes.{Sound}
use Rattle.c_typing_laws.proofs.Conjunctions.{both, both_true}
use Rattle.c_typing_laws.proofs.FileDeclarationsMeetRows.{are-first, with_globals}
use Rattle.c_typing_laws.proofs.FoundSteps.{ended, ended_world, option-found, rule-found, split}
use Rattle.c_typing_laws.proofs.KeptNodes.{walked-member}
use Rattle.c_typing_laws.proofs.WalksMeetRows.{declarator-meets, spec-meets}
use Rattle.c_typing_laws.proofs.WorldSteps.{IsQuiet, quiet, sound-quiet, tag-goes}

-- ---- members that fit

abbrev Fit : World → List Member → Type 0
Fit w ms = are_members w.structs ms ≡ true

fit-last : (defs : List StructDef) (ms : List Member) (m : Member) → are_members defs ms ≡ true → is_member_type defs m.ty ≡ true → are_members defs (ms ++ m ∷ []) ≡ true
fit-last defs [] m all fits = both_true (is_member_type defs m.ty) true fits refl
fit-last defs (n ∷ ms) m all fits =
    let h = both (is_member_type defs n.ty) (are_members defs ms) all in
    both_true (is_member_type defs n.ty) (are_members defs (ms ++ m ∷ [])) h.0 (fit-last defs ms m h.1 fits)

fit-grown : UnitsStay → (defs more : List StructDef) → Extends defs more → (ms : List Member) → are_members defs ms ≡ true → are_members more ms ≡ true
fit-grown stay defs more grown [] all = refl
fit-grown stay defs more grown (m ∷ ms) all =
    let h = both (is_member_type defs m.ty) (are_members defs ms) all in
    both_true (is_member_type more m.ty) (are_members more ms) (stay.member_types defs more grown m.ty h.0) (fit-grown stay defs more grown ms h.1)

-- ---- a struct without a body

undefined_by : (o : Option StructDef) → is_undefined_at o ≡ true → (d : StructDef) × ((o ≡ Some d) × (is_none d.members ≡ true))
undefined_by None is = cc
undefined_by (Some d) is = (d, (refl, is))

none_below : (n : ℕ) → n < 0 → ⊥
none_below n below = omega arith

some_at : {A : Type 0} (xs : List A) (n : ℕ) → n < length xs → (x : A) × (slice_get xs n ≡ Some x)
some_at [] n below = absurd (none_below n below)
some_at (x ∷ xs) zero below = (x, refl)
some_at (x ∷ xs) (suc n) below = let b : suc n < length (x ∷ xs) = below in some_at xs n (omega arith)

none_same : (a b : Option (List Member)) → a ≡ b → is_none b ≡ true → is_none a ≡ true
none_same a b same none = ap is_none same ∙ none

undefined-stays : (defs more : List StructDef) (n : ℕ) → Extends defs more → body_of more n ≡ body_of defs n → is_undefined defs n ≡ true → is_undefined more n ≡ true
unfolding is_undefined
undefined-stays defs more n grown same is =
    let h = undefined_by (slice_get defs n) is in
    let below : n < length defs = slice_get_within defs n h.0 h.1.0 in
    let longer : length defs ≤ length more = grown.longer in
    let e = some_at more n (omega arith) in
    let bodies : e.0.members ≡ h.0.members = sym (ap (option_and_then (λ d. d.members)) e.1) ∙ same ∙ ap (option_and_then (λ d. d.members)) h.1.0 in
    ap is_undefined_at e.1 ∙ none_same e.0.members h.0.members bodies h.1.1

-- ---- one member

rules-found : (before : List Member) (x : Name) (t : Ty) (fits : Bool) (w : World) (r : Unit {0} × World) → member_rules before x t fits w ≡ Ok r → (is_member_type w.structs t ≡ true) × (w ≡ r.1)
unfolding member_rules
rules-found before x t fits w r is =
    let a = split (rule broken.Unsized (is_member_type w.structs t) w) _ r is in
    let h = rule-found broken.Unsized (is_member_type w.structs t) w a.0 a.1.0 in
    let b = split (rule broken.Tag (is_new_member before x) a.0.1) _ r a.1.1 in
    let g = rule-found broken.Tag (is_new_member before x) a.0.1 b.0 b.1.0 in
    let f = rule-found broken.Form fits b.0.1 r b.1.1 in
    (h.0, h.1 ∙ g.1 ∙ f.1)

type-found : (before : List Member) (x : Name) (base : Ty) (ls : List Layer) (w : World) (r : Ty × World) → member_type before x base ls w ≡ Ok r → (is_member_type r.1.structs r.0 ≡ true) × (w ≡ r.1)
unfolding member_type
type-found before x base ls w r is =
    let a = split (found broken.Unsized (whole_of (shaped w.structs base ls)) w) _ r is in
    let o = option-found broken.Unsized (whole_of (shaped w.structs base ls)) w a.0 a.1.0 in
    let b = split (member_rules before x a.0.0 (results_fit w.structs base ls) a.0.1) _ r a.1.1 in
    let h = rules-found before x a.0.0 (results_fit w.structs base ls) a.0.1 b.0 b.1.0 in
    let there : is_member_type b.0.1.structs a.0.0 ≡ true = subst (λ (v : World). is_member_type v.structs a.0.0 ≡ true) h.1 h.0 in
    (subst (λ (s : Ty × World). is_member_type s.1.structs s.0 ≡ true) (ended a.0.0 b.0.1 r b.1.1) there, o.1 ∙ h.1 ∙ ended_world a.0.0 b.0.1 r b.1.1)

one-found : (base : Ty) (x : LayeredDeclarator) (before : List Member) (w : World) (r : (Declared × List Member) × World) → one_member base x before w ≡ Ok r → Fit w before → (w ≡ r.1) × Fit r.1 r.0.1
one-found base x before w r is fit =
    let a = split (member_type before x.name base x.layers w) _ r is in
    let h = type-found before x.name base x.layers w a.0 a.1.0 in
    let here : Fit a.0.1 before = subst (λ v. Fit v before) h.1 fit in
    let more : List Member = before ++ record { name = x.name; ty = a.0.0 } ∷ [] in
    let all : Fit a.0.1 more = fit-last a.0.1.structs before (record { name = x.name; ty = a.0.0 }) here h.0 in
    let end : Declared × List Member = (declared x.tree a.0.0, more) in
    (h.1 ∙ ended_world end a.0.1 r a.1.1, subst (λ (s : (Declared × List Member) × World). Fit s.1 s.0.1) (ended end a.0.1 r a.1.1) all)

-- ---- all members

module _ (stay : UnitsStay) (grow : TablesGrow) (gs : List Ty) where
  abbrev Here : World → Type 0
  Here w = Sound (with_globals gs) gs w

  -- a step that leaves scopes and bodies, and members that fit behind it
  abbrev Leaves : World → World → List Member → Type 0
  Leaves w v ms = IsQuiet w v × Fit v ms

  here : (w v : World) → IsQuiet w v → Here w → Here v
  here w v q sound = sound-quiet grow (with_globals gs) gs w v q sound

  declarators-found : (base : Ty) (ds : List Declarator) (before : List Member) (w : World) (r : (List Declared × List Member) × World)
      → member_declarators base (map walked.declarator ds) before w ≡ Ok r → Here w → Fit w before → Leaves w r.1 r.0.1
  declarators-found base [] before w r is sound fit =
      subst (λ (s : (List Declared × List Member) × World). Leaves w s.1 s.0.1) (ended ([], before) w r is) (quiet.same w, fit)
  declarators-found base (d ∷ ds) before w r is sound fit =
      let a = split (typed_declarator d w) _ r is in
      let q : IsQuiet w a.0.1 = ((declarator-meets stay grow (with_globals gs) gs (are-first gs) d w).found a.0 a.1.0 sound).0 in
      let b = split (one_member base a.0.0 before a.0.1) _ r a.1.1 in
      let one = one-found base a.0.0 before a.0.1 b.0 b.1.0 (fit-grown stay w.structs a.0.1.structs q.steady.grown before fit) in
      let p : IsQuiet w b.0.1 = subst (IsQuiet w) one.0 q in
      let c = split (member_declarators base (map walked.declarator ds) b.0.0.1 b.0.1) _ r b.1.1 in
      let rest = declarators-found base ds b.0.0.1 b.0.1 c.0 c.1.0 (here w b.0.1 p sound) one.1 in
      subst (λ (s : (List Declared × List Member) × World). Leaves w s.1 s.0.1) (ended (b.0.0.0 ∷ c.0.0.0, c.0.0.1) c.0.1 r c.1.1)
      (quiet.joined w b.0.1 c.0.1 p rest.0, rest.1)

  abbrev with_parts : Node Plain MemberDecl-F → Node Found MemberDecl-F
  with_parts node = map-MemberDecl _ _ _ _ _ _ _ _ _ _ _ _ _ _ _ _ _ _ _ _
      walked.direct walked.expr walked.param walked.params walked.spec walked.suffix walked.abstract walked.declarator walked.member walked.type_word node

  member-found : (m : MemberDecl) (before : List Member) (w : World) (r : (TypedMemberDecl × List Member) × World)
      → walked.member m before w ≡ Ok r → Here w → Fit w before → Leaves w r.1 r.0.1
  member-found m before w r is sound fit =
      let node : Node Plain MemberDecl-F = out-MemberDecl m in
      let step : member_step (with_parts node) before w ≡ Ok r =
      sym (ap (λ (f : OfMember). f before w) (walked-member node)) ∙ ap (λ t. walked.member t before w) (roll-out-MemberDecl m) ∙ is in
      let a = split (typed_spec node.spec false w) _ r step in
      let q : IsQuiet w a.0.1 = (((spec-meets stay grow (with_globals gs) gs (are-first gs) node.spec).0 w).found a.0 a.1.0 sound).0 in
      let b = split (member_declarators a.0.0.1 (map walked.declarator node.declarators) before a.0.1) _ r a.1.1 in
      let rest = declarators-found a.0.0.1 node.declarators before a.0.1 b.0 b.1.0 (here w a.0.1 q sound) (fit-grown stay w.structs a.0.1.structs q.steady.grown before fit) in
      subst (λ (s : (TypedMemberDecl × List Member) × World). Leaves w s.1 s.0.1)
      (ended (roll-TypedMemberDecl (record { spec = a.0.0.0; declarators = b.0.0.0 }), b.0.0.1) b.0.1 r b.1.1)
      (quiet.joined w a.0.1 b.0.1 q rest.0, rest.1)

  members-found : (ms : List MemberDecl) (before : List Member) (w : World) (r : (List TypedMemberDecl × List Member) × World)
      → members (map walked.member ms) before w ≡ Ok r → Here w → Fit w before → Leaves w r.1 r.0.1
  members-found [] before w r is sound fit =
      subst (λ (s : (List TypedMemberDecl × List Member) × World). Leaves w s.1 s.0.1) (ended ([], before) w r is) (quiet.same w, fit)
  members-found (m ∷ ms) before w r is sound fit =
      let a = split (walked.member m before w) _ r is in
      let first = member-found m before w a.0 a.1.0 sound fit in
      let b = split (members (map walked.member ms) a.0.0.1 a.0.1) _ r a.1.1 in
      let rest = members-found ms a.0.0.1 a.0.1 b.0 b.1.0 (here w a.0.1 first.0 sound) first.1 in
      subst (λ (s : (List TypedMemberDecl × List Member) × World). Leaves w s.1 s.0.1) (ended (a.0.0.0 ∷ b.0.0.0, b.0.0.1) b.0.1 r b.1.1)
      (quiet.joined w a.0.1 b.0.1 first.0 rest.0, rest.1)

-- ---- the test

tag-found : TablesGrow → (gs : List Ty) (x : Name) (w : World) (r : ℕ × World) → Sound (with_globals gs) gs w → body_tag x true w ≡ Ok r
    → Sound (with_globals gs) gs r.1 × (is_undefined r.1.structs r.0 ≡ true)
tag-found grow gs x w r sound is =
    let a = split (tag x w) _ r is in
    let first = ((tag-goes grow (with_globals gs) gs x w).found a.0 a.1.0 sound).1 in
    let b = split (rule broken.Tag (true && is_undefined a.0.1.structs a.0.0) a.0.1) _ r a.1.1 in
    let h = rule-found broken.Tag (true && is_undefined a.0.1.structs a.0.0) a.0.1 b.0 b.1.0 in
    subst (λ (s : ℕ × World). Sound (with_globals gs) gs s.1 × (is_undefined s.1.structs s.0 ≡ true)) (ended a.0.0 b.0.1 r b.1.1)
    (subst (λ (v : World). Sound (with_globals gs) gs v × (is_undefined v.structs a.0.0 ≡ true)) h.1 (first, h.0))

pub bodies-defined : UnitsStay → TablesGrow → StructsGetTheirBodies
bodies-defined stay grow gs fs x ms w v u n body file at is =
    let h = tag-found grow gs x w (n, v) file.scopes at in
    let all = members-found stay grow gs ms [] v (body, u) is h.0 refl in
    both_true (is_undefined u.structs n) (are_members u.structs body.1)
    (undefined-stays v.structs u.structs n all.0.steady.grown (all.0.bodies n) h.1) all.1
