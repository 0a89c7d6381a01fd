-- The walks of specs, declarators and type words find types that pass, where the walks of their parts do.
use Rattle.std.proofs.Common.{◌≡◌, ◌∙◌, ◌<◌, ◌≤◌, ℕ, ℤ, zero, suc, pos, Bool, true, false, ◌||◌, ◌&&◌, if◌then◌else◌, List, [], ◌∷◌, ◌++◌, length, nat_le, nat_lt, map, Option, Some, None, int_le, unsigned_abs, negsuc, le-leb, leb-true, ltb-true, refl, ap, sym, subst, arith}
use Rattle.std.specs.List.{AllByRecursion}
use Rattle.std.specs.Option.{option_map}
use Rattle.std.specs.Str.{bytes_eq}
use Rattle.c_layers.specs.declared.layer.Layer.{Layer}
use Rattle.c_layers.specs.declared.layer.Parameter.{Parameter}
use Rattle.c_layers.specs.Shapes.{adjusted, results_fit, shaped, stars_of, whole_of}
use Rattle.c_tree.specs.declared.expression.AbstractDeclarator.{AbstractDeclarator, roll-AbstractDeclarator}
use Rattle.c_tree.specs.declared.expression.Declarator.{Declarator, roll-Declarator}
use Rattle.c_tree.specs.declared.expression.Direct.{roll-Direct}
use Rattle.c_tree.specs.declared.expression.Direct.TheOpen.{AbstractDeclarator-F, Declarator-F, Direct-F, MemberDecl-F, Param-F, Params-F, Spec-F, Suffix-F, TypeWord-F}
use Rattle.c_tree.specs.declared.expression.MemberDecl.{MemberDecl, out-roll-MemberDecl, roll-MemberDecl}
use Rattle.c_tree.specs.declared.expression.Param.{Param, roll-Param}
use Rattle.c_tree.specs.declared.expression.Params.{roll-Params}
use Rattle.c_tree.specs.declared.expression.Spec.{map-Spec, out-roll-Spec, roll-Spec}
use Rattle.c_tree.specs.declared.expression.Suffix.{Suffix, roll-Suffix}
use Rattle.c_tree.specs.declared.expression.TypeWord.{roll-TypeWord}
use Rattle.c_tree.specs.Fold.{Node, Plain}
use Rattle.c_types.specs.declared.structs.Member.{Member}
use Rattle.c_types.specs.declared.structs.StructDef.{StructDef}
use Rattle.c_types.specs.declared.ty.Ty.{Ty}
use Rattle.c_types.specs.Kinds.{is_scalar}
use Rattle.c_types.specs.Sound.{are_members, is_member_type}
use Rattle.c_types.specs.Structs.{struct_named, with_body, with_tag}
use Rattle.c_typed.specs.declared.entity.Constant.{Constant}
use Rattle.c_typed.specs.declared.entity.Constant.TheVariants as constant
use Rattle.c_typed.specs.declared.entity.Entity.TheVariants as entity
use Rattle.c_typed.specs.declared.expression.Declared.{Declared}
use Rattle.c_typed.specs.declared.expression.TypedAbstractDeclarator.{TypedAbstractDeclarator, roll-TypedAbstractDeclarator}
use Rattle.c_typed.specs.declared.expression.TypedDeclarator.{roll-TypedDeclarator}
use Rattle.c_typed.specs.declared.expression.TypedDirect.{TypedDirect}
use Rattle.c_typed.specs.declared.expression.TypedMemberDecl.{roll-TypedMemberDecl}
use Rattle.c_typed.specs.declared.expression.TypedParam.{TypedParam}
use Rattle.c_typed.specs.declared.expression.TypedParams.{TypedParams}
use Rattle.c_typed.specs.declared.expression.TypedParams.TheVariants as params
use Rattle.c_typed.specs.declared.expression.TypedSpec.{TypedSpec}
use Rattle.c_typed.specs.declared.expression.TypedSpec.TheVariants as spec
use Rattle.c_typed.specs.declared.expression.TypedSuffix.{TypedSuffix}
use Rattle.c_typed.specs.declared.expression.TypedTypeWord.{TypedTypeWord, out-roll-TypedTypeWord, roll-TypedTypeWord}
use Rattle.c_scope.specs.declared.rule.Rule.TheVariants as broken
use Rattle.c_scope.specs.declared.scopes.Meaning.{Meaning}
use Rattle.c_scope.specs.declared.scopes.Meaning.TheVariants as means
use Rattle.c_scope.specs.declared.world.World.{World}
use Rattle.c_scope.specs.BuiltIns.{Name}
use Rattle.c_scope.specs.Declarations.{bind_parameter, define, is_new_member, is_undefined, may_be_parameter, member_rules, member_type, most_parameters, parameter, word_type}
use Rattle.c_scope.specs.Scopes.{bind, bound_in, meaning_of, most_tags, new_tag, tag, tag_by}
use Rattle.c_scope.specs.Walk.{Walk, each_pair, maybe}
use Rattle.c_rules.specs.declared.place.Place.TheVariants.{Value}
use Rattle.c_operators.specs.Operators.{constant_of}
use Rattle.c_declarator_rules.specs.declared.declarators.LayeredDeclarator.{LayeredDeclarator}
use Rattle.c_declarator_rules.specs.Rules.{body_tag, constant_bound, declared, is_bound, layers_inside, named_type, one_member, tree_inside, type_name}
use Rattle.c_expr_typing.specs.Trees.{Found, OfMember, member_declarators, members, spec_step, walked}
use Rattle.c_typing_types.specs.Filled.{any_declares, are_some, declares, spec_fills, spec_fills_at}
use Rattle.c_typed_rows.specs.Types.{DeclaredTypes, SpecTypes}
use Rattle.c_typing_types.proofs.Claimed.{FindsAbstract, FindsDeclarator, FindsDirect, FindsMember, FindsParam, FindsParams, FindsSpec, FindsSuffix, FindsTypeWord, ReadyAbstract, ReadyDeclarator, ReadyDirect, ReadyMember, ReadyParam, ReadyParams, ReadySpec, ReadySuffix, claims}
use Rattle.c_typing_types.proofs.Good.{Allowed, Fine, Good, ParamFine, both}
use Rattle.c_typing_types.proofs.Known.{bound-fine, defined-fine, last-held, meaning-fine, tagged-fine}
use Rattle.c_typing_types.proofs.Nodes as nodes
use Rattle.c_typing_types.proofs.Nodes.{Held}
use Rattle.c_typing_types.proofs.Rules.{ReadyWord}
use Rattle.c_typing_types.proofs.Shaped.{LayersFine, ParameterFine, adjusted-fine, layers-joined, shaped-fine, stars-fine, whole-fine}
use Rattle.c_typing_types.proofs.Steps.{BodyFine, Goes, MembersFine, after, changed, ends, finds, longer-same, never, rule-goes, ruled, under, within-goes}
use Rattle.c_typing_types.proofs.TypedParts as parts
use Rattle.c_typing_types.proofs.TypedParts.{AbstractTypes, DeclaratorTypes, DirectTypes, MemberTypes, ParamTypes, ParamsTypes, SuffixTypes, of_held}

-- ---- numbers

free-allowed : (free : Bool) (n : ℕ) → 1 ≤ n → (free || nat_le 1 n) ≡ true
free-allowed true n least = refl
free-allowed false n least = le-leb 1 n least

bound-positive : (v : ℤ) → int_le (pos 1) v ≡ true → 1 ≤ unsigned_abs v
bound-positive (pos n) is = leb-true 1 n is
bound-positive (negsuc n) is = cc

at_least_one : (v : ℤ) → is_bound v ≡ true → 1 ≤ unsigned_abs v
at_least_one v is = bound-positive v (both (int_le (pos 1) v) (int_le v (pos 65536)) is).0

-- ---- tags

later : (l n : ℕ) (o : Option ℕ) → ((m : ℕ) → o ≡ Some m → m < l) → option_map suc o ≡ Some n → n < suc l
later l n None rest is = cc
later l n (Some m) rest is = let same : suc m ≡ n = cc in let b : m < l = rest m refl in omega arith

place_by : (ds : List StructDef) (x : Name) (n : ℕ) (here : Bool) → ((m : ℕ) → struct_named ds x ≡ Some m → m < length ds)
    → (if here then Some 0 else option_map suc (struct_named ds x)) ≡ Some n → n < suc (length ds)
place_by ds x n true rest is = let same : 0 ≡ n = cc in omega arith
place_by ds x n false rest is = later (length ds) n (struct_named ds x) rest is

place-below : (ds : List StructDef) (x : Name) (n : ℕ) → struct_named ds x ≡ Some n → n < length ds
place-below [] x n is = cc
place-below (d ∷ ds) x n is = place_by ds x n (bytes_eq d.name x) (place-below ds x) is

tagged-longer : (ds : List StructDef) (x : Name) → length ds < length (with_tag ds x)
tagged-longer [] x = omega arith
tagged-longer (d ∷ ds) x = let h : length ds < length (with_tag ds x) = tagged-longer ds x in omega arith

tagged-length : (ds : List StructDef) (x : Name) → length (with_tag ds x) ≡ suc (length ds)
tagged-length [] x = refl
tagged-length (d ∷ ds) x = ap suc (tagged-length ds x)

tagged-few : (ds : List StructDef) (x : Name) (n : ℕ) → length ds < n → length (with_tag ds x) ≤ n
tagged-few ds x n room = let r : length ds < n = room in let same : length (with_tag ds x) ≡ suc (length ds) = tagged-length ds x in omega arith

defined-length : (ds : List StructDef) (n : ℕ) (ms : List Member) → length (with_body ds n ms) ≡ length ds
defined-length [] n ms = refl
defined-length (d ∷ ds) zero ms = refl
defined-length (d ∷ ds) (suc n) ms = ap suc (defined-length ds n ms)

below-all : (s l n : ℕ) → s < l → l ≤ n → s < n
below-all s l n below few = let b : s < l = below in let f : l ≤ n = few in omega arith

less-longer : (l m : ℕ) → l < m → l ≤ m
less-longer l m less = let b : l < m = less in omega arith

same-longer : (l m : ℕ) → m ≡ l → l ≤ m
same-longer l m same = let e : m ≡ l = same in omega arith

module _ (g : Good) where
  abbrev Below : ℕ → Type 0
  Below s = s < g.count

  new_tag-goes : (x : Name) (w : World) → Goes g (Unit {0}) w (new_tag x w) Below
  new_tag-goes x w = ruled g broken.Tag (nat_lt (length w.structs) most_tags) _ (λ room.
      changed g {a = length w.structs} w (record w { structs = with_tag w.structs x }) (less-longer (length w.structs) _ (tagged-longer w.structs x)) (λ counted known fit. (
        record { scopes = fit.scopes; functions = fit.functions; structs = tagged-fine g w.structs x fit.structs; locals = fit.locals; few = tagged-few w.structs x most_tags (ltb-true (length w.structs) most_tags room) },
        below-all (length w.structs) _ g.count (tagged-longer w.structs x) counted,
      )))

  tag_by-goes : (x : Name) (o : Option ℕ) (w : World) → struct_named w.structs x ≡ o → Goes g (Unit {0}) w (tag_by x o w) Below
  tag_by-goes x (Some n) w at = changed g w w (longer-same w) (λ counted known fit. (fit, below-all n (length w.structs) g.count (place-below w.structs x n at) counted))
  tag_by-goes x None w at = new_tag-goes x w

  tag-goes : (x : Name) (w : World) → Goes g (Unit {0}) w (tag x w) Below
  unfolding tag
  tag-goes x w = tag_by-goes x (struct_named w.structs x) w refl

  -- ---- suffixes

  bound-goes : (c : Constant) (w : World) → Goes g (Unit {0}) w (constant_bound c w) (Allowed g)
  bound-goes (constant.Value v) w = ruled g broken.Unsized (is_bound v) _ (λ holds. ends g (λ known fit. free-allowed g.free (unsigned_abs v) (at_least_one v holds)))
  bound-goes constant.Other w = never g
  bound-goes constant.Divides w = never g

  pub suffix-goes : (y : Held (claims g) Suffix-F) → FindsSuffix g (roll-Suffix (nodes.bare_suffix (claims g) y))
  suffix-goes (Suffix-F.Array None) = λ w.
      subst (λ (p : Walk (TypedSuffix × Layer)). Goes g (Unit {0}) w (p w) (ReadySuffix g)) (sym (nodes.walked-suffix (Suffix-F.Array None))) (ends g (λ known fit. (parts.suffix-open g.good, tt)))
  suffix-goes (Suffix-F.Array (Some e)) = λ w.
      subst (λ (p : Walk (TypedSuffix × Layer)). Goes g (Unit {0}) w (p w) (ReadySuffix g)) (sym (nodes.walked-suffix (Suffix-F.Array (Some e.0))))
      (after g _ _ (e.1 Value w) (λ x v.
      after g _ _ (under g _ (λ known. tt) (bound-goes (constant_of x) v)) (λ n u.
      ends g (λ known fit. (parts.suffix-bound g.good x known.0.1.types, known.1)))))
  suffix-goes (Suffix-F.Function p) = λ w.
      subst (λ (q : Walk (TypedSuffix × Layer)). Goes g (Unit {0}) w (q w) (ReadySuffix g)) (sym (nodes.walked-suffix (Suffix-F.Function p.0)))
      (after g _ _ (p.1 w) (λ x v. ends g (λ known fit. (parts.suffix-Function g.good x.0 known.1.0, known.1.1))))

  abbrev HeldSuffix : Type 0
  HeldSuffix = (t : Suffix) × FindsSuffix g t

  suffixes-go : (hs : List HeldSuffix) (w : World)
      → Goes g (Unit {0}) w (each_pair (map walked.suffix (map (λ (h : HeldSuffix). h.0) hs)) w) (λ xs. AllByRecursion (SuffixTypes g.good) xs.0 × LayersFine g xs.1)
  suffixes-go [] w = ends g (λ known fit. (tt, tt))
  suffixes-go (h ∷ hs) w =
      after g _ _ (h.1 w) (λ x v.
      after g _ _ (under g _ (λ known. tt) (suffixes-go hs v)) (λ xs u.
      ends g (λ known fit. ((known.0.1.0, known.1.0), (known.0.1.1, known.1.1)))))

  -- ---- declarators

  pub direct-goes : (y : Held (claims g) Direct-F) → FindsDirect g (roll-Direct (nodes.bare_direct (claims g) y))
  direct-goes (Direct-F.Name x) = λ w.
      subst (λ (p : Walk (TypedDirect × Name × List Layer)). Goes g (Unit {0}) w (p w) (ReadyDirect g)) (sym (nodes.walked-direct (Direct-F.Name x))) (ends g (λ known fit. (parts.direct-Name g.good x, tt)))
  direct-goes (Direct-F.Bracketed d) = λ w.
      subst (λ (p : Walk (TypedDirect × Name × List Layer)). Goes g (Unit {0}) w (p w) (ReadyDirect g)) (sym (nodes.walked-direct (Direct-F.Bracketed d.0)))
      (after g _ _ (d.1 w) (λ x v. ends g (λ known fit. (parts.direct-Bracketed g.good x.tree known.1.0, known.1.1))))

  declarator-made : (n : ℕ) (d : TypedDirect) (xs : List TypedSuffix) → DirectTypes g.good d → AllByRecursion (SuffixTypes g.good) xs
      → DeclaratorTypes g.good (roll-TypedDeclarator (record { stars = n; direct = d; suffixes = xs }))
  declarator-made n d xs hd hs = of_held (SuffixTypes g.good) (λ ys. DeclaratorTypes g.good (roll-TypedDeclarator (record { stars = n; direct = d; suffixes = ys }))) (parts.declarator-made g.good n d hd) xs hs

  all_layers : (n : ℕ) (ls ms : List Layer) → LayersFine g ls → LayersFine g ms → LayersFine g (ls ++ ms ++ stars_of n)
  all_layers n ls ms first second = layers-joined g (ls ++ ms) (stars_of n) (layers-joined g ls ms first second) (stars-fine g n)

  pub declarator-goes : (y : Held (claims g) Declarator-F) → FindsDeclarator g (roll-Declarator (nodes.bare_declarator (claims g) y))
  declarator-goes y = λ w.
      subst (λ (p : Walk LayeredDeclarator). Goes g (Unit {0}) w (p w) (ReadyDeclarator g)) (sym (nodes.walked-declarator (nodes.bare_declarator (claims g) y)))
      (after g _ _ (y.direct.1 w) (λ x v.
      after g _ _ (under g _ (λ known. tt) (suffixes-go y.suffixes v)) (λ ss u.
      ends g (λ known fit. (declarator-made y.stars x.0 ss.0 known.0.1.0 known.1.0, all_layers y.stars x.2 ss.1 known.0.1.1 known.1.1)))))

  abbrev held_inside : Option (TypedAbstractDeclarator × List Layer) → Type 0
  held_inside None = Unit {0}
  held_inside (Some a) = ReadyAbstract g a

  abstract-made : (n : ℕ) (o : Option (TypedAbstractDeclarator × List Layer)) (xs : List TypedSuffix) → held_inside o → AllByRecursion (SuffixTypes g.good) xs
      → AbstractTypes g.good (roll-TypedAbstractDeclarator (record { stars = n; bracketed = tree_inside o; suffixes = xs }))
  abstract-made n None xs ho hs = of_held (SuffixTypes g.good) (λ ys. AbstractTypes g.good (roll-TypedAbstractDeclarator (record { stars = n; bracketed = None; suffixes = ys }))) (parts.abstract-bare g.good n) xs hs
  abstract-made n (Some a) xs ho hs = of_held (SuffixTypes g.good) (λ ys. AbstractTypes g.good (roll-TypedAbstractDeclarator (record { stars = n; bracketed = Some a.0; suffixes = ys }))) (parts.abstract-bracketed g.good n a.0 ho.0) xs hs

  inside-layers : (o : Option (TypedAbstractDeclarator × List Layer)) → held_inside o → LayersFine g (layers_inside o)
  inside-layers None ho = tt
  inside-layers (Some a) ho = ho.1

  abbrev HeldAbstract : Type 0
  HeldAbstract = (t : AbstractDeclarator) × FindsAbstract g t

  -- what stands in the brackets, where something does
  inside-goes : (a : HeldAbstract) (w : World) → Goes g (Unit {0}) w (maybe (Some (walked.abstract a.0)) w) held_inside
  inside-goes a w = after g _ _ (a.1 w) (λ x v. ends g (λ known fit. known.1))

  abstract_by : (n : ℕ) (o : Option HeldAbstract) (hs : List HeldSuffix) → FindsAbstract g (roll-AbstractDeclarator (nodes.bare_abstract (claims g) (record { stars = n; bracketed = o; suffixes = hs })))
  abstract_by n None hs = λ w.
      subst (λ (p : Walk (TypedAbstractDeclarator × List Layer)). Goes g (Unit {0}) w (p w) (ReadyAbstract g)) (sym (nodes.walked-abstract (record { stars = n; bracketed = None; suffixes = map (λ (h : HeldSuffix). h.0) hs })))
      (after g _ _ (suffixes-go hs w) (λ ss u.
      ends g (λ known fit. (abstract-made n None ss.0 tt known.1.0, all_layers n [] ss.1 tt known.1.1))))
  abstract_by n (Some a) hs = λ w.
      subst (λ (p : Walk (TypedAbstractDeclarator × List Layer)). Goes g (Unit {0}) w (p w) (ReadyAbstract g)) (sym (nodes.walked-abstract (record { stars = n; bracketed = Some a.0; suffixes = map (λ (h : HeldSuffix). h.0) hs })))
      (after g (maybe (Some (walked.abstract a.0)) w) _ (inside-goes a w) (λ o v.
      after g _ _ (under g _ (λ known. tt) (suffixes-go hs v)) (λ ss u.
      ends g (λ known fit. (abstract-made n o ss.0 known.0.1 known.1.0, all_layers n (layers_inside o) ss.1 (inside-layers o known.0.1) known.1.1)))))

  pub abstract-goes : (y : Held (claims g) AbstractDeclarator-F) → FindsAbstract g (roll-AbstractDeclarator (nodes.bare_abstract (claims g) y))
  abstract-goes y = abstract_by y.stars y.bracketed y.suffixes

  -- ---- type words

  word_type-goes : (base : Ty) (ls : List Layer) (w : World) → Goes g (Fine g base × LayersFine g ls) w (word_type base ls w) (Fine g)
  unfolding word_type
  word_type-goes base ls w = finds g broken.Unsized (whole_of (shaped w.structs base ls)) _ (λ t is. ruled g broken.Form (results_fit w.structs base ls) _ (λ holds.
      ends g (λ known fit. whole-fine g (shaped w.structs base ls) t is (shaped-fine g w.structs base ls known.0 known.1 holds))))

  word-made : (s : TypedSpec) (a : TypedAbstractDeclarator) (t : Ty) → SpecTypes g.good s → AbstractTypes g.good a → Fine g t
      → ReadyWord g (roll-TypedTypeWord (record { spec = s; declarator = a; ty = t }))
  word-made s a t hs ha fine = record {
    ty = ap (λ w. g.good w.ty) (out-roll-TypedTypeWord (record { spec = s; declarator = a; ty = t })) ∙ fine;
    types = parts.type_word-made g.good s a t hs ha fine;
  }

  pub type_word-goes : (y : Held (claims g) TypeWord-F) → FindsTypeWord g (roll-TypeWord (nodes.bare_type_word (claims g) y))
  type_word-goes y = λ w.
      subst (λ (p : Walk TypedTypeWord). Goes g (Unit {0}) w (p w) (ReadyWord g)) (sym (nodes.walked-type_word (nodes.bare_type_word (claims g) y)))
      (after g _ _ (y.spec.1 false (λ is. cc) w) (λ base v.
      after g _ _ (under g _ (λ known. tt) (y.declarator.1 v)) (λ x u.
      after g _ _ (under g _ (λ known. (known.0.1.1, known.1.1)) (word_type-goes base.1 x.1 u)) (λ t s.
      ends g (λ known fit. word-made base.0 x.0 t known.0.0.1.0 known.0.1.0 known.1)))))

  -- ---- parameters

  bind_parameter-goes : (o : Option Name) (t : Ty) (w : World) → Goes g (Fine g t) w (bind_parameter o t w) (λ u. Unit {0})
  unfolding bind
  bind_parameter-goes None t w = ends g (λ known fit. tt)
  bind_parameter-goes (Some x) t w = changed g w (record w { scopes = bound_in w.scopes x (means.Variable entity.Parameter t) }) (longer-same w) (λ few known fit. (
    record { scopes = bound-fine g w.scopes x (means.Variable entity.Parameter t) fit.scopes known; functions = fit.functions; structs = fit.structs; locals = fit.locals; few = fit.few },
    tt,
  ))

  parameter-goes : (o : Option Name) (base : Ty) (ls : List Layer) (w : World) → Goes g (Fine g base × LayersFine g ls) w (parameter o base ls w) (ParamFine g)
  unfolding parameter
  parameter-goes o base ls w = ruled g broken.Redeclared (may_be_parameter w o) _ (λ free. finds g broken.Unsized (whole_of (adjusted (shaped w.structs base ls))) _ (λ t is.
      ruled g broken.Form (results_fit w.structs base ls && is_scalar t) _ (λ fits.
      let h = both (results_fit w.structs base ls) (is_scalar t) fits in
      let fine : Fine g base × LayersFine g ls → Fine g t =
      λ known. whole-fine g (adjusted (shaped w.structs base ls)) t is (adjusted-fine g (shaped w.structs base ls) (shaped-fine g w.structs base ls known.0 known.1 h.0)) in
      after g _ _ (under g _ fine (bind_parameter-goes o t w)) (λ u v. ends g (λ known fit. (fine known.0, h.1))))))

  pub param-goes : (y : Held (claims g) Param-F) → FindsParam g (roll-Param (nodes.bare_param (claims g) y))
  param-goes (Param-F.Named s d) = λ w.
      subst (λ (p : Walk (TypedParam × Parameter)). Goes g (Unit {0}) w (p w) (ReadyParam g)) (sym (nodes.walked-param (Param-F.Named s.0 d.0)))
      (after g _ _ (s.1 false (λ is. cc) w) (λ base v.
      after g _ _ (under g _ (λ known. tt) (d.1 v)) (λ x u.
      after g _ _ (under g _ (λ known. (known.0.1.1, known.1.1)) (parameter-goes (Some x.name) base.1 x.layers u)) (λ t m.
      ends g (λ known fit. (parts.param-Named g.good base.0 (declared x.tree t) known.0.0.1.0 (parts.declared-made g.good x.tree t known.0.1.0 known.1.0), known.1))))))
  param-goes (Param-F.Unnamed s a) = λ w.
      subst (λ (p : Walk (TypedParam × Parameter)). Goes g (Unit {0}) w (p w) (ReadyParam g)) (sym (nodes.walked-param (Param-F.Unnamed s.0 a.0)))
      (after g _ _ (s.1 false (λ is. cc) w) (λ base v.
      after g _ _ (under g _ (λ known. tt) (a.1 v)) (λ x u.
      after g _ _ (under g _ (λ known. (known.0.1.1, known.1.1)) (parameter-goes None base.1 x.1 u)) (λ t m.
      ends g (λ known fit. (parts.param-Unnamed g.good base.0 x.0 t known.0.0.1.0 known.0.1.0 known.1.0, known.1))))))

  abbrev HeldParam : Type 0
  HeldParam = (t : Param) × FindsParam g t

  params-go : (hs : List HeldParam) (w : World)
      → Goes g (Unit {0}) w (each_pair (map walked.param (map (λ (h : HeldParam). h.0) hs)) w) (λ xs. AllByRecursion (ParamTypes g.good) xs.0 × AllByRecursion (ParameterFine g) xs.1)
  params-go [] w = ends g (λ known fit. (tt, tt))
  params-go (h ∷ hs) w =
      after g _ _ (h.1 w) (λ x v.
      after g _ _ (under g _ (λ known. tt) (params-go hs v)) (λ xs u.
      ends g (λ known fit. ((known.0.1.0, known.1.0), (known.0.1.1, known.1.1)))))

  pub params-goes : (y : Held (claims g) Params-F) → FindsParams g (roll-Params (nodes.bare_params (claims g) y))
  params-goes Params-F.Nothing = λ w.
      subst (λ (p : Walk (TypedParams × List Parameter)). Goes g (Unit {0}) w (p w) (ReadyParams g)) (sym (nodes.walked-params Params-F.Nothing)) (ends g (λ known fit. (parts.params-Nothing g.good, (tt, omega arith))))
  params-goes Params-F.VoidAlone = λ w.
      subst (λ (p : Walk (TypedParams × List Parameter)). Goes g (Unit {0}) w (p w) (ReadyParams g)) (sym (nodes.walked-params Params-F.VoidAlone)) (ends g (λ known fit. (parts.params-VoidAlone g.good, (tt, omega arith))))
  params-goes (Params-F.List hs) = λ w.
      subst (λ (p : Walk (TypedParams × List Parameter)). Goes g (Unit {0}) w (p w) (ReadyParams g)) (sym (nodes.walked-params (Params-F.List (map (λ (h : HeldParam). h.0) hs))))
      (after g _ _ (within-goes g (each_pair (map walked.param (map (λ (h : HeldParam). h.0) hs))) w (params-go hs)) (λ ps v.
      ruled g broken.Form (nat_le (length ps.1) most_parameters) _ (λ few. ends g (λ known fit.
      (of_held (ParamTypes g.good) (λ ys. ParamsTypes g.good (params.List ys)) (parts.params-List g.good) ps.0 known.1.0, (known.1.1, leb-true (length ps.1) most_parameters few))))))

  -- ---- members

  member_rules-go : (before : List Member) (x : Name) (t : Ty) (fits : Bool) (w : World) → Goes g (Unit {0}) w (member_rules before x t fits w) (λ u. fits ≡ true)
  unfolding member_rules
  member_rules-go before x t fits w = ruled g broken.Unsized (is_member_type w.structs t) _ (λ one. ruled g broken.Tag (is_new_member before x) _ (λ two. rule-goes g broken.Form fits (λ holds known. holds)))

  member_type-goes : (before : List Member) (x : Name) (base : Ty) (ls : List Layer) (w : World) → Goes g (Fine g base × LayersFine g ls) w (member_type before x base ls w) (Fine g)
  unfolding member_type
  member_type-goes before x base ls w = finds g broken.Unsized (whole_of (shaped w.structs base ls)) _ (λ t is.
      after g _ _ (under g _ (λ known. tt) (member_rules-go before x t (results_fit w.structs base ls) w)) (λ u v. ends g (λ known fit.
      whole-fine g (shaped w.structs base ls) t is (shaped-fine g w.structs base ls known.0.0 known.0.1 known.1))))

  -- the declared names of a member's line, with all members to its end, of which there is one where a name is declared or one stood before
  abbrev ReadyMembers : Bool → List Member → List Declared × List Member → Type 0
  ReadyMembers some before r = AllByRecursion (DeclaredTypes g.good) r.0 × MembersFine g r.1 × ((some || are_some before) ≡ true → are_some r.1 ≡ true)

  last-some : (ms : List Member) (m : Member) → are_some (ms ++ m ∷ []) ≡ true
  last-some [] m = refl
  last-some (n ∷ ms) m = refl

  one-goes : (base : Ty) (x : LayeredDeclarator) (before : List Member) (w : World)
      → Goes g ((Fine g base × MembersFine g before) × ReadyDeclarator g x) w (one_member base x before w) (λ m. DeclaredTypes g.good m.0 × MembersFine g m.1 × (are_some m.1 ≡ true))
  one-goes base x before w = after g _ _ (under g _ (λ known. (known.0.0, known.1.1)) (member_type-goes before x.name base x.layers w)) (λ t v. ends g (λ known fit. (
    parts.declared-made g.good x.tree t known.0.1.0 known.1,
    last-held (λ m. Fine g m.ty) before (record { name = x.name; ty = t }) known.0.0.1 known.1,
    last-some before (record { name = x.name; ty = t }),
  )))

  abbrev HeldDeclarator : Type 0
  HeldDeclarator = (t : Declarator) × FindsDeclarator g t

  some_true : (b : Bool) → (b || true) ≡ true
  some_true true = refl
  some_true false = refl

  declarators-go : (base : Ty) (hs : List HeldDeclarator) (before : List Member) (w : World)
      → Goes g (Fine g base × MembersFine g before) w (member_declarators base (map walked.declarator (map (λ (h : HeldDeclarator). h.0) hs)) before w) (ReadyMembers (are_some (map (λ (h : HeldDeclarator). h.0) hs)) before)
  declarators-go base [] before w = ends g (λ known fit. (tt, known.1, λ some. some))
  declarators-go base (h ∷ hs) before w =
      after g _ _ (under g _ (λ known. tt) (h.1 w)) (λ x v.
      after g _ _ (one-goes base x before v) (λ m u.
      after g _ _ (under g _ (λ known. (known.0.0.0, known.1.1)) (declarators-go base hs m.1 u)) (λ rest s.
      ends g (λ known fit. (
        (known.0.1.0, known.1.0),
        known.1.1,
        λ some. known.1.2 (ap (λ b. are_some (map (λ (h : HeldDeclarator). h.0) hs) || b) known.0.1.2 ∙ some_true (are_some (map (λ (h : HeldDeclarator). h.0) hs))),
      )))))

  some-declared : (y : Held (claims g) MemberDecl-F) → declares (roll-MemberDecl (nodes.bare_member (claims g) y)) ≡ are_some (map (λ (h : HeldDeclarator). h.0) y.declarators)
  unfolding declares
  some-declared y = ap (λ m. are_some m.declarators) (out-roll-MemberDecl (nodes.bare_member (claims g) y))

  pub member-goes : (y : Held (claims g) MemberDecl-F) → FindsMember g (roll-MemberDecl (nodes.bare_member (claims g) y))
  member-goes y = λ before w.
      let t : MemberDecl = roll-MemberDecl (nodes.bare_member (claims g) y) in
      subst (λ (p : OfMember). Goes g (MembersFine g before) w (p before w) (ReadyMember g (declares t) before)) (sym (nodes.walked-member (nodes.bare_member (claims g) y)))
      (after g _ _ (under g _ (λ known. tt) (y.spec.1 false (λ is. cc) w)) (λ base v.
      after g _ _ (under g _ (λ known. (known.1.1, known.0)) (declarators-go base.1 y.declarators before v)) (λ ds u.
      ends g (λ known fit. (
        of_held (DeclaredTypes g.good) (λ ys. MemberTypes g.good (roll-TypedMemberDecl (record { spec = base.0; declarators = ys }))) (parts.member-made g.good base.0 known.0.1.0) ds.0 known.1.0,
        known.1.1,
        λ some. known.1.2 (subst (λ b. (b || are_some before) ≡ true) (some-declared y) some),
      )))))

  abbrev HeldMember : Type 0
  HeldMember = (t : MemberDecl) × FindsMember g t

  -- a line that declares a member stands among these, or a member stood before
  join_some : (a b c : Bool) (before next : List Member) → ((a || are_some before) ≡ true → are_some next ≡ true) → ((b || are_some next) ≡ true → c ≡ true) → ((a || b) || are_some before) ≡ true → c ≡ true
  join_some true b c before next first rest is = rest (ap (λ z. b || z) (first refl) ∙ some_true b)
  join_some false true c before next first rest is = rest refl
  join_some false false c before next first rest is = rest (first is)

  members-go : (hs : List HeldMember) (before : List Member) (w : World)
      → Goes g (MembersFine g before) w (members (map walked.member (map (λ (h : HeldMember). h.0) hs)) before w)
      (λ r. AllByRecursion (MemberTypes g.good) r.0 × MembersFine g r.1 × ((any_declares (map (λ (h : HeldMember). h.0) hs) || are_some before) ≡ true → are_some r.1 ≡ true))
  members-go [] before w = ends g (λ known fit. (tt, known, λ some. some))
  members-go (h ∷ hs) before w =
      after g _ _ (h.1 before w) (λ x v.
      after g _ _ (under g _ (λ known. known.1.1) (members-go hs x.1 v)) (λ rest u.
      ends g (λ known fit. (
        (known.0.1.0, known.1.0),
        known.1.1,
        join_some (declares h.0) (any_declares (map (λ (h : HeldMember). h.0) hs)) (are_some rest.1) before x.1 known.0.1.2 known.1.2,
      ))))

  -- ---- specs

  body_tag-goes : (x : Name) (bodies : Bool) (w : World) → Goes g (Unit {0}) w (body_tag x bodies w) (λ n. Below n × (bodies ≡ true))
  body_tag-goes x bodies w = after g _ _ (tag-goes x w) (λ n v. ruled g broken.Tag (bodies && is_undefined v.structs n) _ (λ holds. ends g (λ known fit. (known.1, (both bodies (is_undefined v.structs n) holds).0))))

  define-goes : (n : ℕ) (ms : List Member) (w : World) → Goes g (BodyFine g (Some ms)) w (define n ms w) (λ u. Unit {0})
  unfolding define
  define-goes n ms w = ruled g broken.Tag (is_undefined w.structs n && are_members w.structs ms) _ (λ holds.
      changed g w (record w { structs = with_body w.structs n ms }) (same-longer (length w.structs) _ (defined-length w.structs n ms)) (λ counted known fit. (
        record { scopes = fit.scopes; functions = fit.functions; structs = defined-fine g w.structs n ms fit.structs known; locals = fit.locals; few = subst (λ l. l ≤ most_tags) (sym (defined-length w.structs n ms)) fit.few },
        tt,
      )))

  abbrev with_parts : Node Plain Spec-F → Node Found Spec-F
  with_parts node = map-Spec _ _ _ _ _ _ _ _ _ _ _ _ _ _ _ _ _ _ _ _
      walked.direct walked.expr walked.param walked.params walked.spec walked.suffix walked.abstract walked.declarator walked.member walked.type_word node

  along : (node : Node Plain Spec-F) → ((bodies : Bool) → (bodies ≡ true → (g.free || spec_fills (roll-Spec node)) ≡ true) → (w : World) → Goes g (Unit {0}) w (spec_step (with_parts node) bodies w) (ReadySpec g))
      → FindsSpec g (roll-Spec node)
  along node goes = λ bodies fills w. subst (λ (p : Bool → Walk (TypedSpec × Ty)). Goes g (Unit {0}) w (p bodies w) (ReadySpec g)) (sym (nodes.walked-spec node)) (goes bodies fills w)

  named_by : (o : Option Meaning) (t : Ty) → named_type o ≡ Some t → o ≡ Some (means.TypeName t)
  named_by (Some (means.TypeName u)) t is = let same : u ≡ t = cc in ap (λ v. Some (means.TypeName v)) same
  named_by (Some (means.Variable e u)) t is = cc
  named_by (Some means.Function) t is = cc
  named_by None t is = cc

  type_name-goes : (x : Name) (w : World) → Goes g (Unit {0}) w (type_name x w) (ReadySpec g)
  type_name-goes x w = finds g broken.Undeclared (named_type (meaning_of w.scopes x)) _ (λ t is. ends g (λ known fit.
      (parts.spec-TypeName g.good x, meaning-fine g w.scopes x (means.TypeName t) fit.scopes (named_by (meaning_of w.scopes x) t is))))

  some_by : (free a b : Bool) → (free || a) ≡ true → ((a || false) ≡ true → b ≡ true) → (free || b) ≡ true
  some_by true a b fills some = refl
  some_by false true b fills some = some refl
  some_by false false b fills some = cc

  -- a body that isn't empty gives a member
  some_body : (x : Name) (hs : List HeldMember) (some : Bool) → (g.free || spec_fills (roll-Spec (Spec-F.Struct x (Some (map (λ (h : HeldMember). h.0) hs))))) ≡ true
      → ((any_declares (map (λ (h : HeldMember). h.0) hs) || false) ≡ true → some ≡ true) → (g.free || some) ≡ true
  unfolding spec_fills
  some_body x hs some fills members_are =
      some_by g.free (any_declares (map (λ (h : HeldMember). h.0) hs)) some
      (subst (λ n. (g.free || spec_fills_at n) ≡ true) (out-roll-Spec (Spec-F.Struct x (Some (map (λ (h : HeldMember). h.0) hs)))) fills) members_are

  pub spec-goes : (y : Held (claims g) Spec-F) → FindsSpec g (roll-Spec (nodes.bare_spec (claims g) y))
  spec-goes Spec-F.Int = along Spec-F.Int (λ bodies fills w. ends g (λ known fit. (parts.spec-Int g.good, g.int)))
  spec-goes Spec-F.Char = along Spec-F.Char (λ bodies fills w. ends g (λ known fit. (parts.spec-Char g.good, g.char)))
  spec-goes Spec-F.Void = along Spec-F.Void (λ bodies fills w. ends g (λ known fit. (parts.spec-Void g.good, g.void)))
  spec-goes (Spec-F.TypeName x) = along (Spec-F.TypeName x) (λ bodies fills w. type_name-goes x w)
  spec-goes (Spec-F.Struct x None) = along (Spec-F.Struct x None) (λ bodies fills w.
      after g _ _ (tag-goes x w) (λ n v. ends g (λ known fit. (parts.spec-tag g.good x, g.struct_below n known.1))))
  spec-goes (Spec-F.Struct x (Some hs)) = along (Spec-F.Struct x (Some (map (λ (h : HeldMember). h.0) hs))) (λ bodies fills w.
      after g _ _ (body_tag-goes x bodies w) (λ n v.
      after g _ _ (under g _ (λ known. tt) (members-go hs [] v)) (λ body u.
      after g _ _ (under g _ (λ known. (known.1.1, some_body x hs (are_some body.1) (fills known.0.1.1) known.1.2)) (define-goes n body.1 u)) (λ _ s.
      ends g (λ known fit. (
        of_held (MemberTypes g.good) (λ ys. SpecTypes g.good (spec.Struct x (Some ys))) (parts.spec-body g.good x) body.0 known.0.1.0,
        g.struct_below n known.0.0.1.0,
      ))))))
