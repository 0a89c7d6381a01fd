-- A table that is laid out: what is stored is what the definitions say, and it stays so.
use Rattle.std.proofs.Common.{◌≡◌, ◌⊎◌, ℕ, suc, ◌+◌, ◌<◌, ◌^◌, true, List, [], ◌∷◌, ◌++◌, length, map, take, sum, Option, Some, None, unwrap_or, is_some, Ok, Err, refl, sym, ap, ◌∙◌, subst, inl, inr, arith, append_assoc, append-nil, zero-add, add-zero, add_assoc}
use Rattle.std.proofs.Math.ListN.{set}
use Rattle.std.specs.Option.{option_map, option_and_then, ok_or}
use Rattle.std.specs.List.{slice_get}
use Rattle.std.proofs.lemmas.Bool.{cases_eq}
use Rattle.std.proofs.lemmas.Bool.Decides.{nat_tests}
use Rattle.std.proofs.lemmas.List.{length-map}
use Rattle.std.proofs.lemmas.Option.{slice_get-map}
use Rattle.c_types.specs.declared.error.LayoutRefusal.TheVariants.{Incomplete}
use Rattle.c_types.specs.declared.layout.Layout.{Layout}
use Rattle.c_types.specs.declared.ty.Ty.{Ty}
use Rattle.c_types.specs.declared.ty.Ty.TheVariants as ty
use Rattle.c_types.specs.declared.structs.Member.{Member}
use Rattle.c_types.specs.declared.structs.StructDef.{StructDef}
use Rattle.c_types.specs.Structs.{body_of, with_tag, with_body, member_named}
use Rattle.c_types.specs.Units.{struct_units, exact_units, limited, units_of, sum_of, offset_of}
use Rattle.c_types.specs.Sound.{is_member_type, are_members, IsSound}
use Rattle.c_types.specs.Theorems.{UnitsAreSums, Extends}
use Rattle.c_types.specs.inner.Layouts.{capped, layout_at, stored_units, kept, kept_or_none, layout_from, sums_before, member_units, layout_of, layout_in, tag_of, bodies, IsLaidOut}
use Rattle.c_types.proofs.Growing.{Covers, Knows, struct_units_more, total_more, sized_struct}
use Rattle.c_types.proofs.Capped.{kept_sized}
use Rattle.c_types.proofs.Fitting.{both, sum_cons, Allowed, member_allowed, unit_of, head_is, total_fit, sum_fit, sums_before_at, layout_of_more, are_members_more}
use Rattle.c_types.proofs.Bodies.{Known, known, covered, Shallow, unknown, opened, units_are_sums, bodies_have_units, none_contains_itself, units_stay, bodies_le}
use Rattle.c_types.proofs.StructsLemmas.{body_tagged, length_tagged, extends_tagged, bodies_tagged, map_tagged, body_here, body_there, length_bodied, tags_bodied, bodies_bodied, layouts_bodied, place_of_mapped}
use Rattle.tables.specs.Places.{place_of}

-- the cap is above the limit, so it changes no answer
limited_capped : (n : ℕ) → limited (Ok (capped n)) ≡ limited (Ok n)
limited_capped n = grind (arith, nat_tests)

same_layout : {u v : ℕ} {os ps : List ℕ} {ns ks : List (List ℕ)} → u ≡ v → os ≡ ps → ns ≡ ks → ◌≡◌ {A = Layout} (record { units = u; offsets = os; names = ns }) (record { units = v; offsets = ps; names = ks })
same_layout u o n = λ i. record { units = u i; offsets = o i; names = n i }

capped_two : (n u : ℕ) → capped (capped n + capped u) ≡ capped (n + u)
capped_two n u = omega arith

module _ (defs : List StructDef) (tags : List (List ℕ)) (layouts : List (Option Layout)) (laid : IsLaidOut defs tags layouts) where
  sums : UnitsAreSums defs
  sums = units_are_sums defs laid.shallow

  pub laid_sound : IsSound defs
  laid_sound = record {
    members_fit = laid.members_fit;
    bodies_have_units = bodies_have_units defs laid.shallow;
    none_contains_itself = none_contains_itself defs laid.shallow;
  }

  found_by : (o : Option StructDef) → option_and_then (λ o. o) (option_map (layout_in defs) o) ≡ option_map (layout_of defs) (option_and_then (λ d. d.members) o)
  found_by None = refl
  found_by (Some d) = refl

  pub layout_found : (s : ℕ) → layout_at layouts s ≡ option_map (layout_of defs) (body_of defs s)
  layout_found s =
      ap (λ ls. layout_at ls s) laid.stored
      ∙ ap (λ o. option_and_then (λ o. o) o) (slice_get-map (layout_in defs) defs s)
      ∙ found_by (slice_get defs s)

  stored_by : (s : ℕ) (o : Option (List Member)) → body_of defs s ≡ o → option_map (λ (l : Layout). l.units) (option_map (layout_of defs) o) ≡ option_map capped (exact_units defs (ty.Struct s))
  stored_by s None body = ap (option_map capped) (sym (sums.no_body s body))
  stored_by s (Some ms) body = ap (option_map capped) (sym (sums.body s ms body ∙ total_fit defs ms (laid.members_fit s ms body)))

  stored_exact : (s : ℕ) → stored_units layouts s ≡ option_map capped (struct_units (length defs) defs s)
  unfolding exact_units
  stored_exact s =
      ap (λ o. option_map (λ (l : Layout). l.units) o) (layout_found s)
      ∙ stored_by s (body_of defs s) refl
      ∙ ap (option_map capped) (sized_struct (struct_units (length defs) defs) s)

  -- the units that are looked up are the exact ones, capped
  pub kept_exact : (t : Ty) → kept (stored_units layouts) t ≡ option_map capped (exact_units defs t)
  unfolding exact_units
  kept_exact t = kept_sized (struct_units (length defs) defs) (stored_units layouts) stored_exact t

  -- ---- answers

  some_by : (o : Option ℕ) (c : ℕ) → Some c ≡ option_map capped o → limited (Ok c) ≡ limited (ok_or o Incomplete)
  some_by None c is = cc
  some_by (Some n) c is = let same : c ≡ capped n = cc in ap (λ m. limited (Ok m)) same ∙ limited_capped n

  none_by : (o : Option ℕ) → None ≡ option_map capped o → Err Incomplete ≡ limited (ok_or o Incomplete)
  none_by None is = refl
  none_by (Some n) is = cc

  pub units_some : (t : Ty) (c : ℕ) → Some c ≡ kept (stored_units layouts) t → limited (Ok c) ≡ units_of defs t
  unfolding units_of
  units_some t c is = some_by (exact_units defs t) c (is ∙ kept_exact t)

  pub units_none : (t : Ty) → None ≡ kept (stored_units layouts) t → Err Incomplete ≡ units_of defs t
  unfolding units_of
  units_none t is = none_by (exact_units defs t) (is ∙ kept_exact t)

  length_units : (ms : List Member) → length (member_units defs ms) ≡ length ms
  length_units [] = refl
  length_units (m ∷ ms) = ap suc (length_units ms)

  -- what stands at a member's place
  offset_at : (ms : List Member) (k : ℕ) → k < length ms → slice_get (layout_of defs ms).offsets k ≡ Some (capped (sum (take k (member_units defs ms))))
  offset_at ms k below =
      slice_get-map capped (sums_before 0 (member_units defs ms)) k
      ∙ ap (option_map capped) (sums_before_at 0 (member_units defs ms) k (let l : length (member_units defs ms) ≡ length ms = length_units ms in omega arith))
      ∙ ap (λ n. Some (capped n)) (zero-add (sum (take k (member_units defs ms))))

  abbrev members_or_none : Option (List Member) → List Member
  members_or_none o = unwrap_or o []

  offset_of_by : (s k : ℕ) (ms : List Member) → body_of defs s ≡ Some ms → offset_of defs s k ≡ limited (Ok (sum (take k (member_units defs ms))))
  unfolding offset_of
  offset_of_by s k ms body =
      ap (λ o. limited (sum_of (map (λ m. units_of defs m.ty) (take k (members_or_none o))))) body
      ∙ ap limited (sum_fit defs k ms (laid.members_fit s ms body))

  offset_by : (s k : ℕ) (o : Option (List Member)) (layout : Layout) (units : ℕ) → body_of defs s ≡ o → k < length (members_or_none o) → option_map (layout_of defs) o ≡ Some layout
      → slice_get layout.offsets k ≡ Some units → limited (Ok units) ≡ offset_of defs s k
  offset_by s k None layout units body below at place = cc
  offset_by s k (Some ms) layout units body below at place =
      let same : layout_of defs ms ≡ layout = cc in
      let there : Some units ≡ Some (capped (sum (take k (member_units defs ms)))) = sym place ∙ ap (λ (l : Layout). slice_get l.offsets k) (sym same) ∙ offset_at ms k below in
      let is : units ≡ capped (sum (take k (member_units defs ms))) = cc in
      ap (λ n. limited (Ok n)) is ∙ limited_capped (sum (take k (member_units defs ms))) ∙ sym (offset_of_by s k ms body)

  pub offset_answer : (s k : ℕ) (layout : Layout) (units : ℕ) → k < length (members_or_none (body_of defs s)) → layout_at layouts s ≡ Some layout → slice_get layout.offsets k ≡ Some units → limited (Ok units) ≡ offset_of defs s k
  offset_answer s k layout units below at place = offset_by s k (body_of defs s) layout units refl below (sym (layout_found s) ∙ at) place

  offset_there_by : (k : ℕ) (o : Option (List Member)) (layout : Layout) → k < length (members_or_none o) → option_map (layout_of defs) o ≡ Some layout → slice_get layout.offsets k ≡ None → ⊥
  offset_there_by k None layout below at missing = cc
  offset_there_by k (Some ms) layout below at missing =
      let same : layout_of defs ms ≡ layout = cc in
      let there : None ≡ Some (capped (sum (take k (member_units defs ms)))) = sym missing ∙ ap (λ (l : Layout). slice_get l.offsets k) (sym same) ∙ offset_at ms k below in
      cc

  -- a member that exists has a place
  pub offset_there : (s k : ℕ) (layout : Layout) → k < length (members_or_none (body_of defs s)) → layout_at layouts s ≡ Some layout → slice_get layout.offsets k ≡ None → ⊥
  offset_there s k layout below at missing = offset_there_by k (body_of defs s) layout below (sym (layout_found s) ∙ at) missing

  member_by : (o : Option (List Member)) (name : List ℕ) → option_and_then (λ (l : Layout). place_of (λ n. n) l.names name) (option_map (layout_of defs) o) ≡ option_and_then (λ ms. place_of (λ m. m.name) ms name) o
  member_by None name = refl
  member_by (Some ms) name = place_of_mapped (λ (m : Member). m.name) ms name

  -- a name that is found among those that are stored is that of a member
  member_found : (s : ℕ) (name : List ℕ) → option_and_then (λ (l : Layout). place_of (λ n. n) l.names name) (layout_at layouts s) ≡ member_named defs s name
  member_found s name = ap (λ o. option_and_then (λ (l : Layout). place_of (λ n. n) l.names name) o) (layout_found s) ∙ member_by (body_of defs s) name

  pub member_at : (s : ℕ) (name : List ℕ) (layout : Layout) → layout_at layouts s ≡ Some layout → place_of (λ n. n) layout.names name ≡ member_named defs s name
  member_at s name layout at = ap (λ o. option_and_then (λ (l : Layout). place_of (λ n. n) l.names name) o) (sym at) ∙ member_found s name

  pub tag_found : (tag : List ℕ) → place_of (λ n. n) tags tag ≡ place_of tag_of defs tag
  tag_found tag = ap (λ ts. place_of (λ n. n) ts tag) laid.named ∙ place_of_mapped tag_of defs tag

  names_by : (o : Option (List Member)) (layout : Layout) → ((ms : List Member) → o ≡ Some ms → length ms < 2 ^ 32) → option_map (layout_of defs) o ≡ Some layout → length layout.names < 2 ^ 32
  names_by None layout few at = cc
  names_by (Some ms) layout few at =
      let same : layout_of defs ms ≡ layout = cc in
      let names : map (λ (m : Member). m.name) ms ≡ layout.names = ap (λ (l : Layout). l.names) same in
      let l : length (map (λ (m : Member). m.name) ms) ≡ length layout.names = ap length names in
      let e : length (map (λ (m : Member). m.name) ms) ≡ length ms = length-map ms (λ (m : Member). m.name) in
      let below : length ms < 2 ^ 32 = few ms refl in
      omega arith

  -- few enough names to be numbered
  pub names_few : (s : ℕ) (layout : Layout) → layout_at layouts s ≡ Some layout → length layout.names < 2 ^ 32
  names_few s layout at = names_by (body_of defs s) layout (laid.few_members s) (sym (layout_found s) ∙ at)

  -- ---- a new body's layout

  unit_kept : (m : Member) → Allowed (exact_units defs m.ty) → kept_or_none layouts m ≡ capped (unit_of defs m)
  unfolding kept_or_none
  unit_kept m a =
      ap (λ o. unwrap_or o 0) (kept_exact m.ty ∙ ap (option_map capped) a.is) ∙ ap capped (sym (head_is defs m a))

  abbrev laid_from : ℕ → List ℕ → List (List ℕ) → List Member → Layout
  laid_from n offsets names ms = record { units = capped (n + sum (member_units defs ms)); offsets = offsets ++ map capped (sums_before n (member_units defs ms)); names = names ++ map (λ m. m.name) ms }

  from_is : (n : ℕ) (offsets : List ℕ) (names : List (List ℕ)) (ms : List Member) → are_members defs ms ≡ true → layout_from (kept_or_none layouts) (capped n) offsets names ms ≡ laid_from n offsets names ms
  from_is n offsets names [] fit = same_layout (ap capped (sym (add-zero n))) (sym (append-nil offsets)) (sym (append-nil names))
  from_is n offsets names (m ∷ ms) fit =
      let parts : (is_member_type defs m.ty ≡ true) × (are_members defs ms ≡ true) = both (is_member_type defs m.ty) (are_members defs ms) fit in
      let u : ℕ = unit_of defs m in
      let us : List ℕ = member_units defs ms in
      ap (λ c. layout_from (kept_or_none layouts) c (offsets ++ capped n ∷ []) (names ++ m.name ∷ []) ms)
      (ap (λ k. capped (capped n + k)) (unit_kept m (member_allowed defs m.ty parts.0)) ∙ capped_two n u)
      ∙ from_is (n + u) (offsets ++ capped n ∷ []) (names ++ m.name ∷ []) ms parts.1
      ∙ same_layout
      (ap capped (add_assoc n u (sum us) ∙ ap (λ k. n + k) (sym (sum_cons u us))))
      (append_assoc offsets (capped n ∷ []) (map capped (sums_before (n + u) us)))
      (append_assoc names (m.name ∷ []) (map (λ m. m.name) ms))

  pub layout_is : (ms : List Member) → are_members defs ms ≡ true → layout_from (kept_or_none layouts) 0 [] [] ms ≡ layout_of defs ms
  layout_is ms fit = from_is 0 [] [] ms fit ∙ same_layout (ap capped (zero-add (sum (member_units defs ms)))) refl refl

-- ---- a table that has more

module _ (defs more : List StructDef) (extends : Extends defs more) where
  -- what is stored of bodies that fit stays
  layouts_more : (ds : List StructDef) → ((s : ℕ) (ms : List Member) → body_of ds s ≡ Some ms → are_members defs ms ≡ true) → map (layout_in more) ds ≡ map (layout_in defs) ds
  layouts_more [] fit = refl
  layouts_more (d ∷ ds) fit =
      ap (λ l. l ∷ map (layout_in more) ds) (layout_in_more d.members (λ ms is. fit 0 ms is)) ∙ ap (λ ls. layout_in defs d ∷ ls) (layouts_more ds (λ s. fit (suc s)))
    where
      layout_in_more : (o : Option (List Member)) → ((ms : List Member) → o ≡ Some ms → are_members defs ms ≡ true) → option_map (layout_of more) o ≡ option_map (layout_of defs) o
      layout_in_more None fit = refl
      layout_in_more (Some ms) fit = ap Some (layout_of_more defs more (units_stay defs more extends) ms (fit ms refl))

  fit_more : (ms : List Member) → are_members defs ms ≡ true → are_members more ms ≡ true
  fit_more = are_members_more defs more (units_stay defs more extends) extends.longer

module _ (defs : List StructDef) (tags : List (List ℕ)) (layouts : List (Option Layout)) (laid : IsLaidOut defs tags layouts) (tag : List ℕ) (room : suc (length defs) < 2 ^ 32) where
  -- a declaration leaves a table laid out
  pub laid_declared : IsLaidOut (with_tag defs tag) (tags ++ tag ∷ []) (layouts ++ None ∷ [])
  laid_declared = record {
    few = let l : length (with_tag defs tag) ≡ suc (length defs) = length_tagged defs tag in omega arith;
    few_members = λ s ms body. laid.few_members s ms (sym (body_tagged defs tag s) ∙ body);
    named = ap (λ ts. ts ++ tag ∷ []) laid.named ∙ sym (map_tagged tag_of defs tag);
    stored = ap (λ ls. ls ++ None ∷ []) (laid.stored ∙ sym (layouts_more defs (with_tag defs tag) (extends_tagged defs tag) defs laid.members_fit))
        ∙ sym (map_tagged (layout_in (with_tag defs tag)) defs tag);
    members_fit = λ s ms body. fit_more defs (with_tag defs tag) (extends_tagged defs tag) ms (laid.members_fit s ms (sym (body_tagged defs tag s) ∙ body));
    shallow = λ s ms body.
        subst (λ k. is_some (struct_units k (with_tag defs tag) s) ≡ true) (sym (bodies_tagged defs tag))
        (covered (struct_units (bodies defs) defs s) (struct_units (bodies defs) (with_tag defs tag) s)
        (struct_units_more defs (with_tag defs tag) (extends_tagged defs tag).bodies (bodies defs) (bodies defs) (omega arith) s)
        (laid.shallow s ms (sym (body_tagged defs tag s) ∙ body)));
  }

module _ (defs : List StructDef) (s : ℕ) (ms : List Member) (below : s < length defs) (none : body_of defs s ≡ None) where
  body_stays_by : (t : ℕ) (ns : List Member) → (t ≡ s) ⊎ (t ≡ s → ⊥) → body_of defs t ≡ Some ns → body_of (with_body defs s ms) t ≡ Some ns
  body_stays_by t ns (inl same) body = let other : body_of defs t ≡ None = ap (body_of defs) same ∙ none in cc
  body_stays_by t ns (inr other) body = body_there defs s t ms other ∙ body

  pub extends_bodied : Extends defs (with_body defs s ms)
  extends_bodied = record {
    longer = let l : length (with_body defs s ms) ≡ length defs = length_bodied defs s ms in omega arith;
    bodies = λ t ns body. body_stays_by t ns (cases_eq t s) body;
  }

  module _ (shallow : Shallow (bodies defs) defs) (fit : are_members defs ms ≡ true) where
    -- what is known at every level is known at that of the bodies
    knows_by : (t : ℕ) (o : Option (List Member)) → body_of defs t ≡ o → Covers (struct_units (length defs) defs t) (struct_units (bodies defs) defs t)
    knows_by t None body n is = let nothing : struct_units (length defs) defs t ≡ None = unknown defs (length defs) t body in cc
    knows_by t (Some ns) body n is =
        let v : Known (struct_units (bodies defs) defs t) = known (struct_units (bodies defs) defs t) (shallow t ns body) in
        let same : struct_units (length defs) defs t ≡ Some v.value = struct_units_more defs defs (λ s ms is. is) (bodies defs) (length defs) (bodies_le defs) t v.value v.is in
        v.is ∙ sym same ∙ is

    knows : Knows (struct_units (length defs) defs) (struct_units (bodies defs) (with_body defs s ms))
    knows t n is =
        struct_units_more defs (with_body defs s ms) extends_bodied.bodies (bodies defs) (bodies defs) (omega arith) t n (knows_by t (body_of defs t) refl n is)

    -- the new body is one level deeper than what it holds
    shallow_here : is_some (struct_units (suc (bodies defs)) (with_body defs s ms) s) ≡ true
    unfolding exact_units
    shallow_here =
        ap (λ o. is_some o)
        (opened (with_body defs s ms) (bodies defs) s ms (body_here defs s ms below)
        ∙ total_more (struct_units (length defs) defs) (struct_units (bodies defs) (with_body defs s ms)) knows ms (sum (member_units defs ms)) (total_fit defs ms fit))

    shallow_there : (t : ℕ) (ns : List Member) → body_of defs t ≡ Some ns → is_some (struct_units (suc (bodies defs)) (with_body defs s ms) t) ≡ true
    shallow_there t ns body =
        covered (struct_units (bodies defs) defs t) (struct_units (suc (bodies defs)) (with_body defs s ms) t)
        (struct_units_more defs (with_body defs s ms) extends_bodied.bodies (bodies defs) (suc (bodies defs)) (omega arith) t)
        (shallow t ns body)

    shallow_by : (t : ℕ) (ns : List Member) → (t ≡ s) ⊎ (t ≡ s → ⊥) → body_of (with_body defs s ms) t ≡ Some ns → is_some (struct_units (suc (bodies defs)) (with_body defs s ms) t) ≡ true
    shallow_by t ns (inl same) body = subst (λ u. is_some (struct_units (suc (bodies defs)) (with_body defs s ms) u) ≡ true) (sym same) shallow_here
    shallow_by t ns (inr other) body = shallow_there t ns (sym (body_there defs s t ms other) ∙ body)

    pub shallow_bodied : Shallow (bodies (with_body defs s ms)) (with_body defs s ms)
    shallow_bodied t ns body =
        subst (λ k. is_some (struct_units k (with_body defs s ms) t) ≡ true) (sym (bodies_bodied defs s ms below none)) (shallow_by t ns (cases_eq t s) body)

  -- what holds of the new body and of each other holds of each
  each_by : (P : List Member → Type 0) → P ms → ((t : ℕ) (ns : List Member) → body_of defs t ≡ Some ns → P ns) → (t : ℕ) (ns : List Member) → (t ≡ s) ⊎ (t ≡ s → ⊥) → body_of (with_body defs s ms) t ≡ Some ns → P ns
  each_by P new old t ns (inl same) body =
      let here : body_of (with_body defs s ms) t ≡ Some ms = ap (body_of (with_body defs s ms)) same ∙ body_here defs s ms below in
      let is : ms ≡ ns = cc in
      subst P is new
  each_by P new old t ns (inr other) body = old t ns (sym (body_there defs s t ms other) ∙ body)

  pub each_bodied : (P : List Member → Type 0) → P ms → ((t : ℕ) (ns : List Member) → body_of defs t ≡ Some ns → P ns) → (t : ℕ) (ns : List Member) → body_of (with_body defs s ms) t ≡ Some ns → P ns
  each_bodied P new old t ns body = each_by P new old t ns (cases_eq t s) body

module _ (defs : List StructDef) (tags : List (List ℕ)) (layouts : List (Option Layout)) (laid : IsLaidOut defs tags layouts)
    (s : ℕ) (ms : List Member) (below : s < length defs) (none : body_of defs s ≡ None) (fit : are_members defs ms ≡ true) (few : length ms < 2 ^ 32) where
  -- a body leaves a table laid out
  pub laid_defined : (layout : Layout) → layout ≡ layout_from (kept_or_none layouts) 0 [] [] ms → IsLaidOut (with_body defs s ms) tags (set layouts s (Some layout))
  laid_defined layout is =
      let more : List StructDef = with_body defs s ms in
      let extends : Extends defs (with_body defs s ms) = extends_bodied defs s ms below none in
      let here : layout ≡ layout_of (with_body defs s ms) ms =
      is ∙ layout_is defs tags layouts laid ms fit ∙ sym (layout_of_more defs (with_body defs s ms) (units_stay defs (with_body defs s ms) extends) ms fit) in
      record {
        few = let l : length (with_body defs s ms) ≡ length defs = length_bodied defs s ms in let before : length defs < 2 ^ 32 = laid.few in omega arith;
        few_members = each_bodied defs s ms below none (λ ns. length ns < 2 ^ 32) few laid.few_members;
        named = laid.named ∙ sym (tags_bodied defs s ms);
        stored = ap (λ ls. set ls s (Some layout)) (laid.stored ∙ sym (layouts_more defs (with_body defs s ms) extends defs laid.members_fit))
            ∙ sym (layouts_bodied (with_body defs s ms) defs s ms layout here);
        members_fit = each_bodied defs s ms below none (λ ns. are_members (with_body defs s ms) ns ≡ true)
            (fit_more defs (with_body defs s ms) extends ms fit)
            (λ t ns body. fit_more defs (with_body defs s ms) extends ns (laid.members_fit t ns body));
        shallow = shallow_bodied defs s ms below none laid.shallow fit;
      }
