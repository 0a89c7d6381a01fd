-- What the readers of members, specs, type words and parameters answer is of the grammar, if that is so below.
use Rattle.std.proofs.Common.{◌≡◌, ◌≢◌, ℕ, zero, suc, max, Bool, true, false, ◌&&◌, List, [], ◌∷◌, ◌++◌, Some, refl, sym, ap, subst, ◌∙◌, arith, length, append_assoc}
use Rattle.std.proofs.lemmas.Bool.{false≢true}
use Rattle.c_tokens.specs.declared.token.Keyword.TheVariants as word
use Rattle.c_tokens.specs.declared.token.Kind.{Kind}
use Rattle.c_tokens.specs.declared.token.Kind.TheVariants.{Word, Name, Number, Text, Mark}
use Rattle.c_tokens.specs.declared.token.Mark.TheVariants as mark
use Rattle.c_tree.specs.declared.expression.AbstractDeclarator.{AbstractDeclarator}
use Rattle.c_tree.specs.declared.expression.Declarator.{Declarator}
use Rattle.c_tree.specs.declared.expression.MemberDecl.{MemberDecl, roll-MemberDecl}
use Rattle.c_tree.specs.declared.expression.Param.{Param}
use Rattle.c_tree.specs.declared.expression.Params.{Params}
use Rattle.c_tree.specs.declared.expression.Spec.{Spec}
use Rattle.c_tree.specs.Marks.{Kinds}
use Rattle.c_tree.specs.Grammar.{IsFree, SpecReads, MembersRead, DeclaratorsRead, DeclaratorReads, AbstractReads, TypeWordReads, ParamReads, ParamListReads, ParamsRead}
use Rattle.c_readers.specs.inner.Parser.{Parser, WithHeight, same_mark, same_word, is_word, sees, behind, separated}
use Rattle.c_readers.specs.inner.Readers.{Readers, is_type_name, free_name, member, members_from, members, struct_body, struct, spec_by, spec, type_word, looks_named, param, is_void_alone, params}
use Rattle.c_expr.specs.Theorems.{ReadsOnly, ClosesParenthesis, AreSound}
use Rattle.c_expr.proofs.TypeNames.{type_name_contains}
use Rattle.c_readers.specs.inner.ParserLemmas.{same_word_true, both_answer, mark_answer, tested, tested_at, eaten, ReadsPrefix, join, Found, found_all, found_more}
use Rattle.c_expr.proofs.soundness.Chains.{both_true, tree_answer, pure_answer, pure_holds, push, max_low, zero_low, above_low}
use Rattle.c_expr.proofs.SeparatedLists.{SeparatedRead, separated_found}
use Rattle.c_expr.proofs.soundness.Declarators.{free_name_is}

-- a declarator of some name
abbrev pub NamedReads : List (List ℕ) → ℕ → Kinds → Declarator → Type 0
NamedReads names h ts d = (x : List ℕ) × DeclaratorReads names h x ts d

pub declarators_read : {names : List (List ℕ)} {h : ℕ} {ts : Kinds} {ds : List Declarator} → SeparatedRead (NamedReads names) h ts ds → (xs : List (List ℕ)) × DeclaratorsRead names h xs ts ds
declarators_read (SeparatedRead.one_item h ts ds d is here) = (here.0 ∷ [], DeclaratorsRead.one_declarator _ _ _ _ d here.0 refl is here.1)
declarators_read (SeparatedRead.more_items h ts ds d others hd ho dts os hi split is here behind) =
    let o = declarators_read behind in (here.0 ∷ o.0, DeclaratorsRead.more_declarators _ _ _ _ d here.0 others o.0 hd ho dts os hi refl split is here.1 o.1)

pub params_read : {names : List (List ℕ)} {h : ℕ} {ts : Kinds} {ps : List Param} → SeparatedRead (ParamReads names) h ts ps → ParamListReads names h ts ps
params_read (SeparatedRead.one_item h ts ps p is here) = ParamListReads.one_param _ _ _ p is here
params_read (SeparatedRead.more_items h ts ps p others hp ho pts os hi split is here behind) = ParamListReads.more_params _ _ _ p others hp ho pts os hi split is here (params_read behind)

-- one member, with its semicolon
pub record MemberReads (names : List (List ℕ)) (h : ℕ) (ts : Kinds) (m : MemberDecl) : Type 0 where
  pub s : Spec
  pub xs : List (List ℕ)
  pub ds : List Declarator
  pub hs : ℕ
  pub hd : ℕ
  pub ss : Kinds
  pub dts : Kinds
  pub height : h ≡ max hs hd
  pub tokens : ts ≡ ss ++ dts ++ Mark mark.Semicolon ∷ []
  pub is : m ≡ roll-MemberDecl (record { spec = s; declarators = ds })
  pub spec : SpecReads names true hs ss s
  pub declarators : DeclaratorsRead names hd xs dts ds

max_three : (h hs hd hm ho : ℕ) → hm ≡ max hs hd → h ≡ max hm ho → h ≡ max hs (max hd ho)
max_three h hs hd hm ho one all = omega arith

-- a member before others
member_more : (names : List (List ℕ)) (hm ho : ℕ) (ts os : Kinds) (m : MemberDecl) (others : List MemberDecl) → MemberReads names hm ts m → MembersRead names ho os others → MembersRead names (max hm ho) (ts ++ os) (m ∷ others)
member_more names hm ho ts os m others r more =
    MembersRead.more_members _ _ _ r.s r.xs r.ds others r.hs r.hd ho r.ss r.dts os (max_three _ r.hs r.hd hm ho r.height refl)
    (ap (λ us. us ++ os) r.tokens ∙ append_assoc (r.ss ++ r.dts) (Mark mark.Semicolon ∷ []) os) (ap (λ z. z ∷ others) r.is) r.spec r.declarators more

-- members, and the brace behind them
abbrev pub BodyReads : List (List ℕ) → ℕ → Kinds → List MemberDecl → Type 0
BodyReads names h ts members = (ms : Kinds) × (ts ≡ ms ++ Mark mark.RightBrace ∷ []) × (members ≢ []) × MembersRead names h ms members

-- the rest of a spec whose tag this is
abbrev pub TagReads : List (List ℕ) → Bool → List ℕ → ℕ → Kinds → Spec → Type 0
TagReads names bodies x h ts s = bodies ≡ true → IsFree names x → SpecReads names bodies h (Word word.Struct ∷ Name x ∷ ts) s

module _ (names : List (List ℕ)) (n : ℕ) (inner : Readers) (below : AreSound names n inner) where
  member_reads : ReadsOnly (member names inner) n (MemberReads names)
  unfolding member
  member_reads ts m h rest is = tree_answer (inner.spec true) (below.spec true) ts _ _ is (λ s hs ks ss split low spec_here go.
      tree_answer (separated inner.declarator) (separated_found (NamedReads names) inner.declarator n below.declarator) ks _ _ go (λ ds hd us dts cut short ds_here go.
      mark_answer mark.Semicolon us _ _ go (λ vs close last.
      let d = declarators_read ds_here in
      pure_answer (MemberReads names) n ts last (
        ss ++ dts ++ Mark mark.Semicolon ∷ [],
        join (ss ++ dts) (Mark mark.Semicolon ∷ []) vs (join ss dts us split cut) close,
        max_low _ _ _ low short,
        record { s = s; xs = d.0; ds = ds; hs = hs; hd = hd; ss = ss; dts = dts; height = refl; tokens = refl; is = refl; spec = spec_here; declarators = d.1 },
      ))))

  members_from_found : (k : ℕ) (found : List MemberDecl) (h : ℕ) (ts : Kinds) (all : List MemberDecl) (H : ℕ) (rest : Kinds) → members_from names inner k found h ts ≡ Some ((all, H), rest) → Found (BodyReads names) n found h ts all H rest
  unfolding members_from
  members_from_found zero found h ts all H rest is = cc
  members_from_found (suc k) found h ts all H rest is = tree_answer (member names inner) member_reads ts _ _ is (λ m hm ks prefix split low here go.
      eaten mark.RightBrace ks _ _ _ go
      (λ us close last. pure_holds (λ all H rest. Found (BodyReads names) n found h ts all H rest) last (
        m ∷ [],
        max hm 0,
        (prefix ++ []) ++ Mark mark.RightBrace ∷ [],
        refl,
        omega arith,
        join (prefix ++ []) (Mark mark.RightBrace ∷ []) us (join prefix [] ks split refl) close,
        max_low _ _ _ low (zero_low n),
        (prefix ++ [], refl, (λ none. cc), member_more names hm 0 prefix [] m [] here (MembersRead.no_member _ _ _ refl refl refl)),
      ))
      (λ none more.
      found_more found h m hm prefix ks split low
      (λ ho os others read. (prefix ++ read.0, ap (λ us. prefix ++ us) read.1 ∙ sym (append_assoc prefix read.0 (Mark mark.RightBrace ∷ [])), (λ none. cc), member_more names hm ho prefix read.0 m others here read.3))
      (members_from_found k (found ++ m ∷ []) (max h hm) ks all H rest more)))

  members_read : ReadsOnly (members names inner) n (BodyReads names)
  unfolding members
  members_read ts all H rest is = found_all (members_from_found (length ts) [] 0 ts all H rest is)

  pub struct_body_reads : (bodies : Bool) (x : List ℕ) → ReadsOnly (struct_body names inner x) (suc n) (TagReads names bodies x)
  unfolding struct_body
  struct_body_reads bodies x ts s h rest is = mark_answer mark.LeftBrace ts _ _ is (λ ks begin go.
      tree_answer (members names inner) members_read ks _ _ go (λ ms hm us prefix split low body last.
      pure_answer (TagReads names bodies x) (suc n) ts last (
        Mark mark.LeftBrace ∷ prefix,
        push prefix us begin split,
        above_low _ n low,
        λ may free. SpecReads.body _ _ _ _ x hm body.0 ms may refl free (ap (λ us. Word word.Struct ∷ Name x ∷ Mark mark.LeftBrace ∷ us) body.1) refl body.2 body.3,
      )))

  pub type_word_reads : ReadsOnly (type_word names inner) (suc n) (TypeWordReads names)
  unfolding type_word
  type_word_reads ts t h rest is = tree_answer (inner.spec false) (below.spec false) ts _ _ is (λ s hs ks ss split low spec_here go.
      tree_answer inner.abstract below.abstract ks _ _ go (λ a ha us ats cut short here last.
      pure_answer (TypeWordReads names) (suc n) ts last (ss ++ ats, join ss ats us split cut, above_low _ n (max_low _ _ _ low short), TypeWordReads.type_word _ _ _ s a hs ha ss ats refl refl refl spec_here here)))

-- ---- specs, where the bodies in them are at most so deep

module _ (names : List (List ℕ)) (deep : ℕ) (inner : Readers) (body : (bodies : Bool) (x : List ℕ) → ReadsOnly (struct_body names inner x) deep (TagReads names bodies x)) where
  struct_reads : (bodies : Bool) → ReadsOnly (struct names inner bodies) deep (λ h ts s. SpecReads names bodies h (Word word.Struct ∷ ts) s)
  unfolding struct
  struct_reads bodies ts s h rest is = both_answer (free_name names ts) _ _ is (λ x ks seen go.
      let f = free_name_is names ts x ks seen in
      tested_at (bodies && sees mark.LeftBrace ks) _ _ ks _ go
      (λ has go. let b = body bodies x ks s h rest go in (Name x ∷ b.0, push b.0 rest f.1 b.1, b.2, b.3 (both_true bodies (sees mark.LeftBrace ks) has).0 f.0))
      (λ none last. pure_answer (λ h ts s. SpecReads names bodies h (Word word.Struct ∷ ts) s) deep ts last (Name x ∷ [], f.1, zero_low deep, SpecReads.tag _ _ _ _ x refl f.0 refl refl)))

  spec_by_reads : (bodies : Bool) (k : Kind) (ks : Kinds) (s : Spec) (h : ℕ) (rest : Kinds) → spec_by names inner bodies k ks ≡ Some ((s, h), rest) → ReadsPrefix (SpecReads names bodies) deep (k ∷ ks) s h rest
  spec_by_reads bodies (Word word.Int) ks s h rest is = pure_answer (SpecReads names bodies) deep _ is (Word word.Int ∷ [], refl, zero_low deep, SpecReads.int _ _ _ _ refl refl refl)
  spec_by_reads bodies (Word word.Char) ks s h rest is = pure_answer (SpecReads names bodies) deep _ is (Word word.Char ∷ [], refl, zero_low deep, SpecReads.char _ _ _ _ refl refl refl)
  spec_by_reads bodies (Word word.Void) ks s h rest is = pure_answer (SpecReads names bodies) deep _ is (Word word.Void ∷ [], refl, zero_low deep, SpecReads.void _ _ _ _ refl refl refl)
  spec_by_reads bodies (Word word.Struct) ks s h rest is = let b = struct_reads bodies ks s h rest is in (Word word.Struct ∷ b.0, push b.0 rest refl b.1, b.2, b.3)
  spec_by_reads bodies (Name x) ks s h rest is = tested_at (is_type_name names x) _ _ ks _ is
      (λ known last. pure_answer (SpecReads names bodies) deep _ last (Name x ∷ [], refl, zero_low deep, SpecReads.type_name _ _ _ _ x refl (type_name_contains names x known) refl refl))
      (λ free none. cc)
  spec_by_reads bodies _ ks s h rest is = cc

  pub spec_reads : (bodies : Bool) → ReadsOnly (spec names inner bodies) deep (SpecReads names bodies)
  unfolding spec
  spec_reads bodies [] s h rest is = cc
  spec_reads bodies (k ∷ ks) s h rest is = spec_by_reads bodies k ks s h rest is

-- ---- parameters

module _ (names : List (List ℕ)) (deep : ℕ) (specs : Bool → Parser (WithHeight Spec)) (declarators : Parser (WithHeight Declarator)) (abstracts : Parser (WithHeight AbstractDeclarator))
    (spec_is : (bodies : Bool) → ReadsOnly (specs bodies) deep (SpecReads names bodies)) (declarator_is : ReadsOnly declarators deep (NamedReads names)) (abstract_is : ReadsOnly abstracts deep (AbstractReads names)) where
  void_first : (k : Kind) (ks : Kinds) → is_void_alone names specs declarators abstracts (k ∷ ks) ≡ true → k ∷ ks ≡ Word word.Void ∷ ks
  void_first (Word w) ks is = ap (λ v. Word v ∷ ks) (same_word_true w word.Void (both_true (is_word word.Void (Word w)) (sees mark.RightParenthesis ks) is).0)
  void_first (Name x) ks is = cc
  void_first (Number n) ks is = cc
  void_first (Text b) ks is = cc
  void_first (Mark m) ks is = cc

  void_alone : (ts : Kinds) → is_void_alone names specs declarators abstracts ts ≡ true → ts ≡ Word word.Void ∷ behind ts
  void_alone [] is = cc
  void_alone (k ∷ ks) is = void_first k ks is

  alone_is : (ts prefix rest ks : Kinds) → ts ≡ prefix ++ rest → prefix ≡ Word word.Void ∷ [] → rest ≡ Mark mark.RightParenthesis ∷ ks → is_void_alone names specs declarators abstracts ts ≡ true
  unfolding same_word same_mark
  alone_is ts prefix rest ks split is close = subst (λ us. is_void_alone names specs declarators abstracts us ≡ true) (sym (split ∙ ap (λ us. us ++ rest) is ∙ ap (λ us. Word word.Void ∷ us) close)) refl

  param_reads : ReadsOnly (param names specs declarators abstracts) deep (ParamReads names)
  unfolding param
  param_reads ts p h rest is = tree_answer (specs true) (spec_is true) ts _ _ is (λ s hs ks ss split low spec_here go.
      tested_at (looks_named names ks) _ _ ks _ go
      (λ has go. tree_answer declarators declarator_is ks _ _ go (λ d hd us ds cut short here last.
      pure_answer (ParamReads names) deep ts last (ss ++ ds, join ss ds us split cut, max_low _ _ _ low short, ParamReads.named _ _ _ s d here.0 hs hd ss ds refl refl refl spec_here here.1)))
      (λ none go. tree_answer abstracts abstract_is ks _ _ go (λ a ha us ats cut short here last.
      pure_answer (ParamReads names) deep ts last (ss ++ ats, join ss ats us split cut, max_low _ _ _ low short, ParamReads.unnamed _ _ _ s a hs ha ss ats refl refl refl spec_here here))))

  pub params_reads : (ts : Kinds) (p : Params) (h : ℕ) (rest : Kinds) → ClosesParenthesis rest → params names specs declarators abstracts ts ≡ Some ((p, h), rest) → ReadsPrefix (ParamsRead names) deep ts p h rest
  unfolding params
  params_reads ts p h rest closes is = tested (sees mark.RightParenthesis ts) _ _ _ is
      (λ none last. pure_answer (ParamsRead names) deep ts last ([], refl, zero_low deep, ParamsRead.nothing _ _ _ refl refl refl))
      (λ some go. tested (is_void_alone names specs declarators abstracts ts) _ _ _ go
      (λ void last. pure_answer (ParamsRead names) deep ts last (Word word.Void ∷ [], void_alone ts void, zero_low deep, ParamsRead.void_alone _ _ _ refl refl refl))
      (λ no_void go. tree_answer (separated (param names specs declarators abstracts)) (separated_found (ParamReads names) (param names specs declarators abstracts) deep param_reads) ts _ _ go (λ ps hp us prefix split low here last.
      pure_holds (λ p h rest. ClosesParenthesis rest → ReadsPrefix (ParamsRead names) deep ts p h rest) last
      (λ closes. (prefix, split, low, ParamsRead.some _ _ _ ps (λ is. false≢true (sym no_void ∙ alone_is ts prefix us closes.0 split is closes.1)) refl (params_read here))) closes)))
