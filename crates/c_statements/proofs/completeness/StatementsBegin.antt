-- What statements, declarations and initialisers begin with and what stands behind them, as the readers' tests see it.
use Rattle.std.proofs.Common.{◌≡◌, ℕ, ◌<◌, ◌⊎◌, inl, inr, Bool, true, false, IsTrue, List, [], ◌∷◌, ◌++◌, length, Option, None, refl, sym, ap, subst, arith}
use Rattle.c_tokens.specs.declared.token.Keyword.{Keyword}
use Rattle.c_tokens.specs.declared.token.Keyword.TheVariants as word
use Rattle.c_tokens.specs.declared.token.Kind.{Kind}
use Rattle.c_tokens.specs.declared.token.Kind.TheVariants.{Word, Name, Number, Text, Mark}
use Rattle.c_tokens.specs.declared.token.Mark.{Mark as MarkName}
use Rattle.c_tokens.specs.declared.token.Mark.TheVariants as mark
use Rattle.c_tree.specs.declared.expression.Declarator.{Declarator}
use Rattle.c_tree.specs.declared.statement.FullExpr.{FullExpr}
use Rattle.c_tree.specs.declared.statement.Block.{Block}
use Rattle.c_tree.specs.declared.statement.Init.{Init}
use Rattle.c_tree.specs.declared.statement.Stmt.{Stmt}
use Rattle.c_tree.specs.Marks.{Kinds}
use Rattle.c_tree.specs.Grammar.{IsFree, DeclaratorReads}
use Rattle.c_tree.specs.Statements.{InitReads, InitsRead, OptionReads, StmtReads, BlockReads}
use Rattle.c_readers.specs.inner.Parser.{same_mark, same_word}
use Rattle.c_readers.specs.inner.Readers.{begins_spec, continuation_of}
use Rattle.c_expr.specs.Theorems.{Lacks, LacksSuffix, Stops, FirstTokens}
use Rattle.c_expr.specs.FirstTokens.{Begins, mark_begins_expression, word_begins_spec, CanBeginExpression, CanBeginSpec}
use Rattle.c_expr.specs.inner.FirstTokensLemmas.{Begins-append, Begins-same, OpensNothing, brace_opens_nothing, declarator_lacks, expression_lacks, other_mark, stops_at}
use Rattle.c_readers.specs.inner.ParserLemmas.{same_word_true}
use Rattle.c_statements.specs.inner.Readers.{sees_word}

-- ---- words

other_word_by : (P : Keyword → Bool) (w v : Keyword) (b : Bool) → same_word v w ≡ b → P w ≡ false → P v ≡ true → b ≡ false
other_word_by P w v true is no_w yes_v = let same : v ≡ w = same_word_true v w is in let e = ap P same in cc
other_word_by P w v false is no_w yes_v = refl

other_word : (P : Keyword → Bool) (w v : Keyword) → P w ≡ false → P v ≡ true → same_word v w ≡ false
other_word P w v no_w yes_v = other_word_by P w v (same_word v w) refl no_w yes_v

-- ---- specs

pub spec_no_word : (names : List (List ℕ)) (w : Keyword) (ts : Kinds) → word_begins_spec w ≡ false → Begins (CanBeginSpec names) ts → sees_word w ts ≡ false
spec_no_word names w [] none b = refl
spec_no_word names w (Word v ∷ ks) none b = other_word word_begins_spec w v none b
spec_no_word names w (Name x ∷ ks) none b = refl
spec_no_word names w (Number n ∷ ks) none b = refl
spec_no_word names w (Text bytes ∷ ks) none b = refl
spec_no_word names w (Mark m ∷ ks) none b = refl

pub begins_some : (P : Kind → Type 0) (ts : Kinds) → Begins P ts → 0 < length ts
begins_some P [] b = absurd b
begins_some P (k ∷ ks) b = omega arith

-- ---- declarators

semicolon_opens_nothing : OpensNothing mark.Semicolon
unfolding same_mark
semicolon_opens_nothing = record { parenthesis = refl; star = refl; bracket = refl }

module _ {names : List (List ℕ)} (first : FirstTokens names) where
  declarator_without : {h : ℕ} {x : List ℕ} {ds : Kinds} {d : Declarator} (m : MarkName) → OpensNothing m → (rest : Kinds) → DeclaratorReads names h x ds d → Lacks m (ds ++ rest)
  declarator_without {ds = ds} m opens rest read = declarator_lacks names m (ds ++ rest) opens (Begins-append _ ds rest (first.declarator read))

  -- what follows a spec is a declarator
  pub declarator_no_brace : {h : ℕ} {x : List ℕ} {ds : Kinds} {d : Declarator} (rest : Kinds) → DeclaratorReads names h x ds d → Lacks mark.LeftBrace (ds ++ rest)
  declarator_no_brace rest read = declarator_without mark.LeftBrace brace_opens_nothing rest read

  pub declarator_no_semicolon : {h : ℕ} {x : List ℕ} {ds : Kinds} {d : Declarator} (rest : Kinds) → DeclaratorReads names h x ds d → Lacks mark.Semicolon (ds ++ rest)
  declarator_no_semicolon rest read = declarator_without mark.Semicolon semicolon_opens_nothing rest read

-- a mark that may stand behind a declarator in a declaration
abbrev pub follows_declarator : MarkName → Bool
follows_declarator mark.Assign = true
follows_declarator mark.Comma = true
follows_declarator mark.Semicolon = true
follows_declarator _ = false

-- such a mark comes
abbrev pub GoesOn : Kinds → Type 0
GoesOn ts = (m : MarkName) × (ks : Kinds) × (ts ≡ Mark m ∷ ks) × IsTrue (follows_declarator m)

pub goes_on_lacks : (m : MarkName) (ts : Kinds) → follows_declarator m ≡ false → GoesOn ts → Lacks m ts
goes_on_lacks m ts none on = rw on.2 (other_mark follows_declarator m on.0 none on.3)

pub no_suffix : (ts : Kinds) → GoesOn ts → LacksSuffix ts
no_suffix ts on = (goes_on_lacks mark.LeftBracket ts refl on, goes_on_lacks mark.LeftParenthesis ts refl on)

-- a block behind a declarator begins no suffix
pub brace_no_suffix : (ks : Kinds) → LacksSuffix (Mark mark.LeftBrace ∷ ks)
unfolding same_mark
brace_no_suffix ks = (refl, refl)

-- a comma or a semicolon, which end an initialiser
abbrev pub ends_init : MarkName → Bool
ends_init mark.Comma = true
ends_init mark.Semicolon = true
ends_init _ = false

abbrev pub Ends : Kinds → Type 0
Ends ts = (m : MarkName) × (ks : Kinds) × (ts ≡ Mark m ∷ ks) × IsTrue (ends_init m)

pub comma_ends : (ks : Kinds) → Ends (Mark mark.Comma ∷ ks)
comma_ends ks = (mark.Comma, ks, refl, refl)

pub semicolon_ends : (ks : Kinds) → Ends (Mark mark.Semicolon ∷ ks)
semicolon_ends ks = (mark.Semicolon, ks, refl, refl)

end_follows : (m : MarkName) → ends_init m ≡ true → follows_declarator m ≡ true
end_follows mark.Comma b = refl
end_follows mark.Semicolon b = refl
end_follows m b = cc

pub ends_goes_on : (ts : Kinds) → Ends ts → GoesOn ts
ends_goes_on ts e = (e.0, e.1, e.2, end_follows e.0 e.3)

end_continues : (m : MarkName) → ends_init m ≡ true → continuation_of m ≡ None
end_continues mark.Comma b = refl
end_continues mark.Semicolon b = refl
end_continues m b = cc

pub ends_stops : (ts : Kinds) → Ends ts → Stops 0 ts
ends_stops ts e = subst (λ ks. Stops 0 ks) (sym e.2) (stops_at 0 e.0 e.1 (end_continues e.0 e.3))

pub ends_no_assign : (ts : Kinds) → Ends ts → Lacks mark.Assign ts
ends_no_assign ts e = rw e.2 (other_mark ends_init mark.Assign e.0 refl e.3)

pub semicolon_no_comma : (ks : Kinds) → Lacks mark.Comma (Mark mark.Semicolon ∷ ks)
unfolding same_mark
semicolon_no_comma ks = refl

pub semicolon_no_brace : (ks : Kinds) → Lacks mark.LeftBrace (Mark mark.Semicolon ∷ ks)
unfolding same_mark
semicolon_no_brace ks = refl

-- ---- initialisers

abbrev pub CanBeginInit : List (List ℕ) → Kind → Type 0
CanBeginInit names k = CanBeginExpression names k ⊎ (k ≡ Mark mark.LeftBrace)

pub begins_either : (P Q : Kind → Type 0) (ts : Kinds) → ((k : Kind) → P k → Q k) → Begins P ts → Begins Q ts
begins_either P Q [] f b = b
begins_either P Q (k ∷ ks) f b = f k b

module _ {names : List (List ℕ)} (first : FirstTokens names) where
  pub InitReads-begins : {h : ℕ} {ts : Kinds} {i : Init} → InitReads names h ts i → Begins (CanBeginInit names) ts
  InitReads-begins (InitReads.by_expression h ts i e he hi ii read) = begins_either (CanBeginExpression names) (CanBeginInit names) ts (λ k b. inl b) (first.expression read)
  InitReads-begins (InitReads.by_braces h ts i parts hp ps hi is ii read) = Begins-same (CanBeginInit names) is (inr refl)

  pub InitsRead-begins : {h : ℕ} {ts : Kinds} {is : List Init} → InitsRead names h ts is → Begins (CanBeginInit names) ts
  InitsRead-begins (InitsRead.last_init h ts is i ii read) = InitReads-begins read
  InitsRead-begins (InitsRead.last_with_comma h ts is i its si ii read) = Begins-same _ si (Begins-append _ its _ (InitReads-begins read))
  InitsRead-begins (InitsRead.more_inits h ts is i others hi ho its os hh si ii read more) = Begins-same _ si (Begins-append _ its _ (InitReads-begins read))

pub init_no_brace : (names : List (List ℕ)) (ts : Kinds) → Begins (CanBeginInit names) ts → Lacks mark.RightBrace ts
unfolding same_mark
init_no_brace names [] b = refl
init_no_brace names (k ∷ ks) (inl b) = expression_lacks names mark.RightBrace (k ∷ ks) refl b
init_no_brace names (k ∷ ks) (inr is) = rw is

-- ---- statements

abbrev pub word_begins_statement : Keyword → Bool
word_begins_statement word.If = true
word_begins_statement word.While = true
word_begins_statement word.Do = true
word_begins_statement word.For = true
word_begins_statement word.Break = true
word_begins_statement word.Continue = true
word_begins_statement word.Return = true
word_begins_statement word.Sizeof = true
word_begins_statement _ = false

abbrev pub mark_begins_statement : MarkName → Bool
mark_begins_statement mark.LeftBrace = true
mark_begins_statement mark.Semicolon = true
mark_begins_statement m = mark_begins_expression m

abbrev pub CanBeginStatement : List (List ℕ) → Kind → Type 0
CanBeginStatement names (Word w) = IsTrue (word_begins_statement w)
CanBeginStatement names (Name x) = IsFree names x
CanBeginStatement names (Number n) = Unit {0}
CanBeginStatement names (Text bytes) = Unit {0}
CanBeginStatement names (Mark m) = IsTrue (mark_begins_statement m)

mark_expression_statement : (m : MarkName) → mark_begins_expression m ≡ true → mark_begins_statement m ≡ true
mark_expression_statement mark.LeftBrace b = refl
mark_expression_statement mark.Semicolon b = refl
mark_expression_statement m b = b

expression_is_statement : (names : List (List ℕ)) (k : Kind) → CanBeginExpression names k → CanBeginStatement names k
expression_is_statement names (Word w) b = rw b refl
expression_is_statement names (Name x) b = b
expression_is_statement names (Number n) b = b
expression_is_statement names (Text bytes) b = b
expression_is_statement names (Mark m) b = mark_expression_statement m b

module _ {names : List (List ℕ)} (first : FirstTokens names) where
  option_begins : {h : ℕ} {os : Kinds} {o : Option FullExpr} → OptionReads names h os o → Begins (CanBeginStatement names) (os ++ Mark mark.Semicolon ∷ [])
  option_begins (OptionReads.nothing h os o hi is oi) = Begins-same (CanBeginStatement names) {us = Mark mark.Semicolon ∷ []} (rw is refl) refl
  option_begins {os = os} (OptionReads.some h ts o e oi read) = Begins-append (CanBeginStatement names) os _ (begins_either _ (CanBeginStatement names) os (expression_is_statement names) (first.expression read))

  block_begins : {h : ℕ} {ts : Kinds} {b : Block} → BlockReads names h ts b → Begins (CanBeginStatement names) ts
  block_begins (BlockReads.braces h ts b items ps is bi read) = Begins-same (CanBeginStatement names) is refl

  pub StmtReads-begins : {closed : Bool} {h : ℕ} {ts : Kinds} {s : Stmt} → StmtReads names closed h ts s → Begins (CanBeginStatement names) ts
  StmtReads-begins (StmtReads.block closed h ts s b hb ci hi si read) = block_begins read
  StmtReads-begins (StmtReads.if_alone closed h ts s c then then_closed hc ht cs tts ci hi is si test body) = Begins-same (CanBeginStatement names) is refl
  StmtReads-begins (StmtReads.if_else closed h ts s c then otherwise hc ht ho cs tts os hi is si test body other) = Begins-same (CanBeginStatement names) is refl
  StmtReads-begins (StmtReads.while closed h ts s c body hc hb cs bs hi is si test read) = Begins-same (CanBeginStatement names) is refl
  StmtReads-begins (StmtReads.do_while closed h ts s body c body_closed hb hc bs cs ci hi is si read test) = Begins-same (CanBeginStatement names) is refl
  StmtReads-begins (StmtReads.for_loop closed h ts s f c step body hf hc hs hb fs cs ss bs hi is si first test more read) = Begins-same (CanBeginStatement names) is refl
  StmtReads-begins (StmtReads.break closed h ts s ci hi is si) = Begins-same (CanBeginStatement names) is refl
  StmtReads-begins (StmtReads.continue closed h ts s ci hi is si) = Begins-same (CanBeginStatement names) is refl
  StmtReads-begins (StmtReads.return closed h ts s o ho os ci hi is si read) = Begins-same (CanBeginStatement names) is refl
  StmtReads-begins (StmtReads.computes closed h ts s o ho os ci hi is si read) = Begins-same (CanBeginStatement names) is (option_begins read)

  pub statement_no_spec : (ts : Kinds) → Begins (CanBeginStatement names) ts → begins_spec names ts ≡ false
  statement_no_spec [] b = refl
  statement_no_spec (Word word.Int ∷ ks) b = cc
  statement_no_spec (Word word.Char ∷ ks) b = cc
  statement_no_spec (Word word.Void ∷ ks) b = cc
  statement_no_spec (Word word.Struct ∷ ks) b = cc
  statement_no_spec (Word w ∷ ks) b = refl
  statement_no_spec (Name x ∷ ks) b = first.no_spec_seen (Name x ∷ ks) b
  statement_no_spec (Number n ∷ ks) b = refl
  statement_no_spec (Text bytes ∷ ks) b = refl
  statement_no_spec (Mark m ∷ ks) b = refl

-- a closing brace comes, or an item of a block
abbrev pub CanFollowBlockItem : List (List ℕ) → Kind → Type 0
CanFollowBlockItem names k = (CanBeginStatement names k ⊎ CanBeginSpec names k) ⊎ (k ≡ Mark mark.RightBrace)

pub block_item_no_brace : (names : List (List ℕ)) (ts : Kinds) → Begins (λ k. CanBeginStatement names k ⊎ CanBeginSpec names k) ts → Lacks mark.RightBrace ts
block_item_no_brace names [] b = refl
block_item_no_brace names (Word w ∷ ks) b = refl
block_item_no_brace names (Name x ∷ ks) b = refl
block_item_no_brace names (Number n ∷ ks) b = refl
block_item_no_brace names (Text bytes ∷ ks) b = refl
block_item_no_brace names (Mark m ∷ ks) (inl b) = other_mark mark_begins_statement mark.RightBrace m refl b
block_item_no_brace names (Mark m ∷ ks) (inr b) = absurd b

pub no_else : (names : List (List ℕ)) (ts : Kinds) → Begins (CanFollowBlockItem names) ts → sees_word word.Else ts ≡ false
no_else names [] b = refl
no_else names (Word w ∷ ks) (inl (inl b)) = other_word word_begins_statement word.Else w refl b
no_else names (Word w ∷ ks) (inl (inr b)) = other_word word_begins_spec word.Else w refl b
no_else names (Word w ∷ ks) (inr is) = cc
no_else names (Name x ∷ ks) b = refl
no_else names (Number n ∷ ks) b = refl
no_else names (Text bytes ∷ ks) b = refl
no_else names (Mark m ∷ ks) b = refl
