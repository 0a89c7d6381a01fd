-- The parts behind an operand are taken as the grammar has them.
use Rattle.std.proofs.Common.{◌≡◌, ℕ, ◌+◌, ◌≤◌, max, false, List, ◌∷◌, ◌++◌, Some, refl, arith}
use Rattle.c_tokens.specs.declared.token.Kind.TheVariants.{Name, Mark}
use Rattle.c_tokens.specs.declared.token.Mark.TheVariants as mark
use Rattle.c_tree.specs.declared.operator.AssignOperator.{AssignOperator}
use Rattle.c_tree.specs.declared.operator.AssignOperator.TheVariants as assign
use Rattle.c_tree.specs.declared.operator.BinaryOperator.{BinaryOperator}
use Rattle.c_tree.specs.declared.operator.BinaryOperator.TheVariants as binary
use Rattle.c_tree.specs.declared.expression.Expr.{Expr}
use Rattle.c_tree.specs.Marks.{Kinds, assign_mark, binary_mark, assign_level, conditional_level, binary_level}
use Rattle.c_tree.specs.Grammar.{IsFree, ExprReads, ArgumentsRead, ArgumentListReads}
use Rattle.c_readers.specs.declared.operand.Continuation.TheVariants as goes
use Rattle.c_readers.specs.declared.operand.Part.TheVariants as part_as
use Rattle.c_readers.specs.inner.Parser.{same_mark}
use Rattle.c_readers.specs.inner.Readers.{Readers, continuation, part, arguments, index, arms, free_name}
use Rattle.c_expr.specs.Theorems.{AreComplete, Stops}
use Rattle.c_readers.specs.inner.ParserLemmas.{sees_is, after_is, after_other, expect_is}
use Rattle.c_expr.proofs.TypeNames.{free_is_no_type_name}
use Rattle.c_expr.specs.FirstTokens.{Begins, CanBeginExpression}
use Rattle.c_expr.specs.inner.FirstTokensLemmas.{Begins-append, Begins-same, expression_lacks, stops_at}
use Rattle.c_expr.proofs.FormsBegin.{ExprReads-begins, ExprReads-some}
use Rattle.c_expr.proofs.SeparatedLists.{SeparatedRead, TakesItems, separated_takes, length_some}

-- ---- marks

pub assign_goes : (op : AssignOperator) (ks : Kinds) → continuation (Mark (assign_mark op) ∷ ks) ≡ Some (goes.Assign op)
assign_goes assign.Assign ks = refl
assign_goes assign.Add ks = refl
assign_goes assign.Subtract ks = refl
assign_goes assign.Multiply ks = refl
assign_goes assign.Divide ks = refl
assign_goes assign.Remainder ks = refl
assign_goes assign.BitwiseAnd ks = refl
assign_goes assign.BitwiseOr ks = refl
assign_goes assign.BitwiseExclusiveOr ks = refl
assign_goes assign.ShiftLeft ks = refl
assign_goes assign.ShiftRight ks = refl

pub binary_goes : (op : BinaryOperator) (ks : Kinds) → continuation (Mark (binary_mark op) ∷ ks) ≡ Some (goes.Binary op)
binary_goes binary.LogicalOr ks = refl
binary_goes binary.LogicalAnd ks = refl
binary_goes binary.BitwiseOr ks = refl
binary_goes binary.BitwiseExclusiveOr ks = refl
binary_goes binary.BitwiseAnd ks = refl
binary_goes binary.Equal ks = refl
binary_goes binary.NotEqual ks = refl
binary_goes binary.Less ks = refl
binary_goes binary.Greater ks = refl
binary_goes binary.LessEqual ks = refl
binary_goes binary.GreaterEqual ks = refl
binary_goes binary.ShiftLeft ks = refl
binary_goes binary.ShiftRight ks = refl
binary_goes binary.Add ks = refl
binary_goes binary.Subtract ks = refl
binary_goes binary.Multiply ks = refl
binary_goes binary.Divide ks = refl
binary_goes binary.Remainder ks = refl

no_comma : same_mark mark.RightParenthesis mark.Comma ≡ false
unfolding same_mark
no_comma = refl

-- ---- parts

module _ (names : List (List ℕ)) (n : ℕ) (r : Readers) (full : AreComplete names n r) where
  pub index_taken : {h : ℕ} {ts : Kinds} {i : Expr} → h ≤ n → ExprReads names assign_level h ts i → (rest : Kinds) → part names r goes.Index (ts ++ Mark mark.RightBracket ∷ rest) ≡ Some ((part_as.Index i, h), rest)
  unfolding part index
  index_taken {h} {ts} {i} deep read rest =
      rw (full.expr assign_level h ts i (omega arith) deep read (Mark mark.RightBracket ∷ rest) (stops_at assign_level mark.RightBracket rest refl)) (rw (expect_is mark.RightBracket rest))

  pub binary_taken : (op : BinaryOperator) (ts : Kinds) (b : Expr) (h : ℕ) (rest : Kinds) → r.expr (1 + binary_level op) ts ≡ Some ((b, h), rest) → part names r (goes.Binary op) ts ≡ Some ((part_as.Binary op b, h), rest)
  unfolding part
  binary_taken op ts b h rest is = rw is

  pub assign_taken : (op : AssignOperator) (ts : Kinds) (b : Expr) (h : ℕ) (rest : Kinds) → r.expr assign_level ts ≡ Some ((b, h), rest) → part names r (goes.Assign op) ts ≡ Some ((part_as.Assign op b, h), rest)
  unfolding part
  assign_taken op ts b h rest is = rw is

  -- behind the question mark
  pub conditional_taken : {ha : ℕ} {ats : Kinds} {a : Expr} → ha ≤ n → ExprReads names assign_level ha ats a → (ts : Kinds) (b : Expr) (h : ℕ) (rest : Kinds) → r.expr conditional_level ts ≡ Some ((b, h), rest)
      → part names r goes.Conditional (ats ++ Mark mark.Colon ∷ ts) ≡ Some ((part_as.Conditional a b, max ha h), rest)
  unfolding part arms
  conditional_taken {ha} {ats} {a} deep read ts b h rest is =
      rw (full.expr assign_level ha ats a (omega arith) deep read (Mark mark.Colon ∷ ts) (stops_at assign_level mark.Colon ts refl)) (rw (expect_is mark.Colon ts) (rw is))

  name_taken : (x : List ℕ) (rest : Kinds) → IsFree names x → free_name names (Name x ∷ rest) ≡ Some (x, rest)
  unfolding free_name
  name_taken x rest free = rw (free_is_no_type_name names x free)

  pub member_taken : (x : List ℕ) (rest : Kinds) → IsFree names x → part names r goes.Member (Name x ∷ rest) ≡ Some ((part_as.Member x, 0), rest)
  unfolding part
  member_taken x rest free = rw (name_taken x rest free)

  pub arrow_taken : (x : List ℕ) (rest : Kinds) → IsFree names x → part names r goes.Arrow (Name x ∷ rest) ≡ Some ((part_as.Arrow x, 0), rest)
  unfolding part
  arrow_taken x rest free = rw (name_taken x rest free)

  pub increment_taken : (rest : Kinds) → part names r goes.Increment rest ≡ Some ((part_as.Increment, 0), rest)
  unfolding part
  increment_taken rest = refl

  pub decrement_taken : (rest : Kinds) → part names r goes.Decrement rest ≡ Some ((part_as.Decrement, 0), rest)
  unfolding part
  decrement_taken rest = refl

  arguments_separated : {h : ℕ} {ts : Kinds} {es : List Expr} → ArgumentListReads names h ts es → SeparatedRead (λ h ts e. ExprReads names assign_level h ts e) h ts es
  arguments_separated (ArgumentListReads.one_argument h ts es e ei read) = SeparatedRead.one_item h ts es e ei read
  arguments_separated (ArgumentListReads.more_arguments h ts es e others he ho ets os hi is ei read more) = SeparatedRead.more_items h ts es e others he ho ets os hi is ei read (arguments_separated more)

  argument_items : TakesItems (λ h ts e. ExprReads names assign_level h ts e) (r.expr assign_level) (Stops assign_level) n
  argument_items = record {
    takes = λ h ts x deep read. full.expr assign_level h ts x (omega arith) deep read;
    some = λ h ts x read. length_some ts (ExprReads-some read);
    comma = λ ks. stops_at assign_level mark.Comma ks refl;
  }

  ArgumentList-begins : {h : ℕ} {ts : Kinds} {es : List Expr} → ArgumentListReads names h ts es → Begins (CanBeginExpression names) ts
  ArgumentList-begins (ArgumentListReads.one_argument h ts es e ei read) = ExprReads-begins read
  ArgumentList-begins (ArgumentListReads.more_arguments h ts es e others he ho ets os hi is ei read more) = Begins-same _ is (Begins-append _ ets _ (ExprReads-begins read))

  -- behind the parenthesis of a call
  arguments_taken : {h : ℕ} {ts : Kinds} {es : List Expr} → h ≤ n → ArgumentsRead names h ts es → (rest : Kinds) → arguments names r (ts ++ Mark mark.RightParenthesis ∷ rest) ≡ Some ((es, h), rest)
  unfolding arguments
  arguments_taken deep (ArgumentsRead.no_argument h ts es hi is ei) rest = rw (hi, is, ei) (rw (sees_is mark.RightParenthesis rest) (rw (after_is mark.RightParenthesis rest)))
  arguments_taken deep (ArgumentsRead.some_arguments h ts es read) rest =
      let all = ts ++ Mark mark.RightParenthesis ∷ rest in
      let other = expression_lacks names mark.RightParenthesis all refl (Begins-append _ ts _ (ArgumentList-begins read)) in
      rw other (rw (after_other mark.RightParenthesis all other)
      (rw (separated_takes argument_items (arguments_separated read) deep (Mark mark.RightParenthesis ∷ rest) (stops_at assign_level mark.RightParenthesis rest refl) no_comma) (rw (expect_is mark.RightParenthesis rest))))

  pub call_taken : {h : ℕ} {ts : Kinds} {es : List Expr} → h ≤ n → ArgumentsRead names h ts es → (rest : Kinds) → part names r goes.Call (ts ++ Mark mark.RightParenthesis ∷ rest) ≡ Some ((part_as.Call es, h), rest)
  unfolding part
  call_taken deep read rest = rw (arguments_taken deep read rest)
