-- How an operand goes on: that fuel above the count of tokens changes nothing, one step of growing, and the closing of parentheses.
use Rattle.std.proofs.Common.{◌≡◌, ℕ, zero, suc, ◌+◌, ◌<◌, ◌≤◌, true, false, not, ◌&&◌, List, [], ◌∷◌, Option, Some, None, refl, sym, ap, subst, ◌∙◌, arith, length, le-leb, lt-ltb}
use Rattle.std.proofs.lemmas.Bool.{lt-leb}
use Rattle.c_tokens.specs.declared.token.Kind.{Kind}
use Rattle.c_tokens.specs.declared.token.Kind.TheVariants.{Mark}
use Rattle.c_tokens.specs.declared.token.Mark.TheVariants as mark
use Rattle.c_tree.specs.declared.operator.BinaryOperator.{BinaryOperator}
use Rattle.c_tree.specs.declared.operator.BinaryOperator.TheVariants as binary
use Rattle.c_tree.specs.Marks.{Kinds, greatest_pairs, assign_level, binary_level}
use Rattle.c_readers.specs.declared.operand.Continuation.{Continuation}
use Rattle.c_readers.specs.declared.operand.Continuation.TheVariants as goes
use Rattle.c_readers.specs.declared.operand.Operand.{Operand}
use Rattle.c_readers.specs.declared.operand.Part.{Part}
use Rattle.c_readers.specs.inner.Parser.{Parser, Outcome, WithHeight, and_then, is_mark, behind}
use Rattle.c_readers.specs.inner.Readers.{Readers, continuation, whole_level, left_level, takes, taken, going_on, extended, bracketed, part, grown_by, grown_with, grow_from, grow, close, head, level_in, opened, begins_spec}
use Rattle.c_expr.specs.Theorems.{Stops}
use Rattle.c_readers.specs.inner.ParserLemmas.{expect_is, same_mark_is}

-- a part gives back no more tokens than it got
abbrev pub PartShrinks : List (List ℕ) → Readers → Type 0
PartShrinks names r = (c : Continuation) (ts : Kinds) (p : WithHeight Part) (rest : Kinds) → part names r c ts ≡ Some (p, rest) → length rest ≤ length ts

-- the loosest level that may stand there, with so many parentheses open
abbrev pub least_in : ℕ → ℕ → ℕ
least_in zero least = least
least_in (suc k) least = assign_level

-- ---- what may stand behind an operand

-- the continuation is none that an operand at the end of a form of this level goes on with
abbrev pub Past : ℕ → Continuation → Type 0
Past level c = (level ≤ 13 → whole_level c ≤ level) × (level ≤ 1 → whole_level c < level)

-- nothing comes that an operand at the end of a form of this level goes on with
abbrev pub Clear : ℕ → Kinds → Type 0
Clear level ts = (c : Continuation) → continuation ts ≡ Some c → Past level c

past_of : (level least : ℕ) (c : Continuation) → least ≤ level → whole_level c < least → Past level c
past_of level least c le lt = (λ _. omega arith, λ _. omega arith)

pub clear_of : (level least : ℕ) (ts : Kinds) → least ≤ level → Stops least ts → Clear level ts
clear_of level least ts le stops c is = past_of level least c le (stops c is)

pub clear_above : (level least : ℕ) (ts : Kinds) → least ≤ level → Clear least ts → Clear level ts
clear_above level least ts le clear c is = let p = clear c is in (λ h. omega (arith, p.0), λ h. omega (arith, p.1))

binary_between : (op : BinaryOperator) → (2 ≤ binary_level op) × (binary_level op ≤ 11)
binary_between binary.LogicalOr = (omega arith, omega arith)
binary_between binary.LogicalAnd = (omega arith, omega arith)
binary_between binary.BitwiseOr = (omega arith, omega arith)
binary_between binary.BitwiseExclusiveOr = (omega arith, omega arith)
binary_between binary.BitwiseAnd = (omega arith, omega arith)
binary_between binary.Equal = (omega arith, omega arith)
binary_between binary.NotEqual = (omega arith, omega arith)
binary_between binary.Less = (omega arith, omega arith)
binary_between binary.Greater = (omega arith, omega arith)
binary_between binary.LessEqual = (omega arith, omega arith)
binary_between binary.GreaterEqual = (omega arith, omega arith)
binary_between binary.ShiftLeft = (omega arith, omega arith)
binary_between binary.ShiftRight = (omega arith, omega arith)
binary_between binary.Add = (omega arith, omega arith)
binary_between binary.Subtract = (omega arith, omega arith)
binary_between binary.Multiply = (omega arith, omega arith)
binary_between binary.Divide = (omega arith, omega arith)
binary_between binary.Remainder = (omega arith, omega arith)

-- the levels of the binary operators
pub binary_least : (op : BinaryOperator) → 2 ≤ binary_level op
binary_least op = (binary_between op).0

pub binary_most : (op : BinaryOperator) → binary_level op ≤ 11
binary_most op = (binary_between op).1

pub past_left : (level : ℕ) (c : Continuation) → left_level c ≤ level → Past level c
past_left level goes.Index le = (λ h. omega arith, λ h. omega arith)
past_left level goes.Call le = (λ h. omega arith, λ h. omega arith)
past_left level goes.Member le = (λ h. omega arith, λ h. omega arith)
past_left level goes.Arrow le = (λ h. omega arith, λ h. omega arith)
past_left level goes.Increment le = (λ h. omega arith, λ h. omega arith)
past_left level goes.Decrement le = (λ h. omega arith, λ h. omega arith)
past_left level (goes.Binary op) le = let b = binary_least op in (λ h. omega arith, λ h. omega arith)
past_left level goes.Conditional le = (λ h. omega arith, λ h. omega arith)
past_left level (goes.Assign op) le = (λ h. omega arith, λ h. omega arith)

same_some : {A : Type 0} {a b : A} → Some a ≡ Some b → a ≡ b
same_some is = cc

-- an operand that may stand to the left of what comes is at its end
pub clear_before : (level : ℕ) (ts : Kinds) (c : Continuation) → continuation ts ≡ Some c → left_level c ≤ level → Clear level ts
clear_before level ts c is le d other = past_left level d (subst (λ x. left_level x ≤ level) (same_some (sym is ∙ other)) le)

-- no whole is of level 12 or 13
whole_apart : (c : Continuation) → whole_level c ≤ 13 → whole_level c < 12
whole_apart goes.Index le = omega arith
whole_apart goes.Call le = omega arith
whole_apart goes.Member le = omega arith
whole_apart goes.Arrow le = omega arith
whole_apart goes.Increment le = omega arith
whole_apart goes.Decrement le = omega arith
whole_apart (goes.Binary op) le = let b = binary_most op in omega arith
whole_apart goes.Conditional le = omega arith
whole_apart (goes.Assign op) le = omega arith

-- what the right operand of a form asks of what comes
pub stops_loose : (level right : ℕ) (ts : Kinds) → level ≤ 1 → right ≡ level → Clear level ts → Stops right ts
stops_loose level right ts le same clear c is = let p = clear c is in omega (arith, p.1)

pub stops_binary : (level right : ℕ) (ts : Kinds) → level ≤ 11 → right ≡ 1 + level → Clear level ts → Stops right ts
stops_binary level right ts le same clear c is = let p = clear c is in omega (arith, p.0)

pub stops_prefix : (level least : ℕ) (ts : Kinds) → level ≤ 13 → 12 ≤ least → Clear level ts → Stops least ts
stops_prefix level least ts le above clear c is = let p = clear c is in let h = whole_apart c (omega (arith, p.0)) in omega arith

-- ---- growing

going_by : (limit least : ℕ) (o : Operand) (ts : Kinds) (c : Option Continuation) → continuation ts ≡ c → going_on limit least o ts ≡ taken limit least o c
unfolding going_on
going_by limit least o ts c is = ap (taken limit least o) is

pub going_none : (limit least : ℕ) (o : Operand) (ts : Kinds) → continuation ts ≡ None → going_on limit least o ts ≡ None
going_none limit least o ts is = going_by limit least o ts None is

takes_is : (limit least : ℕ) (o : Operand) (c : Continuation) → least ≤ whole_level c → left_level c ≤ o.level → o.height ≤ limit → takes limit least o c ≡ true
takes_is limit least o c a b d = rw (le-leb least (whole_level c) a, le-leb (left_level c) o.level b, le-leb o.height limit d)

takes_not : (limit least : ℕ) (o : Operand) (c : Continuation) → whole_level c < least → takes limit least o c ≡ false
takes_not limit least o c a = rw (lt-leb least (whole_level c) a)

pub going_is : (limit least : ℕ) (o : Operand) (ts : Kinds) (c : Continuation) → continuation ts ≡ Some c → least ≤ whole_level c → left_level c ≤ o.level → o.height ≤ limit → going_on limit least o ts ≡ Some c
going_is limit least o ts c is a b d = going_by limit least o ts (Some c) is ∙ rw (takes_is limit least o c a b d)

going_not : (limit least : ℕ) (o : Operand) (ts : Kinds) (c : Option Continuation) → continuation ts ≡ c → Stops least ts → going_on limit least o ts ≡ None
going_not limit least o ts None is stops = going_none limit least o ts is
going_not limit least o ts (Some c) is stops = going_by limit least o ts (Some c) is ∙ rw (takes_not limit least o c (stops c is))

pub going_stops : (limit least : ℕ) (o : Operand) (ts : Kinds) → Stops least ts → going_on limit least o ts ≡ None
going_stops limit least o ts stops = going_not limit least o ts (continuation ts) refl stops

module _ (names : List (List ℕ)) (r : Readers) where
  grow_from_end : (limit least m : ℕ) (o : Operand) → grow_from names r limit least m o [] ≡ Some (o, [])
  unfolding grow_from going_on
  grow_from_end limit least zero o = refl
  grow_from_end limit least (suc m) o = refl

  enough_by : (more other : Operand → Parser Operand) (o : Operand) (ts : Kinds) (out : Outcome (WithHeight Part)) → ((p : WithHeight Part) (rest : Kinds) → out ≡ Some (p, rest) → more (extended o p) rest ≡ other (extended o p) rest)
      → grown_by names r o ts more out ≡ grown_by names r o ts other out
  enough_by more other o ts None same = refl
  enough_by more other o ts (Some p) same = same p.0 p.1 refl

  enough_with : (more other : Operand → Parser Operand) (o : Operand) (ts : Kinds) (c : Option Continuation)
      → ((c : Continuation) (p : WithHeight Part) (rest : Kinds) → part names r c (behind ts) ≡ Some (p, rest) → more (extended o p) rest ≡ other (extended o p) rest)
      → grown_with names r o ts more c ≡ grown_with names r o ts other c
  enough_with more other o ts None same = refl
  enough_with more other o ts (Some c) same = enough_by more other o ts (part names r c (behind ts)) (same c)

  -- fuel above the count of tokens changes nothing
  grow_from_enough : PartShrinks names r → (limit least m j : ℕ) (o : Operand) (ts : Kinds) → length ts ≤ m → length ts ≤ j → grow_from names r limit least m o ts ≡ grow_from names r limit least j o ts
  unfolding grow_from
  grow_from_enough shrinks limit least m j o [] hm hj = grow_from_end limit least m o ∙ sym (grow_from_end limit least j o)
  grow_from_enough shrinks limit least zero j o (t ∷ ks) hm hj = absurd (omega arith)
  grow_from_enough shrinks limit least (suc m) zero o (t ∷ ks) hm hj = absurd (omega arith)
  grow_from_enough shrinks limit least (suc m) (suc j) o (t ∷ ks) hm hj =
      enough_with (grow_from names r limit least m) (grow_from names r limit least j) o (t ∷ ks) (going_on limit least o (t ∷ ks)) (λ c p rest is.
      let less = shrinks c ks p rest is in grow_from_enough shrinks limit least m j (extended o p) rest (omega arith) (omega arith))

  grow_from_stops : (limit least m : ℕ) (o : Operand) (ts : Kinds) → going_on limit least o ts ≡ None → grow_from names r limit least m o ts ≡ Some (o, ts)
  unfolding grow_from
  grow_from_stops limit least zero o ts is = refl
  grow_from_stops limit least (suc m) o ts is = rw is

  pub grow_stops : (limit least : ℕ) (o : Operand) (ts : Kinds) → going_on limit least o ts ≡ None → grow names r limit least o ts ≡ Some (o, ts)
  unfolding grow
  grow_stops limit least o ts is = grow_from_stops limit least (length ts) o ts is

  grow_from_steps : (limit least m : ℕ) (o : Operand) (t : Kind) (ks : Kinds) (c : Continuation) (p : WithHeight Part) (rest : Kinds)
      → going_on limit least o (t ∷ ks) ≡ Some c → part names r c ks ≡ Some (p, rest) → grow_from names r limit least (suc m) o (t ∷ ks) ≡ grow_from names r limit least m (extended o p) rest
  unfolding grow_from
  grow_from_steps limit least m o t ks c p rest goes is = rw goes (rw is)

  -- an operand goes on with a part
  pub grow_steps : PartShrinks names r → (limit least : ℕ) (o : Operand) (t : Kind) (ks : Kinds) (c : Continuation) (p : WithHeight Part) (rest : Kinds)
      → going_on limit least o (t ∷ ks) ≡ Some c → part names r c ks ≡ Some (p, rest) → grow names r limit least o (t ∷ ks) ≡ grow names r limit least (extended o p) rest
  unfolding grow
  grow_steps shrinks limit least o t ks c p rest goes is = grow_from_steps limit least (length ks) o t ks c p rest goes is
      ∙ grow_from_enough shrinks limit least (length ks) (length rest) (extended o p) rest (shrinks c ks p rest is) (omega arith)

  -- ---- closing

  pub close_same : (limit least k : ℕ) (o q : Operand) (ts us : Kinds) → grow names r limit (least_in k least) o ts ≡ grow names r limit (least_in k least) q us → close names r limit least k o ts ≡ close names r limit least k q us
  unfolding close
  close_same limit least zero o q ts us same = rw same
  close_same limit least (suc k) o q ts us same = rw same

  -- an operand goes on with a part, in open parentheses
  pub close_steps : PartShrinks names r → (limit least k : ℕ) (o : Operand) (t : Kind) (ks : Kinds) (c : Continuation) (p : WithHeight Part) (rest : Kinds)
      → going_on limit (least_in k least) o (t ∷ ks) ≡ Some c → part names r c ks ≡ Some (p, rest) → close names r limit least k o (t ∷ ks) ≡ close names r limit least k (extended o p) rest
  close_steps shrinks limit least k o t ks c p rest goes is = close_same limit least k o (extended o p) (t ∷ ks) rest (grow_steps shrinks limit (least_in k least) o t ks c p rest goes is)

  -- a parenthesis closes
  pub close_bracket : (limit least k : ℕ) (o : Operand) (rest : Kinds) → o.pairs < greatest_pairs → close names r limit least (suc k) o (Mark mark.RightParenthesis ∷ rest) ≡ close names r limit least k (bracketed o) rest
  unfolding close
  close_bracket limit least k o rest few =
      rw (grow_stops limit assign_level o (Mark mark.RightParenthesis ∷ rest) (going_none limit assign_level o _ refl)) (rw (expect_is mark.RightParenthesis rest) (rw (lt-ltb o.pairs greatest_pairs few)))

  -- the operand is the expression
  pub close_done : (limit least : ℕ) (o : Operand) (rest : Kinds) → least ≤ o.level → Stops least rest → close names r limit least 0 o rest ≡ Some ((o.expr, o.height), rest)
  unfolding close
  close_done limit least o rest le stops = rw (grow_stops limit least o rest (going_stops limit least o rest stops)) (rw (le-leb least o.level le))

  -- ---- what it begins with

  level_in_by : (limit least k : ℕ) (ts : Kinds) (q : ℕ × Kinds) → opened names ts ≡ q → level_in names r limit least k ts ≡ and_then (head names r q.1) (close names r limit least (k + q.0))
  unfolding level_in
  level_in_by limit least k ts q is = ap (λ (x : ℕ × Kinds). and_then (head names r x.1) (close names r limit least (k + x.0))) is

  -- no parenthesis opens, so the head stands there
  pub level_in_head : (limit least k : ℕ) (t : Kind) (ks : Kinds) (o : Operand) (rest : Kinds) → (is_mark mark.LeftParenthesis t && not (begins_spec names ks)) ≡ false → head names r (t ∷ ks) ≡ Some (o, rest)
      → level_in names r limit least k (t ∷ ks) ≡ close names r limit least k o rest
  level_in_head limit least k t ks o rest none is =
      let shut : opened names (t ∷ ks) ≡ (0, t ∷ ks) = rw none in
      level_in_by limit least k (t ∷ ks) (0, t ∷ ks) shut ∙ rw is (ap (λ j. close names r limit least j o rest) (omega arith))

  -- a parenthesis opens
  pub level_in_open : (limit least k : ℕ) (ks : Kinds) → begins_spec names ks ≡ false → level_in names r limit least k (Mark mark.LeftParenthesis ∷ ks) ≡ level_in names r limit least (suc k) ks
  level_in_open limit least k ks none =
      let more = opened names ks in
      let begun : opened names (Mark mark.LeftParenthesis ∷ ks) ≡ (suc more.0, more.1) = rw (same_mark_is mark.LeftParenthesis, none) in
      level_in_by limit least k (Mark mark.LeftParenthesis ∷ ks) (suc more.0, more.1) begun
      ∙ ap (λ j. and_then (head names r more.1) (close names r limit least j)) (omega arith) ∙ sym (level_in_by limit least (suc k) ks more refl)
