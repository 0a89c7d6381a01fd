-- The answers of each operator are those of its constants.
use Rattle.std.proofs.Common.{◌≡◌, ◌∙◌, ℤ, pos, Bool, true, false, not, ◌&&◌, ◌||◌, if◌then◌else◌, List, [], ◌∷◌, Option, Some, None, Ok, Err, refl, ap, sym, subst}
use Rattle.c_types.specs.declared.ty.Ty.{Ty, out-Ty}
use Rattle.c_types.specs.declared.ty.Ty.TheOpen.{Ty-F}
use Rattle.c_types.specs.Kinds.{Outer}
use Rattle.c_tree.specs.declared.operator.BinaryOperator.{BinaryOperator}
use Rattle.c_tree.specs.declared.operator.BinaryOperator.TheVariants as op
use Rattle.c_tree.specs.declared.operator.UnaryOperator.{UnaryOperator}
use Rattle.c_tree.specs.declared.operator.UnaryOperator.TheVariants as sign
use Rattle.c_const.specs.declared.error.ConstRefusal.{ConstRefusal}
use Rattle.c_const.specs.declared.error.ConstRefusal.TheVariants.{Divide}
use Rattle.c_const.specs.Constant.{Answer, ◌>>=◌, binary, cast, conditional, converted, divided, evaluates_second, other_form, unary, unary_value}
use Rattle.c_const.specs.Values.{as_char, complemented, computed, is_zero, negated, truth}
use Rattle.c_typed.specs.declared.entity.Constant.{Constant}
use Rattle.c_typed.specs.declared.entity.Constant.TheVariants as constant
use Rattle.c_operators.specs.Constants.{as_truth, of_and, of_binary, of_both, of_cast, of_conditional, of_or, of_unary, of_value, or_divides}

-- ---- steps of answers

-- there is no value
abbrev pub NoValue : Answer ℤ → Type 0
NoValue r = (u : ℤ) → r ≡ Ok u → ⊥

abbrev pub HasValue : Answer ℤ → Type 0
HasValue r = (u : ℤ) × (r ≡ Ok u)

split : {A : Type 0} (r : Answer A) (f : A → Answer ℤ) (u : ℤ) → (r >>= f) ≡ Ok u → (a : A) × ((r ≡ Ok a) × (f a ≡ Ok u))
split (Ok a) f u is = (a, (refl, is))
split (Err e) f u is = cc

given : {A : Type 0} {r : Answer A} {a : A} (f : A → Answer ℤ) → r ≡ Ok a → (r >>= f) ≡ f a
given f is = ap (λ s. s >>= f) is

refused : {A : Type 0} {r : Answer A} {e : ConstRefusal} (f : A → Answer ℤ) → r ≡ Err e → (r >>= f) ≡ Err e
refused f is = ap (λ s. s >>= f) is

none_first : {r : Answer ℤ} (f : ℤ → Answer ℤ) → NoValue r → NoValue (r >>= f)
none_first {r} f none u is = let s = split r f u is in none s.0 s.1.0

none_then : {A : Type 0} (r : Answer A) (f : A → Answer ℤ) → ((a : A) → NoValue (f a)) → NoValue (r >>= f)
none_then r f none u is = let s = split r f u is in none s.0 u s.1.1

-- ---- a constant and what is answered where it is evaluated, and where it isn't

abbrev pub Agrees : Constant → Answer ℤ → Answer ℤ → Type 0
Agrees (constant.Value v) live dead = (live ≡ Ok v) × (dead ≡ Ok v)
Agrees constant.Divides live dead = (live ≡ Err Divide) × HasValue dead
Agrees constant.Other live dead = NoValue live × NoValue dead

-- the same of an expression that is told whether it is evaluated
abbrev pub Of : Constant → (Bool → Answer ℤ) → Type 0
Of c p = Agrees c (p true) (p false)

same_answers : (c : Constant) {a b d e : Answer ℤ} → a ≡ b → d ≡ e → Agrees c b e → Agrees c a d
same_answers c {a} {b} {d} {e} live dead agrees = subst (λ r. Agrees c r d) (sym live) (subst (λ r. Agrees c b r) (sym dead) agrees)

-- where a constant is one of the two, the answer where it isn't evaluated is a value
abbrev IsKnown : Constant → Type 0
IsKnown constant.Other = ⊥
IsKnown _ = Unit {0}

dead_value : (c : Constant) (live dead : Answer ℤ) → IsKnown c → Agrees c live dead → HasValue dead
dead_value (constant.Value v) live dead known agrees = (v, agrees.1)
dead_value constant.Divides live dead known agrees = agrees.1
dead_value constant.Other live dead known agrees = absurd known

-- ---- one operand

mapped : (f : ℤ → ℤ) (q : ℤ → Answer ℤ) → ((x : ℤ) → q x ≡ Ok (f x)) → (c : Constant) (a : Bool → Answer ℤ) → Of c a → Agrees (of_value f c) (a true >>= q) (a false >>= q)
mapped f q is (constant.Value v) a agrees = (given q agrees.0 ∙ is v, given q agrees.1 ∙ is v)
mapped f q is constant.Divides a agrees = (refused q agrees.0, (f agrees.1.0, given q agrees.1.1 ∙ is agrees.1.0))
mapped f q is constant.Other a agrees = (none_first q agrees.0, none_first q agrees.1)

refusing : (q : ℤ → Answer ℤ) → ((x : ℤ) → NoValue (q x)) → (a : Bool → Answer ℤ) → Agrees constant.Other (a true >>= q) (a false >>= q)
refusing q none a = (none_then (a true) q none, none_then (a false) q none)

pub unary-agrees : (o : UnaryOperator) (c : Constant) (a : Bool → Answer ℤ) → Of c a → Of (of_unary o c) (unary o a)
unary-agrees sign.Negate c a agrees = mapped negated (unary_value sign.Negate) (λ x. refl) c a agrees
unary-agrees sign.Complement c a agrees = mapped complemented (unary_value sign.Complement) (λ x. refl) c a agrees
unary-agrees sign.Not c a agrees = mapped (λ x. truth (is_zero x)) (unary_value sign.Not) (λ x. refl) c a agrees
unary-agrees sign.Address c a agrees = refusing (unary_value sign.Address) (λ x u is. cc) a
unary-agrees sign.Dereference c a agrees = refusing (unary_value sign.Dereference) (λ x u is. cc) a

-- ---- casts

kept : (c : Constant) (live dead : Answer ℤ) → Agrees (of_value (λ x. x) c) live dead → Agrees c live dead
kept (constant.Value v) live dead agrees = agrees
kept constant.Divides live dead agrees = agrees
kept constant.Other live dead agrees = agrees

converted-agrees : (o : Outer) (c : Constant) (a : Bool → Answer ℤ) → Of c a → Agrees (of_cast o c) (a true >>= converted o) (a false >>= converted o)
converted-agrees Ty-F.Int c a agrees = kept c (a true >>= converted Ty-F.Int) (a false >>= converted Ty-F.Int) (mapped (λ x. x) (converted Ty-F.Int) (λ x. refl) c a agrees)
converted-agrees Ty-F.Char c a agrees = mapped as_char (converted Ty-F.Char) (λ x. refl) c a agrees
converted-agrees Ty-F.Void c a agrees = refusing (converted Ty-F.Void) (λ x u is. cc) a
converted-agrees (Ty-F.Struct s) c a agrees = refusing (converted (Ty-F.Struct s)) (λ x u is. cc) a
converted-agrees (Ty-F.Pointer t) c a agrees = refusing (converted (Ty-F.Pointer t)) (λ x u is. cc) a
converted-agrees (Ty-F.Array t n) c a agrees = refusing (converted (Ty-F.Array t n)) (λ x u is. cc) a
converted-agrees (Ty-F.Function f) c a agrees = refusing (converted (Ty-F.Function f)) (λ x u is. cc) a

pub cast-agrees : (word : Answer Ty) (t : Ty) (c : Constant) (a : Bool → Answer ℤ) → word ≡ Ok t → Of c a → Of (of_cast (out-Ty t) c) (cast word a)
cast-agrees word t c a is agrees =
    same_answers (of_cast (out-Ty t) c) (given (λ to. a true >>= converted (out-Ty to)) is) (given (λ to. a false >>= converted (out-Ty to)) is)
    (converted-agrees (out-Ty t) c a agrees)

-- ---- two operands

either : (b : Bool → Answer ℤ) (z : Bool) → NoValue (b true) → NoValue (b false) → NoValue (b z)
either b true one two = one
either b false one two = two

quotient : (d : Option ℤ) → Agrees (or_divides d) (divided true d) (divided false d)
quotient (Some v) = (refl, refl)
quotient None = (refl, (pos 0, refl))

some_answer : (d : Option ℤ) → HasValue (divided false d)
some_answer (Some v) = (v, refl)
some_answer None = (pos 0, refl)

abbrev behind : BinaryOperator → (Bool → Answer ℤ) → Bool → ℤ → Answer ℤ
behind o b live x = b (live && evaluates_second o x) >>= (λ y. divided live (computed o x y))

-- a second operand that is no constant, whether it is evaluated or not
none_behind : (o : BinaryOperator) (b : Bool → Answer ℤ) (live : Bool) → NoValue (b true) → NoValue (b false) → (x : ℤ) → NoValue (behind o b live x)
none_behind o b live evaluated dead x = none_first (λ y. divided live (computed o x y)) (either b (live && evaluates_second o x) evaluated dead)

first_none : (o : BinaryOperator) (a b : Bool → Answer ℤ) → Of constant.Other a → Of constant.Other (binary o a b)
first_none o a b agrees = (none_first (behind o b true) agrees.0, none_first (behind o b false) agrees.1)

second_none : (o : BinaryOperator) (a b : Bool → Answer ℤ) → Of constant.Other b → Of constant.Other (binary o a b)
second_none o a b agrees = (none_then (a true) (behind o b true) (none_behind o b true agrees.0 agrees.1), none_then (a false) (behind o b false) (none_behind o b false agrees.0 agrees.1))

-- neither is evaluated, and both have values
both_dead : (o : BinaryOperator) (a b : Bool → Answer ℤ) → HasValue (a false) → HasValue (b false) → HasValue (binary o a b false)
both_dead o a b first second =
    let e = some_answer (computed o first.0 second.0) in
    (e.0, given (behind o b false) first.1 ∙ given (λ y. divided false (computed o first.0 y)) second.1 ∙ e.1)

divides_first : (o : BinaryOperator) (d : Constant) (a b : Bool → Answer ℤ) → IsKnown d → Of constant.Divides a → Of d b → Of constant.Divides (binary o a b)
divides_first o d a b known first second = (refused (behind o b true) first.0, both_dead o a b first.1 (dead_value d (b true) (b false) known second))

module _ (o : BinaryOperator) (always : (x : ℤ) → evaluates_second o x ≡ true) where
  live_second : (b : Bool → Answer ℤ) (x : ℤ) → behind o b true x ≡ (b true >>= (λ y. divided true (computed o x y)))
  live_second b x = ap (λ z. b z >>= (λ y. divided true (computed o x y))) (always x)

  both-agree : (c d : Constant) (a b : Bool → Answer ℤ) → Of c a → Of d b → Of (of_both o c d) (binary o a b)
  both-agree constant.Other d a b first second = first_none o a b first
  both-agree constant.Divides constant.Other a b first second = second_none o a b second
  both-agree (constant.Value x) constant.Other a b first second = second_none o a b second
  both-agree constant.Divides constant.Divides a b first second = divides_first o constant.Divides a b tt first second
  both-agree constant.Divides (constant.Value y) a b first second = divides_first o (constant.Value y) a b tt first second
  both-agree (constant.Value x) constant.Divides a b first second = (
    given (behind o b true) first.0 ∙ live_second b x ∙ refused (λ y. divided true (computed o x y)) second.0,
    both_dead o a b (x, first.1) second.1,
  )
  both-agree (constant.Value x) (constant.Value y) a b first second = same_answers (or_divides (computed o x y))
      (given (behind o b true) first.0 ∙ live_second b x ∙ given (λ y. divided true (computed o x y)) second.0)
      (given (behind o b false) first.1 ∙ given (λ y. divided false (computed o x y)) second.1)
      (quotient (computed o x y))

-- `&&`, where the first operand is 0 or isn't
abbrev and_end : Bool → ℤ → Answer ℤ
and_end zero y = Ok (truth (not zero && not (is_zero y)))

and_by : (zero : Bool) (d : Constant) (b : Bool → Answer ℤ) → IsKnown d → Of d b
    → Agrees (if zero then constant.Value (pos 0) else as_truth d) (b (not zero) >>= and_end zero) (b false >>= and_end zero)
and_by true d b known agrees = let u = dead_value d (b true) (b false) known agrees in (given (and_end true) u.1, given (and_end true) u.1)
and_by false (constant.Value y) b known agrees = (given (and_end false) agrees.0, given (and_end false) agrees.1)
and_by false constant.Divides b known agrees = (refused (and_end false) agrees.0, (truth (not (is_zero agrees.1.0)), given (and_end false) agrees.1.1))
and_by false constant.Other b known agrees = absurd known

and-agrees : (c d : Constant) (a b : Bool → Answer ℤ) → Of c a → Of d b → Of (of_and c d) (binary op.LogicalAnd a b)
and-agrees constant.Other d a b first second = first_none op.LogicalAnd a b first
and-agrees constant.Divides constant.Other a b first second = second_none op.LogicalAnd a b second
and-agrees (constant.Value x) constant.Other a b first second = second_none op.LogicalAnd a b second
and-agrees constant.Divides constant.Divides a b first second = divides_first op.LogicalAnd constant.Divides a b tt first second
and-agrees constant.Divides (constant.Value y) a b first second = divides_first op.LogicalAnd (constant.Value y) a b tt first second
and-agrees (constant.Value x) constant.Divides a b first second = same_answers (if is_zero x then constant.Value (pos 0) else constant.Divides)
    (given (behind op.LogicalAnd b true) first.0) (given (behind op.LogicalAnd b false) first.1) (and_by (is_zero x) constant.Divides b tt second)
and-agrees (constant.Value x) (constant.Value y) a b first second = same_answers (if is_zero x then constant.Value (pos 0) else as_truth (constant.Value y))
    (given (behind op.LogicalAnd b true) first.0) (given (behind op.LogicalAnd b false) first.1) (and_by (is_zero x) (constant.Value y) b tt second)

-- `||`
abbrev or_end : Bool → ℤ → Answer ℤ
or_end zero y = Ok (truth (not zero || not (is_zero y)))

or_by : (zero : Bool) (d : Constant) (b : Bool → Answer ℤ) → IsKnown d → Of d b
    → Agrees (if zero then as_truth d else constant.Value (pos 1)) (b zero >>= or_end zero) (b false >>= or_end zero)
or_by false d b known agrees = let u = dead_value d (b true) (b false) known agrees in (given (or_end false) u.1, given (or_end false) u.1)
or_by true (constant.Value y) b known agrees = (given (or_end true) agrees.0, given (or_end true) agrees.1)
or_by true constant.Divides b known agrees = (refused (or_end true) agrees.0, (truth (not (is_zero agrees.1.0)), given (or_end true) agrees.1.1))
or_by true constant.Other b known agrees = absurd known

or-agrees : (c d : Constant) (a b : Bool → Answer ℤ) → Of c a → Of d b → Of (of_or c d) (binary op.LogicalOr a b)
or-agrees constant.Other d a b first second = first_none op.LogicalOr a b first
or-agrees constant.Divides constant.Other a b first second = second_none op.LogicalOr a b second
or-agrees (constant.Value x) constant.Other a b first second = second_none op.LogicalOr a b second
or-agrees constant.Divides constant.Divides a b first second = divides_first op.LogicalOr constant.Divides a b tt first second
or-agrees constant.Divides (constant.Value y) a b first second = divides_first op.LogicalOr (constant.Value y) a b tt first second
or-agrees (constant.Value x) constant.Divides a b first second = same_answers (if is_zero x then constant.Divides else constant.Value (pos 1))
    (given (behind op.LogicalOr b true) first.0) (given (behind op.LogicalOr b false) first.1) (or_by (is_zero x) constant.Divides b tt second)
or-agrees (constant.Value x) (constant.Value y) a b first second = same_answers (if is_zero x then as_truth (constant.Value y) else constant.Value (pos 1))
    (given (behind op.LogicalOr b true) first.0) (given (behind op.LogicalOr b false) first.1) (or_by (is_zero x) (constant.Value y) b tt second)

pub binary-agrees : (o : BinaryOperator) (c d : Constant) (a b : Bool → Answer ℤ) → Of c a → Of d b → Of (of_binary o c d) (binary o a b)
binary-agrees op.LogicalOr c d a b first second = or-agrees c d a b first second
binary-agrees op.LogicalAnd c d a b first second = and-agrees c d a b first second
binary-agrees op.BitwiseOr c d a b first second = both-agree op.BitwiseOr (λ x. refl) c d a b first second
binary-agrees op.BitwiseExclusiveOr c d a b first second = both-agree op.BitwiseExclusiveOr (λ x. refl) c d a b first second
binary-agrees op.BitwiseAnd c d a b first second = both-agree op.BitwiseAnd (λ x. refl) c d a b first second
binary-agrees op.Equal c d a b first second = both-agree op.Equal (λ x. refl) c d a b first second
binary-agrees op.NotEqual c d a b first second = both-agree op.NotEqual (λ x. refl) c d a b first second
binary-agrees op.Less c d a b first second = both-agree op.Less (λ x. refl) c d a b first second
binary-agrees op.Greater c d a b first second = both-agree op.Greater (λ x. refl) c d a b first second
binary-agrees op.LessEqual c d a b first second = both-agree op.LessEqual (λ x. refl) c d a b first second
binary-agrees op.GreaterEqual c d a b first second = both-agree op.GreaterEqual (λ x. refl) c d a b first second
binary-agrees op.ShiftLeft c d a b first second = both-agree op.ShiftLeft (λ x. refl) c d a b first second
binary-agrees op.ShiftRight c d a b first second = both-agree op.ShiftRight (λ x. refl) c d a b first second
binary-agrees op.Add c d a b first second = both-agree op.Add (λ x. refl) c d a b first second
binary-agrees op.Subtract c d a b first second = both-agree op.Subtract (λ x. refl) c d a b first second
binary-agrees op.Multiply c d a b first second = both-agree op.Multiply (λ x. refl) c d a b first second
binary-agrees op.Divide c d a b first second = both-agree op.Divide (λ x. refl) c d a b first second
binary-agrees op.Remainder c d a b first second = both-agree op.Remainder (λ x. refl) c d a b first second

-- ---- a test and its arms

-- behind the values of both arms, and of the first
abbrev last_arm : Bool → ℤ → ℤ → Answer ℤ
last_arm zero y z = Ok (if zero then z else y)

abbrev second_arm : (Bool → Answer ℤ) → Bool → Bool → ℤ → Answer ℤ
second_arm b live zero y = b (live && zero) >>= last_arm zero y

abbrev arms : (Bool → Answer ℤ) → (Bool → Answer ℤ) → Bool → Bool → Answer ℤ
arms a b live zero = a (live && not zero) >>= second_arm b live zero

none_first_arm : (a b : Bool → Answer ℤ) (live zero : Bool) → Of constant.Other a → NoValue (arms a b live zero)
none_first_arm a b live zero agrees = none_first (second_arm b live zero) (either a (live && not zero) agrees.0 agrees.1)

none_second_arm : (a b : Bool → Answer ℤ) (live zero : Bool) → Of constant.Other b → NoValue (arms a b live zero)
none_second_arm a b live zero agrees = none_then (a (live && not zero)) (second_arm b live zero) (λ y. none_first (last_arm zero y) (either b (live && zero) agrees.0 agrees.1))

dead_arms : (a b : Bool → Answer ℤ) (zero : Bool) → HasValue (a false) → HasValue (b false) → HasValue (arms a b false zero)
dead_arms a b zero first second = (if zero then second.0 else first.0, given (second_arm b false zero) first.1 ∙ given (last_arm zero first.0) second.1)

arms_by : (zero : Bool) (c d : Constant) (a b : Bool → Answer ℤ) → IsKnown c → IsKnown d → Of c a → Of d b
    → Agrees (if zero then d else c) (arms a b true zero) (arms a b false zero)
arms_by true c (constant.Value v) a b one two first second =
    let u = dead_value c (a true) (a false) one first in
    (given (second_arm b true true) u.1 ∙ given (last_arm true u.0) second.0, given (second_arm b false true) u.1 ∙ given (last_arm true u.0) second.1)
arms_by true c constant.Divides a b one two first second =
    let u = dead_value c (a true) (a false) one first in
    (given (second_arm b true true) u.1 ∙ refused (last_arm true u.0) second.0, dead_arms a b true u second.1)
arms_by true c constant.Other a b one two first second = absurd two
arms_by false (constant.Value v) d a b one two first second =
    let u = dead_value d (b true) (b false) two second in
    (given (second_arm b true false) first.0 ∙ given (last_arm false v) u.1, given (second_arm b false false) first.1 ∙ given (last_arm false v) u.1)
arms_by false constant.Divides d a b one two first second =
    let u = dead_value d (b true) (b false) two second in
    (refused (second_arm b true false) first.0, dead_arms a b false first.1 u)
arms_by false constant.Other d a b one two first second = absurd one

test_divides : (c d : Constant) (t a b : Bool → Answer ℤ) → IsKnown c → IsKnown d → Of constant.Divides t → Of c a → Of d b → Of constant.Divides (conditional t a b)
test_divides c d t a b one two test first second =
    let r = dead_arms a b (is_zero test.1.0) (dead_value c (a true) (a false) one first) (dead_value d (b true) (b false) two second) in
    (refused (λ x. arms a b true (is_zero x)) test.0, (r.0, given (λ x. arms a b false (is_zero x)) test.1.1 ∙ r.1))

tested : (x : ℤ) (c d : Constant) (t a b : Bool → Answer ℤ) → IsKnown c → IsKnown d → Of (constant.Value x) t → Of c a → Of d b
    → Of (if is_zero x then d else c) (conditional t a b)
tested x c d t a b one two test first second = same_answers (if is_zero x then d else c)
    (given (λ x. arms a b true (is_zero x)) test.0) (given (λ x. arms a b false (is_zero x)) test.1) (arms_by (is_zero x) c d a b one two first second)

no_arm : (t a b : Bool → Answer ℤ) → ((live zero : Bool) → NoValue (arms a b live zero)) → Of constant.Other (conditional t a b)
no_arm t a b none = (none_then (t true) (λ x. arms a b true (is_zero x)) (λ x. none true (is_zero x)), none_then (t false) (λ x. arms a b false (is_zero x)) (λ x. none false (is_zero x)))

pub conditional-agrees : (e c d : Constant) (t a b : Bool → Answer ℤ) → Of e t → Of c a → Of d b → Of (of_conditional e c d) (conditional t a b)
conditional-agrees constant.Other c d t a b test first second = (none_first (λ x. arms a b true (is_zero x)) test.0, none_first (λ x. arms a b false (is_zero x)) test.1)
conditional-agrees constant.Divides constant.Other d t a b test first second = no_arm t a b (λ live zero. none_first_arm a b live zero first)
conditional-agrees (constant.Value x) constant.Other d t a b test first second = no_arm t a b (λ live zero. none_first_arm a b live zero first)
conditional-agrees constant.Divides constant.Divides constant.Other t a b test first second = no_arm t a b (λ live zero. none_second_arm a b live zero second)
conditional-agrees constant.Divides (constant.Value y) constant.Other t a b test first second = no_arm t a b (λ live zero. none_second_arm a b live zero second)
conditional-agrees (constant.Value x) constant.Divides constant.Other t a b test first second = no_arm t a b (λ live zero. none_second_arm a b live zero second)
conditional-agrees (constant.Value x) (constant.Value y) constant.Other t a b test first second = no_arm t a b (λ live zero. none_second_arm a b live zero second)
conditional-agrees constant.Divides constant.Divides constant.Divides t a b test first second = test_divides constant.Divides constant.Divides t a b tt tt test first second
conditional-agrees constant.Divides constant.Divides (constant.Value z) t a b test first second = test_divides constant.Divides (constant.Value z) t a b tt tt test first second
conditional-agrees constant.Divides (constant.Value y) constant.Divides t a b test first second = test_divides (constant.Value y) constant.Divides t a b tt tt test first second
conditional-agrees constant.Divides (constant.Value y) (constant.Value z) t a b test first second = test_divides (constant.Value y) (constant.Value z) t a b tt tt test first second
conditional-agrees (constant.Value x) constant.Divides constant.Divides t a b test first second = tested x constant.Divides constant.Divides t a b tt tt test first second
conditional-agrees (constant.Value x) constant.Divides (constant.Value z) t a b test first second = tested x constant.Divides (constant.Value z) t a b tt tt test first second
conditional-agrees (constant.Value x) (constant.Value y) constant.Divides t a b test first second = tested x (constant.Value y) constant.Divides t a b tt tt test first second
conditional-agrees (constant.Value x) (constant.Value y) (constant.Value z) t a b test first second = tested x (constant.Value y) (constant.Value z) t a b tt tt test first second

-- ---- forms that no constant has

other-none : (es : List (Bool → Answer ℤ)) (live : Bool) → NoValue (other_form es live)
other-none [] live = λ u is. cc
other-none (e ∷ es) live = none_then (e live) (λ x. other_form es live) (λ x. other-none es live)

pub other-agrees : (es : List (Bool → Answer ℤ)) → Of constant.Other (other_form es)
other-agrees es = (other-none es true, other-none es false)

pub never-agrees : (es : List (Bool → Answer ℤ)) → Of constant.Other (λ live. other_form es false)
never-agrees es = (other-none es false, other-none es false)
