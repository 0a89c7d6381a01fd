-- The readers of each depth answer what is of the grammar, given that those of the depth below do.
use Rattle.std.proofs.Common.{ℕ, zero, suc, ◌≤◌, List, arith}
use Rattle.c_tree.specs.declared.expression.AbstractDeclarator.{AbstractDeclarator}
use Rattle.c_tree.specs.declared.expression.Declarator.{Declarator}
use Rattle.c_tree.specs.declared.expression.Expr.{Expr}
use Rattle.c_tree.specs.declared.expression.TypeWord.{TypeWord}
use Rattle.c_tree.specs.Marks.{Kinds, primary_level}
use Rattle.c_tree.specs.Grammar.{DeclaratorReads, AbstractReads, TypeWordReads, ExprReads, ExprForm}
use Rattle.c_readers.specs.inner.Parser.{mismatch}
use Rattle.c_readers.specs.inner.Readers.{Readers, readers, nothing, level, type_word, spec, declarator, direct, abstract, params}
use Rattle.c_expr.specs.Theorems.{Takes, Stops, AreComplete, ReadersAreComplete}
use Rattle.c_expr.proofs.completeness.TypeWords.{type_word_takes, abstract_takes}
use Rattle.c_expr.proofs.completeness.Declarators.{direct_takes, direct_takes_name, declarator_takes}
use Rattle.c_expr.proofs.completeness.Specs.{TakeParts, spec_takes, spec_takes_word, params_take}

-- ---- no expression, type word, declarator or abstract declarator has no node

pub form_has_node : {names : List (List ℕ)} {level h : ℕ} {ts : Kinds} {e : Expr} → ExprForm names level h ts e → 1 ≤ h
form_has_node (ExprForm.assign level h ts e a b op ha hb ats bs l hi is ei left right) = omega arith
form_has_node (ExprForm.conditional level h ts e c a b hc ha hb cs ats bs l hi is ei test then otherwise) = omega arith
form_has_node (ExprForm.binary level h ts e a b op ha hb ats bs l hi is ei left right) = omega arith
form_has_node (ExprForm.cast level h ts e t a ht ha tts ats l hi is ei ty operand) = omega arith
form_has_node (ExprForm.pre_increment level h ts e a ha ats l hi is ei operand) = omega arith
form_has_node (ExprForm.pre_decrement level h ts e a ha ats l hi is ei operand) = omega arith
form_has_node (ExprForm.unary level h ts e a op ha ats l hi is ei operand) = omega arith
form_has_node (ExprForm.sizeof_expression level h ts e a ha ats l hi is ei operand) = omega arith
form_has_node (ExprForm.sizeof_type level h ts e t ht tts l hi is ei ty) = omega arith
form_has_node (ExprForm.index level h ts e a i ha ii ats its l hi is ei left place) = omega arith
form_has_node (ExprForm.call level h ts e f arguments hf ha fs ats l hi is ei left given) = omega arith
form_has_node (ExprForm.member level h ts e a x ha ats l hi free is ei left) = omega arith
form_has_node (ExprForm.arrow level h ts e a x ha ats l hi free is ei left) = omega arith
form_has_node (ExprForm.post_increment level h ts e a ha ats l hi is ei left) = omega arith
form_has_node (ExprForm.post_decrement level h ts e a ha ats l hi is ei left) = omega arith
form_has_node (ExprForm.identifier level h ts e x l hi free is ei) = omega arith
form_has_node (ExprForm.number level h ts e n l hi is ei) = omega arith
form_has_node (ExprForm.text level h ts e bytes l hi is ei) = omega arith

pub expression_has_node : {names : List (List ℕ)} {least h : ℕ} {ts : Kinds} {e : Expr} → ExprReads names least h ts e → 1 ≤ h
expression_has_node (ExprReads.reads least h ts e pairs level inner few fits is form) = form_has_node form

pub type_word_has_node : {names : List (List ℕ)} {h : ℕ} {ts : Kinds} {t : TypeWord} → TypeWordReads names h ts t → 1 ≤ h
type_word_has_node (TypeWordReads.type_word h ts t s a hs ha ss ats hi is ti spec read) = omega arith

pub declarator_has_node : {names : List (List ℕ)} {h : ℕ} {x : List ℕ} {ts : Kinds} {d : Declarator} → DeclaratorReads names h x ts d → 1 ≤ h
declarator_has_node (DeclaratorReads.plain h x ts d pairs hi few free is di) = omega arith
declarator_has_node (DeclaratorReads.formed h x ts d pairs hf inner hi few is formed) = omega arith

pub abstract_has_node : {names : List (List ℕ)} {h : ℕ} {ts : Kinds} {a : AbstractDeclarator} → AbstractReads names h ts a → 1 ≤ h
abstract_has_node (AbstractReads.open_form h ts a stars hf hi formed) = omega arith
abstract_has_node (AbstractReads.in_parentheses h ts a stars hf inner hi some is formed) = omega arith

none_so_low : {P : Type 0} (h : ℕ) → h ≤ 0 → 1 ≤ h → P
none_so_low h low high = absurd (omega arith)

-- ---- the least depth

word_parts : (names : List (List ℕ)) → TakeParts names 0 (spec names nothing) mismatch mismatch
word_parts names = record {
  spec = spec_takes_word names nothing;
  declarator = λ h x ts d low read. none_so_low h low (declarator_has_node read);
  abstract = λ h ts a low read. none_so_low h low (abstract_has_node read);
}

pub base : (names : List (List ℕ)) → AreComplete names 0 (readers names 0)
unfolding readers
base names = record {
  expr = λ least h ts e tight low read. none_so_low h low (expression_has_node read);
  type_word = λ h ts t low read. none_so_low h low (type_word_has_node read);
  spec = spec_takes_word names nothing;
  declarator = (word_parts names).declarator;
  direct = direct_takes_name names 0 nothing;
  abstract = (word_parts names).abstract;
  params = params_take names 0 (spec names nothing) mismatch mismatch (word_parts names);
}

-- ---- one more depth

-- the readers made of those of the depth below
abbrev pub made_of : List (List ℕ) → ℕ → Readers → Readers
made_of names n r = record {
  expr = level names r n;
  type_word = type_word names r;
  spec = spec names r;
  declarator = declarator names r n;
  direct = direct names r n;
  abstract = abstract names r n;
  params = params names (spec names r) (declarator names r n) (abstract names r n);
}

-- expressions of one more depth are taken
abbrev pub TakesExpressions : List (List ℕ) → ℕ → Readers → Type 0
TakesExpressions names n r = (least h : ℕ) (ts : Kinds) (e : Expr) → least ≤ primary_level → h ≤ suc n → ExprReads names least h ts e → Takes (level names r n least) (Stops least) h ts e

parts_of : (names : List (List ℕ)) (n : ℕ) (r : Readers) → AreComplete names n r → TakeParts names (suc n) (spec names r) (declarator names r n) (abstract names r n)
parts_of names n r inner = record { spec = spec_takes names n r inner; declarator = declarator_takes names n r inner; abstract = abstract_takes names n r inner }

pub step : (names : List (List ℕ)) (n : ℕ) (r : Readers) → AreComplete names n r → TakesExpressions names n r → AreComplete names (suc n) (made_of names n r)
step names n r inner expressions = record {
  expr = expressions;
  type_word = type_word_takes names n r inner;
  spec = spec_takes names n r inner;
  declarator = declarator_takes names n r inner;
  direct = direct_takes names n r inner;
  abstract = abstract_takes names n r inner;
  params = params_take names (suc n) (spec names r) (declarator names r n) (abstract names r n) (parts_of names n r inner);
}

pub readers_are_complete : ((names : List (List ℕ)) (n : ℕ) → AreComplete names n (readers names n) → TakesExpressions names n (readers names n)) → ReadersAreComplete
unfolding readers
readers_are_complete expressions names zero = base names
readers_are_complete expressions names (suc n) = let inner = readers_are_complete expressions names n in step names n (readers names n) inner (expressions names n inner)
