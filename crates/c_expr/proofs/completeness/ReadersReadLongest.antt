-- The reader answers an expression at least as long as any that begins the tokens, and one text has one tree.
use Rattle.std.proofs.Common.{◌≡◌, ℕ, zero, suc, ◌≤◌, inl, inr, max, Bool, true, false, if◌then◌else◌, List, [], ◌∷◌, ◌++◌, Option, Some, None, refl, sym, ap, subst, ◌∙◌, arith, length, append_assoc, le-leb}
use Rattle.std.proofs.lemmas.Bool.Decides.{nat_tests}
use Rattle.c_tokens.specs.declared.token.Kind.{Kind}
use Rattle.c_tree.specs.declared.expression.Expr.{Expr}
use Rattle.c_tree.specs.Marks.{Kinds, primary_level}
use Rattle.c_tree.specs.Grammar.{ExprReads}
use Rattle.c_readers.specs.declared.operand.Continuation.{Continuation}
use Rattle.c_readers.specs.declared.operand.Operand.{Operand}
use Rattle.c_readers.specs.declared.operand.Part.{Part}
use Rattle.c_readers.specs.inner.Parser.{Parser, Outcome, WithHeight}
use Rattle.c_readers.specs.inner.Readers.{Readers, readers, continuation, whole_level, takes, taken, going_on, extended, operand, part, grown_by, grown_with, grow_from, grow, close, level}
use Rattle.c_expr.specs.Theorems.{AreComplete, AreSound, Stops, ReadersAreComplete, ReadersAreSound, ReadersReadLongest, ExpressionsHaveOneTree}
use Rattle.c_expr.proofs.FormsBegin.{ExprForm-begins}
use Rattle.c_readers.specs.inner.ParserLemmas.{found_both}
use Rattle.c_expr.proofs.soundness.PartsFit.{part_fits, part_shrinks}
use Rattle.c_expr.proofs.completeness.Heads.{Leads}
use Rattle.c_expr.proofs.completeness.Expressions.{FormEnds, form_ends, bracketed_led}
use Rattle.c_expr.proofs.completeness.EachDepth.{expression_has_node}

-- ---- growing takes a prefix of the tokens, and keeps the level

-- an outcome is an operand of this level or a tighter one, and what is left of the tokens
record Grows (least : ℕ) (ts : Kinds) (out : Outcome Operand) : Type 0 where
  o : Operand
  fits : least ≤ o.level
  more : Kinds
  rest : Kinds
  split : ts ≡ more ++ rest
  is : out ≡ Some (o, rest)

stays : (least : ℕ) (ts : Kinds) (o : Operand) → least ≤ o.level → Grows least ts (Some (o, ts))
stays least ts o le = record { o = o; fits = le; more = []; rest = ts; split = refl; is = refl }

grows_behind : {least : ℕ} {ts us : Kinds} {out : Outcome Operand} (prefix : Kinds) → ts ≡ prefix ++ us → Grows least us out → Grows least ts out
grows_behind prefix cut g = record { o = g.o; fits = g.fits; more = prefix ++ g.more; rest = g.rest; split = cut ∙ ap (λ vs. prefix ++ vs) g.split ∙ sym (append_assoc prefix g.more g.rest); is = g.is }

takes_level : (limit least : ℕ) (o : Operand) (c d : Continuation) (b : Bool) → takes limit least o d ≡ b → (if b then Some d else None) ≡ Some c → least ≤ whole_level c
takes_level limit least o c d false is same = cc
takes_level limit least o c d true is same = let equal : d ≡ c = cc in subst (λ x. least ≤ whole_level x) equal (grind (arith, nat_tests))

taken_level : (limit least : ℕ) (o : Operand) (c : Continuation) (d : Option Continuation) → taken limit least o d ≡ Some c → least ≤ whole_level c
taken_level limit least o c None is = cc
taken_level limit least o c (Some d) is = takes_level limit least o c d (takes limit least o d) refl is

going_level : (limit least : ℕ) (o : Operand) (ts : Kinds) (c : Continuation) → going_on limit least o ts ≡ Some c → least ≤ whole_level c
unfolding going_on
going_level limit least o ts c is = taken_level limit least o c (continuation ts) is

module _ (names : List (List ℕ)) (n : ℕ) (r : Readers) (sound : AreSound names n r) (limit least : ℕ) where
  part_grows : (grown : Operand → Parser Operand) → ((o : Operand) (ts : Kinds) → least ≤ o.level → Grows least ts (grown o ts)) → (o : Operand) (t : Kind) (ks : Kinds) (c : Continuation) → least ≤ o.level → least ≤ whole_level c
      → (out : Outcome (WithHeight Part)) → part names r c ks ≡ out → Grows least (t ∷ ks) (grown_by names r o (t ∷ ks) grown out)
  unfolding extended
  part_grows grown later o t ks c le fits None is = stays least (t ∷ ks) o le
  part_grows grown later o t ks c le fits (Some p) is =
      let a = part_fits names n r sound c ks p.0.0 p.0.1 p.1 is in
      grows_behind (t ∷ a.0) (ap (λ us. t ∷ us) a.1) (later (extended o p.0) p.1 (omega (arith, a.2)))

  with_grows : (grown : Operand → Parser Operand) → ((o : Operand) (ts : Kinds) → least ≤ o.level → Grows least ts (grown o ts)) → (o : Operand) (t : Kind) (ks : Kinds) → least ≤ o.level
      → (c : Option Continuation) → going_on limit least o (t ∷ ks) ≡ c → Grows least (t ∷ ks) (grown_with names r o (t ∷ ks) grown c)
  with_grows grown later o t ks le None is = stays least (t ∷ ks) o le
  with_grows grown later o t ks le (Some c) is = part_grows grown later o t ks c le (going_level limit least o (t ∷ ks) c is) (part names r c ks) refl

  from_grows : (m : ℕ) (o : Operand) (ts : Kinds) → least ≤ o.level → Grows least ts (grow_from names r limit least m o ts)
  unfolding grow_from going_on
  from_grows zero o ts le = stays least ts o le
  from_grows (suc m) o [] le = stays least [] o le
  from_grows (suc m) o (t ∷ ks) le = with_grows (grow_from names r limit least m) (from_grows m) o t ks le (going_on limit least o (t ∷ ks)) refl

  close_by : (o : Operand) (ts : Kinds) → Grows least ts (grow names r limit least o ts) → (f : Expr) × (height : ℕ) × (more rest : Kinds) × (ts ≡ more ++ rest) × (close names r limit least 0 o ts ≡ Some ((f, height), rest))
  unfolding close
  close_by o ts g = (g.o.expr, g.o.height, g.more, g.rest, g.split, rw g.is (rw (le-leb least g.o.level g.fits)))

  -- at the end an operand goes on as far as it can
  close_grows : (o : Operand) (ts : Kinds) → least ≤ o.level → (f : Expr) × (height : ℕ) × (more rest : Kinds) × (ts ≡ more ++ rest) × (close names r limit least 0 o ts ≡ Some ((f, height), rest))
  unfolding grow
  close_grows o ts le = close_by o ts (from_grows (length ts) o ts le)

-- ---- the longest expression

-- the tokens lead to an operand of this level or a tighter one, and what comes behind is left of what came
record Reaches (names : List (List ℕ)) (n : ℕ) (r : Readers) (least : ℕ) (ts rest : Kinds) : Type 0 where
  o : Operand
  fits : least ≤ o.level
  more : Kinds
  behind : Kinds
  split : rest ≡ more ++ behind
  leads : Leads names r n least 0 (ts ++ rest) o behind

-- for each expression the parser reads one at least as long
abbrev ReadsLongest : List (List ℕ) → ℕ → Readers → Type 0
ReadsLongest names n r = (least h : ℕ) (ts rest : Kinds) (e : Expr) → least ≤ primary_level → h ≤ n → ExprReads names least h ts e
    → (f : Expr) × (height : ℕ) × (more behind : Kinds) × (rest ≡ more ++ behind) × (r.expr least (ts ++ rest) ≡ Some ((f, height), behind))

form_reaches : {names : List (List ℕ)} {n : ℕ} {r : Readers} {level h : ℕ} {inner : Kinds} {e : Expr} → ReadsLongest names n r → FormEnds names n r level h inner e
    → (least : ℕ) (ts rest : Kinds) → least ≤ level → ts ≡ inner → Reaches names n r least ts rest
form_reaches {level = level} {h} {inner} {e} longest (FormEnds.closed leads) least ts rest le is =
    record { o = operand level e h; fits = le; more = []; behind = rest; split = refl; leads = rw is (leads least 0 rest le) }
form_reaches {level = level} longest (FormEnds.open_right right hb bs b make height_of rp deep read me he stops leads) least ts rest le is =
    let a = longest right hb bs rest b rp deep read in
    record { o = operand level (make a.0) (height_of a.1); fits = le; more = a.2; behind = a.3; split = a.4; leads = rw is (leads least 0 rest a.0 a.1 a.3 le a.5) }

module _ (names : List (List ℕ)) (n : ℕ) (r : Readers) (full : AreComplete names n r) (sound : AreSound names n r) (longest : ReadsLongest names n r) where
  reaches : {least h : ℕ} {ts : Kinds} {e : Expr} (rest : Kinds) → ExprReads names least h ts e → least ≤ primary_level → h ≤ suc n → Reaches names n r least ts rest
  reaches rest (ExprReads.reads least h ts e zero level inner few (inl le) is form) lp deep = form_reaches longest (form_ends names n r full (part_shrinks names n r sound) form deep) least ts rest le is
  reaches rest (ExprReads.reads least h ts e zero level inner few (inr lt) is form) lp deep = absurd (omega arith)
  reaches rest (ExprReads.reads least h ts e (suc pairs) level inner few fits is form) lp deep =
      let shrinks = part_shrinks names n r sound in
      let q = bracketed_led names n r full shrinks (form_ends names n r full shrinks form deep) (ExprForm-begins form) pairs few least ts lp is least 0 rest in
      record { o = q.o; fits = q.fits; more = []; behind = rest; split = refl; leads = q.leads }

  reaches_longest : (least : ℕ) (ts rest : Kinds) → Reaches names n r least ts rest → (f : Expr) × (height : ℕ) × (more behind : Kinds) × (rest ≡ more ++ behind) × (level names r n least (ts ++ rest) ≡ Some ((f, height), behind))
  unfolding level
  reaches_longest least ts rest q =
      let a = close_grows names n r sound n least q.o q.behind q.fits in
      (a.0, a.1, q.more ++ a.2, a.3, q.split ∙ ap (λ us. q.more ++ us) a.4 ∙ sym (append_assoc q.more a.2 a.3), q.leads ∙ a.5)

pub readers_read_longest : ReadersAreComplete → ReadersAreSound → ReadersReadLongest
unfolding readers
readers_read_longest complete sound names least h zero ts rest e lp deep read = let some = expression_has_node read in absurd (omega arith)
readers_read_longest complete sound names least h (suc n) ts rest e lp deep read =
    let longest = λ (least h : ℕ) (ts rest : Kinds) (e : Expr). readers_read_longest complete sound names least h n ts rest e in
    reaches_longest names n (readers names n) (complete names n) (sound names n) longest least ts rest (reaches names n (readers names n) (complete names n) (sound names n) longest rest read lp deep)

-- ---- one text has one tree

stops_end : (least : ℕ) → Stops least []
stops_end least c is = cc

pub expressions_have_one_tree : ReadersAreComplete → ExpressionsHaveOneTree
expressions_have_one_tree complete names g h ts e f left right =
    let a = (complete names (max g h)).expr 0 g ts e (omega arith) (omega arith) left [] (stops_end 0) in
    let b = (complete names (max g h)).expr 0 h ts f (omega arith) (omega arith) right [] (stops_end 0) in
    let same : ◌≡◌ {A = Expr × ℕ} (e, g) (f, h) = (found_both {p = ((e, g), [])} {q = ((f, h), [])} (sym a ∙ b)).0 in
    (ap (λ (x : Expr × ℕ). x.0) same, ap (λ (x : Expr × ℕ). x.1) same)
