-- An expression of the grammar is taken whole, whatever may stand behind it.
use Rattle.std.proofs.Common.{◌≡◌, ℕ, zero, suc, ◌+◌, ◌<◌, ◌≤◌, inl, inr, max, List, [], ◌∷◌, ◌++◌, Some, refl, sym, ap, subst, ◌∙◌, arith, append_assoc}
use Rattle.c_tokens.specs.declared.token.Kind.{Kind}
use Rattle.c_tokens.specs.declared.token.Kind.TheVariants.{Name, Mark}
use Rattle.c_tokens.specs.declared.token.Mark.TheVariants as mark
use Rattle.c_tree.specs.declared.expression.Expr.{Expr}
use Rattle.c_tree.specs.declared.expression.Expr.TheVariants as tree
use Rattle.c_tree.specs.Marks.{Kinds, greatest_pairs, wrapped, assign_mark, binary_mark, assign_level, conditional_level, cast_level, unary_level, primary_level, binary_level}
use Rattle.c_tree.specs.Grammar.{ExprReads, ExprForm}
use Rattle.c_readers.specs.declared.operand.Continuation.{Continuation}
use Rattle.c_readers.specs.declared.operand.Continuation.TheVariants as goes
use Rattle.c_readers.specs.declared.operand.Operand.{Operand}
use Rattle.c_readers.specs.declared.operand.Part.{Part}
use Rattle.c_readers.specs.declared.operand.Part.TheVariants as part_as
use Rattle.c_readers.specs.inner.Parser.{WithHeight}
use Rattle.c_readers.specs.inner.Readers.{Readers, continuation, whole_level, left_level, part_level, with_part, extended, bracketed, operand, part, close, level_in, level as level_reader}
use Rattle.c_expr.specs.Theorems.{AreComplete, Takes, Stops}
use Rattle.c_expr.specs.FirstTokens.{Begins, CanBeginExpression}
use Rattle.c_expr.specs.inner.FirstTokensLemmas.{Begins-append}
use Rattle.c_expr.proofs.FormsBegin.{Begins-wrapped, ExprForm-begins, no_spec}
use Rattle.c_expr.proofs.completeness.Operands.{PartShrinks, least_in, Clear, clear_of, clear_above, clear_before, stops_loose, stops_binary, stops_prefix, binary_most, going_is, close_steps, close_bracket, close_done, level_in_open}
use Rattle.c_expr.proofs.completeness.Parts.{assign_goes, binary_goes, index_taken, call_taken, member_taken, arrow_taken, increment_taken, decrement_taken, binary_taken, assign_taken, conditional_taken}
use Rattle.c_expr.proofs.completeness.Heads.{Leads, opens_no_type, name_leads, number_leads, text_leads, pre_increment_leads, pre_decrement_leads, unary_leads, sizeof_leads, sizeof_type_leads, cast_leads}

-- the tokens lead to an operand of this expression, and to what comes behind it
pub record Led (names : List (List ℕ)) (n : ℕ) (r : Readers) (lr h : ℕ) (e : Expr) (least k : ℕ) (ts rest : Kinds) : Type 0 where
  pub o : Operand
  pub expr : o.expr ≡ e
  pub height : o.height ≡ h
  pub fits : lr ≤ o.level
  pub leads : Leads names r n least k (ts ++ rest) o rest

-- what ends a form: a token of its own, or an operand to the right, by whose answer the whole's goes
pub data FormEnds (names : List (List ℕ)) (n : ℕ) (r : Readers) (level h : ℕ) (ts : Kinds) (e : Expr) : Type 0 where
  closed : ((least k : ℕ) (rest : Kinds) → least_in k least ≤ level → Leads names r n least k (ts ++ rest) (operand level e h) rest) → FormEnds names n r level h ts e
  open_right : (right hb : ℕ) (bs : Kinds) (b : Expr) (make : Expr → Expr) (height_of : ℕ → ℕ) → right ≤ primary_level → hb ≤ n → ExprReads names right hb bs b → make b ≡ e → height_of hb ≡ h
      → ((rest : Kinds) → Clear level rest → Stops right rest)
      → ((least k : ℕ) (rest : Kinds) (f : Expr) (g : ℕ) (behind : Kinds) → least_in k least ≤ level → r.expr right (bs ++ rest) ≡ Some ((f, g), behind) → Leads names r n least k (ts ++ rest) (operand level (make f) (height_of g)) behind)
      → FormEnds names n r level h ts e

whole_le_left : (c : Continuation) → whole_level c ≤ left_level c
whole_le_left goes.Index = omega arith
whole_le_left goes.Call = omega arith
whole_le_left goes.Member = omega arith
whole_le_left goes.Arrow = omega arith
whole_le_left goes.Increment = omega arith
whole_le_left goes.Decrement = omega arith
whole_le_left (goes.Binary op) = omega arith
whole_le_left goes.Conditional = omega arith
whole_le_left (goes.Assign op) = omega arith

extended_is : (o : Operand) (p : WithHeight Part) (a : Expr) (h : ℕ) → o.expr ≡ a → o.height ≡ h → extended o p ≡ operand (part_level p.0) (with_part a p.0) (1 + max h p.1)
unfolding extended
extended_is o p a h ea eh = rw (ea, eh)

module _ (names : List (List ℕ)) (n : ℕ) (r : Readers) (full : AreComplete names n r) (shrinks : PartShrinks names r) where
  abbrev Left : ℕ → ℕ → Kinds → Expr → Type 0
  Left lr h ts e = (least k : ℕ) (rest : Kinds) → least_in k least ≤ lr → Clear lr rest → Led names n r lr h e least k ts rest

  -- an operand, what it goes on with, and the part behind the mark
  spine : {lr ha : ℕ} {ats : Kinds} {a : Expr} → Left lr ha ats a → ha ≤ n → (c : Continuation) (t : Kind) (ks : Kinds) (p : WithHeight Part) (behind : Kinds) → continuation (t ∷ ks) ≡ Some c → left_level c ≤ lr
      → (least k : ℕ) → least_in k least ≤ whole_level c → part names r c ks ≡ Some (p, behind) → Leads names r n least k (ats ++ t ∷ ks) (operand (part_level p.0) (with_part a p.0) (1 + max ha p.1)) behind
  spine {lr} {ha} {ats} {a} left deep c t ks p behind goes fits least k loose is =
      let less = whole_le_left c in
      let led = left least k (t ∷ ks) (omega arith) (clear_before lr (t ∷ ks) c goes fits) in
      let step = close_steps names r shrinks n least k led.o t ks c p behind (going_is n (least_in k least) led.o (t ∷ ks) c goes loose (omega arith) (omega arith)) is in
      led.leads ∙ (step ∙ ap (λ o. close names r n least k o behind) (extended_is led.o p a ha led.expr led.height))

  leads_same : (least k : ℕ) {ts us : Kinds} {o q : Operand} (rest : Kinds) → ts ≡ us → o ≡ q → Leads names r n least k us q rest → Leads names r n least k ts o rest
  leads_same least k rest same is h = rw (same, is) h

  -- a form whose mark stands behind its left operand, and that ends in a token of its own
  spine_closed : {lr ha : ℕ} {ats : Kinds} {a : Expr} → Left lr ha ats a → ha ≤ n → (c : Continuation) (t : Kind) (ks : Kinds) (p : WithHeight Part) (level h : ℕ) (ts : Kinds) (e : Expr)
      → ((rest : Kinds) → continuation (t ∷ (ks ++ rest)) ≡ Some c) → left_level c ≤ lr → level ≡ whole_level c → part_level p.0 ≡ whole_level c → e ≡ with_part a p.0 → h ≡ 1 + max ha p.1 → ts ≡ ats ++ t ∷ ks
      → ((rest : Kinds) → part names r c (ks ++ rest) ≡ Some (p, rest)) → FormEnds names n r level h ts e
  spine_closed {lr} {ha} {ats} {a} left deep c t ks p level h ts e goes fits l pl ei hi is taken = FormEnds.closed (λ least k rest loose.
      leads_same least k rest (rw (is, append_assoc ats (t ∷ ks) rest)) (rw (l, pl, ei, hi)) (spine left deep c t (ks ++ rest) p rest (goes rest) fits least k (omega arith) (taken rest)))

  form_taken : {level h : ℕ} {ts : Kinds} {e : Expr} → FormEnds names n r level h ts e → (least k : ℕ) (rest : Kinds) → least_in k least ≤ level → Clear level rest → Leads names r n least k (ts ++ rest) (operand level e h) rest
  form_taken (FormEnds.closed leads) least k rest loose clear = leads least k rest loose
  form_taken {level} {h} {ts} {e} (FormEnds.open_right right hb bs b make height_of rp deep read me he stops leads) least k rest loose clear =
      subst (λ x. Leads names r n least k (ts ++ rest) (operand level x h) rest) me (subst (λ x. Leads names r n least k (ts ++ rest) (operand level (make b) x) rest) he
      (leads least k rest b hb rest loose (full.expr right hb bs b rp deep read rest (stops rest clear))))

  bracket_leads : (least k : ℕ) (ts rest : Kinds) (o : Operand) → Begins (CanBeginExpression names) ts → o.pairs < greatest_pairs → Leads names r n least (suc k) (ts ++ Mark mark.RightParenthesis ∷ rest) o (Mark mark.RightParenthesis ∷ rest)
      → Leads names r n least k (Mark mark.LeftParenthesis ∷ ts ++ Mark mark.RightParenthesis ∷ [] ++ rest) (bracketed o) rest
  bracket_leads least k ts rest o begins few leads =
      rw (append_assoc ts (Mark mark.RightParenthesis ∷ []) rest)
      (level_in_open names r n least k (ts ++ Mark mark.RightParenthesis ∷ rest) (no_spec names _ (Begins-append _ ts _ begins)) ∙ (leads ∙ close_bracket names r n least k o rest few))

  -- an operand in one more pair than so many
  record InPairs (pairs h : ℕ) (e : Expr) (least k : ℕ) (ts rest : Kinds) : Type 0 where
    o : Operand
    expr : o.expr ≡ e
    height : o.height ≡ h
    level_is : o.level ≡ primary_level
    pairs_is : o.pairs ≡ suc pairs
    leads : Leads names r n least k (ts ++ rest) o rest

  no_continuation : (level : ℕ) (rest : Kinds) → Clear level (Mark mark.RightParenthesis ∷ rest)
  no_continuation level rest c is = cc

  in_pairs : {level h : ℕ} {ts : Kinds} {e : Expr} → FormEnds names n r level h ts e → Begins (CanBeginExpression names) ts → (pairs : ℕ) → pairs < greatest_pairs
      → (least k : ℕ) (rest : Kinds) → InPairs pairs h e least k (wrapped (suc pairs) ts) rest
  unfolding bracketed
  in_pairs {level} {h} {ts} {e} ends begins zero few least k rest = record {
    o = bracketed (operand level e h);
    expr = refl;
    height = refl;
    level_is = refl;
    pairs_is = refl;
    leads = bracket_leads least k ts rest (operand level e h) begins (omega arith) (form_taken ends least (suc k) (Mark mark.RightParenthesis ∷ rest) (omega arith) (no_continuation level rest));
  }
  in_pairs {ts = ts} ends begins (suc pairs) few least k rest = let inside = in_pairs ends begins pairs (omega arith) least (suc k) (Mark mark.RightParenthesis ∷ rest) in record {
    o = bracketed inside.o;
    expr = inside.expr;
    height = inside.height;
    level_is = refl;
    pairs_is = omega arith;
    leads = bracket_leads least k (wrapped (suc pairs) ts) rest inside.o (Begins-wrapped names (suc pairs) ts begins) (omega arith) inside.leads;
  }

  -- in parentheses
  pub bracketed_led : {level h : ℕ} {inner : Kinds} {e : Expr} → FormEnds names n r level h inner e → Begins (CanBeginExpression names) inner → (pairs : ℕ) → suc pairs ≤ greatest_pairs
      → (lr : ℕ) (ts : Kinds) → lr ≤ primary_level → ts ≡ wrapped (suc pairs) inner → (least k : ℕ) (rest : Kinds) → Led names n r lr h e least k ts rest
  bracketed_led {inner = inner} ends begins pairs few lr ts lp is least k rest = let q = in_pairs ends begins pairs few least k rest in record {
    o = q.o;
    expr = q.expr;
    height = q.height;
    fits = omega arith;
    leads = leads_same least k rest (rw is) refl q.leads;
  }

  form_led : {level h : ℕ} {inner : Kinds} {e : Expr} → FormEnds names n r level h inner e → (lr : ℕ) (ts : Kinds) → lr ≤ level → ts ≡ inner → Left lr h ts e
  form_led {level} {h} {inner} {e} ends lr ts le is least k rest loose clear = record {
    o = operand level e h;
    expr = refl;
    height = refl;
    fits = le;
    leads = leads_same least k rest (rw is) refl (form_taken ends least k rest (omega arith) (clear_above level lr rest le clear));
  }

  mutual
    pub reads_led : {lr h : ℕ} {ts : Kinds} {e : Expr} → ExprReads names lr h ts e → lr ≤ primary_level → h ≤ suc n → Left lr h ts e
    reads_led (ExprReads.reads lr h ts e zero level inner few (inl le) is form) lp deep = form_led (form_ends form deep) lr ts le is
    reads_led (ExprReads.reads lr h ts e zero level inner few (inr lt) is form) lp deep = absurd (omega arith)
    reads_led (ExprReads.reads lr h ts e (suc pairs) level inner few fits is form) lp deep = λ least k rest loose clear. bracketed_led (form_ends form deep) (ExprForm-begins form) pairs few lr ts lp is least k rest

    pub form_ends : {level h : ℕ} {ts : Kinds} {e : Expr} → ExprForm names level h ts e → h ≤ suc n → FormEnds names n r level h ts e
    form_ends (ExprForm.assign level h ts e a b op ha hb ats bs l hi is ei left right) deep =
        FormEnds.open_right assign_level hb bs b (λ f. tree.Assign a op f) (λ g. 1 + max ha g) (omega arith) (omega arith) right (sym ei) (sym hi) (λ rest clear. stops_loose level assign_level rest (omega arith) (sym l) clear)
        (λ least k rest f g behind loose answers.
        leads_same least k behind (rw (is, append_assoc ats (Mark (assign_mark op) ∷ bs) rest)) (rw l)
        (spine (reads_led left (omega arith) (omega arith)) (omega arith) (goes.Assign op) (Mark (assign_mark op)) (bs ++ rest) (part_as.Assign op f, g) behind (assign_goes op (bs ++ rest)) (omega arith) least k (omega arith)
        (assign_taken names n r full op (bs ++ rest) f g behind answers)))
    form_ends (ExprForm.conditional level h ts e c a b hc ha hb cs ats bs l hi is ei test middle right) deep =
        FormEnds.open_right conditional_level hb bs b (λ f. tree.Conditional c a f) (λ g. 1 + max hc (max ha g)) (omega arith) (omega arith) right (sym ei) (sym hi) (λ rest clear. stops_loose level conditional_level rest (omega arith) (sym l) clear)
        (λ least k rest f g behind loose answers.
        leads_same least k behind (rw is (simp append_assoc)) (rw l)
        (spine (reads_led test (omega arith) (omega arith)) (omega arith) goes.Conditional (Mark mark.Question) (ats ++ Mark mark.Colon ∷ (bs ++ rest)) (part_as.Conditional a f, max ha g) behind refl (omega arith) least k (omega arith)
        (conditional_taken names n r full (omega arith) middle (bs ++ rest) f g behind answers)))
    form_ends (ExprForm.binary level h ts e a b op ha hb ats bs l hi is ei left right) deep =
        let most = binary_most op in
        FormEnds.open_right (1 + binary_level op) hb bs b (λ f. tree.Binary a op f) (λ g. 1 + max ha g) (omega arith) (omega arith) right (sym ei) (sym hi)
        (λ rest clear. stops_binary level (1 + binary_level op) rest (omega arith) (omega arith) clear)
        (λ least k rest f g behind loose answers.
        leads_same least k behind (rw (is, append_assoc ats (Mark (binary_mark op) ∷ bs) rest)) (rw l)
        (spine (reads_led left (omega arith) (omega arith)) (omega arith) (goes.Binary op) (Mark (binary_mark op)) (bs ++ rest) (part_as.Binary op f, g) behind (binary_goes op (bs ++ rest)) (omega arith) least k (omega arith)
        (binary_taken names n r full op (bs ++ rest) f g behind answers)))
    form_ends (ExprForm.cast level h ts e t a ht ha tts ats l hi is ei ty right) deep =
        FormEnds.open_right cast_level ha ats a (λ f. tree.Cast t f) (λ g. 1 + max ht g) (omega arith) (omega arith) right (sym ei) (sym hi) (λ rest clear. stops_prefix level cast_level rest (omega arith) (omega arith) clear)
        (λ least k rest f g behind loose answers. leads_same least k behind (rw is (simp append_assoc)) (rw l) (cast_leads names r n least k full (omega arith) ty (ats ++ rest) f g behind answers))
    form_ends (ExprForm.pre_increment level h ts e a ha ats l hi is ei right) deep =
        FormEnds.open_right unary_level ha ats a tree.PreIncrement (λ g. 1 + g) (omega arith) (omega arith) right (sym ei) (sym hi) (λ rest clear. stops_prefix level unary_level rest (omega arith) (omega arith) clear)
        (λ least k rest f g behind loose answers. leads_same least k behind (rw is) (rw l) (pre_increment_leads names r n least k (ats ++ rest) f g behind answers))
    form_ends (ExprForm.pre_decrement level h ts e a ha ats l hi is ei right) deep =
        FormEnds.open_right unary_level ha ats a tree.PreDecrement (λ g. 1 + g) (omega arith) (omega arith) right (sym ei) (sym hi) (λ rest clear. stops_prefix level unary_level rest (omega arith) (omega arith) clear)
        (λ least k rest f g behind loose answers. leads_same least k behind (rw is) (rw l) (pre_decrement_leads names r n least k (ats ++ rest) f g behind answers))
    form_ends (ExprForm.unary level h ts e a op ha ats l hi is ei right) deep =
        FormEnds.open_right cast_level ha ats a (λ f. tree.Unary op f) (λ g. 1 + g) (omega arith) (omega arith) right (sym ei) (sym hi) (λ rest clear. stops_prefix level cast_level rest (omega arith) (omega arith) clear)
        (λ least k rest f g behind loose answers. leads_same least k behind (rw is) (rw l) (unary_leads names r n least k op (ats ++ rest) f g behind answers))
    form_ends (ExprForm.sizeof_expression level h ts e a ha ats l hi is ei right) deep =
        FormEnds.open_right unary_level ha ats a tree.SizeofExpr (λ g. 1 + g) (omega arith) (omega arith) right (sym ei) (sym hi) (λ rest clear. stops_prefix level unary_level rest (omega arith) (omega arith) clear)
        (λ least k rest f g behind loose answers. leads_same least k behind (rw is) (rw l) (sizeof_leads names r n least k (ats ++ rest) f g behind (opens_no_type right (omega arith) rest) answers))
    form_ends (ExprForm.sizeof_type level h ts e t ht tts l hi is ei ty) deep =
        FormEnds.closed (λ least k rest loose. leads_same least k rest (rw is (simp append_assoc)) (rw (l, ei, hi)) (sizeof_type_leads names r n least k full (omega arith) ty rest))
    form_ends (ExprForm.index level h ts e a i ha ii ats its l hi is ei left place) deep =
        spine_closed (reads_led left (omega arith) (omega arith)) (omega arith) goes.Index (Mark mark.LeftBracket) (its ++ Mark mark.RightBracket ∷ []) (part_as.Index i, ii) level h ts e (λ rest. refl) (omega arith) l refl ei hi
        (is ∙ append_assoc ats (Mark mark.LeftBracket ∷ its) (Mark mark.RightBracket ∷ [])) (λ rest. rw (append_assoc its (Mark mark.RightBracket ∷ []) rest) (index_taken names n r full (omega arith) place rest))
    form_ends (ExprForm.call level h ts e f arguments hf ha fs ats l hi is ei left given) deep =
        spine_closed (reads_led left (omega arith) (omega arith)) (omega arith) goes.Call (Mark mark.LeftParenthesis) (ats ++ Mark mark.RightParenthesis ∷ []) (part_as.Call arguments, ha) level h ts e (λ rest. refl) (omega arith) l refl ei hi is
        (λ rest. rw (append_assoc ats (Mark mark.RightParenthesis ∷ []) rest) (call_taken names n r full (omega arith) given rest))
    form_ends (ExprForm.member level h ts e a x ha ats l hi free is ei left) deep =
        spine_closed (reads_led left (omega arith) (omega arith)) (omega arith) goes.Member (Mark mark.Dot) (Name x ∷ []) (part_as.Member x, 0) level h ts e (λ rest. refl) (omega arith) l refl ei (omega arith) is
        (λ rest. member_taken names n r full x rest free)
    form_ends (ExprForm.arrow level h ts e a x ha ats l hi free is ei left) deep =
        spine_closed (reads_led left (omega arith) (omega arith)) (omega arith) goes.Arrow (Mark mark.Arrow) (Name x ∷ []) (part_as.Arrow x, 0) level h ts e (λ rest. refl) (omega arith) l refl ei (omega arith) is
        (λ rest. arrow_taken names n r full x rest free)
    form_ends (ExprForm.post_increment level h ts e a ha ats l hi is ei left) deep =
        spine_closed (reads_led left (omega arith) (omega arith)) (omega arith) goes.Increment (Mark mark.Increment) [] (part_as.Increment, 0) level h ts e (λ rest. refl) (omega arith) l refl ei (omega arith) is
        (λ rest. increment_taken names n r full rest)
    form_ends (ExprForm.post_decrement level h ts e a ha ats l hi is ei left) deep =
        spine_closed (reads_led left (omega arith) (omega arith)) (omega arith) goes.Decrement (Mark mark.Decrement) [] (part_as.Decrement, 0) level h ts e (λ rest. refl) (omega arith) l refl ei (omega arith) is
        (λ rest. decrement_taken names n r full rest)
    form_ends (ExprForm.identifier level h ts e x l hi free is ei) deep = FormEnds.closed (λ least k rest loose. leads_same least k rest (rw is) (rw (l, ei, hi)) (name_leads names r n least k x rest free))
    form_ends (ExprForm.number level h ts e m l hi is ei) deep = FormEnds.closed (λ least k rest loose. leads_same least k rest (rw is) (rw (l, ei, hi)) (number_leads names r n least k m rest))
    form_ends (ExprForm.text level h ts e bytes l hi is ei) deep = FormEnds.closed (λ least k rest loose. leads_same least k rest (rw is) (rw (l, ei, hi)) (text_leads names r n least k bytes rest))

  read_done : (least h : ℕ) (ts : Kinds) (e : Expr) (rest : Kinds) → Stops least rest → Led names n r least h e least 0 ts rest → level_in names r n least 0 (ts ++ rest) ≡ Some ((e, h), rest)
  read_done least h ts e rest stops led = led.leads ∙ (close_done names r n least led.o rest led.fits stops ∙ rw (led.expr, led.height))

  pub reads_taken : (least h : ℕ) (ts : Kinds) (e : Expr) → least ≤ primary_level → h ≤ suc n → ExprReads names least h ts e → Takes (level_reader names r n least) (Stops least) h ts e
  unfolding level_reader
  reads_taken least h ts e lp deep read rest stops = read_done least h ts e rest stops (reads_led read lp deep least 0 rest (omega arith) (clear_of least least rest (omega arith) stops))

-- the reader of the next depth takes the expressions
pub expr_step : (names : List (List ℕ)) (n : ℕ) (r : Readers) → AreComplete names n r → PartShrinks names r → (least h : ℕ) (ts : Kinds) (e : Expr) → least ≤ primary_level → h ≤ suc n → ExprReads names least h ts e
    → Takes (level_reader names r n least) (Stops least) h ts e
expr_step names n r full shrinks = reads_taken names n r full shrinks
