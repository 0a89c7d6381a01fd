-- Arguments, one behind the other.
use Rattle.std.proofs.Common.{◌≡◌, ◌∙◌, ℕ, ◌+◌, ◌<◌, ◌≤◌, List, [], ◌∷◌, ◌++◌, length, get_or, drop, map, ap, sym, refl, subst, arith, append_assoc, append-nil, length-append, Ok}
use Rattle.std.proofs.lemmas.List.{drop_all, drop_more}
use Rattle.c_types.specs.declared.ty.Ty.{Ty}
use Rattle.c_typed.specs.declared.expression.TypedExpr.{TypedExpr}
use Rattle.elab_rows.specs.Values.{Part, converted_part, converted_parts, part}
use Rattle.elab_rows.specs.declared.scope.Scope.{Scope}
use Rattle.elab_rows.specs.Calls.{Listed, arguments}
use Rattle.elab_emit.specs.Emits.{IsSound, Outcome, Stops, code_of}
use Rattle.elab_rows.specs.Made.{Code, behind}
use Rattle.elab_emit.specs.declared.emitter.Emitter.{Emitter}
use Rattle.elab_emit.specs.declared.emitter.Trouble.{Trouble}
use Rattle.elab_emit.specs.declared.emitter.Trouble.TheVariants.{TooLong, Memory}
use Rattle.elab_parts.specs.inner.Lists.{ArgumentsOutcome, Reaches, list_of}

pub reaches_start : (start : Emitter) (parts : List Code) → IsSound start → Reaches start (list_of start parts) [] start (list_of start parts)
reaches_start start parts s = record { code = refl; results = refl; register = refl; slot = refl; sound = s }

pub reaches_end : (start now : Emitter) (all : Listed) (found : List ℕ) → Reaches start all found now (list_of now []) → ArgumentsOutcome start all (Ok found) now
reaches_end start now all found h = (
  record {
    added = sym (h.code ∙ append-nil now.code);
    next_register = sym h.register;
    next_slot = sym h.slot;
  },
  sym (h.results ∙ append-nil found),
)

module _ (start now : Emitter) (all : Listed) (found : List ℕ) (a : Code) (others : List Code)
    (h : Reaches start all found now (list_of now (a ∷ others))) where
  pub reaches_step : (next : Emitter) (r : ℕ) → Outcome now (code_of now a) (Ok r) next → IsSound next
      → Reaches start all (found ++ r ∷ []) next (list_of next others)
  reaches_step next r k s =
      let x = code_of now a in
      let rest : Listed = arguments others (length now.code + length x.code) x.register x.slot in
      let long : length next.code ≡ length now.code + length x.code = ap length k.0.added ∙ length-append now.code x.code in
      let same : list_of next others ≡ rest = λ i. arguments others (long i) (k.0.next_register i) (k.0.next_slot i) in
      let made : Reaches start all (found ++ r ∷ []) next rest =
      record {
        code = h.code ∙ sym (append_assoc now.code x.code rest.code) ∙ ap (λ c. c ++ rest.code) (sym k.0.added);
        results = h.results ∙ (λ i. found ++ sym k.1 i ∷ rest.results) ∙ sym (append_assoc found (r ∷ []) rest.results);
        register = h.register;
        slot = h.slot;
        sound = s;
      } in
      subst (λ l. Reaches start all (found ++ r ∷ []) next l) (sym same) made

  pub reaches_stop : (e : Trouble) → Stops now (code_of now a).code e → Stops start all.code e
  reaches_stop Memory k = tt
  reaches_stop TooLong k =
      let x = code_of now a in
      let rest : Listed = arguments others (length now.code + length x.code) x.register x.slot in
      omega (arith, k, ap length h.code, length-append start.code all.code, length-append now.code (x.code ++ rest.code), length-append x.code rest.code)

-- ---- the same, by the place of an argument in the list

module _ (scope : Scope) (start now : Emitter) (all : Listed) (found : List ℕ) where
  abbrev Left : Emitter → List ℕ → List TypedExpr → List Ty → Type 0
  Left e rs xs ts = Reaches start all rs e (list_of e (converted_parts (map (part scope) xs) ts))

  no_parts : (ps : List Part) → converted_parts ps [] ≡ []
  no_parts [] = refl
  no_parts (p ∷ ps) = refl

  -- there is no parameter left
  pub arguments_short : (xs : List TypedExpr) (ts : List Ty) → length ts ≡ 0 → Left now found xs ts → ArgumentsOutcome start all (Ok found) now
  arguments_short xs [] none h =
      reaches_end start now all found (subst (λ ps. Reaches start all found now (list_of now ps)) (no_parts (map (part scope) xs)) h)
  arguments_short xs (t ∷ ts) none h = absurd (omega arith)

  -- there is no argument left
  pub arguments_done : (args : List TypedExpr) (i : ℕ) (ts : List Ty) → length args ≤ i → Left now found (drop i args) ts → ArgumentsOutcome start all (Ok found) now
  arguments_done args i ts behind h =
      reaches_end start now all found
      (subst (λ xs. Reaches start all found now (list_of now (converted_parts (map (part scope) xs) ts))) (drop_all i args behind) h)

  one_left : (args : List TypedExpr) (i : ℕ) (e : TypedExpr) (t : Ty) (ts us : List Ty) → i < length args → e ≡ get_or args i e → ts ≡ t ∷ us
      → Left now found (drop i args) ts → Left now found (e ∷ drop (i + 1) args) (t ∷ us)
  one_left args i e t ts us within is split h =
      subst (λ l. Left now found (e ∷ drop (i + 1) args) l) split
      (subst (λ xs. Left now found xs ts) (drop_more args i e within ∙ ap (λ x. x ∷ drop (i + 1) args) (sym is)) h)

  -- one argument more
  pub arguments_next : (args : List TypedExpr) (i : ℕ) (e : TypedExpr) (t : Ty) (ts us : List Ty) (next : Emitter) (r : ℕ) (more : List ℕ)
      → i < length args → e ≡ get_or args i e → ts ≡ t ∷ us → Left now found (drop i args) ts
      → Outcome now (code_of now (converted_part (part scope e) t)) (Ok r) next → IsSound next → more ≡ found ++ r ∷ []
      → Left next more (drop (i + 1) args) us
  arguments_next args i e t ts us next r more within is split h k s pushed =
      subst (λ rs. Left next rs (drop (i + 1) args) us) (sym pushed)
      (reaches_step start now all found (converted_part (part scope e) t) (converted_parts (map (part scope) (drop (i + 1) args)) us)
      (one_left args i e t ts us within is split h) next r k s)

  pub arguments_stop : (args : List TypedExpr) (i : ℕ) (e : TypedExpr) (t : Ty) (ts us : List Ty) (x : Trouble)
      → i < length args → e ≡ get_or args i e → ts ≡ t ∷ us → Left now found (drop i args) ts
      → Stops now (code_of now (converted_part (part scope e) t)).code x → Stops start all.code x
  arguments_stop args i e t ts us x within is split h k =
      reaches_stop start now all found (converted_part (part scope e) t) (converted_parts (map (part scope) (drop (i + 1) args)) us)
      (one_left args i e t ts us within is split h) x k
