-- Functions that are added one at a time, and the limits of the whole program.
use Rattle.std.proofs.Common.{◌≡◌, ◌∙◌, suc, ◌+◌, ◌<◌, ◌≤◌, Bool, true, false, not, ◌&&◌, ◌||◌, nat_le, List, [], ◌∷◌, ◌++◌, length, map, ap, refl, sym, length-append, Option, Some, None, Ok, Err}
use Rattle.std.proofs.lemmas.Bool.{le-leb}
use Rattle.elab_emit.specs.declared.emitter.Trouble.{Trouble}
use Rattle.elab_emit.specs.declared.emitter.Trouble.TheVariants.{TooLong, Memory}
use Rattle.core_ir.specs.declared.program.Function.{Function}
use Rattle.core_ir.specs.declared.program.Program.{Program}
use Rattle.core_ir.specs.Layout.{global_units}
use Rattle.core_ir.specs.Valid.{most_frame_units, most_functions, most_global_units, most_instructions, most_registers, most_slots}
use Rattle.elab_pieces.specs.Limits.{all_within, first_limit, unless}
use Rattle.c_typed.specs.declared.unit.Typed.{Typed}
use Rattle.elab_pieces.specs.Functions.{function_code}
use Rattle.elab_pieces.specs.Program.{definitions, file_scope, function_list, name_of}
use Rattle.elab.specs.declared.error.ElabRefusal.{ElabRefusal}
use Rattle.elab.specs.declared.error.ElabRefusal.TheVariants as refusal
use Rattle.elab_pieces.specs.declared.limit.LimitName.{LimitName}
use Rattle.elab_pieces.specs.declared.limit.LimitName.TheVariants as limit
use Rattle.elab.specs.declared.frames.Frame.{Frame}
use Rattle.elab.specs.declared.functions.Elaborated.{Elaborated}
use Rattle.elab.specs.declared.limits.Passed.{Passed}
use Rattle.elab.specs.declared.programs.Functions.{Functions}
use Rattle.elab.specs.inner.Programs.{AddsAll, FunctionOutcome, FunctionsOutcome, HoldsAll, IsFrame, IsFunction, LayoutOutcome, entry_of, first_passed, functions_limit, is_laid_out, noted, passed_by}
use Rattle.elab.specs.Refusals.{RefusesOnly, refusal_of}
use Rattle.elab.proofs.LimitRows.{above, behind_code, behind_long, code_first, one_above, passed_more, some_above, within_more}

-- whether a frame is there tells whether it is small enough
frame_tells : (f : Function) (o : Option Frame) → IsFrame f o → is_laid_out o ≡ nat_le f.frame_units most_frame_units
frame_tells f (Some x) h = sym (le-leb f.frame_units most_frame_units h.2)
frame_tells f None h = sym (above f.frame_units most_frame_units h)

or_right : (a : Bool) → a || true ≡ true
or_right true = refl
or_right false = refl

or_left : (a b : Bool) → a || b ≡ false → a ≡ false
or_left false b h = refl
or_left true b h = absurd (cc)

-- ---- one function more

module _ (old : Functions) (fs : List Function) (h : HoldsAll old fs) (f : Function) (made : Elaborated) (i : IsFunction f made) where
  code_more : all_within most_instructions (λ g. length g.body) (fs ++ f ∷ []) ≡ true
  code_more =
      within_more most_instructions (λ g. length g.body) fs f
      ∙ (λ j. h.code j && le-leb (length f.body) most_instructions i.within j)

  module _ (passed : Passed) (p : passed ≡ noted old.passed made.body.registers made.body.out.slot (is_laid_out made.frame)) where
    passed_all : passed ≡ passed_by (fs ++ f ∷ [])
    passed_all =
        p ∙ (λ j. noted (h.passed j) (i.registers j) (i.slots j) (frame_tells f made.frame i.frame j)) ∙ passed_more fs f

    kept : passed.frame ≡ false → old.list ≡ fs
    kept e =
        let before : old.passed.frame || not (is_laid_out made.frame) ≡ false = ap (λ x. x.frame) (sym p) ∙ e in
        h.list (or_left old.passed.frame (not (is_laid_out made.frame)) before)

    -- its frame is small enough
    pub holds_more : (list : List Function) → list ≡ old.list ++ f ∷ [] → HoldsAll (record { list = list; passed = passed }) (fs ++ f ∷ [])
    holds_more list e = record {
      passed = passed_all;
      list = λ o. e ∙ ap (λ gs. gs ++ f ∷ []) (kept o);
      code = code_more;
    }

    -- its frame is too large
    pub holds_still : most_frame_units < f.frame_units → HoldsAll (record { list = old.list; passed = passed }) (fs ++ f ∷ [])
    holds_still n = record {
      passed = passed_all;
      list = λ o.
          let never : true ≡ false = sym (or_right old.passed.frame) ∙ ap (λ b. old.passed.frame || not b) (sym (frame_tells f made.frame i.frame ∙ above f.frame_units most_frame_units n)) ∙ ap (λ x. x.frame) (sym p) ∙ o in
          absurd (cc);
      code = code_more;
    }

-- ---- the limits of functions

first_of : (r s u : Bool) (next : Option LimitName) → first_passed (record { registers = not r; slots = not s; frame = not u }) ≡ None → behind_code r s u next ≡ next
first_of true true true next h = refl
first_of false s u next h = absurd (cc)
first_of true false u next h = absurd (cc)
first_of true true false next h = absurd (cc)

first_named : (r s u : Bool) (next : Option LimitName) (w : LimitName)
    → first_passed (record { registers = not r; slots = not s; frame = not u }) ≡ Some w → behind_code r s u next ≡ Some w
first_named true true true next w h = absurd (cc)
first_named false s u next w h = h
first_named true false u next w h = h
first_named true true false next w h = h

no_frame_of : (r s u : Bool) → first_passed (record { registers = r; slots = s; frame = u }) ≡ None → u ≡ false
no_frame_of false false false h = refl
no_frame_of true s u h = absurd (cc)
no_frame_of false true u h = absurd (cc)
no_frame_of false false true h = absurd (cc)

no_frame : (p : Passed) → first_passed p ≡ None → p.frame ≡ false
no_frame p h = no_frame_of p.registers p.slots p.frame h

module _ (x : Functions) (fs : List Function) (h : HoldsAll x fs) where
  abbrev r : Bool
  r = all_within most_registers (λ f. f.registers) fs

  abbrev s : Bool
  s = all_within most_slots (λ f. f.slots) fs

  abbrev u : Bool
  u = all_within most_frame_units (λ f. f.frame_units) fs

  pub none_passed : first_passed x.passed ≡ None → FunctionsOutcome fs (Ok x.list)
  none_passed e = (
    h.list (no_frame x.passed e),
    λ next. behind_long fs next h.code ∙ first_of r s u next (ap first_passed (sym h.passed) ∙ e),
  )

  pub some_passed : (w : LimitName) → first_passed x.passed ≡ Some w → FunctionsOutcome fs (Err (refusal.Limit w))
  some_passed w e = λ next. behind_long fs next h.code ∙ first_named r s u next w (ap first_passed (sym h.passed) ∙ e)

-- a function that is too long
pub long_function : (fs : List Function) (f : Function) (gs : List Function) → most_instructions < length f.body
    → (next : Option LimitName) → functions_limit (fs ++ f ∷ gs) next ≡ Some limit.Code
long_function fs f gs h next = code_first (fs ++ f ∷ gs) next (one_above most_instructions (λ g. length g.body) fs f gs h)

pub long_functions : (fs gs hs : List Function) → all_within most_instructions (λ g. length g.body) gs ≡ false
    → (next : Option LimitName) → functions_limit (fs ++ (gs ++ hs)) next ≡ Some limit.Code
long_functions fs gs hs h next = code_first (fs ++ (gs ++ hs)) next (some_above most_instructions (λ g. length g.body) fs gs hs h)

-- ---- where functions stop

pub adds_fails : (fs : List Function) (f : Function) (e : Trouble) (new : Functions) → FunctionOutcome f (Err e) → AddsAll fs (f ∷ []) (Err (refusal_of e)) new
adds_fails fs f Memory new k = tt
adds_fails fs f TooLong new k = (refl, ap (λ b. b && true) (above (length f.body) most_instructions k))

-- one of many that are added
pub adds_stop : (fs gs hs us vs ws : List Function) → gs ≡ us ++ (vs ++ ws) → (e : ElabRefusal) (new : Functions) → AddsAll hs vs (Err e) new → AddsAll fs gs (Err e) new
adds_stop fs gs hs us vs ws h refusal.Memory new k = tt
adds_stop fs gs hs us vs ws h (refusal.Limit which) new k =
    (k.0, ap (all_within most_instructions (λ g. length g.body)) h ∙ some_above most_instructions (λ g. length g.body) us vs ws k.1)

pub last_stops : (gs : List Function) (f : Function) (e : Trouble) → FunctionOutcome f (Err e) → FunctionsOutcome (gs ++ f ∷ []) (Err (refusal_of e))
last_stops gs f Memory k = tt
last_stops gs f TooLong k = λ next. long_function gs f [] k next

pub all_stop : (gs hs : List Function) (e : ElabRefusal) (new : Functions) → AddsAll [] gs (Err e) new → FunctionsOutcome (gs ++ hs) (Err e)
all_stop gs hs refusal.Memory new k = tt
all_stop gs hs (refusal.Limit which) new k = λ next. long_functions [] gs hs k.1 next ∙ ap (λ w. Some w) (sym k.0)

-- ---- the limits of a program

module _ (p : Program) where
  -- too many functions
  pub many : most_functions < length p.functions → first_limit p ≡ Some limit.Functions
  unfolding first_limit
  many h =
      let e : nat_le (length p.functions) most_functions ≡ false = above (length p.functions) most_functions h in
      ap (λ b. unless b limit.Functions (functions_limit p.functions (unless (nat_le (global_units p.globals) most_global_units) limit.Globals None))) e

  module _ (few : length p.functions ≤ most_functions) where
    abbrev last : Option LimitName
    last = unless (nat_le (global_units p.globals) most_global_units) limit.Globals None

    behind_count : first_limit p ≡ functions_limit p.functions last
    unfolding first_limit
    behind_count = ap (λ b. unless b limit.Functions (functions_limit p.functions last)) (le-leb (length p.functions) most_functions few)

    pub of_functions : (w : LimitName) → ((next : Option LimitName) → functions_limit p.functions next ≡ Some w) → first_limit p ≡ Some w
    of_functions w h = behind_count ∙ h last

    module _ (h : (next : Option LimitName) → functions_limit p.functions next ≡ next) where
      pub of_globals : most_global_units < global_units p.globals → first_limit p ≡ Some limit.Globals
      of_globals g =
          behind_count ∙ h last ∙ ap (λ b. unless b limit.Globals None) (above (global_units p.globals) most_global_units g)

      pub within_all : global_units p.globals ≤ most_global_units → first_limit p ≡ None
      within_all g = behind_count ∙ h last ∙ ap (λ b. unless b limit.Globals None) (le-leb (global_units p.globals) most_global_units g)

  module _ (few : length p.functions ≤ most_functions) where
    pub refuses_functions : (e : ElabRefusal) → FunctionsOutcome p.functions (Err e) → RefusesOnly {A = Program} (first_limit p) (Err e)
    refuses_functions refusal.Memory k = tt
    refuses_functions (refusal.Limit which) k = of_functions few which k

    pub refuses_globals : ((next : Option LimitName) → functions_limit p.functions next ≡ next) → (e : ElabRefusal) → LayoutOutcome p.globals (Err e)
        → RefusesOnly {A = Program} (first_limit p) (Err e)
    refuses_globals h refusal.Memory k = tt
    refuses_globals h (refusal.Limit which) k = of_globals few h k.1 ∙ ap (λ w. Some w) (sym k.0)

-- ---- how many functions there are

map_length : {A B : Type 0} (f : A → B) (xs : List A) → length (map f xs) ≡ length xs
map_length f [] = refl
map_length f (x ∷ xs) = ap (λ n. suc n) (map_length f xs)

pub names_count : (typed : Typed) → length (file_scope typed).functions ≡ length (definitions typed.items)
names_count typed = map_length (λ f. name_of f.declared) (definitions typed.items)

pub functions_count : (typed : Typed) → length (function_list typed) ≡ length (definitions typed.items) + 1
unfolding function_list
functions_count typed =
    length-append (map (function_code (file_scope typed)) (definitions typed.items)) (entry_of typed ∷ [])
    ∙ ap (λ n. n + 1) (map_length (function_code (file_scope typed)) (definitions typed.items))
