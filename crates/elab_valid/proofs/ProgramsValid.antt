-- The program of a typed source is valid.
use Rattle.std.proofs.Common.{◌≡◌, ◌∙◌, ℕ, zero, suc, ◌+◌, ◌*◌, ◌<◌, ◌≤◌, Bool, true, false, not, ◌&&◌, List, [], ◌∷◌, ◌++◌, append_assoc, length, map, take, All, nat_eq, codes, Option, Some, None, option_map, unwrap_or, refl, ap, sym, subst, ⊎_elim, slice_get, arith, length-append}
use Rattle.std.proofs.lemmas.Bool.{eqb-true}
use Rattle.std.proofs.lemmas.List.{length-map}
use Rattle.std.proofs.lemmas.List.Elements.{All-cons, All-contains, All-nil}
use Rattle.std.proofs.lemmas.Option.{same_Some}
use Rattle.std.specs.List.{AllByRecursion, list_all}
use Rattle.c_types.specs.declared.structs.StructDef.{StructDef}
use Rattle.c_types.specs.declared.ty.FnTy.{FnTy, map-FnTy, out-FnTy, out-roll-FnTy}
use Rattle.c_types.specs.declared.ty.Ty.{Ty}
use Rattle.c_types.specs.declared.ty.Ty.TheOpen.{FnTy-F, Ty-F}
use Rattle.c_types.specs.declared.ty.Ty.TheVariants as ty
use Rattle.c_types.specs.Kinds.{function_at, function_of, is_scalar, is_void}
use Rattle.c_types.specs.Same.{same}
use Rattle.c_types.specs.Sound.{function_names_below, function_step, names_below}
use Rattle.c_types.specs.Units.{exact_units, has_units}
use Rattle.c_typed.specs.declared.expression.Declared.{out-Declared}
use Rattle.c_typed.specs.declared.statement.TypedInit.{TypedInit}
use Rattle.c_typed.specs.declared.statement.TypedInit.TheVariants as init
use Rattle.c_typed.specs.declared.unit.Local.{Local as Variable}
use Rattle.c_typed.specs.declared.unit.Typed.{Typed}
use Rattle.c_typed.specs.declared.unit.TypedFn.{TypedFn}
use Rattle.c_typed.specs.declared.unit.TypedItem.{TypedItem}
use Rattle.c_typed.specs.declared.unit.TypedItem.TheVariants as item
use Rattle.c_scope.specs.Definitions.{is_main_type}
use Rattle.c_typed_rows.specs.Contexts.{Context, defined_as, global_type}
use Rattle.c_typed_rows.specs.Initialisers.{IsTypedInit}
use Rattle.c_typed_rows.specs.Sources as rows
use Rattle.c_typed_rows.specs.Sources.{HasMain, IsTyped, IsTypedFn, IsTypedItem, file_context, function_context, signature}
use Rattle.c_typed_rows.specs.Statements.{IfInit, jumps_out}
use Rattle.core_ir.specs.declared.instr.Instr.TheVariants.{Call}
use Rattle.core_ir.specs.declared.program.Function.{Function}
use Rattle.core_ir.specs.declared.program.Local.{Local as FrameLocal}
use Rattle.core_ir.specs.declared.program.Program.{Program}
use Rattle.core_ir.specs.Instructions.{outline_of}
use Rattle.core_ir.specs.Layout.{first_address, global_units}
use Rattle.core_ir.specs.Order.{IsWellFormed}
use Rattle.core_ir.specs.Typed.{IsTypedBody, IsTypedCode}
use Rattle.core_ir.specs.Valid.{IsInRange, IsValid, IsValidFunction}
use Rattle.elab_rows.specs.declared.scope.Scope.{Scope}
use Rattle.elab_rows.specs.declared.scope.Standing.{Standing}
use Rattle.elab_rows.specs.declared.scope.Standing.TheVariants as stands
use Rattle.elab_rows.specs.Addresses.{global_address}
use Rattle.elab_rows.specs.Calls.{call_code}
use Rattle.elab_rows.specs.Made.{Code}
use Rattle.elab_rows.specs.Scope.{function_number, is_slot_local, slots_behind, standing_of}
use Rattle.elab_rows.specs.Units.{units}
use Rattle.elab_pieces.specs.Entry.{entry_code, entry_function, entry_type, globals_initialised, optional_given, strings_initialised}
use Rattle.elab_pieces.specs.Functions.{frame_locals, function_code, function_made}
use Rattle.elab_pieces.specs.Globals as pieces
use Rattle.elab_pieces.specs.Globals.{Global, global_list, laid_out, string_type}
use Rattle.elab_pieces.specs.Initialisers.{given_initialised}
use Rattle.elab_pieces.specs.Lines.{PieceCode, all_joined, full, joined, led}
use Rattle.elab_pieces.specs.Program.{definitions, entry_scope, file_scope, function_list, program_of}
use Rattle.elab_pieces.specs.Statements.{returned_nothing}
use Rattle.elab_laws.specs.Fitting.{EachIs, IsFit}
use Rattle.elab_laws.specs.Touching.{IsTouched}
use Rattle.elab_piece_laws.specs.Numbered.{Numbers}
use Rattle.elab_valid.proofs.Names.{FunctionFits, GlobalFits, ScopeFits, StandingFits, type_of_global}
use Rattle.elab_valid.specs.Sources.{TypesFit}
use Rattle.c_typed_rows.specs.Types.{FunctionTypes, ItemTypes, OptionalInitTypes}
use Rattle.elab_valid.proofs.FunctionsValid as functions
use Rattle.elab_valid.proofs.FunctionsValid.{Defined, HasPlaces, each-all}
use Rattle.elab_valid.proofs.InitialisersSound as initialisers
use Rattle.elab_valid.proofs.KeptRows as kept
use Rattle.elab_valid.proofs.LaidVariables as laid
use Rattle.elab_valid.proofs.LaidVariables.{AreLaid, LocalLaid, StandsIn, frame_count, out-Char}
use Rattle.elab_valid.proofs.LimitsHold.{HoldsLimits, IsWithinOf}
use Rattle.elab_valid.proofs.ListPlaces.{at-back, at-front, at-length, mapped-at, mapped-back}
use Rattle.elab_valid.proofs.MemberParts.{passes-at}
use Rattle.elab_valid.proofs.MetParts.{Laws, Slots}
use Rattle.elab_valid.proofs.NamedTypes.{function-named, function-out, named-by, params-named, result-named, void-named}
use Rattle.elab_valid.proofs.NamesMet.{global-memory}
use Rattle.elab_valid.proofs.RegisterTypes.{Typed as Registers, Types, callee-is}
use Rattle.elab_valid.proofs.SlotTypes.{StandTyped, at-first, frame-type, frame_types, list-has, listed, slot_types, stands-typed}
use Rattle.elab_valid.proofs.SoundPieces as pieces_sound
use Rattle.elab_valid.proofs.SoundPieces.{Closed, PieceLaws, SoundFull, SoundPiece}
use Rattle.elab_valid.proofs.SourceNames as names
use Rattle.elab_valid.proofs.SourceNames.{GlobalHolds}
use Rattle.elab_valid.proofs.TextScalars.{char-array-integers}
use Rattle.elab_valid.proofs.TypedBodies as bodies
use Rattle.elab_valid.proofs.TypedBodies.{EntryFree}
use Rattle.elab_valid.proofs.TypedCalls as typed_calls
use Rattle.elab_valid.proofs.TypedPieces.{LinesTyped}
use Rattle.elab_valid.proofs.TypeKinds.{either, first, out-Array, out-Function, second}

-- ---- lists

pub at-end : {A B : Type 0} (g : A → B) (xs : List A) (x : B) → slice_get (map g xs ++ x ∷ []) (length xs) ≡ Some x
at-end g [] x = refl
at-end g (y ∷ ys) x = at-end g ys x

not-holds : (b : Bool) → not b ≡ true → b ≡ false
not-holds true h = cc
not-holds false h = refl

-- ---- units of globals

abbrev total : List StructDef → List Ty → ℕ
total defs [] = 0
total defs (t ∷ ts) = units defs t + total defs ts

total-is : (defs : List StructDef) (ts : List Ty) (at : ℕ) → global_units (laid_out defs at ts) ≡ total defs ts
total-is defs [] at = refl
total-is defs (t ∷ ts) at = ap (λ n. units defs t + n) (total-is defs ts (at + units defs t))

total-append : (defs : List StructDef) (ts us : List Ty) → total defs us ≤ total defs (ts ++ us)
total-append defs [] us = omega arith
total-append defs (t ∷ ts) us = omega (arith, total-append defs ts us)

char-is : (defs : List StructDef) (n : ℕ) → exact_units defs (ty.Array ty.Char n) ≡ Some (1 * n)
char-is defs n = laid.array-units defs n

string-laid : (defs : List StructDef) (n : ℕ) → units defs (ty.Array ty.Char n) ≤ 65536 → has_units defs (ty.Array ty.Char n) ≡ true
string-laid defs n h = laid.few-units defs (ty.Array ty.Char n) (1 * n) (char-is defs n) h

char-named : (count n : ℕ) → names_below count (ty.Array ty.Char n) ≡ true
char-named count n = named-by count (ty.Array ty.Char n) (Ty-F.Array ty.Char n) (out-Array ty.Char n) (named-by count ty.Char Ty-F.Char out-Char refl)

strings-laid : (defs : List StructDef) (ss : List (List ℕ)) → total defs (map string_type ss) ≤ 65536 → AreLaid defs (map string_type ss)
strings-laid defs [] h = tt
strings-laid defs (s ∷ ss) h = ((string-laid defs (length s + 1) (omega (arith, h)), char-named (length defs) (length s + 1)), strings-laid defs ss (omega (arith, h)))

plain-function : (count : ℕ) → function_names_below count entry_type ≡ true
plain-function count =
    function-out count entry_type ∙ ap (λ g. function_step (map-FnTy Ty FnTy Bool Bool (names_below count) (function_names_below count) g)) (out-roll-FnTy (record { result = ty.Void; params = [] }))
    ∙ ap (λ (b : Bool). b && true) (void-named count)

module _ (given_laws : PieceLaws) (t : Typed) (test : Ty → Bool) (typed : IsTyped t) (fit : TypesFit t test) where
  -- the entry function has no variables
  abbrev laws : PieceLaws
  laws = record given_laws { base = record given_laws.base { known = [] } }

  abbrev base : Laws
  base = laws.base

  abbrev fs : List TypedFn
  fs = definitions t.items

  abbrev vars : List Global
  vars = pieces.globals t.items

  abbrev file : Scope
  file = file_scope t

  abbrev entry_file : Scope
  entry_file = entry_scope t

  abbrev entry : Function
  entry = function_made entry_type [] (entry_code entry_file vars t.strings 0 0)

  abbrev types : List Ty
  types = map (λ (g : Global). g.ty) vars

  abbrev program : Program
  program = record {
    functions = map (function_code file) fs ++ entry ∷ [];
    globals = laid_out t.structs first_address (types ++ map string_type t.strings);
    structs = t.structs;
    entry = length fs;
  }

  abbrev context : Context
  context = record {
    structs = t.structs;
    functions = map signature (rows.definitions t.items);
    globals = map (λ (g : rows.Global). g.ty) (rows.globals t.items);
    strings = t.strings;
    locals = [];
    result = ty.Void;
  }

  items : AllByRecursion (IsTypedItem context) t.items
  unfolding file_context
  items = typed.items

  main : HasMain context
  unfolding file_context
  main = typed.main

  abbrev Holds : Global → Type 0
  Holds = GlobalHolds context t.structs refl test fit.tells

  held : AllByRecursion Holds vars
  held = names.globals-hold context t.structs refl test fit.tells t.items items fit.types

  -- ---- names of the file

  global-count : length program.globals ≡ length vars + length t.strings
  global-count =
      laid.laid-length t.structs first_address (types ++ map string_type t.strings) ∙ length-append types (map string_type t.strings)
      ∙ (λ i. length-map vars (λ (g : Global). g.ty) i + length-map t.strings string_type i)

  held-units : (vs : List Global) (n : ℕ) (u : Ty) → AllByRecursion Holds vs → slice_get (map (λ (g : Global). g.ty) vs) n ≡ Some u → (n < length vs) × (has_units t.structs u ≡ true)
  held-units [] n u h e = absurd (cc)
  held-units (v ∷ vs) zero u h e = (omega arith, subst (λ z. has_units t.structs z ≡ true) (same_Some v.ty u e) h.0.units)
  held-units (v ∷ vs) (suc n) u h e = let r = held-units vs n u h.1 e in (omega (arith, r.0), r.1)

  global-is : (n : ℕ) (u : Ty) → slice_get types n ≡ Some u → type_of_global program n ≡ Some u
  global-is n u e = laid.laid-type t.structs first_address (types ++ map string_type t.strings) n ∙ at-front types (map string_type t.strings) n u e

  string-is : (n : ℕ) (bytes : List ℕ) → slice_get t.strings n ≡ Some bytes → type_of_global program (length vars + n) ≡ Some (string_type bytes)
  string-is n bytes e =
      let count : length types ≡ length vars = length-map vars (λ (g : Global). g.ty) in
      laid.laid-type t.structs first_address (types ++ map string_type t.strings) (length vars + n)
      ∙ at-back types (map string_type t.strings) n (length vars + n) (omega (arith, count)) ∙ mapped-at string_type t.strings n bytes e

  global-fits : (n : ℕ) (u : Ty) → global_type context n ≡ Some u → GlobalFits program n u
  global-fits n u e =
      let h = held-units vars n u held (subst (λ ts. slice_get ts n ≡ Some u) (names.global-types t.items) e) in
      record { there = omega (arith, h.0, global-count); is = global-is n u (subst (λ ts. slice_get ts n ≡ Some u) (names.global-types t.items) e); units = h.1 }

  function-fits : (scope : Scope) → scope.functions ≡ file.functions → (name : List ℕ) (g : FnTy) → defined_as context.functions name ≡ Some g → FunctionFits program scope name g
  unfolding function_number
  function-fits scope same_functions name g e =
      let n = names.numbered file fs (entry ∷ []) name g (subst (λ ds. defined_as (map signature ds) name ≡ Some g) (names.same-definitions t.items) e) in
      let is : function_number scope.functions name ≡ n.number = ap (λ ns. function_number ns name) same_functions ∙ ap (λ o. unwrap_or o 0) n.at in
      record {
        function = n.function;
        there = ap (slice_get program.functions) is ∙ n.there;
        ty = n.ty;
        other = λ e. let below : n.number < length fs = n.below in let same : n.number ≡ length fs = sym is ∙ e in omega arith;
      }

  string-fits : (n : ℕ) (bytes : List ℕ) → slice_get t.strings n ≡ Some bytes → length vars + n < length program.globals
  string-fits n bytes e = let lt = at-length t.strings n bytes e in omega (arith, lt, global-count)

  -- ---- definitions

  module _ (f : TypedFn) (known : IsTypedFn context f) (types_fit : FunctionTypes test f) where
    abbrev k : Context
    k = function_context context f

    abbrev fn : FnTy
    fn = rows.type_of f

    abbrev known_types : List Ty
    known_types = slot_types (length (out-FnTy fn).params) f.locals

    abbrev own : PieceLaws
    own = record laws { base = record laws.base { known = known_types } }

    type-of : function_of (out-Declared f.declared).ty ≡ Some fn
    unfolding function_of
    type-of = ap function_of known.ty ∙ ap function_at (out-Function fn)

    tested : test (out-Declared f.declared).ty ≡ true
    tested = names.declared-test test f.declared types_fit.declared

    named : function_names_below (length t.structs) fn ≡ true
    named = function-named (length t.structs) (out-Declared f.declared).ty fn (fit.tells.named (out-Declared f.declared).ty tested) type-of

    slot-parts : (l : Variable) → is_slot_local l ≡ true → (is_scalar l.ty ≡ true) × (l.is_addressed ≡ false)
    unfolding is_slot_local
    slot-parts l h = (first (is_scalar l.ty) (not l.is_addressed) h, not-holds l.is_addressed (second (is_scalar l.ty) (not l.is_addressed) h))

    stand-fits : (g : Function) (a b : ℕ) (l : Variable) (s : Standing) → a ≤ g.slots → b ≤ length g.locals → StandsIn a b l s → g.locals ≡ frame_locals t.structs 0 f.locals → StandTyped known_types (frame_types f.locals) 0 0 l.ty s → StandingFits known_types g l s
    stand-fits g a b l (stands.Slot s) ha hb h frame m = let both = slot-parts l h.1 in (omega (arith, h.0, ha), both.0, both.1, at-first known_types s l.ty m)
    stand-fits g a b l (stands.Frame v) ha hb h frame m =
        (omega (arith, h, hb), ap (λ ls. option_map (λ (x : FrameLocal). x.ty) (slice_get ls v)) frame ∙ frame-type t.structs f.locals 0 v ∙ at-first (frame_types f.locals) v l.ty m)

    scope-fits : (g : Function) → HasPlaces own program k file fn f.locals f.block test fit.tells g → ScopeFits known_types k (functions.scope own program k file fn f.locals f.block test fit.tells) program g
    unfolding standing_of
    scope-fits g places = record {
      structs_of_scope = refl;
      structs_of_context = refl;
      sound = fit.sound;
      locals = λ n l e.
          let s = laid.stands-at (length (out-FnTy fn).params) 0 0 f.locals n l e in
          let frames : length g.locals ≡ frame_count f.locals = ap length places.locals ∙ laid.frame-length t.structs f.locals 0 in
          record {
            standing = s.0;
            there = s.1;
            fits = stand-fits g (slots_behind (length (out-FnTy fn).params) 0 f.locals) (0 + frame_count f.locals) l s.0 places.slots (omega (arith, frames)) s.2 places.locals (stands-typed (length (out-FnTy fn).params) 0 0 f.locals n l s.0 e s.1);
            units = passes-at (λ (v : Variable). has_units t.structs v.ty) f.locals n l known.units e;
          };
      globals = global-fits;
      functions = function-fits (functions.scope own program k file fn f.locals f.block test fit.tells) refl;
      strings = string-fits;
      string_types = string-is;
    }

    all-laid : (vs : List Variable) → list_all (λ (v : Variable). has_units t.structs v.ty) vs ≡ true → AllByRecursion (λ (v : Variable). test v.ty ≡ true) vs → AllByRecursion (LocalLaid t.structs) vs
    all-laid [] h m = tt
    all-laid (v ∷ vs) h m = (
      record { units = first (has_units t.structs v.ty) (list_all (λ (v : Variable). has_units t.structs v.ty) vs) h; named = fit.tells.named v.ty m.0; some = fit.tells.some v.ty m.0 },
      all-laid vs (second (has_units t.structs v.ty) (list_all (λ (v : Variable). has_units t.structs v.ty) vs) h) m.1,
    )

    result-scalar : is_void (out-FnTy fn).result ≡ false → is_scalar (out-FnTy fn).result ≡ true
    result-scalar nonvoid = ⊎_elim (λ s. s) (λ v. absurd (let z : is_void (out-FnTy fn).result ≡ true = v in cc)) (either (is_scalar (out-FnTy fn).result) (is_void (out-FnTy fn).result) known.allowed.result)

    defined : Defined own program k file fn f.locals f.block test fit.tells
    defined = record {
      structs = refl;
      names = scope-fits;
      result = refl;
      returns = λ g nonvoid. (result-scalar nonvoid, result-named (length t.structs) fn named);
      first = known.params;
      few = fit.tells.few fn (subst (λ u. test u ≡ true) known.ty tested);
      named = named;
      parameters_named = params-named (length t.structs) fn named;
      laid = all-laid f.locals known.units types_fit.locals;
      typed = known.block;
      fit = types_fit.block;
      inside = not-holds (jumps_out f.block) known.jumps;
      known = refl;
    }

    definition-valid : IsWithinOf (function_code file f) → IsValidFunction program (function_code file f)
    unfolding function_code
    definition-valid limits =
        functions.function-valid own program k file fn f.locals f.block test fit.tells defined
        (record { instructions = limits.instructions; registers = limits.registers; slots = limits.slots; frame_units = limits.frame_units })

    definition-typed : IsTypedBody program (function_code file f)
    unfolding function_code
    definition-typed = functions.function-typed own program k file fn f.locals f.block test fit.tells defined

    definition-free : EntryFree program (function_code file f)
    unfolding function_code
    definition-free = functions.function-free own program k file fn f.locals f.block test fit.tells defined

  abbrev Known : TypedFn → Type 0
  Known f = IsTypedFn context f × FunctionTypes test f

  known-of : (is : List TypedItem) → AllByRecursion (IsTypedItem context) is → AllByRecursion (ItemTypes test) is → AllByRecursion Known (definitions is)
  known-of [] h m = tt
  known-of (item.Decl d ∷ is) h m = known-of is h.1 m.1
  known-of (item.Typedef s ds ∷ is) h m = known-of is h.1 m.1
  known-of (item.Function f ∷ is) h m = ((h.0, m.0), known-of is h.1 m.1)

  -- ---- the entry function

  entry-names : ScopeFits [] context entry_file program entry
  entry-names = record {
    structs_of_scope = refl;
    structs_of_context = refl;
    sound = fit.sound;
    locals = λ n l e. absurd (cc);
    globals = global-fits;
    functions = function-fits entry_file refl;
    strings = string-fits;
    string_types = string-is;
  }

  abbrev Piece : PieceCode → Type 0
  Piece c = SoundPiece laws program entry false c

  one-global : (g : ℕ) (u : Ty) (o : Option TypedInit) → g < length program.globals → type_of_global program g ≡ Some u → names_below (length t.structs) u ≡ true → IfInit (IsTypedInit context u) o → OptionalInitTypes test o
      → Piece (optional_given entry_file g u o)
  one-global g u None lt is above init_typed init_fit = pieces_sound.nothing-sound laws program entry false
  one-global g u (Some i) lt is above init_typed init_fit =
      pieces_sound.expressions-sound laws program entry false (given_initialised entry_file u (global_address g) i)
      (initialisers.given-full laws program entry false context entry_file entry-names test fit.tells u (global_address g) (global-memory base program entry context entry_file entry-names g u lt is above) i init_typed init_fit)

  -- globals from a number on have these types
  abbrev TypesFrom : ℕ → List Ty → Type 0
  TypesFrom g us = (n : ℕ) (u : Ty) → slice_get us n ≡ Some u → type_of_global program (g + n) ≡ Some u

  first-type : (g : ℕ) (u : Ty) (us : List Ty) → TypesFrom g (u ∷ us) → type_of_global program g ≡ Some u
  first-type g u us h = ap (type_of_global program) (let z : g ≡ g + 0 = omega arith in z) ∙ h 0 u refl

  rest-types : (g : ℕ) (u : Ty) (us : List Ty) → TypesFrom g (u ∷ us) → TypesFrom (suc g) us
  rest-types g u us h n w e = ap (type_of_global program) (let z : suc g + n ≡ g + suc n = omega arith in z) ∙ h (suc n) w e

  globals-sound : (g : ℕ) (vs : List Global) → g + length vs ≤ length program.globals → TypesFrom g (map (λ (v : Global). v.ty) vs) → AllByRecursion Holds vs → Piece (globals_initialised entry_file g vs)
  globals-sound g [] room from h = pieces_sound.nothing-sound laws program entry false
  globals-sound g (v ∷ vs) room from h =
      pieces_sound.join-sound laws program entry false (optional_given entry_file g v.ty v.init) (globals_initialised entry_file (suc g) vs) (one-global g v.ty v.init (omega (arith, room)) (first-type g v.ty (map (λ (w : Global). w.ty) vs) from) h.0.named h.0.typed h.0.fit)
      (globals-sound (suc g) vs (omega (arith, room)) (rest-types g v.ty (map (λ (w : Global). w.ty) vs) from) h.1)

  strings-sound : (g : ℕ) (ss : List (List ℕ)) → g + length ss ≤ length program.globals → TypesFrom g (map string_type ss) → Piece (strings_initialised entry_file g ss)
  strings-sound g [] room from = pieces_sound.nothing-sound laws program entry false
  strings-sound g (s ∷ ss) room from =
      pieces_sound.join-sound laws program entry false (optional_given entry_file g (string_type s) (Some (init.Text s))) (strings_initialised entry_file (suc g) ss)
      (pieces_sound.expressions-sound laws program entry false (given_initialised entry_file (string_type s) (global_address g) (init.Text s))
      (initialisers.text-full laws program entry false context entry_file entry-names test fit.tells (string_type s) (global_address g)
      (global-memory base program entry context entry_file entry-names g (string_type s) (omega (arith, room)) (first-type g (string_type s) (map string_type ss) from) (char-named (length t.structs) (length s + 1))) s
      (char-array-integers t.structs (length s + 1))))
      (strings-sound (suc g) ss (omega (arith, room)) (rest-types g (string_type s) (map string_type ss) from))

  given-closed : (g : ℕ) (u : Ty) (o : Option TypedInit) → Closed (optional_given entry_file g u o)
  given-closed g u None = λ place slot. tt
  given-closed g u (Some i) = pieces_sound.expressions-closed (given_initialised entry_file u (global_address g) i)

  globals-closed : (g : ℕ) (vs : List Global) → Closed (globals_initialised entry_file g vs)
  globals-closed g [] = λ place slot. tt
  globals-closed g (v ∷ vs) = pieces_sound.join-closed (optional_given entry_file g v.ty v.init) (globals_initialised entry_file (suc g) vs) (given-closed g v.ty v.init) (globals-closed (suc g) vs)

  strings-closed : (g : ℕ) (ss : List (List ℕ)) → Closed (strings_initialised entry_file g ss)
  strings-closed g [] = λ place slot. tt
  strings-closed g (s ∷ ss) =
      pieces_sound.join-closed (optional_given entry_file g (string_type s) (Some (init.Text s))) (strings_initialised entry_file (suc g) ss) (given-closed g (string_type s) (Some (init.Text s))) (strings-closed (suc g) ss)

  -- the call of `main`
  abbrev number : ℕ
  number = function_number file.functions (codes "main")

  abbrev call : Code
  call = call_code number false []

  main-parameters : length (out-FnTy main.ty).params ≡ 0
  unfolding is_main_type
  main-parameters = eqb-true (length (out-FnTy main.ty).params) 0 (second (same (out-FnTy main.ty).result ty.Int) (nat_eq (length (out-FnTy main.ty).params) 0) main.main)

  main-function : FunctionFits program file (codes "main") main.ty
  main-function = function-fits file refl (codes "main") main.ty main.defined

  can-call : (args : List ℕ) (s : Option ℕ) → length args ≡ 0 → IsInRange program entry (Call number args s)
  can-call args s none =
      let m = function-fits file refl (codes "main") main.ty main.defined in
      kept.untyped base.fit base.touch program entry (Call number args s) refl
      (record { callee = m.function; there = m.there; arguments = none ∙ sym main-parameters ∙ ap (λ (z : FnTy). length (out-FnTy z).params) (sym m.ty) })

  call-sound : SoundFull laws program entry false call
  call-sound = pieces_sound.full-sound laws program entry false call (base.rows.calls.void_call number [] tt)
      ((base.fit program entry).void_call number [] can-call tt, (base.touch t.structs).call number false [] tt)
      (typed_calls.void_call-typed program entry (Slots base program entry) number main-function.function.ty (callee-is program number main-function.function main-function.there) [] tt)

  abbrev given : PieceCode
  given = globals_initialised entry_file 0 vars

  abbrev texts : PieceCode
  texts = strings_initialised entry_file (length vars) t.strings

  given-sound : Piece given
  given-sound = globals-sound 0 vars (omega (arith, global-count)) (λ n u e. ap (type_of_global program) (let z : 0 + n ≡ n = omega arith in z) ∙ global-is n u e) held

  texts-sound : Piece texts
  texts-sound = strings-sound (length vars) t.strings (omega (arith, global-count)) (λ n u e. let s = mapped-back string_type t.strings n u e in string-is n s.0 s.1 ∙ ap (λ z. Some z) s.2)

  abbrev whole_code : PieceCode
  whole_code = all_joined (given ∷ texts ∷ joined (full call) (returned_nothing false) ∷ [])

  whole-sound : Piece whole_code
  whole-sound =
      pieces_sound.joins-sound laws program entry false (given ∷ texts ∷ joined (full call) (returned_nothing false) ∷ []) (
        given-sound,
        (
          texts-sound,
          (
            pieces_sound.join-sound laws program entry false (full call) (returned_nothing false) (pieces_sound.expression-sound laws program entry false call call-sound)
                (pieces_sound.return_nothing-sound laws program entry false),
            tt,
          ),
        ),
      )

  entry-in-range : EachIs (IsFit (IsInRange program entry) entry.slots) entry.body
  entry-in-range = whole-sound.range.lines 0 0 0 0 (omega arith) (omega arith)

  entry-touched : IsTouched t.structs entry.body
  entry-touched = whole-sound.touched.lines 0 0 0 0 (omega arith) (omega arith)

  -- as the body of a function without frame
  abbrev behind : PieceCode
  behind = joined texts (full call)

  behind-sound : Piece behind
  behind-sound = pieces_sound.join-sound laws program entry false texts (full call) texts-sound (pieces_sound.expression-sound laws program entry false call call-sound)

  entry-numbered : Numbers entry.registers entry.slots (led 0 0 (joined given behind 0 0).lines)
  entry-numbered = (pieces_sound.join-sound laws program entry false given behind given-sound behind-sound).numbered.lines 0 0 0 0 (omega arith) (omega arith)

  entry-closed : Closed (joined given behind)
  entry-closed = pieces_sound.join-closed given behind (globals-closed 0 vars) (pieces_sound.join-closed texts (full call) (strings-closed (length vars) t.strings) (pieces_sound.full-closed call))

  entry-well_formed : IsWellFormed entry.registers entry.slots false (map outline_of entry.body)
  entry-well_formed =
      let body = laws.good.bodies false given behind 0 entry.registers entry.slots given-sound.good behind-sound.good (entry-closed 0 0) (laws.numbers.means entry.registers entry.slots 0 (led 0 0 (joined given behind 0 0).lines) entry-numbered) in
      let g = given 0 0 in
      let s = texts (0 + length g.lines) g.slot in
      let c = full call (0 + length g.lines + length s.lines) s.slot in
      let r = returned_nothing false 0 s.slot in
      subst (λ ls. IsWellFormed entry.registers entry.slots false (map outline_of (led 0 0 (g.lines ++ ls)))) (append_assoc s.lines c.lines r.lines) body

  entry-params : (out-FnTy entry_type).params ≡ []
  entry-params = ap (λ (g : FnTy-F Ty FnTy). g.params) (out-roll-FnTy (record { result = ty.Void; params = [] }))

  entry-valid : IsWithinOf entry → IsValidFunction program entry
  entry-valid limits =
      let none : length (out-FnTy entry_type).params ≡ 0 = ap length entry-params in
      record {
        within_limits = record {
          parameters = omega (arith, none);
          parameters_have_slots = omega (arith, none);
          instructions = limits.instructions;
          registers = limits.registers;
          slots = limits.slots;
          frame_units = limits.frame_units;
        };
        type_fits = plain-function (length t.structs);
        laid_out = record { locals_lie = tt; frame_is_its_locals = refl };
        in_range = each-all (IsInRange program entry) entry.slots entry.body entry-in-range;
        well_formed = entry-well_formed;
        touched = (base.touch t.structs).means entry.body entry-touched;
      }

  -- ---- programs

  all-valid : (gs : List TypedFn) → AllByRecursion Known gs → AllByRecursion IsWithinOf (map (function_code file) gs ++ entry ∷ []) → All (IsValidFunction program) (map (function_code file) gs ++ entry ∷ [])
  all-valid [] h m = All-cons (IsValidFunction program) entry [] (entry-valid m.0) (All-nil (IsValidFunction program))
  all-valid (g ∷ gs) h m =
      All-cons (IsValidFunction program) (function_code file g) (map (function_code file) gs ++ entry ∷ []) (definition-valid g h.0.0 h.0.1 m.0) (all-valid gs h.1 m.1)

  held-laid : (vs : List Global) → AllByRecursion Holds vs → AreLaid t.structs (map (λ (g : Global). g.ty) vs)
  held-laid [] h = tt
  held-laid (v ∷ vs) h = ((h.0.units, h.0.named), held-laid vs h.1)

  record-valid : HoldsLimits program → IsValid program
  record-valid limits =
      let whole : global_units program.globals ≡ total t.structs (types ++ map string_type t.strings) = total-is t.structs (types ++ map string_type t.strings) first_address in
      let few : total t.structs (map string_type t.strings) ≤ total t.structs (types ++ map string_type t.strings) = total-append t.structs types (map string_type t.strings) in
      record {
        few_functions = limits.functions;
        few_structs = fit.few;
        structs = fit.sound;
        entry = record { entry = entry; there = at-end (function_code file) fs entry; no_parameters = entry-params };
        globals = record {
          lie = laid.globals-lie t.structs first_address (types ++ map string_type t.strings)
              (laid.laid-append t.structs types (map string_type t.strings) (held-laid vars held) (strings-laid t.structs t.strings (let room = limits.globals in omega (arith, whole, few, room))));
          few_units = limits.globals;
        };
        functions = all-valid fs (known-of t.items items fit.types) limits.each;
      }

  pub program-valid : HoldsLimits (program_of t) → IsValid (program_of t)
  unfolding program_of function_list global_list entry_function
  program-valid limits = record-valid limits

  -- ---- types

  entry-lines : LinesTyped program entry (Slots base program entry) (whole_code 0 0) 0
  entry-lines = whole-sound.typed 0 0

  abbrev none : Types
  none r = ty.Int

  entry-of : Registers program entry (listed entry-lines.temps) none entry.body
  entry-of = entry-lines.typed 0 0 (listed entry-lines.temps) tt (list-has entry-lines.temps 0 entry-lines.temps (λ m u e. ap (slice_get entry-lines.temps) (let z : 0 + m ≡ m = omega arith in z) ∙ e)) none

  entry-slots : length entry-lines.temps ≡ entry.slots
  entry-slots = let h = entry-lines.slot_is in omega (arith, h)

  entry-typed : IsTypedBody program entry
  entry-typed =
      bodies.body-typed program entry entry-lines.temps false entry-slots entry-well_formed (each-all (IsInRange program entry) entry.slots entry.body entry-in-range) none entry-of
      (subst (λ ps. take (length ps) entry-lines.temps ≡ ps) (sym entry-params) refl)

  entry-free : EntryFree program entry
  entry-free = bodies.entry-free program entry entry-lines.temps false entry-slots entry-well_formed (each-all (IsInRange program entry) entry.slots entry.body entry-in-range) none entry-of

  all-typed : (gs : List TypedFn) → AllByRecursion Known gs → All (IsTypedBody program) (map (function_code file) gs ++ entry ∷ [])
  all-typed [] h = All-cons (IsTypedBody program) entry [] entry-typed (All-nil (IsTypedBody program))
  all-typed (g ∷ gs) h =
      All-cons (IsTypedBody program) (function_code file g) (map (function_code file) gs ++ entry ∷ []) (definition-typed g h.0.0 h.0.1) (all-typed gs h.1)

  all-free : (gs : List TypedFn) → AllByRecursion Known gs → All (EntryFree program) (map (function_code file) gs ++ entry ∷ [])
  all-free [] h = All-cons (EntryFree program) entry [] entry-free (All-nil (EntryFree program))
  all-free (g ∷ gs) h =
      All-cons (EntryFree program) (function_code file g) (map (function_code file) gs ++ entry ∷ []) (definition-free g h.0.0 h.0.1) (all-free gs h.1)

  record-typed : IsTypedCode program
  record-typed = record {
    bodies = all-typed fs (known-of t.items items fit.types);
    entry_not_taken = λ g n d there at. All-contains (EntryFree program) program.functions g (all-free fs (known-of t.items items fit.types)) there n d at;
  }

  pub program-typed : IsTypedCode (program_of t)
  unfolding program_of function_list global_list entry_function
  program-typed = record-typed
