use Rattle.std.proofs.Common.{◌≡◌, Ok, Err, inl, sym, ap, subst, ◌∙◌}
use Rattle.c_tree.specs.Marks.{kinds_of}
use Rattle.c_tree.specs.Statements.{SourceReads, IsSyntaxRefusal}
use Rattle.c_parser.specs.declared.error.ParseRefusal.TheVariants.{Syntax}
use Rattle.c_parser.proofs.Sources.{answer_found, answer_only, answer_whole, answer_refused, answer_no_source, answer_count}
use Rattle.c_parser.proofs.source.parse.Goals as goal

pub returns-then-left-eq0-clause-found : goal.returns-then-left-eq0-clause-found
returns-then-left-eq0-clause-found c =
    let same : c.new-cursor.result ≡ kinds_of c.args.tokens.now = c.new-cursor.ensures ∙ ap (λ ts. kinds_of ts) c.as_slice.ensures in
    let e = c.in_ok-items.ensures in
    subst (λ ts. SourceReads ts (record { items = c.in_ok-items.items })) same (answer_found c.expression_laws.ensures c.declarators_declare_their_names.ensures _ _ _ e.items e.left c.if-left-eq0.true)

pub returns-then-left-eq0-clause-only : goal.returns-then-left-eq0-clause-only
returns-then-left-eq0-clause-only c source read =
    let same : c.new-cursor.result ≡ kinds_of c.args.tokens.now = c.new-cursor.ensures ∙ ap (λ ts. kinds_of ts) c.as_slice.ensures in
    let e = c.in_ok-items.ensures in
    let is = answer_only c.expression_laws.ensures c.declarators_declare_their_names.ensures c.new-cursor.result _ e.items source (rw same read) in
    inl (ap (λ s. Ok s) is)

pub returns-then-left-eq0-clause-refuses : goal.returns-then-left-eq0-clause-refuses
returns-then-left-eq0-clause-refuses c count refusal =
    let same : c.new-cursor.result ≡ kinds_of c.args.tokens.now = c.new-cursor.ensures ∙ ap (λ ts. kinds_of ts) c.as_slice.ensures in
    let e = c.in_ok-items.ensures in
    absurd (answer_whole c.expression_laws.ensures c.declarators_declare_their_names.ensures c.new-cursor.result _ e.left c.if-left-eq0.true count (rw same refusal))

pub returns-else-left-eq0-clause-only : goal.returns-else-left-eq0-clause-only
returns-else-left-eq0-clause-only c source read =
    let same : c.new-cursor.result ≡ kinds_of c.args.tokens.now = c.new-cursor.ensures ∙ ap (λ ts. kinds_of ts) c.as_slice.ensures in
    let e = c.in_ok-items.ensures in
    absurd (answer_no_source c.expression_laws.ensures c.declarators_declare_their_names.ensures c.new-cursor.result _ e.left c.if-left-eq0.false source (rw same read))

pub returns-else-left-eq0-clause-refused : goal.returns-else-left-eq0-clause-refused
returns-else-left-eq0-clause-refused c count is =
    let same : c.new-cursor.result ≡ kinds_of c.args.tokens.now = c.new-cursor.ensures ∙ ap (λ ts. kinds_of ts) c.as_slice.ensures in
    let e = c.in_ok-items.ensures in
    let counted : c.len.result ≡ count = cc in
    let r = answer_refused c.expression_laws.ensures c.declarators_declare_their_names.ensures _ _ _ e.items e.left c.if-left-eq0.false in
    subst (λ ts. IsSyntaxRefusal ts count) same (subst (λ n. IsSyntaxRefusal c.new-cursor.result n) (sym c.len.ensures ∙ counted) r)

pub returns-else-left-eq0-clause-refuses : goal.returns-else-left-eq0-clause-refuses
returns-else-left-eq0-clause-refuses c count refusal =
    let same : c.new-cursor.result ≡ kinds_of c.args.tokens.now = c.new-cursor.ensures ∙ ap (λ ts. kinds_of ts) c.as_slice.ensures in
    let e = c.in_ok-items.ensures in
    let is = answer_count c.expression_laws.ensures c.declarators_declare_their_names.ensures c.new-cursor.result _ e.items count (rw same refusal) in
    inl (ap (λ n. Err (Syntax n)) (c.len.ensures ∙ is))
