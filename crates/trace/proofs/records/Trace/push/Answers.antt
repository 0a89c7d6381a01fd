use Rattle.std.proofs.Common.{◌≡◌, [], ◌∷◌, ◌++◌, ◌∙◌, ap, sym, refl, append_assoc, option_to_list}
use Rattle.trace.proofs.Added.{added_last}
use Rattle.trace.proofs.records.Trace.push.Goals as goal

pub returns-then-not-joins-clause-records : goal.returns-then-not-joins-clause-records
returns-then-not-joins-clause-records c =
    let earlier = c.self.inside.earlier.records in
    let item = c.args.item in
    let last = c.in-Some.last in
    let records_are : c.args.self.now.records ≡ earlier ++ last ∷ [] = sym (ap (λ t. t.records) c.self.view_is) ∙ ap (λ l. earlier ++ option_to_list l) c.in-Some.is in
    rw (c.push.ensures.records, c.if-not-joins.ensures.same refl, records_are, added_last earlier last item, c.if-not-joins.ensures.behind refl)
    (append_assoc earlier (last ∷ []) (item ∷ []))

pub returns-else-not-joins-clause-records : goal.returns-else-not-joins-clause-records
returns-else-not-joins-clause-records c =
    let earlier = c.self.inside.earlier.records in
    let last = c.in-Some.last in
    let records_are : c.args.self.now.records ≡ earlier ++ last ∷ [] = sym (ap (λ t. t.records) c.self.view_is) ∙ ap (λ l. earlier ++ option_to_list l) c.in-Some.is in
    rw (records_are, added_last earlier last c.args.item, c.if-not-joins.ensures.joined refl) refl
