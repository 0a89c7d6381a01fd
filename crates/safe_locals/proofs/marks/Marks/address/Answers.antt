use Rattle.std.proofs.Common.{rules, SFits, ◌≡◌, ◌∙◌, ◌↔◌, sym, subst}
use Rattle.std.specs.Int.{w128}
use Rattle.std.proofs.lemmas.Int.{to_z-of_z}
use Rattle.safe_locals.specs.Known.{HasAddress}
use Rattle.safe_locals.proofs.MarksAnswer.{address_known, no_address_known}
use Rattle.safe_locals.proofs.marks.Marks.address.Goals as goal

pub returns-in-Address : goal.returns-in-Address
returns-in-Address c =
    let fits : SFits w128 c.in-Address.offset = search rules in
    λ code u v o knows.
    subst (λ q. HasAddress code u c.args.register v o ↔ ((c.in-Address.local ≡ v) × (q ≡ o))) (sym (to_z-of_z w128 c.in-Address.offset fits))
    (address_known code u c.args.self.now.marks knows c.args.register c.in-Address.local c.in-Address.offset (sym c.mark_at.ensures ∙ c.in-Address.is) v o)

pub returns-in_default : goal.returns-in_default
returns-in_default c = λ code u v o knows. no_address_known code u c.args.self.now.marks knows c.args.register (λ w q is. c.in_default.not-Address w q (c.mark_at.ensures ∙ is)) v o
