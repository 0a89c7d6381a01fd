use Rattle.std.proofs.Common.{sym, subst}
use Rattle.sensitivity.specs.declared.holding.Holding.TheVariants as holding
use Rattle.sensitivity.specs.inner.Marks.{TellsBodies}
use Rattle.sensitivity.proofs.SearchSteps.{can_mark, follows, holding_in, search_add, search_marks}
use Rattle.sensitivity.proofs.search.Search.read_member.Goals as goal

pub returns-in_ok-mark-in-Always-clause-search : goal.returns-in_ok-mark-in-Always-clause-search
returns-in_ok-mark-in-Always-clause-search c =
    let defs = c.args.structs.now in
    let h = c.holding_of.ensures defs (subst (λ x. TellsBodies defs x) (sym c.as_slice.ensures) c.requires.search.marked.bodies) in
    let can = can_mark defs c.args.s c.args.member.now c.requires.member (holding_in defs c.args.member.now c.holding_of.result holding.Always c.in-Always.is h) in
    search_marks defs c.args.self.now c.requires.search c.mark.new.self (c.in_ok-mark-in-Always.ensures.marked defs c.requires.search.marked can).0

pub returns-in_ok-mark-in-Always-clause-read : goal.returns-in_ok-mark-in-Always-clause-read
returns-in_ok-mark-in-Always-clause-read c =
    let defs = c.args.structs.now in
    let h = c.holding_of.ensures defs (subst (λ x. TellsBodies defs x) (sym c.as_slice.ensures) c.requires.search.marked.bodies) in
    let always = holding_in defs c.args.member.now c.holding_of.result holding.Always c.in-Always.is h in
    let can = can_mark defs c.args.s c.args.member.now c.requires.member always in
    record { comes_to = holding.Always; answers = always; noted = (c.in_ok-mark-in-Always.ensures.marked defs c.requires.search.marked can).1 }

pub returns-in_ok-add-in-AsStruct-clause-search : goal.returns-in_ok-add-in-AsStruct-clause-search
returns-in_ok-add-in-AsStruct-clause-search c =
    let defs = c.args.structs.now in
    let h = c.holding_of.ensures defs (subst (λ x. TellsBodies defs x) (sym c.as_slice.ensures) c.requires.search.marked.bodies) in
    let reaches = holding_in defs c.args.member.now c.holding_of.result (holding.AsStruct c.in-AsStruct.n) c.in-AsStruct.is h in
    search_add defs c.args.self.now c.requires.search c.add.new.self c.in-AsStruct.n c.args.s (follows defs c.args.s c.args.member.now c.requires.member c.in-AsStruct.n reaches)
    c.in_ok-add-in-AsStruct.ensures.many c.in_ok-add-in-AsStruct.ensures.others
