-- An entry that is put at a place is put at its page.
use Rattle.std.proofs.Common.{rules}
use Rattle.paging.proofs.TwoLevelMeaning.{two_level_puts}
use Rattle.paging.proofs.two_level.TwoLevelTablePageTable.put.Goals as goal

pub returns-in-Some : goal.returns-in-Some
returns-in-Some c =
    two_level_puts c.args.process c.args.page c.args.entry c.args.self.now.levels c.put.new.self c.in-Some.place.index (rw c.in-Some.is at c.of.ensures) (λ d f told. search rules)
    c.put.result c.map_err.result c.put.ensures.answer c.put.ensures.slots c.put.ensures.states c.map_err.ensures.cases
