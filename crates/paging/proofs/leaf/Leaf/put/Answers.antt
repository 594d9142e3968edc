-- An entry that replaces another leaves the count.
use Rattle.std.proofs.Common.{sym, ◌∙◌}
use Rattle.paging.proofs.ReadyCounts.{put_alike}
use Rattle.paging.proofs.leaf.Leaf.put.Goals as goal

pub invariant_of-self-clause-counted : goal.invariant_of-self-clause-counted
invariant_of-self-clause-counted c = c.args.self.now.counted ∙ sym (put_alike c.args.entry c.args.page _ _ _ c.put.ensures.answer c.put.ensures.after)
