-- As many leaves are listed as no block holds.
use Rattle.std.proofs.Common.{arith}
use Rattle.paging.proofs.Spans.{held_count}
use Rattle.paging.proofs.directory.Directory.free_leaves.Goals as goal

pub returns : goal.returns
returns c = let d = c.args.self.now in omega (arith, c.len.ensures.value, d.all, held_count d.slots d.sized)
