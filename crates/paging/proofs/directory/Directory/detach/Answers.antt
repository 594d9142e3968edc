-- The leaf that the block held is held no more, and listed.
use Rattle.std.proofs.Common.{None, arith}
use Rattle.paging.proofs.Directories.{detached_once, held_set}
use Rattle.paging.proofs.directory.Directory.detach.Goals as goal

pub invariant_of-self-clause-once : goal.invariant_of-self-clause-once
invariant_of-self-clause-once c = λ m low. detached_once _ _ _ _ _ c.args.self.now.sized c.args.block.inside m c.in-Some.ensures c.push.ensures.items (c.args.self.now.once m low)

pub invariant_of-self-clause-all : goal.invariant_of-self-clause-all
invariant_of-self-clause-all c = grind (arith, c.args.self.now.all, held_set c.args.self.now.slots c.args.block.number (omega arith) None)
