-- The leaf that was listed last is held, and not listed any more.
use Rattle.std.proofs.Common.{Some, arith, rules}
use Rattle.paging.proofs.Directories.{attached_new, attached_once, held_set}
use Rattle.paging.proofs.directory.Directory.attach.Goals as goal

pub invariant_of-self-clause-once : goal.invariant_of-self-clause-once
invariant_of-self-clause-once c = λ m low. attached_once _ _ _ _ _ c.args.self.now.sized c.args.block.inside _ m c.requires.lacks c.pop.ensures.items c.unwrap-leaf.ensures (c.args.self.now.once m low)

pub invariant_of-self-clause-all : goal.invariant_of-self-clause-all
invariant_of-self-clause-all c = grind (arith, c.args.self.now.all, held_set c.args.self.now.slots c.args.block.number (omega arith) (Some c.unwrap-leaf.result))

pub returns-clause-was : goal.returns-clause-was
returns-clause-was c = search (rules, attached_new, c.args.self.now.once)
