-- The pages of the blocks so far are ready, and those blocks have the leaves that they lacked.
use Rattle.std.proofs.Common.{◌∙◌, arith, rules}
use Rattle.paging.proofs.Spans.{changes_more, changes_none, lacking_start, one_left, one_more}
use Rattle.paging.proofs.levels.Levels.reserve.Goals as goal

pub loop-number-init : goal.loop-number-init
loop-number-init c = record {
  changed = search (rules, changes_none);
  above = search rules;
  taken = grind (arith, lacking_start);
}

pub reserve_in-requires : goal.reserve_in-requires
reserve_in-requires c = record {
  some = search rules;
  free = one_left _ _ _ _ c.loop-number.invariant.above c.loop-number.invariant.taken _ c.args.self.now.directory.sized c.requires.free (omega arith) (omega arith);
}

pub loop-number-preserved : goal.loop-number-preserved
loop-number-preserved c = record {
  changed = search (rules, changes_more);
  above = λ m above. c.reserve_in.ensures.attached.others m (λ e. omega arith) ∙ c.loop-number.invariant.above m (omega arith);
  taken = one_more _ _ _ _ c.loop-number.invariant.above c.loop-number.invariant.taken c.reserve_in.new.self.directory.slots c.reserve_in.ensures.attached.one (omega arith);
}
