-- The pages of the blocks so far are ready, and those blocks have the leaves that they lacked.
use Rattle.std.proofs.Common.{◌≡◌, ℕ, ◌+◌, ◌-◌, ◌≤◌}
use Rattle.paging.specs.Blocks.{first_block}
use Rattle.paging.specs.Directory.{held, holds, leaf_of}
use Rattle.paging.specs.Lacking.{lacking}
use Rattle.paging.specs.States.{made_ready}
use Rattle.paging.specs.TwoLevel.{Changed, slots_of}
use Rattle.paging.proofs.Spans.{below_block}
use Rattle.paging.proofs.levels.Levels.reserve.Given as goal

abbrev pub invariant-loop-number : goal.invariant-loop-number
invariant-loop-number l = record {
  changed : Changed made_ready (below_block l.number l.span.start l.span.end) l.initial.self l.self;
  above : (c : ℕ) → l.number ≤ c → leaf_of (slots_of l.self) c ≡ leaf_of (slots_of l.initial.self) c;
  taken : held (slots_of l.self)
      ≡ held (slots_of l.initial.self) + lacking (holds (slots_of l.initial.self)) (first_block l.span.start) (l.number - first_block l.span.start);
}
