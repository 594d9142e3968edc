-- Which ranges fit the two-level table, by the blocks that hold a leaf: the leaves that a range lacks, and the first block that gets none.
use Rattle.std.specs.Prelude.{ℕ, zero, suc, ◌+◌, ◌-◌, ◌*◌, ◌%◌, Bool, cond, not, ◌&&◌, Some, None, Option, Result, Ok, Err, nat_le}
use Rattle.paging.specs.declared.page.Fault.{Fault}
use Rattle.paging.specs.Blocks.{block_pages, blocks, first_block, leaf_count, past_block, process_blocks, span_end, span_start, two_level_pages}
use Rattle.paging.specs.Ranges.{ruled_out}

-- how many of the n numbers from b pass a test
unfoldable pub count_of : (ℕ → Bool) → ℕ → ℕ → ℕ
count_of test b zero = 0
count_of test b (suc n) = count_of test b n + cond (test (b + n)) 1 0

-- the first of them that does
unfoldable pub first_of : (ℕ → Bool) → ℕ → ℕ → Option ℕ
first_of test b zero = None
first_of test b (suc n) = cond (test b) (Some b) (first_of test (b + 1) n)

-- how many leaves are free: those that no block holds
abbrev pub free_leaves : (ℕ → Bool) → ℕ
free_leaves holds = leaf_count - count_of holds 0 blocks

-- whether block b lacks a leaf
abbrev pub lacks : (ℕ → Bool) → ℕ → Bool
lacks holds b = not (holds b)

-- how many of the n blocks from b lack one
abbrev pub lacking : (ℕ → Bool) → ℕ → ℕ → ℕ
lacking holds b n = count_of (lacks holds) b n

-- whether block b gets none where blocks get leaves from block c on: it lacks one, and those before it lack as many as are free
abbrev pub gets_none : (ℕ → Bool) → ℕ → ℕ → Bool
gets_none holds c b = lacks holds b && nat_le (free_leaves holds) (lacking holds c (b - c))

-- the first block that gets none, of those that the places from the start up to the end lie in
abbrev pub first_without : (ℕ → Bool) → ℕ → ℕ → Option ℕ
first_without holds start end = first_of (gets_none holds (first_block start)) (first_block start) (past_block end - first_block start)

-- how many leaves the blocks of these places lack
abbrev pub span_lacks : (ℕ → Bool) → ℕ → ℕ → ℕ
span_lacks holds start end = lacking holds (first_block start) (past_block end - first_block start)

-- the fault that names process p and the first page of a block of it
abbrev pub block_fault : ℕ → Option ℕ → Option Fault
block_fault p None = None
block_fault p (Some b) = Some (record { process = p; page = b % process_blocks * block_pages })

-- the fault of a range: its own process and first page where it is ruled out, else the first block that gets no leaf, if there is one
abbrev pub two_level_fault : (ℕ → Bool) → ℕ → ℕ → ℕ → Option Fault
two_level_fault holds p a n =
    cond (ruled_out two_level_pages p a n) (Some (record { process = p; page = a })) (block_fault p (first_without holds (span_start p a) (span_end p a n)))

-- whether a range fits: it is not ruled out, and the leaves that its blocks lack are free
abbrev pub two_level_fits : (ℕ → Bool) → ℕ → ℕ → ℕ → Bool
two_level_fits holds p a n =
    not (ruled_out two_level_pages p a n) && nat_le (span_lacks holds (span_start p a) (span_end p a n)) (free_leaves holds)

-- the answer of a check: the fault, if there is one
abbrev pub checked : Option Fault → Result (Unit {0}) Fault
checked None = Ok tt
checked (Some f) = Err f
