-- The two-level table's blocks: where a page lies, and in which block.
use Rattle.std.specs.Prelude.{◌≡◌, ℕ, ◌+◌, ◌-◌, ◌*◌, ◌/◌, ◌<◌, ◌≤◌, min, Bool, cond, ◌&&◌, Some, None, Option, ◌==◌, nat_le, nat_lt}
use Rattle.paging.specs.Ranges.{processes, within}

-- the most pages of a process
abbrev pub two_level_pages : ℕ
two_level_pages = 4096

-- the pages of a block, and the words of a leaf
abbrev pub block_pages : ℕ
block_pages = 64

-- how many leaves there are
abbrev pub leaf_count : ℕ
leaf_count = 256

-- how many blocks there are
abbrev pub blocks : ℕ
blocks = processes * two_level_pages / block_pages

-- how many of them a process has
abbrev pub process_blocks : ℕ
process_blocks = two_level_pages / block_pages

-- where page q of process p lies: the pages of a process lie in a row, and the processes one after the other
abbrev pub place : ℕ → ℕ → ℕ
place p q = p * two_level_pages + q

-- whether the table knows page q of process p
abbrev pub known : ℕ → ℕ → Bool
known p q = nat_lt p processes && nat_lt q two_level_pages

-- the place of a page that the table knows
abbrev pub known_place : ℕ → ℕ → Option ℕ
known_place p q = cond (known p q) (Some (place p q)) None

-- the first place of the n pages from page a of process p, as far as the table knows the pages
abbrev pub span_start : ℕ → ℕ → ℕ
span_start p a = cond (nat_lt p processes) (place p (min a two_level_pages)) 0

-- and the place after the last
abbrev pub span_end : ℕ → ℕ → ℕ → ℕ
span_end p a n = cond (nat_lt p processes) (place p (min (a + n) two_level_pages)) 0

-- whether x is one of the places from the start up to the end
abbrev pub between : ℕ → ℕ → ℕ → Bool
between start end x = nat_le start x && nat_lt x end

-- the block of the first of these places
abbrev pub first_block : ℕ → ℕ
first_block start = start / block_pages

-- the block after that of the last of them
abbrev pub past_block : ℕ → ℕ
past_block end = (end + block_pages - 1) / block_pages

-- whether x is one of those in block b
abbrev pub in_block : ℕ → ℕ → ℕ → ℕ → Bool
in_block b start end x = x / block_pages == b && between start end x

-- the n pages from page i of block b are those of them in the block
abbrev pub IsPart : ℕ → ℕ → ℕ → ℕ → ℕ → Type 0
IsPart b start end i n = (k : ℕ) → k < block_pages → within i n k ≡ between start end (b * block_pages + k)

-- some of them lie in block b
pub record Meets (b start end : ℕ) : Type 0 where
  pub some : start < end
  pub first : first_block start ≤ b
  pub last : b < past_block end
