-- Ranges of pages: n pages from page a of process p.
use Rattle.std.specs.Prelude.{ℕ, ◌+◌, Bool, ◌&&◌, ◌||◌, ◌==◌, nat_le, nat_lt}

-- page tables know the processes below this number
abbrev pub processes : ℕ
processes = 32

-- whether page q is one of the n pages from a
abbrev pub within : ℕ → ℕ → ℕ → Bool
within a n q = nat_le a q && nat_lt q (a + n)

-- whether page q of process r lies in the range
abbrev pub in_range : ℕ → ℕ → ℕ → ℕ → ℕ → Bool
in_range p a n r q = r == p && within a n q

-- whether a range fits in no table with so many pages to a process: it is empty, or reaches past the last process or page
abbrev pub ruled_out : ℕ → ℕ → ℕ → ℕ → Bool
ruled_out pages p a n = n == 0 || (nat_le processes p || nat_lt pages (a + n))
