-- Where each part of a stored word lies, and the greatest frame that follows from it. Each number stands here alone.
use Rattle.std.specs.Prelude.{ℕ, ◌+◌, ◌-◌, ◌^◌}

-- the frame has the low bits
abbrev pub frame_bits : ℕ
frame_bits = 12

-- the accessed bit is the next above it
abbrev pub accessed_bit : ℕ
accessed_bit = frame_bits

-- the write bit is the next above that
abbrev pub write_bit : ℕ
write_bit = accessed_bit + 1

-- the kind of state has the bits from this one on
abbrev pub kind_bit : ℕ
kind_bit = write_bit + 1

-- and this many of them
abbrev pub kind_bits : ℕ
kind_bits = 2

-- how many bits a word has
abbrev pub word_bits : ℕ
word_bits = kind_bit + kind_bits

-- the kind of a page that is not ready
abbrev pub unready_kind : ℕ
unready_kind = 0

-- the kind of a page that is ready and absent
abbrev pub absent_kind : ℕ
absent_kind = 1

-- the kind of a page that is ready and present
abbrev pub present_kind : ℕ
present_kind = 2

-- the greatest frame that an entry can hold
abbrev pub max_frame : ℕ
max_frame = 2 ^ frame_bits - 1
