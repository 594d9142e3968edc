-- The stored word: the word of each state of a page, and the state that each word means.
--     word_of s           the word of the state s, or none where its frame is too large
--     state_of w          what the word w means
--     lawful_word w       w is a word that some state has
--     Exact               there and back is the identity, and no second word has the same meaning
use Rattle.std.specs.Prelude.{◌≡◌, ℕ, ◌+◌, ◌*◌, ◌/◌, ◌%◌, ◌^◌, ◌<◌, Bool, true, false, cond, ◌||◌, Some, None, Option, ◌==◌, nat_le}
use Rattle.paging.specs.declared.page.Entry.{Entry}
use Rattle.paging.specs.declared.page.Entry.TheVariants.{Absent, Present}
use Rattle.paging.specs.declared.page.PageState.{PageState}
use Rattle.paging.specs.declared.page.PageState.TheVariants.{Unready, Ready}
use Rattle.paging.specs.Layout.{frame_bits, accessed_bit, write_bit, kind_bit, word_bits, unready_kind, absent_kind, present_kind, max_frame}

-- a flag as the number in its bit
abbrev pub bit : Bool → ℕ
bit true = 1
bit false = 0

-- whether bit k of w is set
abbrev pub bit_set : ℕ → ℕ → Bool
bit_set w k = w / 2 ^ k % 2 == 1

-- the word of a page that is not ready
abbrev pub unready_word : ℕ
unready_word = unready_kind * 2 ^ kind_bit

-- the word of a page that is ready and absent
abbrev pub absent_word : ℕ
absent_word = absent_kind * 2 ^ kind_bit

-- the word of a ready page with this entry
abbrev pub entry_word : Entry → ℕ
entry_word Absent = absent_word
entry_word (Present frame write accessed) =
    present_kind * 2 ^ kind_bit + bit write * 2 ^ write_bit + bit accessed * 2 ^ accessed_bit + frame

-- whether the entry has a word: its frame is not too large
abbrev pub storable : Entry → Bool
storable Absent = true
storable (Present frame write accessed) = nat_le frame max_frame

-- the word of a state
abbrev pub word_of : PageState → Option ℕ
word_of Unready = Some unready_word
word_of (Ready e) = cond (storable e) (Some (entry_word e)) None

-- the entry that a word of the present kind spells
abbrev pub entry_in : ℕ → Entry
entry_in w = Present (w % 2 ^ frame_bits) (bit_set w write_bit) (bit_set w accessed_bit)

-- what a word means: what is neither ready and absent nor present counts as unready
abbrev pub state_of : ℕ → PageState
state_of w = cond (w == absent_word) (Ready Absent) (cond (w / 2 ^ kind_bit == present_kind) (Ready (entry_in w)) Unready)

-- the words that states have: a word of the first two kinds has all its other bits 0
abbrev pub lawful_word : ℕ → Bool
lawful_word w = w == unready_word || (w == absent_word || w / 2 ^ kind_bit == present_kind)

-- the codec is exact: there is one lawful word for each state that has a word
pub record Exact : Type 0 where
  -- from a state to its word and back
  pub there : (s : PageState) (w : ℕ) → word_of s ≡ Some w → state_of w ≡ s
  -- the word of a state is lawful
  pub lawful : (s : PageState) (w : ℕ) → word_of s ≡ Some w → lawful_word w ≡ true
  -- a lawful word has no more bits than there are
  pub small : (w : ℕ) → lawful_word w ≡ true → w < 2 ^ word_bits
  -- from a lawful word to its state and back
  pub back : (w : ℕ) → lawful_word w ≡ true → word_of (state_of w) ≡ Some w
  -- no two lawful words mean the same
  pub single : (v w : ℕ) → lawful_word v ≡ true → lawful_word w ≡ true → state_of v ≡ state_of w → v ≡ w
  -- any other word counts as unready
  pub other : (w : ℕ) → lawful_word w ≡ false → state_of w ≡ Unready
