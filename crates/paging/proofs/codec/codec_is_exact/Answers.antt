-- There and back is the identity, and each state has one lawful word.
use Rattle.std.proofs.Common.{◌≡◌, ℕ, true, Some, arith}
use Rattle.std.proofs.lemmas.Bool.Decides.{nat_tests}
use Rattle.paging.specs.Word.{word_of, state_of, lawful_word}
use Rattle.paging.proofs.codec.codec_is_exact.Goals as goal

back : (w : ℕ) → lawful_word w ≡ true → word_of (state_of w) ≡ Some w
back w h = grind (arith, nat_tests)

pub returns : goal.returns
returns c = record {
  there = λ s w e. grind (arith, nat_tests);
  lawful = λ s w e. grind (arith, nat_tests);
  small = λ w h. grind (arith, nat_tests);
  back = back;
  single = λ v w lv lw e. grind (arith, back v lv, back w lw);
  other = λ w h. grind (arith, nat_tests);
}
