-- What is written in the window is written in the memory.
use Rattle.std.proofs.Common.{arith}
use Rattle.paging.specs.Window.{unreadied}
use Rattle.paging.proofs.FlatWords.{window_wrote}
use Rattle.paging.proofs.flat.release_in.Goals as goal

pub returns-in-Some : goal.returns-in-Some
returns-in-Some c = window_wrote _ _ _ _ c.in-Some.ensures (omega arith) unreadied _ _ _ c.release.ensures.words
