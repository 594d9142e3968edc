-- What is made ready in the window is made ready in the table.
use Rattle.std.proofs.Common.{◌≡◌, Some, sym, ◌∙◌, arith, rules}
use Rattle.paging.specs.Flat.{window_start}
use Rattle.paging.specs.Window.{readied}
use Rattle.paging.proofs.FlatMeaning.{flat_reserved}
use Rattle.paging.proofs.FlatWords.{fits_window, window_wrote}
use Rattle.paging.proofs.flat.reserve_in.Goals as goal

pub returns : goal.returns
returns c =
    let begins : Some c.in-Some.start ≡ window_start c.args.words.now c.args.range.process = sym c.in-Some.is ∙ c.window_start.ensures in
    let wrote = window_wrote _ _ _ _ begins (omega arith) readied _ _ _ c.reserve.ensures.words in
    record { reserves = flat_reserved _ _ _ _ _ (search (rules, fits_window)) wrote; wrote = wrote }
