-- The answer of the check tells what reserve does.
use Rattle.std.proofs.Common.{◌≡◌, Ok, Err, Result, rules}
use Rattle.paging.specs.declared.page.Fault.{Fault}
use Rattle.paging.proofs.Fits.{fits_room}
use Rattle.paging.proofs.TwoLevelMeaning.{two_level_exactly, two_level_reserved, two_level_unfit}
use Rattle.paging.proofs.two_level.TwoLevelTablePageTable.reserve.Goals as goal

pub returns-in_err-check : goal.returns-in_err-check
returns-in_err-check c =
    let t = c.args.self.now.levels in
    let f = c.in_err-check.field-0.0 in
    let told : ◌≡◌ {A = Result (Unit {0}) Fault} c.from_residual.result (Err f) = search rules in
    rw told
    (record {
      reserves = two_level_unfit _ _ _ t _ c.new-range.ensures f c.in_err-check.ensures;
      exactly = two_level_exactly _ _ _ t _ c.new-range.ensures (Err f) c.in_err-check.ensures;
    })

pub reserve-requires-clause-free : goal.reserve-requires-clause-free
reserve-requires-clause-free c = fits_room _ _ _ _ _ c.in_ok-check.ensures _ _ c.from.ensures.0 c.from.ensures.1

pub returns : goal.returns
returns c =
    let t = c.args.self.now.levels in
    record {
      reserves = two_level_reserved _ _ _ t _ c.new-range.ensures c.reserve.new.self _ _ c.from.ensures.0 c.from.ensures.1 _ c.in_ok-check.ensures c.reserve.ensures;
      exactly = two_level_exactly _ _ _ t _ c.new-range.ensures (Ok c.in_ok-check.field-0) c.in_ok-check.ensures;
    }
