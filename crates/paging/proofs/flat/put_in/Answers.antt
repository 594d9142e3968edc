-- An entry that is put in the window is put in the table.
use Rattle.std.proofs.Common.{◌≡◌, Some, sym, ◌∙◌, arith, rules}
use Rattle.paging.specs.Flat.{window_start}
use Rattle.paging.proofs.FlatMeaning.{flat_put}
use Rattle.paging.proofs.flat.put_in.Goals as goal

pub returns : goal.returns
returns c =
    let begins : Some c.in-Some.start ≡ window_start c.args.words.now c.args.process = sym c.in-Some.is ∙ c.window_start.ensures in
    let both = flat_put c.args.entry c.args.process c.args.page _ _ _ _ begins (omega arith) (λ d f told. search rules) c.put.result c.map_err.result
    c.put.ensures.answer c.put.ensures.after c.map_err.ensures.cases in
    record { puts = both.0; wrote = both.1 }
