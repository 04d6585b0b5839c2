-- Every number passes the test.
use Rattle.std.proofs.Common.{rules, leb, ◌∙◌}
use Rattle.std.proofs.lemmas.Iterator.{YieldsList-from_slice}
use Rattle.std.proofs.lemmas.Iterator.Search.{all_from_yields_List}
use Rattle.parts.proofs.Tests.{every-list, high-within}
use Rattle.calls.proofs.all_within.Goals as goal

pub returns : goal.returns
returns c =
    all_from_yields_List (λ n. leb n c.args.high) _ _ _ c.all.ensures.ran (YieldsList-from_slice c.args.numbers.now cc) (λ x b q k. search rules)
    ∙ every-list _ _ (high-within c.args.high) c.args.numbers.now
