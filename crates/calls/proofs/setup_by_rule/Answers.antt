-- The state that Setup gives is valid.
use Rattle.std.proofs.Common.{rules, sym, ap, subst}
use Rattle.rules.specs.Valid.{Valid}
use Rattle.rules.proofs.calls.Kept.{setup-valid}
use Rattle.calls.proofs.setup_by_rule.Goals as goal

pub empty-requires : goal.empty-requires
empty-requires c =
    let a = c.args in
    let e = c.setup_by_rule_in-answer.ensures in
    subst Valid (sym (ap (λ r. r.state) e)) (setup-valid a.frames a.look_ahead a.fetch_time a.sizes a.rule a.expected (search rules) (search rules))
