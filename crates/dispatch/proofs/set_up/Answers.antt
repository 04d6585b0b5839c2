-- Carried out, Setup gives the state of the view that it made aside, without pages; refused, the old one stays.
use Rattle.std.proofs.Common.{rules, sym, ap, subst, ◌∙◌}
use Rattle.rules.specs.Calls.{reply}
use Rattle.rules.specs.Lines.{told}
use Rattle.rules.specs.Valid.{Valid}
use Rattle.rules.specs.Views.{state_of, no_pages}
use Rattle.rules.proofs.calls.Kept.{setup-valid}
use Rattle.dispatch.proofs.Letters.{setup-done, setup-refused, setup-fields}
use Rattle.dispatch.proofs.set_up.Goals as goal

pub empty-requires : goal.empty-requires
empty-requires c =
    subst Valid (sym (ap (λ r. r.state) c.setup_in-answer.ensures)) (setup-valid _ _ _ _ 0 _ (search rules) (search rules))

pub returns-then-carried_out : goal.returns-then-carried_out
returns-then-carried_out c =
    let answer = c.setup_in-answer.result in
    let r = reply (state_of c.setup_in-answer.new.v no_pages no_pages) answer in
    ap (λ s. told (reply s answer)) (c.q-then-carried_out.view_is ∙ c.empty.ensures)
    ∙ setup-done c.args.q.now r (sym c.carried_out.ensures ∙ c.if-carried_out.true)
    ∙ setup-fields c.args.q.now r c.args.fields.now _ c.requires c.copy_from_slice.ensures.after c.setup_in-answer.ensures

pub returns-else-carried_out : goal.returns-else-carried_out
returns-else-carried_out c =
    let r = reply (state_of c.setup_in-answer.new.v no_pages no_pages) c.setup_in-answer.result in
    setup-refused c.args.q.now r (sym c.carried_out.ensures ∙ c.if-carried_out.false)
    ∙ setup-fields c.args.q.now r c.args.fields.now _ c.requires c.copy_from_slice.ensures.after c.setup_in-answer.ensures
