-- The buffers or the place cannot be, Restore refuses the image, or lines are taken and the image of the state after them is saved. Assumes nothing.
use Rattle.std.proofs.Common.{◌≡◌, sym, ◌∙◌, ap}
use Rattle.rules.specs.Entries.{carried_out}
use Rattle.rules.specs.Image.{restore_whole}
use Rattle.rules.proofs.images.Images.{done-length}
use Rattle.lines.proofs.Taking.{ready-room, feed-unready, feed-refused, feed-went, taken-done}
use Rattle.lines.proofs.feed.Goals.{After-carried_out}
use Rattle.lines.proofs.feed.Goals as goal

pub returns-then-not-ready : goal.returns-then-not-ready
returns-then-not-ready c = feed-unready _ _ _ _ _ (sym c.if-not-ready.true ∙ c.ready.ensures)

pub go_through-r-requires : goal.go_through-r-requires
go_through-r-requires c =
    let room = ready-room _ _ _ _ (sym c.ready.ensures ∙ c.if-not-ready.false) in
    (room.1, room.2, room.0)

-- what Restore answered, by its rule
restored : (c : After-carried_out) → c.carried_out.result ≡ carried_out (restore_whole c.args.image.now).answer
restored c = c.carried_out.ensures ∙ ap (λ r. carried_out r.answer) c.restore_whole.ensures

pub returns-then-not-carried_out : goal.returns-then-not-carried_out
returns-then-not-carried_out c =
    let k = (goal.at.returns-then-not-carried_out c).After-carried_out in
    feed-refused _ _ _ _ _ (sym c.ready.ensures ∙ c.if-not-ready.false) (sym (restored k) ∙ c.if-not-carried_out.true)

pub save_whole-requires : goal.save_whole-requires
save_whole-requires c =
    let k = (goal.at.save_whole-requires c).After-carried_out in
    done-length c.args.image.now (taken-done _ (sym (restored k) ∙ c.if-not-carried_out.false))

pub returns : goal.returns
returns c =
    let k = (goal.at.returns c).After-carried_out in
    feed-went _ _ _ _ _ _ _ _ (sym c.ready.ensures ∙ c.if-not-ready.false) (sym (restored k) ∙ c.if-not-carried_out.false)
    (ap (λ r. r.state) c.restore_whole.ensures) c.go_through-r.ensures c.save_whole.ensures
