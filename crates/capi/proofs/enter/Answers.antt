-- The buffer has another length, Restore refuses the image, or the call is done on the state that it gives.
use Rattle.std.proofs.Common.{refl, sym, ◌∙◌}
use Rattle.rules.proofs.images.Enters.{enter-length}
use Rattle.capi.proofs.Entering.{unrestored, restored}
use Rattle.capi.proofs.enter.Goals.{then-carried_out, else-carried_out}
use Rattle.capi.proofs.enter.Goals as goal

pub returns-then-image-ne-LENGTH : goal.returns-then-image-ne-LENGTH
returns-then-image-ne-LENGTH g c = λ k d. rw c.number.ensures (sym (enter-length k c.args.image.now c.if-image-ne-LENGTH.true))

pub returns-then-not-carried_out : goal.returns-then-not-carried_out
returns-then-not-carried_out g c = λ k d.
    rw c.number-then-not-carried_out.ensures
    (unrestored k _ _ _ c.restore_whole-restored.ensures (sym c.carried_out.ensures ∙ c.if-not-carried_out.true))

pub returns : goal.returns
returns g c = λ k d.
    let called = d _ _ _ (record { shown = _; shows = refl; left = _; met = c.call-answer.ensures; leaves = refl }) in
    let whole = restored k _ _ _ c.restore_whole-restored.ensures (sym c.carried_out.ensures ∙ c.if-not-carried_out.false) _ _ called in
    rw c.number-2.ensures
    (elim c.if-carried_out.branch [
      | then-carried_out w ↦
          let e = sym c.carried_out-2.ensures ∙ w.if-carried_out.true in rw (w.image-is, w.save_whole.ensures) (rw e at whole)
      | else-carried_out w ↦
          let e = sym c.carried_out-2.ensures ∙ w.if-carried_out.false in rw w.image-is (rw e at whole)
    ])
