-- An image of another length, one that has a number which is none's, and one that fails a test are refused; of any other the state is read.
use Rattle.std.proofs.Common.{◌≡◌, refl, sym, ap, ◌∙◌}
use Rattle.rules.specs.Views.{state_of}
use Rattle.rules.specs.Calls.{reply, refused, idle}
use Rattle.rules.specs.Image.{restore_whole}
use Rattle.rules.specs.declared.Answer.TheVariants.{Refused}
use Rattle.rules.specs.declared.Refusal.TheVariants.{NoImage}
use Rattle.parts.proofs.Carried.{held_high}
use Rattle.state.proofs.Kept.{none-held}
use Rattle.image.specs.Bytes.{state_in}
use Rattle.image.specs.Tests.{tests}
use Rattle.image.proofs.Checks.{on, off}
use Rattle.image.proofs.States.{state-read}
use Rattle.image.proofs.Restores.{restore-short, restore-unread, restore-stop, restore-pass}
use Rattle.image.proofs.restoring.restore_whole_in.Goals.{
  After-holds,
  then-image-eq-IMAGE_LENGTH+in-Ok+else-gaps_hold,
  else-gaps_hold-via-then-gaps_hold+else-holds,
  else-gaps_hold-via-else-gaps_hold,
  then-image-eq-IMAGE_LENGTH+in_default,
  else-image-eq-IMAGE_LENGTH,
}
use Rattle.image.proofs.restoring.restore_whole_in.Goals as goal

pub taken-requires : goal.taken-requires
taken-requires c = held_high _ _ c.count_held.ensures

pub holds-requires : goal.holds-requires
holds-requires c = c.taken.ensures _ c.count_held.ensures

-- what is read is the state of the image
read-so : (c : After-holds) → state_of c.in-Ok.view c.read_maps.new.cached c.read_maps.new.fetching ≡ state_in c.args.image.now
read-so c = state-read c.args.image.now _ _ _ c.in-Ok.ensures.1 c.read_maps.ensures.0 c.read_maps.ensures.1

pub returns-then-holds : goal.returns-then-holds
returns-then-holds c =
    let image = c.args.image.now in
    let same = read-so (goal.at.returns-then-holds c).After-holds in
    record {
      by_rule = restore-pass image c.if-image-eq-IMAGE_LENGTH.true c.in-Ok.ensures.0
          (sym (on _ _ _ _ c.gaps_hold.ensures c.if-gaps_hold.true (c.holds.ensures ∙ ap tests same)) ∙ c.if-holds.true) _ same;
      counted = c.count_held.ensures;
    }

pub returns : goal.returns
returns c =
    let image = c.args.image.now in
    let refused_so : refused idle NoImage ≡ restore_whole image =
    elim c.if-image-eq-IMAGE_LENGTH.branch as (λ _. refused idle NoImage ≡ restore_whole image) [
      | then-image-eq-IMAGE_LENGTH+in-Ok+else-gaps_hold w ↦
          let long = w.if-image-eq-IMAGE_LENGTH.true in
          elim w.else-gaps_hold.branch as (λ _. refused idle NoImage ≡ restore_whole image) [
            | else-gaps_hold-via-then-gaps_hold+else-holds u ↦ restore-stop image long
                (sym (on _ _ _ _ w.gaps_hold.ensures u.if-gaps_hold.true (u.holds.ensures
                ∙ ap tests (state-read image _ _ _ w.in-Ok.ensures.1 w.read_maps.ensures.0 w.read_maps.ensures.1))) ∙ u.if-holds.false)
            | else-gaps_hold-via-else-gaps_hold u ↦ restore-stop image long
                (sym (off _ (tests (state_in image)) _ _ w.gaps_hold.ensures u.if-gaps_hold.false refl) ∙ u.if-gaps_hold.false)
          ]
      | then-image-eq-IMAGE_LENGTH+in_default w ↦ restore-unread image w.if-image-eq-IMAGE_LENGTH.true w.in_default.ensures
      | else-image-eq-IMAGE_LENGTH w ↦ restore-short image w.if-image-eq-IMAGE_LENGTH.false
    ] in
    record { by_rule = ap (λ s. reply s (Refused NoImage)) c.idle.ensures ∙ refused_so; counted = none-held }
