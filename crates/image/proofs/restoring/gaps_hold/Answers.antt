-- The three numbers, each read in its place, are tested one after the other.
use Rattle.std.proofs.Common.{◌≡◌, ◌&&◌, get_or, eqb, sym, ap, ◌∙◌, refl, arith}
use mathlib.Core.Bool.{and_assoc}
use borrow.Author.Tests.{eq-eqb, ne_eqb}
use Rattle.rules.specs.Image.{image_numbers}
use Rattle.rules.proofs.images.Offsets.{setting-at, gap-at, filler-at}
use Rattle.image.proofs.Checks.{on, off}
use Rattle.image.proofs.restoring.gaps_hold.Goals.{then-get-eq0, else-get-eq0}
use Rattle.image.proofs.restoring.gaps_hold.Goals as goal

pub returns-then-get-eq0-2 : goal.returns-then-get-eq0-2
returns-then-get-eq0-2 c =
    let image = c.args.image.now in
    let a = eqb (get_or (image_numbers image) 2 0) 0 in
    let b = eqb (get_or (image_numbers image) 93 0) 0 in
    let first = ap (λ n. eqb n 0) (c.get.ensures ∙ sym (setting-at image 2 (omega arith))) in
    let two : c.if-get-eq0.value ≡ (a && b) = elim c.if-get-eq0.branch [
      | then-get-eq0 w ↦ on a b _ _ first (eq-eqb _ _ w.if-get-eq0.true)
          (w.value-is ∙ ap (λ n. eqb n 0) (w.get-then-get-eq0.ensures ∙ sym (gap-at image)))
      | else-get-eq0 w ↦ off a b _ _ first (ne_eqb _ _ w.if-get-eq0.false) w.value-is
    ] in
    on (a && b) _ _ _ two c.if-get-eq0-2.true (ap (λ n. eqb n 0) (c.get-then-get-eq0-2.ensures ∙ sym (filler-at image))) ∙ and_assoc a b _

pub returns-else-get-eq0-2 : goal.returns-else-get-eq0-2
returns-else-get-eq0-2 c =
    let image = c.args.image.now in
    let a = eqb (get_or (image_numbers image) 2 0) 0 in
    let b = eqb (get_or (image_numbers image) 93 0) 0 in
    let first = ap (λ n. eqb n 0) (c.get.ensures ∙ sym (setting-at image 2 (omega arith))) in
    let two : c.if-get-eq0.value ≡ (a && b) = elim c.if-get-eq0.branch [
      | then-get-eq0 w ↦ on a b _ _ first (eq-eqb _ _ w.if-get-eq0.true)
          (w.value-is ∙ ap (λ n. eqb n 0) (w.get-then-get-eq0.ensures ∙ sym (gap-at image)))
      | else-get-eq0 w ↦ off a b _ _ first (ne_eqb _ _ w.if-get-eq0.false) w.value-is
    ] in
    off (a && b) (eqb (get_or (image_numbers image) 367 0) 0) _ _ two c.if-get-eq0-2.false refl ∙ and_assoc a b _
