-- The tests are made one after the other, first that of the settings, by which the sizes are low.
use Rattle.std.proofs.Common.{◌≡◌, ◌&&◌, leb, refl, sym, ap, ◌∙◌}
use borrow.Author.Tests.{le-leb, lt-leb}
use Rattle.bits.specs.Map.{ones}
use Rattle.rules.specs.Lists.{range, every}
use Rattle.rules.specs.Views.{state_of}
use Rattle.rules.specs.Image.{reader_holds}
use Rattle.image.specs.Tests.{tests, mark_in, apart_at, size_holds}
use Rattle.image.proofs.Checks.{on, off}
use Rattle.image.proofs.Slots.{readers-sized}
use Rattle.image.proofs.Restores.{sizes-low}
use Rattle.image.proofs.restoring.holds.Goals.{
  then-v-le15,
  else-v-le15,
  then-readers_hold,
  else-readers_hold,
  then-marks_hold,
  else-marks_hold,
  then-taken-v,
  else-taken-v,
}
use Rattle.image.proofs.restoring.holds.Goals as goal

pub readers_hold-requires : goal.readers_hold-requires
readers_hold-requires c = sizes-low _ _ _ _ _ _ _ c.settings_hold.ensures c.if-not-settings_hold.false

pub files_hold-requires : goal.files_hold-requires
files_hold-requires c = sizes-low _ _ _ _ _ _ _ c.settings_hold.ensures c.if-not-settings_hold.false

pub returns-then-not-settings_hold : goal.returns-then-not-settings_hold
unfolding tests
returns-then-not-settings_hold c =
    sym c.if-not-settings_hold.true ∙ off _ _ _ _ c.settings_hold.ensures c.if-not-settings_hold.true refl

pub returns-then-is_apart : goal.returns-then-is_apart
unfolding tests
returns-then-is_apart c =
    let v = c.args.v.now in
    let s = state_of v c.args.cached.now c.args.fetching.now in
    let a = leb v.turn 15 in
    let b = every (reader_holds s) v.readers in
    let d = every (mark_in v.marks v.readers) (range 0 16) in
    let e = leb (ones c.args.cached.now 0 8192) v.frames in
    let g = every (apart_at c.args.cached.now c.args.fetching.now) (range 0 8192) in
    let h = every (size_holds v.sizes c.args.cached.now c.args.fetching.now) (range 0 8) in
    let two : c.if-v-le15.value ≡ (a && b) = elim c.if-v-le15.branch [
      | then-v-le15 w ↦ on a b _ _ refl (le-leb _ _ w.if-v-le15.true) (w.value-is ∙ w.readers_hold.ensures ∙ readers-sized s v.readers)
      | else-v-le15 w ↦ off a b _ _ refl (lt-leb _ _ w.if-v-le15.false) w.value-is
    ] in
    let three : c.if-readers_hold.value ≡ (a && b && d) = elim c.if-readers_hold.branch [
      | then-readers_hold w ↦ on (a && b) d _ _ two w.if-readers_hold.true (w.value-is ∙ w.marks_hold.ensures)
      | else-readers_hold w ↦ off (a && b) d _ _ two w.if-readers_hold.false w.value-is
    ] in
    let four : c.if-marks_hold.value ≡ (a && b && d && e) = elim c.if-marks_hold.branch [
      | then-marks_hold w ↦ on (a && b && d) e _ _ three w.if-marks_hold.true (w.value-is ∙ ap (λ n. leb n v.frames) c.requires)
      | else-marks_hold w ↦ off (a && b && d) e _ _ three w.if-marks_hold.false w.value-is
    ] in
    let five : c.if-taken-v.value ≡ (a && b && d && e && g) = elim c.if-taken-v.branch [
      | then-taken-v w ↦ on (a && b && d && e) g _ _ four w.if-taken-v.true (w.value-is ∙ w.is_apart.ensures)
      | else-taken-v w ↦ off (a && b && d && e) g _ _ four w.if-taken-v.false w.value-is
    ] in
    on _ _ _ _ c.settings_hold.ensures c.if-not-settings_hold.false
    (on (a && b && d && e && g) h _ _ five c.if-is_apart.true c.files_hold.ensures)

pub returns-else-is_apart : goal.returns-else-is_apart
unfolding tests
returns-else-is_apart c =
    let v = c.args.v.now in
    let s = state_of v c.args.cached.now c.args.fetching.now in
    let a = leb v.turn 15 in
    let b = every (reader_holds s) v.readers in
    let d = every (mark_in v.marks v.readers) (range 0 16) in
    let e = leb (ones c.args.cached.now 0 8192) v.frames in
    let g = every (apart_at c.args.cached.now c.args.fetching.now) (range 0 8192) in
    let h = every (size_holds v.sizes c.args.cached.now c.args.fetching.now) (range 0 8) in
    let two : c.if-v-le15.value ≡ (a && b) = elim c.if-v-le15.branch [
      | then-v-le15 w ↦ on a b _ _ refl (le-leb _ _ w.if-v-le15.true) (w.value-is ∙ w.readers_hold.ensures ∙ readers-sized s v.readers)
      | else-v-le15 w ↦ off a b _ _ refl (lt-leb _ _ w.if-v-le15.false) w.value-is
    ] in
    let three : c.if-readers_hold.value ≡ (a && b && d) = elim c.if-readers_hold.branch [
      | then-readers_hold w ↦ on (a && b) d _ _ two w.if-readers_hold.true (w.value-is ∙ w.marks_hold.ensures)
      | else-readers_hold w ↦ off (a && b) d _ _ two w.if-readers_hold.false w.value-is
    ] in
    let four : c.if-marks_hold.value ≡ (a && b && d && e) = elim c.if-marks_hold.branch [
      | then-marks_hold w ↦ on (a && b && d) e _ _ three w.if-marks_hold.true (w.value-is ∙ ap (λ n. leb n v.frames) c.requires)
      | else-marks_hold w ↦ off (a && b && d) e _ _ three w.if-marks_hold.false w.value-is
    ] in
    let five : c.if-taken-v.value ≡ (a && b && d && e && g) = elim c.if-taken-v.branch [
      | then-taken-v w ↦ on (a && b && d && e) g _ _ four w.if-taken-v.true (w.value-is ∙ w.is_apart.ensures)
      | else-taken-v w ↦ off (a && b && d && e) g _ _ four w.if-taken-v.false w.value-is
    ] in
    on _ _ _ _ c.settings_hold.ensures c.if-not-settings_hold.false
    (off (a && b && d && e && g) h _ _ five c.if-is_apart.false refl)
