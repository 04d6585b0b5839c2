-- Save and Restore undo one another: an image, brought up to date, is accepted exactly if it is that of a valid state, and is saved back so. Assumes
-- nothing.
use mathlib.Core.Path.{◌≡◌, refl, sym, ap, ◌∙◌, subst}
use mathlib.Core.Bool.{Bool, not, ◌&&◌}
use mathlib.Core.List.{List, [], append-nil}
use mathlib.Core.Logic.{◌↔◌, ◌⊎◌, inl, inr, ⊎_elim}
use Prim.Native.Nat.{ℕ, ◌+◌, ◌*◌, ◌^◌, ◌<◌}
use native.Mathlib.Nat.{pow-le-pow_right, lt_of_lt_of_le}
use native.Mathlib.Omega.{arith}
use mir.Syntax.{w8}
use mir.Val.{Fits}
use lib.ListN.{length, get_or, take, drop, replicate}
use lib.Seq.{get_or-take, get_or-drop, drop_at, drop-drop}
use lib.Dec.{T, leb, leb→le, le→leb, eqb, eqb→eq}
use Rattle.rules.specs.Lists.{each, every}
use Rattle.rules.specs.Valid.{Valid}
use Rattle.rules.specs.Calls.{reply, refused, rule_of, idle}
use Rattle.rules.specs.Image.{
  layout,
  image_length,
  image_of,
  number_of,
  numbers_in,
  image_numbers,
  state_from,
  accepts,
  restore_whole,
  marked,
  unruled_length,
  Older,
  upgraded,
  restore_of,
}
use Rattle.rules.proofs.calls.Kept.{idle-valid}
use Rattle.rules.proofs.laws.Tests.{side, is_true, is_false, and_both, and_first, and_second}
use Rattle.rules.proofs.laws.Indexed.{Always, all-always, every-all}
use Rattle.rules.proofs.laws.Numbers.{Bytes}
use Rattle.rules.proofs.images.Tables.{
  widths,
  total,
  encoded-length,
  numbers-encoded,
  encoded-numbers,
  numbers-alike,
  numbers-length,
  numbers-drop,
  numbers-low,
}
use Rattle.rules.proofs.images.Fits.{layout-fits}
use Rattle.rules.proofs.images.Layouts.{
  Lengths,
  valid-lengths,
  state_numbers,
  values-layout,
  widths-alike,
  state-numbers,
  Table,
  numbers-from,
  lengths-from,
}
use Rattle.rules.proofs.images.Accepts.{Accepted, accepted, in-accepted, table-in, accepted-valid, valid-accepted}
use Rattle.rules.proofs.images.Offsets.{rule_at, filler_at, expected_start, rule-at, filler-at, expected-at}
use Rattle.rules.proofs.images.Upgrades.{upgraded-same, upgraded-bytes, older-long, upgraded-parts}
use Rattle.rules.specs.declared.Rule.TheVariants.{Of1989}
use Rattle.rules.specs.declared.Refusal.TheVariants.{NoImage}
use Rattle.rules.specs.declared.State.{State}
use Rattle.rules.specs.declared.Reply.{Reply}
use Rattle.rules.specs.declared.Answer.TheVariants.{Refused, Done}

-- ---- the table

idle-lengths : Lengths idle
idle-lengths =
    record { eight = refl; sixteen = refl; marks_all = refl; expected_all = refl; attaches_all = refl; cached-all = refl; fetching-all = refl }

table-long : length (layout idle) ≡ 384
unfolding layout each
table-long = refl

table-total : total (widths (layout idle)) ≡ image_length
unfolding layout each total
table-total = refl

numbers-long : (image : List ℕ) → length (image_numbers image) ≡ 384
numbers-long image = numbers-length (layout idle) image ∙ table-long

-- no field from number o on is wider than w
abbrev Narrow : ℕ → ℕ → Bool
Narrow o w = every (λ x. leb x w) (drop o (widths (layout idle)))

-- so the numbers of an image fit w bytes from there on
numbers_fit : (o w : ℕ) → T (Narrow o w) → (image : List ℕ) → Bytes image → Always (λ n. n < 256 ^ w) 0 (drop o (image_numbers image))
numbers_fit o w h image bytes i =
    let ws = widths (layout idle) in
    let narrow = leb→le (get_or (drop o ws) i 0) w
    (all-always (λ x. T (leb x w)) 0 (le→leb 0 w (omega arith)) (drop o ws) (every-all (λ x. leb x w) (drop o ws) h) i) in
    rw (get_or-drop o (image_numbers image) i 0)
    (lt_of_lt_of_le (numbers-low (layout idle) image bytes (o + i)) (pow-le-pow_right {n = 256} (omega arith) (rw (get_or-drop o ws i 0) at narrow)))

-- every number fits a word
words-fit : (image : List ℕ) → Bytes image → Always (λ n. n < 2 ^ 64) 0 (image_numbers image)
unfolding layout each every
words-fit = numbers_fit 0 8 tt

-- those of the attaches fit 2 bytes
attaches-fit : (image : List ℕ) → Bytes image → Always (λ n. n < 65536) 0 (drop 376 (image_numbers image))
unfolding layout each every
attaches-fit = numbers_fit 376 2 tt

-- ---- Save

module _ (s : State) (v : Valid s) where
  -- an image has its length
  pub image-length : length (image_of s) ≡ image_length
  unfolding image_of
  image-length = encoded-length (layout s) ∙ ap total (widths-alike s idle (valid-lengths s v) idle-lengths) ∙ table-total

  -- the numbers of a state's image
  pub image-numbers : image_numbers (image_of s) ≡ state_numbers s
  unfolding image_of
  image-numbers =
      numbers-alike (layout idle) (layout s) (image_of s) (widths-alike idle s idle-lengths (valid-lengths s v))
      ∙ ap (numbers_in (layout s)) (sym (append-nil (image_of s)))
      ∙ numbers-encoded (layout s) [] (layout-fits s v)
      ∙ values-layout s

-- ---- Restore of an image as long as Save writes it

-- what is tested
abbrev passes : List ℕ → Bool
passes image = eqb (length image) image_length && accepts (image_numbers image)

module _ (image : List ℕ) where
  -- the test passes: the state of the numbers
  whole-done : T (passes image) → restore_whole image ≡ reply (state_from (image_numbers image)) Done
  unfolding restore_whole
  whole-done h = rw (is_true (passes image) h)

  -- the test fails: it is refused
  whole_out : T (not (passes image)) → restore_whole image ≡ refused idle NoImage
  unfolding restore_whole
  whole_out h = rw (is_false (passes image) h)

  not_done : T (not (passes image)) → (restore_whole image).answer ≡ Done → ⊥
  not_done h e =
      let out : (restore_whole image).answer ≡ Refused NoImage = ap (λ r. r.answer) (whole_out h) in
      let z : ◌≡◌ {A = ℕ} 0 1 = cc in
      omega arith

  -- done only where the test passes
  done-taken : (restore_whole image).answer ≡ Done → T (passes image)
  done-taken e = ⊎_elim (λ h. h) (λ h. absurd (not_done h e)) (side (passes image))

  -- and only with an image of the right length
  pub done-length : (restore_whole image).answer ≡ Done → length image ≡ image_length
  done-length e = eqb→eq (length image) image_length (and_first (eqb (length image) image_length) _ (done-taken e))

  -- with the state that it gives
  pub done-reply : (restore_whole image).answer ≡ Done → restore_whole image ≡ reply (restore_whole image).state Done
  done-reply e = let d = whole-done (done-taken e) in d ∙ ap (λ r. reply r.state Done) (sym d)

  -- it is done, or not
  pub done-or-not : ((restore_whole image).answer ≡ Done) ⊎ ((restore_whole image).answer ≡ Done → ⊥)
  done-or-not = ⊎_elim (λ h. inl (ap (λ r. r.answer) (whole-done h))) (λ h. inr (not_done h)) (side (passes image))

  -- a refused image gives the idle state back
  pub whole-refused : ((restore_whole image).answer ≡ Done → ⊥) → restore_whole image ≡ refused idle NoImage
  whole-refused n = ⊎_elim (λ h. absurd (n (ap (λ r. r.answer) (whole-done h)))) whole_out (side (passes image))

  taken-accepted : T (passes image) → Accepted (image_numbers image)
  taken-accepted h = accepted (image_numbers image) (and_second (eqb (length image) image_length) _ h)

  taken-table : T (passes image) → Table (image_numbers image)
  taken-table h = table-in (image_numbers image) (numbers-long image) (taken-accepted h)

-- a valid state is restored from its image
pub whole-save : (s : State) → Valid s → restore_whole (image_of s) ≡ reply s Done
whole-save s v =
    let numbered : image_numbers (image_of s) ≡ state_numbers s = image-numbers s v in
    let long : T (eqb (length (image_of s)) image_length) = rw (image-length s v) tt in
    let test : T (passes (image_of s)) =
    and_both (eqb (length (image_of s)) image_length) (accepts (image_numbers (image_of s))) long
    (rw numbered (in-accepted (state_numbers s) (valid-accepted s v))) in
    whole-done (image_of s) test ∙ ap (λ t. reply t Done) (ap state_from numbered ∙ state-numbers s (valid-lengths s v))

module _ (image : List ℕ) (bytes : Bytes image) where
  -- accepted or refused, the state is valid
  pub whole-valid : Valid (restore_whole image).state
  whole-valid =
      ⊎_elim
      (λ h.
      rw (whole-done image h)
      (accepted-valid (image_numbers image) (numbers-long image) (taken-accepted image h) (words-fit image bytes) (attaches-fit image bytes)))
      (λ h. rw (whole_out image h) idle-valid) (side (passes image))

  -- an accepted image is saved back unchanged
  save-whole : (restore_whole image).answer ≡ Done → image_of (restore_whole image).state ≡ image
  unfolding image_of
  save-whole e =
      let h = done-taken image e in
      let v = image_numbers image in
      let table = taken-table image h in
      let s = state_from v in
      let alike = widths-alike s idle (lengths-from v table) idle-lengths in
      ap (λ r. image_of r.state) (whole-done image h)
      ∙ encoded-numbers (layout s) image (done-length image e ∙ sym table-total ∙ ap total (sym alike)) bytes
      (values-layout s ∙ numbers-from v table ∙ numbers-alike (layout idle) (layout s) image (sym alike))

-- what is restored of a lent buffer, whose elements are bytes, is valid
pub lent-valid : (image : List ℕ) → ((i : ℕ) → Fits w8 (get_or image i 0)) → (r : Reply) → r ≡ restore_whole image → Valid r.state
lent-valid image lent r e = rw e (whole-valid image (λ i. (lent i).fits))

-- ---- Restore of an image of any length, brought up to date

-- one as long as Save writes it is
newest-same : (image : List ℕ) → length image ≡ image_length → upgraded image ≡ image
newest-same image l = upgraded-same image (λ older. ⊎_elim (λ o. omega arith) (λ o. omega arith) older)

-- a valid state is restored from its image
pub restore-save : (s : State) → Valid s → restore_of (image_of s) ≡ reply s Done
unfolding restore_of
restore-save s v = ap restore_whole (newest-same (image_of s) (image-length s v)) ∙ whole-save s v

-- a refused image, of any length and any bytes. 01: "13: .. The idle state comes back"
pub restore-refused : (image : List ℕ) → ((restore_of image).answer ≡ Done → ⊥) → restore_of image ≡ refused idle NoImage
unfolding restore_of
restore-refused image n = whole-refused (upgraded image) n

module _ (image : List ℕ) (long : length image ≡ image_length) where
  unaccepted : (Accepted (image_numbers image) → ⊥) → restore_of image ≡ refused idle NoImage
  unfolding restore_of
  unaccepted n = ap restore_whole (newest-same image long) ∙ whole-refused image (λ e. n (taken-accepted image (done-taken image e)))

  -- A.6: "A rule byte above 1, a filler byte not 0 or an E above 1,000 gets 13"
  pub rule-above : 1 < number_of (take 1 (drop rule_at image)) → restore_of image ≡ refused idle NoImage
  rule-above h = unaccepted (λ a. omega (arith, a.settings.rule_known, rule-at image))

  pub filler-set : 0 < number_of (take 1 (drop filler_at image)) → restore_of image ≡ refused idle NoImage
  filler-set h = unaccepted (λ a. omega (arith, a.filler, filler-at image))

  pub expected-above : (f : ℕ) → f < 8 → 1000 < number_of (take 2 (drop (expected_start + 2 * f) image)) → restore_of image ≡ refused idle NoImage
  unfolding state_from
  expected-above f l h =
      let v = image_numbers image in
      let read = get_or-take 8 (drop 368 v) f 0 l ∙ get_or-drop 368 v f 0 ∙ expected-at image f l in
      unaccepted (λ a. omega (arith, a.settings.expected-in f, read))

-- the rule, E and R of an older image, and the 0 behind the rule
rules-older : (image : List ℕ) → Older image → drop 366 (image_numbers (upgraded image)) ≡ replicate 18 0
unfolding layout each numbers_in number_of total
rules-older image older =
    numbers-drop (layout idle) (upgraded image) 366
    ∙ ap (λ b. numbers_in (drop 366 (layout idle)) (drop unruled_length b)) (upgraded-parts image older)
    ∙ ap (numbers_in (drop 366 (layout idle))) (drop_at (marked image) (replicate 34 0) unruled_length (older-long image older))

-- of the 1989 rule, E and R 0
abbrev By1989 : State → Type 0
By1989 s = (s.rule ≡ Of1989) × (s.expected ≡ replicate 8 0) × (s.attaches ≡ replicate 8 0)

-- A.6: "shorter ones are read as 1989 with E and R 0"
pub older-1989 : (image : List ℕ) → Older image → By1989 (restore_of image).state
unfolding restore_of state_from
older-1989 image older =
    let v = image_numbers (upgraded image) in
    let end = rules-older image older in
    let read : By1989 (state_from v) = (
      ap rule_of (sym (get_or-drop 366 v 0 0) ∙ ap (λ r. get_or r 0 0) end),
      ap (take 8) (sym (drop-drop 2 366 v) ∙ ap (drop 2) end),
      ap (take 8) (sym (drop-drop 10 366 v) ∙ ap (drop 10) end),
    ) in
    ⊎_elim (λ h. subst (λ r. By1989 r.state) (sym (whole-done (upgraded image) h)) read)
    (λ h. subst (λ r. By1989 r.state) (sym (whole_out (upgraded image) h)) (refl, refl, refl)) (side (passes (upgraded image)))

module _ (image : List ℕ) (bytes : Bytes image) where
  -- accepted or refused, the state is valid
  pub restored-valid : Valid (restore_of image).state
  unfolding restore_of
  restored-valid = whole-valid (upgraded image) (upgraded-bytes image bytes)

  -- an accepted image is saved back as what it is upgraded to
  pub save-restore : (restore_of image).answer ≡ Done → image_of (restore_of image).state ≡ upgraded image
  unfolding restore_of
  save-restore e = save-whole (upgraded image) (upgraded-bytes image bytes) e

  -- A.6: "only shorter images come back longer": as long as Save writes it, "an accepted image comes back unchanged" (A.2)
  pub back-unchanged : length image ≡ image_length → (restore_of image).answer ≡ Done → image_of (restore_of image).state ≡ image
  back-unchanged l e = save-restore e ∙ newest-same image l

  -- both directions, of images of any length: one gives a state exactly if the state is valid and its image is what that one is upgraded to
  pub restores-exactly : (s : State) → (restore_of image ≡ reply s Done) ↔ (Valid s × (upgraded image ≡ image_of s))
  unfolding restore_of
  restores-exactly s = (
    λ e.
        let state : (restore_of image).state ≡ s = ap (λ r. r.state) e in
        (subst Valid state restored-valid, sym (save-restore (ap (λ r. r.answer) e)) ∙ ap image_of state),
    λ w. ap restore_whole w.1 ∙ whole-save s w.0,
  )
