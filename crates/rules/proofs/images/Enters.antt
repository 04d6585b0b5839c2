-- The C entries: Restore, call, Save, and a refusal leaves the buffer byte for byte. Assumes nothing.
use mathlib.Core.Path.{◌≡◌, refl, sym, ap, ◌∙◌, subst}
use mathlib.Core.Bool.{cond}
use mathlib.Core.List.{List}
use mathlib.Core.Logic.{⊎_elim}
use Prim.Native.Nat.{ℕ, ◌≤◌}
use native.Mathlib.Omega.{arith}
use lib.ListN.{length}
use lib.Dec.{T}
use Rattle.rules.specs.Calls.{reply}
use Rattle.rules.specs.Image.{image_length, image_of, restore_whole}
use Rattle.rules.specs.Entries.{code, carried_out, Call, call_of, entered, enter}
use Rattle.rules.proofs.laws.Tests.{is_true}
use Rattle.rules.proofs.laws.Numbers.{Bytes}
use Rattle.rules.proofs.images.Images.{done-length, done-reply, done-or-not, whole-refused, whole-save, whole-valid}
use Rattle.rules.proofs.calls.Kept.{kept}
use Rattle.rules.proofs.calls.Refusals.{refused-same}
use Rattle.rules.specs.declared.Refusal.{Refusal}
use Rattle.rules.specs.declared.Answer.{Answer}
use Rattle.rules.specs.declared.Answer.TheVariants.{Refused, Done}

-- by whether an answer is a refusal
answer-all : {A : Type 0} (P : A → Type 0) (a : Answer) (x y : A) → P x → ((why : Refusal) → a ≡ Refused why → P y) → P (cond (carried_out a) x y)
answer-all P (Refused why) x y p q = q why refl
answer-all P other x y p q = p

-- a number up to 16 is a refusal's, and leaves the buffer
low-left : (a : Answer) (saved image : List ℕ) → code a ≤ 16 → cond (carried_out a) saved image ≡ image
unfolding code
low-left (Refused why) saved image h = refl
low-left other saved image h = absurd (omega arith)

module _ (c : Call) (image : List ℕ) where
  -- where Restore refuses the image, 13, and the buffer is as it was
  pub enter-unrestored : ((restore_whole image).answer ≡ Done → ⊥) → enter c image ≡ record { number = 13; image = image }
  unfolding enter code
  enter-unrestored n =
      subst (λ r. cond (carried_out r.answer) (entered image (call_of c r.state)) (record { number = code r.answer; image = image })
      ≡ record { number = 13; image = image }) (sym (whole-refused image n)) refl

  -- "exactly .. bytes, else 13, tested first": a buffer of another length, that of an older image too
  pub enter-length : (length image ≡ image_length → ⊥) → enter c image ≡ record { number = 13; image = image }
  enter-length n = enter-unrestored (λ d. n (done-length image d))

  -- where it does not, what the call answers and leaves
  pub enter-restored : (restore_whole image).answer ≡ Done → enter c image ≡ entered image (call_of c (restore_whole image).state)
  unfolding enter
  enter-restored e = rw e

  -- a number up to 16 is a refusal's, and the buffer is as it was
  pub enter-refused : (enter c image).number ≤ 16 → (enter c image).image ≡ image
  enter-refused l =
      ⊎_elim
      (λ d.
      ap (λ r. r.image) (enter-restored d)
      ∙ low-left (call_of c (restore_whole image).state).answer (image_of (call_of c (restore_whole image).state).state) image
      (rw (enter-restored d) at l))
      (λ d. ap (λ r. r.image) (enter-unrestored d)) (done-or-not image)

  -- "each as Restore, call, Save": refused or not, the next entry finds an image that it takes, of the state after the call
  pub enter-again : Bytes image → (restore_whole image).answer ≡ Done
      → restore_whole (enter c image).image ≡ reply (call_of c (restore_whole image).state).state Done
  enter-again bytes d =
      let s = (restore_whole image).state in
      ap (λ r. restore_whole r.image) (enter-restored d)
      ∙ answer-all (λ l. restore_whole l ≡ reply (call_of c s).state Done) (call_of c s).answer _ image
      (whole-save (call_of c s).state (kept c s (whole-valid image bytes)))
      (λ why e. done-reply image d ∙ ap (λ t. reply t Done) (sym (refused-same c s why e)))

  -- a call that is carried out leaves the image of its state
  pub enter-saves : (restore_whole image).answer ≡ Done → T (carried_out (call_of c (restore_whole image).state).answer)
      → (enter c image).image ≡ image_of (call_of c (restore_whole image).state).state
  enter-saves d h = ap (λ r. r.image) (enter-restored d) ∙ rw (is_true (carried_out (call_of c (restore_whole image).state).answer) h) refl
