-- An entry by its rule: the image is restored, the call is done, its state is saved. Assumes nothing.
use Rattle.std.proofs.Common.{◌≡◌, true, false, cond, List, ℕ, sym}
use Rattle.rules.specs.Calls.{reply}
use Rattle.rules.specs.Image.{image_of, restore_whole}
use Rattle.rules.specs.Entries.{code, carried_out, Call, call_of, enter}
use Rattle.rules.specs.declared.State.{State}
use Rattle.rules.specs.declared.Answer.{Answer}

module _ (c : Call) (image : List ℕ) (s : State) (a : Answer) (r : reply s a ≡ restore_whole image) where
  -- Restore refuses the image, and it is left
  pub unrestored : carried_out a ≡ false → record { number = code a; image = image } ≡ enter c image
  unfolding enter
  unrestored h = let e : restore_whole image ≡ reply s a = sym r in rw (e, h)

  -- Restore is done, and so is the call: it is refused, or its state saved
  pub restored : carried_out a ≡ true → (t : State) (b : Answer) → reply t b ≡ call_of c s
      → record { number = code b; image = cond (carried_out b) (image_of t) image } ≡ enter c image
  unfolding enter
  restored h t b e =
      let q : restore_whole image ≡ reply s a = sym r in
      let p : call_of c s ≡ reply t b = sym e in
      rw (q, h, p)
