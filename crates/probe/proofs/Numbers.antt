-- The numbers of Restore, Setup and Save are small enough to stand two in one; and an array of the results of a closure. Assumes nothing.
use Rattle.std.proofs.Common.{◌≡◌, ℕ, ◌<◌, ◌&&◌, ltb, eqb, List, length, ap, arith, add-zero, ◌+◌, ◌∙◌, zero, suc, sym, subst, map, get_or, ext_get_or}
use Rattle.std.proofs.Common.{zero-add, not-suc-le-zero, le_of_suc-le-suc}
use Rattle.std.specs.Array.{IsFromFnResult, IsFromFnResultFrom}
use Rattle.std.specs.Fn.{Mut, Called}
use Rattle.rules.specs.Lists.{range}
use Rattle.rules.proofs.laws.Indexed.{length-listed, get_or-listed}
use Rattle.rules.specs.Calls.{reply, settings_in, setup_of}
use Rattle.rules.specs.Image.{image_length, image_numbers, Saved, save_of, accepts, restore_whole, upgraded, restore_of}
use Rattle.rules.specs.Entries.{code}
use Rattle.rules.specs.declared.State.{State}
use Rattle.rules.specs.declared.Reply.{Reply}
use Rattle.rules.specs.declared.Answer.{Answer}
use Rattle.rules.proofs.laws.Cases.{cond-all}

-- Restore's
pub restore-low : (image : List ℕ) (s : State) (a : Answer) → reply s a ≡ restore_of image → code a < 4294967296
unfolding restore_of restore_whole code
restore-low image s a e =
    let new = upgraded image in
    rw (ap (λ (r : Reply). r.answer) e)
    (cond-all (λ (q : Reply). code q.answer < 4294967296) (eqb (length new) image_length && accepts (image_numbers new)) _ _
    (λ _. omega arith) (λ _. omega arith))

-- Save's
pub save-low : (s : State) (buffer after : List ℕ) (a : Answer) → record { answer = a; buffer = after } ≡ save_of s buffer → code a < 4294967296
unfolding save_of code
save-low s buffer after a e =
    rw (ap (λ (r : Saved). r.answer) e)
    (cond-all (λ (q : Saved). code q.answer < 4294967296) (ltb (length buffer) image_length) _ _ (λ _. omega arith) (λ _. omega arith))

-- Setup's
pub setup-low : (frames look time : ℕ) (sizes : List ℕ) (rule : ℕ) (expected : List ℕ) (s : State) (a : Answer)
    → reply s a ≡ setup_of frames look time sizes rule expected → code a < 4294967296
unfolding setup_of code
setup-low frames look time sizes rule expected s a e =
    rw (ap (λ (r : Reply). r.answer) e)
    (cond-all (λ (q : Reply). code q.answer < 4294967296) (settings_in frames look time sizes rule expected) _ _
    (λ _. omega arith) (λ _. omega arith))

-- ---- an array of a closure's results

module _ {F : Type 0} (g : Mut F (ℕ × Unit {0}) ℕ) (h : ℕ → ℕ) (f : F) (k : (i y : ℕ) (q : F) → Called g f (i, tt) y q → (y ≡ h i) × (q ≡ f))
    (ys : List ℕ) where
  -- one by one
  each-from : (i n : ℕ) → IsFromFnResultFrom g f ys i n → (j : ℕ) → j < n → get_or ys (i + j) 0 ≡ h (i + j)
  each-from i zero e j l = absurd (not-suc-le-zero l)
  each-from i (suc n) e zero l = rw (add-zero i) (e.2.1 0 ∙ (k i e.1 e.0 e.3).0)
  each-from i (suc n) e (suc j) l =
      let o : i + suc j ≡ i + 1 + j = omega arith in
      rw o (each-from (i + 1) n (subst (λ q. IsFromFnResultFrom g q ys (i + 1) n) (k i e.1 e.0 e.3).1 e.4) j (le_of_suc-le-suc l))

  -- all of them
  pub from-results : (n : ℕ) → IsFromFnResult g f ys n → ys ≡ map h (range 0 n)
  from-results n e =
      ext_get_or 0 ys (map h (range 0 n)) (e.long ∙ sym (length-listed h n)) (λ i l.
      let low : i < n = omega (arith, e.long) in
      rw (zero-add i) at (each-from 0 n e.each i low) ∙ sym (get_or-listed h n i 0 low))
