-- What is asked of the box that an image gives, with a list lent for the answer. Assumes nothing: these are definitions.
use Rattle.std.specs.Prelude.{◌≡◌, ℕ, cond, List}
use Rattle.std.specs.Borrow.{Bor, MutBor}
use Rattle.std.specs.Fn.{Once}
use Rattle.rules.specs.Image.{restore_of}
use Rattle.rules.specs.Entries.{code, carried_out}
use Rattle.rules.specs.declared.State.{State}

-- a number, and a lent list after the call
pub record Listed (A : Type 0) : Type 0 where
  pub number : ℕ
  pub list : List A

-- Restore, and what is asked of the box that it gives; 13, and the list left, where it refuses the image
abbrev pub asked : {A : Type 0} → (State → List A → Listed A) → List ℕ → List A → Listed A
asked ask image lent =
    cond (carried_out (restore_of image).answer) (ask (restore_of image).state lent)
    (record { number = code (restore_of image).answer; list = lent })

-- a closure that asks this, whatever the box and the list that it is given
abbrev pub Asks : {F A : Type 0} → Once F (Bor State × (MutBor (List A) × Unit {0})) (ℕ × (MutBor (List A) × Unit {0})) → F
    → (State → List A → Listed A) → Type 0
Asks g f ask = (q : Bor State) (lent left : MutBor _) (n : ℕ) → g.post f (q, (lent, tt)) (n, (left, tt))
    → record { number = n; list = left.now } ≡ ask q.now lent.now
