-- Run's reply: refused, or that of its turns, with the third statement. Assumes nothing.
use Prim.Native.Nat.{ℕ, ◌≤◌, ◌<◌}
use mathlib.Core.Path.{◌≡◌, refl, sym, ap, ◌∙◌}
use mathlib.Core.Bool.{true, false, not}
use lib.ListN.{length}
use lib.Dec.{T, ltb, eqb}
use Rattle.bits.specs.Map.{ones}
use Rattle.rules.specs.Pages.{in_fetch, fetching_pages}
use Rattle.rules.specs.Valid.{Valid}
use Rattle.rules.specs.Calls.{reply, refused}
use Rattle.rules.specs.Run.{fetch_open, turns_of, run_of}
use Rattle.rules.specs.declared.Refusal.TheVariants.{TooManyTurns, FetchOpen}
use Rattle.rules.specs.declared.State.{State}
use Rattle.rules.specs.declared.Reply.{Reply}
use Rattle.rules.specs.declared.Answer.TheVariants.{Ran}
use Rattle.rules.proofs.laws.Cases.{cond_yes, cond_no, outcomes}
use Rattle.rules.proofs.third.Turns.{none-in-fetch}
use Rattle.calls.proofs.Frames.{pages-ones}
use Rattle.turns.specs.Tallies.{so_far}

-- 11
pub run-many : (s : State) (n : ℕ) (r : Reply) → 16384 < n → r ≡ refused s TooManyTurns → r ≡ run_of s n
unfolding run_of
run-many s n r h e = cond_yes (λ q. r ≡ q) (ltb 16384 n) _ _ (search outcomes) e

module _ (s : State) (v : Valid s) (n : ℕ) (few : n ≤ 16384) (q : ℕ) (e : q ≡ ones s.fetching 0 8192) where
  -- q counts the pages in fetch
  is_in_fetch : length (fetching_pages s) ≡ q
  unfolding fetching_pages
  is_in_fetch = pages-ones s v s.fetching v.fetching_in ∙ sym e

  -- none is
  pub none_open : q ≡ 0 → (k : ℕ) → T (in_fetch s k) → ⊥
  unfolding fetch_open
  none_open h = let o : eqb q 0 ≡ true = search outcomes in none-in-fetch s v (rw (is_in_fetch, o) refl)

  -- 10
  pub run-open : (r : Reply) → (q ≡ 0 → ⊥) → r ≡ refused s FetchOpen → r ≡ run_of s n
  unfolding run_of fetch_open
  run-open r h k =
      let o : eqb q 0 ≡ false = search outcomes in
      cond_no (λ x. r ≡ x) (ltb 16384 n) _ _ (search outcomes) (cond_yes (λ x. r ≡ x) (not (eqb (length (fetching_pages s)) 0)) _ _ (rw (is_in_fetch, o)) k)

  -- all turns are made
  pub run-done : (t : State) (fetches reads : ℕ) (r : Reply) → q ≡ 0 → so_far t fetches reads ≡ turns_of n s → r ≡ reply t (Ran fetches reads) → r ≡ run_of s n
  unfolding run_of fetch_open
  run-done t fetches reads r h a k =
      let o : eqb q 0 ≡ true = search outcomes in
      cond_no (λ x. r ≡ x) (ltb 16384 n) _ _ (search outcomes)
      (cond_no (λ x. r ≡ x) (not (eqb (length (fetching_pages s)) 0)) _ _ (rw (is_in_fetch, o))
      (k ∙ ap (λ ts. reply ts.after (Ran ts.fetches ts.reads)) a))
