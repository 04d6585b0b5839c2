-- Every line keeps the state valid. Assumes nothing.
use Rattle.std.proofs.Common.{ℕ, ◌≡◌, true, eqb, List, length, get_or, drop, replicate, refl, arith, length-drop, eqb-true}
use Prim.Native.Char.{code as ascii}
use Rattle.rules.specs.Valid.{Valid}
use Rattle.rules.specs.Calls.{setup_of}
use Rattle.rules.specs.Entries.{carried_out}
use Rattle.rules.specs.Lines.{Response, asks, told_setup, obeyed, respond_of}
use Rattle.rules.specs.declared.State.{State}
use Rattle.rules.proofs.laws.Cases.{cond-all, and-true}
use Rattle.rules.proofs.calls.Kept.{attach-kept, detach-kept, read_kept, steal-kept, arrive-kept, lost-kept, prefetch-kept, run-kept, setup-valid}

-- the response's state is valid
abbrev Keeps : Response → Type 0
Keeps r = Valid r.state

-- Setup, carried out or refused
setup-kept : (s : State) → Valid s → (c : ℕ) (x : List ℕ) → asks c x (ascii "S") 11 ≡ true
    → Keeps (told_setup s (setup_of (get_or x 0 0) (get_or x 1 0) (get_or x 2 0) (drop 3 x) 0 (replicate 8 0)))
setup-kept s v c x e =
    let n : length x ≡ 11 = eqb-true _ _ (and-true (eqb c (ascii "S")) _ e).1 in
    let r = setup_of (get_or x 0 0) (get_or x 1 0) (get_or x 2 0) (drop 3 x) 0 (replicate 8 0) in
    cond-all Valid (carried_out r.answer) _ _ (λ _. setup-valid _ _ _ (drop 3 x) 0 (replicate 8 0) (omega (arith, length-drop 3 x)) refl) (λ _. v)

-- so does what a letter and its numbers ask
pub obeyed-kept : (s : State) (c : ℕ) (x : List ℕ) → Valid s → Valid (obeyed s c x).state
unfolding obeyed
obeyed-kept s c x v =
    search (cond-all Keeps, setup-kept, attach-kept, detach-kept, read_kept, steal-kept, arrive-kept, lost-kept, prefetch-kept, run-kept) depth 20

-- every line keeps the state valid
pub respond-kept : (s : State) (line : List ℕ) → Valid s → Valid (respond_of s line).state
unfolding respond_of
respond-kept s line v = search (cond-all Keeps, obeyed-kept) depth 12
