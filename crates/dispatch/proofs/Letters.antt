-- What a line asks by its letter and the number of its fields, and what it is told. Assumes nothing.
use Rattle.std.proofs.Common.{ℕ, ◌-◌, ◌≡◌, ◌⊎◌, inl, inr, false, true, ◌&&◌, eqb, List, ◌++◌, get_or, length, take, drop, replicate}
use Rattle.std.proofs.Common.{◌∙◌, ap, refl, take_all, arith, length-drop, ne_eqb, eqb-true}
use Rattle.rules.specs.Calls.{reply, refused, setup_of}
use Rattle.rules.specs.Entries.{carried_out}
use Rattle.rules.specs.Lines.{Response, answer_line, told, told_setup, obeyed}
use Rattle.rules.specs.declared.State.{State}
use Rattle.rules.specs.declared.Reply.{Reply}
use Rattle.rules.specs.declared.Refusal.TheVariants.{NoRequest}
use Rattle.text.specs.Written.{Put}
use Rattle.text.proofs.Pieces.{by-test}
use Rattle.answers.specs.Responses.{line_end, Gives}

-- the answer's line gives the response that tells an equal reply
pub gives-told : (r q : Reply) (before after : List ℕ) (len : ℕ) → r ≡ q → Put before 0 (answer_line r.answer ++ line_end) after len
    → Gives (told q) before after r.state len
gives-told r q before after len e p = record { state_is = ap (λ (t : Reply). t.state) e; line = rw e at p }

-- the same of a response that is told
pub gives-response : (r : Reply) (q : Response) (before after : List ℕ) (len : ℕ) → told r ≡ q → Put before 0 (answer_line r.answer ++ line_end) after len
    → Gives q before after r.state len
gives-response r q before after len e p = rw (← e) (record { state_is = refl; line = p })

-- ---- Setup

module _ (s : State) (r : Reply) where
  -- carried out, it gives its own state
  pub setup-done : carried_out r.answer ≡ true → told r ≡ told_setup s r
  setup-done e = rw e refl

  -- refused, it leaves the old one
  pub setup-refused : carried_out r.answer ≡ false → told (reply s r.answer) ≡ told_setup s r
  setup-refused e = rw e refl

  -- the fields are its three numbers and its eight sizes
  pub setup-fields : (x sizes : List ℕ) → length x ≡ 11 → sizes ≡ take (length x - 3) (drop 3 x)
      → r ≡ setup_of (get_or x 0 0) (get_or x 1 0) (get_or x 2 0) sizes 0 (replicate 8 0) → told_setup s r ≡ obeyed s 83 x
  unfolding obeyed
  setup-fields x sizes e all is =
      let sizes_are : sizes ≡ drop 3 x = all ∙ take_all (length x - 3) (drop 3 x) (omega (arith, length-drop 3 x)) in
      rw (e, is, sizes_are) refl

-- ---- any other line

-- a letter with so many fields that a call takes
abbrev pub Asked : ℕ → ℕ → Type 0
Asked c n =
    ((c ≡ 83) × (n ≡ 11))
    ⊎ (((c ≡ 65) × (n ≡ 5))
    ⊎ ((((c ≡ 73) ⊎ (c ≡ 88)) × (n ≡ 2))
    ⊎ ((((c ≡ 68) ⊎ ((c ≡ 82) ⊎ ((c ≡ 78) ⊎ (c ≡ 67)))) × (n ≡ 1))
    ⊎ (((c ≡ 80) ⊎ ((c ≡ 84) ⊎ ((c ≡ 76) ⊎ (c ≡ 81)))) × (n ≡ 0)))))

-- not this letter with so many fields
not-asked : (c first n wanted : ℕ) → (c ≡ first → n ≡ wanted → ⊥) → (eqb c first && eqb n wanted) ≡ false
not-asked c first n wanted h =
    by-test (eqb c first)
    (λ e. rw e (ne_eqb n wanted (h (eqb-true _ _ e))))
    (λ e. rw e)

-- is refused
pub no-request : (s : State) (c : ℕ) (x : List ℕ) → (Asked c (length x) → ⊥) → obeyed s c x ≡ told (refused s NoRequest)
unfolding obeyed
no-request s c x h =
    let n = length x in
    let two : (c ≡ 73) ⊎ (c ≡ 88) → n ≡ 2 → ⊥ = λ a b. h (inr (inr (inl (a, b)))) in
    let one : (c ≡ 68) ⊎ ((c ≡ 82) ⊎ ((c ≡ 78) ⊎ (c ≡ 67))) → n ≡ 1 → ⊥ = λ a b. h (inr (inr (inr (inl (a, b))))) in
    let none : (c ≡ 80) ⊎ ((c ≡ 84) ⊎ ((c ≡ 76) ⊎ (c ≡ 81))) → n ≡ 0 → ⊥ = λ a b. h (inr (inr (inr (inr (a, b))))) in
    simp (
      not-asked c 83 n 11 (λ a b. h (inl (a, b))),
      not-asked c 65 n 5 (λ a b. h (inr (inl (a, b)))),
      not-asked c 68 n 1 (λ a. one (inl a)),
      not-asked c 82 n 1 (λ a. one (inr (inl a))),
      not-asked c 73 n 2 (λ a. two (inl a)),
      not-asked c 88 n 2 (λ a. two (inr a)),
      not-asked c 80 n 0 (λ a. none (inl a)),
      not-asked c 84 n 0 (λ a. none (inr (inl a))),
      not-asked c 78 n 1 (λ a. one (inr (inr (inl a)))),
      not-asked c 76 n 0 (λ a. none (inr (inr (inl a)))),
      not-asked c 81 n 0 (λ a. none (inr (inr (inr a)))),
      not-asked c 67 n 1 (λ a. one (inr (inr (inr a)))),
    )
