-- A refused call gives the state back, with a refusal whose number is one of those listed for it. Assumes nothing.
use Prim.Native.Nat.{ℕ}
use mathlib.Core.Path.{◌≡◌, refl, subst}
use mathlib.Core.Bool.{Bool, false, ◌||◌}
use mathlib.Core.List.{List, [], ◌∷◌}
use lib.Dec.{T, eqb}
use Rattle.rules.specs.Refusals.{refusal_number}
use Rattle.rules.specs.Calls.{refused, idle, setup_of, attach_of, read_running, read_of, steal_of, arrive_of, detach_of, lost_of, prefetch_of, measure_of}
use Rattle.rules.specs.Run.{run_of}
use Rattle.rules.specs.Entries.{carried_out, Call, attach, detach, read, arrive, lost, prefetch, steal, run, measure, call_of}
use Rattle.rules.specs.declared.State.{State}
use Rattle.rules.specs.declared.Reply.{Reply}
use Rattle.rules.specs.declared.Refusal.{Refusal}
use Rattle.rules.specs.declared.Answer.TheVariants.{Refused}
use Rattle.rules.proofs.laws.Tests.{key}
use Rattle.rules.proofs.laws.Cases.{cond-all, condition-all, option-all, for-fetch-all}

-- n is a member of the list
abbrev pub member : List ℕ → ℕ → Bool
member [] n = false
member (m ∷ ms) n = eqb n m || member ms n

-- the numbers with which a call is refused, in their order
abbrev pub refusals_of : Call → List ℕ
refusals_of (attach slot file pace start last) = 2 ∷ 3 ∷ 4 ∷ 15 ∷ 5 ∷ []
refusals_of (detach slot) = 2 ∷ 6 ∷ []
refusals_of (read slot) = 2 ∷ 6 ∷ 7 ∷ []
refusals_of (arrive file page) = 3 ∷ 8 ∷ 9 ∷ []
refusals_of (lost file page) = 3 ∷ 8 ∷ 9 ∷ []
refusals_of prefetch = []
refusals_of steal = []
refusals_of (run turns) = 11 ∷ 10 ∷ []
refusals_of (measure slot interval blocked) = 2 ∷ 6 ∷ 16 ∷ []

-- a refusal gives the state s back, and its number is of the list
Fair : State → List ℕ → Reply → Type 0
Fair s list r = (why : Refusal) → r.answer ≡ Refused why → (r.state ≡ s) × T (member list (refusal_number why))

fair-refused : (s : State) (list : List ℕ) (why : Refusal) → T (member list (refusal_number why)) → Fair s list (refused s why)
unfolding Fair
fair-refused s list why h other e = (refl, let q : why ≡ other = cc in subst (λ w. T (member list (refusal_number w))) q h)

fair-done : (s : State) (list : List ℕ) (r : Reply) → T (carried_out r.answer) → Fair s list r
unfolding Fair
fair-done s list r h why e = absurd (subst (λ a. T (carried_out a)) e h)

-- every call refuses with one of its numbers, and then changes nothing
fair : (c : Call) (s : State) → Fair s (refusals_of c) (call_of c s)
unfolding attach_of detach_of read_of read_running arrive_of lost_of prefetch_of steal_of run_of measure_of
fair (attach slot file pace start last) s =
    let F = Fair s (refusals_of (attach slot file pace start last)) in search (cond-all F, condition-all F, fair-refused, fair-done, tt) depth 12
fair (detach slot) s = let F = Fair s (refusals_of (detach slot)) in search (cond-all F, condition-all F, fair-refused, fair-done, tt) depth 12
fair (read slot) s = let F = Fair s (refusals_of (read slot)) in search (cond-all F, condition-all F, fair-refused, fair-done, tt) depth 12
fair (arrive file page) s =
    let F = Fair s (refusals_of (arrive file page)) in
    search (for-fetch-all F, option-all (λ a. T (carried_out a)), fair-refused, fair-done, tt) depth 12
fair (lost file page) s = let F = Fair s (refusals_of (lost file page)) in search (for-fetch-all F, fair-refused, fair-done, tt) depth 12
fair prefetch s = let F = Fair s [] in search (option-all F, fair-done, tt) depth 12
fair steal s = let F = Fair s [] in search (option-all F, fair-done, tt) depth 12
fair (run turns) s = let F = Fair s (refusals_of (run turns)) in search (cond-all F, fair-refused, fair-done, tt) depth 12
fair (measure slot interval blocked) s =
    let F = Fair s (refusals_of (measure slot interval blocked)) in search (cond-all F, condition-all F, fair-refused, fair-done, tt) depth 12

-- a refused call gives the state back
pub refused-same : (c : Call) (s : State) (why : Refusal) → (call_of c s).answer ≡ Refused why → (call_of c s).state ≡ s
unfolding Fair
refused-same c s why e = (fair c s why e).0

-- the number is one of those listed for the call
pub refusal-numbers : (c : Call) (s : State) (why : Refusal) → (call_of c s).answer ≡ Refused why → T (member (refusals_of c) (refusal_number why))
unfolding Fair
refusal-numbers c s why e = (fair c s why e).1

-- a refused Setup gives the idle state, with number 1
pub setup-refused : (frames look time : ℕ) (sizes : List ℕ) (rule : ℕ) (expected : List ℕ) (why : Refusal)
    → (setup_of frames look time sizes rule expected).answer ≡ Refused why
    → ((setup_of frames look time sizes rule expected).state ≡ idle) × (refusal_number why ≡ 1)
unfolding setup_of Fair
setup-refused frames look time sizes rule expected why e =
    let F = Fair idle (1 ∷ []) in
    let f : F (setup_of frames look time sizes rule expected) = search (cond-all F, fair-refused, fair-done, tt) depth 12 in
    let h = f why e in
    let n = refusal_number why in
    (h.0, key n 1 (λ b. T (b || false) → n ≡ 1) (λ q _. q) (λ _ z. absurd z) h.1)
