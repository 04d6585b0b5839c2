-- Optimal replacement, for any reads, keys and frames: giving up the page whose next use is furthest off fetches least. Assumes nothing.
use mathlib.Core.Path.{◌≡◌, refl, sym, ap, ◌∙◌, subst}
use mathlib.Core.Bool.{Bool, true, false, not, cond, ◌&&◌, ◌||◌}
use mathlib.Core.List.{List, [], ◌∷◌}
use Rattle.std.specs.declared.option.Option.{Option}
use Rattle.std.specs.declared.option.Option.TheVariants.{Some, None}
use mathlib.Core.Logic.{◌≢◌}
use Prim.Native.Nat.{ℕ, zero, suc, ◌+◌, ◌-◌, ◌≤◌, ◌<◌, zero-le}
use native.Mathlib.Omega.{arith}
use lib.Dec.{T, ltb, eqb, leb-zero, leb-suc-zero, leb-suc-suc, ltb→lt, lt→ltb}
use Rattle.rules.specs.Schedules.{Set, num, count, added, Serves, fetches_in}
use Rattle.rules.proofs.laws.Tests.{key, and_second}
use Rattle.rules.proofs.laws.Counting.{empty, one, plus, swap, four, mono, count-empty, count-only, num-in, num-out, in-self, swap-count}

-- what each turn reads, if it reads
abbrev pub Requests : Type 0
Requests = List (Option ℕ)

-- how many turns off the key's next read is; the number of turns, where none reads it
unfoldable pub next_use : Requests → ℕ → ℕ
next_use [] k = 0
next_use (None ∷ rs) k = suc (next_use rs k)
next_use (Some x ∷ rs) k = cond (eqb x k) 0 (suc (next_use rs k))

-- the reads alone
unfoldable pub reads_in : Requests → List ℕ
reads_in [] = []
reads_in (None ∷ rs) = reads_in rs
reads_in (Some x ∷ rs) = x ∷ reads_in rs

-- a run of the requests from the set A with c fetches: a missing key takes a free frame, or the frame of a key whose next use is furthest off
pub data Furthest (N F : ℕ) : Requests → Set → ℕ → Type 0 where
  -- no turn
  over : {A : Set} → Furthest N F [] A 0
  -- a turn that reads nothing
  idle : {rs : Requests} {A : Set} {c : ℕ} → Furthest N F rs A c → Furthest N F (None ∷ rs) A c
  -- the key is there
  hit : {x : ℕ} {rs : Requests} {A : Set} {c : ℕ} → T (A x) → Furthest N F rs A c → Furthest N F (Some x ∷ rs) A c
  -- it takes a free frame
  fill : {x : ℕ} {rs : Requests} {A : Set} {c : ℕ} → x < N → T (not (A x)) → count N A < F
      → Furthest N F rs (plus A x) c → Furthest N F (Some x ∷ rs) A (suc c)
  -- it takes the frame of v
  evict : {x : ℕ} {rs : Requests} {A : Set} {c : ℕ} → x < N → T (not (A x)) → F ≤ count N A
      → (v : ℕ) → v < N → T (A v) → ((k : ℕ) → T (A k) → next_use (Some x ∷ rs) k ≤ next_use (Some x ∷ rs) v)
      → Furthest N F rs (swap A v x) c → Furthest N F (Some x ∷ rs) A (suc c)

-- ---- the keys read before turn t

unfoldable near : Requests → ℕ → Set
near rs t k = ltb (next_use rs k) t

near-zero : (rs : Requests) (k : ℕ) → near rs 0 k ≡ false
unfolding near
near-zero rs k = leb-suc-zero (next_use rs k)

near-idle : (rs : Requests) (t k : ℕ) → near (None ∷ rs) (suc t) k ≡ near rs t k
unfolding near next_use
near-idle rs t k = leb-suc-suc (suc (next_use rs k)) t

near-read : (x : ℕ) (rs : Requests) (t k : ℕ) → near (Some x ∷ rs) (suc t) k ≡ (eqb x k || near rs t k)
unfolding near next_use
near-read x rs t k = go (eqb x k)
  where
    go : (b : Bool) → ltb (cond b 0 (suc (next_use rs k))) (suc t) ≡ (b || ltb (next_use rs k) t)
    go true = leb-suc-suc 0 t ∙ leb-zero t
    go false = leb-suc-suc (suc (next_use rs k)) t

-- ---- the invariant

-- for every t, of the keys read before turn t the schedule's set B has at most d more than the run's set A
unfoldable Behind : ℕ → Requests → Set → Set → ℕ → Type 0
Behind N rs A B d = (t : ℕ) → count N (λ k. near rs t k && B k) ≤ count N (λ k. near rs t k && A k) + d

-- the schedule takes its next set, and pays for what it adds
move_at : (m b' b : Bool) → num (m && b') + 0 ≤ num (m && b) + num (b' && not b)
move_at false b' b = zero-le
move_at true false b = zero-le
move_at true true true = omega arith
move_at true true false = omega arith

move : (N : ℕ) (rs : Requests) (A B B' : Set) (d : ℕ) → Behind N rs A B d → Behind N rs A B' (d + count N (added B B'))
unfolding Behind
move N rs A B B' d h t =
    omega (arith, h t, count-empty N, four N (λ k. near rs t k && B' k) empty (λ k. near rs t k && B k) (added B B') (λ k. move_at (near rs t k) (B' k) (B k)))

-- a turn with no read goes by
idle-step : (N : ℕ) (rs : Requests) (A B : Set) (d : ℕ) → Behind N (None ∷ rs) A B d → Behind N rs A B d
unfolding Behind
idle-step N rs A B d h t = simp near-idle at (h (suc t))

-- a read goes by, with its key in both sets
read_up : (m b : Bool) → num b ≡ 1 → num (m && b) + 1 ≤ num b + num m
read_up true b h = omega arith
read_up false b h = omega arith

read_down : (m b : Bool) → num b ≡ 1 → num b + num m ≤ num (m && b) + 1
read_down true b h = omega arith
read_down false b h = omega arith

read_step : (N x : ℕ) (rs : Requests) (A B : Set) (d : ℕ) → num (A x) ≡ 1 → num (B x) ≡ 1 → Behind N (Some x ∷ rs) A B d → Behind N rs A B d
unfolding Behind
read_step N x rs A B d a b h t =
    let both : Set = λ k. eqb x k && near rs t k in
    let up : count N (λ k. near rs t k && B k) + count N (one x) ≤ count N (λ k. near (Some x ∷ rs) (suc t) k && B k) + count N both =
    four N _ _ _ _ (λ k. rw near-read (key x k (λ e. num (near rs t k && B k) + num e ≤ num ((e || near rs t k) && B k) + num (e && near rs t k))
    (λ e. read_up (near rs t k) (B k) (ap (λ j. num (B j)) (sym e) ∙ b)) (λ e. omega arith))) in
    let down : count N (λ k. near (Some x ∷ rs) (suc t) k && A k) + count N both ≤ count N (λ k. near rs t k && A k) + count N (one x) =
    four N _ _ _ _ (λ k. rw near-read (key x k (λ e. num ((e || near rs t k) && A k) + num (e && near rs t k) ≤ num (near rs t k && A k) + num e)
    (λ e. read_down (near rs t k) (A k) (ap (λ j. num (A j)) (sym e) ∙ a)) (λ e. omega arith))) in
    omega (arith, h (suc t))

-- the run takes the key that is read now, and the schedule has paid for it
fetch-paid : (N x : ℕ) (rs : Requests) (A B : Set) (d : ℕ) → x < N → num (B x) ≡ 1 → num (A x) ≡ 0 → Behind N (Some x ∷ rs) A B d → 1 ≤ d
unfolding Behind
fetch-paid N x rs A B d l b a h =
    let now : count N (λ k. (eqb x k || false) && B k) ≤ count N (λ k. (eqb x k || false) && A k) + d = simp (near-read x rs 0, near-zero) at (h 1) in
    let low : count N (one x) ≤ count N (λ k. (eqb x k || false) && B k) =
    mono N _ _ (λ k. key x k (λ e. num e ≤ num ((e || false) && B k)) (λ e. omega (arith, ap (λ j. num (B j)) e)) (λ e. zero-le)) in
    let high : count N (λ k. (eqb x k || false) && A k) ≤ count N empty =
    mono N _ _ (λ k. key x k (λ e. num ((e || false) && A k) ≤ 0) (λ e. omega (arith, ap (λ j. num (A j)) e)) (λ e. zero-le)) in
    omega (arith, count-only N x l, count-empty N)

fetch-step : (N x : ℕ) (rs : Requests) (A B : Set) (d : ℕ) → x < N → num (A x) ≡ 0 → Behind N (Some x ∷ rs) A B d → Behind N (Some x ∷ rs) (plus A x) B (d - 1)
unfolding Behind
fetch-step N x rs A B d l a h zero = simp (near-zero, count-empty) zero-le
fetch-step N x rs A B d l a h (suc t) =
    let up : count N (λ k. near (Some x ∷ rs) (suc t) k && A k) + count N (one x)
    ≤ count N (λ k. near (Some x ∷ rs) (suc t) k && plus A x k) + count N empty =
    four N _ _ _ _ (λ k. rw near-read (key x k (λ e. num ((e || near rs t k) && A k) + num e ≤ num ((e || near rs t k) && (e || A k)) + 0)
    (λ e. omega (arith, ap (λ j. num (A j)) e)) (λ e. omega arith))) in
    omega (arith, h (suc t), count-only N x l, count-empty N)

-- the run lets go of the key that is used last: before its use the counts are as they were, and after it the run's whole set counts
and-le : (m b : Bool) → num (m && b) ≤ num b
and-le true b = omega arith
and-le false b = zero-le

and_mono : (m a b : Bool) → (T m → num a ≤ num b) → num (m && a) ≤ num (m && b)
and_mono true a b h = h tt
and_mono false a b h = zero-le

and-full : (m b : Bool) → (T b → T m) → num b ≤ num (m && b)
and-full true b h = omega arith
and-full false true h = absurd (h tt)
and-full false false h = zero-le

drop-step : (N : ℕ) (rs : Requests) (A A' B : Set) (d v : ℕ) → ((k : ℕ) → v ≢ k → num (A k) ≤ num (A' k))
    → ((k : ℕ) → T (A' k) → next_use rs k ≤ next_use rs v) → count N B ≤ count N A' → Behind N rs A B d → Behind N rs A' B d
unfolding Behind near
drop-step N rs A A' B d v rest last full h t = go (near rs t v) refl
  where
    go : (b : Bool) → near rs t v ≡ b → count N (λ k. near rs t k && B k) ≤ count N (λ k. near rs t k && A' k) + d
    go true e =
        let all : count N A' ≤ count N (λ k. near rs t k && A' k) =
        mono N _ _ (λ k. and-full (near rs t k) (A' k)
        (λ i. lt→ltb (next_use rs k) t (omega (arith, last k i, ltb→lt (next_use rs v) t (subst T (sym e) tt))))) in
        let part : count N (λ k. near rs t k && B k) ≤ count N B = mono N _ _ (λ k. and-le (near rs t k) (B k)) in
        omega arith
    go false e =
        let same : count N (λ k. near rs t k && A k) ≤ count N (λ k. near rs t k && A' k) =
        mono N _ _ (λ k. and_mono (near rs t k) (A k) (A' k) (λ m. rest k (λ p. subst T (ap (near rs t) (sym p) ∙ e) m))) in
        omega (arith, h t)

next-self : (x : ℕ) (rs : Requests) → next_use (Some x ∷ rs) x ≡ 0
unfolding next_use
next-self x rs = key x x (λ b. cond b 0 (suc (next_use rs x)) ≡ 0) (λ _. refl) (λ ne. absurd (ne refl))

swap_step : (N x : ℕ) (rs : Requests) (A B : Set) (d v : ℕ) → ((k : ℕ) → T (A k) → next_use (Some x ∷ rs) k ≤ next_use (Some x ∷ rs) v)
    → count N B ≤ count N (swap A v x) → Behind N (Some x ∷ rs) (plus A x) B d → Behind N (Some x ∷ rs) (swap A v x) B d
swap_step N x rs A B d v last full h = drop-step N (Some x ∷ rs) (plus A x) (swap A v x) B d v
    (λ k. key v k (λ b. v ≢ k → num (eqb x k || A k) ≤ num (eqb x k || (not b && A k))) (λ e ne. absurd (ne e)) (λ _ _. omega arith))
    (λ k. key x k (λ b. T (b || (not (eqb v k) && A k)) → next_use (Some x ∷ rs) k ≤ next_use (Some x ∷ rs) v)
    (λ e _. omega (arith, ap (next_use (Some x ∷ rs)) e, next-self x rs)) (λ _ i. last k (and_second (not (eqb v k)) (A k) i)))
    full h

-- ---- the theorem

-- the run's fetches, against a schedule that is d ahead
against : {N F : ℕ} {rs : Requests} {A : Set} {c : ℕ} → Furthest N F rs A c → (B : Set) (d : ℕ) → Behind N rs A B d
    → (Bs : List Set) → Serves N F (reads_in rs) Bs → c ≤ fetches_in N B Bs + d
unfolding reads_in Serves fetches_in
against over B d h Bs s = zero-le
against {N} (idle {rs} {A} r) B d h Bs s = against r B d (idle-step N rs A B d h) Bs s
against (hit a r) B d h [] s = absurd s
against {N} (hit {x} {rs} {A} a r) B d h (B' ∷ Bs) s =
    let e : ℕ = d + count N (added B B') in
    let moved : Behind N (Some x ∷ rs) A B' e = move N (Some x ∷ rs) A B B' d h in
    let ih = against r B' e (read_step N x rs A B' e (num-in (A x) a) (num-in (B' x) s.0) moved) Bs s.2 in
    omega arith
against (fill l a f r) B d h [] s = absurd s
against {N} (fill {x} {rs} {A} l a f r) B d h (B' ∷ Bs) s =
    let e : ℕ = d + count N (added B B') in
    let moved : Behind N (Some x ∷ rs) A B' e = move N (Some x ∷ rs) A B B' d h in
    let paid : 1 ≤ e = fetch-paid N x rs A B' e l (num-in (B' x) s.0) (num-out (A x) a) moved in
    let got : Behind N (Some x ∷ rs) (plus A x) B' (e - 1) = fetch-step N x rs A B' e l (num-out (A x) a) moved in
    let ih = against r B' (e - 1) (read_step N x rs (plus A x) B' (e - 1) (in-self x (A x)) (num-in (B' x) s.0) got) Bs s.2 in
    omega arith
against (evict l a f v lv av last r) B d h [] s = absurd s
against {N} (evict {x} {rs} {A} l a f v lv av last r) B d h (B' ∷ Bs) s =
    let e : ℕ = d + count N (added B B') in
    let moved : Behind N (Some x ∷ rs) A B' e = move N (Some x ∷ rs) A B B' d h in
    let paid : 1 ≤ e = fetch-paid N x rs A B' e l (num-in (B' x) s.0) (num-out (A x) a) moved in
    let got : Behind N (Some x ∷ rs) (plus A x) B' (e - 1) = fetch-step N x rs A B' e l (num-out (A x) a) moved in
    let more = swap-count N A v x lv l (num-in (A v) av) (num-out (A x) a) in
    let left : Behind N (Some x ∷ rs) (swap A v x) B' (e - 1) = swap_step N x rs A B' (e - 1) v last (omega (arith, s.1)) got in
    let ih = against r B' (e - 1) (read_step N x rs (swap A v x) B' (e - 1) (in-self x (not (eqb v x) && A x)) (num-in (B' x) s.0) left) Bs s.2 in
    omega arith

-- no schedule that serves the reads of the run fetches less
pub optimal : {N F : ℕ} {rs : Requests} {A : Set} {c : ℕ} → Furthest N F rs A c → (Bs : List Set) → Serves N F (reads_in rs) Bs → c ≤ fetches_in N A Bs
unfolding Behind
optimal {N} {A = A} r Bs s = let g = against r A 0 (λ t. omega arith) Bs s in omega arith
