-- The requests of sixteen readers who take turns, and a page's next use among them as a least distance. Assumes nothing.
use mathlib.Core.Path.{◌≡◌, refl, sym, ap, ap₂, ◌∙◌, fun_ext}
use mathlib.Core.Bool.{Bool, true, false, cond, ◌&&◌}
use mathlib.Core.List.{[], ◌∷◌}
use Rattle.std.specs.declared.option.Option.{Option}
use Rattle.std.specs.declared.option.Option.TheVariants.{Some, None}
use mathlib.Core.Logic.{◌≢◌}
use Prim.Native.Nat.{ℕ, zero, suc, ◌+◌, ◌-◌, ◌*◌, ◌/◌, ◌%◌, ◌≤◌, ◌<◌, zero-le}
use native.Mathlib.Omega.{arith}
use native.Mathlib.Nat.{le_antisymm}
use lib.Dec.{leb, ltb, eqb}
use Rattle.rules.specs.Lists.{least}
use Rattle.rules.proofs.laws.Tests.{leq, less, key, sixteen}
use Rattle.rules.proofs.laws.Leasts.{least-far, least-le, le-least}
use Rattle.rules.proofs.third.Belady.{Requests, next_use}

-- ---- requests given by a function of the turn's number

unfoldable listed : ℕ → (ℕ → Option ℕ) → Requests
listed zero g = []
listed (suc n) g = g 0 ∷ listed n (λ i. g (suc i))

-- the next use after one turn, by whether the turn reads the key
next-head : (o : Option ℕ) (rs : Requests) (k : ℕ) (P : ℕ → Type 0) → (o ≡ Some k → P 0) → (o ≢ Some k → P (suc (next_use rs k))) → P (next_use (o ∷ rs) k)
unfolding next_use
next-head None rs k P y n = n (λ e. let z : ◌≡◌ {A = ℕ} 0 1 = cc in omega arith)
next-head (Some x) rs k P y n = key x k (λ b. P (cond b 0 (suc (next_use rs k)))) (λ e. y (ap Some e)) (λ ne. n (λ e. ne (cc)))

next-len : (n : ℕ) (g : ℕ → Option ℕ) (k : ℕ) → next_use (listed n g) k ≤ n
unfolding listed next_use
next-len zero g k = zero-le
next-len (suc n) g k =
    let ih = next-len n (λ i. g (suc i)) k in
    next-head (g 0) (listed n (λ i. g (suc i))) k (λ m. m ≤ suc n) (λ _. zero-le) (λ _. omega arith)

next_le : (n : ℕ) (g : ℕ → Option ℕ) (k i : ℕ) → g i ≡ Some k → next_use (listed n g) k ≤ i
unfolding listed next_use
next_le zero g k i h = zero-le
next_le (suc n) g k zero h = next-head (g 0) (listed n (λ i. g (suc i))) k (λ m. m ≤ 0) (λ _. zero-le) (λ ne. absurd (ne h))
next_le (suc n) g k (suc i) h =
    let ih = next_le n (λ i. g (suc i)) k i h in next-head (g 0) (listed n (λ i. g (suc i))) k (λ m. m ≤ suc i) (λ _. zero-le) (λ _. omega arith)

next-hit : (n : ℕ) (g : ℕ → Option ℕ) (k : ℕ) → next_use (listed n g) k < n → g (next_use (listed n g) k) ≡ Some k
unfolding listed next_use
next-hit zero g k h = absurd (omega arith)
next-hit (suc n) g k l =
    let ih : next_use (listed n (λ i. g (suc i))) k < n → g (suc (next_use (listed n (λ i. g (suc i))) k)) ≡ Some k = next-hit n (λ i. g (suc i)) k in
    next-head (g 0) (listed n (λ i. g (suc i))) k (λ m. m < suc n → g m ≡ Some k) (λ e _. e) (λ _ h. ih (omega arith)) l

-- ---- the slots

-- the key of page p + 1 of file f
abbrev pub code : ℕ → ℕ → ℕ
code f p = f * 1024 + p

-- a slot: vacant, or a reader of a file, at a position, to a last page
pub data Slot : Type 0 where
  vacant : Slot
  reader : ℕ → ℕ → ℕ → Slot

-- what a slot reads at its turn number q from now on
unfoldable pub page_at : Slot → ℕ → Option ℕ
page_at vacant q = None
page_at (reader f c z) q = cond (ltb (c + q) z) (Some (code f (c + q))) None

-- the slot after its turn
unfoldable pub advance : Slot → Slot
advance vacant = vacant
advance (reader f c z) = reader f (cond (ltb c z) (c + 1) c) z

abbrev pub Slots : Type 0
Slots = ℕ → Slot

-- the slots after slot u's turn
abbrev pub after : Slots → ℕ → Slots
after σ u j = cond (eqb u j) (advance (σ j)) (σ j)

-- n turns, from slot u's on
unfoldable pub requests : ℕ → Slots → ℕ → Requests
requests zero σ u = []
requests (suc n) σ u = page_at (σ u) 0 ∷ requests n (after σ u) ((u + 1) % 16)

past : (m z : ℕ) (o : Option ℕ) → z ≤ m → cond (ltb m z) o None ≡ None
past m z o l = less m z (λ b. cond b o None ≡ None) (λ h. absurd (omega arith)) (λ _. refl)

advance-page : (s : Slot) (q : ℕ) → page_at (advance s) q ≡ page_at s (suc q)
unfolding page_at advance
advance-page vacant q = refl
advance-page (reader f c z) q =
    less c z (λ b. cond (ltb (cond b (c + 1) c + q) z) (Some (code f (cond b (c + 1) c + q))) None ≡ cond (ltb (c + suc q) z) (Some (code f (c + suc q))) None)
    (λ l. ap (λ m. cond (ltb m z) (Some (code f m)) None) (omega arith))
    (λ l. past (c + q) z _ (omega arith) ∙ sym (past (c + suc q) z _ (omega arith)))

-- ---- turns and seats

-- how many turns from turn u to slot j's
abbrev distance : ℕ → ℕ → ℕ
distance u j = (j + 16 - u) % 16

-- the turn that is whole rounds and a seat's distance off is the slot's own
seat-turn : (u j a : ℕ) → u < 16 → j < 16 → (u + (16 * a + distance u j)) % 16 ≡ j
seat-turn u j a lu lj =
    less j u (λ _. (u + (16 * a + distance u j)) % 16 ≡ j)
    (λ l. let s = sixteen (j + 16 - u) 0 (j + 16 - u) (omega arith) (omega arith) in (sixteen (u + (16 * a + distance u j)) (a + 1) j (omega arith) lj).1)
    (λ l. let s = sixteen (j + 16 - u) 1 (j - u) (omega arith) (omega arith) in (sixteen (u + (16 * a + distance u j)) a j (omega arith) lj).1)

-- and the other way
turn-seat : (u i : ℕ) → u < 16 → 16 * (i / 16) + distance u ((u + i) % 16) ≡ i
turn-seat u i lu =
    less ((u + i) % 16) u (λ _. 16 * (i / 16) + distance u ((u + i) % 16) ≡ i)
    (λ l. let s = sixteen ((u + i) % 16 + 16 - u) 0 ((u + i) % 16 + 16 - u) (omega arith) (omega arith) in
    let t = sixteen i ((u + i) / 16 - 1) ((u + i) % 16 + 16 - u) (omega arith) (omega arith) in omega arith)
    (λ l. let s = sixteen ((u + i) % 16 + 16 - u) 1 ((u + i) % 16 - u) (omega arith) (omega arith) in
    let t = sixteen i ((u + i) / 16) ((u + i) % 16 - u) (omega arith) (omega arith) in omega arith)

-- a whole round on, and within a round
round-on : (u i : ℕ) → u < 16 → u ≡ (u + suc i) % 16 → i / 16 + 1 ≡ suc i / 16
round-on u i l e =
    let a : (u + suc i) / 16 ≤ suc i / 16 = omega arith in
    let b : suc i / 16 ≤ (u + suc i) / 16 = omega arith in
    let c : suc i % 16 ≡ 0 = omega arith in
    omega arith

round-in : (u i : ℕ) → u < 16 → u ≢ (u + suc i) % 16 → i / 16 ≡ suc i / 16
round-in u i l e =
    let up : i / 16 ≤ suc i / 16 = omega arith in
    let most : suc i / 16 ≤ i / 16 + 1 = omega arith in
    let ne : suc i / 16 ≢ i / 16 + 1 = λ h.
    let c : suc i % 16 ≡ 0 = omega arith in
    let a : (u + suc i) / 16 ≤ suc i / 16 = omega arith in
    let b : suc i / 16 ≤ (u + suc i) / 16 = omega arith in
    e (omega arith) in
    omega arith

-- what turn i reads, in closed form
abbrev turn_at : Slots → ℕ → ℕ → Option ℕ
turn_at σ u i = page_at (σ ((u + i) % 16)) (i / 16)

turn_suc : (σ : Slots) (u i : ℕ) → u < 16 → turn_at (after σ u) ((u + 1) % 16) i ≡ turn_at σ u (suc i)
turn_suc σ u i l =
    let same : ((u + 1) % 16 + i) % 16 ≡ (u + suc i) % 16 = omega arith in
    rw same
    (key u ((u + suc i) % 16)
    (λ b. page_at (cond b (advance (σ ((u + suc i) % 16))) (σ ((u + suc i) % 16))) (i / 16) ≡ page_at (σ ((u + suc i) % 16)) (suc i / 16))
    (λ e. advance-page (σ ((u + suc i) % 16)) (i / 16) ∙ ap (page_at (σ ((u + suc i) % 16))) (omega (arith, round-on u i l e)))
    (λ ne. ap (page_at (σ ((u + suc i) % 16))) (round-in u i l ne)))

requests-listed : (n : ℕ) (σ : Slots) (u : ℕ) → u < 16 → requests n σ u ≡ listed n (turn_at σ u)
unfolding requests listed
requests-listed zero σ u l = refl
requests-listed (suc n) σ u l =
    ap₂ ◌∷◌ (ap (λ j. page_at (σ j) 0) (omega arith))
    (requests-listed n (after σ u) ((u + 1) % 16) (omega arith) ∙ ap (listed n) (fun_ext (λ i. turn_suc σ u i l)))

-- ---- the least distance

-- a reader of file g at c, to page z, has page p + 1 of file f before it
abbrev comes : ℕ → ℕ → ℕ → ℕ → ℕ → Bool
comes g c z f p = eqb g f && (ltb c (p + 1) && leb (p + 1) z)

comes-cases : (g c z f p : ℕ) (P : Bool → Type 0) → (g ≡ f → c ≤ p → p < z → P true) → P false → P (comes g c z f p)
comes-cases g c z f p P y n =
    key g f (λ b. P (b && (ltb c (p + 1) && leb (p + 1) z)))
    (λ e. less c (p + 1) (λ b. P (b && leb (p + 1) z)) (λ l. leq (p + 1) z P (λ h. y e (omega arith) (omega arith)) (λ _. n)) (λ _. n))
    (λ _. n)

comes-true : (g c z f p : ℕ) → g ≡ f → c ≤ p → p < z → comes g c z f p ≡ true
comes-true g c z f p e l h =
    key g f (λ b. (b && (ltb c (p + 1) && leb (p + 1) z)) ≡ true)
    (λ _.
    less c (p + 1) (λ b. (b && leb (p + 1) z) ≡ true) (λ _. leq (p + 1) z (λ b. b ≡ true) (λ _. refl) (λ k. absurd (omega arith)))
    (λ k. absurd (omega arith)))
    (λ ne. absurd (ne e))

-- how many turns off slot j's read of page p + 1 of file f is, from turn u; far, where it does not come
unfoldable pub away : ℕ → Slot → ℕ → ℕ → ℕ → ℕ → ℕ
away far vacant u f p j = far
away far (reader g c z) u f p j = cond (comes g c z f p) (16 * (p + 1 - c - 1) + distance u j) far

-- a last page that is a page of a file
unfoldable pub Fits : Slot → Type 0
Fits vacant = Unit {0}
Fits (reader f c z) = z ≤ 1024

-- a slot's read that is coming is a turn that reads the page
away-reads : (far : ℕ) (s : Slot) (u f p j : ℕ) → u < 16 → j < 16 → (P : ℕ → Type 0) → P far
    → ((i : ℕ) → (u + i) % 16 ≡ j → page_at s (i / 16) ≡ Some (code f p) → P i) → P (away far s u f p j)
unfolding away page_at
away-reads far vacant u f p j lu lj P n y = n
away-reads far (reader g c z) u f p j lu lj P n y =
    comes-cases g c z f p (λ b. P (cond b (16 * (p + 1 - c - 1) + distance u j) far))
    (λ e l h. y (16 * (p + 1 - c - 1) + distance u j) (seat-turn u j (p + 1 - c - 1) lu lj) (paged e l h)) n
  where
    paged : g ≡ f → c ≤ p → p < z
        → cond (ltb (c + (16 * (p + 1 - c - 1) + distance u j) / 16) z) (Some (code g (c + (16 * (p + 1 - c - 1) + distance u j) / 16))) None
        ≡ Some (code f p)
    paged e l h =
        let at = sixteen (16 * (p + 1 - c - 1) + distance u j) (p + 1 - c - 1) (distance u j) refl (omega arith) in
        rw at.0 (less (c + (p + 1 - c - 1)) z (λ b. cond b (Some (code g (c + (p + 1 - c - 1)))) None ≡ Some (code f p))
        (λ _. ap Some (omega arith)) (λ k. absurd (omega arith)))

-- a turn that reads the page is a slot's read that is coming
reads-away : (far : ℕ) (s : Slot) (u f p j q : ℕ) → Fits s → p < 1024 → page_at s q ≡ Some (code f p) → away far s u f p j ≡ 16 * q + distance u j
unfolding away page_at Fits
reads-away far vacant u f p j q w lp h = let z : ◌≡◌ {A = ℕ} 0 1 = cc in absurd (omega arith)
reads-away far (reader g c z) u f p j q w lp h =
    less (c + q) z
    (λ b.
    cond b (Some (code g (c + q))) None ≡ Some (code f p)
    → cond (comes g c z f p) (16 * (p + 1 - c - 1) + distance u j) far ≡ 16 * q + distance u j)
    (λ l e.
    let codes : code g (c + q) ≡ code f p = cc in
    let file : g ≡ f = omega arith in
    rw (comes-true g c z f p file (omega arith) (omega arith)) (omega arith))
    (λ _ e. let o : ◌≡◌ {A = ℕ} 0 1 = cc in absurd (omega arith))
    h

-- the least distance of key k over the slots, from turn u
unfoldable pub nearest : ℕ → Slots → ℕ → ℕ → ℕ
nearest far σ u k = least 16 (λ j. away far (σ j) u (k / 1024) (k % 1024) j) far

-- a page's next use in n turns is its least distance, or n where that is more
pub next-use : (n : ℕ) (σ : Slots) (u k : ℕ) → u < 16 → ((j : ℕ) → Fits (σ j)) → next_use (requests n σ u) k ≡ nearest n σ u k
unfolding nearest
next-use n σ u k lu w = rw (requests-listed n σ u lu) (le_antisymm le ge)
  where
    le : next_use (listed n (turn_at σ u)) k ≤ least 16 (λ j. away n (σ j) u (k / 1024) (k % 1024) j) n
    le =
        let len = next-len n (turn_at σ u) k in
        le-least 16 (λ j. away n (σ j) u (k / 1024) (k % 1024) j) n (next_use (listed n (turn_at σ u)) k) len
        (λ j l. away-reads n (σ j) u (k / 1024) (k % 1024) j lu l (λ m. next_use (listed n (turn_at σ u)) k ≤ m) len
        (λ i e r. next_le n (turn_at σ u) k i (rw e (r ∙ ap Some (omega arith)))))

    ge : least 16 (λ j. away n (σ j) u (k / 1024) (k % 1024) j) n ≤ next_use (listed n (turn_at σ u)) k
    ge = less (next_use (listed n (turn_at σ u)) k) n (λ _. least 16 (λ j. away n (σ j) u (k / 1024) (k % 1024) j) n ≤ next_use (listed n (turn_at σ u)) k)
        (λ l.
        let i : ℕ = next_use (listed n (turn_at σ u)) k in
        let j : ℕ = (u + i) % 16 in
        omega (
          arith,
          turn-seat u i lu,
          least-le 16 (λ j. away n (σ j) u (k / 1024) (k % 1024) j) n j (omega arith),
          reads-away n (σ j) u (k / 1024) (k % 1024) j (i / 16) (w j) (omega arith) (next-hit n (turn_at σ u) k l ∙ ap Some (omega arith)),
        ))
        (λ l. omega (arith, least-far 16 (λ j. away n (σ j) u (k / 1024) (k % 1024) j) n))
