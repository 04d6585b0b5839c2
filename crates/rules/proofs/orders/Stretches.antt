-- What a reader has before it and what it sees are stretches of keys, from its next page on. Assumes nothing.
use mathlib.Core.Path.{◌≡◌, refl, sym, ap, ◌∙◌, subst, fun_ext}
use mathlib.Core.Bool.{false}
use mathlib.Core.List.{[]}
use Prim.Native.Nat.{ℕ, ◌+◌, ◌-◌, ◌≤◌, ◌<◌}
use native.Mathlib.Decide.{dec_lt}
use native.Mathlib.Omega.{arith}
use lib.Dec.{T, T_not, not_T}
use Rattle.bits.specs.Map.{one_of}
use Rattle.rules.specs.Lists.{range, only}
use Rattle.rules.specs.Pages.{file_of, page_of}
use Rattle.rules.specs.Readers.{reader_at, attached, next_key}
use Rattle.rules.specs.UseTimes.{before, sees, look_ahead_of}
use Rattle.rules.specs.Valid.{Valid}
use Rattle.rules.specs.Ranks.{Before, Stretch}
use Rattle.rules.proofs.laws.Tests.{both, is_true, is_false}
use Rattle.rules.proofs.laws.Keys.{only_none, one-of, one-is, one-of-keys, only-keys}
use Rattle.rules.proofs.laws.Cases.{failed}
use Rattle.rules.proofs.calls.Valids.{placed_at}
use Rattle.rules.proofs.orders.LookAheads.{before-is, is-before, sees-before, sees-earlier, seen_by, seen-page}
use Rattle.rules.specs.declared.State.{State}
use Rattle.rules.specs.declared.Reader.{Reader}

-- a reader has before it the pages up to its last page
pub before-stretch : (r : Reader) → T (attached r) → r.position ≤ r.last → r.last ≤ 1024 → (k : ℕ)
    → before r k ≡ one_of (next_key r) (r.last - r.position) k
before-stretch r a p l k =
    both (before r k) (λ b. b ≡ one_of (next_key r) (r.last - r.position) k)
    (λ h. let b = before-is r k h in
    sym (is_true _ (one-of (next_key r) (r.last - r.position) k (omega (arith, b.in_its_file, b.past)) (omega (arith, b.in_its_file, b.in_reach)))))
    (λ h. sym (is_false _ (not_T (one_of (next_key r) (r.last - r.position) k) (λ o.
    let m = one-is (next_key r) (r.last - r.position) k o in
    let f : r.file ≡ file_of k = omega (arith, m) in
    T_not (before r k) h (is-before r k (record { here = a; in_its_file = f; past = omega (arith, m); in_reach = omega (arith, m) }))))))

module _ (s : State) (w : Valid s) (j n : ℕ) (p : Stretch s (reader_at s j) n) where
  abbrev r : Reader
  r = reader_at s j

  -- what it sees is of the stretch
  seen-in : (k : ℕ) → T (sees s r k) → (next_key r ≤ k) × (k < next_key r + n)
  seen-in k h =
      let b = before-is r k (sees-before s r k h) in
      let q = placed_at s w j b.here in
      let m = w.sizes_high r.file in
      (omega (arith, b.in_its_file, b.past), not-past b (omega (arith, b.in_reach, q.last_high)))
    where
      not-past : Before r k → r.last ≤ 1024 → k < next_key r + n
      not-past b m = by (dec_lt k (next_key r + n))
        where
          by : Dec (k < next_key r + n) → k < next_key r + n
          by (yes l) = l
          by (no l) =
              let i : ℕ = next_key r + n in
              let f : r.file ≡ file_of i = omega (arith, b.in_its_file, b.past, b.in_reach) in
              let g : page_of i ≤ page_of k = omega (arith, b.in_its_file, b.past, b.in_reach) in
              let past : r.position < page_of i = omega (arith, b.in_its_file, b.past, b.in_reach) in
              let d : Before r i = record { here = b.here; in_its_file = f; past = past; in_reach = omega (arith, b.in_reach) } in
              absurd (p.outside (sees-earlier s r i k (is-before r i d) g h))

  -- and what is of the stretch it sees
  pub sees-stretch : (k : ℕ) → sees s r k ≡ one_of (next_key r) n k
  sees-stretch k =
      both (sees s r k) (λ b. b ≡ one_of (next_key r) n k)
      (λ h. let l = seen-in k h in sym (is_true _ (one-of (next_key r) n k l.0 l.1)))
      (λ h. sym (is_false _ (not_T (one_of (next_key r) n k) (λ o.
      let l = one-is (next_key r) n k o in
      let e : next_key r + (k - next_key r) ≡ k = omega (arith, l.0) in
      T_not (sees s r k) h (subst (λ i. T (sees s r i)) e (p.inside (k - next_key r) (omega (arith, l.1))))))))

  -- so its pages are these n
  pub look-ahead-keys : j < 16 → next_key r + n ≤ 8192 → look_ahead_of s r ≡ range (next_key r) n
  unfolding look_ahead_of
  look-ahead-keys l m =
      sym (only-keys s w.sizes_high (sees s r) (λ k h. seen-page s w k (seen_by s k j l h)))
      ∙ ap (λ P. only P (range 0 8192)) (fun_ext sees-stretch)
      ∙ one-of-keys (next_key r) n 8192 m

-- an empty slot has nothing before it, sees nothing and has no look-ahead
module _ (s : State) (r : Reader) (e : attached r ≡ false) where
  pub empty-before : (k : ℕ) → before r k ≡ false
  unfolding before
  empty-before k = rw e refl

  pub empty-sees : (k : ℕ) → sees s r k ≡ false
  unfolding sees
  empty-sees k = rw (empty-before k) refl

  pub empty-keys : Valid s → look_ahead_of s r ≡ []
  unfolding look_ahead_of
  empty-keys w =
      let none : (k : ℕ) → T (sees s r k) → ⊥ = λ k. failed (sees s r k) (empty-sees k) in
      sym (only-keys s w.sizes_high (sees s r) (λ k h. absurd (none k h))) ∙ only_none (sees s r) 0 8192 (λ k _ _. none k)
