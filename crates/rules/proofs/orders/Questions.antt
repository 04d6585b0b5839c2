-- A.4's answers and words: the slot and the time that are answered are those of the smallest pair, and a reader's look-ahead is in at most 16 words. Assumes
-- nothing.
use mathlib.Core.Path.{◌≡◌, refl, sym, subst}
use mathlib.Core.Bool.{Bool, true, false, cond}
use mathlib.Core.List.{[]}
use Prim.Native.Nat.{ℕ, ◌+◌, ◌*◌, ◌/◌, ◌≤◌, ◌<◌}
use native.Mathlib.Omega.{arith}
use lib.Dec.{T, eqb, eqb→eq}
use Rattle.bits.specs.Map.{one_of}
use Rattle.rules.specs.Lists.{any}
use Rattle.rules.specs.Pages.{pages}
use Rattle.rules.specs.Readers.{reader_at, attached}
use Rattle.rules.specs.UseTimes.{sees, look_ahead_of, time_for, seat, use_key, seen}
use Rattle.rules.specs.Questions.{slot_at, when_of, words_of, words_read, words_most}
use Rattle.rules.specs.Valid.{Valid}
use Rattle.rules.proofs.laws.Leasts.{total_mono}
use Rattle.rules.proofs.laws.Tests.{is_true, sixteen}
use Rattle.rules.proofs.laws.Members.{any-only}
use Rattle.rules.proofs.laws.Keys.{one-of, one-of-count}
use Rattle.rules.proofs.laws.Counting.{count-empty, mono, num-implies}
use Rattle.rules.proofs.laws.Counts.{count-keys}
use Rattle.rules.proofs.calls.Valids.{placed_at}
use Rattle.rules.proofs.orders.LookAheads.{before-is, sees-before, use-for, use-least, met_by}
use Rattle.rules.proofs.orders.Stretches.{empty-keys}
use Rattle.rules.specs.declared.State.{State}
use Rattle.rules.specs.declared.Reader.{Reader}
use Rattle.rules.specs.declared.When.TheVariants.{At}

-- ---- the answer

-- slot j reads page k at this time, and no slot that has the page in look-ahead has a smaller pair of time and seat distance
pub record Soonest (s : State) (k time j : ℕ) : Type 0 where
  pub slot : j < 16
  pub sees-it : T (sees s (reader_at s j) k)
  pub in-time : time_for s (reader_at s j) k ≡ time
  pub first : (i : ℕ) → i < 16 → T (sees s (reader_at s i) k) → time * 16 + seat s j ≤ time_for s (reader_at s i) k * 16 + seat s i

-- a slot is the one at its seat distance
slot-back : (s : State) (j : ℕ) → s.turn < 16 → j < 16 → slot_at s.turn (seat s j) ≡ j
slot-back s j t l = omega arith

-- the page of a look-ahead is answered by the slot that reads it soonest
pub answer-soonest : (s : State) → Valid s → (k : ℕ) → T (seen s k)
    → (time : ℕ) × (j : ℕ) × (when_of s k ≡ At time j) × Soonest s k time j
unfolding when_of
answer-soonest s w k h =
    let m = met_by s w k h in
    let j : ℕ = m.0 in
    let time : ℕ = time_for s (reader_at s j) k in
    let e : use_key s k ≡ 16 * time + seat s j = omega (arith, m.3, use-for s k j m.2) in
    let parts = sixteen (use_key s k) time (seat s j) e (omega arith) in
    let back = slot-back s j w.turn_high m.1 in (
      time,
      j,
      rw (is_true (seen s k) h, parts.0, parts.1, back) refl,
      record {
        slot = m.1;
        sees-it = m.2;
        in-time = refl;
        first = λ i l g. omega (arith, e, use-least s k i l, use-for s k i g);
      },
    )

-- ---- the words

-- of no page there is none
pub no_words : words_of [] ≡ 0
unfolding words_of any
no_words = count-empty 128

module _ (s : State) (w : Valid s) (j : ℕ) where
  abbrev r : Reader
  r = reader_at s j

  -- a word that holds a page of the look-ahead is one of the file's sixteen
  word-of-file : T (attached r) → (i : ℕ) → T (any (λ k. eqb (k / 64) i) (look_ahead_of s r)) → T (one_of (r.file * 16) 16 i)
  unfolding look_ahead_of
  word-of-file a i h =
      let m = any-only (λ k. eqb (k / 64) i) (sees s r) (pages s) h in
      let k = m.0 in
      let b = before-is r k (sees-before s r k m.2) in
      let e = eqb→eq (k / 64) i m.1 in
      one-of (r.file * 16) 16 i (omega (arith, e, b.in_its_file)) (omega (arith, e, b.in_its_file))

  words-of-slot : words_of (look_ahead_of s r) ≤ cond (attached r) 16 0
  unfolding words_of
  words-of-slot = go (attached r) refl
    where
      go : (b : Bool) → attached r ≡ b → words_of (look_ahead_of s r) ≤ cond b 16 0
      go true e =
          let a : T (attached r) = subst T (sym e) tt in
          let held : ℕ → Bool = λ i. any (λ k. eqb (k / 64) i) (look_ahead_of s r) in
          let few = mono 128 held (one_of (r.file * 16) 16) (λ i. num-implies (held i) (one_of (r.file * 16) 16 i) (word-of-file a i)) in
          let sixteen-words = one-of-count (r.file * 16) 16 128 (omega (arith, (placed_at s w j a).file_high)) in
          omega (arith, few, count-keys (one_of (r.file * 16) 16) 128, sixteen-words)
      go false e = rw (empty-keys s r e w) (omega (arith, no_words))

-- "and so at most 16 for each attached reader"
pub words-few : (s : State) → Valid s → words_read s ≤ words_most s
unfolding words_read
words-few s w = total_mono 16 _ _ (words-of-slot s w)
