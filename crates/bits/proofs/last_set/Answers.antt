-- The part of the last word, else the whole words down to the one of the first key; a bit before the first key is none.
use Rattle.std.proofs.Common.{◌≡◌, ℕ, ◌+◌, ◌-◌, ◌*◌, ◌/◌, ◌%◌, ◌∙◌, arith}
use Rattle.bits.specs.Map.{last_bit}
use Rattle.bits.proofs.Finds.{Without, Last, without-join, last-is, last-without, last-reached}
use Rattle.bits.proofs.last_set.Goals.{After-last_part-part, then-part-gt0, else-part-gt0}
use Rattle.bits.proofs.last_set.Goals as goal

-- the last set bit of the last word's part
part : (c : After-last_part-part) → let a = c.args in Last a.words.now ((a.from + a.n) / 64 * 64) ((a.from + a.n) % 64) c.last_part-part.result
part c = let a = c.args in rw c.last_part-part.ensures (last-is a.words.now ((a.from + a.n) / 64 * 64) ((a.from + a.n) % 64))

-- no bit is set past it
past : (c : After-last_part-part) → let a = c.args in Without a.words.now 1 ((a.from + a.n) / 64 * 64 + c.last_part-part.result) (a.from + a.n)
past c =
    let a = c.args in
    let e : (a.from + a.n) / 64 * 64 + (a.from + a.n) % 64 ≡ a.from + a.n = omega arith in
    rw e at (last-without a.words.now ((a.from + a.n) / 64 * 64) ((a.from + a.n) % 64) c.last_part-part.result (part c))

pub overflow_add-at : goal.overflow_add-at
overflow_add-at c = omega (arith, (part (goal.at.overflow_add-at c).After-last_part-part).high)

pub returns : goal.returns
returns c =
    let a = c.args in
    let m = (a.from + a.n) / 64 in
    let f = a.from / 64 in
    let s = (goal.at.returns c).After-last_part-part in
    let p = part s in
    let q = past s in
    c.saturating_sub.ensures
    ∙ elim c.if-part-gt0.branch [
      | then-part-gt0 w ↦
          let b : ℕ = m * 64 + c.last_part-part.result in
          rw w.at-is (last-reached a.words.now a.from a.n b (omega (arith, p.high)) q (λ _. p.found w.if-part-gt0.true))
      | else-part-gt0 w ↦
          let n : ℕ = last_bit a.words.now (f * 64) ((m - f) * 64) in
          let b : ℕ = f * 64 + n in
          let t : Last a.words.now (f * 64) ((m - f) * 64) n = last-is a.words.now (f * 64) ((m - f) * 64) in
          let e : f * 64 + (m - f) * 64 ≡ m * 64 = omega arith in
          let g : m * 64 + c.last_part-part.result ≡ m * 64 = omega (arith, w.if-part-gt0.false) in
          let u : Without a.words.now 1 b (m * 64) = rw e at (last-without a.words.now (f * 64) ((m - f) * 64) n t) in
          let v : Without a.words.now 1 b (a.from + a.n) = without-join a.words.now 1 b (m * 64) (a.from + a.n) u (rw g at q) in
          rw (w.at-is, w.last_words-at.ensures) (last-reached a.words.now a.from a.n b (omega (arith, t.high)) v (λ l. t.found (omega arith)))
    ]
