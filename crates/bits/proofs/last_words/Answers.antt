-- Invariant: no bit of the words passed is set.
use Rattle.std.proofs.Common.{◌≡◌, ℕ, ◌+◌, ◌-◌, ◌*◌, arith}
use Rattle.bits.proofs.Finds.{Last, Without, without-join, last_word, last-without, last-reached}
use Rattle.bits.proofs.last_words.Goals.{After-last_one-r}
use Rattle.bits.proofs.last_words.Goals as goal

-- the last set bit of the turn's word
part : (c : After-last_one-r) → Last c.args.words.now ((c.loop-i.i - 1) * 64) 64 c.last_one-r.result
part c = last_word c.args.words.now (c.loop-i.i - 1) 64 c.last_one-r.result (omega arith) c.last_one-r.ensures

-- no bit is set past it
past : (c : After-last_one-r) → Without c.args.words.now 1 ((c.loop-i.i - 1) * 64 + c.last_one-r.result) (c.args.end * 64)
past c =
    let b = (c.loop-i.i - 1) * 64 in
    let e : b + 64 ≡ c.loop-i.i * 64 = omega arith in
    without-join c.args.words.now 1 (b + c.last_one-r.result) (b + 64) (c.args.end * 64)
    (last-without c.args.words.now b 64 c.last_one-r.result (part c)) (rw e c.loop-i.invariant.1)

pub overflow_add-result : goal.overflow_add-result
overflow_add-result c = omega (arith, (part (goal.at.overflow_add-result c).After-last_one-r).high)

pub returns-then-r-gt0 : goal.returns-then-r-gt0
returns-then-r-gt0 c =
    let a = c.args in
    let b = (c.loop-i.i - 1) * 64 + c.last_one-r.result in
    let s = (goal.at.returns-then-r-gt0 c).After-last_one-r in
    let t = part s in
    let e : a.first * 64 + (a.end - a.first) * 64 ≡ a.end * 64 = omega arith in
    omega (
      arith,
      last-reached a.words.now (a.first * 64) ((a.end - a.first) * 64) b (omega (arith, t.high)) (rw e (past s)) (λ _. t.found c.if-r-gt0.true),
    )

pub loop-i-preserved : goal.loop-i-preserved
loop-i-preserved c =
    let b = (c.loop-i.i - 1) * 64 in
    let e : b + c.last_one-r.result ≡ b = omega arith in
    (omega arith, rw e at (past (goal.at.loop-i-preserved c).After-last_one-r))

pub returns : goal.returns
returns c =
    let a = c.args in
    let b : ℕ = a.first * 64 in
    let n : ℕ = (a.end - a.first) * 64 in
    let e : b + n ≡ a.end * 64 = omega arith in
    let f : c.loop-i.i ≡ a.first = omega arith in
    omega (arith, last-reached a.words.now b n b (omega arith) (rw (e, ← f) c.loop-i.invariant.1) (λ h. absurd (omega arith)))
