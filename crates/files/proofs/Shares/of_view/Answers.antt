-- The numbers of a view in range are in range.
use Rattle.std.proofs.Common.{ℕ, ◌≤◌, ◌<◌, arith, get_or}
use Rattle.parts.proofs.Weights.{weighed-in}
use Rattle.files.proofs.Shares.of_view.Goals as goal

pub invariant_of-result : goal.invariant_of-result
invariant_of-result c =
    let v = c.args.v in
    let sum = c.weight_sum.result in
    let weights = c.weights_of.result in
    let range : (f : ℕ) → f < 8 → (v.frames ≤ 1024) × (get_or weights f 0 ≤ sum) × (sum ≤ 8192000) =
    λ f l. weighed-in v.frames sum (get_or weights f 0) f v.expected v.attaches v.sizes c.requires l c.weight_sum.ensures
    (c.weights_of.ensures f l) in
    record {
      frames_bound = c.requires.frames_high;
      sum_bound = (range 0 (omega arith)).2;
      each = λ f l. (range f l).1;
    }
