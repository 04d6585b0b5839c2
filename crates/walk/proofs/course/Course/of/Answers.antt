-- A valid state's reader is in a file and has a pace of 1,000 at most: so its course is in the table, and its numbers are below that of no look-ahead.
use Rattle.std.proofs.Common.{◌≤◌, ◌+◌, ◌*◌, ◌/◌, ◌<◌, ℕ, T, refl, arith}
use Rattle.std.proofs.Math.Nat.{div-mul-le_self, mul-le-mul_right}
use Rattle.rules.specs.Readers.{reader_at, reader_in, attached}
use Rattle.rules.specs.Valid.{Valid, Placed}
use Rattle.rules.specs.Views.{state_of}
use Rattle.rules.specs.declared.State.{State}
use Rattle.rules.proofs.calls.Valids.{placed_at}
use Rattle.walk.proofs.course.Course.of.Goals as goal

-- the numbers of a course
numbers-high : (reach look pace most time seat : ℕ) → reach ≤ look / pace → pace ≤ 1000 → look ≤ 2000000 → most * time ≤ look → seat < 16
    → (reach + 1) * (pace * 16) + most * (time * 16) + seat < 67108864
numbers-high reach look pace most time seat k p l m d =
    let a = mul-le-mul_right pace k in
    let b = div-mul-le_self look pace in
    omega arith

-- a reader of a valid state, and its last page
in_file : (s : State) → Valid s → (j : ℕ) → T (attached (reader_at s j)) → Placed s (reader_at s j) × ((reader_at s j).last ≤ 1024)
in_file s w j a =
    let p = placed_at s w j a in
    (p, omega (arith, p.last_high, w.sizes_high (reader_at s j).file))

pub invariant_of-result : goal.invariant_of-result
invariant_of-result c =
    let v = c.args.v.now in
    let w = c.requires.valid.1.1 in
    let r = reader_in v.readers c.args.slot in
    let f = in_file (state_of v c.requires.valid.0 c.requires.valid.1.0) w c.args.slot c.requires.here in record {
      one_file = omega (arith, f.1);
      in_table = omega (arith, f.0.file_high, f.0.position_in, f.1);
      number_high =
          numbers-high c.min.result v.look_ahead r.pace c.most_missing.result v.fetch_time c.seat.result
          (omega arith) f.0.pace_high w.look_high c.most_missing.ensures.short (omega arith);
    }

pub returns : goal.returns
returns c = λ cached fetching.
    let f = in_file (state_of c.args.v.now c.requires.valid.0 c.requires.valid.1.0) c.requires.valid.1.1 c.args.slot c.requires.here in record {
      here = c.requires.here;
      file_high = f.0.file_high;
      position_in = f.0.position_in;
      last_high = f.1;
      from_is = c.next_key.ensures;
      reach_is = c.min.ensures;
      most_is = λ q. c.most_missing.ensures.most (state_of c.args.v.now cached fetching) q refl refl;
      page_is = refl;
      gap_is = refl;
      seat_is = c.seat.ensures;
    }
