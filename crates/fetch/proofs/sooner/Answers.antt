-- By cases: the slot has no reader; the reader lacks no page; its first absent page is used sooner than the best, or is not.
use Rattle.std.proofs.Common.{◌≡◌, ◌<◌, refl, sym, ap, ◌∙◌, T, arith}
use Rattle.rules.specs.Readers.{attached, reader_in}
use Rattle.rules.specs.Valid.{Placed}
use Rattle.rules.specs.Ranks.{FirstAbsent, Before}
use Rattle.rules.specs.Views.{state_of}
use Rattle.rules.specs.declared.Reader.{Reader}
use Rattle.rules.specs.declared.State.{State}
use Rattle.rules.proofs.laws.Cases.{passed, failed}
use Rattle.rules.proofs.calls.Valids.{placed_at}
use Rattle.rules.proofs.orders.LookAheads.{before-is}
use Rattle.rules.proofs.orders.Candidates.{absent-least}
use Rattle.uses.specs.Sights.{lower}
use Rattle.uses.proofs.Between.{first-between}
use Rattle.uses.proofs.Slots.{lower-least}
use Rattle.fetch.proofs.Searching.{none-absent, first_absent, soonest-keep, soonest-take}
use Rattle.fetch.proofs.sooner.Goals.{After-lowered_past_present-value, Else-key-file, Else-not-is_attached, Start}
use Rattle.fetch.proofs.sooner.Goals as goal

abbrev at : Start → State
at c = state_of c.args.v c.args.cached.now c.args.fetching.now

abbrev reader : Start → Reader
reader c = reader_in c.args.v.readers c.args.slot

-- the slot has a reader
here : (c : Else-not-is_attached) → T (attached (reader (goal.at.Else-not-is_attached c).Start))
here c = passed _ (sym c.is_attached.ensures ∙ c.if-not-is_attached.false)

placed : (c : Else-not-is_attached) → let s = (goal.at.Else-not-is_attached c).Start in Placed (at s) (reader s)
placed c = placed_at (at (goal.at.Else-not-is_attached c).Start) c.requires.valid c.args.slot (here c)

-- the page found
lacks : (c : Else-key-file) → let s = (goal.at.Else-key-file c).Start in FirstAbsent (at s) (reader s) c.next_bit-key.result
lacks c =
    let s = (goal.at.Else-key-file c).Start in
    let e = (goal.at.Else-key-file c).Else-not-is_attached in
    first_absent (at s) (reader s) (here e) c.next_bit-key.result c.next_bit-key.ensures
    c.if-key-file.false (placed e).position_in (omega (arith, placed e, c.requires.valid.sizes_high (reader s).file))

ahead : (c : Else-key-file) → Before (reader (goal.at.Else-key-file c).Start) c.next_bit-key.result
ahead c = before-is (reader (goal.at.Else-key-file c).Start) c.next_bit-key.result (lacks c).ahead_of

small : (c : Else-key-file) → c.next_bit-key.result < 8192
small c =
    let e = (goal.at.Else-key-file c).Else-not-is_attached in
    omega (arith, ahead c, placed e)

pub returns-then-not-is_attached : goal.returns-then-not-is_attached
returns-then-not-is_attached c =
    soonest-keep (at (goal.at.returns-then-not-is_attached c).Start) c.args.slot c.args.best c.requires.soonest
    (λ h. absurd (failed _ (sym c.is_attached.ensures ∙ c.if-not-is_attached.true) h))

pub returns-then-key-file : goal.returns-then-key-file
returns-then-key-file c =
    let s = (goal.at.returns-then-key-file c).Start in
    soonest-keep (at s) c.args.slot c.args.best c.requires.soonest
    (λ h k _ a. absurd (none-absent (at s) (reader s) h c.next_bit-key.result c.next_bit-key.ensures c.if-key-file.true k a))

pub lowered_past_present-value-requires : goal.lowered_past_present-value-requires
lowered_past_present-value-requires c =
    let e = (goal.at.lowered_past_present-value-requires c).Else-key-file in (
      rw (ap (λ t. t.turn) c.of.ensures) c.requires.valid.turn_high,
      c.requires.slot_bound,
      small e,
      omega (arith, ahead e),
    )

-- the slot's use key is weighed against the least so far
told : (c : After-lowered_past_present-value) →
    c.lowered_past_present-value.result ≡
    lower (at (goal.at.After-lowered_past_present-value c).Start) c.next_bit-key.result c.args.slot c.args.best.value
told c =
    let s = (goal.at.After-lowered_past_present-value c).Start in
    let e = (goal.at.After-lowered_past_present-value c).Else-key-file in
    (rw c.of.ensures at c.lowered_past_present-value.ensures) c.args.v c.args.cached.now c.args.fetching.now c.requires.valid
    (record { ahead = ahead e; position_is = refl; pace_is = refl })
    (first-between (at s) (reader s) c.next_bit-key.result (lacks e))

pub overflow_cast-key : goal.overflow_cast-key
overflow_cast-key c = omega (arith, small (goal.at.overflow_cast-key c).Else-key-file)

pub returns-then-value-low : goal.returns-then-value-low
returns-then-value-low c =
    let s = (goal.at.returns-then-value-low c).Start in
    soonest-take (at s) c.args.slot c.args.best c.requires.soonest c.next_bit-key.result c.lowered_past_present-value.result
    c.requires.slot_bound (lacks (goal.at.returns-then-value-low c).Else-key-file)
    (told (goal.at.returns-then-value-low c).After-lowered_past_present-value) c.if-value-low.true

pub returns : goal.returns
returns c =
    let s = (goal.at.returns c).Start in
    let k = c.next_bit-key.result in
    soonest-keep (at s) c.args.slot c.args.best c.requires.soonest
    (λ _.
    absent-least (at s) c.args.best.value c.args.slot k (lacks (goal.at.returns c).Else-key-file)
    (omega (
      arith,
      told (goal.at.returns c).After-lowered_past_present-value,
      lower-least (at s) k c.args.slot c.args.best.value c.requires.soonest.low,
    )))
