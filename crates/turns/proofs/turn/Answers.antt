-- Read's answer is F, and the page arrives and is read again; or it ends the turn. The heads kept go along.
use Rattle.std.proofs.Common.{◌+◌, ◌≡◌, ◌∙◌, not, T, arith}
use Rattle.bits.specs.Map.{put_bit}
use Rattle.rules.specs.Pages.{cached}
use Rattle.rules.specs.Readers.{reader_in}
use Rattle.rules.specs.declared.State.{State}
use Rattle.rules.specs.declared.View.{View}
use Rattle.rules.proofs.third.Moves.{now_at, goes_now, key_now}
use Rattle.uses.specs.Sights.{under, state_under}
use Rattle.turns.specs.Places.{Turning}
use Rattle.turns.proofs.Answers.{one_hit}
use Rattle.turns.proofs.Rounds.{read-begins}
use Rattle.turns.proofs.Turnings.{valid, waits, turn-coming}
use Rattle.turns.proofs.Keepings.{kept-fetched}
use Rattle.turns.proofs.Endings.{ends, ends-again}
use Rattle.turns.proofs.turn.Goals.{In-Fetch}
use Rattle.turns.proofs.turn.Goals as goal

pub returns-in_default : goal.returns-in_default
returns-in_default c =
    let a = c.args in
    let q = c.read_slot-first.result in
    record {
      by_rule = λ w g.
          let r : c.at_position-r.result ≡ reader_in w.readers a.terms.turn = c.at_position-r.ensures ∙ g.reader_is in
          let e = c.read_slot-first.ensures (under a.terms w) a.terms.turn (valid _ _ _ _ _ _ _ w g).turn_high r in (
            q.reader.position,
            rw (c.end_turn.ensures.value, c.end_turn.ensures.placed)
                (ends _ _ _ _ _ _ _ w g q _ _ e c.in_default.not-Fetch (rw r at c.end_turn.ensures.forgot)),
          );
      single = rw c.end_turn.ensures.value (omega arith, one_hit q.answer);
      counted = c.requires.done_bound.1;
    }

-- a view as the turn reads it
abbrev Read : In-Fetch → View → Type 0
Read c w = Turning c.args.v.now c.args.terms c.args.shares.now c.args.seats.now c.args.heads.now c.args.cached.now c.args.fetching.now w

-- the state that it shows
abbrev s : In-Fetch → View → State
s c w = state_under c.args.terms w c.args.cached.now c.args.fetching.now

-- the page is in fetch
begins : (c : In-Fetch) (w : View) (g : Read c w) → T (goes_now (s c w)) × T (not (cached (s c w) (key_now (s c w))))
    × (c.read_slot-first.new.fetching ≡ put_bit c.args.fetching.now (key_now (s c w)) 1) × (c.in-Fetch.file ≡ (now_at (s c w)).file)
    × (c.in-Fetch.page ≡ (now_at (s c w)).position + 1)
begins c w g =
    let a = c.args in
    let v = valid _ _ _ _ _ _ _ w g in
    read-begins _ v g.quiet c.read_slot-first.result _
    (c.read_slot-first.ensures (under a.terms w) a.terms.turn v.turn_high (c.at_position-r.ensures ∙ g.reader_is)) c.in-Fetch.file c.in-Fetch.page c.in-Fetch.is

pub arrive-requires-clause-coming : goal.arrive-requires-clause-coming
arrive-requires-clause-coming c =
    let w = c.requires.turning.0 in
    let g = c.requires.turning.1 in
    let b = begins (goal.at.arrive-requires-clause-coming c).In-Fetch w g in
    let r : c.at_position-r.result ≡ reader_in w.readers c.args.terms.turn = c.at_position-r.ensures ∙ g.reader_is in
    let kept = kept-fetched _ _ _ _ _ _ _ w g b.0 _ b.2 _ (rw r at c.forget_fetched.ensures) in
    (waits _ _ _ _ _ _ _ w g, turn-coming _ _ _ _ _ _ _ w g b.0 b.1 _ b.2 _ _ _ b.3 b.4 kept)

pub returns-clause-by_rule : goal.returns-clause-by_rule
returns-clause-by_rule c = λ w g.
    let a = c.args in
    let q = c.read_slot-second.result in
    let b = begins (goal.at.returns-clause-by_rule c).In-Fetch w g in
    let r : c.at_position-r.result ≡ reader_in w.readers a.terms.turn = c.at_position-r.ensures ∙ g.reader_is in
    let kept = kept-fetched _ _ _ _ _ _ _ w g b.0 _ b.2 _ (rw r at c.forget_fetched.ensures) in
    let coming = turn-coming _ _ _ _ _ _ _ w g b.0 b.1 _ b.2 _ _ _ b.3 b.4 kept in
    let landed = c.arrive.ensures.by_rule _ coming in
    let e = c.read_slot-second.ensures (under a.terms w) a.terms.turn (valid _ _ _ _ _ _ _ w g).turn_high r in (
      q.reader.position,
      rw (c.end_turn-2.ensures.value, c.end_turn-2.ensures.placed)
          (ends-again _ _ _ _ _ _ _ w g b.0 b.1 _ b.2 _ _ _ b.3 b.4 kept _ _ _ _ landed q _ _ e (rw r at c.end_turn-2.ensures.forgot)),
    )
