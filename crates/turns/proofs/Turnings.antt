-- A turn as its code reads it: the record, the Read of it, and the view while its page is in fetch. Assumes nothing.
use Rattle.std.proofs.Common.{ℕ, ◌+◌, ◌<◌, ◌≡◌, ◌∙◌, not, List, Option, None, Some, map, T, eqb, refl, sym, ap, subst, arith}
use Rattle.std.proofs.Common.{get_or, set, length-set, get_or-set_same, get_or-set_other}
use mathlib.Core.Bool.{cond}
use lib.ListN.{length-map, get_or-map}
use lib.Seq.{set-get_or, ext_get_or}
use native.Mathlib.Decide.{ℕ_discrete}
use borrow.Author.Tests.{eq-eqb}
use Rattle.bits.specs.Map.{put_bit}
use Rattle.rules.specs.Pages.{cached, key_of}
use Rattle.rules.specs.Readers.{no_reader, reader_in, reader_at, attached, next_key, in_condition}
use Rattle.rules.specs.Valid.{Valid}
use Rattle.rules.specs.Calls.{woken, dropped}
use Rattle.rules.specs.declared.State.{State}
use Rattle.rules.specs.declared.Reader.{Reader}
use Rattle.rules.specs.declared.View.{View}
use Rattle.rules.specs.declared.Answer.{Answer}
use Rattle.rules.specs.declared.Condition.TheVariants.{Running, Waiting}
use Rattle.rules.proofs.laws.Tests.{is_true}
use Rattle.rules.proofs.laws.Cases.{condition-all}
use Rattle.rules.proofs.calls.PageMaps.{put_on}
use Rattle.rules.proofs.calls.Valids.{placed_at}
use Rattle.rules.proofs.calls.Kept.{read_kept, arrive-kept}
use Rattle.rules.proofs.third.Moves.{now_at, goes_now, key_now}
use Rattle.rules.proofs.third.Turns.{awaiting, awake, goes-here, inside, low, asked, stored, emptied}
use Rattle.files.specs.Leads.{SharesOf}
use Rattle.files.specs.declared.Shares.{Shares}
use Rattle.uses.specs.declared.Terms.{Terms}
use Rattle.uses.specs.declared.Seats.{Seats}
use Rattle.uses.specs.Seats.{Seated}
use Rattle.uses.specs.Sights.{under, state_under}
use Rattle.uses.proofs.Seating.{seated-moved}
use Rattle.heads.specs.Heads.{Kept}
use Rattle.heads.specs.declared.Heads.{Heads}
use Rattle.calls.specs.Inner.{Readable}
use Rattle.calls.proofs.Slots.{readable}
use Rattle.turns.specs.Places.{reseated, Turning, Coming, Landed, after_arrival}
use Rattle.turns.proofs.Arrivals.{arrived-maps}
use Rattle.turns.proofs.Rounds.{arrived-quiet}

-- the shares are those of any view with the same numbers
pub shares-again : (v : View) (turn : ℕ) (readers : List Reader) (shares : Option Shares) → SharesOf v shares → SharesOf (reseated v turn readers) shares
shares-again v turn readers None a = a
shares-again v turn readers (Some x) a =
    record { by_1993 = a.by_1993; frames_are = a.frames_are; weights_are = a.weights_are; sum_is = a.sum_is }

-- a slot's record once those that wait for the page are woken
woken-at : (k : ℕ) (readers : List Reader) (j : ℕ) → get_or (map (woken k) readers) j no_reader ≡ woken k (get_or readers j no_reader)
unfolding woken
woken-at k readers j = get_or-map (woken k) readers j no_reader

-- a reader that runs is not woken
woken-runs : (k : ℕ) (r : Reader) → (T (attached r) → r.condition ≡ Running) → woken k r ≡ r
unfolding woken
woken-runs k r h =
    condition-all (λ q. q ≡ r) r.condition r r (cond (eqb (next_key r) k) (in_condition Running r) r) (λ _. refl) (λ _. refl)
    (λ e. let q : r.condition ≡ Running = h (rw e tt) in let z : Running ≡ Waiting = sym q ∙ e in cc)

-- one that waits for the page is
woken-waits : (k : ℕ) (r : Reader) → r.condition ≡ Running → next_key r ≡ k → woken k (in_condition Waiting r) ≡ r
unfolding woken
woken-waits k r e q = rw (eq-eqb (next_key r) k q) (ap (λ c. in_condition c r) (sym e))

module _ (v : View) (t : Terms) (shares : Option Shares) (seats : Seats) (heads : Heads) (map' fetching : List ℕ) (w : View)
    (g : Turning v t shares seats heads map' fetching w) where
  abbrev s : State
  s = state_under t w map' fetching

  pub valid : Valid s
  valid = g.sighted.valid

  -- the record can be looked at
  pub turn-readable : Readable (now_at s)
  turn-readable = readable s valid t.turn

  -- its file is one
  pub turn-file : T (attached (now_at s)) → (now_at s).file < 8
  turn-file h = (placed_at s valid t.turn h).file_high

  -- ---- the page is in fetch

  -- the view with the turn's reader waiting
  abbrev pub waits : View
  waits = reseated w w.turn (set w.readers t.turn (in_condition Waiting (reader_in w.readers t.turn)))

  module _ (on-goes : T (goes_now s)) (out : T (not (cached s (key_now s)))) (opened : List ℕ) (eo : opened ≡ put_bit fetching (key_now s) 1) where
    here : T (attached (now_at s))
    here = goes-here (now_at s) on-goes

    waits-valid : Valid (state_under t waits map' opened)
    waits-valid = rw eo (rw (asked s valid g.quiet on-goes out) at (read_kept s s.turn valid))

    waits-seated : Seated waits.readers 16 seats
    waits-seated =
        let a = g.sighted.seated in
        let q : Reader = in_condition Waiting (reader_in w.readers t.turn) in
        let same : set seats.positions t.turn q.position ≡ seats.positions =
        ap (set seats.positions t.turn) (sym (a.position t.turn valid.turn_high)) ∙ set-get_or seats.positions t.turn 0 in
        subst (λ ps. Seated waits.readers 16 (record seats { positions = ps })) same (seated-moved w.readers seats a valid.sixteen t.turn valid.turn_high q
        (record { here = sym (is_true _ here); file-same = refl; pace-same = refl; last-same = refl }))

    -- so it is before the arrival
    module _ (known : Heads) (file page : ℕ) (ef : file ≡ (now_at s).file) (ep : page ≡ (now_at s).position + 1)
        (kept : Kept (state_under t waits map' opened) t.done known) where
      its-key : key_of file page ≡ key_now s
      its-key = rw (ef, ep) refl

      pub turn-coming : Coming v t shares seats known map' opened file page waits
      turn-coming = record {
        sighted = record { valid = waits-valid; seated = waits-seated; sizes_are = g.sighted.sizes_are };
        shares_are = shares-again (under t w) t.turn waits.readers shares g.shares_are;
        file_high = omega (arith, ef, turn-readable);
        page_low = omega (arith, ep);
        page_high = omega (arith, ep, inside s valid g.quiet on-goes, turn-readable);
        opened = rw (eo, its-key) (put_on fetching valid.fetching_map (key_now s) (low s valid g.quiet on-goes));
        kept = kept;
      }

      -- ---- the page has arrived

      -- the readers are as before the turn
      readers-again : map (woken (key_of file page)) waits.readers ≡ w.readers
      readers-again = ext_get_or no_reader (map (woken (key_of file page)) waits.readers) w.readers
          (length-map waits.readers (woken (key_of file page)) ∙ length-set w.readers t.turn _)
          (λ j _. woken-at (key_of file page) waits.readers j ∙ by j (ℕ_discrete j t.turn))
        where
          by : (j : ℕ) → Dec (j ≡ t.turn) → woken (key_of file page) (get_or waits.readers j no_reader) ≡ get_or w.readers j no_reader
          by j (yes e) =
              rw (e, get_or-set_same w.readers t.turn (in_condition Waiting (now_at s)) no_reader (omega (arith, valid.sixteen, valid.turn_high)))
              (woken-waits (key_of file page) (now_at s) (awake s valid g.quiet t.turn here) (sym its-key))
          by j (no e) =
              rw (get_or-set_other w.readers t.turn j (in_condition Waiting (now_at s)) no_reader e)
              (woken-runs (key_of file page) (reader_at s j) (awake s valid g.quiet j))

      module _ (a : Answer) (after : Heads) (map'' still : List ℕ)
          (landed : Landed (state_under t waits map' opened) t.done file page a after map'' still) where
        state-again : after_arrival (state_under t waits map' opened) (key_of file page) map'' still ≡ state_under t w map'' still
        state-again = ap (λ rs. state_under t (reseated w w.turn rs) map'' still) readers-again

        pub maps-again : (map'' ≡ stored s valid g.quiet on-goes (dropped (awaiting s s.turn))) × (still ≡ emptied s valid g.quiet on-goes)
        maps-again =
            let e = arrived-maps v t shares seats known map' opened file page waits turn-coming a map'' still landed.told in
            (rw (eo, its-key) at e.0, rw (eo, its-key) at e.1)

        -- and it is again so as before a turn
        pub turn-again : Turning v t shares seats after map'' still w
        turn-again = record {
          sighted = record {
            valid = subst Valid state-again
                (subst Valid (sym (ap (λ r. r.state) landed.told)) (arrive-kept (state_under t waits map' opened) file page waits-valid));
            seated = g.sighted.seated;
            sizes_are = g.sighted.sizes_are;
          };
          shares_are = g.shares_are;
          quiet = arrived-quiet s valid g.quiet on-goes out map'' still maps-again.0 maps-again.1;
          reader_is = g.reader_is;
          kept = subst (λ x. Kept x t.done after) state-again landed.kept;
        }
