-- The third statement: of all schedules that serve the reads laid down, the run's fetches least. Assumes nothing.
use mathlib.Core.Path.{◌≡◌, refl, sym, ap, ap₂, ◌∙◌, subst}
use mathlib.Core.Bool.{Bool, true, false, not, cond}
use mathlib.Core.List.{List, [], ◌∷◌, ◌++◌}
use Rattle.std.specs.declared.option.Option.TheVariants.{Some, None}
use Prim.Native.Nat.{ℕ, zero, suc, ◌+◌, ◌%◌, ◌≤◌}
use native.Mathlib.Omega.{arith}
use lib.ListN.{length, length-append}
use lib.Dec.{T, ltb, eqb}
use Rattle.rules.specs.Pages.{cached}
use Rattle.rules.specs.Valid.{Valid}
use Rattle.rules.specs.Run.{Turn, fetch_open, turn_of, turns_of, run_of}
use Rattle.rules.specs.Schedules.{Set, count, added, Serves, fetches_in}
use Rattle.rules.specs.Third.{Premises, laid_down, laid, hit_pages, on_hit, hit_sets, Best, ThirdStatement}
use Rattle.rules.proofs.laws.Tests.{less, is_true, is_false, and_second}
use Rattle.rules.proofs.laws.Counting.{empty, plus, swap, count-empty, num-out, in-self, same_count, old, added-one, has_key, but-key}
use Rattle.rules.proofs.calls.Changes.{counted}
use Rattle.rules.proofs.calls.Kept.{turn-kept}
use Rattle.rules.proofs.third.Belady.{Requests, next_use, reads_in, Furthest, over, idle, hit, fill, evict, optimal}
use Rattle.rules.proofs.third.Scan.{page_at, after, requests}
use Rattle.rules.proofs.third.Bridge.{slots, victim-last}
use Rattle.rules.proofs.third.Moves.{now_at, goes_now, key_now, left, page-now, position_in, slots-left, premises-left}
use Rattle.rules.proofs.third.Turns.{Step, passes, finds, fills, evicts, TurnCase, turn-case, none-in-fetch, turn_is}
use Rattle.rules.specs.declared.State.{State}
use Rattle.rules.specs.declared.Reply.{Reply}
use Rattle.rules.specs.declared.Answer.TheVariants.{Ran}

-- what n turns from s come to, where these are the pages of their H turns, the pages cached after those, and the fetches
record Whole (n : ℕ) (s : State) (hits : List ℕ) (sets : List Set) (fetches : ℕ) : Type 0 where
  reads_laid : hits ≡ laid n s
  serves : Serves 8192 s.frames hits sets
  cost : fetches_in 8192 (cached s) sets ≡ fetches
  requested : laid n s ≡ reads_in (requests n (slots s) s.turn)
  furthest : Furthest 8192 s.frames (requests n (slots s) s.turn) (cached s) fetches

-- ---- one turn more

module _ (s : State) {A : Set} where
  -- the page of its H is the one laid down
  hit-laid : {c : ℕ} {h : List ℕ} → Step s A c h → h ≡ cond (goes_now s) (key_now s ∷ []) []
  hit-laid (passes g e) = rw (is_false (goes_now s) g)
  hit-laid (finds g a e) = rw (is_true (goes_now s) g)
  hit-laid (fills g l a f e) = rw (is_true (goes_now s) g)
  hit-laid (evicts g l a f v o lv av e) = rw (is_true (goes_now s) g)

  -- the set after it has the page
  serves_on : {c : ℕ} {h : List ℕ} (R : List ℕ) (Bs : List Set) → Step s A c h → count 8192 A ≤ s.frames
      → Serves 8192 s.frames R Bs → Serves 8192 s.frames (h ++ R) (on_hit h A Bs)
  unfolding Serves
  serves_on R Bs (passes g e) l r = r
  serves_on R Bs (finds g a e) l r = (subst (λ S. T (S (key_now s))) (sym e) a, l, r)
  serves_on R Bs (fills g low a f e) l r = (subst (λ S. T (S (key_now s))) (sym e) (has_key (key_now s) _), l, r)
  serves_on R Bs (evicts g low a f v o lv av e) l r = (subst (λ S. T (S (key_now s))) (sym e) (has_key (key_now s) _), l, r)

  -- and adds a page where it met F
  cost-on : {c : ℕ} {h : List ℕ} (Bs : List Set) (d : ℕ) → Step s A c h → fetches_in 8192 A Bs ≡ d → fetches_in 8192 (cached s) (on_hit h A Bs) ≡ c + d
  unfolding fetches_in
  cost-on Bs d (passes g e) r = ap (λ S. fetches_in 8192 S Bs) (sym e) ∙ omega arith
  cost-on Bs d (finds g a e) r =
      omega (
        arith,
        ap (λ S. count 8192 (added (cached s) S)) e,
        same_count 8192 (added (cached s) (cached s)) empty (λ j. old (cached s j) (cached s j) (λ i. i)),
        count-empty 8192,
      )
  cost-on Bs d (fills g low a f e) r =
      let k : ℕ = key_now s in
      omega (
        arith,
        ap (λ S. count 8192 (added (cached s) S)) e,
        added-one 8192 k (cached s) (plus (cached s) k) low (num-out (cached s k) a) (in-self k (cached s k))
            (λ j ne i. but-key k j (cached s j) ne i),
      )
  cost-on Bs d (evicts g low a f v o lv av e) r =
      let k : ℕ = key_now s in
      omega (
        arith,
        ap (λ S. count 8192 (added (cached s) S)) e,
        added-one 8192 k (cached s) (swap (cached s) v k) low (num-out (cached s k) a) (in-self k _)
            (λ j ne i. and_second (not (eqb v j)) (cached s j) (but-key k j _ ne i)),
      )

-- an equal cost, and an equal set
cost-as : {rs : Requests} {F : ℕ} {A : Set} (c d : ℕ) → c ≡ d → Furthest 8192 F rs A c → Furthest 8192 F rs A d
cost-as {rs} {F} {A} c d e = subst (Furthest 8192 F rs A) e

set-as : {rs : Requests} {F d : ℕ} {A B : Set} → A ≡ B → Furthest 8192 F rs A d → Furthest 8192 F rs B d
set-as {rs} {F} {d} e = subst (λ S. Furthest 8192 F rs S d) e

-- a turn's request
asked : (s : State) → Valid s → page_at (slots s s.turn) 0 ≡ cond (goes_now s) (Some (key_now s)) None
unfolding slots
asked s v = page-now (now_at s) (position_in s v s.turn)

reads-one : (t : Bool) (k : ℕ) (rs : Requests) → cond t (k ∷ []) [] ++ reads_in rs ≡ reads_in (cond t (Some k) None ∷ rs)
unfolding reads_in
reads-one true k rs = refl
reads-one false k rs = refl

module _ (n : ℕ) (s : State) (v : Valid s) (w : ℕ) (p : Premises s w) where
  -- the requests that are left after the turn
  abbrev more : Requests
  more = requests n (after (slots s) s.turn) ((s.turn + 1) % 16)

  asks : T (goes_now s) → requests (suc n) (slots s) s.turn ≡ Some (key_now s) ∷ more
  unfolding requests
  asks g = ap (λ o. o ∷ more) (asked s v ∙ ap (λ b. cond b (Some (key_now s)) None) (is_true (goes_now s) g))

  asks-not : T (not (goes_now s)) → requests (suc n) (slots s) s.turn ≡ None ∷ more
  unfolding requests
  asks-not g = ap (λ o. o ∷ more) (asked s v ∙ ap (λ b. cond b (Some (key_now s)) None) (is_false (goes_now s) g))

  -- a turn of the policy
  furthest-on : {A : Set} {c : ℕ} {h : List ℕ} {d : ℕ} → Step s A c h → Furthest 8192 s.frames more A d
      → Furthest 8192 s.frames (requests (suc n) (slots s) s.turn) (cached s) (c + d)
  furthest-on {d = d} (passes g e) r = rw (asks-not g) (cost-as d (0 + d) (omega arith) (idle (set-as e r)))
  furthest-on {d = d} (finds g a e) r = rw (asks g) (cost-as d (0 + d) (omega arith) (hit a (set-as e r)))
  furthest-on {d = d} (fills g low a f e) r = rw (asks g) (cost-as (suc d) (1 + d) (omega arith) (fill low a f (set-as e r)))
  furthest-on {d = d} (evicts g low a f i o li ai e) r =
      let last = subst (λ rs. (k : ℕ) → T (cached s k) → next_use rs k ≤ next_use rs i) (asks g) (victim-last s v w p (suc n) i o) in
      rw (asks g) (cost-as (suc d) (1 + d) (omega arith) (evict low a f i li ai last (set-as e r)))

  -- the whole from the turn and what follows it
  step : (t : Turn) → TurnCase s t → Valid t.after → (hits : List ℕ) (sets : List Set) (fetches : ℕ) → Whole n t.after hits sets fetches
      → Whole (suc n) s (t.hit ++ hits) (on_hit t.hit (cached t.after) sets) (t.fetched + fetches)
  unfolding laid_down requests
  step t (turn-case {held} {fetching} same d) after-valid hits sets fetches r =
      let e : slots (left s held fetching) ≡ after (slots s) s.turn = slots-left s v held fetching in
      let next : Furthest 8192 s.frames more (cached (left s held fetching)) fetches =
      subst (λ σ. Furthest 8192 s.frames (requests n σ ((s.turn + 1) % 16)) (cached (left s held fetching)) fetches) e r.furthest in
      record {
        reads_laid = ap₂ ◌++◌ (hit-laid s d) r.reads_laid;
        serves = serves_on s hits sets d (counted (left s held fetching) after-valid) r.serves;
        cost = cost-on s sets fetches d r.cost;
        requested = ap (λ l. cond (goes_now s) (key_now s ∷ []) [] ++ l) (r.requested ∙ ap (λ σ. reads_in (requests n σ ((s.turn + 1) % 16))) e)
            ∙ reads-one (goes_now s) (key_now s) more ∙ ap (λ o. reads_in (o ∷ more)) (sym (asked s v));
        furthest = furthest-on d next;
      }

-- the premises after a turn
premises-kept : (s : State) → Valid s → (w : ℕ) → Premises s w → (t : Turn) → TurnCase s t → Premises t.after w
premises-kept s v w p t (turn-case {held} {fetching} same d) = premises-left s v w p held fetching same

whole : (n : ℕ) (s : State) → Valid s → (w : ℕ) → Premises s w → Whole n s (hit_pages n s) (hit_sets n s) (turns_of n s).fetches
unfolding hit_pages hit_sets turns_of laid_down requests reads_in Serves fetches_in
whole zero s v w p = record { reads_laid = refl; serves = tt; cost = refl; requested = refl; furthest = over }
whole (suc n) s v w p =
    let d : TurnCase s (turn_of s) = turn_is s v (none-in-fetch s v p.none_open) p.no_time in
    let v' : Valid (turn_of s).after = turn-kept s v in
    step n s v w p (turn_of s) d v' _ _ _ (whole n (turn_of s).after v' w (premises-kept s v w p (turn_of s) d))

-- the reads counted are the pages of the H turns
reads_told : (n : ℕ) (s : State) → (turns_of n s).reads ≡ length (hit_pages n s)
unfolding turns_of hit_pages
reads_told zero s = refl
reads_told (suc n) s = omega (arith, reads_told n (turn_of s).after, length-append (turn_of s).hit (hit_pages n (turn_of s).after))

-- of all schedules of the same reads the run's fetches least
pub run-best : (n : ℕ) (s : State) → Valid s → (w : ℕ) → Premises s w → Best n s (turns_of n s).fetches (turns_of n s).reads
run-best n s v w p =
    let h : Whole n s (hit_pages n s) (hit_sets n s) (turns_of n s).fetches = whole n s v w p in
    record {
      reads_laid = h.reads_laid;
      reads_told = reads_told n s ∙ ap length h.reads_laid;
      own_serves = subst (λ l. Serves 8192 s.frames l (hit_sets n s)) h.reads_laid h.serves;
      own_fetches = h.cost;
      least = λ Bs b. optimal h.furthest Bs (subst (λ l. Serves 8192 s.frames l Bs) h.requested b);
    }

-- with no open fetch and at most 16,384 turns Run is not refused
run-answer : (n : ℕ) (s : State) → fetch_open s ≡ false → n ≤ 16384 → (run_of s n).answer ≡ Ran (turns_of n s).fetches (turns_of n s).reads
unfolding run_of
run-answer n s closed l = rw (few, closed)
  where
    few : ltb 16384 n ≡ false
    few = less 16384 n (λ b. b ≡ false) (λ h. absurd (omega arith)) (λ _. refl)

-- the third statement
pub third : (s : State) (n : ℕ) → ThirdStatement n s (run_of s n).answer
third s n = record { best = λ v w p l. ((turns_of n s).fetches, (turns_of n s).reads, run-answer n s p.none_open (omega arith), run-best n s v w p) }

-- for a reply that is the rule's
pub third_of : (s : State) (n : ℕ) (r : Reply) → r ≡ run_of s n → ThirdStatement n s r.answer
third_of s n r e = rw e (third s n)
