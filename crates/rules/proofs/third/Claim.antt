-- The third statement in 01's sentences and numbers, with the records of specs/Third.antt taken apart: a weaker one does not give this. Assumes nothing.
use Prim.Native.Nat.{ℕ, ◌*◌, ◌≤◌}
use mathlib.Core.Path.{◌≡◌, refl, sym, subst}
use mathlib.Core.Bool.{false, true}
use mathlib.Core.List.{List, [], ◌∷◌}
use lib.ListN.{length}
use lib.Dec.{T}
use Rattle.rules.specs.Pages.{cached, fetching_pages}
use Rattle.rules.specs.Readers.{reader_at, by_condition, attached}
use Rattle.rules.specs.Valid.{Valid}
use Rattle.rules.specs.Run.{fetch_open, run_of}
use Rattle.rules.specs.Schedules.{Set, count, Serves, fetches_in}
use Rattle.rules.specs.Third.{Premises, laid, hit_pages, hit_sets}
use Rattle.rules.proofs.calls.Refusals.{member}
use Rattle.rules.proofs.third.Optimal.{third}
use Rattle.rules.specs.declared.Rule.TheVariants.{Of1989}
use Rattle.rules.specs.declared.State.{State}
use Rattle.rules.specs.declared.Condition.TheVariants.{Empty}
use Rattle.rules.specs.declared.Answer.TheVariants.{Ran}

-- for every state whose image Restore accepts, and every pace w
module _ (s : State) (v : Valid s) (w : ℕ) where
  -- "A reader is attached if its slot is not empty"
  abbrev pub Attached : ℕ → Type 0
  Attached slot = (reader_at s slot).condition ≡ Empty → ⊥

  holds-one : (slot : ℕ) → T (attached (reader_at s slot)) → Attached slot
  holds-one slot a e = subst (λ c. T (by_condition c false true true)) e a

  pub third-in-full : ((slot : ℕ) → Attached slot → (reader_at s slot).pace ≡ w) → s.fetch_time ≡ 0
      → ((slot : ℕ) → Attached slot → w * (reader_at s slot).last ≤ s.look_ahead) → length (fetching_pages s) ≡ 0
      → s.rule ≡ Of1989 → (n : ℕ) → n ≤ 16384
      → (fetches : ℕ) × (reads : ℕ) × ((run_of s n).answer ≡ Ran fetches reads)
      × (hit_pages n s ≡ laid n s) × (reads ≡ length (laid n s))
      × Serves 8192 s.frames (laid n s) (hit_sets n s) × (fetches ≡ fetches_in 8192 (cached s) (hit_sets n s))
      × ((Bs : List Set) → Serves 8192 s.frames (laid n s) Bs → fetches ≤ fetches_in 8192 (cached s) Bs)
  unfolding fetch_open
  third-in-full paces time covers closed rule n most =
      let p : Premises s w = record {
        one_pace = λ j a. paces j (holds-one j a);
        no_time = time;
        covers = λ j a. covers j (holds-one j a);
        none_open = rw closed refl;
        by_1989 = rule;
      } in
      let r = (third s n).best v w p most in
      let b = r.3 in
      (r.0, r.1, r.2, b.reads_laid, b.reads_told, b.own_serves, sym b.own_fetches, b.least)

-- "Another schedule is a list of page sets, one for each of these reads. Each set has the page of its read, and at most as many pages as there are frames"
pub two-reads : (frames x y : ℕ) (A B : Set)
    → Serves 8192 frames (x ∷ y ∷ []) (A ∷ B ∷ []) ≡ (T (A x) × (count 8192 A ≤ frames) × (T (B y) × (count 8192 B ≤ frames) × Unit))
unfolding Serves
two-reads frames x y A B = refl

-- "the number of pages in the read's set that are not in the set before": page 0 is there at the start; 1 and 7, then 2 are fetched
pub two-cost : fetches_in 8 (member (0 ∷ [])) (member (0 ∷ 1 ∷ 7 ∷ []) ∷ member (1 ∷ 2 ∷ []) ∷ []) ≡ 3
unfolding fetches_in count
two-cost = refl
