-- The best of the files' heads is that of the page to give up. Assumes nothing.
use Rattle.std.proofs.Common.{
  ℕ,
  ◌+◌,
  ◌≤◌,
  ◌<◌,
  ◌≡◌,
  ◌∙◌,
  Bool,
  true,
  false,
  List,
  Option,
  None,
  Some,
  T,
  sym,
  ap,
  subst,
  arith,
  get_or,
  set,
  length,
  length-set,
  get_or-set_same,
  get_or-set_other,
}
use Rattle.std.proofs.lemmas.List.{get_or_past}
use native.Mathlib.Decide.{ℕ_discrete, dec_lt}
use borrow.Author.Tests.{eq-eqb, ne_eqb}
use Rattle.rules.specs.Pages.{file_of, cached}
use Rattle.rules.specs.Valid.{Valid}
use Rattle.rules.specs.UseTimes.{never}
use Rattle.rules.specs.Ranks.{rank, cached_among, victim_among}
use Rattle.rules.proofs.laws.Tests.{and_both, and_first, and_second}
use Rattle.rules.proofs.laws.Cases.{passed, failed}
use Rattle.rules.proofs.orders.Distinct.{Stretch, behind, unseen, in_use, stretch, rank-positive, rank-far, head-is, among_none}
use Rattle.rules.specs.declared.State.{State}
use Rattle.uses.specs.declared.Pick.{Pick}
use Rattle.files.specs.Sets.{in_set, NoFile}
use Rattle.files.specs.declared.FileSet.{FileSet}
use Rattle.files.proofs.Sets.{below}
use Rattle.order.specs.Searches.{First}
use Rattle.heads.specs.Heads.{alone, lasting, last_of, HeadIs, known_of, Kept}
use Rattle.heads.specs.declared.Heads.{Heads}
use Rattle.heads.proofs.Keeping.{alone-file, lasting-near, lasting-far}

-- ---- what is kept, with a head more

-- the heads once file f has this one
abbrev pub with_head : Heads → ℕ → Pick → Heads
with_head heads f p = record { known = set heads.known f (Some p) }

-- what is known then of the file is this
just-put : (known : List (Option Pick)) (f : ℕ) (p q : Pick) → get_or (set known f (Some p)) f None ≡ Some q → q ≡ p
just-put known f p q e = by (dec_lt f (length known))
  where
    by : Dec (f < length known) → q ≡ p
    by (yes l) = let same = get_or-set_same known f (Some p) None l in cc
    by (no l) = let past = get_or_past (set known f (Some p)) f None (simp length-set (omega arith)) in cc

-- a head is put
pub kept_put : (s : State) (done f : ℕ) (p : Pick) (heads : Heads) → Kept s done heads → HeadIs s done (alone f) 8 p → Kept s done (with_head heads f p)
kept_put s done f p heads a b = record { each = λ g l q h. by g l q h (ℕ_discrete g f) }
  where
    by : (g : ℕ) → g < 8 → (q : Pick) → known_of (with_head heads f p) g ≡ Some q → Dec (g ≡ f) → HeadIs s done (alone g) 8 q
    by g l q h (yes e) = let same : q ≡ p = just-put heads.known f p q (subst (λ i. known_of (with_head heads f p) i ≡ Some q) e h) in rw (same, e) b
    by g l q h (no e) = a.each g l q (sym (get_or-set_other heads.known f g (Some p) None e) ∙ h)

-- ---- ranks

-- a rank is far below what a word holds
pub first-low : (s : State) → Valid s → (files : ℕ → Bool) (p : Pick) → First s files p → p.value < 200000000
first-low s w files p a = go (dec_lt 0 p.value)
  where
    by : p.key < 8192 → Stretch s p.key → rank s p.key < 200000000
    by l (behind b x) = omega arith
    by l (unseen b n x) = omega arith
    by l (in_use b x m) = omega arith

    go : Dec (0 < p.value) → p.value < 200000000
    go (yes h) =
        let c = a.page.held h in
        omega (arith, a.page.its h, by (w.cached_in p.key (and_first (cached s p.key) _ c)).low (stretch s w p.key))
    go (no h) = omega arith

module _ (s : State) (w : Valid s) (done : ℕ) (few : done ≤ 16384) where
  -- ---- the numbers that stay

  -- one is at least 16
  lasting-least : (k : ℕ) → 16 ≤ lasting done (rank s k)
  lasting-least k = go (dec_lt (rank s k) never)
    where
      go : Dec (rank s k < never) → 16 ≤ lasting done (rank s k)
      go (yes l) = omega (arith, lasting-near done (rank s k) l, rank-positive s w k)
      go (no l) = omega (arith, lasting-far done (rank s k) (omega arith), rank-positive s w k)

  -- they are in the order of the ranks: a use key stays below all others even with the turns of a Run
  lasting-orders : (k i : ℕ) → lasting done (rank s k) ≤ lasting done (rank s i) → rank s k ≤ rank s i
  lasting-orders k i h = go (dec_lt (rank s k) never) (dec_lt (rank s i) never)
    where
      go : Dec (rank s k < never) → Dec (rank s i < never) → rank s k ≤ rank s i
      go (yes a) (yes b) = omega (arith, h, lasting-near done (rank s k) a, lasting-near done (rank s i) b)
      go (yes a) (no b) = omega arith
      go (no a) (yes b) = absurd (omega (arith, h, lasting-far done (rank s k) (omega arith), lasting-near done (rank s i) b, rank-far s w i b))
      go (no a) (no b) = omega (arith, h, lasting-far done (rank s k) (omega arith), lasting-far done (rank s i) (omega arith))

  -- ---- a file's head, as it is found

  head-found : (f : ℕ) (p : Pick) → First s (alone f) p → HeadIs s done (alone f) 8 (last_of done p)
  head-found f p a = go (ℕ_discrete p.value 0)
    where
      go : Dec (p.value ≡ 0) → HeadIs s done (alone f) 8 (last_of done p)
      go (yes e) = rw (eq-eqb p.value 0 e) (record {
        held = λ l. absurd (omega arith);
        its = λ l. absurd (omega arith);
        top = λ k l c. absurd (omega (arith, a.top k c, rank-positive s w k));
      })
      go (no e) =
          let some-page : 0 < p.value = omega arith in
          rw (ne_eqb p.value 0 e) (record {
            held = λ _. a.page.held some-page;
            its = λ _. ap (lasting done) (a.page.its some-page);
            top = λ k l d. up k (a.top k d);
          })
        where
          up : (k : ℕ) → rank s k ≤ p.value → lasting done (rank s k) ≤ lasting done p.value
          up k l = by (dec_lt (rank s k) never) (dec_lt p.value never)
            where
              by : Dec (rank s k < never) → Dec (p.value < never) → lasting done (rank s k) ≤ lasting done p.value
              by (yes x) (yes y) = omega (arith, lasting-near done (rank s k) x, lasting-near done p.value y)
              by (yes x) (no y) =
                  omega (arith, lasting-near done (rank s k) x, lasting-far done p.value (omega arith), rank-far s w k x)
              by (no x) (yes y) = absurd (omega arith)
              by (no x) (no y) = omega (arith, lasting-far done (rank s k) (omega arith), lasting-far done p.value (omega arith))

  -- a set of the file alone is the file's
  first_alone : (f : ℕ) (set : FileSet) (p : Pick) → ((g : ℕ) → g < 8 → in_set set g ≡ alone f g) → First s (in_set set) p → First s (alone f) p
  first_alone f set p e a = record {
    page = record { held = λ h. there p.key (a.page.held h); its = a.page.its };
    top = λ k c. a.top k (back k c);
  }
    where
      low : (k : ℕ) → T (cached s k) → file_of k < 8
      low k c = omega (arith, (w.cached_in k c).low)

      there : (k : ℕ) → T (cached_among (in_set set) s k) → T (cached_among (alone f) s k)
      there k c =
          let h = and_first (cached s k) _ c in
          and_both (cached s k) _ h (subst T (e (file_of k) (low k h)) (and_second (cached s k) _ c))

      back : (k : ℕ) → T (cached_among (alone f) s k) → T (cached_among (in_set set) s k)
      back k c =
          let h = and_first (cached s k) _ c in
          and_both (cached s k) _ h (subst T (sym (e (file_of k) (low k h))) (and_second (cached s k) _ c))

  -- it is put
  pub head-put : (f : ℕ) (set : FileSet) (p q : Pick) (heads : Heads) → ((g : ℕ) → g < 8 → in_set set g ≡ alone f g) → q ≡ last_of done p
      → First s (in_set set) p → Kept s done heads → HeadIs s done (alone f) 8 q × Kept s done (with_head heads f q)
  head-put f set p q heads one e a kept =
      let found : HeadIs s done (alone f) 8 q = rw e (head-found f p (first_alone f set p one a)) in
      (found, kept_put s done f q heads kept found)

  -- ---- the best of the files

  module _ (files : ℕ → Bool) where
    -- a search starts at the first file of the set
    pub best-none : (n : ℕ) → NoFile files 0 n → HeadIs s done files n (record { key = 0; value = 0 })
    best-none n none = record {
      held = λ l. absurd (omega arith);
      its = λ l. absurd (omega arith);
      top = λ k l c. absurd (none (file_of k) (omega arith) l (and_second (cached s k) _ c));
    }

    module _ (n : ℕ) (p : Pick) (a : HeadIs s done files n p) where
      -- the file's pages, of those of the set up to it
      up-to : (x : ℕ) → p.value ≤ x → ((k : ℕ) → file_of k ≡ n → T (cached_among files s k) → lasting done (rank s k) ≤ x)
          → (k : ℕ) → file_of k < n + 1 → T (cached_among files s k) → lasting done (rank s k) ≤ x
      up-to x l here k u c = by (dec_lt (file_of k) n)
        where
          by : Dec (file_of k < n) → lasting done (rank s k) ≤ x
          by (yes m) = omega (arith, a.top k m c)
          by (no m) = here k (omega arith) c

      -- a file more
      module _ (q : Pick) (low : n < 8) (in-set : files n ≡ true) (b : HeadIs s done (alone n) 8 q) where
        here : (k : ℕ) → file_of k ≡ n → T (cached_among files s k) → lasting done (rank s k) ≤ q.value
        here k e c =
            b.top k (omega arith) (and_both (cached s k) _ (and_first (cached s k) _ c) (passed _ (eq-eqb (file_of k) n e)))

        pub best-higher : p.value < q.value → HeadIs s done files (n + 1) q
        best-higher l = record {
          held = λ u.
              let c = b.held u in
              and_both (cached s q.key) _ (and_first (cached s q.key) _ c) (passed _ (ap files (alone-file s n q.key c) ∙ in-set));
          its = b.its;
          top = up-to q.value (omega arith) here;
        }

        pub best-stays : q.value ≤ p.value → HeadIs s done files (n + 1) p
        best-stays l = record { held = a.held; its = a.its; top = up-to p.value (omega arith) (λ k e c. omega (arith, here k e c)) }

      -- one that is not of the set
      pub best-skip : files n ≡ false → HeadIs s done files (n + 1) p
      best-skip e = record {
        held = a.held;
        its = a.its;
        top = up-to p.value (omega arith) (λ k q c. absurd (failed _ e (subst (λ i. T (files i)) q (and_second (cached s k) _ c))));
      }

      -- ---- all files of the set

      module _ (end : ℕ) (past : end ≤ n) (rest : NoFile files end 8) where
        in-all : (k : ℕ) → T (cached_among files s k) → file_of k < n
        in-all k c =
            let low = (w.cached_in k (and_first (cached s k) _ c)).low in
            omega (arith, below files end rest (file_of k) (omega arith) (and_second (cached s k) _ c))

        -- it is that of the page to give up
        pub best-victim : 0 < p.value → victim_among files s ≡ Some p.key
        best-victim some-page =
            head-is s w files p.key (a.held some-page) (λ k c. lasting-orders k p.key (rw (a.its some-page) (a.top k (in-all k c) c)))

        -- no page is there
        pub best-nothing : p.value ≡ 0 → victim_among files s ≡ None
        best-nothing e = (among_none s w files).1 (λ k c. omega (arith, a.top k (in-all k c) c, lasting-least k))
