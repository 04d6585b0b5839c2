-- The file that the 1993 rule chooses (A.6): a search over the files keeps the one with the highest number. Assumes nothing.
use Rattle.std.proofs.Common.{
  ℕ,
  ◌+◌,
  ◌-◌,
  ◌*◌,
  ◌/◌,
  ◌%◌,
  ◌≤◌,
  ◌<◌,
  ◌≡◌,
  ◌∙◌,
  true,
  cond,
  ◌&&◌,
  List,
  Option,
  None,
  Some,
  T,
  ltb,
  eqb,
  refl,
  sym,
  ap,
  subst,
  arith,
  below_more,
}
use lib.Dec.{eqb→eq}
use Rattle.bits.specs.Map.{bit, ones}
use Rattle.bits.proofs.Bits.{bit_le}
use Rattle.bits.proofs.Counts.{ones-add, ones-clear}
use Rattle.rules.specs.Lists.{head}
use Rattle.rules.specs.Pages.{size, file_of, cached as is_cached, Page}
use Rattle.rules.specs.Valid.{Valid}
use Rattle.rules.specs.Orders.{weight_sum, count_of, standing, order1989, victim}
use Rattle.rules.specs.Ranks.{victim_among}
use Rattle.rules.specs.Views.{state_of}
use Rattle.rules.specs.declared.State.{State}
use Rattle.rules.specs.declared.View.{View}
use Rattle.rules.proofs.laws.Tests.{less, key, and_first}
use Rattle.rules.proofs.laws.Members.{all_map, only-alike}
use Rattle.rules.proofs.orders.Weighings.{Low}
use Rattle.rules.proofs.orders.Distinct.{among_none}
use Rattle.rules.proofs.orders.Victims.{low-1989, held-ones, victim-chosen, no-victim}
use Rattle.parts.specs.Held.{Held}
use Rattle.parts.proofs.Carried.{held-some}
use Rattle.files.specs.Sets.{in_set}
use Rattle.files.specs.Leads.{weights_of, Shared, pages_in, number_in, leading, Tops}
use Rattle.files.specs.declared.FileSet.{FileSet}
use Rattle.files.specs.declared.Lead.{Lead}
use Rattle.files.specs.declared.Shares.{Shares}

-- ---- one file after the other

-- the file that leads has this number, and is the top of the first n files; there is none where none of them has cached pages
pub record Leader (s : Shares) (held : List ℕ) (n : ℕ) (p : Lead) : Type 0 where
  pub its : p.number ≡ number_in s p.file (pages_in held p.file)
  pub tops : Tops s held n p.file

abbrev pub Led : Shares → List ℕ → ℕ → Option Lead → Type 0
Led s held n None = (f : ℕ) → f < n → 0 < pages_in held f → ⊥
Led s held n (Some p) = Leader s held n p

module _ (s : Shares) (held : List ℕ) (n : ℕ) (l : n < 8) where
  abbrev number : ℕ
  number = number_in s n (pages_in held n)

  abbrev its_lead : Lead
  its_lead = record { file = n; number = number }

  -- the first file with cached pages leads
  first : 0 < pages_in held n → Led s held n None → Leader s held (n + 1) its_lead
  first k a = record { its = refl; tops = record { low = l; some = k; top = below_more _ _ (λ f m h. absurd (a f m h)) (λ _. omega arith) } }

  -- a file with a higher number leads
  higher : (p : Lead) → 0 < pages_in held n → p.number < number → Leader s held n p → Leader s held (n + 1) its_lead
  higher p k u a = record {
    its = refl;
    tops = record { low = l; some = k; top = below_more _ _ (λ f m h. omega (arith, a.its, u, a.tops.top f m h)) (λ _. omega arith) };
  }

  -- one without cached pages, or with a number that is not higher, changes nothing
  kept : (p : Lead) → (0 < pages_in held n → number ≤ p.number) → Leader s held n p → Leader s held (n + 1) p
  kept p u a = record {
    its = a.its;
    tops = record { low = a.tops.low; some = a.tops.some; top = below_more _ _ a.tops.top (λ k. omega (arith, a.its, u k)) };
  }

  -- one file more
  pub led-more : (p : Option Lead) → Led s held n p → Led s held (n + 1) (leading s n (pages_in held n) p)
  led-more None a =
      less 0 (pages_in held n) (λ t. Led s held (n + 1) (cond (t && true) (Some its_lead) None))
      (λ k. first k a) (λ z. below_more _ _ a (λ k. omega arith))
  led-more (Some p) a =
      less 0 (pages_in held n) (λ t. Led s held (n + 1) (cond (t && ltb p.number number) (Some its_lead) (Some p)))
      (λ k. less p.number number (λ t. Led s held (n + 1) (cond t (Some its_lead) (Some p)))
      (λ u. higher p k u a) (λ u. kept p (λ _. u) a))
      (λ z. kept p (λ k. absurd (omega arith)) a)

-- ---- the page to give up

-- a file's cached pages are those up to its size
whole-file : (s : State) → Valid s → (f : ℕ) → f < 8 → ones s.cached (f * 1024) 1024 ≡ ones s.cached (f * 1024) (size s f)
whole-file s w f l =
    let rest : 1024 ≡ size s f + (1024 - size s f) = omega (arith, w.sizes_high f) in
    let none : ones s.cached (f * 1024 + size s f) (1024 - size s f) ≡ 0 =
    ones-clear s.cached (f * 1024 + size s f) (1024 - size s f) (λ j h. clear (f * 1024 + size s f + j) (omega arith)) in
    ap (ones s.cached (f * 1024)) rest ∙ ones-add s.cached (f * 1024) (size s f) (1024 - size s f) ∙ omega (arith, none)
  where
    clear : (k : ℕ) → (k / 1024 ≡ f) × (size s f ≤ k % 1024) → bit s.cached k ≡ 0
    clear k h =
        key (bit s.cached k) 1 (λ t. (T t → Page s k) → bit s.cached k ≡ 0)
        (λ e p. let there = (p tt).there in
        let q : size s (k / 1024) ≡ size s f = ap (size s) h.0 in
        absurd (omega arith))
        (λ ne _. omega (arith, bit_le s.cached k)) (w.cached_in k)

module _ (v : View) (shares : Shares) (held : List ℕ) (a : Shared v shares) (cached fetching : List ℕ) (w : Valid (state_of v cached fetching))
    (h : Held cached held) where
  abbrev s : State
  s = state_of v cached fetching

  -- it is that of the file chosen
  pub victim-of-one : (file : ℕ) → Tops shares held 8 file → (files : FileSet) → ((f : ℕ) → f < 8 → in_set files f ≡ eqb f file)
      → victim_among (in_set files) s ≡ victim s
  unfolding victim_among
  victim-of-one file tops files one =
      let holds : (f : ℕ) → f < 8 → count_of (order1989 s) f ≡ pages_in held f = λ f l. held-ones s w f l ∙ sym (h.pages f l ∙ whole-file s w f l) in
      let number : ℕ → ℕ → ℕ = λ f n. standing v.frames (weight_sum (weights_of v)) (weights_of v f) f n in
      let same : (f : ℕ) → f < 8 → number_in shares f (pages_in held f) ≡ number f (pages_in held f) =
      λ f l. rw (a.frames_are, a.sum_is, a.weights_are f l) refl in
      ap head (only-alike (λ k. in_set files (file_of k)) (λ k. eqb (file_of k) file) (order1989 s)
      (all_map Low (λ k. in_set files (file_of k) ≡ eqb (file_of k) file) (order1989 s) (λ k l. one (file_of k) (omega arith)) (low-1989 s w)))
      ∙ sym (victim-chosen s w a.by_1993 file tops.low (λ f l m.
      let t = tops.top f l (subst (λ n. 0 < n) (holds f l) m) in (
        subst (λ n. 0 < n) (sym (holds file tops.low)) tops.some,
        rw (holds f l, holds file tops.low) (omega (arith, t, same f l, same file tops.low)),
      )))

  -- where no file has cached pages there is none, of any files
  pub victim-of-none : ((f : ℕ) → f < 8 → 0 < pages_in held f → ⊥) → (files : FileSet) → victim_among (in_set files) s ≡ victim s
  victim-of-none none files =
      (among_none s w (in_set files)).1 (λ k c. free k (and_first (is_cached s k) _ c)) ∙ sym ((no-victim s w).1 free)
    where
      free : (k : ℕ) → T (is_cached s k) → ⊥
      free k c =
          let low = (w.cached_in k c).low in
          none (file_of k) (omega arith) (held-some cached held h k low (omega (arith, w.cached_map.all)) (eqb→eq (bit cached k) 1 c))
